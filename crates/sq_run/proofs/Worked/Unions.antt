-- UNION and ORDER BY. Printed by tools/print_runs.py from sq_cases/data/runs-worked.txt.
use Rattle.std.specs.Prelude.{◌≡◌, [], ◌∷◌, ◌++◌, codes, Ok, refl}
use Rattle.sq_meaning.specs.Report.{Bytes}
use Rattle.sq_run.specs.Answer.{answered}
use Rattle.sq_run.specs.Reported.{reported}
use Rattle.sq_run.specs.KitTexts.{schema, first_module, second_module}
use Rattle.sq_run.proofs.Worked.Computed.{computed}

-- ---- union in order

abbrev union_in_order-script : Bytes
union_in_order-script =
    codes "CALL M1.INS (1,11,0,'A');\n"
    ++ codes "CALL M1.INS (2,11,0,'A');\n"
    ++ codes "CALL M1.INS (3,0,-1,'A');\n"
    ++ codes "CALL M1.OPU;\n"
    ++ codes "CALL M1.FEU (*,*,*);\n"
    ++ codes "CALL M1.FEU (*,*,*);\n"
    ++ codes "CALL M1.FEU (*,*,*);\n"
    ++ codes "CALL M1.FEU (*,*,*);\n"
    ++ codes "CALL M1.FEU (*,*,*);\n"
    ++ codes "CALL M1.FEU (*,*,*);\n"

union_in_order : reported (answered (schema ∷ []) (first_module ∷ second_module ∷ []) union_in_order-script 1000000) ≡ Ok (
    codes "M1.INS 00000 0\n"
    ++ codes "M1.INS 00000 0\n"
    ++ codes "M1.INS 00000 0\n"
    ++ codes "M1.OPU 00000 0\n"
    ++ codes "M1.FEU 00000 0 A=NULL IA=-1 N=1\n"
    ++ codes "M1.FEU 00000 0 A=1 IA=0 N=0\n"
    ++ codes "M1.FEU 00000 0 A=2 IA=0 N=0\n"
    ++ codes "M1.FEU 00000 0 A=3 IA=0 N=0\n"
    ++ codes "M1.FEU 00000 0 A=11 IA=0 N=2\n"
    ++ codes "M1.FEU 02000 100\n")
unfolding computed
union_in_order = refl

-- ---- union without order

abbrev union_without_order-module-1 : Bytes
union_without_order-module-1 =
    codes "MODULE Q LANGUAGE C AUTHORIZATION U1\n"
    ++ codes "DECLARE C CURSOR FOR SELECT A, COUNT(*) FROM T GROUP BY A UNION SELECT K, 0 FROM T\n"
    ++ codes "PROCEDURE O (SQLSTATE); OPEN C;\n"
    ++ codes "PROCEDURE F (SQLSTATE, :X INTEGER, :IX SMALLINT, :Y INTEGER, :IY SMALLINT); FETCH C INTO :X :IX, :Y :IY;\n"

abbrev union_without_order-script : Bytes
union_without_order-script =
    codes "CALL M1.INS (1,11,0,'A'); CALL M1.INS (2,0,-1,'A'); CALL M1.INS (3,11,0,'A');\n"
    ++ codes "CALL M1.INN (999999999999999999,0);\n"
    ++ codes "CALL Q.O;\n"
    ++ codes "CALL Q.F (*,*,*,*);\n"
    ++ codes "CALL Q.F (*,*,*,*);\n"
    ++ codes "CALL Q.F (*,*,*,*);\n"
    ++ codes "CALL Q.F (*,*,*,*);\n"
    ++ codes "CALL Q.F (*,*,*,*);\n"
    ++ codes "CALL Q.F (*,*,*,*);\n"

union_without_order : reported (answered (schema ∷ []) (first_module ∷ union_without_order-module-1 ∷ []) union_without_order-script 1000000) ≡ Ok (
    codes "M1.INS 00000 0\n"
    ++ codes "M1.INS 00000 0\n"
    ++ codes "M1.INS 00000 0\n"
    ++ codes "M1.INN 00000 0\n"
    ++ codes "Q.O 00000 0\n"
    ++ codes "Q.F 00000 0 X=11 IX=0 Y=2 IY=0\n"
    ++ codes "Q.F 00000 0 X=NULL IX=-1 Y=1 IY=0\n"
    ++ codes "Q.F 00000 0 X=1 IX=0 Y=0 IY=0\n"
    ++ codes "Q.F 00000 0 X=2 IX=0 Y=0 IY=0\n"
    ++ codes "Q.F 00000 0 X=3 IX=0 Y=0 IY=0\n"
    ++ codes "Q.F 02000 100\n")
unfolding computed
union_without_order = refl

-- ---- union with common scale

abbrev union_with_common_scale-module-1 : Bytes
union_with_common_scale-module-1 =
    codes "MODULE Q LANGUAGE C AUTHORIZATION U1\n"
    ++ codes "DECLARE C CURSOR FOR SELECT 1 FROM N UNION SELECT 1.00 FROM N\n"
    ++ codes "PROCEDURE O (SQLSTATE); OPEN C;\n"
    ++ codes "PROCEDURE F (SQLSTATE, :X NUMERIC(5,2), :IX SMALLINT); FETCH C INTO :X :IX;\n"

abbrev union_with_common_scale-script : Bytes
union_with_common_scale-script =
    codes "CALL M1.INS (1,11,0,'A'); CALL M1.INS (2,0,-1,'A'); CALL M1.INS (3,11,0,'A');\n"
    ++ codes "CALL M1.INN (999999999999999999,0);\n"
    ++ codes "CALL Q.O;\n"
    ++ codes "CALL Q.F (*,*);\n"
    ++ codes "CALL Q.F (*,*);\n"

union_with_common_scale : reported (answered (schema ∷ []) (first_module ∷ union_with_common_scale-module-1 ∷ []) union_with_common_scale-script 1000000) ≡ Ok (
    codes "M1.INS 00000 0\n"
    ++ codes "M1.INS 00000 0\n"
    ++ codes "M1.INS 00000 0\n"
    ++ codes "M1.INN 00000 0\n"
    ++ codes "Q.O 00000 0\n"
    ++ codes "Q.F 00000 0 X=1.00 IX=0\n"
    ++ codes "Q.F 02000 100\n")
unfolding computed
union_with_common_scale = refl

-- ---- union all with common scale

abbrev union_all_with_common_scale-module-1 : Bytes
union_all_with_common_scale-module-1 =
    codes "MODULE Q LANGUAGE C AUTHORIZATION U1\n"
    ++ codes "DECLARE C CURSOR FOR SELECT 1 FROM N UNION ALL SELECT 1.00 FROM N\n"
    ++ codes "PROCEDURE O (SQLSTATE); OPEN C;\n"
    ++ codes "PROCEDURE F (SQLSTATE, :X NUMERIC(5,2), :IX SMALLINT); FETCH C INTO :X :IX;\n"

abbrev union_all_with_common_scale-script : Bytes
union_all_with_common_scale-script =
    codes "CALL M1.INS (1,11,0,'A'); CALL M1.INS (2,0,-1,'A'); CALL M1.INS (3,11,0,'A');\n"
    ++ codes "CALL M1.INN (999999999999999999,0);\n"
    ++ codes "CALL Q.O;\n"
    ++ codes "CALL Q.F (*,*);\n"
    ++ codes "CALL Q.F (*,*);\n"
    ++ codes "CALL Q.F (*,*);\n"

union_all_with_common_scale : reported (answered (schema ∷ []) (first_module ∷ union_all_with_common_scale-module-1 ∷ []) union_all_with_common_scale-script 1000000) ≡ Ok (
    codes "M1.INS 00000 0\n"
    ++ codes "M1.INS 00000 0\n"
    ++ codes "M1.INS 00000 0\n"
    ++ codes "M1.INN 00000 0\n"
    ++ codes "Q.O 00000 0\n"
    ++ codes "Q.F 00000 0 X=1.00 IX=0\n"
    ++ codes "Q.F 00000 0 X=1.00 IX=0\n"
    ++ codes "Q.F 02000 100\n")
unfolding computed
union_all_with_common_scale = refl

-- ---- union out of range

abbrev union_out_of_range-module-1 : Bytes
union_out_of_range-module-1 =
    codes "MODULE Q LANGUAGE C AUTHORIZATION U1\n"
    ++ codes "DECLARE C CURSOR FOR SELECT X FROM N UNION ALL SELECT 0.5 FROM N\n"
    ++ codes "PROCEDURE O (SQLSTATE); OPEN C;\n"
    ++ codes "PROCEDURE F (SQLSTATE, :X NUMERIC(5,2), :IX SMALLINT); FETCH C INTO :X :IX;\n"

abbrev union_out_of_range-script : Bytes
union_out_of_range-script =
    codes "CALL M1.INS (1,11,0,'A'); CALL M1.INS (2,0,-1,'A'); CALL M1.INS (3,11,0,'A');\n"
    ++ codes "CALL M1.INN (999999999999999999,0);\n"
    ++ codes "CALL Q.O;\n"

union_out_of_range : reported (answered (schema ∷ []) (first_module ∷ union_out_of_range-module-1 ∷ []) union_out_of_range-script 1000000) ≡ Ok (
    codes "M1.INS 00000 0\n"
    ++ codes "M1.INS 00000 0\n"
    ++ codes "M1.INS 00000 0\n"
    ++ codes "M1.INN 00000 0\n"
    ++ codes "Q.O 22003 -2203\n")
unfolding computed
union_out_of_range = refl
