-- Set functions and groups. Printed by tools/print_runs.py from sq_cases/data/runs-worked.txt.
use Rattle.std.specs.Prelude.{◌≡◌, [], ◌∷◌, ◌++◌, codes, Ok, refl}
use Rattle.sq_meaning.specs.Report.{Bytes}
use Rattle.sq_run.specs.Answer.{answered}
use Rattle.sq_run.specs.Reported.{reported}
use Rattle.sq_run.specs.KitTexts.{schema, first_module, second_module}
use Rattle.sq_run.proofs.Worked.Computed.{computed}

-- ---- set functions of no rows

abbrev set_functions_of_no_rows-script : Bytes
set_functions_of_no_rows-script =
    codes "CALL M1.AGG (*,*,*);\n"
    ++ codes "CALL M1.AGX (*,*);\n"

set_functions_of_no_rows : reported (answered (schema ∷ []) (first_module ∷ second_module ∷ []) set_functions_of_no_rows-script 1000000) ≡ Ok (
    codes "M1.AGG 00000 0 N=0 S=NULL S1=-1\n"
    ++ codes "M1.AGX 22002 -2202\n")
unfolding computed
set_functions_of_no_rows = refl

-- ---- extremes and mean

abbrev extremes_and_mean-script : Bytes
extremes_and_mean-script =
    codes "CALL M1.INS (1,11,0,'A');\n"
    ++ codes "CALL M1.INS (2,12,0,'A');\n"
    ++ codes "CALL M1.INS (3,0,-1,'A');\n"
    ++ codes "CALL M1.STA (*,*,*);\n"

extremes_and_mean : reported (answered (schema ∷ []) (first_module ∷ second_module ∷ []) extremes_and_mean-script 1000000) ≡ Ok (
    codes "M1.INS 00000 0\n"
    ++ codes "M1.INS 00000 0\n"
    ++ codes "M1.INS 00000 0\n"
    ++ codes "M1.STA 00000 0 V=11 L=11 G=12\n")
unfolding computed
extremes_and_mean = refl

-- ---- greatest of no rows

abbrev greatest_of_no_rows-module-1 : Bytes
greatest_of_no_rows-module-1 =
    codes "MODULE Q LANGUAGE C AUTHORIZATION U1\n"
    ++ codes "DECLARE C CURSOR FOR SELECT MAX(A) FROM T WHERE K > 9\n"
    ++ codes "PROCEDURE O (SQLSTATE); OPEN C;\n"
    ++ codes "PROCEDURE F (SQLSTATE, :X INTEGER, :IX SMALLINT); FETCH C INTO :X :IX;\n"

abbrev greatest_of_no_rows-script : Bytes
greatest_of_no_rows-script =
    codes "CALL M1.INS (1,11,0,'A'); CALL M1.INS (2,0,-1,'A'); CALL M1.INS (3,11,0,'A');\n"
    ++ codes "CALL M1.INN (999999999999999999,0);\n"
    ++ codes "CALL Q.O;\n"
    ++ codes "CALL Q.F (*,*);\n"
    ++ codes "CALL Q.F (*,*);\n"

greatest_of_no_rows : reported (answered (schema ∷ []) (first_module ∷ greatest_of_no_rows-module-1 ∷ []) greatest_of_no_rows-script 1000000) ≡ Ok (
    codes "M1.INS 00000 0\n"
    ++ codes "M1.INS 00000 0\n"
    ++ codes "M1.INS 00000 0\n"
    ++ codes "M1.INN 00000 0\n"
    ++ codes "Q.O 00000 0\n"
    ++ codes "Q.F 00000 0 X=NULL IX=-1\n"
    ++ codes "Q.F 02000 100\n")
unfolding computed
greatest_of_no_rows = refl

-- ---- having without rows

abbrev having_without_rows-module-1 : Bytes
having_without_rows-module-1 =
    codes "MODULE Q LANGUAGE C AUTHORIZATION U1\n"
    ++ codes "DECLARE C CURSOR FOR SELECT COUNT(*) FROM T WHERE K > 9 HAVING COUNT(*) > 0\n"
    ++ codes "PROCEDURE O (SQLSTATE); OPEN C;\n"
    ++ codes "PROCEDURE F (SQLSTATE, :X INTEGER, :IX SMALLINT); FETCH C INTO :X :IX;\n"

abbrev having_without_rows-script : Bytes
having_without_rows-script =
    codes "CALL M1.INS (1,11,0,'A'); CALL M1.INS (2,0,-1,'A'); CALL M1.INS (3,11,0,'A');\n"
    ++ codes "CALL M1.INN (999999999999999999,0);\n"
    ++ codes "CALL Q.O;\n"
    ++ codes "CALL Q.F (*,*);\n"

having_without_rows : reported (answered (schema ∷ []) (first_module ∷ having_without_rows-module-1 ∷ []) having_without_rows-script 1000000) ≡ Ok (
    codes "M1.INS 00000 0\n"
    ++ codes "M1.INS 00000 0\n"
    ++ codes "M1.INS 00000 0\n"
    ++ codes "M1.INN 00000 0\n"
    ++ codes "Q.O 00000 0\n"
    ++ codes "Q.F 02000 100\n")
unfolding computed
having_without_rows = refl

-- ---- groups in order of their first row

abbrev groups_in_order_of_their_first_row-module-1 : Bytes
groups_in_order_of_their_first_row-module-1 =
    codes "MODULE Q LANGUAGE C AUTHORIZATION U1\n"
    ++ codes "DECLARE C CURSOR FOR SELECT A, COUNT(*) FROM T GROUP BY A\n"
    ++ codes "PROCEDURE O (SQLSTATE); OPEN C;\n"
    ++ codes "PROCEDURE F (SQLSTATE, :X INTEGER, :IX SMALLINT, :Y INTEGER, :IY SMALLINT); FETCH C INTO :X :IX, :Y :IY;\n"

abbrev groups_in_order_of_their_first_row-script : Bytes
groups_in_order_of_their_first_row-script =
    codes "CALL M1.INS (1,11,0,'A'); CALL M1.INS (2,0,-1,'A'); CALL M1.INS (3,11,0,'A');\n"
    ++ codes "CALL M1.INN (999999999999999999,0);\n"
    ++ codes "CALL Q.O;\n"
    ++ codes "CALL Q.F (*,*,*,*);\n"
    ++ codes "CALL Q.F (*,*,*,*);\n"
    ++ codes "CALL Q.F (*,*,*,*);\n"

groups_in_order_of_their_first_row : reported (answered (schema ∷ []) (first_module ∷ groups_in_order_of_their_first_row-module-1 ∷ []) groups_in_order_of_their_first_row-script 1000000) ≡ Ok (
    codes "M1.INS 00000 0\n"
    ++ codes "M1.INS 00000 0\n"
    ++ codes "M1.INS 00000 0\n"
    ++ codes "M1.INN 00000 0\n"
    ++ codes "Q.O 00000 0\n"
    ++ codes "Q.F 00000 0 X=11 IX=0 Y=2 IY=0\n"
    ++ codes "Q.F 00000 0 X=NULL IX=-1 Y=1 IY=0\n"
    ++ codes "Q.F 02000 100\n")
unfolding computed
groups_in_order_of_their_first_row = refl
