-- Scalar subqueries. Printed by tools/print_runs.py from sq_cases/data/runs-worked.txt.
use Rattle.std.specs.Prelude.{◌≡◌, [], ◌∷◌, ◌++◌, codes, Ok, refl}
use Rattle.sq_meaning.specs.Report.{Bytes}
use Rattle.sq_run.specs.Answer.{answered}
use Rattle.sq_run.specs.Reported.{reported}
use Rattle.sq_run.specs.KitTexts.{schema, first_module, second_module}
use Rattle.sq_run.proofs.Worked.Computed.{computed}

-- ---- subquery of one row

abbrev subquery_of_one_row-script : Bytes
subquery_of_one_row-script =
    codes "CALL M1.INS (1,11,0,'A');\n"
    ++ codes "CALL M1.SUB;\n"
    ++ codes "TABLE U1.T;\n"

subquery_of_one_row : reported (answered (schema ∷ []) (first_module ∷ second_module ∷ []) subquery_of_one_row-script 1000000) ≡ Ok (
    codes "M1.INS 00000 0\n"
    ++ codes "M1.SUB 00000 0\n"
    ++ codes "TABLE U1.T 0\n")
unfolding computed
subquery_of_one_row = refl

-- ---- subquery of more rows

abbrev subquery_of_more_rows-module-1 : Bytes
subquery_of_more_rows-module-1 =
    codes "MODULE Q LANGUAGE C AUTHORIZATION U1\n"
    ++ codes "DECLARE C CURSOR FOR SELECT K FROM T WHERE A = (SELECT A FROM T)\n"
    ++ codes "PROCEDURE O (SQLSTATE); OPEN C;\n"
    ++ codes "PROCEDURE F (SQLSTATE, :X INTEGER, :IX SMALLINT); FETCH C INTO :X :IX;\n"

abbrev subquery_of_more_rows-script : Bytes
subquery_of_more_rows-script =
    codes "CALL M1.INS (1,11,0,'A'); CALL M1.INS (2,0,-1,'A'); CALL M1.INS (3,11,0,'A');\n"
    ++ codes "CALL M1.INN (999999999999999999,0);\n"
    ++ codes "CALL Q.O;\n"

subquery_of_more_rows : reported (answered (schema ∷ []) (first_module ∷ subquery_of_more_rows-module-1 ∷ []) subquery_of_more_rows-script 1000000) ≡ Ok (
    codes "M1.INS 00000 0\n"
    ++ codes "M1.INS 00000 0\n"
    ++ codes "M1.INS 00000 0\n"
    ++ codes "M1.INN 00000 0\n"
    ++ codes "Q.O 21000 -2100\n")
unfolding computed
subquery_of_more_rows = refl
