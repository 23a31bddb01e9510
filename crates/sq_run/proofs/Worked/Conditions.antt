-- Search conditions and subqueries. Printed by tools/print_runs.py from sq_cases/data/runs-worked.txt.
use Rattle.std.specs.Prelude.{◌≡◌, [], ◌∷◌, ◌++◌, codes, Ok, refl}
use Rattle.sq_meaning.specs.Report.{Bytes}
use Rattle.sq_run.specs.Answer.{answered}
use Rattle.sq_run.specs.Reported.{reported}
use Rattle.sq_run.specs.KitTexts.{schema, first_module, second_module}
use Rattle.sq_run.proofs.Worked.Computed.{computed}

-- ---- other conditions see chosen rows only

abbrev other_conditions_see_chosen_rows_only-script : Bytes
other_conditions_see_chosen_rows_only-script =
    codes "CALL M1.INS (4,0,0,'A');\n"
    ++ codes "CALL M1.INS (5,1,0,'B');\n"
    ++ codes "CALL M1.DDV (5,0);\n"
    ++ codes "TABLE U1.T;\n"

other_conditions_see_chosen_rows_only : reported (answered (schema ∷ []) (first_module ∷ second_module ∷ []) other_conditions_see_chosen_rows_only-script 1000000) ≡ Ok (
    codes "M1.INS 00000 0\n"
    ++ codes "M1.INS 00000 0\n"
    ++ codes "M1.DDV 00000 0\n"
    ++ codes "TABLE U1.T 1\n"
    ++ codes "  4 0 'A    '\n")
unfolding computed
other_conditions_see_chosen_rows_only = refl

-- ---- null key tests every row

abbrev null_key_tests_every_row-script : Bytes
null_key_tests_every_row-script =
    codes "CALL M1.INS (4,0,0,'A');\n"
    ++ codes "CALL M1.INS (5,1,0,'B');\n"
    ++ codes "CALL M1.DDV (5,-1);\n"
    ++ codes "TABLE U1.T;\n"

null_key_tests_every_row : reported (answered (schema ∷ []) (first_module ∷ second_module ∷ []) null_key_tests_every_row-script 1000000) ≡ Ok (
    codes "M1.INS 00000 0\n"
    ++ codes "M1.INS 00000 0\n"
    ++ codes "M1.DDV 22012 -2212\n"
    ++ codes "TABLE U1.T 2\n"
    ++ codes "  4 0 'A    '\n"
    ++ codes "  5 1 'B    '\n")
unfolding computed
null_key_tests_every_row = refl

-- ---- not in a list with null

abbrev not_in_a_list_with_null-script : Bytes
not_in_a_list_with_null-script =
    codes "CALL M1.INS (1,0,-1,'A');\n"
    ++ codes "CALL M1.INS (2,5,0,'B');\n"
    ++ codes "CALL M1.NIN;\n"

not_in_a_list_with_null : reported (answered (schema ∷ []) (first_module ∷ second_module ∷ []) not_in_a_list_with_null-script 1000000) ≡ Ok (
    codes "M1.INS 00000 0\n"
    ++ codes "M1.INS 00000 0\n"
    ++ codes "M1.NIN 02000 100\n")
unfolding computed
not_in_a_list_with_null = refl

-- ---- not in an empty subquery

abbrev not_in_an_empty_subquery-module-1 : Bytes
not_in_an_empty_subquery-module-1 =
    codes "MODULE Q LANGUAGE C AUTHORIZATION U1\n"
    ++ codes "DECLARE C CURSOR FOR SELECT K FROM T WHERE A NOT IN (SELECT I FROM N WHERE X = 0)\n"
    ++ codes "PROCEDURE O (SQLSTATE); OPEN C;\n"
    ++ codes "PROCEDURE F (SQLSTATE, :X INTEGER, :IX SMALLINT); FETCH C INTO :X :IX;\n"

abbrev not_in_an_empty_subquery-script : Bytes
not_in_an_empty_subquery-script =
    codes "CALL M1.INS (1,11,0,'A'); CALL M1.INS (2,0,-1,'A'); CALL M1.INS (3,11,0,'A');\n"
    ++ codes "CALL M1.INN (999999999999999999,0);\n"
    ++ codes "CALL Q.O;\n"
    ++ codes "CALL Q.F (*,*);\n"
    ++ codes "CALL Q.F (*,*);\n"
    ++ codes "CALL Q.F (*,*);\n"
    ++ codes "CALL Q.F (*,*);\n"

not_in_an_empty_subquery : reported (answered (schema ∷ []) (first_module ∷ not_in_an_empty_subquery-module-1 ∷ []) not_in_an_empty_subquery-script 1000000) ≡ Ok (
    codes "M1.INS 00000 0\n"
    ++ codes "M1.INS 00000 0\n"
    ++ codes "M1.INS 00000 0\n"
    ++ codes "M1.INN 00000 0\n"
    ++ codes "Q.O 00000 0\n"
    ++ codes "Q.F 00000 0 X=1 IX=0\n"
    ++ codes "Q.F 00000 0 X=2 IX=0\n"
    ++ codes "Q.F 00000 0 X=3 IX=0\n"
    ++ codes "Q.F 02000 100\n")
unfolding computed
not_in_an_empty_subquery = refl

-- ---- correlated exists

abbrev correlated_exists-module-1 : Bytes
correlated_exists-module-1 =
    codes "MODULE Q LANGUAGE C AUTHORIZATION U1\n"
    ++ codes "DECLARE C CURSOR FOR SELECT K FROM T P WHERE EXISTS (SELECT K FROM T WHERE A = P.A AND K < P.K)\n"
    ++ codes "PROCEDURE O (SQLSTATE); OPEN C;\n"
    ++ codes "PROCEDURE F (SQLSTATE, :X INTEGER, :IX SMALLINT); FETCH C INTO :X :IX;\n"

abbrev correlated_exists-script : Bytes
correlated_exists-script =
    codes "CALL M1.INS (1,11,0,'A'); CALL M1.INS (2,0,-1,'A'); CALL M1.INS (3,11,0,'A');\n"
    ++ codes "CALL M1.INN (999999999999999999,0);\n"
    ++ codes "CALL Q.O;\n"
    ++ codes "CALL Q.F (*,*);\n"
    ++ codes "CALL Q.F (*,*);\n"

correlated_exists : reported (answered (schema ∷ []) (first_module ∷ correlated_exists-module-1 ∷ []) correlated_exists-script 1000000) ≡ Ok (
    codes "M1.INS 00000 0\n"
    ++ codes "M1.INS 00000 0\n"
    ++ codes "M1.INS 00000 0\n"
    ++ codes "M1.INN 00000 0\n"
    ++ codes "Q.O 00000 0\n"
    ++ codes "Q.F 00000 0 X=3 IX=0\n"
    ++ codes "Q.F 02000 100\n")
unfolding computed
correlated_exists = refl

-- ---- pairs of one table

abbrev pairs_of_one_table-module-1 : Bytes
pairs_of_one_table-module-1 =
    codes "MODULE Q LANGUAGE C AUTHORIZATION U1\n"
    ++ codes "DECLARE C CURSOR FOR SELECT P.K, Q.K FROM T P, T Q WHERE P.K < Q.K\n"
    ++ codes "PROCEDURE O (SQLSTATE); OPEN C;\n"
    ++ codes "PROCEDURE F (SQLSTATE, :X INTEGER, :IX SMALLINT, :Y INTEGER, :IY SMALLINT); FETCH C INTO :X :IX, :Y :IY;\n"

abbrev pairs_of_one_table-script : Bytes
pairs_of_one_table-script =
    codes "CALL M1.INS (1,11,0,'A'); CALL M1.INS (2,0,-1,'A'); CALL M1.INS (3,11,0,'A');\n"
    ++ codes "CALL M1.INN (999999999999999999,0);\n"
    ++ codes "CALL Q.O;\n"
    ++ codes "CALL Q.F (*,*,*,*);\n"
    ++ codes "CALL Q.F (*,*,*,*);\n"
    ++ codes "CALL Q.F (*,*,*,*);\n"
    ++ codes "CALL Q.F (*,*,*,*);\n"

pairs_of_one_table : reported (answered (schema ∷ []) (first_module ∷ pairs_of_one_table-module-1 ∷ []) pairs_of_one_table-script 1000000) ≡ Ok (
    codes "M1.INS 00000 0\n"
    ++ codes "M1.INS 00000 0\n"
    ++ codes "M1.INS 00000 0\n"
    ++ codes "M1.INN 00000 0\n"
    ++ codes "Q.O 00000 0\n"
    ++ codes "Q.F 00000 0 X=1 IX=0 Y=2 IY=0\n"
    ++ codes "Q.F 00000 0 X=1 IX=0 Y=3 IY=0\n"
    ++ codes "Q.F 00000 0 X=2 IX=0 Y=3 IY=0\n"
    ++ codes "Q.F 02000 100\n")
unfolding computed
pairs_of_one_table = refl
