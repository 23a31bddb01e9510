-- Statements that are not well formed. Printed by tools/print_runs.py from sq_cases/data/runs-worked.txt.
use Rattle.std.specs.Prelude.{◌≡◌, [], ◌∷◌, ◌++◌, codes, Ok, refl}
use Rattle.sq_meaning.specs.Report.{Bytes}
use Rattle.sq_run.specs.Answer.{answered}
use Rattle.sq_run.specs.Reported.{reported}
use Rattle.sq_run.specs.KitTexts.{schema}
use Rattle.sq_run.proofs.Worked.Computed.{computed}

-- ---- unknown table

abbrev unknown_table-module-0 : Bytes
unknown_table-module-0 =
    codes "MODULE B LANGUAGE C AUTHORIZATION U1\n"
    ++ codes "PROCEDURE P (SQLSTATE);\n"
    ++ codes "  DELETE FROM Z;\n"

abbrev unknown_table-script : Bytes
unknown_table-script =
    codes "CALL B.P;"

unknown_table : reported (answered (schema ∷ []) (unknown_table-module-0 ∷ []) unknown_table-script 1000000) ≡ Ok (
    codes "B.P 42000 -4200\n")
unfolding computed
unknown_table = refl

-- ---- unknown column

abbrev unknown_column-module-0 : Bytes
unknown_column-module-0 =
    codes "MODULE B LANGUAGE C AUTHORIZATION U1\n"
    ++ codes "PROCEDURE P (SQLSTATE);\n"
    ++ codes "  UPDATE T SET B = 1;\n"

abbrev unknown_column-script : Bytes
unknown_column-script =
    codes "CALL B.P;"

unknown_column : reported (answered (schema ∷ []) (unknown_column-module-0 ∷ []) unknown_column-script 1000000) ≡ Ok (
    codes "B.P 42000 -4200\n")
unfolding computed
unknown_column = refl

-- ---- one table twice in from

abbrev one_table_twice_in_from-module-0 : Bytes
one_table_twice_in_from-module-0 =
    codes "MODULE B LANGUAGE C AUTHORIZATION U1\n"
    ++ codes "PROCEDURE P (SQLSTATE);\n"
    ++ codes "  DELETE FROM T WHERE EXISTS (SELECT K FROM T, T);\n"

abbrev one_table_twice_in_from-script : Bytes
one_table_twice_in_from-script =
    codes "CALL B.P;"

one_table_twice_in_from : reported (answered (schema ∷ []) (one_table_twice_in_from-module-0 ∷ []) one_table_twice_in_from-script 1000000) ≡ Ok (
    codes "B.P 42000 -4200\n")
unfolding computed
one_table_twice_in_from = refl

-- ---- text against number

abbrev text_against_number-module-0 : Bytes
text_against_number-module-0 =
    codes "MODULE B LANGUAGE C AUTHORIZATION U1\n"
    ++ codes "PROCEDURE P (SQLSTATE);\n"
    ++ codes "  DELETE FROM T WHERE C > 1;\n"

abbrev text_against_number-script : Bytes
text_against_number-script =
    codes "CALL B.P;"

text_against_number : reported (answered (schema ∷ []) (text_against_number-module-0 ∷ []) text_against_number-script 1000000) ≡ Ok (
    codes "B.P 42000 -4200\n")
unfolding computed
text_against_number = refl

-- ---- scale above 18

abbrev scale_above_18-module-0 : Bytes
scale_above_18-module-0 =
    codes "MODULE B LANGUAGE C AUTHORIZATION U1\n"
    ++ codes "PROCEDURE P (SQLSTATE);\n"
    ++ codes "  DELETE FROM N WHERE 0.0000000001 * 0.000000001 = X;\n"

abbrev scale_above_18-script : Bytes
scale_above_18-script =
    codes "CALL B.P;"

scale_above_18 : reported (answered (schema ∷ []) (scale_above_18-module-0 ∷ []) scale_above_18-script 1000000) ≡ Ok (
    codes "B.P 42000 -4200\n")
unfolding computed
scale_above_18 = refl

-- ---- set function in where

abbrev set_function_in_where-module-0 : Bytes
set_function_in_where-module-0 =
    codes "MODULE B LANGUAGE C AUTHORIZATION U1\n"
    ++ codes "PROCEDURE P (SQLSTATE);\n"
    ++ codes "  DELETE FROM T WHERE COUNT(*) > 0;\n"

abbrev set_function_in_where-script : Bytes
set_function_in_where-script =
    codes "CALL B.P;"

set_function_in_where : reported (answered (schema ∷ []) (set_function_in_where-module-0 ∷ []) set_function_in_where-script 1000000) ≡ Ok (
    codes "B.P 42000 -4200\n")
unfolding computed
set_function_in_where = refl

-- ---- too few values

abbrev too_few_values-module-0 : Bytes
too_few_values-module-0 =
    codes "MODULE B LANGUAGE C AUTHORIZATION U1\n"
    ++ codes "PROCEDURE P (SQLSTATE);\n"
    ++ codes "  INSERT INTO T VALUES (1, 2);\n"

abbrev too_few_values-script : Bytes
too_few_values-script =
    codes "CALL B.P;"

too_few_values : reported (answered (schema ∷ []) (too_few_values-module-0 ∷ []) too_few_values-script 1000000) ≡ Ok (
    codes "B.P 42000 -4200\n")
unfolding computed
too_few_values = refl

-- ---- unknown parameter

abbrev unknown_parameter-module-0 : Bytes
unknown_parameter-module-0 =
    codes "MODULE B LANGUAGE C AUTHORIZATION U1\n"
    ++ codes "PROCEDURE P (SQLSTATE);\n"
    ++ codes "  DELETE FROM T WHERE A = :Z;\n"

abbrev unknown_parameter-script : Bytes
unknown_parameter-script =
    codes "CALL B.P;"

unknown_parameter : reported (answered (schema ∷ []) (unknown_parameter-module-0 ∷ []) unknown_parameter-script 1000000) ≡ Ok (
    codes "B.P 42000 -4200\n")
unfolding computed
unknown_parameter = refl

-- ---- column set twice

abbrev column_set_twice-module-0 : Bytes
column_set_twice-module-0 =
    codes "MODULE B LANGUAGE C AUTHORIZATION U1\n"
    ++ codes "PROCEDURE P (SQLSTATE);\n"
    ++ codes "  UPDATE T SET A = 1, A = 2;\n"

abbrev column_set_twice-script : Bytes
column_set_twice-script =
    codes "CALL B.P;"

column_set_twice : reported (answered (schema ∷ []) (column_set_twice-module-0 ∷ []) column_set_twice-script 1000000) ≡ Ok (
    codes "B.P 42000 -4200\n")
unfolding computed
column_set_twice = refl

-- ---- column outside of groups

abbrev column_outside_of_groups-module-0 : Bytes
column_outside_of_groups-module-0 =
    codes "MODULE B LANGUAGE C AUTHORIZATION U1\n"
    ++ codes "PROCEDURE P (SQLSTATE, :A INTEGER, :N INTEGER);\n"
    ++ codes "  SELECT A, COUNT(*) INTO :A, :N FROM T;\n"

abbrev column_outside_of_groups-script : Bytes
column_outside_of_groups-script =
    codes "CALL B.P (*,*);"

column_outside_of_groups : reported (answered (schema ∷ []) (column_outside_of_groups-module-0 ∷ []) column_outside_of_groups-script 1000000) ≡ Ok (
    codes "B.P 42000 -4200\n")
unfolding computed
column_outside_of_groups = refl
