-- Texts that are taken, with nothing to report. Printed by tools/print_runs.py from
-- sq_cases/data/runs-worked.txt.
use Rattle.std.specs.Prelude.{◌≡◌, [], ◌∷◌, ◌++◌, codes, Ok, refl}
use Rattle.sq_meaning.specs.Report.{Bytes}
use Rattle.sq_run.specs.Answer.{answered}
use Rattle.sq_run.specs.Reported.{reported}
use Rattle.sq_run.specs.KitTexts.{schema, first_module, second_module}
use Rattle.sq_run.proofs.Worked.Computed.{computed}

-- ---- taken whole

abbrev taken_whole-script : Bytes
taken_whole-script =
    []

taken_whole : reported (answered (schema ∷ []) (first_module ∷ second_module ∷ []) taken_whole-script 1000000) ≡ Ok (
    [])
unfolding computed
taken_whole = refl

-- ---- empty script

abbrev empty_script-schema-0 : Bytes
empty_script-schema-0 =
    codes "CREATE SCHEMA AUTHORIZATION U CREATE TABLE D (A INTEGER, B INTEGER)"

abbrev empty_script-module-0 : Bytes
empty_script-module-0 =
    codes "MODULE M LANGUAGE C AUTHORIZATION U\n"
    ++ codes "DECLARE X CURSOR FOR SELECT A, B FROM D\n"
    ++ codes "PROCEDURE ADDROW (SQLCODE, :A INTEGER, :B INTEGER); INSERT INTO D VALUES (:A, :B);\n"
    ++ codes "PROCEDURE OPX (SQLCODE); OPEN X;\n"
    ++ codes "PROCEDURE NEXTROW (SQLCODE, :A INTEGER, :B INTEGER); FETCH X INTO :A, :B;\n"
    ++ codes "PROCEDURE CLX (SQLCODE); CLOSE X;\n"

abbrev empty_script-script : Bytes
empty_script-script =
    []

empty_script : reported (answered (empty_script-schema-0 ∷ []) (empty_script-module-0 ∷ []) empty_script-script 1000000) ≡ Ok (
    [])
unfolding computed
empty_script = refl

-- ---- brackets as deep as allowed

abbrev brackets_as_deep_as_allowed-schema-0 : Bytes
brackets_as_deep_as_allowed-schema-0 =
    codes "CREATE SCHEMA AUTHORIZATION U CREATE TABLE D (A INTEGER, B INTEGER)"

abbrev brackets_as_deep_as_allowed-module-0 : Bytes
brackets_as_deep_as_allowed-module-0 =
    codes "MODULE M LANGUAGE C AUTHORIZATION U\n"
    ++ codes "PROCEDURE P (SQLCODE); DELETE FROM D WHERE ((((((((((((((((((((((((((((((((A = 1))))))))))))))))))))))))))))))));"

abbrev brackets_as_deep_as_allowed-script : Bytes
brackets_as_deep_as_allowed-script =
    []

brackets_as_deep_as_allowed : reported (answered (brackets_as_deep_as_allowed-schema-0 ∷ []) (brackets_as_deep_as_allowed-module-0 ∷ []) brackets_as_deep_as_allowed-script 1000000) ≡ Ok (
    [])
unfolding computed
brackets_as_deep_as_allowed = refl

-- ---- bracketed expression in a test

abbrev bracketed_expression_in_a_test-schema-0 : Bytes
bracketed_expression_in_a_test-schema-0 =
    codes "CREATE SCHEMA AUTHORIZATION U CREATE TABLE D (A INTEGER, B INTEGER)"

abbrev bracketed_expression_in_a_test-module-0 : Bytes
bracketed_expression_in_a_test-module-0 =
    codes "MODULE M LANGUAGE C AUTHORIZATION U\n"
    ++ codes "PROCEDURE P (SQLCODE); DELETE FROM D WHERE ((A)) = 1;"

abbrev bracketed_expression_in_a_test-script : Bytes
bracketed_expression_in_a_test-script =
    []

bracketed_expression_in_a_test : reported (answered (bracketed_expression_in_a_test-schema-0 ∷ []) (bracketed_expression_in_a_test-module-0 ∷ []) bracketed_expression_in_a_test-script 1000000) ≡ Ok (
    [])
unfolding computed
bracketed_expression_in_a_test = refl

-- ---- bracketed test

abbrev bracketed_test-schema-0 : Bytes
bracketed_test-schema-0 =
    codes "CREATE SCHEMA AUTHORIZATION U CREATE TABLE D (A INTEGER, B INTEGER)"

abbrev bracketed_test-module-0 : Bytes
bracketed_test-module-0 =
    codes "MODULE M LANGUAGE C AUTHORIZATION U\n"
    ++ codes "PROCEDURE P (SQLCODE); DELETE FROM D WHERE ((A) = 1);"

abbrev bracketed_test-script : Bytes
bracketed_test-script =
    []

bracketed_test : reported (answered (bracketed_test-schema-0 ∷ []) (bracketed_test-module-0 ∷ []) bracketed_test-script 1000000) ≡ Ok (
    [])
unfolding computed
bracketed_test = refl
