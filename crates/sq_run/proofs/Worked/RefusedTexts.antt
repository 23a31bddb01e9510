-- Texts without a tree. Printed by tools/print_runs.py from sq_cases/data/runs-worked.txt.
use Rattle.std.specs.Prelude.{◌≡◌, [], ◌∷◌, ◌++◌, codes, Err, refl}
use Rattle.sq_lex.specs.declared.fault.LexFaultKind.TheVariants as lexical
use Rattle.sq_perform.specs.declared.refusal.RefusalName.TheVariants as what
use Rattle.sq_meaning.specs.Report.{Bytes}
use Rattle.sq_perform.specs.declared.refusal.RunFault.TheVariants.{ModuleRefused}
use Rattle.sq_run.specs.Answer.{answered}
use Rattle.sq_run.specs.Reported.{reported}
use Rattle.sq_run.proofs.Worked.Computed.{computed}

-- ---- open literal

abbrev open_literal-schema-0 : Bytes
open_literal-schema-0 =
    codes "CREATE SCHEMA AUTHORIZATION U CREATE TABLE D (A INTEGER, B INTEGER)"

abbrev open_literal-module-0 : Bytes
open_literal-module-0 =
    codes "MODULE M LANGUAGE C AUTHORIZATION U\n"
    ++ codes "PROCEDURE P (SQLCODE); DELETE FROM D WHERE A = 'X"

abbrev open_literal-script : Bytes
open_literal-script =
    []

open_literal : reported (answered (open_literal-schema-0 ∷ []) (open_literal-module-0 ∷ []) open_literal-script 1000000) ≡ Err (ModuleRefused (record { text = 0; line = 2; column = 48; what = what.Lexical lexical.OpenText }))
unfolding computed
open_literal = refl

-- ---- brackets too deep

abbrev brackets_too_deep-schema-0 : Bytes
brackets_too_deep-schema-0 =
    codes "CREATE SCHEMA AUTHORIZATION U CREATE TABLE D (A INTEGER, B INTEGER)"

abbrev brackets_too_deep-module-0 : Bytes
brackets_too_deep-module-0 =
    codes "MODULE M LANGUAGE C AUTHORIZATION U\n"
    ++ codes "PROCEDURE P (SQLCODE); DELETE FROM D WHERE ((((((((((((((((((((((((((((((((("

abbrev brackets_too_deep-script : Bytes
brackets_too_deep-script =
    []

brackets_too_deep : reported (answered (brackets_too_deep-schema-0 ∷ []) (brackets_too_deep-module-0 ∷ []) brackets_too_deep-script 1000000) ≡ Err (ModuleRefused (record { text = 0; line = 2; column = 76; what = what.TooDeep }))
unfolding computed
brackets_too_deep = refl

-- ---- empty module

abbrev empty_module-schema-0 : Bytes
empty_module-schema-0 =
    codes "CREATE SCHEMA AUTHORIZATION U CREATE TABLE D (A INTEGER, B INTEGER)"

abbrev empty_module-module-0 : Bytes
empty_module-module-0 =
    []

abbrev empty_module-script : Bytes
empty_module-script =
    []

empty_module : reported (answered (empty_module-schema-0 ∷ []) (empty_module-module-0 ∷ []) empty_module-script 1000000) ≡ Err (ModuleRefused (record { text = 0; line = 1; column = 1; what = what.EndOfText }))
unfolding computed
empty_module = refl

-- ---- unexpected after bracket

abbrev unexpected_after_bracket-schema-0 : Bytes
unexpected_after_bracket-schema-0 =
    codes "CREATE SCHEMA AUTHORIZATION U CREATE TABLE D (A INTEGER, B INTEGER)"

abbrev unexpected_after_bracket-module-0 : Bytes
unexpected_after_bracket-module-0 =
    codes "MODULE M LANGUAGE C AUTHORIZATION U\n"
    ++ codes "PROCEDURE P (SQLCODE); DELETE FROM D WHERE (A) B;"

abbrev unexpected_after_bracket-script : Bytes
unexpected_after_bracket-script =
    []

unexpected_after_bracket : reported (answered (unexpected_after_bracket-schema-0 ∷ []) (unexpected_after_bracket-module-0 ∷ []) unexpected_after_bracket-script 1000000) ≡ Err (ModuleRefused (record { text = 0; line = 2; column = 48; what = what.Unexpected }))
unfolding computed
unexpected_after_bracket = refl

-- ---- unexpected semicolon in test

abbrev unexpected_semicolon_in_test-schema-0 : Bytes
unexpected_semicolon_in_test-schema-0 =
    codes "CREATE SCHEMA AUTHORIZATION U CREATE TABLE D (A INTEGER, B INTEGER)"

abbrev unexpected_semicolon_in_test-module-0 : Bytes
unexpected_semicolon_in_test-module-0 =
    codes "MODULE M LANGUAGE C AUTHORIZATION U\n"
    ++ codes "PROCEDURE P (SQLCODE); DELETE FROM D WHERE (A;"

abbrev unexpected_semicolon_in_test-script : Bytes
unexpected_semicolon_in_test-script =
    []

unexpected_semicolon_in_test : reported (answered (unexpected_semicolon_in_test-schema-0 ∷ []) (unexpected_semicolon_in_test-module-0 ∷ []) unexpected_semicolon_in_test-script 1000000) ≡ Err (ModuleRefused (record { text = 0; line = 2; column = 46; what = what.Unexpected }))
unfolding computed
unexpected_semicolon_in_test = refl

-- ---- end of text in bracket

abbrev end_of_text_in_bracket-schema-0 : Bytes
end_of_text_in_bracket-schema-0 =
    codes "CREATE SCHEMA AUTHORIZATION U CREATE TABLE D (A INTEGER, B INTEGER)"

abbrev end_of_text_in_bracket-module-0 : Bytes
end_of_text_in_bracket-module-0 =
    codes "MODULE M LANGUAGE C AUTHORIZATION U\n"
    ++ codes "PROCEDURE P (SQLCODE); DELETE FROM D WHERE (A"

abbrev end_of_text_in_bracket-script : Bytes
end_of_text_in_bracket-script =
    []

end_of_text_in_bracket : reported (answered (end_of_text_in_bracket-schema-0 ∷ []) (end_of_text_in_bracket-module-0 ∷ []) end_of_text_in_bracket-script 1000000) ≡ Err (ModuleRefused (record { text = 0; line = 2; column = 45; what = what.EndOfText }))
unfolding computed
end_of_text_in_bracket = refl
