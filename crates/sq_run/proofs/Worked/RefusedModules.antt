-- Modules and scripts that are refused. Printed by tools/print_runs.py from sq_cases/data/runs-worked.txt.
use Rattle.std.specs.Prelude.{◌≡◌, [], ◌∷◌, ◌++◌, codes, Err, refl}
use Rattle.sq_meaning.specs.declared.refusal.ModuleFault.TheVariants as module_fault
use Rattle.sq_perform.specs.declared.refusal.RefusalName.TheVariants as what
use Rattle.sq_meaning.specs.Report.{Bytes}
use Rattle.sq_perform.specs.declared.refusal.RunFault.TheVariants.{ModuleRefused, ScriptRefused}
use Rattle.sq_run.specs.Answer.{answered}
use Rattle.sq_run.specs.Reported.{reported}
use Rattle.sq_run.proofs.Worked.Computed.{computed}

-- ---- cursor never opened

abbrev cursor_never_opened-schema-0 : Bytes
cursor_never_opened-schema-0 =
    codes "CREATE SCHEMA AUTHORIZATION U CREATE TABLE D (A INTEGER, B INTEGER)"

abbrev cursor_never_opened-module-0 : Bytes
cursor_never_opened-module-0 =
    codes "MODULE M LANGUAGE C AUTHORIZATION U\n"
    ++ codes "DECLARE X CURSOR FOR SELECT A FROM D"

abbrev cursor_never_opened-script : Bytes
cursor_never_opened-script =
    []

cursor_never_opened : reported (answered (cursor_never_opened-schema-0 ∷ []) (cursor_never_opened-module-0 ∷ []) cursor_never_opened-script 1000000) ≡ Err (ModuleRefused (record { text = 0; line = 2; column = 1; what = what.Module module_fault.OpenCount }))
unfolding computed
cursor_never_opened = refl

-- ---- no status parameter

abbrev no_status_parameter-schema-0 : Bytes
no_status_parameter-schema-0 =
    codes "CREATE SCHEMA AUTHORIZATION U CREATE TABLE D (A INTEGER, B INTEGER)"

abbrev no_status_parameter-module-0 : Bytes
no_status_parameter-module-0 =
    codes "MODULE M LANGUAGE C AUTHORIZATION U\n"
    ++ codes "PROCEDURE P (:A INTEGER); COMMIT;"

abbrev no_status_parameter-script : Bytes
no_status_parameter-script =
    []

no_status_parameter : reported (answered (no_status_parameter-schema-0 ∷ []) (no_status_parameter-module-0 ∷ []) no_status_parameter-script 1000000) ≡ Err (ModuleRefused (record { text = 0; line = 2; column = 1; what = what.Module module_fault.StatusParameter }))
unfolding computed
no_status_parameter = refl

-- ---- parameter twice

abbrev parameter_twice-schema-0 : Bytes
parameter_twice-schema-0 =
    codes "CREATE SCHEMA AUTHORIZATION U CREATE TABLE D (A INTEGER, B INTEGER)"

abbrev parameter_twice-module-0 : Bytes
parameter_twice-module-0 =
    codes "MODULE M LANGUAGE C AUTHORIZATION U\n"
    ++ codes "PROCEDURE P (SQLCODE, :A INTEGER, :A INTEGER); COMMIT;"

abbrev parameter_twice-script : Bytes
parameter_twice-script =
    []

parameter_twice : reported (answered (parameter_twice-schema-0 ∷ []) (parameter_twice-module-0 ∷ []) parameter_twice-script 1000000) ≡ Err (ModuleRefused (record { text = 0; line = 2; column = 1; what = what.Module module_fault.BadParameter }))
unfolding computed
parameter_twice = refl

-- ---- argument of another kind

abbrev argument_of_another_kind-schema-0 : Bytes
argument_of_another_kind-schema-0 =
    codes "CREATE SCHEMA AUTHORIZATION U CREATE TABLE D (A INTEGER, B INTEGER)"

abbrev argument_of_another_kind-module-0 : Bytes
argument_of_another_kind-module-0 =
    codes "MODULE M LANGUAGE C AUTHORIZATION U\n"
    ++ codes "DECLARE X CURSOR FOR SELECT A, B FROM D\n"
    ++ codes "PROCEDURE ADDROW (SQLCODE, :A INTEGER, :B INTEGER); INSERT INTO D VALUES (:A, :B);\n"
    ++ codes "PROCEDURE OPX (SQLCODE); OPEN X;\n"
    ++ codes "PROCEDURE NEXTROW (SQLCODE, :A INTEGER, :B INTEGER); FETCH X INTO :A, :B;\n"
    ++ codes "PROCEDURE CLX (SQLCODE); CLOSE X;\n"

abbrev argument_of_another_kind-script : Bytes
argument_of_another_kind-script =
    codes "CALL M.ADDROW (1);"

argument_of_another_kind : reported (answered (argument_of_another_kind-schema-0 ∷ []) (argument_of_another_kind-module-0 ∷ []) argument_of_another_kind-script 1000000) ≡ Err (ScriptRefused (record { text = 0; line = 1; column = 1; what = what.BadArguments }))
unfolding computed
argument_of_another_kind = refl
