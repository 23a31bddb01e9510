-- Check options and privileges. Printed by tools/print_runs.py from sq_cases/data/runs-worked.txt.
use Rattle.std.specs.Prelude.{◌≡◌, [], ◌∷◌, ◌++◌, codes, Ok, refl}
use Rattle.sq_meaning.specs.Report.{Bytes}
use Rattle.sq_run.specs.Answer.{answered}
use Rattle.sq_run.specs.Reported.{reported}
use Rattle.sq_run.specs.KitTexts.{schema, first_module, second_module}
use Rattle.sq_run.proofs.Worked.Computed.{computed}

-- ---- check options

abbrev check_options-script : Bytes
check_options-script =
    codes "CALL M1.INW (1,5);\n"
    ++ codes "CALL M1.INW (1,30);\n"
    ++ codes "CALL M1.INW (1,15);\n"
    ++ codes "CALL M1.INW2 (2,30);\n"
    ++ codes "CALL M1.INW2 (3,5);\n"
    ++ codes "TABLE U1.T;\n"

check_options : reported (answered (schema ∷ []) (first_module ∷ second_module ∷ []) check_options-script 1000000) ≡ Ok (
    codes "M1.INW 44000 -4400\n"
    ++ codes "M1.INW 44000 -4400\n"
    ++ codes "M1.INW 00000 0\n"
    ++ codes "M1.INW2 00000 0\n"
    ++ codes "M1.INW2 44000 -4400\n"
    ++ codes "TABLE U1.T 2\n"
    ++ codes "  1 15 NULL\n"
    ++ codes "  2 30 NULL\n")
unfolding computed
check_options = refl

-- ---- privileges on positioned changes

abbrev privileges_on_positioned_changes-script : Bytes
privileges_on_positioned_changes-script =
    codes "CALL M1.INS (1,11,0,'A');\n"
    ++ codes "CALL M2.OPX;\n"
    ++ codes "CALL M2.FEX (*);\n"
    ++ codes "CALL M2.UXA;\n"
    ++ codes "CALL M2.UXA;\n"
    ++ codes "CALL M2.DEX;\n"
    ++ codes "CALL M2.UXC;\n"
    ++ codes "TABLE U1.T;\n"

privileges_on_positioned_changes : reported (answered (schema ∷ []) (first_module ∷ second_module ∷ []) privileges_on_positioned_changes-script 1000000) ≡ Ok (
    codes "M1.INS 00000 0\n"
    ++ codes "M2.OPX 00000 0\n"
    ++ codes "M2.FEX 00000 0 K=1\n"
    ++ codes "M2.UXA 42000 -4200\n"
    ++ codes "M2.UXA 42000 -4200\n"
    ++ codes "M2.DEX 42000 -4200\n"
    ++ codes "M2.UXC 00000 0\n"
    ++ codes "TABLE U1.T 1\n"
    ++ codes "  1 11 'Z    '\n")
unfolding computed
privileges_on_positioned_changes = refl

-- ---- update without privilege

abbrev update_without_privilege-module-0 : Bytes
update_without_privilege-module-0 =
    codes "MODULE B LANGUAGE C AUTHORIZATION U2\n"
    ++ codes "PROCEDURE P (SQLSTATE);\n"
    ++ codes "  UPDATE U1.T SET A = 0;\n"

abbrev update_without_privilege-script : Bytes
update_without_privilege-script =
    codes "CALL B.P;"

update_without_privilege : reported (answered (schema ∷ []) (update_without_privilege-module-0 ∷ []) update_without_privilege-script 1000000) ≡ Ok (
    codes "B.P 42000 -4200\n")
unfolding computed
update_without_privilege = refl

-- ---- delete without privilege

abbrev delete_without_privilege-module-0 : Bytes
delete_without_privilege-module-0 =
    codes "MODULE B LANGUAGE C AUTHORIZATION U2\n"
    ++ codes "PROCEDURE P (SQLSTATE);\n"
    ++ codes "  DELETE FROM U1.T;\n"

abbrev delete_without_privilege-script : Bytes
delete_without_privilege-script =
    codes "CALL B.P;"

delete_without_privilege : reported (answered (schema ∷ []) (delete_without_privilege-module-0 ∷ []) delete_without_privilege-script 1000000) ≡ Ok (
    codes "B.P 42000 -4200\n")
unfolding computed
delete_without_privilege = refl

-- ---- update of a granted column

abbrev update_of_a_granted_column-module-0 : Bytes
update_of_a_granted_column-module-0 =
    codes "MODULE B LANGUAGE C AUTHORIZATION U2\n"
    ++ codes "PROCEDURE P (SQLSTATE);\n"
    ++ codes "  UPDATE U1.T SET C = 'Z';\n"

abbrev update_of_a_granted_column-script : Bytes
update_of_a_granted_column-script =
    codes "CALL B.P;"

update_of_a_granted_column : reported (answered (schema ∷ []) (update_of_a_granted_column-module-0 ∷ []) update_of_a_granted_column-script 1000000) ≡ Ok (
    codes "B.P 02000 100\n")
unfolding computed
update_of_a_granted_column = refl
