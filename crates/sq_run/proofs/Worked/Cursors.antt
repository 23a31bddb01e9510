-- Cursors over rows that change. Printed by tools/print_runs.py from sq_cases/data/runs-worked.txt.
use Rattle.std.specs.Prelude.{◌≡◌, [], ◌∷◌, ◌++◌, codes, Ok, refl}
use Rattle.sq_meaning.specs.Report.{Bytes}
use Rattle.sq_run.specs.Answer.{answered}
use Rattle.sq_run.specs.Reported.{reported}
use Rattle.sq_run.specs.KitTexts.{schema, first_module, second_module}
use Rattle.sq_run.proofs.Worked.Computed.{computed}

-- ---- changes below open cursors

abbrev changes_below_open_cursors-script : Bytes
changes_below_open_cursors-script =
    codes "CALL M1.INS (1,11,0,'A');\n"
    ++ codes "CALL M1.INS (2,12,0,'A');\n"
    ++ codes "CALL M1.INS (3,13,0,'A');\n"
    ++ codes "CALL M1.OPA;\n"
    ++ codes "CALL M1.OPB;\n"
    ++ codes "CALL M1.FEA (*,*);\n"
    ++ codes "CALL M1.FEB (*,*);\n"
    ++ codes "CALL M1.DPA;\n"
    ++ codes "CALL M1.UPB (0);\n"
    ++ codes "CALL M1.FEB (*,*);\n"
    ++ codes "CALL M1.UPB (20);\n"
    ++ codes "CALL M1.FEA (*,*);\n"
    ++ codes "TABLE U1.T;\n"

changes_below_open_cursors : reported (answered (schema ∷ []) (first_module ∷ second_module ∷ []) changes_below_open_cursors-script 1000000) ≡ Ok (
    codes "M1.INS 00000 0\n"
    ++ codes "M1.INS 00000 0\n"
    ++ codes "M1.INS 00000 0\n"
    ++ codes "M1.OPA 00000 0\n"
    ++ codes "M1.OPB 00000 0\n"
    ++ codes "M1.FEA 00000 0 K=1 A=11\n"
    ++ codes "M1.FEB 00000 0 K=1 A=11\n"
    ++ codes "M1.DPA 00000 0\n"
    ++ codes "M1.UPB 24000 -2400\n"
    ++ codes "M1.FEB 00000 0 K=2 A=12\n"
    ++ codes "M1.UPB 00000 0\n"
    ++ codes "M1.FEA 00000 0 K=2 A=20\n"
    ++ codes "TABLE U1.T 2\n"
    ++ codes "  2 20 'A    '\n"
    ++ codes "  3 13 'A    '\n")
unfolding computed
changes_below_open_cursors = refl

-- ---- fetch after a change

abbrev fetch_after_a_change-script : Bytes
fetch_after_a_change-script =
    codes "CALL M1.INS (1,11,0,'A');\n"
    ++ codes "CALL M1.INS (2,12,0,'A');\n"
    ++ codes "CALL M1.OPA;\n"
    ++ codes "CALL M1.FEA (*,*);\n"
    ++ codes "CALL M1.UPA (2,0);\n"
    ++ codes "CALL M1.FEA (*,*);\n"
    ++ codes "CALL M1.FEA (*,*);\n"

fetch_after_a_change : reported (answered (schema ∷ []) (first_module ∷ second_module ∷ []) fetch_after_a_change-script 1000000) ≡ Ok (
    codes "M1.INS 00000 0\n"
    ++ codes "M1.INS 00000 0\n"
    ++ codes "M1.OPA 00000 0\n"
    ++ codes "M1.FEA 00000 0 K=1 A=11\n"
    ++ codes "M1.UPA 00000 0\n"
    ++ codes "M1.FEA 00000 0 K=2 A=0\n"
    ++ codes "M1.FEA 02000 100\n")
unfolding computed
fetch_after_a_change = refl

-- ---- rows are fixed at open

abbrev rows_are_fixed_at_open-script : Bytes
rows_are_fixed_at_open-script =
    codes "CALL M1.INS (1,11,0,'A');\n"
    ++ codes "CALL M1.INS (2,0,0,'A');\n"
    ++ codes "CALL M1.OPA;\n"
    ++ codes "CALL M1.INS (3,13,0,'A');\n"
    ++ codes "CALL M1.UPA (2,12);\n"
    ++ codes "CALL M1.FEA (*,*);\n"
    ++ codes "CALL M1.FEA (*,*);\n"

rows_are_fixed_at_open : reported (answered (schema ∷ []) (first_module ∷ second_module ∷ []) rows_are_fixed_at_open-script 1000000) ≡ Ok (
    codes "M1.INS 00000 0\n"
    ++ codes "M1.INS 00000 0\n"
    ++ codes "M1.OPA 00000 0\n"
    ++ codes "M1.INS 00000 0\n"
    ++ codes "M1.UPA 00000 0\n"
    ++ codes "M1.FEA 00000 0 K=1 A=11\n"
    ++ codes "M1.FEA 02000 100\n")
unfolding computed
rows_are_fixed_at_open = refl

-- ---- walking cursor under changes

abbrev walking_cursor_under_changes-script : Bytes
walking_cursor_under_changes-script =
    codes "CALL M1.INS (1,11,0,'A');\n"
    ++ codes "CALL M1.INS (2,12,0,'A');\n"
    ++ codes "CALL M1.INS (3,13,0,'A');\n"
    ++ codes "CALL M1.OPA;\n"
    ++ codes "CALL M1.FEA (*,*);\n"
    ++ codes "CALL M1.INS (2,0,0,'B');\n"
    ++ codes "CALL M1.UPA (3,0);\n"
    ++ codes "CALL M1.INS (4,14,0,'A');\n"
    ++ codes "CALL M1.FEA (*,*);\n"
    ++ codes "CALL M1.FEA (*,*);\n"
    ++ codes "CALL M1.FEA (*,*);\n"

walking_cursor_under_changes : reported (answered (schema ∷ []) (first_module ∷ second_module ∷ []) walking_cursor_under_changes-script 1000000) ≡ Ok (
    codes "M1.INS 00000 0\n"
    ++ codes "M1.INS 00000 0\n"
    ++ codes "M1.INS 00000 0\n"
    ++ codes "M1.OPA 00000 0\n"
    ++ codes "M1.FEA 00000 0 K=1 A=11\n"
    ++ codes "M1.INS 23000 -2300\n"
    ++ codes "M1.UPA 00000 0\n"
    ++ codes "M1.INS 00000 0\n"
    ++ codes "M1.FEA 00000 0 K=2 A=12\n"
    ++ codes "M1.FEA 00000 0 K=3 A=0\n"
    ++ codes "M1.FEA 02000 100\n")
unfolding computed
walking_cursor_under_changes = refl
