-- A scrolling cursor. Printed by tools/print_runs.py from sq_cases/data/runs-worked.txt.
use Rattle.std.specs.Prelude.{◌≡◌, [], ◌∷◌, ◌++◌, codes, Ok, refl}
use Rattle.sq_meaning.specs.Report.{Bytes}
use Rattle.sq_run.specs.Answer.{answered}
use Rattle.sq_run.specs.Reported.{reported}
use Rattle.sq_run.specs.KitTexts.{schema, first_module, second_module, scrolling_module}
use Rattle.sq_run.proofs.Worked.Computed.{computed}

-- ---- scrolling cursor

abbrev scrolling_cursor-script : Bytes
scrolling_cursor-script =
    codes "CALL M1.INS (1,0,0,'A');\n"
    ++ codes "CALL M1.INS (2,0,0,'A');\n"
    ++ codes "CALL M1.INS (3,0,0,'A');\n"
    ++ codes "CALL M3.OPS;\n"
    ++ codes "CALL M3.FLA (*);\n"
    ++ codes "CALL M3.FPR (*);\n"
    ++ codes "CALL M1.SHK;\n"
    ++ codes "CALL M3.FPR (*);\n"
    ++ codes "CALL M3.FPR (*);\n"
    ++ codes "CALL M3.FRE (2,*);\n"
    ++ codes "CALL M3.FRE (0,*);\n"
    ++ codes "CALL M3.FAB (-1,*);\n"
    ++ codes "CALL M3.FAB (9,*);\n"
    ++ codes "CALL M3.FPR (*);\n"
    ++ codes "CALL M3.FAB (0,*);\n"
    ++ codes "CALL M3.DPS;\n"
    ++ codes "CALL M3.OPN;\n"
    ++ codes "CALL M3.FBN (*);\n"

scrolling_cursor : reported (answered (schema ∷ []) (first_module ∷ second_module ∷ scrolling_module ∷ []) scrolling_cursor-script 1000000) ≡ Ok (
    codes "M1.INS 00000 0\n"
    ++ codes "M1.INS 00000 0\n"
    ++ codes "M1.INS 00000 0\n"
    ++ codes "M3.OPS 00000 0\n"
    ++ codes "M3.FLA 00000 0 K=3\n"
    ++ codes "M3.FPR 00000 0 K=2\n"
    ++ codes "M1.SHK 00000 0\n"
    ++ codes "M3.FPR 00000 0 K=1\n"
    ++ codes "M3.FPR 02000 100\n"
    ++ codes "M3.FRE 00000 0 K=2\n"
    ++ codes "M3.FRE 00000 0 K=2\n"
    ++ codes "M3.FAB 00000 0 K=3\n"
    ++ codes "M3.FAB 02000 100\n"
    ++ codes "M3.FPR 00000 0 K=3\n"
    ++ codes "M3.FAB 02000 100\n"
    ++ codes "M3.DPS 42000 -4200\n"
    ++ codes "M3.OPN 00000 0\n"
    ++ codes "M3.FBN 42000 -4200\n")
unfolding computed
scrolling_cursor = refl
