-- COMMIT and ROLLBACK, and row numbers. Printed by tools/print_runs.py from sq_cases/data/runs-worked.txt.
use Rattle.std.specs.Prelude.{◌≡◌, [], ◌∷◌, ◌++◌, codes, Ok, refl}
use Rattle.sq_meaning.specs.Report.{Bytes}
use Rattle.sq_run.specs.Answer.{answered}
use Rattle.sq_run.specs.Reported.{reported}
use Rattle.sq_run.specs.KitTexts.{schema, first_module, second_module}
use Rattle.sq_run.proofs.Worked.Computed.{computed}

-- ---- rollback closes cursors

abbrev rollback_closes_cursors-script : Bytes
rollback_closes_cursors-script =
    codes "CALL M1.INS (1,11,0,'A');\n"
    ++ codes "CALL M1.CMT;\n"
    ++ codes "CALL M2.SETC ('B');\n"
    ++ codes "CALL M1.INS (1,0,0,'B');\n"
    ++ codes "CALL M1.INS (2,12,0,'C');\n"
    ++ codes "CALL M1.OPB;\n"
    ++ codes "CALL M1.RBK;\n"
    ++ codes "TABLE U1.T;\n"
    ++ codes "CALL M1.FEB (*,*);\n"

rollback_closes_cursors : reported (answered (schema ∷ []) (first_module ∷ second_module ∷ []) rollback_closes_cursors-script 1000000) ≡ Ok (
    codes "M1.INS 00000 0\n"
    ++ codes "M1.CMT 00000 0\n"
    ++ codes "M2.SETC 00000 0\n"
    ++ codes "M1.INS 23000 -2300\n"
    ++ codes "M1.INS 00000 0\n"
    ++ codes "M1.OPB 00000 0\n"
    ++ codes "M1.RBK 00000 0\n"
    ++ codes "TABLE U1.T 1\n"
    ++ codes "  1 11 'A    '\n"
    ++ codes "M1.FEB 24000 -2400\n")
unfolding computed
rollback_closes_cursors = refl

-- ---- row numbers after rollback

abbrev row_numbers_after_rollback-script : Bytes
row_numbers_after_rollback-script =
    codes "CALL M1.INS (1,0,0,'A');\n"
    ++ codes "CALL M1.INS (2,0,0,'A');\n"
    ++ codes "CALL M1.INS (3,0,0,'A');\n"
    ++ codes "CALL M1.INS (4,0,0,'A');\n"
    ++ codes "CALL M1.RBK;\n"
    ++ codes "CALL M1.INS (1,0,0,'A');\n"
    ++ codes "CALL M1.INS (2,0,0,'A');\n"
    ++ codes "CALL M1.INS (3,0,0,'A');\n"

row_numbers_after_rollback : reported (answered (schema ∷ []) (first_module ∷ second_module ∷ []) row_numbers_after_rollback-script 3) ≡ Ok (
    codes "M1.INS 00000 0\n"
    ++ codes "M1.INS 00000 0\n"
    ++ codes "M1.INS 00000 0\n"
    ++ codes "M1.INS S1L00 -9001\n"
    ++ codes "M1.RBK 00000 0\n"
    ++ codes "M1.INS 00000 0\n"
    ++ codes "M1.INS 00000 0\n"
    ++ codes "M1.INS 00000 0\n")
unfolding computed
row_numbers_after_rollback = refl

-- ---- rollback restores row numbers

abbrev rollback_restores_row_numbers-script : Bytes
rollback_restores_row_numbers-script =
    codes "CALL M1.INS (1,11,0,'A');\n"
    ++ codes "CALL M1.INS (2,12,0,'A');\n"
    ++ codes "CALL M1.CMT;\n"
    ++ codes "CALL M1.UPA (1,5);\n"
    ++ codes "CALL M1.SHK;\n"
    ++ codes "CALL M1.INS (1,0,0,'B');\n"
    ++ codes "CALL M1.RBK;\n"
    ++ codes "CALL M1.INS (3,0,0,'C');\n"
    ++ codes "CALL M1.INS (4,0,0,'D');\n"
    ++ codes "TABLE U1.T;\n"

rollback_restores_row_numbers : reported (answered (schema ∷ []) (first_module ∷ second_module ∷ []) rollback_restores_row_numbers-script 3) ≡ Ok (
    codes "M1.INS 00000 0\n"
    ++ codes "M1.INS 00000 0\n"
    ++ codes "M1.CMT 00000 0\n"
    ++ codes "M1.UPA 00000 0\n"
    ++ codes "M1.SHK 00000 0\n"
    ++ codes "M1.INS 00000 0\n"
    ++ codes "M1.RBK 00000 0\n"
    ++ codes "M1.INS 00000 0\n"
    ++ codes "M1.INS S1L00 -9001\n"
    ++ codes "TABLE U1.T 3\n"
    ++ codes "  1 11 'A    '\n"
    ++ codes "  2 12 'A    '\n"
    ++ codes "  3 0 'C    '\n")
unfolding computed
rollback_restores_row_numbers = refl

-- ---- row numbers run out

abbrev row_numbers_run_out-schema-0 : Bytes
row_numbers_run_out-schema-0 =
    codes "CREATE SCHEMA AUTHORIZATION U CREATE TABLE D (A INTEGER, B INTEGER)"

abbrev row_numbers_run_out-module-0 : Bytes
row_numbers_run_out-module-0 =
    codes "MODULE M LANGUAGE C AUTHORIZATION U\n"
    ++ codes "DECLARE X CURSOR FOR SELECT A, B FROM D\n"
    ++ codes "PROCEDURE ADDROW (SQLCODE, :A INTEGER, :B INTEGER); INSERT INTO D VALUES (:A, :B);\n"
    ++ codes "PROCEDURE OPX (SQLCODE); OPEN X;\n"
    ++ codes "PROCEDURE NEXTROW (SQLCODE, :A INTEGER, :B INTEGER); FETCH X INTO :A, :B;\n"
    ++ codes "PROCEDURE CLX (SQLCODE); CLOSE X;\n"

abbrev row_numbers_run_out-script : Bytes
row_numbers_run_out-script =
    codes "CALL M.OPX; CALL M.ADDROW (1, *); CALL M.ADDROW (2, 3); CALL M.ADDROW (4, 5); CALL M.NEXTROW (*, *); CALL M.OPX; TABLE U.D;"

row_numbers_run_out : reported (answered (row_numbers_run_out-schema-0 ∷ []) (row_numbers_run_out-module-0 ∷ []) row_numbers_run_out-script 2) ≡ Ok (
    codes "M.OPX 00000 0\n"
    ++ codes "M.ADDROW 00000 0\n"
    ++ codes "M.ADDROW 00000 0\n"
    ++ codes "M.ADDROW S1L00 -9001\n"
    ++ codes "M.NEXTROW 02000 100\n"
    ++ codes "M.OPX 24000 -2400\n"
    ++ codes "TABLE U.D 2\n"
    ++ codes "  1 0\n"
    ++ codes "  2 3\n")
unfolding computed
row_numbers_run_out = refl

-- ---- insert and fetch

abbrev insert_and_fetch-schema-0 : Bytes
insert_and_fetch-schema-0 =
    codes "CREATE SCHEMA AUTHORIZATION U CREATE TABLE D (A INTEGER, B INTEGER)"

abbrev insert_and_fetch-module-0 : Bytes
insert_and_fetch-module-0 =
    codes "MODULE M LANGUAGE C AUTHORIZATION U\n"
    ++ codes "DECLARE X CURSOR FOR SELECT A, B FROM D\n"
    ++ codes "PROCEDURE ADDROW (SQLCODE, :A INTEGER, :B INTEGER); INSERT INTO D VALUES (:A, :B);\n"
    ++ codes "PROCEDURE OPX (SQLCODE); OPEN X;\n"
    ++ codes "PROCEDURE NEXTROW (SQLCODE, :A INTEGER, :B INTEGER); FETCH X INTO :A, :B;\n"
    ++ codes "PROCEDURE CLX (SQLCODE); CLOSE X;\n"

abbrev insert_and_fetch-script : Bytes
insert_and_fetch-script =
    codes "CALL M.ADDROW (1, -2); CALL M.ADDROW (3, 4); CALL M.OPX;\n"
    ++ codes "CALL M.NEXTROW (*, *); CALL M.NEXTROW (*, *); CALL M.NEXTROW (*, *); CALL M.NEXTROW (*, *);\n"
    ++ codes "CALL M.CLX; CALL M.CLX; TABLE U.D;\n"

insert_and_fetch : reported (answered (insert_and_fetch-schema-0 ∷ []) (insert_and_fetch-module-0 ∷ []) insert_and_fetch-script 1000000) ≡ Ok (
    codes "M.ADDROW 00000 0\n"
    ++ codes "M.ADDROW 00000 0\n"
    ++ codes "M.OPX 00000 0\n"
    ++ codes "M.NEXTROW 00000 0 A=1 B=-2\n"
    ++ codes "M.NEXTROW 00000 0 A=3 B=4\n"
    ++ codes "M.NEXTROW 02000 100\n"
    ++ codes "M.NEXTROW 02000 100\n"
    ++ codes "M.CLX 00000 0\n"
    ++ codes "M.CLX 24000 -2400\n"
    ++ codes "TABLE U.D 2\n"
    ++ codes "  1 -2\n"
    ++ codes "  3 4\n")
unfolding computed
insert_and_fetch = refl
