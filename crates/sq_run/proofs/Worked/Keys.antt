-- Keys and references. Printed by tools/print_runs.py from sq_cases/data/runs-worked.txt.
use Rattle.std.specs.Prelude.{◌≡◌, [], ◌∷◌, ◌++◌, codes, Ok, refl}
use Rattle.sq_meaning.specs.Report.{Bytes}
use Rattle.sq_run.specs.Answer.{answered}
use Rattle.sq_run.specs.Reported.{reported}
use Rattle.sq_run.specs.KitTexts.{schema, first_module, second_module}
use Rattle.sq_run.proofs.Worked.Computed.{computed}

-- ---- keys move together

abbrev keys_move_together-script : Bytes
keys_move_together-script =
    codes "CALL M1.INS (1,0,0,'A');\n"
    ++ codes "CALL M1.INS (2,0,0,'A');\n"
    ++ codes "CALL M1.INS (3,0,0,'A');\n"
    ++ codes "CALL M1.SHK;\n"
    ++ codes "TABLE U1.T;\n"

keys_move_together : reported (answered (schema ∷ []) (first_module ∷ second_module ∷ []) keys_move_together-script 1000000) ≡ Ok (
    codes "M1.INS 00000 0\n"
    ++ codes "M1.INS 00000 0\n"
    ++ codes "M1.INS 00000 0\n"
    ++ codes "M1.SHK 00000 0\n"
    ++ codes "TABLE U1.T 3\n"
    ++ codes "  2 0 'A    '\n"
    ++ codes "  3 0 'A    '\n"
    ++ codes "  4 0 'A    '\n")
unfolding computed
keys_move_together = refl

-- ---- no row of a refused copy

abbrev no_row_of_a_refused_copy-script : Bytes
no_row_of_a_refused_copy-script =
    codes "CALL M1.INN (0,1);\n"
    ++ codes "CALL M1.INN (0,2);\n"
    ++ codes "CALL M1.INN (0,1);\n"
    ++ codes "CALL M1.CPY;\n"
    ++ codes "TABLE U1.T;\n"
    ++ codes "CALL M1.INS (1,0,0,'A');\n"
    ++ codes "CALL M1.INS (2,0,0,'A');\n"
    ++ codes "CALL M1.INS (3,0,0,'A');\n"
    ++ codes "CALL M1.INS (4,0,0,'A');\n"

no_row_of_a_refused_copy : reported (answered (schema ∷ []) (first_module ∷ second_module ∷ []) no_row_of_a_refused_copy-script 3) ≡ Ok (
    codes "M1.INN 00000 0\n"
    ++ codes "M1.INN 00000 0\n"
    ++ codes "M1.INN 00000 0\n"
    ++ codes "M1.CPY 23000 -2300\n"
    ++ codes "TABLE U1.T 0\n"
    ++ codes "M1.INS 00000 0\n"
    ++ codes "M1.INS 00000 0\n"
    ++ codes "M1.INS 00000 0\n"
    ++ codes "M1.INS S1L00 -9001\n")
unfolding computed
no_row_of_a_refused_copy = refl

-- ---- equal keys of other spelling

abbrev equal_keys_of_other_spelling-schema-0 : Bytes
equal_keys_of_other_spelling-schema-0 =
    codes "CREATE SCHEMA AUTHORIZATION U CREATE TABLE N (I INTEGER) CREATE TABLE E (A CHAR(1) NOT NULL, B INTEGER NOT NULL, UNIQUE (A, B)) CREATE TABLE G (P CHAR(3), Q NUMERIC(5,2), FOREIGN KEY (P, Q) REFERENCES E (A, B))"

abbrev equal_keys_of_other_spelling-module-0 : Bytes
equal_keys_of_other_spelling-module-0 =
    codes "MODULE M LANGUAGE C AUTHORIZATION U\n"
    ++ codes "PROCEDURE ONE (SQLCODE); INSERT INTO N VALUES (1);\n"
    ++ codes "PROCEDURE E (SQLSTATE); INSERT INTO E VALUES ('A', 1);\n"
    ++ codes "PROCEDURE G (SQLSTATE); INSERT INTO G VALUES ('A  ', 1.00);\n"
    ++ codes "PROCEDURE H (SQLSTATE); INSERT INTO G VALUES ('A  ', 1.01);\n"

abbrev equal_keys_of_other_spelling-script : Bytes
equal_keys_of_other_spelling-script =
    codes "CALL M.ONE; CALL M.E; CALL M.G; CALL M.H; TABLE U.G;"

equal_keys_of_other_spelling : reported (answered (equal_keys_of_other_spelling-schema-0 ∷ []) (equal_keys_of_other_spelling-module-0 ∷ []) equal_keys_of_other_spelling-script 1000000) ≡ Ok (
    codes "M.ONE 00000 0\n"
    ++ codes "M.E 00000 0\n"
    ++ codes "M.G 00000 0\n"
    ++ codes "M.H 23000 -2300\n"
    ++ codes "TABLE U.G 1\n"
    ++ codes "  'A  ' 1.00\n")
unfolding computed
equal_keys_of_other_spelling = refl

-- ---- key of two columns

abbrev key_of_two_columns-schema-0 : Bytes
key_of_two_columns-schema-0 =
    codes "CREATE SCHEMA AUTHORIZATION U CREATE TABLE E (A INTEGER NOT NULL, B CHAR(3) NOT NULL, Q INTEGER, UNIQUE (A, B))"

abbrev key_of_two_columns-module-0 : Bytes
key_of_two_columns-module-0 =
    codes "MODULE M LANGUAGE C AUTHORIZATION U\n"
    ++ codes "PROCEDURE I (SQLSTATE, :A INTEGER, :B CHAR(3), :Q INTEGER); INSERT INTO E VALUES (:A, :B, :Q);\n"
    ++ codes "PROCEDURE D (SQLSTATE); DELETE FROM E WHERE B = 'X' AND A = 1.00 AND Q = 3;\n"

abbrev key_of_two_columns-script : Bytes
key_of_two_columns-script =
    codes "CALL M.I (1, 'X', 3); CALL M.I (1, 'Y', 3); CALL M.D; TABLE U.E;"

key_of_two_columns : reported (answered (key_of_two_columns-schema-0 ∷ []) (key_of_two_columns-module-0 ∷ []) key_of_two_columns-script 1000000) ≡ Ok (
    codes "M.I 00000 0\n"
    ++ codes "M.I 00000 0\n"
    ++ codes "M.D 00000 0\n"
    ++ codes "TABLE U.E 1\n"
    ++ codes "  1 'Y  ' 3\n")
unfolding computed
key_of_two_columns = refl

-- ---- keyed statements

abbrev keyed_statements-script : Bytes
keyed_statements-script =
    codes "CALL M1.INS (4,0,0,'A');\n"
    ++ codes "CALL M1.INS (5,1,0,'B');\n"
    ++ codes "CALL M1.DDV (5,0);\n"
    ++ codes "TABLE U1.T;\n"
    ++ codes "CALL M1.UPA (9,0);\n"

keyed_statements : reported (answered (schema ∷ []) (first_module ∷ second_module ∷ []) keyed_statements-script 1000000) ≡ Ok (
    codes "M1.INS 00000 0\n"
    ++ codes "M1.INS 00000 0\n"
    ++ codes "M1.DDV 00000 0\n"
    ++ codes "TABLE U1.T 1\n"
    ++ codes "  4 0 'A    '\n"
    ++ codes "M1.UPA 02000 100\n")
unfolding computed
keyed_statements = refl

-- ---- references

abbrev references-script : Bytes
references-script =
    codes "CALL M1.INF (9,0);\n"
    ++ codes "CALL M1.INF (0,-1);\n"
    ++ codes "CALL M1.INFN;\n"
    ++ codes "CALL M1.INS (1,11,0,'A');\n"
    ++ codes "CALL M1.INF (1,0);\n"
    ++ codes "CALL M1.OPB;\n"
    ++ codes "CALL M1.FEB (*,*);\n"
    ++ codes "CALL M1.DPB;\n"
    ++ codes "TABLE U1.F;\n"

references : reported (answered (schema ∷ []) (first_module ∷ second_module ∷ []) references-script 1000000) ≡ Ok (
    codes "M1.INF 23000 -2300\n"
    ++ codes "M1.INF 00000 0\n"
    ++ codes "M1.INFN 00000 0\n"
    ++ codes "M1.INS 00000 0\n"
    ++ codes "M1.INF 00000 0\n"
    ++ codes "M1.OPB 00000 0\n"
    ++ codes "M1.FEB 00000 0 K=1 A=11\n"
    ++ codes "M1.DPB 23000 -2300\n"
    ++ codes "TABLE U1.F 3\n"
    ++ codes "  NULL 1.50\n"
    ++ codes "  NULL NULL\n"
    ++ codes "  1 1.50\n")
unfolding computed
references = refl
