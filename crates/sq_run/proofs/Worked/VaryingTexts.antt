-- Varying texts. Printed by tools/print_runs.py from sq_cases/data/runs-worked.txt.
use Rattle.std.specs.Prelude.{◌≡◌, [], ◌∷◌, ◌++◌, codes, Ok, refl}
use Rattle.sq_meaning.specs.Report.{Bytes}
use Rattle.sq_run.specs.Answer.{answered}
use Rattle.sq_run.specs.Reported.{reported}
use Rattle.sq_run.specs.KitTexts.{schema, first_module, second_module}
use Rattle.sq_run.proofs.Worked.Computed.{computed}

-- ---- varying texts

abbrev varying_texts-schema-1 : Bytes
varying_texts-schema-1 =
    codes "CREATE SCHEMA AUTHORIZATION U3 CREATE TABLE G (S CHAR VARYING (4) NOT NULL UNIQUE, A INTEGER) CREATE TABLE H (S VARCHAR(4))\n"

abbrev varying_texts-module-2 : Bytes
varying_texts-module-2 =
    codes "MODULE M4 LANGUAGE C AUTHORIZATION U3\n"
    ++ codes "DECLARE CD CURSOR FOR SELECT DISTINCT S FROM H\n"
    ++ codes "PROCEDURE ING (SQLSTATE, :S VARCHAR(6), :A INTEGER); INSERT INTO G VALUES (:S, :A);\n"
    ++ codes "PROCEDURE INH (SQLSTATE, :S VARCHAR(6)); INSERT INTO H VALUES (:S);\n"
    ++ codes "PROCEDURE OPD (SQLSTATE); OPEN CD;\n"
    ++ codes "PROCEDURE FED (SQLSTATE, :S VARCHAR(4)); FETCH CD INTO :S;\n"
    ++ codes "PROCEDURE LKH (SQLSTATE, :N INTEGER); SELECT COUNT(*) INTO :N FROM H WHERE S LIKE 'A';\n"
    ++ codes "PROCEDURE DEG (SQLSTATE, :S VARCHAR(4)); DELETE FROM G WHERE S = :S;\n"

abbrev varying_texts-script : Bytes
varying_texts-script =
    codes "CALL M4.ING ('A',1);\n"
    ++ codes "CALL M4.ING ('A  ',2);\n"
    ++ codes "CALL M4.INH ('A ');\n"
    ++ codes "CALL M4.INH ('A');\n"
    ++ codes "CALL M4.INH ('B     ');\n"
    ++ codes "CALL M4.INH ('ABCDE');\n"
    ++ codes "CALL M4.OPD;\n"
    ++ codes "CALL M4.FED (*);\n"
    ++ codes "CALL M4.FED (*);\n"
    ++ codes "CALL M4.FED (*);\n"
    ++ codes "CALL M4.LKH (*);\n"
    ++ codes "CALL M4.DEG ('A   ');\n"
    ++ codes "TABLE U3.G;\n"
    ++ codes "TABLE U3.H;\n"

varying_texts : reported (answered (schema ∷ varying_texts-schema-1 ∷ []) (first_module ∷ second_module ∷ varying_texts-module-2 ∷ []) varying_texts-script 1000000) ≡ Ok (
    codes "M4.ING 00000 0\n"
    ++ codes "M4.ING 23000 -2300\n"
    ++ codes "M4.INH 00000 0\n"
    ++ codes "M4.INH 00000 0\n"
    ++ codes "M4.INH 00000 0\n"
    ++ codes "M4.INH 22001 -2201\n"
    ++ codes "M4.OPD 00000 0\n"
    ++ codes "M4.FED 00000 0 S='A '\n"
    ++ codes "M4.FED 00000 0 S='B   '\n"
    ++ codes "M4.FED 02000 100\n"
    ++ codes "M4.LKH 00000 0 N=1\n"
    ++ codes "M4.DEG 00000 0\n"
    ++ codes "TABLE U3.G 0\n"
    ++ codes "TABLE U3.H 3\n"
    ++ codes "  'A '\n"
    ++ codes "  'A'\n"
    ++ codes "  'B   '\n")
unfolding computed
varying_texts = refl
