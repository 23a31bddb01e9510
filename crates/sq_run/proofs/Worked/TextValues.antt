-- Texts: padding, cutting, LIKE. Printed by tools/print_runs.py from sq_cases/data/runs-worked.txt.
use Rattle.std.specs.Prelude.{◌≡◌, [], ◌∷◌, ◌++◌, codes, Ok, refl}
use Rattle.sq_meaning.specs.Report.{Bytes}
use Rattle.sq_run.specs.Answer.{answered}
use Rattle.sq_run.specs.Reported.{reported}
use Rattle.sq_run.specs.KitTexts.{schema, first_module, second_module}
use Rattle.sq_run.proofs.Worked.Computed.{computed}

-- ---- like does not pad

abbrev like_does_not_pad-script : Bytes
like_does_not_pad-script =
    codes "CALL M1.INS (1,0,0,'AB');\n"
    ++ codes "CALL M1.LKS (*);\n"

like_does_not_pad : reported (answered (schema ∷ []) (first_module ∷ second_module ∷ []) like_does_not_pad-script 1000000) ≡ Ok (
    codes "M1.INS 00000 0\n"
    ++ codes "M1.LKS 00000 0 N=1\n")
unfolding computed
like_does_not_pad = refl

-- ---- longer texts

abbrev longer_texts-script : Bytes
longer_texts-script =
    codes "CALL M1.INS (1,0,0,'A');\n"
    ++ codes "CALL M1.LNG;\n"
    ++ codes "CALL M1.BLK;\n"
    ++ codes "TABLE U1.T;\n"

longer_texts : reported (answered (schema ∷ []) (first_module ∷ second_module ∷ []) longer_texts-script 1000000) ≡ Ok (
    codes "M1.INS 00000 0\n"
    ++ codes "M1.LNG 22001 -2201\n"
    ++ codes "M1.BLK 00000 0\n"
    ++ codes "TABLE U1.T 1\n"
    ++ codes "  1 0 'VWXYZ'\n")
unfolding computed
longer_texts = refl

-- ---- cut text and null without indicator

abbrev cut_text_and_null_without_indicator-script : Bytes
cut_text_and_null_without_indicator-script =
    codes "CALL M1.INS (1,7,0,'HELLO');\n"
    ++ codes "CALL M1.INS (2,0,-1,'BYE');\n"
    ++ codes "CALL M1.OPH;\n"
    ++ codes "CALL M1.FEH (*,*,*);\n"
    ++ codes "CALL M1.FEH (*,*,*);\n"
    ++ codes "CALL M1.DPH;\n"
    ++ codes "TABLE U1.T;\n"

cut_text_and_null_without_indicator : reported (answered (schema ∷ []) (first_module ∷ second_module ∷ []) cut_text_and_null_without_indicator-script 1000000) ≡ Ok (
    codes "M1.INS 00000 0\n"
    ++ codes "M1.INS 00000 0\n"
    ++ codes "M1.OPH 00000 0\n"
    ++ codes "M1.FEH 01004 0 C='HEL' IC=5 A=7\n"
    ++ codes "M1.FEH 22002 -2202\n"
    ++ codes "M1.DPH 00000 0\n"
    ++ codes "TABLE U1.T 1\n"
    ++ codes "  1 7 'HELLO'\n")
unfolding computed
cut_text_and_null_without_indicator = refl

-- ---- like faults and subquery of two rows

abbrev like_faults_and_subquery_of_two_rows-script : Bytes
like_faults_and_subquery_of_two_rows-script =
    codes "CALL M1.INS (1,11,0,'A');\n"
    ++ codes "CALL M1.INS (2,12,0,'A');\n"
    ++ codes "CALL M1.SUB;\n"
    ++ codes "CALL M1.LKE ('!A');\n"
    ++ codes "CALL M1.LKX;\n"
    ++ codes "CALL M1.LKE ('!%');\n"

like_faults_and_subquery_of_two_rows : reported (answered (schema ∷ []) (first_module ∷ second_module ∷ []) like_faults_and_subquery_of_two_rows-script 1000000) ≡ Ok (
    codes "M1.INS 00000 0\n"
    ++ codes "M1.INS 00000 0\n"
    ++ codes "M1.SUB 21000 -2100\n"
    ++ codes "M1.LKE 22025 -2225\n"
    ++ codes "M1.LKX 22019 -2219\n"
    ++ codes "M1.LKE 02000 100\n")
unfolding computed
like_faults_and_subquery_of_two_rows = refl

-- ---- stored numbers and texts

abbrev stored_numbers_and_texts-schema-0 : Bytes
stored_numbers_and_texts-schema-0 =
    codes "CREATE SCHEMA AUTHORIZATION U CREATE TABLE N (I INTEGER) CREATE TABLE S (I INTEGER, S SMALLINT, C CHAR(2))"

abbrev stored_numbers_and_texts-module-0 : Bytes
stored_numbers_and_texts-module-0 =
    codes "MODULE M LANGUAGE C AUTHORIZATION U\n"
    ++ codes "PROCEDURE ONE (SQLCODE); INSERT INTO N VALUES (1);\n"
    ++ codes "PROCEDURE A (SQLSTATE); INSERT INTO S VALUES (2.99, NULL, NULL);\n"
    ++ codes "PROCEDURE B (SQLSTATE); INSERT INTO S VALUES (NULL, -32769, NULL);\n"
    ++ codes "PROCEDURE C (SQLSTATE); INSERT INTO S VALUES (NULL, NULL, 'AB ');\n"
    ++ codes "PROCEDURE D (SQLSTATE); INSERT INTO S VALUES (NULL, NULL, 'ABC');\n"

abbrev stored_numbers_and_texts-script : Bytes
stored_numbers_and_texts-script =
    codes "CALL M.ONE; CALL M.A; CALL M.B; CALL M.C; CALL M.D; TABLE U.S;"

stored_numbers_and_texts : reported (answered (stored_numbers_and_texts-schema-0 ∷ []) (stored_numbers_and_texts-module-0 ∷ []) stored_numbers_and_texts-script 1000000) ≡ Ok (
    codes "M.ONE 00000 0\n"
    ++ codes "M.A 00000 0\n"
    ++ codes "M.B 22003 -2203\n"
    ++ codes "M.C 00000 0\n"
    ++ codes "M.D 22001 -2201\n"
    ++ codes "TABLE U.S 2\n"
    ++ codes "  2 NULL NULL\n"
    ++ codes "  NULL NULL 'AB'\n")
unfolding computed
stored_numbers_and_texts = refl

-- ---- retrieved texts and like

abbrev retrieved_texts_and_like-schema-0 : Bytes
retrieved_texts_and_like-schema-0 =
    codes "CREATE SCHEMA AUTHORIZATION U CREATE TABLE N (I INTEGER) "

abbrev retrieved_texts_and_like-module-0 : Bytes
retrieved_texts_and_like-module-0 =
    codes "MODULE M LANGUAGE C AUTHORIZATION U\n"
    ++ codes "PROCEDURE ONE (SQLCODE); INSERT INTO N VALUES (1);\n"
    ++ codes "PROCEDURE P (SQLSTATE, :A CHAR(3), :IA SMALLINT); SELECT 'AB   ' INTO :A :IA FROM N;\n"
    ++ codes "PROCEDURE Q (SQLSTATE, :N INTEGER); SELECT COUNT(*) INTO :N FROM N WHERE '100%' LIKE '100!%' ESCAPE '!';\n"
    ++ codes "PROCEDURE R (SQLSTATE, :N INTEGER); SELECT COUNT(*) INTO :N FROM N WHERE 'A' LIKE '!A' ESCAPE '!';\n"

abbrev retrieved_texts_and_like-script : Bytes
retrieved_texts_and_like-script =
    codes "CALL M.ONE; CALL M.P (*,*); CALL M.Q (*); CALL M.R (*);"

retrieved_texts_and_like : reported (answered (retrieved_texts_and_like-schema-0 ∷ []) (retrieved_texts_and_like-module-0 ∷ []) retrieved_texts_and_like-script 1000000) ≡ Ok (
    codes "M.ONE 00000 0\n"
    ++ codes "M.P 01004 0 A='AB ' IA=5\n"
    ++ codes "M.Q 00000 0 N=1\n"
    ++ codes "M.R 22025 -2225\n")
unfolding computed
retrieved_texts_and_like = refl
