-- Check options that are not met (44000). Printed by tools/print_runs.py from
-- sq_cases/data/runs-accepted.txt.
use Rattle.std.specs.Prelude.{◌≡◌, [], ◌∷◌, ◌++◌, codes, Ok, refl}
use Rattle.sq_meaning.specs.Report.{Bytes}
use Rattle.sq_run.specs.Answer.{answered}
use Rattle.sq_run.specs.Reported.{reported}
use Rattle.sq_run.proofs.Worked.Computed.{computed}

-- ---- accepted 10

abbrev accepted_10-schema-0 : Bytes
accepted_10-schema-0 =
    codes "CREATE SCHEMA AUTHORIZATION U1\n"
    ++ codes "CREATE TABLE N (K CHAR(3),\n"
    ++ codes "  CHECK (K >= ''))\n"
    ++ codes "CREATE TABLE D (K NUMERIC(18,9),\n"
    ++ codes "  S CHARACTER(2) DEFAULT '_%')\n"
    ++ codes "CREATE VIEW V1 AS SELECT * FROM N WITH CHECK OPTION\n"
    ++ codes "CREATE SCHEMA AUTHORIZATION U2\n"
    ++ codes "CREATE TABLE H (C INTEGER,\n"
    ++ codes "  CHECK (C >= 0))\n"
    ++ codes "CREATE VIEW W2 (Q) AS SELECT C FROM H WITH CHECK OPTION\n"
    ++ codes "CREATE VIEW V2 (K, Q) AS SELECT USER, USER FROM W2 WHERE EXISTS (SELECT ALL (W2.Q) FROM W2, H WHERE 0.0 = +(H.C + W2.Q))\n"
    ++ codes "CREATE VIEW V3 (K) AS SELECT Q FROM W2 WHERE NOT (Q < W2.Q OR (Q) + +Q + U2.W2.Q <= +99999 - Q + Q) WITH CHECK OPTION\n"
    ++ codes "CREATE SCHEMA AUTHORIZATION U3\n"
    ++ codes "CREATE TABLE G (S NUMERIC(18,9),\n"
    ++ codes "  C CHAR(3),\n"
    ++ codes "  X DEC(18,0) DEFAULT +0.0)\n"
    ++ codes "CREATE VIEW V2 AS SELECT C, S FROM G P WITH CHECK OPTION\n"
    ++ codes "GRANT ALL PRIVILEGES ON G TO U3, U4 WITH GRANT OPTION;\n"

abbrev accepted_10-module-0 : Bytes
accepted_10-module-0 =
    codes "MODULE M0 LANGUAGE C AUTHORIZATION U2\n"
    ++ codes "PROCEDURE L0 SQLSTATE; CLOSE C0;\n"
    ++ codes "PROCEDURE INS2 (SQLSTATE, :P0 DEC); INSERT INTO H (C) VALUES (:P0);\n"
    ++ codes "PROCEDURE O0 (SQLSTATE); OPEN C0;\n"
    ++ codes "PROCEDURE INS1 (SQLSTATE, :P0 SMALLINT); INSERT INTO U2.W2 VALUES (:P0);\n"
    ++ codes "PROCEDURE CH3 (SQLSTATE, :P0 NUMERIC(5,2)); UPDATE V3 SET K = :P0;\n"
    ++ codes "PROCEDURE F00 (:R0 NUMERIC (3), :I1 SMALLINT, SQLSTATE); FETCH C0 INTO :R0 INDICATOR :I1;\n"
    ++ codes "PROCEDURE CH1 SQLCODE :P0 NUMERIC (3); UPDATE U2.W2 SET Q = Q - :P0;\n"
    ++ codes "PROCEDURE CMT (SQLSTATE); COMMIT WORK;\n"
    ++ codes "PROCEDURE CH2 (SQLSTATE); INSERT INTO W2 SELECT DISTINCT CALL.C FROM H AS CALL, U2.V2;\n"
    ++ codes "DECLARE C0 SCROLL CURSOR FOR SELECT * FROM H;\n"
    ++ codes "PROCEDURE INS0 SQLSTATE :P0 DEC(18,0); INSERT INTO V3 VALUES (:P0);\n"
    ++ codes "PROCEDURE CH0 (SQLSTATE); UPDATE U2.H SET C = H.C;"

abbrev accepted_10-script : Bytes
accepted_10-script =
    codes "CALL M0.INS0 (7);\n"
    ++ codes "CALL M0.INS1 (2.9);\n"
    ++ codes "CALL M0.INS1 (4); TABLE U2.H;\n"
    ++ codes "CALL M0.INS1 (32767); TABLE U1.N;\n"
    ++ codes "TABLE U1.D;\n"
    ++ codes "TABLE U2.H; TABLE U3.G;\n"

accepted_10 : reported (answered (accepted_10-schema-0 ∷ []) (accepted_10-module-0 ∷ []) accepted_10-script 8) ≡ Ok (
    codes "M0.INS0 44000 -4400\n"
    ++ codes "M0.INS1 00000 0\n"
    ++ codes "M0.INS1 00000 0\n"
    ++ codes "TABLE U2.H 2\n"
    ++ codes "  2\n"
    ++ codes "  4\n"
    ++ codes "M0.INS1 00000 0\n"
    ++ codes "TABLE U1.N 0\n"
    ++ codes "TABLE U1.D 0\n"
    ++ codes "TABLE U2.H 3\n"
    ++ codes "  2\n"
    ++ codes "  4\n"
    ++ codes "  32767\n"
    ++ codes "TABLE U3.G 0\n")
unfolding computed
accepted_10 = refl

-- ---- accepted 38

abbrev accepted_38-schema-0 : Bytes
accepted_38-schema-0 =
    codes "CREATE SCHEMA AUTHORIZATION U1\n"
    ++ codes "CREATE TABLE U1.D (Q CHAR(20) DEFAULT USER,\n"
    ++ codes "  A NUMERIC(18,9),\n"
    ++ codes "  B CHARACTER NOT NULL,\n"
    ++ codes "  CHECK (Q NOT LIKE '!%' ESCAPE '!'))\n"
    ++ codes "CREATE TABLE G (X DECIMAL,\n"
    ++ codes "  K INTEGER,\n"
    ++ codes "  CHECK (K >= 0))\n"
    ++ codes "CREATE VIEW W2 AS SELECT G.K FROM G\n"
    ++ codes "CREATE VIEW V3 (A, S, B, X) AS SELECT * FROM D AS CALL, W2 AS P WHERE P.K > 0\n"
    ++ codes "CREATE VIEW W1 AS SELECT * FROM D\n"
    ++ codes "GRANT SELECT, UPDATE (K), DELETE ON TABLE U1.W2 TO U1, PUBLIC WITH GRANT OPTION\n"
    ++ codes "GRANT SELECT, INSERT ON G TO U4 WITH GRANT OPTION\n"

abbrev accepted_38-schema-1 : Bytes
accepted_38-schema-1 =
    codes "CREATE SCHEMA AUTHORIZATION U2\n"
    ++ codes "CREATE TABLE N (X CHAR (5))\n"
    ++ codes "CREATE VIEW W2 AS SELECT U2.N.X FROM N WHERE 0.0 - -2 IN (0.0, 00)\n"
    ++ codes "CREATE VIEW W1 (K) AS SELECT * FROM U2.N AS CALL WITH CHECK OPTION\n"
    ++ codes "GRANT INSERT, SELECT, DELETE ON TABLE W1 TO U4 WITH GRANT OPTION\n"
    ++ codes "GRANT INSERT, INSERT ON TABLE W1 TO U3 WITH GRANT OPTION\n"

abbrev accepted_38-schema-2 : Bytes
accepted_38-schema-2 =
    codes "CREATE SCHEMA AUTHORIZATION U3\n"
    ++ codes "CREATE TABLE H (C NUMERIC (3),\n"
    ++ codes "  X SMALLINT DEFAULT +.25)\n"
    ++ codes "CREATE TABLE G (A CHARACTER(2) NOT NULL,\n"
    ++ codes "  UNIQUE (A))\n"
    ++ codes "CREATE VIEW V1 AS SELECT * FROM U3.G WHERE '_%' <= G.A WITH CHECK OPTION\n"
    ++ codes "GRANT ALL PRIVILEGES ON G TO U2, U4 WITH GRANT OPTION\n"
    ++ codes "GRANT INSERT, SELECT, SELECT ON TABLE V1 TO U2\n"

abbrev accepted_38-module-0 : Bytes
accepted_38-module-0 =
    codes "MODULE M0 LANGUAGE COBOL AUTHORIZATION U3\n"
    ++ codes "PROCEDURE INS0 SQLSTATE SQLCODE :P0 VARCHAR(18) :I1 SMALLINT; INSERT INTO U2.W1 (K) VALUES (:P0 :I1);\n"
    ++ codes "PROCEDURE INS1 (SQLCODE, :P0 DECIMAL, :I1 SMALLINT); INSERT INTO H (C) VALUES (:P0 :I1);\n"
    ++ codes "PROCEDURE INS2 (SQLCODE, :P0 CHAR (5)); INSERT INTO G (A) VALUES (:P0);\n"
    ++ codes "PROCEDURE INS3 (SQLCODE, :P0 CHARACTER(2), :UNUSED INTEGER); INSERT INTO V1 (A) VALUES (:P0);\n"
    ++ codes "PROCEDURE CH0 (SQLSTATE, :P0 CHAR (5), :P1 CHAR VARYING (2), :P2 INTEGER, :I3 DEC(4), :P4 INTEGER); UPDATE U3.H SET X = H.X WHERE (:P0 = 'B  ' OR NOT (:P1 IS NOT NULL) AND (NOT (C IN (X))) AND :P2 :I3 <= C) AND (-:P4 / 1.50) / C <= :P2 AND H.C = H.X;\n"
    ++ codes "PROCEDURE CMT (SQLSTATE); COMMIT;"

abbrev accepted_38-script : Bytes
accepted_38-script =
    codes "CALL M0.INS2 (' ');\n"
    ++ codes "CALL M0.INS2 ('ABC'); CALL M0.INS0 ('A!%', 1);\n"
    ++ codes "CALL M0.CH0 ('!A', '!!', 1, 2, 2); CALL M0.INS2 ('A   '); CALL M0.INS2 ('!'); CALL M0.INS1 (-7, -1);\n"
    ++ codes "TABLE U3.G; CALL M0.INS3 ('A   ', 3);\n"
    ++ codes "TABLE U1.G; CALL M0.CH0 ('', 'A', 2, +0, 0);\n"
    ++ codes "CALL M0.INS2 ('_%');\n"
    ++ codes "CALL M0.INS0 ('!A', -5); CALL M0.INS2 ('AB%'); TABLE U3.H;\n"
    ++ codes "CALL M0.INS0 ('A_', 1);\n"
    ++ codes "CALL M0.CH0 (' ', ' ', 3, 1, 2); CALL M0.CH0 ('it''s', 'it', 3, -2, 0); CALL M0.CH0 (*, 'AB', 1, 2, -5);\n"
    ++ codes "TABLE U3.G; CALL M0.INS1 (0, 1);\n"
    ++ codes "CALL M0.CH0 ('AB', '!!', -2, 7, *);\n"
    ++ codes "CALL M0.INS2 ('AB');\n"
    ++ codes "CALL M0.INS0 ('!', 0);\n"
    ++ codes "CALL M0.CMT ();\n"
    ++ codes "TABLE U1.D;\n"
    ++ codes "TABLE U1.G; TABLE U2.N;\n"
    ++ codes "TABLE U3.H; TABLE U3.G; "

accepted_38 : reported (answered (accepted_38-schema-0 ∷ accepted_38-schema-1 ∷ accepted_38-schema-2 ∷ []) (accepted_38-module-0 ∷ []) accepted_38-script 1000000) ≡ Ok (
    codes "M0.INS2 00000 0\n"
    ++ codes "M0.INS2 22001 -2201\n"
    ++ codes "M0.INS0 00000 0\n"
    ++ codes "M0.CH0 02000 100\n"
    ++ codes "M0.INS2 00000 0\n"
    ++ codes "M0.INS2 00000 0\n"
    ++ codes "M0.INS1 00000 0\n"
    ++ codes "TABLE U3.G 3\n"
    ++ codes "  '  '\n"
    ++ codes "  'A '\n"
    ++ codes "  '! '\n"
    ++ codes "M0.INS3 44000 -4400\n"
    ++ codes "TABLE U1.G 0\n"
    ++ codes "M0.CH0 02000 100\n"
    ++ codes "M0.INS2 00000 0\n"
    ++ codes "M0.INS0 00000 0\n"
    ++ codes "M0.INS2 22001 -2201\n"
    ++ codes "TABLE U3.H 1\n"
    ++ codes "  NULL 0\n"
    ++ codes "M0.INS0 00000 0\n"
    ++ codes "M0.CH0 02000 100\n"
    ++ codes "M0.CH0 02000 100\n"
    ++ codes "M0.CH0 02000 100\n"
    ++ codes "TABLE U3.G 4\n"
    ++ codes "  '  '\n"
    ++ codes "  'A '\n"
    ++ codes "  '! '\n"
    ++ codes "  '_%'\n"
    ++ codes "M0.INS1 00000 0\n"
    ++ codes "M0.CH0 02000 100\n"
    ++ codes "M0.INS2 00000 0\n"
    ++ codes "M0.INS0 00000 0\n"
    ++ codes "M0.CMT 00000 0\n"
    ++ codes "TABLE U1.D 0\n"
    ++ codes "TABLE U1.G 0\n"
    ++ codes "TABLE U2.N 4\n"
    ++ codes "  'A!%  '\n"
    ++ codes "  NULL\n"
    ++ codes "  'A_   '\n"
    ++ codes "  '!    '\n"
    ++ codes "TABLE U3.H 2\n"
    ++ codes "  NULL 0\n"
    ++ codes "  0 0\n"
    ++ codes "TABLE U3.G 5\n"
    ++ codes "  '  '\n"
    ++ codes "  'A '\n"
    ++ codes "  '! '\n"
    ++ codes "  '_%'\n"
    ++ codes "  'AB'\n")
unfolding computed
accepted_38 = refl
