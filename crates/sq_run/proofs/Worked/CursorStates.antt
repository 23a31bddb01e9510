-- Cursors in the wrong state (24000). Printed by tools/print_runs.py from sq_cases/data/runs-accepted.txt.
use Rattle.std.specs.Prelude.{◌≡◌, [], ◌∷◌, ◌++◌, codes, Ok, refl}
use Rattle.sq_meaning.specs.Report.{Bytes}
use Rattle.sq_run.specs.Answer.{answered}
use Rattle.sq_run.specs.Reported.{reported}
use Rattle.sq_run.proofs.Worked.Computed.{computed}

-- ---- accepted 149

abbrev accepted_149-schema-0 : Bytes
accepted_149-schema-0 =
    codes "CREATE SCHEMA AUTHORIZATION U1 CREATE TABLE G -- note 'x' ~\t\n"
    ++ codes "( S NUMERIC (\t5, 2\n"
    ++ codes ") CHECK\r\n"
    ++ codes "(( 'B'\tNOT LIKE  ' ' ESCAPE  'A' ) AND ( (  +\n"
    ++ codes "S)) >( U1 . G  . S)) NOT  NULL PRIMARY  KEY\n"
    ++ codes ")  CREATE\tTABLE E\r\n"
    ++ codes "( Q  INTEGER NOT NULL,  B INTEGER, S NUMERIC(\n"
    ++ codes "18\n"
    ++ codes ", 18) CHECK ( S >= 0)\n"
    ++ codes "REFERENCES G( S)\n"
    ++ codes ",  UNIQUE\t( Q )) GRANT REFERENCES( S) ON G TO U4 WITH GRANT OPTION "

abbrev accepted_149-schema-1 : Bytes
accepted_149-schema-1 =
    codes "CREATE SCHEMA AUTHORIZATION U2;\n"

abbrev accepted_149-module-0 : Bytes
accepted_149-module-0 =
    codes "MODULE M0 LANGUAGE COBOL AUTHORIZATION U1\n"
    ++ codes "PROCEDURE O0 (SQLSTATE); OPEN C0;\n"
    ++ codes "PROCEDURE CH0 :P0 DEC(18,0), SQLSTATE; UPDATE G SET S = G.S WHERE S = :P0 AND S <= (SELECT DISTINCT G.S FROM G, U1.E);\n"
    ++ codes "PROCEDURE CMT (SQLCODE); COMMIT;\n"
    ++ codes "PROCEDURE SEL1 (SQLCODE, :P0 CHARACTER VARYING(5), :P1 NUMERIC(5,2), :P2 CHARACTER, :R3 DEC(18,9), :R4 CHARACTER VARYING(5), :I5 INTEGER, :R6 NUMERIC(18,2)); SELECT 1, :P0, (:P1) INTO :R3, :R4 INDICATOR :I5, :R6 FROM G WHERE (:P0) >= :P2;\n"
    ++ codes "PROCEDURE RBK (SQLSTATE); ROLLBACK WORK;\n"
    ++ codes "DECLARE C0 CURSOR FOR SELECT S FROM G CALL\n"
    ++ codes "PROCEDURE INS0 SQLSTATE :P0 INTEGER :I1 SMALLINT :P2 INTEGER :P3 NUMERIC(18,18); INSERT INTO U1.E VALUES (:P0 :I1, :P2, :P3);\n"
    ++ codes "PROCEDURE INS1 :P0 NUMERIC (3) SQLSTATE; INSERT INTO G VALUES (:P0);\n"
    ++ codes "PROCEDURE Z00 (SQLSTATE); DELETE FROM G WHERE CURRENT OF C0;\n"
    ++ codes "PROCEDURE CH1 (SQLCODE, :P0 NUMERIC(2,2), :I1 SMALLINT, :P2 DECIMAL(4,1), :P3 INTEGER); INSERT INTO E VALUES (10, :P0 :I1 - :P2, :P3);\n"
    ++ codes "PROCEDURE Z01 (SQLSTATE, SQLCODE); DELETE FROM G WHERE CURRENT OF C0;\n"
    ++ codes "PROCEDURE F00 (:R0 DEC(18,9), SQLSTATE); FETCH C0 INTO :R0;\n"
    ++ codes "PROCEDURE SEL0 (SQLSTATE, :R0 CHAR VARYING (2), :I1 SMALLINT); SELECT '!' INTO :R0 :I1 FROM G AS CALL, E;\n"

abbrev accepted_149-script : Bytes
accepted_149-script =
    codes "CALL M0.F00 (10); CALL M0.Z01; CALL M0.F00 (3); CALL M0.INS1 (2);\n"
    ++ codes "CALL M0.SEL1 ('!', -5, '_', 2, 'A!%', 2.9, -9999999999999999); TABLE U1.G; TABLE U1.E;\n"

accepted_149 : reported (answered (accepted_149-schema-0 ∷ accepted_149-schema-1 ∷ []) (accepted_149-module-0 ∷ []) accepted_149-script 1000000000) ≡ Ok (
    codes "M0.F00 24000 -2400\n"
    ++ codes "M0.Z01 24000 -2400\n"
    ++ codes "M0.F00 24000 -2400\n"
    ++ codes "M0.INS1 23000 -2300\n"
    ++ codes "M0.SEL1 02000 100\n"
    ++ codes "TABLE U1.G 0\n"
    ++ codes "TABLE U1.E 0\n")
unfolding computed
accepted_149 = refl

-- ---- accepted 102

abbrev accepted_102-schema-0 : Bytes
accepted_102-schema-0 =
    codes "CREATE SCHEMA AUTHORIZATION U1\n"
    ++ codes "CREATE TABLE U1.G (S INTEGER DEFAULT -0.5,\n"
    ++ codes "  X CHARACTER(2) UNIQUE NOT NULL,\n"
    ++ codes "  Q INT DEFAULT +.25 PRIMARY KEY NOT NULL,\n"
    ++ codes "  K CHAR VARYING (2) DEFAULT 'AB')\n"
    ++ codes "CREATE TABLE H (A VARCHAR(3) CHECK (A NOT LIKE '!%' ESCAPE '!') NOT NULL,\n"
    ++ codes "  Q NUMERIC(5,2) DEFAULT 1.50 CHECK (Q > -5 OR Q IS NULL))\n"
    ++ codes "CREATE VIEW U1.V2 AS SELECT A, Q FROM H T WHERE A < 'b' WITH CHECK OPTION\n"
    ++ codes "CREATE VIEW W1 AS SELECT A, Q FROM V2 WHERE 'B  ' < V2.A WITH CHECK OPTION\n"
    ++ codes "GRANT ALL PRIVILEGES ON W1 TO U2, PUBLIC\n"
    ++ codes "GRANT ALL PRIVILEGES ON TABLE W1 TO U3\n"
    ++ codes "CREATE SCHEMA AUTHORIZATION U2\n"
    ++ codes "CREATE TABLE U2.N (X VARCHAR(3),\n"
    ++ codes "  A NUMERIC (3) PRIMARY KEY NOT NULL,\n"
    ++ codes "  UNIQUE (A),\n"
    ++ codes "  CHECK (X >= ''))\n"
    ++ codes "CREATE VIEW W2 (C) AS SELECT COUNT((+Q.Q) + Q) FROM U1.W1 Q GROUP BY Q.Q\n"
    ++ codes "GRANT SELECT, INSERT, DELETE ON TABLE U2.N TO U2\n"
    ++ codes "GRANT ALL PRIVILEGES ON N TO U2\n"
    ++ codes "GRANT SELECT, REFERENCES, UPDATE (A, X) ON N TO U3\n"

abbrev accepted_102-module-0 : Bytes
accepted_102-module-0 =
    codes "MODULE M0 LANGUAGE C AUTHORIZATION U3\n"
    ++ codes "PROCEDURE CH0 :P0 INT SQLSTATE; DELETE FROM U1.W1 WHERE (U1.W1.A < U1.W1.A) AND (W1.A LIKE '!A' AND W1.A <> 'A   ' AND (:P0 < -Q + -W1.Q + Q));\n"
    ++ codes "PROCEDURE L0 SQLSTATE; CLOSE C0;\n"
    ++ codes "PROCEDURE F01 SQLSTATE SQLCODE :R0 INT :I1 SMALLINT :R2 DEC(18,9) :I3 SMALLINT; FETCH C0 INTO :R0 :I1, :R2 INDICATOR :I3;\n"
    ++ codes "PROCEDURE F00 (SQLCODE, :R0 NUMERIC, :I1 NUMERIC(3,0), :R2 DEC(18,9), :I3 NUMERIC(3,0)); FETCH FROM C0 INTO :R0 :I1, :R2 INDICATOR :I3;\n"
    ++ codes "PROCEDURE F02 (SQLCODE, :R0 NUMERIC(5,2), :I1 SMALLINT, :R2 NUMERIC(5,2), :I3 SMALLINT); FETCH C0 INTO :R0 INDICATOR :I1, :R2 :I3;\n"
    ++ codes "PROCEDURE CMT SQLSTATE; COMMIT WORK;\n"
    ++ codes "PROCEDURE O0 (SQLSTATE, SQLCODE, :P0 SMALLINT); OPEN C0;\n"
    ++ codes "DECLARE C0 CURSOR FOR SELECT P.A, :P0 * ((+A)) FROM U2.N P ORDER BY 1, 1 DESC;\n"
    ++ codes "PROCEDURE INS0 :P0 CHAR(3), SQLSTATE, :P1 NUMERIC (3); INSERT INTO U1.W1 VALUES (:P0, :P1);\n"
    ++ codes "PROCEDURE RBK (SQLSTATE, SQLCODE); ROLLBACK WORK;\n"

abbrev accepted_102-script : Bytes
accepted_102-script =
    codes "CALL M0.INS0 ('A   ', 999); CALL M0.INS0 ('U1', 0);\n"
    ++ codes "CALL M0.INS0 ('B', 3);\n"
    ++ codes "CALL M0.INS0 ('!!', 5); CALL M0.INS0 ('a', -2); CALL M0.INS0 ('U1', 7); CALL M0.INS0 (*, 2);\n"
    ++ codes "CALL M0.INS0 ('U1', +1);\n"
    ++ codes "CALL M0.INS0 ('B  ', +10);\n"
    ++ codes "CALL M0.INS0 ('B  ', +999); CALL M0.CH0 (1); CALL M0.CMT; CALL M0.O0 (3); CALL M0.RBK ();\n"
    ++ codes "CALL M0.F02 (2, -1, +10.50, 4);\n"
    ++ codes "CALL M0.INS0 (*, -1);\n"
    ++ codes "CALL M0.CH0 (4); CALL M0.INS0 (*, *);\n"
    ++ codes "CALL M0.O0 (3); CALL M0.F00 (1, 2, 999999999, 999);\n"
    ++ codes "CALL M0.CH0 (3); CALL M0.CH0 (-5);\n"
    ++ codes "CALL M0.INS0 ('U1', -3); CALL M0.CH0 (4); CALL M0.INS0 ('a', +0); CALL M0.F01 (0, -5, 10, 3);\n"
    ++ codes "CALL M0.CH0 (4);\n"
    ++ codes "CALL M0.INS0 ('_%', +0); CALL M0.O0 (32767);\n"
    ++ codes "CALL M0.INS0 ('!!', -999); CALL M0.F02 (2, 2, 0, *);\n"
    ++ codes "CALL M0.L0;\n"
    ++ codes "CALL M0.RBK; CALL M0.INS0 (' ', 1);\n"
    ++ codes "CALL M0.INS0 ('', 2);\n"
    ++ codes "CALL M0.RBK ();\n"
    ++ codes "CALL M0.F01 (1, *, +1, -1);\n"
    ++ codes "CALL M0.O0 (3); CALL M0.F01 (1, +5, -1, 0); CALL M0.INS0 ('!', 1);\n"
    ++ codes "TABLE U1.G;\n"
    ++ codes "TABLE U1.H; TABLE U2.N; "

accepted_102 : reported (answered (accepted_102-schema-0 ∷ []) (accepted_102-module-0 ∷ []) accepted_102-script 1000000) ≡ Ok (
    codes "M0.INS0 44000 -4400\n"
    ++ codes "M0.INS0 00000 0\n"
    ++ codes "M0.INS0 44000 -4400\n"
    ++ codes "M0.INS0 44000 -4400\n"
    ++ codes "M0.INS0 00000 0\n"
    ++ codes "M0.INS0 00000 0\n"
    ++ codes "M0.INS0 44000 -4400\n"
    ++ codes "M0.INS0 00000 0\n"
    ++ codes "M0.INS0 44000 -4400\n"
    ++ codes "M0.INS0 44000 -4400\n"
    ++ codes "M0.CH0 02000 100\n"
    ++ codes "M0.CMT 00000 0\n"
    ++ codes "M0.O0 00000 0\n"
    ++ codes "M0.RBK 00000 0\n"
    ++ codes "M0.F02 24000 -2400\n"
    ++ codes "M0.INS0 44000 -4400\n"
    ++ codes "M0.CH0 02000 100\n"
    ++ codes "M0.INS0 44000 -4400\n"
    ++ codes "M0.O0 00000 0\n"
    ++ codes "M0.F00 02000 100\n"
    ++ codes "M0.CH0 02000 100\n"
    ++ codes "M0.CH0 02000 100\n"
    ++ codes "M0.INS0 00000 0\n"
    ++ codes "M0.CH0 02000 100\n"
    ++ codes "M0.INS0 00000 0\n"
    ++ codes "M0.F01 02000 100\n"
    ++ codes "M0.CH0 02000 100\n"
    ++ codes "M0.INS0 00000 0\n"
    ++ codes "M0.O0 24000 -2400\n"
    ++ codes "M0.INS0 44000 -4400\n"
    ++ codes "M0.F02 02000 100\n"
    ++ codes "M0.L0 00000 0\n"
    ++ codes "M0.RBK 00000 0\n"
    ++ codes "M0.INS0 44000 -4400\n"
    ++ codes "M0.INS0 44000 -4400\n"
    ++ codes "M0.RBK 00000 0\n"
    ++ codes "M0.F01 24000 -2400\n"
    ++ codes "M0.O0 00000 0\n"
    ++ codes "M0.F01 02000 100\n"
    ++ codes "M0.INS0 44000 -4400\n"
    ++ codes "TABLE U1.G 0\n"
    ++ codes "TABLE U1.H 4\n"
    ++ codes "  'U1 ' 0.00\n"
    ++ codes "  'a  ' -2.00\n"
    ++ codes "  'U1 ' 7.00\n"
    ++ codes "  'U1 ' 1.00\n"
    ++ codes "TABLE U2.N 0\n")
unfolding computed
accepted_102 = refl
