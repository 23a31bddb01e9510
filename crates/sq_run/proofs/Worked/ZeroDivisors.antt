-- Division by zero (22012). Printed by tools/print_runs.py from sq_cases/data/runs-accepted.txt.
use Rattle.std.specs.Prelude.{◌≡◌, [], ◌∷◌, ◌++◌, codes, Ok, refl}
use Rattle.sq_meaning.specs.Report.{Bytes}
use Rattle.sq_run.specs.Answer.{answered}
use Rattle.sq_run.specs.Reported.{reported}
use Rattle.sq_run.proofs.Worked.Computed.{computed}

-- ---- accepted 48

abbrev accepted_48-schema-0 : Bytes
accepted_48-schema-0 =
    codes "CREATE SCHEMA AUTHORIZATION U1\n"
    ++ codes "CREATE TABLE U1.N (Q CHARACTER(2) NOT NULL,\n"
    ++ codes "  UNIQUE (Q))\n"
    ++ codes "CREATE VIEW V2 (C, K) AS SELECT USER, 10 + 3 + 1.50 FROM N AS CALL WHERE 2 + .25 IN (1 + -32767 + 999999999999999999, 99999)\n"
    ++ codes "GRANT REFERENCES (Q) ON TABLE N TO U1 WITH GRANT OPTION;\n"

abbrev accepted_48-schema-1 : Bytes
accepted_48-schema-1 =
    codes "CREATE SCHEMA AUTHORIZATION U2\n"
    ++ codes "CREATE TABLE U2.G (C INT PRIMARY KEY NOT NULL)\n"
    ++ codes "CREATE TABLE H (X DECIMAL(4,1))\n"
    ++ codes "GRANT UPDATE (C), SELECT, REFERENCES (C) ON G TO U1\n"
    ++ codes "GRANT INSERT, REFERENCES (C) ON TABLE G TO U2, U3 WITH GRANT OPTION\n"
    ++ codes "GRANT REFERENCES, REFERENCES (X) ON TABLE U2.H TO U3, U1;\n"
    ++ codes "CREATE SCHEMA AUTHORIZATION U3\n"
    ++ codes "CREATE TABLE T (S INTEGER,\n"
    ++ codes "  UNIQUE (K),\n"
    ++ codes "  K CHAR VARYING (2) DEFAULT 'AB' NOT NULL)\n"
    ++ codes "CREATE VIEW V3 (Q, K) AS SELECT * FROM U3.T AS Q WHERE (((-Q.S)) - 2) / ((((-S))) + S) = S\n"
    ++ codes "GRANT UPDATE (S), SELECT, INSERT ON TABLE T TO U4, PUBLIC WITH GRANT OPTION\n"
    ++ codes "GRANT DELETE, SELECT, SELECT ON TABLE V3 TO U1 WITH GRANT OPTION;\n"

abbrev accepted_48-schema-2 : Bytes
accepted_48-schema-2 =
    codes "CREATE SCHEMA AUTHORIZATION U4\n"
    ++ codes "CREATE TABLE U4.D (S INTEGER NOT NULL)\n"
    ++ codes "CREATE VIEW V2 (B) AS SELECT (0) FROM U3.T WHERE K >= ''\n"
    ++ codes "CREATE VIEW W1 AS SELECT S FROM U3.T AS P WITH CHECK OPTION\n"
    ++ codes "CREATE VIEW U4.V1 AS SELECT S FROM D WITH CHECK OPTION\n"
    ++ codes "GRANT INSERT, SELECT, UPDATE (S) ON TABLE U4.V1 TO U2 WITH GRANT OPTION\n"
    ++ codes "GRANT DELETE, SELECT, UPDATE ON TABLE U4.D TO U3, U4\n"
    ++ codes "GRANT SELECT ON W1 TO PUBLIC, U3;\n"

abbrev accepted_48-module-0 : Bytes
accepted_48-module-0 =
    codes "MODULE M0 LANGUAGE COBOL AUTHORIZATION U3\n"
    ++ codes "PROCEDURE CMT (SQLSTATE); COMMIT WORK;\n"
    ++ codes "PROCEDURE INS2 (SQLCODE, :P0 VARCHAR(2), :P1 INTEGER); INSERT INTO U3.T (K, S) VALUES (:P0, :P1);\n"
    ++ codes "PROCEDURE CH1 (SQLCODE); DELETE FROM U3.T WHERE U3.T.S > S;\n"
    ++ codes "PROCEDURE CH0 (SQLSTATE, :P0 INTEGER, :I1 NUMERIC(3,0)); UPDATE U4.D SET S = S WHERE NOT :P0 = :P0 INDICATOR :I1;\n"
    ++ codes "PROCEDURE INS0 (SQLSTATE, :P0 NUMERIC (3), :I1 SMALLINT); INSERT INTO V3 (Q) VALUES (:P0 :I1);\n"
    ++ codes "PROCEDURE INS1 SQLSTATE :P0 INTEGER :I1 SMALLINT; INSERT INTO U2.G VALUES (:P0 :I1);\n"
    ++ codes "PROCEDURE CH2 (SQLSTATE); UPDATE T SET K = NULL, S = +(S - +S) WHERE K < K;\n"
    ++ codes "PROCEDURE SEL0 (:P0 NUMERIC(5,2), :I1 SMALLINT, :R2 NUMERIC(5,2), :I3 SMALLINT, SQLSTATE, :R4 INTEGER); SELECT :P0 INDICATOR :I1, COUNT(*) INTO :R2 INDICATOR :I3, :R4 FROM V3;\n"

abbrev accepted_48-script : Bytes
accepted_48-script =
    codes "call M0 . INS1 ( 4 , 32767) ; --\r\n"
    ++ codes "CALL M0 . Ins0( 5, 32767\r\n"
    ++ codes ");\n"
    ++ codes "Call\r\n"
    ++ codes "m0 . SEL0 ( + 2.00\n"
    ++ codes ", *,\n"
    ++ codes "1, 0\n"
    ++ codes ", 3) ;  Call M0 .\tIns1( 2, 0\n"
    ++ codes ");  call M0 . Ins1 ( 0 , 1 )\n"
    ++ codes "; TABLE u2 . G; call m0 . Sel0 ( + 999\r\n"
    ++ codes ", 2\n"
    ++ codes ", 1 , 0 , 1) ;\tCall m0 . Ins2 ( *\n"
    ++ codes ", 4\t); call M0 . Ins2 ( '_%'\n"
    ++ codes ",\r\n"
    ++ codes "4); --\r\n"
    ++ codes "call M0\n"
    ++ codes ".  sel0(\t7.50,\n"
    ++ codes "-  2, 2.99, 32767 , 1\n"
    ++ codes "); Call  M0\r\n"
    ++ codes ".\n"
    ++ codes "ins2( '%'\r\n"
    ++ codes ", 2 )  ;\tcall M0 . INS2(  'B  ' , 0) ;\r\n"
    ++ codes "Call M0 . INS1\n"
    ++ codes "( 2,  4); Call M0 . INS2( 'it',\r\n"
    ++ codes "1 ); Call\r\n"
    ++ codes "M0 .  INS2 -- note 'x' ~\t\n"
    ++ codes "( 'A'\r\n"
    ++ codes ", 0\r\n"
    ++ codes "); table\r\n"
    ++ codes "U1\t. N; TABLE U2\t. g ;\r\n"
    ++ codes "table\n"
    ++ codes "u2 . H;\n"
    ++ codes "Table\tU3 .\n"
    ++ codes "T ; Table u4  . D\n"
    ++ codes "; "

accepted_48 : reported (answered (accepted_48-schema-0 ∷ accepted_48-schema-1 ∷ accepted_48-schema-2 ∷ []) (accepted_48-module-0 ∷ []) accepted_48-script 3) ≡ Ok (
    codes "M0.INS1 00000 0\n"
    ++ codes "M0.INS0 00000 0\n"
    ++ codes "M0.SEL0 22012 -2212\n"
    ++ codes "M0.INS1 00000 0\n"
    ++ codes "M0.INS1 00000 0\n"
    ++ codes "TABLE U2.G 3\n"
    ++ codes "  4\n"
    ++ codes "  2\n"
    ++ codes "  0\n"
    ++ codes "M0.SEL0 22012 -2212\n"
    ++ codes "M0.INS2 00000 0\n"
    ++ codes "M0.INS2 00000 0\n"
    ++ codes "M0.SEL0 22012 -2212\n"
    ++ codes "M0.INS2 S1L00 -9001\n"
    ++ codes "M0.INS2 S1L00 -9001\n"
    ++ codes "M0.INS1 S1L00 -9001\n"
    ++ codes "M0.INS2 S1L00 -9001\n"
    ++ codes "M0.INS2 S1L00 -9001\n"
    ++ codes "TABLE U1.N 0\n"
    ++ codes "TABLE U2.G 3\n"
    ++ codes "  4\n"
    ++ codes "  2\n"
    ++ codes "  0\n"
    ++ codes "TABLE U2.H 0\n"
    ++ codes "TABLE U3.T 3\n"
    ++ codes "  5 'AB'\n"
    ++ codes "  4 ''\n"
    ++ codes "  4 '_%'\n"
    ++ codes "TABLE U4.D 0\n")
unfolding computed
accepted_48 = refl

-- ---- accepted 131

abbrev accepted_131-schema-0 : Bytes
accepted_131-schema-0 =
    codes "CREATE SCHEMA\n"
    ++ codes "AUTHORIZATION U1 CREATE TABLE D ( -- note 'x' ~\t\n"
    ++ codes "K CHARACTER VARYING ( 5)) CREATE TABLE G (\r\n"
    ++ codes "K CHAR( 3 ) , CHECK ( NOT(\tA =  3.14 ) AND ( (\r\n"
    ++ codes "- A /\n"
    ++ codes "( - G . A ))\n"
    ++ codes "IS -- note 'x' ~\t\n"
    ++ codes "NOT\r\n"
    ++ codes "NULL)),\n"
    ++ codes "Q CHARACTER( 2 ) DEFAULT\t'%', B\r\n"
    ++ codes "CHAR( 5 ) -- note 'x' ~\t\n"
    ++ codes "CHECK( A =\n"
    ++ codes "A\t*\tA\t+ A + + A AND NOT(  G . A NOT BETWEEN( -\tA\t/ + A ) *\n"
    ++ codes "G .  A AND G . A))  , A NUMERIC( 18\n"
    ++ codes ",  9)\r\n"
    ++ codes "PRIMARY KEY  NOT -- note 'x' ~\t\n"
    ++ codes "NULL) CREATE  SCHEMA AUTHORIZATION\n"
    ++ codes "U2 CREATE\n"
    ++ codes "TABLE\n"
    ++ codes "H  ( C CHAR , K CHAR ( 5) DEFAULT 'A!%'\n"
    ++ codes "NOT\r\n"
    ++ codes "NULL\n"
    ++ codes ", S CHAR ( 5) DEFAULT\n"
    ++ codes "'B  '  , CHECK( C NOT LIKE '!%'\n"
    ++ codes "ESCAPE '!')) CREATE\r\n"
    ++ codes "TABLE E -- note 'x' ~\t\n"
    ++ codes "( K CHAR( 3 )  DEFAULT\t'!!', X CHAR ( 3\n"
    ++ codes ") NOT NULL PRIMARY KEY ,\tA CHARACTER\n"
    ++ codes "VARYING\r\n"
    ++ codes "(\r\n"
    ++ codes "5) ) GRANT ALL PRIVILEGES  ON\tTABLE E TO U2 GRANT REFERENCES ( S , C), SELECT ON H TO U4\tGRANT SELECT,  REFERENCES( K, X), INSERT ON E  TO PUBLIC; "

abbrev accepted_131-module-0 : Bytes
accepted_131-module-0 =
    codes "MODULE M0 LANGUAGE COBOL AUTHORIZATION U1\n"
    ++ codes "DECLARE C0 INSENSITIVE CURSOR FOR SELECT DISTINCT :P0 :I1 FROM U2.E\n"
    ++ codes "PROCEDURE O0 (SQLSTATE, :P0 DEC(18,0), :I1 SMALLINT); OPEN C0;\n"
    ++ codes "DECLARE C1 INSENSITIVE SCROLL CURSOR FOR SELECT P.K, Q FROM G AS P\n"
    ++ codes "PROCEDURE O1 (SQLSTATE); OPEN C1;\n"
    ++ codes "PROCEDURE F00 (SQLSTATE, :R0 NUMERIC(5,2), :I1 SMALLINT); FETCH C0 INTO :R0 INDICATOR :I1;\n"
    ++ codes "PROCEDURE F10 SQLSTATE, SQLCODE :N INTEGER, :R1 CHAR VARYING (2) :I2 SMALLINT, :R3 CHAR(3); FETCH ABSOLUTE :N FROM C1 INTO :R1 :I2, :R3;\n"
    ++ codes "PROCEDURE L1 (SQLCODE); CLOSE C1;\n"
    ++ codes "PROCEDURE INS0 (SQLSTATE, SQLCODE, :P0 CHAR(3), :P1 CHAR(2), :P2 CHAR(5), :P3 NUMERIC(18,9)); INSERT INTO G VALUES (:P0, :P1, :P2, :P3);\n"
    ++ codes "PROCEDURE INS1 SQLSTATE :P0 CHAR(3) :P1 CHAR(3) :P2 VARCHAR(5); INSERT INTO U2.E VALUES (:P0, :P1, :P2);\n"
    ++ codes "PROCEDURE INS2 (:P0 CHAR(3), SQLSTATE); INSERT INTO D (K) VALUES (:P0);\n"
    ++ codes "PROCEDURE CH0 SQLSTATE, :P0 DECIMAL(4,1), :P1 DECIMAL :P2 INTEGER; UPDATE D SET K = (' ') WHERE NOT (D.K LIKE 'A%' ESCAPE '_');\n"
    ++ codes "PROCEDURE CMT SQLSTATE; COMMIT;\n"
    ++ codes "PROCEDURE RBK (SQLSTATE, SQLCODE); ROLLBACK;"

abbrev accepted_131-module-1 : Bytes
accepted_131-module-1 =
    codes "MODULE M1 LANGUAGE C AUTHORIZATION U3\n"
    ++ codes "PROCEDURE CMT (SQLCODE); COMMIT WORK;\n"
    ++ codes "PROCEDURE RBK SQLCODE; ROLLBACK WORK;\n"
    ++ codes "PROCEDURE SEL0 (SQLSTATE, :P0 INTEGER, :R1 NUMERIC (3), :I2 SMALLINT); SELECT AVG(DISTINCT :P0) INTO :R1 :I2 FROM U2.E;\n"
    ++ codes "PROCEDURE INS0 (SQLCODE, :P0 CHAR(18), :I1 SMALLINT, :P2 CHAR(3), :P3 VARCHAR(5), :I4 NUMERIC(3,0), :UNUSED CHARACTER(2)); INSERT INTO U2.E VALUES (:P0 :I1, :P2, :P3 :I4);\n"
    ++ codes "PROCEDURE CH1 (SQLSTATE, SQLCODE, :P0 CHAR, :P1 CHARACTER(2)); INSERT INTO U2.E (X, K, A) VALUES (:P0, :P1, 'it''s');"

abbrev accepted_131-script : Bytes
accepted_131-script =
    codes "CALL M0.INS0 ('A', 'A', 'AB', 1);\n"
    ++ codes "CALL M0.INS1 ('AB', '%', *);\n"
    ++ codes "CALL M0.INS1 ('U1', ' ', *); CALL M0.INS0 ('%', 'A ', ' ', -0); CALL M0.INS1 ('!A', 'A_', '%');\n"
    ++ codes "CALL M1.INS0 ('A ', 1, 'A', 'A!%', 5, 'AB');\n"
    ++ codes "CALL M0.INS0 ('AB', '!A', 'A_', -999999999); CALL M0.INS1 ('B', '_%', 'A   ');\n"
    ++ codes "CALL M0.INS2 ('a');\n"
    ++ codes "CALL M1.INS0 ('B  ', 3, 'B  ', 'ABC', +5, '!A');\n"
    ++ codes "CALL M0.CH0 (+2.9, +7, 0);\n"
    ++ codes "CALL M0.CH0 (2, 5, 4); CALL M0.INS0 ('!', 'AB', ' ', -3);\n"
    ++ codes "CALL M1.SEL0 (2, -1, -1);\n"
    ++ codes "CALL M0.INS0 ('%', 'it', '%', +10);\n"
    ++ codes "TABLE U1.D; TABLE U1.G;\n"
    ++ codes "TABLE U2.H; TABLE U2.E; "

accepted_131 : reported (answered (accepted_131-schema-0 ∷ []) (accepted_131-module-0 ∷ accepted_131-module-1 ∷ []) accepted_131-script 1000000) ≡ Ok (
    codes "M0.INS0 22003 -2203\n"
    ++ codes "M0.INS1 00000 0\n"
    ++ codes "M0.INS1 00000 0\n"
    ++ codes "M0.INS0 22012 -2212\n"
    ++ codes "M0.INS1 00000 0\n"
    ++ codes "M1.INS0 00000 0\n"
    ++ codes "M0.INS0 22003 -2203\n"
    ++ codes "M0.INS1 00000 0\n"
    ++ codes "M0.INS2 00000 0\n"
    ++ codes "M1.INS0 00000 0\n"
    ++ codes "M0.CH0 00000 0\n"
    ++ codes "M0.CH0 00000 0\n"
    ++ codes "M0.INS0 22003 -2203\n"
    ++ codes "M1.SEL0 00000 0 R1=2 I2=0\n"
    ++ codes "M0.INS0 22003 -2203\n"
    ++ codes "TABLE U1.D 1\n"
    ++ codes "  ' '\n"
    ++ codes "TABLE U1.G 0\n"
    ++ codes "TABLE U2.H 0\n"
    ++ codes "TABLE U2.E 6\n"
    ++ codes "  'AB ' '%  ' ''\n"
    ++ codes "  'U1 ' '   ' ''\n"
    ++ codes "  '!A ' 'A_ ' '%'\n"
    ++ codes "  'A  ' 'A  ' 'A!%'\n"
    ++ codes "  'B  ' '_% ' 'A   '\n"
    ++ codes "  'B  ' 'B  ' 'ABC'\n")
unfolding computed
accepted_131 = refl
