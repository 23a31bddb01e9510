-- Statements that are done (00000). Printed by tools/print_runs.py from sq_cases/data/runs-accepted.txt.
use Rattle.std.specs.Prelude.{◌≡◌, [], ◌∷◌, ◌++◌, codes, Ok, refl}
use Rattle.sq_meaning.specs.Report.{Bytes}
use Rattle.sq_run.specs.Answer.{answered}
use Rattle.sq_run.specs.Reported.{reported}
use Rattle.sq_run.proofs.Worked.Computed.{computed}

-- ---- accepted 72

abbrev accepted_72-schema-0 : Bytes
accepted_72-schema-0 =
    codes "CREATE\r\n"
    ++ codes "SCHEMA AUTHORIZATION U1 CREATE TABLE\tT  ( C CHAR ( 3)\tNOT NULL PRIMARY KEY, A INTEGER, X INT\r\n"
    ++ codes "NOT NULL , UNIQUE --\r\n"
    ++ codes "( X , C\r\n"
    ++ codes ") ) CREATE VIEW V2 AS SELECT C FROM T GRANT INSERT ON T\tTO U3 GRANT ALL  PRIVILEGES ON TABLE  T\r\n"
    ++ codes "TO PUBLIC WITH GRANT OPTION "

abbrev accepted_72-module-0 : Bytes
accepted_72-module-0 =
    codes "MODULE M0 LANGUAGE C AUTHORIZATION U1\n"
    ++ codes "DECLARE C0 CURSOR FOR SELECT C FROM V2 CALL;\n"
    ++ codes "PROCEDURE O0 (SQLSTATE); OPEN C0;\n"
    ++ codes "PROCEDURE F00 SQLCODE :R0 CHAR(20), :I1 SMALLINT; FETCH FROM C0 INTO :R0 :I1;\n"
    ++ codes "PROCEDURE L0 (SQLCODE); CLOSE C0;\n"
    ++ codes "PROCEDURE Z00 SQLSTATE, :P0 CHAR(18); UPDATE V2 SET C = :P0 WHERE CURRENT OF C0;\n"
    ++ codes "PROCEDURE INS0 (SQLCODE, :P0 VARCHAR(3), :I1 INTEGER); INSERT INTO V2 (C) VALUES (:P0 :I1);\n"
    ++ codes "PROCEDURE INS1 (SQLSTATE, SQLCODE, :P0 CHAR(3), :P1 NUMERIC(5,2), :P2 INTEGER, :I3 NUMERIC(3,0)); INSERT INTO T VALUES (:P0, :P1, :P2 :I3);\n"
    ++ codes "PROCEDURE INS2 (SQLSTATE, :P0 CHAR(3), :P1 INTEGER, :P2 INTEGER, :I3 SMALLINT); INSERT INTO T VALUES (:P0, :P1, :P2 :I3);\n"
    ++ codes "PROCEDURE CH0 :P0 VARCHAR(18) :P1 DECIMAL(4,1) SQLSTATE; INSERT INTO U1.T SELECT DISTINCT :P0, :P1, 1.50 FROM U1.T CALL;\n"
    ++ codes "PROCEDURE CH1 (SQLSTATE, SQLCODE); DELETE FROM T;\n"
    ++ codes "PROCEDURE CH2 (SQLCODE); INSERT INTO U1.V2 SELECT V2.C FROM V2, T WHERE X >= 0;\n"
    ++ codes "PROCEDURE CH3 (SQLCODE, :P0 INTEGER, :P1 NUMERIC(18,9), :P2 DECIMAL, :P3 INTEGER, :I4 INTEGER, :P5 DECIMAL, :P6 NUMERIC(5,2), :P7 DEC(18,0), :I8 INTEGER, :P9 NUMERIC(5,2), :P10 INTEGER, :P11 INTEGER); DELETE FROM V2 WHERE :P0 > (SELECT X FROM T P WHERE P.A / :P1 BETWEEN 2 AND :P2) OR 2 <= (SELECT ALL :P5 INDICATOR :I8 FROM V2 WHERE ((:P3 INDICATOR :I4) / :P5) / -:P6 >= :P7) OR (:P9 = .25 + ((-:P10)) + :P11);\n"
    ++ codes "PROCEDURE SEL0 (:P0 CHARACTER VARYING(5), SQLCODE, :I1 NUMERIC(3,0), :R2 DEC(18,9), :I3 NUMERIC(3,0), :R4 CHARACTER VARYING(5), :I5 SMALLINT); SELECT 0 * 99999, :P0 :I1 INTO :R2 :I3, :R4 INDICATOR :I5 FROM V2;\n"
    ++ codes "PROCEDURE CMT (SQLCODE); COMMIT WORK;\n"
    ++ codes "PROCEDURE RBK SQLCODE; ROLLBACK;\n"

abbrev accepted_72-script : Bytes
accepted_72-script =
    codes "call M0 . Ins2(\r\n"
    ++ codes "'A ' , 4, 0 -- note 'x' ~\t\n"
    ++ codes ", 4)\r\n"
    ++ codes ";\r\n"
    ++ codes "Call\n"
    ++ codes "M0  . INS1 ( 'A!%', + 10.99, + 5 , 2 ) ; CALL M0 . ins2\n"
    ++ codes "(  'AB%'  , 4, 2 , + 5); call -- note 'x' ~\t\n"
    ++ codes "M0 . Ins1( '!A', + 3.50\n"
    ++ codes ", 3,\r\n"
    ++ codes "7) ; call  M0 . O0 () ; Table U1 . T; "

accepted_72 : reported (answered (accepted_72-schema-0 ∷ []) (accepted_72-module-0 ∷ []) accepted_72-script 5) ≡ Ok (
    codes "M0.INS2 00000 0\n"
    ++ codes "M0.INS1 00000 0\n"
    ++ codes "M0.INS2 00000 0\n"
    ++ codes "M0.INS1 00000 0\n"
    ++ codes "M0.O0 00000 0\n"
    ++ codes "TABLE U1.T 4\n"
    ++ codes "  'A  ' 4 0\n"
    ++ codes "  'A!%' 10 5\n"
    ++ codes "  'AB%' 4 2\n"
    ++ codes "  '!A ' 3 3\n")
unfolding computed
accepted_72 = refl

-- ---- accepted 12

abbrev accepted_12-schema-0 : Bytes
accepted_12-schema-0 =
    codes "CREATE SCHEMA AUTHORIZATION U1\n"
    ++ codes "CREATE TABLE U1.E (Q INTEGER DEFAULT NULL)\n"
    ++ codes "CREATE TABLE N (S CHAR (5) NOT NULL,\n"
    ++ codes "  B CHARACTER(2) NOT NULL PRIMARY KEY)\n"
    ++ codes "GRANT ALL PRIVILEGES ON TABLE U1.N TO U1 WITH GRANT OPTION\n"
    ++ codes "GRANT REFERENCES (Q), SELECT, UPDATE ON U1.E TO U1\n"
    ++ codes "GRANT ALL PRIVILEGES ON E TO U1 WITH GRANT OPTION\n"

abbrev accepted_12-module-0 : Bytes
accepted_12-module-0 =
    codes "module M0 language c AUTHORIZATION U2 procedure  CMT sqlstate SQLCODE  ; Commit work; Procedure rbk SQLSTATE; rollback\n"
    ++ codes ";\t"

abbrev accepted_12-module-1 : Bytes
accepted_12-module-1 =
    codes "MODULE M1 LANGUAGE X1 AUTHORIZATION U1\n"
    ++ codes "DECLARE C0 SCROLL CURSOR FOR SELECT Q FROM E Q\n"
    ++ codes "PROCEDURE O0 SQLCODE; OPEN C0;\n"
    ++ codes "PROCEDURE F00 (SQLSTATE, :R0 NUMERIC(2,2), :I1 NUMERIC(3,0)); FETCH PRIOR FROM C0 INTO :R0 INDICATOR :I1;\n"
    ++ codes "PROCEDURE L0 (SQLSTATE); CLOSE C0;\n"
    ++ codes "PROCEDURE INS0 (SQLCODE, :P0 INTEGER); INSERT INTO E VALUES (:P0);\n"
    ++ codes "PROCEDURE INS1 (SQLCODE, :P0 CHAR(5), :I1 INTEGER, :P2 CHAR(2)); INSERT INTO N VALUES (:P0 :I1, :P2);\n"
    ++ codes "PROCEDURE CH0 (SQLSTATE, :P0 INTEGER); DELETE FROM E WHERE (5 < :P0) AND (E.Q >= E.Q);\n"
    ++ codes "PROCEDURE CH1 (:P0 CHAR (5), SQLSTATE, :I1 SMALLINT); DELETE FROM U1.E WHERE USER = :P0 INDICATOR :I1;\n"
    ++ codes "PROCEDURE CH2 (SQLSTATE, :P0 DECIMAL, :P1 INTEGER, :I2 SMALLINT, :P3 CHARACTER VARYING(5), SQLCODE, :I4 SMALLINT); UPDATE N SET S = :P3 :I4 WHERE B = :P3;\n"
    ++ codes "PROCEDURE SEL0 (SQLSTATE, :P0 SMALLINT, :R1 NUMERIC, :I2 SMALLINT); SELECT :P0 * :P0 - SUM(DISTINCT ((+1)) - :P0) INTO :R1 INDICATOR :I2 FROM N;\n"
    ++ codes "PROCEDURE CMT (SQLSTATE); COMMIT;\n"
    ++ codes "PROCEDURE RBK (SQLSTATE); ROLLBACK WORK;"

abbrev accepted_12-module-2 : Bytes
accepted_12-module-2 =
    codes "MODULE M2\n"
    ++ codes "LANGUAGE C  AUTHORIZATION U1 DECLARE C0 CURSOR FOR SELECT\r\n"
    ++ codes "N\n"
    ++ codes ".\n"
    ++ codes "S,\tN . B, : P0\n"
    ++ codes "/ ((  -( :  P0\n"
    ++ codes ":\n"
    ++ codes "I1)\r\n"
    ++ codes ")) FROM U1\r\n"
    ++ codes ". N\t;  PROCEDURE O0 SQLCODE : P0 INTEGER :  I1 SMALLINT ; OPEN C0 ; --\r\n"
    ++ codes "PROCEDURE\n"
    ++ codes "F00\r\n"
    ++ codes "( SQLCODE , : R0 CHAR ( 3), : I1 INTEGER,\n"
    ++ codes ": R2 CHAR ( 3), : I3 SMALLINT,  :  R4\n"
    ++ codes "DECIMAL, : I5\n"
    ++ codes "INTEGER  ); FETCH C0 INTO\r\n"
    ++ codes ": R0 --\r\n"
    ++ codes "INDICATOR :  I1 , : R2 : I3, : R4 :\n"
    ++ codes "I5;\r\n"
    ++ codes "PROCEDURE INS0 ( :  P0 CHAR ( 5\n"
    ++ codes ")\r\n"
    ++ codes ", : I1 SMALLINT,\r\n"
    ++ codes ": P2\n"
    ++ codes "CHAR  (\n"
    ++ codes "2\r\n"
    ++ codes ") ,  : I3 SMALLINT, SQLCODE ) ; INSERT INTO N VALUES\r\n"
    ++ codes "( :\n"
    ++ codes "P0 : I1, :\r\n"
    ++ codes "P2 : I3 ) ; PROCEDURE INS1( SQLSTATE, : P0 INTEGER); INSERT INTO E VALUES( : P0\r\n"
    ++ codes ")\t; --\r\n"
    ++ codes "PROCEDURE CH0( SQLSTATE)  ; DELETE FROM E  ;  PROCEDURE CH1 SQLCODE; INSERT INTO E SELECT E . Q FROM\tE , N WHERE U1\n"
    ++ codes ". E . Q >= 0; PROCEDURE CH2 SQLSTATE;\tUPDATE\tE SET\n"
    ++ codes "Q =\n"
    ++ codes "Q; PROCEDURE SEL0 SQLSTATE, : P0 NUMERIC, : R1 INTEGER, : I2 SMALLINT ; SELECT  ALL :  P0 INTO :  R1 : I2 FROM E ; -- note 'x' ~\t\n"
    ++ codes "PROCEDURE CMT( SQLSTATE ); COMMIT\tWORK; PROCEDURE RBK( SQLSTATE ) ;\r\n"
    ++ codes "ROLLBACK WORK ;  "

abbrev accepted_12-script : Bytes
accepted_12-script =
    codes "CALL M1 . Ins0\r\n"
    ++ codes "( 1 ) ; Call\r\n"
    ++ codes "M1 .\tINS1( 'A' ,\n"
    ++ codes "1 , 'B' ); CALL M1 . Ins0\r\n"
    ++ codes "( 2\t) ; CALL m2 .\n"
    ++ codes "ins1(\n"
    ++ codes "3 )\t;  call  m2 .\tins1  ( 2 )\t;\tTABLE u1 .  e ; Table U1 . N;\r\n"

accepted_12 : reported (answered (accepted_12-schema-0 ∷ []) (accepted_12-module-0 ∷ accepted_12-module-1 ∷ accepted_12-module-2 ∷ []) accepted_12-script 3) ≡ Ok (
    codes "M1.INS0 00000 0\n"
    ++ codes "M1.INS1 00000 0\n"
    ++ codes "M1.INS0 00000 0\n"
    ++ codes "M2.INS1 00000 0\n"
    ++ codes "M2.INS1 S1L00 -9001\n"
    ++ codes "TABLE U1.E 3\n"
    ++ codes "  1\n"
    ++ codes "  2\n"
    ++ codes "  3\n"
    ++ codes "TABLE U1.N 1\n"
    ++ codes "  'A    ' 'B '\n")
unfolding computed
accepted_12 = refl
