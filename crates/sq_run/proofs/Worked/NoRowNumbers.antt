-- No row number is left (S1L00). Printed by tools/print_runs.py from sq_cases/data/runs-accepted.txt.
use Rattle.std.specs.Prelude.{◌≡◌, [], ◌∷◌, ◌++◌, codes, Ok, refl}
use Rattle.sq_meaning.specs.Report.{Bytes}
use Rattle.sq_run.specs.Answer.{answered}
use Rattle.sq_run.specs.Reported.{reported}
use Rattle.sq_run.proofs.Worked.Computed.{computed}

-- ---- accepted 141

abbrev accepted_141-schema-0 : Bytes
accepted_141-schema-0 =
    codes "Create Schema authorization u1  create TABLE D\t( X INTEGER ,  s VARCHAR( 18) Primary\n"
    ++ codes "KEY not null , B numeric  Not\r\n"
    ++ codes "null\n"
    ++ codes ") create table T ( K SMALLINT, B  char(\n"
    ++ codes "3)\tNOT\n"
    ++ codes "NULL ,\r\n"
    ++ codes "a NUMERIC ( 2 ,\t2), Foreign  KEY ( b) references D( s)  ) create View v1 AS Select A\n"
    ++ codes ", K from t with check Option create\tView V3 AS select S,\tX from d Grant all PRIVILEGES  ON t  to u3 With\tgrant\tOPTION GRANT DELETE On TABLE D To U4 with Grant option\n"
    ++ codes "grant DELETE\n"
    ++ codes ", Select ON\n"
    ++ codes "V1 To U2,\tU4 CREATE Schema authorization U2 create table e\n"
    ++ codes "(\tQ\tNUMERIC( 2 , 2 )\n"
    ++ codes "Primary Key not NULL Check( S > - 5 Or  S\tIs\n"
    ++ codes "null), A char VARYING( 2\r\n"
    ++ codes ") check ( A <> 'B' ) not NULL , s\n"
    ++ codes "DEC( 18\n"
    ++ codes ", 0 ), Unique( A\r\n"
    ++ codes ",\n"
    ++ codes "Q)) Create TABLE T -- note 'x' ~\t\n"
    ++ codes "(  x char ( 5)  Default 'B  '\t,\r\n"
    ++ codes "C Smallint not null Unique, B Integer , S Character( 2  ) NOT\tnull)\tCREATE -- note 'x' ~\t\n"
    ++ codes "view W2( K) as SELECT A From E CREATE VIEW W1 as SELECT w2 .  K from W2 WHERE\t- 5 >= 12. with CHECK Option Create View\n"
    ++ codes "v2( C , k) AS SELECT 00, (  -  2 + - 0.5) FROM W1 GROUP By K HAVING\r\n"
    ++ codes "not ( K -- note 'x' ~\t\n"
    ++ codes "like '__%') and Not(\r\n"
    ++ codes "COUNT( * ) in ( 99999)  ) AND 2.0 - ( 12.) in\n"
    ++ codes "( 2147483647,(\r\n"
    ++ codes "( -\t2.0))\t- 3 + 1.50\r\n"
    ++ codes ")\r\n"
    ++ codes "Grant\tdelete On Table e to U1 , U4 With\n"
    ++ codes "GRANT Option  ; "

abbrev accepted_141-module-0 : Bytes
accepted_141-module-0 =
    codes "MODULE M0 LANGUAGE COBOL AUTHORIZATION U1\n"
    ++ codes "PROCEDURE Z00 SQLSTATE; DELETE FROM V3 WHERE CURRENT OF C0;\n"
    ++ codes "PROCEDURE INS0 SQLSTATE :P0 INTEGER :I1 NUMERIC(3,0) :P2 VARCHAR(18), :P3 NUMERIC(18,0); INSERT INTO D VALUES (:P0 :I1, :P2, :P3);\n"
    ++ codes "PROCEDURE CMT (SQLSTATE); COMMIT;\n"
    ++ codes "PROCEDURE F00 SQLSTATE :R0 DEC(18,9); FETCH C0 INTO :R0;\n"
    ++ codes "PROCEDURE INS3 SQLCODE :P0 VARCHAR(3) :P1 DEC(18,0); INSERT INTO V3 (S, X) VALUES (:P0, :P1);\n"
    ++ codes "PROCEDURE CH0 (:P0 NUMERIC(5,2), :I1 SMALLINT, SQLSTATE, :P2 CHAR (5), :I3 SMALLINT); DELETE FROM D WHERE (:P0 :I1 = 999999999999999999) AND 'A!%' IN (S, :P2 INDICATOR :I3, S);\n"
    ++ codes "PROCEDURE O0 (SQLSTATE); OPEN C0;\n"
    ++ codes "PROCEDURE INS2 SQLSTATE :P0 SMALLINT :P1 NUMERIC(2,2) :P2 CHAR (5); INSERT INTO U1.T (K, A, B) VALUES (:P0, :P1, :P2);\n"
    ++ codes "DECLARE C0 CURSOR FOR SELECT X FROM V3;\n"
    ++ codes "PROCEDURE INS1 (SQLSTATE, :P0 DEC(18,0), :P1 NUMERIC(2,2), :I2 NUMERIC(3,0)); INSERT INTO V1 VALUES (:P0, :P1 :I2);"

abbrev accepted_141-script : Bytes
accepted_141-script =
    codes "CALL M0.INS0 (2, 0, '%', 2); CALL M0.INS0 (2, 1, 'A!%', +2); CALL M0.INS1 (2, -0.00, 3); CALL M0.INS0 (0, 7, '_%', 1);\n"
    ++ codes "TABLE U2.E;\n"
    ++ codes "CALL M0.INS0 (2, 7, 'it''s', 10); CALL M0.INS0 (2, -999, 'ABC', 1);\n"
    ++ codes "CALL M0.O0 (); CALL M0.INS1 (+1, 0.99, *); CALL M0.INS0 (4, +5, *, +0);\n"
    ++ codes "CALL M0.F00 (3); CALL M0.F00 (999999999); CALL M0.Z00 (); TABLE U2.T;\n"
    ++ codes "CALL M0.F00 (-5);\n"
    ++ codes "TABLE U1.D; TABLE U1.T; TABLE U2.E; TABLE U2.T; "

accepted_141 : reported (answered (accepted_141-schema-0 ∷ []) (accepted_141-module-0 ∷ []) accepted_141-script 1) ≡ Ok (
    codes "M0.INS0 00000 0\n"
    ++ codes "M0.INS0 S1L00 -9001\n"
    ++ codes "M0.INS1 22003 -2203\n"
    ++ codes "M0.INS0 S1L00 -9001\n"
    ++ codes "TABLE U2.E 0\n"
    ++ codes "M0.INS0 S1L00 -9001\n"
    ++ codes "M0.INS0 S1L00 -9001\n"
    ++ codes "M0.O0 00000 0\n"
    ++ codes "M0.INS1 22003 -2203\n"
    ++ codes "M0.INS0 S1L00 -9001\n"
    ++ codes "M0.F00 00000 0 R0=2.000000000\n"
    ++ codes "M0.F00 02000 100\n"
    ++ codes "M0.Z00 24000 -2400\n"
    ++ codes "TABLE U2.T 0\n"
    ++ codes "M0.F00 02000 100\n"
    ++ codes "TABLE U1.D 1\n"
    ++ codes "  2 '%' 2\n"
    ++ codes "TABLE U1.T 0\n"
    ++ codes "TABLE U2.E 0\n"
    ++ codes "TABLE U2.T 0\n")
unfolding computed
accepted_141 = refl

-- ---- accepted 58

abbrev accepted_58-schema-0 : Bytes
accepted_58-schema-0 =
    codes "create Schema authorization\tu1 CREATE table T  ( B\n"
    ++ codes "CHARACTER( 2 --\r\n"
    ++ codes ") -- note 'x' ~\t\n"
    ++ codes ") create\ttable H( a\n"
    ++ codes "NUMERIC ( 3 ) Not Null , C integer, S Decimal( 4 , 1 )  NOT NULL\t,\r\n"
    ++ codes "b Numeric) create VIEW V1 (\tc\n"
    ++ codes ", b, K\t, A ) As  SELECT * FROM U1\t.\tH CREATE VIEW U1 .  W2  as select\n"
    ++ codes "b, a From  U1\r\n"
    ++ codes ".\r\n"
    ++ codes "h Where 'it''s'  LIKE 'U%' Grant Insert ,\n"
    ++ codes "Select, select on t\n"
    ++ codes "to u1 with\n"
    ++ codes "GRANT option grant INSERT, DELETE, UPDATE on\ttable -- note 'x' ~\t\n"
    ++ codes "H\r\n"
    ++ codes "To U1\n"
    ++ codes "With\tGrant\n"
    ++ codes "OPTION "

abbrev accepted_58-schema-1 : Bytes
accepted_58-schema-1 =
    codes "create schema\r\n"
    ++ codes "AUTHORIZATION U2\n"
    ++ codes "CREATE Table T( b integer NOT null , Q INTEGER\n"
    ++ codes ") create TABLE N\n"
    ++ codes "( b  decimal( 4 , 1 ) NOT Null, K Int Check( K *( K + k ) > 0.5\t+ K)\n"
    ++ codes "NOT null\r\n"
    ++ codes "PRIMARY Key ,  unique\r\n"
    ++ codes "( B -- note 'x' ~\t\n"
    ++ codes ",  k )\n"
    ++ codes ", CHECK\r\n"
    ++ codes "( 1\t/\n"
    ++ codes "B  < 5\t))  create View\r\n"
    ++ codes "v2( x, s) AS SELECT USER, ( - Q . B)  - B - Q . b from T As Q WHERE (\r\n"
    ++ codes "(\n"
    ++ codes "q . B < Some\n"
    ++ codes "( select 3.14 from N Q WHERE Q . K < 99\r\n"
    ++ codes ")) And Q - q . B\r\n"
    ++ codes "=\n"
    ++ codes "q .\r\n"
    ++ codes "b AND NOT( User\tLIKE user) and not( Not B is not Null  ) ) and\n"
    ++ codes "( not( ( Not\r\n"
    ++ codes "( user =(  USER\n"
    ++ codes ")\n"
    ++ codes ")  )) OR(\tb\r\n"
    ++ codes "+ + Q . B +\n"
    ++ codes "B + Q . Q between + B and q .\n"
    ++ codes "b) And - Q . B = Q Or user Like '!!')  Grant  SELECT On table u2 . T To\n"
    ++ codes "U4 Grant all Privileges ON T to u2\r\n"
    ++ codes "WITH Grant OPTION Grant references(\tK ), delete on  TABLE n -- note 'x' ~\t\n"
    ++ codes "to -- note 'x' ~\t\n"
    ++ codes "public\r\n"
    ++ codes "with GRANT option create schema Authorization U3 GRANT All PRIVILEGES\r\n"
    ++ codes "ON\r\n"
    ++ codes "U2 . N TO\n"
    ++ codes "U1 with GRANT Option create schema Authorization\n"
    ++ codes "U4 Create table D ( k Char (\r\n"
    ++ codes "5), Q\tNUMERIC(\n"
    ++ codes "2\t, 2) , s Smallint not null , Check( Q  <>\t3) ) --\r\n"
    ++ codes "GRANT all Privileges ON table D TO Public ,  U4 Grant DELETE,  UPDATE\tON Table\r\n"
    ++ codes "D to U2 , u2 WITH GRANT OPTION --\r\n"
    ++ codes "Grant Select, select\r\n"
    ++ codes "On U4 . d\n"
    ++ codes "To\tU4 "

abbrev accepted_58-module-0 : Bytes
accepted_58-module-0 =
    codes "MODULE M0  language X1 authorization u1 Procedure  ins0 ( sqlcode,\n"
    ++ codes ": P0 Char( 5) , : p1\r\n"
    ++ codes "numeric\r\n"
    ++ codes "(  2 ,\t2),\n"
    ++ codes ": i2 smallint, : p3\r\n"
    ++ codes "smallint, : I4 Smallint) ;\tinsert\n"
    ++ codes "Into U4 .\tD values(  :\tp0 ,\t: P1 : I2, : P3\t: i4 ); PROCEDURE ins1 ( : p0  NUMERIC --\r\n"
    ++ codes "( 18, 0)\t, Sqlcode ) -- note 'x' ~\t\n"
    ++ codes "; Insert INTO H(\n"
    ++ codes "b ) Values\n"
    ++ codes "( : p0); PROCEDURE Ins2( :  P0\n"
    ++ codes "INTEGER, : P1  smallint, : P2 Decimal( 4, 1\n"
    ++ codes ") , : I3 SMALLINT, : P4 integer,\n"
    ++ codes ": I5 SMALLINT ,  SQLSTATE) ; INSERT Into U1 . v1  Values( : P0, : P1, : P2 : i3, : p4 : I5 ); Procedure ins3 Sqlstate sqlcode : P0 CHAR(  2) ;  Insert into -- note 'x' ~\t\n"
    ++ codes "T(  B)\n"
    ++ codes "Values( : P0 ) ; Procedure\n"
    ++ codes "CH0 Sqlcode : P0 char ( 3)\r\n"
    ++ codes "; Update\n"
    ++ codes "t SET B = : P0; Procedure ch1 sqlstate; DELETE\n"
    ++ codes "from U4 .\r\n"
    ++ codes "D\n"
    ++ codes "; "

abbrev accepted_58-script : Bytes
accepted_58-script =
    codes "CALL M0.INS2 (*, 3, +0.9, 2, 2, 0);\n"
    ++ codes "CALL M0.INS3 (*); CALL M0.INS3 ('A ');\n"
    ++ codes "CALL M0.INS3 ('AB');\n"
    ++ codes "CALL M0.INS0 ('A   ', 0.99, 1, 1, 3); TABLE U1.T;\n"
    ++ codes "TABLE U1.H;\n"
    ++ codes "TABLE U2.T; TABLE U2.N; TABLE U4.D; "

accepted_58 : reported (answered (accepted_58-schema-0 ∷ accepted_58-schema-1 ∷ []) (accepted_58-module-0 ∷ []) accepted_58-script 1) ≡ Ok (
    codes "M0.INS2 00000 0\n"
    ++ codes "M0.INS3 00000 0\n"
    ++ codes "M0.INS3 S1L00 -9001\n"
    ++ codes "M0.INS3 S1L00 -9001\n"
    ++ codes "M0.INS0 00000 0\n"
    ++ codes "TABLE U1.T 1\n"
    ++ codes "  '  '\n"
    ++ codes "TABLE U1.H 1\n"
    ++ codes "  0 3 0.9 2\n"
    ++ codes "TABLE U2.T 0\n"
    ++ codes "TABLE U2.N 0\n"
    ++ codes "TABLE U4.D 1\n"
    ++ codes "  'A    ' 0.99 1\n")
unfolding computed
accepted_58 = refl
