-- Constraints that would be broken (23000). Printed by tools/print_runs.py from
-- sq_cases/data/runs-accepted.txt.
use Rattle.std.specs.Prelude.{◌≡◌, [], ◌∷◌, ◌++◌, codes, Ok, refl}
use Rattle.sq_meaning.specs.Report.{Bytes}
use Rattle.sq_run.specs.Answer.{answered}
use Rattle.sq_run.specs.Reported.{reported}
use Rattle.sq_run.proofs.Worked.Computed.{computed}

-- ---- accepted 71

abbrev accepted_71-schema-0 : Bytes
accepted_71-schema-0 =
    codes "create SCHEMA\r\n"
    ++ codes "Authorization u1 CREATE\n"
    ++ codes "Table T( S Integer , b NUMERIC\t( 3)  not NULL , Unique( B -- note 'x' ~\t\n"
    ++ codes ")\n"
    ++ codes ") create TABLE E\n"
    ++ codes "( x smallint  default  + 1.50 Not\n"
    ++ codes "NULL ,\n"
    ++ codes "q\r\n"
    ++ codes "INTEGER Primary Key not\r\n"
    ++ codes "null\n"
    ++ codes ", check(\r\n"
    ++ codes "(\n"
    ++ codes "e\n"
    ++ codes ". x = Q) OR Not\r\n"
    ++ codes "(\n"
    ++ codes "'AB' =  ' '))) Create VIEW\tW1 As  select U1\n"
    ++ codes ". e\n"
    ++ codes ". q , E . X FROM U1 . e WHERE 'AB' <>\n"
    ++ codes "'ABC' and\n"
    ++ codes "Q / ( - 2147483647\n"
    ++ codes "+ ( - U1 . e\t. X\n"
    ++ codes ")\n"
    ++ codes ") < Q With\tCheck  option create View V1( Q , b  , C) As\n"
    ++ codes "SELECT Count (  distinct\tR . Q),( p . X\r\n"
    ++ codes ")\t, P\t.\n"
    ++ codes "X\n"
    ++ codes "FROM\n"
    ++ codes "w1 P , E As R where P . X  >= 0\r\n"
    ++ codes "Group BY P . X  "

abbrev accepted_71-schema-1 : Bytes
accepted_71-schema-1 =
    codes "CREATE SCHEMA AUTHORIZATION U2\n"
    ++ codes "CREATE TABLE G (Q CHAR(3) DEFAULT 'AB',\n"
    ++ codes "  B CHARACTER(2) NOT NULL PRIMARY KEY,\n"
    ++ codes "  A DEC,\n"
    ++ codes "  UNIQUE (B))\n"
    ++ codes "CREATE VIEW V3 AS SELECT A FROM G\n"
    ++ codes "CREATE VIEW W2 (Q, S) AS SELECT USER, U2.V3.A FROM V3\n"

abbrev accepted_71-schema-2 : Bytes
accepted_71-schema-2 =
    codes "CREATE SCHEMA AUTHORIZATION U3\n"
    ++ codes "CREATE TABLE N (S CHAR(3) CHECK (S >= ''),\n"
    ++ codes "  A INTEGER,\n"
    ++ codes "  Q CHAR (5) NOT NULL CHECK (A > -5 OR A IS NULL),\n"
    ++ codes "  X NUMERIC(5,2),\n"
    ++ codes "  UNIQUE (Q))\n"
    ++ codes "CREATE VIEW V2 (C, X) AS SELECT USER, X FROM U3.N\n"
    ++ codes "CREATE VIEW W2 (K, C) AS SELECT R.X, 'A' FROM U3.N AS R, N AS CALL;\n"

abbrev accepted_71-module-0 : Bytes
accepted_71-module-0 =
    codes "Module\n"
    ++ codes "M0 LANGUAGE ADA Authorization\n"
    ++ codes "U2 PROCEDURE  CH2  ( Sqlcode  , :\tp0 CHAR( 5 )\r\n"
    ++ codes "); UPDATE G SET Q = B,\r\n"
    ++ codes "B -- note 'x' ~\t\n"
    ++ codes "= G\r\n"
    ++ codes ". q WHERE  B = 'A   ' ; Procedure ch3( SQLSTATE, Sqlcode ); DELETE from V3 Where 99999 NOT\n"
    ++ codes "in  (  select S from w2 ) ; PROCEDURE ins1\n"
    ++ codes "(\n"
    ++ codes ": P0 decimal, Sqlcode); insert into v3 values ( : P0\r\n"
    ++ codes "); procedure ch1 ( sqlcode\r\n"
    ++ codes ") ; INSERT Into V3( a ) SELECT A From V3; PROCEDURE Sel1 ( :\tr0 Integer , : I1 numeric(\n"
    ++ codes "3 ,\t0 ), SQLSTATE ); select u2 . V3\t. a INTO : r0 Indicator :\tI1 FROM V3 ; -- note 'x' ~\t\n"
    ++ codes "PROCEDURE SEL0( sqlstate , :  R0\n"
    ++ codes "DECIMAL)\t;  SELECT\n"
    ++ codes "Count( All\n"
    ++ codes "U2\r\n"
    ++ codes ". w2 . Q\t)\tINTO : R0 From w2\t; PROCEDURE CH0( SQLSTATE, : P0 numeric (\r\n"
    ++ codes "5, 2 ) -- note 'x' ~\t\n"
    ++ codes ", : I1 Smallint)\t; update V3 Set a\n"
    ++ codes "= :  P0 INDICATOR : I1\n"
    ++ codes "; Procedure INS0 (\n"
    ++ codes ": p0  CHAR( 3)\r\n"
    ++ codes ", sqlstate\t)\n"
    ++ codes "; Insert Into G (\n"
    ++ codes "Q ) VALUES( :\r\n"
    ++ codes "p0 ) ;  PROCEDURE CMT Sqlcode; Commit\tWork; "

abbrev accepted_71-script : Bytes
accepted_71-script =
    codes "call M0 . Ch3( ); call M0 . SEL1\r\n"
    ++ codes "( 3 , 3 );\n"
    ++ codes "Call -- note 'x' ~\t\n"
    ++ codes "M0 . Sel0\n"
    ++ codes "( + 2\n"
    ++ codes "); call M0\r\n"
    ++ codes ". ins0(  'A!%') ; table U1 .\n"
    ++ codes "E; TABLE U1\n"
    ++ codes ". t\n"
    ++ codes "; Table\n"
    ++ codes "U1 . e ; TABLE u2 . g ; table U3 . n ; "

accepted_71 : reported (answered (accepted_71-schema-0 ∷ accepted_71-schema-1 ∷ accepted_71-schema-2 ∷ []) (accepted_71-module-0 ∷ []) accepted_71-script 1000000000) ≡ Ok (
    codes "M0.CH3 02000 100\n"
    ++ codes "M0.SEL1 02000 100\n"
    ++ codes "M0.SEL0 00000 0 R0=0\n"
    ++ codes "M0.INS0 23000 -2300\n"
    ++ codes "TABLE U1.E 0\n"
    ++ codes "TABLE U1.T 0\n"
    ++ codes "TABLE U1.E 0\n"
    ++ codes "TABLE U2.G 0\n"
    ++ codes "TABLE U3.N 0\n")
unfolding computed
accepted_71 = refl

-- ---- accepted 124

abbrev accepted_124-schema-0 : Bytes
accepted_124-schema-0 =
    codes "Create schema\n"
    ++ codes "authorization U1 create table\tn\n"
    ++ codes "( C\r\n"
    ++ codes "Numeric( 5 , 2\n"
    ++ codes ")\tCheck\t( c\n"
    ++ codes "> -  5\n"
    ++ codes "Or c is null) , k numeric ( -- note 'x' ~\t\n"
    ++ codes "3), Unique( b),\tB CHARACTER varying\r\n"
    ++ codes "( 5 )  Check ( B Not in(  'AB'\r\n"
    ++ codes ",  '!') ) NOT -- note 'x' ~\t\n"
    ++ codes "null )\n"
    ++ codes "create View U1 . V3(  B)\tas  Select k from U1  . N\n"
    ++ codes "GRANT select, Update ,\r\n"
    ++ codes "insert On TABLE  N\n"
    ++ codes "TO U1 WITH GRANT  Option GRANT select ON TABLE N to u2 with grant -- note 'x' ~\t\n"
    ++ codes "option grant  Select On\tV3 to U2 create Schema AUTHORIZATION\n"
    ++ codes "u2  CREATE TABLE e ( A numeric\t( 5\r\n"
    ++ codes ", 2) Unique\n"
    ++ codes "NOT null, Q\r\n"
    ++ codes "char\r\n"
    ++ codes "( 3) DEFAULT '!A' NOT null Unique ,  X Char(  3)  not null  Unique, UNIQUE\n"
    ++ codes "( Q, A, X ) )  Create view v2 AS SELECT E . a\n"
    ++ codes "FROM e CREATE View V3( S) AS Select A  from V2\r\n"
    ++ codes "; "

abbrev accepted_124-schema-1 : Bytes
accepted_124-schema-1 =
    codes "Create\tschema  authorization\n"
    ++ codes "U3\n"

abbrev accepted_124-module-0 : Bytes
accepted_124-module-0 =
    codes "MODULE M0 LANGUAGE X1 AUTHORIZATION U2\n"
    ++ codes "DECLARE C0 SCROLL CURSOR FOR SELECT :I1 / (-U1.N.K) + :P2 INDICATOR :I3, N.K, C FROM V3 P, E AS R, U1.N WHERE :P0 :I1 - U1.N.C - U1.N.K = C;\n"
    ++ codes "PROCEDURE O0 SQLSTATE :P0 DECIMAL :I1 NUMERIC(3,0) :P2 SMALLINT :I3 SMALLINT; OPEN C0;\n"
    ++ codes "PROCEDURE F00 :N SMALLINT :R1 DEC(18,9), :I2 SMALLINT :R3 NUMERIC(18,0) :R4 DEC(18,9), SQLSTATE :I5 INTEGER; FETCH RELATIVE :N FROM C0 INTO :N :I2, :R3, :R4 INDICATOR :I5;\n"
    ++ codes "PROCEDURE L0 (SQLCODE, SQLSTATE); CLOSE C0;\n"
    ++ codes "PROCEDURE INS0 (SQLSTATE, :P0 NUMERIC(5,2), :P1 CHAR(3), :P2 CHAR(3)); INSERT INTO U2.E VALUES (:P0, :P1, :P2);\n"
    ++ codes "PROCEDURE INS1 (SQLSTATE, :P0 INTEGER, :I1 SMALLINT); INSERT INTO V3 VALUES (:P0 :I1);\n"
    ++ codes "PROCEDURE INS2 SQLSTATE, :P0 NUMERIC(5,2); INSERT INTO U2.V2 VALUES (:P0);\n"
    ++ codes "PROCEDURE CH0 SQLSTATE; UPDATE E SET X = 'A', A = A + 999999999999999999 * E.A;\n"
    ++ codes "PROCEDURE CH1 SQLSTATE SQLCODE; DELETE FROM V3;\n"
    ++ codes "PROCEDURE CH2 SQLCODE, :P0 CHAR(3), :P1 SMALLINT; UPDATE E SET A = :P1, X = X WHERE X = :P0;\n"
    ++ codes "PROCEDURE CH3 SQLSTATE, SQLCODE; UPDATE V3 SET S = S - V3.S WHERE V3.S = S;\n"
    ++ codes "PROCEDURE CMT (SQLSTATE, SQLCODE); COMMIT;\n"
    ++ codes "PROCEDURE RBK (SQLCODE); ROLLBACK;"

abbrev accepted_124-module-1 : Bytes
accepted_124-module-1 =
    codes "MODULE M1 LANGUAGE x1\n"
    ++ codes "Authorization u3 PROCEDURE Cmt Sqlstate; COMMIT WORK; PROCEDURE rbk ( sqlcode )\t; Rollback Work -- note 'x' ~\t\n"
    ++ codes "; "

abbrev accepted_124-script : Bytes
accepted_124-script =
    codes "CALL M0\n"
    ++ codes ". INS0( 7 , 'A ', -- note 'x' ~\t\n"
    ++ codes "'a');  CALL M0 . INS1(  1,\n"
    ++ codes "3) ; CALL  M0 . INS1\n"
    ++ codes "( 4\t, * ); CALL M0 . INS0( 10,\t'U1'\r\n"
    ++ codes ", 'it''' ) --\r\n"
    ++ codes "; CALL M0 . INS0 ( 1.50\n"
    ++ codes ",  '', '!!' )\t;\n"
    ++ codes "TABLE U1 . N\n"
    ++ codes "; TABLE U2\r\n"
    ++ codes ". -- note 'x' ~\t\n"
    ++ codes "E; "

accepted_124 : reported (answered (accepted_124-schema-0 ∷ accepted_124-schema-1 ∷ []) (accepted_124-module-0 ∷ accepted_124-module-1 ∷ []) accepted_124-script 1000000000) ≡ Ok (
    codes "M0.INS0 00000 0\n"
    ++ codes "M0.INS1 23000 -2300\n"
    ++ codes "M0.INS1 23000 -2300\n"
    ++ codes "M0.INS0 00000 0\n"
    ++ codes "M0.INS0 00000 0\n"
    ++ codes "TABLE U1.N 0\n"
    ++ codes "TABLE U2.E 3\n"
    ++ codes "  7.00 'A  ' 'a  '\n"
    ++ codes "  10.00 'U1 ' 'it'''\n"
    ++ codes "  1.50 '   ' '!! '\n")
unfolding computed
accepted_124 = refl
