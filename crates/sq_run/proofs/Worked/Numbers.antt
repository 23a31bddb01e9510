-- Numbers at their limits, and arithmetic. Printed by tools/print_runs.py from sq_cases/data/runs-worked.txt.
use Rattle.std.specs.Prelude.{◌≡◌, [], ◌∷◌, ◌++◌, codes, Ok, refl}
use Rattle.sq_meaning.specs.Report.{Bytes}
use Rattle.sq_run.specs.Answer.{answered}
use Rattle.sq_run.specs.Reported.{reported}
use Rattle.sq_run.specs.KitTexts.{schema, first_module, second_module}
use Rattle.sq_run.proofs.Worked.Computed.{computed}

-- ---- numbers out of range

abbrev numbers_out_of_range-script : Bytes
numbers_out_of_range-script =
    codes "CALL M1.INN (999999999999999999,0);\n"
    ++ codes "CALL M1.PLUS (*);\n"
    ++ codes "CALL M1.UPN;\n"
    ++ codes "CALL M1.QUO (*,*,*);\n"

numbers_out_of_range : reported (answered (schema ∷ []) (first_module ∷ second_module ∷ []) numbers_out_of_range-script 1000000) ≡ Ok (
    codes "M1.INN 00000 0\n"
    ++ codes "M1.PLUS 22003 -2203\n"
    ++ codes "M1.UPN 22003 -2203\n"
    ++ codes "M1.QUO 00000 0 A=3 B=-3 D=2.5\n")
unfolding computed
numbers_out_of_range = refl

-- ---- integer out of range

abbrev integer_out_of_range-script : Bytes
integer_out_of_range-script =
    codes "CALL M1.INN (2147483648,0);\n"
    ++ codes "CALL M1.UPN;\n"

integer_out_of_range : reported (answered (schema ∷ []) (first_module ∷ second_module ∷ []) integer_out_of_range-script 1000000) ≡ Ok (
    codes "M1.INN 00000 0\n"
    ++ codes "M1.UPN 22003 -2203\n")
unfolding computed
integer_out_of_range = refl

-- ---- integer at its limit

abbrev integer_at_its_limit-script : Bytes
integer_at_its_limit-script =
    codes "CALL M1.INN (2147483647,0);\n"
    ++ codes "CALL M1.UPN;\n"
    ++ codes "TABLE U1.N;\n"

integer_at_its_limit : reported (answered (schema ∷ []) (first_module ∷ second_module ∷ []) integer_at_its_limit-script 1000000) ≡ Ok (
    codes "M1.INN 00000 0\n"
    ++ codes "M1.UPN 00000 0\n"
    ++ codes "TABLE U1.N 1\n"
    ++ codes "  2147483647 2147483647\n")
unfolding computed
integer_at_its_limit = refl

-- ---- literals keep their scale

abbrev literals_keep_their_scale-schema-0 : Bytes
literals_keep_their_scale-schema-0 =
    codes "CREATE SCHEMA AUTHORIZATION U CREATE TABLE N (I INTEGER) "

abbrev literals_keep_their_scale-module-0 : Bytes
literals_keep_their_scale-module-0 =
    codes "MODULE M LANGUAGE C AUTHORIZATION U\n"
    ++ codes "PROCEDURE ONE (SQLCODE); INSERT INTO N VALUES (1);\n"
    ++ codes "PROCEDURE P (SQLSTATE, :A NUMERIC(5,2), :B NUMERIC(5,1), :C INTEGER); SELECT 0.50, .5, 12. INTO :A, :B, :C FROM N;\n"

abbrev literals_keep_their_scale-script : Bytes
literals_keep_their_scale-script =
    codes "CALL M.ONE; CALL M.P (*,*,*);"

literals_keep_their_scale : reported (answered (literals_keep_their_scale-schema-0 ∷ []) (literals_keep_their_scale-module-0 ∷ []) literals_keep_their_scale-script 1000000) ≡ Ok (
    codes "M.ONE 00000 0\n"
    ++ codes "M.P 00000 0 A=0.50 B=0.5 C=12\n")
unfolding computed
literals_keep_their_scale = refl

-- ---- quotients

abbrev quotients-schema-0 : Bytes
quotients-schema-0 =
    codes "CREATE SCHEMA AUTHORIZATION U CREATE TABLE N (I INTEGER) "

abbrev quotients-module-0 : Bytes
quotients-module-0 =
    codes "MODULE M LANGUAGE C AUTHORIZATION U\n"
    ++ codes "PROCEDURE ONE (SQLCODE); INSERT INTO N VALUES (1);\n"
    ++ codes "PROCEDURE P (SQLSTATE, :A NUMERIC(9,1), :B NUMERIC(9,0)); SELECT -7.5 / 2, 1 / 3 INTO :A, :B FROM N;\n"
    ++ codes "PROCEDURE Z (SQLSTATE, :A NUMERIC(9,1)); SELECT 1 / 0 INTO :A FROM N;\n"

abbrev quotients-script : Bytes
quotients-script =
    codes "CALL M.ONE; CALL M.P (*,*); CALL M.Z (*);"

quotients : reported (answered (quotients-schema-0 ∷ []) (quotients-module-0 ∷ []) quotients-script 1000000) ≡ Ok (
    codes "M.ONE 00000 0\n"
    ++ codes "M.P 00000 0 A=-3.7 B=0\n"
    ++ codes "M.Z 22012 -2212\n")
unfolding computed
quotients = refl

-- ---- sums

abbrev sums-schema-0 : Bytes
sums-schema-0 =
    codes "CREATE SCHEMA AUTHORIZATION U CREATE TABLE N (I INTEGER) CREATE TABLE S (X NUMERIC(18,0))"

abbrev sums-module-0 : Bytes
sums-module-0 =
    codes "MODULE M LANGUAGE C AUTHORIZATION U\n"
    ++ codes "PROCEDURE ONE (SQLCODE); INSERT INTO N VALUES (1);\n"
    ++ codes "PROCEDURE I (SQLSTATE, :X NUMERIC(18,0)); INSERT INTO S VALUES (:X);\n"
    ++ codes "PROCEDURE S (SQLSTATE, :X NUMERIC(18,0)); SELECT SUM(X) INTO :X FROM S;\n"
    ++ codes "PROCEDURE V (SQLSTATE, :X NUMERIC(18,0)); SELECT AVG(X) INTO :X FROM S;\n"
    ++ codes "PROCEDURE D (SQLSTATE); DELETE FROM S;\n"

abbrev sums-script : Bytes
sums-script =
    codes "CALL M.ONE; CALL M.I (999999999999999999); CALL M.I (1); CALL M.S (*); CALL M.I (-1); CALL M.S (*);"

sums : reported (answered (sums-schema-0 ∷ []) (sums-module-0 ∷ []) sums-script 1000000) ≡ Ok (
    codes "M.ONE 00000 0\n"
    ++ codes "M.I 00000 0\n"
    ++ codes "M.I 00000 0\n"
    ++ codes "M.S 22003 -2203\n"
    ++ codes "M.I 00000 0\n"
    ++ codes "M.S 00000 0 X=999999999999999999\n")
unfolding computed
sums = refl

-- ---- means

abbrev means-schema-0 : Bytes
means-schema-0 =
    codes "CREATE SCHEMA AUTHORIZATION U CREATE TABLE N (I INTEGER) CREATE TABLE S (X NUMERIC(18,0))"

abbrev means-module-0 : Bytes
means-module-0 =
    codes "MODULE M LANGUAGE C AUTHORIZATION U\n"
    ++ codes "PROCEDURE ONE (SQLCODE); INSERT INTO N VALUES (1);\n"
    ++ codes "PROCEDURE I (SQLSTATE, :X NUMERIC(18,0)); INSERT INTO S VALUES (:X);\n"
    ++ codes "PROCEDURE S (SQLSTATE, :X NUMERIC(18,0)); SELECT SUM(X) INTO :X FROM S;\n"
    ++ codes "PROCEDURE V (SQLSTATE, :X NUMERIC(18,0)); SELECT AVG(X) INTO :X FROM S;\n"
    ++ codes "PROCEDURE D (SQLSTATE); DELETE FROM S;\n"

abbrev means-script : Bytes
means-script =
    codes "CALL M.ONE; CALL M.I (1); CALL M.I (2); CALL M.I (2); CALL M.V (*); CALL M.D; CALL M.I (-1); CALL M.I (-2); CALL M.V (*);"

means : reported (answered (means-schema-0 ∷ []) (means-module-0 ∷ []) means-script 1000000) ≡ Ok (
    codes "M.ONE 00000 0\n"
    ++ codes "M.I 00000 0\n"
    ++ codes "M.I 00000 0\n"
    ++ codes "M.I 00000 0\n"
    ++ codes "M.V 00000 0 X=1\n"
    ++ codes "M.D 00000 0\n"
    ++ codes "M.I 00000 0\n"
    ++ codes "M.I 00000 0\n"
    ++ codes "M.V 00000 0 X=-1\n")
unfolding computed
means = refl
