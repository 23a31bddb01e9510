-- Schemas that are refused. Printed by tools/print_runs.py from sq_cases/data/runs-worked.txt.
use Rattle.std.specs.Prelude.{◌≡◌, [], ◌∷◌, ◌++◌, codes, Err, refl}
use Rattle.sq_meaning.specs.declared.refusal.SchemaFault.TheVariants as schema_fault
use Rattle.sq_perform.specs.declared.refusal.RefusalName.TheVariants as what
use Rattle.sq_meaning.specs.Report.{Bytes}
use Rattle.sq_perform.specs.declared.refusal.RunFault.TheVariants.{SchemaRefused}
use Rattle.sq_run.specs.Answer.{answered}
use Rattle.sq_run.specs.Reported.{reported}
use Rattle.sq_run.specs.KitTexts.{schema}
use Rattle.sq_run.proofs.Worked.Computed.{computed}

-- ---- key that may be null

abbrev key_that_may_be_null-schema-0 : Bytes
key_that_may_be_null-schema-0 =
    codes "CREATE SCHEMA AUTHORIZATION U CREATE TABLE D (A INTEGER UNIQUE)"

abbrev key_that_may_be_null-script : Bytes
key_that_may_be_null-script =
    []

key_that_may_be_null : reported (answered (key_that_may_be_null-schema-0 ∷ []) ([]) key_that_may_be_null-script 1000000) ≡ Err (SchemaRefused (record { text = 0; line = 1; column = 31; what = what.Schema (record { fault = schema_fault.NullableKey }) }))
unfolding computed
key_that_may_be_null = refl

-- ---- column twice

abbrev column_twice-schema-1 : Bytes
column_twice-schema-1 =
    codes "CREATE SCHEMA AUTHORIZATION U\n"
    ++ codes "CREATE TABLE D (A INTEGER, A INTEGER)"

abbrev column_twice-script : Bytes
column_twice-script =
    []

column_twice : reported (answered (schema ∷ column_twice-schema-1 ∷ []) ([]) column_twice-script 1000000) ≡ Err (SchemaRefused (record { text = 1; line = 2; column = 1; what = what.Schema (record { fault = schema_fault.NameTwice }) }))
unfolding computed
column_twice = refl

-- ---- unknown column in a key

abbrev unknown_column_in_a_key-schema-1 : Bytes
unknown_column_in_a_key-schema-1 =
    codes "CREATE SCHEMA AUTHORIZATION U\n"
    ++ codes "CREATE TABLE D (A INTEGER, UNIQUE (B))"

abbrev unknown_column_in_a_key-script : Bytes
unknown_column_in_a_key-script =
    []

unknown_column_in_a_key : reported (answered (schema ∷ unknown_column_in_a_key-schema-1 ∷ []) ([]) unknown_column_in_a_key-script 1000000) ≡ Err (SchemaRefused (record { text = 1; line = 2; column = 1; what = what.Schema (record { fault = schema_fault.UnknownName }) }))
unfolding computed
unknown_column_in_a_key = refl

-- ---- scale above precision

abbrev scale_above_precision-schema-1 : Bytes
scale_above_precision-schema-1 =
    codes "CREATE SCHEMA AUTHORIZATION U\n"
    ++ codes "CREATE TABLE D (A NUMERIC(3,4))"

abbrev scale_above_precision-script : Bytes
scale_above_precision-script =
    []

scale_above_precision : reported (answered (schema ∷ scale_above_precision-schema-1 ∷ []) ([]) scale_above_precision-script 1000000) ≡ Err (SchemaRefused (record { text = 1; line = 2; column = 1; what = what.Schema (record { fault = schema_fault.BadType }) }))
unfolding computed
scale_above_precision = refl

-- ---- unique column that may be null

abbrev unique_column_that_may_be_null-schema-1 : Bytes
unique_column_that_may_be_null-schema-1 =
    codes "CREATE SCHEMA AUTHORIZATION U\n"
    ++ codes "CREATE TABLE D (A INTEGER UNIQUE)"

abbrev unique_column_that_may_be_null-script : Bytes
unique_column_that_may_be_null-script =
    []

unique_column_that_may_be_null : reported (answered (schema ∷ unique_column_that_may_be_null-schema-1 ∷ []) ([]) unique_column_that_may_be_null-script 1000000) ≡ Err (SchemaRefused (record { text = 1; line = 2; column = 1; what = what.Schema (record { fault = schema_fault.NullableKey }) }))
unfolding computed
unique_column_that_may_be_null = refl

-- ---- two primary keys

abbrev two_primary_keys-schema-1 : Bytes
two_primary_keys-schema-1 =
    codes "CREATE SCHEMA AUTHORIZATION U\n"
    ++ codes "CREATE TABLE D (A INTEGER NOT NULL PRIMARY KEY, B INTEGER NOT NULL PRIMARY KEY)"

abbrev two_primary_keys-script : Bytes
two_primary_keys-script =
    []

two_primary_keys : reported (answered (schema ∷ two_primary_keys-schema-1 ∷ []) ([]) two_primary_keys-script 1000000) ≡ Err (SchemaRefused (record { text = 1; line = 2; column = 1; what = what.Schema (record { fault = schema_fault.BadKey }) }))
unfolding computed
two_primary_keys = refl

-- ---- reference without primary key

abbrev reference_without_primary_key-schema-1 : Bytes
reference_without_primary_key-schema-1 =
    codes "CREATE SCHEMA AUTHORIZATION U\n"
    ++ codes "CREATE TABLE D (A INTEGER REFERENCES D)"

abbrev reference_without_primary_key-script : Bytes
reference_without_primary_key-script =
    []

reference_without_primary_key : reported (answered (schema ∷ reference_without_primary_key-schema-1 ∷ []) ([]) reference_without_primary_key-script 1000000) ≡ Err (SchemaRefused (record { text = 1; line = 2; column = 1; what = what.Schema (record { fault = schema_fault.BadReference }) }))
unfolding computed
reference_without_primary_key = refl

-- ---- check with user

abbrev check_with_user-schema-1 : Bytes
check_with_user-schema-1 =
    codes "CREATE SCHEMA AUTHORIZATION U\n"
    ++ codes "CREATE TABLE D (A INTEGER CHECK (USER = 'X'))"

abbrev check_with_user-script : Bytes
check_with_user-script =
    []

check_with_user : reported (answered (schema ∷ check_with_user-schema-1 ∷ []) ([]) check_with_user-script 1000000) ≡ Err (SchemaRefused (record { text = 1; line = 2; column = 1; what = what.Schema (record { fault = schema_fault.BadCheck }) }))
unfolding computed
check_with_user = refl

-- ---- default too long

abbrev default_too_long-schema-1 : Bytes
default_too_long-schema-1 =
    codes "CREATE SCHEMA AUTHORIZATION U\n"
    ++ codes "CREATE TABLE D (A CHAR(2) DEFAULT 'ABC')"

abbrev default_too_long-script : Bytes
default_too_long-script =
    []

default_too_long : reported (answered (schema ∷ default_too_long-schema-1 ∷ []) ([]) default_too_long-script 1000000) ≡ Err (SchemaRefused (record { text = 1; line = 2; column = 1; what = what.Schema (record { fault = schema_fault.BadDefault }) }))
unfolding computed
default_too_long = refl

-- ---- view column without name

abbrev view_column_without_name-schema-1 : Bytes
view_column_without_name-schema-1 =
    codes "CREATE SCHEMA AUTHORIZATION U\n"
    ++ codes "CREATE TABLE D (A INTEGER)\n"
    ++ codes "CREATE VIEW V AS SELECT 1 FROM D"

abbrev view_column_without_name-script : Bytes
view_column_without_name-script =
    []

view_column_without_name : reported (answered (schema ∷ view_column_without_name-schema-1 ∷ []) ([]) view_column_without_name-script 1000000) ≡ Err (SchemaRefused (record { text = 1; line = 3; column = 1; what = what.Schema (record { fault = schema_fault.BadView }) }))
unfolding computed
view_column_without_name = refl

-- ---- check option on distinct

abbrev check_option_on_distinct-schema-1 : Bytes
check_option_on_distinct-schema-1 =
    codes "CREATE SCHEMA AUTHORIZATION U\n"
    ++ codes "CREATE TABLE D (A INTEGER)\n"
    ++ codes "CREATE VIEW V AS SELECT DISTINCT A FROM D WITH CHECK OPTION"

abbrev check_option_on_distinct-script : Bytes
check_option_on_distinct-script =
    []

check_option_on_distinct : reported (answered (schema ∷ check_option_on_distinct-schema-1 ∷ []) ([]) check_option_on_distinct-script 1000000) ≡ Err (SchemaRefused (record { text = 1; line = 3; column = 1; what = what.Schema (record { fault = schema_fault.BadCheckOption }) }))
unfolding computed
check_option_on_distinct = refl

-- ---- view without privilege

abbrev view_without_privilege-schema-1 : Bytes
view_without_privilege-schema-1 =
    codes "CREATE SCHEMA AUTHORIZATION U\n"
    ++ codes "CREATE TABLE D (A INTEGER)\n"
    ++ codes "CREATE VIEW V AS SELECT I FROM U1.N"

abbrev view_without_privilege-script : Bytes
view_without_privilege-script =
    []

view_without_privilege : reported (answered (schema ∷ view_without_privilege-schema-1 ∷ []) ([]) view_without_privilege-script 1000000) ≡ Err (SchemaRefused (record { text = 1; line = 3; column = 1; what = what.Schema (record { fault = schema_fault.PrivilegeMissing }) }))
unfolding computed
view_without_privilege = refl

-- ---- table of another user

abbrev table_of_another_user-schema-1 : Bytes
table_of_another_user-schema-1 =
    codes "CREATE SCHEMA AUTHORIZATION U\n"
    ++ codes "CREATE TABLE D (A INTEGER)\n"
    ++ codes "CREATE TABLE U1.E (A INTEGER)"

abbrev table_of_another_user-script : Bytes
table_of_another_user-script =
    []

table_of_another_user : reported (answered (schema ∷ table_of_another_user-schema-1 ∷ []) ([]) table_of_another_user-script 1000000) ≡ Err (SchemaRefused (record { text = 1; line = 3; column = 1; what = what.Schema (record { fault = schema_fault.OtherSchema }) }))
unfolding computed
table_of_another_user = refl
