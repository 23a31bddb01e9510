-- Schema texts that the definitions do not refuse: no element breaks a rule, given the elements before it
-- (ISO/IEC 9075:1992, 5.4, 11.3, 11.4, 11.9 and 11.19).
use Rattle.std.proofs.Common.{◌≡◌, Bool, true, false, List, [], ◌∷◌, length, Option, Some, None, refl, sym}
use Rattle.std.specs.Cmp.Lexicographic.{same_text}
use Rattle.std.specs.Prelude.{⊤, ◌&&◌, not, nat_lt, find, fold, if◌then◌else◌}
use Rattle.std.specs.List.{AllByRecursion, list_any}
use Rattle.std.specs.Option.{option_map, option_or}
use Rattle.std.proofs.lemmas.Bool.{not-false, or_parts}
use Rattle.sq_lex.specs.declared.name.Name.{Name}
use Rattle.sq_tree.specs.declared.schema.SchemaElement.{SchemaElement}
use Rattle.sq_tree.specs.declared.schema.SchemaElement.TheVariants as element
use Rattle.sq_tree.specs.declared.schema.SchemaText.{SchemaText}
use Rattle.sq_tree.specs.declared.schema.TableDefinition.{TableDefinition}
use Rattle.sq_tree.specs.declared.schema.ViewDefinition.{ViewDefinition}
use Rattle.sq_meaning.specs.Spelled.{table_of}
use Rattle.sq_meaning.specs.Schema.{Elements, checks, constraints, has_name_twice, primary_keys, table_columns, table_references}
use Rattle.sq_meaning.specs.SchemaRefusal.{Part, elements_of, elements_with, first_schema_refusal, has_bad_names, is_bad_check, is_bad_key, is_good_reference, is_made, is_made_again, names_repeat, part_fault, part_refusal, refused_for, same_user, schema_faults, schema_parts, schema_refusal, users_with, view_has_fault, with_element}

-- nothing refuses an element
abbrev pub IsAccepted : Elements → Name → SchemaElement → Type 0
IsAccepted before user e = AllByRecursion (λ f. refused_for before user e f ≡ false) schema_faults

abbrev pub AreAccepted : Elements → Type 0
AreAccepted [] = ⊤
AreAccepted (e ∷ before) = IsAccepted before e.user e.element × AreAccepted before

-- ---- texts without a refusal

none_found : {A : Type 0} (test : A → Bool) (xs : List A) → find test xs ≡ None → AllByRecursion (λ x. test x ≡ false) xs
none_found test [] e = tt
none_found {A} test (x ∷ xs) e = let parts = split (test x) (find test xs) e in (parts.0, none_found test xs parts.1)
  where
    split : (b : Bool) (o : Option A) → (if b then Some x else o) ≡ None → (b ≡ false) × (o ≡ None)
    split true o e = cc
    split false o e = (refl, e)

none_of_both : {A B : Type 0} (o : Option A) (f : A → B) (others : Option B) → option_or (option_map f o) others ≡ None
    → (o ≡ None) × (others ≡ None)
none_of_both None f others e = (refl, e)
none_of_both (Some x) f others e = cc

accepted_with : (users : List Name) (before : Elements) (user : Name) (x : Option SchemaElement) → AreAccepted before
    → part_fault users before user x ≡ None → AreAccepted (elements_with before user x)
accepted_with users before user None all e = all
accepted_with users before user (Some x) all e = (none_found (refused_for before user x) schema_faults e, all)

accepted_parts : (users : List Name) (before : Elements) (parts : List Part) → AreAccepted before
    → schema_refusal users before parts ≡ None
    → AreAccepted (fold (λ b p. elements_with b p.user p.element) before parts)
accepted_parts users before [] all e = all
accepted_parts users before (p ∷ ps) all e =
    let parts = none_of_both (part_fault users before p.user p.element) (part_refusal p) (schema_refusal (users_with users p.user p.element) (elements_with before p.user p.element) ps) e in
    accepted_parts (users_with users p.user p.element) (elements_with before p.user p.element) ps
    (accepted_with users before p.user p.element all parts.0) parts.1

pub accepted_elements : (texts : List SchemaText) → first_schema_refusal texts ≡ None → AreAccepted (elements_of texts)
accepted_elements texts e = accepted_parts [] [] (schema_parts texts) tt e

-- ---- what the rules say of an element

second_false : (a b : Bool) → not a ≡ false → (a && b) ≡ false → b ≡ false
second_false true b is e = e
second_false false b is e = cc

-- no table or view before it has the name of a table
pub table_is_new : (before : Elements) (user : Name) (t : TableDefinition) → IsAccepted before user (element.Table t)
    → is_made before (table_of user t.name) ≡ false
table_is_new before user t h =
    second_false (same_user user (table_of user t.name)) (is_made before (table_of user t.name)) h.1.1.1.1.1.1.1.1.1.1.1.1.0
    (or_parts (is_made_again before user (table_of user t.name)) (has_name_twice (table_columns t)) h.0).0

-- or of a view
pub view_is_new : (before : Elements) (user : Name) (v : ViewDefinition) → IsAccepted before user (element.View v)
    → is_made before (table_of user v.name) ≡ false
view_is_new before user v h =
    second_false (same_user user (table_of user v.name)) (is_made before (table_of user v.name)) h.1.1.1.1.1.1.1.1.1.1.1.1.0
    (or_parts (is_made_again before user (table_of user v.name)) (names_repeat before user v v.columns) h.0).0

-- no two columns of a table have one name
pub columns_apart : (before : Elements) (user : Name) (t : TableDefinition) → IsAccepted before user (element.Table t)
    → has_name_twice (table_columns t) ≡ false
columns_apart before user t h =
    (or_parts (is_made_again before user (table_of user t.name)) (has_name_twice (table_columns t)) h.0).1

-- The references of a table refer to keys of tables that are declared.
pub references_good : (before : Elements) (user : Name) (t : TableDefinition) → IsAccepted before user (element.Table t)
    → list_any (λ r. not (is_good_reference (with_element before user (element.Table t)) user t r)) (table_references t) ≡ false
references_good before user t h = h.1.1.1.1.1.0

-- no rule refuses its conditions
pub checks_good : (before : Elements) (user : Name) (t : TableDefinition) → IsAccepted before user (element.Table t)
    → list_any (is_bad_check (with_element before user (element.Table t)) user t) (checks t) ≡ false
checks_good before user t h = h.1.1.1.1.1.1.0

-- a view's query has no fault
pub view_is_sound : (before : Elements) (user : Name) (v : ViewDefinition) → IsAccepted before user (element.View v)
    → view_has_fault before user v ≡ false
view_is_sound before user v h = (or_parts (view_has_fault before user v) (has_bad_names before user v v.columns) h.1.1.1.1.1.1.1.1.0).0

-- its column list has as many names as its query has columns
pub view_names_fit : (before : Elements) (user : Name) (v : ViewDefinition) → IsAccepted before user (element.View v)
    → has_bad_names before user v v.columns ≡ false
view_names_fit before user v h = (or_parts (view_has_fault before user v) (has_bad_names before user v v.columns) h.1.1.1.1.1.1.1.1.0).1

-- a table stands in the schema of its user
pub table_of_user : (before : Elements) (user : Name) (t : TableDefinition) → IsAccepted before user (element.Table t)
    → (table_of user t.name).user ≡ user
table_of_user before user t h =
    same_text (table_of user t.name).user user (sym (not-false (same_user user (table_of user t.name)) h.1.1.1.1.1.1.1.1.1.1.1.1.0))

-- no list of columns of it is a bad one
pub keys_good : (before : Elements) (user : Name) (t : TableDefinition) → IsAccepted before user (element.Table t)
    → list_any is_bad_key (constraints t) ≡ false
keys_good before user t h = (or_parts (nat_lt 1 (length (primary_keys t))) (list_any is_bad_key (constraints t)) h.1.1.1.1.0).1
