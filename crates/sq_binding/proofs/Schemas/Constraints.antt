-- The rules on the constraints of a table, asked of its keys and of its references one after the other (ISO/IEC 9075:1992, 11.6 to 11.8).
use Rattle.std.proofs.Common.{◌≡◌, ℕ, zero, suc, Bool, true, false, not, ◌&&◌, ◌||◌, List, [], ◌∷◌, length, map, Some, refl, sym, ap, ◌∙◌}
use Rattle.std.proofs.lemmas.List.Elements.{filter_map-append}
use Rattle.std.proofs.lemmas.List.Folds.{list_any-append}
use Rattle.std.specs.List.{AllZip, filter_map, flat_map, list_any}
use Rattle.std.specs.Prelude.{nat_eq, nat_lt, slice_get}
use Rattle.sq_value.proofs.Truths.{or_assoc_left, or_comm, or_swap}
use Rattle.sq_lex.specs.declared.name.Name.{Name}
use Rattle.sq_tree.specs.declared.cond.Cond.{Cond}
use Rattle.sq_tree.specs.declared.schema.ColumnConstraint.{ColumnConstraint}
use Rattle.sq_tree.specs.declared.schema.ColumnConstraint.TheVariants as constraint
use Rattle.sq_tree.specs.declared.schema.ColumnDefinition.{ColumnDefinition}
use Rattle.sq_tree.specs.declared.schema.References.{References}
use Rattle.sq_tree.specs.declared.schema.TableDefinition.{TableDefinition}
use Rattle.sq_tree.specs.declared.schema.TableElement.{TableElement}
use Rattle.sq_tree.specs.declared.schema.TableElement.TheVariants as table_element
use Rattle.sq_meaning.specs.Environment.{same_name}
use Rattle.sq_meaning.specs.Spelled.{domain_of, listed}
use Rattle.sq_meaning.specs.Schema.{Constraint, Reference, column_defined, column_definitions, constraints_in, has_name_twice, is_among, key_columns, not_null_columns, null_refused, of_column, reference_in, table_columns}
use Rattle.sq_meaning.specs.SchemaRefusal as rules
use Rattle.sq_meaning.specs.SchemaRefusal.{has_unknown}
use Rattle.sq_meaning.specs.Words.{has_twice, is_some_and}
use Rattle.sq_binding.specs.Column.{TypedColumn, is_not_null, refuses_null}
use Rattle.sq_binding.specs.Key.{has_nullable, is_bad_list, is_nullable_at, most_key_columns}
use Rattle.sq_binding.proofs.Schemas.Names.{IsPlaced, among_apart, as_long, twice_placed}

-- ---- keys, and then references

-- a rule that asks of a constraint what these ask of keys and of references
module _ (test : Constraint → Bool) (on_key : List Name → Bool) (on_reference : Reference → Bool) (not_null : (n : Name) → test (Constraint.not_null n) ≡ false) (unique : (ns : List Name) → test (Constraint.unique ns) ≡ on_key ns)
    (primary : (ns : List Name) → test (Constraint.primary_key ns) ≡ on_key ns) (referential : (ns : List Name) (r : References) → test (Constraint.referential ns r) ≡ on_reference (record { columns = ns; references = r }))
    (check : (c : Cond) → test (Constraint.check c) ≡ false) where
  abbrev keys_any : List Constraint → Bool
  keys_any ks = list_any on_key (filter_map key_columns ks)

  abbrev references_any : List Constraint → Bool
  references_any ks = list_any on_reference (filter_map reference_in ks)

  pub each_constraint : (ks : List Constraint) → list_any test ks ≡ (keys_any ks || references_any ks)
  each_constraint [] = refl
  each_constraint (Constraint.not_null n ∷ ks) = λ i. not_null n i || each_constraint ks i
  each_constraint (Constraint.unique ns ∷ ks) = (λ i. unique ns i || each_constraint ks i) ∙ or_assoc_left (on_key ns) (keys_any ks) (references_any ks)
  each_constraint (Constraint.primary_key ns ∷ ks) = (λ i. primary ns i || each_constraint ks i) ∙ or_assoc_left (on_key ns) (keys_any ks) (references_any ks)
  each_constraint (Constraint.referential ns r ∷ ks) = (λ i. referential ns r i || each_constraint ks i) ∙ or_swap (on_reference (record { columns = ns; references = r })) (keys_any ks) (references_any ks)
  each_constraint (Constraint.check c ∷ ks) = λ i. check c i || each_constraint ks i

-- ---- NOT NULL

and_false : (b : Bool) → false ≡ (b && false)
and_false true = refl
and_false false = refl

module _ (name : Name) where
  here_too : (same rest later : Bool) → rest ≡ (same && later) → (same || rest) ≡ (same && true)
  here_too true rest later e = refl
  here_too false rest later e = e

  of_constraints : (column : Name) (ks : List ColumnConstraint) → is_among (filter_map null_refused (map (of_column column) ks)) name ≡ (same_name name column && list_any is_not_null ks)
  of_constraints column [] = and_false (same_name name column)
  of_constraints column (constraint.NotNull ∷ ks) = here_too (same_name name column) (is_among (filter_map null_refused (map (of_column column) ks)) name) (list_any is_not_null ks) (of_constraints column ks)
  of_constraints column (constraint.Unique ∷ ks) = of_constraints column ks
  of_constraints column (constraint.PrimaryKey ∷ ks) = of_constraints column ks
  of_constraints column (constraint.References r ∷ ks) = of_constraints column ks
  of_constraints column (constraint.Check c ∷ ks) = of_constraints column ks

  abbrev refused : ColumnDefinition → Bool
  refused c = same_name name c.name && refuses_null c

  of_elements : (es : List TableElement) → is_among (filter_map null_refused (flat_map constraints_in es)) name ≡ list_any refused (filter_map column_defined es)
  of_elements [] = refl
  of_elements (table_element.Column c ∷ es) =
      ap (λ names. is_among names name) (filter_map-append null_refused (map (of_column c.name) c.constraints) (flat_map constraints_in es))
      ∙ list_any-append (same_name name) (filter_map null_refused (map (of_column c.name) c.constraints)) (filter_map null_refused (flat_map constraints_in es))
      ∙ (λ i. of_constraints c.name c.constraints i || of_elements es i)
  of_elements (table_element.Unique columns ∷ es) = of_elements es
  of_elements (table_element.PrimaryKey columns ∷ es) = of_elements es
  of_elements (table_element.ForeignKey key ∷ es) = of_elements es
  of_elements (table_element.Check c ∷ es) = of_elements es

-- a column definition and its domain
pub record IsTyped (d : ColumnDefinition) (c : TypedColumn) : Type 0 where
  pub definition : c.definition ≡ d
  pub domain : domain_of d.data_type ≡ Some c.domain

-- a test of what stands at the same places of two lists
pub any_zip : {A B : Type 0} (R : A → B → Type 0) (f : A → Bool) (g : B → Bool) → ((x : A) (y : B) → R x y → f x ≡ g y) → (xs : List A) (ys : List B) → AllZip R xs ys → list_any f xs ≡ list_any g ys
any_zip R f g h [] [] all = refl
any_zip R f g h [] (y ∷ ys) all = absurd all
any_zip R f g h (x ∷ xs) [] all = absurd all
any_zip R f g h (x ∷ xs) (y ∷ ys) all = λ i. h x y all.0 i || any_zip R f g h xs ys all.1 i

pub some_zip : {A B : Type 0} (R : A → B → Type 0) (f : A → Bool) (g : B → Bool) → ((x : A) (y : B) → R x y → f x ≡ g y) → (xs : List A) (ys : List B) → AllZip R xs ys → (n : ℕ) → is_some_and f (slice_get xs n) ≡ is_some_and g (slice_get ys n)
some_zip R f g h [] [] all n = refl
some_zip R f g h [] (y ∷ ys) all n = absurd all
some_zip R f g h (x ∷ xs) [] all n = absurd all
some_zip R f g h (x ∷ xs) (y ∷ ys) all zero = h x y all.0
some_zip R f g h (x ∷ xs) (y ∷ ys) all (suc n) = some_zip R f g h xs ys all.1 n

module _ (t : TableDefinition) (apart : has_name_twice (table_columns t) ≡ false) (columns : List TypedColumn) (typed : AllZip IsTyped (column_definitions t) columns) where
  nullable_at : (name : Name) (n : ℕ) → IsPlaced (table_columns t) name n → not (is_among (not_null_columns t) name) ≡ is_nullable_at columns n
  nullable_at name n at =
      ap not
      (of_elements name (listed t.elements)
      ∙ among_apart (λ (c : ColumnDefinition). c.name) refuses_null name (column_definitions t) apart n at
      ∙ some_zip IsTyped refuses_null (λ c. refuses_null c.definition) (λ d c is. ap refuses_null (sym is.definition)) (column_definitions t) columns typed n)

  -- each column of a key is NOT NULL, by names and by positions
  pub keys_nullable : (keys : List (List Name)) (positions : List (List ℕ)) → AllZip (AllZip (IsPlaced (table_columns t))) keys positions → list_any (has_unknown (not_null_columns t)) keys ≡ list_any (has_nullable columns) positions
  keys_nullable =
      any_zip (AllZip (IsPlaced (table_columns t))) (has_unknown (not_null_columns t)) (has_nullable columns)
      (λ names ns. any_zip (IsPlaced (table_columns t)) (λ n. not (is_among (not_null_columns t) n)) (is_nullable_at columns) nullable_at names ns)

-- ---- lists of columns

pub list_bad : (names wanted : List Name) (ns : List ℕ) → AllZip (IsPlaced names) wanted ns → rules.is_bad_list wanted ≡ is_bad_list ns
list_bad names wanted ns h = (λ i. twice_placed names wanted ns h i || nat_lt most_key_columns (as_long (IsPlaced names) wanted ns h i)) ∙ or_comm (has_twice nat_eq ns) (nat_lt most_key_columns (length ns))

pub lists_bad : (names : List Name) (keys : List (List Name)) (positions : List (List ℕ)) → AllZip (AllZip (IsPlaced names)) keys positions → list_any rules.is_bad_list keys ≡ list_any is_bad_list positions
lists_bad names = any_zip (AllZip (IsPlaced names)) rules.is_bad_list is_bad_list (λ wanted ns h. list_bad names wanted ns h)
