-- What is read of a table definition is what the rules say of it (ISO/IEC 9075:1992, 11.3 to 11.9).
use Rattle.std.proofs.Common.{◌≡◌, true, false, List, [], ◌∷◌, ◌++◌, flat_map, map, Option, Some, None, refl, sym, ap, ◌∙◌, position}
use Rattle.std.specs.List.{cons_option, filter_map}
use Rattle.std.proofs.lemmas.List.{map-append}
use Rattle.std.proofs.lemmas.List.Elements.{filter_map-append}
use Rattle.std.proofs.lemmas.Simd.{map-map}
use Rattle.sq_lex.specs.declared.name.Name.{Name}
use Rattle.sq_tree.specs.declared.cond.Cond.{Cond}
use Rattle.sq_tree.specs.declared.schema.ColumnConstraint.{ColumnConstraint}
use Rattle.sq_tree.specs.declared.schema.ColumnConstraint.TheVariants as constraint
use Rattle.sq_tree.specs.declared.schema.ColumnDefinition.{ColumnDefinition}
use Rattle.sq_tree.specs.declared.schema.References.{References}
use Rattle.sq_tree.specs.declared.schema.TableDefinition.{TableDefinition}
use Rattle.sq_tree.specs.declared.schema.TableElement.{TableElement}
use Rattle.sq_tree.specs.declared.schema.TableElement.TheVariants as element
use Rattle.sq_meaning.specs.Spelled.{listed}
use Rattle.sq_meaning.specs.Schema as rules
use Rattle.sq_meaning.specs.Schema.{checks, column_defined, column_definitions, condition_in, constraints, constraints_in, key_columns, keys, of_column, primary_keys, reference_in, table_columns, table_references}
use Rattle.sq_binding.specs.Key.{is_primary, primary_place}
use Rattle.sq_catalog.specs.Checks.{check_of_column, checks_in, checks_written}
use Rattle.sq_catalog.specs.Columns.{column_in, columns_written}
use Rattle.sq_catalog.specs.Keys.{key_of_column, keys_in, keys_written, names_written, primaries, primary_among, primary_columns}
use Rattle.sq_catalog.specs.Reference.{constraint_lent, constraints_lent, reference_seen}
use Rattle.sq_catalog.specs.References.{ReferentialConstraint, reference_on, references_in, references_written}
use Rattle.sq_catalog.specs.declared.written.WrittenKey.{WrittenKey}
use Rattle.sq_catalog.specs.declared.written.WrittenReference.{WrittenReference}
use Rattle.sq_catalog.proofs.CreateTable.References.{position_map}

-- ---- column definitions

each_column : (es : List TableElement) → flat_map column_in es ≡ filter_map column_defined es
each_column [] = refl
each_column (element.Column w ∷ es) = ap (λ ws. w ∷ ws) (each_column es)
each_column (element.Unique columns ∷ es) = each_column es
each_column (element.PrimaryKey columns ∷ es) = each_column es
each_column (element.ForeignKey key ∷ es) = each_column es
each_column (element.Check condition ∷ es) = each_column es

pub columns_are_written : (t : TableDefinition) → columns_written t ≡ column_definitions t
columns_are_written t = each_column (listed t.elements)

pub names_are_written : (t : TableDefinition) → names_written t ≡ table_columns t
names_are_written t = ap (λ ws. map (λ (w : ColumnDefinition). w.name) ws) (columns_are_written t)

-- ---- conditions

checks_of_column : (name : Name) (cs : List ColumnConstraint) → flat_map check_of_column cs ≡ filter_map condition_in (map (of_column name) cs)
checks_of_column name [] = refl
checks_of_column name (constraint.NotNull ∷ cs) = checks_of_column name cs
checks_of_column name (constraint.Unique ∷ cs) = checks_of_column name cs
checks_of_column name (constraint.PrimaryKey ∷ cs) = checks_of_column name cs
checks_of_column name (constraint.References to ∷ cs) = checks_of_column name cs
checks_of_column name (constraint.Check condition ∷ cs) = ap (λ l. condition ∷ l) (checks_of_column name cs)

each_check : (es : List TableElement) → flat_map checks_in es ≡ filter_map condition_in (flat_map constraints_in es)
each_check [] = refl
each_check (element.Column w ∷ es) =
    (λ i. checks_of_column w.name w.constraints i ++ each_check es i)
    ∙ sym (filter_map-append condition_in (map (of_column w.name) w.constraints) (flat_map constraints_in es))
each_check (element.Unique columns ∷ es) = each_check es
each_check (element.PrimaryKey columns ∷ es) = each_check es
each_check (element.ForeignKey key ∷ es) = each_check es
each_check (element.Check condition ∷ es) = ap (λ l. condition ∷ l) (each_check es)

pub checks_are_written : (t : TableDefinition) → checks_written t ≡ checks t
checks_are_written t = each_check (listed t.elements)

-- ---- keys

module _ {A : Type 0} (f : WrittenKey → Option A) (g : rules.Constraint → Option A) (unique : (names : List Name) → f (record { is_primary = false; columns = names }) ≡ g (rules.Constraint.unique names))
    (primary : (names : List Name) → f (record { is_primary = true; columns = names }) ≡ g (rules.Constraint.primary_key names)) (not_null : (name : Name) → g (rules.Constraint.not_null name) ≡ None)
    (referential : (names : List Name) (to : References) → g (rules.Constraint.referential names to) ≡ None) (check : (c : Cond) → g (rules.Constraint.check c) ≡ None) where
  abbrev after : List rules.Constraint → Option A → List A
  after rest o = cons_option o (filter_map g rest)

  of_columns : (name : Name) (cs : List ColumnConstraint) → filter_map f (flat_map (key_of_column name) cs) ≡ filter_map g (map (of_column name) cs)
  of_columns name [] = refl
  of_columns name (constraint.NotNull ∷ cs) = of_columns name cs ∙ ap (after (map (of_column name) cs)) (sym (not_null name))
  of_columns name (constraint.Unique ∷ cs) = λ i. cons_option (unique (name ∷ []) i) (of_columns name cs i)
  of_columns name (constraint.PrimaryKey ∷ cs) = λ i. cons_option (primary (name ∷ []) i) (of_columns name cs i)
  of_columns name (constraint.References to ∷ cs) = of_columns name cs ∙ ap (after (map (of_column name) cs)) (sym (referential (name ∷ []) to))
  of_columns name (constraint.Check condition ∷ cs) = of_columns name cs ∙ ap (after (map (of_column name) cs)) (sym (check condition))

  each_key : (es : List TableElement) → filter_map f (flat_map keys_in es) ≡ filter_map g (flat_map constraints_in es)
  each_key [] = refl
  each_key (element.Column w ∷ es) =
      filter_map-append f (flat_map (key_of_column w.name) w.constraints) (flat_map keys_in es)
      ∙ (λ i. of_columns w.name w.constraints i ++ each_key es i)
      ∙ sym (filter_map-append g (map (of_column w.name) w.constraints) (flat_map constraints_in es))
  each_key (element.Unique columns ∷ es) = λ i. cons_option (unique (listed columns) i) (each_key es i)
  each_key (element.PrimaryKey columns ∷ es) = λ i. cons_option (primary (listed columns) i) (each_key es i)
  each_key (element.ForeignKey key ∷ es) = each_key es ∙ ap (after (flat_map constraints_in es)) (sym (referential (listed key.columns) key.references))
  each_key (element.Check condition ∷ es) = each_key es ∙ ap (after (flat_map constraints_in es)) (sym (check condition))

all_there : {A B : Type 0} (f : A → B) (xs : List A) → filter_map (λ x. Some (f x)) xs ≡ map f xs
all_there f [] = refl
all_there f (x ∷ xs) = ap (λ l. f x ∷ l) (all_there f xs)

pub keys_are_written : (t : TableDefinition) → map (λ k. k.columns) (keys_written t) ≡ keys t
keys_are_written t =
    sym (all_there (λ (k : WrittenKey). k.columns) (keys_written t))
    ∙ each_key (λ k. Some k.columns) key_columns (λ names. refl) (λ names. refl) (λ name. refl) (λ names to. refl) (λ c. refl) (listed t.elements)

pub primaries_are_written : (t : TableDefinition) → primaries (keys_written t) ≡ primary_keys t
primaries_are_written t = each_key primary_columns rules.primary_columns (λ names. refl) (λ names. refl) (λ name. refl) (λ names to. refl) (λ c. refl) (listed t.elements)

flags_are_written : (t : TableDefinition) → map (λ k. k.is_primary) (keys_written t) ≡ filter_map is_primary (constraints t)
flags_are_written t =
    sym (all_there (λ (k : WrittenKey). k.is_primary) (keys_written t))
    ∙ each_key (λ k. Some k.is_primary) is_primary (λ names. refl) (λ names. refl) (λ name. refl) (λ names to. refl) (λ c. refl) (listed t.elements)

pub primary_is_written : (t : TableDefinition) → primary_among (keys_written t) ≡ primary_place t
primary_is_written t = sym (position_map (λ (k : WrittenKey). k.is_primary) (λ primary. primary) (keys_written t)) ∙ ap (position (λ primary. primary)) (flags_are_written t)

-- ---- references

abbrev pub reference_of : ReferentialConstraint → rules.Reference
reference_of w = record { columns = w.columns; references = w.to }

references_of_column : (name : Name) (cs : List ColumnConstraint) → map reference_of (flat_map (reference_on name) cs) ≡ filter_map reference_in (map (of_column name) cs)
references_of_column name [] = refl
references_of_column name (constraint.NotNull ∷ cs) = references_of_column name cs
references_of_column name (constraint.Unique ∷ cs) = references_of_column name cs
references_of_column name (constraint.PrimaryKey ∷ cs) = references_of_column name cs
references_of_column name (constraint.References to ∷ cs) = ap (λ l. record { columns = name ∷ []; references = to } ∷ l) (references_of_column name cs)
references_of_column name (constraint.Check condition ∷ cs) = references_of_column name cs

each_reference : (es : List TableElement) → map reference_of (flat_map references_in es) ≡ filter_map reference_in (flat_map constraints_in es)
each_reference [] = refl
each_reference (element.Column w ∷ es) =
    map-append reference_of (flat_map (reference_on w.name) w.constraints) (flat_map references_in es)
    ∙ (λ i. references_of_column w.name w.constraints i ++ each_reference es i)
    ∙ sym (filter_map-append reference_in (map (of_column w.name) w.constraints) (flat_map constraints_in es))
each_reference (element.Unique columns ∷ es) = each_reference es
each_reference (element.PrimaryKey columns ∷ es) = each_reference es
each_reference (element.ForeignKey key ∷ es) = ap (λ l. record { columns = listed key.columns; references = key.references } ∷ l) (each_reference es)
each_reference (element.Check condition ∷ es) = each_reference es

pub references_are_written : (t : TableDefinition) → map reference_of (references_written t) ≡ table_references t
references_are_written t = each_reference (listed t.elements)

-- the references that are lent
pub references_lent : (ws : List WrittenReference) (rs : List ReferentialConstraint) → constraints_lent ws ≡ rs → map reference_seen ws ≡ map reference_of rs
references_lent ws rs is = sym (map-map reference_of constraint_lent ws) ∙ ap (map reference_of) is
