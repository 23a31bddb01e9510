-- The base table that a searched UPDATE or DELETE names, by its definition and as it is bound (ISO/IEC
-- 9075:1992, 11.3, 11.4 and 11.7): its columns stand at their own positions, no view is between, and its
-- keys are those that are written.
use Rattle.std.proofs.Common.{◌≡◌, ℕ, zero, suc, ◌+◌, Bool, true, false, List, [], ◌∷◌, map, Some, None, refl, sym, ap, subst, ◌∙◌, arith}
use Rattle.std.specs.Prelude.{◌||◌, filter_map, if◌then◌else◌, slice_get, IfSome}
use Rattle.std.specs.List.{AllByRecursion, AllZip, cons_option, enumerate_from, list_any}
use Rattle.std.specs.Option.{option_and_then}
use Rattle.sq_lex.specs.declared.name.Name.{Name}
use Rattle.sq_tree.specs.declared.schema.ColumnDefinition.{ColumnDefinition}
use Rattle.sq_tree.specs.declared.schema.SchemaElement.{SchemaElement}
use Rattle.sq_tree.specs.declared.schema.SchemaElement.TheVariants as element
use Rattle.sq_tree.specs.declared.schema.SchemaText.{SchemaText}
use Rattle.sq_tree.specs.declared.schema.TableDefinition.{TableDefinition}
use Rattle.sq_meaning.specs.Environment.{TableName, same_table}
use Rattle.sq_meaning.specs.Spelled.{table_of}
use Rattle.sq_meaning.specs.Catalog.{base_count}
use Rattle.sq_meaning.specs.Schema.{Constraint, Elements, column_definitions, constraints, has_name_twice, key_columns, keys, table_if_named, table_named}
use Rattle.sq_meaning.specs.SchemaRefusal.{elements_of, first_schema_refusal, is_bad_key}
use Rattle.sq_bound.specs.Fits.{IsBase}
use Rattle.sq_bound.specs.Known.{KnownTable, KnownTables, Under, under_of}
use Rattle.sq_bound.specs.Quiet.{are_quiet_conds}
use Rattle.sq_bound.specs.declared.condition.BoundSpecification.{BoundSpecification}
use Rattle.sq_bound.specs.declared.names.BaseTable.{BaseTable as BoundTable}
use Rattle.sq_bound.specs.declared.names.Column.{Column}
use Rattle.sq_bound.specs.declared.names.Leaf.{Leaf}
use Rattle.sq_binding.specs.From.{column_over}
use Rattle.sq_binding.specs.Scope.{ItemColumn}
use Rattle.sq_binding.specs.Names.{descriptor_of, meant_by}
use Rattle.sq_binding.specs.Written.{item_at_leaf}
use Rattle.sq_run.proofs.Sites.SiteLaws.{neither, none_passes}
use Rattle.sq_catalog.specs.Catalog.{base_meant, itself}
use Rattle.sq_catalog.specs.Columns.{IsColumnOf}
use Rattle.sq_catalog.specs.Declares.{Declares}
use Rattle.sq_catalog.specs.Keys.{KeysStandAt, StandAt, keys_written, names_written}
use Rattle.sq_catalog.proofs.CreateTable.WrittenRules.{columns_are_written, keys_are_written, names_are_written}
use Rattle.sq_run.proofs.Places.Databases.{table_is}
use Rattle.sq_run.proofs.Places.Items.{IsInOrder, columns_at_leaf, names_at_leaf, names_of_columns}
use Rattle.sq_run.proofs.Laws.Accepted.{AreAccepted, IsAccepted, accepted_elements, keys_good}
use Rattle.sq_run.proofs.Schemas.Declared.{Within, all_within, base_there, within_before}
use Rattle.sq_run.proofs.Schemas.DeclaredColumns.{names_seen}
use Rattle.sq_run.proofs.Schemas.DeclaredPlaces.{HasBase}
use Rattle.sq_run.proofs.Schemas.DeclaredTables.{all_chosen}
use Rattle.sq_run.proofs.Steps.Unnamed.{WrittenKey}

-- no column is listed twice in a key
key_apart : (c : Constraint) → is_bad_key c ≡ false → IfSome (key_columns c) (λ names. has_name_twice names ≡ false)
key_apart (Constraint.not_null name) e = tt
key_apart (Constraint.unique names) e = (neither (has_name_twice names) _ e).0
key_apart (Constraint.primary_key names) e = (neither (has_name_twice names) _ e).0
key_apart (Constraint.referential names r) e = tt
key_apart (Constraint.check c) e = tt

-- one of the keys that are written for which a test is true, with its number and the positions of its columns
pub record IsKeyAt (test : List Name → Bool) (columns : List Name) (held : List (List ℕ)) : Type 0 where
  pub key : List Name
  pub number : ℕ
  pub places : List ℕ
  pub passes : test key ≡ true
  pub once : has_name_twice key ≡ false
  pub stand : StandAt columns key places
  pub there : slice_get held number ≡ Some places

key_at_one : (test : List Name → Bool) (columns : List Name) (ks : List WrittenKey) (held : List (List ℕ)) → KeysStandAt columns ks held
    → AllByRecursion (λ names. has_name_twice names ≡ false) (map (λ k. k.columns) ks) → list_any test (map (λ k. k.columns) ks) ≡ true
    → IsKeyAt test columns held
key_at_one test columns [] held stand once any = cc
key_at_one test columns (k ∷ ks) [] stand once any = absurd stand
key_at_one test columns (k ∷ ks) (places ∷ held) stand once any =
    by_test (test k.columns) refl (key_at_one test columns ks held stand.1 once.1) any
  where
    by_test : (b : Bool) → test k.columns ≡ b → (list_any test (map (λ k. k.columns) ks) ≡ true → IsKeyAt test columns held)
        → (b || list_any test (map (λ k. k.columns) ks)) ≡ true → IsKeyAt test columns (places ∷ held)
    by_test true passes others any =
        record { key = k.columns; number = 0; places = places; passes = passes; once = once.0; stand = stand.0; there = refl }
    by_test false passes others any =
        let found = others any in
        record { key = found.key; number = suc found.number; places = found.places; passes = found.passes; once = found.once; stand = found.stand; there = found.there }

-- columns of a base table stand at their own positions
at_own : (n k : ℕ) (ws : List ColumnDefinition) (cs : List Column) → AllZip IsColumnOf (enumerate_from n ws) cs → (c : ItemColumn)
    → slice_get (columns_at_leaf cs) k ≡ Some c → c.position ≡ n + k
at_own n k [] [] h c e = cc
at_own n k [] (x ∷ cs) h c e = absurd h
at_own n k (w ∷ ws) [] h c e = absurd h
at_own n zero (w ∷ ws) (x ∷ cs) h c e =
    let there : column_over (x.leaf_column, descriptor_of x) ≡ c = cc in
    let added : n ≡ n + 0 = omega arith in
    sym (ap (λ (d : ItemColumn). d.position) there) ∙ h.0.place ∙ added
at_own n (suc k) (w ∷ ws) (x ∷ cs) h c e =
    let added : n + 1 + k ≡ n + suc k = omega arith in at_own (n + 1) k ws cs h.1 c e ∙ added

module _ (texts : List SchemaText) (known : KnownTables) (bases : List BoundTable) (views : List BoundSpecification)
    (d : Declares texts known bases views) (accepted : first_schema_refusal texts ≡ None) where
  -- what the catalog has of the base table of a name
  pub record IsBaseNamed (name : TableName) (t : TableDefinition) : Type 0 where
    pub user : Name
    pub number : ℕ
    pub base : HasBase texts known bases views d user t number
    pub named : table_of user t.name ≡ name
    pub once : AllByRecursion (λ names. has_name_twice names ≡ false) (keys t)

  base_named : (elements : Elements) → AreAccepted elements → Within texts known bases views d accepted elements → (name : TableName)
      (t : TableDefinition) → table_named elements name ≡ Some t → IsBaseNamed name t
  base_named [] a w name t e = cc
  base_named (x ∷ before) a w name t e =
      of_one x.user x.element a.0 w (base_named before a.1 (within_before texts known bases views d accepted x before w) name t) e
    where
      of_one : (user : Name) (x : SchemaElement) → IsAccepted before user x
          → Within texts known bases views d accepted (record { user = user; element = x } ∷ before)
          → (table_named before name ≡ Some t → IsBaseNamed name t)
          → slice_get (cons_option (table_if_named name user x) (filter_map (λ e. table_if_named name e.user e.element) before)) 0 ≡ Some t
          → IsBaseNamed name t
      of_one user (element.View v) h w others e = others e
      of_one user (element.Grant g) h w others e = others e
      of_one user (element.Table u) h w others e = by_name (same_table (table_of user u.name) name) refl e
        where
          by_name : (b : Bool) → same_table (table_of user u.name) name ≡ b
              → slice_get (cons_option (if b then Some u else None) (filter_map (λ e. table_if_named name e.user e.element) before)) 0 ≡ Some t
              → IsBaseNamed name t
          by_name false same e = others e
          by_name true same e =
              let is : u ≡ t = cc in
              subst (IsBaseNamed name) is (record {
                user = user;
                number = base_count before;
                base = base_there texts known bases views d accepted before user u h w;
                named = table_is (table_of user u.name) name same;
                once =
                    all_chosen key_columns (λ c. is_bad_key c ≡ false) (λ names. has_name_twice names ≡ false) key_apart (constraints u)
                    (none_passes is_bad_key (constraints u) (keys_good before user u h));
              })

  pub base_is_named : (name : TableName) (t : TableDefinition) → table_named (elements_of texts) name ≡ Some t → IsBaseNamed name t
  base_is_named =
      base_named (elements_of texts) (accepted_elements texts accepted) (all_within texts known bases views d accepted)

  -- ---- what is bound of it

  module _ (name : TableName) (t : TableDefinition) (b : IsBaseNamed name t) where
    abbrev pub meant : KnownTable
    meant = base_meant b.number b.base.columns

    pub meant_is : meant_by known name ≡ Some meant
    meant_is = ap (λ (m : TableName). known m.user m.name) (sym b.named) ∙ b.base.is_known

    columns_are : AllZip IsColumnOf (enumerate_from 0 (column_definitions t)) b.base.columns
    columns_are = subst (λ ws. AllZip IsColumnOf (enumerate_from 0 ws) b.base.columns) (columns_are_written t) b.base.columns_are

    pub own_positions : IsInOrder (item_at_leaf name meant)
    own_positions =
        λ k c e. let same : 0 + k ≡ k = omega arith in at_own 0 k (column_definitions t) b.base.columns columns_are c e ∙ same

    -- the names of its columns
    pub columns_named : names_written t ≡ names_of_columns b.base.columns
    columns_named = names_are_written t ∙ names_seen 0 (column_definitions t) b.base.columns columns_are

    pub names_are : names_written t ≡ map (λ (c : ItemColumn). c.name) (item_at_leaf name meant).columns
    names_are = columns_named ∙ sym (names_at_leaf b.base.columns)

    -- A key that is written for a table is one of the base table.
    pub base_key : (test : List Name → Bool) → list_any test (keys t) ≡ true → IsKeyAt test (names_written t) b.base.bound.keys
    base_key test any =
        key_at_one test (names_written t) (keys_written t) b.base.bound.keys b.base.is_base.keys
        (subst (AllByRecursion (λ names. has_name_twice names ≡ false)) (sym (keys_are_written t)) b.once)
        (ap (list_any test) (keys_are_written t) ∙ any)

    module _ (leaf : Leaf) (is_under : option_and_then (λ k. k.under) (meant_by known name) ≡ Some (under_of leaf))
        (is_base : IsBase bases leaf.table) where
      itself_is : itself b.number ≡ under_of leaf
      itself_is =
          let both : Some (itself b.number) ≡ Some (under_of leaf)
          = sym (ap (option_and_then (λ (k : KnownTable). k.under)) meant_is) ∙ is_under in
          cc

      -- no view is between a base table and itself
      pub quiet_views : leaf.is_quiet ≡ true
      quiet_views = leaf.quiet ∙ ap (λ (u : Under). are_quiet_conds u.conditions) (sym itself_is)

      table_bound : b.base.bound ≡ leaf.table
      table_bound =
          let both : Some b.base.bound ≡ Some leaf.table
          = sym b.base.bound_at ∙ (λ i. slice_get bases ((itself_is i).base)) ∙ is_base in
          cc

      pub key_bound : (test : List Name → Bool) → list_any test (keys t) ≡ true → IsKeyAt test (names_written t) leaf.table.keys
      key_bound test any = subst (λ (x : BoundTable). IsKeyAt test (names_written t) x.keys) table_bound (base_key test any)
