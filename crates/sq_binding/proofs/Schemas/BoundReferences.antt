-- A reference is made exactly if the rules find that it is good. It is permitted if they say that its user may make it
-- (ISO/IEC 9075:1992, 11.8).
use Rattle.std.proofs.Common.{◌≡◌, ℕ, Bool, true, false, not, ◌&&◌, ◌||◌, List, [], ◌∷◌, length, map, Option, Some, None, Ok, Err, refl, sym, ap, subst, ◌∙◌}
use Rattle.std.proofs.lemmas.Simd.{map-map}
use Rattle.std.specs.List.{AllZip, cons_option, filter_map, list_all, list_any, zip}
use Rattle.std.specs.Option.{option_and_then, option_map}
use Rattle.std.specs.Prelude.{◌==◌, if◌then◌else◌, is_some, slice_get}
use Rattle.std.proofs.lemmas.Bool.{or_parts}
use Rattle.sq_value.proofs.Truths.{and_without}
use Rattle.sq_lex.specs.declared.name.Name.{Name}
use Rattle.sq_value.specs.Domain.{kind_of}
use Rattle.sq_tree.specs.declared.schema.ColumnDefinition.{ColumnDefinition}
use Rattle.sq_tree.specs.declared.schema.SchemaElement.TheVariants as element
use Rattle.sq_tree.specs.declared.schema.TableDefinition.{TableDefinition}
use Rattle.sq_meaning.specs.Environment.{TableName, same_name, same_table}
use Rattle.sq_meaning.specs.Spelled.{table_of}
use Rattle.sq_meaning.specs.Tables.{ColumnDescriptor}
use Rattle.sq_meaning.specs.Privilege.{Privilege}
use Rattle.sq_meaning.specs.Privileges.{chain, is_on_column, table_gives}
use Rattle.sq_meaning.specs.Schema as rules
use Rattle.sq_meaning.specs.Schema.{Elements, Reference, column_definitions, is_among, referenced_columns, table_columns, table_if_named, table_named}
use Rattle.sq_meaning.specs.SchemaRefusal.{is_good_reference, is_key, may_reference_column, pairs_well, with_element}
use Rattle.sq_meaning.specs.SchemaRefusal as refusal
use Rattle.sq_meaning.specs.Words.{is_none_or, is_some_and}
use Rattle.sq_meaning.specs.declared.refusal.SchemaFault.TheVariants as fault
use Rattle.sq_binding.specs.Catalog.{Catalog, DeclaredBase, DeclaredColumn, Entry, column_descriptor, entry, entry_column_names, may}
use Rattle.sq_binding.specs.Key.{is_bad_list}
use Rattle.sq_binding.specs.ElementOutcome.{Outcome, and_then, or_fault}
use Rattle.sq_binding.specs.Reference.{BoundReference, FoundReference, ReferencedKey, ReferencedTable, are_paired, as_referenced, bound_reference, has_bad_list, may_reference, names_at, names_in, paired_reference, reference_to, referenced_key, referenced_table}
use Rattle.sq_binding.proofs.Schemas.Answers.{Tells, tells_at}
use Rattle.sq_binding.proofs.Schemas.KnownTables.{AreListed, IsBaseOf, IsColumnOf, Known}
use Rattle.sq_binding.proofs.Schemas.Names.{IsPlaced, as_long, position_there, table_itself}
use Rattle.sq_binding.proofs.Schemas.ReferencedKeys.{IfKey, IsKindOf, IsKeyOf, IsTarget, all_paired, key_found, names_placed}
use Rattle.sq_binding.proofs.Schemas.References.{IsEarlier, IsFound}
use Rattle.sq_binding.proofs.Placing.SameParameters.{name_itself}

-- ---- a base table as references see it

column_names_are : (ds : List ColumnDefinition) (cs : List DeclaredColumn) → AllZip IsColumnOf ds cs → map (λ c. c.name) cs ≡ map (λ d. d.name) ds
column_names_are [] [] h = refl
column_names_are [] (c ∷ cs) h = absurd h
column_names_are (d ∷ ds) [] h = absurd h
column_names_are (d ∷ ds) (c ∷ cs) h = λ i. h.0.name i ∷ column_names_are ds cs h.1 i

pub base_names : (t : TableDefinition) (b : DeclaredBase) → IsBaseOf t b → map (λ c. c.name) b.columns ≡ table_columns t
base_names t b h = column_names_are (column_definitions t) b.columns h.columns

column_kinds_are : (ds : List ColumnDefinition) (cs : List DeclaredColumn) → AllZip IsColumnOf ds cs → AllZip IsKindOf ds (map (λ c. kind_of c.domain) cs)
column_kinds_are [] [] h = tt
column_kinds_are [] (c ∷ cs) h = absurd h
column_kinds_are (d ∷ ds) [] h = absurd h
column_kinds_are (d ∷ ds) (c ∷ cs) h = (ap (option_map kind_of) h.0.domain, column_kinds_are ds cs h.1)

pub base_target : (t : TableDefinition) (b : DeclaredBase) → IsBaseOf t b → IsTarget t (as_referenced b)
base_target t b h = record {
  names = base_names t b h;
  kinds = column_kinds_are (column_definitions t) b.columns h.columns;
  keys = h.keys;
  primary = h.primary;
  lists = h.lists;
}

-- the names of an entry's columns are those of the base table's
pub entry_names : (b : DeclaredBase) → entry_column_names (Entry.base b) ≡ map (λ c. c.name) b.columns
entry_names b = by b.columns
  where
    by : (cs : List DeclaredColumn) → map (λ c. c.name) (map column_descriptor cs) ≡ map (λ c. c.name) cs
    by cs = map-map (λ (c : ColumnDescriptor). c.name) column_descriptor cs

module _ (before : Elements) (c : Catalog) (known : (name : TableName) → Known before name (entry c name)) (held : (grantable : Bool) (user : Name) (name : TableName) (p : Privilege) → may c grantable user name p ≡ chain before grantable user name p)
    (user : Name) (t : TableDefinition) where
  abbrev own : TableName
  own = table_of user t.name

  abbrev elements : Elements
  elements = with_element before user (element.Table t)

  -- ---- the table that is referenced

  abbrev named : Bool → TableName → Option TableDefinition
  named b name = slice_get (cons_option (if b then Some t else None) (filter_map (λ e. table_if_named name e.user e.element) before)) 0

  pub own_named : (name : TableName) → own ≡ name → table_named elements name ≡ Some t
  own_named name is = ap (λ b. named b name) (subst (λ n. same_table own n ≡ true) is (table_itself own))

  pub other_named : (name : TableName) → same_table own name ≡ false → table_named elements name ≡ table_named before name
  other_named name is = ap (λ b. named b name) is

  -- ---- privileges

  no_gift : (grantable : Bool) (name : TableName) (p : Privilege) → same_table own name ≡ false → table_gives user t grantable user name p ≡ false
  no_gift grantable name p is = and_without (same_name user user) (same_table own name) (is_on_column (table_columns t) p) is

  own_held : (name : TableName) → own ≡ name → (wanted : List Name) (ns : List ℕ) → AllZip (IsPlaced (table_columns t)) wanted ns → list_all (λ column. chain elements false user name (Privilege.references column)) wanted ≡ true
  own_held name is [] [] h = refl
  own_held name is [] (n ∷ ns) h = absurd h
  own_held name is (a ∷ wanted) [] h = absurd h
  own_held name is (a ∷ wanted) (n ∷ ns) h = λ i. here i && own_held name is wanted ns h.1 i
    where
      there : is_among (table_columns t) a ≡ true
      there = sym (position_there (same_name a) (table_columns t)) ∙ ap is_some h.0

      own_there : same_table own name ≡ true
      own_there = subst (λ n. same_table own n ≡ true) is (table_itself own)

      here : chain elements false user name (Privilege.references a) ≡ true
      here = λ i. (name_itself user i && own_there i && there i) || chain before false user name (Privilege.references a)

  other_held : (b : DeclaredBase) (name : TableName) → b.name ≡ name → same_table own name ≡ false → (wanted : List Name)
      → list_all (λ column. may c false user b.name (Privilege.references column)) wanted ≡ list_all (λ column. chain elements false user name (Privilege.references column)) wanted
  other_held b name is other [] = refl
  other_held b name is other (a ∷ wanted) = λ i. here i && other_held b name is other wanted i
    where
      here : may c false user b.name (Privilege.references a) ≡ chain elements false user name (Privilege.references a)
      here = ap (λ n. may c false user n (Privilege.references a)) is ∙ held false user name (Privilege.references a) ∙ ap (λ g. g || chain before false user name (Privilege.references a)) (sym (no_gift false name (Privilege.references a) other))

  -- ---- the reference

  module _ (own_table : ReferencedTable) (own_is : IsTarget t own_table) (r : Reference) where
    abbrev name : TableName
    name = table_of user r.references.table

    abbrev pub IsPermitted : BoundReference → Type 0
    IsPermitted b = b.is_permitted ≡ refusal.may_reference elements user r

    abbrev is_good : Option TableDefinition → Bool
    is_good o = is_some_and (λ target. is_some_and (pairs_well t r.columns target) (referenced_columns target r.references)) o

    abbrev may_make : Option TableDefinition → Bool
    may_make o = is_none_or (list_all (may_reference_column elements user r.references)) (option_and_then (λ target. referenced_columns target r.references) o)

    abbrev after_key : Option Entry → List ℕ → ReferencedTable → ReferencedKey → Outcome BoundReference
    after_key e ns target key = and_then (paired_reference own_table.kinds ns target key) (λ reference. Ok (record { reference = reference; is_permitted = may_reference c user e (names_at target.names key.columns_listed) }))

    module _ (f : FoundReference) (is : IsFound before c known user t r f) (good : has_bad_list f ≡ false) (definition : TableDefinition) (target : ReferencedTable) (target_is : IsTarget definition target)
        (there : refusal.referenced_table elements user r.references ≡ Some definition) (listed_are : AreListed (table_columns definition) r.references.columns f.columns_listed)
        (permitted : (wanted : List Name) (ns : List ℕ) → AllZip (IsPlaced (table_columns definition)) wanted ns → may_reference c user f.earlier wanted ≡ list_all (may_reference_column elements user r.references) wanted) where
      abbrev parts : (is_bad_list f.columns ≡ false) × (is_some_and is_bad_list f.columns_listed ≡ false)
      parts = or_parts (is_bad_list f.columns) (is_some_and is_bad_list f.columns_listed) good

      abbrev IfKeyOf : Option ReferencedKey → Type 0
      IfKeyOf = IfKey definition target target_is r.references

      -- where the key is there
      module _ (key : ReferencedKey) (k : IsKeyOf definition target target_is r.references key) where
        abbrev pairs : Bool
        pairs = length f.columns == length key.columns_listed && list_all (are_paired own_table.kinds target.kinds) (zip f.columns key.columns_listed)

        pairs_same : (length r.columns == length k.wanted && list_all (refusal.are_paired t definition) (zip r.columns k.wanted)) ≡ pairs
        pairs_same =
            λ i. as_long (IsPlaced (table_columns t)) r.columns f.columns is.columns_are i == as_long (IsPlaced (table_columns definition)) k.wanted key.columns_listed k.placed i
            && all_paired t definition own_table.kinds target.kinds own_is.kinds target_is.kinds r.columns f.columns is.columns_are k.wanted key.columns_listed k.placed i

        well : pairs_well t r.columns definition k.wanted ≡ pairs
        well = ap (λ b. b && length r.columns == length k.wanted && list_all (refusal.are_paired t definition) (zip r.columns k.wanted)) k.keyed ∙ pairs_same

        good_is : is_good (Some definition) ≡ pairs
        good_is = ap (is_some_and (pairs_well t r.columns definition)) k.referenced ∙ well

        permitted_is : may_reference c user f.earlier (names_at target.names key.columns_listed) ≡ refusal.may_reference elements user r
        permitted_is =
            ap (may_reference c user f.earlier) (ap (λ names. names_at names key.columns_listed) target_is.names ∙ names_placed (table_columns definition) k.wanted key.columns_listed k.placed)
            ∙ permitted k.wanted key.columns_listed k.placed
            ∙ sym (ap may_make there ∙ ap (is_none_or (list_all (may_reference_column elements user r.references))) k.referenced)

        made : (b : Bool) → pairs ≡ b → Tells fault.BadReference (not b) IsPermitted
            (and_then (if b then Ok (reference_to target key f.columns) else Err fault.BadReference) (λ reference. Ok (record { reference = reference; is_permitted = may_reference c user f.earlier (names_at target.names key.columns_listed) })))
        made true e = (refl, permitted_is)
        made false e = (refl, refl)

        of_pairs : Tells fault.BadReference (not (is_good (Some definition))) IsPermitted (after_key f.earlier f.columns target key)
        of_pairs = subst (λ b. Tells fault.BadReference (not b) IsPermitted (after_key f.earlier f.columns target key)) (sym good_is) (made pairs refl)

      no_key : (o : Option (List Name)) → is_some_and (λ wanted. list_any (is_key wanted) (rules.keys definition)) o ≡ false → is_some_and (pairs_well t r.columns definition) o ≡ false
      no_key None e = refl
      no_key (Some wanted) e = ap (λ b. b && length r.columns == length wanted && list_all (refusal.are_paired t definition) (zip r.columns wanted)) e

      of_key : (o : Option ReferencedKey) → IfKeyOf o → Tells fault.BadReference (not (is_good (Some definition))) IsPermitted (and_then (or_fault fault.BadReference o) (after_key f.earlier f.columns target))
      of_key None h = (refl, ap not (no_key (referenced_columns definition r.references) h))
      of_key (Some key) h = of_pairs key h

      pub of_target : Tells fault.BadReference (not (is_good_reference elements user t r)) IsPermitted (and_then (or_fault fault.BadReference (referenced_key target f.columns_listed)) (after_key f.earlier f.columns target))
      of_target =
          tells_at fault.BadReference (not (is_good (Some definition))) (not (is_good_reference elements user t r)) IsPermitted _ (ap (λ o. not (is_good o)) (sym there))
          (of_key (referenced_key target f.columns_listed) (key_found definition target target_is r.references r.references.columns refl f.columns_listed listed_are parts.1))

    -- ---- each of them

    found_listed : (f : FoundReference) → IsFound before c known user t r f → (e : Option Entry) → f.earlier ≡ e → AreListed (names_in (table_columns t) e) r.references.columns f.columns_listed
    found_listed f is e at = subst (λ e. AreListed (names_in (table_columns t) e) r.references.columns f.columns_listed) at is.listed_are

    found_earlier : (f : FoundReference) → IsFound before c known user t r f → (e : Option Entry) → f.earlier ≡ e → IsEarlier before c known user t name e
    found_earlier f is e at = subst (IsEarlier before c known user t name) at is.earlier

    abbrev made_of : FoundReference → Option Entry → Outcome BoundReference
    made_of f e = and_then (referenced_table own_table e) (λ target. and_then (or_fault fault.BadReference (referenced_key target f.columns_listed)) (after_key f.earlier f.columns target))

    known_there : (e : Entry) → entry c name ≡ Some e → Known before name (Some e)
    known_there e at = subst (Known before name) at (known name)

    of_earlier : (f : FoundReference) → IsFound before c known user t r f → has_bad_list f ≡ false → (e : Option Entry) → f.earlier ≡ e → Tells fault.BadReference (not (is_good_reference elements user t r)) IsPermitted (made_of f e)
    of_earlier f is good None at =
        let itself = found_earlier f is None at in
        of_target f is good t own_table own_is (own_named name itself) (found_listed f is None at)
        (λ wanted ns placed. ap (λ e. may_reference c user e wanted) at ∙ sym (own_held name itself wanted ns placed))
    of_earlier f is good (Some (Entry.base b)) at =
        let other = found_earlier f is (Some (Entry.base b)) at in
        let k = known_there (Entry.base b) other.1 in
        of_target f is good k.definition (as_referenced b) (base_target k.definition b k.is_of) (other_named name other.0 ∙ k.there)
        (subst (λ names. AreListed names r.references.columns f.columns_listed) (entry_names b ∙ base_names k.definition b k.is_of) (found_listed f is (Some (Entry.base b)) at))
        (λ wanted ns placed. ap (λ e. may_reference c user e wanted) at ∙ other_held b name k.named other.0 wanted)
    of_earlier f is good (Some (Entry.view v)) at =
        let other = found_earlier f is (Some (Entry.view v)) at in
        let k = known_there (Entry.view v) other.1 in
        (refl, ap (λ o. not (is_good o)) (other_named name other.0 ∙ k.no_base))

    -- a reference, none of whose lists is bad, is refused exactly where the rules find it bad
    pub reference_bound : (f : FoundReference) → IsFound before c known user t r f → has_bad_list f ≡ false → Tells fault.BadReference (not (is_good_reference elements user t r)) IsPermitted (bound_reference c user own_table f)
    reference_bound f is good = of_earlier f is good f.earlier refl
