-- References of a table definition, and the keys that they are to (ISO/IEC 9075:1992, 11.8).
use Rattle.std.specs.Prelude.{◌≡◌, ⊤, ℕ, nat_lt, Bool, false, true, ◌&&◌, List, [], ◌∷◌, ◌++◌, length, map, slice_get, Option, None, Some, IfSome, unwrap_or, Ok}
use Rattle.std.specs.List.{list_all}
use Rattle.std.specs.Option.{option_map}
use Rattle.std.specs.Borrow.{Bor}
use Rattle.sq_lex.specs.declared.name.Name.{Name}
use Rattle.sq_store.specs.Keys.{Keys, keys_at}
use Rattle.sq_tree.specs.declared.schema.TableDefinition.{TableDefinition}
use Rattle.sq_bound.specs.Fits.{keys_of_bases}
use Rattle.sq_value.specs.declared.domain.Kind.{Kind}
use Rattle.sq_meaning.specs.Privilege.{Privilege}
use Rattle.sq_meaning.specs.Schema as rules
use Rattle.sq_meaning.specs.Words.{is_none_or}
use Rattle.sq_bound.specs.Names.{are_positions, option_all}
use Rattle.sq_bound.specs.WellFormed.{base_kinds, kinds_of_columns}
use Rattle.sq_bound.specs.declared.names.BaseTable.{BaseTable}
use Rattle.sq_bound.specs.declared.names.Column.{Column}
use Rattle.sq_bound.specs.declared.names.Reference.{Reference}
use Rattle.sq_bound.specs.declared.names.TableBody.{TableBody}
use Rattle.sq_bound.specs.declared.names.TableBody.TheVariants as body
use Rattle.sq_bound.specs.declared.names.TableDesc.{TableDesc}
use Rattle.sq_binding.specs.Catalog as declaring
use Rattle.sq_binding.specs.Catalog.{Entry, may}
use Rattle.sq_binding.specs.ElementOutcome.{Outcome, ◌>>=◌, each}
use Rattle.sq_binding.specs.Reference as definition
use Rattle.sq_binding.specs.Reference.{BoundReference, ReferencedTable}
use Rattle.sq_catalog.specs.Catalog.{Catalog, named_by, number_meant}
use Rattle.sq_catalog.specs.Exact.{entry_declared, names_in as column_names}
use Rattle.sq_catalog.specs.Keys.{StandAt}
use Rattle.sq_catalog.specs.References.{AreListed, HasReferencesOf, IsToKey, ReferentialConstraint, key_referenced}
use Rattle.sq_catalog.specs.Stored.{IsNumbered, IsStored}
use Rattle.sq_catalog.specs.declared.catalog.FullName.{FullName}
use Rattle.sq_catalog.specs.declared.reference.FoundReference.{FoundReference}
use Rattle.sq_catalog.specs.declared.bound_reference.BoundReferences.{BoundReferences}
use Rattle.sq_catalog.specs.declared.referenced.ReferencedKey.{ReferencedKey}
use Rattle.sq_catalog.specs.declared.target.OwnKeys.{OwnKeys}
use Rattle.sq_catalog.specs.declared.target.Target.{Target}
use Rattle.sq_catalog.specs.declared.written.WrittenReference.{WrittenReference}

-- the referential constraint that is lent
abbrev pub constraint_lent : WrittenReference → ReferentialConstraint
constraint_lent w = record { columns = w.columns; to = w.to.now }

abbrev pub constraints_lent : List WrittenReference → List ReferentialConstraint
constraints_lent references = map constraint_lent references

-- ---- the names that are found

-- how many columns the referenced table has: an earlier one, or the one that is being defined
abbrev pub target_width : ℕ → Option (Bor TableDesc) → ℕ
target_width own None = own
target_width own (Some t) = length t.now.columns

-- the columns of a base table are of its kinds
abbrev pub HasKinds : List Kind → TableBody → Type 0
HasKinds kinds (body.Base b) = base_kinds b ≡ kinds
HasKinds kinds (body.View v) = ⊤

abbrev pub HasOwnKinds : TableDesc → Type 0
HasOwnKinds t = HasKinds (kinds_of_columns t.columns) t.body

-- a reference's columns are columns of the two tables, and the earlier one is stored, with columns of its kinds
pub record IsFound (bases : List BaseTable) (columns : ℕ) (f : FoundReference) : Type 0 where
  pub own : are_positions columns f.columns ≡ true
  pub stored : IfSome f.earlier (λ t. IsStored bases t.now)
  pub kinds : IfSome f.earlier (λ t. HasOwnKinds t.now)
  pub listed : option_all (are_positions (target_width columns f.earlier)) f.listed ≡ true

-- a name means the table that is being defined, of this name, or an earlier one
abbrev pub IsMeant : Catalog → FullName → FullName → Option (Bor TableDesc) → Type 0
IsMeant c own name None = name ≡ own
IsMeant c own name (Some t) = IsNumbered c.tables c.columns name t.now.columns t.now.body

-- the names of the columns of the table that is meant
abbrev pub names_in : List Name → Option (Bor TableDesc) → List Name
names_in own None = own
names_in own (Some t) = map (λ c. c.name) t.now.columns

-- a reference has the columns and the table that a user's constraint names, in a table of this name with columns of these names
pub record IsFoundAs (c : Catalog) (user : Name) (name : FullName) (own : List Name)
    (w : ReferentialConstraint) (f : FoundReference)
    : Type 0 where
  pub columns : StandAt own w.columns f.columns
  pub table : IsMeant c name (named_by user w.to.table) f.earlier
  pub listed : AreListed (names_in own f.earlier) w.to.columns f.listed

-- ---- the table and the key that are referenced

-- a base table is at this place, with these keys, and this one is its primary key
abbrev pub IsTargetBody : TableBody → ℕ → Keys → Option ℕ → Type 0
IsTargetBody (body.Base b) place keys primary =
    (place ≡ b.place) × (keys ≡ b.keys) × (primary ≡ b.primary_key)
IsTargetBody (body.View v) place keys primary = ⊥

-- what a reference refers to has this place, these keys and this primary key: an earlier table, or the one that is being defined behind others
abbrev pub IsTarget : List BaseTable → Keys → Option ℕ → Option (Bor TableDesc) → ℕ → Keys → Option ℕ → Type 0
IsTarget before own own_primary None place keys primary =
    (place ≡ length before) × (keys ≡ own) × (primary ≡ own_primary)
IsTarget before own own_primary (Some t) place keys primary = IsTargetBody t.now.body place keys primary

-- the key that is referenced, and its columns in the order in which they are paired
pub record IsKeyReferenced (keys : Keys) (primary : Option ℕ) (listed : Option (List ℕ))
    (key : ReferencedKey) : Type 0 where
  pub chosen : key_referenced keys primary listed ≡ Some key.place
  pub there : slice_get keys key.place ≡ Some key.columns.now
  pub order : key.listed.now ≡ unwrap_or listed key.columns.now

-- a reference of these columns is to a key of the target, and pairs a column with each of the key
pub record RefersTo (own : List ℕ) (target : Target) (referenced : ReferencedKey) (r : Reference) : Type 0 where
  pub columns : r.columns ≡ own
  pub table : r.table ≡ target.place
  pub key : r.key ≡ referenced.place
  pub paired : length r.by_key ≡ length referenced.columns.now

-- the column that is paired with a column of a key is added
abbrev pub IsPairAdded : Option ℕ → List ℕ → List ℕ → Type 0
IsPairAdded paired old new = map (λ own. Some own) new ≡ map (λ own. Some own) old ++ paired ∷ []

-- a reference is to the listed key of a table's body, which is a base table
abbrev pub IsToBody : TableBody → Option (List ℕ) → Reference → Type 0
IsToBody (body.Base b) listed r = (r.table ≡ b.place) × IsToKey b.keys b.primary_key listed r
IsToBody (body.View v) listed r = ⊥

-- a reference is to a key of an earlier table, or of the one that is being defined
abbrev pub IsTo : List BaseTable → Keys → Option ℕ → Option (Bor TableDesc) → Option (List ℕ) → Reference
    → Type 0
IsTo before keys primary None listed r = (r.table ≡ length before) × IsToKey keys primary listed r
IsTo before keys primary (Some t) listed r = IsToBody t.now.body listed r

-- a reference whose table and columns are found, in a table with these keys behind others
pub record IsBound (before : List BaseTable) (keys : Keys) (primary : Option ℕ) (f : FoundReference)
    (r : Reference) : Type 0 where
  pub columns : r.columns ≡ f.columns
  pub to : IsTo before keys primary f.earlier f.listed r

-- a reference is bound and added behind the others
abbrev pub AddsBound : List BaseTable → Keys → Option ℕ → FoundReference → List Reference → List Reference
    → Type 0
AddsBound before keys primary f old new =
    (r : Reference) × (new ≡ old ++ r ∷ []) × IsBound before keys primary f r

-- a table of this name with these columns, behind those of a catalog, has the references of its definition
abbrev pub MakesReferences : Catalog → FullName → TableDefinition → List Column → BaseTable → Type 0
MakesReferences c name t columns b =
    HasReferencesOf (number_meant (c.tables ++ name ∷ []) name.user) (c.columns ++ columns ∷ [])
    (c.bases ++ b ∷ []) t b

-- ---- the keys of all

-- the keys of base tables, and then those of the one that is being defined
abbrev pub keys_with : List BaseTable → Keys → List Keys
keys_with bases own = keys_of_bases bases ++ own ∷ []

-- a reference is to one of the keys, by columns of a table with this many
abbrev pub is_to : List Keys → ℕ → Reference → Bool
is_to keys columns r = nat_lt r.key (length (keys_at keys r.table)) && are_positions columns r.by_key

-- ---- as the definitions see it

-- a reference as it is written
abbrev pub reference_seen : WrittenReference → rules.Reference
reference_seen w = record { columns = w.columns; references = w.to.now }

-- what stands under a table's name
abbrev pub entry_of : TableDesc → Entry
entry_of t = entry_declared (record { user = t.user; name = t.name }) t

abbrev pub entries_seen : Option (Bor TableDesc) → Option Entry
entries_seen earlier = option_map (λ t. entry_of t.now) earlier

abbrev pub found_seen : FoundReference → definition.FoundReference
found_seen f = record { columns = f.columns; earlier = entries_seen f.earlier; columns_listed = f.listed }

abbrev pub target_seen : Target → ReferencedTable
target_seen t = record {
  place = t.place;
  names = column_names t.columns.now;
  kinds = kinds_of_columns t.columns.now;
  keys = t.keys.now;
  primary_key = t.primary;
}

abbrev pub own_seen : OwnKeys → ReferencedTable
own_seen own = record {
  place = length own.before.now;
  names = column_names own.columns.now;
  kinds = kinds_of_columns own.columns.now;
  keys = own.keys.now.columns;
  primary_key = own.keys.now.primary;
}

abbrev pub key_seen : ReferencedKey → definition.ReferencedKey
key_seen k = record { place = k.place; columns = k.columns.now; columns_listed = k.listed.now }

abbrev pub reference_with : Reference × Bool → BoundReference
reference_with made = record { reference = made.0; is_permitted = made.1 }

-- references, and whether a user may make all of them
abbrev pub references_made : {A : Type 0} → (A → Outcome BoundReference) → List A
    → Outcome (List Reference × Bool)
references_made bound found =
    each bound found >>= λ made. Ok (map (λ r. r.reference) made, list_all (λ r. r.is_permitted) made)

-- a reference is added, if it is made
pub record IsReferenceMade (o : Outcome BoundReference) (old new : BoundReferences) : Type 0 where
  pub made : BoundReference
  pub is_made : o ≡ Ok made
  pub added : new.references ≡ old.references ++ made.reference ∷ []
  pub permitted : new.are_permitted ≡ (old.are_permitted && made.is_permitted)

-- the user holds REFERENCES on the column at a position, if there is one
abbrev pub may_reference_at : declaring.Catalog → Name → TableDesc → ℕ → Bool
may_reference_at c user t n =
    is_none_or (λ name. may c false user (record { user = t.user; name = t.name })
    (Privilege.references name)) (slice_get (column_names t.columns) n)
