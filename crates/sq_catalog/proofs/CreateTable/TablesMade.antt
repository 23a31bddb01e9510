-- CREATE TABLE in the steps in which it is made (ISO/IEC 9075:1992, 11.3 to 11.9).
use Rattle.std.proofs.Common.{◌≡◌, ℕ, Bool, not, ◌||◌, List, length, map, nat_lt, Ok, Err, refl, ap, subst, sym, ◌∙◌}
use Rattle.std.proofs.lemmas.Simd.{map-map}
use Rattle.std.specs.List.{list_all, list_any, zip}
use Rattle.std.specs.Prelude.{Result}
use Rattle.std.specs.Result.{IfErr, IfOk}
use Rattle.sq_lex.specs.declared.name.Name.{Name}
use Rattle.sq_value.specs.Domain.{kind_of}
use Rattle.sq_tree.specs.declared.schema.ColumnDefinition.{ColumnDefinition}
use Rattle.sq_tree.specs.declared.schema.TableDefinition.{TableDefinition}
use Rattle.sq_meaning.specs.Spelled.{table_of}
use Rattle.sq_meaning.specs.Tables.{ColumnDescriptor}
use Rattle.sq_meaning.specs.Schema as rules
use Rattle.sq_meaning.specs.Schema.{column_definitions, table_columns, table_references}
use Rattle.sq_meaning.specs.declared.refusal.SchemaFault.TheVariants as fault
use Rattle.sq_bound.specs.WellFormed.{base_kinds, kinds_of_columns}
use Rattle.sq_bound.specs.declared.condition.BoundCond.{BoundCond}
use Rattle.sq_bound.specs.declared.names.BaseColumn.{BaseColumn}
use Rattle.sq_bound.specs.declared.names.BaseTable.{BaseTable}
use Rattle.sq_bound.specs.declared.names.Column.{Column}
use Rattle.sq_bound.specs.declared.names.Reference.{Reference}
use Rattle.sq_bound.specs.declared.names.TableDesc.{TableDesc}
use Rattle.sq_binding.specs.NumberedCondition.{NumberedCond}
use Rattle.sq_binding.specs.Seen.{cond_seen}
use Rattle.sq_binding.specs.Catalog.{Catalog, DeclaredBase, DeclaredColumn}
use Rattle.sq_binding.specs.Column as column
use Rattle.sq_binding.specs.Column.{declared_column, typed_column}
use Rattle.sq_binding.specs.Key.{has_nullable, is_bad_list, primary_place}
use Rattle.sq_binding.specs.ElementOutcome.{Outcome, and_then, each, refused_if}
use Rattle.sq_binding.specs.Position.{positions_of}
use Rattle.sq_binding.specs.Reference.{BoundReference, ReferencedTable, bound_reference, found_reference}
use Rattle.sq_binding.specs.Reference as reference
use Rattle.sq_binding.specs.Table as definition
use Rattle.sq_binding.specs.Table.{create_table, drafted, drafted_table, has_bad_lists, is_taken, own_table, typed_descriptor, with_base}
use Rattle.sq_binding.specs.Names.{descriptor_of}
use Rattle.sq_catalog.specs.Checks.{check_over, checks_written}
use Rattle.sq_catalog.specs.Columns.{columns_written}
use Rattle.sq_catalog.specs.Draft.{IsBaseFor, IsDraftOf, draft_seen}
use Rattle.sq_catalog.specs.Exact.{base_declared, column_declared, name_in, names_in}
use Rattle.sq_catalog.specs.Fault.{Makes, Stops}
use Rattle.sq_catalog.specs.Keys.{keys_written, primaries, primary_among}
use Rattle.sq_bound.specs.Parts.{IsFaultOf}
use Rattle.sq_catalog.specs.Reference.{constraints_lent, found_seen, reference_seen, references_made}
use Rattle.sq_catalog.specs.References.{references_written}
use Rattle.sq_catalog.specs.Stored.{IsDescribed}
use Rattle.sq_catalog.specs.Table.{base_made, draft_made, held_declared, parts_made, rest_asked, typed_definitions, typed_seen}
use Rattle.sq_catalog.specs.Written.{conditions_lent, definitions_lent}
use Rattle.sq_catalog.specs.declared.catalog.FullName.{FullName}
use Rattle.sq_catalog.specs.declared.draft.Draft.{Draft}
use Rattle.sq_catalog.specs.declared.fault.ElementFault.{ElementFault}
use Rattle.sq_catalog.specs.declared.fault.ElementFault.TheVariants.{NoMemory}
use Rattle.sq_catalog.specs.declared.typed.TypedColumn.{TypedColumn}
use Rattle.sq_catalog.specs.declared.written.Written.{Written}
use Rattle.sq_catalog.specs.declared.written.WrittenKey.{WrittenKey}
use Rattle.sq_value.proofs.Cutting.{any_map}
use Rattle.sq_catalog.proofs.CreateTable.ReferencesBound.{as_long, held_long}
use Rattle.sq_catalog.proofs.OneByOne.Turns.{both_stop, no_memory, stops_same, stops_then, then_stops}
use Rattle.sq_catalog.proofs.CreateTable.WrittenRules.{checks_are_written, columns_are_written, keys_are_written, primaries_are_written, primary_is_written, references_are_written, references_lent}

abbrev paired : {A B : Type 0} → A → B → Outcome (A × B)
paired x y = Ok (x, y)

-- ---- the draft

draft_turned : {N K R T : Type 0} (make : K → R → T → definition.Draft) (n : Outcome N) (k : Outcome K) (r : Outcome R) (t : Outcome T)
    → and_then n (λ u. and_then k (λ ks. and_then r (λ rs. and_then t (λ ts. Ok (make ks rs ts)))))
    ≡ and_then (and_then (and_then n (λ u. and_then k (λ ks. and_then r (λ rs. paired ks rs)))) (λ found. and_then t (λ ts. paired found ts))) (λ m. Ok (make m.0.0 m.0.1 m.1))
draft_turned make (Err f) k r t = refl
draft_turned make (Ok u) (Err f) r t = refl
draft_turned make (Ok u) (Ok ks) (Err f) t = refl
draft_turned make (Ok u) (Ok ks) (Ok rs) (Err f) = refl
draft_turned make (Ok u) (Ok ks) (Ok rs) (Ok ts) = refl

abbrev pub draft_with : List (List ℕ) → List reference.FoundReference → List column.TypedColumn → definition.Draft
draft_with ks rs ts = record { columns = ts; keys = ks; references = rs }

module _ (c : Catalog) (user : Name) (t : TableDefinition) where
  abbrev made : Outcome ((List (List ℕ) × List reference.FoundReference) × List column.TypedColumn)
  made = draft_made c user (table_of user t.name) (column_definitions t) (rules.keys t) (table_references t)

  drafted_is : drafted c user t ≡ and_then made (λ m. Ok (draft_with m.0.0 m.0.1 m.1))
  drafted_is =
      draft_turned draft_with (refused_if fault.NameTwice (rules.has_name_twice (table_columns t))) (each (positions_of (table_columns t)) (rules.keys t))
      (each (found_reference c user (table_of user t.name) (table_columns t)) (table_references t)) (each typed_column (column_definitions t))

  module _ (w : Written) (name : FullName) (named : name_in name ≡ table_of user t.name) (columns : definitions_lent w.columns.items ≡ columns_written t) (keys : w.keys.items ≡ keys_written t)
      (references : constraints_lent w.references.items ≡ references_written t) where
    abbrev made_here : Outcome ((List (List ℕ) × List reference.FoundReference) × List column.TypedColumn)
    made_here = draft_made c user (name_in name) (definitions_lent w.columns.items) (map (λ key. key.columns) w.keys.items) (map reference_seen w.references.items)

    made_is : made_here ≡ made
    made_is =
        λ i. draft_made c user (named i) ((columns ∙ columns_are_written t) i) ((ap (map (λ (key : WrittenKey). key.columns)) keys ∙ keys_are_written t) i)
        ((references_lent w.references.items (references_written t) references ∙ references_are_written t) i)

    pub draft_is : (ks : List (List ℕ)) (rs : List reference.FoundReference) (ts : List column.TypedColumn) → made_here ≡ Ok ((ks, rs), ts) → drafted c user t ≡ Ok (draft_with ks rs ts)
    draft_is ks rs ts is = drafted_is ∙ ap (λ o. and_then o (λ m. Ok (draft_with m.0.0 m.0.1 m.1))) (sym made_is ∙ is)

    pub draft_stops : (f : ElementFault) → Stops made_here f → Stops (drafted c user t) f
    draft_stops f is = stops_same _ _ f drafted_is (stops_then made (λ m. Ok (draft_with m.0.0 m.0.1 m.1)) f (stops_same made made_here f (sym made_is) is))

-- a draft of what a definition writes
pub is_draft_of : (d : Draft) (t : TableDefinition) → d.definition.now ≡ t → typed_definitions d.columns.items ≡ columns_written t → d.keys.has_two_primary ≡ nat_lt 1 (length (primaries (keys_written t)))
    → d.keys.primary ≡ primary_among (keys_written t) → conditions_lent d.written.checks.items ≡ checks_written t → IsDraftOf d
is_draft_of d t defined columns two primary checks = record {
  columns = columns ∙ columns_are_written t ∙ ap column_definitions (sym defined);
  two_primary = two ∙ ap (λ ks. nat_lt 1 (length ks)) (primaries_are_written t ∙ ap rules.primary_keys (sym defined));
  primary = primary ∙ primary_is_written t ∙ ap primary_place (sym defined);
  checks = checks ∙ checks_are_written t ∙ ap rules.checks (sym defined);
}

-- ---- columns as names see them

module _ (columns : List Column) (typed : List TypedColumn) (seen : map descriptor_of columns ≡ map (λ c. typed_descriptor (typed_seen c)) typed) where
  abbrev descriptor : TypedColumn → ColumnDescriptor
  descriptor c = typed_descriptor (typed_seen c)

  pub names_typed : names_in columns ≡ map (λ c. c.definition.now.name) typed
  names_typed = sym (map-map (λ (d : ColumnDescriptor). d.name) descriptor_of columns) ∙ ap (map (λ (d : ColumnDescriptor). d.name)) seen ∙ map-map (λ (d : ColumnDescriptor). d.name) descriptor typed

  pub names_defined : names_in columns ≡ map (λ w. w.name) (typed_definitions typed)
  names_defined = names_typed ∙ sym (map-map (λ (w : ColumnDefinition). w.name) (λ (c : TypedColumn). c.definition.now) typed)

  pub kinds_typed : kinds_of_columns columns ≡ map (λ c. kind_of c.domain) (map typed_seen typed)
  kinds_typed =
      sym (map-map (λ (d : ColumnDescriptor). d.kind) descriptor_of columns) ∙ ap (map (λ (d : ColumnDescriptor). d.kind)) seen ∙ map-map (λ (d : ColumnDescriptor). d.kind) descriptor typed
      ∙ sym (map-map (λ (c : column.TypedColumn). kind_of c.domain) typed_seen typed)

  pub descriptors_typed : map descriptor_of columns ≡ map typed_descriptor (map typed_seen typed)
  descriptors_typed = seen ∙ sym (map-map typed_descriptor typed_seen typed)

-- ---- the base table

base_turned : {R P Q B : Type 0} (refs : R → List Reference) (all : R → Bool) (make : List Reference → P → Q → B) (r : Outcome R) (p : Outcome P) (q : Outcome Q)
    → and_then r (λ rs. and_then p (λ cs. and_then q (λ ds. paired (make (refs rs) cs ds) (all rs))))
    ≡ and_then (and_then r (λ rs. paired (refs rs) (all rs))) (λ b. and_then (and_then p (λ cs. and_then q (λ ds. paired cs ds))) (λ parts. paired (make b.0 parts.0 parts.1) b.1))
base_turned refs all make (Err f) p q = refl
base_turned refs all make (Ok rs) (Err f) q = refl
base_turned refs all make (Ok rs) (Ok cs) (Err f) = refl
base_turned refs all make (Ok rs) (Ok cs) (Ok ds) = refl

module _ (c : Catalog) (user : Name) (name : FullName) (d : Draft) (columns : List Column) (before : List BaseTable) where
  abbrev t : TableDefinition
  t = d.definition.now

  abbrev typed : List TypedColumn
  typed = d.columns.items

  abbrev base_with : List Reference → List NumberedCond → List DeclaredColumn → DeclaredBase
  base_with references checks held = record {
    name = table_of user t.name;
    place = length c.bases;
    columns = held;
    keys = d.keys.columns;
    primary_key = primary_place t;
    references = references;
    checks = checks;
  }

  -- the table as its own references see it
  abbrev pub own_here : ReferencedTable
  own_here = record { place = length before; names = names_in columns; kinds = kinds_of_columns columns; keys = d.keys.columns; primary_key = d.keys.primary }

  abbrev pub references_here : Outcome (List Reference × Bool)
  references_here = references_made (bound_reference c user own_here) (map found_seen d.references.items)

  abbrev pub parts_here : Outcome (List NumberedCond × List DeclaredColumn)
  parts_here = parts_made user (name_in name) (map descriptor_of columns) (conditions_lent d.written.checks.items) (map typed_seen typed)

  module _ (of : IsDraftOf d) (named : name_in name ≡ table_of user t.name) (seen : map descriptor_of columns ≡ map (λ c. typed_descriptor (typed_seen c)) typed) (place : length before ≡ length c.bases) where
    own_is : own_table c t (draft_seen d) ≡ own_here
    own_is =
        λ i. record {
          place = sym place i;
          names = sym (names_defined columns typed seen ∙ ap (map (λ (w : ColumnDefinition). w.name)) of.columns) i;
          kinds = sym (kinds_typed columns typed seen) i;
          keys = d.keys.columns;
          primary_key = sym of.primary i;
        }

    base_steps : base_made c user t (draft_seen d) ≡ and_then references_here (λ b. and_then parts_here (λ parts. paired (base_with b.0 parts.0 parts.1) b.1))
    base_steps =
        base_turned (λ (rs : List BoundReference). map (λ r. r.reference) rs) (λ rs. list_all (λ r. r.is_permitted) rs) base_with (each (bound_reference c user (own_table c t (draft_seen d))) (map found_seen d.references.items))
        (each (check_over user (table_of user t.name) (map typed_descriptor (map typed_seen typed))) (rules.checks t)) (each declared_column (map typed_seen typed))
        ∙ (λ i. and_then (references_made (bound_reference c user (own_is i)) (map found_seen d.references.items))
        (λ b. and_then (parts_made user (sym named i) (sym (descriptors_typed columns typed seen) i) (sym of.checks i) (map typed_seen typed)) (λ parts. paired (base_with b.0 parts.0 parts.1) b.1)))

    pub base_stop : {X Y : Type 0} (a : X → List Reference × Bool) (b : Y → List NumberedCond × List DeclaredColumn) (left : Result X ElementFault) (right : Result Y ElementFault) → Makes a references_here left → Makes b parts_here right
        → (f : ElementFault) → IsFaultOf left right f → Stops (base_made c user t (draft_seen d)) f
    base_stop a b left right l r f is = stops_same _ _ f base_steps (both_stop a b references_here parts_here left right l r (λ b parts. paired (base_with b.0 parts.0 parts.1) b.1) f is)

    pub base_is : (b : BaseTable) (permitted : Bool) (held : List BaseColumn) (checks : List BoundCond) → references_here ≡ Ok (b.references, permitted) → parts_here ≡ Ok (map cond_seen checks, held_declared typed held)
        → b.place ≡ length c.bases → b.columns ≡ held → b.keys ≡ d.keys.columns → b.primary_key ≡ d.keys.primary → b.checks ≡ checks → base_made c user t (draft_seen d) ≡ Ok (base_declared name columns b, permitted)
    base_is b permitted held checks bound parts place_is columns_are keys_are primary_is checks_are =
        base_steps ∙ (λ i. and_then (bound i) (λ r. and_then (parts i) (λ ps. paired (base_with r.0 ps.0 ps.1) r.1)))
        ∙ (λ i. paired (record {
          name = sym named i;
          place = sym place_is i;
          columns = map column_declared (zip (sym (names_typed columns typed seen) i) (sym columns_are i));
          keys = sym keys_are i;
          primary_key = (sym of.primary ∙ sym primary_is) i;
          references = b.references;
          checks = map cond_seen (sym checks_are i);
        }) permitted)

-- ---- lists of columns

pub lists_are : (d : Draft) → IsDraftOf d → ((d.keys.has_two_primary || list_any is_bad_list d.keys.columns) || list_any (λ r. reference.has_bad_list (found_seen r)) d.references.items) ≡ has_bad_lists d.definition.now (draft_seen d)
lists_are d of = λ i. (of.two_primary i || list_any is_bad_list d.keys.columns) || sym (any_map reference.has_bad_list found_seen d.references.items) i

-- ---- the table of a draft

rest_turned : {A B C D : Type 0} (p : Outcome A) (n : Outcome B) (h : Outcome C) (x : D) → and_then p (λ u. and_then n (λ v. and_then h (λ w. Ok x))) ≡ and_then (and_then p (λ u. and_then n (λ v. h))) (λ w. Ok x)
rest_turned (Err f) n h x = refl
rest_turned (Ok u) (Err f) h x = refl
rest_turned (Ok u) (Ok v) h x = refl

table_turned : {N K R P Q M B : Type 0} (make : R → P → Q → B) (all : R → Bool) (rest : B → Bool → Outcome M) (n : Outcome N) (k : Outcome K) (r : Outcome R) (p : Outcome P) (q : Outcome Q)
    → and_then n (λ u. and_then k (λ v. and_then r (λ rs. and_then p (λ cs. and_then q (λ ds. and_then (rest (make rs cs ds) (all rs)) (λ w. Ok (make rs cs ds)))))))
    ≡ and_then (and_then n (λ u. k)) (λ v. and_then (and_then r (λ rs. and_then p (λ cs. and_then q (λ ds. paired (make rs cs ds) (all rs))))) (λ made. and_then (rest made.0 made.1) (λ w. Ok made.0)))
table_turned make all rest (Err f) k r p q = refl
table_turned make all rest (Ok u) (Err f) r p q = refl
table_turned make all rest (Ok u) (Ok v) (Err f) p q = refl
table_turned make all rest (Ok u) (Ok v) (Ok rs) (Err f) q = refl
table_turned make all rest (Ok u) (Ok v) (Ok rs) (Ok cs) (Err f) = refl
table_turned make all rest (Ok u) (Ok v) (Ok rs) (Ok cs) (Ok ds) = refl

module _ (c : Catalog) (user : Name) (t : TableDefinition) (d : definition.Draft) where
  abbrev pub keys_asked : Outcome (Unit {0})
  keys_asked = and_then (refused_if fault.NullableKey (list_any (has_nullable d.columns) d.keys)) (λ u. refused_if fault.BadKey (has_bad_lists t d))

  abbrev pub rest_of : DeclaredBase → Bool → Outcome (Unit {0})
  rest_of b permitted = rest_asked c user (table_of user t.name) (length b.columns) permitted

  abbrev after_base : DeclaredBase × Bool → Outcome DeclaredBase
  after_base made = and_then (rest_of made.0 made.1) (λ w. Ok made.0)

  table_is : drafted_table c user t d ≡ and_then keys_asked (λ v. and_then (base_made c user t d) after_base)
  table_is =
      (λ i. and_then (refused_if fault.NullableKey (list_any (has_nullable d.columns) d.keys)) (λ u. and_then (refused_if fault.BadKey (has_bad_lists t d)) (λ v. and_then (each (bound_reference c user (own_table c t d)) d.references)
      (λ rs. and_then (each (definition.check_made user (table_of user t.name) d.columns) (rules.checks t)) (λ cs. and_then (each declared_column d.columns) (λ ds.
      rest_turned (refused_if fault.PrivilegeMissing (not (list_all (λ r. r.is_permitted) rs))) (refused_if fault.TooManyColumns (nat_lt definition.most_columns (length ds))) (definition.has_place c user (table_of user t.name)) (made_of rs cs ds) i))))))
      ∙ table_turned made_of (λ (rs : List BoundReference). list_all (λ r. r.is_permitted) rs) rest_of (refused_if fault.NullableKey (list_any (has_nullable d.columns) d.keys)) (refused_if fault.BadKey (has_bad_lists t d))
      (each (bound_reference c user (own_table c t d)) d.references) (each (definition.check_made user (table_of user t.name) d.columns) (rules.checks t)) (each declared_column d.columns)
    where
      made_of : List BoundReference → List NumberedCond → List DeclaredColumn → DeclaredBase
      made_of rs cs ds = record {
        name = table_of user t.name;
        place = length c.bases;
        columns = ds;
        keys = d.keys;
        primary_key = primary_place t;
        references = map (λ r. r.reference) rs;
        checks = cs;
      }

  pub keys_stop : (f : ElementFault) → Stops keys_asked f → Stops (drafted_table c user t d) f
  keys_stop f is = stops_same _ _ f table_is (stops_then keys_asked _ f is)

  pub base_stops : (f : ElementFault) → keys_asked ≡ Ok tt → Stops (base_made c user t d) f → Stops (drafted_table c user t d) f
  base_stops f keys is = stops_same _ _ f table_is (then_stops keys_asked tt (λ v. and_then (base_made c user t d) after_base) f keys (stops_then (base_made c user t d) after_base f is))

  pub rest_stops : (b : DeclaredBase) (permitted : Bool) (f : ElementFault) → keys_asked ≡ Ok tt → base_made c user t d ≡ Ok (b, permitted) → Stops (rest_of b permitted) f → Stops (drafted_table c user t d) f
  rest_stops b permitted f keys base is =
      stops_same _ _ f table_is
      (then_stops keys_asked tt (λ v. and_then (base_made c user t d) after_base) f keys (then_stops (base_made c user t d) (b, permitted) after_base f base (stops_then (rest_of b permitted) (λ w. Ok b) f is)))

  pub table_made : (b : DeclaredBase) (permitted : Bool) → keys_asked ≡ Ok tt → base_made c user t d ≡ Ok (b, permitted) → rest_of b permitted ≡ Ok tt → drafted_table c user t d ≡ Ok b
  table_made b permitted keys base rest = table_is ∙ (λ i. and_then (keys i) (λ v. and_then (base i) after_base)) ∙ ap (λ o. and_then o (λ w. Ok b)) rest

  -- what is asked of it in the end
  pub rest_here : (name : FullName) (columns : List Column) (b : BaseTable) (permitted : Bool) → name_in name ≡ table_of user t.name → base_kinds b ≡ kinds_of_columns columns
      → rest_of (base_declared name columns b) permitted ≡ rest_asked c user (name_in name) (length b.columns) permitted
  rest_here name columns b permitted named kinds = λ i. rest_asked c user (sym named i) (held_long (names_in columns) b.columns (as_long columns b.columns kinds) i) permitted

-- ---- the whole statement

module _ (c : Catalog) (user : Name) (t : TableDefinition) where
  abbrev asked : Outcome (Unit {0})
  asked = refused_if fault.NameTwice (is_taken c user (table_of user t.name))

  abbrev new_base : Outcome DeclaredBase
  new_base = and_then (drafted c user t) (drafted_table c user t)

  created : (o : Outcome (Unit {0})) → and_then (and_then (and_then o (λ u. drafted c user t)) (drafted_table c user t)) (λ b. Ok (with_base c b)) ≡ and_then o (λ u. and_then new_base (λ b. Ok (with_base c b)))
  created (Err f) = refl
  created (Ok u) = refl

  create_is : create_table c user t ≡ and_then asked (λ u. and_then new_base (λ b. Ok (with_base c b)))
  create_is = created asked

  pub name_stops : (f : ElementFault) → Stops asked f → Stops (create_table c user t) f
  name_stops f is = stops_same _ _ f create_is (stops_then asked _ f is)

  pub table_stops : (f : ElementFault) → asked ≡ Ok tt → Stops new_base f → Stops (create_table c user t) f
  table_stops f new is = stops_same _ _ f create_is (then_stops asked tt (λ u. and_then new_base (λ b. Ok (with_base c b))) f new (stops_then new_base (λ b. Ok (with_base c b)) f is))

  pub table_created : (b : DeclaredBase) → asked ≡ Ok tt → new_base ≡ Ok b → create_table c user t ≡ Ok (with_base c b)
  table_created b new is = create_is ∙ (λ i. and_then (new i) (λ u. and_then (is i) (λ b. Ok (with_base c b))))

-- a fact of a success gives another
pub if_ok_more : {X E : Type 0} {P Q : X → Type 0} (r : Result X E) → ((x : X) → P x → Q x) → IfOk r P → IfOk r Q
if_ok_more (Ok x) more h = more x h
if_ok_more (Err e) more h = tt

-- a base table with its description is that of a draft
pub described_base : (r : Result (TableDesc × BaseTable) ElementFault) (bases : List BaseTable) (d : Draft) (name : FullName) (columns : List Column) (b : BaseTable) → IfOk r (λ new. new.1 ≡ b)
    → IfOk r (λ new. IsDescribed name b columns new.0) → IsBaseFor bases d columns b → IfOk r (λ new. IsBaseFor bases d new.0.columns new.1)
described_base (Err f) bases d name columns b same described base = tt
described_base (Ok new) bases d name columns b same described base =
    subst (λ (cs : List Column). IsBaseFor bases d cs new.1) (sym described.columns) (subst (λ (x : BaseTable). IsBaseFor bases d columns x) (sym same) base)

-- a base table with its description is the one that is computed
pub described_makes : (o : Outcome DeclaredBase) (r : Result (TableDesc × BaseTable) ElementFault) (name : FullName) (columns : List Column) (b : BaseTable) → o ≡ Ok (base_declared name columns b) → IfOk r (λ new. new.1 ≡ b)
    → IfOk r (λ new. IsDescribed name b columns new.0) → IfErr r (λ f. f ≡ NoMemory) → Makes {B = DeclaredBase} (λ (new : TableDesc × BaseTable). base_declared name new.0.columns new.1) o r
described_makes o (Err f) name columns b is same described memory = no_memory o f memory
described_makes o (Ok new) name columns b is same described memory = is ∙ (λ i. Ok (base_declared name (sym described.columns i) (sym same i)))
