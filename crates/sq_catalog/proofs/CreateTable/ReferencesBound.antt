-- References of a table are found and made as the definitions compute them (ISO/IEC 9075:1992, 11.8).
use Rattle.std.proofs.Common.{◌≡◌, ℕ, ◌+◌, ◌<◌, ◌≤◌, Bool, true, false, ◌&&◌, List, [], ◌∷◌, ◌++◌, drop, get_or, length, map, Option, Some, None, Ok, Err, refl, ap, sym, ◌∙◌, position, arith}
use Rattle.std.proofs.lemmas.List.{drop_all, drop_more, length-map, map-append}
use Rattle.std.proofs.lemmas.List.Folds.{list_all-append}
use Rattle.std.proofs.lemmas.Option.{get_or_from_slice_get, slice_get-get_or}
use Rattle.std.proofs.lemmas.Simd.{map-map}
use Rattle.std.proofs.lemmas.Slice.Zip.{get_or-zip, length-zip}
use Rattle.std.specs.Borrow.{Bor}
use Rattle.std.specs.List.{cons_option, enumerate_from, filter_map, list_all, list_any, zip}
use Rattle.std.specs.Option.{IfSome, option_and_then}
use Rattle.std.specs.Result.{IfErr, IfOk}
use Rattle.std.specs.Prelude.{Result, ◌==◌, find, if◌then◌else◌, slice_get}
use Rattle.sq_value.proofs.Truths.{and_true}
use Rattle.sq_lex.specs.declared.name.Name.{Name}
use Rattle.sq_value.specs.Domain.{kind_of}
use Rattle.sq_value.specs.declared.domain.Kind.{Kind}
use Rattle.sq_meaning.specs.Environment.{TableName, same_table}
use Rattle.sq_meaning.specs.Spelled.{table_of}
use Rattle.sq_meaning.specs.Tables.{ColumnDescriptor}
use Rattle.sq_meaning.specs.Privilege.{Privilege}
use Rattle.sq_meaning.specs.Words.{is_none_or}
use Rattle.sq_meaning.specs.declared.refusal.SchemaFault.TheVariants as fault
use Rattle.sq_bound.specs.WellFormed.{IsTable, base_kinds, kinds_of_columns, place_of}
use Rattle.sq_bound.specs.declared.names.BaseColumn.{BaseColumn}
use Rattle.sq_bound.specs.declared.names.BaseTable.{BaseTable}
use Rattle.sq_bound.specs.declared.names.Column.{Column}
use Rattle.sq_bound.specs.declared.names.Reference.{Reference}
use Rattle.sq_bound.specs.declared.names.TableBody.{TableBody}
use Rattle.sq_bound.specs.declared.names.TableBody.TheVariants as body
use Rattle.sq_bound.specs.declared.names.TableDesc.{TableDesc}
use Rattle.sq_binding.specs.Catalog as declaring
use Rattle.sq_binding.specs.Catalog.{DeclaredColumn, Entry, column_descriptor, entry, entry_column_names, may}
use Rattle.sq_binding.specs.ElementOutcome.{Outcome, and_then, or_fault}
use Rattle.sq_binding.specs.Position.{positions_of}
use Rattle.sq_binding.specs.Reference as definition
use Rattle.sq_binding.specs.Reference.{BoundReference, ReferencedKey, ReferencedTable, are_paired, earlier_table, paired_reference, positions_listed, reference_to}
use Rattle.sq_binding.specs.Names.{descriptor_of}
use Rattle.sq_catalog.specs.Catalog.{Catalog, base_there, column_kinds}
use Rattle.sq_catalog.specs.Exact.{column_declared, entry_declared, entry_with, names_in as column_names}
use Rattle.sq_catalog.specs.Fault.{Makes, Stops}
use Rattle.sq_bound.specs.Parts.{IsFaultOf}
use Rattle.sq_catalog.specs.Reference.{HasKinds, HasOwnKinds, IsReferenceMade, entries_seen, entry_of, found_seen, may_reference_at, names_in, reference_seen, references_made, target_seen}
use Rattle.sq_catalog.specs.References.{are_listed, is_key_of, paired_with}
use Rattle.sq_catalog.specs.Stored.{IsBody, IsNamed, IsStored}
use Rattle.sq_catalog.specs.declared.catalog.FullName.{FullName}
use Rattle.sq_catalog.specs.declared.fault.ElementFault.{ElementFault}
use Rattle.sq_catalog.specs.declared.fault.ElementFault.TheVariants.{NoMemory}
use Rattle.sq_catalog.specs.declared.bound_reference.BoundReferences.{BoundReferences}
use Rattle.sq_catalog.specs.declared.reference.FoundReference.{FoundReference}
use Rattle.sq_catalog.specs.declared.target.Target.{Target}
use Rattle.sq_catalog.specs.declared.written.WrittenReference.{WrittenReference}
use Rattle.sq_catalog.proofs.OneByOne.Turns.{IsMadeTo, both_made, both_stop, made_all, made_next, made_stops, makes_same, no_memory, stops_same, stops_then, then_stops}
use Rattle.sq_catalog.proofs.OneByOne.Twice.{any_turned}

-- ---- an earlier table

-- what stands under a name stands under its own
pub entry_named : (name : FullName) (t : TableDesc) → IsNamed name t → entry_declared name t ≡ entry_of t
entry_named name t h = sym (λ i. entry_declared (record { user = h.0 i; name = h.1 i }) t)

module _ (c : declaring.Catalog) (own name : TableName) where
  abbrev unless_own : Bool → Option Entry → Outcome (Option Entry)
  unless_own same o = if same then Ok None else and_then (or_fault fault.UnknownName o) (λ e. Ok (Some e))

  pub earlier_own : same_table own name ≡ true → earlier_table c own name ≡ Ok None
  earlier_own same = ap (λ b. unless_own b (entry c name)) same

  pub earlier_there : (e : Entry) → same_table own name ≡ false → entry c name ≡ Some e → earlier_table c own name ≡ Ok (Some e)
  earlier_there e other there = (λ i. unless_own (other i) (there i))

  pub earlier_none : same_table own name ≡ false → entry c name ≡ None → earlier_table c own name ≡ Err fault.UnknownName
  earlier_none other none = (λ i. unless_own (other i) (none i))

-- the columns of a base table that stands under a name are of its kinds
pub kinds_there : (c : Catalog) (t : TableDesc) → IsStored c.bases t → IsTable (column_kinds c) t → HasOwnKinds t
kinds_there c t stored well = by t.body stored.body well.kinds_are
  where
    by : (b : TableBody) → IsBody c.bases (length t.columns) b → column_kinds c (place_of b) ≡ Ok (kinds_of_columns t.columns) → HasKinds (kinds_of_columns t.columns) b
    by (body.Base b) there are = let both : Ok (base_kinds b) ≡ Ok (kinds_of_columns t.columns) = sym (base_there c b.place b there.0) ∙ are in cc
    by (body.View v) there are = tt

-- ---- columns of a base table

pub as_long : (columns : List Column) (bs : List BaseColumn) → map (λ b. kind_of b.domain) bs ≡ kinds_of_columns columns → length bs ≡ length (column_names columns)
as_long columns bs h = sym (length-map bs (λ (b : BaseColumn). kind_of b.domain)) ∙ ap length h ∙ length-map columns (λ (c : Column). c.kind) ∙ sym (length-map columns (λ (c : Column). c.name))

pub zip_names : (ns : List Name) (bs : List BaseColumn) → length bs ≡ length ns → map (λ c. c.name) (map column_declared (zip ns bs)) ≡ ns
zip_names [] [] e = refl
zip_names [] (b ∷ bs) e = refl
zip_names (n ∷ ns) [] e = absurd (omega (arith, e))
zip_names (n ∷ ns) (b ∷ bs) e = ap (λ l. n ∷ l) (zip_names ns bs (omega (arith, e)))

pub zip_kinds : (ns : List Name) (bs : List BaseColumn) → length bs ≡ length ns → map (λ c. kind_of c.domain) (map column_declared (zip ns bs)) ≡ map (λ b. kind_of b.domain) bs
zip_kinds [] [] e = refl
zip_kinds [] (b ∷ bs) e = absurd (omega (arith, e))
zip_kinds (n ∷ ns) [] e = refl
zip_kinds (n ∷ ns) (b ∷ bs) e = ap (λ l. kind_of b.domain ∷ l) (zip_kinds ns bs (omega (arith, e)))

pub held_long : (ns : List Name) (bs : List BaseColumn) → length bs ≡ length ns → length (map column_declared (zip ns bs)) ≡ length bs
held_long ns bs e =
    sym (length-map (map column_declared (zip ns bs)) (λ (c : DeclaredColumn). kind_of c.domain)) ∙ ap length (zip_kinds ns bs e) ∙ length-map bs (λ (b : BaseColumn). kind_of b.domain)

-- the names of its columns
entry_names : (name : FullName) (t : TableDesc) → HasOwnKinds t → entry_column_names (entry_declared name t) ≡ column_names t.columns
entry_names name t h = by t.body h
  where
    by : (b : TableBody) → HasKinds (kinds_of_columns t.columns) b → entry_column_names (entry_with name t b) ≡ column_names t.columns
    by (body.Base b) h =
        map-map (λ (c : ColumnDescriptor). c.name) column_descriptor (map column_declared (zip (column_names t.columns) b.columns))
        ∙ zip_names (column_names t.columns) b.columns (as_long t.columns b.columns h)
    by (body.View v) h = map-map (λ (c : ColumnDescriptor). c.name) descriptor_of t.columns

pub names_earlier : (own : List Name) (earlier : Option (Bor TableDesc)) → IfSome earlier (λ t. HasOwnKinds t.now) → definition.names_in own (entries_seen earlier) ≡ names_in own earlier
names_earlier own None h = refl
names_earlier own (Some t) h = entry_names (record { user = t.now.user; name = t.now.name }) t.now h

-- ---- a reference with its names found

module _ (c : declaring.Catalog) (user : Name) (own : TableName) (names : List Name) (w : WrittenReference) (other : TableName) (meant : other ≡ table_of user w.to.now.table) where
  abbrev of_names : List Name → Outcome (List ℕ)
  of_names all = positions_of all w.columns

  abbrev of_listed : List Name → Outcome (Option (List ℕ))
  of_listed all = positions_listed all w.to.now.columns

  abbrev with_both : Option Entry → List ℕ → Option (List ℕ) → Outcome definition.FoundReference
  with_both e columns listed = Ok (record { columns = columns; earlier = e; columns_listed = listed })

  abbrev after_earlier : Option Entry → Outcome definition.FoundReference
  after_earlier e = and_then (of_names names) (λ columns. and_then (of_listed (definition.names_in names e)) (λ listed. with_both e columns listed))

  found_is : definition.found_reference c user own names (reference_seen w) ≡ and_then (earlier_table c own other) after_earlier
  found_is = ap (λ n. and_then (earlier_table c own n) after_earlier) (sym meant)

  pub earlier_stops : (fault : ElementFault) → Stops (earlier_table c own other) fault → Stops (definition.found_reference c user own names (reference_seen w)) fault
  earlier_stops fault is = stops_same _ _ fault found_is (stops_then (earlier_table c own other) after_earlier fault is)

  module _ (earlier : Option (Bor TableDesc)) (is : earlier_table c own other ≡ Ok (entries_seen earlier)) (kinds : IfSome earlier (λ t. HasOwnKinds t.now)) (left : Result (List ℕ) ElementFault) (right : Result (Option (List ℕ)) ElementFault)
      (l : Makes (λ columns. columns) (of_names names) left) (r : Makes (λ listed. listed) (of_listed (names_in names earlier)) right) where
    there : Makes (λ listed. listed) (of_listed (definition.names_in names (entries_seen earlier))) right
    there = makes_same (λ listed. listed) _ _ right (ap of_listed (names_earlier names earlier kinds)) r

    pub columns_stop : (fault : ElementFault) → IsFaultOf left right fault → Stops (definition.found_reference c user own names (reference_seen w)) fault
    columns_stop fault of =
        stops_same _ _ fault found_is
        (then_stops (earlier_table c own other) (entries_seen earlier) after_earlier fault is
        (both_stop (λ columns. columns) (λ listed. listed) (of_names names) (of_listed (definition.names_in names (entries_seen earlier))) left right l there (with_both (entries_seen earlier)) fault of))

    pub reference_found : (columns : List ℕ) (listed : Option (List ℕ)) → left ≡ Ok columns → right ≡ Ok listed
        → definition.found_reference c user own names (reference_seen w) ≡ Ok (record { columns = columns; earlier = entries_seen earlier; columns_listed = listed })
    reference_found columns listed e f =
        found_is ∙ ap (λ o. and_then o after_earlier) is
        ∙ both_made (λ columns. columns) (λ listed. listed) (of_names names) (of_listed (definition.names_in names (entries_seen earlier))) left right l there (with_both (entries_seen earlier)) columns listed e f

-- ---- the table that is referenced

pub base_referenced : (own : ReferencedTable) (name : FullName) (t : TableDesc) (b : BaseTable) → HasKinds (kinds_of_columns t.columns) (body.Base b)
    → definition.referenced_table own (Some (entry_with name t (body.Base b)))
    ≡ Ok (record { place = b.place; names = column_names t.columns; kinds = kinds_of_columns t.columns; keys = b.keys; primary_key = b.primary_key })
base_referenced own name t b h =
    let long = as_long t.columns b.columns h in
    λ i. Ok (record { place = b.place; names = zip_names (column_names t.columns) b.columns long i; kinds = (zip_kinds (column_names t.columns) b.columns long ∙ h) i; keys = b.keys; primary_key = b.primary_key })

pub base_seen : (own : ReferencedTable) (name : FullName) (t : TableDesc) (b : BaseTable) (target : Target) → HasKinds (kinds_of_columns t.columns) (body.Base b)
    → target.place ≡ b.place → target.columns.now ≡ t.columns → target.keys.now ≡ b.keys → target.primary ≡ b.primary_key
    → definition.referenced_table own (Some (entry_with name t (body.Base b))) ≡ Ok (target_seen target)
base_seen own name t b target h place columns keys primary =
    base_referenced own name t b h
    ∙ (λ i. Ok (record { place = sym place i; names = column_names (sym columns i); kinds = kinds_of_columns (sym columns i); keys = sym keys i; primary_key = sym primary i }))

-- ---- who may reference

module _ {A B : Type 0} (f : B → Bool) (g : A → Option B) where
  all_of_those : (xs : List A) → list_all (λ x. is_none_or f (g x)) xs ≡ list_all f (filter_map g xs)
  all_of_those [] = refl
  all_of_those (x ∷ xs) = by (all_of_those xs) (g x)
    where
      by : list_all (λ x. is_none_or f (g x)) xs ≡ list_all f (filter_map g xs) → (o : Option B) → (is_none_or f o && list_all (λ x. is_none_or f (g x)) xs) ≡ list_all f (cons_option o (filter_map g xs))
      by later None = later
      by later (Some y) = ap (λ b. f y && b) later

pub may_reference_all : (c : declaring.Catalog) (user : Name) (t : TableDesc) (places : List ℕ)
    → list_all (may_reference_at c user t) places ≡ definition.may_reference c user (Some (entry_of t)) (definition.names_at (column_names t.columns) places)
may_reference_all c user t places =
    let its_name : TableName = record { user = t.user; name = t.name } in
    all_of_those (λ name. may c false user its_name (Privilege.references name)) (slice_get (column_names t.columns)) places ∙ by t.body
  where
    by : (b : TableBody) → list_all (λ name. may c false user (record { user = t.user; name = t.name }) (Privilege.references name)) (definition.names_at (column_names t.columns) places)
        ≡ definition.may_reference c user (Some (entry_with (record { user = t.user; name = t.name }) t b)) (definition.names_at (column_names t.columns) places)
    by (body.Base b) = refl
    by (body.View v) = refl

-- ---- references

pub record AreBoundTo (f : definition.FoundReference → Outcome BoundReference) (found : List FoundReference) (i : ℕ) (b : BoundReferences) : Type 0 where
  pub made : List BoundReference
  pub is_made : IsMadeTo f found_seen found i made
  pub references : map (λ r. r.reference) made ≡ b.references
  pub permitted : list_all (λ r. r.is_permitted) made ≡ b.are_permitted

module _ (f : definition.FoundReference → Outcome BoundReference) (found : List FoundReference) (i : ℕ) where
  pub bound_next : (x : FoundReference) (old new : BoundReferences) → i < length found → x ≡ get_or found i x → AreBoundTo f found i old → IsReferenceMade (f (found_seen x)) old new → AreBoundTo f found (i + 1) new
  bound_next x old new within at so_far here = record {
    made = so_far.made ++ here.made ∷ [];
    is_made = made_next f found_seen found i x so_far.made (so_far.made ++ here.made ∷ []) here.made within at refl so_far.is_made here.is_made;
    references = map-append (λ (r : BoundReference). r.reference) so_far.made (here.made ∷ []) ∙ ap (λ rs. rs ++ here.made.reference ∷ []) so_far.references ∙ sym here.added;
    permitted =
        list_all-append (λ (r : BoundReference). r.is_permitted) so_far.made (here.made ∷ []) ∙ (λ j. so_far.permitted j && and_true here.made.is_permitted j) ∙ sym here.permitted;
  }

  pub bound_stops : (x : FoundReference) (b : BoundReferences) (fault : ElementFault) → i < length found → x ≡ get_or found i x → AreBoundTo f found i b → Stops (f (found_seen x)) fault → Stops (references_made f (map found_seen found)) fault
  bound_stops x b fault within at so_far here = stops_then _ _ fault (made_stops f found_seen found i x so_far.made fault within at so_far.is_made here)

  pub bound_all : (b : BoundReferences) → length found ≤ i → AreBoundTo f found i b → references_made f (map found_seen found) ≡ Ok (b.references, b.are_permitted)
  bound_all b past so_far = ap (λ o. and_then o (λ made. Ok (map (λ r. r.reference) made, list_all (λ r. r.is_permitted) made))) (made_all f found_seen found i so_far.made past so_far.is_made) ∙ (λ j. Ok (so_far.references j, so_far.permitted j))

-- nothing is bound yet
pub bound_none : (f : definition.FoundReference → Outcome BoundReference) (found : List FoundReference) (b : BoundReferences) → b.references ≡ [] → b.are_permitted ≡ true → AreBoundTo f found 0 b
bound_none f found b none permitted = record { made = []; is_made = refl; references = sym none; permitted = sym permitted }

-- ---- how its columns pair

filter_there : {A B : Type 0} (f : A → Option B) (xs : List A) (ys : List B) → map f xs ≡ map (λ y. Some y) ys → filter_map f xs ≡ ys
filter_there f [] [] h = refl
filter_there f [] (y ∷ ys) h = cc
filter_there f (x ∷ xs) [] h = cc
filter_there f (x ∷ xs) (y ∷ ys) h =
    let first : f x ≡ Some y = cc in
    let rest : map f xs ≡ map (λ y. Some y) ys = cc in
    (λ i. cons_option (first i) (filter_there f xs ys rest i))

paired_alike : (listed columns : List ℕ) → definition.paired_with listed columns ≡ paired_with listed columns
paired_alike listed columns = sym (λ i n. option_and_then (slice_get columns) (position (any_turned n i) listed))

pub listed_alike : (listed key : List ℕ) → are_listed listed key ≡ definition.are_among listed key
listed_alike listed key = λ i. list_all (λ n. list_any (any_turned n i) listed) key

pub same_alike : (listed key : List ℕ) → is_key_of listed key ≡ definition.are_the_same listed key
same_alike listed key = λ i. listed_alike listed key i && listed_alike key listed i

module _ (own : List Kind) (columns : List ℕ) (target : ReferencedTable) (key : ReferencedKey) where
  abbrev pub pair_well : Bool
  pair_well = length columns == length key.columns_listed && list_all (are_paired own target.kinds) (zip columns key.columns_listed)

  abbrev if_paired : Bool → Outcome Reference
  if_paired well = if well then Ok (reference_to target key columns) else Err fault.BadReference

  pub badly_paired : pair_well ≡ false → paired_reference own columns target key ≡ Err fault.BadReference
  badly_paired badly = ap if_paired badly

  -- a reference that is made where they pair
  pub well_paired : (r : Result Reference ElementFault) → pair_well ≡ true → IfOk r (λ b. b.columns ≡ columns) → IfOk r (λ b. (b.table ≡ target.place) × (b.key ≡ key.place))
      → IfOk r (λ b. map (paired_with key.columns_listed columns) key.columns ≡ map (λ own. Some own) b.by_key) → IfErr r (λ f. f ≡ NoMemory) → Makes (λ b. b) (paired_reference own columns target key) r
  well_paired (Err f) well columns_are places by_key memory = no_memory (paired_reference own columns target key) f memory
  well_paired (Ok b) well columns_are places by_key memory =
      let order : filter_map (definition.paired_with key.columns_listed columns) key.columns ≡ b.by_key =
      ap (λ f. filter_map f key.columns) (paired_alike key.columns_listed columns) ∙ filter_there (paired_with key.columns_listed columns) key.columns b.by_key by_key in
      ap if_paired well ∙ (λ i. Ok (record { columns = sym columns_are i; table = sym places.0 i; key = sym places.1 i; by_key = order i }))

-- ---- the first key that is listed

module _ (listed : List ℕ) (keys : List (List ℕ)) (place : ℕ) where
  abbrev is_listed : ℕ × List ℕ → Bool
  is_listed key = definition.are_the_same listed key.1

  abbrev pub key_from : ℕ → Option (ℕ × List ℕ)
  key_from n = find (λ key. definition.are_the_same listed key.1) (enumerate_from n (drop n keys))

  step : (key : List ℕ) → place < length keys → key ≡ get_or keys place key → (b : Bool) → is_key_of listed key ≡ b → key_from place ≡ (if b then Some (place, key) else key_from (place + 1))
  step key within at b is =
      ap (λ ks. find is_listed (enumerate_from place ks)) (drop_more keys place key within ∙ ap (λ k. k ∷ drop (place + 1) keys) (sym at))
      ∙ ap (λ b. if b then Some (place, key) else key_from (place + 1)) (sym (same_alike listed key) ∙ is)

  pub key_here : (key : List ℕ) → place < length keys → key ≡ get_or keys place key → is_key_of listed key ≡ true → key_from place ≡ Some (place, key)
  key_here key within at is = step key within at true is

  pub key_past : (key : List ℕ) → place < length keys → key ≡ get_or keys place key → is_key_of listed key ≡ false → key_from place ≡ key_from (place + 1)
  key_past key within at is = step key within at false is

  pub key_none : length keys ≤ place → key_from place ≡ None
  key_none past = ap (λ ks. find is_listed (enumerate_from place ks)) (drop_all place keys past)

-- ---- pairs of columns

module _ (own target : List Kind) (columns listed : List ℕ) (i : ℕ) (long : length columns ≡ length listed) where
  abbrev pairs : List (ℕ × ℕ)
  pairs = zip columns listed

  abbrev pub all_paired_from : ℕ → Bool
  all_paired_from n = list_all (are_paired own target) (drop n pairs)

  pair_within : i < length columns → i < length pairs
  pair_within within = let both = length-zip columns listed in omega (arith, long, both, within)

  read_again : (xs : List ℕ) → i < length xs → get_or xs i (get_or xs i 0) ≡ get_or xs i 0
  read_again xs within = get_or_from_slice_get xs i (get_or xs i 0) (get_or xs i 0) (slice_get-get_or xs i 0 within)

  pub pairs_step : (pair : Bool) → i < length columns → are_paired own target (get_or columns i 0, get_or listed i 0) ≡ pair → all_paired_from i ≡ (pair && all_paired_from (i + 1))
  pairs_step pair within is =
      let beside : i < length listed = omega (arith, within, long) in
      let c = get_or columns i 0 in
      let l = get_or listed i 0 in
      ap (list_all (are_paired own target)) (drop_more pairs i (c, l) (pair_within within))
      ∙ ap (λ (p : ℕ × ℕ). are_paired own target p && all_paired_from (i + 1)) (get_or-zip columns listed i (c, l) within beside ∙ (λ j. (read_again columns within j, read_again listed beside j)))
      ∙ ap (λ b. b && all_paired_from (i + 1)) is

  pub pairs_end : length columns ≤ i → all_paired_from i ≡ true
  pairs_end past = let both = length-zip columns listed in let gone : length pairs ≤ i = omega (arith, long, both, past) in ap (list_all (are_paired own target)) (drop_all i pairs gone)
