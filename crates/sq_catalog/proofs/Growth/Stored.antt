-- Tables and views that stand over base tables, and references to their keys, as base tables are added.
use Rattle.std.proofs.Common.{◌≡◌, ℕ, zero, suc, ◌+◌, ◌<◌, true, nat_eq, nat_lt, List, [], ◌∷◌, ◌++◌, length, map, get_or, Option, Some, Result, Ok, Err, IfOk, refl, ap, ap₂, sym, subst, ◌∙◌, arith}
use Rattle.std.specs.Cmp.Lexicographic.{pointwise, same_text}
use Rattle.std.specs.List.{enumerate_from, list_all, slice_get}
use Rattle.std.specs.Map.{lookup_key}
use Rattle.std.specs.Option.{option_map}
use Rattle.std.specs.Prelude.{Vec}
use Rattle.std.specs.Result.{OnErr, OnOk}
use Rattle.std.specs.declared.alloc.Global.{Global}
use Rattle.std.proofs.lemmas.Bool.{and_parts}
use Rattle.std.proofs.lemmas.List.{length-map, map-append}
use Rattle.std.proofs.lemmas.List.Elements.{All-get_or, All-weaker}
use Rattle.std.proofs.lemmas.Map.Made.{lookup_key_passes}
use Rattle.std.proofs.lemmas.Option.{IfSome_then, slice_get_within, get_or_from_slice_get}
use Rattle.sq_meaning.specs.Target.{places_of}
use Rattle.sq_store.specs.Keys.{Keys, keys_at, keys_of}
use Rattle.sq_bound.specs.Fits.{IsBase, all_refer, keys_of_bases, refers}
use Rattle.sq_bound.specs.Known.{under_of}
use Rattle.sq_bound.specs.Names.{are_positions}
use Rattle.sq_bound.specs.WellFormed.{base_kinds, kinds_of_columns, place_of}
use Rattle.sq_bound.specs.declared.condition.TablePlace.TheVariants.{Base}
use Rattle.sq_bound.specs.declared.names.BaseColumn.{BaseColumn}
use Rattle.sq_value.specs.Domain.{kind_of}
use Rattle.sq_bound.specs.declared.names.BaseTable.{BaseTable}
use Rattle.sq_bound.specs.declared.names.Column.{Column}
use Rattle.sq_bound.specs.declared.names.Leaf.{Leaf}
use Rattle.sq_bound.specs.declared.names.Reference.{Reference}
use Rattle.sq_bound.specs.declared.names.TableBody.{TableBody}
use Rattle.sq_bound.specs.declared.names.TableBody.TheVariants as body
use Rattle.sq_bound.specs.declared.names.TableDesc.{TableDesc}
use Rattle.sq_catalog.specs.Catalog.{is_table, itself}
use Rattle.sq_catalog.specs.Reference.{is_to, keys_with}
use Rattle.sq_catalog.specs.Stored.{AreChecksAt, AreNamed, AreStored, HasOwnPlaces, IsBody, IsDescribed, IsNamed, IsNext, IsStored, IsTableOf, IsUnderItself}
use Rattle.sq_catalog.specs.declared.catalog.FullName.{FullName}
use Rattle.sq_catalog.proofs.OneByOne.Listed.{all_push, all_weaker, get_behind, get_more, is_below}
use Rattle.sq_catalog.proofs.Growth.Extending.{table_made}

-- ---- a base table behind the others

-- the last stands at its place
pub base_behind : (bases : List BaseTable) (b : BaseTable) → b.place ≡ length bases → IsBase (bases ++ b ∷ []) b
base_behind bases b place = get_behind bases b b.place place

-- ---- tables and views

body_more : (bases : List BaseTable) (b : BaseTable) (columns : ℕ) (t : TableBody) → IsBody bases columns t → IsBody (bases ++ b ∷ []) columns t
body_more bases b columns (body.Base x) h = (get_more bases b x x.place h.0, h.1)
body_more bases b columns (body.View v) h = tt

pub stored_more : (bases : List BaseTable) (b : BaseTable) (t : TableDesc) → IsStored bases t → IsStored (bases ++ b ∷ []) t
stored_more bases b t h = record {
  over = IfSome_then t.leaf {P = λ (l : Leaf). IsBase bases l.table} {Q = λ (l : Leaf). IsBase (bases ++ b ∷ []) l.table} h.over (λ l there. get_more bases b l.table l.table.place there);
  body = body_more bases b (length t.columns) t.body h.body;
  itself = h.itself;
  places = h.places;
}

pub all_stored_more : (bases : List BaseTable) (b : BaseTable) (es : List (FullName × TableDesc)) → AreStored bases es → AreStored (bases ++ b ∷ []) es
all_stored_more bases b es h = All-weaker (λ e. IsStored bases e.1) (λ e. IsStored (bases ++ b ∷ []) e.1) (λ e there. stored_more bases b e.1 there) es h

-- the one at a place
pub stored_at : (bases : List BaseTable) (es : List (FullName × TableDesc)) (place : ℕ) (name : FullName) (t : TableDesc) → AreStored bases es → slice_get es place ≡ Some (name, t) → IsStored bases t
stored_at bases es place name t h there =
    let within : place < length es = slice_get_within es place (name, t) there in
    subst (λ (e : FullName × TableDesc). IsStored bases e.1) (get_or_from_slice_get es place (name, t) (name, t) there) (All-get_or (λ (e : FullName × TableDesc). IsStored bases e.1) es place (name, t) within h)

-- the one that is found under a name
pub named_at : (es : List (FullName × TableDesc)) (place : ℕ) (name found : FullName) (t : TableDesc) → AreNamed es → slice_get es place ≡ Some (found, t) → lookup_key (is_table name.user name.name) es ≡ Some found → IsNamed name t
named_at es place name found t h there key =
    let own : IsNamed found t =
    subst (λ (e : FullName × TableDesc). IsNamed e.0 e.1) (get_or_from_slice_get es place (found, t) (found, t) there)
    (All-get_or (λ (e : FullName × TableDesc). IsNamed e.0 e.1) es place (found, t) (slice_get_within es place (found, t) there) h) in
    let same = and_parts (pointwise nat_eq name.user found.user) (pointwise nat_eq name.name found.name) (lookup_key_passes (is_table name.user name.name) es found key) in
    (own.0 ∙ sym (same_text name.user found.user (sym same.0)), own.1 ∙ sym (same_text name.name found.name (sym same.1)))

-- ---- references to keys

key_more : (keys : List Keys) (own : Keys) (table key : ℕ) → nat_lt key (length (keys_at keys table)) ≡ true → nat_lt key (length (keys_at (keys ++ own ∷ []) table)) ≡ true
key_more [] own table key h = absurd (none key (is_below key 0 h))
  where
    none : (n : ℕ) → n < 0 → ⊥
    none n lt = omega arith
key_more (k ∷ ks) own zero key h = h
key_more (k ∷ ks) own (suc table) key h = key_more ks own table key h

keys_behind : (bases : List BaseTable) (b : BaseTable) → keys_of_bases (bases ++ b ∷ []) ≡ keys_with bases b.keys
keys_behind bases b = map-append (λ (x : BaseTable). x.keys) bases (b ∷ [])

-- the columns of its keys behind those of the others
pub keyed_more : (given more : List (Vec (Vec ℕ Global) Global)) (bases : List BaseTable) (columns : Vec (Vec ℕ Global) Global) (b : BaseTable) → more ≡ given ++ columns ∷ []
    → map (λ key. key.items) columns.items ≡ b.keys → keys_of given ≡ keys_of_bases bases → keys_of more ≡ keys_of_bases (bases ++ b ∷ [])
keyed_more given more bases columns b added same h =
    ap keys_of added ∙ map-append (λ (keys : Vec (Vec ℕ Global) Global). map (λ key. key.items) keys.items) given (columns ∷ []) ∙ ap₂ (λ earlier own. earlier ++ own ∷ []) h same ∙ sym (keys_behind bases b)

pub keyed_added : {E : Type 0} (r : Result (Unit {0}) E) (given more : List (Vec (Vec ℕ Global) Global)) (bases after : List BaseTable) (columns : Vec (Vec ℕ Global) Global) (b : BaseTable) → OnOk r (more ≡ given ++ columns ∷ [])
    → OnOk r (after ≡ bases ++ b ∷ []) → OnErr r (more ≡ given) → OnErr r (after ≡ bases) → map (λ key. key.items) columns.items ≡ b.keys → keys_of given ≡ keys_of_bases bases → keys_of more ≡ keys_of_bases after
keyed_added (Ok u) given more bases after columns b added behind unkeyed unchanged same h = keyed_more given more bases columns b added same h ∙ ap keys_of_bases (sym behind)
keyed_added (Err e) given more bases after columns b added behind unkeyed unchanged same h = ap keys_of unkeyed ∙ h ∙ ap keys_of_bases (sym unchanged)

refers_more : (bases : List BaseTable) (b : BaseTable) (r : Reference) → refers bases r ≡ true → refers (bases ++ b ∷ []) r ≡ true
refers_more bases b r h = ap (λ keys. nat_lt r.key (length (keys_at keys r.table))) (keys_behind bases b) ∙ key_more (keys_of_bases bases) b.keys r.table r.key h

pub refer_more : (bases : List BaseTable) (b : BaseTable) → all_refer bases ≡ true → list_all (refers (bases ++ b ∷ [])) b.references ≡ true → all_refer (bases ++ b ∷ []) ≡ true
refer_more bases b h own =
    all_push (λ (x : BaseTable). list_all (refers (bases ++ b ∷ [])) x.references) bases b
    (all_weaker (λ (x : BaseTable). list_all (refers bases) x.references) (λ (x : BaseTable). list_all (refers (bases ++ b ∷ [])) x.references)
    (λ x there. all_weaker (refers bases) (refers (bases ++ b ∷ [])) (refers_more bases b) x.references there) bases h)
    own

-- the keys of the table that is being defined, and of an earlier one
pub own_keys : (bases : List BaseTable) (own : Keys) → keys_at (keys_with bases own) (length bases) ≡ own
own_keys [] own = refl
own_keys (b ∷ bs) own = own_keys bs own

keys_read : (bases : List BaseTable) (own : Keys) (b : BaseTable) (place : ℕ) → place < length bases → get_or bases place b ≡ b → keys_at (keys_with bases own) place ≡ b.keys
keys_read [] own b place lt e = absurd (omega arith)
keys_read (x ∷ xs) own b zero lt e = ap (λ (y : BaseTable). y.keys) e
keys_read (x ∷ xs) own b (suc place) lt e = keys_read xs own b place (omega arith) e

pub earlier_keys : (bases : List BaseTable) (own : Keys) (b : BaseTable) → IsBase bases b → keys_at (keys_with bases own) b.place ≡ b.keys
earlier_keys bases own b h = keys_read bases own b b.place (slice_get_within bases b.place b h) (get_or_from_slice_get bases b.place b b h)

-- ---- a base table that is made

pub by_keys : (keys : List Keys) (columns : ℕ) (rs : List Reference) → list_all (is_to keys columns) rs ≡ true → list_all (λ (r : Reference). are_positions columns r.by_key) rs ≡ true
by_keys keys columns rs h =
    all_weaker (is_to keys columns) (λ (r : Reference). are_positions columns r.by_key) (λ r there. (and_parts (nat_lt r.key (length (keys_at keys r.table))) (are_positions columns r.by_key) there).1) rs h

refer_made : (bases : List BaseTable) (b : BaseTable) (columns : ℕ) (rs : List Reference) → list_all (is_to (keys_with bases b.keys) columns) rs ≡ true → list_all (refers (bases ++ b ∷ [])) rs ≡ true
refer_made bases b columns rs h =
    all_weaker (is_to (keys_with bases b.keys) columns) (refers (bases ++ b ∷ []))
    (λ r there. ap (λ keys. nat_lt r.key (length (keys_at keys r.table))) (keys_behind bases b)
    ∙ (and_parts (nat_lt r.key (length (keys_at (keys_with bases b.keys) r.table))) (are_positions columns r.by_key) there).0)
    rs h

body_made : (bases : List BaseTable) (b : BaseTable) (columns : ℕ) (t : TableBody) → IsBase bases b → columns ≡ length b.columns → IsTableOf b t → IsBody bases columns t
body_made bases b columns (body.Base x) there count h = (subst (λ (y : BaseTable). IsBase bases y) (sym h) there, count ∙ ap (λ (y : BaseTable). length y.columns) (sym h))
body_made bases b columns (body.View v) there count h = absurd h

place_made : (b : BaseTable) (t : TableBody) → IsTableOf b t → place_of t ≡ Base b.place
place_made b (body.Base own) h = ap (λ (y : BaseTable). Base y.place) h
place_made b (body.View v) h = absurd h

itself_made : (b : BaseTable) (t : TableBody) (under : Option Leaf) → IsTableOf b t → option_map under_of under ≡ Some (itself b.place) → IsUnderItself t under
itself_made b (body.Base own) under h is = is ∙ ap (λ (y : BaseTable). Some (itself y.place)) (sym h)
itself_made b (body.View v) under h is = absurd h

pub places_counted : {A B : Type 0} (xs : List A) (ys : List B) (n : ℕ) → length xs ≡ length ys → map (λ (p : ℕ × A). p.0) (enumerate_from n xs) ≡ map (λ (p : ℕ × B). p.0) (enumerate_from n ys)
places_counted [] [] n e = refl
places_counted [] (y ∷ ys) n e = absurd (omega (arith, e))
places_counted (x ∷ xs) [] n e = absurd (omega (arith, e))
places_counted (x ∷ xs) (y ∷ ys) n e = ap (λ l. n ∷ l) (places_counted xs ys (n + 1) (omega (arith, e)))

places_made : (b : BaseTable) (columns : List Column) (t : TableBody) → IsTableOf b t → length columns ≡ length b.columns → map (λ (c : Column). c.leaf_column) columns ≡ places_of columns → HasOwnPlaces columns t
places_made b columns (body.Base own) h count own_places = own_places ∙ places_counted columns own.columns 0 (count ∙ ap (λ (y : BaseTable). length y.columns) (sym h))
places_made b columns (body.View v) h count own_places = tt

pub next_made : (bases : List BaseTable) (name : FullName) (b : BaseTable) (columns : List Column) (width : ℕ) (t : TableDesc) → IsDescribed name b columns t → b.place ≡ length bases → kinds_of_columns columns ≡ base_kinds b
    → map (λ (c : Column). c.leaf_column) columns ≡ places_of columns → AreChecksAt (length bases) (kinds_of_columns columns) b.checks → list_all (is_to (keys_with bases b.keys) width) b.references ≡ true → IsNext bases name t b
next_made bases name b columns width t h place kinds places checks refer =
    let count : length columns ≡ length b.columns = sym (length-map columns (λ (c : Column). c.kind)) ∙ ap length kinds ∙ length-map b.columns (λ (c : BaseColumn). kind_of c.domain) in
    record {
      named = h.named;
      stored = record {
        over = IfSome_then t.leaf {P = λ (l : Leaf). (l.table ≡ b) × (l.conditions ≡ [])} {Q = λ (l : Leaf). IsBase (bases ++ b ∷ []) l.table} h.leaf
            (λ l same. subst (λ (y : BaseTable). IsBase (bases ++ b ∷ []) y) (sym same.0) (base_behind bases b place));
        body = body_made (bases ++ b ∷ []) b (length t.columns) t.body (base_behind bases b place) (ap length h.columns ∙ count) h.body;
        itself = itself_made b t.body t.leaf h.body h.itself;
        places = subst (λ (cs : List Column). HasOwnPlaces cs t.body) (sym h.columns) (places_made b columns t.body h.body count places);
      };
      place = place_made b t.body h.body ∙ ap Base place;
      table = λ views. table_made bases name b columns views t h place kinds checks;
      kinds = sym kinds ∙ ap kinds_of_columns (sym h.columns);
      refer = refer_made bases b width b.references refer;
    }

-- ---- base tables that were there, and one more

pub refer_added : (old was new : List BaseTable) (b : BaseTable) → old ≡ was → new ≡ old ++ b ∷ [] → all_refer old ≡ true → list_all (refers (was ++ b ∷ [])) b.references ≡ true → all_refer new ≡ true
refer_added old was new b same grown h own =
    let here : list_all (refers (old ++ b ∷ [])) b.references ≡ true = subst (λ (bs : List BaseTable). list_all (refers (bs ++ b ∷ [])) b.references ≡ true) (sym same) own in
    subst (λ (bs : List BaseTable). all_refer bs ≡ true) (sym grown) (refer_more old b h here)

pub all_stored_added : (old new : List BaseTable) (b : BaseTable) (es : List (FullName × TableDesc)) → new ≡ old ++ b ∷ [] → AreStored old es → AreStored new es
all_stored_added old new b es grown h = subst (λ (bs : List BaseTable). AreStored bs es) (sym grown) (all_stored_more old b es h)

pub stored_added : (old was new : List BaseTable) (b : BaseTable) (t : TableDesc) → old ≡ was → new ≡ old ++ b ∷ [] → IsStored (was ++ b ∷ []) t → IsStored new t
stored_added old was new b t same grown h = subst (λ (bs : List BaseTable). IsStored bs t) (sym (grown ∙ ap (λ bs. bs ++ b ∷ []) same)) h

-- the references of a table of as many columns
pub by_keys_at : (keys : List Keys) (n m : ℕ) (rs : List Reference) → n ≡ m → list_all (is_to keys m) rs ≡ true → list_all (λ (r : Reference). are_positions n r.by_key) rs ≡ true
by_keys_at keys n m rs e h = by_keys keys n rs (ap (λ k. list_all (is_to keys k) rs) e ∙ h)

-- a base table that is made with the table as names see it
pub next_of : {E : Type 0} (bases : List BaseTable) (name : FullName) (columns : List Column) (width : ℕ) (b : BaseTable) (r : Result (TableDesc × BaseTable) E) → IfOk r (λ new. new.1 ≡ b) → IfOk r (λ new. IsDescribed name b columns new.0)
    → b.place ≡ length bases → kinds_of_columns columns ≡ base_kinds b → map (λ (c : Column). c.leaf_column) columns ≡ places_of columns → AreChecksAt (length bases) (kinds_of_columns columns) b.checks → list_all (is_to (keys_with bases b.keys) width) b.references ≡ true
    → IfOk r (λ new. IsNext bases name new.0 new.1)
next_of bases name columns width b (Ok new) e h place kinds places checks refer = subst (λ (x : BaseTable). IsNext bases name new.0 x) (sym e) (next_made bases name b columns width new.0 h place kinds places checks refer)
next_of bases name columns width b (Err x) e h place kinds places checks refer = tt
