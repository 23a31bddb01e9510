-- A catalog grows table by table.
use Rattle.std.proofs.Common.{◌≡◌, ℕ, ◌+◌, ◌<◌, Bool, false, List, [], ◌∷◌, ◌++◌, length, get_or, take, flat_map, position, Option, Some, None, is_some, refl, ap, sym, subst, ◌∙◌, true≢false, arith, append_assoc, length-append, Result, Ok, Err}
use Rattle.std.specs.List.{AllZip}
use Rattle.std.specs.Result.{OnOk}
use Rattle.std.proofs.lemmas.List.{take_more, append-nil}
use Rattle.std.proofs.lemmas.Grind.{flat_map-append}
use Rattle.std.specs.Map.{keys_of}
use Rattle.indexmap.specs.IndexMap.{IndexMap, get, insert_entry, keys}
use Rattle.indexmap.proofs.CallerLemmas.{insert_entry-new}
use Rattle.indexmap.proofs.MapLemmas.{some_index}
use Rattle.sq_tree.specs.declared.schema.TableDefinition.{TableDefinition}
use Rattle.sq_bound.specs.declared.names.BaseTable.{BaseTable}
use Rattle.sq_bound.specs.declared.names.Column.{Column}
use Rattle.sq_catalog.specs.declared.catalog.FullName.{FullName}
use Rattle.sq_catalog.specs.Base.{AreBasesOf, IsBaseOf}
use Rattle.sq_catalog.specs.Catalog.{Adds, Catalog, Gains, HaveReferences}
use Rattle.sq_catalog.specs.Columns.{HasColumnsOf}
use Rattle.sq_catalog.specs.Reference.{MakesReferences}
use Rattle.sq_catalog.proofs.CreateTable.References.{have_append, have_still}

-- ---- a key that is new goes last

pub none_there : {X : Type 0} (o : Option X) → is_some o ≡ false → o ≡ None
none_there None h = refl
none_there (Some x) h = absurd (true≢false h)

pub keys_append : {K V : Type 0} (es : List (K × V)) (k : K) (v : V) → keys_of (es ++ (k, v) ∷ []) ≡ keys_of es ++ k ∷ []
keys_append [] k v = refl
keys_append (e ∷ es) k v = ap (λ ks. e.0 ∷ ks) (keys_append es k v)

pub entry_last : {K V S : Type 0} (eq : K → K → Bool) (m : IndexMap K V S) (k : K) (v : V) → position (eq k) (keys m) ≡ None → insert_entry eq m.entries k v ≡ m.entries ++ (k, v) ∷ []
entry_last eq m k v none = insert_entry-new eq m k v (none_there (get eq m k) (sym (some_index (eq k) m.entries) ∙ ap is_some none))

pub key_last : {K V S : Type 0} (eq : K → K → Bool) (m : IndexMap K V S) (k : K) (v : V) → position (eq k) (keys m) ≡ None → keys_of (insert_entry eq m.entries k v) ≡ keys m ++ k ∷ []
key_last eq m k v none = ap keys_of (entry_last eq m k v none) ∙ keys_append m.entries k v

-- ---- tables that are added one after the other

pub zip_append : {A B : Type 0} (R : A → B → Type 0) (xs more : List A) (ys others : List B) → AllZip R xs ys → AllZip R more others → AllZip R (xs ++ more) (ys ++ others)
zip_append R [] more [] others h k = k
zip_append R [] more (y ∷ ys) others h k = absurd h
zip_append R (x ∷ xs) more [] others h k = absurd h
zip_append R (x ∷ xs) more (y ∷ ys) others h k = (h.0, zip_append R xs more ys others h.1 k)

bases_append : (names more_names : List FullName) (definitions more : List TableDefinition) (bases others : List BaseTable) → AreBasesOf names definitions bases → AreBasesOf more_names more others
    → AreBasesOf (names ++ more_names) (definitions ++ more) (bases ++ others)
bases_append [] more_names [] more [] others h k = k
bases_append [] more_names [] more (b ∷ bases) others h k = absurd h
bases_append [] more_names (t ∷ definitions) more [] others h k = absurd h
bases_append [] more_names (t ∷ definitions) more (b ∷ bases) others h k = absurd h
bases_append (name ∷ names) more_names [] more [] others h k = absurd h
bases_append (name ∷ names) more_names [] more (b ∷ bases) others h k = absurd h
bases_append (name ∷ names) more_names (t ∷ definitions) more [] others h k = absurd h
bases_append (name ∷ names) more_names (t ∷ definitions) more (b ∷ bases) others h k = (h.0, bases_append names more_names definitions more bases others h.1 k)

adds_more : (a b c : Catalog) (names more_names : List FullName) (columns more_columns : List (List Column)) (bases more_bases : List BaseTable) → Adds a b names columns bases → Adds b c more_names more_columns more_bases
    → Adds a c (names ++ more_names) (columns ++ more_columns) (bases ++ more_bases)
adds_more a b c names more_names columns more_columns bases more_bases p q = record {
  tables = q.tables ∙ ap (λ l. l ++ more_names) p.tables ∙ append_assoc a.tables names more_names;
  columns = q.columns ∙ ap (λ l. l ++ more_columns) p.columns ∙ append_assoc a.columns columns more_columns;
  bases = q.bases ∙ ap (λ l. l ++ more_bases) p.bases ∙ append_assoc a.bases bases more_bases;
}

-- none
pub gains_kept : (a b : Catalog) → b.tables ≡ a.tables → b.columns ≡ a.columns → b.bases ≡ a.bases → Gains a b [] []
gains_kept a b tables columns bases = record {
  columns = [];
  bases = [];
  added = record { tables = tables ∙ sym (append-nil a.tables); columns = columns ∙ sym (append-nil a.columns); bases = bases ∙ sym (append-nil a.bases) };
  columns_are = tt;
  bases_are = tt;
  references_are = tt;
  count = refl;
}

pub gains_none : (a : Catalog) → Gains a a [] []
gains_none a = gains_kept a a refl refl refl

pub gains_none_if : {E : Type 0} (r : Result (Unit {0}) E) (a b : Catalog) → b.tables ≡ a.tables → b.columns ≡ a.columns → b.bases ≡ a.bases → OnOk r (Gains a b [] [])
gains_none_if (Ok u) a b tables columns bases = gains_kept a b tables columns bases
gains_none_if (Err e) a b tables columns bases = tt

-- one
pub gains_one : {E : Type 0} (r : Result (Unit {0}) E) (a b : Catalog) (name : FullName) (t : TableDefinition) (columns : List Column) (base : BaseTable) → OnOk r (Adds a b (name ∷ []) (columns ∷ []) (base ∷ [])) → HasColumnsOf t columns
    → IsBaseOf name t base → MakesReferences a name t columns base → OnOk r (Gains a b (name ∷ []) (t ∷ []))
gains_one (Ok u) a b name t columns base adds seen held refer = record {
  columns = columns ∷ [];
  bases = base ∷ [];
  added = adds;
  columns_are = (seen, tt);
  bases_are = (held, tt);
  references_are =
      subst (λ all. HaveReferences all b.columns b.bases (name ∷ []) (t ∷ []) (base ∷ [])) (sym adds.tables)
      (subst (λ all. HaveReferences (a.tables ++ name ∷ []) all b.bases (name ∷ []) (t ∷ []) (base ∷ [])) (sym adds.columns)
      (subst (λ all. HaveReferences (a.tables ++ name ∷ []) (a.columns ++ columns ∷ []) all (name ∷ []) (t ∷ []) (base ∷ [])) (sym adds.bases) (refer, tt)));
  count = refl;
}
gains_one (Err e) a b name t columns base adds seen held refer = tt

pub gains_first : (a b : Catalog) (names : List FullName) (definitions : List TableDefinition) → Gains a b names definitions → Gains a b (names ++ []) (definitions ++ [])
gains_first a b names definitions h = rw (append-nil names, append-nil definitions) h

pub gains_more : (a b c : Catalog) (names more_names : List FullName) (definitions more : List TableDefinition) → Gains a b names definitions → Gains b c more_names more → Gains a c (names ++ more_names) (definitions ++ more)
gains_more a b c names more_names definitions more p q = record {
  columns = p.columns ++ q.columns;
  bases = p.bases ++ q.bases;
  added = adds_more a b c names more_names p.columns q.columns p.bases q.bases p.added q.added;
  columns_are = zip_append HasColumnsOf definitions more p.columns q.columns p.columns_are q.columns_are;
  bases_are = bases_append names more_names definitions more p.bases q.bases p.bases_are q.bases_are;
  references_are = have_append c.tables c.columns c.bases names more_names definitions more p.bases q.bases
      (have_still b c more_names q.columns q.bases q.added names definitions p.bases p.references_are) q.references_are;
  count = length-append p.bases q.bases ∙ (λ i. p.count i + q.count i) ∙ sym (length-append names more_names);
}

-- what comes of the parts before one, and of that one
pub parts_next : {X Y : Type 0} (f : X → List Y) (before : List Y) (parts : List X) (i : ℕ) (x : X) → i < length parts → x ≡ get_or parts i x → before ++ flat_map f (take (i + 1) parts) ≡ (before ++ flat_map f (take i parts)) ++ f x
parts_next f before parts i x lt e =
    let all : flat_map f (take (i + 1) parts) ≡ flat_map f (take i parts) ++ f x = grind (arith, take_more parts i x lt, e, flat_map-append f (take i parts) (x ∷ []), append-nil (f x)) in
    ap (λ l. before ++ l) all ∙ sym (append_assoc before (flat_map f (take i parts)) (f x))

pub gains_next : {X : Type 0} (f : X → List FullName) (g : X → List TableDefinition) (names : List FullName) (definitions : List TableDefinition) (parts : List X) (i : ℕ) (x : X) (a b c : Catalog) → i < length parts → x ≡ get_or parts i x
    → Gains a b (names ++ flat_map f (take i parts)) (definitions ++ flat_map g (take i parts)) → Gains b c (f x) (g x) → Gains a c (names ++ flat_map f (take (i + 1) parts)) (definitions ++ flat_map g (take (i + 1) parts))
gains_next f g names definitions parts i x a b c lt e p q =
    rw (parts_next f names parts i x lt e, parts_next g definitions parts i x lt e)
    (gains_more a b c (names ++ flat_map f (take i parts)) (f x) (definitions ++ flat_map g (take i parts)) (g x) p q)
