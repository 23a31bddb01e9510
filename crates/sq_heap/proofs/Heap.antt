-- Tables of a heap store, one changed at a time.
use Rattle.std.proofs.Math.Seq.{take-append_seam}
use Rattle.std.proofs.Common.{◌≡◌, ℕ, zero, suc, ◌+◌, ◌<◌, ◌≤◌, Bool, true, false, ◌&&◌, ◌||◌, nat_eq, nat_lt, List, [], ◌∷◌, ◌++◌, length, drop, take, map, get_or, get_or-take, slice_index_or, slice_set, Option, Some, None, arith, refl, sym, ap, ◌∙◌}
use Rattle.std.specs.List.{list_any}
use Rattle.std.proofs.lemmas.List.{replicate_more}
use Rattle.std.proofs.lemmas.Bool.{false≢true, and_from}
use Rattle.std.proofs.lemmas.Grind.{common_steps}
use Rattle.sq_store.specs.declared.table.Table.{Table}
use Rattle.sq_store.specs.declared.change.Change.{Change}
use Rattle.sq_store.specs.Content.{Content, changed_by, empty, no_rows, table_at}
use Rattle.std.specs.Prelude.{Vec}
use Rattle.std.specs.declared.alloc.Global.{Global}
use Rattle.sq_value.proofs.Truths.{both_left, both_right, or_without}
use Rattle.sq_store.specs.Keys.{keys_of as given_keys}
use Rattle.sq_store.specs.Keys.{Keys, are_keyed, has_distinct_keys, have_keys, keys_at}
use Rattle.sq_store.specs.Sound.{is_sound}
use Rattle.sq_store.specs.laws.Sound.{keyed_of}
use Rattle.sq_store.proofs.Sound.{next_at, sound_length}
use Rattle.sq_heap.specs.Heap.{all_before, all_committed, all_keys, all_now, are_listed, are_within, before_of, committed_of, first_keys, has_none, now_of, table_keys}
use Rattle.sq_heap.specs.Index.{keys_of}
use Rattle.sq_heap.specs.Slots.{Slot, table_of}
use Rattle.sq_heap.specs.Undo.{back}
use Rattle.sq_heap.proofs.Back.{back_take_drop}
use Rattle.sq_heap.specs.declared.mark.Mark.{Mark}
use Rattle.sq_heap.specs.declared.undo.Undo.{Undo}
use Rattle.sq_heap.specs.declared.table.HeapTable.{HeapTable}

-- what one table is, in the list of what all are
pub map_at : (f : HeapTable → Table) (ts : List HeapTable) (i : ℕ) (t : HeapTable) → i < length ts → t ≡ get_or ts i t → table_at (map f ts) i ≡ f t
map_at f [] i t lt e = absurd (omega arith)
map_at f (u ∷ ts) zero t lt e = ap f (sym e)
map_at f (u ∷ ts) (suc i) t lt e = map_at f ts i t (omega arith) e

pub map_set : (f : HeapTable → Table) (ts : List HeapTable) (i : ℕ) (t : HeapTable) → map f (slice_set ts i t) ≡ slice_set (map f ts) i (f t)
map_set f [] i t = refl
map_set f (u ∷ ts) zero t = refl
map_set f (u ∷ ts) (suc i) t = ap (λ us. f u ∷ us) (map_set f ts i t)

-- a table set to what it is
pub set_same : (content : Content) (i : ℕ) (t : Table) → i < length content → t ≡ table_at content i → slice_set content i t ≡ content
set_same [] i t lt e = refl
set_same (u ∷ content) zero t lt e = ap (λ v. v ∷ content) e
set_same (u ∷ content) (suc i) t lt e = ap (λ us. u ∷ us) (set_same content i t (omega arith) e)

pub set_twice : (content : Content) (i : ℕ) (t u : Table) → slice_set (slice_set content i t) i u ≡ slice_set content i u
set_twice [] i t u = refl
set_twice (v ∷ content) zero t u = refl
set_twice (v ∷ content) (suc i) t u = ap (λ us. v ∷ us) (set_twice content i t u)

pub length_map : (f : HeapTable → Table) (ts : List HeapTable) → length (map f ts) ≡ length ts
length_map f [] = refl
length_map f (t ∷ ts) = ap suc (length_map f ts)

-- a change of one table that leaves what is seen of it
pub map_set_same : (f : HeapTable → Table) (ts : List HeapTable) (i : ℕ) (t u : HeapTable) → i < length ts → t ≡ get_or ts i t → f u ≡ f t → map f (slice_set ts i u) ≡ map f ts
map_set_same f ts i t u lt e same = map_set f ts i u ∙ set_same (map f ts) i (f u) (let l = length_map f ts in omega arith) (same ∙ sym (map_at f ts i t lt e))

-- ---- tests

-- ---- which tables were changed

any_push : (n i : ℕ) (listed : List ℕ) → list_any (nat_eq n) (listed ++ i ∷ []) ≡ (list_any (nat_eq n) listed || nat_eq n i)
any_push n i [] = grind (arith, common_steps)
any_push n i (k ∷ listed) = grind (arith, common_steps, any_push n i listed)

listed_wider : (listed : List ℕ) (k n : ℕ) (ts : List HeapTable) → are_listed listed n ts ≡ true → are_listed (listed ++ k ∷ []) n ts ≡ true
listed_wider listed k n [] h = refl
listed_wider listed k n (t ∷ ts) h =
    let rest : are_listed (listed ++ k ∷ []) (n + 1) ts ≡ true = listed_wider listed k (n + 1) ts (grind (arith, common_steps)) in
    grind (arith, common_steps, any_push n k listed)

-- one table more is listed, and may have changed
pub listed_push : (listed : List ℕ) (k n : ℕ) (ts : List HeapTable) (i : ℕ) (t : HeapTable) → k ≡ n + i → are_listed listed n ts ≡ true → are_listed (listed ++ k ∷ []) n (slice_set ts i t) ≡ true
listed_push listed k n [] i t e h = refl
listed_push listed k n (u ∷ ts) zero t e h =
    let rest : are_listed (listed ++ k ∷ []) (n + 1) ts ≡ true = listed_wider listed k (n + 1) ts (grind (arith, common_steps)) in
    let here : nat_eq n k ≡ true = grind (arith, common_steps) in
    grind (arith, common_steps, any_push n k listed)
listed_push listed k n (u ∷ ts) (suc i) t e h =
    let rest : are_listed (listed ++ k ∷ []) (n + 1) (slice_set ts i t) ≡ true = listed_push listed k (n + 1) ts i t (omega arith) (grind (arith, common_steps)) in
    grind (arith, common_steps, any_push n k listed)

-- where a table had changes it is listed
pub listed_set : (listed : List ℕ) (n : ℕ) (ts : List HeapTable) (i : ℕ) (t u : HeapTable) → i < length ts → t ≡ get_or ts i t → (has_none t.undo.items ≡ true → has_none u.undo.items ≡ true) → are_listed listed n ts ≡ true → are_listed listed n (slice_set ts i u) ≡ true
listed_set listed n [] i t u lt e keeps h = refl
listed_set listed n (v ∷ ts) zero t u lt e keeps h =
    and_from _ _ (kept (has_none v.undo.items) (has_none u.undo.items) (λ k. keeps (ap (λ (w : HeapTable). has_none w.undo.items) e ∙ k)) (both_left (has_none v.undo.items || list_any (nat_eq n) listed) (are_listed listed (n + 1) ts) h))
    (both_right (has_none v.undo.items || list_any (nat_eq n) listed) (are_listed listed (n + 1) ts) h)
  where
    kept : (a b : Bool) → (a ≡ true → b ≡ true) → (a || list_any (nat_eq n) listed) ≡ true → (b || list_any (nat_eq n) listed) ≡ true
    kept true true k h = refl
    kept true false k h = absurd (false≢true (k refl))
    kept false true k h = refl
    kept false false k h = h
listed_set listed n (v ∷ ts) (suc i) t u lt e keeps h =
    and_from _ _ (both_left (has_none v.undo.items || list_any (nat_eq n) listed) (are_listed listed (n + 1) ts) h)
    (listed_set listed (n + 1) ts i t u (omega arith) e keeps (both_right (has_none v.undo.items || list_any (nat_eq n) listed) (are_listed listed (n + 1) ts) h))

not_listed : (n k : ℕ) (listed : List ℕ) → nat_eq n k ≡ false → list_any (nat_eq n) (listed ++ k ∷ []) ≡ list_any (nat_eq n) listed
not_listed n k listed other = any_push n k listed ∙ or_without (list_any (nat_eq n) listed) (nat_eq n k) other

listed_narrower : (listed : List ℕ) (k n : ℕ) (ts : List HeapTable) → k < n → are_listed (listed ++ k ∷ []) n ts ≡ true → are_listed listed n ts ≡ true
listed_narrower listed k n [] lt h = refl
listed_narrower listed k n (t ∷ ts) lt h =
    let other : nat_eq n k ≡ false = grind (arith, common_steps) in
    let first : (has_none t.undo.items || list_any (nat_eq n) (listed ++ k ∷ [])) ≡ true = both_left (has_none t.undo.items || list_any (nat_eq n) (listed ++ k ∷ [])) (are_listed (listed ++ k ∷ []) (n + 1) ts) h in
    let rest : are_listed listed (n + 1) ts ≡ true = listed_narrower listed k (n + 1) ts (omega arith) (both_right (has_none t.undo.items || list_any (nat_eq n) (listed ++ k ∷ [])) (are_listed (listed ++ k ∷ []) (n + 1) ts) h) in
    and_from _ _ (ap (λ (b : Bool). has_none t.undo.items || b) (sym (not_listed n k listed other)) ∙ first) rest

-- a table without changes need not be listed
pub listed_pop : (listed : List ℕ) (k n : ℕ) (ts : List HeapTable) (i : ℕ) (t : HeapTable) → k ≡ n + i → has_none t.undo.items ≡ true → are_listed (listed ++ k ∷ []) n ts ≡ true → are_listed listed n (slice_set ts i t) ≡ true
listed_pop listed k n [] i t e none h = refl
listed_pop listed k n (u ∷ ts) zero t e none h =
    let rest : are_listed listed (n + 1) ts ≡ true = listed_narrower listed k (n + 1) ts (omega arith) (both_right (has_none u.undo.items || list_any (nat_eq n) (listed ++ k ∷ [])) (are_listed (listed ++ k ∷ []) (n + 1) ts) h) in
    let first : (has_none t.undo.items || list_any (nat_eq n) listed) ≡ true = ap (λ (b : Bool). b || list_any (nat_eq n) listed) none in
    and_from _ _ first rest
listed_pop listed k n (u ∷ ts) (suc i) t e none h =
    let other : nat_eq n k ≡ false = grind (arith, common_steps) in
    let first : (has_none u.undo.items || list_any (nat_eq n) (listed ++ k ∷ [])) ≡ true = both_left (has_none u.undo.items || list_any (nat_eq n) (listed ++ k ∷ [])) (are_listed (listed ++ k ∷ []) (n + 1) ts) h in
    let rest : are_listed listed (n + 1) (slice_set ts i t) ≡ true = listed_pop listed k (n + 1) ts i t (omega arith) none (both_right (has_none u.undo.items || list_any (nat_eq n) (listed ++ k ∷ [])) (are_listed (listed ++ k ∷ []) (n + 1) ts) h) in
    and_from _ _ (ap (λ (b : Bool). has_none u.undo.items || b) (sym (not_listed n k listed other)) ∙ first) rest

none_made : (ss : List Slot) (us : List Undo) → (has_none us || false) ≡ true → table_of (back ss us) ≡ table_of ss
none_made ss [] h = refl
none_made ss (u ∷ us) h = absurd (false≢true h)

-- where none is listed all is committed
pub none_listed : (n : ℕ) (ts : List HeapTable) → are_listed [] n ts ≡ true → all_committed ts ≡ all_now ts
none_listed n [] h = refl
none_listed n (t ∷ ts) h =
    let here : table_of (back t.slots.list.items t.undo.items) ≡ table_of t.slots.list.items = none_made t.slots.list.items t.undo.items (both_left (has_none t.undo.items || false) (are_listed [] (n + 1) ts) h) in
    let rest : all_committed ts ≡ all_now ts = none_listed (n + 1) ts (both_right (has_none t.undo.items || false) (are_listed [] (n + 1) ts) h) in
    λ i. here i ∷ rest i

-- ---- listed tables are there

pub within_last : (n : ℕ) (listed : List ℕ) (k : ℕ) → are_within n (listed ++ k ∷ []) ≡ true → k < n
within_last n [] k h = grind (arith, common_steps)
within_last n (j ∷ listed) k h = within_last n listed k (both_right (nat_lt j n) (are_within n (listed ++ k ∷ [])) h)

pub within_rest : (n : ℕ) (listed : List ℕ) (k : ℕ) → are_within n (listed ++ k ∷ []) ≡ true → are_within n listed ≡ true
within_rest n [] k h = refl
within_rest n (j ∷ listed) k h = and_from _ _ (both_left (nat_lt j n) (are_within n (listed ++ k ∷ [])) h) (within_rest n listed k (both_right (nat_lt j n) (are_within n (listed ++ k ∷ [])) h))

pub within_push : (n : ℕ) (listed : List ℕ) (k : ℕ) → k < n → are_within n listed ≡ true → are_within n (listed ++ k ∷ []) ≡ true
within_push n [] k lt h = grind (arith, common_steps)
within_push n (j ∷ listed) k lt h = and_from _ _ (both_left (nat_lt j n) (are_within n listed) h) (within_push n listed k lt (both_right (nat_lt j n) (are_within n listed) h))

-- ---- tables without rows

now_new : (t : HeapTable) → t.slots.list.items ≡ [] → now_of t ≡ empty
now_new t e = ap table_of e

committed_new : (t : HeapTable) → t.slots.list.items ≡ [] → t.undo.items ≡ [] → committed_of t ≡ empty
committed_new t e f = (λ i. table_of (back (e i) (f i)))

map_push : (f : HeapTable → Table) (ts : List HeapTable) (t : HeapTable) (n : ℕ) → f t ≡ empty → map f ts ≡ no_rows n → map f (ts ++ t ∷ []) ≡ no_rows (n + 1)
map_push f ts t n e h = map_end ts ∙ (λ i. h i ++ e i ∷ []) ∙ replicate_more n empty
  where
    map_end : (ts : List HeapTable) → map f (ts ++ t ∷ []) ≡ map f ts ++ f t ∷ []
    map_end [] = refl
    map_end (u ∷ ts) = ap (λ us. f u ∷ us) (map_end ts)

pub now_push : (ts : List HeapTable) (t : HeapTable) (n : ℕ) → t.slots.list.items ≡ [] → all_now ts ≡ no_rows n → all_now (ts ++ t ∷ []) ≡ no_rows (n + 1)
now_push ts t n e h = map_push now_of ts t n (now_new t e) h

pub committed_push : (ts : List HeapTable) (t : HeapTable) (n : ℕ) → t.slots.list.items ≡ [] → t.undo.items ≡ [] → all_committed ts ≡ no_rows n → all_committed (ts ++ t ∷ []) ≡ no_rows (n + 1)
committed_push ts t n e f h = map_push committed_of ts t n (committed_new t e f) h

pub listed_new : (n : ℕ) (ts : List HeapTable) (t : HeapTable) → t.undo.items ≡ [] → are_listed [] n ts ≡ true → are_listed [] n (ts ++ t ∷ []) ≡ true
listed_new n [] t e h = (λ i. (has_none (e i) || false) && true)
listed_new n (u ∷ ts) t e h = and_from _ _ (both_left (has_none u.undo.items || false) (are_listed [] (n + 1) ts) h) (listed_new (n + 1) ts t e (both_right (has_none u.undo.items || false) (are_listed [] (n + 1) ts) h))

-- ---- one table is changed

pub applied_now : (ts : List HeapTable) (i : ℕ) (t u : HeapTable) (changes : List Change) → i < length ts → t ≡ get_or ts i t → now_of u ≡ changed_by (now_of t) changes
    → all_now (slice_set ts i u) ≡ slice_set (all_now ts) i (changed_by (table_at (all_now ts) i) changes)
applied_now ts i t u changes lt e now =
    map_set now_of ts i u ∙ ap (slice_set (all_now ts) i) (now ∙ ap (λ (v : Table). changed_by v changes) (sym (map_at now_of ts i t lt e)))

map_at_set : (f : HeapTable → Table) (ts : List HeapTable) (i : ℕ) (u : HeapTable) → i < length ts → table_at (map f (slice_set ts i u)) i ≡ f u
map_at_set f [] i u lt = absurd (omega arith)
map_at_set f (v ∷ ts) zero u lt = refl
map_at_set f (v ∷ ts) (suc i) u lt = map_at_set f ts i u (omega arith)

pub applied_before : (ts : List HeapTable) (i : ℕ) (t u : HeapTable) (from : ℕ) → i < length ts → t ≡ get_or ts i t → back u.slots.list.items (drop from u.undo.items) ≡ t.slots.list.items
    → all_before (Some (record { table = i; from = from })) (slice_set ts i u) ≡ Some (all_now ts)
applied_before ts i t u from lt e undone =
    let long : length (all_now ts) ≡ length ts = length_map now_of ts in
    ap Some (ap (λ (content : Content). slice_set content i (table_at (map (before_of from) (slice_set ts i u)) i)) (map_set now_of ts i u)
    ∙ set_twice (all_now ts) i (now_of u) (table_at (map (before_of from) (slice_set ts i u)) i)
    ∙ ap (slice_set (all_now ts) i) (map_at_set (before_of from) ts i u lt ∙ ap table_of undone)
    ∙ set_same (all_now ts) i (now_of t) (omega arith) (sym (map_at now_of ts i t lt e)))

-- a table goes back
pub took_back : (ts : List HeapTable) (i : ℕ) (t u : HeapTable) (from : ℕ) → i < length ts → t ≡ get_or ts i t → u.slots.list.items ≡ back t.slots.list.items (drop from t.undo.items)
    → all_before (Some (record { table = i; from = from })) ts ≡ Some (all_now (slice_set ts i u))
took_back ts i t u from lt e slots =
    ap Some (ap (slice_set (all_now ts) i) (map_at (before_of from) ts i t lt e ∙ sym (ap table_of slots)) ∙ sym (map_set now_of ts i u))

pub took_back_committed : (ts : List HeapTable) (i : ℕ) (t u : HeapTable) (from : ℕ) → i < length ts → t ≡ get_or ts i t → u.slots.list.items ≡ back t.slots.list.items (drop from t.undo.items) → u.undo.items ≡ take from t.undo.items
    → all_committed (slice_set ts i u) ≡ all_committed ts
took_back_committed ts i t u from lt e slots undo =
    map_set_same committed_of ts i t u lt e ((λ j. table_of (back (slots j) (undo j))) ∙ ap table_of (back_take_drop t.slots.list.items t.undo.items from))

take_none : (us : List Undo) (from : ℕ) → has_none us ≡ true → has_none (take from us) ≡ true
take_none [] zero h = refl
take_none [] (suc from) h = refl
take_none (u ∷ us) from h = absurd (false≢true h)

pub took_back_listed : (listed : List ℕ) (ts : List HeapTable) (i : ℕ) (t u : HeapTable) (from : ℕ) → i < length ts → t ≡ get_or ts i t → u.undo.items ≡ take from t.undo.items → are_listed listed 0 ts ≡ true → are_listed listed 0 (slice_set ts i u) ≡ true
took_back_listed listed ts i t u from lt e undo h = listed_set listed 0 ts i t u lt e (λ none. ap has_none undo ∙ take_none t.undo.items from none) h

pub length_set : (ts : List HeapTable) (i : ℕ) (u : HeapTable) → length (slice_set ts i u) ≡ length ts
length_set [] i u = refl
length_set (t ∷ ts) zero u = refl
length_set (t ∷ ts) (suc i) u = ap suc (length_set ts i u)

-- a table that was not changed
pub refused_before : (ts : List HeapTable) (i : ℕ) (t u : HeapTable) (mark : Option Mark) → i < length ts → t ≡ get_or ts i t → u.slots.list.items ≡ t.slots.list.items → u.undo.items ≡ t.undo.items
    → all_before mark (slice_set ts i u) ≡ all_before mark ts
refused_before ts i t u None lt e slots undo = refl
refused_before ts i t u (Some mark) lt e slots undo =
    let same : map (before_of mark.from) (slice_set ts i u) ≡ map (before_of mark.from) ts
    = map_set_same (before_of mark.from) ts i t u lt e (λ j. table_of (back (slots j) (drop mark.from (undo j)))) in
    let now : all_now (slice_set ts i u) ≡ all_now ts = map_set_same now_of ts i t u lt e (λ j. table_of (slots j)) in
    λ j. Some (slice_set (now j) mark.table (table_at (same j) mark.table))

pub refused_listed : (listed : List ℕ) (ts : List HeapTable) (i : ℕ) (t u : HeapTable) → i < length ts → t ≡ get_or ts i t → u.undo.items ≡ t.undo.items → are_listed listed 0 ts ≡ true → are_listed listed 0 (slice_set ts i u) ≡ true
refused_listed listed ts i t u lt e undo h = listed_set listed 0 ts i t u lt e (λ none. ap has_none undo ∙ none) h

pub applied_listed : (listed : List ℕ) (ts : List HeapTable) (i : ℕ) (u : HeapTable) → are_listed listed 0 ts ≡ true → are_listed (listed ++ i ∷ []) 0 (slice_set ts i u) ≡ true
applied_listed listed ts i u h = listed_push listed i 0 ts i u (omega arith) h

-- ---- what is sound

pub tables_of_keys : (row_numbers : ℕ) (keys : List Keys) (ts : List HeapTable) → is_sound row_numbers keys (all_now ts) ≡ true → length ts ≡ length keys
tables_of_keys row_numbers keys ts h = sym (length_map now_of ts) ∙ sound_length row_numbers keys (all_now ts) h

pub slots_within : (row_numbers : ℕ) (keys : List Keys) (ts : List HeapTable) (i : ℕ) (t : HeapTable) → is_sound row_numbers keys (all_now ts) ≡ true → i < length (all_now ts) → t ≡ get_or ts i t → length t.slots.list.items ≤ row_numbers
slots_within row_numbers keys ts i t h lt e =
    let long : length (all_now ts) ≡ length ts = length_map now_of ts in
    let within : i < length ts = omega arith in
    let next : (table_at (all_now ts) i).next ≤ row_numbers + 1 = next_at row_numbers keys (all_now ts) i h in
    let same : (table_at (all_now ts) i).next ≡ length t.slots.list.items + 1 = ap (λ (u : Table). u.next) (map_at now_of ts i t within e) in
    omega arith

keyed_distinct : (keys : List Keys) (ts : Content) (i : ℕ) → are_keyed keys ts ≡ true → i < length ts → has_distinct_keys (keys_at keys i) (table_at ts i) ≡ true
keyed_distinct [] [] i h lt = absurd (omega arith)
keyed_distinct [] (t ∷ ts) i h lt = absurd (false≢true h)
keyed_distinct (k ∷ keys) [] i h lt = absurd (false≢true h)
keyed_distinct (k ∷ keys) (t ∷ ts) zero h lt =
    both_left (has_distinct_keys k t) (are_keyed keys ts) (both_right (have_keys k t.rows) (has_distinct_keys k t && are_keyed keys ts) h)
keyed_distinct (k ∷ keys) (t ∷ ts) (suc i) h lt =
    keyed_distinct keys ts i (both_right (has_distinct_keys k t) (are_keyed keys ts) (both_right (have_keys k t.rows) (has_distinct_keys k t && are_keyed keys ts) h)) (omega arith)

pub distinct_at : (row_numbers : ℕ) (keys : List Keys) (ts : Content) (i : ℕ) → is_sound row_numbers keys ts ≡ true → i < length ts → has_distinct_keys (keys_at keys i) (table_at ts i) ≡ true
distinct_at row_numbers keys ts i h lt = keyed_distinct keys ts i (keyed_of row_numbers keys ts h) lt

-- ---- the keys of each table

pub all_keys_set : (ts : List HeapTable) (i : ℕ) (t u : HeapTable) → i < length ts → t ≡ get_or ts i t → keys_of u.indexes.items ≡ keys_of t.indexes.items → all_keys (slice_set ts i u) ≡ all_keys ts
all_keys_set [] i t u lt e same = refl
all_keys_set (v ∷ ts) zero t u lt e same = ap (λ (ks : Keys). ks ∷ all_keys ts) (same ∙ ap table_keys e)
all_keys_set (v ∷ ts) (suc i) t u lt e same = ap (λ (ks : List Keys). table_keys v ∷ ks) (all_keys_set ts i t u (omega arith) e same)

pub keys_of_table : (ts : List HeapTable) (i : ℕ) (t : HeapTable) → i < length ts → t ≡ get_or ts i t → keys_at (all_keys ts) i ≡ keys_of t.indexes.items
keys_of_table [] i t lt e = absurd (omega arith)
keys_of_table (v ∷ ts) zero t lt e = ap table_keys (sym e)
keys_of_table (v ∷ ts) (suc i) t lt e = keys_of_table ts i t (omega arith) e

pub length_given : (given : List (Vec (Vec ℕ Global) Global)) → length (given_keys given) ≡ length given
length_given [] = refl
length_given (k ∷ given) = ap suc (length_given given)

-- the first indexes are those of the keys
pub first_at : (keys all : List Keys) (i : ℕ) → first_keys keys all ≡ keys → i < length keys → take (length (keys_at keys i)) (keys_at all i) ≡ keys_at keys i
first_at [] all i h lt = absurd (omega arith)
first_at (ks ∷ keys) [] i h lt = cc
first_at (ks ∷ keys) (cs ∷ all) zero h lt = cc
first_at (ks ∷ keys) (cs ∷ all) (suc i) h lt = let rest : first_keys keys all ≡ keys = cc in first_at keys all i rest (omega arith)

pub first_long : (ys xs : Keys) → take (length ys) xs ≡ ys → length ys ≤ length xs
first_long [] xs h = omega arith
first_long (y ∷ ys) [] h = cc
first_long (y ∷ ys) (x ∷ xs) h =
    let rest : take (length ys) xs ≡ ys = cc in
    let le : length ys ≤ length xs = first_long ys xs rest in
    omega (arith, le)

pub first_same : (ys xs : Keys) (k : ℕ) → take (length ys) xs ≡ ys → k < length ys → slice_index_or xs k [] ≡ slice_index_or ys k []
first_same ys xs k h lt = sym (get_or-take (length ys) xs k [] lt) ∙ ap (λ (zs : Keys). get_or zs k []) h

pub first_push : (keys : List Keys) (ts : List HeapTable) (t : HeapTable) (i : ℕ) (k more : Keys) → i < length keys → k ≡ get_or keys i k → table_keys t ≡ k ++ more → length ts ≡ i → first_keys (take i keys) (all_keys ts) ≡ take i keys
    → first_keys (take (i + 1) keys) (all_keys (ts ++ t ∷ [])) ≡ take (i + 1) keys
first_push keys ts t i k more lt o e long h = let one : i + 1 ≡ suc i = omega arith in ap (λ (n : ℕ). first_keys (take n keys) (all_keys (ts ++ t ∷ []))) one ∙ grown keys ts i lt o long h ∙ ap (λ (n : ℕ). take n keys) (sym one)
  where
    here : (l : Keys) → k ≡ l → take (length l) (table_keys t) ≡ l
    here l same = ap (λ (ks : Keys). take (length l) ks) (e ∙ ap (λ (ks : Keys). ks ++ more) same) ∙ take-append_seam l more

    grown : (keys : List Keys) (ts : List HeapTable) (i : ℕ) → i < length keys → k ≡ get_or keys i k → length ts ≡ i → first_keys (take i keys) (all_keys ts) ≡ take i keys
        → first_keys (take (suc i) keys) (all_keys (ts ++ t ∷ [])) ≡ take (suc i) keys
    grown [] ts i lt o long h = absurd (omega arith)
    grown (l ∷ keys) [] zero lt o long h = ap (λ (x : Keys). x ∷ []) (here l o)
    grown (l ∷ keys) [] (suc i) lt o long h = absurd (omega arith)
    grown (l ∷ keys) (u ∷ ts) zero lt o long h = absurd (omega arith)
    grown (l ∷ keys) (u ∷ ts) (suc i) lt o long h =
        let first : take (length l) (table_keys u) ≡ l = cc in
        let rest : first_keys (take i keys) (all_keys ts) ≡ take i keys = cc in
        let less : length ts ≡ i = omega (arith, long) in
        (λ j. first j ∷ grown keys ts i (omega arith) o less rest j)
