-- Chains of entries.
use Rattle.std.proofs.Common.{◌≡◌, ℕ, zero, suc, ◌+◌, ◌≤◌, ◌<◌, ◌%◌, Bool, true, false, nat_eq, nat_le, if◌then◌else◌, List, [], ◌∷◌, ◌++◌, length, get_or, slice_set, slice_index_or, replicate, arith, refl, sym, ap, ◌∙◌}
use Rattle.std.specs.List.{list_all, list_any}
use Rattle.std.proofs.lemmas.Grind.{common_steps}
use Rattle.std.proofs.lemmas.List.{get_or-set_same}
use Rattle.std.proofs.lemmas.Bool.{or_right, or_left, and_from}
use Rattle.sq_value.proofs.Truths.{both_left, both_right}
use Rattle.sq_heap.specs.Chain.{are_falling, chain, chain_of, entry_at, is_entry, is_within}
use Rattle.sq_heap.specs.Index.{bucket_of, has_entry}
use Rattle.sq_heap.specs.declared.index.Entry.{Entry}
use Rattle.sq_heap.specs.declared.index.Index.{Index}
use Rattle.sq_heap.proofs.Distinct.{by_test}

-- ---- one chain

-- entries behind one don't matter to its chain
chain_below : (es : List Entry) (m link : ℕ) → link ≤ m → chain es (suc m) link ≡ chain es m link
chain_below es m link le =
    let other : nat_eq link (suc m) ≡ false = grind (arith, common_steps) in
    ap (λ (b : Bool). if b then entry_at es m ∷ chain es m (entry_at es m).next else chain es m link) other

-- the end of a chain
chain_none : (es : List Entry) (m : ℕ) → chain es m 0 ≡ []
chain_none es zero = refl
chain_none es (suc m) = chain_below es m 0 (omega arith) ∙ chain_none es m

falls_at : (n : ℕ) (es : List Entry) (k : ℕ) → are_falling n es ≡ true → k < length es → (entry_at es k).next ≤ n + k
falls_at n [] k h lt = absurd (omega arith)
falls_at n (e ∷ es) zero h lt =
    let first : nat_le e.next n ≡ true = both_left (nat_le e.next n) (are_falling (n + 1) es) h in
    let le : e.next ≤ n = grind (arith, common_steps) in omega arith
falls_at n (e ∷ es) (suc k) h lt =
    let rest : (entry_at es k).next ≤ n + 1 + k = falls_at (n + 1) es k (both_right (nat_le e.next n) (are_falling (n + 1) es) h) (omega arith) in omega arith

chain_step : (es : List Entry) (m k : ℕ) → are_falling 0 es ≡ true → k < m → m ≤ length es → chain es m (suc k) ≡ entry_at es k ∷ chain es m (entry_at es k).next
chain_step es zero k h lt le = absurd (omega arith)
chain_step es (suc m) k h lt le =
    let before : (entry_at es k).next ≤ 0 + k = falls_at 0 es k h (omega arith) in
    let below : chain es (suc m) (entry_at es k).next ≡ chain es m (entry_at es k).next = chain_below es m (entry_at es k).next (omega arith) in
    by_test (nat_eq (suc k) (suc m))
    (λ t.
    let same : m ≡ k = grind (arith, common_steps) in
    ap (λ (b : Bool). if b then entry_at es m ∷ chain es m (entry_at es m).next else chain es m (suc k)) t
    ∙ ap (λ (i : ℕ). entry_at es i ∷ chain es m (entry_at es i).next) same
    ∙ ap (λ (rest : List Entry). entry_at es k ∷ rest) (sym below))
    (λ f.
    let lower : k < m = grind (arith, common_steps) in
    ap (λ (b : Bool). if b then entry_at es m ∷ chain es m (entry_at es m).next else chain es m (suc k)) f
    ∙ chain_step es m k h lower (omega arith)
    ∙ ap (λ (rest : List Entry). entry_at es k ∷ rest) (sym below))

pub chain_ends : (es : List Entry) (link : ℕ) → link ≡ 0 → chain_of es link ≡ []
chain_ends es link e = ap (chain es (length es)) e ∙ chain_none es (length es)

pub chain_goes_on : (es : List Entry) (link place : ℕ) (e : Entry) → are_falling 0 es ≡ true → link ≡ place + 1 → link ≤ length es → e ≡ get_or es place e → (chain_of es link ≡ e ∷ chain_of es e.next) × (e.next < link)
chain_goes_on es link place e h l le is =
    let lt : place < length es = omega arith in
    let same : entry_at es place ≡ e = is_at es place e lt is in
    let next : link ≡ suc place = omega arith in
    let before : (entry_at es place).next ≤ 0 + place = falls_at 0 es place h lt in (
      ap (chain es (length es)) next ∙ chain_step es (length es) place h lt (omega arith) ∙ ap (λ (x : Entry). x ∷ chain es (length es) x.next) same,
      (let sooner : e.next ≡ (entry_at es place).next = ap (λ (x : Entry). x.next) (sym same) in omega (arith, sooner, before, l)),
    )
  where
    is_at : (es : List Entry) (k : ℕ) (e : Entry) → k < length es → e ≡ get_or es k e → entry_at es k ≡ e
    is_at [] k e lt is = absurd (omega arith)
    is_at (x ∷ es) zero e lt is = sym is
    is_at (x ∷ es) (suc k) e lt is = is_at es k e (omega arith) is

-- ---- an entry more

at_below : (es : List Entry) (e : Entry) (k : ℕ) → k < length es → entry_at (es ++ e ∷ []) k ≡ entry_at es k
at_below [] e k lt = absurd (omega arith)
at_below (x ∷ es) e zero lt = refl
at_below (x ∷ es) e (suc k) lt = at_below es e k (omega arith)

at_last : (es : List Entry) (e : Entry) → entry_at (es ++ e ∷ []) (length es) ≡ e
at_last [] e = refl
at_last (x ∷ es) e = at_last es e

pub length_more : (es : List Entry) (e : Entry) → length (es ++ e ∷ []) ≡ suc (length es)
length_more [] e = refl
length_more (x ∷ es) e = ap suc (length_more es e)

chain_more : (es : List Entry) (e : Entry) (m link : ℕ) → m ≤ length es → chain (es ++ e ∷ []) m link ≡ chain es m link
chain_more es e zero link le = refl
chain_more es e (suc m) link le =
    let here : entry_at (es ++ e ∷ []) m ≡ entry_at es m = at_below es e m (omega arith) in
    ap (λ (x : Entry). if nat_eq link (suc m) then x ∷ chain (es ++ e ∷ []) m x.next else chain (es ++ e ∷ []) m link) here
    ∙ ap (λ (rest : List Entry). if nat_eq link (suc m) then entry_at es m ∷ rest else chain (es ++ e ∷ []) m link) (chain_more es e m (entry_at es m).next (omega arith))
    ∙ ap (λ (rest : List Entry). if nat_eq link (suc m) then entry_at es m ∷ chain es m (entry_at es m).next else rest) (chain_more es e m link (omega arith))

same_test : (m : ℕ) → nat_eq m m ≡ true
same_test m = grind (arith, common_steps)

-- the chain that it is put in front of
chain_front : (es : List Entry) (e : Entry) → chain_of (es ++ e ∷ []) (length (es ++ e ∷ [])) ≡ e ∷ chain_of es e.next
chain_front es e =
    ap (λ (n : ℕ). chain (es ++ e ∷ []) n n) (length_more es e)
    ∙ ap (λ (b : Bool). if b then entry_at (es ++ e ∷ []) (length es) ∷ chain (es ++ e ∷ []) (length es) (entry_at (es ++ e ∷ []) (length es)).next else chain (es ++ e ∷ []) (length es) (suc (length es))) (same_test (suc (length es)))
    ∙ ap (λ (x : Entry). x ∷ chain (es ++ e ∷ []) (length es) x.next) (at_last es e)
    ∙ ap (λ (rest : List Entry). e ∷ rest) (chain_more es e (length es) e.next (omega arith))

-- another chain
chain_other : (es : List Entry) (e : Entry) (link : ℕ) → link ≤ length es → chain_of (es ++ e ∷ []) link ≡ chain_of es link
chain_other es e link le =
    ap (λ (n : ℕ). chain (es ++ e ∷ []) n link) (length_more es e)
    ∙ chain_below (es ++ e ∷ []) (length es) link le
    ∙ chain_more es e (length es) link (omega arith)

-- ---- what holds of all links

pub falling_more : (n : ℕ) (es : List Entry) (e : Entry) → are_falling n es ≡ true → e.next ≤ n + length es → are_falling n (es ++ e ∷ []) ≡ true
falling_more n [] e h le = let first : nat_le e.next n ≡ true = grind (arith, common_steps) in and_from _ _ first refl
falling_more n (x ∷ es) e h le =
    and_from _ _ (both_left (nat_le x.next n) (are_falling (n + 1) es) h) (falling_more (n + 1) es e (both_right (nat_le x.next n) (are_falling (n + 1) es) h) (omega arith))

pub within_at : (n : ℕ) (ls : List ℕ) (i : ℕ) → list_all (is_within n) ls ≡ true → slice_index_or ls i 0 ≤ n
within_at n [] i h = omega arith
within_at n (l ∷ ls) zero h = let first : nat_le l n ≡ true = both_left (nat_le l n) (list_all (is_within n) ls) h in grind (arith, common_steps)
within_at n (l ∷ ls) (suc i) h = within_at n ls i (both_right (nat_le l n) (list_all (is_within n) ls) h)

within_more : (n m : ℕ) (ls : List ℕ) → n ≤ m → list_all (is_within n) ls ≡ true → list_all (is_within m) ls ≡ true
within_more n m [] le h = refl
within_more n m (l ∷ ls) le h =
    let first : nat_le l n ≡ true = both_left (nat_le l n) (list_all (is_within n) ls) h in
    let more : nat_le l m ≡ true = grind (arith, common_steps) in
    and_from _ _ more (within_more n m ls le (both_right (nat_le l n) (list_all (is_within n) ls) h))

pub within_set : (n m : ℕ) (ls : List ℕ) (i : ℕ) → n ≤ m → list_all (is_within n) ls ≡ true → list_all (is_within m) (slice_set ls i m) ≡ true
within_set n m [] i le h = refl
within_set n m (l ∷ ls) zero le h = let first : nat_le m m ≡ true = grind (arith, common_steps) in and_from _ _ first (within_more n m ls le (both_right (nat_le l n) (list_all (is_within n) ls) h))
within_set n m (l ∷ ls) (suc i) le h =
    let first : nat_le l n ≡ true = both_left (nat_le l n) (list_all (is_within n) ls) h in
    let more : nat_le l m ≡ true = grind (arith, common_steps) in
    and_from _ _ more (within_set n m ls i le (both_right (nat_le l n) (list_all (is_within n) ls) h))

pub within_none : (n k : ℕ) → list_all (is_within n) (replicate k 0) ≡ true
within_none n zero = refl
within_none n (suc k) = let first : nat_le 0 n ≡ true = grind (arith, common_steps) in and_from _ _ first (within_none n k)

length_of_set : (ls : List ℕ) (i l : ℕ) → length (slice_set ls i l) ≡ length ls
length_of_set [] i l = refl
length_of_set (x ∷ ls) zero l = refl
length_of_set (x ∷ ls) (suc i) l = ap suc (length_of_set ls i l)

-- ---- an index with an entry more

-- these entries and heads are those of an index with one entry more, which is in front of its chain
pub record OneMore (x : Index) (entries : List Entry) (heads : List ℕ) (hash : ℕ) (e : Entry) : Type 0 where
  pub entries_are : entries ≡ x.entries.items ++ e ∷ []
  pub next_is : e.next ≡ slice_index_or x.heads.items (hash % length x.heads.items) 0
  pub heads_are : heads ≡ slice_set x.heads.items (hash % length x.heads.items) (length (x.entries.items ++ e ∷ []))
  pub there : hash % length x.heads.items < length x.heads.items

abbrev found : List Entry → List ℕ → ℕ → List Entry
found entries heads hash = chain_of entries (slice_index_or heads (hash % length heads) 0)

head_same : (ls : List ℕ) (i l : ℕ) → i < length ls → slice_index_or (slice_set ls i l) i 0 ≡ l
head_same ls i l lt = get_or-set_same ls i l 0 lt

pub head_other : (ls : List ℕ) (i j l : ℕ) → nat_eq i j ≡ false → slice_index_or (slice_set ls i l) j 0 ≡ slice_index_or ls j 0
head_other [] i j l h = refl
head_other (x ∷ ls) zero zero l h = let same : nat_eq 0 0 ≡ true = grind (arith, common_steps) in cc
head_other (x ∷ ls) zero (suc j) l h = refl
head_other (x ∷ ls) (suc i) zero l h = refl
head_other (x ∷ ls) (suc i) (suc j) l h = head_other ls i j l (grind (arith, common_steps))

bucket_same : (x : Index) (entries : List Entry) (heads : List ℕ) (hash : ℕ) (e : Entry) → OneMore x entries heads hash e → (other : ℕ) → nat_eq (hash % length x.heads.items) (other % length x.heads.items) ≡ true
    → found entries heads other ≡ e ∷ bucket_of x other
bucket_same x entries heads hash e m other t =
    let es = x.entries.items in
    let hs = x.heads.items in
    let i : hash % length x.heads.items ≡ other % length x.heads.items = grind (arith, common_steps) in
    ap (λ (ls : List ℕ). found entries ls other) m.heads_are
    ∙ ap (λ (n : ℕ). chain_of entries (slice_index_or (slice_set hs (hash % length hs) (length (es ++ e ∷ []))) (other % n) 0)) (length_of_set hs (hash % length hs) (length (es ++ e ∷ [])))
    ∙ ap (λ (k : ℕ). chain_of entries (slice_index_or (slice_set hs (hash % length hs) (length (es ++ e ∷ []))) k 0)) (sym i)
    ∙ ap (chain_of entries) (head_same hs (hash % length hs) (length (es ++ e ∷ [])) m.there)
    ∙ ap (λ (xs : List Entry). chain_of xs (length (es ++ e ∷ []))) m.entries_are
    ∙ chain_front es e
    ∙ ap (λ (l : ℕ). e ∷ chain_of es l) m.next_is
    ∙ ap (λ (k : ℕ). e ∷ chain_of es (slice_index_or hs k 0)) i

bucket_other : (x : Index) (entries : List Entry) (heads : List ℕ) (hash : ℕ) (e : Entry) → OneMore x entries heads hash e → (other : ℕ) → nat_eq (hash % length x.heads.items) (other % length x.heads.items) ≡ false
    → found entries heads other ≡ bucket_of x other
bucket_other x entries heads hash e m other f =
    let es = x.entries.items in
    let hs = x.heads.items in
    ap (λ (ls : List ℕ). found entries ls other) m.heads_are
    ∙ ap (λ (n : ℕ). chain_of entries (slice_index_or (slice_set hs (hash % length hs) (length (es ++ e ∷ []))) (other % n) 0)) (length_of_set hs (hash % length hs) (length (es ++ e ∷ [])))
    ∙ ap (chain_of entries) (head_other hs (hash % length hs) (other % length hs) (length (es ++ e ∷ [])) f)
    ∙ ap (λ (xs : List Entry). chain_of xs (slice_index_or hs (other % length hs) 0)) m.entries_are
    ∙ chain_other es e (slice_index_or hs (other % length hs) 0) (within_at (length es) hs (other % length hs) x.within)

-- an index with one entry more keeps the entries that it had
pub keeps_more : (x : Index) (entries : List Entry) (heads : List ℕ) (hash : ℕ) (e : Entry) → OneMore x entries heads hash e → (other place : ℕ) → has_entry x other place ≡ true
    → list_any (is_entry other place) (found entries heads other) ≡ true
keeps_more x entries heads hash e m other place h = by_test (nat_eq (hash % length x.heads.items) (other % length x.heads.items))
    (λ t. ap (list_any (is_entry other place)) (bucket_same x entries heads hash e m other t) ∙ or_right (is_entry other place e) (list_any (is_entry other place) (bucket_of x other)) h)
    (λ f. ap (list_any (is_entry other place)) (bucket_other x entries heads hash e m other f) ∙ h)

-- an index with one entry more has the new one
pub has_more : (x : Index) (entries : List Entry) (heads : List ℕ) (hash at : ℕ) (e : Entry) → OneMore x entries heads hash e → e.hash ≡ hash → e.at ≡ at
    → list_any (is_entry hash at) (found entries heads hash) ≡ true
has_more x entries heads hash at e m under place =
    let one : nat_eq e.hash hash ≡ true = grind (arith, common_steps) in
    let two : nat_eq e.at at ≡ true = grind (arith, common_steps) in
    ap (list_any (is_entry hash at)) (bucket_same x entries heads hash e m hash (same_test (hash % length x.heads.items)))
    ∙ or_left (is_entry hash at e) (list_any (is_entry hash at) (bucket_of x hash)) (and_from _ _ one two)
