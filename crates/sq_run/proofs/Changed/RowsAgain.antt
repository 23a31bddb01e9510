-- The rows that UPDATE and DELETE change stand among the rows of their table, in the same order (ISO/IEC 9075:1992, 13.6 to 13.10). The
-- numbers of a table's rows rise, so each is found again by its number, and no two changed rows have one number.
use Rattle.std.proofs.Common.{◌≡◌, ℕ, ◌+◌, ◌≤◌, cond, not, Bool, true, false, List, [], ◌∷◌, map, filter, Some, None, inl, inr, refl, sym, ap, subst, ◌∙◌, arith, Ok, Err}
use Rattle.std.proofs.lemmas.Bool.{eqb-true}
use Rattle.std.proofs.lemmas.Grind.{common_steps}
use Rattle.std.specs.Prelude.{⊤, ◌⊎◌, ◌||◌, ◌==◌, nat_eq, find, if◌then◌else◌, unwrap_or, IfOk}
use Rattle.std.specs.List.{AllByRecursion, list_any}
use Rattle.sq_store.specs.Content.{removed, row_at}
use Rattle.sq_store.specs.Content as store
use Rattle.sq_store.specs.Rising.{rising_between}
use Rattle.sq_store.specs.declared.table.Numbered.{Numbered}
use Rattle.sq_store.specs.declared.table.Table.{Table}
use Rattle.sq_meaning.specs.Environment.{Env, Item}
use Rattle.sq_meaning.specs.Expression.{Reading}
use Rattle.sq_meaning.specs.Query.{is_true}
use Rattle.sq_meaning.specs.Spelled.{Named}
use Rattle.sq_meaning.specs.Status.{Outcome, and_then, each, kept, well_formed}
use Rattle.sq_meaning.specs.Target.{Level, chosen, level_truth}
use Rattle.sq_meaning.proofs.AnswerLaws.{all_weaker}
use Rattle.sq_meaning.proofs.OutcomeLaws.{each_map}
use Rattle.sq_meaning.specs.Change.{is_numbered, replaced, with_replaced, without}
use Rattle.sq_change.specs.Statement as by_place
use Rattle.sq_run.proofs.Places.Outcomes.{each_of, if_also, if_one, if_then}

abbrev pub numbers_of : List Numbered → List ℕ
numbers_of rows = map (λ r. r.number) rows

-- ---- among the rows of a table

-- some of these rows, in their order
abbrev pub IsWithin : List Numbered → List Numbered → Type 0
IsWithin found [] = found ≡ []
IsWithin found (r ∷ rows) = IsWithin found rows ⊎ ((rest : List Numbered) × (found ≡ r ∷ rest) × IsWithin rest rows)

pub all_within : (rows : List Numbered) → IsWithin rows rows
all_within [] = refl
all_within (r ∷ rows) = inr (rows, refl, all_within rows)

pub none_within : (rows : List Numbered) → IsWithin [] rows
none_within [] = refl
none_within (r ∷ rows) = inl (none_within rows)

-- numbers of some of these rows, in their order
abbrev pub AreNumbersIn : List Numbered → List ℕ → Type 0
AreNumbersIn rows numbers = (found : List Numbered) × (numbers ≡ numbers_of found) × IsWithin found rows

pub within_within : (found middle rows : List Numbered) → IsWithin found middle → IsWithin middle rows → IsWithin found rows
within_within found middle [] p q = subst (λ l. IsWithin found l) q p
within_within found middle (r ∷ rows) p (inl q) = inl (within_within found middle rows p q)
within_within found middle (r ∷ rows) p (inr q) =
    deeper (λ l k. within_within l q.0 rows k q.2) (subst (λ l. IsWithin found l) q.1 p)
  where
    deeper : ((l : List Numbered) → IsWithin l q.0 → IsWithin l rows) → IsWithin found (r ∷ q.0) → IsWithin found (r ∷ rows)
    deeper further (inl k) = inl (further found k)
    deeper further (inr k) = inr (k.0, k.1, further k.0 k.2)

-- what is so of all rows is so of some
pub so_within : (P : Numbered → Type 0) (rows found : List Numbered) → AllByRecursion P rows → IsWithin found rows
    → AllByRecursion P found
so_within P [] found h q = subst (λ l. AllByRecursion P l) (sym q) tt
so_within P (r ∷ rows) found h (inl q) = so_within P rows found h.1 q
so_within P (r ∷ rows) found h (inr q) = subst (λ l. AllByRecursion P l) (sym q.1) (h.0, so_within P rows q.0 h.1 q.2)

pub kept_within : (test : Numbered → Outcome Bool) (rows : List Numbered) → IfOk (kept test rows) (λ found. IsWithin found rows)
kept_within test [] = refl
kept_within test (r ∷ rows) = by_test (test r) (kept_within test rows)
  where
    one_more : (b : Bool) (found : List Numbered) → IsWithin found rows → IsWithin (if b then r ∷ found else found) (r ∷ rows)
    one_more true found h = inr (found, refl, h)
    one_more false found h = inl h

    by_test : (o : Outcome Bool) → IfOk (kept test rows) (λ found. IsWithin found rows)
        → IfOk (and_then o (λ b. and_then (kept test rows) (λ found. Ok (if b then r ∷ found else found))))
        (λ found. IsWithin found (r ∷ rows))
    by_test (Err status) h = tt
    by_test (Ok b) h =
        if_one (kept test rows) (λ found. if b then r ∷ found else found) (λ found. IsWithin found rows)
        (λ found. IsWithin found (r ∷ rows)) h (λ found q. one_more b found q)

-- those that a target means are some of them
pub chosen_within : (m : Reading Named) (env : Env Item) (levels : List Level) (rows : List Numbered)
    → IfOk (chosen m env levels rows) (λ found. IsWithin found rows)
chosen_within m env [] rows = all_within rows
chosen_within m env (level ∷ levels) rows =
    if_then (kept (λ r. is_true (level_truth m env level r.row)) rows) (chosen m env levels) (λ middle. IsWithin middle rows)
    (λ found. IsWithin found rows)
    (kept_within (λ r. is_true (level_truth m env level r.row)) rows)
    (λ middle q. if_also (chosen m env levels middle) (λ found. IsWithin found middle) (λ found. IsWithin found rows) (chosen_within m env levels middle) (λ found p. within_within found middle rows p q))

-- ---- by their numbers

-- numbers that are all greater
abbrev pub AreAbove : ℕ → List Numbered → Type 0
AreAbove n rows = AllByRecursion (λ r. n ≤ r.number) rows

pub rest_rises : (low next : ℕ) (r : Numbered) (rows : List Numbered) → rising_between low (r ∷ rows) next ≡ true
    → rising_between (r.number + 1) rows next ≡ true
rest_rises low next r rows h = grind (arith, common_steps)

first_is_above : (low next : ℕ) (r : Numbered) (rows : List Numbered) → rising_between low (r ∷ rows) next ≡ true → low ≤ r.number
first_is_above low next r rows h = grind (arith, common_steps)

pub above : (low next : ℕ) (rows : List Numbered) → rising_between low rows next ≡ true → AreAbove low rows
above low next [] h = tt
above low next (r ∷ rows) h =
    let first : low ≤ r.number = first_is_above low next r rows h in
    (first, all_weaker (λ x. r.number + 1 ≤ x.number) (λ x. low ≤ x.number) (λ x le. omega (arith, first, le)) rows (above (r.number + 1) next rows (rest_rises low next r rows h)))

pub itself : (n : ℕ) → nat_eq n n ≡ true
itself n = grind (arith, common_steps)

pub not_above : (n k : ℕ) → n + 1 ≤ k → nat_eq n k ≡ false
not_above n k le = grind (arith, common_steps)

pub not_below : (n k : ℕ) → n + 1 ≤ k → nat_eq k n ≡ false
not_below n k le = grind (arith, common_steps)

none_numbered : (n : ℕ) (found : List Numbered) → AreAbove (n + 1) found → list_any (nat_eq n) (numbers_of found) ≡ false
none_numbered n [] h = refl
none_numbered n (x ∷ found) h = (λ i. not_above n x.number h.0 i || none_numbered n found h.1 i)

others_numbered : (n : ℕ) (numbers : List ℕ) (rows : List Numbered) → AreAbove (n + 1) rows
    → filter (is_numbered (n ∷ numbers)) rows ≡ filter (is_numbered numbers) rows
others_numbered n numbers [] h = refl
others_numbered n numbers (x ∷ rows) h =
    (λ i. cond (not_below n x.number h.0 i || list_any (nat_eq x.number) numbers) (x ∷ others_numbered n numbers rows h.1 i) (others_numbered n numbers rows h.1 i))

-- the rows with the numbers of some are these
pub found_again : (low next : ℕ) (rows found : List Numbered) → rising_between low rows next ≡ true → IsWithin found rows
    → filter (is_numbered (numbers_of found)) rows ≡ found
found_again low next [] found h q = sym q
found_again low next (r ∷ rows) found h (inl q) =
    let later : AreAbove (r.number + 1) rows = above (r.number + 1) next rows (rest_rises low next r rows h) in
    ap (λ b. cond b (r ∷ filter (is_numbered (numbers_of found)) rows) (filter (is_numbered (numbers_of found)) rows))
    (none_numbered r.number found (so_within (λ x. r.number + 1 ≤ x.number) rows found later q))
    ∙ found_again (r.number + 1) next rows found (rest_rises low next r rows h) q
found_again low next (r ∷ rows) found h (inr q) =
    let later : AreAbove (r.number + 1) rows = above (r.number + 1) next rows (rest_rises low next r rows h) in
    let numbers = numbers_of q.0 in
    ap (λ l. filter (is_numbered (numbers_of l)) (r ∷ rows)) q.1
    ∙ ap (λ b. cond (b || list_any (nat_eq r.number) numbers) (r ∷ filter (is_numbered (r.number ∷ numbers)) rows) (filter (is_numbered (r.number ∷ numbers)) rows))
    (itself r.number)
    ∙ ap (λ l. r ∷ l)
    (others_numbered r.number numbers rows later ∙ found_again (r.number + 1) next rows q.0 (rest_rises low next r rows h) q.2)
    ∙ sym q.1

abbrev IsAt : List Numbered → Numbered → Type 0
IsAt rows x = find (λ r. nat_eq r.number x.number) rows ≡ Some x

later_there : (r : Numbered) (rows found : List Numbered) → AreAbove (r.number + 1) found → AllByRecursion (IsAt rows) found
    → AllByRecursion (IsAt (r ∷ rows)) found
later_there r rows [] h p = tt
later_there r rows (x ∷ found) h p =
    (ap (λ b. cond b (Some r) (find (λ q. nat_eq q.number x.number) rows)) (not_above r.number x.number h.0) ∙ p.0, later_there r rows found h.1 p.1)

-- each of them stands under its number
pub all_there : (low next : ℕ) (rows found : List Numbered) → rising_between low rows next ≡ true → IsWithin found rows
    → AllByRecursion (λ x. find (λ r. nat_eq r.number x.number) rows ≡ Some x) found
all_there low next [] found h q = subst (λ l. AllByRecursion (IsAt []) l) (sym q) tt
all_there low next (r ∷ rows) found h (inl q) =
    let later : AreAbove (r.number + 1) rows = above (r.number + 1) next rows (rest_rises low next r rows h) in
    later_there r rows found (so_within (λ x. r.number + 1 ≤ x.number) rows found later q)
    (all_there (r.number + 1) next rows found (rest_rises low next r rows h) q)
all_there low next (r ∷ rows) found h (inr q) =
    let later : AreAbove (r.number + 1) rows = above (r.number + 1) next rows (rest_rises low next r rows h) in
    subst (λ l. AllByRecursion (IsAt (r ∷ rows)) l) (sym q.1) (
      ap (λ b. cond b (Some r) (find (λ x. nat_eq x.number r.number) rows)) (itself r.number),
      later_there r rows q.0 (so_within (λ x. r.number + 1 ≤ x.number) rows q.0 later q.2) (all_there (r.number + 1) next rows q.0 (rest_rises low next r rows h) q.2),
    )

-- the row under a number is one of them
pub row_among : (rows : List Numbered) (n : ℕ) (r : Numbered) → find (λ x. nat_eq x.number n) rows ≡ Some r
    → (r.number ≡ n) × IsWithin (r ∷ []) rows
row_among [] n r e = cc
row_among (x ∷ rows) n r e = by_test (nat_eq x.number n) refl e (row_among rows n r)
  where
    by_test : (b : Bool) → nat_eq x.number n ≡ b → cond b (Some x) (find (λ y. nat_eq y.number n) rows) ≡ Some r
        → (find (λ y. nat_eq y.number n) rows ≡ Some r → (r.number ≡ n) × IsWithin (r ∷ []) rows)
        → (r.number ≡ n) × IsWithin (r ∷ []) (x ∷ rows)
    by_test true is e others =
        let same : x ≡ r = cc in
        (ap (λ (y : Numbered). y.number) (sym same) ∙ eqb-true x.number n is, inr ([], ap (λ y. y ∷ []) (sym same), none_within rows))
    by_test false is e others = let found = others e in (found.0, inl found.1)

-- What is done with the rows under some numbers is done with these rows.
pub each_under : {A : Type 0} (f : Numbered → Outcome A) (t : Table) (found : List Numbered)
    → rising_between 1 t.rows t.next ≡ true → IsWithin found t.rows
    → each (λ n. and_then (well_formed (row_at t n)) f) (numbers_of found) ≡ each f found
each_under f t found h q =
    each_map (λ (r : Numbered). r.number) (λ n. and_then (well_formed (row_at t n)) f) found
    ∙ each_of (IsAt t.rows) (λ r. and_then (well_formed (row_at t r.number)) f) f
    (λ r there. ap (λ o. and_then (well_formed o) f) there) found (all_there 1 t.next t.rows found h q)

-- ---- the table without some rows

filtered_twice : (p q : Numbered → Bool) (rows : List Numbered)
    → filter (λ r. not (p r || q r)) rows ≡ filter (λ r. not (q r)) (filter (λ r. not (p r)) rows)
filtered_twice p q [] = refl
filtered_twice p q (r ∷ rows) = by_first (p r) (filtered_twice p q rows)
  where
    by_second : (b : Bool) → filter (λ x. not (p x || q x)) rows ≡ filter (λ x. not (q x)) (filter (λ x. not (p x)) rows)
        → cond (not b) (r ∷ filter (λ x. not (p x || q x)) rows) (filter (λ x. not (p x || q x)) rows)
        ≡ cond (not b) (r ∷ filter (λ x. not (q x)) (filter (λ x. not (p x)) rows))
        (filter (λ x. not (q x)) (filter (λ x. not (p x)) rows))
    by_second b rest = (λ i. cond (not b) (r ∷ rest i) (rest i))

    by_first : (b : Bool) → filter (λ x. not (p x || q x)) rows ≡ filter (λ x. not (q x)) (filter (λ x. not (p x)) rows)
        → cond (not (b || q r)) (r ∷ filter (λ x. not (p x || q x)) rows) (filter (λ x. not (p x || q x)) rows)
        ≡ filter (λ x. not (q x)) (cond (not b) (r ∷ filter (λ x. not (p x)) rows) (filter (λ x. not (p x)) rows))
    by_first true rest = rest
    by_first false rest = by_second (q r) rest

pub all_left : (rows : List Numbered) → filter (λ r. not (is_numbered [] r)) rows ≡ rows
all_left [] = refl
all_left (r ∷ rows) = ap (λ l. r ∷ l) (all_left rows)

-- Rows go all at once, or one after the other.
pub without_same : (numbers : List ℕ) (t : Table) → without t numbers ≡ by_place.without t numbers
without_same [] t = (λ i. record { rows = all_left t.rows i; next = t.next })
without_same (n ∷ numbers) t =
    (λ i. record { rows = filtered_twice (λ r. nat_eq r.number n) (is_numbered numbers) t.rows i; next = t.next })
    ∙ without_same numbers (removed t n)

-- ---- the table with other rows under some numbers

-- no other has the number of one
abbrev pub AreApart : List ℕ → Type 0
AreApart [] = ⊤
AreApart (n ∷ numbers) = AllByRecursion (λ k. n + 1 ≤ k) numbers × AreApart numbers

pub numbers_above : (n : ℕ) (rows : List Numbered) → AreAbove n rows → AllByRecursion (λ k. n ≤ k) (numbers_of rows)
numbers_above n [] h = tt
numbers_above n (r ∷ rows) h = (h.0, numbers_above n rows h.1)

pub within_apart : (low next : ℕ) (rows found : List Numbered) → rising_between low rows next ≡ true → IsWithin found rows
    → AreApart (numbers_of found)
within_apart low next [] found h q = subst (λ l. AreApart (numbers_of l)) (sym q) tt
within_apart low next (r ∷ rows) found h (inl q) = within_apart (r.number + 1) next rows found (rest_rises low next r rows h) q
within_apart low next (r ∷ rows) found h (inr q) =
    let later : AreAbove (r.number + 1) rows = above (r.number + 1) next rows (rest_rises low next r rows h) in
    subst (λ l. AreApart (numbers_of l)) (sym q.1)
    (numbers_above (r.number + 1) q.0 (so_within (λ x. r.number + 1 ≤ x.number) rows q.0 later q.2), within_apart (r.number + 1) next rows q.0 (rest_rises low next r rows h) q.2)

map_self : (rows : List Numbered) → map (replaced []) rows ≡ rows
map_self [] = refl
map_self (r ∷ rows) = ap (λ l. r ∷ l) (map_self rows)

not_among : (n : ℕ) (changed : List Numbered) → AllByRecursion (λ k. n + 1 ≤ k) (numbers_of changed)
    → find (λ c. c.number == n) changed ≡ None
not_among n [] h = refl
not_among n (c ∷ changed) h =
    ap (λ b. cond b (Some c) (find (λ d. d.number == n) changed)) (not_below n c.number h.0) ∙ not_among n changed h.1

pub turned : (n k : ℕ) → nat_eq n k ≡ nat_eq k n
turned n k = grind (arith, common_steps)

one_replaced : (c : Numbered) (changed : List Numbered) → AllByRecursion (λ k. c.number + 1 ≤ k) (numbers_of changed)
    → (r : Numbered)
    → replaced (c ∷ changed) r ≡ replaced changed (if nat_eq r.number c.number then record { number = c.number; row = c.row } else r)
one_replaced c changed h r =
    ap (λ b. unwrap_or (cond b (Some c) (find (λ d. d.number == r.number) changed)) r) (turned c.number r.number)
    ∙ by_test (nat_eq r.number c.number)
  where
    by_test : (b : Bool)
        → unwrap_or (cond b (Some c) (find (λ d. d.number == r.number) changed)) r ≡ replaced changed (if b then record { number = c.number; row = c.row } else r)
    by_test true = sym (ap (λ o. unwrap_or o c) (not_among c.number changed h))
    by_test false = refl

all_replaced : (c : Numbered) (changed : List Numbered) → AllByRecursion (λ k. c.number + 1 ≤ k) (numbers_of changed)
    → (rows : List Numbered)
    → map (replaced (c ∷ changed)) rows ≡ map (replaced changed) (map (λ r. if nat_eq r.number c.number then record { number = c.number; row = c.row } else r) rows)
all_replaced c changed h [] = refl
all_replaced c changed h (r ∷ rows) = (λ i. one_replaced c changed h r i ∷ all_replaced c changed h rows i)

-- Rows are replaced all at once, or one after the other.
pub replaced_same : (changed : List Numbered) → AreApart (numbers_of changed) → (t : Table)
    → with_replaced t changed ≡ by_place.with_replaced t changed
replaced_same [] h t = (λ i. record { rows = map_self t.rows i; next = t.next })
replaced_same (c ∷ changed) h t =
    (λ i. record { rows = all_replaced c changed h.0 t.rows i; next = t.next })
    ∙ replaced_same changed h.1 (store.replaced t c.number c.row)
