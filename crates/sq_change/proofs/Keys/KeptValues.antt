-- Changes of a table: which rows stay, and which values of rows that are replaced by others under their numbers.
use Rattle.std.proofs.Common.{◌≡◌, ℕ, ◌+◌, ◌≤◌, ◌⊎◌, inl, inr, Bool, true, false, nat_eq, not, ◌||◌, List, [], ◌∷◌, map, slice_set, find, Some, None, Option, Ok, Err, refl, sym, ap, ap₂, subst, ◌∙◌, arith}
use Rattle.std.specs.List.{AllByRecursion, Any, Contains, list_any}
use Rattle.std.specs.Cmp.Lexicographic.{pointwise}
use Rattle.std.proofs.lemmas.Bool.{eq-eqb, eqb-false, eqb-true, or_parts}
use Rattle.std.proofs.lemmas.Grind.{common_steps}
use Rattle.std.proofs.lemmas.List.{get_or-set_other}
use Rattle.std.proofs.lemmas.List.Elements.{Contains-append_left, Contains-push, Contains-push_cases}
use Rattle.sq_value.specs.Comparison.{is_same}
use Rattle.sq_value.specs.Key.{in_columns}
use Rattle.sq_value.specs.declared.value.Value.{Value}
use Rattle.sq_value.specs.declared.value.Value.TheVariants.{Null}
use Rattle.sq_value.proofs.Cutting.{any_map}
use Rattle.sq_store.specs.Change.{rows_put}
use Rattle.sq_store.specs.Content.{changed, changed_by, inserted, replaced, row_at}
use Rattle.sq_store.specs.Keys.{has_key}
use Rattle.sq_store.specs.Rising.{rising_between}
use Rattle.sq_store.specs.declared.change.Change.{Change}
use Rattle.sq_store.specs.declared.change.Change.TheVariants.{Insert, Replace, Remove}
use Rattle.sq_store.specs.declared.table.Numbered.{Numbered}
use Rattle.sq_store.specs.declared.table.Table.{Table}
use Rattle.sq_store.proofs.Search.{put}
use Rattle.sq_meaning.specs.Environment.{Row}
use Rattle.sq_meaning.specs.Status.{Outcome, and_then, each, well_formed, ◌>>=◌}
use Rattle.sq_meaning.specs.Change.{with_values}
use Rattle.sq_change.specs.Changed.{AreReplacements, ArePutThere, are_insertions, rows_replaced}
use Rattle.sq_change.proofs.OneByOne.Among.{found_there, first_or_later, first_there, is_first, kept_there, later_there, mapped_of, mapped_there, none_there}

-- ---- a row after changes is one from before, or one that is put in

put_is : (number : ℕ) (row : List Value) (r : Numbered) → nat_eq r.number number ≡ true → put number row r ≡ record { number = number; row = row }
put_is number row r e = rw e refl

pub put_not : (number : ℕ) (row : List Value) (r : Numbered) → nat_eq r.number number ≡ false → put number row r ≡ r
put_not number row r e = rw e refl

pub old_or_put : (changes : List Change) (t : Table) (r : Numbered) → Contains (changed_by t changes).rows r → Contains t.rows r ⊎ Contains (rows_put changes) r.row
old_or_put [] t r c = inl c
old_or_put (Insert row ∷ changes) t r c = by (old_or_put changes (inserted t row) r c)
  where
    on : Contains t.rows r ⊎ (record { number = t.next; row = row } ≡ r) → Contains t.rows r ⊎ Contains (row ∷ rows_put changes) r.row
    on (inl d) = inl d
    on (inr e) = inr (is_first row (rows_put changes) r.row (ap (λ (x : Numbered). x.row) e))

    by : Contains (inserted t row).rows r ⊎ Contains (rows_put changes) r.row → Contains t.rows r ⊎ Contains (row ∷ rows_put changes) r.row
    by (inl d) = on (Contains-push_cases t.rows (record { number = t.next; row = row }) r d)
    by (inr d) = inr (later_there row (rows_put changes) r.row d)
old_or_put (Replace number row ∷ changes) t r c = by (old_or_put changes (replaced t number row) r c)
  where
    on : (old : Numbered) → Contains t.rows old → put number row old ≡ r → (b : Bool) → nat_eq old.number number ≡ b → Contains t.rows r ⊎ Contains (row ∷ rows_put changes) r.row
    on old d e true same = inr (is_first row (rows_put changes) r.row (ap (λ (x : Numbered). x.row) (sym (put_is number row old same) ∙ e)))
    on old d e false other = inl (subst (Contains t.rows) (sym (put_not number row old other) ∙ e) d)

    by : Contains (replaced t number row).rows r ⊎ Contains (rows_put changes) r.row → Contains t.rows r ⊎ Contains (row ∷ rows_put changes) r.row
    by (inl d) = let h = mapped_of (put number row) t.rows r d in on h.0 h.1 h.2 (nat_eq h.0.number number) refl
    by (inr d) = inr (later_there row (rows_put changes) r.row d)
old_or_put (Remove number ∷ changes) t r c = by (old_or_put changes (changed t (Remove number)) r c)
  where
    by : Contains (changed t (Remove number)).rows r ⊎ Contains (rows_put changes) r.row → Contains t.rows r ⊎ Contains (rows_put changes) r.row
    by (inl d) = inl (kept_there (λ s. not (nat_eq s.number number)) t.rows r d)
    by (inr d) = inr d

-- ---- new rows: those that were there stay

pub stays_inserted : (changes : List Change) (t : Table) (r : Numbered) → are_insertions changes ≡ true → Contains t.rows r → Contains (changed_by t changes).rows r
stays_inserted [] t r a c = c
stays_inserted (Insert row ∷ changes) t r a c = stays_inserted changes (inserted t row) r a (Contains-append_left t.rows (record { number = t.next; row = row } ∷ []) r c)
stays_inserted (Replace number row ∷ changes) t r a c = cc
stays_inserted (Remove number ∷ changes) t r a c = cc

as_row : (rows : List Numbered) (row : List Value) (r : Numbered) → r.row ≡ row → Contains rows r → Any (λ s. s.row ≡ row) rows
as_row rows row r e c = (c.0, r, c.1, c.2, e)

pub put_inserted : (changes : List Change) (t : Table) → are_insertions changes ≡ true → ArePutThere t changes
put_inserted [] t a = tt
put_inserted (Insert row ∷ changes) t a =
    let new : Numbered = record { number = t.next; row = row } in
    (as_row (changed_by (inserted t row) changes).rows row new refl (stays_inserted changes (inserted t row) new a (Contains-push t.rows new)), put_inserted changes (inserted t row) a)
put_inserted (Replace number row ∷ changes) t a = cc
put_inserted (Remove number ∷ changes) t a = cc

-- ---- rows under their numbers, with the values in some columns

abbrev pub with_values_in : List ℕ → Numbered → Numbered
with_values_in columns r = record { number = r.number; row = in_columns r.row columns }

abbrev pub values_in : List ℕ → List Numbered → List Numbered
values_in columns rows = map (with_values_in columns) rows

-- a key is found by these alone
pub any_with : (columns : List ℕ) (key : List Value) (rows : List Numbered) → list_any (has_key columns key) rows ≡ list_any (λ r. pointwise is_same key r.row) (values_in columns rows)
any_with columns key rows = sym (any_map (λ r. pointwise is_same key r.row) (with_values_in columns) rows)

-- each row under the number has these values
abbrev pub AllHave : List Numbered → ℕ → List Value → Type 0
AllHave rows number values = (r : Numbered) → Contains rows r → r.number ≡ number → values ≡ r.row

kept_put : (columns : List ℕ) (number : ℕ) (row : List Value) (rows : List Numbered) → AllHave (values_in columns rows) number (in_columns row columns)
    → values_in columns (map (put number row) rows) ≡ values_in columns rows
kept_put columns number row [] h = refl
kept_put columns number row (r ∷ rows) h = ap₂ (λ (x : Numbered) (xs : List Numbered). x ∷ xs) (by (nat_eq r.number number) refl) (kept_put columns number row rows later)
  where
    here : Numbered
    here = with_values_in columns r

    later : AllHave (values_in columns rows) number (in_columns row columns)
    later x c e = h x (later_there here (values_in columns rows) x c) e

    by : (b : Bool) → nat_eq r.number number ≡ b → with_values_in columns (put number row r) ≡ with_values_in columns r
    by true e =
        let same : r.number ≡ number = eqb-true r.number number e in
        let values : in_columns row columns ≡ in_columns r.row columns = h (with_values_in columns r) (first_there (with_values_in columns r) (values_in columns rows)) same in
        ap (with_values_in columns) (put_is number row r e) ∙ (λ i. record { number = sym same i; row = values i })
    by false e = ap (with_values_in columns) (put_not number row r e)

-- a row that takes the place of others has their values in the columns
abbrev pub Keeps : List ℕ → List Numbered → Change → Type 0
Keeps columns rows (Insert row) = ⊥
Keeps columns rows (Replace number row) = AllHave rows number (in_columns row columns)
Keeps columns rows (Remove number) = ⊥

pub all_kept : (columns : List ℕ) (rows : List Numbered) (changes : List Change) (t : Table) → values_in columns t.rows ≡ rows → AllByRecursion (Keeps columns rows) changes → values_in columns (changed_by t changes).rows ≡ rows
all_kept columns rows [] t e h = e
all_kept columns rows (Insert row ∷ changes) t e h = absurd h.0
all_kept columns rows (Replace number row ∷ changes) t e h =
    all_kept columns rows changes (replaced t number row) (kept_put columns number row t.rows (subst (λ (rs : List Numbered). AllHave rs number (in_columns row columns)) (sym e) h.0) ∙ e) h.1
all_kept columns rows (Remove number ∷ changes) t e h = absurd h.0

-- ---- numbers are unique

rising_above : (low : ℕ) (rows : List Numbered) (next : ℕ) (r : Numbered) → rising_between low rows next ≡ true → Contains rows r → low ≤ r.number
rising_above low [] next r h c = none_there r c
rising_above low (x ∷ rows) next r h c = by (first_or_later x rows r c) (λ d. rising_above (x.number + 1) rows next r (grind (arith, common_steps)) d)
  where
    by : (x ≡ r) ⊎ Contains rows r → (Contains rows r → x.number + 1 ≤ r.number) → low ≤ r.number
    by (inl e) later = let le : low ≤ x.number = grind (arith, common_steps) in subst (λ (s : Numbered). low ≤ s.number) e le
    by (inr d) later = let le : low ≤ x.number = grind (arith, common_steps) in omega (arith, later d)

-- a row is the one under its number
pub is_under : (low : ℕ) (rows : List Numbered) (next : ℕ) (r : Numbered) → rising_between low rows next ≡ true → Contains rows r → find (λ s. nat_eq s.number r.number) rows ≡ Some r
is_under low [] next r h c = none_there r c
is_under low (x ∷ rows) next r h c = by (first_or_later x rows r c) (λ d. is_under (x.number + 1) rows next r (grind (arith, common_steps)) d)
  where
    rest : rising_between (x.number + 1) rows next ≡ true
    rest = grind (arith, common_steps)

    by : (x ≡ r) ⊎ Contains rows r → (Contains rows r → find (λ s. nat_eq s.number r.number) rows ≡ Some r) → find (λ s. nat_eq s.number r.number) (x ∷ rows) ≡ Some r
    by (inl e) later = let t : nat_eq x.number r.number ≡ true = eq-eqb x.number r.number (ap (λ (s : Numbered). s.number) e) in rw t (ap (λ (s : Numbered). Some s) e)
    by (inr d) later =
        let above : x.number + 1 ≤ r.number = rising_above (x.number + 1) rows next r rest d in
        let f : nat_eq x.number r.number ≡ false = grind (arith, common_steps) in
        rw f (later d)

-- ---- each row that is put in is made from the row under its number

-- what is made from the row under a number
abbrev pub made_with : (Row → Outcome Row) → Numbered → Outcome Numbered
made_with new r = new r.row >>= λ row. Ok (record { number = r.number; row = row })

abbrev pub made_under : (Row → Outcome Row) → Table → ℕ → Outcome Numbered
made_under new t number = well_formed (row_at t number) >>= made_with new

abbrev pub IsMade : (ℕ → Outcome Numbered) → Change → Type 0
IsMade made (Insert row) = ⊥
IsMade made (Replace number row) = made number ≡ Ok (record { number = number; row = row })
IsMade made (Remove number) = ⊥

both_made : {A : Type 0} (o : Outcome A) (p : Outcome (List A)) (x : A) (xs : List A) → and_then o (λ y. and_then p (λ ys. Ok (y ∷ ys))) ≡ Ok (x ∷ xs) → (o ≡ Ok x) × (p ≡ Ok xs)
both_made (Err s) p x xs e = cc
both_made (Ok y) (Err s) x xs e = cc
both_made {A} (Ok y) (Ok ys) x xs e = let a : y ≡ x = cc in let b : ys ≡ xs = cc in (ap (λ (z : A). Ok z) a, ap (λ (zs : List A). Ok zs) b)

none_made : {A P : Type 0} (o : Outcome A) (p : Outcome (List A)) → and_then o (λ y. and_then p (λ ys. Ok (y ∷ ys))) ≡ Ok [] → P
none_made (Err s) p e = cc
none_made (Ok y) (Err s) e = cc
none_made (Ok y) (Ok ys) e = cc

pub all_made : (made : ℕ → Outcome Numbered) (numbers : List ℕ) (changes : List Change) → AreReplacements numbers changes → each made numbers ≡ Ok (rows_replaced changes) → AllByRecursion (IsMade made) changes
all_made made [] [] h e = tt
all_made made [] (change ∷ changes) h e = absurd h
all_made made (n ∷ numbers) [] h e = absurd h
all_made made (n ∷ numbers) (Insert row ∷ changes) h e = absurd h.0
all_made made (n ∷ numbers) (Replace number row ∷ changes) h e =
    let two = both_made (made n) (each made numbers) (record { number = number; row = row }) (rows_replaced changes) e in
    (ap made h.0 ∙ two.0, all_made made numbers changes h.1 two.1)
all_made made (n ∷ numbers) (Remove number ∷ changes) h e = absurd h.0

-- the row from which it is made
pub record MadeFrom (new : Row → Outcome Row) (t : Table) (number : ℕ) (row : Row) : Type 0 where
  pub old : Numbered
  pub there : row_at t number ≡ Some old
  pub numbered : old.number ≡ number
  pub made : new old.row ≡ Ok row

pub made_from : (new : Row → Outcome Row) (t : Table) (number : ℕ) (row : Row) → made_under new t number ≡ Ok (record { number = number; row = row }) → MadeFrom new t number row
made_from new t number row e = by (row_at t number) refl e
  where
    on : (r : Numbered) → row_at t number ≡ Some r → (o : Outcome Row) → new r.row ≡ o → and_then {B = Numbered} o (λ x. Ok (record { number = r.number; row = x })) ≡ Ok (record { number = number; row = row }) → MadeFrom new t number row
    on r f (Err s) m e = cc
    on r f (Ok x) m e =
        let n : Numbered = record { number = r.number; row = x } in
        let k : Numbered = record { number = number; row = row } in
        let made : Ok n ≡ Ok k = e in
        let same : n ≡ k = cc in
        record { old = r; there = f; numbered = ap (λ (s : Numbered). s.number) same; made = m ∙ ap (λ (s : Numbered). Ok s.row) same }

    by : (o : Option Numbered) → row_at t number ≡ o → and_then (well_formed o) (made_with new) ≡ Ok (record { number = number; row = row }) → MadeFrom new t number row
    by None f e = cc
    by (Some r) f e = on r f (new r.row) refl e

-- ---- values that are set

none_set : (columns : List ℕ) (row : Row) (place : ℕ) (v : Value) → list_any (λ c. nat_eq c place) columns ≡ false → in_columns (slice_set row place v) columns ≡ in_columns row columns
none_set [] row place v h = refl
none_set (c ∷ columns) row place v h =
    let rest : Bool = list_any (λ x. nat_eq x place) columns in
    let two = or_parts (nat_eq c place) rest h in
    ap₂ (λ (x : Value) (xs : Row). x ∷ xs) (get_or-set_other row place c v Null (eqb-false c place two.0)) (none_set columns row place v two.1)

-- values that are set in other columns
pub none_given : (columns : List ℕ) (given : List (ℕ × Value)) (row : Row) → list_any (λ g. list_any (λ c. nat_eq c g.0) columns) given ≡ false → in_columns (with_values given row) columns ≡ in_columns row columns
none_given columns [] row h = refl
none_given columns (g ∷ given) row h =
    let here : Bool = list_any (λ c. nat_eq c g.0) columns in
    let others : Bool = list_any (λ x. list_any (λ c. nat_eq c x.0) columns) given in
    let two = or_parts here others h in
    none_given columns given (slice_set row g.0 g.1) two.1 ∙ none_set columns row g.0 g.1 two.0

-- each value is given for the place of what it is made from
pub places_given : {X : Type 0} (f : X → Outcome (ℕ × Value)) (place : X → ℕ) (test : ℕ → Bool) → ((x : X) (g : ℕ × Value) → f x ≡ Ok g → g.0 ≡ place x) → (xs : List X) (given : List (ℕ × Value))
    → each f xs ≡ Ok given → list_any (λ g. test g.0) given ≡ list_any (λ x. test (place x)) xs
places_given f place test at [] [] e = refl
places_given f place test at [] (g ∷ given) e = cc
places_given f place test at (x ∷ xs) [] e = none_made (f x) (each f xs) e
places_given f place test at (x ∷ xs) (g ∷ given) e =
    let two = both_made (f x) (each f xs) g given e in
    ap (λ (b : Bool). b || list_any (λ y. test y.0) given) (ap test (at x g two.0)) ∙ ap (λ (b : Bool). test (place x) || b) (places_given f place test at xs given two.1)

-- ---- so it has the values of that row in columns that don't change

abbrev pub KeepsColumns : List ℕ → (Row → Outcome Row) → Type 0
KeepsColumns columns new = (before after : Row) → new before ≡ Ok after → in_columns after columns ≡ in_columns before columns

module _ (columns : List ℕ) (new : Row → Outcome Row) (keeps : KeepsColumns columns new) (t : Table) (rising : rising_between 1 t.rows t.next ≡ true) where
  one_keeps : (change : Change) → IsMade (made_under new t) change → Keeps columns (values_in columns t.rows) change
  one_keeps (Insert row) h = absurd h
  one_keeps (Replace number row) h = λ r c e.
      let m = made_from new t number row h in
      let o = mapped_of (with_values_in columns) t.rows r c in
      let at : row_at t o.0.number ≡ Some o.0 = is_under 1 t.rows t.next o.0 rising o.1 in
      let same_number : o.0.number ≡ number = ap (λ (s : Numbered). s.number) o.2 ∙ e in
      let two : Some m.old ≡ Some o.0 = sym m.there ∙ sym (ap (row_at t) same_number) ∙ at in
      let same : m.old ≡ o.0 = cc in
      keeps m.old.row row m.made ∙ ap (λ (s : Numbered). in_columns s.row columns) same ∙ ap (λ (s : Numbered). s.row) o.2
  one_keeps (Remove number) h = absurd h

  each_keeps : (changes : List Change) → AllByRecursion (IsMade (made_under new t)) changes → AllByRecursion (Keeps columns (values_in columns t.rows)) changes
  each_keeps [] h = tt
  each_keeps (change ∷ changes) h = (one_keeps change h.0, each_keeps changes h.1)

  -- a key is in the same rows afterwards
  pub keys_stay : (changes : List Change) (key : List Value) → AllByRecursion (IsMade (made_under new t)) changes
      → list_any (has_key columns key) (changed_by t changes).rows ≡ list_any (has_key columns key) t.rows
  keys_stay changes key h =
      any_with columns key (changed_by t changes).rows
      ∙ ap (list_any (λ r. pointwise is_same key r.row)) (all_kept columns (values_in columns t.rows) changes t refl (each_keeps changes h))
      ∙ sym (any_with columns key t.rows)

-- ---- and it stays, since another one under its number is the same

module _ (made : ℕ → Outcome Numbered) where
  stays_made : (changes : List Change) (t : Table) (number : ℕ) (row : List Value) → made number ≡ Ok (record { number = number; row = row }) → AllByRecursion (IsMade made) changes
      → Contains t.rows (record { number = number; row = row }) → Contains (changed_by t changes).rows (record { number = number; row = row })
  stays_made [] t number row m h c = c
  stays_made (Insert r ∷ changes) t number row m h c = absurd h.0
  stays_made (Replace n r ∷ changes) t number row m h c =
      stays_made changes (replaced t n r) number row m h.1
      (subst (Contains (map (put n r) t.rows)) (by (nat_eq number n) refl) (mapped_there (put n r) t.rows (record { number = number; row = row }) c))
    where
      by : (b : Bool) → nat_eq number n ≡ b → put n r (record { number = number; row = row }) ≡ record { number = number; row = row }
      by true e =
          let x : Numbered = record { number = number; row = row } in
          let y : Numbered = record { number = n; row = r } in
          let two : Ok y ≡ Ok x = sym h.0 ∙ ap made (sym (eqb-true number n e)) ∙ m in
          let same : y ≡ x = cc in
          put_is n r x e ∙ same
      by false e = put_not n r (record { number = number; row = row }) e
  stays_made (Remove n ∷ changes) t number row m h c = absurd h.0

  -- there is a row under each number for which one is made
  abbrev pub AreThere : Table → Type 0
  AreThere t = (number : ℕ) (row : List Value) → made number ≡ Ok (record { number = number; row = row }) → (r : Numbered) × Contains t.rows r × (r.number ≡ number)

  still_there : (t : Table) (n : ℕ) (r : List Value) → AreThere t → AreThere (replaced t n r)
  still_there t n r h number row m = let old = h number row m in (put n r old.0, mapped_there (put n r) t.rows old.0 old.1, by old.0 (nat_eq old.0.number n) refl ∙ old.2)
    where
      by : (x : Numbered) (b : Bool) → nat_eq x.number n ≡ b → (put n r x).number ≡ x.number
      by x true e = ap (λ (s : Numbered). s.number) (put_is n r x e) ∙ sym (eqb-true x.number n e)
      by x false e = ap (λ (s : Numbered). s.number) (put_not n r x e)

  pub put_made : (changes : List Change) (t : Table) → AreThere t → AllByRecursion (IsMade made) changes → ArePutThere t changes
  put_made [] t there h = tt
  put_made (Insert row ∷ changes) t there h = absurd h.0
  put_made (Replace number row ∷ changes) t there h =
      let new : Numbered = record { number = number; row = row } in
      let old = there number row h.0 in
      let here : Contains (replaced t number row).rows new
      = subst (Contains (map (put number row) t.rows)) (put_is number row old.0 (eq-eqb old.0.number number old.2)) (mapped_there (put number row) t.rows old.0 old.1) in (
        as_row (changed_by (replaced t number row) changes).rows row new refl (stays_made changes (replaced t number row) number row h.0 h.1 here),
        put_made changes (replaced t number row) (still_there t number row there) h.1,
      )
  put_made (Remove number ∷ changes) t there h = absurd h.0

pub made_there : (new : Row → Outcome Row) (t : Table) → AreThere (made_under new t) t
made_there new t number row m = let f = made_from new t number row m in (f.old, (found_there (λ r. nat_eq r.number number) t.rows f.old f.there).0, f.numbered)
