-- The numbers of the rows that are left to a walk.
use Rattle.std.proofs.Common.{◌≡◌, ◌∙◌, ℕ, ◌+◌, ◌≤◌, Bool, true, false, nat_le, nat_lt, List, [], ◌∷◌, arith, refl, sym, Some, None, find, filter, map, subst, ap}
use Rattle.std.proofs.lemmas.Grind.{common_steps}
use Rattle.sq_store.specs.declared.table.Numbered.{Numbered}
use Rattle.sq_store.specs.Content.{Content, table_at}
use Rattle.sq_store.specs.Rising.{rising_between, all_rising}
use Rattle.sq_store.proofs.Rises.{rows_rise_at}
use Rattle.sq_lex.specs.declared.name.Name.{Name}
use Rattle.sq_value.specs.declared.value.Value.{Value}
use Rattle.sq_bound.specs.declared.condition.BoundCond.{BoundCond}
use Rattle.sq_session.specs.Walk.{first_meant, is_meant, numbers_meant, rows_between}
use Rattle.sq_session.proofs.Walks.TableWalk.{rows_from_low}

-- ---- the rows that pass a test

none_pass : (test : Numbered → Bool) (rs : List Numbered) → find test rs ≡ None → filter test rs ≡ []
none_pass test [] h = refl
none_pass test (r ∷ rs) h = grind (arith, common_steps, none_pass test rs)

-- rows before a mark, from a number on, where this row is the first
between_here : (number mark : ℕ) (r : Numbered) (rs : List Numbered) → nat_le number r.number ≡ true → nat_lt r.number mark ≡ true → rows_between number mark (r ∷ rs) ≡ r ∷ rows_between number mark rs
between_here number mark r rs le lt = rw (le, lt) refl

between_low : (number mark : ℕ) (r : Numbered) (rs : List Numbered) → nat_le number r.number ≡ false → rows_between number mark (r ∷ rs) ≡ rows_between number mark rs
between_low number mark r rs le = rw le refl

between_high : (number mark : ℕ) (r : Numbered) (rs : List Numbered) → nat_lt r.number mark ≡ false → rows_between number mark (r ∷ rs) ≡ rows_between number mark rs
between_high number mark r rs lt = by_test (nat_le number r.number) refl
  where
    by_test : (b : Bool) → nat_le number r.number ≡ b → rows_between number mark (r ∷ rs) ≡ rows_between number mark rs
    by_test true t = rw (t, lt) refl
    by_test false t = rw t refl

-- rows that rise from a number on are all behind lower ones
between_all : (low number other mark : ℕ) (rs : List Numbered) (next : ℕ) → rising_between low rs next ≡ true → number ≤ low → other ≤ low → rows_between number mark rs ≡ rows_between other mark rs
between_all low number other mark rs next h le lo =
    ap (λ rows. filter (λ (r : Numbered). nat_lt r.number mark) rows) (rows_from_low low number rs next h le)
    ∙ sym (ap (λ rows. filter (λ (r : Numbered). nat_lt r.number mark) rows) (rows_from_low low other rs next h lo))

-- what is found is the row at hand, or is found among the others
passes_by : (test : Numbered → Bool) (number mark : ℕ) (r f : Numbered) (rs : List Numbered) (P : Type 0) → find test (rows_between number mark (r ∷ rs)) ≡ Some f
    → (rows_between number mark (r ∷ rs) ≡ r ∷ rows_between number mark rs → nat_le number r.number ≡ true → nat_lt r.number mark ≡ true → test r ≡ true → r ≡ f → P)
    → (filter test (rows_between number mark (r ∷ rs)) ≡ filter test (rows_between number mark rs) → find test (rows_between number mark rs) ≡ Some f → P) → P
passes_by test number mark r f rs P e here later = by_low (nat_le number r.number) refl
  where
    by_passed : nat_le number r.number ≡ true → nat_lt r.number mark ≡ true → (b : Bool) → test r ≡ b → P
    by_passed t u true v = let k : Some r ≡ Some f = rw (between_here number mark r rs t u, v) at e in here (between_here number mark r rs t u) t u v (cc)
    by_passed t u false v =
        let at : rows_between number mark (r ∷ rs) ≡ r ∷ rows_between number mark rs = between_here number mark r rs t u in
        later (rw (at, v) refl) (rw (at, v) at e)

    by_high : nat_le number r.number ≡ true → (b : Bool) → nat_lt r.number mark ≡ b → P
    by_high t true u = by_passed t u (test r) refl
    by_high t false u = later (ap (filter test) (between_high number mark r rs u)) (rw (between_high number mark r rs u) at e)

    by_low : (b : Bool) → nat_le number r.number ≡ b → P
    by_low true t = by_high t (nat_lt r.number mark) refl
    by_low false t = later (ap (filter test) (between_low number mark r rs t)) (rw (between_low number mark r rs t) at e)

passes_behind : (test : Numbered → Bool) (low number mark : ℕ) (rs : List Numbered) (next : ℕ) (f : Numbered) → rising_between low rs next ≡ true → find test (rows_between number mark rs) ≡ Some f → low ≤ f.number
passes_behind test low number mark [] next f h e = cc
passes_behind test low number mark (r ∷ rs) next f h e = passes_by test number mark r f rs (low ≤ f.number) e
    (λ at t u v q. rw (← q) (grind (arith, common_steps)))
    (λ same k. let ih : r.number + 1 ≤ f.number = passes_behind test (r.number + 1) number mark rs next f (grind (arith, common_steps)) k in grind (arith, common_steps))

-- The rows that pass are the first one that does, and those that come after it.
pass_next : (test : Numbered → Bool) (low number mark : ℕ) (rs : List Numbered) (next : ℕ) (f : Numbered) → rising_between low rs next ≡ true → find test (rows_between number mark rs) ≡ Some f
    → filter test (rows_between number mark rs) ≡ f ∷ filter test (rows_between (f.number + 1) mark rs)
pass_next test low number mark [] next f h e = cc
pass_next test low number mark (r ∷ rs) next f h e = passes_by test number mark r f rs (filter test (rows_between number mark (r ∷ rs)) ≡ f ∷ filter test (rows_between (f.number + 1) mark (r ∷ rs))) e
    (λ at t u v q. let P : Numbered → Type 0 = λ g. filter test (rows_between number mark (r ∷ rs)) ≡ g ∷ filter test (rows_between (g.number + 1) mark (r ∷ rs)) in
    let le : number ≤ r.number + 1 = grind (arith, common_steps) in
    let others : rows_between number mark rs ≡ rows_between (r.number + 1) mark rs = between_all (r.number + 1) number (r.number + 1) mark rs next (grind (arith, common_steps)) le (omega arith) in
    let beyond : nat_le (r.number + 1) r.number ≡ false = grind (arith, common_steps) in
    let after : rows_between (r.number + 1) mark (r ∷ rs) ≡ rows_between (r.number + 1) mark rs = between_low (r.number + 1) mark r rs beyond in
    let first : filter test (r ∷ rows_between number mark rs) ≡ r ∷ filter test (rows_between number mark rs) = rw v refl in
    subst P q (ap (filter test) at ∙ first ∙ ap (λ rows. r ∷ filter test rows) (others ∙ sym after)))
    (λ same k. let rises : rising_between (r.number + 1) rs next ≡ true = grind (arith, common_steps) in
    let behind : r.number + 1 ≤ f.number = passes_behind test (r.number + 1) number mark rs next f rises k in
    let beyond : nat_le (f.number + 1) r.number ≡ false = grind (arith, common_steps) in
    same ∙ pass_next test (r.number + 1) number mark rs next f rises k ∙ ap (λ rows. f ∷ filter test rows) (sym (between_low (f.number + 1) mark r rs beyond)))

-- ---- the numbers of those that conditions mean

-- The numbers listed are that of the first row, and those after it.
pub numbers_next : (row_numbers : ℕ) (content : Content) (table : ℕ) (conditions : List BoundCond) (values : List Value) (user : Name) (from mark : ℕ) (f : Numbered)
    → all_rising row_numbers content ≡ true → first_meant conditions values user from mark (table_at content table).rows ≡ Some f
    → numbers_meant conditions values user from mark (table_at content table).rows ≡ f.number ∷ numbers_meant conditions values user (f.number + 1) mark (table_at content table).rows
numbers_next row_numbers content table conditions values user from mark f h e =
    let t = table_at content table in
    ap (map (λ (r : Numbered). r.number)) (pass_next (is_meant conditions values user) 1 from mark t.rows t.next f (rows_rise_at row_numbers content table h) e)

-- Where no row is found, no number is left.
pub numbers_end : (conditions : List BoundCond) (values : List Value) (user : Name) (from mark : ℕ) (rows : List Numbered)
    → first_meant conditions values user from mark rows ≡ None → numbers_meant conditions values user from mark rows ≡ []
numbers_end conditions values user from mark rows e = ap (map (λ (r : Numbered). r.number)) (none_pass (is_meant conditions values user) (rows_between from mark rows) e)
