-- The rows of a table that a walk by rising numbers has handed out.
use Rattle.std.proofs.Common.{◌≡◌, ℕ, ◌<◌, Bool, true, false, nat_le, List, [], ◌∷◌, ◌++◌, cond, filter, map, refl, sym, ◌∙◌, ap, append_assoc, append-nil, length, Ok, None, find, Bor}
use Rattle.std.proofs.lemmas.List.{map_push}
use Rattle.std.proofs.lemmas.Bool.{lt-ltb}
use Rattle.sq_meaning.specs.Environment.{Row}
use Rattle.std.specs.Prelude.{if◌then◌else◌}
use Rattle.sq_meaning.specs.Status.{not_well_formed}
use Rattle.sq_expression.specs.Frame.{lent}
use Rattle.sq_query.specs.Table.{numbered_row, table_there}
use Rattle.sq_store.specs.declared.table.Numbered.{Numbered}
use Rattle.sq_store.specs.Content.{Content, table_at}
use Rattle.sq_store.proofs.Walk.{rows_from, rows_from_none}

-- behind the last row all are walked over
pub walked_all : (done : List (ℕ × Bor Row)) (number : ℕ) (rs : List Numbered) → find (λ r. nat_le number r.number) rs ≡ None → map numbered_row done ++ rows_from number rs ≡ rs → rs ≡ map numbered_row done
walked_all done number rs none so_far = sym so_far ∙ ap (λ (l : List Numbered). map numbered_row done ++ l) (rows_from_none number rs none) ∙ append-nil (map numbered_row done)

pub there_within : (content : Content) (table : ℕ) → table < length content → table_there content table ≡ Ok (table_at content table)
there_within content table h = ap (λ (b : Bool). if b then Ok (table_at content table) else not_well_formed) (lt-ltb table (length content) h)

-- one more row was walked over
pub walked_on : (done next : List (ℕ × Bor Row)) (x : ℕ × Bor Row) (n m : ℕ) (rs : List Numbered) → next ≡ done ++ x ∷ [] → map numbered_row done ++ rows_from n rs ≡ rs
    → rows_from n rs ≡ numbered_row x ∷ rows_from m rs → map numbered_row next ++ rows_from m rs ≡ rs
walked_on done next x n m rs grown so_far step =
    ap (λ (l : List (ℕ × Bor Row)). map numbered_row l ++ rows_from m rs) grown
    ∙ ap (λ (l : List Numbered). l ++ rows_from m rs) (map_push numbered_row done x)
    ∙ append_assoc (map numbered_row done) (numbered_row x ∷ []) (rows_from m rs)
    ∙ sym (ap (λ (l : List Numbered). map numbered_row done ++ l) step)
    ∙ so_far

-- what a walk makes of the rows, one after the other
module _ (made : List Numbered → List Row) (in_turn : (r : Numbered) (rs : List Numbered) → made (r ∷ rs) ≡ made (r ∷ []) ++ made rs) where
  pub made_on : (done next : List Row) (r : Numbered) (n m : ℕ) (rs : List Numbered) → next ≡ done ++ made (r ∷ []) → done ++ made (rows_from n rs) ≡ made rs → rows_from n rs ≡ r ∷ rows_from m rs
      → next ++ made (rows_from m rs) ≡ made rs
  made_on done next r n m rs grown so_far step =
      ap (λ (l : List Row). l ++ made (rows_from m rs)) grown
      ∙ append_assoc done (made (r ∷ [])) (made (rows_from m rs))
      ∙ sym (ap (λ (l : List Row). done ++ l) (ap made step ∙ in_turn r (rows_from m rs)))
      ∙ so_far

  pub made_all : (done : List Row) (number : ℕ) (rs : List Numbered) → made [] ≡ [] → find (λ r. nat_le number r.number) rs ≡ None → done ++ made (rows_from number rs) ≡ made rs → done ≡ made rs
  made_all done number rs of_none none so_far =
      sym (append-nil done) ∙ sym (ap (λ (l : List Row). done ++ l) (ap made (rows_from_none number rs none) ∙ of_none)) ∙ so_far

pub unnumbered_in_turn : (r : Numbered) (rs : List Numbered) → map (λ (s : Numbered). s.row) (r ∷ rs) ≡ map (λ (s : Numbered). s.row) (r ∷ []) ++ map (λ (s : Numbered). s.row) rs
unnumbered_in_turn r rs = refl

module _ (test : Row → Bool) where
  abbrev pub passing : List Numbered → List Row
  passing rs = filter test (map (λ (s : Numbered). s.row) rs)

  pub passing_in_turn : (r : Numbered) (rs : List Numbered) → passing (r ∷ rs) ≡ passing (r ∷ []) ++ passing rs
  passing_in_turn r rs = by (test r.row)
    where
      by : (b : Bool) → cond b (r.row ∷ passing rs) (passing rs) ≡ cond b (r.row ∷ []) [] ++ passing rs
      by true = refl
      by false = refl

  pub pushed_if : (done next : List (Bor Row)) (x : Bor Row) (number : ℕ) (b : Bool) → b ≡ test x.now → next ≡ (if b then done ++ x ∷ [] else done) → lent next ≡ lent done ++ passing (record { number = number; row = x.now } ∷ [])
  pushed_if done next x number b is grown = ap lent grown ∙ by b is
    where
      by : (c : Bool) → c ≡ test x.now → lent (if c then done ++ x ∷ [] else done) ≡ lent done ++ cond (test x.now) (x.now ∷ []) []
      by true e = map_push (λ (y : Bor Row). y.now) done x ∙ ap (λ d. lent done ++ cond d (x.now ∷ []) []) e
      by false e = sym (append-nil (lent done)) ∙ ap (λ d. lent done ++ cond d (x.now ∷ []) []) e
