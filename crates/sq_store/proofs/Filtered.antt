-- A walk over rows that keeps those that pass a test.
use Rattle.std.proofs.Common.{◌≡◌, ℕ, ◌+◌, ◌<◌, Bool, true, false, List, [], ◌∷◌, ◌++◌, length, get_or, drop, cond, filter, if◌then◌else◌, append_assoc, sym, ap, ◌∙◌}
use Rattle.std.proofs.lemmas.List.{drop_more}
use Rattle.sq_store.specs.declared.table.Numbered.{Numbered}

-- one more row was looked at
pub filtered_on : (test : Numbered → Bool) (rows done next : List Numbered) (i : ℕ) (r : Numbered) (b : Bool) → i < length rows → r ≡ get_or rows i r → b ≡ test r → next ≡ (if b then done ++ r ∷ [] else done)
    → done ++ filter test (drop i rows) ≡ filter test rows → next ++ filter test (drop (i + 1) rows) ≡ filter test rows
filtered_on test rows done next i r b within is tested grown so_far =
    let rest = drop (i + 1) rows in
    let here : filter test (drop i rows) ≡ filter test (r ∷ rest) = ap (filter test) (drop_more rows i r within ∙ ap (λ (x : Numbered). x ∷ rest) (sym is)) in
    ap (λ (l : List Numbered). l ++ filter test rest) grown ∙ by b tested ∙ ap (λ (l : List Numbered). done ++ l) (sym here) ∙ so_far
  where
    by : (c : Bool) → c ≡ test r → (if c then done ++ r ∷ [] else done) ++ filter test (drop (i + 1) rows) ≡ done ++ filter test (r ∷ drop (i + 1) rows)
    by true e = append_assoc done (r ∷ []) (filter test (drop (i + 1) rows)) ∙ ap (λ (t : Bool). done ++ cond t (r ∷ filter test (drop (i + 1) rows)) (filter test (drop (i + 1) rows))) e
    by false e = ap (λ (t : Bool). done ++ cond t (r ∷ filter test (drop (i + 1) rows)) (filter test (drop (i + 1) rows))) e
