-- A law of `*` (ISO/IEC 9075:1992, 7.9): it shows what the list of all columns by their places shows.
use Rattle.std.proofs.Common.{◌≡◌, ℕ, zero, suc, List, [], ◌∷◌, ◌++◌, map, drop, Option, Some, refl, sym, ap, ◌∙◌, Ok}
use Rattle.std.specs.Prelude.{slice_get}
use Rattle.std.specs.List.{flat_map}
use Rattle.std.specs.Option.{option_and_then}
use Rattle.sq_value.specs.declared.value.Value.{Value}
use Rattle.sq_meaning.specs.Status.{Outcome, and_then, each, well_formed}
use Rattle.sq_meaning.specs.Syntax.{all_columns, column as column_at, expressions}
use Rattle.sq_meaning.specs.Environment.{Row, Line, Scope, Env, Place, within, value_at}
use Rattle.sq_meaning.specs.Expression.{value}
use Rattle.sq_meaning.specs.Placed.{by_place}
use Rattle.sq_meaning.specs.Query.{listed_values}
use Rattle.sq_meaning.proofs.OutcomeLaws.{both_lists, each-append, each_map}

-- ---- the places of all columns of the nearest scope, by what its line has

abbrev pub row_places : ℕ → ℕ → Row → List Place
row_places item column [] = []
row_places item column (v ∷ vs) = record { depth = 0; item = item; column = column } ∷ row_places item (suc column) vs

abbrev pub line_places : ℕ → Line → List Place
line_places item [] = []
line_places item (row ∷ rows) = row_places item 0 row ++ line_places (suc item) rows

-- ---- what is there

at_drop : {A : Type 0} (n : ℕ) (xs : List A) (y : A) (ys : List A) → drop n xs ≡ y ∷ ys → (slice_get xs n ≡ Some y) × (drop (suc n) xs ≡ ys)
at_drop zero [] y ys e = cc
at_drop zero (x ∷ xs) y ys e = let same : x ≡ y = cc in let others : xs ≡ ys = cc in (ap Some same, others)
at_drop (suc n) [] y ys e = cc
at_drop (suc n) (x ∷ xs) y ys e = at_drop n xs y ys e

value_there : {H : Type 0} (s : Scope H) (env : Env H) (item column : ℕ) (row : Row) (v : Value) → slice_get s.line item ≡ Some row → slice_get row column ≡ Some v
    → value_at (within s env) (record { depth = 0; item = item; column = column }) ≡ Ok v
value_there s env item column row v there at =
    ap (λ (o : Option Row). well_formed (option_and_then (λ r. slice_get r column) o)) there ∙ ap (λ (o : Option Value). well_formed o) at

row_shown : {H : Type 0} (s : Scope H) (env : Env H) (item : ℕ) (row : Row) → slice_get s.line item ≡ Some row → (column : ℕ) (rest : Row) → drop column row ≡ rest
    → each (value_at (within s env)) (row_places item column rest) ≡ Ok rest
row_shown s env item row there column [] e = refl
row_shown s env item row there column (v ∷ vs) e =
    let at = at_drop column row v vs e in
    ap (λ (o : Outcome Value). and_then o (λ w. and_then (each (value_at (within s env)) (row_places item (suc column) vs)) (λ ws. Ok (w ∷ ws)))) (value_there s env item column row v there at.0)
    ∙ ap (λ (o : Outcome Row). and_then o (λ ws. Ok (v ∷ ws))) (row_shown s env item row there (suc column) vs at.1)

line_shown : {H : Type 0} (s : Scope H) (env : Env H) (item : ℕ) (rest : Line) → drop item s.line ≡ rest
    → each (value_at (within s env)) (line_places item rest) ≡ Ok (flat_map (λ row. row) rest)
line_shown s env item [] e = refl
line_shown s env item (row ∷ rows) e =
    let at = at_drop item s.line row rows e in
    each-append (value_at (within s env)) (row_places item 0 row) (line_places (suc item) rows)
    ∙ ap (λ (o : Outcome Row). both_lists o (each (value_at (within s env)) (line_places (suc item) rows))) (row_shown s env item row at.0 0 row refl)
    ∙ ap (λ (o : Outcome Row). both_lists (Ok row) o) (line_shown s env (suc item) rows at.1)

-- `*` shows what the list of all columns shows
pub star_is_all_columns : {T : Type 0} (rows_of : T → Outcome (List Row)) (s : Scope (Unit {0})) (env : Env (Unit {0}))
    → listed_values (by_place rows_of) all_columns (within s env) ≡ listed_values (by_place rows_of) (expressions (map (λ p. column_at p) (line_places 0 s.line))) (within s env)
star_is_all_columns rows_of s env =
    sym (line_shown s env 0 s.line refl)
    ∙ sym (each_map (λ p. column_at p) (λ e. value (by_place rows_of) e (within s env)) (line_places 0 s.line))
