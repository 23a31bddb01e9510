-- A query specification that reads no column of a query around it has the same rows wherever it is.
use Rattle.std.proofs.Common.{◌≡◌, ℕ, zero, suc, ◌<◌, List, [], ◌∷◌, Some, refl, ap, arith}
use Rattle.std.specs.Prelude.{⊤, slice_get}
use Rattle.std.specs.Option.{option_and_then}
use Rattle.sq_meaning.specs.Status.{Outcome}
use Rattle.sq_meaning.specs.Syntax.{Select}
use Rattle.sq_meaning.specs.Environment.{Row, Scope, Env, Place, alone}
use Rattle.sq_meaning.specs.Placed.{Placed, by_place}
use Rattle.sq_meaning.specs.Query.{rows}
use Rattle.sq_meaning.proofs.Related.{GroupsAlike}
use Rattle.sq_bound.specs.Columns.{IsInside, IsClosed}
use Rattle.sq_bound.proofs.SameColumns.{Scopes, AreAlike, value_there, rows_same}

-- the nearest scopes, so many, are the same
abbrev SameInside : ℕ → Scopes → Scopes → Type 0
SameInside zero xs ys = ⊤
SameInside (suc deep) (s ∷ xs) (t ∷ ys) = (s ≡ t) × SameInside deep xs ys
SameInside (suc deep) _ _ = ⊥

-- the scopes up to this depth are the same, and the one at this depth is there
abbrev SameHere : ℕ → Scopes → Scopes → Type 0
SameHere zero xs ys = ⊥
SameHere (suc deep) xs ys = SameInside (suc deep) xs ys

around_closed : (deep : ℕ) (xs ys : Scopes) → SameHere deep xs ys → SameInside deep xs ys
around_closed zero xs ys h = absurd h
around_closed (suc deep) xs ys h = h

scope_inside : (deep depth : ℕ) (xs ys : Scopes) → SameInside deep xs ys → depth < deep → slice_get xs depth ≡ slice_get ys depth
scope_inside zero depth xs ys h k = absurd (omega arith)
scope_inside (suc deep) depth [] ys h k = absurd h
scope_inside (suc deep) depth (s ∷ xs) [] h k = absurd h
scope_inside (suc deep) zero (s ∷ xs) (t ∷ ys) h k = ap Some h.0
scope_inside (suc deep) (suc depth) (s ∷ xs) (t ∷ ys) h k = scope_inside deep depth xs ys h.1 (omega arith)

column_inside : (deep : ℕ) (p : Place) (xs ys : Scopes) → SameHere deep xs ys → IsInside deep p → value_there p xs ≡ value_there p ys
column_inside deep p xs ys h k =
    ap (λ o. option_and_then (λ (s : Scope (Unit {0})). option_and_then (λ (row : Row). slice_get row p.column) (slice_get s.line p.item)) o) (scope_inside deep p.depth xs ys (around_closed deep xs ys h) k)

nearest_inside : (deep : ℕ) (xs ys : Scopes) → SameHere deep xs ys → GroupsAlike (SameHere deep) xs ys
nearest_inside zero xs ys h = absurd h
nearest_inside (suc deep) [] ys h = absurd h
nearest_inside (suc deep) (s ∷ xs) [] h = absurd h
nearest_inside (suc deep) (s ∷ xs) (t ∷ ys) h = (ap (λ (u : Scope (Unit {0})). u.group) h.0, λ line. (ap (λ (u : Scope (Unit {0})). alone u.items line) h.0, h.1))

closed_alike : AreAlike IsInside SameInside SameHere
closed_alike = record {
  inside = λ deep s xs ys h. (refl, h);
  around = around_closed;
  column = column_inside;
  nearest = nearest_inside;
}

-- a closed query specification has the same rows in every scopes, for the same inputs and user
pub closed_rows : {T : Type 0} (tables : T → Outcome (List Row)) (q : Select (Placed T)) (env : Env (Unit {0})) (scopes : List (Scope (Unit {0})))
    → IsClosed q → rows (by_place tables) q env ≡ rows (by_place tables) q (record env { scopes = scopes })
closed_rows tables q env scopes closed = rows_same tables env.inputs env.user IsInside SameInside SameHere closed_alike 0 q closed env.scopes scopes tt
