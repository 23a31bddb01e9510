-- Rows brought to the common kinds of both sides of UNION.
use Rattle.std.proofs.Common.{◌≡◌, ℕ, zero, suc, ◌+◌, ◌<◌, min, List, [], ◌∷◌, ◌++◌, length, map, get_or, arith, refl, sym, ap, subst, length-append}
use Rattle.std.specs.List.{AllByRecursion, zip}
use Rattle.sq_value.specs.declared.domain.Kind.{Kind}
use Rattle.sq_value.specs.declared.value.Value.{Value}
use Rattle.sq_meaning.specs.Status.{Outcome}
use Rattle.sq_meaning.specs.QueryExpression.{brought_to}
use Rattle.sq_bound.specs.declared.condition.ResultColumn.{ResultColumn}

-- ---- pairs of a column and a value

abbrev pub pair_brought : Kind × Value → Outcome Value
pair_brought p = brought_to p.0 p.1

abbrev pub of_kind : ResultColumn × Value → Kind × Value
of_kind p = (p.0.kind, p.1)

pub kinds_zipped : (columns : List ResultColumn) (row : List Value) → zip (map (λ c. c.kind) columns) row ≡ map of_kind (zip columns row)
kinds_zipped [] row = refl
kinds_zipped (c ∷ columns) [] = refl
kinds_zipped (c ∷ columns) (v ∷ row) = ap (λ ps. (c.kind, v) ∷ ps) (kinds_zipped columns row)

pub pair_at : {A B : Type 0} (ks : List A) (vs : List B) (n : ℕ) (k : A) (v : B) → n < length ks → n < length vs → ((d : A) → k ≡ get_or ks n d) → ((d : B) → v ≡ get_or vs n d)
    → (n < length (zip ks vs)) × ((k, v) ≡ get_or (zip ks vs) n (k, v))
pair_at [] vs n k v lt lu e f = absurd (omega arith)
pair_at (a ∷ ks) [] n k v lt lu e f = absurd (omega arith)
pair_at (a ∷ ks) (b ∷ vs) zero k v lt lu e f = (omega arith, λ i. (e k i, f v i))
pair_at (a ∷ ks) (b ∷ vs) (suc n) k v lt lu e f = let rest = pair_at ks vs n k v (omega arith) (omega arith) e f in (omega (arith, rest.0), rest.1)

pub zip_length : {A B : Type 0} (ks : List A) (vs : List B) → length (zip ks vs) ≡ min (length ks) (length vs)
zip_length [] vs = omega arith
zip_length (k ∷ ks) [] = omega arith
zip_length (k ∷ ks) (v ∷ vs) = omega (arith, zip_length ks vs)

pub all_at : {A : Type 0} (P : A → Type 0) (xs : List A) (i : ℕ) (x : A) → AllByRecursion P xs → i < length xs → x ≡ get_or xs i x → P x
all_at P [] i x h lt is = absurd (omega arith)
all_at P (y ∷ ys) zero x h lt is = subst P (sym is) h.0
all_at P (y ∷ ys) (suc i) x h lt is = all_at P ys i x h.1 (omega arith) is

pub all_kinds_at : (P : Kind × Value → Type 0) (columns : List ResultColumn) (row : List Value) (i : ℕ) (p : ResultColumn × Value) → AllByRecursion P (zip (map (λ c. c.kind) columns) row)
    → i < length (zip columns row) → p ≡ get_or (zip columns row) i p → P (of_kind p)
all_kinds_at P columns row i p h lt is = by (zip columns row) i (subst (AllByRecursion P) (kinds_zipped columns row) h) lt is
  where
    by : (xs : List (ResultColumn × Value)) (i : ℕ) → AllByRecursion P (map of_kind xs) → i < length xs → p ≡ get_or xs i p → P (of_kind p)
    by [] i h lt is = absurd (omega arith)
    by (y ∷ ys) zero h lt is = subst (λ q. P (of_kind q)) (sym is) h.0
    by (y ∷ ys) (suc i) h lt is = by ys i h.1 (omega arith) is

pub one_more : {P : Type 0} (xs : List P) (p : P) → length (xs ++ p ∷ []) ≡ length xs + 1
one_more xs p = length-append xs (p ∷ [])
