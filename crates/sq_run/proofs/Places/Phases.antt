-- The phases of a query specification, one after the other (ISO/IEC 9075:1992, 7.9).
use Rattle.std.proofs.Common.{◌≡◌, Bool, false, List, map, sym, ap, ◌∙◌, Ok}
use Rattle.std.specs.Prelude.{if◌then◌else◌}
use Rattle.std.specs.List.{AllByRecursion}
use Rattle.sq_value.specs.declared.truth.Truth.{Truth}
use Rattle.sq_meaning.specs.Status.{Outcome, and_then, each, kept}
use Rattle.sq_meaning.specs.Syntax.{Naming, Expr, SelectList, Clause}
use Rattle.sq_meaning.specs.Environment.{Row, Line, Scope, Env, within}
use Rattle.sq_meaning.specs.Expression.{Reading, value}
use Rattle.sq_meaning.specs.Rows.{firsts, same_row}
use Rattle.sq_meaning.specs.Query.{clause_truth, group_scope, group_scopes, groups_by, is_true, listed_values}
use Rattle.sq_meaning.proofs.OutcomeLaws.{kept_map, each_map, then_then}
use Rattle.sq_run.proofs.Places.Outcomes.{each_of, kept_of, same_then}

-- HAVING, the select list and DISTINCT, over what the select list is computed for
abbrev pub shown_of : {N : Naming} → Reading N → Bool → SelectList N → Clause N → Env N.Item → List (Scope N.Item)
    → Outcome (List Row)
shown_of m d l h env scopes =
    and_then (kept (λ s. is_true (clause_truth m h (within s env))) scopes)
    (λ left. and_then (each (λ s. listed_values m l (within s env)) left) (λ found. Ok (if d then firsts same_row found else found)))

-- The items of a list that pass a condition on a row of each.
abbrev pub shown_by : {X : Type 0} → Bool → (X → Outcome Truth) → (X → Outcome Row) → List X → Outcome (List Row)
shown_by d t f xs =
    and_then (kept (λ x. is_true (t x)) xs)
    (λ left. and_then (each f left) (λ found. Ok (if d then firsts same_row found else found)))

pub shown_is : {N : Naming} {X : Type 0} (m : Reading N) (d : Bool) (l : SelectList N) (h : Clause N) (env : Env N.Item)
    (sc : X → Scope N.Item) (xs : List X)
    → shown_of m d l h env (map sc xs)
    ≡ shown_by d (λ x. clause_truth m h (within (sc x) env)) (λ x. listed_values m l (within (sc x) env)) xs
shown_is {N} {X} m d l h env sc xs =
    ap (λ r. and_then r (λ left. and_then (each (λ s. listed_values m l (within s env)) left) (λ found. Ok (if d then firsts same_row found else found))))
    (kept_map sc (λ s. is_true (clause_truth m h (within s env))) xs)
    ∙ then_then (kept (λ x. is_true (clause_truth m h (within (sc x) env))) xs) (λ ys. Ok (map sc ys))
    (λ left. and_then (each (λ s. listed_values m l (within s env)) left) (λ found. Ok (if d then firsts same_row found else found)))
    ∙ (λ i. and_then (kept (λ x. is_true (clause_truth m h (within (sc x) env))) xs) (λ ys. and_then (each_map sc (λ s. listed_values m l (within s env)) ys i) (λ found. Ok (if d then firsts same_row found else found))))

-- the truth is the same of each, and the row of those of which something is known
pub shown_same : {X : Type 0} (d : Bool) (P : X → Type 0) (t u : X → Outcome Truth) (f g : X → Outcome Row)
    → ((x : X) → t x ≡ u x) → ((x : X) → P x → f x ≡ g x)
    → (xs : List X) → AllByRecursion P xs → shown_by d t f xs ≡ shown_by d u g xs
shown_same d P t u f g e h xs p =
    (λ i. shown_by d (λ x. e x i) f xs)
    ∙ same_then (kept (λ x. is_true (u x)) xs) (AllByRecursion P)
    (λ left. and_then (each f left) (λ found. Ok (if d then firsts same_row found else found)))
    (λ left. and_then (each g left) (λ found. Ok (if d then firsts same_row found else found)))
    (kept_of P (λ x. is_true (u x)) xs p)
    (λ left q. ap (λ (o : Outcome (List Row)). and_then o (λ found. Ok (if d then firsts same_row found else found))) (each_of P f g h left q))

-- what goes on from groups
pub groups_then : {N : Naming} (m : Reading N) (fs : List (Expr N)) (by : List N.Column) (heads : List N.Item) (lines : List Line)
    (env : Env N.Item) (t : List (Scope N.Item) → Outcome (List Row))
    → and_then (group_scopes m fs by heads lines env) t
    ≡ and_then (groups_by m by heads lines env)
    (λ groups. and_then (each (λ group. each (λ f. value m f (within (group_scope heads group) env)) fs) groups) (λ _. t (map (group_scope heads) groups)))
groups_then m fs by heads lines env t =
    then_then (groups_by m by heads lines env)
    (λ groups. and_then (each (λ group. each (λ f. value m f (within (group_scope heads group) env)) fs) groups) (λ _. Ok (map (group_scope heads) groups))) t
    ∙ (λ i. and_then (groups_by m by heads lines env) (λ groups. then_then (each (λ group. each (λ f. value m f (within (group_scope heads group) env)) fs) groups) (λ _. Ok (map (group_scope heads) groups)) t i))

-- where neither is grouped
pub ungrouped_way : {X Y Z : Type 0} (g h : Bool) → g ≡ false → h ≡ false
    → (a b : Outcome X) (c d : Outcome Y) (t : X → Outcome Z) (u : Y → Outcome Z)
    → and_then b t ≡ and_then d u → and_then (if g then a else b) t ≡ and_then (if h then c else d) u
ungrouped_way g h e k a b c d t u p =
    ap (λ x. and_then (if x then a else b) t) e ∙ p ∙ sym (ap (λ x. and_then (if x then c else d) u) k)
