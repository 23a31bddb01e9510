-- The rows of a well-formed query expression are of its kinds, also in the order of ORDER BY. Or there are none for another
-- cause than 42000 (ISO/IEC 9075:1992, 7.10 and 13.1).
use Rattle.std.proofs.Common.{◌≡◌, ℕ, Bool, true, false, List, [], ◌∷◌, ◌++◌, ap, subst, ◌∙◌, Ok, Err, arith}
use Rattle.std.proofs.lemmas.List.{length-append, length-replicate}
use Rattle.std.specs.Prelude.{⊤, ◌+◌, ◌-◌, ◌≤◌, max, length, replicate, if◌then◌else◌}
use Rattle.std.specs.List.{AllByRecursion}
use Rattle.sq_value.specs.Arithmetic.{at_scale}
use Rattle.sq_value.specs.Comparison.{padded}
use Rattle.sq_value.specs.Domain.{IsOfKind}
use Rattle.sq_value.specs.declared.domain.Kind.{Kind}
use Rattle.sq_value.specs.declared.domain.Kind.TheVariants as kind
use Rattle.sq_value.specs.declared.value.Value.{Value}
use Rattle.sq_value.specs.declared.value.Value.TheVariants.{Null, Num, Chars}
use Rattle.sq_meaning.specs.Status.{Outcome, and_then, each}
use Rattle.sq_meaning.specs.Syntax.{Naming, Query, specification, union}
use Rattle.sq_meaning.specs.Environment.{Row, Env}
use Rattle.sq_meaning.specs.Expression.{Reading}
use Rattle.sq_meaning.specs.Kind.{Kinds, common_kind, common_kinds, query_kinds}
use Rattle.sq_meaning.specs.QueryExpression.{brought_to, row_brought_to, query_rows, ordered_rows}
use Rattle.sq_meaning.specs.Rows.{firsts, same_row, sorted, SortColumn, by_columns}
use Rattle.sq_meaning.specs.WellFormed.{Answers, Has, HasValue, IsRowOf, AreRowsOf, Agrees, WellFormedQuery, IsEnvOf}
use Rattle.sq_meaning.proofs.AnswerLaws.{all_weaker, all_appended, all_firsts, all_sorted, then_answers, each_answers}
use Rattle.sq_meaning.proofs.OperatorKinds.{number_of_scale}
use Rattle.sq_meaning.proofs.QueryKinds.{rows_of_kinds}

-- where there is a common kind, something holds of it
abbrev IfKnown : {A : Type 0} → (A → Type 0) → Outcome A → Type 0
IfKnown P (Ok x) = P x
IfKnown P (Err status) = ⊤

-- ---- a value brought to the common kind

abbrev blanks : ℕ → List ℕ
blanks n = replicate n 32

padded_length : (n k : ℕ) (t : List ℕ) → length t ≡ k → k ≤ n → length (padded n t) ≡ n
padded_length n k t e le = length-append t (blanks (n - length t)) ∙ ap (λ i. length t + i) (length-replicate (n - length t) 32) ∙ omega arith

abbrev IsBrought : Value → Kind → Type 0
IsBrought v c = Answers (IsOfKind c) (brought_to c v)

null_brought : (o : Outcome Kind) → IfKnown (IsBrought Null) o
null_brought (Ok c) = tt
null_brought (Err status) = tt

left_brought : (x y : Kind) (v : Value) → IsOfKind x v → IfKnown (IsBrought v) (common_kind x y)
left_brought x y Null h = null_brought (common_kind x y)
left_brought (kind.Num s) (kind.Num t) (Num n) h = number_of_scale (max s t) (at_scale (max s t) n)
left_brought (kind.Num s) (kind.Chars k) (Num n) h = tt
left_brought (kind.Num s) (kind.Vary k) (Num n) h = tt
left_brought (kind.Chars k) y (Num n) h = absurd h
left_brought (kind.Vary k) y (Num n) h = absurd h
left_brought (kind.Num s) y (Chars t) h = absurd h
left_brought (kind.Chars k) (kind.Num s) (Chars t) h = tt
left_brought (kind.Chars k) (kind.Chars l) (Chars t) h = padded_length (max k l) k t h (omega arith)
left_brought (kind.Chars k) (kind.Vary l) (Chars t) h = omega arith
left_brought (kind.Vary k) (kind.Num s) (Chars t) h = tt
left_brought (kind.Vary k) (kind.Chars l) (Chars t) h = omega arith
left_brought (kind.Vary k) (kind.Vary l) (Chars t) h = omega arith

right_brought : (x y : Kind) (v : Value) → IsOfKind y v → IfKnown (IsBrought v) (common_kind x y)
right_brought x y Null h = null_brought (common_kind x y)
right_brought (kind.Num s) (kind.Num t) (Num n) h = number_of_scale (max s t) (at_scale (max s t) n)
right_brought (kind.Chars k) (kind.Num t) (Num n) h = tt
right_brought (kind.Vary k) (kind.Num t) (Num n) h = tt
right_brought x (kind.Chars k) (Num n) h = absurd h
right_brought x (kind.Vary k) (Num n) h = absurd h
right_brought x (kind.Num s) (Chars t) h = absurd h
right_brought (kind.Num s) (kind.Chars l) (Chars t) h = tt
right_brought (kind.Chars k) (kind.Chars l) (Chars t) h = padded_length (max k l) l t h (omega arith)
right_brought (kind.Vary k) (kind.Chars l) (Chars t) h = omega arith
right_brought (kind.Num s) (kind.Vary l) (Chars t) h = tt
right_brought (kind.Chars k) (kind.Vary l) (Chars t) h = omega arith
right_brought (kind.Vary k) (kind.Vary l) (Chars t) h = omega arith

-- ---- rows

abbrev IsBroughtRow : Row → List Kind → Type 0
IsBroughtRow row kinds = Answers (IsRowOf kinds) (row_brought_to kinds row)

one_more : (v : Value) (row : Row) (o : Outcome Kind) (p : Outcome (List Kind)) → IfKnown (IsBrought v) o → IfKnown (IsBroughtRow row) p → IfKnown (IsBroughtRow (v ∷ row)) (and_then o (λ first. and_then p (λ rest. Ok (first ∷ rest))))
one_more v row (Err status) p h g = tt
one_more v row (Ok c) (Err status) h g = tt
one_more v row (Ok c) (Ok kinds) h g =
    then_answers (IsOfKind c) (IsRowOf (c ∷ kinds)) (brought_to c v) (λ w. and_then (row_brought_to kinds row) (λ ws. Ok (w ∷ ws))) h
    (λ w q. then_answers (IsRowOf kinds) (IsRowOf (c ∷ kinds)) (row_brought_to kinds row) (λ ws. Ok (w ∷ ws)) g (λ ws qs. (q, qs)))

left_row : (ks ls : List Kind) (row : Row) → IsRowOf ks row → IfKnown (IsBroughtRow row) (common_kinds ks ls)
left_row [] [] [] h = tt
left_row [] (l ∷ ls) row h = tt
left_row (c ∷ ks) [] row h = tt
left_row (c ∷ ks) (l ∷ ls) (v ∷ row) h = one_more v row (common_kind c l) (common_kinds ks ls) (left_brought c l v h.0) (left_row ks ls row h.1)
left_row [] [] (v ∷ row) h = absurd h
left_row (c ∷ ks) (l ∷ ls) [] h = absurd h

right_row : (ks ls : List Kind) (row : Row) → IsRowOf ls row → IfKnown (IsBroughtRow row) (common_kinds ks ls)
right_row [] [] [] h = tt
right_row [] (l ∷ ls) row h = tt
right_row (c ∷ ks) [] row h = tt
right_row (c ∷ ks) (l ∷ ls) (v ∷ row) h = one_more v row (common_kind c l) (common_kinds ks ls) (right_brought c l v h.0) (right_row ks ls row h.1)
right_row [] [] (v ∷ row) h = absurd h
right_row (c ∷ ks) (l ∷ ls) [] h = absurd h

all_known : {X A : Type 0} (P : X → A → Type 0) (o : Outcome A) (a : A) → o ≡ Ok a → (xs : List X) → AllByRecursion (λ x. IfKnown (P x) o) xs → AllByRecursion (λ x. P x a) xs
all_known P o a e xs h = all_weaker (λ x. IfKnown (P x) o) (λ x. P x a) (λ x p. subst (IfKnown (P x)) e p) xs h

-- ---- both sides of UNION

abbrev after_kinds : Bool → List Row → List Kind → Outcome (List Row)
after_kinds all found kinds = and_then (each (row_brought_to kinds) found) (λ joined. Ok (if all then joined else firsts same_row joined))

abbrev AreRowsOfKnown : Outcome (List Kind) → List Row → Type 0
AreRowsOfKnown o rs = Has (λ kinds. AreRowsOf kinds rs) o

firsts_unless : (all : Bool) (kinds : List Kind) (found : List Row) → AreRowsOf kinds found → AreRowsOf kinds (if all then found else firsts same_row found)
firsts_unless true kinds found h = h
firsts_unless false kinds found h = all_firsts (IsRowOf kinds) same_row found h

kinds_fit : (all : Bool) (found : List Row) (o : Outcome (List Kind)) → HasValue o → AllByRecursion (λ row. IfKnown (IsBroughtRow row) o) found → Answers (AreRowsOfKnown o) (and_then o (after_kinds all found))
kinds_fit all found (Err status) v h = absurd v
kinds_fit all found (Ok kinds) v h =
    then_answers (AreRowsOf kinds) (AreRowsOf kinds) (each (row_brought_to kinds) found) (λ joined. Ok (if all then joined else firsts same_row joined))
    (each_answers (λ row. IsBroughtRow row kinds) (IsRowOf kinds) (row_brought_to kinds) (λ row p. p) found h) (firsts_unless all kinds)

both_fit : (all : Bool) (ls rs : List Row) (o p : Outcome (List Kind)) → AreRowsOfKnown o ls → AreRowsOfKnown p rs → HasValue (and_then o (λ ks. and_then p (common_kinds ks)))
    → Answers (AreRowsOfKnown (and_then o (λ ks. and_then p (common_kinds ks)))) (and_then (and_then o (λ ks. and_then p (common_kinds ks))) (after_kinds all (ls ++ rs)))
both_fit all ls rs (Err status) p h g v = absurd h
both_fit all ls rs (Ok ks) (Err status) h g v = absurd g
both_fit all ls rs (Ok ks) (Ok us) h g v =
    kinds_fit all (ls ++ rs) (common_kinds ks us) v
    (all_appended (λ row. IfKnown (IsBroughtRow row) (common_kinds ks us)) ls rs (all_weaker (IsRowOf ks) (λ row. IfKnown (IsBroughtRow row) (common_kinds ks us)) (left_row ks us) ls h)
    (all_weaker (IsRowOf us) (λ row. IfKnown (IsBroughtRow row) (common_kinds ks us)) (right_row ks us) rs g))

sorted_known : (o : Outcome (List Kind)) (order : List SortColumn) (rs : List Row) → AreRowsOfKnown o rs → AreRowsOfKnown o (sorted (by_columns order) rs)
sorted_known (Ok kinds) order rs h = all_sorted (IsRowOf kinds) (by_columns order) rs h
sorted_known (Err status) order rs h = absurd h

module _ {N : Naming} (m : Reading N) (k : Kinds N) (IsDeclared : N.Parameter → Type 0) (agrees : Agrees m k) where
  -- the rows of a well-formed query expression
  pub query_of_kinds : (q : Query N) (env : Env N.Item) → WellFormedQuery m k IsDeclared q → IsEnvOf m k IsDeclared [] env → Answers (λ found. Has (λ kinds. AreRowsOf kinds found) (query_kinds k q)) (query_rows m k q env)
  query_of_kinds (specification q) env w e = rows_of_kinds m k IsDeclared agrees q [] env w e
  query_of_kinds (union all left right) env w e =
      then_answers (AreRowsOfKnown (query_kinds k left)) (AreRowsOfKnown (query_kinds k (union all left right))) (query_rows m k left env) (λ ls. and_then (query_rows m k right env) (λ rs. and_then (query_kinds k (union all left right)) (after_kinds all (ls ++ rs))))
      (query_of_kinds left env w.0 e)
      (λ ls h. then_answers (AreRowsOfKnown (query_kinds k right)) (AreRowsOfKnown (query_kinds k (union all left right))) (query_rows m k right env) (λ rs. and_then (query_kinds k (union all left right)) (after_kinds all (ls ++ rs)))
      (query_of_kinds right env w.1 e) (λ rs g. both_fit all ls rs (query_kinds k left) (query_kinds k right) h g w.2))

  -- the rows of a query expression in the order of ORDER BY are of its kinds
  pub ordered_of_kinds : (q : Query N) (order : List SortColumn) (env : Env N.Item) → WellFormedQuery m k IsDeclared q → IsEnvOf m k IsDeclared [] env
      → Answers (λ found. Has (λ kinds. AreRowsOf kinds found) (query_kinds k q)) (ordered_rows m k q order env)
  ordered_of_kinds q order env w e =
      then_answers (AreRowsOfKnown (query_kinds k q)) (AreRowsOfKnown (query_kinds k q)) (query_rows m k q env) (λ found. Ok (sorted (by_columns order) found)) (query_of_kinds q env w e) (sorted_known (query_kinds k q) order)
