-- Value expressions are bound alike over scopes that differ only in the positions of columns. One has a fault if the other has it, and
-- the findings are the same in both (ISO/IEC 9075:1992, 6.2 to 6.5 and 6.11 to 6.13).
use Rattle.std.proofs.Common.{◌≡◌, ℕ, suc, ◌+◌, Bool, true, false, ◌||◌, not, List, [], ◌∷◌, length, map, Option, Some, None, Ok, Err, refl, sym, ap, subst, ◌∙◌}
use Rattle.std.proofs.lemmas.List.{length-append}
use Rattle.std.specs.List.{AllZip}
use Rattle.std.specs.Option.{option_map}
use Rattle.std.specs.Prelude.{⊤, if◌then◌else◌, nat_lt, ◌&&◌}
use Rattle.sq_value.specs.declared.domain.Kind.{Kind}
use Rattle.sq_value.specs.declared.domain.Kind.TheVariants.{Chars}
use Rattle.sq_tree.specs.declared.expr.SetFunction.{SetFunction}
use Rattle.sq_tree.specs.declared.expr.Sign.{Sign}
use Rattle.sq_tree.specs.declared.names.ColumnReference.{ColumnReference}
use Rattle.sq_meaning.specs.Environment.{Place, fitting}
use Rattle.sq_meaning.specs.Spelled.{Named}
use Rattle.sq_meaning.specs.Sure.{is_extreme}
use Rattle.sq_meaning.specs.Syntax.{Expr, literal, parameter, user, column, count_rows, set_function, signed, added, scaled, bracketed}
use Rattle.sq_meaning.specs.Tables.{Declared}
use Rattle.sq_meaning.specs.WellFormed.{is_text}
use Rattle.sq_bound.specs.declared.expression.Operator.{Operator}
use Rattle.sq_meaning.specs.declared.fault.BindingFault.{BindingFault}
use Rattle.sq_meaning.specs.declared.fault.BindingFault.TheVariants as fault
use Rattle.sq_binding.specs.Expression.{Bound, bound, column_allowed, column_bound, count_bound, function_call, function_over, kind_of_call, kind_operated, literal_bound, operands, operated_as, parameter_bound, place_findings, plain, product_operator, signed_as, signed_by, sum_operator, user_findings}
use Rattle.sq_binding.specs.Findings.{both, failing}
use Rattle.sq_binding.specs.Numbered.{Numbered}
use Rattle.sq_binding.specs.Outcome.{Outcome, and_then, or_fault}
use Rattle.sq_binding.specs.Scope.{FoundColumn, ItemColumn, Scope, column_meant, column_numbered, fits, found_in, further_out, is_grouped, is_last, item_named, nearest}

-- ---- outcomes

-- both are there, and R holds of them, or both have one fault
abbrev pub Both : {A B : Type 0} → (A → B → Type 0) → Outcome A → Outcome B → Type 0
Both R (Ok x) (Ok y) = R x y
Both R (Err f) (Err g) = f ≡ g
Both R _ _ = ⊥

pub both_then : {A B C D : Type 0} (R : A → B → Type 0) (S : C → D → Type 0) (o : Outcome A) (p : Outcome B) (f : A → Outcome C) (g : B → Outcome D) → Both R o p → ((x : A) (y : B) → R x y → Both S (f x) (g y)) → Both S (and_then o f) (and_then p g)
both_then R S (Ok x) (Ok y) f g h k = k x y h
both_then R S (Err e) (Err d) f g h k = h
both_then R S (Ok x) (Err d) f g h k = absurd h
both_then R S (Err e) (Ok y) f g h k = absurd h

pub both_same : {A : Type 0} (R : A → A → Type 0) → ((x : A) → R x x) → (o : Outcome A) → Both R o o
both_same R same (Ok x) = same x
both_same R same (Err f) = refl

pub both_if : {A B : Type 0} (R : A → B → Type 0) (t : Bool) (f : BindingFault) (o : Outcome A) (p : Outcome B) → Both R o p → Both R (if t then Err f else o) (if t then Err f else p)
both_if R true f o p h = refl
both_if R false f o p h = h

-- ---- columns

-- two columns of one item that differ in their positions alone
abbrev pub LikeColumns : (g h : Option (List Place)) → (item : ℕ) → Option ItemColumn → Option ItemColumn → Type 0
LikeColumns g h item (Some c) (Some d) = (c.kind ≡ d.kind) × (is_grouped g item c.position ≡ is_grouped h item d.position)
LikeColumns g h item None None = ⊤
LikeColumns g h item _ _ = ⊥

-- Scopes in which all means the same but for positions.
pub record Like (s t : Scope) : Type 0 where
  pub named : map item_named s.items ≡ map item_named t.items
  pub columns : (at : ℕ × ℕ) → LikeColumns s.grouping t.grouping at.0 (column_numbered s at) (column_numbered t at)

pub record LikeFound (f g : FoundColumn) : Type 0 where
  pub depth : f.depth ≡ g.depth
  pub item : f.item ≡ g.item
  pub kind : f.column.kind ≡ g.column.kind
  pub grouped : f.is_grouped ≡ g.is_grouped
  pub outermost : f.is_outermost ≡ g.is_outermost

found_alike : (s t : Scope) (outermost : Bool) (at : ℕ × ℕ) (c d : Option ItemColumn) → LikeColumns s.grouping t.grouping at.0 c d
    → Both LikeFound (or_fault fault.UnknownColumn (option_map (found_in s outermost at) c)) (or_fault fault.UnknownColumn (option_map (found_in t outermost at) d))
found_alike s t outermost at (Some c) (Some d) h = record { depth = refl; item = refl; kind = h.0; grouped = h.1; outermost = refl }
found_alike s t outermost at None None h = refl
found_alike s t outermost at (Some c) None h = absurd h
found_alike s t outermost at None (Some d) h = absurd h

nearest_alike : (s t : Scope) → Like s t → (outermost : Bool) (ats : List (ℕ × ℕ)) (o p : Outcome FoundColumn) → Both LikeFound o p → Both LikeFound (nearest s outermost ats o) (nearest t outermost ats p)
nearest_alike s t like outermost [] o p h =
    both_then LikeFound LikeFound o p (λ found. Ok (further_out found)) (λ found. Ok (further_out found)) h
    (λ x y l. record { depth = λ i. suc (l.depth i); item = l.item; kind = l.kind; grouped = l.grouped; outermost = l.outermost })
nearest_alike s t like outermost (at ∷ []) o p h = found_alike s t outermost at (column_numbered s at) (column_numbered t at) (like.columns at)
nearest_alike s t like outermost (at ∷ next ∷ others) o p h = refl

pub last_alike : (scopes others : List Scope) → AllZip Like scopes others → is_last scopes ≡ is_last others
last_alike [] [] h = refl
last_alike [] (t ∷ others) h = absurd h
last_alike (s ∷ scopes) [] h = absurd h
last_alike (s ∷ scopes) (t ∷ others) h = refl

pub meant_alike : (r : ColumnReference) (scopes others : List Scope) → AllZip Like scopes others → Both LikeFound (column_meant r scopes) (column_meant r others)
meant_alike r [] [] h = refl
meant_alike r [] (t ∷ others) h = absurd h
meant_alike r (s ∷ scopes) [] h = absurd h
meant_alike r (s ∷ scopes) (t ∷ others) h =
    subst (λ ats. Both LikeFound (column_meant r (s ∷ scopes)) (nearest t (is_last others) ats (column_meant r others))) (ap (fitting r) h.0.named)
    (subst (λ last. Both LikeFound (column_meant r (s ∷ scopes)) (nearest t last (fits r s) (column_meant r others))) (last_alike scopes others h.1)
    (nearest_alike s t h.0 (is_last scopes) (fits r s) (column_meant r scopes) (column_meant r others) (meant_alike r scopes others h.1)))

-- ---- value expressions

-- Two that are bound and differ in positions alone.
pub record LikeBound (x y : Bound) : Type 0 where
  pub kind : x.kind ≡ y.kind
  pub count : length x.calls ≡ length y.calls
  pub can_fail : x.calls_can_fail ≡ y.calls_can_fail
  pub findings : x.findings ≡ y.findings

bound_same : (x : Bound) → LikeBound x x
bound_same x = record { kind = refl; count = refl; can_fail = refl; findings = refl }

column_alike : (inside : Bool) (f g : FoundColumn) → LikeFound f g → Both LikeBound (column_allowed inside f) (column_allowed inside g)
column_alike inside f g l =
    subst (λ t. Both LikeBound (column_allowed inside f) (if t then Err fault.UngroupedColumn else Ok (column_bound g))) (λ i. nat_lt 0 (l.depth i) && not (l.grouped i) && not inside)
    (both_if LikeBound (nat_lt 0 f.depth && not f.is_grouped && not inside) fault.UngroupedColumn (Ok (column_bound f)) (Ok (column_bound g)) (record {
      kind = l.kind;
      count = refl;
      can_fail = refl;
      findings = λ i. place_findings (l.depth i) (l.item i) (l.grouped i) (l.outermost i);
    }))

abbrev Same : {A : Type 0} → A → A → Type 0
Same x y = x ≡ y

-- what looks at the kind of an operand, and makes the same of it
made_alike : (k l : Outcome Kind) → k ≡ l → (x y : Kind → Bound) → ((k : Kind) → LikeBound (x k) (y k)) → Both LikeBound (and_then k (λ k. Ok (x k))) (and_then l (λ k. Ok (y k)))
made_alike k l e x y h = subst (λ l. Both LikeBound (and_then k (λ k. Ok (x k))) (and_then l (λ k. Ok (y k)))) e (both_then Same LikeBound k k (λ k. Ok (x k)) (λ k. Ok (y k)) (both_same Same (λ k. refl) k) (λ k l same. subst (λ l. LikeBound (x k) (y l)) same (h k)))

function_alike : (allowed : Bool) (n : ℕ) (function : SetFunction) (distinct : Bool) (x y : Bound) → LikeBound x y → Both LikeBound (function_over allowed n function distinct x) (function_over allowed n function distinct y)
function_alike allowed n function distinct x y l =
    subst (λ t. Both LikeBound (function_over allowed n function distinct x) (if t then Err fault.MisplacedSetFunction else and_then (kind_of_call function y.kind) (λ k. Ok (function_call n function distinct y k)))) (λ i. not allowed || nat_lt 0 (l.findings i).reach)
    (both_if LikeBound (not allowed || nat_lt 0 x.findings.reach) fault.MisplacedSetFunction (and_then (kind_of_call function x.kind) (λ k. Ok (function_call n function distinct x k))) (and_then (kind_of_call function y.kind) (λ k. Ok (function_call n function distinct y k)))
    (made_alike (kind_of_call function x.kind) (kind_of_call function y.kind) (ap (kind_of_call function) l.kind) (function_call n function distinct x) (function_call n function distinct y)
    (λ k. record { kind = refl; count = refl; can_fail = λ i. (l.findings i).can_fail || not (is_extreme function); findings = refl })))

signed_alike : (sign : Sign) (x y : Bound) → LikeBound x y → Both LikeBound (signed_as sign x) (signed_as sign y)
signed_alike sign x y l =
    subst (λ t. Both LikeBound (signed_as sign x) (if t then Err fault.KindMismatch else Ok (signed_by sign y))) (ap is_text l.kind)
    (both_if LikeBound (is_text x.kind) fault.KindMismatch (Ok (signed_by sign x)) (Ok (signed_by sign y)) (record { kind = l.kind; count = l.count; can_fail = l.can_fail; findings = l.findings }))

operated_alike : (op : Operator) (x y z w : Bound) → LikeBound x z → LikeBound y w → Both LikeBound (operated_as op x y) (operated_as op z w)
operated_alike op x y z w l m =
    made_alike (kind_operated op x.kind y.kind) (kind_operated op z.kind w.kind) (λ i. kind_operated op (l.kind i) (m.kind i)) (operands op x y) (operands op z w)
    (λ k. record {
      kind = refl;
      count = length-append x.calls y.calls ∙ (λ i. l.count i + m.count i) ∙ sym (length-append z.calls w.calls);
      can_fail = λ i. l.can_fail i || m.can_fail i;
      findings = λ i. failing (both (l.findings i) (m.findings i));
    })

module _ (scopes others : List Scope) (like : AllZip Like scopes others) (parameters : List Declared) where
  two_alike : (op : Operator) (a b : Expr Named) (allowed inside : Bool) (n : ℕ) → Both LikeBound (bound scopes parameters allowed inside a n) (bound others parameters allowed inside a n)
      → ((m : ℕ) → Both LikeBound (bound scopes parameters allowed inside b m) (bound others parameters allowed inside b m))
      → Both LikeBound (and_then (bound scopes parameters allowed inside a n) (λ x. and_then (bound scopes parameters allowed inside b (n + length x.calls)) (operated_as op x)))
      (and_then (bound others parameters allowed inside a n) (λ x. and_then (bound others parameters allowed inside b (n + length x.calls)) (operated_as op x)))
  two_alike op a b allowed inside n h g =
      both_then LikeBound LikeBound (bound scopes parameters allowed inside a n) (bound others parameters allowed inside a n)
      (λ x. and_then (bound scopes parameters allowed inside b (n + length x.calls)) (operated_as op x)) (λ x. and_then (bound others parameters allowed inside b (n + length x.calls)) (operated_as op x)) h
      (λ x z l. both_then LikeBound LikeBound (bound scopes parameters allowed inside b (n + length x.calls)) (bound others parameters allowed inside b (n + length z.calls)) (operated_as op x) (operated_as op z)
      (subst (λ m. Both LikeBound (bound scopes parameters allowed inside b (n + length x.calls)) (bound others parameters allowed inside b (n + m))) l.count (g (n + length x.calls)))
      (λ y w m. operated_alike op x y z w l m))

  pub expr_alike : (e : Expr Named) (allowed inside : Bool) (n : ℕ) → Both LikeBound (bound scopes parameters allowed inside e n) (bound others parameters allowed inside e n)
  expr_alike (literal v) allowed inside n = both_same LikeBound bound_same (literal_bound v)
  expr_alike (parameter p) allowed inside n = both_same LikeBound bound_same (parameter_bound parameters p)
  expr_alike user allowed inside n = bound_same (plain Numbered.user (Chars 18) user_findings)
  expr_alike (column c) allowed inside n =
      both_then LikeFound LikeBound (column_meant c scopes) (column_meant c others) (column_allowed inside) (column_allowed inside) (meant_alike c scopes others like) (column_alike inside)
  expr_alike count_rows allowed inside n = both_same LikeBound bound_same (count_bound allowed n)
  expr_alike (set_function function distinct e) allowed inside n =
      both_then LikeBound LikeBound (bound scopes parameters false true e 0) (bound others parameters false true e 0) (function_over allowed n function distinct) (function_over allowed n function distinct) (expr_alike e false true 0)
      (function_alike allowed n function distinct)
  expr_alike (signed sign e) allowed inside n =
      both_then LikeBound LikeBound (bound scopes parameters allowed inside e n) (bound others parameters allowed inside e n) (signed_as sign) (signed_as sign) (expr_alike e allowed inside n) (signed_alike sign)
  expr_alike (added sign a b) allowed inside n = two_alike (sum_operator sign) a b allowed inside n (expr_alike a allowed inside n) (expr_alike b allowed inside)
  expr_alike (scaled sign a b) allowed inside n = two_alike (product_operator sign) a b allowed inside n (expr_alike a allowed inside n) (expr_alike b allowed inside)
  expr_alike (bracketed e) allowed inside n = expr_alike e allowed inside n
