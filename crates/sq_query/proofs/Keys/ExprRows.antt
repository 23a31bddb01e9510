-- Expressions that find the rows of an item by a column: those to which a test compares it, those of a test in brackets, of tests joined by
-- AND, and of terms joined by OR.
use Rattle.std.proofs.Common.{◌≡◌, ◌∙◌, ◌+◌, ◌<◌, ℕ, Bool, false, List, [], ◌∷◌, ◌++◌, length, take, slice_index_or, Option, Some, None, Result, Vec, Global, Bor, map, refl, sym, ap, subst, Ok, Err}
use Rattle.std.specs.Prelude.{IfOk, IfSome}
use Rattle.std.proofs.lemmas.List.{map-append, take_more}
use Rattle.std.specs.List.{AllByRecursion, AllZip}
use Rattle.sq_bound.specs.declared.condition.BoundCond.{BoundCond, out-BoundCond}
use Rattle.sq_bound.specs.declared.condition.BoundConj.{BoundConj, out-BoundConj}
use Rattle.sq_bound.specs.declared.condition.BoundTest.{BoundTest}
use Rattle.sq_bound.specs.declared.condition.Predicate.TheVariants as bound
use Rattle.sq_bound.specs.declared.expression.BoundExpr.{BoundExpr}
use Rattle.sq_query.specs.Named.{IsBracketed, IsColumnOf, IsEqualTo, IsPassed, sure_within}
use Rattle.sq_query.specs.Sought.{IsSameOnLines}
use Rattle.sq_query.specs.Ways.{FindRows, IsFoundBy, IsFoundByTest, IsFoundByTests}
use Rattle.sq_query.specs.declared.named.Sure.{Sure}
use Rattle.sq_query.specs.declared.named.Sure.TheVariants.{Unnoted}
use Rattle.sq_query.proofs.FoundByKey.ItemValues.{same_among}
use Rattle.sq_query.proofs.Keys.NamedRows.{IsTermFalseBut, brackets_name, comparison_names, equal_names, list_names, term_more, terms_name, test_names}

-- what is zipped with two lists, one behind the other
record IsSplit {A B : Type 0} (R : A → B → Type 0) (xs ys : List A) (ws : List B) : Type 0 where
  left : List B
  right : List B
  is : ws ≡ left ++ right
  first : AllZip R xs left
  second : AllZip R ys right

split : {A B : Type 0} (R : A → B → Type 0) (xs ys : List A) (ws : List B) → AllZip R (xs ++ ys) ws → IsSplit R xs ys ws
split R [] ys ws h = record { left = []; right = ws; is = refl; first = tt; second = h }
split R (x ∷ xs) ys [] h = absurd h
split R (x ∷ xs) ys (w ∷ ws) h =
    let rest = split R xs ys ws h.1 in
    record { left = w ∷ rest.left; right = rest.right; is = ap (λ (l : List _). w ∷ l) rest.is; first = (h.0, rest.first); second = rest.second }

-- the same of a result of which more is known
pub some_more : {A : Type 0} (P Q : A → Type 0) → ((x : A) → P x → Q x) → (o : Option A) → IfSome o P → IfSome o Q
some_more P Q more None h = tt
some_more P Q more (Some x) h = more x h

pub ok_more : {A E : Type 0} (P Q : A → Type 0) → ((x : A) → P x → Q x) → (r : Result (Option A) E) → IfOk r (λ found. IfSome found P) → IfOk r (λ found. IfSome found Q)
ok_more P Q more (Err e) h = tt
ok_more P Q more (Ok found) h = some_more P Q more found h

-- the expressions that were lent
abbrev pub Exprs : Type 0
Exprs = Vec (Bor BoundExpr) Global

abbrev pub lent_exprs : List (Bor BoundExpr) → List BoundExpr
lent_exprs es = map (λ (e : Bor BoundExpr). e.now) es

pub lent_more : (es more next : List (Bor BoundExpr)) → next ≡ es ++ more → lent_exprs next ≡ lent_exprs es ++ lent_exprs more
lent_more es more next grown = ap lent_exprs grown ∙ map-append (λ (e : Bor BoundExpr). e.now) es more

pub one_lent : (so_far next : List (Bor BoundExpr)) (e : Bor BoundExpr) (es : List BoundExpr) (i : ℕ) (x : BoundExpr) → i < length es → x ≡ slice_index_or es i x → e.now ≡ x → next ≡ so_far ++ e ∷ [] → lent_exprs so_far ≡ take i es → lent_exprs next ≡ take (i + 1) es
one_lent so_far next e es i x within at is grown held =
    lent_more so_far (e ∷ []) next grown ∙ ap (λ (l : List BoundExpr). l ++ e.now ∷ []) held ∙ ap (λ (y : BoundExpr). take i es ++ y ∷ []) (is ∙ at) ∙ sym (take_more es i x within)

-- ---- a test

pub by_equality : (item n : ℕ) (e : BoundExpr) (test : BoundTest) → IsEqualTo item n e test → IsFoundByTest item Unnoted test n (e ∷ [])
by_equality item n e test is s values user [] at known = absurd known
by_equality item n e test is s values user (v ∷ []) at known =
    equal_names s values user e n test (v ∷ []) (subst (λ (i : ℕ). IsEqualTo i n e test) (sym at) is) (same_among s values user e v known.0 (v ∷ []) refl)
by_equality item n e test is s values user (v ∷ w ∷ vs) at known = absurd known.1

pub by_list : (item n : ℕ) (test : BoundTest) (written : Bool) (a : BoundExpr) (es : List BoundExpr) → test.negated ≡ false → written ≡ false → test.predicate ≡ bound.InList written a es → IsColumnOf item n a → IsFoundByTest item Unnoted test n es
by_list item n test written a es plain not is own s values user vs at known =
    list_names s values user test a es n vs plain (is ∙ ap (λ (b : Bool). bound.InList b a es) not) (subst (λ (i : ℕ). IsColumnOf i n a) (sym at) own) known

module _ (item : ℕ) (sure : Sure) (n : ℕ) where
  pub by_comparison : (test : BoundTest) (es : List BoundExpr) → IsFoundByTest item Unnoted test n es → IsFoundByTest item sure test n es
  by_comparison test es h s values user vs at known = comparison_names s values user sure test n vs (h s values user vs at known)

  pub by_brackets : (within : Sure) (own : BoundCond) (test : BoundTest) (es : List BoundExpr) → IsBracketed own test → within ≡ sure_within sure test → IsFoundBy item within own n es → IsFoundByTest item sure test n es
  by_brackets within own test es is are h s values user vs at known = brackets_name s values user sure within own test n vs is are (h s values user vs at known)

  -- ---- AND

  pub by_tests : (tests : List BoundTest) (i : ℕ) (test : BoundTest) (es : List BoundExpr) → i < length tests → test ≡ slice_index_or tests i test → AllByRecursion (IsPassed sure) (take i tests) → IsFoundByTest item sure test n es → IsFoundByTests item sure tests n es
  by_tests tests i test es within there passed h s values user vs at known = test_names s values user sure tests i test n vs within there passed (h s values user vs at known)

  -- ---- OR

  abbrev pub AreFoundBy : List BoundConj → List BoundExpr → Type 0
  AreFoundBy terms es = FindRows item (λ s values user m vs. AllByRecursion (IsTermFalseBut s values user sure m vs) terms) n es

  pub no_term : (es : List BoundExpr) → AreFoundBy [] es
  no_term es s values user vs at known = tt

  pub one_term : (terms : List BoundConj) (i : ℕ) (term : BoundConj) (tests : List BoundTest) (es more next : List BoundExpr) → i < length terms → term ≡ slice_index_or terms i term → tests ≡ (out-BoundConj term).tests → next ≡ es ++ more
      → IsFoundByTests item sure tests n more → AreFoundBy (take i terms) es → AreFoundBy (take (i + 1) terms) next
  one_term terms i term tests es more next within there are grown h so_far s values user vs at known =
      let both = split (IsSameOnLines s values user) es more vs (subst (λ (l : List BoundExpr). AllZip (IsSameOnLines s values user) l vs) grown known) in
      term_more s values user sure terms i term tests n both.left both.right vs within there are both.is (h s values user both.right at both.second) (so_far s values user both.left at both.first)

  pub by_terms : (own : BoundCond) (es : List BoundExpr) → AreFoundBy (out-BoundCond own).terms es → IsFoundBy item sure own n es
  by_terms own es h s values user vs at known = terms_name s values user sure own n vs (h s values user vs at known)
