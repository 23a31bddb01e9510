-- A column of the outermost query is found in a query exactly if the rules find that one of its sites means one (ISO/IEC 9075:1992, 6.4
-- and 13.6 to 13.10; own rule).
use Rattle.std.proofs.Common.{◌≡◌, ℕ, suc, ◌+◌, ◌≤◌, ◌<◌, Bool, true, false, ◌||◌, List, [], ◌∷◌, length, max, Option, Some, None, Ok, Err, arith, refl, sym, ap, subst, ◌∙◌}
use Rattle.std.proofs.lemmas.Bool.Decides.{nat_tests}
use Rattle.std.specs.List.{AllZip, list_any}
use Rattle.std.specs.Option.{option_map}
use Rattle.std.specs.Prelude.{⊤, ◌==◌, nat_lt}
use Rattle.sq_value.proofs.Truths.{or_false}
use Rattle.sq_value.specs.declared.domain.Kind.{Kind}
use Rattle.sq_tree.specs.declared.expr.SetFunction.{SetFunction}
use Rattle.sq_tree.specs.declared.expr.SetFunction.TheVariants.{Avg, Count, Max, Min, Sum}
use Rattle.sq_tree.specs.declared.names.ColumnReference.{ColumnReference}
use Rattle.sq_meaning.specs.Spelled.{Named}
use Rattle.sq_meaning.specs.Status as status
use Rattle.sq_meaning.specs.Syntax.{Expr}
use Rattle.sq_meaning.specs.Binding.{Judged}
use Rattle.sq_meaning.specs.Site.{EnclosingQuery, Site, expr_sites, kind_here, summed_sites}
use Rattle.sq_meaning.specs.WellFormedStatement.{means_own_column}
use Rattle.sq_meaning.specs.declared.fault.BindingFault.TheVariants as fault
use Rattle.sq_binding.specs.Expression.{Bound, bound}
use Rattle.sq_binding.specs.From.{NamedTables}
use Rattle.sq_binding.specs.Outcome.{Outcome, and_then, or_fault}
use Rattle.sq_binding.specs.QueryFindings.{QueryFindings}
use Rattle.sq_binding.specs.Scope.{FoundColumn, ItemColumn, Scope, column_meant, column_numbered, fits, found_in, further_out, is_last, nearest}
use Rattle.sq_binding.proofs.Inductions.Cases.{Cases, it_holds}
use Rattle.sq_binding.proofs.FaultsFound.FoundKinds.{meant_there, standing}
use Rattle.sq_binding.proofs.FaultsFound.Known.{IsOver}
use Rattle.sq_binding.proofs.AtSites.Seen.{Sees, any_both}

-- ---- how far out a column is

last_is : (outer : List Scope) → is_last outer ≡ (1 == suc (length outer))
last_is [] = refl
last_is (scope ∷ outer) = let far : (1 == suc (suc (length outer))) ≡ false = grind (arith, nat_tests) in sym far

one_out : (d n : ℕ) → (suc d + 1 == suc n) ≡ (d + 1 == n)
one_out d n = grind (arith, nat_tests)

abbrev Reaches : ℕ → Outcome FoundColumn → Type 0
Reaches n (Ok found) = found.is_outermost ≡ (found.depth + 1 == n)
Reaches n (Err f) = ⊤

further_reaches : (n : ℕ) (o : Outcome FoundColumn) → Reaches n o → Reaches (suc n) (and_then o (λ found. Ok (further_out found)))
further_reaches n (Ok found) h = h ∙ sym (one_out found.depth n)
further_reaches n (Err f) h = tt

here_reaches : (scope : Scope) (outer : List Scope) (at : ℕ × ℕ) (c : Option ItemColumn) → Reaches (suc (length outer)) (or_fault fault.UnknownColumn (option_map (found_in scope (is_last outer) at) c))
here_reaches scope outer at (Some c) = last_is outer
here_reaches scope outer at None = tt

nearest_reaches : (scope : Scope) (outer : List Scope) (ats : List (ℕ × ℕ)) (o : Outcome FoundColumn) → Reaches (length outer) o → Reaches (suc (length outer)) (nearest scope (is_last outer) ats o)
nearest_reaches scope outer [] o h = further_reaches (length outer) o h
nearest_reaches scope outer (at ∷ []) o h = here_reaches scope outer at (column_numbered scope at)
nearest_reaches scope outer (at ∷ next ∷ others) o h = tt

meant_reaches : (c : ColumnReference) (scopes : List Scope) → Reaches (length scopes) (column_meant c scopes)
meant_reaches c [] = tt
meant_reaches c (scope ∷ outer) = nearest_reaches scope outer (fits c scope) (column_meant c outer) (meant_reaches c outer)

same_depth : {A B : Type 0} (R : A → B → Type 0) (xs : List A) (ys : List B) → AllZip R xs ys → length xs ≡ length ys
same_depth R [] [] h = refl
same_depth R [] (y ∷ ys) h = absurd h
same_depth R (x ∷ xs) [] h = absurd h
same_depth R (x ∷ xs) (y ∷ ys) h = ap suc (same_depth R xs ys h.1)

module _ (j : Judged) (scopes : List Scope) (queries : List EnclosingQuery) (over : AllZip (IsOver j.known) scopes queries) where
  abbrev own : Site → Bool
  own = means_own_column j.known

  -- a column is one of the outermost query where the rules say that it is
  pub column_own : (c : ColumnReference) (found : FoundColumn) → column_meant c scopes ≡ Ok found → (allowed inside : Bool) → found.is_outermost ≡ own (Site.column_read (standing queries allowed inside) c)
  column_own c found is allowed inside =
      let m = meant_there j scopes queries over c found is in
      subst (Reaches (length scopes)) is (meant_reaches c scopes) ∙ ap (λ n. found.depth + 1 == n) (same_depth (IsOver j.known) scopes queries over)
      ∙ sym (or_false (found.depth + 1 == length queries)) ∙ ap (list_any (λ p. p.depth + 1 == length queries)) (sym m.fits)

  -- ---- value expressions

  -- What is found of an expression: it is asked of one of its sites, and it reaches as far.
  record IsOwn (allowed : Bool) (e : Expr Named) (x : Bound) : Type 0 where
    same : (inside : Bool) → (allowed ≡ true → 1 < length queries) → x.findings.reads_outermost ≡ list_any own (expr_sites j.known (standing queries allowed inside) e)
    far : x.findings.reads_outermost ≡ true → length queries ≤ suc x.findings.reach

  far_column : (found : FoundColumn) → found.is_outermost ≡ (found.depth + 1 == length queries) → found.is_outermost ≡ true → length queries ≤ suc found.depth
  far_column found e t = let there : (found.depth + 1 == length queries) ≡ true = sym e ∙ t in grind (arith, nat_tests, there)

  far_both : (a b : Bool) (m n : ℕ) → (a ≡ true → length queries ≤ suc m) → (b ≡ true → length queries ≤ suc n) → (a || b) ≡ true → length queries ≤ suc (max m n)
  far_both true b m n h g t = let one = h refl in omega (arith, one)
  far_both false b m n h g t = let one = g t in omega (arith, one)

  near : (r : Bool) (n : ℕ) → (r ≡ true → length queries ≤ suc n) → nat_lt 0 n ≡ false → 1 < length queries → r ≡ false
  near true n h none wide = let far = h refl in absurd (never n far none)
    where
      never : (n : ℕ) → length queries ≤ suc n → nat_lt 0 n ≡ false → ⊥
      never n far none = grind (arith, nat_tests, far, none, wide)
  near false n h none wide = refl

  summed_own : (f : SetFunction) (k : status.Outcome Kind) → list_any own (summed_sites f k) ≡ false
  summed_own Count k = refl
  summed_own Sum k = refl
  summed_own Avg k = refl
  summed_own Min k = refl
  summed_own Max k = refl

  own_cases : Cases scopes j.known.parameters (λ allowed n e x. IsOwn allowed e x)
  own_cases = record {
    of_literal = λ allowed n v k is. record { same = λ inside wide. refl; far = λ t. cc };
    of_parameter = λ allowed n p at i is so. record { same = λ inside wide. refl; far = λ t. cc };
    of_user = λ allowed n. record { same = λ inside wide. refl; far = λ t. cc };
    of_column = λ allowed n c found is. record {
      same = λ inside wide. column_own c found is allowed inside ∙ sym (or_false (own (Site.column_read (standing queries allowed inside) c)));
      far = far_column found (subst (Reaches (length scopes)) is (meant_reaches c scopes) ∙ ap (λ n. found.depth + 1 == n) (same_depth (IsOver j.known) scopes queries over));
    };
    of_count = λ n. record { same = λ inside wide. refl; far = λ t. cc };
    of_function = λ n f distinct e x k h none is. record {
      same = λ inside wide.
          sym (any_both own (Site.function_called (standing queries true inside) (Some e) ∷ summed_sites f (kind_here j.known (standing queries true inside) e)) (expr_sites j.known (standing queries false true) e)
          ∙ (λ i. summed_own f (kind_here j.known (standing queries true inside) e) i || sym (h.same true (λ t. cc)) i) ∙ near x.findings.reads_outermost x.findings.reach h.far none (wide refl));
      far = λ t. cc;
    };
    of_signed = λ allowed n sign e x h number. record { same = h.same; far = h.far };
    of_added = λ allowed n sign a b x y k h g is. record {
      same = λ inside wide.
          (λ i. h.same inside wide i || g.same inside wide i)
          ∙ sym (any_both own (Site.number_wanted (kind_here j.known (standing queries allowed inside) a) ∷ Site.number_wanted (kind_here j.known (standing queries allowed inside) b) ∷ expr_sites j.known (standing queries allowed inside) a)
          (expr_sites j.known (standing queries allowed inside) b));
      far = far_both x.findings.reads_outermost y.findings.reads_outermost x.findings.reach y.findings.reach h.far g.far;
    };
    of_scaled = λ allowed n sign a b x y k h g is. record {
      same = λ inside wide.
          (λ i. h.same inside wide i || g.same inside wide i)
          ∙ sym (any_both own (Site.number_wanted (kind_here j.known (standing queries allowed inside) a) ∷ Site.number_wanted (kind_here j.known (standing queries allowed inside) b)
          ∷ Site.product_scale sign (kind_here j.known (standing queries allowed inside) a) (kind_here j.known (standing queries allowed inside) b) ∷ expr_sites j.known (standing queries allowed inside) a)
          (expr_sites j.known (standing queries allowed inside) b));
      far = far_both x.findings.reads_outermost y.findings.reads_outermost x.findings.reach y.findings.reach h.far g.far;
    };
    of_bracketed = λ allowed n e x h. record { same = h.same; far = h.far };
  }

  pub expr_own : (allowed : Bool) → (allowed ≡ true → 1 < length queries) → (e : Expr Named) (n : ℕ) (x : Bound) → bound scopes j.known.parameters allowed false e n ≡ Ok x
      → x.findings.reads_outermost ≡ list_any own (expr_sites j.known (standing queries allowed false) e)
  expr_own allowed wide e n x is = (it_holds scopes j.known.parameters (λ allowed n e x. IsOwn allowed e x) own_cases allowed false e n x is).same false wide

-- ---- queries

-- a table is around, and a query within it where set functions may stand
abbrev pub Within : List EnclosingQuery → Bool → Type 0
Within queries allowed = (0 < length queries) × (allowed ≡ true → 1 < length queries)

abbrev pub reading : QueryFindings → Bool
reading f = f.values.reads_outermost

further : (queries : List EnclosingQuery) (allowed : Bool) (query : EnclosingQuery) (inner : Bool) → Within queries allowed → Within (query ∷ queries) inner
further queries allowed query inner w = let some = w.0 in (omega (arith, some), λ t. omega (arith, some))

pub outermost_seen : (names : NamedTables) (j : Judged) → Sees names j (means_own_column j.known) reading Within
outermost_seen names j = record {
  both_seen = λ a b. refl;
  nothing_seen = refl;
  status_seen = refl;
  subquery_seen = λ f. refl;
  noted_seen = λ f can_fail. refl;
  table_seen = λ r t there. refl;
  column_seen = λ scopes queries over good c found is. column_own j scopes queries over c found is false false;
  value_seen = λ scopes queries over allowed good e n x is. expr_own j scopes queries over allowed good.1 e n x is;
  lines_good = λ queries allowed query good. further queries allowed query false good;
  groups_good = λ queries allowed query good. further queries allowed query true good;
  subquery_silent = refl;
  whole_silent = λ from. refl;
  width_silent = λ n. refl;
  star_silent = refl;
  alike_silent = λ k l. refl;
  text_silent = λ k. refl;
  counts_silent = λ m n. refl;
}
