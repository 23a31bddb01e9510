-- A missing privilege is found in a query exactly if the rules find one missing at its sites (ISO/IEC 9075:1992, 4.26).
use Rattle.std.proofs.Common.{◌≡◌, Bool, false, not, ◌||◌, List, [], ◌∷◌, ◌++◌, length, map, Option, Some, Ok, Err, refl, sym, ap, ◌∙◌}
use Rattle.std.specs.List.{list_any, zip}
use Rattle.std.specs.Result.{result_ok}
use Rattle.std.specs.Prelude.{⊤, ◌==◌}
use Rattle.sq_value.proofs.Truths.{or_false}
use Rattle.sq_lex.specs.declared.name.Name.{Name}
use Rattle.sq_value.specs.declared.domain.Kind.{Kind}
use Rattle.sq_tree.specs.declared.expr.SetFunction.{SetFunction}
use Rattle.sq_tree.specs.declared.expr.SetFunction.TheVariants.{Avg, Count, Max, Min, Sum}
use Rattle.sq_tree.specs.declared.«module».SortSpecification.{SortSpecification}
use Rattle.sq_meaning.specs.Environment.{TableName}
use Rattle.sq_meaning.specs.Kind.{common_kind}
use Rattle.sq_meaning.specs.SortKeys.{common_name}
use Rattle.sq_meaning.specs.Spelled.{Named}
use Rattle.sq_meaning.specs.Status as status
use Rattle.sq_meaning.specs.Syntax.{Expr, Query, Select, added, bracketed, column, count_rows, literal, parameter, scaled, set_function, signed, specification, union, user}
use Rattle.sq_meaning.specs.Binding.{Judged, breaks}
use Rattle.sq_meaning.specs.Privilege.{Privilege}
use Rattle.sq_meaning.specs.Site.{Around, EnclosingQuery, Site, alike_pairs, expr_sites, operand_of, outside, query_count, query_kinds_of, query_sites, select_sites, summed_sites, kind_here}
use Rattle.sq_meaning.specs.WellFormedStatement.{sort_sites}
use Rattle.sq_meaning.specs.declared.fault.BindingFault.TheVariants as fault
use Rattle.sq_binding.specs.Condition.{select_bound}
use Rattle.sq_binding.specs.Found.{Binding, ◌>>=◌, each, must, outcome, pure}
use Rattle.sq_binding.specs.From.{NamedTable, NamedTables}
use Rattle.sq_binding.specs.NumberedCondition.{ResultColumn}
use Rattle.sq_binding.specs.Outcome.{or_fault}
use Rattle.sq_binding.specs.QueryExpression.{NumberedQuery, columns_of_query, common_column, common_columns, query_bound}
use Rattle.sq_binding.specs.QueryFindings.{QueryFindings}
use Rattle.sq_binding.proofs.Faultless.CleanQuery.{anything_known}
use Rattle.sq_binding.proofs.FaultsFound.FromFaults.{NamesFit}
use Rattle.sq_binding.proofs.FaultsFound.PredicateFaults.{surrounded}
use Rattle.sq_binding.proofs.AtSites.Seen.{SeenIf, Sees, any_both, last_seen, must_seen, outcome_seen, pure_seen, then_seen}
use Rattle.sq_binding.proofs.AtSites.SeenConds.{select_seen}

-- each table may be read where the rules say that SELECT is held on it
abbrev pub ReadsFit : NamedTables → Judged → Type 0
ReadsFit names j = (t : TableName) (n : NamedTable) → names t ≡ Some n → n.may_select ≡ j.holds t Privilege.select

abbrev pub is_missing : Judged → Site → Bool
is_missing j = breaks j fault.PrivilegeMissing

abbrev pub lacking : QueryFindings → Bool
lacking f = f.lacks_privilege

abbrev pub Anywhere : List EnclosingQuery → Bool → Type 0
Anywhere queries allowed = ⊤

-- ---- value expressions need none

quiet_both : (j : Judged) (xs ys : List Site) → list_any (is_missing j) xs ≡ false → list_any (is_missing j) ys ≡ false → list_any (is_missing j) (xs ++ ys) ≡ false
quiet_both j xs ys h g = any_both (is_missing j) xs ys ∙ (λ i. h i || g i)

summed_quiet : (j : Judged) (f : SetFunction) (k : status.Outcome Kind) → list_any (is_missing j) (summed_sites f k) ≡ false
summed_quiet j Count k = refl
summed_quiet j Sum k = refl
summed_quiet j Avg k = refl
summed_quiet j Min k = refl
summed_quiet j Max k = refl

pub expr_quiet : (j : Judged) (e : Expr Named) (a : Around) → list_any (is_missing j) (expr_sites j.known a e) ≡ false
expr_quiet j (literal v) a = refl
expr_quiet j (parameter p) a = refl
expr_quiet j user a = refl
expr_quiet j (column c) a = refl
expr_quiet j count_rows a = refl
expr_quiet j (set_function f distinct e) a =
    quiet_both j (Site.function_called a (Some e) ∷ summed_sites f (kind_here j.known a e)) (expr_sites j.known (operand_of a) e) (summed_quiet j f (kind_here j.known a e)) (expr_quiet j e (operand_of a))
expr_quiet j (signed sign e) a = expr_quiet j e a
expr_quiet j (added sign e f) a = quiet_both j (Site.number_wanted (kind_here j.known a e) ∷ Site.number_wanted (kind_here j.known a f) ∷ expr_sites j.known a e) (expr_sites j.known a f) (expr_quiet j e a) (expr_quiet j f a)
expr_quiet j (scaled sign e f) a =
    quiet_both j (Site.number_wanted (kind_here j.known a e) ∷ Site.number_wanted (kind_here j.known a f) ∷ Site.product_scale sign (kind_here j.known a e) (kind_here j.known a f) ∷ expr_sites j.known a e) (expr_sites j.known a f)
    (expr_quiet j e a) (expr_quiet j f a)
expr_quiet j (bracketed e) a = expr_quiet j e a

pairs_quiet : (j : Judged) (ps : List (Kind × Kind)) → list_any (is_missing j) (map (λ p. Site.alike_wanted (Ok p.0) (Ok p.1)) ps) ≡ false
pairs_quiet j [] = refl
pairs_quiet j (p ∷ ps) = pairs_quiet j ps

union_quiet : (j : Judged) (ks ls : status.Outcome (List Kind)) → list_any (is_missing j) (alike_pairs ks ls) ≡ false
union_quiet j (Ok ks) (Ok ls) = pairs_quiet j (zip ks ls)
union_quiet j (Ok ks) (Err s) = refl
union_quiet j (Err s) ls = refl

sorts_quiet : (j : Judged) (names : List (Option Name)) (order : List SortSpecification) → list_any (is_missing j) (map (λ s. Site.sort_by names s.key) order) ≡ false
sorts_quiet j names [] = refl
sorts_quiet j names (s ∷ order) = sorts_quiet j names order

pub order_quiet : (j : Judged) (names : status.Outcome (List (Option Name))) (order : List SortSpecification) → list_any (is_missing j) (sort_sites names order) ≡ false
order_quiet j (Ok names) order = sorts_quiet j names order
order_quiet j (Err s) order = refl

-- ---- queries

module _ (names : NamedTables) (j : Judged) (fit : NamesFit names j) (reads : ReadsFit names j) where
  pub privileges_seen : Sees names j (is_missing j) lacking Anywhere
  privileges_seen = record {
    both_seen = λ a b. refl;
    nothing_seen = refl;
    status_seen = refl;
    subquery_seen = λ f. refl;
    noted_seen = λ f can_fail. refl;
    table_seen = λ r t there. ap not (reads r.table t there);
    column_seen = λ scopes queries over good c found is. refl;
    value_seen = λ scopes queries over allowed good e n x is. sym (expr_quiet j e _);
    lines_good = λ queries allowed query good. tt;
    groups_good = λ queries allowed query good. tt;
    subquery_silent = refl;
    whole_silent = λ from. refl;
    width_silent = λ n. refl;
    star_silent = refl;
    alike_silent = λ k l. refl;
    text_silent = λ k. refl;
    counts_silent = λ m n. refl;
  }

  abbrev pub LacksIf : {A : Type 0} → List Site → Binding A → Type 0
  LacksIf sites b = SeenIf names j (is_missing j) lacking Anywhere privileges_seen sites b

  pub select_lacks : (q : Select Named) → LacksIf (select_sites j.known outside q) (select_bound (surrounded names j [] false) q)
  select_lacks q = select_seen names j fit (is_missing j) lacking Anywhere privileges_seen q [] [] tt false tt

  common_lacks : (ps : List (ResultColumn × ResultColumn)) → LacksIf [] (each common_column ps)
  common_lacks [] = pure_seen names j (is_missing j) lacking Anywhere privileges_seen []
  common_lacks (p ∷ ps) =
      then_seen names j (is_missing j) lacking Anywhere privileges_seen [] [] [] (λ x. ⊤) (common_column p) (λ y. each common_column ps >>= λ ys. pure (y ∷ ys)) (anything_known (common_column p))
      (last_seen names j (is_missing j) lacking Anywhere privileges_seen [] (outcome (or_fault fault.KindMismatch (result_ok (common_kind p.0.kind p.1.kind)))) (λ k. record { name = common_name p.0.name p.1.name; kind = k })
      (outcome_seen names j (is_missing j) lacking Anywhere privileges_seen (or_fault fault.KindMismatch (result_ok (common_kind p.0.kind p.1.kind)))))
      (λ y u. last_seen names j (is_missing j) lacking Anywhere privileges_seen [] (each common_column ps) (λ ys. y ∷ ys) (common_lacks ps)) refl

  columns_lack : (left right : List ResultColumn) → LacksIf [] (common_columns left right)
  columns_lack left right =
      then_seen names j (is_missing j) lacking Anywhere privileges_seen [] [] [] (λ x. ⊤) (must (length left == length right) fault.CountMismatch) (λ _. each common_column (zip left right)) (anything_known (must (length left == length right) fault.CountMismatch))
      (must_seen names j (is_missing j) lacking Anywhere privileges_seen (length left == length right) fault.CountMismatch) (λ u v. common_lacks (zip left right)) refl

  pub query_lacks : (q : Query Named) → LacksIf (query_sites j.known q) (query_bound (surrounded names j [] false) q)
  query_lacks (specification q) =
      last_seen names j (is_missing j) lacking Anywhere privileges_seen (select_sites j.known outside q) (select_bound (surrounded names j [] false) q) (λ x. NumberedQuery.select x) (select_lacks q)
  query_lacks (union all left right) =
      then_seen names j (is_missing j) lacking Anywhere privileges_seen (query_sites j.known left) (query_sites j.known right) S (λ x. ⊤) (query_bound (surrounded names j [] false) left) after_left
      (anything_known (query_bound (surrounded names j [] false) left)) (query_lacks left)
      (λ x u. then_seen names j (is_missing j) lacking Anywhere privileges_seen (query_sites j.known right) [] (query_sites j.known right) (λ y. ⊤) (query_bound (surrounded names j [] false) right) (after_right x)
      (anything_known (query_bound (surrounded names j [] false) right)) (query_lacks right)
      (λ y v. last_seen names j (is_missing j) lacking Anywhere privileges_seen [] (common_columns (columns_of_query x) (columns_of_query y)) (λ columns. NumberedQuery.joined all x y columns) (columns_lack (columns_of_query x) (columns_of_query y)))
      (or_false (list_any (is_missing j) (query_sites j.known right))))
      (ap (λ b. b || list_any (is_missing j) (query_sites j.known right)) (ap (λ b. b || list_any (is_missing j) (query_sites j.known left)) (sym (union_quiet j (query_kinds_of j.known left) (query_kinds_of j.known right))) ∙ sym (any_both (is_missing j) asked (query_sites j.known left)))
      ∙ sym (any_both (is_missing j) (asked ++ query_sites j.known left) (query_sites j.known right)))
    where
      asked : List Site
      asked = Site.counts (query_count j.known.tables left) (query_count j.known.tables right) ∷ alike_pairs (query_kinds_of j.known left) (query_kinds_of j.known right)

      S : List Site
      S = (asked ++ query_sites j.known left) ++ query_sites j.known right

      after_right : NumberedQuery → NumberedQuery → Binding NumberedQuery
      after_right x y = common_columns (columns_of_query x) (columns_of_query y) >>= λ columns. pure (NumberedQuery.joined all x y columns)

      after_left : NumberedQuery → Binding NumberedQuery
      after_left x = query_bound (surrounded names j [] false) right >>= after_right x
