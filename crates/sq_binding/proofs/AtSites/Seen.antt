-- Findings in a query that are asked of its sites alike: they are made exactly if they are asked of one of them. So are missing
-- privileges, and columns of the outermost query (ISO/IEC 9075:1992, 4.26, 6.4, 7.3 to 7.9 and 7.11).
use Rattle.std.proofs.Common.{◌≡◌, ℕ, ◌+◌, Bool, true, false, not, ◌||◌, List, [], ◌∷◌, ◌++◌, length, Option, Some, None, Ok, Err, refl, sym, ap, ◌∙◌}
use Rattle.std.specs.List.{AllZip, flat_map, list_any}
use Rattle.std.specs.Prelude.{⊤, if◌then◌else◌, nat_eq, nat_lt}
use Rattle.sq_value.proofs.Truths.{or_false, or_assoc_left}
use Rattle.sq_value.specs.declared.domain.Kind.{Kind}
use Rattle.sq_tree.specs.declared.names.ColumnReference.{ColumnReference}
use Rattle.sq_meaning.specs.Environment.{TableReference}
use Rattle.sq_meaning.specs.Spelled.{Named}
use Rattle.sq_meaning.specs.Status as status
use Rattle.sq_meaning.specs.Syntax.{Expr, Select}
use Rattle.sq_meaning.specs.WellFormed.{is_comparable, is_text}
use Rattle.sq_meaning.specs.Binding.{Judged, has_item_twice}
use Rattle.sq_meaning.specs.Site.{Around, EnclosingQuery, Site, beside_subquery, compared_sites, escape_sites, expr_sites, first_kind, kind_here, kinds_here, select_count, select_sites, text_sites}
use Rattle.sq_meaning.specs.declared.fault.BindingFault.{BindingFault}
use Rattle.sq_meaning.specs.declared.fault.BindingFault.TheVariants as fault
use Rattle.sq_binding.specs.Condition.{agreeing, as_subquery, beside, escape_bound, must_agree, must_be_beside, scalar, subquery, text}
use Rattle.sq_binding.specs.Expression.{Bound, bound, column_findings}
use Rattle.sq_binding.specs.Found.{Binding, Counts, Found, ◌>>=◌, ◌>>◌, each, has_found, must, outcome, pure}
use Rattle.sq_binding.specs.From.{NamedTable, NamedTables, from_bound, item_bound, item_over, table_findings}
use Rattle.sq_binding.specs.NumberedCondition.{NumberedCond, NumberedSelect, ResultColumn, columns_of, with_number}
use Rattle.sq_binding.specs.Outcome.{Outcome, or_fault}
use Rattle.sq_binding.specs.QueryFindings.{QueryFindings, a_status, both, nothing, of_subquery, of_values}
use Rattle.sq_binding.specs.Scope.{FoundColumn, Scope, column_meant}
use Rattle.sq_binding.specs.Select.{Surroundings, Typed, value, value_found}
use Rattle.sq_binding.proofs.Faultless.Clean.{steps_of}
use Rattle.sq_binding.proofs.Faultless.CleanConds.{KnownIf, after_of}
use Rattle.sq_binding.proofs.Faultless.CleanQuery.{anything_known}
use Rattle.sq_binding.proofs.Faultless.CleanSelect.{at_most_ok, outcome_ok}
use Rattle.sq_binding.proofs.FaultsFound.FoundKinds.{standing}
use Rattle.sq_binding.proofs.FaultsFound.Known.{IsOver}
use Rattle.sq_binding.proofs.FaultsFound.PredicateFaults.{surrounded}
use Rattle.sq_binding.proofs.Exactly.Told.{okay}

-- What is seen of findings is what is asked of sites, where the queries around are Good.
pub record Sees (names : NamedTables) (j : Judged) (test : Site → Bool) (seen : QueryFindings → Bool) (Good : List EnclosingQuery → Bool → Type 0) : Type 0 where
  pub both_seen : (a b : QueryFindings) → seen (both a b) ≡ (seen a || seen b)
  pub nothing_seen : seen nothing ≡ false
  pub status_seen : seen a_status ≡ false
  pub subquery_seen : (f : QueryFindings) → seen (of_subquery f) ≡ seen f
  pub noted_seen : (f : QueryFindings) (can_fail : Bool) → seen (record f { values = record f.values { can_fail = can_fail } }) ≡ seen f
  pub table_seen : (r : TableReference) (t : NamedTable) → names r.table ≡ Some t → seen (table_findings t) ≡ test (Site.table_read r)
  pub column_seen : (scopes : List Scope) (queries : List EnclosingQuery) → AllZip (IsOver j.known) scopes queries → Good queries false → (c : ColumnReference) (found : FoundColumn) → column_meant c scopes ≡ Ok found
      → seen (of_values (column_findings found)) ≡ test (Site.column_read (standing queries false false) c)
  pub value_seen : (scopes : List Scope) (queries : List EnclosingQuery) → AllZip (IsOver j.known) scopes queries → (allowed : Bool) → Good queries allowed → (e : Expr Named) (n : ℕ) (x : Bound)
      → bound scopes j.known.parameters allowed false e n ≡ Ok x → seen (of_values x.findings) ≡ list_any test (expr_sites j.known (standing queries allowed false) e)
  pub lines_good : (queries : List EnclosingQuery) (allowed : Bool) (query : EnclosingQuery) → Good queries allowed → Good (query ∷ queries) false
  pub groups_good : (queries : List EnclosingQuery) (allowed : Bool) (query : EnclosingQuery) → Good queries allowed → Good (query ∷ queries) true
  pub subquery_silent : test Site.subquery_read ≡ false
  pub whole_silent : (from : List TableReference) → test (Site.from_whole from) ≡ false
  pub width_silent : (n : ℕ) → test (Site.column_count n) ≡ false
  pub star_silent : test Site.star_of_groups ≡ false
  pub alike_silent : (k l : status.Outcome Kind) → test (Site.alike_wanted k l) ≡ false
  pub text_silent : (k : status.Outcome Kind) → test (Site.text_wanted k) ≡ false
  pub counts_silent : (m n : ℕ) → test (Site.counts m n) ≡ false

pub any_both : (test : Site → Bool) (xs ys : List Site) → list_any test (xs ++ ys) ≡ (list_any test xs || list_any test ys)
any_both test [] ys = refl
any_both test (x ∷ xs) ys = ap (λ b. test x || b) (any_both test xs ys) ∙ or_assoc_left (test x) (list_any test xs) (list_any test ys)

module _ (names : NamedTables) (j : Judged) (test : Site → Bool) (seen : QueryFindings → Bool) (Good : List EnclosingQuery → Bool → Type 0) (sees : Sees names j test seen Good) where
  -- a property is found in what is bound exactly where it is asked of one of these sites
  abbrev pub SeenIf : {A : Type 0} → List Site → Binding A → Type 0
  SeenIf {A} sites b = (counts : Counts) (z : Found A) → b counts ≡ Ok z → seen z.findings ≡ list_any test sites

  pub then_seen : {A B : Type 0} (xs ys zs : List Site) (P : A → Type 0) (b : Binding A) (f : A → Binding B) → KnownIf P b → SeenIf xs b → ((x : A) → P x → SeenIf ys (f x))
      → (list_any test xs || list_any test ys) ≡ list_any test zs → SeenIf zs (b >>= f)
  then_seen {A} {B} xs ys zs P b f known h g join counts z is =
      let a = after_of b f counts z is in
      sym (ap (λ (x : Found B). seen x.findings) a.is_joined) ∙ sees.both_seen a.first.findings a.second.findings
      ∙ (λ i. h counts a.first a.is_first i || g a.first.part (known counts a.first a.is_first) _ a.second a.is_second i) ∙ join

  seen_in : {A : Type 0} → Bool → Outcome (Found A) → Bool
  seen_in b (Ok x) = seen x.findings
  seen_in b (Err f) = b

  pub is_seen : {A : Type 0} (x z : Found A) → okay x ≡ okay z → (b : Bool) → seen x.findings ≡ b → seen z.findings ≡ b
  unfolding seen_in
  is_seen x z is b h = sym (ap (seen_in false) is) ∙ h

  pub pure_seen : {A : Type 0} (x : A) → SeenIf [] (pure x)
  pure_seen x counts z is = is_seen _ z is false sees.nothing_seen

  pub must_seen : (t : Bool) (f : BindingFault) → SeenIf [] (must t f)
  must_seen true f counts z is = is_seen _ z is false sees.nothing_seen
  must_seen false f counts z is = cc

  pub found_seen : (found : QueryFindings) (sites : List Site) → seen found ≡ list_any test sites → SeenIf sites (has_found found)
  found_seen found sites h counts z is = is_seen _ z is (list_any test sites) h

  pub outcome_seen : {A : Type 0} (o : Outcome A) → SeenIf [] (outcome o)
  outcome_seen (Ok x) counts z is = is_seen _ z is false sees.nothing_seen
  outcome_seen (Err f) counts z is = cc

  pub last_seen : {A B : Type 0} (xs : List Site) (b : Binding A) (make : A → B) → SeenIf xs b → SeenIf xs (b >>= λ x. pure (make x))
  last_seen xs b make h = then_seen xs [] xs (λ x. ⊤) b (λ x. pure (make x)) (anything_known b) h (λ x u. pure_seen (make x)) (or_false (list_any test xs))

  -- a part before which nothing is found
  pub behind_seen : {A B : Type 0} (xs : List Site) (b : Binding A) (f : A → Binding B) → SeenIf [] b → ((x : A) → SeenIf xs (f x)) → SeenIf xs (b >>= f)
  behind_seen xs b f h g = then_seen [] xs xs (λ x. ⊤) b f (anything_known b) h (λ x u. g x) refl

  pub each_seen : {A B : Type 0} (sites_of : A → List Site) (f : A → Binding B) → ((x : A) → SeenIf (sites_of x) (f x)) → (xs : List A) → SeenIf (flat_map sites_of xs) (each f xs)
  each_seen sites_of f h [] = pure_seen []
  each_seen sites_of f h (x ∷ xs) =
      then_seen (sites_of x) (flat_map sites_of xs) (sites_of x ++ flat_map sites_of xs) (λ y. ⊤) (f x) (λ y. each f xs >>= λ ys. pure (y ∷ ys)) (anything_known (f x)) (h x)
      (λ y u. last_seen (flat_map sites_of xs) (each f xs) (λ ys. y ∷ ys) (each_seen sites_of f h xs)) (sym (any_both test (sites_of x) (flat_map sites_of xs)))

  pub silent_first : (s : Site) (xs : List Site) → test s ≡ false → list_any test (s ∷ xs) ≡ list_any test xs
  silent_first s xs h = ap (λ b. b || list_any test xs) h

  -- ---- FROM

  item_seen : (r : TableReference) → SeenIf (Site.table_read r ∷ []) (item_bound names r)
  item_seen r =
      then_seen [] (Site.table_read r ∷ []) (Site.table_read r ∷ []) (λ t. names r.table ≡ Some t) (outcome (or_fault fault.UnknownTable (names r.table))) (λ t. has_found (table_findings t) >> pure (item_over r t))
      (λ counts z is. named (names r.table) z.part (outcome_ok (or_fault fault.UnknownTable (names r.table)) counts z is)) (outcome_seen (or_fault fault.UnknownTable (names r.table)))
      (λ t there. last_seen (Site.table_read r ∷ []) (has_found (table_findings t)) (λ _. item_over r t) (found_seen (table_findings t) (Site.table_read r ∷ []) (sees.table_seen r t there ∙ sym (or_false (test (Site.table_read r))))))
      refl
    where
      named : (o : Option NamedTable) (t : NamedTable) → or_fault fault.UnknownTable o ≡ Ok t → o ≡ Some t
      named (Some n) t e = cc
      named None t e = cc

  pub from_seen : (from : List TableReference) → SeenIf (flat_map (λ r. Site.table_read r ∷ []) from) (from_bound names from)
  from_seen from counts z is =
      let limited = at_most_ok (nat_lt 16 (length from)) (each (item_bound names) from >>= λ items. must (not (has_item_twice from)) fault.AmbiguousName >> pure items) counts z is in
      then_seen (flat_map (λ r. Site.table_read r ∷ []) from) [] (flat_map (λ r. Site.table_read r ∷ []) from) (λ x. ⊤) (each (item_bound names) from) (λ items. must (not (has_item_twice from)) fault.AmbiguousName >> pure items)
      (anything_known (each (item_bound names) from)) (each_seen (λ r. Site.table_read r ∷ []) (item_bound names) item_seen from)
      (λ items u. last_seen [] (must (not (has_item_twice from)) fault.AmbiguousName) (λ _. items) (must_seen (not (has_item_twice from)) fault.AmbiguousName))
      (or_false (list_any test (flat_map (λ r. Site.table_read r ∷ []) from))) counts z limited.1

  -- ---- values

  module _ (scopes : List Scope) (queries : List EnclosingQuery) (over : AllZip (IsOver j.known) scopes queries) (allowed : Bool) (good : Good queries allowed) where
    abbrev pub here : Around
    here = standing queries allowed false

    abbrev pub a : Surroundings
    a = surrounded names j scopes allowed

    pub value_is_seen : (e : Expr Named) → SeenIf (expr_sites j.known here e) (value a e)
    value_is_seen e counts z is =
        let s = steps_of (bound scopes j.known.parameters allowed false e counts.functions) (λ b. Ok (value_found counts b)) z is in
        is_seen (value_found counts s.step) z s.second (list_any test (expr_sites j.known here e)) (sees.value_seen scopes queries over allowed good e counts.functions s.step s.first)

    pub agreeing_seen : (k : Kind) (e : Expr Named) → SeenIf (expr_sites j.known here e) (agreeing a k e)
    agreeing_seen k e =
        then_seen (expr_sites j.known here e) [] (expr_sites j.known here e) (λ x. ⊤) (value a e) (λ x. must_agree k x.kind >> pure x.tree) (anything_known (value a e)) (value_is_seen e)
        (λ x u. last_seen [] (must_agree k x.kind) (λ _. x.tree) (must_seen (is_comparable k x.kind) fault.KindMismatch)) (or_false (list_any test (expr_sites j.known here e)))

    pub text_seen : (e : Expr Named) → SeenIf (text_sites j.known here e) (text a e)
    text_seen e =
        then_seen (expr_sites j.known here e) [] (text_sites j.known here e) (λ x. ⊤) (value a e) (λ x. must (is_text x.kind) fault.KindMismatch >> pure x.tree) (anything_known (value a e)) (value_is_seen e)
        (λ x u. last_seen [] (must (is_text x.kind) fault.KindMismatch) (λ _. x.tree) (must_seen (is_text x.kind) fault.KindMismatch))
        (or_false (list_any test (expr_sites j.known here e)) ∙ sym (silent_first (Site.text_wanted (kind_here j.known here e)) (expr_sites j.known here e) (sees.text_silent (kind_here j.known here e))))

    status_is_seen : SeenIf [] (has_found a_status)
    status_is_seen = found_seen a_status [] sees.status_seen

    pub escape_seen : (e : Option (Expr Named)) → SeenIf (escape_sites j.known here e) (escape_bound a e)
    escape_seen None = pure_seen None
    escape_seen (Some e) =
        then_seen (text_sites j.known here e) [] (text_sites j.known here e) (λ x. ⊤) (text a e) (λ x. has_found a_status >> pure (Some x)) (anything_known (text a e)) (text_seen e)
        (λ x u. last_seen [] (has_found a_status) (λ _. Some x) status_is_seen) (or_false (list_any test (text_sites j.known here e)))

    -- ---- subqueries

    as_seen : (x z : Found NumberedSelect) (closed : Bool)
        → okay (if closed then record x { part = with_number (Some x.subqueries) x.part; findings = of_subquery x.findings; subqueries = x.subqueries + 1 } else record x { findings = of_subquery x.findings }) ≡ okay z → seen z.findings ≡ seen x.findings
    as_seen x z true is = is_seen _ z is (seen x.findings) (sees.subquery_seen x.findings)
    as_seen x z false is = is_seen _ z is (seen x.findings) (sees.subquery_seen x.findings)

    module _ (q : Select Named) (s : Binding NumberedSelect) (h : SeenIf (select_sites j.known here q) s) where
      pub subquery_is_seen : SeenIf (select_sites j.known here q) (subquery s)
      subquery_is_seen counts z is =
          let t = steps_of (s counts) (λ x. Ok (as_subquery x)) z is in as_seen t.step z (nat_eq t.step.findings.values.reach 0) t.second ∙ h counts t.step t.first

      one_column_seen : (k : Kind) (columns : List ResultColumn) → SeenIf [] (must_be_beside k columns)
      one_column_seen k [] counts z is = cc
      one_column_seen k (c ∷ []) counts z is = must_seen (is_comparable k c.kind) fault.KindMismatch counts z is
      one_column_seen k (c ∷ d ∷ columns) counts z is = cc

      pub beside_seen : (k : Kind) → SeenIf (select_sites j.known here q) (beside k s)
      beside_seen k =
          then_seen (select_sites j.known here q) [] (select_sites j.known here q) (λ x. ⊤) (subquery s) (λ x. must_be_beside k (columns_of x) >> pure x) (anything_known (subquery s)) subquery_is_seen
          (λ x u. last_seen [] (must_be_beside k (columns_of x)) (λ _. x) (one_column_seen k (columns_of x))) (or_false (list_any test (select_sites j.known here q)))

      pub scalar_seen : (k : Kind) → SeenIf (select_sites j.known here q) (scalar k s)
      scalar_seen k =
          then_seen (select_sites j.known here q) [] (select_sites j.known here q) (λ x. ⊤) (beside k s) (λ x. has_found a_status >> pure x) (anything_known (beside k s)) (beside_seen k)
          (λ x u. last_seen [] (has_found a_status) (λ _. x) status_is_seen) (or_false (list_any test (select_sites j.known here q)))

      -- behind a value
      pub beside_value_seen : (e : Expr Named) (f : Typed → Binding NumberedCond) → ((x : Typed) → SeenIf (select_sites j.known here q) (f x)) → SeenIf (beside_subquery j.known here e q ++ select_sites j.known here q) (value a e >>= f)
      beside_value_seen e f g =
          then_seen (expr_sites j.known here e) (select_sites j.known here q) (beside_subquery j.known here e q ++ select_sites j.known here q) (λ x. ⊤) (value a e) f (anything_known (value a e)) (value_is_seen e) (λ x u. g x)
          (ap (λ b. b || list_any test (select_sites j.known here q)) (sym quiet) ∙ sym (any_both test (beside_subquery j.known here e q) (select_sites j.known here q)))
        where
          quiet : list_any test (beside_subquery j.known here e q) ≡ list_any test (expr_sites j.known here e)
          quiet =
              silent_first (Site.alike_wanted (kind_here j.known here e) (first_kind (kinds_here j.known here q))) (Site.counts (select_count j.known.tables q) 1 ∷ Site.subquery_read ∷ expr_sites j.known here e)
              (sees.alike_silent (kind_here j.known here e) (first_kind (kinds_here j.known here q)))
              ∙ silent_first (Site.counts (select_count j.known.tables q) 1) (Site.subquery_read ∷ expr_sites j.known here e) (sees.counts_silent (select_count j.known.tables q) 1)
              ∙ silent_first Site.subquery_read (expr_sites j.known here e) sees.subquery_silent

    -- two values that are compared
    pub compared_any : (e f : Expr Named) → list_any test (compared_sites j.known here e f) ≡ (list_any test (expr_sites j.known here e) || list_any test (expr_sites j.known here f))
    compared_any e f =
        any_both test (Site.alike_wanted (kind_here j.known here e) (kind_here j.known here f) ∷ expr_sites j.known here e) (expr_sites j.known here f)
        ∙ ap (λ b. b || list_any test (expr_sites j.known here f)) (silent_first (Site.alike_wanted (kind_here j.known here e) (kind_here j.known here f)) (expr_sites j.known here e) (sees.alike_silent (kind_here j.known here e) (kind_here j.known here f)))
