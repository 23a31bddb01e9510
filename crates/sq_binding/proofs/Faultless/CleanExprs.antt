-- A bound value expression breaks no rule at its sites, with one exception (ISO/IEC 9075:1992, 6.2 to 6.5 and 6.11 to 6.13). Its
-- query is grouped, and a column that is no grouping column occurs outside set functions.
use Rattle.std.proofs.Common.{◌≡◌, ℕ, zero, suc, ◌+◌, Bool, true, false, not, ◌&&◌, ◌||◌, List, [], ◌∷◌, ◌++◌, length, max, Option, Some, None, Ok, Err, arith, refl, sym, ap, subst, ◌∙◌}
use Rattle.std.proofs.lemmas.Bool.Decides.{nat_tests}
use Rattle.std.specs.List.{AllZip, list_any}
use Rattle.std.specs.Option.{option_map, option_and_then}
use Rattle.std.specs.Prelude.{filter_map, is_err, is_none, nat_eq, nat_lt, option_to_list, slice_get, if◌then◌else◌}
use Rattle.std.specs.Result.{result_ok}
use Rattle.std.proofs.lemmas.Bool.{or_parts}
use Rattle.sq_value.specs.declared.domain.Domain.{Domain}
use Rattle.sq_value.specs.declared.domain.Kind.{Kind}
use Rattle.sq_value.specs.declared.domain.Kind.TheVariants.{Chars, Num, Vary}
use Rattle.sq_tree.specs.declared.expr.SetFunction.{SetFunction}
use Rattle.sq_tree.specs.declared.expr.SetFunction.TheVariants.{Avg, Count, Max, Min, Sum}
use Rattle.sq_tree.specs.declared.expr.TimesSign.{TimesSign}
use Rattle.sq_tree.specs.declared.expr.TimesSign.TheVariants.{Over, Times}
use Rattle.sq_tree.specs.declared.names.ColumnReference.{ColumnReference}
use Rattle.sq_tree.specs.declared.names.Indicator.{Indicator}
use Rattle.sq_meaning.specs.Environment.{Place}
use Rattle.sq_meaning.specs.Spelled.{Named}
use Rattle.sq_meaning.specs.Status as status
use Rattle.sq_meaning.specs.Syntax.{Expr, added, bracketed, column, count_rows, literal, parameter, scaled, set_function, signed, user}
use Rattle.sq_meaning.specs.WellFormed.{is_text}
use Rattle.sq_bound.specs.declared.expression.Operator.{Operator}
use Rattle.sq_meaning.specs.Binding.{Judged, column_of_site, domain_named, is_indicator_domain, is_of_text, is_outer, is_ungrouped, is_ungrouped_at, is_unknown_name, scale_exceeded}
use Rattle.sq_meaning.specs.Site.{Around, EnclosingQuery, Known, Site, expr_sites, kind_here, summed_sites}
use Rattle.sq_meaning.specs.Words.{is_some_and}
use Rattle.sq_meaning.specs.declared.fault.BindingFault.{BindingFault}
use Rattle.sq_meaning.specs.declared.fault.BindingFault.TheVariants as fault
use Rattle.sq_binding.specs.Expression.{Bound, as_indicator, bound, column_allowed, column_bound, count_bound, function_call, function_over, indicator_bound, kind_of_call, kind_operated, operands, operated_as, operated_kind, parameter_as, parameter_named, place_of_found, product_operator, signed_as, signed_by, sum_operator}
use Rattle.sq_binding.specs.Outcome.{Outcome, and_then, or_fault}
use Rattle.sq_binding.specs.Scope.{FoundColumn, ItemColumn, Scope, column_meant, column_numbered, fits, found_in, further_out, is_grouped, is_last, nearest}
use Rattle.sq_binding.proofs.Inductions.Cases.{Cases, it_holds}
use Rattle.sq_binding.proofs.Faultless.Clean.{Clean, called_clean, clean_both, clean_more, no_site, number_clean, parameter_clean, read_clean, scale_clean, steps_of, user_clean}
use Rattle.sq_binding.proofs.FaultsFound.FoundKinds.{kind_found, meant_there, outer_both, standing}
use Rattle.sq_binding.proofs.FaultsFound.Known.{IfNamed, IsOver, parameter_found}

-- ---- grouping columns

-- whether the column at a place is a grouping column of the scope so many queries further out, or need not be one
abbrev pub grouped_at : List Scope → (depth item position : ℕ) → Bool
grouped_at [] depth item position = true
grouped_at (scope ∷ scopes) zero item position = is_grouped scope.grouping item position
grouped_at (scope ∷ scopes) (suc depth) item position = grouped_at scopes depth item position

abbrev GroupedIs : List Scope → FoundColumn → Type 0
GroupedIs scopes found = grouped_at scopes found.depth found.item found.column.position ≡ found.is_grouped

nearest_grouped : (scope : Scope) (scopes : List Scope) (last : Bool) (ats : List (ℕ × ℕ)) (o : Outcome FoundColumn) → ((found : FoundColumn) → o ≡ Ok found → GroupedIs scopes found) → (found : FoundColumn) → nearest scope last ats o ≡ Ok found → GroupedIs (scope ∷ scopes) found
nearest_grouped scope scopes last [] (Err f) h found e = cc
nearest_grouped scope scopes last [] (Ok g) h found e = let same : further_out g ≡ found = cc in subst (GroupedIs (scope ∷ scopes)) same (h g refl)
nearest_grouped scope scopes last (at ∷ []) o h found e = only (column_numbered scope at) e
  where
    only : (c : Option ItemColumn) → or_fault fault.UnknownColumn (option_map (found_in scope last at) c) ≡ Ok found → GroupedIs (scope ∷ scopes) found
    only None e = cc
    only (Some c) e = let same : found_in scope last at c ≡ found = cc in subst (GroupedIs (scope ∷ scopes)) same refl
nearest_grouped scope scopes last (at ∷ next ∷ others) o h found e = cc

pub grouped_found : (c : ColumnReference) (scopes : List Scope) (found : FoundColumn) → column_meant c scopes ≡ Ok found → GroupedIs scopes found
grouped_found c [] found e = cc
grouped_found c (scope ∷ scopes) found e = nearest_grouped scope scopes (is_last scopes) (fits c scope) (column_meant c scopes) (grouped_found c scopes) found e

-- a grouping column is one for the rules
abbrev pub TightAt : Known → List Scope → List EnclosingQuery → ℕ → Type 0
TightAt k scopes queries depth = (p : Place) → grouped_at scopes depth p.item p.column ≡ true → is_some_and (is_ungrouped_at k p) (slice_get queries depth) ≡ false

-- any column may stand outside set functions, since the query is not grouped
abbrev pub Loose : Known → List EnclosingQuery → Type 0
Loose k queries = (p : Place) → is_some_and (is_ungrouped_at k p) (slice_get queries 0) ≡ false

-- ---- tests that passed

pub if_ok : {A : Type 0} (t : Bool) (f : BindingFault) (o : Outcome A) (x : A) → (if t then Err f else o) ≡ Ok x → (t ≡ false) × (o ≡ Ok x)
if_ok true f o x e = cc
if_ok false f o x e = (refl, e)

kind_there : (g : BindingFault) (o : status.Outcome Kind) (k : Kind) → or_fault g (result_ok o) ≡ Ok k → o ≡ Ok k
kind_there g (Ok l) k e = let same : l ≡ k = cc in ap Ok same
kind_there g (Err s) k e = cc

pub not_text : (k : Kind) (o : status.Outcome Kind) → o ≡ Ok k → is_text k ≡ false → is_of_text o ≡ false
not_text (Num s) o e t = ap is_of_text e
not_text (Chars n) o e t = cc
not_text (Vary n) o e t = cc

and_near : (a b : Bool) → b ≡ false → (a && not b && true) ≡ false → a ≡ false
and_near true true g e = cc
and_near true false g e = cc
and_near false b g e = refl

pub either_is : {P : Type 0} (a : Bool) → (a ≡ true → P) → (a ≡ false → P) → P
either_is true h g = h refl
either_is false h g = g refl

summed_none : (f : SetFunction) (k : status.Outcome Kind) → filter_map column_of_site (summed_sites f k) ≡ []
summed_none Count k = refl
summed_none Sum k = refl
summed_none Avg k = refl
summed_none Min k = refl
summed_none Max k = refl

or_left : (a b : Bool) → (a || b) ≡ true → a ≡ false → b ≡ true
or_left true b t e = cc
or_left false b t e = t

-- what was found in a first part, of what was found in two
pub found_left : {P : Type 0} (a b : Bool) → ((a || b) ≡ true → P) → a ≡ true → P
found_left true b h t = h refl
found_left false b h t = cc

pub found_right : {P : Type 0} (a b : Bool) → ((a || b) ≡ true → P) → b ≡ true → P
found_right true b h t = h refl
found_right false b h t = h t

module _ (j : Judged) (scopes : List Scope) (queries : List EnclosingQuery) (over : AllZip (IsOver j.known) scopes queries) where
  -- ---- columns of the own query alone

  abbrev home : Around
  home = standing queries true false

  abbrev OwnIs : Expr Named → ℕ → Type 0
  OwnIs e reach = (b : Around) → b.queries ≡ queries → nat_lt 0 reach ≡ false → list_any (is_outer j.known home) (filter_map column_of_site (expr_sites j.known b e)) ≡ false

  own_both : (b : Around) → b.queries ≡ queries → (e g : Expr Named) (m n : ℕ) → OwnIs e m → OwnIs g n → nat_lt 0 (max m n) ≡ false
      → list_any (is_outer j.known home) (filter_map column_of_site (expr_sites j.known b e ++ expr_sites j.known b g)) ≡ false
  own_both b same e g m n h k near =
      let first : nat_lt 0 m ≡ false = grind (arith, nat_tests, near) in
      let second : nat_lt 0 n ≡ false = grind (arith, nat_tests, near) in
      outer_both j scopes queries over (is_outer j.known home) (expr_sites j.known b e) (expr_sites j.known b g) ∙ (λ i. h b same first i || k b same second i)

  own_cases : Cases scopes j.known.parameters (λ allowed n e x. OwnIs e x.findings.reach)
  own_cases = record {
    of_literal = λ allowed n v k is b same near. refl;
    of_parameter = λ allowed n p at i is so b same near. refl;
    of_user = λ allowed n b same near. refl;
    of_column = λ allowed n c found is b same near.
        let m = meant_there j scopes queries over c found is in
        let one : is_outer j.known home c ≡ false = ap (list_any (λ (p : Place). nat_lt 0 p.depth)) m.fits ∙ ap (λ t. t || false) near in
        ap (λ t. t || false) one;
    of_count = λ n b same near. refl;
    of_function = λ n f distinct e x k h own is b same near.
        outer_both j scopes queries over (is_outer j.known home) (summed_sites f (kind_here j.known b e)) (expr_sites j.known (record { queries = b.queries; functions_allowed = false; in_function = true }) e)
        ∙ (λ i. list_any (is_outer j.known home) (summed_none f (kind_here j.known b e) i) || h (record { queries = b.queries; functions_allowed = false; in_function = true }) same own i);
    of_signed = λ allowed n sign e x h number b same near. h b same near;
    of_added = λ allowed n sign e g x y k h l is b same near. own_both b same e g x.findings.reach y.findings.reach h l near;
    of_scaled = λ allowed n sign e g x y k h l is b same near. own_both b same e g x.findings.reach y.findings.reach h l near;
    of_bracketed = λ allowed n e x h. h;
  }

  own_found : (allowed inside : Bool) (e : Expr Named) (n : ℕ) (x : Bound) → bound scopes j.known.parameters allowed inside e n ≡ Ok x → OwnIs e x.findings.reach
  own_found = it_holds scopes j.known.parameters (λ allowed n e x. OwnIs e x.findings.reach) own_cases

  -- ---- parameters

  named : (o : Outcome (ℕ × Domain)) (d : Option Domain) → IfNamed d o → (at : ℕ × Domain) → o ≡ Ok at → d ≡ Some at.1
  named o d h at is = subst (IfNamed d) is h

  indicator_clean : (q : Option Indicator) (i : Option ℕ) → indicator_bound j.known.parameters q ≡ Ok i
      → (list_any (is_unknown_name j.known) (option_to_list (option_map (λ i. i.name) q)) ≡ false)
      × (is_some_and (λ d. not (is_indicator_domain d)) (option_and_then (domain_named j.known) (option_map (λ i. i.name) q)) ≡ false)
  indicator_clean None i is = (refl, refl)
  indicator_clean (Some q) i is =
      let steps = steps_of (parameter_named j.known.parameters q.name) as_indicator i is in
      let there : domain_named j.known q.name ≡ Some steps.step.1 = named (parameter_named j.known.parameters q.name) (domain_named j.known q.name) (parameter_found j.known q.name) steps.step steps.first in (
        ap (λ (d : Option Domain). is_none d || false) there,
        ap (is_some_and (λ (d : Domain). not (is_indicator_domain d))) there ∙ ap not (whole (Some steps.step.0) (is_indicator_domain steps.step.1) steps.second),
      )
    where
      whole : (at : Option ℕ) (b : Bool) → ◌≡◌ {A = Outcome (Option ℕ)} (if b then Ok at else Err fault.BadIndicator) (Ok i) → b ≡ true
      whole at true e = refl
      whole at false e = cc

  -- ---- the whole

  module _ (tight : (depth : ℕ) → TightAt j.known scopes queries depth) where
    column_free : (found : FoundColumn) (x : Bound) (t : Bool) → (nat_lt 0 found.depth && not found.is_grouped && true) ≡ t → (if t then Err fault.UngroupedColumn else Ok (column_bound found)) ≡ Ok x
        → (x.findings.has_ungrouped ≡ true → Loose j.known queries) → found.is_grouped ≡ false → is_ungrouped j.known queries (place_of_found found) ≡ false
    column_free found x true e is loose free = cc
    column_free found x false e is loose free =
        let same : column_bound found ≡ x = cc in
        let near : nat_lt 0 found.depth ≡ false = and_near (nat_lt 0 found.depth) found.is_grouped free e in
        let here : found.depth ≡ 0 = grind (arith, nat_tests, near) in
        let noted : x.findings.has_ungrouped ≡ true = ap (λ (x : Bound). x.findings.has_ungrouped) (sym same) ∙ (λ i. nat_eq (here i) 0 && not (free i)) in
        subst (λ d. is_some_and (is_ungrouped_at j.known (place_of_found found)) (slice_get queries d) ≡ false) (sym here) (loose noted (place_of_found found))

    column_clean : (allowed inside : Bool) (c : ColumnReference) (found : FoundColumn) (x : Bound) → column_meant c scopes ≡ Ok found → column_allowed inside found ≡ Ok x → (inside ≡ false → x.findings.has_ungrouped ≡ true → Loose j.known queries)
        → Clean j (Site.column_read (standing queries allowed inside) c ∷ [])
    column_clean allowed true c found x is so loose =
        let m = meant_there j scopes queries over c found is in
        clean_more j (Site.column_read (standing queries allowed true) c) [] (read_clean j (standing queries allowed true) c (ap length m.fits) refl) (no_site j)
    column_clean allowed false c found x is so loose =
        let m = meant_there j scopes queries over c found is in
        let free : is_ungrouped j.known queries (place_of_found found) ≡ false =
        either_is found.is_grouped (λ grouped. tight found.depth (place_of_found found) (grouped_found c scopes found is ∙ grouped))
        (column_free found x (nat_lt 0 found.depth && not found.is_grouped && true) refl so (loose refl)) in
        clean_more j (Site.column_read (standing queries allowed false) c) []
        (read_clean j (standing queries allowed false) c (ap length m.fits) (ap (list_any (is_ungrouped j.known queries)) m.fits ∙ ap (λ b. b || false) free)) (no_site j)

    operand_kinds : (op : Operator) (x y z : Bound) → operated_as op x y ≡ Ok z
        → (k : Kind) × (is_text x.kind ≡ false) × (is_text y.kind ≡ false) × (operated_kind op x.kind y.kind ≡ Ok k) × (operands op x y k ≡ z)
    operand_kinds op x y z is =
        let steps = steps_of (kind_operated op x.kind y.kind) (λ k. Ok (operands op x y k)) z is in
        let tested = if_ok (is_text x.kind || is_text y.kind) fault.KindMismatch (or_fault fault.LimitExceeded (result_ok (operated_kind op x.kind y.kind))) steps.step steps.first in
        let texts = or_parts (is_text x.kind) (is_text y.kind) tested.0 in
        let second = steps.second in
        let same : operands op x y steps.step ≡ z = cc in
        (steps.step, texts.0, texts.1, kind_there fault.LimitExceeded (operated_kind op x.kind y.kind) steps.step tested.1, same)

    scale_kept : (sign : TimesSign) (o r : status.Outcome Kind) (x y k : Kind) → o ≡ Ok x → r ≡ Ok y → is_text x ≡ false → is_text y ≡ false → operated_kind (product_operator sign) x y ≡ Ok k → scale_exceeded sign o r ≡ false
    scale_kept Times o r (Num s) (Num t) k e f a b is = (λ i. scale_exceeded Times (e i) (f i)) ∙ ap is_err is
    scale_kept Over o r (Num s) (Num t) k e f a b is = (λ i. scale_exceeded Over (e i) (f i)) ∙ ap is_err is
    scale_kept sign o r (Chars n) y k e f a b is = cc
    scale_kept sign o r (Vary n) y k e f a b is = cc
    scale_kept sign o r (Num s) (Chars n) k e f a b is = cc
    scale_kept sign o r (Num s) (Vary n) k e f a b is = cc

    call_clean : (f : SetFunction) (o : status.Outcome Kind) (k l : Kind) → o ≡ Ok k → kind_of_call f k ≡ Ok l → Clean j (summed_sites f o)
    call_clean Count o k l e is = no_site j
    call_clean Min o k l e is = no_site j
    call_clean Max o k l e is = no_site j
    call_clean Sum o (Num s) l e is = clean_more j (Site.number_wanted o) [] (number_clean j o (ap is_of_text e)) (no_site j)
    call_clean Sum o (Chars n) l e is = cc
    call_clean Sum o (Vary n) l e is = cc
    call_clean Avg o (Num s) l e is = clean_more j (Site.number_wanted o) [] (number_clean j o (ap is_of_text e)) (no_site j)
    call_clean Avg o (Chars n) l e is = cc
    call_clean Avg o (Vary n) l e is = cc

    count_clean : (allowed inside : Bool) (n : ℕ) (x : Bound) → count_bound allowed n ≡ Ok x → Clean j (expr_sites j.known (standing queries allowed inside) count_rows)
    count_clean true inside n x is = clean_more j (Site.function_called (standing queries true inside) None) [] (called_clean j (standing queries true inside) None refl) (no_site j)
    count_clean false inside n x is = cc

    wanted : (b : Around) (e : Expr Named) (k : Kind) → kind_here j.known b e ≡ Ok k → is_text k ≡ false → (sites : List Site) → Clean j sites → Clean j (Site.number_wanted (kind_here j.known b e) ∷ sites)
    wanted b e k is number sites h = clean_more j (Site.number_wanted (kind_here j.known b e)) sites (number_clean j (kind_here j.known b e) (not_text k (kind_here j.known b e) is number)) h

    function_clean : (allowed inside : Bool) (n : ℕ) (f : SetFunction) (distinct : Bool) (e : Expr Named) (y x : Bound) → bound scopes j.known.parameters false true e 0 ≡ Ok y → function_over allowed n f distinct y ≡ Ok x
        → Clean j (expr_sites j.known (standing queries false true) e) → Clean j (expr_sites j.known (standing queries allowed inside) (set_function f distinct e))
    function_clean allowed inside n f distinct e y x is so h =
        let tested = if_ok (not allowed || nat_lt 0 y.findings.reach) fault.MisplacedSetFunction (and_then (kind_of_call f y.kind) (λ k. Ok (function_call n f distinct y k))) x so in
        let placed = or_parts (not allowed) (nat_lt 0 y.findings.reach) tested.0 in
        let called = steps_of (kind_of_call f y.kind) (λ k. Ok (function_call n f distinct y k)) x tested.1 in
        clean_more j (Site.function_called (standing queries allowed inside) (Some e)) (summed_sites f (kind_here j.known (standing queries allowed inside) e) ++ expr_sites j.known (standing queries false true) e)
        (called_clean j (standing queries allowed inside) (Some e) (λ i. placed.0 i || own_found false true e 0 y is (standing queries allowed inside) refl placed.1 i))
        (clean_both j (summed_sites f (kind_here j.known (standing queries allowed inside) e)) (expr_sites j.known (standing queries false true) e)
        (call_clean f (kind_here j.known (standing queries allowed inside) e) y.kind called.step (kind_found j scopes queries over false true e 0 y is) called.first) h)

    pub expr_clean : (e : Expr Named) (allowed inside : Bool) (n : ℕ) (x : Bound) → bound scopes j.known.parameters allowed inside e n ≡ Ok x → (inside ≡ false → x.findings.has_ungrouped ≡ true → Loose j.known queries)
        → Clean j (expr_sites j.known (standing queries allowed inside) e)
    expr_clean (literal v) allowed inside n x is loose = no_site j
    expr_clean (parameter p) allowed inside n x is loose =
        let steps = steps_of (parameter_named j.known.parameters p.name) (λ at. and_then (indicator_bound j.known.parameters p.indicator) (λ i. Ok (parameter_as at i))) x is in
        let more = steps_of (indicator_bound j.known.parameters p.indicator) (λ i. Ok (parameter_as steps.step i)) x steps.second in
        let there : domain_named j.known p.name ≡ Some steps.step.1 = named (parameter_named j.known.parameters p.name) (domain_named j.known p.name) (parameter_found j.known p.name) steps.step steps.first in
        let indicator = indicator_clean p.indicator more.step more.first in
        clean_more j (Site.parameter_read p) [] (parameter_clean j p (λ i. is_none (there i) || indicator.0 i) indicator.1) (no_site j)
    expr_clean user allowed inside n x is loose = clean_more j Site.user_read [] (user_clean j) (no_site j)
    expr_clean (column c) allowed inside n x is loose =
        let steps = steps_of (column_meant c scopes) (column_allowed inside) x is in column_clean allowed inside c steps.step x steps.first steps.second loose
    expr_clean count_rows allowed inside n x is loose = count_clean allowed inside n x is
    expr_clean (set_function f distinct e) allowed inside n x is loose =
        let steps = steps_of (bound scopes j.known.parameters false true e 0) (function_over allowed n f distinct) x is in
        function_clean allowed inside n f distinct e steps.step x steps.first steps.second (expr_clean e false true 0 steps.step steps.first (λ t. cc))
    expr_clean (signed sign e) allowed inside n x is loose =
        let steps = steps_of (bound scopes j.known.parameters allowed inside e n) (signed_as sign) x is in
        let tested = if_ok (is_text steps.step.kind) fault.KindMismatch (Ok (signed_by sign steps.step)) x steps.second in
        let made = tested.1 in
        let same : signed_by sign steps.step ≡ x = cc in
        wanted (standing queries allowed inside) e steps.step.kind (kind_found j scopes queries over allowed inside e n steps.step steps.first) tested.0 (expr_sites j.known (standing queries allowed inside) e)
        (expr_clean e allowed inside n steps.step steps.first (λ t u. loose t (ap (λ (x : Bound). x.findings.has_ungrouped) (sym same) ∙ u)))
    expr_clean (added sign e g) allowed inside n z is loose =
        let steps = steps_of (bound scopes j.known.parameters allowed inside e n) (λ x. and_then (bound scopes j.known.parameters allowed inside g (n + length x.calls)) (operated_as (sum_operator sign) x)) z is in
        let more = steps_of (bound scopes j.known.parameters allowed inside g (n + length steps.step.calls)) (operated_as (sum_operator sign) steps.step) z steps.second in
        let kinds = operand_kinds (sum_operator sign) steps.step more.step z more.second in
        let free : inside ≡ false → (steps.step.findings.has_ungrouped || more.step.findings.has_ungrouped) ≡ true → Loose j.known queries = λ t u. loose t (ap (λ (x : Bound). x.findings.has_ungrouped) (sym kinds.4) ∙ u) in
        wanted (standing queries allowed inside) e steps.step.kind (kind_found j scopes queries over allowed inside e n steps.step steps.first) kinds.1
        (Site.number_wanted (kind_here j.known (standing queries allowed inside) g) ∷ expr_sites j.known (standing queries allowed inside) e ++ expr_sites j.known (standing queries allowed inside) g)
        (wanted (standing queries allowed inside) g more.step.kind (kind_found j scopes queries over allowed inside g (n + length steps.step.calls) more.step more.first) kinds.2
        (expr_sites j.known (standing queries allowed inside) e ++ expr_sites j.known (standing queries allowed inside) g)
        (clean_both j (expr_sites j.known (standing queries allowed inside) e) (expr_sites j.known (standing queries allowed inside) g)
        (expr_clean e allowed inside n steps.step steps.first (λ t. found_left steps.step.findings.has_ungrouped more.step.findings.has_ungrouped (free t)))
        (expr_clean g allowed inside (n + length steps.step.calls) more.step more.first (λ t. found_right steps.step.findings.has_ungrouped more.step.findings.has_ungrouped (free t)))))
    expr_clean (scaled sign e g) allowed inside n z is loose =
        let steps = steps_of (bound scopes j.known.parameters allowed inside e n) (λ x. and_then (bound scopes j.known.parameters allowed inside g (n + length x.calls)) (operated_as (product_operator sign) x)) z is in
        let more = steps_of (bound scopes j.known.parameters allowed inside g (n + length steps.step.calls)) (operated_as (product_operator sign) steps.step) z steps.second in
        let kinds = operand_kinds (product_operator sign) steps.step more.step z more.second in
        let free : inside ≡ false → (steps.step.findings.has_ungrouped || more.step.findings.has_ungrouped) ≡ true → Loose j.known queries = λ t u. loose t (ap (λ (x : Bound). x.findings.has_ungrouped) (sym kinds.4) ∙ u) in
        let left = kind_found j scopes queries over allowed inside e n steps.step steps.first in
        let right = kind_found j scopes queries over allowed inside g (n + length steps.step.calls) more.step more.first in
        wanted (standing queries allowed inside) e steps.step.kind left kinds.1
        (Site.number_wanted (kind_here j.known (standing queries allowed inside) g) ∷ Site.product_scale sign (kind_here j.known (standing queries allowed inside) e) (kind_here j.known (standing queries allowed inside) g)
        ∷ expr_sites j.known (standing queries allowed inside) e ++ expr_sites j.known (standing queries allowed inside) g)
        (wanted (standing queries allowed inside) g more.step.kind right kinds.2
        (Site.product_scale sign (kind_here j.known (standing queries allowed inside) e) (kind_here j.known (standing queries allowed inside) g) ∷ expr_sites j.known (standing queries allowed inside) e ++ expr_sites j.known (standing queries allowed inside) g)
        (clean_more j (Site.product_scale sign (kind_here j.known (standing queries allowed inside) e) (kind_here j.known (standing queries allowed inside) g)) (expr_sites j.known (standing queries allowed inside) e ++ expr_sites j.known (standing queries allowed inside) g)
        (scale_clean j sign (kind_here j.known (standing queries allowed inside) e) (kind_here j.known (standing queries allowed inside) g)
        (scale_kept sign (kind_here j.known (standing queries allowed inside) e) (kind_here j.known (standing queries allowed inside) g) steps.step.kind more.step.kind kinds.0 left right kinds.1 kinds.2 kinds.3))
        (clean_both j (expr_sites j.known (standing queries allowed inside) e) (expr_sites j.known (standing queries allowed inside) g)
        (expr_clean e allowed inside n steps.step steps.first (λ t. found_left steps.step.findings.has_ungrouped more.step.findings.has_ungrouped (free t)))
        (expr_clean g allowed inside (n + length steps.step.calls) more.step more.first (λ t. found_right steps.step.findings.has_ungrouped more.step.findings.has_ungrouped (free t))))))
    expr_clean (bracketed e) allowed inside n x is loose = expr_clean e allowed inside n x is loose
