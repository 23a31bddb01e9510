-- The fault that is answered of a value expression is one that the rules find there (ISO/IEC 9075:1992, 6.2 to 6.5 and 6.11 to 6.13).
use Rattle.std.proofs.Common.{◌≡◌, ℕ, ◌+◌, Bool, true, false, not, ◌&&◌, ◌||◌, List, [], ◌∷◌, ◌++◌, length, Option, Some, None, Ok, Err, arith, refl, sym, ap, subst, ◌∙◌}
use Rattle.std.specs.List.{AllZip, list_any}
use Rattle.std.specs.Option.{option_map, option_and_then}
use Rattle.std.proofs.lemmas.Bool.Decides.{nat_tests}
use Rattle.std.specs.Prelude.{is_err, is_none, nat_eq, nat_lt, option_to_list, if◌then◌else◌}
use Rattle.std.specs.Result.{result_ok}
use Rattle.std.proofs.lemmas.Bool.{and_parts, not-true, or_parts, false≢true}
use Rattle.sq_value.proofs.Truths.{or_true}
use Rattle.sq_value.specs.declared.domain.Domain.{Domain}
use Rattle.sq_value.specs.declared.domain.Kind.{Kind}
use Rattle.sq_value.specs.declared.domain.Kind.TheVariants.{Chars, Num, Vary}
use Rattle.sq_value.specs.declared.value.Value.TheVariants as value
use Rattle.sq_tree.specs.declared.expr.SetFunction.{SetFunction}
use Rattle.sq_tree.specs.declared.expr.SetFunction.TheVariants.{Avg, Count, Max, Min, Sum}
use Rattle.sq_tree.specs.declared.expr.Sign.{Sign}
use Rattle.sq_tree.specs.declared.expr.Sign.TheVariants.{Minus, Plus}
use Rattle.sq_tree.specs.declared.expr.TimesSign.{TimesSign}
use Rattle.sq_tree.specs.declared.expr.TimesSign.TheVariants.{Over, Times}
use Rattle.sq_tree.specs.declared.names.ColumnReference.{ColumnReference}
use Rattle.sq_tree.specs.declared.names.Indicator.{Indicator}
use Rattle.sq_tree.specs.declared.names.Parameter.{Parameter}
use Rattle.sq_meaning.specs.Expression.{set_functions}
use Rattle.sq_meaning.specs.Kind.{product_kind}
use Rattle.sq_meaning.specs.Query.{is_some_of}
use Rattle.sq_meaning.specs.Spelled.{Named}
use Rattle.sq_meaning.specs.Status as status
use Rattle.sq_meaning.specs.Syntax.{Expr, added, bracketed, column, count_rows, literal, parameter, scaled, set_function, signed, user}
use Rattle.sq_meaning.specs.WellFormed.{HasValue, is_text}
use Rattle.sq_meaning.specs.Tables.{Declared}
use Rattle.sq_meaning.specs.Binding.{Judged, breaks, domain_named, has_fault, indicator_name, is_indicator_domain, is_of_text, is_ungrouped, is_unknown_name, reads_outer, scale_exceeded}
use Rattle.sq_meaning.specs.Binding as rules
use Rattle.sq_meaning.specs.Site.{Around, EnclosingQuery, Site, expr_sites, kind_here, summed_sites}
use Rattle.sq_meaning.specs.Words.{is_some_and}
use Rattle.sq_meaning.specs.declared.fault.BindingFault.{BindingFault}
use Rattle.sq_meaning.specs.declared.fault.BindingFault.TheVariants as fault
use Rattle.sq_binding.specs.Expression.{Bound, as_indicator, bound, column_allowed, column_bound, count_bound, function_call, function_over, indicator_bound, kind_of_call, kind_operated, operands, operated_as, operated_kind, parameter_as, parameter_named, product_operator, signed_as, signed_by, sum_operator}
use Rattle.sq_binding.specs.Outcome.{Outcome, and_then, or_fault}
use Rattle.sq_binding.specs.Scope.{FoundColumn, Scope, column_meant}
use Rattle.sq_binding.proofs.FaultsFound.Known.{GroupsAt, IfMeant, IfNamed, IsOver, Meant, column_fault, column_found, parameter_found}
use Rattle.sq_binding.proofs.FaultsFound.Sites.{IfFault, either, fault_here, fault_later, fault_left, fault_right, if_fault, more_sites, next_fault}
use Rattle.sq_binding.proofs.FaultsFound.FoundKinds.{SpellsNoNull, kind_found, meant_there, outer_found, standing}
use Rattle.sq_binding.proofs.Inductions.Cases.{Cases, it_holds}

module _ (j : Judged) (scopes : List Scope) (queries : List EnclosingQuery) (over : AllZip (IsOver j.known) scopes queries) where
  -- the faults of a column reference
  pub column_breaks : (allowed inside : Bool) (c : ColumnReference) (f : BindingFault) → column_fault f (length (rules.fits j.known c queries)) ≡ true → breaks j f (Site.column_read (standing queries allowed inside) c) ≡ true
  column_breaks allowed inside c fault.UnknownColumn h = h
  column_breaks allowed inside c fault.AmbiguousName h = h
  column_breaks allowed inside c _ h = cc

  pub ungrouped_breaks : (allowed : Bool) (c : ColumnReference) (found : FoundColumn) → Meant j.known c scopes queries found → GroupsAt j.known scopes queries found.depth → found.is_grouped ≡ false
      → breaks j fault.UngroupedColumn (Site.column_read (standing queries allowed false) c) ≡ true
  ungrouped_breaks allowed c found m groups free =
      ap (list_any (is_ungrouped j.known queries)) m.fits ∙ ap (λ b. b || false) (m.ungrouped groups free)

  module _ (groups : (depth : ℕ) → nat_lt 0 depth ≡ true → GroupsAt j.known scopes queries depth) where
    column_faults : (allowed inside : Bool) (c : ColumnReference) (o : Outcome FoundColumn) → IfMeant j.known c scopes queries o
        → IfFault j (Site.column_read (standing queries allowed inside) c ∷ []) (and_then o (column_allowed inside))
    column_faults allowed inside c (Err f) h = fault_here j f (Site.column_read (standing queries allowed inside) c) [] (column_breaks allowed inside c f h)
    column_faults allowed true c (Ok found) m =
        if_fault j (Site.column_read (standing queries allowed true) c ∷ []) fault.UngroupedColumn (nat_lt 0 found.depth && not found.is_grouped && not true) (Ok (column_bound found))
        (λ t. let parts = and_parts (nat_lt 0 found.depth && not found.is_grouped) false t in cc) (λ t. tt)
    column_faults allowed false c (Ok found) m =
        if_fault j (Site.column_read (standing queries allowed false) c ∷ []) fault.UngroupedColumn (nat_lt 0 found.depth && not found.is_grouped && not false) (Ok (column_bound found))
        (λ t.
        let parts = and_parts (nat_lt 0 found.depth && not found.is_grouped) true t in
        let further = and_parts (nat_lt 0 found.depth) (not found.is_grouped) parts.0 in
        fault_here j fault.UngroupedColumn (Site.column_read (standing queries allowed false) c) [] (ungrouped_breaks allowed c found m (groups found.depth further.0) (not-true found.is_grouped further.1)))
        (λ t. tt)

    -- the faults of a parameter
    name_fault : (f : BindingFault) (domain : Option Domain) → (f ≡ fault.UnknownParameter) × (domain ≡ None) → (p : Parameter) → domain_named j.known p.name ≡ domain → breaks j f (Site.parameter_read p) ≡ true
    name_fault f domain h p is =
        let unknown : is_unknown_name j.known p.name ≡ true = ap is_none (is ∙ h.1) in
        subst (λ f. breaks j f (Site.parameter_read p) ≡ true) (sym h.0) (ap (λ b. b || list_any (is_unknown_name j.known) (option_to_list (indicator_name p))) unknown)

    indicator_faults : (p : Parameter) (i : Indicator) → p.indicator ≡ Some i → (o : Outcome (ℕ × Domain)) → IfNamed (domain_named j.known i.name) o → IfFault j (Site.parameter_read p ∷ []) (and_then o as_indicator)
    indicator_faults p i is (Err f) h =
        let unknown : is_unknown_name j.known i.name ≡ true = ap is_none h.1 in
        fault_here j f (Site.parameter_read p) []
        (subst (λ f. breaks j f (Site.parameter_read p) ≡ true) (sym h.0)
        (ap (λ (q : Option Indicator). is_unknown_name j.known p.name || list_any (is_unknown_name j.known) (option_to_list (option_map (λ i. i.name) q))) is
        ∙ ap (λ b. is_unknown_name j.known p.name || (b || false)) unknown ∙ or_true (is_unknown_name j.known p.name)))
    indicator_faults p i is (Ok at) h = asked (is_indicator_domain at.1) refl
      where
        asked : (b : Bool) → is_indicator_domain at.1 ≡ b → IfFault j (Site.parameter_read p ∷ []) (if b then Ok (Some at.0) else Err fault.BadIndicator)
        asked true e = tt
        asked false e =
            fault_here j fault.BadIndicator (Site.parameter_read p) []
            (ap (λ (q : Option Indicator). is_some_and (λ d. not (is_indicator_domain d)) (option_and_then (domain_named j.known) (option_map (λ i. i.name) q))) is
            ∙ ap (is_some_and (λ (d : Domain). not (is_indicator_domain d))) h ∙ ap not e)

    optional_faults : (p : Parameter) (i : Option Indicator) → p.indicator ≡ i → IfFault j (Site.parameter_read p ∷ []) (indicator_bound j.known.parameters i)
    optional_faults p None is = tt
    optional_faults p (Some i) is = indicator_faults p i is (parameter_named j.known.parameters i.name) (parameter_found j.known i.name)

    parameter_faults : (p : Parameter) (o : Outcome (ℕ × Domain)) → IfNamed (domain_named j.known p.name) o
        → IfFault j (Site.parameter_read p ∷ []) (and_then o (λ at. and_then (indicator_bound j.known.parameters p.indicator) (λ i. Ok (parameter_as at i))))
    parameter_faults p (Err f) h = fault_here j f (Site.parameter_read p) [] (name_fault f (domain_named j.known p.name) h p refl)
    parameter_faults p (Ok at) h =
        next_fault j (Site.parameter_read p ∷ []) (indicator_bound j.known.parameters p.indicator) (λ i. Ok (parameter_as at i)) (optional_faults p p.indicator refl) (λ i is. tt)

    -- the faults of operands
    text_wanted : (b : Around) (e : Expr Named) (k : Kind) → kind_here j.known b e ≡ Ok k → is_text k ≡ true → breaks j fault.KindMismatch (Site.number_wanted (kind_here j.known b e)) ≡ true
    text_wanted b e (Num s) is t = cc
    text_wanted b e (Chars n) is t = ap is_of_text is
    text_wanted b e (Vary n) is t = ap is_of_text is

    sum_there : (sign : Sign) (x y : Kind) → is_text x ≡ false → is_text y ≡ false → HasValue (operated_kind (sum_operator sign) x y)
    sum_there Plus (Num s) (Num t) a b = tt
    sum_there Minus (Num s) (Num t) a b = tt
    sum_there sign (Chars n) y a b = cc
    sum_there sign (Vary n) y a b = cc
    sum_there sign (Num s) (Chars n) a b = cc
    sum_there sign (Num s) (Vary n) a b = cc

    valued : (f : BindingFault) (sites : List Site) (o : status.Outcome Kind) → HasValue o → IfFault j sites (or_fault f (result_ok o))
    valued f sites (Ok k) h = tt
    valued f sites (Err s) h = absurd h

    -- one of them is a text
    texts_wanted : (b : Around) (e g : Expr Named) (sites : List Site) (k l : Kind) → kind_here j.known b e ≡ Ok k → kind_here j.known b g ≡ Ok l → (is_text k || is_text l) ≡ true
        → has_fault j (Site.number_wanted (kind_here j.known b e) ∷ Site.number_wanted (kind_here j.known b g) ∷ sites) fault.KindMismatch ≡ true
    texts_wanted b e g sites k l is so t = first (is_text k) refl
      where
        first : (a : Bool) → is_text k ≡ a → has_fault j (Site.number_wanted (kind_here j.known b e) ∷ Site.number_wanted (kind_here j.known b g) ∷ sites) fault.KindMismatch ≡ true
        first true at = fault_here j fault.KindMismatch (Site.number_wanted (kind_here j.known b e)) (Site.number_wanted (kind_here j.known b g) ∷ sites) (text_wanted b e k is at)
        first false at =
            fault_later j fault.KindMismatch (Site.number_wanted (kind_here j.known b e)) (Site.number_wanted (kind_here j.known b g) ∷ sites)
            (fault_here j fault.KindMismatch (Site.number_wanted (kind_here j.known b g)) sites (text_wanted b g l so (ap (λ a. a || is_text l) (sym at) ∙ t)))

    sum_faults : (b : Around) (sign : Sign) (e g : Expr Named) (sites : List Site) (x y : Bound) → kind_here j.known b e ≡ Ok x.kind → kind_here j.known b g ≡ Ok y.kind
        → IfFault j (Site.number_wanted (kind_here j.known b e) ∷ Site.number_wanted (kind_here j.known b g) ∷ sites) (operated_as (sum_operator sign) x y)
    sum_faults b sign e g sites x y is so =
        next_fault j (Site.number_wanted (kind_here j.known b e) ∷ Site.number_wanted (kind_here j.known b g) ∷ sites) (kind_operated (sum_operator sign) x.kind y.kind) (λ k. Ok (operands (sum_operator sign) x y k))
        (if_fault j (Site.number_wanted (kind_here j.known b e) ∷ Site.number_wanted (kind_here j.known b g) ∷ sites) fault.KindMismatch (is_text x.kind || is_text y.kind)
        (or_fault fault.LimitExceeded (result_ok (operated_kind (sum_operator sign) x.kind y.kind)))
        (texts_wanted b e g sites x.kind y.kind is so)
        (λ t. let parts = or_parts (is_text x.kind) (is_text y.kind) t in
        valued fault.LimitExceeded (Site.number_wanted (kind_here j.known b e) ∷ Site.number_wanted (kind_here j.known b g) ∷ sites) (operated_kind (sum_operator sign) x.kind y.kind) (sum_there sign x.kind y.kind parts.0 parts.1)))
        (λ k made. tt)

    limit_of : (sites : List Site) (o : status.Outcome Kind) → (is_err o ≡ true → has_fault j sites fault.LimitExceeded ≡ true) → IfFault j sites (or_fault fault.LimitExceeded (result_ok o))
    limit_of sites (Ok k) h = tt
    limit_of sites (Err s) h = h refl

    product_limit : (sites : List Site) (sign : TimesSign) (o r : status.Outcome Kind) (x y : Kind) → o ≡ Ok x → r ≡ Ok y → is_text x ≡ false → is_text y ≡ false
        → IfFault j (Site.product_scale sign o r ∷ sites) (or_fault fault.LimitExceeded (result_ok (operated_kind (product_operator sign) x y)))
    product_limit sites Times o r (Num s) (Num t) is so a b =
        limit_of (Site.product_scale Times o r ∷ sites) (product_kind Times (Num s) (Num t))
        (λ err. fault_here j fault.LimitExceeded (Site.product_scale Times o r) sites ((λ i. scale_exceeded Times (is i) (so i)) ∙ err))
    product_limit sites Over o r (Num s) (Num t) is so a b =
        limit_of (Site.product_scale Over o r ∷ sites) (product_kind Over (Num s) (Num t))
        (λ err. fault_here j fault.LimitExceeded (Site.product_scale Over o r) sites ((λ i. scale_exceeded Over (is i) (so i)) ∙ err))
    product_limit sites sign o r (Chars n) y is so a b = cc
    product_limit sites sign o r (Vary n) y is so a b = cc
    product_limit sites sign o r (Num s) (Chars n) is so a b = cc
    product_limit sites sign o r (Num s) (Vary n) is so a b = cc

    product_faults : (b : Around) (sign : TimesSign) (e g : Expr Named) (sites : List Site) (x y : Bound) → kind_here j.known b e ≡ Ok x.kind → kind_here j.known b g ≡ Ok y.kind
        → IfFault j (Site.number_wanted (kind_here j.known b e) ∷ Site.number_wanted (kind_here j.known b g) ∷ Site.product_scale sign (kind_here j.known b e) (kind_here j.known b g) ∷ sites) (operated_as (product_operator sign) x y)
    product_faults b sign e g sites x y is so =
        next_fault j all (kind_operated (product_operator sign) x.kind y.kind) (λ k. Ok (operands (product_operator sign) x y k))
        (if_fault j all fault.KindMismatch (is_text x.kind || is_text y.kind) (or_fault fault.LimitExceeded (result_ok (operated_kind (product_operator sign) x.kind y.kind)))
        (texts_wanted b e g (scale ∷ sites) x.kind y.kind is so)
        (λ t. let parts = or_parts (is_text x.kind) (is_text y.kind) t in
        more_sites j (scale ∷ sites) all (or_fault fault.LimitExceeded (result_ok (operated_kind (product_operator sign) x.kind y.kind)))
        (λ f h. fault_later j f (Site.number_wanted (kind_here j.known b e)) (Site.number_wanted (kind_here j.known b g) ∷ scale ∷ sites) (fault_later j f (Site.number_wanted (kind_here j.known b g)) (scale ∷ sites) h))
        (product_limit sites sign (kind_here j.known b e) (kind_here j.known b g) x.kind y.kind is so parts.0 parts.1)))
        (λ k made. tt)
      where
        scale : Site
        scale = Site.product_scale sign (kind_here j.known b e) (kind_here j.known b g)

        all : List Site
        all = Site.number_wanted (kind_here j.known b e) ∷ Site.number_wanted (kind_here j.known b g) ∷ scale ∷ sites

    -- the faults of a set function
    call_faults : (f : SetFunction) (o : status.Outcome Kind) (k : Kind) → o ≡ Ok k → IfFault j (summed_sites f o) (kind_of_call f k)
    call_faults Count o k is = tt
    call_faults Min o k is = tt
    call_faults Max o k is = tt
    call_faults Sum o (Num s) is = tt
    call_faults Sum o (Chars n) is = fault_here j fault.KindMismatch (Site.number_wanted o) [] (ap is_of_text is)
    call_faults Sum o (Vary n) is = fault_here j fault.KindMismatch (Site.number_wanted o) [] (ap is_of_text is)
    call_faults Avg o (Num s) is = tt
    call_faults Avg o (Chars n) is = fault_here j fault.KindMismatch (Site.number_wanted o) [] (ap is_of_text is)
    call_faults Avg o (Vary n) is = fault_here j fault.KindMismatch (Site.number_wanted o) [] (ap is_of_text is)

    or_also : (a p q : Bool) → (p ≡ true → q ≡ true) → (a || p) ≡ true → (a || q) ≡ true
    or_also true p q h t = refl
    or_also false p q h t = h t

    function_faults : (allowed inside : Bool) (n : ℕ) (f : SetFunction) (distinct : Bool) (e : Expr Named) (x : Bound) → bound scopes j.known.parameters false true e 0 ≡ Ok x
        → IfFault j (expr_sites j.known (standing queries allowed inside) (set_function f distinct e)) (function_over allowed n f distinct x)
    function_faults allowed inside n f distinct e x is =
        if_fault j (called ∷ summed ++ inner) fault.MisplacedSetFunction (not allowed || nat_lt 0 x.findings.reach) (and_then (kind_of_call f x.kind) (λ k. Ok (function_call n f distinct x k)))
        (λ t. fault_here j fault.MisplacedSetFunction called (summed ++ inner)
        (or_also (not allowed) (nat_lt 0 x.findings.reach) (reads_outer j.known (standing queries allowed inside) e) (outer_found j scopes queries over (standing queries allowed inside) refl false true e 0 x is) t))
        (λ t. next_fault j (called ∷ summed ++ inner) (kind_of_call f x.kind) (λ k. Ok (function_call n f distinct x k))
        (more_sites j summed (called ∷ summed ++ inner) (kind_of_call f x.kind) (λ g h. fault_later j g called (summed ++ inner) (fault_left j g summed inner h))
        (call_faults f (kind_here j.known (standing queries allowed inside) e) x.kind (kind_found j scopes queries over false true e 0 x is)))
        (λ k made. tt))
      where
        called : Site
        called = Site.function_called (standing queries allowed inside) (Some e)

        summed : List Site
        summed = summed_sites f (kind_here j.known (standing queries allowed inside) e)

        inner : List Site
        inner = expr_sites j.known (standing queries false true) e

    count_faults : (allowed inside : Bool) (n : ℕ) → IfFault j (expr_sites j.known (standing queries allowed inside) count_rows) (count_bound allowed n)
    count_faults true inside n = tt
    count_faults false inside n = refl

    -- the faults of a value expression
    abbrev sites_of : (allowed inside : Bool) → Expr Named → List Site
    sites_of allowed inside e = expr_sites j.known (standing queries allowed inside) e

    abbrev wanted : (allowed inside : Bool) → Expr Named → Site
    wanted allowed inside e = Site.number_wanted (kind_here j.known (standing queries allowed inside) e)

    scaled_later : (allowed inside : Bool) (sign : TimesSign) (e g : Expr Named) (f : BindingFault) → has_fault j (sites_of allowed inside e ++ sites_of allowed inside g) f ≡ true
        → has_fault j (sites_of allowed inside (scaled sign e g)) f ≡ true
    scaled_later allowed inside sign e g f h =
        let scale = Site.product_scale sign (kind_here j.known (standing queries allowed inside) e) (kind_here j.known (standing queries allowed inside) g) in
        let both = sites_of allowed inside e ++ sites_of allowed inside g in
        fault_later j f (wanted allowed inside e) (wanted allowed inside g ∷ scale ∷ both) (fault_later j f (wanted allowed inside g) (scale ∷ both) (fault_later j f scale both h))

    pub expr_faults : (e : Expr Named) → SpellsNoNull e → (allowed inside : Bool) (n : ℕ) → IfFault j (expr_sites j.known (standing queries allowed inside) e) (bound scopes j.known.parameters allowed inside e n)
    expr_faults (literal value.Null) null allowed inside n = absurd null
    expr_faults (literal (value.Num x)) null allowed inside n = tt
    expr_faults (literal (value.Chars t)) null allowed inside n = tt
    expr_faults (parameter p) null allowed inside n = parameter_faults p (parameter_named j.known.parameters p.name) (parameter_found j.known p.name)
    expr_faults user null allowed inside n = tt
    expr_faults (column c) null allowed inside n = column_faults allowed inside c (column_meant c scopes) (column_found j.known c scopes queries over)
    expr_faults count_rows null allowed inside n = count_faults allowed inside n
    expr_faults (set_function f distinct e) null allowed inside n =
        next_fault j (sites_of allowed inside (set_function f distinct e)) (bound scopes j.known.parameters false true e 0) (function_over allowed n f distinct)
        (more_sites j (sites_of false true e) (sites_of allowed inside (set_function f distinct e)) (bound scopes j.known.parameters false true e 0)
        (λ g h. fault_later j g (Site.function_called (standing queries allowed inside) (Some e)) (summed_sites f (kind_here j.known (standing queries allowed inside) e) ++ sites_of false true e)
        (fault_right j g (summed_sites f (kind_here j.known (standing queries allowed inside) e)) (sites_of false true e) h))
        (expr_faults e null false true 0))
        (λ x is. function_faults allowed inside n f distinct e x is)
    expr_faults (signed sign e) null allowed inside n =
        next_fault j (sites_of allowed inside (signed sign e)) (bound scopes j.known.parameters allowed inside e n) (signed_as sign)
        (more_sites j (sites_of allowed inside e) (sites_of allowed inside (signed sign e)) (bound scopes j.known.parameters allowed inside e n)
        (λ f h. fault_later j f (wanted allowed inside e) (sites_of allowed inside e) h) (expr_faults e null allowed inside n))
        (λ x is. if_fault j (sites_of allowed inside (signed sign e)) fault.KindMismatch (is_text x.kind) (Ok (signed_by sign x))
        (λ t. fault_here j fault.KindMismatch (wanted allowed inside e) (sites_of allowed inside e) (text_wanted (standing queries allowed inside) e x.kind (kind_found j scopes queries over allowed inside e n x is) t)) (λ t. tt))
    expr_faults (added sign e g) null allowed inside n =
        next_fault j (sites_of allowed inside (added sign e g)) (bound scopes j.known.parameters allowed inside e n) (λ x. and_then (bound scopes j.known.parameters allowed inside g (n + length x.calls)) (operated_as (sum_operator sign) x))
        (more_sites j (sites_of allowed inside e) (sites_of allowed inside (added sign e g)) (bound scopes j.known.parameters allowed inside e n)
        (λ f h. fault_later j f (wanted allowed inside e) (wanted allowed inside g ∷ sites_of allowed inside e ++ sites_of allowed inside g)
        (fault_later j f (wanted allowed inside g) (sites_of allowed inside e ++ sites_of allowed inside g) (fault_left j f (sites_of allowed inside e) (sites_of allowed inside g) h)))
        (expr_faults e null.0 allowed inside n))
        (λ x is.
        next_fault j (sites_of allowed inside (added sign e g)) (bound scopes j.known.parameters allowed inside g (n + length x.calls)) (operated_as (sum_operator sign) x)
        (more_sites j (sites_of allowed inside g) (sites_of allowed inside (added sign e g)) (bound scopes j.known.parameters allowed inside g (n + length x.calls))
        (λ f h. fault_later j f (wanted allowed inside e) (wanted allowed inside g ∷ sites_of allowed inside e ++ sites_of allowed inside g)
        (fault_later j f (wanted allowed inside g) (sites_of allowed inside e ++ sites_of allowed inside g) (fault_right j f (sites_of allowed inside e) (sites_of allowed inside g) h)))
        (expr_faults g null.1 allowed inside (n + length x.calls)))
        (λ y so. sum_faults (standing queries allowed inside) sign e g (sites_of allowed inside e ++ sites_of allowed inside g) x y (kind_found j scopes queries over allowed inside e n x is) (kind_found j scopes queries over allowed inside g (n + length x.calls) y so)))
    expr_faults (scaled sign e g) null allowed inside n =
        next_fault j (sites_of allowed inside (scaled sign e g)) (bound scopes j.known.parameters allowed inside e n) (λ x. and_then (bound scopes j.known.parameters allowed inside g (n + length x.calls)) (operated_as (product_operator sign) x))
        (more_sites j (sites_of allowed inside e) (sites_of allowed inside (scaled sign e g)) (bound scopes j.known.parameters allowed inside e n)
        (λ f h. scaled_later allowed inside sign e g f (fault_left j f (sites_of allowed inside e) (sites_of allowed inside g) h)) (expr_faults e null.0 allowed inside n))
        (λ x is.
        next_fault j (sites_of allowed inside (scaled sign e g)) (bound scopes j.known.parameters allowed inside g (n + length x.calls)) (operated_as (product_operator sign) x)
        (more_sites j (sites_of allowed inside g) (sites_of allowed inside (scaled sign e g)) (bound scopes j.known.parameters allowed inside g (n + length x.calls))
        (λ f h. scaled_later allowed inside sign e g f (fault_right j f (sites_of allowed inside e) (sites_of allowed inside g) h)) (expr_faults g null.1 allowed inside (n + length x.calls)))
        (λ y so. product_faults (standing queries allowed inside) sign e g (sites_of allowed inside e ++ sites_of allowed inside g) x y (kind_found j scopes queries over allowed inside e n x is) (kind_found j scopes queries over allowed inside g (n + length x.calls) y so)))
    expr_faults (bracketed e) null allowed inside n = expr_faults e null allowed inside n

-- ---- what is found

module _ (j : Judged) (scopes : List Scope) (queries : List EnclosingQuery) (over : AllZip (IsOver j.known) scopes queries) where
  -- a column of the query that stands outside set functions and is no grouping column is a fault for the rules, if the query is grouped
  abbrev pub FreeIs : Bool → Expr Named → Bound → Type 0
  FreeIs allowed e x = x.findings.has_ungrouped ≡ true → GroupsAt j.known scopes queries 0 → has_fault j (expr_sites j.known (standing queries allowed false) e) fault.UngroupedColumn ≡ true

  free_both : (allowed : Bool) (e g : Expr Named) (before : List Site) (x y : Bound) → FreeIs allowed e x → FreeIs allowed g y → (x.findings.has_ungrouped || y.findings.has_ungrouped) ≡ true → GroupsAt j.known scopes queries 0
      → has_fault j (before ++ (expr_sites j.known (standing queries allowed false) e ++ expr_sites j.known (standing queries allowed false) g)) fault.UngroupedColumn ≡ true
  free_both allowed e g before x y h k t groups =
      fault_right j fault.UngroupedColumn before (expr_sites j.known (standing queries allowed false) e ++ expr_sites j.known (standing queries allowed false) g)
      (either x.findings.has_ungrouped y.findings.has_ungrouped t
      (λ at. fault_left j fault.UngroupedColumn (expr_sites j.known (standing queries allowed false) e) (expr_sites j.known (standing queries allowed false) g) (h at groups))
      (λ at. fault_right j fault.UngroupedColumn (expr_sites j.known (standing queries allowed false) e) (expr_sites j.known (standing queries allowed false) g) (k at groups)))

  free_cases : Cases scopes j.known.parameters (λ allowed n e x. FreeIs allowed e x)
  free_cases = record {
    of_literal = λ allowed n v k is t groups. cc;
    of_parameter = λ allowed n p at i is so t groups. cc;
    of_user = λ allowed n t groups. cc;
    of_column = λ allowed n c found is t groups.
        let parts = and_parts (nat_eq found.depth 0) (not found.is_grouped) t in
        let here : found.depth ≡ 0 = grind (arith, nat_tests, parts.0) in
        fault_here j fault.UngroupedColumn (Site.column_read (standing queries allowed false) c) []
        (ungrouped_breaks j scopes queries over allowed c found (meant_there j scopes queries over c found is) (subst (GroupsAt j.known scopes queries) (sym here) groups) (not-true found.is_grouped parts.1));
    of_count = λ n t groups. cc;
    of_function = λ n f distinct e x k h own is t groups. cc;
    of_signed = λ allowed n sign e x h number t groups.
        fault_later j fault.UngroupedColumn (Site.number_wanted (kind_here j.known (standing queries allowed false) e)) (expr_sites j.known (standing queries allowed false) e) (h t groups);
    of_added = λ allowed n sign e g x y k h l is t groups.
        free_both allowed e g (Site.number_wanted (kind_here j.known (standing queries allowed false) e) ∷ Site.number_wanted (kind_here j.known (standing queries allowed false) g) ∷ []) x y h l t groups;
    of_scaled = λ allowed n sign e g x y k h l is t groups.
        free_both allowed e g
        (Site.number_wanted (kind_here j.known (standing queries allowed false) e) ∷ Site.number_wanted (kind_here j.known (standing queries allowed false) g)
        ∷ Site.product_scale sign (kind_here j.known (standing queries allowed false) e) (kind_here j.known (standing queries allowed false) g) ∷ [])
        x y h l t groups;
    of_bracketed = λ allowed n e x h. h;
  }

  pub free_found : (allowed inside : Bool) (e : Expr Named) (n : ℕ) (x : Bound) → bound scopes j.known.parameters allowed inside e n ≡ Ok x → FreeIs allowed e x
  free_found = it_holds scopes j.known.parameters (λ allowed n e x. FreeIs allowed e x) free_cases

-- ---- set functions

pub some_both : {A B : Type 0} (xs ys : List A) (us vs : List B) → (is_some_of xs ≡ true → is_some_of us ≡ true) → (is_some_of ys ≡ true → is_some_of vs ≡ true) → is_some_of (xs ++ ys) ≡ true → is_some_of (us ++ vs) ≡ true
some_both xs ys (u ∷ us) vs h g t = refl
some_both [] ys [] vs h g t = g t
some_both (x ∷ xs) ys [] vs h g t = absurd (false≢true (h refl))

module _ (scopes : List Scope) (parameters : List Declared) where
  called_cases : Cases scopes parameters (λ allowed n e x. is_some_of x.calls ≡ true → is_some_of (set_functions e) ≡ true)
  called_cases = record {
    of_literal = λ allowed n v k is t. t;
    of_parameter = λ allowed n p at i is so t. t;
    of_user = λ allowed n t. t;
    of_column = λ allowed n c found is t. t;
    of_count = λ n t. refl;
    of_function = λ n f distinct e x k h own is t. refl;
    of_signed = λ allowed n sign e x h number t. h t;
    of_added = λ allowed n sign e g x y k h l is t. some_both x.calls y.calls (set_functions e) (set_functions g) h l t;
    of_scaled = λ allowed n sign e g x y k h l is t. some_both x.calls y.calls (set_functions e) (set_functions g) h l t;
    of_bracketed = λ allowed n e x h. h;
  }

  -- an expression that adds set functions has some
  pub called_found : (allowed inside : Bool) (e : Expr Named) (n : ℕ) (x : Bound) → bound scopes parameters allowed inside e n ≡ Ok x → is_some_of x.calls ≡ true → is_some_of (set_functions e) ≡ true
  called_found = it_holds scopes parameters (λ allowed n e x. is_some_of x.calls ≡ true → is_some_of (set_functions e) ≡ true) called_cases
