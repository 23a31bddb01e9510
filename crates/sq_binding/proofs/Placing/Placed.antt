-- A value expression is bound to the same expression with its columns and parameters placed, of the kind that the definitions
-- give it. Its set functions are in the order of the text (ISO/IEC 9075:1992, 6.2 to 6.5 and 6.11 to 6.13).
use Rattle.std.proofs.Common.{◌≡◌, ℕ, ◌+◌, Bool, true, false, List, [], ◌∷◌, ◌++◌, length, Option, Some, None, Ok, Err, refl, sym, ap, subst, ◌∙◌, append_assoc}
use Rattle.std.proofs.lemmas.List.{length-append}
use Rattle.std.specs.Prelude.{slice_get, slice_index_or, if◌then◌else◌}
use Rattle.std.specs.List.{position}
use Rattle.std.specs.Option.{option_map, option_and_then}
use Rattle.sq_value.specs.Domain.{kind_of}
use Rattle.sq_value.specs.declared.domain.Domain.{Domain}
use Rattle.sq_value.specs.declared.domain.Kind.{Kind}
use Rattle.sq_value.specs.declared.domain.Kind.TheVariants.{Chars, Num, Vary}
use Rattle.sq_tree.specs.declared.expr.Sign.{Sign}
use Rattle.sq_tree.specs.declared.expr.Sign.TheVariants.{Plus, Minus}
use Rattle.sq_tree.specs.declared.expr.TimesSign.{TimesSign}
use Rattle.sq_tree.specs.declared.expr.TimesSign.TheVariants.{Times, Over}
use Rattle.sq_tree.specs.declared.names.ColumnReference.{ColumnReference}
use Rattle.sq_tree.specs.declared.names.Indicator.{Indicator}
use Rattle.sq_tree.specs.declared.names.Parameter.{Parameter}
use Rattle.sq_meaning.specs.Environment as meaning
use Rattle.sq_meaning.specs.Environment.{Place, place_of, same_name}
use Rattle.sq_meaning.specs.Expression.{set_functions}
use Rattle.sq_meaning.specs.Kind.{function_kind, kind, product_kind, signed_kind, sum_kind}
use Rattle.sq_meaning.specs.Spelled.{Named}
use Rattle.sq_meaning.specs.Status as status
use Rattle.sq_meaning.specs.Syntax.{Expr, literal, parameter, user, column, count_rows, set_function, signed, added, scaled}
use Rattle.sq_meaning.specs.Tables.{Declared}
use Rattle.sq_meaning.specs.WellFormed.{is_text}
use Rattle.sq_bound.specs.Expression.{PlacedExpr, missing, operated}
use Rattle.sq_meaning.specs.Binding.{is_indicator_domain}
use Rattle.sq_meaning.specs.declared.fault.BindingFault.{BindingFault}
use Rattle.sq_meaning.specs.declared.fault.BindingFault.TheVariants as fault
use Rattle.sq_binding.specs.Expression.{Bound, as_indicator, bound, column_bound, indicator_bound, operated_kind, parameter_as, parameter_named, place_of_found, plain, product_operator, sum_operator, user_findings}
use Rattle.sq_binding.specs.Findings.{none}
use Rattle.sq_binding.specs.Numbered.{Numbered, tree_of}
use Rattle.sq_binding.specs.Outcome.{Outcome, and_then, or_fault}
use Rattle.sq_binding.specs.Placed.{column_at, column_kind, heads_of, indicator_named, kinds_in, placed, placed_column, position_named}
use Rattle.sq_binding.specs.Scope.{FoundColumn, ItemColumn, Scope, column_meant, column_numbered, fits, found_in, further_out, is_grouped, is_last, nearest}
use Rattle.sq_binding.proofs.Inductions.Cases.{Cases, it_holds}

-- ---- columns

-- The column stands at the place that the reference means, in a scope that is there.
pub record IsAt (r : ColumnReference) (scopes : List Scope) (found : FoundColumn) : Type 0 where
  pub number : ℕ
  pub means : place_of r (heads_of scopes) ≡ Ok (record { depth = found.depth; item = found.item; column = number })
  pub there : column_at scopes (record { depth = found.depth; item = found.item; column = number }) ≡ Some found.column
  pub scope : Scope
  pub here : slice_get scopes found.depth ≡ Some scope
  pub grouped : found.is_grouped ≡ is_grouped scope.grouping found.item found.column.position

module _ (r : ColumnReference) (s : Scope) (outer : List Scope) (last : Bool) where
  only_at : (at : ℕ × ℕ) → fits r s ≡ at ∷ [] → (o : Option ItemColumn) → column_numbered s at ≡ o → (found : FoundColumn) → or_fault fault.UnknownColumn (option_map (found_in s last at) o) ≡ Ok found → IsAt r (s ∷ outer) found
  only_at at e None none found is = cc
  only_at at e (Some c) some found is =
      let same : found_in s last at c ≡ found = cc in
      subst (IsAt r (s ∷ outer)) same (record { number = at.1; means = ap (λ ats. meaning.nearest ats (place_of r (heads_of outer))) e; there = some; scope = s; here = refl; grouped = refl })

  further_at : fits r s ≡ [] → (o : Outcome FoundColumn) → ((f : FoundColumn) → o ≡ Ok f → IsAt r outer f) → (found : FoundColumn) → and_then o (λ f. Ok (further_out f)) ≡ Ok found → IsAt r (s ∷ outer) found
  further_at none (Err g) h found is = cc
  further_at none (Ok f) h found is =
      let same : further_out f ≡ found = cc in
      let at = h f refl in
      subst (IsAt r (s ∷ outer)) same
      (record {
        number = at.number;
        means = ap (λ ats. meaning.nearest ats (place_of r (heads_of outer))) none ∙ ap (λ o. meaning.nearest [] o) at.means;
        there = at.there;
        scope = at.scope;
        here = at.here;
        grouped = at.grouped;
      })

  nearest_at : (ats : List (ℕ × ℕ)) → fits r s ≡ ats → (o : Outcome FoundColumn) → ((f : FoundColumn) → o ≡ Ok f → IsAt r outer f) → (found : FoundColumn) → nearest s last ats o ≡ Ok found → IsAt r (s ∷ outer) found
  nearest_at [] e o h found is = further_at e o h found is
  nearest_at (at ∷ []) e o h found is = only_at at e (column_numbered s at) refl found is
  nearest_at (at ∷ next ∷ others) e o h found is = cc

pub found_at : (r : ColumnReference) (scopes : List Scope) (found : FoundColumn) → column_meant r scopes ≡ Ok found → IsAt r scopes found
found_at r [] found is = cc
found_at r (s ∷ outer) found is = nearest_at r s outer (is_last outer) (fits r s) refl (column_meant r outer) (found_at r outer) found is

pub column_placed : (r : ColumnReference) (scopes : List Scope) (found : FoundColumn) → column_meant r scopes ≡ Ok found → placed_column scopes r ≡ Ok (place_of_found found)
column_placed r scopes found is =
    let at = found_at r scopes found is in
    ap (λ (o : status.Outcome Place). status.and_then o (λ p. status.well_formed (option_map (λ c. record p { column = c.position }) (column_at scopes p)))) at.means
    ∙ ap (λ (o : Option ItemColumn). status.well_formed (option_map (λ c. record { depth = found.depth; item = found.item; column = c.position }) o)) at.there

column_kind_is : (r : ColumnReference) (scopes : List Scope) (found : FoundColumn) → column_meant r scopes ≡ Ok found → column_kind scopes r ≡ Ok found.column.kind
column_kind_is r scopes found is =
    let at = found_at r scopes found is in
    ap (λ (o : status.Outcome Place). status.and_then o (λ p. status.well_formed (option_map (λ c. c.kind) (column_at scopes p)))) at.means
    ∙ ap (λ (o : Option ItemColumn). status.well_formed (option_map (λ c. c.kind) o)) at.there

-- ---- parameters

there_is : {A : Type 0} (g : BindingFault) (o : Option A) (x : A) → or_fault g o ≡ Ok x → status.well_formed o ≡ Ok x
there_is g None x e = cc
there_is g (Some y) x e = let same : y ≡ x = cc in ap Ok same

pub position_is : (parameters : List Declared) (p : Parameter) (at : ℕ × Domain) → parameter_named parameters p.name ≡ Ok at → position_named parameters p.name ≡ Ok at
position_is parameters p at e =
    there_is fault.UnknownParameter (option_and_then (λ at. option_map (λ p. (at, p.domain)) (slice_get parameters at)) (position (λ d. same_name d.name p.name) parameters)) at e

indicator_as : (t : Bool) (p : ℕ × Domain) (at : Option ℕ) → ◌≡◌ {A = Outcome (Option ℕ)} (if t then Ok (Some p.0) else Err fault.BadIndicator) (Ok at) → Some p.0 ≡ at
indicator_as true p at e = cc
indicator_as false p at e = cc

indicator_at : (parameters : List Declared) (i : Indicator) (o : Outcome (ℕ × Domain)) → parameter_named parameters i.name ≡ o → (at : Option ℕ) → and_then o as_indicator ≡ Ok at → indicator_named parameters (Some i) ≡ Ok at
indicator_at parameters i (Err g) is at e = cc
indicator_at parameters i (Ok p) is at e =
    ap (λ (o : status.Outcome (ℕ × Domain)). status.and_then o (λ p. Ok (Some p.0)))
    (there_is fault.UnknownParameter (option_and_then (λ at. option_map (λ p. (at, p.domain)) (slice_get parameters at)) (position (λ d. same_name d.name i.name) parameters)) p is)
    ∙ ap Ok (indicator_as (is_indicator_domain p.1) p at e)

pub indicator_is : (parameters : List Declared) (i : Option Indicator) (at : Option ℕ) → indicator_bound parameters i ≡ Ok at → indicator_named parameters i ≡ Ok at
indicator_is parameters None at e = let same : None ≡ at = cc in ap Ok same
indicator_is parameters (Some i) at e = indicator_at parameters i (parameter_named parameters i.name) refl at e

pub parameter_placed : (scopes : List Scope) (parameters : List Declared) (p : Parameter) (at : ℕ × Domain) (i : Option ℕ) → parameter_named parameters p.name ≡ Ok at → indicator_bound parameters p.indicator ≡ Ok i
    → placed scopes parameters (parameter p) ≡ Ok (parameter (record { position = at.0; indicator = i }))
parameter_placed scopes parameters p at i is so =
    ap (λ (o : status.Outcome (ℕ × Domain)). status.and_then (status.and_then o (λ at. status.and_then (indicator_named parameters p.indicator) (λ i. Ok (record { position = at.0; indicator = i })))) (λ q. Ok (parameter q))) (position_is parameters p at is)
    ∙ ap (λ (o : status.Outcome (Option ℕ)). status.and_then (status.and_then o (λ i. Ok (record { position = at.0; indicator = i }))) (λ q. Ok (parameter q))) (indicator_is parameters p.indicator i so)

-- ---- value expressions

-- What an expression is bound to: its tree, where these set functions of its query stand before its own, and maybe others behind.
pub record IsPlaced (scopes : List Scope) (parameters : List Declared) (allowed : Bool) (n : ℕ) (e : Expr Named) (b : Bound) : Type 0 where
  pub tree : PlacedExpr
  pub is_placed : placed scopes parameters e ≡ Ok tree
  pub is_tree : (before later : List PlacedExpr) → length before ≡ n → tree_of (before ++ (b.calls ++ later)) b.tree ≡ tree
  pub kind_is : kind (kinds_in scopes parameters) [] e ≡ Ok b.kind
  pub in_order : set_functions tree ≡ b.calls
  pub none_forbidden : allowed ≡ false → b.calls ≡ []

at_end : (before later : List PlacedExpr) (call : PlacedExpr) → slice_index_or (before ++ (call ∷ later)) (length before) missing ≡ call
at_end [] later call = refl
at_end (x ∷ before) later call = at_end before later call

called_tree : (n : ℕ) (call : PlacedExpr) (before later : List PlacedExpr) → length before ≡ n → slice_index_or (before ++ (call ∷ later)) n missing ≡ call
called_tree n call before later is = ap (λ m. slice_index_or (before ++ (call ∷ later)) m missing) (sym is) ∙ at_end before later call

pub signed_number : (k : Kind) → is_text k ≡ false → signed_kind k ≡ Ok k
signed_number (Num s) e = refl
signed_number (Chars n) e = cc
signed_number (Vary n) e = cc

sum_tree : (sign : Sign) (x y : PlacedExpr) → operated (sum_operator sign) x y ≡ added sign x y
sum_tree Plus x y = refl
sum_tree Minus x y = refl

pub sum_kind_is : (sign : Sign) (x y : Kind) → sum_kind x y ≡ operated_kind (sum_operator sign) x y
sum_kind_is Plus x y = refl
sum_kind_is Minus x y = refl

product_tree : (sign : TimesSign) (x y : PlacedExpr) → operated (product_operator sign) x y ≡ scaled sign x y
product_tree Times x y = refl
product_tree Over x y = refl

pub product_kind_is : (sign : TimesSign) (x y : Kind) → product_kind sign x y ≡ operated_kind (product_operator sign) x y
product_kind_is Times x y = refl
product_kind_is Over x y = refl

module _ (scopes : List Scope) (parameters : List Declared) where
  -- a part without set functions
  leaf : (allowed : Bool) (n : ℕ) (e : Expr Named) (t : Numbered) (k : Kind) (tree : PlacedExpr) → placed scopes parameters e ≡ Ok tree → ((functions : List PlacedExpr) → tree_of functions t ≡ tree)
      → kind (kinds_in scopes parameters) [] e ≡ Ok k → set_functions tree ≡ [] → (b : Bound) → b.tree ≡ t → b.kind ≡ k → b.calls ≡ [] → IsPlaced scopes parameters allowed n e b
  leaf allowed n e t k tree is same kinded none b bt bk bc = record {
    tree = tree;
    is_placed = is;
    is_tree = λ before later size. ap (tree_of (before ++ (b.calls ++ later))) bt ∙ same (before ++ (b.calls ++ later));
    kind_is = kinded ∙ ap Ok (sym bk);
    in_order = none ∙ sym bc;
    none_forbidden = λ h. bc;
  }

  -- the trees of two operands, each among the set functions of both
  first_tree : (n : ℕ) (x y : Bound) (t : PlacedExpr) → ((before later : List PlacedExpr) → length before ≡ n → tree_of (before ++ (x.calls ++ later)) x.tree ≡ t)
      → (before later : List PlacedExpr) → length before ≡ n → tree_of (before ++ (x.calls ++ y.calls ++ later)) x.tree ≡ t
  first_tree n x y t h before later is = ap (λ l. tree_of (before ++ l) x.tree) (append_assoc x.calls y.calls later) ∙ h before (y.calls ++ later) is

  second_tree : (n : ℕ) (x y : Bound) (t : PlacedExpr) → ((before later : List PlacedExpr) → length before ≡ n + length x.calls → tree_of (before ++ (y.calls ++ later)) y.tree ≡ t)
      → (before later : List PlacedExpr) → length before ≡ n → tree_of (before ++ (x.calls ++ y.calls ++ later)) y.tree ≡ t
  second_tree n x y t h before later is =
      ap (λ l. tree_of l y.tree) (ap (λ l. before ++ l) (append_assoc x.calls y.calls later) ∙ sym (append_assoc before x.calls (y.calls ++ later)))
      ∙ h (before ++ x.calls) later (length-append before x.calls ∙ ap (λ m. m + length x.calls) is)

  cases : Cases scopes parameters (IsPlaced scopes parameters)
  cases = record {
    of_literal = λ allowed n v k is. leaf allowed n (literal v) (Numbered.literal v) k (literal v) refl (λ functions. refl) is refl (plain (Numbered.literal v) k none) refl refl refl;
    of_parameter = λ allowed n p at i is so.
        leaf allowed n (parameter p) (parameter_as at i).tree (kind_of at.1) (parameter (record { position = at.0; indicator = i }))
        (parameter_placed scopes parameters p at i is so)
        (λ functions. refl)
        (ap (λ (o : status.Outcome (ℕ × Domain)). status.and_then o (λ at. Ok (kind_of at.1))) (position_is parameters p at is))
        refl (parameter_as at i) refl refl refl;
    of_user = λ allowed n. leaf allowed n user Numbered.user (Chars 18) user refl (λ functions. refl) refl refl (plain Numbered.user (Chars 18) user_findings) refl refl refl;
    of_column = λ allowed n c found is.
        leaf allowed n (column c) (column_bound found).tree found.column.kind (column (place_of_found found))
        (ap (λ (o : status.Outcome Place). status.and_then o (λ p. Ok (column p))) (column_placed c scopes found is)) (λ functions. refl) (column_kind_is c scopes found is) refl (column_bound found) refl refl refl;
    of_count = λ n. record {
      tree = count_rows;
      is_placed = refl;
      is_tree = called_tree n count_rows;
      kind_is = refl;
      in_order = refl;
      none_forbidden = λ h. cc;
    };
    of_function = λ n f distinct e x k h own is.
        let same : tree_of [] x.tree ≡ h.tree = ap (λ l. tree_of (l ++ []) x.tree) (sym (h.none_forbidden refl)) ∙ h.is_tree [] [] refl in
        record {
          tree = set_function f distinct h.tree;
          is_placed = ap (λ (o : status.Outcome PlacedExpr). status.and_then o (λ t. Ok (set_function f distinct t))) h.is_placed;
          is_tree = λ before later size. called_tree n (set_function f distinct (tree_of [] x.tree)) before later size ∙ ap (set_function f distinct) same;
          kind_is = ap (λ (o : status.Outcome Kind). status.and_then o (function_kind f)) h.kind_is ∙ is;
          in_order = ap (λ t. set_function f distinct t ∷ []) (sym same);
          none_forbidden = λ h. cc;
        };
    of_signed = λ allowed n sign e x h number. record {
      tree = signed sign h.tree;
      is_placed = ap (λ (o : status.Outcome PlacedExpr). status.and_then o (λ t. Ok (signed sign t))) h.is_placed;
      is_tree = λ before later size. ap (signed sign) (h.is_tree before later size);
      kind_is = ap (λ (o : status.Outcome Kind). status.and_then o signed_kind) h.kind_is ∙ signed_number x.kind number;
      in_order = h.in_order;
      none_forbidden = h.none_forbidden;
    };
    of_added = λ allowed n sign a b x y k h g is. record {
      tree = added sign h.tree g.tree;
      is_placed =
          ap (λ (o : status.Outcome PlacedExpr). status.and_then o (λ t. status.and_then (placed scopes parameters b) (λ u. Ok (added sign t u)))) h.is_placed
          ∙ ap (λ (o : status.Outcome PlacedExpr). status.and_then o (λ u. Ok (added sign h.tree u))) g.is_placed;
      is_tree = λ before later size.
          (λ i. operated (sum_operator sign) (first_tree n x y h.tree h.is_tree before later size i) (second_tree n x y g.tree g.is_tree before later size i)) ∙ sum_tree sign h.tree g.tree;
      kind_is =
          ap (λ (o : status.Outcome Kind). status.and_then o (λ l. status.and_then (kind (kinds_in scopes parameters) [] b) (sum_kind l))) h.kind_is
          ∙ ap (λ (o : status.Outcome Kind). status.and_then o (sum_kind x.kind)) g.kind_is ∙ sum_kind_is sign x.kind y.kind ∙ is;
      in_order = λ i. h.in_order i ++ g.in_order i;
      none_forbidden = λ no i. h.none_forbidden no i ++ g.none_forbidden no i;
    };
    of_scaled = λ allowed n sign a b x y k h g is. record {
      tree = scaled sign h.tree g.tree;
      is_placed =
          ap (λ (o : status.Outcome PlacedExpr). status.and_then o (λ t. status.and_then (placed scopes parameters b) (λ u. Ok (scaled sign t u)))) h.is_placed
          ∙ ap (λ (o : status.Outcome PlacedExpr). status.and_then o (λ u. Ok (scaled sign h.tree u))) g.is_placed;
      is_tree = λ before later size.
          (λ i. operated (product_operator sign) (first_tree n x y h.tree h.is_tree before later size i) (second_tree n x y g.tree g.is_tree before later size i)) ∙ product_tree sign h.tree g.tree;
      kind_is =
          ap (λ (o : status.Outcome Kind). status.and_then o (λ l. status.and_then (kind (kinds_in scopes parameters) [] b) (product_kind sign l))) h.kind_is
          ∙ ap (λ (o : status.Outcome Kind). status.and_then o (product_kind sign x.kind)) g.kind_is ∙ product_kind_is sign x.kind y.kind ∙ is;
      in_order = λ i. h.in_order i ++ g.in_order i;
      none_forbidden = λ no i. h.none_forbidden no i ++ g.none_forbidden no i;
    };
    of_bracketed = λ allowed n e x h. record { tree = h.tree; is_placed = h.is_placed; is_tree = h.is_tree; kind_is = h.kind_is; in_order = h.in_order; none_forbidden = h.none_forbidden };
  }

  pub bound_placed : (allowed inside : Bool) (e : Expr Named) (n : ℕ) (b : Bound) → bound scopes parameters allowed inside e n ≡ Ok b → IsPlaced scopes parameters allowed n e b
  bound_placed = it_holds scopes parameters (IsPlaced scopes parameters) cases
