-- A value expression is bound to a tree by place that is well formed at the levels of its scopes, of its kind (ISO/IEC 9075:1992, 6.2 to
-- 6.5 and 6.11 to 6.13).
use Rattle.std.proofs.Common.{◌≡◌, ℕ, Bool, true, false, not, ◌&&◌, List, max, Option, Some, None, Ok, Err, arith, refl, sym, ap, subst, ◌∙◌}
use Rattle.std.proofs.lemmas.Bool.{eqb-true, ltb-false, and_parts}
use Rattle.std.proofs.lemmas.Option.{slice_get-map}
use Rattle.std.specs.Prelude.{IfSome, IsTrue, ◌==◌, nat_eq, nat_le, nat_lt, slice_get, if◌then◌else◌}
use Rattle.std.specs.List.{position}
use Rattle.std.specs.Option.{option_map, option_and_then}
use Rattle.sq_lex.specs.declared.name.Name.{Name}
use Rattle.sq_value.specs.Domain.{kind_of}
use Rattle.sq_value.specs.declared.domain.Domain.{Domain}
use Rattle.sq_value.specs.declared.domain.Domain.TheVariants as domain
use Rattle.sq_value.specs.declared.domain.Kind.{Kind}
use Rattle.sq_value.specs.declared.domain.Kind.TheVariants.{Num}
use Rattle.sq_tree.specs.declared.names.ColumnReference.{ColumnReference}
use Rattle.sq_tree.specs.declared.names.Indicator.{Indicator}
use Rattle.sq_meaning.specs.Environment.{Place, same_name}
use Rattle.sq_meaning.specs.Kind.{function_kind, kind, product_kind, signed_kind, sum_kind}
use Rattle.sq_meaning.specs.Spelled.{Named}
use Rattle.sq_meaning.specs.Status as status
use Rattle.sq_meaning.specs.Syntax.{Expr, literal, parameter, user, column, count_rows, set_function, signed, added, scaled}
use Rattle.sq_meaning.specs.Tables.{Declared}
use Rattle.sq_meaning.specs.WellFormed.{HasValue, IsInQuery, IsThere, inside_function, froms, kinds_by_place}
use Rattle.sq_bound.specs.Expression.{PlacedExpr}
use Rattle.sq_bound.specs.WellFormed.{Levels, TableKinds}
use Rattle.sq_meaning.specs.Binding.{is_indicator_domain}
use Rattle.sq_meaning.specs.declared.fault.BindingFault.TheVariants as fault
use Rattle.sq_binding.specs.Expression.{Bound, as_indicator, bound, indicator_bound, parameter_named, place_of_found}
use Rattle.sq_binding.specs.Outcome.{Outcome, and_then, or_fault}
use Rattle.sq_binding.specs.Placed.{placed}
use Rattle.sq_binding.specs.Scope.{FoundColumn, Scope, column_meant}
use Rattle.sq_binding.proofs.Inductions.Cases.{CasesInside, it_holds_inside}
use Rattle.sq_binding.proofs.Standing.Levels.{AreLevels, HasKind, Stands, column_stands, grouped_allows, inside_froms, inside_levels, inside_read, kinds_declared, level_kind, line_read, may_read, reads_first, reads_second}
use Rattle.sq_binding.proofs.Placing.Placed.{column_placed, found_at, parameter_placed, product_kind_is, signed_number, sum_kind_is}

-- ---- parameters

module _ (parameters : List Declared) where
  kind_named : (o : Option ℕ) (at : ℕ × Domain) → or_fault fault.UnknownParameter (option_and_then (λ at. option_map {U = ℕ × Domain} (λ p. (at, p.domain)) (slice_get parameters at)) o) ≡ Ok at
      → slice_get (kinds_declared parameters) at.0 ≡ Some (kind_of at.1)
  kind_named None at e = cc
  kind_named (Some n) at e = of_parameter (slice_get parameters n) refl e
    where
      of_parameter : (o : Option Declared) → slice_get parameters n ≡ o → or_fault fault.UnknownParameter (option_map {U = ℕ × Domain} (λ p. (n, p.domain)) o) ≡ Ok at → slice_get (kinds_declared parameters) at.0 ≡ Some (kind_of at.1)
      of_parameter None is e = cc
      of_parameter (Some p) is e =
          let same : ◌≡◌ {A = ℕ × Domain} (n, p.domain) at = cc in
          subst (λ (at : ℕ × Domain). slice_get (kinds_declared parameters) at.0 ≡ Some (kind_of at.1)) same
          (slice_get-map (λ (p : Declared). kind_of p.domain) parameters n ∙ ap (option_map (λ (p : Declared). kind_of p.domain)) is)

  pub parameter_there : (name : Name) (at : ℕ × Domain) → parameter_named parameters name ≡ Ok at → slice_get (kinds_declared parameters) at.0 ≡ Some (kind_of at.1)
  parameter_there name at e = kind_named (position (λ p. same_name p.name name) parameters) at e

  has_value : (o : Option Kind) (k : Kind) → o ≡ Some k → HasValue (status.well_formed o)
  has_value o k e = subst (λ o. HasValue (status.well_formed o)) (sym e) tt

  indicator_as : (t : Bool) (p : ℕ × Domain) (at : Option ℕ) → ◌≡◌ {A = Outcome (Option ℕ)} (if t then Ok (Some p.0) else Err fault.BadIndicator) (Ok at) → Some p.0 ≡ at
  indicator_as true p at e = cc
  indicator_as false p at e = cc

  indicator_there : (i : Option Indicator) (at : Option ℕ) → indicator_bound parameters i ≡ Ok at → IsThere (kinds_declared parameters) at
  indicator_there None at e = let same : None ≡ at = cc in subst (IsThere (kinds_declared parameters)) same tt
  indicator_there (Some i) at e = named (parameter_named parameters i.name) refl e
    where
      named : (o : Outcome (ℕ × Domain)) → parameter_named parameters i.name ≡ o → and_then o as_indicator ≡ Ok at → IsThere (kinds_declared parameters) at
      named (Err f) is e = cc
      named (Ok p) is e =
          subst (IsThere (kinds_declared parameters)) (indicator_as (is_indicator_domain p.1) p at e) (has_value (slice_get (kinds_declared parameters) p.0) (kind_of p.1) (parameter_there i.name p is))

-- an indicator parameter is of whole numbers
indicator_kind : (d : Domain) → is_indicator_domain d ≡ true → kind_of d ≡ Num 0
indicator_kind domain.Small e = refl
indicator_kind domain.Int e = refl
indicator_kind (domain.Numeric p s) e = ap Num (eqb-true s 0 (and_parts (nat_le 3 p) (s == 0) e).1)
indicator_kind (domain.Char n) e = cc
indicator_kind (domain.VarChar n) e = cc

module _ (parameters : List Declared) where
  pub indicator_whole : (i : Option Indicator) (at : Option ℕ) → indicator_bound parameters i ≡ Ok at → IfSome at (λ p. slice_get (kinds_declared parameters) p ≡ Some (Num 0))
  indicator_whole None at e = let same : None ≡ at = cc in subst (λ at. IfSome at (λ p. slice_get (kinds_declared parameters) p ≡ Some (Num 0))) same tt
  indicator_whole (Some i) at e = named (parameter_named parameters i.name) refl e
    where
      whole : (t : Bool) (p : ℕ × Domain) → is_indicator_domain p.1 ≡ t → parameter_named parameters i.name ≡ Ok p → ◌≡◌ {A = Outcome (Option ℕ)} (if t then Ok (Some p.0) else Err fault.BadIndicator) (Ok at)
          → IfSome at (λ p. slice_get (kinds_declared parameters) p ≡ Some (Num 0))
      whole true p fits is e =
          let same : Some p.0 ≡ at = cc in
          subst (λ at. IfSome at (λ p. slice_get (kinds_declared parameters) p ≡ Some (Num 0))) same (parameter_there parameters i.name p is ∙ ap (λ (k : Kind). Some k) (indicator_kind p.1 fits))
      whole false p fits is e = cc

      named : (o : Outcome (ℕ × Domain)) → parameter_named parameters i.name ≡ o → and_then o as_indicator ≡ Ok at → IfSome at (λ p. slice_get (kinds_declared parameters) p ≡ Some (Num 0))
      named (Err f) is e = cc
      named (Ok p) is e = whole (is_indicator_domain p.1) p refl is e

-- ---- value expressions

-- What an expression is bound to may stand at the levels of its scopes, outside a set function or as the operand of one, which reads
-- columns of its own query alone.
pub record ExprStands (columns : TableKinds) (scopes : List Scope) (parameters : List Declared) (allowed inside : Bool) (e : Expr Named) (b : Bound) : Type 0 where
  pub tree : PlacedExpr
  pub is_placed : placed scopes parameters e ≡ Ok tree
  pub stands : (levels : Levels) → AreLevels columns levels scopes → (allowed ≡ true → IsInQuery levels) → IsTrue (may_read levels b.findings.has_ungrouped) → (inside ≡ true → b.findings.reach ≡ 0)
      → HasKind columns (kinds_declared parameters) levels tree b.kind × Stands columns (kinds_declared parameters) levels tree

module _ (columns : TableKinds) (scopes : List Scope) (parameters : List Declared) where
  both_kinds : (f : Kind → Kind → status.Outcome Kind) (x y : status.Outcome Kind) (k l m : Kind) → x ≡ Ok k → y ≡ Ok l → f k l ≡ Ok m → status.and_then x (λ a. status.and_then y (f a)) ≡ Ok m
  both_kinds f x y k l m g h e = ap (λ (x : status.Outcome Kind). status.and_then x (λ a. status.and_then y (f a))) g ∙ ap (λ (y : status.Outcome Kind). status.and_then y (f k)) h ∙ e

  left_none : (a b : ℕ) → max a b ≡ 0 → a ≡ 0
  left_none a b e = omega (arith, e)

  right_none : (a b : ℕ) → max a b ≡ 0 → b ≡ 0
  right_none a b e = omega (arith, e)

  no_reach : (n : ℕ) → nat_lt 0 n ≡ false → n ≡ 0
  no_reach n e = omega (arith, ltb-false 0 n e)

  -- a column that a reference means
  pub column_there : (allowed inside : Bool) (c : ColumnReference) (found : FoundColumn) → column_meant c scopes ≡ Ok found → (nat_lt 0 found.depth && not found.is_grouped && not inside) ≡ false
      → (levels : Levels) → AreLevels columns levels scopes → IsTrue (may_read levels (nat_eq found.depth 0 && not found.is_grouped)) → (inside ≡ true → found.depth ≡ 0)
      → HasKind columns (kinds_declared parameters) levels (column (place_of_found found)) found.column.kind × Stands columns (kinds_declared parameters) levels (column (place_of_found found))
  column_there allowed inside c found is may levels are reads own =
      let at = found_at c scopes found is in (
        level_kind columns levels scopes found.depth found.item at.number found.column are at.there,
        column_stands columns (kinds_declared parameters) levels (place_of_found found)
            (line_read columns levels scopes at.scope inside found.is_grouped found.depth are at.here (λ t. grouped_allows at.scope.grouping found.item found.column.position (sym at.grouped ∙ t)) may reads own),
      )

  cases : CasesInside scopes parameters (λ allowed inside n e b. ExprStands columns scopes parameters allowed inside e b)
  cases = record {
    of_literal = λ allowed inside n v k is. record { tree = literal v; is_placed = refl; stands = λ levels are functions reads own. (is, λ rows_of. tt) };
    of_parameter = λ allowed inside n p at i is so. record {
      tree = parameter (record { position = at.0; indicator = i });
      is_placed = parameter_placed scopes parameters p at i is so;
      stands = λ levels are functions reads own.
          let there = parameter_there parameters p.name at is in
          (ap status.well_formed there, λ rows_of. (has_value parameters (slice_get (kinds_declared parameters) at.0) (kind_of at.1) there, indicator_there parameters p.indicator i so));
    };
    of_user = λ allowed inside n. record { tree = user; is_placed = refl; stands = λ levels are functions reads own. (refl, λ rows_of. tt) };
    of_column = λ allowed inside n c found is may. record {
      tree = column (place_of_found found);
      is_placed = ap (λ (o : status.Outcome Place). status.and_then o (λ p. Ok (column p))) (column_placed c scopes found is);
      stands = λ levels are functions reads own. column_there allowed inside c found is may levels are reads own;
    };
    of_count = λ inside n. record { tree = count_rows; is_placed = refl; stands = λ levels are functions reads own. (refl, λ rows_of. functions refl) };
    of_function = λ inside n f distinct e x k h own is. record {
      tree = set_function f distinct h.tree;
      is_placed = ap (λ (o : status.Outcome PlacedExpr). status.and_then o (λ t. Ok (set_function f distinct t))) h.is_placed;
      stands = λ levels are functions reads alone.
          let operand = h.stands (inside_function levels) (inside_levels columns levels scopes are) (λ no. cc) (inside_read levels x.findings.has_ungrouped) (λ t. no_reach x.findings.reach own) in (
            ap (λ (o : status.Outcome Kind). status.and_then o (function_kind f))
                (ap (λ from. kind (kinds_by_place columns (kinds_declared parameters)) from h.tree) (sym (inside_froms levels)) ∙ operand.0) ∙ is,
            λ rows_of. (functions refl, operand.1 rows_of),
          );
    };
    of_signed = λ allowed inside n sign e x h number. record {
      tree = signed sign h.tree;
      is_placed = ap (λ (o : status.Outcome PlacedExpr). status.and_then o (λ t. Ok (signed sign t))) h.is_placed;
      stands = λ levels are functions reads own.
          let operand = h.stands levels are functions reads own in
          (ap (λ (o : status.Outcome Kind). status.and_then o signed_kind) operand.0 ∙ signed_number x.kind number, operand.1);
    };
    of_added = λ allowed inside n sign a b x y k h g is. record {
      tree = added sign h.tree g.tree;
      is_placed =
          ap (λ (o : status.Outcome PlacedExpr). status.and_then o (λ t. status.and_then (placed scopes parameters b) (λ u. Ok (added sign t u)))) h.is_placed
          ∙ ap (λ (o : status.Outcome PlacedExpr). status.and_then o (λ u. Ok (added sign h.tree u))) g.is_placed;
      stands = λ levels are functions reads own.
          let left = h.stands levels are functions (reads_first levels x.findings.has_ungrouped y.findings.has_ungrouped reads) (λ t. left_none x.findings.reach y.findings.reach (own t)) in
          let right = g.stands levels are functions (reads_second levels x.findings.has_ungrouped y.findings.has_ungrouped reads) (λ t. right_none x.findings.reach y.findings.reach (own t)) in (
            both_kinds sum_kind (kind (kinds_by_place columns (kinds_declared parameters)) (froms levels) h.tree) (kind (kinds_by_place columns (kinds_declared parameters)) (froms levels) g.tree)
                x.kind y.kind k left.0 right.0 (sum_kind_is sign x.kind y.kind ∙ is),
            λ rows_of. (left.1 rows_of, right.1 rows_of),
          );
    };
    of_scaled = λ allowed inside n sign a b x y k h g is. record {
      tree = scaled sign h.tree g.tree;
      is_placed =
          ap (λ (o : status.Outcome PlacedExpr). status.and_then o (λ t. status.and_then (placed scopes parameters b) (λ u. Ok (scaled sign t u)))) h.is_placed
          ∙ ap (λ (o : status.Outcome PlacedExpr). status.and_then o (λ u. Ok (scaled sign h.tree u))) g.is_placed;
      stands = λ levels are functions reads own.
          let left = h.stands levels are functions (reads_first levels x.findings.has_ungrouped y.findings.has_ungrouped reads) (λ t. left_none x.findings.reach y.findings.reach (own t)) in
          let right = g.stands levels are functions (reads_second levels x.findings.has_ungrouped y.findings.has_ungrouped reads) (λ t. right_none x.findings.reach y.findings.reach (own t)) in (
            both_kinds (product_kind sign) (kind (kinds_by_place columns (kinds_declared parameters)) (froms levels) h.tree) (kind (kinds_by_place columns (kinds_declared parameters)) (froms levels) g.tree)
                x.kind y.kind k left.0 right.0 (product_kind_is sign x.kind y.kind ∙ is),
            λ rows_of. (left.1 rows_of, right.1 rows_of),
          );
    };
    of_bracketed = λ allowed inside n e x h. record { tree = h.tree; is_placed = h.is_placed; stands = h.stands };
  }

  pub expr_stands : (allowed inside : Bool) (e : Expr Named) (n : ℕ) (b : Bound) → bound scopes parameters allowed inside e n ≡ Ok b → ExprStands columns scopes parameters allowed inside e b
  expr_stands = it_holds_inside scopes parameters (λ allowed inside n e b. ExprStands columns scopes parameters allowed inside e b) cases
