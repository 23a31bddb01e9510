-- On a line with a row that lacks the value to which a test says that its column is equal, the test is false (ISO/IEC 9075:1992, 8.2).
use Rattle.std.proofs.Common.{◌≡◌, ◌∙◌, ◌⊎◌, inl, inr, ℕ, zero, Bool, false, List, [], ◌∷◌, slice_get, slice_index_or, Option, Some, None, refl, sym, ap, subst, Ok, Err}
use Rattle.std.specs.Prelude.{IsTrue}
use Rattle.std.specs.List.{AllZip}
use Rattle.std.specs.Option.{option_and_then}
use Rattle.sq_lex.specs.declared.name.Name.{Name}
use Rattle.sq_value.specs.Comparison.{is_same}
use Rattle.sq_value.specs.Domain.{IsOfKind}
use Rattle.sq_value.specs.SetFunctions.{is_null as is_null_value}
use Rattle.sq_value.specs.Truth.{known}
use Rattle.sq_value.specs.laws.ValueOrder.{same_equiv}
use Rattle.sq_value.specs.declared.domain.Kind.{Kind}
use Rattle.sq_value.specs.declared.domain.Kind.TheVariants as kinds
use Rattle.sq_value.specs.declared.truth.Truth.TheVariants.{False}
use Rattle.sq_value.specs.declared.value.Value.{Value}
use Rattle.sq_value.specs.declared.value.Value.TheVariants.{Null, Num, Chars}
use Rattle.sq_tree.specs.declared.cond.Comparison.TheVariants.{Equal}
use Rattle.sq_meaning.specs.Environment.{Env, Line, Row, Scope, alone}
use Rattle.sq_meaning.specs.Expression.{value}
use Rattle.sq_meaning.specs.Kind.{Kinds, kind}
use Rattle.sq_meaning.specs.Placed.{Placed, by_place}
use Rattle.sq_meaning.specs.Query.{comparison, truth}
use Rattle.sq_meaning.specs.Status.{Outcome, and_then, well_formed}
use Rattle.sq_meaning.specs.Syntax.{column, compare}
use Rattle.sq_meaning.specs.WellFormed.{Fits, Has, HasValue, IsDeclaredAt, HasRowsOf, IsEnvOf, IsRowOf, WellFormedCond, froms, is_comparable, kinds_by_place, of_lines}
use Rattle.sq_meaning.proofs.ReadingKinds.{env_by_place, places_agree}
use Rattle.sq_meaning.proofs.ValueKinds.{value_fits}
use Rattle.sq_bound.specs.Condition.{PlacedCond, cond_of, not_if, predicate_of, test_of}
use Rattle.sq_bound.specs.Expression.{PlacedExpr, expr_of}
use Rattle.sq_bound.specs.Keyed.{AreEqualled}
use Rattle.sq_bound.specs.WellFormed.{Levels, TableKinds}
use Rattle.sq_bound.specs.declared.condition.BoundCond.{BoundCond}
use Rattle.sq_bound.specs.declared.condition.BoundTest.{BoundTest}
use Rattle.sq_bound.specs.declared.condition.TablePlace.{TablePlace}
use Rattle.sq_bound.specs.declared.expression.BoundExpr.{BoundExpr}
use Rattle.sq_bound.proofs.ColumnTests.{compared}
use Rattle.sq_bound.proofs.ConditionLaws.{predicate_of-Bracketed, test_of-out}
use Rattle.sq_expression.specs.Frame.{inputs_of}
use Rattle.sq_query.specs.Around.{beneath}
use Rattle.sq_query.specs.Named.{IsBracketed, IsEqualTo}
use Rattle.sq_query.specs.Union.{AreFitting}
use Rattle.sq_query.proofs.Keys.KeyLacked.{outcomes_differ}
use Rattle.sq_query.proofs.Keys.KeyTests.{in_row}
use Rattle.sq_query.proofs.Keys.KeyedRows.{inputs_are}

-- a condition in brackets means what it says
pub bracketed_tree : (t : BoundTest) (own : BoundCond) → IsBracketed own t → test_of [] t ≡ cond_of [] own
bracketed_tree t own is = test_of-out [] t ∙ ap (λ (b : Bool). not_if b (predicate_of [] t.predicate)) is.0 ∙ ap (predicate_of []) is.1 ∙ predicate_of-Bracketed [] own

-- ---- comparison is the same from either side

turned : (x y : Value) → comparison Equal x y ≡ comparison Equal y x
turned Null Null = refl
turned Null (Num b) = refl
turned Null (Chars t) = refl
turned (Num a) Null = refl
turned (Num a) (Num b) = ap known (same_equiv.symm (Num a) (Num b))
turned (Num a) (Chars t) = refl
turned (Chars s) Null = refl
turned (Chars s) (Num b) = refl
turned (Chars s) (Chars t) = ap known (same_equiv.symm (Chars s) (Chars t))

comparable_turned : (k l : Kind) → IsTrue (is_comparable k l) → IsTrue (is_comparable l k)
comparable_turned (kinds.Num s) (kinds.Num t) h = h
comparable_turned (kinds.Num s) (kinds.Chars n) h = h
comparable_turned (kinds.Num s) (kinds.Vary n) h = h
comparable_turned (kinds.Chars n) (kinds.Num t) h = h
comparable_turned (kinds.Chars n) (kinds.Chars m) h = h
comparable_turned (kinds.Chars n) (kinds.Vary m) h = h
comparable_turned (kinds.Vary n) (kinds.Num t) h = h
comparable_turned (kinds.Vary n) (kinds.Chars m) h = h
comparable_turned (kinds.Vary n) (kinds.Vary m) h = h

pair_turned : (o p : Outcome Kind) → Has (λ k. Has (λ l. IsTrue (is_comparable k l)) p) o → Has (λ l. Has (λ k. IsTrue (is_comparable l k)) o) p
pair_turned (Ok k) (Ok l) h = comparable_turned k l h
pair_turned (Ok k) (Err s) h = absurd h
pair_turned (Err s) p h = absurd h

-- ---- a column that is not equal to a value

module _ (tables : TablePlace → Outcome (List Row)) (columns : TableKinds) (parameters : List Kind) (values : List Value) (caller : Name) (given : IsRowOf parameters values) (fitting : AreFitting columns tables)
    (around : Levels) (scopes : List (Scope (Unit {0}))) (rows_around : AllZip (HasRowsOf (by_place tables) (kinds_by_place columns parameters) (IsDeclaredAt parameters)) around scopes)
    (ts : List TablePlace) (line : Line) (fits : AllZip (λ t row. Has (λ ks. IsRowOf ks row) (columns t)) ts line) where
  abbrev here : Env (Unit {0})
  here = beneath scopes line values caller

  abbrev known_kinds : Kinds (Placed TablePlace)
  known_kinds = kinds_by_place columns parameters

  abbrev levels : Levels
  levels = of_lines ts ∷ around

  abbrev pub IsTestHere : PlacedCond → Type 0
  IsTestHere = WellFormedCond (by_place tables) known_kinds (IsDeclaredAt parameters) levels

  env_is : IsEnvOf (by_place tables) known_kinds (IsDeclaredAt parameters) levels here
  env_is =
      env_by_place tables columns parameters levels (alone [] line ∷ scopes) (inputs_of values) caller (record { line = fits; group = tt }, rows_around) (inputs_are parameters values given)

  module _ (item n : ℕ) (row : Row) (at : slice_get line item ≡ Some row) (v : Value) (v_is : is_null_value v ≡ false) (not_null : (x : Value) → well_formed (slice_get row n) ≡ Ok x → is_null_value x ≡ false)
      (lacks : is_same v (slice_index_or row n Null) ≡ false) where
    abbrev own : PlacedExpr
    own = column (record { depth = zero; item = item; column = n })

    abbrev cell : Outcome Value
    cell = well_formed (slice_get row n)

    cell_is : value (by_place tables) own here ≡ cell
    cell_is = ap (λ (o : Option Row). well_formed (option_and_then (λ r. slice_get r n) o)) at

    module _ (e : PlacedExpr) (e_is : value (by_place tables) e here ≡ Ok v) where
      fits_of : (x : PlacedExpr) → IsTestHere (compare Equal own e) ⊎ IsTestHere (compare Equal e own) → (o : Outcome Value) → value (by_place tables) x here ≡ o
          → Fits IsOfKind (kind known_kinds (froms levels) x) (value (by_place tables) x here) → Fits IsOfKind (kind known_kinds (froms levels) x) o
      fits_of x well o is h = subst (Fits IsOfKind (kind known_kinds (froms levels) x)) is h

      compared_there : (known : Outcome Kind) → HasValue known → Fits IsOfKind known cell → HasValue (and_then cell (λ x. Ok (comparison Equal x v)))
      compared_there (Err s) there is = absurd there
      compared_there (Ok k) there is = by (slice_get row n) is
        where
          by : (o : Option Value) → Fits IsOfKind (Ok k) (well_formed o) → HasValue (and_then (well_formed o) (λ x. Ok (comparison Equal x v)))
          by (Some x) is_kind = tt
          by None is_kind = absurd is_kind

      pub false_left : IsTestHere (compare Equal own e) → truth (by_place tables) (compare Equal own e) here ≡ Ok False
      false_left well =
          let agrees = places_agree tables columns parameters fitting in
          let step : truth (by_place tables) (compare Equal own e) here ≡ and_then cell (λ x. Ok (comparison Equal x v)) =
          (λ i. and_then (cell_is i) (λ x. and_then (e_is i) (λ y. Ok (comparison Equal x y)))) in
          let cell_fits = fits_of own (inl well) cell cell_is (value_fits (by_place tables) known_kinds (IsDeclaredAt parameters) agrees levels own here well.0.1 env_is) in
          step
          ∙ outcomes_differ (kind known_kinds (froms levels) own) (kind known_kinds (froms levels) e) cell v well.2
          cell_fits
          (fits_of e (inl well) (Ok v) e_is (value_fits (by_place tables) known_kinds (IsDeclaredAt parameters) agrees levels e here well.1.1 env_is))
          (compared_there (kind known_kinds (froms levels) own) well.0.0 cell_fits)
          (λ x found. (not_null x found, same_equiv.symm x v ∙ ap (is_same v) (sym (in_row row n x found)) ∙ lacks)) v_is

      false_right : IsTestHere (compare Equal e own) → truth (by_place tables) (compare Equal e own) here ≡ Ok False
      false_right well =
          let agrees = places_agree tables columns parameters fitting in
          let step : truth (by_place tables) (compare Equal e own) here ≡ and_then cell (λ x. Ok (comparison Equal x v)) =
          (λ i. and_then (e_is i) (λ y. and_then (cell_is i) (λ x. Ok (comparison Equal y x)))) ∙ (λ i. and_then cell (λ x. Ok (turned v x i))) in
          let cell_fits = fits_of own (inr well) cell cell_is (value_fits (by_place tables) known_kinds (IsDeclaredAt parameters) agrees levels own here well.1.1 env_is) in
          step
          ∙ outcomes_differ (kind known_kinds (froms levels) own) (kind known_kinds (froms levels) e) cell v
          (pair_turned (kind known_kinds (froms levels) e) (kind known_kinds (froms levels) own) well.2)
          cell_fits
          (fits_of e (inr well) (Ok v) e_is (value_fits (by_place tables) known_kinds (IsDeclaredAt parameters) agrees levels e here well.0.1 env_is))
          (compared_there (kind known_kinds (froms levels) own) well.1.0 cell_fits)
          (λ x found. (not_null x found, same_equiv.symm x v ∙ ap (is_same v) (sym (in_row row n x found)) ∙ lacks)) v_is

    -- a test that says that it is
    pub test_false : (e : BoundExpr) (test : BoundTest) → IsEqualTo item n e test → value (by_place tables) (expr_of [] e) here ≡ Ok v → IsTestHere (test_of [] test) → truth (by_place tables) (test_of [] test) here ≡ Ok False
    test_false e test is e_is well = by is.sides
      where
        by : AreEqualled test is.own e ⊎ AreEqualled test e is.own → truth (by_place tables) (test_of [] test) here ≡ Ok False
        by (inl sides) =
            let tree : test_of [] test ≡ compare Equal own (expr_of [] e) = compared test Equal is.own e sides.0 sides.1 ∙ ap (λ (x : PlacedExpr). compare Equal x (expr_of [] e)) is.is_column in
            ap (λ (c : PlacedCond). truth (by_place tables) c here) tree
            ∙ false_left (expr_of [] e) e_is (subst IsTestHere tree well)
        by (inr sides) =
            let tree : test_of [] test ≡ compare Equal (expr_of [] e) own = compared test Equal e is.own sides.0 sides.1 ∙ ap (λ (x : PlacedExpr). compare Equal (expr_of [] e) x) is.is_column in
            ap (λ (c : PlacedCond). truth (by_place tables) c here) tree
            ∙ false_right (expr_of [] e) e_is (subst IsTestHere tree well)
