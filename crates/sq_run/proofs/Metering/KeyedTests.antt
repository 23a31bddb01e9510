-- A test that compares a column with a value that is known does so by its places as by its names (ISO/IEC 9075:1992, 6.2, 6.4 and 8.2; own
-- rule), where the columns of the item stand at their own positions.
use Rattle.std.proofs.Common.{◌≡◌, ℕ, Bool, true, false, not, ◌&&◌, List, [], ◌∷◌, map, Option, Some, None, refl, sym, ap, subst, ◌∙◌, Ok, Err}
use Rattle.std.specs.Prelude.{if◌then◌else◌, nat_eq, slice_get}
use Rattle.std.specs.List.{AllZip, cons_option}
use Rattle.std.specs.Option.{option_map}
use Rattle.std.specs.Result.{result_ok}
use Rattle.std.proofs.lemmas.Bool.{not-true}
use Rattle.sq_lex.specs.declared.name.Name.{Name}
use Rattle.sq_tree.specs.declared.cond.Comparison.TheVariants.{Equal}
use Rattle.sq_tree.specs.declared.expr.Sign.{Sign}
use Rattle.sq_tree.specs.declared.expr.Sign.TheVariants.{Plus, Minus}
use Rattle.sq_tree.specs.declared.names.ColumnReference.{ColumnReference}
use Rattle.sq_value.specs.SetFunctions.{is_null as is_null_value}
use Rattle.sq_value.specs.declared.value.Value.{Value}
use Rattle.sq_value.specs.declared.value.Value.TheVariants.{Null, Num, Chars}
use Rattle.sq_meaning.specs.Environment.{Input, Place, Row, column_in, column_named as column_of_name, input_value, names_item}
use Rattle.sq_meaning.specs.Expression.{value, with_sign}
use Rattle.sq_meaning.specs.Placed.{Placed, by_place}
use Rattle.sq_meaning.specs.Spelled.{Named}
use Rattle.sq_meaning.specs.Status.{Outcome, and_then, not_well_formed, well_formed}
use Rattle.sq_meaning.specs.Environment as environment
use Rattle.sq_meaning.specs.Syntax.{Expr, Cond, Conds, a_cond, column, compare, conds, literal, no_cond, parameter, signed}
use Rattle.sq_meaning.specs.WellFormed.{HasValue}
use Rattle.sq_meaning.specs.Keyed.{column_equal, is_known_value, tests_of}
use Rattle.sq_meaning.specs.Words.{is_some_and}
use Rattle.sq_meaning.proofs.Bind.{bind_ok}
use Rattle.sq_bound.specs.Condition.{PlacedCond}
use Rattle.sq_bound.specs.Expression.{PlacedExpr}
use Rattle.sq_bound.specs.Keyed.{column_named, is_constant}
use Rattle.sq_bound.specs.Known.{KnownTables}
use Rattle.sq_bound.specs.declared.condition.TablePlace.{TablePlace}
use Rattle.sq_bound.specs.declared.names.ParameterDesc.{ParameterDesc}
use Rattle.sq_binding.specs.Placed.{column_at, placed_column, placed_parameter}
use Rattle.sq_binding.specs.PlacedQuery.{cond_placed, conds_placed, expr_placed}
use Rattle.sq_binding.specs.Scope.{FromItem, ItemColumn, item_named}
use Rattle.sq_binding.specs.Select.{Surroundings, of_lines}
use Rattle.sq_binding.specs.Names.{declared, outside}
use Rattle.sq_run.proofs.Sites.ConditionSites.{CondSpellsNoNull, CondsSpellNoNull}
use Rattle.sq_run.proofs.Sites.ExpressionSites.{SpellsNoNull}
use Rattle.sq_expression.specs.Frame.{inputs_of}
use Rattle.sq_query.specs.Keyed.{IsKnownValue}
use Rattle.sq_query.specs.Row as row
use Rattle.sq_run.proofs.Places.Items.{IsInOrder}
use Rattle.sq_run.proofs.Places.Outcomes.{known_of, ok_same}
use Rattle.sq_run.proofs.Places.Parameters.{SameInputs, SameParameter, parameter_same}
use Rattle.sq_run.proofs.Places.Setting.{named, scopes_with}

-- ---- a column of the only item

module _ (item : FromItem) (in_order : IsInOrder item) (r : ColumnReference) (p : Place) where
  abbrev names : List Name
  names = map (λ c. c.name) item.columns

  abbrev IsAt : Type 0
  IsAt = (p.depth ≡ 0) × (column_of_name r.column names ≡ Some p.column)

  abbrev at_column : ItemColumn → Place
  at_column c = record { depth = 0; item = 0; column = c.position }

  by_column : (k : ℕ) → column_of_name r.column names ≡ Some k → (o : Option ItemColumn) → slice_get item.columns k ≡ o
      → well_formed (option_map at_column o) ≡ Ok p → IsAt
  by_column k named None at e = cc
  by_column k named (Some c) at e =
      let same : at_column c ≡ p = ok_same (at_column c) p e in
      (sym (ap (λ (q : Place). q.depth) same), named ∙ ap (λ n. Some n) (sym (in_order k c at) ∙ ap (λ (q : Place). q.column) same))

  named_in : (b : Bool) (k : ℕ) → (if b then column_of_name r.column names else None) ≡ Some k → column_of_name r.column names ≡ Some k
  named_in true k e = e
  named_in false k e = cc

  by_fit : (o : Option ℕ) → column_in r (item_named item) ≡ o
      → and_then (environment.nearest (cons_option (option_map (λ k. (0, k)) o) []) not_well_formed) (λ at. well_formed (option_map (λ c. record at { column = c.position }) (column_at (scopes_with ((item ∷ []) ∷ [])) at))) ≡ Ok p
      → IsAt
  by_fit None fit e = cc
  by_fit (Some k) fit e =
      by_column k (named_in (names_item r.qualifier (item_named item)) k fit) (slice_get item.columns k) refl e

  pub placed_here : placed_column (scopes_with ((item ∷ []) ∷ [])) r ≡ Ok p → IsAt
  placed_here e = by_fit (column_in r (item_named item)) refl e

-- ---- values

known_outcome : (o : Outcome Value) → is_some_and (λ v. not (is_null_value v)) (result_ok o) ≡ true → IsKnownValue o
known_outcome (Ok v) e = not-true (is_null_value v) e
known_outcome (Err status) e = cc

not_null : (v : Value) → SpellsNoNull (literal v) → is_null_value v ≡ false
not_null Null spells = absurd spells
not_null (Num n) spells = refl
not_null (Chars t) spells = refl

signed_known : (sign : Sign) (v : Value) → SpellsNoNull (literal v) → HasValue (with_sign sign v) → IsKnownValue (with_sign sign v)
signed_known sign Null spells there = absurd spells
signed_known Plus (Num n) spells there = refl
signed_known Minus (Num n) spells there = refl
signed_known sign (Chars t) spells there = absurd there

-- in a call of a procedure with these parameters, that hands in these values
module _ (known : KnownTables) (ps : List ParameterDesc) (item : FromItem) (in_order : IsInOrder item) (inputs : List Input)
    (values : List Value) (user : Name) (same_inputs : SameInputs ps inputs (inputs_of values)) where
  abbrev pub here : Surroundings
  here = of_lines (item ∷ []) (outside known ps)

  abbrev pub item_names : List Name
  item_names = map (λ c. c.name) item.columns

  constant_of : (e : Expr Named) (x : PlacedExpr) → is_known_value inputs e ≡ true → expr_placed here e ≡ Ok x → is_constant x ≡ true
  constant_of (literal v) x k e = ap is_constant (sym (ok_same (literal v) x e))
  constant_of (signed sign (literal v)) x k e = ap is_constant (sym (ok_same (signed sign (literal v)) x e))
  constant_of (parameter p) x k e =
      let two = bind_ok (placed_parameter (declared ps) p) (λ q. Ok (parameter q)) x e in
      ap is_constant (sym (ok_same (parameter two.0) x two.2))
  constant_of _ x k e = cc

  abbrev value_of : (TablePlace → Outcome (List Row)) → PlacedExpr → Outcome Value
  value_of tables x = value (by_place tables) x (row.outside [] values user)

  pub value_known : (e : Expr Named) (x : PlacedExpr) → is_known_value inputs e ≡ true → SpellsNoNull e → expr_placed here e ≡ Ok x
      → (tables : TablePlace → Outcome (List Row)) → HasValue (value_of tables x) → IsKnownValue (value_of tables x)
  value_known (literal v) x k spells e tables there =
      subst (λ z. IsKnownValue (value_of tables z)) (ok_same (literal v) x e) (not_null v spells)
  value_known (signed sign (literal v)) x k spells e tables there =
      let same : signed sign (literal v) ≡ x = ok_same (signed sign (literal v)) x e in
      subst (λ z. IsKnownValue (value_of tables z)) same
      (signed_known sign v spells (subst (λ z. HasValue (value_of tables z)) (sym same) there))
  value_known (parameter p) x k spells e tables there =
      let two = bind_ok (placed_parameter (declared ps) p) (λ q. Ok (parameter q)) x e in
      let same : SameParameter ps p two.0 = known_of (placed_parameter (declared ps) p) (SameParameter ps p) two.0 (parameter_same ps p) two.1 in
      subst (λ z. IsKnownValue (value_of tables z)) (ok_same (parameter two.0) x two.2)
      (subst IsKnownValue (same inputs (inputs_of values) same_inputs) (known_outcome (input_value p inputs) k))
  value_known _ x k spells e tables there = cc

  -- ---- tests

  -- a test by place compares the column of this name with a value that is known
  pub record IsKnownTest (n : Name) (t : PlacedCond) : Type 0 where
    pub place : Place
    pub written : Expr Named
    pub other : PlacedExpr
    pub is : t ≡ compare Equal (column place) other
    pub depth : place.depth ≡ 0
    pub at : column_of_name n item_names ≡ Some place.column
    pub known_is : is_known_value inputs written ≡ true
    pub spells : SpellsNoNull written
    pub placed_is : expr_placed here written ≡ Ok other

  known_if : (b : Bool) (m n : Name) → (if b then Some m else None) ≡ Some n → (b ≡ true) × (m ≡ n)
  known_if true m n e = let same : m ≡ n = cc in (refl, same)
  known_if false m n e = cc

  pub test_known : (c : Cond Named) (t : PlacedCond) → cond_placed here c ≡ Ok t → CondSpellsNoNull c → (n : Name)
      → column_equal inputs c ≡ Some n → IsKnownTest n t
  test_known (compare Equal (column r) e) t is spells n found =
      let left = bind_ok (expr_placed here (column r)) (λ x. and_then (expr_placed here e) (λ y. Ok (compare Equal x y))) t is in
      let at = bind_ok (placed_column (scopes_with ((item ∷ []) ∷ [])) r) (λ p. Ok (column p)) left.0 left.1 in
      let right = bind_ok (expr_placed here e) (λ y. Ok (compare Equal left.0 y)) t left.2 in
      let here_at = placed_here item in_order r at.0 at.1 in
      let named = known_if (is_known_value inputs e) r.column n found in
      record {
        place = at.0;
        written = e;
        other = right.0;
        is = sym (ok_same (compare Equal left.0 right.0) t right.2) ∙ ap (λ x. compare Equal x right.0) (sym (ok_same (column at.0) left.0 at.2));
        depth = here_at.0;
        at = sym (ap (λ m. column_of_name m item_names) named.1) ∙ here_at.1;
        known_is = named.0;
        spells = spells.1;
        placed_is = right.1;
      }
  test_known _ t is spells n found = cc

  -- by place it names the column
  pub test_names : (n : Name) (t : PlacedCond) (w : IsKnownTest n t) → column_named t ≡ Some w.place.column
  test_names n t w =
      ap column_named w.is
      ∙ (λ i. if nat_eq (w.depth i) 0 && constant_of w.written w.other w.known_is w.placed_is i then Some w.place.column else None)

  -- ---- tests that AND joins

  abbrev pub placed_tests : Conds (Placed TablePlace) → List PlacedCond
  placed_tests no_cond = []
  placed_tests (a_cond c cs) = c ∷ placed_tests cs

  pub tests_joined : (ts : List PlacedCond) → placed_tests (conds ts) ≡ ts
  tests_joined [] = refl
  tests_joined (t ∷ ts) = ap (λ l. t ∷ l) (tests_joined ts)

  abbrev pub IsPlacedTest : Cond Named → PlacedCond → Type 0
  IsPlacedTest c t = (cond_placed here c ≡ Ok t) × CondSpellsNoNull c

  pub tests_placed : (cs : Conds Named) (ts : Conds (Placed TablePlace)) → conds_placed here cs ≡ Ok ts → CondsSpellNoNull cs
      → AllZip IsPlacedTest (tests_of cs) (placed_tests ts)
  tests_placed no_cond ts e spells = subst (λ z. AllZip IsPlacedTest [] (placed_tests z)) (ok_same no_cond ts e) tt
  tests_placed (a_cond c cs) ts e spells =
      let first = bind_ok (cond_placed here c) (λ x. and_then (conds_placed here cs) (λ xs. Ok (a_cond x xs))) ts e in
      let rest = bind_ok (conds_placed here cs) (λ xs. Ok (a_cond first.0 xs)) ts first.2 in
      subst (λ z. AllZip IsPlacedTest (c ∷ tests_of cs) (placed_tests z)) (ok_same (a_cond first.0 rest.0) ts rest.2)
      ((first.1, spells.0), tests_placed cs rest.0 rest.1 spells.1)
