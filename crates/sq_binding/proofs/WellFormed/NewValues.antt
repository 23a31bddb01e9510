-- The values that columns get are well formed, and are those that are written (ISO/IEC 9075:1992, 9.2, 13.8 to 13.10).
use Rattle.std.proofs.Common.{◌≡◌, ℕ, inl, inr, Bool, true, false, List, [], ◌∷◌, ◌++◌, length, map, Some, Ok, refl, sym, ap, subst, arith, ◌∙◌}
use Rattle.std.proofs.lemmas.Simd.{map-map}
use Rattle.std.proofs.lemmas.Option.{slice_get-map}
use Rattle.std.specs.List.{AllByRecursion, AllZip, zip}
use Rattle.std.specs.Option.{option_map}
use Rattle.std.specs.Prelude.{slice_get}
use Rattle.sq_value.specs.Domain.{kind_of}
use Rattle.sq_value.specs.declared.domain.Kind.{Kind}
use Rattle.sq_value.specs.declared.value.Value.TheVariants.{Null}
use Rattle.sq_tree.specs.declared.statement.NewValue.{NewValue}
use Rattle.sq_tree.specs.declared.statement.NewValue.TheVariants as new_value
use Rattle.sq_meaning.specs.Spelled as spelled
use Rattle.sq_meaning.specs.Spelled.{expr_of}
use Rattle.sq_meaning.specs.Syntax as expr_spec
use Rattle.sq_meaning.specs.Status as status
use Rattle.sq_meaning.specs.WellFormed.{is_comparable}
use Rattle.sq_meaning.specs.declared.fault.BindingFault.{BindingFault}
use Rattle.sq_meaning.specs.declared.fault.BindingFault.TheVariants as fault
use Rattle.sq_bound.specs.Expression.{PlacedExpr}
use Rattle.sq_bound.specs.Fits.{IsColumnOf}
use Rattle.sq_bound.specs.SetFunction.{call_of as call_meant}
use Rattle.sq_bound.specs.WellFormed as well_formed
use Rattle.sq_bound.specs.WellFormed.{IsNewValue, Levels, MayStore, TableKinds, base_kinds, kinds_of_parameters}
use Rattle.sq_bound.specs.declared.expression.BoundExpr.{BoundExpr}
use Rattle.sq_bound.specs.declared.names.BaseColumn.{BaseColumn}
use Rattle.sq_bound.specs.declared.names.BaseTable.{BaseTable}
use Rattle.sq_bound.specs.declared.names.Column.{Column}
use Rattle.sq_bound.specs.declared.names.ObjectColumn.{ObjectColumn}
use Rattle.sq_bound.specs.declared.names.ParameterDesc.{ParameterDesc}
use Rattle.sq_binding.specs.Change.{Receiver, new_value_bound, receiver_over, value_for}
use Rattle.sq_binding.specs.Condition.{must_agree}
use Rattle.sq_binding.specs.Expression.{bound}
use Rattle.sq_binding.specs.Found.{Counts, Found, ◌>>=◌, ◌>>◌, after, each, must, pure}
use Rattle.sq_binding.specs.Numbered.{Numbered, tree_of}
use Rattle.sq_binding.specs.Seen.{numbered_of}
use Rattle.sq_binding.specs.Select.{Surroundings, Typed, value, value_found}
use Rattle.sq_binding.proofs.Standing.BoundLaws.{expr_is_so}
use Rattle.sq_binding.proofs.Faultless.Clean.{steps_of}
use Rattle.sq_binding.proofs.Faultless.CleanConds.{after_of}
use Rattle.sq_binding.proofs.Standing.Levels.{MayStandAt, kinds_declared}
use Rattle.sq_binding.proofs.Inductions.Parts as parts
use Rattle.sq_binding.proofs.Placing.Placed.{bound_placed}
use Rattle.sq_binding.proofs.Placing.PlacedChange as placed_change
use Rattle.sq_binding.proofs.Placing.PlacedParts.{around}
use Rattle.sq_binding.proofs.Standing.SeenExprs.{expr_seen}
use Rattle.sq_binding.specs.Names.{declared, descriptor_of, leaf_positions}
use Rattle.sq_binding.specs.SeenQuery.{positions_of}
use Rattle.sq_binding.specs.There.{IsPlain}
use Rattle.sq_binding.specs.Written.{ExprIs, ExprsAre, value_placed}
use Rattle.sq_binding.proofs.WellFormed.Named.{kinds_of_declared}
use Rattle.sq_binding.proofs.WellFormed.Outputs.{true_is}

-- a test that did not stop
pub passed : (test : Bool) (f : BindingFault) (counts : Counts) (u : Found (Unit {0})) → must test f counts ≡ Ok u → test ≡ true
passed true f counts u is = refl
passed false f counts u is = cc

-- ---- the kinds of columns

-- an object column is of its kind in the base table
pub object_kind : (b : BaseTable) (c : ObjectColumn) → IsColumnOf b c → slice_get (base_kinds b) c.position ≡ Some (kind_of c.domain)
object_kind b c h =
    ap (λ (ks : List Kind). slice_get ks c.position) (sym (map-map kind_of (λ (column : BaseColumn). column.domain) b.columns))
    ∙ slice_get-map kind_of (map (λ (column : BaseColumn). column.domain) b.columns) c.position ∙ ap (option_map kind_of) h

-- a column that gets values is of its kind in the base table
abbrev pub IsReceiverOf : List Kind → Receiver → Type 0
IsReceiverOf own r = slice_get own r.column ≡ Some r.kind

pub receivers_are : (own : List Kind) (columns : List Column) → AllByRecursion (λ (c : Column). slice_get own c.leaf_column ≡ Some c.kind) columns
    → AllByRecursion (IsReceiverOf own) (map receiver_over (zip (leaf_positions columns) (map descriptor_of columns)))
receivers_are own [] h = tt
receivers_are own (c ∷ columns) h = (h.0, receivers_are own columns h.1)

pub kind_same : (own : List Kind) (p : ℕ) (k l : Kind) → slice_get own p ≡ Some k → slice_get own p ≡ Some l → k ≡ l
kind_same own p k l e f = let same : Some k ≡ Some l = sym e ∙ f in cc

pub receiver_kind : (b : BaseTable) (c : ObjectColumn) (r : Receiver) → IsColumnOf b c → IsReceiverOf (base_kinds b) r → c.position ≡ r.column → kind_of c.domain ≡ r.kind
receiver_kind b c r column is at = kind_same (base_kinds b) r.column (kind_of c.domain) r.kind (ap (slice_get (base_kinds b)) (sym at) ∙ object_kind b c column) is

-- ---- one value

module _ (kinds : TableKinds) (parameters : List ParameterDesc) (a : Surroundings) (parameters_are : a.parameters ≡ declared parameters) (forbidden : a.functions_allowed ≡ false) (levels : Levels)
    (stands : (has_ungrouped : Bool) → MayStandAt kinds levels a.scopes false has_ungrouped) where
  abbrev IsValue : ObjectColumn → BoundExpr → Type 0
  IsValue c e = IsNewValue kinds (kinds_of_parameters parameters) levels c e

  value_is : (k : Kind) (w : expr_spec.Expr spelled.Named) (counts : Counts) (x : Found Typed) → counts.functions ≡ 0 → value a w counts ≡ Ok x → (e : BoundExpr) → numbered_of e ≡ x.part.tree → (c : ObjectColumn) → kind_of c.domain ≡ k
      → is_comparable x.part.kind k ≡ true → IsValue c e
  value_is k w counts x first is e same c kind_is agrees =
      let b = steps_of (bound a.scopes a.parameters a.functions_allowed false w counts.functions) (λ b. Ok (value_found counts b)) x is in
      let made = b.second in
      let found : value_found counts b.step ≡ x = cc in
      let bound_is : bound a.scopes a.parameters false false w counts.functions ≡ Ok b.step = subst (λ f. bound a.scopes a.parameters f false w counts.functions ≡ Ok b.step) forbidden b.first in
      let none : b.step.calls ≡ [] = (bound_placed a.scopes a.parameters false false w counts.functions b.step bound_is).none_forbidden refl in
      let tree : numbered_of e ≡ b.step.tree = same ∙ sym (ap (λ (x : Found Typed). x.part.tree) found) in
      let kind_of_it : b.step.kind ≡ x.part.kind = ap (λ (x : Found Typed). x.part.kind) found in
      let so = expr_is_so kinds a.scopes a.parameters false w counts.functions b.step bound_is e tree [] [] (sym first) (sym none) levels (stands b.step.findings.has_ungrouped) in
      inr (
        x.part.kind,
        subst (λ k. well_formed.IsExpr kinds (kinds_of_parameters parameters) levels [] k e) kind_of_it
            (subst (λ ks. well_formed.IsExpr kinds ks levels [] b.step.kind e) (ap kinds_declared parameters_are ∙ kinds_of_declared parameters) so),
        true_is (is_comparable x.part.kind (kind_of c.domain)) (ap (is_comparable x.part.kind) kind_is ∙ agrees),
      )

  pub new_value_is : (k : Kind) (w : NewValue) (counts : Counts) (x : Found Numbered) → counts.functions ≡ 0 → new_value_bound a k w counts ≡ Ok x → (e : BoundExpr) → numbered_of e ≡ x.part → IsPlain e
      → (c : ObjectColumn) → kind_of c.domain ≡ k → IsValue c e
  new_value_is k (new_value.Expr w) counts x first is e same plain c kind_is =
      let s = after_of (value a (expr_of w)) (λ x. must_agree x.kind k >> pure x.tree) counts x is in
      let t = after_of (must_agree s.first.part.kind k) (λ u. pure s.first.part.tree) (after counts s.first) s.second s.is_second in
      let last = t.is_second in
      let tree : t.second.part ≡ s.first.part.tree = cc in
      let part : x.part ≡ s.first.part.tree = sym (ap (λ (x : Found Numbered). x.part) s.is_joined) ∙ sym (ap (λ (x : Found Numbered). x.part) t.is_joined) ∙ tree in
      value_is k (expr_of w) counts s.first first s.is_first e (same ∙ part) c kind_is (passed (is_comparable s.first.part.kind k) fault.KindMismatch (after counts s.first) t.first t.is_first)
  new_value_is k new_value.Null counts x first is e same plain c kind_is =
      let null : Numbered.literal Null ≡ x.part = cc in
      inl (plain (same ∙ sym null))

  abbrev text : NewValue → status.Outcome PlacedExpr
  text w = value_placed (around a) w

  pub new_value_written : (k : Kind) (w : NewValue) (counts : Counts) (x : Found Numbered) → counts.functions ≡ 0 → new_value_bound a k w counts ≡ Ok x → (e : BoundExpr) → numbered_of e ≡ x.part → ExprIs (text w) e
  new_value_written k w counts x first is e same functions =
      let part = subst (parts.IfFound (parts.IsPart a.functions_allowed counts (placed_change.ValueIs a w))) is (placed_change.new_value_is_placed a k w counts) in
      let all : List PlacedExpr = map call_meant functions in
      part.is_so [] all (sym first)
      ∙ ap (λ (calls : List PlacedExpr). Ok (tree_of (calls ++ all) x.part)) (part.none_forbidden forbidden)
      ∙ ap Ok (ap (tree_of all) (sym same) ∙ sym (expr_seen all e))

  -- ---- values of several columns

  pub no_calls : (k : Kind) (w : NewValue) (counts : Counts) (x : Found Numbered) → new_value_bound a k w counts ≡ Ok x → x.calls ≡ []
  no_calls k w counts x is = (subst (parts.IfFound (parts.IsPart a.functions_allowed counts (placed_change.ValueIs a w))) is (placed_change.new_value_is_placed a k w counts)).none_forbidden forbidden

  still_first : (k : Kind) (w : NewValue) (counts : Counts) (x : Found Numbered) → counts.functions ≡ 0 → new_value_bound a k w counts ≡ Ok x → (after counts x).functions ≡ 0
  still_first k w counts x first is =
      let none : length x.calls ≡ 0 = ap length (no_calls k w counts x is) in omega (arith, first, none)

  pub values_are : (b : BaseTable) (rs : List Receiver) (ws : List NewValue) (counts : Counts) (x : Found (List Numbered)) → counts.functions ≡ 0 → length rs ≡ length ws → each (value_for a) (zip rs ws) counts ≡ Ok x
      → (es : List BoundExpr) → map numbered_of es ≡ x.part → AllByRecursion IsPlain es → (objects : List ObjectColumn) → positions_of objects ≡ map (λ r. r.column) rs → AllByRecursion (IsColumnOf b) objects
      → AllByRecursion (IsReceiverOf (base_kinds b)) rs → AllZip IsValue objects es × ExprsAre (status.each text ws) es
  values_are b [] [] counts x first count is [] same plain [] at columns receivers = (tt, λ functions. refl)
  values_are b [] [] counts x first count is [] same plain (c ∷ objects) at columns receivers = cc
  values_are b [] [] counts x first count is (e ∷ es) same plain objects at columns receivers =
      let none : [] ≡ x.part = cc in absurd (let no : numbered_of e ∷ map numbered_of es ≡ [] = same ∙ sym none in cc)
  values_are b [] (w ∷ ws) counts x first count is es same plain objects at columns receivers = cc
  values_are b (r ∷ rs) [] counts x first count is es same plain objects at columns receivers = cc
  values_are b (r ∷ rs) (w ∷ ws) counts x first count is es same plain [] at columns receivers = cc
  values_are b (r ∷ rs) (w ∷ ws) counts x first count is [] same plain (c ∷ objects) at columns receivers =
      let s = after_of (value_for a (r, w)) (λ y. each (value_for a) (zip rs ws) >>= λ ys. pure (y ∷ ys)) counts x is in
      let t = after_of (each (value_for a) (zip rs ws)) (λ ys. pure (s.first.part ∷ ys)) (after counts s.first) s.second s.is_second in
      let last = t.is_second in
      let made : t.second.part ≡ s.first.part ∷ t.first.part = cc in
      let part : x.part ≡ s.first.part ∷ t.first.part = sym (ap (λ (x : Found (List Numbered)). x.part) s.is_joined) ∙ sym (ap (λ (x : Found (List Numbered)). x.part) t.is_joined) ∙ made in
      absurd (let no : [] ≡ s.first.part ∷ t.first.part = same ∙ part in cc)
  values_are b (r ∷ rs) (w ∷ ws) counts x first count is (e ∷ es) same plain (c ∷ objects) at columns receivers =
      let s = after_of (value_for a (r, w)) (λ y. each (value_for a) (zip rs ws) >>= λ ys. pure (y ∷ ys)) counts x is in
      let t = after_of (each (value_for a) (zip rs ws)) (λ ys. pure (s.first.part ∷ ys)) (after counts s.first) s.second s.is_second in
      let last = t.is_second in
      let made : t.second.part ≡ s.first.part ∷ t.first.part = cc in
      let part : x.part ≡ s.first.part ∷ t.first.part = sym (ap (λ (x : Found (List Numbered)). x.part) s.is_joined) ∙ sym (ap (λ (x : Found (List Numbered)). x.part) t.is_joined) ∙ made in
      let both : numbered_of e ∷ map numbered_of es ≡ s.first.part ∷ t.first.part = same ∙ part in
      let here : numbered_of e ≡ s.first.part = cc (both) in
      let rest : map numbered_of es ≡ t.first.part = cc (both) in
      let shorter : length rs ≡ length ws = omega (arith, count) in
      let place : c.position ≡ r.column = cc (at) in
      let places : positions_of objects ≡ map (λ (r : Receiver). r.column) rs = cc (at) in
      let others = values_are b rs ws (after counts s.first) t.first (still_first r.kind w counts s.first first s.is_first) shorter t.is_first es rest plain.1 objects places columns.1 receivers.1 in (
        (new_value_is r.kind w counts s.first first s.is_first e here plain.0 c (receiver_kind b c r columns.0 receivers.0 place), others.0),
        λ functions i. status.and_then (new_value_written r.kind w counts s.first first s.is_first e here functions i) (λ y. status.and_then (others.1 functions i) (λ ys. Ok (y ∷ ys))),
      )
