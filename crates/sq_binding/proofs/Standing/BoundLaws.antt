-- A bound value expression, search condition and query specification is well formed, with all notes on it and the numbers of its
-- subqueries. The bound tree is seen as the one that the definitions compute (ISO/IEC 9075:1992, 6.2 to 6.5, 6.11, 7.3 to 7.9, 7.11 and
-- clause 8).
use Rattle.std.proofs.Common.{◌≡◌, ℕ, Bool, false, List, [], ◌++◌, length, map, Ok, sym, ap, subst, ◌∙◌, append_assoc}
use Rattle.std.proofs.lemmas.List.{length-map, map-append}
use Rattle.std.proofs.lemmas.Simd.{map-map}
use Rattle.sq_value.specs.declared.domain.Kind.{Kind}
use Rattle.sq_meaning.specs.Kind.{select_kinds}
use Rattle.sq_meaning.specs.Placed.{by_place}
use Rattle.sq_meaning.specs.Spelled.{Named}
use Rattle.sq_meaning.specs.Sure.{is_sure, is_sure_expr}
use Rattle.sq_meaning.specs.Syntax.{Cond, Expr, Select}
use Rattle.sq_meaning.specs.Tables.{Declared}
use Rattle.sq_meaning.specs.WellFormed.{IsDeclaredAt, WellFormedSelect, froms, kinds_by_place}
use Rattle.sq_bound.specs.Condition.{cond_of as cond_meant, select_of as select_meant}
use Rattle.sq_bound.specs.Expression.{PlacedExpr}
use Rattle.sq_bound.specs.Columns.{ReadsItems}
use Rattle.sq_bound.specs.Noted.{HasNotes, IsReadTree, IsSureExpr, IsSureTree, may_fail}
use Rattle.sq_bound.specs.SetFunction.{call_of as call_meant}
use Rattle.sq_bound.specs.WellFormed.{IsCond, IsExpr, IsSelect, Levels, TableKinds, kinds_of_select}
use Rattle.sq_bound.specs.declared.condition.BoundCond.{BoundCond}
use Rattle.sq_bound.specs.declared.condition.BoundSpecification.{BoundSpecification, out-BoundSpecification}
use Rattle.sq_bound.specs.declared.expression.BoundExpr.{BoundExpr}
use Rattle.sq_bound.specs.declared.expression.SetFunctionCall.{SetFunctionCall}
use Rattle.sq_binding.specs.Condition.{cond_bound, select_bound}
use Rattle.sq_binding.specs.Expression.{Bound, bound}
use Rattle.sq_binding.specs.Found.{Counts, Found}
use Rattle.sq_binding.specs.Numbered.{tree_of}
use Rattle.sq_binding.specs.NumberedCondition.{NumberedCond, NumberedSelect, ResultColumn, columns_of, cond_of, select_of}
use Rattle.sq_binding.specs.PlacedQuery.{cond_placed, select_placed}
use Rattle.sq_binding.specs.Scope.{Scope}
use Rattle.sq_binding.specs.Seen.{call_of, column_of, cond_seen, numbered_of, select_seen}
use Rattle.sq_binding.specs.Select.{Surroundings}
use Rattle.sq_binding.proofs.Inductions.AnyDepth.{AreCounted, CondHas, SelectHas, cond_numbers, select_numbers}
use Rattle.sq_binding.proofs.Standing.CondsStand.{ok_same, select_there}
use Rattle.sq_binding.proofs.Standing.ExprsStand.{expr_stands}
use Rattle.sq_binding.proofs.Standing.Levels.{AreLevels, MayStandAt, NamesKnow, kinds_declared}
use Rattle.sq_binding.proofs.Notes.Noted.{bound_noted}
use Rattle.sq_binding.proofs.Notes.NotedQueries.{cond_noted}
use Rattle.sq_binding.proofs.Notes.Outward.{AreSmall}
use Rattle.sq_binding.proofs.Inductions.Pieces.{kinds_of_part, kinds_shown}
use Rattle.sq_binding.proofs.Placing.Placed.{bound_placed}
use Rattle.sq_binding.proofs.Placing.PlacedParts.{around}
use Rattle.sq_binding.proofs.Placing.PlacedQuery.{cond_is_placed}
use Rattle.sq_binding.proofs.Standing.QueriesStand.{cond_stands, cond_tree, select_stands}
use Rattle.sq_binding.proofs.Standing.SeenExprs.{calls_seen, expr_seen}
use Rattle.sq_binding.proofs.Standing.SeenLevels.{columns_seen}
use Rattle.sq_binding.proofs.Standing.SeenNotes.{cond_is_noted, has_notes, select_is_noted}
use Rattle.sq_binding.proofs.Standing.SeenNumbers.{cond_is_numbered, select_is_numbered}
use Rattle.sq_binding.proofs.Standing.SeenTrees as seen
use Rattle.sq_binding.proofs.Notes.SubqueryNumbers.{cond_counted, select_counted}
use Rattle.sq_binding.proofs.Notes.TestsNoted.{IsNotedSelect, IsNotedTest, cond_notes, select_notes}
use Rattle.sq_binding.proofs.Inductions.Turns.{it_is}

-- the set functions of a query: those before a part, those that it adds, and those behind it
functions_are : (before added later : List SetFunctionCall) (calls : List PlacedExpr) → map call_of added ≡ calls → map call_meant ((before ++ added) ++ later) ≡ map call_of before ++ (calls ++ map call_of later)
functions_are before added later calls is =
    calls_seen ((before ++ added) ++ later) ∙ map-append call_of (before ++ added) later ∙ (λ i. map-append call_of before added i ++ map call_of later)
    ∙ append_assoc (map call_of before) (map call_of added) (map call_of later) ∙ (λ i. map call_of before ++ (is i ++ map call_of later))

-- ---- value expressions

module _ (columns : TableKinds) (scopes : List Scope) (parameters : List Declared) where
  pub expr_is_so : (allowed : Bool) (text : Expr Named) (n : ℕ) (b : Bound) → bound scopes parameters allowed false text n ≡ Ok b → (e : BoundExpr) → numbered_of e ≡ b.tree
      → (before added : List SetFunctionCall) → length before ≡ n → map call_of added ≡ b.calls
      → (levels : Levels) → MayStandAt columns levels scopes allowed b.findings.has_ungrouped → IsExpr columns (kinds_declared parameters) levels (before ++ added) b.kind e
  expr_is_so allowed text n b is e same before added size calls levels m =
      let p = bound_placed scopes parameters allowed false text n b is in
      let s = expr_stands columns scopes parameters allowed false text n b is in
      let at = s.stands levels m.are_levels m.functions m.reads (λ no. cc) in
      record {
        tree = s.tree;
        is_tree = λ later.
            expr_seen (map call_meant ((before ++ added) ++ later)) e
            ∙ (λ i. tree_of (functions_are before added later b.calls calls i) (same i))
            ∙ p.is_tree (map call_of before) (map call_of later) (length-map before call_of ∙ size)
            ∙ ok_same p.tree s.tree (sym p.is_placed ∙ s.is_placed);
        kind_is = at.0;
        stands = at.1;
      }

  pub expr_is_sure : (allowed inside : Bool) (text : Expr Named) (n : ℕ) (b : Bound) → bound scopes parameters allowed inside text n ≡ Ok b → (e : BoundExpr) → numbered_of e ≡ b.tree → b.findings.can_fail ≡ false → IsSureExpr e
  expr_is_sure allowed inside text n b is e same none functions all =
      ap is_sure_expr (expr_seen functions e ∙ ap (tree_of functions) same) ∙ (bound_noted scopes parameters allowed inside text n b is).sure none functions all

-- ---- search conditions and query specifications

module _ (columns : TableKinds) (a : Surroundings) (counts : Counts) where
  pub cond_is_so : (text : Cond Named) (x : Found NumberedCond) → cond_bound a text counts ≡ Ok x → (c : BoundCond) → cond_seen c ≡ x.part
      → (before added : List SetFunctionCall) → length before ≡ counts.functions → map call_of added ≡ x.calls → NamesKnow columns a.names → AreSmall a.scopes
      → (levels : Levels) → MayStandAt columns levels a.scopes a.functions_allowed x.findings.values.has_ungrouped → IsCond columns (kinds_declared a.parameters) levels (before ++ added) c
  cond_is_so text x is c same before added size calls know small levels m =
      let s = cond_stands columns text a counts x is in
      let notes = subst (CondHas IsNotedTest IsNotedSelect) (sym same) (cond_notes text a counts x is small) in
      record {
        tree = s.tree;
        is_tree = λ later.
            seen.cond_tree (map call_meant ((before ++ added) ++ later)) c
            ∙ (λ i. cond_of (functions_are before added later x.calls calls i) (same i))
            ∙ cond_tree columns text a counts x is (map call_of before) (map call_of later) (length-map before call_of ∙ size);
        stands = s.stands levels know m;
        notes = cond_is_noted c notes;
        numbers = (
          counts.subqueries,
          (
            x.subqueries,
            cond_is_numbered c counts.subqueries x.subqueries (subst (λ c. AreCounted counts.subqueries x.subqueries (cond_numbers c)) (sym same) (cond_counted text a counts x is)) notes,
          ),
        );
      }

  -- the bound condition is the text with its names placed
  pub cond_is_written : (text : Cond Named) (x : Found NumberedCond) → cond_bound a text counts ≡ Ok x → (c : BoundCond) → cond_seen c ≡ x.part → (before added : List SetFunctionCall) → length before ≡ counts.functions
      → map call_of added ≡ x.calls → (later : List SetFunctionCall) → cond_placed (around a) text ≡ Ok (cond_meant (map call_meant ((before ++ added) ++ later)) c)
  cond_is_written text x is c same before added size calls later =
      (it_is _ (cond_bound a text counts) x is (cond_is_placed text a counts)).is_so (map call_of before) (map call_of later) (length-map before call_of ∙ size)
      ∙ ap Ok (sym (seen.cond_tree (map call_meant ((before ++ added) ++ later)) c ∙ (λ i. cond_of (functions_are before added later x.calls calls i) (same i))))

  -- what is found of it is so
  pub cond_is_sure : (text : Cond Named) (x : Found NumberedCond) → cond_bound a text counts ≡ Ok x → (c : BoundCond) → cond_seen c ≡ x.part → x.findings.values.can_fail ≡ false → IsSureTree (λ functions. cond_meant functions c)
  cond_is_sure text x is c same none functions all = ap (is_sure may_fail) (seen.cond_tree functions c ∙ ap (cond_of functions) same) ∙ (cond_noted text a counts x is).sure none functions all

  pub cond_is_read : (text : Cond Named) (x : Found NumberedCond) → cond_bound a text counts ≡ Ok x → (c : BoundCond) → cond_seen c ≡ x.part → AreSmall a.scopes → IsReadTree x.findings.values.items (cond_meant [] c)
  cond_is_read text x is c same small = subst (ReadsItems x.findings.values.items) (sym (seen.cond_tree [] c ∙ ap (cond_of []) same)) ((cond_noted text a counts x is).read small)

  pub cond_has_notes : (text : Cond Named) (x : Found NumberedCond) → cond_bound a text counts ≡ Ok x → (c : BoundCond) → cond_seen c ≡ x.part → AreSmall a.scopes → HasNotes c
  cond_has_notes text x is c same small = has_notes c (subst (CondHas IsNotedTest IsNotedSelect) (sym same) (cond_notes text a counts x is small))

  kinds_same : (q : BoundSpecification) (x : Found NumberedSelect) → select_seen q ≡ x.part → kinds_of_part x ≡ kinds_of_select q
  kinds_same q x same =
      ap (λ p. kinds_shown (columns_of p)) (sym same) ∙ ap kinds_shown (columns_seen q) ∙ map-map (λ (c : ResultColumn). c.kind) column_of (out-BoundSpecification q).columns

  pub select_is_written : (text : Select Named) (x : Found NumberedSelect) → select_bound a text counts ≡ Ok x → (q : BoundSpecification) → select_seen q ≡ x.part → select_placed (around a) text ≡ Ok (select_meant q)
  select_is_written text x is q same = select_there text a counts x is ∙ ap Ok (sym (seen.select_tree q ∙ ap select_of same))

  pub select_is_so : (text : Select Named) (x : Found NumberedSelect) → select_bound a text counts ≡ Ok x → (q : BoundSpecification) → select_seen q ≡ x.part → NamesKnow columns a.names → AreSmall a.scopes
      → (levels : Levels) → AreLevels columns levels a.scopes → IsSelect columns (kinds_declared a.parameters) levels q
  select_is_so text x is q same know small levels are =
      let s = select_stands columns text a counts x is in
      let tree : select_meant q ≡ select_of x.part = seen.select_tree q ∙ ap select_of same in
      let notes = subst (SelectHas IsNotedTest IsNotedSelect) (sym same) (select_notes text a counts x is small) in
      record {
        stands = λ rows_of. subst (WellFormedSelect (by_place rows_of) (kinds_by_place columns (kinds_declared a.parameters)) (IsDeclaredAt (kinds_declared a.parameters)) levels) (sym tree) (s.stands levels know are rows_of);
        kinds_are = ap (select_kinds (kinds_by_place columns (kinds_declared a.parameters)) (froms levels)) tree ∙ s.kinds_are levels know are ∙ ap (λ (ks : List Kind). Ok ks) (kinds_same q x same);
        notes = select_is_noted q notes;
        numbers = (
          counts.subqueries,
          (
            x.subqueries,
            select_is_numbered q counts.subqueries x.subqueries (subst (λ q. AreCounted counts.subqueries x.subqueries (select_numbers q)) (sym same) (select_counted text a counts x is).counted) notes,
          ),
        );
      }
