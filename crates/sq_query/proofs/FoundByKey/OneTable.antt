-- Of the table of one item of FROM rows may be left out: a query specification has the same rows over those that are left, if WHERE is false on
-- each line with one that is not (ISO/IEC 9075:1992, 7.4 to 7.6).
use Rattle.std.proofs.Common.{◌≡◌, ◌∙◌, ℕ, Bool, true, false, true≢false, List, map, slice_get, Option, Some, refl, sym, ap, subst, Ok}
use Rattle.std.specs.Prelude.{filter, if◌then◌else◌}
use Rattle.std.specs.List.{AllByRecursion, AllZip}
use Rattle.sq_lex.specs.declared.name.Name.{Name}
use Rattle.sq_value.specs.declared.value.Value.{Value}
use Rattle.sq_meaning.specs.Environment.{Env, Line, Row, Scope, alone, within}
use Rattle.sq_meaning.specs.Placed.{by_place}
use Rattle.sq_meaning.specs.Query.{clause_truth, is_true, rows}
use Rattle.sq_meaning.specs.Rows.{product}
use Rattle.sq_meaning.specs.Status.{Outcome, and_then}
use Rattle.sq_meaning.proofs.AnswerLaws.{all_weaker}
use Rattle.sq_bound.specs.Condition.{select_of}
use Rattle.sq_bound.specs.declared.condition.BoundSpecification.{BoundSpecification, out-BoundSpecification}
use Rattle.sq_bound.specs.declared.condition.TablePlace.{TablePlace}
use Rattle.sq_condition.proofs.Lone.{clause_alone}
use Rattle.sq_expression.specs.Frame.{inputs_of}
use Rattle.sq_query.specs.Around.{beneath}
use Rattle.sq_query.specs.Items.{IsOnce, is_table, items_of}
use Rattle.sq_query.specs.Needed.{ReadsInside}
use Rattle.sq_query.proofs.FoundByKey.ItemRows.{only_item, row_lacks, same_over_lines, same_place, where_in}
use Rattle.sq_query.proofs.FoundByKey.LeftOut.{kept_thinned, lines_are, stays}

module _ (now next : TablePlace → Outcome (List Row)) (q : BoundSpecification) (t : TablePlace) (item : ℕ) (once : IsOnce t item (items_of q)) (has : Row → Bool) where
  -- the rows that are left of a table
  abbrev pub left : TablePlace → Row → Bool
  left u row = if is_table t u then has row else true

  module _ (next_is : (u : TablePlace) → next u ≡ and_then (now u) (λ rs. Ok (filter (left u) rs))) (inside : ReadsInside (λ u. now u ≡ next u) (select_of q)) (values : List Value) (caller : Name) (scopes : List (Scope (Unit {0}))) where
    abbrev env : Env (Unit {0})
    env = record { scopes = scopes; inputs = inputs_of values; user = caller }

    abbrev pub wanted : Line → Outcome Bool
    wanted line = is_true (clause_truth (by_place now) (where_in q) (beneath scopes line values caller))

    module _ (IsIn : TablePlace → Row → Type 0) (rows_are : AllByRecursion (λ u. (rs : List Row) → now u ≡ Ok rs → AllByRecursion (IsIn u) rs) (items_of q))
        (out : (line : Line) → AllZip IsIn (items_of q) line → (row : Row) → slice_get line item ≡ Some row → has row ≡ false → wanted line ≡ Ok false) where
      lacks_own : (u : TablePlace) (row : Row) → left u row ≡ false → (u ≡ t) × (has row ≡ false)
      lacks_own u row h = by (is_table t u) refl h
        where
          by : (b : Bool) → is_table t u ≡ b → (if b then has row else true) ≡ false → (u ≡ t) × (has row ≡ false)
          by true e k = (sym (same_place t u e), k)
          by false e k = absurd (true≢false k)

      line_out : (line : Line) → AllZip IsIn (items_of q) line → stays (map left (items_of q)) line ≡ false → wanted line ≡ Ok false
      line_out line is h =
          let l = row_lacks left (items_of q) line h in
          let own_lacks = lacks_own l.1 l.2 l.5 in
          let same : l.0 ≡ item = only_item t (items_of q) item l.0 once (l.3 ∙ ap (λ (u : TablePlace). let o : Option TablePlace = Some u in o) own_lacks.0) in
          out line is l.2 (subst (λ i. slice_get line i ≡ Some l.2) same l.4) own_lacks.1

      with_heads : (heads : List (Unit {0})) (line : Line) → is_true (clause_truth (by_place now) (where_in q) (within (alone heads line) env)) ≡ wanted line
      with_heads heads line = ap is_true (clause_alone now heads line env (out-BoundSpecification q).condition)

      pub same_next : rows (by_place now) (select_of q) env ≡ rows (by_place next) (select_of q) env
      same_next =
          same_over_lines q now next env inside
          (λ heads. kept_thinned now next left next_is (λ line. is_true (clause_truth (by_place now) (where_in q) (within (alone heads line) env))) (items_of q)
          (λ lines are.
          all_weaker (AllZip IsIn (items_of q)) (λ line. stays (map left (items_of q)) line ≡ false → is_true (clause_truth (by_place now) (where_in q) (within (alone heads line) env)) ≡ Ok false)
          (λ line is h. with_heads heads line ∙ line_out line is h) (product lines)
          (lines_are now IsIn (items_of q) rows_are lines are)))
