-- Over tables that mean the same, a query specification ends at the same place.
use Rattle.std.proofs.Common.{◌≡◌, ℕ, zero, suc, Bool, true, List, [], ◌∷◌, ◌++◌, map, take, slice_get, Option, Some, None, refl, sym, ◌∙◌, ap, subst, Ok, Err}
use Rattle.std.specs.Option.{option_map}
use Rattle.std.specs.List.{AllByRecursion}
use Rattle.std.proofs.lemmas.Option.{same_Some}
use Rattle.sq_lex.specs.declared.name.Name.{Name}
use Rattle.sq_value.specs.declared.value.Value.{Value}
use Rattle.sq_meaning.specs.Environment.{Row, Line, Place, outermost}
use Rattle.sq_meaning.specs.Placed.{by_place}
use Rattle.sq_meaning.specs.Query.{groups_by, is_true}
use Rattle.sq_meaning.specs.Rows.{product}
use Rattle.sq_meaning.specs.Status.{Outcome, each, kept}
use Rattle.sq_meaning.specs.declared.status.Status.{Status}
use Rattle.sq_bound.specs.Condition as condition
use Rattle.sq_bound.specs.Condition.{Groups, clause_of, groups_if, select_of}
use Rattle.sq_bound.specs.Expression.{expr_of, place_meant}
use Rattle.sq_bound.specs.SetFunction.{call_of}
use Rattle.sq_bound.specs.declared.condition.BoundSpecification.{BoundSpecification, out-BoundSpecification}
use Rattle.sq_bound.specs.declared.condition.Grouping.{Grouping, out-Grouping}
use Rattle.sq_bound.specs.declared.condition.TablePlace.{TablePlace}
use Rattle.sq_bound.specs.declared.expression.BoundExpr.{BoundExpr}
use Rattle.sq_bound.specs.declared.expression.SetFunctionCall.{SetFunctionCall}
use Rattle.sq_bound.specs.declared.expression.SetFunctionCall.TheVariants.{CountRows, Over}
use Rattle.sq_bound.proofs.ConditionLaws.{groups_of-out, select_of-out}
use Rattle.sq_condition.specs.Specification.{items_in, where_of}
use Rattle.sq_expression.specs.Frame.{inputs_of}
use Rattle.sq_query.specs.Needed.{ReadsClause, ReadsSelect}
use Rattle.sq_query.specs.Row.{outside}
use Rattle.sq_query.proofs.Needs.AnyTables.{value_over}
use Rattle.sq_query.proofs.Needs.SameTables.{same_clause, same_each, same_rows}
use Rattle.sq_ending.specs.Ending.{EndsThere, HasOperands, InGroupItem, InHaving, InOperand, InSetFunction, IsClauseEnd, IsFirstFunction, IsFromEnd, IsGroupEnd, IsListEnd, IsWhereEnd, Seen, calls_of, function_on, functions_of, functions_on, group_in, groups_of, is_shown, is_wanted, item_on, list_of, rows_of, value_on}
use Rattle.sq_ending.specs.Walk.{IsFineOn, IsFirstEnd, IsFirstItem, is_met}
use Rattle.sq_ending.specs.declared.ends.Clause.{Clause}
use Rattle.sq_ending.specs.declared.ends.Clause.TheVariants as clause
use Rattle.sq_ending.specs.declared.ends.QueryEnd.{QueryEnd}

all_first : {A : Type 0} (P : A → Type 0) (n : ℕ) (xs : List A) → AllByRecursion P xs → AllByRecursion P (take n xs)
all_first P zero xs all = tt
all_first P (suc n) [] all = tt
all_first P (suc n) (x ∷ xs) all = (all.0, all_first P n xs all.1)

all_at : {A : Type 0} (P : A → Type 0) (xs : List A) (n : ℕ) (x : A) → AllByRecursion P xs → slice_get xs n ≡ Some x → P x
all_at P [] n x all at = absurd cc
all_at P (y ∷ xs) zero x all at = subst P (same_Some y x at) all.0
all_at P (y ∷ xs) (suc n) x all at = all_at P xs n x all.1 at

module _ (f g : TablePlace → Outcome (List Row)) (values : List Value) (user : Name) (q : BoundSpecification) (reads : ReadsSelect (λ t. f t ≡ g t) (select_of q)) where
  abbrev here : Seen
  here = record { tables = f; values = values; user = user }

  abbrev there : Seen
  there = record { tables = g; values = values; user = user }

  reads_parts : AllByRecursion (λ t. f t ≡ g t) (items_in q) × ReadsClause (λ t. f t ≡ g t) (where_of q)
  reads_parts = let parts = subst (ReadsSelect (λ t. f t ≡ g t)) (select_of-out q) reads in (parts.0, parts.1)

  same_wanted : is_wanted here q ≡ is_wanted there q
  same_wanted = λ i line. is_true (same_clause f g (where_of q) reads_parts.1 (outside line values user) i)

  same_values : value_on here ≡ value_on there
  same_values = λ i line e. value_over f g (expr_of [] e) (outside line values user) i

  pub same_whole : rows_of here q ≡ rows_of there q
  same_whole = same_rows f g (select_of q) reads (outermost (inputs_of values) user)

  same_items : each f (items_in q) ≡ each g (items_in q)
  same_items = same_each f g (items_in q) reads_parts.0

  from_there : (item : ℕ) (status : Status) → IsFromEnd here q item status → IsFromEnd there q item status
  from_there item status h = record {
    table = h.table;
    at = h.at;
    ends = sym (all_at (λ t. f t ≡ g t) (items_in q) item h.table reads_parts.0 h.at) ∙ h.ends;
    before = h.before;
    fine = sym (same_each f g (take item (items_in q)) (all_first (λ t. f t ≡ g t) item (items_in q) reads_parts.0)) ∙ h.fine;
  }

  where_there : (places : List ℕ) (status : Status) → IsWhereEnd here q places status → IsWhereEnd there q places status
  where_there places status h = record {
    items = h.items;
    are = sym same_items ∙ h.are;
    first = subst (λ (w : Line → Outcome Bool). IsFirstEnd w (λ line. w line ≡ Err status) h.items places) same_wanted h.first;
  }

  list_there : (number : ℕ) (places : List ℕ) (status : Status) → IsListEnd here q number places status → IsListEnd there q number places status
  list_there number places status h = record {
    ungrouped = h.ungrouped;
    items = h.items;
    are = sym same_items ∙ h.are;
    fine = subst (λ (w : Line → Outcome Bool). IsFineOn w (product h.items)) same_wanted h.fine;
    first =
        subst (λ (w : Line → Outcome Bool). IsFirstEnd (is_met w (value_on there) (list_of q)) (λ line. (w line ≡ Ok true) × IsFirstItem (value_on there line) (list_of q) number status) h.items places) same_wanted
        (subst (λ (v : Line → BoundExpr → Outcome Value). IsFirstEnd (is_met (is_wanted here q) v (list_of q)) (λ line. (is_wanted here q line ≡ Ok true) × IsFirstItem (v line) (list_of q) number status) h.items places) same_values
        h.first);
  }

  -- ---- groups

  functions_alike : (group : List Line) (call : SetFunctionCall) → function_on here group call ≡ function_on there group call
  functions_alike group call = value_over f g (call_of call) (group_in here group)

  all_alike : (gr : Grouping) → functions_on here gr ≡ functions_on there gr
  all_alike gr = λ i group. each (λ call. functions_alike group call i) (calls_of gr)

  items_alike : (gr : Grouping) → item_on here gr ≡ item_on there gr
  items_alike gr = λ i group e. value_over f g (expr_of (functions_of gr) e) (group_in here group) i

  groups_alike : (gr : Grouping) (lines : List Line) → groups_of here gr lines ≡ groups_of there gr lines
  groups_alike gr lines = by (map place_meant (out-Grouping gr).columns)
    where
      by : (columns : List Place) → groups_by (by_place f) columns [] lines (outermost (inputs_of values) user) ≡ groups_by (by_place g) columns [] lines (outermost (inputs_of values) user)
      by [] = refl
      by (c ∷ cs) = refl

  module _ (gr : Grouping) (grouped : (out-BoundSpecification q).grouping ≡ Some gr) where
    having_is : (groups_if (option_map condition.groups_of (out-BoundSpecification q).grouping)).having ≡ clause_of (functions_of gr) (out-Grouping gr).having
    having_is = ap (λ (o : Option Grouping). (groups_if (option_map condition.groups_of o)).having) grouped ∙ ap (λ (gs : Groups). gs.having) (groups_of-out gr)

    reads_having : ReadsClause (λ t. f t ≡ g t) (clause_of (functions_of gr) (out-Grouping gr).having)
    reads_having = let parts = subst (ReadsSelect (λ t. f t ≡ g t)) (select_of-out q) reads in subst (ReadsClause (λ t. f t ≡ g t)) having_is parts.2

    shown_alike : is_shown here gr ≡ is_shown there gr
    shown_alike = λ i group. is_true (same_clause f g (clause_of (functions_of gr) (out-Grouping gr).having) reads_having (group_in here group) i)

  group_there : (P Q : Grouping → List (List Row) → List (List Line) → List (List Line) → List Line → Type 0)
      → ((gr : Grouping) (items : List (List Row)) (before behind : List (List Line)) (group : List Line) → (out-BoundSpecification q).grouping ≡ Some gr → P gr items before behind group → Q gr items before behind group)
      → IsGroupEnd here q P → IsGroupEnd there q Q
  group_there P Q so h = record {
    grouping = h.grouping;
    grouped = h.grouped;
    items = h.items;
    are = sym same_items ∙ h.are;
    lines = h.lines;
    left = ap (λ (w : Line → Outcome Bool). kept w (product h.items)) (sym same_wanted) ∙ h.left;
    before = h.before;
    group = h.group;
    behind = h.behind;
    among = sym (groups_alike h.grouping h.lines) ∙ h.among;
    ended = so h.grouping h.items h.before h.behind h.group h.grouped h.ended;
  }

  first_there : (gr : Grouping) (before : List (List Line)) (group : List Line) (number : ℕ) (call : SetFunctionCall) (status : Status) → IsFirstFunction here gr before group number call status → IsFirstFunction there gr before group number call status
  first_there gr before group number call status h = record {
    values = h.values;
    fine = ap (λ (fs : List Line → Outcome (List Value)). each fs before) (sym (all_alike gr)) ∙ h.fine;
    at = h.at;
    ends = sym (functions_alike group call) ∙ h.ends;
    others = h.others;
    first = sym (λ i. each (λ c. functions_alike group c i) (take number (calls_of gr))) ∙ h.first;
  }

  operand_there : (number : ℕ) (places : List ℕ) (status : Status) (gr : Grouping) (items : List (List Row)) (before behind : List (List Line)) (group : List Line) → (out-BoundSpecification q).grouping ≡ Some gr
      → InOperand here number places status gr items before behind group → InOperand there number places status gr items before behind group
  operand_there number places status gr items before behind group grouped (a, first, on) = (
    a,
    first_there gr before group number (Over a) status first,
    record {
      before = on.before;
      line = on.line;
      behind = on.behind;
      among = on.among;
      is = on.is;
      ends = sym (ap (λ (v : Line → BoundExpr → Outcome Value). v on.line a.operand) same_values) ∙ on.ends;
      values = on.values;
      fine = ap (λ (v : Line → BoundExpr → Outcome Value). each (λ l. v l a.operand) on.before) (sym same_values) ∙ on.fine;
    },
  )

  operands_there : (group : List Line) (call : SetFunctionCall) → HasOperands here group call → HasOperands there group call
  operands_there group CountRows h = h
  operands_there group (Over a) h = (h.0, ap (λ (v : Line → BoundExpr → Outcome Value). each (λ l. v l a.operand) group) (sym same_values) ∙ h.1)

  function_there : (number : ℕ) (places : List ℕ) (status : Status) (gr : Grouping) (items : List (List Row)) (before behind : List (List Line)) (group : List Line) → (out-BoundSpecification q).grouping ≡ Some gr
      → InSetFunction here number places status gr items before behind group → InSetFunction there number places status gr items before behind group
  function_there number places status gr items before behind group grouped (call, first, operands, of) = (call, first_there gr before group number call status first, operands_there group call operands, of)

  having_there : (places : List ℕ) (status : Status) (gr : Grouping) (items : List (List Row)) (before behind : List (List Line)) (group : List Line) → (out-BoundSpecification q).grouping ≡ Some gr
      → InHaving here places status gr items before behind group → InHaving there places status gr items before behind group
  having_there places status gr items before behind group grouped (values, functions, left, fine, ends, of) = (
    values,
    ap (λ (fs : List Line → Outcome (List Value)). each fs (before ++ group ∷ behind)) (sym (all_alike gr)) ∙ functions,
    left,
    ap (λ (t : List Line → Outcome Bool). kept t before) (sym (shown_alike gr grouped)) ∙ fine,
    ap (λ (t : List Line → Outcome Bool). t group) (sym (shown_alike gr grouped)) ∙ ends,
    of,
  )

  item_there : (number : ℕ) (places : List ℕ) (status : Status) (gr : Grouping) (items : List (List Row)) (before behind : List (List Line)) (group : List Line) → (out-BoundSpecification q).grouping ≡ Some gr
      → InGroupItem here (list_of q) number places status gr items before behind group → InGroupItem there (list_of q) number places status gr items before behind group
  item_there number places status gr items before behind group grouped h = record {
    values = h.values;
    functions = ap (λ (fs : List Line → Outcome (List Value)). each fs (before ++ group ∷ behind)) (sym (all_alike gr)) ∙ h.functions;
    left = h.left;
    having = ap (λ (t : List Line → Outcome Bool). kept t (before ++ group ∷ behind)) (sym (shown_alike gr grouped)) ∙ h.having;
    shown = ap (λ (t : List Line → Outcome Bool). t group) (sym (shown_alike gr grouped)) ∙ h.shown;
    first = subst (λ (v : List Line → BoundExpr → Outcome Value). IsFirstItem (v group) (list_of q) number status) (items_alike gr) h.first;
    met = h.met;
    fine = sym (λ i. kept (is_met (shown_alike gr grouped i) (items_alike gr i) (list_of q)) before) ∙ h.fine;
    of_group = h.of_group;
  }

  clause_there : (c : Clause) (places : List ℕ) (status : Status) → IsClauseEnd here q c places status → IsClauseEnd there q c places status
  clause_there (clause.From item) places status (none, h) = (none, from_there item status h)
  clause_there clause.Where places status h = where_there places status h
  clause_there (clause.Item number) places status h = list_there number places status h
  clause_there (clause.Operand number) places status h = group_there (InOperand here number places status) (InOperand there number places status) (operand_there number places status) h
  clause_there (clause.SetFunction number) places status h = group_there (InSetFunction here number places status) (InSetFunction there number places status) (function_there number places status) h
  clause_there clause.Having places status h = group_there (InHaving here places status) (InHaving there places status) (having_there places status) h
  clause_there (clause.GroupItem number) places status h = group_there (InGroupItem here (list_of q) number places status) (InGroupItem there (list_of q) number places status) (item_there number places status) h

  pub ends_there : (found : Option QueryEnd) → EndsThere here q found → EndsThere there q found
  ends_there None h = (h.0, sym same_whole ∙ h.1)
  ends_there (Some e) h = record { whole = sym same_whole ∙ h.whole; there = clause_there e.end.clause e.line.items e.end.status h.there }
