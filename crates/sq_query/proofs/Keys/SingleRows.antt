-- A query specification whose WHERE clause names a row of its only base table by a key: its rows are those for that row, if WHERE is true of it, whatever tables its subqueries read. HAVING has none.
use Rattle.std.proofs.Common.{◌≡◌, ◌∙◌, ℕ, Bool, true, false, List, [], ◌∷◌, Option, Some, None, Result, map, slice_get, refl, sym, ap, subst, Ok, Err}
use Rattle.std.specs.Prelude.{IsErrAnd, Vec, if◌then◌else◌, option_to_list}
use Rattle.std.specs.Option.{option_map}
use Rattle.std.specs.Borrow.{Bor}
use Rattle.std.specs.List.{AllByRecursion}
use Rattle.std.specs.declared.alloc.Global.{Global}
use Rattle.std.proofs.lemmas.List.Concat.{flat_map_single}
use Rattle.sq_lex.specs.declared.name.Name.{Name}
use Rattle.sq_value.specs.declared.domain.Kind.{Kind}
use Rattle.sq_value.specs.declared.value.Value.{Value}
use Rattle.sq_store.specs.Content.{Content, table_at}
use Rattle.sq_store.specs.Keys.{Keys, are_keyed, has_key, key_at, with_key}
use Rattle.sq_store.specs.declared.table.Numbered.{Numbered}
use Rattle.sq_meaning.specs.Environment.{Line, Row, outermost, within}
use Rattle.sq_meaning.specs.Placed.{by_place}
use Rattle.sq_meaning.specs.Query.{is_true, rows, truth}
use Rattle.sq_meaning.specs.Rows.{firsts, product, same_row}
use Rattle.sq_meaning.specs.Status.{Outcome, and_then, each, kept}
use Rattle.sq_meaning.specs.Syntax.{expressions, present}
use Rattle.sq_meaning.specs.Tables.{rows_in}
use Rattle.sq_meaning.specs.Target.{clause_has_subquery, has_subquery}
use Rattle.sq_meaning.specs.WellFormed.{Has, HasValue, IsRowOf}
use Rattle.sq_bound.specs.Condition.{Groups, PlacedSelect, cond_of, groups_if, groups_of, select_of}
use Rattle.sq_bound.specs.Expression.{expr_of}
use Rattle.sq_bound.specs.Fits.{keys_of_bases, not_nulls_hold}
use Rattle.sq_bound.specs.Groups.{AreGroupsIfAny}
use Rattle.sq_bound.specs.Noted.{IsNoted}
use Rattle.sq_bound.specs.Numbered.{ClauseWith, IsNumbered}
use Rattle.sq_bound.specs.SetFunction.{call_of}
use Rattle.sq_bound.specs.WellFormed.{IsSelect, IsViewQuery, TableKinds, base_kinds}
use Rattle.sq_bound.specs.declared.condition.BoundCond.{BoundCond}
use Rattle.sq_bound.specs.declared.condition.BoundSpecification.{BoundSpecification, out-BoundSpecification}
use Rattle.sq_bound.specs.declared.condition.Grouping.{Grouping, out-Grouping}
use Rattle.sq_bound.specs.declared.condition.TablePlace.{TablePlace}
use Rattle.sq_bound.specs.declared.condition.TablePlace.TheVariants.{Base, View}
use Rattle.sq_bound.specs.declared.expression.BoundExpr.{BoundExpr}
use Rattle.sq_bound.specs.declared.names.BaseTable.{BaseTable}
use Rattle.sq_bound.proofs.ConditionLaws.{groups_of-out}
use Rattle.sq_bound.proofs.Nested.{select_held, select_itself}
use Rattle.sq_condition.specs.Specification.{as_line}
use Rattle.sq_condition.proofs.Grouped.{groups_from_lines}
use Rattle.sq_condition.proofs.Lone.{clause_alone}
use Rattle.sq_condition.proofs.Phases.{from_lines, lines_shown}
use Rattle.sq_expression.specs.Fault.{HasRows, Meets, MeetsAs, rows_in as list_of_rows}
use Rattle.sq_expression.specs.Frame.{inputs_of, table_rows}
use Rattle.sq_expression.specs.declared.context.Context.{Context}
use Rattle.sq_expression.specs.declared.fault.Fault.{Fault}
use Rattle.sq_expression.specs.declared.fault.Fault.TheVariants as fault
use Rattle.sq_expression.proofs.Views.{handed_on_as}
use Rattle.sq_query.specs.Key.{IsKeyOn, StandsOn}
use Rattle.sq_query.specs.Needed.{ReadsCond, ReadsSelect, clause_tables, cond_tables, inside_tables}
use Rattle.sq_query.specs.MayRead.{MayRead}
use Rattle.sq_query.specs.OnRow.{StandsOnRow}
use Rattle.sq_query.specs.Row.{outside, truth_on_row}
use Rattle.sq_query.specs.Specification.{IsOver, IsReadable, IsWhere}
use Rattle.sq_query.specs.SingleRow.{HasPlainHaving, IsSingleRow, line_if, lines_left, lines_of_row, listed_by}
use Rattle.sq_query.specs.declared.key.KnownKey.{KnownKey}
use Rattle.sq_query.specs.declared.single_row.SingleRow.{SingleRow}
use Rattle.sq_query.proofs.Keys.KeyNames.{element_at}
use Rattle.sq_query.proofs.Keys.OnlyOne.{found_is}
use Rattle.sq_query.proofs.Keys.Searched.{all_stored, found_row, groups_in, line_on, lines_kept, lines_on, only_read, test_on, tree_of, where_stands}
use Rattle.sq_query.proofs.Needs.AnyTables.{clause_over, listed_over, scopes_over}
use Rattle.sq_query.proofs.Needs.KindsOfTables.{KindsAreOf}
use Rattle.sq_query.proofs.Needs.NoSubquery.{cond_plain, none_of_both}
use Rattle.sq_query.proofs.Needs.SameTables.{over_rows, shown_of}
use Rattle.sq_query.proofs.Targets.KnownConditions.{rows_fit}

-- ---- the rows for the lines

-- the clause of the groups has no subquery
having_plain : (h : Option Grouping) → HasPlainHaving h → clause_has_subquery (groups_if (option_map groups_of h)).having ≡ false
having_plain None plain = refl
having_plain (Some g) plain = ap (λ (gs : Groups). clause_has_subquery gs.having) (groups_of-out g) ∙ plain (map call_of (out-Grouping g).set_functions)

module _ (context : Context) (distinct : Bool) (list : List BoundExpr) where
  -- what goes on from the lines, for groups if there are any
  abbrev pub next_by : Option Grouping → List Line → Outcome (List Row)
  next_by h =
      let gs = groups_if (option_map groups_of h) in
      from_lines None context distinct (map (expr_of gs.functions) list) gs.columns gs.having (tt ∷ [])

  pub listed_is : (h : Option Grouping) → AreGroupsIfAny list h → (lines : List Line) → next_by h lines ≡ listed_by distinct list h context lines
  listed_is None fits lines = lines_shown None context distinct list (tt ∷ []) lines
  listed_is (Some g) fits lines =
      ap (λ (gs : Groups). from_lines None context distinct (map (expr_of gs.functions) list) gs.columns gs.having (tt ∷ []) lines) (groups_of-out g)
      ∙ groups_from_lines None context distinct list g fits (tt ∷ []) lines

-- ---- over one table

module _ (tables : TablePlace → Outcome (List Row)) (context : Context) (q : BoundSpecification) (t : TablePlace) (own : BoundCond) (over : IsOver q t) (is_where : IsWhere q own) where
  abbrev values : List Value
  values = context.parameters.now

  rows_on : (all : List Row) → tables t ≡ Ok all → clause_has_subquery (groups_in q).having ≡ false
      → rows (by_place tables) (select_of q) (outermost (inputs_of values) context.user) ≡ and_then (lines_left tables own values context.user all) (next_by context (out-BoundSpecification q).distinct (out-BoundSpecification q).list (out-BoundSpecification q).grouping)
  rows_on all whole plain =
      let env = outermost (inputs_of values) context.user in
      let gs = groups_in q in
      let es = expressions (map (expr_of gs.functions) (out-BoundSpecification q).list) in
      let cond = present (cond_of [] own) in
      let g = table_rows context in
      let lines = lines_left tables own values context.user all in
      ap (λ (s : PlacedSelect). rows (by_place tables) s env) (tree_of q t own over is_where)
      ∙ over_rows tables g (out-BoundSpecification q).distinct es t cond gs.columns gs.having env tables all whole
      ∙ ap (λ (r : Outcome (List Line)). and_then r (shown_of tables g (out-BoundSpecification q).distinct es t cond gs.columns gs.having env tables))
      ((λ i. kept (λ line. is_true (clause_alone tables (tt ∷ []) line env (Some own) i)) (product (all ∷ []))) ∙ ap (kept (λ line. is_true (truth (by_place tables) (cond_of [] own) (outside line values context.user)))) (flat_map_single as_line all))
      ∙ (λ i. and_then lines
      (λ left. and_then (scopes_over tables g es gs.columns gs.having (tt ∷ []) left env i)
      (λ scopes. and_then (kept (λ scope. is_true (clause_over tables g gs.having (within scope env) plain i)) scopes)
      (λ left. and_then (each (λ scope. listed_over tables g es (within scope env) i) left)
      (λ shown. Ok (if (out-BoundSpecification q).distinct then firsts same_row shown else shown))))))

  pub rows_listed : (all : List Row) → tables t ≡ Ok all → HasPlainHaving (out-BoundSpecification q).grouping → AreGroupsIfAny (out-BoundSpecification q).list (out-BoundSpecification q).grouping
      → rows (by_place tables) (select_of q) (outermost (inputs_of values) context.user) ≡ and_then (lines_left tables own values context.user all) (listed_by (out-BoundSpecification q).distinct (out-BoundSpecification q).list (out-BoundSpecification q).grouping context)
  rows_listed all whole plain fits =
      rows_on all whole (having_plain (out-BoundSpecification q).grouping plain)
      ∙ (λ i. and_then (lines_left tables own values context.user all) (λ lines. listed_is context (out-BoundSpecification q).distinct (out-BoundSpecification q).list (out-BoundSpecification q).grouping fits lines i))

-- ---- the answer

-- where the lines are found, the rows are those listed for them
pub listed_for : (lines : List Line) (left : Outcome (List Line)) (next : List Line → Outcome (List Row)) (r : Result (Vec (List Value) Global) Fault) → left ≡ Ok lines → HasRows r (next lines) → HasRows r (and_then left next)
listed_for lines left next r is h = subst (HasRows r) (sym (ap (λ (o : Outcome (List Line)). and_then o next) is)) h

-- ---- WHERE on the row

-- the WHERE clause of a well-formed query specification stands on a row of its only table
where_on_row : (columns : TableKinds) (parameters : List Kind) (q : BoundSpecification) (place : ℕ) (own : BoundCond) (row : Row) → IsWhere q own → IsSelect columns parameters [] q → StandsOn columns parameters (Base place) own
    → Has (λ kinds. IsRowOf kinds row) (columns (Base place)) → StandsOnRow columns parameters row own
where_on_row columns parameters q place own row is_where well stands fits = record {
  place = place;
  stands = stands;
  notes = subst (ClauseWith IsNoted) is_where (select_held IsNoted q well.notes).0;
  numbers = (
    well.numbers.0,
    (
      well.numbers.1.0,
      (
        well.numbers.1.1.0,
        (
          well.numbers.1.1.1.0,
          subst (ClauseWith (IsNumbered well.numbers.0 well.numbers.1.0 well.numbers.1.1.1.0)) is_where (select_held (IsNumbered well.numbers.0 well.numbers.1.0 well.numbers.1.1.1.0) q well.numbers.1.1.1.1).0,
        ),
      ),
    ),
  );
  fits = fits;
}

-- its groups are noted as they are
groups_noted : (columns : TableKinds) (parameters : List Kind) (q : BoundSpecification) → IsSelect columns parameters [] q → AreGroupsIfAny (out-BoundSpecification q).list (out-BoundSpecification q).grouping
groups_noted columns parameters q well = (select_itself IsNoted q well.notes).groups

-- it reads what the query specification reads
pub where_read : (P : TablePlace → Type 0) (q : BoundSpecification) (t : TablePlace) (own : BoundCond) → IsOver q t → IsWhere q own → ReadsSelect P (select_of q) → ReadsCond P (cond_of [] own)
where_read P q t own over is_where reads = (subst (ReadsSelect P) (tree_of q t own over is_where) reads).1

-- where no subquery of a query specification reads a table, its WHERE clause has none
pub where_plain : (q : BoundSpecification) (t : TablePlace) (own : BoundCond) → IsOver q t → IsWhere q own → inside_tables (select_of q) ≡ [] → has_subquery (cond_of [] own) ≡ false
where_plain q t own over is_where none =
    cond_plain [] own (none_of_both (cond_tables (cond_of [] own)) (clause_tables (groups_in q).having) (sym (ap inside_tables (tree_of q t own over is_where)) ∙ none)).0

-- ---- the lines of the found row

module _ (tables : TablePlace → Outcome (List Row)) (columns : TableKinds) (parameters : List Kind) (values : List Value) (caller : Name) (given : IsRowOf parameters values)
    (bases : List BaseTable) (content : Content) (keys : List Keys) (place : ℕ) (b : BaseTable) (own : BoundCond) (known : KnownKey) (k : IsKeyOn place own content keys values caller known)
    (at : slice_get bases place ≡ Some b) (kinds_are : columns (Base place) ≡ Ok (base_kinds b)) (stands : StandsOn columns parameters (Base place) own) (keys_are : keys ≡ keys_of_bases bases) (nulls : not_nulls_hold bases content ≡ true)
    (rows_are : AllByRecursion (λ (r : Numbered). IsRowOf (base_kinds b) r.row) (table_at content place).rows) (keyed : are_keyed keys content ≡ true) where
  abbrev found_there : Option Numbered
  found_there = found_row tables columns parameters values caller given bases content keys place b own known k at kinds_are stands keys_are nulls rows_are keyed

  abbrev test : Line → Outcome Bool
  test = test_on tables columns parameters values caller given bases content keys place b own known k at kinds_are stands keys_are nulls rows_are keyed

  lines_found : (o : Option Numbered) → found_there ≡ o → lines_left tables own values caller (rows_in (table_at content place)) ≡ kept test (map line_on (option_to_list o))
  lines_found o is =
      ap (kept test) (lines_on (table_at content place).rows)
      ∙ lines_kept tables columns parameters values caller given bases content keys place b own known k at kinds_are stands keys_are nulls rows_are keyed
      ∙ ap (λ (p : Option Numbered). kept test (map line_on (option_to_list p))) is

  one_line : (r : Numbered) → found_there ≡ Some r → lines_left tables own values caller (rows_in (table_at content place)) ≡ and_then (is_true (truth_on_row tables values caller r.row own)) (line_if r.row)
  one_line r is = lines_found (Some r) is

  no_lines : found_there ≡ None → lines_left tables own values caller (rows_in (table_at content place)) ≡ Ok []
  no_lines is = lines_found None is

-- ---- the query specification that names the row

module _ (bases : List BaseTable) (views : List BoundSpecification) (columns : TableKinds) (content : Content) (keys : List Keys) (call : Context) (kinds_of_bases : KindsAreOf columns bases)
    (kinds_of_views : (place : ℕ) (kinds : List Kind) → columns (View place) ≡ Ok kinds → IsViewQuery columns views place kinds) (keyed : are_keyed keys content ≡ true)
    (q : BoundSpecification) (readable : IsReadable bases columns content keys q) (single : SingleRow) (s : IsSingleRow q content keys call.parameters.now call.user single)
    (parameters : List Kind) (tables : TablePlace → Outcome (List Row)) (may : MayRead bases views columns content call.user call.parameters.now parameters tables) (well : IsSelect columns parameters [] q) where
  abbrev place : ℕ
  place = single.base

  abbrev own : BoundCond
  own = single.condition.now

  abbrev left : Outcome (List Line)
  left = lines_left tables own call.parameters.now call.user (rows_in (table_at content place))

  table : (b : BaseTable) × (slice_get bases place ≡ Some b)
  table = element_at bases place (readable.finds.0 place (only_read (λ t. HasValue (columns t)) q (Base place) s.over readable.finds.1))

  kinds : columns (Base place) ≡ Ok (base_kinds table.0)
  kinds = kinds_of_bases place table.0 table.1

  stands : StandsOn columns parameters (Base place) own
  stands = where_stands columns parameters q (Base place) own s.over s.is_where well

  rows_are : AllByRecursion (λ (r : Numbered). IsRowOf (base_kinds table.0) r.row) (table_at content place).rows
  rows_are = rows_fit bases views columns content call.user call.parameters.now kinds_of_bases kinds_of_views parameters tables may place s.key.table (base_kinds table.0) kinds

  abbrev found : Option Numbered
  found = with_key (table_at content place) (key_at keys place single.key.key) single.key.values

  pub stands_on_found : (r : Numbered) → found ≡ Some r → StandsOnRow columns parameters r.row own
  stands_on_found r is =
      where_on_row columns parameters q place own r.row s.is_where well stands
      (subst (Has (λ ks. IsRowOf ks r.row)) (sym kinds) (found_is (λ (n : Numbered). IsRowOf (base_kinds table.0) n.row) (has_key (key_at keys place single.key.key) single.key.values) (table_at content place).rows r rows_are is))

  pub line_of_found : (r : Numbered) → found ≡ Some r → left ≡ and_then (is_true (truth_on_row tables call.parameters.now call.user r.row own)) (line_if r.row)
  line_of_found = one_line tables columns parameters call.parameters.now call.user may.inputs bases content keys place table.0 own single.key s.key table.1 kinds stands readable.keys readable.not_null rows_are keyed

  pub none_found : found ≡ None → left ≡ Ok []
  none_found = no_lines tables columns parameters call.parameters.now call.user may.inputs bases content keys place table.0 own single.key s.key table.1 kinds stands readable.keys readable.not_null rows_are keyed

  pub rows_of_left : rows (by_place tables) (select_of q) (outermost (inputs_of call.parameters.now) call.user) ≡ and_then left (listed_by (out-BoundSpecification q).distinct (out-BoundSpecification q).list (out-BoundSpecification q).grouping call)
  rows_of_left =
      rows_listed tables call q (Base place) own s.over s.is_where (rows_in (table_at content place))
      (all_stored tables columns parameters call.parameters.now call.user may.inputs bases content keys place table.0 own single.key s.key table.1 kinds stands readable.keys readable.not_null rows_are keyed may.meant.bases)
      s.plain_having (groups_noted columns parameters q well)

-- where the lines end with a status, so do the rows
failed : (e : Fault) (left : Outcome (List Line)) (next : List Line → Outcome (List Row)) → MeetsAs {A = Option (Bor Row)} lines_of_row (Err e) left → Meets {A = List Row} (Err e) (and_then left next)
failed fault.NoMemory left next h = tt
failed (fault.Status s) left next h = ap (λ (o : Outcome (List Line)). and_then o next) h

pub failed_lines : (e : Fault) (left : Outcome (List Line)) (next : List Line → Outcome (List Row)) (r : Result (Vec (List Value) Global) Fault) → IsErrAnd r (λ g. g ≡ e) → MeetsAs {A = Option (Bor Row)} lines_of_row (Err e) left → HasRows r (and_then left next)
failed_lines e left next r is h = handed_on_as list_of_rows r e (and_then left next) is (failed e left next h)
