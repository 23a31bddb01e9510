-- The tables that a statement reads were read as they are meant.
use Rattle.std.proofs.Common.{◌≡◌, ℕ, List, [], ◌∷◌, Option, Some, None, Result, refl, subst, ◌∙◌, Ok, Err}
use Rattle.std.specs.Prelude.{⊤, find, nat_eq, Vec, IfOk}
use Rattle.std.specs.declared.alloc.Global.{Global}
use Rattle.std.specs.Option.{option_map}
use Rattle.sq_value.specs.declared.domain.Kind.{Kind}
use Rattle.sq_value.specs.declared.truth.Truth.{Truth}
use Rattle.sq_value.specs.declared.value.Value.{Value}
use Rattle.sq_store.specs.Content.{Content}
use Rattle.sq_meaning.specs.Status.{Outcome, and_then, each, well_formed}
use Rattle.sq_meaning.specs.Environment.{Row}
use Rattle.sq_meaning.specs.Placed.{by_place}
use Rattle.sq_meaning.specs.Query.{rows}
use Rattle.sq_meaning.specs.WellFormed.{Answers, AreRowsOf, IsRowOf}
use Rattle.sq_bound.specs.Condition.{cond_of, select_of}
use Rattle.sq_bound.specs.Expression.{PlacedExpr}
use Rattle.sq_bound.specs.WellFormed.{IsSelect, TableKinds, kinds_of_select}
use Rattle.sq_bound.specs.declared.condition.BoundCond.{BoundCond}
use Rattle.sq_bound.specs.declared.condition.BoundSpecification.{BoundSpecification}
use Rattle.sq_bound.specs.declared.condition.TablePlace.{TablePlace}
use Rattle.sq_bound.specs.declared.condition.TablePlace.TheVariants.{Base, View}
use Rattle.sq_expression.specs.Fault.{HasRows, Means, MeansRows, Meets, rows_in}
use Rattle.sq_expression.specs.Frame.{inputs_of, lent, table_rows}
use Rattle.sq_expression.specs.Lines.{env_around}
use Rattle.sq_condition.specs.Memo.{Meant}
use Rattle.sq_condition.specs.Specification.{rows_meant}
use Rattle.sq_query.specs.Needed.{IsNeeded, NeedsBases, ReadsCond, ReadsSelect}
use Rattle.sq_query.specs.OnRow.{StandsOnRow}
use Rattle.sq_query.specs.Row.{outside, truth_on_row}
use Rattle.sq_condition.specs.Subquery.{KnowsCond, KnowsQuery}
use Rattle.sq_query.specs.Table.{ReadsAsMeant, bases_of, rows_among, rows_read, stored_base}
use Rattle.sq_query.specs.Union.{AreFitting}
use Rattle.sq_expression.specs.declared.context.Context.{Context}
use Rattle.sq_expression.specs.declared.fault.Fault.{Fault}
use Rattle.sq_query.specs.declared.needed.Needed.{Needed}
use Rattle.sq_expression.specs.declared.table.BaseRows.{BaseRows}
use Rattle.sq_query.specs.declared.view.Tables.{Tables}
use Rattle.sq_query.proofs.Needs.Fitting.{answers_right, exact}
use Rattle.sq_query.proofs.Keys.KeyedRows.{inputs_are}
use Rattle.sq_query.proofs.Needs.KnownQueries.{known_cond_of, known_of}
use Rattle.sq_query.proofs.Needs.NeededViews.{cond_reads_weaker, reads_weaker}
use Rattle.sq_query.proofs.Needs.SameTables.{same_rows, same_truth}
use Rattle.sq_query.proofs.Needs.TablesMeant.{select_fits}

-- ---- what was read stands in the context

pub table_same : (context : Context) (t : TablePlace) → table_rows context t ≡ rows_among context.bases.now context.views.now t
table_same context (Base p) = by (find (λ (t : BaseRows). nat_eq t.place p) context.bases.now)
  where
    by : (found : Option BaseRows) → well_formed (option_map (λ (t : BaseRows). lent t.rows.items) found) ≡ and_then (well_formed found) (λ t. Ok (lent t.rows.items))
    by None = refl
    by (Some t) = refl
table_same context (View p) = refl

-- the tables in the FROM clauses of a query specification, subqueries included, have these rows
abbrev pub IsReadAs : (TablePlace → Outcome (List Row)) → Context → BoundSpecification → Type 0
IsReadAs tables context s = ReadsSelect (λ t. table_rows context t ≡ tables t) (select_of s)

pub read_in : (context : Context) (read : Tables) → context.bases.now ≡ read.bases.items → context.views.now ≡ read.views.items → (rows_of : TablePlace → Outcome (List Row)) (s : BoundSpecification)
    → ReadsSelect (λ t. rows_read read t ≡ rows_of t) (select_of s) → IsReadAs rows_of context s
read_in context read bases_are views_are rows_of s reads =
    reads_weaker (λ t. rows_read read t ≡ rows_of t) (λ t. table_rows context t ≡ rows_of t) (λ t h. table_same context t ∙ (λ i. rows_among (bases_are i) (views_are i) t) ∙ h) (select_of s) reads

pub cond_read_in : (context : Context) (read : Tables) → context.bases.now ≡ read.bases.items → context.views.now ≡ read.views.items → (rows_of : TablePlace → Outcome (List Row)) (c : BoundCond)
    → ReadsCond (λ t. rows_read read t ≡ rows_of t) (cond_of [] c) → ReadsCond (λ t. table_rows context t ≡ rows_of t) (cond_of [] c)
cond_read_in context read bases_are views_are rows_of c reads =
    cond_reads_weaker (λ t. rows_read read t ≡ rows_of t) (λ t. table_rows context t ≡ rows_of t) (λ t h. table_same context t ∙ (λ i. rows_among (bases_are i) (views_are i) t) ∙ h) (cond_of [] c) reads

-- ---- there is no answer where nothing was known to be needed

abbrev Seen : Type 0
Seen = List (ℕ × List Row)

first_stored : (o : Outcome (ℕ × List Row)) (read : Seen) → (let none : Outcome Seen = Ok [] in none ≡ Ok read) → (let one : Outcome Seen = and_then o (λ base. Ok (base ∷ [])) in one ≡ Ok read) → ⊥
first_stored (Ok base) read none one = absurd cc
first_stored (Err s) read none one = absurd cc

module _ {E : Type 0} (r : Result Needed E) (content : Content) (read : Tables) (bases : (places : List ℕ) → IfOk r (NeedsBases places) → each (stored_base content) places ≡ Ok (bases_of read)) where
  of_needed : {R : Type 0} (P Q : Needed → Type 0) → IfOk r P → IfOk r Q → ((n : Needed) → P n → Q n → R) → R
  of_needed {R} P Q p q step = by r bases p q
    where
      by : (s : Result Needed E) → ((places : List ℕ) → IfOk s (NeedsBases places) → each (stored_base content) places ≡ Ok (bases_of read)) → IfOk s P → IfOk s Q → R
      by (Ok n) all p q = step n p q
      by (Err e) all p q = absurd (first_stored (stored_base content 0) (bases_of read) (all [] tt) (all (0 ∷ []) tt))

  module _ (context : Context) (bases_are : context.bases.now ≡ read.bases.items) (views_are : context.views.now ≡ read.views.items) (tables : TablePlace → Outcome (List Row)) (meant : IfOk r (λ n. ReadsAsMeant n (rows_read read) tables)) where
    table_read : (n : Needed) → ReadsAsMeant n (rows_read read) tables → (t : TablePlace) → IsNeeded n t → table_rows context t ≡ tables t
    table_read n as_meant t needed = table_same context t ∙ (λ i. rows_among (bases_are i) (views_are i) t) ∙ as_meant t needed

    pub cond_read_as : (c : BoundCond) → IfOk r (λ n. (functions : List PlacedExpr) → ReadsCond (IsNeeded n) (cond_of functions c)) → ReadsCond (λ t. table_rows context t ≡ tables t) (cond_of [] c)
    cond_read_as c reads =
        of_needed (λ n. ReadsAsMeant n (rows_read read) tables) (λ n. (functions : List PlacedExpr) → ReadsCond (IsNeeded n) (cond_of functions c)) meant reads
        (λ n as_meant needs. cond_reads_weaker (IsNeeded n) (λ t. table_rows context t ≡ tables t) (table_read n as_meant) (cond_of [] c) (needs []))

-- ---- conditions on a row

-- the truth of a condition is that over the tables that it reads
pub truth_of_cond : (context : Context) (tables : TablePlace → Outcome (List Row)) (columns : TableKinds) (parameters : List Kind) (row : Row) (c : BoundCond) (result : Result Truth Fault) → StandsOnRow columns parameters row c
    → ((meant : Meant) → KnowsCond context c meant → Means result (truth_on_row (table_rows context) context.parameters.now context.user row c))
    → ReadsCond (λ t. table_rows context t ≡ tables t) (cond_of [] c) → Answers (λ t. ⊤) (truth_on_row tables context.parameters.now context.user row c)
    → Meets result (truth_on_row tables context.parameters.now context.user row c)
truth_of_cond context tables columns parameters row c result on h read ends =
    let known = known_cond_of context c on.notes on.numbers in
    let same = same_truth (table_rows context) tables (cond_of [] c) read (outside (row ∷ []) context.parameters.now context.user) in
    subst (Means result) same (h known.0 known.1) (answers_right (λ t. ⊤) (truth_on_row tables context.parameters.now context.user row c) ends)

-- ---- query specifications outside every query

-- the rows are those of the tables that it reads
pub rows_of_select : (result : Result (Vec (List Value) Global) Fault) (context : Context) (s : BoundSpecification) → ((meant : Meant) → KnowsQuery context s meant → MeansRows result (rows_meant s None context))
    → (columns : TableKinds) (parameters : List Kind) (tables : TablePlace → Outcome (List Row)) → AreFitting columns tables → IsRowOf parameters context.parameters.now → IsSelect columns parameters [] s → IsReadAs tables context s
    → HasRows result (rows (by_place tables) (select_of s) (env_around None context))
rows_of_select result context s h columns parameters tables fitting inputs well read =
    let known = known_of context s well.notes well.numbers in
    let same = same_rows (table_rows context) tables (select_of s) read (env_around None context) in
    exact rows_in result (AreRowsOf (kinds_of_select s)) (rows (by_place tables) (select_of s) (env_around None context))
    (subst (MeansRows result) same (h known.0 known.1)) (select_fits columns tables fitting parameters (inputs_of context.parameters.now) (inputs_are parameters context.parameters.now inputs) context.user s well)
