-- A SELECT INTO whose query specification is well formed, and the query of a cursor, are not answered with 42000
-- (ISO/IEC 9075:1992, 13.2 and 13.5).
use Rattle.std.specs.Prelude.{⊤, negsuc, Bool, true, false, List, [], ◌∷◌, if◌then◌else◌, Option, option_map, Some, None, Ok, Err}
use Rattle.sq_value.specs.Storing as storing
use Rattle.sq_value.specs.declared.domain.Domain.{Domain}
use Rattle.sq_value.specs.declared.value.Value.{Value}
use Rattle.sq_value.specs.declared.value.Value.TheVariants as value
use Rattle.sq_tree.specs.declared.module.Cursor.{Cursor}
use Rattle.sq_tree.specs.declared.names.Parameter.{Parameter}
use Rattle.sq_tree.specs.declared.statement.Select.{Select as SelectStatement}
use Rattle.sq_meaning.specs.Assignment.{retrieved_into}
use Rattle.sq_meaning.specs.Database.{AreInputsAs, IsDatabaseOf, IsDeclaredIn}
use Rattle.sq_meaning.specs.Environment.{Row}
use Rattle.sq_meaning.specs.Kind.{query_kinds, select_kinds}
use Rattle.sq_meaning.specs.Query.{rows}
use Rattle.sq_meaning.specs.Spelled.{listed}
use Rattle.sq_meaning.specs.Status.{Outcome, and_then, or_status}
use Rattle.sq_meaning.specs.Tables.{kinds_by_name}
use Rattle.sq_meaning.specs.WellFormed.{AreRowsOf, Has, HasValue, IsNoSyntaxError, WellFormedQuery, WellFormedSelect}
use Rattle.sq_meaning.specs.declared.status.Status.{Status}
use Rattle.sq_meaning.specs.declared.status.Status.TheVariants as status
use Rattle.sq_meaning.proofs.AnswerLaws.{then_answers, weaker}
use Rattle.sq_meaning.proofs.QueryKinds.{Ends, rows_of_kinds}
use Rattle.sq_meaning.proofs.ReadingKinds.{cursor_of_kinds, database_agrees, env_by_name}
use Rattle.sq_meaning.specs.Catalog.{tables_of}
use Rattle.sq_meaning.specs.Change.{outer_env, reading_in}
use Rattle.sq_meaning.specs.Machine.{Running, cursor_rows, select_into, select_reply, selected_row, setting, single_row, sort_order, sorted_query, surroundings}
use Rattle.sq_meaning.specs.Parameter.{Parameters, Retrieval, domain_of_parameter, indicated, inputs_of, is_cut, reply_of, row_retrieved, target_set, value_retrieved}
use Rattle.sq_meaning.specs.WellFormedStatement.{cursor_query, select_of_statement}

ends_then : {A B : Type 0} (r : Outcome A) (f : A → Outcome B) → Ends r → ((x : A) → Ends (f x)) → Ends (and_then r f)
ends_then r f h t = then_answers (λ x. ⊤) (λ y. ⊤) r f h (λ x p. t x)

has_ends : {A : Type 0} (r : Outcome A) → HasValue r → Ends r
has_ends (Ok x) h = tt
has_ends (Err s) h = absurd h

-- ---- retrieving (9.1)

or_ends : {A : Type 0} (s : Status) (o : Option A) → IsNoSyntaxError s → Ends (or_status s o)
or_ends s None h = h
or_ends s (Some x) h = tt

retrieved_ends : (d : Domain) (v : Value) → Ends (retrieved_into d v)
retrieved_ends d value.Null = tt
retrieved_ends d (value.Num n) = or_ends status.NumericValueOutOfRange (option_map (λ k. record { value = value.Num k; uncut = None }) (storing.fitted d n)) tt
retrieved_ends d (value.Chars t) = tt

target_ends : (d : Domain) (target : Parameter) (v : Value) → Ends (target_set d target v)
target_ends d target value.Null =
    ends_then (or_status status.NullWithoutIndicator target.indicator) (λ indicator. Ok (record { assignments = record { name = target.name; value = value.Null } ∷ indicated (Some indicator) (negsuc 0); cut = false }))
    (or_ends status.NullWithoutIndicator target.indicator tt) (λ indicator. tt)
target_ends d target (value.Num n) = ends_then (retrieved_into d (value.Num n)) (λ r. Ok (value_retrieved target r)) (retrieved_ends d (value.Num n)) (λ r. tt)
target_ends d target (value.Chars t) = ends_then (retrieved_into d (value.Chars t)) (λ r. Ok (value_retrieved target r)) (retrieved_ends d (value.Chars t)) (λ r. tt)

row_ends : (parameters : Parameters) (targets : List Parameter) (row : List Value) → Ends (row_retrieved parameters targets row)
row_ends parameters [] row = tt
row_ends parameters (target ∷ targets) [] = tt
row_ends parameters (target ∷ targets) (v ∷ vs) =
    ends_then (target_set (domain_of_parameter parameters target.name) target v) (λ r. and_then (row_retrieved parameters targets vs) (λ rs. Ok (r ∷ rs)))
    (target_ends (domain_of_parameter parameters target.name) target v) (λ r. ends_then (row_retrieved parameters targets vs) (λ rs. Ok (r ∷ rs)) (row_ends parameters targets vs) (λ rs. tt))

done_or_cut : (cut : Bool) → IsNoSyntaxError (if cut then status.TextTruncated else status.SuccessfulCompletion)
done_or_cut true = tt
done_or_cut false = tt

reply_ends : (parameters : Parameters) (o : Outcome (List Retrieval)) → Ends o → IsNoSyntaxError (reply_of parameters o).status
reply_ends parameters (Ok retrievals) h = done_or_cut (is_cut retrievals)
reply_ends parameters (Err s) h = h

-- ---- SELECT INTO (13.5)

single_ends : (found : List Row) → Ends (single_row found)
single_ends [] = tt
single_ends (row ∷ []) = tt
single_ends (row ∷ next ∷ others) = tt

select_reply_ends : (r : Running) (s : SelectStatement) (o : Outcome Row) → Ends o → IsNoSyntaxError (select_reply r s o).status
select_reply_ends r s (Ok row) h = reply_ends r.parameters (row_retrieved r.parameters (listed s.targets) row) (row_ends r.parameters (listed s.targets) row)
select_reply_ends r s (Err st) h = h

-- what a call runs over is as it is declared
pub record IsDeclaredState (r : Running) : Type 0 where
  pub tables : IsDatabaseOf (tables_of r.program.elements) r.state.tables r.in_module.authorization
  pub inputs : AreInputsAs (surroundings r).parameters (inputs_of r.parameters)

pub select_into_answers : (r : Running) (s : SelectStatement) → IsDeclaredState r
    → WellFormedSelect (reading_in (setting r)) (kinds_by_name (tables_of r.program.elements) (surroundings r).parameters) (IsDeclaredIn (surroundings r).parameters) [] (select_of_statement r.in_module.authorization s)
    → IsNoSyntaxError ((select_into r s).1).status
select_into_answers r s d w =
    select_reply_ends r s (selected_row r s)
    (ends_then (rows (reading_in (setting r)) (select_of_statement r.in_module.authorization s) (outer_env (setting r))) single_row
    (weaker (λ found. Has (λ kinds. AreRowsOf kinds found) (select_kinds (kinds_by_name (tables_of r.program.elements) (surroundings r).parameters) [] (select_of_statement r.in_module.authorization s))) (λ found. ⊤)
    (rows (reading_in (setting r)) (select_of_statement r.in_module.authorization s) (outer_env (setting r))) (λ found p. tt)
    (rows_of_kinds (reading_in (setting r)) (kinds_by_name (tables_of r.program.elements) (surroundings r).parameters) (IsDeclaredIn (surroundings r).parameters)
    (database_agrees (tables_of r.program.elements) r.state.tables r.in_module.authorization (surroundings r).parameters d.tables) (select_of_statement r.in_module.authorization s) [] (outer_env (setting r)) w
    (env_by_name (tables_of r.program.elements) r.state.tables r.in_module.authorization (surroundings r).parameters (inputs_of r.parameters) r.in_module.authorization d.inputs)))
    single_ends)

-- ---- the query of a cursor (13.2), whose sort keys mean columns

pub cursor_rows_answer : (r : Running) (c : Cursor) → IsDeclaredState r → HasValue (sort_order r c)
    → WellFormedQuery (reading_in (setting r)) (kinds_by_name (tables_of r.program.elements) (surroundings r).parameters) (IsDeclaredIn (surroundings r).parameters) (cursor_query (surroundings r) c)
    → Ends (cursor_rows r c)
cursor_rows_answer r c d sorts w =
    ends_then (sort_order r c) (sorted_query r c) (has_ends (sort_order r c) sorts)
    (λ order. weaker (λ found. Has (λ kinds. AreRowsOf kinds found) (query_kinds (kinds_by_name (tables_of r.program.elements) (surroundings r).parameters) (cursor_query (surroundings r) c))) (λ found. ⊤) (sorted_query r c order) (λ found p. tt)
    (cursor_of_kinds (tables_of r.program.elements) r.state.tables r.in_module.authorization (surroundings r).parameters (inputs_of r.parameters) (cursor_query (surroundings r) c) order d.tables d.inputs w))
