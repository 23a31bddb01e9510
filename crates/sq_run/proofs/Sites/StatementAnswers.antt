-- Statements for which the rules of the machine find no fault are not answered with 42000 (ISO/IEC 9075:1992, 13.2, 13.5,
-- 13.7 and 13.10).
use Rattle.std.proofs.Common.{subst, sym}
use Rattle.std.specs.Prelude.{◌≡◌, Bool, true, false, not, ◌||◌, List, [], length, is_ok, Some, refl, Ok, Err}
use Rattle.sq_lex.specs.declared.name.Name.{Name}
use Rattle.sq_value.specs.declared.value.Value.{Value}
use Rattle.sq_tree.specs.declared.cond.Cond.{Cond as SpelledCond}
use Rattle.sq_tree.specs.declared.module.Cursor.{Cursor}
use Rattle.sq_tree.specs.declared.module.ModuleText.{ModuleText}
use Rattle.sq_tree.specs.declared.module.Procedure.{Procedure}
use Rattle.sq_tree.specs.declared.statement.Select.{Select as SelectStatement}
use Rattle.sq_tree.specs.declared.statement.Statement.{Statement}
use Rattle.sq_tree.specs.declared.statement.Statement.TheVariants as statement
use Rattle.sq_meaning.specs.Database.{IsDatabaseOf, IsDeclaredIn}
use Rattle.sq_meaning.specs.Environment.{Env, Item, TableName}
use Rattle.sq_meaning.specs.Query.{truth}
use Rattle.sq_meaning.specs.Spelled.{cond_of, is_distinct_word, list_of, listed_if_any}
use Rattle.sq_meaning.specs.Status.{Outcome}
use Rattle.sq_meaning.specs.Tables.{Declared, TableDescriptor, descriptor_of, kinds_by_name, table_rows}
use Rattle.sq_meaning.specs.WellFormed.{HasValue, IsEnvOf, IsNoSyntaxError, WellFormedQuery}
use Rattle.sq_meaning.proofs.QueryKinds.{Ends, truth_of_kinds}
use Rattle.sq_meaning.proofs.ReadingKinds.{database_agrees}
use Rattle.sq_run.proofs.Laws.AnswerLaws.{IsDeclaredState, cursor_rows_answer, select_into_answers}
use Rattle.sq_run.proofs.Sites.ColumnSites.{lines_of}
use Rattle.sq_run.proofs.Sites.CondLiterals.{cond_spells, list_spells, table_spells}
use Rattle.sq_run.proofs.Sites.ConditionSites.{cond_well_formed, select_well_formed}
use Rattle.sq_meaning.proofs.KindLaws.{inputs_are_declared}
use Rattle.sq_run.proofs.Laws.OpenerLaws.{opener_is}
use Rattle.sq_run.proofs.Sites.QueryLiterals.{query_spells}
use Rattle.sq_run.proofs.Sites.QuerySites.{query_names_there, query_well_formed}
use Rattle.sq_run.proofs.Sites.SiteLaws.{AreSound, IsSound, all_parts, sound_sites}
use Rattle.sq_run.proofs.Sites.SortSites.{sort_order_there}
use Rattle.sq_meaning.specs.Binding.{has_syntax_fault, is_well_formed, lacks_privilege}
use Rattle.sq_meaning.specs.Catalog.{tables_of}
use Rattle.sq_meaning.specs.Change.{reading_in}
use Rattle.sq_meaning.specs.Machine.{Program, Running, State, call_of, cursor_rows, performed, performed_if, running, select_into, setting, surroundings}
use Rattle.sq_meaning.specs.Module.{declared_parameters, opener_count, opens, procedure_named}
use Rattle.sq_meaning.specs.Site.{Site, cond_sites, outside, query_sites, select_sites}
use Rattle.sq_meaning.specs.WellFormedStatement.{beside_table, cursor_names, cursor_query, cursor_sites, is_sound, is_well_formed_procedure, judged_by, known_in, known_in_query, opener_parameters, opener_surroundings, select_into_sites, select_of_statement, sort_sites, statement_sites, surroundings_of}

-- what is well formed by the rules has no syntax fault
no_syntax_fault : (fault lacks : Bool) → not (fault || lacks) ≡ true → fault ≡ false
no_syntax_fault true lacks e = cc
no_syntax_fault false lacks e = refl

-- ---- SELECT INTO (13.5)

-- a SELECT INTO for which the rules find no syntax fault is not answered with 42000, its retrieving included
pub sound_select_into_answers : (r : Running) (s : SelectStatement) → IsDeclaredState r
    → has_syntax_fault (judged_by (surroundings r) (known_in (surroundings r))) (select_into_sites (surroundings r) s) ≡ false → IsNoSyntaxError ((select_into r s).1).status
sound_select_into_answers r s d e =
    select_into_answers r s d
    (select_well_formed (known_in (surroundings r)) (table_rows (tables_of r.program.elements) r.state.tables r.in_module.authorization) (select_of_statement r.in_module.authorization s) [] false tt
    (table_spells r.in_module.authorization s.table (is_distinct_word s.quantifier) (list_of s.list) (list_spells s.list))
    (all_parts (IsSound (known_in (surroundings r))) (select_sites (known_in (surroundings r)) outside (select_of_statement r.in_module.authorization s)) _
    (sound_sites (judged_by (surroundings r) (known_in (surroundings r))) (select_into_sites (surroundings r) s) e)).0)

-- A SELECT INTO that is well formed by the rules is not answered with 42000.
pub well_formed_select_into_answers : (r : Running) (s : SelectStatement) → IsDeclaredState r
    → is_well_formed (judged_by (surroundings r) (known_in (surroundings r))) (select_into_sites (surroundings r) s) ≡ true → IsNoSyntaxError ((select_into r s).1).status
well_formed_select_into_answers r s d e =
    sound_select_into_answers r s d
    (no_syntax_fault (has_syntax_fault (judged_by (surroundings r) (known_in (surroundings r))) (select_into_sites (surroundings r) s)) (lacks_privilege (judged_by (surroundings r) (known_in (surroundings r))) (select_into_sites (surroundings r) s)) e)

-- A call of a procedure whose statement is a well-formed SELECT INTO is not answered with 42000.
pub called_select_into_answers : (p : Program) (s : State) (values : List Value) (m : ModuleText) (procedure : Procedure) (q : SelectStatement) → procedure.statement ≡ statement.Select q
    → IsDatabaseOf (tables_of p.elements) s.tables m.authorization → length (declared_parameters procedure) ≡ length values
    → is_well_formed_procedure p.elements m procedure ≡ true → IsNoSyntaxError ((call_of p s values m procedure).1).status
called_select_into_answers p s values m procedure q same d counts e =
    subst (λ b. IsNoSyntaxError ((performed_if b (running p s values m procedure)).1).status) (sym e)
    (subst (λ (st : Statement). IsNoSyntaxError ((performed (running p s values m procedure) st).1).status) (sym same)
    (well_formed_select_into_answers (running p s values m procedure) q (record { tables = d; inputs = inputs_are_declared (declared_parameters procedure) values counts })
    (subst (λ (st : Statement). is_well_formed (judged_by (surroundings_of p.elements m procedure) (known_in (surroundings_of p.elements m procedure))) (statement_sites (surroundings_of p.elements m procedure) st) ≡ true) same e)))

-- ---- the query of a cursor (13.2)

-- the rows of a cursor in which the rules find no fault, where its procedure is the only one that opens it
pub sound_cursor_answers : (r : Running) (c : Cursor) → IsDeclaredState r → opener_parameters r.in_module c.name ≡ (surroundings r).parameters
    → is_sound (surroundings r) c ≡ true → Ends (cursor_rows r c)
sound_cursor_answers r c d same e =
    let fault = no_syntax_fault (has_syntax_fault (judged_by (surroundings r) (known_in_query (opener_surroundings (surroundings r) c))) (cursor_sites (surroundings r) c)) (lacks_privilege (judged_by (surroundings r) (known_in_query (opener_surroundings (surroundings r) c))) (cursor_sites (surroundings r) c)) e in
    let parts = all_parts (IsSound (known_in_query (opener_surroundings (surroundings r) c))) (query_sites (known_in_query (opener_surroundings (surroundings r) c)) (cursor_query (surroundings r) c))
    (sort_sites (cursor_names (surroundings r) c) (listed_if_any c.order_by)) (sound_sites (judged_by (surroundings r) (known_in_query (opener_surroundings (surroundings r) c))) (cursor_sites (surroundings r) c) fault) in
    cursor_rows_answer r c d (sort_order_there (known_in_query (opener_surroundings (surroundings r) c)) (cursor_names (surroundings r) c) (listed_if_any c.order_by)
    (query_names_there (known_in_query (opener_surroundings (surroundings r) c)) (cursor_query (surroundings r) c) parts.0) parts.1)
    (subst (λ (parameters : List Declared). WellFormedQuery (reading_in (setting r)) (kinds_by_name (tables_of r.program.elements) parameters) (IsDeclaredIn parameters) (cursor_query (surroundings r) c)) same
    (query_well_formed (known_in_query (opener_surroundings (surroundings r) c)) (table_rows (tables_of r.program.elements) r.state.tables r.in_module.authorization) (cursor_query (surroundings r) c) (query_spells r.in_module.authorization c.query) parts.0))

-- The rows of a cursor are not answered with 42000 where exactly one procedure opens it, and this one does.
pub opened_cursor_answers : (r : Running) (name : Name) (c : Cursor) → IsDeclaredState r → procedure_named r.in_module name ≡ Some r.procedure → opens c.name r.procedure.statement ≡ true → opener_count r.in_module c.name ≡ 1
    → is_sound (surroundings r) c ≡ true → Ends (cursor_rows r c)
opened_cursor_answers r name c d there does once e = sound_cursor_answers r c d (opener_is r.in_module name c.name r.procedure there does once) e

-- ---- the WHERE of a searched UPDATE or DELETE (13.7 and 13.10)

table_there : (o : Outcome TableDescriptor) → not (is_ok o) ≡ false → HasValue o
table_there (Ok d) e = tt
table_there (Err s) e = cc

-- the search condition of a statement on a table that is there, at whose sites no rule is broken, has a truth on each row, or
-- none for another cause than 42000
pub sound_condition_answers : (r : Running) (name : TableName) (c : SpelledCond) → IsDeclaredState r → IsSound (known_in (surroundings r)) (Site.table_changed name)
    → AreSound (known_in (surroundings r)) (cond_sites (known_in (surroundings r)) (beside_table name) (cond_of r.in_module.authorization c)) → (env : Env Item)
    → IsEnvOf (reading_in (setting r)) (kinds_by_name (tables_of r.program.elements) (surroundings r).parameters) (IsDeclaredIn (surroundings r).parameters) (lines_of (beside_table name).queries) env
    → Ends (truth (reading_in (setting r)) (cond_of r.in_module.authorization c) env)
sound_condition_answers r name c d there s env is_env =
    truth_of_kinds (reading_in (setting r)) (kinds_by_name (tables_of r.program.elements) (surroundings r).parameters) (IsDeclaredIn (surroundings r).parameters)
    (database_agrees (tables_of r.program.elements) r.state.tables r.in_module.authorization (surroundings r).parameters d.tables) (cond_of r.in_module.authorization c) (lines_of (beside_table name).queries) env
    (cond_well_formed (known_in (surroundings r)) (table_rows (tables_of r.program.elements) r.state.tables r.in_module.authorization) (cond_of r.in_module.authorization c) (beside_table name).queries false
    ((table_there (descriptor_of (tables_of r.program.elements) name) there.tables, tt), tt) tt (cond_spells r.in_module.authorization c) s)
    is_env
