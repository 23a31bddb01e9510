-- The rows that a target means: they meet its conditions one after the other (ISO/IEC 9075:1992, 7.6).
use Rattle.std.specs.List.{AllByRecursion}
use Rattle.std.specs.Prelude.{◌≡◌, IfOk, Bool, true, false, List, [], ◌∷◌, ◌++◌, map, refl, Ok, Err}
use Rattle.sq_store.specs.declared.table.Numbered.{Numbered}
use Rattle.sq_tree.specs.declared.names.ColumnReference.{ColumnReference}
use Rattle.sq_meaning.specs.Environment.{Env, Item, TableReference}
use Rattle.sq_meaning.specs.Expression.{Reading}
use Rattle.sq_meaning.specs.Query.{is_grouped, is_true, rows}
use Rattle.sq_meaning.specs.Spelled.{Named}
use Rattle.sq_meaning.specs.Status.{Outcome, and_then, kept}
use Rattle.sq_meaning.specs.Syntax.{Clause, SelectList, select}
use Rattle.sq_meaning.specs.Target.{Level, chosen, level_truth}
use Rattle.sq_meaning.specs.Site.{Known, Site, clause_sites, inside_query, list_count, list_sites, outside, plain_query, select_sites, shown_query}
use Rattle.sq_run.proofs.Places.Outcomes.{if_then, kept_of}
use Rattle.sq_run.proofs.Sites.SiteLaws.{all_parts}

-- ---- rows that a target means

-- the last condition is met by rows that met those before it
pub chosen_last : (m : Reading Named) (env : Env Item) (levels : List Level) (last : Level) (rows : List Numbered)
    → chosen m env (levels ++ last ∷ []) rows ≡ and_then (chosen m env levels rows) (chosen m env (last ∷ []))
chosen_last m env [] last rows = refl
chosen_last m env (level ∷ levels) last rows = by_kept (kept (λ r. is_true (level_truth m env level r.row)) rows) (λ found. chosen_last m env levels last found)
  where
    by_kept : (o : Outcome (List Numbered))
        → ((found : List Numbered) → chosen m env (levels ++ last ∷ []) found ≡ and_then (chosen m env levels found) (chosen m env (last ∷ [])))
        → and_then o (chosen m env (levels ++ last ∷ [])) ≡ and_then (and_then o (chosen m env levels)) (chosen m env (last ∷ []))
    by_kept (Err st) further = refl
    by_kept (Ok found) further = further found

pub chosen_of : (P : Numbered → Type 0) (m : Reading Named) (env : Env Item) (levels : List Level) (rows : List Numbered) → AllByRecursion P rows
    → IfOk (chosen m env levels rows) (AllByRecursion P)
chosen_of P m env [] rows h = h
chosen_of P m env (level ∷ levels) rows h =
    if_then (kept (λ r. is_true (level_truth m env level r.row)) rows) (chosen m env levels) (AllByRecursion P) (AllByRecursion P)
    (kept_of P (λ r. is_true (level_truth m env level r.row)) rows h) (λ found q. chosen_of P m env levels found q)

-- what a query specification names in FROM, and what its WHERE clause asks
pub read_parts : (P : Site → Type 0) (k : Known) (distinct : Bool) (list : SelectList Named) (from : List TableReference) (filter : Clause Named) (by : List ColumnReference) (having : Clause Named)
    → AllByRecursion P (select_sites k outside (select distinct list from filter by having))
    → AllByRecursion P (map Site.table_read from) × AllByRecursion P (clause_sites k (inside_query outside (plain_query from) false) filter)
read_parts P k distinct list from filter by having h =
    let listed_sites : List Site = Site.from_whole from ∷ Site.column_count (list_count k.tables from list) ∷ list_sites k (inside_query outside (shown_query from list by having) true) list (is_grouped list by having) in
    let before : List Site = map Site.table_read from ++ listed_sites in
    let filter_sites : List Site = clause_sites k (inside_query outside (plain_query from) false) filter in
    let by_sites : List Site = map (Site.column_read (inside_query outside (plain_query from) false)) by in
    let last = all_parts P (before ++ filter_sites ++ by_sites) (clause_sites k (inside_query outside (shown_query from list by having) true) having) h in
    let third = all_parts P (before ++ filter_sites) by_sites last.0 in
    let second = all_parts P before filter_sites third.0 in
    ((all_parts P (map Site.table_read from) listed_sites second.0).0, second.1)
