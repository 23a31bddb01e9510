-- Updatable queries and views, and the rows of a base table that a statement or a cursor means by them (ISO/IEC
-- 9075:1992, 7.9, 11.19, 13.6 to 13.10).
use Rattle.std.specs.Prelude.{ℕ, ◌&&◌, ◌||◌, not, nat_eq, Bool, true, false, if◌then◌else◌, List, [], ◌∷◌, ◌++◌, length, map, take, slice_index, None, Ok, Err}
use Rattle.std.specs.List.{list_any, enumerate_from}
use Rattle.sq_value.specs.Key.{in_columns}
use Rattle.sq_value.specs.declared.truth.Truth.{Truth}
use Rattle.sq_store.specs.declared.table.Numbered.{Numbered}
use Rattle.sq_meaning.specs.Status.{Outcome, ◌>>=◌, each, kept, well_formed, well_formed_if, not_well_formed}
use Rattle.sq_meaning.specs.declared.status.Status.TheVariants.{CheckOptionViolation}
use Rattle.sq_meaning.specs.Syntax.{Naming, Expr, column, SelectList, all_columns, expressions, Cond, Conds, Clause, compare, compare_subquery, compare_quantified, between, in_subquery, in_list, like, is_null, exists, negated, conjunction, disjunction, no_cond, a_cond, absent, present, Select, select}
use Rattle.sq_meaning.specs.Environment.{Row, Env, Item, TableName, TableReference, same_table, column_in, within, alone}
use Rattle.sq_meaning.specs.Expression.{Reading}
use Rattle.sq_meaning.specs.Query.{clause_truth, is_true, is_grouped}
use Rattle.sq_meaning.specs.Spelled.{Named}
use Rattle.sq_meaning.specs.Tables.{Tables, base_table, viewed_table, item_of}

-- ---- updatable queries (own rule: as in the standard, but that no WHERE has a subquery)

abbrev mutual
  pub has_subquery : {N : Naming} → Cond N → Bool
  has_subquery (compare op a b) = false
  has_subquery (compare_subquery op a q) = true
  has_subquery (compare_quantified op k a q) = true
  has_subquery (between a low high) = false
  has_subquery (in_subquery a q) = true
  has_subquery (in_list a es) = false
  has_subquery (like text pattern escape) = false
  has_subquery (is_null a) = false
  has_subquery (exists q) = true
  has_subquery (negated c) = has_subquery c
  has_subquery (conjunction cs) = have_subquery cs
  has_subquery (disjunction cs) = have_subquery cs

  pub have_subquery : {N : Naming} → Conds N → Bool
  have_subquery no_cond = false
  have_subquery (a_cond c cs) = has_subquery c || have_subquery cs

abbrev pub clause_has_subquery : {N : Naming} → Clause N → Bool
clause_has_subquery absent = false
clause_has_subquery (present c) = has_subquery c

abbrev pub are_distinct : List ℕ → Bool
are_distinct [] = true
are_distinct (n ∷ ns) = not (list_any (nat_eq n) ns) && are_distinct ns

abbrev pub places_of : {A : Type 0} → List A → List ℕ
places_of xs = map (λ p. p.0) (enumerate_from 0 xs)

-- a select item that is a column of the item and nothing more
abbrev pub shown_column : Item → Expr Named → Outcome ℕ
shown_column item (column c) = well_formed (column_in c item)
shown_column item _ = not_well_formed

-- the columns that a select list shows, each once
abbrev pub shown_columns : Item → SelectList Named → Outcome (List ℕ)
shown_columns item all_columns = Ok (places_of item.columns)
shown_columns item (expressions es) = do
  columns ← each (shown_column item) es
  _ ← well_formed_if (are_distinct columns)
  Ok columns

abbrev pub only_table : List TableReference → Outcome TableReference
only_table (r ∷ []) = Ok r
only_table _ = not_well_formed

-- the parts of an updatable query: its only item of FROM, the columns of it that are shown, and its WHERE clause
pub record Source : Type 0 where
  pub item : Item
  pub columns : List ℕ
  pub condition : Clause Named

-- no DISTINCT, GROUP BY, HAVING or set function, columns alone in the select list, one table, and no subquery
abbrev pub updatable_source : Tables → Select Named → Outcome Source
updatable_source tables (select distinct list from filter by having) = do
  _ ← well_formed_if (not distinct && not (is_grouped list by having) && not (clause_has_subquery filter))
  r ← only_table from
  item ← item_of tables r
  columns ← shown_columns item list
  Ok (record { item = item; columns = columns; condition = filter })

-- ---- targets

-- a condition on rows of the base table, and the columns of it in which the condition sees the columns of its item
pub record Level : Type 0 where
  pub item : Item
  pub columns : List ℕ
  pub condition : Clause Named

-- The base table by its place, and the column of it for each column of the target. Then the conditions of the views
-- from inside out, and the number of them that check options demand. It counts the views up to the outermost one
-- that has a check option.
pub record Target : Type 0 where
  pub place : ℕ
  pub columns : List ℕ
  pub levels : List Level
  pub demanded : ℕ

abbrev pub base_target : ℕ → List ℕ → Target
base_target place columns = record { place = place; columns = columns; levels = []; demanded = 0 }

-- a target as an updatable query over it shows it
abbrev pub seen_through : Source → Target → Target
seen_through source under = record {
  place = under.place;
  columns = map (λ k. slice_index under.columns k) source.columns;
  levels = under.levels ++ record {
    item = source.item;
    columns = under.columns;
    condition = source.condition;
  } ∷ [];
  demanded = under.demanded;
}

-- WITH CHECK OPTION demands all conditions down from here
abbrev pub with_check_option : Bool → Target → Target
with_check_option check_option t = if check_option then record t { demanded = length t.levels } else t

-- the target of a view, if this is the target that each name means beneath it
abbrev pub view_target : (TableName → Outcome Target) → Bool → Source → Outcome Target
view_target beneath check_option source = do
  under ← beneath source.item.reference.table
  Ok (with_check_option check_option (seen_through source under))

-- the target that a table name means; none if a view is not updatable
abbrev pub target_of : Tables → TableName → Outcome Target
target_of [] name = not_well_formed
target_of (d ∷ earlier) name =
    elim (same_table d.table name) as (λ _. Outcome Target) [
      | false ↦ target_of earlier name
      | true ↦ elim d.body as (λ _. Outcome Target) [
        | base_table place ↦ Ok (base_target place (places_of d.columns))
        | viewed_table q check_option ↦ updatable_source earlier q
            >>= view_target (target_of earlier) check_option
      ]
    ]

-- the target of a cursor, whose own WHERE is the last level
abbrev pub cursor_target : Tables → Select Named → Outcome Target
cursor_target tables q = do
  source ← updatable_source tables q
  under ← target_of tables source.item.reference.table
  Ok (seen_through source under)

-- the target of a searched statement on a table, whose WHERE is the last level
abbrev pub searched_target : Tables → TableName → Clause Named → Outcome Target
searched_target tables name condition = do
  item ← item_of tables (record { table = name; correlation = None })
  under ← target_of tables name
  Ok (seen_through (record { item = item; columns = places_of item.columns; condition = condition }) under)

-- ---- rows of a target

-- the environment in which a level's condition, or a statement on its item, sees a row of the base table
abbrev pub seen_at : Level → Row → Env Item → Env Item
seen_at level row env = within (alone (level.item ∷ []) (in_columns row level.columns ∷ [])) env

abbrev pub level_truth : Reading Named → Env Item → Level → Row → Outcome Truth
level_truth m env level row = clause_truth m level.condition (seen_at level row env)

-- the rows for which each condition in turn is true, over all rows
abbrev pub chosen : Reading Named → Env Item → List Level → List Numbered → Outcome (List Numbered)
chosen m env [] rows = Ok rows
chosen m env (level ∷ levels) rows =
    kept (λ r. is_true (level_truth m env level r.row)) rows >>= chosen m env levels

-- the numbers of the rows that a target means
abbrev pub chosen_numbers : Reading Named → Env Item → Target → List Numbered → Outcome (List ℕ)
chosen_numbers m env target rows = chosen m env target.levels rows >>= λ found. Ok (map (λ r. r.number) found)

-- a new or changed row has to meet each condition that is demanded, from inside out
abbrev pub is_or_violates : Bool → Outcome (Unit {0})
is_or_violates true = Ok tt
is_or_violates false = Err CheckOptionViolation

abbrev pub meets_levels : Reading Named → Env Item → Row → List Level → Outcome (Unit {0})
meets_levels m env row [] = Ok tt
meets_levels m env row (level ∷ levels) =
    is_true (level_truth m env level row) >>= is_or_violates >>= λ _. meets_levels m env row levels

abbrev pub meets_check_option : Reading Named → Env Item → Target → Row → Outcome (Unit {0})
meets_check_option m env target row = meets_levels m env row (take target.demanded target.levels)
