-- The numbers of a table's rows are below its next number, and so are those that a cursor is opened
-- over and those of the rows that a walk means (ISO/IEC 9075:1992, 13.2 and 13.3): no row that is
-- inserted later comes among them.
use Rattle.std.proofs.Common.{◌≡◌, ℕ, ◌+◌, ◌≤◌, ◌<◌, Bool, true, false, List, [], ◌∷◌, filter, map, arith, leb-true, ltb-true, Ok}
use Rattle.std.specs.Prelude.{nat_lt, if◌then◌else◌, IfOk, length}
use Rattle.std.specs.List.{AllByRecursion}
use Rattle.sq_lex.specs.declared.name.Name.{Name}
use Rattle.sq_value.specs.declared.value.Value.{Value}
use Rattle.sq_store.specs.Content.{Content, table_at}
use Rattle.sq_store.specs.Rising.{has_rising_rows, rising_between}
use Rattle.sq_store.specs.declared.table.Numbered.{Numbered}
use Rattle.sq_store.specs.declared.table.Table.{Table}
use Rattle.sq_meaning.specs.Status.{Outcome, and_then, kept, not_well_formed}
use Rattle.sq_meaning.proofs.AnswerLaws.{all_weaker}
use Rattle.sq_bound.specs.declared.condition.BoundCond.{BoundCond}
use Rattle.sq_query.specs.Table.{stored_numbered}
use Rattle.sq_query.specs.Target.{chosen, numbers_chosen}
use Rattle.sq_session.specs.Walk.{is_meant, numbers_meant, rows_between, rows_from}
use Rattle.sq_run.proofs.Places.Outcomes.{all_map, if_one, if_then, kept_of}
use Rattle.sq_run.proofs.Changed.RowsAgain.{above, rest_rises}
use Rattle.sq_run.proofs.OpenCursors.NumbersLeft.{AreBelow}
use Rattle.sq_run.proofs.OpenCursors.WalkLeft.{all_kept, kept_pass}

-- ---- rows

rises_to : (low next : ℕ) (rows : List Numbered) → rising_between low rows next ≡ true → low ≤ next
rises_to low next [] h = leb-true low next h
rises_to low next (r ∷ rows) h =
    let from : low ≤ r.number = (above low next (r ∷ rows) h).0 in
    let further : r.number + 1 ≤ next = rises_to (r.number + 1) next rows (rest_rises low next r rows h) in
    omega (arith, from, further)

all_below : (low next : ℕ) (rows : List Numbered) → rising_between low rows next ≡ true
    → AllByRecursion (λ r. r.number < next) rows
all_below low next [] h = tt
all_below low next (r ∷ rows) h =
    let further : r.number + 1 ≤ next = rises_to (r.number + 1) next rows (rest_rises low next r rows h) in
    let less : r.number < next = omega (arith, further) in
    (less, all_below (r.number + 1) next rows (rest_rises low next r rows h))

pub rows_below : (t : Table) → has_rising_rows t ≡ true → AllByRecursion (λ r. r.number < t.next) t.rows
rows_below t rising = all_below 1 t.next t.rows rising

-- ---- rows that are chosen

chosen_so : {X : Type 0} (P : Numbered → Type 0) (test : X → Numbered → Outcome Bool) (xs : List X) (rows : List Numbered)
    → AllByRecursion P rows → IfOk (chosen test xs rows) (AllByRecursion P)
chosen_so P test [] rows h = h
chosen_so P test (x ∷ xs) rows h =
    if_then (kept (test x) rows) (chosen test xs) (AllByRecursion P) (AllByRecursion P) (kept_of P (test x) rows h)
    (λ left q. chosen_so P test xs left q)

-- the numbers of those that a target means
pub opened_below : {X : Type 0} (tables : Content) (place : ℕ) → has_rising_rows (table_at tables place) ≡ true
    → (test : X → Numbered → Outcome Bool) (xs : List X)
    → IfOk (and_then (stored_numbered tables place) (numbers_chosen test xs)) (AreBelow (table_at tables place).next)
opened_below {X} tables place rising test xs = by_place (nat_lt place (length tables))
  where
    by_place : (b : Bool)
        → IfOk (and_then (and_then (if b then Ok (table_at tables place) else not_well_formed) (λ found. Ok found.rows)) (numbers_chosen test xs))
        (AreBelow (table_at tables place).next)
    by_place false = tt
    by_place true =
        if_one (chosen test xs (table_at tables place).rows) (map (λ (r : Numbered). r.number))
        (AllByRecursion (λ r. r.number < (table_at tables place).next)) (AreBelow (table_at tables place).next)
        (chosen_so (λ r. r.number < (table_at tables place).next) test xs (table_at tables place).rows (rows_below (table_at tables place) rising))
        (λ found q. all_map (λ n. n < (table_at tables place).next) (λ (r : Numbered). r.number) found q)

-- ---- rows that a walk means

-- The rows that a walk means are before its mark.
pub meant_below : (conditions : List BoundCond) (values : List Value) (user : Name) (from mark next : ℕ) (rows : List Numbered)
    → mark ≤ next → AreBelow next (numbers_meant conditions values user from mark rows)
meant_below conditions values user from mark next rows le =
    all_map (λ n. n < next) (λ (r : Numbered). r.number) (filter (is_meant conditions values user) (rows_between from mark rows))
    (all_kept (λ r. r.number < next) (is_meant conditions values user) (rows_between from mark rows)
    (all_weaker (λ r. nat_lt r.number mark ≡ true) (λ r. r.number < next) (λ r is. let less : r.number < mark = ltb-true r.number mark is in omega (arith, le, less)) (rows_between from mark rows)
    (kept_pass (λ r. nat_lt r.number mark) (rows_from from rows))))
