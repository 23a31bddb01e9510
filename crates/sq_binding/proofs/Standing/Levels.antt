-- Scopes at the levels of the definitions: the items of FROM over their tables, and which columns are read there (ISO/IEC 9075:1992,
-- 6.3, 6.4 and 7.9).
use Rattle.std.proofs.Common.{◌≡◌, ℕ, zero, suc, ◌+◌, Bool, true, false, not, ◌&&◌, ◌||◌, List, [], ◌∷◌, map, Option, Some, None, Ok, Err, arith, refl, sym, ap, subst, ◌∙◌, add-zero, zero-add}
use Rattle.std.proofs.lemmas.Bool.Decides.{nat_tests}
use Rattle.std.specs.Prelude.{IsTrue, nat_eq, nat_lt, slice_get}
use Rattle.std.specs.List.{AllByRecursion, AllZip, enumerate_from}
use Rattle.std.specs.Option.{option_and_then}
use Rattle.sq_value.specs.Domain.{kind_of}
use Rattle.sq_value.specs.declared.domain.Kind.{Kind}
use Rattle.sq_meaning.proofs.OutcomeLaws.{each_value}
use Rattle.sq_meaning.specs.Environment.{Place, Row, TableName}
use Rattle.sq_meaning.specs.Kind.{kind}
use Rattle.sq_meaning.specs.Placed.{Placed, by_place}
use Rattle.sq_meaning.specs.Status.{Outcome, and_then, each, well_formed}
use Rattle.sq_meaning.specs.Syntax.{column}
use Rattle.sq_meaning.specs.Tables.{ColumnDescriptor, Declared}
use Rattle.sq_meaning.specs.WellFormed.{Has, HasLine, IsDeclaredAt, IsInQuery, Level, MayStand, froms, inside_function, kind_there, kinds_by_place}
use Rattle.sq_bound.specs.Expression.{PlacedExpr}
use Rattle.sq_bound.specs.WellFormed.{Levels, TableKinds}
use Rattle.sq_bound.specs.declared.condition.TablePlace.{TablePlace}
use Rattle.sq_binding.specs.From.{NamedTable, NamedTables, column_over}
use Rattle.sq_binding.specs.Scope.{FromItem, ItemColumn, Scope, column_numbered, is_grouped}

-- ---- what is known of tables and parameters

-- the columns that names of tables mean are of the kinds that are known
abbrev pub NamesKnow : TableKinds → NamedTables → Type 0
NamesKnow columns names = (name : TableName) (t : NamedTable) → names name ≡ Some t → columns t.place ≡ Ok (map (λ c. c.kind) t.columns)

abbrev pub kinds_declared : List Declared → List Kind
kinds_declared parameters = map (λ p. kind_of p.domain) parameters

-- ---- levels

abbrev pub is_no_column : List Place → Bool
is_no_column [] = true
is_no_column (p ∷ places) = false

-- no column of a scope may stand outside set functions
abbrev pub allows_none : Option (List Place) → Bool
allows_none None = false
allows_none (Some places) = is_no_column places

-- an item over a table: each of its columns is one of the table's, of its kind
abbrev pub IsItemOver : TableKinds → TablePlace → FromItem → Type 0
IsItemOver columns t item = Has (λ kinds. AllByRecursion (λ c. slice_get kinds c.position ≡ Some c.kind) item.columns) (columns t)

-- A scope is a level: its items are over the level's tables, and where the level's columns may not be read, none is a grouping
-- column.
pub record IsLevel (columns : TableKinds) (level : Level (Placed TablePlace)) (scope : Scope) : Type 0 where
  pub over : AllZip (IsItemOver columns) level.from scope.items
  pub is_read : IsTrue (level.has_line || allows_none scope.grouping)

abbrev pub AreLevels : TableKinds → Levels → List Scope → Type 0
AreLevels columns = AllZip (IsLevel columns)

-- a column of the nearest query that is no grouping column is read only where that query's columns may be read
abbrev pub may_read : Levels → (has_ungrouped : Bool) → Bool
may_read [] has_ungrouped = true
may_read (level ∷ outer) has_ungrouped = level.has_line || not has_ungrouped

-- A text may stand at the levels of its scopes: set functions only in a query.
pub record MayStandAt (columns : TableKinds) (levels : Levels) (scopes : List Scope) (allowed has_ungrouped : Bool) : Type 0 where
  pub are_levels : AreLevels columns levels scopes
  pub functions : allowed ≡ true → IsInQuery levels
  pub reads : IsTrue (may_read levels has_ungrouped)

-- ---- an item over a table

columns_turn : (kind_at : ℕ → Option Kind) (n : ℕ) (cs : List ColumnDescriptor) → ((k : ℕ) → kind_at (n + k) ≡ slice_get (map (λ c. c.kind) cs) k)
    → AllByRecursion (λ c. kind_at c.position ≡ Some c.kind) (map column_over (enumerate_from n cs))
columns_turn kind_at n [] h = tt
columns_turn kind_at n (c ∷ cs) h =
    let next : (k : ℕ) → n + 1 + k ≡ n + suc k = λ k. omega arith in
    (ap kind_at (sym (add-zero n)) ∙ h zero, columns_turn kind_at (n + 1) cs (λ k. ap kind_at (next k) ∙ h (suc k)))

pub item_is_over : (columns : TableKinds) (t : NamedTable) (item : FromItem) → columns t.place ≡ Ok (map (λ c. c.kind) t.columns) → item.columns ≡ map column_over (enumerate_from 0 t.columns) → IsItemOver columns t.place item
item_is_over columns t item there is =
    subst (Has (λ kinds. AllByRecursion (λ c. slice_get kinds c.position ≡ Some c.kind) item.columns)) (sym there)
    (subst (AllByRecursion (λ c. slice_get (map (λ c. c.kind) t.columns) c.position ≡ Some c.kind)) (sym is)
    (columns_turn (slice_get (map (λ c. c.kind) t.columns)) 0 t.columns (λ k. ap (slice_get (map (λ c. c.kind) t.columns)) (zero-add k))))

-- ---- the kind of a column

pub all_at : {X : Type 0} (P : X → Type 0) (xs : List X) (n : ℕ) (x : X) → AllByRecursion P xs → slice_get xs n ≡ Some x → P x
all_at P [] n x h e = cc
all_at P (y ∷ ys) zero x h e = let same : y ≡ x = cc in subst P same h.0
all_at P (y ∷ ys) (suc n) x h e = all_at P ys n x h.1 e

item_kind : (cs : List ItemColumn) (n : ℕ) (c : ItemColumn) (o : Outcome (List Kind)) → Has (λ kinds. AllByRecursion (λ c. slice_get kinds c.position ≡ Some c.kind) cs) o → slice_get cs n ≡ Some c
    → and_then o (λ kinds. well_formed (slice_get kinds c.position)) ≡ Ok c.kind
item_kind cs n c (Err status) h e = absurd h
item_kind cs n c (Ok kinds) h e = ap well_formed (all_at (λ c. slice_get kinds c.position ≡ Some c.kind) cs n c h e)

-- the kind of a column of an item over a table
pub from_kind : (columns : TableKinds) (from : List TablePlace) (items : List FromItem) (n k : ℕ) (c : ItemColumn) → AllZip (IsItemOver columns) from items → option_and_then (λ item. slice_get item.columns k) (slice_get items n) ≡ Some c
    → and_then (well_formed (slice_get from n)) (λ t. and_then (columns t) (λ kinds. well_formed (slice_get kinds c.position))) ≡ Ok c.kind
from_kind columns [] [] n k c h e = cc
from_kind columns [] (item ∷ items) n k c h e = absurd h
from_kind columns (t ∷ from) [] n k c h e = absurd h
from_kind columns (t ∷ from) (item ∷ items) zero k c h e = item_kind item.columns k c (columns t) h.0 e
from_kind columns (t ∷ from) (item ∷ items) (suc n) k c h e = from_kind columns from items n k c h.1 e

-- a column that is in scope has its kind at the levels
pub level_kind : (columns : TableKinds) (levels : Levels) (scopes : List Scope) (depth item number : ℕ) (c : ItemColumn) → AreLevels columns levels scopes
    → option_and_then (λ scope. column_numbered scope (item, number)) (slice_get scopes depth) ≡ Some c → kind_there columns (froms levels) (record { depth = depth; item = item; column = c.position }) ≡ Ok c.kind
level_kind columns [] [] depth item number c h e = cc
level_kind columns [] (scope ∷ scopes) depth item number c h e = absurd h
level_kind columns (level ∷ levels) [] depth item number c h e = absurd h
level_kind columns (level ∷ levels) (scope ∷ scopes) zero item number c h e = from_kind columns level.from scope.items item number c h.0.over e
level_kind columns (level ∷ levels) (scope ∷ scopes) (suc depth) item number c h e = level_kind columns levels scopes depth item number c h.1 e

-- ---- whether a column may be read

or_not : (a b : Bool) → (a || b) ≡ true → b ≡ false → a ≡ true
or_not true b h unless = refl
or_not false b h unless = cc

-- some column of the scope may stand outside set functions
pub grouped_allows : (grouping : Option (List Place)) (item number : ℕ) → is_grouped grouping item number ≡ true → allows_none grouping ≡ false
grouped_allows None item number e = refl
grouped_allows (Some []) item number e = cc
grouped_allows (Some (p ∷ places)) item number e = refl

line_there : (columns : TableKinds) (levels : Levels) (scopes : List Scope) (depth : ℕ) (scope : Scope) → AreLevels columns levels scopes → slice_get scopes depth ≡ Some scope → allows_none scope.grouping ≡ false → HasLine levels depth
line_there columns [] [] depth scope h e some = cc
line_there columns [] (s ∷ scopes) depth scope h e some = absurd h
line_there columns (level ∷ levels) [] depth scope h e some = absurd h
line_there columns (level ∷ levels) (s ∷ scopes) zero scope h e some =
    let same : s ≡ scope = cc in
    or_not level.has_line (allows_none s.grouping) h.0.is_read (ap (λ (s : Scope). allows_none s.grouping) same ∙ some)
line_there columns (level ∷ levels) (s ∷ scopes) (suc depth) scope h e some = line_there columns levels scopes depth scope h.1 e some

line_nearest : (columns : TableKinds) (levels : Levels) (scopes : List Scope) (scope : Scope) → AreLevels columns levels scopes → slice_get scopes zero ≡ Some scope → IsTrue (may_read levels true) → HasLine levels zero
line_nearest columns [] [] scope h e r = cc
line_nearest columns [] (s ∷ scopes) scope h e r = absurd h
line_nearest columns (level ∷ levels) scopes scope h e r = or_not level.has_line false r refl

-- A column at a depth is read as it may be: it is a grouping column, or in the nearest query, or in the operand of a set function,
-- which reads that query alone.
pub line_read : (columns : TableKinds) (levels : Levels) (scopes : List Scope) (scope : Scope) (inside grouped : Bool) (depth : ℕ) → AreLevels columns levels scopes → slice_get scopes depth ≡ Some scope
    → (grouped ≡ true → allows_none scope.grouping ≡ false) → (nat_lt 0 depth && not grouped && not inside) ≡ false → IsTrue (may_read levels (nat_eq depth 0 && not grouped)) → (inside ≡ true → depth ≡ 0) → HasLine levels depth
line_read columns levels scopes scope inside true depth h e some may reads own = line_there columns levels scopes depth scope h e (some refl)
line_read columns levels scopes scope inside false zero h e some may reads own = line_nearest columns levels scopes scope h e reads
line_read columns levels scopes scope true false (suc depth) h e some may reads own = absurd (further (own refl))
  where
    further : suc depth ≡ 0 → ⊥
    further e = omega (arith, e)
line_read columns levels scopes scope false false (suc depth) h e some may reads own = absurd (refused (grind (arith, nat_tests)))
  where
    refused : nat_lt 0 (suc depth) ≡ true → ⊥
    refused far = let no : true ≡ false = sym (ap (λ t. t && true && true) far) ∙ may in cc

-- ---- where less is read, and in the operand of a set function

first_line : (line a b : Bool) → (line || not (a || b)) ≡ true → (line || not a) ≡ true
first_line true a b h = refl
first_line false true b h = h
first_line false false b h = refl

second_line : (line a b : Bool) → (line || not (a || b)) ≡ true → (line || not b) ≡ true
second_line true a b h = refl
second_line false true b h = cc
second_line false false b h = h

pub reads_first : (levels : Levels) (a b : Bool) → IsTrue (may_read levels (a || b)) → IsTrue (may_read levels a)
reads_first [] a b h = refl
reads_first (level ∷ outer) a b h = first_line level.has_line a b h

pub reads_second : (levels : Levels) (a b : Bool) → IsTrue (may_read levels (a || b)) → IsTrue (may_read levels b)
reads_second [] a b h = refl
reads_second (level ∷ outer) a b h = second_line level.has_line a b h

module _ (columns : TableKinds) (levels : Levels) (scopes : List Scope) (allowed a b : Bool) (m : MayStandAt columns levels scopes allowed (a || b)) where
  pub may_first : MayStandAt columns levels scopes allowed a
  may_first = record { are_levels = m.are_levels; functions = m.functions; reads = reads_first levels a b m.reads }

  pub may_second : MayStandAt columns levels scopes allowed b
  may_second = record { are_levels = m.are_levels; functions = m.functions; reads = reads_second levels a b m.reads }

pub inside_levels : (columns : TableKinds) (levels : Levels) (scopes : List Scope) → AreLevels columns levels scopes → AreLevels columns (inside_function levels) scopes
inside_levels columns [] scopes h = h
inside_levels columns (level ∷ levels) [] h = absurd h
inside_levels columns (level ∷ levels) (scope ∷ scopes) h = (record { over = h.0.over; is_read = refl }, h.1)

pub inside_read : (levels : Levels) (has_ungrouped : Bool) → IsTrue (may_read (inside_function levels) has_ungrouped)
inside_read [] has_ungrouped = refl
inside_read (level ∷ outer) has_ungrouped = refl

pub inside_froms : (levels : Levels) → froms (inside_function levels) ≡ froms levels
inside_froms [] = refl
inside_froms (level ∷ outer) = refl

-- ---- a column that may be read stands there

-- nothing is known of an item
abbrev item_there : TablePlace → Outcome (Unit {0})
item_there t = Ok tt

abbrev items_there : List TablePlace → List (Unit {0})
items_there from = map (λ t. tt) from

heads_there : (scopes : List (List TablePlace)) → each (each item_there) scopes ≡ Ok (map items_there scopes)
heads_there [] = refl
heads_there (from ∷ scopes) =
    ap (λ (r : Outcome (List (Unit {0}))). and_then r (λ y. and_then (each (each item_there) scopes) (λ ys. Ok (y ∷ ys)))) (each_value (λ (t : TablePlace). tt) from)
    ∙ ap (λ (r : Outcome (List (List (Unit {0})))). and_then r (λ ys. Ok (items_there from ∷ ys))) (heads_there scopes)

-- a tree has a kind, and may stand
abbrev pub HasKind : TableKinds → List Kind → Levels → PlacedExpr → Kind → Type 0
HasKind columns parameters levels tree k = kind (kinds_by_place columns parameters) (froms levels) tree ≡ Ok k

abbrev pub Stands : TableKinds → List Kind → Levels → PlacedExpr → Type 0
Stands columns parameters levels tree = (rows_of : TablePlace → Outcome (List Row)) → MayStand (by_place rows_of) (kinds_by_place columns parameters) (IsDeclaredAt parameters) levels tree

pub column_stands : (columns : TableKinds) (parameters : List Kind) (levels : Levels) (p : Place) → HasLine levels p.depth → Stands columns parameters levels (column p)
column_stands columns parameters levels p h rows_of =
    subst (λ (r : Outcome (List (List (Unit {0})))). Has (λ (p : Place). HasLine levels p.depth) (and_then r (λ items. Ok p))) (sym (heads_there (froms levels))) h
