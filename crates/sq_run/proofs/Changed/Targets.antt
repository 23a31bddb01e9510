-- The rows that a statement or a cursor means over an updatable view (ISO/IEC 9075:1992, 7.9, 11.19, 13.6 to 13.10). By name each
-- condition sees the columns of its view or table; by place it sees the whole row of the base table.
use Rattle.std.proofs.Common.{◌≡◌, ℕ, zero, suc, ◌<◌, Bool, List, [], ◌∷◌, length, map, take, Some, refl, sym, ap, ◌∙◌, arith, Ok}
use Rattle.std.specs.Prelude.{IfOk, slice_get, slice_index_or, if◌then◌else◌}
use Rattle.std.specs.List.{AllByRecursion, AllZip}
use Rattle.sq_lex.specs.declared.name.Name.{Name}
use Rattle.sq_value.specs.Key.{in_columns}
use Rattle.sq_value.specs.declared.value.Value.{Value}
use Rattle.sq_value.specs.declared.value.Value.TheVariants.{Null}
use Rattle.sq_store.specs.declared.table.Numbered.{Numbered}
use Rattle.sq_meaning.specs.Status.{Outcome, and_then, kept}
use Rattle.sq_meaning.specs.Syntax.{absent, present}
use Rattle.sq_meaning.specs.Environment.{Env, Item, Row, alone, outermost, within}
use Rattle.sq_meaning.specs.Query.{clause_truth, is_true, truth}
use Rattle.sq_meaning.specs.Target as by_name
use Rattle.sq_meaning.specs.Target.{Level, is_or_violates, level_truth, meets_levels, seen_at}
use Rattle.sq_meaning.proofs.OutcomeLaws.{kept_all}
use Rattle.sq_meaning.specs.Constraints.{all_satisfied}
use Rattle.sq_bound.specs.Condition.{PlacedClause, PlacedCond, cond_of}
use Rattle.sq_bound.specs.declared.condition.BoundCond.{BoundCond}
use Rattle.sq_bound.specs.declared.names.Column.{Column}
use Rattle.sq_binding.specs.From.{column_over}
use Rattle.sq_binding.specs.PlacedQuery.{clause_placed}
use Rattle.sq_binding.specs.Scope.{FromItem, ItemColumn, item_named}
use Rattle.sq_binding.specs.Names.{descriptor_of as described, leaf_positions}
use Rattle.sq_expression.specs.Frame.{inputs_of}
use Rattle.sq_query.specs.Target as by_place
use Rattle.sq_run.proofs.Places.Conditions.{clause_same}
use Rattle.sq_run.proofs.Places.Items.{IsFit, columns_at_leaf}
use Rattle.sq_run.proofs.Places.Outcomes.{if_also, kept_of, same_then}
use Rattle.sq_run.proofs.Places.Seen.{SeenEnv, SeenLine}
use Rattle.sq_run.proofs.Places.Setting.{Setting, around, at_places, named}
use Rattle.sq_run.proofs.Places.Specifications.{SameClause}
use Rattle.sq_run.proofs.Sites.Stars.{ClauseStars}

-- ---- a row of the base table

-- a row reaches each of the columns of the base table that these columns are
abbrev pub Reaches : List Column → Row → Type 0
Reaches columns row = AllByRecursion (λ c. c.leaf_column < length row) columns

in_row : (row : Row) (n : ℕ) → n < length row → Some (slice_index_or row n Null) ≡ slice_get row n
in_row [] n l = absurd (omega arith)
in_row (v ∷ vs) zero l = refl
in_row (v ∷ vs) (suc n) l = in_row vs n (omega arith)

columns_seen : (columns : List Column) (row : Row) → Reaches columns row → (k : ℕ) (c : ItemColumn)
    → slice_get (columns_at_leaf columns) k ≡ Some c
    → slice_get (in_columns row (leaf_positions columns)) k ≡ slice_get row c.position
columns_seen [] row r k c e = cc
columns_seen (x ∷ xs) row r zero c e = let same : column_over (x.leaf_column, described x) ≡ c = cc in in_row row x.leaf_column r.0 ∙ ap (λ (d : ItemColumn). slice_get row d.position) same
columns_seen (x ∷ xs) row r (suc k) c e = columns_seen xs row r.1 k c e

-- an item whose columns are placed as those of the base table under it
pub record IsAtLeaf (columns : List Column) (item : FromItem) (level : Level) : Type 0 where
  pub item_is : level.item ≡ item_named item
  pub columns_are : level.columns ≡ leaf_positions columns
  pub at_leaf : item.columns ≡ columns_at_leaf columns

-- by name its row has the columns of the item, by place it is the base table's
pub row_seen : (columns : List Column) (item : FromItem) (level : Level) → IsAtLeaf columns item level → (row : Row)
    → Reaches columns row → SeenLine (item ∷ []) (in_columns row level.columns ∷ []) (row ∷ [])
row_seen columns item level h row r zero column c e =
    ap (λ ps. slice_get (in_columns row ps) column) h.columns_are
    ∙ columns_seen columns row r column c (sym (ap (λ (cs : List ItemColumn). slice_get cs column) h.at_leaf) ∙ e)
row_seen columns item level h row r (suc n) column c e = cc

-- where a statement outside every query sees such a row
abbrev pub on_row : Row → Env (Unit {0}) → Env (Unit {0})
on_row row other = within (alone [] (row ∷ [])) other

pub level_seen : (s : Setting) (columns : List Column) (item : FromItem) (level : Level) → IsAtLeaf columns item level
    → (row : Row) → Reaches columns row
    → (env : Env Item) (other : Env (Unit {0})) → SeenEnv s.parameters [] env other → SeenEnv s.parameters ((item ∷ []) ∷ [])
    (seen_at level row env) (on_row row other)
level_seen s columns item level h row r env other seen = record {
  scopes_are = (record { items_are = ap (λ i. i ∷ []) h.item_is; line = row_seen columns item level h row r; group = tt }, seen.scopes_are);
  inputs_are = seen.inputs_are;
  user_is = seen.user_is;
}

-- ---- conditions

-- the condition of a level has the same truth on each row that is wide enough
abbrev pub SameLevel : Setting → Env Item → Env (Unit {0}) → (Row → Type 0) → Level → PlacedClause → Type 0
SameLevel s env other Wide level c =
    (row : Row) → Wide row → level_truth (named s) env level row ≡ clause_truth (at_places s) c (on_row row other)

pub level_same : (s : Setting) → IsFit s → (columns : List Column) (item : FromItem) (level : Level) → IsAtLeaf columns item level
    → ClauseStars level.condition
    → (env : Env Item) (other : Env (Unit {0})) → SeenEnv s.parameters [] env other
    → IfOk (clause_placed (around s ((item ∷ []) ∷ [])) level.condition) (SameLevel s env other (Reaches columns) level)
level_same s fit columns item level h stars env other seen =
    if_also (clause_placed (around s ((item ∷ []) ∷ [])) level.condition) (SameClause s ((item ∷ []) ∷ []) level.condition)
    (SameLevel s env other (Reaches columns) level)
    (clause_same s fit ((item ∷ []) ∷ []) level.condition stars)
    (λ c same row r. same.truth (seen_at level row env) (on_row row other) (level_seen s columns item level h row r env other seen))

-- the conditions that are written
abbrev pub written : List PlacedClause → List PlacedCond
written [] = []
written (absent ∷ cs) = written cs
written (present c ∷ cs) = c ∷ written cs

-- ---- the rows that are chosen

abbrev pub is_true_at : Setting → Env (Unit {0}) → PlacedCond → Numbered → Outcome Bool
is_true_at s other c r = is_true (truth (at_places s) c (on_row r.row other))

abbrev pub AreWide : (Row → Type 0) → List Numbered → Type 0
AreWide Wide rows = AllByRecursion (λ r. Wide r.row) rows

test_same : (s : Setting) (env : Env Item) (other : Env (Unit {0})) (Wide : Row → Type 0) (level : Level) (c : PlacedClause)
    → SameLevel s env other Wide level c → (rows : List Numbered) → AreWide Wide rows
    → kept (λ r. is_true (level_truth (named s) env level r.row)) rows
    ≡ kept (λ r. is_true (clause_truth (at_places s) c (on_row r.row other))) rows
test_same s env other Wide level c same [] w = refl
test_same s env other Wide level c same (r ∷ rows) w =
    (λ i. and_then (is_true (same r.row w.0 i)) (λ passes. and_then (test_same s env other Wide level c same rows w.1 i) (λ found. Ok (if passes then r ∷ found else found))))

-- a level without a condition keeps all, and so need not be there by place
pub chosen_same : (s : Setting) (env : Env Item) (other : Env (Unit {0})) (Wide : Row → Type 0) (levels : List Level)
    (cs : List PlacedClause)
    → AllZip (SameLevel s env other Wide) levels cs
    → (rows : List Numbered) → AreWide Wide rows → by_name.chosen (named s) env levels rows
    ≡ by_place.chosen (is_true_at s other) (written cs) rows
chosen_same s env other Wide [] [] h rows w = refl
chosen_same s env other Wide [] (c ∷ cs) h rows w = absurd h
chosen_same s env other Wide (level ∷ levels) [] h rows w = absurd h
chosen_same s env other Wide (level ∷ levels) (absent ∷ cs) h rows w =
    ap (λ (o : Outcome (List Numbered)). and_then o (by_name.chosen (named s) env levels))
    (test_same s env other Wide level absent h.0 rows w ∙ kept_all rows)
    ∙ chosen_same s env other Wide levels cs h.1 rows w
chosen_same s env other Wide (level ∷ levels) (present c ∷ cs) h rows w =
    ap (λ (o : Outcome (List Numbered)). and_then o (by_name.chosen (named s) env levels))
    (test_same s env other Wide level (present c) h.0 rows w)
    ∙ same_then (kept (is_true_at s other c) rows) (AreWide Wide) (by_name.chosen (named s) env levels)
    (by_place.chosen (is_true_at s other) (written cs))
    (kept_of (λ r. Wide r.row) (is_true_at s other c) rows w) (λ left q. chosen_same s env other Wide levels cs h.1 left q)

-- conditions that are bound
chosen_of : {X Y : Type 0} (f : X → Y) (test : Y → Numbered → Outcome Bool) (xs : List X) (rows : List Numbered)
    → by_place.chosen test (map f xs) rows ≡ by_place.chosen (λ x. test (f x)) xs rows
chosen_of f test [] rows = refl
chosen_of f test (x ∷ xs) rows = (λ i. and_then (kept (test (f x)) rows) (λ left. chosen_of f test xs left i))

-- the numbers of the rows that a target means
pub numbers_same : (s : Setting) (env : Env Item) (values : List Value) (user : Name) (Wide : Row → Type 0)
    (target : by_name.Target) (cs : List PlacedClause) (conditions : List BoundCond)
    → AllZip (SameLevel s env (outermost (inputs_of values) user) Wide) target.levels cs
    → map (cond_of []) conditions ≡ written cs → (rows : List Numbered) → AreWide Wide rows
    → by_name.chosen_numbers (named s) env target rows
    ≡ by_place.numbers_chosen (by_place.is_true_of s.shown values user) conditions rows
numbers_same s env values user Wide target cs conditions h e rows w =
    ap (λ (o : Outcome (List Numbered)). and_then o (λ found. Ok (map (λ r. r.number) found)))
    (chosen_same s env (outermost (inputs_of values) user) Wide target.levels cs h rows w
    ∙ ap (λ ds. by_place.chosen (is_true_at s (outermost (inputs_of values) user)) ds rows) (sym e)
    ∙ chosen_of (cond_of []) (is_true_at s (outermost (inputs_of values) user)) conditions rows)

-- ---- what check options demand

-- a condition is true of a new or changed row, or its check option is violated
abbrev pub is_met_at : Setting → Env (Unit {0}) → Row → PlacedCond → Outcome (Unit {0})
is_met_at s other row c = and_then (is_true (truth (at_places s) c (on_row row other))) is_or_violates

pub levels_met : (s : Setting) (env : Env Item) (other : Env (Unit {0})) (Wide : Row → Type 0) (levels : List Level)
    (cs : List PlacedClause)
    → AllZip (SameLevel s env other Wide) levels cs
    → (row : Row) → Wide row → meets_levels (named s) env row levels ≡ all_satisfied (is_met_at s other row) (written cs)
levels_met s env other Wide [] [] h row w = refl
levels_met s env other Wide [] (c ∷ cs) h row w = absurd h
levels_met s env other Wide (level ∷ levels) [] h row w = absurd h
levels_met s env other Wide (level ∷ levels) (absent ∷ cs) h row w =
    ap (λ o. and_then (and_then (is_true o) is_or_violates) (λ _. meets_levels (named s) env row levels)) (h.0 row w)
    ∙ levels_met s env other Wide levels cs h.1 row w
levels_met s env other Wide (level ∷ levels) (present c ∷ cs) h row w =
    (λ i. and_then (and_then (is_true (h.0 row w i)) is_or_violates) (λ _. levels_met s env other Wide levels cs h.1 row w i))

-- By name a number of levels is demanded, by place the conditions that are written among them.
pub written_first : (n : ℕ) (cs : List PlacedClause) → take (length (written (take n cs))) (written cs) ≡ written (take n cs)
written_first zero cs = none_taken (written cs)
  where
    none_taken : (xs : List PlacedCond) → take 0 xs ≡ []
    none_taken [] = refl
    none_taken (x ∷ xs) = refl
written_first (suc n) [] = refl
written_first (suc n) (absent ∷ cs) = written_first n cs
written_first (suc n) (present c ∷ cs) = ap (λ ds. c ∷ ds) (written_first n cs)

take_zip : {A B : Type 0} (R : A → B → Type 0) (n : ℕ) (xs : List A) (ys : List B) → AllZip R xs ys
    → AllZip R (take n xs) (take n ys)
take_zip R zero [] [] r = tt
take_zip R zero [] (y ∷ ys) r = absurd r
take_zip R zero (x ∷ xs) [] r = absurd r
take_zip R zero (x ∷ xs) (y ∷ ys) r = tt
take_zip R (suc n) [] [] r = tt
take_zip R (suc n) [] (y ∷ ys) r = absurd r
take_zip R (suc n) (x ∷ xs) [] r = absurd r
take_zip R (suc n) (x ∷ xs) (y ∷ ys) r = (r.0, take_zip R n xs ys r.1)

-- a check option is met alike, where by place as many conditions are demanded as are written among the levels demanded by name
pub check_option_same : (s : Setting) (env : Env Item) (other : Env (Unit {0})) (Wide : Row → Type 0) (target : by_name.Target)
    (cs : List PlacedClause)
    → AllZip (SameLevel s env other Wide) target.levels cs
    → (demanded : ℕ) → demanded ≡ length (written (take target.demanded cs)) → (row : Row) → Wide row
    → by_name.meets_check_option (named s) env target row ≡ all_satisfied (is_met_at s other row) (take demanded (written cs))
check_option_same s env other Wide target cs h demanded e row w =
    levels_met s env other Wide (take target.demanded target.levels) (take target.demanded cs)
    (take_zip (SameLevel s env other Wide) target.demanded target.levels cs h) row w
    ∙ ap (all_satisfied (is_met_at s other row)) (sym (ap (λ n. take n (written cs)) e ∙ written_first target.demanded cs))
