-- The rows of a base table that have one of several values of a key, by which a target names those that it means (ISO/IEC 9075:1992, 13.6 to
-- 13.10; own rule).
use Rattle.std.specs.Prelude.{◌≡◌, ℕ, nat_eq, nat_lt, true, filter, if◌then◌else◌, Bool, List, [], ◌∷◌, map, Option, Some, None}
use Rattle.std.specs.List.{insert, list_any}
use Rattle.std.specs.Borrow.{Bor}
use Rattle.sq_lex.specs.declared.name.Name.{Name}
use Rattle.sq_value.specs.declared.value.Value.{Value}
use Rattle.sq_store.specs.Content.{Content, table_at}
use Rattle.sq_store.specs.Keys.{Keys, has_key, key_at}
use Rattle.sq_store.specs.declared.table.Numbered.{Numbered}
use Rattle.sq_meaning.specs.Environment.{Row}
use Rattle.sq_bound.specs.Quiet.{are_quiet_conds}
use Rattle.sq_bound.specs.declared.condition.BoundCond.{BoundCond}
use Rattle.sq_bound.specs.declared.query.Target.{Target}
use Rattle.sq_query.specs.Key.{AreKeysOn}
use Rattle.sq_query.specs.Table.{numbered_row}
use Rattle.sq_query.specs.declared.key.KnownKeys.{KnownKeys}

-- Values of a key of one column by which a target's own condition names rows of the base table, where the conditions of the views between
-- are never a fault: on each row that has none of them they have a truth, and the own condition is false.
pub record AreKeysUnder (t : Target) (content : Content) (keys : List Keys) (parameters : List Value)
    (user : Name) (known : KnownKeys) : Type 0 where
  pub own : BoundCond
  pub is_own : t.condition ≡ Some own
  pub sure : are_quiet_conds t.leaf.conditions ≡ true
  pub on : AreKeysOn t.base own content keys parameters user known

-- whether a row has one of these values in the column of a key
abbrev pub has_one_of : List ℕ → List Value → Numbered → Bool
has_one_of columns values r = list_any (λ v. has_key columns (v ∷ []) r) values

-- the rows of a base table that have one of these values in the column of a key
abbrev pub rows_with : Content → List Keys → ℕ → KnownKeys → List Numbered
rows_with content keys place known =
    filter (has_one_of (key_at keys place known.key) known.values.items) (table_at content place).rows

-- those, without their numbers
abbrev pub rows_by_values : Content → List Keys → ℕ → KnownKeys → List Row
rows_by_values content keys place known = map (λ r. r.row) (rows_with content keys place known)

-- rows whose numbers rise, and one more at its place, unless a row with its number is there
abbrev pub added : Numbered → List Numbered → List Numbered
added r [] = r ∷ []
added r (x ∷ rows) =
    if nat_lt x.number r.number then x ∷ added r rows else
    (if nat_eq x.number r.number then x ∷ rows else r ∷ x ∷ rows)

-- The place of a row among others whose numbers rise: where it is added, if it is not there.
abbrev pub IsPlaceFor : ℕ × Bor Row → List (ℕ × Bor Row) → Option ℕ → Type 0
IsPlaceFor found rows None = added (numbered_row found) (map numbered_row rows) ≡ map numbered_row rows
IsPlaceFor found rows (Some place) =
    map numbered_row (insert rows place found) ≡ added (numbered_row found) (map numbered_row rows)
