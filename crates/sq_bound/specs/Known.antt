-- The meaning of a name of a table or view: the place of its rows, its columns, and the base table under it (ISO/IEC 9075:1992, 5.4,
-- 6.3 and 7.9).
use Rattle.std.specs.Prelude.{◌≡◌, ℕ, List, Option, Some}
use Rattle.std.specs.Option.{option_map}
use Rattle.sq_lex.specs.declared.name.Name.{Name}
use Rattle.sq_bound.specs.WellFormed.{place_of}
use Rattle.sq_bound.specs.declared.condition.BoundCond.{BoundCond}
use Rattle.sq_bound.specs.declared.condition.TablePlace.{TablePlace}
use Rattle.sq_bound.specs.declared.names.Column.{Column}
use Rattle.sq_bound.specs.declared.names.Leaf.{Leaf}
use Rattle.sq_bound.specs.declared.names.TableDesc.{TableDesc}

-- The base table under a table that may be changed, by its place. Then the conditions of the views in between, each on a row of the
-- base table, from inside out. And the number of them, from inside out, that new and changed rows have to meet.
pub record Under : Type 0 where
  pub base : ℕ
  pub conditions : List BoundCond
  pub demanded : ℕ

abbrev pub under_of : Leaf → Under
under_of l = record { base = l.table.place; conditions = l.conditions; demanded = l.demanded }

-- a table that may not be changed has none under it
pub record KnownTable : Type 0 where
  pub place : TablePlace
  pub columns : List Column
  pub under : Option Under

abbrev pub known_by : TableDesc → KnownTable
known_by t = record { place = place_of t.body; columns = t.columns; under = option_map under_of t.leaf }

-- the table or view of each owner and name, if there is one
abbrev pub KnownTables : Type 0
KnownTables = (user name : Name) → Option KnownTable

-- each name that is known to the first still means the same to the second
abbrev pub StillKnown : KnownTables → KnownTables → Type 0
StillKnown less more = (user name : Name) (t : KnownTable) → less user name ≡ Some t → more user name ≡ Some t
