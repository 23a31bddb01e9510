-- The meanings of names in the texts of a user agree with the facts known of the tables that they mean.
use Rattle.std.specs.Prelude.{◌≡◌, Bool}
use Rattle.std.specs.Option.{option_and_then, option_map}
use Rattle.sq_meaning.specs.Environment.{TableName}
use Rattle.sq_bound.specs.Known.{KnownTables}
use Rattle.sq_binding.specs.From.{NamedTables}
use Rattle.sq_binding.specs.Names.{meant_by, named_tables}
use Rattle.sq_binding.specs.Names as known_spec
use Rattle.sq_binder.specs.Names.{Changes, under_table}

-- A name means the table that is known by it. The leaf that may be changed under a table is the one that is known to be under it.
-- The user holds SELECT on the tables of the first test, and with the grant option on the tables of the second.
pub record NamesAgree (known : KnownTables) (selects grants : TableName → Bool) (tables : NamedTables)
    (changes : Changes) : Type 0 where
  pub named : (t : TableName) → tables t ≡ named_tables known selects grants t
  pub under : (t : TableName) → option_map under_table (changes.beneath t)
      ≡ option_and_then known_spec.under_table (meant_by known t)
