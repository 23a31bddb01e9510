-- The columns by which rows of base tables refer to rows (ISO/IEC 9075:1992, 11.8).
use Rattle.std.specs.Prelude.{List, map}
use Rattle.sq_store.specs.Keys.{Keys}
use Rattle.sq_bound.specs.declared.names.BaseTable.{BaseTable}

-- the referring columns of each reference of a base table, in the order of the key's columns
abbrev pub referring_columns : BaseTable → Keys
referring_columns b = map (λ reference. reference.by_key) b.references

abbrev pub lookups_of_bases : List BaseTable → List Keys
lookups_of_bases bases = map referring_columns bases
