-- Columns of a table by their names (ISO/IEC 9075:1992, 11.7 and 11.8).
use Rattle.std.specs.Prelude.{ℕ, List}
use Rattle.sq_lex.specs.declared.name.Name.{Name}
use Rattle.sq_meaning.specs.Schema.{place_among}
use Rattle.sq_meaning.specs.declared.refusal.SchemaFault.TheVariants as fault
use Rattle.sq_binding.specs.ElementOutcome.{Outcome, each, or_fault}

-- the position of the column of a name
abbrev pub position_of : List Name → Name → Outcome ℕ
position_of names name = or_fault fault.UnknownName (place_among names name)

abbrev pub positions_of : List Name → List Name → Outcome (List ℕ)
positions_of names = each (position_of names)
