-- GRANT, step by step (ISO/IEC 9075:1992, 11.36).
use Rattle.std.specs.Prelude.{Bool, List, Ok}
use Rattle.std.specs.List.{list_any}
use Rattle.sq_lex.specs.declared.name.Name.{Name}
use Rattle.sq_tree.specs.declared.schema.GrantStatement.{GrantStatement}
use Rattle.sq_meaning.specs.Environment.{TableName}
use Rattle.sq_meaning.specs.Privilege.{Privilege}
use Rattle.sq_meaning.specs.SchemaRefusal.{action_repeats, actions_of}
use Rattle.sq_meaning.specs.declared.refusal.SchemaFault.TheVariants as fault
use Rattle.sq_binding.specs.Catalog.{Grant}
use Rattle.sq_binding.specs.Grant.{grants_made, is_empty, privileges_granted}
use Rattle.sq_binding.specs.ElementOutcome.{Outcome, ◌>>=◌, ◌>>◌, refused_if}

-- the grants of these privileges; no list of columns has one twice
abbrev pub grants_of : TableName → List Privilege → GrantStatement → Outcome (List Grant)
grants_of t ps g =
    refused_if fault.OtherSchema (list_any action_repeats (actions_of g.privileges))
    >> Ok (grants_made t ps g)

-- the grants of what is named, where all columns are there
abbrev pub grants_if_held : (held : Privilege → Bool) → List Name → TableName → GrantStatement
    → Outcome (List Grant)
grants_if_held held columns t g = privileges_granted held columns g.privileges >>= λ ps. grants_of t ps g

-- privileges, of which there must be one
abbrev pub some_of : List Privilege → Outcome (List Privilege)
some_of ps = refused_if fault.PrivilegeMissing (is_empty ps) >> Ok ps
