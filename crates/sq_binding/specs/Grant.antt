-- GRANT (ISO/IEC 9075:1992, 10.3 and 11.36).
use Rattle.std.specs.Prelude.{Bool, true, false, not, if◌then◌else◌, List, [], ◌∷◌, ◌++◌, filter, flat_map, map, Option, Some, None, Ok}
use Rattle.std.specs.List.{list_all, list_any}
use Rattle.sq_lex.specs.declared.name.Name.{Name}
use Rattle.sq_tree.specs.declared.schema.GrantStatement.{GrantStatement}
use Rattle.sq_tree.specs.declared.schema.Grantee.{Grantee}
use Rattle.sq_tree.specs.declared.schema.Grantee.TheVariants as grantee
use Rattle.sq_tree.specs.declared.schema.Privileges.{Privileges}
use Rattle.sq_tree.specs.declared.schema.Privileges.TheVariants as privileges
use Rattle.sq_meaning.specs.Environment.{TableName}
use Rattle.sq_meaning.specs.Spelled.{listed, table_of}
use Rattle.sq_meaning.specs.Privilege.{Privilege}
use Rattle.sq_meaning.specs.SchemaRefusal.{action_columns, action_privileges, action_repeats, actions_of, all_privileges, has_unknown}
use Rattle.sq_meaning.specs.declared.refusal.SchemaFault.TheVariants as fault
use Rattle.sq_binding.specs.Catalog.{Catalog, Grant, entry, entry_column_names, may, with_grants}
use Rattle.sq_binding.specs.ElementOutcome.{Outcome, ◌>>=◌, ◌>>◌, or_fault, refused_if}

abbrev pub is_empty : {A : Type 0} → List A → Bool
is_empty [] = true
is_empty (x ∷ xs) = false

-- The privileges that are named on a table with these columns. Each has to be held with the grant option. ALL PRIVILEGES means the ones
-- that are so held, at least one.
abbrev pub privileges_granted : (held : Privilege → Bool) → List Name → Privileges → Outcome (List Privilege)
privileges_granted held columns privileges.All =
    refused_if fault.PrivilegeMissing (is_empty (filter held (all_privileges columns)))
    >> Ok (filter held (all_privileges columns))
privileges_granted held columns (privileges.Actions actions) =
    refused_if fault.PrivilegeMissing
    (not (list_all held (flat_map (action_privileges columns) (listed actions))))
    >> Ok (flat_map (action_privileges columns) (listed actions))

-- the user that a grantee is, none for PUBLIC
abbrev pub grantee_user : Grantee → Option Name
grantee_user grantee.Public = None
grantee_user (grantee.User name) = Some name

abbrev pub grants_to : TableName → List Privilege → (to_grant : Bool) → Grantee → List Grant
grants_to t ps to_grant g =
    map (λ p. record { user = grantee_user g; table = t; privilege = p; to_grant = to_grant }) ps

-- to each grantee, and with the grant option if it is written
abbrev pub grants_made : TableName → List Privilege → GrantStatement → List Grant
grants_made t ps g =
    flat_map (grants_to t ps false) (listed g.grantees)
    ++ (if g.grant_option then flat_map (grants_to t ps true) (listed g.grantees) else [])

-- the grants that a statement makes on a table of this name with these columns
abbrev pub grants_on : (held : Privilege → Bool) → List Name → TableName → GrantStatement
    → Outcome (List Grant)
grants_on held columns t g = do
  refused_if fault.UnknownName (has_unknown columns (flat_map action_columns (actions_of g.privileges)))
  ps ← privileges_granted held columns g.privileges
  refused_if fault.OtherSchema (list_any action_repeats (actions_of g.privileges))
  Ok (grants_made t ps g)

-- the grants that a statement of a user makes
abbrev pub declared_grants : Catalog → Name → GrantStatement → Outcome (List Grant)
declared_grants c user g = do
  e ← or_fault fault.UnknownName (entry c (table_of user g.table))
  grants_on (may c true user (table_of user g.table)) (entry_column_names e) (table_of user g.table) g

abbrev pub with_granted : Catalog → List Grant → Catalog
with_granted c gs = record c { grants = with_grants c.grants gs }

abbrev pub grant : Catalog → Name → GrantStatement → Outcome Catalog
grant c user g = declared_grants c user g >>= λ gs. Ok (with_granted c gs)
