-- Privileges, as the definitions see them (ISO/IEC 9075:1992, 10.3).
use Rattle.std.specs.Prelude.{List, map}
use Rattle.sq_lex.specs.declared.name.Name.{Name}
use Rattle.sq_meaning.specs.Privilege as rules
use Rattle.sq_binding.specs.Catalog as definition
use Rattle.sq_catalog.specs.Exact.{name_in}
use Rattle.sq_catalog.specs.declared.held.Grant.{Grant}
use Rattle.sq_catalog.specs.declared.held.Held.{Held}
use Rattle.sq_catalog.specs.declared.privilege.ColumnAction.{ColumnAction}
use Rattle.sq_catalog.specs.declared.privilege.ColumnAction.TheVariants as action
use Rattle.sq_catalog.specs.declared.privilege.Privilege.{Privilege}
use Rattle.sq_catalog.specs.declared.privilege.Privilege.TheVariants as privilege

abbrev pub privilege_of : Privilege → rules.Privilege
privilege_of privilege.Select = rules.Privilege.select
privilege_of privilege.Insert = rules.Privilege.insert
privilege_of privilege.Delete = rules.Privilege.delete
privilege_of (privilege.Update column) = rules.Privilege.update column
privilege_of (privilege.References column) = rules.Privilege.references column

abbrev pub privilege_on : ColumnAction → Name → rules.Privilege
privilege_on action.Update = rules.Privilege.update
privilege_on action.References = rules.Privilege.references

abbrev pub grant_seen : Grant → definition.Grant
grant_seen g = record {
  user = g.user;
  table = name_in g.table;
  privilege = privilege_of g.privilege;
  to_grant = g.to_grant;
}

-- the privileges that are held, each once
abbrev pub grants_held : Held → List definition.Grant
grants_held held = map grant_seen held.grants.keys
