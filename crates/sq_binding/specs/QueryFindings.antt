-- The findings in a part of a query besides its tree (ISO/IEC 9075:1992, 4.26, 6.3, 6.4 and 7.11). They are in its
-- value expressions, and on the tables that it names, in its subqueries too.
use Rattle.std.specs.Prelude.{ℕ, ◌-◌, Bool, true, false, ◌||◌, nat_lt, if◌then◌else◌}
use Rattle.sq_binding.specs.Findings.{Findings, none}
use Rattle.sq_binding.specs.Findings as findings

pub record QueryFindings : Type 0 where
  pub values : Findings
  pub has_subquery : Bool
  -- whether SELECT is not held on a table that is read, and whether it is not with the grant option
  pub lacks_privilege : Bool
  pub lacks_grant_option : Bool

-- the findings in value expressions alone
abbrev pub of_values : Findings → QueryFindings
of_values f = record { values = f; has_subquery = false; lacks_privilege = false; lacks_grant_option = false }

abbrev pub nothing : QueryFindings
nothing = of_values none

-- evaluation may answer a status
abbrev pub a_status : QueryFindings
a_status = of_values (record none { can_fail = true })

-- the findings in two parts
abbrev pub both : QueryFindings → QueryFindings → QueryFindings
both a b = record {
  values = findings.both a.values b.values;
  has_subquery = a.has_subquery || b.has_subquery;
  lacks_privilege = a.lacks_privilege || b.lacks_privilege;
  lacks_grant_option = a.lacks_grant_option || b.lacks_grant_option;
}

-- ---- subqueries

-- no FROM clause has more items (own rule)
abbrev pub most_items : ℕ
most_items = 16

-- the findings in a subquery, seen from the query around it: its outer query is this one
abbrev pub values_of_subquery : Findings → Findings
values_of_subquery f = record f {
  items = f.outer_items;
  outer_items = if nat_lt 1 f.reach then most_items else 0;
  reach = f.reach - 1;
  has_ungrouped = false;
}

abbrev pub of_subquery : QueryFindings → QueryFindings
of_subquery f = record f { values = values_of_subquery f.values; has_subquery = true }
