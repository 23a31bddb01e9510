-- Bound expressions and their additions to the query, as the definitions see them (ISO/IEC 9075:1992, 6.5 and 6.11).
use Rattle.std.specs.Prelude.{map}
use Rattle.sq_binding.specs.Expression as binding
use Rattle.sq_binding.specs.Findings as binding_findings
use Rattle.sq_binding.specs.Seen.{call_of, numbered_of}
use Rattle.sq_binder.specs.declared.bound.Bound.{Bound}
use Rattle.sq_binder.specs.declared.findings.Findings.{Findings}

abbrev pub findings_of : Findings → binding_findings.Findings
findings_of f = record {
  items = f.items;
  outer_items = f.outer_items;
  reach = f.reach;
  reads_outermost = f.reads_outermost;
  can_fail = f.can_fail;
  has_ungrouped = f.has_ungrouped;
  has_user = f.has_user;
}

abbrev pub bound_of : Bound → binding.Bound
bound_of b = record {
  tree = numbered_of b.expr;
  kind = b.kind;
  calls = map call_of b.calls;
  calls_can_fail = b.calls_can_fail;
  findings = findings_of b.findings;
}
