-- Left open for Catalog::grants_over: its result; answered without a law.
use Rattle.std.proofs.Common.{List, ap, map, subst, true, ◌∙◌}
use Rattle.sq_lex.specs.declared.name.Name.{Name}
use Rattle.sq_binding.specs.Catalog.{may}
use Rattle.sq_binding.specs.Grant.{grants_on}
use Rattle.sq_catalog.specs.Exact.{declared, name_in, names_in}
use Rattle.sq_catalog.specs.Fault.{Makes}
use Rattle.sq_catalog.specs.Held.{grant_seen}
use Rattle.sq_catalog.proofs.catalog.Catalog.grants_over.Goals as goal

pub returns : goal.returns
returns c =
    subst (λ (ns : List Name). Makes (map grant_seen) (grants_on (may (declared c.args.self.now) true c.args.user (name_in c.args.name.now)) ns (name_in c.args.name.now) c.args.statement.now) c.grants_on-grants.result)
    (c.as_slice-2.ensures ∙ c.in_ok-columns.ensures ∙ ap names_in c.as_slice.ensures) c.grants_on-grants.ensures
