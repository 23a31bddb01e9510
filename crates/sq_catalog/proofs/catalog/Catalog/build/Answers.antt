-- Left open for Catalog::build: the clauses declares and exact; answered by Declared.
use Rattle.std.proofs.Common.{◌≡◌, Ok, subst}
use Rattle.sq_meaning.specs.SchemaRefusal.{schema_parts}
use Rattle.sq_binding.specs.Catalog as definition
use Rattle.sq_binding.specs.Declaring.{with_parts}
use Rattle.sq_catalog.specs.Exact.{StopsAt, declared}
use Rattle.sq_catalog.proofs.Growth.Declared.{declared_all}
use Rattle.sq_catalog.proofs.catalog.Catalog.build.Goals as goal

pub returns-in-Ok-clause-declares : goal.returns-in-Ok-clause-declares
returns-in-Ok-clause-declares c =
    let bases = c.empty-catalog.ensures.bases in
    let views = c.empty-catalog.ensures.views in
    declared_all c.args.texts.now _ c.add_texts.new.self bases.0 bases.1 bases.2 views.0 views.1 views.2 c.in-Ok.ensures.tables c.in-Ok.ensures.views

pub returns-in-Ok-clause-exact : goal.returns-in-Ok-clause-exact
returns-in-Ok-clause-exact c =
    subst (λ (d : definition.Catalog). with_parts (schema_parts c.args.texts.now) d ≡ Ok (declared c.add_texts.new.self)) c.empty-catalog.ensures.exact c.in-Ok.ensures.exact

pub returns-in-Err-clause-exact : goal.returns-in-Err-clause-exact
returns-in-Err-clause-exact c =
    subst (λ (d : definition.Catalog). StopsAt (with_parts (schema_parts c.args.texts.now) d) c.in-Err.fault) c.empty-catalog.ensures.exact c.in-Err.ensures.exact
