-- Left open for query_names: the clauses names and exact; answered by ViewNames.
use Rattle.std.proofs.Common.{◌≡◌, List, Ok, sym, subst, ◌∙◌}
use Rattle.sq_lex.specs.declared.name.Name.{Name}
use Rattle.sq_meaning.specs.Schema.{has_name_twice}
use Rattle.sq_meaning.specs.declared.refusal.SchemaFault.TheVariants.{NameTwice}
use Rattle.sq_binding.specs.ElementOutcome.{refused_if}
use Rattle.sq_bound.specs.declared.condition.ResultColumn.{ResultColumn}
use Rattle.sq_catalog.proofs.CreateView.ViewNames.{all_named, query_named, query_unnamed}
use Rattle.sq_catalog.proofs.view_names.query_names.Goals as goal

pub returns-in-Ok-clause-names : goal.returns-in-Ok-clause-names
returns-in-Ok-clause-names c =
    all_named (λ (x : ResultColumn). x.name) c.as_many.result c.in-Ok.names c.args.columns.now c.as_many.ensures.names c.as_many.ensures.count (c.in-Ok.ensures.names ∙ c.in_ok-names.ensures)

pub returns-in-Ok-clause-exact : goal.returns-in-Ok-clause-exact
returns-in-Ok-clause-exact c =
    let same = c.in-Ok.ensures.names in
    query_named c.args.columns.now c.in-Ok.names (same ∙ c.in_ok-names.ensures) c.as_many.result
    (subst (λ (ns : List Name). refused_if NameTwice (has_name_twice ns) ≡ Ok tt) (sym same) c.in-Ok.ensures.exact) c.as_many.ensures.exact

pub returns-in-Err-clause-exact : goal.returns-in-Err-clause-exact
returns-in-Err-clause-exact c = query_unnamed c.args.columns.now c.in_ok-names.names c.in_ok-names.ensures c.in-Err.fault c.in-Err.ensures.exact
