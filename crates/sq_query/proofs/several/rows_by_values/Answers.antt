-- Left open: the calls of keys_under and rows_with, and the result; answered by KeyNames and others.
use Rattle.std.proofs.Common.{ℕ, List, ◌∙◌, ap, sym, subst, Ok}
use Rattle.std.specs.Prelude.{⊤}
use Rattle.sq_meaning.specs.Status.{Outcome}
use Rattle.sq_meaning.specs.WellFormed.{Answers}
use Rattle.sq_store.specs.declared.table.Numbered.{Numbered}
use Rattle.sq_bound.specs.WellFormed.{base_kinds}
use Rattle.sq_bound.specs.declared.condition.TablePlace.TheVariants.{Base}
use Rattle.sq_expression.specs.Fault.{MeetsAs}
use Rattle.sq_query.specs.Several.{AreKeysUnder, rows_with}
use Rattle.sq_query.specs.Table.{numbered_in}
use Rattle.sq_query.specs.Target.{conditions_of}
use Rattle.sq_query.proofs.Keys.KeyNames.{base_there}
use Rattle.sq_query.proofs.Keys.KeyTests.{if_some}
use Rattle.sq_query.proofs.Keys.KeyValues.{memory_meets}
use Rattle.sq_query.proofs.Keys.KeysSearch.{few_chosen, found_as}
use Rattle.sq_query.proofs.Targets.KnownConditions.{rows_answer, rows_fit, target_on_base}
use Rattle.sq_query.proofs.several.rows_by_values.Goals as goal

pub keys_under-requires : goal.keys_under-requires
keys_under-requires g c =
    let store = c.args.store.now in
    record { there = base_there (g.N.Names.base_tables c.args.names.now) (g.S.Store.key_columns store) c.args.target.now c.requires.base c.requires.keys (g.S.Store.content_now store) (g.met.S.Store.keyed store) }

pub returns-in_err-known : goal.returns-in_err-known
returns-in_err-known g c = λ parameters tables may well.
    memory_meets numbered_in c.from_residual.result c.in_err-known.field-0.0 c.from_residual.ensures.1 c.in_err-known.ensures.memory _

pub returns-in-Some : goal.returns-in-Some
returns-in-Some g c = λ parameters tables may well.
    let store = c.args.store.now in
    let names = c.args.names.now in
    let call = c.args.call.now in
    let t = c.args.target.now in
    let known = c.in-Some.known in
    let content = g.S.Store.content_now store in
    let keys = g.S.Store.key_columns store in
    let bases = g.N.Names.base_tables names in
    let views = g.N.Names.view_queries names in
    let columns = g.N.Names.column_kinds names in
    let k = if_some (AreKeysUnder t content keys call.parameters.now call.user) c.in_ok-known.field-0 known c.in_ok-known.ensures.known c.in-Some.is in
    let rows_are = rows_fit bases views columns content call.user call.parameters.now (g.met.N.Names.kinds_of_bases names) (g.met.N.Names.kinds_of_views names) parameters tables may t.base k.on.table
    (base_kinds t.leaf.table) (ap (λ (p : ℕ). columns (Base p)) t.is_under ∙ well.leaf.kinds_are) in
    let few = rows_with content keys t.base known in
    let same = few_chosen tables columns parameters call.parameters.now call.user may.inputs bases content keys t known k well c.requires.base c.requires.keys c.requires.not_null rows_are in
    subst (λ (o : Outcome (List Numbered)). MeetsAs numbered_in c.rows_among.result o) same
    (c.rows_among.ensures.meant (Ok few) (found_as c.rows_with-rows.result few c.rows_with-rows.ensures.rows c.rows_with-rows.ensures.memory) parameters tables may well
    (subst (λ (o : Outcome (List Numbered)). Answers (λ found. ⊤) o) (sym same)
    (rows_answer bases views columns content call.user call.parameters.now (g.met.N.Names.kinds_of_bases names) (g.met.N.Names.kinds_of_views names) parameters tables may t.base (conditions_of t) (target_on_base columns parameters t well))))

pub rows_with-rows-requires : goal.rows_with-rows-requires
rows_with-rows-requires g c =
    let store = c.args.store.now in
    let call = c.args.call.now in
    let t = c.args.target.now in
    let k = if_some (AreKeysUnder t (g.S.Store.content_now store) (g.S.Store.key_columns store) call.parameters.now call.user) c.in_ok-known.field-0 c.in-Some.known c.in_ok-known.ensures.known c.in-Some.is in
    record { table = k.on.table; key = k.on.key }
