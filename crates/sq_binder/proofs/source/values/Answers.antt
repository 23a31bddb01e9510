-- Left open for values: the clause finds; answered by Finds, Sources and IntoTargets.
use Rattle.std.proofs.Common.{◌≡◌, ◌∷◌, suc, true, length, map, Ok, refl, sym, ap, subst, arith, ◌∙◌}
use Rattle.std.proofs.lemmas.List.{length-map}
use Rattle.std.specs.List.{zip}
use Rattle.std.specs.Prelude.{◌==◌}
use Rattle.sq_tree.specs.declared.statement.InsertSource.TheVariants.{Values}
use Rattle.sq_meaning.specs.Spelled.{listed}
use Rattle.sq_bound.specs.declared.statement.InsertedRows.TheVariants as inserted
use Rattle.sq_binding.specs.Change.{NumberedSource, source_bound, value_for}
use Rattle.sq_binding.specs.Found.{each}
use Rattle.sq_binding.specs.Seen.{numbered_of}
use Rattle.sq_binder.specs.Found.{Finds}
use Rattle.sq_binder.specs.Surroundings.{surroundings}
use Rattle.sq_binder.proofs.OneByOne.Finds.{makes_found, makes_stop, stop_found}
use Rattle.sq_binder.specs.Names.{names_at}
use Rattle.sq_binder.specs.Receiver.{receiver_seen}
use Rattle.sq_binding.specs.SeenQuery.{source_seen}
use Rattle.sq_binder.proofs.Changes.Sources.{values_made}
use Rattle.sq_binder.proofs.Statements.IntoTargets.{equal_tested}
use Rattle.sq_binder.proofs.source.values.Goals as goal

pub returns-in_err-part-clause-finds : goal.returns-in_err-part-clause-finds
returns-in_err-part-clause-finds g c =
    let names = names_at g.T.Tables.named g.T.ChangeableTables.changes c.args.at.now in
    let a = surroundings g.T.Tables.named c.args.at.now in
    let list = c.args.list.now in
    let first = c.in-Some.first.now in
    let others = c.in-Some.others.now in
    let receivers = map receiver_seen (first ∷ others) in
    let rest = ap length c.as_slice-rest.ensures in
    let few : length others ≡ length list.rest = omega (arith, c.if-rest-others.false, rest) in
    let many : (length receivers == length (listed list)) ≡ true = equal_tested (length receivers) (length (listed list)) (ap suc (length-map others receiver_seen ∙ few)) in
    let stop = c.in_err-part.field-0.0 in
    let values = each (value_for a) (zip receivers (listed list)) in
    subst (λ rs. Finds source_seen (source_bound names a (map receiver_seen rs) (Values list)) c.args.before c.from_residual.result) (sym c.in-Some.ensures.cases.0)
    (stop_found source_seen (source_bound names a receivers (Values list)) c.args.before c.from_residual.result stop c.from_residual.ensures.1
    (makes_stop (map numbered_of) source_seen (source_bound names a receivers (Values list)) values (λ given. NumberedSource.values given) (values_made names a receivers list many) c.args.before stop c.in_err-part.ensures.finds))

pub returns-clause-finds : goal.returns-clause-finds
returns-clause-finds g c =
    let names = names_at g.T.Tables.named g.T.ChangeableTables.changes c.args.at.now in
    let a = surroundings g.T.Tables.named c.args.at.now in
    let list = c.args.list.now in
    let first = c.in-Some.first.now in
    let others = c.in-Some.others.now in
    let receivers = map receiver_seen (first ∷ others) in
    let rest = ap length c.as_slice-rest.ensures in
    let few : length others ≡ length list.rest = omega (arith, c.if-rest-others.false, rest) in
    let many : (length receivers == length (listed list)) ≡ true = equal_tested (length receivers) (length (listed list)) (ap suc (length-map others receiver_seen ∙ few)) in
    let found = c.in_ok-part.field-0 in
    let values = each (value_for a) (zip receivers (listed list)) in
    subst (λ rs. Finds source_seen (source_bound names a (map receiver_seen rs) (Values list)) c.args.before (Ok (record { part = inserted.Values found.part; brought = found.brought }))) (sym c.in-Some.ensures.cases.0)
    (makes_found (map numbered_of) source_seen (source_bound names a receivers (Values list)) values (λ given. NumberedSource.values given) (values_made names a receivers list many) c.args.before
    found (record { part = inserted.Values found.part; brought = found.brought }) c.in_ok-part.ensures.finds refl refl)
