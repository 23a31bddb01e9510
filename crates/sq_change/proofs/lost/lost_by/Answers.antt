-- Left open for lost_by: what the call of lost_in asks for; answered by LostValues.
use Rattle.std.proofs.Common.{◌∙◌, ap, length, nat_lt}
use Rattle.std.specs.List.{list_all}
use Rattle.sq_change.proofs.Keys.LostValues.{referred_within}
use Rattle.sq_change.proofs.lost.lost_by.Goals as goal

pub lost_in-requires-clause-keys : goal.lost_in-requires-clause-keys
lost_in-requires-clause-keys g c =
    let names = c.args.setting.now.names.now in
    let table = c.args.table.now in
    ap (list_all (λ key. nat_lt key (length table.keys))) (c.as_slice.ensures.value ∙ c.in_ok-keys.ensures.list)
    ∙ referred_within (g.N.Names.base_tables names) table c.args.lost_keys.now (g.met.N.Names.references names) c.requires.base
