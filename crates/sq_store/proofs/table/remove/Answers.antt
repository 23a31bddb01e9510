-- Left open for remove: its result; answered by laws of std.
use Rattle.std.proofs.Common.{not, nat_eq, rules}
use Rattle.std.proofs.lemmas.Fn.{filter_same}
use Rattle.sq_store.proofs.table.remove.Goals as goal

pub returns : goal.returns
returns c = filter_same _ (λ r. not (nat_eq r.number c.args.number)) _ (λ x b f k. search rules) _ _ c.retain.ensures.filtered
