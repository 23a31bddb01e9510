-- Left open for Openers::add_item: its result; answered by Openers.
use Rattle.std.proofs.Common.{sym}
use Rattle.sq_module.proofs.Openers.{on_both, openers_next, openers_same}
use Rattle.sq_module.proofs.opener.Openers.add_item.Goals as goal

pub returns-in-Some : goal.returns-in-Some
returns-in-Some c =
    λ items are.
    on_both c.add.result c.add.ensures.opened c.add.ensures.shared (λ opened shared. openers_next items c.args.item.now c.args.self.now c.add.new.self c.in-Some.cursor (sym c.in-Some.ensures) opened shared are)

pub returns-in-None : goal.returns-in-None
returns-in-None c = λ items are. openers_same items c.args.item.now c.args.self.now (sym c.in-None.ensures) are
