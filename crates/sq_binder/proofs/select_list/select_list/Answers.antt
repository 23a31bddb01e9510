-- Left open for select_list: its result; answered without a law.
use Rattle.std.proofs.Common.{map, sym, subst}
use Rattle.sq_meaning.specs.Spelled.{list_of}
use Rattle.sq_binder.specs.Found.{Finds}
use Rattle.sq_binder.specs.Scope.{item_of}
use Rattle.sq_binder.specs.SelectList.{list_seen, list_split}
use Rattle.sq_binder.specs.Surroundings.{surroundings}
use Rattle.sq_binder.proofs.select_list.select_list.Goals as goal

pub returns-in-Star : goal.returns-in-Star
returns-in-Star g c =
    let a = surroundings g.T.Tables.named c.args.at.now in
    subst (λ list. Finds list_seen (list_split a (map item_of c.args.items.now) (list_of list)) c.args.before c.bind_star.result) (sym c.in-Star.is) (c.bind_star.ensures a)
