-- Left open for insert_receivers: its result; answered by Finds and ColumnsInTurn.
use Rattle.std.proofs.Common.{[], map, sym, ap, subst, ◌∙◌}
use Rattle.sq_meaning.specs.Spelled.{listed}
use Rattle.sq_binding.specs.Change.{each_column, itself, receivers_bound, receivers_of}
use Rattle.sq_binder.specs.Found.{Finds, counts_of}
use Rattle.sq_binder.proofs.OneByOne.Finds.{finds_as}
use Rattle.sq_binder.specs.Changeable.{changed_of}
use Rattle.sq_binder.specs.Receiver.{columns_made, receiver_seen}
use Rattle.sq_binder.proofs.OneByOne.ColumnsInTurn.{in_turn}
use Rattle.sq_binder.proofs.receiver.insert_receivers.Goals as goal

pub returns-in-Some : goal.returns-in-Some
returns-in-Some c =
    let t = changed_of c.args.table.now in
    let list = c.in-Some.list in
    let r = c.listed_receivers-listed.result in
    subst (λ columns. Finds (map receiver_seen) (receivers_bound t columns) c.args.before r) (sym c.in-Some.is)
    (finds_as (map receiver_seen) (each_column t (λ name. name) itself [] (listed list)) (columns_made (receivers_of t) (λ name. name) itself (listed list)) c.args.before r
    (in_turn t (λ name. name) itself [] (listed list) (counts_of c.args.before))
    (subst (λ all. Finds (map receiver_seen) (columns_made all (λ name. name) itself (listed list)) c.args.before r) (ap (map receiver_seen) c.as_slice.ensures ∙ c.in_ok-all.ensures) c.listed_receivers-listed.ensures))
