-- Left open: the call of object_column, the clauses positions and columns, and the loop's invariant; answered by Receivers and There.
use Rattle.std.proofs.Common.{[], ◌∷◌, ◌++◌, length, map, take, take_all, sym, ap, subst, ◌∙◌, refl}
use Rattle.std.proofs.lemmas.List.{map-append, take_more}
use Rattle.std.specs.List.{AllByRecursion}
use Rattle.sq_meaning.proofs.AnswerLaws.{all_appended}
use Rattle.sq_bound.specs.Fits.{IsColumnOf}
use Rattle.sq_bound.specs.declared.names.ObjectColumn.{ObjectColumn}
use Rattle.sq_binder.specs.declared.receiver.Receiver.{Receiver}
use Rattle.sq_binder.proofs.Changes.Receivers.{one_within}
use Rattle.sq_binder.proofs.Statements.There.{object_of}
use Rattle.sq_binder.proofs.insert.object_columns.Goals as goal

pub object_column-requires : goal.object_column-requires
object_column-requires c =
    one_within (length c.args.base.now.columns) c.args.receivers.now c.loop-receiver.receiver-index c.receiver-item.result c.requires c.loop-receiver-test.true c.receiver-item.is

pub loop-receiver-preserved : goal.loop-receiver-preserved
loop-receiver-preserved c =
    let receivers = c.args.receivers.now in
    let columns = c.loop-receiver.columns in
    let receiver = c.receiver-item.result in
    let i = c.loop-receiver.receiver-index in
    let object = c.object_column.result in (
      ap (map (λ (c : ObjectColumn). c.position)) c.in_ok-push.ensures.ok ∙ map-append (λ (c : ObjectColumn). c.position) columns (object ∷ [])
          ∙ (λ j. c.loop-receiver.invariant.0 j ++ c.object_column.ensures.position j ∷ [])
          ∙ sym (map-append (λ (r : Receiver). r.column) (take i receivers) (receiver ∷ []))
          ∙ ap (map (λ (r : Receiver). r.column)) (sym (take_more receivers i receiver c.loop-receiver-test.true ∙ ap (λ r. take i receivers ++ r ∷ []) (sym c.receiver-item.is))),
      subst (AllByRecursion (IsColumnOf c.args.base.now)) (sym c.in_ok-push.ensures.ok)
          (all_appended (IsColumnOf c.args.base.now) columns (object ∷ []) c.loop-receiver.invariant.1
          (object_of c.args.base.now c.args.base.now refl object receiver.column c.object_column.ensures.position c.object_column.ensures.domain, tt)),
    )

pub returns-clause-positions : goal.returns-clause-positions
returns-clause-positions c = c.loop-receiver.invariant.0 ∙ ap (map (λ (r : Receiver). r.column)) (take_all c.loop-receiver.receiver-index c.args.receivers.now c.loop-receiver-test.false)

pub returns-clause-columns : goal.returns-clause-columns
returns-clause-columns c = c.loop-receiver.invariant.1
