-- `then` makes the empty struct beside the machine that its clause names. Assumes `Logic`.
use Rattle.std.proofs.Common.{[], ◌∷◌, refl, w64}
use base.Logic.{emp}
use mir.Syntax.{named}
use types.Kit.{‵, raw, ◌⊛◌, ◌$◌, ◌∵◌, !, qed, move, drop, split, fjoin, suffices, done}
use types.Part.{agg}
use types.Run.{no_more, returns, enter}
use types.ByLocal.{alloc_all, pass_all, free_all, look_at, sets}
use denote.Exit.{yes}
use denote.Plain.{uint_vals, uint_Tells}
use denote.RattleType.{owns}
use denote.Ref.{shr_vals, shr_Tells}
use denote.Signature.{types_at}
use denote.Slice.{shr_slice_vals, shr_slice_Tells}
use denote.Steps.{nothing}
use denote.Triple.Entry.{alive}
use denote.Triple.Walked.{says, Stays, stay_dropped, walk_of, ends_at, Goes-dropped}
use Rattle.std.proofs.raw_atomic.Walks.{proved}
use Rattle.sq_value.specs.contracts.value.Value as value
use Rattle.sq_run.proofs.Steps.Fieldless.{empty, empty_owned, slot_at}
use Rattle.sq_run.specs.Processor.{after_call}
use Rattle.sq_run.specs.contracts.counterpart.Counterpart as counterpart
use Rattle.sq_run.specs.contracts.counterpart.Counterpart.then as f
use Rattle.sq_run.proofs.counterpart.Counterpart.then.Statement.{statement}
use Rattle.sq_run.proofs.counterpart.Counterpart.then.Code as code

abbrev stayed : Stays f.ended.signature.params f.ended.kept
stayed = (stay_dropped _ yes, (stay_dropped _ yes, (stay_dropped _ yes, tt)))

pub then_spec : {M : Type 1} → statement M
then_spec 𝓤 𝓛 𝓜 𝓡 wired =
    let c = f.clauses 𝓛 𝓜.mem 𝓡.returns in let W = walk_of 𝓛 f.ended stayed c in let ps = f.ended.signature.params in
    proved 𝓛 f.ended stayed c 𝓜 𝓡
    (Goes-dropped 𝓛 2 (slot_at 0 ps) f.ended.kept.0 (λ κs x g. refl), (Goes-dropped 𝓛 2 (slot_at 1 ps) f.ended.kept.1.0 (λ κs x g. refl), (Goes-dropped 𝓛 2 (slot_at 2 ps) f.ended.kept.1.1.0 (λ κs x g. refl), tt)))
    f.Key.name code.function (code.unfolded 𝓤 𝓛.H 𝓜 𝓡 wired)
    (λ κs. (shr_vals, (uint_vals w64, (shr_slice_vals, tt)))) (λ κs. (shr_Tells (named 0) κs.0 counterpart.the_row, (uint_Tells w64, (shr_slice_Tells (named 1) κs.1.0 value.the_row, tt))))
    (λ κs qs bounds a none are.
    let y : W.Ghost = ((κs, qs, bounds, a, (shr_vals a.0, (uint_vals w64 a.1.0, (shr_slice_vals a.1.1.0, tt)))), none) in
    let made : (counterpart.the_row).Denot = record { machine = after_call a.0.now.machine a.1.0 a.1.1.0.now } in
    qed 𝓛 ((raw (alive 𝓛 f.signature κs qs) ⊛ ‵ (owns (types_at ps κs) a y.0.4)) ∷ raw (emp 𝓤) ∷ []) ∵
    split ! $ move ! (1 ∷ 2 ∷ []) $ drop ! $ drop ! $
    enter ! _ _ _ _ _ $ alloc_all ! (λ l. pass_all ! refl ((tt, tt), ((tt, record { fits = are.1.0.1 }), ((tt, (tt, (record { fits = are.1.1.0.0.1.0 }, tt))), tt))) $
    sets ! (agg ! (no_more !)) refl (tt, tt) $
    returns ! (look_at ! 0 refl) $ free_all ! refl $
    nothing ! $ empty_owned ! $ fjoin ! $
    suffices ! _ (ends_at 𝓛 f.ended stayed c y empty made (tt, (tt, (tt, tt))) (tt, (tt, (tt, tt)))) $ says ! refl $
    nothing ! $ nothing ! $ fjoin ! $ nothing ! $ fjoin ! $ nothing ! $ fjoin ! $ move ! (2 ∷ 0 ∷ 1 ∷ []) $ done !))
