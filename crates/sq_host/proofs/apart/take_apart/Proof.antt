-- `take_apart` leaves the handle, and the address with what it owns.
use Rattle.std.proofs.Common.{◌≡◌, List, [], ◌∷◌, ◌++◌, refl}
use mir.Syntax.{Args, Fn, a_type, dcons, dnil}
use mir.Raw.{raw as bare}
use mir.Val.{Val, vptr}
use mir.MapTy.{inst_fn}
use base.Logic.{SProp, emp, never, id⊢, fst∗}
use base.Fml.{ftrue, fsep, flft}
use prog.Wp.{WpFn}
use types.Logic.{sem}
use types.Kit.{‵, raw, ◌⊛◌, prop, some, later, ◌$◌, ◌∵◌, !, qed, by, move, keep, drop, split, split3, join, fsplit, fjoin, pick, use0, use1, await, regoal}
use types.Part.{agg, sub, whole}
use types.Run.{stop, fld, of_opd, no_more, and_then, returns, enter}
use types.ByLocal.{alloc_all, pass_all, free_all, look_at, get, get_in, sets, lands_as}
use contract.Monad.{fact, fact_i}
use contract.Running.{tables}
use denote.Exit.{no}
use denote.RattleType.{RattleType, owns}
use denote.Signature.{Slot, types_at, plain}
use denote.Builtin.{RawPtr}
use denote.RawPtr.{Ptr, block_ptr, null_ptr, in_a_block}
use denote.Steps.{nothing, heard}
use denote.Param.{param, layout, bounded}
use denote.Param.Laws.{param_laws}
use denote.Struct.Tuple.{Tuple}
use denote.Triple.Spec.{triple_of}
use denote.Triple.Call.{calls_at}
use denote.Triple.Table.{framed}
use denote.Triple.Walked.{Stays, stay_dropped, walk_of}
use Rattle.std.specs.Box.Ownership.{box_owns}
use Rattle.std.proofs.alloc.Calls.{Goes-blank}
use Rattle.std.proofs.BoxSteps.Form as box
use Rattle.std.proofs.BoxSteps.Steps.{box_out, box_in}
use Rattle.std.proofs.raw_atomic.Walks.{proved_at, leaves}
use Rattle.std.specs.contracts.boxed.Box.into_raw_with_allocator as callee
use Rattle.std.proofs.boxed.Box.into_raw_with_allocator.Met as callee_met
use Rattle.sq_host.proofs.Values.{both, pair_fits, parts_fit, pair_out, parts_in}
use Rattle.sq_host.specs.contracts.apart.take_apart.{ended, clauses}
use Rattle.sq_host.specs.contracts.apart.take_apart.Key.{name as #self}
use Rattle.sq_host.proofs.apart.take_apart.Statement.{statement}
use Rattle.sq_host.proofs.apart.take_apart.Code as code

pub take_apart_spec : {M : Type 1} → statement M
take_apart_spec 𝓤 𝓛 𝓜 𝓡 wired X Z L LZ g d dx dd allocator glue glued =
    let H = 𝓛.H in let 𝓣 = tables 𝓤 H 𝓜 𝓡 𝓡.env in let R : RattleType = param 0 X in let A : RattleType = param 1 Z in let LA = param_laws 1 Z LZ in
    let E : box.Bx = record { row = X; laws = L; al = record { row = Z; laws = LZ; g = g; d = d; drops = dd } } in let B : RattleType = box.B E in
    let args : Args = bounded (a_type ∷ a_type ∷ []) (X, (Z, tt)) (dcons d (dcons dx (dcons dd dnil))) in let fn : Fn = inst_fn args code.function in
    let En = ended X Z g d dx dd in let c = clauses X Z g d dx dd 𝓛 𝓜.mem 𝓡.returns in
    let box_slot : Slot 2 = plain (λ _. B) in let hs : Stays En.signature.params En.kept = (stay_dropped box_slot no, tt) in
    let Raw = triple_of 𝓛 (callee.signature X Z g d dd dx) (callee.spec X Z g d dd dx 𝓛 𝓜.mem 𝓡.returns) in
    let raw_met = callee_met.met 𝓤 𝓛 𝓜 𝓡 (code.calls-std_alloc::boxed::Box::into_raw_with_allocator 𝓡.env wired) X Z L LZ g d dd dx allocator glued glue in
    proved_at 𝓛 En hs c 𝓜 𝓡 (Goes-blank 𝓛 2 box_slot no (λ κs x f. tt), tt) (#self args) fn (code.unfolded 𝓤 H 𝓜 𝓡 wired (X, (Z, tt)) d dx dd) (λ z are.
    let κs = z.0.0 in let qs = z.0.1 in let v = z.0.3.0 in let a = v.alloc in let Post : Val → SProp 𝓤 = (walk_of 𝓛 En hs c).post z in
    let tokens = ‵ (flft κs.0 qs.0) ⊛ ‵ (flft κs.1.0 qs.1.0) ⊛ ‵ ftrue in
    qed 𝓛 ((tokens ⊛ ‵ (owns (types_at En.signature.params κs) z.0.3 z.0.4)) ∷ raw ((c κs z.0.3).requires z.1) ∷ []) ∵
    split ! $ move ! (1 ∷ []) $ fsplit ! $ box_out E ! v z.0.4.0 (λ b o h e is fits. box_in E ! v b o v.value e refl $
    let w : Val = box.word E h b o in let good = pair_fits R A LA g b o h fits in
    let y : Raw.Ghost = ((κs, qs, tt, (v, tt), (w ∷ [], tt)), tt) in
    -- [the box; nothing; the tokens; the facts]
    fjoin ! $ move ! (1 ∷ 0 ∷ []) $ join ! $ join ! $ use1 𝓛 (raw (Raw.pre y)) (id⊢ 𝓤 _) $
    regoal ! (λ (us : List Val). prop (WpFn 𝓤 H 𝓣.C 𝓣.Λ fn us Post)) (λ i. is i ++ []) refl $
    enter ! 𝓣.C 𝓣.Λ fn (w ∷ []) Post $ alloc_all ! (λ l. pass_all ! refl (good, tt) $ sets ! (of_opd ! (get ! refl)) refl good $
    calls_at ! (framed 𝓤 H 𝓜 𝓣) Raw raw_met y (and_then ! (get ! refl) (no_more !)) (λ u.
    use1 𝓛 (later (some (λ (r : Ptr × Z.Denot). (tokens ⊛ ‵ ((Tuple (RawPtr ∷ A ∷ [])).own_val r (u ∷ []))) ⊛ some (λ (_ : (Unit {0} × (Unit {0} × Unit {0})) × Unit {0}).
    ‵ (fsep (fsep ftrue (fsep ftrue ftrue)) ftrue) ⊛ (raw (fact 𝓤 (r.1 ≡ a)) ⊛ ‵ (box_owns (g.dealloc_token a) R r.0 v.value)))))) (id⊢ 𝓤 _) $
    await ! tt $ pick ! (λ r. split ! $ move ! (1 ∷ []) $ pick ! (λ _. split3 ! $ drop ! $ heard ! (r.1 ≡ a) (λ same.
    in_a_block ! r.0 (λ p. box_owns (g.dealloc_token a) R p v.value) (fst∗ 𝓤 (never 𝓤) (sem 𝓛 (g.dealloc_token a (bare (layout X)) null_ptr))) (λ b₁ o₁ at.
    -- [what is at the address; the tokens and the pair]
    move ! (1 ∷ []) $ split ! $ move ! (1 ∷ []) $ pair_out R A LA g ! r a b₁ o₁ u same at (λ h₁ told fits₁.
    lands_as ! told refl (pair_fits R A LA g b₁ o₁ h₁ fits₁) $
    sets ! (of_opd ! (get_in ! (fld ! refl (stop !)) (sub ! 0 refl (whole !)))) refl (tt, tt) $ sets ! (of_opd ! (get_in ! (fld ! refl (stop !)) (sub ! 1 refl (whole !)))) refl fits₁ $
    sets ! (of_opd ! (get ! refl)) refl fits₁ $ sets ! (agg ! (and_then ! (get ! refl) (and_then ! (get ! refl) (no_more !)))) refl (parts_fit R A LA g b₁ o₁ h₁ fits₁) $
    returns ! (look_at ! 0 refl) $ free_all ! refl $
    -- [the handle; the tokens; what is at the address]
    move ! (2 ∷ 0 ∷ []) $ parts_in R A LA g ! b₁ o₁ h₁ a v.value $
    use0 𝓛 (raw (fact 𝓤 (v.value ≡ v.value))) (fact_i 𝓤 (v.value ≡ v.value) (emp 𝓤) refl) $ nothing ! $ nothing ! $ fjoin ! $
    -- [nothing of the box; the fact; the result; the tokens]
    keep ! (3 ∷ 0 ∷ 2 ∷ 1 ∷ []) $ by ! (leaves 𝓛 En hs c z (both h₁ (vptr b₁ o₁)) (record { alloc = a; at = block_ptr b₁ o₁; value = v.value }) ((tt, (tt, tt)), tt) (tt, tt)))))))))))
