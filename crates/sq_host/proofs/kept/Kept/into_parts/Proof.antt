-- `into_parts` has the address with what it owns, and the handle beside it.
use Rattle.std.proofs.Common.{◌≡◌, List, [], ◌∷◌, ◌++◌, refl, ap, ◌∙◌, Option, Some, IsSome}
use mir.Syntax.{Fn}
use mir.Raw.{raw as bare}
use mir.Val.{Val, vptr}
use base.Logic.{SProp, emp, never, fst∗}
use prog.Wp.{WpFn}
use contract.Monad.{fact, fact_i}
use contract.Running.{tables}
use types.Logic.{sem}
use types.Kit.{‵, raw, ◌⊛◌, prop, ◌$◌, ◌∵◌, !, qed, by, move, keep, drop, use0, split, regoal, rewrite, fsplit, fsplit3, fjoin}
use types.Part.{whole, sub, agg}
use types.Run.{stop, fld, of_opd, no_more, and_then, returns, enter}
use types.ByLocal.{alloc_all, pass_all, free_all, look_at, get, get_in, sets}
use denote.RattleType.{RattleType, owns}
use denote.Memory.{lone}
use denote.RawPtr.{Ptr, block_ptr, null_ptr, in_a_block}
use denote.Signature.{types_at}
use denote.Steps.{nothing, heard}
use denote.Triple.Entry.{alive}
use denote.Triple.Walked.{Stays, stay_dropped, walk_of, Goes-dropped}
use Rattle.std.specs.Box.Ownership.{box_owns}
use Rattle.std.proofs.alloc.Calls.{Goes-blank, handle_tells}
use Rattle.std.specs.contracts.alloc.Global as heap
use Rattle.std.proofs.alloc.Global.TheLaws as heap_laws
use Rattle.std.specs.contracts.impls.GlobalAllocator.TheImpl.{ghosts}
use Rattle.std.proofs.raw_atomic.Walks.{proved_at, leaves}
use Rattle.sq_host.specs.Kept.{kept_owns}
use Rattle.sq_host.specs.contracts.host.Host as host
use Rattle.sq_host.specs.declared.host.Host.{Host}
use Rattle.sq_host.proofs.Values.{both, al, parts_fit, parts_in, slot_at, one_val, one_told, some_of}
use Rattle.sq_host.specs.contracts.kept.Kept.into_parts.{ended, clauses}
use Rattle.sq_host.specs.contracts.kept.Kept.into_parts.Key.{name as #self}
use Rattle.sq_host.proofs.kept.Kept.into_parts.Statement.{statement}
use Rattle.sq_host.proofs.kept.Kept.into_parts.Code as code

pub into_parts_spec : {M : Type 1} → statement M
into_parts_spec 𝓤 𝓛 𝓜 𝓡 wired =
    let H = 𝓛.H in let 𝓣 = tables 𝓤 H 𝓜 𝓡 𝓡.env in let R : RattleType = host.the_row in let Z : RattleType = heap.the_row in let LZ = heap_laws.the_row_laws in
    let c = clauses 𝓛 𝓜.mem 𝓡.returns in let fn : Fn = code.function in let ps = ended.signature.params in
    let hs : Stays ps ended.kept = (stay_dropped (slot_at 0 ps) ended.kept.0, (stay_dropped (slot_at 1 ps) ended.kept.1.0, tt)) in
    proved_at 𝓛 ended hs c 𝓜 𝓡 (Goes-blank 𝓛 0 (slot_at 0 ps) ended.kept.0 (λ κs x f. tt), (Goes-dropped 𝓛 0 (slot_at 1 ps) ended.kept.1.0 (λ κs x f. refl), tt)) #self fn (code.unfolded 𝓤 H 𝓜 𝓡 wired) (λ z are.
    let v = z.0.3.0 in let a = z.0.3.1.0 in let Post : Val → SProp 𝓤 = (walk_of 𝓛 ended hs c).post z in
    let told = one_told v.at z.0.4.0 are.0.0 in
    qed 𝓛 ((raw (alive 𝓛 ended.signature z.0.0 z.0.1) ⊛ ‵ (owns (types_at ps z.0.0) z.0.3 z.0.4)) ∷ raw (fact 𝓤 (IsSome v.value)) ∷ []) ∵
    move ! (1 ∷ []) $ heard ! (IsSome v.value) (λ full. split ! $ move ! (1 ∷ []) $ fsplit3 ! $ fsplit ! $ drop ! $
    -- [what is kept; the handle; nothing; the tokens]
    move ! (1 ∷ []) $ handle_tells (al R Z LZ ghosts) ! a z.0.4.1.0 (λ h ea fits. move ! (1 ∷ []) $
    some_of v.value full (λ x some. rewrite ! 0 (λ (q : Option Host). ‵ (kept_owns R v.at q)) some refl $
    in_a_block ! v.at (λ p. box_owns (ghosts.dealloc_token a) R p x) (fst∗ 𝓤 (never 𝓤) (sem 𝓛 (ghosts.dealloc_token a (bare (lone R.mir)) null_ptr))) (λ b o e.
    let is = told ∙ ap (λ (p : Ptr). one_val p ∷ []) e in
    regoal ! (λ (us : List Val). prop (WpFn 𝓤 H 𝓣.C 𝓣.Λ fn us Post)) (λ i. is i ++ (ea i ++ [])) refl $
    enter ! 𝓣.C 𝓣.Λ fn (one_val (block_ptr b o) ∷ h ∷ []) Post $ alloc_all ! (λ l. pass_all ! refl ((tt, (tt, tt)), (fits, tt)) $
    sets ! (of_opd ! (get_in ! (fld ! refl (stop !)) (sub ! 0 refl (whole !)))) refl (tt, tt) $
    sets ! (of_opd ! (get ! refl)) refl (tt, tt) $
    sets ! (agg ! (and_then ! (get ! refl) (and_then ! (get ! refl) (no_more !)))) refl (parts_fit R Z LZ ghosts b o h fits) $
    returns ! (look_at ! 0 refl) $ free_all ! refl $ parts_in R Z LZ ghosts ! b o h a x $
    use0 𝓛 (raw (fact 𝓤 (v.value ≡ Some x))) (fact_i 𝓤 (v.value ≡ Some x) (emp 𝓤) some) $ nothing ! $ nothing ! $ fjoin ! $ nothing ! $ fjoin ! $
    -- [nothing of the parameters; the fact; the result; nothing; the tokens]
    keep ! (4 ∷ 0 ∷ 2 ∷ 1 ∷ []) $ by ! (leaves 𝓛 ended hs c z (both h (vptr b o)) (record { alloc = a; at = block_ptr b o; value = x }) (tt, (tt, tt)) (tt, (tt, tt)))))))))
