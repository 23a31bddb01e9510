-- The machine values of an `Apart`, of the pair that a box is taken apart into, and of a
-- `Kept`. Assumes `Logic`.
use Rattle.std.proofs.Common.{◌≡◌, ℕ, zero, suc, List, [], ◌∷◌, ◌++◌, refl, ap, subst, ◌∙◌, Option, Some, None, IsSome, Bool, true, not, ◌&&◌, T}
use seplogic.Ra.Ura.{Ura}
use mir.Syntax.{impl, tnil, dnil}
use mir.Raw.{raw as bare}
use mir.Val.{Val, vptr, vstruct, vcons, vnil, of_list, has_ty, WT}
use base.Fml.{Fml}
use base.Logic.{ent, emp, never, fst∗}
use types.Logic.{Logic, sem}
use types.Kit.{Item, Goal, Seq, Step, step, ‵, ◌$◌, move, drop, fsplit, fjoin, fpick, fpack, rewrite, feq_i, feq_l}
use denote.RattleType.{RattleType, Valss}
use denote.Builtin.{RawPtr, unit}
use denote.Signature.{Slot, plain}
use denote.Memory.{lone}
use denote.RawPtr.{Ptr, block_ptr, null_ptr, ptr_val, in_a_block}
use denote.Shadow.{shadow, makes_shadow}
use denote.Steps.{nothing, only}
use denote.Param.{layout}
use denote.Param.Laws.{Laws}
use denote.Struct.Struct.{Struct, within}
use denote.Struct.Owning.{shape}
use denote.Struct.Tuple.{Tuple}
use Rattle.std.specs.Box.Ownership.{box_owns}
use Rattle.std.specs.declared.alloc.Allocator.{Ghosts}
use Rattle.std.proofs.alloc.Calls.{Al, handle_tells}
use Rattle.std.proofs.cell.Inside.{Good}
use Rattle.std.proofs.ResultValues.{and_tt}
use Rattle.sq_host.specs.contracts.apart.Apart as apart

abbrev pub both : Val → Val → Val
both v w = vstruct (vcons v (vcons w vnil))

module _ (R Z : RattleType) (L : Laws Z) (g : Ghosts Z.Denot) where
  abbrev pub Parts : RattleType
  Parts = apart.the_row R Z g

  abbrev pub al : Al
  al = record { row = Z; laws = L; g = g; d = impl [] tnil dnil; drops = impl [] tnil dnil }

  -- a pair with its pointer first has its type, and so has an `Apart`
  pub pair_fits : (b o : ℕ) (h : Val) → Good (layout Z) h → T (has_ty (layout Z) h && true) × WT (both (vptr b o) h)
  pair_fits b o h fits = (and_tt (has_ty (layout Z) h) fits.0, (tt, (fits.1, tt)))

  pub parts_fit : (b o : ℕ) (h : Val) → Good (layout Z) h → T (has_ty (layout Z) h && true) × WT (both h (vptr b o))
  parts_fit b o h fits = (and_tt (has_ty (layout Z) h) fits.0, (fits.1, (tt, tt)))

  module _ {M : Type 1} {𝓤 : Ura M} {𝓛 : Logic 𝓤} {K : Type 0} {Γ : List (Item 𝓤)} {G : Goal 𝓤 𝓛.H} where
    -- a pair owns the same as its handle
    pub pair_out : K → (r : Ptr × Z.Denot) (a : Z.Denot) (b o : ℕ) (u : Val) → r.1 ≡ a → r.0 ≡ block_ptr b o
        → ((h : Val) → u ≡ both (vptr b o) h → Good (layout Z) h → Seq K 𝓛 (‵ (Z.own_val a (h ∷ [])) ∷ Γ) G)
        → Seq K 𝓛 (‵ ((Tuple (RawPtr ∷ Z ∷ [])).own_val r (u ∷ [])) ∷ Γ) G
    pair_out t r a b o u ea ep k =
        fpick t (λ vss. fsplit t $ feq_l t (λ eu. fsplit t $ feq_l t (λ er. fsplit t $ move t (1 ∷ []) $ drop t $
        rewrite t 0 (λ (s : Z.Denot). ‵ (Z.own_val s vss.1.0)) ea refl $ handle_tells al t a vss.1.0 (λ h eh fits.
        k h (ap only (eu ∙ (λ i. vstruct (of_list ((er ∙ ap (λ (p : Ptr). ptr_val p ∷ []) ep) i ++ (eh i ++ []))) ∷ []))) fits))))

    -- the box's value with the right to free it, and the handle
    pub parts_out : K → (d : Parts.Denot) (vs : List Val)
        → ((b o : ℕ) (h : Val) → d.at ≡ block_ptr b o → vs ≡ both h (vptr b o) ∷ [] → Good (layout Z) h
        → Seq K 𝓛 (‵ (box_owns (g.dealloc_token d.alloc) R (block_ptr b o) d.value) ∷ ‵ (Z.own_val d.alloc (h ∷ [])) ∷ Γ) G)
        → Seq K 𝓛 (‵ (Parts.own_val d vs) ∷ Γ) G
    parts_out t d vs k =
        fsplit t $ fpick t (λ vss. fsplit t $ feq_l t (λ ev. fsplit t $ handle_tells al t d.alloc vss.0 (λ h eh fits. move t (1 ∷ []) $ fsplit t $ feq_l t (λ ep. drop t $ move t (1 ∷ []) $
        in_a_block t d.at (λ p. box_owns (g.dealloc_token d.alloc) R p d.value) (fst∗ 𝓤 (never 𝓤) (sem 𝓛 (g.dealloc_token d.alloc (bare (lone R.mir)) null_ptr))) (λ b o e.
        k b o h e (ev ∙ (λ i. vstruct (of_list (eh i ++ ((ep ∙ ap (λ (p : Ptr). ptr_val p ∷ []) e) i ++ []))) ∷ [])) fits)))))

    pub parts_in : K → (b o : ℕ) (h : Val) (a : Z.Denot) (x : R.Denot)
        → Step K 𝓛 (‵ (Parts.own_val (record { alloc = a; at = block_ptr b o; value = x }) (both h (vptr b o) ∷ [])) ∷ Γ) G
        (‵ (box_owns (g.dealloc_token a) R (block_ptr b o) x) ∷ ‵ (Z.own_val a (h ∷ [])) ∷ Γ) G
    parts_in t b o h a x = step (λ s. let v : Val = both h (vptr b o) in
        nothing t $ feq_i t (List Val) (vptr b o ∷ []) (vptr b o ∷ []) refl $ fjoin t $ move t (2 ∷ 0 ∷ []) $ fjoin t $ feq_i t (List Val) (v ∷ []) (v ∷ []) refl $ fjoin t $
        fpack t (Valss (Z ∷ RawPtr ∷ [])) (within (shape (apart.the_type R Z g)) (a, (block_ptr b o, tt)) (v ∷ [])) (h ∷ [], (vptr b o ∷ [], tt)) $ fjoin t $ s)

-- a struct of one pointer
abbrev pub one_val : Ptr → Val
one_val p = vstruct (vcons (ptr_val p) vnil)

abbrev pub one_own : Ptr → List Val → Fml
one_own p = (Struct (record { name = []; args = []; types = []; fields = RawPtr ∷ [] })).own_val (p, tt)

pub one_told : (p : Ptr) (vs : List Val) → shadow (one_own p vs) → vs ≡ one_val p ∷ []
one_told p vs s = s.1.0 ∙ (λ i. vstruct (of_list (s.1.1.0 i ++ [])) ∷ [])

pub one_made : {M : Type 1} {𝓤 : Ura M} (𝓛 : Logic 𝓤) (p : Ptr) → ent 𝓤 (emp 𝓤) (sem 𝓛 (one_own p (one_val p ∷ [])))
one_made 𝓛 p = makes_shadow 𝓛 (one_own p (one_val p ∷ [])) (λ _. (tt, (tt, tt))) ((ptr_val p ∷ [], tt), (refl, (refl, tt)))

pub some_of : {A : Type 0} {B : Type 1} (o : Option A) → IsSome o → ((x : A) → o ≡ Some x → B) → B
some_of (Some x) s k = k x refl
some_of None s k = absurd (subst (λ (b : Bool). T (not b)) s tt)

-- a signature's slot by its place
abbrev pub slot_at : {n : ℕ} → ℕ → List (Slot n) → Slot n
slot_at k [] = plain (λ _. unit)
slot_at zero (s ∷ ss) = s
slot_at (suc k) (s ∷ ss) = slot_at k ss
