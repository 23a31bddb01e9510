-- A struct without fields owns nothing. Assumes `Logic`.
use Rattle.std.proofs.Common.{ℕ, zero, suc, List, [], ◌∷◌, refl}
use seplogic.Ra.Ura.{Ura}
use mir.Val.{Val, vstruct, vnil}
use types.Logic.{Logic}
use types.Kit.{Goal, Step, step, Item, ‵, ◌$◌, fjoin, fpack, feq_i}
use denote.RattleType.{RattleType, Valss}
use denote.Builtin.{unit}
use denote.Signature.{Slot, plain}
use denote.Steps.{nothing}
use denote.Struct.Struct.{Struct, within}

abbrev pub empty : Val
empty = vstruct vnil

abbrev pub without_fields : RattleType
without_fields = Struct (record { name = []; args = []; types = []; fields = [] })

pub empty_owned : {M : Type 1} {𝓤 : Ura M} {𝓛 : Logic 𝓤} {K : Type 0} {Γ : List (Item 𝓤)} {G : Goal 𝓤 𝓛.H} → K
    → Step K 𝓛 (‵ (without_fields.own_val tt (empty ∷ [])) ∷ Γ) G Γ G
empty_owned t = step (λ s.
    nothing t $ feq_i t (List Val) (empty ∷ []) (empty ∷ []) refl $ fjoin t $
    fpack t (Valss []) (within (record { name = []; args = []; types = []; fields = [] }) tt (empty ∷ [])) tt $ s)

-- a signature's slot by its place
abbrev pub slot_at : {n : ℕ} → ℕ → List (Slot n) → Slot n
slot_at k [] = plain (λ _. unit)
slot_at zero (s ∷ ss) = s
slot_at (suc k) (s ∷ ss) = slot_at k ss
