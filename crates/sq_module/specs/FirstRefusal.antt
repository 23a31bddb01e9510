-- That a module is refused for the first fault that the definitions find (ISO/IEC 9075:1992, 12.1 to 12.3 and 13.1; the order is an own
-- rule).
use Rattle.std.specs.Prelude.{◌≡◌, ⊤, ℕ, List, [], ◌∷◌, map, position, Option, Some}
use Rattle.sq_tree.specs.declared.module.ModuleItem.{ModuleItem}
use Rattle.sq_meaning.specs.ModuleRefusal.{ModuleRefusal as Refusal, at_item, cursor_name, first_repeated, has_bad_parameter, has_status_fault, procedure_name}
use Rattle.sq_meaning.specs.Words.{first_some}
use Rattle.sq_meaning.specs.declared.refusal.ModuleFault.{ModuleFault}
use Rattle.sq_meaning.specs.declared.refusal.ModuleFault.TheVariants as fault
use Rattle.sq_module.specs.Refusal.{has_open_count}
use Rattle.sq_module.specs.declared.refusal.ModuleRefusal.{ModuleRefusal}
use Rattle.sq_module.specs.declared.refusal.SessionFault.{SessionFault}
use Rattle.sq_module.specs.declared.refusal.SessionFault.TheVariants.{Refused, NoMemory}

-- ---- what is answered

abbrev pub refusal_of : ModuleRefusal → Refusal
refusal_of r = record { text = r.text; item = r.item; fault = r.fault }

-- a refusal is the one that was found, or memory ran out
abbrev pub IsFaultFor : Option Refusal → SessionFault → Type 0
IsFaultFor found NoMemory = ⊤
IsFaultFor found (Refused r) = found ≡ Some (refusal_of r)

-- a fault is this one, of the item at a place in a text, for a reason that holds
abbrev pub IsFaultAt : ℕ → ℕ → ModuleFault → Type 0 → SessionFault → Type 0
IsFaultAt text place why So NoMemory = ⊤
IsFaultAt text place why So (Refused r) =
    (refusal_of r ≡ record { text = text; item = Some place; fault = why }) × So

-- ---- what is looked for

-- the first refusal of the items of a module, behind those for their names
abbrev pub procedure_refusal : ℕ → List ModuleItem → Option Refusal
procedure_refusal text items = first_some (
    at_item text fault.OpenCount (position (has_open_count items) items)
    ∷ at_item text fault.StatusParameter (position has_status_fault items)
    ∷ at_item text fault.BadParameter (position has_bad_parameter items) ∷ [])

-- the first refusal of the items of a module
abbrev pub item_refusal : ℕ → List ModuleItem → Option Refusal
item_refusal text items = first_some (
    at_item text fault.TwoProcedures (first_repeated (map procedure_name items))
    ∷ at_item text fault.TwoCursors (first_repeated (map cursor_name items))
    ∷ procedure_refusal text items ∷ [])
