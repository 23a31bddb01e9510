-- What functions that may refuse an element answer: what the definitions compute. And which text a fault is of.
use Rattle.std.specs.Prelude.{◌≡◌, ◌<◌, ℕ, ⊤, Option, Result, Ok, Err}
use Rattle.sq_meaning.specs.SchemaRefusal as rules
use Rattle.sq_binding.specs.ElementOutcome.{Outcome}
use Rattle.sq_catalog.specs.declared.fault.CatalogFault.{CatalogFault}
use Rattle.sq_catalog.specs.declared.fault.CatalogFault.TheVariants.{Refused, NoMemory}
use Rattle.sq_catalog.specs.declared.fault.ElementFault.{ElementFault}
use Rattle.sq_catalog.specs.declared.fault.ElementFault.TheVariants as element
use Rattle.sq_catalog.specs.declared.fault.SchemaRefusal.{SchemaRefusal}

-- a refusal is the one that is computed; memory may run out at any time
abbrev pub Stops : {B : Type 0} → Outcome B → ElementFault → Type 0
Stops outcome (element.Refused fault) = outcome ≡ Err fault
Stops outcome element.NoMemory = ⊤

-- the answer, seen by an image, is what is computed, or is the refusal that is
abbrev pub Makes : {A B : Type 0} → (A → B) → Outcome B → Result A ElementFault → Type 0
Makes image outcome (Ok x) = outcome ≡ Ok (image x)
Makes image outcome (Err fault) = Stops outcome fault

-- a rule is asked
abbrev pub Passes : {A : Type 0} → Outcome (Unit {0}) → Result A ElementFault → Type 0
Passes outcome result = Makes (λ x. tt) outcome result

-- the refusal, as the definitions see it
abbrev pub refusal_seen : SchemaRefusal → rules.SchemaRefusal
refusal_seen r = record { text = r.text; schema = r.schema; element = r.element; fault = r.name.fault }

-- a fault of an element with the element's place
abbrev pub placed : ElementFault → ℕ → ℕ → Option ℕ → CatalogFault
placed (element.Refused f) text schema number =
    Refused (record { name = record { fault = f }; text = text; schema = schema; element = number })
placed element.NoMemory text schema number = NoMemory

-- the text of this number is refused
abbrev pub IsOfText : ℕ → CatalogFault → Type 0
IsOfText text NoMemory = ⊤
IsOfText text (Refused refusal) = refusal.text ≡ text

-- the text that is refused is one of this many
abbrev pub IsOfSomeText : ℕ → CatalogFault → Type 0
IsOfSomeText count NoMemory = ⊤
IsOfSomeText count (Refused refusal) = refusal.text < count
