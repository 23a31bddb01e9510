-- The contract of a function that binds: it answers what the definition computes, seen by an image, unless memory ran out.
use Rattle.std.specs.Prelude.{⊤, ◌≡◌, None, Some, Result, Ok, Err}
use Rattle.sq_lex.specs.declared.name.Name.{Name}
use Rattle.sq_meaning.specs.declared.fault.BindingFault.{BindingFault}
use Rattle.sq_binding.specs.Outcome.{Outcome}
use Rattle.sq_binder.specs.declared.stop.Stop.{Stop}
use Rattle.sq_binder.specs.declared.stop.Stop.TheVariants.{Fault, NoMemory}

-- a rule is broken, and no name is at fault
abbrev pub broken : BindingFault → Stop
broken rule = Fault (record { rule = rule; about = None })

abbrev pub about : BindingFault → Name → Stop
about rule name = Fault (record { rule = rule; about = Some name })

-- a fault breaks the rule that the definition finds broken; the name at fault is left open
abbrev pub Stops : {A : Type 0} → Outcome A → Stop → Type 0
Stops outcome NoMemory = ⊤
Stops outcome (Fault fault) = outcome ≡ Err fault.rule

abbrev pub Binds : {A B : Type 0} → (image : B → A) → Outcome A → Result B Stop → Type 0
Binds image outcome (Ok x) = outcome ≡ Ok (image x)
Binds image outcome (Err stop) = Stops outcome stop
