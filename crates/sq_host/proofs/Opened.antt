-- The answers of opening a processor of a host's texts.
use Rattle.std.proofs.Common.{◌≡◌, ℕ, List, Vec, Result, Ok, Err, refl, subst, sym}
use Rattle.std.specs.Prelude.{IsErr}
use Rattle.std.specs.declared.alloc.Global.{Global}
use Rattle.sq_meaning.specs.Machine.{Program, first_state}
use Rattle.sq_run.specs.Answer.{accepted_program}
use Rattle.sq_run.specs.Opens.{IsOfTexts, Opens}
use Rattle.sq_run.specs.Processor.{Machine}
use Rattle.sq_run.specs.Texts.{texts}
use Rattle.sq_run.specs.declared.RunFault.{RunFault}
use Rattle.sq_run.specs.declared.RunFault.TheVariants.{SchemaRefused, ModuleRefused, ScriptRefused, Write, NoMemory}

abbrev Text : Type 0
Text = Vec ℕ Global

is_opened : (answer : Result Program RunFault) (m : Machine) → Opens answer (Ok m) → (answer ≡ Ok m.program) × (m.state ≡ first_state m.program)
unfolding Opens
is_opened answer m h = h

err_is : {A : Type 0} (answer : Result A RunFault) (fault : RunFault) → answer ≡ Err fault → IsErr answer
err_is answer fault e = subst IsErr (sym e) refl

is_refused : (answer : Result Program RunFault) (fault : RunFault) → Opens answer (Err fault) → IsOfTexts fault → IsErr answer
unfolding Opens
is_refused answer (SchemaRefused refusal) h of_texts = err_is answer (SchemaRefused refusal) h
is_refused answer (ModuleRefused refusal) h of_texts = err_is answer (ModuleRefused refusal) h
is_refused answer (ScriptRefused refusal) h of_texts = absurd h
is_refused answer (Write bytes) h of_texts = absurd h
is_refused answer (NoMemory items) h of_texts = absurd of_texts

module _ (row_numbers : ℕ) (schemas modules given_schemas given_modules : List Text) (same_schemas : schemas ≡ given_schemas) (same_modules : modules ≡ given_modules) where
  of_given : (P : Result Program RunFault → Type 0) → P (accepted_program (texts schemas) (texts modules) row_numbers) → P (accepted_program (texts given_schemas) (texts given_modules) row_numbers)
  of_given P h =
      subst (λ s. P (accepted_program (texts s) (texts given_modules) row_numbers)) same_schemas
      (subst (λ m. P (accepted_program (texts schemas) (texts m) row_numbers)) same_modules h)

  pub opened_by : (m : Machine) → Opens (accepted_program (texts schemas) (texts modules) row_numbers) (Ok m)
      → (accepted_program (texts given_schemas) (texts given_modules) row_numbers ≡ Ok m.program) × (m.state ≡ first_state m.program)
  opened_by m h = is_opened (accepted_program (texts given_schemas) (texts given_modules) row_numbers) m (of_given (λ answer. Opens answer (Ok m)) h)

  pub refused_by : (fault : RunFault) → Opens (accepted_program (texts schemas) (texts modules) row_numbers) (Err fault) → IsOfTexts fault
      → IsErr (accepted_program (texts given_schemas) (texts given_modules) row_numbers)
  refused_by fault h of_texts = is_refused (accepted_program (texts given_schemas) (texts given_modules) row_numbers) fault (of_given (λ answer. Opens answer (Err fault)) h) of_texts
