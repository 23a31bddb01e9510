-- A processor opens as its texts come to.
use Rattle.std.proofs.Common.{ℕ, List, Ok, Err, sym, ap, subst, ◌∙◌}
use Rattle.sq_meaning.specs.Report.{Bytes}
use Rattle.sq_perform.specs.Fault.{IsOpeningFault}
use Rattle.sq_perform.specs.declared.refusal.RunFault.{RunFault}
use Rattle.sq_perform.specs.declared.refusal.RunFault.TheVariants.{SchemaRefused, ModuleRefused, ScriptRefused, Write, NoMemory}
use Rattle.sq_run.specs.Answer.{accepted_program}
use Rattle.sq_run.specs.Lawful.{Lawful}
use Rattle.sq_run.specs.Opens.{Opens}
use Rattle.sq_run.specs.Processor.{IsOpened, Machine}
use Rattle.sq_run.proofs.Texts.Answered.{modules_not_opened, schemas_not_opened, texts_opened}
use Rattle.sq_run.proofs.Texts.LawfulTexts.{lawful}

module _ (row_numbers : ℕ) (schemas modules : List Bytes) where
  pub opens : (m : Machine) → IsOpened row_numbers schemas modules m → Opens (accepted_program schemas modules row_numbers) (Ok m)
  unfolding Opens
  opens m is =
      let t = is.texts in (
        texts_opened row_numbers schemas modules t.schema_trees t.module_trees t.schemas_spell t.accepted t.modules_spell t.admitted ∙ ap Ok (sym is.program),
        is.state,
      )

  pub opens_lawful : (m : Machine) → IsOpened row_numbers schemas modules m → Lawful m.program
  opens_lawful m is =
      let t = is.texts in
      subst Lawful (sym is.program) (lawful t.schema_trees t.module_trees row_numbers t.accepted t.admitted)

  pub refuses : (fault : RunFault) → IsOpeningFault schemas modules fault → Opens (accepted_program schemas modules row_numbers) (Err fault)
  unfolding Opens
  refuses (SchemaRefused refusal) h = schemas_not_opened row_numbers schemas modules refusal h.0 h.1
  refuses (ModuleRefused refusal) h = modules_not_opened row_numbers schemas modules refusal h.0 h.1 h.2
  refuses (ScriptRefused refusal) h = absurd h
  refuses (Write bytes) h = absurd h
  refuses (NoMemory items) h = h
