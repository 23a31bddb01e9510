-- Left open for admit_procedures: the clause admissible; answered by Places.
use Rattle.std.proofs.Common.{◌∙◌, sym}
use Rattle.sq_meaning.specs.ModuleRefusal.{has_status_fault}
use Rattle.sq_module.specs.Refusal.{has_open_count}
use Rattle.sq_module.proofs.Places.{if_ok, none_passes}
use Rattle.sq_module.proofs.admission.admit_procedures.Goals as goal

pub returns-clause-admissible : goal.returns-clause-admissible
returns-clause-admissible c =
    if_ok c.procedures_of.result (record {
      opened = none_passes (has_open_count c.args.items.now) c.args.items.now (sym c.in_ok-place.ensures ∙ c.in_ok-refused_at.ensures.taken);
      status = none_passes has_status_fault c.args.items.now (sym c.in_ok-place-2.ensures ∙ c.in_ok-refused_at-2.ensures.taken);
    })
