-- Left open for Session::procedure: its result; answered by Named.
use Rattle.std.proofs.Common.{ap, sym, ◌∙◌}
use Rattle.sq_session.specs.Session.{procedure_number}
use Rattle.sq_session.proofs.Calls.Named.{number_is}
use Rattle.sq_session.proofs.session.Session.procedure.Goals as goal

pub returns : goal.returns
returns g c =
    let entries = c.self.inside.program.procedures.entries in
    c.get_index_of.ensures.index ∙ sym (number_is c.self.inside.program.cursors.items c.args.«module» c.args.name entries) ∙ ap (λ s. procedure_number s.procedures c.args.«module» c.args.name) c.self.view_is
