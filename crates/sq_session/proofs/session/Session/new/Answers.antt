-- Left open: the clauses start, numbers, procedures and written; answered by Closed, Named and Over.
use Rattle.std.proofs.Common.{ap, length, subst, sym, true, ◌∙◌, ◌≡◌}
use Rattle.sq_session.specs.Cursors.{are_over}
use Rattle.sq_session.specs.Session.{names_of}
use Rattle.sq_session.specs.State.{AreClosed, State}
use Rattle.sq_session.proofs.OpenCursors.Closed.{replicated_closed}
use Rattle.sq_session.proofs.Calls.Named.{names_are, of_modules}
use Rattle.sq_session.proofs.OpenCursors.Over.{start_over}
use Rattle.sq_session.proofs.session.Session.new.Goals as goal

pub returns-in_ok-with_program-in-Ok-clause-start : goal.returns-in_ok-with_program-in-Ok-clause-start
returns-in_ok-with_program-in-Ok-clause-start g c =
    let made = c.in_ok-with_program-in-Ok.ensures in
    let closed = subst (λ (s : State). AreClosed s.cursors) (sym made.state) (replicated_closed (length c.in-Ok.program.cursors.items)) in
    (ap (λ (s : State). s.tables) made.state, ap (λ (s : State). s.committed) made.state, closed)

pub returns-in_ok-with_program-in-Ok-clause-numbers : goal.returns-in_ok-with_program-in-Ok-clause-numbers
returns-in_ok-with_program-in-Ok-clause-numbers g c =
    ap (λ (s : State). s.row_numbers) c.in_ok-with_program-in-Ok.ensures.state

pub returns-in_ok-with_program-in-Ok-clause-procedures : goal.returns-in_ok-with_program-in-Ok-clause-procedures
returns-in_ok-with_program-in-Ok-clause-procedures g c =
    let program = c.in-Ok.program in
    ap names_of c.in_ok-with_program-in-Ok.ensures.procedures ∙ names_are program.cursors.items program.procedures.entries ∙ c.in-Ok.ensures.procedures

pub returns-in_ok-with_program-in-Ok-clause-written : goal.returns-in_ok-with_program-in-Ok-clause-written
returns-in_ok-with_program-in-Ok-clause-written g c =
    let made = c.in_ok-with_program-in-Ok.ensures in
    let cursors = c.in-Ok.program.cursors.items in
    let over = subst (λ (s : State). are_over cursors s.cursors ≡ true) (sym made.state) (start_over cursors) in
    of_modules c.args.catalog c.args.modules.now c.in-Ok.program c.in_ok-with_program-in-Ok.field-0
    c.in-Ok.ensures.written c.in-Ok.ensures.computed c.in-Ok.ensures.fits c.in-Ok.ensures.well_formed made.schemas made.procedures over (ap (λ (s : State). s.keys) made.state ∙ c.requires.keys)
