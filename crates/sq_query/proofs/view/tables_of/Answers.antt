-- Left open: what the call of add_of_views asks for, and the clauses meant and none; answered by ReadTables.
use Rattle.std.proofs.Common.{◌≡◌, Result, subst, sym}
use Rattle.std.specs.Prelude.{IfOk}
use Rattle.std.specs.declared.alloc.AllocError.{AllocError}
use Rattle.sq_query.specs.Needed.{AreKnown, NeedsNone}
use Rattle.sq_query.specs.declared.needed.Needed.{Needed}
use Rattle.sq_query.proofs.Needs.ReadTables.{first_read}
use Rattle.sq_query.proofs.view.tables_of.Goals as goal

pub add_of_views-requires-clause-known : goal.add_of_views-requires-clause-known
add_of_views-requires-clause-known g c = subst (λ (r : Result Needed AllocError). IfOk r (AreKnown (g.N.Names.column_kinds c.args.names.now))) c.in_ok-needed.was c.requires.known

pub returns-clause-meant : goal.returns-clause-meant
returns-clause-meant g c = λ domains tables meant.
    let added = c.in_ok-add_of_views.ensures in
    let read = c.tables_at.ensures.meant domains tables meant added.closed in
    (read.0, first_read c.tables_at.result c.args.needed c.in_ok-needed.needed c.add_of_views.new.self tables c.in_ok-needed.was added.more read.1)

pub returns-clause-none : goal.returns-clause-none
returns-clause-none g c = λ none.
    let own = subst (λ (r : Result Needed AllocError). IfOk r NeedsNone) c.in_ok-needed.was none in
    let same : c.add_of_views.new.self ≡ c.in_ok-needed.needed = c.in_ok-add_of_views.ensures.none own.1 in
    c.tables_at.ensures.none (subst NeedsNone (sym same) own)
