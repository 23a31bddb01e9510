-- Left open for has_plain_rows: its result; answered by Updatables.
use Rattle.sq_binder.proofs.Changes.Updatables.{grouped_plain, ungrouped_plain}
use Rattle.sq_binder.proofs.updatable.has_plain_rows.Goals as goal

pub returns-in-None : goal.returns-in-None
returns-in-None c = ungrouped_plain c.args.bound.now c.in-None.is

pub returns-in-Some : goal.returns-in-Some
returns-in-Some c = grouped_plain c.args.bound.now _ c.in-Some.is
