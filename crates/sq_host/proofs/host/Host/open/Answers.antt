-- Left open for Host::open: the clauses opened and refused; answered by Opened.
use Rattle.sq_host.proofs.Opened.{opened_by, refused_by}
use Rattle.sq_host.proofs.host.Host.open.Goals as goal

pub returns-in-Ok-clause-opened : goal.returns-in-Ok-clause-opened
returns-in-Ok-clause-opened c done =
    let is = opened_by c.args.row_numbers c.as_slice.result.now c.as_slice-2.result.now c.args.self.now.schemas.items c.args.self.now.modules.items
    c.as_slice.ensures.value c.as_slice-2.ensures.value c.in-Ok.processor c.in-Ok.ensures.opened in
    (is.0, is.1, c.in-Ok.ensures.constraints)

pub returns-in-Err-clause-refused : goal.returns-in-Err-clause-refused
returns-in-Err-clause-refused c refused =
    refused_by c.args.row_numbers c.as_slice.result.now c.as_slice-2.result.now c.args.self.now.schemas.items c.args.self.now.modules.items
    c.as_slice.ensures.value c.as_slice-2.ensures.value c.in-Err.fault c.in-Err.ensures.opened (c.refuse.ensures.refused refused)
