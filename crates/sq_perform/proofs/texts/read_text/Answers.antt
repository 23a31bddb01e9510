-- Left open for read_text: the clause refused; answered by Refused.
use Rattle.std.proofs.Common.{Ok, ap, sym, ◌∙◌}
use Rattle.sq_perform.specs.Fault.{parse_fault}
use Rattle.sq_perform.proofs.Refused.{unparsed}
use Rattle.sq_perform.proofs.texts.read_text.Goals as goal

pub returns-clause-refused : goal.returns-clause-refused
returns-clause-refused g c =
    let T = g.T.TextTree in
    let text = c.args.text.now in
    let tokens = c.as_slice.result.now in
    let same = c.as_slice-in-Err.ensures.value ∙ sym c.as_slice.ensures.value in
    unparsed T.rule T.tokens T.depth c.args.number text tokens c.in-Err.fault c.parse_fault.result
    (c.in_ok-tokens.ensures.read ∙ ap Ok (sym c.as_slice.ensures.value)) c.in-Err.ensures.parsed c.in-Err.ensures.no_tree
    (c.parse_fault.ensures ∙ ap (λ t. parse_fault c.args.number text t c.in-Err.fault) same)
