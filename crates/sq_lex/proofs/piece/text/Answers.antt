-- Left open: what the call of closed asks for, and the clause value; answered by LiteralLemmas and Quoted.
use Rattle.std.proofs.Common.{◌≡◌, ◌-◌, ◌∙◌, ap, sym, subst, length, take, drop, IfOk}
use Rattle.sq_lex.specs.Literal.{kept, literal}
use Rattle.sq_lex.specs.Piece.{piece_of_literal, text}
use Rattle.sq_lex.proofs.LiteralLemmas.{after_first, piece_of_kept}
use Rattle.sq_lex.proofs.Quoted.{kept_print}
use Rattle.sq_lex.proofs.piece.text.Goals as goal

pub returns-in-Closed-clause-value : goal.returns-in-Closed-clause-value
unfolding text
returns-in-Closed-clause-value c =
    let rest : take (length c.args.bytes.now - 1) (drop 1 c.args.bytes.now) ≡ drop 1 c.args.bytes.now = after_first c.args.bytes.now in
    subst (λ p. IfOk c.closed.result (λ piece. piece ≡ p))
    (ap piece_of_literal (sym c.in-Closed.is ∙ c.in_ok-characters.ensures.value ∙ ap (λ bs. kept (literal bs)) rest) ∙ piece_of_kept (literal (drop 1 c.args.bytes.now))) c.closed.ensures

pub closed-requires-clause-printable : goal.closed-requires-clause-printable
closed-requires-clause-printable c =
    let rest : take (length c.args.bytes.now - 1) (drop 1 c.args.bytes.now) ≡ drop 1 c.args.bytes.now = after_first c.args.bytes.now in
    kept_print (drop 1 c.args.bytes.now) _ _ (sym c.in-Closed.is ∙ c.in_ok-characters.ensures.value ∙ ap (λ bs. kept (literal bs)) rest)
