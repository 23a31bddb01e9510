-- Left open for read_piece: the clauses read, fault and row; answered by ReadingLemmas, Places and Rows.
use Rattle.std.proofs.Common.{refl, sym, ap, subst, ◌∙◌}
use Rattle.sq_lex.specs.Reading.{followed, IsCause}
use Rattle.sq_lex.proofs.ReadingLemmas.{followed_push}
use Rattle.sq_lex.proofs.Places.{lent, from, from-separator, from-token, from-fault}
use Rattle.sq_lex.proofs.Rows.{after_separator, after_token}
use Rattle.sq_lex.proofs.reading.read_piece.Goals as goal

pub returns-in-Separator-clause-read : goal.returns-in-Separator-clause-read
returns-in-Separator-clause-read c =
    ap (followed c.args.tokens.now.items) (sym (from-separator c.args.text.now c.args.at c.requires _ (lent c.args.text.now c.args.at) _ _ c.in_ok-size.ensures.value c.in-Separator.is c.in_ok-size.ensures.within))

pub returns-in_ok-push-in-Token-clause-read : goal.returns-in_ok-push-in-Token-clause-read
returns-in_ok-push-in-Token-clause-read c =
    followed_push _ _ _ _ _ c.in_ok-push-in-Token.ensures.items (from-token c.args.text.now c.args.at c.requires _ (lent c.args.text.now c.args.at) _ _ _ c.in_ok-size.ensures.value c.in-Token.is c.in_ok-size.ensures.within)

pub returns-in-Fault-clause-fault : goal.returns-in-Fault-clause-fault
returns-in-Fault-clause-fault c =
    subst (IsCause (from c.args.text.now c.args.at)) (sym c.fault_at.ensures)
    (from-fault c.args.text.now c.args.at c.requires _ (lent c.args.text.now c.args.at) _ _ _ c.in_ok-size.ensures.value c.in-Fault.is)

pub returns-in-Separator-clause-row : goal.returns-in-Separator-clause-row
returns-in-Separator-clause-row c =
    after_separator _ _ c.args.at _ _ _ c.in_ok-size.ensures.spelled (sym c.in_ok-size.ensures.value ∙ c.in-Separator.is) refl c.args.text.now (sym (lent c.args.text.now c.args.at))

pub returns-in_ok-push-in-Token-clause-row : goal.returns-in_ok-push-in-Token-clause-row
returns-in_ok-push-in-Token-clause-row c =
    after_token _ _ c.args.at _ _ _ _ _ c.in_ok-size.ensures.spelled (sym c.in_ok-size.ensures.value ∙ c.in-Token.is) refl refl c.in_ok-push-in-Token.ensures.items c.args.text.now (sym (lent c.args.text.now c.args.at))
