-- Left open for Needed::contains: the clauses yes and no; answered without a law.
use Rattle.std.proofs.Common.{◌∙◌, ap, nat_eq, subst, sym, true≢false}
use Rattle.std.specs.List.{list_any}
use Rattle.sq_query.specs.Needed.{IsNeeded}
use Rattle.sq_query.proofs.needed.Needed.contains.Goals as goal

pub returns-in-Base-clause-yes : goal.returns-in-Base-clause-yes
returns-in-Base-clause-yes c = λ is.
    subst (IsNeeded c.args.self.now) (sym c.in-Base.is) (ap (list_any (λ other. nat_eq other c.in-Base.place)) (sym c.as_slice.ensures.value) ∙ sym c.is_among.ensures ∙ is)

pub returns-in-Base-clause-no : goal.returns-in-Base-clause-no
returns-in-Base-clause-no c = λ is here.
    true≢false (sym (subst (IsNeeded c.args.self.now) c.in-Base.is here) ∙ ap (list_any (λ other. nat_eq other c.in-Base.place)) (sym c.as_slice.ensures.value) ∙ sym c.is_among.ensures ∙ is)

pub returns-in-View-clause-yes : goal.returns-in-View-clause-yes
returns-in-View-clause-yes c = λ is.
    subst (IsNeeded c.args.self.now) (sym c.in-View.is) (ap (list_any (λ other. nat_eq other c.in-View.place)) (sym c.as_slice-in-View.ensures.value) ∙ sym c.is_among-in-View.ensures ∙ is)

pub returns-in-View-clause-no : goal.returns-in-View-clause-no
returns-in-View-clause-no c = λ is here.
    true≢false (sym (subst (IsNeeded c.args.self.now) c.in-View.is here) ∙ ap (list_any (λ other. nat_eq other c.in-View.place)) (sym c.as_slice-in-View.ensures.value) ∙ sym c.is_among-in-View.ensures ∙ is)
