-- Left open for Needed::add_of_terms: its result, and that the loop keeps its invariant; answered by Added.
use Rattle.std.proofs.Common.{fold, refl}
use Rattle.sq_bound.specs.Condition.{conj_of}
use Rattle.sq_query.specs.Inner.{terms_tables}
use Rattle.sq_query.specs.Needed.{cond_tables, places_in, with_table}
use Rattle.sq_query.proofs.Needs.Added.{added_all, added_more}
use Rattle.sq_query.proofs.needed.Needed.add_of_terms.Goals as goal

pub loop-term-preserved : goal.loop-term-preserved
loop-term-preserved c = λ functions.
    added_more (terms_tables functions) (λ x. cond_tables (conj_of functions x)) (λ x xs. refl) (places_in c.loop-term.self) (places_in c.add_of_tests.new.self) (fold with_table (places_in c.args.self.now) (terms_tables functions c.args.terms.now))
    c.args.terms.now c.loop-term.term-index c.term-item.result c.loop-term-test.true c.term-item.is
    (c.in_ok-add_of_tests.ensures.adds functions) (c.loop-term.invariant functions)

pub returns : goal.returns
returns c = λ functions.
    added_all (terms_tables functions) (λ x. cond_tables (conj_of functions x)) (λ x xs. refl) (places_in c.loop-term.self) (fold with_table (places_in c.args.self.now) (terms_tables functions c.args.terms.now)) c.args.terms.now c.loop-term.term-index refl
    c.loop-term-test.false (c.loop-term.invariant functions)
