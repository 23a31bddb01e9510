-- Left open for beside_term: its result; answered by InnerSearch.
use Rattle.std.proofs.Common.{◌+◌, ◌-◌, drop, length, refl, take}
use Rattle.sq_bound.specs.Condition.{conj_of}
use Rattle.sq_query.proofs.FoundByKey.InnerSearch.{all_behind, beside_so}
use Rattle.sq_query.proofs.elsewhere.beside_term.Goals as goal

pub returns : goal.returns
returns c = λ functions.
    let terms = c.args.terms.now in
    let number = c.args.number in
    beside_so (conj_of functions) terms number c.args.tables.now c.in_ok-all.all c.add_of_terms.new.self c.add_of_terms-2.new.self c.in_ok-all.ensures (take number terms) (take (length terms - (number + 1)) (drop (number + 1) terms)) refl (all_behind terms (number + 1)) (c.in_ok-add_of_terms.ensures functions)
    (c.in_ok-add_of_terms-2.ensures functions)
