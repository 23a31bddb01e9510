-- Left open for beside_test: its result; answered by InnerSearch.
use Rattle.std.proofs.Common.{◌+◌, ◌-◌, drop, length, refl, take}
use Rattle.sq_bound.specs.Condition.{test_of}
use Rattle.sq_query.proofs.FoundByKey.InnerSearch.{all_behind, beside_so}
use Rattle.sq_query.proofs.elsewhere.beside_test.Goals as goal

pub returns : goal.returns
returns c = λ functions.
    let tests = c.args.tests.now in
    let number = c.args.number in
    beside_so (test_of functions) tests number c.args.tables.now c.in_ok-all.all c.add_of_each.new.self c.add_of_each-2.new.self c.in_ok-all.ensures (take number tests) (take (length tests - (number + 1)) (drop (number + 1) tests)) refl (all_behind tests (number + 1)) (c.in_ok-add_of_each.ensures functions)
    (c.in_ok-add_of_each-2.ensures functions)
