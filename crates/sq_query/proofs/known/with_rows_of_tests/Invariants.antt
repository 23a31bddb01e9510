use Rattle.std.proofs.Common.{false, take, ◌≡◌}
use Rattle.std.specs.List.{AllByRecursion}
use Rattle.sq_query.specs.Known.{ServesOutside}
use Rattle.sq_query.proofs.known.with_rows_of_tests.Given as goal

abbrev pub invariant-loop-test : goal.invariant-loop-test
invariant-loop-test g l =
    ServesOutside l.query (g.S.Store.content_now l.store) (g.S.Store.key_columns l.store) l.call.parameters.now l.call.user l.fn.before.items l.found.items
    × AllByRecursion (λ test. test.can_fail ≡ false) (take l.test-index l.tests)
