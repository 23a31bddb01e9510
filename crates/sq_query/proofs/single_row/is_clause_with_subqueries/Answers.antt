-- Left open for is_clause_with_subqueries: the clauses plain and none; answered by Added and NoSubquery.
use Rattle.std.proofs.Common.{◌≡◌, Bool, true, false, refl}
use Rattle.std.specs.Prelude.{not}
use Rattle.sq_bound.specs.Condition.{clause_of}
use Rattle.sq_query.specs.Needed.{clause_tables}
use Rattle.sq_query.proofs.Needs.Added.{none_added}
use Rattle.sq_query.proofs.Needs.NoSubquery.{clause_plain, none_left}
use Rattle.sq_query.proofs.single_row.is_clause_with_subqueries.Goals as goal

is_so : (b : Bool) → not b ≡ false → b ≡ true
is_so true is = refl
is_so false is = cc

none_so : (b : Bool) → (b ≡ false → ⊥) → not b ≡ false
none_so true some = refl
none_so false some = absurd (some refl)

pub returns-clause-plain : goal.returns-clause-plain
returns-clause-plain c = λ is functions.
    let clause = c.args.condition.now in
    clause_plain functions clause
    (none_left c.new-inside.result c.add_of_optional.new.self (clause_tables (clause_of functions clause)) (c.is_empty.ensures.none (is_so c.is_empty.result is)) (c.in_ok-add_of_optional.ensures.adds functions))

pub returns-clause-none : goal.returns-clause-none
returns-clause-none c = λ functions none.
    none_so c.is_empty.result (λ is. c.is_empty.ensures.some is
    (none_added c.new-inside.result c.add_of_optional.new.self (clause_tables (clause_of functions c.args.condition.now)) c.new-inside.ensures none (c.in_ok-add_of_optional.ensures.adds functions)))
