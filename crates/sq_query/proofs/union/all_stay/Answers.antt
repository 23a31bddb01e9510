-- Left open for all_stay: its result; answered by BroughtRows.
use Rattle.std.proofs.Common.{◌≡◌, length, true, rules, sym, ◌∙◌}
use Rattle.std.proofs.lemmas.Iterator.{YieldsList-from_slice, YieldsList-from_zip}
use Rattle.std.proofs.lemmas.Iterator.Search.{all_from_yields_List}
use Rattle.sq_query.specs.Union.{stays}
use Rattle.sq_query.proofs.ByUnion.BroughtRows.{pairs_stay}
use Rattle.sq_query.proofs.union.all_stay.Goals as goal

pub returns-then-before-columns : goal.returns-then-before-columns
returns-then-before-columns c = λ h.
    let before = c.args.before.now in
    let columns = c.args.columns.now in
    let same : length before ≡ length columns = search rules in
    let holds : c.all.result ≡ true = search rules in
    let pairs = YieldsList-from_zip (YieldsList-from_slice before (search rules)) (YieldsList-from_slice columns (search rules)) in
    let all = all_from_yields_List (λ p. stays p.0.kind p.1.kind) c.all.new.self _ c.all.result c.all.ensures.ran pairs (λ x b q k. search rules) in
    pairs_stay before columns same (sym all ∙ holds)
