-- Left open for Needed::without: its result; answered by InnerSearch.
use Rattle.std.proofs.Common.{not, rules}
use Rattle.std.proofs.lemmas.Fn.{filter_same}
use Rattle.sq_query.specs.Items.{is_found}
use Rattle.sq_query.proofs.FoundByKey.InnerSearch.{fewer_left, kept_left, none_left}
use Rattle.sq_query.proofs.needed.Needed.without.Goals as goal

pub returns : goal.returns
returns c =
    let is = filter_same _ (λ b. not (is_found b c.args.found.now)) _ (λ x b f k. search rules) _ _ c.retain.ensures.filtered in
    record { none = none_left c.args.self c.retain.new.self c.args.found.now is; fewer = fewer_left c.args.self c.retain.new.self c.args.found.now is; left = kept_left c.args.self c.retain.new.self c.args.found.now is }
