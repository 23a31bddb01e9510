-- Left open for Needed::without_views: its result; answered by InnerSearch.
use Rattle.std.proofs.Common.{not, rules}
use Rattle.std.proofs.lemmas.Fn.{filter_same}
use Rattle.sq_query.specs.ViewItems.{is_shown}
use Rattle.sq_query.proofs.FoundByKey.InnerSearch.{fewer_hidden, kept_hidden}
use Rattle.sq_query.proofs.needed.Needed.without_views.Goals as goal

pub returns : goal.returns
returns c =
    let is = filter_same _ (λ v. not (is_shown v c.args.shown.now)) _ (λ x v f k. search rules) _ _ c.retain.ensures.filtered in
    record { fewer = fewer_hidden c.args.self c.retain.new.self c.args.shown.now is; left = kept_hidden c.args.self c.retain.new.self c.args.shown.now is }
