-- Left open for bind_pattern: its result; answered by Finds.
use Rattle.std.specs.Option.{option_map}
use Rattle.sq_meaning.specs.Spelled.{expr_of}
use Rattle.sq_binding.specs.Condition.{escape_bound, text}
use Rattle.sq_binding.specs.Seen.{numbered_of}
use Rattle.sq_binder.specs.Surroundings.{surroundings}
use Rattle.sq_binder.proofs.OneByOne.Finds.{pairs_found}
use Rattle.sq_binder.proofs.predicate.bind_pattern.Goals as goal

pub returns : goal.returns
returns g c =
    let a = surroundings g.T.Tables.named c.args.at.now in
    pairs_found numbered_of (option_map numbered_of) (text a (expr_of c.args.pattern.now)) (λ x. escape_bound a (option_map expr_of c.args.character.now)) c.args.before
    c.in_ok-pattern.pattern c.bind_escape-character.result c.pair_parts.result c.in_ok-pattern.ensures c.bind_escape-character.ensures c.pair_parts.ensures
