-- Left open for is_among: its result; answered by Listed.
use Rattle.std.proofs.Common.{◌∙◌}
use Rattle.std.specs.Str.{bytes_eq}
use Rattle.sq_bindings.proofs.Listed.{any_listed}
use Rattle.sq_bindings.proofs.names.is_among.Goals as goal

pub returns : goal.returns
returns c = c.has_word.ensures ∙ any_listed (λ w. bytes_eq w c.args.text.now) c.args.words.now
