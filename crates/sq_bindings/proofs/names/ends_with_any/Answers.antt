-- Left open for ends_with_any: its result; answered by Listed.
use Rattle.std.proofs.Common.{◌∙◌}
use Rattle.std.specs.List.{ends_with}
use Rattle.std.specs.Prelude.{nat_eq}
use Rattle.sq_bindings.proofs.Listed.{any_listed}
use Rattle.sq_bindings.proofs.names.ends_with_any.Goals as goal

pub returns : goal.returns
returns c = c.has_end.ensures ∙ any_listed (λ w. ends_with nat_eq c.args.text.now w) c.args.words.now
