-- Left open for explain_command: the clauses app and local; answered by laws of std.
use Rattle.std.proofs.Common.{◌∙◌, ◌≡◌, ◌||◌, ap, ap₂, false}
use Rattle.std.proofs.lemmas.Result.{IfOk-weaker}
use Rattle.std.specs.Prelude.{codes}
use Rattle.clap.specs.Words.{app_of, new_app, with_rule}
use Rattle.clap.specs.Simple.{app_of_fields}
use Rattle.clap.specs.declared.builder.command.Command.TheViews.{out-Command as fields_of}
use Rattle.sq_words.proofs.command.explain_command.Goals as goal

pub returns-clause-app : goal.returns-clause-app
returns-clause-app c =
    let new : app_of c.about.result ≡ new_app (codes "explain") = ap app_of_fields c.about.ensures ∙ c.new.ensures.app in
    let name = c.name_argument.ensures in
    IfOk-weaker c.arg.result _ _ (λ command added. added.shape name.local ∙ ap₂ with_rule new name.rule) c.arg.ensures

pub returns-clause-local : goal.returns-clause-local
returns-clause-local c =
    let new : (fields_of c.about.result).has_globals ≡ false = ap (λ f. f.has_globals) c.about.ensures ∙ c.new.ensures.local in
    IfOk-weaker c.arg.result _ _ (λ command added. added.globals ∙ ap₂ (λ a b. a || b) new c.name_argument.ensures.local) c.arg.ensures
