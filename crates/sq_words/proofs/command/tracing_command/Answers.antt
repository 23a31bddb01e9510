-- Left open for tracing_command: the clauses app and local; answered by laws of std.
use Rattle.std.proofs.Common.{◌∙◌, ◌≡◌, ◌||◌, ap, ap₂, false}
use Rattle.std.proofs.lemmas.Result.{IfOk-weaker}
use Rattle.std.specs.Prelude.{codes}
use Rattle.clap.specs.Words.{app_of, new_app, with_rule}
use Rattle.clap.specs.Simple.{app_of_fields}
use Rattle.clap.specs.declared.builder.command.Command.TheViews.{out-Command as fields_of}
use Rattle.sq_words.proofs.command.tracing_command.Goals as goal

pub returns-clause-app : goal.returns-clause-app
returns-clause-app c =
    let new : app_of c.about.result ≡ new_app (codes "trace") = ap app_of_fields c.about.ensures ∙ c.new.ensures.app in
    let one = c.in_ok-arg.ensures.shape c.files_option.ensures.local ∙ ap₂ with_rule new c.files_option.ensures.rule in
    let two = c.in_ok-arg-2.ensures.shape c.files_option-2.ensures.local ∙ ap₂ with_rule one c.files_option-2.ensures.rule in
    let three = c.in_ok-arg-3.ensures.shape c.script_option.ensures.local ∙ ap₂ with_rule two c.script_option.ensures.rule in
    IfOk-weaker c.arg-4.result _ _ (λ command added. added.shape c.rows_option.ensures.local ∙ ap₂ with_rule three c.rows_option.ensures.rule) c.arg-4.ensures

pub returns-clause-local : goal.returns-clause-local
returns-clause-local c =
    let new : (fields_of c.about.result).has_globals ≡ false = ap (λ f. f.has_globals) c.about.ensures ∙ c.new.ensures.local in
    let one = c.in_ok-arg.ensures.globals ∙ ap₂ (λ a b. a || b) new c.files_option.ensures.local in
    let two = c.in_ok-arg-2.ensures.globals ∙ ap₂ (λ a b. a || b) one c.files_option-2.ensures.local in
    let three = c.in_ok-arg-3.ensures.globals ∙ ap₂ (λ a b. a || b) two c.script_option.ensures.local in
    IfOk-weaker c.arg-4.result _ _ (λ command added. added.globals ∙ ap₂ (λ a b. a || b) three c.rows_option.ensures.local) c.arg-4.ensures
