-- Left open for test_command: the clauses app and local; answered by laws of std.
use Rattle.std.proofs.Common.{◌∙◌, ◌||◌, ap₂}
use Rattle.std.proofs.lemmas.Result.{IfOk-weaker}
use Rattle.clap.specs.Words.{with_rule}
use Rattle.sq_words.proofs.command.test_command.Goals as goal

pub returns-clause-app : goal.returns-clause-app
returns-clause-app c =
    let new = c.in_ok-selecting_command.ensures.app in
    let one = c.in_ok-arg.ensures.shape c.value_option.ensures.local ∙ ap₂ with_rule new c.value_option.ensures.rule in
    let two = c.in_ok-arg-2.ensures.shape c.flag_option.ensures.local ∙ ap₂ with_rule one c.flag_option.ensures.rule in
    let update = c.flag_option-2.ensures in
    IfOk-weaker c.arg-3.result _ _ (λ command added. added.shape update.local ∙ ap₂ with_rule two update.rule) c.arg-3.ensures

pub returns-clause-local : goal.returns-clause-local
returns-clause-local c =
    let new = c.in_ok-selecting_command.ensures.local in
    let one = c.in_ok-arg.ensures.globals ∙ ap₂ (λ a b. a || b) new c.value_option.ensures.local in
    let two = c.in_ok-arg-2.ensures.globals ∙ ap₂ (λ a b. a || b) one c.flag_option.ensures.local in
    IfOk-weaker c.arg-3.result _ _ (λ command added. added.globals ∙ ap₂ (λ a b. a || b) two c.flag_option-2.ensures.local) c.arg-3.ensures
