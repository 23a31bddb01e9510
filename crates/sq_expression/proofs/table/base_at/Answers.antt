-- Left open for base_at: its result; answered by laws of std.
use Rattle.std.proofs.Common.{◌≡◌, ap, sym, ◌∙◌, rules}
use Rattle.std.proofs.lemmas.Iterator.{YieldsList-from_slice}
use Rattle.std.proofs.lemmas.Iterator.Search.{find_from_yields_List}
use Rattle.std.specs.Prelude.{find, nat_eq, Option}
use Rattle.std.specs.Option.{option_map}
use Rattle.std.specs.Borrow.{Bor}
use borrow.Author.Tests.{tests}
use Rattle.sq_meaning.specs.Status.{well_formed}
use Rattle.sq_expression.specs.declared.table.BaseRows.{BaseRows}
use Rattle.sq_expression.proofs.table.base_at.Goals as goal

pub returns-in-Some : goal.returns-in-Some
returns-in-Some c =
    let test = λ (b : BaseRows). nat_eq b.place c.args.place in
    let found : option_map (λ x. x.now) c.find.result ≡ find test c.args.context.now.bases.now =
    find_from_yields_List test _ _ c.find.result c.find.ensures.ran (YieldsList-from_slice c.args.context.now.bases.now c.iter.ensures.rest) (λ x b q k. search (rules, tests)) in
    ap well_formed (sym found ∙ ap (λ (o : Option (Bor BaseRows)). option_map (λ x. x.now) o) c.in-Some.is)

pub returns-in-None : goal.returns-in-None
returns-in-None c =
    let test = λ (b : BaseRows). nat_eq b.place c.args.place in
    let found : option_map (λ x. x.now) c.find.result ≡ find test c.args.context.now.bases.now =
    find_from_yields_List test _ _ c.find.result c.find.ensures.ran (YieldsList-from_slice c.args.context.now.bases.now c.iter.ensures.rest) (λ x b q k. search (rules, tests)) in
    ap well_formed (sym found ∙ ap (λ (o : Option (Bor BaseRows)). option_map (λ x. x.now) o) c.in-None.is)
