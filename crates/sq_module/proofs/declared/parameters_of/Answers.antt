-- Left open for parameters_of: the clause bad; answered by Parameters and Repeats.
use Rattle.std.proofs.Common.{◌∙◌, ◌++◌, ap, arith, flat_map, length, map, refl, sym}
use Rattle.std.specs.Prelude.{filter_map}
use Rattle.sq_value.proofs.Truths.{or_true}
use Rattle.sq_meaning.specs.Module.{declared_in}
use Rattle.sq_module.specs.Written.{named_as, named_in}
use Rattle.sq_module.proofs.Parameters.{are_bad, bad_declared, counted, few, many}
use Rattle.sq_module.proofs.Repeats.{not_so, so}
use Rattle.sq_module.proofs.declared.parameters_of.Goals.{else-are_in_order-via-then-are_in_order+else-len-le-MOST_PARAMETERS, else-are_in_order-via-else-are_in_order}
use Rattle.sq_module.proofs.declared.parameters_of.Goals as goal

pub returns-then-len-le-MOST_PARAMETERS-clause-bad : goal.returns-then-len-le-MOST_PARAMETERS-clause-bad
returns-then-len-le-MOST_PARAMETERS-clause-bad c =
    let declarations = c.args.declarations.now in
    let declared = filter_map declared_in declarations in
    let parameters = c.are_added-added.new.parameters in
    let count = counted parameters declarations (c.in-Ok.ensures.added c.if-are_in_order.true ∙ ap (λ l. map named_as l ++ flat_map named_in declarations) c.new-parameters.ensures) in
    let none = not_so _ _ c.in-Ok.ensures.bad c.if-are_in_order.true in
    sym (bad_declared declared _ _ none (few (length parameters) (length declared) count (omega (arith, c.len.ensures, c.if-len-le-MOST_PARAMETERS.true))))

pub returns-else-are_in_order-clause-bad : goal.returns-else-are_in_order-clause-bad
returns-else-are_in_order-clause-bad c =
    let declarations = c.args.declarations.now in
    let declared = filter_map declared_in declarations in
    let parameters = c.are_added-added.new.parameters in
    elim c.else-are_in_order.branch [
      | else-are_in_order-via-then-are_in_order+else-len-le-MOST_PARAMETERS w ↦
          let count = counted parameters declarations (c.in-Ok.ensures.added w.if-are_in_order.true ∙ ap (λ l. map named_as l ++ flat_map named_in declarations) c.new-parameters.ensures) in
          sym (bad_declared declared (are_bad declared) _ refl (many (length parameters) (length declared) count (omega (arith, w.len.ensures, w.if-len-le-MOST_PARAMETERS.false))) ∙ or_true (are_bad declared))
      | else-are_in_order-via-else-are_in_order w ↦ sym (bad_declared declared _ _ (so _ _ c.in-Ok.ensures.bad w.if-are_in_order.false) refl)
    ]
