-- Left open for is_of_references: its result; answered by laws of std.
use Rattle.std.proofs.Common.{Bool, map, sym, ap, ◌∙◌}
use Rattle.std.proofs.lemmas.List.Folds.{list_all-map}
use Rattle.std.specs.List.{list_all}
use Rattle.std.specs.Prelude.{◌&&◌}
use Rattle.sq_meaning.specs.Spelled.{expr_of, list_of}
use Rattle.sq_binding.specs.Changeable.{is_of_references, is_reference}
use Rattle.sq_binder.proofs.updatable.is_of_references.Goals as goal

pub returns-then-is_reference : goal.returns-then-is_reference
returns-then-is_reference c =
    let list = c.in-Items.list in
    c.are_references.ensures ∙ ap (list_all (λ e. is_reference (expr_of e))) c.as_slice.ensures
    ∙ sym (list_all-map is_reference expr_of list.rest)
    ∙ ap (λ (b : Bool). b && list_all is_reference (map expr_of list.rest)) (sym (sym c.is_reference.ensures ∙ c.if-is_reference.true))
    ∙ ap (λ l. is_of_references (list_of l)) (sym c.in-Items.is)
