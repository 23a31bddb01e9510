-- Left open: the clauses written, listed, new, keys and repeated; answered by Listed, Names and others.
use Rattle.std.proofs.Common.{◌≡◌, ◌∷◌, [], ◌++◌, ◌∙◌, ap, false, refl, subst, sym, true}
use Rattle.std.proofs.lemmas.Map.Made.{is_some-lookup}
use Rattle.std.specs.List.{AllByRecursion, list_any}
use Rattle.std.specs.Map.{keys_of}
use Rattle.std.specs.Prelude.{if◌then◌else◌, is_some}
use Rattle.sq_meaning.specs.Environment.{same_name}
use Rattle.sq_meaning.specs.declared.refusal.ModuleFault.TheVariants as fault
use Rattle.sq_binding.proofs.Placing.SameParameters.{names_equal}
use Rattle.sq_module.specs.Written.{IsCursorIn}
use Rattle.sq_module.proofs.Listed.{cursor_listed}
use Rattle.sq_module.proofs.Names.{keys_insert}
use Rattle.sq_module.proofs.Refused.{fault_there}
use Rattle.sq_module.proofs.Written.{all_entries}
use Rattle.sq_module.proofs.items.add_cursor.Goals as goal

pub returns-in-Ok-None-clause-written : goal.returns-in-Ok-None-clause-written
returns-in-Ok-None-clause-written c =
    λ items there all.
    subst (AllByRecursion (IsCursorIn items)) (sym c.in-Ok-None.ensures.entries)
    (all_entries same_name (IsCursorIn items) c.args.cursors.now.entries c.args.cursor.now.name c.args.cursor (λ q same. (there, sym (names_equal c.args.cursor.now.name q same))) (there, refl) all)

pub returns-in-Ok-None-clause-listed : goal.returns-in-Ok-None-clause-listed
returns-in-Ok-None-clause-listed c =
    cursor_listed c.args.cursors.now.entries _ c.args.cursor.now.name c.args.cursor (sym c.in-Ok-None.ensures.old ∙ c.in-Ok-None.field-0-is) c.in-Ok-None.ensures.entries

pub returns-in-Ok-None-clause-new : goal.returns-in-Ok-None-clause-new
returns-in-Ok-None-clause-new c = sym (is_some-lookup (same_name c.args.cursor.now.name) c.args.cursors.now.entries) ∙ ap is_some (sym c.in-Ok-None.ensures.old ∙ c.in-Ok-None.field-0-is)

pub returns-in-Ok-None-clause-keys : goal.returns-in-Ok-None-clause-keys
returns-in-Ok-None-clause-keys c =
    let name = c.args.cursor.now.name in
    let keys = keys_of c.args.cursors.now.entries in
    let new : list_any (same_name name) keys ≡ false = sym (is_some-lookup (same_name name) c.args.cursors.now.entries) ∙ ap is_some (sym c.in-Ok-None.ensures.old ∙ c.in-Ok-None.field-0-is) in
    ap keys_of c.in-Ok-None.ensures.entries ∙ keys_insert same_name c.args.cursors.now.entries name c.args.cursor ∙ ap (λ b. if b then keys else keys ++ name ∷ []) new

pub returns-in-Ok-Some-clause-repeated : goal.returns-in-Ok-Some-clause-repeated
returns-in-Ok-Some-clause-repeated c =
    fault_there c.args.text c.args.place fault.TwoCursors (list_any (same_name c.args.cursor.now.name) (keys_of c.args.cursors.now.entries) ≡ true) c.refusal_at.result c.refusal_at.ensures.is
    (sym (is_some-lookup (same_name c.args.cursor.now.name) c.args.cursors.now.entries) ∙ ap is_some (sym c.in-Ok-Some.ensures.old ∙ c.in-Ok-Some.field-0-is))
