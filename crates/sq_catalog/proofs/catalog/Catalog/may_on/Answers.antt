-- Left open for Catalog::may_on: its result; answered by Found and ViewHeld.
use Rattle.std.proofs.Common.{◌&&◌, ap, sym, ◌∙◌}
use Rattle.std.specs.List.{list_any}
use Rattle.sq_meaning.specs.Privileges.{is_on_column}
use Rattle.sq_binding.specs.Catalog.{gives, owns}
use Rattle.sq_catalog.specs.Catalog.{Catalog}
use Rattle.sq_catalog.specs.Exact.{entry_declared, name_in}
use Rattle.sq_catalog.specs.Held.{privilege_of}
use Rattle.sq_catalog.proofs.OneByOne.Found.{first_found, second_found}
use Rattle.sq_catalog.proofs.CreateView.ViewHeld.{entry_names}
use Rattle.sq_catalog.proofs.catalog.Catalog.may_on.Goals as goal

pub returns-then-owner_holds : goal.returns-then-owner_holds
returns-then-owner_holds c =
    let e = entry_declared c.args.name.now c.args.table.now in
    let p = privilege_of c.args.privilege.now in
    first_found _ _ (sym c.if-owner_holds.true ∙ c.owner_holds.ensures ∙ ap (λ names. owns c.args.user (name_in c.args.name.now) e && is_on_column names p) (sym (entry_names c.args.name.now c.args.table.now c.args.self.now.bases c.args.table.now.body c.requires.body))) c.if-owner_holds.true

pub returns-else-owner_holds : goal.returns-else-owner_holds
returns-else-owner_holds c =
    let e = entry_declared c.args.name.now c.args.table.now in
    let p = privilege_of c.args.privilege.now in
    second_found _ _ (sym c.if-owner_holds.false ∙ c.owner_holds.ensures ∙ ap (λ names. owns c.args.user (name_in c.args.name.now) e && is_on_column names p) (sym (entry_names c.args.name.now c.args.table.now c.args.self.now.bases c.args.table.now.body c.requires.body)))
    (c.gives.ensures ∙ ap (λ (s : Catalog). list_any (gives c.args.to_grant c.args.user (name_in c.args.name.now) p) s.grants) c.self.view_is)
