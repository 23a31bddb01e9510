-- Left open for only_table: the clause table; answered by Updatables.
use Rattle.std.proofs.Common.{Bool, Bor, List, None, sym, ap, ◌∙◌}
use Rattle.std.specs.Option.{option_and_then, option_map}
use Rattle.std.specs.Prelude.{if◌then◌else◌}
use Rattle.sq_tree.specs.declared.cond.TableReference.{TableReference as SpelledReference}
use Rattle.sq_meaning.specs.Environment.{TableReference}
use Rattle.sq_meaning.specs.Spelled.{reference_of, select_of}
use Rattle.sq_binding.specs.Changeable.{from_of, may_be_changed, only_one}
use Rattle.sq_binder.specs.Names.{user_names}
use Rattle.sq_binder.proofs.Changes.Updatables.{from_is}
use Rattle.sq_binder.proofs.updatable.only_table.Goals as goal

pub returns-in-Some-clause-table : goal.returns-in-Some-clause-table
returns-in-Some-clause-table g c =
    let own = c.args.own in
    let names = user_names own (g.T.Tables.named c.args.tables.now) (g.T.ChangeableTables.changes c.args.tables.now) in
    c.may_be_changed.ensures.table
    ∙ sym (ap (λ (b : Bool). if b then option_and_then (may_be_changed names) (only_one (from_of (select_of own c.args.query.now))) else None) (sym c.has_plain_rows.ensures ∙ c.if-not-has_plain_rows.false)
    ∙ ap (λ (l : List TableReference). option_and_then (may_be_changed names) (only_one l)) (from_is own c.args.query.now)
    ∙ ap (option_and_then (may_be_changed names)) (sym (c.only_one.ensures own) ∙ ap (option_map (λ (r : Bor SpelledReference). reference_of own r.now)) c.in-Some.is))

pub returns-in-None-clause-table : goal.returns-in-None-clause-table
returns-in-None-clause-table g c =
    let own = c.args.own in
    let names = user_names own (g.T.Tables.named c.args.tables.now) (g.T.ChangeableTables.changes c.args.tables.now) in
    sym (ap (λ (b : Bool). if b then option_and_then (may_be_changed names) (only_one (from_of (select_of own c.args.query.now))) else None) (sym c.has_plain_rows.ensures ∙ c.if-not-has_plain_rows.false)
    ∙ ap (λ (l : List TableReference). option_and_then (may_be_changed names) (only_one l)) (from_is own c.args.query.now)
    ∙ ap (option_and_then (may_be_changed names)) (sym (c.only_one.ensures own) ∙ ap (option_map (λ (r : Bor SpelledReference). reference_of own r.now)) c.in-None.is))
