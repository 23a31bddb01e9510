-- Left open for Program::add_opened: the clause opened; answered by Added, Named, Openers and Opening.
use Rattle.std.proofs.Common.{◌∙◌, ap, refl, sym, take}
use Rattle.std.specs.Borrow.{Bor}
use Rattle.std.specs.Option.{option_map}
use Rattle.sq_catalog.specs.UserTables.{names_in}
use Rattle.sq_tree.specs.declared.module.Cursor.{Cursor}
use Rattle.sq_module.specs.Refusal.{opened_by}
use Rattle.sq_module.proofs.Added.{opened_next, opened_same}
use Rattle.sq_module.proofs.Named.{named_absent, named_in_text, named_none}
use Rattle.sq_module.proofs.Openers.{on_both}
use Rattle.sq_module.proofs.Opening.{opens_nothing}
use Rattle.sq_module.proofs.program.Program.add_opened.Goals as goal

pub returns-in_default-clause-opened : goal.returns-in_default-clause-opened
returns-in_default-clause-opened c =
    λ place others at h.
    opened_same c.args.catalog.now c.args.«module».now others place c.args.opener.now at _ _ _ _ refl h refl refl
    (λ t of are. named_none (names_in c.args.catalog.now t.authorization) t (take place c.args.«module».now.procedures.items) c.args.opener.now _ _ (opens_nothing c.args.opener.now.procedure.now.statement c.in_default.not-Open) are)

pub returns-in-None-clause-opened : goal.returns-in-None-clause-opened
returns-in-None-clause-opened c =
    λ place others at h.
    let m = c.args.«module».now in
    let name = c.in-Open.name in
    opened_same c.args.catalog.now m others place c.args.opener.now at _ _ _ _ refl h refl refl
    (λ t of are. named_absent (names_in c.args.catalog.now t.authorization) t (take place m.procedures.items) c.args.opener.now _ _ name (ap opened_by c.in-Open.is)
    (sym (named_in_text t m of name) ∙ ap (option_map (λ (b : Bor Cursor). b.now)) (sym c.in-None.ensures.value)) are)

pub returns-in-Some-clause-opened : goal.returns-in-Some-clause-opened
returns-in-Some-clause-opened c =
    λ place others at h.
    let given = c.as_slice-parameters.ensures in
    let fits = c.bound_cursor-bound.ensures.fits in
    let well_formed = rw given at c.bound_cursor-bound.ensures.well_formed in
    let written = rw given at c.bound_cursor-bound.ensures.written in
    let binds = rw given at c.bound_cursor-bound.ensures.binds in
    let added = c.add_cursor.ensures.adds in
    on_both c.add_cursor.result added added
    (λ adds _. opened_next c.args.catalog.now c.args.«module».now others place c.args.opener.now at c.args.self.now c.add_cursor.new.self c.args.numbers.now.entries c.add_cursor.new.numbers.entries
    c.add_cursor.ensures.procedures h c.requires.once c.in-Open.name c.in-Some.cursor.now c.in-Open.is (sym c.in-Some.ensures.value) c.bound_cursor-bound.result fits well_formed written binds adds)
