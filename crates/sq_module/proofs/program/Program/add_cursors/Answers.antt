-- Left open: the clause opened, and that the loop keeps its invariant; answered by Apart, Named and others.
use Rattle.std.proofs.Common.{[], ◌∙◌, refl, subst, sym}
use Rattle.std.proofs.lemmas.List.{append-nil}
use Rattle.sq_catalog.specs.Catalog.{column_kinds, known}
use Rattle.sq_catalog.specs.UserTables.{names_in}
use Rattle.sq_module.specs.Added.{HasCursors}
use Rattle.sq_module.specs.Opened.{AreThere}
use Rattle.sq_module.specs.Written.{AreNumbers}
use Rattle.sq_module.proofs.Apart.{opened_by_none}
use Rattle.sq_module.proofs.Named.{named_first}
use Rattle.sq_module.proofs.Opening.{openable_none}
use Rattle.sq_module.proofs.Written.{take_whole}
use Rattle.sq_module.proofs.program.Program.add_cursors.Goals as goal

pub loop-opener-init : goal.loop-opener-init
loop-opener-init c =
    let cursors = c.args.self.now.cursors.items in
    let none = c.requires.none in
    record {
      procedures = refl;
      opened = record {
        in_order = c.requires.in_order;
        grows = ([], sym (append-nil cursors));
        there = subst (AreThere _) (sym none) refl;
        apart = λ name other of. of;
        opened_by = opened_by_none c.args.«module».now.name cursors c.requires.others;
        openable = openable_none (column_kinds c.args.catalog.now) cursors c.args.numbers.now.entries none c.args.«module».now.procedures.items;
        written = λ m of. subst (AreNumbers (known c.args.catalog.now) m cursors) (sym none) tt;
        named = λ m of. named_first (names_in c.args.catalog.now m.authorization) m cursors c.args.numbers.now.entries none;
        computed = λ texts m among of before. before;
      };
    }

pub loop-opener-preserved : goal.loop-opener-preserved
loop-opener-preserved c =
    let below = rw c.as_slice-opener-items.ensures.value at c.loop-opener-test.true in
    let is = rw c.as_slice-opener-items.ensures.value at c.opener-item.is in
    record {
      procedures = c.add_opened.ensures.procedures ∙ c.loop-opener.invariant.procedures;
      opened = c.in_ok-add_opened.ensures.opened c.loop-opener.opener-index c.args.self.now.cursors.items (below, is) c.loop-opener.invariant.opened;
    }

pub returns-clause-opened : goal.returns-clause-opened
returns-clause-opened c =
    let m = c.args.«module».now in
    subst (λ ps. HasCursors c.args.catalog.now m c.args.self.now.cursors.items ps c.loop-opener.self c.loop-opener.numbers.entries)
    (take_whole c.loop-opener.opener-index m.procedures.items (rw c.as_slice-opener-items.ensures.value at c.loop-opener-test.false)) c.loop-opener.invariant.opened
