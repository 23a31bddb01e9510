-- Left open: what the call of add_procedures asks for, and the result; answered by Named and Written.
use Rattle.std.proofs.Common.{◌∙◌, ap, subst, sym}
use Rattle.std.specs.Map.{keys_of}
use Rattle.indexmap.specs.IndexMap.{IndexMap}
use Rattle.sq_catalog.specs.Catalog.{known}
use Rattle.sq_catalog.specs.UserTables.{names_in}
use Rattle.sq_module.specs.Admitted.{module_keys}
use Rattle.sq_module.specs.Computed.{AreComputedCursors, AreComputedProcedures}
use Rattle.sq_module.specs.Opened.{AreOfOthers}
use Rattle.sq_module.specs.Program.{with_procedures}
use Rattle.sq_module.specs.Written.{AreFromTexts}
use Rattle.sq_module.specs.declared.program.BoundProcedure.{BoundProcedure}
use Rattle.sq_module.specs.declared.program.ProcedureName.{ProcedureName}
use Rattle.sq_module.proofs.Named.{named_as_module}
use Rattle.sq_module.proofs.Written.{from_texts_grown}
use Rattle.sq_module.proofs.program.Program.add_parts.Goals as goal

pub returns : goal.returns
returns c =
    let m = c.args.«module».now in
    let names = names_in c.args.catalog.now in
    let opened = c.in_ok-add_cursors.ensures.opened in
    let cursors = c.add_cursors.new.self.cursors.items in
    let same_cursors = sym c.in_ok-add_procedures.ensures.cursors in
    let same_procedures = c.add_cursors.ensures.procedures in
    record {
      in_order = c.in_ok-add_procedures.ensures.in_order;
      procedures = c.in_ok-add_procedures.ensures.procedures
          ∙ ap (λ (ps : IndexMap ProcedureName BoundProcedure _). with_procedures (keys_of ps.entries) (module_keys m)) same_procedures;
      others = λ name other of. subst (λ cs. AreOfOthers name cs.items) same_cursors (opened.apart name other of);
      written = λ texts t among of before.
          let kept : AreFromTexts (known c.args.catalog.now) texts cursors c.add_cursors.new.self.procedures.entries
          = subst (λ (ps : IndexMap ProcedureName BoundProcedure _). AreFromTexts (known c.args.catalog.now) texts cursors ps.entries) (sym same_procedures)
          (from_texts_grown (known c.args.catalog.now) texts c.args.self.now.cursors.items cursors c.args.self.now.procedures.entries opened.grows before) in
          c.in_ok-add_procedures.ensures.written texts t among of (opened.written t of) kept;
      computed = λ texts t among of before.
          let bound = opened.computed texts t among of before.cursors in
          let named =
          named_as_module t m of c.requires.once (names t.authorization) cursors c.add_cursors.new.numbers.entries (opened.named t of) in
          let kept : AreComputedProcedures names texts c.add_cursors.new.self.procedures.entries
          = subst (λ (ps : IndexMap ProcedureName BoundProcedure _). AreComputedProcedures names texts ps.entries) (sym same_procedures) before.procedures in
          record {
            procedures = c.in_ok-add_procedures.ensures.computed texts t among of named kept;
            cursors = subst (λ cs. AreComputedCursors names texts cs.items) same_cursors bound;
          };
    }

pub add_procedures-requires-clause-openable : goal.add_procedures-requires-clause-openable
add_procedures-requires-clause-openable c = c.in_ok-add_cursors.ensures.opened.openable

pub add_procedures-requires-clause-there : goal.add_procedures-requires-clause-there
add_procedures-requires-clause-there c = c.in_ok-add_cursors.ensures.opened.there

pub add_procedures-requires-clause-in_order : goal.add_procedures-requires-clause-in_order
add_procedures-requires-clause-in_order c = c.in_ok-add_cursors.ensures.opened.in_order
