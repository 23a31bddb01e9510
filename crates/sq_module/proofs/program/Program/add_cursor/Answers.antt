-- Left open for Program::add_cursor: the clause adds; answered by Fitting and Places.
use Rattle.std.proofs.Common.{◌∙◌, None, Some, ap, refl, sym}
use Rattle.indexmap.specs.IndexMap.{insert_entry}
use Rattle.sq_meaning.specs.Environment.{same_name}
use Rattle.sq_module.proofs.Fitting.{is_bound, none_part}
use Rattle.sq_module.proofs.Places.{on_ok}
use Rattle.sq_module.proofs.program.Program.add_cursor.Goals as goal

pub returns-in_ok-require_kept-in-Some-clause-adds : goal.returns-in_ok-require_kept-in-Some-clause-adds
returns-in_ok-require_kept-in-Some-clause-adds c =
    let numbers = c.args.numbers.now.entries in
    record {
      part = Some c.in-Some.cursor;
      is_part = is_bound c.args.bound c.in_ok-cursor.field-0 _ c.in_ok-cursor.ensures c.in-Some.is;
      cursors = c.in_ok-push-in-Some.ensures.items;
      entered = on_ok c.insert.result _ c.insert.ensures.entries (sym c.is_ok.ensures.value ∙ c.in_ok-require_kept-in-Some.ensures)
          ∙ ap (insert_entry same_name numbers c.args.name) (c.len-number.ensures ∙ c.args.self.now.cursors.ok.0);
    }

pub returns-in-None-clause-adds : goal.returns-in-None-clause-adds
returns-in-None-clause-adds c = record {
  part = None;
  is_part = none_part c.args.bound c.in_ok-cursor.field-0 c.in_ok-cursor.ensures c.in-None.is;
  cursors = refl;
  entered = refl;
}
