-- Left open for take_back_to: its result; answered by Heap.
use Rattle.std.proofs.Common.{ap}
use Rattle.std.specs.Prelude.{Vec}
use Rattle.std.specs.declared.alloc.Global.{Global}
use Rattle.sq_heap.specs.Index.{keys_of}
use Rattle.sq_heap.specs.declared.index.Index.{Index}
use Rattle.sq_heap.proofs.Heap.{all_keys_set, length_set, took_back, took_back_committed, took_back_listed}
use Rattle.sq_heap.proofs.store.take_back_to.Goals as goal

pub returns : goal.returns
returns c =
    let ts = c.args.tables.now.items in
    let i = c.args.mark.table in
    let t = c.index_mut.result.now in
    let u = c.undo_to.new.self in
    record {
      now = took_back ts i t u c.args.mark.from c.requires c.index_mut.ensures.value c.undo_to.ensures.slots;
      committed = took_back_committed ts i t u c.args.mark.from c.requires c.index_mut.ensures.value c.undo_to.ensures.slots c.undo_to.ensures.undo;
      listed = λ listed h. took_back_listed listed ts i t u c.args.mark.from c.requires c.index_mut.ensures.value c.undo_to.ensures.undo h;
      tables = length_set ts i u;
      keys = all_keys_set ts i t u c.requires c.index_mut.ensures.value (ap (λ (xs : Vec Index Global). keys_of xs.items) c.undo_to.ensures.indexes);
    }
