-- Left open: the call of index_mut, the clause committed, and the loop's invariant; answered by Heap.
use Rattle.std.proofs.Common.{◌≡◌, ◌∙◌, ◌<◌, ◌++◌, ◌∷◌, [], List, ℕ, ap, arith, length, slice_set, sym, true}
use Rattle.std.proofs.lemmas.Grind.{common_steps}
use Rattle.sq_heap.specs.Heap.{are_listed, are_within, has_none, now_of}
use Rattle.sq_heap.specs.Slots.{table_of}
use Rattle.sq_heap.specs.Index.{keys_of}
use Rattle.sq_heap.specs.declared.index.Index.{Index}
use Rattle.std.specs.Prelude.{Vec}
use Rattle.std.specs.declared.alloc.Global.{Global}
use Rattle.sq_heap.proofs.Heap.{all_keys_set, listed_pop, length_set, map_set_same, none_listed, within_last, within_rest}
use Rattle.sq_heap.proofs.store.commit_all.Goals as goal

pub index_mut-requires : goal.index_mut-requires
index_mut-requires c =
    let n = length c.loop-table.tables.items in
    let split : c.loop-table.listed.items ≡ c.pop.new.self.items ++ c.in-Some.table ∷ [] = c.in-Some.ensures.items in
    let within : are_within n (c.pop.new.self.items ++ c.in-Some.table ∷ []) ≡ true = ap (are_within n) (sym split) ∙ c.loop-table.invariant.within in
    let lt : c.in-Some.table < length c.loop-table.tables.items = within_last n c.pop.new.self.items c.in-Some.table within in
    grind (arith, common_steps)

pub loop-table-preserved : goal.loop-table-preserved
loop-table-preserved c =
    let ts = c.loop-table.tables.items in
    let i = c.in-Some.table in
    let rest = c.pop.new.self.items in
    let u = c.commit.new.self in
    let split : c.loop-table.listed.items ≡ rest ++ i ∷ [] = c.in-Some.ensures.items in
    let within : are_within (length ts) (rest ++ i ∷ []) ≡ true = ap (are_within (length ts)) (sym split) ∙ c.loop-table.invariant.within in
    let listed : are_listed (rest ++ i ∷ []) 0 ts ≡ true = ap (λ (l : List ℕ). are_listed l 0 ts) (sym split) ∙ c.loop-table.invariant.listed in
    let lt : i < length ts = within_last (length ts) rest i within in
    let none : has_none u.undo.items ≡ true = ap has_none c.commit.ensures.undo in
    let long : length (slice_set ts i u) ≡ length ts = length_set ts i u in
    record {
      now = map_set_same now_of ts i c.index_mut.result.now u lt c.index_mut.ensures.value (ap table_of c.commit.ensures.slots) ∙ c.loop-table.invariant.now;
      keys = all_keys_set ts i c.index_mut.result.now u lt c.index_mut.ensures.value (ap (λ (xs : Vec Index Global). keys_of xs.items) c.commit.ensures.indexes) ∙ c.loop-table.invariant.keys;
      tables = long ∙ c.loop-table.invariant.tables;
      listed = listed_pop rest i 0 ts i u (omega arith) none listed;
      within = ap (λ (n : ℕ). are_within n rest) long ∙ within_rest (length ts) rest i within;
    }

pub returns-clause-committed : goal.returns-clause-committed
returns-clause-committed c =
    let none : c.loop-table.listed.items ≡ [] = grind (arith, common_steps) in
    none_listed 0 c.loop-table.tables.items (ap (λ (l : List ℕ). are_listed l 0 c.loop-table.tables.items) (sym none) ∙ c.loop-table.invariant.listed) ∙ c.loop-table.invariant.now
