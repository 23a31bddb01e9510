-- Left open for HeapStoreStore::new: the invariant of its result; answered by Heap.
use Rattle.std.proofs.Common.{◌≡◌, ◌∙◌, List, ap, length, refl, sym}
use Rattle.sq_store.specs.Content.{no_rows}
use Rattle.sq_store.specs.Keys.{Keys, keys_of}
use Rattle.sq_store.specs.Sound.{is_sound}
use Rattle.sq_store.proofs.Sound.{sound_at_first}
use Rattle.sq_heap.specs.Heap.{all_committed, all_keys, all_now, are_listed, are_within, first_keys}
use Rattle.sq_heap.proofs.Heap.{length_given}
use Rattle.sq_heap.proofs.store.HeapStoreStore.new.Goals as goal

pub invariant_of-result : goal.invariant_of-result
invariant_of-result c =
    let ts = c.in_ok-tables.tables.items in
    let given = c.args.keys.now in
    let keys : c.in_ok-keys.keys ≡ keys_of c.args.keys.now = c.in_ok-keys.ensures in
    let long : length c.as_slice.result.now ≡ length c.args.keys.now = ap length (c.as_slice.ensures ∙ keys) ∙ length_given given in
    let now : all_now c.in_ok-tables.tables.items ≡ no_rows (length c.args.keys.now) = c.in_ok-tables.ensures.now ∙ ap no_rows long in
    let committed : all_committed c.in_ok-tables.tables.items ≡ no_rows (length c.args.keys.now) = c.in_ok-tables.ensures.committed ∙ ap no_rows long in
    record {
      limited = c.requires;
      sound = (λ i. is_sound c.args.greatest (keys i) (now i)) ∙ sound_at_first c.args.greatest given;
      committed_sound = (λ i. is_sound c.args.greatest (keys i) (committed i)) ∙ sound_at_first c.args.greatest given;
      before_sound = refl;
      marked = refl;
      indexed = ap (λ (ks : List Keys). first_keys ks (all_keys ts)) (sym c.as_slice.ensures) ∙ c.in_ok-tables.ensures.keys ∙ c.as_slice.ensures;
      listed_there = ap (are_within (length ts)) c.new.ensures.items;
      changes_listed = ap (λ l. are_listed l 0 ts) c.new.ensures.items ∙ c.in_ok-tables.ensures.listed;
    }
