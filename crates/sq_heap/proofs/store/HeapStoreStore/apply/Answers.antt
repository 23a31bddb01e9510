-- Left open: the call of apply_to, the clauses distinct and duplicate, and the invariant of self; answered by Heap and KeyAt.
use Rattle.std.proofs.Common.{Err, ◌≡◌, ◌∙◌, ◌<◌, ◌++◌, ◌∷◌, [], ℕ, List, ap, arith, length, nat_lt, rules, sym, take, true}
use Rattle.std.specs.List.{list_all}
use Rattle.std.proofs.lemmas.Grind.{common_steps}
use Rattle.sq_store.specs.Change.{rows_put}
use Rattle.sq_store.specs.Content.{changed_by, table_at}
use Rattle.sq_store.specs.Keys.{Keys, has_distinct_keys, has_keys, have_keys, keys_at}
use Rattle.sq_store.specs.Saved.{is_sound_if}
use Rattle.sq_store.specs.Sound.{is_sound}
use Rattle.sq_store.specs.declared.change.ApplyFault.{ApplyFault}
use Rattle.sq_store.specs.declared.change.ApplyFault.TheVariants.{Duplicate}
use Rattle.sq_store.proofs.Sound.{columns_at, sound_changed}
use Rattle.sq_heap.specs.Heap.{all_keys, all_now, are_listed, are_within, first_keys, now_of}
use Rattle.sq_heap.proofs.Heap.{distinct_at, length_map, within_push}
use Rattle.sq_heap.proofs.KeyAt.{first_are, keys_within}
use Rattle.sq_heap.proofs.store.HeapStoreStore.apply.Goals as goal

pub apply_to-requires-clause-keys : goal.apply_to-requires-clause-keys
apply_to-requires-clause-keys c =
    let s = c.args.self.now in
    let ts = c.args.self.now.tables.items in
    let long : length (all_now c.args.self.now.tables.items) ≡ length c.args.self.now.tables.items = length_map now_of ts in
    let lt : c.args.table < length c.args.self.now.tables.items = omega (arith, c.requires.known) in
    omega (arith, ap length c.keys-keys.ensures, keys_within s.row_numbers s.keys ts c.args.table s.sound s.indexed lt)

pub apply_to-requires-clause-changes : goal.apply_to-requires-clause-changes
apply_to-requires-clause-changes c =
    let s = c.args.self.now in
    let ts = c.args.self.now.tables.items in
    let long : length (all_now c.args.self.now.tables.items) ≡ length c.args.self.now.tables.items = length_map now_of ts in
    let lt : c.args.table < length c.args.self.now.tables.items = omega (arith, c.requires.known) in
    let own : take (length c.keys-keys.result.now) (keys_at (all_keys c.args.self.now.tables.items) c.args.table) ≡ keys_at c.args.self.now.keys c.args.table
    = ap (λ (ks : Keys). take (length ks) (keys_at (all_keys ts) c.args.table)) c.keys-keys.ensures ∙ first_are s.row_numbers s.keys ts c.args.table s.sound s.indexed lt in
    let t = table_at (all_now ts) c.args.table in
    record {
      columns = ap (λ (k : Keys). have_keys k t.rows) own ∙ columns_at s.row_numbers s.keys (all_now ts) c.args.table s.sound c.requires.known;
      new_columns = ap (λ (k : Keys). list_all (has_keys k) (rows_put c.args.changes.items)) own ∙ c.requires.columns;
      distinct = ap (λ (k : Keys). has_distinct_keys k t) own ∙ distinct_at s.row_numbers s.keys (all_now ts) c.args.table s.sound c.requires.known;
    }

pub returns-in-Ok-clause-distinct : goal.returns-in-Ok-clause-distinct
returns-in-Ok-clause-distinct c =
    let s = c.args.self.now in
    let ts = c.args.self.now.tables.items in
    let long : length (all_now c.args.self.now.tables.items) ≡ length c.args.self.now.tables.items = length_map now_of ts in
    let lt : c.args.table < length c.args.self.now.tables.items = omega (arith, c.requires.known) in
    let own : take (length c.keys-keys.result.now) (keys_at (all_keys c.args.self.now.tables.items) c.args.table) ≡ keys_at c.args.self.now.keys c.args.table
    = ap (λ (ks : Keys). take (length ks) (keys_at (all_keys ts) c.args.table)) c.keys-keys.ensures ∙ first_are s.row_numbers s.keys ts c.args.table s.sound s.indexed lt in
    let made = changed_by (table_at (all_now ts) c.args.table) c.args.changes.items in
    ap (λ (k : Keys). has_distinct_keys k made) (sym own) ∙ c.in-Ok.ensures.ok.distinct

pub returns-in-Err-clause-duplicate : goal.returns-in-Err-clause-duplicate
returns-in-Err-clause-duplicate c = λ e.
    let s = c.args.self.now in
    let ts = c.args.self.now.tables.items in
    let long : length (all_now c.args.self.now.tables.items) ≡ length c.args.self.now.tables.items = length_map now_of ts in
    let lt : c.args.table < length c.args.self.now.tables.items = omega (arith, c.requires.known) in
    let own : take (length c.keys-keys.result.now) (keys_at (all_keys c.args.self.now.tables.items) c.args.table) ≡ keys_at c.args.self.now.keys c.args.table
    = ap (λ (ks : Keys). take (length ks) (keys_at (all_keys ts) c.args.table)) c.keys-keys.ensures ∙ first_are s.row_numbers s.keys ts c.args.table s.sound s.indexed lt in
    let made = changed_by (table_at (all_now ts) c.args.table) c.args.changes.items in
    let is : c.in-Err.fault ≡ Duplicate = cc in
    ap (λ (k : Keys). has_distinct_keys k made) (sym own) ∙ c.apply_to.ensures.duplicate (c.in-Err.is ∙ ap (λ (f : ApplyFault). Err f) is)

pub invariant_of-self-in-Ok : goal.invariant_of-self-in-Ok
invariant_of-self-in-Ok c =
    let s = c.args.self.now in
    let ts = c.args.self.now.tables.items in
    let later = c.apply_to.new.tables.items in
    let i = c.args.table in
    let changes = c.args.changes.items in
    let listed : c.push.new.self.items ≡ c.args.self.now.listed.items ++ c.args.table ∷ [] = first_of (search rules, grind (arith, common_steps)) in
    let long : length c.apply_to.new.tables.items ≡ length c.args.self.now.tables.items = c.in-Ok.ensures.kept.count in
    let all : length (all_now c.args.self.now.tables.items) ≡ length c.args.self.now.tables.items = length_map now_of ts in
    let known : c.args.table < length c.args.self.now.tables.items = omega (arith, c.requires.known) in
    let own : take (length c.keys-keys.result.now) (keys_at (all_keys c.args.self.now.tables.items) c.args.table) ≡ keys_at c.args.self.now.keys c.args.table
    = ap (λ (ks : Keys). take (length ks) (keys_at (all_keys ts) i)) c.keys-keys.ensures ∙ first_are s.row_numbers s.keys ts i s.sound s.indexed known in
    let distinct : has_distinct_keys (keys_at c.args.self.now.keys c.args.table) (changed_by (table_at (all_now c.args.self.now.tables.items) c.args.table) c.args.changes.items) ≡ true
    = ap (λ (k : Keys). has_distinct_keys k (changed_by (table_at (all_now ts) i) changes)) (sym own) ∙ c.in-Ok.ensures.ok.distinct in
    let within : nat_lt c.args.table (length c.args.self.now.tables.items) ≡ true = grind (arith, common_steps) in
    record {
      limited = s.limited;
      sound = ap (is_sound s.row_numbers s.keys) c.in-Ok.ensures.ok.made ∙ sound_changed s.row_numbers s.keys (all_now ts) i changes s.sound c.requires.known c.requires.fits c.requires.columns distinct;
      committed_sound = ap (is_sound s.row_numbers s.keys) c.in-Ok.ensures.kept.committed ∙ s.committed_sound;
      before_sound = ap (is_sound_if s.row_numbers s.keys) c.in-Ok.ensures.ok.before ∙ s.sound;
      marked = ap (nat_lt i) long ∙ within;
      indexed = ap (first_keys s.keys) c.in-Ok.ensures.kept.keys ∙ s.indexed;
      listed_there = ap (are_within (length later)) listed ∙ ap (λ (n : ℕ). are_within n (s.listed.items ++ i ∷ [])) long ∙ within_push (length ts) s.listed.items i known s.listed_there;
      changes_listed = ap (λ (l : List ℕ). are_listed l 0 later) listed ∙ c.in-Ok.ensures.ok.listed s.listed.items s.changes_listed;
    }
