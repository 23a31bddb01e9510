-- Left open: the clause list, and that the loop keeps its invariant; answered by Gathered and LostValues.
use Rattle.std.proofs.Common.{◌≡◌, ◌∙◌, ◌<◌, ◌++◌, [], ℕ, List, ap, append-nil, arith, get_or, length, nat_lt, refl, slice_index_or, sym, true}
use Rattle.std.proofs.lemmas.Grind.{common_steps}
use Rattle.std.proofs.lemmas.List.Sums.{AllPass-from_list_all}
use Rattle.std.specs.Prelude.{Vec}
use Rattle.std.specs.declared.alloc.Global.{Global}
use Rattle.sq_change.specs.Lost.{lost_in_key}
use Rattle.sq_change.specs.Reference.{values_in}
use Rattle.sq_change.specs.declared.lost.LostKey.{LostKey}
use Rattle.sq_change.proofs.OneByOne.Gathered.{gathered_all, gathered_more, same_default}
use Rattle.sq_change.proofs.Keys.LostValues.{not_lost, one_lost}
use Rattle.sq_change.proofs.lost.push_lost.Goals as goal
use Rattle.sq_change.proofs.lost.push_lost.Goals.{in-Some+in_ok-push, in_default}

pub loop-key-preserved : goal.loop-key-preserved
loop-key-preserved c =
    let keys = c.args.table.now.keys in
    let row = c.args.row.now in
    let some = c.args.keys.now in
    let before = c.args.lost.now.items in
    let done = c.loop-key.lost.items in
    let i = c.loop-key.key-index in
    let key = get_or c.args.keys.now c.loop-key.key-index 0 in
    let next = c.match-branch-2.lost.items in
    let test : nat_lt (get_or c.args.keys.now c.loop-key.key-index 0) (length c.args.table.now.keys) ≡ true = AllPass-from_list_all (λ k. nat_lt k (length keys)) some c.requires.keys i 0 c.loop-key-test.true in
    let lt : get_or c.args.keys.now c.loop-key.key-index 0 < length c.args.table.now.keys = grind (arith, common_steps) in
    let columns : c.as_slice-columns.result.now ≡ slice_index_or keys key []
    = c.as_slice-columns.ensures ∙ c.index-as_slice-key.is ∙ ap (λ (ks : List (List ℕ)). get_or ks key c.index-as_slice-key.result) c.as_slice.ensures ∙ same_default keys key c.index-as_slice-key.result [] lt in
    let found = c.in_ok-values.field-0 in
    let is : found ≡ values_in row (slice_index_or keys key []) = c.in_ok-values.ensures.values ∙ ap (values_in row) columns in
    elim c.match-branch-2.branch [
      | in-Some+in_ok-push w ↦
          gathered_more (lost_in_key keys row) some before i key 0 done next c.loop-key-test.true refl c.loop-key.invariant
          (ap (λ (v : Vec LostKey Global). v.items) w.lost-is ∙ w.in_ok-push.ensures.items ∙ ap (λ (ls : List LostKey). done ++ ls) (one_lost keys row key found is w.in-Some.values w.in-Some.is))
      | in_default w ↦
          gathered_more (lost_in_key keys row) some before i key 0 done next c.loop-key-test.true refl c.loop-key.invariant
          (ap (λ (v : Vec LostKey Global). v.items) w.lost-is ∙ sym (append-nil done) ∙ ap (λ (ls : List LostKey). done ++ ls) (not_lost keys row key found is w.in_default.is))
    ]

pub returns-clause-list : goal.returns-clause-list
returns-clause-list c =
    gathered_all (lost_in_key c.args.table.now.keys c.args.row.now) c.args.keys.now c.args.lost.now.items c.loop-key.key-index c.loop-key.lost.items c.loop-key-test.false c.loop-key.invariant
