-- Left open for replace: its result; answered by Search.
use Rattle.std.proofs.Common.{◌≡◌, false, nat_eq, slice_get, slice_index_or, arith, sym}
use Rattle.std.proofs.lemmas.Grind.{common_steps}
use Rattle.sq_store.specs.Content.{first_among}
use Rattle.sq_store.proofs.Search.{put_at, put_nowhere, put_past}
use Rattle.sq_store.proofs.table.replace.Goals as goal
use Rattle.sq_store.proofs.table.replace.Goals.{else-place-len-via-then-place-len+else-index-number, else-place-len-via-else-place-len}

pub returns-then-index-number : goal.returns-then-index-number
returns-then-index-number c =
    let here : (slice_index_or c.args.rows.now.items c.place_from-place.result c.index.result.now).number ≡ c.args.number = grind (arith, common_steps) in
    sym (put_at 1 c.args.rows.now.items c.args.next c.args.number c.args.row c.place_from-place.result c.index.result.now c.requires (omega arith) here)

pub returns-else-place-len : goal.returns-else-place-len
returns-else-place-len c =
    let found : slice_get c.args.rows.now.items c.place_from-place.result ≡ first_among c.args.rows.now.items c.args.number = cc in
    elim c.else-place-len.branch [
      | else-place-len-via-then-place-len+else-index-number w ↦
          let other : nat_eq (slice_index_or c.args.rows.now.items c.place_from-place.result w.index.result.now).number c.args.number ≡ false = grind (arith, common_steps) in
          sym (put_nowhere 1 c.args.rows.now.items c.args.next c.args.number c.args.row c.place_from-place.result w.index.result.now c.requires found (omega arith) other)
      | else-place-len-via-else-place-len w ↦ sym (put_past c.args.rows.now.items c.args.number c.args.row c.place_from-place.result found (omega arith))
    ]
