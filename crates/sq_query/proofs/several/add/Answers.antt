-- Left open for add: the clause rows; answered by AddedRows.
use Rattle.std.proofs.Common.{◌≡◌, ℕ, List, Bor, map, refl, subst, sym}
use Rattle.sq_meaning.specs.Environment.{Row}
use Rattle.sq_query.specs.Several.{added}
use Rattle.sq_query.specs.Table.{numbered_row}
use Rattle.sq_query.proofs.Keys.AddedRows.{put_there}
use Rattle.sq_query.proofs.several.add.Goals as goal

pub returns-in-Some-clause-rows : goal.returns-in-Some-clause-rows
returns-in-Some-clause-rows c =
    put_there c.put_at.result c.args.found c.in-Some.place c.args.rows.now.items c.as_slice.result.now c.put_at.new.rows.items c.put_at.ensures.rows c.as_slice.ensures.value (c.in-Some.ensures.place c.args.found refl)

pub returns-in-None-clause-rows : goal.returns-in-None-clause-rows
returns-in-None-clause-rows c =
    let r = numbered_row c.args.found in
    sym (subst (λ (l : List (ℕ × Bor Row)). added r (map numbered_row l) ≡ map numbered_row l) c.as_slice.ensures.value (c.in-None.ensures.place c.args.found refl))
