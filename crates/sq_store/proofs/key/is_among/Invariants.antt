use Rattle.std.proofs.Common.{◌≡◌, drop}
use Rattle.std.specs.List.{list_any}
use Rattle.sq_value.specs.Key.{in_columns}
use Rattle.sq_store.specs.Keys.{has_key}
use Rattle.sq_store.proofs.key.is_among.Given as goal

abbrev pub invariant-loop-other : goal.invariant-loop-other
invariant-loop-other l =
    let test = has_key l.columns (in_columns l.row l.columns) in
    list_any test l.rows ≡ list_any test (drop l.other-index l.rows)
