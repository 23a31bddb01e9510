-- Left open for shortest_key: its result; answered by Keys.
use Rattle.std.proofs.Common.{◌≡◌, List, ap, arith, length, sym, ◌∙◌}
use Rattle.std.specs.List.{list_any}
use Rattle.sq_bound.specs.Keyed.{names_key}
use Rattle.sq_bound.specs.declared.condition.BoundConj.{BoundConj}
use Rattle.sq_bound.proofs.Keys.{none_named, only_of, term_names}
use Rattle.sq_bound.proofs.keyed.shortest_key.Goals as goal

pub returns-in-len1 : goal.returns-in-len1
returns-in-len1 c =
    let terms = c.as_slice.result.now in
    let one : length terms ≡ 1 = omega (arith, c.in-len1.len_at_least, c.in-len1.len_below) in
    term_names c.args.keys.now c.args.condition.now c.term-item.result c.as_slice-in-len1.result.now c.shortest_start.result
    (sym c.as_slice.ensures ∙ only_of terms c.term-item.result one c.term-item.is) c.as_slice-in-len1.ensures c.shortest_start.ensures

pub returns-in_default : goal.returns-in_default
returns-in_default c =
    ap (λ (ts : List BoundConj). list_any (λ key. names_key key ts) c.args.keys.now) (sym c.as_slice.ensures)
    ∙ none_named c.args.keys.now c.as_slice.result.now (λ one. omega (arith, one, c.in_default.len_below))

pub returns-in_default-2 : goal.returns-in_default-2
returns-in_default-2 c =
    ap (λ (ts : List BoundConj). list_any (λ key. names_key key ts) c.args.keys.now) (sym c.as_slice.ensures)
    ∙ none_named c.args.keys.now c.as_slice.result.now (λ one. omega (arith, one, c.in_default.len_at_least))
