-- The conditions of a target, and the rows of a base table.
use Rattle.std.proofs.Common.{◌≡◌, ℕ, ◌<◌, Bool, true, false, List, [], ◌∷◌, length, map, Option, Some, None, refl, Ok}
use Rattle.std.specs.Prelude.{if◌then◌else◌, nat_lt, IfSome}
use Rattle.std.specs.List.{AllByRecursion}
use Rattle.std.proofs.lemmas.Bool.{lt-ltb}
use Rattle.sq_value.specs.declared.domain.Kind.{Kind}
use Rattle.sq_value.specs.declared.value.Value.{Value}
use Rattle.sq_store.specs.Content.{Content, table_at}
use Rattle.sq_store.specs.declared.table.Numbered.{Numbered}
use Rattle.sq_meaning.specs.Status.{and_then, not_well_formed}
use Rattle.sq_meaning.specs.WellFormed.{AreInputsOf, AreRowsOf, IsRowOf}
use Rattle.sq_bound.specs.declared.condition.BoundCond.{BoundCond}
use Rattle.sq_expression.specs.Frame.{inputs_of}
use Rattle.sq_query.specs.Table.{stored_numbered}
use Rattle.sq_query.specs.Target.{and_own}

pub inputs_are : (kinds : List Kind) (values : List Value) → IsRowOf kinds values → AreInputsOf kinds (inputs_of values)
inputs_are [] [] h = tt
inputs_are [] (v ∷ values) h = absurd h
inputs_are (k ∷ kinds) [] h = absurd h
inputs_are (k ∷ kinds) (v ∷ values) h = (h.0, inputs_are kinds values h.1)

-- ---- the conditions of a target

pub both_are : (P : BoundCond → Type 0) (cs : List BoundCond) (own : Option BoundCond) → AllByRecursion P cs → IfSome own P → AllByRecursion P (and_own cs own)
both_are P cs None all last = all
both_are P [] (Some c) all last = (last, tt)
both_are P (d ∷ cs) (Some c) all last = (all.0, both_are P cs (Some c) all.1 last)

pub row_kinds : (kinds : List Kind) (rows : List Numbered) → AreRowsOf kinds (map (λ (r : Numbered). r.row) rows) → AllByRecursion (λ (r : Numbered). IsRowOf kinds r.row) rows
row_kinds kinds [] h = tt
row_kinds kinds (r ∷ rows) h = (h.0, row_kinds kinds rows h.1)

pub there_so : (content : Content) (place : ℕ) → place < length content → stored_numbered content place ≡ Ok (table_at content place).rows
there_so content place within = by (nat_lt place (length content)) (lt-ltb place (length content) within)
  where
    by : (b : Bool) → b ≡ true → and_then (if b then Ok (table_at content place) else not_well_formed) (λ found. Ok found.rows) ≡ Ok (table_at content place).rows
    by true h = refl
    by false h = cc
