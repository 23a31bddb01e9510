-- The answers of the private functions of LIKE, and the facts that they keep from item to item.
use Rattle.std.specs.Prelude.{ℕ, ◌≡◌, ◌==◌, Bool, true, false, Result, Ok, Err, List, length, drop, slice_index_or, ◌+◌, ◌≤◌}
use Rattle.sq_value.specs.Pattern.{can_be_cut}
use Rattle.sq_value.specs.declared.fault.LikeFault.{LikeFault}
use Rattle.sq_value.specs.declared.pattern.Item.{Item}
use Rattle.sq_value.specs.declared.pattern.Item.TheVariants.{AnyRun, AnyOne, This}

-- for each place of a text, whether the rest from there on can be cut
pub record AreCuts (items : List Item) (text : List ℕ) (cuts : List Bool) : Type 0 where
  pub long : length cuts ≡ length text + 1
  pub each : (k : ℕ) → k ≤ length text → slice_index_or cuts k false ≡ can_be_cut items (drop k text)

abbrev pub AreCutsAsRead : Result (List Item) LikeFault → List ℕ → List Bool → Type 0
AreCutsAsRead (Ok items) text cuts = AreCuts items text cuts
AreCutsAsRead (Err fault) text cuts = ⊥

-- an item of one code takes this code
abbrev pub takes : Item → ℕ → Bool
takes AnyRun c = false
takes AnyOne c = true
takes (This d) c = c == d
