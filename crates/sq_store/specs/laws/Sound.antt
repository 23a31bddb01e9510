-- The parts of what holds of each content.
use Rattle.std.proofs.Common.{◌≡◌, ℕ, true, List, arith}
use Rattle.std.proofs.lemmas.Grind.{common_steps}
use Rattle.sq_store.specs.Content.{Content}
use Rattle.sq_store.specs.Keys.{Keys, are_keyed}
use Rattle.sq_store.specs.Rising.{all_rising}
use Rattle.sq_store.specs.Sound.{is_sound}

pub rises_of : (row_numbers : ℕ) (keys : List Keys) (ts : Content) → is_sound row_numbers keys ts ≡ true
    → all_rising row_numbers ts ≡ true
rises_of row_numbers keys ts h = grind (arith, common_steps)

pub keyed_of : (row_numbers : ℕ) (keys : List Keys) (ts : Content) → is_sound row_numbers keys ts ≡ true
    → are_keyed keys ts ≡ true
keyed_of row_numbers keys ts h = grind (arith, common_steps)
