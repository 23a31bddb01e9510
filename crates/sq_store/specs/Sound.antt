-- What holds of each content that a store may go to: numbers rise, and each table has its keys.
use Rattle.std.specs.Prelude.{ℕ, Bool, ◌&&◌, List}
use Rattle.sq_store.specs.Content.{Content}
use Rattle.sq_store.specs.Keys.{Keys, are_keyed}
use Rattle.sq_store.specs.Rising.{all_rising}

abbrev pub is_sound : ℕ → List Keys → Content → Bool
is_sound row_numbers keys content = all_rising row_numbers content && are_keyed keys content
