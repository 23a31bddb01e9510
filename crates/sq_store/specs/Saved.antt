-- The contents that a store with saved copies may go back to.
use Rattle.std.specs.Prelude.{ℕ, Bool, true, ◌&&◌, List, Option, Some, None}
use Rattle.sq_store.specs.Content.{Content}
use Rattle.sq_store.specs.Keys.{Keys}
use Rattle.sq_store.specs.Sound.{is_sound}
use Rattle.sq_store.specs.declared.saved.Saved.{Saved}

-- what was committed, which is what is there now where nothing is saved
abbrev pub committed_or : Option Saved → Content → Content
committed_or None now = now
committed_or (Some saved) now = saved.committed

abbrev pub before_of : Option Saved → Option Content
before_of None = None
before_of (Some saved) = saved.before

abbrev pub is_sound_if : ℕ → List Keys → Option Content → Bool
is_sound_if row_numbers keys None = true
is_sound_if row_numbers keys (Some content) = is_sound row_numbers keys content

-- all of them are sound
abbrev pub are_sound : ℕ → List Keys → Option Saved → Bool
are_sound row_numbers keys None = true
are_sound row_numbers keys (Some saved) =
    is_sound row_numbers keys saved.committed && is_sound_if row_numbers keys saved.before
