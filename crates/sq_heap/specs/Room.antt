-- The room that a table has for changes.
use Rattle.std.specs.Prelude.{◌≤◌, ◌+◌, ◌*◌, ℕ, Vec, length, vec_capacity, vec_len}
use Rattle.std.specs.declared.alloc.Global.{Global}
use Rattle.sq_heap.specs.declared.slots.Slots.{Slots}
use Rattle.sq_heap.specs.declared.slots.TheConstants.{BLOCK}

-- a change takes at most one place
pub record KeepsRoom {X : Type 0} (list later : Vec X Global) : Type 0 where
  pub len : vec_len later ≤ vec_len list + 1
  pub room : vec_capacity list ≤ vec_capacity later

-- there is room for `count` more slots, and a count for the block of each
pub record HasSlots (slots : Slots) (count : ℕ) : Type 0 where
  pub list : vec_len slots.list + count ≤ vec_capacity slots.list
  pub blocks : length slots.list.items + count ≤ BLOCK * length slots.counts.items

-- a change takes at most one slot
pub record KeepsSlots (slots later : Slots) : Type 0 where
  pub list : KeepsRoom slots.list later.list
  pub blocks : length slots.counts.items ≤ length later.counts.items
