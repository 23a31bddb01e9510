-- A kept address owns nothing at null, and else the same as a box of the value.
use base.Fml.{Fml, ftrue}
use denote.RattleType.{RattleType}
use denote.RawPtr.{Ptr}
use Rattle.std.specs.Prelude.{Option, None, Some}
use Rattle.std.specs.Box.Ownership.{box_owns}
use Rattle.std.specs.declared.alloc.Global.{Global}
use Rattle.std.specs.contracts.impls.GlobalAllocator.TheImpl.{ghosts}

-- the heap, whose handles are all one value
abbrev pub heap : Global
heap = record { memory = record { seal = tt } }

abbrev pub kept_owns : (R : RattleType) → Ptr → Option R.Denot → Fml
kept_owns R p None = ftrue
kept_owns R p (Some x) = box_owns (ghosts.dealloc_token heap) R p x
