-- Bound conditions whose truth is never a fault: their trees by place are quiet.
use Rattle.std.specs.Prelude.{Bool, List, []}
use Rattle.std.specs.List.{list_all}
use Rattle.sq_meaning.specs.Quiet.{is_quiet}
use Rattle.sq_bound.specs.Condition.{cond_of}
use Rattle.sq_bound.specs.declared.condition.BoundCond.{BoundCond}

-- a condition on rows: no set function is around it
abbrev pub is_quiet_cond : BoundCond → Bool
is_quiet_cond c = is_quiet (cond_of [] c)

abbrev pub are_quiet_conds : List BoundCond → Bool
are_quiet_conds cs = list_all is_quiet_cond cs
