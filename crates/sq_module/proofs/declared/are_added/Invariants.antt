use Rattle.std.proofs.Common.{◌≡◌, ◌++◌, false, flat_map, map, take}
use Rattle.sq_module.specs.Written.{named_as, named_in}
use Rattle.sq_module.proofs.Parameters.{are_bad, declared}
use Rattle.sq_module.proofs.declared.are_added.Given as goal

abbrev pub invariant-loop-declaration : goal.invariant-loop-declaration
invariant-loop-declaration l = record {
  added : map named_as l.parameters ≡ map named_as l.fn.parameters ++ flat_map named_in (take l.declaration-index l.declarations);
  names : l.names.keys ≡ map (λ d. d.name) (declared l.declarations l.declaration-index);
  good : are_bad (declared l.declarations l.declaration-index) ≡ false;
}
