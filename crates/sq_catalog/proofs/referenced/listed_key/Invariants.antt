use Rattle.std.proofs.Common.{◌≡◌, drop, false, take}
use Rattle.std.specs.List.{enumerate_from, list_any}
use Rattle.std.specs.Prelude.{find}
use Rattle.sq_binding.specs.Reference.{are_the_same}
use Rattle.sq_catalog.specs.References.{is_key_of}
use Rattle.sq_catalog.proofs.referenced.listed_key.Given as goal

abbrev pub invariant-loop-place : goal.invariant-loop-place
invariant-loop-place l = record {
  passed : list_any (is_key_of l.listed) (take l.place l.target.keys.now) ≡ false;
  exact : find (λ key. are_the_same l.listed key.1) (enumerate_from 0 l.target.keys.now) ≡ find (λ key. are_the_same l.listed key.1) (enumerate_from l.place (drop l.place l.target.keys.now));
}
