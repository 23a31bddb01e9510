use Rattle.std.proofs.Common.{◌≡◌, length, map}
use Rattle.sq_lex.specs.Reserved.{lookup}
use Rattle.sq_lex.proofs.reserved.lookup.Given as goal

abbrev pub invariant-loop-words : goal.invariant-loop-words
invariant-loop-words l =
    lookup (map (λ entry. (entry.0.now, entry.1)) l.words) l.spelling ≡ lookup (map (λ entry. (entry.0.now, entry.1)) l.initial.words) l.spelling

abbrev pub decreases-loop-words : goal.decreases-loop-words
decreases-loop-words l = length l.words
