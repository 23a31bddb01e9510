-- The bytes that a writer has taken, piece by piece.
use Rattle.std.proofs.Common.{ℕ, ◌+◌, List, take, drop, subst, sym, Option}
use Rattle.std.proofs.KnownBytes.{Appends-trans}
use Rattle.std.specs.Io.KnownBytes.{Appends}
use lib.Seq.{take-add}

-- a further write takes what comes next
pub appends_further : (a b c : Option (List ℕ)) (at n : ℕ) (bytes : List ℕ) → Appends a b (take at bytes) → Appends b c (take n (drop at bytes)) → Appends a c (take (at + n) bytes)
appends_further a b c at n bytes p q = subst (Appends a c) (sym (take-add at n bytes)) (Appends-trans a b c (take at bytes) (take n (drop at bytes)) p q)
