-- Casts between the widths of signed numbers.
use Rattle.std.proofs.lemmas.Int.{to_z-of_z}

pub ruleset casts = (to_z-of_z)
