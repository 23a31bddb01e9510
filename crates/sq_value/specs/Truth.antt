-- Three-valued logic (ISO/IEC 9075:1992, 8.12, tables of AND, OR and NOT).
use Rattle.std.specs.Prelude.{Bool, true, false}
use Rattle.sq_value.specs.declared.truth.Truth.{Truth}
use Rattle.sq_value.specs.declared.truth.Truth.TheVariants.{False, Unknown, True}

-- false if one is false, else unknown if one is unknown
abbrev pub both : Truth → Truth → Truth
both False q = False
both Unknown False = False
both Unknown Unknown = Unknown
both Unknown True = Unknown
both True q = q

-- true if one is true, else unknown if one is unknown
abbrev pub either : Truth → Truth → Truth
either True q = True
either Unknown True = True
either Unknown Unknown = Unknown
either Unknown False = Unknown
either False q = q

abbrev pub negation : Truth → Truth
negation False = True
negation Unknown = Unknown
negation True = False

-- the truth of a fact that is known to hold or not
abbrev pub known : Bool → Truth
known true = True
known false = False
