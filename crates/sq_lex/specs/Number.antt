-- The characters of a number in place, and the zeros after them.
use Rattle.std.specs.Prelude.{ℕ, ◌≡◌, ◌+◌, ◌-◌, ◌<◌, ◌≤◌, ◌⊎◌, true, List, [], ◌∷◌, ◌++◌, length, take, replicate}
use Rattle.std.specs.List.{list_all}
use Rattle.sq_lex.specs.Characters.{point, has}
use Rattle.sq_lex.specs.declared.characters.Class.TheVariants as class
use Rattle.sq_lex.specs.declared.number.Number.TheInside.{Inside}

-- digits with at most one point among, before or after them; from 1 to 18 digits (own rule)
pub record IsNumberSpelling (bytes : List ℕ) : Type 0 where
  pub whole : List ℕ
  pub fraction : List ℕ
  pub spelled : (bytes ≡ whole ++ point ∷ fraction) ⊎ ((bytes ≡ whole) × (fraction ≡ []))
  pub whole_digits : list_all (has class.Digit) whole ≡ true
  pub fraction_digits : list_all (has class.Digit) fraction ≡ true
  pub some : 0 < length whole + length fraction
  pub few : length whole + length fraction ≤ 18

-- the codes with zeros up to 19
abbrev pub padded : List ℕ → List ℕ
padded codes = codes ++ replicate (19 - length codes) 0

pub record IsPadded (n : Inside) : Type 0 where
  pub long : length n.codes ≡ 19
  pub short : n.len ≤ 19
  pub zeros : n.codes ≡ padded (take n.len n.codes)
  pub spelled : IsNumberSpelling (take n.len n.codes)
