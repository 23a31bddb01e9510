-- A name's codes in place, and the zeros after them.
use Rattle.std.specs.Prelude.{ℕ, ◌≡◌, ◌-◌, ◌≤◌, ◌++◌, true, List, length, take, replicate, slice_index}
use Rattle.std.specs.Char.{is_ascii_alphabetic}
use Rattle.std.specs.List.{list_all}
use Rattle.sq_lex.specs.Characters.{has}
use Rattle.sq_lex.specs.declared.characters.Class.TheVariants as class
use Rattle.sq_lex.specs.declared.name.Name.TheInside.{Inside}

-- a letter, then letters, digits and `_`; at most 18 (own rule)
pub record IsWordSpelling (bytes : List ℕ) : Type 0 where
  pub letter : is_ascii_alphabetic (slice_index bytes 0) ≡ true
  pub each : list_all (has class.Word) bytes ≡ true
  pub short : length bytes ≤ 18

-- the codes with zeros up to 18
abbrev pub padded : List ℕ → List ℕ
padded codes = codes ++ replicate (18 - length codes) 0

pub record IsPadded (n : Inside) : Type 0 where
  pub long : length n.codes ≡ 18
  pub short : n.len ≤ 18
  pub zeros : n.codes ≡ padded (take n.len n.codes)
  pub spelled : IsWordSpelling (take n.len n.codes)
