-- Templates, and the texts of their marks.
use Rattle.std.specs.Prelude.{ℕ, List, [], ◌∷◌, Option, Some, None, ◌==◌, if◌then◌else◌}
use Rattle.std.specs.List.{flat_map}
use Rattle.std.specs.Option.{option_map_or}
use Rattle.sq_bindings.specs.declared.template.Marks.{Marks}

abbrev pub Text : Type 0
Text = List ℕ

-- The texts in place of the marks of a template.
pub record Filling : Type 0 where
  pub owner : Text
  pub procedure : Text
  pub parameter : Text
  pub owner_name : Text
  pub procedure_name : Text
  pub parameter_name : Text
  pub picture : Text
  pub size : Text
  pub scale : Text

abbrev pub filling : Marks → Filling
filling m = record {
  owner = m.owner.now;
  procedure = m.procedure.now;
  parameter = m.parameter.now;
  owner_name = m.owner_name.now;
  procedure_name = m.procedure_name.now;
  parameter_name = m.parameter_name.now;
  picture = m.picture.now;
  size = m.size.now;
  scale = m.scale.now;
}

-- the text in place of a byte, if it is one of ~ % ^ ! @ $ ? ` |
abbrev pub marked : Filling → ℕ → Option Text
marked m byte =
    if byte == 126 then Some m.owner else
    (if byte == 37 then Some m.procedure else
    (if byte == 94 then Some m.parameter else
    (if byte == 33 then Some m.owner_name else
    (if byte == 64 then Some m.procedure_name else
    (if byte == 36 then Some m.parameter_name else
    (if byte == 63 then Some m.picture else
    (if byte == 96 then Some m.size else
    (if byte == 124 then Some m.scale else None))))))))

-- a byte of a template becomes the text of its mark, or itself if it is none
abbrev pub put : Filling → ℕ → Text
put m byte = option_map_or (λ text. text) (marked m byte) (byte ∷ [])

-- a template with its marks filled in
abbrev pub filled : Filling → Text → Text
filled m template = flat_map (put m) template
