-- Places in what was typed.
use Rattle.std.specs.Prelude.{◌+◌, ◌-◌, ◌^◌, ◌==◌, min, if◌then◌else◌}
use Rattle.sq_show.specs.declared.place.Place.{Place}

-- The place, as far behind the start as the other one is behind the place 1:1.
abbrev pub place_in : Place → Place → Place
place_in start inside =
    record {
      line = min (start.line + (inside.line - 1)) (2 ^ 64 - 1);
      column = if inside.line == 1 then min (start.column + (inside.column - 1)) (2 ^ 64 - 1) else inside.column;
    }
