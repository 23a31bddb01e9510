-- How the logic stores the machine of a processor.
use Rattle.std.specs.Prelude.{◌≡◌, ℕ, zero, suc, List, [], Option, None, refl}
use Rattle.std.specs.Coded.{Coded, code_by, coded×, coded_ℕ, coded_list, coded_option}
use Rattle.sq_value.specs.declared.value.Value.{Value}
use Rattle.sq_value.specs.contracts.value.Value as value
use Rattle.sq_meaning.specs.Cursor.{CursorState}

-- a cursor as a number for its kind, and the parts of all kinds
abbrev Parts : Type 0
Parts = ℕ × (List ℕ × (Option ℕ × (List (List Value) × ℕ)))

abbrev to_parts : CursorState → Parts
to_parts CursorState.closed = (0, ([], (None, ([], 0))))
to_parts (CursorState.over_numbers numbers on) = (1, (numbers, (on, ([], 0))))
to_parts (CursorState.over_rows rows place) = (2, ([], (None, (rows, place))))

abbrev of_kind : ℕ → Parts → CursorState
of_kind zero p = CursorState.closed
of_kind (suc zero) p = CursorState.over_numbers p.1.0 p.1.1.0
of_kind (suc (suc n)) p = CursorState.over_rows p.1.1.1.0 p.1.1.1.1

abbrev from_parts : Parts → CursorState
from_parts p = of_kind p.0 p

pub from_parts-to_parts : (c : CursorState) → from_parts (to_parts c) ≡ c
from_parts-to_parts CursorState.closed = refl
from_parts-to_parts (CursorState.over_numbers numbers on) = refl
from_parts-to_parts (CursorState.over_rows rows place) = refl

abbrev pub cursor_code : Coded CursorState
cursor_code =
    code_by Parts (coded× coded_ℕ (coded× (coded_list coded_ℕ) (coded× (coded_option coded_ℕ)
    (coded× (coded_list (coded_list value.the_row.coded)) coded_ℕ)))) to_parts from_parts from_parts-to_parts
