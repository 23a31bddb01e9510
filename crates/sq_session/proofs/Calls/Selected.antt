-- A select statement of one row, from the rows of its query.
use Rattle.std.proofs.Common.{◌≡◌, List, Result, Ok, Err, refl, sym, ap, IfSome}
use Rattle.std.specs.Prelude.{Vec}
use Rattle.std.specs.declared.alloc.Global.{Global}
use Rattle.sq_lex.specs.declared.name.Name.{Name}
use Rattle.sq_value.specs.declared.value.Value.{Value}
use Rattle.sq_store.specs.Content.{Content}
use Rattle.sq_meaning.specs.Environment.{Row, outermost}
use Rattle.sq_meaning.specs.Placed.{by_place}
use Rattle.sq_meaning.specs.Query.{rows}
use Rattle.sq_meaning.specs.Status.{Outcome, and_then}
use Rattle.sq_meaning.specs.Machine.{single_row}
use Rattle.sq_bound.specs.Condition.{select_of}
use Rattle.sq_bound.specs.declared.condition.TablePlace.{TablePlace}
use Rattle.sq_expression.specs.Fault.{HasRows, Meets, status_of}
use Rattle.sq_expression.specs.Frame.{inputs_of}
use Rattle.sq_query.specs.Table.{AreMeant}
use Rattle.sq_expression.specs.declared.fault.Failure.{Failure}
use Rattle.sq_expression.specs.declared.fault.Fault.{Fault}
use Rattle.sq_expression.specs.declared.fault.Fault.TheVariants as fault
use Rattle.sq_session.specs.Kind.{Selecting}
use Rattle.sq_session.specs.Schemas.{Schemas}
use Rattle.sq_session.specs.Step.{SelectIsMeant, Selects, ended_by, ending}
use Rattle.sq_session.specs.Target.{row_reply}
use Rattle.sq_session.specs.declared.reply.Done.{Done}

-- what is answered is what is meant, where the query reads the values and the user of the call
abbrev pub IsAnswered : Schemas → Selecting → Name → List Value → Content → Result (Vec (List Value) Global) Fault → Type 0
IsAnswered sc s given inputs tables result =
    (shown : TablePlace → Outcome (List Row)) → AreMeant sc.views tables given shown → HasRows result (rows (by_place shown) (select_of s.query) (outermost (inputs_of inputs) given))

pub found_meant : (sc : Schemas) (s : Selecting) (given : Name) (inputs values : List Value) (tables : Content) (v : Vec (List Value) Global) → given ≡ s.user → inputs ≡ values
    → IsAnswered sc s given inputs tables (Ok v) → SelectIsMeant sc s values tables (Ok v.items)
found_meant sc s given inputs values tables v same_user same_values h = rw (sym same_user, sym same_values) (λ shown are. sym (h shown are))

none_meant : (sc : Schemas) (s : Selecting) (given : Name) (inputs values : List Value) (tables : Content) (f : Failure) → given ≡ s.user → inputs ≡ values
    → IsAnswered sc s given inputs tables (Err (fault.Status f)) → SelectIsMeant sc s values tables (Err (status_of f))
none_meant sc s given inputs values tables f same_user same_values h = rw (sym same_user, sym same_values) (λ shown are. sym (h shown are))

-- the query has rows
pub selects_from : (sc : Schemas) (s : Selecting) (values : List Value) (tables : Content) (found : List (List Value)) (r : Result Done Fault) → SelectIsMeant sc s values tables (Ok found)
    → Meets r (and_then (single_row found) (row_reply s.parameters s.targets)) → IfSome (ending r) (Selects sc s values tables)
selects_from sc s values tables found (Ok d) meant h = record { found = Ok found; meant = meant; ends = sym (ap ended_by h) }
selects_from sc s values tables found (Err (fault.Status f)) meant h = record { found = Ok found; meant = meant; ends = sym (ap ended_by h) }
selects_from sc s values tables found (Err fault.NoMemory) meant h = tt

-- it ends with a status
pub selects_none : (sc : Schemas) (s : Selecting) (given : Name) (inputs values : List Value) (tables : Content) (f : Fault) → given ≡ s.user → inputs ≡ values
    → IsAnswered sc s given inputs tables (Err f) → IfSome (ending (Err f)) (Selects sc s values tables)
selects_none sc s given inputs values tables (fault.Status f) same_user same_values h =
    record { found = Err (status_of f); meant = none_meant sc s given inputs values tables f same_user same_values h; ends = refl }
selects_none sc s given inputs values tables fault.NoMemory same_user same_values h = tt
