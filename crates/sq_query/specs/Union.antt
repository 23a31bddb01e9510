-- Query expressions (ISO/IEC 9075:1992, 7.10).
use Rattle.std.specs.Prelude.{◌≡◌, ◌≤◌, ⊤, Bool, true, false, nat_eq, if◌then◌else◌, List, ◌++◌, Option, None, Some, IfSome, IfOk, Result, Vec, Ok}
use Rattle.std.specs.Cmp.Lexicographic.{pointwise}
use Rattle.std.specs.List.{AllByRecursion, zip}
use Rattle.std.specs.declared.alloc.Global.{Global}
use Rattle.sq_value.specs.declared.domain.Kind.{Kind}
use Rattle.sq_value.specs.declared.domain.Kind.TheVariants as kind
use Rattle.sq_value.specs.declared.value.Value.{Value}
use Rattle.sq_value.specs.declared.value.Value.TheVariants.{Num}
use Rattle.sq_meaning.specs.Status.{Outcome, ◌>>=◌, each}
use Rattle.sq_meaning.specs.Environment.{Row}
use Rattle.sq_meaning.specs.QueryExpression.{row_brought_to}
use Rattle.sq_meaning.specs.Rows.{firsts, same_row}
use Rattle.sq_meaning.specs.WellFormed.{Fits, AreRowsOf}
use Rattle.sq_bound.specs.WellFormed.{TableKinds, kinds_of_results}
use Rattle.sq_bound.specs.declared.condition.ResultColumn.{ResultColumn}
use Rattle.sq_bound.specs.declared.condition.TablePlace.{TablePlace}
use Rattle.sq_bound.specs.declared.query.BoundUnion.{BoundUnion}
use Rattle.sq_expression.specs.Fault.{MeetsAs}
use Rattle.sq_expression.specs.declared.fault.Fault.{Fault}

-- ---- what is read

-- each table that is known has rows of its columns' kinds, or ends with a status other than 42000
abbrev pub AreFitting : TableKinds → (TablePlace → Outcome (List Row)) → Type 0
AreFitting columns tables = (t : TablePlace) → Fits AreRowsOf (columns t) (tables t)

-- ---- both sides of UNION

-- a value that may be brought to a kind: of a number the scale isn't greater
abbrev pub MayBeBrought : Kind → Value → Type 0
MayBeBrought (kind.Num s) (Num n) = n.scale ≤ s
MayBeBrought _ _ = ⊤

abbrev pub IsBringable : List Kind → Row → Type 0
IsBringable kinds row = AllByRecursion (λ p. MayBeBrought p.0 p.1) (zip kinds row)

abbrev pub AreBringable : List Kind → List Row → Type 0
AreBringable kinds = AllByRecursion (IsBringable kinds)

-- all brought to their common kinds; without ALL each row at its first occurrence
abbrev pub joined_rows : Bool → List Kind → List Row → Outcome (List Row)
joined_rows all kinds found =
    each (row_brought_to kinds) found >>= λ joined. Ok (if all then joined else firsts same_row joined)

-- ---- UNION after UNION

-- rows that were brought to these kinds: they are the same where they are brought to them once more
abbrev pub AreBrought : List Kind → List Row → Type 0
AreBrought kinds = AllByRecursion (λ row. row_brought_to kinds row ≡ Ok row)

-- the rows that a UNION has left, if there was one
abbrev pub WereJoined : Option BoundUnion → List Row → Type 0
WereJoined before rows = IfSome before (λ u. AreBrought (kinds_of_results u.columns) rows)

-- the rows that a UNION means of those that were joined: without ALL each row at its first occurrence
abbrev pub rows_behind : Option BoundUnion → List Row → List Row
rows_behind None rows = rows
rows_behind (Some u) rows = if u.all then rows else firsts same_row rows

abbrev pub rows_left : BoundUnion → Vec (List Value) Global → List Row
rows_left u rows = rows_behind (Some u) rows.items

-- The right rows are joined to the left ones, of which repeats may be left. What the UNION means of them all is what it means of the left ones that
-- the UNION before means, and of the right ones; and all are brought to its columns.
abbrev pub IsJoinedTo : Option BoundUnion → BoundUnion → List Row → List Row
    → Result (Vec (List Value) Global) Fault → Type 0
IsJoinedTo before u left right result =
    WereJoined before left → AreBringable (kinds_of_results u.columns) (rows_behind before left ++ right)
    → (MeetsAs (rows_left u) result
    (joined_rows u.all (kinds_of_results u.columns) (rows_behind before left ++ right)))
    × (IfOk result (λ rows. AreBrought (kinds_of_results u.columns) rows.items))

-- what was brought to the one kind is the same where it is brought to the other: a varying text is as it is
abbrev pub stays : Kind → Kind → Bool
stays (kind.Num s) (kind.Num t) = nat_eq s t
stays (kind.Chars m) (kind.Chars n) = nat_eq m n
stays (kind.Chars m) (kind.Vary n) = true
stays (kind.Vary m) (kind.Vary n) = true
stays _ _ = false

abbrev pub all_stay : List ResultColumn → List ResultColumn → Bool
all_stay = pointwise (λ c d. stays c.kind d.kind)
