-- The rows of a query expression (ISO/IEC 9075:1992, 7.10), and their order (13.1).
use Rattle.std.specs.Prelude.{if◌then◌else◌, List, ◌++◌, Ok}
use Rattle.std.specs.List.{zip}
use Rattle.sq_value.specs.Arithmetic.{in_range, at_scale}
use Rattle.sq_value.specs.Comparison.{padded}
use Rattle.sq_value.specs.declared.domain.Kind.{Kind}
use Rattle.sq_value.specs.declared.domain.Kind.TheVariants as kind
use Rattle.sq_value.specs.declared.value.Value.{Value}
use Rattle.sq_value.specs.declared.value.Value.TheVariants.{Null, Num, Chars}
use Rattle.sq_meaning.specs.Status.{Outcome, ◌>>=◌, each, not_well_formed}
use Rattle.sq_meaning.specs.Syntax.{Naming, Query, specification, union}
use Rattle.sq_meaning.specs.Environment.{Row, Env}
use Rattle.sq_meaning.specs.Expression.{Reading, number_outcome}
use Rattle.sq_meaning.specs.Rows.{firsts, same_row, sorted, SortColumn, by_columns}
use Rattle.sq_meaning.specs.Kind.{Kinds, query_kinds}
use Rattle.sq_meaning.specs.Query.{rows}

-- a value as a column of a UNION has it: a number at the scale, a fixed text padded with blanks to the length. A
-- varying text is unchanged
abbrev pub brought_to : Kind → Value → Outcome Value
brought_to k Null = Ok Null
brought_to (kind.Num s) (Num n) = number_outcome (in_range s (at_scale s n))
brought_to (kind.Chars n) (Chars t) = Ok (Chars (padded n t))
brought_to (kind.Vary n) (Chars t) = Ok (Chars t)
brought_to _ _ = not_well_formed

abbrev pub row_brought_to : List Kind → Row → Outcome Row
row_brought_to kinds row = each (λ p. brought_to p.0 p.1) (zip kinds row)

-- the left rows and then the right ones, brought to their common kinds row by row; without ALL each row at its first
-- occurrence
abbrev pub query_rows : {N : Naming} → Reading N → Kinds N → Query N → Env N.Item → Outcome (List Row)
query_rows m k (specification q) env = rows m q env
query_rows m k (union all left right) env = do
  ls ← query_rows m k left env
  rs ← query_rows m k right env
  kinds ← query_kinds k (union all left right)
  joined ← each (row_brought_to kinds) (ls ++ rs)
  Ok (if all then joined else firsts same_row joined)

-- ORDER BY: the rows in order, null lowest (own rule), and ties as they were
abbrev pub ordered_rows : {N : Naming} → Reading N → Kinds N → Query N → List SortColumn → Env N.Item
    → Outcome (List Row)
ordered_rows m k q order env = query_rows m k q env >>= λ found. Ok (sorted (by_columns order) found)
