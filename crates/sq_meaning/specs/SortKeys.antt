-- Names of result columns (ISO/IEC 9075:1992, 7.9 and 7.10), and the columns that ORDER BY sorts by (13.1).
use Rattle.std.specs.Prelude.{ℕ, ◌-◌, ◌&&◌, nat_le, Bool, true, false, if◌then◌else◌, List, [], ◌∷◌, length, map, Option, Some, None, Ok}
use Rattle.std.specs.List.{filter_map, enumerate_from, flat_map, zip}
use Rattle.sq_lex.specs.declared.name.Name.{Name}
use Rattle.sq_tree.specs.declared.«module».SortDirection.{SortDirection}
use Rattle.sq_tree.specs.declared.«module».SortDirection.TheVariants.{Asc, Desc}
use Rattle.sq_tree.specs.declared.«module».SortKey.{SortKey}
use Rattle.sq_tree.specs.declared.«module».SortKey.TheVariants.{Column, Position}
use Rattle.sq_tree.specs.declared.«module».SortSpecification.{SortSpecification}
use Rattle.sq_meaning.specs.Status.{Outcome, ◌>>=◌, each, not_well_formed}
use Rattle.sq_meaning.specs.Syntax.{Expr, column, all_columns, expressions, Select, select, Query, specification, union}
use Rattle.sq_meaning.specs.Environment.{same_name}
use Rattle.sq_meaning.specs.Rows.{SortColumn}
use Rattle.sq_meaning.specs.Spelled.{Named, spelled_whole}
use Rattle.sq_meaning.specs.Tables.{Tables, item_of}

-- a select item has a name if it is a column reference and nothing more
abbrev pub item_name : Expr Named → Option Name
item_name (column c) = Some c.column
item_name _ = None

-- `*` has the names of all columns
abbrev pub select_names : Tables → Select Named → Outcome (List (Option Name))
select_names tables (select distinct all_columns from filter by having) =
    each (item_of tables) from >>= λ heads. Ok (flat_map (λ head. map Some head.columns) heads)
select_names tables (select distinct (expressions es) from filter by having) = Ok (map item_name es)

-- a column of UNION has a name if both sides have the same
abbrev pub common_name : Option Name → Option Name → Option Name
common_name None n = None
common_name (Some m) None = None
common_name (Some m) (Some n) = if same_name m n then Some m else None

abbrev pub query_names : Tables → Query Named → Outcome (List (Option Name))
query_names tables (specification q) = select_names tables q
query_names tables (union all left right) =
    query_names tables left
    >>= λ ls. query_names tables right
    >>= λ rs. Ok (map (λ p. common_name p.0 p.1) (zip ls rs))

abbrev pub is_named : Name → Option Name → Bool
is_named name None = false
is_named name (Some n) = same_name n name

-- the only one
abbrev pub only_of : List ℕ → Outcome ℕ
only_of (k ∷ []) = Ok k
only_of _ = not_well_formed

abbrev pub columns_named : Name → List (Option Name) → List ℕ
columns_named name names =
    filter_map (λ p. if is_named name p.1 then Some p.0 else None) (enumerate_from 0 names)

abbrev pub column_numbered : List (Option Name) → Option ℕ → Outcome ℕ
column_numbered names None = not_well_formed
column_numbered names (Some k) = if nat_le 1 k && nat_le k (length names) then Ok (k - 1) else not_well_formed

-- a name that is exactly one column's, or a position written without a point, counted from 1
abbrev pub key_column : List (Option Name) → SortKey → Outcome ℕ
key_column names (Column name) = only_of (columns_named name names)
key_column names (Position number) = column_numbered names (spelled_whole number)

abbrev pub goes_down : Option SortDirection → Bool
goes_down None = false
goes_down (Some Asc) = false
goes_down (Some Desc) = true

abbrev pub sort_columns : List (Option Name) → List SortSpecification → Outcome (List SortColumn)
sort_columns names =
    each (λ s. key_column names s.key >>= λ k. Ok (record { column = k; descending = goes_down s.direction }))
