-- Views over small tables, computed by the definitions: their rows, their targets, and what check options demand;
-- ORDER BY, parameters and USER.
use Rattle.std.specs.Prelude.{◌≡◌, ℕ, pos, negsuc, true, false, List, [], ◌∷◌, codes, refl, Some, None, Ok, Err}
use Rattle.sq_lex.specs.declared.name.Name.{Name}
use Rattle.sq_value.specs.declared.domain.Kind.TheVariants as kind
use Rattle.sq_value.specs.declared.value.Value.{Value}
use Rattle.sq_value.specs.declared.value.Value.TheVariants.{Null, Num, Chars}
use Rattle.sq_store.specs.Content.{Content}
use Rattle.sq_store.specs.declared.table.Numbered.{Numbered}
use Rattle.sq_tree.specs.declared.cond.Comparison.TheVariants.{Equal, Less, Greater}
use Rattle.sq_tree.specs.declared.expr.TimesSign.TheVariants.{Over}
use Rattle.sq_tree.specs.declared.«module».SortDirection.TheVariants.{Desc}
use Rattle.sq_tree.specs.declared.«module».SortKey.TheVariants.{Column, Position}
use Rattle.sq_tree.specs.declared.«module».SortSpecification.{SortSpecification}
use Rattle.sq_meaning.specs.Status.{Outcome, ◌>>=◌, not_well_formed}
use Rattle.sq_meaning.specs.declared.status.Status.TheVariants.{CheckOptionViolation, DivisionByZero}
use Rattle.sq_meaning.specs.Syntax.{Expr, literal, parameter, column, user, scaled, bracketed, expressions, Clause, Select, Query, compare, between, in_list, absent, present, select, specification}
use Rattle.sq_meaning.specs.Environment.{Row, Env, Item, Input, TableName, TableReference, outermost}
use Rattle.sq_meaning.specs.Expression.{value}
use Rattle.sq_meaning.specs.Query.{rows}
use Rattle.sq_meaning.specs.QueryExpression.{ordered_rows}
use Rattle.sq_meaning.specs.Spelled.{Named}
use Rattle.sq_meaning.specs.Tables.{Tables, ColumnDescriptor, base_table, viewed_table, table_rows, by_name, kinds_by_name}
use Rattle.sq_meaning.specs.SortKeys.{query_names, sort_columns}
use Rattle.sq_meaning.specs.Target.{target_of, searched_target, cursor_target, chosen_numbers, meets_check_option}

abbrev whole : ℕ → Value
whole n = Num (record { unscaled = pos n; scale = 0 })

abbrev own : Name → TableName
own name = record { user = codes "U"; name = name }

abbrev from : Name → List TableReference
from name = record { table = own name; correlation = None } ∷ []

abbrev col : Name → Expr Named
col name = column (record { qualifier = None; column = name })

abbrev K : Expr Named
K = col (codes "K")

abbrev A : Expr Named
A = col (codes "A")

abbrev K_and_A : List ColumnDescriptor
K_and_A = record { name = codes "K"; kind = kind.Num 0 } ∷ record { name = codes "A"; kind = kind.Num 0 } ∷ []

abbrev above : ℕ → Clause Named
above n = present (compare Greater A (literal (whole n)))

abbrev below : ℕ → Clause Named
below n = present (compare Less A (literal (whole n)))

abbrev both_columns : Name → Clause Named → Select Named
both_columns name condition = select false (expressions (K ∷ A ∷ [])) (from name) condition [] absent

-- CREATE TABLE T (A INTEGER, C CHAR (1), K INTEGER)
-- CREATE VIEW V AS SELECT K, A FROM T WHERE A > 10
-- CREATE VIEW W AS SELECT K, A FROM V WHERE A < 20 WITH CHECK OPTION
-- CREATE VIEW V2 AS SELECT K, A FROM T WHERE A > 10 WITH CHECK OPTION
-- CREATE VIEW W2 AS SELECT K, A FROM V2 WHERE A < 20
-- CREATE VIEW D AS SELECT DISTINCT K, A FROM T
abbrev tables : Tables
tables =
    record { table = own (codes "D"); columns = K_and_A; body = viewed_table (select true (expressions (K ∷ A ∷ [])) (from (codes "T")) absent [] absent) false }
    ∷ record { table = own (codes "W2"); columns = K_and_A; body = viewed_table (both_columns (codes "V2") (below 20)) false }
    ∷ record { table = own (codes "V2"); columns = K_and_A; body = viewed_table (both_columns (codes "T") (above 10)) true }
    ∷ record { table = own (codes "W"); columns = K_and_A; body = viewed_table (both_columns (codes "V") (below 20)) true }
    ∷ record { table = own (codes "V"); columns = K_and_A; body = viewed_table (both_columns (codes "T") (above 10)) false }
    ∷ record { table = own (codes "T"); columns = record { name = codes "A"; kind = kind.Num 0 } ∷ record { name = codes "C"; kind = kind.Chars 1 } ∷ record { name = codes "K"; kind = kind.Num 0 } ∷ []; body = base_table 0 }
    ∷ []

abbrev row : ℕ → ℕ → Row
row k a = whole a ∷ Null ∷ whole k ∷ []

abbrev numbered : List Numbered
numbered = record { number = 1; row = row 1 15 } ∷ record { number = 2; row = row 2 30 } ∷ record { number = 4; row = row 3 5 } ∷ record { number = 5; row = Null ∷ Null ∷ whole 4 ∷ [] } ∷ []

abbrev content : Content
content = record { rows = numbered; next = 6 } ∷ []

abbrev env : Env Item
env = outermost [] (codes "U")

-- ---- rows of views

rows_of_V : table_rows tables content (codes "U") (own (codes "V")) ≡ Ok ((whole 1 ∷ whole 15 ∷ []) ∷ (whole 2 ∷ whole 30 ∷ []) ∷ [])
rows_of_V = refl

rows_of_W : table_rows tables content (codes "U") (own (codes "W")) ≡ Ok ((whole 1 ∷ whole 15 ∷ []) ∷ [])
rows_of_W = refl

unknown_table : table_rows tables content (codes "U") (own (codes "Z")) ≡ not_well_formed
unknown_table = refl

-- ---- targets: DELETE FROM W WHERE A = 15 means row 1, and a view with DISTINCT is none

numbers_in_W : (searched_target tables (own (codes "W")) (present (compare Equal A (literal (whole 15)))) >>= λ t. chosen_numbers (by_name tables content (codes "U")) env t numbered) ≡ Ok (1 ∷ [])
numbers_in_W = refl

numbers_in_V : (searched_target tables (own (codes "V")) absent >>= λ t. chosen_numbers (by_name tables content (codes "U")) env t numbered) ≡ Ok (1 ∷ 2 ∷ [])
numbers_in_V = refl

no_target : target_of tables (own (codes "D")) ≡ not_well_formed
no_target = refl

-- SELECT (K) FROM T is not updatable: brackets make it no column reference
no_cursor_target : cursor_target tables (select false (expressions (bracketed K ∷ [])) (from (codes "T")) absent [] absent) ≡ not_well_formed
no_cursor_target = refl

-- ---- check options: W demands both conditions, W2 only that of V2

abbrev checked : Name → Row → Outcome (Unit {0})
checked name r = target_of tables (own name) >>= λ t. meets_check_option (by_name tables content (codes "U")) env t r

low_for_W : checked (codes "W") (row 1 5) ≡ Err CheckOptionViolation
low_for_W = refl

high_for_W : checked (codes "W") (row 1 30) ≡ Err CheckOptionViolation
high_for_W = refl

in_W : checked (codes "W") (row 1 15) ≡ Ok tt
in_W = refl

high_for_W2 : checked (codes "W2") (row 2 30) ≡ Ok tt
high_for_W2 = refl

low_for_W2 : checked (codes "W2") (row 3 5) ≡ Err CheckOptionViolation
low_for_W2 = refl

-- ---- SELECT A, K FROM T ORDER BY A DESC, 2: null comes last

abbrev A_and_K : Query Named
A_and_K = specification (select false (expressions (A ∷ K ∷ [])) (from (codes "T")) absent [] absent)

abbrev order : List SortSpecification
order = record { key = Column (codes "A"); direction = Some Desc } ∷ record { key = Position (codes "2"); direction = None } ∷ []

in_order : (query_names tables A_and_K >>= λ names. sort_columns names order >>= λ columns. ordered_rows (by_name tables content (codes "U")) (kinds_by_name tables []) A_and_K columns env)
    ≡ Ok ((whole 30 ∷ whole 2 ∷ []) ∷ (whole 15 ∷ whole 1 ∷ []) ∷ (whole 5 ∷ whole 3 ∷ []) ∷ (Null ∷ whole 4 ∷ []) ∷ [])
in_order = refl

-- a position with a point is none
no_position : sort_columns (Some (codes "A") ∷ []) (record { key = Position (codes "1."); direction = None } ∷ []) ≡ not_well_formed
no_position = refl

-- ---- BETWEEN stops at false, a list after IN at true

abbrev faulty : Expr Named
faulty = scaled Over (literal (whole 1)) (literal (whole 0))

stops : rows (by_name tables content (codes "U")) (select false (expressions (K ∷ [])) (from (codes "T")) (present (between (literal (whole 2)) (literal (whole 3)) faulty)) [] absent) env ≡ Ok []
stops = refl

stops_in_list : rows (by_name tables content (codes "U")) (select false (expressions (literal (whole 7) ∷ [])) (from (codes "V")) (present (in_list (literal (whole 1)) (literal (whole 1) ∷ faulty ∷ []))) [] absent) env ≡ Ok ((whole 7 ∷ []) ∷ (whole 7 ∷ []) ∷ [])
stops_in_list = refl

goes_on : rows (by_name tables content (codes "U")) (select false (expressions (K ∷ [])) (from (codes "T")) (present (in_list (literal (whole 2)) (literal (whole 1) ∷ faulty ∷ []))) [] absent) env ≡ Err DivisionByZero
goes_on = refl

-- ---- parameters and USER

abbrev inputs : List Input
inputs = record { name = codes "P"; value = whole 7 } ∷ record { name = codes "I"; value = Num (record { unscaled = negsuc 0; scale = 0 }) } ∷ []

a_parameter : value (by_name tables content (codes "U")) (parameter (record { name = codes "P"; indicator = None })) (outermost inputs (codes "U")) ≡ Ok (whole 7)
a_parameter = refl

null_by_indicator : value (by_name tables content (codes "U")) (parameter (record { name = codes "P"; indicator = Some (record { word = true; name = codes "I" }) })) (outermost inputs (codes "U")) ≡ Ok Null
null_by_indicator = refl

the_user : value (by_name tables content (codes "U")) user env ≡ Ok (Chars (codes "U                 "))
the_user = refl
