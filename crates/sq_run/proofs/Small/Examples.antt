-- Queries over small tables, computed by the definitions.
use Rattle.std.specs.Prelude.{◌≡◌, ℕ, pos, true, false, List, [], ◌∷◌, codes, refl, Some, None, Ok, Err}
use Rattle.sq_lex.specs.declared.name.Name.{Name}
use Rattle.sq_value.specs.declared.domain.Kind.TheVariants as kind
use Rattle.sq_value.specs.declared.value.Value.{Value}
use Rattle.sq_value.specs.declared.value.Value.TheVariants.{Null, Num, Chars}
use Rattle.sq_store.specs.Content.{Content}
use Rattle.sq_tree.specs.declared.expr.Sign.TheVariants.{Minus}
use Rattle.sq_tree.specs.declared.expr.TimesSign.TheVariants.{Over}
use Rattle.sq_tree.specs.declared.expr.SetFunction.TheVariants.{Count, Max}
use Rattle.sq_tree.specs.declared.cond.Comparison.TheVariants.{Equal, Less, Greater}
use Rattle.sq_meaning.specs.Status.{Outcome}
use Rattle.sq_meaning.specs.declared.status.Status.TheVariants.{NumericValueOutOfRange, CardinalityViolation, DivisionByZero}
use Rattle.sq_meaning.specs.Syntax.{Expr, literal, column, count_rows, set_function, added, scaled, expressions, Cond, Clause, Select, Query, compare, compare_subquery, in_subquery, exists, negated, conjunction, absent, present, select, conds, specification, union}
use Rattle.sq_meaning.specs.Environment.{Row, TableName, TableReference, outermost}
use Rattle.sq_meaning.specs.Query.{rows}
use Rattle.sq_meaning.specs.QueryExpression.{query_rows}
use Rattle.sq_meaning.specs.Spelled.{Named}
use Rattle.sq_meaning.specs.Tables.{Tables, ColumnDescriptor, base_table, by_name, kinds_by_name}

-- ---- the tables: T has (1, 11, 'A'), (2, null, 'A'), (3, 11, 'B'), N has (999999999999999999, null)

abbrev whole : ℕ → Value
whole n = Num (record { unscaled = pos n; scale = 0 })

abbrev own : Name → TableName
own name = record { user = codes "U"; name = name }

abbrev numbers_column : Name → ColumnDescriptor
numbers_column name = record { name = name; kind = kind.Num 0 }

abbrev tables : Tables
tables =
    record { table = own (codes "N"); columns = numbers_column (codes "X") ∷ numbers_column (codes "I") ∷ []; body = base_table 1 }
    ∷ record { table = own (codes "T"); columns = numbers_column (codes "K") ∷ numbers_column (codes "A") ∷ record { name = codes "C"; kind = kind.Chars 1 } ∷ []; body = base_table 0 }
    ∷ []

abbrev content : Content
content =
    record {
      rows =
          record { number = 1; row = whole 1 ∷ whole 11 ∷ Chars (codes "A") ∷ [] }
          ∷ record { number = 2; row = whole 2 ∷ Null ∷ Chars (codes "A ") ∷ [] }
          ∷ record { number = 3; row = whole 3 ∷ whole 11 ∷ Chars (codes "B") ∷ [] } ∷ [];
      next = 4;
    }
    ∷ record { rows = record { number = 1; row = whole 999999999999999999 ∷ Null ∷ [] } ∷ []; next = 2 } ∷ []

-- ---- names

abbrev col : Name → Expr Named
col name = column (record { qualifier = None; column = name })

abbrev of_item : Name → Name → Expr Named
of_item item name = column (record { qualifier = Some (record { schema = None; table = item }); column = name })

abbrev from : Name → TableReference
from name = record { table = own name; correlation = None }

abbrev from_as : Name → Name → TableReference
from_as name correlation = record { table = own name; correlation = Some correlation }

abbrev where_all : List (Cond Named) → Clause Named
where_all cs = present (conjunction (conds cs))

abbrev simple : List (Expr Named) → List TableReference → Clause Named → Select Named
simple es tables condition = select false (expressions es) tables condition [] absent

abbrev K : Expr Named
K = col (codes "K")

abbrev A : Expr Named
A = col (codes "A")

abbrev C : Expr Named
C = col (codes "C")

abbrev X : Expr Named
X = col (codes "X")

abbrev I : Expr Named
I = col (codes "I")

abbrev one : Expr Named
one = literal (whole 1)

abbrev T : List TableReference
T = from (codes "T") ∷ []

abbrev N : List TableReference
N = from (codes "N") ∷ []

abbrev found : Select Named → Outcome (List Row)
found q = rows (by_name tables content (codes "U")) q (outermost [] (codes "U"))

abbrev found_by : Query Named → Outcome (List Row)
found_by q = query_rows (by_name tables content (codes "U")) (kinds_by_name tables []) q (outermost [] (codes "U"))

-- ---- SELECT A, COUNT(*) FROM T GROUP BY A

groups : found (select false (expressions (A ∷ count_rows ∷ [])) T absent (record { qualifier = None; column = codes "A" } ∷ []) absent) ≡ Ok ((whole 11 ∷ whole 2 ∷ []) ∷ (Null ∷ whole 1 ∷ []) ∷ [])
groups = refl

-- SELECT C, COUNT(*) FROM T GROUP BY C: texts that differ in blanks are one group, which the first stands for

padded_groups : found (select false (expressions (C ∷ count_rows ∷ [])) T absent (record { qualifier = None; column = codes "C" } ∷ []) absent) ≡ Ok ((Chars (codes "A") ∷ whole 2 ∷ []) ∷ (Chars (codes "B") ∷ whole 1 ∷ []) ∷ [])
padded_groups = refl

-- SELECT P.K, Q.K FROM T P, T Q WHERE P.K < Q.K

pairs : found (simple (of_item (codes "P") (codes "K") ∷ of_item (codes "Q") (codes "K") ∷ []) (from_as (codes "T") (codes "P") ∷ from_as (codes "T") (codes "Q") ∷ []) (where_all (compare Less (of_item (codes "P") (codes "K")) (of_item (codes "Q") (codes "K")) ∷ [])))
    ≡ Ok ((whole 1 ∷ whole 2 ∷ []) ∷ (whole 1 ∷ whole 3 ∷ []) ∷ (whole 2 ∷ whole 3 ∷ []) ∷ [])
pairs = refl

-- SELECT K FROM T P WHERE EXISTS (SELECT K FROM T WHERE A = P.A AND K < P.K)

correlated : found (simple (K ∷ []) (from_as (codes "T") (codes "P") ∷ []) (where_all (exists (simple (K ∷ []) T (where_all (compare Equal A (of_item (codes "P") (codes "A")) ∷ compare Less K (of_item (codes "P") (codes "K")) ∷ []))) ∷ [])))
    ≡ Ok ((whole 3 ∷ []) ∷ [])
correlated = refl

-- SELECT K FROM T WHERE A NOT IN (SELECT I FROM N WHERE X = 0): NOT IN of no rows is true

not_in_none : found (simple (K ∷ []) T (where_all (negated (in_subquery A (simple (I ∷ []) N (where_all (compare Equal X (literal (whole 0)) ∷ [])))) ∷ []))) ≡ Ok ((whole 1 ∷ []) ∷ (whole 2 ∷ []) ∷ (whole 3 ∷ []) ∷ [])
not_in_none = refl

-- SELECT K FROM T WHERE A NOT IN (SELECT I FROM N): a null among them makes it unknown

not_in_null : found (simple (K ∷ []) T (where_all (negated (in_subquery A (simple (I ∷ []) N absent)) ∷ []))) ≡ Ok []
not_in_null = refl

-- SELECT COUNT(*) FROM T WHERE K > 9 HAVING COUNT(*) > 0

no_group : found (select false (expressions (count_rows ∷ [])) T (where_all (compare Greater K (literal (whole 9)) ∷ [])) [] (where_all (compare Greater count_rows (literal (whole 0)) ∷ []))) ≡ Ok []
no_group = refl

-- SELECT MAX(A) FROM T WHERE K > 9

greatest_of_none : found (simple (set_function Max false A ∷ []) T (where_all (compare Greater K (literal (whole 9)) ∷ []))) ≡ Ok ((Null ∷ []) ∷ [])
greatest_of_none = refl

-- SELECT COUNT(DISTINCT A) FROM T

distinct_count : found (simple (set_function Count true A ∷ []) T absent) ≡ Ok ((whole 1 ∷ []) ∷ [])
distinct_count = refl

abbrev one_hundredths : Value
one_hundredths = Num (record { unscaled = pos 100; scale = 2 })

-- SELECT 1 FROM N UNION SELECT 1.00 FROM N

one_row : found_by (union false (specification (simple (one ∷ []) N absent)) (specification (simple (literal one_hundredths ∷ []) N absent))) ≡ Ok ((one_hundredths ∷ []) ∷ [])
one_row = refl

-- SELECT 1 FROM N UNION ALL SELECT 1.00 FROM N

two_rows : found_by (union true (specification (simple (one ∷ []) N absent)) (specification (simple (literal one_hundredths ∷ []) N absent))) ≡ Ok ((one_hundredths ∷ []) ∷ (one_hundredths ∷ []) ∷ [])
two_rows = refl

-- SELECT X FROM N UNION ALL SELECT 0.5 FROM N

beyond_range : found_by (union true (specification (simple (X ∷ []) N absent)) (specification (simple (literal (Num (record { unscaled = pos 5; scale = 1 })) ∷ []) N absent))) ≡ Err NumericValueOutOfRange
beyond_range = refl

-- SELECT K FROM T WHERE A = (SELECT A FROM T)

several_rows : found (simple (K ∷ []) T (where_all (compare_subquery Equal A (simple (A ∷ []) T absent) ∷ []))) ≡ Err CardinalityViolation
several_rows = refl

-- SELECT 1 FROM T WHERE 1 / (K - K) = 1 AND K = 9: AND does not come to what would make it false, but K = 9 AND ..
-- stops

first_operand_first : found (simple (one ∷ []) T (where_all (compare Equal (scaled Over one (added Minus K K)) one ∷ compare Equal K (literal (whole 9)) ∷ []))) ≡ Err DivisionByZero
first_operand_first = refl

stops_at_false : found (simple (one ∷ []) T (where_all (compare Equal K (literal (whole 9)) ∷ compare Equal (scaled Over one (added Minus K K)) one ∷ []))) ≡ Ok []
stops_at_false = refl
