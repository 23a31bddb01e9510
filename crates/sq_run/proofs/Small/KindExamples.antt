-- Well-formed queries and ill-formed ones, computed by the definitions.
use Rattle.std.specs.Prelude.{◌≡◌, ℕ, pos, true, false, List, [], ◌∷◌, codes, refl, None}
use Rattle.sq_lex.specs.declared.name.Name.{Name}
use Rattle.sq_value.specs.declared.domain.Kind.TheVariants as kind
use Rattle.sq_value.specs.declared.value.Value.{Value}
use Rattle.sq_value.specs.declared.value.Value.TheVariants.{Num, Chars}
use Rattle.sq_store.specs.Content.{Content}
use Rattle.sq_tree.specs.declared.expr.Sign.TheVariants.{Plus}
use Rattle.sq_tree.specs.declared.expr.SetFunction.TheVariants.{Max}
use Rattle.sq_tree.specs.declared.cond.Comparison.TheVariants.{Equal}
use Rattle.sq_tree.specs.declared.names.ColumnReference.{ColumnReference}
use Rattle.sq_meaning.specs.Status.{Outcome, not_well_formed}
use Rattle.sq_meaning.specs.Syntax.{Expr, literal, column, count_rows, set_function, added, expressions, Clause, Select, compare, compare_subquery, absent, present, select, specification}
use Rattle.sq_meaning.specs.Environment.{Row, TableName, outermost}
use Rattle.sq_meaning.specs.Query.{rows}
use Rattle.sq_meaning.specs.Spelled.{Named}
use Rattle.sq_meaning.specs.Tables.{Tables, base_table, by_name, kinds_by_name}
use Rattle.sq_meaning.specs.WellFormed.{Answers, AreRowsOf, WellFormedSelect}
use Rattle.sq_meaning.specs.Database.{IsDatabaseOf, IsDeclaredIn}
use Rattle.sq_meaning.proofs.ReadingKinds.{cursor_of_kinds}

-- ---- the table: T has (1, 'A'), and its columns are K and C; N has no row

abbrev whole : ℕ → Value
whole n = Num (record { unscaled = pos n; scale = 0 })

abbrev own : Name → TableName
own name = record { user = codes "U"; name = name }

abbrev tables : Tables
tables =
    record { table = own (codes "N"); columns = record { name = codes "K"; kind = kind.Num 0 } ∷ []; body = base_table 1 }
    ∷ record { table = own (codes "T"); columns = record { name = codes "K"; kind = kind.Num 0 } ∷ record { name = codes "C"; kind = kind.Chars 1 } ∷ []; body = base_table 0 } ∷ []

abbrev content : Content
content = record { rows = record { number = 1; row = whole 1 ∷ Chars (codes "A") ∷ [] } ∷ []; next = 2 } ∷ record { rows = []; next = 1 } ∷ []

declared_so : IsDatabaseOf tables content (codes "U")
declared_so = (tt, (((refl, (refl, tt)), tt), tt))

-- ---- queries

abbrev named : Name → ColumnReference
named name = record { qualifier = None; column = name }

abbrev K : Expr Named
K = column (named (codes "K"))

abbrev C : Expr Named
C = column (named (codes "C"))

abbrev one : Expr Named
one = literal (whole 1)

abbrev of_table : Name → List (Expr Named) → Clause Named → List ColumnReference → Select Named
of_table name es condition by = select false (expressions es) (record { table = own name; correlation = None } ∷ []) condition by absent

abbrev IsWellFormed : Select Named → Type 0
IsWellFormed q = WellFormedSelect (by_name tables content (codes "U")) (kinds_by_name tables []) (IsDeclaredIn []) [] q

abbrev found : Select Named → Outcome (List Row)
found q = rows (by_name tables content (codes "U")) q (outermost [] (codes "U"))

-- SELECT C, COUNT(*) FROM T WHERE K = 1 GROUP BY C

abbrev by_c : Select Named
by_c = of_table (codes "T") (C ∷ count_rows ∷ []) (present (compare Equal K one)) (named (codes "C") ∷ [])

by_c_is_well_formed : IsWellFormed by_c
by_c_is_well_formed = (((tt, tt), tt), ((tt, refl), ((tt, tt), tt)), ((tt, refl), (tt, tt), refl), ((tt, refl), tt), tt)

-- Since it is well formed, it is not answered with 42000.
by_c_answers : Answers (λ rs. AreRowsOf (kind.Chars 1 ∷ kind.Num 0 ∷ []) rs) (found by_c)
by_c_answers = cursor_of_kinds tables content (codes "U") [] [] (specification by_c) [] declared_so tt by_c_is_well_formed

-- SELECT C, COUNT(*) FROM T: C is no grouping column

not_grouped : IsWellFormed (of_table (codes "T") (C ∷ count_rows ∷ []) absent []) → false ≡ true
not_grouped w = w.1.0.1

-- SELECT K, COUNT(*) FROM N, where N has no row: there is no line to read K in

no_line : found (of_table (codes "N") (K ∷ count_rows ∷ []) absent []) ≡ not_well_formed
no_line = refl

-- SELECT MAX(K) FROM N: K is read in a set function

in_function : IsWellFormed (of_table (codes "N") (set_function Max false K ∷ []) absent [])
in_function = (((tt, tt), tt), ((tt, (tt, refl)), tt), tt, tt, tt)

-- SELECT K + C FROM T: a text in a sum

text_in_sum : IsWellFormed (of_table (codes "T") (added Plus K C ∷ []) absent []) → ⊥
text_in_sum w = w.1.0.0

-- SELECT K FROM T WHERE K = C: a number is compared with a text

not_comparable : IsWellFormed (of_table (codes "T") (K ∷ []) (present (compare Equal K C)) []) → false ≡ true
not_comparable w = w.2.2

-- SELECT K FROM T WHERE K = (SELECT K, C FROM T): a subquery of two columns

two_columns : IsWellFormed (of_table (codes "T") (K ∷ []) (present (compare_subquery Equal K (of_table (codes "T") (K ∷ C ∷ []) absent []))) []) → ⊥
two_columns w = w.2.1
