-- The bound forms of small queries, computed, and the faults that the rules find in them. They are over T (A INTEGER, B INTEGER,
-- C CHAR(3)) and S (A INTEGER, D INTEGER) of the user U, who holds SELECT on T alone.
use Rattle.std.specs.Prelude.{◌≡◌, ℕ, Bool, true, false, List, [], ◌∷◌, find, pos, codes, filter, refl, Option, Some, None, Ok, Err}
use Rattle.std.specs.Option.{option_map}
use Rattle.sq_value.specs.declared.domain.Kind.TheVariants as kinds
use Rattle.sq_value.specs.declared.value.Value.TheVariants as value
use Rattle.sq_tree.specs.declared.cond.Comparison.TheVariants as comparison
use Rattle.sq_tree.specs.declared.expr.SetFunction.TheVariants as word
use Rattle.sq_meaning.specs.Environment.{TableName, TableReference, same_name, same_table}
use Rattle.sq_meaning.specs.Spelled.{Named}
use Rattle.sq_meaning.specs.Syntax.{Clause, Cond, Expr, Select, all_columns, column, compare, compare_subquery, conds, conjunction, disjunction, exists, expressions, in_subquery, literal, present, select, set_function}
use Rattle.sq_meaning.specs.Syntax as tree
use Rattle.sq_meaning.specs.Syntax.{absent}
use Rattle.sq_meaning.specs.Tables.{ColumnDescriptor, TableBody, TableDescriptor, Tables}
use Rattle.sq_meaning.specs.Tables.{base_table, viewed_table}
use Rattle.sq_bound.specs.Expression.{PlacedExpr}
use Rattle.sq_bound.specs.declared.condition.Compared.TheVariants as compared
use Rattle.sq_bound.specs.declared.condition.TablePlace.{TablePlace}
use Rattle.sq_bound.specs.declared.condition.TablePlace.TheVariants as at
use Rattle.sq_meaning.specs.Binding.{Judged, has_fault, lacks_privilege, syntax_faults}
use Rattle.sq_meaning.specs.Site.{outside, select_sites}
use Rattle.sq_meaning.specs.declared.fault.BindingFault.{BindingFault}
use Rattle.sq_meaning.specs.declared.fault.BindingFault.TheVariants as fault
use Rattle.sq_binding.specs.Condition.{select_bound, subquery}
use Rattle.sq_binding.specs.Found.{Found}
use Rattle.sq_binding.specs.From.{NamedTable, NamedTables}
use Rattle.sq_binding.specs.Numbered.{Numbered}
use Rattle.sq_binding.specs.NumberedCondition.{NumberedClause, NumberedCond, NumberedConds, NumberedGroups, NumberedSelect, ResultColumn}
use Rattle.sq_binding.specs.Outcome.{Outcome}
use Rattle.sq_binding.specs.Select.{Surroundings}

-- ---- the tables

abbrev own : List ℕ → TableName
own name = record { user = codes "U"; name = name }

abbrev number_column : List ℕ → ColumnDescriptor
number_column name = record { name = name; kind = kinds.Num 0 }

abbrev tables : Tables
tables =
    record { table = own (codes "S"); columns = number_column (codes "A") ∷ number_column (codes "D") ∷ []; body = base_table 1 }
    ∷ record { table = own (codes "T"); columns = number_column (codes "A") ∷ number_column (codes "B") ∷ record { name = codes "C"; kind = kinds.Chars 3 } ∷ []; body = base_table 0 }
    ∷ []

abbrev is_held : TableName → Bool
is_held t = same_name t.name (codes "T")

abbrev judged : Judged
judged = record { known = record { tables = tables; parameters = []; cursors = [] }; holds = λ t p. is_held t }

abbrev place_in : TableBody → TablePlace
place_in (base_table n) = at.Base n
place_in (viewed_table q check_option) = at.View 0

abbrev meant : TableDescriptor → NamedTable
meant d = record { place = place_in d.body; columns = d.columns; may_select = is_held d.table; may_grant = is_held d.table }

abbrev names : NamedTables
names t = option_map meant (find (λ d. same_table d.table t) tables)

abbrev nowhere : Surroundings
nowhere = record { names = names; parameters = []; scopes = []; functions_allowed = false }

-- ---- what is bound, and the faults

abbrev bound_to : Select Named → Outcome (Found NumberedSelect)
bound_to q = select_bound nowhere q (record { functions = 0; subqueries = 0 })

abbrev fault_of : {A : Type 0} → Outcome A → Option BindingFault
fault_of (Ok x) = None
fault_of (Err f) = Some f

abbrev tree_in : Outcome (Found NumberedSelect) → Option NumberedSelect
tree_in (Ok x) = Some x.part
tree_in (Err f) = None

abbrev faults : Select Named → List BindingFault
faults q = filter (has_fault judged (select_sites judged.known outside q)) syntax_faults

-- the fault that is answered is the only one
abbrev HasOnly : Select Named → BindingFault → Type 0
HasOnly q f = (fault_of (bound_to q) ≡ Some f) × (faults q ≡ f ∷ [])

-- ---- parts of queries

abbrev T : TableReference
T = record { table = own (codes "T"); correlation = None }

abbrev S : TableReference
S = record { table = own (codes "S"); correlation = None }

abbrev named : List ℕ → Expr Named
named name = column (record { qualifier = None; column = name })

abbrev qualified : List ℕ → List ℕ → Expr Named
qualified table name = column (record { qualifier = Some (record { schema = None; table = table }); column = name })

abbrev A : Expr Named
A = named (codes "A")

abbrev B : Expr Named
B = named (codes "B")

abbrev C : Expr Named
C = named (codes "C")

abbrev D : Expr Named
D = named (codes "D")

abbrev T_B : Expr Named
T_B = qualified (codes "T") (codes "B")

abbrev one : Expr Named
one = literal (value.Num (record { unscaled = pos 1; scale = 0 }))

abbrev sum : Expr Named → Expr Named
sum e = set_function word.Sum false e

abbrev plain : List (Expr Named) → TableReference → Select Named
plain list from = select false (expressions list) (from ∷ []) absent [] absent

-- the tests of one term
abbrev all_of : List (Cond Named) → Clause Named
all_of tests = present (disjunction (conds (conjunction (conds tests) ∷ [])))

abbrev only : Cond Named → Clause Named
only test = all_of (test ∷ [])

abbrev t_where : List (Expr Named) → Clause Named → Select Named
t_where list condition = select false (expressions list) (T ∷ []) condition [] absent

abbrev by_a : List (Expr Named) → Clause Named → Select Named
by_a list having = select false (expressions list) (T ∷ []) absent (record { qualifier = None; column = codes "A" } ∷ []) having

abbrev s_where : List (Expr Named) → Clause Named → Select Named
s_where list condition = select false (expressions list) (S ∷ []) condition [] absent

abbrev s_having : List (Expr Named) → Clause Named → Select Named
s_having list having = select false (expressions list) (S ∷ []) absent [] having

-- ---- faults

-- SELECT A FROM T, S
ambiguous_name : HasOnly (select false (expressions (A ∷ [])) (T ∷ S ∷ []) absent [] absent) fault.AmbiguousName
ambiguous_name = (refl, refl)

-- SELECT C FROM T, T
exposed_twice : HasOnly (select false (expressions (one ∷ [])) (T ∷ T ∷ []) absent [] absent) fault.AmbiguousName
exposed_twice = (refl, refl)

-- SELECT A, B FROM T GROUP BY A
ungrouped_column : HasOnly (by_a (A ∷ B ∷ []) absent) fault.UngroupedColumn
ungrouped_column = (refl, refl)

-- SELECT A, SUM(B) FROM T
ungrouped_beside_function : HasOnly (plain (A ∷ sum B ∷ []) T) fault.UngroupedColumn
ungrouped_beside_function = (refl, refl)

-- SELECT * FROM T GROUP BY A
star_of_groups : HasOnly (select false all_columns (T ∷ []) absent (record { qualifier = None; column = codes "A" } ∷ []) absent) fault.CountMismatch
star_of_groups = (refl, refl)

-- SELECT A FROM T WHERE SUM(B) = 1
function_in_where : HasOnly (t_where (A ∷ []) (only (compare comparison.Equal (sum B) one))) fault.MisplacedSetFunction
function_in_where = (refl, refl)

-- SELECT A FROM T WHERE EXISTS (SELECT 1 FROM S HAVING SUM(T.B) = 1)
function_of_outer_column : HasOnly (t_where (A ∷ []) (only (exists (s_having (one ∷ []) (only (compare comparison.Equal (sum T_B) one)))))) fault.MisplacedSetFunction
function_of_outer_column = (refl, refl)

-- SELECT A FROM T GROUP BY A HAVING EXISTS (SELECT 1 FROM S HAVING SUM(T.B) = 1): a column in a set function need be no
-- grouping column
function_of_ungrouped_column : HasOnly (by_a (A ∷ []) (only (exists (s_having (one ∷ []) (only (compare comparison.Equal (sum T_B) one)))))) fault.MisplacedSetFunction
function_of_ungrouped_column = (refl, refl)

-- SELECT A FROM T GROUP BY A HAVING EXISTS (SELECT 1 FROM S WHERE D = T.B)
ungrouped_further_out : HasOnly (by_a (A ∷ []) (only (exists (s_where (one ∷ []) (only (compare comparison.Equal D T_B)))))) fault.UngroupedColumn
ungrouped_further_out = (refl, refl)

-- SELECT A FROM T WHERE A IN (SELECT A, D FROM S)
two_columns : HasOnly (t_where (A ∷ []) (only (in_subquery A (plain (A ∷ D ∷ []) S)))) fault.CountMismatch
two_columns = (refl, refl)

-- SELECT A FROM T WHERE C = 1
text_and_number : HasOnly (t_where (A ∷ []) (only (compare comparison.Equal C one))) fault.KindMismatch
text_and_number = (refl, refl)

-- ---- trees

abbrev here : ℕ → ℕ → Numbered
here item position = Numbered.column (record { depth = 0; item = item; column = position })

abbrev outside_of : ℕ → Numbered
outside_of position = Numbered.column (record { depth = 1; item = 0; column = position })

abbrev number : ResultColumn
number = record { name = None; kind = kinds.Num 0 }

abbrev number_named : List ℕ → ResultColumn
number_named name = record { name = Some name; kind = kinds.Num 0 }

abbrev term_of : NumberedConds → NumberedClause
term_of tests = NumberedClause.present (NumberedCond.disjunction (NumberedConds.a_cond (NumberedCond.conjunction tests) NumberedConds.no_cond))

-- SELECT * FROM T, S
all_of_two : tree_in (bound_to (select false all_columns (T ∷ S ∷ []) absent [] absent)) ≡
    Some (NumberedSelect.select false (here 0 0 ∷ here 0 1 ∷ here 0 2 ∷ here 1 0 ∷ here 1 1 ∷ []) (at.Base 0 ∷ at.Base 1 ∷ []) NumberedClause.absent NumberedGroups.not_grouped
    (number_named (codes "A") ∷ number_named (codes "B") ∷ record { name = Some (codes "C"); kind = kinds.Chars 3 } ∷ number_named (codes "A") ∷ number_named (codes "D") ∷ []) false None)
all_of_two = refl

-- SELECT A FROM T WHERE A = (SELECT D FROM S) AND EXISTS (SELECT 1 FROM S WHERE D = T.B) AND A IN (SELECT A FROM S): a
-- subquery that reads no column of the query around it has a number
abbrev three_subqueries : Select Named
three_subqueries =
    t_where (A ∷ [])
    (all_of (compare_subquery comparison.Equal A (plain (D ∷ []) S) ∷ exists (s_where (one ∷ []) (only (compare comparison.Equal D T_B))) ∷ in_subquery A (plain (A ∷ []) S) ∷ []))

abbrev of_s : Numbered → NumberedClause → ResultColumn → Option ℕ → NumberedSelect
of_s shown condition c number = NumberedSelect.select false (shown ∷ []) (at.Base 1 ∷ []) condition NumberedGroups.not_grouped (c ∷ []) false number

numbers_of_subqueries : tree_in (bound_to three_subqueries) ≡
    Some (NumberedSelect.select false (here 0 0 ∷ []) (at.Base 0 ∷ [])
    (term_of
    (NumberedConds.a_cond (NumberedCond.noted 1 true (NumberedCond.compare_query compared.Scalar comparison.Equal (here 0 0) (of_s (here 0 1) NumberedClause.absent (number_named (codes "D")) (Some 0))))
    (NumberedConds.a_cond
    (NumberedCond.noted 1 false
    (NumberedCond.exists
    (of_s (Numbered.literal (value.Num (record { unscaled = pos 1; scale = 0 })))
    (term_of (NumberedConds.a_cond (NumberedCond.noted 1 false (NumberedCond.compare comparison.Equal (here 0 1) (outside_of 1))) NumberedConds.no_cond)) number None)))
    (NumberedConds.a_cond (NumberedCond.noted 1 false (NumberedCond.in_query (here 0 0) (of_s (here 0 0) NumberedClause.absent (number_named (codes "A")) (Some 1))))
    NumberedConds.no_cond))))
    NumberedGroups.not_grouped (number_named (codes "A") ∷ []) true None)
numbers_of_subqueries = refl

three_subqueries_have_no_fault : faults three_subqueries ≡ []
three_subqueries_have_no_fault = refl

-- SELECT A, SUM(B) FROM T GROUP BY A HAVING SUM(A) = SUM(B)
abbrev summed : ℕ → PlacedExpr
summed position = tree.set_function word.Sum false (tree.column (record { depth = 0; item = 0; column = position }))

functions_of_groups : tree_in (bound_to (by_a (A ∷ sum B ∷ []) (only (compare comparison.Equal (sum A) (sum B))))) ≡
    Some (NumberedSelect.select false (here 0 0 ∷ Numbered.set_function 0 ∷ []) (at.Base 0 ∷ []) NumberedClause.absent
    (NumberedGroups.grouped (record { depth = 0; item = 0; column = 0 } ∷ []) (summed 1 ∷ summed 0 ∷ summed 1 ∷ [])
    (term_of (NumberedConds.a_cond (NumberedCond.noted 0 false (NumberedCond.compare comparison.Equal (Numbered.set_function 1) (Numbered.set_function 2))) NumberedConds.no_cond)))
    (number_named (codes "A") ∷ number ∷ []) true None)
functions_of_groups = refl

-- ---- what is found

-- of a subquery by the query around it: SELECT 1 FROM S WHERE D = T.B, and one that reads no column of that query
abbrev in_t : Surroundings
in_t = record nowhere { scopes = record { items = record { reference = T; columns = record { name = codes "B"; position = 1; kind = kinds.Num 0 } ∷ [] } ∷ []; grouping = None } ∷ [] }

abbrev subquery_of_s : Cond Named → Outcome (Found NumberedSelect)
subquery_of_s test = subquery (select_bound in_t (s_where (one ∷ []) (only test))) (record { functions = 0; subqueries = 7 })

abbrev summary : Outcome (Found NumberedSelect) → List ℕ × List Bool
summary (Ok x) = (
  x.findings.values.items ∷ x.findings.values.reach ∷ x.subqueries ∷ [],
  x.findings.values.reads_outermost ∷ x.findings.has_subquery ∷ x.findings.lacks_privilege ∷ [],
)
summary (Err f) = ([], [])

-- it is correlated, reads the first item of the outermost query, and is over a table on which SELECT is not held
correlated : summary (subquery_of_s (compare comparison.Equal D T_B)) ≡ (1 ∷ 0 ∷ 7 ∷ [], true ∷ true ∷ true ∷ [])
correlated = refl

independent : summary (subquery_of_s (compare comparison.Equal D one)) ≡ (0 ∷ 0 ∷ 8 ∷ [], false ∷ true ∷ true ∷ [])
independent = refl

-- the rules miss the privilege, too
privilege_missing : lacks_privilege judged (select_sites judged.known outside three_subqueries) ≡ true
privilege_missing = refl
