-- The syntax rules, computed on small queries over T (K INTEGER, A INTEGER, C CHAR(5), X NUMERIC(18,10)) of the user U.
use Rattle.std.specs.Prelude.{◌≡◌, ℕ, true, false, List, [], ◌∷◌, pos, codes, filter, refl, Some, None}
use Rattle.sq_value.specs.declared.domain.Domain.TheVariants as domain
use Rattle.sq_value.specs.declared.domain.Kind.{Kind}
use Rattle.sq_value.specs.declared.domain.Kind.TheVariants as kinds
use Rattle.sq_value.specs.declared.value.Value.TheVariants as value
use Rattle.sq_tree.specs.declared.cond.Comparison.TheVariants as comparison
use Rattle.sq_tree.specs.declared.expr.SetFunction.TheVariants as word
use Rattle.sq_tree.specs.declared.expr.Sign.TheVariants as sign
use Rattle.sq_tree.specs.declared.expr.TimesSign.TheVariants as times
use Rattle.sq_tree.specs.declared.names.ColumnReference.{ColumnReference}
use Rattle.sq_tree.specs.declared.schema.TableDefinition.{TableDefinition}
use Rattle.sq_tree.specs.declared.schema.TableElement.TheVariants as table_element
use Rattle.sq_tree.specs.declared.statement.Orientation.TheVariants as orientation
use Rattle.sq_tree.specs.declared.statement.Position.TheVariants as position_of
use Rattle.sq_meaning.specs.Environment.{TableName, TableReference}
use Rattle.sq_meaning.specs.Spelled.{Named}
use Rattle.sq_meaning.specs.Syntax.{Clause, Cond, Expr, Select, a_cond, added, all_columns, column, compare, conds, conjunction, count_rows, disjunction, exists, expressions, in_subquery, literal, negated, no_cond, parameter, present, scaled, select, set_function}
use Rattle.sq_meaning.specs.Syntax.{absent}
use Rattle.sq_meaning.specs.Tables.{ColumnDescriptor, Tables}
use Rattle.sq_meaning.specs.Tables.{base_table}
use Rattle.sq_meaning.specs.Binding.{Judged, has_fault, syntax_faults}
use Rattle.sq_meaning.specs.Keyed.{is_keyed}
use Rattle.sq_meaning.specs.Site.{Site, outside, select_sites}
use Rattle.sq_meaning.specs.declared.fault.BindingFault.{BindingFault}
use Rattle.sq_meaning.specs.declared.fault.BindingFault.TheVariants as fault

abbrev described : List ℕ → Kind → ColumnDescriptor
described name k = record { name = name; kind = k }

abbrev t_name : TableName
t_name = record { user = codes "U"; name = codes "T" }

abbrev only_t : Tables
only_t =
    record {
      table = t_name;
      columns = described (codes "K") (kinds.Num 0) ∷ described (codes "A") (kinds.Num 0) ∷ described (codes "C") (kinds.Chars 5) ∷ described (codes "X") (kinds.Num 10) ∷ [];
      body = base_table 0;
    } ∷ []

abbrev judged : Judged
judged = record { known = record { tables = only_t; parameters = record { name = codes "P"; domain = domain.Int } ∷ []; cursors = [] }; holds = λ t p. true }

abbrev faults : Select Named → List BindingFault
faults q = filter (has_fault judged (select_sites judged.known outside q)) syntax_faults

-- ---- parts of queries

abbrev named : List ℕ → Expr Named
named name = column (record { qualifier = None; column = name })

abbrev qualified : List ℕ → List ℕ → Expr Named
qualified table name = column (record { qualifier = Some (record { schema = None; table = table }); column = name })

abbrev K : Expr Named
K = named (codes "K")

abbrev A : Expr Named
A = named (codes "A")

abbrev C : Expr Named
C = named (codes "C")

abbrev one : Expr Named
one = literal (value.Num (record { unscaled = pos 1; scale = 0 }))

abbrev T : TableReference
T = record { table = t_name; correlation = None }

-- T under the correlation name P
abbrev T_as_P : TableReference
T_as_P = record { table = t_name; correlation = Some (codes "P") }

abbrev plain : List (Expr Named) → List TableReference → Select Named
plain list from = select false (expressions list) from absent [] absent

abbrev where_true : List (Expr Named) → Cond Named → Select Named
where_true list c = select false (expressions list) (T ∷ []) (present c) [] absent

abbrev by_k : List ColumnReference
by_k = record { qualifier = None; column = codes "K" } ∷ []

abbrev one_is_one : Cond Named
one_is_one = compare comparison.Equal one one

-- ---- names

well_formed_query : faults (plain (K ∷ C ∷ []) (T ∷ [])) ≡ []
well_formed_query = refl

no_column : faults (plain (named (codes "Z") ∷ []) (T ∷ [])) ≡ fault.UnknownColumn ∷ []
no_column = refl

no_table : faults (plain (one ∷ []) (record { table = record { user = codes "U"; name = codes "Z" }; correlation = None } ∷ [])) ≡ fault.UnknownTable ∷ []
no_table = refl

table_twice : faults (plain (one ∷ []) (T ∷ T ∷ [])) ≡ fault.AmbiguousName ∷ []
table_twice = refl

column_in_two : faults (plain (K ∷ []) (T ∷ T_as_P ∷ [])) ≡ fault.AmbiguousName ∷ []
column_in_two = refl

told_apart : faults (plain (qualified (codes "P") (codes "K") ∷ qualified (codes "T") (codes "K") ∷ []) (T ∷ T_as_P ∷ [])) ≡ []
told_apart = refl

no_parameter : faults (plain (parameter (record { name = codes "Q"; indicator = None }) ∷ []) (T ∷ [])) ≡ fault.UnknownParameter ∷ []
no_parameter = refl

-- ---- kinds and scales

text_added : faults (plain (added sign.Plus A C ∷ []) (T ∷ [])) ≡ fault.KindMismatch ∷ []
text_added = refl

text_compared : faults (where_true (K ∷ []) (compare comparison.Equal C one)) ≡ fault.KindMismatch ∷ []
text_compared = refl

long_scale : faults (plain (scaled times.Times (named (codes "X")) (named (codes "X")) ∷ []) (T ∷ [])) ≡ fault.LimitExceeded ∷ []
long_scale = refl

-- ---- set functions and groups

function_in_where : faults (where_true (K ∷ []) (compare comparison.Equal count_rows one)) ≡ fault.MisplacedSetFunction ∷ []
function_in_where = refl

function_in_function : faults (plain (set_function word.Sum false (set_function word.Sum false A) ∷ []) (T ∷ [])) ≡ fault.MisplacedSetFunction ∷ []
function_in_function = refl

-- SELECT K FROM T WHERE EXISTS (SELECT SUM(T.A) FROM T P)
function_over_outer : faults (where_true (K ∷ []) (exists (plain (set_function word.Sum false (qualified (codes "T") (codes "A")) ∷ []) (T_as_P ∷ [])))) ≡ fault.MisplacedSetFunction ∷ []
function_over_outer = refl

ungrouped : faults (plain (K ∷ count_rows ∷ []) (T ∷ [])) ≡ fault.UngroupedColumn ∷ []
ungrouped = refl

grouped_by : faults (select false (expressions (K ∷ count_rows ∷ [])) (T ∷ []) absent by_k absent) ≡ []
grouped_by = refl

having_alone : faults (select false (expressions (K ∷ [])) (T ∷ []) absent [] (present one_is_one)) ≡ fault.UngroupedColumn ∷ []
having_alone = refl

having_literal : faults (select false (expressions (one ∷ [])) (T ∷ []) absent [] (present one_is_one)) ≡ []
having_literal = refl

-- SELECT COUNT(*) FROM T GROUP BY K HAVING EXISTS (SELECT 1 FROM T P WHERE P.K = T.A)
abbrev in_having : List ℕ → Select Named
in_having name =
    select false (expressions (count_rows ∷ [])) (T ∷ []) absent by_k
    (present (exists (select false (expressions (one ∷ [])) (T_as_P ∷ []) (present (compare comparison.Equal (qualified (codes "P") (codes "K")) (qualified (codes "T") name))) [] absent)))

ungrouped_from_subquery : faults (in_having (codes "A")) ≡ fault.UngroupedColumn ∷ []
ungrouped_from_subquery = refl

grouped_from_subquery : faults (in_having (codes "K")) ≡ []
grouped_from_subquery = refl

star_grouped : faults (select false all_columns (T ∷ []) absent by_k absent) ≡ fault.CountMismatch ∷ []
star_grouped = refl

-- ---- subqueries of more than one column, but after EXISTS

two_columns : faults (where_true (K ∷ []) (in_subquery K (plain (K ∷ A ∷ []) (T ∷ [])))) ≡ fault.CountMismatch ∷ []
two_columns = refl

two_columns_exist : faults (where_true (K ∷ []) (exists (plain (K ∷ A ∷ []) (T ∷ [])))) ≡ []
two_columns_exist = refl

-- ---- a fault that hides others: a name that fits nowhere is no outer reference, and what is not there is not called
-- not updatable

unknown_in_function : faults (plain (set_function word.Sum false (named (codes "Z")) ∷ []) (T ∷ [])) ≡ fault.UnknownColumn ∷ []
unknown_in_function = refl

abbrev asked : List Site → List BindingFault
asked sites = filter (has_fault judged sites) syntax_faults

no_table_changed : asked (Site.table_changed (record { user = codes "U"; name = codes "Z" }) ∷ []) ≡ fault.UnknownTable ∷ []
no_table_changed = refl

no_cursor : asked (Site.cursor_used (codes "Y") ∷ Site.positioned t_name (codes "Y") ∷ []) ≡ fault.UnknownCursor ∷ []
no_cursor = refl

-- FETCH ABSOLUTE :Z, and ABSOLUTE :P
no_position : asked (Site.orientation_used true (Some (orientation.Absolute (position_of.Parameter (codes "Z")))) ∷ []) ≡ fault.UnknownParameter ∷ []
no_position = refl

whole_position : asked (Site.orientation_used true (Some (orientation.Absolute (position_of.Parameter (codes "P")))) ∷ []) ≡ []
whole_position = refl

-- ---- statements that name their rows by a key: K = 1 AND 1 = 1, and the tests turned round

abbrev keyed_t : TableDefinition
keyed_t = record {
  name = record { schema = None; table = codes "T" };
  elements = record { first = table_element.PrimaryKey (record { first = codes "K"; rest = [] }); rest = [] };
}

abbrev joined : List (Cond Named) → Clause Named
joined cs = present (disjunction (a_cond (conjunction (conds cs)) no_cond))

by_key : is_keyed keyed_t [] (joined (compare comparison.Equal K one ∷ one_is_one ∷ [])) ≡ true
by_key = refl

key_behind : is_keyed keyed_t [] (joined (one_is_one ∷ compare comparison.Equal K one ∷ [])) ≡ false
key_behind = refl

key_negated : is_keyed keyed_t [] (joined (negated (compare comparison.Equal K one) ∷ [])) ≡ false
key_negated = refl
