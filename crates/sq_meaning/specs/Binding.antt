-- The syntax and access rules of statements, view queries and conditions of CHECK. Each fault is a rule of its own,
-- asked of every site of a tree.
use Rattle.std.specs.List.{list_any}
use Rattle.std.specs.Prelude.{suc, Bool, true, false, not, ◌&&◌, ◌||◌, List, [], ◌∷◌, map, length, is_none, is_ok, is_err, nat_lt, nat_le, ◌==◌, slice_get, filter, find, filter_map, flat_map, Option, unwrap_or, option_map, option_to_list, option_and_then, Some, None, Ok}
use Rattle.std.specs.Result.{result_ok}
use Rattle.sq_lex.specs.declared.name.Name.{Name}
use Rattle.sq_value.specs.declared.domain.Domain.{Domain}
use Rattle.sq_value.specs.declared.domain.Domain.TheVariants as domain
use Rattle.sq_value.specs.declared.domain.Kind.{Kind}
use Rattle.sq_value.specs.declared.domain.Kind.TheVariants as kind
use Rattle.sq_tree.specs.declared.expr.TimesSign.{TimesSign}
use Rattle.sq_tree.specs.declared.names.ColumnReference.{ColumnReference}
use Rattle.sq_tree.specs.declared.names.Parameter.{Parameter}
use Rattle.sq_tree.specs.declared.statement.Orientation.{Orientation}
use Rattle.sq_tree.specs.declared.statement.Orientation.TheVariants as orientation
use Rattle.sq_tree.specs.declared.statement.Position.{Position}
use Rattle.sq_tree.specs.declared.statement.Position.TheVariants as position_of
use Rattle.sq_meaning.specs.Environment.{Item, Place, TableName, TableReference, fitting, same_name, same_table}
use Rattle.sq_meaning.specs.Kind.{product_kind}
use Rattle.sq_meaning.specs.SortKeys.{key_column}
use Rattle.sq_meaning.specs.Spelled.{Named, has_point}
use Rattle.sq_meaning.specs.Status.{Outcome}
use Rattle.sq_meaning.specs.Syntax.{Expr}
use Rattle.sq_meaning.specs.Tables.{descriptor_of, item_of}
use Rattle.sq_meaning.specs.Tables.{column_names}
use Rattle.sq_meaning.specs.Target.{target_of}
use Rattle.sq_meaning.specs.Privilege.{Privilege}
use Rattle.sq_meaning.specs.Schema.{has_name_twice, is_among}
use Rattle.sq_meaning.specs.Site.{Around, Known, KnownCursor, EnclosingQuery, Site, expr_sites}
use Rattle.sq_meaning.specs.Words.{has_twice, is_some_and}
use Rattle.sq_meaning.specs.declared.fault.BindingFault.{BindingFault}
use Rattle.sq_meaning.specs.declared.fault.BindingFault.TheVariants as fault

-- the known names, and the privileges of the user whose statement it is
pub record Judged : Type 0 where
  pub known : Known
  pub holds : TableName → Privilege → Bool

abbrev pub is_known_table : Known → TableName → Bool
is_known_table k t = is_ok (descriptor_of k.tables t)

-- no such table or view (5.4, 6.3)
abbrev pub unknown_table : Known → Site → Bool
unknown_table k (Site.table_read r) = not (is_known_table k r.table)
unknown_table k (Site.table_changed t) = not (is_known_table k t)
unknown_table k _ = false

-- ---- column references (6.4)

-- the item of a table reference; a table that is not there has no columns
abbrev pub item_here : Known → TableReference → Item
item_here k r = unwrap_or (result_ok (item_of k.tables r)) (record { reference = r; columns = [] })

abbrev pub items_here : Known → EnclosingQuery → List Item
items_here k query = map (item_here k) query.from

abbrev pub one_further : Place → Place
one_further p = record p { depth = suc p.depth }

abbrev pub nearest_fits : List Place → List Place → List Place
nearest_fits [] further = map one_further further
nearest_fits (p ∷ ps) further = p ∷ ps

abbrev pub fits_here : Known → ColumnReference → EnclosingQuery → List Place
fits_here k c query =
    map (λ f. record { depth = 0; item = f.0; column = f.1 }) (fitting c (items_here k query))

-- the columns that a reference fits, in the nearest scope in which it fits one: how far out that is, the item and the
-- column
abbrev pub fits : Known → ColumnReference → List EnclosingQuery → List Place
fits k c [] = []
fits k c (query ∷ queries) = nearest_fits (fits_here k c query) (fits k c queries)

abbrev pub has_column : Known → TableName → Name → Bool
has_column k t name = is_some_and (λ d. is_among (column_names d) name) (result_ok (descriptor_of k.tables t))

-- no such column
abbrev pub unknown_column : Known → Site → Bool
unknown_column k (Site.column_read a c) = length (fits k c a.queries) == 0
unknown_column k (Site.column_changed t name) = not (has_column k t name)
unknown_column k _ = false

abbrev pub is_uncorrelated : TableReference → Bool
is_uncorrelated r = is_none r.correlation

-- a correlation name twice, or one table twice without correlation names (6.3)
abbrev pub has_item_twice : List TableReference → Bool
has_item_twice from =
    has_name_twice (filter_map (λ r. r.correlation) from)
    || has_twice same_table (map (λ r. r.table) (filter is_uncorrelated from))

-- two items of one FROM clause fit a reference, or have one name
abbrev pub ambiguous_name : Known → Site → Bool
ambiguous_name k (Site.column_read a c) = nat_lt 1 (length (fits k c a.queries))
ambiguous_name k (Site.from_whole from) = has_item_twice from
ambiguous_name k _ = false

-- ---- kinds (6.5, 6.12, 8.2 to 8.5, 9.1 and 9.2)

abbrev pub is_of_number : Outcome Kind → Bool
is_of_number (Ok (kind.Num s)) = true
is_of_number _ = false

abbrev pub is_of_text : Outcome Kind → Bool
is_of_text (Ok (kind.Chars n)) = true
is_of_text (Ok (kind.Vary n)) = true
is_of_text _ = false

-- a number in the place of a text, or the reverse
abbrev pub kind_mismatch : Site → Bool
kind_mismatch (Site.number_wanted k) = is_of_text k
kind_mismatch (Site.text_wanted k) = is_of_number k
kind_mismatch (Site.alike_wanted k l) = is_of_number k && is_of_text l || is_of_text k && is_of_number l
kind_mismatch _ = false

-- ---- limits (own rules)

abbrev pub scale_exceeded : TimesSign → Outcome Kind → Outcome Kind → Bool
scale_exceeded sign (Ok (kind.Num s)) (Ok (kind.Num t)) = is_err (product_kind sign (kind.Num s) (kind.Num t))
scale_exceeded sign _ _ = false

-- a scale above 18, more than 64 columns in a select list or an insert column list, or more than 16 items in FROM
abbrev pub limit_exceeded : Site → Bool
limit_exceeded (Site.product_scale sign k l) = scale_exceeded sign k l
limit_exceeded (Site.column_count n) = nat_lt 64 n
limit_exceeded (Site.from_whole from) = nat_lt 16 (length from)
limit_exceeded _ = false

-- ---- set functions (6.5) and grouping (7.7 to 7.9)

abbrev pub column_of_site : Site → Option ColumnReference
column_of_site (Site.column_read a c) = Some c
column_of_site _ = None

abbrev pub columns_read : Known → Around → Expr Named → List ColumnReference
columns_read k a e = filter_map column_of_site (expr_sites k a e)

-- a reference that fits an item of a query around; one that fits nowhere is no outer reference
abbrev pub is_outer : Known → Around → ColumnReference → Bool
is_outer k a c = list_any (λ p. nat_lt 0 p.depth) (fits k c a.queries)

abbrev pub reads_outer : Known → Around → Expr Named → Bool
reads_outer k a e = list_any (is_outer k a) (columns_read k a e)

-- outside a select list and HAVING, inside another, or over an outer reference
abbrev pub misplaced_function : Known → Site → Bool
misplaced_function k (Site.function_called a operand) =
    not a.functions_allowed || is_some_and (reads_outer k a) operand
misplaced_function k _ = false

abbrev pub is_at : Place → Place → Bool
is_at p q = p.item == q.item && p.column == q.column

-- the grouping columns, if a grouped query is around
abbrev pub grouping_places : Known → EnclosingQuery → Option (List Place)
grouping_places k query = option_map (flat_map (λ c. fits_here k c query)) query.grouping

-- a column of a grouped query that is no grouping column
abbrev pub is_ungrouped_at : Known → Place → EnclosingQuery → Bool
is_ungrouped_at k p query = is_some_and (λ places. not (list_any (is_at p) places)) (grouping_places k query)

abbrev pub is_ungrouped : Known → List EnclosingQuery → Place → Bool
is_ungrouped k queries p = is_some_and (is_ungrouped_at k p) (slice_get queries p.depth)

-- in the select list or HAVING of the query, also in a subquery there, but not in a set function
abbrev pub ungrouped_column : Known → Site → Bool
ungrouped_column k (Site.column_read a c) =
    not a.in_function && list_any (is_ungrouped k a.queries) (fits k c a.queries)
ungrouped_column k _ = false

-- ---- counts (6.11, 7.9, 7.10, 13.3, 13.5 and 13.8)

abbrev pub count_mismatch : Site → Bool
count_mismatch (Site.counts m n) = not (m == n)
count_mismatch Site.star_of_groups = true
count_mismatch _ = false

-- ---- sort keys (13.1)

-- a number that is no position written without a point, or a name that is not exactly one result column's
abbrev pub bad_sort_key : Site → Bool
bad_sort_key (Site.sort_by names key) = is_err (key_column names key)
bad_sort_key _ = false

-- ---- parameters (6.2, 9.1)

abbrev pub domain_named : Known → Name → Option Domain
domain_named k name = option_map (λ d. d.domain) (find (λ d. same_name d.name name) k.parameters)

abbrev pub is_unknown_name : Known → Name → Bool
is_unknown_name k name = is_none (domain_named k name)

abbrev pub indicator_name : Parameter → Option Name
indicator_name p = option_map (λ i. i.name) p.indicator

-- the parameter, and its indicator parameter if it has one
abbrev pub parameter_names : Parameter → List Name
parameter_names p = p.name ∷ option_to_list (indicator_name p)

abbrev pub position_name : Position → List Name
position_name (position_of.Number n) = []
position_name (position_of.Parameter name) = name ∷ []

abbrev pub orientation_names : Orientation → List Name
orientation_names (orientation.Absolute p) = position_name p
orientation_names (orientation.Relative p) = position_name p
orientation_names _ = []

-- no such parameter
abbrev pub unknown_parameter : Known → Site → Bool
unknown_parameter k (Site.parameter_read p) = list_any (is_unknown_name k) (parameter_names p)
unknown_parameter k (Site.targets ps) = list_any (is_unknown_name k) (flat_map parameter_names ps)
unknown_parameter k (Site.orientation_used scrolls (Some o)) =
    list_any (is_unknown_name k) (orientation_names o)
unknown_parameter k _ = false

-- SMALLINT, INTEGER, or NUMERIC(p,0) with p of at least 3 (own rule)
abbrev pub is_indicator_domain : Domain → Bool
is_indicator_domain domain.Small = true
is_indicator_domain domain.Int = true
is_indicator_domain (domain.Numeric p s) = nat_le 3 p && s == 0
is_indicator_domain (domain.Char n) = false
is_indicator_domain (domain.VarChar n) = false

abbrev pub is_bad_indicator : Known → Parameter → Bool
is_bad_indicator k p =
    is_some_and (λ d. not (is_indicator_domain d)) (option_and_then (domain_named k) (indicator_name p))

abbrev pub bad_indicator : Known → Site → Bool
bad_indicator k (Site.parameter_read p) = is_bad_indicator k p
bad_indicator k (Site.targets ps) = list_any (is_bad_indicator k) ps
bad_indicator k _ = false

-- a parameter twice among targets and their indicators
abbrev pub target_twice : Site → Bool
target_twice (Site.targets ps) = has_name_twice (flat_map parameter_names ps)
target_twice _ = false

-- ---- the tables and cursors that are changed (13.6 to 13.10)

abbrev pub cursor_known : Known → Name → Option KnownCursor
cursor_known k name = find (λ c. same_name c.name name) k.cursors

abbrev pub is_over : TableName → KnownCursor → Bool
is_over t c = is_some_and (same_table t) c.table

-- an existing table that is not updatable; or a positioned statement on an existing cursor that is not updatable or is
-- over another table
abbrev pub not_updatable : Known → Site → Bool
not_updatable k (Site.table_changed t) = is_known_table k t && is_err (target_of k.tables t)
not_updatable k (Site.positioned t cursor) =
    is_known_table k t && is_some_and (λ c. not (is_over t c)) (cursor_known k cursor)
not_updatable k _ = false

-- in an insert column list, or among the columns of set clauses
abbrev pub column_twice : Site → Bool
column_twice (Site.column_list names) = has_name_twice names
column_twice _ = false

-- ---- cursors (13.2 to 13.4)

-- no such cursor in the module, or its query has a fault
abbrev pub unknown_cursor : Known → Site → Bool
unknown_cursor k (Site.cursor_used name) = not (is_some_and (λ c. c.sound) (cursor_known k name))
unknown_cursor k _ = false

-- numbers of scale 0
abbrev pub is_whole_domain : Domain → Bool
is_whole_domain domain.Small = true
is_whole_domain domain.Int = true
is_whole_domain (domain.Numeric p s) = s == 0
is_whole_domain (domain.Char n) = false
is_whole_domain (domain.VarChar n) = false

-- a number written with a point, or a parameter that is no whole number; one that is not declared is that fault alone
abbrev pub is_bad_position : Known → Position → Bool
is_bad_position k (position_of.Number n) = has_point n.number
is_bad_position k (position_of.Parameter name) =
    is_some_and (λ d. not (is_whole_domain d)) (domain_named k name)

-- NEXT needs no SCROLL; a number is a whole one, and so is a parameter's kind
abbrev pub is_bad_orientation : Known → (scrolls : Bool) → Orientation → Bool
is_bad_orientation k scrolls orientation.Next = false
is_bad_orientation k scrolls orientation.Prior = not scrolls
is_bad_orientation k scrolls orientation.First = not scrolls
is_bad_orientation k scrolls orientation.Last = not scrolls
is_bad_orientation k scrolls (orientation.Absolute p) = not scrolls || is_bad_position k p
is_bad_orientation k scrolls (orientation.Relative p) = not scrolls || is_bad_position k p

abbrev pub bad_orientation : Known → Site → Bool
bad_orientation k (Site.orientation_used scrolls (Some o)) = is_bad_orientation k scrolls o
bad_orientation k _ = false

-- ---- privileges (4.26)

-- SELECT for each table or view that is named in FROM, and the other privileges that a statement needs
abbrev pub privilege_missing : (TableName → Privilege → Bool) → Site → Bool
privilege_missing holds (Site.table_read r) = not (holds r.table Privilege.select)
privilege_missing holds (Site.privilege_used t p) = not (holds t p)
privilege_missing holds _ = false

-- ---- all of them

abbrev pub breaks : Judged → BindingFault → Site → Bool
breaks j fault.UnknownTable = unknown_table j.known
breaks j fault.UnknownColumn = unknown_column j.known
breaks j fault.AmbiguousName = ambiguous_name j.known
breaks j fault.KindMismatch = kind_mismatch
breaks j fault.LimitExceeded = limit_exceeded
breaks j fault.MisplacedSetFunction = misplaced_function j.known
breaks j fault.UngroupedColumn = ungrouped_column j.known
breaks j fault.CountMismatch = count_mismatch
breaks j fault.BadSortKey = bad_sort_key
breaks j fault.UnknownParameter = unknown_parameter j.known
breaks j fault.BadIndicator = bad_indicator j.known
breaks j fault.TargetTwice = target_twice
breaks j fault.NotUpdatable = not_updatable j.known
breaks j fault.ColumnTwice = column_twice
breaks j fault.UnknownCursor = unknown_cursor j.known
breaks j fault.BadOrientation = bad_orientation j.known
breaks j fault.PrivilegeMissing = privilege_missing j.holds

-- every fault but a missing privilege
abbrev pub syntax_faults : List BindingFault
syntax_faults =
    fault.UnknownTable ∷ fault.UnknownColumn ∷ fault.AmbiguousName ∷ fault.KindMismatch
    ∷ fault.LimitExceeded ∷ fault.MisplacedSetFunction
    ∷ fault.UngroupedColumn ∷ fault.CountMismatch ∷ fault.BadSortKey ∷ fault.UnknownParameter
    ∷ fault.BadIndicator ∷ fault.TargetTwice
    ∷ fault.NotUpdatable ∷ fault.ColumnTwice ∷ fault.UnknownCursor ∷ fault.BadOrientation ∷ []

abbrev pub has_fault : Judged → List Site → BindingFault → Bool
has_fault j sites f = list_any (breaks j f) sites

abbrev pub has_syntax_fault : Judged → List Site → Bool
has_syntax_fault j sites = list_any (has_fault j sites) syntax_faults

abbrev pub lacks_privilege : Judged → List Site → Bool
lacks_privilege j sites = has_fault j sites fault.PrivilegeMissing

abbrev pub is_well_formed : Judged → List Site → Bool
is_well_formed j sites = not (has_syntax_fault j sites || lacks_privilege j sites)
