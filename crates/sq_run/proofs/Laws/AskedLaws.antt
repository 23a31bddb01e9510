-- Each rule is broken only at sites of the kinds of which it is asked, and at some site of each.
use Rattle.std.proofs.Common.{◌≡◌, ℕ, true, false, List, [], ◌∷◌, Option, Some, None, Ok, refl, arith}
use Rattle.std.specs.Prelude.{codes}
use Rattle.std.specs.List.{AllByRecursion, IsAmong, repeat}
use Rattle.sq_value.specs.declared.domain.Domain.TheVariants as domain
use Rattle.sq_value.specs.declared.domain.Kind.TheVariants as kind
use Rattle.sq_tree.specs.declared.expr.TimesSign.TheVariants as times
use Rattle.sq_tree.specs.declared.«module».SortKey.TheVariants as sort_key
use Rattle.sq_tree.specs.declared.names.ColumnReference.{ColumnReference}
use Rattle.sq_tree.specs.declared.names.Parameter.{Parameter}
use Rattle.sq_tree.specs.declared.statement.Orientation.TheVariants as orientation
use Rattle.sq_tree.specs.declared.statement.Position.TheVariants as position_of
use Rattle.sq_meaning.specs.Binding.{Judged, breaks}
use Rattle.sq_meaning.specs.Environment.{TableName, TableReference}
use Rattle.sq_meaning.specs.Privilege.{Privilege}
use Rattle.sq_meaning.specs.SchemaRefusal.{is_refused_in_check}
use Rattle.sq_meaning.specs.Site.{Around, Site, outside}
use Rattle.sq_meaning.specs.Syntax.{all_columns, absent, select}
use Rattle.sq_meaning.specs.Tables.{base_table, viewed_table}
use Rattle.sq_meaning.specs.declared.fault.BindingFault.{BindingFault}
use Rattle.sq_meaning.specs.declared.fault.BindingFault.TheVariants as fault
use Rattle.sq_run.specs.Asked.{CanBreak, OnlyListedRulesBreak, SiteKind, asks_none, kind_of_site, rules_asked}

-- ---- a rule that is broken is asked

only : (j : Judged) (f : BindingFault) (s : Site) → breaks j f s ≡ true → IsAmong (rules_asked (kind_of_site s)) f
only j fault.UnknownTable (Site.table_read r) e = (0, (omega arith, refl))
only j fault.UnknownTable (Site.table_changed t) e = (0, (omega arith, refl))
only j fault.UnknownTable s e = cc
only j fault.UnknownColumn (Site.column_read a c) e = (0, (omega arith, refl))
only j fault.UnknownColumn (Site.column_changed t c) e = (0, (omega arith, refl))
only j fault.UnknownColumn s e = cc
only j fault.AmbiguousName (Site.column_read a c) e = (1, (omega arith, refl))
only j fault.AmbiguousName (Site.from_whole from) e = (0, (omega arith, refl))
only j fault.AmbiguousName s e = cc
only j fault.KindMismatch (Site.number_wanted k) e = (0, (omega arith, refl))
only j fault.KindMismatch (Site.text_wanted k) e = (0, (omega arith, refl))
only j fault.KindMismatch (Site.alike_wanted k l) e = (0, (omega arith, refl))
only j fault.KindMismatch s e = cc
only j fault.LimitExceeded (Site.product_scale sign k l) e = (0, (omega arith, refl))
only j fault.LimitExceeded (Site.column_count n) e = (0, (omega arith, refl))
only j fault.LimitExceeded (Site.from_whole from) e = (1, (omega arith, refl))
only j fault.LimitExceeded s e = cc
only j fault.MisplacedSetFunction (Site.function_called a operand) e = (0, (omega arith, refl))
only j fault.MisplacedSetFunction s e = cc
only j fault.UngroupedColumn (Site.column_read a c) e = (2, (omega arith, refl))
only j fault.UngroupedColumn s e = cc
only j fault.CountMismatch (Site.counts m n) e = (0, (omega arith, refl))
only j fault.CountMismatch Site.star_of_groups e = (0, (omega arith, refl))
only j fault.CountMismatch s e = cc
only j fault.BadSortKey (Site.sort_by names key) e = (0, (omega arith, refl))
only j fault.BadSortKey s e = cc
only j fault.UnknownParameter (Site.parameter_read p) e = (0, (omega arith, refl))
only j fault.UnknownParameter (Site.targets ps) e = (0, (omega arith, refl))
only j fault.UnknownParameter (Site.orientation_used scrolls o) e = (0, (omega arith, refl))
only j fault.UnknownParameter s e = cc
only j fault.BadIndicator (Site.parameter_read p) e = (1, (omega arith, refl))
only j fault.BadIndicator (Site.targets ps) e = (1, (omega arith, refl))
only j fault.BadIndicator s e = cc
only j fault.TargetTwice (Site.targets ps) e = (2, (omega arith, refl))
only j fault.TargetTwice s e = cc
only j fault.NotUpdatable (Site.table_changed t) e = (1, (omega arith, refl))
only j fault.NotUpdatable (Site.positioned t cursor) e = (0, (omega arith, refl))
only j fault.NotUpdatable s e = cc
only j fault.ColumnTwice (Site.column_list names) e = (0, (omega arith, refl))
only j fault.ColumnTwice s e = cc
only j fault.UnknownCursor (Site.cursor_used name) e = (0, (omega arith, refl))
only j fault.UnknownCursor s e = cc
only j fault.BadOrientation (Site.orientation_used scrolls o) e = (1, (omega arith, refl))
only j fault.BadOrientation s e = cc
only j fault.PrivilegeMissing (Site.table_read r) e = (1, (omega arith, refl))
only j fault.PrivilegeMissing (Site.privilege_used t p) e = (0, (omega arith, refl))
only j fault.PrivilegeMissing s e = cc

-- ---- each rule that is asked can be broken

-- the base table T with a column A, and the view V, which is not updatable; a parameter that can't be an indicator, and a cursor that
-- is not updatable; a user who holds no privilege
abbrev t : TableName
t = record { user = codes "U"; name = codes "T" }

abbrev v : TableName
v = record { user = codes "U"; name = codes "V" }

abbrev reference : TableReference
reference = record { table = t; correlation = None }

abbrev judged : Judged
judged = record {
  known = record {
    tables =
        record { table = v; columns = record { name = codes "A"; kind = kind.Num 0 } ∷ []; body = viewed_table (select true all_columns (reference ∷ []) absent [] absent) false }
        ∷ record { table = t; columns = record { name = codes "A"; kind = kind.Num 0 } ∷ []; body = base_table 0 } ∷ [];
    parameters = record { name = codes "P"; domain = domain.Char 1 } ∷ [];
    cursors = record { name = codes "C"; sound = false; table = None } ∷ [];
  };
  holds = λ table privilege. false;
}

abbrev unknown : TableName
unknown = record { user = codes "U"; name = codes "X" }

abbrev a : ColumnReference
a = record { qualifier = None; column = codes "A" }

abbrev query_over : List TableReference → Option (List ColumnReference) → Around
query_over from grouping = record { queries = record { from = from; grouping = grouping } ∷ []; functions_allowed = true; in_function = false }

abbrev plain : List ℕ → Parameter
plain name = record { name = name; indicator = None }

abbrev with_indicator : Parameter
with_indicator = record { name = codes "P"; indicator = Some (record { word = false; name = codes "P" }) }

at : (site : Site) (f : BindingFault) → breaks judged f site ≡ true → CanBreak (kind_of_site site) f
at site f e = record { judged = judged; site = site; is_of = refl; broken = e }

each : (k : SiteKind) → AllByRecursion (CanBreak k) (rules_asked k)
each SiteKind.table_read = (at (Site.table_read (record { table = unknown; correlation = None })) _ refl, (at (Site.table_read reference) _ refl, tt))
each SiteKind.from_whole = (at (Site.from_whole (reference ∷ reference ∷ [])) _ refl, (at (Site.from_whole (repeat 17 (reference ∷ []))) _ refl, tt))
each SiteKind.column_read = (at (Site.column_read outside a) _ refl, (at (Site.column_read (query_over (reference ∷ record { table = t; correlation = Some (codes "S") } ∷ []) None) a) _ refl, (at (Site.column_read (query_over (reference ∷ []) (Some [])) a) _ refl, tt)))
each SiteKind.parameter_read = (at (Site.parameter_read (plain (codes "Q"))) _ refl, (at (Site.parameter_read with_indicator) _ refl, tt))
each SiteKind.function_called = (at (Site.function_called outside None) _ refl, tt)
each SiteKind.number_wanted = (at (Site.number_wanted (Ok (kind.Chars 1))) _ refl, tt)
each SiteKind.text_wanted = (at (Site.text_wanted (Ok (kind.Num 0))) _ refl, tt)
each SiteKind.alike_wanted = (at (Site.alike_wanted (Ok (kind.Num 0)) (Ok (kind.Chars 1))) _ refl, tt)
each SiteKind.product_scale = (at (Site.product_scale times.Times (Ok (kind.Num 18)) (Ok (kind.Num 1))) _ refl, tt)
each SiteKind.counts = (at (Site.counts 0 1) _ refl, tt)
each SiteKind.column_count = (at (Site.column_count 65) _ refl, tt)
each SiteKind.star_of_groups = (at Site.star_of_groups _ refl, tt)
each SiteKind.user_read = tt
each SiteKind.subquery_read = tt
each SiteKind.table_changed = (at (Site.table_changed unknown) _ refl, (at (Site.table_changed v) _ refl, tt))
each SiteKind.column_changed = (at (Site.column_changed t (codes "B")) _ refl, tt)
each SiteKind.column_list = (at (Site.column_list (codes "A" ∷ codes "A" ∷ [])) _ refl, tt)
each SiteKind.positioned = (at (Site.positioned t (codes "C")) _ refl, tt)
each SiteKind.targets = (at (Site.targets (plain (codes "Q") ∷ [])) _ refl, (at (Site.targets (with_indicator ∷ [])) _ refl, (at (Site.targets (plain (codes "P") ∷ plain (codes "P") ∷ [])) _ refl, tt)))
each SiteKind.sort_by = (at (Site.sort_by (Some (codes "A") ∷ []) (sort_key.Column (codes "B"))) _ refl, tt)
each SiteKind.cursor_used = (at (Site.cursor_used (codes "D")) _ refl, tt)
each SiteKind.orientation_used = (at (Site.orientation_used true (Some (orientation.Absolute (position_of.Parameter (codes "Q"))))) _ refl, (at (Site.orientation_used false (Some orientation.Prior)) _ refl, tt))
each SiteKind.privilege_used = (at (Site.privilege_used t Privilege.insert) _ refl, tt)

-- ---- what only a CHECK may not have

check : (s : Site) → is_refused_in_check s ≡ asks_none (rules_asked (kind_of_site s))
check Site.user_read = refl
check Site.subquery_read = refl
check s = refl

pub only_listed_rules_break : OnlyListedRulesBreak
only_listed_rules_break = record { only = only; each = each; check = check }
