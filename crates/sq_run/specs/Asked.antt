-- Which rules are asked of which sites of a statement. In `Binding` each rule names some kinds of site, and finds no fault at
-- any other; here each kind has all its rules, so that a reader sees what is not asked of it.
use Rattle.std.specs.Prelude.{◌≡◌, Bool, true, false, List, [], ◌∷◌}
use Rattle.std.specs.List.{AllByRecursion, IsAmong}
use Rattle.sq_meaning.specs.Binding.{Judged, breaks}
use Rattle.sq_meaning.specs.SchemaRefusal.{is_refused_in_check}
use Rattle.sq_meaning.specs.Site.{Site}
use Rattle.sq_meaning.specs.declared.fault.BindingFault.{BindingFault}
use Rattle.sq_meaning.specs.declared.fault.BindingFault.TheVariants as fault

-- a site without what stands there
pub data SiteKind : Type 0 where
  table_read from_whole column_read parameter_read function_called : SiteKind
  number_wanted text_wanted alike_wanted product_scale counts column_count star_of_groups : SiteKind
  user_read subquery_read : SiteKind
  table_changed column_changed column_list targets : SiteKind
  sort_by cursor_used positioned orientation_used privilege_used : SiteKind

abbrev pub kind_of_site : Site → SiteKind
kind_of_site (Site.table_read reference) = table_read
kind_of_site (Site.from_whole references) = from_whole
kind_of_site (Site.column_read around column) = column_read
kind_of_site (Site.parameter_read parameter) = parameter_read
kind_of_site (Site.function_called around operand) = function_called
kind_of_site (Site.number_wanted kind) = number_wanted
kind_of_site (Site.text_wanted kind) = text_wanted
kind_of_site (Site.alike_wanted kind other) = alike_wanted
kind_of_site (Site.product_scale sign kind other) = product_scale
kind_of_site (Site.counts count other) = counts
kind_of_site (Site.column_count count) = column_count
kind_of_site Site.star_of_groups = star_of_groups
kind_of_site Site.user_read = user_read
kind_of_site Site.subquery_read = subquery_read
kind_of_site (Site.table_changed table) = table_changed
kind_of_site (Site.column_changed table column) = column_changed
kind_of_site (Site.column_list columns) = column_list
kind_of_site (Site.targets parameters) = targets
kind_of_site (Site.sort_by columns key) = sort_by
kind_of_site (Site.cursor_used cursor) = cursor_used
kind_of_site (Site.positioned table cursor) = positioned
kind_of_site (Site.orientation_used scrolls orientation) = orientation_used
kind_of_site (Site.privilege_used table privilege) = privilege_used

-- the rules that are asked of a site, by its kind; every kind is listed
abbrev pub rules_asked : SiteKind → List BindingFault
-- FROM (6.3, 7.4)
rules_asked table_read = fault.UnknownTable ∷ fault.PrivilegeMissing ∷ []
rules_asked from_whole = fault.AmbiguousName ∷ fault.LimitExceeded ∷ []
-- value expressions (6.2, 6.4, 6.5, 6.12)
rules_asked column_read = fault.UnknownColumn ∷ fault.AmbiguousName ∷ fault.UngroupedColumn ∷ []
rules_asked parameter_read = fault.UnknownParameter ∷ fault.BadIndicator ∷ []
rules_asked function_called = fault.MisplacedSetFunction ∷ []
rules_asked number_wanted = fault.KindMismatch ∷ []
rules_asked text_wanted = fault.KindMismatch ∷ []
rules_asked alike_wanted = fault.KindMismatch ∷ []
rules_asked product_scale = fault.LimitExceeded ∷ []
-- lists (7.9, 7.10, 13.5, 13.8)
rules_asked counts = fault.CountMismatch ∷ []
rules_asked column_count = fault.LimitExceeded ∷ []
rules_asked star_of_groups = fault.CountMismatch ∷ []
-- Only a CHECK may not have these (11.9, own rule).
rules_asked user_read = []
rules_asked subquery_read = []
-- what is changed (13.6 to 13.10)
rules_asked table_changed = fault.UnknownTable ∷ fault.NotUpdatable ∷ []
rules_asked column_changed = fault.UnknownColumn ∷ []
rules_asked column_list = fault.ColumnTwice ∷ []
rules_asked positioned = fault.NotUpdatable ∷ []
-- INTO (13.3, 13.5)
rules_asked targets = fault.UnknownParameter ∷ fault.BadIndicator ∷ fault.TargetTwice ∷ []
-- cursors (13.1 to 13.4)
rules_asked sort_by = fault.BadSortKey ∷ []
rules_asked cursor_used = fault.UnknownCursor ∷ []
rules_asked orientation_used = fault.UnknownParameter ∷ fault.BadOrientation ∷ []
-- privileges (4.26)
rules_asked privilege_used = fault.PrivilegeMissing ∷ []

abbrev pub asks_none : List BindingFault → Bool
asks_none [] = true
asks_none (f ∷ others) = false

-- There is a site of this kind at which something known breaks the rule.
pub record CanBreak (kind : SiteKind) (f : BindingFault) : Type 0 where
  pub judged : Judged
  pub site : Site
  pub is_of : kind_of_site site ≡ kind
  pub broken : breaks judged f site ≡ true

pub record OnlyListedRulesBreak : Type 0 where
  -- A rule that is broken at a site is asked of its kind.
  pub only : (j : Judged) (f : BindingFault) (s : Site) → breaks j f s ≡ true
      → IsAmong (rules_asked (kind_of_site s)) f
  -- Each rule that is asked of a kind can be broken there.
  pub each : (kind : SiteKind) → AllByRecursion (CanBreak kind) (rules_asked kind)
  -- The sites of which no rule is asked are those that a CHECK may not have.
  pub check : (s : Site) → is_refused_in_check s ≡ asks_none (rules_asked (kind_of_site s))
