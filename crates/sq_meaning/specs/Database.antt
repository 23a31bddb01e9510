-- The conditions that a database and the parameters of a call meet if they are as declared (ISO/IEC 9075:1992, 4.10, 11.19
-- and 12.3), for trees by name.
use Rattle.std.specs.Prelude.{◌≡◌, ⊤, List, [], ◌∷◌, find, Option, Some, None, Ok}
use Rattle.std.specs.List.{AllZip}
use Rattle.std.specs.Option.{option_map}
use Rattle.sq_lex.specs.declared.name.Name.{Name}
use Rattle.sq_value.specs.Domain.{IsOfKind, kind_of}
use Rattle.sq_value.specs.declared.domain.Kind.{Kind}
use Rattle.sq_store.specs.Content.{Content, table_at}
use Rattle.sq_tree.specs.declared.names.Indicator.{Indicator}
use Rattle.sq_tree.specs.declared.names.Parameter.{Parameter}
use Rattle.sq_meaning.specs.Status.{Outcome, well_formed}
use Rattle.sq_meaning.specs.Environment.{Input, same_name}
use Rattle.sq_meaning.specs.Kind.{select_kinds}
use Rattle.sq_meaning.specs.Tables.{Tables, TableBody, base_table, viewed_table, Declared, column_kinds, kinds_by_name, by_name, rows_in}
use Rattle.sq_meaning.specs.WellFormed.{HasValue, AreRowsOf, WellFormedSelect}

-- The rows of a base table are of the kinds of its columns. The query of a view is well formed in the tables before it,
-- and has those kinds.
abbrev pub IsBodyOf : Tables → Content → Name → List Kind → TableBody → Type 0
IsBodyOf earlier content caller kinds (base_table place) = AreRowsOf kinds (rows_in (table_at content place))
IsBodyOf earlier content caller kinds (viewed_table q check_option) =
    WellFormedSelect (by_name earlier content caller) (kinds_by_name earlier []) (λ p. ⊥) [] q
    × (select_kinds (kinds_by_name earlier []) [] q ≡ Ok kinds)

abbrev pub IsDatabaseOf : Tables → Content → Name → Type 0
IsDatabaseOf [] content caller = ⊤
IsDatabaseOf (d ∷ earlier) content caller =
    IsBodyOf earlier content caller (column_kinds d) d.body × IsDatabaseOf earlier content caller

-- ---- parameters

abbrev pub kind_named : List Declared → Name → Outcome Kind
kind_named parameters name =
    well_formed (option_map (λ d. kind_of d.domain) (find (λ d. same_name d.name name) parameters))

abbrev pub IndicatorIsDeclared : List Declared → Option Indicator → Type 0
IndicatorIsDeclared parameters None = ⊤
IndicatorIsDeclared parameters (Some i) = HasValue (kind_named parameters i.name)

-- a parameter is declared, and its indicator parameter, too (6.2)
abbrev pub IsDeclaredIn : List Declared → Parameter → Type 0
IsDeclaredIn parameters p =
    HasValue (kind_named parameters p.name) × IndicatorIsDeclared parameters p.indicator

-- each input has the name of its parameter, and a value of its kind
abbrev pub AreInputsAs : List Declared → List Input → Type 0
AreInputsAs = AllZip (λ d i. (d.name ≡ i.name) × IsOfKind (kind_of d.domain) i.value)
