-- The premises of the laws of kinds of queries, from the facts that the machine keeps (ISO/IEC 9075:1992, 6.1, 9.2 and 12.3). The rows of a
-- base table whose values are in their columns' domains are of their kinds. So are the parameters at the start of a call.
use Rattle.std.proofs.Common.{arith}
use Rattle.std.proofs.lemmas.List.{length-replicate}
use Rattle.std.specs.List.{AllByRecursion}
use Rattle.std.specs.Prelude.{◌≡◌, ℕ, suc, List, [], ◌∷◌, map, length, unwrap_or, refl, Ok, Err}
use Rattle.std.specs.Result.{result_ok}
use Rattle.sq_lex.specs.declared.name.Name.{Name}
use Rattle.sq_value.specs.Domain.{IsInDomain, IsOfKind, kind_of, start_value}
use Rattle.sq_value.specs.declared.domain.Domain.{Domain}
use Rattle.sq_value.specs.declared.domain.Domain.TheVariants as domain
use Rattle.sq_value.specs.declared.value.Value.{Value}
use Rattle.sq_value.specs.declared.value.Value.TheVariants as value
use Rattle.sq_store.specs.Content.{Content, table_at}
use Rattle.sq_tree.specs.declared.schema.ColumnDefinition.{ColumnDefinition}
use Rattle.sq_tree.specs.declared.schema.TableDefinition.{TableDefinition}
use Rattle.sq_meaning.specs.Assignment.{assigned}
use Rattle.sq_meaning.specs.Database.{AreInputsAs, IsBodyOf}
use Rattle.sq_meaning.specs.Environment.{Row}
use Rattle.sq_meaning.specs.Status.{Outcome}
use Rattle.sq_meaning.specs.Tables.{Declared, Tables, column_kinds, rows_in}
use Rattle.sq_meaning.specs.WellFormed.{AreRowsOf, IsRowOf}
use Rattle.sq_meaning.proofs.DomainLaws.{assigned_in}
use Rattle.sq_meaning.specs.Catalog.{column_descriptor, column_domain, table_descriptor}
use Rattle.sq_meaning.specs.Constraints.{AreInDomains}
use Rattle.sq_meaning.specs.Parameter.{inputs_of, started, started_parameters}
use Rattle.sq_meaning.specs.Schema.{column_definitions}

-- a value of a domain is of the domain's kind
pub of_its_kind : (d : Domain) (v : Value) → IsInDomain d v → IsOfKind (kind_of d) v
of_its_kind d value.Null h = tt
of_its_kind domain.Small (value.Num n) h = h.0
of_its_kind domain.Int (value.Num n) h = h.0
of_its_kind (domain.Numeric p s) (value.Num n) h = h.0
of_its_kind (domain.Char k) (value.Num n) h = absurd h
of_its_kind (domain.VarChar k) (value.Num n) h = absurd h
of_its_kind domain.Small (value.Chars t) h = absurd h
of_its_kind domain.Int (value.Chars t) h = absurd h
of_its_kind (domain.Numeric p s) (value.Chars t) h = absurd h
of_its_kind (domain.Char k) (value.Chars t) h = h
of_its_kind (domain.VarChar k) (value.Chars t) h = h

-- ---- rows of base tables

row_of_its_kinds : (columns : List ColumnDefinition) (row : Row) → AreInDomains (map column_domain columns) row → IsRowOf (map (λ c. c.kind) (map column_descriptor columns)) row
row_of_its_kinds [] [] h = tt
row_of_its_kinds [] (v ∷ row) h = absurd h
row_of_its_kinds (c ∷ columns) [] h = absurd h
row_of_its_kinds (c ∷ columns) (v ∷ row) h = (of_its_kind (column_domain c) v h.0, row_of_its_kinds columns row h.1)

rows_of_its_kinds : (columns : List ColumnDefinition) (rows : List Row) → AllByRecursion (AreInDomains (map column_domain columns)) rows → AreRowsOf (map (λ c. c.kind) (map column_descriptor columns)) rows
rows_of_its_kinds columns [] h = tt
rows_of_its_kinds columns (row ∷ rows) h = (row_of_its_kinds columns row h.0, rows_of_its_kinds columns rows h.1)

-- a base table whose values are in their domains is as a database has to be
pub base_is_of_kinds : (earlier : Tables) (content : Content) (caller : Name) (place : ℕ) (owner : Name) (t : TableDefinition)
    → AllByRecursion (AreInDomains (map column_domain (column_definitions t))) (rows_in (table_at content place))
    → IsBodyOf earlier content caller (column_kinds (table_descriptor place owner t)) (table_descriptor place owner t).body
base_is_of_kinds earlier content caller place owner t h = rows_of_its_kinds (column_definitions t) (rows_in (table_at content place)) h

-- ---- parameters at the start of a call

start_of_its_kind : (d : Domain) → IsOfKind (kind_of d) (start_value d)
start_of_its_kind domain.Small = refl
start_of_its_kind domain.Int = refl
start_of_its_kind (domain.Numeric p s) = refl
start_of_its_kind (domain.Char n) = length-replicate n 32
start_of_its_kind (domain.VarChar n) = omega arith

stored_or_start : (d : Domain) (v : Value) (o : Outcome Value) → assigned d v ≡ o → IsOfKind (kind_of d) (unwrap_or (result_ok o) (start_value d))
stored_or_start d v (Ok w) e = of_its_kind d w (assigned_in d v w e)
stored_or_start d v (Err status) e = start_of_its_kind d

pub started_of_its_kind : (d : Domain) (v : Value) → IsOfKind (kind_of d) (started d v)
started_of_its_kind d value.Null = start_of_its_kind d
started_of_its_kind d (value.Num n) = stored_or_start d (value.Num n) (assigned d (value.Num n)) refl
started_of_its_kind d (value.Chars t) = stored_or_start d (value.Chars t) (assigned d (value.Chars t)) refl

one_less : (m n : ℕ) → suc m ≡ suc n → m ≡ n
one_less m n e = omega arith

-- the inputs of a call are as its parameters are declared
pub inputs_are_declared : (declared : List Declared) (values : List Value) → length declared ≡ length values → AreInputsAs declared (inputs_of (started_parameters declared values))
inputs_are_declared [] [] h = tt
inputs_are_declared [] (v ∷ values) h = cc
inputs_are_declared (d ∷ declared) [] h = cc
inputs_are_declared (d ∷ declared) (v ∷ values) h = ((refl, started_of_its_kind d.domain v), inputs_are_declared declared values (one_less (length declared) (length values) h))
