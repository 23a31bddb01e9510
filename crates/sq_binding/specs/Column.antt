-- Columns of a table definition: their domains, whether they are NOT NULL, and their defaults (ISO/IEC 9075:1992, 11.4 and 11.5).
use Rattle.std.specs.Prelude.{ℕ, Bool, true, false, nat_lt, if◌then◌else◌, Option, Some, None, Ok, Err}
use Rattle.std.specs.List.{list_any}
use Rattle.sq_value.specs.Domain.{domain_length}
use Rattle.sq_value.specs.declared.domain.Domain.{Domain}
use Rattle.sq_value.specs.declared.value.Value.{Value}
use Rattle.sq_value.specs.declared.value.Value.TheVariants as value
use Rattle.sq_tree.specs.declared.schema.ColumnConstraint.{ColumnConstraint}
use Rattle.sq_tree.specs.declared.schema.ColumnConstraint.TheVariants as constraint
use Rattle.sq_tree.specs.declared.schema.ColumnDefinition.{ColumnDefinition}
use Rattle.sq_tree.specs.declared.schema.DefaultValue.{DefaultValue}
use Rattle.sq_tree.specs.declared.schema.DefaultValue.TheVariants as default
use Rattle.sq_meaning.specs.Assignment.{assigned}
use Rattle.sq_meaning.specs.Spelled.{domain_of, number_with_sign}
use Rattle.sq_meaning.specs.Status as status
use Rattle.sq_meaning.specs.declared.refusal.SchemaFault.TheVariants as fault
use Rattle.sq_bound.specs.declared.names.ColumnDefault.{ColumnDefault}
use Rattle.sq_bound.specs.declared.names.ColumnDefault.TheVariants as column_default
use Rattle.sq_binding.specs.Catalog.{DeclaredColumn}
use Rattle.sq_binding.specs.ElementOutcome.{Outcome, ◌>>=◌, or_fault}

-- ---- domains

-- a column definition with the domain of its type
pub record TypedColumn : Type 0 where
  pub definition : ColumnDefinition
  pub domain : Domain

abbrev pub typed_column : ColumnDefinition → Outcome TypedColumn
typed_column c =
    or_fault fault.BadType (domain_of c.data_type) >>= λ d. Ok (record { definition = c; domain = d })

abbrev pub is_not_null : ColumnConstraint → Bool
is_not_null constraint.NotNull = true
is_not_null _ = false

-- NOT NULL is written for it
abbrev pub refuses_null : ColumnDefinition → Bool
refuses_null c = list_any is_not_null c.constraints

-- ---- defaults

-- the length of USER (own rule)
abbrev pub user_length : ℕ
user_length = 18

-- a value as its column stores it
abbrev pub stored : status.Outcome Value → Outcome ColumnDefault
stored (Ok v) = Ok (column_default.Value v)
stored (Err s) = Err fault.BadDefault

abbrev pub default_written : Domain → DefaultValue → Outcome ColumnDefault
default_written d (default.Number n) = stored (assigned d (value.Num (number_with_sign n)))
default_written d (default.Text characters) = stored (assigned d (value.Chars characters))
default_written d default.User =
    if nat_lt (domain_length d) user_length then Err fault.BadDefault else Ok column_default.User
default_written d default.Null = Ok (column_default.Value value.Null)

abbrev pub default_of : Domain → Option DefaultValue → Outcome ColumnDefault
default_of d None = Ok (column_default.Value value.Null)
default_of d (Some written) = default_written d written

abbrev pub declared_column : TypedColumn → Outcome DeclaredColumn
declared_column c =
    default_of c.domain c.definition.default
    >>= λ default. Ok (record {
      name = c.definition.name;
      domain = c.domain;
      not_null = refuses_null c.definition;
      default = default;
    })
