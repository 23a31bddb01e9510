-- The columns that a table definition writes, as the definitions have them and as the catalog has them
-- (ISO/IEC 9075:1992, 11.3 to 11.5).
use Rattle.std.proofs.Common.{◌≡◌, ℕ, ◌+◌, List, [], ◌∷◌, map, Option, Some, None, refl, sym, ap, subst, ◌∙◌, Ok}
use Rattle.std.specs.Prelude.{unwrap_or}
use Rattle.std.specs.List.{AllZip, enumerate_from}
use Rattle.std.specs.Option.{option_map}
use Rattle.sq_lex.specs.declared.name.Name.{Name}
use Rattle.sq_tree.specs.declared.schema.ColumnDefinition.{ColumnDefinition}
use Rattle.sq_tree.specs.declared.schema.DefaultValue.{DefaultValue}
use Rattle.sq_tree.specs.declared.schema.DefaultValue.TheVariants as written
use Rattle.sq_value.specs.Domain.{kind_of}
use Rattle.sq_value.specs.Storing.{stored}
use Rattle.sq_value.specs.declared.domain.Domain.{Domain}
use Rattle.sq_value.specs.declared.domain.Domain.TheVariants as domain
use Rattle.sq_value.specs.declared.domain.Kind.{Kind}
use Rattle.sq_value.specs.declared.value.Value.{Value}
use Rattle.sq_value.specs.declared.value.Value.TheVariants.{Num, Chars}
use Rattle.sq_meaning.specs.Assignment.{IsStoreOutcome, assigned}
use Rattle.sq_meaning.specs.Spelled.{domain_of, number_with_sign}
use Rattle.sq_meaning.proofs.AssignmentLaws.{store_statuses}
use Rattle.sq_meaning.specs.Catalog.{column_descriptor, column_domain}
use Rattle.sq_meaning.specs.Change.{value_of_default}
use Rattle.sq_bound.specs.WellFormed.{kinds_of_columns}
use Rattle.sq_bound.specs.declared.names.BaseColumn.{BaseColumn}
use Rattle.sq_bound.specs.declared.names.Column.{Column}
use Rattle.sq_bound.specs.declared.names.ColumnDefault.{ColumnDefault}
use Rattle.sq_bound.specs.declared.names.ColumnDefault.TheVariants as default
use Rattle.sq_binding.specs.Names.{leaf_positions}
use Rattle.sq_catalog.specs.Columns.{AreBaseColumnsOf, IsBaseColumnOf, IsColumnOf, IsDefaultOf}
use Rattle.sq_change.specs.Made.{default_stored}
use Rattle.sq_run.proofs.Places.Items.{names_of_columns}
use Rattle.sq_run.proofs.Places.Outcomes.{weaker_zip}
use Rattle.sq_run.proofs.Changed.Statements.{IsColumnAs}

-- ---- columns as names see them

kind_is : (o : Option Domain) (k : Kind) → option_map kind_of o ≡ Some k → kind_of (unwrap_or o domain.Int) ≡ k
kind_is None k e = cc
kind_is (Some d) k e = cc

-- the names of the columns of a definition
pub names_seen : (n : ℕ) (ws : List ColumnDefinition) (cs : List Column) → AllZip IsColumnOf (enumerate_from n ws) cs
    → map (λ w. w.name) ws ≡ names_of_columns cs
names_seen n [] [] h = refl
names_seen n [] (c ∷ cs) h = absurd h
names_seen n (w ∷ ws) [] h = absurd h
names_seen n (w ∷ ws) (c ∷ cs) h = (λ i. sym h.0.name i ∷ names_seen (n + 1) ws cs h.1 i)

pub descriptor_names : (ws : List ColumnDefinition) → map (λ c. c.name) (map column_descriptor ws) ≡ map (λ w. w.name) ws
descriptor_names [] = refl
descriptor_names (w ∷ ws) = ap (λ ns. w.name ∷ ns) (descriptor_names ws)

-- their kinds
pub kinds_seen : (n : ℕ) (ws : List ColumnDefinition) (cs : List Column) → AllZip IsColumnOf (enumerate_from n ws) cs
    → map (λ w. kind_of (column_domain w)) ws ≡ kinds_of_columns cs
kinds_seen n [] [] h = refl
kinds_seen n [] (c ∷ cs) h = absurd h
kinds_seen n (w ∷ ws) [] h = absurd h
kinds_seen n (w ∷ ws) (c ∷ cs) h =
    (λ i. kind_is (domain_of w.data_type) c.kind h.0.kind i ∷ kinds_seen (n + 1) ws cs h.1 i)

pub descriptor_kinds : (ws : List ColumnDefinition)
    → map (λ c. c.kind) (map column_descriptor ws) ≡ map (λ w. kind_of (column_domain w)) ws
descriptor_kinds [] = refl
descriptor_kinds (w ∷ ws) = ap (λ ks. kind_of (column_domain w) ∷ ks) (descriptor_kinds ws)

-- each at its position
pub positions_seen : (n : ℕ) (ws : List ColumnDefinition) (cs : List Column) → AllZip IsColumnOf (enumerate_from n ws) cs
    → leaf_positions cs ≡ map (λ p. p.0) (enumerate_from n cs)
positions_seen n [] [] h = refl
positions_seen n [] (c ∷ cs) h = absurd h
positions_seen n (w ∷ ws) [] h = absurd h
positions_seen n (w ∷ ws) (c ∷ cs) h = (λ i. h.0.place i ∷ positions_seen (n + 1) ws cs h.1 i)

-- ---- columns as their table holds them

domain_is : (w : ColumnDefinition) (c : BaseColumn) → IsBaseColumnOf w c → column_domain w ≡ c.domain
domain_is w c h = ap (λ o. unwrap_or o domain.Int) h.domain

pub kinds_held : (ws : List ColumnDefinition) (cs : List BaseColumn) → AreBaseColumnsOf ws cs
    → map (λ c. kind_of c.domain) cs ≡ map (λ w. kind_of (column_domain w)) ws
kinds_held [] [] h = refl
kinds_held [] (c ∷ cs) h = absurd h
kinds_held (w ∷ ws) [] h = absurd h
kinds_held (w ∷ ws) (c ∷ cs) h = (λ i. kind_of (sym (domain_is w c h.0) i) ∷ kinds_held ws cs h.1 i)

-- ---- defaults (11.5)

-- what a domain stores of a value is assigned to it
assigned_stored : (d : Domain) (v s : Value) → stored d v ≡ Ok s → assigned d v ≡ Ok s
assigned_stored d v s e = subst (λ o. IsStoreOutcome o (assigned d v)) e (store_statuses d v)

default_is : (d : Domain) (o : Option DefaultValue) (c : ColumnDefault) → IsDefaultOf d o c → (user : Name)
    → assigned d (value_of_default user o) ≡ default_stored user d c
default_is d None c h user = ap (λ (x : ColumnDefault). default_stored user d x) (sym h)
default_is d (Some written.Null) c h user = ap (λ (x : ColumnDefault). default_stored user d x) (sym h)
default_is d (Some written.User) c h user = ap (λ (x : ColumnDefault). default_stored user d x) (sym h.0)
default_is d (Some (written.Number n)) (default.Value s) h user = assigned_stored d (Num (number_with_sign n)) s h
default_is d (Some (written.Number n)) default.User h user = absurd h
default_is d (Some (written.Text t)) (default.Value s) h user = assigned_stored d (Chars t) s h
default_is d (Some (written.Text t)) default.User h user = absurd h

-- A column of a base table stores values of the domain that is written for it, and has the
-- default that is written.
column_as : (w : ColumnDefinition) (c : BaseColumn) → IsBaseColumnOf w c → IsColumnAs w c
column_as w c h = record {
  domain = domain_is w c h;
  default = λ user. ap (λ d. assigned d (value_of_default user w.default)) (domain_is w c h) ∙ default_is c.domain w.default c.default h.default user;
}

pub columns_as : (ws : List ColumnDefinition) (cs : List BaseColumn) → AreBaseColumnsOf ws cs → AllZip IsColumnAs ws cs
columns_as = weaker_zip IsBaseColumnOf IsColumnAs column_as
