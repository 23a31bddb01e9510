-- The meanings of names, as the definitions of binding see them. They are tables whose columns have known kinds, and base tables under
-- the ones that may be changed.
use Rattle.std.proofs.Common.{◌≡◌, ℕ, zero, suc, Bool, true, List, [], ◌∷◌, map, Option, Some, None, Ok, sym, ap, subst, ◌∙◌}
use Rattle.std.proofs.lemmas.Bool.{eqb-true, and_parts}
use Rattle.std.proofs.lemmas.Simd.{map-map}
use Rattle.std.specs.Prelude.{IfSome, slice_get}
use Rattle.std.specs.List.{AllByRecursion, list_all, zip}
use Rattle.std.specs.Option.{option_map}
use Rattle.sq_value.specs.Domain.{kind_of}
use Rattle.sq_value.specs.declared.domain.Kind.{Kind}
use Rattle.sq_value.specs.declared.domain.Kind.TheVariants.{Num, Chars, Vary}
use Rattle.sq_meaning.specs.Environment.{TableName}
use Rattle.sq_meaning.specs.Tables.{ColumnDescriptor}
use Rattle.sq_meaning.specs.WellFormed.{Has}
use Rattle.sq_bound.specs.Fits.{IsBase, IsOver}
use Rattle.sq_bound.specs.Known.{KnownTable, KnownTables, Under, known_by, under_of}
use Rattle.sq_bound.specs.Names.{is_kind_at, option_all, same_kind}
use Rattle.sq_bound.specs.WellFormed as well_formed
use Rattle.sq_bound.specs.WellFormed.{IsLeaf, IsTable, TableKinds, base_kinds, kinds_of_columns}
use Rattle.sq_bound.specs.declared.condition.TablePlace.TheVariants.{Base}
use Rattle.sq_bound.specs.declared.names.BaseTable.{BaseTable}
use Rattle.sq_bound.specs.declared.names.Column.{Column}
use Rattle.sq_bound.specs.declared.names.Leaf.{Leaf}
use Rattle.sq_bound.specs.declared.names.ParameterDesc.{ParameterDesc}
use Rattle.sq_bound.specs.declared.names.TableDesc.{TableDesc}
use Rattle.sq_bound.specs.WellFormed.{kinds_of_parameters}
use Rattle.sq_binding.specs.From.{NamedTable, column_over}
use Rattle.sq_binding.specs.Scope.{FromItem, ItemColumn}
use Rattle.sq_binding.proofs.Standing.Levels.{IsItemOver, NamesKnow, kinds_declared}
use Rattle.sq_binding.specs.Names.{NamesMean, Stands, StandsUnder, declared, declared_of, descriptor_of, leaf_positions, meant_by, named_table, named_tables}

-- ---- kinds

pub kinds_described : (columns : List Column) → map (λ (d : ColumnDescriptor). d.kind) (map descriptor_of columns) ≡ kinds_of_columns columns
kinds_described columns = map-map (λ (d : ColumnDescriptor). d.kind) descriptor_of columns

pub kinds_of_declared : (parameters : List ParameterDesc) → kinds_declared (declared parameters) ≡ kinds_of_parameters parameters
kinds_of_declared parameters = map-map (λ p. kind_of p.domain) declared_of parameters

know_from : (kinds : TableKinds) (may_select may_grant : Bool) (k : Option KnownTable) → IfSome k (λ t. kinds t.place ≡ Ok (kinds_of_columns t.columns)) → (t : NamedTable)
    → option_map (named_table may_select may_grant) k ≡ Some t → kinds t.place ≡ Ok (map (λ c. c.kind) t.columns)
know_from kinds may_select may_grant None h t is = cc
know_from kinds may_select may_grant (Some k) h t is =
    let same : named_table may_select may_grant k ≡ t = cc in
    subst (λ (t : NamedTable). kinds t.place ≡ Ok (map (λ c. c.kind) t.columns)) same (h ∙ ap (λ (ks : List Kind). Ok ks) (sym (kinds_described k.columns)))

kinds_stand : (bases : List BaseTable) (kinds : TableKinds) (k : Option KnownTable) → IfSome k (Stands bases kinds) → IfSome k (λ t. kinds t.place ≡ Ok (kinds_of_columns t.columns))
kinds_stand bases kinds None h = tt
kinds_stand bases kinds (Some k) h = h.kinds_are

-- the columns of each table that is named have the kinds that are known
pub names_know : (bases : List BaseTable) (kinds : TableKinds) (known : KnownTables) → NamesMean bases kinds known → (selects grants : TableName → Bool) → NamesKnow kinds (named_tables known selects grants)
names_know bases kinds known mean selects grants name t is =
    know_from kinds (selects name) (grants name) (meant_by known name) (kinds_stand bases kinds (meant_by known name) (mean name)) t is

-- ---- what is under a table

same_base : (b c : Option BaseTable) (x y : BaseTable) → b ≡ Some x → c ≡ Some y → b ≡ c → x ≡ y
same_base b c x y e f g = let same : Some x ≡ Some y = sym e ∙ g ∙ f in cc

pub base_is : (bases : List BaseTable) (kinds : TableKinds) (columns : List Column) (u : Under) (h : StandsUnder bases kinds columns u) (l : Leaf) → under_of l ≡ u → IsBase bases l.table → h.base ≡ l.table
base_is bases kinds columns u h l same base =
    same_base (slice_get bases u.base) (slice_get bases l.table.place) h.base l.table h.is_base base (ap (slice_get bases) (sym (ap (λ (u : Under). u.base) same)))

pub leaf_stands : (bases : List BaseTable) (kinds : TableKinds) (columns : List Column) (u : Under) → StandsUnder bases kinds columns u → (l : Leaf) → under_of l ≡ u → IsBase bases l.table → IsLeaf kinds l
leaf_stands bases kinds columns u h l same base =
    let is : h.base ≡ l.table = base_is bases kinds columns u h l same base in
    record {
      kinds_are = ap (λ (u : Under). kinds (Base u.base)) same ∙ h.kinds_are ∙ ap (λ (b : BaseTable). Ok (base_kinds b)) is;
      conditions =
          subst (λ (b : BaseTable). AllByRecursion (well_formed.IsCondOn kinds b) l.conditions) is
          (subst (λ (u : Under). AllByRecursion (well_formed.IsCondOn kinds h.base) u.conditions) (sym same) h.conditions);
      checks = subst (λ (b : BaseTable). AllByRecursion (well_formed.IsCondOn kinds b) b.checks) is h.checks;
    }

-- each column of a table is, at its place in the base table, one of its kind
columns_over : (own : List Kind) (columns : List Column) → AllByRecursion (λ (c : Column). slice_get own c.leaf_column ≡ Some c.kind) columns
    → AllByRecursion (λ (c : ItemColumn). slice_get own c.position ≡ Some c.kind) (map column_over (zip (leaf_positions columns) (map descriptor_of columns)))
columns_over own [] h = tt
columns_over own (c ∷ columns) h = (h.0, columns_over own columns h.1)

pub leaf_is_over : (bases : List BaseTable) (kinds : TableKinds) (columns : List Column) (u : Under) → StandsUnder bases kinds columns u → (item : FromItem)
    → item.columns ≡ map column_over (zip (leaf_positions columns) (map descriptor_of columns)) → IsItemOver kinds (Base u.base) item
leaf_is_over bases kinds columns u h item is =
    subst (Has (λ ks. AllByRecursion (λ c. slice_get ks c.position ≡ Some c.kind) item.columns)) (sym h.kinds_are)
    (subst (AllByRecursion (λ c. slice_get (base_kinds h.base) c.position ≡ Some c.kind)) (sym is) (columns_over (base_kinds h.base) columns h.columns_are))

-- ---- the tables that a catalog describes

same_kinds : (k l : Kind) → same_kind k l ≡ true → k ≡ l
same_kinds (Num s) (Num t) e = ap Num (eqb-true s t e)
same_kinds (Chars m) (Chars n) e = ap Chars (eqb-true m n e)
same_kinds (Vary m) (Vary n) e = ap Vary (eqb-true m n e)
same_kinds (Num s) (Chars n) e = cc
same_kinds (Num s) (Vary n) e = cc
same_kinds (Chars m) (Num t) e = cc
same_kinds (Chars m) (Vary n) e = cc
same_kinds (Vary m) (Num t) e = cc
same_kinds (Vary m) (Chars n) e = cc

kind_there : (kinds : List Kind) (n : ℕ) (k : Kind) → is_kind_at kinds n k ≡ true → slice_get kinds n ≡ Some k
kind_there [] n k e = cc
kind_there (l ∷ kinds) zero k e = ap Some (same_kinds l k e)
kind_there (l ∷ kinds) (suc n) k e = kind_there kinds n k e

leaves_are : (own : List Kind) (columns : List Column) → list_all (λ c. is_kind_at own c.leaf_column c.kind) columns ≡ true → AllByRecursion (λ (c : Column). slice_get own c.leaf_column ≡ Some c.kind) columns
leaves_are own [] e = tt
leaves_are own (c ∷ columns) e =
    let both = and_parts (is_kind_at own c.leaf_column c.kind) (list_all (λ (c : Column). is_kind_at own c.leaf_column c.kind) columns) e in
    (kind_there own c.leaf_column c.kind both.0, leaves_are own columns both.1)

under_stands : (bases : List BaseTable) (kinds : TableKinds) (columns : List Column) (leaf : Option Leaf)
    → option_all (λ l. list_all (λ c. is_kind_at (map (λ own. kind_of own.domain) l.table.columns) c.leaf_column c.kind) columns) leaf ≡ true
    → IfSome leaf (λ l. IsBase bases l.table) → IfSome leaf (IsLeaf kinds) → IfSome (option_map under_of leaf) (StandsUnder bases kinds columns)
under_stands bases kinds columns None are base stands = tt
under_stands bases kinds columns (Some l) are base stands = record {
  base = l.table;
  is_base = base;
  kinds_are = stands.kinds_are;
  conditions = stands.conditions;
  checks = stands.checks;
  columns_are = leaves_are (base_kinds l.table) columns are;
}

-- a table that is described stands
pub described_stands : (bases : List BaseTable) (kinds : TableKinds) (t : TableDesc) → IsOver bases t → IsTable kinds t → Stands bases kinds (known_by t)
described_stands bases kinds t over is = record { kinds_are = is.kinds_are; under = under_stands bases kinds t.columns t.leaf t.leaf_kinds over is.leaf }
