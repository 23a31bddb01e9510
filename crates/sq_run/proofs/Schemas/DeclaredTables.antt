-- Each base table of the definitions is the catalog's at its place (ISO/IEC 9075:1992, 11.3 to 11.9): it
-- stores values of the same domains, has the same defaults, and its rows are checked as it is written.
use Rattle.std.proofs.Common.{◌≡◌, false, List, [], ◌∷◌, ◌++◌, length, Option, Some, None, refl, sym, ap, subst, ◌∙◌, arith}
use Rattle.std.proofs.lemmas.List.{append-nil}
use Rattle.std.specs.Prelude.{nat_lt, IfSome}
use Rattle.std.specs.List.{AllByRecursion, AllZip, cons_option, filter_map}
use Rattle.std.proofs.lemmas.Bool.{or_parts}
use Rattle.sq_lex.specs.declared.name.Name.{Name}
use Rattle.sq_tree.specs.declared.schema.SchemaElement.{SchemaElement}
use Rattle.sq_tree.specs.declared.schema.SchemaElement.TheVariants as element
use Rattle.sq_tree.specs.declared.schema.SchemaText.{SchemaText}
use Rattle.sq_tree.specs.declared.schema.TableDefinition.{TableDefinition}
use Rattle.sq_meaning.specs.Spelled.{cond_of, listed_if_any, table_of}
use Rattle.sq_meaning.proofs.AnswerLaws.{all_appended}
use Rattle.sq_meaning.specs.Schema.{BaseTable, Constraint, Elements, base_tables, checks, column_definitions, constraints, has_name_twice, primary_columns, primary_keys, reference_in, table_columns, table_references}
use Rattle.sq_meaning.specs.SchemaRefusal.{elements_of, first_schema_refusal, is_bad_key, is_bad_list}
use Rattle.sq_bound.specs.Known.{KnownTables}
use Rattle.sq_bound.specs.declared.condition.BoundSpecification.{BoundSpecification}
use Rattle.sq_bound.specs.declared.names.BaseTable.{BaseTable as BoundTable}
use Rattle.sq_run.proofs.Sites.SiteLaws.{none_passes}
use Rattle.sq_catalog.specs.Base.{AreBasesOf, IsBaseOf}
use Rattle.sq_catalog.specs.Catalog.{declared_definitions, declared_tables, definition_in, named_by, table_in}
use Rattle.sq_catalog.specs.Columns.{AreBaseColumnsOf}
use Rattle.sq_catalog.specs.Declares.{Declares}
use Rattle.sq_catalog.specs.declared.catalog.FullName.{FullName}
use Rattle.sq_catalog.proofs.CreateTable.WrittenRules.{columns_are_written}
use Rattle.sq_run.proofs.Changed.Checks.{IsCondOfRow}
use Rattle.sq_run.proofs.Sites.ChecksRead.{checks_read_row}
use Rattle.sq_run.proofs.Changed.Statements.{IsTableAs}
use Rattle.sq_run.proofs.Laws.Accepted.{AreAccepted, IsAccepted, accepted_elements, checks_good, columns_apart, keys_good, table_of_user}
use Rattle.sq_run.proofs.Schemas.Created.{base_in, bases_created, created, declared_definitions_are, declared_tables_are, definitions_created, tables_created}
use Rattle.sq_run.proofs.Schemas.Declared.{definitions_counted}
use Rattle.sq_run.proofs.Schemas.DeclaredColumns.{columns_as}

-- ---- the base tables of the definitions

abbrev pub named_table : FullName → TableDefinition → BaseTable
named_table name t = record { name = record { user = name.user; name = name.name }; definition = t }

abbrev pub named_tables : List FullName → List TableDefinition → List BaseTable
named_tables [] ts = []
named_tables (n ∷ ns) [] = []
named_tables (n ∷ ns) (t ∷ ts) = named_table n t ∷ named_tables ns ts

named_last : (ns : List FullName) (ts : List TableDefinition) → length ts ≡ length ns → (n : FullName) (t : TableDefinition)
    → named_tables (ns ++ n ∷ []) (ts ++ t ∷ []) ≡ named_tables ns ts ++ named_table n t ∷ []
named_last [] [] e n t = refl
named_last [] (u ∷ ts) e n t = absurd (omega arith)
named_last (m ∷ ns) [] e n t = absurd (omega arith)
named_last (m ∷ ns) (u ∷ ts) e n t =
    let fewer : length ts ≡ length ns = omega arith in ap (λ l. named_table m u ∷ l) (named_last ns ts fewer n t)

created_named : (elements : Elements) → created base_in elements ≡ named_tables (tables_created elements) (definitions_created elements)
created_named [] = refl
created_named (e ∷ before) = of_one (created_named before) e.user e.element
  where
    of_one : created base_in before ≡ named_tables (tables_created before) (definitions_created before)
        → (user : Name) (x : SchemaElement)
        → created base_in before ++ base_in user x
        ≡ named_tables (tables_created before ++ table_in user x) (definitions_created before ++ definition_in x)
    of_one others user (element.Table t) =
        ap (λ l. l ++ named_table (named_by user t.name) t ∷ []) others
        ∙ sym (named_last (tables_created before) (definitions_created before) (definitions_counted before) (named_by user t.name) t)
    of_one others user (element.View v) =
        append-nil (created base_in before) ∙ others
        ∙ (λ i. named_tables (sym (append-nil (tables_created before)) i) (sym (append-nil (definitions_created before)) i))
    of_one others user (element.Grant g) =
        append-nil (created base_in before) ∙ others
        ∙ (λ i. named_tables (sym (append-nil (tables_created before)) i) (sym (append-nil (definitions_created before)) i))

pub base_tables_named : (texts : List SchemaText)
    → base_tables (elements_of texts) ≡ named_tables (declared_tables texts) (declared_definitions texts)
base_tables_named texts =
    bases_created (elements_of texts) ∙ created_named (elements_of texts)
    ∙ (λ i. named_tables (sym (declared_tables_are texts) i) (sym (declared_definitions_are texts) i))

-- ---- and of the catalog

-- a base table of the definitions is that of the catalog
abbrev pub IsBaseAs : BaseTable → BoundTable → Type 0
IsBaseAs t b = IsBaseOf (record { user = t.name.user; name = t.name.name }) t.definition b

bases_zipped : (ns : List FullName) (ts : List TableDefinition) (bs : List BoundTable) → AreBasesOf ns ts bs
    → AllZip IsBaseAs (named_tables ns ts) bs
bases_zipped [] [] [] h = tt
bases_zipped (n ∷ ns) (t ∷ ts) (b ∷ bs) h = (h.0, bases_zipped ns ts bs h.1)
bases_zipped _ _ _ h = absurd h

pub all_bases : (texts : List SchemaText) (known : KnownTables) (bases : List BoundTable) (views : List BoundSpecification)
    → Declares texts known bases views → AllZip IsBaseAs (base_tables (elements_of texts)) bases
all_bases texts known bases views d =
    subst (λ ts. AllZip IsBaseAs ts bases) (sym (base_tables_named texts))
    (bases_zipped (declared_tables texts) (declared_definitions texts) bases d.bases_are)

-- Its columns store values of the domains that are written for them, and have the defaults that are written.
pub table_as : (t : BaseTable) (b : BoundTable) → IsBaseAs t b → IsTableAs t b
table_as t b h =
    columns_as (column_definitions t.definition) b.columns
    (subst (λ ws. AreBaseColumnsOf ws b.columns) (columns_are_written t.definition) h.columns)

-- ---- what the rules say of a base table

-- No two columns have one name, and each CHECK reads its row alone; no column is listed twice in the
-- primary key, or as a referenced one.
pub record IsSoundTable (t : BaseTable) : Type 0 where
  pub once : has_name_twice (table_columns t.definition) ≡ false
  pub of_row : AllByRecursion (λ written. IsCondOfRow (cond_of t.name.user written)) (checks t.definition)
  pub primary_once : AllByRecursion (λ names. has_name_twice names ≡ false) (primary_keys t.definition)
  pub references_once : AllByRecursion (λ r. has_name_twice (listed_if_any r.references.columns) ≡ false) (table_references t.definition)

-- what is said of some of a list
pub all_chosen : {A B : Type 0} (h : A → Option B) (P : A → Type 0) (Q : B → Type 0) → ((x : A) → P x → IfSome (h x) Q) → (xs : List A)
    → AllByRecursion P xs → AllByRecursion Q (filter_map h xs)
all_chosen h P Q f [] p = tt
all_chosen {A} {B} h P Q f (x ∷ xs) p = of_one (h x) (f x p.0) (all_chosen h P Q f xs p.1)
  where
    of_one : (o : Option B) → IfSome o Q → AllByRecursion Q (filter_map h xs) → AllByRecursion Q (cons_option o (filter_map h xs))
    of_one None q others = others
    of_one (Some y) q others = (q, others)

primary_apart : (c : Constraint) → is_bad_key c ≡ false → IfSome (primary_columns c) (λ names. has_name_twice names ≡ false)
primary_apart (Constraint.not_null name) e = tt
primary_apart (Constraint.unique names) e = tt
primary_apart (Constraint.primary_key names) e = (or_parts (has_name_twice names) (nat_lt 6 (length names)) e).0
primary_apart (Constraint.referential names r) e = tt
primary_apart (Constraint.check c) e = tt

referenced_apart : (c : Constraint) → is_bad_key c ≡ false
    → IfSome (reference_in c) (λ r. has_name_twice (listed_if_any r.references.columns) ≡ false)
referenced_apart (Constraint.not_null name) e = tt
referenced_apart (Constraint.unique names) e = tt
referenced_apart (Constraint.primary_key names) e = tt
referenced_apart (Constraint.referential names r) e =
    (or_parts (has_name_twice (listed_if_any r.columns)) (nat_lt 6 (length (listed_if_any r.columns)))
    (or_parts (is_bad_list names) (is_bad_list (listed_if_any r.columns)) e).1).0
referenced_apart (Constraint.check c) e = tt

sound_created : (elements : Elements) → AreAccepted elements → AllByRecursion IsSoundTable (created base_in elements)
sound_created [] a = tt
sound_created (e ∷ before) a = of_one (sound_created before a.1) e.user e.element a.0
  where
    of_one : AllByRecursion IsSoundTable (created base_in before) → (user : Name) (x : SchemaElement) → IsAccepted before user x
        → AllByRecursion IsSoundTable (created base_in before ++ base_in user x)
    of_one others user (element.Table t) h =
        all_appended IsSoundTable (created base_in before) (record { name = table_of user t.name; definition = t } ∷ [])
        others (
          record {
            once = columns_apart before user t h;
            of_row =
                subst (λ owner. AllByRecursion (λ written. IsCondOfRow (cond_of owner written)) (checks t))
                (sym (table_of_user before user t h))
                (checks_read_row (record { user = user; element = element.Table t } ∷ before) user t (checks t) (checks_good before user t h));
            primary_once =
                all_chosen primary_columns (λ c. is_bad_key c ≡ false) (λ names. has_name_twice names ≡ false) primary_apart (constraints t)
                (none_passes is_bad_key (constraints t) (keys_good before user t h));
            references_once =
                all_chosen reference_in (λ c. is_bad_key c ≡ false) (λ r. has_name_twice (listed_if_any r.references.columns) ≡ false)
                referenced_apart (constraints t) (none_passes is_bad_key (constraints t) (keys_good before user t h));
          },
          tt,
        )
    of_one others user (element.View v) h =
        subst (λ ts. AllByRecursion IsSoundTable ts) (sym (append-nil (created base_in before))) others
    of_one others user (element.Grant g) h =
        subst (λ ts. AllByRecursion IsSoundTable ts) (sym (append-nil (created base_in before))) others

pub sound_tables : (texts : List SchemaText) → first_schema_refusal texts ≡ None
    → AllByRecursion IsSoundTable (base_tables (elements_of texts))
sound_tables texts e =
    subst (λ ts. AllByRecursion IsSoundTable ts) (sym (bases_created (elements_of texts)))
    (sound_created (elements_of texts) (accepted_elements texts e))
