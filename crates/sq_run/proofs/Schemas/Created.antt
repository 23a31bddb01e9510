-- What schema elements create, in the order of the texts: base tables under their names, and views (ISO/IEC
-- 9075:1992, 11.1). The catalog's lists of both are those of the elements.
use Rattle.std.proofs.Common.{◌≡◌, ℕ, ◌+◌, List, [], ◌∷◌, ◌++◌, map, Option, Some, None, refl, sym, ap, ◌∙◌}
use Rattle.std.proofs.lemmas.List.{append-nil, append_assoc}
use Rattle.std.proofs.lemmas.List.Concat.{flat_map-append}
use Rattle.std.proofs.lemmas.Grind.{reverse_onto}
use Rattle.std.specs.Prelude.{flat_map, fold}
use Rattle.std.specs.List.{enumerate_from, filter_map}
use Rattle.sq_lex.specs.declared.name.Name.{Name}
use Rattle.sq_tree.specs.declared.schema.SchemaDefinition.{SchemaDefinition}
use Rattle.sq_tree.specs.declared.schema.SchemaElement.{SchemaElement}
use Rattle.sq_tree.specs.declared.schema.SchemaElement.TheVariants as element
use Rattle.sq_tree.specs.declared.schema.SchemaText.{SchemaText}
use Rattle.sq_tree.specs.declared.schema.TableDefinition.{TableDefinition}
use Rattle.sq_meaning.specs.Spelled.{table_of}
use Rattle.sq_meaning.specs.Schema.{BaseTable, Elements, base_table_of, base_tables}
use Rattle.sq_meaning.specs.SchemaRefusal.{Part, elements_of, elements_with, parts_of_schema, parts_of_text, schema_parts}
use Rattle.sq_catalog.specs.Catalog.{declared_definitions, declared_tables, definition_in, table_in}
use Rattle.sq_catalog.specs.Views.{WrittenView, declared_views, view_in}
use Rattle.sq_catalog.specs.declared.catalog.FullName.{FullName}

-- what each element gives, in the order of the texts
abbrev pub created : {A : Type 0} → (Name → SchemaElement → List A) → Elements → List A
created f [] = []
created f (e ∷ before) = created f before ++ f e.user e.element

-- ---- texts, schema by schema

module _ {A : Type 0} (f : Name → SchemaElement → List A) where
  abbrev of_element : Name → Option SchemaElement → List A
  of_element user None = []
  of_element user (Some e) = f user e

  abbrev of_part : Part → List A
  of_part p = of_element p.user p.element

  abbrev of_schema : SchemaDefinition → List A
  of_schema d = flat_map (f d.authorization) d.elements

  abbrev of_text : SchemaText → List A
  of_text t = flat_map of_schema (t.first ∷ t.rest)

  created_with : (before : Elements) (user : Name) (x : Option SchemaElement)
      → created f (elements_with before user x) ≡ created f before ++ of_element user x
  created_with before user None = sym (append-nil (created f before))
  created_with before user (Some e) = refl

  created_by_parts : (before : Elements) (parts : List Part)
      → created f (fold (λ b p. elements_with b p.user p.element) before parts) ≡ created f before ++ flat_map of_part parts
  created_by_parts before [] = sym (append-nil (created f before))
  created_by_parts before (p ∷ ps) =
      created_by_parts (elements_with before p.user p.element) ps
      ∙ ap (λ xs. xs ++ flat_map of_part ps) (created_with before p.user p.element)
      ∙ append_assoc (created f before) (of_part p) (flat_map of_part ps)

  parts_of_elements : (text schema : ℕ) (user : Name) (n : ℕ) (es : List SchemaElement)
      → flat_map of_part (map (λ e. record { text = text; schema = schema; number = Some e.0; user = user; element = Some e.1 }) (enumerate_from n es))
      ≡ flat_map (f user) es
  parts_of_elements text schema user n [] = refl
  parts_of_elements text schema user n (e ∷ es) = ap (λ xs. f user e ++ xs) (parts_of_elements text schema user (n + 1) es)

  parts_of_schemas : (text n : ℕ) (ds : List SchemaDefinition)
      → flat_map of_part (flat_map (parts_of_schema text) (enumerate_from n ds)) ≡ flat_map of_schema ds
  parts_of_schemas text n [] = refl
  parts_of_schemas text n (d ∷ ds) =
      flat_map-append of_part (parts_of_schema text (n, d)) (flat_map (parts_of_schema text) (enumerate_from (n + 1) ds))
      ∙ (λ i. parts_of_elements text n d.authorization 0 d.elements i ++ parts_of_schemas text (n + 1) ds i)

  parts_of_texts : (n : ℕ) (texts : List SchemaText)
      → flat_map of_part (flat_map parts_of_text (enumerate_from n texts)) ≡ flat_map of_text texts
  parts_of_texts n [] = refl
  parts_of_texts n (t ∷ ts) =
      flat_map-append of_part (parts_of_text (n, t)) (flat_map parts_of_text (enumerate_from (n + 1) ts))
      ∙ (λ i. parts_of_schemas n 0 (t.first ∷ t.rest) i ++ parts_of_texts (n + 1) ts i)

  created_by_texts : (texts : List SchemaText) → flat_map of_text texts ≡ created f (elements_of texts)
  created_by_texts texts = sym (created_by_parts [] (schema_parts texts) ∙ parts_of_texts 0 texts)

-- ---- the catalog's lists

abbrev pub tables_created : Elements → List FullName
tables_created elements = created table_in elements

abbrev pub definitions_created : Elements → List TableDefinition
definitions_created elements = created (λ user. definition_in) elements

abbrev pub views_created : Elements → List WrittenView
views_created elements = created view_in elements

pub declared_tables_are : (texts : List SchemaText) → declared_tables texts ≡ tables_created (elements_of texts)
declared_tables_are texts = created_by_texts table_in texts

pub declared_definitions_are : (texts : List SchemaText) → declared_definitions texts ≡ definitions_created (elements_of texts)
declared_definitions_are texts = created_by_texts (λ user. definition_in) texts

pub declared_views_are : (texts : List SchemaText) → declared_views texts ≡ views_created (elements_of texts)
declared_views_are texts = created_by_texts view_in texts

-- ---- the base tables of the definitions

abbrev pub base_in : Name → SchemaElement → List BaseTable
base_in user (element.Table t) = record { name = table_of user t.name; definition = t } ∷ []
base_in user (element.View v) = []
base_in user (element.Grant g) = []

pub bases_created : (elements : Elements) → base_tables elements ≡ created base_in elements
bases_created [] = refl
bases_created (e ∷ before) = with_one (bases_created before) e.user e.element
  where
    with_one : base_tables before ≡ created base_in before → (user : Name) (x : SchemaElement)
        → base_tables (record { user = user; element = x } ∷ before) ≡ created base_in before ++ base_in user x
    with_one others user (element.Table t) =
        reverse_onto (filter_map (λ e. base_table_of e.user e.element) before) (record { name = table_of user t.name; definition = t }) []
        ∙ ap (λ ts. ts ++ record { name = table_of user t.name; definition = t } ∷ []) others
    with_one others user (element.View v) = others ∙ sym (append-nil (created base_in before))
    with_one others user (element.Grant g) = others ∙ sym (append-nil (created base_in before))
