-- The part of schema texts that is refused first is one of theirs, and stands at its first token.
use Rattle.std.proofs.Common.{◌≡◌, ℕ, zero, suc, ◌+◌, ◌<◌, ◌≤◌, min, List, [], ◌∷◌, ◌++◌, length, get_or, map, slice_get, drop, Option, Some, None, Ok, Err, refl, ap, subst, sym, ◌∙◌, arith, length-append}
use Rattle.std.proofs.lemmas.List.Folds.{length-flat_map-take}
use Rattle.std.proofs.lemmas.Option.{get_or_from_slice_get, slice_get-get_or, slice_get_within}
use Rattle.std.specs.List.{AllByRecursion, enumerate_from, flat_map}
use Rattle.std.specs.Prelude.{IfSome}
use Rattle.sq_lex.specs.declared.lexeme.Lexeme.TheVariants as lexeme
use Rattle.sq_lex.specs.declared.symbol.Symbol.TheVariants as symbol
use Rattle.sq_tree.specs.Schema.{schema_definition_tokens, schema_element_tokens, schema_tokens, schema_depth}
use Rattle.sq_tree.specs.Starts.{before_element, before_element_of_first, schema_start, schemas}
use Rattle.sq_tree.specs.Tree.{if_written}
use Rattle.sq_tree.specs.declared.schema.SchemaDefinition.{SchemaDefinition}
use Rattle.sq_tree.specs.declared.schema.SchemaElement.{SchemaElement}
use Rattle.sq_tree.specs.declared.schema.SchemaElement.TheVariants as element
use Rattle.sq_tree.specs.declared.schema.SchemaText.{SchemaText}
use Rattle.sq_meaning.specs.SchemaRefusal.{Part, SchemaRefusal as Found, parts_of_schema, parts_of_text, part_refusal, schema_parts}
use Rattle.sq_meaning.specs.declared.refusal.SchemaFault.{SchemaFault}
use Rattle.sq_meaning.specs.Report.{Bytes}
use Rattle.sq_binding.specs.Catalog.{Catalog, empty}
use Rattle.sq_binding.specs.Declaring.{catalog_of, then_parts, with_part, with_parts}
use Rattle.sq_binding.specs.ElementOutcome.{Outcome}
use Rattle.sq_catalog.specs.Fault.{refusal_seen}
use Rattle.sq_catalog.specs.declared.fault.SchemaRefusal.{SchemaRefusal}
use Rattle.sq_perform.specs.Fault.{IsPlaced, IsPlacedAmong, IsRefusalIfAny, IsSchemaFault, TextFault}
use Rattle.sq_perform.specs.Refusal.{StandsInSchema, matter, refused_part, schema_fault}
use Rattle.sq_perform.specs.Refused.{IsOfSchemas}
use Rattle.sq_perform.specs.Texts.{AllSpell, SpellsTree}
use Rattle.sq_perform.specs.declared.refusal.Refusal.{Refusal}
use Rattle.sq_perform.specs.declared.refusal.RefusalName.TheVariants as what
use Rattle.sq_perform.specs.declared.fault.Fault.TheVariants.{NoMemory, Refused}
use Rattle.sq_perform.proofs.Spelled.{is_there, spelled_there, token_there}

-- ---- the parts of schema texts

-- the definition of this number in the text of this number, and the element of this number in it, if it is one
record IsThere (trees : List SchemaText) (text schema : ℕ) (number : Option ℕ) : Type 0 where
  tree : SchemaText
  tree_there : slice_get trees text ≡ Some tree
  definition : SchemaDefinition
  there : slice_get (schemas tree) schema ≡ Some definition
  within : IfSome number (λ n. n < length definition.elements)

-- a part is where it says
abbrev IsPart : List SchemaText → Part → Type 0
IsPart trees p = IsThere trees p.text p.schema p.number

all_append : {A : Type 0} (P : A → Type 0) (xs ys : List A) → AllByRecursion P xs → AllByRecursion P ys → AllByRecursion P (xs ++ ys)
all_append P [] ys h k = k
all_append P (x ∷ xs) ys h k = (h.0, all_append P xs ys h.1 k)

-- What holds of all that is made of each item, at its place, holds of all that is made.
all_flat_mapped : {A B : Type 0} (P : B → Type 0) (f : ℕ × A → List B) (n : ℕ) (xs : List A)
    → ((i : ℕ) (x : A) → slice_get xs i ≡ Some x → AllByRecursion P (f (n + i, x))) → AllByRecursion P (flat_map f (enumerate_from n xs))
all_flat_mapped P f n [] each = tt
all_flat_mapped {A} P f n (x ∷ xs) each =
    let here : n + 0 ≡ n = omega arith in
    all_append P (f (n, x)) (flat_map f (enumerate_from (n + 1) xs)) (subst (λ k. AllByRecursion P (f (k, x))) here (each 0 x refl))
    (all_flat_mapped P f (n + 1) xs (λ i y at. let there : n + suc i ≡ n + 1 + i = omega arith in subst (λ k. AllByRecursion P (f (k, y))) there (each (suc i) y at)))

all_mapped : {A B : Type 0} (P : B → Type 0) (f : ℕ × A → B) (n : ℕ) (xs : List A) → ((i : ℕ) (x : A) → slice_get xs i ≡ Some x → P (f (n + i, x)))
    → AllByRecursion P (map f (enumerate_from n xs))
all_mapped P f n [] each = tt
all_mapped P f n (x ∷ xs) each =
    let here : n + 0 ≡ n = omega arith in (
      subst (λ k. P (f (k, x))) here (each 0 x refl),
      all_mapped P f (n + 1) xs (λ i y at. let there : n + suc i ≡ n + 1 + i = omega arith in subst (λ k. P (f (k, y))) there (each (suc i) y at)),
    )

-- What holds of all that is made of each item, counted from 0, holds of all that is made.
each_flat_mapped : {A B : Type 0} (P : B → Type 0) (f : ℕ × A → List B) (xs : List A) → ((i : ℕ) (x : A) → slice_get xs i ≡ Some x → AllByRecursion P (f (i, x)))
    → AllByRecursion P (flat_map f (enumerate_from 0 xs))
each_flat_mapped P f xs each =
    all_flat_mapped P f 0 xs (λ i x at. let here : i ≡ 0 + i = omega arith in subst (λ k. AllByRecursion P (f (k, x))) here (each i x at))

each_mapped : {A B : Type 0} (P : B → Type 0) (f : ℕ × A → B) (xs : List A) → ((i : ℕ) (x : A) → slice_get xs i ≡ Some x → P (f (i, x)))
    → AllByRecursion P (map f (enumerate_from 0 xs))
each_mapped P f xs each = all_mapped P f 0 xs (λ i x at. let here : i ≡ 0 + i = omega arith in subst (λ k. P (f (k, x))) here (each i x at))

parts_there : (trees : List SchemaText) → AllByRecursion (IsPart trees) (schema_parts trees)
parts_there trees =
    each_flat_mapped (IsPart trees) parts_of_text trees
    (λ text tree at.
    each_flat_mapped (IsPart trees) (parts_of_schema text) (schemas tree)
    (λ schema definition there. (
      record { tree = tree; tree_there = at; definition = definition; there = there; within = tt },
      each_mapped (IsPart trees) _ definition.elements
          (λ n e stands. record { tree = tree; tree_there = at; definition = definition; there = there; within = slice_get_within definition.elements n e stands }),
    )))

-- what is refused is one of the parts
refused_there : (P : Part → Type 0) (ps : List Part) (c : Catalog) (r : Found) → AllByRecursion P ps → with_parts ps c ≡ Err r → (p : Part) × (f : SchemaFault) × P p × (r ≡ part_refusal p f)
refused_there P [] c r all e = cc
refused_there P (p ∷ ps) c r all e = by (λ d. refused_there P ps d r all.1) (with_part c p.user p.element) e
  where
    by : ((d : Catalog) → with_parts ps d ≡ Err r → (q : Part) × (f : SchemaFault) × P q × (r ≡ part_refusal q f)) → (o : Outcome Catalog)
        → then_parts (with_parts ps) p o ≡ Err r → (q : Part) × (f : SchemaFault) × P q × (r ≡ part_refusal q f)
    by later (Ok d) e = later d e
    by later (Err f) e = let same : part_refusal p f ≡ r = cc in (p, f, all.0, sym same)

part_refused : (trees : List SchemaText) (r : Found) → catalog_of trees ≡ Err r → IsThere trees r.text r.schema r.element
part_refused trees r e =
    let h = refused_there (IsPart trees) (schema_parts trees) empty r (parts_there trees) e in
    subst (λ (x : Found). IsThere trees x.text x.schema x.element) (sym h.3) h.2

-- ---- its first token is one of the text

some_tokens : (e : SchemaElement) → 0 < length (schema_element_tokens e)
some_tokens (element.Table t) = omega arith
some_tokens (element.View v) = omega arith
some_tokens (element.Grant g) = omega arith

element_inside : (d : SchemaDefinition) (n : ℕ) → n < length d.elements → before_element d n < length (schema_definition_tokens d)
element_inside d n lt =
    let found = is_there d.elements n lt in
    let within = length-flat_map-take schema_element_tokens d.elements n found.0 lt in
    let some = some_tokens (get_or d.elements n found.0) in
    let size = length-append (flat_map schema_element_tokens d.elements) (if_written d.semicolon (lexeme.Symbol symbol.Semicolon ∷ [])) in
    omega (arith, within, some, size)

first_of_dropped : (ds : List SchemaDefinition) (k n : ℕ) (d : SchemaDefinition) → slice_get ds k ≡ Some d → before_element_of_first (drop k ds) n ≡ before_element d n
first_of_dropped [] k n d at = cc
first_of_dropped (x ∷ ds) zero n d at = let same : x ≡ d = cc in ap (λ y. before_element y n) same
first_of_dropped (x ∷ ds) (suc k) n d at = first_of_dropped ds k n d at

starts_inside : (tree : SchemaText) (schema : ℕ) (number : Option ℕ) (d : SchemaDefinition) → slice_get (schemas tree) schema ≡ Some d
    → IfSome number (λ n. n < length d.elements) → refused_part tree schema number < length (schema_tokens tree)
starts_inside tree schema number d at within =
    by number (subst (λ x. schema_start tree schema + length (schema_definition_tokens x) ≤ length (schema_tokens tree)) (get_or_from_slice_get (schemas tree) schema d d at)
    (length-flat_map-take schema_definition_tokens (schemas tree) schema d (slice_get_within (schemas tree) schema d at))) within
  where
    by : (number : Option ℕ) → schema_start tree schema + length (schema_definition_tokens d) ≤ length (schema_tokens tree)
        → IfSome number (λ n. n < length d.elements) → refused_part tree schema number < length (schema_tokens tree)
    by None whole h = omega (arith, whole)
    by (Some n) whole h =
        let before = first_of_dropped (schemas tree) schema n d at in
        let here = element_inside d n h in
        omega (arith, whole, before, here)

-- ---- the refusal of schemas

stands_in : (all : List Bytes) (trees : List SchemaText) (r : Found) (tree : SchemaText) (text : Bytes) (start : ℕ) (refusal : Refusal) → slice_get all r.text ≡ Some text
    → SpellsTree schema_tokens schema_depth text tree → catalog_of trees ≡ Err r → slice_get trees r.text ≡ Some tree
    → start ≡ min (refused_part tree r.schema r.element) 18446744073709551615 → IsPlaced text start refusal → StandsInSchema all trees r refusal
stands_in all trees r tree text start refusal there spells first tree_there e placed =
    let part = part_refused trees r first in
    let same : part.tree ≡ tree = cc (part.tree_there, tree_there) in
    let inside = starts_inside tree r.schema r.element part.definition (subst (λ t. slice_get (schemas t) r.schema ≡ Some part.definition) same part.there) part.within in
    let found = token_there text (schema_tokens tree) (refused_part tree r.schema r.element) start refusal spells.spelled inside e placed in
    record { text = text; there = there; tree = tree; tree_there = tree_there; token = found.0; first = found.1; stands = found.2 }

-- schemas are refused for what is found first, at its first token
pub of_schema : (all : List Bytes) (trees : List SchemaText) (r : SchemaRefusal) (tree : SchemaText) (start : ℕ) (answer : TextFault) → AllSpell schema_tokens schema_depth all trees
    → catalog_of trees ≡ Err (refusal_seen r) → r.text < length trees → tree ≡ get_or trees r.text tree → start ≡ min (refused_part tree r.schema r.element) 18446744073709551615
    → IsRefusalIfAny r.text (what.Schema r.name) answer → IsPlacedAmong all r.text start answer → IsSchemaFault all answer
of_schema all trees r tree start NoMemory spelled first lt is e named placed = tt
of_schema all trees r tree start (Refused refusal) spelled first lt is e named placed =
    let there : slice_get trees r.text ≡ Some tree = slice_get-get_or trees r.text tree lt ∙ ap Some (sym is) in
    let at = spelled_there schema_tokens schema_depth all trees r.text tree spelled there in
    subst (IsOfSchemas all refusal) (sym (ap matter named.1))
    (record {
      trees = trees;
      spelled = spelled;
      found = refusal_seen r;
      first = first;
      is = record {
        text = named.0;
        what = ap schema_fault named.1;
        stands = stands_in all trees (refusal_seen r) tree at.0 start refusal at.1 at.2 first there e (placed at.0 at.1);
      };
    })
