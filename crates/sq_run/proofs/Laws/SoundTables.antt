-- In schemas that are not refused each row of a base table has a value for each column, where all constraints hold, and each
-- view has a query without a fault and as many names as columns (ISO/IEC 9075:1992, 4.10 and 11.19).
use Rattle.std.proofs.Common.{ap, arith, cond, subst, sym, ◌∙◌}
use Rattle.std.proofs.lemmas.List.{length-map}
use Rattle.std.proofs.lemmas.List.Sums.{sum_by-cons}
use Rattle.std.specs.List.{AllByRecursion}
use Rattle.std.specs.Prelude.{◌≡◌, ℕ, zero, suc, ◌+◌, List, [], ◌∷◌, ◌++◌, length, map, slice_get, refl, Some, None}
use Rattle.sq_lex.specs.declared.name.Name.{Name}
use Rattle.sq_value.specs.declared.domain.Domain.{Domain}
use Rattle.sq_store.specs.Content.{Content, table_at}
use Rattle.sq_tree.specs.declared.schema.SchemaElement.{SchemaElement}
use Rattle.sq_tree.specs.declared.schema.SchemaElement.TheVariants as element
use Rattle.sq_tree.specs.declared.schema.SchemaText.{SchemaText}
use Rattle.sq_tree.specs.declared.schema.TableDefinition.{TableDefinition}
use Rattle.sq_meaning.specs.Environment.{Row}
use Rattle.sq_meaning.specs.Spelled.{table_of}
use Rattle.sq_meaning.specs.Tables.{rows_in}
use Rattle.sq_meaning.proofs.AnswerLaws.{all_weaker}
use Rattle.sq_meaning.specs.Catalog.{base_count, column_domain, is_base_table}
use Rattle.sq_meaning.specs.Constraints.{AreInDomains, ConstraintsHold}
use Rattle.sq_meaning.specs.Schema.{BaseTable, Elements, base_tables, column_definitions}
use Rattle.sq_meaning.specs.SchemaRefusal.{elements_of, first_schema_refusal}
use Rattle.sq_run.proofs.Laws.Accepted.{AreAccepted, IsAccepted, accepted_elements, view_is_sound, view_names_fit}
use Rattle.sq_run.proofs.Laws.CallLaws.{NamesDiffer}
use Rattle.sq_run.proofs.Laws.NameLaws.{accepted_names_differ, base_grows}
use Rattle.sq_run.proofs.Laws.TargetColumns.{AllNamesFit, NamesFit}
use Rattle.sq_run.proofs.Laws.ViewRows.{AllSound, IsSound}
use Rattle.sq_run.proofs.Schemas.DeclaredContent.{rows_at_place}

-- ---- base tables by their places

stays_there : {A : Type 0} (xs ys : List A) (i : ℕ) (x : A) → slice_get xs i ≡ Some x → slice_get (xs ++ ys) i ≡ Some x
stays_there [] ys i x e = cc
stays_there (y ∷ xs) ys zero x e = e
stays_there (y ∷ xs) ys (suc i) x e = stays_there xs ys i x e

last_there : {A : Type 0} (xs : List A) (x : A) → slice_get (xs ++ x ∷ []) (length xs) ≡ Some x
last_there [] x = refl
last_there (y ∷ xs) x = last_there xs x

one_longer : {A : Type 0} (xs : List A) (x : A) → length (xs ++ x ∷ []) ≡ suc (length xs)
one_longer [] x = refl
one_longer (y ∷ xs) x = ap suc (one_longer xs x)

bases_counted : (elements : Elements) → length (base_tables elements) ≡ base_count elements
bases_counted [] = refl
bases_counted (e ∷ before) = by_element e.element (bases_counted before)
  where
    none : base_count before ≡ 0 + base_count before
    none = omega arith

    by_element : (x : SchemaElement) → length (base_tables before) ≡ base_count before
        → length (base_tables (record { user = e.user; element = x } ∷ before)) ≡ base_count (record { user = e.user; element = x } ∷ before)
    by_element (element.Table t) others =
        let counted = sum_by-cons (λ y. cond (is_base_table y.element) 1 0) (record { user = e.user; element = element.Table t }) before in
        let longer = one_longer (base_tables before) (record { name = table_of e.user t.name; definition = t }) in
        ap length (base_grows e.user t before) ∙ omega (arith, counted, longer, others)
    by_element (element.View v) others =
        others ∙ none ∙ sym (sum_by-cons (λ y. cond (is_base_table y.element) 1 0) (record { user = e.user; element = element.View v }) before)
    by_element (element.Grant g) others =
        others ∙ none ∙ sym (sum_by-cons (λ y. cond (is_base_table y.element) 1 0) (record { user = e.user; element = element.Grant g }) before)

as_many : (ds : List Domain) (row : Row) → AreInDomains ds row → length row ≡ length ds
as_many [] [] h = refl
as_many [] (v ∷ row) h = absurd h
as_many (d ∷ ds) [] h = absurd h
as_many (d ∷ ds) (v ∷ row) h = ap suc (as_many ds row h.1)

module _ (all : Elements) (differ : NamesDiffer all) (content : Content) (hold : ConstraintsHold all content) (caller : Name) where
  -- these are the first elements
  abbrev AreFirst : Elements → Type 0
  AreFirst elements = (i : ℕ) (t : BaseTable) → slice_get (base_tables elements) i ≡ Some t → slice_get (base_tables all) i ≡ Some t

  first_before : (owner : Name) (x : SchemaElement) (before : Elements) → AreFirst (record { user = owner; element = x } ∷ before) → AreFirst before
  first_before owner (element.Table t) before first = λ i y there.
      first i y (subst (λ (ts : List BaseTable). slice_get ts i ≡ Some y) (sym (base_grows owner t before))
      (stays_there (base_tables before) (record { name = table_of owner t.name; definition = t } ∷ []) i y there))
  first_before owner (element.View v) before first = first
  first_before owner (element.Grant g) before first = first

  rows_wide : (owner : Name) (t : TableDefinition) (before : Elements) → AreFirst (record { user = owner; element = element.Table t } ∷ before)
      → AllByRecursion (λ (row : Row). length row ≡ length (column_definitions t)) (rows_in (table_at content (base_count before)))
  rows_wide owner t before first =
      let base : BaseTable = record { name = table_of owner t.name; definition = t } in
      let there : slice_get (base_tables all) (length (base_tables before)) ≡ Some base
      = first (length (base_tables before)) base (subst (λ (ts : List BaseTable). slice_get ts (length (base_tables before)) ≡ Some base) (sym (base_grows owner t before)) (last_there (base_tables before) base)) in
      subst (λ (k : ℕ). AllByRecursion (λ (row : Row). length row ≡ length (column_definitions t)) (rows_in (table_at content k))) (bases_counted before)
      (subst (AllByRecursion (λ (row : Row). length row ≡ length (column_definitions t))) (rows_at_place all differ content (length (base_tables before)) base there)
      (all_weaker (AreInDomains (map column_domain (column_definitions t))) (λ (row : Row). length row ≡ length (column_definitions t))
      (λ row h. as_many (map column_domain (column_definitions t)) row h ∙ length-map (column_definitions t) column_domain) _ (hold.0 (length (base_tables before)) base there)))

  sound_before : (elements : Elements) → AreAccepted elements → AreFirst elements → AllSound content caller elements
  sound_before [] accepted first = tt
  sound_before (e ∷ before) accepted first =
      (by_element e.element accepted.0 first, sound_before before accepted.1 (first_before e.user e.element before first))
    where
      by_element : (x : SchemaElement) → IsAccepted before e.user x → AreFirst (record { user = e.user; element = x } ∷ before) → IsSound content caller before e.user x
      by_element (element.Table t) h first = rows_wide e.user t before first
      by_element (element.View v) h first = view_is_sound before e.user v h
      by_element (element.Grant g) h first = tt

names_before : (elements : Elements) → AreAccepted elements → AllNamesFit elements
names_before [] accepted = tt
names_before (e ∷ before) accepted = (by_element e.element accepted.0, names_before before accepted.1)
  where
    by_element : (x : SchemaElement) → IsAccepted before e.user x → NamesFit before e.user x
    by_element (element.Table t) h = tt
    by_element (element.View v) h = view_names_fit before e.user v h
    by_element (element.Grant g) h = tt

module _ (texts : List SchemaText) (accepted : first_schema_refusal texts ≡ None) where
  pub names_fit : AllNamesFit (elements_of texts)
  names_fit = names_before (elements_of texts) (accepted_elements texts accepted)

  pub all_sound : (content : Content) → ConstraintsHold (elements_of texts) content → (caller : Name) → AllSound content caller (elements_of texts)
  all_sound content hold caller =
      sound_before (elements_of texts) (accepted_names_differ texts accepted) content hold caller (elements_of texts) (accepted_elements texts accepted) (λ i t there. there)
