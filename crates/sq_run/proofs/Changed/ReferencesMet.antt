-- References are met alike by their names and by their places in every content (ISO/IEC 9075:1992, 11.8).
use Rattle.std.proofs.Common.{◌≡◌, ℕ, zero, suc, ◌+◌, inl, inr, Bool, true, false, List, [], ◌∷◌, ◌++◌, length, map, get_or, Some, None, refl, sym, ap, subst, ◌∙◌, arith}
use Rattle.std.proofs.lemmas.List.{append-nil}
use Rattle.std.proofs.lemmas.List.Quantifiers.{position-Some}
use Rattle.std.proofs.lemmas.Option.{get_or_from_slice_get}
use Rattle.std.specs.Cmp.Lexicographic.{pointwise, same_text}
use Rattle.std.specs.Prelude.{◌⊎◌, ◌&&◌, ◌||◌, find, flat_map, if◌then◌else◌, is_some, nat_eq, option_to_list, slice_get, unwrap_or}
use Rattle.std.specs.List.{AllByRecursion, AllZip, cons_option, enumerate_from, filter_map, list_all, list_any}
use Rattle.std.specs.Option.{option_map}
use Rattle.std.proofs.lemmas.Bool.{and_parts, or_parts}
use Rattle.sq_lex.specs.declared.name.Name.{Name}
use Rattle.sq_tree.specs.declared.schema.SchemaElement.{SchemaElement}
use Rattle.sq_tree.specs.declared.schema.SchemaElement.TheVariants as element
use Rattle.sq_tree.specs.declared.schema.SchemaText.{SchemaText}
use Rattle.sq_tree.specs.declared.schema.TableDefinition.{TableDefinition}
use Rattle.sq_value.specs.Key.{in_columns}
use Rattle.sq_store.specs.Content.{Content, table_at}
use Rattle.sq_store.specs.Keys.{Keys, has_key, key_at}
use Rattle.sq_store.specs.declared.table.Numbered.{Numbered}
use Rattle.sq_meaning.specs.Environment.{Row, TableName, same_table}
use Rattle.sq_meaning.specs.Spelled.{listed_if_any, table_of}
use Rattle.sq_meaning.specs.Status.{and_then}
use Rattle.sq_meaning.specs.Tables.{rows_in}
use Rattle.sq_meaning.specs.declared.status.Status.{Status}
use Rattle.sq_meaning.specs.declared.status.Status.TheVariants.{IntegrityConstraintViolation}
use Rattle.sq_meaning.proofs.AnswerLaws.{all_appended}
use Rattle.sq_meaning.specs.Catalog.{tables_of}
use Rattle.sq_meaning.specs.Schema.{BaseTable, Elements, base_tables, column_definitions, has_name_twice, referenced_columns, table_columns, table_if_named, table_named, table_references}
use Rattle.sq_meaning.specs.SchemaRefusal.{elements_of, first_schema_refusal, is_made}
use Rattle.sq_meaning.specs.Constraints.{all_satisfied, demanded, has_null, is_referenced, places_among, reference_satisfied, referenced_values, references_satisfied, rows_of_base, values_in}
use Rattle.sq_bound.specs.Fits.{keys_of_bases}
use Rattle.sq_bound.specs.Known.{KnownTables}
use Rattle.sq_bound.specs.declared.condition.BoundSpecification.{BoundSpecification}
use Rattle.sq_bound.specs.declared.names.BaseTable.{BaseTable as BoundTable}
use Rattle.sq_bound.specs.declared.names.Column.{Column}
use Rattle.sq_bound.specs.declared.names.Reference.{Reference as BoundReference}
use Rattle.sq_binding.proofs.Standing.Levels.{all_at}
use Rattle.sq_run.proofs.Laws.CallLaws.{NamesDiffer}
use Rattle.sq_run.proofs.Laws.NameLaws.{accepted_names_differ}
use Rattle.sq_catalog.specs.Catalog.{HaveReferences, declared_definitions, declared_tables, is_table, number_meant}
use Rattle.sq_catalog.specs.Columns.{HasColumnsOf, IsColumnOf}
use Rattle.sq_catalog.specs.Declares.{Declares}
use Rattle.sq_catalog.specs.Keys.{names_written}
use Rattle.sq_catalog.specs.References.{AreListed, HasReferencesOf, IsReferenceOf, ReferentialConstraint, references_written}
use Rattle.sq_catalog.specs.declared.catalog.FullName.{FullName}
use Rattle.sq_catalog.proofs.CreateTable.WrittenRules.{columns_are_written, names_are_written, reference_of, references_are_written}
use Rattle.sq_change.specs.Constraints.{is_met_in, reference_met_in, references_met}
use Rattle.sq_run.proofs.Places.Items.{names_of_columns}
use Rattle.sq_run.proofs.Places.Outcomes.{same_length}
use Rattle.sq_run.proofs.Places.Parameters.{get_map}
use Rattle.sq_run.proofs.Laws.Accepted.{AreAccepted, IsAccepted, accepted_elements, table_is_new}
use Rattle.sq_run.proofs.Schemas.Created.{base_in, bases_created, created}
use Rattle.sq_run.proofs.Schemas.DeclaredChecks.{places_stand}
use Rattle.sq_run.proofs.Schemas.DeclaredColumns.{names_seen}
use Rattle.sq_run.proofs.Schemas.DeclaredContent.{rows_at_place}
use Rattle.sq_run.proofs.Schemas.DeclaredReferences.{IsReferenced, referenced_is}
use Rattle.sq_run.proofs.Schemas.DeclaredStatements.{zip_back}
use Rattle.sq_run.proofs.Schemas.DeclaredTables.{IsBaseAs, IsSoundTable, all_bases, base_tables_named, named_table, named_tables, sound_tables}
use Rattle.sq_run.proofs.Schemas.Numbers.{apart_turned, same_itself, zip_both}
use Rattle.sq_run.proofs.Changed.PairedColumns.{found_alike, nulls_alike}

-- ---- lists

demanded_all : {A : Type 0} (test : A → Bool) (s : Status) (xs : List A)
    → all_satisfied (λ x. demanded (test x) s) xs ≡ demanded (list_all test xs) s
demanded_all test s [] = refl
demanded_all test s (x ∷ xs) = by_test (test x) (list_all test xs) (demanded_all test s xs)
  where
    by_test : (b c : Bool) → all_satisfied (λ y. demanded (test y) s) xs ≡ demanded c s
        → and_then (demanded b s) (λ _. all_satisfied (λ y. demanded (test y) s) xs) ≡ demanded (b && c) s
    by_test true c e = e
    by_test false c e = refl

-- a test of each, where another one has the same answer at the same place
all_alike : {A B : Type 0} (f : A → Bool) (g : ℕ × B → Bool) (n : ℕ) (xs : List A) (ys : List B) → length xs ≡ length ys
    → ((i : ℕ) (x : A) (y : B) → slice_get xs i ≡ Some x → slice_get ys i ≡ Some y → f x ≡ g (n + i, y))
    → list_all f xs ≡ list_all g (enumerate_from n ys)
all_alike f g n [] [] e h = refl
all_alike f g n [] (y ∷ ys) e h = absurd (omega arith)
all_alike f g n (x ∷ xs) [] e h = absurd (omega arith)
all_alike f g n (x ∷ xs) (y ∷ ys) e h =
    let none : n + 0 ≡ n = omega arith in
    let fewer : length xs ≡ length ys = omega arith in
    (λ i. (h 0 x y refl refl ∙ ap (λ k. g (k, y)) none) i
    && all_alike f g (n + 1) xs ys fewer (λ k u v a b. let more : n + suc k ≡ n + 1 + k = omega arith in h (suc k) u v a b ∙ ap (λ m. g (m, v)) more) i)

zip_alike : {W A B : Type 0} (R : W → B → Type 0) (P : A → Type 0) (to : W → A) (f : A → Bool) (g : B → Bool)
    → ((w : W) (b : B) → R w b → P (to w) → f (to w) ≡ g b) → (ws : List W) (bs : List B) → AllZip R ws bs
    → AllByRecursion P (map to ws) → list_all f (map to ws) ≡ list_all g bs
zip_alike R P to f g h [] [] r p = refl
zip_alike R P to f g h [] (b ∷ bs) r p = absurd r
zip_alike R P to f g h (w ∷ ws) [] r p = absurd r
zip_alike R P to f g h (w ∷ ws) (b ∷ bs) r p = (λ i. h w b r.0 p.0 i && zip_alike R P to f g h ws bs r.1 p.1 i)

rows_pass : (f : Row → Bool) (g : Numbered → Bool) → ((n : Numbered) → f n.row ≡ g n) → (rows : List Numbered)
    → list_all f (map (λ n. n.row) rows) ≡ list_all g rows
rows_pass f g h [] = refl
rows_pass f g h (n ∷ rows) = (λ i. h n i && rows_pass f g h rows i)

-- ---- a table under its name

not_among : (name : TableName) (elements : Elements) → is_made elements name ≡ false
    → AllByRecursion (λ b. same_table b.name name ≡ false) (created base_in elements)
not_among name [] e = tt
not_among name (e ∷ before) none = of_one (not_among name before) e.user e.element none
  where
    of_one : (is_made before name ≡ false → AllByRecursion (λ b. same_table b.name name ≡ false) (created base_in before))
        → (user : Name) (x : SchemaElement) → is_made (record { user = user; element = x } ∷ before) name ≡ false
        → AllByRecursion (λ b. same_table b.name name ≡ false) (created base_in before ++ base_in user x)
    of_one others user (element.Table t) none =
        let parts = or_parts (same_table (table_of user t.name) name) (list_any (λ d. same_table d.table name) (tables_of before)) none in
        all_appended (λ (b : BaseTable). same_table b.name name ≡ false) (created base_in before) (record { name = table_of user t.name; definition = t } ∷ [])
        (others parts.1) (parts.0, tt)
    of_one others user (element.View v) none =
        subst (λ l. AllByRecursion (λ (b : BaseTable). same_table b.name name ≡ false) l) (sym (append-nil (created base_in before)))
        (others (or_parts (same_table (table_of user v.name) name) (list_any (λ d. same_table d.table name) (tables_of before)) none).1)
    of_one others user (element.Grant g) none =
        subst (λ l. AllByRecursion (λ (b : BaseTable). same_table b.name name ≡ false) l) (sym (append-nil (created base_in before)))
        (others none)

last_or_before : {A : Type 0} (xs : List A) (x : A) (n : ℕ) (y : A) → slice_get (xs ++ x ∷ []) n ≡ Some y
    → (slice_get xs n ≡ Some y) ⊎ (x ≡ y)
last_or_before [] x zero y e = inr cc
last_or_before [] x (suc n) y e = cc
last_or_before (z ∷ xs) x zero y e = inl e
last_or_before (z ∷ xs) x (suc n) y e = last_or_before xs x n y e

-- a base table is found under its name
table_found : (elements : Elements) → AreAccepted elements → (n : ℕ) (b : BaseTable) → slice_get (created base_in elements) n ≡ Some b
    → table_named elements b.name ≡ Some b.definition
table_found [] a n b e = cc
table_found (e ∷ before) a n b there = of_one (table_found before a.1 n b) e.user e.element a.0 there
  where
    of_one : (slice_get (created base_in before) n ≡ Some b → table_named before b.name ≡ Some b.definition)
        → (user : Name) (x : SchemaElement) → IsAccepted before user x
        → slice_get (created base_in before ++ base_in user x) n ≡ Some b
        → table_named (record { user = user; element = x } ∷ before) b.name ≡ Some b.definition
    of_one others user (element.View v) h there =
        others (subst (λ l. slice_get l n ≡ Some b) (append-nil (created base_in before)) there)
    of_one others user (element.Grant g) h there =
        others (subst (λ l. slice_get l n ≡ Some b) (append-nil (created base_in before)) there)
    of_one others user (element.Table t) h there =
        by_place (last_or_before (created base_in before) (record { name = table_of user t.name; definition = t }) n b there)
      where
        by_place : (slice_get (created base_in before) n ≡ Some b) ⊎ (◌≡◌ {A = BaseTable} (record { name = table_of user t.name; definition = t }) b)
            → slice_get (cons_option (if same_table (table_of user t.name) b.name then Some t else None) (filter_map (λ e. table_if_named b.name e.user e.element) before)) 0
            ≡ Some b.definition
        by_place (inl earlier) =
            let apart = all_at (λ (x : BaseTable). same_table x.name (table_of user t.name) ≡ false) (created base_in before) n b
            (not_among (table_of user t.name) before (table_is_new before user t h)) earlier in
            ap (λ c. slice_get (cons_option (if c then Some t else None) (filter_map (λ e. table_if_named b.name e.user e.element) before)) 0)
            (apart_turned b.name.user b.name.name (table_of user t.name).user (table_of user t.name).name apart)
            ∙ others earlier
        by_place (inr same) =
            ap (λ (x : BaseTable). slice_get (cons_option (if same_table (table_of user t.name) x.name then Some t else None) (filter_map (λ e. table_if_named b.name e.user e.element) before)) 0) (sym same)
            ∙ ap (λ c. slice_get (cons_option (if c then Some t else None) (filter_map (λ e. table_if_named b.name e.user e.element) before)) 0)
            (same_itself (table_of user t.name).user (table_of user t.name).name)
            ∙ ap (λ (x : BaseTable). Some x.definition) same

named_at : (ns : List FullName) (ts : List TableDefinition) (n : ℕ) (b : BaseTable) → slice_get (named_tables ns ts) n ≡ Some b
    → (slice_get ns n ≡ Some (record { user = b.name.user; name = b.name.name })) × (slice_get ts n ≡ Some b.definition)
named_at [] ts n b e = cc
named_at (m ∷ ns) [] n b e = cc
named_at (m ∷ ns) (t ∷ ts) zero b e =
    let same : named_table m t ≡ b = cc in
    (ap (λ (x : BaseTable). Some (record { user = x.name.user; name = x.name.name })) same, ap (λ (x : BaseTable). Some x.definition) same)
named_at (m ∷ ns) (t ∷ ts) (suc n) b e = named_at ns ts n b e

references_zipped : (tables : List FullName) (columns : List (List Column)) (bases : List BoundTable) (ns : List FullName)
    (ts : List TableDefinition) (bs : List BoundTable) → HaveReferences tables columns bases ns ts bs
    → AllZip (λ t b. HasReferencesOf (number_meant tables t.name.user) columns bases t.definition b) (named_tables ns ts) bs
references_zipped tables columns bases [] [] [] h = tt
references_zipped tables columns bases (n ∷ ns) (t ∷ ts) (b ∷ bs) h = (h.0, references_zipped tables columns bases ns ts bs h.1)
references_zipped tables columns bases _ _ _ h = absurd h

-- ---- one reference

module _ (texts : List SchemaText) (known : KnownTables) (bases : List BoundTable) (views : List BoundSpecification)
    (d : Declares texts known bases views) (accepted : first_schema_refusal texts ≡ None) (content : Content) where
  abbrev elements : Elements
  elements = elements_of texts

  abbrev all : List BaseTable
  all = base_tables elements

  abbrev tables : List FullName
  tables = declared_tables texts

  differ : NamesDiffer elements
  differ = accepted_names_differ texts accepted

  bases_are : AllZip IsBaseAs all bases
  bases_are = all_bases texts known bases views d

  found_named : (n : ℕ) (b : BaseTable) → slice_get all n ≡ Some b → table_named elements b.name ≡ Some b.definition
  found_named n b there =
      table_found elements (accepted_elements texts accepted) n b (subst (λ ts. slice_get ts n ≡ Some b) (bases_created elements) there)

  sound_at : (n : ℕ) (b : BaseTable) → slice_get all n ≡ Some b → IsSoundTable b
  sound_at n b there = all_at IsSoundTable all n b (sound_tables texts accepted) there

  module _ (t : BaseTable) (w : ReferentialConstraint) (r : BoundReference)
      (h : IsReferenceOf (number_meant tables t.name.user) d.columns bases (names_written t.definition) w r)
      (once : has_name_twice (listed_if_any w.to.columns) ≡ false) where
    abbrev name : TableName
    name = table_of t.name.user w.to.table

    -- the base table that is referenced
    target : (b : BaseTable) × (slice_get all r.table ≡ Some b) × IsBaseAs b h.referenced
    target = zip_back IsBaseAs all bases r.table h.referenced bases_are h.base_is

    parts : (slice_get tables r.table ≡ Some (record { user = target.0.name.user; name = target.0.name.name }))
        × (slice_get (declared_definitions texts) r.table ≡ Some target.0.definition)
    parts =
        named_at tables (declared_definitions texts) r.table target.0
        (subst (λ ts. slice_get ts r.table ≡ Some target.0) (base_tables_named texts) target.1)

    name_is : name ≡ target.0.name
    name_is =
        let none : FullName = record { user = []; name = [] } in
        let at = position-Some (is_table name.user name.name) tables r.table none h.table in
        let same = and_parts (pointwise nat_eq name.user target.0.name.user) (pointwise nat_eq name.name target.0.name.name)
        (ap (is_table name.user name.name) (sym (get_or_from_slice_get tables r.table (record { user = target.0.name.user; name = target.0.name.name }) none parts.0)) ∙ at.1) in
        λ i. record { user = same_text name.user target.0.name.user (sym same.0) i; name = same_text name.name target.0.name.name (sym same.1) i }

    names_are : names_of_columns h.described ≡ table_columns target.0.definition
    names_are =
        sym (names_seen 0 (column_definitions target.0.definition) h.described
        (subst (λ ws. AllZip IsColumnOf (enumerate_from 0 ws) h.described) (columns_are_written target.0.definition)
        (zip_both HasColumnsOf (declared_definitions texts) d.columns r.table target.0.definition h.described d.columns_are parts.1 h.columns_are)))

    abbrev places : List ℕ
    places = unwrap_or h.listed h.to_key.key

    is : IsReferenced target.0.definition w.to h.to_key.key places
    is =
        referenced_is target.0.definition h.referenced.keys target.2.keys h.referenced.primary_key target.2.primary_key
        (sound_at r.table target.0 target.1).primary_once w.to h.listed r h.to_key
        (subst (λ names. AreListed names w.to.columns h.listed) names_are h.listed_are) once h.to_key.key h.to_key.there

    values_are : referenced_values elements content name w.to
        ≡ map (λ values. in_columns values places) (rows_in (table_at content r.table))
    values_are =
        ap (λ o. flat_map (λ s. flat_map (λ columns. map (values_in s columns) (rows_of_base elements content name)) (option_to_list (referenced_columns s w.to))) (option_to_list o))
        (ap (table_named elements) name_is ∙ found_named r.table target.0 target.1)
        ∙ append-nil (flat_map (λ columns. map (values_in target.0.definition columns) (rows_of_base elements content name)) (option_to_list (referenced_columns target.0.definition w.to)))
        ∙ ap (λ o. flat_map (λ columns. map (values_in target.0.definition columns) (rows_of_base elements content name)) (option_to_list o)) is.found
        ∙ append-nil (map (values_in target.0.definition is.columns) (rows_of_base elements content name))
        ∙ (λ i. map (λ values. in_columns values (sym (places_stand (table_columns target.0.definition) is.columns places is.stand) i)) (rows_there i))
      where
        rows_there : rows_of_base elements content name ≡ rows_in (table_at content r.table)
        rows_there = ap (rows_of_base elements content) name_is ∙ rows_at_place elements differ content r.table target.0 target.1

    key_is : key_at (keys_of_bases bases) r.table r.key ≡ h.to_key.key
    key_is =
        ap (λ (ks : Keys). get_or ks r.key [])
        (get_or_from_slice_get (keys_of_bases bases) r.table h.referenced.keys [] (sym (get_map (λ (b : BoundTable). b.keys) bases r.table) ∙ ap (λ o. option_map (λ (b : BoundTable). b.keys) o) h.base_is))
        ∙ get_or_from_slice_get h.referenced.keys r.key h.to_key.key [] h.to_key.there

    columns_are : places_among (table_columns t.definition) w.columns ≡ r.columns
    columns_are =
        ap (λ names. places_among names w.columns) (sym (names_are_written t.definition))
        ∙ sym (places_stand (names_written t.definition) w.columns r.columns h.referencing)

    row_alike : (n : Numbered)
        → is_referenced (values_in t.definition w.columns n.row) (referenced_values elements content name w.to)
        ≡ is_met_in (keys_of_bases bases) content r n.row
    row_alike n =
        (λ i. is_referenced (in_columns n.row (columns_are i)) (values_are i))
        ∙ (λ i. nulls_alike places r.columns h.to_key.key r.by_key h.to_key.as_many h.to_key.paired is.listed is.once n.row i
        || found_alike places r.columns h.to_key.key r.by_key h.to_key.as_many h.to_key.paired is.listed is.once n.row (table_at content r.table).rows i)
        ∙ ap (λ key. has_null (in_columns n.row r.by_key) || is_some (find (has_key key (in_columns n.row r.by_key)) (table_at content r.table).rows)) (sym key_is)

    -- The rows of a table meet it alike.
    one_alike : (place : ℕ) → slice_get all place ≡ Some t
        → reference_satisfied elements content t (reference_of w) ≡ reference_met_in (keys_of_bases bases) content place r
    one_alike place own =
        ap (list_all (λ row. is_referenced (values_in t.definition w.columns row) (referenced_values elements content name w.to)))
        (rows_at_place elements differ content place t own)
        ∙ rows_pass (λ row. is_referenced (values_in t.definition w.columns row) (referenced_values elements content name w.to))
        (λ n. is_met_in (keys_of_bases bases) content r n.row) row_alike (table_at content place).rows

  -- ---- all of them

  table_alike : (place : ℕ) (t : BaseTable) (b : BoundTable) → slice_get all place ≡ Some t → slice_get bases place ≡ Some b
      → list_all (reference_satisfied elements content t) (table_references t.definition)
      ≡ list_all (reference_met_in (keys_of_bases bases) content place) b.references
  table_alike place t b own bound =
      ap (list_all (reference_satisfied elements content t)) (sym (references_are_written t.definition))
      ∙ zip_alike (IsReferenceOf (number_meant tables t.name.user) d.columns bases (names_written t.definition))
      (λ r. has_name_twice (listed_if_any r.references.columns) ≡ false) reference_of (reference_satisfied elements content t)
      (reference_met_in (keys_of_bases bases) content place) (λ w r h once. one_alike t w r h once place own)
      (references_written t.definition) b.references
      (zip_both (λ (x : BaseTable) y. HasReferencesOf (number_meant tables x.name.user) d.columns bases x.definition y) all bases place t b references own bound)
      (subst (λ rs. AllByRecursion (λ r. has_name_twice (listed_if_any r.references.columns) ≡ false) rs)
      (sym (references_are_written t.definition)) (sound_at place t own).references_once)
    where
      references : AllZip (λ x y. HasReferencesOf (number_meant tables x.name.user) d.columns bases x.definition y) all bases
      references =
          subst (λ ts. AllZip (λ (x : BaseTable) y. HasReferencesOf (number_meant tables x.name.user) d.columns bases x.definition y) ts bases)
          (sym (base_tables_named texts))
          (references_zipped tables d.columns bases tables (declared_definitions texts) bases d.references_are)

  -- References are met alike by names and by places.
  pub references_alike : all_satisfied (references_satisfied elements content) all
      ≡ demanded (references_met bases content) IntegrityConstraintViolation
  references_alike =
      demanded_all (λ t. list_all (reference_satisfied elements content t) (table_references t.definition)) IntegrityConstraintViolation all
      ∙ ap (λ b. demanded b IntegrityConstraintViolation)
      (all_alike (λ t. list_all (reference_satisfied elements content t) (table_references t.definition))
      (λ p. list_all (reference_met_in (keys_of_bases bases) content p.0) p.1.references) 0 all bases
      (same_length IsBaseAs all bases bases_are)
      (λ i t b own bound. let here : i ≡ 0 + i = omega arith in
      table_alike i t b own bound ∙ ap (λ k. list_all (reference_met_in (keys_of_bases bases) content k) b.references) here))
