-- Laws of accepted schemas (ISO/IEC 9075:1992, 5.4, 4.10 and 11.3): no two base tables have one name, so constraints hold
-- from the empty database on.
use Rattle.std.proofs.Common.{ap, arith, cond, inl, inr, subst, sym, ◌∙◌}
use Rattle.std.proofs.lemmas.Bool.{lt-ltb}
use Rattle.std.proofs.lemmas.Cmp.{nat_list_eq_equiv}
use Rattle.std.proofs.lemmas.Grind.{reverse_onto}
use Rattle.std.proofs.lemmas.List.Sums.{position_or_len_is}
use Rattle.std.proofs.lemmas.Option.{get_or_from_slice_get, slice_get-get_or, slice_get_within}
use Rattle.std.specs.Cmp.Lexicographic.{pointwise, same_text}
use Rattle.std.specs.List.{AllByRecursion, list_all, list_any, position, position_or_len}
use Rattle.std.specs.Option.{option_or}
use Rattle.std.specs.Prelude.{◌≡◌, ◌⊎◌, ℕ, zero, suc, ◌<◌, Bool, true, false, not, ◌&&◌, ◌||◌, List, [], ◌∷◌, ◌++◌, length, if◌then◌else◌, nat_eq, nat_lt, slice_get, find, fold, filter_map, flat_map, map, option_to_list, get_or, Option, option_map, refl, Some, None, Ok, ⊤}
use Rattle.sq_lex.specs.declared.name.Name.{Name}
use Rattle.sq_store.specs.Content.{no_rows, table_at}
use Rattle.sq_tree.specs.declared.«module».ModuleText.{ModuleText}
use Rattle.sq_tree.specs.declared.schema.SchemaElement.{SchemaElement}
use Rattle.sq_tree.specs.declared.schema.SchemaElement.TheVariants as element
use Rattle.sq_tree.specs.declared.schema.SchemaText.{SchemaText}
use Rattle.sq_tree.specs.declared.schema.TableDefinition.{TableDefinition}
use Rattle.sq_meaning.specs.Environment.{Row, TableName, same_table}
use Rattle.sq_meaning.specs.Spelled.{table_of}
use Rattle.sq_run.proofs.Laws.CallLaws.{NamesDiffer, StateHolds, constraints_hold_after}
use Rattle.sq_meaning.specs.Catalog.{base_count, column_domain, tables_of}
use Rattle.sq_meaning.specs.Constraints.{AreInDomains, ChecksHold, ConstraintsHold, DomainsHold, all_satisfied, demanded, key_satisfied, keys_satisfied, reference_satisfied, row_satisfied, rows_of_base}
use Rattle.sq_meaning.specs.Machine.{Call, Program, State, first_state, stepped}
use Rattle.sq_meaning.specs.Run.{RunItem, after, program_of}
use Rattle.sq_meaning.specs.Schema.{BaseTable, Elements, base_place, base_table_of, base_tables, column_definitions, keys, table_references}
use Rattle.sq_meaning.specs.SchemaRefusal.{Part, elements_of, elements_with, first_schema_refusal, is_made, is_made_again, name_twice, other_schema, part_fault, part_refusal, refused_for, same_user, schema_faults, schema_parts, schema_refusal, users_with}
use Rattle.sq_meaning.specs.Tables.{rows_in}
use Rattle.sq_meaning.specs.declared.status.Status.{Status}
use Rattle.sq_meaning.specs.declared.status.Status.TheVariants as status

-- ---- tests

is_false : (b : Bool) → (b ≡ true → ⊥) → b ≡ false
is_false true h = absurd (h refl)
is_false false h = refl

both_true : (a b : Bool) → (a && b) ≡ true → (a ≡ true) × (b ≡ true)
both_true true b e = (refl, e)
both_true false b e = cc

both_false : (a b : Bool) → (a || b) ≡ false → (a ≡ false) × (b ≡ false)
both_false true b e = cc
both_false false b e = (refl, e)

other_false : (a b : Bool) → a ≡ true → (a && b) ≡ false → b ≡ false
other_false true b t e = e
other_false false b t e = cc

not_false : (b : Bool) → not b ≡ false → b ≡ true
not_false true e = refl
not_false false e = cc

not_both : (b : Bool) → b ≡ true → b ≡ false → ⊥
not_both b t f = cc

table_same : (s t : TableName) → same_table s t ≡ true → s ≡ t
table_same s t e =
    let parts = both_true (pointwise nat_eq s.user t.user) (pointwise nat_eq s.name t.name) e in
    λ i. record { user = same_text s.user t.user (sym parts.0) i; name = same_text s.name t.name (sym parts.1) i }

itself : (t : TableName) → same_table t t ≡ true
itself t = both (nat_list_eq_equiv.refl t.user) (nat_list_eq_equiv.refl t.name)
  where
    both : {a b : Bool} → a ≡ true → b ≡ true → (a && b) ≡ true
    both {a} {b} p q = ap (λ x. x && b) p ∙ q

-- ---- no refusal, no fault

find_none : {A : Type 0} (test : A → Bool) (xs : List A) → find test xs ≡ None → AllByRecursion (λ x. test x ≡ false) xs
find_none test [] e = tt
find_none {A} test (x ∷ xs) e = let parts = split (test x) (find test xs) e in (parts.0, find_none test xs parts.1)
  where
    split : (b : Bool) (o : Option A) → (if b then Some x else o) ≡ None → (b ≡ false) × (o ≡ None)
    split true o e = cc
    split false o e = (refl, e)

none_both : {A B : Type 0} (o : Option A) (f : A → B) (others : Option B) → option_or (option_map f o) others ≡ None → (o ≡ None) × (others ≡ None)
none_both None f others e = (refl, e)
none_both (Some x) f others e = cc

-- no table has the name of a table or view before it
abbrev IsNew : Elements → Name → SchemaElement → Type 0
IsNew before user (element.Table t) = is_made before (table_of user t.name) ≡ false
IsNew before user (element.View v) = ⊤
IsNew before user (element.Grant g) = ⊤

abbrev NewNames : Elements → Type 0
NewNames [] = ⊤
NewNames (e ∷ before) = IsNew before e.user e.element × NewNames before

is_new : (before : Elements) (user : Name) (e : SchemaElement) → name_twice before user e ≡ false → other_schema user e ≡ false → IsNew before user e
is_new before user (element.Table t) again other =
    other_false (same_user user (table_of user t.name)) (is_made before (table_of user t.name)) (not_false (same_user user (table_of user t.name)) other)
    (both_false (is_made_again before user (table_of user t.name)) _ again).0
is_new before user (element.View v) again other = tt
is_new before user (element.Grant g) again other = tt

new_with : (users : List Name) (before : Elements) (user : Name) (x : Option SchemaElement) → NewNames before → part_fault users before user x ≡ None
    → NewNames (elements_with before user x)
new_with users before user None new e = new
new_with users before user (Some x) new e =
    let all = find_none (refused_for before user x) schema_faults e in
    (is_new before user x all.0 all.1.1.1.1.1.1.1.1.1.1.1.1.0, new)

new_names : (users : List Name) (before : Elements) (parts : List Part) → NewNames before → schema_refusal users before parts ≡ None
    → NewNames (fold (λ b p. elements_with b p.user p.element) before parts)
new_names users before [] new e = new
new_names users before (p ∷ ps) new e =
    let parts = none_both (part_fault users before p.user p.element) (part_refusal p) (schema_refusal (users_with users p.user p.element) (elements_with before p.user p.element) ps) e in
    new_names (users_with users p.user p.element) (elements_with before p.user p.element) ps (new_with users before p.user p.element new parts.0) parts.1

-- ---- base tables, the last one behind the others

in_snoc : {A : Type 0} (xs : List A) (x : A) (i : ℕ) (y : A) → slice_get (xs ++ x ∷ []) i ≡ Some y → (slice_get xs i ≡ Some y) ⊎ ((i ≡ length xs) × (x ≡ y))
in_snoc [] x zero y e = inr (refl, cc)
in_snoc [] x (suc i) y e = cc
in_snoc (w ∷ xs) x zero y e = inl e
in_snoc (w ∷ xs) x (suc i) y e = further (in_snoc xs x i y e)
  where
    further : (slice_get xs i ≡ Some y) ⊎ ((i ≡ length xs) × (x ≡ y)) → (slice_get xs i ≡ Some y) ⊎ ((suc i ≡ suc (length xs)) × (x ≡ y))
    further (inl h) = inl h
    further (inr h) = inr (ap suc h.0, h.1)

pub base_grows : (user : Name) (t : TableDefinition) (before : Elements)
    → base_tables (record { user = user; element = element.Table t } ∷ before) ≡ base_tables before ++ (record { name = table_of user t.name; definition = t } ∷ [])
base_grows user t before = reverse_onto (filter_map (λ e. base_table_of e.user e.element) before) (record { name = table_of user t.name; definition = t }) []

-- a base table's name is made
abbrev IsAbsent : Elements → TableName → Type 0
IsAbsent elements name = is_made elements name ≡ false → (i : ℕ) (t : BaseTable) → slice_get (base_tables elements) i ≡ Some t → t.name ≡ name → ⊥

absent_with : (user : Name) (e : SchemaElement) (before : Elements) (name : TableName) → IsAbsent before name → IsAbsent (record { user = user; element = e } ∷ before) name
absent_with user (element.Table d) before name absent made i t there same =
    let parts = both_false (same_table (table_of user d.name) name) (list_any (λ k. same_table k.table name) (tables_of before)) made in
    by_place (in_snoc (base_tables before) (record { name = table_of user d.name; definition = d }) i t (subst (λ (ts : List BaseTable). slice_get ts i ≡ Some t) (base_grows user d before) there)) parts.0 parts.1
  where
    by_place : (slice_get (base_tables before) i ≡ Some t) ⊎ ((i ≡ length (base_tables before)) × (◌≡◌ {A = BaseTable} (record { name = table_of user d.name; definition = d }) t))
        → same_table (table_of user d.name) name ≡ false → list_any (λ k. same_table k.table name) (tables_of before) ≡ false → ⊥
    by_place (inl h) first others = absent others i t h same
    by_place (inr h) first others =
        let is_it : table_of user d.name ≡ name = ap (λ (b : BaseTable). b.name) h.1 ∙ same in
        not_both (same_table (table_of user d.name) name) (subst (λ (n : TableName). same_table (table_of user d.name) n ≡ true) is_it (itself (table_of user d.name))) first
absent_with user (element.View v) before name absent made i t there same =
    absent (both_false _ (list_any (λ k. same_table k.table name) (tables_of before)) made).1 i t there same
absent_with user (element.Grant g) before name absent made i t there same = absent made i t there same

absent : (elements : Elements) (name : TableName) → IsAbsent elements name
absent [] name = λ made i t there same. cc
absent (e ∷ before) name = absent_with e.user e.element before name (absent before name)

-- one name, one place
abbrev Apart : List BaseTable → Type 0
Apart ts = (i j : ℕ) (t u : BaseTable) → slice_get ts i ≡ Some t → slice_get ts j ≡ Some u → t.name ≡ u.name → i ≡ j

apart_with : (ts : List BaseTable) (b : BaseTable) → Apart ts → ((i : ℕ) (t : BaseTable) → slice_get ts i ≡ Some t → t.name ≡ b.name → ⊥) → Apart (ts ++ b ∷ [])
apart_with ts b apart new i j t u there_i there_j same = by_places (in_snoc ts b i t there_i) (in_snoc ts b j u there_j)
  where
    by_places : (slice_get ts i ≡ Some t) ⊎ ((i ≡ length ts) × (b ≡ t)) → (slice_get ts j ≡ Some u) ⊎ ((j ≡ length ts) × (b ≡ u)) → i ≡ j
    by_places (inl h) (inl k) = apart i j t u h k same
    by_places (inl h) (inr k) = absurd (new i t h (same ∙ sym (ap (λ (x : BaseTable). x.name) k.1)))
    by_places (inr h) (inl k) = absurd (new j u k (sym same ∙ sym (ap (λ (x : BaseTable). x.name) h.1)))
    by_places (inr h) (inr k) = h.0 ∙ sym k.0

apart_to : (user : Name) (e : SchemaElement) (before : Elements) → IsNew before user e → Apart (base_tables before) → Apart (base_tables (record { user = user; element = e } ∷ before))
apart_to user (element.Table d) before new apart =
    subst (λ (ts : List BaseTable). Apart ts) (sym (base_grows user d before)) (apart_with (base_tables before) (record { name = table_of user d.name; definition = d }) apart (absent before (table_of user d.name) new))
apart_to user (element.View v) before new apart = apart
apart_to user (element.Grant g) before new apart = apart

apart_all : (elements : Elements) → NewNames elements → Apart (base_tables elements)
apart_all [] new = λ i j t u there_i there_j same. cc
apart_all (e ∷ before) new = apart_to e.user e.element before new.0 (apart_all before new.1)

-- A base table is found at its place.
chosen_place : (n place count : ℕ) → n ≡ place → place < count → cond (nat_lt n count) (Some n) None ≡ Some place
chosen_place n place count e h = ap (λ (k : ℕ). cond (nat_lt k count) (Some k) None) e ∙ picked (nat_lt place count) (lt-ltb place count h)
  where
    picked : (b : Bool) → b ≡ true → cond b (Some place) None ≡ Some place
    picked true e = refl
    picked false e = cc

place_found : (ts : List BaseTable) (place : ℕ) (t : BaseTable) → Apart ts → slice_get ts place ≡ Some t → position (λ (u : BaseTable). same_table u.name t.name) ts ≡ Some place
place_found ts place t apart there =
    let within = slice_get_within ts place t there in
    let it : get_or ts place t ≡ t = get_or_from_slice_get ts place t t there in
    let here : same_table (get_or ts place t).name t.name ≡ true = subst (λ (u : BaseTable). same_table u.name t.name ≡ true) (sym it) (itself t.name) in
    let before : (k : ℕ) → k < place → same_table (get_or ts k t).name t.name ≡ false =
    λ k h. is_false (same_table (get_or ts k t).name t.name) (λ same. earlier k h (apart k place (get_or ts k t) t (slice_get-get_or ts k t (omega arith)) there (table_same (get_or ts k t).name t.name same))) in
    chosen_place (position_or_len (λ (u : BaseTable). same_table u.name t.name) ts) place (length ts)
    (position_or_len_is (λ (u : BaseTable). same_table u.name t.name) ts place t (omega arith) before (λ h. here)) within
  where
    earlier : (k : ℕ) → k < place → k ≡ place → ⊥
    earlier k h e = omega arith

names_differ : (elements : Elements) → Apart (base_tables elements) → NamesDiffer elements
names_differ elements apart place t there = place_found (base_tables elements) place t apart there

-- In schemas that are not refused no two base tables have one name,
pub accepted_names_differ : (texts : List SchemaText) → first_schema_refusal texts ≡ None → NamesDiffer (elements_of texts)
accepted_names_differ texts e = names_differ (elements_of texts) (apart_all (elements_of texts) (new_names [] [] (schema_parts texts) tt e))

-- In schemas that are not refused, where all constraints hold of both databases, they hold after each call.
pub accepted_hold_after : (texts : List SchemaText) (modules : List ModuleText) (row_numbers : ℕ) (s : State) (c : Call) → first_schema_refusal texts ≡ None
    → StateHolds (elements_of texts) s → StateHolds (elements_of texts) (stepped (program_of texts modules row_numbers) s c)
accepted_hold_after texts modules row_numbers s c e hold = constraints_hold_after (program_of texts modules row_numbers) s c (accepted_names_differ texts e) hold

-- ---- from the empty database on

no_row : (n place : ℕ) → (table_at (no_rows n) place).rows ≡ []
no_row zero place = refl
no_row (suc n) zero = refl
no_row (suc n) (suc place) = no_row n place

no_base_row : (elements : Elements) (n : ℕ) (name : TableName) → rows_of_base elements (no_rows n) name ≡ []
no_base_row elements n name = at_places (base_place elements name)
  where
    at_places : (place : Option ℕ) → flat_map (λ p. rows_in (table_at (no_rows n) p)) (option_to_list place) ≡ []
    at_places None = refl
    at_places (Some p) = ap (λ rs. map (λ r. r.row) rs ++ []) (no_row n p)

all_pass : {A : Type 0} (test : A → Bool) → ((x : A) → test x ≡ true) → (xs : List A) → list_all test xs ≡ true
all_pass test passes [] = refl
all_pass test passes (x ∷ xs) = ap (λ b. b && list_all test xs) (passes x) ∙ all_pass test passes xs

met : (b : Bool) (s : Status) → b ≡ true → demanded b s ≡ Ok tt
met b s e = ap (λ c. demanded c s) e

keys_of_none : (t : BaseTable) → keys_satisfied t [] ≡ Ok tt
keys_of_none t = met (list_all (key_satisfied t.definition []) (keys t.definition)) status.IntegrityConstraintViolation (all_pass (key_satisfied t.definition []) (λ key. refl) (keys t.definition))

checks_of_none : (elements : Elements) (n : ℕ) (t : BaseTable) → ChecksHold elements (no_rows n) t
checks_of_none elements n t = (
  ap (all_satisfied (row_satisfied t)) (no_base_row elements n t.name),
  ap (keys_satisfied t) (no_base_row elements n t.name) ∙ keys_of_none t,
  met (list_all (reference_satisfied elements (no_rows n) t) (table_references t.definition)) status.IntegrityConstraintViolation
      (all_pass (reference_satisfied elements (no_rows n) t) (λ r. ap (list_all _) (no_base_row elements n t.name)) (table_references t.definition)),
)

domains_of_none : (elements : Elements) (n : ℕ) (t : BaseTable) → DomainsHold elements (no_rows n) t
domains_of_none elements n t = subst (λ (rows : List Row). AllByRecursion (AreInDomains (map column_domain (column_definitions t.definition))) rows) (sym (no_base_row elements n t.name)) tt

pub hold_at_first : (p : Program) → StateHolds p.elements (first_state p)
hold_at_first p = (holding, holding)
  where
    holding : ConstraintsHold p.elements (no_rows (base_count p.elements))
    holding = (λ place t there. domains_of_none p.elements (base_count p.elements) t, λ place t there. checks_of_none p.elements (base_count p.elements) t)

hold_along : (texts : List SchemaText) (modules : List ModuleText) (row_numbers : ℕ) → first_schema_refusal texts ≡ None → (items : List RunItem) (s : State)
    → StateHolds (elements_of texts) s → StateHolds (elements_of texts) (after (program_of texts modules row_numbers) s items)
hold_along texts modules row_numbers e [] s hold = hold
hold_along texts modules row_numbers e (RunItem.call c ∷ items) s hold =
    hold_along texts modules row_numbers e items (stepped (program_of texts modules row_numbers) s c) (accepted_hold_after texts modules row_numbers s c e hold)
hold_along texts modules row_numbers e (RunItem.show name ∷ items) s hold = hold_along texts modules row_numbers e items s hold

-- In a run of schemas that are not refused all constraints hold after every item, now and of what is committed.
pub constraints_hold_in_runs : (texts : List SchemaText) (modules : List ModuleText) (row_numbers : ℕ) (items : List RunItem) → first_schema_refusal texts ≡ None
    → StateHolds (elements_of texts) (after (program_of texts modules row_numbers) (first_state (program_of texts modules row_numbers)) items)
constraints_hold_in_runs texts modules row_numbers items e = hold_along texts modules row_numbers e items (first_state (program_of texts modules row_numbers)) (hold_at_first (program_of texts modules row_numbers))
