-- CREATE TABLE is accepted exactly if the rules refuse nothing of it, and else refused for the first fault in their order (ISO/IEC
-- 9075:1992, 11.3 to 11.9).
use Rattle.std.proofs.Common.{◌≡◌, ℕ, suc, Bool, true, false, cond, not, ◌&&◌, ◌||◌, List, [], ◌∷◌, ◌++◌, arith, length, map, Option, Some, None, Ok, Err, refl, sym, ap, subst, ◌∙◌}
use Rattle.std.proofs.lemmas.Grind.{common_steps}
use Rattle.std.specs.List.{AllByRecursion, AllZip, list_all, list_any}
use Rattle.std.specs.Option.{option_map}
use Rattle.std.specs.Prelude.{⊤, Result, find, if◌then◌else◌, is_err, is_none, is_ok, nat_le, nat_lt, unwrap_or}
use Rattle.std.proofs.lemmas.Bool.{or_parts}
use Rattle.sq_lex.specs.declared.name.Name.{Name}
use Rattle.sq_value.specs.Domain.{domain_length, kind_of}
use Rattle.sq_value.specs.declared.domain.Domain.{Domain}
use Rattle.sq_value.specs.declared.domain.Domain.TheVariants as domain
use Rattle.sq_value.specs.declared.value.Value.{Value}
use Rattle.sq_value.specs.declared.value.Value.TheVariants as value
use Rattle.sq_tree.specs.declared.cond.Cond.{Cond}
use Rattle.sq_tree.specs.declared.schema.ColumnDefinition.{ColumnDefinition}
use Rattle.sq_tree.specs.declared.schema.DefaultValue.{DefaultValue}
use Rattle.sq_tree.specs.declared.schema.DefaultValue.TheVariants as default
use Rattle.sq_tree.specs.declared.schema.SchemaElement.TheVariants as element
use Rattle.sq_tree.specs.declared.schema.TableDefinition.{TableDefinition}
use Rattle.sq_meaning.specs.Assignment.{assigned}
use Rattle.sq_meaning.specs.Environment.{TableName, same_table}
use Rattle.sq_meaning.specs.Spelled.{cond_of, domain_of, number_with_sign, table_of}
use Rattle.sq_meaning.specs.Status as status
use Rattle.sq_meaning.specs.Tables.{TableDescriptor, descriptor_of}
use Rattle.sq_meaning.specs.Catalog.{base_count, column_descriptor, column_domain, table_descriptor, tables_of}
use Rattle.sq_meaning.specs.Schema as rules
use Rattle.sq_meaning.specs.Schema.{Elements, Reference, column_definitions, has_name_twice, table_columns, table_references}
use Rattle.sq_meaning.specs.SchemaRefusal.{bad_check, bad_default, bad_key, bad_reference, bad_type, check_sites, column_bad_default, has_unknown, is_bad_check, is_bad_default, is_good_reference, is_made, is_made_again, is_refused_in_check, nullable_key, other_schema, privilege_lacking, refused_for, same_user, schema_faults, too_many_columns, too_many_tables, unknown_name, view_judged, with_element}
use Rattle.sq_meaning.specs.SchemaRefusal as refusal
use Rattle.sq_meaning.specs.Words.{is_some_and}
use Rattle.sq_meaning.specs.declared.refusal.SchemaFault.{SchemaFault}
use Rattle.sq_meaning.specs.declared.refusal.SchemaFault.TheVariants as fault
use Rattle.sq_bound.specs.declared.names.Reference.{Reference as Bound}
use Rattle.sq_bound.specs.declared.names.ColumnDefault.TheVariants as column_default
use Rattle.sq_binding.specs.NumberedCondition.{NumberedCond}
use Rattle.sq_binding.specs.View.{CheckFault, check_bound}
use Rattle.sq_binding.proofs.Exactly.CheckAccepted.{check_accepted}
use Rattle.sq_binding.proofs.FaultsFound.CondFaults.{CondSpellsNoNull}
use Rattle.sq_binding.specs.Catalog.{Catalog, DeclaredBase, DeclaredColumn, entry, table_count}
use Rattle.sq_binding.specs.Column.{TypedColumn, declared_column, default_of, refuses_null, stored, typed_column, user_length}
use Rattle.sq_binding.specs.Key.{has_bad_key, has_nullable, key_positions, primary_place}
use Rattle.sq_binding.specs.ElementOutcome.{each, or_fault, refused_if}
use Rattle.sq_binding.specs.Reference.{BoundReference, FoundReference, ReferencedTable, as_referenced, bound_reference, found_reference, has_bad_list}
use Rattle.sq_binding.specs.Table.{Draft, check_made, declared_table, draft, drafted_table, has_bad_lists, has_place, is_taken, most_columns, most_tables, or_bad_check, own_table, typed_descriptor}
use Rattle.sq_binding.proofs.Schemas.Answers.{Answers, Tells, answers_both, answers_end, answers_ok, answers_made, answers_then, behind, first_broken, if_told, one_rule, tells_at, tells_each, tells_each_of, tells_each_where, tells_if, tells_known, tells_made, tells_more, tells_there}
use Rattle.sq_binding.proofs.Schemas.BoundReferences.{reference_bound}
use Rattle.sq_binding.proofs.Schemas.Constraints.{IsTyped, keys_nullable}
use Rattle.sq_binding.proofs.Schemas.KnownTables.{IsBaseOf, IsCatalogOf, IsColumnOf, there_is_made}
use Rattle.sq_binding.proofs.Schemas.Names.{IsPlaced, as_long, table_itself}
use Rattle.sq_binding.proofs.Schemas.ReferencedKeys.{IsKindOf, IsTarget}
use Rattle.sq_binding.proofs.Schemas.References.{IsFound, is_unknown, keys_told, lists_are_bad, references_told, unknown_names}

-- ---- defaults

stored_told : (o : status.Outcome Value) → Tells fault.BadDefault (is_err o) (λ x. stored o ≡ Ok x) (stored o)
stored_told (Ok v) = (refl, refl)
stored_told (Err s) = (refl, refl)

user_told : (short : Bool) → Tells fault.BadDefault short (λ x. (if short then Err fault.BadDefault else Ok column_default.User) ≡ Ok x) (if short then Err fault.BadDefault else Ok column_default.User)
user_told true = (refl, refl)
user_told false = (refl, refl)

default_told : (d : Domain) (o : Option DefaultValue) → Tells fault.BadDefault (is_some_and (is_bad_default d) o) (λ x. default_of d o ≡ Ok x) (default_of d o)
default_told d None = (refl, refl)
default_told d (Some (default.Number n)) = stored_told (assigned d (value.Num (number_with_sign n)))
default_told d (Some (default.Text characters)) = stored_told (assigned d (value.Chars characters))
default_told d (Some default.User) = user_told (nat_lt (domain_length d) user_length)
default_told d (Some default.Null) = (refl, refl)

domain_typed : (d : ColumnDefinition) (c : TypedColumn) → IsTyped d c → column_domain d ≡ c.domain
domain_typed d c h = ap (λ (o : Option Domain). unwrap_or o domain.Int) h.domain

column_told : (d : ColumnDefinition) (c : TypedColumn) → IsTyped d c → Tells fault.BadDefault (column_bad_default d) (IsColumnOf d) (declared_column c)
column_told d c h =
    tells_at fault.BadDefault (is_some_and (is_bad_default c.domain) c.definition.default) (column_bad_default d) (IsColumnOf d) (declared_column c)
    (λ i. is_some_and (is_bad_default (sym (domain_typed d c h) i)) (h.definition i).default)
    (tells_made fault.BadDefault (is_some_and (is_bad_default c.domain) c.definition.default) (λ x. default_of c.domain c.definition.default ≡ Ok x) (IsColumnOf d) (default_of c.domain c.definition.default) _
    (default_told c.domain c.definition.default)
    (λ x is. record { name = ap (λ d. d.name) h.definition; domain = h.domain; not_null = ap refuses_null h.definition; default = subst (λ (d : ColumnDefinition). default_of c.domain d.default ≡ Ok x) h.definition is }))

-- ---- domains and kinds

typed_told : (d : ColumnDefinition) → Tells fault.BadType (is_none (domain_of d.data_type)) (IsTyped d) (typed_column d)
typed_told d =
    tells_made fault.BadType (is_none (domain_of d.data_type)) (λ x. domain_of d.data_type ≡ Some x) (IsTyped d) (or_fault fault.BadType (domain_of d.data_type)) (λ x. record { definition = d; domain = x }) (tells_there fault.BadType (domain_of d.data_type))
    (λ x is. record { definition = refl; domain = is })

descriptors_typed : (ds : List ColumnDefinition) (cs : List TypedColumn) → AllZip IsTyped ds cs → map typed_descriptor cs ≡ map column_descriptor ds
descriptors_typed [] [] h = refl
descriptors_typed [] (c ∷ cs) h = absurd h
descriptors_typed (d ∷ ds) [] h = absurd h
descriptors_typed (d ∷ ds) (c ∷ cs) h = λ i. record { name = (h.0.definition i).name; kind = kind_of (sym (domain_typed d c h.0) i) } ∷ descriptors_typed ds cs h.1 i

kinds_typed : (ds : List ColumnDefinition) (cs : List TypedColumn) → AllZip IsTyped ds cs → AllZip IsKindOf ds (map (λ c. kind_of c.domain) cs)
kinds_typed [] [] h = tt
kinds_typed [] (c ∷ cs) h = absurd h
kinds_typed (d ∷ ds) [] h = absurd h
kinds_typed (d ∷ ds) (c ∷ cs) h = (ap (option_map kind_of) h.0.domain, kinds_typed ds cs h.1)

-- ---- room

pub one_more : (n : ℕ) → nat_le most_tables n ≡ nat_lt 1000 (suc n)
one_more n = grind (arith, common_steps)

pub has_place_told : (c : Catalog) (user : Name) (name : TableName) (other many : Bool) → not (same_user user name) ≡ other → nat_le most_tables (table_count c) ≡ many
    → Answers ((fault.OtherSchema, other) ∷ (fault.TooManyTables, many) ∷ []) (λ u. (other ≡ false) × (many ≡ false)) (has_place c user name)
has_place_told c user name other many is_other is_many =
    answers_then fault.OtherSchema other ((fault.TooManyTables, many) ∷ []) (λ u. other ≡ false) (λ u. (other ≡ false) × (many ≡ false)) (refused_if fault.OtherSchema (not (same_user user name))) _
    (if_told fault.OtherSchema (not (same_user user name)) other is_other)
    (λ u e. answers_end fault.TooManyTables many (λ u. (other ≡ false) × (many ≡ false)) (refused_if fault.TooManyTables (nat_le most_tables (table_count c)))
    (tells_more fault.TooManyTables many (λ u. many ≡ false) (λ u. (other ≡ false) × (many ≡ false)) (refused_if fault.TooManyTables (nat_le most_tables (table_count c))) (λ v g. (e, g)) (if_told fault.TooManyTables (nat_le most_tables (table_count c)) many is_many)))

-- ---- lists that are told together

all_zip : {A B : Type 0} (f : A → Bool) (g : B → Bool) (xs : List A) (ys : List B) → AllZip (λ x y. g y ≡ f x) xs ys → list_all g ys ≡ list_all f xs
all_zip f g [] [] h = refl
all_zip f g [] (y ∷ ys) h = absurd h
all_zip f g (x ∷ xs) [] h = absurd h
all_zip f g (x ∷ xs) (y ∷ ys) h = λ i. h.0 i && all_zip f g xs ys h.1 i

each_good : {A B : Type 0} (R : A → B → Type 0) (test : B → Bool) (xs : List A) (ys : List B) → AllZip R xs ys → list_any test ys ≡ false → AllZip (λ x y. R x y × (test y ≡ false)) xs ys
each_good R test [] [] h e = tt
each_good R test [] (y ∷ ys) h e = absurd h
each_good R test (x ∷ xs) [] h e = absurd h
each_good R test (x ∷ xs) (y ∷ ys) h e = let parts = or_parts (test y) (list_any test ys) e in ((h.0, parts.0), each_good R test xs ys h.1 parts.1)

module _ (users : List Name) (before : Elements) (c : Catalog) (of : IsCatalogOf users before c) (user : Name) (t : TableDefinition) where
  abbrev own : TableName
  own = table_of user t.name

  abbrev elements : Elements
  elements = with_element before user (element.Table t)

  abbrev columns : List Name
  columns = table_columns t

  -- ---- what is written

  taken : is_taken c user own ≡ is_made_again before user own
  taken = ap (λ b. same_user user own && b) (there_is_made before own (entry c own) (of.known own))

  abbrev Unknown : Reference → Bool
  Unknown = is_unknown before c of.known user t

  abbrev Found : Reference → FoundReference → Type 0
  Found = IsFound before c of.known user t

  record IsDraft (d : Draft) : Type 0 where
    pub untaken : is_made_again before user own ≡ false
    pub apart : has_name_twice columns ≡ false
    pub keys : AllZip (AllZip (IsPlaced columns)) (rules.keys t) d.keys
    pub references : AllZip Found (table_references t) d.references
    pub columns : AllZip IsTyped (column_definitions t) d.columns

  abbrev draft_rules : List (SchemaFault × Bool)
  draft_rules =
      (fault.NameTwice, is_made_again before user own) ∷ (fault.NameTwice, has_name_twice columns) ∷ (fault.UnknownName, list_any (has_unknown columns) (rules.keys t))
      ∷ (fault.UnknownName, list_any Unknown (table_references t)) ∷ (fault.BadType, bad_type (element.Table t)) ∷ []

  draft_told : Answers draft_rules IsDraft (draft c user t)
  draft_told =
      answers_then fault.NameTwice _ (behind draft_rules) (λ u. is_made_again before user own ≡ false) IsDraft (refused_if fault.NameTwice (is_taken c user own)) _
      (tells_at fault.NameTwice (is_taken c user own) (is_made_again before user own) (λ u. is_made_again before user own ≡ false) (refused_if fault.NameTwice (is_taken c user own)) taken
      (subst (λ b. Tells fault.NameTwice (is_taken c user own) (λ u. b ≡ false) (refused_if fault.NameTwice (is_taken c user own))) taken (tells_if fault.NameTwice (is_taken c user own))))
      (λ u untaken. answers_then fault.NameTwice _ (behind (behind draft_rules)) (λ u. has_name_twice columns ≡ false) IsDraft (refused_if fault.NameTwice (has_name_twice columns)) _ (tells_if fault.NameTwice (has_name_twice columns))
      (λ v apart. answers_then fault.UnknownName _ (behind (behind (behind draft_rules))) (AllZip (AllZip (IsPlaced columns)) (rules.keys t)) IsDraft (key_positions t) _ (keys_told before c of.known user t)
      (λ keys at. answers_then fault.UnknownName _ (behind (behind (behind (behind draft_rules)))) (AllZip Found (table_references t)) IsDraft (each (found_reference c user own columns) (table_references t)) _ (references_told before c of.known user t)
      (λ references found. answers_then fault.BadType _ (behind (behind (behind (behind (behind draft_rules))))) (AllZip IsTyped (column_definitions t)) IsDraft (each typed_column (column_definitions t)) _
      (tells_each fault.BadType (λ d. is_none (domain_of d.data_type)) IsTyped typed_column typed_told (column_definitions t))
      (λ typed are. answers_ok IsDraft (record { columns = typed; keys = keys; references = references }) (record { untaken = untaken; apart = apart; keys = at; references = found; columns = are }))))))

  -- ---- CHECK

  abbrev described : TableDescriptor
  described = table_descriptor (base_count before) user t

  own_known : descriptor_of (tables_of elements) own ≡ Ok described
  own_known = ap (λ b. status.well_formed (cond b (Some described) (find (λ d. same_table d.table own) (tables_of before)))) (table_itself own)

  abbrev Checked : Cond → NumberedCond → Type 0
  Checked k n = check_bound own (map column_descriptor (column_definitions t)) (cond_of user k) ≡ Ok n

  check_told : (typed : List TypedColumn) → AllZip IsTyped (column_definitions t) typed → (k : Cond) → CondSpellsNoNull (cond_of user k) → Tells fault.BadCheck (is_bad_check elements user t k) (Checked k) (check_made user own typed k)
  check_told typed are k null =
      subst (λ cs. Tells fault.BadCheck (is_bad_check elements user t k) (Checked k) (or_bad_check (check_bound own cs (cond_of user k)))) (sym (descriptors_typed (column_definitions t) typed are))
      (by (check_bound own described.columns (cond_of user k)) refl (is_bad_check elements user t k) (check_accepted (view_judged elements user) refl own described own_known (cond_of user k) null))
    where
      by : (o : Result NumberedCond CheckFault) → check_bound own described.columns (cond_of user k) ≡ o → (bad : Bool) → is_ok o ≡ not bad → Tells fault.BadCheck bad (Checked k) (or_bad_check o)
      by (Ok n) is true e = cc
      by (Ok n) is false e = (refl, is)
      by (Err f) is true e = (refl, refl)
      by (Err f) is false e = cc

  -- ---- all of it

  own_target : (d : Draft) → IsDraft d → has_bad_key t d.keys ≡ false → IsTarget t (own_table c t d)
  own_target d h lists = record { names = refl; kinds = kinds_typed (column_definitions t) d.columns h.columns; keys = h.keys; primary = refl; lists = lists }

  -- a reference that is made of one that is found
  pub record IsBoundAs (o : ReferencedTable) (r : Reference) (x : BoundReference) : Type 0 where
    pub found : FoundReference
    pub is_found : Found r found
    pub bound : bound_reference c user o found ≡ Ok x

  abbrev pub IsMadeAs : ReferencedTable → Reference → Bound → Type 0
  IsMadeAs o r x = (y : BoundReference) × IsBoundAs o r y × (y.reference ≡ x)

  all_made : (o : ReferencedTable) (rs : List Reference) (xs : List BoundReference) → AllZip (IsBoundAs o) rs xs → AllZip (IsMadeAs o) rs (map (λ x. x.reference) xs)
  all_made o [] [] h = tt
  all_made o [] (x ∷ xs) h = absurd h
  all_made o (r ∷ rs) [] h = absurd h
  all_made o (r ∷ rs) (x ∷ xs) h = ((x, h.0, refl), all_made o rs xs h.1)

  split : {A B : Type 0} (R S : A → B → Type 0) (xs : List A) (ys : List B) → AllZip (λ x y. R x y × S x y) xs ys → AllZip R xs ys × AllZip S xs ys
  split R S [] [] h = (tt, tt)
  split R S [] (y ∷ ys) h = absurd h
  split R S (x ∷ xs) [] h = absurd h
  split R S (x ∷ xs) (y ∷ ys) h = let rest = split R S xs ys h.1 in ((h.0.0, rest.0), (h.0.1, rest.1))

  names_made : (ds : List ColumnDefinition) (cs : List DeclaredColumn) → AllZip IsColumnOf ds cs → map (λ d. d.name) ds ≡ map (λ c. c.name) cs
  names_made [] [] h = refl
  names_made [] (c ∷ cs) h = absurd h
  names_made (d ∷ ds) [] h = absurd h
  names_made (d ∷ ds) (c ∷ cs) h = λ i. sym h.0.name i ∷ names_made ds cs h.1 i

  kinds_made : (ds : List ColumnDefinition) (ts : List TypedColumn) (cs : List DeclaredColumn) → AllZip IsTyped ds ts → AllZip IsColumnOf ds cs → map (λ t. kind_of t.domain) ts ≡ map (λ c. kind_of c.domain) cs
  kinds_made [] [] [] h g = refl
  kinds_made [] [] (c ∷ cs) h g = absurd g
  kinds_made [] (t ∷ ts) cs h g = absurd h
  kinds_made (d ∷ ds) [] cs h g = absurd h
  kinds_made (d ∷ ds) (t ∷ ts) [] h g = absurd g
  kinds_made (d ∷ ds) (t ∷ ts) (c ∷ cs) h g =
      let both : Some t.domain ≡ Some c.domain = sym h.0.domain ∙ g.0.domain in
      let same : t.domain ≡ c.domain = cc in
      λ i. kind_of (same i) ∷ kinds_made ds ts cs h.1 g.1 i

  own_is : (d : Draft) (cs : List DeclaredColumn) → IsDraft d → AllZip IsColumnOf (column_definitions t) cs
      → own_table c t d ≡ record { place = length c.bases; names = map (λ c. c.name) cs; kinds = map (λ c. kind_of c.domain) cs; keys = d.keys; primary_key = primary_place t }
  own_is d cs h are =
      λ i. record { place = length c.bases; names = names_made (column_definitions t) cs are i; kinds = kinds_made (column_definitions t) d.columns cs h.columns are i; keys = d.keys; primary_key = primary_place t }

  -- the base table that is made
  pub record IsMade (b : DeclaredBase) : Type 0 where
    pub name : b.name ≡ own
    pub place : b.place ≡ length c.bases
    pub is_of : IsBaseOf t b
    pub checks : AllZip Checked (rules.checks t) b.checks
    pub itself : ReferencedTable
    pub is_itself : itself ≡ as_referenced b
    pub references : AllZip (IsMadeAs itself) (table_references t) b.references
    pub untaken : is_made_again before user own ≡ false
    pub in_schema : other_schema user (element.Table t) ≡ false
    pub room : too_many_tables before user (element.Table t) ≡ false

  abbrev rest_rules : List (SchemaFault × Bool)
  rest_rules =
      (fault.NullableKey, nullable_key (element.Table t)) ∷ (fault.BadKey, bad_key (element.Table t)) ∷ (fault.BadReference, bad_reference before user (element.Table t)) ∷ (fault.BadCheck, bad_check before user (element.Table t))
      ∷ (fault.BadDefault, bad_default (element.Table t)) ∷ (fault.PrivilegeMissing, privilege_lacking before user (element.Table t)) ∷ (fault.TooManyColumns, too_many_columns (element.Table t))
      ∷ (fault.OtherSchema, other_schema user (element.Table t)) ∷ (fault.TooManyTables, too_many_tables before user (element.Table t)) ∷ []

  full : nat_le most_tables (table_count c) ≡ too_many_tables before user (element.Table t)
  full = one_more (table_count c) ∙ ap (λ n. nat_lt 1000 (suc n)) (sym of.count)

  abbrev HasPlace : Unit {0} → Type 0
  HasPlace u = (other_schema user (element.Table t) ≡ false) × (too_many_tables before user (element.Table t) ≡ false)

  place_told : Answers ((fault.OtherSchema, other_schema user (element.Table t)) ∷ (fault.TooManyTables, too_many_tables before user (element.Table t)) ∷ []) HasPlace (has_place c user own)
  place_told = has_place_told c user own (other_schema user (element.Table t)) (too_many_tables before user (element.Table t)) refl full

  abbrev unknown_rules : List (SchemaFault × Bool)
  unknown_rules = (fault.UnknownName, list_any (has_unknown columns) (rules.keys t)) ∷ (fault.UnknownName, list_any Unknown (table_references t)) ∷ []

  abbrev later_rules : List (SchemaFault × Bool)
  later_rules = (fault.BadType, bad_type (element.Table t)) ∷ rest_rules

  abbrev pub table_rules : List (SchemaFault × Bool)
  table_rules = draft_rules ++ rest_rules

  -- the first rule that is broken is the first of the rules' order
  pub table_first : first_broken table_rules ≡ find (refused_for before user (element.Table t)) schema_faults
  table_first =
      one_rule fault.NameTwice (is_made_again before user own) (has_name_twice columns) (unknown_rules ++ later_rules)
      ∙ ap (λ o. if is_made_again before user own || has_name_twice columns then Some fault.NameTwice else o)
      (one_rule fault.UnknownName (list_any (has_unknown columns) (rules.keys t)) (list_any Unknown (table_references t)) later_rules
      ∙ ap (λ b. first_broken ((fault.UnknownName, b) ∷ later_rules)) (sym (unknown_names before c of.known user t)))

  module _ (null : AllByRecursion (λ k. CondSpellsNoNull (cond_of user k)) (rules.checks t)) where
    rest_told : (d : Draft) → IsDraft d → Answers rest_rules IsMade (drafted_table c user t d)
    rest_told d h =
        answers_then fault.NullableKey _ (behind rest_rules) (λ u. ⊤) IsMade (refused_if fault.NullableKey (list_any (has_nullable d.columns) d.keys)) _
        (tells_more fault.NullableKey _ _ (λ u. ⊤) _ (λ u e. tt) (if_told fault.NullableKey (list_any (has_nullable d.columns) d.keys) (nullable_key (element.Table t)) (sym (keys_nullable t h.apart d.columns h.columns (rules.keys t) d.keys h.keys))))
        (λ u v. answers_then fault.BadKey _ (behind (behind rest_rules)) (λ u. has_bad_lists t d ≡ false) IsMade (refused_if fault.BadKey (has_bad_lists t d)) _
        (tells_at fault.BadKey (has_bad_lists t d) (bad_key (element.Table t)) _ _ (sym (lists_are_bad before c of.known user t d.keys d.references h.keys h.references)) (tells_if fault.BadKey (has_bad_lists t d)))
        (λ w lists. let parts = or_parts (has_bad_key t d.keys) (list_any has_bad_list d.references) lists in
        answers_then fault.BadReference _ (behind (behind (behind rest_rules))) (AllZip (λ r b. (b.is_permitted ≡ refusal.may_reference elements user r) × IsBoundAs (own_table c t d) r b) (table_references t)) IsMade (each (bound_reference c user (own_table c t d)) d.references) _
        (tells_each_of fault.BadReference (λ r. not (is_good_reference elements user t r)) (λ r f. Found r f × (has_bad_list f ≡ false)) (λ r b. (b.is_permitted ≡ refusal.may_reference elements user r) × IsBoundAs (own_table c t d) r b) (bound_reference c user (own_table c t d))
        (λ r f is. tells_more fault.BadReference (not (is_good_reference elements user t r)) (λ x. (x.is_permitted ≡ refusal.may_reference elements user r) × (bound_reference c user (own_table c t d) f ≡ Ok x))
        (λ x. (x.is_permitted ≡ refusal.may_reference elements user r) × IsBoundAs (own_table c t d) r x) (bound_reference c user (own_table c t d) f) (λ x both. (both.0, record { found = f; is_found = is.0; bound = both.1 }))
        (tells_known fault.BadReference (not (is_good_reference elements user t r)) (λ x. x.is_permitted ≡ refusal.may_reference elements user r) (bound_reference c user (own_table c t d) f)
        (reference_bound before c of.known of.held user t (own_table c t d) (own_target d h parts.0) r f is.0 is.1)))
        (table_references t) d.references (each_good Found has_bad_list (table_references t) d.references h.references parts.1))
        (λ references bound. let permitted = split (λ r (x : BoundReference). x.is_permitted ≡ refusal.may_reference elements user r) (IsBoundAs (own_table c t d)) (table_references t) references bound in
        answers_then fault.BadCheck _ (behind (behind (behind (behind rest_rules)))) (AllZip Checked (rules.checks t)) IsMade (each (check_made user own d.columns) (rules.checks t)) _
        (tells_each_where fault.BadCheck (is_bad_check elements user t) (λ k. CondSpellsNoNull (cond_of user k)) Checked (check_made user own d.columns) (check_told d.columns h.columns) (rules.checks t) null)
        (λ checks checked. answers_then fault.BadDefault _ (behind (behind (behind (behind (behind rest_rules))))) (AllZip IsColumnOf (column_definitions t)) IsMade (each declared_column d.columns) _
        (tells_each_of fault.BadDefault column_bad_default IsTyped IsColumnOf declared_column column_told (column_definitions t) d.columns h.columns)
        (λ made are. answers_then fault.PrivilegeMissing _ (behind (behind (behind (behind (behind (behind rest_rules)))))) (λ u. ⊤) IsMade (refused_if fault.PrivilegeMissing (not (list_all (λ r. r.is_permitted) references))) _
        (tells_more fault.PrivilegeMissing _ _ (λ u. ⊤) _ (λ u e. tt)
        (if_told fault.PrivilegeMissing (not (list_all (λ r. r.is_permitted) references)) (privilege_lacking before user (element.Table t)) (ap not (all_zip (refusal.may_reference elements user) (λ r. r.is_permitted) (table_references t) references permitted.0))))
        (λ x y. answers_then fault.TooManyColumns _ (behind (behind (behind (behind (behind (behind (behind rest_rules))))))) (λ u. nat_lt most_columns (length made) ≡ false) IsMade (refused_if fault.TooManyColumns (nat_lt most_columns (length made))) _
        (tells_at fault.TooManyColumns (nat_lt most_columns (length made)) (too_many_columns (element.Table t)) _ _ (ap (nat_lt most_columns) (sym (as_long IsColumnOf (column_definitions t) made are))) (tells_if fault.TooManyColumns (nat_lt most_columns (length made))))
        (λ z narrow. answers_made ((fault.OtherSchema, other_schema user (element.Table t)) ∷ (fault.TooManyTables, too_many_tables before user (element.Table t)) ∷ []) HasPlace IsMade (has_place c user own) _ place_told
        (λ p there. record {
          name = refl;
          place = refl;
          is_of = record { columns = are; apart = h.apart; narrow = narrow; keys = h.keys; primary = refl; lists = parts.0 };
          checks = checked;
          itself = own_table c t d;
          is_itself = own_is d made h are;
          references = all_made (own_table c t d) (table_references t) references permitted.1;
          untaken = h.untaken;
          in_schema = there.0;
          room = there.1;
        }))))))))

    pub table_told : Answers table_rules IsMade (declared_table c user t)
    table_told = answers_both draft_rules rest_rules IsDraft IsMade (draft c user t) _ draft_told rest_told
