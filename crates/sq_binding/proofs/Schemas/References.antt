-- The names of a reference are found if the rules know them (ISO/IEC 9075:1992, 11.8).
use Rattle.std.proofs.Common.{◌≡◌, ℕ, Bool, true, false, cond, not, ◌||◌, List, [], ◌∷◌, map, Option, Some, None, Ok, Err, refl, sym, ap, subst, ◌∙◌}
use Rattle.std.proofs.lemmas.List.{append-nil}
use Rattle.std.specs.List.{AllZip, flat_map, list_any}
use Rattle.std.specs.Option.{option_map}
use Rattle.std.specs.Prelude.{find, if◌then◌else◌, nat_lt, length, option_to_list}
use Rattle.std.specs.Result.{result_ok}
use Rattle.sq_value.proofs.Truths.{or_assoc_left, or_swap}
use Rattle.sq_lex.specs.declared.name.Name.{Name}
use Rattle.sq_tree.specs.declared.list.CommaList.{CommaList}
use Rattle.sq_tree.specs.declared.schema.ColumnDefinition.{ColumnDefinition}
use Rattle.sq_tree.specs.declared.schema.SchemaElement.TheVariants as element
use Rattle.sq_tree.specs.declared.schema.TableDefinition.{TableDefinition}
use Rattle.sq_meaning.specs.Environment.{TableName, same_table}
use Rattle.sq_meaning.specs.Spelled.{listed, listed_if_any, table_of}
use Rattle.sq_meaning.specs.Status as status
use Rattle.sq_meaning.specs.Tables.{ColumnDescriptor, TableDescriptor, column_names, descriptor_of}
use Rattle.sq_meaning.specs.Catalog.{base_count, column_descriptor, table_descriptor, tables_of}
use Rattle.sq_meaning.specs.Schema.{Elements, Reference, column_definitions, constraints, keys, primary_keys, table_columns, table_references}
use Rattle.sq_meaning.specs.SchemaRefusal.{bad_key, columns_of_made, constraint_unknown, has_unknown, is_bad_key, is_made, reference_unknown, unknown_name, with_element}
use Rattle.sq_meaning.specs.SchemaRefusal as refusal
use Rattle.sq_meaning.specs.Words.{is_some_and}
use Rattle.sq_meaning.specs.declared.refusal.SchemaFault.TheVariants as fault
use Rattle.sq_binding.specs.Catalog.{Catalog, Entry, entry, entry_columns}
use Rattle.sq_binding.specs.Key.{has_bad_key, is_bad_list, key_positions}
use Rattle.sq_binding.specs.ElementOutcome.{and_then, each, or_fault}
use Rattle.sq_binding.specs.Position.{positions_of}
use Rattle.sq_binding.specs.Reference.{FoundReference, earlier_table, found_reference, has_bad_list, names_in, positions_listed}
use Rattle.sq_binding.proofs.Schemas.Answers.{Tells, tells_at, tells_each, tells_made, tells_then}
use Rattle.sq_binding.proofs.Schemas.Constraints.{any_zip, each_constraint, list_bad, lists_bad}
use Rattle.sq_binding.proofs.Schemas.KnownTables.{AreListed, Known, known_columns, there_is_made}
use Rattle.sq_binding.proofs.Schemas.Names.{IsPlaced, positions_told, table_itself, table_same}

pub listed_told : (names : List Name) (list : Option (CommaList Name)) → Tells fault.UnknownName (has_unknown names (listed_if_any list)) (AreListed names list) (positions_listed names list)
listed_told names None = (refl, tt)
listed_told names (Some list) =
    tells_made fault.UnknownName (has_unknown names (listed list)) (AllZip (IsPlaced names) (listed list)) (AreListed names (Some list)) (positions_of names (listed list)) (λ positions. Some positions) (positions_told names (listed list))
    (λ positions h. h)

names_again : (cs : List ColumnDefinition) → map (λ c. c.name) (map column_descriptor cs) ≡ map (λ c. c.name) cs
names_again [] = refl
names_again (c ∷ cs) = ap (λ names. c.name ∷ names) (names_again cs)

module _ (before : Elements) (c : Catalog) (known : (name : TableName) → Known before name (entry c name)) (user : Name) (t : TableDefinition) where
  abbrev pub own : TableName
  own = table_of user t.name

  abbrev pub elements : Elements
  elements = with_element before user (element.Table t)

  abbrev pub columns : List Name
  columns = table_columns t

  -- ---- the table

  abbrev pub IsEarlier : TableName → Option Entry → Type 0
  IsEarlier name None = own ≡ name
  IsEarlier name (Some e) = (same_table own name ≡ false) × (entry c name ≡ Some e)

  earlier_told : (name : TableName) → Tells fault.UnknownName (not (is_made elements name)) (IsEarlier name) (earlier_table c own name)
  earlier_told name = by (same_table own name) refl (entry c name) refl (known name)
    where
      by : (b : Bool) → same_table own name ≡ b → (o : Option Entry) → entry c name ≡ o → Known before name o
          → Tells fault.UnknownName (not (b || is_made before name)) (IsEarlier name) (if b then Ok None else and_then (or_fault fault.UnknownName o) (λ e. Ok (Some e)))
      by true is o at h = (refl, table_same own name is)
      by false is None at h = (refl, ap not h.not_made)
      by false is (Some e) at h = (ap not (sym (there_is_made before name (Some e) h)), (is, at))

  -- ---- its columns

  names_made : (o : status.Outcome TableDescriptor) (cs : List ColumnDescriptor) → Some cs ≡ option_map (λ d. d.columns) (result_ok o) → flat_map column_names (option_to_list (result_ok o)) ≡ map (λ c. c.name) cs
  names_made (Ok d) cs e = let same : cs ≡ d.columns = cc in append-nil (column_names d) ∙ sym (ap (map (λ (c : ColumnDescriptor). c.name)) same)
  names_made (Err s) cs e = cc

  abbrev described : Bool → TableName → status.Outcome TableDescriptor
  described b name = status.well_formed (cond b (Some (table_descriptor (base_count before) user t)) (find (λ d. same_table d.table name) (tables_of before)))

  pub names_known : (name : TableName) (e : Option Entry) → IsEarlier name e → columns_of_made elements name ≡ names_in columns e
  names_known name None is =
      ap (λ b. flat_map column_names (option_to_list (result_ok (described b name)))) (subst (λ n. same_table own n ≡ true) is (table_itself own))
      ∙ append-nil (column_names (table_descriptor (base_count before) user t)) ∙ names_again (column_definitions t)
  names_known name (Some e) is =
      ap (λ b. flat_map column_names (option_to_list (result_ok (described b name)))) is.0
      ∙ names_made (descriptor_of (tables_of before) name) (entry_columns e) (sym (ap (option_map entry_columns) is.1) ∙ known_columns before name (entry c name) (known name))

  -- ---- a reference

  pub record IsFound (r : Reference) (f : FoundReference) : Type 0 where
    pub columns_are : AllZip (IsPlaced columns) r.columns f.columns
    pub earlier : IsEarlier (table_of user r.references.table) f.earlier
    pub listed_are : AreListed (names_in columns f.earlier) r.references.columns f.columns_listed

  abbrev pub is_unknown : Reference → Bool
  is_unknown r = has_unknown columns r.columns || reference_unknown elements user r.references

  reference_told : (r : Reference) → Tells fault.UnknownName (is_unknown r) (IsFound r) (found_reference c user own columns r)
  reference_told r =
      let name : TableName = table_of user r.references.table in
      let missing : Bool = not (is_made elements name) in
      let here : Bool = has_unknown columns r.columns in
      let there : Bool = has_unknown (columns_of_made elements name) (listed_if_any r.references.columns) in
      tells_at fault.UnknownName (missing || (here || there)) (here || (missing || there)) (IsFound r) (found_reference c user own columns r) (or_swap missing here there)
      (tells_then fault.UnknownName missing (here || there) (IsEarlier name) (IsFound r) (earlier_table c own name) _ (earlier_told name)
      (λ e is. tells_then fault.UnknownName here there (AllZip (IsPlaced columns) r.columns) (IsFound r) (positions_of columns r.columns) _ (positions_told columns r.columns)
      (λ ns at. tells_made fault.UnknownName there (AreListed (names_in columns e) r.references.columns) (IsFound r) (positions_listed (names_in columns e) r.references.columns)
      (λ ps. record { columns = ns; earlier = e; columns_listed = ps })
      (tells_at fault.UnknownName (has_unknown (names_in columns e) (listed_if_any r.references.columns)) there (AreListed (names_in columns e) r.references.columns) (positions_listed (names_in columns e) r.references.columns)
      (ap (λ names. has_unknown names (listed_if_any r.references.columns)) (sym (names_known name e is))) (listed_told (names_in columns e) r.references.columns))
      (λ ps are. record { columns_are = at; earlier = is; listed_are = are }))))

  -- ---- all keys and references of a table

  pub unknown_names : unknown_name before user (element.Table t) ≡ (list_any (has_unknown columns) (keys t) || list_any is_unknown (table_references t))
  unknown_names =
      each_constraint (constraint_unknown elements user columns) (has_unknown columns) is_unknown (λ n. refl) (λ ns. refl) (λ ns. refl) (λ ns r. refl) (λ k. refl) (constraints t)

  pub keys_told : Tells fault.UnknownName (list_any (has_unknown columns) (keys t)) (AllZip (AllZip (IsPlaced columns)) (keys t)) (key_positions t)
  keys_told = tells_each fault.UnknownName (has_unknown columns) (AllZip (IsPlaced columns)) (positions_of columns) (positions_told columns) (keys t)

  pub references_told : Tells fault.UnknownName (list_any is_unknown (table_references t)) (AllZip IsFound (table_references t)) (each (found_reference c user own columns) (table_references t))
  references_told = tells_each fault.UnknownName is_unknown IsFound (found_reference c user own columns) reference_told (table_references t)

  -- ---- their lists

  abbrev has_bad_names : Reference → Bool
  has_bad_names r = refusal.is_bad_list r.columns || refusal.is_bad_list (listed_if_any r.references.columns)

  listed_bad : (names : List Name) (list : Option (CommaList Name)) (ps : Option (List ℕ)) → AreListed names list ps → refusal.is_bad_list (listed_if_any list) ≡ is_some_and is_bad_list ps
  listed_bad names None None h = refl
  listed_bad names None (Some ps) h = absurd h
  listed_bad names (Some list) None h = absurd h
  listed_bad names (Some list) (Some ps) h = list_bad names (listed list) ps h

  reference_bad : (r : Reference) (f : FoundReference) → IsFound r f → has_bad_names r ≡ has_bad_list f
  reference_bad r f h = λ i. list_bad columns r.columns f.columns h.columns_are i || listed_bad (names_in columns f.earlier) r.references.columns f.columns_listed h.listed_are i

  pub lists_are_bad : (positions : List (List ℕ)) (found : List FoundReference) → AllZip (AllZip (IsPlaced columns)) (keys t) positions → AllZip IsFound (table_references t) found
      → bad_key (element.Table t) ≡ (has_bad_key t positions || list_any has_bad_list found)
  lists_are_bad positions found at are =
      ap (λ b. nat_lt 1 (length (primary_keys t)) || b)
      (each_constraint is_bad_key refusal.is_bad_list has_bad_names (λ n. refl) (λ ns. refl) (λ ns. refl) (λ ns r. refl) (λ k. refl) (constraints t)
      ∙ (λ i. lists_bad columns (keys t) positions at i || any_zip IsFound has_bad_names has_bad_list reference_bad (table_references t) found are i))
      ∙ or_assoc_left (nat_lt 1 (length (primary_keys t))) (list_any is_bad_list positions) (list_any has_bad_list found)
