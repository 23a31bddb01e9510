-- References are those of a table definition, and stay so as base tables are added.
use Rattle.std.proofs.Common.{◌≡◌, eqb-true, eq-eqb, ℕ, zero, suc, ◌+◌, ◌<◌, ◌≤◌, Bool, true, false, not, List, [], ◌∷◌, ◌++◌, length, length-append, get_or, map, take, position, Option, Some, None, Result, Ok, Err, IfOk, refl, ap, sym, subst, ◌∙◌, arith, lt-ltb, nat_eq}
use Rattle.std.specs.Borrow.{Bor}
use Rattle.std.specs.Cmp.Lexicographic.{bytes_decides, pointwise}
use Rattle.std.specs.List.{All, AllZip, enumerate_from, list_any, position_or_len}
use Rattle.std.specs.Option.{IfSome, option_and_then, option_map}
use Rattle.std.specs.Result.{OnOk}
use Rattle.std.specs.Prelude.{cond, nat_lt, slice_get}
use Rattle.std.proofs.lemmas.Bool.{and_from, or_parts}
use Rattle.std.proofs.lemmas.Grind.{common_steps}
use Rattle.std.proofs.lemmas.List.{length-map, map-append, map_more}
use Rattle.std.proofs.lemmas.List.Elements.{All-head, All-tail}
use Rattle.std.proofs.lemmas.Option.{slice_get-get_or, slice_get-map}
use Rattle.sq_lex.specs.declared.name.Name.{Name}
use Rattle.sq_tree.specs.declared.schema.ColumnDefinition.{ColumnDefinition}
use Rattle.sq_tree.specs.declared.schema.TableDefinition.{TableDefinition}
use Rattle.sq_store.specs.Keys.{Keys}
use Rattle.sq_bound.specs.WellFormed.{place_of}
use Rattle.sq_bound.specs.declared.condition.TablePlace.TheVariants.{Base, View}
use Rattle.sq_bound.specs.declared.names.BaseTable.{BaseTable}
use Rattle.sq_bound.specs.declared.names.Column.{Column}
use Rattle.sq_bound.specs.declared.names.Reference.{Reference}
use Rattle.sq_bound.specs.declared.names.TableBody.{TableBody}
use Rattle.sq_bound.specs.declared.names.TableBody.TheVariants as body
use Rattle.sq_bound.specs.declared.names.TableDesc.{TableDesc}
use Rattle.sq_binding.proofs.Schemas.Made.{zip_weaker}
use Rattle.sq_catalog.specs.Catalog.{Adds, Catalog, HaveReferences, IsNewName, is_table, named_by, number_meant, table_number}
use Rattle.sq_catalog.specs.Columns.{AreColumnsOf, HasColumnsOf, IsColumnOf, columns_written}
use Rattle.sq_catalog.specs.Keys.{StandAt, names_written}
use Rattle.sq_catalog.specs.Reference.{IsBound, IsFound, IsFoundAs, IsMeant, IsPairAdded, IsTo, IsToBody, MakesReferences, names_in}
use Rattle.sq_catalog.specs.References.{AreListed, HasReferencesOf, IsReferenceOf, ReferentialConstraint, paired_with, references_written}
use Rattle.sq_catalog.specs.Stored.{IsBody, IsNumbered, IsStored, columns_of}
use Rattle.sq_catalog.specs.declared.catalog.FullName.{FullName}
use Rattle.sq_catalog.specs.declared.reference.FoundReference.{FoundReference}
use Rattle.sq_catalog.proofs.OneByOne.Listed.{get_behind, get_more}
use Rattle.sq_catalog.proofs.Growth.StillKnown.{position_kept, slice_kept}

-- ---- the first that passes a test

place_first : {X : Type 0} (p : X → Bool) (xs : List X) (i : ℕ) (d : X) → i < length xs → list_any p (take i xs) ≡ false → p (get_or xs i d) ≡ true → position_or_len p xs ≡ i
place_first p [] i d lt none is = absurd (omega arith)
place_first p (x ∷ xs) zero d lt none is = ap (λ b. cond (not b) (1 + position_or_len p xs) 0) is
place_first p (x ∷ xs) (suc i) d lt none is =
    let parts = or_parts (p x) (list_any p (take i xs)) none in
    let rest : position_or_len p xs ≡ i = place_first p xs i d (omega arith) parts.1 is in
    let one : 1 + position_or_len p xs ≡ suc i = omega (arith, rest) in
    ap (λ b. cond (not b) (1 + position_or_len p xs) 0) parts.0 ∙ one

found_at : {X : Type 0} (p : X → Bool) (xs : List X) (i : ℕ) → position_or_len p xs ≡ i → i < length xs → position p xs ≡ Some i
found_at p xs i at lt = (λ j. cond (nat_lt (at j) (length xs)) (Some (at j)) None) ∙ ap (λ b. cond b (Some i) None) (lt-ltb i (length xs) lt)

pub position_first : {X : Type 0} (p : X → Bool) (xs : List X) (i : ℕ) (d : X) → i < length xs → list_any p (take i xs) ≡ false → p (get_or xs i d) ≡ true → position p xs ≡ Some i
position_first p xs i d lt none is = found_at p xs i (place_first p xs i d lt none is) lt

-- a new one that passes, behind others that don't
behind : (b : Bool) (m n k : ℕ) → suc k ≤ cond b (1 + m) 0 → (k ≤ m → n ≡ k) → cond b (1 + n) 0 ≡ suc k
behind true m n k le h = let e : n ≡ k = h (omega (arith, le)) in omega (arith, e)
behind false m n k le h = absurd (omega (arith, le))

place_behind : {X : Type 0} (p : X → Bool) (xs : List X) (y : X) → p y ≡ true → length xs ≤ position_or_len p xs → position_or_len p (xs ++ y ∷ []) ≡ length xs
place_behind p [] y is le = ap (λ b. cond (not b) (1 + 0) 0) is
place_behind p (x ∷ xs) y is le = behind (not (p x)) (position_or_len p xs) (position_or_len p (xs ++ y ∷ [])) (length xs) le (place_behind p xs y is)

past_all : {X : Type 0} (p : X → Bool) (xs : List X) → position p xs ≡ None → length xs ≤ position_or_len p xs
past_all p xs none = absent (nat_lt (position_or_len p xs) (length xs)) refl none
  where
    absent : (b : Bool) → nat_lt (position_or_len p xs) (length xs) ≡ b → cond b (Some (position_or_len p xs)) None ≡ None → length xs ≤ position_or_len p xs
    absent true is none = cc
    absent false is none = grind (arith, common_steps)

pub position_behind : {X : Type 0} (p : X → Bool) (xs : List X) (y : X) → position p xs ≡ None → p y ≡ true → position p (xs ++ y ∷ []) ≡ Some (length xs)
position_behind p xs y none is =
    let more : length (xs ++ y ∷ []) ≡ length xs + 1 = length-append xs (y ∷ []) in
    found_at p (xs ++ y ∷ []) (length xs) (place_behind p xs y is (past_all p xs none)) (omega arith)

-- a test of what each item has
place_map : {X Y : Type 0} (f : X → Y) (p : Y → Bool) (xs : List X) → position_or_len p (map f xs) ≡ position_or_len (λ x. p (f x)) xs
place_map f p [] = refl
place_map f p (x ∷ xs) = ap (λ n. cond (not (p (f x))) (1 + n) 0) (place_map f p xs)

pub position_map : {X Y : Type 0} (f : X → Y) (p : Y → Bool) (xs : List X) → position p (map f xs) ≡ position (λ x. p (f x)) xs
position_map f p xs = λ i. cond (nat_lt (place_map f p xs i) (length-map xs f i)) (Some (place_map f p xs i)) None

-- ---- columns in the order of a key

pub pair_added : (listed columns : List ℕ) (column i : ℕ) (old new : List ℕ) → i < length listed → i < length columns → list_any (λ other. nat_eq other column) (take i listed) ≡ false
    → get_or listed i 0 ≡ column → new ≡ old ++ get_or columns i 0 ∷ [] → IsPairAdded (paired_with listed columns column) old new
pair_added listed columns column i old new lt within none is added =
    let pair : paired_with listed columns column ≡ Some (get_or columns i 0) =
    ap (option_and_then (λ place. slice_get columns place)) (position_first (λ other. nat_eq other column) listed i 0 lt none (eq-eqb (get_or listed i 0) column is)) ∙ slice_get-get_or columns i 0 within in
    ap (map (λ own. Some own)) added ∙ map-append (λ own. Some own) old (get_or columns i 0 ∷ []) ∙ ap (λ o. map (λ own. Some own) old ++ o ∷ []) (sym pair)

pub pairs_next : (f : ℕ → Option ℕ) (key old new : List ℕ) (i : ℕ) → i < length key → map f (take i key) ≡ map (λ own. Some own) old → IsPairAdded (f (get_or key i 0)) old new → map f (take (i + 1) key) ≡ map (λ own. Some own) new
pairs_next f key old new i lt before added = map_more f key i 0 lt ∙ ap (λ l. l ++ f (get_or key i 0) ∷ []) before ∙ sym added

-- ---- what is lent

pub zip_map : {A B C : Type 0} (R : B → C → Type 0) (f : A → B) (xs : List A) (ys : List C) → AllZip (λ x. R (f x)) xs ys → AllZip R (map f xs) ys
zip_map R f [] [] h = h
zip_map R f [] (y ∷ ys) h = h
zip_map R f (x ∷ xs) [] h = h
zip_map R f (x ∷ xs) (y ∷ ys) h = (h.0, zip_map R f xs ys h.1)

-- ---- a base table among others

pub numbered_here : (tables : List FullName) (entries : List (FullName × TableDesc)) (name found : FullName) (t : TableDesc) (n : ℕ) → table_number tables name.user name.name ≡ Some n → slice_get entries n ≡ Some (found, t) → place_of t.body ≡ Base n
    → IsNumbered tables (columns_of entries) name t.columns t.body
numbered_here tables entries name found t n number entry = by_body t.body
  where
    there : slice_get (columns_of entries) n ≡ Some t.columns
    there = slice_get-map (λ (e : FullName × TableDesc). e.1.columns) entries n ∙ ap (option_map (λ (e : FullName × TableDesc). e.1.columns)) entry

    by_body : (b : TableBody) → place_of b ≡ Base n → IsNumbered tables (columns_of entries) name t.columns b
    by_body (body.Base b) at =
        let same : n ≡ b.place = cc in
        (number ∙ ap Some same, ap (slice_get (columns_of entries)) (sym same) ∙ there)
    by_body (body.View v) at = tt

-- a view has no such number
pub view_without : (tables : List FullName) (columns : List (List Column)) (name : FullName) (t : TableDesc) (n : ℕ) → place_of t.body ≡ View n → IsNumbered tables columns name t.columns t.body
view_without tables columns name t n = by_body t.body
  where
    by_body : (b : TableBody) → place_of b ≡ View n → IsNumbered tables columns name t.columns b
    by_body (body.Base b) at = absurd cc
    by_body (body.View v) at = tt

-- the columns as names see them have the names that are written
names_placed : (n : ℕ) (ws : List ColumnDefinition) (columns : List Column) → AllZip IsColumnOf (enumerate_from n ws) columns → map (λ (c : Column). c.name) columns ≡ map (λ (w : ColumnDefinition). w.name) ws
names_placed n [] [] h = refl
names_placed n [] (c ∷ columns) h = absurd h
names_placed n (w ∷ ws) [] h = absurd h
names_placed n (w ∷ ws) (c ∷ columns) h = (λ i. h.0.name i ∷ names_placed (n + 1) ws columns h.1 i)

names_seen : (t : TableDefinition) (columns : List Column) → HasColumnsOf t columns → map (λ (c : Column). c.name) columns ≡ names_written t
names_seen t columns h = names_placed 0 (columns_written t) columns h

-- a table of this name, with these columns, behind those of a catalog
module _ (c : Catalog) (user : Name) (name : FullName) (t : TableDefinition) (columns : List Column) (b : BaseTable)
    (fresh : table_number c.tables name.user name.name ≡ None) (seen : HasColumnsOf t columns) where
  abbrev pub Made : ReferentialConstraint → Reference → Type 0
  Made = IsReferenceOf (number_meant (c.tables ++ name ∷ []) user) (c.columns ++ columns ∷ []) (c.bases ++ b ∷ []) (names_written t)

  own_number : (other : FullName) → other ≡ name → table_number (c.tables ++ name ∷ []) other.user other.name ≡ Some (length c.tables)
  own_number other same =
      (λ i. table_number (c.tables ++ name ∷ []) (same i).user (same i).name)
      ∙ position_behind (is_table name.user name.name) c.tables name fresh
      (and_from (pointwise nat_eq name.user name.user) (pointwise nat_eq name.name name.name) ((bytes_decides name.user name.user).1 refl) ((bytes_decides name.name name.name).1 refl))

  to_body : (w : ReferentialConstraint) (r : Reference) (listed : Option (List ℕ)) (described : List Column) (width : ℕ) (to : TableBody) → IsNumbered c.tables c.columns (named_by user w.to.table) described to → IsBody c.bases width to
      → AreListed (map (λ (c : Column). c.name) described) w.to.columns listed → IsToBody to listed r → StandAt (names_written t) w.columns r.columns → Made w r
  to_body w r listed described width (body.View v) numbered there listed_are to referencing = absurd to
  to_body w r listed described width (body.Base x) numbered there listed_are to referencing =
      let meant = named_by user w.to.table in
      let at : Some x.place ≡ Some r.table = ap Some (sym to.0) in
      record {
        referencing = referencing;
        table = position_kept (is_table meant.user meant.name) c.tables (name ∷ []) x.place numbered.0 ∙ at;
        described = described;
        columns_are = get_more c.columns columns described r.table (ap (slice_get c.columns) to.0 ∙ numbered.1);
        referenced = x;
        base_is = get_more c.bases b x r.table (ap (slice_get c.bases) to.0 ∙ there.0);
        listed = listed;
        listed_are = listed_are;
        to_key = to.1;
      }

  to_found : (w : ReferentialConstraint) (r : Reference) (listed : Option (List ℕ)) (o : Option (Bor TableDesc)) → IsMeant c name (named_by user w.to.table) o → IfSome o (λ d. IsStored c.bases d.now)
      → AreListed (names_in (names_written t) o) w.to.columns listed → IsTo c.bases b.keys b.primary_key o listed r → StandAt (names_written t) w.columns r.columns → Made w r
  to_found w r listed (Some d) meant stored listed_are to referencing = to_body w r listed d.now.columns (length d.now.columns) d.now.body meant stored.body listed_are to referencing
  to_found w r listed None meant stored listed_are to referencing =
      let at : length c.tables ≡ r.table = sym (eqb-true (length c.bases) (length c.tables) c.counted) ∙ sym to.0 in
      record {
        referencing = referencing;
        table = own_number (named_by user w.to.table) meant ∙ ap Some at;
        described = columns;
        columns_are = get_behind c.columns columns r.table (sym at ∙ sym (eqb-true (length c.columns) (length c.tables) c.described));
        referenced = b;
        base_is = get_behind c.bases b r.table to.0;
        listed = listed;
        listed_are = subst (λ names. AreListed names w.to.columns listed) (sym (names_seen t columns seen)) listed_are;
        to_key = to.1;
      }

  made : (w : ReferentialConstraint) (f : FoundReference) (r : Reference) → IsFoundAs c user name (names_written t) w f → IfSome f.earlier (λ d. IsStored c.bases d.now) → IsBound c.bases b.keys b.primary_key f r → Made w r
  made w f r found stored bound =
      to_found w r f.listed f.earlier found.table stored found.listed bound.to (subst (λ places. StandAt (names_written t) w.columns places) (sym bound.columns) found.columns)

  all_made : (width : ℕ) (ws : List ReferentialConstraint) (fs : List FoundReference) (rs : List Reference) → AllZip (IsFoundAs c user name (names_written t)) ws fs → All (IsFound c.bases width) fs
      → AllZip (IsBound c.bases b.keys b.primary_key) fs rs → AllZip Made ws rs
  all_made width [] [] [] found stored bound = tt
  all_made width [] [] (r ∷ rs) found stored bound = absurd bound
  all_made width [] (f ∷ fs) rs found stored bound = absurd found
  all_made width (w ∷ ws) [] rs found stored bound = absurd found
  all_made width (w ∷ ws) (f ∷ fs) [] found stored bound = absurd bound
  all_made width (w ∷ ws) (f ∷ fs) (r ∷ rs) found stored bound = (
    made w f r found.0 (All-head (IsFound c.bases width) f fs stored).stored bound.0,
    all_made width ws fs rs found.1 (All-tail (IsFound c.bases width) f fs stored) bound.1,
  )

-- the references of a table that is made
pub references_made : {E : Type 0} (r : Result (TableDesc × BaseTable) E) (c : Catalog) (user : Name) (name : FullName) (t : TableDefinition) (ws : List ColumnDefinition) (keys : Keys) (primary : Option ℕ) (width : ℕ) (fs : List FoundReference)
    → ws ≡ columns_written t → OnOk r (name.user ≡ user) → IfOk r (λ new. AreColumnsOf ws new.0.columns) → IfOk r (λ new. new.1.keys ≡ keys) → IfOk r (λ new. new.1.primary_key ≡ primary)
    → AllZip (IsFoundAs c user name (names_written t)) (references_written t) fs → All (IsFound c.bases width) fs → IfOk r (λ new. AllZip (IsBound c.bases keys primary) fs new.1.references)
    → IfOk r (λ new. IsNewName c name → MakesReferences c name t new.0.columns new.1)
references_made (Err e) c user name t ws keys primary width fs written own seen keys_are primary_is found stored bound = tt
references_made (Ok new) c user name t ws keys primary width fs written own seen keys_are primary_is found stored bound = λ fresh.
    let to_keys : AllZip (IsBound c.bases new.1.keys new.1.primary_key) fs new.1.references =
    subst (λ own_keys. AllZip (IsBound c.bases own_keys new.1.primary_key) fs new.1.references) (sym keys_are)
    (subst (λ own_primary. AllZip (IsBound c.bases keys own_primary) fs new.1.references) (sym primary_is) bound) in
    subst (λ schema. HasReferencesOf (number_meant (c.tables ++ name ∷ []) schema) (c.columns ++ new.0.columns ∷ []) (c.bases ++ new.1 ∷ []) t new.1) (sym own)
    (all_made c user name t new.0.columns new.1 fresh.0 (subst (λ l. AreColumnsOf l new.0.columns) written seen) width (references_written t) fs new.1.references found stored to_keys)

-- ---- base tables behind these

module _ (tables more_tables : List FullName) (columns more_columns : List (List Column)) (bases more_bases : List BaseTable) where
  reference_kept : (user : Name) (own : List Name) (w : ReferentialConstraint) (r : Reference) → IsReferenceOf (number_meant tables user) columns bases own w r
      → IsReferenceOf (number_meant (tables ++ more_tables) user) (columns ++ more_columns) (bases ++ more_bases) own w r
  reference_kept user own w r h =
      let meant = named_by user w.to.table in
      record {
        referencing = h.referencing;
        table = position_kept (is_table meant.user meant.name) tables more_tables r.table h.table;
        described = h.described;
        columns_are = slice_kept columns more_columns r.table h.described h.columns_are;
        referenced = h.referenced;
        base_is = slice_kept bases more_bases r.table h.referenced h.base_is;
        listed = h.listed;
        listed_are = h.listed_are;
        to_key = h.to_key;
      }

  have_kept : (names : List FullName) (ts : List TableDefinition) (bs : List BaseTable) → HaveReferences tables columns bases names ts bs → HaveReferences (tables ++ more_tables) (columns ++ more_columns) (bases ++ more_bases) names ts bs
  have_kept [] [] [] h = tt
  have_kept [] [] (b ∷ bs) h = absurd h
  have_kept [] (t ∷ ts) bs h = absurd h
  have_kept (name ∷ names) [] bs h = absurd h
  have_kept (name ∷ names) (t ∷ ts) [] h = absurd h
  have_kept (name ∷ names) (t ∷ ts) (b ∷ bs) h = (
    zip_weaker (IsReferenceOf (number_meant tables name.user) columns bases (names_written t)) (IsReferenceOf (number_meant (tables ++ more_tables) name.user) (columns ++ more_columns) (bases ++ more_bases) (names_written t))
        (λ w r one. reference_kept name.user (names_written t) w r one) (references_written t) b.references h.0,
    have_kept names ts bs h.1,
  )

-- references of a catalog are still references in one with more tables
pub have_still : (a b : Catalog) (added : List FullName) (columns : List (List Column)) (bases : List BaseTable) → Adds a b added columns bases → (names : List FullName) (ts : List TableDefinition) (bs : List BaseTable)
    → HaveReferences a.tables a.columns a.bases names ts bs → HaveReferences b.tables b.columns b.bases names ts bs
have_still a b added columns bases adds names ts bs h =
    subst (λ all. HaveReferences all b.columns b.bases names ts bs) (sym adds.tables)
    (subst (λ all. HaveReferences (a.tables ++ added) all b.bases names ts bs) (sym adds.columns)
    (subst (λ all. HaveReferences (a.tables ++ added) (a.columns ++ columns) all names ts bs) (sym adds.bases) (have_kept a.tables added a.columns columns a.bases bases names ts bs h)))

module _ (tables : List FullName) (columns : List (List Column)) (all : List BaseTable) where
  pub have_append : (names more : List FullName) (ts other : List TableDefinition) (bs others : List BaseTable) → HaveReferences tables columns all names ts bs → HaveReferences tables columns all more other others
      → HaveReferences tables columns all (names ++ more) (ts ++ other) (bs ++ others)
  have_append [] more [] other [] others h k = k
  have_append [] more [] other (b ∷ bs) others h k = absurd h
  have_append [] more (t ∷ ts) other bs others h k = absurd h
  have_append (name ∷ names) more [] other bs others h k = absurd h
  have_append (name ∷ names) more (t ∷ ts) other [] others h k = absurd h
  have_append (name ∷ names) more (t ∷ ts) other (b ∷ bs) others h k = (h.0, have_append names more ts other bs others h.1 k)
