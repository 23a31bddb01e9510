-- Base tables and views of a catalog, in the order of the texts. The table that an element adds comes after the others, and the others stay
-- unchanged (ISO/IEC 9075:1992, 11.1, 11.3 and 11.19).
use Rattle.std.proofs.Common.{◌≡◌, ℕ, suc, ◌+◌, Bool, true, false, ◌&&◌, List, [], ◌∷◌, ◌++◌, arith, length, map, Some, Ok, Err, refl, sym, ap, subst, ◌∙◌}
use Rattle.std.proofs.lemmas.Grind.{reverse_onto}
use Rattle.std.proofs.lemmas.List.{map-append}
use Rattle.std.specs.List.{AllZip, enumerate_from, filter_map, list_all, zip}
use Rattle.std.specs.Prelude.{◌==◌, if◌then◌else◌}
use Rattle.std.proofs.lemmas.Bool.{and_parts}
use Rattle.sq_lex.specs.declared.name.Name.{Name}
use Rattle.sq_tree.specs.declared.schema.SchemaElement.TheVariants as element
use Rattle.sq_tree.specs.declared.schema.TableDefinition.{TableDefinition}
use Rattle.sq_tree.specs.declared.schema.ViewDefinition.{ViewDefinition}
use Rattle.sq_meaning.specs.Environment.{TableName}
use Rattle.sq_meaning.specs.Spelled.{table_of}
use Rattle.sq_meaning.specs.Target.{places_of}
use Rattle.sq_meaning.specs.Schema as rules
use Rattle.sq_meaning.specs.Schema.{Elements, base_table_of, table_columns}
use Rattle.sq_meaning.specs.SchemaRefusal.{with_element}
use Rattle.sq_meaning.specs.declared.refusal.SchemaFault.TheVariants as fault
use Rattle.sq_bound.specs.declared.names.Reference.{Reference}
use Rattle.sq_binding.specs.Catalog.{Catalog, DeclaredBase, DeclaredView, Entry, entry}
use Rattle.sq_binding.specs.ElementOutcome.{Outcome, and_then, or_fault}
use Rattle.sq_binding.specs.Reference.{BoundReference, FoundReference, ReferencedKey, ReferencedTable, are_paired, as_referenced, bound_reference, may_reference, names_at, paired_reference, reference_to, referenced_key, referenced_table}
use Rattle.sq_binding.proofs.Schemas.Answers.{or_fault_ok, steps_of}
use Rattle.sq_binding.proofs.Schemas.KnownTables.{AreListed, IsBaseTable, IsMadeOf, IsReferenceTo, IsViewOf, view_in, views_written}
use Rattle.sq_binding.proofs.Schemas.Names.{IsPlaced}

-- ---- lists side by side

pub zip_behind : {A B : Type 0} (R : A → B → Type 0) (xs : List A) (ys : List B) (x : A) (y : B) → AllZip R xs ys → R x y → AllZip R (xs ++ x ∷ []) (ys ++ y ∷ [])
zip_behind R [] [] x y h r = (r, tt)
zip_behind R [] (z ∷ ys) x y h r = absurd h
zip_behind R (z ∷ xs) [] x y h r = absurd h
zip_behind R (w ∷ xs) (z ∷ ys) x y h r = (h.0, zip_behind R xs ys x y h.1 r)

pub zip_weaker : {A B : Type 0} (R S : A → B → Type 0) → ((x : A) (y : B) → R x y → S x y) → (xs : List A) (ys : List B) → AllZip R xs ys → AllZip S xs ys
zip_weaker R S f [] [] h = tt
zip_weaker R S f [] (y ∷ ys) h = absurd h
zip_weaker R S f (x ∷ xs) [] h = absurd h
zip_weaker R S f (x ∷ xs) (y ∷ ys) h = (f x y h.0, zip_weaker R S f xs ys h.1)

-- ---- places

places_behind : {A : Type 0} (n : ℕ) (xs : List A) (x : A) → map (λ p. p.0) (enumerate_from n (xs ++ x ∷ [])) ≡ map (λ p. p.0) (enumerate_from n xs) ++ (n + length xs) ∷ []
places_behind n [] x = let same : n ≡ n + 0 = omega arith in ap (λ m. m ∷ []) same
places_behind n (y ∷ xs) x =
    let same : (n + 1) + length xs ≡ n + suc (length xs) = omega arith in
    ap (λ l. n ∷ l) (places_behind (n + 1) xs x ∙ ap (λ m. map (λ p. p.0) (enumerate_from (n + 1) xs) ++ m ∷ []) same)

pub placed_behind : {A : Type 0} (place : A → ℕ) (xs : List A) (x : A) → map place xs ≡ places_of xs → place x ≡ length xs → map place (xs ++ x ∷ []) ≡ places_of (xs ++ x ∷ [])
placed_behind place xs x are is =
    let first : length xs ≡ 0 + length xs = omega arith in
    map-append place xs (x ∷ []) ∙ (λ i. are i ++ (is ∙ first) i ∷ []) ∙ sym (places_behind 0 xs x)

-- ---- what stays

-- names that mean something still mean it
abbrev pub StillNamed : Catalog → Catalog → Type 0
StillNamed c d = (name : TableName) (e : Entry) → entry c name ≡ Some e → entry d name ≡ Some e

module _ (c d : Catalog) (still : StillNamed c d) where
  reference_stays : (user : Name) (names : List Name) (r : rules.Reference) (x : Reference) → IsReferenceTo c user names r x → IsReferenceTo d user names r x
  reference_stays user names r x h = record {
    target = h.target;
    there = still (table_of user r.references.table) (Entry.base h.target) h.there;
    referencing = h.referencing;
    list = h.list;
    listed_are = h.listed_are;
    key = h.key;
    key_is = h.key_is;
    as_many = h.as_many;
    is = h.is;
  }

  pub base_stays : (t : rules.BaseTable) (b : DeclaredBase) → IsBaseTable c t b → IsBaseTable d t b
  base_stays t b h = record {
    name = h.name;
    is_of = h.is_of;
    checks = h.checks;
    references =
        zip_weaker (IsReferenceTo c t.name.user (table_columns t.definition)) (IsReferenceTo d t.name.user (table_columns t.definition)) (reference_stays t.name.user (table_columns t.definition)) (rules.table_references t.definition) b.references h.references;
  }

  pub view_stays : (w : _) (v : DeclaredView) → IsViewOf c w v → IsViewOf d w v
  view_stays w v h = record { earlier = h.earlier; new = h.new; made = h.made; is = h.is; still = λ name e at. still name e (h.still name e at) }

-- ---- what is added

-- a catalog with the same base tables and views
pub made_still : (before : Elements) (c d : Catalog) → d.bases ≡ c.bases → d.views ≡ c.views → StillNamed c d → IsMadeOf before c → IsMadeOf before d
made_still before c d bases views still h = record {
  bases = subst (AllZip (IsBaseTable d) (rules.base_tables before)) (sym bases) (zip_weaker (IsBaseTable c) (IsBaseTable d) (base_stays c d still) (rules.base_tables before) c.bases h.bases);
  base_places = subst (λ bs. map (λ (b : DeclaredBase). b.place) bs ≡ places_of bs) (sym bases) h.base_places;
  views = subst (AllZip (IsViewOf d) (views_written before)) (sym views) (zip_weaker (IsViewOf c) (IsViewOf d) (view_stays c d still) (views_written before) c.views h.views);
  view_places = subst (λ vs. map (λ (v : DeclaredView). v.place) vs ≡ places_of vs) (sym views) h.view_places;
}

-- one more base table
pub made_with_base : (before : Elements) (user : Name) (t : TableDefinition) (c d : Catalog) (b : DeclaredBase) → d.bases ≡ c.bases ++ b ∷ [] → d.views ≡ c.views → StillNamed c d → b.place ≡ length c.bases
    → IsBaseTable d (record { name = table_of user t.name; definition = t }) b → IsMadeOf before c → IsMadeOf (with_element before user (element.Table t)) d
made_with_base before user t c d b bases views still place is h = record {
  bases =
      subst (λ ts. AllZip (IsBaseTable d) ts d.bases) (sym (reverse_onto (filter_map (λ e. base_table_of e.user e.element) before) (record { name = table_of user t.name; definition = t }) []))
      (subst (AllZip (IsBaseTable d) (rules.base_tables before ++ record { name = table_of user t.name; definition = t } ∷ [])) (sym bases)
      (zip_behind (IsBaseTable d) (rules.base_tables before) c.bases (record { name = table_of user t.name; definition = t }) b (zip_weaker (IsBaseTable c) (IsBaseTable d) (base_stays c d still) (rules.base_tables before) c.bases h.bases) is));
  base_places = subst (λ bs. map (λ (b : DeclaredBase). b.place) bs ≡ places_of bs) (sym bases) (placed_behind (λ b. b.place) c.bases b h.base_places place);
  views = subst (AllZip (IsViewOf d) (views_written before)) (sym views) (zip_weaker (IsViewOf c) (IsViewOf d) (view_stays c d still) (views_written before) c.views h.views);
  view_places = subst (λ vs. map (λ (v : DeclaredView). v.place) vs ≡ places_of vs) (sym views) h.view_places;
}

-- one more view
pub made_with_view : (before : Elements) (user : Name) (w : ViewDefinition) (c d : Catalog) (v : DeclaredView) → d.bases ≡ c.bases → d.views ≡ c.views ++ v ∷ [] → StillNamed c d → v.place ≡ length c.views
    → IsViewOf d (record { user = user; definition = w }) v → IsMadeOf before c → IsMadeOf (with_element before user (element.View w)) d
made_with_view before user w c d v bases views still place is h = record {
  bases = subst (AllZip (IsBaseTable d) (rules.base_tables before)) (sym bases) (zip_weaker (IsBaseTable c) (IsBaseTable d) (base_stays c d still) (rules.base_tables before) c.bases h.bases);
  base_places = subst (λ bs. map (λ (b : DeclaredBase). b.place) bs ≡ places_of bs) (sym bases) h.base_places;
  views =
      subst (λ ws. AllZip (IsViewOf d) ws d.views) (sym (reverse_onto (filter_map (λ e. view_in e.user e.element) before) (record { user = user; definition = w }) []))
      (subst (AllZip (IsViewOf d) (views_written before ++ record { user = user; definition = w } ∷ [])) (sym views)
      (zip_behind (IsViewOf d) (views_written before) c.views (record { user = user; definition = w }) v (zip_weaker (IsViewOf c) (IsViewOf d) (view_stays c d still) (views_written before) c.views h.views) is));
  view_places = subst (λ vs. map (λ (v : DeclaredView). v.place) vs ≡ places_of vs) (sym views) (placed_behind (λ v. v.place) c.views v h.view_places place);
}

-- ---- a reference that is made

module _ (c : Catalog) (user : Name) (own : ReferencedTable) (f : FoundReference) where
  abbrev after_pair : ReferencedTable → ReferencedKey → Reference → Outcome BoundReference
  after_pair target key reference = Ok (record { reference = reference; is_permitted = may_reference c user f.earlier (names_at target.names key.columns_listed) })

  abbrev after_key : ReferencedTable → ReferencedKey → Outcome BoundReference
  after_key target key = and_then (paired_reference own.kinds f.columns target key) (after_pair target key)

  abbrev after_target : ReferencedTable → Outcome BoundReference
  after_target target = and_then (or_fault fault.BadReference (referenced_key target f.columns_listed)) (after_key target)

  -- The table and the key that it is to, and how its columns pair.
  pub record IsTo (y : BoundReference) : Type 0 where
    pub target : ReferencedTable
    pub target_is : referenced_table own f.earlier ≡ Ok target
    pub key : ReferencedKey
    pub key_is : referenced_key target f.columns_listed ≡ Some key
    pub as_many : (length f.columns == length key.columns_listed) ≡ true
    pub is : y.reference ≡ reference_to target key f.columns

  paired : (target : ReferencedTable) (key : ReferencedKey) (pairs : Bool) (z : Reference) → (if pairs then Ok (reference_to target key f.columns) else Err fault.BadReference) ≡ Ok z → (pairs ≡ true) × (z ≡ reference_to target key f.columns)
  paired target key true z e = let same : reference_to target key f.columns ≡ z = cc in (refl, sym same)
  paired target key false z e = cc

  pub reference_is_to : (y : BoundReference) → bound_reference c user own f ≡ Ok y → IsTo y
  reference_is_to y bound =
      let target = steps_of (referenced_table own f.earlier) after_target y bound in
      let key = steps_of (or_fault fault.BadReference (referenced_key target.step f.columns_listed)) (after_key target.step) y target.second in
      let pair = steps_of (paired_reference own.kinds f.columns target.step key.step) (after_pair target.step key.step) y key.second in
      let last = pair.second in
      let made : record { reference = pair.step; is_permitted = may_reference c user f.earlier (names_at target.step.names key.step.columns_listed) } ≡ y = cc in
      let is = paired target.step key.step (length f.columns == length key.step.columns_listed && list_all (are_paired own.kinds target.step.kinds) (zip f.columns key.step.columns_listed)) pair.step pair.first in
      record {
        target = target.step;
        target_is = target.first;
        key = key.step;
        key_is = or_fault_ok fault.BadReference (referenced_key target.step f.columns_listed) key.step key.first;
        as_many = (and_parts (length f.columns == length key.step.columns_listed) (list_all (are_paired own.kinds target.step.kinds) (zip f.columns key.step.columns_listed)) is.0).0;
        is = ap (λ (y : BoundReference). y.reference) (sym made) ∙ is.1;
      }

-- a reference is made to the base table that the catalog knows under the name
pub reference_made : (c d : Catalog) (user : Name) (own : ReferencedTable) (names : List Name) (f : FoundReference) (r : rules.Reference) (y : BoundReference) (to : IsTo c user own f y) (b : DeclaredBase) → as_referenced b ≡ to.target
    → entry d (table_of user r.references.table) ≡ Some (Entry.base b) → AllZip (IsPlaced names) r.columns f.columns → AreListed (map (λ c. c.name) b.columns) r.references.columns f.columns_listed → IsReferenceTo d user names r y.reference
reference_made c d user own names f r y to b same there referencing listed = record {
  target = b;
  there = there;
  referencing = subst (λ (x : Reference). AllZip (IsPlaced names) r.columns x.columns) (sym to.is) referencing;
  list = f.columns_listed;
  listed_are = listed;
  key = to.key;
  key_is = ap (λ t. referenced_key t f.columns_listed) same ∙ to.key_is;
  as_many = ap (λ (x : Reference). length x.columns == length to.key.columns_listed) to.is ∙ to.as_many;
  is = to.is ∙ ap (λ t. reference_to t to.key f.columns) (sym same) ∙ ap (λ (x : Reference). reference_to (as_referenced b) to.key x.columns) (sym to.is);
}
