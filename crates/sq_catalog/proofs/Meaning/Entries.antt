-- What stands under a name is what the definitions look up.
use Rattle.std.proofs.Common.{◌≡◌, ℕ, suc, ◌+◌, Bool, true, false, ◌&&◌, List, [], ◌∷◌, ◌++◌, find, flat_map, length, length-append, Option, Some, None, Result, Ok, Err, refl, sym, ap, subst, ◌∙◌, arith}
use Rattle.std.proofs.lemmas.Grind.{flat_map-append}
use Rattle.std.proofs.lemmas.List.{append-nil}
use Rattle.std.specs.Map.{lookup}
use Rattle.std.specs.Option.{option_map, option_or}
use Rattle.std.specs.Prelude.{cond, nat_le, not}
use Rattle.std.specs.Result.{OnOk}
use Rattle.std.proofs.lemmas.Cmp.{nat_list_eq_equiv}
use Rattle.sq_lex.specs.declared.name.Name.{Name}
use Rattle.sq_meaning.specs.Environment.{TableName, same_table}
use Rattle.sq_meaning.specs.SchemaRefusal.{same_user}
use Rattle.sq_meaning.specs.declared.refusal.SchemaFault.TheVariants as fault
use Rattle.sq_bound.specs.Fits.{IsBase}
use Rattle.sq_bound.specs.WellFormed.{place_of}
use Rattle.sq_bound.specs.declared.condition.TablePlace.TheVariants.{Base, View}
use Rattle.sq_bound.specs.declared.names.BaseTable.{BaseTable}
use Rattle.sq_bound.specs.declared.names.TableBody.{TableBody}
use Rattle.sq_bound.specs.declared.names.TableBody.TheVariants as body
use Rattle.sq_bound.specs.declared.names.TableDesc.{TableDesc}
use Rattle.sq_binding.specs.Catalog as definition
use Rattle.sq_binding.specs.Catalog.{DeclaredBase, DeclaredView, Entry, Grant, entry}
use Rattle.sq_binding.specs.Catalog.{table_count}
use Rattle.sq_binding.specs.ElementOutcome.{Outcome, and_then, refused_if}
use Rattle.sq_binding.specs.Table.{has_place, most_tables, with_base}
use Rattle.sq_binding.proofs.Schemas.Names.{table_same}
use Rattle.sq_catalog.specs.Catalog.{Catalog, is_table}
use Rattle.sq_catalog.specs.Exact.{base_declared, base_in, bases_declared, declared, described, entry_declared, entry_with, name_in, view_declared, view_in, views_declared}
use Rattle.sq_catalog.specs.Fault.{Passes}
use Rattle.sq_catalog.specs.Stored.{IsBody, IsNext, StandFrom}
use Rattle.sq_catalog.specs.declared.catalog.FullName.{FullName}
use Rattle.sq_catalog.specs.declared.fault.ElementFault.{ElementFault}
use Rattle.sq_catalog.proofs.OneByOne.Listed.{get_behind}

-- ---- names, asked from either side

pub asked : (name e : FullName) → same_table (name_in e) (name_in name) ≡ is_table name.user name.name e
asked name e = λ i. nat_list_eq_equiv.symm e.user name.user i && nat_list_eq_equiv.symm e.name name.name i

full_same : (e name : FullName) → same_table (name_in e) (name_in name) ≡ true → e ≡ name
full_same e name h = let same = table_same (name_in e) (name_in name) h in λ i. record { user = (same i).user; name = (same i).name }

-- ---- base tables, and views

module _ (name : FullName) where
  abbrev is_it : FullName → Bool
  is_it e = is_table name.user name.name e

  base_first : (e : FullName × TableDesc) (es : List (FullName × TableDesc)) (n : ℕ) (b : TableBody) → (e.1).body ≡ b → place_of b ≡ Base n
      → option_map Entry.base (find (λ (d : DeclaredBase). same_table d.name (name_in name)) (bases_declared es)) ≡ option_map (entry_declared name) (lookup is_it es)
      → option_map Entry.base (find (λ (d : DeclaredBase). same_table d.name (name_in name)) (base_in e b ++ bases_declared es)) ≡ option_map (entry_declared name) (cond (is_it e.0) (Some e.1) (lookup is_it es))
  base_first e es n (body.View v) is at rest = absurd cc
  base_first e es n (body.Base b) is at rest =
      chosen (same_table (name_in e.0) (name_in name)) refl ∙ ap (λ r. option_map (entry_declared name) (cond r (Some e.1) (lookup is_it es))) (asked name e.0)
    where
      chosen : (r : Bool) → same_table (name_in e.0) (name_in name) ≡ r
          → option_map Entry.base (cond r (Some (base_declared e.0 (e.1).columns b)) (find (λ (d : DeclaredBase). same_table d.name (name_in name)) (bases_declared es))) ≡ option_map (entry_declared name) (cond r (Some e.1) (lookup is_it es))
      chosen true h = ap (λ (m : FullName). Some (entry_with m e.1 (body.Base b))) (full_same e.0 name h) ∙ ap (λ (x : TableBody). Some (entry_with name e.1 x)) (sym is)
      chosen false h = rest

  bases_looked_up : (n : ℕ) (es : List (FullName × TableDesc)) → StandFrom Base n es → option_map Entry.base (find (λ (d : DeclaredBase). same_table d.name (name_in name)) (bases_declared es)) ≡ option_map (entry_declared name) (lookup is_it es)
  bases_looked_up n [] h = refl
  bases_looked_up n (e ∷ es) h = base_first e es n (e.1).body refl h.0 (bases_looked_up (suc n) es h.1)

  view_first : (e : FullName × TableDesc) (es : List (FullName × TableDesc)) (n : ℕ) (b : TableBody) → (e.1).body ≡ b → place_of b ≡ View n
      → option_map Entry.view (find (λ (d : DeclaredView). same_table d.name (name_in name)) (views_declared es)) ≡ option_map (entry_declared name) (lookup is_it es)
      → option_map Entry.view (find (λ (d : DeclaredView). same_table d.name (name_in name)) (view_in e b ++ views_declared es)) ≡ option_map (entry_declared name) (cond (is_it e.0) (Some e.1) (lookup is_it es))
  view_first e es n (body.Base b) is at rest = absurd cc
  view_first e es n (body.View v) is at rest =
      chosen (same_table (name_in e.0) (name_in name)) refl ∙ ap (λ r. option_map (entry_declared name) (cond r (Some e.1) (lookup is_it es))) (asked name e.0)
    where
      chosen : (r : Bool) → same_table (name_in e.0) (name_in name) ≡ r
          → option_map Entry.view (cond r (Some (view_declared e.0 e.1 v)) (find (λ (d : DeclaredView). same_table d.name (name_in name)) (views_declared es))) ≡ option_map (entry_declared name) (cond r (Some e.1) (lookup is_it es))
      chosen true h = ap (λ (m : FullName). Some (entry_with m e.1 (body.View v))) (full_same e.0 name h) ∙ ap (λ (x : TableBody). Some (entry_with name e.1 x)) (sym is)
      chosen false h = rest

  views_looked_up : (n : ℕ) (es : List (FullName × TableDesc)) → StandFrom View n es → option_map Entry.view (find (λ (d : DeclaredView). same_table d.name (name_in name)) (views_declared es)) ≡ option_map (entry_declared name) (lookup is_it es)
  views_looked_up n [] h = refl
  views_looked_up n (e ∷ es) h = view_first e es n (e.1).body refl h.0 (views_looked_up (suc n) es h.1)

-- ---- the catalog's

either : {A B : Type 0} (f : A → B) (o p : Option A) → option_or (option_map f o) (option_map f p) ≡ option_map f (option_or o p)
either f None p = refl
either f (Some x) p = refl

pub entry_exact : (c : Catalog) (name : FullName) → StandFrom Base 0 c.base_entries → StandFrom View 0 c.view_entries → entry (declared c) (name_in name) ≡ option_map (entry_declared name) (described c (name_in name))
entry_exact c name bases views =
    (λ i. option_or (bases_looked_up name 0 c.base_entries bases i) (views_looked_up name 0 c.view_entries views i))
    ∙ either (entry_declared name) (lookup (is_table name.user name.name) c.base_entries) (lookup (is_table name.user name.name) c.view_entries)

-- ---- how many there are

one_base : (e : FullName × TableDesc) (n : ℕ) (b : TableBody) → place_of b ≡ Base n → length (base_in e b) ≡ 1
one_base e n (body.Base b) h = refl
one_base e n (body.View v) h = absurd cc

pub bases_counted : (n : ℕ) (es : List (FullName × TableDesc)) → StandFrom Base n es → length (bases_declared es) ≡ length es
bases_counted n [] h = refl
bases_counted n (e ∷ es) h =
    let both : length (bases_declared (e ∷ es)) ≡ length (base_in e (e.1).body) + length (bases_declared es) = length-append (base_in e (e.1).body) (bases_declared es) in
    let one : length (base_in e (e.1).body) ≡ 1 = one_base e n (e.1).body h.0 in
    let rest : length (bases_declared es) ≡ length es = bases_counted (suc n) es h.1 in
    omega (arith, both, one, rest)

one_view : (e : FullName × TableDesc) (n : ℕ) (b : TableBody) → place_of b ≡ View n → length (view_in e b) ≡ 1
one_view e n (body.View v) h = refl
one_view e n (body.Base b) h = absurd cc

pub views_counted : (n : ℕ) (es : List (FullName × TableDesc)) → StandFrom View n es → length (views_declared es) ≡ length es
views_counted n [] h = refl
views_counted n (e ∷ es) h =
    let both : length (views_declared (e ∷ es)) ≡ length (view_in e (e.1).body) + length (views_declared es) = length-append (view_in e (e.1).body) (views_declared es) in
    let one : length (view_in e (e.1).body) ≡ 1 = one_view e n (e.1).body h.0 in
    let rest : length (views_declared es) ≡ length es = views_counted (suc n) es h.1 in
    omega (arith, both, one, rest)

-- ---- one behind the others

pub bases_behind : (es : List (FullName × TableDesc)) (e : FullName × TableDesc) → bases_declared (es ++ e ∷ []) ≡ bases_declared es ++ base_in e (e.1).body
bases_behind es e = flat_map-append (λ (e : FullName × TableDesc). base_in e (e.1).body) es (e ∷ []) ∙ ap (λ l. bases_declared es ++ l) (append-nil (base_in e (e.1).body))

pub views_behind : (es : List (FullName × TableDesc)) (e : FullName × TableDesc) → views_declared (es ++ e ∷ []) ≡ views_declared es ++ view_in e (e.1).body
views_behind es e = flat_map-append (λ (e : FullName × TableDesc). view_in e (e.1).body) es (e ∷ []) ∙ ap (λ l. views_declared es ++ l) (append-nil (view_in e (e.1).body))

-- ---- a base table that is put behind the others

same_base : (bases : List BaseTable) (b own : BaseTable) → own.place ≡ length bases → IsBase (bases ++ b ∷ []) own → own ≡ b
same_base bases b own place h = let same : Some own ≡ Some b = sym h ∙ get_behind bases b own.place place in cc

only_it : (name : FullName) (t : TableDesc) (bases : List BaseTable) (b : BaseTable) (columns : ℕ) (x : TableBody) → IsBody (bases ++ b ∷ []) columns x → place_of x ≡ Base (length bases) → base_in (name, t) x ≡ base_declared name t.columns b ∷ []
only_it name t bases b columns (body.Base own) h at = let place : own.place ≡ length bases = cc in ap (λ (y : BaseTable). base_declared name t.columns y ∷ []) (same_base bases b own place h.0)
only_it name t bases b columns (body.View v) h at = absurd cc

pub base_put : {E : Type 0} (r : Result (Unit {0}) E) (old new : List (FullName × TableDesc)) (d : definition.Catalog) (users : List Name) (views : List DeclaredView) (grants : List Grant) (was : List BaseTable) (name : FullName) (t : TableDesc) (b : BaseTable)
    → OnOk r (new ≡ old ++ (name, t) ∷ []) → record { users = users; bases = bases_declared old; views = views; grants = grants } ≡ d → IsNext was name t b
    → OnOk r (record { users = users; bases = bases_declared new; views = views; grants = grants } ≡ with_base d (base_declared name t.columns b))
base_put (Ok u) old new d users views grants was name t b added is next =
    let all : bases_declared new ≡ bases_declared old ++ base_declared name t.columns b ∷ [] =
    ap bases_declared added ∙ bases_behind old (name, t) ∙ ap (λ l. bases_declared old ++ l) (only_it name t was b (length t.columns) t.body next.stored.body next.place) in
    (λ i. record { users = users; bases = all i; views = views; grants = grants }) ∙ ap (λ (d : definition.Catalog). with_base d (base_declared name t.columns b)) is
base_put (Err e) old new d users views grants was name t b added is next = tt

-- what is found under a name, where these are the tables and the views
module _ (c : Catalog) (bases views : List (FullName × TableDesc)) (bases_are : bases ≡ c.base_entries) (views_are : views ≡ c.view_entries) where
  pub described_at : (name : FullName) (o : Option TableDesc) → o ≡ option_or (lookup (is_table name.user name.name) bases) (lookup (is_table name.user name.name) views) → o ≡ described c (name_in name)
  described_at name o is = is ∙ λ i. option_or (lookup (is_table name.user name.name) (bases_are i)) (lookup (is_table name.user name.name) (views_are i))

  pub entry_at : StandFrom Base 0 bases → StandFrom View 0 views → (name : FullName) (o : Option TableDesc) → o ≡ option_or (lookup (is_table name.user name.name) bases) (lookup (is_table name.user name.name) views)
      → option_map (entry_declared name) o ≡ entry (declared c) (name_in name)
  entry_at stand_bases stand_views name o is =
      ap (option_map (entry_declared name)) (described_at name o is)
      ∙ sym (entry_exact c name (subst (StandFrom Base 0) bases_are stand_bases) (subst (StandFrom View 0) views_are stand_views))

-- ---- where a table or view may stand

pub place_asked : (c : definition.Catalog) (user : Name) (t : TableName) (is_other is_full : Bool) (r : Result (Unit {0}) ElementFault) → is_other ≡ not (same_user user t) → is_full ≡ nat_le most_tables (table_count c)
    → refused_if fault.OtherSchema is_other ≡ Ok tt → Passes (refused_if fault.TooManyTables is_full) r → Passes (has_place c user t) r
place_asked c user t is_other is_full r other full passed h =
    let room : Outcome (Unit {0}) = refused_if fault.TooManyTables (nat_le most_tables (table_count c)) in
    subst (λ (o : Outcome (Unit {0})). Passes (and_then o (λ x. room)) r) (sym passed ∙ ap (refused_if fault.OtherSchema) other) (subst (λ b. Passes (refused_if fault.TooManyTables b) r) full h)
