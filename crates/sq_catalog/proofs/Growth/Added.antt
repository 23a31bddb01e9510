-- A base table that was added with the table as names see it, or neither; and tables that are read by place.
use Rattle.std.proofs.Common.{◌≡◌, ℕ, zero, suc, ◌+◌, ◌<◌, true, nat_eq, eq-eqb, length, List, [], ◌∷◌, ◌++◌, Option, Some, None, Result, Ok, Err, refl, ap, sym, subst, ◌∙◌, arith}
use Rattle.std.specs.List.{slice_get}
use Rattle.std.specs.Map.{keys_of}
use Rattle.std.specs.Option.{IfSome, IsSome}
use Rattle.std.specs.Result.{OnErr, OnOk}
use Rattle.std.specs.Borrow.{Bor}
use Rattle.std.proofs.lemmas.List.{length-map}
use Rattle.std.proofs.lemmas.Option.{some_pair_parts}
use Rattle.indexmap.proofs.SetLemmas.{AllZip-push}
use Rattle.sq_meaning.specs.WellFormed.{HasValue}
use Rattle.sq_bound.specs.Fits.{all_refer}
use Rattle.sq_bound.specs.WellFormed.{IsTable, base_kinds, kinds_of_columns, kinds_of_select, place_of}
use Rattle.sq_bound.specs.declared.condition.BoundSpecification.{BoundSpecification}
use Rattle.sq_bound.specs.declared.condition.TablePlace.{TablePlace}
use Rattle.sq_bound.specs.declared.condition.TablePlace.TheVariants.{Base, View}
use Rattle.sq_bound.specs.declared.names.BaseTable.{BaseTable}
use Rattle.sq_bound.specs.declared.names.TableDesc.{TableDesc}
use Rattle.sq_catalog.specs.Catalog.{AreViewQueries, Catalog, bases_there, column_kinds, kinds_at, known_there, there_within}
use Rattle.sq_catalog.specs.Stored.{AreDescribed, AreNamed, AreStored, AreTables, IsNamed, IsNext, IsNextView, IsStored, StandFrom, StandsAt, queries_of}
use Rattle.sq_catalog.proofs.CreateView.ViewQueries.{queries_long, stand_all}
use Rattle.sq_catalog.specs.declared.catalog.FullName.{FullName}
use Rattle.sq_catalog.proofs.Growth.Extending.{tables_more}
use Rattle.sq_catalog.proofs.OneByOne.Listed.{all_with}
use Rattle.sq_catalog.proofs.Growth.Stored.{all_stored_added, refer_more}

-- what base tables and their entries are, and still are with one more of both
both_added : {F : Type 0} (P : List BaseTable → List (FullName × TableDesc) → Type 0) (r : Result (Unit {0}) F) (bs bs' : List BaseTable) (es es' : List (FullName × TableDesc)) (b : BaseTable) (e : FullName × TableDesc)
    → OnOk r (es' ≡ es ++ e ∷ []) → OnOk r (bs' ≡ bs ++ b ∷ []) → OnErr r ((es' ≡ es) × (bs' ≡ bs)) → P (bs ++ b ∷ []) (es ++ e ∷ []) → P bs es → P bs' es'
both_added P (Ok u) bs bs' es es' b e entries bases same more old = subst (λ xs. P xs es') (sym bases) (subst (P (bs ++ b ∷ [])) (sym entries) more)
both_added P (Err f) bs bs' es es' b e entries bases same more old = subst (λ xs. P xs es') (sym same.1) (subst (P bs) (sym same.0) old)

-- ---- places

-- one more behind the others
stand_more : (at : ℕ → TablePlace) (n : ℕ) (es : List (FullName × TableDesc)) (e : FullName × TableDesc) → StandFrom at n es → place_of e.1.body ≡ at (n + length es) → StandFrom at n (es ++ e ∷ [])
stand_more at n [] e h p = let same : n + 0 ≡ n = omega arith in (p ∙ ap at same, tt)
stand_more at n (x ∷ es) e h p = let same : n + length (x ∷ es) ≡ suc n + length es = omega arith in (h.0, stand_more at (suc n) es e h.1 (p ∙ ap at same))

stand_behind : (at : ℕ → TablePlace) (es : List (FullName × TableDesc)) (e : FullName × TableDesc) → StandFrom at 0 es → place_of e.1.body ≡ at (length es) → StandFrom at 0 (es ++ e ∷ [])
stand_behind at es e h p = let same : length es ≡ 0 + length es = omega arith in stand_more at 0 es e h (p ∙ ap at same)

-- a view more, or none
pub stand_added : {F : Type 0} (r : Result (Unit {0}) F) (c : Catalog) (old new : List (FullName × TableDesc)) (name : FullName) (t : TableDesc)
    → OnOk r (new ≡ old ++ (name, t) ∷ []) → OnErr r (new ≡ old) → queries_of old ≡ c.views → IsNextView c name t → StandFrom View 0 old → StandFrom View 0 new
stand_added (Ok u) c old new name t added same v h all =
    let count : length c.views ≡ length old = ap length (sym v) ∙ queries_long 0 old all in
    subst (StandFrom View 0) (sym added) (stand_behind View old (name, t) all (h.place ∙ ap View count))
stand_added (Err f) c old new name t added same v h all = subst (StandFrom View 0) (sym same) all

-- the one that is read stands at its place
stands_from : (at : ℕ → TablePlace) (n : ℕ) (es : List (FullName × TableDesc)) (place : ℕ) (name : FullName) (t : TableDesc) → StandFrom at n es → slice_get es place ≡ Some (name, t) → place_of t.body ≡ at (n + place)
stands_from at n [] place name t h there = absurd cc
stands_from at n (x ∷ es) zero name t h there =
    let same : n ≡ n + 0 = omega arith in
    ap (λ (d : TableDesc). place_of d.body) (sym (some_pair_parts x.0 name x.1 t there).1) ∙ h.0 ∙ ap at same
stands_from at n (x ∷ es) (suc place) name t h there = let same : suc n + place ≡ n + suc place = omega arith in stands_from at (suc n) es place name t h.1 there ∙ ap at same

pub stands_at : (at : ℕ → TablePlace) (es : List (FullName × TableDesc)) (place : ℕ) (name : FullName) (t : TableDesc) → StandFrom at 0 es → slice_get es place ≡ Some (name, t) → place_of t.body ≡ at place
stands_at at es place name t h there = let same : 0 + place ≡ place = omega arith in stands_from at 0 es place name t h there ∙ ap at same

pub place_read : (at : ℕ → TablePlace) (o : Option (Bor TableDesc)) (es : List (FullName × TableDesc)) (place : ℕ) → StandFrom at 0 es → IfSome o (λ t. StandsAt es place t.now) → IfSome o (λ t. place_of t.now.body ≡ at place)
place_read at None es place h there = tt
place_read at (Some t) es place h there = let same : 0 + place ≡ place = omega arith in stands_from at 0 es place there.0 t.now h there.1 ∙ ap at same

-- as many base tables as entries
pub described_long : (bs : List BaseTable) (es : List (FullName × TableDesc)) → AreDescribed bs es → length bs ≡ length es
described_long [] [] h = refl
described_long [] (x ∷ es) h = absurd h
described_long (b ∷ bs) [] h = absurd h
described_long (b ∷ bs) (x ∷ es) h = ap suc (described_long bs es h.1)

-- there are as many base tables as names
pub counted_all : (bs : List BaseTable) (es : List (FullName × TableDesc)) → AreDescribed bs es → nat_eq (length bs) (length (keys_of es)) ≡ true
counted_all bs es h = eq-eqb (length bs) (length (keys_of es)) (described_long bs es h ∙ sym (length-map es (λ (e : FullName × TableDesc). e.0)))

-- a table whose columns are known is found
pub base_found : (c d : Catalog) (o : Option (Bor TableDesc)) (es : List (FullName × TableDesc)) (place : ℕ) → c ≡ d → AreDescribed c.bases es → (place < length es → IsSome o) → HasValue (column_kinds d (Base place)) → IsSome o
base_found c d o es place e h found known =
    let here : place < length c.bases = bases_there c place (subst (λ (s : Catalog). HasValue (column_kinds s (Base place))) (sym e) known) in
    found (subst (λ n. place < n) (described_long c.bases es h) here)

pub view_found : (c d : Catalog) (o : Option (Bor TableDesc)) (es : List (FullName × TableDesc)) (place : ℕ) → c ≡ d → c.views ≡ queries_of es → StandFrom View 0 es → (place < length es → IsSome o) → HasValue (column_kinds d (View place)) → IsSome o
view_found c d o es place e own stand found known =
    let here : place < length c.views = there_within c.views place (known_there kinds_of_select (slice_get c.views place) (subst (λ (s : Catalog). HasValue (column_kinds s (View place))) (sym e) known)) in
    let count : length c.views ≡ length es = ap length own ∙ queries_long 0 es stand in
    found (subst (λ n. place < n) count here)

-- ---- a base table with its entry

-- what the catalog says of its base tables, where its views are these
abbrev pub AreWhole : List (FullName × TableDesc) → List BaseTable → List (FullName × TableDesc) → Type 0
AreWhole views bs es =
    AreStored bs es × AreStored bs views × AreTables (kinds_at bs (queries_of views)) es × AreTables (kinds_at bs (queries_of views)) views × AreDescribed bs es × StandFrom Base 0 es × StandFrom View 0 views
    × AreNamed es × AreNamed views

whole_more : (views : List (FullName × TableDesc)) (bs : List BaseTable) (es : List (FullName × TableDesc)) (name : FullName) (t : TableDesc) (b : BaseTable)
    → IsNext bs name t b → AreWhole views bs es → AreWhole views (bs ++ b ∷ []) (es ++ (name, t) ∷ [])
whole_more views bs es name t b next h =
    let kinds : List BoundSpecification = queries_of views in (
      all_with (λ (e : FullName × TableDesc). IsStored (bs ++ b ∷ []) e.1) es (name, t) (all_stored_added bs (bs ++ b ∷ []) b es refl h.0) next.stored,
      all_stored_added bs (bs ++ b ∷ []) b views refl h.1,
      all_with (λ (e : FullName × TableDesc). IsTable (kinds_at (bs ++ b ∷ []) kinds) e.1) es (name, t) (tables_more bs (bs ++ b ∷ []) b kinds es refl h.2) (next.table kinds),
      tables_more bs (bs ++ b ∷ []) b kinds views refl h.3,
      AllZip-push (λ (x : BaseTable) (e : FullName × TableDesc). base_kinds x ≡ kinds_of_columns e.1.columns) bs es b (name, t) h.4 next.kinds,
      stand_behind Base es (name, t) h.5 (next.place ∙ ap Base (described_long bs es h.4)),
      h.6,
      all_with (λ (e : FullName × TableDesc). IsNamed e.0 e.1) es (name, t) h.7 next.named,
      h.8,
    )

pub whole_added : {F : Type 0} (r : Result (Unit {0}) F) (views : List (FullName × TableDesc)) (was bs bs' : List BaseTable) (es es' : List (FullName × TableDesc)) (name : FullName) (t : TableDesc) (b : BaseTable)
    → OnOk r (es' ≡ es ++ (name, t) ∷ []) → OnOk r (bs' ≡ bs ++ b ∷ []) → OnErr r ((es' ≡ es) × (bs' ≡ bs)) → bs ≡ was → IsNext was name t b → AreWhole views bs es → AreWhole views bs' es'
whole_added r views was bs bs' es es' name t b entries bases unchanged same next h =
    both_added (AreWhole views) r bs bs' es es' b (name, t) entries bases unchanged (whole_more views bs es name t b (subst (λ (xs : List BaseTable). IsNext xs name t b) (sym same) next) h) h

pub refer_whole : {F : Type 0} (r : Result (Unit {0}) F) (was bs bs' : List BaseTable) (es es' : List (FullName × TableDesc)) (name : FullName) (t : TableDesc) (b : BaseTable)
    → OnOk r (es' ≡ es ++ (name, t) ∷ []) → OnOk r (bs' ≡ bs ++ b ∷ []) → OnErr r ((es' ≡ es) × (bs' ≡ bs)) → bs ≡ was → IsNext was name t b → all_refer bs ≡ true → all_refer bs' ≡ true
refer_whole r was bs bs' es es' name t b entries bases unchanged same next h =
    let here : IsNext bs name t b = subst (λ (xs : List BaseTable). IsNext xs name t b) (sym same) next in
    both_added (λ xs ys. all_refer xs ≡ true) r bs bs' es es' b (name, t) entries bases unchanged (refer_more bs b h here.refer) h

-- ---- the views' queries

pub stand_whole : (views : List (FullName × TableDesc)) (bs : List BaseTable) (es : List (FullName × TableDesc)) → AreWhole views bs es → AreViewQueries bs (queries_of views)
stand_whole views bs es h = stand_all bs views h.3 h.6
