-- What the search in the subqueries of a condition finds.
use Rattle.std.proofs.Common.{◌≡◌, ◌∙◌, ◌+◌, ◌-◌, ◌⊎◌, inl, inr, ℕ, zero, suc, arith, Bool, true, false, not, ◌||◌, List, [], ◌∷◌, cond, drop, filter, fold, length, map, nat_eq, take, Option, Some, None, Bor, refl, sym, ap, subst}
use Rattle.std.specs.Prelude.{IfSome, IsSomeAnd, Vec}
use Rattle.std.specs.declared.alloc.Global.{Global}
use Rattle.std.proofs.lemmas.Bool.{eqb-true, or_right}
use Rattle.std.proofs.lemmas.List.{take_all}
use Rattle.std.specs.List.{AllByRecursion, Contains, list_any}
use Rattle.sq_meaning.specs.Environment.{Line, Row, alone}
use Rattle.sq_meaning.specs.Syntax.{conds}
use Rattle.sq_meaning.proofs.AnswerLaws.{all_weaker}
use Rattle.sq_bound.specs.Condition.{PlacedCond}
use Rattle.sq_bound.specs.declared.condition.BoundSpecification.{BoundSpecification}
use Rattle.sq_bound.specs.declared.condition.TablePlace.{TablePlace}
use Rattle.sq_bound.specs.declared.condition.TablePlace.TheVariants.{Base, View}
use Rattle.sq_expression.specs.Frame.{lent, scopes_beyond}
use Rattle.sq_expression.specs.declared.table.BaseRows.{BaseRows}
use Rattle.sq_expression.specs.declared.table.ViewRows.{ViewRows}
use Rattle.sq_query.specs.Around.{IsStanding}
use Rattle.sq_query.specs.Inner.{AreOfOtherParts, AreOnlyRows, IsLineBeneath, IsOnlyRow}
use Rattle.sq_query.specs.Items.{is_empty_item, is_found, is_left, items_of}
use Rattle.sq_query.specs.Sought.{IsLineAmong, IsRowFound, found_of}
use Rattle.sq_query.specs.Needed.{Adds, IsNeeded, NeedsMore, NeedsNone, ReadsCond, ReadsConds, conds_tables, places_in, with_table}
use Rattle.sq_query.specs.declared.around.Around.{Around}
use Rattle.sq_query.specs.declared.around.Standing.{Standing}
use Rattle.sq_query.specs.declared.around.Standing.TheVariants.{OnNoLine, OnSomeLine, Within}
use Rattle.sq_query.specs.ViewItems.{is_hidden, is_shown}
use Rattle.sq_query.specs.declared.needed.Needed.{Needed}
use Rattle.sq_query.proofs.Needs.Added.{conds_needed, needs_more}
use Rattle.sq_query.proofs.FoundByKey.ItemRows.{no_line_among}
use Rattle.sq_query.proofs.FoundByKey.ItemValues.{one_only}
use Rattle.sq_query.proofs.Keys.KeyTests.{if_some}
use Rattle.sq_query.proofs.Needs.NeededViews.{cond_reads_weaker}

-- ---- what stands elsewhere

each_reads : {A : Type 0} (P : TablePlace → Type 0) (tree : A → PlacedCond) (parts : List A) → ReadsConds P (conds (map tree parts)) → AllByRecursion (λ x. ReadsCond P (tree x)) parts
each_reads P tree [] h = tt
each_reads P tree (x ∷ parts) h = (h.0, each_reads P tree parts h.1)

pub copied_more : (tables copy : Needed) → places_in copy ≡ places_in tables → NeedsMore tables copy
copied_more tables copy same = needs_more tables copy [] same

pub added_to_copy : (tables copy all : Needed) (ts : List TablePlace) → places_in copy ≡ places_in tables → Adds copy ts all → Adds tables ts all
added_to_copy tables copy all ts same adds = adds ∙ ap (λ ps. fold with_table ps ts) same

nothing_taken : {A : Type 0} (n : ℕ) → take n (let none : List A = [] in none) ≡ []
nothing_taken zero = refl
nothing_taken (suc n) = refl

-- what is taken behind an index is all behind it
pub all_behind : {A : Type 0} (xs : List A) (n : ℕ) → take (length xs - n) (drop n xs) ≡ drop n xs
all_behind [] zero = refl
all_behind [] (suc n) = nothing_taken (0 - suc n)
all_behind (x ∷ xs) zero = take_all (length (x ∷ xs) - 0) (x ∷ xs) (omega arith)
all_behind (x ∷ xs) (suc n) =
    let same : length (x ∷ xs) - suc n ≡ length xs - n = omega arith in
    subst (λ k. take k (drop n xs) ≡ drop n xs) (sym same) (all_behind xs n)

pub beside_so : {A : Type 0} (tree : A → PlacedCond) (parts : List A) (number : ℕ) (tables copy some all : Needed) → places_in copy ≡ places_in tables → (before behind : List A) → before ≡ take number parts → behind ≡ drop (number + 1) parts
    → Adds copy (conds_tables (conds (map tree before))) some → Adds some (conds_tables (conds (map tree behind))) all → AreOfOtherParts tree parts number tables all
beside_so {A} tree parts number tables copy some all same before behind before_is behind_is to_some to_all =
    let later = needs_more some all (conds_tables (conds (map tree behind))) to_all in record {
      more = λ t h. later t (needs_more copy some (conds_tables (conds (map tree before))) to_some t (copied_more tables copy same t h));
      before = subst (AllByRecursion (λ x. ReadsCond (IsNeeded all) (tree x))) before_is
          (all_weaker (λ x. ReadsCond (IsNeeded some) (tree x)) (λ x. ReadsCond (IsNeeded all) (tree x)) (λ x h. cond_reads_weaker (IsNeeded some) (IsNeeded all) later (tree x) h) before
          (each_reads (IsNeeded some) tree before (conds_needed copy some (conds (map tree before)) to_some)));
      behind = subst (AllByRecursion (λ x. ReadsCond (IsNeeded all) (tree x))) behind_is (each_reads (IsNeeded all) tree behind (conds_needed some all (conds (map tree behind)) to_all));
    }

-- ---- lines of which there is one

pub row_alone : (found : List BaseRows) (base : ℕ) (o : Option (Bor Row)) → IfSome o (λ r. IsRowFound base found r.now) → IfSome o (λ r. IsOnlyRow found (Base base) r.now)
row_alone found base None h = tt
row_alone found base (Some r) h =
    λ other among.
    let one : Contains (lent h.own.rows.items) other = if_some (λ own. Contains (lent own.rows.items) other) (found_of base found) h.own among h.is in
    sym (one_only r.now other (subst (λ (l : List Row). Contains l other) h.only one))

pub only_so : (found : List BaseRows) (ts : List TablePlace) (line : List (Bor Row)) (other : Line) → AreOnlyRows found ts line → IsLineAmong found ts other → other ≡ lent line
only_so found [] [] [] h k = refl
only_so found [] [] (x ∷ other) h k = absurd k
only_so found [] (b ∷ line) other h k = absurd h
only_so found (t ∷ ts) [] other h k = absurd h
only_so found (t ∷ ts) (b ∷ line) [] h k = absurd k
only_so found (t ∷ ts) (b ∷ line) (x ∷ other) h k = λ i. h.0 x k.0 i ∷ only_so found ts line other h.1 k.1 i

-- what is known of a line of which one row at most was found of each table
module _ (q : BoundSpecification) (a : Around) (found : List BaseRows) (ts : List TablePlace) (are : ts ≡ items_of q) where
  pub nowhere_so : (a.standing ≡ OnNoLine) ⊎ (list_any (is_empty_item found) ts ≡ true) → (line : List (Bor Row)) → IsLineBeneath q a found OnNoLine line
  nowhere_so (inl on) line scopes other around among = subst (λ (b : Standing). IsStanding b (scopes_beyond a.lines) scopes) on around
  nowhere_so (inr none) line scopes other around among = no_line_among found ts other none (subst (λ (us : List TablePlace). IsLineAmong found us other) (sym are) among)

  pub line_so : (only : Option (Vec (Bor Row) Global)) → IfSome only (λ l. AreOnlyRows found ts l.items) → (standing : Standing) (line : List (Bor Row)) → (standing ≡ OnNoLine → ⊥)
      → (standing ≡ Within → (a.standing ≡ Within) × IsSomeAnd only (λ rows. line ≡ rows.items)) → IsLineBeneath q a found standing line
  line_so only rows OnSomeLine line there within scopes other around among = tt
  line_so only rows OnNoLine line there within scopes other around among = absurd (there refl)
  line_so None rows Within line there within scopes other around among = absurd (within refl).1
  line_so (Some l) rows Within line there within scopes other around among =
      let w = within refl in
      let beyond : scopes ≡ scopes_beyond a.lines = subst (λ (b : Standing). IsStanding b (scopes_beyond a.lines) scopes) w.0 around in
      let same : other ≡ lent line = only_so found ts l.items other rows (subst (λ (us : List TablePlace). IsLineAmong found us other) (sym are) among) ∙ ap lent (sym w.1) in
      λ i. alone [] (same i) ∷ beyond i

-- ---- what was not found

any_fewer : {A : Type 0} (P test : A → Bool) (xs : List A) → list_any P (filter test xs) ≡ true → list_any P xs ≡ true
any_fewer P test [] h = h
any_fewer {A} P test (x ∷ xs) h = so (test x) h (any_fewer P test xs)
  where
    so : (b : Bool) → list_any P (cond b (x ∷ filter test xs) (filter test xs)) ≡ true → (list_any P (filter test xs) ≡ true → list_any P xs ≡ true) → (P x || list_any P xs) ≡ true
    so true h later = one (P x) h later
      where
        one : (a : Bool) → (a || list_any P (filter test xs)) ≡ true → (list_any P (filter test xs) ≡ true → list_any P xs ≡ true) → (a || list_any P xs) ≡ true
        one true h later = refl
        one false h later = later h
    so false h later = or_right (P x) (list_any P xs) (later h)

any_left : (test : ℕ → Bool) (p : ℕ) → test p ≡ true → (xs : List ℕ) → list_any (λ x. nat_eq x p) xs ≡ true → list_any (λ x. nat_eq x p) (filter test xs) ≡ true
any_left test p passes [] h = h
any_left test p passes (x ∷ xs) h = so (nat_eq x p) refl h (any_left test p passes xs)
  where
    so : (b : Bool) → nat_eq x p ≡ b → (b || list_any (λ y. nat_eq y p) xs) ≡ true → (list_any (λ y. nat_eq y p) xs ≡ true → list_any (λ y. nat_eq y p) (filter test xs) ≡ true)
        → list_any (λ y. nat_eq y p) (cond (test x) (x ∷ filter test xs) (filter test xs)) ≡ true
    so true e h later =
        ap (λ b. list_any (λ y. nat_eq y p) (cond b (x ∷ filter test xs) (filter test xs))) (ap test (eqb-true x p e) ∙ passes) ∙ ap (λ b. b || list_any (λ y. nat_eq y p) (filter test xs)) e
    so false e h later = pick (test x) (later h)
      where
        pick : (b : Bool) → list_any (λ y. nat_eq y p) (filter test xs) ≡ true → list_any (λ y. nat_eq y p) (cond b (x ∷ filter test xs) (filter test xs)) ≡ true
        pick true h = or_right (nat_eq x p) (list_any (λ y. nat_eq y p) (filter test xs)) h
        pick false h = h

module _ (before : Needed) (bases : Vec ℕ Global) (found : List BaseRows) (is : bases.items ≡ filter (λ b. not (is_found b found)) before.bases.items) where
  pub none_left : NeedsNone before → NeedsNone (record before { bases = bases })
  none_left none = (is ∙ ap (filter (λ b. not (is_found b found))) none.0, none.1)

  pub fewer_left : (t : TablePlace) → IsNeeded (record before { bases = bases }) t → IsNeeded before t
  fewer_left (View p) h = h
  fewer_left (Base p) h = any_fewer (λ x. nat_eq x p) (λ b. not (is_found b found)) before.bases.items (subst (λ (l : List ℕ). list_any (λ x. nat_eq x p) l ≡ true) is h)

  pub kept_left : (t : TablePlace) → IsNeeded before t → is_left found t ≡ true → IsNeeded (record before { bases = bases }) t
  kept_left (View p) h left = h
  kept_left (Base p) h left = subst (λ (l : List ℕ). list_any (λ x. nat_eq x p) l ≡ true) (sym is) (any_left (λ b. not (is_found b found)) p left before.bases.items h)

-- and views that were not shown
module _ (before : Needed) (views : Vec ℕ Global) (shown : List ViewRows) (is : views.items ≡ filter (λ v. not (is_shown v shown)) before.views.items) where
  pub fewer_hidden : (t : TablePlace) → IsNeeded (record before { views = views }) t → IsNeeded before t
  fewer_hidden (Base p) h = h
  fewer_hidden (View p) h = any_fewer (λ x. nat_eq x p) (λ v. not (is_shown v shown)) before.views.items (subst (λ (l : List ℕ). list_any (λ x. nat_eq x p) l ≡ true) is h)

  pub kept_hidden : (t : TablePlace) → IsNeeded before t → is_hidden shown t ≡ true → IsNeeded (record before { views = views }) t
  kept_hidden (Base p) h hidden = h
  kept_hidden (View p) h hidden = subst (λ (l : List ℕ). list_any (λ x. nat_eq x p) l ≡ true) (sym is) (any_left (λ v. not (is_shown v shown)) p hidden before.views.items h)
