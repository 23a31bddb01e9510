-- What is needed after the needs of views were added (ISO/IEC 9075:1992, 11.19).
use Rattle.std.proofs.Common.{◌≡◌, arith, ℕ, ◌+◌, ◌<◌, ◌≤◌, nat_lt, Bool, true, false, List, [], ◌∷◌, Option, Some, None, refl, sym, ap, subst, ◌∙◌, slice_get, ⊎_elim, true≢false}
use Rattle.std.proofs.Math.Nat.{eq-or-lt_of_le}
use Rattle.std.proofs.lemmas.Bool.{cases_lt, ltb-true}
use Rattle.std.specs.List.{list_any}
use Rattle.std.specs.Prelude.{⊤, if◌then◌else◌, IfSome}
use Rattle.sq_value.specs.declared.domain.Kind.{Kind}
use Rattle.sq_meaning.specs.Status.{Outcome, not_well_formed}
use Rattle.sq_meaning.specs.Syntax.{Conds, compare, compare_subquery, compare_quantified, between, in_subquery, in_list, like, is_null, exists, negated, conjunction, disjunction, no_cond, a_cond, absent, present, select}
use Rattle.sq_meaning.specs.Environment.{Row}
use Rattle.sq_meaning.specs.Placed.{Placed, by_place}
use Rattle.sq_meaning.specs.WellFormed.{HasValue, IsDeclaredAt, WellFormedClause, WellFormedCond, WellFormedConds, WellFormedSelect, WellFormedTable, kinds_by_place, of_lines, shown_level}
use Rattle.sq_meaning.proofs.AnswerLaws.{all_weaker}
use Rattle.sq_bound.specs.Condition.{PlacedCond, PlacedClause, PlacedSelect, select_of}
use Rattle.sq_bound.specs.WellFormed.{IsSelect, Levels, TableKinds, before_view}
use Rattle.sq_bound.specs.declared.condition.BoundSpecification.{BoundSpecification}
use Rattle.sq_bound.specs.declared.condition.TablePlace.{TablePlace}
use Rattle.sq_bound.specs.declared.condition.TablePlace.TheVariants.{Base, View}
use Rattle.sq_query.specs.Needed.{Adds, AddsBefore, AreKnown, IsClosedAt, IsNeeded, NeedsMore, ReadsClause, ReadsCond, ReadsConds, ReadsInside, ReadsSelect, cond_tables, select_tables, specification_tables}
use Rattle.sq_query.specs.declared.needed.Needed.{Needed}
use Rattle.sq_query.proofs.Needs.Added.{cond_listed, cond_read, is, old_or_added, select_known, select_listed, select_needed, select_read}

-- ---- what a well-formed query reads is known

module _ (rows_of : TablePlace → Outcome (List Row)) (columns : TableKinds) (parameters : List Kind) where
  abbrev IsTableThere : TablePlace → Type 0
  IsTableThere = WellFormedTable (by_place rows_of) (kinds_by_place columns parameters) (IsDeclaredAt parameters)

  abbrev Known : TablePlace → Type 0
  Known t = HasValue (columns t)

  mutual
    pub cond_reads : (c : PlacedCond) (levels : Levels) → WellFormedCond (by_place rows_of) (kinds_by_place columns parameters) (IsDeclaredAt parameters) levels c → ReadsCond Known c
    cond_reads (compare op a b) levels w = tt
    cond_reads (compare_subquery op a q) levels w = select_reads q levels w.2
    cond_reads (compare_quantified op quantifier a q) levels w = select_reads q levels w.2
    cond_reads (between a low high) levels w = tt
    cond_reads (in_subquery a q) levels w = select_reads q levels w.2
    cond_reads (in_list a es) levels w = tt
    cond_reads (like text pattern escape) levels w = tt
    cond_reads (is_null a) levels w = tt
    cond_reads (exists q) levels w = select_reads q levels w
    cond_reads (negated c) levels w = cond_reads c levels w
    cond_reads (conjunction cs) levels w = conds_reads cs levels w
    cond_reads (disjunction cs) levels w = conds_reads cs levels w

    conds_reads : (cs : Conds (Placed TablePlace)) (levels : Levels) → WellFormedConds (by_place rows_of) (kinds_by_place columns parameters) (IsDeclaredAt parameters) levels cs → ReadsConds Known cs
    conds_reads no_cond levels w = tt
    conds_reads (a_cond c cs) levels w = (cond_reads c levels w.0, conds_reads cs levels w.1)

    clause_reads : (c : PlacedClause) (levels : Levels) → WellFormedClause (by_place rows_of) (kinds_by_place columns parameters) (IsDeclaredAt parameters) levels c → ReadsClause Known c
    clause_reads absent levels w = tt
    clause_reads (present c) levels w = cond_reads c levels w

    select_reads : (q : PlacedSelect) (levels : Levels) → WellFormedSelect (by_place rows_of) (kinds_by_place columns parameters) (IsDeclaredAt parameters) levels q → ReadsSelect Known q
    select_reads (select distinct list from filter by having) levels w =
        (all_weaker IsTableThere Known (λ t h. h.0) from w.0, clause_reads filter (of_lines from ∷ levels) w.2, clause_reads having (shown_level list from by having ∷ levels) w.4)

pub reads_known : (columns : TableKinds) (parameters : List Kind) (levels : Levels) (q : BoundSpecification) → IsSelect columns parameters levels q → ReadsSelect (λ t. HasValue (columns t)) (select_of q)
reads_known columns parameters levels q w = select_reads (λ t. not_well_formed) columns parameters (select_of q) levels (w.stands (λ t. not_well_formed))

pub reads_weaker : (P Q : TablePlace → Type 0) → ((t : TablePlace) → P t → Q t) → (q : PlacedSelect) → ReadsSelect P q → ReadsSelect Q q
reads_weaker P Q f q h = select_read Q q (all_weaker P Q f (select_tables q) (select_listed P q h))

pub cond_reads_weaker : (P Q : TablePlace → Type 0) → ((t : TablePlace) → P t → Q t) → (c : PlacedCond) → ReadsCond P c → ReadsCond Q c
cond_reads_weaker P Q f c h = cond_read Q c (all_weaker P Q f (cond_tables c) (cond_listed P c h))

pub clause_weaker : (P Q : TablePlace → Type 0) → ((t : TablePlace) → P t → Q t) → (c : PlacedClause) → ReadsClause P c → ReadsClause Q c
clause_weaker P Q f absent h = tt
clause_weaker P Q f (present c) h = cond_reads_weaker P Q f c h

pub inside_weaker : (P Q : TablePlace → Type 0) → ((t : TablePlace) → P t → Q t) → (q : PlacedSelect) → ReadsInside P q → ReadsInside Q q
inside_weaker P Q f (select distinct list from filter by having) h = (clause_weaker P Q f filter h.0, clause_weaker P Q f having h.1)

-- ---- what stands before a view

module _ (columns : TableKinds) (place : ℕ) where
  before_known : (t : TablePlace) → HasValue (before_view place columns t) → HasValue (columns t)
  before_known (Base n) h = h
  before_known (View n) h = if_known (nat_lt n place) h
    where
      if_known : (b : Bool) → HasValue (if b then columns (View n) else not_well_formed) → HasValue (columns (View n))
      if_known true h = h
      if_known false h = absurd h

  abbrev pub IsBefore : TablePlace → Type 0
  IsBefore (Base n) = ⊤
  IsBefore (View n) = n < place

  pub stands_before : (t : TablePlace) → HasValue (before_view place columns t) → IsBefore t
  stands_before (Base n) h = tt
  stands_before (View n) h = if_before (nat_lt n place) refl h
    where
      if_before : (b : Bool) → nat_lt n place ≡ b → HasValue (if b then columns (View n) else not_well_formed) → n < place
      if_before true e h = ltb-true n place e
      if_before false e h = absurd h

-- ---- the needs of a view are added

module _ (columns : TableKinds) (place : ℕ) (q : BoundSpecification) (well : IsSelect (before_view place columns) [] [] q) (before after : Needed) (adds : Adds before (specification_tables q) after) where
  reads_before : ReadsSelect (λ t. HasValue (before_view place columns t)) (select_of q)
  reads_before = reads_known (before_view place columns) [] [] q well

  pub view_known : AreKnown columns before → AreKnown columns after
  view_known known = select_known before after columns known (select_of q) adds (reads_weaker (λ t. HasValue (before_view place columns t)) (λ t. HasValue (columns t)) (before_known columns place) (select_of q) reads_before)

  abbrev EarlierOrOld : TablePlace → Type 0
  EarlierOrOld (Base n) = ⊤
  EarlierOrOld (View n) = place ≤ n → IsNeeded before (View n)

  was_needed : (t : TablePlace) → IsNeeded before t → EarlierOrOld t
  was_needed (Base n) h = tt
  was_needed (View n) h = λ from. h

  is_earlier : (t : TablePlace) → HasValue (before_view place columns t) → EarlierOrOld t
  is_earlier (Base n) h = tt
  is_earlier (View n) h = λ from. let less : n < place = stands_before columns place (View n) h in absurd (omega arith)

  pub view_earlier : AddsBefore place before after
  view_earlier later from needed =
      old_or_added before after (specification_tables q) adds EarlierOrOld was_needed
      (all_weaker (λ t. HasValue (before_view place columns t)) EarlierOrOld is_earlier (specification_tables q) (select_listed (λ t. HasValue (before_view place columns t)) (select_of q) reads_before)) (View later) needed from

  pub view_closed : (queries : List BoundSpecification) → slice_get queries place ≡ Some q → IsClosedAt queries after place
  view_closed queries there = subst (λ o. IfSome o (λ s. ReadsSelect (IsNeeded after) (select_of s))) (sym there) (select_needed before after (select_of q) adds)

-- ---- view after view, from the last one down

-- the views from behind the place on have what they need
abbrev pub IsClosedFrom : List BoundSpecification → Needed → ℕ → ℕ → Type 0
IsClosedFrom queries needed last behind = (p : ℕ) → last < p + behind → IsNeeded needed (View p) → IsClosedAt queries needed p

abbrev pub EndsAt : Needed → ℕ → Type 0
EndsAt needed last = (p : ℕ) → IsNeeded needed (View p) → p ≤ last

closed_more : (queries : List BoundSpecification) (before after : Needed) (p : ℕ) → NeedsMore before after → IsClosedAt queries before p → IsClosedAt queries after p
closed_more queries before after p more h = if_there (slice_get queries p) h
  where
    if_there : (o : Option BoundSpecification) → IfSome o (λ q. ReadsSelect (IsNeeded before) (select_of q)) → IfSome o (λ q. ReadsSelect (IsNeeded after) (select_of q))
    if_there None h = tt
    if_there (Some q) h = reads_weaker (IsNeeded before) (IsNeeded after) more (select_of q) h

module _ (queries : List BoundSpecification) (before after : Needed) (last behind place : ℕ) (at : place + behind ≡ last) where
  pub ends_more : AddsBefore place before after → EndsAt before last → EndsAt after last
  ends_more earlier ends p needed =
      ⊎_elim (λ (less : p < place). let within : p ≤ last = omega arith in within) (λ (from : place ≤ p). ends p (earlier p from needed)) (cases_lt p place)

  pub from_more : NeedsMore before after → AddsBefore place before after → IsClosedAt queries after place → IsClosedFrom queries before last behind → IsClosedFrom queries after last (behind + 1)
  from_more more earlier here so_far p from needed =
      let at_least : place ≤ p = omega arith in
      ⊎_elim (λ (same : place ≡ p). subst (IsClosedAt queries after) same here)
      (λ (later : place < p). let behind_it : last < p + behind = omega arith in closed_more queries before after p more (so_far p behind_it (earlier p at_least needed))) (eq-or-lt_of_le at_least)

-- a place that is not among the views
pub from_none : (queries : List BoundSpecification) (needed : Needed) (last behind place : ℕ) → place + behind ≡ last → list_any (is place) needed.views.items ≡ false → IsClosedFrom queries needed last behind → IsClosedFrom queries needed last (behind + 1)
from_none queries needed last behind place at none so_far p from here =
    let at_least : place ≤ p = omega arith in
    ⊎_elim (λ (same : place ≡ p). absurd (true≢false (sym here ∙ ap (λ n. list_any (is n) needed.views.items) (sym same) ∙ none)))
    (λ (later : place < p). let behind_it : last < p + behind = omega arith in so_far p behind_it here) (eq-or-lt_of_le at_least)

-- ---- the last view

-- ---- while the needs of views are added

pub record GoesOn (columns : TableKinds) (queries : List BoundSpecification) (old now : Needed) (last behind : ℕ) : Type 0 where
  pub more : NeedsMore old now
  pub known : AreKnown columns now
  pub ends : EndsAt now last
  pub closed : IsClosedFrom queries now last behind

module _ (columns : TableKinds) (queries : List BoundSpecification) (old : Needed) (last : ℕ) where
  pub goes_on_with : (before after : Needed) (behind place : ℕ) → place + behind ≡ last → IsNeeded before (View place) → NeedsMore before after → AreKnown columns after → AddsBefore place before after
      → IsClosedAt queries after place → GoesOn columns queries old before last behind → GoesOn columns queries old after last (behind + 1)
  goes_on_with before after behind place at here more known earlier closed so_far = record {
    more = λ t h. more t (so_far.more t h);
    known = known;
    ends = ends_more queries before after last behind place at earlier so_far.ends;
    closed = from_more queries before after last behind place at more earlier closed so_far.closed;
  }

  pub goes_on_without : (now : Needed) (behind place : ℕ) → place + behind ≡ last → list_any (is place) now.views.items ≡ false → GoesOn columns queries old now last behind → GoesOn columns queries old now last (behind + 1)
  goes_on_without now behind place at none so_far =
      record { more = so_far.more; known = so_far.known; ends = so_far.ends; closed = from_none queries now last behind place at none so_far.closed }

  pub goes_to_end : (now : Needed) (behind : ℕ) → last < behind → GoesOn columns queries old now last behind → (place : ℕ) → IsNeeded now (View place) → IsClosedAt queries now place
  goes_to_end now behind past so_far place here = let beyond : last < place + behind = omega arith in so_far.closed place beyond here
