-- Over what plain views in FROM show of the rows that WHERE names a query specification outside every query has the rows that it has over all rows
-- of the views (ISO/IEC 9075:1992, 7.4 to 7.6 and 11.19).
use Rattle.std.proofs.Common.{◌≡◌, ◌∙◌, ◌<◌, inl, inr, ℕ, Bool, true, false, List, [], ◌∷◌, cond, filter, find, get_or, length, nat_eq, slice_get, Option, Some, None, refl, sym, ap, subst, Ok}
use Rattle.std.specs.Prelude.{IfSome, if◌then◌else◌, option_to_list, ◌++◌}
use Rattle.std.specs.List.{AllByRecursion, AllZip}
use Rattle.std.proofs.lemmas.Bool.{eqb-true}
use Rattle.sq_lex.specs.declared.name.Name.{Name}
use Rattle.sq_value.specs.declared.domain.Kind.{Kind}
use Rattle.sq_value.specs.declared.value.Value.{Value}
use Rattle.sq_value.proofs.Truths.{neither_left, neither_right}
use Rattle.sq_store.specs.Content.{Content, table_at}
use Rattle.sq_store.specs.Keys.{Keys, are_keyed, key_at}
use Rattle.sq_store.specs.declared.table.Numbered.{Numbered}
use Rattle.sq_meaning.specs.Environment.{Line, Row, outermost}
use Rattle.sq_meaning.specs.Placed.{by_place}
use Rattle.sq_meaning.specs.Query.{clause_truth, is_true, rows}
use Rattle.sq_meaning.specs.Status.{Outcome, and_then}
use Rattle.sq_meaning.specs.Sure.{IsSureOutcome}
use Rattle.sq_meaning.specs.Tables.{rows_in}
use Rattle.sq_meaning.specs.WellFormed.{AreRowsOf, Fits, Has, HasValue, IsDeclaredAt, IsRowOf, WellFormedSelect, WellFormedTable, kinds_by_place}
use Rattle.sq_meaning.proofs.AnswerLaws.{all_weaker}
use Rattle.sq_bound.specs.Condition.{clause_of, cond_of, select_of}
use Rattle.sq_bound.specs.Fits.{keys_of_bases, not_nulls_hold}
use Rattle.sq_bound.specs.Noted.{may_fail}
use Rattle.sq_bound.specs.WellFormed.{IsSelect, TableKinds, base_kinds}
use Rattle.sq_bound.specs.declared.condition.BoundCond.{BoundCond}
use Rattle.sq_bound.specs.declared.condition.BoundSpecification.{BoundSpecification, out-BoundSpecification}
use Rattle.sq_bound.specs.declared.condition.TablePlace.{TablePlace}
use Rattle.sq_bound.specs.declared.condition.TablePlace.TheVariants.{Base, View}
use Rattle.sq_bound.specs.declared.names.BaseTable.{BaseTable}
use Rattle.sq_bound.proofs.ConditionLaws.{select_of-out}
use Rattle.sq_expression.specs.Frame.{inputs_of, lent, view_outcome}
use Rattle.sq_expression.specs.declared.table.BaseRows.{BaseRows}
use Rattle.sq_expression.specs.declared.table.ViewRows.{ViewRows}
use Rattle.sq_query.specs.Around.{beneath}
use Rattle.sq_query.specs.Asked.{IsFalseUnder}
use Rattle.sq_query.specs.Items.{IsNamed, items_of, over}
use Rattle.sq_query.specs.MayRead.{MayRead}
use Rattle.sq_query.specs.Named.{AreTrustedIn, HasOther, IsFalseOn, IsOneOf}
use Rattle.sq_query.specs.Needed.{IsNeeded, ReadsInside, ReadsSelect}
use Rattle.sq_query.specs.Shown.{AreShown}
use Rattle.sq_query.specs.Sought.{IsRowAmong, nothing_around}
use Rattle.sq_query.specs.Union.{AreFitting}
use Rattle.sq_query.specs.ViewItems.{AreServed, IsShownItem, is_shown, shown_or, showing}
use Rattle.sq_query.specs.declared.named.Sure.TheVariants.{Noted}
use Rattle.sq_query.specs.declared.needed.Needed.{Needed}
use Rattle.sq_query.proofs.FoundByKey.FewerRows.{among_found, kinds_of}
use Rattle.sq_query.proofs.FoundByKey.FoundRows.{all_sure, found_sure}
use Rattle.sq_query.proofs.FoundByKey.ItemRows.{all_stay, fewer_fit, one_of_all, zip_weaker}
use Rattle.sq_query.proofs.FoundByKey.ItemSearch.{at_index}
use Rattle.sq_query.proofs.FoundByKey.OneTable as one
use Rattle.sq_query.proofs.FoundByKey.WhereOnLines.{where_on_lines, where_trusted}
use Rattle.sq_query.proofs.Keys.KeyNames.{element_at}
use Rattle.sq_query.proofs.Keys.KeyOut.{all_both}
use Rattle.sq_query.proofs.Needs.NeededViews.{inside_weaker}
use Rattle.sq_query.proofs.PlainViews.SureRows.{IsShort}
use Rattle.sq_query.proofs.PlainViews.Thinned.{those_several, those_stored, those_with_one}
use Rattle.sq_query.proofs.PlainViews.ThroughViews as through
use Rattle.sq_query.proofs.PlainViews.ThroughViews.{base_of_path}
use Rattle.sq_query.proofs.PlainViews.ViewPaths.{shown_each}
use Rattle.sq_query.proofs.PlainViews.Wanted.{AreAlike, key_alike, key_wanted, one_alike, one_wanted, out_of_key, out_of_one, wanted_in}

-- ---- lists

-- each of some columns stands for another one
zip_split : (P : ℕ → ℕ → Type 0) (Q : ℕ → Value → Type 0) (cs : List ℕ) (vs : List Value) → AllZip (λ c v. (n : ℕ) × P c n × Q n v) cs vs → (ns : List ℕ) × AllZip P cs ns × AllZip Q ns vs
zip_split P Q [] [] h = ([], tt, tt)
zip_split P Q [] (v ∷ vs) h = absurd h
zip_split P Q (c ∷ cs) [] h = absurd h
zip_split P Q (c ∷ cs) (v ∷ vs) h = let others = zip_split P Q cs vs h.1 in (h.0.0 ∷ others.0, (h.0.1, others.1), (h.0.2, others.2))

-- a view that is not among these
pub shown_none : (place : ℕ) (shown : List ViewRows) → is_shown place shown ≡ false → find (λ (own : ViewRows). nat_eq own.place place) shown ≡ None
shown_none place [] h = refl
shown_none place (own ∷ shown) h =
    ap (λ b. cond b (Some own) (find (λ (other : ViewRows). nat_eq other.place place) shown)) (neither_left (nat_eq own.place place) (is_shown place shown) h)
    ∙ shown_none place shown (neither_right (nat_eq own.place place) (is_shown place shown) h)

-- over no views
over_no_views : (found : List BaseRows) (tables : TablePlace → Outcome (List Row)) (t : TablePlace) → over found tables t ≡ over found (showing [] tables) t
over_no_views found tables (Base n) = refl
over_no_views found tables (View n) = refl

module _ (q : BoundSpecification) (columns : TableKinds) (values : List Value) (user : Name) (found : List BaseRows) (tables : TablePlace → Outcome (List Row)) (fitting : AreFitting columns (over found tables)) where
  pub none_served : AreServed q columns values user found [] tables
  none_served = record {
    fit = λ t. subst (Fits AreRowsOf (columns t)) (over_no_views found tables t) (fitting t);
    same = λ i. rows (by_place (λ t. over_no_views found tables t i)) (select_of q) (outermost (inputs_of values) user);
  }

-- ---- one view more

module _ (bases : List BaseTable) (columns : TableKinds) (queries : List BoundSpecification) (content : Content) (keys : List Keys) (user : Name) (values : List Value) (parameters : List Kind) (tables : TablePlace → Outcome (List Row))
    (may : MayRead bases queries columns content user values parameters tables) (q : BoundSpecification) (well : IsSelect columns parameters [] q) (keys_are : keys ≡ keys_of_bases bases) (nulls : not_nulls_hold bases content ≡ true) (keyed : are_keyed keys content ≡ true)
    (short : (n : ℕ) → IsShort (rows_in (table_at content n))) (kinds_are : (n : ℕ) (b : BaseTable) → slice_get bases n ≡ Some b → columns (Base n) ≡ Ok (base_kinds b)) (rows_are : (n : ℕ) → n < length content → (kinds : List Kind) → columns (Base n) ≡ Ok kinds
    → AllByRecursion (λ (r : Numbered). IsRowOf kinds r.row) (table_at content n).rows) (fitting : AreFitting columns tables) (inner : Needed) (inside : ReadsInside (IsNeeded inner) (select_of q)) (found : List BaseRows) (shown : List ViewRows) where
  module _ (own : ViewRows) (s : IsShownItem q columns queries content keys values user inner found shown own) (served : AreServed q columns values user found shown tables) where
    abbrev along : List ℕ
    along = own.place ∷ s.views

    abbrev base : ℕ
    base = s.under.place

    abbrev few_rows : List Row
    few_rows = lent s.under.rows.items

    abbrev all_rows : List Row
    all_rows = rows_in (table_at content base)

    table : (b : BaseTable) × (slice_get bases base ≡ Some b)
    table = element_at bases base (may.there base (base_of_path columns queries own.place base s.views s.path))

    fit_rows : AllByRecursion (λ (r : Numbered). IsRowOf (base_kinds table.0) r.row) (table_at content base).rows
    fit_rows = rows_are base s.there (base_kinds table.0) (kinds_are base table.0 table.1)

    abbrev IsFalse : ℕ → List Value → Type 0
    IsFalse = IsFalseOn s.item (items_of q) found nothing_around values user (AreTrustedIn Noted s.condition) (cond_of [] s.condition)

    abbrev AreSeen : ℕ → ℕ → Type 0
    AreSeen c n = AreShown queries along (c ∷ []) (n ∷ [])

    -- the rows of the base table are those with wanted values in some columns, and WHERE is false of each row of the view without wanted values in
    -- the columns that show them
    record AreWanted : Type 0 where
      own_columns : List ℕ
      seen : List ℕ
      are : AreShown queries along own_columns seen
      wants : List Value → Bool
      alike : AreAlike wants
      narrowed : few_rows ≡ filter (wanted_in wants own_columns) all_rows
      out : (row : Row) → wanted_in wants seen row ≡ false → (n : ℕ) × (vs : List Value) × IsFalse n vs × HasOther row n vs

    wanted_of : IsNamed (IsFalseUnder queries along IsFalse) content keys s.under → AreWanted
    wanted_of (inl (known, h)) =
        let columns_of = key_at keys base known.key in
        let split = zip_split AreSeen (IsOneOf IsFalse) columns_of known.values h.named.named in record {
          own_columns = columns_of;
          seen = split.0;
          are = shown_each queries along columns_of split.0 split.1;
          wants = key_wanted known.values;
          alike = key_alike known.values;
          narrowed = h.are ∙ those_stored bases content keys base table.0 known table.1 s.there h.named.key keys_are nulls fit_rows keyed;
          out = λ row lacks. let o = out_of_key {R = IsOneOf IsFalse} split.0 known.values row split.2 lacks in (o.0, o.1 ∷ [], o.2, o.3);
        }
    wanted_of (inr (inl (known, h))) =
        let one = h.named.named.2 in
        let vs = known.values.items in record {
          own_columns = h.named.named.0 ∷ [];
          seen = one.0 ∷ [];
          are = one.1;
          wants = one_wanted vs;
          alike = one_alike vs;
          narrowed = h.are ∙ those_several bases content keys base table.0 known h.named.named.0 table.1 h.named.key keys_are nulls fit_rows h.named.named.1;
          out = λ row lacks. (one.0, vs, one.2, out_of_one one.0 vs row lacks);
        }
    wanted_of (inr (inr (c, vs, h))) = record {
      own_columns = c ∷ [];
      seen = h.named.0 ∷ [];
      are = h.named.1;
      wants = one_wanted vs;
      alike = one_alike vs;
      narrowed = h.are ∙ those_with_one content base c vs;
      out = λ row lacks. (h.named.0, vs, h.named.2, out_of_one h.named.0 vs row lacks);
    }

    w : AreWanted
    w = wanted_of s.named

    abbrev Thin : Type 0
    Thin = through.IsThinned tables columns user queries content base s.there w.own_columns w.wants w.alike few_rows w.narrowed (short base) may.meant fitting along w.seen

    thin : Thin
    thin = through.thinned tables columns user queries content base s.there w.own_columns w.wants w.alike few_rows w.narrowed (short base) may.meant fitting along w.seen s.path w.are

    abbrev has : Row → Bool
    has = wanted_in w.wants w.seen

    abbrev ok : List Row → Outcome (List Row)
    ok found_rows = Ok found_rows

    few_are : view_outcome own.rows.items own.failure ≡ ok (filter has thin.all)
    few_are =
        s.shows tables (through.few_right tables columns user queries content base s.there w.own_columns w.wants w.alike few_rows w.narrowed (short base) may.meant fitting along w.seen s.path w.are)
        ∙ thin.few_are ∙ ap ok thin.those

    -- ---- the tables before, and with it

    abbrev now : TablePlace → Outcome (List Row)
    now = over found (showing shown tables)

    abbrev next : TablePlace → Outcome (List Row)
    next = over found (showing (own ∷ shown) tables)

    whole : now (View own.place) ≡ ok thin.all
    whole = ap (λ (o : Option ViewRows). shown_or o (tables (View own.place))) (shown_none own.place shown s.alone.fresh) ∙ thin.all_are

    abbrev left : TablePlace → Row → Bool
    left = one.left now next q (View own.place) s.item s.alone.once has

    abbrev if_own : Bool → Row → Bool
    if_own b row = if b then has row else true

    next_is : (t : TablePlace) → next t ≡ and_then (now t) (λ rs. Ok (filter (left t) rs))
    next_is (Base n) = all_stay (now (Base n))
    next_is (View n) = by (nat_eq own.place n) refl
      where
        by : (b : Bool) → nat_eq own.place n ≡ b → shown_or (cond b (Some own) (find (λ (other : ViewRows). nat_eq other.place n) shown)) (tables (View n)) ≡ and_then (now (View n)) (λ rs. Ok (filter (if_own b) rs))
        by false e = all_stay (now (View n))
        by true e = few_are ∙ sym (ap (λ (o : Outcome (List Row)). and_then o (λ rs. Ok (filter has rs))) (ap (λ m. now (View m)) (sym (eqb-true own.place n e)) ∙ whole))

    fit_next : AreFitting columns next
    fit_next t = subst (Fits AreRowsOf (columns t)) (sym (next_is t)) (fewer_fit (columns t) (now t) (left t) (served.fit t))

    still : (t : TablePlace) → IsNeeded inner t → now t ≡ next t
    still (Base n) needed = refl
    still (View n) needed = by (nat_eq own.place n) refl
      where
        by : (b : Bool) → nat_eq own.place n ≡ b → now (View n) ≡ shown_or (cond b (Some own) (find (λ (other : ViewRows). nat_eq other.place n) shown)) (tables (View n))
        by false e = refl
        by true e = absurd (s.alone.apart (subst (λ m. IsNeeded inner (View m)) (sym (eqb-true own.place n e)) needed))

    -- ---- the lines

    abbrev IsIn : TablePlace → Row → Type 0
    IsIn t row = Has (λ ks. IsRowOf ks row) (columns t) × IsRowAmong found t row

    tables_known : AllByRecursion (λ t. HasValue (columns t)) (items_of q)
    tables_known =
        all_weaker (WellFormedTable (by_place tables) (kinds_by_place columns parameters) (IsDeclaredAt parameters)) (λ t. HasValue (columns t)) (λ t h. h.0) (items_of q)
        (subst (WellFormedSelect (by_place tables) (kinds_by_place columns parameters) (IsDeclaredAt parameters) []) (select_of-out q) (well.stands tables)).0

    rows_there : AllByRecursion (λ t. (rs : List Row) → now t ≡ Ok rs → AllByRecursion (IsIn t) rs) (items_of q)
    rows_there =
        all_weaker (λ t. HasValue (columns t)) (λ t. (rs : List Row) → now t ≡ Ok rs → AllByRecursion (IsIn t) rs)
        (λ t known rs is. all_both (λ row. Has (λ ks. IsRowOf ks row) (columns t)) (IsRowAmong found t) (IsIn t) (λ row p among. (p, among)) rs (kinds_of columns now served.fit t rs known is) (among_found found (showing shown tables) t rs is))
        (items_of q) tables_known

    sure : (t : TablePlace) → may_fail t ≡ false → IsSureOutcome (now t)
    sure (View n) h = cc
    sure (Base n) h = found_sure (showing shown tables) (λ m. all_sure content tables may.meant.bases m) found n

    line_out : (line : Line) → AllZip IsIn (items_of q) line → (row : Row) → slice_get line s.item ≡ Some row → has row ≡ false → is_true (clause_truth (by_place now) (clause_of [] (out-BoundSpecification q).condition) (beneath [] line values user)) ≡ Ok false
    line_out line is row at_item lacks =
        let o = w.out row lacks in
        ap (λ (c : Option BoundCond). is_true (clause_truth (by_place now) (clause_of [] c) (beneath [] line values user))) s.is_where
        ∙ ap is_true
        (o.2 columns parameters [] now [] line row
        (record {
          given = may.inputs;
          is_around = refl;
          rows_around = λ f. tt;
          fits = zip_weaker IsIn (λ t other. Has (λ ks. IsRowOf ks other) (columns t)) (λ t other p. p.0) (items_of q) line is;
          among = zip_weaker IsIn (IsRowAmong found) (λ t other p. p.1) (items_of q) line is;
        })
        (where_on_lines columns parameters q [] s.condition s.is_where well.stands) (where_trusted columns parameters q [] s.condition s.is_where well.notes now served.fit sure) at_item o.3)

    pub one_served : AreServed q columns values user found (own ∷ shown) tables
    one_served = record {
      fit = fit_next;
      same = served.same ∙ one.same_next now next q (View own.place) s.item s.alone.once has next_is (inside_weaker (IsNeeded inner) (λ t. now t ≡ next t) still (select_of q) inside) values user [] IsIn rows_there line_out;
    }

  -- and what there is of it
  pub more_served : (o : Option ViewRows) (all : List ViewRows) → IfSome o (IsShownItem q columns queries content keys values user inner found shown) → all ≡ option_to_list o ++ shown → AreServed q columns values user found shown tables
      → AreServed q columns values user found all tables
  more_served None all s is served = subst (λ (l : List ViewRows). AreServed q columns values user found l tables) (sym is) served
  more_served (Some own) all s is served = subst (λ (l : List ViewRows). AreServed q columns values user found l tables) (sym is) (one_served own s served)

-- ---- items

pub item_at : (q : BoundSpecification) (ts : List TablePlace) (item : ℕ) (d t : TablePlace) → ts ≡ items_of q → item < length (items_of q) → get_or ts item d ≡ t → slice_get (items_of q) item ≡ Some t
item_at q ts item d t are within is = at_index (items_of q) item d t within (subst (λ (l : List TablePlace). get_or l item d ≡ t) are is)

pub item_read : (P : TablePlace → Type 0) (q : BoundSpecification) (item : ℕ) (t : TablePlace) → ReadsSelect P (select_of q) → slice_get (items_of q) item ≡ Some t → P t
item_read P q item t reads at = one_of_all P (items_of q) item t (subst (ReadsSelect P) (select_of-out q) reads).0 at
