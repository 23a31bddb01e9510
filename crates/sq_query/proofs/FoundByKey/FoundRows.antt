-- A query specification has the rows that it has over those rows of each base table in its FROM clause that its WHERE clause names by values
-- of a key (ISO/IEC 9075:1992, 7.4 to 7.6).
use Rattle.std.proofs.Common.{◌≡◌, ◌∙◌, ◌<◌, ◌⊎◌, inl, inr, ℕ, Bool, true, false, true≢false, List, [], ◌∷◌, length, map, nat_lt, slice_get, Option, Some, None, refl, sym, ap, subst, Ok}
use Rattle.std.specs.Prelude.{filter, if◌then◌else◌}
use Rattle.std.specs.Cmp.Lexicographic.{pointwise}
use Rattle.std.specs.List.{AllZip, Contains, list_any}
use Rattle.sq_lex.specs.declared.name.Name.{Name}
use Rattle.sq_value.specs.Comparison.{is_same}
use Rattle.sq_value.specs.Key.{in_columns}
use Rattle.sq_value.specs.SetFunctions.{is_null}
use Rattle.sq_value.specs.declared.domain.Kind.{Kind}
use Rattle.sq_value.specs.declared.value.Value.{Value}
use Rattle.sq_store.specs.Content.{Content, table_at}
use Rattle.sq_store.specs.Keys.{Keys, are_keyed, has_key, key_at, keys_at}
use Rattle.sq_store.specs.declared.table.Numbered.{Numbered}
use Rattle.sq_store.specs.declared.table.Table.{Table}
use Rattle.sq_meaning.specs.Environment.{Env, Line, Row, Scope, within}
use Rattle.sq_meaning.specs.Placed.{by_place}
use Rattle.sq_meaning.specs.Query.{clause_truth, is_true, rows}
use Rattle.sq_meaning.specs.Status.{Outcome, and_then, not_well_formed, well_formed}
use Rattle.sq_meaning.specs.Sure.{IsSureOutcome}
use Rattle.sq_meaning.specs.Tables.{rows_in}
use Rattle.sq_meaning.specs.WellFormed.{Has, IsDeclaredAt, IsRowOf, WellFormedSelect, kinds_by_place}
use Rattle.sq_bound.specs.Condition.{clause_of, cond_of, select_of}
use Rattle.sq_bound.specs.Fits.{has_its_values, keys_of_bases, not_nulls_hold}
use Rattle.sq_bound.specs.Noted.{SelectIsNoted, may_fail}
use Rattle.sq_bound.specs.WellFormed.{BasesAreThere, Levels, TableKinds}
use Rattle.sq_bound.specs.declared.condition.BoundCond.{BoundCond}
use Rattle.sq_bound.specs.declared.condition.BoundSpecification.{BoundSpecification}
use Rattle.sq_bound.specs.declared.condition.TablePlace.{TablePlace}
use Rattle.sq_bound.specs.declared.condition.TablePlace.TheVariants.{Base, View}
use Rattle.sq_bound.specs.declared.names.BaseTable.{BaseTable}
use Rattle.sq_expression.specs.Frame.{inputs_of, lent, scopes_beyond}
use Rattle.sq_expression.specs.declared.table.BaseRows.{BaseRows}
use Rattle.sq_query.specs.Around.{AreRowsAround, IsAround, IsStanding, beneath}
use Rattle.sq_query.specs.Items.{IsByKey, IsNamed, IsNoneNeeded, IsReadOf, is_empty_item, items_of, over, rows_or}
use Rattle.sq_query.specs.Named.{AreTrustedIn, HasOther, IsFalseOn, IsOneOf, StandsOnLines}
use Rattle.sq_query.specs.Needed.{IsNeeded, ReadsInside}
use Rattle.sq_query.specs.Several.{has_one_of}
use Rattle.sq_query.specs.Sought.{IsRowAmong, found_of}
use Rattle.sq_query.specs.Table.{AreOfStore, stored_rows}
use Rattle.sq_query.specs.Union.{AreFitting}
use Rattle.sq_query.specs.Valued.{may_have_one}
use Rattle.sq_query.specs.declared.around.Around.{Around}
use Rattle.sq_query.specs.declared.around.Standing.{Standing}
use Rattle.sq_query.specs.declared.around.Standing.TheVariants.{OnNoLine}
use Rattle.sq_query.specs.declared.named.Sure.TheVariants.{Noted}
use Rattle.sq_query.specs.declared.needed.Needed.{Needed}
use Rattle.sq_query.proofs.FoundByKey.FewerRows as few
use Rattle.sq_query.proofs.FoundByKey.ItemRows.{filter_mapped, filter_nothing, filter_one, no_line_among, where_in, zip_at, zip_weaker}
use Rattle.sq_query.proofs.Keys.KeyColumns.{key_not_null, key_value}
use Rattle.sq_query.proofs.Keys.KeyLacked.{lacked}
use Rattle.sq_query.proofs.Keys.KeysSearch.{none_same, only_one}
use Rattle.sq_query.proofs.Keys.OnlyOne.{at_most_one, distinct_at}
use Rattle.sq_query.proofs.FoundByKey.WhereOnLines.{where_on_lines, where_trusted}
use Rattle.sq_query.proofs.FoundByKey.WithOne.{other_values}

-- ---- tables that never end with a status

-- reading what is stored never ends with a status
stored_sure : (b : Bool) (t : Table) → IsSureOutcome (and_then (if b then (let is : Outcome Table = Ok t in is) else not_well_formed) (λ found. Ok (rows_in found)))
stored_sure true t = inl tt
stored_sure false t = inr refl

pub all_sure : (content : Content) (tables : TablePlace → Outcome (List Row)) → AreOfStore content tables → (n : ℕ) → IsSureOutcome (tables (Base n))
all_sure content tables stored n = subst IsSureOutcome (sym (stored n)) (stored_sure (nat_lt n (length content)) (table_at content n))

-- nor what was found
pub found_sure : (tables : TablePlace → Outcome (List Row)) → ((n : ℕ) → IsSureOutcome (tables (Base n))) → (found : List BaseRows) (n : ℕ) → IsSureOutcome (over found tables (Base n))
found_sure tables sure found n = by (found_of n found)
  where
    by : (o : Option BaseRows) → IsSureOutcome (rows_or o (tables (Base n)))
    by (Some own) = inl tt
    by None = sure n

module _ (bases : List BaseTable) (columns : TableKinds) (content : Content) (keys : List Keys) (keys_are : keys ≡ keys_of_bases bases) (nulls : not_nulls_hold bases content ≡ true) (keyed : are_keyed keys content ≡ true)
    (bases_there : BasesAreThere bases columns) (parameters : List Kind) (values : List Value) (caller : Name) (given : IsRowOf parameters values) (tables : TablePlace → Outcome (List Row)) (sure : (n : ℕ) → IsSureOutcome (tables (Base n)))
    (q : BoundSpecification) (around : Levels) (stands : (now : TablePlace → Outcome (List Row)) → WellFormedSelect (by_place now) (kinds_by_place columns parameters) (IsDeclaredAt parameters) around (select_of q)) (notes : SelectIsNoted q)
    (inner : Needed) (inside : ReadsInside (IsNeeded inner) (select_of q)) (stored : (n : ℕ) → (IsNeeded inner (Base n) → ⊥) → tables (Base n) ≡ stored_rows content n) (a : Around) where
  abbrev ts : List TablePlace
  ts = items_of q

  abbrev env : List (Scope (Unit {0})) → Env (Unit {0})
  env scopes = record { scopes = scopes; inputs = inputs_of values; user = caller }

  over_sure : (found : List BaseRows) (t : TablePlace) → may_fail t ≡ false → IsSureOutcome (over found tables t)
  over_sure found (View n) h = absurd (true≢false h)
  over_sure found (Base n) h = found_sure tables sure found n

  -- ---- one table more

  module _ (found : List BaseRows) (own : BaseRows) (r : IsReadOf q inner content keys a values caller found own) (fitting : AreFitting columns (over found tables)) where
    abbrev place : ℕ
    place = own.place

    abbrev now : TablePlace → Outcome (List Row)
    now = over found tables

    abbrev next : TablePlace → Outcome (List Row)
    next = over (own ∷ found) tables

    abbrev all_rows : List Row
    all_rows = rows_in (table_at content place)

    abbrev base : (b : BaseTable) × (slice_get bases place ≡ Some b)
    base = few.base bases columns content nulls bases_there parameters values caller tables q around (stands tables) inner inside stored found own r.item r.at r.there r.alone fitting

    -- what is known of a row in a line
    abbrev IsIn : TablePlace → Row → Type 0
    IsIn = few.IsIn bases columns content nulls bases_there parameters values caller tables q around (stands tables) inner inside stored found own r.item r.at r.there r.alone fitting

    -- ---- some rows of it are left out

    abbrev IsFalse : BoundCond → ℕ → List Value → Type 0
    IsFalse c = IsFalseOn r.item ts found a values caller (AreTrustedIn Noted c) (cond_of [] c)

    abbrev has_named : (c : BoundCond) → IsNamed (IsFalse c) content keys own → Row → Bool
    has_named c (inl k) row = pointwise is_same k.0.values (in_columns row (key_at keys place k.0.key))
    has_named c (inr (inl k)) row = list_any (λ v. pointwise is_same (v ∷ []) (in_columns row (key_at keys place k.0.key))) k.0.values.items
    has_named c (inr (inr k)) row = may_have_one k.0 k.1 row

    few_named : (c : BoundCond) (k : IsNamed (IsFalse c) content keys own) → lent own.rows.items ≡ filter (has_named c k) all_rows
    few_named c (inl k) =
        k.1.are
        ∙ ap (map (λ (s : Numbered). s.row))
        (sym (filter_one (has_key (key_at keys place k.0.key) k.0.values) (table_at content place).rows
        (at_most_one (key_at keys place k.0.key) k.0.values (table_at content place).rows (distinct_at keys content place k.0.key keyed r.there k.1.named.key))))
        ∙ sym (filter_mapped (λ (s : Numbered). s.row) (has_named c (inl k)) (table_at content place).rows)
    few_named c (inr (inl k)) = k.1.are ∙ sym (filter_mapped (λ (s : Numbered). s.row) (has_named c (inr (inl k))) (table_at content place).rows)
    few_named c (inr (inr k)) = k.2.are

    few_none : IsNoneNeeded q found a own → lent own.rows.items ≡ filter (λ (row : Row). false) all_rows
    few_none n = n.none ∙ sym (filter_nothing all_rows)

    fewer : (has : Row → Bool) → lent own.rows.items ≡ filter has all_rows → AreFitting columns next
    fewer = few.fewer bases columns content nulls bases_there parameters values caller tables q around (stands tables) inner inside stored found own r.item r.at r.there r.alone fitting

    pub next_fits : AreFitting columns next
    next_fits = by r.rows
      where
        by : IsByKey q r.item content keys found a values caller own ⊎ IsNoneNeeded q found a own → AreFitting columns next
        by (inl k) = fewer (has_named k.condition k.named) (few_named k.condition k.named)
        by (inr n) = fewer (λ row. false) (few_none n)

    -- what stands elsewhere is read as before
    pub still : (t : TablePlace) → IsNeeded inner t → now t ≡ next t
    still = few.still bases columns content nulls bases_there parameters values caller tables q around (stands tables) inner inside stored found own r.item r.at r.there r.alone fitting

    -- ---- within the scopes around

    module _ (scopes : List (Scope (Unit {0}))) (is_around : IsAround a scopes) (rows_around : AreRowsAround columns parameters around scopes) where
      abbrev wanted : Line → Outcome Bool
      wanted line = is_true (clause_truth (by_place now) (where_in q) (beneath scopes line values caller))

      same_next : (has : Row → Bool) → lent own.rows.items ≡ filter has all_rows → ((line : Line) → AllZip IsIn ts line → (row : Row) → slice_get line r.item ≡ Some row → has row ≡ false → wanted line ≡ Ok false)
          → rows (by_place now) (select_of q) (env scopes) ≡ rows (by_place next) (select_of q) (env scopes)
      same_next has few_are =
          few.same_next bases columns content nulls bases_there parameters values caller tables q around (stands tables) inner inside stored found own r.item r.at r.there r.alone fitting has few_are scopes

      -- ---- by a key

      module _ (k : IsByKey q r.item content keys found a values caller own) where
        where_stands : StandsOnLines columns parameters around ts (cond_of [] k.condition)
        where_stands = where_on_lines columns parameters q around k.condition k.is_where stands

        trusted : AreTrustedIn Noted k.condition columns now
        trusted = where_trusted columns parameters q around k.condition k.is_where notes now fitting (over_sure found)

        module _ (line : Line) (is : AllZip IsIn ts line) (row : Row) (at_item : slice_get line r.item ≡ Some row) where
          has_values : has_its_values base.0 row ≡ true
          has_values =
              let there = zip_at IsIn ts line r.item (Base place) is r.at in
              let e = there.2 in let same : there.0 ≡ row = cc in subst (λ (s : Row). has_its_values base.0 s ≡ true) same (there.1.2 refl)

          not_null : (key : ℕ) → key < length (keys_at keys place) → (n : ℕ) (x : Value) → Contains (key_at keys place key) n → well_formed (slice_get row n) ≡ Ok x → is_null x ≡ false
          not_null key within n x among cell = key_value base.0 (key_at keys place key) row (key_not_null bases keys place base.0 key keys_are base.1 within) has_values n x among cell

          out_so : (n : ℕ) (vs : List Value) → IsFalse k.condition n vs → HasOther row n vs → wanted line ≡ Ok false
          out_so n vs h other =
              ap (λ (c : Option BoundCond). is_true (clause_truth (by_place now) (clause_of [] c) (beneath scopes line values caller))) k.is_where
              ∙ ap is_true (h columns parameters around now scopes line row
              (record {
                given = given;
                is_around = is_around;
                rows_around = rows_around;
                fits = zip_weaker IsIn (λ t other. Has (λ ks. IsRowOf ks other) (columns t)) (λ t other p. p.0) ts line is;
                among = zip_weaker IsIn (IsRowAmong found) (λ t other p. p.1) ts line is;
              }) where_stands trusted at_item other)

          out_named : (named : IsNamed (IsFalse k.condition) content keys own) → has_named k.condition named row ≡ false → wanted line ≡ Ok false
          out_named (inl (known, h)) lacks =
              let f = lacked {R = IsOneOf (IsFalse k.condition)} (key_at keys place known.key) known.values row h.named.named lacks in
              out_so f.0 (f.1 ∷ []) f.3 (record { not_null = λ x cell. not_null known.key h.named.key f.0 x f.2 cell; differs = (f.4, tt) })
          out_named (inr (inr k)) lacks = out_so k.0 k.1 k.2.named (other_values k.0 k.1 row lacks)
          out_named (inr (inl (known, h))) lacks =
              let n = h.named.named.0 in
              let only = h.named.named.1 in
              let own_row : Numbered = record { number = 0; row = row } in
              out_so n known.values.items h.named.named.2
              (record {
                not_null = λ x cell. not_null known.key h.named.key n x (only_one (key_at keys place known.key) n only) cell;
                differs = none_same n known.values.items own_row (ap (λ (ns : List ℕ). has_one_of ns known.values.items own_row) (sym only) ∙ lacks);
              })

      -- ---- where there is no line

      module _ (n : IsNoneNeeded q found a own) where
        no_line : (line : Line) → AllZip IsIn ts line → ⊥
        no_line line is = by n.why
          where
            by : (a.standing ≡ OnNoLine) ⊎ (list_any (is_empty_item found) ts ≡ true) → ⊥
            by (inl e) = subst (λ (b : Standing). IsStanding b (scopes_beyond a.lines) scopes) e is_around
            by (inr h) = no_line_among found ts line h (zip_weaker IsIn (IsRowAmong found) (λ t other p. p.1) ts line is)

      pub one_more : rows (by_place now) (select_of q) (env scopes) ≡ rows (by_place next) (select_of q) (env scopes)
      one_more = by r.rows
        where
          by : IsByKey q r.item content keys found a values caller own ⊎ IsNoneNeeded q found a own → rows (by_place now) (select_of q) (env scopes) ≡ rows (by_place next) (select_of q) (env scopes)
          by (inl k) = same_next (has_named k.condition k.named) (few_named k.condition k.named) (λ line is row at_item. out_named k line is row at_item k.named)
          by (inr n) = same_next (λ row. false) (few_none n) (λ line is row at_item lacks. absurd (no_line n line is))
