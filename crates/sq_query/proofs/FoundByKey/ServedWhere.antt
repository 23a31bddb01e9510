-- A query specification has the rows that it has over the one row at most of each base table that was found among its items and in the
-- subqueries of its WHERE clause (ISO/IEC 9075:1992, 7.4 to 7.9 and 7.11).
use Rattle.std.proofs.Common.{◌≡◌, ◌∙◌, List, [], ◌∷◌, ◌++◌, Option, Some, Result, Bor, refl, sym, subst, Ok, Err}
use Rattle.std.specs.Prelude.{IfOk, Vec}
use Rattle.std.specs.List.{AllByRecursion, AllZip}
use Rattle.std.specs.declared.alloc.Global.{Global}
use Rattle.sq_lex.specs.declared.name.Name.{Name}
use Rattle.sq_value.specs.declared.domain.Kind.{Kind}
use Rattle.sq_value.specs.declared.value.Value.{Value}
use Rattle.sq_store.specs.Content.{Content}
use Rattle.sq_store.specs.Keys.{Keys}
use Rattle.sq_meaning.specs.Environment.{Env, Line, Row, Scope, alone, within}
use Rattle.sq_meaning.specs.Placed.{by_place}
use Rattle.sq_meaning.specs.Query.{clause_truth, rows}
use Rattle.sq_meaning.specs.Rows.{product}
use Rattle.sq_meaning.specs.Status.{Outcome}
use Rattle.sq_meaning.specs.WellFormed.{Has, HasValue, IsDeclaredAt, IsRowOf, WellFormedClause, WellFormedCond, WellFormedSelect, WellFormedTable, kinds_by_place, of_lines}
use Rattle.sq_meaning.proofs.AnswerLaws.{all_weaker}
use Rattle.sq_bound.specs.Condition.{PlacedSelect, clause_of, cond_of, select_of}
use Rattle.sq_bound.specs.Noted.{CondIsNoted, IsNoted}
use Rattle.sq_bound.specs.Numbered.{CondWith}
use Rattle.sq_bound.specs.WellFormed.{Levels, TableKinds}
use Rattle.sq_bound.specs.declared.condition.BoundCond.{BoundCond}
use Rattle.sq_bound.specs.declared.condition.BoundSpecification.{BoundSpecification, out-BoundSpecification}
use Rattle.sq_bound.specs.declared.condition.TablePlace.{TablePlace}
use Rattle.sq_bound.proofs.ConditionLaws.{select_of-out}
use Rattle.sq_bound.proofs.Nested.{select_held}
use Rattle.sq_condition.proofs.Lone.{clause_alone}
use Rattle.sq_expression.specs.Frame.{inputs_of, lent, scopes_beyond}
use Rattle.sq_expression.specs.declared.fault.Fault.{Fault}
use Rattle.sq_expression.specs.declared.table.BaseRows.{BaseRows}
use Rattle.sq_query.specs.Around.{AreRowsAround, IsAround, IsStanding}
use Rattle.sq_query.specs.Inner.{IsInStore, IsLineBeneath, ReadsAround, ServesCond, ServesLine, ServesSelect, StandsSelect, around_tables}
use Rattle.sq_query.specs.Items.{AreMore, Grows, IsReadOf, items_of, over}
use Rattle.sq_query.specs.Sought.{IsLineAmong, IsRowAmong}
use Rattle.sq_query.specs.Needed.{Adds, IsNeeded, ReadsClause, inside_tables}
use Rattle.sq_query.specs.Specification.{IsWhere}
use Rattle.sq_query.specs.Union.{AreFitting}
use Rattle.sq_query.specs.declared.around.Around.{Around}
use Rattle.sq_query.specs.declared.around.Standing.{Standing}
use Rattle.sq_query.specs.declared.needed.Needed.{Needed}
use Rattle.sq_query.proofs.Needs.Added.{around_needed, inside_needed, needs_more}
use Rattle.sq_query.proofs.FoundByKey.FoundRows as step
use Rattle.sq_query.proofs.FoundByKey.FewerRows.{among_found, kinds_of}
use Rattle.sq_query.proofs.FoundByKey.FoundRows.{all_sure}
use Rattle.sq_query.proofs.FoundByKey.ItemRows.{groups_in, list_in, where_in, zip_weaker}
use Rattle.sq_query.proofs.Keys.KeyOut.{all_both}
use Rattle.sq_query.proofs.Keys.KeyTests.{if_some}
use Rattle.sq_query.proofs.FoundByKey.LeftOut.{lines_are, same_by_truths}
use Rattle.sq_query.proofs.Needs.NeededViews.{clause_weaker}
use Rattle.sq_query.proofs.FoundByKey.Served as served

module _ (q : BoundSpecification) (content : Content) (keys : List Keys) (values : List Value) (caller : Name) (elsewhere : Needed) (a : Around) where
  abbrev ServeSelect : List BaseRows → List BaseRows → Type 0
  ServeSelect = ServesSelect q elsewhere a content keys values caller

  abbrev SameRows : (before after : TablePlace → Outcome (List Row)) → Env (Unit {0}) → Type 0
  SameRows f g env = rows (by_place f) (select_of q) env ≡ rows (by_place g) (select_of q) env

  abbrev env_in : List (Scope (Unit {0})) → Env (Unit {0})
  env_in scopes = record { scopes = scopes; inputs = inputs_of values; user = caller }

  pub select_none : (before : List BaseRows) → ServeSelect before before
  select_none = served.none_serve content keys values caller elsewhere a (StandsSelect q) SameRows (λ f env. refl) (λ f g h env p r. p ∙ r)

  pub select_both : (before now after : List BaseRows) → ServeSelect before now → ServeSelect now after → ServeSelect before after
  select_both = served.both_serve content keys values caller elsewhere a (StandsSelect q) SameRows (λ f env. refl) (λ f g h env p r. p ∙ r)

  pub select_then : (before now : List BaseRows) (r : Result (Vec BaseRows Global) Fault) → ServeSelect before now → IfOk r (λ found. ServeSelect now found.items) → IfOk r (λ found. ServeSelect before found.items)
  select_then before now (Err e) first second = tt
  select_then before now (Ok found) first second = select_both before now found.items first second

  -- ---- items that were found by keys

  module _ (others : Needed) (adds : Adds elsewhere (inside_tables (select_of q)) others) where
    one_item : (found : List BaseRows) (own : BaseRows) → IsReadOf q others content keys a values caller found own → ServeSelect found (own ∷ found)
    one_item found own r columns parameters levels tables given stands fitting =
        let sure = all_sure content tables given.stored in
        let inside = inside_needed elsewhere others (select_of q) adds in
        record {
          fit = step.next_fits given.bases columns content keys given.keys_are given.not_null given.keyed given.there parameters values caller given.inputs tables sure q levels stands.0 stands.1 others inside (λ n free. given.stored n) a found own r fitting;
          apart = λ t h.
              step.still given.bases columns content keys given.keys_are given.not_null given.keyed given.there parameters values caller given.inputs tables sure q levels stands.0 stands.1 others inside (λ n free. given.stored n) a found own r fitting t
              (needs_more elsewhere others (inside_tables (select_of q)) adds t h);
          same = λ scopes is_around rows_around.
              step.one_more given.bases columns content keys given.keys_are given.not_null given.keyed given.there parameters values caller given.inputs tables sure q levels stands.0 stands.1 others inside (λ n free. given.stored n) a found own r fitting
              scopes is_around rows_around;
        }

    more_items : (before more : List BaseRows) → AreMore (IsReadOf q others content keys a values caller) before more → ServeSelect before (more ++ before)
    more_items before [] h = select_none before
    more_items before (own ∷ more) h = select_both before (more ++ before) (own ∷ more ++ before) (more_items before more h.1) (one_item (more ++ before) own h.0)

    pub items_serve : (before after : List BaseRows) → Grows (IsReadOf q others content keys a values caller) before after → ServeSelect before after
    items_serve before after grown = subst (ServeSelect before) (sym grown.1) (more_items before grown.0 grown.2)

  -- ---- what was found in the subqueries of WHERE

  module _ (c : BoundCond) (is_where : IsWhere q c) (others : Needed) (adds : Adds elsewhere (around_tables (select_of q)) others) (before after : List BaseRows) (standing : Standing) (row_line : List (Bor Row)) (known : IsLineBeneath q a before standing row_line)
      (l : ServesLine c others standing (alone [] (lent row_line) ∷ scopes_beyond a.lines) content keys values caller before after) where
    abbrev ts : List TablePlace
    ts = items_of q

    beneath : (scopes : List (Scope (Unit {0}))) (line : Line) → IsAround a scopes → IsLineAmong before ts line → IsAround l.a (alone [] line ∷ scopes)
    beneath scopes line around among =
        subst (λ (b : Standing). IsStanding b (scopes_beyond l.a.lines) (alone [] line ∷ scopes)) (sym l.stands)
        (subst (λ (ss : List (Scope (Unit {0}))). IsStanding standing ss (alone [] line ∷ scopes)) (sym l.lines) (known scopes line around among))

    besides : (P : TablePlace → Type 0) → ReadsAround P (select_of q) → AllByRecursion P ts × ReadsClause P (groups_in q).having
    besides P reads = subst (ReadsAround P) (select_of-out q) reads

    module _ (columns : TableKinds) (parameters : List Kind) (levels : Levels) (tables : TablePlace → Outcome (List Row)) (given : IsInStore columns parameters content keys values tables) (stands : StandsSelect q columns parameters levels)
        (fitting : AreFitting columns (over before tables)) where
      abbrev now : TablePlace → Outcome (List Row)
      now = over before tables

      abbrev next : TablePlace → Outcome (List Row)
      next = over after tables

      cond_stands : (f : TablePlace → Outcome (List Row)) → WellFormedCond (by_place f) (kinds_by_place columns parameters) (IsDeclaredAt parameters) (of_lines ts ∷ levels) (cond_of [] c)
      cond_stands f =
          let clause = (subst (WellFormedSelect (by_place f) (kinds_by_place columns parameters) (IsDeclaredAt parameters) levels) (select_of-out q) (stands.0 f)).2 in
          subst (λ (o : Option BoundCond). WellFormedClause (by_place f) (kinds_by_place columns parameters) (IsDeclaredAt parameters) (of_lines ts ∷ levels) (clause_of [] o)) is_where clause

      cond_notes : CondIsNoted c
      cond_notes = if_some (CondWith IsNoted) (out-BoundSpecification q).condition c (select_held IsNoted q stands.1).0 is_where

      tables_known : AllByRecursion (λ t. HasValue (columns t)) ts
      tables_known =
          all_weaker (WellFormedTable (by_place tables) (kinds_by_place columns parameters) (IsDeclaredAt parameters)) (λ t. HasValue (columns t)) (λ t h. h.0) ts
          (subst (WellFormedSelect (by_place tables) (kinds_by_place columns parameters) (IsDeclaredAt parameters) levels) (select_of-out q) (stands.0 tables)).0

      abbrev IsIn : TablePlace → Row → Type 0
      IsIn t row = Has (λ ks. IsRowOf ks row) (columns t) × IsRowAmong before t row

      rows_are : AllByRecursion (λ t. (rs : List Row) → now t ≡ Ok rs → AllByRecursion (IsIn t) rs) ts
      rows_are =
          all_weaker (λ t. HasValue (columns t)) (λ t. (rs : List Row) → now t ≡ Ok rs → AllByRecursion (IsIn t) rs)
          (λ t there rs is.
          all_both (λ row. Has (λ ks. IsRowOf ks row) (columns t)) (IsRowAmong before t) (IsIn t) (λ row p s. (p, s)) rs (kinds_of columns now fitting t rs there is) (among_found before tables t rs is))
          ts tables_known

      module _ (apart : (t : TablePlace) → IsNeeded others t → now t ≡ next t)
          (same : (scopes : List (Scope (Unit {0}))) → IsAround l.a scopes → AreRowsAround columns parameters (of_lines ts ∷ levels) scopes → clause_truth (by_place now) (clause_of [] (Some c)) (env_in scopes) ≡ clause_truth (by_place next) (clause_of [] (Some c)) (env_in scopes))
          (scopes : List (Scope (Unit {0}))) (is_around : IsAround a scopes) (rows_around : AreRowsAround columns parameters levels scopes) where
        on_line : (heads : List (Unit {0})) (line : Line) → AllZip IsIn ts line
            → clause_truth (by_place now) (where_in q) (within (alone heads line) (env_in scopes)) ≡ clause_truth (by_place next) (where_in q) (within (alone heads line) (env_in scopes))
        on_line heads line is =
            let inner : List (Scope (Unit {0})) = alone [] line ∷ scopes in
            let around : AreRowsAround columns parameters (of_lines ts ∷ levels) inner = λ f. (record { line = zip_weaker IsIn (λ t row. Has (λ ks. IsRowOf ks row) (columns t)) (λ t row p. p.0) ts line is; group = tt }, rows_around f) in
            let among : IsLineAmong before ts line = zip_weaker IsIn (IsRowAmong before) (λ t row p. p.1) ts line is in
            clause_alone now heads line (env_in scopes) (out-BoundSpecification q).condition
            ∙ (λ i. clause_truth (by_place now) (clause_of [] (is_where i)) (within (alone [] line) (env_in scopes)))
            ∙ same inner (beneath scopes line is_around among) around
            ∙ sym (λ i. clause_truth (by_place next) (clause_of [] (is_where i)) (within (alone [] line) (env_in scopes)))
            ∙ sym (clause_alone next heads line (env_in scopes) (out-BoundSpecification q).condition)

        all_same : rows (by_place now) (select_of q) (env_in scopes) ≡ rows (by_place next) (select_of q) (env_in scopes)
        all_same =
            let reads = around_needed elsewhere others (select_of q) adds in
            let same_items = all_weaker (IsNeeded others) (λ t. now t ≡ next t) apart ts (besides (IsNeeded others) reads).0 in
            let having = clause_weaker (IsNeeded others) (λ t. now t ≡ next t) apart (groups_in q).having (besides (IsNeeded others) reads).1 in
            subst (λ (s : PlacedSelect). rows (by_place now) s (env_in scopes) ≡ rows (by_place next) s (env_in scopes)) (sym (select_of-out q))
            (same_by_truths now next (out-BoundSpecification q).distinct (list_in q) ts (where_in q) (groups_in q).columns (groups_in q).having (env_in scopes) same_items having
            (λ heads tabs e. all_weaker (AllZip IsIn ts)
            (λ line. clause_truth (by_place now) (where_in q) (within (alone heads line) (env_in scopes)) ≡ clause_truth (by_place next) (where_in q) (within (alone heads line) (env_in scopes))) (on_line heads) (product tabs)
            (lines_are now IsIn ts rows_are tabs e)))

    pub where_serves : ServeSelect before after
    where_serves columns parameters levels tables given stands fitting =
        let s = l.serves columns parameters (of_lines ts ∷ levels) tables given (cond_stands columns parameters levels tables given stands fitting, cond_notes columns parameters levels tables given stands fitting) fitting in record {
          fit = s.fit;
          apart = λ t h. s.apart t (needs_more elsewhere others (around_tables (select_of q)) adds t h);
          same = all_same columns parameters levels tables given stands fitting s.apart s.same;
        }

-- in the result of a search
pub where_found : (q : BoundSpecification) (content : Content) (keys : List Keys) (values : List Value) (caller : Name) (elsewhere : Needed) (a : Around) (c : BoundCond) → IsWhere q c → (others : Needed) → Adds elsewhere (around_tables (select_of q)) others
    → (before : List BaseRows) (standing : Standing) (line : List (Bor Row)) → IsLineBeneath q a before standing line → (r : Result (Vec BaseRows Global) Fault)
    → IfOk r (λ found. ServesLine c others standing (alone [] (lent line) ∷ scopes_beyond a.lines) content keys values caller before found.items) → IfOk r (λ found. ServesSelect q elsewhere a content keys values caller before found.items)
where_found q content keys values caller elsewhere a c is_where others adds before standing line known (Err e) l = tt
where_found q content keys values caller elsewhere a c is_where others adds before standing line known (Ok found) l = where_serves q content keys values caller elsewhere a c is_where others adds before found.items standing line known l

pub line_found : (c : BoundCond) (content : Content) (keys : List Keys) (values : List Value) (caller : Name) (elsewhere : Needed) (a : Around) (scopes : List (Scope (Unit {0}))) → scopes_beyond a.lines ≡ scopes → (before : List BaseRows) (r : Result (Vec BaseRows Global) Fault)
    → IfOk r (λ found. ServesCond (cond_of [] c) (CondIsNoted c) elsewhere a content keys values caller before found.items) → IfOk r (λ found. ServesLine c elsewhere a.standing scopes content keys values caller before found.items)
line_found c content keys values caller elsewhere a scopes is before (Err e) h = tt
line_found c content keys values caller elsewhere a scopes is before (Ok found) h = record { a = a; stands = refl; lines = is; serves = h }
