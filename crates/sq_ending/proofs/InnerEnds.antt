-- From view to view: the query of a view reads earlier views alone, and ends with the status with which the item that is the view ends.
use Rattle.std.proofs.Common.{◌≡◌, ℕ, zero, suc, ◌<◌, ◌≤◌, arith, List, [], ◌∷◌, slice_get, Option, Some, None, Result, sym, ◌∙◌, ap, subst, Ok, Err}
use Rattle.std.specs.Prelude.{IfOk, IsSomeAnd}
use Rattle.std.specs.List.{AllByRecursion}
use Rattle.std.specs.declared.alloc.AllocError.{AllocError}
use Rattle.std.proofs.lemmas.Option.{same_Some}
use Rattle.sq_lex.specs.declared.name.Name.{Name}
use Rattle.sq_value.specs.declared.value.Value.{Value}
use Rattle.sq_store.specs.Content.{Content}
use Rattle.sq_meaning.specs.Status.{Outcome}
use Rattle.sq_meaning.specs.WellFormed.{HasValue}
use Rattle.sq_meaning.specs.declared.status.Status.{Status}
use Rattle.sq_meaning.proofs.AnswerLaws.{all_weaker}
use Rattle.sq_bound.specs.WellFormed.{before_view}
use Rattle.sq_bound.specs.declared.condition.BoundSpecification.{BoundSpecification}
use Rattle.sq_bound.specs.declared.condition.TablePlace.{TablePlace}
use Rattle.sq_bound.specs.declared.condition.TablePlace.TheVariants.{Base, View}
use Rattle.sq_bound.specs.declared.names.View.{View as BoundView}
use Rattle.sq_bound.proofs.ConditionLaws.{select_of-out}
use Rattle.sq_condition.specs.Specification.{items_in}
use Rattle.sq_query.specs.Needed.{ReadsSelect}
use Rattle.sq_query.proofs.Needs.MeantTables.{StandsBefore}
use Rattle.sq_query.proofs.Needs.NeededViews.{reads_known, stands_before}
use Rattle.sq_ending.specs.Ending.{IsClauseEnd, IsFromEnd, IsQueryEnd, Seen, rows_of}
use Rattle.sq_ending.specs.Inside.{EndsInThere, EndsInside, IsInnerEnd, IsThrough, IsViewOf, OverAll, inside, views_end}
use Rattle.sq_ending.specs.Read.{Known}
use Rattle.sq_ending.specs.declared.ends.Clause.{Clause}
use Rattle.sq_ending.specs.declared.ends.QueryEnd.{QueryEnd}
use Rattle.sq_ending.specs.declared.inside.InnerEnd.{InnerEnd}
use Rattle.sq_ending.proofs.ViewRows.{select_wide, view_meant}

-- ---- the places of views go down

ends_by : (place : ℕ) (from : List TablePlace) → AllByRecursion (StandsBefore place) from → views_end from ≤ place
ends_by place [] all = omega arith
ends_by place (Base n ∷ from) all = ends_by place from all.1
ends_by place (View n ∷ from) all = let less : n < place = all.0 in let rest = ends_by place from all.1 in omega arith

at_most : (from : List TablePlace) (n place : ℕ) → slice_get from n ≡ Some (View place) → place < views_end from
at_most [] n place at = absurd cc
at_most (t ∷ from) zero place at = subst (λ (u : TablePlace). place < views_end (u ∷ from)) (sym (same_Some t (View place) at)) (omega arith)
at_most (Base m ∷ from) (suc n) place at = at_most from n place at
at_most (View m ∷ from) (suc n) place at = let rest = at_most from n place at in omega arith

module _ (known : Known) (q : BoundSpecification) (c : Clause) (view : BoundView) (of : IsViewOf known q c view) where
  standing : (t : TablePlace) → HasValue (before_view view.place known.columns t) → StandsBefore view.place t
  standing (Base n) has = tt
  standing (View n) has = stands_before known.columns view.place (View n) has

  items_before : AllByRecursion (StandsBefore view.place) (items_in view.query)
  items_before =
      let reads = reads_known (before_view view.place known.columns) [] [] view.query of.well_formed in
      let parts = subst (ReadsSelect (λ t. HasValue (before_view view.place known.columns t))) (select_of-out view.query) reads in
      all_weaker (λ t. HasValue (before_view view.place known.columns t)) (StandsBefore view.place) standing (items_in view.query) parts.0

  pub views_go_down : views_end (items_in view.query) < views_end (items_in q)
  views_go_down = let less = ends_by view.place (items_in view.query) items_before in let more = at_most (items_in q) of.item view.place of.at in omega arith

-- ---- the status of a view's query is that of the view

same_err : {A : Type 0} (s t : Status) → (let o : Outcome A = Err s in o) ≡ Err t → s ≡ t
same_err s t h = cc

-- a query that ends inside ends with the status
inner_whole : (queries : List BoundSpecification) (seen : Seen) (q : BoundSpecification) (places : List ℕ) (e : QueryEnd) → IsInnerEnd queries seen q places e → rows_of seen q ≡ Err e.end.status
inner_whole queries seen q [] e h = h.whole
inner_whole queries seen q (place ∷ places) e (inner, through, rest) = through.whole

module _ (known : Known) (content : Content) (user : Name) (values : List Value) (q : BoundSpecification) (end : QueryEnd) where
  -- it ends here
  pub ends_here : (e : InnerEnd) → e.views.items ≡ [] → e.end ≡ end → OverAll known content user values q (λ seen. IsQueryEnd seen q end → EndsInThere known.queries seen q (Some e))
  ends_here e none same = λ parameters tables may well h.
      let seen : Seen = record { tables = tables; values = values; user = user } in
      subst (λ (ps : List ℕ). IsInnerEnd known.queries seen q ps e.end) (sym none) (subst (IsQueryEnd seen q) (sym same) h)

  module _ (view : BoundView) (of : IsViewOf known q end.end.clause view) where
    from_of : (seen : Seen) → IsQueryEnd seen q end → IsFromEnd seen q of.item end.end.status
    from_of seen h = (subst (λ (c : Clause). IsClauseEnd seen q c end.line.items end.end.status) of.is_from h.there).1

    -- it ends inside the query of the view
    pub ends_through : (inner : InnerEnd) → EndsInside known content user [] view.query (Some inner) → (r : Result (Option InnerEnd) AllocError)
        → IfOk r (λ f. IsSomeAnd f (λ all. (all.views.items ≡ view.place ∷ inner.views.items) × (all.end ≡ inner.end)))
        → IfOk r (λ found. OverAll known content user values q (λ seen. IsQueryEnd seen q end → EndsInThere known.queries seen q found))
    ends_through inner ends (Err error) is = tt
    ends_through inner ends (Ok None) is = absurd is
    ends_through inner ends (Ok (Some all)) (places, same) = λ parameters tables may well h.
        let seen : Seen = record { tables = tables; values = values; user = user } in
        let within = ends [] tables (record { inputs = tt; there = may.there; in_domains = may.in_domains; meant = may.meant }) (select_wide known.columns view.place view.query of.well_formed) in
        let from = from_of seen h in
        let table : from.table ≡ View view.place = same_Some _ _ (sym from.at ∙ of.at) in
        let status : end.end.status ≡ inner.end.end.status =
        same_err end.end.status inner.end.end.status
        (sym from.ends ∙ ap tables table ∙ view_meant known.queries content user tables view.place view.query may.meant of.among ∙ inner_whole known.queries (inside seen) view.query inner.views.items inner.end within)
        in
        let there : IsThrough known.queries seen q view.place view.query inner.end.end.status =
        subst (IsThrough known.queries seen q view.place view.query) status (record { whole = h.whole; item = of.item; at = of.at; ends = from; is_query = of.among })
        in
        subst (λ (ps : List ℕ). IsInnerEnd known.queries seen q ps all.end) (sym places)
        (subst (IsInnerEnd known.queries seen q (view.place ∷ inner.views.items)) (sym same) (view.query, there, within))

-- what is found of a query that ends there
pub ends_over : (known : Known) (content : Content) (user : Name) (values : List Value) (q : BoundSpecification) (end : QueryEnd) (r : Result (Option InnerEnd) AllocError)
    → OverAll known content user values q (λ seen. IsQueryEnd seen q end)
    → IfOk r (λ found. OverAll known content user values q (λ seen. IsQueryEnd seen q end → EndsInThere known.queries seen q found))
    → IfOk r (EndsInside known content user values q)
ends_over known content user values q end (Err e) is h = tt
ends_over known content user values q end (Ok found) is h = λ parameters tables may well. h parameters tables may well (is parameters tables may well)
