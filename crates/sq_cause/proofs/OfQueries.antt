-- The query specifications of a statement, and their ends as causes.
use Rattle.std.proofs.Common.{◌≡◌, ◌∙◌, ℕ, zero, suc, ◌+◌, ◌<◌, ◌≤◌, List, [], ◌∷◌, ◌++◌, Option, Some, None, Result, Ok, Err, IfOk, IfSome, append_assoc, append-nil, ap, arith, drop, get_or, length, slice_get, subst, sym, refl}
use Rattle.std.specs.Borrow.{Bor}
use Rattle.std.specs.Prelude.{flat_map}
use Rattle.std.specs.List.{AllByRecursion}
use Rattle.std.specs.declared.alloc.AllocError.{AllocError}
use Rattle.std.proofs.lemmas.List.{drop_more}
use Rattle.std.proofs.Math.ListN.{drop_of_length-le}
use Rattle.sq_lex.specs.declared.name.Name.{Name}
use Rattle.sq_value.specs.declared.value.Value.{Value}
use Rattle.sq_store.specs.Content.{Content}
use Rattle.sq_bound.specs.Joined.{specifications_of, term_specifications, union_specifications}
use Rattle.sq_bound.specs.declared.condition.BoundSpecification.{BoundSpecification}
use Rattle.sq_bound.specs.declared.query.BoundQuery.{BoundQuery, out-BoundQuery}
use Rattle.sq_bound.specs.declared.query.BoundUnion.{BoundUnion}
use Rattle.sq_bound.proofs.JoinedLaws.{specifications_of-out, union_specifications-out}
use Rattle.sq_ending.specs.declared.inside.InnerEnd.{InnerEnd}
use Rattle.sq_session.specs.Schemas.{Schemas}
use Rattle.sq_cause.specs.QueryCause.{AreItems, EndsAt, HasEnd, IsAmong, IsEndAmong, IsEndOf, lent_queries}
use Rattle.sq_cause.specs.declared.cause.QueryCause.{QueryCause}

abbrev Queries : Type 0
Queries = List BoundSpecification

-- ---- the query specifications of a query expression, while they are gathered

pub first_of : (old now : Queries) (q : BoundQuery) → now ≡ old ++ term_specifications (out-BoundQuery q).first
    → now ++ flat_map union_specifications (out-BoundQuery q).rest ≡ old ++ specifications_of q
first_of old now q adds =
    let rest = flat_map union_specifications (out-BoundQuery q).rest in
    ap (λ (qs : Queries). qs ++ rest) adds
    ∙ append_assoc old (term_specifications (out-BoundQuery q).first) rest
    ∙ ap (λ (qs : Queries). old ++ qs) (sym (specifications_of-out q))

pub next_of : (old new whole : Queries) (us : List BoundUnion) (i : ℕ) (u : BoundUnion) → i < length us → u ≡ get_or us i u → new ≡ old ++ term_specifications u.term
    → old ++ flat_map union_specifications (drop i us) ≡ whole → new ++ flat_map union_specifications (drop (i + 1) us) ≡ whole
next_of old new whole us i u within here adds so_far =
    let rest = flat_map union_specifications (drop (i + 1) us) in
    ap (λ (qs : Queries). qs ++ rest) adds
    ∙ append_assoc old (term_specifications u.term) rest
    ∙ ap (λ (qs : Queries). old ++ (qs ++ rest)) (sym (union_specifications-out u))
    ∙ ap (λ (vs : List BoundUnion). old ++ flat_map union_specifications vs) (sym (drop_more us i u within ∙ ap (λ (v : BoundUnion). v ∷ drop (i + 1) us) (sym here)))
    ∙ so_far

pub all_of : (now whole : Queries) (us : List BoundUnion) (i : ℕ) → length us ≤ i → now ++ flat_map union_specifications (drop i us) ≡ whole → now ≡ whole
all_of now whole us i past so_far =
    sym (append-nil now) ∙ ap (λ (qs : Queries). now ++ qs) (sym (ap (flat_map union_specifications) (drop_of_length-le us past))) ∙ so_far

pub lent_more : (bs : List (Bor BoundSpecification)) (b : Bor BoundSpecification) → lent_queries (bs ++ b ∷ []) ≡ lent_queries bs ++ b.now ∷ []
lent_more [] b = refl
lent_more (x ∷ bs) b = ap (λ (qs : Queries). x.now ∷ qs) (lent_more bs b)

-- ---- one of those that are lent

lent_at : (bs : List (Bor BoundSpecification)) (i : ℕ) (b : Bor BoundSpecification) → i < length bs → b ≡ get_or bs i b → slice_get (lent_queries bs) i ≡ Some b.now
lent_at [] i b lt is = absurd (omega arith)
lent_at (x ∷ bs) zero b lt is = ap (λ (y : Bor BoundSpecification). Some y.now) (sym is)
lent_at (x ∷ bs) (suc i) b lt is = lent_at bs i b (omega arith) is

pub lent_holds : (P : BoundSpecification → Type 0) (bs : List (Bor BoundSpecification)) (i : ℕ) (b : Bor BoundSpecification) → i < length bs → b ≡ get_or bs i b → AllByRecursion P (lent_queries bs) → P b.now
lent_holds P [] i b lt is h = absurd (omega arith)
lent_holds P (x ∷ bs) zero b lt is h = subst (λ (y : Bor BoundSpecification). P y.now) (sym is) h.0
lent_holds P (x ∷ bs) (suc i) b lt is h = lent_holds P bs i b (omega arith) is h.1

only_lent : (bs : List (Bor BoundSpecification)) (i : ℕ) (b : Bor BoundSpecification) → length bs ≡ 1 → i < length bs → b ≡ get_or bs i b → lent_queries bs ≡ b.now ∷ []
only_lent [] i b one lt is = absurd (omega arith)
only_lent (x ∷ []) zero b one lt is = ap (λ (y : Bor BoundSpecification). y.now ∷ []) (sym is)
only_lent (x ∷ []) (suc i) b one lt is = absurd (omega arith)
only_lent (x ∷ y ∷ bs) i b one lt is = absurd (omega arith)

-- it has its number among them, if it isn't the only one
pub among_lent : (bs : List (Bor BoundSpecification)) (i : ℕ) (b : Bor BoundSpecification) (term : Option ℕ) → (term ≡ None → length bs ≡ 1) → IfSome term (λ n. n ≡ i) → i < length bs → b ≡ get_or bs i b
    → IsAmong (lent_queries bs) term b.now
among_lent bs i b None one same lt is = only_lent bs i b (one refl) lt is
among_lent bs i b (Some n) one same lt is = subst (λ (k : ℕ). slice_get (lent_queries bs) k ≡ Some b.now) (sym same) (lent_at bs i b lt is)

-- ---- ends as causes

module _ (s : Schemas) (user : Name) (values : List Value) (tables : Content) where
  pub end_found : (term : Option ℕ) (q : BoundSpecification) (end : InnerEnd) (r : Result (Option QueryCause) AllocError) → EndsAt s user values tables q end
      → IfOk r (λ found. IfSome found (λ c. c.term ≡ term)) → IfOk r (λ found. IfSome found (λ c. c.end ≡ end)) → IfOk r (λ found. IfSome found (λ c. AreItems s.views q end.views.items c.tables.items))
      → IfOk r (λ found. IfSome found (HasEnd s user values tables term q))
  end_found term q end (Err e) at numbered same items = tt
  end_found term q end (Ok None) at numbered same items = tt
  end_found term q end (Ok (Some c)) at numbered same items =
      let is_end : IsEndOf s user values tables q c = record {
        ends = subst (λ (e : InnerEnd). EndsAt s user values tables q e) (sym same) at;
        items = subst (λ (e : InnerEnd). AreItems s.views q e.views.items c.tables.items) (sym same) items;
      } in
      (numbered, is_end)

  pub end_among : (term : Option ℕ) (q : BoundSpecification) (queries : Queries) (r : Result (Option QueryCause) AllocError) → IsAmong queries term q → IfOk r (λ found. IfSome found (HasEnd s user values tables term q))
      → IfOk r (λ found. IfSome found (IsEndAmong s user values tables queries))
  end_among term q queries (Err e) among h = tt
  end_among term q queries (Ok None) among h = tt
  end_among term q queries (Ok (Some c)) among h = record { query = q; among = subst (λ (t : Option ℕ). IsAmong queries t q) (sym h.0) among; is_end = h.1 }
