-- The parts of bound query expressions that the definitions see, level by level (ISO/IEC 9075:1992, 7.10). The columns noted with them
-- are theirs.
use Rattle.std.proofs.Common.{◌≡◌, List, [], ◌∷◌, map, refl, sym, ap, subst, ◌∙◌}
use Rattle.std.specs.List.{AllByRecursion}
use Rattle.std.specs.Prelude.{⊤, fold}
use Rattle.sq_bound.proofs.ExpressionLaws.{fold_mapped}
use Rattle.sq_bound.specs.declared.condition.BoundSpecification.{BoundSpecification}
use Rattle.sq_bound.specs.declared.query.BoundQuery.{BoundQuery, BoundQuery-F, every_held-BoundQuery, every_here-BoundQuery, every_made-BoundQuery, fold_out-BoundQuery, out-BoundQuery, out-roll-BoundQuery, roll-BoundQuery, roll-out-BoundQuery}
use Rattle.sq_bound.specs.declared.query.BoundTerm.{BoundTerm, BoundTerm-F, every_held-BoundTerm, every_made-BoundTerm, fold-roll-BoundTerm, ind-BoundTerm, map-BoundTerm, out-BoundTerm, out-roll-BoundTerm, roll-BoundTerm}
use Rattle.sq_bound.specs.declared.query.BoundTerm.TheOpen as layer
use Rattle.sq_bound.specs.declared.query.BoundTerm.TheVariants as bound
use Rattle.sq_bound.specs.declared.query.BoundUnion.{BoundUnion, BoundUnion-F, every_held-BoundUnion, every_made-BoundUnion, fold_out-BoundUnion, out-BoundUnion, roll-BoundUnion, roll-out-BoundUnion}
use Rattle.sq_binding.specs.QueryExpression.{NumberedQuery}
use Rattle.sq_binding.specs.Seen.{column_of, select_seen}
use Rattle.sq_binding.specs.SeenQuery.{HasItsColumns, HaveTheirColumns, TermHasColumns, UnionHasColumns, query_seen, term_seen, union_seen}

pub query_seen-out : (q : BoundQuery) → query_seen q ≡ fold (λ left u. union_seen u left) (term_seen (out-BoundQuery q).first) (out-BoundQuery q).rest
unfolding query_seen union_seen term_seen
query_seen-out q = fold_out-BoundQuery _ _ _ _ _ _ q ∙ fold_mapped (λ left u. u left) union_seen (term_seen (out-BoundQuery q).first) (out-BoundQuery q).rest

pub union_seen-out : (u : BoundUnion) (left : NumberedQuery) → union_seen u left ≡ NumberedQuery.joined u.all left (term_seen u.term) (map column_of u.columns)
unfolding union_seen term_seen
union_seen-out u left = ap (λ (f : NumberedQuery → NumberedQuery). f left) (fold_out-BoundUnion _ _ _ _ _ _ u)

pub term_seen-Specification : (s : BoundSpecification) → term_seen (bound.Specification s) ≡ NumberedQuery.select (select_seen s)
unfolding term_seen
term_seen-Specification s = ap term_seen (sym (bound.rolls-Specification s)) ∙ fold-roll-BoundTerm _ _ _ _ _ _ (layer.Specification s)

pub term_seen-Bracketed : (q : BoundQuery) → term_seen (bound.Bracketed q) ≡ query_seen q
unfolding term_seen query_seen
term_seen-Bracketed q = ap term_seen (sym (bound.rolls-Bracketed q)) ∙ fold-roll-BoundTerm _ _ _ _ _ _ (layer.Bracketed q)

-- ---- columns that are noted

abbrev Proved : {A : Type 0} → (A → Type 0) → Type 0
Proved {A} P = (x : A) × P x

held_list : {A : Type 0} (P : A → Type 0) (ys : List (Proved P)) → AllByRecursion P (map (λ (e : Proved P). e.0) ys)
held_list P [] = tt
held_list P (y ∷ ys) = (y.1, held_list P ys)

pub query_itself : (q : BoundQuery) → HaveTheirColumns q → HasItsColumns q
query_itself q h = subst HasItsColumns (roll-out-BoundQuery q) (every_here-BoundQuery _ _ _ q h)

abbrev PartsHave : BoundQuery-F BoundTerm BoundQuery BoundUnion → Type 0
PartsHave y = TermHasColumns y.first × AllByRecursion UnionHasColumns y.rest

pub query_parts : (q : BoundQuery) → HaveTheirColumns q → PartsHave (out-BoundQuery q)
query_parts q h =
    let held = every_held-BoundQuery _ _ _ q h in
    subst PartsHave held.1 (held.0.first.1, held_list UnionHasColumns held.0.rest)

abbrev LayerHas : BoundTerm-F BoundTerm BoundQuery BoundUnion → Type 0
LayerHas (layer.Specification s) = ⊤
LayerHas (layer.Bracketed q) = HaveTheirColumns q

abbrev Held : Type 0
Held = BoundTerm-F (Proved TermHasColumns) (Proved HaveTheirColumns) (Proved UnionHasColumns)

abbrev bare : Held → BoundTerm-F BoundTerm BoundQuery BoundUnion
bare = map-BoundTerm _ _ _ _ _ _ (λ e. e.0) (λ e. e.0) (λ e. e.0)

layer_held : (y : Held) → LayerHas (bare y)
layer_held (layer.Specification s) = tt
layer_held (layer.Bracketed q) = q.1

term_held : (t : BoundTerm) → TermHasColumns t → LayerHas (out-BoundTerm t)
term_held t h = let held = every_held-BoundTerm _ _ _ t h in subst LayerHas held.1 (layer_held held.0)

pub bracketed_has : (q : BoundQuery) → TermHasColumns (bound.Bracketed q) → HaveTheirColumns q
bracketed_has q h = subst LayerHas (ap out-BoundTerm (sym (bound.rolls-Bracketed q)) ∙ out-roll-BoundTerm (layer.Bracketed q)) (term_held (bound.Bracketed q) h)

pub union_has : (u : BoundUnion) → UnionHasColumns u → TermHasColumns u.term
union_has u h = let held = every_held-BoundUnion _ _ _ u h in subst (λ (y : BoundUnion-F BoundTerm BoundQuery BoundUnion). TermHasColumns y.term) held.1 held.0.term.1

-- ---- what is made of parts has them

beside : {A : Type 0} (P : A → Type 0) (xs : List A) → AllByRecursion P xs → (ys : List (Proved P)) × (map (λ (e : Proved P). e.0) ys ≡ xs)
beside P [] h = ([], refl)
beside P (x ∷ xs) h = let rest = beside P xs h.1 in ((x, h.0) ∷ rest.0, ap (λ zs. x ∷ zs) rest.1)

pub specification_made : (s : BoundSpecification) → TermHasColumns (bound.Specification s)
specification_made s = subst TermHasColumns (bound.rolls-Specification s) (every_made-BoundTerm _ _ _ (layer.Specification s) (layer.Specification s) refl tt)

pub bracketed_made : (q : BoundQuery) → HaveTheirColumns q → TermHasColumns (bound.Bracketed q)
bracketed_made q h = subst TermHasColumns (bound.rolls-Bracketed q) (every_made-BoundTerm _ _ _ (layer.Bracketed q) (layer.Bracketed (q, h)) refl tt)

pub union_made : (u : BoundUnion) → TermHasColumns u.term → UnionHasColumns u
union_made u h =
    subst UnionHasColumns (roll-out-BoundUnion u) (every_made-BoundUnion _ _ _ (out-BoundUnion u) (record { all = u.all; term = (u.term, h); columns = u.columns }) refl tt)

pub query_made : (q : BoundQuery) → TermHasColumns (out-BoundQuery q).first → AllByRecursion UnionHasColumns (out-BoundQuery q).rest → HasItsColumns q → HaveTheirColumns q
query_made q h g own =
    let o = out-BoundQuery q in
    let rest = beside UnionHasColumns o.rest g in
    subst HaveTheirColumns (roll-out-BoundQuery q)
    (every_made-BoundQuery _ _ _ o (record { first = (o.first, h); rest = rest.0; columns = o.columns }) (ap (λ us. record { first = o.first; rest = us; columns = o.columns }) rest.1)
    (subst HasItsColumns (sym (roll-out-BoundQuery q)) own))

-- ---- what holds of each query expression, case by case

pub record QueryCases (T : BoundTerm → Type 0) (Q : BoundQuery → Type 0) : Type 0 where
  pub of_specification : (s : BoundSpecification) → T (bound.Specification s)
  pub of_bracketed : (q : BoundQuery) → Q q → T (bound.Bracketed q)
  pub of_query : (q : BoundQuery) → T (out-BoundQuery q).first → AllByRecursion (λ (u : BoundUnion). T u.term) (out-BoundQuery q).rest → Q q

module _ (T : BoundTerm → Type 0) (Q : BoundQuery → Type 0) (cases : QueryCases T Q) where
  abbrev U : BoundUnion → Type 0
  U u = T u.term

  abbrev HT : Type 0
  HT = (x : BoundTerm) × T x

  abbrev HQ : Type 0
  HQ = (x : BoundQuery) × Q x

  abbrev HU : Type 0
  HU = (x : BoundUnion) × U x

  term_step : (y : BoundTerm-F HT HQ HU) → T (roll-BoundTerm (map-BoundTerm HT HQ HU BoundTerm BoundQuery BoundUnion (λ e. e.0) (λ e. e.0) (λ e. e.0) y))
  term_step (layer.Specification s) = subst T (sym (bound.rolls-Specification s)) (cases.of_specification s)
  term_step (layer.Bracketed q) = subst T (sym (bound.rolls-Bracketed q.0)) (cases.of_bracketed q.0 q.1)

  abbrev Parts : BoundQuery-F BoundTerm BoundQuery BoundUnion → Type 0
  Parts y = T y.first × AllByRecursion U y.rest

  query_step : (x : BoundQuery-F BoundTerm BoundQuery BoundUnion) → T x.first → AllByRecursion U x.rest → Q (roll-BoundQuery x)
  query_step x h g = let both = subst Parts (sym (out-roll-BoundQuery x)) (h, g) in cases.of_query (roll-BoundQuery x) both.0 both.1

  pub term_all : (t : BoundTerm) → T t
  term_all t = ind-BoundTerm T Q U
      (λ x y is. subst (λ z. T (roll-BoundTerm z)) is (term_step y))
      (λ x y is. subst (λ z. Q (roll-BoundQuery z)) is (query_step _ y.first.1 (held_list U y.rest)))
      (λ x y is. subst (λ z. U (roll-BoundUnion z)) is y.term.1)
      t

  each_all : (us : List BoundUnion) → AllByRecursion U us
  each_all [] = tt
  each_all (u ∷ us) = (term_all u.term, each_all us)

  pub query_all : (q : BoundQuery) → Q q
  query_all q = cases.of_query q (term_all (out-BoundQuery q).first) (each_all (out-BoundQuery q).rest)
