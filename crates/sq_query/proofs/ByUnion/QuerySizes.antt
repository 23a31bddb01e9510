-- The sizes of query expressions, by which a walk down their terms ends.
use Rattle.std.proofs.Common.{◌≡◌, ℕ, zero, suc, ◌+◌, ◌<◌, List, [], ◌∷◌, length, get_or, map, arith, sym, ap, ◌∙◌}
use Rattle.sq_bound.specs.declared.query.BoundQuery.{BoundQuery, BoundQuery-F, fold-BoundQuery, fold_out-BoundQuery, out-BoundQuery}
use Rattle.sq_bound.specs.declared.query.BoundTerm.{BoundTerm, BoundTerm-F, fold-BoundTerm, fold-roll-BoundTerm}
use Rattle.sq_bound.specs.declared.query.BoundTerm.TheOpen as layer
use Rattle.sq_bound.specs.declared.query.BoundTerm.TheVariants as bound
use Rattle.sq_bound.specs.declared.query.BoundUnion.{BoundUnion, BoundUnion-F, fold-BoundUnion, fold_out-BoundUnion}

abbrev total : List ℕ → ℕ
total [] = 0
total (n ∷ ns) = n + total ns

abbrev size_in_term : BoundTerm-F ℕ ℕ ℕ → ℕ
size_in_term (layer.Specification s) = 0
size_in_term (layer.Bracketed q) = suc q

abbrev size_in_query : BoundQuery-F ℕ ℕ ℕ → ℕ
size_in_query q = suc (q.first + total q.rest)

abbrev size_in_union : BoundUnion-F ℕ ℕ ℕ → ℕ
size_in_union u = u.term

unfoldable pub query_size : BoundQuery → ℕ
query_size = fold-BoundQuery ℕ ℕ ℕ size_in_term size_in_query size_in_union

unfoldable pub term_size : BoundTerm → ℕ
term_size = fold-BoundTerm ℕ ℕ ℕ size_in_term size_in_query size_in_union

unfoldable union_size : BoundUnion → ℕ
union_size = fold-BoundUnion ℕ ℕ ℕ size_in_term size_in_query size_in_union

query_size-out : (q : BoundQuery) → query_size q ≡ suc (term_size (out-BoundQuery q).first + total (map union_size (out-BoundQuery q).rest))
unfolding query_size term_size union_size
query_size-out q = fold_out-BoundQuery _ _ _ _ _ _ q

union_size-out : (u : BoundUnion) → union_size u ≡ term_size u.term
unfolding union_size term_size
union_size-out u = fold_out-BoundUnion _ _ _ _ _ _ u

term_size-Bracketed : (q : BoundQuery) → term_size (bound.Bracketed q) ≡ suc (query_size q)
unfolding term_size query_size
term_size-Bracketed q = ap term_size (sym (bound.rolls-Bracketed q)) ∙ fold-roll-BoundTerm _ _ _ _ _ _ (layer.Bracketed q)

pub first_smaller : (q : BoundQuery) → term_size (out-BoundQuery q).first < query_size q
first_smaller q = let is = query_size-out q in omega (arith, is)

within_total : (us : List BoundUnion) (i : ℕ) (u : BoundUnion) → i < length us → u ≡ get_or us i u → union_size u < suc (total (map union_size us))
within_total [] i u lt is = absurd (omega arith)
within_total (v ∷ us) zero u lt is = let same = ap union_size is in omega (arith, same)
within_total (v ∷ us) (suc i) u lt is = let later = within_total us i u (omega arith) is in omega (arith, later)

pub union_smaller : (q : BoundQuery) (unions : List BoundUnion) (i : ℕ) (u : BoundUnion) → unions ≡ (out-BoundQuery q).rest → i < length unions → u ≡ get_or unions i u → term_size u.term < query_size q
union_smaller q unions i u are_rest lt at =
    let is = query_size-out q in
    let among = within_total unions i u lt at in
    let same = union_size-out u in
    let all = ap (λ us. total (map union_size us)) are_rest in
    omega (arith, is, among, same, all)

pub bracketed_smaller : (term : BoundTerm) (q got : BoundQuery) → term ≡ bound.Bracketed q → got ≡ q → query_size got < term_size term
bracketed_smaller term q got is same =
    let of_term = ap term_size is ∙ term_size-Bracketed q in
    let of_query = ap query_size same in
    omega (arith, of_term, of_query)
