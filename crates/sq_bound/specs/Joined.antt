-- The parts of a bound query expression, and the kinds of its columns (ISO/IEC 9075:1992, 7.10). Both sides of a UNION
-- have as many columns, of common kinds, to which their rows are brought. UNION groups to the left.
use Rattle.std.specs.Prelude.{Bool, List, [], ◌∷◌, ◌++◌, if◌then◌else◌, flat_map, fold, map, Ok}
use Rattle.std.specs.Cmp.Lexicographic.{pointwise}
use Rattle.std.specs.List.{list_all}
use Rattle.sq_value.specs.declared.domain.Kind.{Kind}
use Rattle.sq_meaning.specs.Status.{Outcome, ◌>>=◌, not_well_formed}
use Rattle.sq_meaning.specs.Kind.{common_kinds}
use Rattle.sq_bound.specs.Names.{is_bounded, same_kind}
use Rattle.sq_bound.specs.declared.condition.BoundSpecification.{BoundSpecification, out-BoundSpecification}
use Rattle.sq_bound.specs.declared.condition.ResultColumn.{ResultColumn}
use Rattle.sq_bound.specs.declared.query.BoundTerm.{BoundTerm, fold-BoundTerm, BoundTerm-F}
use Rattle.sq_bound.specs.declared.query.BoundTerm.TheOpen as layer
use Rattle.sq_bound.specs.declared.query.BoundQuery.{BoundQuery, fold-BoundQuery, BoundQuery-F}
use Rattle.sq_bound.specs.declared.query.BoundUnion.{BoundUnion, fold-BoundUnion, BoundUnion-F}

-- ---- its query specifications, in the order of the text

abbrev pub S : Type 0
S = List BoundSpecification

abbrev pub specifications_in_term : BoundTerm-F S S S → S
specifications_in_term (layer.Specification s) = s ∷ []
specifications_in_term (layer.Bracketed q) = q

abbrev pub specifications_in_query : BoundQuery-F S S S → S
specifications_in_query q = q.first ++ flat_map (λ union. union) q.rest

abbrev pub specifications_in_union : BoundUnion-F S S S → S
specifications_in_union u = u.term

unfoldable pub specifications_of : BoundQuery → S
specifications_of =
    fold-BoundQuery S S S specifications_in_term specifications_in_query specifications_in_union

unfoldable pub term_specifications : BoundTerm → S
term_specifications =
    fold-BoundTerm S S S specifications_in_term specifications_in_query specifications_in_union

unfoldable pub union_specifications : BoundUnion → S
union_specifications =
    fold-BoundUnion S S S specifications_in_term specifications_in_query specifications_in_union

-- ---- the kinds of its columns

abbrev pub Kinds : Type 0
Kinds = Outcome (List Kind)

-- the kinds, if they are the ones that were noted with the columns
abbrev pub kept_kinds : List ResultColumn → List Kind → Kinds
kept_kinds columns kinds =
    if pointwise same_kind kinds (map (λ c. c.kind) columns) then Ok kinds else not_well_formed

abbrev pub are_bounded : List Kind → Bool
are_bounded kinds = list_all is_bounded kinds

-- the kinds to which both sides of a UNION are brought: they are bounded, and were noted with its columns
abbrev pub brought_kinds : List ResultColumn → List Kind → Kinds
brought_kinds columns kinds = if are_bounded kinds then kept_kinds columns kinds else not_well_formed

abbrev pub kinds_in_term : BoundTerm-F Kinds Kinds (Kinds → Kinds) → Kinds
kinds_in_term (layer.Specification s) = Ok (map (λ c. c.kind) (out-BoundSpecification s).columns)
kinds_in_term (layer.Bracketed q) = q

-- UNION and its right term wait for the left side
abbrev pub kinds_in_query : BoundQuery-F Kinds Kinds (Kinds → Kinds) → Kinds
kinds_in_query q = fold (λ left union. union left) q.first q.rest >>= kept_kinds q.columns

abbrev pub kinds_in_union : BoundUnion-F Kinds Kinds (Kinds → Kinds) → Kinds → Kinds
kinds_in_union u left = left >>= λ ls. u.term >>= λ rs. common_kinds ls rs >>= brought_kinds u.columns

unfoldable pub joined_kinds : BoundQuery → Kinds
joined_kinds = fold-BoundQuery Kinds Kinds (Kinds → Kinds) kinds_in_term kinds_in_query kinds_in_union

unfoldable pub term_kinds : BoundTerm → Kinds
term_kinds = fold-BoundTerm Kinds Kinds (Kinds → Kinds) kinds_in_term kinds_in_query kinds_in_union

unfoldable pub union_kinds : BoundUnion → Kinds → Kinds
union_kinds = fold-BoundUnion Kinds Kinds (Kinds → Kinds) kinds_in_term kinds_in_query kinds_in_union
