-- The query specification that a query is, whoever's it is.
use Rattle.std.proofs.Common.{◌≡◌, ◌∙◌, Bool, List, [], ◌∷◌, map, Option, Some, None, refl, ap, sym}
use Rattle.std.specs.Prelude.{fold}
use Rattle.std.specs.Option.{option_map}
use Rattle.std.specs.Borrow.{Bor}
use Rattle.sq_lex.specs.declared.name.Name.{Name}
use Rattle.sq_tree.specs.declared.cond.QuerySpecification.{QuerySpecification}
use Rattle.sq_tree.specs.declared.module.Cursor.{Cursor}
use Rattle.sq_tree.specs.declared.query.Query.{Query as WrittenQuery, out-Query, roll-out-Query}
use Rattle.sq_tree.specs.declared.query.UnionTerm.{UnionTerm}
use Rattle.sq_meaning.proofs.SpelledLevels.{query_of-roll}
use Rattle.sq_meaning.specs.Spelled.{Named, query_of, query_term_of, union_term_of}
use Rattle.sq_meaning.specs.Syntax.{Query, union}
use Rattle.sq_meaning.specs.WellFormedStatement.{only_specification}
use Rattle.sq_binder.proofs.WholeQueries.Queries.{query_alone}
use Rattle.sq_check.specs.Rule.{IsRuleOf, IsSole, cursor_rule}
use Rattle.sq_check.specs.declared.rule.Rule.{Rule}

pub rule_by : (c : Cursor) (sole : Option (Bor QuerySpecification)) (rule : Rule) → IsSole (λ own. query_of own c.query) (option_map (λ q. q.now) sole)
    → rule ≡ cursor_rule c (option_map (λ q. q.now) sole) → IsRuleOf c rule
rule_by c sole rule query is = record { sole = option_map (λ q. q.now) sole; query = query; is = is }

-- what means the same is the same specification
pub same_sole : (f g : Name → Query Named) (o : Option QuerySpecification) → ((own : Name) → g own ≡ f own) → IsSole f o → IsSole g o
same_sole f g None same h = λ own. ap only_specification (same own) ∙ h own
same_sole f g (Some s) same h = λ own. same own ∙ h own

pub sole_alone : (q : WrittenQuery) (o : Option QuerySpecification) → (out-Query q).rest ≡ [] → IsSole (λ own. query_term_of own (out-Query q).first) o → IsSole (λ own. query_of own q) o
sole_alone q o alone h = same_sole (λ own. query_term_of own (out-Query q).first) (λ own. query_of own q) o (λ own. query_alone own q alone) h

abbrev joins : Query Named → Bool × Query Named → Query Named
joins left u = union u.0 left u.1

joined : (left right : Query Named) (all : Bool) (others : List (Bool × Query Named)) → only_specification (fold joins (union all left right) others) ≡ None
joined left right all [] = refl
joined left right all (u ∷ others) = joined (union all left right) u.1 u.0 others

some_joined : (own : Name) (first : Query Named) (rest : List UnionTerm) → (rest ≡ [] → ⊥) → only_specification (fold joins first (map (union_term_of own) rest)) ≡ None
some_joined own first [] some = absurd (some refl)
some_joined own first (u ∷ rest) some = joined first (union_term_of own u).1 (union_term_of own u).0 (map (union_term_of own) rest)

pub sole_union : (q : WrittenQuery) → ((out-Query q).rest ≡ [] → ⊥) → IsSole (λ own. query_of own q) None
sole_union q some =
    λ own.
    ap only_specification (ap (query_of own) (sym (roll-out-Query q)) ∙ query_of-roll own (out-Query q).first (out-Query q).rest)
    ∙ some_joined own (query_term_of own (out-Query q).first) (out-Query q).rest some
