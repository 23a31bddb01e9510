-- Laws of queries: `*` without WHERE is the product, and UNION ALL has the left rows and then the right ones.
use Rattle.std.proofs.Common.{◌≡◌, true, false, List, [], ◌∷◌, ◌++◌, map, refl, ap, ◌∙◌, Ok}
use Rattle.std.specs.List.{flat_map}
use Rattle.sq_value.specs.declared.domain.Kind.{Kind}
use Rattle.sq_meaning.specs.Status.{Outcome, and_then, each, kept}
use Rattle.sq_meaning.specs.Syntax.{Naming, Query, all_columns, absent, select, union}
use Rattle.sq_meaning.specs.Environment.{Row, Line, Scope, Env, alone, within}
use Rattle.sq_meaning.specs.Expression.{Reading}
use Rattle.sq_meaning.specs.Rows.{product}
use Rattle.sq_meaning.specs.Kind.{Kinds, query_kinds}
use Rattle.sq_meaning.specs.Query.{rows, listed_values}
use Rattle.sq_meaning.specs.QueryExpression.{query_rows, row_brought_to}
use Rattle.sq_meaning.proofs.OutcomeLaws.{kept_all, each-append, both_lists}

-- a line as one row
abbrev pub joined : Line → Row
joined line = flat_map (λ row. row) line

shown : {N : Naming} (m : Reading N) (heads : List N.Item) (env : Env N.Item) (lines : List Line)
    → each (λ scope. listed_values m all_columns (within scope env)) (map (alone heads) lines) ≡ Ok (map joined lines)
shown m heads env [] = refl
shown m heads env (line ∷ lines) = ap (λ r. and_then r (λ rs. Ok (joined line ∷ rs))) (shown m heads env lines)

-- the phases of `*` without WHERE, from its select list back to the product
abbrev from_groups : {N : Naming} → Reading N → Env N.Item → List (Scope N.Item) → Outcome (List Row)
from_groups m env scopes = and_then (each (λ scope. listed_values m all_columns (within scope env)) scopes) (λ found. Ok found)

abbrev from_lines : {N : Naming} → Reading N → Env N.Item → List N.Item → List Line → Outcome (List Row)
from_lines m env heads lines = and_then (kept (λ scope. Ok true) (map (alone heads) lines)) (from_groups m env)

abbrev from_product : {N : Naming} → Reading N → Env N.Item → List N.Item → List (List Row) → Outcome (List Row)
from_product m env heads tables = and_then (kept (λ line. Ok true) (product tables)) (from_lines m env heads)

-- SELECT * FROM .. is the product of the tables, each line as a row
pub star_is_product : {N : Naming} (m : Reading N) (from : List N.Table) (env : Env N.Item) (heads : List N.Item) (tables : List (List Row)) → each m.item from ≡ Ok heads → each m.rows from ≡ Ok tables
    → rows m (select false all_columns from absent [] absent) env ≡ Ok (map joined (product tables))
star_is_product m from env heads tables p q =
    ap (λ r. and_then r (λ hs. and_then (each m.rows from) (from_product m env hs))) p
    ∙ ap (λ r. and_then r (from_product m env heads)) q
    ∙ ap (λ r. and_then r (from_lines m env heads)) (kept_all (product tables))
    ∙ ap (λ r. and_then r (from_groups m env)) (kept_all (map (alone heads) (product tables)))
    ∙ ap (λ r. and_then r (λ found. Ok found)) (shown m heads env (product tables))

-- UNION ALL has the left rows and then the right ones, each brought to the common kinds
pub union_all_is_both : {N : Naming} (m : Reading N) (k : Kinds N) (left right : Query N) (env : Env N.Item) (ls rs us vs : List Row) (kinds : List Kind)
    → query_rows m k left env ≡ Ok ls → query_rows m k right env ≡ Ok rs → query_kinds k (union true left right) ≡ Ok kinds
    → each (row_brought_to kinds) ls ≡ Ok us → each (row_brought_to kinds) rs ≡ Ok vs
    → query_rows m k (union true left right) env ≡ Ok (us ++ vs)
union_all_is_both m k left right env ls rs us vs kinds p q of_kinds u v =
    ap (λ r. and_then r (λ xs. and_then (query_rows m k right env) (λ ys. and_then (query_kinds k (union true left right)) (λ ks. and_then (each (row_brought_to ks) (xs ++ ys)) (λ found. Ok found))))) p
    ∙ ap (λ r. and_then r (λ ys. and_then (query_kinds k (union true left right)) (λ ks. and_then (each (row_brought_to ks) (ls ++ ys)) (λ found. Ok found)))) q
    ∙ ap (λ r. and_then r (λ ks. and_then (each (row_brought_to ks) (ls ++ rs)) (λ found. Ok found))) of_kinds
    ∙ ap (λ r. and_then r (λ found. Ok found)) (each-append (row_brought_to kinds) ls rs ∙ (λ i. both_lists (u i) (v i)))
