-- A tree whose tables, subqueries included, mean the same in two readings means the same in both.
use Rattle.std.proofs.Common.{◌≡◌, ◌∙◌, ℕ, suc, Bool, List, [], ◌∷◌, refl, sym, ap, Ok}
use Rattle.std.specs.Prelude.{⊤, if◌then◌else◌}
use Rattle.std.specs.List.{AllByRecursion}
use Rattle.sq_meaning.specs.Status.{Outcome, and_then, each, kept}
use Rattle.sq_meaning.specs.Syntax.{SelectList, absent, present, select}
use Rattle.sq_meaning.specs.Environment.{Row, Line, Env, Place, alone, within}
use Rattle.sq_meaning.specs.Placed.{Placed, by_place}
use Rattle.sq_meaning.specs.Query.{truth, clause_truth, is_true, scopes_of, listed_values, rows}
use Rattle.sq_meaning.specs.Rows.{product, firsts, same_row}
use Rattle.sq_meaning.proofs.AnswerLaws.{all_true}
use Rattle.sq_meaning.proofs.OverTables as any
use Rattle.sq_meaning.proofs.Parts.{CondParts, SelectParts, ClauseHas, any_escape, any_list}
use Rattle.sq_bound.specs.Condition.{PlacedCond, PlacedClause, PlacedSelect}
use Rattle.sq_bound.specs.declared.condition.TablePlace.{TablePlace}
use Rattle.sq_query.specs.Needed.{ReadsCond, ReadsConds, ReadsClause, ReadsSelect}
use Rattle.sq_query.proofs.Needs.AnyTables.{scopes_over, listed_over}

module _ (f g : TablePlace → Outcome (List Row)) where
  pub same_each : (ts : List TablePlace) → AllByRecursion (λ t. f t ≡ g t) ts → each f ts ≡ each g ts
  same_each [] same = refl
  same_each (t ∷ ts) same = λ i. and_then (same.0 i) (λ y. and_then (same_each ts same.1 i) (λ ys. Ok (y ∷ ys)))

  abbrev Same : TablePlace → Type 0
  Same t = f t ≡ g t

  cond_parts : CondParts {N = Placed TablePlace} (λ n e. ⊤) (λ n c. ReadsCond Same c) (λ n cs. ReadsConds Same cs) (λ n q. ReadsSelect Same q)
  cond_parts = record {
    of_compare = λ n op a b h. (tt, tt);
    of_scalar = λ n op a q h. (tt, h);
    of_quantified = λ n op k a q h. (tt, h);
    of_between = λ n a low high h. (tt, tt, tt);
    of_among = λ n a q h. (tt, h);
    of_list = λ n a es h. (tt, all_true es);
    of_like = λ n text pattern escape h. (tt, tt, any_escape escape);
    of_null = λ n a h. tt;
    of_exists = λ n q h. h;
    of_negated = λ n c h. h;
    of_conjunction = λ n cs h. h;
    of_disjunction = λ n cs h. h;
    of_first = λ n c cs h. h;
  }

  clause_has : (n : ℕ) (c : PlacedClause) → ReadsClause Same c → ClauseHas {N = Placed TablePlace} (λ n d. ReadsCond Same d) n c
  clause_has n absent h = tt
  clause_has n (present c) h = h

  select_parts : SelectParts {N = Placed TablePlace} (λ n e. ⊤) (λ n c. ReadsCond Same c) (λ n q. ReadsSelect Same q) (λ from. AllByRecursion Same from)
  select_parts = record {
    of_select = λ n distinct list from filter by having h.
        (h.0, any_list (suc n) list, clause_has (suc n) filter h.1, all_true by, clause_has (suc n) having h.2);
  }

  pub same_truth : (c : PlacedCond) → ReadsCond Same c → (env : Env (Unit {0})) → truth (by_place f) c env ≡ truth (by_place g) c env
  same_truth =
      any.truth_over (by_place f) g (λ n c. ReadsCond Same c) (λ n cs. ReadsConds Same cs) (λ n q. ReadsSelect Same q)
      (λ from. AllByRecursion Same from) cond_parts select_parts same_each 0

  pub same_clause : (c : PlacedClause) → ReadsClause Same c → (env : Env (Unit {0})) → clause_truth (by_place f) c env ≡ clause_truth (by_place g) c env
  same_clause absent same env = refl
  same_clause (present c) same env = same_truth c same env

  pub same_rows : (q : PlacedSelect) → ReadsSelect Same q → (env : Env (Unit {0})) → rows (by_place f) q env ≡ rows (by_place g) q env
  same_rows =
      any.rows_over (by_place f) g (λ n c. ReadsCond Same c) (λ n cs. ReadsConds Same cs) (λ n q. ReadsSelect Same q)
      (λ from. AllByRecursion Same from) cond_parts select_parts same_each 0

  -- ---- over one table, where WHERE keeps the same of its rows

  module _ (distinct : Bool) (list : SelectList (Placed TablePlace)) (table : TablePlace) (filter : PlacedClause) (by : List Place) (having : PlacedClause) (env : Env (Unit {0})) where
    abbrev pub wanted_of : (TablePlace → Outcome (List Row)) → Line → Outcome Bool
    wanted_of tables line = is_true (clause_truth (by_place tables) filter (within (alone (tt ∷ []) line) env))

    abbrev pub shown_of : (TablePlace → Outcome (List Row)) → List Line → Outcome (List Row)
    shown_of tables lines =
        and_then (scopes_of (by_place tables) list by having (tt ∷ []) lines env)
        (λ scopes. and_then (kept (λ scope. is_true (clause_truth (by_place tables) having (within scope env))) scopes)
        (λ left. and_then (each (λ scope. listed_values (by_place tables) list (within scope env)) left)
        (λ shown. Ok (if distinct then firsts same_row shown else shown))))

    pub over_rows : (tables : TablePlace → Outcome (List Row)) (found : List Row) → tables table ≡ Ok found
        → rows (by_place tables) (select distinct list (table ∷ []) filter by having) env ≡ and_then (kept (wanted_of tables) (product (found ∷ []))) (shown_of tables)
    over_rows tables found is = ap (λ (o : Outcome (List Row)). and_then (and_then o (λ y. Ok (y ∷ []))) (λ ts. and_then (kept (wanted_of tables) (product ts)) (shown_of tables))) is

    pub same_over : (whole few : List Row) → f table ≡ Ok whole → g table ≡ Ok few → ReadsClause (λ t. f t ≡ g t) filter → ReadsClause (λ t. f t ≡ g t) having
        → kept (wanted_of f) (product (whole ∷ [])) ≡ kept (wanted_of f) (product (few ∷ []))
        → rows (by_place f) (select distinct list (table ∷ []) filter by having) env ≡ rows (by_place g) (select distinct list (table ∷ []) filter by having) env
    same_over whole few all some same_filter same_having left =
        over_rows f whole all ∙ ap (λ (o : Outcome (List Line)). and_then o (shown_of f)) left
        ∙ (λ i. and_then (kept (λ line. is_true (same_clause filter same_filter (within (alone (tt ∷ []) line) env) i)) (product (few ∷ [])))
        (λ lines. and_then (scopes_over f g list by having (tt ∷ []) lines env i)
        (λ scopes. and_then (kept (λ scope. is_true (same_clause having same_having (within scope env) i)) scopes)
        (λ left. and_then (each (λ scope. listed_over f g list (within scope env) i) left)
        (λ shown. Ok (if distinct then firsts same_row shown else shown))))))
        ∙ sym (over_rows g few some)
