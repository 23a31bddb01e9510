-- A select list shows by its places what it shows by its names (ISO/IEC 9075:1992, 7.9). `*` becomes all columns of all items,
-- which are as many as a line has values where its rows are as wide as the items.
use Rattle.std.proofs.Common.{◌≡◌, ℕ, zero, suc, ◌+◌, List, [], ◌∷◌, ◌++◌, length, map, drop, Option, Some, refl, sym, ap, subst, ◌∙◌, arith, Ok}
use Rattle.std.specs.Prelude.{⊤, slice_get, IfOk}
use Rattle.std.specs.List.{AllZip, enumerate_from, flat_map}
use Rattle.std.specs.Option.{option_and_then}
use Rattle.sq_value.specs.declared.value.Value.{Value}
use Rattle.sq_meaning.specs.Status.{Outcome, and_then, each, well_formed}
use Rattle.sq_meaning.specs.Syntax.{Expr, column, SelectList, all_columns, expressions}
use Rattle.sq_meaning.specs.Environment.{Item, Line, Row, Scope, Env, within}
use Rattle.sq_meaning.specs.Expression.{value, set_functions}
use Rattle.sq_meaning.specs.Query.{list_functions, listed_values}
use Rattle.sq_meaning.specs.Spelled.{Named}
use Rattle.sq_meaning.proofs.OutcomeLaws.{both_lists, each-append}
use Rattle.sq_bound.specs.Expression.{PlacedExpr}
use Rattle.sq_binding.specs.PlacedQuery.{columns_placed, expr_placed, list_placed}
use Rattle.sq_binding.specs.Scope.{FromItem, ItemColumn}
use Rattle.sq_run.proofs.Places.Expressions.{SameExpr, SameValue, expr_same}
use Rattle.sq_run.proofs.Places.Items.{AreInOrder, HaveWidths}
use Rattle.sq_run.proofs.Places.Outcomes.{append_zip, each_zip, if_also, if_each, weaker_zip}
use Rattle.sq_run.proofs.Places.Seen.{SeenEnv}
use Rattle.sq_run.proofs.Places.Setting.{Setting, around, at_places, items_named, named}

-- ---- expressions

pub exprs_functions : (s : Setting) (scopes : List (List FromItem)) (es : List (Expr Named)) (ts : List PlacedExpr)
    → AllZip (SameExpr s scopes) es ts
    → AllZip (SameValue s scopes) (flat_map set_functions es) (flat_map set_functions ts)
exprs_functions s scopes [] [] h = tt
exprs_functions s scopes (e ∷ es) (t ∷ ts) h =
    append_zip (SameValue s scopes) (set_functions e) (flat_map set_functions es) (set_functions t)
    (flat_map set_functions ts) h.0.functions (exprs_functions s scopes es ts h.1)
exprs_functions s scopes _ _ h = absurd h

pub values_same : (s : Setting) (scopes : List (List FromItem)) (es : List (Expr Named)) (fs : List PlacedExpr)
    → AllZip (SameValue s scopes) es fs
    → (env : Env Item) (other : Env (Unit {0})) → SeenEnv s.parameters scopes env other
    → each (λ e. value (named s) e env) es ≡ each (λ f. value (at_places s) f other) fs
values_same s scopes es fs same env other h =
    each_zip (SameValue s scopes) (λ e. value (named s) e env) (λ f. value (at_places s) f other)
    (λ e f one. one env other h) es fs same

-- ---- all columns

pub at_drop : {A : Type 0} (n : ℕ) (xs : List A) (y : A) (ys : List A) → drop n xs ≡ y ∷ ys
    → (slice_get xs n ≡ Some y) × (drop (suc n) xs ≡ ys)
at_drop zero [] y ys e = cc
at_drop zero (x ∷ xs) y ys e = let same : x ≡ y = cc in let others : xs ≡ ys = cc in (ap Some same, others)
at_drop (suc n) [] y ys e = cc
at_drop (suc n) (x ∷ xs) y ys e = at_drop n xs y ys e

-- the columns from the k-th on, each at its own position
abbrev pub AreFrom : ℕ → List ItemColumn → Type 0
AreFrom k [] = ⊤
AreFrom k (c ∷ cs) = (c.position ≡ k) × AreFrom (suc k) cs

pub from_order : (k : ℕ) (columns : List ItemColumn)
    → ((j : ℕ) (c : ItemColumn) → slice_get columns j ≡ Some c → c.position ≡ k + j) → AreFrom k columns
from_order k [] h = tt
from_order k (c ∷ cs) h =
    let first : k + 0 ≡ k = omega arith in
    (h 0 c refl ∙ first, from_order (suc k) cs (λ j d e. let further : k + suc j ≡ suc k + j = omega arith in h (suc j) d e ∙ further))

abbrev pub shown_columns : ℕ → List ItemColumn → List PlacedExpr
shown_columns item columns = map (λ c. column (record { depth = 0; item = item; column = c.position })) columns

row_shown : (s : Setting) (x : Scope (Unit {0})) (env : Env (Unit {0})) (item : ℕ) (row : Row) → slice_get x.line item ≡ Some row
    → (k : ℕ) (rest : Row) (columns : List ItemColumn) → drop k row ≡ rest → AreFrom k columns → length rest ≡ length columns
    → each (λ e. value (at_places s) e (within x env)) (shown_columns item columns) ≡ Ok rest
row_shown s x env item row there k [] [] e h w = refl
row_shown s x env item row there k [] (c ∷ cs) e h w = cc
row_shown s x env item row there k (v ∷ vs) [] e h w = cc
row_shown s x env item row there k (v ∷ vs) (c ∷ cs) e h w =
    let at = at_drop k row v vs e in
    let fewer : length vs ≡ length cs = omega arith in
    let found : value (at_places s) (column (record { depth = 0; item = item; column = c.position })) (within x env) ≡ Ok v =
    ap (λ n. value (at_places s) (column (record { depth = 0; item = item; column = n })) (within x env)) h.0
    ∙ ap (λ (o : Option Row). well_formed (option_and_then (λ r. slice_get r k) o)) there
    ∙ ap (λ (o : Option Value). well_formed o) at.0 in
    ap (λ (o : Outcome Value). and_then o (λ w. and_then (each (λ e. value (at_places s) e (within x env)) (shown_columns item cs)) (λ ws. Ok (w ∷ ws)))) found
    ∙ ap (λ (o : Outcome Row). and_then o (λ ws. Ok (v ∷ ws))) (row_shown s x env item row there (suc k) vs cs at.1 h.1 fewer)

line_shown : (s : Setting) (x : Scope (Unit {0})) (env : Env (Unit {0})) (item : ℕ) (rest : Line) (items : List FromItem)
    → drop item x.line ≡ rest → AreInOrder items → HaveWidths items rest
    → each (λ e. value (at_places s) e (within x env)) (flat_map columns_placed (enumerate_from item items))
    ≡ Ok (flat_map (λ row. row) rest)
line_shown s x env item [] [] e o w = refl
line_shown s x env item (row ∷ rows) (i ∷ items) e o w =
    let at = at_drop item x.line row rows e in
    each-append (λ e. value (at_places s) e (within x env)) (shown_columns item i.columns)
    (flat_map columns_placed (enumerate_from (item + 1) items))
    ∙ ap (λ (o : Outcome Row). both_lists o (each (λ e. value (at_places s) e (within x env)) (flat_map columns_placed (enumerate_from (item + 1) items))))
    (row_shown s x env item row at.0 0 row i.columns refl (from_order 0 i.columns (λ j c e. let none : j ≡ 0 + j = omega arith in o.0 j c e ∙ none)) w.0)
    ∙ ap (λ n. both_lists (Ok row) (each (λ e. value (at_places s) e (within x env)) (flat_map columns_placed (enumerate_from n items))))
    (one_more item)
    ∙ ap (λ (o : Outcome Row). both_lists (Ok row) o) (line_shown s x env (suc item) rows items at.1 o.1 w.1)
  where
    one_more : (n : ℕ) → n + 1 ≡ suc n
    one_more n = omega arith
line_shown s x env item _ _ e o w = absurd w

columns_only : (item : ℕ) (columns : List ItemColumn) (others : List PlacedExpr)
    → flat_map set_functions (shown_columns item columns ++ others) ≡ flat_map set_functions others
columns_only item [] others = refl
columns_only item (c ∷ cs) others = columns_only item cs others

no_functions : (item : ℕ) (items : List FromItem)
    → flat_map set_functions (flat_map columns_placed (enumerate_from item items)) ≡ []
no_functions item [] = refl
no_functions item (i ∷ items) =
    columns_only item i.columns (flat_map columns_placed (enumerate_from (item + 1) items)) ∙ no_functions (item + 1) items

-- ---- a select list

-- what a line has to be for it: for `*`, as wide as the items
abbrev pub ListsLine : SelectList Named → List FromItem → Line → Type 0
ListsLine all_columns items line = HaveWidths items line
ListsLine (expressions es) items line = ⊤

-- a line of these items, with its group
abbrev pub seen_by_name : List FromItem → Line → List Line → Scope Item
seen_by_name items line group = record { items = items_named items; line = line; group = group }

abbrev pub seen_by_place : List (Unit {0}) → Line → List Line → Scope (Unit {0})
seen_by_place heads line group = record { items = heads; line = line; group = group }

-- a row is shown alike, and the set functions are the same one by one
pub record SameList (s : Setting) (scopes : List (List FromItem)) (items : List FromItem) (list : SelectList Named)
    (shown : List PlacedExpr) : Type 0 where
  pub functions : AllZip (SameValue s (items ∷ scopes)) (list_functions list) (flat_map set_functions shown)
  pub values : (heads : List (Unit {0})) (line : Line) (group : List Line) (env : Env Item) (other : Env (Unit {0}))
      → ListsLine list items line
      → SeenEnv s.parameters (items ∷ scopes) (within (seen_by_name items line group) env)
      (within (seen_by_place heads line group) other)
      → listed_values (named s) list (within (seen_by_name items line group) env)
      ≡ listed_values (at_places s) (expressions shown) (within (seen_by_place heads line group) other)

pub list_same : (s : Setting) (scopes : List (List FromItem)) (items : List FromItem) → AreInOrder items
    → (list : SelectList Named)
    → IfOk (list_placed (around s (items ∷ scopes)) items list) (SameList s scopes items list)
list_same s scopes items order all_columns = record {
  functions = subst (λ fs. AllZip (SameValue s (items ∷ scopes)) [] fs) (sym (no_functions 0 items)) tt;
  values = λ heads line group env other w h. sym (line_shown s (seen_by_place heads line group) other 0 line items refl order w);
}
list_same s scopes items order (expressions es) =
    if_also (each (expr_placed (around s (items ∷ scopes))) es) (AllZip (SameExpr s (items ∷ scopes)) es)
    (SameList s scopes items (expressions es))
    (if_each (expr_placed (around s (items ∷ scopes))) (SameExpr s (items ∷ scopes)) (expr_same s (items ∷ scopes)) es)
    (λ fs same. record {
      functions = exprs_functions s (items ∷ scopes) es fs same;
      values = λ heads line group env other w h.
          values_same s (items ∷ scopes) es fs
          (weaker_zip (SameExpr s (items ∷ scopes)) (SameValue s (items ∷ scopes)) (λ e f r. r.value) es fs same)
          (within (seen_by_name items line group) env) (within (seen_by_place heads line group) other) h;
    })
