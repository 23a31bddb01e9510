-- Trees whose columns are the same in two environments mean the same in both (ISO/IEC 9075:1992, 6.4 and 7.6).
use Rattle.std.proofs.Common.{◌≡◌, ℕ, suc, List, ◌∷◌, Option, refl, ap}
use Rattle.std.specs.Prelude.{⊤, slice_get}
use Rattle.std.specs.Option.{option_and_then}
use Rattle.sq_lex.specs.declared.name.Name.{Name}
use Rattle.sq_value.specs.declared.value.Value.{Value}
use Rattle.sq_meaning.specs.Status.{Outcome, well_formed}
use Rattle.sq_meaning.specs.Syntax.{SelectList, all_columns, expressions, Cond, Clause, Select, absent, present}
use Rattle.sq_meaning.specs.Environment.{Row, Input, Scope, Env, Place}
use Rattle.sq_meaning.specs.Placed.{Placed, by_place, placed_value}
use Rattle.sq_meaning.specs.Query.{truth, rows}
use Rattle.sq_meaning.proofs.Parts.{ExprParts, CondParts, SelectParts, ListHas, ClauseHas}
use Rattle.sq_meaning.proofs.Related.{FindTheSame, GroupsAlike, ReadTheSame, alike_beside}
use Rattle.sq_meaning.proofs.Related as related
use Rattle.sq_bound.specs.Columns.{ExprReads, ListReads, CondReads, CondsRead, ClauseReads, SelectReads}

-- ---- what a tree reads, its parts read

module _ {T : Type 0} (P : ℕ → Place → Type 0) where
  expr_parts : ExprParts {N = Placed T} (ExprReads P)
  expr_parts = record {
    of_signed = λ n sign e h. h;
    of_added = λ n sign a b h. h;
    of_scaled = λ n sign a b h. h;
    of_bracketed = λ n e h. h;
  }

  cond_parts : CondParts {N = Placed T} (ExprReads P) (CondReads P) (CondsRead P) (SelectReads P)
  cond_parts = record {
    of_compare = λ n op a b h. h;
    of_scalar = λ n op a q h. h;
    of_quantified = λ n op k a q h. h;
    of_between = λ n a low high h. h;
    of_among = λ n a q h. h;
    of_list = λ n a es h. h;
    of_like = λ n text pattern escape h. h;
    of_null = λ n a h. h;
    of_exists = λ n q h. h;
    of_negated = λ n c h. h;
    of_conjunction = λ n cs h. h;
    of_disjunction = λ n cs h. h;
    of_first = λ n c cs h. h;
  }

  list_has : (n : ℕ) (list : SelectList (Placed T)) → ListReads P n list → ListHas (ExprReads P) n list
  list_has n all_columns h = tt
  list_has n (expressions es) h = h

  clause_has : (n : ℕ) (clause : Clause (Placed T)) → ClauseReads P n clause → ClauseHas (CondReads P) n clause
  clause_has n absent h = tt
  clause_has n (present c) h = h

  select_parts : SelectParts {N = Placed T} (ExprReads P) (CondReads P) (SelectReads P) (λ from. ⊤)
  select_parts = record {
    of_select = λ n distinct list from filter by having h.
        (tt, list_has (suc n) list h.0, clause_has (suc n) filter h.1, h.2, clause_has (suc n) having h.3);
  }

-- ---- scopes in which what a tree reads is the same

abbrev pub Scopes : Type 0
Scopes = List (Scope (Unit {0}))

-- the value at a place, if there is one
abbrev pub value_there : Place → Scopes → Option Value
value_there p scopes = option_and_then (λ (s : Scope (Unit {0})). option_and_then (λ row. slice_get row p.column) (slice_get s.line p.item)) (slice_get scopes p.depth)

-- What relates the scopes around a query that stands so many queries deep (Around), and the scopes in which the parts of one
-- are seen (Here), where P holds of the places of all columns that are read: the columns have the same values.
pub record AreAlike (P : ℕ → Place → Type 0) (Around Here : ℕ → Scopes → Scopes → Type 0) : Type 0 where
  pub inside : (deep : ℕ) (s : Scope (Unit {0})) (xs ys : Scopes) → Around deep xs ys → Here (suc deep) (s ∷ xs) (s ∷ ys)
  pub around : (deep : ℕ) (xs ys : Scopes) → Here deep xs ys → Around deep xs ys
  pub column : (deep : ℕ) (p : Place) (xs ys : Scopes) → Here deep xs ys → P deep p → value_there p xs ≡ value_there p ys
  pub nearest : (deep : ℕ) (xs ys : Scopes) → Here deep xs ys → GroupsAlike (Here deep) xs ys

module _ {T : Type 0} (rows_of : T → Outcome (List Row)) (inputs : List Input) (name : Name)
    (P : ℕ → Place → Type 0) (Around Here : ℕ → Scopes → Scopes → Type 0) (alike : AreAlike P Around Here) where
  abbrev in_scopes : Scopes → Env (Unit {0})
  in_scopes xs = record { scopes = xs; inputs = inputs; user = name }

  abbrev OneCall : Env (Unit {0}) → Env (Unit {0}) → Type 0
  OneCall env other = (env.inputs ≡ other.inputs) × (env.user ≡ other.user)

  abbrev There : ℕ → Env (Unit {0}) → Env (Unit {0}) → Type 0
  There n env other = Here n env.scopes other.scopes × OneCall env other

  reads : ReadTheSame (by_place rows_of) (by_place rows_of) (ExprReads P) There
  reads = record {
    operands = λ n f distinct e h. h;
    columns = λ n p env other r h. ap well_formed (alike.column n p env.scopes other.scopes h.0 r);
    inputs = λ n p env other r h. ap (placed_value p) (h.1.0);
    users = λ n env other r h. h.1.1;
    groups = λ n env other h.
        alike_beside (Here n) (OneCall env other) h.1 env.scopes other.scopes (alike.nearest n env.scopes other.scopes h.0);
  }

  find : FindTheSame (by_place rows_of) (by_place rows_of) (λ from. ⊤) There
  find = record {
    inside = λ n env other h s. (alike.inside n s env.scopes other.scopes (alike.around n env.scopes other.scopes h.0), h.1);
    tables = λ from h. (refl, refl);
  }

  pub truth_same : (deep : ℕ) (c : Cond (Placed T)) → CondReads P deep c → (xs ys : Scopes) → Here deep xs ys
      → truth (by_place rows_of) c (in_scopes xs) ≡ truth (by_place rows_of) c (in_scopes ys)
  truth_same deep c r xs ys h =
      related.truth_same (by_place rows_of) (by_place rows_of) (ExprReads P) There (expr_parts P) reads (CondReads P) (CondsRead P)
      (SelectReads P) (λ from. ⊤) (cond_parts P) (select_parts P) find deep c r (in_scopes xs) (in_scopes ys) (h, (refl, refl))

  pub rows_same : (deep : ℕ) (q : Select (Placed T)) → SelectReads P deep q → (xs ys : Scopes) → Around deep xs ys
      → rows (by_place rows_of) q (in_scopes xs) ≡ rows (by_place rows_of) q (in_scopes ys)
  rows_same deep q r xs ys h =
      related.rows_same (by_place rows_of) (by_place rows_of) (ExprReads P) There (expr_parts P) reads (CondReads P) (CondsRead P)
      (SelectReads P) (λ from. ⊤) (cond_parts P) (select_parts P) find deep q r (in_scopes xs) (in_scopes ys)
      (λ s. (alike.inside deep s xs ys h, (refl, refl)))
