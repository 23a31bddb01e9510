-- A CHECK condition has on a row the truth by its places that it has by its names (ISO/IEC 9075:1992, 11.4 and 11.9). No subquery, parameter,
-- set function or USER stands in it, so it is the same in every call.
use Rattle.std.proofs.Common.{◌≡◌, ℕ, zero, suc, not, List, [], ◌∷◌, length, map, Option, Some, None, refl, sym, ap, ◌∙◌}
use Rattle.std.specs.Prelude.{IfSome, ⊤, slice_get}
use Rattle.std.specs.List.{AllByRecursion, AllZip}
use Rattle.sq_lex.specs.declared.name.Name.{Name}
use Rattle.sq_tree.specs.declared.cond.Cond.{Cond as WrittenCond}
use Rattle.sq_meaning.specs.Environment.{Env, Input, Row}
use Rattle.sq_meaning.specs.Expression.{Reading, value}
use Rattle.sq_meaning.specs.Query.{truth}
use Rattle.sq_meaning.specs.Spelled.{cond_of}
use Rattle.sq_meaning.specs.Status.{and_then}
use Rattle.sq_meaning.specs.Syntax.{Naming, Expr, literal, parameter, user, column, count_rows, set_function, signed, added, scaled, bracketed, Cond, Conds, compare, compare_subquery, compare_quantified, between, in_subquery, in_list, like, is_null, exists, negated, conjunction, disjunction, no_cond, a_cond}
use Rattle.sq_meaning.specs.Tables.{by_name, table_rows}
use Rattle.sq_meaning.specs.declared.status.Status.TheVariants.{IntegrityConstraintViolation}
use Rattle.sq_meaning.specs.Schema.{BaseTable, checks, column_definitions, table_columns}
use Rattle.sq_meaning.specs.Constraints.{all_satisfied, check_env, check_satisfied, demanded, row_satisfied, satisfied}
use Rattle.sq_meaning.proofs.Parts.{CondParts, ExprParts}
use Rattle.sq_meaning.proofs.Related.{ReadTheSame, alike_itself, truth_same}
use Rattle.sq_bound.specs.declared.condition.BoundCond.{BoundCond}
use Rattle.sq_bound.specs.declared.condition.TablePlace.TheVariants.{Base}
use Rattle.sq_bound.specs.declared.names.BaseTable.{BaseTable as BoundTable}
use Rattle.sq_bound.specs.declared.names.Column.{Column}
use Rattle.sq_binding.specs.Scope.{FromItem}
use Rattle.sq_binding.specs.View.{own_item as bound_item}
use Rattle.sq_binding.specs.Names.{descriptor_of}
use Rattle.sq_binding.specs.Written.{CondIs, check_placed}
use Rattle.sq_expression.specs.Frame.{inputs_of}
use Rattle.sq_query.specs.Row.{outside}
use Rattle.sq_change.specs.Constraints.{check_met, row_met}
use Rattle.sq_change.specs.Made.{Seen, Shown}
use Rattle.sq_run.proofs.Places.Bound.{bound_truth}
use Rattle.sq_run.proofs.Places.Items.{names_of_columns, names_over, over_in_order}
use Rattle.sq_run.proofs.Changed.Levels.{HasLength}
use Rattle.sq_run.proofs.Changed.NotNull.{AreFoundFrom, nulls_same, refuses_null}
use Rattle.sq_run.proofs.Places.Seen.{SeenEnv, SeenLine}
use Rattle.sq_run.proofs.Places.Setting.{Setting}
use Rattle.sq_run.proofs.Sites.Stars.{CondStars, CondsStars}

-- ---- conditions that read the row alone

module _ {N : Naming} where
  -- columns, constants and what is calculated of them
  abbrev pub IsOfRow : Expr N → Type 0
  IsOfRow (literal v) = ⊤
  IsOfRow (parameter p) = ⊥
  IsOfRow user = ⊥
  IsOfRow (column c) = ⊤
  IsOfRow count_rows = ⊥
  IsOfRow (set_function f distinct e) = ⊥
  IsOfRow (signed sign e) = IsOfRow e
  IsOfRow (added sign a b) = IsOfRow a × IsOfRow b
  IsOfRow (scaled sign a b) = IsOfRow a × IsOfRow b
  IsOfRow (bracketed e) = IsOfRow e

  abbrev pub IsEscapeOfRow : Option (Expr N) → Type 0
  IsEscapeOfRow None = ⊤
  IsEscapeOfRow (Some e) = IsOfRow e

  abbrev mutual
    pub IsCondOfRow : Cond N → Type 0
    IsCondOfRow (compare op a b) = IsOfRow a × IsOfRow b
    IsCondOfRow (compare_subquery op a q) = ⊥
    IsCondOfRow (compare_quantified op k a q) = ⊥
    IsCondOfRow (between a low high) = IsOfRow a × IsOfRow low × IsOfRow high
    IsCondOfRow (in_subquery a q) = ⊥
    IsCondOfRow (in_list a es) = IsOfRow a × AllByRecursion IsOfRow es
    IsCondOfRow (like text pattern escape) = IsOfRow text × IsOfRow pattern × IsEscapeOfRow escape
    IsCondOfRow (is_null a) = IsOfRow a
    IsCondOfRow (exists q) = ⊥
    IsCondOfRow (negated c) = IsCondOfRow c
    IsCondOfRow (conjunction cs) = AreCondsOfRow cs
    IsCondOfRow (disjunction cs) = AreCondsOfRow cs

    pub AreCondsOfRow : Conds N → Type 0
    AreCondsOfRow no_cond = ⊤
    AreCondsOfRow (a_cond c cs) = IsCondOfRow c × AreCondsOfRow cs

  mutual
    -- no subquery, and so no `*`
    stars_of_row : (c : Cond N) → IsCondOfRow c → CondStars c
    stars_of_row (compare op a b) h = tt
    stars_of_row (compare_subquery op a q) h = absurd h
    stars_of_row (compare_quantified op k a q) h = absurd h
    stars_of_row (between a low high) h = tt
    stars_of_row (in_subquery a q) h = absurd h
    stars_of_row (in_list a es) h = tt
    stars_of_row (like text pattern escape) h = tt
    stars_of_row (is_null a) h = tt
    stars_of_row (exists q) h = absurd h
    stars_of_row (negated c) h = stars_of_row c h
    stars_of_row (conjunction cs) h = all_stars_of_row cs h
    stars_of_row (disjunction cs) h = all_stars_of_row cs h

    all_stars_of_row : (cs : Conds N) → AreCondsOfRow cs → CondsStars cs
    all_stars_of_row no_cond h = tt
    all_stars_of_row (a_cond c cs) h = (stars_of_row c h.0, all_stars_of_row cs h.1)

-- ---- they are the same in every call

module _ {N : Naming} (m : Reading N) (inputs : List Input) (caller : Name) where
  -- An environment with the same scopes, in another call.
  abbrev in_call : Env N.Item → Env N.Item
  in_call env = record { scopes = env.scopes; inputs = inputs; user = caller }

  operands : ExprParts {N = N} (λ n e. IsOfRow e)
  operands = record {
    of_signed = λ n sign e h. h;
    of_added = λ n sign a b h. h;
    of_scaled = λ n sign a b h. h;
    of_bracketed = λ n e h. h;
  }

  escaped : (escape : Option (Expr N)) → IsEscapeOfRow escape → IfSome escape (λ e. IsOfRow e)
  escaped None h = tt
  escaped (Some e) h = h

  parts : CondParts {N = N} (λ n e. IsOfRow e) (λ n c. IsCondOfRow c) (λ n cs. AreCondsOfRow cs) (λ n q. ⊥)
  parts = record {
    of_compare = λ n op a b h. h;
    of_scalar = λ n op a q h. absurd h;
    of_quantified = λ n op k a q h. absurd h;
    of_between = λ n a low high h. h;
    of_among = λ n a q h. absurd h;
    of_list = λ n a es h. h;
    of_like = λ n text pattern escape h. (h.0, h.1, escaped escape h.2);
    of_null = λ n a h. h;
    of_exists = λ n q h. h;
    of_negated = λ n c h. h;
    of_conjunction = λ n cs h. h;
    of_disjunction = λ n cs h. h;
    of_first = λ n c cs h. h;
  }

  abbrev SameScopes : ℕ → Env N.Item → Env N.Item → Type 0
  SameScopes n env other = env.scopes ≡ other.scopes

  read : ReadTheSame m m (λ n e. IsOfRow e) SameScopes
  read = record {
    operands = λ n f distinct e h. absurd h;
    columns = λ n c env other r h. λ i. value m (column c) (record { scopes = h i; inputs = inputs; user = caller });
    inputs = λ n p env other r h. absurd r;
    users = λ n env other r h. absurd r;
    groups = λ n env other h. alike_itself env.scopes other.scopes h;
  }

  truth_in_call : (c : Cond N) → IsCondOfRow c → (env : Env N.Item) → truth m c env ≡ truth m c (in_call env)
  truth_in_call c h env =
      truth_same m m (λ n e. IsOfRow e) SameScopes operands read (λ n d. IsCondOfRow d) (λ n ds. AreCondsOfRow ds) (λ n q. ⊥) (λ from. ⊥)
      parts (record { of_select = λ n distinct list from filter by having none. absurd none })
      (record { inside = λ n here there same s. λ i. s ∷ same i; tables = λ from none. absurd none }) 0 c h env (in_call env) refl

-- ---- CHECK

-- What the catalog says of the rows of a base table: its bound columns have the names that are written, each CHECK is bound as it is
-- written and reads the row alone, no two columns have one name, and NOT NULL is where it is written (11.4 and 11.9).
pub record IsRowCheckedAs (t : BaseTable) (b : BoundTable) : Type 0 where
  pub columns : List Column
  pub names : table_columns t.definition ≡ names_of_columns columns
  pub checks_are : AllZip (λ written c. CondIs (check_placed t.name columns written) c) (checks t.definition) b.checks
  pub of_row : AllByRecursion (λ written. IsCondOfRow (cond_of t.name.user written)) (checks t.definition)
  pub found : AreFoundFrom (table_columns t.definition) 0 (column_definitions t.definition)
  pub not_nulls : AllZip (λ w c. c.not_null ≡ refuses_null w) (column_definitions t.definition) b.columns

module _ (s : Seen) (shown : Shown) (t : BaseTable) (b : BoundTable) (h : IsRowCheckedAs t b) where
  -- CHECK knows no table and no parameter
  abbrev no_tables : Setting
  no_tables = record { tables = []; rows_of = table_rows [] [] []; known = λ _ _. None; shown = shown; parameters = [] }

  abbrev item : FromItem
  item = bound_item t.name (map descriptor_of h.columns)

  -- the table as an item, in both readings
  row_is_seen : (row : Row)
      → SeenEnv [] ((item ∷ []) ∷ []) (in_call (by_name [] [] []) (inputs_of s.values) s.user (check_env t row))
      (outside (row ∷ []) s.values s.user)
  row_is_seen row = record {
    scopes_are = (
      record {
        items_are = ap (λ ns. record { reference = record { table = t.name; correlation = None }; columns = ns } ∷ []) (h.names ∙ sym (names_over 0 h.columns));
        line = line;
        group = tt;
      },
      tt,
    );
    inputs_are = record { names = tt; values = refl };
    user_is = refl;
  }
    where
      line : SeenLine (item ∷ []) (row ∷ []) (row ∷ [])
      line zero k c e =
          ap (slice_get row)
          (sym (over_in_order (record { table = t.name; correlation = None }) (record { place = Base 0; columns = h.columns; under = None }) k c e))
      line (suc n) k c e = cc

  check_truth_same : (row : Row) (written : WrittenCond) (c : BoundCond) → IsCondOfRow (cond_of t.name.user written)
      → CondIs (check_placed t.name h.columns written) c
      → check_satisfied t row written ≡ check_met shown s row c
  check_truth_same row written c of is =
      ap satisfied
      (truth_in_call (by_name [] [] []) (inputs_of s.values) s.user (cond_of t.name.user written) of (check_env t row)
      ∙ bound_truth no_tables (λ name. tt) ((item ∷ []) ∷ []) (cond_of t.name.user written)
      (stars_of_row (cond_of t.name.user written) of) c is
      (in_call (by_name [] [] []) (inputs_of s.values) s.user (check_env t row)) (outside (row ∷ []) s.values s.user)
      (row_is_seen row))

  all_checks_same : (row : Row) (ws : List WrittenCond) (cs : List BoundCond)
      → AllZip (λ written c. CondIs (check_placed t.name h.columns written) c) ws cs
      → AllByRecursion (λ written. IsCondOfRow (cond_of t.name.user written)) ws
      → all_satisfied (check_satisfied t row) ws ≡ all_satisfied (check_met shown s row) cs
  all_checks_same row [] [] is of = refl
  all_checks_same row [] (c ∷ cs) is of = absurd is
  all_checks_same row (w ∷ ws) [] is of = absurd is
  all_checks_same row (w ∷ ws) (c ∷ cs) is of =
      (λ i. and_then (check_truth_same row w c of.0 is.0 i) (λ _. all_checks_same row ws cs is.1 of.1 i))

  -- A row meets NOT NULL and each CHECK alike.
  pub row_checked_same : (row : Row) → HasLength (length b.columns) row → row_satisfied t row ≡ row_met shown s b row
  row_checked_same row l =
      (λ i. and_then (demanded (not (nulls_same t.definition b.columns h.found h.not_nulls row l i)) IntegrityConstraintViolation) (λ _. all_checks_same row (checks t.definition) b.checks h.checks_are h.of_row i))
