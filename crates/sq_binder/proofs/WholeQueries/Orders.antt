-- The columns that sort keys name.
use Rattle.std.proofs.Common.{◌≡◌, ℕ, ◌+◌, ◌<◌, ◌≤◌, Bool, true, false, List, [], ◌∷◌, ◌++◌, length, length-take-le, take, take_all, drop, map, get_or, Option, Some, None, Ok, refl, sym, ap, ◌∙◌, append-nil, zero-add, arith}
use Rattle.std.proofs.lemmas.List.{length-map, map-append, take-append-drop, take_more}
use Rattle.std.proofs.lemmas.List.Elements.{filter_map-append}
use Rattle.std.specs.List.{enumerate_from, filter_map}
use Rattle.std.specs.Option.{is_some}
use Rattle.std.specs.Prelude.{if◌then◌else◌, option_to_list}
use Rattle.std.specs.Result.{result_ok}
use Rattle.sq_lex.specs.declared.name.Name.{Name}
use Rattle.sq_tree.specs.declared.«module».SortSpecification.{SortSpecification}
use Rattle.sq_meaning.specs.SortKeys.{columns_named, is_named, only_of}
use Rattle.sq_bound.specs.declared.condition.ResultColumn.{ResultColumn}
use Rattle.sq_binding.specs.NumberedCondition as binding
use Rattle.sq_binding.specs.Order.{order_bound, sort_column_bound}
use Rattle.sq_binding.specs.Outcome.{and_then}
use Rattle.sq_binding.specs.Seen.{column_of}
use Rattle.sq_binder.proofs.Clauses.FromItems.{enumerate_from-append}
use Rattle.sq_binder.specs.InTurn.{in_turn}
use Rattle.sq_binder.specs.Order.{names_seen}

-- ---- the column of a name

pub is_none : (o : Option ℕ) → is_some o ≡ false → o ≡ None
is_none None e = refl
is_none (Some k) e = cc

pub some_there : (o : Option ℕ) → is_some o ≡ true → (k : ℕ) × (o ≡ Some k)
some_there None e = cc
some_there (Some k) e = (k, refl)

abbrev name : binding.ResultColumn → Option Name
name c = c.name

seen_append : (before after : List ResultColumn) → names_seen (before ++ after) ≡ names_seen before ++ names_seen after
seen_append before after = ap (map name) (map-append column_of before after) ∙ map-append name (map column_of before) (map column_of after)

seen_long : (columns : List ResultColumn) → length (names_seen columns) ≡ length columns
seen_long columns = length-map (map column_of columns) name ∙ length-map columns column_of

module _ (wanted : Name) where
  abbrev position_if : ℕ × Option Name → Option ℕ
  position_if p = if is_named wanted p.1 then Some p.0 else None

  abbrev named_from : ℕ → List ResultColumn → List ℕ
  named_from k columns = filter_map position_if (enumerate_from k (names_seen columns))

  -- the columns of a name among the first ones, and behind them
  named_apart : (before after : List ResultColumn) → columns_named wanted (names_seen (before ++ after)) ≡ columns_named wanted (names_seen before) ++ named_from (length before) after
  named_apart before after =
      ap (columns_named wanted) (seen_append before after) ∙ ap (filter_map position_if) (enumerate_from-append 0 (names_seen before) (names_seen after))
      ∙ filter_map-append position_if (enumerate_from 0 (names_seen before)) (enumerate_from (0 + length (names_seen before)) (names_seen after))
      ∙ ap (λ n. columns_named wanted (names_seen before) ++ named_from n after) (zero-add (length (names_seen before)) ∙ seen_long before)

  one_more : (n : ℕ) (o : Option Name) (named : Bool) → is_named wanted o ≡ named → filter_map position_if ((n, o) ∷ []) ≡ option_to_list (if named then Some n else None)
  one_more n o true e = ap (λ b. filter_map (λ (p : ℕ × Option Name). if b then Some p.0 else None) ((n, o) ∷ [])) e
  one_more n o false e = ap (λ b. filter_map (λ (p : ℕ × Option Name). if b then Some p.0 else None) ((n, o) ∷ [])) e

  module _ (columns : List ResultColumn) (i : ℕ) (c : ResultColumn) (within : i < length columns) (at : get_or columns i c ≡ c) where
    next : (named : Bool) → is_named wanted c.name ≡ named
        → columns_named wanted (names_seen (take (i + 1) columns)) ≡ columns_named wanted (names_seen (take i columns)) ++ option_to_list (if named then Some i else None)
    next named e =
        ap (λ cs. columns_named wanted (names_seen cs)) (take_more columns i c within ∙ ap (λ x. take i columns ++ x ∷ []) at)
        ∙ named_apart (take i columns) (c ∷ [])
        ∙ ap (λ n. columns_named wanted (names_seen (take i columns)) ++ named_from n (c ∷ [])) (length-take-le i columns (omega (arith, within)))
        ∙ ap (λ l. columns_named wanted (names_seen (take i columns)) ++ l) (one_more i c.name named e)

    pub another : (found : Option ℕ) → is_named wanted c.name ≡ false → columns_named wanted (names_seen (take i columns)) ≡ option_to_list found → columns_named wanted (names_seen (take (i + 1) columns)) ≡ option_to_list found
    another found e h = next false e ∙ append-nil (columns_named wanted (names_seen (take i columns))) ∙ h

    pub the_first : (found : Option ℕ) → is_named wanted c.name ≡ true → found ≡ None → columns_named wanted (names_seen (take i columns)) ≡ option_to_list found
        → columns_named wanted (names_seen (take (i + 1) columns)) ≡ option_to_list (Some i)
    the_first found e none h = next true e ∙ ap (λ l. l ++ i ∷ []) (h ∙ ap option_to_list none)

    -- a second one
    pub the_second : (found : Option ℕ) → is_named wanted c.name ≡ true → is_some found ≡ true → columns_named wanted (names_seen (take i columns)) ≡ option_to_list found
        → result_ok (only_of (columns_named wanted (names_seen columns))) ≡ None
    the_second found e some h =
        let there = some_there found some in
        let two : columns_named wanted (names_seen (take (i + 1) columns)) ≡ there.0 ∷ i ∷ [] = next true e ∙ ap (λ l. l ++ i ∷ []) (h ∙ ap option_to_list there.1) in
        ap (λ cs. result_ok (only_of (columns_named wanted (names_seen cs)))) (sym (take-append-drop (i + 1) columns))
        ∙ ap (λ l. result_ok (only_of l)) (named_apart (take (i + 1) columns) (drop (i + 1) columns))
        ∙ ap (λ l. result_ok (only_of (l ++ named_from (length (take (i + 1) columns)) (drop (i + 1) columns)))) two

  only_found : (found : Option ℕ) → result_ok (only_of (option_to_list found)) ≡ found
  only_found None = refl
  only_found (Some k) = refl

  pub the_only : (columns : List ResultColumn) (i : ℕ) (found : Option ℕ) → length columns ≤ i → columns_named wanted (names_seen (take i columns)) ≡ option_to_list found
      → found ≡ result_ok (only_of (columns_named wanted (names_seen columns)))
  the_only columns i found past h = sym (ap (λ l. result_ok (only_of (columns_named wanted (names_seen l)))) (sym (take_all i columns past)) ∙ ap (λ l. result_ok (only_of l)) h ∙ only_found found)

-- ---- a position

pub long : (columns : List ResultColumn) → length (names_seen columns) ≡ length columns
long columns = seen_long columns

-- ---- the columns in turn

pub orders_in_turn : (names : List (Option Name)) (order : List SortSpecification) → order_bound names order ≡ in_turn (sort_column_bound names) order
orders_in_turn names [] = refl
orders_in_turn names (s ∷ order) = ap (λ o. and_then (sort_column_bound names s) (λ column. and_then o (λ columns. Ok (column ∷ columns)))) (orders_in_turn names order)
