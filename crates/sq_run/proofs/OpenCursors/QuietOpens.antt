-- A quiet target means the rows that a walk over them means (ISO/IEC 9075:1992, 13.2): each of its
-- conditions has a truth on each row, and reads no table but the one that is walked.
use Rattle.std.proofs.Common.{◌≡◌, ◌&&◌, cond, Bool, true, false, List, [], ◌∷◌, filter, map, refl, sym, ap, subst, ◌∙◌, Ok, Err}
use Rattle.std.specs.Prelude.{if◌then◌else◌}
use Rattle.std.specs.List.{AllByRecursion, list_any}
use Rattle.std.proofs.lemmas.Bool.{or_parts}
use Rattle.sq_lex.specs.declared.name.Name.{Name}
use Rattle.sq_value.specs.declared.truth.Truth.{Truth}
use Rattle.sq_value.specs.declared.value.Value.{Value}
use Rattle.sq_store.specs.declared.table.Numbered.{Numbered}
use Rattle.sq_meaning.specs.Environment.{Row}
use Rattle.sq_meaning.specs.Placed.{by_place}
use Rattle.sq_meaning.specs.Query.{is_true, truth}
use Rattle.sq_meaning.specs.Status.{Outcome, and_then, kept}
use Rattle.sq_meaning.specs.Target.{has_subquery}
use Rattle.sq_meaning.specs.WellFormed.{HasValue, IsRowOf}
use Rattle.sq_meaning.proofs.AnswerLaws.{all_weaker}
use Rattle.sq_bound.specs.Condition.{cond_of}
use Rattle.sq_bound.specs.WellFormed.{TableKinds, base_kinds}
use Rattle.sq_bound.specs.declared.condition.BoundCond.{BoundCond}
use Rattle.sq_bound.specs.declared.condition.TablePlace.{TablePlace}
use Rattle.sq_bound.specs.declared.query.Target.{Target}
use Rattle.sq_bound.proofs.QuietRows as quiet
use Rattle.sq_expression.specs.Frame.{inputs_of}
use Rattle.sq_query.specs.Row.{outside}
use Rattle.sq_query.specs.Target.{are_true, chosen, conditions_of, is_true_of, numbers_chosen}
use Rattle.sq_query.proofs.Keys.KeyedRows.{both_are, inputs_are}
use Rattle.sq_query.proofs.Needs.AnyTables.{truth_over}
use Rattle.sq_query.proofs.Targets.QuietTargets.{are_plain}
use Rattle.sq_query.proofs.Targets.TargetSearch.{truth_there}
use Rattle.sq_session.specs.Walk.{AreRowsUnder, IsQuietWith, is_meant, is_yes, no_tables}
use Rattle.sq_run.proofs.OpenCursors.WalkLeft.{all_kept, filtered_both}

-- ---- rows on which all conditions have a truth

all_pass : (rows : List Numbered) → filter (λ r. true) rows ≡ rows
all_pass [] = refl
all_pass (r ∷ rows) = ap (λ l. r ∷ l) (all_pass rows)

kept_is : (test : Numbered → Outcome Bool) (rows : List Numbered) → AllByRecursion (λ r. HasValue (test r)) rows
    → kept test rows ≡ Ok (filter (λ r. is_yes (test r)) rows)
kept_is test [] h = refl
kept_is test (r ∷ rows) h = by_test (test r) h.0 (kept_is test rows h.1)
  where
    by_test : (o : Outcome Bool) → HasValue o → kept test rows ≡ Ok (filter (λ x. is_yes (test x)) rows)
        → and_then o (λ b. and_then (kept test rows) (λ found. Ok (if b then r ∷ found else found)))
        ≡ Ok (cond (is_yes o) (r ∷ filter (λ x. is_yes (test x)) rows) (filter (λ x. is_yes (test x)) rows))
    by_test (Ok true) v e = ap (λ (o : Outcome (List Numbered)). and_then o (λ found. Ok (r ∷ found))) e
    by_test (Ok false) v e = ap (λ (o : Outcome (List Numbered)). and_then o (λ found. Ok found)) e
    by_test (Err status) v e = absurd v

module _ (test : BoundCond → Numbered → Outcome Truth) where
  abbrev HaveTruths : List BoundCond → Numbered → Type 0
  HaveTruths cs r = AllByRecursion (λ c. HasValue (test c r)) cs

  abbrev meets : List BoundCond → Numbered → Bool
  meets cs r = is_yes (are_true (λ c. test c r) cs)

  first_meets : (c : BoundCond) (cs : List BoundCond) (r : Numbered) → (is_yes (is_true (test c r)) && meets cs r) ≡ meets (c ∷ cs) r
  first_meets c cs r = by_truth (is_true (test c r))
    where
      by_truth : (o : Outcome Bool)
          → (is_yes o && meets cs r) ≡ is_yes (and_then o (λ holds. if holds then are_true (λ d. test d r) cs else Ok false))
      by_truth (Ok true) = refl
      by_truth (Ok false) = refl
      by_truth (Err status) = refl

  -- over all rows condition after condition, or row after row
  chosen_is : (cs : List BoundCond) (rows : List Numbered) → AllByRecursion (HaveTruths cs) rows
      → chosen (λ c r. is_true (test c r)) cs rows ≡ Ok (filter (meets cs) rows)
  chosen_is [] rows h = ap (λ l. Ok l) (sym (all_pass rows))
  chosen_is (c ∷ cs) rows h =
      ap (λ (o : Outcome (List Numbered)). and_then o (chosen (λ d r. is_true (test d r)) cs))
      (kept_is (λ r. is_true (test c r)) rows
      (all_weaker (HaveTruths (c ∷ cs)) (λ r. HasValue (is_true (test c r))) (λ r k. truth_there (test c r) k.0) rows h))
      ∙ chosen_is cs (filter (λ r. is_yes (is_true (test c r))) rows)
      (all_kept (HaveTruths cs) (λ r. is_yes (is_true (test c r))) rows (all_weaker (HaveTruths (c ∷ cs)) (HaveTruths cs) (λ r k. k.1) rows h))
      ∙ ap (λ l. Ok l) (filtered_both (λ r. is_yes (is_true (test c r))) (meets cs) rows ∙ (λ i. filter (λ r. first_meets c cs r i) rows))

-- ---- a quiet target

module _ (values : List Value) (user : Name) where
  abbrev test_alone : BoundCond → Numbered → Outcome Truth
  test_alone c r = truth (by_place no_tables) (cond_of [] c) (outside (r.row ∷ []) values user)

  chosen_alone : (shown : TablePlace → Outcome (List Row)) (cs : List BoundCond)
      → list_any (λ c. has_subquery (cond_of [] c)) cs ≡ false → (rows : List Numbered)
      → chosen (is_true_of shown values user) cs rows ≡ chosen (λ c r. is_true (test_alone c r)) cs rows
  chosen_alone shown [] plain rows = refl
  chosen_alone shown (c ∷ cs) plain rows =
      let n = or_parts (has_subquery (cond_of [] c)) (list_any (λ d. has_subquery (cond_of [] d)) cs) plain in
      (λ i. and_then (kept (λ r. is_true (truth_over shown no_tables (cond_of [] c) (outside (r.row ∷ []) values user) n.0 i)) rows) (λ left. chosen_alone shown cs n.1 left i))

  truths_alone : (r : Numbered) (cs : List BoundCond) → list_any (λ c. has_subquery (cond_of [] c)) cs ≡ false
      → AllByRecursion (λ c. HasValue (truth (by_place quiet.no_tables) (cond_of [] c) (outside (r.row ∷ []) values user))) cs
      → HaveTruths test_alone cs r
  truths_alone r [] plain h = tt
  truths_alone r (c ∷ cs) plain h =
      let n = or_parts (has_subquery (cond_of [] c)) (list_any (λ d. has_subquery (cond_of [] d)) cs) plain in (
        subst (λ (o : Outcome Truth). HasValue o) (truth_over quiet.no_tables no_tables (cond_of [] c) (outside (r.row ∷ []) values user) n.0) h.0,
        truths_alone r cs n.1 h.1,
      )

  -- The numbers of the rows that it means are those of the rows that a walk means.
  pub quiet_numbers : (columns : TableKinds) (t : Target) → IsQuietWith columns t values → (rows : List Numbered)
      → AreRowsUnder t rows → (shown : TablePlace → Outcome (List Row))
      → numbers_chosen (is_true_of shown values user) (conditions_of t) rows
      ≡ Ok (map (λ r. r.number) (filter (is_meant (conditions_of t) values user) rows))
  quiet_numbers columns t q rows under shown =
      ap (λ (o : Outcome (List Numbered)). and_then o (λ found. Ok (map (λ r. r.number) found)))
      (chosen_alone shown (conditions_of t) (are_plain t q.quiet) rows
      ∙ chosen_is test_alone (conditions_of t) rows
      (all_weaker (λ r. IsRowOf (base_kinds t.leaf.table) r.row) (HaveTruths test_alone (conditions_of t)) have_truths rows under))
    where
      have_truths : (r : Numbered) → IsRowOf (base_kinds t.leaf.table) r.row → HaveTruths test_alone (conditions_of t) r
      have_truths r is_row =
          let each = quiet.target_on_row columns q.parameters r.row (inputs_of values) user (inputs_are q.parameters values q.given) t q.quiet q.is_target is_row in
          truths_alone r (conditions_of t) (are_plain t q.quiet)
          (both_are (λ c. HasValue (truth (by_place quiet.no_tables) (cond_of [] c) (outside (r.row ∷ []) values user))) t.leaf.conditions t.condition each.0 each.1)
