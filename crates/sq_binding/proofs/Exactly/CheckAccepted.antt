-- A condition of CHECK is bound exactly if the rules find neither a syntax fault nor a subquery or USER in it (ISO/IEC 9075:1992, 11.9).
use Rattle.std.proofs.Common.{◌≡◌, Bool, true, false, not, ◌||◌, List, [], ◌∷◌, Some, None, Ok, Err, refl, sym, ap, subst, ◌∙◌}
use Rattle.std.specs.List.{list_any}
use Rattle.std.specs.Option.{option_map}
use Rattle.std.specs.Prelude.{if◌then◌else◌, is_ok, Result}
use Rattle.std.specs.Result.{result_ok}
use Rattle.std.proofs.lemmas.Bool.{false≢true}
use Rattle.sq_value.proofs.Truths.{or_false, or_true}
use Rattle.sq_meaning.specs.Environment.{TableName, TableReference}
use Rattle.sq_meaning.specs.Spelled.{Named}
use Rattle.sq_meaning.specs.Status as status
use Rattle.sq_meaning.specs.Syntax.{Cond}
use Rattle.sq_meaning.specs.Tables.{TableDescriptor, descriptor_of}
use Rattle.sq_meaning.specs.Target.{has_subquery}
use Rattle.sq_meaning.specs.Binding.{Judged, has_syntax_fault}
use Rattle.sq_meaning.specs.SchemaRefusal.{is_refused_in_check}
use Rattle.sq_meaning.specs.Site.{Site, cond_sites, plain_query}
use Rattle.sq_meaning.specs.WellFormedStatement.{beside_table}
use Rattle.sq_bound.specs.declared.condition.TablePlace.TheVariants.{Base}
use Rattle.sq_binding.specs.Condition.{cond_bound}
use Rattle.sq_binding.specs.Found.{Found}
use Rattle.sq_binding.specs.From.{NamedTable, NamedTables, item_over}
use Rattle.sq_binding.specs.NumberedCondition.{NumberedCond}
use Rattle.sq_binding.specs.Outcome.{Outcome}
use Rattle.sq_binding.specs.Select.{Surroundings}
use Rattle.sq_binding.specs.View.{CheckFault, beside_columns, check_bound, checked}
use Rattle.sq_binding.specs.Whole.{at_first}
use Rattle.sq_binding.proofs.Exactly.Accepted.{all_held, syntax_fault}
use Rattle.sq_binding.proofs.Exactly.Accepts.{clean_is_sound}
use Rattle.sq_binding.proofs.OneTable.AlikeConds.{cond_alike}
use Rattle.sq_binding.proofs.OneTable.AlikeParts.{Anything, LikePart, scope_same}
use Rattle.sq_binding.proofs.Faultless.CleanBound.{cond_clean}
use Rattle.sq_binding.proofs.Faultless.CleanSelect.{tight_lines}
use Rattle.sq_binding.proofs.FaultsFound.CondFaults.{CondSpellsNoNull, cond_faults}
use Rattle.sq_binding.proofs.FaultsFound.FromFaults.{NamesFit}
use Rattle.sq_binding.proofs.OneTable.LeafScopes.{alone, both_told, own, own_items, own_over}
use Rattle.sq_binding.proofs.FaultsFound.SelectFaults.{groups_of_lines}
use Rattle.sq_binding.proofs.AtSites.Subqueries.{cond_finds}
use Rattle.sq_binding.proofs.Exactly.Tells.{Tells, judged_tells}
use Rattle.sq_binding.proofs.Exactly.Told.{Told}
use Rattle.sq_binding.proofs.AtSites.UserFound.{cond_refused, cond_user}

-- The table that is defined is among those of the rules, and there is no parameter.
module _ (j : Judged) (no_parameters : j.known.parameters ≡ []) (t : TableName) (d : TableDescriptor) (known : descriptor_of j.known.tables t ≡ Ok d) where
  abbrev r : TableReference
  r = record { table = t; correlation = None }

  -- names that mean the tables of the rules
  abbrev meant : TableDescriptor → NamedTable
  meant d = record { place = Base 0; columns = d.columns; may_select = true; may_grant = true }

  abbrev names : NamedTables
  names t = option_map meant (result_ok (descriptor_of j.known.tables t))

  fit_one : (o : status.Outcome TableDescriptor) → option_map (λ (n : NamedTable). n.columns) (option_map meant (result_ok o)) ≡ option_map (λ d. d.columns) (result_ok o)
  fit_one (Ok d) = refl
  fit_one (Err s) = refl

  fit : NamesFit names j
  fit name = fit_one (descriptor_of j.known.tables name)

  there : names t ≡ Some (meant d)
  there = ap (λ (o : status.Outcome TableDescriptor). option_map meant (result_ok o)) known

  abbrev here : Surroundings
  here = own names j fit r (meant d) there

  abbrev sites : Cond Named → List Site
  sites c = cond_sites j.known (beside_table t) c

  own_tells : (c : Cond Named) → CondSpellsNoNull c → Tells j (sites c) (cond_bound here c)
  own_tells c null =
      judged_tells j (sites c) _ _ _ (cond_bound here c)
      (cond_faults names j fit c null (alone (item_over r (meant d)).item ∷ []) (plain_query (r ∷ []) ∷ []) (own_over names j fit r (meant d) there)
      (groups_of_lines j [] [] tt (λ depth. tt) (r ∷ []) (item_over r (meant d) ∷ []) (own_items names j fit r (meant d) there)) false)
      (λ held counts z is. cond_clean names j fit held c null (alone (item_over r (meant d)).item ∷ []) (plain_query (r ∷ []) ∷ []) (own_over names j fit r (meant d) there)
      (groups_of_lines j [] [] tt (λ depth. tt) (r ∷ []) (item_over r (meant d) ∷ []) (own_items names j fit r (meant d) there))
      (tight_lines j [] [] tt (λ depth. tt) (λ depth p grouped. refl) (r ∷ []) (item_over r (meant d) ∷ []) (own_items names j fit r (meant d) there)) false counts z is (λ free p. refl))

  -- what CHECK sees: the columns of the table, and no table
  abbrev seen : Surroundings
  seen = record (beside_columns t d.columns) { parameters = j.known.parameters }

  -- without a subquery it is bound as over the tables of the rules
  pub seen_told : (c : Cond Named) → CondSpellsNoNull c → has_subquery c ≡ false → Told j (sites c) (cond_bound seen c at_first)
  seen_told c null none =
      both_told j (sites c) (LikePart Anything) (cond_bound here c at_first) (cond_bound seen c at_first)
      (cond_alike j.known.parameters c names (λ t. None) (λ some. absurd (false≢true (sym none ∙ some))) (alone (item_over r (meant d)).item ∷ []) (alone (item_over r (meant d)).item ∷ []) (scope_same (alone (item_over r (meant d)).item), tt) false at_first)
      (own_tells c null at_first)

module _ (j : Judged) (no_parameters : j.known.parameters ≡ []) (t : TableName) (d : TableDescriptor) (known : descriptor_of j.known.tables t ≡ Ok d) where
  abbrev beside : Surroundings
  beside = record (beside_columns t d.columns) { parameters = j.known.parameters }

  abbrev S : Cond Named → List Site
  S c = cond_sites j.known (beside_table t) c

  abbrev is_refused : Cond Named → Bool
  is_refused c = list_any is_refused_in_check (S c)

  abbrev Exactly : Cond Named → Outcome (Found NumberedCond) → Type 0
  Exactly c o = is_ok (checked o) ≡ not (has_syntax_fault j (S c) || is_refused c)

  abbrev answered : NumberedCond → Bool → Result NumberedCond CheckFault
  answered x refused = if refused then Err CheckFault.not_in_check else Ok x

  kept_if : (x : Found NumberedCond) (user subquery : Bool) → x.findings.values.has_user ≡ user → x.findings.has_subquery ≡ subquery → is_ok (checked (Ok x)) ≡ not (user || subquery)
  kept_if x user subquery e f = (λ i. is_ok (answered x.part (e i || f i))) ∙ by (user || subquery)
    where
      by : (b : Bool) → is_ok (answered x.part b) ≡ not b
      by true = refl
      by false = refl

  with_subquery : (c : Cond Named) → has_subquery c ≡ true → (o : Outcome (Found NumberedCond)) → cond_bound beside c at_first ≡ o → Exactly c o
  with_subquery c some (Err f) is = ap not (sym (ap (λ b. has_syntax_fault j (S c) || b) (cond_refused j.known (beside_table t) c some) ∙ or_true (has_syntax_fault j (S c))))
  with_subquery c some (Ok x) is =
      kept_if x x.findings.values.has_user true refl (cond_finds c beside at_first x is ∙ some) ∙ ap not (or_true x.findings.values.has_user)
      ∙ ap not (sym (ap (λ b. has_syntax_fault j (S c) || b) (cond_refused j.known (beside_table t) c some) ∙ or_true (has_syntax_fault j (S c))))

  without_subquery : (c : Cond Named) → CondSpellsNoNull c → has_subquery c ≡ false → (o : Outcome (Found NumberedCond)) → cond_bound beside c at_first ≡ o → Exactly c o
  without_subquery c null none (Err f) is =
      ap not (sym (ap (λ b. b || is_refused c) (syntax_fault j (S c) f (subst (Told j (S c)) is (seen_told j no_parameters t d known c null none)) (subst (Told (all_held j) (S c)) is (seen_told (all_held j) no_parameters t d known c null none)))))
  without_subquery c null none (Ok x) is =
      kept_if x (is_refused c) false (cond_user j.known (beside_table t) beside refl c none at_first x is) (cond_finds c beside at_first x is ∙ none) ∙ ap not (or_false (is_refused c))
      ∙ ap not (sym (ap (λ b. b || is_refused c) (clean_is_sound j (S c) (subst (Told (all_held j) (S c)) is (seen_told (all_held j) no_parameters t d known c null none) (λ t p. refl)))))

  either_way : (c : Cond Named) → CondSpellsNoNull c → (b : Bool) → has_subquery c ≡ b → Exactly c (cond_bound beside c at_first)
  either_way c null true e = with_subquery c e (cond_bound beside c at_first) refl
  either_way c null false e = without_subquery c null e (cond_bound beside c at_first) refl

  -- the condition of a CHECK is bound exactly where the rules refuse nothing in it
  pub check_accepted : (c : Cond Named) → CondSpellsNoNull c → is_ok (check_bound t d.columns c) ≡ not (has_syntax_fault j (cond_sites j.known (beside_table t) c) || list_any is_refused_in_check (cond_sites j.known (beside_table t) c))
  check_accepted c null =
      subst (λ parameters. is_ok (checked (cond_bound (record (beside_columns t d.columns) { parameters = parameters }) c at_first)) ≡ not (has_syntax_fault j (S c) || is_refused c)) no_parameters (either_way c null (has_subquery c) refl)
