-- A query specification is bound exactly if the rules find no syntax fault at its sites. A refused one has the fault that is
-- answered (ISO/IEC 9075:1992, 7.9).
use Rattle.std.proofs.Common.{◌≡◌, ℕ, zero, suc, Bool, true, false, ◌||◌, List, [], ◌∷◌, Some, Ok, Err, refl, sym, ap, subst, ◌∙◌}
use Rattle.std.specs.List.{list_any}
use Rattle.std.specs.Prelude.{is_ok, not, slice_get}
use Rattle.std.proofs.lemmas.Bool.{false≢true}
use Rattle.sq_value.proofs.Truths.{or_true}
use Rattle.sq_meaning.specs.Spelled.{Named}
use Rattle.sq_meaning.specs.Syntax.{Select}
use Rattle.sq_meaning.specs.Binding.{Judged, breaks, has_fault, has_syntax_fault, syntax_faults}
use Rattle.sq_meaning.specs.Site.{Site, outside, select_sites}
use Rattle.sq_meaning.specs.declared.fault.BindingFault.{BindingFault}
use Rattle.sq_meaning.specs.declared.fault.BindingFault.TheVariants as fault
use Rattle.sq_binding.specs.Condition.{select_bound}
use Rattle.sq_binding.specs.Found.{Counts, Found}
use Rattle.sq_binding.specs.From.{NamedTables}
use Rattle.sq_binding.specs.NumberedCondition.{NumberedSelect}
use Rattle.sq_binding.specs.Outcome.{Outcome}
use Rattle.sq_binding.proofs.Faultless.Clean.{Clean}
use Rattle.sq_binding.proofs.Faultless.CleanBound.{select_clean}
use Rattle.sq_binding.proofs.FaultsFound.CondFaults.{SelectSpellsNoNull, select_faults}
use Rattle.sq_binding.proofs.FaultsFound.FromFaults.{NamesFit}
use Rattle.sq_binding.proofs.FaultsFound.Judged.{IfJudged}
use Rattle.sq_binding.proofs.FaultsFound.PredicateFaults.{IsShown, surrounded}

any_there : {A : Type 0} (test : A → Bool) (xs : List A) (n : ℕ) (x : A) → slice_get xs n ≡ Some x → test x ≡ true → list_any test xs ≡ true
any_there test [] n x e t = cc
any_there test (y ∷ ys) zero x e t = let same : y ≡ x = cc in ap (λ b. b || list_any test ys) (ap test same ∙ t)
any_there test (y ∷ ys) (suc n) x e t = ap (λ b. test y || b) (any_there test ys n x e t) ∙ or_true (test y)

module _ (names : NamedTables) (j : Judged) (fit : NamesFit names j) where
  -- the fault that is answered of a query specification outside of all others is there
  pub fault_is_there : (q : Select Named) → SelectSpellsNoNull q → (counts : Counts) (f : BindingFault) → select_bound (surrounded names j [] false) q counts ≡ Err f → has_fault j (select_sites j.known outside q) f ≡ true
  fault_is_there q null counts f is =
      subst (IfJudged j (select_sites j.known outside q) ⊥ (false ≡ true) (IsShown names j [] [] tt (λ depth far. tt) false q)) is (select_faults names j fit q null [] [] tt (λ depth. tt) false counts)

-- where all privileges are held
abbrev pub all_held : Judged → Judged
all_held j = record j { holds = λ t p. true }

held_here : (j : Judged) (s : Site) → breaks (all_held j) fault.PrivilegeMissing s ≡ false
held_here j (Site.table_read r) = refl
held_here j (Site.privilege_used t p) = refl
held_here j _ = refl

pub held_everywhere : (j : Judged) (sites : List Site) → has_fault (all_held j) sites fault.PrivilegeMissing ≡ false
held_everywhere j [] = refl
held_everywhere j (s ∷ sites) = λ i. held_here j s i || held_everywhere j sites i

-- a fault that is there, and none of privileges where all are held
pub syntax_fault : (j : Judged) (sites : List Site) (f : BindingFault) → has_fault j sites f ≡ true → has_fault (all_held j) sites f ≡ true → has_syntax_fault j sites ≡ true
syntax_fault j sites fault.UnknownTable h g = any_there (has_fault j sites) syntax_faults 0 fault.UnknownTable refl h
syntax_fault j sites fault.UnknownColumn h g = any_there (has_fault j sites) syntax_faults 1 fault.UnknownColumn refl h
syntax_fault j sites fault.AmbiguousName h g = any_there (has_fault j sites) syntax_faults 2 fault.AmbiguousName refl h
syntax_fault j sites fault.KindMismatch h g = any_there (has_fault j sites) syntax_faults 3 fault.KindMismatch refl h
syntax_fault j sites fault.LimitExceeded h g = any_there (has_fault j sites) syntax_faults 4 fault.LimitExceeded refl h
syntax_fault j sites fault.MisplacedSetFunction h g = any_there (has_fault j sites) syntax_faults 5 fault.MisplacedSetFunction refl h
syntax_fault j sites fault.UngroupedColumn h g = any_there (has_fault j sites) syntax_faults 6 fault.UngroupedColumn refl h
syntax_fault j sites fault.CountMismatch h g = any_there (has_fault j sites) syntax_faults 7 fault.CountMismatch refl h
syntax_fault j sites fault.BadSortKey h g = any_there (has_fault j sites) syntax_faults 8 fault.BadSortKey refl h
syntax_fault j sites fault.UnknownParameter h g = any_there (has_fault j sites) syntax_faults 9 fault.UnknownParameter refl h
syntax_fault j sites fault.BadIndicator h g = any_there (has_fault j sites) syntax_faults 10 fault.BadIndicator refl h
syntax_fault j sites fault.TargetTwice h g = any_there (has_fault j sites) syntax_faults 11 fault.TargetTwice refl h
syntax_fault j sites fault.NotUpdatable h g = any_there (has_fault j sites) syntax_faults 12 fault.NotUpdatable refl h
syntax_fault j sites fault.ColumnTwice h g = any_there (has_fault j sites) syntax_faults 13 fault.ColumnTwice refl h
syntax_fault j sites fault.UnknownCursor h g = any_there (has_fault j sites) syntax_faults 14 fault.UnknownCursor refl h
syntax_fault j sites fault.BadOrientation h g = any_there (has_fault j sites) syntax_faults 15 fault.BadOrientation refl h
syntax_fault j sites fault.PrivilegeMissing h g = absurd (false≢true (sym (held_everywhere j sites) ∙ g))

module _ (names : NamedTables) (j : Judged) (fit : NamesFit names j) where
  -- what is refused has a syntax fault
  pub refused_has_fault : (q : Select Named) → SelectSpellsNoNull q → (counts : Counts) (f : BindingFault) → select_bound (surrounded names j [] false) q counts ≡ Err f → has_syntax_fault j (select_sites j.known outside q) ≡ true
  refused_has_fault q null counts f is =
      syntax_fault j (select_sites j.known outside q) f (fault_is_there names j fit q null counts f is) (fault_is_there names (all_held j) fit q null counts f is)

  -- what has none is bound
  pub sound_is_bound : (q : Select Named) → SelectSpellsNoNull q → (counts : Counts) → has_syntax_fault j (select_sites j.known outside q) ≡ false → (x : Found NumberedSelect) × (select_bound (surrounded names j [] false) q counts ≡ Ok x)
  sound_is_bound q null counts sound = there (select_bound (surrounded names j [] false) q counts) refl
    where
      there : (o : Outcome (Found NumberedSelect)) → select_bound (surrounded names j [] false) q counts ≡ o → (x : Found NumberedSelect) × (select_bound (surrounded names j [] false) q counts ≡ Ok x)
      there (Ok x) is = (x, is)
      there (Err f) is = absurd (false≢true (sym sound ∙ refused_has_fault q null counts f is))

  -- what is bound has none
  pub bound_is_sound : (q : Select Named) → SelectSpellsNoNull q → (counts : Counts) (x : Found NumberedSelect) → select_bound (surrounded names j [] false) q counts ≡ Ok x → has_syntax_fault j (select_sites j.known outside q) ≡ false
  bound_is_sound q null counts x is =
      let clean : Clean (all_held j) (select_sites j.known outside q) = select_clean names (all_held j) fit (λ t p. refl) q null [] [] tt (λ depth. tt) (λ depth p grouped. refl) false counts x is in
      (λ i.
      clean fault.UnknownTable i || (clean fault.UnknownColumn i || (clean fault.AmbiguousName i || (clean fault.KindMismatch i || (clean fault.LimitExceeded i || (clean fault.MisplacedSetFunction i
      || (clean fault.UngroupedColumn i || (clean fault.CountMismatch i || (clean fault.BadSortKey i || (clean fault.UnknownParameter i || (clean fault.BadIndicator i || (clean fault.TargetTwice i
      || (clean fault.NotUpdatable i || (clean fault.ColumnTwice i || (clean fault.UnknownCursor i || (clean fault.BadOrientation i || false))))))))))))))))

  -- a query specification is bound exactly where it has no fault
  pub accepted_exactly : (q : Select Named) → SelectSpellsNoNull q → (counts : Counts) → is_ok (select_bound (surrounded names j [] false) q counts) ≡ not (has_syntax_fault j (select_sites j.known outside q))
  accepted_exactly q null counts = told (select_bound (surrounded names j [] false) q counts) refl
    where
      told : (o : Outcome (Found NumberedSelect)) → select_bound (surrounded names j [] false) q counts ≡ o → is_ok o ≡ not (has_syntax_fault j (select_sites j.known outside q))
      told (Ok x) is = sym (ap not (bound_is_sound q null counts x is))
      told (Err f) is = sym (ap not (refused_has_fault q null counts f is))
