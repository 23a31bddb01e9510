-- Outcomes that are answered exactly as the rules say. A well-formed text is bound, and a refused one has the fault that is answered. A
-- missing privilege is answered if no rule of syntax is broken (ISO/IEC 9075:1992, 4.26).
use Rattle.std.proofs.Common.{◌≡◌, Bool, true, false, not, ◌||◌, List, Ok, Err, refl, sym, subst, ◌∙◌}
use Rattle.std.specs.Prelude.{is_ok, if◌then◌else◌}
use Rattle.std.proofs.lemmas.Bool.{false≢true}
use Rattle.sq_meaning.specs.Binding.{Judged, has_fault, has_syntax_fault, is_well_formed, lacks_privilege}
use Rattle.sq_meaning.specs.Site.{Site}
use Rattle.sq_meaning.specs.declared.fault.BindingFault.{BindingFault}
use Rattle.sq_meaning.specs.declared.fault.BindingFault.TheVariants as fault
use Rattle.sq_binding.specs.Found.{Binding, Found}
use Rattle.sq_binding.specs.Outcome.{Outcome, and_then}
use Rattle.sq_binding.specs.Whole.{at_first, permitted, whole}
use Rattle.sq_binding.proofs.Exactly.Accepted.{all_held, held_everywhere, syntax_fault}
use Rattle.sq_binding.proofs.Faultless.Clean.{Clean}
use Rattle.sq_binding.proofs.Exactly.Told.{Told}

-- a fault that is answered is there; a missing privilege, where no rule of syntax is broken
abbrev pub Refuses : Judged → List Site → BindingFault → Type 0
Refuses j sites f = (has_fault j sites f ≡ true) × (is_well_formed j sites ≡ false) × (f ≡ fault.PrivilegeMissing → has_syntax_fault j sites ≡ false)

abbrev pub Accepts : {A : Type 0} → Judged → List Site → Outcome A → Type 0
Accepts j sites (Ok x) = is_well_formed j sites ≡ true
Accepts j sites (Err f) = Refuses j sites f

-- an outcome that accepts these sites is a value exactly where they are well formed
pub accepted : {A : Type 0} (j : Judged) (sites : List Site) (o : Outcome A) → Accepts j sites o → is_ok o ≡ is_well_formed j sites
accepted j sites (Ok x) h = sym h
accepted j sites (Err f) h = sym h.1

module _ (j : Judged) (sites : List Site) where
  -- where no rule is broken by one who holds all privileges, none of syntax is
  pub clean_is_sound : Clean (all_held j) sites → has_syntax_fault j sites ≡ false
  clean_is_sound clean = λ i.
      clean fault.UnknownTable i || (clean fault.UnknownColumn i || (clean fault.AmbiguousName i || (clean fault.KindMismatch i || (clean fault.LimitExceeded i || (clean fault.MisplacedSetFunction i
      || (clean fault.UngroupedColumn i || (clean fault.CountMismatch i || (clean fault.BadSortKey i || (clean fault.UnknownParameter i || (clean fault.BadIndicator i || (clean fault.TargetTwice i
      || (clean fault.NotUpdatable i || (clean fault.ColumnTwice i || (clean fault.UnknownCursor i || (clean fault.BadOrientation i || false)))))))))))))))

  not_sound : (a b : Bool) → a ≡ true → not (a || b) ≡ false
  not_sound true b e = refl
  not_sound false b e = cc

  -- a fault that is there, whatever privileges are held
  pub fault_accepts : (f : BindingFault) → has_fault j sites f ≡ true → has_fault (all_held j) sites f ≡ true → Refuses j sites f
  fault_accepts f h g = (
    h,
    not_sound (has_syntax_fault j sites) (lacks_privilege j sites) (syntax_fault j sites f h g),
    λ missing. absurd (false≢true (sym (held_everywhere j sites) ∙ subst (λ f. has_fault (all_held j) sites f ≡ true) missing g)),
  )

  told_accepts : {A : Type 0} (o : Outcome A) → Told j sites o → Told (all_held j) sites o → lacks_privilege j sites ≡ false → Accepts j sites o
  told_accepts (Ok x) h g none = λ i. not (clean_is_sound (g (λ t p. refl)) i || none i)
  told_accepts (Err f) h g none = fault_accepts f h g

  pub permitted_accepts : {A : Type 0} (x : A) (lacks : Bool) → lacks ≡ lacks_privilege j sites → Clean (all_held j) sites → Accepts j sites (if lacks then Err fault.PrivilegeMissing else Ok x)
  permitted_accepts x true e clean = (
    sym e,
    (λ i. not (clean_is_sound clean i || sym e i)),
    λ missing. clean_is_sound clean,
  )
  permitted_accepts x false e clean = λ i. not (clean_is_sound clean i || sym e i)

  found_accepts : {A : Type 0} (o : Outcome (Found A)) → Told j sites o → Told (all_held j) sites o → ((x : Found A) → o ≡ Ok x → x.findings.lacks_privilege ≡ lacks_privilege j sites) → Accepts j sites (and_then o permitted)
  found_accepts (Err f) h g lacks = fault_accepts f h g
  found_accepts (Ok x) h g lacks = permitted_accepts x.part x.findings.lacks_privilege (lacks x refl) (g (λ t p. refl))

  -- what is bound by itself, where a privilege is missing in it exactly where the rules find one missing
  pub whole_accepts : {A : Type 0} (b : Binding A) → Told j sites (b at_first) → Told (all_held j) sites (b at_first) → ((x : Found A) → b at_first ≡ Ok x → x.findings.lacks_privilege ≡ lacks_privilege j sites) → Accepts j sites (whole b)
  whole_accepts b h g lacks = found_accepts (b at_first) h g lacks

  -- what needs no privilege
  pub plain_accepts : {A : Type 0} (o : Outcome A) → Told j sites o → Told (all_held j) sites o → lacks_privilege j sites ≡ false → Accepts j sites o
  plain_accepts o h g none = told_accepts o h g none

  pub made_accepts : {A B : Type 0} (o : Outcome A) (make : A → B) → Accepts j sites o → Accepts j sites (and_then o (λ x. Ok (make x)))
  made_accepts (Ok x) make h = h
  made_accepts (Err f) make h = h
