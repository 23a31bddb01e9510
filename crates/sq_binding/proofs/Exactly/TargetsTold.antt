-- The targets of INTO are refused exactly if the rules refuse them (ISO/IEC 9075:1992, 6.2, 13.3 and 13.5).
use Rattle.std.proofs.Common.{◌≡◌, ℕ, Bool, true, false, not, ◌||◌, List, [], ◌∷◌, ◌++◌, length, map, Option, Some, None, Ok, Err, refl, sym, ap, subst, append_assoc, arith, ◌∙◌}
use Rattle.std.proofs.lemmas.Bool.Decides.{nat_tests}
use Rattle.std.proofs.lemmas.List.{append-nil}
use Rattle.std.specs.List.{AllZip, flat_map, list_any, zip}
use Rattle.std.specs.Option.{option_map}
use Rattle.std.specs.Prelude.{◌==◌, if◌then◌else◌, nat_eq, option_to_list}
use Rattle.std.proofs.lemmas.Bool.{false≢true, or_right}
use Rattle.sq_value.proofs.Truths.{or_false, or_assoc_left}
use Rattle.sq_lex.specs.declared.name.Name.{Name}
use Rattle.sq_value.specs.Domain.{kind_of}
use Rattle.sq_value.specs.declared.domain.Domain.{Domain}
use Rattle.sq_value.specs.declared.domain.Kind.{Kind}
use Rattle.sq_tree.specs.declared.names.Indicator.{Indicator}
use Rattle.sq_tree.specs.declared.names.Parameter.{Parameter}
use Rattle.sq_meaning.specs.Environment.{same_name}
use Rattle.sq_meaning.specs.Placed.{PlacedParameter}
use Rattle.sq_meaning.specs.Status as status
use Rattle.sq_meaning.specs.Syntax.{parameter}
use Rattle.sq_meaning.specs.Tables.{Declared}
use Rattle.sq_meaning.specs.WellFormed.{is_comparable}
use Rattle.sq_meaning.specs.Binding.{Judged, breaks, domain_named, has_fault, is_bad_indicator, is_indicator_domain, is_unknown_name, kind_mismatch, parameter_names}
use Rattle.sq_meaning.specs.Schema.{has_name_twice}
use Rattle.sq_meaning.specs.Site.{Site}
use Rattle.sq_meaning.specs.WellFormedStatement.{pair_sites, target_kind}
use Rattle.sq_meaning.specs.Words.{has_twice}
use Rattle.sq_meaning.specs.declared.fault.BindingFault.{BindingFault}
use Rattle.sq_meaning.specs.declared.fault.BindingFault.TheVariants as fault
use Rattle.sq_binding.specs.Expression.{Bound, as_indicator, indicator_bound, parameter_as, parameter_bound, parameter_named}
use Rattle.sq_binding.specs.Outcome.{Outcome, and_then}
use Rattle.sq_binding.specs.Targets.{set_by, target_bound, targets_bound, targets_in_turn}
use Rattle.sq_binding.specs.Whole.{must_hold}
use Rattle.sq_binding.proofs.Faultless.Clean.{Clean, CleanSite, alike_clean, clean_first, clean_more, counts_clean, no_site}
use Rattle.sq_binding.proofs.Faultless.CleanConds.{alike_kept}
use Rattle.sq_binding.proofs.Faultless.CleanExprs.{expr_clean}
use Rattle.sq_binding.proofs.FaultsFound.Faults.{expr_faults}
use Rattle.sq_binding.proofs.FaultsFound.Known.{IfNamed, parameter_found}
use Rattle.sq_binding.proofs.FaultsFound.PredicateFaults.{alike_breaks}
use Rattle.sq_binding.proofs.Placing.SameParameters.{IsAt, twice_longer, twice_same}
use Rattle.sq_binding.proofs.FaultsFound.Sites.{IfFault, fault_here, fault_later}
use Rattle.sq_binding.proofs.Exactly.Told.{Told}
use Rattle.sq_binding.proofs.FaultsFound.UnionFaults.{lengths_equal}

-- ---- lists

any_append : {A : Type 0} (test : A → Bool) (xs ys : List A) → list_any test (xs ++ ys) ≡ (list_any test xs || list_any test ys)
any_append test [] ys = refl
any_append test (x ∷ xs) ys = ap (λ b. test x || b) (any_append test xs ys) ∙ or_assoc_left (test x) (list_any test xs) (list_any test ys)

flat_append : {A B : Type 0} (f : A → List B) (xs ys : List A) → flat_map f (xs ++ ys) ≡ flat_map f xs ++ flat_map f ys
flat_append f [] ys = refl
flat_append f (x ∷ xs) ys = ap (λ l. f x ++ l) (flat_append f xs ys) ∙ sym (append_assoc (f x) (flat_map f xs) (flat_map f ys))

zip_both : {A B : Type 0} (R : A → B → Type 0) (xs zs : List A) (ys ws : List B) → AllZip R xs ys → AllZip R zs ws → AllZip R (xs ++ zs) (ys ++ ws)
zip_both R [] zs [] ws h g = g
zip_both R [] zs (y ∷ ys) ws h g = absurd h
zip_both R (x ∷ xs) zs [] ws h g = absurd h
zip_both R (x ∷ xs) zs (y ∷ ys) ws h g = (h.0, zip_both R xs zs ys ws h.1 g)

module _ (j : Judged) where
  abbrev params : List Declared
  params = j.known.parameters

  abbrev unknown : Name → Bool
  unknown = is_unknown_name j.known

  abbrev pub pair : Parameter × Kind → Site
  pair t = Site.alike_wanted (target_kind j.known t.0) (Ok t.1)

  abbrev names_in : List Parameter → List Name
  names_in ps = flat_map parameter_names ps

  -- ---- one target

  -- What is known of a target that is bound.
  record IsTarget (t : Parameter × Kind) (target : PlacedParameter) : Type 0 where
    placed : AllZip (IsAt params) (parameter_names t.0) (set_by target)
    known : list_any unknown (parameter_names t.0) ≡ false
    good : is_bad_indicator j.known t.0 ≡ false
    alike : kind_mismatch (pair t) ≡ false

  -- a fault that is one of the parameter, or of its kind
  abbrev TargetFault : Parameter × Kind → BindingFault → Type 0
  TargetFault t f = has_fault j (Site.parameter_read t.0 ∷ pair t ∷ []) f ≡ true

  abbrev TargetTold : Parameter × Kind → Outcome PlacedParameter → Type 0
  TargetTold t (Ok target) = IsTarget t target
  TargetTold t (Err f) = TargetFault t f

  -- the parameter as an expression has the same faults
  read_fault : (p : Parameter) (f : BindingFault) → parameter_bound params p ≡ Err f → has_fault j (Site.parameter_read p ∷ []) f ≡ true
  read_fault p f is = subst (IfFault j (Site.parameter_read p ∷ [])) is (expr_faults j [] [] tt (λ depth far. tt) (parameter p) tt false false 0)

  read_clean : (p : Parameter) (x : Bound) → parameter_bound params p ≡ Ok x → CleanSite j (Site.parameter_read p)
  read_clean p x is = clean_first j (Site.parameter_read p) [] (expr_clean j [] [] tt (λ depth q grouped. refl) (parameter p) false false 0 x is (λ e t q. refl))

  one_fault : (t : Parameter × Kind) (f : BindingFault) → has_fault j (Site.parameter_read t.0 ∷ []) f ≡ true → TargetFault t f
  one_fault t f h = by (breaks j f (Site.parameter_read t.0)) refl h
    where
      by : (b : Bool) → breaks j f (Site.parameter_read t.0) ≡ b → has_fault j (Site.parameter_read t.0 ∷ []) f ≡ true → TargetFault t f
      by true e h = fault_here j f (Site.parameter_read t.0) (pair t ∷ []) e
      by false e h = absurd (false≢true (sym (ap (λ b. b || false) e) ∙ h))

  indicator_at : (i : Option Indicator) (n : Option ℕ) → indicator_bound params i ≡ Ok n → AllZip (IsAt params) (option_to_list (option_map (λ i. i.name) i)) (option_to_list n)
  indicator_at None None e = tt
  indicator_at None (Some n) e = cc
  indicator_at (Some i) n e = by (parameter_named params i.name) refl e
    where
      by : (o : Outcome (ℕ × Domain)) → parameter_named params i.name ≡ o → and_then o as_indicator ≡ Ok n → AllZip (IsAt params) (i.name ∷ []) (option_to_list n)
      by (Err f) is e = cc
      by (Ok at) is e = let tested = must_indicator at n e in subst (λ n. AllZip (IsAt params) (i.name ∷ []) (option_to_list n)) tested ((at.1, is), tt)
        where
          must_indicator : (at : ℕ × Domain) (n : Option ℕ) → as_indicator at ≡ Ok n → Some at.0 ≡ n
          must_indicator at n e = chosen (is_indicator_domain at.1) e
            where
              chosen : (b : Bool) → (if b then Ok (Some at.0) else Err fault.BadIndicator) ≡ Ok n → Some at.0 ≡ n
              chosen true e = cc
              chosen false e = cc

  target_told : (t : Parameter × Kind) → TargetTold t (target_bound params t)
  target_told t = named (parameter_named params t.0.name) refl (parameter_found j.known t.0.name)
    where
      named : (o : Outcome (ℕ × Domain)) → parameter_named params t.0.name ≡ o → IfNamed (domain_named j.known t.0.name) o
          → TargetTold t (and_then o (λ at. and_then (indicator_bound params t.0.indicator) (λ i. and_then (must_hold (is_comparable (kind_of at.1) t.1) fault.KindMismatch) (λ _. Ok (record { position = at.0; indicator = i })))))
      named (Err f) is h = one_fault t f (read_fault t.0 f (ap (λ (o : Outcome (ℕ × Domain)). and_then o (λ at. and_then (indicator_bound params t.0.indicator) (λ i. Ok (parameter_as at i)))) is))
      named (Ok at) is h = indicated (indicator_bound params t.0.indicator) refl
        where
          kind_is : target_kind j.known t.0 ≡ Ok (kind_of at.1)
          kind_is = ap (λ o. status.well_formed (option_map kind_of o)) h

          bound_is : (o : Outcome (Option ℕ)) → indicator_bound params t.0.indicator ≡ o → parameter_bound params t.0 ≡ and_then o (λ i. Ok (parameter_as at i))
          bound_is o so =
              ap (λ (o : Outcome (ℕ × Domain)). and_then o (λ at. and_then (indicator_bound params t.0.indicator) (λ i. Ok (parameter_as at i)))) is
              ∙ ap (λ (o : Outcome (Option ℕ)). and_then o (λ i. Ok (parameter_as at i))) so

          indicated : (o : Outcome (Option ℕ)) → indicator_bound params t.0.indicator ≡ o
              → TargetTold t (and_then o (λ i. and_then (must_hold (is_comparable (kind_of at.1) t.1) fault.KindMismatch) (λ _. Ok (record { position = at.0; indicator = i }))))
          indicated (Err f) so = one_fault t f (read_fault t.0 f (bound_is (Err f) so))
          indicated (Ok i) so = compared (is_comparable (kind_of at.1) t.1) refl
            where
              clean : CleanSite j (Site.parameter_read t.0)
              clean = read_clean t.0 (parameter_as at i) (bound_is (Ok i) so)

              compared : (b : Bool) → is_comparable (kind_of at.1) t.1 ≡ b → TargetTold t (and_then (must_hold b fault.KindMismatch) (λ _. Ok (record { position = at.0; indicator = i })))
              compared true e = record {
                placed = ((at.1, is), indicator_at t.0.indicator i so);
                known = clean fault.UnknownParameter;
                good = clean fault.BadIndicator;
                alike = alike_kept (kind_of at.1) t.1 (target_kind j.known t.0) (Ok t.1) kind_is refl e;
              }
              compared false e =
                  fault_later j fault.KindMismatch (Site.parameter_read t.0) (pair t ∷ []) (fault_here j fault.KindMismatch (pair t) [] (alike_breaks (kind_of at.1) t.1 (target_kind j.known t.0) (Ok t.1) kind_is refl e))

  -- ---- all of them

  -- these are all targets
  module _ (all : List Parameter) where
    abbrev whole : Site
    whole = Site.targets all

    -- the targets before the rest are bound, and set these parameters
    record AreBefore (done : List Parameter) (before : List ℕ) : Type 0 where
      placed : AllZip (IsAt params) (names_in done) before
      known : list_any unknown (names_in done) ≡ false
      good : list_any (is_bad_indicator j.known) done ≡ false
      once : has_twice nat_eq before ≡ false

    -- What holds of all targets that are bound.
    record AreTargets (rest : List (Parameter × Kind)) : Type 0 where
      known : list_any unknown (names_in all) ≡ false
      good : list_any (is_bad_indicator j.known) all ≡ false
      once : has_name_twice (names_in all) ≡ false
      alike : Clean j (map pair rest)

    abbrev TargetsTold : List (Parameter × Kind) → Outcome (List PlacedParameter) → Type 0
    TargetsTold rest (Ok targets) = AreTargets rest
    TargetsTold rest (Err f) = has_fault j (whole ∷ map pair rest) f ≡ true

    -- a fault of one of them
    moved : (done more : List Parameter) (t : Parameter × Kind) (rest : List (Parameter × Kind)) → all ≡ done ++ (t.0 ∷ more) → (f : BindingFault) → TargetFault t f → has_fault j (whole ∷ map pair (t ∷ rest)) f ≡ true
    moved done more t rest e f h = by f (breaks j f (Site.parameter_read t.0)) refl h
      where
        later : (f : BindingFault) → breaks j f (pair t) ≡ true → has_fault j (whole ∷ map pair (t ∷ rest)) f ≡ true
        later f h = fault_later j f whole (map pair (t ∷ rest)) (fault_here j f (pair t) (map pair rest) h)

        last : (f : BindingFault) → breaks j f (Site.parameter_read t.0) ≡ false → has_fault j (Site.parameter_read t.0 ∷ pair t ∷ []) f ≡ true → breaks j f (pair t) ≡ true
        last f none h = sym (or_false (breaks j f (pair t))) ∙ sym (ap (λ b. b || (breaks j f (pair t) || false)) none) ∙ h

        here_unknown : list_any unknown (parameter_names t.0) ≡ true → list_any unknown (names_in all) ≡ true
        here_unknown h =
            ap (λ ps. list_any unknown (names_in ps)) e ∙ ap (list_any unknown) (flat_append parameter_names done (t.0 ∷ more)) ∙ any_append unknown (names_in done) (parameter_names t.0 ++ names_in more)
            ∙ or_right (list_any unknown (names_in done)) (list_any unknown (parameter_names t.0 ++ names_in more)) (any_append unknown (parameter_names t.0) (names_in more) ∙ ap (λ b. b || list_any unknown (names_in more)) h)

        here_bad : is_bad_indicator j.known t.0 ≡ true → list_any (is_bad_indicator j.known) all ≡ true
        here_bad h =
            ap (list_any (is_bad_indicator j.known)) e ∙ any_append (is_bad_indicator j.known) done (t.0 ∷ more)
            ∙ or_right (list_any (is_bad_indicator j.known) done) (is_bad_indicator j.known t.0 || list_any (is_bad_indicator j.known) more) (ap (λ b. b || list_any (is_bad_indicator j.known) more) h)

        by : (f : BindingFault) (b : Bool) → breaks j f (Site.parameter_read t.0) ≡ b → TargetFault t f → has_fault j (whole ∷ map pair (t ∷ rest)) f ≡ true
        by f false none h = later f (last f none h)
        by fault.UnknownParameter true is h = fault_here j fault.UnknownParameter whole (map pair (t ∷ rest)) (here_unknown is)
        by fault.BadIndicator true is h = fault_here j fault.BadIndicator whole (map pair (t ∷ rest)) (here_bad is)
        by fault.UnknownTable true is h = cc
        by fault.UnknownColumn true is h = cc
        by fault.AmbiguousName true is h = cc
        by fault.KindMismatch true is h = cc
        by fault.LimitExceeded true is h = cc
        by fault.MisplacedSetFunction true is h = cc
        by fault.UngroupedColumn true is h = cc
        by fault.CountMismatch true is h = cc
        by fault.BadSortKey true is h = cc
        by fault.TargetTwice true is h = cc
        by fault.NotUpdatable true is h = cc
        by fault.ColumnTwice true is h = cc
        by fault.UnknownCursor true is h = cc
        by fault.BadOrientation true is h = cc
        by fault.PrivilegeMissing true is h = cc

    -- one more target joins those before the rest
    with_next : (done : List Parameter) (before : List ℕ) → AreBefore done before → (t : Parameter × Kind) (target : PlacedParameter) → IsTarget t target → has_twice nat_eq (before ++ set_by target) ≡ false
        → AreBefore (done ++ t.0 ∷ []) (before ++ set_by target)
    with_next done before b t target h once = record {
      placed = subst (λ names. AllZip (IsAt params) names (before ++ set_by target)) (sym names_are) (zip_both (IsAt params) (names_in done) (parameter_names t.0) before (set_by target) b.placed h.placed);
      known = ap (list_any unknown) names_are ∙ any_append unknown (names_in done) (parameter_names t.0) ∙ (λ i. b.known i || h.known i);
      good = any_append (is_bad_indicator j.known) done (t.0 ∷ []) ∙ (λ i. b.good i || (h.good i || false));
      once = once;
    }
      where
        names_are : names_in (done ++ t.0 ∷ []) ≡ names_in done ++ parameter_names t.0
        names_are = flat_append parameter_names done (t.0 ∷ []) ∙ ap (λ l. names_in done ++ l) (append-nil (parameter_names t.0))

    in_turn : (rest : List (Parameter × Kind)) (done : List Parameter) (before : List ℕ) → all ≡ done ++ map (λ t. t.0) rest → AreBefore done before → TargetsTold rest (targets_in_turn params before rest)
    in_turn [] done before e b =
        let whole_is : all ≡ done = e ∙ append-nil done in record {
          known = ap (λ ps. list_any unknown (names_in ps)) whole_is ∙ b.known;
          good = ap (list_any (is_bad_indicator j.known)) whole_is ∙ b.good;
          once = ap (λ ps. has_name_twice (names_in ps)) whole_is ∙ twice_same params (names_in done) before b.placed ∙ b.once;
          alike = no_site j;
        }
    in_turn (t ∷ ts) done before e b = bound (λ target. in_turn ts (done ++ t.0 ∷ []) (before ++ set_by target) (e ∙ sym (append_assoc done (t.0 ∷ []) (map (λ t. t.0) ts)))) (target_bound params t) (target_told t)
      where
        more : List Parameter
        more = map (λ t. t.0) ts

        split : all ≡ (done ++ t.0 ∷ []) ++ more
        split = e ∙ sym (append_assoc done (t.0 ∷ []) more)

        after : PlacedParameter → Outcome (List PlacedParameter)
        after target = and_then (targets_in_turn params (before ++ set_by target) ts) (λ targets. Ok (target ∷ targets))

        twice : (target : PlacedParameter) → IsTarget t target → has_twice nat_eq (before ++ set_by target) ≡ true → has_name_twice (names_in all) ≡ true
        twice target h again =
            ap (λ ps. has_name_twice (names_in ps)) split ∙ ap has_name_twice (flat_append parameter_names (done ++ t.0 ∷ []) more)
            ∙ twice_longer same_name (names_in (done ++ t.0 ∷ [])) (names_in more)
            (ap has_name_twice (flat_append parameter_names done (t.0 ∷ []) ∙ ap (λ l. names_in done ++ l) (append-nil (parameter_names t.0)))
            ∙ twice_same params (names_in done ++ parameter_names t.0) (before ++ set_by target) (zip_both (IsAt params) (names_in done) (parameter_names t.0) before (set_by target) b.placed h.placed) ∙ again)

        rest_told : (target : PlacedParameter) → IsTarget t target → (o : Outcome (List PlacedParameter)) → TargetsTold ts o → TargetsTold (t ∷ ts) (and_then o (λ targets. Ok (target ∷ targets)))
        rest_told target h (Ok targets) g = record { known = g.known; good = g.good; once = g.once; alike = clean_more j (pair t) (map pair ts) (alike_clean j (target_kind j.known t.0) (Ok t.1) h.alike) g.alike }
        rest_told target h (Err f) g = by (breaks j f whole) refl g
          where
            by : (b : Bool) → breaks j f whole ≡ b → has_fault j (whole ∷ map pair ts) f ≡ true → has_fault j (whole ∷ map pair (t ∷ ts)) f ≡ true
            by true is g = fault_here j f whole (map pair (t ∷ ts)) is
            by false is g = fault_later j f whole (map pair (t ∷ ts)) (fault_later j f (pair t) (map pair ts) (ap (λ b. b || has_fault j (map pair ts) f) (sym is) ∙ g))

        Further : Type 0
        Further = (target : PlacedParameter) → AreBefore (done ++ t.0 ∷ []) (before ++ set_by target) → TargetsTold ts (targets_in_turn params (before ++ set_by target) ts)

        tested : Further → (target : PlacedParameter) → IsTarget t target → (b : Bool) → has_twice nat_eq (before ++ set_by target) ≡ b → TargetsTold (t ∷ ts) (and_then (must_hold (not b) fault.TargetTwice) (λ _. after target))
        tested further target h true again = fault_here j fault.TargetTwice whole (map pair (t ∷ ts)) (twice target h again)
        tested further target h false once = rest_told target h (targets_in_turn params (before ++ set_by target) ts) (further target (with_next done before b t target h once))

        bound : Further → (o : Outcome PlacedParameter) → TargetTold t o → TargetsTold (t ∷ ts) (and_then o (λ target. and_then (must_hold (not (has_twice nat_eq (before ++ set_by target))) fault.TargetTwice) (λ _. after target)))
        bound further (Err f) h = moved done more t ts e f h
        bound further (Ok target) h = tested further target h (has_twice nat_eq (before ++ set_by target)) refl

  -- ---- as many as there are columns

  targets_clean : (ps : List Parameter) → list_any unknown (names_in ps) ≡ false → list_any (is_bad_indicator j.known) ps ≡ false → has_name_twice (names_in ps) ≡ false → CleanSite j (Site.targets ps)
  targets_clean ps h g k fault.UnknownParameter = h
  targets_clean ps h g k fault.BadIndicator = g
  targets_clean ps h g k fault.TargetTwice = k
  targets_clean ps h g k _ = refl

  firsts : (ps : List Parameter) (ks : List Kind) → length ps ≡ length ks → map (λ t. t.0) (zip ps ks) ≡ ps
  firsts [] ks e = refl
  firsts (p ∷ ps) [] e = cc
  firsts (p ∷ ps) (k ∷ ks) e = let rest : length ps ≡ length ks = omega (arith, e) in ap (λ l. p ∷ l) (firsts ps ks rest)

  pairs_are : (ps : List Parameter) (ks : List Kind) → map pair (zip ps ks) ≡ pair_sites (map (target_kind j.known) ps) (map Ok ks)
  pairs_are [] ks = refl
  pairs_are (p ∷ ps) [] = refl
  pairs_are (p ∷ ps) (k ∷ ks) = ap (λ l. pair (p, k) ∷ l) (pairs_are ps ks)

  -- the sites at which the rules ask for targets and the kinds of their columns
  abbrev pub target_sites : List Parameter → List Kind → List Site
  target_sites ps ks = Site.targets ps ∷ Site.counts (length ps) (length ks) ∷ pair_sites (map (target_kind j.known) ps) (map Ok ks)

  pub targets_told : (ps : List Parameter) (ks : List Kind) → Told j (target_sites ps ks) (targets_bound params ps ks)
  targets_told ps ks = counted (length ps == length ks) refl
    where
      asked : Site
      asked = Site.counts (length ps) (length ks)

      pairs : List Site
      pairs = pair_sites (map (target_kind j.known) ps) (map Ok ks)

      told : length ps ≡ length ks → (o : Outcome (List PlacedParameter)) → TargetsTold ps (zip ps ks) o → Told j (target_sites ps ks) o
      told e (Ok targets) h = λ held. clean_more j (Site.targets ps) (asked ∷ pairs) (targets_clean ps h.known h.good h.once)
          (clean_more j asked pairs (counts_clean j (length ps) (length ks) (same_count e)) (subst (Clean j) (pairs_are ps ks) h.alike))
        where
          same_count : length ps ≡ length ks → not (length ps == length ks) ≡ false
          same_count e = grind (arith, nat_tests, e)
      told e (Err f) h = by (breaks j f (Site.targets ps)) refl (subst (λ pairs. has_fault j (Site.targets ps ∷ pairs) f ≡ true) (pairs_are ps ks) h)
        where
          by : (b : Bool) → breaks j f (Site.targets ps) ≡ b → has_fault j (Site.targets ps ∷ pairs) f ≡ true → has_fault j (target_sites ps ks) f ≡ true
          by true is g = fault_here j f (Site.targets ps) (asked ∷ pairs) is
          by false is g = fault_later j f (Site.targets ps) (asked ∷ pairs) (fault_later j f asked pairs (ap (λ b. b || has_fault j pairs f) (sym is) ∙ g))

      counted : (b : Bool) → (length ps == length ks) ≡ b → Told j (target_sites ps ks) (and_then (must_hold b fault.CountMismatch) (λ _. targets_in_turn params [] (zip ps ks)))
      counted false differ = fault_later j fault.CountMismatch (Site.targets ps) (asked ∷ pairs) (fault_here j fault.CountMismatch asked pairs (ap not differ))
      counted true same =
          let e : length ps ≡ length ks = lengths_equal (length ps) (length ks) same in
          told e (targets_in_turn params [] (zip ps ks)) (in_turn ps (zip ps ks) [] [] (sym (firsts ps ks e)) (record { placed = tt; known = refl; good = refl; once = refl }))
