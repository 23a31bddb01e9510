-- What a call sets in its targets from a row is the same by names and by positions of
-- parameters, and so is its reply (ISO/IEC 9075:1992, 9.1, 13.3 and 13.5), where no two
-- parameters have one name and the kinds fit.
use Rattle.std.proofs.Common.{◌≡◌, ℕ, suc, ◌+◌, Bool, true, false, cond, List, [], ◌∷◌, length, map, Option, Some, None, refl, sym, ap, subst, ◌∙◌, arith, eqb-true, eq-eqb, Ok, Err}
use Rattle.std.proofs.lemmas.Cmp.{nat_list_eq_equiv}
use Rattle.std.specs.Cmp.Lexicographic.{same_text}
use Rattle.std.specs.Prelude.{◌||◌, ⊤, ℤ, negsuc, find, flat_map, if◌then◌else◌, nat_eq, slice_get, unwrap_or}
use Rattle.std.specs.List.{AllZip, cons_option, filter_map}
use Rattle.std.specs.Option.{option_map, option_map_or}
use Rattle.sq_lex.specs.declared.name.Name.{Name}
use Rattle.sq_tree.specs.declared.names.Indicator.{Indicator}
use Rattle.sq_tree.specs.declared.names.Parameter.{Parameter}
use Rattle.sq_value.specs.declared.domain.Domain.{Domain}
use Rattle.sq_value.specs.declared.domain.Domain.TheVariants as domain
use Rattle.sq_value.specs.declared.retrieving.Retrieved.{Retrieved}
use Rattle.sq_value.specs.declared.value.Value.{Value}
use Rattle.sq_value.specs.declared.value.Value.TheVariants as value
use Rattle.sq_meaning.specs.Assignment.{retrieved_into}
use Rattle.sq_meaning.specs.Environment.{same_name}
use Rattle.sq_meaning.specs.Status.{Outcome, and_then, not_well_formed, or_status, well_formed_if}
use Rattle.sq_meaning.specs.declared.status.Status.TheVariants as status
use Rattle.sq_meaning.specs.Parameter as machine
use Rattle.sq_meaning.specs.Parameter.{Parameters, Retrieval, assigned_to, domain_of_parameter, is_cut, replied_row, row_retrieved}
use Rattle.sq_bound.specs.declared.names.ParameterDesc.{ParameterDesc}
use Rattle.sq_bound.specs.declared.statement.Output.{Output as Target}
use Rattle.sq_binding.specs.Written.{AreOutputsOf}
use Rattle.sq_session.specs.Target as session
use Rattle.sq_session.specs.Target.{domain_at, each_set, fits, is_refused, outputs_from, row_reply, set_behind}
use Rattle.sq_session.specs.declared.reply.Done.{Done}
use Rattle.sq_session.specs.declared.reply.Output.{Output}
use Rattle.sq_run.proofs.Places.Outcomes.{append_zip}
use Rattle.sq_run.proofs.Changed.TargetsSet.{AreApart, AreParameters, IsIndicator, IsPlaced, IsTargetAt, domain_same, target_at}
use Rattle.sq_run.proofs.Steps.Unnamed.{Assignment, Assignments}
use Rattle.sq_run.proofs.Steps.SameStates.{SameReply, assignment_of, ended_same}

-- the parameter at a place gets the value that the one of the name gets
pub record SameAssignment (ps : List ParameterDesc) (a : Assignment) (b : machine.Assignment) : Type 0 where
  pub parameter : ParameterDesc
  pub at : slice_get ps a.parameter ≡ Some parameter
  pub named : parameter.name ≡ b.name
  pub value : a.value ≡ b.value

-- Both set alike, or end with the same status; of what doesn't fit nothing is said.
abbrev Alike : {X : Type 0} → (Assignments → X → Type 0) → Outcome Assignments → Outcome X → Type 0
Alike {X} Same (Ok a) o = (x : X) × (o ≡ Ok x) × Same a x
Alike Same (Err st) o = is_refused st ≡ false → o ≡ Err st

module _ (ps : List ParameterDesc) (qs : Parameters) (are : AreParameters ps qs) where
  abbrev SameSet : Assignments → Retrieval → Type 0
  SameSet a r = AllZip (SameAssignment ps) a.list r.assignments × (a.is_cut ≡ r.cut)

  abbrev AllSet : Assignments → List Retrieval → Type 0
  AllSet a rs = AllZip (SameAssignment ps) a.list (flat_map (λ r. r.assignments) rs) × (a.is_cut ≡ is_cut rs)

  -- ---- one target

  placed_same : (name : Name) (place : ℕ) → IsPlaced ps name place → (v : Value)
      → SameAssignment ps (record { parameter = place; value = v }) (record { name = name; value = v })
  placed_same name place h v = record { parameter = h.parameter; at = h.at; named = h.named; value = refl }

  indicated_same : (i : Option Indicator) (n : Option ℕ) → IsIndicator ps i n → (z : ℤ)
      → AllZip (SameAssignment ps) (session.indicated n z) (machine.indicated i z)
  indicated_same None None h z = tt
  indicated_same None (Some n) h z = absurd h
  indicated_same (Some i) None h z = absurd h
  indicated_same (Some i) (Some n) h z = (placed_same i.name n h (machine.integer_value z), tt)

  null_alike : (o : Target) (t : Parameter) → IsTargetAt ps o t → Alike SameSet (session.null_set o) (machine.null_retrieved t)
  null_alike o t h = by_indicator o.indicator t.indicator h.indicator
    where
      by_indicator : (n : Option ℕ) (i : Option Indicator) → IsIndicator ps i n
          → Alike SameSet
          (and_then (or_status status.NullWithoutIndicator n) (λ k. Ok (record { list = record { parameter = o.parameter; value = value.Null } ∷ session.indicated n (negsuc 0); is_cut = false })))
          (and_then (or_status status.NullWithoutIndicator i) (λ k. Ok (record { assignments = record { name = t.name; value = value.Null } ∷ machine.indicated (Some k) (negsuc 0); cut = false })))
      by_indicator None None k = λ e. refl
      by_indicator None (Some i) k = absurd k
      by_indicator (Some n) None k = absurd k
      by_indicator (Some n) (Some i) k = (
        record { assignments = record { name = t.name; value = value.Null } ∷ machine.indicated (Some i) (negsuc 0); cut = false },
        refl,
        ((placed_same t.name o.parameter h.placed value.Null, indicated_same (Some i) (Some n) k (negsuc 0)), refl),
      )

  domain_is : (o : Target) (t : Parameter) → IsTargetAt ps o t → domain_at ps o.parameter ≡ domain_of_parameter qs t.name
  domain_is o t h =
      ap (λ f. option_map_or (λ (p : ParameterDesc). p.domain) f domain.Int) h.placed.at
      ∙ sym (ap (λ f. unwrap_or f domain.Int) (sym (domain_same t.name ps qs are) ∙ ap (λ f. option_map (λ (p : ParameterDesc). p.domain) f) h.placed.first))

  value_alike : (o : Target) (t : Parameter) → IsTargetAt ps o t → (d : Domain) (v : Value)
      → Alike SameSet (session.set_in d o v) (and_then (retrieved_into d v) (λ r. Ok (machine.value_retrieved t r)))
  value_alike o t h d v = by_fits (fits d v)
    where
      by_retrieved : (r : Outcome Retrieved)
          → Alike SameSet (and_then r (λ x. Ok (session.value_set o x))) (and_then r (λ x. Ok (machine.value_retrieved t x)))
      by_retrieved (Err st) = λ e. refl
      by_retrieved (Ok r) = (
        machine.value_retrieved t r,
        refl,
        ((placed_same t.name o.parameter h.placed r.value, indicated_same t.indicator o.indicator h.indicator (machine.length_before_cut r)), refl),
      )

      by_fits : (b : Bool)
          → Alike SameSet (and_then (well_formed_if b) (λ fitting. and_then (retrieved_into d v) (λ r. Ok (session.value_set o r))))
          (and_then (retrieved_into d v) (λ r. Ok (machine.value_retrieved t r)))
      by_fits true = by_retrieved (retrieved_into d v)
      by_fits false = λ e. cc e

  target_alike : (o : Target) (t : Parameter) → IsTargetAt ps o t → (v : Value)
      → Alike SameSet (session.target_set ps o v) (machine.target_set (domain_of_parameter qs t.name) t v)
  target_alike o t h value.Null = null_alike o t h
  target_alike o t h (value.Num n) =
      subst (λ d. Alike SameSet (session.set_in (domain_at ps o.parameter) o (value.Num n)) (and_then (retrieved_into d (value.Num n)) (λ r. Ok (machine.value_retrieved t r))))
      (domain_is o t h) (value_alike o t h (domain_at ps o.parameter) (value.Num n))
  target_alike o t h (value.Chars c) =
      subst (λ d. Alike SameSet (session.set_in (domain_at ps o.parameter) o (value.Chars c)) (and_then (retrieved_into d (value.Chars c)) (λ r. Ok (machine.value_retrieved t r))))
      (domain_is o t h) (value_alike o t h (domain_at ps o.parameter) (value.Chars c))

  -- ---- a row

  or_turned : (a b : Bool) → (a || b) ≡ (b || a)
  or_turned true true = refl
  or_turned true false = refl
  or_turned false true = refl
  or_turned false false = refl

  first_alike : (a : Outcome Assignments) (r : Outcome Retrieval) → Alike SameSet a r → (b : Outcome Assignments)
      (rs : Outcome (List Retrieval)) → Alike AllSet b rs
      → Alike AllSet (and_then a (λ x. set_behind x b)) (and_then r (λ x. and_then rs (λ xs. Ok (x ∷ xs))))
  first_alike (Err st) r h b rs k = λ e. ap (λ (z : Outcome Retrieval). and_then z (λ x. and_then rs (λ xs. Ok (x ∷ xs)))) (h e)
  first_alike (Ok a) r h (Err st) rs k = λ e.
      ap (λ (z : Outcome Retrieval). and_then z (λ x. and_then rs (λ xs. Ok (x ∷ xs)))) h.1
      ∙ ap (λ (z : Outcome (List Retrieval)). and_then z (λ xs. Ok (h.0 ∷ xs))) (k e)
  first_alike (Ok a) r h (Ok b) rs k = (
    h.0 ∷ k.0,
    ap (λ (z : Outcome Retrieval). and_then z (λ x. and_then rs (λ xs. Ok (x ∷ xs)))) h.1
        ∙ ap (λ (z : Outcome (List Retrieval)). and_then z (λ xs. Ok (h.0 ∷ xs))) k.1,
    (
      append_zip (SameAssignment ps) a.list b.list h.0.assignments (flat_map (λ x. x.assignments) k.0) h.2.0 k.2.0,
      or_turned b.is_cut a.is_cut ∙ (λ i. h.2.1 i || k.2.1 i),
    ),
  )

  each_alike : (os : List Target) (ts : List Parameter) (row : List Value) → AreOutputsOf ps os ts
      → Alike AllSet (each_set ps os row) (row_retrieved qs ts row)
  each_alike [] [] row h = ([], refl, (tt, refl))
  each_alike [] (t ∷ ts) row h = absurd h
  each_alike (o ∷ os) [] row h = absurd h
  each_alike (o ∷ os) (t ∷ ts) [] h = ([], refl, (tt, refl))
  each_alike (o ∷ os) (t ∷ ts) (v ∷ vs) h =
      first_alike (session.target_set ps o v) (machine.target_set (domain_of_parameter qs t.name) t v)
      (target_alike o t (target_at ps o t h.0) v) (each_set ps os vs) (row_retrieved qs ts vs) (each_alike os ts vs h.1)

  -- ---- the parameters that are set

  module _ (apart : AreApart ps) where
    bool_same : (a b : Bool) → (a ≡ true → b ≡ true) → (b ≡ true → a ≡ true) → a ≡ b
    bool_same true true f g = refl
    bool_same true false f g = sym (f refl)
    bool_same false true f g = g refl
    bool_same false false f g = refl

    abbrev FoundAlike : ParameterDesc → Option Assignment → Option machine.Assignment → Type 0
    FoundAlike p None None = ⊤
    FoundAlike p (Some a) (Some b) = (a.value ≡ b.value) × (p.name ≡ b.name)
    FoundAlike p _ _ = ⊥

    module _ (p : ParameterDesc) (name : Name) (is : p.name ≡ name) (first : ℕ) (there : slice_get ps first ≡ Some p) where
      the_parameter : (a : Assignment) (b : machine.Assignment) → SameAssignment ps a b → nat_eq a.parameter first ≡ true
          → p.name ≡ b.name
      the_parameter a b h e =
          let here : a.parameter ≡ first = eqb-true a.parameter first e in
          let same : p ≡ h.parameter = cc (sym there ∙ ap (slice_get ps) (sym here) ∙ h.at) in
          ap (λ (x : ParameterDesc). x.name) same ∙ h.named

      tests_same : (a : Assignment) (b : machine.Assignment) → SameAssignment ps a b
          → nat_eq a.parameter first ≡ same_name b.name name
      tests_same a b h =
          bool_same (nat_eq a.parameter first) (same_name b.name name)
          (λ e. ap (same_name b.name) (sym is ∙ the_parameter a b h e) ∙ nat_list_eq_equiv.refl b.name)
          (λ e. eq-eqb a.parameter first (apart a.parameter first h.parameter p h.at there (h.named ∙ same_text b.name name (sym e) ∙ sym is)))

      find_alike : (set : List Assignment) (found : List machine.Assignment) → AllZip (SameAssignment ps) set found
          → FoundAlike p (find (λ a. nat_eq a.parameter first) set) (find (λ b. same_name b.name name) found)
      find_alike [] [] h = tt
      find_alike [] (b ∷ found) h = absurd h
      find_alike (a ∷ set) [] h = absurd h
      find_alike (a ∷ set) (b ∷ found) h =
          by_tests (nat_eq a.parameter first) (same_name b.name name) refl (tests_same a b h.0) (find_alike set found h.1)
        where
          by_tests : (x y : Bool) → nat_eq a.parameter first ≡ x → x ≡ y
              → FoundAlike p (find (λ c. nat_eq c.parameter first) set) (find (λ c. same_name c.name name) found)
              → FoundAlike p (cond x (Some a) (find (λ c. nat_eq c.parameter first) set)) (cond y (Some b) (find (λ c. same_name c.name name) found))
          by_tests true true e f others = (h.0.value, the_parameter a b h.0 e)
          by_tests false false e f others = others
          by_tests true false e f others = cc
          by_tests false true e f others = cc

    output_alike : (p : ParameterDesc) (o : Option Assignment) (r : Option machine.Assignment) → FoundAlike p o r
        → (xs : List machine.Assignment) (ys : List Output) → map assignment_of ys ≡ xs
        → map assignment_of (session.output_first p.name o ys) ≡ cons_option r xs
    output_alike p None None h xs ys e = e
    output_alike p None (Some b) h xs ys e = absurd h
    output_alike p (Some a) None h xs ys e = absurd h
    output_alike p (Some a) (Some b) h xs ys e = (λ i. record { name = h.1 i; value = h.0 i } ∷ e i)

    outputs_alike : (set : List Assignment) (found : List machine.Assignment) → AllZip (SameAssignment ps) set found → (first : ℕ)
        (later : List ParameterDesc) (others : Parameters) → AreParameters later others
        → ((i : ℕ) (p : ParameterDesc) → slice_get later i ≡ Some p → slice_get ps (first + i) ≡ Some p)
        → map assignment_of (outputs_from first set later) ≡ filter_map (assigned_to found) others
    outputs_alike set found h first [] [] k there = refl
    outputs_alike set found h first [] (q ∷ others) k there = absurd k
    outputs_alike set found h first (p ∷ later) [] k there = absurd k
    outputs_alike set found h first (p ∷ later) (q ∷ others) k there =
        let here : first + 0 ≡ first = omega arith in
        output_alike p (find (λ a. nat_eq a.parameter first) set) (find (λ b. same_name b.name q.name) found)
        (find_alike p q.name k.0.0 first (ap (slice_get ps) (sym here) ∙ there 0 p refl) set found h)
        (filter_map (assigned_to found) others) (outputs_from (suc first) set later)
        (outputs_alike set found h (suc first) later others k.1
        (λ i x at. let behind : suc first + i ≡ first + suc i = omega arith in ap (slice_get ps) behind ∙ there (suc i) x at))

    -- ---- the reply

    set_alike : (d : Done) (a : Outcome Assignments) (rs : Outcome (List Retrieval)) → Alike AllSet a rs
        → session.reply_of ps a ≡ Ok d → SameReply d (machine.reply_of qs rs)
    set_alike d (Ok a) rs h e =
        let is : session.set_reply ps a ≡ d = cc in
        subst (λ x. SameReply x (machine.reply_of qs rs)) is
        (subst (λ o. SameReply (session.set_reply ps a) (machine.reply_of qs o)) (sym h.1) (record {
          status = ap (λ b. if b then status.TextTruncated else status.SuccessfulCompletion) h.2.1;
          outputs = outputs_alike a.list (flat_map (λ r. r.assignments) h.0) h.2.0 0 ps qs are (λ i p at. let none : 0 + i ≡ i = omega arith in ap (slice_get ps) none ∙ at);
        }))
    set_alike d (Err st) rs h e = by_refused (is_refused st) refl e
      where
        by_refused : (b : Bool) → is_refused st ≡ b → (if b then not_well_formed else Ok (session.ended st)) ≡ Ok d
            → SameReply d (machine.reply_of qs rs)
        by_refused true is e = cc
        by_refused false is e =
            let same : session.ended st ≡ d = cc in
            subst (λ o. SameReply d (machine.reply_of qs o)) (sym (h is)) (ended_same d st (sym same))

    -- The targets are set alike from a row, and the reply is the same.
    pub row_alike : (os : List Target) (ts : List Parameter) (row : List Value) (d : Done) → AreOutputsOf ps os ts
        → row_reply ps os row ≡ Ok d → SameReply d (replied_row qs ts row)
    row_alike os ts row d h e = by_count (nat_eq (length os) (length row)) e
      where
        by_count : (b : Bool) → session.reply_of ps (and_then (well_formed_if b) (λ as_many. each_set ps os row)) ≡ Ok d
            → SameReply d (replied_row qs ts row)
        by_count true e = set_alike d (each_set ps os row) (row_retrieved qs ts row) (each_alike os ts row h) e
        by_count false e = cc
