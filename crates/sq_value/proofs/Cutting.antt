-- Cutting a text by the items of a pattern, one code at a time.
use Rattle.std.proofs.Common.{◌≡◌, ℕ, zero, suc, ◌+◌, ◌-◌, ◌≤◌, ◌<◌, ◌==◌, ◌&&◌, ◌||◌, Bool, true, false, List, [], ◌∷◌, length, drop, get_or, map, refl, sym, ap, ◌∙◌, arith, add-one, drop-cons, inl, inr, ◌⊎◌}
use Rattle.std.proofs.lemmas.List.{drop_all}
use Rattle.std.proofs.lemmas.Bool.{and_right, cases_lt}
use Rattle.std.proofs.lemmas.Grind.{common_steps}
use Rattle.std.proofs.Math.ListN.{set}
use Rattle.std.specs.List.{list_any}
use Rattle.sq_value.proofs.Truths.{or_false}
use Rattle.sq_value.specs.Pattern.{can_be_cut, splits, piece_fits}
use Rattle.sq_value.specs.private.Pattern.{takes, AreCuts}
use Rattle.sq_value.specs.declared.pattern.Item.{Item}
use Rattle.sq_value.specs.declared.pattern.Item.TheVariants.{AnyRun, AnyOne, This}

and_true : (b : Bool) → b ≡ (b && true)
and_true true = refl
and_true false = refl

pub any_map : {X Y : Type 0} (p : Y → Bool) (f : X → Y) (xs : List X) → list_any p (map f xs) ≡ list_any (λ x. p (f x)) xs
any_map p f [] = refl
any_map p f (x ∷ xs) = ap (λ b. p (f x) || b) (any_map p f xs)

any_same : {X : Type 0} (p q : X → Bool) → ((x : X) → p x ≡ q x) → (xs : List X) → list_any p xs ≡ list_any q xs
any_same p q h [] = refl
any_same p q h (x ∷ xs) = ap (λ b. b || list_any p xs) (h x) ∙ ap (λ b. q x || b) (any_same p q h xs)

any_none : {X : Type 0} (xs : List X) → list_any (λ x. false) xs ≡ false
any_none [] = refl
any_none (x ∷ xs) = any_none xs

-- ---- any run

run_ends : (items : List Item) → can_be_cut (AnyRun ∷ items) [] ≡ can_be_cut items []
run_ends items = or_false (can_be_cut items [])

run_goes_on : (items : List Item) (c : ℕ) (cs : List ℕ) → can_be_cut (AnyRun ∷ items) (c ∷ cs) ≡ (can_be_cut items (c ∷ cs) || can_be_cut (AnyRun ∷ items) cs)
run_goes_on items c cs = ap (λ b. can_be_cut items (c ∷ cs) || b) (any_map (λ cut. piece_fits AnyRun (cut.0) && can_be_cut items (cut.1)) (λ cut. (c ∷ cut.0, cut.1)) (splits cs))

-- ---- one code

abbrev is_nil : List ℕ → Bool
is_nil [] = true
is_nil (c ∷ cs) = false

abbrev pub IsOneCode : Item → Type 0
IsOneCode AnyRun = ⊥
IsOneCode AnyOne = Unit {0}
IsOneCode (This c) = Unit {0}

fits_one : (i : Item) → IsOneCode i → (c : ℕ) (cs : List ℕ) → piece_fits i (c ∷ cs) ≡ (takes i c && is_nil cs)
fits_one AnyRun one c cs = absurd one
fits_one AnyOne one c [] = refl
fits_one AnyOne one c (d ∷ ds) = refl
fits_one (This e) one c [] = and_true (c == e)
fits_one (This e) one c (d ∷ ds) = sym (and_right (c == e) false refl)

-- only the cut that leaves the whole rest has nothing in front
any_rest : (P : List ℕ → Bool) (cs : List ℕ) → list_any (λ cut. is_nil (cut.0) && P (cut.1)) (splits cs) ≡ P cs
any_rest P [] = or_false (P [])
any_rest P (c ∷ cs) =
    ap (λ b. P (c ∷ cs) || b) (any_map (λ cut. is_nil (cut.0) && P (cut.1)) (λ cut. (c ∷ cut.0, cut.1)) (splits cs) ∙ any_none (splits cs)) ∙ or_false (P (c ∷ cs))

any_taken : (b : Bool) (P : List ℕ → Bool) (cs : List ℕ) → list_any (λ cut. (b && is_nil (cut.0)) && P (cut.1)) (splits cs) ≡ (b && P cs)
any_taken true P cs = any_rest P cs
any_taken false P cs = any_none (splits cs)

rest_taken : (i : Item) → IsOneCode i → (items : List Item) (c : ℕ) (cs : List ℕ) → list_any (λ (cut : List ℕ × List ℕ). piece_fits i (cut.0) && can_be_cut items (cut.1)) (map (λ (cut : List ℕ × List ℕ). (c ∷ cut.0, cut.1)) (splits cs)) ≡ (takes i c && can_be_cut items cs)
rest_taken i one items c cs =
    any_map (λ (cut : List ℕ × List ℕ). piece_fits i (cut.0) && can_be_cut items (cut.1)) (λ (cut : List ℕ × List ℕ). (c ∷ cut.0, cut.1)) (splits cs)
    ∙ any_same (λ (cut : List ℕ × List ℕ). piece_fits i (c ∷ cut.0) && can_be_cut items (cut.1)) (λ (cut : List ℕ × List ℕ). (takes i c && is_nil (cut.0)) && can_be_cut items (cut.1)) (λ cut. ap (λ b. b && can_be_cut items (cut.1)) (fits_one i one c (cut.0))) (splits cs)
    ∙ any_taken (takes i c) (can_be_cut items) cs

one_ends : (i : Item) → IsOneCode i → (items : List Item) → can_be_cut (i ∷ items) [] ≡ false
one_ends AnyRun one items = absurd one
one_ends AnyOne one items = refl
one_ends (This d) one items = refl

one_goes_on : (i : Item) → IsOneCode i → (items : List Item) (c : ℕ) (cs : List ℕ) → can_be_cut (i ∷ items) (c ∷ cs) ≡ (takes i c && can_be_cut items cs)
one_goes_on AnyRun one items c cs = absurd one
one_goes_on AnyOne one items c cs = rest_taken AnyOne one items c cs
one_goes_on (This d) one items c cs = rest_taken (This d) one items c cs

-- ---- a whole list of cuts

-- what stands from a place on: the code there and the rest, or nothing at the end
from_place : (text : List ℕ) (k : ℕ) → k < length text → drop k text ≡ get_or text k 0 ∷ drop (suc k) text
from_place text k h = drop-cons text k 0 h

at_end : (text : List ℕ) (k : ℕ) → length text ≤ k → drop k text ≡ []
at_end text k h = drop_all k text h

cuts_before_run : (items : List Item) (text : List ℕ) (old new : List Bool) → AreCuts items text old
    → get_or new (length text) false ≡ get_or old (length text) false
    → ((k : ℕ) → k < length text → get_or new k false ≡ (get_or old k false || get_or new (k + 1) false))
    → (left k : ℕ) → k + left ≡ length text → get_or new k false ≡ can_be_cut (AnyRun ∷ items) (drop k text)
cuts_before_run items text old new are same each zero k e =
    let here : k ≡ length text = omega arith in
    let none : drop k text ≡ [] = at_end text k (omega arith) in
    ap (λ n. get_or new n false) here ∙ same ∙ are.each (length text) (omega arith) ∙ ap (can_be_cut items) (at_end text (length text) (omega arith)) ∙ sym (run_ends items) ∙ ap (can_be_cut (AnyRun ∷ items)) (sym none)
cuts_before_run items text old new are same each (suc left) k e =
    let within : k < length text = omega arith in
    let after : k + 1 + left ≡ length text = omega arith in
    let rest = cuts_before_run items text old new are same each left (k + 1) after in
    each k within
    ∙ (λ i. are.each k (omega arith) i || rest i)
    ∙ (λ i. can_be_cut items (from_place text k within i) || can_be_cut (AnyRun ∷ items) (drop (add-one k i) text))
    ∙ sym (run_goes_on items (get_or text k 0) (drop (suc k) text))
    ∙ ap (can_be_cut (AnyRun ∷ items)) (sym (from_place text k within))

pub run_put : (items : List Item) (text : List ℕ) (old new : List Bool) → length new ≡ length text + 1 → AreCuts items text old
    → get_or new (length text) false ≡ get_or old (length text) false
    → ((k : ℕ) → k < length text → get_or new k false ≡ (get_or old k false || get_or new (k + 1) false))
    → AreCuts (AnyRun ∷ items) text new
run_put items text old new long are same each = record {
  long = long;
  each = λ k h. cuts_before_run items text old new are same each (length text - k) k (omega arith);
}

one_put_at : (i : Item) → IsOneCode i → (items : List Item) (text : List ℕ) (old new : List Bool) → AreCuts items text old
    → get_or new (length text) false ≡ false
    → ((k : ℕ) → k < length text → get_or new k false ≡ (takes i (get_or text k 0) && get_or old (k + 1) false))
    → (k : ℕ) → (k < length text) ⊎ (k ≡ length text) → get_or new k false ≡ can_be_cut (i ∷ items) (drop k text)
one_put_at i one items text old new are none each k (inl h) =
    each k h
    ∙ ap (λ b. takes i (get_or text k 0) && b) (are.each (k + 1) (omega arith) ∙ ap (λ n. can_be_cut items (drop n text)) (add-one k))
    ∙ sym (one_goes_on i one items (get_or text k 0) (drop (suc k) text))
    ∙ ap (can_be_cut (i ∷ items)) (sym (from_place text k h))
one_put_at i one items text old new are none each k (inr e) =
    ap (λ n. get_or new n false) e ∙ none ∙ sym (one_ends i one items) ∙ ap (can_be_cut (i ∷ items)) (sym (at_end text k (omega arith)))

within_or_end : (k n : ℕ) → k ≤ n → (k < n) ⊎ (k ≡ n)
within_or_end k n h = elim (cases_lt k n) [ inl l ↦ inl l | inr l ↦ inr (omega arith) ]

pub one_put : (i : Item) → IsOneCode i → (items : List Item) (text : List ℕ) (old new : List Bool) → length new ≡ length text + 1 → AreCuts items text old
    → get_or new (length text) false ≡ false
    → ((k : ℕ) → k < length text → get_or new k false ≡ (takes i (get_or text k 0) && get_or old (k + 1) false))
    → AreCuts (i ∷ items) text new
one_put i one items text old new long are none each = record {
  long = long;
  each = λ k h. one_put_at i one items text old new are none each k (within_or_end k (length text) h);
}

nothing_at : (text : List ℕ) (new : List Bool) → get_or new (length text) false ≡ true → ((k : ℕ) → k < length text → get_or new k false ≡ false)
    → (k : ℕ) → (k < length text) ⊎ (k ≡ length text) → get_or new k false ≡ can_be_cut [] (drop k text)
nothing_at text new end none k (inl h) = none k h ∙ ap (can_be_cut []) (sym (from_place text k h))
nothing_at text new end none k (inr e) = ap (λ n. get_or new n false) e ∙ end ∙ ap (can_be_cut []) (sym (at_end text k (omega arith)))

pub nothing_put : (text : List ℕ) (new : List Bool) → length new ≡ length text + 1 → get_or new (length text) false ≡ true → ((k : ℕ) → k < length text → get_or new k false ≡ false) → AreCuts [] text new
nothing_put text new long end none = record { long = long; each = λ k h. nothing_at text new end none k (within_or_end k (length text) h) }

pub nothing_set : (cuts : List Bool) (text : List ℕ) → length cuts ≡ length text + 1 → ((k : ℕ) → k < length cuts → get_or cuts k false ≡ false) → AreCuts [] text (set cuts (length cuts - 1) true)
nothing_set cuts text long none =
    let place : length cuts - 1 ≡ length text = omega arith in
    nothing_put text (set cuts (length cuts - 1) true) (grind (arith, common_steps)) (grind (arith, common_steps)) (λ k h. let no = none k (omega arith) in grind (arith, common_steps))

pub not_a_run : (i : Item) → (i ≡ AnyRun → ⊥) → IsOneCode i
not_a_run AnyRun h = h refl
not_a_run AnyOne h = tt
not_a_run (This d) h = tt
