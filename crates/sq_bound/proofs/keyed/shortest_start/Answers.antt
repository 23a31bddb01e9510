-- Left open: the call of is_better, the result, and the loop's invariant; answered by Keys.
use Rattle.std.proofs.Common.{◌≡◌, ◌+◌, ◌&&◌, ℕ, Bool, List, [], false, get_or, length, map, nat_lt, subst, sym, ap, take, true, ◌∙◌}
use Rattle.sq_bound.specs.Condition.{test_of}
use Rattle.sq_bound.specs.Keyed.{IsShortest, start_with_key}
use Rattle.sq_bound.specs.Names.{option_all}
use Rattle.sq_bound.proofs.Keys.{all_seen, found_within, goes_on, takes_place}
use Rattle.sq_bound.proofs.keyed.shortest_start.Goals as goal
use Rattle.sq_bound.proofs.keyed.shortest_start.Goals.{then-is_better, else-is_better}

pub is_better-requires : goal.is_better-requires
is_better-requires c =
    found_within (λ key. start_with_key key (map (test_of []) c.args.tests.now)) c.args.keys.now c.loop-number.number c.loop-number.shortest c.loop-number.invariant

pub loop-number-preserved : goal.loop-number-preserved
loop-number-preserved c =
    let keys = c.args.keys.now in
    let fits : List ℕ → Bool = λ key. start_with_key key (map (test_of []) c.args.tests.now) in
    let i = c.loop-number.number in
    let key = c.index-keys-number.result in
    let found = c.loop-number.shortest in
    let within = c.loop-number-test.true in
    let better : (fits key && option_all (λ k. nat_lt (length key) (length (get_or keys k []))) found) ≡ c.is_better.result =
    ap (λ (k : List ℕ). fits k && option_all (λ n. nat_lt (length k) (length (get_or keys n []))) found) (sym c.as_slice.ensures) ∙ sym c.is_better.ensures in
    elim c.if-is_better.branch [
      | then-is_better w ↦
          subst (IsShortest fits (take (i + 1) keys)) (sym w.shortest-is)
          (takes_place fits keys i key found within c.index-keys-number.is (better ∙ w.if-is_better.true) c.loop-number.invariant)
      | else-is_better w ↦
          subst (IsShortest fits (take (i + 1) keys)) (sym w.shortest-is)
          (goes_on fits keys i key found within c.index-keys-number.is (better ∙ w.if-is_better.false) c.loop-number.invariant)
    ]

pub returns : goal.returns
returns c =
    all_seen (λ key. start_with_key key (map (test_of []) c.args.tests.now)) c.args.keys.now c.loop-number.number c.loop-number.shortest c.loop-number-test.false c.loop-number.invariant
