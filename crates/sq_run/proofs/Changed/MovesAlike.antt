-- FETCH goes by place where it goes by name (ISO/IEC 9075:1992, 13.3): its orientation is bound as it is
-- written, and the number of ABSOLUTE or RELATIVE is the one that is written or the value of the
-- parameter of the written name.
use Rattle.std.proofs.Common.{◌≡◌, ℕ, ℤ, cond, Bool, true, false, List, [], ◌∷◌, map, Option, Some, None, refl, sym, ap, subst, ◌∙◌, Ok, Err}
use Rattle.std.specs.Prelude.{find, slice_get, unwrap_or}
use Rattle.std.specs.Option.{option_and_then, option_map}
use Rattle.sq_lex.specs.declared.name.Name.{Name}
use Rattle.sq_tree.specs.declared.statement.FetchFrom.{FetchFrom}
use Rattle.sq_tree.specs.declared.statement.Orientation.{Orientation}
use Rattle.sq_tree.specs.declared.statement.Orientation.TheVariants as written
use Rattle.sq_tree.specs.declared.statement.Position.{Position}
use Rattle.sq_tree.specs.declared.statement.Position.TheVariants as position
use Rattle.sq_value.specs.declared.value.Value.{Value}
use Rattle.sq_value.specs.declared.value.Value.TheVariants as value
use Rattle.sq_meaning.specs.Environment.{same_name}
use Rattle.sq_meaning.specs.Status.{Outcome, and_then, well_formed}
use Rattle.sq_meaning.specs.WellFormed.{IsNoSyntaxError}
use Rattle.sq_meaning.specs.declared.status.Status.{Status}
use Rattle.sq_meaning.specs.declared.status.Status.TheVariants as status
use Rattle.sq_meaning.specs.Cursor.{Move}
use Rattle.sq_meaning.specs.Machine.{integer_of, move_of, position_integer}
use Rattle.sq_meaning.specs.Parameter.{Parameters, inputs_of, parameter_named}
use Rattle.sq_bound.specs.declared.names.ParameterDesc.{ParameterDesc}
use Rattle.sq_bound.specs.declared.statement.Distance.{Distance}
use Rattle.sq_bound.specs.declared.statement.Distance.TheVariants as distance
use Rattle.sq_bound.specs.declared.statement.FetchOrientation.{FetchOrientation}
use Rattle.sq_bound.specs.declared.statement.FetchOrientation.TheVariants as orientation
use Rattle.sq_binding.specs.Placed.{position_named}
use Rattle.sq_binding.specs.Names.{declared}
use Rattle.sq_binding.specs.Written.{IsDistanceOf, IsOrientationOf, IsParameter, orientation_of}
use Rattle.sq_session.specs.Fetch.{number_of, whole_number}
use Rattle.sq_session.specs.Fetch as session
use Rattle.sq_run.proofs.Places.Outcomes.{known_of, ok_same}
use Rattle.sq_run.proofs.Places.Parameters.{AreNamed, SameNamed, get_map, named_same}

-- ---- the value of a parameter

value_named : (name : Name) (qs : Parameters)
    → option_map (λ i. i.value) (find (λ i. same_name i.name name) (inputs_of qs)) ≡ option_map (λ q. q.value) (parameter_named qs name)
value_named name [] = refl
value_named name (q ∷ qs) = by_test (same_name q.name name) (value_named name qs)
  where
    by_test : (b : Bool)
        → option_map (λ i. i.value) (find (λ i. same_name i.name name) (inputs_of qs)) ≡ option_map (λ p. p.value) (parameter_named qs name)
        → option_map (λ i. i.value) (cond b (Some (record { name = q.name; value = q.value })) (find (λ i. same_name i.name name) (inputs_of qs)))
        ≡ option_map (λ p. p.value) (cond b (Some q) (find (λ p. same_name p.name name) qs))
    by_test true e = refl
    by_test false e = e

module _ (ps : List ParameterDesc) (qs : Parameters) (names : AreNamed ps (inputs_of qs)) (values : List Value)
    (given : values ≡ map (λ i. i.value) (inputs_of qs)) where
  parameter_value : (name : Name) (at : ℕ) → IsParameter ps name at
      → well_formed (slice_get values at) ≡ well_formed (option_map (λ q. q.value) (parameter_named qs name))
  parameter_value name at h =
      ap (λ vs. well_formed (slice_get vs at)) given
      ∙ ap well_formed (sym (get_map (λ i. i.value) (inputs_of qs) at))
      ∙ sym (known_of (position_named (declared ps) name) (SameNamed ps name) (at, h.0) (named_same ps name) h.1
      (inputs_of qs) (inputs_of qs) (record { names = names; values = refl }))
      ∙ ap well_formed (value_named name qs)

  -- ---- the number

  number_alike : (p : Position) (d : Distance) → IsDistanceOf ps p d → (n : ℤ) → number_of values d ≡ Ok n → n ≡ position_integer qs p
  number_alike (position.Number k) (distance.Number z) h n e = sym (ok_same z n e) ∙ h.1
  number_alike (position.Number k) (distance.Parameter at) h n e = absurd h
  number_alike (position.Parameter name) (distance.Number z) h n e = absurd h
  number_alike (position.Parameter name) (distance.Parameter at) h n e =
      by_value (option_map (λ q. q.value) (parameter_named qs name)) (sym (ap (λ o. and_then o whole_number) (parameter_value name at h)) ∙ e)
    where
      by_value : (o : Option Value) → and_then (well_formed o) whole_number ≡ Ok n → n ≡ integer_of (unwrap_or o value.Null)
      by_value None e = cc
      by_value (Some (value.Num x)) e = sym (ok_same x.unscaled n e)
      by_value (Some value.Null) e = cc
      by_value (Some (value.Chars c)) e = cc

  moved_to : (o : Outcome ℤ) (f : ℤ → Move) (m : Move) (wanted : ℤ) → ((n : ℤ) → o ≡ Ok n → n ≡ wanted)
      → and_then o (λ n. Ok (f n)) ≡ Ok m → m ≡ f wanted
  moved_to (Ok n) f m wanted h e = sym (ok_same (f n) m e) ∙ ap f (h n refl)
  moved_to (Err st) f m wanted h e = cc

  -- ---- the move

  move_alike : (x : Option Orientation) (o : FetchOrientation) → IsOrientationOf ps (unwrap_or x written.Next) o → (m : Move)
      → session.move_of values o ≡ Ok m → m ≡ move_of qs x
  move_alike None orientation.Next h m e = sym (ok_same Move.next m e)
  move_alike (Some written.Next) orientation.Next h m e = sym (ok_same Move.next m e)
  move_alike (Some written.Prior) orientation.Prior h m e = sym (ok_same Move.prior m e)
  move_alike (Some written.First) orientation.First h m e = sym (ok_same Move.first m e)
  move_alike (Some written.Last) orientation.Last h m e = sym (ok_same Move.last m e)
  move_alike (Some (written.Absolute p)) (orientation.Absolute d) h m e =
      moved_to (number_of values d) Move.absolute m (position_integer qs p) (number_alike p d h) e
  move_alike (Some (written.Relative p)) (orientation.Relative d) h m e =
      moved_to (number_of values d) Move.relative m (position_integer qs p) (number_alike p d h) e
  move_alike _ _ h m e = absurd h

  pub moves_alike : (w : Option FetchFrom) (o : FetchOrientation) → IsOrientationOf ps (orientation_of w) o → (m : Move)
      → session.move_of values o ≡ Ok m → m ≡ move_of qs (option_and_then (λ from. from.orientation) w)
  moves_alike None o h m e = move_alike None o h m e
  moves_alike (Some from) o h m e = move_alike from.orientation o h m e

-- ---- where there is no number

none_whole : (v : Value) (st : Status) → whole_number v ≡ Err st → IsNoSyntaxError st → ⊥
none_whole (value.Num n) st e h = cc
none_whole value.Null st e h = let same : status.SyntaxErrorOrAccessRuleViolation ≡ st = cc in subst (λ x. IsNoSyntaxError x) (sym same) h
none_whole (value.Chars c) st e h = let same : status.SyntaxErrorOrAccessRuleViolation ≡ st = cc in subst (λ x. IsNoSyntaxError x) (sym same) h

none_there : (o : Option Value) (st : Status) → and_then (well_formed o) whole_number ≡ Err st → IsNoSyntaxError st → ⊥
none_there None st e h = let same : status.SyntaxErrorOrAccessRuleViolation ≡ st = cc in subst (λ x. IsNoSyntaxError x) (sym same) h
none_there (Some v) st e h = none_whole v st e h

no_number : (values : List Value) (d : Distance) (st : Status) → number_of values d ≡ Err st → IsNoSyntaxError st → ⊥
no_number values (distance.Number n) st e h = cc
no_number values (distance.Parameter p) st e h = none_there (slice_get values p) st e h

not_moved : (o : Outcome ℤ) (f : ℤ → Move) (st : Status) → and_then o (λ n. Ok (f n)) ≡ Err st → (o ≡ Err st → ⊥) → ⊥
not_moved (Ok n) f st e h = cc
not_moved (Err s) f st e h = let same : s ≡ st = cc in h (ap (λ x. Err x) same)

-- Only 42000 is answered where an orientation means no place.
pub no_move : (values : List Value) (o : FetchOrientation) (st : Status) → session.move_of values o ≡ Err st → IsNoSyntaxError st → ⊥
no_move values orientation.Next st e h = cc
no_move values orientation.Prior st e h = cc
no_move values orientation.First st e h = cc
no_move values orientation.Last st e h = cc
no_move values (orientation.Absolute d) st e h = not_moved (number_of values d) Move.absolute st e (λ is. no_number values d st is h)
no_move values (orientation.Relative d) st e h = not_moved (number_of values d) Move.relative st e (λ is. no_number values d st is h)
