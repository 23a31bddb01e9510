-- The columns of UNION: each pair of columns has its outcome by itself.
use Rattle.std.proofs.Common.{◌≡◌, ℕ, ◌<◌, ◌≤◌, Bool, true, false, List, [], ◌∷◌, length, map, get_or, Err, refl, sym, ap, ◌∙◌, arith}
use Rattle.std.proofs.lemmas.Bool.{eq-eqb}
use Rattle.std.proofs.lemmas.List.{length-map}
use Rattle.std.proofs.lemmas.Slice.Zip.{get_or-zip, length-zip}
use Rattle.std.specs.List.{zip}
use Rattle.std.specs.Prelude.{◌==◌}
use Rattle.std.specs.Result.{result_ok}
use Rattle.sq_meaning.specs.Kind.{common_kind}
use Rattle.sq_meaning.specs.SortKeys.{common_name}
use Rattle.sq_meaning.specs.declared.fault.BindingFault.TheVariants as fault
use Rattle.sq_bound.specs.declared.condition.ResultColumn.{ResultColumn as BoundColumn}
use Rattle.sq_binding.specs.Found.{Counts, ◌>>◌, each, must, outcome, pure, then_joined}
use Rattle.sq_binding.specs.NumberedCondition.{ResultColumn}
use Rattle.sq_binding.specs.Outcome.{and_then, or_fault}
use Rattle.sq_binding.specs.QueryExpression.{common_column, common_columns}
use Rattle.sq_binding.specs.Seen.{column_of}
use Rattle.sq_binder.specs.InTurn.{in_turn}
use Rattle.sq_binder.specs.Query.{column_in_common, sides_seen}
use Rattle.sq_binder.proofs.OneByOne.Turns.{each_outcome, outcome_made, then_nothing}

zip-map : {A B C D : Type 0} (f : A → C) (g : B → D) (xs : List A) (ys : List B) → zip (map f xs) (map g ys) ≡ map (λ (p : A × B). (f p.0, g p.1)) (zip xs ys)
zip-map f g [] ys = refl
zip-map f g (x ∷ xs) [] = refl
zip-map f g (x ∷ xs) (y ∷ ys) = ap (λ l. (f x, g y) ∷ l) (zip-map f g xs ys)

column_is : (c : ResultColumn × ResultColumn) (counts : Counts) → common_column c counts ≡ outcome (column_in_common c) counts
column_is c counts = outcome_made (or_fault fault.KindMismatch (result_ok (common_kind c.0.kind c.1.kind))) (λ kind. record { name = common_name c.0.name c.1.name; kind = kind }) counts

behind_test : (cs : List (ResultColumn × ResultColumn)) (counts : Counts) → (must true fault.CountMismatch >> each common_column cs) counts ≡ outcome (in_turn column_in_common cs) counts
behind_test cs counts =
    ap (λ o. and_then (pure (tt {0}) counts) (λ x. then_joined x o)) (each_outcome common_column column_in_common column_is cs _)
    ∙ then_nothing (tt {0}) counts (in_turn column_in_common cs)

module _ (left right : List BoundColumn) (counts : Counts) where
  same_long : length left ≡ length right → (length (map column_of left) == length (map column_of right)) ≡ true
  same_long e = eq-eqb (length (map column_of left)) (length (map column_of right)) (length-map left column_of ∙ e ∙ sym (length-map right column_of))

  -- sides of as many columns
  pub common_is : length left ≡ length right → common_columns (map column_of left) (map column_of right) counts ≡ outcome (in_turn column_in_common (map sides_seen (zip left right))) counts
  common_is e =
      ap (λ (t : Bool). (must t fault.CountMismatch >> each common_column (zip (map column_of left) (map column_of right))) counts) (same_long e)
      ∙ behind_test (zip (map column_of left) (map column_of right)) counts
      ∙ ap (λ cs. outcome (in_turn column_in_common cs) counts) (zip-map column_of column_of left right)

  pub common_refused : (length (map column_of left) == length (map column_of right)) ≡ false → common_columns (map column_of left) (map column_of right) counts ≡ Err fault.CountMismatch
  common_refused e = ap (λ (t : Bool). (must t fault.CountMismatch >> each common_column (zip (map column_of left) (map column_of right))) counts) e

-- the pair of columns at a position
pub pair_at : (left right : List BoundColumn) (i : ℕ) (l r : BoundColumn) → length left ≡ length right → i < length left → l ≡ get_or left i l → r ≡ get_or right i r → (l, r) ≡ get_or (zip left right) i (l, r)
pair_at left right i l r e within is_left is_right =
    let beside : i < length right = omega (arith, within, e) in
    (λ j. (is_left j, is_right j)) ∙ sym (get_or-zip left right i (l, r) within beside)

pub pair_within : (left right : List BoundColumn) (i : ℕ) → length left ≡ length right → i < length left → i < length (zip left right)
pair_within left right i e within = let long = length-zip left right in omega (arith, long, e, within)

pub pairs_past : (left right : List BoundColumn) (i : ℕ) → length left ≡ length right → length left ≤ i → length (zip left right) ≤ i
pairs_past left right i e past = let long = length-zip left right in omega (arith, long, e, past)
