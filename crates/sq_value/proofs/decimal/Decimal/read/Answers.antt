-- Left open: the calls of append_digits and new, the result, and that no number overflows; answered by Digits.
use Rattle.std.proofs.Common.{◌≡◌, ◌^◌, ◌<◌, pos, w64, length, arith, ap, sym, ◌∙◌}
use Rattle.std.specs.Str.Parse.{digits_value_after}
use Rattle.std.specs.List.{before_first}
use Rattle.std.proofs.lemmas.Int.{ints, to_z_pos}
use Rattle.sq_value.specs.Spelling.{read_parts, is_point}
use Rattle.sq_value.proofs.Digits.{room_for_fraction, parts_are, room_within}
use Rattle.sq_value.proofs.decimal.Decimal.read.Goals as goal

pub append_digits-whole-requires-clause-room : goal.append_digits-whole-requires-clause-room
append_digits-whole-requires-clause-room c = room_within 0 (length c.split_at_point-spelling.result.whole.now) 18 (omega arith)

pub append_digits-unscaled-requires-clause-room : goal.append_digits-unscaled-requires-clause-room
append_digits-unscaled-requires-clause-room c = room_for_fraction _ _ _ c.if-count-gt18.false c.append_digits-whole.ensures.bound

pub overflow_cast-unscaled : goal.overflow_cast-unscaled
overflow_cast-unscaled c =
    let room = room_for_fraction _ _ _ c.if-count-gt18.false c.append_digits-whole.ensures.bound in
    omega (arith, ints)

pub new-requires-clause-digits : goal.new-requires-clause-digits
new-requires-clause-digits c =
    let room = room_for_fraction _ _ _ c.if-count-gt18.false c.append_digits-whole.ensures.bound in
    omega (arith, ints)

pub returns : goal.returns
returns c =
    let w = c.split_at_point-spelling.result.whole.now in
    let f = c.split_at_point-spelling.result.fraction.now in
    let room = room_for_fraction _ _ _ c.if-count-gt18.false c.append_digits-whole.ensures.bound in
    let n = c.append_digits-unscaled.result in
    let value : n ≡ digits_value_after 10 (digits_value_after 10 0 w) f = c.append_digits-unscaled.ensures.value ∙ ap (λ m. digits_value_after 10 m f) c.append_digits-whole.ensures.value in
    let small : n < 2 ^ 63 = omega arith in
    let unscaled : c.new.result.unscaled ≡ pos (digits_value_after 10 (digits_value_after 10 0 w) f) = c.new.ensures.unscaled ∙ to_z_pos w64 n small ∙ ap pos value in
    let parts = parts_are w f c.new.result (omega arith) c.if-count-gt18.false (sym c.all_digits.ensures ∙ c.if-not-all_digits.false) (sym c.all_digits-else-not-all_digits.ensures ∙ c.if-not-all_digits-2.false) unscaled c.new.ensures.scale in
    parts ∙ ap (λ x. read_parts x f) c.split_at_point-spelling.ensures.whole ∙ ap (λ x. read_parts (before_first is_point c.args.bytes.now) x) c.split_at_point-spelling.ensures.fraction
