use Rattle.std.proofs.Common.{◌≡◌, ◌≤◌, ◌+◌, ◌*◌, ◌^◌, take}
use Rattle.std.specs.Str.Parse.{digits_value_after}
use Rattle.sq_value.proofs.spelling.append_digits.Given as goal

abbrev pub invariant-loop-digit : goal.invariant-loop-digit
invariant-loop-digit l = record {
  value : l.number ≡ digits_value_after 10 l.start (take l.digit-index l.digits);
  bound : l.number + 1 ≤ (l.start + 1) * 10 ^ l.digit-index;
}
