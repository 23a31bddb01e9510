-- Left open for to_breach: its result; answered by laws of std.
use Rattle.std.proofs.Common.{length, refl}
use Rattle.std.proofs.lemmas.Option.{slice_get_read}
use Rattle.sq_cause.proofs.reference_breach.to_breach.Goals as goal

pub returns-in-Some : goal.returns-in-Some
returns-in-Some g c =
    let known = rw c.in-Some.is at c.in_ok-referring.ensures in
    let bases = c.args.changing.now.bases.now in
    record {
      base = c.base-item.result;
      at = rw known.0 (slice_get_read bases (length bases) c.loop-place.place c.base-item.result refl c.loop-place-test.true c.base-item.is);
      refers = known.1;
    }
