-- Left open for ends_like: its result; answered by Alike.
use Rattle.std.proofs.Common.{◌≡◌, ◌∙◌, ◌≤◌, ◌-◌, ap, arith, drop, length, length-drop, subst, sym, take}
use Rattle.std.proofs.lemmas.List.{take_all}
use Rattle.std.proofs.lemmas.Slice.Eq.{bytes_eq-Decides}
use Rattle.std.specs.Str.{str_eq_ignore_ascii_case}
use Rattle.sq_suite.proofs.Alike.{alike}
use Rattle.sq_suite.proofs.folder.ends_like.Goals as goal

pub returns : goal.returns
returns c =
    let name = c.args.name.now in
    let from = length name - length c.args.letters.now in
    let fits : length (drop from name) ≤ length name - from = rw length-drop (omega arith) in
    let whole : take (length name - from) (drop from name) ≡ drop from name = take_all (length name - from) (drop from name) fits in
    alike c.eq_ignore_ascii_case.result _ (bytes_eq-Decides _ _) c.eq_ignore_ascii_case.ensures.test
    ∙ ap (λ s. str_eq_ignore_ascii_case s c.args.letters.now) whole
