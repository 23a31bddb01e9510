-- Left open for folded: what the call of new asks for; answered by Spelled.
use Rattle.std.proofs.Common.{◌≡◌, ◌∙◌, arith, ap, length, map, take, subst, sym}
use Rattle.std.proofs.lemmas.List.{take_all}
use Rattle.std.specs.Char.{to_ascii_uppercase}
use Rattle.sq_lex.specs.Name.{IsWordSpelling}
use Rattle.sq_lex.proofs.Spelled.{word_folded}
use Rattle.sq_lex.proofs.piece.folded.Goals as goal

pub new-requires : goal.new-requires
new-requires c =
    let bytes = c.args.bytes.now in
    let size : length bytes ≡ c.loop-at.at = omega (arith, c.loop-at-test.false, c.loop-at.auto.at-end) in
    let all : take (length bytes) c.loop-at.codes ≡ map to_ascii_uppercase bytes =
    ap (λ n. take n c.loop-at.codes) size ∙ c.loop-at.invariant.folded ∙ ap (map to_ascii_uppercase) (take_all c.loop-at.at bytes c.loop-at-test.false) in
    subst IsWordSpelling (sym all) (word_folded bytes c.requires)
