-- Left open for number: what the call of new asks for; answered by Longest.
use Rattle.std.proofs.Common.{◌≡◌, ◌-◌, ◌∙◌, ap, arith, length, take, drop}
use Rattle.std.proofs.lemmas.List.{length-drop, take_all}
use Rattle.sq_lex.specs.Piece.{fraction_size}
use Rattle.sq_lex.proofs.Longest.{number_taken}
use Rattle.sq_lex.proofs.piece.number.Goals as goal

pub new-requires : goal.new-requires
new-requires c =
    let whole = c.run-whole.result in
    let bytes = c.args.bytes.now in
    let rest : take (length bytes - whole) (drop whole bytes) ≡ drop whole bytes = take_all (length bytes - whole) (drop whole bytes) (omega (arith, length-drop whole bytes)) in
    number_taken bytes _ _ _ c.requires c.run-whole.ensures.value (c.fraction_size-fraction.ensures.value ∙ ap fraction_size rest) c.saturating_sub.ensures c.if-whole-saturating_sub-gt18.false
