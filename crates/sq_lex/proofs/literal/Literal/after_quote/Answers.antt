-- Left open: the clause value, and that the loop keeps its invariant; answered by LiteralLemmas.
use Rattle.std.proofs.Common.{arith, rules, ◌∙◌, ap, sym, suc, ◌+◌, add-one, get_or}
use Rattle.sq_lex.proofs.LiteralLemmas.{step_plain, step_two, ends, past_end}
use Rattle.sq_lex.proofs.literal.Literal.after_quote.Goals as goal
use Rattle.sq_lex.proofs.literal.Literal.after_quote.Goals.{then-size-bytes-via-then-size-bytes, then-size-bytes-via-else-size-bytes+then-bytes-size-ne39, then-byte-eq39+else-size-bytes+else-bytes-size-ne39, else-byte-eq39+else-is_line_end+else-not-is_printable}

pub returns-then-size-bytes-clause-value : goal.returns-then-size-bytes-clause-value
returns-then-size-bytes-clause-value c =
    ends c.args.bytes.now c.loop-size.characters c.loop-size.size (search rules) c.loop-size.invariant.short c.if-byte-eq39.true (elim c.then-size-bytes.branch [
      | then-size-bytes-via-then-size-bytes w ↦ past_end c.args.bytes.now (suc c.loop-size.size) (omega (arith, w.if-size-bytes.true))
      | then-size-bytes-via-else-size-bytes+then-bytes-size-ne39 w ↦ λ q. w.if-bytes-size-ne39.true (ap (λ n. get_or c.args.bytes.now n 0) (add-one c.loop-size.size) ∙ q)
    ]) ∙ c.loop-size.invariant.whole

pub loop-size-preserved : goal.loop-size-preserved
loop-size-preserved c = record {
  whole = elim c.if-byte-eq39.branch [
    | then-byte-eq39+else-size-bytes+else-bytes-size-ne39 w ↦
        step_two c.args.bytes.now c.loop-size.characters c.keep.new.characters c.loop-size.size (c.if-byte-eq39.size + 1) (search rules) (omega (arith, w.if-size-bytes.false, c.loop-size-test.true)) w.if-byte-eq39.true
        (ap (λ n. get_or c.args.bytes.now n 0) (sym (add-one c.loop-size.size)) ∙ w.if-bytes-size-ne39.false) c.in_ok-keep.ensures.value (omega (arith, w.size-is))
    | else-byte-eq39+else-is_line_end+else-not-is_printable w ↦
        step_plain c.args.bytes.now c.loop-size.characters c.keep.new.characters c.loop-size.size (c.if-byte-eq39.size + 1) (search rules) w.if-byte-eq39.false (sym w.is_line_end.ensures ∙ w.if-is_line_end.false) (sym w.is_printable.ensures ∙ w.if-not-is_printable.false) c.in_ok-keep.ensures.value (omega (arith, w.size-is))
  ] ∙ c.loop-size.invariant.whole;
  short = c.in_ok-keep.ensures.short;
  within = search rules;
}
