use Rattle.std.proofs.Common.{◌≡◌, ◌-◌, ◌≤◌, length, drop}
use Rattle.sq_lex.specs.Position.{position}
use Rattle.sq_lex.specs.Row.{IsRow}
use Rattle.sq_lex.specs.Reading.{tokens_from, followed, reading}
use Rattle.sq_lex.proofs.reading.lex.Given as goal

-- the tokens so far and those of what is left are the reading
abbrev pub invariant-loop-at : goal.invariant-loop-at
invariant-loop-at l = record {
  whole : followed l.tokens.items (tokens_from (position l.text l.at) 0 (drop l.at l.text)) ≡ reading l.text;
  row : IsRow l.text l.at l.tokens.items;
  within : l.at ≤ length l.text;
}

abbrev pub decreases-loop-at : goal.decreases-loop-at
decreases-loop-at l = length l.text - l.at
