-- Each sink after one more token.
use Rattle.std.specs.Prelude.{◌+◌, ◌-◌, ◌^◌, ◌++◌, ◌∷◌, [], min, max}
use Rattle.sq_lex.specs.declared.lexeme.Lexeme.{Lexeme}
use Rattle.sq_tree.specs.Brackets.{open_after}
use Rattle.sq_spell.specs.declared.sinks.Writer.{Writer}
use Rattle.sq_spell.specs.declared.sinks.Counter.{Counter}
use Rattle.sq_spell.specs.declared.sinks.Depth.{Depth}

-- A writer after one more token: the token is at the end.
abbrev pub written : Writer → Lexeme → Writer
written writer token = record writer { lexemes = writer.lexemes ++ token ∷ [] }

-- A counter after one more token: one more, up to the greatest usize.
abbrev pub counted : Counter → Lexeme → Counter
counted counter token = record { tokens = min (counter.tokens + 1) (2 ^ 64 - 1) }

-- A depth after one more token: the brackets that are open now, and the most that were open at once.
abbrev pub nested : Depth → Lexeme → Depth
nested depth token =
    let now = min (open_after depth.now token) (2 ^ 64 - 1) in
    record { now = now; most = max depth.most now }
