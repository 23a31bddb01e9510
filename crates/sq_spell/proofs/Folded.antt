-- The sinks after a list of tokens.
use Rattle.std.proofs.Common.{◌≡◌, ℕ, ◌+◌, ◌-◌, ◌^◌, ◌<◌, ◌≤◌, min, max, length, [], ◌∷◌, ◌++◌, sym, ◌∙◌, ap, arith, append_assoc, append-nil, inl, inr}
use Rattle.std.specs.Prelude.{fold, ◌⊎◌}
use Rattle.std.proofs.Math.Nat.{eq-or-lt_of_le}
use Rattle.sq_lex.specs.declared.lexeme.Lexeme.{Lexeme}
use Rattle.sq_lex.specs.declared.lexeme.Lexeme.TheVariants as lexeme
use Rattle.sq_lex.specs.declared.symbol.Symbol.{Symbol}
use Rattle.sq_lex.specs.declared.symbol.Symbol.TheVariants as symbol
use Rattle.sq_tree.specs.Tree.{Tokens}
use Rattle.sq_tree.specs.Brackets.{open_after, deepest_from, deepest}
use Rattle.sq_spell.specs.declared.sinks.Writer.{Writer}
use Rattle.sq_spell.specs.declared.sinks.Counter.{Counter}
use Rattle.sq_spell.specs.declared.sinks.Depth.{Depth}
use Rattle.sq_spell.specs.Sinks.{written, counted, nested}

pub fold_written : (writer : Writer) (ts : Tokens) → (fold written writer ts).lexemes ≡ writer.lexemes ++ ts
fold_written writer [] = sym (append-nil writer.lexemes)
fold_written writer (t ∷ ts) = fold_written (written writer t) ts ∙ append_assoc writer.lexemes (t ∷ []) ts

pub fold_counted : (counter : Counter) (ts : Tokens) → counter.tokens < 2 ^ 64 → (fold counted counter ts).tokens ≡ min (counter.tokens + length ts) (2 ^ 64 - 1)
fold_counted counter [] fits = omega arith
fold_counted counter (t ∷ ts) fits =
    let rest = fold_counted (counted counter t) ts (omega arith) in
    omega (arith, rest)

one_more : (n : ℕ) (s : Symbol) → open_after n (lexeme.Symbol s) ≤ n + 1
one_more n symbol.Open = omega arith
one_more n symbol.Close = omega arith
one_more n _ = omega arith

opens_one : (n : ℕ) (t : Lexeme) → open_after n t ≤ n + 1
opens_one n (lexeme.Symbol s) = one_more n s
opens_one n (lexeme.Word w) = omega arith
opens_one n (lexeme.Name w) = omega arith
opens_one n (lexeme.Number w) = omega arith
opens_one n (lexeme.Text w) = omega arith

at_least : (n : ℕ) (ts : Tokens) → n ≤ deepest_from n ts
at_least n [] = omega arith
at_least n (t ∷ ts) = omega arith

-- Where n brackets are open, the sink has counted n, or its maximum is past counting.
abbrev IsNested : ℕ → Depth → Type 0
IsNested n depth = (depth.now ≡ n) ⊎ (depth.most ≡ 2 ^ 64 - 1)

next_nested : (n : ℕ) (depth : Depth) (t : Lexeme) → IsNested n depth → depth.now ≤ depth.most → depth.most < 2 ^ 64 → (depth.most ≡ 2 ^ 64 - 1) ⊎ (depth.most < 2 ^ 64 - 1) → IsNested (open_after n t) (nested depth t)
next_nested n depth t known within fits (inl full) = inr (omega arith)
next_nested n depth t (inr full) within fits (inr room) = inr (omega arith)
next_nested n depth t (inl is) within fits (inr room) = inl (omega (arith, ap (λ k. open_after k t) is, opens_one n t))

most_nested : (n most : ℕ) (depth : Depth) (t : Lexeme) (ts : Tokens) → IsNested n depth → depth.now ≤ depth.most → depth.most < 2 ^ 64 → most ≡ min (max (nested depth t).most (deepest_from (open_after n t) ts)) (2 ^ 64 - 1) → most ≡ min (max depth.most (deepest_from n (t ∷ ts))) (2 ^ 64 - 1)
most_nested n most depth t ts (inl is) within fits rest = omega (arith, rest, ap (λ k. open_after k t) is, at_least (open_after n t) ts)
most_nested n most depth t ts (inr full) within fits rest = omega (arith, rest)

fold_nested : (n : ℕ) (depth : Depth) (ts : Tokens) → IsNested n depth → depth.now ≤ depth.most → depth.most < 2 ^ 64 → (fold nested depth ts).most ≡ min (max depth.most (deepest_from n ts)) (2 ^ 64 - 1)
fold_nested n depth [] (inl is) within fits = omega arith
fold_nested n depth [] (inr full) within fits = omega arith
fold_nested n depth (t ∷ ts) known within fits =
    most_nested n _ depth t ts known within fits (fold_nested (open_after n t) (nested depth t) ts (next_nested n depth t known within fits (eq-or-lt_of_le (omega arith))) (omega arith) (omega arith))

pub greatest_nested : (depth : Depth) (ts : Tokens) → depth.now ≡ 0 → depth.most ≡ 0 → (fold nested depth ts).most ≡ min (deepest ts) (2 ^ 64 - 1)
greatest_nested depth ts none never = omega (arith, fold_nested 0 depth ts (inl none) (omega arith) (omega arith))
