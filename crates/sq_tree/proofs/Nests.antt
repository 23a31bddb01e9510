-- Lists of tokens that close the brackets that they open.
use Rattle.std.proofs.Common.{◌≡◌, ℕ, ◌+◌, ◌-◌, ◌≤◌, max, Bool, true, false, List, [], ◌∷◌, ◌++◌, map, Option, Some, None, refl, sym, ◌∙◌, ap, subst, arith}
use Rattle.std.specs.Prelude.{fold}
use Rattle.std.specs.List.{flat_map}
use Rattle.std.proofs.lemmas.List.Sums.{fold-append}
use Rattle.sq_lex.specs.declared.lexeme.Lexeme.{Lexeme}
use Rattle.sq_lex.specs.declared.lexeme.Lexeme.TheVariants as lexeme
use Rattle.sq_lex.specs.declared.symbol.Symbol.TheVariants as symbol
use Rattle.sq_tree.specs.Tree.{Tokens, if_written, optional, bracketed}
use Rattle.sq_tree.specs.List.{comma_then, comma_tokens}
use Rattle.sq_tree.specs.Brackets.{open_after, deepest_from, deepest}
use Rattle.sq_tree.proofs.TreeDepth.{optional_depth, greatest}
use Rattle.sq_tree.proofs.ListDepth.{comma_depth}
use Rattle.sq_tree.specs.declared.list.CommaList.{CommaList}

-- the brackets that the tokens open are closed in them, and at most d are open at once
pub record Nests (ts : Tokens) (d : ℕ) : Type 0 where
  pub closed : (n : ℕ) → fold open_after n ts ≡ n
  pub deep : (n : ℕ) → deepest_from n ts ≡ n + d

-- a token that is no bracket
abbrev pub IsPlain : Lexeme → Type 0
IsPlain t = (n : ℕ) → open_after n t ≡ n

-- the greatest number of brackets open at once is the d
pub nests-deepest : {ts : Tokens} {d : ℕ} → Nests ts d → deepest ts ≡ d
nests-deepest h = omega (arith, h.deep 0)

-- equal tokens nest equally deep
pub nests-is : {ts us : Tokens} {d e : ℕ} → Nests ts e → us ≡ ts → d ≡ e → Nests us d
nests-is {us = us} {e = e} h same deep = subst (λ d. Nests us d) (sym deep) (subst (λ vs. Nests vs e) (sym same) h)

pub nests-as : {ts : Tokens} {e d : ℕ} → Nests ts e → e ≡ d → Nests ts d
nests-as {ts = ts} h is = subst (λ d. Nests ts d) is h

pub nests-none : Nests [] 0
nests-none = record { closed = λ n. refl; deep = λ n. omega arith }

pub nests-plain : {ts : Tokens} {d : ℕ} (t : Lexeme) → IsPlain t → Nests ts d → Nests (t ∷ ts) d
nests-plain {ts = ts} {d = d} t plain h = record {
  closed = λ n. ap (λ k. fold open_after k ts) (plain n) ∙ h.closed n;
  deep = λ n. omega (arith, ap (λ k. deepest_from k ts) (plain n), h.deep n);
}

at_least : (n : ℕ) (ts : Tokens) → n ≤ deepest_from n ts
at_least n [] = omega arith
at_least n (t ∷ ts) = omega arith

pub deepest_from-append : (n : ℕ) (xs ys : Tokens) → deepest_from n (xs ++ ys) ≡ max (deepest_from n xs) (deepest_from (fold open_after n xs) ys)
deepest_from-append n [] ys = omega (arith, at_least n ys)
deepest_from-append n (x ∷ xs) ys = omega (arith, deepest_from-append (open_after n x) xs ys)

pub nests-append : {xs ys : Tokens} {d e : ℕ} → Nests xs d → Nests ys e → Nests (xs ++ ys) (max d e)
nests-append {xs = xs} {ys = ys} {d = d} {e = e} h k = record {
  closed = λ n. fold-append open_after n xs ys ∙ ap (λ m. fold open_after m ys) (h.closed n) ∙ k.closed n;
  deep = λ n. omega (arith, deepest_from-append n xs ys, h.deep n, ap (λ m. deepest_from m ys) (h.closed n), k.deep n);
}

pub nests-bracketed : {ts : Tokens} {d : ℕ} → Nests ts d → Nests (bracketed ts) (d + 1)
nests-bracketed {ts = ts} {d = d} h = record {
  closed = λ n. fold-append open_after (n + 1) ts (lexeme.Symbol symbol.Close ∷ []) ∙ ap (λ m. m - 1) (h.closed (n + 1)) ∙ omega arith;
  deep = λ n. omega (arith, deepest_from-append (n + 1) ts (lexeme.Symbol symbol.Close ∷ []), h.deep (n + 1), h.closed (n + 1));
}

pub nests-if_written : {ts : Tokens} (b : Bool) → Nests ts 0 → Nests (if_written b ts) 0
nests-if_written true h = h
nests-if_written false h = nests-none

pub nests-optional : {A : Type 0} (tokens : A → Tokens) (depth : A → ℕ) → ((x : A) → Nests (tokens x) (depth x)) → (o : Option A) → Nests (optional tokens o) (optional_depth depth o)
nests-optional tokens depth h None = nests-none
nests-optional tokens depth h (Some x) = h x

pub nests-row : {A : Type 0} (tokens : A → Tokens) (depth : A → ℕ) → ((x : A) → Nests (tokens x) (depth x)) → (xs : List A) → Nests (flat_map tokens xs) (greatest (map depth xs))
nests-row tokens depth h [] = nests-none
nests-row tokens depth h (x ∷ xs) = nests-append (h x) (nests-row tokens depth h xs)

pub nests-comma : {A : Type 0} (tokens : A → Tokens) (depth : A → ℕ) → ((x : A) → Nests (tokens x) (depth x)) → (list : CommaList A) → Nests (comma_tokens tokens list) (comma_depth depth list)
nests-comma tokens depth h list = nests-append (h list.first) (nests-row (comma_then tokens) depth (λ x. nests-plain _ (λ n. refl) (h x)) list.rest)

-- parts in a row nest as deep as the deepest, where each has the proof of its own nesting beside it
pub nests-proved : {A : Type 0} (tokens : A → Tokens) (depth : A → ℕ) (with : Tokens → Tokens) → ((ts : Tokens) (d : ℕ) → Nests ts d → Nests (with ts) d) → (xs : List ((x : A) × Nests (tokens x) (depth x))) → Nests (flat_map with (map tokens (map (λ e. e.0) xs))) (greatest (map depth (map (λ e. e.0) xs)))
nests-proved tokens depth with h [] = nests-none
nests-proved tokens depth with h (e ∷ es) = nests-append (h _ _ e.1) (nests-proved tokens depth with h es)

-- parts without brackets
pub nests-row0 : {A : Type 0} (tokens : A → Tokens) → ((x : A) → Nests (tokens x) 0) → (xs : List A) → Nests (flat_map tokens xs) 0
nests-row0 tokens h [] = nests-none
nests-row0 tokens h (x ∷ xs) = nests-append (h x) (nests-row0 tokens h xs)

pub nests-comma0 : {A : Type 0} (tokens : A → Tokens) → ((x : A) → Nests (tokens x) 0) → (list : CommaList A) → Nests (comma_tokens tokens list) 0
nests-comma0 tokens h list = nests-append (h list.first) (nests-row0 (comma_then tokens) (λ x. nests-plain _ (λ n. refl) (h x)) list.rest)

pub nests-optional0 : {A : Type 0} (tokens : A → Tokens) → ((x : A) → Nests (tokens x) 0) → (o : Option A) → Nests (optional tokens o) 0
nests-optional0 tokens h None = nests-none
nests-optional0 tokens h (Some x) = h x
