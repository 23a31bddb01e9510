-- What texts spell.
use Rattle.std.specs.Prelude.{◌≡◌, ◌≤◌, ℕ, List, [], ◌∷◌, map, Ok, Vec, ⊤}
use Rattle.std.specs.declared.alloc.Global.{Global}
use Rattle.sq_lex.specs.declared.lexeme.Lexeme.{Lexeme}
use Rattle.sq_lex.specs.declared.token.Token.{Token}
use Rattle.sq_lex.specs.Token.{lexemes}
use Rattle.sq_lex.specs.Reading.{reading}
use Rattle.sq_grammar.specs.declared.brackets.TheConstants.{MAX_DEPTH}
use Rattle.sq_meaning.specs.Report.{Bytes}

-- the bytes of each text
abbrev pub texts : List (Vec ℕ Global) → List Bytes
texts vectors = map (λ v. v.items) vectors

-- a text whose tokens are these
pub record Spells (text : Bytes) (lexed : List Lexeme) : Type 0 where
  pub tokens : List Token
  pub read : reading text ≡ Ok tokens
  pub same : lexemes tokens ≡ lexed

-- a text that spells a tree with at most MAX_DEPTH round brackets open at once
pub record SpellsTree {T : Type 0} (tokens_of : T → List Lexeme) (depth_of : T → ℕ) (text : Bytes)
    (tree : T) : Type 0 where
  pub spelled : Spells text (tokens_of tree)
  pub shallow : depth_of tree ≤ MAX_DEPTH

-- each text spells the tree at its place
abbrev pub AllSpell : {T : Type 0} → (T → List Lexeme) → (T → ℕ) → List Bytes → List T → Type 0
AllSpell tokens_of depth_of [] [] = ⊤
AllSpell tokens_of depth_of (text ∷ others) (tree ∷ trees) =
    SpellsTree tokens_of depth_of text tree × AllSpell tokens_of depth_of others trees
AllSpell tokens_of depth_of _ _ = ⊥

-- trees that the texts spell
abbrev pub SomeTrees : {T : Type 0} → (T → List Lexeme) → (T → ℕ) → List Bytes → Type 0
SomeTrees {T = T} tokens_of depth_of all = (trees : List T) × AllSpell tokens_of depth_of all trees
