-- Texts spell at most one tree each.
use Rattle.std.proofs.Common.{◌≡◌, ℕ, List, [], ◌∷◌, refl, sym, ap, ap₂, ◌∙◌}
use Rattle.sq_lex.specs.Token.{lexemes}
use Rattle.sq_lex.specs.declared.lexeme.Lexeme.{Lexeme}
use Rattle.sq_tree.specs.Schema.{schema_tokens, schema_depth}
use Rattle.sq_tree.specs.Module.{module_tokens, module_depth}
use Rattle.sq_tree.specs.declared.«module».ModuleText.{ModuleText}
use Rattle.sq_tree.specs.declared.schema.SchemaText.{SchemaText}
use Rattle.sq_grammar.proofs.Unique.OneModule.{one_module_text}
use Rattle.sq_grammar.proofs.Unique.OneSchema.{one_schema_text}
use Rattle.sq_meaning.specs.Report.{Bytes}
use Rattle.sq_perform.specs.Texts.{AllSpell, SpellsTree}

module _ {T : Type 0} (tokens_of : T → List Lexeme) (depth_of : T → ℕ) (one : (a b : T) → tokens_of a ≡ tokens_of b → a ≡ b) where
  of_text : (text : Bytes) (a b : T) → SpellsTree tokens_of depth_of text a → SpellsTree tokens_of depth_of text b → a ≡ b
  of_text text a b p q =
      let same : p.spelled.tokens ≡ q.spelled.tokens = cc (p.spelled.read, q.spelled.read) in
      one a b (sym p.spelled.same ∙ ap lexemes same ∙ q.spelled.same)

  of_texts : (all : List Bytes) (xs ys : List T) → AllSpell tokens_of depth_of all xs → AllSpell tokens_of depth_of all ys → xs ≡ ys
  of_texts [] [] [] p q = refl
  of_texts [] [] (y ∷ ys) p q = absurd q
  of_texts [] (x ∷ xs) ys p q = absurd p
  of_texts (t ∷ all) [] ys p q = absurd p
  of_texts (t ∷ all) (x ∷ xs) [] p q = absurd q
  of_texts (t ∷ all) (x ∷ xs) (y ∷ ys) p q = ap₂ (λ z zs. z ∷ zs) (of_text t x y p.0 q.0) (of_texts all xs ys p.1 q.1)

pub one_schemas : (all : List Bytes) (xs ys : List SchemaText) → AllSpell schema_tokens schema_depth all xs → AllSpell schema_tokens schema_depth all ys → xs ≡ ys
one_schemas = of_texts schema_tokens schema_depth one_schema_text

pub one_modules : (all : List Bytes) (xs ys : List ModuleText) → AllSpell module_tokens module_depth all xs → AllSpell module_tokens module_depth all ys → xs ≡ ys
one_modules = of_texts module_tokens module_depth one_module_text
