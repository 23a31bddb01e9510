-- A text that is refused as Unexpected stands at the first token with which no text of its kind goes on.
use Rattle.std.proofs.Common.{◌≡◌, ℕ, zero, suc, ◌+◌, ◌-◌, ◌<◌, Bool, true, false, cond, List, [], ◌∷◌, ◌++◌, length, take, slice_get, Some, Result, Ok, Err, nat_lt, refl, sym, ◌∙◌, ap, subst, arith, lit≤}
use Rattle.std.proofs.lemmas.Bool.{ltb-true}
use Rattle.std.proofs.lemmas.List.{length-map}
use Rattle.sq_lex.specs.Position.{position}
use Rattle.sq_lex.specs.Reading.{reading}
use Rattle.sq_lex.specs.Token.{lexemes}
use Rattle.sq_lex.specs.declared.fault.LexFault.{LexFault}
use Rattle.sq_lex.specs.declared.fault.LexFaultKind.{LexFaultKind}
use Rattle.sq_lex.specs.declared.lexeme.Lexeme.{Lexeme}
use Rattle.sq_lex.specs.declared.token.Token.{Token}
use Rattle.sq_tree.specs.Schema.{schema_tokens, schema_depth}
use Rattle.sq_tree.specs.Module.{module_tokens, module_depth}
use Rattle.sq_tree.specs.Script.{script_tokens, script_depth}
use Rattle.sq_grammar.specs.declared.brackets.TheConstants.{MAX_DEPTH}
use Rattle.sq_grammar.specs.Brackets.{is_too_deep}
use Rattle.sq_grammar.specs.Reading.{Outcome, Parser, whole}
use Rattle.sq_meaning.specs.Report.{Bytes}
use Rattle.sq_perform.specs.Read.{ReadText, module_rule, of_outcome, of_tokens, read_text, refusal_of, schema_rule, script_rule, start_of}
use Rattle.sq_perform.specs.Refusal.{IsRefused, Grammar, OneRefused, matter}
use Rattle.sq_perform.specs.declared.refusal.Refusal.{Refusal}
use Rattle.sq_perform.specs.declared.refusal.RefusalName.{RefusalName}
use Rattle.sq_perform.specs.declared.refusal.RefusalName.TheVariants.{EndOfText, Lexical, TooDeep, Unexpected}
use Rattle.sq_perform.specs.declared.refusal.RunFault.{RunFault}
use Rattle.sq_perform.specs.declared.refusal.RunFault.TheVariants.{SchemaRefused, ModuleRefused, ScriptRefused, Write, NoMemory}
use Rattle.sq_run.specs.Refused.{RefusedText}
use Rattle.sq_run.specs.Unexpected.{IsFirstWrong, NoTextGoesOn, UnexpectedToken}
use Rattle.sq_run.proofs.Texts.ReadTexts.{IsExact, modules_exact, schemas_exact, scripts_exact}
use Rattle.sq_grammar.proofs.Sound.ModuleSound.{module_sound}
use Rattle.sq_grammar.proofs.Sound.ScriptSound.{script_sound}
use Rattle.sq_run.proofs.Tokens.BeginsTree.{BeginsTree, begins_tree}
use Rattle.sq_run.proofs.Tokens.ModuleViable as viable
use Rattle.sq_run.proofs.Tokens.ScriptViable as script_parts
use Rattle.sq_run.proofs.Tokens.GoesNoFurther.{StopsForGood, goes_no_further, stops_for_good}
use Rattle.sq_run.proofs.Tokens.ModuleFinal.{modules as module_texts}
use Rattle.sq_run.proofs.Tokens.SchemaTextFinal.{schema_stops}
use Rattle.sq_run.proofs.Tokens.SchemaTextViable.{schema_begins}
use Rattle.sq_run.proofs.Tokens.ScriptFinal.{scripts}

refused_is : {A : Type 0} (a b : Refusal) → (let r : Result A Refusal = Err a in let s : Result A Refusal = Err b in r ≡ s) → a ≡ b
refused_is a b e = cc

never_read : {A : Type 0} (x : A) (b : Refusal) → (let r : Result A Refusal = Ok x in let s : Result A Refusal = Err b in r ≡ s) → ⊥
never_read x b e = cc

names_differ : (name : RefusalName) → name ≡ Unexpected → (name ≡ EndOfText → ⊥) × (name ≡ TooDeep → ⊥)
names_differ name e = (λ i. end (sym i ∙ e), λ i. deep (sym i ∙ e))
  where
    end : EndOfText ≡ Unexpected → ⊥
    end i = cc

    deep : TooDeep ≡ Unexpected → ⊥
    deep i = cc

-- an element at each index of a list
element_at : {A : Type 0} (xs : List A) (i : ℕ) → i < length xs → (x : A) × (slice_get xs i ≡ Some x)
element_at [] i h = absurd (omega arith)
element_at (x ∷ xs) zero h = (x, refl)
element_at (x ∷ xs) (suc i) h = element_at xs i (omega arith)

-- the token, and where the reading of the text is stuck
pub record Found {T : Type 0} (rule : Parser T) (tokens_of : T → List Lexeme) (all : List Bytes) (refusal : Refusal) : Type 0 where
  pub wrong : NoTextGoesOn tokens_of all refusal
  pub left : ℕ
  pub outcome : whole rule (lexemes wrong.token_there.tokens) ≡ Err left
  pub number_is : wrong.number ≡ length (lexemes wrong.token_there.tokens) - left

module _ {T : Type 0} (rule : Parser T) (tokens_of : T → List Lexeme) (depth_of : T → ℕ) (exact : IsExact rule tokens_of depth_of) (final : StopsForGood rule) where
  module _ (all : List Bytes) (text : Bytes) (refusal : Refusal) (there : slice_get all refusal.text ≡ Some text) (unexpected : refusal.what ≡ Unexpected) where
    module _ (tokens : List Token) (read : reading text ≡ Ok tokens) (left : ℕ) (outcome : whole rule (lexemes tokens) ≡ Err left) where
      -- reading is stuck at a token that is no bracket too many
      at_token : length tokens - left < length tokens → is_too_deep (lexemes tokens) (length tokens - left) ≡ false → refusal_of refusal.text text tokens (length tokens - left) Unexpected ≡ refusal → Found rule tokens_of all refusal
      at_token inside shallow is =
          let e = element_at tokens (length tokens - left) inside in
          let same : length (lexemes tokens) ≡ length tokens = length-map tokens (λ token. token.lexeme) in
          record {
            wrong = record {
              text = text;
              there = there;
              number = length tokens - left;
              token = e.0;
              token_there = record { tokens = tokens; read = read; there = e.1 };
              stands = record {
                line = ap (λ r. r.line) (sym is) ∙ ap (λ o. (position text (start_of o)).line) e.1;
                column = ap (λ r. r.column) (sym is) ∙ ap (λ o. (position text (start_of o)).column) e.1;
              };
              no_tree = λ tree others same_tokens.
                  goes_no_further rule tokens_of depth_of exact.takes final (lexemes tokens) left outcome (omega (arith, inside))
                  (ap (λ n. is_too_deep (lexemes tokens) (n - left)) same ∙ shallow) tree others (same_tokens ∙ ap (λ n. take (n - left + 1) (lexemes tokens) ++ others) (sym same));
            };
            left = left;
            outcome = outcome;
            number_is = ap (λ n. n - left) (sym same);
          }

      by_depth : length tokens - left < length tokens → (deep : Bool) → is_too_deep (lexemes tokens) (length tokens - left) ≡ deep → refusal_of refusal.text text tokens (length tokens - left) (cond deep TooDeep Unexpected) ≡ refusal → Found rule tokens_of all refusal
      by_depth inside true deep is = absurd ((names_differ refusal.what unexpected).1 (ap (λ r. r.what) (sym is)))
      by_depth inside false deep is = at_token inside deep is

      by_index : (inside : Bool) → nat_lt (length tokens - left) (length tokens) ≡ inside
          → cond inside (refusal_of refusal.text text tokens (length tokens - left) (cond (is_too_deep (lexemes tokens) (length tokens - left)) TooDeep Unexpected)) (refusal_of refusal.text text tokens (length tokens - 1) EndOfText) ≡ refusal
          → Found rule tokens_of all refusal
      by_index false end is = absurd ((names_differ refusal.what unexpected).0 (ap (λ r. r.what) (sym is)))
      by_index true inside is = by_depth (ltb-true _ _ inside) (is_too_deep (lexemes tokens) (length tokens - left)) refl is

    by_outcome : (tokens : List Token) → reading text ≡ Ok tokens → (outcome : Outcome T) → whole rule (lexemes tokens) ≡ outcome → of_outcome refusal.text text tokens outcome ≡ Err refusal → Found rule tokens_of all refusal
    by_outcome tokens read (Ok x) outcome e = absurd (never_read _ _ e)
    by_outcome tokens read (Err left) outcome e = by_index tokens read left outcome (nat_lt (length tokens - left) (length tokens)) refl (refused_is {A = ReadText T} _ _ e)

    by_tokens : (tokens : Result (List Token) LexFault) → reading text ≡ tokens → of_tokens rule refusal.text text tokens ≡ Err refusal → Found rule tokens_of all refusal
    by_tokens (Err fault) read e = absurd (lexical fault.kind (ap (λ r. r.what) (refused_is {A = ReadText T} _ _ e) ∙ unexpected))
      where
        lexical : (kind : LexFaultKind) → Lexical kind ≡ Unexpected → ⊥
        lexical kind i = cc
    by_tokens (Ok tokens) read e = by_outcome tokens read (whole rule (lexemes tokens)) refl e

    -- the law of a text that is read
    pub misread_token : read_text rule refusal.text text ≡ Err refusal → Found rule tokens_of all refusal
    misread_token e = by_tokens (reading text) refl e

  pub unexpected_token : (all : List Bytes) (refusal : Refusal) → OneRefused rule tokens_of depth_of all refusal → refusal.what ≡ Unexpected → Found rule tokens_of all refusal
  unexpected_token all refusal one unexpected =
      let refused : IsRefused rule tokens_of depth_of one.text refusal Grammar = subst (λ name. IsRefused rule tokens_of depth_of one.text refusal (matter name)) unexpected one.refused in
      misread_token all one.text refusal one.there unexpected refused.0

-- where the tokens before it are the beginning of a text
first_wrong : {T : Type 0} (rule : Parser T) (tokens_of : T → List Lexeme) (all : List Bytes) (refusal : Refusal) → ((ts : List Lexeme) (n : ℕ) → whole rule ts ≡ Err n → BeginsTree tokens_of (take (length ts - n) ts)) → Found rule tokens_of all refusal → IsFirstWrong tokens_of all refusal
first_wrong rule tokens_of all refusal begins f =
    let ts : List Lexeme = lexemes f.wrong.token_there.tokens in
    let b = begins ts f.left f.outcome in
    record { wrong = f.wrong; tree = b.tree; others = b.others; begins = b.is ∙ ap (λ n. take n ts ++ b.others) (sym f.number_is) }

module _ (schemas modules : List Bytes) (script : Bytes) where
  pub unexpected_tokens : (fault : RunFault) → RefusedText schemas modules script fault → UnexpectedToken schemas modules script fault
  unfolding RefusedText UnexpectedToken
  unexpected_tokens (SchemaRefused refusal) one = λ e. first_wrong schema_rule schema_tokens schemas refusal schema_begins
      (unexpected_token schema_rule schema_tokens schema_depth schemas_exact (schema_stops MAX_DEPTH (MAX_DEPTH - 1)) schemas refusal one e)
  unexpected_tokens (ModuleRefused refusal) one = λ e. first_wrong module_rule module_tokens modules refusal (begins_tree (viable.modules MAX_DEPTH) (viable.module_starts MAX_DEPTH) module_tokens module_depth (suc MAX_DEPTH) (module_sound (suc MAX_DEPTH) (lit≤ tt)))
      (unexpected_token module_rule module_tokens module_depth modules_exact (stops_for_good (module_texts MAX_DEPTH)) modules refusal one e)
  unexpected_tokens (ScriptRefused refusal) one = λ e. first_wrong script_rule script_tokens (script ∷ []) refusal (begins_tree script_parts.scripts script_parts.script_starts script_tokens script_depth MAX_DEPTH (script_sound MAX_DEPTH (lit≤ tt)))
      (unexpected_token script_rule script_tokens script_depth scripts_exact (stops_for_good scripts) (script ∷ []) refusal one e)
  unexpected_tokens (Write bytes) h = h
  unexpected_tokens (NoMemory items) h = h
