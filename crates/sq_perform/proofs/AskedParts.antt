-- What a script asks for whose parts, each of whole lines, are read one after the other.
use Rattle.std.proofs.Common.{◌≡◌, Bool, true, ℕ, ◌+◌, ◌-◌, ◌<◌, ◌≤◌, List, [], ◌∷◌, ◌++◌, All, length, take, drop, refl, sym, ap, subst, ◌∙◌, arith, append_assoc, inl, inr, Ok}
use Rattle.std.proofs.Math.Seq.{take-add}
use Rattle.std.proofs.lemmas.List.{append-nil, length-drop, map-append, take_all}
use Rattle.std.proofs.lemmas.List.Elements.{All-append, All-nil}
use Rattle.sq_lex.specs.Reading.{reading}
use Rattle.sq_lex.specs.Token.{lexemes}
use Rattle.sq_lex.specs.declared.lexeme.Lexeme.{Lexeme}
use Rattle.sq_tree.specs.Script.{script_tokens}
use Rattle.sq_grammar.specs.declared.brackets.TheConstants.{MAX_DEPTH}
use Rattle.sq_meaning.specs.Report.{Bytes}
use Rattle.sq_meaning.specs.Run.{item_of_script}
use Rattle.sq_session.specs.Session.{Session}
use Rattle.sq_perform.specs.Action.{item_of}
use Rattle.sq_perform.specs.Asked.{AreAsked}
use Rattle.sq_perform.specs.Items.{IsTaken}
use Rattle.sq_perform.specs.Lines.{AreLines}
use Rattle.sq_perform.specs.Steps.{IsPrepared}
use Rattle.sq_perform.specs.Texts.{Spells}
use Rattle.sq_perform.specs.declared.action.Action.{Action}
use Rattle.sq_perform.proofs.LinesRead.{lines_joined}
use Rattle.sq_perform.proofs.ScriptJoined.{joined, shallow_joined, tokens_joined}

-- a script without items
pub none_asked : (s : Session) → AreAsked s [] []
unfolding reading
none_asked s = record {
  tree = record { items = [] };
  spells = record { spelled = record { tokens = []; read = refl; same = refl }; shallow = omega arith };
  taken = All-nil (IsTaken s);
  are_items = refl;
}

-- nothing, and then a text
spells_after : (one two : Bytes) (a b : List Lexeme) → AreLines one → Spells one a → Spells two b → Spells (one ++ two) (a ++ b)
unfolding reading
spells_after one two a b (inl e) first second =
    let empty : Ok first.tokens ≡ Ok [] = sym first.read ∙ ap reading e in
    let none : first.tokens ≡ [] = cc in
    let apart : a ≡ [] = sym first.same ∙ ap lexemes none in
    subst (λ t. Spells (t ++ two) (a ++ b)) (sym e) (subst (λ l. Spells two (l ++ b)) (sym apart) second)
spells_after one two a b (inr e) first second =
    let begins = subst (λ t. Spells t a) e.is first in
    let together = lines_joined e.before two a b begins second in
    let same : one ++ two ≡ e.before ++ 10 ∷ two = ap (λ t. t ++ two) e.is ∙ append_assoc e.before (10 ∷ []) two in
    subst (λ t. Spells t (a ++ b)) (sym same) together

pub asked_more : (s : Session) (one two : Bytes) (a b : List Action) → AreLines one → AreAsked s one a → AreAsked s two b → AreAsked s (one ++ two) (a ++ b)
asked_more s one two a b lines first second =
    let whole = joined first.tree second.tree in
    record {
      tree = whole;
      spells = record {
        spelled = subst (Spells (one ++ two)) (sym (tokens_joined first.tree second.tree))
            (spells_after one two (script_tokens first.tree) (script_tokens second.tree) lines first.spells.spelled second.spells.spelled);
        shallow = shallow_joined MAX_DEPTH first.tree second.tree first.spells.shallow second.spells.shallow;
      };
      taken = All-append (IsTaken s) first.tree.items second.tree.items first.taken second.taken;
      are_items = map-append (item_of s.procedures s.tables) a b ∙ (λ i. first.are_items i ++ second.are_items i)
          ∙ sym (map-append item_of_script first.tree.items second.tree.items);
    }

-- ---- one part more

pub rest_of : (text : Bytes) (at : ℕ) → take (length text - at) (drop at text) ≡ drop at text
rest_of text at = let left = length-drop at text in take_all (length text - at) (drop at text) (omega (arith, left))

pub size_of : (at size : ℕ) → at + size - at ≡ size
size_of at size = omega arith

lines_after : (one two : Bytes) → AreLines one → AreLines two → AreLines (one ++ two)
lines_after one two (inl e) second = subst (λ t. AreLines (t ++ two)) (sym e) second
lines_after one two (inr e) (inl none) = inr (record { before = e.before; is = ap (λ t. one ++ t) none ∙ append-nil one ∙ e.is })
lines_after one two (inr e) (inr f) = inr (record { before = one ++ f.before; is = ap (λ t. one ++ t) f.is ∙ sym (append_assoc one f.before (10 ∷ [])) })

-- these actions are what the first bytes of a script ask for, which are whole lines
pub record Begun (s : Session) (script : Bytes) (at : ℕ) (actions : List Action) : Type 0 where
  pub asked : AreAsked s (take at script) actions
  pub prepared : All (IsPrepared s) actions
  pub lines : at < length script → AreLines (take at script)
  pub within : at ≤ length script

pub part_added : (s : Session) (script rest part : Bytes) (at size : ℕ) (before after : List Action) (taken : Bool) → at < length script → (0 < size) × (size ≤ length rest)
    → (size < length rest → AreLines (take size rest)) → AreLines (take at script) → AreAsked s (take at script) before → All (IsPrepared s) before
    → (taken ≡ true → (more : List Action) × AreAsked s part more × All (IsPrepared s) more × (after ≡ before ++ more)) → taken ≡ true
    → rest ≡ drop at script → part ≡ take size (drop at script) → Begun s script (at + size) after
part_added s script rest part at size before after taken lt sizes ends lines asked prepared added is_true is_rest is_part =
    let (more, here, ready, are) = added is_true in
    let whole = take-add at size script in
    let left = length-drop at script in
    let long : length rest ≡ length (drop at script) = ap length is_rest in
    record {
      asked = subst (λ t. AreAsked s t after) (sym whole) (subst (AreAsked s (take at script ++ take size (drop at script))) (sym are)
          (asked_more s (take at script) (take size (drop at script)) before more lines asked (subst (λ t. AreAsked s t more) is_part here)));
      prepared = subst (All (IsPrepared s)) (sym are) (All-append (IsPrepared s) before more prepared ready);
      lines = λ h. subst AreLines (sym whole) (lines_after (take at script) (take size (drop at script)) lines
          (subst (λ t. AreLines (take size t)) is_rest (ends (omega (arith, h, left, long)))));
      within = let most = sizes.1 in omega (arith, lt, most, left, long);
    }
