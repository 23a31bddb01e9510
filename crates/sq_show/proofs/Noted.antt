-- A line with a cause that is added to notes.
use Rattle.std.proofs.Common.{◌≡◌, ◌∙◌, ℕ, Bool, true, false, not, List, ◌++◌, append_assoc, ap, codes, Option, Some, None, IfSome, refl, subst, sym}
use Rattle.sq_meaning.specs.declared.status.Status.{Status}
use Rattle.sq_session.specs.Session.{Session}
use Rattle.sq_session.specs.Step.{is_success}
use Rattle.sq_perform.specs.declared.action.CallAction.{CallAction}
use Rattle.sq_cause.specs.Cause.{IsCause, status_of}
use Rattle.sq_show.specs.CauseWords.{without_ends, words_of}
use Rattle.sq_show.specs.Notes.{AddsCause, CauseLines}
use Rattle.sq_show.specs.Words.{IsContinued}
use Rattle.sq_cause.specs.declared.cause.Cause.{Cause}

is_not : (b : Bool) → true ≡ not b → b ≡ false
is_not true e = cc
is_not false e = refl

-- the words that were added
record Added (o : Option (List ℕ)) (before after : List ℕ) : Type 0 where
  pub words : List ℕ
  pub joined : after ≡ before ++ words
  pub known : IfSome o (λ w. words ≡ without_ends w)

added : (o : Option (List ℕ)) (before after : List ℕ) → IsContinued before after → IfSome o (λ w. after ≡ before ++ without_ends w) → Added o before after
added None before after c h = record { words = c.added; joined = c.joined; known = tt }
added (Some w) before after c h = record { words = without_ends w; joined = h; known = refl }

pub added_cause : (call : CallAction) (s : Session) (st : Status) (c : Cause) (before mid after : List ℕ) → true ≡ not (is_success st) → IsCause s call.procedure call.values c → status_of c ≡ st → IsContinued before mid
    → IfSome (words_of c) (λ w. mid ≡ before ++ without_ends w) → after ≡ mid ++ codes "\n" → AddsCause call s st before after
added_cause call s st c before mid after fails is same line words e =
    let more = added (words_of c) before mid line words in
    let lines : List ℕ = more.words ++ codes "\n" in
    record {
      lines = lines;
      cause =
          subst (λ (b : Bool). CauseLines b call s st lines) (sym (is_not (is_success st) fails))
          (record { cause = c; is = is; status_is = same; words = more.words; are = more.known; ended = refl });
      added = e ∙ (ap (λ (l : List ℕ). l ++ codes "\n") more.joined ∙ append_assoc before more.words (codes "\n"));
    }
