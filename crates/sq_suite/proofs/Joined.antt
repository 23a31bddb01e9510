-- The lines of a text, one after the other.
use Rattle.std.proofs.Common.{◌≡◌, ◌∙◌, List, [], ◌∷◌, ◌++◌, ap, append_assoc, ℕ, sym}
use Rattle.std.proofs.lemmas.List.{append-nil}
use Rattle.std.specs.Borrow.{Bor}
use Rattle.sq_suite.specs.Lines.{joined}

joined_more : (lines : List (Bor (List ℕ))) (line : Bor (List ℕ)) → joined (lines ++ line ∷ []) ≡ joined lines ++ line.now
joined_more [] line = append-nil line.now
joined_more (first ∷ lines) line = ap (λ text. first.now ++ text) (joined_more lines line) ∙ sym (append_assoc first.now (joined lines) line.now)

pub lines_next : (lines lines' : List (Bor (List ℕ))) (line : Bor (List ℕ)) (rest rest' text : List ℕ) → lines' ≡ lines ++ line ∷ [] → rest ≡ line.now ++ rest'
    → joined lines ++ rest ≡ text → joined lines' ++ rest' ≡ text
lines_next lines lines' line rest rest' text pushed split h =
    ap (λ l. l ++ rest') (ap joined pushed ∙ joined_more lines line)
    ∙ (append_assoc (joined lines) line.now rest' ∙ (sym (ap (λ l. joined lines ++ l) split) ∙ h))
