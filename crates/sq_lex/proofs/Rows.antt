-- A row of separators and tokens, piece by piece.
use Rattle.std.proofs.Common.{◌≡◌, ℕ, ◌+◌, List, [], ◌∷◌, ◌++◌, length, drop, sym, subst, ap}
use Rattle.sq_lex.specs.declared.lexeme.Lexeme.{Lexeme}
use Rattle.sq_lex.specs.declared.piece.Piece.{Piece}
use Rattle.sq_lex.specs.declared.piece.Piece.TheVariants as piece
use Rattle.sq_lex.specs.declared.token.Token.{Token}
use Rattle.sq_lex.specs.Spelling.{IsLongest, IsSeparator, IsSpelled}
use Rattle.sq_lex.specs.Row.{IsRow, nothing, separator, token}

pub after_separator : (bytes : List ℕ) (p : Piece) (at size : ℕ) (old new : List Token) → IsSpelled bytes p → p ≡ piece.Separator size → new ≡ old → (text : List ℕ) → drop at text ≡ bytes → IsRow text at old → IsRow text (at + size) new
after_separator bytes p at size old new spelled is same text left row =
    let h : IsSeparator bytes size = subst (IsSpelled bytes) is spelled in
    subst (IsRow text (at + size)) (sym same) (separator at size old row (subst (λ bs. IsSeparator bs size) (sym left) h))

pub after_token : (bytes : List ℕ) (p : Piece) (at size : ℕ) (l : Lexeme) (t : Token) (old new : List Token) → IsSpelled bytes p → p ≡ piece.Token size l → t.lexeme ≡ l → t.start ≡ at → new ≡ old ++ t ∷ [] → (text : List ℕ) → drop at text ≡ bytes → IsRow text at old → IsRow text (at + size) new
after_token bytes p at size l t old new spelled is says starts pushed text left row =
    let h : IsLongest bytes size l = subst (IsSpelled bytes) is spelled in
    let here : IsLongest (drop at text) size t.lexeme = subst (λ m. IsLongest (drop at text) size m) (sym says) (subst (λ bs. IsLongest bs size l) (sym left) h) in
    subst (IsRow text (at + size)) (sym pushed) (token at size old t row here starts)

-- the whole text
pub row_start : (text : List ℕ) (at : ℕ) (tokens : List Token) → at ≡ 0 → tokens ≡ [] → IsRow text at tokens
row_start text at tokens none empty = subst (λ n. IsRow text n tokens) (sym none) (subst (IsRow text 0) (sym empty) nothing)

pub drop_none : (text : List ℕ) (at : ℕ) → at ≡ 0 → drop at text ≡ text
drop_none text at none = ap (λ n. drop n text) none

pub row_to_end : (text rest : List ℕ) (at : ℕ) (tokens : List Token) → IsRow text at tokens → at ≡ length text → IsRow text (length text) tokens
row_to_end text rest at tokens row end = subst (λ n. IsRow text n tokens) end row
