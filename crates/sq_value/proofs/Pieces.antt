-- A text that can be cut is the pieces joined, and the other way round.
use Rattle.std.proofs.Common.{◌≡◌, ℕ, ◌&&◌, ◌||◌, Bool, true, false, List, [], ◌∷◌, ◌++◌, map, refl, sym, ap, ◌∙◌, ◌↔◌, IsTrue}
use Rattle.std.proofs.lemmas.Bool.{and_parts, or_right}
use Rattle.std.specs.List.{list_any}
use Rattle.sq_value.specs.Pattern.{can_be_cut, splits, piece_fits, joined, AllFit, CanBeCut}
use Rattle.sq_value.specs.declared.pattern.Item.{Item}
use Rattle.sq_value.proofs.Cutting.{any_map}

abbrev Cut : (List ℕ × List ℕ → Bool) → List ℕ → Type 0
Cut f text = (front : List ℕ) × (rest : List ℕ) × (front ++ rest ≡ text) × (f (front, rest) ≡ true)

abbrev onto : ℕ → List ℕ × List ℕ → List ℕ × List ℕ
onto c cut = (c ∷ cut.0, cut.1)

cut_by : (f : List ℕ × List ℕ → Bool) (c : ℕ) (cs : List ℕ) (b : Bool) → f ([], c ∷ cs) ≡ b → (b || list_any (λ cut. f (onto c cut)) (splits cs)) ≡ true
    → (list_any (λ cut. f (onto c cut)) (splits cs) ≡ true → Cut (λ cut. f (onto c cut)) cs) → Cut f (c ∷ cs)
cut_by f c cs true e h go = ([], c ∷ cs, refl, e)
cut_by f c cs false e h go = let later = go h in (c ∷ later.0, later.1, ap (λ t. c ∷ t) (later.2), later.3)

only : (b : Bool) → (b || false) ≡ true → b ≡ true
only true h = refl
only false h = h

cut_from_any : (f : List ℕ × List ℕ → Bool) (text : List ℕ) → list_any f (splits text) ≡ true → Cut f text
cut_from_any f [] h = ([], [], refl, only (f ([], [])) h)
cut_from_any f (c ∷ cs) h =
    cut_by f c cs (f ([], c ∷ cs)) refl (ap (λ b. f ([], c ∷ cs) || b) (sym (any_map f (onto c) (splits cs))) ∙ h) (cut_from_any (λ cut. f (onto c cut)) cs)

any_from_cut : (f : List ℕ × List ℕ → Bool) (front rest : List ℕ) → f (front, rest) ≡ true → list_any f (splits (front ++ rest)) ≡ true
any_from_cut f [] [] h = ap (λ b. b || false) h
any_from_cut f [] (c ∷ cs) h = ap (λ b. b || list_any f (map (onto c) (splits cs))) h
any_from_cut f (c ∷ front) rest h =
    ap (λ b. f ([], c ∷ (front ++ rest)) || b) (any_map f (onto c) (splits (front ++ rest)) ∙ any_from_cut (λ cut. f (onto c cut)) front rest h)
    ∙ or_right (f ([], c ∷ (front ++ rest))) true refl

pieces_from : (items : List Item) (text : List ℕ) → can_be_cut items text ≡ true → CanBeCut items text
pieces_from [] [] h = ([], refl, tt)
pieces_from [] (c ∷ cs) h = cc
pieces_from (i ∷ items) text h =
    let cut = cut_from_any (λ cut. piece_fits i (cut.0) && can_be_cut items (cut.1)) text h in
    let both = and_parts (piece_fits i (cut.0)) (can_be_cut items (cut.1)) (cut.3) in
    let later = pieces_from items (cut.1) (both.1) in
    (cut.0 ∷ later.0, ap (λ t. cut.0 ++ t) (later.1) ∙ cut.2, (both.0, later.2))

cut_when_joined : (items : List Item) (pieces : List (List ℕ)) → AllFit items pieces → can_be_cut items (joined pieces) ≡ true
cut_when_joined [] [] fit = refl
cut_when_joined [] (p ∷ ps) fit = absurd fit
cut_when_joined (i ∷ items) [] fit = absurd fit
cut_when_joined (i ∷ items) (p ∷ ps) fit =
    any_from_cut (λ cut. piece_fits i (cut.0) && can_be_cut items (cut.1)) p (joined ps) (λ k. fit.0 k && cut_when_joined items ps (fit.1) k)

pub cuts_are_pieces : (items : List Item) (text : List ℕ) → IsTrue (can_be_cut items text) ↔ CanBeCut items text
cuts_are_pieces items text = (pieces_from items text, λ pieces. ap (can_be_cut items) (sym (pieces.1)) ∙ cut_when_joined items (pieces.0) (pieces.2))
