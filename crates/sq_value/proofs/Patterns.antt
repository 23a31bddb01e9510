-- Reading a pattern, item by item.
use Rattle.std.proofs.Common.{◌≡◌, ℕ, Bool, true, false, List, [], ◌∷◌, ap, ◌∙◌, Option, Ok, Err, cond, Result, get_or, arith}
use Rattle.sq_value.specs.Truth.{known}
use Rattle.sq_value.specs.declared.truth.Truth.{Truth}
use Rattle.sq_value.specs.Pattern.{pattern_items, with_item, plain, is_escape, may_be_escaped, cut_as_read}
use Rattle.sq_value.specs.private.Pattern.{AreCuts, AreCutsAsRead}
use Rattle.sq_value.specs.declared.fault.LikeFault.{LikeFault}
use Rattle.sq_value.specs.declared.fault.LikeFault.TheVariants.{EscapeSequence}
use Rattle.sq_value.specs.declared.pattern.Item.{Item}
use Rattle.sq_value.specs.declared.pattern.Item.TheVariants.{This}

pub plain_read : (e : Option ℕ) (c : ℕ) (cs : List ℕ) → is_escape e c ≡ false → pattern_items e (c ∷ cs) ≡ with_item (plain c) (pattern_items e cs)
plain_read e c [] h = ap (λ b. cond b (Err EscapeSequence) (Ok (plain c ∷ []))) h
plain_read e c (d ∷ cs) h = ap (λ b. cond b (cond (may_be_escaped e d) (with_item (This d) (pattern_items e cs)) (Err EscapeSequence)) (with_item (plain c) (pattern_items e (d ∷ cs)))) h

pub escaped_read : (e : Option ℕ) (c d : ℕ) (cs : List ℕ) → is_escape e c ≡ true → may_be_escaped e d ≡ true → pattern_items e (c ∷ d ∷ cs) ≡ with_item (This d) (pattern_items e cs)
escaped_read e c d cs h g =
    ap (λ b. cond b (cond (may_be_escaped e d) (with_item (This d) (pattern_items e cs)) (Err EscapeSequence)) (with_item (plain c) (pattern_items e (d ∷ cs)))) h
    ∙ ap (λ b. cond b (with_item (This d) (pattern_items e cs)) (Err EscapeSequence)) g

pub read_put : (read : Result (List Item) LikeFault) (i : Item) (text : List ℕ) (old new : List Bool) → AreCutsAsRead read text old
    → ((items : List Item) → AreCuts items text old → AreCuts (i ∷ items) text new) → AreCutsAsRead (with_item i read) text new
read_put (Ok items) i text old new are put = put items are
read_put (Err fault) i text old new are put = are

pub cut_is : (read : Result (List Item) LikeFault) (text : List ℕ) (cuts : List Bool) (truth : Truth) → AreCutsAsRead read text cuts → truth ≡ known (get_or cuts 0 false) → Ok truth ≡ cut_as_read text read
cut_is (Ok items) text cuts truth are is = ap Ok (is ∙ ap known (are.each 0 (omega arith)))
cut_is (Err fault) text cuts truth are is = absurd are
