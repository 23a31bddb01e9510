-- The first parts of a text, and the schema after them.
use Rattle.std.proofs.Common.{◌≡◌, ℕ, zero, suc, ◌+◌, ◌-◌, ◌<◌, ◌≤◌, length, List, [], ◌∷◌, drop, get_or, refl, sym, ◌∙◌, ap, arith, length-append, drop-cons}
use Rattle.sq_tree.specs.Tree.{Tokens}
use Rattle.sq_tree.specs.Starts.{tokens_of_first, before_element, before_element_of_first}
use Rattle.sq_tree.specs.declared.schema.SchemaDefinition.{SchemaDefinition}

pub none_of_first : {A : Type 0} (tokens : A → Tokens) (n : ℕ) (parts : List A) → n ≡ 0 → length (tokens_of_first tokens n parts) ≡ 0
none_of_first tokens zero parts none = refl
none_of_first tokens (suc n) parts none = absurd (omega arith)

pub one_and_more : {A : Type 0} (tokens : A → Tokens) (n : ℕ) (part : A) (parts : List A) → 0 < n → length (tokens_of_first tokens n (part ∷ parts)) ≡ length (tokens part) + length (tokens_of_first tokens (n - 1) parts)
one_and_more tokens zero part parts some = absurd (omega arith)
one_and_more tokens (suc n) part parts some =
    let less : suc n - 1 ≡ n = omega arith in
    rw less (length-append (tokens part) (tokens_of_first tokens n parts))

-- The tokens before an element of a schema that is not the first one.
pub before_later : (first : SchemaDefinition) (rest : List SchemaDefinition) (n element : ℕ) (s : SchemaDefinition) → 0 < n → n - 1 < length rest → s ≡ get_or rest (n - 1) s → before_element_of_first (drop n (first ∷ rest)) element ≡ before_element s element
before_later first rest zero element s some within is = absurd (omega arith)
before_later first rest (suc n) element s some within is =
    let less : suc n - 1 ≡ n = omega arith in
    let there : n < length rest = omega arith in
    ap (λ ss. before_element_of_first ss element) (drop-cons rest n s there) ∙ ap (λ t. before_element t element) (sym (rw less at is))

pub before_past : (first : SchemaDefinition) (rest : List SchemaDefinition) (n element : ℕ) → 0 < n → length rest ≤ n - 1 → before_element_of_first (drop n (first ∷ rest)) element ≡ 0
before_past first rest zero element some past = absurd (omega arith)
before_past first rest (suc n) element some past = by rest n (omega arith)
  where
    by : (ss : List SchemaDefinition) (k : ℕ) → length ss ≤ k → before_element_of_first (drop k ss) element ≡ 0
    by [] zero h = refl
    by [] (suc k) h = refl
    by (s ∷ ss) zero h = absurd (omega arith)
    by (s ∷ ss) (suc k) h = by ss k (omega arith)
