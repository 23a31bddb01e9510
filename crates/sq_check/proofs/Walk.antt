-- A text is walked through once: each part begins after the tokens of the one before it.
use Rattle.std.proofs.Common.{◌≡◌, ◌∙◌, ℕ, ◌+◌, ◌<◌, List, ◌++◌, length, length-append, get_or, ap, arith}
use Rattle.sq_tree.specs.Tree.{Tokens}
use Rattle.sq_tree.specs.Starts.{before_element, tokens_of_first}
use Rattle.sq_tree.specs.declared.schema.SchemaDefinition.{SchemaDefinition}
use Rattle.sq_bound.specs.Known.{KnownTables}
use Rattle.sq_module.proofs.Names.{flat_more}
use Rattle.sq_check.specs.Modules.{counted}
use Rattle.sq_check.specs.Schemas.{all_at, marks_at, schema_marks}

one_more : {A : Type 0} (tokens : A → Tokens) (head : Tokens) (parts : List A) (i : ℕ) (part : A) → i < length parts → part ≡ get_or parts i part
    → length (head ++ tokens_of_first tokens (i + 1) parts) ≡ length (head ++ tokens_of_first tokens i parts) + length (tokens part)
one_more tokens head parts i part lt is =
    let before = tokens_of_first tokens i parts in
    let further : tokens_of_first tokens (i + 1) parts ≡ before ++ tokens part = flat_more tokens parts i part lt is in
    let size : length (head ++ tokens_of_first tokens (i + 1) parts) ≡ length head + length (before ++ tokens part) =
    length-append head (tokens_of_first tokens (i + 1) parts) ∙ ap (λ l. length head + length l) further in
    let now : length (head ++ before) ≡ length head + length before = length-append head before in
    let sum : length (before ++ tokens part) ≡ length before + length (tokens part) = length-append before (tokens part) in
    omega (arith, size, now, sum)

-- the part after this one begins where this one ends; before the first stands a head
pub next_part : {A : Type 0} (tokens : A → Tokens) (head : Tokens) (parts : List A) (i : ℕ) (part : A) (here count next : ℕ) → i < length parts → part ≡ get_or parts i part
    → here ≡ counted (length (head ++ tokens_of_first tokens i parts)) → count ≡ counted (length (tokens part)) → next ≡ counted (here + count)
    → next ≡ counted (length (head ++ tokens_of_first tokens (i + 1) parts))
next_part tokens head parts i part here count next lt is at many more =
    let grown = one_more tokens head parts i part lt is in
    omega (arith, grown, at, many, more)

-- where the next part of a whole begins
pub next_start : {A : Type 0} (tokens : A → Tokens) (head : Tokens) (parts : List A) (start i : ℕ) (part : A) (here count next : ℕ) → i < length parts → part ≡ get_or parts i part
    → here ≡ counted (start + length (head ++ tokens_of_first tokens i parts)) → count ≡ counted (length (tokens part)) → next ≡ counted (here + count)
    → next ≡ counted (start + length (head ++ tokens_of_first tokens (i + 1) parts))
next_start tokens head parts start i part here count next lt is at many more =
    let grown = one_more tokens head parts i part lt is in
    omega (arith, grown, at, many, more)

-- a start that is counted as far as it goes is as good
pub counted_start : (names : KnownTables) (start : ℕ) (s : SchemaDefinition) → schema_marks names (counted start) s ≡ schema_marks names start s
counted_start names start s = λ i. all_at (λ place e. marks_at names s.authorization (twice start (before_element s place) i) e) 0 s.elements
  where
    twice : (a b : ℕ) → counted (counted a + b) ≡ counted (a + b)
    twice a b = omega arith
