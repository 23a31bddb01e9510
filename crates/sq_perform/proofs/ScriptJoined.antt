-- The tokens and the depth of the items of two scripts.
use Rattle.std.proofs.Common.{◌≡◌, ℕ, ◌≤◌, List, [], ◌∷◌, ◌++◌, map, sym, subst, arith}
use Rattle.std.proofs.lemmas.Grind.{flat_map-append}
use Rattle.sq_tree.specs.Script.{ended_item_tokens, script_depth, script_tokens}
use Rattle.sq_tree.specs.declared.script.ScriptItem.{ScriptItem}
use Rattle.sq_tree.specs.declared.script.ScriptText.{ScriptText}
use Rattle.sq_tree.proofs.ScriptDepth.{script_item_depth}
use Rattle.sq_tree.proofs.ScriptNests.{script_depth-parts}
use Rattle.sq_tree.proofs.TreeDepth.{greatest}

-- the items of both, one after the other
abbrev pub joined : ScriptText → ScriptText → ScriptText
joined s t = record { items = s.items ++ t.items }

pub tokens_joined : (s t : ScriptText) → script_tokens (joined s t) ≡ script_tokens s ++ script_tokens t
tokens_joined s t = flat_map-append ended_item_tokens s.items t.items

greatest_joined : (n : ℕ) (f : ScriptItem → ℕ) (xs ys : List ScriptItem) → greatest (map f xs) ≤ n → greatest (map f ys) ≤ n → greatest (map f (xs ++ ys)) ≤ n
greatest_joined n f [] ys h k = k
greatest_joined n f (x ∷ xs) ys h k =
    let rest = greatest_joined n f xs ys (omega (arith, h)) k in
    omega (arith, h, rest)

pub shallow_joined : (n : ℕ) (s t : ScriptText) → script_depth s ≤ n → script_depth t ≤ n → script_depth (joined s t) ≤ n
shallow_joined n s t h k =
    subst (λ d. d ≤ n) (sym (script_depth-parts (joined s t)))
    (greatest_joined n script_item_depth s.items t.items (subst (λ d. d ≤ n) (script_depth-parts s) h) (subst (λ d. d ≤ n) (script_depth-parts t) k))
