-- A text that is refused has no tree of the grammar within the limit of brackets.
use Rattle.std.proofs.Common.{◌≡◌, ℕ, ◌-◌, Bool, true, false, cond, [], length, nat_lt, refl, arith}
use Rattle.std.proofs.lemmas.Bool.{ltb-false}
use Rattle.sq_grammar.specs.Reading.{Tokens, Parser, whole}
use Rattle.sq_grammar.specs.Brackets.{is_too_deep}
use Rattle.sq_grammar.proofs.Taken.Takes.{Takes}
use Rattle.sq_grammar.proofs.Taken.Refused.{refused_deep}
use Rattle.sq_parse.specs.declared.error.ParseError.TheVariants.{Unexpected, TooDeep, EndOfText}
use Rattle.sq_grammar.specs.declared.stop.Stop.{Stop}
use Rattle.sq_grammar.specs.declared.stop.Stop.TheVariants as stop
use Rattle.sq_grammar.specs.Reads.{Stops}
use Rattle.sq_parse.specs.Refusal.{HasNoTree, refusal}
use Rattle.sq_grammar.specs.declared.brackets.TheConstants.{MAX_DEPTH}

-- What a refusal says of the trees, each of which the parser takes unless it nests brackets too deep.
pub no_tree : {T : Type 0} (p : Parser T) (tokens_of : T → Tokens) (depth_of : T → ℕ) → ((tree : T) → Takes p (tokens_of tree) 0 0 (depth_of tree) MAX_DEPTH tree []) → (ts : Tokens) (s : Stop) → Stops (whole p ts) s → HasNoTree tokens_of depth_of ts (refusal ts s)
no_tree p tokens_of depth_of takes ts stop.NoMemory stops = tt
no_tree {T = T} p tokens_of depth_of takes ts (stop.Unfit left) stops = by (nat_lt (length ts - left) (length ts)) (is_too_deep ts (length ts - left)) refl refl
  where
    by : (inside deep : Bool) → nat_lt (length ts - left) (length ts) ≡ inside → is_too_deep ts (length ts - left) ≡ deep → HasNoTree tokens_of depth_of ts (cond inside (cond deep (TooDeep (length ts - left)) (Unexpected (length ts - left))) EndOfText)
    by true true i d = λ tree same. (refused_deep p ts (tokens_of tree) (depth_of tree) tree left (takes tree) same stops).deeper
    by true false i d = λ tree same. let r = refused_deep p ts (tokens_of tree) (depth_of tree) tree left (takes tree) same stops in let t = r.too_deep in cc
    by false deep i d = λ tree same.
        let r = refused_deep p ts (tokens_of tree) (depth_of tree) tree left (takes tree) same stops in
        let h = r.inside in
        let k = ltb-false _ _ i in
        absurd (omega arith)
