-- Two data types with one list of tokens are one, and so for their parts.
use Rattle.std.proofs.Common.{◌≡◌, [], ◌++◌, Some, None, refl, arith, ap}
use Rattle.sq_tree.specs.declared.data_type.DataType.{DataType}
use Rattle.sq_tree.specs.declared.data_type.DataType.TheVariants.{Exact, Character}
use Rattle.sq_tree.specs.declared.data_type.ExactWord.{ExactWord}
use Rattle.sq_tree.specs.declared.data_type.CharacterWord.{CharacterWord}
use Rattle.sq_tree.specs.declared.data_type.VaryingWord.{VaryingWord}
use Rattle.sq_tree.specs.declared.data_type.VaryingWord.TheVariants.{CharacterVarying, CharVarying, Varchar}
use Rattle.sq_tree.specs.declared.data_type.Precision.{Precision}
use Rattle.sq_tree.specs.DataType.{exact_word_tokens, character_word_tokens, varying_word_tokens, precision_tokens, data_type_tokens}
use Rattle.sq_grammar.proofs.Sound.Spells.{some_is}
use Rattle.sq_grammar.proofs.Taken.DataTypeTakes.{EndsType, precision_takes, flat_type_takes}
use Rattle.sq_grammar.proofs.Unique.OneTree.{one_tree}

pub end_of_type : EndsType []
end_of_type = record { open_bracket = refl; varying = refl }

pub one_data_type : (a b : DataType) → data_type_tokens a ≡ data_type_tokens b → a ≡ b
one_data_type a b same = one_tree (flat_type_takes {a = 0} {left = 0} a end_of_type) (flat_type_takes b end_of_type) (omega arith) (omega arith) same

pub one_precision : (a b : Precision) → precision_tokens a ≡ precision_tokens b → a ≡ b
one_precision a b same = some_is a b (one_tree (precision_takes (Some a) {a = 0} {left = 0} {rest = []} refl) (precision_takes (Some b) refl) (omega arith) (omega arith) same)

-- the words, by the types that they begin
pub one_exact_word : (a b : ExactWord) → exact_word_tokens a ≡ exact_word_tokens b → a ≡ b
one_exact_word a b same = let types = one_data_type (Exact a None) (Exact b None) (ap (λ ts. ts ++ []) same) in cc

pub one_character_word : (a b : CharacterWord) → character_word_tokens a ≡ character_word_tokens b → a ≡ b
one_character_word a b same = let types = one_data_type (Character a None) (Character b None) (ap (λ ts. ts ++ []) same) in cc

pub one_varying_word : (a b : VaryingWord) → varying_word_tokens a ≡ varying_word_tokens b → a ≡ b
one_varying_word CharacterVarying CharacterVarying same = refl
one_varying_word CharacterVarying CharVarying same = cc
one_varying_word CharacterVarying Varchar same = cc
one_varying_word CharVarying CharacterVarying same = cc
one_varying_word CharVarying CharVarying same = refl
one_varying_word CharVarying Varchar same = cc
one_varying_word Varchar CharacterVarying same = cc
one_varying_word Varchar CharVarying same = cc
one_varying_word Varchar Varchar same = refl
