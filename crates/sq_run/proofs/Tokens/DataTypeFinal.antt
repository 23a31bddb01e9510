-- Data types: their readings are final.
use Rattle.sq_run.proofs.Tokens.Final.{Final, bind, done, never, a_number, if_comes, if_one, then, must}
use Rattle.std.proofs.Common.{Some}
use Rattle.sq_tree.specs.declared.data_type.CharacterWord.{CharacterWord}
use Rattle.sq_grammar.specs.declared.type_word.TypeWord.{TypeWord}
use Rattle.sq_grammar.specs.declared.type_word.TypeWord.TheVariants as first
use Rattle.sq_grammar.specs.Reading.{comma}
use Rattle.sq_grammar.specs.DataType.{precision_from, precision, length_from, length_in, length_if_any, by_varying, character_type, type_word_of, type_by, data_type}

precisions_from : Final precision_from
unfolding precision_from
precisions_from = bind a_number (λ p. bind (then comma a_number) (λ scale. must _ done))

precisions : Final precision
unfolding precision
precisions = then _ precisions_from

lengths_from : Final length_from
unfolding length_from
lengths_from = bind a_number (λ n. must _ done)

lengths : Final length_in
unfolding length_in
lengths = must _ lengths_from

lengths_or_none : Final length_if_any
unfolding length_if_any
lengths_or_none = then _ lengths_from

character_types : (w : CharacterWord) → Final (character_type w)
unfolding character_type
character_types w = if_comes _ (by_varying w) (bind lengths (λ n. done)) (bind lengths_or_none (λ n. done))

types_by : (w : TypeWord) → Final (type_by (Some w))
types_by first.Smallint = done
types_by first.Integer = done
types_by first.Int = done
types_by (first.Exact w) = bind precisions (λ p. done)
types_by (first.Character w) = character_types w
types_by first.Varchar = bind lengths (λ n. done)

pub data_types : Final data_type
unfolding data_type
data_types = if_one type_word_of type_by never types_by
