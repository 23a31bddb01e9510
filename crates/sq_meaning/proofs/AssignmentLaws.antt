-- The statuses of storing and retrieving are the statuses of the faults of `store` and `retrieve`.
use Rattle.std.proofs.Common.{ℕ, List, Option, Some, None, refl}
use Rattle.std.specs.Option.{option_map}
use Rattle.sq_value.specs.Number.{Number}
use Rattle.sq_value.specs.Retrieving as retrieving
use Rattle.sq_value.specs.Retrieving.{retrieved}
use Rattle.sq_value.specs.Storing as storing
use Rattle.sq_value.specs.Storing.{stored}
use Rattle.sq_value.specs.declared.domain.Domain.{Domain}
use Rattle.sq_value.specs.declared.value.Value.{Value}
use Rattle.sq_value.specs.declared.value.Value.TheVariants.{Null, Num, Chars}
use Rattle.sq_meaning.specs.Status.{or_status}
use Rattle.sq_meaning.specs.declared.status.Status.TheVariants.{NumericValueOutOfRange, TextTooLong}
use Rattle.sq_meaning.specs.Assignment.{assigned, retrieved_into, IsStoreOutcome, IsRetrieveOutcome}

pub store_statuses : (d : Domain) (v : Value) → IsStoreOutcome (stored d v) (assigned d v)
store_statuses d Null = refl
store_statuses d (Num n) = split (storing.fitted d n)
  where
    split : (o : Option Number) → IsStoreOutcome (storing.number_or_range o) (or_status NumericValueOutOfRange (option_map Num o))
    split None = refl
    split (Some k) = refl
store_statuses d (Chars t) = split (storing.kept_text d t)
  where
    split : (o : Option (List ℕ)) → IsStoreOutcome (storing.text_or_too_long o) (or_status TextTooLong (option_map Chars o))
    split None = refl
    split (Some k) = refl

pub retrieve_statuses : (d : Domain) (v : Value) → IsRetrieveOutcome (retrieved d v) (retrieved_into d v)
retrieve_statuses d Null = refl
retrieve_statuses d (Num n) = split (storing.fitted d n)
  where
    split : (o : Option Number) → IsRetrieveOutcome (retrieving.number_or_range o) (or_status NumericValueOutOfRange (option_map (λ k. record { value = Num k; uncut = None }) o))
    split None = refl
    split (Some k) = refl
retrieve_statuses d (Chars t) = refl
