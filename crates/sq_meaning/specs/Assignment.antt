-- Storing a value, and retrieving it, with their statuses (ISO/IEC 9075:1992, 9.1 and 9.2).
use Rattle.std.specs.Prelude.{◌≡◌, None, Result, Ok, Err}
use Rattle.std.specs.Option.{option_map}
use Rattle.sq_value.specs.Retrieving.{text_retrieved, uncut_length}
use Rattle.sq_value.specs.Storing as storing
use Rattle.sq_value.specs.declared.domain.Domain.{Domain}
use Rattle.sq_value.specs.declared.fault.RetrieveFault.{RetrieveFault}
use Rattle.sq_value.specs.declared.fault.RetrieveFault.TheVariants as retrieve
use Rattle.sq_value.specs.declared.fault.StoreFault.{StoreFault}
use Rattle.sq_value.specs.declared.fault.StoreFault.TheVariants as store
use Rattle.sq_value.specs.declared.retrieving.Retrieved.{Retrieved}
use Rattle.sq_value.specs.declared.value.Value.{Value}
use Rattle.sq_value.specs.declared.value.Value.TheVariants.{Null, Num, Chars}
use Rattle.sq_meaning.specs.Status.{Outcome, or_status}
use Rattle.sq_meaning.specs.declared.status.Status.TheVariants.{NumericValueOutOfRange, TextTooLong}

-- the value as a column or a parameter of the domain stores it (9.2)
abbrev pub assigned : Domain → Value → Outcome Value
assigned d Null = Ok Null
assigned d (Num n) = or_status NumericValueOutOfRange (option_map Num (storing.fitted d n))
assigned d (Chars t) = or_status TextTooLong (option_map Chars (storing.kept_text d t))

-- the value as a parameter of the domain receives it and, if a text was cut, its length before (9.1)
abbrev pub retrieved_into : Domain → Value → Outcome Retrieved
retrieved_into d Null = Ok (record { value = Null; uncut = None })
retrieved_into d (Num n) =
    or_status NumericValueOutOfRange
    (option_map (λ k. record { value = Num k; uncut = None }) (storing.fitted d n))
retrieved_into d (Chars t) = Ok (record { value = Chars (text_retrieved d t); uncut = uncut_length d t })

-- the statuses of the faults of `store` and `retrieve`; want of memory is no outcome of a definition
abbrev pub IsStoreOutcome : Result Value StoreFault → Outcome Value → Type 0
IsStoreOutcome (Ok v) outcome = outcome ≡ Ok v
IsStoreOutcome (Err store.Range) outcome = outcome ≡ Err NumericValueOutOfRange
IsStoreOutcome (Err store.TooLong) outcome = outcome ≡ Err TextTooLong
IsStoreOutcome (Err store.NoMemory) outcome = ⊥

abbrev pub IsRetrieveOutcome : Result Retrieved RetrieveFault → Outcome Retrieved → Type 0
IsRetrieveOutcome (Ok r) outcome = outcome ≡ Ok r
IsRetrieveOutcome (Err retrieve.Range) outcome = outcome ≡ Err NumericValueOutOfRange
IsRetrieveOutcome (Err retrieve.NoMemory) outcome = ⊥
