-- Laws of words that are put into a room.
use Rattle.std.proofs.Common.{◌≡◌, ◌∙◌, ℕ, ℤ, List, Option, None, Some, Result, Ok, Err, Vec, refl, ap, subst, sym, of_z, to_z, w32}
use Rattle.std.specs.Prelude.{IfErr, IfOk}
use Rattle.std.specs.declared.alloc.Global.{Global}
use Rattle.sq_exchange.specs.Answer.{IsWhy, code}
use Rattle.sq_exchange.specs.declared.answer.Answer.{Answer}
use Rattle.sq_exchange.specs.declared.answer.Answer.TheVariants.{Done, NotOpen, AlreadyOpen, Refused, NoMemory, Unknown, BadValue, BadArguments, OtherKind, NullPointer, NoRoom, IsNull, NoRow}
use Rattle.sq_meaning.specs.Report.{Bytes}
use Rattle.sq_run.specs.Processor.{Machine}
use Rattle.sq_show.specs.declared.last.LastCall.{LastCall}
use Rattle.sq_host.specs.Asked.{put_answer, put_length, put_room}
use Rattle.sq_host.specs.Calls.{is_faulty, machine_of, made_last}
use Rattle.sq_host.specs.Told.{CauseTold, FaultTold, IsCauseIn, IsFaultIn, Puts, PutsCode, bytes_of, caused}
use Rattle.sq_host.specs.declared.host.Host.{Host}

fault_told : (number : ℕ) (m : Option Machine) (r : Result (Vec ℕ Global) Answer) → IfOk r (λ w. IsFaultIn number m w.items) → IfErr r (IsWhy (is_faulty number m))
    → FaultTold number m (bytes_of r)
fault_told number m (Ok w) told why = told
fault_told number m (Err a) told why = why

cause_told : (m : Option Machine) (last : Option LastCall) (r : Result (Vec ℕ Global) Answer) → IfOk r (λ w. IsCauseIn m last w.items) → IfErr r (IsWhy (caused m last))
    → CauseTold m last (bytes_of r)
cause_told m last (Ok w) told why = told
cause_told m last (Err a) told why = why

puts : (Told : Result Bytes Answer → Type 0) (words : Result Bytes Answer) (before after : Bytes) (old new : ℕ) (answer : Answer) → Told words
    → answer ≡ put_answer words before → after ≡ put_room words before → new ≡ put_length words old → Puts Told before after old new answer
puts Told words before after old new answer told answered room counted =
    record { words = words; told = told; answered = answered; room = room; counted = counted }

-- ---- of a handle that leads to a host

pub puts_fault : (number : ℕ) (h : Option Host) (host : Host) (r : Result (Vec ℕ Global) Answer) (before after : Bytes) (old new : ℕ) (answer : Answer) → h ≡ Some host
    → IfOk r (λ w. IsFaultIn number host.processor w.items) → IfErr r (IsWhy (is_faulty number host.processor))
    → answer ≡ put_answer (bytes_of r) before → after ≡ put_room (bytes_of r) before → new ≡ put_length (bytes_of r) old
    → Puts (FaultTold number (machine_of h)) before after old new answer
puts_fault number h host r before after old new answer is told why answered room counted =
    subst (λ (x : Option Host). Puts (FaultTold number (machine_of x)) before after old new answer) (sym is)
    (puts (FaultTold number host.processor) (bytes_of r) before after old new answer (fault_told number host.processor r told why) answered room counted)

pub puts_cause : (h : Option Host) (host : Host) (r : Result (Vec ℕ Global) Answer) (before after : Bytes) (old new : ℕ) (answer : Answer) → h ≡ Some host
    → IfOk r (λ w. IsCauseIn host.processor host.last w.items) → IfErr r (IsWhy (caused host.processor host.last))
    → answer ≡ put_answer (bytes_of r) before → after ≡ put_room (bytes_of r) before → new ≡ put_length (bytes_of r) old
    → Puts (CauseTold (machine_of h) (made_last h)) before after old new answer
puts_cause h host r before after old new answer is told why answered room counted =
    subst (λ (x : Option Host). Puts (CauseTold (machine_of x) (made_last x)) before after old new answer) (sym is)
    (puts (CauseTold host.processor host.last) (bytes_of r) before after old new answer (cause_told host.processor host.last r told why) answered room counted)

-- ---- of one that leads to nothing

pub puts_no_fault : (number : ℕ) (h : Option Host) (room : Bytes) (count : ℕ) → h ≡ None → Puts (FaultTold number (machine_of h)) room room count count NotOpen
puts_no_fault number h room count is =
    subst (λ (x : Option Host). Puts (FaultTold number (machine_of x)) room room count count NotOpen) (sym is)
    (puts (FaultTold number None) (Err NotOpen) room room count count NotOpen (λ u. refl) refl refl refl)

pub puts_no_cause : (h : Option Host) (room : Bytes) (count : ℕ) → h ≡ None → Puts (CauseTold (machine_of h) (made_last h)) room room count count NotOpen
puts_no_cause h room count is =
    subst (λ (x : Option Host). Puts (CauseTold (machine_of x) (made_last x)) room room count count NotOpen) (sym is)
    (puts (CauseTold None None) (Err NotOpen) room room count count NotOpen (λ u. refl) refl refl refl)

-- ---- for C: all codes fit in 32 bits

same_code : (a : Answer) → to_z w32 (of_z w32 (code a)) ≡ code a
same_code Done = refl
same_code NotOpen = refl
same_code AlreadyOpen = refl
same_code Refused = refl
same_code NoMemory = refl
same_code Unknown = refl
same_code BadValue = refl
same_code BadArguments = refl
same_code OtherKind = refl
same_code NullPointer = refl
same_code NoRoom = refl
same_code IsNull = refl
same_code NoRow = refl

pub puts_code : (Told : Result Bytes Answer → Type 0) (before after : Bytes) (old new : ℕ) (answer : Answer) (number : ℤ) → Puts Told before after old new answer → number ≡ code answer
    → PutsCode Told before after old new (to_z w32 (of_z w32 number))
puts_code Told before after old new answer number puts is =
    record { answer = answer; puts = puts; code_is = ap (λ z. to_z w32 (of_z w32 z)) is ∙ same_code answer }
