-- The words that tell why a procedure answers 42000, and why the last call did not end with 00000.
use Rattle.std.specs.Prelude.{◌≡◌, ℕ, ℤ, List, [], ◌++◌, codes, is_some, Option, None, Some, Result, Ok, Err, Vec, ⊤}
use Rattle.std.specs.declared.alloc.Global.{Global}
use Rattle.sq_lex.specs.declared.name.Name.{Name}
use Rattle.sq_meaning.specs.Report.{Bytes}
use Rattle.sq_meaning.specs.declared.fault.BindingFault.{BindingFault}
use Rattle.sq_meaning.specs.declared.fault.BindingFault.TheVariants as rule
use Rattle.sq_run.specs.Beside.{IsBeside}
use Rattle.sq_run.specs.Processor.{Machine, has_fault}
use Rattle.sq_run.specs.declared.Fault.{Fault}
use Rattle.sq_show.specs.Last.{TellsWhy}
use Rattle.sq_show.specs.Sessions.{Session}
use Rattle.sq_show.specs.declared.last.LastCall.{LastCall}
use Rattle.sq_exchange.specs.Answer.{IsWhy, code}
use Rattle.sq_exchange.specs.declared.answer.Answer.{Answer}
use Rattle.sq_exchange.specs.declared.answer.Answer.TheVariants.{NotOpen, Unknown}
use Rattle.sq_host.specs.Asked.{put_answer, put_length, put_room}
use Rattle.sq_host.specs.Calls.{is_faulty, opened}

-- ---- faults

abbrev pub rule_name : BindingFault → Bytes
rule_name rule.UnknownTable = codes "UnknownTable"
rule_name rule.UnknownColumn = codes "UnknownColumn"
rule_name rule.AmbiguousName = codes "AmbiguousName"
rule_name rule.KindMismatch = codes "KindMismatch"
rule_name rule.LimitExceeded = codes "LimitExceeded"
rule_name rule.MisplacedSetFunction = codes "MisplacedSetFunction"
rule_name rule.UngroupedColumn = codes "UngroupedColumn"
rule_name rule.CountMismatch = codes "CountMismatch"
rule_name rule.BadSortKey = codes "BadSortKey"
rule_name rule.UnknownParameter = codes "UnknownParameter"
rule_name rule.BadIndicator = codes "BadIndicator"
rule_name rule.TargetTwice = codes "TargetTwice"
rule_name rule.NotUpdatable = codes "NotUpdatable"
rule_name rule.ColumnTwice = codes "ColumnTwice"
rule_name rule.UnknownCursor = codes "UnknownCursor"
rule_name rule.BadOrientation = codes "BadOrientation"
rule_name rule.PrivilegeMissing = codes "PrivilegeMissing"

-- after a blank
abbrev pub about_codes : Option Name → Bytes
about_codes None = []
about_codes (Some name) = codes " " ++ name

-- the name of the rule that is broken, and the name that it is about, if there is one
abbrev pub fault_words : Fault → Bytes
fault_words f = rule_name f.rule ++ about_codes f.about

abbrev pub words_if_any : Option Fault → Bytes
words_if_any None = []
words_if_any (Some f) = fault_words f

-- the words of a fault that the procedure with this number has, or none
pub record IsFaultOf (m : Machine) (number : ℕ) (words : Bytes) : Type 0 where
  pub fault : Option Fault
  pub there : is_some fault ≡ has_fault m.program number
  pub is : words ≡ words_if_any fault

abbrev pub IsFaultIn : ℕ → Option Machine → Bytes → Type 0
IsFaultIn number None words = ⊥
IsFaultIn number (Some m) words = IsFaultOf m number words

-- ---- causes

-- the cause of this call, of a session that has made the same calls as the machine
pub record IsCauseOf (m : Machine) (call : LastCall) (words : Bytes) : Type 0 where
  pub session : Session
  pub beside : IsBeside session m
  pub tells : TellsWhy session call [] words

abbrev pub IsCauseIn : Option Machine → Option LastCall → Bytes → Type 0
IsCauseIn (Some m) (Some call) words = IsCauseOf m call words
IsCauseIn _ _ words = ⊥

-- a cause is told if a processor exists and a call was made
abbrev pub caused : Option Machine → Option LastCall → Result ⊤ Answer
caused None last = Err NotOpen
caused (Some m) None = Err Unknown
caused (Some m) (Some call) = Ok tt

-- ---- the words, or why none are told

abbrev pub FaultTold : ℕ → Option Machine → Result Bytes Answer → Type 0
FaultTold number m (Ok words) = IsFaultIn number m words
FaultTold number m (Err why) = IsWhy (is_faulty number m) why

abbrev pub CauseTold : Option Machine → Option LastCall → Result Bytes Answer → Type 0
CauseTold m last (Ok words) = IsCauseIn m last words
CauseTold m last (Err why) = IsWhy (caused m last) why

-- words that were made, as bytes
abbrev pub bytes_of : Result (Vec ℕ Global) Answer → Result Bytes Answer
bytes_of (Ok words) = Ok words.items
bytes_of (Err why) = Err why

-- Told words are put into a room.
pub record Puts (Told : Result Bytes Answer → Type 0) (before after : Bytes) (old new : ℕ) (answer : Answer)
    : Type 0 where
  pub words : Result Bytes Answer
  pub told : Told words
  pub answered : answer ≡ put_answer words before
  pub room : after ≡ put_room words before
  pub counted : new ≡ put_length words old

-- the same for C, which is given the code of the answer
pub record PutsCode (Told : Result Bytes Answer → Type 0) (before after : Bytes) (old new : ℕ) (number : ℤ)
    : Type 0 where
  pub answer : Answer
  pub puts : Puts Told before after old new answer
  pub code_is : number ≡ code answer
