-- The outcomes that a case wants.
use Rattle.std.specs.Prelude.{◌≡◌, ℕ, Bool, true, false, [], Option, Some, None, Result, Ok, Err, Vec, IsSomeAnd, IsOkAnd}
use Rattle.std.specs.declared.alloc.Global.{Global}
use Rattle.sq_suite.specs.declared.outcome.Outcome.{Outcome}
use Rattle.sq_suite.specs.declared.outcome.Unclear.{Unclear}
use Rattle.sq_suite.specs.declared.outcome.Unclear.TheVariants.{Neither, Both, NoScript}

abbrev pub Bytes : Type 0
Bytes = Vec ℕ Global

-- The same bytes, and the same status.
abbrev pub IsLike : Outcome → Outcome → Type 0
IsLike a b = (a.report.items ≡ b.report.items) × (a.errors.items ≡ b.errors.items) × (a.status ≡ b.status)

-- Status 0, this report and nothing on standard error.
abbrev pub Reports : Bytes → Outcome → Type 0
Reports report outcome = (outcome.report ≡ report) × (outcome.errors.items ≡ []) × (outcome.status ≡ 0)

-- Status 2, an empty report and this on standard error.
abbrev pub Refuses : Bytes → Outcome → Type 0
Refuses errors outcome = (outcome.report.items ≡ []) × (outcome.errors ≡ errors) × (outcome.status ≡ 2)

-- A folder with or without a script wants this, by its report and its refusal.
abbrev pub Wants : Bool → Option Bytes → Option Bytes → Result (Option Outcome) Unclear → Type 0
Wants true (Some report) None result = IsOkAnd result (λ wanted. IsSomeAnd wanted (Reports report))
Wants true None (Some refusal) result = IsOkAnd result (λ wanted. IsSomeAnd wanted (Refuses refusal))
Wants true None None result = result ≡ Err Neither
Wants false None None result = result ≡ Ok None
Wants false (Some report) None result = result ≡ Err NoScript
Wants false None (Some refusal) result = result ≡ Err NoScript
Wants has_script (Some report) (Some refusal) result = result ≡ Err Both
