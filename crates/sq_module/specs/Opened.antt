-- The cursors that the procedures of a module open, while the module is bound (ISO/IEC 9075:1992, 13.2).
use Rattle.std.specs.Prelude.{◌≡◌, ℕ, Bool, true, false, List, ◌++◌, IfSome, nat_lt}
use Rattle.std.specs.List.{AllByRecursion, list_all, list_any}
use Rattle.std.specs.Map.{lookup}
use Rattle.sq_lex.specs.declared.name.Name.{Name}
use Rattle.sq_meaning.specs.Environment.{same_name}
use Rattle.sq_bound.specs.WellFormed.{TableKinds, kinds_of_parameters}
use Rattle.sq_bound.specs.declared.statement.BoundStatement.TheVariants as statement
use Rattle.sq_module.specs.Admitted.{opened_of, openings}
use Rattle.sq_module.specs.Program.{OpensWellFormed}
use Rattle.sq_module.specs.Refusal.{is_some_name}
use Rattle.sq_module.specs.declared.admission.AdmittedProcedure.{AdmittedProcedure}
use Rattle.sq_module.specs.declared.program.DeclaredCursor.{DeclaredCursor}

-- the cursor that a procedure opens, if it has a number, is well formed there
abbrev pub IsOpenable : TableKinds → List DeclaredCursor → List (Name × ℕ) → AdmittedProcedure → Type 0
IsOpenable table_kinds cursors numbers p = IfSome (opened_of p)
    (λ name. IfSome (lookup (same_name name) numbers)
    (λ n. OpensWellFormed table_kinds cursors (kinds_of_parameters p.parameters) (statement.Open n)))

abbrev pub AreOpenable : TableKinds → List DeclaredCursor → List (Name × ℕ) → List AdmittedProcedure → Type 0
AreOpenable table_kinds cursors numbers = AllByRecursion (IsOpenable table_kinds cursors numbers)

-- cursors come behind those that were there
abbrev pub Grow : List DeclaredCursor → List DeclaredCursor → Type 0
Grow old new = (more : List DeclaredCursor) × (new ≡ old ++ more)

-- the number of each name is below the number of cursors
abbrev pub AreThere : ℕ → List (Name × ℕ) → Type 0
AreThere cursors numbers = list_all (λ e. nat_lt e.1 cursors) numbers ≡ true

-- ---- which cursors are there while the module is bound

-- a cursor of a module of this name
abbrev pub is_in : Name → DeclaredCursor → Bool
is_in «module» c = same_name «module» c.«module»

-- no cursor is of a module of this name
abbrev pub AreOfOthers : Name → List DeclaredCursor → Type 0
AreOfOthers «module» cursors = list_any (is_in «module») cursors ≡ false

-- the cursors of the module are among those that these procedures open
abbrev pub OpenedBy : Name → List AdmittedProcedure → List DeclaredCursor → Type 0
OpenedBy «module» procedures cursors =
    AllByRecursion (λ c. is_in «module» c ≡ true → list_any (is_some_name c.name) (openings procedures)
    ≡ true)
    cursors
