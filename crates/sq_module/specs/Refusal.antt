-- Which modules are refused for their cursors and status parameters (ISO/IEC 9075:1992, 12.1 and 12.3; that exactly one procedure
-- opens each cursor is an own rule), and which module a refusal is of.
use Rattle.std.specs.Prelude.{◌≡◌, ◌<◌, ◌==◌, ℕ, Bool, false, List, None, Option, Some, count_by, nat_lt, not, ⊤}
use Rattle.std.specs.List.{AllByRecursion, list_any}
use Rattle.sq_lex.specs.declared.name.Name.{Name}
use Rattle.sq_tree.specs.declared.module.ModuleItem.{ModuleItem}
use Rattle.sq_tree.specs.declared.module.ModuleItem.TheVariants as item
use Rattle.sq_tree.specs.declared.module.ModuleText.{ModuleText}
use Rattle.sq_tree.specs.declared.statement.Statement.{Statement}
use Rattle.sq_tree.specs.declared.statement.Statement.TheVariants as statement
use Rattle.sq_meaning.specs.Environment.{same_name}
use Rattle.sq_meaning.specs.ModuleRefusal.{has_status_fault}
use Rattle.sq_module.specs.declared.opener.Openers.{Openers}
use Rattle.sq_module.specs.declared.refusal.SessionFault.{SessionFault}
use Rattle.sq_module.specs.declared.refusal.SessionFault.TheVariants.{Refused, NoMemory}

-- ---- exactly one procedure opens each cursor

abbrev pub opened_by : Statement → Option Name
opened_by (statement.Open cursor) = Some cursor
opened_by _ = None

-- the cursor that an item opens, if it is a procedure with such a statement
abbrev pub opened_in : ModuleItem → Option Name
opened_in (item.Procedure p) = opened_by p.statement
opened_in (item.Cursor c) = None

-- there is a name, and it is this one
abbrev pub is_some_name : Name → Option Name → Bool
is_some_name name None = false
is_some_name name (Some other) = same_name name other

-- how many procedures open the cursor
abbrev pub opener_count : List ModuleItem → Name → ℕ
opener_count items cursor = count_by (λ i. is_some_name cursor (opened_in i)) items

-- the item is a cursor that is opened by no procedure or by several
abbrev pub has_open_count : List ModuleItem → ModuleItem → Bool
has_open_count items (item.Cursor c) = not (opener_count items c.name == 1)
has_open_count items (item.Procedure p) = false

-- the cursors that procedures among these items open, and those that two or more of them do
pub record AreOpeners (items : List ModuleItem) (openers : Openers) : Type 0 where
  pub opened : (cursor : Name)
      → list_any (same_name cursor) openers.opened.keys ≡ nat_lt 0 (opener_count items cursor)
  pub shared : (cursor : Name)
      → list_any (same_name cursor) openers.shared.keys ≡ nat_lt 1 (opener_count items cursor)

-- ---- modules

-- exactly one procedure opens each cursor, and each procedure has SQLCODE, SQLSTATE or both, each once at most
pub record IsAdmissible (items : List ModuleItem) : Type 0 where
  pub opened : list_any (has_open_count items) items ≡ false
  pub status : list_any has_status_fault items ≡ false

abbrev pub AreAdmissible : List ModuleText → Type 0
AreAdmissible modules = AllByRecursion (λ m. IsAdmissible m.items) modules

-- ---- which module is refused

-- the module of this number is refused
abbrev pub IsOfModule : ℕ → SessionFault → Type 0
IsOfModule number NoMemory = ⊤
IsOfModule number (Refused refusal) = refusal.text ≡ number

-- the module that is refused is one of this many
abbrev pub IsOfSomeModule : ℕ → SessionFault → Type 0
IsOfSomeModule count NoMemory = ⊤
IsOfSomeModule count (Refused refusal) = refusal.text < count
