-- What is admitted and bound, one after the other, is what is written.
use Rattle.std.proofs.Common.{◌≡◌, ℕ, zero, suc, ◌+◌, ◌<◌, ◌≤◌, Bool, true, false, List, [], ◌∷◌, ◌++◌, Option, None, Some, Result, Ok, Err, IfOk, if◌then◌else◌, length, get_or, take, flat_map, slice_get, refl, ap, sym, subst, ◌∙◌, append_assoc, arith}
use Rattle.std.specs.Borrow.{Bor}
use Rattle.std.specs.List.{AllByRecursion, IsAmong}
use Rattle.std.specs.Map.{lookup}
use Rattle.std.proofs.lemmas.Bool.{and_parts}
use Rattle.indexmap.specs.IndexMap.{insert_entry}
use Rattle.sq_bound.specs.Known.{KnownTables}
use Rattle.sq_lex.specs.declared.name.Name.{Name}
use Rattle.sq_tree.specs.declared.cond.Cond.{Cond}
use Rattle.sq_tree.specs.declared.module.Cursor.{Cursor}
use Rattle.sq_tree.specs.declared.module.ModuleItem.{ModuleItem}
use Rattle.sq_tree.specs.declared.module.ModuleText.{ModuleText}
use Rattle.sq_tree.specs.declared.module.Procedure.{Procedure}
use Rattle.sq_tree.specs.declared.statement.Statement.{Statement}
use Rattle.sq_tree.specs.declared.statement.Statement.TheVariants as tree
use Rattle.sq_tree.specs.declared.statement.Where.{Where}
use Rattle.sq_tree.specs.declared.statement.Where.TheVariants as rows
use Rattle.sq_binder.specs.declared.stop.Fault.{Fault}
use Rattle.sq_binder.specs.declared.stop.Stop.{Stop}
use Rattle.sq_bound.specs.declared.names.ParameterDesc.{ParameterDesc}
use Rattle.sq_bound.specs.declared.statement.BoundStatement.{BoundStatement}
use Rattle.sq_bound.specs.declared.statement.BoundStatement.TheVariants as statement
use Rattle.sq_bound.specs.declared.statement.ChangeTarget.{ChangeTarget}
use Rattle.sq_bound.specs.declared.statement.ChangeTarget.TheVariants as target
use Rattle.sq_binding.specs.Written.{IsCursorOf, IsStatementOf, IsTargetOf}
use Rattle.sq_tree.specs.declared.module.ModuleItem.TheVariants as item
use Rattle.sq_meaning.specs.Environment.{same_name}
use Rattle.sq_meaning.specs.Status.{Outcome, well_formed}
use Rattle.sq_bound.specs.Condition.{PlacedClause}
use Rattle.sq_meaning.specs.WellFormed.{Has}
use Rattle.sq_bound.specs.declared.query.BoundCursor.{BoundCursor}
use Rattle.sq_binding.proofs.Placing.SameParameters.{names_equal}
use Rattle.sq_module.specs.declared.admission.AdmittedModule.{AdmittedModule}
use Rattle.sq_module.specs.declared.program.BoundProcedure.{BoundProcedure}
use Rattle.sq_module.specs.declared.program.DeclaredCursor.{DeclaredCursor}
use Rattle.sq_module.specs.declared.program.ProcedureName.{ProcedureName}
use Rattle.sq_module.specs.Admitted.{OpensEachOnce}
use Rattle.sq_module.specs.Opened.{Grow}
use Rattle.sq_module.specs.Program.{same_procedure}
use Rattle.sq_module.specs.Written.{AreFromTexts, AreNumbers, AreOfTexts, IsBoundFrom, IsCursorIn, IsDeclaredFrom, IsFromTexts, IsNumberOf, IsOfText, IsOpenedIn, IsStatementIn}
use Rattle.sq_module.proofs.Fitting.{all_last}
use Rattle.sq_module.proofs.Names.{flat_more}
use Rattle.sq_module.proofs.Opening.{last_there, there_still}

-- a cursor, if it has no fault, is bound from the one of this name in the module
pub record IsCursorNamed (names : KnownTables) (m : ModuleText) (name : Name)
    (bound : Result BoundCursor Stop) : Type 0 where
  pub cursor : Cursor
  pub among : IsAmong m.items (item.Cursor cursor)
  pub named : cursor.name ≡ name
  pub parameters : List ParameterDesc
  pub opened : IsOpenedIn m name parameters
  pub bound_is : IfOk bound (IsCursorOf names m.authorization parameters cursor)

-- ---- names

-- ---- elements

pub among_at : {X : Type 0} (xs : List X) (i : ℕ) (x : X) → i < length xs → x ≡ get_or xs i x → IsAmong xs x
among_at xs i x lt is = (i, (lt, is))

-- what holds of each entry holds with one more, or with another value under an equal key
pub all_entries : {K V : Type 0} (eq : K → K → Bool) (P : K × V → Type 0) (es : List (K × V)) (k : K) (v : V) → ((q : K) → eq k q ≡ true → P (q, v)) → P (k, v)
    → AllByRecursion P es → AllByRecursion P (insert_entry eq es k v)
all_entries eq P [] k v same one all = (one, tt)
all_entries eq P (e ∷ es) k v same one all = by (eq k e.0) refl (all_entries eq P es k v same one all.1)
  where
    by : (b : Bool) → eq k e.0 ≡ b → AllByRecursion P (insert_entry eq es k v) → AllByRecursion P (insert_entry eq (e ∷ es) k v)
    by true h rest = rw h (same e.0 h, all.1)
    by false h rest = rw h (all.0, rest)

-- ---- one more

pub added_next : {X Y : Type 0} (f : X → List Y) (xs : List X) (i : ℕ) (x : X) (start now next : List Y) → i < length xs → x ≡ get_or xs i x → now ≡ start ++ flat_map f (take i xs)
    → next ≡ now ++ f x → next ≡ start ++ flat_map f (take (i + 1) xs)
added_next f xs i x start now next lt is before e =
    e ∙ ap (λ l. l ++ f x) before ∙ append_assoc start (flat_map f (take i xs)) (f x) ∙ ap (λ l. start ++ l) (sym (flat_more f xs i x lt is))

pub of_texts_next : (texts : List ModuleText) (m : ModuleText) (admitted new : List AdmittedModule) → IsAmong texts m
    → (one : AdmittedModule) × (new ≡ admitted ++ one ∷ []) × IsOfText m one × OpensEachOnce one → AreOfTexts texts admitted → AreOfTexts texts new
of_texts_next texts m admitted new there (one, is, of, once) all =
    rw is (all_last (λ a. (t : ModuleText) × IsAmong texts t × IsOfText t a) admitted one all (m, there, of))

-- ---- statements, where the cursors' numbers are known otherwise

target_where : (R S : Name → ℕ → Type 0) → ((name : Name) (n : ℕ) → R name n → S name n) → (filter : Cond → Outcome PlacedClause) (w : Option Where) (t : ChangeTarget) → IsTargetOf R filter w t → IsTargetOf S filter w t
target_where R S f filter None (target.Searched t) h = h
target_where R S f filter (Some (rows.Condition c)) (target.Searched t) h = h
target_where R S f filter (Some (rows.CurrentOf name)) (target.Positioned p) h = f name p.cursor h
target_where R S f filter None (target.Positioned p) h = absurd h
target_where R S f filter (Some (rows.Condition c)) (target.Positioned p) h = absurd h
target_where R S f filter (Some (rows.CurrentOf name)) (target.Searched t) h = absurd h

pub statement_where : (names : KnownTables) → (R S : Name → ℕ → Type 0) → ((name : Name) (n : ℕ) → R name n → S name n) → (user : Name) (parameters : List ParameterDesc) (s : Statement) (b : BoundStatement)
    → IsStatementOf names R user parameters s b → IsStatementOf names S user parameters s b
statement_where names R S f user parameters (tree.Open name) (statement.Open n) h = f name n h
statement_where names R S f user parameters (tree.Fetch t) (statement.Fetch b) h = (f t.cursor b.cursor h.0, h.1, h.2)
statement_where names R S f user parameters (tree.Close name) (statement.Close n) h = f name n h
statement_where names R S f user parameters (tree.Select t) (statement.Select b) h = h
statement_where names R S f user parameters (tree.Insert t) (statement.Insert b) h = h
statement_where names R S f user parameters (tree.Update t) (statement.Update b) h = record { is_under = h.is_under; rows = target_where R S f _ t.target b.target h.rows; values = h.values }
statement_where names R S f user parameters (tree.Delete t) (statement.Delete b) h = record { is_under = h.is_under; rows = target_where R S f _ t.target b h.rows }
statement_where names R S f user parameters (tree.Commit w) statement.Commit h = h
statement_where names R S f user parameters (tree.Rollback w) statement.Rollback h = h
statement_where names R S f user parameters s b h = absurd h

-- ---- more cursors

number_more : (names : KnownTables) (m : ModuleText) (cursors more : List DeclaredCursor) (name : Name) (n : ℕ) → IsNumberOf names m cursors name n → IsNumberOf names m (cursors ++ more) name n
number_more names m cursors more name n h = record {
  cursor = h.cursor;
  among = h.among;
  named = h.named;
  bound = there_still (IsDeclaredFrom names m h.cursor) cursors more n h.bound;
}

statement_more : (names : KnownTables) → (m : ModuleText) (cursors more : List DeclaredCursor) (parameters : List ParameterDesc) (s : Statement) (b : BoundStatement)
    → IsStatementIn names m cursors parameters s b → IsStatementIn names m (cursors ++ more) parameters s b
statement_more names m cursors more parameters s b h = statement_where names (IsNumberOf names m cursors) (IsNumberOf names m (cursors ++ more)) (number_more names m cursors more) m.authorization parameters s b h

bound_more : (names : KnownTables) → (m : ModuleText) (cursors more : List DeclaredCursor) (p : Procedure) (b : BoundProcedure) → IsBoundFrom names m cursors p b → IsBoundFrom names m (cursors ++ more) p b
bound_more names m cursors more p b h = record { user = h.user; parameters = h.parameters; statement = by b.statement h.statement }
  where
    by : (r : Result BoundStatement Fault) → IfOk r (IsStatementIn names m cursors b.parameters p.statement) → IfOk r (IsStatementIn names m (cursors ++ more) b.parameters p.statement)
    by (Ok s) stands = statement_more names m cursors more b.parameters p.statement s stands
    by (Err e) stands = tt

from_texts_more : (names : KnownTables) → (texts : List ModuleText) (cursors more : List DeclaredCursor) (procedures : List (ProcedureName × BoundProcedure)) → AreFromTexts names texts cursors procedures
    → AreFromTexts names texts (cursors ++ more) procedures
from_texts_more names texts cursors more [] h = tt
from_texts_more names texts cursors more (e ∷ es) h = (
  record {
    text = h.0.text;
    among = h.0.among;
    named = h.0.named;
    procedure = h.0.procedure;
    is_item = h.0.is_item;
    is_named = h.0.is_named;
    bound = bound_more names h.0.text cursors more h.0.procedure e.1 h.0.bound;
  },
  from_texts_more names texts cursors more es h.1,
)

numbers_more : (names : KnownTables) (m : ModuleText) (cursors more : List DeclaredCursor) (numbers : List (Name × ℕ)) → AreNumbers names m cursors numbers → AreNumbers names m (cursors ++ more) numbers
numbers_more names m cursors more [] h = tt
numbers_more names m cursors more (e ∷ es) h = (number_more names m cursors more e.0 e.1 h.0, numbers_more names m cursors more es h.1)

pub from_texts_grown : (names : KnownTables) → (texts : List ModuleText) (old new : List DeclaredCursor) (procedures : List (ProcedureName × BoundProcedure)) → Grow old new → AreFromTexts names texts old procedures
    → AreFromTexts names texts new procedures
from_texts_grown names texts old new procedures grown h = subst (λ cs. AreFromTexts names texts cs procedures) (sym grown.1) (from_texts_more names texts old grown.0 procedures h)

-- ---- one cursor more

-- the last cursor, bound from the one of this name
pub number_last : (names : KnownTables) (m : ModuleText) (a : AdmittedModule) (cursors new : List DeclaredCursor) (name : Name) (bound : Result BoundCursor Stop) (c : BoundCursor) (d : DeclaredCursor) → bound ≡ Ok c
    → d.«module» ≡ a.name → d.name ≡ name → d.user ≡ a.user → d.cursor ≡ c → new ≡ cursors ++ d ∷ [] → IsOfText m a → IsCursorNamed names m name bound → IsNumberOf names m new name (length cursors)
number_last names m a cursors new name bound c d is_bound of_module of_name of_user of_cursor is of h =
    let written : IsCursorOf names m.authorization h.parameters h.cursor c
    = subst (λ (r : Result BoundCursor Stop). IfOk r (IsCursorOf names m.authorization h.parameters h.cursor)) is_bound h.bound_is in
    let one : IsDeclaredFrom names m h.cursor d = record {
      of_module = of_module ∙ of.name;
      named = of_name ∙ sym h.named;
      user = of_user ∙ of.user;
      parameters = h.parameters;
      opened = subst (λ n. IsOpenedIn m n h.parameters) (sym h.named) h.opened;
      cursor = subst (IsCursorOf names m.authorization h.parameters h.cursor) (sym of_cursor) written;
    } in
    record {
      cursor = h.cursor;
      among = h.among;
      named = h.named;
      bound = subst (λ cs. Has (IsDeclaredFrom names m h.cursor) (well_formed (slice_get cs (length cursors)))) (sym is) (last_there (IsDeclaredFrom names m h.cursor) cursors d one);
    }

-- the numbers with that of the last cursor
pub numbers_next : (names : KnownTables) (m : ModuleText) (cursors new : List DeclaredCursor) (numbers after : List (Name × ℕ)) (name : Name) (n : ℕ) (d : DeclaredCursor) → new ≡ cursors ++ d ∷ []
    → after ≡ insert_entry same_name numbers name n → IsNumberOf names m new name n → AreNumbers names m cursors numbers → AreNumbers names m new after
numbers_next names m cursors new numbers after name n d is entered one h =
    let wide : AreNumbers names m new numbers = subst (λ cs. AreNumbers names m cs numbers) (sym is) (numbers_more names m cursors (d ∷ []) numbers h) in
    subst (AreNumbers names m new) (sym entered)
    (all_entries same_name (λ e. IsNumberOf names m new e.0 e.1) numbers name n (λ q same. subst (λ x. IsNumberOf names m new x n) (names_equal name q same) one) one wide)

-- ---- a procedure

-- the number that a name has
number_found : (names : KnownTables) (m : ModuleText) (cursors : List DeclaredCursor) (numbers : List (Name × ℕ)) (name : Name) (n : ℕ) → AreNumbers names m cursors numbers → lookup (same_name name) numbers ≡ Some n
    → IsNumberOf names m cursors name n
number_found names m cursors [] name n h is = cc
number_found names m cursors (e ∷ es) name n h is = by (same_name name e.0) refl is (λ found. number_found names m cursors es name n h.1 found)
  where
    by : (b : Bool) → same_name name e.0 ≡ b → (if b then Some e.1 else lookup (same_name name) es) ≡ Some n → (lookup (same_name name) es ≡ Some n → IsNumberOf names m cursors name n) → IsNumberOf names m cursors name n
    by true same found rest =
        let value : e.1 ≡ n = cc in
        subst (λ x. IsNumberOf names m cursors name x) value (subst (λ x. IsNumberOf names m cursors x e.1) (sym (names_equal name e.0 same)) h.0)
    by false same found rest = rest found

-- the cursor under a name
pub cursor_found : (items : List ModuleItem) (entries : List (Name × Bor Cursor)) (name : Name) (c : Bor Cursor) → AllByRecursion (IsCursorIn items) entries → lookup (same_name name) entries ≡ Some c
    → IsAmong items (item.Cursor c.now) × (c.now.name ≡ name)
cursor_found items [] name c all is = cc
cursor_found items (e ∷ es) name c all is = by (same_name name e.0) refl is (λ found. cursor_found items es name c all.1 found)
  where
    by : (b : Bool) → same_name name e.0 ≡ b → (if b then Some e.1 else lookup (same_name name) es) ≡ Some c
        → (lookup (same_name name) es ≡ Some c → IsAmong items (item.Cursor c.now) × (c.now.name ≡ name)) → IsAmong items (item.Cursor c.now) × (c.now.name ≡ name)
    by true same found rest =
        let value : e.1 ≡ c = cc in
        subst (λ (x : Bor Cursor). IsAmong items (item.Cursor x.now) × (x.now.name ≡ name)) value (all.0.0, sym all.0.1 ∙ sym (names_equal name e.0 same))
    by false same found rest = rest found

-- a statement whose cursors have these numbers
pub statement_found : (names : KnownTables) → (m : ModuleText) (cursors : List DeclaredCursor) (numbers : List (Name × ℕ)) (user : Name) (parameters : List ParameterDesc) (s : Statement) (r : Result BoundStatement Stop)
    → user ≡ m.authorization → AreNumbers names m cursors numbers → IfOk r (IsStatementOf names (λ name n. lookup (same_name name) numbers ≡ Some n) user parameters s)
    → IfOk r (IsStatementIn names m cursors parameters s)
statement_found names m cursors numbers user parameters s (Ok b) is are h =
    subst (λ u. IsStatementOf names (IsNumberOf names m cursors) u parameters s b) is
    (statement_where names (λ name n. lookup (same_name name) numbers ≡ Some n) (IsNumberOf names m cursors) (λ name n. number_found names m cursors numbers name n are) user parameters s b h)
statement_found names m cursors numbers user parameters s (Err e) is are h = tt

-- a procedure more, or another of that name
pub procedure_next : (names : KnownTables) → (texts : List ModuleText) (m : ModuleText) (cursors : List DeclaredCursor) (procedures more : List (ProcedureName × BoundProcedure)) (name : ProcedureName) (p : Procedure) (b : BoundProcedure)
    → more ≡ insert_entry same_procedure procedures name b → IsAmong texts m → name.«module» ≡ m.name → IsAmong m.items (item.Procedure p) → name.name ≡ p.name → IsBoundFrom names m cursors p b
    → AreFromTexts names texts cursors procedures → AreFromTexts names texts cursors more
procedure_next names texts m cursors procedures more name p b is among named is_item is_named bound all =
    subst (AreFromTexts names texts cursors) (sym is) (all_entries same_procedure (IsFromTexts names texts cursors) procedures name b same one all)
  where
    one : IsFromTexts names texts cursors (name, b)
    one = record { text = m; among = among; named = named; procedure = p; is_item = is_item; is_named = is_named; bound = bound }

    same : (q : ProcedureName) → same_procedure name q ≡ true → IsFromTexts names texts cursors (q, b)
    same q h =
        let both = and_parts (same_name name.«module» q.«module») (same_name name.name q.name) h in record {
          text = m;
          among = among;
          named = sym (names_equal name.«module» q.«module» both.0) ∙ named;
          procedure = p;
          is_item = is_item;
          is_named = sym (names_equal name.name q.name both.1) ∙ is_named;
          bound = bound;
        }

-- ---- elements of what is admitted

pub all_at : {X : Type 0} (P : X → Type 0) (xs : List X) (i : ℕ) (x : X) → i < length xs → x ≡ get_or xs i x → AllByRecursion P xs → P x
all_at P [] i x lt is all = let no : ⊥ = omega (arith, lt) in absurd no
all_at P (y ∷ xs) zero x lt is all = subst P (sym is) all.0
all_at P (y ∷ xs) (suc i) x lt is all = all_at P xs i x (omega (arith, lt)) is all.1

pub take_whole : {X : Type 0} (n : ℕ) (xs : List X) → length xs ≤ n → take n xs ≡ xs
take_whole zero [] le = refl
take_whole zero (x ∷ xs) le = let no : ⊥ = omega (arith, le) in absurd no
take_whole (suc n) [] le = refl
take_whole (suc n) (x ∷ xs) le = ap (λ l. x ∷ l) (take_whole n xs (omega (arith, le)))
