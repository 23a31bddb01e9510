-- Cursors that procedures open, where cursors come behind the others.
use Rattle.std.proofs.Common.{◌≡◌, ℕ, zero, suc, ◌+◌, ◌<◌, ◌≤◌, Bool, true, false, ◌&&◌, if◌then◌else◌, List, [], ◌∷◌, ◌++◌, length, length-append, nat_lt, get_or, append_assoc, Option, Some, None, IfSome, slice_get, Result, Ok, Err, IfOk, refl, sym, ap, ap₂, ◌∙◌, subst, arith}
use Rattle.std.proofs.lemmas.Bool.{and_parts, lt-ltb, ltb-true}
use Rattle.std.specs.Cmp.Lexicographic.{same_text}
use Rattle.std.specs.List.{AllByRecursion, list_all}
use Rattle.std.specs.Map.{lookup}
use Rattle.indexmap.specs.IndexMap.{insert_entry}
use Rattle.sq_bound.specs.Known.{KnownTables}
use Rattle.sq_lex.specs.declared.name.Name.{Name}
use Rattle.sq_value.specs.declared.domain.Kind.{Kind}
use Rattle.sq_tree.specs.declared.statement.Statement.{Statement}
use Rattle.sq_tree.specs.declared.statement.Statement.TheVariants as tree
use Rattle.sq_meaning.specs.Environment.{same_name}
use Rattle.sq_meaning.specs.Status.{well_formed}
use Rattle.sq_meaning.specs.WellFormed.{Has}
use Rattle.sq_binder.specs.declared.stop.Fault.{Fault}
use Rattle.sq_binder.specs.declared.stop.Stop.{Stop}
use Rattle.sq_bound.specs.declared.statement.BoundStatement.{BoundStatement}
use Rattle.sq_bound.specs.declared.statement.BoundStatement.TheVariants as statement
use Rattle.sq_bound.specs.WellFormed.{IsCursor, TableKinds, kinds_of_parameters}
use Rattle.sq_bound.specs.declared.names.ParameterDesc.{ParameterDesc}
use Rattle.sq_binding.proofs.Placing.SameParameters.{name_itself}
use Rattle.sq_binding.specs.Written.{IsStatementOf}
use Rattle.sq_module.specs.Admitted.{opened_of}
use Rattle.sq_module.specs.Computed.{as_bound}
use Rattle.sq_module.specs.Opened.{AreOpenable, AreThere, Grow, IsOpenable}
use Rattle.sq_module.specs.Program.{OpensWellFormed, ProcedureOpens, ProceduresOpen}
use Rattle.sq_module.specs.Refusal.{is_some_name, opened_by}
use Rattle.sq_module.specs.declared.admission.AdmittedProcedure.{AdmittedProcedure}
use Rattle.sq_module.specs.declared.program.BoundProcedure.{BoundProcedure}
use Rattle.sq_module.specs.declared.program.DeclaredCursor.{DeclaredCursor}
use Rattle.sq_module.specs.declared.program.ProcedureName.{ProcedureName}

-- the procedures that open the cursor of this name have parameters of these kinds
abbrev pub HaveKinds : Name → List Kind → List AdmittedProcedure → Type 0
HaveKinds name kinds =
    AllByRecursion (λ p. is_some_name name (opened_of p) ≡ true → kinds_of_parameters p.parameters ≡ kinds)

-- what is known of the one at a place is known among more, too
pub there_still : {X : Type 0} (P : X → Type 0) (xs more : List X) (i : ℕ) → Has P (well_formed (slice_get xs i)) → Has P (well_formed (slice_get (xs ++ more) i))
there_still P [] more i known = absurd known
there_still P (x ∷ xs) more zero known = known
there_still P (x ∷ xs) more (suc i) known = there_still P xs more i known

-- the last is at the place that has as many before it
pub last_there : {X : Type 0} (P : X → Type 0) (xs : List X) (x : X) → P x → Has P (well_formed (slice_get (xs ++ x ∷ []) (length xs)))
last_there P [] x h = h
last_there P (y ∷ xs) x h = last_there P xs x h

there_below : {X : Type 0} (P : X → Type 0) (xs : List X) (i : ℕ) → Has P (well_formed (slice_get xs i)) → i < length xs
there_below P [] i known = absurd known
there_below P (x ∷ xs) zero known = omega arith
there_below P (x ∷ xs) (suc i) known = let less : i < length xs = there_below P xs i known in omega (arith, less)

-- ---- statements and procedures, with more cursors

opens_more : (columns : TableKinds) (cursors more : List DeclaredCursor) (parameters : List Kind) (s : BoundStatement) → OpensWellFormed columns cursors parameters s → OpensWellFormed columns (cursors ++ more) parameters s
opens_more columns cursors more parameters (statement.Open n) h = there_still (λ (c : DeclaredCursor). IsCursor columns parameters c.cursor) cursors more n h
opens_more columns cursors more parameters (statement.Fetch f) h = tt
opens_more columns cursors more parameters (statement.Close n) h = tt
opens_more columns cursors more parameters (statement.Select s) h = tt
opens_more columns cursors more parameters (statement.Insert i) h = tt
opens_more columns cursors more parameters (statement.Update u) h = tt
opens_more columns cursors more parameters (statement.Delete t) h = tt
opens_more columns cursors more parameters statement.Commit h = tt
opens_more columns cursors more parameters statement.Rollback h = tt

procedure_opens_more : (columns : TableKinds) (cursors more : List DeclaredCursor) (p : BoundProcedure) → ProcedureOpens columns cursors p → ProcedureOpens columns (cursors ++ more) p
procedure_opens_more columns cursors more p h = by p.statement h
  where
    ps : List Kind
    ps = kinds_of_parameters p.parameters

    by : (r : Result BoundStatement Fault) → IfOk r (OpensWellFormed columns cursors ps) → IfOk r (OpensWellFormed columns (cursors ++ more) ps)
    by (Ok s) h = opens_more columns cursors more ps s h
    by (Err e) h = tt

pub procedures_open_more : (columns : TableKinds) (cursors more : List DeclaredCursor) (procedures : List (ProcedureName × BoundProcedure)) → ProceduresOpen columns cursors procedures → ProceduresOpen columns (cursors ++ more) procedures
procedures_open_more columns cursors more [] h = tt
procedures_open_more columns cursors more (e ∷ es) h = (procedure_opens_more columns cursors more e.1 h.0, procedures_open_more columns cursors more es h.1)

pub grow_on : (old new now : List DeclaredCursor) → Grow old new → Grow new now → Grow old now
grow_on old new now first next = (first.0 ++ next.0, next.1 ∙ ap (λ cs. cs ++ next.0) first.1 ∙ append_assoc old first.0 next.0)

-- ---- a cursor that is bound

pub last_opened : (columns : TableKinds) (parameters : List Kind) (cursors new : List DeclaredCursor) (c : DeclaredCursor) → new ≡ cursors ++ c ∷ [] → IsCursor columns parameters c.cursor
    → OpensWellFormed columns new parameters (statement.Open (length cursors))
last_opened columns parameters cursors new c is one =
    subst (λ cs. Has (λ (d : DeclaredCursor). IsCursor columns parameters d.cursor) (well_formed (slice_get cs (length cursors)))) (sym is)
    (last_there (λ (d : DeclaredCursor). IsCursor columns parameters d.cursor) cursors c one)

-- ---- the numbers that names have

below_more : (n m : ℕ) → n ≤ m → (numbers : List (Name × ℕ)) → AreThere n numbers → AreThere m numbers
below_more n m le [] h = refl
below_more n m le (e ∷ es) h =
    let both = and_parts (nat_lt e.1 n) (list_all (λ x. nat_lt x.1 n) es) h in
    ap₂ (λ a b. a && b) (lt-ltb e.1 m (omega (arith, ltb-true e.1 n both.0))) (below_more n m le es both.1)

below_entered : (n : ℕ) (numbers : List (Name × ℕ)) (name : Name) (v : ℕ) → AreThere n numbers → v < n → AreThere n (insert_entry same_name numbers name v)
below_entered n [] name v h lt = ap (λ b. b && true) (lt-ltb v n lt)
below_entered n (e ∷ es) name v h lt =
    let both = and_parts (nat_lt e.1 n) (list_all (λ x. nat_lt x.1 n) es) h in
    by (same_name name e.0) refl both.0 both.1 (below_entered n es name v both.1 lt)
  where
    by : (b : Bool) → same_name name e.0 ≡ b → nat_lt e.1 n ≡ true → AreThere n es → AreThere n (insert_entry same_name es name v) → AreThere n (insert_entry same_name (e ∷ es) name v)
    by true same one all rest = rw same (ap₂ (λ a b. a && b) (lt-ltb v n lt) all)
    by false same one all rest = rw same (ap₂ (λ a b. a && b) one rest)

-- with that of the last cursor
pub numbers_there : (cursors new : List DeclaredCursor) (numbers after : List (Name × ℕ)) (name : Name) (n : ℕ) (d : DeclaredCursor) → new ≡ cursors ++ d ∷ []
    → after ≡ insert_entry same_name numbers name n → n ≡ length cursors → AreThere (length cursors) numbers → AreThere (length new) after
numbers_there cursors new numbers after name n d is entered last h =
    let count : length new ≡ length cursors + 1 = omega (arith, ap length is, length-append cursors (d ∷ [])) in
    subst (AreThere (length new)) (sym entered)
    (below_entered (length new) numbers name n (below_more (length cursors) (length new) (omega (arith, count)) numbers h) (omega (arith, count, last)))

pub number_there : (n : ℕ) (numbers : List (Name × ℕ)) (name : Name) (v : ℕ) → AreThere n numbers → lookup (same_name name) numbers ≡ Some v → v < n
number_there n [] name v h is = cc
number_there n (e ∷ es) name v h is =
    let both = and_parts (nat_lt e.1 n) (list_all (λ x. nat_lt x.1 n) es) h in
    by (same_name name e.0) refl is both.0 (λ found. number_there n es name v both.1 found)
  where
    by : (b : Bool) → same_name name e.0 ≡ b → (if b then Some e.1 else lookup (same_name name) es) ≡ Some v → nat_lt e.1 n ≡ true → (lookup (same_name name) es ≡ Some v → v < n) → v < n
    by true same found one rest = let value : e.1 ≡ v = cc in subst (λ x. x < n) value (ltb-true e.1 n one)
    by false same found one rest = rest found

-- ---- the number of a name in a map

pub lookup_inserted : {V : Type 0} (numbers : List (Name × V)) (name q : Name) (n : V) → same_name q name ≡ true → lookup (same_name q) (insert_entry same_name numbers name n) ≡ Some n
lookup_inserted [] name q n same = ap (λ b. if b then Some n else None) same
lookup_inserted {V} (e ∷ es) name q n same = by (same_name name e.0) refl (lookup_inserted es name q n same)
  where
    is : q ≡ name
    is = same_text q name (sym same)

    by : (b : Bool) → same_name name e.0 ≡ b → lookup (same_name q) (insert_entry same_name es name n) ≡ Some n → lookup (same_name q) (insert_entry same_name (e ∷ es) name n) ≡ Some n
    by true h rest = rw h (ap (λ b. if b then Some n else lookup (same_name q) es) (ap (λ (x : Name). same_name x e.0) is ∙ h))
    by false h rest = rw h (ap (λ b. if b then Some e.1 else lookup (same_name q) (insert_entry same_name es name n)) (ap (λ (x : Name). same_name x e.0) is ∙ h) ∙ rest)

pub lookup_other : {V : Type 0} (numbers : List (Name × V)) (name q : Name) (n : V) → same_name q name ≡ false → lookup (same_name q) (insert_entry same_name numbers name n) ≡ lookup (same_name q) numbers
lookup_other [] name q n other = ap (λ b. if b then Some n else None) other
lookup_other {V} (e ∷ es) name q n other = by (same_name name e.0) refl (lookup_other es name q n other)
  where
    by : (b : Bool) → same_name name e.0 ≡ b → lookup (same_name q) (insert_entry same_name es name n) ≡ lookup (same_name q) es → lookup (same_name q) (insert_entry same_name (e ∷ es) name n) ≡ lookup (same_name q) (e ∷ es)
    by true h rest =
        let apart : same_name q e.0 ≡ false = ap (same_name q) (sym (same_text name e.0 (sym h))) ∙ other in
        rw h (ap (λ b. if b then Some n else lookup (same_name q) es) apart ∙ sym (ap (λ b. if b then Some e.1 else lookup (same_name q) es) apart))
    by false h rest = rw h (ap (λ o. if same_name q e.0 then Some e.1 else o) rest)

-- ---- the cursors that procedures open, by their numbers

openable_more : (columns : TableKinds) (cursors new : List DeclaredCursor) (d : DeclaredCursor) (kinds : List Kind) (o : Option ℕ) → new ≡ cursors ++ d ∷ []
    → IfSome o (λ n. OpensWellFormed columns cursors kinds (statement.Open n)) → IfSome o (λ n. OpensWellFormed columns new kinds (statement.Open n))
openable_more columns cursors new d kinds None is h = tt
openable_more columns cursors new d kinds (Some n) is h =
    subst (λ cs. OpensWellFormed columns cs kinds (statement.Open n)) (sym is) (opens_more columns cursors (d ∷ []) kinds (statement.Open n) h)

-- with that of the last cursor
pub openable_next : (columns : TableKinds) (kinds : List Kind) (cursors new : List DeclaredCursor) (numbers after : List (Name × ℕ)) (name : Name) (n : ℕ) (d : DeclaredCursor) (ps : List AdmittedProcedure)
    → new ≡ cursors ++ d ∷ [] → after ≡ insert_entry same_name numbers name n → n ≡ length cursors → IsCursor columns kinds d.cursor → HaveKinds name kinds ps
    → AreOpenable columns cursors numbers ps → AreOpenable columns new after ps
openable_next columns kinds cursors new numbers after name n d [] is entered last one have h = tt
openable_next columns kinds cursors new numbers after name n d (p ∷ ps) is entered last one have h =
    (by (opened_of p) refl h.0, openable_next columns kinds cursors new numbers after name n d ps is entered last one have.1 h.1)
  where
    own : List Kind
    own = kinds_of_parameters p.parameters

    Opens : Option ℕ → Type 0
    Opens o = IfSome o (λ k. OpensWellFormed columns new own (statement.Open k))

    this : (q : Name) → opened_of p ≡ Some q → same_name q name ≡ true → Opens (Some n)
    this q opens same =
        let turned : same_name name q ≡ true = ap (λ (x : Name). same_name x q) (sym (same_text q name (sym same))) ∙ name_itself q in
        let kinds_are : own ≡ kinds = have.0 (ap (is_some_name name) opens ∙ turned) in
        subst (λ k. OpensWellFormed columns new own (statement.Open k)) (sym last)
        (subst (λ ks. OpensWellFormed columns new ks (statement.Open (length cursors))) (sym kinds_are) (last_opened columns kinds cursors new d is one))

    by_name : (q : Name) → opened_of p ≡ Some q → (b : Bool) → same_name q name ≡ b → IfSome (lookup (same_name q) numbers) (λ k. OpensWellFormed columns cursors own (statement.Open k))
        → Opens (lookup (same_name q) after)
    by_name q opens true same before = subst Opens (sym (ap (lookup (same_name q)) entered ∙ lookup_inserted numbers name q n same)) (this q opens same)
    by_name q opens false same before =
        subst Opens (sym (ap (lookup (same_name q)) entered ∙ lookup_other numbers name q n same)) (openable_more columns cursors new d own (lookup (same_name q) numbers) is before)

    by : (o : Option Name) → opened_of p ≡ o → IfSome o (λ q. IfSome (lookup (same_name q) numbers) (λ k. OpensWellFormed columns cursors own (statement.Open k)))
        → IfSome o (λ q. Opens (lookup (same_name q) after))
    by None opens before = tt
    by (Some q) opens before = by_name q opens (same_name q name) refl before

-- where no name has a number
pub openable_none : (columns : TableKinds) (cursors : List DeclaredCursor) (numbers : List (Name × ℕ)) → numbers ≡ [] → (ps : List AdmittedProcedure) → AreOpenable columns cursors numbers ps
openable_none columns cursors numbers none [] = tt
openable_none columns cursors numbers none (p ∷ ps) = (by (opened_of p), openable_none columns cursors numbers none ps)
  where
    by : (o : Option Name) → IfSome o (λ q. IfSome (lookup (same_name q) numbers) (λ k. OpensWellFormed columns cursors (kinds_of_parameters p.parameters) (statement.Open k)))
    by None = tt
    by (Some q) =
        subst (λ (es : List (Name × ℕ)). IfSome (lookup (same_name q) es) (λ k. OpensWellFormed columns cursors (kinds_of_parameters p.parameters) (statement.Open k))) (sym none) tt

-- ---- the cursor that a statement opens

opens_number : (names : KnownTables) (columns : TableKinds) (cursors : List DeclaredCursor) (numbers : List (Name × ℕ)) (user : Name) (ps : List ParameterDesc) (kinds : List Kind) (s : Statement) (b : BoundStatement)
    → IfSome (opened_by s) (λ name. IfSome (lookup (same_name name) numbers) (λ n. OpensWellFormed columns cursors kinds (statement.Open n)))
    → IsStatementOf names (λ name n. lookup (same_name name) numbers ≡ Some n) user ps s b → OpensWellFormed columns cursors kinds b
opens_number names columns cursors numbers user ps kinds (tree.Open name) (statement.Open n) can h = subst (λ o. IfSome o (λ n. OpensWellFormed columns cursors kinds (statement.Open n))) h can
opens_number names columns cursors numbers user ps kinds s (statement.Open n) can h = absurd h
opens_number names columns cursors numbers user ps kinds s (statement.Fetch f) can h = tt
opens_number names columns cursors numbers user ps kinds s (statement.Close n) can h = tt
opens_number names columns cursors numbers user ps kinds s (statement.Select t) can h = tt
opens_number names columns cursors numbers user ps kinds s (statement.Insert i) can h = tt
opens_number names columns cursors numbers user ps kinds s (statement.Update u) can h = tt
opens_number names columns cursors numbers user ps kinds s (statement.Delete t) can h = tt
opens_number names columns cursors numbers user ps kinds s statement.Commit can h = tt
opens_number names columns cursors numbers user ps kinds s statement.Rollback can h = tt

pub opens_openable : (names : KnownTables) (columns : TableKinds) (cursors : List DeclaredCursor) (numbers : List (Name × ℕ)) (user : Name) (p : AdmittedProcedure) (bound : Result BoundStatement Stop)
    → IsOpenable columns cursors numbers p → IfOk bound (IsStatementOf names (λ name n. lookup (same_name name) numbers ≡ Some n) user p.parameters p.procedure.now.statement)
    → IfOk bound (OpensWellFormed columns cursors (kinds_of_parameters p.parameters))
opens_openable names columns cursors numbers user p (Ok b) can h = opens_number names columns cursors numbers user p.parameters (kinds_of_parameters p.parameters) p.procedure.now.statement b can h
opens_openable names columns cursors numbers user p (Err stop) can h = tt

-- a statement that is no OPEN
pub opens_nothing : (s : Statement) → ((name : Name) → s ≡ tree.Open name → ⊥) → opened_by s ≡ None
opens_nothing (tree.Open name) other = absurd (other name refl)
opens_nothing (tree.Fetch f) other = refl
opens_nothing (tree.Close name) other = refl
opens_nothing (tree.Select s) other = refl
opens_nothing (tree.Insert i) other = refl
opens_nothing (tree.Update u) other = refl
opens_nothing (tree.Delete d) other = refl
opens_nothing (tree.Commit w) other = refl
opens_nothing (tree.Rollback w) other = refl

-- what holds of what is bound holds of what is kept of it
pub kept_is : {T : Type 0} (P : T → Type 0) (bound : Result T Stop) (kept : Result T Fault) → bound ≡ as_bound kept → IfOk bound P → IfOk kept P
kept_is P bound (Ok x) is h = subst (λ r. IfOk r P) is h
kept_is P bound (Err f) is h = tt

-- ---- the cursor with a number

pub cursor_there : (cursors : List DeclaredCursor) (n : ℕ) (d : DeclaredCursor) → n < length cursors → slice_get cursors n ≡ Some (get_or cursors n d)
cursor_there [] n d lt = let no : ⊥ = omega (arith, lt) in absurd no
cursor_there (c ∷ cursors) zero d lt = refl
cursor_there (c ∷ cursors) (suc n) d lt = cursor_there cursors n d (omega (arith, lt))
