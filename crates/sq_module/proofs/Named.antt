-- The cursors that the names of a module mean, with one procedure after the other, are those that the definitions compute (ISO/IEC 9075:1992,
-- 13.1).
use Rattle.std.proofs.Common.{◌≡◌, ◌∙◌, ℕ, zero, suc, ◌+◌, ◌<◌, Bool, true, false, cond, ◌||◌, if◌then◌else◌, List, [], ◌∷◌, ◌++◌, length, get_or, take, map, Option, Some, None, IfSome, Result, Ok, Err, slice_get, refl, sym, ap, ap₂, subst, arith}
use Rattle.std.proofs.lemmas.List.{append-nil, map-append}
use Rattle.std.proofs.lemmas.List.Folds.{list_any-append}
use Rattle.std.specs.List.{IsAmong, list_any}
use Rattle.std.specs.Map.{lookup}
use Rattle.std.specs.Option.{option_and_then, option_map}
use Rattle.std.specs.Prelude.{count_by, filter, filter_map, find, flat_map, unwrap_or}
use Rattle.std.specs.Result.{result_ok}
use Rattle.std.specs.List.{cons_option}
use Rattle.std.specs.Borrow.{Bor}
use Rattle.std.proofs.lemmas.Cmp.{nat_list_eq_equiv}
use Rattle.sq_value.proofs.Truths.{or_false, or_true}
use Rattle.indexmap.specs.IndexMap.{insert_entry}
use Rattle.sq_lex.specs.declared.name.Name.{Name}
use Rattle.sq_tree.specs.declared.module.Cursor.{Cursor}
use Rattle.sq_tree.specs.declared.module.Declaration.{Declaration}
use Rattle.sq_tree.specs.declared.module.Declaration.TheVariants as declaration
use Rattle.sq_tree.specs.declared.module.ModuleItem.TheVariants as item
use Rattle.sq_tree.specs.declared.module.ModuleText.{ModuleText}
use Rattle.sq_tree.specs.declared.module.Procedure.{Procedure}
use Rattle.sq_tree.specs.declared.statement.Statement.{Statement}
use Rattle.sq_tree.specs.declared.statement.Statement.TheVariants as tree
use Rattle.sq_meaning.specs.Environment.{same_name}
use Rattle.sq_meaning.specs.Spelled.{domain_of}
use Rattle.sq_meaning.specs.Module.{cursor_named, declarations_of, declared_by, declared_in, declared_parameters, opens, procedures}
use Rattle.sq_meaning.specs.WellFormedStatement.{opener_parameters}
use Rattle.sq_bound.specs.declared.names.ParameterDesc.{ParameterDesc}
use Rattle.sq_bound.specs.declared.query.BoundCursor.{BoundCursor}
use Rattle.sq_binding.specs.Change.{NamedCursor}
use Rattle.sq_binding.specs.Changeable.{UserNames}
use Rattle.sq_binding.specs.Cursor.{cursor_bound}
use Rattle.sq_binding.specs.Procedure.{cursor_if_sound, module_cursors, numbered}
use Rattle.sq_binding.proofs.Placing.SameParameters.{name_itself, names_equal}
use Rattle.sq_binder.specs.declared.stop.Fault.{Fault}
use Rattle.sq_binder.specs.declared.stop.Stop.{Stop}
use Rattle.sq_binder.specs.declared.stop.Stop.TheVariants as stop
use Rattle.sq_binder.specs.Binds.{Binds}
use Rattle.sq_binding.specs.Names.{declared}
use Rattle.sq_binding.specs.SeenQuery.{cursor_seen}
use Rattle.sq_module.specs.Admitted.{OpensEachOnce, admitted_written, opened_of, openings}
use Rattle.sq_module.specs.Named.{AreNamed, AreNamedAs, cursor_at, cursors_named, number_in, numbered_as, opened_so_far}
use Rattle.sq_module.specs.Opened.{AreThere}
use Rattle.sq_module.specs.Refusal.{is_some_name, opened_by}
use Rattle.sq_module.specs.Written.{Declare, IsOfText, IsProcedureOf, named_as, named_in}
use Rattle.sq_module.specs.declared.admission.AdmittedModule.{AdmittedModule}
use Rattle.sq_module.specs.declared.admission.AdmittedProcedure.{AdmittedProcedure}
use Rattle.sq_module.specs.declared.program.DeclaredCursor.{DeclaredCursor}
use Rattle.sq_module.proofs.Apart.{any_mapped, count_cons, count_mapped, counted_any, none_before, none_counted, once_found}
use Rattle.sq_module.proofs.Listed.{found_named, found_written}
use Rattle.sq_module.proofs.Opening.{lookup_inserted, lookup_other, number_there}
use Rattle.sq_module.proofs.Written.{all_at}

-- a cursor of the module that a procedure opens is opened by none before it, and bound for its parameters
abbrev pub IsOnlyIn : ModuleText → List AdmittedProcedure → AdmittedProcedure → Type 0
IsOnlyIn m before p = IfSome (opened_of p) (λ name. IfSome (cursor_named m name)
    (λ c. (list_any (is_some_name name) (openings before) ≡ false)
    × (opener_parameters m c.name ≡ declared p.parameters)))

-- what is bound is the cursor of this name in the module, which a procedure opens, and none before it
pub record IsNext (names : UserNames) (m : ModuleText) (before : List AdmittedProcedure)
    (p : AdmittedProcedure) (name : Name) (bound : Result BoundCursor Stop) : Type 0 where
  pub opens : opened_of p ≡ Some name
  pub new : list_any (is_some_name name) (openings before) ≡ false
  pub cursor : Cursor
  pub is_cursor : cursor_named m name ≡ Some cursor
  pub is_item : IsAmong m.items (item.Cursor cursor)
  pub is_named : cursor.name ≡ name
  pub binds : Binds cursor_seen (cursor_bound names (opener_parameters m cursor.name) cursor) bound

-- ---- parameters

declared_same : (ds : List Declaration) (ps : List ParameterDesc) → map named_as ps ≡ flat_map named_in ds → declared ps ≡ filter_map declared_by (filter_map declared_in ds)
declared_same [] [] e = refl
declared_same [] (p ∷ ps) e = cc
declared_same (declaration.Parameter name data_type ∷ ds) [] e = cc
declared_same (declaration.Parameter name data_type ∷ ds) (p ∷ ps) e =
    let head : named_as p ≡ (name, domain_of data_type) = cc in
    let rest : map named_as ps ≡ flat_map named_in ds = cc in
    (λ i. cons_option (option_map (λ domain. record { name = (head i).0; domain = domain }) (head i).1) (declared_same ds ps rest i))
declared_same (declaration.Sqlcode ∷ ds) ps e = declared_same ds ps e
declared_same (declaration.Sqlstate ∷ ds) ps e = declared_same ds ps e

-- the bound ones are the declared ones
pub bound_declared : (p : Procedure) (ps : List ParameterDesc) → Declare (declarations_of p.declarations) ps → declared ps ≡ declared_parameters p
bound_declared p ps e = declared_same (declarations_of p.declarations) ps e

-- ---- one of a list passes

none_kept : {X : Type 0} (test : X → Bool) (xs : List X) → list_any test xs ≡ false → filter test xs ≡ []
none_kept test [] none = refl
none_kept {X} test (y ∷ ys) none = by (test y) none (none_kept test ys)
  where
    by : (b : Bool) → (b || list_any test ys) ≡ false → (list_any test ys ≡ false → filter test ys ≡ []) → cond b (y ∷ filter test ys) (filter test ys) ≡ []
    by true none rest = cc
    by false none rest = rest none

only_kept : {X : Type 0} (test : X → Bool) (xs : List X) (i : ℕ) (x : X) → i < length xs → x ≡ get_or xs i x → test x ≡ true → count_by test xs ≡ 1 → filter test xs ≡ x ∷ []
only_kept test [] i x lt is passes once = let no : ⊥ = omega (arith, lt) in absurd no
only_kept test (y ∷ ys) zero x lt is passes once =
    let own : test y ≡ true = ap test (sym is) ∙ passes in
    let left : count_by test ys ≡ 0 = by_count (test y) own (sym (count_cons test y ys) ∙ once) in
    ap (λ b. cond b (y ∷ filter test ys) (filter test ys)) own ∙ ap₂ (λ z zs. z ∷ zs) (sym is) (none_kept test ys (none_counted test ys left))
  where
    by_count : (b : Bool) → b ≡ true → cond b 1 0 + count_by test ys ≡ 1 → count_by test ys ≡ 0
    by_count true own h = omega (arith, h)
    by_count false own h = cc
only_kept {X} test (y ∷ ys) (suc i) x lt is passes once = by (test y) (sym (count_cons test y ys) ∙ once) (only_kept test ys i x (omega (arith, lt)) is passes)
  where
    counted : count_by test ys ≡ 0 → ⊥
    counted none = some_there ys i (omega (arith, lt)) is (none_counted test ys none)
      where
        some_there : (zs : List X) (i : ℕ) → i < length zs → x ≡ get_or zs i x → list_any test zs ≡ false → ⊥
        some_there [] i lt is none = let no : ⊥ = omega (arith, lt) in no
        some_there (z ∷ zs) zero lt is none = first (test z) (ap test (sym is) ∙ passes) none
          where
            first : (b : Bool) → b ≡ true → (b || list_any test zs) ≡ false → ⊥
            first true p h = cc
            first false p h = cc
        some_there (z ∷ zs) (suc i) lt is none = some_there zs i (omega (arith, lt)) is (later (test z) none)
          where
            later : (b : Bool) → (b || list_any test zs) ≡ false → list_any test zs ≡ false
            later true h = cc
            later false h = h

    by : (b : Bool) → cond b 1 0 + count_by test ys ≡ 1 → (count_by test ys ≡ 1 → filter test ys ≡ x ∷ []) → cond b (y ∷ filter test ys) (filter test ys) ≡ x ∷ []
    by true h rest = let none : count_by test ys ≡ 0 = omega (arith, h) in absurd (counted none)
    by false h rest = let one : count_by test ys ≡ 1 = omega (arith, h) in rest one

-- ---- the procedure that opens a cursor

opens_named : (name : Name) (s : Statement) → opens name s ≡ is_some_name name (opened_by s)
opens_named name (tree.Open other) = nat_list_eq_equiv.symm other name
opens_named name (tree.Fetch f) = refl
opens_named name (tree.Close other) = refl
opens_named name (tree.Select s) = refl
opens_named name (tree.Insert i) = refl
opens_named name (tree.Update u) = refl
opens_named name (tree.Delete d) = refl
opens_named name (tree.Commit w) = refl
opens_named name (tree.Rollback w) = refl

openers_alike : (name : Name) (ps : List AdmittedProcedure) → filter (λ (q : Procedure). opens name q.statement) (admitted_written ps) ≡ admitted_written (filter (λ q. is_some_name name (opened_of q)) ps)
openers_alike name [] = refl
openers_alike name (p ∷ ps) = by (opens name p.procedure.now.statement) (is_some_name name (opened_of p)) (opens_named name p.procedure.now.statement) (openers_alike name ps)
  where
    by : (a b : Bool) → a ≡ b → filter (λ (q : Procedure). opens name q.statement) (admitted_written ps) ≡ admitted_written (filter (λ q. is_some_name name (opened_of q)) ps)
        → cond a (p.procedure.now ∷ filter (λ (q : Procedure). opens name q.statement) (admitted_written ps)) (filter (λ (q : Procedure). opens name q.statement) (admitted_written ps))
        ≡ admitted_written (cond b (p ∷ filter (λ q. is_some_name name (opened_of q)) ps) (filter (λ q. is_some_name name (opened_of q)) ps))
    by true true h rest = ap (λ l. p.procedure.now ∷ l) rest
    by false false h rest = rest
    by true false h rest = cc
    by false true h rest = cc

-- ---- what is known of a module

pub named_in_text : (m : ModuleText) (a : AdmittedModule) → IsOfText m a → (name : Name) → option_map (λ (c : Bor Cursor). c.now) (lookup (same_name name) a.cursors.entries) ≡ cursor_named m name
named_in_text m a of name = found_written m.items a.cursors.entries name of.cursors ∙ ap (find (λ (c : Cursor). same_name c.name name)) of.all_cursors

module _ (m : ModuleText) (a : AdmittedModule) (of : IsOfText m a) (once : OpensEachOnce a) where
  abbrev ps : List AdmittedProcedure
  ps = a.procedures.items

  counted_once : (name : Name) (c : Cursor) → cursor_named m name ≡ Some c → count_by (λ q. is_some_name name (opened_of q)) ps ≡ 1
  counted_once name c there = by (lookup (same_name name) a.cursors.entries) refl (named_in_text m a of name ∙ there)
    where
      by : (o : Option (Bor Cursor)) → lookup (same_name name) a.cursors.entries ≡ o → option_map (λ (c : Bor Cursor). c.now) o ≡ Some c → count_by (λ q. is_some_name name (opened_of q)) ps ≡ 1
      by None is h = cc
      by (Some b) is h = sym (count_mapped opened_of (is_some_name name) ps) ∙ once_found ps a.cursors.entries name b once is

  -- the cursors that names mean once all procedures are looked at
  pub named_as_module : (names : UserNames) (cursors : List DeclaredCursor) (numbers : List (Name × ℕ)) → AreNamed names m ps cursors numbers → AreNamedAs names m cursors numbers
  named_as_module names cursors numbers are = λ i name. (are name ∙ whole name (cursor_named m name) refl) i
    where
      whole : (name : Name) (o : Option Cursor) → cursor_named m name ≡ o → opened_so_far names m ps numbers name ≡ module_cursors names (number_in numbers) m name
      whole name None is = ap (λ o. if list_any (is_some_name name) (openings ps) then option_and_then (cursor_if_sound names (number_in numbers name) m) o else None) is ∙ none (list_any (is_some_name name) (openings ps)) ∙ sym (ap (option_and_then (cursor_if_sound names (number_in numbers name) m)) is)
        where
          none : (b : Bool) → (let found : Option NamedCursor = None in if b then found else found) ≡ None
          none true = refl
          none false = refl
      whole name (Some c) is =
          ap (λ b. if b then option_and_then (cursor_if_sound names (number_in numbers name) m) (cursor_named m name) else None)
          (any_mapped opened_of (is_some_name name) ps ∙ counted_any (λ q. is_some_name name (opened_of q)) ps (counted_once name c is))

  module _ (i : ℕ) (p : AdmittedProcedure) (lt : i < length ps) (is : p ≡ get_or ps i p) where
    parameters_are : (name : Name) (c : Cursor) → opened_of p ≡ Some name → cursor_named m name ≡ Some c → opener_parameters m c.name ≡ declared p.parameters
    parameters_are name c opened there =
        let named : c.name ≡ name = found_named name _ c there in
        let own : is_some_name name (opened_of p) ≡ true = ap (is_some_name name) opened ∙ name_itself name in
        let kept : filter (λ q. is_some_name name (opened_of q)) ps ≡ p ∷ [] = only_kept (λ q. is_some_name name (opened_of q)) ps i p lt is own (counted_once name c there) in
        let procedure : IsProcedureOf m.items p = all_at (IsProcedureOf m.items) ps i p lt is of.procedures in
        ap (opener_parameters m) named
        ∙ ap (λ l. flat_map declared_parameters (filter (λ (q : Procedure). opens name q.statement) l)) (sym of.all_procedures)
        ∙ ap (flat_map declared_parameters) (openers_alike name ps ∙ ap admitted_written kept)
        ∙ append-nil (declared_parameters p.procedure.now)
        ∙ sym (bound_declared p.procedure.now p.parameters procedure.1)

    pub only_in : IsOnlyIn m (take i ps) p
    only_in = by (opened_of p) refl
      where
        found : (name : Name) → opened_of p ≡ Some name → (o : Option Cursor) → cursor_named m name ≡ o
            → IfSome o (λ c. (list_any (is_some_name name) (openings (take i ps)) ≡ false) × (opener_parameters m c.name ≡ declared p.parameters))
        found name opened None there = tt
        found name opened (Some c) there =
            let own : is_some_name name (opened_of p) ≡ true = ap (is_some_name name) opened ∙ name_itself name in (
              any_mapped opened_of (is_some_name name) (take i ps) ∙ none_before (λ q. is_some_name name (opened_of q)) ps i p lt is own (counted_once name c there),
              parameters_are name c opened there,
            )

        by : (o : Option Name) → opened_of p ≡ o
            → IfSome o (λ name. IfSome (cursor_named m name) (λ c. (list_any (is_some_name name) (openings (take i ps)) ≡ false) × (opener_parameters m c.name ≡ declared p.parameters)))
        by None opened = tt
        by (Some name) opened = found name opened (cursor_named m name) refl

-- ---- one procedure more

any_more : (before : List AdmittedProcedure) (p : AdmittedProcedure) (name : Name) (b : Bool) → is_some_name name (opened_of p) ≡ b
    → list_any (is_some_name name) (openings (before ++ p ∷ [])) ≡ (list_any (is_some_name name) (openings before) || b)
any_more before p name b is =
    ap (list_any (is_some_name name)) (map-append opened_of before (p ∷ [])) ∙ list_any-append (is_some_name name) (openings before) (openings (p ∷ []))
    ∙ ap (λ c. list_any (is_some_name name) (openings before) || c) (or_false (is_some_name name (opened_of p)) ∙ is)

module _ (names : UserNames) (m : ModuleText) (before : List AdmittedProcedure) (p : AdmittedProcedure) where
  abbrev Known : List (Name × ℕ) → Name → Bool → Option NamedCursor
  Known numbers name b = if b then option_and_then (cursor_if_sound names (number_in numbers name) m) (cursor_named m name) else None

  -- a name that the procedure does not open means what it meant
  kept_same : (numbers : List (Name × ℕ)) (name : Name) → is_some_name name (opened_of p) ≡ false → opened_so_far names m (before ++ p ∷ []) numbers name ≡ opened_so_far names m before numbers name
  kept_same numbers name other = ap (Known numbers name) (any_more before p name false other ∙ or_false (list_any (is_some_name name) (openings before)))

  -- one that opens no cursor
  pub named_none : (cursors : List DeclaredCursor) (numbers : List (Name × ℕ)) → opened_of p ≡ None → AreNamed names m before cursors numbers → AreNamed names m (before ++ p ∷ []) cursors numbers
  named_none cursors numbers opened are name = are name ∙ sym (kept_same numbers name (ap (is_some_name name) opened))

  both_none : (numbers : List (Name × ℕ)) (name : Name) (a b : Bool) → cursor_named m name ≡ None → Known numbers name a ≡ Known numbers name b
  both_none numbers name true true is = refl
  both_none numbers name false false is = refl
  both_none numbers name true false is = ap (option_and_then (cursor_if_sound names (number_in numbers name) m)) is
  both_none numbers name false true is = sym (ap (option_and_then (cursor_if_sound names (number_in numbers name) m)) is)

  -- one that opens none of the module
  pub named_absent : (cursors : List DeclaredCursor) (numbers : List (Name × ℕ)) (n : Name) → opened_of p ≡ Some n → cursor_named m n ≡ None
      → AreNamed names m before cursors numbers → AreNamed names m (before ++ p ∷ []) cursors numbers
  named_absent cursors numbers n opened absent are name = are name ∙ sym (by (same_name name n) refl)
    where
      by : (b : Bool) → same_name name n ≡ b → opened_so_far names m (before ++ p ∷ []) numbers name ≡ opened_so_far names m before numbers name
      by false other = kept_same numbers name (ap (is_some_name name) opened ∙ other)
      by true same =
          both_none numbers name (list_any (is_some_name name) (openings (before ++ p ∷ []))) (list_any (is_some_name name) (openings before)) (ap (cursor_named m) (names_equal name n same) ∙ absent)

  -- one whose cursor has a fault
  faulty : (numbers : List (Name × ℕ)) (name : Name) (bound : Result BoundCursor Stop) (f : Fault) (h : IsNext names m before p name bound) → bound ≡ Err (stop.Fault f)
      → Known numbers name true ≡ None
  faulty numbers name bound f h is =
      let outcome : cursor_bound names (opener_parameters m h.cursor.name) h.cursor ≡ Err f.rule
      = subst (λ (r : Result BoundCursor Stop). Binds cursor_seen (cursor_bound names (opener_parameters m h.cursor.name) h.cursor) r) is h.binds in
      ap (option_and_then (cursor_if_sound names (number_in numbers name) m)) h.is_cursor ∙ ap (λ o. option_map (numbered (number_in numbers name)) (result_ok o)) outcome

  pub named_fault : (cursors : List DeclaredCursor) (numbers : List (Name × ℕ)) (n : Name) (bound : Result BoundCursor Stop) (f : Fault) → IsNext names m before p n bound → bound ≡ Err (stop.Fault f)
      → AreNamed names m before cursors numbers → AreNamed names m (before ++ p ∷ []) cursors numbers
  named_fault cursors numbers n bound f h is are name = by (same_name name n) refl
    where
      by : (b : Bool) → same_name name n ≡ b → cursors_named cursors numbers name ≡ opened_so_far names m (before ++ p ∷ []) numbers name
      by false other = are name ∙ sym (kept_same numbers name (ap (is_some_name name) h.opens ∙ other))
      by true same =
          let eq : name ≡ n = names_equal name n same in
          subst (λ x. cursors_named cursors numbers x ≡ opened_so_far names m (before ++ p ∷ []) numbers x) (sym eq)
          (are n ∙ ap (Known numbers n) h.new
          ∙ sym (ap (Known numbers n) (any_more before p n true (ap (is_some_name n) h.opens ∙ name_itself n) ∙ or_true (list_any (is_some_name n) (openings before))) ∙ faulty numbers n bound f h is))

  -- one whose cursor has none, and comes last
  pub named_next : (cursors new : List DeclaredCursor) (numbers after : List (Name × ℕ)) (n : Name) (k : ℕ) (bound : Result BoundCursor Stop) (b : BoundCursor) (d : DeclaredCursor) → IsNext names m before p n bound
      → bound ≡ Ok b → d.cursor ≡ b → new ≡ cursors ++ d ∷ [] → after ≡ insert_entry same_name numbers n k → k ≡ length cursors → AreThere (length cursors) numbers
      → AreNamed names m before cursors numbers → AreNamed names m (before ++ p ∷ []) new after
  named_next cursors new numbers after n k bound b d h is of_cursor added entered last there are name = by (same_name name n) refl
    where
      at_last : (cs : List DeclaredCursor) → slice_get (cs ++ d ∷ []) (length cs) ≡ Some d
      at_last [] = refl
      at_last (c ∷ cs) = at_last cs

      still_at : (cs : List DeclaredCursor) (v : ℕ) → v < length cs → slice_get (cs ++ d ∷ []) v ≡ slice_get cs v
      still_at [] v lt = let no : ⊥ = omega (arith, lt) in absurd no
      still_at (c ∷ cs) zero lt = refl
      still_at (c ∷ cs) (suc v) lt = still_at cs v (omega (arith, lt))

      kept : (q : Name) (o : Option ℕ) → lookup (same_name q) numbers ≡ o → option_and_then (cursor_at new) o ≡ option_and_then (cursor_at cursors) o
      kept q None found = refl
      kept q (Some v) found = ap (option_map (numbered_as v)) (ap (λ cs. slice_get cs v) added ∙ still_at cursors v (number_there (length cursors) numbers q v there found))

      outcome : cursor_bound names (opener_parameters m h.cursor.name) h.cursor ≡ Ok (cursor_seen b)
      outcome = subst (λ (r : Result BoundCursor Stop). Binds cursor_seen (cursor_bound names (opener_parameters m h.cursor.name) h.cursor) r) is h.binds

      own_number : lookup (same_name n) after ≡ Some k
      own_number = ap (lookup (same_name n)) entered ∙ lookup_inserted numbers n n k (name_itself n)

      means : cursors_named new after n ≡ Some (numbered_as k d)
      means =
          ap (option_and_then (cursor_at new)) own_number
          ∙ ap (option_map (numbered_as k)) (ap₂ (λ cs v. slice_get cs v) added last ∙ at_last cursors)

      computes : Known after n true ≡ Some (numbered_as k d)
      computes =
          ap (option_and_then (cursor_if_sound names (number_in after n) m)) h.is_cursor
          ∙ ap (λ o. option_map (numbered (number_in after n)) (result_ok o)) outcome
          ∙ (λ j. Some (numbered (unwrap_or (own_number j) 0) (cursor_seen (sym of_cursor j))))

      by : (c : Bool) → same_name name n ≡ c → cursors_named new after name ≡ opened_so_far names m (before ++ p ∷ []) after name
      by false other =
          let found : lookup (same_name name) after ≡ lookup (same_name name) numbers = ap (lookup (same_name name)) entered ∙ lookup_other numbers n name k other in
          ap (option_and_then (cursor_at new)) found ∙ kept name (lookup (same_name name) numbers) refl ∙ are name
          ∙ (λ j. if list_any (is_some_name name) (openings before) then option_and_then (cursor_if_sound names (unwrap_or (sym found j) 0) m) (cursor_named m name) else None)
          ∙ sym (kept_same after name (ap (is_some_name name) h.opens ∙ other))
      by true same =
          let eq : name ≡ n = names_equal name n same in
          subst (λ x. cursors_named new after x ≡ opened_so_far names m (before ++ p ∷ []) after x) (sym eq)
          (means ∙ sym (ap (Known after n) (any_more before p n true (ap (is_some_name n) h.opens ∙ name_itself n) ∙ or_true (list_any (is_some_name n) (openings before))) ∙ computes))

-- where no procedure is looked at, no name means one
pub named_first : (names : UserNames) (m : ModuleText) (cursors : List DeclaredCursor) (numbers : List (Name × ℕ)) → numbers ≡ [] → AreNamed names m [] cursors numbers
named_first names m cursors numbers none name = ap (λ (es : List (Name × ℕ)). option_and_then (cursor_at cursors) (lookup (same_name name) es)) none
