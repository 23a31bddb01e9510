-- The cursors and procedures of an admitted module are those of its text, in order (ISO/IEC 9075:1992, 12.1 and 13.1).
use Rattle.std.proofs.Common.{◌≡◌, ◌∙◌, ℕ, ◌+◌, ◌<◌, ◌≤◌, Bool, true, false, if◌then◌else◌, List, [], ◌∷◌, ◌++◌, length, get_or, take, Option, Some, None, refl, sym, ap}
use Rattle.std.proofs.lemmas.List.{map-append, take_more}
use Rattle.std.proofs.lemmas.List.Elements.{filter_map-append}
use Rattle.std.specs.Borrow.{Bor}
use Rattle.std.specs.List.{AllByRecursion}
use Rattle.std.specs.Map.{lookup}
use Rattle.std.specs.Option.{option_map}
use Rattle.std.specs.Prelude.{filter_map, find, option_to_list}
use Rattle.std.proofs.lemmas.Cmp.{nat_list_eq_equiv}
use Rattle.indexmap.specs.IndexMap.{insert_entry}
use Rattle.sq_lex.specs.declared.name.Name.{Name}
use Rattle.sq_tree.specs.declared.module.Cursor.{Cursor}
use Rattle.sq_tree.specs.declared.module.ModuleItem.{ModuleItem}
use Rattle.sq_meaning.specs.Environment.{same_name}
use Rattle.sq_binding.proofs.Placing.SameParameters.{names_equal}
use Rattle.sq_module.specs.Admitted.{cursors_written}
use Rattle.sq_module.specs.Written.{IsCursorIn}
use Rattle.sq_module.proofs.Written.{take_whole}

-- ---- one item more

one_listed : {A : Type 0} (of : ModuleItem → Option A) (x : ModuleItem) → filter_map of (x ∷ []) ≡ option_to_list (of x)
one_listed {A} of x = by (of x)
  where
    by : (o : Option A) → (filter_map (λ (y : Option A). y) (o ∷ [])) ≡ option_to_list o
    by None = refl
    by (Some a) = refl

-- what is some of the items, with one more
pub listed_next : {A : Type 0} (of : ModuleItem → Option A) (items : List ModuleItem) (i : ℕ) (x : ModuleItem) (before after : List A) → i < length items → x ≡ get_or items i x
    → before ≡ filter_map of (take i items) → after ≡ before ++ option_to_list (of x) → after ≡ filter_map of (take (i + 1) items)
listed_next of items i x before after lt is so_far more =
    more ∙ ap (λ l. l ++ option_to_list (of x)) so_far ∙ ap (λ l. filter_map of (take i items) ++ l) (sym (one_listed of x))
    ∙ sym (filter_map-append of (take i items) (x ∷ []))
    ∙ ap (filter_map of) (ap (λ y. take i items ++ y ∷ []) is ∙ sym (take_more items i x lt))

pub listed_whole : {A : Type 0} (of : ModuleItem → Option A) (items : List ModuleItem) (n : ℕ) (all : List A) → length items ≤ n → all ≡ filter_map of (take n items) → all ≡ filter_map of items
listed_whole of items n all le is = is ∙ ap (filter_map of) (take_whole n items le)

-- a key that is not there goes last
pub entered_last : {V : Type 0} (entries : List (Name × V)) (name : Name) (v : V) → lookup (same_name name) entries ≡ None → insert_entry same_name entries name v ≡ entries ++ (name, v) ∷ []
entered_last [] name v none = refl
entered_last {V} (e ∷ es) name v none = by (same_name name e.0) refl none (λ h. entered_last es name v h)
  where
    by : (b : Bool) → same_name name e.0 ≡ b → (if b then Some e.1 else lookup (same_name name) es) ≡ None → (lookup (same_name name) es ≡ None → insert_entry same_name es name v ≡ es ++ (name, v) ∷ [])
        → insert_entry same_name (e ∷ es) name v ≡ (e ∷ es) ++ (name, v) ∷ []
    by true h none rest = cc
    by false h none rest = rw h (ap (λ l. e ∷ l) (rest none))

pub cursor_listed : (entries new : List (Name × Bor Cursor)) (name : Name) (c : Bor Cursor) → lookup (same_name name) entries ≡ None → new ≡ insert_entry same_name entries name c
    → cursors_written new ≡ cursors_written entries ++ c.now ∷ []
cursor_listed entries new name c none is = ap cursors_written (is ∙ entered_last entries name c none) ∙ map-append (λ e. e.1.now) entries ((name, c) ∷ [])

-- ---- the cursor of a name

-- a cursor is found by its name where it is found under it
pub found_written : (items : List ModuleItem) (entries : List (Name × Bor Cursor)) (name : Name) → AllByRecursion (IsCursorIn items) entries
    → option_map (λ (c : Bor Cursor). c.now) (lookup (same_name name) entries) ≡ find (λ c. same_name c.name name) (cursors_written entries)
found_written items [] name all = refl
found_written items (e ∷ es) name all =
    let same : same_name name e.0 ≡ same_name e.1.now.name name = ap (same_name name) all.0.1 ∙ nat_list_eq_equiv.symm name e.1.now.name in
    by (same_name name e.0) (same_name e.1.now.name name) same (found_written items es name all.1)
  where
    by : (a b : Bool) → a ≡ b → option_map (λ (c : Bor Cursor). c.now) (lookup (same_name name) es) ≡ find (λ c. same_name c.name name) (cursors_written es)
        → option_map (λ (c : Bor Cursor). c.now) (if a then Some e.1 else lookup (same_name name) es) ≡ (if b then Some e.1.now else find (λ c. same_name c.name name) (cursors_written es))
    by true true h rest = refl
    by false false h rest = rest
    by true false h rest = cc
    by false true h rest = cc

-- a cursor that is found by a name has it
pub found_named : (name : Name) (cs : List Cursor) (c : Cursor) → find (λ (k : Cursor). same_name k.name name) cs ≡ Some c → c.name ≡ name
found_named name [] c is = cc
found_named name (k ∷ cs) c is = by (same_name k.name name) refl is (found_named name cs c)
  where
    by : (b : Bool) → same_name k.name name ≡ b → (if b then Some k else find (λ (k : Cursor). same_name k.name name) cs) ≡ Some c
        → (find (λ (k : Cursor). same_name k.name name) cs ≡ Some c → c.name ≡ name) → c.name ≡ name
    by true same is rest = let it : k ≡ c = cc in ap (λ (x : Cursor). x.name) (sym it) ∙ names_equal k.name name same
    by false same is rest = rest is
