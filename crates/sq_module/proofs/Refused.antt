-- The refusal of a module that is answered is the first, by the definitions.
use Rattle.std.proofs.Common.{◌≡◌, ℕ, ◌+◌, ◌<◌, ◌≤◌, Bool, true, false, not, cond, List, [], ◌∷◌, ◌++◌, Option, Some, None, Result, Ok, Err, length, get_or, map, take, drop, refl, ap, sym, subst, ◌∙◌, arith}
use Rattle.std.specs.Prelude.{◌==◌, IfErr, IfOk, IsErrAnd, MatchResult, count_by, filter_map, if◌then◌else◌, position}
use Rattle.std.specs.List.{enumerate_from, list_any}
use Rattle.std.specs.Option.{option_or}
use Rattle.std.specs.Cmp.Lexicographic.{nat_list_eq_equiv}
use Rattle.std.proofs.lemmas.List.{drop_more, map-append, take-append-drop, take_more}
use Rattle.std.proofs.lemmas.List.FromFn.{get_or-enumerate_from, length-enumerate_from}
use Rattle.std.proofs.lemmas.List.Sums.{sum_by-cons}
use Rattle.sq_lex.specs.declared.name.Name.{Name}
use Rattle.sq_tree.specs.declared.module.ModuleItem.{ModuleItem}
use Rattle.sq_tree.specs.declared.module.ModuleItem.TheVariants as item
use Rattle.sq_tree.specs.declared.module.ModuleText.{ModuleText}
use Rattle.sq_tree.specs.declared.module.Procedure.{Procedure}
use Rattle.sq_tree.specs.declared.statement.Statement.{Statement}
use Rattle.sq_tree.specs.declared.statement.Statement.TheVariants as statement
use Rattle.sq_meaning.specs.Environment.{same_name}
use Rattle.sq_meaning.specs.Module.{opens, procedure_in}
use Rattle.sq_meaning.specs.ModuleRefusal.{ModuleRefusal as Refusal, at_item, cursor_name, first_module_refusal, first_repeated, has_bad_parameter, has_status_fault, module_refusal, modules_before, name_refusal, procedure_name}
use Rattle.sq_meaning.specs.ModuleRefusal as rules
use Rattle.sq_meaning.specs.Words.{first_some}
use Rattle.sq_meaning.specs.declared.refusal.ModuleFault.{ModuleFault}
use Rattle.sq_meaning.specs.declared.refusal.ModuleFault.TheVariants as fault
use Rattle.sq_module.specs.FirstRefusal.{IsFaultAt, IsFaultFor, item_refusal, refusal_of}
use Rattle.sq_module.specs.Refusal.{has_open_count, is_some_name, opened_by, opened_in, opener_count}
use Rattle.sq_module.specs.declared.refusal.SessionFault.{SessionFault}
use Rattle.sq_module.specs.declared.refusal.SessionFault.TheVariants.{Refused, NoMemory}
use Rattle.sq_module.proofs.Written.{take_whole}

-- ---- the first of a list of refusals

or_none : (o : Option Refusal) → option_or o None ≡ o
or_none None = refl
or_none (Some r) = refl

-- the first that is there, and what is answered
pub first_is : (o others : Option Refusal) (f : SessionFault) → IsFaultFor o f → IsFaultFor (option_or o others) f
first_is o others NoMemory h = tt
first_is o others (Refused r) h = ap (λ (p : Option Refusal). option_or p others) h

-- one behind those that aren't there
pub later_is : (o others : Option Refusal) (f : SessionFault) → o ≡ None → IsFaultFor others f → IsFaultFor (option_or o others) f
later_is o others NoMemory none h = tt
later_is o others (Refused r) none h = ap (λ (p : Option Refusal). option_or p others) none ∙ h

pub is_same : (o p : Option Refusal) (f : SessionFault) → o ≡ p → IsFaultFor o f → IsFaultFor p f
is_same o p NoMemory same h = tt
is_same o p (Refused r) same h = sym same ∙ h

pub none_of : (o others : Option Refusal) → o ≡ None → others ≡ None → option_or o others ≡ None
none_of o others none rest = ap (λ (p : Option Refusal). option_or p others) none ∙ rest

-- no item is refused where no place is found
pub none_at : (text : ℕ) (why : ModuleFault) (place : Option ℕ) → place ≡ None → at_item text why place ≡ None
none_at text why place none = ap (at_item text why) none

-- the item at the place that is found is
pub refused_there : (text i : ℕ) (why : ModuleFault) (place : Option ℕ) (So : Type 0) (f : SessionFault) → (So → Some i ≡ place) → IsFaultAt text i why So f → IsFaultFor (at_item text why place) f
refused_there text i why place So NoMemory found h = tt
refused_there text i why place So (Refused r) found h = ap (at_item text why) (sym (found h.1)) ∙ ap (λ (x : Refusal). let one : Option Refusal = Some x in one) (sym h.0)

-- a fault of the item at a place
pub fault_there : (text i : ℕ) (why : ModuleFault) (So : Type 0) (f : SessionFault) → IsFaultFor (Some (record { text = text; item = Some i; fault = why })) f → So → IsFaultAt text i why So f
fault_there text i why So NoMemory h so = tt
fault_there text i why So (Refused r) h so = let same : refusal_of r ≡ record { text = text; item = Some i; fault = why } = cc in (same, so)

-- what holds of a fault holds of it where it is handed on
pub handed : {A : Type 0} (P : SessionFault → Type 0) (r : Result A SessionFault) (f : SessionFault) → IsErrAnd r (λ g. g ≡ f) → P f → IfErr r P
handed P (Ok x) f is h = tt
handed P (Err g) f is h = subst P (sym is) h

-- the two halves of an answer
pub if_taken : {A : Type 0} (found : Option Refusal) (r : Result A SessionFault) → MatchResult r (λ _. found ≡ None) (IsFaultFor found) → IfOk r (λ _. found ≡ None)
if_taken found (Ok x) h = h
if_taken found (Err f) h = tt

pub if_refused : {A : Type 0} (found : Option Refusal) (r : Result A SessionFault) → MatchResult r (λ _. found ≡ None) (IsFaultFor found) → IfErr r (IsFaultFor found)
if_refused found (Ok x) h = tt
if_refused found (Err f) h = h

-- ---- how many procedures open a cursor

one_opens : (cursor : Name) (s : Statement) → is_some_name cursor (opened_by s) ≡ opens cursor s
one_opens cursor (statement.Open name) = nat_list_eq_equiv.symm cursor name
one_opens cursor (statement.Fetch t) = refl
one_opens cursor (statement.Close name) = refl
one_opens cursor (statement.Select t) = refl
one_opens cursor (statement.Insert t) = refl
one_opens cursor (statement.Update t) = refl
one_opens cursor (statement.Delete t) = refl
one_opens cursor (statement.Commit w) = refl
one_opens cursor (statement.Rollback w) = refl

count_is : (cursor : Name) (items : List ModuleItem) → opener_count items cursor ≡ count_by (λ (p : Procedure). opens cursor p.statement) (filter_map procedure_in items)
count_is cursor [] = refl
count_is cursor (item.Cursor c ∷ items) =
    let added = sum_by-cons (λ (i : ModuleItem). cond (is_some_name cursor (opened_in i)) 1 0) (item.Cursor c) items in
    let rest = count_is cursor items in
    omega (arith, added, rest)
count_is cursor (item.Procedure p ∷ items) =
    let added = sum_by-cons (λ (i : ModuleItem). cond (is_some_name cursor (opened_in i)) 1 0) (item.Procedure p) items in
    let counted = sum_by-cons (λ (q : Procedure). cond (opens cursor q.statement) 1 0) p (filter_map procedure_in items) in
    let same : ◌≡◌ {A = ℕ} (cond (is_some_name cursor (opened_by p.statement)) 1 0) (cond (opens cursor p.statement) 1 0) = ap (λ b. cond b 1 0) (one_opens cursor p.statement) in
    let rest = count_is cursor items in
    omega (arith, added, counted, same, rest)

open_count_is : (m : ModuleText) (i : ModuleItem) → has_open_count m.items i ≡ rules.has_open_count m i
open_count_is m (item.Cursor c) = ap (λ n. not (n == 1)) (count_is c.name m.items)
open_count_is m (item.Procedure p) = refl

-- ---- the refusal of a module

pub module_refusal_is : (earlier : List Name) (text : ℕ) (m : ModuleText) → module_refusal earlier text m ≡ option_or (name_refusal earlier text m) (item_refusal text m.items)
module_refusal_is earlier text m =
    let opening : position (rules.has_open_count m) m.items ≡ position (has_open_count m.items) m.items = λ k. position (λ i. sym (open_count_is m i) k) m.items in
    let behind : Option Refusal = option_or (at_item text fault.OpenCount (position (has_open_count m.items) m.items))
    (option_or (at_item text fault.StatusParameter (position has_status_fault m.items)) (option_or (at_item text fault.BadParameter (position has_bad_parameter m.items)) None)) in
    (λ k. option_or (name_refusal earlier text m)
    (option_or (at_item text fault.TwoProcedures (first_repeated (map procedure_name m.items)))
    (option_or (at_item text fault.TwoCursors (first_repeated (map cursor_name m.items)))
    (option_or (at_item text fault.OpenCount (opening k))
    (option_or (at_item text fault.StatusParameter (position has_status_fault m.items)) (option_or (at_item text fault.BadParameter (position has_bad_parameter m.items)) None))))))
    ∙ (λ k. option_or (name_refusal earlier text m)
    (option_or (at_item text fault.TwoProcedures (first_repeated (map procedure_name m.items)))
    (option_or (at_item text fault.TwoCursors (first_repeated (map cursor_name m.items))) (sym (or_none behind) k))))

-- its name is that of an earlier one, or is not
pub name_taken : (earlier : List Name) (text : ℕ) (m : ModuleText) → list_any (same_name m.name) earlier ≡ false → name_refusal earlier text m ≡ None
name_taken earlier text m h = ap (λ (b : Bool). let found : Option Refusal = if b then Some (record { text = text; item = None; fault = fault.TwoModules }) else None in found) h

pub name_refused : (earlier : List Name) (text : ℕ) (m : ModuleText) → list_any (same_name m.name) earlier ≡ true → name_refusal earlier text m ≡ Some (record { text = text; item = None; fault = fault.TwoModules })
name_refused earlier text m h = ap (λ (b : Bool). let found : Option Refusal = if b then Some (record { text = text; item = None; fault = fault.TwoModules }) else None in found) h

-- ---- all modules

module _ (modules : List ModuleText) where
  abbrev refusal_at : ℕ × ModuleText → Option Refusal
  refusal_at m = module_refusal (modules_before modules m.0) m.0 m.1

  abbrev numbered : List (ℕ × ModuleText)
  numbered = enumerate_from 0 modules

  -- none of the first is refused
  abbrev pub AreTaken : ℕ → Type 0
  AreTaken i = first_some (map refusal_at (take i numbered)) ≡ None

  first_more : (os : List (Option Refusal)) (o : Option Refusal) → first_some os ≡ None → first_some (os ++ o ∷ []) ≡ o
  first_more [] o none = or_none o
  first_more (None ∷ os) o none = first_more os o none
  first_more (Some r ∷ os) o none = cc

  first_behind : (os more : List (Option Refusal)) (o : Option Refusal) (r : Refusal) → first_some os ≡ None → o ≡ Some r → first_some (os ++ o ∷ more) ≡ Some r
  first_behind [] more o r none is = ap (λ (p : Option Refusal). option_or p (first_some more)) is
  first_behind (None ∷ os) more o r none is = first_behind os more o r none is
  first_behind (Some s ∷ os) more o r none is = cc

  module _ (keys : List Name) (i : ℕ) (m : ModuleText) (lt : i < length modules) (is : m ≡ get_or modules i m) (before : keys ≡ map (λ (x : ModuleText). x.name) (take i modules)) where
    there : i < length numbered
    there = let as_many : length numbered ≡ length modules = length-enumerate_from 0 modules in omega (arith, lt, as_many)

    at : get_or numbered i (i, m) ≡ (i, m)
    at =
        let number : 0 + i ≡ i = omega arith in
        get_or-enumerate_from 0 modules i (i, m) lt ∙ (λ k. (number k, sym is k))

    refusal_is : refusal_at (i, m) ≡ module_refusal keys i m
    refusal_is = ap (λ (l : List Name). module_refusal l i m) (sym before)

    taken_more : map refusal_at (take (i + 1) numbered) ≡ map refusal_at (take i numbered) ++ refusal_at (i, m) ∷ []
    taken_more =
        ap (map refusal_at) (take_more numbered i (i, m) there ∙ ap (λ (n : ℕ × ModuleText). take i numbered ++ n ∷ []) at)
        ∙ map-append refusal_at (take i numbered) ((i, m) ∷ [])

    whole : map refusal_at numbered ≡ map refusal_at (take i numbered) ++ refusal_at (i, m) ∷ map refusal_at (drop (i + 1) numbered)
    whole =
        ap (map refusal_at) (sym (take-append-drop i numbered)
        ∙ ap (λ (l : List (ℕ × ModuleText)). take i numbered ++ l) (drop_more numbered i (i, m) there ∙ ap (λ (n : ℕ × ModuleText). n ∷ drop (i + 1) numbered) at))
        ∙ map-append refusal_at (take i numbered) ((i, m) ∷ drop (i + 1) numbered)

    pub taken_next : AreTaken i → module_refusal keys i m ≡ None → AreTaken (i + 1)
    taken_next none one = ap first_some taken_more ∙ first_more (map refusal_at (take i numbered)) (refusal_at (i, m)) none ∙ refusal_is ∙ one

    pub refused_first : AreTaken i → (f : SessionFault) → IsFaultFor (module_refusal keys i m) f → IsFaultFor (first_module_refusal modules) f
    refused_first none NoMemory h = tt
    refused_first none (Refused r) h =
        ap first_some whole
        ∙ first_behind (map refusal_at (take i numbered)) (map refusal_at (drop (i + 1) numbered)) (refusal_at (i, m)) _ none (refusal_is ∙ h)

  pub all_taken : (i : ℕ) → length modules ≤ i → AreTaken i → first_module_refusal modules ≡ None
  all_taken i past none =
      let as_many : length numbered ≡ length modules = length-enumerate_from 0 modules in
      let all : take i numbered ≡ numbered = take_whole i numbered (omega (arith, past, as_many)) in
      subst (λ (l : List (ℕ × ModuleText)). first_some (map refusal_at l) ≡ None) all none
