-- A refused module, or the cursor or procedure of it that is refused, stands at its first token.
use Rattle.std.proofs.Common.{◌≡◌, ℕ, suc, ◌+◌, ◌<◌, min, Bool, true, false, if◌then◌else◌, List, [], ◌∷◌, length, get_or, map, slice_get, position, Option, Some, None, refl, ap, subst, sym, ◌∙◌, arith}
use Rattle.std.proofs.lemmas.List.{length-map}
use Rattle.std.proofs.lemmas.List.Folds.{length-flat_map-take}
use Rattle.std.proofs.lemmas.List.Quantifiers.{position-Some}
use Rattle.std.proofs.lemmas.Option.{slice_get-get_or}
use Rattle.std.specs.List.{AllByRecursion, enumerate_from}
use Rattle.std.specs.Option.{option_or}
use Rattle.std.specs.Prelude.{IfSome}
use Rattle.sq_lex.specs.declared.name.Name.{Name}
use Rattle.sq_tree.specs.Module.{module_item_tokens, module_tokens, module_depth}
use Rattle.sq_tree.specs.declared.module.ModuleItem.{ModuleItem}
use Rattle.sq_tree.specs.declared.module.ModuleItem.TheVariants as item
use Rattle.sq_tree.specs.declared.module.ModuleText.{ModuleText}
use Rattle.sq_meaning.specs.Schema.{is_among}
use Rattle.sq_meaning.specs.ModuleRefusal.{ModuleRefusal as Found, at_item, cursor_name, first_module_refusal, first_repeated, has_bad_parameter, has_open_count, has_status_fault, module_refusal, modules_before, name_refusal, procedure_name}
use Rattle.sq_meaning.specs.Words.{first_some}
use Rattle.sq_meaning.specs.declared.refusal.ModuleFault.{ModuleFault}
use Rattle.sq_meaning.specs.declared.refusal.ModuleFault.TheVariants as fault
use Rattle.sq_meaning.specs.Report.{Bytes}
use Rattle.sq_module.specs.FirstRefusal.{refusal_of}
use Rattle.sq_module.specs.declared.refusal.ModuleRefusal.{ModuleRefusal}
use Rattle.sq_perform.specs.Fault.{IsModuleFault, IsPlaced, IsPlacedAmong, IsRefusalIfAny, TextFault}
use Rattle.sq_perform.specs.Refusal.{IsOfModules, StandsInModule, matter, module_fault, refused_start}
use Rattle.sq_perform.specs.Texts.{AllSpell, SpellsTree}
use Rattle.sq_perform.specs.declared.refusal.Refusal.{Refusal}
use Rattle.sq_perform.specs.declared.refusal.RefusalName.TheVariants as what
use Rattle.sq_perform.specs.declared.fault.Fault.TheVariants.{NoMemory, Refused}
use Rattle.sq_perform.proofs.Spelled.{is_there, spelled_there, token_there}

-- ---- a refused item is one of its module

-- what is true of each that may be first is true of the first
first_has : {A : Type 0} (P : A → Type 0) (os : List (Option A)) → AllByRecursion (λ o. IfSome o P) os → IfSome (first_some os) P
first_has P [] all = tt
first_has P (None ∷ os) all = first_has P os all.1
first_has P (Some x ∷ os) all = all.0

place_within : {A : Type 0} (test : A → Bool) (xs : List A) → IfSome (position test xs) (λ i. i < length xs)
place_within test [] = tt
place_within test (x ∷ xs) = by (position test (x ∷ xs)) refl
  where
    by : (o : Option ℕ) → position test (x ∷ xs) ≡ o → IfSome o (λ i. i < length (x ∷ xs))
    by None e = tt
    by (Some i) e = (position-Some test (x ∷ xs) i x e).0

length_enumerated : {A : Type 0} (n : ℕ) (xs : List A) → length (enumerate_from n xs) ≡ length xs
length_enumerated n [] = refl
length_enumerated n (x ∷ xs) = ap suc (length_enumerated (n + 1) xs)

abbrev Below : ℕ → Option ℕ → Type 0
Below n place = IfSome place (λ i. i < n)

repeated_within : (name_of : ModuleItem → Option Name) (items : List ModuleItem) → Below (length items) (first_repeated (map name_of items))
repeated_within name_of items =
    subst (λ n. Below n (first_repeated (map name_of items))) (length_enumerated 0 (map name_of items) ∙ length-map items name_of)
    (place_within _ (enumerate_from 0 (map name_of items)))

-- the refusal is of this text, and of the module or one of its items
abbrev IsIn : ℕ → ModuleText → Found → Type 0
IsIn text m r = (r.text ≡ text) × Below (length m.items) r.item

item_in : (text : ℕ) (m : ModuleText) (why : ModuleFault) (place : Option ℕ) → Below (length m.items) place → IfSome (at_item text why place) (IsIn text m)
item_in text m why None h = tt
item_in text m why (Some i) h = (refl, h)

name_in : (earlier : List Name) (text : ℕ) (m : ModuleText) → IfSome (name_refusal earlier text m) (IsIn text m)
name_in earlier text m = by (is_among earlier m.name)
  where
    by : (b : Bool) → IfSome (if b then Some (record { text = text; item = None; fault = fault.TwoModules }) else None) (IsIn text m)
    by true = (refl, tt)
    by false = tt

-- the refusals that are looked for in a module, in their order
abbrev refusals : List Name → ℕ → ModuleText → List (Option Found)
refusals earlier text m =
    name_refusal earlier text m
    ∷ at_item text fault.TwoProcedures (first_repeated (map procedure_name m.items))
    ∷ at_item text fault.TwoCursors (first_repeated (map cursor_name m.items))
    ∷ at_item text fault.OpenCount (position (has_open_count m) m.items)
    ∷ at_item text fault.StatusParameter (position has_status_fault m.items)
    ∷ at_item text fault.BadParameter (position has_bad_parameter m.items) ∷ []

refusal_in : (earlier : List Name) (text : ℕ) (m : ModuleText) → IfSome (module_refusal earlier text m) (IsIn text m)
refusal_in earlier text m =
    let items = m.items in
    let each : AllByRecursion (λ (o : Option Found). IfSome o (IsIn text m)) (refusals earlier text m) = (
      name_in earlier text m,
      (
        item_in text m fault.TwoProcedures (first_repeated (map procedure_name items)) (repeated_within procedure_name items),
        (
          item_in text m fault.TwoCursors (first_repeated (map cursor_name items)) (repeated_within cursor_name items),
          (
            item_in text m fault.OpenCount (position (has_open_count m) items) (place_within (has_open_count m) items),
            (
              item_in text m fault.StatusParameter (position has_status_fault items) (place_within has_status_fault items),
              (
                item_in text m fault.BadParameter (position has_bad_parameter items) (place_within has_bad_parameter items),
                tt,
              ),
            ),
          ),
        ),
      ),
    ) in
    first_has (IsIn text m) (refusals earlier text m) each

-- the module that is refused first
record IsRefusedOf (ms : List ModuleText) (n : ℕ) (r : Found) : Type 0 where
  place : ℕ
  tree : ModuleText
  there : slice_get ms place ≡ Some tree
  text : r.text ≡ n + place
  within : Below (length tree.items) r.item

abbrev first_refused : List ModuleText → ℕ → List ModuleText → Option Found
first_refused all n ms = first_some (map (λ m. module_refusal (modules_before all m.0) m.0 m.1) (enumerate_from n ms))

refused_of : (all ms : List ModuleText) (n : ℕ) (r : Found) → first_refused all n ms ≡ Some r → IsRefusedOf ms n r
refused_of all [] n r e = cc
refused_of all (m ∷ ms) n r e = by (module_refusal (modules_before all n) n m) refl e (λ k. refused_of all ms (n + 1) r k)
  where
    by : (o : Option Found) → module_refusal (modules_before all n) n m ≡ o → option_or o (first_refused all (n + 1) ms) ≡ Some r
        → (first_refused all (n + 1) ms ≡ Some r → IsRefusedOf ms (n + 1) r) → IsRefusedOf (m ∷ ms) n r
    by None q k later =
        let next = later k in
        record { place = suc next.place; tree = next.tree; there = next.there; text = omega (arith, next.text); within = next.within }
    by (Some x) q k later =
        let same : x ≡ r = cc in
        let is = subst (IsIn n m) same (subst (λ o. IfSome o (IsIn n m)) q (refusal_in (modules_before all n) n m)) in
        record { place = 0; tree = m; there = refl; text = omega (arith, is.0); within = is.1 }

item_within : (trees : List ModuleText) (r : Found) (tree : ModuleText) → first_module_refusal trees ≡ Some r → slice_get trees r.text ≡ Some tree → Below (length tree.items) r.item
item_within trees r tree first there =
    let is = refused_of trees trees 0 r first in
    let place : r.text ≡ is.place = omega (arith, is.text) in
    let at : slice_get trees r.text ≡ Some is.tree = ap (slice_get trees) place ∙ is.there in
    let same : is.tree ≡ tree = cc in
    subst (λ t. Below (length t.items) r.item) same is.within

-- ---- its first token is one of the text

some_tokens : (x : ModuleItem) → 0 < length (module_item_tokens x)
some_tokens (item.Cursor c) = omega arith
some_tokens (item.Procedure p) = omega arith

starts_inside : (m : ModuleText) (place : Option ℕ) → Below (length m.items) place → refused_start m place < length (module_tokens m)
starts_inside m None h = omega arith
starts_inside m (Some i) h =
    let found = is_there m.items i h in
    let inside = length-flat_map-take module_item_tokens m.items i found.0 h in
    let size = some_tokens (get_or m.items i found.0) in
    omega (arith, inside, size)

-- ---- the refusal of modules

stands_in : (modules : List Bytes) (trees : List ModuleText) (r : Found) (tree : ModuleText) (text : Bytes) (start : ℕ) (refusal : Refusal) → slice_get modules r.text ≡ Some text
    → SpellsTree module_tokens module_depth text tree → first_module_refusal trees ≡ Some r → slice_get trees r.text ≡ Some tree
    → start ≡ min (refused_start tree r.item) 18446744073709551615 → IsPlaced text start refusal → StandsInModule modules trees r refusal
stands_in modules trees r tree text start refusal there spells first tree_there e placed =
    let inside = starts_inside tree r.item (item_within trees r tree first tree_there) in
    let found = token_there text (module_tokens tree) (refused_start tree r.item) start refusal spells.spelled inside e placed in
    record { text = text; there = there; tree = tree; tree_there = tree_there; token = found.0; first = found.1; stands = found.2 }

-- modules are refused for what the definitions find first, at its first token
pub of_module : (modules : List Bytes) (trees : List ModuleText) (r : ModuleRefusal) (tree : ModuleText) (start : ℕ) (answer : TextFault) → AllSpell module_tokens module_depth modules trees
    → first_module_refusal trees ≡ Some (refusal_of r) → r.text < length trees → tree ≡ get_or trees r.text tree → start ≡ min (refused_start tree r.item) 18446744073709551615
    → IsRefusalIfAny r.text (what.Module r.fault) answer → IsPlacedAmong modules r.text start answer → IsModuleFault modules answer
of_module modules trees r tree start NoMemory spelled first lt is e named placed = tt
of_module modules trees r tree start (Refused refusal) spelled first lt is e named placed =
    let there : slice_get trees r.text ≡ Some tree = slice_get-get_or trees r.text tree lt ∙ ap Some (sym is) in
    let at = spelled_there module_tokens module_depth modules trees r.text tree spelled there in
    subst (IsOfModules modules refusal) (sym (ap matter named.1))
    (record {
      trees = trees;
      spelled = spelled;
      found = refusal_of r;
      first = first;
      text = named.0;
      what = ap module_fault named.1;
      stands = stands_in modules trees (refusal_of r) tree at.0 start refusal at.1 at.2 first there e (placed at.0 at.1);
    })
