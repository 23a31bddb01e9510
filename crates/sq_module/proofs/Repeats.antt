-- The first item of a module whose name was used before.
use Rattle.std.proofs.Common.{◌≡◌, ℕ, ◌+◌, ◌<◌, ◌≤◌, Bool, true, false, not, List, [], ◌∷◌, ◌++◌, Option, Some, None, length, get_or, map, take, refl, ap, sym, ◌∙◌, arith}
use Rattle.std.specs.Prelude.{filter_map, option_to_list}
use Rattle.std.proofs.lemmas.List.{get_or-map, length-map, take-map, take_more}
use Rattle.std.proofs.lemmas.List.Elements.{filter_map-append}
use Rattle.std.proofs.lemmas.List.FromFn.{get_or-enumerate_from, length-enumerate_from}
use Rattle.std.specs.List.{enumerate_from, list_any}
use Rattle.sq_lex.specs.declared.name.Name.{Name}
use Rattle.sq_tree.specs.declared.module.ModuleItem.{ModuleItem}
use Rattle.sq_tree.specs.declared.module.ModuleItem.TheVariants as item
use Rattle.sq_meaning.specs.ModuleRefusal.{first_repeated, names_before, procedure_name}
use Rattle.sq_meaning.specs.Schema.{is_among}
use Rattle.sq_meaning.specs.Words.{is_some_and}
use Rattle.sq_module.specs.Program.{name_in}
use Rattle.sq_module.proofs.Places.{none_found, none_next, place_found}

one_name : (o : Option Name) → filter_map (λ name. name) (o ∷ []) ≡ option_to_list o
one_name None = refl
one_name (Some n) = refl

module _ {X : Type 0} (name : X → Option Name) (items : List X) where
  abbrev names : List (Option Name)
  names = map name items

  abbrev numbered : List (ℕ × Option Name)
  numbered = enumerate_from 0 names

  -- the name at a place was used before
  abbrev was_used : ℕ × Option Name → Bool
  was_used n = is_some_and (is_among (names_before names n.0)) n.1

  -- up to a place no name was used before
  abbrev pub AreNotUsed : ℕ → Type 0
  AreNotUsed i = list_any was_used (take i numbered) ≡ false

  -- the names before a place, one after the other
  pub names_more : (i : ℕ) (x : X) → i < length items → x ≡ get_or items i x → names_before names (i + 1) ≡ names_before names i ++ option_to_list (name x)
  names_more i x lt is =
      let more : take (i + 1) names ≡ take i names ++ name x ∷ [] =
      take-map name (i + 1) items ∙ ap (map name) (take_more items i x lt ∙ ap (λ (y : X). take i items ++ y ∷ []) (sym is))
      ∙ (λ k. map_last (take i items) x k) ∙ ap (λ (l : List (Option Name)). l ++ name x ∷ []) (sym (take-map name i items)) in
      ap (filter_map (λ n. n)) more ∙ filter_map-append (λ n. n) (take i names) (name x ∷ []) ∙ ap (λ (l : List Name). names_before names i ++ l) (one_name (name x))
    where
      map_last : (ys : List X) (y : X) → map name (ys ++ y ∷ []) ≡ map name ys ++ name y ∷ []
      map_last [] y = refl
      map_last (z ∷ ys) y = ap (λ (l : List (Option Name)). name z ∷ l) (map_last ys y)

  within : (i : ℕ) → i < length items → i < length numbered
  within i lt =
      let as_many : length numbered ≡ length items = length-enumerate_from 0 names ∙ length-map items name in
      omega (arith, lt, as_many)

  at : (i : ℕ) (x : X) → i < length items → x ≡ get_or items i x → (i, name x) ≡ get_or numbered i (i, name x)
  at i x lt is =
      let there : i < length names = let as_many : length names ≡ length items = length-map items name in omega (arith, lt, as_many) in
      let number : i ≡ 0 + i = omega arith in
      sym (get_or-enumerate_from 0 names i (i, name x) there
      ∙ (λ k. (sym number k, get_or-map name items i x (name x) lt k)) ∙ ap (λ (y : X). (i, name y)) (sym is))

  module _ (keys : List Name) (i : ℕ) (x : X) (lt : i < length items) (is : x ≡ get_or items i x) (before : keys ≡ names_before names i) where
    said : (b : Bool) → is_some_and (is_among keys) (name x) ≡ b → was_used (i, name x) ≡ b
    said b h = ap (λ (l : List Name). is_some_and (is_among l) (name x)) (sym before) ∙ h

    -- the names behind it
    pub before_next : (new : List Name) → new ≡ keys ++ option_to_list (name x) → new ≡ names_before names (i + 1)
    before_next new last = last ∙ ap (λ (l : List Name). l ++ option_to_list (name x)) before ∙ sym (names_more i x lt is)

    -- this one was
    pub repeated : AreNotUsed i → is_some_and (is_among keys) (name x) ≡ true → Some i ≡ first_repeated names
    repeated none h = place_found was_used numbered i (i, name x) (within i lt) (at i x lt is) none (said true h)

    -- this one was not, either
    pub not_used_next : AreNotUsed i → is_some_and (is_among keys) (name x) ≡ false → AreNotUsed (i + 1)
    not_used_next none h = none_next was_used numbered i (i, name x) (within i lt) (at i x lt is) none (said false h)

  pub none_repeated : (i : ℕ) → length items ≤ i → AreNotUsed i → None ≡ first_repeated names
  none_repeated i past none =
      let as_many : length numbered ≡ length items = length-enumerate_from 0 names ∙ length-map items name in
      none_found was_used numbered i (omega (arith, past, as_many)) none

pub procedure_is : (x : ModuleItem) → name_in x ≡ option_to_list (procedure_name x)
procedure_is (item.Procedure p) = refl
procedure_is (item.Cursor c) = refl

-- what is not true is false
pub so : (b c : Bool) → not b ≡ c → b ≡ false → c ≡ true
so true c h e = cc
so false c h e = sym h

pub not_so : (b c : Bool) → not b ≡ c → b ≡ true → c ≡ false
not_so true c h e = sym h
not_so false c h e = cc

pub new_is : (b c : Bool) → b ≡ not c → b ≡ true → c ≡ false
new_is b true h e = cc
new_is b false h e = refl
