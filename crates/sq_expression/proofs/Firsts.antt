-- The elements left by first occurrence, as one element more comes.
use Rattle.std.proofs.Common.{◌≡◌, Bool, true, false, not, ◌||◌, List, [], ◌∷◌, ◌++◌, map, cond, refl, sym, ap, ◌∙◌}
use Rattle.std.specs.Prelude.{filter, if◌then◌else◌}
use Rattle.std.specs.Cmp.{IsEquivalence}
use Rattle.std.specs.Cmp.Lexicographic.{lists_equiv}
use Rattle.std.specs.List.{list_any}
use Rattle.std.proofs.lemmas.List.Elements.{filter-append}
use Rattle.std.proofs.lemmas.Map.Views.{any-filter_same}
use Rattle.sq_value.proofs.Truths.{and_true}
use Rattle.indexmap.specs.IndexSet.{insert_key}
use Rattle.sq_value.specs.Comparison.{is_same}
use Rattle.sq_value.specs.declared.value.Value.{Value}
use Rattle.sq_value.specs.laws.ValueOrder.{same_equiv}
use Rattle.sq_meaning.specs.Rows.{firsts, same_row}
use Rattle.sq_expression.specs.Index.{alone}

append_nothing : {A : Type 0} (xs : List A) → xs ++ [] ≡ xs
append_nothing [] = refl
append_nothing (x ∷ xs) = ap (λ ys. x ∷ ys) (append_nothing xs)

module _ {A : Type 0} (same : A → A → Bool) (laws : IsEquivalence same) where
  -- what is like an element that is not like y is not like y either
  apart_too : (x y k : A) → same x y ≡ false → same x k ≡ true → not (same y k) ≡ true
  apart_too x y k e h = ap not (laws.symm y k ∙ sym (laws.congr x k y h) ∙ e)

  found_apart : (x y : A) (zs : List A) → same x y ≡ false → list_any (same x) (filter (λ z. not (same y z)) zs) ≡ list_any (same x) zs
  found_apart x y zs e = any-filter_same (same x) (λ z. not (same y z)) true (λ k h. apart_too x y k e h) zs

  one_more : (x y : A) (zs : List A) (b : Bool) → same x y ≡ b → (c : Bool) → list_any (same x) zs ≡ c
      → y ∷ filter (λ z. not (same y z)) (if c then zs else zs ++ x ∷ []) ≡ (if b || list_any (same x) (filter (λ z. not (same y z)) zs) then y ∷ filter (λ z. not (same y z)) zs else (y ∷ filter (λ z. not (same y z)) zs) ++ x ∷ [])
  one_more x y zs true e true f = refl
  one_more x y zs true e false f =
      let left : List A = filter (λ z. not (same y z)) zs in
      let like : same y x ≡ true = laws.symm y x ∙ e in
      ap (λ ys. y ∷ ys) (filter-append (λ z. not (same y z)) zs (x ∷ []) ∙ ap (λ t. left ++ cond (not t) (x ∷ []) []) like ∙ append_nothing left)
  one_more x y zs false e true f =
      let left : List A = filter (λ z. not (same y z)) zs in
      sym (ap (λ t. if t then y ∷ left else (y ∷ left) ++ x ∷ []) (found_apart x y zs e ∙ f))
  one_more x y zs false e false f =
      let left : List A = filter (λ z. not (same y z)) zs in
      let unlike : same y x ≡ false = laws.symm y x ∙ e in
      ap (λ ys. y ∷ ys) (filter-append (λ z. not (same y z)) zs (x ∷ []) ∙ ap (λ t. left ++ cond (not t) (x ∷ []) []) unlike)
      ∙ sym (ap (λ t. if t then y ∷ left else (y ∷ left) ++ x ∷ []) (found_apart x y zs e ∙ f))

  -- one element more is left if none of those that are left is the same
  pub firsts_more : (xs : List A) (x : A) → firsts same (xs ++ x ∷ []) ≡ insert_key same (firsts same xs) x
  firsts_more [] x = refl
  firsts_more (y ∷ ys) x =
      ap (λ zs. y ∷ filter (λ z. not (same y z)) zs) (firsts_more ys x)
      ∙ one_more x y (firsts same ys) (same x y) refl (list_any (same x) (firsts same ys)) refl

pub rows_more : (rows : List (List Value)) (row : List Value) → firsts same_row (rows ++ row ∷ []) ≡ insert_key same_row (firsts same_row rows) row
rows_more = firsts_more same_row (lists_equiv same_equiv)

pub values_more : (vs : List Value) (v : Value) → firsts is_same (vs ++ v ∷ []) ≡ insert_key is_same (firsts is_same vs) v
values_more = firsts_more is_same same_equiv

-- values alone in rows are found as the values are
pub found_alone : (v : Value) (vs : List Value) → list_any (same_row (alone v)) (map alone vs) ≡ list_any (is_same v) vs
found_alone v [] = refl
found_alone v (w ∷ vs) = (λ i. and_true (is_same v w) i || found_alone v vs i)

pub alone_more : (vs : List Value) (v : Value) → insert_key same_row (map alone vs) (alone v) ≡ map alone (insert_key is_same vs v)
alone_more vs v = ap (λ b. if b then map alone vs else map alone vs ++ alone v ∷ []) (found_alone v vs) ∙ split (list_any (is_same v) vs)
  where
    behind : (ws : List Value) → map alone ws ++ alone v ∷ [] ≡ map alone (ws ++ v ∷ [])
    behind [] = refl
    behind (w ∷ ws) = ap (λ zs. alone w ∷ zs) (behind ws)

    split : (b : Bool) → (if b then map alone vs else map alone vs ++ alone v ∷ []) ≡ map alone (if b then vs else vs ++ v ∷ [])
    split true = refl
    split false = behind vs
