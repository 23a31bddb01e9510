-- The columns by which a base table is asked for the rows of an item: its own, or those that a plain view shows (ISO/IEC 9075:1992, 7.4 and 11.19).
use Rattle.std.proofs.Common.{◌≡◌, ◌+◌, ℕ, zero, suc, List, ◌∷◌, [], ◌++◌, inl, inr, length, slice_get, Option, Some, None, Result, Vec, Global, Bor, arith, refl, sym, subst, Ok, Err}
use Rattle.std.specs.Prelude.{IfOk, IfSome}
use Rattle.sq_value.specs.declared.value.Value.{Value}
use Rattle.sq_store.specs.Content.{Content}
use Rattle.sq_store.specs.Keys.{Keys, key_at}
use Rattle.sq_bound.specs.declared.condition.BoundSpecification.{BoundSpecification}
use Rattle.sq_expression.specs.declared.fault.Fault.{Fault}
use Rattle.sq_expression.specs.declared.table.BaseRows.{BaseRows}
use Rattle.sq_query.specs.Asked.{AreUnder, IsFalseThrough, IsFalseUnder, IsShownBy, IsThrough}
use Rattle.sq_query.specs.Shown.{Asks}
use Rattle.sq_query.specs.Items.{IsNamed}
use Rattle.sq_query.specs.Named.{IsOneOf}
use Rattle.sq_query.specs.declared.asked.Asked.{Asked}
use Rattle.sq_query.proofs.FoundByKey.ItemRows.{zip_weaker}

abbrev Through : Type 0
Through = Option (Bor (List (Option ℕ)))

-- a base table that is an item itself
pub at_itself : (a : Asked) (place : ℕ) (P : ℕ → Through → Type 0) → a.base ≡ place → a.through ≡ None → P a.base a.through → P place None
at_itself a place P at none h = subst (P place) none (subst (λ (p : ℕ). P p a.through) at h)

pub through_none : (F : ℕ → List Value → Type 0) (n : ℕ) (vs : List Value) → IsFalseThrough None F n vs → F n vs
through_none F n vs h = subst (λ (m : ℕ). F m vs) (sym h.1) h.2

-- values of the column that shows one of the base table
pub through_shown : (through : Through) (F : ℕ → List Value → Type 0) (own shown : ℕ) (r : Result (Option (Vec Value Global)) Fault) → IsShownBy through own shown → IfOk r (λ found. IfSome found (λ values. F shown values.items))
    → IfOk r (λ found. IfSome found (λ values. IsFalseThrough through F own values.items))
through_shown through F own shown (Err e) at h = tt
through_shown through F own shown (Ok None) at h = tt
through_shown through F own shown (Ok (Some values)) at h = (shown, at, h)

-- what names rows by some columns names them by others, if each stands for another
pub named_weaker : (F G : ℕ → List Value → Type 0) → ((n : ℕ) (vs : List Value) → F n vs → G n vs) → (content : Content) (keys : List Keys) (own : BaseRows) → IsNamed F content keys own → IsNamed G content keys own
named_weaker F G so content keys own (inl (known, h)) =
    inl (
      known,
      record {
        named = record { key = h.named.key; named = zip_weaker (IsOneOf F) (IsOneOf G) (λ n v f. so n (v ∷ []) f) (key_at keys own.place known.key) known.values h.named.named };
        are = h.are;
      },
    )
named_weaker F G so content keys own (inr (inl (known, h))) =
    inr (inl (known, record { named = record { key = h.named.key; named = (h.named.named.0, h.named.named.1, so h.named.named.0 known.values.items h.named.named.2) }; are = h.are }))
named_weaker F G so content keys own (inr (inr (n, vs, h))) = inr (inr (n, vs, record { named = so n vs h.named; are = h.are }))

-- through plain views
pub through_under : (queries : List BoundSpecification) (views : List ℕ) (columns : Bor (List (Option ℕ))) (F : ℕ → List Value → Type 0) → AreUnder queries views columns.now → (n : ℕ) (vs : List Value) → IsFalseThrough (Some columns) F n vs
    → IsFalseUnder queries views F n vs
through_under queries views columns F under n vs h = (h.0, under n h.0 h.1, h.2)

module _ (queries : List BoundSpecification) (views : List ℕ) (columns : Bor (List (Option ℕ))) (F : ℕ → List Value → Type 0) (content : Content) (keys : List Keys) (base : ℕ) where
  pub under_named : (r : Result (Option BaseRows) Fault) → AreUnder queries views columns.now → IfOk r (λ o. IfSome o (λ own. (own.place ≡ base) × IsNamed (IsFalseThrough (Some columns) F) content keys own))
      → IfOk r (λ o. IfSome o (λ own. (own.place ≡ base) × IsNamed (IsFalseUnder queries views F) content keys own))
  under_named (Err e) under h = tt
  under_named (Ok None) under h = tt
  under_named (Ok (Some own)) under h = (h.0, named_weaker (IsFalseThrough (Some columns) F) (IsFalseUnder queries views F) (through_under queries views columns F under) content keys own h.1)

-- columns in a list, one more
pub columns_more : (Shows : ℕ → ℕ → Type 0) (columns : List (Option ℕ)) (o : Option ℕ) → ((own n : ℕ) → slice_get columns n ≡ Some (Some own) → Shows own n) → IfSome o (λ own. Shows own (length columns)) → (own n : ℕ)
    → slice_get (columns ++ o ∷ []) n ≡ Some (Some own) → Shows own n
columns_more Shows [] o h more own zero e = let same : o ≡ Some own = cc in subst (λ (p : Option ℕ). IfSome p (λ x. Shows x 0)) same more
columns_more Shows [] o h more own (suc n) e = absurd cc
columns_more Shows (c ∷ columns) o h more own zero e = h own zero e
columns_more Shows (c ∷ columns) o h more own (suc n) e = columns_more (λ x m. Shows x (suc m)) columns o (λ x m. h x (suc m)) more own n e

pub one_longer : {A : Type 0} (xs : List A) (x : A) → length (xs ++ x ∷ []) ≡ length xs + 1
one_longer [] x = refl
one_longer (y ∷ xs) x = omega (arith, one_longer xs x)

pub through_so : (q : BoundSpecification) (through : Through) (between column : ℕ) (o : Option ℕ) → Asks q between column → IfSome o (λ own. IsShownBy through own between) → IfSome o (λ own. IsThrough q through own column)
through_so q through between column None asks h = tt
through_so q through between column (Some own) asks h = (between, asks, h)
