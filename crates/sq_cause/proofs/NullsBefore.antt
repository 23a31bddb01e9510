-- Rows and columns without a null where none may be, one after the other.
use Rattle.std.proofs.Common.{◌≡◌, ◌≢◌, ◌<◌, ◌+◌, ◌⊎◌, inl, inr, ℕ, zero, suc, false, List, slice_get, Option, Some, None, Result, Ok, Err, IfOk, refl, sym, subst, ap, ◌∙◌, arith}
use Rattle.std.specs.declared.alloc.AllocError.{AllocError}
use Rattle.sq_value.specs.declared.value.Value.{Value}
use Rattle.sq_store.specs.declared.change.Change.{Change}
use Rattle.sq_bound.specs.declared.names.BaseTable.{BaseTable}
use Rattle.sq_cause.specs.Breach.{IsPut, LackNoneBefore, LacksNone, LacksNoneBefore, change_of, lacks_value}
use Rattle.sq_cause.specs.declared.cause.Breach.{Breach}
use Rattle.sq_cause.specs.declared.cause.RowPut.{RowPut}

pub split : (m n : ℕ) → m < n + 1 → (m < n) ⊎ (m ≡ n)
split zero zero h = inr refl
split zero (suc n) h = inl (omega arith)
split (suc m) zero h = absurd (omega (arith, h))
split (suc m) (suc n) h = deeper (split m n (omega (arith, h)))
  where
    deeper : (m < n) ⊎ (m ≡ n) → (suc m < suc n) ⊎ (suc m ≡ suc n)
    deeper (inl lt) = inl (omega (arith, lt))
    deeper (inr e) = inr (ap (λ k. suc k) e)

pub columns_more : (t : BaseTable) (row : List Value) (n : ℕ) → LacksNoneBefore t row n → lacks_value t row n ≡ false → LacksNoneBefore t row (n + 1)
columns_more t row n before at = λ k lt. on k (split k n lt)
  where
    on : (k : ℕ) → (k < n) ⊎ (k ≡ n) → lacks_value t row k ≡ false
    on k (inl lt) = before k lt
    on k (inr e) = subst (λ (i : ℕ). lacks_value t row i ≡ false) (sym e) at

pub rows_more : (t : BaseTable) (changes : List Change) (n : ℕ) → LackNoneBefore t changes n → ((put : RowPut) (row : List Value) → put.place ≡ n → IsPut changes put row → LacksNone t row) → LackNoneBefore t changes (n + 1)
rows_more t changes n before at = λ put row lt is. on put row is (split put.place n lt)
  where
    on : (put : RowPut) (row : List Value) → IsPut changes put row → (put.place < n) ⊎ (put.place ≡ n) → LacksNone t row
    on put row is (inl lt) = before put row lt is
    on put row is (inr e) = at put row e is

-- the row that is put in at a place is one
same_row : (m n : Option ℕ) (r s : List Value) → (◌≡◌ {A = Option Change} (Some (change_of m r)) (Some (change_of n s))) → r ≡ s
same_row None None r s e = cc
same_row None (Some n) r s e = cc
same_row (Some m) None r s e = cc
same_row (Some m) (Some n) r s e = cc

pub one_row : (changes : List Change) (p q : RowPut) (r s : List Value) → p.place ≡ q.place → IsPut changes p r → IsPut changes q s → r ≡ s
one_row changes p q r s e is other =
    same_row p.number q.number r s (sym is ∙ (ap (λ (n : ℕ). slice_get changes n) e ∙ other))

-- the row at a place lacks none, or none is put in there
pub with_row : (t : BaseTable) (changes : List Change) (n : ℕ) (p : RowPut) (r : List Value) → LackNoneBefore t changes n → p.place ≡ n → IsPut changes p r → LacksNone t r → LackNoneBefore t changes (n + 1)
with_row t changes n p r before at is none =
    rows_more t changes n before (λ put row here put_in. subst (λ (x : List Value). LacksNone t x) (one_row changes p put r row (at ∙ sym here) is put_in) none)

pub without_row : (t : BaseTable) (changes : List Change) (n : ℕ) → LackNoneBefore t changes n → ((put : RowPut) (row : List Value) → IsPut changes put row → put.place ≢ n) → LackNoneBefore t changes (n + 1)
without_row t changes n before none = rows_more t changes n before (λ put row here put_in. absurd (none put row put_in here))

pub before_at : (t : BaseTable) (changes : List Change) (n : ℕ) (p : RowPut) → p.place ≡ n → LackNoneBefore t changes n → LackNoneBefore t changes p.place
before_at t changes n p e before = subst (λ (k : ℕ). LackNoneBefore t changes k) (sym e) before

pub if_more : (t : BaseTable) (changes : List Change) (n : ℕ) (p : RowPut) (row : List Value) (r : Result (Option Breach) AllocError) → LackNoneBefore t changes n → p.place ≡ n → IsPut changes p row
    → IfOk r (λ found. (found ≡ None) → LacksNone t row) → IfOk r (λ found. (found ≡ None) → LackNoneBefore t changes (n + 1))
if_more t changes n p row (Err e) before at is lacks = tt
if_more t changes n p row (Ok found) before at is lacks = λ none. with_row t changes n p row before at is (lacks none)
