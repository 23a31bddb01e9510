-- Cursors that go on over lists, one after the other.
use Rattle.std.proofs.Common.{◌≡◌, ◌++◌, ◌+◌, ◌<◌, ◌≤◌, ℕ, zero, suc, Bool, true, false, List, [], ◌∷◌, length, get_or, take, slice_set, Option, Some, None, refl, ap, sym, subst, ◌∙◌, add-one, arith}
use Rattle.std.specs.Bool.{then_some}
use Rattle.std.proofs.lemmas.List.{length-set, take_all}
use Rattle.std.proofs.lemmas.List.Sums.{fold-append}
use Rattle.sq_store.specs.Content.{Content}
use Rattle.sq_module.specs.declared.program.DeclaredCursor.{DeclaredCursor}
use Rattle.sq_bound.specs.declared.statement.BoundUpdate.{BoundUpdate}
use Rattle.sq_session.specs.Cursors.{AreThere, go_on, goes_on, is_listed, listed, put, put_all}
use Rattle.sq_session.specs.declared.cursor.CursorState.{CursorState}
use Rattle.sq_session.specs.declared.cursor.CursorState.TheVariants as cursor
use Rattle.sq_session.specs.declared.cursor.NumbersCursor.{NumbersCursor}
use Rattle.sq_session.specs.declared.walk_list.ListedCursor.{ListedCursor}
use Rattle.sq_session.specs.declared.walk.WalkingCursor.{WalkingCursor}

-- ---- one cursor

-- A walking cursor that may come to what an UPDATE changes goes on over its list.
pub goes_on_listed : (u : BoundUpdate) (on : Option ℕ) (tables : Content) (d : DeclaredCursor) (w : WalkingCursor) → is_listed u on d w ≡ true → goes_on u on tables d (cursor.Walking w) ≡ cursor.Numbers (listed d tables w)
goes_on_listed u on tables d w h = rw h refl

pub goes_on_walking : (u : BoundUpdate) (on : Option ℕ) (tables : Content) (d : DeclaredCursor) (w : WalkingCursor) → is_listed u on d w ≡ false → goes_on u on tables d (cursor.Walking w) ≡ cursor.Walking w
goes_on_walking u on tables d w h = rw h refl

-- The list is made exactly for such a cursor.
pub some_listed : (b : Bool) (x y : NumbersCursor) → Some x ≡ then_some b y → (b ≡ true) × (x ≡ y)
some_listed true x y h = (refl, cc)
some_listed false x y h = cc

pub none_listed : (b : Bool) (y : NumbersCursor) → None ≡ then_some b y → b ≡ false
none_listed true y h = cc
none_listed false y h = refl

-- A cursor that does not walk stays as it is.
pub goes_on_same : (u : BoundUpdate) (on : Option ℕ) (tables : Content) (d : DeclaredCursor) (c : CursorState) → ((w : WalkingCursor) → c ≡ cursor.Walking w → ⊥) → goes_on u on tables d c ≡ c
goes_on_same u on tables d cursor.Closed h = refl
goes_on_same u on tables d (cursor.Rows c) h = refl
goes_on_same u on tables d (cursor.Numbers c) h = refl
goes_on_same u on tables d (cursor.Walking c) h = absurd (h c refl)

-- ---- the first cursors

module _ (u : BoundUpdate) (on : Option ℕ) (tables : Content) where
  put_suc : (ds : List DeclaredCursor) (cs : List CursorState) (n : ℕ) (d : DeclaredCursor) (c x : CursorState) → n < length ds → goes_on u on tables (get_or ds n d) (get_or cs n c) ≡ x
      → slice_set (go_on u on tables (take n ds) cs) n x ≡ go_on u on tables (take (suc n) ds) cs
  put_suc [] cs n d c x lt h = absurd (omega (arith, lt))
  put_suc (y ∷ ds) [] zero d c x lt h = refl
  put_suc (y ∷ ds) [] (suc n) d c x lt h = refl
  put_suc (y ∷ ds) (e ∷ cs) zero d c x lt h = ap (λ z. z ∷ cs) (sym h)
  put_suc (y ∷ ds) (e ∷ cs) (suc n) d c x lt h = ap (λ zs. goes_on u on tables y e ∷ zs) (put_suc ds cs n d c x (omega (arith, lt)) h)

  same_suc : (ds : List DeclaredCursor) (cs : List CursorState) (n : ℕ) (d : DeclaredCursor) (c : CursorState) → n < length ds → goes_on u on tables (get_or ds n d) (get_or cs n c) ≡ get_or cs n c
      → go_on u on tables (take n ds) cs ≡ go_on u on tables (take (suc n) ds) cs
  same_suc [] cs n d c lt h = absurd (omega (arith, lt))
  same_suc (y ∷ ds) [] zero d c lt h = refl
  same_suc (y ∷ ds) [] (suc n) d c lt h = refl
  same_suc (y ∷ ds) (e ∷ cs) zero d c lt h = ap (λ z. z ∷ cs) (sym h)
  same_suc (y ∷ ds) (e ∷ cs) (suc n) d c lt h = ap (λ zs. goes_on u on tables y e ∷ zs) (same_suc ds cs n d c (omega (arith, lt)) h)

  -- The list of the next cursor is put in its place.
  pub listed_next : (ds : List DeclaredCursor) (cs : List CursorState) (ls : List ListedCursor) (n : ℕ) (d : DeclaredCursor) (c : CursorState) (l : NumbersCursor) → n < length ds
      → goes_on u on tables (get_or ds n d) (get_or cs n c) ≡ cursor.Numbers l → put_all cs ls ≡ go_on u on tables (take n ds) cs
      → put_all cs (ls ++ record { number = n; cursor = l } ∷ []) ≡ go_on u on tables (take (n + 1) ds) cs
  listed_next ds cs ls n d c l lt h so_far =
      fold-append put cs ls (record { number = n; cursor = l } ∷ [])
      ∙ ap (λ xs. slice_set xs n (cursor.Numbers l)) so_far
      ∙ put_suc ds cs n d c (cursor.Numbers l) lt h
      ∙ ap (λ m. go_on u on tables (take m ds) cs) (sym (add-one n))

  -- The next cursor walks, and stays as it is.
  pub same_next : (ds : List DeclaredCursor) (cs xs : List CursorState) (n : ℕ) (d : DeclaredCursor) (c : CursorState) → n < length ds
      → goes_on u on tables (get_or ds n d) (get_or cs n c) ≡ get_or cs n c → xs ≡ go_on u on tables (take n ds) cs → xs ≡ go_on u on tables (take (n + 1) ds) cs
  same_next ds cs xs n d c lt h so_far = so_far ∙ same_suc ds cs n d c lt h ∙ ap (λ m. go_on u on tables (take m ds) cs) (sym (add-one n))

  -- The next cursor does not walk, and stays as it is.
  pub idle_next : (ds : List DeclaredCursor) (cs xs : List CursorState) (n : ℕ) (c : CursorState) → n < length ds
      → ((d : DeclaredCursor) → goes_on u on tables d (get_or cs n c) ≡ get_or cs n c) → xs ≡ go_on u on tables (take n ds) cs → xs ≡ go_on u on tables (take (n + 1) ds) cs
  idle_next [] cs xs n c lt h so_far = absurd (omega (arith, lt))
  idle_next (y ∷ ds) cs xs n c lt h so_far = same_next (y ∷ ds) cs xs n y c lt (h (get_or (y ∷ ds) n y)) so_far

  -- In the end all cursors are looked at.
  pub listed_all : (ds : List DeclaredCursor) (cs xs : List CursorState) (n : ℕ) → length ds ≤ n → xs ≡ go_on u on tables (take n ds) cs → xs ≡ go_on u on tables ds cs
  listed_all ds cs xs n enough so_far = so_far ∙ ap (λ es. go_on u on tables es cs) (take_all n ds enough)

-- ---- lists of cursors that there are

pub there_more : (count : ℕ) (ls : List ListedCursor) (l : ListedCursor) → AreThere count ls → l.number < count → AreThere count (ls ++ l ∷ [])
there_more count [] l h lt = (lt, tt)
there_more count (x ∷ ls) l h lt = (h.0, there_more count ls l h.1 lt)

pub put_there : (cs : List CursorState) (l : ListedCursor) (ls : List ListedCursor) → AreThere (length cs) ls → AreThere (length (put cs l)) ls
put_there cs l ls h = subst (λ count. AreThere count ls) (sym (length-set cs l.number (cursor.Numbers l.cursor))) h

pub none_left : (ls : List ListedCursor) → length ls ≡ 0 → ls ≡ []
none_left [] h = refl
none_left (l ∷ ls) h = absurd (omega (arith, h))
