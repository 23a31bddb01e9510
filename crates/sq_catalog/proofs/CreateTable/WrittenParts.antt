-- Keys of a table definition, read one after the other.
use Rattle.std.proofs.Common.{◌≡◌, ℕ, suc, ◌+◌, ◌<◌, ◌≤◌, Bool, true, false, ◌&&◌, ◌||◌, cond, eqb, List, [], ◌∷◌, ◌++◌, length, length-append, get_or, nat_lt, take, position, Option, Some, None, is_some, refl, ap, sym, ◌∙◌, arith}
use Rattle.std.specs.List.{AllZip, cons_option, list_any, position_or_len}
use Rattle.std.specs.Option.{option_or}
use Rattle.std.specs.Prelude.{if◌then◌else◌, not}
use Rattle.std.proofs.lemmas.Bool.Decides.{nat_tests}
use Rattle.std.proofs.lemmas.List.{append-nil, length-take-le, take_more}
use Rattle.std.proofs.lemmas.List.Elements.{filter_map-append}
use Rattle.std.proofs.lemmas.List.Folds.{position_or_len_push}
use Rattle.std.proofs.lemmas.List.Sums.{prefix_len-le-length}
use Rattle.sq_value.proofs.Truths.{or_false}
use Rattle.sq_catalog.proofs.OneByOne.Zips.{zip_more}
use Rattle.sq_binding.proofs.Schemas.Names.{position_there}
use Rattle.sq_catalog.specs.Keys.{primaries, primary_among, primary_columns}
use Rattle.sq_catalog.specs.declared.written.WrittenKey.{WrittenKey}

-- ---- two lists, place by place

-- one more element is read
pub zip_read : {A B : Type 0} (R : A → B → Type 0) (xs : List A) (i : ℕ) (x : A) (ys new : List B) (y : B) → i < length xs → x ≡ get_or xs i x → new ≡ ys ++ y ∷ [] → AllZip R (take i xs) ys → R x y
    → AllZip R (take (i + 1) xs) new
zip_read R xs i x ys new y lt e grown h r =
    zip_more R (take i xs) ys x y (take (i + 1) xs) new (take_more xs i x lt ∙ ap (λ z. take i xs ++ z ∷ []) (sym e)) grown h r

-- ---- the primary key

last_found : (P L Q M : ℕ) (b : Bool) → P ≤ L → M ≡ L + 1 → Q ≡ cond (eqb P L) (L + cond b 0 1) P → cond (nat_lt Q M) (Some Q) None ≡ cond (nat_lt P L) (Some P) (cond b (Some L) None)
last_found P L Q M true le m q = grind (arith, nat_tests)
last_found P L Q M false le m q = grind (arith, nat_tests)

-- the last is found where none before it is
position_last : {A : Type 0} (p : A → Bool) (xs : List A) (y : A) → position p (xs ++ y ∷ []) ≡ cond (nat_lt (position_or_len p xs) (length xs)) (Some (position_or_len p xs)) (cond (p y) (Some (length xs)) None)
position_last p xs y =
    let one : length (xs ++ y ∷ []) ≡ length xs + 1 = length-append xs (y ∷ []) in
    last_found (position_or_len p xs) (length xs) (position_or_len p (xs ++ y ∷ [])) (length (xs ++ y ∷ [])) (p y) (prefix_len-le-length (λ x. not (p x)) xs) one (position_or_len_push p xs y)

-- a key more: the first primary one stays
primary_next : (keys : List WrittenKey) (key : WrittenKey) (before now : Option ℕ) → now ≡ option_or before (if key.is_primary then Some (length keys) else None) → before ≡ primary_among keys → now ≡ primary_among (keys ++ key ∷ [])
primary_next keys key before now e so_far =
    e ∙ ap (λ o. option_or o (if key.is_primary then Some (length keys) else None)) so_far
    ∙ by key.is_primary (nat_lt (position_or_len (λ k. k.is_primary) keys) (length keys)) (position_or_len (λ k. k.is_primary) keys) ∙ sym (position_last (λ k. k.is_primary) keys key)
  where
    by : (is found : Bool) (at : ℕ) → option_or (cond found (Some at) None) (if is then Some (length keys) else None) ≡ cond found (Some at) (cond is (Some (length keys)) None)
    by true true at = refl
    by false true at = refl
    by true false at = refl
    by false false at = refl

-- one more key is read
pub primary_read : (written : List WrittenKey) (i : ℕ) (key : WrittenKey) (count : ℕ) (before now : Option ℕ) → i < length written → key ≡ get_or written i key → count ≡ i
    → now ≡ option_or before (if key.is_primary then Some count else None) → before ≡ primary_among (take i written) → now ≡ primary_among (take (i + 1) written)
primary_read written i key count before now lt is here e so_far =
    let long : length (take i written) ≡ i = length-take-le i written (omega arith) in
    let at : now ≡ option_or before (if key.is_primary then Some (length (take i written)) else None) = e ∙ ap (λ n. option_or before (if key.is_primary then Some n else None)) (here ∙ sym long) in
    primary_next (take i written) key before now at so_far ∙ ap primary_among (sym (take_more written i key lt ∙ ap (λ z. take i written ++ z ∷ []) (sym is)))

-- ---- two primary keys

some_more : (n : ℕ) → nat_lt 0 (suc n) ≡ true
some_more n = grind (arith, nat_tests)

any_primary : (keys : List WrittenKey) → list_any (λ k. k.is_primary) keys ≡ nat_lt 0 (length (primaries keys))
any_primary [] = refl
any_primary (k ∷ keys) = by (any_primary keys) k.is_primary
  where
    by : list_any (λ k. k.is_primary) keys ≡ nat_lt 0 (length (primaries keys)) → (b : Bool) → (b || list_any (λ k. k.is_primary) keys) ≡ nat_lt 0 (length (cons_option (if b then Some k.columns else None) (primaries keys)))
    by later true = sym (some_more (length (primaries keys)))
    by later false = later

one_more_than : (n : ℕ) → nat_lt 1 (n + 1) ≡ (nat_lt 1 n || nat_lt 0 n)
one_more_than n = grind (arith, nat_tests)

two_next : (keys : List WrittenKey) (key : WrittenKey) (before : Option ℕ) → before ≡ primary_among keys
    → (nat_lt 1 (length (primaries keys)) || (key.is_primary && is_some before)) ≡ nat_lt 1 (length (primaries (keys ++ key ∷ [])))
two_next keys key before so_far =
    ap (λ b. nat_lt 1 (length (primaries keys)) || (key.is_primary && b)) (ap is_some so_far ∙ position_there (λ k. k.is_primary) keys ∙ any_primary keys) ∙ by key.is_primary
    ∙ ap (λ ks. nat_lt 1 (length ks)) (sym (filter_map-append primary_columns keys (key ∷ [])))
  where
    by : (b : Bool) → (nat_lt 1 (length (primaries keys)) || (b && nat_lt 0 (length (primaries keys)))) ≡ nat_lt 1 (length (primaries keys ++ cons_option (if b then Some key.columns else None) []))
    by true = let more : length (primaries keys ++ key.columns ∷ []) ≡ length (primaries keys) + 1 = length-append (primaries keys) (key.columns ∷ []) in sym (ap (nat_lt 1) more ∙ one_more_than (length (primaries keys)))
    by false = or_false (nat_lt 1 (length (primaries keys))) ∙ ap (λ ks. nat_lt 1 (length ks)) (sym (append-nil (primaries keys)))

pub two_read : (written : List WrittenKey) (i : ℕ) (key : WrittenKey) (before : Option ℕ) (two now : Bool) → i < length written → key ≡ get_or written i key
    → now ≡ (two || (key.is_primary && is_some before)) → two ≡ nat_lt 1 (length (primaries (take i written))) → before ≡ primary_among (take i written)
    → now ≡ nat_lt 1 (length (primaries (take (i + 1) written)))
two_read written i key before two now lt is e so_far first =
    e ∙ ap (λ b. b || (key.is_primary && is_some before)) so_far ∙ two_next (take i written) key before first
    ∙ ap (λ ks. nat_lt 1 (length (primaries ks))) (sym (take_more written i key lt ∙ ap (λ z. take i written ++ z ∷ []) (sym is)))
