-- Lists that are read or made place by place.
use Rattle.std.proofs.Common.{◌≡◌, ℕ, ◌+◌, ◌<◌, ◌≤◌, List, [], ◌∷◌, ◌++◌, get_or, length, take, Result, Ok, IfOk, ap, sym, subst, ◌∙◌}
use Rattle.std.proofs.lemmas.List.{take_all, take_more}
use Rattle.std.specs.List.{AllZip}
use Rattle.sq_binding.proofs.Schemas.Made.{zip_behind}

-- ---- two lists, place by place

pub zip_more : {A B : Type 0} (R : A → B → Type 0) (xs : List A) (ys : List B) (x : A) (y : B) (all : List A) (both : List B) → all ≡ xs ++ x ∷ [] → both ≡ ys ++ y ∷ [] → AllZip R xs ys → R x y → AllZip R all both
zip_more R xs ys x y all both e f h r = subst (λ zs. AllZip R zs both) (sym e) (subst (λ zs. AllZip R (xs ++ x ∷ []) zs) (sym f) (zip_behind R xs ys x y h r))

-- ---- a list so far

pub list_next : {A : Type 0} (first : A) (rest : List A) (i : ℕ) (x : A) → i < length rest → get_or rest i x ≡ x → first ∷ take (i + 1) rest ≡ (first ∷ take i rest) ++ x ∷ []
list_next first rest i x within at = ap (λ l. first ∷ l) (take_more rest i x within ∙ ap (λ y. take i rest ++ y ∷ []) at)

pub list_whole : {A : Type 0} (first : A) (rest whole : List A) (i : ℕ) → rest ≡ whole → length rest ≤ i → first ∷ take i rest ≡ first ∷ whole
list_whole first rest whole i is past = ap (λ l. first ∷ l) (take_all i rest past ∙ is)

-- ---- an answer

pub on_value : {A E : Type 0} (P : A → Type 0) (r : Result A E) (x : A) → r ≡ Ok x → IfOk r P → P x
on_value P r x e h = subst (λ o. IfOk o P) e h
