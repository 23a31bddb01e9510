-- A law of changes (ISO/IEC 9075:1992, 4.10 and 9.2): each value that a statement puts into a table is null or of its column's domain.
use Rattle.std.proofs.Common.{ap, arith, eqb, inl, inr, subst, sym, ◌∙◌}
use Rattle.std.proofs.lemmas.Bool.{ltb-true, and_parts}
use Rattle.std.proofs.lemmas.Bool.Decides.{eqb_tells}
use Rattle.std.proofs.lemmas.List.{length-append, length-replicate, length-take}
use Rattle.std.specs.Bool.{passes}
use Rattle.std.specs.List.{AllByRecursion, enumerate_from, zip}
use Rattle.std.specs.Prelude.{◌≡◌, ◌≢◌, ◌⊎◌, ℕ, zero, suc, ◌+◌, ◌-◌, ◌^◌, ◌≤◌, min, Bool, true, false, ◌&&◌, List, [], ◌∷◌, ◌++◌, map, length, take, replicate, ℤ, pos, negsuc, if◌then◌else◌, nat_lt, ◌==◌, ⊤, slice_get, slice_set, unsigned_abs, int_le, filter, find, Option, unwrap_or, option_map, refl, Some, None, Ok, ◌≤ℤ◌}
use Rattle.sq_value.specs.Arithmetic.{truncated}
use Rattle.sq_value.specs.Domain.{IsInDomain}
use Rattle.sq_value.specs.Number.{Number}
use Rattle.sq_value.specs.Storing.{if_between}
use Rattle.sq_value.specs.Text.{of_length, only_blanks_past}
use Rattle.sq_value.specs.declared.domain.Domain.{Domain}
use Rattle.sq_value.specs.declared.domain.Domain.TheVariants as domain
use Rattle.sq_value.specs.declared.value.Value.{Value}
use Rattle.sq_value.specs.declared.value.Value.TheVariants as value
use Rattle.sq_store.specs.Content.{inserted}
use Rattle.sq_store.specs.declared.table.Numbered.{Numbered}
use Rattle.sq_store.specs.declared.table.Table.{Table}
use Rattle.sq_tree.specs.declared.schema.ColumnDefinition.{ColumnDefinition}
use Rattle.sq_tree.specs.declared.statement.InsertSource.{InsertSource}
use Rattle.sq_tree.specs.declared.statement.InsertSource.TheVariants as source
use Rattle.sq_tree.specs.declared.statement.NewValue.{NewValue}
use Rattle.sq_tree.specs.declared.statement.NewValue.TheVariants as new_value
use Rattle.sq_tree.specs.declared.statement.Update.{Update}
use Rattle.sq_meaning.specs.Assignment.{assigned}
use Rattle.sq_meaning.specs.Environment.{Env, Item}
use Rattle.sq_meaning.specs.Expression.{value as expr_value}
use Rattle.sq_meaning.specs.Query.{rows as query_rows_of}
use Rattle.sq_meaning.specs.Spelled.{expr_of, listed, select_of}
use Rattle.sq_meaning.specs.Status.{Outcome, and_then, each, or_status}
use Rattle.sq_meaning.specs.Tables.{TableDescriptor}
use Rattle.sq_meaning.specs.Target.{Target}
use Rattle.sq_meaning.specs.declared.status.Status.{Status}
use Rattle.sq_meaning.specs.declared.status.Status.TheVariants as status
use Rattle.sq_meaning.proofs.Bind.{bind_ok}
use Rattle.sq_meaning.specs.Catalog.{column_domain}
use Rattle.sq_meaning.specs.Change.{Setting, value_of_default, domain_at, given_at, given_rows, if_some, new_row, outer_env, reading_in, replaced, row_env, set_places, stored_row, stored_value, stored_values, updated_row, value_or_default, with_rows, with_values}
use Rattle.sq_meaning.specs.Constraints.{AreInDomains}
use Rattle.sq_meaning.specs.Schema.{BaseTable, column_definitions}

-- ---- lists

abbrev pub Each : {A : Type 0} → (A → Type 0) → List A → Type 0
Each P xs = AllByRecursion P xs

-- what an outcome of a list is made of
each_all : {A B : Type 0} (Q : A → Type 0) (P : B → Type 0) (f : A → Outcome B) → ((x : A) (y : B) → Q x → f x ≡ Ok y → P y)
    → (xs : List A) (ys : List B) → Each Q xs → each f xs ≡ Ok ys → Each P ys
each_all Q P f h [] ys q e = let same : [] ≡ ys = cc in subst (λ zs. Each P zs) same tt
each_all Q P f h (x ∷ xs) ys q e =
    let first = bind_ok (f x) (λ y. and_then (each f xs) (λ zs. Ok (y ∷ zs))) ys e in
    let rest = bind_ok (each f xs) (λ zs. Ok (first.0 ∷ zs)) ys first.2 in
    let same : (first.0 ∷ rest.0) ≡ ys = cc in
    subst (λ zs. Each P zs) same (h x first.0 q.0 first.1, each_all Q P f h xs rest.0 q.1 rest.1)

each_true : {A : Type 0} (xs : List A) → Each (λ x. ⊤) xs
each_true [] = tt
each_true (x ∷ xs) = (tt, each_true xs)

pub each_filtered : {A : Type 0} (P : A → Type 0) (test : A → Bool) (xs : List A) → Each P xs → Each P (filter test xs)
each_filtered P test [] h = tt
each_filtered P test (x ∷ xs) h = split (test x) (each_filtered P test xs h.1)
  where
    split : (b : Bool) → Each P (filter test xs) → Each P (if b then (x ∷ filter test xs) else filter test xs)
    split true k = (h.0, k)
    split false k = k

each_joined : {A : Type 0} (P : A → Type 0) (xs ys : List A) → Each P xs → Each P ys → Each P (xs ++ ys)
each_joined P [] ys h k = k
each_joined P (x ∷ xs) ys h k = (h.0, each_joined P xs ys h.1 k)

pub mapped : {A B : Type 0} (P : B → Type 0) (f : A → B) (xs : List A) → Each (λ x. P (f x)) xs → Each P (map f xs)
mapped P f [] h = tt
mapped P f (x ∷ xs) h = (h.0, mapped P f xs h.1)

pub unmapped : {A B : Type 0} (P : B → Type 0) (f : A → B) (xs : List A) → Each P (map f xs) → Each (λ x. P (f x)) xs
unmapped P f [] h = tt
unmapped P f (x ∷ xs) h = (h.0, unmapped P f xs h.1)

each_of_all : {A B : Type 0} (P : B → Type 0) (f : A → B) → ((x : A) → P (f x)) → (xs : List A) → Each P (map f xs)
each_of_all P f h [] = tt
each_of_all P f h (x ∷ xs) = (h x, each_of_all P f h xs)

found_or : {A : Type 0} (P : A → Type 0) (test : A → Bool) (otherwise : A) → P otherwise → (xs : List A) → Each P xs → P (unwrap_or (find test xs) otherwise)
found_or P test otherwise o [] h = o
found_or P test otherwise o (x ∷ xs) h = split (test x) (found_or P test otherwise o xs h.1)
  where
    split : (b : Bool) → P (unwrap_or (find test xs) otherwise) → P (unwrap_or (if b then Some x else find test xs) otherwise)
    split true k = h.0
    split false k = k

-- ---- what is assigned is of the domain (9.2)

chosen_if : (b : Bool) (s : Status) (n : Number) (w : Value) → or_status s (option_map value.Num (if b then Some n else None)) ≡ Ok w → (b ≡ true) × (w ≡ value.Num n)
chosen_if true s n w e = (refl, cc)
chosen_if false s n w e = cc

chosen_text : (b : Bool) (s : Status) (t : List ℕ) (w : Value) → or_status s (option_map value.Chars (if b then Some t else None)) ≡ Ok w → w ≡ value.Chars t
chosen_text true s t w e = cc
chosen_text false s t w e = cc

between : (low high : ℤ) (n : Number) (s : Status) (w : Value) → or_status s (option_map value.Num (if_between low high n)) ≡ Ok w
    → (w ≡ value.Num n) × (low ≤ℤ n.unscaled) × (n.unscaled ≤ℤ high)
between low high n s w e =
    let c = chosen_if (int_le low n.unscaled && int_le n.unscaled high) s n w e in
    let b = and_parts (int_le low n.unscaled) (int_le n.unscaled high) c.0 in
    (c.1, record { le = passes (int_le low n.unscaled) b.0 }, record { le = passes (int_le n.unscaled high) b.1 })

number_in : (d : Domain) (n : Number) (w : Value) → assigned d (value.Num n) ≡ Ok w → IsInDomain d w
number_in domain.Small n w e = let b = between (negsuc 32767) (pos 32767) (truncated 0 n) status.NumericValueOutOfRange w e in subst (λ v. IsInDomain domain.Small v) (sym b.0) (refl, b.1, b.2)
number_in domain.Int n w e = let b = between (negsuc 2147483647) (pos 2147483647) (truncated 0 n) status.NumericValueOutOfRange w e in subst (λ v. IsInDomain domain.Int v) (sym b.0) (refl, b.1, b.2)
number_in (domain.Numeric p s) n w e =
    let c = chosen_if (nat_lt (unsigned_abs (truncated s n).unscaled) (10 ^ p)) status.NumericValueOutOfRange (truncated s n) w e in
    subst (λ v. IsInDomain (domain.Numeric p s) v) (sym c.1) (refl, ltb-true (unsigned_abs (truncated s n).unscaled) (10 ^ p) c.0)
number_in (domain.Char k) n w e = cc
number_in (domain.VarChar k) n w e = cc

abbrev blanks : ℕ → List ℕ
blanks n = replicate n 32

length_fixed : (n : ℕ) (t : List ℕ) → length (of_length n t) ≡ n
length_fixed n t =
    length-append (take n t) (blanks (n - length t)) ∙ ap (λ k. k + length (blanks (n - length t))) (length-take n t)
    ∙ ap (λ k. min n (length t) + k) (length-replicate (n - length t) 32) ∙ omega arith

length_varying : (n : ℕ) (t : List ℕ) → length (take n t) ≤ n
length_varying n t = subst (λ k. k ≤ n) (sym (length-take n t)) (omega arith)

text_in : (d : Domain) (t : List ℕ) (w : Value) → assigned d (value.Chars t) ≡ Ok w → IsInDomain d w
text_in domain.Small t w e = cc
text_in domain.Int t w e = cc
text_in (domain.Numeric p s) t w e = cc
text_in (domain.Char n) t w e = subst (λ v. IsInDomain (domain.Char n) v) (sym (chosen_text (only_blanks_past n t) status.TextTooLong (of_length n t) w e)) (length_fixed n t)
text_in (domain.VarChar n) t w e = subst (λ v. IsInDomain (domain.VarChar n) v) (sym (chosen_text (only_blanks_past n t) status.TextTooLong (take n t) w e)) (length_varying n t)

pub assigned_in : (d : Domain) (v w : Value) → assigned d v ≡ Ok w → IsInDomain d w
assigned_in d value.Null w e = let same : value.Null ≡ w = cc in subst (λ v. IsInDomain d v) same tt
assigned_in d (value.Num n) w e = number_in d n w e
assigned_in d (value.Chars t) w e = text_in d t w e

-- ---- values that are given for columns of a base table

abbrev pub domains : BaseTable → List Domain
domains t = map column_domain (column_definitions t.definition)

abbrev pub IsTyped : BaseTable → List Value → Type 0
IsTyped t row = AreInDomains (domains t) row

abbrev pub IsGiven : BaseTable → ℕ × Value → Type 0
IsGiven t g = IsInDomain (domain_at t g.0) g.1

stored_in : (s : Setting) (env : Env Item) (d : Domain) (n : NewValue) (w : Value) → stored_value s env d n ≡ Ok w → IsInDomain d w
stored_in s env d (new_value.Expr e) w h = let b = bind_ok (expr_value (reading_in s) (expr_of e) env) (assigned d) w h in assigned_in d b.0 w b.2
stored_in s env d new_value.Null w h = assigned_in d value.Null w h

stored_given : (s : Setting) (env : Env Item) (t : BaseTable) (news : List (ℕ × NewValue)) (given : List (ℕ × Value)) → stored_values s env t news ≡ Ok given → Each (IsGiven t) given
stored_given s env t news given e =
    each_all (λ n. ⊤) (IsGiven t) (λ n. and_then (stored_value s env (domain_at t n.0) n.1) (λ v. Ok (n.0, v))) one news given (each_true news) e
  where
    one : (n : ℕ × NewValue) (g : ℕ × Value) → ⊤ → and_then (stored_value s env (domain_at t n.0) n.1) (λ v. Ok (n.0, v)) ≡ Ok g → IsGiven t g
    one n g u h =
        let b = bind_ok (stored_value s env (domain_at t n.0) n.1) (λ v. Ok (n.0, v)) g h in
        let same : (n.0, b.0) ≡ g = cc in
        subst (IsGiven t) same (stored_in s env (domain_at t n.0) n.1 b.0 b.1)

-- ---- UPDATE: set clauses keep a row in its domains

absent_none : {A : Type 0} (P : Type 0) (x : A) → None ≡ Some x → P
absent_none P x e = cc

set_in : (ds : List Domain) (row : List Value) (place : ℕ) (v : Value) → AreInDomains ds row → ((d : Domain) → slice_get ds place ≡ Some d → IsInDomain d v) → AreInDomains ds (slice_set row place v)
set_in [] [] place v h k = tt
set_in [] (w ∷ row) place v h k = absurd h
set_in (d ∷ ds) [] place v h k = absurd h
set_in (d ∷ ds) (w ∷ row) zero v h k = (k d refl, h.1)
set_in (d ∷ ds) (w ∷ row) (suc place) v h k = (h.0, set_in ds row place v h.1 k)

with_values_in : (t : BaseTable) (given : List (ℕ × Value)) (row : List Value) → Each (IsGiven t) given → IsTyped t row → IsTyped t (with_values given row)
with_values_in t [] row g h = h
with_values_in t (x ∷ given) row g h =
    with_values_in t given (slice_set row x.0 x.1) g.1
    (set_in (domains t) row x.0 x.1 h (λ d e. subst (λ (k : Domain). IsInDomain k x.1) (ap (λ o. unwrap_or o domain.Int) e) g.0))

abbrev pub IsTypedRow : BaseTable → Numbered → Type 0
IsTypedRow t r = IsTyped t r.row

updated_in : (s : Setting) (d : TableDescriptor) (target : Target) (t : BaseTable) (u : Update) (r w : Numbered) → IsTypedRow t r → updated_row s d target t u r ≡ Ok w → IsTypedRow t w
updated_in s d target t u r w h e =
    let b = bind_ok (stored_values s (row_env s d target r.row) t (set_places d target u)) (λ given. Ok (record { number = r.number; row = with_values given r.row })) w e in
    let same : (record { number = r.number; row = with_values b.0 r.row }) ≡ w = cc in
    subst (IsTypedRow t) same (with_values_in t b.0 r.row (stored_given s (row_env s d target r.row) t (set_places d target u) b.0 b.1) h)

-- ---- INSERT: each column has what is given for it, or its default

get_mapped : {A B : Type 0} (f : A → B) (xs : List A) (n : ℕ) (x : A) → slice_get xs n ≡ Some x → slice_get (map f xs) n ≡ Some (f x)
get_mapped f [] n x e = cc
get_mapped f (y ∷ ys) zero x e = let same : y ≡ x = cc in ap (λ z. Some (f z)) same
get_mapped f (y ∷ ys) (suc n) x e = get_mapped f ys n x e

get_behind : {A : Type 0} (front : List A) (x : A) (xs : List A) → slice_get (front ++ x ∷ xs) (length front) ≡ Some x
get_behind [] x xs = refl
get_behind (y ∷ front) x xs = get_behind front x xs

append_one : {A : Type 0} (front : List A) (x : A) (xs : List A) → (front ++ x ∷ []) ++ xs ≡ front ++ x ∷ xs
append_one [] x xs = refl
append_one (y ∷ front) x xs = ap (λ zs. y ∷ zs) (append_one front x xs)

-- each element is found at the place that it is numbered with
numbered_from : {A : Type 0} (front xs : List A) → Each (λ p. slice_get (front ++ xs) p.0 ≡ Some p.1) (enumerate_from (length front) xs)
numbered_from front [] = tt
numbered_from {A = A} front (x ∷ xs) =
    let P : List A → ℕ → Type 0 = λ ys n. Each (λ p. slice_get ys p.0 ≡ Some p.1) (enumerate_from n xs) in
    let one : P ((front ++ x ∷ []) ++ xs) (length (front ++ x ∷ [])) = numbered_from (front ++ x ∷ []) xs in
    let two : P (front ++ x ∷ xs) (length (front ++ x ∷ [])) = subst (λ ys. P ys (length (front ++ x ∷ []))) (append_one front x xs) one in
    (get_behind front x xs, subst (λ n. P (front ++ x ∷ xs) n) (length-append front (x ∷ [])) two)

each_weaker : {A : Type 0} (P Q : A → Type 0) → ((x : A) → P x → Q x) → (xs : List A) → Each P xs → Each Q xs
each_weaker P Q h [] k = tt
each_weaker P Q h (x ∷ xs) k = (h x k.0, each_weaker P Q h xs k.1)

enumerated_domains : (n : ℕ) (cs : List ColumnDefinition) → map (λ p. column_domain p.1) (enumerate_from n cs) ≡ map column_domain cs
enumerated_domains n [] = refl
enumerated_domains n (c ∷ cs) = ap (λ ds. column_domain c ∷ ds) (enumerated_domains (n + 1) cs)

abbrev IsPlaced : BaseTable → ℕ × ColumnDefinition → Type 0
IsPlaced t p = domain_at t p.0 ≡ column_domain p.1

columns_placed : (t : BaseTable) → Each (IsPlaced t) (enumerate_from 0 (column_definitions t.definition))
columns_placed t =
    each_weaker (λ p. slice_get (column_definitions t.definition) p.0 ≡ Some p.1) (IsPlaced t)
    (λ p e. ap (λ o. unwrap_or o domain.Int) (get_mapped column_domain (column_definitions t.definition) p.0 p.1 e))
    (enumerate_from 0 (column_definitions t.definition)) (numbered_from [] (column_definitions t.definition))

abbrev value_if : Bool → ℕ × Value → ℕ → List (ℕ × Value) → Option Value
value_if b g place given = option_map (λ x. x.1) (if b then Some g else find (λ x. x.0 == place) given)

given_in : (t : BaseTable) (given : List (ℕ × Value)) (place : ℕ) (v : Value) → Each (IsGiven t) given → given_at given place ≡ Some v → IsInDomain (domain_at t place) v
given_in t [] place v g e = cc
given_in t (x ∷ given) place v g e = split (eqb_tells x.0 place) (given_in t given place v g.1)
  where
    split : ((eqb x.0 place ≡ true) × (x.0 ≡ place)) ⊎ ((eqb x.0 place ≡ false) × (x.0 ≢ place)) → (given_at given place ≡ Some v → IsInDomain (domain_at t place) v) → IsInDomain (domain_at t place) v
    split (inl h) k =
        let here : Some x.1 ≡ Some v = ap (λ b. value_if b x place given) (sym h.0) ∙ e in
        let same : x.1 ≡ v = cc in
        subst (λ (w : Value). IsInDomain (domain_at t place) w) same (subst (λ (n : ℕ). IsInDomain (domain_at t n) x.1) h.1 g.0)
    split (inr h) k = k (ap (λ b. value_if b x place given) (sym h.0) ∙ e)

value_in : (s : Setting) (t : BaseTable) (given : List (ℕ × Value)) (c : ColumnDefinition) (place : ℕ) (w : Value) → domain_at t place ≡ column_domain c → Each (IsGiven t) given
    → value_or_default s c (given_at given place) ≡ Ok w → IsInDomain (column_domain c) w
value_in s t given c place w d g e = go (given_at given place) refl e
  where
    go : (o : Option Value) → given_at given place ≡ o → value_or_default s c o ≡ Ok w → IsInDomain (column_domain c) w
    go None k h = assigned_in (column_domain c) (value_of_default s.user c.default) w h
    go (Some v) k h =
        let same : v ≡ w = cc in
        subst (λ (x : Value). IsInDomain (column_domain c) x) same (subst (λ (x : Domain). IsInDomain x v) d (given_in t given place v g k))

row_in : (s : Setting) (t : BaseTable) (given : List (ℕ × Value)) (ps : List (ℕ × ColumnDefinition)) (row : List Value) → Each (IsPlaced t) ps → Each (IsGiven t) given
    → each (λ p. value_or_default s p.1 (given_at given p.0)) ps ≡ Ok row → AreInDomains (map (λ p. column_domain p.1) ps) row
row_in s t given [] row d g e = let same : [] ≡ row = cc in subst (λ (r : List Value). AreInDomains [] r) same tt
row_in s t given (p ∷ ps) row d g e =
    let first = bind_ok (value_or_default s p.1 (given_at given p.0)) (λ v. and_then (each (λ q. value_or_default s q.1 (given_at given q.0)) ps) (λ vs. Ok (v ∷ vs))) row e in
    let rest = bind_ok (each (λ q. value_or_default s q.1 (given_at given q.0)) ps) (λ vs. Ok (first.0 ∷ vs)) row first.2 in
    let same : (first.0 ∷ rest.0) ≡ row = cc in
    subst (λ (r : List Value). AreInDomains (column_domain p.1 ∷ map (λ q. column_domain q.1) ps) r) same
    (value_in s t given p.1 p.0 first.0 d.0 g first.1, row_in s t given ps rest.0 d.1 g rest.1)

new_row_in : (s : Setting) (t : BaseTable) (given : List (ℕ × Value)) (row : List Value) → Each (IsGiven t) given → new_row s t given ≡ Ok row → IsTyped t row
new_row_in s t given row g e =
    subst (λ (ds : List Domain). AreInDomains ds row) (enumerated_domains 0 (column_definitions t.definition))
    (row_in s t given (enumerate_from 0 (column_definitions t.definition)) row (columns_placed t) g e)

stored_row_in : (t : BaseTable) (places : List ℕ) (row : List Value) (given : List (ℕ × Value)) → stored_row t places row ≡ Ok given → Each (IsGiven t) given
stored_row_in t places row given e =
    each_all (λ p. ⊤) (IsGiven t) (λ p. and_then (assigned (domain_at t p.0) p.1) (λ v. Ok (p.0, v))) one (zip places row) given (each_true (zip places row)) e
  where
    one : (p : ℕ × Value) (g : ℕ × Value) → ⊤ → and_then (assigned (domain_at t p.0) p.1) (λ v. Ok (p.0, v)) ≡ Ok g → IsGiven t g
    one p g u h =
        let b = bind_ok (assigned (domain_at t p.0) p.1) (λ v. Ok (p.0, v)) g h in
        let same : (p.0, b.0) ≡ g = cc in
        subst (IsGiven t) same (assigned_in (domain_at t p.0) p.1 b.0 b.1)

given_rows_in : (s : Setting) (t : BaseTable) (places : List ℕ) (x : InsertSource) (given : List (List (ℕ × Value))) → given_rows s t places x ≡ Ok given → Each (Each (IsGiven t)) given
given_rows_in s t places (source.Values values) given e =
    let b = bind_ok (stored_values s (outer_env s) t (zip places (listed values))) (λ row. Ok (row ∷ [])) given e in
    let same : (b.0 ∷ []) ≡ given = cc in
    subst (Each (Each (IsGiven t))) same (stored_given s (outer_env s) t (zip places (listed values)) b.0 b.1, tt)
given_rows_in s t places (source.Query q) given e =
    let found = bind_ok (query_rows_of (reading_in s) (select_of s.user q) (outer_env s)) _ given e in
    let some = bind_ok (if_some found.0) _ given found.2 in
    each_all (λ row. ⊤) (Each (IsGiven t)) (stored_row t places) (λ row g u h. stored_row_in t places row g h) some.0 given (each_true some.0) some.2

pub inserted_in : (t : BaseTable) (rows : List (List Value)) (table : Table) → Each (IsTypedRow t) table.rows → Each (IsTyped t) rows → Each (IsTypedRow t) (with_rows table rows).rows
inserted_in t [] table h k = h
inserted_in t (r ∷ rows) table h k = inserted_in t rows (inserted table r) (each_joined (IsTypedRow t) table.rows (record { number = table.next; row = r } ∷ []) h (k.0, tt)) k.1

pub replaced_in : (t : BaseTable) (altered rows : List Numbered) → Each (IsTypedRow t) altered → Each (IsTypedRow t) rows → Each (IsTypedRow t) (map (replaced altered) rows)
replaced_in t altered [] a h = tt
replaced_in t altered (r ∷ rows) a h = (found_or (IsTypedRow t) (λ c. c.number == r.number) r h.0 altered a, replaced_in t altered rows a h.1)

pub new_rows_in : (s : Setting) (t : BaseTable) (places : List ℕ) (x : InsertSource) (given : List (List (ℕ × Value))) (rows : List (List Value))
    → given_rows s t places x ≡ Ok given → each (new_row s t) given ≡ Ok rows → Each (IsTyped t) rows
new_rows_in s t places x given rows g e = each_all (Each (IsGiven t)) (IsTyped t) (new_row s t) (new_row_in s t) given rows (given_rows_in s t places x given g) e

pub updated_rows_in : (s : Setting) (d : TableDescriptor) (target : Target) (t : BaseTable) (u : Update) (rows altered : List Numbered)
    → Each (IsTypedRow t) rows → each (updated_row s d target t u) rows ≡ Ok altered → Each (IsTypedRow t) altered
updated_rows_in s d target t u rows altered h e = each_all (IsTypedRow t) (IsTypedRow t) (updated_row s d target t u) (updated_in s d target t u) rows altered h e
