-- The rows that rows refer to, and the references that they meet (ISO/IEC 9075:1992, 11.8).
use Rattle.std.proofs.Common.{◌≡◌, ℕ, ◌+◌, ◌<◌, ◌≤◌, Bool, true, false, ◌||◌, if◌then◌else◌, List, [], ◌∷◌, ◌++◌, length, drop, get_or, Option, None, Some, refl, sym, ap, ◌∙◌, append_assoc, append-nil}
use Rattle.std.specs.Prelude.{Vec}
use Rattle.std.specs.declared.alloc.Global.{Global}
use Rattle.std.specs.List.{flat_map}
use Rattle.std.proofs.Math.ListN.{drop_of_length-le}
use Rattle.sq_value.specs.Key.{in_columns}
use Rattle.sq_value.specs.declared.value.Value.{Value}
use Rattle.sq_store.specs.declared.change.Change.{Change}
use Rattle.sq_store.specs.Change.{rows_put}
use Rattle.sq_store.specs.Content.{Content}
use Rattle.sq_store.specs.Keys.{Keys}
use Rattle.sq_meaning.specs.Environment.{Row}
use Rattle.sq_meaning.specs.Constraints.{has_null}
use Rattle.sq_bound.specs.declared.names.Reference.{Reference}
use Rattle.sq_change.specs.Constraints.{is_met_in}
use Rattle.sq_change.specs.Reference.{is_row_there, referred, referred_by, values_in}
use Rattle.sq_change.specs.declared.reference.Referenced.{Referenced}
use Rattle.sq_change.proofs.OneByOne.AllSatisfied.{left_at}
use Rattle.sq_change.proofs.Changes.Applied.{put_apart}

-- ---- the row that a reference of a row asks for

abbrev pub asked_for : Reference → Row → Referenced
asked_for r values = record { table = r.table; key = r.key; values = values }

abbrev one_unless : Bool → Referenced → List Referenced
one_unless b x = if b then [] else x ∷ []

asks_if : (b : Bool) (key values : Row) → (if b then None else Some key) ≡ Some values → (b ≡ false) × (key ≡ values)
asks_if true key values h = absurd cc
asks_if false key values h = (refl, cc)

asks_none_if : (b : Bool) (key : Row) → (if b then None else Some key) ≡ None → b ≡ true
asks_none_if true key h = refl
asks_none_if false key h = absurd cc

module _ (row : Row) (r : Reference) (found : Option Row) (is : found ≡ values_in row r.by_key) where
  asks : (values : Row) → found ≡ Some values → (has_null (in_columns row r.by_key) ≡ false) × (in_columns row r.by_key ≡ values)
  asks values h = asks_if (has_null (in_columns row r.by_key)) (in_columns row r.by_key) values (sym is ∙ h)

  asks_none : found ≡ None → has_null (in_columns row r.by_key) ≡ true
  asks_none h = asks_none_if (has_null (in_columns row r.by_key)) (in_columns row r.by_key) (sym is ∙ h)

  referred_one : (values : Row) → found ≡ Some values → referred row r ≡ asked_for r values ∷ []
  referred_one values h =
      ap (λ (b : Bool). one_unless b (asked_for r (in_columns row r.by_key))) (asks values h).0 ∙ ap (λ (v : Row). one_unless false (asked_for r v)) (asks values h).1

  referred_none : found ≡ None → referred row r ≡ []
  referred_none h = ap (λ (b : Bool). one_unless b (asked_for r (in_columns row r.by_key))) (asks_none h)

  module _ (keys : List Keys) (content : Content) where
    -- a reference is met where the row that it asks for is there
    pub met_where_there : (values : Row) → found ≡ Some values → is_met_in keys content r row ≡ is_row_there keys content (asked_for r values)
    met_where_there values h =
        ap (λ (b : Bool). b || is_row_there keys content (asked_for r (in_columns row r.by_key))) (asks values h).0
        ∙ ap (λ (v : Row). is_row_there keys content (asked_for r v)) (asks values h).1

    -- a reference that asks for no row is met
    pub met_unasked : found ≡ None → is_met_in keys content r row ≡ true
    met_unasked h = ap (λ (b : Bool). b || is_row_there keys content (asked_for r (in_columns row r.by_key))) (asks_none h)

-- ---- lists of them

-- one part more is joined
joined : {A : Type 0} (done next part rest left whole : List A) → next ≡ done ++ part → left ≡ part ++ rest → done ++ left ≡ whole → next ++ rest ≡ whole
joined {A} done next part rest left whole grown split so_far =
    ap (λ (xs : List A). xs ++ rest) grown ∙ append_assoc done part rest ∙ ap (λ (xs : List A). done ++ xs) (sym split) ∙ so_far

-- what the references of a row ask for, one after the other
module _ (row : Row) (references : List Reference) (before : List Referenced) where
  -- the references before this one gave what they ask for
  abbrev pub ReferredTo : ℕ → List Referenced → Type 0
  ReferredTo i done = done ++ flat_map (referred row) (drop i references) ≡ before ++ flat_map (referred row) references

  module _ (done : Vec Referenced Global) (i : ℕ) (r : Reference) (within : i < length references) (at : r ≡ get_or references i r) (so_far : ReferredTo i done.items)
      (found : Option Row) (is : found ≡ values_in row r.by_key) (next : Vec Referenced Global) where
    grown : next.items ≡ done.items ++ referred row r → ReferredTo (i + 1) next.items
    grown more =
        joined done.items next.items (referred row r) (flat_map (referred row) (drop (i + 1) references)) (flat_map (referred row) (drop i references))
        (before ++ flat_map (referred row) references) more (ap (flat_map (referred row)) (left_at references i r within at)) so_far

    pub one_referred : (pushed : Vec Referenced Global) (values : Row) → found ≡ Some values → next ≡ pushed → pushed.items ≡ done.items ++ asked_for r values ∷ [] → ReferredTo (i + 1) next.items
    one_referred pushed values h same more =
        grown (ap (λ (v : Vec Referenced Global). v.items) same ∙ more ∙ ap (λ (rows : List Referenced). done.items ++ rows) (sym (referred_one row r found is values h)))

    pub none_referred : found ≡ None → next ≡ done → ReferredTo (i + 1) next.items
    none_referred h same =
        grown (ap (λ (v : Vec Referenced Global). v.items) same ∙ sym (append-nil done.items) ∙ ap (λ (rows : List Referenced). done.items ++ rows) (sym (referred_none row r found is h)))

  pub all_referred : (done : List Referenced) (i : ℕ) → length references ≤ i → ReferredTo i done → done ≡ before ++ flat_map (referred row) references
  all_referred done i past so_far =
      sym (append-nil done) ∙ ap (λ (rs : List Reference). done ++ flat_map (referred row) rs) (sym (drop_of_length-le references past)) ∙ so_far

-- what the references of the rows ask for that changes put in
module _ (references : List Reference) (changes : List Change) where
  -- the changes before this one gave what their rows ask for
  abbrev pub PutTo : ℕ → List Referenced → Type 0
  PutTo i done = done ++ referred_by references (rows_put (drop i changes)) ≡ referred_by references (rows_put changes)

  module _ (done : Vec Referenced Global) (i : ℕ) (change : Change) (within : i < length changes) (at : change ≡ get_or changes i change) (so_far : PutTo i done.items)
      (next : Vec Referenced Global) where
    left : rows_put (drop i changes) ≡ rows_put (change ∷ []) ++ rows_put (drop (i + 1) changes)
    left = ap rows_put (left_at changes i change within at) ∙ put_apart change (drop (i + 1) changes)

    pub row_referred : (more : Vec Referenced Global) (row : List Value) → rows_put (change ∷ []) ≡ row ∷ [] → next ≡ more → more.items ≡ done.items ++ flat_map (referred row) references
        → PutTo (i + 1) next.items
    row_referred more row put same grown =
        joined done.items next.items (flat_map (referred row) references) (referred_by references (rows_put (drop (i + 1) changes))) (referred_by references (rows_put (drop i changes)))
        (referred_by references (rows_put changes)) (ap (λ (v : Vec Referenced Global). v.items) same ∙ grown)
        (ap (referred_by references) (left ∙ ap (λ (rows : List (List Value)). rows ++ rows_put (drop (i + 1) changes)) put)) so_far

    pub no_row_referred : rows_put (change ∷ []) ≡ [] → next ≡ done → PutTo (i + 1) next.items
    no_row_referred none same =
        ap (λ (v : Vec Referenced Global). v.items ++ referred_by references (rows_put (drop (i + 1) changes))) same
        ∙ sym (ap (λ (rows : List (List Value)). done.items ++ referred_by references rows) (left ∙ ap (λ (rows : List (List Value)). rows ++ rows_put (drop (i + 1) changes)) none)) ∙ so_far

  pub all_put_referred : (done : List Referenced) (i : ℕ) → length changes ≤ i → PutTo i done → done ≡ referred_by references (rows_put changes)
  all_put_referred done i past so_far =
      sym (append-nil done) ∙ ap (λ (cs : List Change). done ++ referred_by references (rows_put cs)) (sym (drop_of_length-le changes past)) ∙ so_far
