-- The conditions of a table that are made are well formed on its rows, and are those that are written (ISO/IEC 9075:1992, 11.9).
use Rattle.std.proofs.Common.{◌≡◌, ℕ, List, [], ◌∷◌, map, Ok, Err, refl, ap, sym, subst, ◌∙◌}
use Rattle.std.specs.List.{AllZip}
use Rattle.std.specs.Prelude.{Result}
use Rattle.sq_lex.specs.declared.name.Name.{Name}
use Rattle.sq_tree.specs.declared.cond.Cond.{Cond}
use Rattle.sq_meaning.specs.Environment.{TableName}
use Rattle.sq_meaning.specs.Spelled.{cond_of}
use Rattle.sq_bound.specs.WellFormed.{kinds_of_columns}
use Rattle.sq_bound.specs.declared.condition.BoundCond.{BoundCond}
use Rattle.sq_bound.specs.declared.names.Column.{Column}
use Rattle.sq_binding.specs.NumberedCondition.{NumberedCond}
use Rattle.sq_binding.specs.Seen.{cond_seen}
use Rattle.sq_binding.specs.View.{CheckFault, check_bound}
use Rattle.sq_binding.specs.ElementOutcome.{Outcome, and_then, each}
use Rattle.sq_binding.specs.Table.{or_bad_check}
use Rattle.sq_binding.specs.Names.{descriptor_of}
use Rattle.sq_binding.proofs.WellFormed.Checks.{check_is_written, check_stands}
use Rattle.sq_catalog.specs.Checks.{AreChecksOf, check_over}
use Rattle.sq_catalog.specs.Exact.{name_in}
use Rattle.sq_catalog.specs.Stored.{AreChecksAt}
use Rattle.sq_catalog.specs.Table.{AreChecksMade}
use Rattle.sq_catalog.specs.declared.catalog.FullName.{FullName}

module _ {A B X : Type 0} (f : A → Outcome B) (image : X → B) where
  abbrev IsMadeOf : A → X → Type 0
  IsMadeOf x y = f x ≡ Ok (image y)

  -- each of a list is made of the one at its place
  each_made : (xs : List A) (ys : List X) → each f xs ≡ Ok (map image ys) → AllZip IsMadeOf xs ys
  each_made [] [] h = tt
  each_made [] (y ∷ ys) h = absurd cc
  each_made (x ∷ xs) ys h = first (f x) refl (each f xs) refl (each_made xs) ys h
    where
      first : (o : Outcome B) → f x ≡ o → (p : Outcome (List B)) → each f xs ≡ p → ((ys : List X) → each f xs ≡ Ok (map image ys) → AllZip IsMadeOf xs ys) → (ys : List X) → and_then o (λ y. and_then p (λ ys. Ok (y ∷ ys))) ≡ Ok (map image ys)
          → AllZip IsMadeOf (x ∷ xs) ys
      first (Err e) is p are later ys h = absurd cc
      first (Ok y) is (Err e) are later ys h = absurd cc
      first (Ok y) is (Ok zs) are later [] h = absurd cc
      first (Ok y) is (Ok zs) are later (w ∷ ws) h =
          let here : y ≡ image w = cc in
          let rest : zs ≡ map image ws = cc in
          (is ∙ (λ i. Ok (here i)), later ws (are ∙ (λ i. Ok (rest i))))

bound_well : (r : Result NumberedCond CheckFault) (c : NumberedCond) → or_bad_check r ≡ Ok c → r ≡ Ok c
bound_well (Ok d) c h = let same : d ≡ c = cc in ap (λ n. Ok n) same
bound_well (Err f) c h = absurd cc

module _ (user : Name) (name : FullName) (own : name.user ≡ user) (columns : List Column) where
  abbrev table : TableName
  table = record { user = name.user; name = name.name }

  bound_here : (k : Cond) (c : BoundCond) → check_over user (name_in name) (map descriptor_of columns) k ≡ Ok (cond_seen c) → check_bound table (map descriptor_of columns) (cond_of name.user k) ≡ Ok (cond_seen c)
  bound_here k c h =
      subst (λ u. check_bound table (map descriptor_of columns) (cond_of u k) ≡ Ok (cond_seen c)) (sym own) (bound_well (check_bound table (map descriptor_of columns) (cond_of user k)) (cond_seen c) h)

  abbrev IsMadeHere : Cond → BoundCond → Type 0
  IsMadeHere k c = check_over user (name_in name) (map descriptor_of columns) k ≡ Ok (cond_seen c)

  all_stand : (place : ℕ) (ks : List Cond) (cs : List BoundCond) → AllZip IsMadeHere ks cs → AreChecksAt place (kinds_of_columns columns) cs
  all_stand place [] [] h = tt
  all_stand place [] (c ∷ cs) h = absurd h
  all_stand place (k ∷ ks) [] h = absurd h
  all_stand place (k ∷ ks) (c ∷ cs) h = (check_stands table place columns k c (bound_here k c h.0), all_stand place ks cs h.1)

  all_written : (ks : List Cond) (cs : List BoundCond) → AllZip IsMadeHere ks cs → AreChecksOf name columns ks cs
  all_written [] [] h = tt
  all_written [] (c ∷ cs) h = absurd h
  all_written (k ∷ ks) [] h = absurd h
  all_written (k ∷ ks) (c ∷ cs) h = (check_is_written table 0 columns k c (bound_here k c h.0), all_written ks cs h.1)

  pub checks_stand : (place : ℕ) (ks : List Cond) (cs : List BoundCond) → AreChecksMade user name columns ks cs → AreChecksAt place (kinds_of_columns columns) cs
  checks_stand place ks cs h = all_stand place ks cs (each_made (check_over user (name_in name) (map descriptor_of columns)) cond_seen ks cs h)

  pub checks_written : (ks : List Cond) (cs : List BoundCond) → AreChecksMade user name columns ks cs → AreChecksOf name columns ks cs
  checks_written ks cs h = all_written ks cs (each_made (check_over user (name_in name) (map descriptor_of columns)) cond_seen ks cs h)
