-- A finding in the parts made of columns is one in the part made of one of them (ISO/IEC 9075:1992, 13.8 to 13.10).
use Rattle.std.proofs.Common.{Bool, not, List, [], ◌∷◌, ◌++◌, sym}
use Rattle.std.specs.List.{flat_map}
use Rattle.std.specs.Prelude.{⊤}
use Rattle.sq_lex.specs.declared.name.Name.{Name}
use Rattle.sq_meaning.specs.Binding.{Judged}
use Rattle.sq_meaning.specs.Schema.{has_name_twice}
use Rattle.sq_meaning.specs.Site.{EnclosingQuery, Site}
use Rattle.sq_meaning.specs.declared.fault.BindingFault.TheVariants as fault
use Rattle.sq_binding.specs.Change.{Receiver, each_column, receiver_named}
use Rattle.sq_binding.specs.Changeable.{ChangedTable}
use Rattle.sq_binding.specs.Found.{Binding, ◌>>=◌, ◌>>◌, must, outcome, pure}
use Rattle.sq_binding.specs.From.{NamedTables}
use Rattle.sq_binding.specs.QueryFindings.{QueryFindings}
use Rattle.sq_binding.proofs.Faultless.CleanQuery.{anything_known}
use Rattle.sq_binding.proofs.AtSites.Seen.{SeenIf, Sees, any_both, behind_seen, last_seen, must_seen, outcome_seen, pure_seen, then_seen}

module _ (names : NamedTables) (j : Judged) (test : Site → Bool) (seen : QueryFindings → Bool) (Good : List EnclosingQuery → Bool → Type 0) (sees : Sees names j test seen Good) where
  pub columns_seen : {A B : Type 0} (t : ChangedTable) (name_of : A → Name) (make : A → Receiver → Binding B) (sites_of : A → List Site)
      → ((x : A) (r : Receiver) → SeenIf names j test seen Good sees (sites_of x) (make x r)) → (before : List Name) (xs : List A)
      → SeenIf names j test seen Good sees (flat_map sites_of xs) (each_column t name_of make before xs)
  columns_seen {A} {B} t name_of make sites_of h before [] = pure_seen names j test seen Good sees {A = List B} []
  columns_seen {A} {B} t name_of make sites_of h before (x ∷ xs) =
      behind_seen names j test seen Good sees (flat_map sites_of (x ∷ xs)) (outcome (receiver_named t (name_of x)))
      (λ r. must (not (has_name_twice (before ++ name_of x ∷ []))) fault.ColumnTwice >> (make x r >>= λ y. each_column t name_of make (before ++ name_of x ∷ []) xs >>= λ ys. pure (y ∷ ys)))
      (outcome_seen names j test seen Good sees (receiver_named t (name_of x)))
      (λ r. behind_seen names j test seen Good sees (flat_map sites_of (x ∷ xs)) (must (not (has_name_twice (before ++ name_of x ∷ []))) fault.ColumnTwice)
      (λ _. make x r >>= λ y. each_column t name_of make (before ++ name_of x ∷ []) xs >>= λ ys. pure (y ∷ ys)) (must_seen names j test seen Good sees (not (has_name_twice (before ++ name_of x ∷ []))) fault.ColumnTwice)
      (λ _. then_seen names j test seen Good sees (sites_of x) (flat_map sites_of xs) (flat_map sites_of (x ∷ xs)) (λ y. ⊤) (make x r) (λ y. each_column t name_of make (before ++ name_of x ∷ []) xs >>= λ ys. pure (y ∷ ys)) (anything_known (make x r)) (h x r)
      (λ y u. last_seen names j test seen Good sees (flat_map sites_of xs) (each_column t name_of make (before ++ name_of x ∷ []) xs) (λ ys. y ∷ ys) (columns_seen t name_of make sites_of h (before ++ name_of x ∷ []) xs))
      (sym (any_both test (sites_of x) (flat_map sites_of xs)))))
