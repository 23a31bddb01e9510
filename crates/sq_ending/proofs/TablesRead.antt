-- What was read of the tables is what they mean.
use Rattle.std.proofs.Common.{◌≡◌, ℕ, ◌<◌, nat_eq, cond, Bool, true, false, List, [], ◌∷◌, length, find, Option, Some, refl, sym, ◌∙◌, ap, subst, Ok}
use Rattle.std.specs.Prelude.{◌||◌}
use Rattle.std.specs.List.{AllByRecursion, list_any}
use Rattle.std.specs.Option.{option_map}
use Rattle.std.proofs.lemmas.Bool.{eqb-true}
use Rattle.sq_lex.specs.declared.name.Name.{Name}
use Rattle.sq_store.specs.Content.{Content, table_at}
use Rattle.sq_store.specs.declared.table.Table.{Table}
use Rattle.sq_meaning.specs.Environment.{Row}
use Rattle.sq_meaning.specs.Status.{Outcome, and_then, well_formed}
use Rattle.sq_meaning.specs.Tables.{rows_in}
use Rattle.sq_meaning.specs.WellFormed.{HasValue}
use Rattle.sq_bound.specs.Condition.{select_of}
use Rattle.sq_bound.specs.Fits.{AreInDomains}
use Rattle.sq_bound.specs.declared.condition.BoundSpecification.{BoundSpecification}
use Rattle.sq_bound.specs.declared.condition.TablePlace.{TablePlace}
use Rattle.sq_bound.specs.declared.condition.TablePlace.TheVariants.{Base, View}
use Rattle.sq_expression.specs.Frame.{lent, table_rows, view_outcome}
use Rattle.sq_expression.specs.declared.context.Context.{Context}
use Rattle.sq_expression.specs.declared.table.BaseRows.{BaseRows}
use Rattle.sq_expression.specs.declared.table.ViewRows.{ViewRows}
use Rattle.sq_query.specs.Needed.{ReadsSelect, specification_tables}
use Rattle.sq_query.specs.Table.{AreMeant}
use Rattle.sq_query.proofs.Needs.Added.{select_listed, select_read}
use Rattle.sq_query.proofs.Targets.WalkedRows.{there_within}
use Rattle.sq_ending.specs.Read.{AreRight, AreShown, AreStored, IsThere, Known}
use Rattle.sq_ending.specs.declared.read.Tables.{Tables}

-- what is there is found, and what holds of all holds of it
found_there : {A : Type 0} (P : A → Type 0) (test : A → Bool) (xs : List A) → AllByRecursion P xs → list_any test xs ≡ true → (x : A) × (find test xs ≡ Some x) × (test x ≡ true) × P x
found_there P test [] all there = absurd cc
found_there {A} P test (x ∷ xs) all there = by (λ more. found_there P test xs all.1 more) (test x) refl
  where
    by : (list_any test xs ≡ true → (y : A) × (find test xs ≡ Some y) × (test y ≡ true) × P y) → (b : Bool) → test x ≡ b → (y : A) × (find test (x ∷ xs) ≡ Some y) × (test y ≡ true) × P y
    by rest true is = (x, ap (λ (c : Bool). cond c (Some x) (find test xs)) is, is, all.0)
    by rest false is =
        let found = rest (sym (ap (λ (c : Bool). c || list_any test xs) is) ∙ there) in
        (found.0, ap (λ (c : Bool). cond c (Some x) (find test xs)) is ∙ found.1, found.2, found.3)

all_both : {A : Type 0} (P Q R : A → Type 0) → ((x : A) → P x → Q x → R x) → (xs : List A) → AllByRecursion P xs → AllByRecursion Q xs → AllByRecursion R xs
all_both P Q R f [] p q = tt
all_both P Q R f (x ∷ xs) p q = (f x p.0 q.0, all_both P Q R f xs p.1 q.1)

module _ (known : Known) (content : Content) (user : Name) (read : Tables) (right : AreRight known content user read) (domains : AreInDomains known.bases content) (tables : TablePlace → Outcome (List Row))
    (meant : AreMeant known.queries content user tables) (stored : (place : ℕ) → HasValue (known.columns (Base place)) → place < length content)
    (context : Context) (bases_are : context.bases.now ≡ read.bases.items) (views_are : context.views.now ≡ read.views.items) where
  table_read : (t : TablePlace) → IsThere read t → HasValue (known.columns t) → table_rows context t ≡ tables t
  table_read (Base place) there has =
      let found = found_there (AreStored content) (λ (b : BaseRows). nat_eq b.place place) read.bases.items right.bases there in
      let at : found.0.place ≡ place = eqb-true found.0.place place found.2 in
      let within = stored place has in
      ap (λ (bs : List BaseRows). well_formed (option_map (λ (b : BaseRows). lent b.rows.items) (find (λ (b : BaseRows). nat_eq b.place place) bs))) bases_are
      ∙ ap (λ (o : Option BaseRows). well_formed (option_map (λ (b : BaseRows). lent b.rows.items) o)) found.1
      ∙ ap Ok (found.3 (subst (λ (n : ℕ). n < length content) (sym at) within))
      ∙ ap (λ (n : ℕ). let o : Outcome (List Row) = Ok (rows_in (table_at content n)) in o) at
      ∙ sym (ap (λ (o : Outcome Table). and_then o (λ t. Ok (rows_in t))) (there_within content place within))
      ∙ sym (meant.bases place)
  table_read (View place) there has =
      let found = found_there (AreShown known content user) (λ (v : ViewRows). nat_eq v.place place) read.views.items right.views there in
      let at : found.0.place ≡ place = eqb-true found.0.place place found.2 in
      ap (λ (vs : List ViewRows). and_then (well_formed (find (λ (v : ViewRows). nat_eq v.place place) vs)) (λ v. view_outcome v.rows.items v.failure)) views_are
      ∙ ap (λ (o : Option ViewRows). and_then (well_formed o) (λ v. view_outcome v.rows.items v.failure)) found.1
      ∙ found.3 domains tables meant (subst (λ (n : ℕ). HasValue (known.columns (View n))) (sym at) has)
      ∙ ap (λ (n : ℕ). tables (View n)) at

  pub query_read : (q : BoundSpecification) (needed : List TablePlace) → needed ≡ specification_tables q → AllByRecursion (IsThere read) needed → ReadsSelect (λ t. HasValue (known.columns t)) (select_of q)
      → ReadsSelect (λ t. table_rows context t ≡ tables t) (select_of q)
  query_read q needed are there has =
      select_read (λ t. table_rows context t ≡ tables t) (select_of q)
      (all_both (IsThere read) (λ t. HasValue (known.columns t)) (λ t. table_rows context t ≡ tables t) table_read (specification_tables q)
      (subst (AllByRecursion (IsThere read)) are there) (select_listed (λ t. HasValue (known.columns t)) (select_of q) has))
