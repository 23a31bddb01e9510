-- GRANT, step by step (ISO/IEC 9075:1992, 11.36).
use Rattle.std.proofs.Common.{◌≡◌, true, List, Option, Some, None, Result, Ok, Err, sym, ap, subst, ◌∙◌}
use Rattle.std.specs.Prelude.{IfErr, OnOk}
use Rattle.sq_lex.specs.declared.name.Name.{Name}
use Rattle.sq_tree.specs.declared.schema.GrantStatement.{GrantStatement}
use Rattle.sq_meaning.specs.Environment.{TableName}
use Rattle.sq_meaning.specs.Spelled.{table_of}
use Rattle.sq_meaning.specs.declared.refusal.SchemaFault.TheVariants as fault
use Rattle.sq_binding.specs.Catalog as definition
use Rattle.sq_binding.specs.Catalog.{DeclaredBase, DeclaredView, Entry, entry, entry_column_names, may, with_grants}
use Rattle.sq_binding.specs.Grant.{declared_grants, grants_on, with_granted}
use Rattle.sq_binding.specs.ElementOutcome.{Outcome, and_then, or_fault}
use Rattle.sq_catalog.specs.Fault.{Makes}
use Rattle.sq_catalog.specs.declared.fault.ElementFault.{ElementFault}
use Rattle.sq_catalog.specs.declared.fault.ElementFault.TheVariants as element
use Rattle.sq_catalog.proofs.OneByOne.Turns.{then_makes}

module _ (c : definition.Catalog) (user : Name) (g : GrantStatement) (t : TableName) (same : t ≡ table_of user g.table) where
  -- the table that is named
  pub makes_there : {A : Type 0} (image : A → List definition.Grant) (r : Result A ElementFault) (e : Entry) (columns : List Name) → Some e ≡ entry c t → entry_column_names e ≡ columns
      → Makes image (grants_on (may c true user t) columns t g) r → Makes image (declared_grants c user g) r
  makes_there image r e columns there names h =
      subst (λ (n : TableName). Makes image (and_then (or_fault fault.UnknownName (entry c n)) (λ e. grants_on (may c true user n) (entry_column_names e) n g)) r) same
      (then_makes image (or_fault fault.UnknownName (entry c t)) e (λ e. grants_on (may c true user t) (entry_column_names e) t g) r (ap (or_fault fault.UnknownName) (sym there))
      (subst (λ (ns : List Name). Makes image (grants_on (may c true user t) ns t g) r) (sym names) h))

  pub none_there : None ≡ entry c t → declared_grants c user g ≡ Err fault.UnknownName
  none_there none =
      let absent : None ≡ entry c (table_of user g.table) = none ∙ ap (entry c) same in
      ap (λ (o : Option Entry). and_then (or_fault fault.UnknownName o) (λ e. grants_on (may c true user (table_of user g.table)) (entry_column_names e) (table_of user g.table) g)) (sym absent)

-- a catalog of these
abbrev pub catalog_with : List Name → List DeclaredBase → List DeclaredView → List definition.Grant → definition.Catalog
catalog_with users bases views grants = record { users = users; bases = bases; views = views; grants = grants }

-- what is granted is added
pub makes_granted : (c new : definition.Catalog) (old held gs : List definition.Grant) (o : Outcome (List definition.Grant)) → o ≡ Ok gs → (held ≡ with_grants old gs → new ≡ with_granted c gs)
    → (r : Result (Unit {0}) ElementFault) → OnOk r (held ≡ with_grants old gs) → IfErr r (λ fault. fault ≡ element.NoMemory) → Makes (λ _. new) (and_then o (λ gs. Ok (with_granted c gs))) r
makes_granted c new old held gs o e grown (Ok done) added memory = ap (λ (x : Outcome (List definition.Grant)). and_then x (λ gs. Ok (with_granted c gs))) e ∙ ap Ok (sym (grown added))
makes_granted c new old held gs o e grown (Err (element.Refused fault)) added memory = cc
makes_granted c new old held gs o e grown (Err element.NoMemory) added memory = tt
