-- Statements that are bound by themselves.
use Rattle.std.proofs.Common.{◌≡◌, Bool, true, false, List, Ok, Err, refl, sym, ap, subst, ◌∙◌}
use Rattle.std.specs.Prelude.{Result, if◌then◌else◌}
use Rattle.sq_tree.specs.declared.statement.Statement.{Statement}
use Rattle.sq_tree.specs.declared.statement.Statement.TheVariants as written
use Rattle.sq_meaning.specs.Tables.{Declared}
use Rattle.sq_meaning.specs.declared.fault.BindingFault.TheVariants.{PrivilegeMissing}
use Rattle.sq_binding.specs.Change.{NamedCursors}
use Rattle.sq_binding.specs.Changeable.{UserNames, outside}
use Rattle.sq_binding.specs.Found.{Binding}
use Rattle.sq_binding.specs.Outcome.{and_then}
use Rattle.sq_binding.specs.Statement.{statement_bound}
use Rattle.sq_binding.specs.Whole.{permitted, whole}
use Rattle.sq_binder.specs.Binds.{Binds, broken}
use Rattle.sq_binder.specs.Found.{Finds}
use Rattle.sq_binder.specs.declared.found.Counts.{Counts}
use Rattle.sq_binder.specs.declared.found.Found.{Found}
use Rattle.sq_binder.specs.declared.stop.Stop.{Stop}
use Rattle.sq_binder.specs.declared.stop.Stop.TheVariants.{Fault, NoMemory}
use Rattle.sq_binder.specs.Needed.{Permits}
use Rattle.sq_binder.specs.Statement.{statement_in}

-- nothing stands before
abbrev first : Counts
first = record { functions = 0; subqueries = 0 }

pub whole_binds : {A X : Type 0} (image : X → A) (b : Binding A) (r : Result (Found X) Stop) (part : Result X Stop) → Finds image b first r → Permits r part → Binds image (whole b) part
whole_binds {A} {X} image b (Ok x) part found is = subst (Binds image (whole b)) (sym is) (by x.brought.findings.lacks_privilege refl)
  where
    by : (lacks : Bool) → x.brought.findings.lacks_privilege ≡ lacks → Binds image (whole b) (if x.brought.findings.lacks_privilege then Err (broken PrivilegeMissing) else Ok x.part)
    by lacks e = subst (λ t. Binds image (whole b) (if t then Err (broken PrivilegeMissing) else Ok x.part)) (sym e) (of lacks e)
      where
        of : (lacks : Bool) → x.brought.findings.lacks_privilege ≡ lacks → Binds image (whole b) (if lacks then Err (broken PrivilegeMissing) else Ok x.part)
        of true e = ap (λ o. and_then o permitted) found.0 ∙ ap (λ t. if t then Err PrivilegeMissing else Ok (image x.part)) e
        of false e = ap (λ o. and_then o permitted) found.0 ∙ ap (λ t. if t then Err PrivilegeMissing else Ok (image x.part)) e
whole_binds image b (Err NoMemory) part found is = subst (Binds image (whole b)) (sym is) tt
whole_binds image b (Err (Fault f)) part found is = subst (Binds image (whole b)) (sym is) (ap (λ o. and_then o permitted) found)

pub outside_all : (names : UserNames) (parameters : List Declared) (cursors : NamedCursors) (s : Statement) → statement_in names (outside names parameters) cursors s ≡ statement_bound names parameters cursors s
outside_all names parameters cursors (written.Open name) = refl
outside_all names parameters cursors (written.Fetch f) = refl
outside_all names parameters cursors (written.Close name) = refl
outside_all names parameters cursors (written.Select s) = refl
outside_all names parameters cursors (written.Insert i) = refl
outside_all names parameters cursors (written.Update u) = refl
outside_all names parameters cursors (written.Delete d) = refl
outside_all names parameters cursors (written.Commit work) = refl
outside_all names parameters cursors (written.Rollback work) = refl
