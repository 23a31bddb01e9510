-- The parameters with which a cursor is bound are those of the procedure that opens it, since no other
-- opens it (ISO/IEC 9075:1992, 13.1 and 13.2).
use Rattle.std.proofs.Common.{◌≡◌, List, [], ◌∷◌, None, refl, sym, ap, subst, ◌∙◌}
use Rattle.std.specs.List.{IsAmong}
use Rattle.sq_lex.specs.declared.name.Name.{Name}
use Rattle.sq_tree.specs.declared.«module».Cursor.{Cursor}
use Rattle.sq_tree.specs.declared.«module».ModuleItem.TheVariants as item
use Rattle.sq_tree.specs.declared.«module».ModuleText.{ModuleText}
use Rattle.sq_tree.specs.declared.«module».Procedure.{Procedure}
use Rattle.sq_tree.specs.declared.statement.Statement.TheVariants as statement
use Rattle.sq_value.specs.declared.domain.Domain.{Domain}
use Rattle.sq_meaning.specs.Tables.{Declared}
use Rattle.sq_meaning.specs.Module.{declared_parameters, opens}
use Rattle.sq_meaning.specs.ModuleRefusal.{first_module_refusal}
use Rattle.sq_meaning.specs.WellFormedStatement.{opener_parameters}
use Rattle.sq_run.proofs.Laws.OpenerLaws.{opener_is}
use Rattle.sq_bound.specs.Known.{KnownTables}
use Rattle.sq_value.specs.Domain.{IsDomain}
use Rattle.sq_bound.specs.Parameter.{IsDomain-prop}
use Rattle.sq_bound.specs.declared.names.ParameterDesc.{ParameterDesc}
use Rattle.sq_binding.specs.Written.{IsCursorOf}
use Rattle.sq_module.specs.Written.{IsDeclaredFrom, IsOpenedIn}
use Rattle.sq_module.specs.declared.program.DeclaredCursor.{DeclaredCursor}
use Rattle.sq_binding.specs.Names.{declared}
use Rattle.sq_module.proofs.Named.{bound_declared}
use Rattle.sq_run.proofs.Steps.Found.{itself, opened_once, procedure_found}

-- ---- parameters are the same where their names and domains are

abbrev parameter : (name : Name) (d : Domain) → IsDomain d → ParameterDesc
parameter name d h = record { name = name; domain = d; is_domain = h }

same_domain : (name : Name) (d e : Domain) → d ≡ e → (h : IsDomain d) (k : IsDomain e) → parameter name d h ≡ parameter name e k
same_domain name d e same h =
    subst (λ x. (k : IsDomain x) → parameter name d h ≡ parameter name x k) same (λ k i. parameter name d (IsDomain-prop d h k i))

same_parameter : (p q : ParameterDesc) → p.name ≡ q.name → p.domain ≡ q.domain → p ≡ q
same_parameter p q names domains =
    (λ i. parameter (names i) p.domain p.is_domain) ∙ same_domain q.name p.domain q.domain domains p.is_domain q.is_domain

same_parameters : (ps qs : List ParameterDesc) → declared ps ≡ declared qs → ps ≡ qs
same_parameters [] [] e = refl
same_parameters [] (q ∷ qs) e = cc
same_parameters (p ∷ ps) [] e = cc
same_parameters (p ∷ ps) (q ∷ qs) e =
    let head : ◌≡◌ {A = Declared} (record { name = p.name; domain = p.domain }) (record { name = q.name; domain = q.domain }) = cc in
    let rest : declared ps ≡ declared qs = cc in
    (λ i. same_parameter p q (ap (λ (d : Declared). d.name) head) (ap (λ (d : Declared). d.domain) head) i ∷ same_parameters ps qs rest i)

-- ---- the only procedure that opens a cursor

module _ (modules : List ModuleText) (admitted : first_module_refusal modules ≡ None) (m : ModuleText) (among : IsAmong modules m) (c : Cursor)
    (is_item : IsAmong m.items (item.Cursor c)) where
  pub opener : (p : Procedure) → IsAmong m.items (item.Procedure p) → p.statement ≡ statement.Open c.name → opener_parameters m c.name ≡ declared_parameters p
  opener p there does =
      opener_is m p.name c.name p (procedure_found modules admitted m among p there) (ap (opens c.name) does ∙ itself c.name)
      (opened_once modules admitted m among c is_item)

  only_parameters : (ps qs : List ParameterDesc) → IsOpenedIn m c.name ps → IsOpenedIn m c.name qs → ps ≡ qs
  only_parameters ps qs h k =
      same_parameters ps qs
      (bound_declared h.procedure ps h.declares ∙ sym (opener h.procedure h.is_item h.opens) ∙ opener k.procedure k.is_item k.opens
      ∙ sym (bound_declared k.procedure qs k.declares))

  -- So the cursor has the rows of its query for the parameters of whichever opens it.
  pub bound_for : (known : KnownTables) (d : DeclaredCursor) → IsDeclaredFrom known m c d → (ps : List ParameterDesc) → IsOpenedIn m c.name ps
      → IsCursorOf known m.authorization ps c d.cursor
  bound_for known d from ps h = subst (λ qs. IsCursorOf known m.authorization qs c d.cursor) (only_parameters from.parameters ps from.opened h) from.cursor
