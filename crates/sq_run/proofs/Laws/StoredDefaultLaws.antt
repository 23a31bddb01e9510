-- In accepted texts the default of each column can be stored in it (ISO/IEC 9075:1992, 11.5).
use Rattle.std.proofs.Common.{ap, arith, subst, sym}
use Rattle.std.proofs.lemmas.List.{drop_all}
use Rattle.std.specs.List.{AllByRecursion, list_all}
use Rattle.std.specs.Prelude.{◌≡◌, ◌≤◌, ◌==◌, ℕ, true, false, List, [], ◌∷◌, nat_lt, is_err, is_ok, Option, None, Some, Ok, Err, refl}
use Rattle.sq_lex.specs.declared.name.Name.{Name}
use Rattle.sq_value.specs.Domain.{domain_length}
use Rattle.sq_value.specs.Text.{of_length, only_blanks_past}
use Rattle.sq_value.specs.declared.domain.Domain.{Domain}
use Rattle.sq_value.specs.declared.domain.Domain.TheVariants as domain
use Rattle.sq_tree.specs.declared.schema.DefaultValue.{DefaultValue}
use Rattle.sq_tree.specs.declared.schema.DefaultValue.TheVariants as default
use Rattle.sq_tree.specs.declared.schema.SchemaElement.{SchemaElement}
use Rattle.sq_tree.specs.declared.schema.SchemaElement.TheVariants as element
use Rattle.sq_tree.specs.declared.schema.SchemaText.{SchemaText}
use Rattle.sq_meaning.specs.Assignment.{assigned}
use Rattle.sq_meaning.specs.Catalog.{column_domain}
use Rattle.sq_meaning.specs.Change.{Setting, value_of_default, value_or_default}
use Rattle.sq_meaning.specs.Expression.{user_value}
use Rattle.sq_meaning.specs.Schema.{Elements, column_definitions}
use Rattle.sq_meaning.specs.SchemaRefusal.{column_bad_default, elements_of, first_schema_refusal, is_bad_default}
use Rattle.sq_meaning.specs.Status.{Outcome}
use Rattle.sq_meaning.specs.Words.{is_some_and}
use Rattle.sq_meaning.proofs.AnswerLaws.{all_weaker}
use Rattle.sq_meaning.proofs.OperatorKinds.{length_fixed}
use Rattle.sq_run.specs.StoredDefaults.{DefaultsAreStored, StoresDefaults}
use Rattle.sq_run.proofs.Laws.Accepted.{AreAccepted, IsAccepted, accepted_elements}
use Rattle.sq_run.proofs.Sites.SiteLaws.{none_passes}

no_status : {A : Type 0} (o : Outcome A) → is_err o ≡ false → is_ok o ≡ true
no_status (Ok x) e = refl
no_status (Err s) e = cc

-- ---- USER, a text of 18 characters

at_least : (m n : ℕ) → nat_lt m n ≡ false → n ≤ m
at_least m n e = grind (arith, e)

user_fits : (n : ℕ) (user : Name) → nat_lt n 18 ≡ false → only_blanks_past n (of_length 18 user) ≡ true
user_fits n user e =
    ap (list_all (λ c. c == 32)) (drop_all n (of_length 18 user) (subst (λ (k : ℕ). k ≤ n) (sym (length_fixed 18 user)) (at_least n 18 e)))

user_stored : (d : Domain) (user : Name) → nat_lt (domain_length d) 18 ≡ false → is_ok (assigned d (user_value user)) ≡ true
user_stored domain.Small user e = cc
user_stored domain.Int user e = cc
user_stored (domain.Numeric p s) user e = cc
user_stored (domain.Char n) user e = rw (user_fits n user e) refl
user_stored (domain.VarChar n) user e = rw (user_fits n user e) refl

-- ---- each default

default_stored : (d : Domain) (written : Option DefaultValue) (user : Name) → is_some_and (is_bad_default d) written ≡ false
    → is_ok (assigned d (value_of_default user written)) ≡ true
default_stored d None user e = refl
default_stored d (Some (default.Number n)) user e = no_status (assigned d (value_of_default user (Some (default.Number n)))) e
default_stored d (Some (default.Text t)) user e = no_status (assigned d (value_of_default user (Some (default.Text t)))) e
default_stored d (Some default.User) user e = user_stored d user e
default_stored d (Some default.Null) user e = refl

stores : (s : Setting) (before : Elements) (user : Name) (x : SchemaElement) → IsAccepted before user x → StoresDefaults s x
stores s before user (element.Table t) h =
    all_weaker (λ c. column_bad_default c ≡ false) (λ c. is_ok (value_or_default s c None) ≡ true)
    (λ c e. default_stored (column_domain c) c.default s.user e) (column_definitions t)
    (none_passes column_bad_default (column_definitions t) h.1.1.1.1.1.1.1.0)
stores s before user (element.View v) h = tt
stores s before user (element.Grant g) h = tt

all_store : (s : Setting) (elements : Elements) → AreAccepted elements → AllByRecursion (λ e. StoresDefaults s e.element) elements
all_store s [] h = tt
all_store s (e ∷ before) h = (stores s before e.user e.element h.0, all_store s before h.1)

pub defaults_are_stored : (schemas : List SchemaText) → first_schema_refusal schemas ≡ None → DefaultsAreStored (elements_of schemas)
defaults_are_stored schemas accepted = λ s. all_store s (elements_of schemas) (accepted_elements schemas accepted)
