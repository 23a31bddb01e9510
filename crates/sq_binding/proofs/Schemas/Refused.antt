-- Schema texts are refused exactly if the rules refuse them, with the same first refusal. A catalog that is answered is the catalog of
-- their elements (ISO/IEC 9075:1992, 11.1).
use Rattle.std.proofs.Common.{◌≡◌, Bool, true, false, ◌||◌, List, [], ◌∷◌, ◌++◌, Option, Some, None, Ok, Err, refl, sym, ap, ◌∙◌}
use Rattle.std.proofs.lemmas.List.Folds.{list_any-append}
use Rattle.std.specs.List.{AllByRecursion, fold}
use Rattle.std.specs.Option.{option_map, option_or}
use Rattle.std.specs.Prelude.{⊤, find, if◌then◌else◌}
use Rattle.sq_value.proofs.Truths.{or_turned}
use Rattle.sq_lex.specs.declared.name.Name.{Name}
use Rattle.sq_tree.specs.declared.schema.SchemaElement.{SchemaElement}
use Rattle.sq_tree.specs.declared.schema.SchemaElement.TheVariants as element
use Rattle.sq_tree.specs.declared.schema.SchemaText.{SchemaText}
use Rattle.sq_meaning.specs.Environment.{same_name}
use Rattle.sq_meaning.specs.Spelled.{cond_of, select_of}
use Rattle.sq_meaning.specs.Schema.{Elements, checks, is_among}
use Rattle.sq_meaning.specs.SchemaRefusal.{Part, SchemaRefusal, elements_of, elements_with, first_schema_refusal, part_fault, part_refusal, refused_for, schema_faults, schema_parts, schema_refusal, users_with}
use Rattle.sq_meaning.specs.SchemaRefusal as refusal
use Rattle.sq_meaning.specs.declared.refusal.SchemaFault.{SchemaFault}
use Rattle.sq_meaning.specs.declared.refusal.SchemaFault.TheVariants as fault
use Rattle.sq_binding.proofs.FaultsFound.CondFaults.{CondSpellsNoNull, SelectSpellsNoNull}
use Rattle.sq_binding.specs.Catalog.{Catalog, empty}
use Rattle.sq_binding.specs.Declaring.{Declared, catalog_of, then_parts, with_element, with_part, with_parts, with_user}
use Rattle.sq_binding.specs.Grant.{declared_grants, with_granted}
use Rattle.sq_binding.specs.ElementOutcome.{Outcome, and_then, refused_if}
use Rattle.sq_binding.specs.Table.{declared_table, with_base}
use Rattle.sq_binding.specs.CreateView.{declared_view, with_view}
use Rattle.sq_binding.proofs.Schemas.Answers.{Answers, answers_known, answers_made, first_broken}
use Rattle.sq_binding.proofs.Schemas.Created.{with_table}
use Rattle.sq_binding.proofs.Schemas.Granted.{IsGranted, grant_first, grant_rules, grants_told, with_these_grants}
use Rattle.sq_binding.proofs.Schemas.KnownTables.{IsCatalogOf}
use Rattle.sq_binding.proofs.Schemas.Made.{made_still}
use Rattle.sq_binding.proofs.Schemas.Tables.{IsMade, table_first, table_rules, table_told}
use Rattle.sq_binding.proofs.SchemaViews.ViewHeld.{with_this_view}
use Rattle.sq_binding.proofs.SchemaViews.CreatedViews.{IsNewView, view_first, view_rules, view_told}

-- no condition of CHECK and no query of a view spells a literal that is null
abbrev pub IsPlain : Name → SchemaElement → Type 0
IsPlain user (element.Table t) = AllByRecursion (λ k. CondSpellsNoNull (cond_of user k)) (checks t)
IsPlain user (element.View v) = SelectSpellsNoNull (select_of user v.query)
IsPlain user (element.Grant g) = ⊤

abbrev pub IsPlainPart : Name → Option SchemaElement → Type 0
IsPlainPart user None = ⊤
IsPlainPart user (Some e) = IsPlain user e

-- ---- one part

-- What it answers after some elements: a catalog with it where the rules find no fault, and else the first fault that they find.
abbrev pub AnswersAs : List Name → Elements → Option SchemaFault → Outcome Catalog → Type 0
AnswersAs users elements first (Ok c) = (first ≡ None) × IsCatalogOf users elements c
AnswersAs users elements first (Err f) = first ≡ Some f

as_first : (users : List Name) (elements : Elements) (rules : List (SchemaFault × Bool)) (first : Option SchemaFault) → first_broken rules ≡ first → (o : Outcome Catalog) → Answers rules (IsCatalogOf users elements) o → AnswersAs users elements first o
as_first users elements rules first e (Ok c) h = (sym e ∙ h.0, h.1)
as_first users elements rules first e (Err f) h = sym e ∙ h

module _ (users : List Name) (before : Elements) (c : Catalog) (of : IsCatalogOf users before c) (user : Name) where
  abbrev with_it : SchemaElement → Elements
  with_it e = refusal.with_element before user e

  element_told : (e : SchemaElement) → IsPlain user e → AnswersAs users (with_it e) (find (refused_for before user e) schema_faults) (with_element c user e)
  element_told (element.Table t) null =
      as_first users (with_it (element.Table t)) (table_rules users before c of user t) (find (refused_for before user (element.Table t)) schema_faults) (table_first users before c of user t) (with_element c user (element.Table t))
      (answers_made (table_rules users before c of user t) (IsMade users before c of user t) (IsCatalogOf users (with_it (element.Table t))) (declared_table c user t) (with_base c) (table_told users before c of user t null)
      (λ b made. with_table users before c of user t b made))
  element_told (element.View v) null =
      as_first users (with_it (element.View v)) (view_rules users before c of user v) (find (refused_for before user (element.View v)) schema_faults) (view_first users before c of user v) (with_element c user (element.View v))
      (answers_made (view_rules users before c of user v) (λ n. IsNewView users before c of user v null n × (declared_view c user v ≡ Ok n)) (IsCatalogOf users (with_it (element.View v))) (declared_view c user v) (with_view c)
      (answers_known (view_rules users before c of user v) (IsNewView users before c of user v null) (declared_view c user v) (view_told users before c of user v null))
      (λ n made. with_this_view users before c of user v null n made.0 made.1))
  element_told (element.Grant g) null =
      as_first users (with_it (element.Grant g)) (grant_rules users before c of user g) (find (refused_for before user (element.Grant g)) schema_faults) (grant_first users before c of user g) (with_element c user (element.Grant g))
      (answers_made (grant_rules users before c of user g) (IsGranted users before c of user g) (IsCatalogOf users (with_it (element.Grant g))) (declared_grants c user g) (with_granted c) (grants_told users before c of user g)
      (λ gs made. with_these_grants users before c of user g gs made))

  user_told : AnswersAs (user ∷ users) before (part_fault users before user None) (with_user c user)
  user_told = by (is_among c.users user) (of.users_are user)
    where
      now : IsCatalogOf (user ∷ users) before (record c { users = c.users ++ user ∷ [] })
      now = record {
        users_are = λ who. list_any-append (same_name who) c.users (user ∷ []) ∙ ap (λ b. b || (same_name who user || false)) (of.users_are who) ∙ or_turned (is_among users who) (same_name who user);
        known = of.known;
        count = of.count;
        bases = of.bases;
        few = of.few;
        held = of.held;
        made = made_still before c (record c { users = c.users ++ user ∷ [] }) refl refl (λ name e at. at) of.made;
        on_columns = of.on_columns;
        granted = of.granted;
      }

      by : (b : Bool) → b ≡ is_among users user → AnswersAs (user ∷ users) before (if is_among users user then Some fault.NameTwice else None) (and_then (refused_if fault.NameTwice b) (λ _. Ok (record c { users = c.users ++ user ∷ [] })))
      by true e = ap (λ b. if b then Some fault.NameTwice else None) (sym e)
      by false e = (ap (λ b. if b then Some fault.NameTwice else None) (sym e), now)

  part_told : (e : Option SchemaElement) → IsPlainPart user e → AnswersAs (users_with users user e) (elements_with before user e) (part_fault users before user e) (with_part c user e)
  part_told None null = user_told
  part_told (Some e) null = element_told e null

-- ---- all of them

-- the users and the elements behind some parts
abbrev pub users_behind : List Name → List Part → List Name
users_behind users ps = fold (λ us p. users_with us p.user p.element) users ps

abbrev pub elements_behind : Elements → List Part → Elements
elements_behind before ps = fold (λ es p. elements_with es p.user p.element) before ps

-- a catalog of these where there is no refusal, and else that
abbrev pub DeclaresAs : List Name → Elements → Option SchemaRefusal → Declared → Type 0
DeclaresAs users elements first (Ok c) = (first ≡ None) × IsCatalogOf users elements c
DeclaresAs users elements first (Err r) = first ≡ Some r

parts_told : (users : List Name) (before : Elements) (c : Catalog) → IsCatalogOf users before c → (ps : List Part) → AllByRecursion (λ p. IsPlainPart p.user p.element) ps
    → DeclaresAs (users_behind users ps) (elements_behind before ps) (schema_refusal users before ps) (with_parts ps c)
parts_told users before c of [] plain = (refl, of)
parts_told users before c of (p ∷ ps) plain =
    by (λ c of. parts_told (users_with users p.user p.element) (elements_with before p.user p.element) c of ps plain.1) (part_fault users before p.user p.element) (with_part c p.user p.element)
    (part_told users before c of p.user p.element plain.0)
  where
    by : ((c : Catalog) → IsCatalogOf (users_with users p.user p.element) (elements_with before p.user p.element) c → DeclaresAs (users_behind (users_with users p.user p.element) ps) (elements_behind (elements_with before p.user p.element) ps) (schema_refusal (users_with users p.user p.element) (elements_with before p.user p.element) ps) (with_parts ps c))
        → (first : Option SchemaFault) (o : Outcome Catalog) → AnswersAs (users_with users p.user p.element) (elements_with before p.user p.element) first o
        → DeclaresAs (users_behind (users_with users p.user p.element) ps) (elements_behind (elements_with before p.user p.element) ps) (option_or (option_map (part_refusal p) first) (schema_refusal (users_with users p.user p.element) (elements_with before p.user p.element) ps)) (then_parts (with_parts ps) p o)
    by later None (Ok c) h = later c h.1
    by later (Some f) (Ok c) h = cc
    by later first (Err f) h = ap (λ first. option_or (option_map (part_refusal p) first) (schema_refusal (users_with users p.user p.element) (elements_with before p.user p.element) ps)) h

pub empty_catalog : IsCatalogOf [] [] empty
empty_catalog = record {
  users_are = λ user. refl;
  known = λ name. record { not_made = refl; no_base = refl };
  count = refl;
  bases = refl;
  few = refl;
  held = λ grantable user name p. refl;
  made = record { bases = tt; base_places = refl; views = tt; view_places = refl };
  on_columns = λ grantable user name p e at may_it. cc;
  granted = λ name none grantable user p. refl;
}

-- The catalog of schema texts is that of their elements where the rules refuse none of them; else their first refusal is answered.
pub catalog_told : (texts : List SchemaText) → AllByRecursion (λ p. IsPlainPart p.user p.element) (schema_parts texts) → DeclaresAs (users_behind [] (schema_parts texts)) (elements_of texts) (first_schema_refusal texts) (catalog_of texts)
catalog_told texts plain = parts_told [] [] empty empty_catalog (schema_parts texts) plain

-- whether it is refused, and for what
abbrev pub refusal_in : Declared → Option SchemaRefusal
refusal_in (Ok c) = None
refusal_in (Err r) = Some r

pub refused_exactly : (texts : List SchemaText) → AllByRecursion (λ p. IsPlainPart p.user p.element) (schema_parts texts) → refusal_in (catalog_of texts) ≡ first_schema_refusal texts
refused_exactly texts plain = by (catalog_of texts) (catalog_told texts plain)
  where
    by : (o : Declared) → DeclaresAs (users_behind [] (schema_parts texts)) (elements_of texts) (first_schema_refusal texts) o → refusal_in o ≡ first_schema_refusal texts
    by (Ok c) h = sym h.0
    by (Err r) h = sym h
