-- Schema texts are refused exactly as the rules refuse them, and else declare the catalog of their
-- elements: no text spells a literal that is null (ISO/IEC 9075:1992, 5.3 and 11.1).
use Rattle.std.proofs.Common.{◌≡◌, List, [], ◌∷◌, Option, Some, None}
use Rattle.std.specs.List.{AllByRecursion}
use Rattle.sq_lex.specs.declared.name.Name.{Name}
use Rattle.sq_value.specs.declared.value.Value.TheVariants as value
use Rattle.sq_tree.specs.declared.cond.Cond.{Cond as SpelledCond}
use Rattle.sq_tree.specs.declared.schema.SchemaElement.{SchemaElement}
use Rattle.sq_tree.specs.declared.schema.SchemaElement.TheVariants as element
use Rattle.sq_tree.specs.declared.schema.SchemaText.{SchemaText}
use Rattle.sq_meaning.specs.Spelled.{Named, cond_of, select_of}
use Rattle.sq_meaning.specs.Syntax.{Clause, Cond, Conds, Expr, Select, SelectList, a_cond, absent, added, all_columns, between, bracketed, column, compare, compare_quantified, compare_subquery, conjunction, count_rows, disjunction, exists, expressions, in_list, in_subquery, is_null, like, literal, negated, no_cond, parameter, present, scaled, select, set_function, signed, user}
use Rattle.sq_meaning.specs.Schema.{checks}
use Rattle.sq_meaning.specs.SchemaRefusal.{Part, elements_of, first_schema_refusal, schema_parts}
use Rattle.sq_binding.specs.Declaring.{catalog_of}
use Rattle.sq_binding.proofs.Schemas.Refused.{DeclaresAs, IsPlain, IsPlainPart, catalog_told, refusal_in, refused_exactly, users_behind}
use Rattle.sq_binding.proofs.FaultsFound.CondFaults.{ClauseSpellsNoNull, CondSpellsNoNull, CondsSpellNoNull, SelectSpellsNoNull}
use Rattle.sq_binding.proofs.FaultsFound.FoundKinds.{SpellsNoNull}
use Rattle.sq_binding.proofs.FaultsFound.PredicateFaults.{EscapeSpellsNoNull}
use Rattle.sq_binding.proofs.FaultsFound.SelectFaults.{ListSpellsNoNull}
use Rattle.sq_run.proofs.Sites.CondLiterals.{cond_spells, select_spells}
use Rattle.sq_run.proofs.Sites.ConditionSites as laws
use Rattle.sq_run.proofs.Sites.ExpressionSites as exprs

-- ---- no literal is null

pub expr_too : (e : Expr Named) → exprs.SpellsNoNull e → SpellsNoNull e
expr_too (literal value.Null) h = h
expr_too (literal (value.Num n)) h = h
expr_too (literal (value.Chars t)) h = h
expr_too (parameter p) h = h
expr_too user h = h
expr_too (column c) h = h
expr_too count_rows h = h
expr_too (set_function f distinct e) h = expr_too e h
expr_too (signed sign e) h = expr_too e h
expr_too (added sign e f) h = (expr_too e h.0, expr_too f h.1)
expr_too (scaled sign e f) h = (expr_too e h.0, expr_too f h.1)
expr_too (bracketed e) h = expr_too e h

exprs_too : (es : List (Expr Named)) → laws.SpellNoNull es → AllByRecursion SpellsNoNull es
exprs_too [] h = tt
exprs_too (e ∷ es) h = (expr_too e h.0, exprs_too es h.1)

escape_too : (e : Option (Expr Named)) → laws.EscapeSpellsNoNull e → EscapeSpellsNoNull e
escape_too None h = tt
escape_too (Some e) h = expr_too e h

list_too : (list : SelectList Named) → laws.ListSpellsNoNull list → ListSpellsNoNull list
list_too all_columns h = tt
list_too (expressions es) h = exprs_too es h

mutual
  pub cond_too : (c : Cond Named) → laws.CondSpellsNoNull c → CondSpellsNoNull c
  cond_too (compare op a b) h = (expr_too a h.0, expr_too b h.1)
  cond_too (compare_subquery op a q) h = (expr_too a h.0, select_too q h.1)
  cond_too (compare_quantified op k a q) h = (expr_too a h.0, select_too q h.1)
  cond_too (between a low high) h = (expr_too a h.0, expr_too low h.1, expr_too high h.2)
  cond_too (in_subquery a q) h = (expr_too a h.0, select_too q h.1)
  cond_too (in_list a es) h = (expr_too a h.0, exprs_too es h.1)
  cond_too (like a pattern escape) h = (expr_too a h.0, expr_too pattern h.1, escape_too escape h.2)
  cond_too (is_null a) h = expr_too a h
  cond_too (exists q) h = select_too q h
  cond_too (negated c) h = cond_too c h
  cond_too (conjunction cs) h = conds_too cs h
  cond_too (disjunction cs) h = conds_too cs h

  conds_too : (cs : Conds Named) → laws.CondsSpellNoNull cs → CondsSpellNoNull cs
  conds_too no_cond h = tt
  conds_too (a_cond c cs) h = (cond_too c h.0, conds_too cs h.1)

  clause_too : (c : Clause Named) → laws.ClauseSpellsNoNull c → ClauseSpellsNoNull c
  clause_too absent h = tt
  clause_too (present c) h = cond_too c h

  pub select_too : (q : Select Named) → laws.SelectSpellsNoNull q → SelectSpellsNoNull q
  select_too (select distinct list from filter by having) h = (list_too list h.0, clause_too filter h.1, clause_too having h.2)

-- ---- nor in a schema text

conditions_plain : (user : Name) (ks : List SpelledCond) → AllByRecursion (λ k. CondSpellsNoNull (cond_of user k)) ks
conditions_plain owner [] = tt
conditions_plain owner (k ∷ ks) = (cond_too (cond_of owner k) (cond_spells owner k), conditions_plain owner ks)

element_plain : (owner : Name) (e : SchemaElement) → IsPlain owner e
element_plain owner (element.Table t) = conditions_plain owner (checks t)
element_plain owner (element.View v) = select_too (select_of owner v.query) (select_spells owner v.query)
element_plain owner (element.Grant g) = tt

part_plain : (owner : Name) (e : Option SchemaElement) → IsPlainPart owner e
part_plain owner None = tt
part_plain owner (Some e) = element_plain owner e

pub parts_plain : (ps : List Part) → AllByRecursion (λ p. IsPlainPart p.user p.element) ps
parts_plain [] = tt
parts_plain (p ∷ ps) = (part_plain p.user p.element, parts_plain ps)

-- ---- what texts declare

-- Schema texts are refused exactly where the rules refuse them, and for the same refusal.
pub schemas_refused : (texts : List SchemaText) → refusal_in (catalog_of texts) ≡ first_schema_refusal texts
schemas_refused texts = refused_exactly texts (parts_plain (schema_parts texts))

-- Schema texts that are not refused declare the catalog of their elements.
pub schemas_declare : (texts : List SchemaText) → DeclaresAs (users_behind [] (schema_parts texts)) (elements_of texts) (first_schema_refusal texts) (catalog_of texts)
schemas_declare texts = catalog_told texts (parts_plain (schema_parts texts))
