-- Schema texts, part by part: what the parts so far declare, and what is left of them.
use Rattle.std.proofs.Common.{◌≡◌, ℕ, ◌+◌, ◌<◌, ◌≤◌, List, [], ◌∷◌, ◌++◌, drop, flat_map, get_or, length, map, Some, None, Result, Ok, Err, sym, ap, subst, ◌∙◌}
use Rattle.std.proofs.lemmas.List.{drop_all, drop_more}
use Rattle.std.specs.List.{enumerate_from}
use Rattle.sq_tree.specs.declared.schema.SchemaDefinition.{SchemaDefinition}
use Rattle.sq_tree.specs.declared.schema.SchemaElement.{SchemaElement}
use Rattle.sq_meaning.specs.SchemaRefusal.{Part, SchemaRefusal, parts_of_schema}
use Rattle.sq_binding.specs.Catalog.{Catalog}
use Rattle.sq_binding.specs.Declaring.{then_parts, with_element, with_part, with_parts, with_user}
use Rattle.sq_binding.specs.ElementOutcome.{Outcome}
use Rattle.sq_catalog.specs.Exact.{StopsAt}
use Rattle.sq_catalog.specs.Fault.{Stops, placed}
use Rattle.sq_catalog.specs.declared.fault.CatalogFault.{CatalogFault}
use Rattle.sq_catalog.specs.declared.fault.CatalogFault.TheVariants.{NoMemory, Refused}
use Rattle.sq_catalog.specs.declared.fault.ElementFault.{ElementFault}
use Rattle.sq_catalog.specs.declared.fault.ElementFault.TheVariants as element

-- ---- some parts, and then others

pub parts_made : (ps qs : List Part) (c new : Catalog) → with_parts ps c ≡ Ok new → with_parts (ps ++ qs) c ≡ with_parts qs new
parts_made [] qs c new e = let same : c ≡ new = cc in ap (with_parts qs) same
parts_made (p ∷ ps) qs c new e = made (λ next. parts_made ps qs next new) (with_part c p.user p.element) e
  where
    made : ((next : Catalog) → with_parts ps next ≡ Ok new → with_parts (ps ++ qs) next ≡ with_parts qs new) → (o : Outcome Catalog) → then_parts (with_parts ps) p o ≡ Ok new → then_parts (with_parts (ps ++ qs)) p o ≡ with_parts qs new
    made rest (Ok next) e = rest next e
    made rest (Err f) e = absurd cc

parts_refused : (ps qs : List Part) (c : Catalog) (r : SchemaRefusal) → with_parts ps c ≡ Err r → with_parts (ps ++ qs) c ≡ Err r
parts_refused [] qs c r e = absurd cc
parts_refused (p ∷ ps) qs c r e = refused (λ next. parts_refused ps qs next r) (with_part c p.user p.element) e
  where
    refused : ((next : Catalog) → with_parts ps next ≡ Err r → with_parts (ps ++ qs) next ≡ Err r) → (o : Outcome Catalog) → then_parts (with_parts ps) p o ≡ Err r → then_parts (with_parts (ps ++ qs)) p o ≡ Err r
    refused rest (Ok next) e = rest next e
    refused rest (Err f) e = e

pub parts_stop : (ps qs : List Part) (c : Catalog) (fault : CatalogFault) → StopsAt (with_parts ps c) fault → StopsAt (with_parts (ps ++ qs) c) fault
parts_stop ps qs c (Refused r) e = parts_refused ps qs c _ e
parts_stop ps qs c NoMemory e = tt

-- what stops the same
pub stops_so : (o p : Result Catalog SchemaRefusal) (fault : CatalogFault) → o ≡ p → StopsAt p fault → StopsAt o fault
stops_so o p fault same h = subst (λ (o : Result Catalog SchemaRefusal). StopsAt o fault) (sym same) h

-- ---- the parts of a list from a place on

module _ {A : Type 0} (parts : ℕ × A → List Part) where
  abbrev pub left : ℕ → List A → List Part
  left n xs = flat_map parts (enumerate_from n xs)

  left_next : (n k : ℕ) (xs : List A) (x : A) → k < length xs → x ≡ get_or xs k x → left n (drop k xs) ≡ parts (n, x) ++ left (n + 1) (drop (k + 1) xs)
  left_next n k xs x lt is = ap (left n) (drop_more xs k x lt) ∙ ap (λ (y : A). parts (n, y) ++ left (n + 1) (drop (k + 1) xs)) (sym is)

  -- one more is made, where the whole is what is left
  pub left_made : (whole : Result Catalog SchemaRefusal) (n k : ℕ) (xs : List A) (x : A) (c new : Catalog) → k < length xs → x ≡ get_or xs k x → whole ≡ with_parts (left n (drop k xs)) c → with_parts (parts (n, x)) c ≡ Ok new
      → whole ≡ with_parts (left (n + 1) (drop (k + 1) xs)) new
  left_made whole n k xs x c new lt is so e = so ∙ ap (λ ps. with_parts ps c) (left_next n k xs x lt is) ∙ parts_made (parts (n, x)) (left (n + 1) (drop (k + 1) xs)) c new e

  pub left_stops : (whole : Result Catalog SchemaRefusal) (n k : ℕ) (xs : List A) (x : A) (c : Catalog) (fault : CatalogFault) → k < length xs → x ≡ get_or xs k x → whole ≡ with_parts (left n (drop k xs)) c
      → StopsAt (with_parts (parts (n, x)) c) fault → StopsAt whole fault
  left_stops whole n k xs x c fault lt is so h =
      stops_so whole (with_parts (parts (n, x) ++ left (n + 1) (drop (k + 1) xs)) c) fault (so ∙ ap (λ ps. with_parts ps c) (left_next n k xs x lt is)) (parts_stop (parts (n, x)) (left (n + 1) (drop (k + 1) xs)) c fault h)

  -- nothing is left
  pub left_all : (whole : Result Catalog SchemaRefusal) (n k : ℕ) (xs : List A) (c : Catalog) → length xs ≤ k → whole ≡ with_parts (left n (drop k xs)) c → whole ≡ Ok c
  left_all whole n k xs c past so = so ∙ ap (λ ys. with_parts (left n ys) c) (drop_all k xs past)

-- ---- the parts of a schema definition

module _ (text schema : ℕ) (d : SchemaDefinition) where
  abbrev own_part : Part
  own_part = record { text = text; schema = schema; number = None; user = d.authorization; element = None }

  abbrev element_part : ℕ × SchemaElement → Part
  element_part e = record { text = text; schema = schema; number = Some e.0; user = d.authorization; element = Some e.1 }

  abbrev pub elements_left : ℕ → List SchemaElement → List Part
  elements_left n es = map element_part (enumerate_from n es)

  elements_next : (k : ℕ) (e : SchemaElement) → k < length d.elements → e ≡ get_or d.elements k e → elements_left k (drop k d.elements) ≡ element_part (k, e) ∷ elements_left (k + 1) (drop (k + 1) d.elements)
  elements_next k e lt is = ap (elements_left k) (drop_more d.elements k e lt) ∙ ap (λ (y : SchemaElement). element_part (k, y) ∷ elements_left (k + 1) (drop (k + 1) d.elements)) (sym is)

  part_stops : (p : Part) (ps : List Part) (c : Catalog) (fault : ElementFault) → Stops (with_part c p.user p.element) fault → StopsAt (with_parts (p ∷ ps) c) (placed fault p.text p.schema p.number)
  part_stops p ps c (element.Refused f) e = ap (then_parts (with_parts ps) p) e
  part_stops p ps c element.NoMemory e = tt

  pub user_made : (c new : Catalog) → with_user c d.authorization ≡ Ok new → with_parts (parts_of_schema text (schema, d)) c ≡ with_parts (elements_left 0 d.elements) new
  user_made c new e = ap (then_parts (with_parts (elements_left 0 d.elements)) own_part) e

  pub user_stops : (c : Catalog) (fault : ElementFault) → Stops (with_user c d.authorization) fault → StopsAt (with_parts (parts_of_schema text (schema, d)) c) (placed fault text schema None)
  user_stops c fault h = part_stops own_part (elements_left 0 d.elements) c fault h

  pub element_made : (whole : Result Catalog SchemaRefusal) (k : ℕ) (e : SchemaElement) (c new : Catalog) → k < length d.elements → e ≡ get_or d.elements k e → whole ≡ with_parts (elements_left k (drop k d.elements)) c → with_element c d.authorization e ≡ Ok new
      → whole ≡ with_parts (elements_left (k + 1) (drop (k + 1) d.elements)) new
  element_made whole k e c new lt is so made =
      so ∙ ap (λ ps. with_parts ps c) (elements_next k e lt is) ∙ ap (then_parts (with_parts (elements_left (k + 1) (drop (k + 1) d.elements))) (element_part (k, e))) made

  pub element_stops : (whole : Result Catalog SchemaRefusal) (k : ℕ) (e : SchemaElement) (c : Catalog) (fault : ElementFault) → k < length d.elements → e ≡ get_or d.elements k e → whole ≡ with_parts (elements_left k (drop k d.elements)) c
      → Stops (with_element c d.authorization e) fault → StopsAt whole (placed fault text schema (Some k))
  element_stops whole k e c fault lt is so h =
      stops_so whole (with_parts (element_part (k, e) ∷ elements_left (k + 1) (drop (k + 1) d.elements)) c) (placed fault text schema (Some k)) (so ∙ ap (λ ps. with_parts ps c) (elements_next k e lt is))
      (part_stops (element_part (k, e)) (elements_left (k + 1) (drop (k + 1) d.elements)) c fault h)

  pub elements_all : (whole : Result Catalog SchemaRefusal) (k : ℕ) (c : Catalog) → length d.elements ≤ k → whole ≡ with_parts (elements_left k (drop k d.elements)) c → whole ≡ Ok c
  elements_all whole k c past so = so ∙ ap (λ es. with_parts (elements_left k es) c) (drop_all k d.elements past)
