-- The keys of a base table by which a condition on its rows names them.
use Rattle.std.proofs.Common.{◌≡◌, ◌∙◌, ℕ, ◌<◌, List, [], ◌∷◌, length, Option, Some, None, Result, sym, ap, subst, Ok, Err}
use Rattle.std.specs.Prelude.{⊤, IfOk, IfSome}
use Rattle.std.specs.List.{AllZip}
use Rattle.sq_lex.specs.declared.name.Name.{Name}
use Rattle.sq_value.specs.declared.value.Value.{Value}
use Rattle.sq_store.specs.Content.{Content}
use Rattle.sq_store.specs.Keys.{Keys, key_at, keys_at}
use Rattle.sq_meaning.specs.Environment.{Row}
use Rattle.sq_meaning.specs.Status.{Outcome}
use Rattle.sq_bound.specs.Condition.{cond_of}
use Rattle.sq_bound.specs.WellFormed.{TableKinds}
use Rattle.sq_bound.specs.declared.condition.BoundCond.{BoundCond}
use Rattle.sq_bound.specs.declared.condition.TablePlace.{TablePlace}
use Rattle.sq_bound.specs.declared.condition.TablePlace.TheVariants.{Base}
use Rattle.sq_expression.specs.declared.fault.Fault.{Fault}
use Rattle.sq_expression.specs.declared.table.BaseRows.{BaseRows}
use Rattle.sq_query.specs.Key.{AreKeysOn, IsKeyOn, IsNamedBy}
use Rattle.sq_query.specs.Asked.{IsFalseThrough}
use Rattle.sq_query.specs.Named.{AreKeysBy, IsFalseBut, IsFalseOf, IsFalseOn, IsKeyBy, IsOneOf}
use Rattle.sq_query.specs.Sought.{IsOfRow, nothing_around}
use Rattle.sq_query.specs.declared.around.Around.{Around}
use Rattle.sq_query.specs.declared.asked.Asked.{Asked}
use Rattle.sq_query.specs.declared.key.KnownKey.{KnownKey}
use Rattle.sq_query.specs.declared.key.KnownKeys.{KnownKeys}
use Rattle.sq_query.specs.declared.named.Sure.TheVariants.{Unnoted}
use Rattle.sq_query.specs.declared.sought.Sought.{Sought}
use Rattle.sq_query.proofs.FoundByKey.AskedColumns.{at_itself, through_none}
use Rattle.sq_query.proofs.Keys.KeyOut.{named_so, zip_weaker}
use Rattle.sq_query.proofs.Keys.NamedRows.{none_trusted_in}

-- a condition that names a row by the columns of a key does so by a key of the base table
pub key_on : (place : ℕ) (own : BoundCond) (content : Content) (keys : List Keys) (parameters : List Value) (user : Name) (key : ℕ) (columns : List ℕ) (r : Result (Option KnownKey) Fault) → place < length content
    → key < length (keys_at keys place) → columns ≡ key_at keys place key → IfOk r (λ found. IfSome found (λ known. (known.key ≡ key) × IsNamedBy columns own parameters user known.values))
    → IfOk r (λ found. IfSome found (λ known. (known.key ≡ key) × IsKeyOn place own content keys parameters user known))
key_on place own content keys parameters user key columns (Err e) there within are h = tt
key_on place own content keys parameters user key columns (Ok None) there within are h = tt
key_on place own content keys parameters user key columns (Ok (Some known)) there within are h = (
  h.0,
  record {
    table = there;
    key = subst (λ (k : ℕ). k < length (keys_at keys place)) (sym h.0) within;
    named = named_so parameters user (Base place) own (key_at keys place known.key) known.values
        (subst (λ (cs : List ℕ). IsNamedBy cs own parameters user known.values) (are ∙ ap (key_at keys place) (sym h.0)) h.1);
  },
)

-- a key of a base table whose columns are these
pub key_named : (IsFalse : ℕ → List Value → Type 0) (keys : List Keys) (place key : ℕ) (columns : List ℕ) (r : Result (Option KnownKey) Fault) → key < length (keys_at keys place) → columns ≡ key_at keys place key
    → IfOk r (λ found. IfSome found (λ known. (known.key ≡ key) × AllZip (IsOneOf IsFalse) columns known.values)) → IfOk r (λ found. IfSome found (IsKeyBy IsFalse keys place))
key_named IsFalse keys place key columns (Err e) within are h = tt
key_named IsFalse keys place key columns (Ok None) within are h = tt
key_named IsFalse keys place key columns (Ok (Some known)) within are h = record {
  key = subst (λ (k : ℕ). k < length (keys_at keys place)) (sym h.0) within;
  named = subst (λ (cs : List ℕ). AllZip (IsOneOf IsFalse) cs known.values) (are ∙ ap (key_at keys place) (sym h.0)) h.1;
}

-- a condition that names rows of a table alone, of which nothing is known
module _ (place : ℕ) (own : BoundCond) (content : Content) (keys : List Keys) (parameters : List Value) (user : Name) (s : Sought) (is : IsOfRow (Base place ∷ []) s) (there : place < length content) where
  abbrev Known : TableKinds → (TablePlace → Outcome (List Row)) → Type 0
  Known columns tables = ⊤

  row_false : (n : ℕ) (vs : List Value) → IsFalseOf s Unnoted parameters user own n vs → IsFalseBut (Base place) parameters user (cond_of [] own) n vs
  row_false n vs h =
      subst (λ (item : ℕ). IsFalseOn item (Base place ∷ []) [] nothing_around parameters user Known (cond_of [] own) n vs) is.item
      (subst (λ (ts : List TablePlace). IsFalseOn s.item ts [] nothing_around parameters user Known (cond_of [] own) n vs) is.tables_are
      (subst (λ (found : List BaseRows). IsFalseOn s.item s.tables.now found nothing_around parameters user Known (cond_of [] own) n vs) is.none
      (subst (λ (a : Around). IsFalseOn s.item s.tables.now s.found.now a parameters user Known (cond_of [] own) n vs) is.outside
      (λ columns kinds levels tables scopes line row on stands known at other. h columns kinds levels tables scopes line row on stands (none_trusted_in own columns tables) at other))))

  key_itself : (r : Result (Option KnownKey) Fault) → IfOk r (λ found. IfSome found (IsKeyBy (IsFalseThrough None (IsFalseOf s Unnoted parameters user own)) keys place)) → IfOk r (λ found. IfSome found (IsKeyOn place own content keys parameters user))
  key_itself (Err e) h = tt
  key_itself (Ok None) h = tt
  key_itself (Ok (Some known)) h = record {
    table = there;
    key = h.key;
    named = zip_weaker (IsOneOf (IsFalseThrough None (IsFalseOf s Unnoted parameters user own))) (IsOneOf (IsFalseBut (Base place) parameters user (cond_of [] own)))
        (λ n v f. row_false n (v ∷ []) (through_none (IsFalseOf s Unnoted parameters user own) n (v ∷ []) f)) (key_at keys place known.key) known.values h.named;
  }

  pub key_of_row : (a : Asked) → a.base ≡ place → a.through ≡ None → (r : Result (Option KnownKey) Fault)
      → IfOk r (λ found. IfSome found (IsKeyBy (IsFalseThrough a.through (IsFalseOf s Unnoted parameters user own)) keys a.base)) → IfOk r (λ found. IfSome found (IsKeyOn place own content keys parameters user))
  key_of_row a at none r h =
      key_itself r (at_itself a place (λ p through. IfOk r (λ found. IfSome found (IsKeyBy (IsFalseThrough through (IsFalseOf s Unnoted parameters user own)) keys p))) at none h)

  keys_itself : (r : Result (Option KnownKeys) Fault) → IfOk r (λ found. IfSome found (AreKeysBy (IsFalseThrough None (IsFalseOf s Unnoted parameters user own)) keys place)) → IfOk r (λ found. IfSome found (AreKeysOn place own content keys parameters user))
  keys_itself (Err e) h = tt
  keys_itself (Ok None) h = tt
  keys_itself (Ok (Some known)) h = record {
    table = there;
    key = h.key;
    named = (h.named.0, h.named.1, row_false h.named.0 known.values.items (through_none (IsFalseOf s Unnoted parameters user own) h.named.0 known.values.items h.named.2));
  }

  pub keys_of_row : (a : Asked) → a.base ≡ place → a.through ≡ None → (r : Result (Option KnownKeys) Fault)
      → IfOk r (λ found. IfSome found (AreKeysBy (IsFalseThrough a.through (IsFalseOf s Unnoted parameters user own)) keys a.base)) → IfOk r (λ found. IfSome found (AreKeysOn place own content keys parameters user))
  keys_of_row a at none r h =
      keys_itself r (at_itself a place (λ p through. IfOk r (λ found. IfSome found (AreKeysBy (IsFalseThrough through (IsFalseOf s Unnoted parameters user own)) keys p))) at none h)
