-- What the search for the keys of items finds.
use Rattle.std.proofs.Common.{◌≡◌, ◌∙◌, ◌<◌, inl, inr, ℕ, zero, suc, false, List, [], ◌∷◌, ◌++◌, get_or, length, slice_get, Option, Some, None, Result, Bor, arith, refl, sym, ap, subst, Ok, Err}
use Rattle.std.specs.Prelude.{IfOk, IfSome}
use Rattle.sq_lex.specs.declared.name.Name.{Name}
use Rattle.sq_value.specs.SetFunctions.{is_null}
use Rattle.sq_value.specs.declared.value.Value.{Value}
use Rattle.sq_store.specs.Content.{Content}
use Rattle.sq_store.specs.Keys.{Keys}
use Rattle.sq_meaning.specs.Environment.{Row}
use Rattle.sq_meaning.specs.Syntax.{column}
use Rattle.sq_bound.specs.Condition.{cond_of}
use Rattle.sq_bound.specs.Expression.{expr_of}
use Rattle.sq_bound.specs.declared.condition.BoundCond.{BoundCond}
use Rattle.sq_bound.specs.declared.condition.BoundSpecification.{BoundSpecification}
use Rattle.sq_bound.specs.declared.condition.TablePlace.{TablePlace}
use Rattle.sq_bound.specs.declared.condition.TablePlace.TheVariants.{Base}
use Rattle.sq_bound.specs.declared.expression.BoundExpr.{BoundExpr}
use Rattle.sq_bound.specs.declared.expression.BoundExpr.TheVariants as expr
use Rattle.sq_bound.specs.declared.expression.Place.{Place}
use Rattle.sq_bound.proofs.ExpressionLaws.{expr_of-Column}
use Rattle.sq_expression.specs.Frame.{lent}
use Rattle.sq_expression.specs.declared.fault.Fault.{Fault}
use Rattle.sq_expression.specs.declared.table.BaseRows.{BaseRows}
use Rattle.sq_query.specs.Asked.{IsFalseThrough}
use Rattle.sq_query.specs.Items.{IsAlone, IsNamed, IsReadOf, items_of}
use Rattle.sq_query.specs.Named.{AreKeysBy, AreTrustedIn, IsColumnOf, IsFalseOn, IsKeyBy}
use Rattle.sq_query.specs.Row.{HasValueOn}
use Rattle.sq_query.specs.Specification.{IsWhere, rows_by_key}
use Rattle.sq_query.specs.Several.{rows_by_values}
use Rattle.sq_query.specs.Sought.{IsValueBehind}
use Rattle.sq_query.specs.Valued.{HasRowsWithOne, rows_with_one}
use Rattle.sq_query.specs.declared.around.Around.{Around}
use Rattle.sq_query.specs.declared.asked.Asked.{Asked}
use Rattle.sq_query.specs.declared.key.KnownKey.{KnownKey}
use Rattle.sq_query.specs.declared.key.KnownKeys.{KnownKeys}
use Rattle.sq_query.specs.declared.named.Sure.TheVariants.{Noted}
use Rattle.sq_query.specs.declared.needed.Needed.{Needed}
use Rattle.sq_query.proofs.FoundByKey.AskedColumns.{at_itself, named_weaker, through_none}

-- ---- columns

pub column_so : (e : BoundExpr) (p : Place) (item n : ℕ) → e ≡ expr.Column p → (p.depth ≡ 0) × (p.item ≡ item) × (p.column ≡ n) → IsColumnOf item n e
column_so e p item n is at = ap (expr_of []) is ∙ expr_of-Column [] p ∙ (λ i. column (record { depth = at.0 i; item = at.1 i; column = at.2 i }))

-- ---- values

pub at_end : (before : List (Bor Row)) (x : Bor Row) → slice_get (lent (before ++ x ∷ [])) (length before) ≡ Some x.now
at_end [] x = refl
at_end (y ∷ before) x = at_end before x

pub behind_so : (item : ℕ) (row : Bor Row) (values : List Value) (caller : Name) (e : BoundExpr) (before line : List (Bor Row)) (r : Result Value Fault) (known : Result (Option Value) Fault) → length before ≡ item → line ≡ before ++ row ∷ []
    → HasValueOn r e (lent line) values caller → IfOk known (λ k. IfSome k (λ w. (r ≡ Ok w) × (is_null w ≡ false))) → IfOk known (λ k. IfSome k (IsValueBehind item row.now values caller e))
behind_so item row values caller e before line r (Err f) size grown has h = tt
behind_so item row values caller e before line r (Ok None) size grown has h = tt
behind_so item row values caller e before line r (Ok (Some w)) size grown has h = record {
  line = lent line;
  at = subst (λ i. slice_get (lent line) i ≡ Some row.now) size (subst (λ (l : List (Bor Row)). slice_get (lent l) (length before) ≡ Some row.now) (sym grown) (at_end before row));
  has_value = subst (λ (s : Result Value Fault). HasValueOn s e (lent line) values caller) h.0 has;
  known = h.1;
}

pub at_index : {A : Type 0} (xs : List A) (i : ℕ) (d x : A) → i < length xs → get_or xs i d ≡ x → slice_get xs i ≡ Some x
at_index [] i d x within is = absurd (omega arith)
at_index {A} (y ∷ xs) zero d x within is = ap (λ (z : A). let o : Option A = Some z in o) is
at_index (y ∷ xs) (suc i) d x within is = at_index xs i d x (omega arith) is

-- ---- an item whose rows WHERE names

pub rows_of_key : (IsFalse : ℕ → List Value → Type 0) (content : Content) (keys : List Keys) (base : ℕ) (own : BaseRows) (known : KnownKey) → own.place ≡ base → IsKeyBy IsFalse keys base known → lent own.rows.items ≡ rows_by_key content keys base known
    → (own.place ≡ base) × IsNamed IsFalse content keys own
rows_of_key IsFalse content keys base own known is named are =
    (is, inl (known, record { named = subst (λ (p : ℕ). IsKeyBy IsFalse keys p known) (sym is) named; are = are ∙ ap (λ (p : ℕ). rows_by_key content keys p known) (sym is) }))

pub rows_of_keys : (IsFalse : ℕ → List Value → Type 0) (content : Content) (keys : List Keys) (base : ℕ) (own : BaseRows) (known : KnownKeys) → own.place ≡ base → AreKeysBy IsFalse keys base known → lent own.rows.items ≡ rows_by_values content keys base known
    → (own.place ≡ base) × IsNamed IsFalse content keys own
rows_of_keys IsFalse content keys base own known is named are =
    (is, inr (inl (known, record { named = subst (λ (p : ℕ). AreKeysBy IsFalse keys p known) (sym is) named; are = are ∙ ap (λ (p : ℕ). rows_by_values content keys p known) (sym is) })))

pub rows_of_values : (IsFalse : ℕ → List Value → Type 0) (content : Content) (keys : List Keys) (base n : ℕ) (vs : List Value) (o : Option BaseRows) → IsFalse n vs → IfSome o (HasRowsWithOne content base n vs)
    → IfSome o (λ own. (own.place ≡ base) × IsNamed IsFalse content keys own)
rows_of_values IsFalse content keys base n vs None named are = tt
rows_of_values IsFalse content keys base n vs (Some own) named are = (are.0, inr (inr (n, vs, record { named = named; are = are.1 ∙ ap (λ (p : ℕ). rows_with_one content p n vs) (sym are.0) })))

module _ (q : BoundSpecification) (item base : ℕ) (inner : Needed) (content : Content) (keys : List Keys) (a : Around) (values : List Value) (caller : Name) (found : List BaseRows) (ts : List TablePlace) (d : TablePlace) (condition : BoundCond)
    (are : ts ≡ items_of q) (within : item < length (items_of q)) (is : get_or ts item d ≡ Base base) (stored : base < length content) (alone : IsAlone q item base inner found) (is_where : IsWhere q condition) where
  abbrev IsFalse : ℕ → List Value → Type 0
  IsFalse = IsFalseOn item ts found a values caller (AreTrustedIn Noted condition) (cond_of [] condition)

  abbrev IsRead : ℕ → Option (Bor (List (Option ℕ))) → BaseRows → Type 0
  IsRead place through rows = (rows.place ≡ place) × IsNamed (IsFalseThrough through IsFalse) content keys rows

  itself_named : (r : Result (Option BaseRows) Fault) → IfOk r (λ own. IfSome own (IsRead base None)) → IfOk r (λ own. IfSome own (IsReadOf q inner content keys a values caller found))
  itself_named (Err f) named = tt
  itself_named (Ok None) named = tt
  itself_named (Ok (Some own)) named =
      let here = sym named.0 in
      let at = at_index (items_of q) item d (Base base) within (subst (λ (l : List TablePlace). get_or l item d ≡ Base base) are is) in record {
        item = item;
        at = at ∙ ap (λ (p : ℕ). let o : Option TablePlace = Some (Base p) in o) here;
        there = subst (λ (p : ℕ). p < length content) here stored;
        alone = subst (λ (p : ℕ). IsAlone q item p inner found) here alone;
        rows = inl (record {
          condition = condition;
          is_where = is_where;
          named = subst (λ (l : List TablePlace). IsNamed (IsFalseOn item l found a values caller (AreTrustedIn Noted condition) (cond_of [] condition)) content keys own) are
              (named_weaker (IsFalseThrough None IsFalse) IsFalse (through_none IsFalse) content keys own named.1);
        });
      }

  pub own_named : (asked : Asked) → asked.base ≡ base → asked.through ≡ None → (r : Result (Option BaseRows) Fault) → IfOk r (λ own. IfSome own (IsRead asked.base asked.through)) → IfOk r (λ own. IfSome own (IsReadOf q inner content keys a values caller found))
  own_named asked at none r named = itself_named r (at_itself asked base (λ place through. IfOk r (λ own. IfSome own (IsRead place through))) at none named)
