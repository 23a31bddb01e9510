-- The key by which a target names a row, through views too.
use Rattle.std.proofs.Common.{◌≡◌, ◌∙◌, ℕ, true, List, [], Option, Some, None, Result, sym, ap, subst, Ok, Err}
use Rattle.std.specs.Prelude.{IfOk, IfSome, slice_index_or}
use Rattle.std.proofs.lemmas.Option.{slice_get-get_or}
use Rattle.sq_lex.specs.declared.name.Name.{Name}
use Rattle.sq_value.specs.declared.domain.Kind.{Kind}
use Rattle.sq_value.specs.declared.value.Value.{Value}
use Rattle.sq_store.specs.Content.{Content}
use Rattle.sq_store.specs.Keys.{Keys}
use Rattle.sq_bound.specs.Keyed.{IsShortestKey, is_shortest_of}
use Rattle.sq_bound.specs.Names.{option_all}
use Rattle.sq_bound.specs.Quiet.{are_quiet_conds, is_quiet_cond}
use Rattle.sq_bound.specs.WellFormed.{IsTarget, TableKinds}
use Rattle.sq_bound.specs.declared.condition.BoundCond.{BoundCond, out-BoundCond}
use Rattle.sq_bound.specs.declared.condition.TablePlace.TheVariants.{Base}
use Rattle.sq_bound.specs.declared.query.Target.{Target}
use Rattle.sq_bound.proofs.QuietTruths.{both_left}
use Rattle.sq_expression.specs.declared.fault.Fault.{Fault}
use Rattle.sq_query.specs.Key.{IsKeyOf, IsKeyOn, StandsOn}
use Rattle.sq_query.specs.Keyed.{IsKeyed, IsKeyedBy, IsKeyedUnder}
use Rattle.sq_query.specs.Meant.{IsKeyUnder}
use Rattle.sq_query.specs.declared.key.KnownKey.{KnownKey}
use Rattle.sq_query.proofs.Keys.KeyNames.{key_there, no_view, own_named}
use Rattle.sq_query.proofs.Keys.KeySearch.{no_element}
use Rattle.sq_query.proofs.Keys.KeyValues.{own_stands}
use Rattle.sq_query.proofs.Keys.KnownKeys.{same_some}
use Rattle.sq_query.proofs.Keys.ShortestKnown.{known_by_shortest}

module _ (t : Target) (content : Content) (keys : List Keys) (parameters : List Value) (user : Name) where
  -- where a key is noted, no view is between
  pub noted_under : (r : Result (Option KnownKey) Fault) → IfOk r (λ found. IfSome found (IsKeyOf t content keys parameters user)) → IfOk r (λ found. IfSome found (IsKeyUnder t content keys parameters user))
  noted_under (Err e) h = tt
  noted_under (Ok None) h = tt
  noted_under (Ok (Some known)) h = record { own = h.own; is_own = h.is_own; sure = ap are_quiet_conds (no_element t.leaf.conditions (no_view t known.key h.is_key)); on = h.on }

  -- a key is found through views whose conditions are never a fault
  pub views_under : (own : BoundCond) (r : Result (Option KnownKey) Fault) → t.condition ≡ Some own → t.leaf.is_quiet ≡ true → IfOk r (λ found. IfSome found (IsKeyOn t.base own content keys parameters user))
      → IfOk r (λ found. IfSome found (IsKeyUnder t content keys parameters user))
  views_under own (Err e) is quiet h = tt
  views_under own (Ok None) is quiet h = tt
  views_under own (Ok (Some known)) is quiet h = record { own = own; is_own = is; sure = sym t.leaf.quiet ∙ quiet; on = h }

-- ---- values that are known

module _ (t : Target) (parameters : List Value) (user : Name) where
  -- the key that is noted is the shortest
  noted_shortest : (own : BoundCond) (key : ℕ) → t.key ≡ Some key → t.condition ≡ Some own → IsShortestKey t.leaf.table.keys own (Some key)
  noted_shortest own key is is_own = (
    slice_index_or t.leaf.table.keys key [],
    slice_get-get_or t.leaf.table.keys key [] (key_there t key is),
    own_named t key is own is_own,
    sym (ap (λ (o : Option BoundCond). is_shortest_of t.leaf o key) is_own) ∙ sym (ap (option_all (is_shortest_of t.leaf t.condition)) is) ∙ t.shortest,
  )

  -- where the values of some key are known, those of the noted one are
  pub noted_known : (key : ℕ) → t.key ≡ Some key → IsKeyedUnder t parameters user → IsKeyed t parameters user
  noted_known key is keyed = record {
    key = key;
    is_noted = is;
    known = λ tests named.
        let same : named.own ≡ keyed.own = same_some named.own keyed.own t.condition named.is_own keyed.is_own in
        known_by_shortest t.leaf.table.keys keyed.own parameters user key (noted_shortest keyed.own key is keyed.is_own) keyed.by_key tests
        (record { term = named.term; only_term = ap (λ (c : BoundCond). (out-BoundCond c).terms) (sym same) ∙ named.only_term; firsts = named.firsts });
  }

  pub known_own : (own : BoundCond) (keys : Keys) → t.condition ≡ Some own → keys ≡ t.leaf.table.keys → IsKeyedUnder t parameters user → IsKeyedBy keys own parameters user
  known_own own keys is_own keys_are keyed =
      subst (λ (ks : Keys). IsKeyedBy ks own parameters user) (sym keys_are)
      (subst (λ (c : BoundCond). IsKeyedBy t.leaf.table.keys c parameters user) (same_some keyed.own own t.condition keyed.is_own is_own) keyed.by_key)

  pub none_known : t.condition ≡ None → IsKeyedUnder t parameters user → ⊥
  none_known none keyed = let some : t.condition ≡ Some keyed.own = keyed.is_own in cc

-- the target's own condition stands on the rows of the base table
pub own_on_base : (columns : TableKinds) (parameters : List Kind) (t : Target) (own : BoundCond) → IsTarget columns parameters t → t.condition ≡ Some own → StandsOn columns parameters (Base t.base) own
own_on_base columns parameters t own well is = subst (λ (p : ℕ). StandsOn columns parameters (Base p) own) (sym t.is_under) (own_stands columns parameters t own well is)

-- where no condition of a target is ever a fault, none of a view between is
pub quiet_views : (t : Target) → t.is_quiet ≡ true → t.leaf.is_quiet ≡ true
quiet_views t quiet = t.leaf.quiet ∙ both_left (are_quiet_conds t.leaf.conditions) (option_all is_quiet_cond t.condition) (sym t.quiet ∙ quiet)
