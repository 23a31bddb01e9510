-- A call of a searched UPDATE or DELETE that names its row by a key, as the definition reads its
-- text, names it by a key as it is bound, and so reads one row at most (own rule; ISO/IEC
-- 9075:1992, 13.7 and 13.10).
use Rattle.std.proofs.Common.{◌≡◌, ℕ, true, Bool, List, [], ◌∷◌, Option, Some, None, refl, sym, ap, subst, ◌∙◌}
use Rattle.std.specs.List.{list_any}
use Rattle.std.specs.Option.{option_and_then, option_map}
use Rattle.sq_lex.specs.declared.name.Name.{Name}
use Rattle.sq_tree.specs.declared.cond.Cond.{Cond as SpelledCond}
use Rattle.sq_tree.specs.declared.schema.SchemaText.{SchemaText}
use Rattle.sq_tree.specs.declared.schema.TableDefinition.{TableDefinition}
use Rattle.sq_tree.specs.declared.statement.Where.{Where}
use Rattle.sq_tree.specs.declared.statement.Where.TheVariants as rows_where
use Rattle.sq_value.specs.declared.domain.Kind.{Kind}
use Rattle.sq_value.specs.declared.value.Value.{Value}
use Rattle.sq_meaning.specs.Environment.{Input, TableName, TableReference}
use Rattle.sq_meaning.specs.Spelled.{Named, cond_of}
use Rattle.sq_meaning.specs.Status.{and_then, well_formed}
use Rattle.sq_meaning.specs.Syntax.{Clause, present}
use Rattle.sq_meaning.specs.WellFormed.{IsRowOf}
use Rattle.sq_meaning.specs.Keyed.{is_keyed, is_keyed_where}
use Rattle.sq_meaning.specs.Schema.{keys, table_named}
use Rattle.sq_meaning.specs.SchemaRefusal.{elements_of, first_schema_refusal}
use Rattle.sq_meaning.specs.Words.{is_some_and}
use Rattle.sq_bound.specs.Fits.{IsBase}
use Rattle.sq_bound.specs.Known.{KnownTables, under_of}
use Rattle.sq_bound.specs.WellFormed.{IsTarget, TableKinds}
use Rattle.sq_bound.specs.declared.condition.BoundSpecification.{BoundSpecification}
use Rattle.sq_bound.specs.declared.condition.TablePlace.TheVariants as at_place
use Rattle.sq_bound.specs.declared.names.BaseTable.{BaseTable as BoundTable}
use Rattle.sq_bound.specs.declared.names.ParameterDesc.{ParameterDesc}
use Rattle.sq_bound.specs.declared.query.Target.{Target as BoundTarget}
use Rattle.sq_bound.specs.declared.statement.ChangeTarget.TheVariants as change
use Rattle.sq_binding.specs.PlacedQuery.{clause_placed}
use Rattle.sq_binding.specs.Scope.{FromItem}
use Rattle.sq_binding.specs.Select.{of_lines}
use Rattle.sq_binding.specs.Names.{meant_by, outside}
use Rattle.sq_binding.specs.Written.{ClauseIs, IsTargetOf, filter_on, filter_placed, item_at_leaf, leaf_item}
use Rattle.sq_run.proofs.Sites.CondLiterals.{cond_spells}
use Rattle.sq_run.proofs.Sites.ConditionSites.{ClauseSpellsNoNull}
use Rattle.sq_catalog.specs.Declares.{Declares}
use Rattle.sq_expression.specs.Frame.{inputs_of}
use Rattle.sq_query.specs.Keyed.{IsKeyedTarget}
use Rattle.sq_query.proofs.Keys.KeyValues.{own_stands}
use Rattle.sq_run.proofs.Places.Items.{IsInOrder}
use Rattle.sq_run.proofs.Metering.KeyedTests.{item_names}
use Rattle.sq_run.proofs.Places.Parameters.{SameInputs}
use Rattle.sq_run.proofs.Metering.KeyedClauses.{IsKeyedClause, clause_keyed}
use Rattle.sq_run.proofs.Metering.KeyedTables.{IsBaseNamed, IsKeyAt, base_is_named, key_bound, meant, meant_is, names_are, own_positions, quiet_views}

-- A target over a base table that a name means, in a call that hands in these values: its statement or
-- cursor reads these inputs.
module _ (texts : List SchemaText) (known : KnownTables) (bases : List BoundTable) (views : List BoundSpecification)
    (d : Declares texts known bases views) (accepted : first_schema_refusal texts ≡ None) (ps : List ParameterDesc) (inputs : List Input)
    (values : List Value) (user : Name) (same_inputs : SameInputs ps inputs (inputs_of values)) (columns : TableKinds) (kinds : List Kind)
    (given : IsRowOf kinds values) (x : BoundTarget) (well : IsTarget columns kinds x) (is_base : IsBase bases x.leaf.table)
    (r : TableReference) (is_under : option_and_then (λ k. k.under) (meant_by known r.table) ≡ Some (under_of x.leaf)) where
  module _ (t : TableDefinition) (b : IsBaseNamed texts known bases views d accepted r.table t) where
    abbrev pub own_item : FromItem
    own_item = leaf_item r (meant texts known bases views d accepted r.table t b)

    in_order : IsInOrder own_item
    in_order = own_positions texts known bases views d accepted r.table t b

    abbrev names : List Name
    names = item_names known ps own_item in_order inputs values user same_inputs

    key_here : (test : List Name → Bool) → list_any test (keys t) ≡ true → IsKeyAt test names x.leaf.table.keys
    key_here test any =
        subst (λ ns. IsKeyAt test ns x.leaf.table.keys) (names_are texts known bases views d accepted r.table t b)
        (key_bound texts known bases views d accepted r.table t b x.leaf is_under is_base test any)

    -- Where the text of its condition names a row by a key, a search of the target finds it by that key.
    pub target_keyed : (clause : Clause Named) → ClauseSpellsNoNull clause → is_keyed t inputs clause ≡ true
        → ClauseIs (clause_placed (of_lines (own_item ∷ []) (outside known ps)) clause) x.condition → IsKeyedTarget x values user
    target_keyed clause spells keyed is =
        let c : IsKeyedClause x.leaf.table.keys x.condition values user
        = clause_keyed known ps own_item in_order inputs values user same_inputs columns kinds given (at_place.Base x.leaf.table.place)
        x.leaf.table.keys t key_here clause spells keyed x.condition (λ own e. own_stands columns kinds x own well e) (is []) in
        record {
          under = record { own = c.own; is_own = c.is_own; by_key = c.by_key };
          quiet_views = quiet_views texts known bases views d accepted r.table t b x.leaf is_under is_base;
          plain = λ none. c.plain;
        }

-- ---- a search condition of a statement

module _ (texts : List SchemaText) (known : KnownTables) (bases : List BoundTable) (views : List BoundSpecification)
    (d : Declares texts known bases views) (accepted : first_schema_refusal texts ≡ None) (ps : List ParameterDesc) (inputs : List Input)
    (values : List Value) (user : Name) (same_inputs : SameInputs ps inputs (inputs_of values)) (columns : TableKinds) (kinds : List Kind)
    (given : IsRowOf kinds values) (x : BoundTarget) (well : IsTarget columns kinds x) (is_base : IsBase bases x.leaf.table) (name : TableName)
    (is_under : option_and_then (λ k. k.under) (meant_by known name) ≡ Some (under_of x.leaf)) where
  abbrev r : TableReference
  r = record { table = name; correlation = None }

  -- the table that is changed, as an item
  filter_here : (t : TableDefinition) (b : IsBaseNamed texts known bases views d accepted name t) (c : SpelledCond)
      → filter_placed known ps user name c
      ≡ clause_placed (of_lines (leaf_item r (meant texts known bases views d accepted name t b) ∷ []) (outside known ps)) (present (cond_of user c))
  filter_here t b c =
      ap (λ o. and_then (well_formed (option_map (item_at_leaf name) o)) (λ item. filter_on (outside known ps) user item c))
      (meant_is texts known bases views d accepted name t b)

  -- Where the definition of the text says that it names its row by a key, its bound
  -- target is keyed in this call.
  pub keyed_where : (IsNumberOf : Name → ℕ → Type 0) (w : Option Where)
      → IsTargetOf IsNumberOf (filter_placed known ps user name) w (change.Searched x)
      → is_keyed_where (elements_of texts) user inputs name w ≡ true → IsKeyedTarget x values user
  keyed_where IsNumberOf None is keyed = cc
  keyed_where IsNumberOf (Some (rows_where.CurrentOf cursor)) is keyed = cc
  keyed_where IsNumberOf (Some (rows_where.Condition c)) is keyed =
      by_table (table_named (elements_of texts) name) refl keyed
    where
      by_table : (o : Option TableDefinition) → table_named (elements_of texts) name ≡ o
          → is_some_and (λ t. is_keyed t inputs (present (cond_of user c))) o ≡ true → IsKeyedTarget x values user
      by_table None found e = cc
      by_table (Some t) found e =
          let b = base_is_named texts known bases views d accepted name t found in
          target_keyed texts known bases views d accepted ps inputs values user same_inputs columns kinds given x well is_base r is_under t b
          (present (cond_of user c)) (cond_spells user c) e (λ functions. sym (filter_here t b c) ∙ is functions)
