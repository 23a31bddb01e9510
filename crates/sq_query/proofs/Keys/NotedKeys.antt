-- A target that names its row by the key that is noted for it names it by a key of its base table, and a search finds it by a key.
use Rattle.std.proofs.Common.{◌∙◌, ap, List, []}
use Rattle.std.specs.Prelude.{slice_index_or}
use Rattle.std.proofs.lemmas.Option.{slice_get-get_or}
use Rattle.sq_lex.specs.declared.name.Name.{Name}
use Rattle.sq_value.specs.declared.value.Value.{Value}
use Rattle.sq_bound.specs.Quiet.{are_quiet_conds}
use Rattle.sq_bound.specs.declared.query.Target.{Target}
use Rattle.sq_query.specs.Keyed.{IsKeyed, IsKeyedTarget, IsKeyedUnder}
use Rattle.sq_query.proofs.Keys.KeyNames.{condition_there, key_there, no_view, own_named}
use Rattle.sq_query.proofs.Keys.KeySearch.{no_element}
use Rattle.sq_query.proofs.Keys.KnownKeys.{key_noted}

keyed_under : (t : Target) (parameters : List Value) (user : Name) → IsKeyed t parameters user → IsKeyedUnder t parameters user
keyed_under t parameters user keyed =
    let own = condition_there t keyed.key keyed.is_noted in record {
      own = own.0;
      is_own = own.1;
      by_key = record {
        number = keyed.key;
        columns = slice_index_or t.leaf.table.keys keyed.key [];
        is_key = slice_get-get_or t.leaf.table.keys keyed.key [] (key_there t keyed.key keyed.is_noted);
        named = own_named t keyed.key keyed.is_noted own.0 own.1;
        known = λ tests firsts. keyed.known tests (record { own = own.0; is_own = own.1; term = firsts.term; only_term = firsts.only_term; firsts = firsts.firsts });
      };
    }

pub noted_keyed : (t : Target) (parameters : List Value) (user : Name) → IsKeyed t parameters user → IsKeyedTarget t parameters user
noted_keyed t parameters user keyed = record {
  under = keyed_under t parameters user keyed;
  quiet_views = t.leaf.quiet ∙ ap are_quiet_conds (no_element t.leaf.conditions (no_view t keyed.key keyed.is_noted));
  plain = λ none. absurd (key_noted t parameters user none keyed);
}
