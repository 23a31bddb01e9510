-- Left open for ByKey::add: the clause lists; answered by ByKeys.
use Rattle.std.proofs.Common.{map}
use Rattle.sq_expression.proofs.ByKeys.{keys_added, lists_added, made_set}
use Rattle.sq_ending.proofs.by_key.ByKey.add.Goals as goal

pub returns-clause-lists : goal.returns-clause-lists
returns-clause-lists g c = λ added is.
    let now = c.args.self.now in
    let listed = map (λ list. list.items) now.lists.items in
    let lists = c.place_of.new.self.lists.items in
    let place = c.in_ok-place.place in
    record {
      keys = keys_added now.keys.keys listed c.place_of.new.self.keys.keys added c.args.key c.args.element is c.in_ok-place.ensures.keys;
      lists =
          lists_added now.keys.keys listed added c.args.key c.args.element is (map (λ list. list.items) lists) _ place c.in_ok-place.ensures.lists c.in_ok-place.ensures.place
          (made_set (λ list. list.items) lists place c.index_mut.result.now c.push.new.self c.args.element c.in_ok-place.ensures.within c.index_mut.ensures.value c.in_ok-push.ensures.items);
    }
