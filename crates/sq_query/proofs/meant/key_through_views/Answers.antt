-- Left open for key_through_views: the clauses known, found and memory; answered by KnownKeys and TargetKeys.
use Rattle.std.proofs.Common.{◌≡◌, true, true≢false, ap, sym, ◌∙◌}
use Rattle.sq_store.specs.Keys.{keys_at}
use Rattle.sq_bound.specs.declared.names.Leaf.{Leaf}
use Rattle.sq_query.specs.Keyed.{IsKeyedBy, IsKeyedUnder}
use Rattle.sq_query.proofs.Keys.KnownKeys.{known_if}
use Rattle.sq_query.proofs.Targets.TargetKeys.{known_own, none_known, own_on_base, views_under}
use Rattle.sq_query.proofs.meant.key_through_views.Goals as goal

pub returns-then-get-clause-known : goal.returns-then-get-clause-known
returns-then-get-clause-known g c =
    let store = c.args.store.now in
    let call = c.args.call.now in
    let quiet : c.args.target.now.leaf.is_quiet ≡ true = sym (ap (λ (l : Leaf). l.is_quiet) c.get.ensures) ∙ c.if-get.true in
    views_under c.args.target.now (g.S.Store.content_now store) (g.S.Store.key_columns store) call.parameters.now call.user c.in-Some.own c.key_of_condition.result c.in-Some.is quiet
    c.key_of_condition.ensures.known

pub returns-then-get-clause-found : goal.returns-then-get-clause-found
returns-then-get-clause-found g c = λ quiet.
    let t = c.args.target.now in
    let call = c.args.call.now in
    let keys = keys_at (g.S.Store.key_columns c.args.store.now) t.base in
    known_if c.key_of_condition.result (IsKeyedBy keys c.in-Some.own call.parameters.now call.user) (IsKeyedUnder t call.parameters.now call.user)
    (known_own t call.parameters.now call.user c.in-Some.own keys c.in-Some.is c.requires.keys) c.key_of_condition.ensures.found

pub returns-then-get-clause-memory : goal.returns-then-get-clause-memory
returns-then-get-clause-memory g c = λ columns parameters well given.
    c.key_of_condition.ensures.memory columns parameters (own_on_base columns parameters c.args.target.now c.in-Some.own well c.in-Some.is) given

pub returns-else-get-clause-found : goal.returns-else-get-clause-found
returns-else-get-clause-found g c = λ quiet keyed.
    absurd (true≢false (sym quiet ∙ sym (ap (λ (l : Leaf). l.is_quiet) c.get.ensures) ∙ c.if-get.false))

pub returns-in_default-clause-found : goal.returns-in_default-clause-found
returns-in_default-clause-found g c = λ quiet keyed. absurd (none_known c.args.target.now c.args.call.now.parameters.now c.args.call.now.user c.in_default.is keyed)
