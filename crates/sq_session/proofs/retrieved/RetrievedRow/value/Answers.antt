-- Left open for RetrievedRow::value: what the call of value_in asks for, and its result; answered by Shown.
use Rattle.std.proofs.Common.{Some, ap, ◌∙◌}
use Rattle.sq_session.proofs.Fetching.Shown.{place_there, positions_there, shown_in, shown_whole}
use Rattle.sq_session.proofs.retrieved.RetrievedRow.value.Goals as goal

pub value_in-requires-clause-there : goal.value_in-requires-clause-there
value_in-requires-clause-there c = place_there c.args.self.now.values.now c.args.self.now.columns c.in-Some.columns c.args.place c.requires c.in-Some.is

pub value_in-requires-clause-columns : goal.value_in-requires-clause-columns
value_in-requires-clause-columns c = positions_there c.args.self.now.values.now c.args.self.now.columns c.in-Some.columns c.args.self.now.there c.in-Some.is

pub returns-in-Some : goal.returns-in-Some
returns-in-Some c = shown_in c.args.self.now.values.now c.args.self.now.columns c.in-Some.columns c.args.place c.value_in.result.now c.value_in.ensures c.in-Some.is

pub returns-in-None : goal.returns-in-None
returns-in-None c =
    shown_whole c.args.self.now.values.now c.args.self.now.columns c.args.place c.index-self-place.result c.requires c.index-self-place.is c.in-None.is
    ∙ ap Some c.index-self-place.is
