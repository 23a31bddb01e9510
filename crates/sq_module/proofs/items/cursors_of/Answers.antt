-- Left open: the clauses listed, taken and first, and the loop's invariant; answered by Listed and others.
use Rattle.std.proofs.Common.{◌≡◌, arith, map, sym, true}
use Rattle.std.specs.Map.{keys_of}
use Rattle.sq_meaning.specs.ModuleRefusal.{cursor_name, first_repeated}
use Rattle.sq_meaning.specs.Schema.{is_among}
use Rattle.sq_meaning.specs.Words.{is_some_and}
use Rattle.sq_meaning.specs.declared.refusal.ModuleFault.TheVariants as fault
use Rattle.sq_meaning.specs.Module.{cursor_in}
use Rattle.sq_module.proofs.Listed.{listed_next, listed_whole}
use Rattle.sq_module.proofs.Refused.{refused_there}
use Rattle.sq_module.proofs.Repeats.{before_next, none_repeated, not_used_next, repeated}
use Rattle.sq_module.proofs.Written.{among_at}
use Rattle.sq_module.proofs.items.cursors_of.Goals as goal

pub loop-place-preserved : goal.loop-place-preserved
loop-place-preserved c =
    let items = c.args.items.now in
    let item = c.index-items-place.result in
    let keys = keys_of c.loop-place.cursors.entries in record {
      written = c.in_default.ensures.written items (among_at items c.loop-place.place item c.loop-place-test.true c.index-items-place.is) c.loop-place.invariant.written;
      listed = listed_next cursor_in items c.loop-place.place item _ _ c.loop-place-test.true c.index-items-place.is c.loop-place.invariant.listed c.in_default.ensures.listed;
      before = before_next cursor_name items keys c.loop-place.place item c.loop-place-test.true c.index-items-place.is c.loop-place.invariant.before (keys_of c.add_item.new.cursors.entries)
          c.in_default.ensures.keys;
      unused = not_used_next cursor_name items keys c.loop-place.place item c.loop-place-test.true c.index-items-place.is c.loop-place.invariant.before c.loop-place.invariant.unused c.in_default.ensures.new;
    }

pub returns-clause-listed : goal.returns-clause-listed
returns-clause-listed c = listed_whole cursor_in c.args.items.now c.loop-place.place _ (omega (arith, c.loop-place-test.false)) c.loop-place.invariant.listed

pub returns-clause-taken : goal.returns-clause-taken
returns-clause-taken c = sym (none_repeated cursor_name c.args.items.now c.loop-place.place (omega (arith, c.loop-place-test.false)) c.loop-place.invariant.unused)

pub returns-in-Err-clause-first : goal.returns-in-Err-clause-first
returns-in-Err-clause-first c =
    let items = c.args.items.now in
    let keys = keys_of c.loop-place.cursors.entries in
    refused_there c.args.text c.loop-place.place fault.TwoCursors (first_repeated (map cursor_name items)) (is_some_and (is_among keys) (cursor_name c.index-items-place.result) ≡ true) c.in-Err.fault
    (λ used. repeated cursor_name items keys c.loop-place.place c.index-items-place.result c.loop-place-test.true c.index-items-place.is c.loop-place.invariant.before c.loop-place.invariant.unused used)
    c.in-Err.ensures.repeated
