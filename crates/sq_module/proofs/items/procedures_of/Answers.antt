-- Left open: the clauses listed, taken and first, and the loop's invariant; answered by Listed and others.
use Rattle.std.proofs.Common.{◌≡◌, ◌++◌, ◌∙◌, ap, arith, sym, true}
use Rattle.std.specs.Prelude.{position}
use Rattle.sq_meaning.specs.ModuleRefusal.{has_bad_parameter}
use Rattle.sq_module.specs.Admitted.{opening_in}
use Rattle.sq_meaning.specs.Module.{procedure_in}
use Rattle.sq_module.proofs.Listed.{listed_next, listed_whole}
use Rattle.sq_module.proofs.Names.{flat_more, procedures_next}
use Rattle.sq_meaning.specs.declared.refusal.ModuleFault.TheVariants as fault
use Rattle.sq_module.proofs.Places.{none_found, none_next, place_found}
use Rattle.sq_module.proofs.Refused.{refused_there}
use Rattle.sq_module.proofs.Written.{among_at}
use Rattle.sq_module.proofs.items.procedures_of.Goals as goal

pub loop-place-preserved : goal.loop-place-preserved
loop-place-preserved c = record {
  names = procedures_next c.args.items.now c.loop-place.place c.index-items-place.result c.loop-place.procedures.items c.add_procedure.new.procedures.items
      c.loop-place-test.true c.index-items-place.is c.loop-place.invariant.names c.in_default.ensures.names;
  openings = c.in_default.ensures.openings ∙ ap (λ l. l ++ opening_in c.index-items-place.result) c.loop-place.invariant.openings
      ∙ sym (flat_more opening_in c.args.items.now c.loop-place.place c.index-items-place.result c.loop-place-test.true c.index-items-place.is);
  listed = listed_next procedure_in c.args.items.now c.loop-place.place c.index-items-place.result _ _ c.loop-place-test.true c.index-items-place.is c.loop-place.invariant.listed c.in_default.ensures.listed;
  good = none_next has_bad_parameter c.args.items.now c.loop-place.place c.index-items-place.result c.loop-place-test.true c.index-items-place.is c.loop-place.invariant.good c.in_default.ensures.good;
  written = c.in_default.ensures.written c.args.items.now (among_at c.args.items.now c.loop-place.place c.index-items-place.result c.loop-place-test.true c.index-items-place.is) c.loop-place.invariant.written;
}

pub returns-clause-listed : goal.returns-clause-listed
returns-clause-listed c = listed_whole procedure_in c.args.items.now c.loop-place.place _ (omega (arith, c.loop-place-test.false)) c.loop-place.invariant.listed

pub returns-clause-taken : goal.returns-clause-taken
returns-clause-taken c = sym (none_found has_bad_parameter c.args.items.now c.loop-place.place (omega (arith, c.loop-place-test.false)) c.loop-place.invariant.good)

pub returns-in-Err-clause-first : goal.returns-in-Err-clause-first
returns-in-Err-clause-first c =
    let items = c.args.items.now in
    refused_there c.args.text c.loop-place.place fault.BadParameter (position has_bad_parameter items) (has_bad_parameter c.index-items-place.result ≡ true) c.in-Err.fault
    (λ bad. place_found has_bad_parameter items c.loop-place.place c.index-items-place.result c.loop-place-test.true c.index-items-place.is c.loop-place.invariant.good bad)
    c.in-Err.ensures.bad
