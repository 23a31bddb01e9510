use Rattle.std.proofs.Common.{◌≡◌, [], map, take}
use Rattle.sq_module.specs.Admitted.{AreAdmitted, admitted_procedures}
use Rattle.sq_module.specs.Program.{HaveNames, declared_procedures}
use Rattle.sq_module.specs.Refusal.{AreAdmissible}
use Rattle.sq_module.specs.Written.{AreOfTexts}
use Rattle.sq_module.proofs.Refused.{AreTaken}
use Rattle.sq_module.proofs.admission.admit_all.Given as goal

abbrev pub invariant-loop-text : goal.invariant-loop-text
invariant-loop-text l = record {
  keys : l.names.keys ≡ map (λ m. m.name) (take l.text l.modules);
  names : HaveNames [] (take l.text l.modules);
  declared : admitted_procedures l.admitted.items ≡ declared_procedures (take l.text l.modules);
  written : AreOfTexts l.modules l.admitted.items;
  named : l.names.keys ≡ map (λ a. a.name) l.admitted.items;
  admitted : AreAdmitted [] l.admitted.items;
  admissible : AreAdmissible (take l.text l.modules);
  taken : AreTaken l.modules l.text;
}
