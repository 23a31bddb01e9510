-- Bound parts of a query, as the definitions see them, and the contract of a function that binds one.
use Rattle.std.specs.Prelude.{Bool, false, ◌≡◌, ◌++◌, ◌∷◌, [], List, ◌||◌, map, Result, Ok, Err}
use Rattle.sq_binding.specs.Found.{Binding, after, joined}
use Rattle.sq_binding.specs.Found as binding
use Rattle.sq_binding.specs.Outcome.{and_then}
use Rattle.sq_binding.specs.QueryFindings as findings
use Rattle.sq_binding.specs.Seen.{call_of}
use Rattle.sq_binder.specs.Binds.{Stops}
use Rattle.sq_binder.specs.Bound.{findings_of}
use Rattle.sq_binder.specs.declared.findings.Findings.{Findings}
use Rattle.sq_binder.specs.declared.found.Brought.{Brought}
use Rattle.sq_binder.specs.declared.found.Counts.{Counts}
use Rattle.sq_binder.specs.declared.found.Found.{Found}
use Rattle.sq_binder.specs.declared.query_findings.QueryFindings.{QueryFindings}
use Rattle.sq_binder.specs.declared.stop.Stop.{Stop}
use Rattle.sq_binder.specs.declared.stop.Stop.TheVariants.{NoMemory}

abbrev pub query_findings_of : QueryFindings → findings.QueryFindings
query_findings_of f = record {
  values = findings_of f.values;
  has_subquery = f.has_subquery;
  lacks_privilege = f.lacks_privilege;
  lacks_grant_option = f.lacks_grant_option;
}

abbrev pub with_can_fail : Bool → findings.QueryFindings → findings.QueryFindings
with_can_fail can_fail f = record f { values = record f.values { can_fail = can_fail } }

abbrev pub counts_of : Counts → binding.Counts
counts_of c = record { functions = c.functions; subqueries = c.subqueries }

-- a part with these additions
abbrev pub with_brought : {A : Type 0} → A → Brought → binding.Found A
with_brought part b = record {
  part = part;
  calls = map call_of b.calls;
  calls_can_fail = b.calls_can_fail;
  findings = query_findings_of b.findings;
  subqueries = b.next.subqueries;
}

abbrev pub brought_of : Brought → binding.Found (Unit {0})
brought_of b = with_brought tt b

abbrev pub found_of : {A B : Type 0} → (image : B → A) → Found B → binding.Found A
found_of image x = with_brought (image x.part) x.brought

-- The answer is the part that the definition computes after these counts, with the counts after it, or the definition's fault, or
-- memory ran out.
abbrev pub Finds : {A B : Type 0} → (image : B → A) → Binding A → Counts → Result (Found B) Stop → Type 0
Finds image b before (Ok x) =
    (b (counts_of before) ≡ Ok (found_of image x))
    × (counts_of x.brought.next ≡ after (counts_of before) (found_of image x))
Finds image b before (Err stop) = Stops (b (counts_of before)) stop

-- nothing is added
abbrev pub no_findings : Findings
no_findings = record {
  items = 0;
  outer_items = 0;
  reach = 0;
  reads_outermost = false;
  can_fail = false;
  has_ungrouped = false;
  has_user = false;
}

abbrev pub nothing : Counts → Brought
nothing before = record {
  calls = [];
  calls_can_fail = false;
  findings = record {
    values = no_findings;
    has_subquery = false;
    lacks_privilege = false;
    lacks_grant_option = false;
  };
  next = before;
}

-- a part whose evaluation may answer a status
abbrev pub failing : {A : Type 0} → binding.Found A → binding.Found A
failing x = record x { findings = findings.both x.findings findings.a_status }

-- a subquery, seen from the query around it
abbrev pub outward : {A : Type 0} → binding.Found A → binding.Found A
outward x = record x { findings = findings.of_subquery x.findings }

-- ---- two parts

abbrev pub paired : {A B : Type 0} → binding.Found A → binding.Found B → binding.Found (A × B)
paired x y = record {
  part = (x.part, y.part);
  calls = x.calls ++ y.calls;
  calls_can_fail = x.calls_can_fail || y.calls_can_fail;
  findings = findings.both x.findings y.findings;
  subqueries = y.subqueries;
}

-- a part, and the one after it
abbrev pub pairs : {A B : Type 0} → Binding A → (A → Binding B) → Binding (A × B)
pairs b f = λ counts. and_then (b counts) (λ x. and_then (f x.part (after counts x)) (λ y. Ok (paired x y)))

abbrev pub both_of : {A B X Y : Type 0} → (X → A) → (Y → B) → X × Y → A × B
both_of f g p = (f p.0, g p.1)

-- a part comes after one that is bound, or one of both has a fault
abbrev pub Pairs : {A B : Type 0} → Found A → Result (Found B) Stop → Result (Found (A × B)) Stop → Type 0
Pairs left (Ok right) (Ok both) =
    (both.part ≡ (left.part, right.part))
    × (brought_of both.brought ≡ joined (brought_of left.brought) (brought_of right.brought))
    × (both.brought.next ≡ right.brought.next)
Pairs left (Ok right) (Err stop) = stop ≡ NoMemory
Pairs left (Err earlier) (Ok both) = ⊥
Pairs left (Err earlier) (Err stop) = stop ≡ earlier

-- ---- lists

-- the first of a list
abbrev pub Begins : {A : Type 0} → Result (Found A) Stop → Result (Found (List A)) Stop → Type 0
Begins (Ok first) (Ok all) = all ≡ record { part = first.part ∷ []; brought = first.brought }
Begins (Ok first) (Err stop) = stop ≡ NoMemory
Begins (Err earlier) (Ok all) = ⊥
Begins (Err earlier) (Err stop) = stop ≡ earlier

-- a list grows by the next part, or that has a fault
abbrev pub Continues : {A : Type 0} → Found (List A) → Result (Found A) Stop → Result (Found (List A)) Stop
    → Type 0
Continues parts (Ok next) (Ok all) =
    (all.part ≡ parts.part ++ next.part ∷ [])
    × (brought_of all.brought ≡ joined (brought_of parts.brought) (brought_of next.brought))
    × (all.brought.next ≡ next.brought.next)
Continues parts (Ok next) (Err stop) = stop ≡ NoMemory
Continues parts (Err earlier) (Ok all) = ⊥
Continues parts (Err earlier) (Err stop) = stop ≡ earlier
