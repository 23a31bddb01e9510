-- Groups with the values of their set functions, one after another.
use Rattle.std.proofs.Common.{◌≡◌, ℕ, zero, suc, ◌+◌, ◌<◌, ◌≤◌, List, [], ◌∷◌, ◌++◌, length, take, drop, map, get_or, Option, Some, None, Result, Vec, refl, sym, ◌∙◌, ap, subst, Ok, Err, arith}
use Rattle.std.specs.Prelude.{IfOk}
use Rattle.std.specs.List.{AllByRecursion}
use Rattle.std.specs.declared.alloc.AllocError.{AllocError}
use Rattle.std.specs.declared.alloc.Global.{Global}
use Rattle.std.proofs.lemmas.List.{drop_more, map_push, take-append-drop, take_all, take_more}
use Rattle.sq_value.specs.declared.value.Value.{Value}
use Rattle.sq_meaning.specs.Environment.{Row}
use Rattle.sq_meaning.specs.Status.{Outcome, and_then, each}
use Rattle.sq_meaning.specs.declared.status.Status.{Status}
use Rattle.sq_meaning.proofs.OutcomeLaws.{each_map}
use Rattle.sq_bound.specs.declared.expression.SetFunctionCall.{SetFunctionCall}
use Rattle.sq_ending.specs.Ending.{Seen, function_on}
use Rattle.sq_ending.specs.Functions.{AreValued, AreWide, FindsCall, HasFunctions, HasWidth, IsAddedGroup, IsCallEnd, IsFunctionsEnd, values_on}
use Rattle.sq_ending.specs.Groups.{HoldsInGroups}
use Rattle.sq_ending.specs.Kept.{IsPlaced, line_of, lines_of}
use Rattle.sq_ending.specs.declared.ends.QueryEnd.{QueryEnd}
use Rattle.sq_ending.specs.declared.functions.Valued.{Valued}
use Rattle.sq_ending.specs.declared.kept.Placed.{Placed}
use Rattle.sq_ending.proofs.KeptLines.{all_pushed, line_long}

pub wide_at : (width : ℕ) (groups : List (Vec Placed Global)) (i : ℕ) (g : Vec Placed Global) → i < length groups → g ≡ get_or groups i g → AreWide width groups → AllByRecursion (HasWidth width) g.items
wide_at width [] i g within is all = absurd (omega arith)
wide_at width (x ∷ groups) zero g within is all = subst (λ (h : Vec Placed Global). AllByRecursion (HasWidth width) h.items) (sym is) all.0
wide_at width (x ∷ groups) (suc i) g within is all = wide_at width groups i g (omega arith) is all.1

-- where lines have their places, they have a row of each table
long_lines : (tables : List (List Row)) (width : ℕ) → length tables ≡ width → (ps : List Placed) → AllByRecursion (IsPlaced tables) ps → AllByRecursion (HasWidth width) ps
long_lines tables width many [] all = tt
long_lines tables width many (p ∷ ps) all = (line_long tables p.places.items (line_of p) all.0 ∙ many, long_lines tables width many ps all.1)

pub wide_groups : (tables : List (List Row)) (width : ℕ) → length tables ≡ width → (groups : List (Vec Placed Global)) → HoldsInGroups (IsPlaced tables) groups → AreWide width groups
wide_groups tables width many [] all = tt
wide_groups tables width many (g ∷ groups) all = (long_lines tables width many g.items all.0, wide_groups tables width many groups all.1)

module _ (seen : Seen) (calls : List SetFunctionCall) where
  pub none_valued : (vs : List Valued) → vs ≡ [] → AreValued seen calls [] vs
  none_valued vs none = record { lists = ap (map (λ (v : Valued). v.lines.items)) none; values = subst (AllByRecursion (HasFunctions seen calls)) (sym none) tt }

  pub one_valued : (gs : List (Vec Placed Global)) (vs new : List Valued) (g : Vec Placed Global) (v : Valued) → AreValued seen calls gs vs → new ≡ vs ++ v ∷ [] → v.lines.items ≡ g.items → HasFunctions seen calls v
      → AreValued seen calls (gs ++ g ∷ []) new
  one_valued gs vs new g v so_far grown same has = record {
    lists =
        ap (map (λ (w : Valued). w.lines.items)) grown
        ∙ map_push (λ (w : Valued). w.lines.items) vs v
        ∙ (λ i. so_far.lists i ++ same i ∷ [])
        ∙ sym (map_push (λ (h : Vec Placed Global). h.items) gs g);
    values = subst (AllByRecursion (HasFunctions seen calls)) (sym grown) (all_pushed (HasFunctions seen calls) vs v so_far.values has);
  }

  abbrev of_lines : List Placed → Outcome (List Value)
  of_lines ls = each (function_on seen (lines_of ls)) calls

  have_values : (vs : List Valued) → AllByRecursion (HasFunctions seen calls) vs → each (λ (v : Valued). of_lines v.lines.items) vs ≡ Ok (map (λ v. v.functions.items) vs)
  have_values [] all = refl
  have_values (v ∷ vs) all = (λ i. and_then (all.0 i) (λ y. and_then (have_values vs all.1 i) (λ ys. Ok (y ∷ ys))))

  values_fine : (gs : List (Vec Placed Global)) (vs : List Valued) → AreValued seen calls gs vs → each (values_on seen calls) gs ≡ Ok (map (λ v. v.functions.items) vs)
  values_fine gs vs h =
      sym (each_map (λ (g : Vec Placed Global). g.items) of_lines gs)
      ∙ ap (each of_lines) (sym h.lists)
      ∙ each_map (λ (v : Valued). v.lines.items) of_lines vs
      ∙ have_values vs h.values

  -- where the set functions of a group have no values, one of them ends
  pub call_found : (group after : List Placed) (status : Status) (vs new : List Valued) → group ≡ after → each (function_on seen (lines_of group)) calls ≡ Err status → (r : Result (Option QueryEnd) AllocError) → IfOk r (FindsCall seen calls group)
      → IfOk r (IsAddedGroup seen calls after vs new)
  call_found group after status vs new same fails (Err error) finds = tt
  call_found group after status vs new same fails (Ok None) (values, fine) = let no = sym fails ∙ fine in absurd cc
  call_found group after status vs new same fails (Ok (Some e)) finds = subst (λ (ls : List Placed). IsCallEnd seen calls ls e) same finds

  module _ (groups : List (Vec Placed Global)) (i : ℕ) (g : Vec Placed Global) (within : i < length groups) (is : g ≡ get_or groups i g) (vs : List Valued) (so_far : AreValued seen calls (take i groups) vs) where
    pub next_valued : (new : List Valued) (v : Valued) → new ≡ vs ++ v ∷ [] → v.lines.items ≡ g.items → HasFunctions seen calls v → AreValued seen calls (take (i + 1) groups) new
    next_valued new v grown same has =
        subst (λ (gs : List (Vec Placed Global)). AreValued seen calls gs new) (sym (take_more groups i g within ∙ ap (λ (h : Vec Placed Global). take i groups ++ h ∷ []) (sym is)))
        (one_valued (take i groups) vs new g v so_far grown same has)

    pub group_ends : (e : QueryEnd) → IsCallEnd seen calls g.items e → IsFunctionsEnd seen calls groups e
    group_ends e ends = record {
      before = take i groups;
      group = g;
      behind = drop (i + 1) groups;
      among = sym (take-append-drop i groups) ∙ ap (λ (rest : List (Vec Placed Global)). take i groups ++ rest) (drop_more groups i g within ∙ ap (λ (h : Vec Placed Global). h ∷ drop (i + 1) groups) (sym is));
      values = map (λ (v : Valued). v.functions.items) vs;
      fine = values_fine (take i groups) vs so_far;
      ends = ends;
    }

    pub group_added : (new : List Valued) → IsAddedGroup seen calls g.items vs new None → AreValued seen calls (take (i + 1) groups) new
    group_added new (v, grown, same, has) = next_valued new v grown same has

  pub all_valued : (groups : List (Vec Placed Global)) (i : ℕ) (vs : List Valued) → length groups ≤ i → AreValued seen calls (take i groups) vs → AreValued seen calls groups vs
  all_valued groups i vs past = subst (λ (gs : List (Vec Placed Global)). AreValued seen calls gs vs) (take_all i groups past)

pub group_valued : (seen : Seen) (calls : List SetFunctionCall) (given group : List Placed) (values : List Value) → given ≡ group → each (function_on seen (lines_of given)) calls ≡ Ok values → each (function_on seen (lines_of group)) calls ≡ Ok values
group_valued seen calls given group values same has = ap (λ (ls : List Placed). each (function_on seen (lines_of ls)) calls) (sym same) ∙ has
