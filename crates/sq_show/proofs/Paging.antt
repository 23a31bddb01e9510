-- A page grows item by item.
use Rattle.std.proofs.Common.{◌≡◌, ℕ, ◌+◌, ◌<◌, Bool, true, false, List, [], ◌∷◌, ◌++◌, ◌∙◌, append_assoc, ap, arith, length, take, get_or, refl, subst, sym}
use Rattle.std.proofs.lemmas.List.{append-nil}
use Rattle.std.proofs.lemmas.Grind.{common_steps}
use Rattle.std.specs.List.{flat_map}
use Rattle.sq_meaning.specs.Report.{Bytes}
use Rattle.sq_session.specs.Session.{Session}
use Rattle.sq_perform.specs.Steps.{Steps}
use Rattle.sq_perform.specs.declared.action.Action.{Action}
use Rattle.sq_perform.proofs.Steps.{steps_more}
use Rattle.sq_show.specs.Json.{comma}
use Rattle.sq_show.specs.Page.{HasItem, HasItems, IsPage, PageItem, StepsThrough, codes_of, item_codes, joined, other_codes, reported}
use Rattle.sq_show.specs.Traced.{Told}
use Rattle.sq_show.proofs.SoFar.{part_of}

-- the items of the first actions
pub record PageSoFar (actions : List Action) (done : ℕ) (start : Session) (old new : Bytes) (now : Session) : Type 0 where
  pub items : List PageItem
  pub counted : length items ≡ done
  pub steps : Steps (take done actions) start (flat_map reported items) now
  pub added : new ≡ old ++ joined items

pub page_none : (actions : List Action) (s : Session) (old : Bytes) → PageSoFar actions 0 s old old s
page_none actions s old = record { items = []; counted = refl; steps = (refl, refl); added = sym (append-nil old) }

flat_more : {A : Type 0} (f : A → Bytes) (xs : List A) (x : A) → flat_map f (xs ++ x ∷ []) ≡ flat_map f xs ++ f x
flat_more f [] x = append-nil (f x)
flat_more f (y ∷ xs) x = ap (λ w. f y ++ w) (flat_more f xs x) ∙ sym (append_assoc (f y) (flat_map f xs) (f x))

length_more : {A : Type 0} (xs : List A) (x : A) → length (xs ++ x ∷ []) ≡ length xs + 1
length_more xs x = grind (arith, common_steps)

joined_more : (items : List PageItem) (i : PageItem) → joined (items ++ i ∷ []) ≡ joined items ++ (comma (length items) ++ codes_of i)
joined_more [] i = append-nil (codes_of i)
joined_more (x ∷ items) i = ap (λ w. codes_of x ++ w) (flat_more other_codes items i) ∙ sym (append_assoc (codes_of x) (flat_map other_codes items) (other_codes i))

-- one more item
pub page_more : (actions : List Action) (i : ℕ) (a : Action) (s t u : Session) (old mid with_comma new lines : Bytes) (failed : Bool)
    → i < length actions → a ≡ get_or actions i a → PageSoFar actions i s old mid t → Told a t lines u failed
    → with_comma ≡ mid ++ comma i → HasItem lines with_comma new → PageSoFar actions (i + 1) s old new u
page_more actions i a s t u old mid with_comma new lines failed lt e before told commas has =
    let h = part_of a t u lines failed told in
    let item : PageItem = record { part = h.part; rest = has.rest } in
    let items = before.items in
    record {
      items = items ++ item ∷ [];
      counted = length_more items item ∙ ap (λ n. n + 1) before.counted;
      steps =
          subst (λ report. Steps (take (i + 1) actions) s report u) (sym (flat_more reported items item))
          (steps_more actions i a s t u (flat_map reported items) h.part.lines lt e before.steps h.step);
      added =
          has.added ∙ ap (λ l. with_comma ++ item_codes l has.rest) h.whole ∙ ap (λ w. w ++ codes_of item) commas
          ∙ append_assoc mid (comma i) (codes_of item)
          ∙ ap (λ w. w ++ (comma i ++ codes_of item)) before.added
          ∙ append_assoc old (joined items) (comma i ++ codes_of item)
          ∙ ap (λ n. old ++ (joined items ++ (comma n ++ codes_of item))) (sym before.counted)
          ∙ ap (λ w. old ++ w) (sym (joined_more items item));
    }

pub page_first : (stop : Bool) (actions : List Action) (i : ℕ) (s t : Session) (old new : Bytes) → stop ≡ true → PageSoFar actions i s old new t → HasItems stop actions s old new t
page_first stop actions i s t old new stops so_far = record {
  done = i;
  whole = λ goes. cc;
  items = so_far.items;
  steps = so_far.steps;
  added = so_far.added;
}

pub page_whole : (stop : Bool) (actions : List Action) (i : ℕ) (s t : Session) (old new : Bytes) → i ≡ length actions → PageSoFar actions i s old new t → HasItems stop actions s old new t
page_whole stop actions i s t old new all so_far = record {
  done = i;
  whole = λ goes. all;
  items = so_far.items;
  steps = so_far.steps;
  added = so_far.added;
}

-- ---- a page that does not stop has the report of all actions

take_all : (xs : List Action) → take (length xs) xs ≡ xs
take_all xs = grind (arith, common_steps)

pub page_report : (actions : List Action) (s t : Session) (page : Bytes) → IsPage false actions s page t
    → (report : Bytes) × StepsThrough page report × Steps actions s report t
page_report actions s t page h =
    let all = h.items in
    let report = flat_map reported all.items in (
      report,
      record {
        head = h.head;
        items = all.items;
        end = h.end;
        is = h.is ∙ ap (λ w. w ++ h.end) all.added;
        report_is = refl;
      },
      subst (λ xs. Steps xs s report t) (take_all actions) (subst (λ n. Steps (take n actions) s report t) (all.whole refl) all.steps),
    )
