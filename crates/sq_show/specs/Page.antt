-- A page that steps through a run (own form): its data have the lines of each item, with their notes, as JSON has texts.
use Rattle.std.specs.Prelude.{◌≡◌, ℕ, ◌++◌, Bool, false, List, [], ◌∷◌, codes, flat_map, length, take}
use Rattle.sq_meaning.specs.Report.{Bytes}
use Rattle.sq_session.specs.Session.{Session}
use Rattle.sq_perform.specs.Steps.{Steps}
use Rattle.sq_perform.specs.declared.action.Action.{Action}
use Rattle.sq_show.specs.Json.{text}
use Rattle.sq_show.specs.Traced.{Part, left, shown}

-- what a page has of an item: its lines, and the rest, which is its tables and cursors
abbrev pub item_codes : Bytes → Bytes → Bytes
item_codes lines rest = codes "{\"lines\":" ++ text lines ++ rest

pub record PageItem : Type 0 where
  pub part : Part
  pub rest : Bytes

-- its lines in the report
abbrev pub reported : PageItem → Bytes
reported i = left i.part

abbrev pub codes_of : PageItem → Bytes
codes_of i = item_codes (shown i.part) i.rest

abbrev pub other_codes : PageItem → Bytes
other_codes i = codes "," ++ codes_of i

-- items with commas between them
abbrev pub joined : List PageItem → Bytes
joined [] = []
joined (i ∷ others) = codes_of i ++ flat_map other_codes others

-- an item with these lines is added
pub record HasItem (lines old new : Bytes) : Type 0 where
  pub rest : Bytes
  pub added : new ≡ old ++ item_codes lines rest

-- Items are added, an item for each of the actions, up to the first call that failed if it is to stop there. Without their notes their lines are the report of the actions.
pub record HasItems (stop : Bool) (actions : List Action) (start : Session) (old new : Bytes) (now : Session) : Type 0 where
  pub done : ℕ
  pub whole : stop ≡ false → done ≡ length actions
  pub items : List PageItem
  pub steps : Steps (take done actions) start (flat_map reported items) now
  pub added : new ≡ old ++ joined items

-- The page has such items, behind its head and before its end.
pub record IsPage (stop : Bool) (actions : List Action) (start : Session) (page : Bytes) (now : Session) : Type 0 where
  pub head : Bytes
  pub mid : Bytes
  pub items : HasItems stop actions start head mid now
  pub end : Bytes
  pub is : page ≡ mid ++ end

-- The page steps through a run with this report: what its items say without their notes is the report.
pub record StepsThrough (page report : Bytes) : Type 0 where
  pub head : Bytes
  pub items : List PageItem
  pub end : Bytes
  pub is : page ≡ (head ++ joined items) ++ end
  pub report_is : flat_map reported items ≡ report
