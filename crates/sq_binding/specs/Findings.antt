-- The findings in a part of a text besides its tree.
use Rattle.std.specs.Prelude.{ℕ, Bool, true, false, ◌||◌, max}

pub record Findings : Type 0 where
  -- how many items of the FROM clause, from the left, hold all columns that are read, and how many of the query around
  pub items : ℕ
  pub outer_items : ℕ
  -- how many queries further out the columns that are read reach
  pub reach : ℕ
  -- whether a column of the outermost query is read
  pub reads_outermost : Bool
  -- whether evaluation may answer a status
  pub can_fail : Bool
  -- whether a column of this query that is no grouping column occurs outside set functions
  pub has_ungrouped : Bool
  pub has_user : Bool

abbrev pub none : Findings
none = record {
  items = 0;
  outer_items = 0;
  reach = 0;
  reads_outermost = false;
  can_fail = false;
  has_ungrouped = false;
  has_user = false;
}

-- the findings in two parts
abbrev pub both : Findings → Findings → Findings
both a b = record {
  items = max a.items b.items;
  outer_items = max a.outer_items b.outer_items;
  reach = max a.reach b.reach;
  reads_outermost = a.reads_outermost || b.reads_outermost;
  can_fail = a.can_fail || b.can_fail;
  has_ungrouped = a.has_ungrouped || b.has_ungrouped;
  has_user = a.has_user || b.has_user;
}

-- findings of a part whose evaluation may answer a status
abbrev pub failing : Findings → Findings
failing a = record a { can_fail = true }
