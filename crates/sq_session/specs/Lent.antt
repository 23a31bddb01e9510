-- Rows as a store lends them.
use Rattle.std.specs.Prelude.{ℕ, List}
use Rattle.std.specs.Borrow.{Bor}
use Rattle.sq_value.specs.declared.value.Value.{Value}
use Rattle.sq_store.specs.declared.table.Numbered.{Numbered}

-- A numbered row, where the row is lent.
abbrev pub lent : ℕ × Bor (List Value) → Numbered
lent r = record { number = r.0; row = r.1.now }
