-- Runs computed on the definitions, from the bytes of their texts to the bytes of their reports, as equations that hold by
-- computing. A rule that was misread would show here. `tools/print_runs.py` prints them from the runs of sq_cases.
pub mod Computed
mod SetFunctions
mod Numbers
mod TextValues
mod Keys
mod Conditions
mod Subqueries
mod Cursors
mod ScrollingCursors
mod Transactions
mod ViewsAndPrivileges
mod Unions
mod VaryingTexts
mod Faults
mod RefusedTexts
mod RefusedSchemas
mod RefusedModules
mod TakenTexts
mod CutTexts
mod NoData
mod SeveralRows
mod LongTexts
mod NoIndicator
mod OutOfRange
mod ZeroDivisors
mod EscapeLengths
mod EscapeSequences
mod BrokenConstraints
mod CursorStates
mod IllFormed
mod CheckOptions
mod NoRowNumbers
mod Done
