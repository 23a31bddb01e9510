-- Names of files.
use Rattle.std.specs.Prelude.{ℕ, Bool, ◌&&◌, ◌-◌, List, codes, length, take, drop, not, if◌then◌else◌}
use Rattle.std.specs.Str.{str_eq_ignore_ascii_case}
use Rattle.sq_suite.specs.declared.folder.Kind.{Kind}
use Rattle.sq_suite.specs.declared.folder.Kind.TheVariants.{Schema, Module, Other}

-- The first bytes of the name are these letters, in any letter case.
abbrev pub begins_like : List ℕ → List ℕ → Bool
begins_like name letters = str_eq_ignore_ascii_case (take (length letters) name) letters

-- Its last ones are.
abbrev pub ends_like : List ℕ → List ℕ → Bool
ends_like name letters = str_eq_ignore_ascii_case (drop (length name - length letters) name) letters

-- `schema*.sql` is a schema, and any other `*.sql` a module.
abbrev pub kind_of : List ℕ → Kind
kind_of name =
    if not (ends_like name (codes ".sql")) then Other
    else if begins_like name (codes "schema") then Schema
    else Module
