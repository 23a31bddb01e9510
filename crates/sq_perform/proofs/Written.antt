-- What is written at the end of a line.
use Rattle.std.proofs.Common.{◌≡◌, ℕ, ◌/◌, List, ◌++◌, length, pos, sym, ap, ◌∙◌, append_assoc}
use Rattle.std.proofs.Math.Nat.{div-one}
use Rattle.std.proofs.lemmas.List.{append-nil}
use Rattle.std.specs.Fmt.{decimal, sign_text}
use Rattle.std.specs.List.{flat_map}
use Rattle.std.specs.Prelude.{codes, int_lt, unsigned_abs}
use Rattle.sq_store.specs.declared.table.Numbered.{Numbered}
use Rattle.sq_meaning.specs.Report.{row_line}
use Rattle.sq_value.specs.Number.{Number}
use Rattle.sq_value.specs.Spelling.{written}

-- a whole number is spelled by its sign and its digits
pub whole_is : (n : Number) → n.scale ≡ 0 → sign_text (int_lt n.unscaled (pos 0)) ++ decimal (unsigned_abs n.unscaled) ≡ written n
whole_is n whole =
    let size = unsigned_abs n.unscaled in
    let sign = sign_text (int_lt n.unscaled (pos 0)) in
    ap (λ n. sign ++ decimal n) (sym (div-one size))
    ∙ sym (append-nil (sign ++ decimal (size / 1)))
    ∙ ap (λ s. written (record { unscaled = n.unscaled; scale = s })) (sym whole)

-- the parts of a call's line, one behind the other
pub line_written : (start named stated shown all first second status outputs : List ℕ)
    → named ≡ start ++ first ++ codes "." ++ second ++ codes " " → stated ≡ named ++ status → shown ≡ stated ++ outputs → all ≡ shown ++ codes "\n"
    → all ≡ start ++ (first ++ codes "." ++ second ++ codes " " ++ status ++ outputs ++ codes "\n")
line_written start named stated shown all first second status outputs names states shows ends =
    ends
    ∙ ap (λ (w : List ℕ). w ++ codes "\n") (shows ∙ ap (λ (w : List ℕ). w ++ outputs) (states ∙ ap (λ (w : List ℕ). w ++ status) names))
    ∙ simp append_assoc

-- the parts of a table's lines
pub table_written : (start headed all user name : List ℕ) (count : ℕ) (rows : List Numbered) → headed ≡ start ++ codes "TABLE " ++ user ++ codes "." ++ name ++ codes " " ++ decimal count ++ codes "\n" → all ≡ headed ++ flat_map row_line rows → count ≡ length rows
    → all ≡ start ++ (codes "TABLE " ++ user ++ codes "." ++ name ++ codes " " ++ decimal (length rows) ++ codes "\n" ++ flat_map row_line rows)
table_written start headed all user name count rows heads shows counts =
    shows
    ∙ ap (λ (w : List ℕ). w ++ flat_map row_line rows) (heads ∙ ap (λ n. start ++ codes "TABLE " ++ user ++ codes "." ++ name ++ codes " " ++ decimal n ++ codes "\n") counts)
    ∙ simp append_assoc
