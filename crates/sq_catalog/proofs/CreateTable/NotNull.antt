-- Keys of columns for which NOT NULL is written (ISO/IEC 9075:1992, 11.4).
use Rattle.std.proofs.Common.{◌≡◌, ℕ, zero, suc, true, false, ◌&&◌, List, [], ◌∷◌, map, refl}
use Rattle.std.specs.List.{list_all, list_any}
use Rattle.std.proofs.lemmas.Bool.{or_parts, not-false}
use Rattle.sq_bound.specs.NotNull.{are_not_null, is_not_null}
use Rattle.sq_binding.specs.Column.{refuses_null}
use Rattle.sq_binding.specs.Key.{has_nullable, is_nullable_at}
use Rattle.sq_catalog.specs.Table.{typed_seen, written_not_null}
use Rattle.sq_catalog.specs.declared.typed.TypedColumn.{TypedColumn}

known_at : (columns : List TypedColumn) (n : ℕ) → is_nullable_at (map typed_seen columns) n ≡ false → is_not_null (written_not_null columns) n ≡ true
known_at [] n h = absurd cc
known_at (c ∷ columns) zero h = not-false (refuses_null c.definition.now) h
known_at (c ∷ columns) (suc n) h = known_at columns n h

known_key : (columns : List TypedColumn) (key : List ℕ) → has_nullable (map typed_seen columns) key ≡ false → are_not_null (written_not_null columns) key ≡ true
known_key columns [] h = refl
known_key columns (n ∷ key) h =
    let parts = or_parts (is_nullable_at (map typed_seen columns) n) (has_nullable (map typed_seen columns) key) h in
    λ i. known_at columns n parts.0 i && known_key columns key parts.1 i

-- where no key has a column that is not NOT NULL
pub known_keys : (columns : List TypedColumn) (keys : List (List ℕ)) → list_any (has_nullable (map typed_seen columns)) keys ≡ false → list_all (are_not_null (written_not_null columns)) keys ≡ true
known_keys columns [] h = refl
known_keys columns (key ∷ keys) h =
    let parts = or_parts (has_nullable (map typed_seen columns) key) (list_any (has_nullable (map typed_seen columns)) keys) h in
    λ i. known_key columns key parts.0 i && known_keys columns keys parts.1 i
