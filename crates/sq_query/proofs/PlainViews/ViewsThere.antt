-- A view that is found by its place (ISO/IEC 9075:1992, 11.19).
use Rattle.std.proofs.Common.{◌≡◌, ℕ, List, [], sym, ap, subst, ◌∙◌, Ok}
use Rattle.sq_value.specs.declared.domain.Kind.{Kind}
use Rattle.sq_bound.specs.WellFormed.{TableKinds, before_view, IsSelect, IsBody, IsTable, kinds_of_columns, place_of}
use Rattle.sq_bound.specs.declared.condition.TablePlace.TheVariants.{View}
use Rattle.sq_bound.specs.declared.names.TableBody.{TableBody}
use Rattle.sq_bound.specs.declared.names.TableBody.TheVariants as body
use Rattle.sq_bound.specs.declared.names.TableDesc.{TableDesc}
use Rattle.sq_bound.specs.declared.names.View.{View as BoundView}
use Rattle.sq_query.specs.Table.{IsViewAt}

same_view : (m n : ℕ) → View m ≡ View n → m ≡ n
same_view m n e = cc

body_at : (columns : TableKinds) (kinds : List Kind) (b : TableBody) (place : ℕ) (v : BoundView) → b ≡ body.View v → place_of b ≡ View place
    → columns (place_of b) ≡ Ok kinds → IsBody columns kinds b → IsViewAt columns place v
body_at columns kinds (body.Base t) place v is at known h = absurd cc
body_at columns kinds (body.View w) place v is at known h =
    let here : IsBody columns kinds (body.View v) = subst (IsBody columns kinds) is h in
    let there : View v.place ≡ View place = sym (ap place_of is) ∙ at in
    (subst (λ (n : ℕ). IsSelect (before_view n columns) [] [] v.query) (same_view v.place place there) here.0, sym (ap columns at) ∙ known ∙ ap Ok here.1)

pub view_there : (columns : TableKinds) (t : TableDesc) (place : ℕ) (v : BoundView) → IsTable columns t → place_of t.body ≡ View place → t.body ≡ body.View v → IsViewAt columns place v
view_there columns t place v h at is = body_at columns (kinds_of_columns t.columns) t.body place v is at h.kinds_are h.body
