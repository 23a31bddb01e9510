-- What the owner of a view holds on it, as it is added to a list (ISO/IEC 9075:1992, 11.19).
use Rattle.std.specs.Prelude.{◌≡◌, List, ◌∷◌, ◌++◌, flat_map, map, zip}
use Rattle.sq_lex.specs.declared.name.Name.{Name}
use Rattle.sq_meaning.specs.Privilege.{Privilege}
use Rattle.sq_binding.specs.Numbered.{Numbered}
use Rattle.sq_binding.specs.Catalog as definition
use Rattle.sq_binding.specs.CreateView.{followed, names_underneath, updates}
use Rattle.sq_catalog.specs.Exact.{name_in}
use Rattle.sq_catalog.specs.Held.{grant_seen}
use Rattle.sq_catalog.specs.declared.held.Grant.{Grant}
use Rattle.sq_catalog.specs.declared.view_grants.ViewOver.{ViewOver}

-- these grants are added
abbrev pub HoldsMore : (old new : List Grant) → List definition.Grant → Type 0
HoldsMore old new more = map grant_seen new ≡ map grant_seen old ++ more

-- privileges on a view, each as one on the table underneath is held
abbrev pub all_followed : definition.Catalog → Name → ViewOver → List (Privilege × Privilege)
    → List definition.Grant
all_followed c owner over ps = flat_map (followed c owner (name_in over.view) (name_in over.under)) ps

-- UPDATE of each column, beside what it shows
abbrev pub updates_over : definition.Catalog → Name → ViewOver → List Name → List (Name × Numbered)
    → List definition.Grant
updates_over c owner over underneath columns =
    all_followed c owner over (flat_map (updates underneath) columns)

-- INSERT and DELETE, and UPDATE of each column
abbrev pub followed_over : definition.Catalog → Name → ViewOver → List Name → List Numbered
    → List definition.Grant
followed_over c owner over names shown =
    all_followed c owner over
    ((Privilege.insert, Privilege.insert) ∷ (Privilege.delete, Privilege.delete)
    ∷ flat_map (updates (names_underneath c (name_in over.under))) (zip names shown))
