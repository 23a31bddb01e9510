-- Laws of privileges (ISO/IEC 9075:1992, 4.26).
use Rattle.std.specs.Prelude.{◌≡◌, Bool, true, false, ◌||◌, [], ◌∷◌, ◌++◌, refl}
use Rattle.sq_lex.specs.declared.name.Name.{Name}
use Rattle.sq_meaning.specs.Environment.{TableName}
use Rattle.sq_meaning.specs.Catalog.{tables_of}
use Rattle.sq_meaning.specs.Privilege.{Privilege}
use Rattle.sq_meaning.specs.Privileges.{chain, gives}
use Rattle.sq_meaning.specs.Schema.{Element, Elements}

or_right : (a b : Bool) → b ≡ true → (a || b) ≡ true
or_right true b e = refl
or_right false b e = e

-- What is held stays held, whatever schema element comes behind, with the grant option
-- (`grantable`) or without: granting more never takes a privilege away.
pub held_stays_held : (e : Element) (before : Elements) (grantable : Bool) (user : Name) (t : TableName) (p : Privilege)
    → chain before grantable user t p ≡ true → chain (e ∷ before) grantable user t p ≡ true
held_stays_held e before grantable user t p h =
    or_right (gives (chain before) (tables_of before) e.user e.element grantable user t p) (chain before grantable user t p) h

-- also behind any number of elements
pub held_for_ever : (later before : Elements) (grantable : Bool) (user : Name) (t : TableName) (p : Privilege)
    → chain before grantable user t p ≡ true → chain (later ++ before) grantable user t p ≡ true
held_for_ever [] before grantable user t p h = h
held_for_ever (e ∷ later) before grantable user t p h = held_stays_held e (later ++ before) grantable user t p (held_for_ever later before grantable user t p h)
