-- Privileges (ISO/IEC 9075:1992, 10.3).
use Rattle.sq_lex.specs.declared.name.Name.{Name}

-- UPDATE and REFERENCES are held column by column: without a column list they are of each column
pub data Privilege : Type 0 where
  select : Privilege
  insert : Privilege
  delete : Privilege
  update : Name → Privilege
  references : Name → Privilege
