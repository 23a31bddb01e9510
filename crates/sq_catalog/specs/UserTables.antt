-- What the texts of a user name: the tables and views of a catalog, what is under those that may be changed, and the privileges of the user
-- (ISO/IEC 9075:1992, 5.4 and 10.3).
use Rattle.std.specs.Prelude.{◌≡◌, Bool, false, true, [], Option, IfSome}
use Rattle.std.specs.Option.{option_and_then, option_map}
use Rattle.sq_lex.specs.declared.name.Name.{Name}
use Rattle.sq_meaning.specs.Environment.{TableName}
use Rattle.sq_meaning.specs.Privilege.{Privilege}
use Rattle.sq_bound.specs.declared.names.Leaf.{Leaf}
use Rattle.sq_bound.specs.declared.names.TableBody.{TableBody}
use Rattle.sq_bound.specs.declared.names.TableBody.TheVariants as body
use Rattle.sq_bound.specs.declared.names.TableDesc.{TableDesc}
use Rattle.sq_binding.specs.Changeable.{UnderTable, UserNames}
use Rattle.sq_binding.specs.From.{NamedTables}
use Rattle.sq_binding.specs.Catalog.{entry, may, names_of}
use Rattle.sq_binder.specs.Names.{Beneath, Changes, user_names}
use Rattle.sq_binding.specs.Names as promises
use Rattle.sq_catalog.specs.Catalog.{Catalog, column_kinds, known}
use Rattle.sq_catalog.specs.Exact.{declared, described, entry_declared}
use Rattle.sq_catalog.specs.Stored.{IsStored}

-- ---- what names mean

abbrev pub named_by_user : Catalog → Name → NamedTables
named_by_user c user = (names_of (declared c) user).tables

abbrev pub beneath_leaf : TableDesc → Leaf → Beneath
beneath_leaf t l = record { leaf = l; columns = t.columns }

abbrev pub beneath_in : TableDesc → Option Beneath
beneath_in t = option_map (beneath_leaf t) t.leaf

abbrev pub changes_by_user : Catalog → Name → Changes
changes_by_user c user = record {
  beneath = λ t. option_and_then beneath_in (described c t);
  holds = may (declared c) false user;
}

-- all that the names of a user mean
abbrev pub names_in : Catalog → Name → UserNames
names_in c user = user_names user (named_by_user c user) (changes_by_user c user)

-- all that the names of a user mean, from what is known of the tables and the privileges that the user holds
abbrev pub names_known : Catalog → Name → UserNames
names_known c user =
    promises.user_names user (known c) (λ t. may (declared c) false user t Privilege.select)
    (λ t. may (declared c) true user t Privilege.select)
    (may (declared c) false user)

-- what is under a table, without the conditions of views in between, which binding passes on and doesn't look at
abbrev pub without_conditions_under : UnderTable → UnderTable
without_conditions_under u = record {
  leaf = record { base = (u.leaf).base; conditions = []; demanded = (u.leaf).demanded };
  columns = u.columns;
}

abbrev pub without_conditions : UserNames → UserNames
without_conditions names = record {
  user = names.user;
  tables = names.tables;
  under = λ t. option_map without_conditions_under (names.under t);
  holds = names.holds;
}

-- What names mean, of a catalog: each table or view is over base tables that are there and is the one that the definitions look up; names
-- mean what stands; and they mean to a user what is known and, but for those conditions, what the definitions say.
pub record NamesStand (c : Catalog) : Type 0 where
  pub stored : (t : TableName) → IfSome (described c t) (IsStored c.bases)
  pub entries : (t : TableName)
      → entry (declared c) t ≡ option_map (entry_declared (record { user = t.user; name = t.name }))
      (described c t)
  pub there : promises.NamesMean c.bases (column_kinds c) (known c)
  pub are_known : (user : Name) → names_in c user ≡ names_known c user
  pub are_seen : (user : Name) → names_of (declared c) user ≡ without_conditions (names_in c user)

abbrev pub is_base_table : TableBody → Bool
is_base_table (body.Base b) = true
is_base_table (body.View v) = false
