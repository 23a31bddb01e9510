-- Left open for Table::change: the clause rising; answered by Rises and Search.
use Rattle.std.proofs.Common.{◌≡◌, ◌∙◌, List, ap, filter, map, nat_eq, not}
use Rattle.sq_store.specs.declared.table.Numbered.{Numbered}
use Rattle.sq_store.specs.Rising.{rising_between}
use Rattle.sq_store.proofs.Rises.{rising_put, rising_without}
use Rattle.sq_store.proofs.Search.{put}
use Rattle.sq_store.proofs.table.Table.change.Goals as goal

pub returns-in-Replace-clause-rising : goal.returns-in-Replace-clause-rising
returns-in-Replace-clause-rising c =
    let rows : c.from_vec-in-Replace.result ≡ map (put c.in-Replace.number c.in-Replace.row) c.args.self.rows
    = c.from_vec-in-Replace.ensures ∙ c.replace.ensures ∙ ap (map (put c.in-Replace.number c.in-Replace.row)) c.into_vec-rows.ensures in
    ap (λ (rs : List Numbered). rising_between 1 rs c.args.self.next) rows
    ∙ rising_put 1 c.args.self.rows c.args.self.next c.in-Replace.number c.in-Replace.row c.requires.rising

pub returns-in-Remove-clause-rising : goal.returns-in-Remove-clause-rising
returns-in-Remove-clause-rising c =
    let rows : c.from_vec-in-Remove.result ≡ filter (λ r. not (nat_eq r.number c.in-Remove.number)) c.args.self.rows
    = c.from_vec-in-Remove.ensures ∙ c.remove.ensures ∙ ap (filter (λ r. not (nat_eq r.number c.in-Remove.number))) c.into_vec-rows.ensures in
    ap (λ (rs : List Numbered). rising_between 1 rs c.args.self.next) rows
    ∙ rising_without 1 c.args.self.rows c.args.self.next c.in-Remove.number c.requires.rising
