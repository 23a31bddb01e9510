-- The WHERE clause of a query specification may stand on its lines, and its tests are noted as they are (ISO/IEC 9075:1992, 7.6).
use Rattle.std.proofs.Common.{◌≡◌, List, [], ◌∷◌, Option, false, subst}
use Rattle.sq_meaning.specs.Environment.{Row}
use Rattle.sq_meaning.specs.Placed.{by_place}
use Rattle.sq_meaning.specs.Status.{Outcome}
use Rattle.sq_meaning.specs.Sure.{IsSureOutcome}
use Rattle.sq_meaning.specs.WellFormed.{IsDeclaredAt, WellFormedClause, WellFormedSelect, kinds_by_place, of_lines}
use Rattle.sq_meaning.proofs.AnswerLaws.{all_weaker}
use Rattle.sq_value.specs.declared.domain.Kind.{Kind}
use Rattle.sq_bound.specs.Condition.{clause_of, cond_of, select_of}
use Rattle.sq_bound.specs.Noted.{AreNotedTests, HasNotes, IsNoted, IsNotedTest, SelectIsNoted, may_fail}
use Rattle.sq_bound.specs.WellFormed.{Levels, TableKinds}
use Rattle.sq_bound.specs.declared.condition.BoundCond.{BoundCond, out-BoundCond}
use Rattle.sq_bound.specs.declared.condition.BoundConj.{out-BoundConj}
use Rattle.sq_bound.specs.declared.condition.BoundSpecification.{BoundSpecification, out-BoundSpecification}
use Rattle.sq_bound.specs.declared.condition.TablePlace.{TablePlace}
use Rattle.sq_bound.proofs.ConditionLaws.{select_of-out}
use Rattle.sq_bound.proofs.Nested.{select_itself}
use Rattle.sq_query.specs.Items.{items_of}
use Rattle.sq_query.specs.Named.{AreTrusted, AreTrustedIn, IsTrusted, StandsOnLines}
use Rattle.sq_query.specs.Specification.{IsWhere}
use Rattle.sq_query.specs.Union.{AreFitting}
use Rattle.sq_query.specs.declared.named.Sure.TheVariants.{Noted}
use Rattle.sq_query.proofs.FoundByKey.ItemRows.{where_in}
use Rattle.sq_query.proofs.Keys.KeyTests.{if_some}

module _ (columns : TableKinds) (parameters : List Kind) (q : BoundSpecification) (around : Levels) where
  abbrev pub Stands : Type 0
  Stands = (now : TablePlace → Outcome (List Row)) → WellFormedSelect (by_place now) (kinds_by_place columns parameters) (IsDeclaredAt parameters) around (select_of q)

  pub where_well : Stands → (now : TablePlace → Outcome (List Row)) → WellFormedClause (by_place now) (kinds_by_place columns parameters) (IsDeclaredAt parameters) (of_lines (items_of q) ∷ around) (where_in q)
  where_well stands now = (subst (WellFormedSelect (by_place now) (kinds_by_place columns parameters) (IsDeclaredAt parameters) around) (select_of-out q) (stands now)).2

  module _ (condition : BoundCond) (is_where : IsWhere q condition) where
    pub where_on_lines : Stands → StandsOnLines columns parameters around (items_of q) (cond_of [] condition)
    where_on_lines stands f =
        subst (λ (c : Option BoundCond). WellFormedClause (by_place f) (kinds_by_place columns parameters) (IsDeclaredAt parameters) (of_lines (items_of q) ∷ around) (clause_of [] c)) is_where (where_well stands f)

    pub where_trusted : SelectIsNoted q → (now : TablePlace → Outcome (List Row)) → AreFitting columns now → ((t : TablePlace) → may_fail t ≡ false → IsSureOutcome (now t)) → AreTrustedIn Noted condition columns now
    where_trusted notes now fitting sure =
        all_weaker AreNotedTests (λ term. AreTrusted Noted (out-BoundConj term).tests columns now)
        (λ term noted. all_weaker IsNotedTest (λ test. IsTrusted Noted test columns now) (λ test h e. record { fitting = fitting; bases = sure; sure = h.sure e [] tt }) (out-BoundConj term).tests noted)
        (out-BoundCond condition).terms (if_some HasNotes (out-BoundSpecification q).condition condition (select_itself IsNoted q notes).tests is_where)
