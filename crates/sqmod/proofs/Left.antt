-- The rest of texts after one piece after the other is passed over.
use Rattle.std.proofs.Common.{◌≡◌, ◌∙◌, ℕ, zero, suc, List, [], ◌∷◌, ◌++◌, ap, refl, slice_set, sym, subst, get_or, Vec}
use Rattle.std.specs.declared.alloc.Global.{Global}
use Rattle.sq_advice.specs.Passed.{IsLeft, all_passed, passed}
use Rattle.sq_advice.specs.declared.passed.Piece.{Piece}
use Rattle.sq_meaning.specs.Report.{Bytes}
use Rattle.sq_perform.specs.Checked.{AreCheckedTexts}
use Rattle.sq_perform.specs.Texts.{texts}
use Rattle.sq_perform.specs.declared.checked.Checked.{Checked}
use Rattle.sqmod.specs.Judged.{AreLeft, AreSourcesLeft, IsJudged}
use Rattle.sqmod.specs.declared.judged.Judged.{Judged}
use Rattle.sqmod.specs.declared.texts.Sources.{Sources}

-- pieces, and then others
passed_both : (text : List ℕ) (ps qs : List Piece) → all_passed text (ps ++ qs) ≡ all_passed (all_passed text ps) qs
passed_both text [] qs = refl
passed_both text (p ∷ ps) qs = passed_both (passed text p) ps qs

left_self : (text : List ℕ) → IsLeft text text
left_self text = record { pieces = []; is = refl }

left_further : (text left further : List ℕ) → IsLeft text left → IsLeft left further → IsLeft text further
left_further text left further h k =
    record {
      pieces = h.pieces ++ k.pieces;
      is = k.is ∙ ap (λ t. all_passed t k.pieces) h.is ∙ sym (passed_both text h.pieces k.pieces);
    }

pub are_left_self : (all : List Bytes) → AreLeft all all
are_left_self [] = tt
are_left_self (text ∷ all) = (left_self text, are_left_self all)

are_left_copy : (all copy : List Bytes) → copy ≡ all → AreLeft all copy
are_left_copy all copy e = subst (AreLeft all) (sym e) (are_left_self all)

pub sources_copied : (sources copy : Sources) → texts copy.schemas.items ≡ texts sources.schemas.items → texts copy.modules.items ≡ texts sources.modules.items → AreSourcesLeft sources copy
sources_copied sources copy s m =
    record {
      schemas = are_left_copy (texts sources.schemas.items) (texts copy.schemas.items) s;
      modules = are_left_copy (texts sources.modules.items) (texts copy.modules.items) m;
    }

-- more is passed over of one of the texts
pub are_left_set : (before : List Bytes) (all : List (Vec ℕ Global)) (index : ℕ) (old left : Vec ℕ Global) → old ≡ get_or all index old → IsLeft old.items left.items → AreLeft before (texts all)
    → AreLeft before (texts (slice_set all index left))
are_left_set [] [] index old left e h are = tt
are_left_set [] (v ∷ all) index old left e h are = absurd are
are_left_set (t ∷ before) [] index old left e h are = absurd are
are_left_set (t ∷ before) (v ∷ all) zero old left e h are = (left_further t v.items left.items are.0 (subst (λ (o : Vec ℕ Global). IsLeft o.items left.items) e h), are.1)
are_left_set (t ∷ before) (v ∷ all) (suc index) old left e h are = (are.0, are_left_set before all index old left e h are.1)

pub is_judged : (sources : Sources) (judged : Judged) → AreSourcesLeft sources judged.left → AreCheckedTexts (texts judged.left.schemas.items) (texts judged.left.modules.items) judged.checked → IsJudged sources judged
is_judged sources judged l c = record { left = l; checked = c }
