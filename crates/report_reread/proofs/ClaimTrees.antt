-- The claim of a verdict that can be written says the verdict.
use Rattle.std.proofs.Common.{◌≡◌, ℕ, List, [], ◌∷◌, map, Ok, All, refl, ap}
use Rattle.std.proofs.lemmas.List.Elements.{All-head, All-tail}
use Rattle.currency_base.specs.declared.value.Value.{Value}
use Rattle.currency_report.specs.Claimed.{currents_said, claim_said}
use Rattle.report_model.specs.declared.verdict.Current.{Current}
use Rattle.report_model.specs.declared.verdict.Verdict.{Verdict}
use Rattle.report_model.specs.declared.verdict.Verdict.TheVariants.{Inconsistent, Consistent, Certain, NotCertain, Same, NotSame, Answers, Undecided}
use Rattle.report_reread.specs.Trees.{current_tree, claim_tree}
use Rattle.report_syntax.specs.declared.tree.AnswerTree.{AnswerTree}
use Rattle.report_model.specs.Writable.{IsItemOf, IsWritableVerdict}
use Rattle.spec_model.specs.Facts.{AreRelations}
use Rattle.spec_model.specs.declared.relation.Relation.{Relation}
use Rattle.report_reread.proofs.Found.{attr_found, entity_found, place_found, row_found}

-- the items of `same`
currents_of : (relations : List Relation) (items : List Current) → AreRelations relations → All (IsItemOf relations) items
    → currents_said relations (map (current_tree relations) items) ≡ Ok items
currents_of relations [] are of = refl
currents_of relations (item ∷ items) are of =
    let first = All-head (IsItemOf relations) item items of in
    let rest = currents_of relations items are (All-tail (IsItemOf relations) item items of) in
    rw (entity_found relations item.rel.0 item.ent.0 first.relation are first.is_relation first.ent, rest) refl

-- the answers
answers_of : (tuples : List (List Value)) → map (λ (t : AnswerTree). t.values)
    (map (λ tuple. record { line = 0; values = tuple }) tuples) ≡ tuples
answers_of [] = refl
answers_of (tuple ∷ tuples) = ap (λ more. tuple ∷ more) (answers_of tuples)

pub claim_of : (relations : List Relation) (line : ℕ) (v : Verdict) → AreRelations relations → IsWritableVerdict relations v
    → claim_said relations line (claim_tree relations v) ≡ Ok v
claim_of relations line Inconsistent are of = refl
claim_of relations line Consistent are of = refl
claim_of relations line Certain are of = refl
claim_of relations line (NotCertain p) are of =
    rw (
      attr_found relations p.rel.0 p.pair.attr.0 of.relation are of.is_relation of.attr,
      row_found relations p.rel.0 p.pair.earlier of.relation are of.is_relation of.earlier,
      row_found relations p.rel.0 p.pair.later of.relation are of.is_relation of.later,
    ) refl
claim_of relations line (Same items) are of = rw (currents_of relations items are of.each) refl
claim_of relations line (NotSame rel attr ent) are of =
    rw (place_found relations rel.0 attr.0 ent.0 of.relation are of.is_relation of.in_attrs of.in_entities) refl
claim_of relations line (Answers tuples) are of = ap (λ said. Ok (Answers said)) (answers_of tuples)
claim_of relations line (Undecided counted) are of = refl
