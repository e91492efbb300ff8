use Rattle.std.proofs.Common.{◌≡◌, ◌∙◌, ◌↔◌, true, List, Bool, ap, subst}
use Rattle.spec_model.specs.Spec.{Spec}
use Rattle.spec_model.specs.declared.question.Asked.{Asked}
use Rattle.spec_model.specs.declared.relation.Relation.{Relation}
use Rattle.text_write.specs.Spacing.{Writing, start, writes_all}
use Rattle.text_write.proofs.Writings.{text_written}
use Rattle.forced_closure.specs.Forced.{HasLoop}
use Rattle.forced_write.specs.ForcedText.{forced_pieces}
use Rattle.forced_write.proofs.write.write_forced.Goals as goal

written_is : (w v : Writing) (relations others : List Relation) (loops : Bool) (pairs same : List Asked) → v ≡ start
    → relations ≡ others → pairs ≡ same
    → w ≡ writes_all v (forced_pieces relations loops pairs) → w ≡ writes_all start (forced_pieces others loops same)
written_is w v relations others loops pairs same e f g is =
    is ∙ ap (λ (u : Writing). writes_all u (forced_pieces relations loops pairs)) e
    ∙ ap (λ (rs : List Relation). writes_all start (forced_pieces rs loops pairs)) f
    ∙ ap (λ (ps : List Asked). writes_all start (forced_pieces others loops ps)) g

pub returns : goal.returns
returns c =
    let s = c.args.spec.now in
    let pairs = c.in_ok-pairs.pairs in
    let loops = c.loops.result in
    let written = written_is c.write_pairs.new.into c.new-into.result c.relations.result.now s.relations loops
    c.as_slice.result.now pairs c.new-into.ensures
    c.relations.ensures.value c.as_slice.ensures c.in_ok-write_pairs.ensures in
    record {
      pairs = pairs;
      loops = loops;
      exact = λ p. (c.in_ok-pairs.ensures.pairs.each p, c.in_ok-pairs.ensures.pairs.all p);
      ascend = c.in_ok-pairs.ensures.pairs.ascend;
      loops_are = subst (λ (t : Spec). (loops ≡ true) ↔ HasLoop t) c.requires c.loops.ensures;
      text_is = c.into_text.ensures ∙ ap (λ (w : Writing). w.text) written ∙ text_written (forced_pieces s.relations loops pairs);
    }
