-- The part that has all entities has the consistent completions that the specification has.
use Rattle.std.proofs.lemmas.Bool.{false≢true}
use Rattle.part_laws.specs.Laws.{PartsNarrow}
use Rattle.part_laws.specs.Parts.{Places, IsPartOf}
use Rattle.part_laws.proofs.Cuts.{Parted, IsParted}
use Rattle.part_laws.proofs.FromPart.{ranked_from_part, kept_from_part}
use Rattle.part_laws.proofs.Scoped.{beyond, IsKeptIn, completion_of_both, consistent_of_both}
use Rattle.spec_model.specs.Completion.{Rankings}
use Rattle.spec_model.specs.Consistent.{IsConsistent}
use Rattle.spec_model.specs.Facts.{IsSpecification}
use Rattle.spec_model.specs.Spec.{Spec}
use Rattle.part_whole.specs.Laws.{WholeParts}
use Rattle.part_whole.proofs.WholePlaces.{everything}
use Rattle.part_whole.proofs.WholeCompletions.{shape_of_part, shape_of_whole, narrowed_from_whole, narrowed_from_part}

-- beyond all entities there is none
none_beyond : (s : Spec) (c : Rankings) → IsKeptIn s (beyond everything) c
none_beyond s c = record {
  given = λ rel r at p among ent of scoped. absurd (false≢true scoped);
  rules = λ at rule is_rule r at_r rows choice scoped. absurd (false≢true scoped);
  copies = λ at copy is_copy t u is_t is_u place_at place is_place first second rows scoped. absurd (false≢true scoped);
}

to_whole : (s : Spec) (n : Places) (part : Spec) (c : Rankings) → IsSpecification s → IsPartOf s everything n part
    → IsConsistent part c → IsConsistent s c
to_whole s n part c whole_is is consistent =
    let p : Parted = record { s = s; scope = everything; n = n; part = part; c = c; narrow = c } in
    let parted : IsParted p = record {
      whole_is = whole_is;
      of = is;
      shape = consistent.completion.shape;
      narrowed = narrowed_from_part s n part is c consistent.completion;
    } in
    let completion = completion_of_both s.relations everything c (shape_of_whole s n part is c consistent.completion.shape)
    (ranked_from_part p parted consistent.completion)
    (λ rel r at attr ent inside below scoped. absurd (false≢true scoped)) in
    consistent_of_both s everything c whole_is completion (kept_from_part p parted completion consistent) (none_beyond s c)

pub whole_parts : PartsNarrow → WholeParts
whole_parts narrowing s n part whole_is is c = (
  to_whole s n part c whole_is is,
  (λ consistent. narrowing s everything n part c c whole_is is (shape_of_part s n part is c consistent.completion.shape)
      (narrowed_from_whole s n part is c consistent.completion) consistent),
)
