-- A consistent completion of a part, and one of the rest or of the whole, make a consistent one of the whole.
use Rattle.part_laws.specs.Laws.{PartsJoin, RestsJoin}
use Rattle.part_laws.proofs.Cuts.{Parted, IsParted}
use Rattle.part_laws.proofs.Scoped.{beyond, completion_of_both, consistent_of_both}
use Rattle.part_laws.proofs.FromPart.{ranked_from_part, kept_from_part}
use Rattle.part_laws.proofs.Beyond.{Both, AreBoth, ranked_beyond, kept_beyond}

pub parts_join : PartsJoin
parts_join s scope n part c other narrow whole_is of shape narrowed same in_part consistent =
    let p : Parted = record { s = s; scope = scope; n = n; part = part; c = c; narrow = narrow } in
    let is : IsParted p = record { whole_is = whole_is; of = of; shape = in_part.completion.shape; narrowed = narrowed } in
    let completion = completion_of_both s.relations scope c shape (ranked_from_part p is in_part.completion)
    (ranked_beyond s.relations scope c other same consistent.completion) in
    let b : Both = record { s = s; scope = scope; c = c; other = other } in
    let both : AreBoth b =
    record { whole_is = whole_is; closed = of.closed; completion = completion; other_is = consistent.completion; same = same } in
    consistent_of_both s scope c whole_is completion (kept_from_part p is completion in_part)
    (kept_beyond b both consistent)

pub rests_join : RestsJoin
rests_join s scope n rest_n part rest c narrow rest_narrow whole_is of rest_of shape narrowed rest_narrowed in_part in_rest =
    let p : Parted = record { s = s; scope = scope; n = n; part = part; c = c; narrow = narrow } in
    let q : Parted = record { s = s; scope = beyond scope; n = rest_n; part = rest; c = c; narrow = rest_narrow } in
    let is : IsParted p = record { whole_is = whole_is; of = of; shape = in_part.completion.shape; narrowed = narrowed } in
    let are : IsParted q = record {
      whole_is = whole_is;
      of = rest_of;
      shape = in_rest.completion.shape;
      narrowed =
          rest_narrowed;
    } in
    let completion = completion_of_both s.relations scope c shape (ranked_from_part p is in_part.completion)
    (ranked_from_part q are in_rest.completion) in
    consistent_of_both s scope c whole_is completion (kept_from_part p is completion in_part)
    (kept_from_part q are completion in_rest)
