use Rattle.std.proofs.Common.{◌≡◌, ◌<◌, ℕ, false, get_or, take, vec_len}
use Rattle.report_verify.proofs.items.asked_marks.Given as goal
use Rattle.report_verify.specs.Shaped.{is_asked}

abbrev pub invariant-loop-rel : goal.invariant-loop-rel
invariant-loop-rel l = record {
  len : vec_len l.marks ≡ l.fn.relations;
  marks : (n : ℕ) → n < l.fn.relations → get_or l.marks.items n false ≡ is_asked (take l.rel-index l.rels) n;
}
