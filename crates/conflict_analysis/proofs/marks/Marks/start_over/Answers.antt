use Rattle.std.proofs.Common.{◌≡◌, ◌∙◌, replicate, length, ap, vec_len, false, sym, rules, arith}
use Rattle.std.proofs.lemmas.List.{length-map}
use Rattle.conflict_analysis.proofs.Rounds.{none_met}
use Rattle.conflict_analysis.proofs.marks.Marks.start_over.Goals as goal

pub returns : goal.returns
returns c =
    let inside = c.self.inside in
    let rounds : c.fill.new.self.items ≡ replicate (vec_len inside.rounds) 0 = search rules in
    let long : vec_len inside.rounds ≡ length inside.rounds.items = omega (arith, inside.rounds.ok.0) in
    rw rounds (none_met (vec_len inside.rounds) ∙ ap (λ n. replicate n false)
    (long ∙ sym (length-map inside.rounds.items _)) ∙ ap (λ bs. replicate (length bs) false) c.self.view_is)
