use Rattle.std.proofs.Common.{◌∷◌, [], ◌++◌, ◌∙◌, ap}
use Rattle.answer_candidates.specs.Candidates.{Standing}
use Rattle.answer_candidates.proofs.Noting.{candidates_as, candidates_more, marks_as, noted_gone, on_ok_holds, stays_gone}
use Rattle.answer_candidates.proofs.candidates.Candidates.note.Goals as goal
use Rattle.answer_candidates.proofs.candidates.Candidates.note.Goals.{in-Ok-push, in-Err-push}

pub returns-then-not-more-clause-noted : goal.returns-then-not-more-clause-noted
returns-then-not-more-clause-noted c = λ place tuple at never.
    let old = c.args.self.now in
    let tuples = c.as_slice.ensures ∙ ap (λ (s : Standing). s.tuples) c.self.view_is in
    let gone = c.as_slice-2.ensures.value ∙ ap (λ (s : Standing). s.gone) c.self.view_is in
    let marks = marks_as c.args.indexed.now _ old.tuples _ old.gone c.in-Ok.field-0.gone.items c.in-Ok.field-0.more
    tuples gone c.in-Ok.ensures in
    noted_gone c.args.indexed.now old.tuples old.gone c.in-Ok.field-0.gone.items c.in-Ok.field-0.more marks
    c.requires place tuple at never

pub returns-after-push-clause-held : goal.returns-after-push-clause-held
returns-after-push-clause-held c = λ s query are is over.
    let old = c.args.self.now in
    let tuples = c.as_slice.ensures ∙ ap (λ (s : Standing). s.tuples) c.self.view_is in
    let gone = c.as_slice-2.ensures.value ∙ ap (λ (s : Standing). s.gone) c.self.view_is in
    let marks = marks_as c.args.indexed.now _ old.tuples _ old.gone c.in-Ok.field-0.gone.items c.in-Ok.field-0.more
    tuples gone c.in-Ok.ensures in
    let more = candidates_more c.instances_exist.ensures.one s query old c.args.completion c.args.indexed.now are is
    over c.in-Ok.field-0.gone.items
    c.in-Ok.field-0.more marks c.if-not-more.false in
    elim c.match-push.branch [
      | in-Ok-push w ↦ rw w.result-is (candidates_as s query c.self.inside.tuples old.tuples c.push.new.self
          (old.completions ++ c.args.completion ∷ [])
          c.in-Ok.field-0.gone.items (ap (λ (s : Standing). s.tuples) c.self.view_is)
          (w.in-Ok-push.ensures.ok ∙ ap (λ (s : Standing). s.completions ++ c.args.completion ∷ []) c.self.view_is) more)
      | in-Err-push w ↦ rw w.result-is tt
    ]

pub returns-after-push-clause-noted : goal.returns-after-push-clause-noted
returns-after-push-clause-noted c = λ place tuple at never.
    let old = c.args.self.now in
    let tuples = c.as_slice.ensures ∙ ap (λ (s : Standing). s.tuples) c.self.view_is in
    let gone = c.as_slice-2.ensures.value ∙ ap (λ (s : Standing). s.gone) c.self.view_is in
    let marks = marks_as c.args.indexed.now _ old.tuples _ old.gone c.in-Ok.field-0.gone.items c.in-Ok.field-0.more
    tuples gone c.in-Ok.ensures in
    on_ok_holds c.match-push.result
    (noted_gone c.args.indexed.now old.tuples old.gone c.in-Ok.field-0.gone.items c.in-Ok.field-0.more marks
    c.requires place tuple at never)

pub returns-then-not-more-clause-stays : goal.returns-then-not-more-clause-stays
returns-then-not-more-clause-stays c = λ place at.
    let old = c.args.self.now in
    let tuples = c.as_slice.ensures ∙ ap (λ (s : Standing). s.tuples) c.self.view_is in
    let gone = c.as_slice-2.ensures.value ∙ ap (λ (s : Standing). s.gone) c.self.view_is in
    let marks = marks_as c.args.indexed.now _ old.tuples _ old.gone c.in-Ok.field-0.gone.items c.in-Ok.field-0.more
    tuples gone c.in-Ok.ensures in
    stays_gone c.args.indexed.now old.tuples old.gone c.in-Ok.field-0.gone.items c.in-Ok.field-0.more marks c.requires place at

pub returns-after-push-clause-stays : goal.returns-after-push-clause-stays
returns-after-push-clause-stays c = λ place at.
    let old = c.args.self.now in
    let tuples = c.as_slice.ensures ∙ ap (λ (s : Standing). s.tuples) c.self.view_is in
    let gone = c.as_slice-2.ensures.value ∙ ap (λ (s : Standing). s.gone) c.self.view_is in
    let marks = marks_as c.args.indexed.now _ old.tuples _ old.gone c.in-Ok.field-0.gone.items c.in-Ok.field-0.more
    tuples gone c.in-Ok.ensures in
    on_ok_holds c.match-push.result
    (stays_gone c.args.indexed.now old.tuples old.gone c.in-Ok.field-0.gone.items c.in-Ok.field-0.more marks c.requires place at)
