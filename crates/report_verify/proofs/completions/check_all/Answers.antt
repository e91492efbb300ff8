use Rattle.std.proofs.Common.{◌≡◌, ◌<◌, ◌≤◌, ℕ, ◌+◌, List, [], ◌∷◌, ◌++◌, All, take, length, get_or, sym, subst}
use Rattle.std.proofs.lemmas.List.{take_more, take_all}
use Rattle.std.proofs.lemmas.List.Elements.{All-push}
use Rattle.spec_model.specs.Completion.{Rankings}
use Rattle.spec_model.specs.Consistent.{IsConsistent}
use Rattle.spec_model.specs.Spec.{Spec}
use Rattle.report_verify.proofs.completions.check_all.Goals as goal

-- one more completion that is consistent
one_more : (s : Spec) (cs : List Rankings) (i : ℕ) (c : Rankings) → i < length cs → c ≡ get_or cs i c
    → All (IsConsistent s) (take i cs) → IsConsistent s c → All (IsConsistent s) (take (i + 1) cs)
one_more s cs i c below is all consistent =
    let longer : take (i + 1) cs ≡ take i cs ++ c ∷ [] = subst (λ (x : Rankings). take (i + 1) cs ≡ take i cs ++ x
    ∷ []) (sym is) (take_more cs i c below) in
    subst (All (IsConsistent s)) (sym longer) (All-push (IsConsistent s) (take i cs) c all consistent)

pub loop-place-preserved : goal.loop-place-preserved
loop-place-preserved c =
    let below : c.loop-place.place < length c.args.completions.now = rw (← c.as_slice-completion-items.ensures)
    c.loop-place-test.true in
    let here : c.completion-item.result ≡ get_or c.args.completions.now c.loop-place.place c.completion-item.result =
    rw (← c.as_slice-completion-items.ensures) c.completion-item.is in
    record {
      consistent = one_more c.args.spec.now c.args.completions.now c.loop-place.place c.completion-item.result below here
          c.loop-place.invariant.consistent c.in_default.ensures.consistent;
      room = c.in_default.ensures.room_stays;
    }

pub returns-clause-consistent : goal.returns-clause-consistent
returns-clause-consistent c =
    let past : length c.args.completions.now ≤ c.loop-place.place = rw (← c.as_slice-completion-items.ensures)
    c.loop-place-test.false in
    subst (All (IsConsistent c.args.spec.now)) (take_all c.loop-place.place c.args.completions.now past)
    c.loop-place.invariant.consistent
