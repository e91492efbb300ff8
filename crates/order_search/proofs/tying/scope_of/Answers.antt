use Rattle.std.proofs.Common.{◌≡◌, ◌++◌, ◌∷◌, ◌∙◌, [], Contains, List, ℕ, Some, get_or, length, take, slice_get, ap, arith, subst, sym}
use Rattle.std.proofs.lemmas.List.{append-nil, append_assoc, take_all, take_more}
use Rattle.std.proofs.lemmas.List.Elements.{Contains-get_or}
use Rattle.std.proofs.lemmas.Option.{slice_get_within}
use Rattle.entity_ties.specs.Parts.{list_at}
use Rattle.search_trail.specs.Trails.{IsScope}
use Rattle.order_search.specs.Kept.{vars_of}
use Rattle.order_search.proofs.PartNumbers.{list_is, part_scope}
use Rattle.order_search.proofs.TiedSteps.{scope_push}
use Rattle.order_search.proofs.tying.scope_of.Goals as goal

pub loop-member-init : goal.loop-member-init
loop-member-init c =
    let s = c.args.subject.now in
    let g = c.args.parting.now in
    let same : c.extend_from_slice.new.self.items ≡ list_at g.parts.parts c.args.part =
    c.in-Ok.ensures.items ∙ ap (λ (xs : List ℕ). xs ++ c.vars.result.now) c.new-vars.ensures.items
    ∙ list_is g.parts.parts c.args.part c.vars.result.now c.vars.ensures in
    record {
      items = same ∙ sym (append-nil (list_at g.parts.parts c.args.part));
      scope = subst (IsScope (length (vars_of s))) (sym (same ∙ sym (list_is g.parts.parts c.args.part c.vars.result.now c.vars.ensures)))
          (part_scope s g.parts c.args.part c.vars.result.now c.requires.parting.parts c.vars.ensures);
    }

pub loop-member-preserved : goal.loop-member-preserved
loop-member-preserved c =
    let s = c.args.subject.now in
    let g = c.args.parting.now in
    let members = c.as_slice-member-items.result.now in
    let at = c.loop-member.member-index in
    let one = get_or members at 0 in
    let part = c.args.part in
    let is_member : Contains (list_at g.members part) one =
    subst (λ (xs : List ℕ). Contains xs one) (c.as_slice-member-items.ensures ∙ list_is g.members part c.get.result.now c.get.ensures)
    (Contains-get_or members at 0 c.loop-member-test.true) in
    let m = c.requires.members.each part one is_member in
    record {
      items = c.in-Ok-push.ensures.items ∙ ap (λ (xs : List ℕ). xs ++ one ∷ []) c.loop-member.invariant.items
          ∙ append_assoc (list_at g.parts.parts part) (take at members) (one ∷ [])
          ∙ ap (λ (xs : List ℕ). list_at g.parts.parts part ++ xs) (sym (take_more members at 0 c.loop-member-test.true));
      scope = subst (IsScope (length (vars_of s))) (sym c.in-Ok-push.ensures.items)
          (scope_push (length (vars_of s)) c.loop-member.vars.items one c.loop-member.invariant.scope
          (λ place low is.
          c.is_behind.ensures c.if-not-is_behind.false place low
          (subst (λ (xs : List ℕ). slice_get xs place ≡ Some low) (sym c.as_slice.ensures.value) is))
          (slice_get_within (vars_of s) one _ m.says));
    }

pub returns-clause-scope : goal.returns-clause-scope
returns-clause-scope c =
    let g = c.args.parting.now in
    let members = c.as_slice-member-items.result.now in
    let at = c.loop-member.member-index in
    c.loop-member.invariant.items
    ∙ ap (λ (xs : List ℕ). list_at g.parts.parts c.args.part ++ xs) (take_all at members (omega (arith, c.loop-member-test.false))
    ∙ c.as_slice-member-items.ensures ∙ list_is g.members c.args.part c.get.result.now c.get.ensures)
