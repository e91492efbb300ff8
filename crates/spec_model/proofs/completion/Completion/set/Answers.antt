use Rattle.std.proofs.Common.{◌≡◌, ℕ, List, [], ◌∷◌, Some, slice_get, slice_index_or, slice_set, refl, ap, zero, suc}
use Rattle.std.proofs.lemmas.Option.{get_or_from_slice_get}
use Rattle.spec_model.proofs.completion.Completion.set.Goals as goal

-- of two writes at one place the second stays
set_twice : {A : Type 0} (xs : List A) (i : ℕ) (a b : A) → slice_set (slice_set xs i a) i b ≡ slice_set xs i b
set_twice [] i a b = refl
set_twice (x ∷ xs) zero a b = refl
set_twice (x ∷ xs) (suc i) a b = ap (λ ys. x ∷ ys) (set_twice xs i a b)

-- taking the inner lists out, writing, and putting them back is a write in place
written : {A : Type 0} (c c1 c2 : List (List (List A))) (rel attr ent : ℕ) (row : A)
    (attrs attrs1 attrs2 no_attrs : List (List A)) (entities entities1 no_entities : List A)
    → slice_get c rel ≡ Some attrs → c1 ≡ slice_set c rel no_attrs
    → slice_get attrs attr ≡ Some entities → attrs1 ≡ slice_set attrs attr no_entities
    → entities1 ≡ slice_set entities ent row → attrs2 ≡ slice_set attrs1 attr entities1 → c2 ≡ slice_set c1 rel attrs2
    → c2 ≡ slice_set c rel (slice_set (slice_index_or c rel []) attr
    (slice_set (slice_index_or (slice_index_or c rel []) attr []) ent row))
written c c1 c2 rel attr ent row attrs attrs1 attrs2 no_attrs entities entities1 no_entities at_rel taken at_attr
    taken_too put put_back put_all_back =
    let found = get_or_from_slice_get c rel attrs [] at_rel in
    let found_too = get_or_from_slice_get attrs attr entities [] at_attr in
    let twice = set_twice c rel no_attrs attrs2 in
    let twice_too = set_twice attrs attr no_entities entities1 in
    cc

pub returns : goal.returns
returns c =
    let attrs = c.replace-attrs.ensures in
    let entities = c.replace-entities.ensures in
    written c.args.self.now c.replace-attrs.new.self c.replace-3.new.self c.args.rel.0 c.args.attr.0 c.args.ent.0 c.args.rows
    c.replace-attrs.result c.replace-entities.new.self c.replace-2.new.self c.new.result c.replace-entities.result
    c.replace.new.self c.new-2.result
    (rw c.self.view_is at attrs.old) (rw c.self.view_is at attrs.new) entities.old entities.new c.replace.ensures.new
    c.replace-2.ensures.new c.replace-3.ensures.new
