use Rattle.std.proofs.Common.{◌<◌, ◌∙◌, ℕ, length, ap, subst, sym, arith}
use Rattle.std.proofs.lemmas.Option.{IfSome_then, slice_get_within}
use Rattle.entity_rows.specs.Members.{AreEntityRows}
use Rattle.spec_model.specs.Facts.{IsRelation}
use Rattle.completion_check.specs.Room.{HasPlaces}
use Rattle.completion_check.proofs.CopyReads.{target_within, source_within, list_at, are_read, places_between, copied_between, breaks_first, none_breaks, IfNone_then}
use Rattle.completion_check.proofs.Kept.{all_at}
use Rattle.completion_check.proofs.copies.broken_copy.Goals as goal

pub bounds-relations-target : goal.bounds-relations-target
bounds-relations-target c =
    target_within c.args.relations.now c.args.copy.now c.target-target.result.0 c.requires.copy (ap (λ x. x.0)
    c.target-target.ensures)

pub bounds-relations-source : goal.bounds-relations-source
bounds-relations-source c =
    source_within c.args.relations.now c.args.copy.now c.source-source.result.0 c.requires.copy (ap (λ x. x.0)
    c.source-source.ensures)

pub bounds-places-target : goal.bounds-places-target
bounds-places-target c =
    subst (λ (n : ℕ). c.target-target.result.0 < n) (sym c.requires.places.per_relation)
    (target_within c.args.relations.now c.args.copy.now c.target-target.result.0 c.requires.copy (ap (λ x. x.0)
    c.target-target.ensures))

pub bounds-places-source : goal.bounds-places-source
bounds-places-source c =
    subst (λ (n : ℕ). c.source-source.result.0 < n) (sym c.requires.places.per_relation)
    (source_within c.args.relations.now c.args.copy.now c.source-source.result.0 c.requires.copy (ap (λ x. x.0)
    c.source-source.ensures))

pub bounds-members-target : goal.bounds-members-target
bounds-members-target c =
    subst (λ (n : ℕ). c.target-target.result.0 < n) (sym c.requires.members.per_relation)
    (target_within c.args.relations.now c.args.copy.now c.target-target.result.0 c.requires.copy (ap (λ x. x.0)
    c.target-target.ensures))

pub broken_between-requires-clause-places : goal.broken_between-requires-clause-places
broken_between-requires-clause-places c =
    let target = c.index-relations-target.result in
    let source = c.index-relations-source.result in
    let are =
    are_read c.args.relations.now c.args.places.now c.args.copy.now c.target-target.result.0 c.source-source.result.0 target
    source c.index-places-target.result c.index-places-source.result
    c.requires.copy c.requires.places.per_relation (ap (λ x. x.0) c.target-target.ensures) (ap (λ x. x.0) c.source-source.ensures)
    c.index-relations-target.is c.index-relations-source.is c.index-places-target.is c.index-places-source.is in
    places_between c.args.relations.now c.args.places.now c.args.copy.now target source c.index-places-target.result
    c.index-places-source.result c.requires.copy are

pub broken_between-requires-clause-copied : goal.broken_between-requires-clause-copied
broken_between-requires-clause-copied c =
    let target = c.index-relations-target.result in
    let source = c.index-relations-source.result in
    let are =
    are_read c.args.relations.now c.args.places.now c.args.copy.now c.target-target.result.0 c.source-source.result.0 target
    source c.index-places-target.result c.index-places-source.result
    c.requires.copy c.requires.places.per_relation (ap (λ x. x.0) c.target-target.ensures) (ap (λ x. x.0) c.source-source.ensures)
    c.index-relations-target.is c.index-relations-source.is c.index-places-target.is c.index-places-source.is in
    copied_between c.args.relations.now c.args.places.now c.args.copy.now target source c.index-places-target.result
    c.index-places-source.result c.requires.copy are

pub broken_between-requires-clause-target : goal.broken_between-requires-clause-target
broken_between-requires-clause-target c =
    let target = c.index-relations-target.result in
    let source = c.index-relations-source.result in
    let are =
    are_read c.args.relations.now c.args.places.now c.args.copy.now c.target-target.result.0 c.source-source.result.0 target
    source c.index-places-target.result c.index-places-source.result
    c.requires.copy c.requires.places.per_relation (ap (λ x. x.0) c.target-target.ensures) (ap (λ x. x.0) c.source-source.ensures)
    c.index-relations-target.is c.index-relations-source.is c.index-places-target.is c.index-places-source.is in
    all_at IsRelation c.args.relations.now c.args.copy.now.target.0 target c.requires.relations.each are.is_target

pub broken_between-requires-clause-target_places : goal.broken_between-requires-clause-target_places
broken_between-requires-clause-target_places c =
    let target = c.index-relations-target.result in
    let source = c.index-relations-source.result in
    let are =
    are_read c.args.relations.now c.args.places.now c.args.copy.now c.target-target.result.0 c.source-source.result.0
    target source c.index-places-target.result c.index-places-source.result
    c.requires.copy c.requires.places.per_relation (ap (λ x. x.0) c.target-target.ensures) (ap (λ x. x.0) c.source-source.ensures)
    c.index-relations-target.is c.index-relations-source.is c.index-places-target.is c.index-places-source.is in
    subst (HasPlaces target) (sym are.in_target) (c.requires.places.each c.args.copy.now.target.0 target are.is_target)

pub broken_between-requires-clause-source_places : goal.broken_between-requires-clause-source_places
broken_between-requires-clause-source_places c =
    let target = c.index-relations-target.result in
    let source = c.index-relations-source.result in
    let are =
    are_read c.args.relations.now c.args.places.now c.args.copy.now c.target-target.result.0 c.source-source.result.0
    target source c.index-places-target.result c.index-places-source.result
    c.requires.copy c.requires.places.per_relation (ap (λ x. x.0) c.target-target.ensures) (ap (λ x. x.0) c.source-source.ensures)
    c.index-relations-target.is c.index-relations-source.is c.index-places-target.is c.index-places-source.is in
    subst (HasPlaces source) (sym are.in_source) (c.requires.places.each c.args.copy.now.source.0 source are.is_source)

pub broken_between-requires-clause-members : goal.broken_between-requires-clause-members
broken_between-requires-clause-members c =
    let rel = c.args.copy.now.target.0 in
    let target = c.index-relations-target.result in
    let source = c.index-relations-source.result in
    let are =
    are_read c.args.relations.now c.args.places.now c.args.copy.now c.target-target.result.0 c.source-source.result.0
    target source c.index-places-target.result c.index-places-source.result
    c.requires.copy c.requires.places.per_relation (ap (λ x. x.0) c.target-target.ensures) (ap (λ x. x.0) c.source-source.ensures)
    c.index-relations-target.is c.index-relations-source.is c.index-places-target.is c.index-places-source.is in
    let room : rel < length c.args.members.now = omega (
      arith,
      c.requires.members.per_relation,
      slice_get_within
          c.args.relations.now rel target are.is_target,
    ) in
    let own = c.as_slice-own.ensures ∙ list_at c.args.members.now rel c.target-target.result.0
    c.index-members-target.result (ap (λ x. x.0) c.target-target.ensures) room c.index-members-target.is in
    subst (AreEntityRows target.rows (length target.entities)) (sym own) (c.requires.members.each rel target are.is_target)

pub returns-clause-none : goal.returns-clause-none
returns-clause-none c =
    let target = c.index-relations-target.result in
    let source = c.index-relations-source.result in
    let are =
    are_read c.args.relations.now c.args.places.now c.args.copy.now c.target-target.result.0 c.source-source.result.0
    target source c.index-places-target.result c.index-places-source.result
    c.requires.copy c.requires.places.per_relation (ap (λ x. x.0) c.target-target.ensures) (ap (λ x. x.0) c.source-source.ensures)
    c.index-relations-target.is c.index-relations-source.is c.index-places-target.is c.index-places-source.is in
    IfNone_then c.broken_between.result
    (none_breaks c.args.relations.now c.args.places.now c.args.copy.now target source c.index-places-target.result
    c.index-places-source.result are) c.broken_between.ensures.none

pub returns-clause-some : goal.returns-clause-some
returns-clause-some c =
    let target = c.index-relations-target.result in
    let source = c.index-relations-source.result in
    let are =
    are_read c.args.relations.now c.args.places.now c.args.copy.now c.target-target.result.0 c.source-source.result.0
    target source c.index-places-target.result c.index-places-source.result
    c.requires.copy c.requires.places.per_relation (ap (λ x. x.0) c.target-target.ensures) (ap (λ x. x.0) c.source-source.ensures)
    c.index-relations-target.is c.index-relations-source.is c.index-places-target.is c.index-places-source.is in
    IfSome_then c.broken_between.result c.broken_between.ensures.some
    (λ b found. breaks_first c.args.relations.now c.args.places.now c.args.copy.now target source
    c.index-places-target.result c.index-places-source.result b.place b.first b.second are found)
