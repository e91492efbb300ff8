-- Variables that are of no part take other truths, and what is right on each part stays so.
use Rattle.std.proofs.Common.{◌≡◌, ◌∙◌, ℕ, Bool, List, All, Contains, Option, length, slice_get, slice_set, subst}
use Rattle.std.proofs.lemmas.List.Elements.{All-contains}
use Rattle.spec_model.specs.Completion.{Rankings, ranking_of}
use Rattle.known_models.specs.Changes.{IsBeside, Takes}
use Rattle.known_models.specs.Known.{IsKnown, IsParted, KnownModel, PartedSpec, numbers_in, vars_in}
use Rattle.known_models.proofs.Putting.{get_other}
use Rattle.known_models.proofs.Replacing.{still_ordered, still_true}

-- the model with other truths
abbrev pub with_truths : KnownModel → List Bool → KnownModel
with_truths k truths = record { truths = truths; completion = k.completion; done = k.done }

pub known_beside : (p : PartedSpec) → IsParted (numbers_in p) p → (k : KnownModel) → IsKnown p k → (truths : List Bool)
    → length truths ≡ length k.truths
    → ((part var : ℕ) → Contains (vars_in p part) var → slice_get truths var ≡ slice_get k.truths var)
    → IsKnown p (with_truths k truths)
known_beside p parted k known truths many same = record {
  per_variable = many ∙ known.per_variable;
  shape = known.shape;
  per_part = known.per_part;
  each = λ part is.
      let right = known.each part is in
      record {
        axioms = λ lits at. still_true p parted part k.truths truths (same part) lits at.within (right.axioms lits at);
        lists = λ rel attr ent r at.
            still_ordered p parted part k.truths truths (same part) rel attr ent r
            (ranking_of k.completion rel.0 attr.0 ent) at (right.lists rel attr ent r at);
      };
}

-- some of them take their values
pub taken_beside : (p : PartedSpec) (given : List (Option Bool)) (vars : List ℕ) (old new : List Bool)
    → All (IsBeside p given) vars → Takes vars given old new → (part var : ℕ) → Contains (vars_in p part) var
    → slice_get new var ≡ slice_get old var
taken_beside p given vars old new beside takes part var has =
    takes.kept var (λ here. (All-contains (IsBeside p given) vars var beside here).of_none part has)

-- one of them is set
pub set_one : (p : PartedSpec) (old : List Bool) (one : ℕ) (truth : Bool) → ((part : ℕ) → Contains (vars_in p part) one → ⊥)
    → (part var : ℕ) → Contains (vars_in p part) var → slice_get (slice_set old one truth) var ≡ slice_get old var
set_one p old one truth none part var has =
    get_other old one var truth (λ e. none part (subst (λ (v : ℕ). Contains (vars_in p part) v) e has))

-- a known model, as it is told
pub known_as : (p : PartedSpec) (k : KnownModel) (truths now : List Bool) (c : Rankings) (done : List Bool)
    → now ≡ truths → c ≡ k.completion → done ≡ k.done → IsKnown p (with_truths k truths)
    → IsKnown p (record { truths = now; completion = c; done = done })
known_as p k truths now c done same_truths same_completion same_done is = rw (same_truths, same_completion, same_done) is
