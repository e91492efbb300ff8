-- Completions of a part and of the whole, and what they are joined to.
use Rattle.std.proofs.Common.{List, All}
use Rattle.std.proofs.lemmas.List.Elements.{All-weaker}
use Rattle.minimal_items.specs.Among.{among_but}
use Rattle.minimal_items.specs.Explanations.{IsNeeded}
use Rattle.minimal_items.specs.declared.needed.Needed.{Needed}
use Rattle.part_join.specs.Joined.{IsJoined}
use Rattle.part_laws.specs.Parts.{IsPartOf, Places, Scope}
use Rattle.part_laws.proofs.Beyond.{ranked_beyond}
use Rattle.part_laws.proofs.Cuts.{IsParted, Parted}
use Rattle.part_laws.proofs.FromPart.{ranked_from_part}
use Rattle.part_laws.proofs.Scoped.{completion_of_both}
use Rattle.spec_items.specs.Kept.{Keeps, kept}
use Rattle.spec_items.specs.declared.item.Item.{Item}
use Rattle.spec_model.specs.Completion.{IsCompletion, Rankings}
use Rattle.spec_model.specs.Consistent.{IsConsistent}
use Rattle.spec_model.specs.Facts.{IsSpecification}
use Rattle.spec_model.specs.Spec.{Spec}
use Rattle.near_items.specs.Steps.{HaveCompletions}
use Rattle.near_items.proofs.Completions.{completion_whole}

-- a completion of the whole joined with one of a part is one of the whole
pub joined_completion : (s : Spec) (scope : Scope) (n : Places) (part : Spec) (base narrow c : Rankings) → IsSpecification s
    → IsPartOf s scope n part → IsCompletion s.relations base → IsCompletion part.relations narrow
    → IsJoined s.relations n base narrow c → IsCompletion s.relations c
joined_completion s scope n part base narrow c whole_is of in_whole in_part joined =
    let p : Parted = record { s = s; scope = scope; n = n; part = part; c = c; narrow = narrow } in
    let is : IsParted p =
    record { whole_is = whole_is; of = of; shape = in_part.shape; narrowed = joined.narrowed } in
    completion_of_both s.relations scope c joined.shape (ranked_from_part p is in_part)
    (ranked_beyond s.relations scope c base (joined.beyond scope of.places) in_whole)

-- a consistent completion of a specification with some items is a completion of it
pub kept_completion : (s : Spec) (keeps : Keeps) (c : Rankings) → IsConsistent (kept keeps s) c → IsCompletion s.relations c
kept_completion s keeps c is = completion_whole keeps s.relations c is.completion

-- needed items have completions without them
pub have_completions : (s : Spec) (holds : Rankings → Type 0) (items : List Item) (needed : List Needed)
    → All (IsNeeded s holds items) needed → HaveCompletions s.relations needed
have_completions s holds items needed all =
    All-weaker (IsNeeded s holds items) (λ (one : Needed). IsCompletion s.relations one.without)
    (λ one is. kept_completion s (among_but one.item items) one.without is.consistent) needed all
