-- Names that are read where they stand.
use Rattle.std.proofs.Common.{◌≡◌, ◌∙◌, ℕ, List, [], map, Some, slice_get, get_or, ap}
use Rattle.std.specs.Prelude.{option_map}
use Rattle.std.proofs.lemmas.Option.{get_or_from_slice_get, slice_get-map}
use Rattle.copy_functions.specs.Copies.{CopyFunction}
use Rattle.denial_rules.specs.declared.rule.Rule.{Rule}

-- the name of the item at a place
named_at : {A : Type 0} (f : A → List ℕ) (xs : List A) (i : ℕ) (x : A) → slice_get xs i ≡ Some x → get_or (map f xs) i [] ≡ f x
named_at f xs i x at =
    get_or_from_slice_get (map f xs) i (f x) [] (slice_get-map f xs i ∙ ap (option_map f) at)

pub rule_named : (rules : List Rule) (k : ℕ) (rule : Rule) → slice_get rules k ≡ Some rule
    → get_or (map (λ (r : Rule). r.name) rules) k [] ≡ rule.name
rule_named rules k rule at = named_at (λ (r : Rule). r.name) rules k rule at

pub copy_named : (copies : List CopyFunction) (k : ℕ) (copy : CopyFunction) → slice_get copies k ≡ Some copy
    → get_or (map (λ (c : CopyFunction). c.name) copies) k [] ≡ copy.name
copy_named copies k copy at = named_at (λ (c : CopyFunction). c.name) copies k copy at
