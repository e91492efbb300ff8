-- The rules of a specification stay rules on its relations, with a name each of their own, with one rule less.
use Rattle.std.proofs.Common.{◌≡◌, ◌<◌, ◌∙◌, ◌++◌, ℕ, zero, suc, List, [], ◌∷◌, map, take, drop, slice_get, length, refl, sym, ap, ap₂, subst, arith}
use Rattle.std.specs.List.{remove}
use Rattle.std.proofs.lemmas.List.{map-append, take-map, drop-map}
use Rattle.std.proofs.lemmas.List.Edits.{length-remove}
use Rattle.std.proofs.lemmas.List.Elements.{All-append, All-take, All-drop}
use Rattle.currency_base.specs.Lists.{OnlyOnce}
use Rattle.denial_rules.specs.declared.rule.Rule.{Rule}
use Rattle.spec_model.specs.declared.relation.Relation.{Relation}
use Rattle.spec_model.specs.Facts.{IsRuleOf, AreRules}

-- the place that an item had before the one at place k was taken out
abbrev place_before : ℕ → ℕ → ℕ
place_before zero i = suc i
place_before (suc k) zero = zero
place_before (suc k) (suc i) = suc (place_before k i)

one_place : (k i j : ℕ) → place_before k i ≡ place_before k j → i ≡ j
one_place zero i j same = cc
one_place (suc k) zero zero same = refl
one_place (suc k) zero (suc j) same = cc
one_place (suc k) (suc i) zero same = cc
one_place (suc k) (suc i) (suc j) same = let one : place_before k i ≡ place_before k j = cc in ap suc (one_place k i j one)

get-remove : {A : Type 0} (xs : List A) (k i : ℕ) → slice_get (remove xs k) i ≡ slice_get xs (place_before k i)
get-remove [] zero i = refl
get-remove [] (suc k) i = refl
get-remove (x ∷ xs) zero i = refl
get-remove (x ∷ xs) (suc k) zero = refl
get-remove (x ∷ xs) (suc k) (suc i) = get-remove xs k i

-- items that stand at one place each still do with one of them taken out
once_without : {A : Type 0} (xs : List A) (k : ℕ) → OnlyOnce xs → OnlyOnce (remove xs k)
once_without xs k once i j x at_i at_j =
    one_place k i j (once (place_before k i) (place_before k j) x (sym (get-remove xs k i) ∙ at_i)
    (sym (get-remove xs k j) ∙ at_j))

map-remove : {A B : Type 0} (f : A → B) (xs : List A) (k : ℕ) → map f (remove xs k) ≡ remove (map f xs) k
map-remove {A} {B} f xs k =
    map-append f (take k xs) (drop (suc k) xs)
    ∙ ap₂ (λ (front back : List B). front ++ back) (sym (take-map f k xs)) (sym (drop-map f (suc k) xs))

-- one rule less
pub rules_without : (rs : List Relation) (rules : List Rule) (k : ℕ) → k < length rules → AreRules rs rules
    → AreRules rs (remove rules k)
rules_without rs rules k within h =
    let fewer = length-remove rules k within in
    record {
      few = omega (arith, fewer, h.few);
      each = All-append (IsRuleOf rs) (take k rules) (drop (suc k) rules) (All-take (IsRuleOf rs) k rules h.each)
          (All-drop (IsRuleOf rs) (suc k) rules h.each);
      names = subst OnlyOnce (sym (map-remove (λ (rule : Rule). rule.name) rules k))
          (once_without (map (λ (rule : Rule). rule.name) rules) k h.names);
    }
