-- Choices of rows of a part, and of the whole; and the rules that they satisfy.
use Rattle.std.proofs.Common.{◌≡◌, ◌<◌, ◌∙◌, ℕ, zero, suc, true, List, [], ◌∷◌, All, Option, Some, None, length, slice_get, slice_index_or, refl, sym, ap, subst}
use Rattle.std.proofs.lemmas.List.Elements.{All-nil, All-cons, All-head, All-tail}
use Rattle.currency_base.specs.declared.ids.EntId.{EntId}
use Rattle.currency_base.specs.declared.ids.RowId.{RowId}
use Rattle.denial_rules.specs.Instances.{field_value}
use Rattle.denial_rules.specs.Rules.{IsRuleOn}
use Rattle.denial_rules.specs.declared.rule.Rule.{Rule}
use Rattle.partial_orders.specs.Pairs.{entity_of}
use Rattle.spec_model.specs.Facts.{kinds_of}
use Rattle.spec_model.specs.Satisfies.{IsChoice, StandsBefore, IsSatisfiedBy, SatisfiesRule}
use Rattle.part_laws.proofs.Rows.{Cut, IsCut, row_cut, row_there, old_there, of_part, of_whole, same_number, attr_within}
use Rattle.part_laws.proofs.Listed.{AreListed, before_whole, before_part}
use Rattle.part_laws.proofs.Alike.{Scene, AreAlike, alike_back, satisfied_alike}

-- ---- rows of a part, and the rows of the whole that they are

-- each row is the one of the whole that stands at its place
abbrev pub ArePlaced : List RowId → List RowId → List RowId → Type 0
ArePlaced rows [] [] = Unit {0}
ArePlaced rows [] (old ∷ olds) = ⊥
ArePlaced rows (x ∷ xs) [] = ⊥
ArePlaced rows (x ∷ xs) (old ∷ olds) = (slice_get rows x.0 ≡ Some old) × ArePlaced rows xs olds

abbrev IsPlaced : List RowId → Option RowId → Option RowId → Type 0
IsPlaced rows None None = Unit {0}
IsPlaced rows None (Some old) = ⊥
IsPlaced rows (Some x) None = ⊥
IsPlaced rows (Some x) (Some old) = slice_get rows x.0 ≡ Some old

placed_at : (rows xs olds : List RowId) (i : ℕ) → ArePlaced rows xs olds → IsPlaced rows (slice_get xs i) (slice_get olds i)
placed_at rows [] [] i are = tt
placed_at rows [] (old ∷ olds) i are = absurd are
placed_at rows (x ∷ xs) [] i are = absurd are
placed_at rows (x ∷ xs) (old ∷ olds) zero are = are.0
placed_at rows (x ∷ xs) (old ∷ olds) (suc i) are = placed_at rows xs olds i are.1

as_many : (rows xs olds : List RowId) → ArePlaced rows xs olds → length xs ≡ length olds
as_many rows [] [] are = refl
as_many rows [] (old ∷ olds) are = absurd are
as_many rows (x ∷ xs) [] are = absurd are
as_many rows (x ∷ xs) (old ∷ olds) are = ap suc (as_many rows xs olds are.1)

-- the rows of the whole that rows of the part are
placed_whole : (k : Cut) (ent : ℕ) (xs : List RowId) → IsCut k → All (λ (x : RowId). entity_of k.part.rows x.0 ≡ Some ent) xs
    → (olds : List RowId) × ArePlaced k.rows xs olds
placed_whole k ent [] is all = ([], tt)
placed_whole k ent (x ∷ xs) is all =
    let old = row_there k x ent is (All-head (λ (x : RowId). entity_of k.part.rows x.0 ≡ Some ent) x xs all) in
    let more = placed_whole k ent xs is (All-tail (λ (x : RowId). entity_of k.part.rows x.0 ≡ Some ent) x xs all) in
    (old.0 ∷ more.0, (old.1, more.1))

-- and the rows of the part that rows of an entity in the scope are
placed_part : (k : Cut) (ent : ℕ) (olds : List RowId) → IsCut k → k.scope k.rel ent ≡ true
    → All (λ (x : RowId). entity_of k.whole.rows x.0 ≡ Some ent) olds
    → (xs : List RowId) × ArePlaced k.rows xs olds
placed_part k ent [] is inside all = ([], tt)
placed_part k ent (old ∷ olds) is inside all =
    let x = old_there k old ent is (All-head (λ (x : RowId). entity_of k.whole.rows x.0 ≡ Some ent) old olds all) inside in
    let more = placed_part k ent olds is inside (All-tail (λ (x : RowId). entity_of k.whole.rows x.0 ≡ Some ent) old olds all) in
    (x.0 ∷ more.0, (x.1, more.1))

all_whole : (k : Cut) (ent : ℕ) (old_ent : EntId) (xs olds : List RowId) → IsCut k → slice_get k.entities ent ≡ Some old_ent
    → ArePlaced k.rows xs olds
    → All (λ (x : RowId). entity_of k.part.rows x.0 ≡ Some ent) xs
    → All (λ (x : RowId). entity_of k.whole.rows x.0 ≡ Some old_ent.0) olds
all_whole k ent old_ent [] [] is at are all = All-nil (λ (x : RowId). entity_of k.whole.rows x.0 ≡ Some old_ent.0)
all_whole k ent old_ent [] (old ∷ olds) is at are all = absurd are
all_whole k ent old_ent (x ∷ xs) [] is at are all = absurd are
all_whole k ent old_ent (x ∷ xs) (old ∷ olds) is at are all =
    All-cons (λ (x : RowId). entity_of k.whole.rows x.0 ≡ Some old_ent.0) old olds
    (of_whole k x old ent old_ent is are.0 at (All-head (λ (x : RowId). entity_of k.part.rows x.0 ≡ Some ent) x xs all))
    (all_whole k ent old_ent xs olds is at are.1 (All-tail (λ (x : RowId). entity_of k.part.rows x.0 ≡ Some ent) x xs all))

all_part : (k : Cut) (ent : ℕ) (old_ent : EntId) (xs olds : List RowId) → IsCut k → slice_get k.entities ent ≡ Some old_ent
    → ArePlaced k.rows xs olds
    → All (λ (x : RowId). entity_of k.whole.rows x.0 ≡ Some old_ent.0) olds
    → All (λ (x : RowId). entity_of k.part.rows x.0 ≡ Some ent) xs
all_part k ent old_ent [] [] is at are all = All-nil (λ (x : RowId). entity_of k.part.rows x.0 ≡ Some ent)
all_part k ent old_ent [] (old ∷ olds) is at are all = absurd are
all_part k ent old_ent (x ∷ xs) [] is at are all = absurd are
all_part k ent old_ent (x ∷ xs) (old ∷ olds) is at are all =
    All-cons (λ (x : RowId). entity_of k.part.rows x.0 ≡ Some ent) x xs
    (of_part k x old ent old_ent is are.0 at (All-head (λ (x : RowId). entity_of k.whole.rows x.0 ≡ Some old_ent.0) old olds all))
    (all_part k ent old_ent xs olds is at are.1
    (All-tail (λ (x : RowId). entity_of k.whole.rows x.0 ≡ Some old_ent.0) old olds all))

-- ---- choices

choice_whole : (k : Cut) (vars : ℕ) (xs olds : List RowId) → IsCut k → ArePlaced k.rows xs olds → IsChoice k.part.rows vars xs
    → IsChoice k.whole.rows vars olds
choice_whole k vars [] [] is are choice =
    record { one_each = choice.one_each; ent = 0; of_entity = All-nil (λ (x : RowId). entity_of k.whole.rows x.0 ≡ Some 0) }
choice_whole k vars [] (old ∷ olds) is are choice = absurd are
choice_whole k vars (x ∷ xs) [] is are choice = absurd are
choice_whole k vars (x ∷ xs) (old ∷ olds) is are choice =
    let cut = row_cut k x old is are.0 in
    let same : cut.ent ≡ choice.ent =
    same_number k.part.rows x.0 cut.ent choice.ent cut.of_part
    (All-head (λ (x : RowId). entity_of k.part.rows x.0 ≡ Some choice.ent) x xs choice.of_entity) in
    record {
      one_each = sym (as_many k.rows (x ∷ xs) (old ∷ olds) are) ∙ choice.one_each;
      ent = cut.old_ent.0;
      of_entity = all_whole k choice.ent cut.old_ent (x ∷ xs) (old ∷ olds) is (sym (ap (slice_get k.entities) same)
          ∙ cut.is_ent) are
          choice.of_entity;
    }

choice_part : (k : Cut) (vars : ℕ) (xs olds : List RowId) → IsCut k → ArePlaced k.rows xs olds → IsChoice k.whole.rows vars olds
    → IsChoice k.part.rows vars xs
choice_part k vars [] [] is are choice =
    record { one_each = choice.one_each; ent = 0; of_entity = All-nil (λ (x : RowId). entity_of k.part.rows x.0 ≡ Some 0) }
choice_part k vars [] (old ∷ olds) is are choice = absurd are
choice_part k vars (x ∷ xs) [] is are choice = absurd are
choice_part k vars (x ∷ xs) (old ∷ olds) is are choice =
    let cut = row_cut k x old is are.0 in
    let same : choice.ent ≡ cut.old_ent.0 =
    same_number k.whole.rows old.0 choice.ent cut.old_ent.0
    (All-head (λ (x : RowId). entity_of k.whole.rows x.0 ≡ Some choice.ent) old olds choice.of_entity) cut.of_whole in
    record {
      one_each = as_many k.rows (x ∷ xs) (old ∷ olds) are ∙ choice.one_each;
      ent = cut.ent;
      of_entity = all_part k cut.ent cut.old_ent (x ∷ xs) (old ∷ olds) is cut.is_ent are
          (subst (λ (n : ℕ). All (λ (x : RowId). entity_of k.whole.rows x.0 ≡ Some n) (old ∷ olds)) same choice.of_entity);
    }

-- ---- rules

-- the lists of each attribute are there
abbrev pub AreAllListed : Cut → Type 0
AreAllListed k = (attr : ℕ) → attr < length k.whole.attrs → AreListed k.whole (slice_index_or k.lists attr [])

values_placed : (k : Cut) (x old : Option RowId) (attr : ℕ) → IsCut k → IsPlaced k.rows x old
    → field_value k.part.rows x attr ≡ field_value k.whole.rows old attr
values_placed k None None attr is placed = refl
values_placed k None (Some old) attr is placed = absurd placed
values_placed k (Some x) None attr is placed = absurd placed
values_placed k (Some x) (Some old) attr is placed = (row_cut k x old is placed).value attr

stands_whole : (k : Cut) (attr : ℕ) (x y old_x old_y : Option RowId) → IsCut k → attr < length k.whole.attrs
    → IsPlaced k.rows x old_x
    → IsPlaced k.rows y old_y
    → StandsBefore (slice_index_or k.part_lists attr []) x y → StandsBefore (slice_index_or k.lists attr []) old_x old_y
stands_whole k attr None y old_x old_y is inside at_x at_y stands = absurd stands
stands_whole k attr (Some x) None old_x old_y is inside at_x at_y stands = absurd stands
stands_whole k attr (Some x) (Some y) None old_y is inside at_x at_y stands = absurd at_x
stands_whole k attr (Some x) (Some y) (Some old_x) None is inside at_x at_y stands = absurd at_y
stands_whole k attr (Some x) (Some y) (Some old_x) (Some old_y) is inside at_x at_y stands =
    before_whole k attr x y old_x old_y is inside at_x at_y stands

stands_part : (k : Cut) (attr : ℕ) (x y old_x old_y : Option RowId) → IsCut k → AreAllListed k → attr < length k.whole.attrs
    → IsPlaced k.rows x old_x → IsPlaced k.rows y old_y
    → StandsBefore (slice_index_or k.lists attr []) old_x old_y → StandsBefore (slice_index_or k.part_lists attr []) x y
stands_part k attr x y None old_y is are inside at_x at_y stands = absurd stands
stands_part k attr x y (Some old_x) None is are inside at_x at_y stands = absurd stands
stands_part k attr None y (Some old_x) (Some old_y) is are inside at_x at_y stands = absurd at_x
stands_part k attr (Some x) None (Some old_x) (Some old_y) is are inside at_x at_y stands = absurd at_y
stands_part k attr (Some x) (Some y) (Some old_x) (Some old_y) is are inside at_x at_y stands =
    before_part k attr x y old_x old_y is inside (are attr inside) at_x at_y stands

abbrev part_scene : Cut → List RowId → Scene
part_scene k rows = record { table = k.part.rows; lists = k.part_lists; rows = rows }

abbrev whole_scene : Cut → List RowId → Scene
whole_scene k rows = record { table = k.whole.rows; lists = k.lists; rows = rows }

alike_placed : (k : Cut) (xs olds : List RowId) → IsCut k → AreAllListed k → ArePlaced k.rows xs olds
    → AreAlike (length (kinds_of k.whole)) (part_scene k xs) (whole_scene k olds)
alike_placed k xs olds is are placed =
    let at = λ (i : ℕ). placed_at k.rows xs olds i placed in
    record {
      value = λ var attr. values_placed k (slice_get xs var) (slice_get olds var) attr is (at var);
      forth = λ attr x y below. stands_whole k attr (slice_get xs x) (slice_get xs y) (slice_get olds x) (slice_get olds y) is
          (attr_within k.whole attr below) (at x) (at y);
      back = λ attr x y below. stands_part k attr (slice_get xs x) (slice_get xs y) (slice_get olds x) (slice_get olds y) is are
          (attr_within k.whole attr below) (at x) (at y);
    }

-- a rule that is satisfied on the whole is satisfied on the part
pub rule_part : (k : Cut) (rule : Rule) → IsCut k → AreAllListed k → IsRuleOn (kinds_of k.whole) rule
    → SatisfiesRule k.whole.rows k.lists rule → SatisfiesRule k.part.rows k.part_lists rule
rule_part k rule is are fits satisfied xs choice =
    let placed = placed_whole k choice.ent xs is choice.of_entity in
    let like = alike_back (length (kinds_of k.whole)) (part_scene k xs) (whole_scene k placed.0)
    (alike_placed k xs placed.0 is are placed.1) in
    satisfied_alike (kinds_of k.whole) rule (whole_scene k placed.0) (part_scene k xs) like fits
    (satisfied placed.0 (choice_whole k rule.vars xs placed.0 is placed.1 choice))

-- and one that is satisfied on the part is, by the rows of each entity in the scope, on the whole
pub rule_whole : (k : Cut) (rule : Rule) → IsCut k → AreAllListed k → IsRuleOn (kinds_of k.whole) rule
    → SatisfiesRule k.part.rows k.part_lists rule
    → (olds : List RowId) (choice : IsChoice k.whole.rows rule.vars olds) → k.scope k.rel choice.ent ≡ true
    → IsSatisfiedBy k.whole.rows k.lists rule olds
rule_whole k rule is are fits satisfied olds choice inside =
    let placed = placed_part k choice.ent olds is inside choice.of_entity in
    satisfied_alike (kinds_of k.whole) rule (part_scene k placed.0) (whole_scene k olds)
    (alike_placed k placed.0 olds is are placed.1) fits
    (satisfied placed.0 (choice_part k rule.vars placed.0 olds is placed.1 choice))
