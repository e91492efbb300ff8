-- The rules among needed items.
use Rattle.std.proofs.Common.{◌≡◌, ◌∙◌, ◌+◌, ◌<◌, ◌≤◌, ℕ, zero, suc, Bool, true, false, List, [], ◌∷◌, Some, length, map, slice_get, refl, sym, ap, subst, ⊎_elim, arith}
use Rattle.std.proofs.lemmas.Bool.{cases_lt, false_from_ne_true, false≢true, or_cases, or_left, or_right}
use Rattle.std.proofs.lemmas.List.{length-map}
use Rattle.std.proofs.lemmas.Option.{none-some, same_Some}
use Rattle.copy_functions.specs.Copies.{CopyFunction}
use Rattle.currency_base.specs.declared.ids.RuleId.{RuleId}
use Rattle.item_limits.specs.Laws.{FewerAreWithin}
use Rattle.kept_items.specs.Alike.{AreAlike}
use Rattle.kept_items.specs.Laws.{AlikeAreOne}
use Rattle.kept_items.specs.Marked.{HasMarked, is_marked}
use Rattle.minimal_items.specs.Among.{among, same_item}
use Rattle.minimal_items.specs.Explanations.{needed_items}
use Rattle.minimal_items.specs.declared.needed.Needed.{Needed}
use Rattle.minimal_items.proofs.Same.{same_itself, same_of}
use Rattle.part_items.specs.Items.{whole_item}
use Rattle.part_laws.specs.Parts.{Places}
use Rattle.part_widens.specs.Widened.{AreWidened, rules_among}
use Rattle.search_logs.specs.SearchLogs.{IsWithin}
use Rattle.spec_items.specs.Items.{items_of}
use Rattle.spec_items.specs.Kept.{Keeps, kept}
use Rattle.spec_items.specs.Laws.{AllItems, FewerItems}
use Rattle.spec_items.specs.declared.item.Item.{Item}
use Rattle.spec_items.specs.declared.item.Item.TheVariants as item
use Rattle.spec_model.specs.Completion.{Rankings}
use Rattle.spec_model.specs.Consistent.{IsConsistent}
use Rattle.spec_model.specs.Facts.{IsSpecification}
use Rattle.spec_model.specs.Spec.{Spec}

-- ---- marks

marked_at : (keeps : Keeps) (items : List Item) (place : ℕ) (i : Item) → slice_get items place ≡ Some i
    → keeps i ≡ is_marked (map keeps items) place
marked_at keeps [] place i at = absurd (none-some i at)
marked_at keeps (x ∷ items) zero i at = ap keeps (sym (same_Some x i at))
marked_at keeps (x ∷ items) (suc place) i at = marked_at keeps items place i at

-- with the items that are kept marked, it is what is kept
pub alike_kept : (s new : Spec) (keeps : Keeps) (marks : List Bool) → marks ≡ map keeps (items_of s) → HasMarked s marks new
    → AreAlike new (kept keeps s)
alike_kept s new keeps marks is has =
    has keeps
    (λ place i at.
    marked_at keeps (items_of s) place i at ∙ ap (λ (l : List Bool). is_marked l place) (sym is))

pub as_many_marks : (s : Spec) (keeps : Keeps) (marks : List Bool) → marks ≡ map keeps (items_of s)
    → length marks ≡ length (items_of s)
as_many_marks s keeps marks is = ap length is ∙ length-map (items_of s) keeps

module _ (s new : Spec) (keeps : Keeps) (alike : AreAlike new (kept keeps s)) where
  pub kept_within : FewerAreWithin → IsSpecification new → IsWithin s → IsWithin new
  kept_within law is whole =
      let none = law s new keeps alike
      (record { parts = whole.parts; variables_few = whole.variables_few; instances_few = whole.instances_few }) in
      record {
        specification = is;
        parts = none.parts;
        variables_few = none.variables_few;
        instances_few = none.instances_few;
      }

  pub kept_consistent : AlikeAreOne → (c : Rankings) → IsConsistent new c → IsConsistent (kept keeps s) c
  kept_consistent law c is = (law new (kept keeps s) alike c).0 is

-- ---- a consistent completion satisfies the rules

pub rules_of_all : AllItems → FewerItems → (s : Spec) (items : List Item) (c : Rankings) → IsConsistent s c
    → IsConsistent (kept (rules_among items) s) c
rules_of_all all fewer s items c is =
    fewer s (rules_among items) (λ i. true) (λ i there among. refl) c ((all s (λ i. true) (λ i there. refl) c).1 is)

-- ---- the rules among needed items of a part are those among what they are in the whole

module _ (n : Places) (copies : List CopyFunction) where
  rule_stays : (k : RuleId) (i : Item) → same_item (item.Rule k) (whole_item n copies i) ≡ same_item (item.Rule k) i
  rule_stays k (item.Given rel p) = refl
  rule_stays k (item.Rule other) = refl
  rule_stays k (item.Copy copy target) = refl

  rule_narrow : (k : RuleId) (narrow wide : List Needed)
      → ((j : ℕ) (x y : Needed) → slice_get narrow j ≡ Some x → slice_get wide j ≡ Some y → y.item ≡ whole_item n copies x.item)
      → length wide ≡ length narrow → among (needed_items wide) (item.Rule k) ≡ true
      → among (needed_items narrow) (item.Rule k) ≡ true
  rule_narrow k narrow [] each many e = absurd (false≢true e)
  rule_narrow k [] (y ∷ wide) each many e = absurd (omega (arith, many))
  rule_narrow k (x ∷ narrow) (y ∷ wide) each many e = ⊎_elim
      (λ (here : same_item (item.Rule k) y.item ≡ true).
      or_left (same_item (item.Rule k) x.item) (among (needed_items narrow) (item.Rule k))
      (sym (rule_stays k x.item) ∙ ap (same_item (item.Rule k)) (sym (each 0 x y refl refl)) ∙ here))
      (λ (later : among (needed_items wide) (item.Rule k) ≡ true).
      or_right (same_item (item.Rule k) x.item) (among (needed_items narrow) (item.Rule k))
      (rule_narrow k narrow wide (λ j. each (suc j)) (omega (arith, many)) later))
      (or_cases (same_item (item.Rule k) y.item) (among (needed_items wide) (item.Rule k)) e)

  rules_narrow : (narrow wide : List Needed)
      → ((j : ℕ) (x y : Needed) → slice_get narrow j ≡ Some x → slice_get wide j ≡ Some y → y.item ≡ whole_item n copies x.item)
      → length wide ≡ length narrow → (i : Item) → rules_among (needed_items wide) i ≡ true
      → rules_among (needed_items narrow) i ≡ true
  rules_narrow narrow wide each many (item.Given rel p) e = e
  rules_narrow narrow wide each many (item.Rule k) e = rule_narrow k narrow wide each many e
  rules_narrow narrow wide each many (item.Copy copy target) e = e

-- what satisfies the rules among the needed items of the part satisfies those among what they are in the whole
pub rules_of_wide : FewerItems → (s : Spec) (n : Places) (base : Rankings) (narrow wide : List Needed)
    → AreWidened s.relations s.copies n base narrow wide → IsConsistent (kept (rules_among (needed_items narrow)) s) base
    → IsConsistent (kept (rules_among (needed_items wide)) s) base
rules_of_wide fewer s n base narrow wide are is =
    fewer s (rules_among (needed_items wide)) (rules_among (needed_items narrow))
    (λ i there.
    rules_narrow n s.copies narrow wide (λ j x y at at'. (are.each j x y at at').item) are.as_many i)
    base is

-- ---- a search among needed items

pub among_here : (i : Item) (needed : List Needed) (place : ℕ) (one : Needed) → slice_get needed place ≡ Some one
    → one.item ≡ i → among (needed_items needed) i ≡ true
among_here i [] place one at is = absurd (none-some one at)
among_here i (x ∷ needed) zero one at is =
    or_left (same_item i x.item) (among (needed_items needed) i)
    (subst (λ (j : Item). same_item i j ≡ true) (sym (ap (λ (y : Needed). y.item) (same_Some x one at) ∙ is)) (same_itself i))
among_here i (x ∷ needed) (suc place) one at is =
    or_right (same_item i x.item) (among (needed_items needed) i) (among_here i needed place one at is)

among_none : (i : Item) (needed : List Needed)
    → ((k : ℕ) (one : Needed) → slice_get needed k ≡ Some one → one.item ≡ i → ⊥) → among (needed_items needed) i ≡ true → ⊥
among_none i [] apart e = false≢true e
among_none i (x ∷ needed) apart e = ⊎_elim
    (λ (here : same_item i x.item ≡ true). apart 0 x refl (sym (same_of i x.item here)))
    (λ (later : among (needed_items needed) i ≡ true). among_none i needed (λ k. apart (suc k)) later)
    (or_cases (same_item i x.item) (among (needed_items needed) i) e)

pub not_among : (i : Item) (needed : List Needed)
    → ((k : ℕ) (one : Needed) → slice_get needed k ≡ Some one → one.item ≡ i → ⊥) → among (needed_items needed) i ≡ false
not_among i needed apart = false_from_ne_true (among (needed_items needed) i) (among_none i needed apart)

-- none of the needed items before a place is the item, and the one at the place is not
pub none_more : (i : Item) (needed : List Needed) (count : ℕ) (last : Needed)
    → ((k : ℕ) (one : Needed) → k < count → slice_get needed k ≡ Some one → one.item ≡ i → ⊥)
    → slice_get needed count ≡ Some last → (last.item ≡ i → ⊥)
    → (k : ℕ) (one : Needed) → k < count + 1 → slice_get needed k ≡ Some one → one.item ≡ i → ⊥
none_more i needed count last before at differs k one below there is = ⊎_elim
    (λ (less : k < count). before k one less there is)
    (λ (past : count ≤ k).
    let place : k ≡ count = omega (arith, below, past) in
    let same : last ≡ one = same_Some last one (sym at ∙ subst (λ (m : ℕ). slice_get needed m ≡ Some one) place there) in
    differs (ap (λ (x : Needed). x.item) same ∙ is))
    (cases_lt k count)
