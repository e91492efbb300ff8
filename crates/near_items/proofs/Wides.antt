-- One needed item of a part after another is put in as one of the whole.
use Rattle.std.proofs.Common.{◌≡◌, ◌⊎◌, ◌∙◌, ◌<◌, ◌≤◌, ◌+◌, ◌++◌, ◌∷◌, ℕ, zero, suc, List, [], All, Option, Some, length, slice_get, refl, sym, ap, subst, inl, inr, arith}
use Rattle.std.proofs.lemmas.List.{length-map, length_push}
use Rattle.std.proofs.lemmas.List.Elements.{All-get_or, All-nil, All-push, All-weaker}
use Rattle.std.proofs.lemmas.Option.{get_or_from_slice_get, none-some, same_Some, slice_get_within}
use Rattle.copy_functions.specs.Copies.{CopyFunction}
use Rattle.currency_base.specs.declared.ids.CopyId.{CopyId}
use Rattle.currency_base.specs.declared.ids.RowId.{RowId}
use Rattle.minimal_items.specs.Explanations.{needed_items}
use Rattle.minimal_items.specs.declared.needed.Needed.{Needed}
use Rattle.part_items.specs.Items.{target_rows, whole_item}
use Rattle.part_join.specs.Joined.{IsJoined}
use Rattle.part_laws.specs.Parts.{Places, rows_in, whole_row}
use Rattle.part_widens.specs.Widened.{IsSeenToFail, IsWidened}
use Rattle.spec_items.specs.Items.{items_of}
use Rattle.spec_items.specs.declared.item.Item.{Item}
use Rattle.spec_items.specs.declared.item.Item.TheVariants as item
use Rattle.spec_model.specs.Completion.{IsCompletion, Rankings}
use Rattle.spec_model.specs.Spec.{Spec}
use Rattle.spec_model.specs.declared.question.Question.{Question}
use Rattle.spec_model.specs.declared.question.Question.TheVariants as asked
use Rattle.spec_model.specs.declared.relation.Relation.{Relation}
use Rattle.near_items.specs.Sites.{SeesFail}
use Rattle.near_items.specs.Steps.{AreWide, AreWidenedTo, HaveCompletions, IsPutWide}
use Rattle.near_items.proofs.Ends.{ascend_push, get_push}

-- a mapped row of the whole
pub copy_whole : (n : Places) (copies : List CopyFunction) (copy : CopyId) (target wide : RowId) (function : CopyFunction)
    → slice_get copies copy.0 ≡ Some function → wide ≡ whole_row (rows_in n function.target.0) target
    → item.Copy copy wide ≡ whole_item n copies (item.Copy copy target)
copy_whole n copies copy target wide function at is =
    ap (λ (row : RowId). item.Copy copy row)
    (is ∙ ap (λ (o : Option CopyFunction). whole_row (target_rows n o) target) (sym at))

seen_to_fail : (relations : List Relation) (q : Question) (one : Needed) → SeesFail relations q one.without
    → IsSeenToFail relations q one
seen_to_fail relations asked.Consistent one is = is
seen_to_fail relations (asked.Certain pairs) one is = is
seen_to_fail relations (asked.Same rels) one is = is
seen_to_fail relations (asked.Answers query) one is = is

item_at : (wide : List Needed) (k : ℕ) (i : Item) → slice_get (needed_items wide) k ≡ Some i
    → (y : Needed) × (slice_get wide k ≡ Some y) × (y.item ≡ i)
item_at [] k i at = absurd (none-some i at)
item_at (y ∷ wide) zero i at = (y, refl, same_Some y.item i at)
item_at (y ∷ wide) (suc k) i at = item_at wide k i at

-- without a needed item there is a completion
pub without_at : (relations : List Relation) (needed : List Needed) (k : ℕ) (one : Needed) → HaveCompletions relations needed
    → slice_get needed k ≡ Some one → IsCompletion relations one.without
without_at relations needed k one have at =
    let all : All (λ (x : Needed). IsCompletion relations x.without) needed = have in
    subst (λ (x : Needed). IsCompletion relations x.without) (get_or_from_slice_get needed k one one at)
    (All-get_or (λ (x : Needed). IsCompletion relations x.without) needed k one (slice_get_within needed k one at) all)

-- a needed item is put in at its place
pub put_wide : (s : Spec) (n : Places) (q : Question) (base : Rankings) (start place : ℕ) (narrow : Needed) (i : Item)
    (without : Rankings) (old new : List Needed) (items : List Item) → items ≡ items_of s → start ≤ place
    → slice_get items place ≡ Some i
    → i ≡ whole_item n s.copies narrow.item → IsJoined s.relations n base narrow.without without
    → SeesFail s.relations q without → new ≡ old ++ record { item = i; without = without } ∷ []
    → IsPutWide s n q base start narrow old new (place + 1)
put_wide s n q base start place narrow i without old new items are after there is joined seen put = record {
  wide = record { item = i; without = without };
  put = put;
  is_widened = record { item = is; joined = joined };
  place = place;
  after = after;
  below = omega arith;
  is_there = subst (λ (l : List Item). slice_get l place ≡ Some i) are there;
  seen = seen_to_fail s.relations q (record { item = i; without = without }) seen;
}

module _ (s : Spec) (n : Places) (q : Question) (base : Rankings) (narrow : List Needed) where
  pub wide_none : AreWidenedTo s n q base narrow 0 0 []
  wide_none = record {
    as_many = refl;
    each = λ k x y at at'. absurd (none-some y at');
    places = [];
    per_item = refl;
    below = All-nil (λ (place : ℕ). place < 0);
    ascend = λ i j x y less at at'. absurd (none-some x at);
    there = λ k place y at at'. absurd (none-some place at);
    seen = All-nil (IsSeenToFail s.relations q);
  }

  pub wide_more : (count start bound : ℕ) (one : Needed) (old new : List Needed) → AreWidenedTo s n q base narrow count start old
      → slice_get narrow count ≡ Some one → IsPutWide s n q base start one old new bound
      → AreWidenedTo s n q base narrow (count + 1) bound new
  wide_more count start bound one old new are at_one is = record {
    as_many = ap length is.put ∙ length_push old is.wide ∙ ap (λ (m : ℕ). m + 1) are.as_many;
    each = λ k x y at at'.
        each k x y at (get_push old is.wide y k (subst (λ (l : List Needed). slice_get l k ≡ Some y) is.put at'));
    places = are.places ++ is.place ∷ [];
    per_item = length_push are.places is.place ∙ ap (λ (m : ℕ). m + 1) are.per_item;
    below = All-push (λ (place : ℕ). place < bound) are.places is.place
        (All-weaker (λ (place : ℕ). place < start) (λ (place : ℕ). place < bound)
        (λ place less. let after = is.after in let below = is.below in omega (arith, less, after, below)) are.places are.below)
        is.below;
    ascend = ascend_push are.places start is.place are.below is.after are.ascend;
    there = λ k place y at at'.
        there k place y (get_push are.places is.place place k at)
        (get_push old is.wide y k (subst (λ (l : List Needed). slice_get l k ≡ Some y) is.put at'));
    seen = subst (All (IsSeenToFail s.relations q)) (sym is.put)
        (All-push (IsSeenToFail s.relations q) old is.wide are.seen is.seen);
  }
    where
      each : (k : ℕ) (x y : Needed) → slice_get narrow k ≡ Some x
          → (slice_get old k ≡ Some y) ⊎ ((k ≡ length old) × (is.wide ≡ y)) → IsWidened s.relations s.copies n base x y
      each k x y at (inl at') = are.each k x y at at'
      each k x y at (inr last) =
          let place : k ≡ count = last.0 ∙ are.as_many in
          let same : one ≡ x = same_Some one x (sym at_one ∙ subst (λ (m : ℕ). slice_get narrow m ≡ Some x) place at) in
          subst (λ (z : Needed). IsWidened s.relations s.copies n base z y) same
          (subst (IsWidened s.relations s.copies n base one) last.1 is.is_widened)

      there : (k place : ℕ) (y : Needed) → (slice_get are.places k ≡ Some place) ⊎ ((k ≡ length are.places) × (is.place ≡ place))
          → (slice_get old k ≡ Some y) ⊎ ((k ≡ length old) × (is.wide ≡ y))
          → slice_get (items_of s) place ≡ Some y.item
      there k place y (inl at) (inl at') = are.there k place y at at'
      there k place y (inl at) (inr last) =
          absurd (omega (arith, slice_get_within are.places k place at, last.0, are.per_item, are.as_many))
      there k place y (inr last) (inl at') =
          absurd (omega (arith, slice_get_within old k y at', last.0, are.per_item, are.as_many))
      there k place y (inr last) (inr too) =
          subst (λ (m : ℕ). slice_get (items_of s) m ≡ Some y.item) last.1
          (subst (λ (z : Needed). slice_get (items_of s) is.place ≡ Some z.item) too.1 is.is_there)

  pub wide_all : (bound : ℕ) (wide : List Needed) → AreWidenedTo s n q base narrow (length narrow) bound wide
      → AreWide s n q base narrow wide
  wide_all bound wide are = record {
    in_order = record {
      places = are.places;
      per_item = are.per_item ∙ sym are.as_many ∙ sym (length-map wide (λ (one : Needed). one.item));
      ascend = are.ascend;
      each = λ k place i at at'. each k place i at (item_at wide k i at');
    };
    widened = record { as_many = are.as_many; each = are.each };
    seen = are.seen;
  }
    where
      each : (k place : ℕ) (i : Item) → slice_get are.places k ≡ Some place
          → (y : Needed) × (slice_get wide k ≡ Some y) × (y.item ≡ i) → slice_get (items_of s) place ≡ Some i
      each k place i at of =
          subst (λ (j : Item). slice_get (items_of s) place ≡ Some j) of.2 (are.there k place of.0 at of.1)
