-- What is known of the marked items, one item after the other.
use Rattle.std.proofs.Common.{◌≡◌, ◌∙◌, ◌+◌, ◌<◌, ℕ, Bool, true, false, List, [], ◌∷◌, ◌++◌, All, Some, get_or, length, take, slice_get, slice_index_or, slice_set, refl, sym, ap, subst, arith}
use Rattle.std.proofs.lemmas.List.{append-nil, length-set, map_push}
use Rattle.std.proofs.lemmas.List.Elements.{All-nil, All-push, All-weaker}
use Rattle.std.proofs.lemmas.Option.{slice_get-get_or}
use Rattle.report_model.specs.declared.report.Report.{Report}
use Rattle.report_verify.specs.Right.{EachConsistent}
use Rattle.spec_items.specs.Items.{items_of}
use Rattle.spec_items.specs.Kept.{kept}
use Rattle.spec_items.specs.Laws.{FewerItems}
use Rattle.spec_items.specs.declared.item.Item.{Item}
use Rattle.spec_model.specs.Completion.{Rankings}
use Rattle.spec_model.specs.Spec.{Spec}
use Rattle.spec_model.specs.declared.question.Question.{Question}
use Rattle.unit_questions.specs.Facts.{FactHolds}
use Rattle.minimal_items.specs.Among.{among, among_but, marked_items}
use Rattle.minimal_items.specs.Explanations.{AreInOrder, IsExplanation, IsNeeded, needed_items}
use Rattle.minimal_items.specs.Reduced.{FailsWith, IsSpentOn}
use Rattle.minimal_items.specs.Trials.{AreReducedUpTo, IsPartSpent, IsTrialWith}
use Rattle.minimal_items.specs.declared.needed.Needed.{Needed}
use Rattle.minimal_items.specs.declared.reducing.Spent.{Spent}
use Rattle.minimal_items.specs.declared.trying.Tried.{Tried}
use Rattle.minimal_items.specs.declared.trying.Tried.TheVariants as tried
use Rattle.minimal_items.proofs.Marks.{get_same, marked_before, marked_next, marked_whole, no_more_but, others_stay, set_back}
use Rattle.minimal_items.proofs.Order.{in_order}

-- what stands at a place that is read
pub read_item : (items all : List Item) (k : ℕ) (d : Item) → items ≡ all → k < length items
    → slice_get all k ≡ Some (get_or items k d)
read_item items all k d same below = ap (λ (l : List Item). slice_get l k) (sym same) ∙ slice_get-get_or items k d below

pub some_item : (items all : List Item) (k : ℕ) → items ≡ all → k < length items → (i : Item) × (slice_get all k ≡ Some i)
some_item [] all k same below = absurd (omega (arith, below))
some_item (i ∷ items) all k same below = (get_or (i ∷ items) k i, read_item (i ∷ items) all k i same below)

pub read_mark : (marks : List Bool) (many k : ℕ) (mark : Bool) → length marks ≡ many → k < many
    → slice_index_or marks k false ≡ mark → slice_get marks k ≡ Some mark
read_mark marks many k mark same below is = slice_get-get_or marks k false (omega (arith, same, below)) ∙ ap Some is

pub reduced_as : (s : Spec) (q : Question) (place : ℕ) (marks new_marks : List Bool) (needed new_needed : List Needed)
    → new_marks ≡ marks → new_needed ≡ needed → AreReducedUpTo s q place marks needed
    → AreReducedUpTo s q place new_marks new_needed
reduced_as s q place marks new_marks needed new_needed same_marks same_needed is =
    subst (λ (ms : List Bool). AreReducedUpTo s q place ms new_needed) (sym same_marks)
    (subst (λ (ns : List Needed). AreReducedUpTo s q place marks ns) (sym same_needed) is)

module _ (s : Spec) (q : Question) (marks : List Bool) where
  -- ---- at the start

  pub start : length marks ≡ length (items_of s)
      → EachConsistent (kept (among (marked_items (items_of s) marks)) s) (FactHolds s.relations q)
      → AreReducedUpTo s q 0 marks []
  start many holds = record {
    per_item = many;
    listed = refl;
    sufficient = holds;
    each_needed = All-nil (IsNeeded s (FactHolds s.relations q) (marked_items (items_of s) marks));
  }

  -- ---- one item

  module _ (place : ℕ) (needed : List Needed) (i : Item) (reduced : AreReducedUpTo s q place marks needed)
      (at : slice_get (items_of s) place ≡ Some i) where
    pub unmarked : slice_get marks place ≡ Some false → AreReducedUpTo s q (place + 1) marks needed
    unmarked mark = record {
      per_item = reduced.per_item;
      listed = reduced.listed ∙ sym (append-nil (marked_items (take place (items_of s)) marks))
          ∙ sym (marked_next (items_of s) marks place i false at mark);
      sufficient = reduced.sufficient;
      each_needed = reduced.each_needed;
    }

    pub left_out : FewerItems → slice_get marks place ≡ Some true
        → EachConsistent (kept (among (marked_items (items_of s) (slice_set marks place false))) s) (FactHolds s.relations q)
        → AreReducedUpTo s q (place + 1) (slice_set marks place false) needed
    left_out law mark holds =
        let items = items_of s in
        let new = slice_set marks place false in
        record {
          per_item = length-set marks place false ∙ reduced.per_item;
          listed = reduced.listed ∙ sym (marked_before items marks place false)
              ∙ sym (append-nil (marked_items (take place items) new))
              ∙ sym (marked_next items new place i false at (get_same marks place false true mark));
          sufficient = holds;
          each_needed = All-weaker (IsNeeded s (FactHolds s.relations q) (marked_items items marks))
              (IsNeeded s (FactHolds s.relations q) (marked_items items new))
              (λ n is. record {
                consistent = law s (among_but n.item (marked_items items new)) (among_but n.item (marked_items items marks))
                    (λ j _ e. no_more_but items marks place i mark n.item j e) n.without is.consistent;
                fails = is.fails;
              })
              needed reduced.each_needed;
        }

    pub taken_back : FewerItems → slice_get marks place ≡ Some true → (c : Rankings)
        → FailsWith s q (marked_items (items_of s) (slice_set marks place false)) c
        → AreReducedUpTo s q (place + 1) (slice_set (slice_set marks place false) place true)
        (needed ++ record { item = i; without = c } ∷ [])
    taken_back law mark c fails =
        let items = items_of s in
        let one : Needed = record { item = i; without = c } in
        let again : slice_set (slice_set marks place false) place true ≡ marks = set_back marks place false true mark in
        subst (λ (ms : List Bool). AreReducedUpTo s q (place + 1) ms (needed ++ one ∷ [])) (sym again)
        (record {
          per_item = reduced.per_item;
          listed = map_push (λ n. n.item) needed one ∙ ap (λ (l : List Item). l ++ i ∷ []) reduced.listed
              ∙ sym (marked_next items marks place i true at mark);
          sufficient = reduced.sufficient;
          each_needed = All-push (IsNeeded s (FactHolds s.relations q) (marked_items items marks)) needed one reduced.each_needed
              (record {
                consistent = law s (among_but i (marked_items items marks))
                    (among (marked_items items (slice_set marks place false)))
                    (λ j _ e. others_stay items marks place i at j e) c fails.consistent;
                fails = fails.fails;
              });
        })

  -- ---- where the budget is spent

  pub spent_with : (budget : ℕ) (items : List Item) (told : Tried) (part : Spec) (report : Report) (left : Spent)
      → items ≡ items_of s → IsTrialWith s q (marked_items (items_of s) marks) budget told → told ≡ tried.Open part report
      → left ≡ record { items = marked_items items marks; part = part; report = report } → IsSpentOn s q budget left
  spent_with budget items told part report left same is as_told as_left =
      let named = marked_items (items_of s) marks in
      let spent : IsPartSpent s q named budget part report = subst (IsTrialWith s q named budget) as_told is in
      let whole : left ≡ record { items = named; part = part; report = report } =
      as_left
      ∙ ap (λ (l : List Item). record { items = marked_items l marks; part = part; report = report }) same in
      subst (IsSpentOn s q budget) (sym whole)
      (record {
        in_order = in_order (items_of s) marks;
        part = spent.part;
        spent = spent.spent;
      })

  -- ---- at the end

  pub explained : (needed : List Needed) → AreReducedUpTo s q (length (items_of s)) marks needed
      → IsExplanation s (FactHolds s.relations q) needed
  explained needed is =
      let holds : Rankings → Type 0 = FactHolds s.relations q in
      let all : marked_items (items_of s) marks ≡ needed_items needed = sym (is.listed ∙ marked_whole (items_of s) marks) in
      record {
        in_order = subst (λ (l : List Item). AreInOrder (items_of s) l) all (in_order (items_of s) marks);
        sufficient = subst (λ (l : List Item). EachConsistent (kept (among l) s) holds) all is.sufficient;
        each_needed = subst (λ (l : List Item). All (IsNeeded s holds l) needed) all is.each_needed;
      }
