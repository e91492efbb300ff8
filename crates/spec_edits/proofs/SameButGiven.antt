-- What is told of relations stays where they are the same but for their given pairs.
use Rattle.std.proofs.Common.{◌≡◌, ◌<◌, ◌+◌, ◌*◌, ◌^◌, ◌∙◌, ℕ, List, [], ◌∷◌, length, map, slice_get, slice_set, slice_index_or, Option, Some, None, refl, sym, ap, ap₂, subst, arith}
use Rattle.std.specs.List.{sum_by}
use Rattle.std.specs.Option.{option_map, option_map_or}
use Rattle.std.proofs.Math.Seq.{map-set_same}
use Rattle.std.proofs.lemmas.List.{length-map}
use Rattle.std.proofs.lemmas.List.Elements.{All-weaker}
use Rattle.std.proofs.lemmas.List.Sums.{sum_by-cons}
use Rattle.std.proofs.lemmas.Option.{get_or_from_slice_get, none-some, same_Some, slice_get-map}
use Rattle.copy_functions.specs.Copies.{CopyFunction}
use Rattle.currency_base.specs.declared.ids.RelId.{RelId}
use Rattle.currency_base.specs.declared.ids.RowId.{RowId}
use Rattle.currency_base.specs.declared.pair.Pair.{Pair}
use Rattle.currency_base.specs.declared.row.Row.{Row}
use Rattle.denial_rules.specs.declared.rule.Rule.{Rule}
use Rattle.entity_rows.specs.Members.{AreEntityRows}
use Rattle.spec_limits.specs.Instances.{copy_instances, copy_pairs, instances, order_instances, rows_at, rule_instances, sum_by_entity}
use Rattle.spec_limits.specs.Left.{AreEntityLists}
use Rattle.spec_model.specs.Completion.{HasShape, Rankings}
use Rattle.spec_model.specs.Facts.{IsGivenPair}
use Rattle.spec_model.specs.Queries.{IsAtomOn, IsDisjunctOn, IsTermOn, place_kinds}
use Rattle.spec_model.specs.Questions.{IsAskedPair, IsQuestionOn}
use Rattle.spec_model.specs.Spec.{Spec}
use Rattle.spec_model.specs.declared.question.Asked.{Asked}
use Rattle.spec_model.specs.declared.question.Question.{Question}
use Rattle.spec_model.specs.declared.question.Question.TheVariants.{Answers, Certain, Consistent, Same}
use Rattle.spec_model.specs.declared.relation.Relation.{Relation}
use Rattle.spec_edits.specs.Kept.{AreSameButGiven, without_pairs}

-- other given pairs at one relation
pub given_aside : (relations : List Relation) (rel : ℕ) (r : Relation) (given : List Pair) → slice_get relations rel ≡ Some r
    → AreSameButGiven relations (slice_set relations rel (record r { given = given }))
given_aside relations rel r given at =
    map-set_same without_pairs relations rel (record r { given = given }) r
    (ap without_pairs (sym (get_or_from_slice_get relations rel r r at)))

-- ---- what stands at a place

-- the relation at the same place of the old relations, which is the same but for its given pairs
pub record IsKeptFrom (old : List Relation) (rel : ℕ) (r : Relation) : Type 0 where
  pub relation : Relation
  pub is_relation : slice_get old rel ≡ Some relation
  pub same : without_pairs relation ≡ without_pairs r

pub kept_from : (old new : List Relation) (rel : ℕ) (r : Relation) → AreSameButGiven old new → slice_get new rel ≡ Some r
    → IsKeptFrom old rel r
kept_from old new rel r are at = by (slice_get old rel) refl
  where
    read : option_map without_pairs (slice_get old rel) ≡ Some (without_pairs r)
    read =
        sym (slice_get-map without_pairs old rel) ∙ (ap (λ (rs : List Relation). slice_get rs rel) (sym are)
        ∙ (slice_get-map without_pairs new rel ∙ ap (option_map without_pairs) at))

    by : (o : Option Relation) → slice_get old rel ≡ o → IsKeptFrom old rel r
    by None is = absurd (none-some (without_pairs r) (sym (ap (option_map without_pairs) is) ∙ read))
    by (Some q) is =
        record {
          relation = q;
          is_relation = is;
          same = same_Some (without_pairs q) (without_pairs r) (sym (ap (option_map without_pairs) is) ∙ read);
        }

pub as_many : (old new : List Relation) → AreSameButGiven old new → length new ≡ length old
as_many old new are =
    sym (length-map new without_pairs) ∙ (ap (length {A = Relation}) are ∙ length-map old without_pairs)

-- what is told of a relation without its given pairs
module _ {A : Type 0} (told : Relation → A) (missing : A) (same : (r : Relation) → told r ≡ told (without_pairs r)) where
  told_bare : (o : Option Relation) → option_map_or told o missing ≡ option_map_or told (option_map without_pairs o) missing
  told_bare None = refl
  told_bare (Some r) = same r

  pub told_at : (old new : List Relation) (rel : ℕ) → AreSameButGiven old new
      → option_map_or told (slice_get new rel) missing ≡ option_map_or told (slice_get old rel) missing
  told_at old new rel are =
      let bare = λ (rs : List Relation).
      told_bare (slice_get rs rel) ∙ ap (λ (o : Option Relation). option_map_or told o missing)
      (sym (slice_get-map without_pairs rs rel)) in
      bare new ∙ (ap (λ (rs : List Relation). option_map_or told (slice_get rs rel) missing) are ∙ sym (bare old))

-- a sum over relations of what is told of them without their given pairs
sum_bare : (term : Relation → ℕ) → ((r : Relation) → term r ≡ term (without_pairs r)) → (rs : List Relation)
    → sum_by term rs ≡ sum_by term (map without_pairs rs)
sum_bare term same [] = refl
sum_bare term same (r ∷ rs) =
    omega (
      arith,
      same r,
      sum_by-cons term r rs,
      sum_by-cons term (without_pairs r) (map without_pairs rs),
      sum_bare term same rs,
    )

pub sum_alike : {A : Type 0} (f g : A → ℕ) (xs : List A) → ((x : A) → f x ≡ g x) → sum_by f xs ≡ sum_by g xs
sum_alike f g [] same = refl
sum_alike f g (x ∷ xs) same = omega (arith, same x, sum_by-cons f x xs, sum_by-cons g x xs, sum_alike f g xs same)

-- ---- what is counted

rule_kept : (old new : List Relation) (rule : Rule) → AreSameButGiven old new → rule_instances new rule ≡ rule_instances old rule
unfolding rule_instances
rule_kept old new rule are =
    told_at (sum_by_entity (λ n. n ^ rule.vars)) 0 (λ r. refl) old new rule.relation.0 are

rows_kept : (old new : List Relation) (rel : RelId) → AreSameButGiven old new → rows_at new rel ≡ rows_at old rel
rows_kept old new rel are = told_at (λ (r : Relation). r.rows) [] (λ r. refl) old new rel.0 are

copy_kept : (old new : List Relation) (copy : CopyFunction) → AreSameButGiven old new
    → copy_instances new copy ≡ copy_instances old copy
unfolding copy_instances
copy_kept old new copy are =
    ap₂ (λ (t s : List Row). length copy.places * copy_pairs copy t s) (rows_kept old new copy.target are)
    (rows_kept old new copy.source are)

orders_kept : (old new : List Relation) → AreSameButGiven old new → sum_by order_instances new ≡ sum_by order_instances old
unfolding order_instances
orders_kept old new are =
    let bare = sum_bare order_instances (λ r. refl) in
    bare new ∙ (ap (sum_by order_instances) are ∙ sym (bare old))

-- the instances of specifications with the same rules and copy functions
pub instances_kept : (s t : Spec) → AreSameButGiven s.relations t.relations → t.rules ≡ s.rules → t.copies ≡ s.copies
    → instances t ≡ instances s
unfolding instances
instances_kept s t are rules copies =
    let of_rules = sum_alike (rule_instances t.relations) (rule_instances s.relations) t.rules
    (λ rule. rule_kept s.relations t.relations rule are)
    ∙ ap (sum_by (rule_instances s.relations)) rules in
    let of_copies = sum_alike (copy_instances t.relations) (copy_instances s.relations) t.copies
    (λ copy. copy_kept s.relations t.relations copy are)
    ∙ ap (sum_by (copy_instances s.relations)) copies in
    omega (arith, of_rules, of_copies, orders_kept s.relations t.relations are)

pub lists_kept : (old new : List Relation) (lists : List (List (List RowId))) → AreSameButGiven old new
    → AreEntityLists old lists → AreEntityLists new lists
lists_kept old new lists are h =
    record {
      one_each = h.one_each ∙ sym (as_many old new are);
      each = λ rel r at.
          (let kept = kept_from old new rel r are at in
          let rows : kept.relation.rows ≡ r.rows = ap (λ (q : Relation). q.rows) kept.same in
          let entities : length kept.relation.entities ≡ length r.entities = ap (λ (q : Relation). length q.entities) kept.same in
          subst (λ (n : ℕ). AreEntityRows r.rows n (slice_index_or lists rel [])) entities
          (subst (λ rs. AreEntityRows rs (length kept.relation.entities) (slice_index_or lists rel [])) rows
          (h.each rel kept.relation kept.is_relation)));
    }

-- ---- shapes

pub shape_kept : (old new : List Relation) (c : Rankings) → AreSameButGiven old new → HasShape old c → HasShape new c
shape_kept old new c are h =
    record {
      per_relation = h.per_relation ∙ sym (as_many old new are);
      per_attr = λ rel r at.
          (let kept = kept_from old new rel r are at in
          h.per_attr rel kept.relation kept.is_relation ∙ ap (λ (q : Relation). length q.attrs) kept.same);
      per_entity = λ rel r at attr within.
          (let kept = kept_from old new rel r are at in
          let attrs : length kept.relation.attrs ≡ length r.attrs = ap (λ (q : Relation). length q.attrs) kept.same in
          h.per_entity rel kept.relation kept.is_relation attr (omega arith)
          ∙ ap (λ (q : Relation). length q.entities) kept.same);
    }

-- ---- questions

bare_pair : (r : Relation) (p : Pair) → IsGivenPair r p → IsGivenPair (without_pairs r) p
bare_pair r p h = record { attr = h.attr; earlier = h.earlier; later = h.later; one_entity = h.one_entity }

pair_of : (r : Relation) (p : Pair) → IsGivenPair (without_pairs r) p → IsGivenPair r p
pair_of r p h = record { attr = h.attr; earlier = h.earlier; later = h.later; one_entity = h.one_entity }

asked_kept : (old new : List Relation) → AreSameButGiven old new → (p : Asked) → IsAskedPair old p → IsAskedPair new p
asked_kept old new are p h =
    let kept = kept_from new old p.rel.0 h.relation (sym are) h.is_relation in
    record {
      relation = kept.relation;
      is_relation = kept.is_relation;
      pair = pair_of kept.relation p.pair (subst (λ (q : Relation). IsGivenPair q p.pair) (sym kept.same)
          (bare_pair h.relation p.pair h.pair));
    }

pub question_kept : (old new : List Relation) (question : Question) → AreSameButGiven old new
    → IsQuestionOn old question → IsQuestionOn new question
question_kept old new Consistent are h = tt
question_kept old new (Certain pairs) are h =
    All-weaker (IsAskedPair old) (IsAskedPair new) (asked_kept old new are) pairs h
question_kept old new (Same rels) are h =
    record {
      there = All-weaker (λ rel. rel.0 < length old) (λ rel. rel.0 < length new)
          (λ rel within. omega (arith, as_many old new are, within)) rels h.there;
      once = h.once;
    }
question_kept old new (Answers query) are h =
    record {
      is_query = h.is_query;
      few = h.few;
      heads = h.heads;
      disjuncts = All-weaker (IsDisjunctOn old h.heads) (IsDisjunctOn new h.heads)
          (λ d of.
          record {
            few_atoms = of.few_atoms;
            few_tests = of.few_tests;
            few_vars = of.few_vars;
            kinds = of.kinds;
            per_var = of.per_var;
            atoms = All-weaker (IsAtomOn old of.kinds) (IsAtomOn new of.kinds)
                (λ atom fits.
                let kept = kept_from new old atom.relation.0 fits.relation (sym are) fits.is_relation in
                record {
                  relation = kept.relation;
                  is_relation = kept.is_relation;
                  as_many = fits.as_many ∙ ap (λ (q : Relation). length q.attrs + 1) (sym kept.same);
                  terms = λ k t at.
                      subst (λ (q : Relation). IsTermOn of.kinds (slice_get (place_kinds q) k) t) (sym kept.same)
                      (fits.terms k t at);
                }) d.atoms of.atoms;
            tests = of.tests;
            head = of.head;
          }) query.disjuncts h.disjuncts;
    }
