-- What is found by the places of rows, as the definitions say it.
use Rattle.std.proofs.Common.{◌≡◌, ◌∙◌, ℕ, List, [], Some, slice_get, slice_index_or, take, sym, subst}
use Rattle.std.proofs.lemmas.Option.{same_Some}
use Rattle.currency_base.specs.declared.ids.RowId.{RowId}
use Rattle.currency_base.specs.declared.pair.Pair.{Pair}
use Rattle.denial_rules.specs.Rules.{IsRuleOn}
use Rattle.denial_rules.specs.declared.rule.Rule.{Rule}
use Rattle.spec_model.specs.Spec.{Spec}
use Rattle.spec_model.specs.Facts.{IsRelation, IsGivenPair, AreRelations, AreRules, IsRuleOf, kinds_of}
use Rattle.spec_model.specs.Completion.{Rankings, IsCompletion}
use Rattle.spec_model.specs.Consistent.{KeepsGiven, SatisfiesRules, IsCompatibleWith, IsConsistent}
use Rattle.spec_model.specs.FirstFlaw.{IsFirstBroken, IsFirstRuleBroken, IsFirstFlaw}
use Rattle.spec_model.specs.declared.flaw.Flaw.{Flaw}
use Rattle.spec_model.specs.declared.flaw.Flaw.TheVariants.{NotARanking, GivenBroken, RuleBroken, CopyBroken}
use Rattle.spec_model.specs.declared.relation.Relation.{Relation}
use Rattle.completion_check.specs.Tests.{Places}
use Rattle.completion_check.specs.Breaks.{NoRuleBreaks, IsFirstRuleBreak}
use Rattle.completion_check.specs.Flaws.{AreMarkedIn, AreAllInOrder, IsFirstPairOut, IsUnrankedFlaw, IsPairFlaw, IsRuleFlaw}
use Rattle.completion_check.proofs.Kept.{all_at}
use Rattle.completion_check.proofs.Meaning.{IsScene, keeps_in_order, in_order_kept, satisfied_unbroken, broken_breaking}
use Rattle.completion_check.proofs.Places.{at_contains, get_of_take}
use Rattle.completion_check.proofs.Ranked.{fits_relation}

-- a completion of relations, and the places of their rows in it
pub record IsMarkedCompletion (rs : List Relation) (c : Rankings) (places : List Places) : Type 0 where
  pub facts : AreRelations rs
  pub completion : IsCompletion rs c
  pub marked : AreMarkedIn rs c places

pub scene_of : (rs : List Relation) (c : Rankings) (places : List Places) (rel : ℕ) (r : Relation)
    → IsMarkedCompletion rs c places → slice_get rs rel ≡ Some r
    → IsScene r (slice_index_or c rel []) (slice_index_or places rel [])
scene_of rs c places rel r is at =
    record {
      facts = all_at IsRelation rs rel r is.facts.each at;
      fits = fits_relation rs c rel r is.completion.shape at;
      ranked = is.completion.ranked rel r at;
      marked = is.marked rel r at;
    }

-- a given pair of a relation
given_at : (rs : List Relation) (rel k : ℕ) (r : Relation) (p : Pair) → AreRelations rs → slice_get rs rel ≡ Some r
    → slice_get r.given k ≡ Some p → IsGivenPair r p
given_at rs rel k r p facts at at_pair = let is = all_at IsRelation rs rel r facts.each at in all_at (IsGivenPair r)
    r.given k p is.given at_pair

pub keeps_given : (rs : List Relation) (c : Rankings) (places : List Places) → IsMarkedCompletion rs c places
    → AreAllInOrder rs places → KeepsGiven rs c
keeps_given rs c places is order rel r at p contains =
    let found = at_contains r.given p contains in
    keeps_in_order r (slice_index_or c rel []) (slice_index_or places rel []) p (scene_of rs c places rel r is at)
    (given_at rs rel found.0 r p is.facts at found.1)
    (order rel r at found.0 p found.1)

first_broken : (rs : List Relation) (c : Rankings) (places : List Places) (rel : ℕ) (p : Pair) → IsMarkedCompletion
    rs c places → IsFirstPairOut rs places rel p → IsFirstBroken rs c rel p
first_broken rs c places rel p is first =
    let r = first.relation in
    let scene = scene_of rs c places rel r is first.is_relation in
    record {
      relation = r;
      is_relation = first.is_relation;
      place = first.first.place;
      is_pair = first.first.is_pair;
      broken = λ kept. first.first.broken (in_order_kept r (slice_index_or c rel []) (slice_index_or places rel []) p scene
          (given_at rs rel first.first.place r p is.facts first.is_relation first.first.is_pair) kept);
      earlier_relations = λ other q at' p' contains.
          let found = get_of_take rs rel other q at' in
          let there = at_contains q.given p' contains in
          keeps_in_order q (slice_index_or c other []) (slice_index_or places other []) p'
          (scene_of rs c places other q is found.1)
          (given_at rs other there.0 q p' is.facts found.1 there.1) (first.earlier other q found.0 found.1 there.0 p' there.1);
      earlier_pairs = λ p' contains.
          let there = at_contains (take first.first.place r.given) p' contains in
          let found = get_of_take r.given first.first.place there.0 p' there.1 in
          keeps_in_order r (slice_index_or c rel []) (slice_index_or places rel []) p' scene
          (given_at rs rel there.0 r p' is.facts first.is_relation found.1) (first.first.earlier there.0 p' found.0 found.1);
    }

-- a rule fits the relation that it is on
fits_at : (rs : List Relation) (rules : List Rule) (k : ℕ) (rule : Rule) (r : Relation) → AreRules rs rules
    → slice_get rules k ≡ Some rule → slice_get rs rule.relation.0 ≡ Some r
    → IsRuleOn (kinds_of r) rule
fits_at rs rules k rule r are at at_r =
    let is = all_at (IsRuleOf rs) rules k rule are.each at in
    let same : is.relation ≡ r = same_Some is.relation r (sym is.is_relation ∙ at_r) in
    subst (λ (q : Relation). IsRuleOn (kinds_of q) rule) same is.fits

pub satisfies_rules : (rs : List Relation) (rules : List Rule) (c : Rankings) (places : List Places)
    → IsMarkedCompletion rs c places → AreRules rs rules → NoRuleBreaks rs rules places
    → SatisfiesRules rs rules c
satisfies_rules rs rules c places is are none k rule at r at_r rows choice =
    let rel = rule.relation.0 in
    satisfied_unbroken r (slice_index_or c rel []) (slice_index_or places rel []) rule rows
    (scene_of rs c places rel r is at_r) (fits_at rs rules k rule r are at at_r) choice
    (none k rule at r at_r rows choice)

first_rule_broken : (s : Spec) (c : Rankings) (places : List Places) (k : ℕ) (rows : List RowId) → IsMarkedCompletion
    s.relations c places → AreRules s.relations s.rules
    → IsFirstRuleBreak s.relations s.rules places k rows → IsFirstRuleBroken s c k rows
first_rule_broken s c places k rows is are first =
    let rule = first.rule in
    let rel = rule.relation.0 in
    let r = first.relation in
    let scene = scene_of s.relations c places rel r is first.is_relation in
    let fits = fits_at s.relations s.rules k rule r are first.is_rule first.is_relation in
    record {
      rule = rule;
      is_rule = first.is_rule;
      relation = r;
      is_relation = first.is_relation;
      broken = broken_breaking r (slice_index_or c rel []) (slice_index_or places rel []) rule rows scene fits
          first.first.choice first.first.breaks;
      earlier_rules = λ k' rule' at r' at_r others choice.
          let found = get_of_take s.rules k k' rule' at in
          satisfied_unbroken r' (slice_index_or c rule'.relation.0 []) (slice_index_or places rule'.relation.0 []) rule' others
          (scene_of s.relations c places rule'.relation.0 r' is at_r)
          (fits_at s.relations s.rules k' rule' r' are found.1 at_r) choice
          (first.earlier k' rule' at r' at_r others choice);
      earlier_rows = λ others before choice.
          satisfied_unbroken r (slice_index_or c rel []) (slice_index_or places rel []) rule others scene fits choice
          (first.first.earlier others before choice);
    }

-- the flaws that are found are those of the definition
pub unranked_flaw : (s : Spec) (c : Rankings) (flaw : Flaw) → IsUnrankedFlaw s.relations c flaw → IsFirstFlaw s c flaw
unranked_flaw s c (NotARanking rel attr ent) is = is
unranked_flaw s c (GivenBroken rel pair) is = absurd is
unranked_flaw s c (RuleBroken rule rows) is = absurd is
unranked_flaw s c (CopyBroken copy place first second) is = absurd is

pub pair_flaw : (s : Spec) (c : Rankings) (places : List Places) (flaw : Flaw) → IsMarkedCompletion s.relations c
    places → IsPairFlaw s.relations places flaw → IsFirstFlaw s c flaw
pair_flaw s c places (NotARanking rel attr ent) is found = absurd found
pair_flaw s c places (GivenBroken rel pair) is found = (is.completion, first_broken s.relations c places rel.0 pair is found)
pair_flaw s c places (RuleBroken rule rows) is found = absurd found
pair_flaw s c places (CopyBroken copy place first second) is found = absurd found

pub rule_flaw : (s : Spec) (c : Rankings) (places : List Places) (flaw : Flaw) → IsMarkedCompletion s.relations c
    places → AreRules s.relations s.rules → AreAllInOrder s.relations places
    → IsRuleFlaw s.relations s.rules places flaw → IsFirstFlaw s c flaw
rule_flaw s c places (NotARanking rel attr ent) is are order found = absurd found
rule_flaw s c places (GivenBroken rel pair) is are order found = absurd found
rule_flaw s c places (RuleBroken rule rows) is are order found =
    (is.completion, keeps_given s.relations c places is order, first_rule_broken s c places rule.0 rows is are found)
rule_flaw s c places (CopyBroken copy place first second) is are order found = absurd found

pub consistent : (s : Spec) (c : Rankings) (places : List Places) → IsMarkedCompletion s.relations c places
    → AreRules s.relations s.rules → AreAllInOrder s.relations places
    → NoRuleBreaks s.relations s.rules places → IsCompatibleWith s.relations s.copies c → IsConsistent s c
consistent s c places is are order none compatible =
    record {
      completion = is.completion;
      given = keeps_given s.relations c places is order;
      rules = satisfies_rules s.relations s.rules c places is are none;
      copies = compatible;
    }
