-- Labels are equal just where links lead.
use Rattle.std.proofs.Common.{◌≡◌, ◌≢◌, ◌<◌, ◌≤◌, ◌⊎◌, ◌∙◌, ◌+◌, ℕ, List, All, Some, length, slice_get, refl, sym, ap, subst, inl, inr, arith}
use Rattle.std.proofs.lemmas.Bool.{cases_eq, cases_lt}
use Rattle.std.proofs.lemmas.Option.{same_Some, slice_get_within}
use Rattle.part_laws.proofs.Rows.{there, at_place, place_of, all_at}
use Rattle.entity_ties.specs.declared.links.Link.{Link}
use Rattle.entity_ties.specs.Classes.{HasLink, AreLinked, here, onward, backward, AreLabels, AreClasses, AreSingle, AreAcross, IsJoined, IsUnited, united}
use Rattle.entity_ties.proofs.Joining.{united_kept, united_moved}

-- ---- chains of links

pub linked_on : (links : List Link) (a b c : ℕ) → AreLinked links a b → AreLinked links b c → AreLinked links a c
linked_on links a b c first (here _) = first
linked_on links a b c first (onward _ d _ second has) = onward a d c (linked_on links a b d first second) has
linked_on links a b c first (backward _ d _ second has) = backward a d c (linked_on links a b d first second) has

pub linked_back : (links : List Link) (a b : ℕ) → AreLinked links a b → AreLinked links b a
linked_back links a b (here _) = here a
linked_back links a b (onward _ c _ first has) = linked_on links b c a (backward b b c (here b) has) (linked_back links a c first)
linked_back links a b (backward _ c _ first has) = linked_on links b c a (onward b b c (here b) has) (linked_back links a c first)

-- ---- two numbers are joined

-- they were in one class
pub joined_same : (one other : ℕ) (labels : List ℕ) → slice_get labels one ≡ slice_get labels other
    → IsJoined one other labels labels
joined_same one other labels same = record {
  many = refl;
  equal = same;
  kept = λ a b in_a in_b e. e;
  sound = λ a b in_a in_b e. inl e;
}

-- their labels are made one
pub joined : (one other p q : ℕ) (old new : List ℕ) → slice_get old one ≡ Some p → slice_get old other ≡ Some q
    → p ≢ q → IsUnited p q old new
    → IsJoined one other old new
joined one other p q old new at_one at_other apart is = record {
  many = is.many;
  equal = is.each one p at_one ∙ (ap Some (united_moved p q p refl ∙ sym (united_kept p q q (λ e. apart (sym e))))
      ∙ sym (is.each other q at_other));
  kept = kept;
  sound = sound;
}
  where
    kept : (a b : ℕ) → a < length old → b < length old → slice_get old a ≡ slice_get old b → slice_get new a ≡ slice_get new b
    kept a b in_a in_b e =
        let n = there old a in_a in
        is.each a n.0 n.1 ∙ sym (is.each b n.0 (sym e ∙ n.1))

    sound : (a b : ℕ) → a < length old → b < length old → slice_get new a ≡ slice_get new b
        → (slice_get old a ≡ slice_get old b) ⊎ (AreAcross old one other a b ⊎ AreAcross old other one a b)
    sound a b in_a in_b e = by n.0 m.0 n.1 m.1 (cases_eq n.0 p) (cases_eq m.0 p) same
      where
        n : (n : ℕ) × (slice_get old a ≡ Some n)
        n = there old a in_a

        m : (m : ℕ) × (slice_get old b ≡ Some m)
        m = there old b in_b

        same : united p q n.0 ≡ united p q m.0
        same = same_Some (united p q n.0) (united p q m.0) (sym (is.each a n.0 n.1) ∙ (e ∙ is.each b m.0 m.1))

        by : (n m : ℕ) → slice_get old a ≡ Some n → slice_get old b ≡ Some m → (n ≡ p) ⊎ (n ≡ p → ⊥) → (m ≡ p) ⊎ (m ≡ p → ⊥)
            → united p q n ≡ united p q m
            → (slice_get old a ≡ slice_get old b) ⊎ (AreAcross old one other a b ⊎ AreAcross old other one a b)
        by n m at_a at_b (inl x) (inl y) s = inl (at_a ∙ (ap Some (x ∙ sym y) ∙ sym at_b))
        by n m at_a at_b (inl x) (inr y) s =
            let is_q : q ≡ m = sym (united_moved p q n x) ∙ (s ∙ united_kept p q m y) in
            inr (inl (record { first = at_a ∙ (ap Some x ∙ sym at_one); second = at_b ∙ (ap Some (sym is_q) ∙ sym at_other) }))
        by n m at_a at_b (inr x) (inl y) s =
            let is_q : n ≡ q = sym (united_kept p q n x) ∙ (s ∙ united_moved p q m y) in
            inr (inr (record { first = at_a ∙ (ap Some is_q ∙ sym at_other); second = at_b ∙ (ap Some y ∙ sym at_one) }))
        by n m at_a at_b (inr x) (inr y) s =
            let is_m : n ≡ m = sym (united_kept p q n x) ∙ (s ∙ united_kept p q m y) in
            inl (at_a ∙ (ap Some is_m ∙ sym at_b))

-- either way round
pub joined_round : (one other : ℕ) (old new : List ℕ) → IsJoined other one old new → IsJoined one other old new
joined_round one other old new is = record {
  many = is.many;
  equal = sym is.equal;
  kept = is.kept;
  sound = λ a b in_a in_b e. by (is.sound a b in_a in_b e);
}
  where
    by : {a b : ℕ} → (slice_get old a ≡ slice_get old b) ⊎ (AreAcross old other one a b ⊎ AreAcross old one other a b)
        → (slice_get old a ≡ slice_get old b) ⊎ (AreAcross old one other a b ⊎ AreAcross old other one a b)
    by (inl h) = inl h
    by (inr (inl h)) = inr (inr h)
    by (inr (inr h)) = inr (inl h)

-- ---- all links, one after another

-- labels after the links below a place: equal only where links lead, and equal at both ends of each of those links
pub record IsSoFar (count : ℕ) (links : List Link) (place : ℕ) (labels : List ℕ) (members : List (List ℕ)) : Type 0 where
  pub classes : AreClasses labels members
  pub many : length labels ≡ count
  pub sound : (a b : ℕ) → a < count → b < count → slice_get labels a ≡ slice_get labels b → AreLinked links a b
  pub met : (k : ℕ) (link : Link) → k < place → slice_get links k ≡ Some link → slice_get labels link.one ≡ slice_get
      labels link.other

pub so_far_none : (count : ℕ) (links : List Link) (labels : List ℕ) (members : List (List ℕ)) → AreSingle count labels members
    → IsSoFar count links 0 labels members
so_far_none count links labels members s = record {
  classes = s.classes;
  many = s.many;
  sound = λ a b in_a in_b e. subst (AreLinked links a) (same_Some a b (sym (s.own a in_a) ∙ (e ∙ s.own b in_b))) (here a);
  met = λ k link below at. absurd (omega arith);
}

pub so_far_more : (count place : ℕ) (links : List Link) (link : Link) (old new : List ℕ) (members now : List (List ℕ))
    → slice_get links place ≡ Some link → All (λ (l : Link). (l.one < count) × (l.other < count)) links
    → IsSoFar count links place old members
    → IsJoined link.one link.other old new → AreClasses new now → IsSoFar count links (place + 1) new now
so_far_more count place links link old new members now at within far is classes = record {
  classes = classes;
  many = is.many ∙ far.many;
  sound = λ a b in_a in_b e. sound a b in_a in_b (is.sound a b (omega (arith, far.many)) (omega (arith, far.many)) e);
  met = λ k l below at_k. met k l at_k (cases_lt k place) below;
}
  where
    inside : (link.one < count) × (link.other < count)
    inside = all_at (λ (l : Link). (l.one < count) × (l.other < count)) links place link within at

    has : HasLink links link.one link.other
    has = at_place links place link at

    sound : (a b : ℕ) → a < count → b < count
        → (slice_get old a ≡ slice_get old b) ⊎ (AreAcross old link.one link.other a b ⊎ AreAcross old link.other
        link.one a b) → AreLinked links a b
    sound a b in_a in_b (inl e) = far.sound a b in_a in_b e
    sound a b in_a in_b (inr (inl h)) =
        linked_on links a link.other b (onward a link.one link.other (far.sound a link.one in_a inside.0 h.first) has)
        (far.sound link.other b inside.1 in_b (sym h.second))
    sound a b in_a in_b (inr (inr h)) =
        linked_on links a link.one b (backward a link.other link.one (far.sound a link.other in_a inside.1 h.first) has)
        (far.sound link.one b inside.0 in_b (sym h.second))

    met : (k : ℕ) (l : Link) → slice_get links k ≡ Some l → (k < place) ⊎ (place ≤ k) → k < place + 1
        → slice_get new l.one ≡ slice_get new l.other
    met k l at_k (inl low) below =
        let in_l = all_at (λ (l : Link). (l.one < count) × (l.other < count)) links k l within at_k in
        is.kept l.one l.other (omega (arith, in_l.0, far.many)) (omega (arith, in_l.1, far.many)) (far.met k l low at_k)
    met k l at_k (inr high) below =
        let same : place ≡ k = omega arith in
        let one : link ≡ l = same_Some link l (sym at ∙ (ap (slice_get links) same ∙ at_k)) in
        subst (λ (l : Link). slice_get new l.one ≡ slice_get new l.other) one is.equal

pub so_far_all : (count place : ℕ) (links : List Link) (labels : List ℕ) (members : List (List ℕ)) → length links ≤ place
    → IsSoFar count links place labels members → AreLabels links labels
so_far_all count place links labels members all far = record {
  within = far.classes.within;
  exact = λ a b in_a in_b. (λ e. far.sound a b (omega (arith, far.many)) (omega (arith, far.many)) e, λ l. equal a b l);
}
  where
    ends : (a b : ℕ) → HasLink links a b → slice_get labels a ≡ slice_get labels b
    ends a b has =
        let at = place_of links (record { one = a; other = b }) has in
        far.met at.0 (record { one = a; other = b })
        (omega (arith, slice_get_within links at.0 (record { one = a; other = b }) at.1)) at.1

    equal : (a b : ℕ) → AreLinked links a b → slice_get labels a ≡ slice_get labels b
    equal a b (here _) = refl
    equal a b (onward _ c _ first has) = equal a c first ∙ ends c b has
    equal a b (backward _ c _ first has) = equal a c first ∙ sym (ends b c has)
