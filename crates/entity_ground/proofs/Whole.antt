-- The parts of the grounds, one by one and together.
use Rattle.std.proofs.Common.{◌≡◌, ◌+◌, ◌<◌, ℕ, zero, suc, List, [], ◌∷◌, ◌++◌, length, take, get_or, Some, slice_get, refl, sym, ap, ◌∙◌, arith}
use Rattle.std.specs.List.{AllZip, All, flat_map, range_with_len}
use Rattle.std.proofs.lemmas.List.{append-nil, take_more}
use Rattle.std.proofs.lemmas.List.Concat.{flat_map-append}
use Rattle.std.proofs.lemmas.List.Elements.{All-contains}
use Rattle.std.proofs.lemmas.Option.{same_Some, none-some}
use Rattle.currency_base.specs.declared.ids.RowId.{RowId}
use Rattle.copied_pairs.specs.declared.pairs.CopiedPair.{CopiedPair}
use Rattle.denial_rules.specs.declared.rule.Rule.{Rule}
use Rattle.spec_model.specs.Spec.{Spec}
use Rattle.spec_model.specs.Facts.{IsRelation, AreRelations, IsRuleOf, AreRules}
use Rattle.spec_model.specs.declared.relation.Relation.{Relation}
use Rattle.entity_ground.specs.Grounds.{grounds_of, AreGrounds, AreRuleGrounds, AreCopyGrounds}
use Rattle.entity_ground.specs.Parts.{AreListed, ArePaired}
use Rattle.entity_ground.proofs.Among.{from_place, to_contains}
use Rattle.entity_ground.proofs.Listed.{listed_exactly}

-- ---- lists that go together

zip_push : {A B : Type 0} (R : A → B → Type 0) (xs : List A) (ys : List B) (x : A) (y : B) → AllZip R xs ys → R x y
    → AllZip R (xs ++ x ∷ []) (ys ++ y ∷ [])
zip_push R [] [] x y all one = (one, tt)
zip_push R [] (z ∷ ys) x y all one = absurd all
zip_push R (z ∷ xs) [] x y all one = absurd all
zip_push R (z ∷ xs) (w ∷ ys) x y all one = (all.0, zip_push R xs ys x y all.1 one)

-- one more of each
pub zip_more : {A B : Type 0} (R : A → B → Type 0) (xs : List A) (ys now : List B) (i : ℕ) (x : A) (y : B)
    → i < length xs → x ≡ get_or xs i x
    → AllZip R (take i xs) ys → R x y → now ≡ ys ++ y ∷ [] → AllZip R (take (i + 1) xs) now
zip_more R xs ys now i x y below is all one after =
    let next : take (i + 1) xs ≡ take i xs ++ x ∷ [] = take_more xs i x below ∙ ap (λ z. take i xs ++ z ∷ []) (sym is) in
    rw (next, after) (zip_push R (take i xs) ys x y all one)

zip_length : {A B : Type 0} (R : A → B → Type 0) (xs : List A) (ys : List B) → AllZip R xs ys → length ys ≡ length xs
zip_length R [] [] all = refl
zip_length R [] (y ∷ ys) all = absurd all
zip_length R (x ∷ xs) [] all = absurd all
zip_length R (x ∷ xs) (y ∷ ys) all = ap (λ n. suc n) (zip_length R xs ys all.1)

zip_both : {A B : Type 0} (R : A → B → Type 0) (xs : List A) (ys : List B) (k : ℕ) (x : A) (y : B) → AllZip R xs ys
    → slice_get xs k ≡ Some x → slice_get ys k ≡ Some y → R x y
zip_both R [] ys k x y all at there = absurd (none-some x at)
zip_both R (z ∷ xs) [] k x y all at there = absurd all
zip_both R (z ∷ xs) (w ∷ ys) zero x y all at there = rw (sym (same_Some z x at), sym (same_Some w y there)) all.0
zip_both R (z ∷ xs) (w ∷ ys) (suc k) x y all at there = zip_both R xs ys k x y all.1 at there

zip_there : {A B : Type 0} (R : A → B → Type 0) (xs : List A) (ys : List B) (k : ℕ) (x : A) → AllZip R xs ys
    → slice_get xs k ≡ Some x → (y : B) × (slice_get ys k ≡ Some y) × R x y
zip_there R [] ys k x all at = absurd (none-some x at)
zip_there R (z ∷ xs) [] k x all at = absurd all
zip_there R (z ∷ xs) (w ∷ ys) zero x all at = (w, refl, rw (sym (same_Some z x at)) all.0)
zip_there R (z ∷ xs) (w ∷ ys) (suc k) x all at = zip_there R xs ys k x all.1 at

-- ---- entity by entity

range_push : (first count : ℕ) → range_with_len first (count + 1) ≡ range_with_len first count ++ (first + count) ∷ []
range_push first zero = ap (λ n. n ∷ []) (omega arith)
range_push first (suc count) =
    let next : suc count + 1 ≡ suc (count + 1) = omega arith in
    let last : first + 1 + count ≡ first + suc count = omega arith in
    rw next (ap (λ l. first ∷ l) (range_push (first + 1) count ∙ ap (λ n. range_with_len (first + 1) count ++ n ∷ []) last))

-- what one entity more makes
pub entity_more : {A : Type 0} (make : ℕ → List A) (made now : List A) (ent : ℕ) → made ≡ flat_map make
    (range_with_len 0 ent) → now ≡ made ++ make ent
    → now ≡ flat_map make (range_with_len 0 (ent + 1))
entity_more make made now ent before after =
    let last : 0 + ent ≡ ent = omega arith in
    let range : range_with_len 0 (ent + 1) ≡ range_with_len 0 ent ++ ent ∷ [] = range_push 0 ent
    ∙ ap (λ n. range_with_len 0 ent ++ n ∷ []) last in
    after ∙ ap (λ l. l ++ make ent) before
    ∙ ap (λ l. flat_map make (range_with_len 0 ent) ++ l) (sym (append-nil (make ent)))
    ∙ sym (flat_map-append make (range_with_len 0 ent) (ent ∷ []))
    ∙ ap (λ l. flat_map make l) (sym range)

-- ---- the whole

all_at : {A : Type 0} (P : A → Type 0) (xs : List A) (k : ℕ) (x : A) → All P xs → slice_get xs k ≡ Some x → P x
all_at P xs k x all at = All-contains P xs x all (to_contains xs x (from_place xs k x at))

exact_grounds : (relations : List Relation) (rules : List Rule) (k : ℕ) (rule : Rule) (r : Relation)
    (grounds : List (List RowId)) → AreRelations relations → AreRules relations rules
    → slice_get rules k ≡ Some rule → slice_get relations rule.relation.0 ≡ Some r → grounds ≡ grounds_of rule r
    → AreGrounds rule r.rows grounds
exact_grounds relations rules k rule r grounds are are_rules at of same =
    let of_relation = all_at (IsRuleOf relations) rules k rule are_rules.each at in
    let facts = all_at IsRelation relations rule.relation.0 r are.each of in
    rw same (listed_exactly rule r of_relation.fits.some_var facts.entities)

pub rules_whole : (s : Spec) (rules : List (List (List RowId))) → AreRelations s.relations → AreRules s.relations s.rules
    → AllZip (AreListed s.relations) s.rules rules → AreRuleGrounds s rules
rules_whole s rules are are_rules all =
    record {
      per_rule = zip_length (AreListed s.relations) s.rules rules all;
      listed = λ k rule r at of.
          let there = zip_there (AreListed s.relations) s.rules rules k rule all at in
          there.1 ∙ ap (λ g. Some g) (there.2 r of);
      exact = λ k rule r grounds at of there.
          exact_grounds s.relations s.rules k rule r grounds are are_rules at of
          (zip_both (AreListed s.relations) s.rules rules k rule grounds all at there r of);
    }

pub copies_whole : (s : Spec) (copies : List (List CopiedPair)) → AllZip (ArePaired s.relations) s.copies copies
    → AreCopyGrounds s copies
copies_whole s copies all =
    record {
      per_copy = zip_length (ArePaired s.relations) s.copies copies all;
      exact = λ k copy target source pairs at is_target is_source there.
          zip_both (ArePaired s.relations) s.copies copies k copy pairs all at there target source is_target is_source;
    }
