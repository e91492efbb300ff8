-- Questions on relations: each is asked about once.
use Rattle.std.proofs.Common.{◌≡◌, ◌∙◌, ◌+◌, ◌<◌, ◌≤◌, ◌||◌, ◌∷◌, ◌++◌, ℕ, zero, suc, Bool, true, false, cond, eqb, List, [], length, drop, take, get_or, set, map, Option, Some, None, Result, Ok, Err, All, Contains, IfOk, refl, sym, ap, subst, arith, slice_get}
use Rattle.std.specs.List.{list_any}
use Rattle.std.proofs.lemmas.Bool.{eq-eqb, eqb-true, false≢true}
use Rattle.std.proofs.lemmas.List.{at_drop_all, at_drop_more, get_or-set_other, get_or-set_same, length-map, length-set, take_more}
use Rattle.std.proofs.lemmas.List.Elements.{All-map, Contains-append_left, Contains-push}
use Rattle.std.proofs.lemmas.List.Folds.{list_any-append}
use Rattle.std.proofs.lemmas.Option.{none-some, same_Some, slice_get-get_or, slice_get_read, slice_get_within, get_or_from_slice_get}
use Rattle.currency_base.specs.Lists.{OnlyOnce}
use Rattle.currency_base.specs.declared.error_code.ErrorCode.TheVariants.{DuplicateName}
use Rattle.currency_base.specs.declared.ids.RelId.{RelId}
use Rattle.text_grammar.specs.declared.named.Named.{Named}
use Rattle.bind_faults.specs.Faults.{all_of, and_then, refused_at, unless, IsDue}
use Rattle.bind_faults.specs.declared.fault.BindFault.{BindFault}
use Rattle.bind_faults.proofs.Outcomes.{due_same}
use Rattle.spec_model.specs.Questions.{IsQuestionOn}
use Rattle.spec_model.specs.declared.question.Question.{Question}
use Rattle.spec_model.specs.declared.question.Question.TheVariants.{Same}
use Rattle.spec_model.specs.declared.relation.Relation.{Relation}
use Rattle.order_bind.proofs.OrderPairs.{all_of-length, found_place, place_within}
use Rattle.order_bind.proofs.Answered.{each_answer}
use Rattle.question_bind.specs.Asked.{relation_named}
use Rattle.question_bind.specs.Bound.{first_again, rel_ids, same_of}
use Rattle.question_bind.specs.Steps.{named_in, same_in, unless_again}
use Rattle.question_bind.proofs.Lists.{then_same}

-- ---- going over places

or_true : (b : Bool) → (b || true) ≡ true
or_true true = refl
or_true false = refl

or_false : (b : Bool) → (b || false) ≡ b
or_false true = refl
or_false false = refl

drop_at : {A : Type 0} (xs : List A) (i : ℕ) (x : A) → i < length xs → x ≡ get_or xs i x → drop i xs ≡ x ∷ drop (i + 1) xs
drop_at xs i x lt is = at_drop_more (λ ys. ys) xs i x lt ∙ ap (λ y. y ∷ drop (i + 1) xs) (sym is)

-- what is left to be seen, behind what was seen, is the whole
pub record IsGoing (names : List Named) (places : List ℕ) (i : ℕ) : Type 0 where
  pub rest : first_again (take i places) (drop i names) (drop i places) ≡ first_again [] names places

pub going_none : (names : List Named) (places : List ℕ) → IsGoing names places 0
going_none names places = record { rest = refl }

here : (names : List Named) (places : List ℕ) (i place : ℕ) (name : Named) (seen : Bool) → IsGoing names places i
    → i < length names → i < length places
    → name ≡ get_or names i name → place ≡ get_or places i place → list_any (λ r. eqb r place) (take i places) ≡ seen
    → cond seen (Some (refused_at DuplicateName name)) (first_again (take i places ++ place ∷ [])
    (drop (i + 1) names) (drop (i + 1) places)) ≡ first_again [] names places
here names places i place name seen so in_names in_places is_name is_place is =
    ap (λ s. cond s (Some (refused_at DuplicateName name)) (first_again (take i places ++ place ∷ [])
    (drop (i + 1) names) (drop (i + 1) places))) (sym is)
    ∙ ap (λ ns. first_again (take i places) ns (place ∷ drop (i + 1) places)) (sym (drop_at names i name in_names is_name))
    ∙ ap (first_again (take i places) (drop i names)) (sym (drop_at places i place in_places is_place))
    ∙ so.rest

pub going_more : (names : List Named) (places : List ℕ) (i place : ℕ) (name : Named) → IsGoing names places i
    → i < length names → i < length places
    → name ≡ get_or names i name → place ≡ get_or places i place → list_any (λ r. eqb r place) (take i places) ≡
    false → IsGoing names places (i + 1)
going_more names places i place name so in_names in_places is_name is_place is = record {
  rest =
      ap (λ ps. first_again ps (drop (i + 1) names) (drop (i + 1) places)) (take_more places i place in_places
      ∙ ap (λ p. take i places ++ p ∷ []) (sym is_place))
      ∙ here names places i place name false so in_names in_places is_name is_place is;
}

pub going_again : (names : List Named) (places : List ℕ) (i place : ℕ) (name : Named) → IsGoing names places i
    → i < length names → i < length places
    → name ≡ get_or names i name → place ≡ get_or places i place → list_any (λ r. eqb r place) (take i places) ≡ true
    → first_again [] names places ≡ Some (refused_at DuplicateName name)
going_again names places i place name so in_names in_places is_name is_place is =
    sym (here names places i place name true so in_names in_places is_name is_place is)

pub going_all : (names : List Named) (places : List ℕ) (i : ℕ) → IsGoing names places i → length names ≤ i
    → first_again [] names places ≡ None
going_all names places i so le = sym so.rest ∙ at_drop_all (λ ns. first_again (take i places) ns (drop i places)) names i le

-- the marks of the places that were seen
pub record AreMarked (count : ℕ) (marks : List Bool) (seen : List ℕ) : Type 0 where
  pub many : length marks ≡ count
  pub each : (k : ℕ) → k < count → get_or marks k false ≡ list_any (λ r. eqb r k) seen

pub marked_more : (count : ℕ) (marks : List Bool) (places : List ℕ) (i place : ℕ) → AreMarked count marks
    (take i places) → i < length places → place ≡ get_or places i place
    → place < count → AreMarked count (set marks place true) (take (i + 1) places)
marked_more count marks places i place so in_places is_place within = record {
  many = length-set marks place true ∙ so.many;
  each = λ k lt. by k lt (eqb place k) refl
      ∙ sym (list_any-append (λ r. eqb r k) (take i places) (place ∷ []))
      ∙ ap (λ p. list_any (λ r. eqb r k) (take i places ++ p ∷ [])) is_place
      ∙ ap (list_any (λ r. eqb r k)) (sym (take_more places i place in_places));
}
  where
    by : (k : ℕ) → k < count → (same : Bool) → eqb place k ≡ same
        → get_or (set marks place true) k false ≡ (list_any (λ r. eqb r k) (take i places) || list_any (λ r. eqb r k)
        (place ∷ []))
    by k lt true is =
        let same : place ≡ k = eqb-true place k is in
        ap (λ j. get_or (set marks place true) j false) (sym same)
        ∙ get_or-set_same marks place true false (omega (arith, so.many, within))
        ∙ sym (ap (λ s. list_any (λ r. eqb r k) (take i places) || (s || false)) is
        ∙ or_true (list_any (λ r. eqb r k) (take i places)))
    by k lt false is =
        get_or-set_other marks place k true false (λ same. false≢true (sym is ∙ eq-eqb place k (sym same)))
        ∙ so.each k lt
        ∙ sym (ap (λ s. list_any (λ r. eqb r k) (take i places) || (s || false)) is
        ∙ or_false (list_any (λ r. eqb r k) (take i places)))

-- a marked place stood before
pub refused_again : (count : ℕ) (names : List Named) (places : List ℕ) (i : ℕ) (name : Named) (marks : List Bool)
    (mark : Bool) (e : BindFault) → AreMarked count marks (take i places) → IsGoing names places i
    → i < length names → length names ≡ length places → All (λ place. place < count) places → name ≡ get_or names i name
    → mark ≡ get_or marks (get_or places i 0) mark → mark ≡ true → e ≡ refused_at DuplicateName name
    → IsDue (unless_again names places) (Err e)
refused_again count names places i name marks mark e marked so lt many within is_name is_mark marked_true is_e =
    let place : ℕ = get_or places i 0 in
    let in_places : i < length places = omega (arith, lt, many) in
    let low : place < count = within i 0 in_places in
    let at : slice_get marks place ≡ Some mark = slice_get_read marks (length marks) place mark refl
    (omega (arith, marked.many, low)) is_mark in
    let before : list_any (λ r. eqb r place) (take i places) ≡ true = sym (marked.each place low)
    ∙ get_or_from_slice_get marks place mark false at ∙ marked_true in
    let is_place : place ≡ get_or places i place = sym (get_or_from_slice_get places i place place
    (slice_get-get_or places i 0 in_places)) in
    let again = going_again names places i place name so lt in_places is_name is_place before in
    due_same (unless_again names places) (Err e) (ap (λ a. unless a (Ok (rel_ids places))) again ∙ ap Err (sym is_e))

-- ---- what is asked about

-- a place that was seen is found again
in_any : (xs : List ℕ) (x k : ℕ) → k < length xs → get_or xs k x ≡ x → list_any (λ r. eqb r x) xs ≡ true
in_any [] x k lt is = absurd (omega arith)
in_any (y ∷ ys) x zero lt is = ap (λ s. s || list_any (λ r. eqb r x) ys) (eq-eqb y x is)
in_any (y ∷ ys) x (suc k) lt is = ap (λ s. eqb y x || s) (in_any ys x k (omega arith) is) ∙ or_true (eqb y x)

-- places of which none stands before, and none twice
record AreNew (so_far places : List ℕ) : Type 0 where
  once : OnlyOnce places
  apart : (x : ℕ) → Contains so_far x → Contains places x → ⊥

are_new : (names : List Named) (so_far places : List ℕ) → length names ≡ length places → first_again so_far names
    places ≡ None → AreNew so_far places
are_new names so_far [] many none =
    record { once = λ i j x at_i at_j. absurd (none-some x at_i); apart = λ x before (k, lt, at). absurd (omega (arith, lt)) }
are_new [] so_far (place ∷ places) many none = absurd (omega arith)
are_new (name ∷ names) so_far (place ∷ places) many none = by (list_any (λ r. eqb r place) so_far) refl none
    (λ rest. are_new names (so_far ++ place ∷ []) places (omega arith) rest)
  where
    once : AreNew (so_far ++ place ∷ []) places → OnlyOnce (place ∷ places)
    once new zero zero x at_i at_j = refl
    once new zero (suc j) x at_i at_j =
        let same : place ≡ x = same_Some place x at_i in
        absurd (new.apart x (subst (λ y. Contains (so_far ++ y ∷ []) x) (sym same) (Contains-push so_far x))
        (j, slice_get_within places j x at_j, get_or_from_slice_get places j x x at_j))
    once new (suc i) zero x at_i at_j =
        let same : place ≡ x = same_Some place x at_j in
        absurd (new.apart x (subst (λ y. Contains (so_far ++ y ∷ []) x) (sym same) (Contains-push so_far x))
        (i, slice_get_within places i x at_i, get_or_from_slice_get places i x x at_i))
    once new (suc i) (suc j) x at_i at_j = ap suc (new.once i j x at_i at_j)

    apart : list_any (λ r. eqb r place) so_far ≡ false → AreNew (so_far ++ place ∷ []) places → (x : ℕ)
        → Contains so_far x → Contains (place ∷ places) x → ⊥
    apart not_any new x (k, lt, at) (zero, lt', at') =
        false≢true (sym not_any ∙ in_any so_far place k lt (subst (λ y. get_or so_far k y ≡ y) (sym at') at))
    apart not_any new x before (suc k, lt', at') = new.apart x (Contains-append_left so_far (place ∷ []) x before)
        (k, omega arith, at')

    by : (before : Bool) → list_any (λ r. eqb r place) so_far ≡ before → cond before
        (Some (refused_at DuplicateName name)) (first_again (so_far ++ place ∷ []) names places) ≡ None
        → (first_again (so_far ++ place ∷ []) names places ≡ None → AreNew (so_far ++ place ∷ []) places)
        → AreNew so_far (place ∷ places)
    by true at now later = absurd (cc)
    by false at now later = let new = later now in record { once = once new; apart = apart at new }

-- ids of different places are different
ids_once : (places : List ℕ) → OnlyOnce places → OnlyOnce (rel_ids places)
ids_once places once i j x at_i at_j = once i j x.0 (place_at places i x at_i) (place_at places j x at_j)
  where
    place_at : (ps : List ℕ) (k : ℕ) (y : RelId) → slice_get (rel_ids ps) k ≡ Some y → slice_get ps k ≡ Some y.0
    place_at [] k y at = absurd (none-some y at)
    place_at (p ∷ ps) zero y at =
        let same : ◌≡◌ {A = RelId} (record { 0 = p }) y = same_Some _ y at in ap (λ (id : RelId). Some id.0) same
    place_at (p ∷ ps) (suc k) y at = place_at ps k y at

-- the relation of a name is one of them
named_within : (relations : List Relation) (named : Named) (rel : ℕ) → relation_named relations named ≡ Ok rel
    → rel < length relations
named_within relations named rel is =
    omega (
      arith,
      place_within (map (λ (r : Relation). r.name) relations) named.name rel (found_place _ _ rel is),
      length-map relations (λ (r : Relation). r.name),
    )

-- so such a question may be asked
pub same_fits : (relations : List Relation) (names : List Named) (question : Question) → same_of relations names ≡ Ok
    question → IsQuestionOn relations question
same_fits relations names question is = by (all_of (relation_named relations) names) refl is
  where
    unless_any : (rels : List ℕ) → all_of (relation_named relations) names ≡ Ok rels → (again : Option BindFault)
        → first_again [] names rels ≡ again
        → unless again (Ok (Same (rel_ids rels))) ≡ Ok question → IsQuestionOn relations question
    unless_any rels found (Some fault) at now = absurd (cc)
    unless_any rels found None at now =
        let same : Same (rel_ids rels) ≡ question = cc in
        let many : length names ≡ length rels = sym (all_of-length (relation_named relations) names rels found) in
        let within : All (λ rel. rel < length relations) rels =
        each_answer (λ (n : Named). Unit {0}) (λ rel. rel < length relations) (relation_named relations)
        (λ n rel any. named_within relations n rel) names rels (λ k d below. tt) found in
        subst (IsQuestionOn relations) same (record {
          there = All-map (λ (rel : RelId). rel.0 < length relations)
              (λ (rel : ℕ). let id : RelId = record { 0 = rel } in id) rels within;
          once = ids_once rels (are_new names [] rels many at).once;
        })

    by : (rels : Result (List ℕ) BindFault) → all_of (relation_named relations) names ≡ rels
        → and_then rels (λ places. unless (first_again [] names places) (Ok (Same (rel_ids places)))) ≡ Ok question
        → IsQuestionOn relations question
    by (Err e) at now = absurd (cc)
    by (Ok rels) at now = unless_any rels at (first_again [] names rels) refl now

-- ---- the question

-- the names are those of the relations
pub same_as : (relations : List Relation) (names : List (List ℕ)) (named : List Named) → names ≡ map
    (λ (r : Relation). r.name) relations → same_in names named ≡ same_of relations named
same_as relations names named are =
    ap (λ (ns : List (List ℕ)). same_in ns named) are
    ∙ then_same (all_of (relation_named relations) named) (λ places. and_then (unless_again named places)
    (λ rels. Ok (Same rels)))
    (λ places. unless (first_again [] named places) (Ok (Same (rel_ids places))))
    (λ places. by places (first_again [] named places))
  where
    by : (places : List ℕ) (again : Option BindFault) → and_then (unless again (Ok (rel_ids places)))
        (λ rels. Ok (Same rels)) ≡ unless again (Ok (Same (rel_ids places)))
    by places None = refl
    by places (Some fault) = refl

-- so that a question may be asked
pub same_due : (relations : List Relation) (names : List (List ℕ)) (named : List Named)
    (result : Result Question BindFault) → names ≡ map (λ (r : Relation). r.name) relations
    → IsDue (same_in names named) result → IsDue (same_of relations named) result
same_due relations names named result are due = subst (λ (q : Result Question BindFault). IsDue q result)
    (same_as relations names named are) due

pub same_asked : (relations : List Relation) (names : List Named) (result : Result Question BindFault)
    → IsDue (same_of relations names) result → IfOk result (IsQuestionOn relations)
same_asked relations names (Err e) due = tt
same_asked relations names (Ok question) due = same_fits relations names question due

-- places of names are below their count
place_found : (names : List (List ℕ)) (named : Named) (place : ℕ) → named_in names named ≡ Ok place → place < length names
place_found names named place is = place_within names named.name place (found_place _ _ place is)

pub places_within : (names : List (List ℕ)) (named : List Named) (places given : List ℕ) (count : ℕ)
    → all_of (named_in names) named ≡ Ok places → given ≡ places → count ≡ length names
    → All (λ place. place < count) given
places_within names named places given count found same counted =
    subst (λ (ps : List ℕ). All (λ place. place < count) ps) (sym same)
    (each_answer (λ (n : Named). Unit {0}) (λ place. place < count) (named_in names)
    (λ n place any is. omega (arith, place_found names n place is, counted)) named places (λ k d below. tt) found)

pub as_many : (names : List (List ℕ)) (named : List Named) (places given : List ℕ) → all_of (named_in names) named ≡
    Ok places → given ≡ places → length named ≡ length given
as_many names named places given found same = sym (ap length same ∙ all_of-length (named_in names) named places found)
