-- How answers are added, one candidate after another.
use Rattle.std.proofs.Common.{◌≡◌, ◌<◌, ◌⊎◌, inl, inr, ℕ, Bool, true, false, List, [], ◌∷◌, ◌++◌, length, Option, None, Some, refl, sym, ap, subst, ◌∙◌, IsTrue, ◌↔◌}
use Rattle.std.specs.BTreeSet.{insert_key}
use Rattle.std.specs.Cmp.Lexicographic.{slice_cmp}
use Rattle.std.specs.List.{Contains}
use Rattle.std.proofs.lemmas.Bool.{false≢true}
use Rattle.std.proofs.lemmas.List.Elements.{Contains-append_left, Contains-push, Contains-push_cases}
use Rattle.std.proofs.lemmas.Option.{none-some, same_Some}
use Rattle.currency_base.specs.Values.{value_cmp}
use Rattle.currency_base.specs.declared.ids.EntId.{EntId}
use Rattle.currency_base.specs.declared.value.Value.{Value}
use Rattle.query_model.specs.declared.query.Atom.{Atom}
use Rattle.query_plan.specs.Plans.{Conditioned}
use Rattle.ucq_answers.specs.Found.{Adds, Bounded, IsHeadAt}
use Rattle.ucq_answers.specs.Lookups.{AreCandidates}
use Rattle.ucq_answers.specs.Partly.{IsHeadOfSome, IsSolution, head_at, joined_at, tuples_of}
use Rattle.ucq_answers.proofs.Among.{Among, from_contains, in_inserted, kept_inserted, of_inserted, to_contains}
use Rattle.ucq_answers.proofs.Searching.{begins, solved_more}

-- ---- what is added

-- nothing, where nothing is meant
pub adds_none : (P : List Value → Type 0) (old : Bounded) → ((tuple : List Value) → P tuple → ⊥) → Adds P old old false
adds_none P old never =
    record {
      at_most = refl;
      kept = λ tuple is. is;
      sound = λ tuple is. inl is;
      complete = λ opened tuple is. absurd (never tuple is);
      full = λ closed. absurd (false≢true closed);
    }

-- some, and then others
pub adds_also : (P Q R : List Value → Type 0) (old mid new : Bounded) (is_full : Bool) → Adds P old mid false
    → Adds Q mid new is_full → ((tuple : List Value) → P tuple ⊎ Q tuple → R tuple)
    → (is_full ≡ false → (tuple : List Value) → R tuple → P tuple ⊎ Q tuple) → Adds R old new is_full
adds_also P Q R old mid new is_full first rest to from =
    record {
      at_most = rest.at_most ∙ first.at_most;
      kept = λ tuple is. rest.kept tuple (first.kept tuple is);
      sound = λ tuple is. second tuple (rest.sound tuple is);
      complete = λ opened tuple is. there opened tuple (from opened tuple is);
      full = rest.full;
    }
  where
    before : (tuple : List Value) → Contains old.tuples tuple ⊎ P tuple → Contains old.tuples tuple ⊎ R tuple
    before tuple (inl was) = inl was
    before tuple (inr is) = inr (to tuple (inl is))

    second : (tuple : List Value) → Contains mid.tuples tuple ⊎ Q tuple → Contains old.tuples tuple ⊎ R tuple
    second tuple (inl was) = before tuple (first.sound tuple was)
    second tuple (inr is) = inr (to tuple (inr is))

    there : is_full ≡ false → (tuple : List Value) → P tuple ⊎ Q tuple → Contains new.tuples tuple
    there opened tuple (inl is) = rest.kept tuple (first.complete refl tuple is)
    there opened tuple (inr is) = rest.complete opened tuple is

-- the same, said otherwise
pub adds_same : (P R : List Value → Type 0) (old new : Bounded) (is_full : Bool) → Adds P old new is_full →
    ((tuple : List Value) → P tuple → R tuple)
    → (is_full ≡ false → (tuple : List Value) → R tuple → P tuple) → Adds R old new is_full
adds_same P R old new is_full adds to from =
    record {
      at_most = adds.at_most;
      kept = adds.kept;
      sound = λ tuple is. by tuple (adds.sound tuple is);
      complete = λ opened tuple is. adds.complete opened tuple (from opened tuple is);
      full = adds.full;
    }
  where
    by : (tuple : List Value) → Contains old.tuples tuple ⊎ P tuple → Contains old.tuples tuple ⊎ R tuple
    by tuple (inl was) = inl was
    by tuple (inr is) = inr (to tuple is)

-- one tuple
pub adds_one : (P : List Value → Type 0) (old new : Bounded) (tuple : List Value) (is_full : Bool)
    → new.at_most ≡ old.at_most → new.tuples ≡ insert_key (slice_cmp value_cmp) old.tuples tuple
    → IsTrue is_full ↔ (new.at_most < length new.tuples) → P tuple → ((other : List Value) → P other → tuple ≡ other)
    → Adds P old new is_full
adds_one P old new tuple is_full bound after tells meant only =
    record {
      at_most = bound;
      kept = λ other was. placed other
          (to_contains _ other (kept_inserted old.tuples tuple other (from_contains old.tuples other was)));
      sound = λ other is. by other (of_inserted old.tuples tuple other
          (from_contains _ other (subst (λ l. Contains l other) after is)));
      complete = λ opened other is. placed other
          (subst (Contains (insert_key (slice_cmp value_cmp) old.tuples tuple)) (only other is)
          (to_contains _ tuple (in_inserted old.tuples tuple)));
      full = λ closed. tells.0 closed;
    }
  where
    placed : (other : List Value) → Contains (insert_key (slice_cmp value_cmp) old.tuples tuple) other → Contains new.tuples other
    placed other is = subst (λ l. Contains l other) (sym after) is

    by : (other : List Value) → Among old.tuples other ⊎ (tuple ≡ other) → Contains old.tuples other ⊎ P other
    by other (inl was) = inl (to_contains old.tuples other was)
    by other (inr same) = inr (subst P same meant)

-- one tuple that is there by now
pub adds_known : (P : List Value → Type 0) (old : Bounded) (tuple : List Value) → Contains old.tuples tuple
    → ((other : List Value) → P other → tuple ≡ other) → Adds P old old false
adds_known P old tuple there only =
    record {
      at_most = refl;
      kept = λ other was. was;
      sound = λ other was. inl was;
      complete = λ opened other is. subst (Contains old.tuples) (only other is) there;
      full = λ closed. absurd (false≢true closed);
    }

-- ---- one candidate after another

-- at one of these places
pub record IsHeadBelow (instance : List (List (List Value))) (conditions : Conditioned) (head : List ℕ) (atom : Atom)
    (rest : List Atom) (b : List (Option Value)) (ents : List EntId)
    (tuple : List Value) : Type 0 where
  pub ent : EntId
  pub is_ent : Contains ents ent
  pub at : IsHeadAt instance conditions head atom rest b ent tuple

-- an atom and those after it are searched for the heads of solutions that go on from some values
pub record Going : Type 0 where
  pub instance : List (List (List Value))
  pub conditions : Conditioned
  pub head : List ℕ
  pub steps : List Atom
  pub atom : Atom
  pub rest : List Atom
  pub b : List (Option Value)

abbrev pub HeadAt : Going → EntId → List Value → Type 0
HeadAt g ent tuple = IsHeadAt g.instance g.conditions g.head g.atom g.rest g.b ent tuple

abbrev pub HeadBelow : Going → List EntId → List Value → Type 0
HeadBelow g ents tuple = IsHeadBelow g.instance g.conditions g.head g.atom g.rest g.b ents tuple

abbrev pub HeadOf : Going → List Value → Type 0
HeadOf g tuple = IsHeadOfSome g.instance g.conditions g.head g.steps g.b tuple

abbrev pub HeadAfter : Going → List (Option Value) → List Value → Type 0
HeadAfter g next tuple = IsHeadOfSome g.instance g.conditions g.head g.rest next tuple

abbrev pub fit_at : Going → EntId → Option (List (Option Value))
fit_at g ent = joined_at g.conditions.equalities g.instance g.atom g.b ent

pub none_below : (g : Going) (tuple : List Value) → HeadBelow g [] tuple → ⊥
none_below g tuple is = from_contains [] is.ent is.is_ent

none_at : (g : Going) (ent : EntId) (tuple : List Value) → None ≡ fit_at g ent → HeadAt g ent tuple → ⊥
none_at g ent tuple none is = none-some is.next (none ∙ sym is.fits)

after_at : (g : Going) (ent : EntId) (next : List (Option Value)) (tuple : List Value) → Some next ≡ fit_at g ent
    → HeadAt g ent tuple → HeadAfter g next tuple
after_at g ent next tuple own is =
    let same : is.next ≡ next = same_Some is.next next (is.fits ∙ sym own) in
    subst (λ d. HeadAfter g d tuple) same is.head_below

more_below : (g : Going) (ents more : List EntId) (tuple : List Value) → HeadBelow g ents tuple → HeadBelow g (ents ++ more) tuple
more_below g ents more tuple is = record { ent = is.ent; is_ent = Contains-append_left ents more is.ent is.is_ent; at = is.at }

last_below : (g : Going) (ents : List EntId) (last : EntId) (tuple : List Value) → HeadAt g last tuple → HeadBelow g
    (ents ++ last ∷ []) tuple
last_below g ents last tuple is = record { ent = last; is_ent = Contains-push ents last; at = is }

of_below : (g : Going) (ents : List EntId) (last : EntId) (tuple : List Value) → HeadBelow g (ents ++ last ∷ [])
    tuple → HeadBelow g ents tuple ⊎ HeadAt g last tuple
of_below g ents last tuple is = by (Contains-push_cases ents last is.ent is.is_ent)
  where
    by : Contains ents is.ent ⊎ (last ≡ is.ent) → HeadBelow g ents tuple ⊎ HeadAt g last tuple
    by (inl before) = inl record { ent = is.ent; is_ent = before; at = is.at }
    by (inr same) = inr (subst (λ e. HeadAt g e tuple) (sym same) is.at)

-- a tuple that the atom does not fit
pub at_none : (g : Going) (ent : EntId) (old : Bounded) → None ≡ fit_at g ent → Adds (HeadAt g ent) old old false
at_none g ent old none = adds_none (HeadAt g ent) old (λ tuple is. none_at g ent tuple none is)

-- one that it fits, from which all is collected
pub at_some : (g : Going) (ent : EntId) (next : List (Option Value)) (old new : Bounded) (is_full : Bool)
    → Some next ≡ fit_at g ent → Adds (HeadAfter g next) old new is_full → Adds (HeadAt g ent) old new is_full
at_some g ent next old new is_full own adds =
    adds_same (HeadAfter g next) (HeadAt g ent) old new is_full adds
    (λ tuple is. record { next = next; fits = own; head_below = is })
    (λ opened tuple is. after_at g ent next tuple own is)

-- one candidate more
pub step_more : (g : Going) (ents now : List EntId) (last : EntId) (old mid new : Bounded) (is_full : Bool)
    → now ≡ ents ++ last ∷ [] → is_full ≡ false → Adds (HeadBelow g ents) old mid false → Adds (HeadAt g last) mid new is_full
    → Adds (HeadBelow g now) old new false
step_more g ents now last old mid new is_full is opened adds rest =
    subst (λ l. Adds (HeadBelow g l) old new false) (sym is)
    (adds_also (HeadBelow g ents) (HeadAt g last) (HeadBelow g (ents ++ last ∷ [])) old mid new false adds
    (subst (Adds (HeadAt g last) mid new) opened rest) to (λ _ tuple there. of_below g ents last tuple there))
  where
    to : (tuple : List Value) → HeadBelow g ents tuple ⊎ HeadAt g last tuple → HeadBelow g (ents ++ last ∷ []) tuple
    to tuple (inl before) = more_below g ents (last ∷ []) tuple before
    to tuple (inr here) = last_below g ents last tuple here

at_head : (g : Going) (ent : EntId) (tuple : List Value) → g.steps ≡ g.atom ∷ g.rest → HeadAt g ent tuple → HeadOf g tuple
at_head g ent tuple steps is =
    record {
      values = is.head_below.values;
      solution = subst (λ l. IsSolution g.instance g.conditions l g.b is.head_below.values) (sym steps)
          (solved_more g.instance g.conditions g.atom g.rest g.b is.next is.head_below.values ent is.fits is.head_below.solution);
      is_head = is.head_below.is_head;
    }

-- too many were found
pub stopped : (g : Going) (ents : List EntId) (last : EntId) (old mid new : Bounded)
    (is_full : Bool) → g.steps ≡ g.atom ∷ g.rest
    → is_full ≡ true → Adds (HeadBelow g ents) old mid false → Adds (HeadAt g last) mid new is_full
    → Adds (HeadOf g) old new true
stopped g ents last old mid new is_full steps closed adds rest =
    adds_also (HeadBelow g ents) (HeadAt g last) (HeadOf g) old mid new true adds
    (subst (Adds (HeadAt g last) mid new) closed rest) to
    (λ opened. absurd (false≢true (sym opened)))
  where
    to : (tuple : List Value) → HeadBelow g ents tuple ⊎ HeadAt g last tuple → HeadOf g tuple
    to tuple (inl before) = at_head g before.ent tuple steps before.at
    to tuple (inr here) = at_head g last tuple steps here

-- all candidates were tried
pub all_tried : (g : Going) (ents now : List EntId) (old new : Bounded) → g.steps ≡ g.atom ∷ g.rest → now ≡ ents
    → AreCandidates (tuples_of g.instance g.atom) g.conditions.tests g.atom.terms g.b ents
    → Adds (HeadBelow g now) old new false → Adds (HeadOf g) old new false
all_tried g ents now old new steps same are adds =
    adds_same (HeadBelow g ents) (HeadOf g) old new false (subst (λ l. Adds (HeadBelow g l) old new false) same adds)
    (λ tuple is. at_head g is.ent tuple steps is.at) (λ opened tuple is. begin tuple is.values
    (subst (λ l. IsSolution g.instance g.conditions l g.b is.values) steps is.solution) is.is_head)
  where
    begin : (tuple : List Value) (c : List (Option Value)) → IsSolution g.instance g.conditions (g.atom ∷ g.rest) g.b c
        → head_at c g.head ≡ Some tuple → HeadBelow g ents tuple
    begin tuple c solution is =
        let first = begins g.instance g.conditions g.atom g.rest g.b ents c are solution in
        let rest : IsSolution g.instance g.conditions g.rest solution.reached.0 c =
        record { reached = solution.reached.2; passed = solution.passed } in
        record {
          ent = first.0;
          is_ent = first.1;
          at = record {
            next = solution.reached.0;
            fits = sym first.2;
            head_below = record { values = c; solution = rest; is_head = is };
          };
        }

-- no atom is left, and the head has not all its values
pub none_left : (g : Going) (old : Bounded) → g.steps ≡ [] → None ≡ head_at g.b g.head → Adds (HeadOf g) old old false
none_left g old none lacks =
    adds_none (HeadOf g) old
    (λ tuple is.
    let last : IsSolution g.instance g.conditions [] g.b is.values =
    subst (λ l. IsSolution g.instance g.conditions l g.b is.values) none is.solution in
    none-some tuple (lacks ∙ ap (λ d. head_at d g.head) last.reached ∙ is.is_head))
