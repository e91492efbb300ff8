-- What a search finds, step by step.
use Rattle.std.proofs.Common.{◌≡◌, ◌&&◌, ◌≤◌, inl, inr, ℕ, Bool, true, false, List, [], ◌∷◌, ◌++◌, length, Option, None, Some, slice_get, unwrap_or, refl, sym, ap, subst, ◌∙◌, arith}
use Rattle.std.proofs.lemmas.Bool.{and_from, cases_eq, false≢true}
use Rattle.std.proofs.lemmas.List.{append-nil, append_assoc}
use Rattle.std.proofs.lemmas.List.Elements.{All-contains}
use Rattle.std.proofs.lemmas.Option.{none-some, same_Some, slice_get_within}
use Rattle.currency_base.specs.declared.ids.EntId.{EntId}
use Rattle.currency_base.specs.declared.value.Cmp.{Cmp}
use Rattle.currency_base.specs.declared.value.Value.{Value}
use Rattle.match_premises.specs.Premises.{comparisons_are}
use Rattle.query_model.specs.Answers.{is_compared, value_of}
use Rattle.query_model.specs.declared.query.Atom.{Atom}
use Rattle.query_model.specs.declared.query.Match.{Match}
use Rattle.query_model.specs.declared.query.Term.{Term}
use Rattle.query_model.specs.declared.query.Test.{Test}
use Rattle.query_model.specs.declared.query.TestTerm.{TestTerm}
use Rattle.query_model.specs.declared.query.TestTerm.TheVariants as test
use Rattle.spec_model.specs.declared.relation.Relation.{Relation}
use Rattle.ucq_answers.specs.Partly.{may_hold, passes, side_of, value_at, values_of}
use Rattle.match_candidates.specs.MatchOrder.{made}
use Rattle.match_candidates.specs.Found.{Adds, Bounded}
use Rattle.match_candidates.specs.Meant.{IsLast, IsMeant, Left, first_left, next_left}
use Rattle.match_candidates.specs.Places.{AtomsFit, TermsFit, term_fits}
use Rattle.match_candidates.specs.Tables.{AreCandidates, IsEntityOf}
use Rattle.match_candidates.specs.Ways.{Agrees, AreWays, IsWay}
use Rattle.match_candidates.specs.declared.at.At.{At}
use Rattle.match_candidates.specs.declared.place_index.Entry.{Entry}
use Rattle.match_candidates.proofs.Bindings.{known_agrees, known_is}
use Rattle.match_candidates.proofs.Collecting.{ByOne}

-- ---- comparisons

both_true : (a b : Bool) → a && b ≡ true → (a ≡ true) × (b ≡ true)
both_true true b is = (refl, is)
both_true false b is = absurd (false≢true is)

pub value_known : (b : List (Option Value)) (v : ℕ) (x : Value) → value_at b v ≡ Some x → slice_get b v ≡ Some (Some x)
value_known b v x is = by (slice_get b v) refl is
  where
    by : (o : Option (Option Value)) → slice_get b v ≡ o → unwrap_or o None ≡ Some x → slice_get b v ≡ Some (Some x)
    by None at own = absurd (none-some x own)
    by (Some p) at own = at ∙ ap Some own

side_known : (b : List (Option Value)) (values : List Value) (s : TestTerm) (x : Value) → Agrees b values
    → side_of b s ≡ Some x → value_of values s ≡ Some x
side_known b values (test.Var v) x agrees is = agrees.known v x (value_known b v x is)
side_known b values (test.Constant c) x agrees is = is

may_if : (o p o' p' : Option Value) (cmp : Cmp) → ((x : Value) → o ≡ Some x → o' ≡ Some x) → ((x : Value) → p ≡ Some x
    → p' ≡ Some x)
    → is_compared o' cmp p' ≡ true → may_hold o cmp p ≡ true
may_if None p o' p' cmp left right holds = refl
may_if (Some x) None o' p' cmp left right holds = refl
may_if (Some x) (Some y) o' p' cmp left right holds =
    ap (λ u. is_compared u cmp (Some y)) (sym (left x refl)) ∙ ap (λ u. is_compared o' cmp u) (sym (right y refl)) ∙ holds

-- where all comparisons hold, none fails before
passes_before : (b : List (Option Value)) (values : List Value) (tests : List Test) → Agrees b values
    → comparisons_are values tests ≡ true → passes b tests ≡ true
passes_before b values [] agrees hold = refl
passes_before b values (t ∷ tests) agrees hold =
    let both = both_true (is_compared (value_of values t.left) t.cmp (value_of values t.right))
    (comparisons_are values tests) hold in
    and_from _ (passes b tests)
    (may_if (side_of b t.left) (side_of b t.right) (value_of values t.left) (value_of values t.right) t.cmp
    (λ x is. side_known b values t.left x agrees is) (λ x is. side_known b values t.right x agrees is) both.0)
    (passes_before b values tests agrees both.1)

-- ---- steps

-- what is searched
pub record Going : Type 0 where
  pub relations : List Relation
  pub tests : List Test
  pub number : ℕ
  pub ents : List EntId

abbrev pub MeantAt : Going → Left → List (Option Value) → Match → Type 0
MeantAt g left b m = IsMeant g.relations g.tests g.number left g.ents b m

-- where a comparison fails there is no match
pub none_meant : (g : Going) (left : Left) (b : List (Option Value)) (m : Match) → false ≡ passes b g.tests
    → MeantAt g left b m → ⊥
none_meant g left b m fails is = false≢true (fails ∙ passes_before b m.values g.tests is.agrees is.compared)

module _ (g : Going) (left : Left) (b : List (Option Value)) (t : Term) (here : slice_get left.terms left.at.place ≡ Some t)
    (ways : List (List (Option Value))) (are : AreWays g.relations left.at b t ways) (m : Match) where
  terms_before : (values : List Value) → term_fits g.relations left.at values t ≡ true
      → TermsFit g.relations (next_left left).at values left.terms → TermsFit g.relations left.at values left.terms
  terms_before values first rest k u from there = elim (cases_eq k left.at.place) [
    | inl same ↦
        let one : t ≡ u = same_Some t u (sym here ∙ ap (slice_get left.terms) (sym same) ∙ there) in
        subst (λ v. term_fits g.relations (record left.at { place = k }) values v ≡ true) one
        (ap (λ n. term_fits g.relations (record left.at { place = n }) values t) same ∙ first)
    | inr other ↦ rest k u (omega (arith, from, other)) there
  ]

  -- a match that goes on by one of the ways
  pub of_way : ByOne (MeantAt g (next_left left)) ways m → MeantAt g left b m
  of_way by =
      let way = All-contains (IsWay g.relations left.at b t) ways by.item are.each by.is_item in
      record {
        is_number = by.is.is_number;
        agrees = way.agrees m.values by.is.agrees;
        compared = by.is.compared;
        here = terms_before m.values (way.fits m.values by.is.agrees) by.is.here;
        more = by.is.more;
        entities = by.is.entities;
        fitted = by.is.fitted;
      }

  pub by_way : MeantAt g left b m → ByOne (MeantAt g (next_left left)) ways m
  by_way is =
      let way = are.all m.values is.agrees (is.here left.at.place t (omega arith) here) in
      record {
        item = way.0;
        is_item = way.1;
        is = record {
          is_number = is.is_number;
          agrees = way.2;
          compared = is.compared;
          here = λ k u from there. is.here k u (omega (arith, from)) there;
          more = is.more;
          entities = is.entities;
          fitted = is.fitted;
        };
      }

-- where no term is left, all that are left fit
none_left : (relations : List Relation) (at : At) (values : List Value) (terms : List Term) → length terms ≤ at.place
    → TermsFit relations at values terms
none_left relations at values terms past k t from there =
    let within = slice_get_within terms k t there in absurd (omega (arith, past, from, within))

-- what goes on at an entity of the next atom
abbrev pub MeantBy : Going → Atom → List Atom → List (Option Value) → EntId → Match → Type 0
MeantBy g atom rest b ent m = IsMeant g.relations g.tests g.number (first_left atom ent rest) (g.ents ++ ent ∷ []) b m

abbrev pub MeantOf : Going → Atom → List Atom → List (Option Value) → Entry → Match → Type 0
MeantOf g atom rest b entry m = MeantBy g atom rest b entry.ent m

-- the same, as it is read
pub meant_by : (g : Going) (atom : Atom) (rest : List Atom) (b : List (Option Value)) (ent : EntId) (left : Left)
    (ents : List EntId)
    (old new : Bounded) (is_full : Bool) → left ≡ first_left atom ent rest → ents ≡ g.ents ++ ent ∷ []
    → Adds (IsMeant g.relations g.tests g.number left ents b) old new is_full → Adds (MeantBy g atom rest b ent) old new is_full
meant_by g atom rest b ent left ents old new is_full same more adds =
    subst (λ l. Adds (IsMeant g.relations g.tests g.number l (g.ents ++ ent ∷ []) b) old new is_full) same
    (subst (λ l. Adds (IsMeant g.relations g.tests g.number left l b) old new is_full) more adds)

module _ (g : Going) (left : Left) (b : List (Option Value)) (atom : Atom) (rest : List Atom)
    (past : length left.terms ≤ left.at.place)
    (same : left.atoms ≡ atom ∷ rest) (entries : List Entry) (are : AreCandidates g.relations atom b entries) (m : Match) where
  pub of_ent : ByOne (MeantOf g atom rest b) entries m → MeantAt g left b m
  of_ent by =
      let ent = by.item.ent in
      let own = All-contains (λ (e : Entry). IsEntityOf g.relations atom.relation e.ent) entries by.item are.each by.is_item in
      record {
        is_number = by.is.is_number;
        agrees = by.is.agrees;
        compared = by.is.compared;
        here = none_left g.relations left.at m.values left.terms past;
        more = ent ∷ by.is.more;
        entities = by.is.entities ∙ append_assoc g.ents (ent ∷ []) by.is.more;
        fitted = subst (λ atoms. AtomsFit g.relations m.values atoms (ent ∷ by.is.more)) (sym same) (
          record { relation = own.relation; is_relation = own.is_relation; within = own.within; terms = by.is.here },
          by.is.fitted,
        );
      }

  pub by_ent : MeantAt g left b m → ByOne (MeantOf g atom rest b) entries m
  by_ent is = go is.more is.entities (subst (λ atoms. AtomsFit g.relations m.values atoms is.more) same is.fitted)
    where
      own : (ent : EntId) (more : List EntId) → m.entities ≡ g.ents ++ ent ∷ more
          → AtomsFit g.relations m.values (atom ∷ rest) (ent ∷ more)
          → MeantBy g atom rest b ent m
      own ent more entities fit = record {
        is_number = is.is_number;
        agrees = is.agrees;
        compared = is.compared;
        here = fit.0.terms;
        more = more;
        entities = entities ∙ sym (append_assoc g.ents (ent ∷ []) more);
        fitted = fit.1;
      }

      go : (more : List EntId) → m.entities ≡ g.ents ++ more → AtomsFit g.relations m.values (atom ∷ rest) more
          → ByOne (MeantOf g atom rest b) entries m
      go [] entities fit = absurd fit
      go (ent ∷ more) entities fit =
          let found = are.all m.values ent is.agrees fit.0 in
          record {
            item = found.entry;
            is_item = found.is_in;
            is =
                subst (λ e. MeantBy g atom rest b e m) (sym found.of) (own ent more entities fit);
          }

module _ (g : Going) (left : Left) (b : List (Option Value)) (past : length left.terms ≤ left.at.place) (none : left.atoms ≡ [])
    (full : (v : ℕ) → slice_get b v ≡ Some None → ⊥) (m : Match) where
  pub of_last : IsLast g.tests g.number g.ents b m → MeantAt g left b m
  of_last last = record {
    is_number = ap (λ (o : Match). o.disjunct) last.is;
    agrees = subst (Agrees b) (sym values) (known_agrees b full);
    compared = ap (λ xs. comparisons_are xs g.tests) values ∙ last.compared;
    here = none_left g.relations left.at m.values left.terms past;
    more = [];
    entities = ap (λ (o : Match). o.entities) last.is ∙ sym (append-nil g.ents);
    fitted = subst (λ atoms. AtomsFit g.relations m.values atoms []) (sym none) tt;
  }
    where
      values : m.values ≡ values_of b
      values = ap (λ (o : Match). o.values) last.is

  pub to_last : MeantAt g left b m → IsLast g.tests g.number g.ents b m
  to_last is = go is.more is.entities (subst (λ atoms. AtomsFit g.relations m.values atoms is.more) none is.fitted)
    where
      values : m.values ≡ values_of b
      values = known_is b m.values full is.agrees

      go : (more : List EntId) → m.entities ≡ g.ents ++ more → AtomsFit g.relations m.values [] more
          → IsLast g.tests g.number g.ents b m
      go (ent ∷ more) entities fit = absurd fit
      go [] entities fit = record {
        is = ap (λ n. made n m.entities m.values) is.is_number
            ∙ ap (λ es. made g.number es m.values) (entities ∙ append-nil g.ents) ∙ ap (made g.number g.ents) values;
        compared = ap (λ xs. comparisons_are xs g.tests) (sym values) ∙ is.compared;
      }
