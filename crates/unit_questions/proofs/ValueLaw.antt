-- The query for a current value has an answer exactly where the value is the current one.
use Rattle.std.proofs.Common.{◌≡◌, ◌↔◌, ◌∙◌, ◌<◌, ℕ, zero, suc, List, [], ◌∷◌, Contains, Some, length, slice_get, slice_index_or, refl, sym, ap, subst, ⊎_elim, arith}
use Rattle.std.proofs.lemmas.Bool.{cases_eq}
use Rattle.std.proofs.lemmas.List.Elements.{All-nil, All-cons, All-head}
use Rattle.std.proofs.lemmas.Option.{same_Some, none-some, slice_get_within}
use Rattle.answer_laws.specs.Answered.{IsAnswerIn}
use Rattle.answer_laws.proofs.Instances.{some_instance}
use Rattle.currency_base.specs.declared.ids.AttrId.{AttrId}
use Rattle.currency_base.specs.declared.ids.EntId.{EntId}
use Rattle.currency_base.specs.declared.ids.RelId.{RelId}
use Rattle.currency_base.specs.declared.value.Value.{Value}
use Rattle.currency_base.specs.declared.value.Value.TheVariants.{Int, Text}
use Rattle.query_model.specs.Answers.{AtomHolds, Fits, FitsTuple, Meets, TestHolds}
use Rattle.query_model.specs.declared.query.Atom.{Atom}
use Rattle.query_model.specs.declared.query.Disjunct.{Disjunct}
use Rattle.query_model.specs.declared.query.Term.{Term}
use Rattle.query_model.specs.declared.query.Term.TheVariants as term
use Rattle.spec_model.specs.Completion.{Rankings, IsCompletion}
use Rattle.spec_model.specs.Current.{IsCurrentTuple, current_value}
use Rattle.spec_model.specs.Facts.{AreRelations, IsRelation}
use Rattle.spec_model.specs.declared.relation.Relation.{Relation}
use Rattle.unit_questions.specs.Claims.{HasCurrent}
use Rattle.unit_questions.specs.Steps.{value_term}
use Rattle.unit_questions.specs.Units.{value_places, value_query}
use Rattle.unit_questions.proofs.Lists.{item_at, item_has, is_in, stands_at}
use Rattle.unit_questions.proofs.Walks.{place_is, places_length, term_here, term_other}

-- the terms of the atom
abbrev terms_of : List ℕ → ℕ → ℕ → Value → List Term
terms_of name attrs attr value = term.Constant (Text name) ∷ value_places attrs attr value

abbrev atom_of : RelId → List ℕ → ℕ → ℕ → Value → Atom
atom_of rel name attrs attr value = record { relation = rel; terms = terms_of name attrs attr value }

abbrev disjunct_of : RelId → List ℕ → ℕ → ℕ → Value → Disjunct
disjunct_of rel name attrs attr value = record { head = []; atoms = atom_of rel name attrs attr value ∷ []; tests = []; vars = 0 }

-- the bytes of a text
abbrev text_of : Value → List ℕ
text_of (Text bytes) = bytes
text_of (Int n) = []

one_item : {A : Type 0} (x y : A) → Contains (x ∷ []) y → x ≡ y
one_item x y is = let at = stands_at (x ∷ []) y is in go at.0 at.1
  where
    go : (k : ℕ) → slice_get (x ∷ []) k ≡ Some y → x ≡ y
    go zero at = same_Some x y at
    go (suc k) at = absurd (none-some y at)

-- ---- the tuple that the terms fit

has_current : (c : Rankings) (rel : ℕ) (r : Relation) (ent here : ℕ) (name : List ℕ) (attr : ℕ) (value : Value)
    (values tuple : List Value) → IsRelation r → slice_get r.entities ent ≡ Some name → attr < length r.attrs
    → IsCurrentTuple c rel r here tuple → FitsTuple values (terms_of name (length r.attrs) attr value) tuple
    → current_value c rel r.rows attr ent ≡ Some value
has_current c rel r ent here name attr value values tuple is is_name below current fits =
    let named : Text name ≡ Text current.name =
    fits.each 0 (term.Constant (Text name)) (Text current.name) refl (ap (λ l. slice_get l 0) current.tuple_is) in
    let entity : here ≡ ent =
    is.entity_names here ent name (current.is_name ∙ ap (λ v. Some (text_of v)) (sym named)) is_name in
    let x = item_at current.values attr (omega (arith, below, current.per_attr)) in
    let term_is = place_is (length r.attrs) attr attr value below ∙ ap (λ t. Some t) (term_here attr attr value refl) in
    let same : value ≡ x.0 =
    fits.each (suc attr) (term.Constant value) x.0 term_is (ap (λ l. slice_get l (suc attr)) current.tuple_is ∙ x.1) in
    ap (λ e. current_value c rel r.rows attr e) (sym entity)
    ∙ sym (current.current attr below)
    ∙ x.1
    ∙ ap (λ y. Some y) (sym same)

-- ---- and the other way

value_fits : (k attr : ℕ) (value x : Value) → (k ≡ attr → value ≡ x) → Fits [] (value_term k attr value) x
value_fits k attr value x is = ⊎_elim
    (λ (same : k ≡ attr). subst (λ t. Fits [] t x) (sym (term_here k attr value same)) (is same))
    (λ (apart : k ≡ attr → ⊥). subst (λ t. Fits [] t x) (sym (term_other k attr value apart)) tt)
    (cases_eq k attr)

fits_current : (c : Rankings) (rel : ℕ) (r : Relation) (ent : ℕ) (name : List ℕ) (attr : ℕ) (value : Value) (tuple : List Value)
    → slice_get r.entities ent ≡ Some name → attr < length r.attrs → IsCurrentTuple c rel r ent tuple
    → current_value c rel r.rows attr ent ≡ Some value → FitsTuple [] (terms_of name (length r.attrs) attr value) tuple
fits_current c rel r ent name attr value tuple is_name below current is =
    record {
      as_many = omega (arith, places_length (length r.attrs) attr value, current.per_attr, ap (λ l. length l) current.tuple_is);
      each = λ k t x at at'. each k t x at (ap (λ l. slice_get l k) (sym current.tuple_is) ∙ at');
    }
  where
    each : (k : ℕ) (t : Term) (x : Value) → slice_get (terms_of name (length r.attrs) attr value) k ≡ Some t
        → slice_get (Text current.name ∷ current.values) k ≡ Some x → Fits [] t x
    each zero t x at at' =
        subst (λ u. Fits [] u x) (same_Some (term.Constant (Text name)) t at)
        (ap Text (same_Some name current.name (sym is_name ∙ current.is_name)) ∙ same_Some (Text current.name) x at')
    each (suc k) t x at at' =
        let within = slice_get_within (value_places (length r.attrs) attr value) k t at in
        let here = place_is (length r.attrs) attr k value (omega (arith, within, places_length (length r.attrs) attr value)) in
        subst (λ u. Fits [] u x) (same_Some (value_term k attr value) t (sym here ∙ at))
        (value_fits k attr value x
        (λ same.
        same_Some value x
        (sym is ∙ sym (current.current attr below) ∙ ap (slice_get current.values) (sym same) ∙ at')))

-- ---- the law

pub value_asked : (relations : List Relation) → AreRelations relations → (rel : RelId) (r : Relation)
    → slice_get relations rel.0 ≡ Some r → (ent : EntId) (name : List ℕ) → slice_get r.entities ent.0 ≡ Some name
    → (attr : AttrId) → attr.0 < length r.attrs → (value : Value) (c : Rankings) → IsCompletion relations c
    → IsAnswerIn relations (value_query rel name (length r.attrs) attr value) [] c ↔ HasCurrent relations rel attr ent value c
value_asked relations are rel r at ent name is_name attr below value c completion = (to, from)
  where
    to : IsAnswerIn relations (value_query rel name (length r.attrs) attr value) [] c → HasCurrent relations rel attr ent value c
    to answer =
        let own = answer.is_answer in
        let d = disjunct_of rel name (length r.attrs) attr.0 value in
        let same : d ≡ own.disjunct = one_item d own.disjunct own.is_disjunct in
        let meets : Meets answer.instance d own.values =
        subst (λ (e : Disjunct). Meets answer.instance e own.values) (sym same) own.meets in
        let atom = atom_of rel name (length r.attrs) attr.0 value in
        let holds : AtomHolds answer.instance own.values atom =
        All-head (AtomHolds answer.instance own.values) atom [] meets.atoms in
        let here = stands_at (slice_index_or answer.instance rel.0 []) holds.tuple holds.is_there in
        let tuple = (answer.is_current.each rel.0 r at).each here.0 holds.tuple here.1 in
        record {
          relation = r;
          is_relation = at;
          current = has_current c rel.0 r ent.0 here.0 name attr.0 value own.values holds.tuple
              (item_has IsRelation relations are.each rel.0 r at) is_name below tuple holds.fits;
        }

    from : HasCurrent relations rel attr ent value c
        → IsAnswerIn relations (value_query rel name (length r.attrs) attr value) [] c
    from has =
        let instance = some_instance relations are.each c completion in
        let tables = instance.1.each rel.0 r at in
        let tuple = item_at (slice_index_or instance.0 rel.0 []) ent.0
        (omega (arith, slice_get_within r.entities ent.0 name is_name, tables.per_entity)) in
        let same : has.relation ≡ r = same_Some has.relation r (sym has.is_relation ∙ at) in
        let current : current_value c rel.0 r.rows attr.0 ent.0 ≡ Some value =
        ap (λ (q : Relation). current_value c rel.0 q.rows attr.0 ent.0) (sym same) ∙ has.current in
        let atom = atom_of rel name (length r.attrs) attr.0 value in
        let d = disjunct_of rel name (length r.attrs) attr.0 value in
        record {
          instance = instance.0;
          is_current = instance.1;
          is_answer =
              record {
                disjunct = d;
                is_disjunct = is_in (d ∷ []) 0 d refl;
                values = [];
                meets =
                    record {
                      per_var = refl;
                      atoms = All-cons (AtomHolds instance.0 []) atom []
                          record {
                            tuple = tuple.0;
                            is_there = is_in (slice_index_or instance.0 rel.0 []) ent.0 tuple.0 tuple.1;
                            fits = fits_current c rel.0 r ent.0 name attr.0 value tuple.0 is_name below
                                (tables.each ent.0 tuple.0 tuple.1) current;
                          }
                          (All-nil (AtomHolds instance.0 []));
                      tests = All-nil (TestHolds []);
                    };
                is_head = refl;
              };
        }
