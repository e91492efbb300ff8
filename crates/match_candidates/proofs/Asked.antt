-- Entities that have the value that an atom asks for.
use Rattle.std.proofs.Common.{◌≡◌, ◌<◌, ℕ, true, List, [], length, get_or, Option, None, Some, option_and_then, slice_get, refl, sym, ap, subst, ◌∙◌, arith}
use Rattle.std.proofs.lemmas.List.Elements.{All-nil, All-weaker}
use Rattle.std.proofs.lemmas.Option.{none-some, same_Some, slice_get-get_or}
use Rattle.currency_base.specs.declared.ids.EntId.{EntId}
use Rattle.currency_base.specs.declared.value.Value.{Value}
use Rattle.currency_base.specs.declared.value.Value.TheVariants.{Text}
use Rattle.query_model.specs.declared.query.Atom.{Atom}
use Rattle.query_model.specs.declared.query.Term.{Term}
use Rattle.query_model.specs.declared.query.Term.TheVariants as term
use Rattle.spec_model.specs.declared.relation.Relation.{Relation}
use Rattle.ucq_answers.specs.Partly.{asked_at, asked_by}
use Rattle.match_candidates.specs.Entries.{AreAlike, AreEntries}
use Rattle.match_candidates.specs.Places.{AtomFits, has_at, has_in, has_known, has_there, is_name, term_fits}
use Rattle.match_candidates.specs.Tables.{AreCandidates, AreFor, IsEntityOf}
use Rattle.match_candidates.specs.Ways.{Agrees}
use Rattle.match_candidates.specs.declared.at.At.{At}
use Rattle.match_candidates.specs.declared.place_index.Entry.{Entry}
use Rattle.match_candidates.proofs.Meanings.{value_known}
use Rattle.match_candidates.proofs.Values.{same_test}

-- what a term asks for is had where it fits
asked_fits : (relations : List Relation) (at : At) (b : List (Option Value)) (values : List Value) (t : Term) (x : Value)
    → Agrees b values
    → asked_by b t ≡ Some x → term_fits relations at values t ≡ true → has_at relations at x ≡ true
asked_fits relations at b values (term.Var v) x agrees asked fits =
    ap (has_known relations at) (sym (agrees.known v x (value_known b v x asked))) ∙ fits
asked_fits relations at b values term.Any x agrees asked fits = absurd (none-some x asked)
asked_fits relations at b values (term.Constant c) x agrees asked fits =
    ap (has_at relations at) (sym (same_Some c x asked)) ∙ fits

module _ (r : Relation) (atom : Atom) (b : List (Option Value)) where
  asked_had : (place : ℕ) (x : Value) (relations : List Relation) (values : List Value) (ent : EntId)
      → slice_get relations atom.relation.0 ≡ Some r
      → asked_at b atom.terms place ≡ Some x → Agrees b values → AtomFits relations values atom ent → has_in r ent place x ≡ true
  asked_had place x relations values ent there asked agrees fits = by (slice_get atom.terms place) refl asked
    where
      at : At
      at = record { rel = atom.relation; ent = ent; place = place }

      by : (o : Option Term) → slice_get atom.terms place ≡ o → option_and_then (asked_by b) o ≡ Some x
          → has_in r ent place x ≡ true
      by None here own = absurd (none-some x own)
      by (Some t) here own =
          ap (λ q. has_there q ent place x) (sym there)
          ∙ asked_fits relations at b values t x agrees own (fits.terms place t (omega arith) here)

  within : (relations : List Relation) (values : List Value) (ent : EntId) → slice_get relations atom.relation.0 ≡ Some r
      → AtomFits relations values atom ent → ent.0 < length r.entities
  within relations values ent there fits =
      subst (λ (q : Relation). ent.0 < length q.entities) (same_Some fits.relation r (sym fits.is_relation ∙ there)) fits.within

  -- those that have the value that is asked for at a place
  pub alike_for : (place : ℕ) (x : Value) (entries : List Entry) → asked_at b atom.terms place ≡ Some x
      → AreAlike r place x entries → AreFor r atom b entries
  alike_for place x entries asked are = record {
    within = are.within;
    all = λ relations values ent there agrees fits.
        let found = are.all ent (within relations values ent there fits)
        (asked_had place x relations values ent there asked agrees fits) in
        record { entry = found.entry; is_in = found.is_in; of = found.of };
  }

  -- all
  pub all_for : (entries : List Entry) → AreEntries r 0 entries → AreFor r atom b entries
  all_for entries are = record {
    within = are.within;
    all = λ relations values ent there agrees fits.
        let low = within relations values ent there fits in
        let name = get_or r.entities ent.0 [] in
        let named : has_in r ent 0 (Text name) ≡ true =
        ap (λ o. is_name o (Text name)) (slice_get-get_or r.entities ent.0 [] low) ∙ same_test (Text name) in
        let found = are.all ent (Text name) low named in
        record { entry = found.entry; is_in = found.is_in; of = found.of };
  }

  pub for_candidates : (relations : List Relation) (entries : List Entry) → slice_get relations atom.relation.0 ≡ Some r
      → AreFor r atom b entries
      → AreCandidates relations atom b entries
  for_candidates relations entries there are = record {
    each = All-weaker (λ (e : Entry). e.ent.0 < length r.entities) (λ (e : Entry). IsEntityOf relations atom.relation e.ent)
        (λ e low. record { relation = r; is_relation = there; within = low }) entries are.within;
    all = λ values ent agrees fits. are.all relations values ent there agrees fits;
  }

-- where the relation is not there, there are none
pub no_candidates : (atom : Atom) (b : List (Option Value)) (relations : List Relation)
    → None ≡ slice_get relations atom.relation.0
    → AreCandidates relations atom b []
no_candidates atom b relations none = record {
  each = All-nil (λ (e : Entry). IsEntityOf relations atom.relation e.ent);
  all = λ values ent agrees fits. absurd (none-some fits.relation (none ∙ fits.is_relation));
}
