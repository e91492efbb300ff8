-- Matches of the query that a search poses.
use Rattle.std.proofs.Common.{eq-eqb, ◌≡◌, ◌==◌, ◌∙◌, ◌<◌, ℕ, zero, suc, true, List, [], ◌∷◌, All, Option, Some, IfSome, length, map, get_or, slice_get, refl, sym, ap, subst, arith}
use Rattle.std.specs.List.{flat_map}
use Rattle.std.proofs.lemmas.Bool.{or_left, or_right}
use Rattle.std.proofs.lemmas.List.Folds.{list_any-append}
use Rattle.std.proofs.lemmas.Option.{same_Some, slice_get-get_or, slice_get_within}
use Rattle.currency_base.specs.declared.ids.RelId.{RelId}
use Rattle.currency_base.specs.declared.value.Value.{Value}
use Rattle.answer_candidates.specs.Candidates.{IsOver}
use Rattle.log_axioms.specs.Posed.{Posed}
use Rattle.match_clauses.specs.Matched.{IsMatchIn, IsOfWanted}
use Rattle.order_literals.specs.Numbers.{is_wanted}
use Rattle.order_literals.specs.declared.wanted.Wanted.{Wanted}
use Rattle.order_search.specs.Searches.{HasGone, IsSearch, Search}
use Rattle.query_model.specs.Answers.{IsMatch}
use Rattle.query_model.specs.declared.query.Atom.{Atom}
use Rattle.query_model.specs.declared.query.Disjunct.{Disjunct}
use Rattle.query_model.specs.declared.query.Match.{Match}
use Rattle.query_model.specs.declared.query.Query.{Query}
use Rattle.refutation_log.specs.declared.log.Log.{Log}
use Rattle.spec_model.specs.Completion.{IsCompletion, Rankings}
use Rattle.spec_model.specs.Spec.{Spec}
use Rattle.ucq_answers.specs.Planned.{IndexedQuery}
use Rattle.certain_answers.specs.Deciding.{AreMatches, EachMatch, IsMatchAt, IsSearchFor, relations_in, relations_of}
use Rattle.certain_answers.specs.declared.matched.Matched.{Matched}
use Rattle.certain_answers.proofs.Fronts.{all_at, item_at}
use Rattle.certain_answers.proofs.Going.{answers_later, for_later}

-- ---- the relations of a query's atoms are wanted

itself : (n : ℕ) → (n == n) ≡ true
itself n = eq-eqb n n refl

atom_wanted : (atoms : List Atom) (k : ℕ) (atom : Atom) → slice_get atoms k ≡ Some atom
    → is_wanted (map (λ (a : Atom). a.relation) atoms) atom.relation.0 ≡ true
atom_wanted [] k atom at = let no : ⊥ = cc in absurd no
atom_wanted (a ∷ atoms) zero atom at =
    or_left (a.relation.0 == atom.relation.0) (is_wanted (map (λ (x : Atom). x.relation) atoms) atom.relation.0)
    (subst (λ (x : Atom). (x.relation.0 == atom.relation.0) ≡ true) (sym (same_Some a atom at)) (itself atom.relation.0))
atom_wanted (a ∷ atoms) (suc k) atom at =
    or_right (a.relation.0 == atom.relation.0) (is_wanted (map (λ (x : Atom). x.relation) atoms) atom.relation.0)
    (atom_wanted atoms k atom at)

disjunct_wanted : (ds : List Disjunct) (k : ℕ) (d : Disjunct) (rel : ℕ) → slice_get ds k ≡ Some d
    → is_wanted (relations_in d) rel ≡ true
    → is_wanted (flat_map relations_in ds) rel ≡ true
disjunct_wanted [] k d rel at is = let no : ⊥ = cc in absurd no
disjunct_wanted (x ∷ ds) zero d rel at is =
    list_any-append (λ (wanted : RelId). wanted.0 == rel) (relations_in x) (flat_map relations_in ds)
    ∙ or_left (is_wanted (relations_in x) rel) (is_wanted (flat_map relations_in ds) rel)
    (subst (λ (y : Disjunct). is_wanted (relations_in y) rel ≡ true) (sym (same_Some x d at)) is)
disjunct_wanted (x ∷ ds) (suc k) d rel at is =
    list_any-append (λ (wanted : RelId). wanted.0 == rel) (relations_in x) (flat_map relations_in ds)
    ∙ or_right (is_wanted (relations_in x) rel) (is_wanted (flat_map relations_in ds) rel) (disjunct_wanted ds k d rel at is)

of_wanted : (query : Query) (m : Match) → IsOfWanted (relations_of query) query m
of_wanted query m d at k a below =
    disjunct_wanted query.disjuncts m.disjunct d (get_or d.atoms k a).relation.0 at
    (atom_wanted d.atoms k (get_or d.atoms k a) (slice_get-get_or d.atoms k a below))

-- ---- matches at places

pub match_at : (s : Spec) (query : Query) (search : Search) (c : Rankings) (m : Match) (place : ℕ)
    (tuple : List Value) → IsSearchFor s query search
    → IsCompletion s.relations c → slice_get search.posed.answers place ≡ Some tuple → IsMatchIn s.relations c query
    tuple m → IsMatchAt search c m place
match_at s query search c m place tuple is completion at found = record {
  query = query;
  is_query = is.query_is;
  tuple = tuple;
  is_tuple = at;
  completion = subst (λ (x : Spec). IsCompletion x.relations c) (sym is.spec) completion;
  is_match = subst (λ (x : Spec). IsMatchIn x.relations c query tuple m) (sym is.spec) found;
  of_wanted = subst (λ (rels : List RelId). IsOfWanted rels query m) (sym is.currents) (of_wanted query m);
}

-- where the search has gone on since, it is one still
pub match_later : (old new : Search) (c : Rankings) (m : Match) (place : ℕ) → HasGone old new → IsMatchAt old c m place
    → IsMatchAt new c m place
match_later old new c m place gone is = record {
  query = is.query;
  is_query = ap (λ (p : Posed). p.query) gone.posed ∙ is.is_query;
  tuple = is.tuple;
  is_tuple = ap (λ (p : Posed). slice_get p.answers place) gone.posed ∙ is.is_tuple;
  completion = subst (λ (x : Spec). IsCompletion x.relations c) (sym gone.spec) is.completion;
  is_match = subst (λ (x : Spec). IsMatchIn x.relations c is.query is.tuple m) (sym gone.spec) is.is_match;
  of_wanted = subst (λ (w : Wanted). IsOfWanted w.currents is.query m) (sym gone.wanted) is.of_wanted;
}

-- ---- all matches of a tuple

-- what holds of each, if something else does
pub each_then : (P Q : Match → Type 0) (matched : Matched) → ((m : Match) → P m → Q m) → EachMatch P matched
    → EachMatch Q matched
each_then P Q matched then each = record {
  first = then matched.first each.first;
  others = λ at d below. then (get_or matched.others at d) (each.others at d below);
}

-- each match over a completion of the tuple at a place
pub each_at : (s : Spec) (query : Query) (search : Search) (c : Rankings) (matched : Matched) (place : ℕ)
    (tuple : List Value) → IsSearchFor s query search
    → IsCompletion s.relations c → slice_get search.posed.answers place ≡ Some tuple
    → EachMatch (IsMatchIn s.relations c query tuple) matched
    → EachMatch (λ m. IsMatchAt search c m place) matched
each_at s query search c matched place tuple is completion at each =
    each_then (IsMatchIn s.relations c query tuple) (λ m. IsMatchAt search c m place) matched
    (λ m found. match_at s query search c m place tuple is completion at found) each

-- the others of them, where the search has gone on since
pub others_later : (old new : Search) (c : Rankings) (others : List Match) (place : ℕ) → HasGone old new
    → All (λ m. IsMatchAt old c m place) others → All (λ m. IsMatchAt new c m place) others
others_later old new c others place gone are =
    λ at d below. match_later old new c (get_or others at d) place gone (are at d below)

-- and one of these
pub other_at : (old new : Search) (c : Rankings) (others : List Match) (place at : ℕ) (m : Match) → HasGone old new
    → All (λ m. IsMatchAt old c m place) others → slice_get others at ≡ Some m → IsMatchAt new c m place
other_at old new c others place at m gone are here =
    match_later old new c m place gone (all_at (λ x. IsMatchAt old c x place) others at m are here)

-- ---- one match of each tuple

-- the match at a place, where the search has gone on since
pub match_of : (s : Spec) (query : Query) (old search : Search) (c : Rankings) (matches : List Match) (place : ℕ)
    (m : Match) → HasGone old search
    → IsSearchFor s query old → IsCompletion s.relations c → AreMatches s.relations query c old.posed.answers matches
    → slice_get matches place ≡ Some m
    → IsMatchAt search c m place
match_of s query old search c matches place m gone is completion are at =
    let below : place < length old.posed.answers = let b = slice_get_within matches place m at in omega (arith, b, are.as_many) in
    let tuple = item_at old.posed.answers place below in
    match_at s query search c m place tuple.0 (for_later s query old search gone is) completion
    (ap (λ tuples. slice_get tuples place) (answers_later old search old.posed.answers gone refl) ∙ tuple.1)
    (are.each place tuple.0 m tuple.1 at)

-- a match over an instance that is the current one of a completion, of the answer that stands at a place of the log
pub match_over_at : (s : Spec) (query : Query) (search : Search) (c : Rankings) (indexed : IndexedQuery) (place : ℕ)
    (tuple : List Value) (o : Option Match)
    (m : Match) → IsSearchFor s query search → IsCompletion s.relations c → IsOver s.relations query c indexed
    → IsSearch search → (log : Log)
    → log ≡ search.log → slice_get log.answers place ≡ Some tuple → o ≡ Some m
    → IfSome o (IsMatch indexed.query indexed.instance tuple)
    → IsMatchAt search c m place
match_over_at s query search c indexed place tuple o m is completion over held log log_is at found some =
    match_at s query search c m place tuple is completion
    (ap (λ tuples. slice_get tuples place) (sym (ap (λ (l : Log). l.answers) log_is ∙ held.log.answers)) ∙ at)
    (record {
      instance = indexed.instance;
      is_current = over.is_current;
      is_match = subst (λ (q : Query). IsMatch q indexed.instance tuple m) over.of_query
          (subst (λ (x : Option Match). IfSome x (IsMatch indexed.query indexed.instance tuple)) found some);
    })

-- and each of its matches
pub matches_over_at : (s : Spec) (query : Query) (search : Search) (c : Rankings) (indexed : IndexedQuery) (place : ℕ)
    (tuple : List Value) (found : List Match) → IsSearchFor s query search → IsCompletion s.relations c
    → IsOver s.relations query c indexed → IsSearch search → (log : Log)
    → log ≡ search.log → slice_get log.answers place ≡ Some tuple
    → All (IsMatch indexed.query indexed.instance tuple) found
    → All (λ m. IsMatchAt search c m place) found
matches_over_at s query search c indexed place tuple found is completion over held log log_is at each =
    λ k d below. match_over_at s query search c indexed place tuple (Some (get_or found k d)) (get_or found k d) is
    completion over held log log_is at refl (each k d below)
