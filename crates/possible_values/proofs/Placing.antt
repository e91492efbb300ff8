-- The claims of a match are of values that are there, and few.
use Rattle.std.proofs.Common.{◌≡◌, ◌∙◌, ◌+◌, ◌*◌, ◌<◌, ◌≤◌, ◌++◌, ◌==◌, ◌||◌, ◌⊎◌, inl, inr, ltb, ℕ, zero, suc, Bool, true, false, cond, List, [], ◌∷◌, All, Option, Some, None, length, option_map, option_and_then, slice_get, refl, sym, ap, subst, arith}
use Rattle.std.specs.List.{find, list_any}
use Rattle.std.proofs.lemmas.Bool.{false≢true, ltb-false}
use Rattle.std.proofs.lemmas.Bool.Decides.{eqb_tells}
use Rattle.std.proofs.lemmas.List.{length-append, length_push}
use Rattle.std.proofs.lemmas.List.Elements.{All-append, All-nil, All-push}
use Rattle.std.proofs.lemmas.Option.{none-some, same_Some}
use Rattle.currency_base.specs.declared.ids.EntId.{EntId}
use Rattle.currency_base.specs.declared.ids.RelId.{RelId}
use Rattle.currency_base.specs.declared.ids.RowId.{RowId}
use Rattle.currency_base.specs.declared.row.Row.{Row}
use Rattle.currency_base.specs.declared.value.Value.{Value}
use Rattle.entity_rows.specs.Members.{members}
use Rattle.entity_rows.proofs.Membership.{member_of_entity}
use Rattle.log_axioms.specs.Matches.{atom_claims, both_claims, match_claims}
use Rattle.match_candidates.specs.Matches.{AreClaimsOf}
use Rattle.match_premises.specs.Premises.{claim_of, claims_from, entity_premises, fits_name, has_value, place_claim, with_claim}
use Rattle.match_premises.specs.declared.premise.Premise.{Premise}
use Rattle.match_premises.proofs.Folds.{no_claims}
use Rattle.partial_orders.specs.Pairs.{entity_of}
use Rattle.posed_facts.specs.Facts.{IsPlaced}
use Rattle.query_model.specs.declared.query.Atom.{Atom}
use Rattle.query_model.specs.declared.query.Match.{Match}
use Rattle.query_model.specs.declared.query.Query.{Query}
use Rattle.query_model.specs.declared.query.Term.{Term}
use Rattle.query_model.specs.declared.query.Term.TheVariants as term
use Rattle.spec_limits.specs.Limits.{exceeded}
use Rattle.spec_limits.proofs.Chain.{none_of}
use Rattle.spec_model.specs.Queries.{IsDisjunctOn, IsQueryOn}
use Rattle.spec_model.specs.Spec.{Spec}
use Rattle.spec_model.specs.declared.question.Question.{Question}
use Rattle.spec_model.specs.declared.question.Question.TheVariants as asked
use Rattle.spec_model.specs.declared.relation.Relation.{Relation}
use Rattle.report_verify.specs.Asked.{query_of}
use Rattle.possible_values.specs.Steps.{HaveFewAttrs, IsQueryMatch}
use Rattle.possible_values.proofs.Lists.{each_has, item_has}

-- ---- limits

-- a test that no item passes
none_passes : {A : Type 0} (p : A → Bool) (xs : List A) → list_any p xs ≡ false → (k : ℕ) (x : A) → slice_get xs k ≡ Some x
    → p x ≡ false
none_passes p [] none k x at = absurd (none-some x at)
none_passes {A} p (y ∷ xs) none k x at = by (p y) refl none k at (λ rest j there. none_passes p xs rest j x there)
  where
    by : (b : Bool) → p y ≡ b → (b || list_any p xs) ≡ false → (k : ℕ) → slice_get (y ∷ xs) k ≡ Some x
        → (list_any p xs ≡ false → (j : ℕ) → slice_get xs j ≡ Some x → p x ≡ false) → p x ≡ false
    by true e none k at later = absurd (false≢true (sym none))
    by false e none zero at later = ap p (sym (same_Some y x at)) ∙ e
    by false e none (suc k) at later = later none k at

-- within the limits of a specification each relation has few attributes
pub few_attrs : (s : Spec) → exceeded s ≡ None → HaveFewAttrs s.relations
unfolding exceeded
few_attrs s within =
    each_has (λ (r : Relation). length r.attrs ≤ 32) s.relations
    (λ k r at. ltb-false 32 (length r.attrs)
    (none_passes (λ (q : Relation). ltb 32 (length q.attrs)) s.relations (none_of _ _ _ _ _ _ within).attrs k r at))

-- ---- rows

-- what is found among items is one of them
found_at : {A : Type 0} (p : A → Bool) (xs : List A) (x : A) → find p xs ≡ Some x → (k : ℕ) × (slice_get xs k ≡ Some x)
found_at p [] x is = absurd (none-some x is)
found_at {A} p (y ∷ xs) x is = by (p y) is (λ rest. found_at p xs x rest)
  where
    by : (b : Bool) → cond b (Some y) (find p xs) ≡ Some x → (find p xs ≡ Some x → (k : ℕ) × (slice_get xs k ≡ Some x))
        → (k : ℕ) × (slice_get (y ∷ xs) k ≡ Some x)
    by true is later = (zero, is)
    by false is later = let rest = later is in (suc rest.0, rest.1)

-- a row that stands for an entity is there
row_there : (rows : List Row) (n ent : ℕ) → entity_of rows n ≡ Some ent → (row : Row) × (slice_get rows n ≡ Some row)
row_there [] n ent is = absurd (none-some ent is)
row_there (row ∷ rows) zero ent is = (row, refl)
row_there (row ∷ rows) (suc n) ent is = row_there rows n ent is

-- ---- the claims of an atom

module _ (relations : List Relation) (rel : RelId) (r : Relation) (ent : EntId) (values : List Value)
    (there : slice_get relations rel.0 ≡ Some r) where
  -- the claim of a row
  abbrev claim_at : ℕ → RowId → Premise
  claim_at attr row = record { rel = rel; attr = record { 0 = attr }; row = row }

  -- a row that is found for a claim is there
  claim_placed : (attr : ℕ) (p : RowId → Bool) (row : RowId) → attr < length r.attrs
      → find p (members r.rows ent.0) ≡ Some row
      → IsPlaced relations (claim_at attr row)
  claim_placed attr p row below is =
      let at = found_at p (members r.rows ent.0) row is in
      let one = row_there r.rows row.0 ent.0 (member_of_entity r.rows ent.0 at.0 row at.1) in
      record { relation = r; is_relation = there; row = one.0; is_row = one.1; attr = below }

  -- what a place claims is there
  abbrev PlacedAt : Option (Option Premise) → Type 0
  PlacedAt o = (p : Premise) → o ≡ Some (Some p) → IsPlaced relations p

  value_placed : (attr : ℕ) (v : Option Value) → attr < length r.attrs
      → PlacedAt (claim_of rel r.rows (members r.rows ent.0) (record { 0 = attr }) v)
  value_placed attr None below p is = absurd (none-some (Some p) is)
  value_placed attr (Some v) below p is =
      by (find (has_value r.rows (record { 0 = attr }) v) (members r.rows ent.0)) refl is
    where
      by : (o : Option RowId) → find (has_value r.rows (record { 0 = attr }) v) (members r.rows ent.0) ≡ o
          → option_map (λ row. Some (claim_at attr row)) o ≡ Some (Some p) → IsPlaced relations p
      by None found is = absurd (none-some (Some p) is)
      by (Some row) found is =
          subst (IsPlaced relations) (same_Some _ p (same_Some _ (Some p) is))
          (claim_placed attr (has_value r.rows (record { 0 = attr }) v) row below found)

  place_placed : (attr : ℕ) (t : Term) → attr < length r.attrs
      → PlacedAt (place_claim rel r.rows (members r.rows ent.0) values (record { 0 = attr }) t)
  place_placed attr (term.Var v) below p is = value_placed attr (slice_get values v) below p is
  place_placed attr term.Any below p is = absurd (none-some p (same_Some None (Some p) is))
  place_placed attr (term.Constant c) below p is = value_placed attr (Some c) below p is

  -- claims that are there, of which there are no more than so many
  abbrev Placed : List Premise → ℕ → Type 0
  Placed claims most = All (IsPlaced relations) claims × (length claims ≤ most)

  -- the terms from one on claim no more than one value each
  from_placed : (terms : List Term) (so_far claims : List Premise) (most attr : ℕ) → attr + length terms ≤ length r.attrs
      → Placed so_far most
      → claims_from rel r.rows (members r.rows ent.0) values (Some so_far) attr terms ≡ Some claims
      → Placed claims (most + length terms)
  from_placed [] so_far claims most attr below placed is =
      let same = same_Some so_far claims is in (
        subst (All (IsPlaced relations)) same placed.0,
        (let many = ap (λ (l : List Premise). length l) same in omega (arith, many, placed.1)),
      )
  from_placed (t ∷ terms) so_far claims most attr below placed is =
      by (place_claim rel r.rows (members r.rows ent.0) values (record { 0 = attr }) t)
      (place_placed attr t (omega (arith, below)))
      (λ more next own rest. from_placed terms more claims next (attr + 1) (omega (arith, below)) own rest) is
    where
      by : (o : Option (Option Premise)) → PlacedAt o
          → ((more : List Premise) (next : ℕ) → Placed more next
          → claims_from rel r.rows (members r.rows ent.0) values (Some more) (attr + 1) terms ≡ Some claims
          → Placed claims (next + length terms))
          → claims_from rel r.rows (members r.rows ent.0) values (with_claim (Some so_far) o) (attr + 1) terms ≡ Some claims
          → Placed claims (most + suc (length terms))
      by None own later is =
          absurd (none-some claims (sym (no_claims rel r.rows (members r.rows ent.0) values (attr + 1) terms) ∙ is))
      by (Some None) own later is =
          let rest = later so_far most placed is in (rest.0, omega (arith, rest.1))
      by (Some (Some p)) own later is =
          let rest = later (so_far ++ p ∷ []) (most + 1)
          (All-push (IsPlaced relations) so_far p placed.0 (own p refl), omega (arith, length_push so_far p, placed.1)) is in
          (rest.0, omega (arith, rest.1))

  -- where there are as many terms as attributes, an atom claims no more than one value each
  entity_placed : (terms : List Term) (claims : List Premise)
      → entity_premises rel values terms r ent ≡ Some claims → Placed claims (length r.attrs)
  entity_placed [] claims is = absurd (none-some claims is)
  entity_placed (first ∷ more) claims is =
      by (eqb_tells (length more) (length r.attrs)) is
    where
      read : claims_from rel r.rows (members r.rows ent.0) values (Some []) 0 more ≡ Some claims → length more ≡ length r.attrs
          → Placed claims (length r.attrs)
      read rest many =
          let placed = from_placed more [] claims 0 0 (omega (arith, many)) (All-nil (IsPlaced relations), omega arith) rest in
          (placed.0, omega (arith, placed.1, many))

      named : (b : Bool) → length more ≡ length r.attrs
          → cond b (claims_from rel r.rows (members r.rows ent.0) values (Some []) 0 more) None ≡ Some claims
          → Placed claims (length r.attrs)
      named true many rest = read rest many
      named false many rest = absurd (none-some claims rest)

      by : (((length more == length r.attrs) ≡ true) × (length more ≡ length r.attrs))
          ⊎ (((length more == length r.attrs) ≡ false) × (length more ≡ length r.attrs → ⊥))
          → entity_premises rel values (first ∷ more) r ent ≡ Some claims → Placed claims (length r.attrs)
      by (inl same) whole = named (fits_name values first (slice_get r.entities ent.0)) same.1 (rw same.0 at whole)
      by (inr other) whole = absurd (none-some claims (rw other.0 at whole))

-- what an atom claims is there, and no more than one value for each attribute
atom_placed : (relations : List Relation) → HaveFewAttrs relations → (values : List Value) (atom : Atom) (ent : EntId)
    (claims : List Premise) → atom_claims relations values atom ent ≡ Some claims
    → All (IsPlaced relations) claims × (length claims ≤ 32)
atom_placed relations few values atom ent claims is = by (slice_get relations atom.relation.0) refl is
  where
    by : (o : Option Relation) → slice_get relations atom.relation.0 ≡ o
        → option_and_then (λ r. entity_premises atom.relation values atom.terms r ent) o ≡ Some claims
        → All (IsPlaced relations) claims × (length claims ≤ 32)
    by None at own = absurd (none-some claims own)
    by (Some r) at own =
        let placed = entity_placed relations atom.relation r ent values at atom.terms claims own in
        let small = item_has (λ (q : Relation). length q.attrs ≤ 32) relations few atom.relation.0 r at in
        (placed.0, omega (arith, placed.1, small))

-- ---- the claims of atoms

-- both have claims where together they have some
record AreBoth (o p : Option (List Premise)) (claims : List Premise) : Type 0 where
  first : List Premise
  more : List Premise
  is_first : o ≡ Some first
  is_more : p ≡ Some more
  are : first ++ more ≡ claims

both : (o p : Option (List Premise)) (claims : List Premise) → both_claims o p ≡ Some claims → AreBoth o p claims
both None p claims is = absurd (none-some claims is)
both (Some first) None claims is = absurd (none-some claims is)
both (Some first) (Some more) claims is =
    record { first = first; more = more; is_first = refl; is_more = refl; are = same_Some (first ++ more) claims is }

-- what atoms claim is there, and no more than so many values for each atom
atoms_placed : (relations : List Relation) → HaveFewAttrs relations → (values : List Value) (atoms : List Atom)
    (ents : List EntId) (claims : List Premise) → match_claims relations values atoms ents ≡ Some claims
    → All (IsPlaced relations) claims × (length claims ≤ 32 * length atoms)
atoms_placed relations few values [] [] claims is =
    let same = same_Some [] claims is in (
      subst (All (IsPlaced relations)) same (All-nil (IsPlaced relations)),
      (let many = ap (λ (l : List Premise). length l) same in omega (arith, many)),
    )
atoms_placed relations few values [] (ent ∷ ents) claims is = absurd (none-some claims is)
atoms_placed relations few values (atom ∷ atoms) [] claims is = absurd (none-some claims is)
atoms_placed relations few values (atom ∷ atoms) (ent ∷ ents) claims is =
    let parts = both (atom_claims relations values atom ent) (match_claims relations values atoms ents) claims is in
    let own = atom_placed relations few values atom ent parts.first parts.is_first in
    let rest = atoms_placed relations few values atoms ents parts.more parts.is_more in (
      subst (All (IsPlaced relations)) parts.are
          (All-append (IsPlaced relations) parts.first parts.more own.0 rest.0),
      (let many = ap (λ (l : List Premise). length l) parts.are in
          omega (arith, many, length-append parts.first parts.more, own.1, rest.1)),
    )

-- what a match of a query claims is there, and is of 256 values at most
pub match_placed : (relations : List Relation) → HaveFewAttrs relations → (query : Query) (m : Match) (claims : List Premise)
    → IsQueryOn relations query → AreClaimsOf relations query m claims
    → (length claims ≤ 256) × All (IsPlaced relations) claims
match_placed relations few query m claims on are =
    let d = item_has (IsDisjunctOn relations on.heads) query.disjuncts on.disjuncts m.disjunct are.disjunct are.is_disjunct in
    let placed = atoms_placed relations few m.values are.disjunct.atoms m.entities claims are.are in
    (omega (arith, placed.1, d.few_atoms), placed.0)

-- the same of the query that a question asks
pub asked_placed : (relations : List Relation) → HaveFewAttrs relations → (q : Question) (query : Query) (m : Match)
    (claims : List Premise) → q ≡ asked.Answers query → IsQueryMatch relations q m → AreClaimsOf relations query m claims
    → (length claims ≤ 256) × All (IsPlaced relations) claims
asked_placed relations few q query m claims is of are =
    let same : of.query ≡ query = same_Some of.query query (sym of.is_query ∙ ap query_of is) in
    match_placed relations few query m claims (subst (IsQueryOn relations) same of.on) are
