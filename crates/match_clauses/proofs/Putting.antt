-- Literals that join those of a clause so far.
use Rattle.std.proofs.Common.{◌≡◌, ◌∙◌, ◌+◌, ◌-◌, ◌≤◌, ℕ, suc, List, [], ◌∷◌, ◌++◌, Contains, Some, drop, length, slice_get, take, append_assoc, refl, sym, ap, subst, ⊎_elim, arith}
use Rattle.std.proofs.lemmas.List.{append-nil, drop_all, take_all}
use Rattle.std.proofs.lemmas.List.Elements.{All-contains, Contains-push_cases, Contains-push, Contains-append_left}
use Rattle.std.proofs.Math.Seq.{drop-cons}
use Rattle.std.proofs.lemmas.Option.{get_or_from_slice_get, slice_get_within}
use Rattle.currency_base.specs.declared.ids.EntId.{EntId}
use Rattle.currency_base.specs.declared.ids.RelId.{RelId}
use Rattle.currency_base.specs.declared.lit.Lit.{Lit}
use Rattle.query_model.specs.declared.query.Atom.{Atom}
use Rattle.query_model.specs.declared.query.Term.{Term}
use Rattle.spec_model.specs.Completion.{Rankings}
use Rattle.spec_model.specs.declared.relation.Relation.{Relation}
use Rattle.refutation_log.specs.declared.statement.Statement.{Statement}
use Rattle.order_clauses.specs.Added.{IsAddedTo}
use Rattle.order_clauses.specs.Clauses.{AreLits, IsSaidByOne, SaysOneOf}
use Rattle.order_clauses.proofs.Saying.{all_of, distinct_of_once, distinct_push}
use Rattle.order_literals.specs.Said.{Said, Says}
use Rattle.match_clauses.specs.Claimed.{atom_said, atoms_said, term_said, terms_said}
use Rattle.match_clauses.specs.Clauses.{Puts}

pub puts_none : (statements : List Statement) (lits : List Lit) → Puts statements [] lits lits
puts_none statements lits clause are = subst (λ (x : List Said). AreLits statements x lits) (sym (append-nil clause)) are

pub puts_one : (statements : List Statement) (said : Said) (lit : Lit) (old new : List Lit) → Says statements lit
    said → IsAddedTo old lit new
    → Puts statements (said ∷ []) old new
puts_one statements said lit old new says is clause are =
    let d = distinct_push old old new lit (distinct_of_once old are.once) is in
    record {
      each = all_of (SaysOneOf statements (clause ++ said ∷ [])) new (λ x h. ⊎_elim
          (λ (p : Contains old x).
          let o = All-contains (SaysOneOf statements clause) old x are.each p in
          let r : SaysOneOf statements (clause ++ said ∷ []) x = record {
            said = o.said;
            is_in = Contains-append_left clause (said ∷ []) o.said o.is_in;
            says = o.says;
          } in r)
          (λ (p : lit ≡ x).
          let r : SaysOneOf statements (clause ++ said ∷ []) x = record {
            said = said;
            is_in = Contains-push clause said;
            says = subst (λ (l : Lit). Says statements l said) p says;
          } in r)
          (Contains-push_cases old lit x (d.each x h)));
      all = all_of (IsSaidByOne statements new) (clause ++ said ∷ []) (λ q h. ⊎_elim
          (λ (p : Contains clause q).
          let o = All-contains (IsSaidByOne statements old) clause q are.all p in
          let r : IsSaidByOne statements new q = record {
            lit = o.lit;
            is_in = d.all o.lit (Contains-append_left old (lit ∷ []) o.lit o.is_in);
            says = o.says;
          } in r)
          (λ (p : said ≡ q).
          let r : IsSaidByOne statements new q = record {
            lit = lit;
            is_in = d.all lit (Contains-push old lit);
            says = subst (Says statements lit) p says;
          } in r)
          (Contains-push_cases clause said q h));
      once = d.once;
    }

pub puts_both : (statements : List Statement) (p q : List Said) (old mid new : List Lit) → Puts statements p old mid
    → Puts statements q mid new
    → Puts statements (p ++ q) old new
puts_both statements p q old mid new f g clause are =
    subst (λ (x : List Said). AreLits statements x new) (append_assoc clause p q) (g (clause ++ p) (f clause are))

-- ---- part by part

-- of a clause, what is left is this
pub record IsSoFar (statements : List Statement) (whole rest : List Said) (old new : List Lit) : Type 0 where
  pub done : List Said
  pub is_done : whole ≡ done ++ rest
  pub puts : Puts statements done old new

pub so_far_begin : (statements : List Statement) (whole : List Said) (lits : List Lit) → IsSoFar statements whole whole lits lits
so_far_begin statements whole lits = record { done = []; is_done = refl; puts = puts_none statements lits }

pub so_far_more : (statements : List Statement) (whole left part rest : List Said) (old mid new : List Lit) → left ≡ part ++ rest
    → IsSoFar statements whole left old mid → Puts statements part mid new → IsSoFar statements whole rest old new
so_far_more statements whole left part rest old mid new e so puts = record {
  done = so.done ++ part;
  is_done = so.is_done ∙ ap (λ (x : List Said). so.done ++ x) e ∙ sym (append_assoc so.done part rest);
  puts = puts_both statements so.done part old mid new so.puts puts;
}

pub so_far_end : (statements : List Statement) (whole left : List Said) (old new : List Lit) → left ≡ []
    → IsSoFar statements whole left old new
    → Puts statements whole old new
so_far_end statements whole left old new e so =
    subst (λ (x : List Said). Puts statements x old new)
    (sym (so.is_done ∙ ap (λ (x : List Said). so.done ++ x) e ∙ append-nil so.done)) so.puts

-- ---- terms and atoms

pub left_more : {A : Type 0} (xs : List A) (i : ℕ) (x : A) → slice_get xs i ≡ Some x → drop i xs ≡ x ∷ drop (i + 1) xs
left_more xs i x at =
    let next : suc i ≡ i + 1 = omega arith in
    drop-cons xs i x (slice_get_within xs i x at)
    ∙ ap (λ y. y ∷ drop (suc i) xs) (get_or_from_slice_get xs i x x at)
    ∙ ap (λ n. x ∷ drop n xs) next

pub all_but_first : {A : Type 0} (xs : List A) → take (length xs - 1) (drop 1 xs) ≡ drop 1 xs
all_but_first [] = refl
all_but_first (x ∷ xs) = take_all (length (x ∷ xs) - 1) xs (omega arith)

module _ (relations : List Relation) (c : Rankings) where
  pub terms_left : (rel : RelId) (ent : EntId) (terms : List Term) (i : ℕ) (t : Term) → slice_get terms i ≡ Some t
      → terms_said relations c rel ent i (drop i terms)
      ≡ term_said relations c rel ent (record { 0 = i }) t ++ terms_said relations c rel ent (i + 1) (drop (i + 1) terms)
  terms_left rel ent terms i t at = ap (terms_said relations c rel ent i) (left_more terms i t at)

  pub terms_end : (rel : RelId) (ent : EntId) (terms : List Term) (i : ℕ) → length terms ≤ i → terms_said relations c
      rel ent i (drop i terms) ≡ []
  terms_end rel ent terms i past = ap (terms_said relations c rel ent i) (drop_all i terms past)

  pub atoms_left : (atoms : List Atom) (entities : List EntId) (i : ℕ) (atom : Atom) (ent : EntId) → slice_get atoms i ≡ Some atom
      → slice_get entities i ≡ Some ent
      → atoms_said relations c (drop i atoms) (drop i entities)
      ≡ atom_said relations c atom ent ++ atoms_said relations c (drop (i + 1) atoms) (drop (i + 1) entities)
  atoms_left atoms entities i atom ent at of =
      ap (λ (xs : List Atom). atoms_said relations c xs (drop i entities)) (left_more atoms i atom at)
      ∙ ap (atoms_said relations c (atom ∷ drop (i + 1) atoms)) (left_more entities i ent of)

  pub atoms_end : (atoms : List Atom) (entities : List EntId) (i : ℕ) → length atoms ≤ i
      → atoms_said relations c (drop i atoms) (drop i entities) ≡ []
  atoms_end atoms entities i past = ap (λ (xs : List Atom). atoms_said relations c xs (drop i entities)) (drop_all i atoms past)
