-- A list in which each row is put before all that stand behind it has no cycle, and is a ranking.
use Rattle.std.proofs.Common.{◌≡◌, ◌<◌, ◌≤◌, ℕ, zero, suc, Bool, List, [], ◌∷◌, Some, slice_get, sym, ap, ◌∙◌, subst, ⊎_elim, arith}
use Rattle.std.specs.List.{Contains}
use Rattle.std.proofs.lemmas.Bool.{cases_lt}
use Rattle.std.proofs.lemmas.Option.{slice_get-get_or, get_or_from_slice_get, slice_get_within, same_Some}
use Rattle.currency_base.specs.declared.ids.AttrId.{AttrId}
use Rattle.currency_base.specs.declared.ids.RelId.{RelId}
use Rattle.currency_base.specs.declared.ids.RowId.{RowId}
use Rattle.currency_base.specs.declared.row.Row.{Row}
use Rattle.entity_lists.specs.Lists.{entities_of, rows_of}
use Rattle.entity_lists.proofs.Facts.{member_of, found_in}
use Rattle.order_literals.specs.Laws.{PairExcludes}
use Rattle.order_literals.proofs.Callers.{entity_read}
use Rattle.order_literals.specs.Numbers.{Numbers}
use Rattle.order_literals.specs.Statements.{statements_of}
use Rattle.partial_orders.specs.Pairs.{entity_of}
use Rattle.spec_model.specs.Completion.{IsRanking}
use Rattle.spec_model.specs.declared.relation.Relation.{Relation}
use Rattle.completion_build.specs.Contests.{Puts}
use Rattle.completion_build.specs.Judged.{IsOrdered}
use Rattle.completion_build.specs.Places.{contest_of}
use Rattle.completion_build.specs.Ranked.{IsPut, Leads, HasCycle}
use Rattle.completion_build.specs.Ranked.Leads.{one, more}

-- the list holds a row at a place
pub record IsListed (list : List RowId) (row : RowId) : Type 0 where
  pub place : ℕ
  pub at : slice_get list place ≡ Some row

pub listed : (list : List RowId) (row : RowId) → Contains list row → IsListed list row
listed list row has = record { place = has.0; at = slice_get-get_or list has.0 row has.1 ∙ ap Some has.2 }

pub contained : (list : List RowId) (i : ℕ) (row : RowId) → slice_get list i ≡ Some row → Contains list row
contained list i row at = (i, slice_get_within list i row at, get_or_from_slice_get list i row row at)

-- where what is put leads on in a list, no row leads to itself
module _ (P : RowId → RowId → Type 0) (list : List RowId) (first_listed : (t u : RowId) → P t u → IsListed list t)
    (second_listed : (t u : RowId) → P t u → IsListed list u)
    (forward : (p q : ℕ) (t u : RowId) → slice_get list p ≡ Some t → slice_get list q ≡ Some u → P t u → p < q) where
  leads_forward : {a b : RowId} → Leads P a b → (p q : ℕ) → slice_get list p ≡ Some a → slice_get list q ≡ Some b → p < q
  leads_forward (one {a = a} {b = b} h) p q at_a at_b = forward p q a b at_a at_b h
  leads_forward (more {a = a} {b = b} h rest) p q at_a at_c =
      let between = second_listed a b h in
      let step = forward p between.place a b at_a between.at h in
      let steps = leads_forward rest between.place q between.at at_c in
      omega arith

  leader_listed : {a b : RowId} → Leads P a b → IsListed list a
  leader_listed (one {a = a} {b = b} h) = first_listed a b h
  leader_listed (more {a = a} {b = b} h rest) = first_listed a b h

  none_leads : (a : RowId) → Leads P a a → ⊥
  none_leads a leads =
      let here = leader_listed leads in
      let below = leads_forward leads here.place here.place here.at here.at in
      omega arith

-- the entity of a row, and the place of its number
pub entity_back : (rows : List Row) (row ent : ℕ) → slice_get (entities_of rows) row ≡ Some ent → entity_of rows row ≡ Some ent
entity_back [] row ent e = cc
entity_back (r ∷ rows) zero ent e = e
entity_back (r ∷ rows) (suc row) ent e = entity_back rows row ent e

pub entity_is : (rows : List Row) (ent : ℕ) (row : RowId) → Contains (rows_of (entities_of rows) ent) row
    → entity_of rows row.0 ≡ Some ent
entity_is rows ent row has =
    let here = listed (rows_of (entities_of rows) ent) row has in
    entity_back rows row.0 ent (member_of (entities_of rows) ent here.place row here.at)

pub is_member : (rows : List Row) (ent : ℕ) (row : RowId) → entity_of rows row.0 ≡ Some ent
    → Contains (rows_of (entities_of rows) ent) row
is_member rows ent row of =
    let found = found_in (entities_of rows) ent row (entity_read rows row.0 ent of) in
    contained (rows_of (entities_of rows) ent) found.0 row found.1

module _ (exclude : PairExcludes) (n : Numbers) (truths : List Bool) (rel : RelId) (attr : AttrId) (r : Relation)
    (ent : ℕ) (list : List RowId)
    (is : IsOrdered (contest_of n truths rel attr r ent) list) where
  -- of two rows of the list the one that is put before the other stands before it
  pub stands_before : (p q : ℕ) (t u : RowId) → slice_get list p ≡ Some t → slice_get list q ≡ Some u
      → Puts (contest_of n truths rel attr r ent) t u → p < q
  stands_before p q t u at_t at_u put =
      ⊎_elim
      (λ (h : p < q). h)
      (λ (h : q ≤ p).
      ⊎_elim
      (λ (g : q < p). absurd (exclude n truths rel attr t u put (is.put q p u t g at_u at_t)))
      (λ (g : p ≤ q).
      let same : p ≡ q = omega arith in
      let rows_same : t ≡ u = same_Some t u (sym at_t ∙ ap (slice_get list) same ∙ at_u) in
      let itself : Puts (contest_of n truths rel attr r ent) u u =
      subst (λ (s : RowId). Puts (contest_of n truths rel attr r ent) s u) rows_same put in
      absurd (exclude n truths rel attr u u itself itself))
      (cases_lt q p))
      (cases_lt p q)

  -- a row of the entity stands in the list
  pub of_entity_listed : (row : RowId) → entity_of r.rows row.0 ≡ Some ent → IsListed list row
  of_entity_listed row of = listed list row (is.all row (is_member r.rows ent row of))

  pub no_cycle : HasCycle (statements_of n) truths rel attr r ent → ⊥
  no_cycle h =
      none_leads (IsPut (statements_of n) truths rel attr r ent) list (λ t u put. of_entity_listed t put.first_of)
      (λ t u put. of_entity_listed u put.second_of)
      (λ p q t u at_t at_u put. stands_before p q t u at_t at_u put.put) h.row h.leads

  pub is_ranking : IsRanking r.rows ent list
  is_ranking = record {
    only = λ row has. entity_is r.rows ent row (is.only row has);
    once = is.once;
    all = λ row of. is.all row (is_member r.rows ent row of);
  }
