-- In which lists variables stand, and that those of an axiom stand in one.
use Rattle.std.proofs.Common.{◌≡◌, ◌∙◌, ℕ, zero, suc, Bool, List, [], ◌∷◌, Contains, Some, slice_get, refl, sym, ap, subst, inl, inr, arith}
use Rattle.std.proofs.lemmas.List.Elements.{All-contains, All-weaker}
use Rattle.std.proofs.lemmas.Option.{same_Some, none-some, get_or_from_slice_get}
use Rattle.currency_base.specs.Literals.{var_of}
use Rattle.currency_base.specs.declared.lit.Lit.{Lit}
use Rattle.spec_model.specs.Facts.{IsSpecification}
use Rattle.spec_model.specs.Spec.{Spec}
use Rattle.refutation_log.specs.declared.statement.Statement.{Statement}
use Rattle.refutation_log.specs.declared.statement.Statement.TheVariants as says
use Rattle.refutation_log.specs.declared.step.Label.{Label}
use Rattle.refutation_log.specs.declared.step.Step.{Step}
use Rattle.order_literals.specs.Said.{Said, Says, turned}
use Rattle.order_literals.specs.declared.wanted.Wanted.{Wanted}
use Rattle.order_literals.proofs.Sayings.{tells}
use Rattle.order_clauses.specs.Clauses.{IsAxiomStep, SaysOneOf}
use Rattle.order_clauses.proofs.Reading.{item_at}
use Rattle.entity_ties.specs.Labels.{AreTies, Labelling}
use Rattle.entity_ties.specs.Parts.{list_at}
use Rattle.variable_parts.specs.Parts.{AreVariableParts, IsVarOf, label_at, part_of}
use Rattle.variable_parts.specs.Laws.{HasPart, StandInPart, statements_on}
use Rattle.variable_parts.proofs.AxiomCells.{axiom_in}
use Rattle.variable_parts.proofs.Cells.{about_part, has_part}
use Rattle.variable_parts.proofs.Numbered.{same_cell, statement_cell}

-- a list in which something stands is there
pub list_there : (parts : List (List ℕ)) (part var : ℕ) → Contains (list_at parts part) var
    → slice_get parts part ≡ Some (list_at parts part)
list_there [] part var at = absurd (omega (arith, at.1))
list_there (p ∷ parts) zero var at = refl
list_there (p ∷ parts) (suc part) var at = list_there parts part var at

module _ (s : Spec) (statements : List Statement) (t : Labelling) (parts : List (List ℕ))
    (are : AreVariableParts s statements t parts) where
  -- a variable in the list of a part is of it
  pub var_of_part : (part var : ℕ) → Contains (list_at parts part) var → IsVarOf s statements t part var
  var_of_part part var at = ((are.each part (list_at parts part) (list_there parts part var at)).are var).0 at

  -- and a variable of a part stands in its list
  pub in_list : AreTies s t → (part var : ℕ) → IsVarOf s statements t part var → Contains (list_at parts part) var
  in_list ties part var is =
      let about = about_part t s.relations is.statement part is.of_part in
      let below = ties.below about.about part about.has in
      let list = item_at parts part (omega (arith, are.many)) in
      subst (λ (vars : List ℕ). Contains vars var) (sym (get_or_from_slice_get parts part list.0 [] list.1))
      (((are.each part list.0 list.1).are var).1 is)

pub disjoint : (s : Spec) (statements : List Statement) (t : Labelling) (parts : List (List ℕ)) (a b var : ℕ)
    → AreVariableParts s statements t parts → Contains (list_at parts a) var → Contains (list_at parts b) var → a ≡ b
disjoint s statements t parts a b var are in_a in_b =
    let of_a = var_of_part s statements t parts are a var in_a in
    let of_b = var_of_part s statements t parts are b var in_b in
    let one = same_Some of_a.statement of_b.statement (sym of_a.is_statement ∙ of_b.is_statement) in
    same_Some a b (sym of_a.of_part ∙ (ap (part_of t s.relations) one ∙ of_b.of_part))

pub have_parts : (s : Spec) (wanted : Wanted) (t : Labelling) (parts : List (List ℕ)) (var : ℕ) (statement : Statement)
    → IsSpecification s → AreTies s t → AreVariableParts s (statements_on s wanted) t parts
    → slice_get (statements_on s wanted) var ≡ Some statement → ((tuple : ℕ) → statement ≡ says.Answer tuple → ⊥)
    → HasPart parts var
have_parts s wanted t parts var statement is ties are at other =
    let c = statement_cell s.relations wanted var statement at other in
    let part = has_part s t statement c.0 is ties c.1 in
    record {
      part = part.0;
      stands = in_list s (statements_on s wanted) t parts are ties part.0 var
          (record { statement = statement; is_statement = at; of_part = part.1 });
    }

pub answers_none : (s : Spec) (statements : List Statement) (t : Labelling) (parts : List (List ℕ)) (part var tuple : ℕ)
    → AreVariableParts s statements t parts → slice_get statements var ≡ Some (says.Answer tuple)
    → Contains (list_at parts part) var → ⊥
answers_none s statements t parts part var tuple are at stands =
    let of = var_of_part s statements t parts are part var stands in
    let one = same_Some of.statement (says.Answer tuple) (sym of.is_statement ∙ at) in
    none-some part (ap (part_of t s.relations) (sym one) ∙ of.of_part)

-- ---- axioms

-- a numbered statement has the part of what it says in other words
turned_part : (s : Spec) (wanted : Wanted) (t : Labelling) (statement : Statement) (negative : Bool) (part var : ℕ)
    → part_of t s.relations statement ≡ Some part
    → slice_get (statements_on s wanted) var ≡ Some (turned (record { statement = statement; negative = negative })).statement
    → part_of t s.relations (turned (record { statement = statement; negative = negative })).statement ≡ Some part
turned_part s wanted t (says.Before rel attr earlier later) negative part var of at =
    let c = same_cell s.relations wanted rel attr later earlier var at in
    ap (label_at t) c.1 ∙ (sym (ap (label_at t) c.2) ∙ of)
turned_part s wanted t (says.Top rel attr row) negative part var of at = of
turned_part s wanted t (says.Last rel attr row) negative part var of at = of
turned_part s wanted t (says.Answer tuple) negative part var of at = of

-- the variable of a literal that says something has the part of it
pub said_part : (s : Spec) (wanted : Wanted) (t : Labelling) (lit : Lit) (said : Said) (part : ℕ)
    → Says (statements_on s wanted) lit said
    → part_of t s.relations said.statement ≡ Some part → IsVarOf s (statements_on s wanted) t part (var_of lit)
said_part s wanted t lit said part (inl told) of =
    let is = tells (statements_on s wanted) lit said told in
    record { statement = said.statement; is_statement = is.at; of_part = of }
said_part s wanted t lit said part (inr told) of =
    let is = tells (statements_on s wanted) lit (turned said) told in
    record {
      statement = (turned said).statement;
      is_statement = is.at;
      of_part = turned_part s wanted t said.statement said.negative part (var_of lit) of is.at;
    }

pub steps_stay : (s : Spec) (wanted : Wanted) (t : Labelling) (parts : List (List ℕ)) (l : Label) (lits : List Lit) (taken : Step)
    → IsSpecification s → AreTies s t → AreVariableParts s (statements_on s wanted) t parts
    → IsAxiomStep s (statements_on s wanted) l lits taken → StandInPart parts lits
steps_stay s wanted t parts l lits taken is ties are step =
    let lies = axiom_in s t l step.clause is ties step.is_axiom in
    record {
      part = lies.part;
      each = All-weaker (SaysOneOf (statements_on s wanted) step.clause) (λ lit. Contains (list_at parts lies.part) (var_of lit))
          (λ lit says. in_list s (statements_on s wanted) t parts are ties lies.part (var_of lit)
          (said_part s wanted t lit says.said lies.part says.says
          (All-contains (λ x. part_of t s.relations x.statement ≡ Some lies.part) step.clause says.said lies.each says.is_in)))
          lits step.are_lits.each;
    }
