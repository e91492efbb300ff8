-- A joined completion is consistent with the items that are needed, but for one.
use Rattle.std.proofs.Common.{◌≡◌, ◌∙◌, ◌&&◌, ℕ, suc, Bool, true, false, not, if◌then◌else◌, List, [], ◌∷◌, Option, Some, Contains, slice_get, slice_index_or, refl, sym, ap, subst}
use Rattle.std.proofs.lemmas.Bool.{and_from, and_parts, false≢true}
use Rattle.currency_base.specs.declared.ids.RowId.{RowId}
use Rattle.copy_functions.specs.Copies.{CopyFunction, source_at}
use Rattle.denial_rules.specs.declared.rule.Rule.{Rule}
use Rattle.minimal_items.specs.Among.{among, among_but, same_item}
use Rattle.minimal_items.specs.Explanations.{needed_items}
use Rattle.part_items.specs.Items.{kept_in, target_rows}
use Rattle.part_items.specs.Laws.{ItemsAreParted}
use Rattle.part_items.proofs.KeptPlaces.{relation_of, pair_of, copy_of, source_of}
use Rattle.part_join.specs.Joined.{IsJoined}
use Rattle.part_laws.specs.Parts.{rows_in, AreSameBeyond}
use Rattle.part_laws.proofs.Beyond.{Both, AreBoth, ranked_beyond, kept_beyond}
use Rattle.part_laws.proofs.Cuts.{Parted, IsParted}
use Rattle.part_laws.proofs.FromPart.{ranked_from_part, kept_from_part}
use Rattle.part_laws.proofs.Rows.{same_number}
use Rattle.part_laws.proofs.Scoped.{beyond, KeepsGivenIn, SatisfiesRulesIn, IsCompatibleIn, completion_of_both, consistent_of_both}
use Rattle.partial_orders.specs.Pairs.{entity_of}
use Rattle.spec_items.specs.Kept.{Keeps, kept_relations, kept_rules, kept}
use Rattle.spec_items.specs.Laws.{FewerItems}
use Rattle.spec_items.specs.declared.item.Item.{Item}
use Rattle.spec_items.specs.declared.item.Item.TheVariants as item
use Rattle.spec_model.specs.Completion.{Rankings, IsCompletion}
use Rattle.spec_model.specs.Consistent.{IsConsistent}
use Rattle.spec_model.specs.Facts.{IsSpecification}
use Rattle.spec_model.specs.Satisfies.{IsChoice, IsSatisfiedBy}
use Rattle.spec_model.specs.declared.relation.Relation.{Relation}
use Rattle.part_widens.specs.Widened.{is_rule, rules_among}
use Rattle.part_widens.proofs.KeptCompletions.{beyond_kept, completion_kept, completion_whole, narrowed_kept, shape_kept}
use Rattle.part_widens.proofs.KeptSpec.{is_kept, kept_there}
use Rattle.part_widens.proofs.PartItems.{HasRow}
use Rattle.part_widens.proofs.WideItems.{Widening, IsWidening, whole_of, needed_row, part_but}

not_both : (b : Bool) → not b ≡ true → b ≡ true → ⊥
not_both true e is = false≢true e
not_both false e is = false≢true is

-- the rules that are kept, and nothing else
abbrev only_rules : Keeps → Keeps
only_rules keeps = λ i. is_rule i && keeps i

same_rules : (keeps : Keeps) (k : ℕ) (rules : List Rule) → kept_rules (only_rules keeps) k rules ≡ kept_rules keeps k rules
same_rules keeps k [] = refl
same_rules keeps k (rule ∷ rules) =
    ap (λ (rest : List Rule). if keeps (item.Rule (record { 0 = k })) then rule ∷ rest else rest)
    (same_rules keeps (suc k) rules)

-- ---- what is kept beyond a part

-- each item that is kept names rows of the part
abbrev NamesPart : Widening → Keeps → Type 0
NamesPart w keeps = (j : Item) → keeps j ≡ true → HasRow w.n w.s.copies j

-- an entity of a row of the part is not beyond the part
not_beyond : (w : Widening) (rel : ℕ) (r : Relation) (row : RowId) (ent : ℕ) → IsWidening w
    → slice_get w.s.relations rel ≡ Some r → Contains (rows_in w.n rel) row → entity_of r.rows row.0 ≡ Some ent
    → beyond w.scope rel ent ≡ true → ⊥
not_beyond w rel r row ent is at contained of scoped =
    let inside = (is.of.places.rows rel r at row).0 contained in
    let same = same_number r.rows row.0 inside.ent ent inside.is_of of in
    not_both (w.scope rel ent) scoped (ap (w.scope rel) (sym same) ∙ inside.is_in)

given_beyond : (w : Widening) (keeps : Keeps) (c : Rankings) → IsWidening w → NamesPart w keeps
    → KeepsGivenIn (kept_relations keeps 0 w.s.relations) (beyond w.scope) c
given_beyond w keeps c is names rel r at p contained ent of scoped =
    let whole = relation_of keeps w.s.relations rel r at in
    let pair = pair_of keeps rel whole.0.given p (subst (λ (q : Relation). Contains q.given p) (sym whole.2) contained) in
    let row = names (item.Given (record { 0 = rel }) p) pair.1 in
    absurd
    (not_beyond w rel whole.0 p.earlier ent is whole.1 row
    (ap (λ (q : Relation). entity_of q.rows p.earlier.0) whole.2 ∙ of) scoped)

copies_beyond : (w : Widening) (keeps : Keeps) (c : Rankings) → IsWidening w → NamesPart w keeps
    → IsCompatibleIn (kept keeps w.s) (beyond w.scope) c
copies_beyond w keeps c is names at copy is_copy t u is_t is_u place_at place is_place first second rows scoped before =
    let whole = copy_of keeps w.s.copies at copy is_copy in
    let mapped = source_of keeps at whole.0 first rows.first_source
    (subst (λ (q : CopyFunction). source_at q first ≡ Some rows.first_source) (sym whole.2) rows.first_is) in
    let named = names (item.Copy (record { 0 = at }) first) mapped.0 in
    let row = subst (λ (o : Option CopyFunction). Contains (target_rows w.n o) first) whole.1 named in
    let target = relation_of keeps w.s.relations copy.target.0 t is_t in
    absurd
    (not_beyond w copy.target.0 target.0 first rows.ent is target.1
    (subst (λ (q : CopyFunction). Contains (rows_in w.n q.target.0) first) whole.2 row)
    (ap (λ (q : Relation). entity_of q.rows first.0) target.2 ∙ rows.first_of) scoped)

-- ---- rules beyond a part

rules_beyond : (w : Widening) (keeps : Keeps) (c : Rankings) → ItemsAreParted → IsWidening w → IsSpecification w.s
    → IsCompletion w.s.relations c → AreSameBeyond w.s.relations w.scope c w.base
    → IsConsistent (kept (only_rules keeps) w.s) w.base
    → SatisfiesRulesIn (kept keeps w.s) (beyond w.scope) c
rules_beyond w keeps c parted is whole_is completion same base_is at rule at_rule r at_r =
    let rules = only_rules keeps in
    let rel = rule.relation.0 in
    let b : Both = record { s = kept rules w.s; scope = w.scope; c = c; other = w.base } in
    let are : AreBoth b = record {
      whole_is = is_kept rules w.s whole_is;
      closed = (parted w.s w.scope w.n w.part rules is.of).closed;
      completion = completion_kept rules w.s.relations c completion;
      other_is = base_is.completion;
      same = beyond_kept rules w.s.relations w.scope c w.base same;
    } in
    let whole = relation_of keeps w.s.relations rel r at_r in
    let one = kept_there rules 0 w.s.relations rel whole.0 whole.1 in
    subst
    (λ (q : Relation). (rows : List RowId) (choice : IsChoice q.rows rule.vars rows) → beyond w.scope rel choice.ent ≡ true
    → IsSatisfiedBy q.rows (slice_index_or c rel []) rule rows)
    whole.2
    ((kept_beyond b are base_is).rules at rule (ap (λ (l : List Rule). slice_get l at) (same_rules keeps 0 w.s.rules) ∙ at_rule)
    (record whole.0 { given = one.0 }) one.1)

-- ---- all together

-- of the part as one without the item, and beyond it as the base
pub joined : FewerItems → ItemsAreParted → (w : Widening) (it : Item) (narrow c : Rankings) → IsWidening w
    → IsSpecification w.s
    → IsConsistent (kept (rules_among (needed_items w.wide)) w.s) w.base
    → IsConsistent (kept (among_but it (needed_items w.narrow)) w.part) narrow
    → IsJoined w.s.relations w.n w.base narrow c
    → IsConsistent (kept (among_but (whole_of w it) (needed_items w.wide)) w.s) c
joined fewer parted w it narrow c is whole_is base_is narrow_is join =
    let items = needed_items w.wide in
    let keeps : Keeps = among_but (whole_of w it) items in
    let part_keeps : Keeps = kept_in w.n w.s.copies keeps in
    let kept_is = is_kept keeps w.s whole_is in
    let in_part = fewer w.part part_keeps (among_but it (needed_items w.narrow)) (λ x at e. part_but w it x is at e)
    narrow narrow_is in
    let p : Parted =
    record { s = kept keeps w.s; scope = w.scope; n = w.n; part = kept part_keeps w.part; c = c; narrow = narrow } in
    let p_is : IsParted p = record {
      whole_is = kept_is;
      of = parted w.s w.scope w.n w.part keeps is.of;
      shape = in_part.completion.shape;
      narrowed = narrowed_kept keeps w.s.relations w.n c narrow join.narrowed;
    } in
    let same = join.beyond w.scope is.of.places in
    let base_of = completion_whole (rules_among items) w.s.relations w.base base_is.completion in
    let completion = completion_of_both (kept_relations keeps 0 w.s.relations) w.scope c
    (shape_kept keeps w.s.relations c join.shape) (ranked_from_part p p_is in_part.completion)
    (ranked_beyond (kept_relations keeps 0 w.s.relations) w.scope c w.base
    (beyond_kept keeps w.s.relations w.scope c w.base same) (completion_kept keeps w.s.relations w.base base_of)) in
    let names : NamesPart w keeps = λ j e.
    needed_row w j is (and_parts (among items j) (not (same_item (whole_of w it) j)) e).0 in
    let rules_is = fewer w.s (only_rules keeps) (rules_among items)
    (λ i at e.
    let one = and_parts (is_rule i) (keeps i) e in
    let two = and_parts (among items i) (not (same_item (whole_of w it) i)) one.1 in
    and_from (is_rule i) (among items i) one.0 two.0)
    w.base base_is in
    consistent_of_both (kept keeps w.s) w.scope c kept_is completion (kept_from_part p p_is completion in_part)
    (record {
      given = given_beyond w keeps c is names;
      rules = rules_beyond w keeps c parted is whole_is (completion_whole keeps w.s.relations c completion) same rules_is;
      copies = copies_beyond w keeps c is names;
    })
