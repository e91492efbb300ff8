-- What is said of a completion, under the truth of the statements in it.
use Rattle.std.proofs.Common.{◌≡◌, ◌∙◌, ◌<◌, ℕ, Bool, true, false, not, List, Some, get_or, slice_get, refl, sym, ap, subst, inl, ⊎_elim}
use Rattle.std.proofs.lemmas.Option.{slice_get-get_or}
use Rattle.currency_base.specs.Literals.{var_of, is_negative, literal}
use Rattle.currency_base.specs.declared.ids.RowId.{RowId}
use Rattle.currency_base.specs.declared.lit.Lit.{Lit}
use Rattle.order_literals.proofs.Deciding.{said_of_pairs}
use Rattle.order_literals.proofs.Sayings.{not_not, literal_var, literal_sign, turned_twice, tells, says_at, says_within}
use Rattle.order_adequacy.specs.Laws.{variables}
use Rattle.order_literals.specs.Numbers.{numbers_of}
use Rattle.order_literals.specs.Said.{Said, turned, said_by, Says, IsLitTrue, IsSaidTrue}
use Rattle.order_literals.specs.Truth.{Holds, IsTruth}
use Rattle.order_literals.specs.declared.wanted.Wanted.{Wanted}
use Rattle.refutation_log.specs.declared.statement.Statement.{Statement}
use Rattle.refutation_log.specs.declared.statement.Statement.TheVariants as says
use Rattle.spec_model.specs.Completion.{Rankings}
use Rattle.spec_model.specs.Spec.{Spec}
use Rattle.spec_model.specs.declared.relation.Relation.{Relation}
use Rattle.order_adequacy.proofs.Orders.{IsCase, ArePair, not_both, either_before}
use Rattle.order_adequacy.proofs.Statements.{pair_of_relation}

-- a statement with a sign
abbrev pub said : Statement → Bool → Said
said s negative = record { statement = s; negative = negative }

-- ---- in other words

-- a statement on the order of two rows is of two different rows of one entity
abbrev pub IsPaired : List Relation → Statement → Type 0
IsPaired relations (says.Before rel attr a b) = ArePair relations rel.0 attr.0 a b
IsPaired relations (says.Top rel attr row) = Unit {0}
IsPaired relations (says.Last rel attr row) = Unit {0}
IsPaired relations (says.Answer tuple) = Unit {0}

other_way : (relations : List Relation) (rel attr : ℕ) (a b : RowId) → ArePair relations rel attr a b
    → ArePair relations rel attr b a
other_way relations rel attr a b pair = record {
  relation = pair.relation;
  is_relation = pair.is_relation;
  attr_in = pair.attr_in;
  two = record { ent = pair.two.ent; a_of = pair.two.b_of; b_of = pair.two.a_of; differ = λ same. pair.two.differ (sym same) };
}

turned_paired : (relations : List Relation) (s : Statement) (negative : Bool) → IsPaired relations s
    → IsPaired relations (turned (said s negative)).statement
turned_paired relations (says.Before rel attr a b) negative pair = other_way relations rel.0 attr.0 a b pair
turned_paired relations (says.Top rel attr row) negative pair = tt
turned_paired relations (says.Last rel attr row) negative pair = tt
turned_paired relations (says.Answer tuple) negative pair = tt

-- what holds holds in other words
turned_holds : (relations : List Relation) (c : Rankings) (answers : ℕ → Type 0) (s : Statement) (negative : Bool)
    → IsCase relations c
    → IsPaired relations s → Holds relations c answers (said s negative) → Holds relations c answers (turned (said s negative))
turned_holds relations c answers (says.Before rel attr a b) false is pair holds =
    λ back. not_both relations c rel.0 attr.0 a b is.completion holds back
turned_holds relations c answers (says.Before rel attr a b) true is pair holds =
    ⊎_elim (λ s. absurd (holds s)) (λ s. s) (either_before relations c rel.0 attr.0 a b is pair)
turned_holds relations c answers (says.Top rel attr row) negative is pair holds = holds
turned_holds relations c answers (says.Last rel attr row) negative is pair holds = holds
turned_holds relations c answers (says.Answer tuple) negative is pair holds = holds

turned_back : (relations : List Relation) (c : Rankings) (answers : ℕ → Type 0) (s : Statement) (negative : Bool)
    → IsCase relations c
    → IsPaired relations s → Holds relations c answers (turned (said s negative)) → Holds relations c answers (said s negative)
turned_back relations c answers s negative is pair holds =
    let other = turned (said s negative) in
    subst (Holds relations c answers) (turned_twice (said s negative))
    (turned_holds relations c answers other.statement other.negative is (turned_paired relations s negative pair) holds)

-- what a literal says of the order of rows is of two different rows of one entity
pub says_paired : (s : Spec) (wanted : Wanted) (lit : Lit) (statement : Statement) (negative : Bool)
    → Says (variables s wanted) lit (said statement negative) → IsPaired s.relations statement
says_paired s wanted lit (says.Before rel attr a b) negative at =
    pair_of_relation s.relations wanted rel.0 attr.0 a b (said_of_pairs (numbers_of s.relations wanted) lit rel attr
    a b negative at)
says_paired s wanted lit (says.Top rel attr row) negative at = tt
says_paired s wanted lit (says.Last rel attr row) negative at = tt
says_paired s wanted lit (says.Answer tuple) negative at = tt

-- ---- the truth of the statements

agrees : (relations : List Relation) (c : Rankings) (answers : ℕ → Type 0) (s : Statement) (truth negative : Bool)
    → Holds relations c answers (said s (not truth)) → Holds relations c answers (said s negative) → truth ≡ not negative
agrees relations c answers s true true own holds = absurd (holds own)
agrees relations c answers s true false own holds = refl
agrees relations c answers s false true own holds = refl
agrees relations c answers s false false own holds = absurd (own holds)

told_true : (relations : List Relation) (c : Rankings) (answers : ℕ → Type 0) (statements : List Statement)
    (truths : List Bool) (lit : Lit) (s : Said)
    → IsTruth relations c answers statements truths → said_by statements lit ≡ Some s → Holds relations c answers s
    → IsLitTrue truths lit
told_true relations c answers statements truths lit s truth told holds =
    let is = tells statements lit s told in
    let below = says_within statements lit s (inl told) in
    let its = get_or truths (var_of lit) true in
    let at = slice_get-get_or truths (var_of lit) true (subst (λ k. var_of lit < k) (sym truth.per_variable) below) in
    let own = truth.each (var_of lit) s.statement its is.at at in
    at ∙ ap Some (agrees relations c answers s.statement its s.negative own holds ∙ ap not (sym is.sign))

told_holds : (relations : List Relation) (c : Rankings) (answers : ℕ → Type 0) (statements : List Statement)
    (truths : List Bool) (lit : Lit) (s : Said)
    → IsTruth relations c answers statements truths → said_by statements lit ≡ Some s → IsLitTrue truths lit
    → Holds relations c answers s
told_holds relations c answers statements truths lit s truth told is_true =
    let is = tells statements lit s told in
    let own = truth.each (var_of lit) s.statement (not (is_negative lit)) is.at is_true in
    subst (λ n. Holds relations c answers (said s.statement n)) (not_not (is_negative lit) ∙ is.sign) own

-- a literal that says what holds is true
pub said_true : (s : Spec) (wanted : Wanted) (c : Rankings) (answers : ℕ → Type 0) (truths : List Bool) (lit : Lit)
    (statement : Statement) (negative : Bool)
    → IsCase s.relations c → IsTruth s.relations c answers (variables s wanted) truths → Says (variables s wanted)
    lit (said statement negative)
    → Holds s.relations c answers (said statement negative) → IsLitTrue truths lit
said_true s wanted c answers truths lit statement negative is truth at holds =
    let pair = says_paired s wanted lit statement negative at in
    ⊎_elim
    (λ (told : said_by (variables s wanted) lit ≡ Some (said statement negative)).
    told_true s.relations c answers (variables s wanted) truths lit (said statement negative) truth told holds)
    (λ (told : said_by (variables s wanted) lit ≡ Some (turned (said statement negative))).
    told_true s.relations c answers (variables s wanted) truths lit (turned (said statement negative)) truth told
    (turned_holds s.relations c answers statement negative is pair holds))
    at

-- what a true literal says holds
pub said_holds : (s : Spec) (wanted : Wanted) (c : Rankings) (answers : ℕ → Type 0) (truths : List Bool)
    (statement : Statement) (negative : Bool)
    → IsCase s.relations c → IsTruth s.relations c answers (variables s wanted) truths → IsSaidTrue
    (variables s wanted) truths (said statement negative)
    → Holds s.relations c answers (said statement negative)
said_holds s wanted c answers truths statement negative is truth one =
    let pair = says_paired s wanted one.lit statement negative one.says in
    ⊎_elim
    (λ (told : said_by (variables s wanted) one.lit ≡ Some (said statement negative)).
    told_holds s.relations c answers (variables s wanted) truths one.lit (said statement negative) truth told one.is_true)
    (λ (told : said_by (variables s wanted) one.lit ≡ Some (turned (said statement negative))).
    turned_back s.relations c answers statement negative is pair
    (told_holds s.relations c answers (variables s wanted) truths one.lit (turned (said statement negative)) truth
    told one.is_true))
    one.says

-- ---- assignments

-- the statement of a variable is said to be as true as the variable is
pub as_assigned : (statements : List Statement) (truths : List Bool) (var : ℕ) (s : Statement) (truth : Bool)
    → slice_get statements var ≡ Some s
    → slice_get truths var ≡ Some truth → IsSaidTrue statements truths (said s (not truth))
as_assigned statements truths var s truth at is =
    record {
      lit = literal var (not truth);
      says = says_at statements var (said s (not truth)) at;
      is_true =
          ap (slice_get truths) (literal_var var (not truth)) ∙
          (is ∙ ap Some (sym (ap not (literal_sign var (not truth)) ∙ not_not truth)));
    }
