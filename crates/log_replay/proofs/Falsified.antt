-- Clauses one after the other: what they falsify with one clause more, up to one of them, and that it is determined.
use Rattle.std.proofs.Common.{◌≡◌, ◌⊎◌, List, [], ◌∷◌, ◌++◌, refl, sym, ap, subst, ◌∙◌, inl, inr, Contains}
use Rattle.std.proofs.lemmas.Bool.{cases_eq}
use Rattle.currency_base.specs.Literals.{negation}
use Rattle.currency_base.specs.declared.lit.Lit.{Lit}
use Rattle.refutation_log.specs.Follows.{AreFalse, IsOnlyOpen, HasTwoOpen, Falsifies}
use Rattle.log_replay.proofs.MarksSet.{same_lit}

-- a clause that leaves at most one literal open
abbrev pub LeavesOne : List Lit → List Lit → Type 0
LeavesOne falses clause = AreFalse falses clause ⊎ ((lit : Lit) × IsOnlyOpen falses clause lit)

-- ---- one clause

-- an open literal is the only one
only_one : (falses clause : List Lit) (lit other : Lit) → IsOnlyOpen falses clause lit → Contains clause other
    → (Contains falses other → ⊥) → other ≡ lit
only_one falses clause lit other only is_in is_open = go (cases_eq other.0 lit.0)
  where
    go : (other.0 ≡ lit.0) ⊎ (other.0 ≡ lit.0 → ⊥) → other ≡ lit
    go (inl same) = same_lit other lit same
    go (inr apart) = absurd (is_open (only.others other is_in (λ e. apart (ap (λ (l : Lit). l.0) e))))

-- a clause that leaves at most one literal open has no two
pub leaves_not_two : (falses clause : List Lit) → LeavesOne falses clause → HasTwoOpen falses clause → ⊥
leaves_not_two falses clause (inl are) two = two.first_open (are two.first two.first_in)
leaves_not_two falses clause (inr one) two =
    two.differ (only_one falses clause one.0 two.first one.1 two.first_in two.first_open
    ∙ sym (only_one falses clause one.0 two.second one.1 two.second_in two.second_open))

-- ---- clauses

-- one clause more, all literals of which are false
pub falsifies_with_false : (start : List Lit) (clauses : List (List Lit)) (clause falses : List Lit)
    → Falsifies start clauses falses
    → AreFalse falses clause → Falsifies start (clauses ++ clause ∷ []) falses
falsifies_with_false start [] clause falses same are = inl (subst (λ (f : List Lit). AreFalse f clause) (sym same) are, same)
falsifies_with_false start (c ∷ clauses) clause falses (inl h) are =
    inl (h.0, falsifies_with_false start clauses clause falses h.1 are)
falsifies_with_false start (c ∷ clauses) clause falses (inr h) are =
    inr (h.0, h.1, falsifies_with_false (start ++ negation h.0 ∷ []) clauses clause falses h.2 are)

-- one clause more, which leaves one literal open
pub falsifies_with_open : (start : List Lit) (clauses : List (List Lit)) (clause falses : List Lit) (lit : Lit)
    → Falsifies start clauses falses
    → IsOnlyOpen falses clause lit → Falsifies start (clauses ++ clause ∷ []) (falses ++ negation lit ∷ [])
falsifies_with_open start [] clause falses lit same only =
    inr (
      lit,
      subst (λ (f : List Lit). IsOnlyOpen f clause lit) (sym same) only,
      ap (λ (f : List Lit). f ++ negation lit ∷ []) same,
    )
falsifies_with_open start (c ∷ clauses) clause falses lit (inl h) only =
    inl (h.0, falsifies_with_open start clauses clause falses lit h.1 only)
falsifies_with_open start (c ∷ clauses) clause falses lit (inr h) only =
    inr (h.0, h.1, falsifies_with_open (start ++ negation h.0 ∷ []) clauses clause falses lit h.2 only)

-- what the clauses before one falsify, and that this leaves at most one of its literals open
pub record ArePassed (start : List Lit) (before : List (List Lit)) (clause : List Lit) : Type 0 where
  pub falses : List Lit
  pub falsified : Falsifies start before falses
  pub leaves : LeavesOne falses clause

passed_first : (start : List Lit) (clause : List Lit) (after : List (List Lit)) (falses : List Lit)
    → Falsifies start (clause ∷ after) falses
    → LeavesOne start clause
passed_first start clause after falses (inl h) = inl h.0
passed_first start clause after falses (inr h) = inr (h.0, h.1)

passed_false : (start c : List Lit) (before : List (List Lit)) (clause : List Lit) → AreFalse start c
    → ArePassed start before clause
    → ArePassed start (c ∷ before) clause
passed_false start c before clause are rest =
    record { falses = rest.falses; falsified = inl (are, rest.falsified); leaves = rest.leaves }

passed_open : (start c : List Lit) (before : List (List Lit)) (clause : List Lit) (lit : Lit) → IsOnlyOpen start c lit
    → ArePassed (start ++ negation lit ∷ []) before clause → ArePassed start (c ∷ before) clause
passed_open start c before clause lit only rest =
    record { falses = rest.falses; falsified = inr (lit, only, rest.falsified); leaves = rest.leaves }

pub falsifies_up_to : (start : List Lit) (before : List (List Lit)) (clause : List Lit) (after : List (List Lit))
    (falses : List Lit)
    → Falsifies start (before ++ clause ∷ after) falses → ArePassed start before clause
falsifies_up_to start [] clause after falses all =
    record { falses = start; falsified = refl; leaves = passed_first start clause after falses all }
falsifies_up_to start (c ∷ before) clause after falses (inl h) =
    passed_false start c before clause h.0 (falsifies_up_to start before clause after falses h.1)
falsifies_up_to start (c ∷ before) clause after falses (inr h) =
    passed_open start c before clause h.0 h.1 (falsifies_up_to (start ++ negation h.0 ∷ []) before clause after falses h.2)

-- clauses falsify one list of literals
pub falsifies_once : (start : List Lit) (clauses : List (List Lit)) (one other : List Lit) → Falsifies start clauses one
    → Falsifies start clauses other → one ≡ other
falsifies_once start [] one other a b = sym a ∙ b
falsifies_once start (c ∷ clauses) one other (inl a) (inl b) = falsifies_once start clauses one other a.1 b.1
falsifies_once start (c ∷ clauses) one other (inl a) (inr b) = absurd (b.1.is_open (a.0 b.0 b.1.is_in))
falsifies_once start (c ∷ clauses) one other (inr a) (inl b) = absurd (a.1.is_open (b.0 a.0 a.1.is_in))
falsifies_once start (c ∷ clauses) one other (inr a) (inr b) =
    let same : b.0 ≡ a.0 = only_one start c a.0 b.0 a.1 b.1.is_in b.1.is_open in
    falsifies_once (start ++ negation a.0 ∷ []) clauses one other a.2
    (subst (λ (l : Lit). Falsifies (start ++ negation l ∷ []) clauses other) same b.2)
