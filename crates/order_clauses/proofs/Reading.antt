-- What the numbers of a specification give for it.
use Rattle.std.proofs.Common.{◌≡◌, ◌∙◌, ◌<◌, ◌+◌, ℕ, zero, suc, Bool, true, false, List, [], ◌∷◌, All, Some, None, is_some, if◌then◌else◌, length, slice_get, refl, sym, ap, subst, arith}
use Rattle.std.proofs.lemmas.List.Elements.{All-get_or}
use Rattle.std.proofs.lemmas.Option.{slice_get_within, get_or_from_slice_get}
use Rattle.currency_base.specs.declared.ids.AttrId.{AttrId}
use Rattle.currency_base.specs.declared.ids.RelId.{RelId}
use Rattle.currency_base.specs.declared.ids.RowId.{RowId}
use Rattle.currency_base.specs.declared.lit.Lit.{Lit}
use Rattle.spec_model.specs.declared.relation.Relation.{Relation}
use Rattle.order_literals.specs.Numbers.{Numbers, Numbered, IsPairOf, numbers_of, numbered, is_wanted, value_names_of, tables_from}
use Rattle.order_literals.specs.Said.{Said, Says}
use Rattle.order_literals.specs.Statements.{statements_of}
use Rattle.order_literals.proofs.Callers.{pair_of, table_at}
use Rattle.order_clauses.specs.Subject.{Subject, variables, IsPairIn}

-- these are numbered of the subject
abbrev pub AreNumbersOf : Subject → Numbers → Type 0
AreNumbersOf s n = n ≡ numbers_of s.spec.relations s.wanted

pub pair_in : (s : Subject) (n : Numbers) (rel : RelId) (attr : AttrId) (a b : RowId) → AreNumbersOf s n
    → IsPairIn s.spec rel attr a b → IsPairOf n rel.0 attr.0 a b
pair_in s n rel attr a b are p =
    subst (λ (m : Numbers). IsPairOf m rel.0 attr.0 a b) (sym are) (pair_of s.spec.relations s.wanted rel.0 attr.0 a
    b p.relation p.is_relation p.attr_within p.two)

pub says_of : (s : Subject) (n : Numbers) (lit : Lit) (said : Said) → AreNumbersOf s n → Says (statements_of n) lit
    said → Says (variables s) lit said
unfolding variables
says_of s n lit said are says = subst (λ (m : Numbers). Says (statements_of m) lit said) are says

length_tables : (currents : List RelId) (first : ℕ) (relations : List Relation)
    → length (tables_from currents first relations) ≡ length relations
length_tables currents first [] = refl
length_tables currents first (r ∷ relations) = ap suc (length_tables currents (first + 1) relations)

pub table_within : (s : Subject) (n : Numbers) (rel : ℕ) → AreNumbersOf s n → rel < length s.spec.relations
    → rel < length n.tables
table_within s n rel are within =
    let e = length_tables s.wanted.currents 0 s.spec.relations in
    let same : n.tables ≡ tables_from s.wanted.currents 0 s.spec.relations = ap (λ (m : Numbers). m.tables) are in
    omega (arith, e, ap (λ (ts : List Numbered). length ts) same)

is_some_cond : (b : Bool) (names : List (List RowId)) → is_some (if b then Some names else None) ≡ b
is_some_cond true names = refl
is_some_cond false names = refl

pub all_at : {A : Type 0} (P : A → Type 0) (xs : List A) (i : ℕ) (x : A) → All P xs → slice_get xs i ≡ Some x → P x
all_at P xs i x all at = subst P (get_or_from_slice_get xs i x x at) (All-get_or P xs i x (slice_get_within xs i x at) all)

-- some item stands at a place within a list
pub item_at : {A : Type 0} (xs : List A) (i : ℕ) → i < length xs → (x : A) × (slice_get xs i ≡ Some x)
item_at [] i within = absurd (omega arith)
item_at (x ∷ xs) zero within = (x, refl)
item_at (x ∷ xs) (suc i) within = item_at xs i (omega arith)

pub wanted_is : (s : Subject) (n : Numbers) (rel : ℕ) (b : Bool) → AreNumbersOf s n → rel < length s.spec.relations
    → ((table : Numbered) → slice_get n.tables rel ≡ Some table → b ≡ is_some table.names) → b ≡ is_wanted s.wanted.currents rel
wanted_is s n rel b are within gives =
    let there = item_at s.spec.relations rel within in
    let r = there.0 in
    let at = table_at s.wanted.currents s.spec.relations rel r there.1 in
    let e = gives (numbered s.wanted.currents rel r) (ap (λ (m : Numbers). slice_get m.tables rel) are ∙ at) in
    e ∙ is_some_cond (is_wanted s.wanted.currents rel) (value_names_of r)
