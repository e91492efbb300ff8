-- What a maker of axioms says and what the judge says agree: a literal that says the one says the other. Literals that are a
-- clause of what agrees are the judge's clause.
use Rattle.std.proofs.Common.{◌≡◌, ◌∙◌, Bool, true, List, [], ◌∷◌, ◌++◌, Option, Some, None, option_map, map, slice_get, refl, ap, subst, inl, inr, ⊎_elim}
use Rattle.std.specs.List.{list_all, list_any}
use Rattle.std.proofs.lemmas.Bool.{and_from, or_right}
use Rattle.std.proofs.lemmas.List.Elements.{All-contains}
use Rattle.std.proofs.lemmas.Option.{same_Some, none-some}
use Rattle.currency_base.specs.Literals.{var_of, is_negative}
use Rattle.currency_base.specs.declared.lit.Lit.{Lit}
use Rattle.spec_model.specs.declared.relation.Relation.{Relation}
use Rattle.refutation_log.specs.declared.statement.Statement.{Statement}
use Rattle.log_axioms.specs.Axioms.{says_same, is_said, lit_says, is_clause}
use Rattle.log_axioms.specs.Truth.{meaning}
use Rattle.log_axioms.specs.declared.signed.Signed.{Signed}
use Rattle.order_literals.specs.Said.{Said, turned, said_by, Says}
use Rattle.order_literals.proofs.Items.{IsIn, contained, in_contained}
use Rattle.order_clauses.specs.Clauses.{SaysOneOf, IsSaidByOne, AreLits}

-- ---- one of each

-- what is said, as the judge has it
abbrev pub signed_of : Said → Signed
signed_of said = record { statement = said.statement; negative = said.negative }

-- a literal that says the one says the other for the judge
abbrev pub Agrees : List Relation → Said → Signed → Type 0
Agrees relations said signed = (statements : List Statement) (lit : Lit) → Says statements lit said
    → lit_says relations statements signed lit ≡ true

told_means : (statements : List Statement) (lit : Lit) (said : Said) → said_by statements lit ≡ Some said
    → meaning statements lit ≡ Some (signed_of said)
told_means statements lit said e = by (slice_get statements (var_of lit)) e
  where
    told : Statement → Said
    told s = record { statement = s; negative = is_negative lit }

    by : (o : Option Statement) → option_map told o ≡ Some said → option_map (λ s. signed_of (told s)) o ≡ Some (signed_of said)
    by None e = absurd (none-some said e)
    by (Some s) e = ap (λ x. Some (signed_of x)) (same_Some (told s) said e)

-- they agree where the judge takes the one, in either of its words, for the other
pub agrees_if : (relations : List Relation) (said : Said) (signed : Signed) → says_same relations (signed_of said) signed ≡ true
    → says_same relations (signed_of (turned said)) signed ≡ true → Agrees relations said signed
agrees_if relations said signed straight turn statements lit says =
    ⊎_elim
    (λ (e : said_by statements lit ≡ Some said). ap (is_said relations signed) (told_means statements lit said e) ∙ straight)
    (λ (e : said_by statements lit ≡ Some (turned said)). ap (is_said relations signed)
    (told_means statements lit (turned said) e) ∙ turn)
    says

-- ---- one after the other

abbrev pub AllAgree : List Relation → List Said → List Signed → Type 0
AllAgree relations [] [] = Unit {0}
AllAgree relations (x ∷ xs) (y ∷ ys) = Agrees relations x y × AllAgree relations xs ys
AllAgree relations xs ys = ⊥

pub all_agree_map : {A : Type 0} (relations : List Relation) (f : A → Said) (g : A → Signed) →
    ((x : A) → Agrees relations (f x) (g x)) → (xs : List A)
    → AllAgree relations (map f xs) (map g xs)
all_agree_map relations f g each [] = tt
all_agree_map relations f g each (x ∷ xs) = (each x, all_agree_map relations f g each xs)

pub all_agree_both : (relations : List Relation) (xs xs' : List Said) (ys ys' : List Signed) → AllAgree relations xs
    ys → AllAgree relations xs' ys'
    → AllAgree relations (xs ++ xs') (ys ++ ys')
all_agree_both relations [] xs' [] ys' first second = second
all_agree_both relations [] xs' (y ∷ ys) ys' first second = absurd first
all_agree_both relations (x ∷ xs) xs' [] ys' first second = absurd first
all_agree_both relations (x ∷ xs) xs' (y ∷ ys) ys' first second = (first.0, all_agree_both relations xs xs' ys ys' first.1 second)

signed_for : (relations : List Relation) (xs : List Said) (ys : List Signed) → AllAgree relations xs ys → (x : Said) → IsIn xs x
    → (y : Signed) × IsIn ys y × Agrees relations x y
signed_for relations [] ys all x at = absurd at
signed_for relations (z ∷ xs) [] all x at = absurd all
signed_for relations (z ∷ xs) (y ∷ ys) all x (inl e) = (y, inl refl, subst (λ (w : Said). Agrees relations w y) e all.0)
signed_for relations (z ∷ xs) (y ∷ ys) all x (inr at) = let more = signed_for relations xs ys all.1 x
    at in (more.0, inr more.1, more.2)

said_for : (relations : List Relation) (xs : List Said) (ys : List Signed) → AllAgree relations xs ys → (y : Signed) → IsIn ys y
    → (x : Said) × IsIn xs x × Agrees relations x y
said_for relations [] [] all y at = absurd at
said_for relations [] (z ∷ ys) all y at = absurd all
said_for relations (x ∷ xs) [] all y at = absurd at
said_for relations (x ∷ xs) (z ∷ ys) all y (inl e) = (x, inl refl, subst (λ (w : Signed). Agrees relations x w) e all.0)
said_for relations (x ∷ xs) (z ∷ ys) all y (inr at) = let more = said_for relations xs ys all.1 y
    at in (more.0, inr more.1, more.2)

-- ---- literals that are the clause

pub all_pass : {A : Type 0} (test : A → Bool) (xs : List A) → ((x : A) → IsIn xs x → test x ≡ true) → list_all test xs ≡ true
all_pass test [] each = refl
all_pass test (x ∷ xs) each = and_from (test x) (list_all test xs) (each x (inl refl))
    (all_pass test xs (λ y at. each y (inr at)))

pub one_passes : {A : Type 0} (test : A → Bool) (xs : List A) (x : A) → IsIn xs x → test x ≡ true → list_any test xs ≡ true
one_passes test [] x at passes = absurd at
one_passes test (y ∷ xs) x (inl e) passes = let here : test y ≡ true = ap test e ∙ passes in rw here refl
one_passes test (y ∷ xs) x (inr at) passes = or_right (test y) (list_any test xs) (one_passes test xs x at passes)

pub lits_are_clause : (relations : List Relation) (statements : List Statement) (lits : List Lit)
    (clause : List Said) (signed : List Signed)
    → AllAgree relations clause signed → AreLits statements clause lits → is_clause relations statements lits signed ≡ true
lits_are_clause relations statements lits clause signed all are =
    and_from (list_all says_one lits) (list_all said_by_one signed) (all_pass says_one lits first)
    (all_pass said_by_one signed second)
  where
    says_one : Lit → Bool
    says_one lit = list_any (λ s. lit_says relations statements s lit) signed

    said_by_one : Signed → Bool
    said_by_one s = list_any (lit_says relations statements s) lits

    first : (lit : Lit) → IsIn lits lit → says_one lit ≡ true
    first lit at =
        let one = All-contains (SaysOneOf statements clause) lits lit are.each (contained lits lit at) in
        let its = signed_for relations clause signed all one.said (in_contained clause one.said one.is_in) in
        one_passes (λ s. lit_says relations statements s lit) signed its.0 its.1 (its.2 statements lit one.says)

    second : (s : Signed) → IsIn signed s → said_by_one s ≡ true
    second s at =
        let its = said_for relations clause signed all s at in
        let one = All-contains (IsSaidByOne statements lits) clause its.0 are.all (contained clause its.0 its.1) in
        one_passes (lit_says relations statements s) lits one.lit (in_contained lits one.lit one.is_in)
        (its.2 statements one.lit one.says)
