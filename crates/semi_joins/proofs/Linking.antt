-- Places at which two rows have one value.
use Rattle.std.proofs.Common.{◌≡◌, ℕ, List, [], ◌∷◌, ◌++◌, Option, None, Some, IfSome, slice_get, refl, sym, ap, subst, ◌∙◌, arith}
use Rattle.std.specs.List.{All}
use Rattle.std.proofs.lemmas.List.{map-append}
use Rattle.std.proofs.lemmas.Option.{slice_get_within}
use Rattle.currency_base.specs.declared.value.Value.{Value}
use Rattle.query_model.specs.Answers.{FitsTuple, TestHolds}
use Rattle.query_model.specs.declared.query.Term.{Term}
use Rattle.query_model.specs.declared.query.Term.TheVariants as term
use Rattle.query_model.specs.declared.query.Test.{Test}
use Rattle.query_plan.specs.Implied.{IsLed}
use Rattle.semi_joins.specs.Kept.{AreLinks, IsLedAt, IsLink, key_at}
use Rattle.semi_joins.proofs.Marking.{get_none}

pub links_none : (tests : List Test) (ones others : List Term) → AreLinks tests ones others [] []
links_none tests ones others = λ values a b pass one other. refl

pub links_more : (tests : List Test) (ones others : List Term) (here there : List ℕ) (p q : ℕ)
    → IsLink tests ones others p q → AreLinks tests ones others here there
    → AreLinks tests ones others (here ++ p ∷ []) (there ++ q ∷ [])
links_more tests ones others here there p q link are = λ values a b pass one other.
    map-append (λ place. slice_get a place) here (p ∷ [])
    ∙ ap (λ l. l ++ slice_get a p ∷ []) (are values a b pass one other)
    ∙ ap (λ o. key_at there b ++ o ∷ []) (link values a b pass one other)
    ∙ sym (map-append (λ place. slice_get b place) there (q ∷ []))

pub links_pushed : (tests : List Test) (ones others : List Term) (here there now then : List ℕ) (p q : ℕ) → now ≡ here ++ p ∷ []
    → then ≡ there ++ q ∷ [] → IsLink tests ones others p q → AreLinks tests ones others here there
    → AreLinks tests ones others now then
links_pushed tests ones others here there now then p q is_now is_then link are =
    subst (AreLinks tests ones others now) (sym is_then) (subst (λ l. AreLinks tests ones others l (there ++ q ∷ [])) (sym is_now)
    (links_more tests ones others here there p q link are))

pub link_by : (tests : List Test) (ones others : List Term) (p q led : ℕ) → IsLedAt tests ones p led → IsLedAt tests others q led
    → IsLink tests ones others p q
link_by tests ones others p q led one other = λ values a b pass fits_a fits_b.
    one values a pass fits_a ∙ sym (other values b pass fits_b)

pub linked : (tests : List Test) (ones others : List Term) (p led : ℕ) (o : Option ℕ) → IsLedAt tests ones p led
    → IfSome o (λ q. IsLedAt tests others q led) → IfSome o (IsLink tests ones others p)
linked tests ones others p led None one other = tt
linked tests ones others p led (Some q) one other = link_by tests ones others p q led one other

pub led_at : (tests : List Test) (terms : List Term) (place v led : ℕ) → Some (term.Var v) ≡ slice_get terms place
    → IsLed tests v led → IsLedAt tests terms place led
led_at tests terms place v led is leads = λ values row pass fits.
    by values row pass fits (slice_get row place) refl
  where
    by : (values row : List Value) → All (TestHolds values) tests → FitsTuple values terms row → (o : Option Value)
        → slice_get row place ≡ o → o ≡ slice_get values led
    by values row pass fits None at =
        let below = slice_get_within terms place (term.Var v) (sym is) in
        let same = fits.as_many in
        absurd (get_none row place (omega (arith, below, same)) (sym at))
    by values row pass fits (Some x) at =
        sym (leads values x pass (fits.each place (term.Var v) x (sym is) at))
