-- Pairs of names that the tuples of a table give one by one.
use Rattle.std.proofs.Common.{◌≡◌, ◌∙◌, ◌+◌, ◌++◌, ◌∷◌, [], ℕ, List, All, ap, sym, append_assoc, subst}
use Rattle.std.proofs.lemmas.List.Elements.{All-tail}
use Rattle.currency_base.specs.declared.value.Value.{Value}
use Rattle.currency_csv.specs.Capped.{capped}
use Rattle.text_grammar.specs.declared.named.NamedPair.{NamedPair}
use Rattle.copy_bind.specs.Copied.{pair_in, pairs_from}
use Rattle.copy_bind.specs.Steps.{AreTexts}

-- one pair more
pub pair_more : (pairs : List NamedPair) (number next : ℕ) (tuple : List Value) (rest more : List (List Value))
    (pair : NamedPair) (whole : List NamedPair)
    → rest ≡ tuple ∷ more → pair ≡ pair_in number tuple → next ≡ capped (number + 1) → pairs ++ pairs_from number rest ≡ whole
    → (pairs ++ pair ∷ []) ++ pairs_from next more ≡ whole
pair_more pairs number next tuple rest more pair whole is same follows so_far =
    append_assoc pairs (pair ∷ []) (pairs_from next more)
    ∙ ap (λ p. pairs ++ p ∷ pairs_from next more) same
    ∙ ap (λ n. pairs ++ pair_in number tuple ∷ pairs_from n more) follows
    ∙ ap (λ ts. pairs ++ pairs_from number ts) (sym is)
    ∙ so_far

-- what is left is texts
pub texts_more : (tuple : List Value) (rest more : List (List Value)) → rest ≡ tuple ∷ more → All AreTexts rest
    → All AreTexts more
texts_more tuple rest more is all = All-tail AreTexts tuple more (subst (All AreTexts) is all)
