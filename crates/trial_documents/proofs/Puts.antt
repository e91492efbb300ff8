-- Documents that are put one after another.
use Rattle.std.proofs.Common.{◌≡◌, ◌∙◌, List, [], ◌∷◌, ◌++◌, append_assoc, ap}

-- what ends with some items, and then an item
one_more : {A : Type 0} (first before after items : List A) (x : A) → before ≡ first ++ items → after ≡ before ++ x
    ∷ [] → after ≡ first ++ (items ++ x ∷ [])
one_more first before after items x held put =
    put ∙ ap (λ xs. xs ++ x ∷ []) held ∙ append_assoc first items (x ∷ [])

-- four in a row
pub four_more : {A : Type 0} (first one two three four : List A) (a b c d : A) → one ≡ first ++ a ∷ [] → two ≡ one
    ++ b ∷ [] → three ≡ two ++ c ∷ []
    → four ≡ three ++ d ∷ [] → four ≡ first ++ a ∷ b ∷ c ∷ d ∷ []
four_more first one two three four a b c d put_a put_b put_c put_d =
    let ab = one_more first one two (a ∷ []) b put_a put_b in
    let abc = one_more first two three (a ∷ b ∷ []) c ab put_c in
    one_more first three four (a ∷ b ∷ c ∷ []) d abc put_d

-- five in a row
pub five_more : {A : Type 0} (first one two three four five : List A) (a b c d e : A) → one ≡ first ++ a ∷ []
    → two ≡ one ++ b ∷ [] → three ≡ two ++ c ∷ []
    → four ≡ three ++ d ∷ [] → five ≡ four ++ e ∷ [] → five ≡ first ++ a ∷ b ∷ c ∷ d ∷ e ∷ []
five_more first one two three four five a b c d e put_a put_b put_c put_d put_e =
    let abcd = four_more first one two three four a b c d put_a put_b put_c put_d in
    one_more first four five (a ∷ b ∷ c ∷ d ∷ []) e abcd put_e
