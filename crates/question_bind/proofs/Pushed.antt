-- Pairs that are asked about, part after part.
use Rattle.std.proofs.Common.{◌≡◌, ◌∙◌, ◌+◌, ◌<◌, ℕ, List, ◌∷◌, ◌++◌, length, drop, get_or, Some, append_assoc, sym, ap, arith, slice_get}
use Rattle.std.proofs.lemmas.List.{at_drop_more}
use Rattle.std.proofs.lemmas.Option.{get_or_from_slice_get}
use Rattle.currency_base.specs.declared.pair.Pair.{Pair}
use Rattle.spec_model.specs.declared.question.Asked.{Asked}
use Rattle.question_bind.specs.declared.heads.Head.{Head}
use Rattle.question_bind.specs.Asked.{all_asked, asked_pairs}
use Rattle.question_bind.specs.Steps.{asked_each}

pub asked_more : (so_far asked more : List Asked) (heads : List Head) (lists : List (List Pair)) (i : ℕ) (dh : Head)
    (pairs pairs' : List Pair) → length lists ≡ length heads
    → i < length heads → slice_get lists i ≡ Some pairs' → pairs ≡ pairs' → more ≡ asked ++ asked_pairs
    (get_or heads i dh).rel pairs
    → asked ++ all_asked (asked_each (drop i heads) (drop i lists)) ≡ so_far ++ all_asked (asked_each heads lists)
    → more ++ all_asked (asked_each (drop (i + 1) heads) (drop (i + 1) lists)) ≡ so_far ++ all_asked (asked_each heads lists)
asked_more so_far asked more heads lists i dh pairs pairs' many lt at same is so =
    ap (λ a. a ++ all_asked (asked_each (drop (i + 1) heads) (drop (i + 1) lists))) is
    ∙ append_assoc asked (asked_pairs (get_or heads i dh).rel pairs)
    (all_asked (asked_each (drop (i + 1) heads) (drop (i + 1) lists)))
    ∙ ap (λ ps. asked ++ (asked_pairs (get_or heads i dh).rel ps ++ all_asked
    (asked_each (drop (i + 1) heads) (drop (i + 1) lists)))) (same ∙ sym (get_or_from_slice_get lists i pairs' pairs' at))
    ∙ ap (λ ls. asked ++ all_asked (asked_each (get_or heads i dh ∷ drop (i + 1) heads) ls))
    (sym (at_drop_more (λ ls. ls) lists i pairs' (omega (arith, many, lt))))
    ∙ ap (λ hs. asked ++ all_asked (asked_each hs (drop i lists))) (sym (at_drop_more (λ hs. hs) heads i dh lt))
    ∙ so
