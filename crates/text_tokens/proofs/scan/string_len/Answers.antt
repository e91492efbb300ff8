use Rattle.std.proofs.Common.{◌+◌, drop, Bool, sym, ap, ◌∙◌}
use Rattle.std.specs.Prelude.{option_map}
use Rattle.text_tokens.specs.Tokens.{string_len_after}
use Rattle.text_tokens.proofs.Quotes.{past_quote, past_other}
use Rattle.text_tokens.proofs.scan.string_len.Goals as goal
use Rattle.text_tokens.proofs.scan.string_len.Goals.{then-byte-eq34, else-byte-eq34+else-quoted}

pub loop-i-preserved : goal.loop-i-preserved
loop-i-preserved c =
    let rest = c.args.rest.now in
    let i = c.loop-i.i in
    let at_next = λ (q : Bool). option_map (λ n. n + (i + 1)) (string_len_after q (drop (i + 1) rest)) in
    elim c.if-byte-eq34.branch [
      | then-byte-eq34 w ↦ ap at_next w.quoted-is
          ∙ sym (past_quote rest i c.loop-i.quoted c.loop-i-test.true w.if-byte-eq34.true) ∙ c.loop-i.invariant
      | else-byte-eq34+else-quoted w ↦ ap at_next (w.quoted-is ∙ w.if-quoted.false)
          ∙ sym (past_other rest i c.loop-i-test.true w.if-byte-eq34.false)
          ∙ ap (λ (q : Bool). option_map (λ n. n + i) (string_len_after q (drop i rest))) (sym w.if-quoted.false)
          ∙ c.loop-i.invariant
    ]
