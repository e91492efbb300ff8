-- The script, and what is due once it is read.
use Rattle.std.proofs.Common.{◌≡◌, ◌∙◌, ◌≤◌, ℕ, List, length, Some, None, IfSome, Result, Ok, Err, inl, inr, sym, ap, subst}
use Rattle.currency_edge.specs.Shelf.{document}
use Rattle.text_tokens.specs.declared.token.TextFault.{TextFault}
use Rattle.script_syntax.specs.Texts.{ReadsScript, RefusesScript}
use Rattle.script_syntax.specs.declared.trees.Entry.{Entry}
use Rattle.command_stages.specs.Stages.{text_bound, text_trouble}
use Rattle.command_stages.specs.declared.trouble.Trouble.{Trouble}
use Rattle.command_stages.proofs.OneRead.{IsOne, within_one}
use Rattle.session_command.specs.Sessions.{IsScriptRead, IsScriptSaid}
use Rattle.session_command.proofs.Going.{Docs, Texts}

-- what the layer below says of one reading of a script
pub record Readings : Type 0 where
  pub tree : (source : List ℕ) (a b : List Entry) → ReadsScript source a → ReadsScript source b → a ≡ b
  pub refusal : (source : List ℕ) (e f : TextFault) → RefusesScript source e → RefusesScript source f → e ≡ f
  pub not_both : (source : List ℕ) (entries : List Entry) (e : TextFault) → ReadsScript source entries
      → RefusesScript source e → ⊥

said_one : Readings → (name bytes : List ℕ) → IsOne (IsScriptSaid name bytes)
said_one laws name bytes a b (inl h) (inl k) = h.2 ∙ ap Ok (laws.tree bytes h.0 k.0 h.1 k.1) ∙ sym k.2
said_one laws name bytes a b (inl h) (inr k) = absurd (laws.not_both bytes h.0 k.0 h.1 k.1)
said_one laws name bytes a b (inr h) (inl k) = absurd (laws.not_both bytes k.0 h.0 k.1 h.1)
said_one laws name bytes a b (inr h) (inr k) = h.2 ∙ ap (λ f. Err (text_trouble name f))
    (laws.refusal bytes h.0 k.0 h.1 k.1) ∙ sym k.2

-- a script is read as one list of entries, or with one trouble
pub script_one : Readings → (told : Docs) (name : List ℕ) → IsOne (IsScriptRead told name)
script_one laws told name =
    within_one text_bound (document told name) (IsScriptSaid name (document told name))
    (said_one laws name (document told name))

-- ---- the script is read

-- what the bytes that were read say is what the document says, which they are
pub script_read : (texts : Texts) (name bytes given : List ℕ) (outcome : Result (List Entry) Trouble)
    → IfSome texts (λ told. bytes ≡ document told name) → given ≡ bytes → length bytes ≤ text_bound
    → IsScriptSaid name given outcome → IfSome texts (λ told. IsScriptRead told name outcome)
script_read None name bytes given outcome whole same within said = tt
script_read (Some told) name bytes given outcome whole same within said =
    inr (subst (λ (b : List ℕ). (length b ≤ text_bound) × IsScriptSaid name b outcome) whole
    (within, subst (λ (b : List ℕ). IsScriptSaid name b outcome) same said))
