use Rattle.std.proofs.Common.{◌≡◌, List, ℕ, IsUtf8, Bool, true, false, sym, refl}
use Rattle.std.specs.Str.{is_utf8}
use Rattle.std.proofs.lemmas.Str.{IsUtf8-from_is_utf8, is_utf8-from_IsUtf8}
use Rattle.currency_base.proofs.name.is_text.Goals as goal

is_utf8-fails : (bytes : List ℕ) (b : Bool) → is_utf8 bytes ≡ b → (IsUtf8 bytes → ⊥) → false ≡ is_utf8 bytes
is_utf8-fails bytes true e not_text = absurd (not_text (IsUtf8-from_is_utf8 bytes e))
is_utf8-fails bytes false e not_text = sym e

pub returns-in-Ok : goal.returns-in-Ok
returns-in-Ok c = sym (is_utf8-from_IsUtf8 c.args.bytes.now c.in-Ok.ensures.cases.1)

pub returns-in-Err : goal.returns-in-Err
returns-in-Err c = is_utf8-fails c.args.bytes.now (is_utf8 c.args.bytes.now) refl c.in-Err.ensures.cases.0
