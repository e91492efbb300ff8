use Rattle.std.proofs.Common.{sym, ◌∙◌}
use Rattle.std.proofs.lemmas.Str.{IsUtf8-from_is_utf8}
use Rattle.text_grammar.proofs.names.on_line.Goals as goal

pub from_bytes-requires : goal.from_bytes-requires
from_bytes-requires c = IsUtf8-from_is_utf8 c.args.bytes.now (sym c.is_text.ensures ∙ c.if-not-is_text.false)
