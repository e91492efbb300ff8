-- A report that is written spells its tree.
use Rattle.std.proofs.Common.{◌≡◌, ℕ, List, [], ◌∷◌, ◌++◌, refl, sym, ap, ◌∙◌, subst, append_assoc, arith, codes}
use Rattle.std.specs.Prelude.{All}
use Rattle.refutation_log.specs.declared.log.Log.{Log}
use Rattle.spec_model.specs.declared.relation.Relation.{Relation}
use Rattle.text_write.specs.Pieces.{Piece, text_of}
use Rattle.text_write.specs.Written.{HasTokens}
use Rattle.text_write.proofs.Tokens.{pieces_found}
use Rattle.log_syntax.specs.Grammar.{SpellsLogPart}
use Rattle.log_syntax.specs.declared.trees.ReadLog.{ReadLog}
use Rattle.log_write.specs.Pieces.{log_pieces, symbol, word}
use Rattle.refutation_log.specs.Writable.{IsWritable}
use Rattle.log_write.proofs.Logs.{text_log}
use Rattle.log_write.proofs.Rules.{Parts, semicolon}
use Rattle.log_write.proofs.Texts.{IsText, text_then, text_wider, text_word}
use Rattle.report_model.specs.declared.report.Report.{Report}
use Rattle.report_syntax.specs.Reads.{ReadsReportText}
use Rattle.report_syntax.specs.Spells.{SpellsReport}
use Rattle.report_syntax.specs.declared.tree.ClaimTree.{ClaimTree}
use Rattle.report_syntax.specs.declared.tree.CompletionTree.{CompletionTree}
use Rattle.report_syntax.specs.declared.tree.ReportTree.{ReportTree}
use Rattle.report_syntax.specs.declared.tree.Version.TheVariants.{Second}
use Rattle.report_write.specs.Pieces.{claim_pieces, completions_pieces, report_pieces}
use Rattle.report_write.specs.Writable.{HasTextNames, IsWritableReport}
use Rattle.report_reread.specs.Trees.{tree_of, unlined_log, unlined_report}
use Rattle.report_reread.proofs.Claims.{like_claim}
use Rattle.report_reread.proofs.Completions.{like_completions}
use Rattle.report_reread.proofs.Likenesses.{IsLike, like_after, like_before, like_both, like_made}
use Rattle.report_reread.proofs.Names.{like_word}

-- a log whose lines are not told
abbrev log_tree : Log → ReadLog
log_tree log = record { log = log; statements = []; steps = [] }

like_log : Parts → (log : Log) → IsWritable log → IsText (IsLike SpellsLogPart unlined_log (log_tree log)) (log_pieces log)
like_log parts log h = text_wider (text_log parts log h)
    (λ tokens k. record { tree = k.0; spelled = k.2; same = ap log_tree k.1 })

-- what follows the head of a report, part by part
abbrev parts_pieces : List Relation → Report → List Piece
parts_pieces relations r =
    claim_pieces relations r.verdict
    ++ (completions_pieces relations r.completions ++ (log_pieces r.log ++ (word (codes "end") ++ symbol (codes ";"))))

-- the head of a report before such pieces
abbrev after_head : List Piece → List Piece
after_head ps = word (codes "currency") ++ word (codes "report") ++ word (codes "2") ++ symbol (codes ";")
    ++ word (codes "verdict") ++ ps

like_parts : Parts → (relations : List Relation) (r : Report) → All HasTextNames relations → IsWritableReport relations r
    → IsText (IsLike SpellsReport unlined_report (tree_of relations r)) (after_head (parts_pieces relations r))
like_parts parts relations r texts h =
    like_made
    (λ (x : (ℕ × ClaimTree) × (List CompletionTree × ReadLog)). record {
      version = Second;
      verdict =
          record { line = x.0.0; claim = x.0.1 };
      completions = x.1.0;
      log = x.1.1;
    })
    (λ x tokens s. s) (λ x. refl)
    (like_after (text_word (codes "currency") (omega arith) refl)
    (like_after (text_word (codes "report") (omega arith) refl)
    (like_after (text_word (codes "2") (omega arith) refl)
    (like_after semicolon
    (like_both
    (like_both (like_word (codes "verdict") (omega arith) refl) (like_claim relations texts r.verdict h.verdict))
    (like_both (like_completions relations texts r.completions h.completions)
    (like_before (like_log parts r.log h.log) (text_then (text_word (codes "end") (omega arith) refl) semicolon))))))))

-- pieces joined from the right are those that are joined from the left
joined : (claim completions log : List Piece) (a b : Piece)
    → claim ++ (completions ++ (log ++ (a ∷ b ∷ []))) ≡ claim ++ completions ++ log ++ (a ∷ []) ++ (b ∷ [])
joined claim completions log a b =
    sym (append_assoc (claim ++ completions ++ log) (a ∷ []) (b ∷ []) ∙ append_assoc (claim ++ completions) log (a ∷ b ∷ [])
    ∙ append_assoc claim completions (log ++ (a ∷ b ∷ [])))

like_report : Parts → (relations : List Relation) (r : Report) → All HasTextNames relations → IsWritableReport relations r
    → IsText (IsLike SpellsReport unlined_report (tree_of relations r)) (report_pieces relations r)
like_report parts relations r texts h =
    subst (λ (ps : List Piece). IsText (IsLike SpellsReport unlined_report (tree_of relations r)) (after_head ps))
    (joined (claim_pieces relations r.verdict) (completions_pieces relations r.completions) (log_pieces r.log) _ _)
    (like_parts parts relations r texts h)

pub spelled : Parts → (relations : List Relation) (r : Report) → All HasTextNames relations → IsWritableReport relations r
    → (t : ReportTree) × ReadsReportText (text_of (report_pieces relations r)) t × (unlined_report t ≡ tree_of relations r)
spelled parts relations r texts h =
    let t : IsText (IsLike SpellsReport unlined_report (tree_of relations r)) (report_pieces relations r) =
    like_report parts relations r texts h in
    let found : HasTokens (report_pieces relations r) = pieces_found (report_pieces relations r) t.whole in
    let read : IsLike SpellsReport unlined_report (tree_of relations r) found.lexemes = t.read found.lexemes found.same in
    (read.tree, record { utf8 = found.utf8; lexemes = found.lexemes; tokens = found.tokens; spelled = read.spelled }, read.same)
