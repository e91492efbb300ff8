use Rattle.std.proofs.Common.{map, ap, Ok, Err}
use Rattle.std.specs.String.{string_bytes}
use Rattle.currency_cli.proofs.program.run.Goals as goal
use Rattle.currency_cli.proofs.JobsDone.{done_reads, sink_failed, is_denied, is_done, is_undecided, prefix_written, refusal_not_one, refusal_not_zero, refusal_not_three, refusal_not_eight, refusal_not_ten, is_inconsistent}
use Rattle.currency_cli.proofs.Exact.{comes_to, comes_to_its_own}
use Rattle.currency_cli.proofs.Refusals.{refused, words_refused, are_words, done_not_two, names_unread}
use Rattle.session_command.proofs.Scripts.{script_one}
use Rattle.currency_cli.proofs.Replies.{answered, blamed, conducted, explained, imagined, listed, possibly_tabled, recorded, tabled, verified}

-- ---- the job was done

pub returns-in-Ok-clause-done : goal.returns-in-Ok-clause-done
returns-in-Ok-clause-done g c status =
    is_done (g.S.Shelf.texts c.args.shelf.now) _ (map (λ w. string_bytes w) c.args.words.now) _ _ _ _ c.in-Ok.done
    c.hand_out.result
    c.in-Ok.ensures.printed c.hand_out.ensures status

pub returns-in-Err-clause-done : goal.returns-in-Err-clause-done
returns-in-Err-clause-done g c status = absurd (refusal_not_zero _ _ _ _ c.in-Err.trouble c.refuse.result c.refuse.ensures status)

pub returns-in-Ok-clause-denied : goal.returns-in-Ok-clause-denied
returns-in-Ok-clause-denied g c status =
    is_denied (g.S.Shelf.texts c.args.shelf.now) _ (map (λ w. string_bytes w) c.args.words.now) _ _ _ _ c.in-Ok.done
    c.hand_out.result
    c.in-Ok.ensures.printed c.hand_out.ensures status

pub returns-in-Err-clause-denied : goal.returns-in-Err-clause-denied
returns-in-Err-clause-denied g c status =
    absurd (refusal_not_one _ _ _ _ c.in-Err.trouble c.refuse.result c.refuse.ensures status)

pub returns-in-Ok-clause-undecided : goal.returns-in-Ok-clause-undecided
returns-in-Ok-clause-undecided g c status =
    is_undecided (g.S.Shelf.texts c.args.shelf.now) _ (map (λ w. string_bytes w) c.args.words.now) _ _ _ _
    c.in-Ok.done c.hand_out.result
    c.in-Ok.ensures.printed c.hand_out.ensures status

pub returns-in-Err-clause-undecided : goal.returns-in-Err-clause-undecided
returns-in-Err-clause-undecided g c status = absurd (refusal_not_three _ _ _ _ c.in-Err.trouble c.refuse.result
    c.refuse.ensures status)

pub returns-in-Ok-clause-write_fault_text : goal.returns-in-Ok-clause-write_fault_text
returns-in-Ok-clause-write_fault_text g c status = record {
  done = c.in-Ok.done;
  due = c.in-Ok.ensures.due tt;
  text = prefix_written _ _ _ _ c.in-Ok.done c.hand_out.result c.hand_out.ensures status;
}

pub returns-in-Err-clause-write_fault_text : goal.returns-in-Err-clause-write_fault_text
returns-in-Err-clause-write_fault_text g c status =
    absurd (refusal_not_eight _ _ _ _ c.in-Err.trouble c.refuse.result c.refuse.ensures status)

-- ---- the other way round

pub returns-in-Ok-clause-exact : goal.returns-in-Ok-clause-exact
returns-in-Ok-clause-exact g c =
    comes_to c.one_due.ensures (g.S.Shelf.texts c.args.shelf.now) _ (map (λ w. string_bytes w) c.args.words.now)
    (Ok c.in-Ok.done) _ _ _ _ _ _ c.hand_out.result
    c.in-Ok.ensures.due c.in-Ok.ensures.read_fault c.hand_out.ensures

pub returns-in-Err-clause-exact : goal.returns-in-Err-clause-exact
returns-in-Err-clause-exact g c =
    comes_to c.one_due.ensures (g.S.Shelf.texts c.args.shelf.now) _ (map (λ w. string_bytes w) c.args.words.now)
    (Err c.in-Err.trouble) _ _ _ _ _ _ c.refuse.result
    c.in-Err.ensures.due c.in-Err.ensures.read_fault c.refuse.ensures

pub returns-in-Ok-clause-complete : goal.returns-in-Ok-clause-complete
returns-in-Ok-clause-complete g c reads writes =
    comes_to_its_own (g.S.Shelf.texts c.args.shelf.now) _ (map (λ w. string_bytes w) c.args.words.now) _ _ _ _ c.hand_out.result
    (returns-in-Ok-clause-exact g c) reads writes

pub returns-in-Err-clause-complete : goal.returns-in-Err-clause-complete
returns-in-Err-clause-complete g c reads writes =
    comes_to_its_own (g.S.Shelf.texts c.args.shelf.now) _ (map (λ w. string_bytes w) c.args.words.now) _ _ _ _ c.refuse.result
    (returns-in-Err-clause-exact g c) reads writes

pub returns-in-Ok-clause-answered : goal.returns-in-Ok-clause-answered
returns-in-Ok-clause-answered g c =
    answered c.one_read.ensures.specs c.one_read.ensures.questions (g.S.Shelf.texts c.args.shelf.now) _
    (map (λ w. string_bytes w) c.args.words.now)
    (Ok c.in-Ok.done) _ _ _ _ _ _ c.hand_out.result c.in-Ok.ensures.due c.in-Ok.ensures.read_fault c.hand_out.ensures

pub returns-in-Err-clause-answered : goal.returns-in-Err-clause-answered
returns-in-Err-clause-answered g c =
    answered c.one_read.ensures.specs c.one_read.ensures.questions (g.S.Shelf.texts c.args.shelf.now) _
    (map (λ w. string_bytes w) c.args.words.now)
    (Err c.in-Err.trouble) _ _ _ _ _ _ c.refuse.result c.in-Err.ensures.due c.in-Err.ensures.read_fault c.refuse.ensures

pub returns-in-Ok-clause-verified : goal.returns-in-Ok-clause-verified
returns-in-Ok-clause-verified g c =
    verified c.one_read.ensures.specs c.one_read.ensures.questions c.one_judgement.ensures.reports
    (g.S.Shelf.texts c.args.shelf.now) _ (map (λ w. string_bytes w) c.args.words.now)
    (Ok c.in-Ok.done) _ _ _ _ _ _ c.hand_out.result c.in-Ok.ensures.due c.in-Ok.ensures.read_fault c.hand_out.ensures

pub returns-in-Err-clause-verified : goal.returns-in-Err-clause-verified
returns-in-Err-clause-verified g c =
    verified c.one_read.ensures.specs c.one_read.ensures.questions c.one_judgement.ensures.reports
    (g.S.Shelf.texts c.args.shelf.now) _ (map (λ w. string_bytes w) c.args.words.now)
    (Err c.in-Err.trouble) _ _ _ _ _ _ c.refuse.result c.in-Err.ensures.due c.in-Err.ensures.read_fault c.refuse.ensures

pub returns-in-Ok-clause-listed : goal.returns-in-Ok-clause-listed
returns-in-Ok-clause-listed g c =
    listed c.one_read.ensures.specs (g.S.Shelf.texts c.args.shelf.now) _ (map (λ w. string_bytes w) c.args.words.now)
    (Ok c.in-Ok.done) _ _ _ _ _ _ c.hand_out.result c.in-Ok.ensures.due c.in-Ok.ensures.read_fault c.hand_out.ensures

pub returns-in-Err-clause-listed : goal.returns-in-Err-clause-listed
returns-in-Err-clause-listed g c =
    listed c.one_read.ensures.specs (g.S.Shelf.texts c.args.shelf.now) _ (map (λ w. string_bytes w) c.args.words.now)
    (Err c.in-Err.trouble) _ _ _ _ _ _ c.refuse.result c.in-Err.ensures.due c.in-Err.ensures.read_fault c.refuse.ensures

pub returns-in-Ok-clause-explained : goal.returns-in-Ok-clause-explained
returns-in-Ok-clause-explained g c =
    explained c.one_read.ensures.specs c.one_read.ensures.questions (g.S.Shelf.texts c.args.shelf.now) _
    (map (λ w. string_bytes w) c.args.words.now)
    (Ok c.in-Ok.done) _ _ _ _ _ _ c.hand_out.result c.in-Ok.ensures.due c.in-Ok.ensures.read_fault c.hand_out.ensures

pub returns-in-Err-clause-explained : goal.returns-in-Err-clause-explained
returns-in-Err-clause-explained g c =
    explained c.one_read.ensures.specs c.one_read.ensures.questions (g.S.Shelf.texts c.args.shelf.now) _
    (map (λ w. string_bytes w) c.args.words.now)
    (Err c.in-Err.trouble) _ _ _ _ _ _ c.refuse.result c.in-Err.ensures.due c.in-Err.ensures.read_fault c.refuse.ensures

pub returns-in-Ok-clause-blamed : goal.returns-in-Ok-clause-blamed
returns-in-Ok-clause-blamed g c =
    blamed c.one_read.ensures.specs (g.S.Shelf.texts c.args.shelf.now) _ (map (λ w. string_bytes w) c.args.words.now)
    (Ok c.in-Ok.done) _ _ _ _ _ _ c.hand_out.result c.in-Ok.ensures.due c.in-Ok.ensures.read_fault c.hand_out.ensures

pub returns-in-Err-clause-blamed : goal.returns-in-Err-clause-blamed
returns-in-Err-clause-blamed g c =
    blamed c.one_read.ensures.specs (g.S.Shelf.texts c.args.shelf.now) _ (map (λ w. string_bytes w) c.args.words.now)
    (Err c.in-Err.trouble) _ _ _ _ _ _ c.refuse.result c.in-Err.ensures.due c.in-Err.ensures.read_fault c.refuse.ensures

pub returns-in-Ok-clause-imagined : goal.returns-in-Ok-clause-imagined
returns-in-Ok-clause-imagined g c =
    imagined c.one_read.ensures.specs c.one_read.ensures.questions (g.S.Shelf.texts c.args.shelf.now) _
    (map (λ w. string_bytes w) c.args.words.now)
    (Ok c.in-Ok.done) _ _ _ _ _ _ c.hand_out.result c.in-Ok.ensures.due c.in-Ok.ensures.read_fault c.hand_out.ensures

pub returns-in-Err-clause-imagined : goal.returns-in-Err-clause-imagined
returns-in-Err-clause-imagined g c =
    imagined c.one_read.ensures.specs c.one_read.ensures.questions (g.S.Shelf.texts c.args.shelf.now) _
    (map (λ w. string_bytes w) c.args.words.now)
    (Err c.in-Err.trouble) _ _ _ _ _ _ c.refuse.result c.in-Err.ensures.due c.in-Err.ensures.read_fault c.refuse.ensures

pub returns-in-Ok-clause-recorded : goal.returns-in-Ok-clause-recorded
returns-in-Ok-clause-recorded g c =
    recorded c.one_read.ensures.specs (g.S.Shelf.texts c.args.shelf.now) _ (map (λ w. string_bytes w) c.args.words.now)
    (Ok c.in-Ok.done) _ _ _ _ _ _ c.hand_out.result c.in-Ok.ensures.due c.in-Ok.ensures.read_fault c.hand_out.ensures

pub returns-in-Err-clause-recorded : goal.returns-in-Err-clause-recorded
returns-in-Err-clause-recorded g c =
    recorded c.one_read.ensures.specs (g.S.Shelf.texts c.args.shelf.now) _ (map (λ w. string_bytes w) c.args.words.now)
    (Err c.in-Err.trouble) _ _ _ _ _ _ c.refuse.result c.in-Err.ensures.due c.in-Err.ensures.read_fault c.refuse.ensures

pub returns-in-Ok-clause-tabled : goal.returns-in-Ok-clause-tabled
returns-in-Ok-clause-tabled g c =
    tabled c.one_read.ensures.specs c.one_read.ensures.questions (g.S.Shelf.texts c.args.shelf.now) _
    (map (λ w. string_bytes w) c.args.words.now)
    (Ok c.in-Ok.done) _ _ _ _ _ _ c.hand_out.result c.in-Ok.ensures.due c.in-Ok.ensures.read_fault c.hand_out.ensures

pub returns-in-Err-clause-tabled : goal.returns-in-Err-clause-tabled
returns-in-Err-clause-tabled g c =
    tabled c.one_read.ensures.specs c.one_read.ensures.questions (g.S.Shelf.texts c.args.shelf.now) _
    (map (λ w. string_bytes w) c.args.words.now)
    (Err c.in-Err.trouble) _ _ _ _ _ _ c.refuse.result c.in-Err.ensures.due c.in-Err.ensures.read_fault c.refuse.ensures

pub returns-in-Ok-clause-possibly_tabled : goal.returns-in-Ok-clause-possibly_tabled
returns-in-Ok-clause-possibly_tabled g c =
    possibly_tabled c.one_read.ensures.specs c.one_read.ensures.questions (g.S.Shelf.texts c.args.shelf.now) _
    (map (λ w. string_bytes w) c.args.words.now)
    (Ok c.in-Ok.done) _ _ _ _ _ _ c.hand_out.result c.in-Ok.ensures.due c.in-Ok.ensures.read_fault c.hand_out.ensures

pub returns-in-Err-clause-possibly_tabled : goal.returns-in-Err-clause-possibly_tabled
returns-in-Err-clause-possibly_tabled g c =
    possibly_tabled c.one_read.ensures.specs c.one_read.ensures.questions (g.S.Shelf.texts c.args.shelf.now) _
    (map (λ w. string_bytes w) c.args.words.now)
    (Err c.in-Err.trouble) _ _ _ _ _ _ c.refuse.result c.in-Err.ensures.due c.in-Err.ensures.read_fault c.refuse.ensures

pub returns-in-Ok-clause-conducted : goal.returns-in-Ok-clause-conducted
returns-in-Ok-clause-conducted g c =
    conducted c.one_read.ensures.specs (script_one record {
      tree = c.one_script.ensures.one_tree;
      refusal = c.one_script.ensures.one_refusal;
      not_both = c.one_script.ensures.not_both;
    }) (g.S.Shelf.texts c.args.shelf.now) _
    (map (λ w. string_bytes w) c.args.words.now)
    (Ok c.in-Ok.done) _ _ _ _ _ _ c.hand_out.result c.in-Ok.ensures.due c.in-Ok.ensures.read_fault c.hand_out.ensures

pub returns-in-Err-clause-conducted : goal.returns-in-Err-clause-conducted
returns-in-Err-clause-conducted g c =
    conducted c.one_read.ensures.specs (script_one record {
      tree = c.one_script.ensures.one_tree;
      refusal = c.one_script.ensures.one_refusal;
      not_both = c.one_script.ensures.not_both;
    }) (g.S.Shelf.texts c.args.shelf.now) _
    (map (λ w. string_bytes w) c.args.words.now)
    (Err c.in-Err.trouble) _ _ _ _ _ _ c.refuse.result c.in-Err.ensures.due c.in-Err.ensures.read_fault c.refuse.ensures

pub returns-in-Ok-clause-inconsistent : goal.returns-in-Ok-clause-inconsistent
returns-in-Ok-clause-inconsistent g c status =
    is_inconsistent (g.S.Shelf.texts c.args.shelf.now) _ (map (λ w. string_bytes w) c.args.words.now) _ _ _ _
    c.in-Ok.done c.hand_out.result
    c.in-Ok.ensures.printed c.hand_out.ensures status

pub returns-in-Err-clause-inconsistent : goal.returns-in-Err-clause-inconsistent
returns-in-Err-clause-inconsistent g c status = absurd (refusal_not_ten _ _ _ _ c.in-Err.trouble c.refuse.result
    c.refuse.ensures status)

-- ---- refusals

pub returns-in-Ok-clause-refused : goal.returns-in-Ok-clause-refused
returns-in-Ok-clause-refused g c =
    refused (g.S.Shelf.texts c.args.shelf.now) _ (map (λ w. string_bytes w) c.args.words.now) (Ok c.in-Ok.done) _ _ _
    _ c.hand_out.result
    c.in-Ok.ensures.due c.hand_out.ensures

pub returns-in-Err-clause-refused : goal.returns-in-Err-clause-refused
returns-in-Err-clause-refused g c =
    refused (g.S.Shelf.texts c.args.shelf.now) _ (map (λ w. string_bytes w) c.args.words.now) (Err c.in-Err.trouble)
    _ _ _ _ c.refuse.result
    c.in-Err.ensures.due c.refuse.ensures

pub returns-in-Ok-clause-words : goal.returns-in-Ok-clause-words
returns-in-Ok-clause-words g c two = absurd (done_not_two _ _ _ _ c.in-Ok.done c.hand_out.result c.hand_out.ensures two)

pub returns-in-Err-clause-words : goal.returns-in-Err-clause-words
returns-in-Err-clause-words g c two =
    c.in-Err.ensures.words (ap Err (are_words _ _ _ _ c.in-Err.trouble c.refuse.result c.refuse.ensures two))

pub returns-in-Ok-clause-words_refused : goal.returns-in-Ok-clause-words_refused
returns-in-Ok-clause-words_refused g c none =
    words_refused (Ok c.in-Ok.done) _ _ _ _ c.hand_out.result c.hand_out.ensures (c.in-Ok.ensures.words_refused none)

pub returns-in-Err-clause-words_refused : goal.returns-in-Err-clause-words_refused
returns-in-Err-clause-words_refused g c none =
    words_refused (Err c.in-Err.trouble) _ _ _ _ c.refuse.result c.refuse.ensures (c.in-Err.ensures.words_refused none)

pub returns-in-Err-clause-read_fault_text : goal.returns-in-Err-clause-read_fault_text
returns-in-Err-clause-read_fault_text g c seven =
    names_unread (g.S.Shelf.texts c.args.shelf.now) _ (map (λ w. string_bytes w) c.args.words.now) c.in-Err.trouble _
    _ _ _ c.refuse.result
    c.in-Err.ensures.unread c.refuse.ensures seven

-- ---- faults of the outside

pub returns-in-Ok-clause-read_fault : goal.returns-in-Ok-clause-read_fault
returns-in-Ok-clause-read_fault g c seven = absurd (done_reads _ _ _ _ c.in-Ok.done c.hand_out.result c.hand_out.ensures seven)

pub returns-in-Ok-clause-read_fault_text : goal.returns-in-Ok-clause-read_fault_text
returns-in-Ok-clause-read_fault_text g c seven = absurd (done_reads _ _ _ _ c.in-Ok.done c.hand_out.result
    c.hand_out.ensures seven)

pub returns-in-Ok-clause-write_fault : goal.returns-in-Ok-clause-write_fault
returns-in-Ok-clause-write_fault g c eight = sink_failed _ _ _ _ c.in-Ok.done c.hand_out.result c.hand_out.ensures eight
