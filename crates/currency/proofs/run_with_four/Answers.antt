use Rattle.std.proofs.Common.{ℕ, List, String, Global, map, string_bytes, subst}
use Rattle.currency.specs.Runs.{IsRun}
use Rattle.currency.proofs.run_with_four.Goals as goal

-- each clause of `run`, where the guides are four
pub returns : goal.returns
returns g c =
    subst (λ (n : ℕ). IsRun (g.S.Shelf.texts c.args.shelf.now) n
    (map {A = String Global} {B = List ℕ} (λ w. string_bytes w) c.args.words.now) (g.S.Shelf.faults c.args.shelf.now)
    (g.S.Shelf.faults c.run.new.shelf) (g.K.Sink.written c.args.out.now) (g.K.Sink.written c.run.new.out)
    (g.K.Sink.faults c.args.out.now) (g.K.Sink.faults c.run.new.out) c.run.result) c.requires (record {
      ends = c.run.ensures.ends;
      exact = c.run.ensures.exact;
      complete = c.run.ensures.complete;
      answered = c.run.ensures.answered;
      verified = c.run.ensures.verified;
      listed = c.run.ensures.listed;
      explained = c.run.ensures.explained;
      blamed = c.run.ensures.blamed;
      recorded = c.run.ensures.recorded;
      imagined = c.run.ensures.imagined;
      tabled = c.run.ensures.tabled;
      possibly_tabled = c.run.ensures.possibly_tabled;
      conducted = c.run.ensures.conducted;
      tried = c.run.ensures.tried;
      refused = c.run.ensures.refused;
      no_command = c.run.ensures.words;
      words_refused = c.run.ensures.words_refused;
      done = c.run.ensures.done;
      denied = c.run.ensures.denied;
      undecided = c.run.ensures.undecided;
      inconsistent = c.run.ensures.inconsistent;
      read_fault = c.run.ensures.read_fault;
      read_fault_text = c.run.ensures.read_fault_text;
      write_fault = c.run.ensures.write_fault;
      write_fault_text = c.run.ensures.write_fault_text;
    })
