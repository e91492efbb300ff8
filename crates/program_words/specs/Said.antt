-- What the code's own types say.
use Rattle.program_words.specs.Words.{CommandSaid, AskFor, VerifyOf, ForcedOf, TrialOf, ExplainFor, ConflictsIn, GoldenIn}
use Rattle.program_words.specs.Words.{CertainTableFor, PossibleFor, PossibleTableFor, SessionOver}
use Rattle.program_words.specs.declared.command.Command.{Command}
use Rattle.program_words.specs.declared.command.Command.TheVariants.{Ask, Verify, Forced, Trial, Explain, Conflicts, Golden}
use Rattle.program_words.specs.declared.command.Command.TheVariants.{CertainTable, Possible, PossibleTable, Session}

-- a command, with the names of documents as bytes
abbrev pub said_of : Command → CommandSaid
said_of (Ask a) =
    AskFor (record {
      spec = a.spec.now;
      question = a.question.now;
      budget = a.budget;
      form = a.form;
      exit = a.exit;
      guide = a.guide;
    })
said_of (Verify v) = VerifyOf (record { spec = v.spec.now; question = v.question.now; report = v.report.now })
said_of (Forced name) = ForcedOf name.now
said_of (Trial size) = TrialOf size
said_of (Explain e) =
    ExplainFor (record { spec = e.spec.now; question = e.question.now; unit = e.unit; budget = e.budget; guide = e.guide })
said_of (Conflicts c) = ConflictsIn (record { spec = c.spec.now; budget = c.budget; guide = c.guide })
said_of (Golden g) =
    GoldenIn (record { spec = g.spec.now; relation = g.relation.now; budget = g.budget; guide = g.guide })
said_of (Possible p) = PossibleFor (record {
  spec = p.spec.now;
  question = p.question.now;
  budget = p.budget;
  brief = p.brief;
  guide = p.guide;
})
said_of (CertainTable t) = CertainTableFor (record {
  spec = t.spec.now;
  question = t.question.now;
  budget = t.budget;
  guide = t.guide;
})
said_of (PossibleTable t) = PossibleTableFor (record {
  spec = t.spec.now;
  question = t.question.now;
  budget = t.budget;
  guide = t.guide;
})
said_of (Session s) = SessionOver (record {
  spec = s.spec.now;
  script = s.script.now;
  budget = s.budget;
  brief = s.brief;
  guide = s.guide;
})
