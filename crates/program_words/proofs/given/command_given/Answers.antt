use Rattle.std.proofs.Common.{◌∙◌, ap, sym, map, option_map, string_bytes}
use Rattle.clap.specs.Simple.{app_of}
use Rattle.program_words.specs.Said.{said_of}
use Rattle.program_words.proofs.Faultless.{said_by_matches, none_said}
use Rattle.program_words.proofs.given.command_given.Goals as goal

pub returns-in-Some-clause-taken : goal.returns-in-Some-clause-taken
returns-in-Some-clause-taken c =
    let m = c.in-Ok-try_get_matches_from in
    sym (said_by_matches (app_of c.in-Ok.line) (map (λ w. string_bytes w) c.args.words.now) m.matches c.in-Ok.ensures
    m.ensures.matches m.ensures.kinds)
    ∙ sym c.command_in.ensures ∙ ap (option_map said_of) c.in-Some.is

pub returns-in-Ok-try_get_matches_from-clause-refused :
    goal.returns-in-Ok-try_get_matches_from-clause-refused
returns-in-Ok-try_get_matches_from-clause-refused c = λ _.
    let m = c.in-Ok-try_get_matches_from in
    sym (said_by_matches (app_of c.in-Ok.line) (map (λ w. string_bytes w) c.args.words.now) m.matches c.in-Ok.ensures
    m.ensures.matches m.ensures.kinds)
    ∙ sym c.command_in.ensures ∙ ap (option_map said_of) c.in-None.is

pub returns : goal.returns
returns c = record {
  taken = tt;
  refused = λ _. none_said (app_of c.in-Ok.line) (map (λ w. string_bytes w) c.args.words.now) c.in-Err.error c.in-Ok.ensures
      (λ out. c.in_default-kind.not-OutOfMemory (c.kind.ensures ∙ out)) c.in-Err.ensures.kinds;
}
