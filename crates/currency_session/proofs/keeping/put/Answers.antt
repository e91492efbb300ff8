use Rattle.std.proofs.Common.{◌≡◌, true, sym, subst}
use Rattle.report_model.specs.Verdicts.{is_decided, kind_of}
use Rattle.currency_session.specs.Sessions.{AreKept}
use Rattle.currency_session.proofs.Room.{kept_more}
use Rattle.currency_session.proofs.keeping.put.Goals as goal

pub returns-in-Ok-clause-facts : goal.returns-in-Ok-clause-facts
returns-in-Ok-clause-facts c =
    let decided : is_decided (kind_of c.args.report.verdict) ≡ true = cc in
    λ relations are writable.
    subst (AreKept relations) (sym c.in-Ok.ensures.ok)
    (kept_more relations c.args.kept.now.items c.args.report are decided writable)
