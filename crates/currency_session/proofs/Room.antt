-- What is kept when a report is put last.
use Rattle.std.proofs.Common.{◌≡◌, ◌≤◌, ◌++◌, ◌∷◌, Bool, true, false, List, [], All, length, length-append, length-drop, nat_lt, refl, arith}
use Rattle.std.proofs.lemmas.Bool.{ltb-false}
use Rattle.std.proofs.lemmas.List.Elements.{All-drop, All-push}
use Rattle.report_model.specs.Verdicts.{is_decided, kind_of}
use Rattle.report_model.specs.declared.report.Report.{Report}
use Rattle.report_write.specs.Writable.{IsWritableReport}
use Rattle.spec_model.specs.declared.relation.Relation.{Relation}
use Rattle.currency_session.specs.Sessions.{AreKept, IsKeptReport, making_room}

-- without the oldest of four there are three, all of which may be kept
room_made : (relations : List Relation) (kept : List Report) → AreKept relations kept
    → (length (making_room kept) ≤ 3) × All (IsKeptReport relations) (making_room kept)
room_made relations kept are = go (nat_lt 3 (length kept)) refl
  where
    go : (b : Bool) → nat_lt 3 (length kept) ≡ b
        → (length (making_room kept) ≤ 3) × All (IsKeptReport relations) (making_room kept)
    go true is =
        rw is (omega (arith, are.few, length-drop 1 kept), All-drop (IsKeptReport relations) 1 kept are.each)
    go false is = rw is (ltb-false 3 (length kept) is, are.each)

pub kept_more : (relations : List Relation) (kept : List Report) (r : Report) → AreKept relations kept
    → is_decided (kind_of r.verdict) ≡ true → IsWritableReport relations r → AreKept relations (making_room kept ++ r ∷ [])
kept_more relations kept r are decided writable =
    let made = room_made relations kept are in
    record {
      few = omega (arith, length-append (making_room kept) (r ∷ []), made.0);
      each = All-push (IsKeptReport relations) (making_room kept) r made.1
          (record { decided = decided; writable = writable });
    }
