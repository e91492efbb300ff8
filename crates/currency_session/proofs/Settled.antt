-- What a search may start from after an edit.
use Rattle.std.proofs.Common.{◌≡◌, Bool, true, false, Option, Some, None, Ok, IfSome, cond, refl, subst, sym}
use Rattle.std.proofs.lemmas.Option.{IfSome_then}
use Rattle.edit_checks.specs.Stays.{StaysConsistent}
use Rattle.spec_edits.proofs.Kept.{edit_kept}
use Rattle.spec_edits.proofs.SameButGiven.{shape_kept}
use Rattle.spec_edits.specs.Edits.{edited}
use Rattle.spec_edits.specs.declared.edit.Edit.{Edit}
use Rattle.spec_model.specs.Completion.{Rankings}
use Rattle.spec_model.specs.Consistent.{IsConsistent}
use Rattle.spec_model.specs.Spec.{Spec}
use Rattle.currency_session.specs.Starts.{IsStart, IsStartBefore}
use Rattle.currency_session.specs.declared.start.Lost.{Lost}
use Rattle.currency_session.specs.declared.start.Start.{Start}

stay : (s t : Spec) (edit : Edit) (known : Option Rankings) → edited s edit ≡ Ok t → IfSome known (StaysConsistent s edit)
    → IfSome known (IsConsistent t)
stay s t edit None done stays = stays
stay s t edit (Some c) done stays = stays t done

-- what was there before the edit has the shape of the relations after it
pub before : (s t : Spec) (edit : Edit) (stays : Bool) (start : Start) → edited s edit ≡ Ok t
    → (stays ≡ true → IfSome start.known (StaysConsistent s edit)) → IsStart s start → IsStartBefore t stays start
before s t edit stays start done may is =
    let same = edit_kept s t edit done in
    record {
      known = λ yes. stay s t edit start.known done (may yes);
      shape = IfSome_then start.known is.known
          (λ c consistent. shape_kept s.relations t.relations c same consistent.completion.shape);
      lost = IfSome_then start.lost is.lost (λ l shape. shape_kept s.relations t.relations l.completion same shape);
    }

-- what is kept of a known completion where it stays is consistent
pub known_after : (s : Spec) (old new : Option Rankings) (stays : Bool)
    → (stays ≡ true → IfSome old (IsConsistent s)) → new ≡ cond stays old None → IfSome new (IsConsistent s)
known_after s old new true stays is = subst (λ (o : Option Rankings). IfSome o (IsConsistent s)) (sym is) (stays refl)
known_after s old new false stays is = subst (λ (o : Option Rankings). IfSome o (IsConsistent s)) (sym is) tt
