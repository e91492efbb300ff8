-- One more completion behind those that are listed already.
use Rattle.std.proofs.Common.{◌≡◌, ◌∙◌, ◌<◌, ◌+◌, ℕ, List, [], ◌∷◌, ◌++◌, append-nil, length, get_or, drop, Ok, Err, All, refl, rules}
use Rattle.std.proofs.lemmas.List.Elements.{All-append}
use Rattle.spec_model.specs.Completion.{Rankings, HasShape}
use Rattle.spec_model.specs.declared.relation.Relation.{Relation}
use Rattle.report_syntax.specs.declared.tree.CompletionTree.{CompletionTree}
use Rattle.report_syntax.specs.declared.tree.Version.{Version}
use Rattle.currency_report.proofs.Outcomes.{due_is, next_left, regroup}
use Rattle.currency_report.specs.Completed.{later_ones, all_completed}
use Rattle.currency_report.specs.Following.{next_completed, going_on}
use Rattle.currency_report.specs.Outcomes.{IsDue}
use Rattle.currency_report.specs.declared.report.ReportFault.{ReportFault}
use Rattle.currency_report.specs.declared.report.ReportFault.TheVariants.{Refused, NoMemory}

module _ (version : Version) (relations : List Relation) where
  -- the completion that comes after others is put behind them
  put_behind : (front : List Rankings) (t : CompletionTree) (ts : List CompletionTree) (c : Rankings)
      → next_completed version relations front t ≡ Ok c
      → going_on version relations (front ++ c ∷ []) ts ≡ going_on version relations front (t ∷ ts)
  put_behind [] t ts c due = rw due refl
  put_behind (first ∷ more) t ts c due = rw due (regroup (first ∷ more) c (later_ones version relations first ts))

  -- ... or is refused
  is_refused : (front : List Rankings) (t : CompletionTree) (ts : List CompletionTree) (fault : ReportFault)
      → IsDue (next_completed version relations front t) (Err fault)
      → IsDue (going_on version relations front (t ∷ ts)) (Err fault)
  is_refused [] t ts (Refused code line) due = rw due refl
  is_refused (first ∷ more) t ts (Refused code line) due = rw due refl
  is_refused front t ts NoMemory due = tt

  pub one_listed : (ts : List CompletionTree) (i : ℕ) (t : CompletionTree) (front now : List Rankings) (c : Rankings)
      → i < length ts
      → t ≡ get_or ts i t → going_on version relations front (drop i ts) ≡ all_completed version relations ts
      → next_completed version relations front t ≡ Ok c → now ≡ front ++ c ∷ []
      → going_on version relations now (drop (i + 1) ts) ≡ all_completed version relations ts
  one_listed ts i t front now c below is so_far due put =
      let next = rw (next_left ts i t below is) at so_far in
      rw put (put_behind front t (drop (i + 1) ts) c due ∙ next)

  pub one_refused : (ts : List CompletionTree) (i : ℕ) (t : CompletionTree) (front : List Rankings)
      (fault : ReportFault) → i < length ts
      → t ≡ get_or ts i t → going_on version relations front (drop i ts) ≡ all_completed version relations ts
      → IsDue (next_completed version relations front t) (Err fault) → IsDue (all_completed version relations ts) (Err fault)
  one_refused ts i t front fault below is so_far due =
      let next = rw (next_left ts i t below is) at so_far in
      due_is (going_on version relations front (t ∷ drop (i + 1) ts)) (all_completed version relations ts) (Err fault) next
      (is_refused front t (drop (i + 1) ts) fault due)

  -- where none is left, all are listed
  pub all_listed : (front : List Rankings) → going_on version relations front [] ≡ Ok front
  all_listed [] = refl
  all_listed (first ∷ more) = rw append-nil refl

-- each completion has the shape, the new one too
pub each_listed : (relations : List Relation) (front now : List Rankings) (c : Rankings) → All (HasShape relations)
    front → HasShape relations c
    → now ≡ front ++ c ∷ [] → All (HasShape relations) now
each_listed relations front now c each one put = rw put (All-append (HasShape relations) front (c ∷ []) each (search rules))
