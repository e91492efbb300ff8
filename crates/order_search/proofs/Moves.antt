-- Where the matches of an answer lie, one more among them.
use Rattle.std.proofs.Common.{◌≡◌, ◌≢◌, ◌⊎◌, ◌<◌, ◌∙◌, ℕ, List, Contains, Option, Some, length, slice_get, slice_set, refl, sym, ap, subst, inl, inr}
use Rattle.std.proofs.lemmas.Bool.{cases_eq}
use Rattle.std.proofs.lemmas.List.{length-set}
use Rattle.std.proofs.lemmas.Option.{same_Some}
use Rattle.entity_ties.specs.Parts.{Puts, list_at}
use Rattle.variable_parts.specs.Parts.{Parted}
use Rattle.order_search.specs.Moved.{HasKnown, IsMoved, Joined, Leaves, StaysOut}
use Rattle.order_search.specs.Searches.{Subject}
use Rattle.order_search.specs.Tied.{AreMembers, IsAnswerVar, IsMember}
use Rattle.order_search.specs.declared.parting.Parting.{Parting}
use Rattle.order_search.specs.declared.parting.Tie.{Tie}
use Rattle.order_search.specs.declared.parting.Tie.TheVariants as tie
use Rattle.order_search.proofs.Members.{get_other, get_same}
use Rattle.order_search.proofs.TiedSteps.{no_member, one_answer, one_var}

part_count : (old new : Parting) → HasKnown old new → length new.parts.parts ≡ length old.parts.parts
part_count old new same = ap (λ (p : Parted). length p.parts) same.parts

module _ (s : Subject) (old new : Parting) (members : AreMembers s old) (answer var : ℕ) (says : IsAnswerVar s answer var)
    (below : answer < length old.ties) where
  -- the tie of another answer is as it was
  tie_kept : (t : Tie) → new.ties ≡ slice_set old.ties answer t → (other : ℕ) → (other ≡ answer → ⊥)
      → slice_get new.ties other ≡ slice_get old.ties other
  tie_kept t ties other differ =
      ap (λ (ts : List Tie). slice_get ts other) ties ∙ get_other old.ties answer other t differ

  tie_here : (t : Tie) → new.ties ≡ slice_set old.ties answer t → slice_get new.ties answer ≡ Some t
  tie_here t ties = ap (λ (ts : List Tie). slice_get ts answer) ties ∙ get_same old.ties answer t below

  loose_before : (t : Tie) → new.ties ≡ slice_set old.ties answer t → (t ≡ tie.Loose → ⊥) → (other : ℕ)
      → slice_get new.ties other ≡ Some tie.Loose → slice_get old.ties other ≡ Some tie.Loose
  loose_before t ties not_loose other is = by (cases_eq other answer)
    where
      by : (other ≡ answer) ⊎ (other ≡ answer → ⊥) → slice_get old.ties other ≡ Some tie.Loose
      by (inl e) =
          absurd (not_loose (same_Some t tie.Loose (sym (tie_here t ties) ∙ ap (slice_get new.ties) (sym e) ∙ is)))
      by (inr d) = sym (tie_kept t ties other d) ∙ is

  -- ---- an answer that lies nowhere from now on

  module _ (same : HasKnown old new) (ties : new.ties ≡ slice_set old.ties answer tie.Across)
      (many : length new.members ≡ length old.members)
      (kept : (at x : ℕ) → x ≢ var → Contains (list_at old.members at) x → Contains (list_at new.members at) x)
      (only : (at x : ℕ) → Contains (list_at new.members at) x → Contains (list_at old.members at) x)
      (gone : (at : ℕ) → Contains (list_at new.members at) var → ⊥) where
    member_out : (part v : ℕ) → Contains (list_at new.members part) v → IsMember s new.ties part v
    member_out part v is_in =
        let m = members.each part v (only part v is_in) in
        record {
          answer = m.answer;
          says = m.says;
          is_tied = tie_kept tie.Across ties m.answer (λ e.
              gone part (subst (λ (w : ℕ). Contains (list_at new.members part) w)
              (one_var s answer v var (subst (λ (a : ℕ). IsAnswerVar s a v) e m.says) says) is_in))
              ∙ m.is_tied;
        }

    all_out : (part a v : ℕ) → slice_get new.ties a ≡ Some (tie.In part) → IsAnswerVar s a v → Contains (list_at new.members part) v
    all_out part a v is at = by (cases_eq a answer)
      where
        by : (a ≡ answer) ⊎ (a ≡ answer → ⊥) → Contains (list_at new.members part) v
        by (inl e) =
            let no : tie.Across ≡ tie.In part =
            same_Some tie.Across (tie.In part) (sym (tie_here tie.Across ties) ∙ ap (slice_get new.ties) (sym e) ∙ is) in
            cc
        by (inr d) =
            kept part v (λ e. d (one_answer s a answer v at (subst (λ (w : ℕ). IsAnswerVar s answer w) (sym e) says)))
            (members.all part a v (sym (tie_kept tie.Across ties a d) ∙ is) at)

    pub moved_out : (home : Option ℕ) → IsMoved s answer var home old new
    moved_out home = record {
      same = same;
      members = record {
        per_part = many ∙ members.per_part ∙ sym (part_count old new same);
        per_answer = ap (λ (ts : List Tie). length ts) ties ∙ length-set old.ties answer tie.Across ∙ members.per_answer;
        each = member_out;
        all = all_out;
      };
      others = λ part other differ. (kept part other differ, only part other);
      own = λ part is_in. absurd (gone part is_in);
      first = inr (λ part is_in. only part var is_in);
      loose = λ other is. loose_before tie.Across ties (λ e. cc) other is;
      no_more = λ is.
          let no : tie.Across ≡ tie.Loose = same_Some tie.Across tie.Loose (sym (tie_here tie.Across ties) ∙ is) in cc;
    }

  -- it lay nowhere before
  pub moved_across : (o : Option Tie) → slice_get old.ties answer ≡ o → ((part : ℕ) → o ≡ Some (tie.In part) → ⊥)
      → StaysOut answer old new → (home : Option ℕ) → IsMoved s answer var home old new
  moved_across o is differ out home =
      moved_out out.same out.ties (ap (λ (ms : List (List ℕ)). length ms) out.members)
      (λ at x apart has. subst (λ (ms : List (List ℕ)). Contains (list_at ms at) x) (sym out.members) has)
      (λ at x has. subst (λ (ms : List (List ℕ)). Contains (list_at ms at) x) out.members has)
      (λ at has.
      no_member s old members at answer var says o is (differ at)
      (subst (λ (ms : List (List ℕ)). Contains (list_at ms at) var) out.members has))
      home

  -- it lay in a part before
  pub moved_away : (part : ℕ) → slice_get old.ties answer ≡ Some (tie.In part) → Leaves answer var part old new
      → (home : Option ℕ) → IsMoved s answer var home old new
  moved_away part is leaves home =
      moved_out leaves.same leaves.ties leaves.members.many leaves.members.kept leaves.members.only
      (λ at has. by at has (cases_eq at part)) home
    where
      by : (at : ℕ) → Contains (list_at new.members at) var → (at ≡ part) ⊎ (at ≡ part → ⊥) → ⊥
      by at has (inl e) = leaves.members.gone (subst (λ (p : ℕ). Contains (list_at new.members p) var) e has)
      by at has (inr d) =
          no_member s old members at answer var says (Some (tie.In part)) is
          (λ e. let same : tie.In part ≡ tie.In at = same_Some (tie.In part) (tie.In at) e in d cc)
          (leaves.members.only at var has)

  -- ---- an answer that lies in a part from now on

  pub moved_in : (home : Option ℕ) → slice_get old.ties answer ≡ Some tie.Loose → Joined answer var home old new
      → IsMoved s answer var home old new
  moved_in home loose joined = record {
    same = (joined.joins).same;
    members = record {
      per_part = puts.many ∙ members.per_part ∙ sym (part_count old new (joined.joins).same);
      per_answer = ap (λ (ts : List Tie). length ts) ties ∙ length-set old.ties answer (tie.In part) ∙ members.per_answer;
      each = λ at v is_in. member_in at v (puts.only at v is_in);
      all = λ at a v is says_a. all_in at a v is says_a (cases_eq a answer);
    };
    others = λ at other differ. (puts.kept at other, λ is_in. was_in at other differ (puts.only at other is_in));
    own = λ at is_in. own_home at (puts.only at var is_in);
    first = inl loose;
    loose = λ other is. loose_before (tie.In part) ties (λ e. cc) other is;
    no_more = λ is.
        let no : tie.In part ≡ tie.Loose = same_Some (tie.In part) tie.Loose (sym (tie_here (tie.In part) ties) ∙ is) in cc;
  }
    where
      part : ℕ
      part = joined.part

      puts : Puts part var old.members new.members
      puts = (joined.joins).members

      ties : new.ties ≡ slice_set old.ties answer (tie.In part)
      ties = (joined.joins).ties

      not_before : (at : ℕ) → Contains (list_at old.members at) var → ⊥
      not_before at has = no_member s old members at answer var says (Some tie.Loose) loose (λ e. cc) has

      member_in : (at v : ℕ) → Contains (list_at old.members at) v ⊎ ((at ≡ part) × (var ≡ v)) → IsMember s new.ties at v
      member_in at v (inl has) =
          let m = members.each at v has in
          record {
            answer = m.answer;
            says = m.says;
            is_tied = tie_kept (tie.In part) ties m.answer (λ e.
                not_before at (subst (λ (w : ℕ). Contains (list_at old.members at) w)
                (one_var s answer v var (subst (λ (a : ℕ). IsAnswerVar s a v) e m.says) says) has))
                ∙ m.is_tied;
          }
      member_in at v (inr here) = record {
        answer = answer;
        says = subst (λ (w : ℕ). IsAnswerVar s answer w) here.1 says;
        is_tied = tie_here (tie.In part) ties ∙ ap (λ (p : ℕ). Some (tie.In p)) (sym here.0);
      }

      all_in : (at a v : ℕ) → slice_get new.ties a ≡ Some (tie.In at) → IsAnswerVar s a v → (a ≡ answer) ⊎ (a ≡ answer → ⊥)
          → Contains (list_at new.members at) v
      all_in at a v is says_a (inl e) =
          let same : tie.In part ≡ tie.In at =
          same_Some (tie.In part) (tie.In at) (sym (tie_here (tie.In part) ties) ∙ ap (slice_get new.ties) (sym e) ∙ is) in
          let same_part : part ≡ at = cc in
          let same_var = one_var s answer var v says (subst (λ (x : ℕ). IsAnswerVar s x v) e says_a) in
          subst (λ (p : ℕ). Contains (list_at new.members p) v) same_part
          (subst (λ (w : ℕ). Contains (list_at new.members part) w) same_var puts.has)
      all_in at a v is says_a (inr d) =
          puts.kept at v (members.all at a v (sym (tie_kept (tie.In part) ties a d) ∙ is) says_a)

      was_in : (at other : ℕ) → (other ≡ var → ⊥) → Contains (list_at old.members at) other ⊎ ((at ≡ part) × (var ≡ other))
          → Contains (list_at old.members at) other
      was_in at other differ (inl has) = has
      was_in at other differ (inr here) = absurd (differ (sym here.1))

      own_home : (at : ℕ) → Contains (list_at old.members at) var ⊎ ((at ≡ part) × (var ≡ var)) → home ≡ Some at
      own_home at (inl has) = absurd (not_before at has)
      own_home at (inr here) = joined.is_home ∙ ap (λ (p : ℕ). Some p) (sym here.0)

-- ---- an answer that stays where it lies

pub moved_not : (s : Subject) (old new : Parting) → AreMembers s old → (answer var : ℕ) → IsAnswerVar s answer var
    → (home : Option ℕ) (o : Option Tie) → slice_get old.ties answer ≡ o → (o ≡ Some tie.Loose → ⊥)
    → ((part : ℕ) → o ≡ Some (tie.In part) → home ≡ Some part) → new ≡ old → IsMoved s answer var home old new
moved_not s old new members answer var says home o is not_loose at_home same =
    subst (λ (x : Parting). IsMoved s answer var home old x) (sym same) (record {
      same = record { parts = refl; known = refl };
      members = members;
      others = λ part other differ. (λ has. has, λ has. has);
      own = λ part has.
          let m = members.each part var has in
          at_home part (sym is ∙ ap (slice_get old.ties) (one_answer s answer m.answer var says m.says) ∙ m.is_tied);
      first = inr (λ part has. has);
      loose = λ other loose. loose;
      no_more = λ loose. not_loose (sym is ∙ loose);
    })
