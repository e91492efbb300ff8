-- A clause that follows from clauses follows from the same ones with their literals in another order, with hints as lean.
use Rattle.std.specs.Prelude.{⊤}
use Rattle.std.proofs.Common.{◌≡◌, ◌<◌, ℕ, subst, List, [], ◌∷◌, ◌++◌, length, refl, ap, inl, inr, arith}
use Rattle.std.proofs.lemmas.List.Elements.{All-cons, All-head, All-nil, All-tail}
use Rattle.std.proofs.lemmas.Option.{slice_get-get_or}
use Rattle.currency_base.specs.Literals.{negation}
use Rattle.currency_base.specs.declared.lit.Lit.{Lit}
use Rattle.refutation_log.specs.Follows.{AreEarlier, AreFalse, Falsifies, Follows, FollowsFrom, IsOnlyOpen, clause_at, clauses_at}
use Rattle.lean_hints.specs.Lean.{AreLean, EachAdds, IsAdding}
use Rattle.watch_propagate.specs.WatchRule.{AreReordered, AreSameLits}
use Rattle.watch_propagate.proofs.SameFacts.{same_back}

-- place by place the same literals
abbrev AreSame : List (List Lit) → List (List Lit) → Type 0
AreSame [] [] = ⊤
AreSame [] (y ∷ ys) = ⊥
AreSame (x ∷ xs) [] = ⊥
AreSame (x ∷ xs) (y ∷ ys) = AreSameLits x y × AreSame xs ys

false_same : (falses x y : List Lit) → AreSameLits x y → AreFalse falses x → AreFalse falses y
false_same falses x y same are lit c = are lit (same.none_new lit c)

only_same : (falses x y : List Lit) (lit : Lit) → AreSameLits x y → IsOnlyOpen falses x lit → IsOnlyOpen falses y lit
only_same falses x y lit same only =
    record {
      is_in = same.none_lost lit only.is_in;
      is_open = only.is_open;
      others = λ other c d. only.others other
          (same.none_new other c) d;
    }

adding_same : (falses x y : List Lit) (lit : Lit) → AreSameLits x y → IsAdding falses x lit → IsAdding falses y lit
adding_same falses x y lit same adding = record { only_open = only_same falses x y lit same adding.only_open; fresh = adding.fresh }

-- the same clauses falsify the same literals
falsifies_same : (falses : List Lit) (xs ys : List (List Lit)) (all : List Lit) → AreSame xs ys → Falsifies falses xs
    all → Falsifies falses ys all
falsifies_same falses [] [] all same f = f
falsifies_same falses [] (y ∷ ys) all same f = absurd same
falsifies_same falses (x ∷ xs) [] all same f = absurd same
falsifies_same falses (x ∷ xs) (y ∷ ys) all same (inl f) =
    inl (false_same falses x y same.0 f.0, falsifies_same falses xs ys all same.1 f.1)
falsifies_same falses (x ∷ xs) (y ∷ ys) all same (inr f) =
    inr (f.0, only_same falses x y f.0 same.0 f.1, falsifies_same (falses ++ negation f.0 ∷ []) xs ys all same.1 f.2)

-- and of the same clauses each adds a literal
adds_same : (falses : List Lit) (xs ys : List (List Lit)) → AreSame xs ys → EachAdds falses xs → EachAdds falses ys
adds_same falses [] [] same adds = adds
adds_same falses [] (y ∷ ys) same adds = absurd same
adds_same falses (x ∷ xs) [] same adds = absurd same
adds_same falses (x ∷ xs) (y ∷ ys) same adds = (
  adds.0,
  adding_same falses x y adds.0 same.0 adds.1,
  adds_same (falses ++ negation adds.0 ∷ []) xs ys same.1 adds.2,
)

-- the last clause and those before it
record EndsSame (front : List (List Lit)) (last : List Lit) (ys : List (List Lit)) : Type 0 where
  pub before : List (List Lit)
  pub end : List Lit
  pub is : ys ≡ before ++ end ∷ []
  pub same_before : AreSame front before
  pub same_end : AreSameLits last end

ends_same : (front : List (List Lit)) (last : List Lit) (ys : List (List Lit)) → AreSame (front ++ last ∷ []) ys
    → EndsSame front last ys
ends_same [] last [] same = absurd same
ends_same [] last (y ∷ []) same = record { before = []; end = y; is = refl; same_before = tt; same_end = same.0 }
ends_same [] last (y ∷ z ∷ ys) same = absurd same.1
ends_same (x ∷ front) last [] same = absurd same
ends_same (x ∷ front) last (y ∷ ys) same =
    let r = ends_same front last ys same.1 in
    record {
      before = y ∷ r.before;
      end = r.end;
      is = ap (λ (zs : List (List Lit)). y ∷ zs) r.is;
      same_before = (same.0, r.same_before);
      same_end = r.same_end;
    }

follows_same : (clause : List Lit) (xs ys : List (List Lit)) → AreSame xs ys → Follows clause xs → Follows clause ys
follows_same clause xs ys same f =
    let there : AreSame (f.front ++ f.last ∷ []) ys = subst (λ (zs : List (List Lit)). AreSame zs ys) f.hints_are same in
    let r = ends_same f.front f.last ys there in
    record {
      front = r.before;
      last = r.end;
      hints_are = r.is;
      falses = f.falses;
      falsified = falsifies_same clause f.front r.before f.falses r.same_before f.falsified;
      conflict = false_same f.falses f.last r.end r.same_end f.conflict;
    }

-- the clauses of the same numbers
clauses_same : (old new : List (List Lit)) (hints : List ℕ) → AreReordered new old → AreEarlier old hints
    → AreSame (clauses_at old hints) (clauses_at new hints)
clauses_same old new [] re known = tt
clauses_same old new (hint ∷ hints) re known = (
  same_back (clause_at new hint) (clause_at old hint) (re.same hint (clause_at new hint) (clause_at old hint)
      (slice_get-get_or new hint [] within) (slice_get-get_or old hint [] here)),
  clauses_same old new hints re (All-tail (λ (h : ℕ). h < length old) hint hints known),
)
  where
    here : hint < length old
    here = All-head (λ (h : ℕ). h < length old) hint hints known

    within : hint < length new
    within = omega (arith, here, re.as_many)

-- a clause that follows from the clauses of an arena follows from those that it holds
pub follows_reordered : (old new : List (List Lit)) (clause : List Lit) (hints : List ℕ) → AreReordered new old
    → AreEarlier old hints
    → Follows clause (clauses_at old hints) → FollowsFrom new clause hints
follows_reordered old new clause hints re known follows =
    record {
      known = λ i d h. let k = known i d h in omega (arith, k, re.as_many);
      follows = follows_same clause (clauses_at old hints) (clauses_at new hints) (clauses_same old new hints re known) follows;
    }

-- the numbers before the last one are earlier
front_earlier : (old : List (List Lit)) (front : List ℕ) (last : ℕ) → AreEarlier old (front ++ last ∷ []) → AreEarlier old front
front_earlier old [] last known = All-nil (λ (h : ℕ). h < length old)
front_earlier old (hint ∷ front) last known =
    All-cons (λ (h : ℕ). h < length old) hint front
    (All-head (λ (h : ℕ). h < length old) hint (front ++ last ∷ []) known)
    (front_earlier old front last (All-tail (λ (h : ℕ). h < length old) hint (front ++ last ∷ []) known))

-- and hints that are lean there are lean here
pub lean_reordered : (old new : List (List Lit)) (clause : List Lit) (hints : List ℕ) → AreReordered new old
    → AreEarlier old hints
    → AreLean old clause hints → AreLean new clause hints
lean_reordered old new clause hints re known lean =
    record {
      once = lean.once;
      adds = λ front last is.
          adds_same clause (clauses_at old front) (clauses_at new front)
          (clauses_same old new front re (front_earlier old front last (subst (AreEarlier old) is known)))
          (lean.adds front last is);
    }
