-- What one more relation, rule or copy function makes of the limits of a specification that is within them all.
use Rattle.std.proofs.Common.{◌≡◌, ◌<◌, ◌≤◌, ◌+◌, ◌∙◌, ◌++◌, ◌∷◌, [], ℕ, Bool, true, false, ltb, List, length, Option, Some, None, refl, ap, arith}
use Rattle.std.specs.Prelude.{if◌then◌else◌, ◌||◌}
use Rattle.std.specs.List.{list_any}
use Rattle.std.proofs.Common.{length-append}
use Rattle.std.proofs.lemmas.Bool.{lt-ltb, le-ltb, ltb-false}
use Rattle.std.proofs.lemmas.List.Folds.{list_any-append}
use Rattle.std.proofs.lemmas.List.Sums.{sum_by_push}
use Rattle.copy_functions.specs.Copies.{CopyFunction}
use Rattle.denial_rules.specs.declared.rule.Rule.{Rule}
use Rattle.spec_model.specs.Spec.{Spec}
use Rattle.spec_model.specs.declared.relation.Relation.{Relation}
use Rattle.spec_limits.specs.Limits.{exceeded, is_crowded, is_long, rows_together}

-- the least of six limits that is exceeded
abbrev pub least : Bool → Bool → Bool → Bool → Bool → Bool → Option ℕ
least a b c d e f =
    if a then Some 4
    else (if b then Some 5
    else (if c then Some 6
    else (if d then Some 7
    else (if e then Some 8
    else (if f then Some 9
    else None)))))

-- none of six limits is exceeded
pub record NoneOf (a b c d e f : Bool) : Type 0 where
  pub relations : a ≡ false
  pub attrs : b ≡ false
  pub rows : c ≡ false
  pub of_one : d ≡ false
  pub rules : e ≡ false
  pub copies : f ≡ false

pub none_of : (a b c d e f : Bool) → least a b c d e f ≡ None → NoneOf a b c d e f
none_of true b c d e f is = cc
none_of false true c d e f is = cc
none_of false false true d e f is = cc
none_of false false false true e f is = cc
none_of false false false false true f is = cc
none_of false false false false false true is = cc
none_of false false false false false false is =
    record { relations = refl; attrs = refl; rows = refl; of_one = refl; rules = refl; copies = refl }

or_right : (a b : Bool) → a ≡ false → (a || b) ≡ b
or_right true b is = cc
or_right false b is = refl

or_none : (a b : Bool) → (a || b) ≡ false → (a ≡ false) × (b ≡ false)
or_none true b is = cc
or_none false b is = (refl, is)

or_false : (b : Bool) → (b || false) ≡ b
or_false true = refl
or_false false = refl

same_or : (a b a' b' : Bool) → a ≡ a' → b ≡ b' → (a || b) ≡ (a' || b')
same_or a b a' b' p q = cc

-- a test of one more item, where none of the others passes it
any_push : {A : Type 0} (p : A → Bool) (xs : List A) (x : A) → list_any p xs ≡ false → list_any p (xs ++ x ∷ []) ≡ p x
any_push p xs x none = list_any-append p xs (x ∷ []) ∙ or_right (list_any p xs) (p x || false) none ∙ or_false (p x)

pub same_least : (a b c d e f a' b' c' d' e' f' : Bool) → a ≡ a' → b ≡ b' → c ≡ c' → d ≡ d' → e ≡ e' → f ≡ f'
    → least a b c d e f ≡ least a' b' c' d' e' f'
same_least a b c d e f a' b' c' d' e' f' p q r s t u = cc

-- with one more relation
relation_more : (s : Spec) (r : Relation) → exceeded s ≡ None
    → exceeded (record s { relations = s.relations ++ r ∷ [] })
    ≡ least (ltb 64 (length s.relations + 1)) (ltb 32 (length r.attrs))
    (ltb 100000 (rows_together s.relations + length r.rows)) (is_crowded r.rows) false false
unfolding exceeded
relation_more s r within =
    let f = none_of _ _ _ _ _ _ within in
    same_least _ _ _ _ _ _ _ _ _ _ _ _
    (ap (ltb 64) (length-append s.relations (r ∷ [])))
    (any_push (λ (q : Relation). ltb 32 (length q.attrs)) s.relations r f.attrs)
    (ap (ltb 100000) (sum_by_push (λ (q : Relation). length q.rows) s.relations r))
    (any_push (λ (q : Relation). is_crowded q.rows) s.relations r f.of_one)
    f.rules f.copies

-- with one more rule
rule_more : (s : Spec) (rule : Rule) → exceeded s ≡ None
    → exceeded (record s { rules = s.rules ++ rule ∷ [] }) ≡ least false false false false
    (ltb 256 (length s.rules + 1) || is_long rule) false
unfolding exceeded
rule_more s rule within =
    let f = none_of _ _ _ _ _ _ within in
    let rules = or_none _ _ f.rules in
    same_least _ _ _ _ _ _ _ _ _ _ _ _ f.relations f.attrs f.rows f.of_one
    (same_or _ _ _ _ (ap (ltb 256) (length-append s.rules (rule ∷ []))) (any_push is_long s.rules rule rules.1)) f.copies

-- with one more copy function
copy_more : (s : Spec) (copy : CopyFunction) → exceeded s ≡ None
    → exceeded (record s { copies = s.copies ++ copy ∷ [] }) ≡ least false false false false false (ltb 64 (length s.copies + 1))
unfolding exceeded
copy_more s copy within =
    let f = none_of _ _ _ _ _ _ within in
    same_least _ _ _ _ _ _ _ _ _ _ _ _ f.relations f.attrs f.rows f.of_one f.rules
    (ap (ltb 64) (length-append s.copies (copy ∷ [])))

least_4 : (a b c d e f : Bool) → a ≡ true → least a b c d e f ≡ Some 4
least_4 a b c d e f p = rw p refl

least_5 : (a b c d e f : Bool) → a ≡ false → b ≡ true → least a b c d e f ≡ Some 5
least_5 a b c d e f p q = rw (p, q) refl

least_6 : (a b c d e f : Bool) → a ≡ false → b ≡ false → c ≡ true → least a b c d e f ≡ Some 6
least_6 a b c d e f p q r = rw (p, q, r) refl

least_7 : (a b c d e f : Bool) → a ≡ false → b ≡ false → c ≡ false → d ≡ true → least a b c d e f ≡ Some 7
least_7 a b c d e f p q r s = rw (p, q, r, s) refl

least_none : (a b c d e f : Bool) → a ≡ false → b ≡ false → c ≡ false → d ≡ false → e ≡ false → f ≡ false
    → least a b c d e f ≡ None
least_none a b c d e f p q r s t u = rw (p, q, r, s, t, u) refl

-- the limits that one more relation exceeds
pub too_many_relations : (s : Spec) (r : Relation) → exceeded s ≡ None → 64 ≤ length s.relations
    → exceeded (record s { relations = s.relations ++ r ∷ [] }) ≡ Some 4
too_many_relations s r within many = relation_more s r within ∙ least_4 _ _ _ _ false false
    (lt-ltb 64 (length s.relations + 1) (omega arith))

pub too_many_attrs : (s : Spec) (r : Relation) → exceeded s ≡ None → length s.relations < 64 → 32 < length r.attrs
    → exceeded (record s { relations = s.relations ++ r ∷ [] }) ≡ Some 5
too_many_attrs s r within few many =
    relation_more s r within ∙ least_5 _ _ _ _ false false (le-ltb 64 (length s.relations + 1) (omega arith))
    (lt-ltb 32 (length r.attrs) many)

pub too_many_rows : (s : Spec) (r : Relation) → exceeded s ≡ None → length s.relations < 64 → length r.attrs ≤ 32
    → 100000 < rows_together s.relations + length r.rows
    → exceeded (record s { relations = s.relations ++ r ∷ [] }) ≡ Some 6
too_many_rows s r within few narrow many =
    relation_more s r within ∙ least_6 _ _ _ _ false false (le-ltb 64 (length s.relations + 1) (omega arith))
    (le-ltb 32 (length r.attrs) narrow)
    (lt-ltb 100000 (rows_together s.relations + length r.rows) many)

pub too_many_of_one : (s : Spec) (r : Relation) → exceeded s ≡ None → length s.relations < 64 → length r.attrs ≤ 32
    → rows_together s.relations + length r.rows ≤ 100000 → is_crowded r.rows ≡ true
    → exceeded (record s { relations = s.relations ++ r ∷ [] }) ≡ Some 7
too_many_of_one s r within few narrow short many =
    relation_more s r within ∙ least_7 _ _ _ _ false false (le-ltb 64 (length s.relations + 1) (omega arith))
    (le-ltb 32 (length r.attrs) narrow)
    (le-ltb 100000 (rows_together s.relations + length r.rows) short) many

pub relation_within : (s : Spec) (r : Relation) → exceeded s ≡ None → length s.relations < 64 → length r.attrs ≤ 32
    → rows_together s.relations + length r.rows ≤ 100000 → is_crowded r.rows ≡ false
    → exceeded (record s { relations = s.relations ++ r ∷ [] }) ≡ None
relation_within s r within few narrow short spread =
    relation_more s r within ∙ least_none _ _ _ _ false false (le-ltb 64 (length s.relations + 1) (omega arith))
    (le-ltb 32 (length r.attrs) narrow)
    (le-ltb 100000 (rows_together s.relations + length r.rows) short) spread refl refl

-- the rows of a specification within all limits
pub few_rows : (s : Spec) → exceeded s ≡ None → rows_together s.relations ≤ 100000
unfolding exceeded
few_rows s within = ltb-false 100000 (rows_together s.relations) (none_of _ _ _ _ _ _ within).rows

-- the limit that one more rule exceeds
pub too_many_rules : (s : Spec) (rule : Rule) → exceeded s ≡ None → 256 ≤ length s.rules
    → exceeded (record s { rules = s.rules ++ rule ∷ [] }) ≡ Some 8
too_many_rules s rule within many =
    rule_more s rule within ∙ ap (λ b. least false false false false (b || is_long rule) false)
    (lt-ltb 256 (length s.rules + 1) (omega arith))

pub too_long_rule : (s : Spec) (rule : Rule) → exceeded s ≡ None → length s.rules < 256 → is_long rule ≡ true
    → exceeded (record s { rules = s.rules ++ rule ∷ [] }) ≡ Some 8
too_long_rule s rule within few long =
    rule_more s rule within ∙ ap (λ b. least false false false false (b || is_long rule) false)
    (le-ltb 256 (length s.rules + 1) (omega arith))
    ∙ ap (λ b. least false false false false b false) long

pub rule_within : (s : Spec) (rule : Rule) → exceeded s ≡ None → length s.rules < 256 → is_long rule ≡ false
    → exceeded (record s { rules = s.rules ++ rule ∷ [] }) ≡ None
rule_within s rule within few short =
    rule_more s rule within ∙ ap (λ b. least false false false false (b || is_long rule) false)
    (le-ltb 256 (length s.rules + 1) (omega arith))
    ∙ ap (λ b. least false false false false b false) short

-- the limit that one more copy function exceeds
pub too_many_copies : (s : Spec) (copy : CopyFunction) → exceeded s ≡ None → 64 ≤ length s.copies
    → exceeded (record s { copies = s.copies ++ copy ∷ [] }) ≡ Some 9
too_many_copies s copy within many =
    copy_more s copy within ∙ ap (least false false false false false) (lt-ltb 64 (length s.copies + 1) (omega arith))

pub copy_within : (s : Spec) (copy : CopyFunction) → exceeded s ≡ None → length s.copies < 64
    → exceeded (record s { copies = s.copies ++ copy ∷ [] }) ≡ None
copy_within s copy within few =
    copy_more s copy within ∙ ap (least false false false false false) (le-ltb 64 (length s.copies + 1) (omega arith))
