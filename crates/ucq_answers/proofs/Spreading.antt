-- Values that follow from others by equalities.
use Rattle.std.proofs.Common.{◌≡◌, ◌+◌, ◌<◌, ℕ, List, [], ◌∷◌, length, map, get_or, set, drop, Option, None, Some, option_and_then, option_map, unwrap_or, slice_get, refl, sym, ap, subst, ◌∙◌}
use Rattle.std.specs.List.{All}
use Rattle.std.proofs.lemmas.List.{map-set}
use Rattle.std.proofs.lemmas.List.Elements.{All-head, All-tail}
use Rattle.std.proofs.lemmas.Option.{none-some, same_Some, slice_get-map, slice_get_read}
use Rattle.currency_base.specs.declared.ids.EntId.{EntId}
use Rattle.currency_base.specs.declared.value.Value.{Value}
use Rattle.query_model.specs.declared.query.Atom.{Atom}
use Rattle.query_model.specs.declared.query.Term.{Term}
use Rattle.query_model.specs.declared.query.TestTerm.{TestTerm}
use Rattle.query_model.specs.declared.query.TestTerm.TheVariants as test
use Rattle.query_plan.specs.Implied.{Equated}
use Rattle.ucq_answers.specs.Partly.{AreFitted, fit, given, join, joined_at, put_free, put_side, side_of, spread, tuples_of, value_at}
use Rattle.ucq_answers.proofs.Bindings.{read_drop}
use Rattle.ucq_answers.proofs.GoingOn.{CanBind, Extends, Fitted, all_fitted, all_on, bound_one, can_bind, can_fit, extends_on, extends_same, value_is}

pub value_on : (b c : List (Option Value)) (v : ℕ) (x : Value) → Extends b c → value_at b v ≡ Some x → value_at c v ≡ Some x
value_on b c v x on is = ap (λ o. unwrap_or o None) (on.kept v x (value_is b v x is))

pub side_on : (b c : List (Option Value)) (s : TestTerm) (x : Value) → Extends b c → side_of b s ≡ Some x → side_of c s ≡ Some x
side_on b c (test.Var v) x on is = value_on b c v x on is
side_on b c (test.Constant k) x on is = is

-- ---- values go on

free_extends : (b : List (Option Value)) (v : ℕ) (x : Value) → Extends b (put_free (slice_get b v) b v x)
free_extends b v x = by (slice_get b v) refl
  where
    by : (o : Option (Option Value)) → slice_get b v ≡ o → Extends b (put_free o b v x)
    by None at = extends_same b
    by (Some None) at = (bound_one b v x (set b v (Some x)) (ap (λ o. given o b v x) at)).extends
    by (Some (Some y)) at = extends_same b

side_extends : (o : Option Value) (b : List (Option Value)) (v : ℕ) → Extends b (put_side o b v)
side_extends None b v = extends_same b
side_extends (Some x) b v = free_extends b v x

pub spread_extends : (equalities : List Equated) (b : List (Option Value)) → Extends b (spread equalities b)
spread_extends [] b = extends_same b
spread_extends (e ∷ rest) b =
    let next = put_side (side_of b e.side) b e.var in
    extends_on b next (spread rest next) (side_extends (side_of b e.side) b e.var) (spread_extends rest next)

-- ---- to values of which the equalities hold

abbrev pub Agrees : List (Option Value) → Equated → Type 0
Agrees d e = (x : Value) → side_of d e.side ≡ Some x → slice_get d e.var ≡ Some (Some x)

free_on : (b d : List (Option Value)) (v : ℕ) (x : Value) → Extends b d → slice_get d v ≡ Some (Some x)
    → Extends (put_free (slice_get b v) b v x) d
free_on b d v x on has = by (slice_get b v) refl
  where
    by : (o : Option (Option Value)) → slice_get b v ≡ o → Extends (put_free o b v x) d
    by None at = on
    by (Some None) at =
        let can = can_bind b d v x on has in
        let same : can.next ≡ set b v (Some x) = same_Some can.next (set b v (Some x))
        (sym can.is ∙ ap (λ o. given o b v x) at) in
        subst (λ e. Extends e d) same can.extends
    by (Some (Some y)) at = on

side_go : (b d : List (Option Value)) (e : Equated) → Extends b d → Agrees d e → Extends (put_side (side_of b e.side) b e.var) d
side_go b d e on agrees = by (side_of b e.side) refl
  where
    by : (o : Option Value) → side_of b e.side ≡ o → Extends (put_side o b e.var) d
    by None at = on
    by (Some x) at = free_on b d e.var x on (agrees x (side_on b d e.side x on at))

pub spread_on : (equalities : List Equated) (b d : List (Option Value)) → Extends b d → All (Agrees d) equalities
    → Extends (spread equalities b) d
spread_on [] b d on all = on
spread_on (e ∷ rest) b d on all =
    spread_on rest (put_side (side_of b e.side) b e.var) d (side_go b d e on (All-head (Agrees d) e rest all))
    (All-tail (Agrees d) e rest all)

-- ---- a tuple, and what follows

pub mapped_some : {A B : Type 0} (f : A → B) (o : Option A) (c : B) → option_map f o ≡ Some c
    → (a : A) × (o ≡ Some a) × (f a ≡ c)
mapped_some f None c is = absurd (none-some c is)
mapped_some f (Some a) c is = (a, refl, same_Some (f a) c is)

pub all_joined : (equalities : List Equated) (b : List (Option Value)) (terms : List Term) (tuple : List Value)
    (c : List (Option Value)) → join equalities b terms tuple ≡ Some c → Fitted b c terms tuple
all_joined equalities b terms tuple c is =
    let parts = mapped_some (spread equalities) (fit b terms tuple) c is in
    let next = parts.0 in
    let own = all_fitted b terms tuple next parts.1 in
    let on : Extends next c = subst (Extends next) parts.2 (spread_extends equalities next) in
    record { extends = extends_on b next c own.extends on; fitted = all_on next c terms tuple on own.fitted }

pub joined_fit : (equalities : List Equated) (b : List (Option Value)) (terms : List Term) (tuple : List Value)
    (c : List (Option Value)) → join equalities b terms tuple ≡ Some c
    → (next : List (Option Value)) × (fit b terms tuple ≡ Some next) × Extends next c
joined_fit equalities b terms tuple c is =
    let parts = mapped_some (spread equalities) (fit b terms tuple) c is in
    (parts.0, parts.1, subst (Extends parts.0) parts.2 (spread_extends equalities parts.0))

pub can_join : (equalities : List Equated) (b d : List (Option Value)) (terms : List Term) (tuple : List Value)
    → Extends b d → AreFitted d terms tuple → All (Agrees d) equalities → CanBind (join equalities b terms tuple) d
can_join equalities b d terms tuple on are all =
    let own = can_fit b d terms tuple on are in
    record {
      next = spread equalities own.next;
      is = ap (option_map (spread equalities)) own.is;
      extends = spread_on equalities own.next d own.extends all;
    }

pub joined_of : (equalities : List Equated) (instance : List (List (List Value))) (atom : Atom) (b : List (Option Value))
    (ent : EntId) → option_map (spread equalities) (option_and_then (λ tuple. fit b atom.terms tuple)
    (slice_get (tuples_of instance atom) ent.0)) ≡ joined_at equalities instance atom b ent
joined_of equalities instance atom b ent = by (slice_get (tuples_of instance atom) ent.0)
  where
    by : (o : Option (List Value)) → option_map (spread equalities) (option_and_then (λ tuple. fit b atom.terms tuple) o)
        ≡ option_and_then (λ tuple. join equalities b atom.terms tuple) o
    by None = refl
    by (Some tuple) = refl

-- ---- in code: one equality after another, and a variable that has no value

pub spread_step : (equalities : List Equated) (i : ℕ) (e : Equated) (b next : List (Option Value))
    → i < length equalities → e ≡ get_or equalities i e → next ≡ put_side (side_of b e.side) b e.var
    → spread (drop (i + 1) equalities) next ≡ spread (drop i equalities) b
spread_step equalities i e b next below is after =
    ap (spread (drop (i + 1) equalities)) after ∙ ap (λ l. spread l b) (sym (read_drop equalities i e below is))

pub put_view : {B : Type 0} (now : B → Value) (xs : List (Option B)) (v : ℕ) (own : Option B) (x : B)
    → v < length xs → own ≡ get_or xs v own → own ≡ None
    → map (λ value. option_map now value) (set xs v (Some x)) ≡ put_free
    (slice_get (map (λ value. option_map now value) xs) v) (map (λ value. option_map now value) xs) v (now x)
put_view {B} now xs v own x below at free =
    let f : Option B → Option Value = λ value. option_map now value in
    let has : slice_get (map f xs) v ≡ Some None =
    slice_get-map f xs v ∙ ap (λ o. option_map f o) (slice_get_read xs (length xs) v own refl below at ∙ ap (λ o. Some o) free) in
    map-set f xs v (Some x) ∙ sym (ap (λ o. put_free o (map f xs) v (now x)) has)
