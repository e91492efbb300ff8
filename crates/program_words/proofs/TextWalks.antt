-- A walk over words in which no fault is seen leaves a text in each row.
use Rattle.std.proofs.Common.{ℕ, zero, suc, ◌<◌, ◌≡◌, Bool, true, false, cond, List, [], ◌∷◌, length, drop, Option, Some, None, arith, refl}
use Rattle.std.specs.Prelude.{◌&&◌, encode_utf8, fold, is_some, slice_get}
use Rattle.std.specs.List.{AllByRecursion}
use Rattle.std.specs.Option.{option_map_or}
use Rattle.std.specs.Str.{bytes_eq, chars}
use Rattle.clap.specs.Facts.{unwrap_or_range}
use Rattle.clap.specs.Faults.{bundle_step_fault, check_fault, flag_word_fault, flags_fault, level_fault, long_fault, option_fault, other_fault, positional_fault, react_fault, settle_fault, short_fault, step_fault, turn_fault, use_fault, walk_fault, word_fault}
use Rattle.clap.specs.Kinds.{Kinds, or_else, range_kinds}
use Rattle.clap.specs.Lexer.{long_of, short_of}
use Rattle.clap.specs.Simple.{Shape}
use Rattle.clap.specs.Walk.{Held, Names, Outcome, Row, Rule, Step, Text, Waiting, Walk, after_flag, after_step, arg_by_id, arg_by_index, arg_by_long, arg_by_short, attached_value, bundle_met, bundle_step, default_rows, done, finished, flag_met, has_row, idle, is_pending, long_met, long_or_other, most_values, next, option, option_met, option_word, plain, plain_word, positional, positional_held, reacted, reading_by, refused, settled, settled_rows, short_met, short_or_plain, subcommand, subcommand_met, subcommand_or_other, takes_several, takes_values, to_positional, trailing, used, used_by_id, value, values_or_missing, waits, walk, walk_from, walked, walked_from, with_default, with_values, without, word_met}
use Rattle.clap.specs.declared.error.kind.ErrorKind.TheVariants as kind
use Rattle.clap.specs.declared.parser.matches.ValueSource.TheVariants.{CommandLine, DefaultValue}
use Rattle.program_words.proofs.TextRows.{HaveTexts, found_holds, with_values_texts, without_texts}

pub first_free : (a b : Kinds) → or_else a b ≡ [] → a ≡ []
first_free [] b h = refl
first_free (k ∷ ks) b h = cc

pub second_free : (a b : Kinds) → or_else a b ≡ [] → b ≡ []
second_free [] b h = h
second_free (k ∷ ks) b h = cc

-- a use of the argument puts its values in its row, and there is one, or one that stands for none
pub record IsValued (a : Rule) : Type 0 where
  pub acts : (values : List Text) (rows : List Row)
      → used a values rows ≡ with_values a.id (reading_by a) CommandLine (values_or_missing a values) (without a.id rows)
  pub stands : range_kinds (unwrap_or_range a.range).start_inclusive (most_values a) 0 ≡ [] → 0 < length a.missing

abbrev pub AreValued : List Rule → Type 0
AreValued = AllByRecursion IsValued

some_values : (a : Rule) (values : List Text) → IsValued a
    → range_kinds (unwrap_or_range a.range).start_inclusive (most_values a) (length values) ≡ [] → 0 < length
    (values_or_missing a values)
some_values a [] v free = v.stands free
some_values a (x ∷ xs) v free = omega arith

used_texts : (again : Bool) (a : Rule) (values : List Text) (rows : List Row) → IsValued a → use_fault again a values rows ≡ []
    → HaveTexts rows → HaveTexts (used a values rows)
used_texts again a values rows v free h =
    rw (v.acts values rows) (with_values_texts a.id (reading_by a) CommandLine (values_or_missing a values) (without a.id rows)
    (some_values a values v (first_free _ _ free)) (without_texts a.id rows h))

module _ (c : List Rule) (again : Bool) (valued : AreValued c) where
  settled_rows_texts : (pending : Option (Text × List Text)) (rows : List Row)
      → option_map_or (λ p. option_map_or (λ a. use_fault again a p.1 rows) (arg_by_id c p.0) []) pending [] ≡ []
      → HaveTexts rows → HaveTexts (settled_rows c pending rows)
  settled_rows_texts None rows free h = h
  settled_rows_texts (Some p) rows free h = by (arg_by_id c p.0) refl free
    where
      by : (o : Option Rule) → arg_by_id c p.0 ≡ o → option_map_or (λ a. use_fault again a p.1 rows) o [] ≡ []
          → HaveTexts (used_by_id o p.1 rows)
      by None e f = h
      by (Some a) e f = used_texts again a p.1 rows (found_holds IsValued _ c a valued e) f h

  pub settled_texts : (h : Held) → settle_fault c again h ≡ [] → HaveTexts h.rows → HaveTexts (settled c h).rows
  settled_texts h free t = settled_rows_texts h.pending h.rows free t

  reacted_texts : (a : Rule) (values : List Text) (h : Held) → IsValued a → react_fault c again a values h ≡ []
      → HaveTexts h.rows → HaveTexts (reacted c a values h).rows
  reacted_texts a values h v free t =
      used_texts again a values (settled c h).rows v (second_free _ _ free) (settled_texts h (first_free _ _ free) t)

  option_texts : (a : Rule) (v : Option Text) (h : Held) → IsValued a → option_fault c again a v h ≡ []
      → HaveTexts h.rows → HaveTexts (option_met c a v h).0.rows
  option_texts a (Some x) h v free t = reacted_texts a (x ∷ []) h v free t
  option_texts a None h v free t = settled_texts h free t

  flag_texts : (a : Rule) (v : Option Text) (h : Held) → IsValued a → (v ≡ None → react_fault c again a [] h ≡ [])
      → HaveTexts h.rows → HaveTexts (flag_met c a v h).0.rows
  flag_texts a (Some x) h v free t = t
  flag_texts a None h v free t = reacted_texts a [] h v (free refl) t

  long_texts : (o : Option Rule) (v : Option Text) (h : Held) → ((a : Rule) → o ≡ Some a → IsValued a)
      → long_fault c again o v h ≡ []
      → HaveTexts h.rows → HaveTexts (long_met c o v h).0.rows
  long_texts None v h found free t = t
  long_texts (Some a) v h found free t = by (takes_values a) v free
    where
      by : (b : Bool) (v : Option Text)
          → cond b (option_fault c again a v h) (cond (is_some v) (kind.TooManyValues ∷ []) (react_fault c again a [] h)) ≡ []
          → HaveTexts (cond b (option_met c a v h) (flag_met c a v h)).0.rows
      by true v f = option_texts a v h (found a refl) f t
      by false None f = reacted_texts a [] h (found a refl) f t
      by false (Some x) f = t

  short_texts : (o : Option Rule) (rest : Text) (h : Held) (go : Held → Held × Outcome) (fault : Held → Kinds)
      → ((a : Rule) → o ≡ Some a → IsValued a) → ((h : Held) → fault h ≡ [] → HaveTexts h.rows → HaveTexts (go h).0.rows)
      → short_fault c again o rest h fault ≡ [] → HaveTexts h.rows → HaveTexts (short_met c o rest h go).0.rows
  short_texts None rest h go fault found more free t = t
  short_texts (Some a) rest h go fault found more free t = by (takes_values a) free
    where
      by : (b : Bool)
          → cond b (option_fault c again a (attached_value rest) h)
          (or_else (react_fault c again a [] h) (fault (reacted c a [] h))) ≡ []
          → HaveTexts (cond b (option_met c a (attached_value rest) h) (go (reacted c a [] h))).0.rows
      by true f = option_texts a (attached_value rest) h (found a refl) f t
      by false f = more (reacted c a [] h) (second_free _ _ f) (reacted_texts a [] h (found a refl) (first_free _ _ f) t)

  bundle_step_texts : (o : Option ℕ) (flags : Text) (skip : ℕ) (so_far : Outcome) (h : Held)
      (go : Text → ℕ → Outcome → Held → Held × Outcome)
      (fault : Text → ℕ → Held → Kinds)
      → ((flags : Text) (skip : ℕ) (so_far : Outcome) (h : Held) → fault flags skip h ≡ [] → HaveTexts h.rows
      → HaveTexts (go flags skip so_far h).0.rows)
      → bundle_step_fault c again o flags skip h fault ≡ [] → HaveTexts h.rows
      → HaveTexts (bundle_step c o flags skip so_far h go).0.rows
  bundle_step_texts None flags skip so_far h go fault more free t = t
  bundle_step_texts (Some x) flags zero so_far h go fault more free t =
      let rest = drop (length (encode_utf8 x)) flags in
      short_texts (arg_by_short c x) rest h (go rest 0 done) (fault rest 0)
      (λ a e. found_holds IsValued _ c a valued e) (more rest 0 done) free t
  bundle_step_texts (Some x) flags (suc skip) so_far h go fault more free t =
      more (drop (length (encode_utf8 x)) flags) skip so_far h free t

  bundle_texts : (k : ℕ) (flags : Text) (skip : ℕ) (so_far : Outcome) (h : Held) → flags_fault c again k flags skip h ≡ []
      → HaveTexts h.rows → HaveTexts (bundle_met c k flags skip so_far h).0.rows
  unfolding bundle_met flags_fault
  bundle_texts zero flags skip so_far h free t = t
  bundle_texts (suc k) flags skip so_far h free t =
      bundle_step_texts (slice_get (chars flags) 0) flags skip so_far h (bundle_met c k) (flags_fault c again k)
      (bundle_texts k) free t

  option_word_texts : (o : Option Rule) (id word : Text) (h : Held) → HaveTexts h.rows
      → HaveTexts (option_word o id word h).0.rows
  option_word_texts None id word h t = t
  option_word_texts (Some a) id word h t = t

  plain_word_texts : (waiting : Waiting) (word : Text) (h : Held) → HaveTexts h.rows
      → HaveTexts (plain_word c waiting word h).0.rows
  plain_word_texts idle word h t = t
  plain_word_texts positional word h t = t
  plain_word_texts (option id) word h t = option_word_texts (arg_by_id c id) id word h t

  after_flag_texts : (waiting : Waiting) (word : Text) (h : Held) (o : Outcome) → HaveTexts h.rows
      → HaveTexts (after_flag c waiting word h o).0.rows
  after_flag_texts waiting word h done t = t
  after_flag_texts waiting word h (waits id) t = t
  after_flag_texts waiting word h plain t = plain_word_texts waiting word h t
  after_flag_texts waiting word h refused t = plain_word_texts waiting word h t

  short_word_texts : (waiting : Waiting) (word : Text) (o : Option Text) (h : Held)
      → option_map_or (λ flags. flags_fault c again (length flags) flags h.skip (record h { skip = 0 })) o [] ≡ []
      → HaveTexts h.rows → HaveTexts (short_or_plain c waiting word o h).0.rows
  short_word_texts waiting word None h free t = plain_word_texts waiting word h t
  short_word_texts waiting word (Some flags) h free t =
      let met = bundle_met c (length flags) flags h.skip plain (record h { skip = 0 }) in
      after_flag_texts waiting word met.0 met.1 (bundle_texts (length flags) flags h.skip plain (record h { skip = 0 }) free t)

  flag_word_texts : (waiting : Waiting) (word : Text) (o : Option (Text × Option Text)) (h : Held)
      → flag_word_fault c again o word h ≡ []
      → HaveTexts h.rows → HaveTexts (long_or_other c waiting word o h).0.rows
  flag_word_texts waiting word None h free t = short_word_texts waiting word (short_of word) h free t
  flag_word_texts waiting word (Some p) h free t =
      let met = long_met c (arg_by_long c p.0) p.1 h in
      after_flag_texts waiting word met.0 met.1
      (long_texts (arg_by_long c p.0) p.1 h (λ a e. found_holds IsValued _ c a valued e) free t)

  positional_texts : (a : Rule) (word : Text) (h : Held) → positional_fault c again a h ≡ [] → HaveTexts h.rows
      → HaveTexts (positional_held c a word h).rows
  positional_texts a word h free t = by (is_pending a h.pending && takes_several a) free
    where
      by : (b : Bool) → cond b [] (settle_fault c again h) ≡ [] → HaveTexts (cond b h (settled c h)).rows
      by true f = t
      by false f = settled_texts h f t

  to_positional_texts : (o : Option Rule) (word : Text) (w : Walk) (h : Held) (stray : Kinds)
      → option_map_or (λ a. positional_fault c again a h) o stray ≡ [] → HaveTexts h.rows
      → HaveTexts (to_positional c o word w h).held.rows
  to_positional_texts None word w h stray free t = t
  to_positional_texts (Some a) word w h stray free t = positional_texts a word h free t

-- a default is one text or more
defaulted_texts : (rows : List Row) (a : Rule) → HaveTexts rows → HaveTexts (with_default rows a)
defaulted_texts rows a h = by (has_row a.id rows) a.defaults
  where
    by : (b : Bool) (values : List Text) → HaveTexts (cond b rows (default_rows a.id (reading_by a) values rows))
    by true values = h
    by false [] = h
    by false (v ∷ vs) = with_values_texts a.id (reading_by a) DefaultValue (v ∷ vs) rows (omega arith) h

defaults_texts : (c : List Rule) (rows : List Row) → HaveTexts rows → HaveTexts (fold with_default rows c)
defaults_texts [] rows h = h
defaults_texts (a ∷ rest) rows h = defaults_texts rest (with_default rows a) (defaulted_texts rows a h)

module _ (s : Shape) (names : Names) (valued : AreValued s.rules) where
  other_texts : (o : Option Text) (waiting : Waiting) (position : ℕ) (word : Text) (h : Held) → other_fault s o word h ≡ []
      → HaveTexts h.rows → HaveTexts (subcommand_or_other s.rules o waiting position word h).0.rows
  other_texts (Some name) waiting position word h free t = t
  other_texts None waiting position word h free t = by (bytes_eq word (45 ∷ 45 ∷ [])) free
    where
      by : (b : Bool) → cond b [] (flag_word_fault s.rules s.args_override_self (long_of word) word h) ≡ []
          → HaveTexts (cond b (h, trailing position) (long_or_other s.rules waiting word (long_of word) h)).0.rows
      by true f = t
      by false f = flag_word_texts s.rules s.args_override_self valued waiting word (long_of word) h f t

  met_texts : (is_trailing : Bool) (waiting : Waiting) (position : ℕ) (word : Text) (h : Held)
      → cond is_trailing [] (other_fault s (subcommand_met names waiting word) word h) ≡ []
      → HaveTexts h.rows → HaveTexts (word_met s.rules names is_trailing waiting position word h).0.rows
  met_texts true waiting position word h free t = t
  met_texts false waiting position word h free t = other_texts (subcommand_met names waiting word) waiting position word h free t

  step_texts : (word : Text) (w : Walk) (h : Held) (step : Step) → step_fault s w.position h step ≡ [] → HaveTexts h.rows
      → HaveTexts (after_step s.rules word w h step).held.rows
  step_texts word w h (next waiting) free t = t
  step_texts word w h (trailing position) free t = t
  step_texts word w h (subcommand name) free t = t
  step_texts word w h value free t =
      to_positional_texts s.rules s.args_override_self valued (arg_by_index s.rules w.position) word w h _ free t

  walked_texts : (w : Walk) (word : Text) → turn_fault s names w word ≡ [] → HaveTexts w.held.rows
      → HaveTexts (walked s.rules names w word).held.rows
  unfolding walked
  walked_texts w word free t = by w.stopped free
    where
      by : (o : Option (Text × List Text))
          → cond (is_some o) [] (or_else (word_fault s names w.is_trailing w.waiting word w.held)
          (step_fault s w.position (word_met s.rules names w.is_trailing w.waiting w.position word w.held).0
          (word_met s.rules names w.is_trailing w.waiting w.position word w.held).1)) ≡ []
          → HaveTexts (walked_from s.rules names o w word).held.rows
      by (Some p) f = t
      by None f =
          let met = word_met s.rules names w.is_trailing w.waiting w.position word w.held in
          step_texts word w met.0 met.1 (second_free _ _ f) (met_texts w.is_trailing w.waiting w.position word w.held
          (first_free _ _ f) t)

  walk_texts : (w : Walk) (words : List Text) → walk_fault s names w words ≡ [] → HaveTexts w.held.rows
      → HaveTexts (fold (walked s.rules names) w words).held.rows
  unfolding walk_fault
  walk_texts w [] free t = t
  walk_texts w (word ∷ rest) free t =
      walk_texts (walked s.rules names w word) rest (second_free _ _ free) (walked_texts w word (first_free _ _ free) t)

  -- at the end of a level with no fault each row has a text, and the last checks pass
  pub level_texts : (h : Held) (words : List Text) (has_subcommand : Bool) (below : Kinds) → level_fault s names h
      words has_subcommand below ≡ []
      → HaveTexts h.rows
      → HaveTexts (finished s.rules (walk s.rules names h words).held)
      × (check_fault s (finished s.rules (walk s.rules names h words).held) has_subcommand ≡ [])
      × (below ≡ [])
  level_texts h words has_subcommand below free t =
      let after = second_free (walk_fault s names (walk_from h) words) _ free in
      let late = second_free below _ after in
      let last = second_free _ _ late in
      let held = (walk s.rules names h words).held in
      let texts = walk_texts (walk_from h) words (first_free _ _ free) t in (
        defaults_texts s.rules (settled s.rules held).rows (settled_texts s.rules s.args_override_self valued held
            (first_free _ _ late) texts),
        second_free _ _ last,
        first_free below _ after,
      )
