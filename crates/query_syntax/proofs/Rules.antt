-- Queries are read as they are spelled.
use Rattle.std.proofs.Common.{◌≡◌, ℕ, ℤ, Bool, true, false, not, ◌&&◌, cond, List, [], ◌∷◌, inl, inr, refl, sym, ap, subst, ◌∙◌, Option, Some, None, option_map, codes}
use Rattle.std.specs.Str.{bytes_eq}
use Rattle.text_tokens.specs.Lexeme.{Lexeme}
use Rattle.text_tokens.specs.declared.token.TokenKind.{TokenKind}
use Rattle.text_tokens.specs.declared.token.TokenKind.TheVariants.{Word, Negative, Text, Symbol, Fault}
use Rattle.currency_base.specs.Number.{int_of}
use Rattle.currency_base.specs.declared.value.Cmp.{Cmp}
use Rattle.currency_base.specs.declared.value.Cmp.TheVariants.{Eq}
use Rattle.text_grammar.specs.Words.{constant, int_value, is_symbol, is_variable, is_variable_token, is_word, named, same_kind, value_in, value_on_line, variable}
use Rattle.text_grammar.specs.Grammar.{CanGoOn, Language, ◌⋅◌, Says, IsWord, IsSymbol, SpellsName, Maybe, Listed}
use Rattle.text_grammar.specs.Reading.{after, both, listed, one}
use Rattle.text_grammar.specs.Laws.{IsReader}
use Rattle.text_grammar.specs.declared.named.Const.{Const}
use Rattle.text_grammar.specs.declared.named.Named.{Named}
use Rattle.text_grammar.proofs.Readers.{always, Begins, Continues, Ended, Image, begins_image, first_says, first_then, reads_as, reads_continued, reads_made, reads_mapped, reads_one, reads_same, reads_then, reads_two}
use Rattle.text_grammar.proofs.Choices.{Either, maybe_ends, reads_choose, reads_maybe}
use Rattle.text_grammar.proofs.ListReaders.{ends, reads_listed, reads_many_plain, reads_until}
use Rattle.text_grammar.proofs.FixedTokens.{FixedIs, a_fixed, a_fixed_is, apart, fixed_is, reads_constant, reads_name, reads_variable, after_word, after_symbol, before_symbol, listed_symbol, begins_fixed}
use Rattle.text_grammar.proofs.VariableTokens.{constant_is_no_variable, variable_is}
use Rattle.rule_syntax.specs.Grammar.{SpellsVariable, SpellsConst, cmp_named}
use Rattle.query_syntax.specs.declared.trees.AtomTree.{AtomTree}
use Rattle.query_syntax.specs.declared.trees.DisjunctTree.{DisjunctTree}
use Rattle.query_syntax.specs.declared.trees.PartTree.{PartTree}
use Rattle.query_syntax.specs.declared.trees.PartTree.TheVariants as part
use Rattle.query_syntax.specs.declared.trees.PlaceTree.{PlaceTree}
use Rattle.query_syntax.specs.declared.trees.PlaceTree.TheVariants as place
use Rattle.query_syntax.specs.declared.trees.QueryTree.{QueryTree}
use Rattle.query_syntax.specs.declared.trees.TestTermTree.{TestTermTree}
use Rattle.query_syntax.specs.declared.trees.TestTermTree.TheVariants as term
use Rattle.query_syntax.specs.declared.trees.TestTree.{TestTree}
use Rattle.query_syntax.specs.Grammar.{SpellsAtom, SpellsDisjunct, SpellsHead, SpellsPart, SpellsPlace, SpellsQuery, SpellsTest, SpellsTestTerm, any_line}
use Rattle.query_syntax.specs.Reading.{all_of, atom_after, atom_at, constant_place_at, disjunct_at, further_part_at, head_at, is_open, part_at, place_at, query_at, term_at, test_after, variable_place_at}
use Rattle.query_syntax.proofs.Parts.{PartHead, NameOrTerm, NameAlone, TermAlone, atom_part, head_name, head_of, head_term, no_int, part_after, part_head, part_is_headed, term_is_named, term_named, test_part}

-- ---- places

abbrev VariablePlace : PlaceTree → Language
VariablePlace = Image (λ (v : Named). place.Var v) SpellsVariable

abbrev AnyPlace : PlaceTree → Language
AnyPlace = Image (λ (line : ℕ). place.Any line) (Says any_line)

abbrev ConstantPlace : PlaceTree → Language
ConstantPlace = Image (λ (c : Const). place.Constant c) SpellsConst

reads_variable_place : IsReader VariablePlace always variable_place_at
unfolding variable_place_at
reads_variable_place = reads_mapped reads_variable (λ (v : Named). place.Var v) always (λ v t. refl)

reads_constant_place : IsReader ConstantPlace always constant_place_at
unfolding constant_place_at
reads_constant_place = reads_mapped reads_constant (λ (c : Const). place.Constant c) always (λ c t. refl)

reads_any_line : IsReader (Says any_line) always (one any_line)
reads_any_line = reads_one any_line (a_fixed Word (codes "_")) (a_fixed Word (codes "_")).line
    (ap (λ (b : Bool). cond b (Some (a_fixed Word (codes "_")).line) None) (a_fixed_is Word (codes "_")))

-- a token that says the line of a `_` is that word
says_any : (t : Lexeme) (line : ℕ) → any_line t ≡ Some line → is_word (codes "_") t ≡ true
says_any t line e = passes (is_word (codes "_") t) t.line line e
  where
    passes : (b : Bool) (n m : ℕ) → ◌≡◌ {A = Option ℕ} (cond b (Some n) None) (Some m) → b ≡ true
    passes true n m e = refl
    passes false n m e = absurd (cc)

-- which is no variable
any_is_no_variable : (t : Lexeme) → is_word (codes "_") t ≡ true → is_variable_token t ≡ false
any_is_no_variable t e =
    let f : FixedIs Word (codes "_") t = fixed_is Word (codes "_") t e in
    ap (λ (k : TokenKind). same_kind k Word && is_variable t.text) f.kind_is ∙ ap is_variable f.text_is

-- and no number
constant_by : (k : TokenKind) (text : List ℕ) (line : ℕ) (c : Const) → option_map (value_on_line line)
    (value_in k text) ≡ Some c → same_kind k Word && bytes_eq text (codes "_") ≡ false
unfolding int_of
constant_by Word text line c e = by (int_of text) refl e
  where
    by : (i : Option ℤ) → int_of text ≡ i → option_map (value_on_line line) (option_map int_value i) ≡ Some c
        → bytes_eq text (codes "_") ≡ false
    by None f g = absurd (cc)
    by (Some z) f g = no_int text (codes "_") z refl f
constant_by Negative text line c e = refl
constant_by Text text line c e = refl
constant_by Symbol text line c e = refl
constant_by Fault text line c e = refl

constant_not_any : (t : Lexeme) (c : Const) → constant t ≡ Some c → is_word (codes "_") t ≡ false
constant_not_any t c e = constant_by t.kind t.text t.line c e

begins_variable_place : Begins is_variable_token true VariablePlace
begins_variable_place = begins_image (λ (v : Named). place.Var v) SpellsVariable is_variable_token true
    (first_says is_variable_token true variable_is)

begins_any_place : (test : Lexeme → Bool) (b : Bool) → ((t : Lexeme) → is_word (codes "_") t ≡ true → test t ≡ b)
    → Begins test b AnyPlace
begins_any_place test b goes = begins_image (λ (line : ℕ). place.Any line) (Says any_line) test b
    (first_says test b (λ t line e. goes t (says_any t line e)))

begins_constant_place : (test : Lexeme → Bool) (b : Bool) → ((t : Lexeme) (c : Const) → constant t ≡ Some c
    → test t ≡ b) → Begins test b ConstantPlace
begins_constant_place test b goes = begins_image (λ (c : Const). place.Constant c) SpellsConst test b (first_says test b goes)

begins_other_place : Begins is_variable_token false (Either AnyPlace ConstantPlace)
begins_other_place p tokens (inl h) = begins_any_place is_variable_token false any_is_no_variable p tokens h
begins_other_place p tokens (inr h) = begins_constant_place is_variable_token false constant_is_no_variable p tokens h

place_spelled : (p : PlaceTree) (tokens : List Lexeme) → Either VariablePlace (Either AnyPlace ConstantPlace) p
    tokens → SpellsPlace p tokens
place_spelled p tokens (inl h) = subst (λ (p : PlaceTree). SpellsPlace p tokens) h.is h.spelled
place_spelled p tokens (inr (inl h)) = subst (λ (p : PlaceTree). SpellsPlace p tokens) h.is h.spelled
place_spelled p tokens (inr (inr h)) = subst (λ (p : PlaceTree). SpellsPlace p tokens) h.is h.spelled

spelled_place : (p : PlaceTree) (tokens : List Lexeme) → SpellsPlace p tokens → Either VariablePlace
    (Either AnyPlace ConstantPlace) p tokens
spelled_place (place.Var v) tokens h = inl (record { tree = v; is = refl; spelled = h })
spelled_place (place.Any line) tokens h = inr (inl (record { tree = line; is = refl; spelled = h }))
spelled_place (place.Constant c) tokens h = inr (inr (record { tree = c; is = refl; spelled = h }))

reads_place : IsReader SpellsPlace always place_at
unfolding place_at
reads_place = reads_same
    (reads_choose reads_variable_place
    (reads_choose (reads_mapped reads_any_line (λ (line : ℕ). place.Any line) always (λ line t. refl)) reads_constant_place
    (is_word (codes "_")) (begins_any_place (is_word (codes "_")) true (λ t e. e))
    (begins_constant_place (is_word (codes "_")) false constant_not_any))
    is_variable_token begins_variable_place begins_other_place)
    place_spelled spelled_place

-- ---- atoms

abbrev SpellsPlaces : List PlaceTree → Language
SpellsPlaces places = Listed (IsSymbol (codes ",")) SpellsPlace places ⋅ IsSymbol (codes ")")

abbrev atom_of : Named → List PlaceTree → AtomTree
atom_of n places = record { relation = n; places = places }

-- what follows the relation of an atom
abbrev AtomAfter : Named → AtomTree → Language
AtomAfter n = Image (atom_of n) (λ places. IsSymbol (codes "(") ⋅ SpellsPlaces places)

reads_atom_after : (n : Named) → IsReader (AtomAfter n) always (atom_after n)
unfolding atom_after
reads_atom_after n =
    reads_mapped
    (after_symbol (codes "(") (before_symbol (codes ")") (listed_symbol (codes ",") reads_place)
    (λ places t e. ap not (apart Symbol (codes ")") Symbol (codes ",") refl t e))))
    (atom_of n) always (λ places t. refl)

atom_spelled : (a : AtomTree) (tokens : List Lexeme) → Continues SpellsName AtomAfter a tokens → SpellsAtom a tokens
atom_spelled a tokens h = subst (λ (a : AtomTree). SpellsAtom a tokens) h.spelled.second.is
    (record {
      front = h.spelled.front;
      rest = h.spelled.rest;
      split = h.spelled.split;
      first = h.spelled.first;
      second = h.spelled.second.spelled;
    })

spelled_atom : (a : AtomTree) (tokens : List Lexeme) → SpellsAtom a tokens → Continues SpellsName AtomAfter a tokens
spelled_atom a tokens h = record {
  tree = a.relation;
  spelled = record {
    front = h.front;
    rest = h.rest;
    split = h.split;
    first = h.first;
    second =
        record { tree = a.places; is = refl; spelled = h.second };
  };
}

reads_atom : IsReader SpellsAtom always atom_at
unfolding atom_at
reads_atom = reads_same (reads_continued reads_name reads_atom_after) atom_spelled spelled_atom

-- ---- tests

variable_named : (is_var : Bool) (o : Option Named) (c : Option Const) (v : Named) → cond is_var
    (option_map (λ v. term.Var v) o) (option_map (λ c. term.Constant c) c) ≡ Some (term.Var v) → o ≡ Some v
variable_named true (Some u) c v e = cc
variable_named true None c v e = absurd (cc)
variable_named false o (Some c) v e = absurd (cc)
variable_named false o None v e = absurd (cc)

constant_named : (is_var : Bool) (o : Option Named) (c : Option Const) (d : Const) → cond is_var
    (option_map (λ v. term.Var v) o) (option_map (λ c. term.Constant c) c) ≡ Some (term.Constant d) → c ≡ Some d
constant_named true (Some u) c d e = absurd (cc)
constant_named true None c d e = absurd (cc)
constant_named false o (Some c) d e = cc
constant_named false o None d e = absurd (cc)

-- a term is spelled by what its token says
term_spelled : (x : TestTermTree) (tokens : List Lexeme) → Says term_named x tokens → SpellsTestTerm x tokens
term_spelled (term.Var v) tokens h =
    record {
      token = h.token;
      alone = h.alone;
      said = variable_named (is_variable_token h.token) (variable h.token)
          (constant h.token) v h.said;
    }
term_spelled (term.Constant c) tokens h =
    record {
      token = h.token;
      alone = h.alone;
      said = constant_named (is_variable_token h.token) (variable h.token)
          (constant h.token) c h.said;
    }

spelled_term : (x : TestTermTree) (tokens : List Lexeme) → SpellsTestTerm x tokens → Says term_named x tokens
spelled_term (term.Var v) tokens h = record {
  token = h.token;
  alone = h.alone;
  said = ap (λ (b : Bool). cond b (option_map (λ v. term.Var v) (variable h.token))
      (option_map (λ c. term.Constant c) (constant h.token))) (variable_is h.token v h.said)
      ∙ ap (λ (o : Option Named). option_map (λ v. term.Var v) o) h.said;
}
spelled_term (term.Constant c) tokens h = record {
  token = h.token;
  alone = h.alone;
  said = ap (λ (b : Bool). cond b (option_map (λ v. term.Var v) (variable h.token))
      (option_map (λ c. term.Constant c) (constant h.token))) (constant_is_no_variable h.token c h.said)
      ∙ ap (λ (o : Option Const). option_map (λ c. term.Constant c) o) h.said;
}

reads_term : IsReader SpellsTestTerm always term_at
reads_term =
    let some : CanGoOn SpellsVariable [] = reads_variable.some in
    let says : Says term_named (term.Var some.tree) some.more = spelled_term (term.Var some.tree) some.more some.spelled in
    reads_same (reads_as (reads_one term_named says.token (term.Var some.tree) says.said) term_is_named) term_spelled spelled_term

first_chosen : {A : Type 0} (b : Bool) (x y : A) → b ≡ true → cond b x y ≡ x
first_chosen true x y e = refl
first_chosen false x y e = absurd (cc)

reads_cmp : IsReader (Says cmp_named) always (one cmp_named)
reads_cmp = reads_one cmp_named (a_fixed Symbol (codes "=")) Eq
    (first_chosen (is_symbol (codes "=") (a_fixed Symbol (codes "="))) (Some Eq) _ (a_fixed_is Symbol (codes "=")))

abbrev test_of : TestTermTree → Cmp × TestTermTree → TestTree
test_of left x = record { left = left; cmp = x.0; right = x.1 }

-- what follows the first term of a test
abbrev TestAfter : TestTermTree → TestTree → Language
TestAfter left = Image (test_of left) (λ x. Says cmp_named x.0 ⋅ SpellsTestTerm x.1)

reads_test_after : (left : TestTermTree) → IsReader (TestAfter left) always (test_after left)
unfolding test_after
reads_test_after left = reads_mapped (reads_two reads_cmp reads_term) (test_of left) always (λ x t. refl)

-- ---- parts

abbrev AtomPart : Named → PartTree → Language
AtomPart n = Image (λ (a : AtomTree). part.Atom a) (AtomAfter n)

abbrev TestPart : TestTermTree → PartTree → Language
TestPart x = Image (λ (t : TestTree). part.Test t) (TestAfter x)

-- what follows the first token of a part
abbrev PartAfter : PartHead → PartTree → Language
PartAfter (NameOrTerm n x) = Either (AtomPart n) (TestPart x)
PartAfter (NameAlone n) = AtomPart n
PartAfter (TermAlone x) = TestPart x

reads_atom_part : (n : Named) → IsReader (AtomPart n) always (atom_part n)
reads_atom_part n = reads_mapped (reads_atom_after n) (λ (a : AtomTree). part.Atom a) always (λ a t. refl)

reads_test_part : (x : TestTermTree) → IsReader (TestPart x) always (test_part x)
reads_test_part x = reads_mapped (reads_test_after x) (λ (t : TestTree). part.Test t) always (λ t u. refl)

begins_atom_part : (n : Named) → Begins is_open true (AtomPart n)
begins_atom_part n p tokens h = begins_fixed SpellsPlaces Symbol (codes "(") is_open true (λ t e. e) h.spelled.tree
    tokens h.spelled.spelled

none_chosen : (a b c d e f : Bool) (x y z u v w : Cmp) → a ≡ false → b ≡ false → c ≡ false → d ≡ false → e ≡ false → f ≡ false
    → cond a (Some x) (cond b (Some y) (cond c (Some z) (cond d (Some u) (cond e (Some v) (cond f (Some w) None))))) ≡ None
none_chosen a b c d e f x y z u v w h i j k l m = rw (h, i, j, k, l, m) refl

-- no comparison is a parenthesis
cmp_not_open : (t : Lexeme) (c : Cmp) → cmp_named t ≡ Some c → is_open t ≡ false
cmp_not_open t c e = by (is_open t) refl
  where
    by : (b : Bool) → is_open t ≡ b → b ≡ false
    by false f = refl
    by true f = absurd (
        let none : cmp_named t ≡ None = none_chosen (is_symbol (codes "=") t) (is_symbol (codes "!=") t)
        (is_symbol (codes "<") t) (is_symbol (codes "<=") t) (is_symbol (codes ">") t) (is_symbol (codes ">=") t)
        _ _ _ _ _ _
        (apart Symbol (codes "(") Symbol (codes "=") refl t f) (apart Symbol (codes "(") Symbol (codes "!=") refl t f)
        (apart Symbol (codes "(") Symbol (codes "<") refl t f) (apart Symbol (codes "(") Symbol (codes "<=") refl t f)
        (apart Symbol (codes "(") Symbol (codes ">") refl t f) (apart Symbol (codes "(") Symbol (codes ">=") refl t f) in
        let both : None ≡ Some c = sym none ∙ e in cc)

begins_test_part : (x : TestTermTree) → Begins is_open false (TestPart x)
begins_test_part x p tokens h = first_then is_open false (first_says is_open false cmp_not_open h.spelled.tree.0)
    h.spelled.spelled

reads_part_after : (h : PartHead) → IsReader (PartAfter h) always (part_after h)
reads_part_after (NameOrTerm n x) = reads_choose (reads_atom_part n) (reads_test_part x) is_open (begins_atom_part n)
    (begins_test_part x)
reads_part_after (NameAlone n) = reads_atom_part n
reads_part_after (TermAlone x) = reads_test_part x

reads_head_by : (t : Lexeme) (n : Named) (o : Option TestTermTree) → named t ≡ Some n → term_named t ≡ o
    → IsReader (Says part_head) always (one part_head)
reads_head_by t n (Some x) e f = reads_one part_head t (NameOrTerm n x)
    (ap (λ (p : Option Named). head_of p (term_named t)) e ∙ ap (head_of (Some n)) f)
reads_head_by t n None e f = reads_one part_head t (NameAlone n) (ap (λ (p : Option Named). head_of p (term_named t))
    e ∙ ap (head_of (Some n)) f)

reads_head : IsReader (Says part_head) always (one part_head)
reads_head =
    let some : CanGoOn SpellsName [] = reads_name.some in
    reads_head_by some.spelled.token some.tree (term_named some.spelled.token) some.spelled.said refl

atom_from : (n : Named) (p : PartTree) (tokens : List Lexeme) → (SpellsName n ⋅ AtomPart n p) tokens → SpellsPart p tokens
atom_from n p tokens h = subst (λ (p : PartTree). SpellsPart p tokens) h.second.is (atom_spelled h.second.tree tokens (record {
  tree = n;
  spelled = record { front = h.front; rest = h.rest; split = h.split; first = h.first; second = h.second.spelled };
}))

test_spelled : (x : TestTermTree) (t : TestTree) (tokens : List Lexeme) → (SpellsTestTerm x ⋅ TestAfter x t) tokens
    → SpellsTest t tokens
test_spelled x t tokens h = subst (λ (t : TestTree). SpellsTest t tokens) h.second.is
    (record { front = h.front; rest = h.rest; split = h.split; first = h.first; second = h.second.spelled })

test_from : (x : TestTermTree) (p : PartTree) (tokens : List Lexeme) → (Says term_named x ⋅ TestPart x p) tokens
    → SpellsPart p tokens
test_from x p tokens h = subst (λ (p : PartTree). SpellsPart p tokens) h.second.is (test_spelled x h.second.tree tokens
    (record {
      front = h.front;
      rest = h.rest;
      split = h.split;
      first = term_spelled x h.front h.first;
      second =
          h.second.spelled;
    }))

-- the first token of a part, as a name and as a term
as_name : (h : PartHead) (n : Named) (tokens : List Lexeme) (s : Says part_head h tokens) → (named s.token ≡ Some n)
    → SpellsName n tokens
as_name h n tokens s e = record { token = s.token; alone = s.alone; said = e }

as_term : (h : PartHead) (x : TestTermTree) (tokens : List Lexeme) (s : Says part_head h tokens) →
    (term_named s.token ≡ Some x) → Says term_named x tokens
as_term h x tokens s e = record { token = s.token; alone = s.alone; said = e }

from_head : (head : PartHead) (p : PartTree) (tokens : List Lexeme) → (Says part_head head ⋅ PartAfter head p) tokens
    → SpellsPart p tokens
from_head (NameOrTerm n x) p tokens h = elim h.second [
  | inl a ↦ atom_from n p tokens (record {
    front = h.front;
    rest = h.rest;
    split = h.split;
    first = as_name (NameOrTerm n x) n h.front h.first (head_name h.first.token (NameOrTerm n x) h.first.said);
    second = a;
  })
  | inr t ↦ test_from x p tokens (record {
    front = h.front;
    rest = h.rest;
    split = h.split;
    first = as_term (NameOrTerm n x) x h.front h.first (head_term h.first.token (NameOrTerm n x) h.first.said);
    second = t;
  })
]
from_head (NameAlone n) p tokens h = atom_from n p tokens (record {
  front = h.front;
  rest = h.rest;
  split = h.split;
  first = as_name (NameAlone n) n h.front h.first (head_name h.first.token (NameAlone n) h.first.said);
  second = h.second;
})
from_head (TermAlone x) p tokens h = test_from x p tokens (record {
  front = h.front;
  rest = h.rest;
  split = h.split;
  first = as_term (TermAlone x) x h.front h.first (head_term h.first.token (TermAlone x) h.first.said);
  second = h.second;
})

part_spelled : (p : PartTree) (tokens : List Lexeme) → Continues (Says part_head) PartAfter p tokens → SpellsPart p tokens
part_spelled p tokens h = from_head h.tree p tokens h.spelled

head_from_name : (n : Named) (p : PartTree) (tokens : List Lexeme) (h : (SpellsName n ⋅ AtomPart n p) tokens)
    (o : Option TestTermTree) → term_named h.first.token ≡ o
    → Continues (Says part_head) PartAfter p tokens
head_from_name n p tokens h (Some x) e = record {
  tree = NameOrTerm n x;
  spelled = record {
    front = h.front;
    rest = h.rest;
    split = h.split;
    first = record {
      token = h.first.token;
      alone = h.first.alone;
      said =
          ap (λ (q : Option Named). head_of q (term_named h.first.token)) h.first.said ∙ ap (head_of (Some n)) e;
    };
    second = inl h.second;
  };
}
head_from_name n p tokens h None e = record {
  tree = NameAlone n;
  spelled = record {
    front = h.front;
    rest = h.rest;
    split = h.split;
    first = record {
      token = h.first.token;
      alone = h.first.alone;
      said =
          ap (λ (q : Option Named). head_of q (term_named h.first.token)) h.first.said ∙ ap (head_of (Some n)) e;
    };
    second = h.second;
  };
}

head_from_term : (x : TestTermTree) (p : PartTree) (tokens : List Lexeme)
    (h : (Says term_named x ⋅ TestPart x p) tokens) (o : Option Named) → named h.first.token ≡ o
    → Continues (Says part_head) PartAfter p tokens
head_from_term x p tokens h (Some n) e = record {
  tree = NameOrTerm n x;
  spelled = record {
    front = h.front;
    rest = h.rest;
    split = h.split;
    first = record {
      token = h.first.token;
      alone = h.first.alone;
      said =
          ap (λ (q : Option Named). head_of q (term_named h.first.token)) e ∙ ap (head_of (Some n)) h.first.said;
    };
    second = inr h.second;
  };
}
head_from_term x p tokens h None e = record {
  tree = TermAlone x;
  spelled = record {
    front = h.front;
    rest = h.rest;
    split = h.split;
    first = record {
      token = h.first.token;
      alone = h.first.alone;
      said =
          ap (λ (q : Option Named). head_of q (term_named h.first.token)) e ∙ ap (head_of None) h.first.said;
    };
    second = h.second;
  };
}

spelled_part : (p : PartTree) (tokens : List Lexeme) → SpellsPart p tokens → Continues (Says part_head) PartAfter p tokens
spelled_part (part.Atom a) tokens h =
    let parts : (SpellsName a.relation ⋅ AtomPart a.relation (part.Atom a)) tokens = record {
      front = h.front;
      rest = h.rest;
      split = h.split;
      first = h.first;
      second = record { tree = a; is = refl; spelled = record { tree = a.places; is = refl; spelled = h.second } };
    } in
    head_from_name a.relation (part.Atom a) tokens parts (term_named parts.first.token) refl
spelled_part (part.Test t) tokens h =
    let parts : (Says term_named t.left ⋅ TestPart t.left (part.Test t)) tokens = record {
      front = h.front;
      rest = h.rest;
      split = h.split;
      first = spelled_term t.left h.front h.first;
      second = record { tree = t; is = refl; spelled = record { tree = (t.cmp, t.right); is = refl; spelled = h.second } };
    } in
    head_from_term t.left (part.Test t) tokens parts (named parts.first.token) refl

reads_part : IsReader SpellsPart always part_at
reads_part = reads_same (reads_as (reads_continued reads_head reads_part_after) part_is_headed) part_spelled spelled_part

-- ---- conjunctions

-- what ends a conjunction: any token, but the word `and` goes on with a part
abbrev ends_disjunct : DisjunctTree → Lexeme → Bool
ends_disjunct d t = not (is_word (codes "and") t)

abbrev FurtherPart : PartTree → Language
FurtherPart p = IsWord (codes "and") ⋅ SpellsPart p

reads_further_part : IsReader FurtherPart always further_part_at
unfolding further_part_at
reads_further_part = after_word (codes "and") reads_part

begins_further_part : Begins (is_word (codes "and")) true FurtherPart
begins_further_part = begins_fixed SpellsPart Word (codes "and") (is_word (codes "and")) true (λ t e. e)

abbrev disjunct_of : AtomTree × List PartTree → DisjunctTree
disjunct_of x = record { first = x.0; parts = x.1 }

reads_disjunct : IsReader SpellsDisjunct ends_disjunct disjunct_at
unfolding disjunct_at
reads_disjunct = reads_made
    (reads_two reads_atom (reads_many_plain reads_further_part (is_word (codes "and")) begins_further_part))
    disjunct_of ends_disjunct (λ x t. refl) (λ x tokens h. h)
    (λ d tokens h. record { tree = (d.first, d.parts); is = refl; spelled = h })

-- ---- the variables of the answers

abbrev Vars : List Named → Language
Vars = Listed (IsSymbol (codes ",")) SpellsVariable

-- what ends them: any token, but a comma goes on where there are some, and a variable begins some
abbrev ends_head : List Named → Lexeme → Bool
ends_head [] t = not (is_variable_token t)
ends_head (v ∷ vs) t = not (is_symbol (codes ",") t)

same_end : (o : Option (List Named)) (tokens : List Lexeme) (t : Lexeme) → Maybe Vars o tokens → ends_head (all_of o)
    t ≡ maybe_ends (λ vs t. not (is_symbol (codes ",") t)) is_variable_token o t
same_end None tokens t h = refl
same_end (Some []) tokens t h = absurd h
same_end (Some (v ∷ vs)) tokens t h = refl

begins_vars : Begins is_variable_token true Vars
begins_vars [] tokens h = absurd h
begins_vars (v ∷ vs) tokens h = first_then is_variable_token true (first_says is_variable_token true variable_is v) h

head_spelled : (o : Option (List Named)) (tokens : List Lexeme) → Maybe Vars o tokens → SpellsHead (all_of o) tokens
head_spelled None tokens h = h
head_spelled (Some []) tokens h = absurd h
head_spelled (Some (v ∷ vs)) tokens h = h

spelled_head : (vs : List Named) (tokens : List Lexeme) → SpellsHead vs tokens → Image all_of (Maybe Vars) vs tokens
spelled_head [] tokens h = record { tree = None; is = refl; spelled = h }
spelled_head (v ∷ vs) tokens h = record { tree = Some (v ∷ vs); is = refl; spelled = h }

reads_vars : IsReader SpellsHead ends_head head_at
unfolding head_at
reads_vars = reads_made
    (reads_until {stop' = λ o. ends_head (all_of o)} (reads_maybe (listed_symbol (codes ",") reads_variable)
    is_variable_token begins_vars) same_end)
    all_of ends_head (λ o t. refl) head_spelled spelled_head

symbol_is_no_variable : (text : List ℕ) (t : Lexeme) → is_symbol text t ≡ true → is_variable_token t ≡ false
symbol_is_no_variable text t e = ap (λ (k : TokenKind). same_kind k Word && is_variable t.text) (fixed_is Symbol text t e).kind_is

head_ends : Ended ends_head (is_symbol (codes ")"))
head_ends [] t e = ap not (symbol_is_no_variable (codes ")") t e)
head_ends (v ∷ vs) t e = ap not (apart Symbol (codes ")") Symbol (codes ",") refl t e)

-- ---- queries

abbrev Disjuncts : List DisjunctTree → Language
Disjuncts = Listed (IsWord (codes "or")) SpellsDisjunct

-- what ends a query: any token, but the words `and` and `or` go on with it
abbrev pub ends_query : {A : Type 0} → A → Lexeme → Bool
ends_query a t = not (is_word (codes "and") t) && not (is_word (codes "or") t)

same_last : (d : DisjunctTree) (ds : List DisjunctTree) (t : Lexeme) → ends_query (d ∷ ds) t ≡ ends ends_disjunct
    (is_word (codes "or")) (d ∷ ds) t
same_last d [] t = refl
same_last d (e ∷ ds) t = same_last e ds t

same_query_end : (ds : List DisjunctTree) (tokens : List Lexeme) (t : Lexeme) → Disjuncts ds tokens
    → ends_query ds t ≡ ends ends_disjunct (is_word (codes "or")) ds t
same_query_end [] tokens t h = absurd h
same_query_end (d ∷ ds) tokens t h = same_last d ds t

reads_disjuncts : IsReader Disjuncts ends_query (listed (is_word (codes "or")) disjunct_at)
reads_disjuncts = reads_until
    (reads_listed reads_disjunct (is_word (codes "or")) (a_fixed Word (codes "or")) (a_fixed_is Word (codes "or"))
    (λ d t e. ap not (apart Word (codes "or") Word (codes "and") refl t e)))
    same_query_end

-- the parts of a query: the variables of its answers and its disjuncts
abbrev QueryParts : Type 0
QueryParts = List Named × List DisjunctTree

abbrev query_of : QueryParts → QueryTree
query_of x = record { head = x.0; disjuncts = x.1 }

abbrev Condition : List DisjunctTree → Language
Condition ds = IsWord (codes "where") ⋅ Disjuncts ds

abbrev Body : QueryParts → Language
Body x = SpellsHead x.0 ⋅ IsSymbol (codes ")") ⋅ Condition x.1

reads_body : IsReader Body ends_query
    (both head_at (after (is_symbol (codes ")")) (after (is_word (codes "where")) (listed (is_word (codes "or")) disjunct_at))))
reads_body = reads_then reads_vars (after_symbol (codes ")") (after_word (codes "where") reads_disjuncts)) (is_symbol (codes ")"))
    (begins_fixed Condition Symbol (codes ")") (is_symbol (codes ")")) true (λ t e. e)) head_ends

-- a query ends at any token but `and` and `or`
pub reads_query : IsReader SpellsQuery ends_query query_at
unfolding query_at
reads_query = reads_made (after_word (codes "answers") (after_symbol (codes "(") reads_body))
    query_of ends_query (λ x t. refl) (λ x tokens h. h)
    (λ q tokens h. record { tree = (q.head, q.disjuncts); is = refl; spelled = h })

both_hold : (a b : Bool) → a ≡ true → b ≡ true → a && b ≡ true
both_hold true b e f = f
both_hold false b e f = absurd (cc)

-- every symbol ends it
pub query_ends : {A : Type 0} (text : List ℕ) → Ended {A = A} ends_query (is_symbol text)
query_ends text a t e =
    let f : FixedIs Symbol text t = fixed_is Symbol text t e in
    both_hold (not (is_word (codes "and") t)) (not (is_word (codes "or") t))
    (ap (λ (k : TokenKind). not (same_kind k Word && bytes_eq t.text (codes "and"))) f.kind_is)
    (ap (λ (k : TokenKind). not (same_kind k Word && bytes_eq t.text (codes "or"))) f.kind_is)

-- a query begins with the word `answers`
pub begins_query : (test : Lexeme → Bool) (b : Bool) → ((t : Lexeme) → is_word (codes "answers") t ≡ true
    → test t ≡ b) → Begins test b SpellsQuery
begins_query test b goes = begins_fixed (λ (q : QueryTree). IsSymbol (codes "(") ⋅ Body (q.head, q.disjuncts)) Word
    (codes "answers") test b goes
