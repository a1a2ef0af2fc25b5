-- How clap reads words that do not begin with `-`.
use Rattle.clap.proofs.OnLiterals.{clap_on_literals}
use Rattle.clap.proofs.WalkLemmas.{first_value-rows}
use Rattle.clap.specs.Faults.{fault_of, is_simple_and_free, step_fault, walk_fault}
use Rattle.clap.specs.Kinds.{Kinds, or_else}
use Rattle.clap.specs.Lexer.{long_of, short_of}
use Rattle.clap.specs.Simple.{Shape, built, entered, is_simple, matches_of}
use Rattle.clap.specs.Takes.{default_passes, entered_passes, is_valid, settle_passes, step_passes, takes, walk_passes}
use Rattle.clap.specs.Walk.{Held, Row, Text, Walk, arg_by_index, finished, first_of, idle, nothing_held, to_positional, value, walk, walked}
use Rattle.clap.specs.Words.{found_of, rows_of}
use Rattle.clap.specs.declared.error.kind.ErrorKind.{ErrorKind}
use Rattle.clap.specs.declared.parser.matches.ArgMatches.{ArgMatches}
use Rattle.s3a_words.specs.inner.Grammar.{Gives, given, grammar, listed}
use Rattle.s3a_words.specs.Words.{is_plain, said}
use Rattle.std.proofs.Common.{Bool, List, None, Option, ap, ap₂, arith, codes, false, fold, is_some, refl, subst, sym, true, ℕ, [], ◌&&◌}
use Rattle.std.proofs.Common.{◌==◌, ◌∙◌, ◌∷◌, ◌≡◌}
use Rattle.std.proofs.lemmas.Bool.{and_parts}
use Rattle.std.proofs.lemmas.Bool.Decides.{nat_tests}
use Rattle.std.specs.List.{list_all}
use Rattle.std.specs.Prelude.{Err, IfOk, IsErr, Ok, Result}
use Rattle.std.specs.Str.{bytes_eq}
use Rattle.clap.specs.declared.error.kind.ErrorKind.TheVariants as kind

-- Clap does not take the word for a flag.
record IsBare (word : Text) : Type 0 where
  long : long_of word ≡ None
  short : short_of word ≡ None
  dashes : bytes_eq word (45 ∷ 45 ∷ []) ≡ false

bare_word : (word : Text) → is_plain word ≡ true → IsBare word
bare_word [] h = record { long = refl; short = refl; dashes = refl }
bare_word (x ∷ xs) h = go (x == 45) refl
  where
    go : (b : Bool) → (x == 45) ≡ b → IsBare (x ∷ xs)
    go true e =
        let is : x ≡ 45 = grind (arith, nat_tests, e) in
        let no : false ≡ true = subst (λ (y : ℕ). is_plain (y ∷ xs) ≡ true) is h in
        cc
    go false e = record { long = rw e refl; short = rw e refl; dashes = rw e refl }

abbrev top : Shape
top = (built grammar).top

-- The walk at a place, with nothing waiting.
abbrev at : Held → ℕ → Walk
at h place = record { held = h; waiting = idle; position = place; is_trailing = false; stopped = None }

abbrev after : Text → Held → ℕ → Walk
after word h place = to_positional top.rules (arg_by_index top.rules place) word (at h place) h

walks : (word : Text) (h : Held) (place : ℕ) → IsBare word → walked top.rules [] (at h place) word ≡ after word h place
unfolding walked
walks word h place bare = rw (bare.dashes, bare.long, bare.short) refl

passes : (word : Text) (rest : List Text) (h : Held) (place : ℕ) → IsBare word
    → walk_passes top [] (at h place) (word ∷ rest) ≡ (step_passes top place h value && walk_passes top [] (after word h place) rest)
unfolding walk_passes
passes word rest h place bare = rw (bare.dashes, bare.long, bare.short, walks word h place bare) refl

fails : (word : Text) (rest : List Text) (h : Held) (place : ℕ) → IsBare word
    → walk_fault top [] (at h place) (word ∷ rest) ≡ or_else (step_fault top place h value) (walk_fault top [] (after word h place) rest)
unfolding walk_fault
fails word rest h place bare = rw (bare.dashes, bare.long, bare.short, walks word h place bare) refl

passes_none : (w : Walk) → walk_passes top [] w [] ≡ true
unfolding walk_passes
passes_none w = refl

abbrev first_held : Text → Held
first_held a = (after a nothing_held 1).held

abbrev second_held : Text → Text → Held
second_held a b = (after b (first_held a) 2).held

abbrev third_held : Text → Text → Text → Held
third_held a b c = (after c (second_held a b) 3).held

abbrev fourth_held : Text → Text → Text → Text → Held
fourth_held a b c d = (after d (third_held a b c) 4).held

-- True if clap takes the words after this walk.
takes_after : Walk → Bool → Bool
takes_after w passed = entered_passes (built grammar) w.stopped
    && (passed && (settle_passes top.rules top.args_override_self w.held
    && (list_all default_passes top.rules && is_valid top (finished top.rules w.held) (is_some (entered (built grammar) w.stopped)))))

takes_is : (words : List Text) → takes grammar words ≡ takes_after (walk top.rules [] nothing_held words)
    (walk_passes top [] (at nothing_held 1) words)
unfolding takes_after
takes_is words = refl

-- The words that rows give.
abbrev pub given_in : List Row → List Text
given_in rows =
    listed (first_of (codes "command") rows)
    (listed (first_of (codes "first") rows)
    (listed (first_of (codes "second") rows)
    (listed (first_of (codes "third") rows) [])))

-- The words that a walk's rows give.
given_after : Walk → List Text
given_after w = given_in (finished top.rules w.held)

given_is : (words : List Text) → given_in (matches_of grammar words) ≡ given_after (walk top.rules [] nothing_held words)
unfolding given_after
given_is words = refl

-- Clap takes the words, and its matches give them.
record IsRead (words : List Text) : Type 0 where
  taken : takes grammar words ≡ true
  given : given_in (matches_of grammar words) ≡ words

read_by : (words : List Text) (w : Walk) → walk top.rules [] nothing_held words ≡ w → walk_passes top [] (at nothing_held 1) words ≡ true
    → takes_after w true ≡ true → given_after w ≡ words → IsRead words
read_by words w walked passed taken given = record {
  taken = takes_is words ∙ ap₂ takes_after walked passed ∙ taken;
  given = given_is words ∙ ap given_after walked ∙ given;
}

module _ (a : Text) (is_a : IsBare a) where
  walks_one : (rest : List Text) → walk top.rules [] nothing_held (a ∷ rest) ≡ fold (walked top.rules []) (at (first_held a) 2) rest
  walks_one rest = ap (λ w. fold (walked top.rules []) w rest) (walks a nothing_held 1 is_a)

  passes_one : (rest : List Text) → walk_passes top [] (at nothing_held 1) (a ∷ rest) ≡ walk_passes top [] (at (first_held a) 2) rest
  passes_one rest = passes a rest nothing_held 1 is_a

  fails_one : (rest : List Text) → walk_fault top [] (at nothing_held 1) (a ∷ rest) ≡ walk_fault top [] (at (first_held a) 2) rest
  fails_one rest = fails a rest nothing_held 1 is_a

  read_one : IsRead (a ∷ [])
  unfolding takes_after given_after
  read_one = read_by (a ∷ []) (at (first_held a) 2) (walks_one []) (passes_one [] ∙ passes_none _) refl refl

module _ (a b : Text) (is_a : IsBare a) (is_b : IsBare b) where
  walks_two : (rest : List Text) → walk top.rules [] nothing_held (a ∷ b ∷ rest) ≡ fold (walked top.rules []) (at (second_held a b) 3) rest
  walks_two rest = walks_one a is_a (b ∷ rest) ∙ ap (λ w. fold (walked top.rules []) w rest) (walks b (first_held a) 2 is_b)

  passes_two : (rest : List Text) → walk_passes top [] (at nothing_held 1) (a ∷ b ∷ rest) ≡ walk_passes top [] (at (second_held a b) 3) rest
  passes_two rest = passes_one a is_a (b ∷ rest) ∙ passes b rest (first_held a) 2 is_b

  fails_two : (rest : List Text) → walk_fault top [] (at nothing_held 1) (a ∷ b ∷ rest) ≡ walk_fault top [] (at (second_held a b) 3) rest
  fails_two rest = fails_one a is_a (b ∷ rest) ∙ fails b rest (first_held a) 2 is_b

  read_two : IsRead (a ∷ b ∷ [])
  unfolding takes_after given_after
  read_two = read_by (a ∷ b ∷ []) (at (second_held a b) 3) (walks_two []) (passes_two [] ∙ passes_none _) refl refl

module _ (a b c : Text) (is_a : IsBare a) (is_b : IsBare b) (is_c : IsBare c) where
  walks_three : (rest : List Text) → walk top.rules [] nothing_held (a ∷ b ∷ c ∷ rest) ≡ fold (walked top.rules [])
      (at (third_held a b c) 4) rest
  walks_three rest = walks_two a b is_a is_b (c ∷ rest) ∙ ap (λ w. fold (walked top.rules []) w rest) (walks c (second_held a b) 3 is_c)

  passes_three : (rest : List Text) → walk_passes top [] (at nothing_held 1) (a ∷ b ∷ c ∷ rest) ≡ walk_passes top []
      (at (third_held a b c) 4) rest
  passes_three rest = passes_two a b is_a is_b (c ∷ rest) ∙ passes c rest (second_held a b) 3 is_c

  fails_three : (rest : List Text) → walk_fault top [] (at nothing_held 1) (a ∷ b ∷ c ∷ rest) ≡ walk_fault top [] (at (third_held a b c) 4)
      rest
  fails_three rest = fails_two a b is_a is_b (c ∷ rest) ∙ fails c rest (second_held a b) 3 is_c

  read_three : IsRead (a ∷ b ∷ c ∷ [])
  unfolding takes_after given_after
  read_three = read_by (a ∷ b ∷ c ∷ []) (at (third_held a b c) 4) (walks_three []) (passes_three [] ∙ passes_none _) refl refl

module _ (a b c d : Text) (is_a : IsBare a) (is_b : IsBare b) (is_c : IsBare c) (is_d : IsBare d) where
  walks_four : walk top.rules [] nothing_held (a ∷ b ∷ c ∷ d ∷ []) ≡ at (fourth_held a b c d) 5
  walks_four = walks_three a b c is_a is_b is_c (d ∷ []) ∙ walks d (third_held a b c) 4 is_d

  passes_four : walk_passes top [] (at nothing_held 1) (a ∷ b ∷ c ∷ d ∷ []) ≡ true
  passes_four = passes_three a b c is_a is_b is_c (d ∷ []) ∙ passes d [] (third_held a b c) 4 is_d ∙ passes_none _

  fails_four : (rest : List Text) → walk_fault top [] (at nothing_held 1) (a ∷ b ∷ c ∷ d ∷ rest) ≡ walk_fault top []
      (at (fourth_held a b c d) 5) rest
  fails_four rest = fails_three a b c is_a is_b is_c (d ∷ rest) ∙ fails d rest (third_held a b c) 4 is_d

  read_four : IsRead (a ∷ b ∷ c ∷ d ∷ [])
  unfolding takes_after given_after
  read_four = read_by (a ∷ b ∷ c ∷ d ∷ []) (at (fourth_held a b c d) 5) walks_four passes_four refl refl

  -- a fifth word is an argument that clap does not know
  fails_five : (e : Text) (rest : List Text) → IsBare e
      → walk_fault top [] (at nothing_held 1) (a ∷ b ∷ c ∷ d ∷ e ∷ rest) ≡ kind.UnknownArgument ∷ []
  fails_five e rest is_e = fails_four (e ∷ rest) ∙ fails e rest (fourth_held a b c d) 5 is_e

first_fails : (first next : Kinds) (x : ErrorKind) → first ≡ x ∷ [] → or_else first next ≡ [] → ⊥
first_fails first next x e h =
    let no : x ∷ [] ≡ [] = sym (ap (λ k. or_else k next) e) ∙ h in
    cc

-- Clap refuses no word, and more than four words.
none_fails : fault_of grammar [] ≡ [] → ⊥
unfolding clap_on_literals
none_fails h =
    let no : kind.MissingRequiredArgument ∷ [] ≡ [] = h in
    cc

five_fail : (a b c d e : Text) (rest : List Text) → IsBare a → IsBare b → IsBare c → IsBare d → IsBare e
    → fault_of grammar (a ∷ b ∷ c ∷ d ∷ e ∷ rest) ≡ [] → ⊥
five_fail a b c d e rest is_a is_b is_c is_d is_e h =
    first_fails (walk_fault top [] (at nothing_held 1) (a ∷ b ∷ c ∷ d ∷ e ∷ rest)) _ kind.UnknownArgument
    (fails_five a b c d is_a is_b is_c is_d e rest is_e) h

one_plain : (word : Text) (rest : List Text) → list_all is_plain (word ∷ rest) ≡ true → IsBare word × (list_all is_plain rest ≡ true)
one_plain word rest h = let both = and_parts (is_plain word) (list_all is_plain rest) h in (bare_word word both.0, both.1)

-- Words are either taken by clap, or refused and no command.
data Count : List Text → Type 0 where
  counted : (words : List Text) → IsRead words → Count words
  uncounted : (words : List Text) → (fault_of grammar words ≡ [] → ⊥) → said words ≡ None → Count words

count : (words : List Text) → list_all is_plain words ≡ true → Count words
count [] h = uncounted [] none_fails refl
count (a ∷ []) h =
    let at_a = one_plain a [] h in
    counted _ (read_one a at_a.0)
count (a ∷ b ∷ []) h =
    let at_a = one_plain a (b ∷ []) h in
    let at_b = one_plain b [] at_a.1 in
    counted _ (read_two a b at_a.0 at_b.0)
count (a ∷ b ∷ c ∷ []) h =
    let at_a = one_plain a (b ∷ c ∷ []) h in
    let at_b = one_plain b (c ∷ []) at_a.1 in
    let at_c = one_plain c [] at_b.1 in
    counted _ (read_three a b c at_a.0 at_b.0 at_c.0)
count (a ∷ b ∷ c ∷ d ∷ []) h =
    let at_a = one_plain a (b ∷ c ∷ d ∷ []) h in
    let at_b = one_plain b (c ∷ d ∷ []) at_a.1 in
    let at_c = one_plain c (d ∷ []) at_b.1 in
    let at_d = one_plain d [] at_c.1 in
    counted _ (read_four a b c d at_a.0 at_b.0 at_c.0 at_d.0)
count (a ∷ b ∷ c ∷ d ∷ e ∷ rest) h =
    let at_a = one_plain a (b ∷ c ∷ d ∷ e ∷ rest) h in
    let at_b = one_plain b (c ∷ d ∷ e ∷ rest) at_a.1 in
    let at_c = one_plain c (d ∷ e ∷ rest) at_b.1 in
    let at_d = one_plain d (e ∷ rest) at_c.1 in
    let at_e = one_plain e rest at_d.1 in
    uncounted _ (five_fail a b c d e rest at_a.0 at_b.0 at_c.0 at_d.0 at_e.0) refl

-- Words that clap does not take are no command.
pub refused : (words : List Text) → list_all is_plain words ≡ true → (takes grammar words ≡ true → ⊥) → said words ≡ None
refused words h not_taken = go (count words h) not_taken
  where
    go : {ws : List Text} → Count ws → (takes grammar ws ≡ true → ⊥) → said ws ≡ None
    go (counted ws is) other = absurd (other is.taken)
    go (uncounted ws faulty none) other = none

-- If clap gives no matches, and for words that it takes only because memory ran out, the words name no command.
pub without : {E : Type 0} (words : List Text) (r : Result (Option ArgMatches) E) → IfOk r (λ o. o ≡ None)
    → (takes grammar words ≡ true → IsErr r)
    → list_all is_plain words ≡ true → IfOk r (Gives words)
without words (Err e) none wanting h = tt
without words (Ok o) none wanting h = subst (Gives words) (sym none) (refused words h (λ taken.
    let no : false ≡ true = wanting taken in
    cc))

-- Words without a fault are those that the matches give.
pub read : (words : List Text) → list_all is_plain words ≡ true → fault_of grammar words ≡ [] → given_in (matches_of grammar words) ≡ words
read words h none = go (count words h) none
  where
    go : {ws : List Text} → Count ws → fault_of grammar ws ≡ [] → given_in (matches_of grammar ws) ≡ ws
    go (counted ws is) none = is.given
    go (uncounted ws faulty nothing) none = absurd (faulty none)

pub is_free : is_simple_and_free grammar ≡ true
is_free = refl

pub is_simply_built : is_simple grammar ≡ true
is_simply_built = refl

-- The words that matches give are those of their rows.
pub given_of : (m : ArgMatches) → given m ≡ given_in (rows_of (found_of m))
given_of m = λ i.
    listed (first_value-rows (found_of m) (codes "command") i)
    (listed (first_value-rows (found_of m) (codes "first") i)
    (listed (first_value-rows (found_of m) (codes "second") i)
    (listed (first_value-rows (found_of m) (codes "third") i) [])))
