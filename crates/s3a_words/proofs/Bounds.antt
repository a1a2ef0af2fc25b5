-- The numbers that words name are within their bounds.
use Rattle.s3_types.specs.declared.limits.TheConstants.{MOST_MINIMUM}
use Rattle.s3a_words.specs.Numbers.{is_minimum, minimum_in, number_in, number_within}
use Rattle.s3a_words.specs.Words.{IsBounded, alone, command_of, made, said, with_operand, with_path, with_paths, with_three, with_two}
use Rattle.s3a_words.specs.declared.command.Command.{Command}
use Rattle.s3a_words.specs.declared.command.Command.TheVariants.{Gen, Init}
use Rattle.std.proofs.Common.{refl, subst}
use Rattle.std.proofs.lemmas.Bool.{and_parts, leb-true}
use Rattle.std.specs.Prelude.{Bool, List, None, Option, Some, cond, false, nat_le, option_and_then, option_map, true, ℕ, [], ◌&&◌, ◌∷◌, ◌≡◌}
use Rattle.std.specs.Prelude.{◌≤◌}

abbrev Of : Option Command → Type 0
Of None = Unit {0}
Of (Some c) = IsBounded c

-- Holds for the command, if there is one.
record AreBounded (o : Option Command) : Type 0 where
  so : Of o

none : AreBounded None
none = record { so = tt }

is : (c : Command) → IsBounded c → AreBounded (Some c)
is c h = record { so = h }

-- One of two commands.
either : (b : Bool) (o p : Option Command) → AreBounded o → AreBounded p → AreBounded (cond b o p)
either true o p h g = h
either false o p h g = g

and_then : {A : Type 0} (f : A → Option Command) (o : Option A) → ((a : A) → AreBounded (f a)) → AreBounded (option_and_then f o)
and_then f None h = none
and_then f (Some a) h = h a

-- It holds if no command among those names a number.
ruleset each = (either, and_then, is, none)

alone_bounded : (name : List ℕ) → AreBounded (alone name)
unfolding alone
alone_bounded name = search each depth 40

least : (n : ℕ) (b : Bool) → is_minimum n ≡ b → AreBounded (option_map (λ m. Init (Some m)) (cond b (Some n) None))
least n true e = let both = and_parts (nat_le 1 n) (nat_le n MOST_MINIMUM) e in is (Init (Some n))
    (leb-true 1 n both.0, leb-true n MOST_MINIMUM both.1)
least n false e = none

least_in : (o : Option ℕ) → AreBounded (option_map (λ m. Init (Some m)) (option_and_then (λ n. cond (is_minimum n) (Some n) None) o))
least_in None = none
least_in (Some n) = least n (is_minimum n) refl

minimum_bounded : (word : List ℕ) → AreBounded (option_map (λ m. Init (Some m)) (minimum_in word))
unfolding minimum_in
minimum_bounded word = least_in (number_in word)

operand_bounded : (name word : List ℕ) → AreBounded (with_operand name word)
unfolding with_operand with_path
operand_bounded name word = search (each, minimum_bounded) depth 40

two_bounded : (name first second : List ℕ) → AreBounded (with_two name first second)
unfolding with_two with_paths
two_bounded name first second = search each depth 40

-- Holds if the number, if there is one, is within these bounds.
abbrev Within : ℕ → ℕ → Option ℕ → Type 0
Within low high None = Unit {0}
Within low high (Some n) = (low ≤ n) × (n ≤ high)

tested : (low high n : ℕ) (b : Bool) → (nat_le low n && nat_le n high) ≡ b → Within low high (cond b (Some n) None)
tested low high n true e = let both = and_parts (nat_le low n) (nat_le n high) e in (leb-true low n both.0, leb-true n high both.1)
tested low high n false e = tt

tested_in : (low high : ℕ) (o : Option ℕ) → Within low high (option_and_then (λ n. cond (nat_le low n && nat_le n high) (Some n) None) o)
tested_in low high None = tt
tested_in low high (Some n) = tested low high n (nat_le low n && nat_le n high) refl

within : (low high : ℕ) (word : List ℕ) → Within low high (number_within low high word)
unfolding number_within
within low high word = tested_in low high (number_in word)

made_bounded : (s t f : Option ℕ) → Within 0 4294967295 s → Within 1 200 t → Within 1 50 f
    → AreBounded (option_and_then (λ seed. option_and_then (λ tasks. option_map (λ files. Gen seed tasks files) f) t) s)
made_bounded None t f is_s is_t is_f = none
made_bounded (Some seed) None f is_s is_t is_f = none
made_bounded (Some seed) (Some tasks) None is_s is_t is_f = none
made_bounded (Some seed) (Some tasks) (Some files) is_s is_t is_f = is (Gen seed tasks files) (is_s.1, is_t.0, is_t.1, is_f.0, is_f.1)

three_bounded : (name first second third : List ℕ) → AreBounded (with_three name first second third)
unfolding with_three made
three_bounded name first second third = either _ _ _ (made_bounded _ _ _ (within 0 4294967295 first) (within 1 200 second)
    (within 1 50 third)) none

said_bounded : (words : List (List ℕ)) → AreBounded (said words)
said_bounded [] = none
said_bounded (name ∷ []) = alone_bounded name
said_bounded (name ∷ operand ∷ []) = operand_bounded name operand
said_bounded (name ∷ first ∷ second ∷ []) = two_bounded name first second
said_bounded (name ∷ first ∷ second ∷ third ∷ []) = three_bounded name first second third
said_bounded (name ∷ first ∷ second ∷ third ∷ more ∷ others) = none

all_bounded : (words : List (List ℕ)) → AreBounded (command_of words)
unfolding command_of
all_bounded [] = none
all_bounded (folder ∷ words) = either _ _ _ (said_bounded words) none

pub bounded : (words : List (List ℕ)) (c : Command) → command_of words ≡ Some c → IsBounded c
bounded words c e = (subst AreBounded e (all_bounded words)).so
