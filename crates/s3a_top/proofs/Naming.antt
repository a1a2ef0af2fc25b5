-- The command that words name, if they ask for a trace and if they do not.
use Rattle.std.specs.Prelude.{Bool, List, None, Option, Some, [], bytes_eq, codes, drop, false, length, option_and_then, slice_get}
use Rattle.std.specs.Prelude.{true, ℕ, ◌∷◌, ◌≡◌, ◌≤◌, if◌then◌else◌}
use Rattle.std.specs.List.{list_all}
use Rattle.std.proofs.Common.{arith, refl, subst, sym}
use Rattle.std.proofs.lemmas.Slice.Eq.{bytes_eq-Decides}
use Rattle.path_keys.specs.Paths.{Path}
use Rattle.s3a_words.specs.declared.command.Command.{Command}
use Rattle.s3a_words.specs.Words.{alone, command_of, is_plain, path_named, said, with_operand, with_path, with_paths, with_three, with_two}
use Rattle.s3a_top.specs.Traces.{asks_trace, if_traceable, named_command, traced_command, traced_in}

-- ---- `trace` alone names no command

alone_none : alone (codes "trace") ≡ None
unfolding alone
alone_none = refl

path_none : (o : Option Path) → option_and_then (with_path (codes "trace")) o ≡ None
unfolding with_path
path_none None = refl
path_none (Some path) = refl

operand_none : (operand : List ℕ) → with_operand (codes "trace") operand ≡ None
unfolding with_operand
operand_none operand = path_none (path_named operand)

paths_none : (first second : Option Path) → option_and_then (λ from. option_and_then (with_paths (codes "trace") from) second) first ≡ None
unfolding with_paths
paths_none None second = refl
paths_none (Some from) None = refl
paths_none (Some from) (Some to) = refl

two_none : (first second : List ℕ) → with_two (codes "trace") first second ≡ None
unfolding with_two
two_none first second = paths_none (path_named first) (path_named second)

three_none : (first second third : List ℕ) → with_three (codes "trace") first second third ≡ None
unfolding with_three
three_none first second third = refl

unsaid : (words : List (List ℕ)) → said (codes "trace" ∷ words) ≡ None
unsaid [] = alone_none
unsaid (operand ∷ []) = operand_none operand
unsaid (first ∷ second ∷ []) = two_none first second
unsaid (first ∷ second ∷ third ∷ []) = three_none first second third
unsaid (first ∷ second ∷ third ∷ fourth ∷ words) = refl

none_either : (b : Bool) (said_so : Option Command) → said_so ≡ None → (if b then said_so else None) ≡ None
none_either true said_so e = e
none_either false said_so e = refl

trace_none : (folder : List ℕ) (words : List (List ℕ)) → command_of (folder ∷ codes "trace" ∷ words) ≡ None
unfolding command_of
trace_none folder words = none_either (list_all is_plain (codes "trace" ∷ words)) (said (codes "trace" ∷ words)) (unsaid words)

-- Words that ask for a trace are no command themselves.
pub trace_no_command : (words : List (List ℕ)) → asks_trace words ≡ true → command_of words ≡ None
trace_no_command [] e = absurd (cc)
trace_no_command (folder ∷ []) e = absurd (cc)
trace_no_command (folder ∷ word ∷ words) e =
    subst (λ (w : List ℕ). command_of (folder ∷ w ∷ words) ≡ None) (sym ((bytes_eq-Decides word (codes "trace")).0 e))
    (trace_none folder words)

-- ---- the words after `trace`

pub asked_some : (words : List (List ℕ)) → asks_trace words ≡ true → 1 ≤ length words
asked_some [] e = absurd (cc)
asked_some (folder ∷ words) e = omega arith

-- The words ask for a trace exactly if the second word, which exists, is `trace`.
pub asked_word : (words : List (List ℕ)) (word : List ℕ) → slice_get words 1 ≡ Some word → asks_trace words ≡ bytes_eq word (codes "trace")
asked_word [] word e = absurd (cc)
asked_word (folder ∷ []) word e = absurd (cc)
asked_word (folder ∷ second ∷ words) word e = let same : second ≡ word = cc in subst
    (λ (w : List ℕ). bytes_eq second (codes "trace") ≡ bytes_eq w (codes "trace")) same refl

pub asked_none : (words : List (List ℕ)) → slice_get words 1 ≡ None → asks_trace words ≡ false
asked_none [] e = refl
asked_none (folder ∷ []) e = refl
asked_none (folder ∷ second ∷ words) e = absurd (cc)

-- The command after `trace` is the one that the words without the folder name.
pub behind_trace : (words : List (List ℕ)) → option_and_then if_traceable (command_of (drop 1 words)) ≡ traced_in words
unfolding command_of
behind_trace [] = refl
behind_trace (folder ∷ words) = refl

-- ---- what words name

-- The words ask for a trace: the traced command is the one after `trace`.
pub traced_so : (words : List (List ℕ)) → asks_trace words ≡ true → traced_command words ≡ traced_in words
unfolding traced_command
traced_so words e = rw e refl

pub named_trace : (words : List (List ℕ)) → asks_trace words ≡ true → named_command words ≡ traced_in words
unfolding named_command
named_trace words e = rw e refl

-- The words ask for no trace: there is no traced command.
pub untraced : (words : List (List ℕ)) → asks_trace words ≡ false → traced_command words ≡ None
unfolding traced_command
untraced words e = rw e refl

pub named_said : (words : List (List ℕ)) → asks_trace words ≡ false → named_command words ≡ command_of words
unfolding named_command
named_said words e = rw e refl
