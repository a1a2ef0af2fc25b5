-- The words after the folder as positional arguments: the name of a command, and up to three operands.
use Rattle.std.specs.Prelude.{◌≡◌, ◌∷◌, List, [], Option, Some, None, codes, true}
use Rattle.clap.specs.Words.{App, Rule, Text, first_value, found_of, new_app, new_rule, with_rule}
use Rattle.clap.specs.Simple.{on_top}
use Rattle.clap.specs.declared.parser.matches.ArgMatches.{ArgMatches}
use Rattle.s3a_words.specs.Words.{said}

-- The positional argument for the command's name, which must be given.
abbrev pub command_rule : Rule
command_rule = record (new_rule (codes "command")) { required = true }

-- The grammar of clap without flags and without `--help`.
abbrev pub bare : App
bare = on_top (λ s. record s { no_binary_name = true; disable_help_flag = true }) (new_app (codes "s3a"))

-- The grammar: the name of a command, and up to three operands.
abbrev pub grammar : App
grammar = with_rule (with_rule (with_rule (with_rule bare command_rule) (new_rule (codes "first"))) (new_rule (codes "second")))
    (new_rule (codes "third"))

-- The word, if there is one, followed by the other words.
abbrev pub listed : Option Text → List Text → List Text
listed (Some word) behind = word ∷ behind
listed None behind = []

-- The words that clap's matches give, in order.
abbrev pub given : ArgMatches → List Text
given m =
    listed (first_value (found_of m) (codes "command"))
    (listed (first_value (found_of m) (codes "first"))
    (listed (first_value (found_of m) (codes "second"))
    (listed (first_value (found_of m) (codes "third")) [])))

-- Holds if the matches give exactly the words, or if there are none and the words name no command.
abbrev pub Gives : List Text → Option ArgMatches → Type 0
Gives words (Some m) = given m ≡ words
Gives words None = said words ≡ None
