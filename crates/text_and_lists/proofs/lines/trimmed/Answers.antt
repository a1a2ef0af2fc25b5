use Rattle.text_and_lists.proofs.Cuts.{no_return, one_return}
use Rattle.std.proofs.Common.{None, Some, arith}
use Rattle.std.proofs.lemmas.Str.Pattern.{strip_suffix_char}
use Rattle.text_and_lists.proofs.lines.trimmed.Goals as goal

pub returns-in-Some : goal.returns-in-Some
returns-in-Some c = one_return c.args.line.now c.in-Some.front.now (strip_suffix_char 13 c.args.line.now (Some c.in-Some.front)
    c.in-Some.ensures.cases (omega arith))

pub returns-in-None : goal.returns-in-None
returns-in-None c = no_return c.args.line.now (strip_suffix_char 13 c.args.line.now None c.in-None.ensures.cases (omega arith))
