use Rattle.path_keys.proofs.Ends.{no_end}
use Rattle.std.proofs.Common.{None, arith}
use Rattle.std.proofs.lemmas.Str.Pattern.{strip_suffix_char}
use Rattle.path_keys.proofs.split.trimmed.Goals as goal

pub returns-in-None : goal.returns-in-None
returns-in-None c = no_end c.args.text.now (strip_suffix_char 47 c.args.text.now None c.in-None.ensures.cases (omega arith))
