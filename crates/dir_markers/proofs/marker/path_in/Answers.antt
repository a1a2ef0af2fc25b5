use Rattle.path_keys.proofs.Ends.{no_end}
use Rattle.s3_types.specs.Names.{trimmed}
use Rattle.std.proofs.Common.{None, ap, arith, ◌∙◌}
use Rattle.std.proofs.lemmas.Str.Pattern.{strip_suffix_char}
use Rattle.dir_markers.proofs.marker.path_in.Goals as goal

pub returns-in-None-clause-path : goal.returns-in-None-clause-path
returns-in-None-clause-path c =
    no_end c.as_str-text.result.now (strip_suffix_char 47 c.as_str-text.result.now None c.in-None.ensures.cases (omega arith))
    ∙ ap trimmed (c.as_str-text.ensures ∙ c.as_text.ensures.text)
