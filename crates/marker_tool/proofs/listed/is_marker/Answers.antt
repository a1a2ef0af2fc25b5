use Rattle.fs_tree.proofs.Above.{marker_ends}
use Rattle.fs_tree.proofs.Begins.{marker_is}
use Rattle.fs_tree.specs.Tree.{is_marker}
use Rattle.std.proofs.Common.{None, Some, ap, arith, false, refl, sym, true, ◌∙◌, ◌≡◌}
use Rattle.std.proofs.lemmas.Str.Pattern.{strip_suffix_char}
use Rattle.marker_tool.proofs.listed.is_marker.Goals as goal

pub returns-in-Some : goal.returns-in-Some
returns-in-Some c =
    sym (ap is_marker (strip_suffix_char 47 c.args.key.now (Some c.in-Some.field-0) c.in-Some.ensures.cases (omega arith)) ∙ marker_is
    c.in-Some.field-0.now)

pub returns-in-None : goal.returns-in-None
returns-in-None c = (elim (is_marker c.args.key.now) as (λ b. is_marker c.args.key.now ≡ b → false ≡ is_marker c.args.key.now) [
  | true ↦ λ e. let w = marker_ends c.args.key.now e in absurd (strip_suffix_char 47 c.args.key.now None c.in-None.ensures.cases
      (omega arith) w.0 w.1)
  | false ↦ λ e. sym e
]) refl
