use Rattle.magic_paths.proofs.Elements.{attempt_key_elements, dest_elements}
use Rattle.magic_paths.proofs.Lengths.{attempt_key_short}
use Rattle.magic_paths.specs.Layout.{attempt_key}
use Rattle.path_keys.proofs.Keys.{key_from}
use Rattle.path_keys.specs.Paths.{is_key}
use Rattle.std.proofs.Common.{ap, arith, sym, ◌∙◌}
use Rattle.magic_paths.proofs.layout.attempt_dir.Goals as goal

pub new-requires-2 : goal.new-requires-2
new-requires-2 c =
    let dest = c.args.dest.now.key in
    let id = c.args.job.now in
    let elements = attempt_key_elements dest id c.args.task c.args.attempt (dest_elements dest c.requires.some
    (ap is_key (sym c.key.ensures.text) ∙ c.key.ensures.key)) c.requires.id (omega arith) (omega arith) in
    ap is_key (c.in_ok-key.ensures ∙ c.in_ok-text.ensures ∙ (λ i. attempt_key ((c.as_str.ensures ∙ c.key.ensures.text) i)
    (c.as_str-2.ensures i) c.args.task c.args.attempt))
    ∙ key_from (attempt_key dest id c.args.task c.args.attempt) elements (attempt_key_short dest id c.args.task c.args.attempt
    c.requires.most c.requires.id c.ranges.task.fits c.ranges.attempt.fits)
