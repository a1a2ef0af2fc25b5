use Rattle.std.proofs.Common.{sym, ◌∙◌}
use Rattle.fs_rename.proofs.Inside.{inside_text}
use Rattle.fs_rename.proofs.names.inside_base.Goals as goal

pub new-requires-2 : goal.new-requires-2
new-requires-2 c =
    inside_text c.args.source.now.key c.args.target.now.key c.in_ok-text.text (sym c.is_root.ensures ∙ c.if-is_root.false)
    c.in_ok-inside_text.ensures.source c.in_ok-inside_text.ensures.target (c.in_ok-text.ensures ∙ c.in_ok-inside_text.ensures.text)
