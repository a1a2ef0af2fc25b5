use Rattle.bucket_ops.proofs.Walks.{fits_decides}
use Rattle.std.proofs.Common.{sym, ◌∙◌}
use Rattle.marker_tool.proofs.tool.MarkerTool.on_walk.Goals as goal

pub hear-requires : goal.hear-requires
hear-requires g c = (fits_decides c.args.reply.now).0 (sym c.fits.ensures ∙ c.if-not-fits.false)
