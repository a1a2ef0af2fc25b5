use Rattle.bucket_ops.proofs.Sweeps.{sweep_fits_so}
use Rattle.std.proofs.Common.{sym, ◌∙◌}
use Rattle.fs_ops.proofs.delete.DeletePath.on_sweep.Goals as goal

pub hear-requires : goal.hear-requires
hear-requires c = sweep_fits_so c.args.sweep c.args.reply.now (sym c.fits.ensures ∙ c.if-not-fits.false)
