use Rattle.bucket_ops.proofs.Walks.{fits_so}
use Rattle.bucket_ops.proofs.fitting.fits.Goals as goal

pub returns : goal.returns
returns c = fits_so c.fits_page.result c.args.reply.now c.fits_page.ensures
