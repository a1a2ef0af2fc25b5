use Rattle.list_walk.proofs.Fitted.{page_tells}
use Rattle.list_walk.proofs.fitting.fits_page.Goals as goal

pub returns-in-Page : goal.returns-in-Page
returns-in-Page c = page_tells c.args.reply.now _ c.as_slice.result.now _ c.are_keys.result c.in-Page.is c.as_slice.ensures
    c.are_keys.ensures
