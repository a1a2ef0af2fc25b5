use Rattle.store_frame.proofs.Flat.{page_rises, page_begins, page_covers, page_all}
use Rattle.store_frame.proofs.pages.Goals as goal

pub returns : goal.returns
returns c = record { cover = record { rises = page_rises; begin = page_begins; cover = page_covers; all = page_all } }
