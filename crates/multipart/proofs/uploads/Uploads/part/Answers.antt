use Rattle.std.proofs.Common.{◌∙◌, sym}
use Rattle.multipart.proofs.Keyed.{keyed_part}
use Rattle.multipart.proofs.uploads.Uploads.part.Goals as goal

pub invariant_of-self : goal.invariant_of-self
invariant_of-self c =
    c.self.invariant ∙ sym (keyed_part c.put_part.result c.self.inside.lives c.put_part.new.self c.args.upload c.args.number
    c.new-part.result c.put_part.ensures.ok c.put_part.ensures.err)
