use Rattle.std.proofs.Common.{rules, None}
use Rattle.list_walk.proofs.Lasts.{last_ref_is}
use Rattle.list_walk.proofs.upload_walk.last_upload.Goals as goal

pub returns-in_ok-clone-in-Some : goal.returns-in_ok-clone-in-Some
returns-in_ok-clone-in-Some c = rw (last_ref_is None c.args.uploads.now c.in-Some.upload.now c.in-Some.ensures.value) (search rules)
