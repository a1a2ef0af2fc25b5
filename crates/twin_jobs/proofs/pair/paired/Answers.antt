use Rattle.std.proofs.Common.{refl}
use Rattle.twin_jobs.proofs.Starting.{paired_so}
use Rattle.twin_jobs.proofs.pair.paired.Goals as goal

pub returns : goal.returns
returns g c = paired_so _ _ _ _ _ _ _ c.minimum-minimum.ensures.minimum c.as_slice-names.ensures.value refl refl c.in-Ok.ensures
    c.in-Ok-fresh_side.ensures
