use Rattle.std.proofs.Common.{◌∙◌}
use Rattle.twin_script.proofs.Pair.{fit_by}
use Rattle.twin_script.proofs.reading.fit.Goals as goal

pub returns : goal.returns
returns c =
    record {
      exact =
          c.told.ensures.exact
          ∙ fit_by c.args.first.now c.args.second.now _ _ _ _ _ _ c.first.view_is c.second.view_is c.eq-same_job.ensures
          c.is_same_dest-same_dest.ensures c.replaces-replaces.ensures c.names_fate-loses.ensures;
      told = c.told.ensures.told;
    }
