use Rattle.std.proofs.Common.{◌∙◌}
use Rattle.twin_jobs.proofs.pair.fresh_side.Goals as goal

pub returns : goal.returns
returns g c = record {
  script = c.in_ok-fresh.ensures.script;
  others = c.in_ok-fresh.ensures.others ∙ c.in_ok-others.ensures;
  shares =
      c.in_ok-fresh.ensures.shares;
  first = c.in_ok-fresh.ensures.first;
}
