use Rattle.job_protocol.proofs.LaneTables.{tabled_start, tabled_tells}
use Rattle.job_protocol.proofs.LaneEnds.{ends_by_worn, requests_apart}
use Rattle.job_protocol.proofs.Orders.{sends_in_order}
use Rattle.job_protocol.proofs.Tables.{all_done}
use Rattle.job_protocol.proofs.lanes.Goals as goal

pub returns-clause-table : goal.returns-clause-table
returns-clause-table c = record {
  starts = tabled_start;
  goes_on = tabled_tells;
  all_done = λ lanes retries total finished t n l. all_done n
      l t;
}

pub returns-clause-end : goal.returns-clause-end
returns-clause-end c = record { ends = ends_by_worn; order = sends_in_order; apart = requests_apart }
