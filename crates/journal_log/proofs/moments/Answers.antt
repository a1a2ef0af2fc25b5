use Rattle.journal_log.proofs.Standing.{moments, some, longer, holds_more, between, earlier, short, one}
use Rattle.journal_log.proofs.moments.Goals as goal

pub returns : goal.returns
returns c = record {
  stand = record {
    moments = moments;
    some = some;
    longer = longer;
    grown = holds_more;
    between = between;
    earlier =
        earlier;
    short = short;
    one = one;
  };
}
