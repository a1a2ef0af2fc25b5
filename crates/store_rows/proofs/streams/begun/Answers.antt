use Rattle.text_and_lists.specs.Order.{text_total}
use Rattle.block_stream.proofs.PartLaws.{get_same}
use Rattle.block_stream.specs.Stream.{Stream}
use Rattle.s3_types.specs.Store.{new_bucket}
use Rattle.std.proofs.Common.{ap, arith, [], ◌≤◌}
use Rattle.store_rows.specs.inner.Lake.{lake}
use Rattle.std.specs.FinMap as fin
use Rattle.store_rows.proofs.streams.begun.Goals as goal

pub returns : goal.returns
returns c =
    let least : 4 ≤ 4 = omega arith in (
      ap (λ (m : Stream). m.closed) c.start-stream.ensures.fresh,
      record {
        bytes = [];
        holds = c.start-stream.ensures.holds (lake c.args.bucket) new_bucket (get_same text_total fin.empty c.args.bucket new_bucket) least;
      },
    )
