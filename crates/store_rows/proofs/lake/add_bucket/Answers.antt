use Rattle.text_and_lists.specs.Order.{text_cmp}
use Rattle.s3_types.specs.Store.{Content, Uploads}
use Rattle.std.proofs.Common.{ap, ◌∙◌}
use Rattle.std.specs.FinMap.{get, get-empty}
use Rattle.std.specs.Ordering.{nat_cmp}
use Rattle.store_rows.proofs.lake.add_bucket.Goals as goal

pub add_bucket-requires-clause-absent : goal.add_bucket-requires-clause-absent
add_bucket-requires-clause-absent c = ap (λ (s : Content). get s.buckets c.in_ok-name.name) c.requires ∙ get-empty text_cmp
    c.in_ok-name.name

pub add_bucket-requires-clause-below : goal.add_bucket-requires-clause-below
add_bucket-requires-clause-below c i h = ap (λ (m : Uploads). get m i) c.new-2.ensures ∙ get-empty nat_cmp i
