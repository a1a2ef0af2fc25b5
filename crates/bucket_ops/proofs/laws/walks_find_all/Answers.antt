use Rattle.bucket_ops.proofs.Finding.{finds_all}
use Rattle.bucket_ops.proofs.laws.walks_find_all.Goals as goal

pub returns : goal.returns
returns c = finds_all
