use Rattle.s3_types.specs.Answer.{apply_store}
use Rattle.s3_types.specs.Store.{Content}
use Rattle.s3_types.specs.declared.request.Request.{Request}
use Rattle.std.proofs.Common.{Err, Ok, Result, subst, sym, ◌+◌, ◌≡◌, ◌≤◌}
use Rattle.std.specs.Prelude.{OnOk}
use Rattle.store_link.proofs.Ids.{next_store}
use Rattle.store_link.proofs.mem.answered.Goals as goal

one_more : {T E : Type 0} (o : Result T E) (c d : Content) (r : Request) → OnOk o (d ≡ apply_store c r) → OnOk o (d.next ≤ c.next + 1)
one_more (Ok x) c d r h = subst (λ (d : Content). d.next ≤ c.next + 1) (sym h) (next_store c r)
one_more (Err e) c d r h = tt

pub returns-else-is_cluster-clause-next : goal.returns-else-is_cluster-clause-next
returns-else-is_cluster-clause-next c =
    one_more c.apply-else-is_cluster.result c.args.service.now c.apply-else-is_cluster.new.self c.args.request.now
    c.apply-else-is_cluster.ensures.ok
