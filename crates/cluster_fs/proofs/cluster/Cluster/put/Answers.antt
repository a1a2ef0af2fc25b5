use Rattle.text_and_lists.proofs.Tree.{made_insert}
use Rattle.text_and_lists.specs.Order.{text_total}
use Rattle.std.proofs.Common.{◌∙◌}
use Rattle.std.proofs.lemmas.Map.Lookups.{exact_bytes}
use Rattle.std.specs.FinMap as map
use Rattle.cluster_fs.proofs.cluster.Cluster.put.Goals as goal

pub returns-clause-ok : goal.returns-clause-ok
returns-clause-ok c =
    made_insert text_total exact_bytes c.self.inside.held.entries c.insert.new.self.entries c.in_ok-path.path c.in_ok-bytes.bytes
    c.in_ok-insert.ensures.updates.0
    ∙ (λ i. map.insert (c.self.view_is i) (c.in_ok-path.ensures.cases i) (c.in_ok-bytes.ensures.cases i))
