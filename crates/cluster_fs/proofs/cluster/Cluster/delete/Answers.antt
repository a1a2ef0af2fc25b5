use Rattle.text_and_lists.proofs.Tree.{made_remove}
use Rattle.text_and_lists.specs.Order.{text_total}
use Rattle.std.proofs.Common.{ap, ◌∙◌}
use Rattle.std.proofs.lemmas.Map.Lookups.{exact_bytes}
use Rattle.std.specs.FinMap as map
use Rattle.cluster_fs.proofs.cluster.Cluster.delete.Goals as goal

pub returns : goal.returns
returns c =
    made_remove text_total exact_bytes c.self.inside.held.entries c.remove.new.self.entries c.args.path.now c.remove.ensures.updates.0
    ∙ ap (λ m. map.remove m c.args.path.now) c.self.view_is
