use Rattle.text_and_lists.proofs.Tree.{made_insert}
use Rattle.std.proofs.Common.{ap, ◌∙◌}
use Rattle.std.proofs.lemmas.Map.Lookups.{exact_unsigned}
use Rattle.std.specs.Cmp.{nat_cmp_total}
use Rattle.std.specs.FinMap as fin
use Rattle.multipart.proofs.tables.Lives.begin.Goals as goal

pub returns-clause-ok : goal.returns-clause-ok
returns-clause-ok c =
    made_insert nat_cmp_total exact_unsigned c.self.inside.held.entries c.insert.new.self.entries c.args.upload c.in_ok-live.live
    c.in_ok-insert.ensures.updates.0
    ∙ ap (λ m. fin.insert m c.args.upload c.in_ok-live.live) c.self.view_is
    ∙ ap (fin.insert _ c.args.upload) c.in_ok-live.ensures
