use Rattle.text_and_lists.proofs.Tree.{made_insert}
use Rattle.text_and_lists.specs.Order.{text_total}
use Rattle.std.proofs.Common.{ap, ◌∙◌}
use Rattle.std.proofs.lemmas.Map.Lookups.{exact_bytes}
use Rattle.std.specs.FinMap as map
use Rattle.audit_claims.proofs.path_tags.PathTags.put.Goals as goal

pub returns-clause-ok : goal.returns-clause-ok
returns-clause-ok c =
    made_insert text_total exact_bytes c.self.inside.tags.entries c.insert.new.self.entries c.args.path c.args.etags
    c.in_ok-insert.ensures.updates.0
    ∙ ap (λ m. map.insert m c.args.path c.args.etags) c.self.view_is
