use Rattle.std.proofs.Common.{None, ap, ◌∙◌}
use Rattle.std.specs.FinMap as map
use Rattle.audit_claims.specs.Etags.{TagMap}
use Rattle.audit_objects.proofs.Places.{first_put, has_put}
use Rattle.audit_objects.proofs.objects.Objects.add_bucket.Goals as goal

pub returns-clause-ok : goal.returns-clause-ok
returns-clause-ok c =
    has_put c.self.inside.buckets.entries c.args.self.now c.args.bucket c.self.view_is c.insert.new.self.entries c.put.new.self
    c.in_ok-insert.ensures.updates.0 None c.requires.other c.args.key c.args.etags
    (first_put c.put.new.self c.args.key c.args.etags
    (c.in_ok-put.ensures.ok ∙ ap (λ (m : TagMap). map.insert m c.args.key c.args.etags) c.new-tags.ensures.empty))
