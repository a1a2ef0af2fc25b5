use Rattle.std.proofs.Common.{None, Some, sym, ◌∙◌}
use Rattle.audit_objects.proofs.Places.{tags_found}
use Rattle.audit_objects.proofs.objects.Objects.get.Goals as goal

pub returns-in_default : goal.returns-in_default
returns-in_default c = record {
  found = sym (tags_found c.self.inside.buckets.entries c.args.self.now c.args.bucket.now c.self.view_is None c.args.key.now
      c.in_default.ensures.value);
}

pub returns : goal.returns
returns c = record {
  found =
      c.get-2.ensures.found
      ∙ sym (tags_found c.self.inside.buckets.entries c.args.self.now c.args.bucket.now c.self.view_is (Some c.in-Some.tags.now)
      c.args.key.now c.in-Some.ensures.value);
}
