use Rattle.std.proofs.Common.{List, Option, [], ap, refl, subst, ℕ, ◌∷◌}
use Rattle.std.specs.BTreeMap.{BTreeMap}
use Rattle.std.specs.Prelude.{IsSome}
use Rattle.audit_claims.specs.Etags.{TagMap}
use Rattle.audit_objects.proofs.Places.{has_deleted, none_deleted, one_removed}
use Rattle.audit_objects.proofs.objects.Objects.remove.Goals as goal

pub returns-in_default : goal.returns-in_default
returns-in_default c = record {
  gone = none_deleted c.self.inside.buckets.entries c.args.self.now c.args.bucket.now c.self.view_is
      c.get_mut.follows.lender-at-none.entries (ap (λ (t : BTreeMap (List ℕ) TagMap). t.entries) c.get_mut.follows.holds-at-none)
      c.in_default.ensures.value (c.args.key.now ∷ []);
}

pub returns : goal.returns
returns c = record {
  gone = has_deleted c.self.inside.buckets.entries c.args.self.now c.args.bucket.now c.self.view_is
      (c.get_mut.follows.lender c.remove.new.self).entries c.remove.new.self
      ((c.get_mut.follows.holds c.remove.new.self).3 (subst (λ (o : Option TagMap). IsSome o) c.in-Some.ensures.value refl)).0
      c.in-Some.tags.now c.in-Some.ensures.value (c.args.key.now ∷ [])
      (one_removed c.in-Some.tags.now c.remove.new.self c.args.key.now c.remove.ensures.gone);
}
