use Rattle.audit_claims.specs.Etags.{TagMap}
use Rattle.audit_objects.proofs.Places.{found, has_put, one_put, unwritten}
use Rattle.audit_objects.specs.Objects.{ObjectMap, at, put}
use Rattle.text_and_lists.specs.Order.{text_cmp}
use Rattle.std.proofs.Common.{List, None, OnOk, Option, Some, ap, refl, subst, sym, ℕ, ◌∙◌, ◌≡◌}
use Rattle.std.specs.BTreeMap.{BTreeMap, is_at}
use Rattle.std.specs.Map.{lookup}
use Rattle.std.specs.Prelude.{IsSome}
use Rattle.std.specs.FinMap as map
use Rattle.audit_objects.proofs.objects.Objects.put.Goals as goal

pub add_bucket-requires : goal.add_bucket-requires
add_bucket-requires c = record {
  other = found c.get_mut.follows.lender-at-none.entries _ c.args.bucket refl None
      (c.in_default.ensures.value
      ∙ sym (ap (λ (t : BTreeMap (List ℕ) TagMap). lookup (is_at (text_cmp c.args.bucket)) t.entries) c.get_mut.follows.holds-at-none));
}

pub returns-in_default-clause-put : goal.returns-in_default-clause-put
returns-in_default-clause-put c =
    subst (λ (m : ObjectMap). OnOk c.add_bucket.result ((b k : List ℕ) → at c.add_bucket.new.self b k
    ≡ put c.args.bucket c.args.key c.args.etags (at m) b k))
    (ap (λ (t : BTreeMap (List ℕ) TagMap). map.from_entries {R = text_cmp} t.entries) c.get_mut.follows.holds-at-none ∙ c.self.view_is)
    c.add_bucket.ensures.ok

pub returns-in-Ok-clause-put : goal.returns-in-Ok-clause-put
returns-in-Ok-clause-put c =
    has_put c.self.inside.buckets.entries c.args.self.now c.args.bucket c.self.view_is (c.get_mut.follows.lender c.put.new.self).entries
    c.put.new.self ((c.get_mut.follows.holds c.put.new.self).3 (subst (λ (o : Option TagMap). IsSome o) c.in-Some.ensures.value refl)).0
    (Some c.in-Some.tags.now)
    (found c.self.inside.buckets.entries c.args.self.now c.args.bucket c.self.view_is (Some c.in-Some.tags.now) c.in-Some.ensures.value)
    c.args.key c.args.etags (one_put c.in-Some.tags.now c.put.new.self c.args.key c.args.etags c.in-Ok.ensures.ok)

pub returns-in-Err-clause-err : goal.returns-in-Err-clause-err
returns-in-Err-clause-err c =
    unwritten c.self.inside.buckets.entries c.args.self.now c.args.bucket c.self.view_is (c.get_mut.follows.lender c.put.new.self).entries
    c.put.new.self ((c.get_mut.follows.holds c.put.new.self).3 (subst (λ (o : Option TagMap). IsSome o) c.in-Some.ensures.value refl)).0
    c.in-Some.tags.now c.in-Some.ensures.value c.in-Err.ensures.err
