use Rattle.text_and_lists.specs.Order.{text_cmp}
use Rattle.s3_service.proofs.Changed.{absent, found, unwritten, written}
use Rattle.s3_types.specs.Answer.{answer_in, apply_in}
use Rattle.s3_types.specs.Store.{BucketContent}
use Rattle.std.proofs.Common.{List, None, Option, Some, ap, refl, subst, sym, ℕ, ◌∙◌}
use Rattle.std.specs.BTreeMap.{BTreeMap}
use Rattle.std.specs.Option.{IsSome, option_map}
use Rattle.std.specs.FinMap as map
use Rattle.s3_service.proofs.buckets.Buckets.apply.Goals as goal

pub apply-requires : goal.apply-requires
apply-requires c = c.requires c.in-Some.bucket.now (found c.self.inside.held.entries c.args.self.now c.args.name.now c.self.view_is
    (Some c.in-Some.bucket.now) c.in-Some.ensures.value)

pub returns-in_default-clause-reply : goal.returns-in_default-clause-reply
returns-in_default-clause-reply c = sym (ap (option_map (λ b. answer_in b c.args.next c.args.minimum c.args.request.now))
    (found c.self.inside.held.entries c.args.self.now c.args.name.now c.self.view_is None c.in_default.ensures.value))

pub returns-in-Ok-clause-reply : goal.returns-in-Ok-clause-reply
returns-in-Ok-clause-reply c =
    ap Some c.in-Ok.ensures.reply
    ∙ sym (ap (option_map (λ b. answer_in b c.args.next c.args.minimum c.args.request.now))
    (found c.self.inside.held.entries c.args.self.now c.args.name.now c.self.view_is (Some c.in-Some.bucket.now)
    c.in-Some.ensures.value))

pub returns-in_default-clause-ok : goal.returns-in_default-clause-ok
returns-in_default-clause-ok c =
    ap (λ (t : BTreeMap (List ℕ) BucketContent). map.from_entries {R = text_cmp} t.entries) c.get_mut.follows.holds-at-none ∙ c.self.view_is
    ∙ sym (absent c.args.self.now c.args.name.now (λ b. apply_in b c.args.next c.args.minimum c.args.request.now)
    (found c.self.inside.held.entries c.args.self.now c.args.name.now c.self.view_is None c.in_default.ensures.value))

pub returns-in-Ok-clause-ok : goal.returns-in-Ok-clause-ok
returns-in-Ok-clause-ok c = written c.self.inside.held.entries c.args.self.now c.args.name.now c.self.view_is
    (c.get_mut.follows.lender c.apply.new.self).entries c.apply.new.self c.in-Some.bucket.now c.in-Some.ensures.value
    ((c.get_mut.follows.holds c.apply.new.self).3 (subst (λ (o : Option BucketContent). IsSome o) c.in-Some.ensures.value refl)).0
    (λ b. apply_in b c.args.next c.args.minimum c.args.request.now) c.in-Ok.ensures.ok

pub returns-in-Err-clause-err : goal.returns-in-Err-clause-err
returns-in-Err-clause-err c = unwritten c.self.inside.held.entries c.args.self.now c.args.name.now c.self.view_is
    (c.get_mut.follows.lender c.apply.new.self).entries c.apply.new.self c.in-Some.bucket.now c.in-Some.ensures.value
    ((c.get_mut.follows.holds c.apply.new.self).3 (subst (λ (o : Option BucketContent). IsSome o) c.in-Some.ensures.value refl)).0
    c.in-Err.ensures.err
