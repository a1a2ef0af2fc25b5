use Rattle.text_and_lists.proofs.Reading.{gives_fault, made_fault}
use Rattle.text_and_lists.specs.Order.{text_cmp, text_total}
use Rattle.text_and_lists.specs.Reading.{Fails, made}
use Rattle.s3_service.specs.Ids.{IsFresh}
use Rattle.s3_types.specs.Names.{is_bucket}
use Rattle.s3_types.specs.Store.{BucketContent, Buckets, Content}
use Rattle.std.proofs.Common.{Err, List, None, Ok, Option, Some, ap, refl, rules, subst, sym, ℕ, ◌∙◌, ◌≡◌}
use Rattle.store_image.proofs.Loop.{first_step, key_fails, last_step, one_more, restored, value_fails}
use Rattle.store_image.proofs.Maps.{IsFree, free_empty, still_free}
use Rattle.store_image.specs.Fault.{wanting}
use Rattle.store_image.specs.Reading.{bucket_at, name_at}
use Rattle.std.specs.FinMap as fin
use Rattle.store_image.proofs.reading.buckets_of.Goals as goal

pub loop-init : goal.loop-init
loop-init c = record {
  so_far = first_step (name_at is_bucket c.args.whole) (bucket_at c.args.service.now.next c.args.whole) c.args.count c.args.bytes.now
      c.args.service.now.buckets c.requires;
  free = subst (IsFree text_cmp None) (sym c.requires) (free_empty text_cmp);
  same_next = refl;
  same_minimum = refl;
}

pub add_bucket-requires : goal.add_bucket-requires
add_bucket-requires c = record {
  absent = c.loop.invariant.free c.in_ok-name.name c.in_ok-name.ensures.after;
  below = subst (IsFresh c.in_ok-objects.uploads) c.next_upload.ensures.next c.in_ok-objects.ensures.below;
}

pub loop-preserved : goal.loop-preserved
loop-preserved c =
    let held : BucketContent = record { objects = c.in_ok-objects.objects; uploads = c.in_ok-objects.uploads } in
    let same : Some c.in_ok-copy.copy ≡ Some c.in_ok-name.name = ap (λ (k : List ℕ). Some k) c.in_ok-copy.ensures.cases in
    let now : c.add_bucket.new.self.buckets ≡ fin.insert c.loop.service.buckets c.in_ok-name.name held = ap (λ (s : Content). s.buckets)
    c.in_ok-add_bucket.ensures.ok in
    let value = subst (λ (n : ℕ). bucket_at n c.args.whole c.in_ok-name.after.now ≡ Ok (held, c.in_ok-objects.after.now))
    (c.next_upload.ensures.next ∙ c.loop.invariant.same_next) c.in_ok-objects.ensures.exact in
    let free : IsFree text_cmp (Some c.in_ok-name.name) (fin.insert c.loop.service.buckets c.in_ok-name.name held) = still_free text_total
    c.loop.last c.loop.service.buckets c.in_ok-name.name held c.loop.invariant.free c.in_ok-name.ensures.after in
    record {
      so_far = one_more (name_at is_bucket c.args.whole) (bucket_at c.args.service.now.next c.args.whole) c.args.count c.loop.counter
          c.loop.last c.loop.rest.now _ _ c.in_ok-name.name held _ c.loop.service.buckets _ _ c.loop-test.true c.in_ok-name.ensures.exact
          value now same c.loop.invariant.so_far;
      free = subst (λ (k : Option (List ℕ)). IsFree text_cmp k c.add_bucket.new.self.buckets) (sym same)
          (subst (IsFree text_cmp (Some c.in_ok-name.name)) (sym now) free);
      same_next = ap (λ (s : Content). s.next) c.in_ok-add_bucket.ensures.ok ∙ c.loop.invariant.same_next;
      same_minimum = ap (λ (s : Content). s.minimum) c.in_ok-add_bucket.ensures.ok ∙ c.loop.invariant.same_minimum;
    }

pub returns : goal.returns
returns c =
    let total = last_step (name_at is_bucket c.args.whole) (bucket_at c.args.service.now.next c.args.whole) c.args.count c.loop.counter _
    c.loop.rest.now c.loop.service.buckets _ c.loop-test.false c.loop.invariant.so_far in
    ap (made (λ (bs : Buckets). record { buckets = bs; next = c.args.service.now.next; minimum = c.args.service.now.minimum })) total
    ∙ restored c.loop.service c.args.service.now.next c.args.service.now.minimum c.loop.rest.now c.loop.invariant.same_next
    c.loop.invariant.same_minimum

pub returns-in_err-name : goal.returns-in_err-name
returns-in_err-name c =
    let is : c.from_residual.result ≡ Err c.in_err-name.field-0.0 = search rules in
    gives_fault wanting _ _ _ _ is (made_fault wanting _ _ _ (key_fails (name_at is_bucket c.args.whole)
    (bucket_at c.args.service.now.next c.args.whole) c.args.count c.loop.counter _ _ _ _ _ c.loop-test.true c.in_err-name.ensures.exact
    c.loop.invariant.so_far))

pub returns-in_err-objects : goal.returns-in_err-objects
returns-in_err-objects c =
    let is : c.from_residual-in_err-objects.result ≡ Err c.in_err-objects.field-0.0 = search rules in
    let fault = subst (λ (n : ℕ). Fails wanting c.in_err-objects.field-0.0 (bucket_at n c.args.whole c.in_ok-name.after.now))
    (c.next_upload.ensures.next ∙ c.loop.invariant.same_next) c.in_err-objects.ensures.exact in
    gives_fault wanting _ _ _ _ is (made_fault wanting _ _ _ (value_fails (name_at is_bucket c.args.whole)
    (bucket_at c.args.service.now.next c.args.whole) c.args.count c.loop.counter _ _ _ _ _ _ _ c.loop-test.true
    c.in_ok-name.ensures.exact fault c.loop.invariant.so_far))
