use Rattle.text_and_lists.proofs.Reading.{gives_fault, unmade, unmade_fault}
use Rattle.s3_service.specs.Ids.{IsFresh}
use Rattle.s3_types.specs.Store.{Upload}
use Rattle.std.proofs.Common.{Err, None, Some, nat_cmp, refl, rules, subst, sym, ◌≡◌}
use Rattle.std.proofs.lemmas.Cmp.{nat_cmp_total}
use Rattle.store_image.proofs.Loop.{first_step, key_fails, last_step, one_more, value_fails}
use Rattle.store_image.proofs.Maps.{IsFree, free_empty, from_id, still_free, still_fresh}
use Rattle.store_image.specs.Fault.{wanting}
use Rattle.store_image.specs.Reading.{id_at, upload_at}
use Rattle.std.specs.FinMap as fin
use Rattle.store_image.proofs.reading.uploads_of.Goals as goal

pub loop-init : goal.loop-init
loop-init c = record {
  so_far = first_step (id_at c.args.next c.args.whole) (upload_at c.args.whole) c.args.count c.args.bytes.now c.new-uploads.result
      c.new-uploads.ensures;
  free = subst (IsFree nat_cmp None) (sym c.new-uploads.ensures) (free_empty nat_cmp);
  fresh = subst (λ (m : fin.FinMap nat_cmp Upload). IsFresh m c.args.next) (sym c.new-uploads.ensures) (λ i le. fin.get-empty nat_cmp i);
}

pub upload_of-requires : goal.upload_of-requires
upload_of-requires c = λ i le. c.loop.invariant.free i (from_id c.loop.last c.in_ok-id.id i c.in_ok-id.ensures.after le)

pub loop-preserved : goal.loop-preserved
loop-preserved c =
    let one = unmade (fin.insert c.loop.uploads c.in_ok-id.id) (upload_at c.args.whole c.in_ok-id.after.now) _ _ c.in_ok-rest.ensures in
    record {
      so_far = one_more (id_at c.args.next c.args.whole) (upload_at c.args.whole) c.args.count c.loop.counter c.loop.last c.loop.rest.now _
          _ c.in_ok-id.id one.0 _ c.loop.uploads _ _ c.loop-test.true c.in_ok-id.ensures.exact one.1 one.2 refl c.loop.invariant.so_far;
      free = subst (IsFree nat_cmp (Some c.in_ok-id.id)) (sym one.2) (still_free nat_cmp_total c.loop.last c.loop.uploads c.in_ok-id.id
          one.0 c.loop.invariant.free c.in_ok-id.ensures.after);
      fresh = subst (λ (m : fin.FinMap nat_cmp Upload). IsFresh m c.args.next) (sym one.2)
          (still_fresh c.loop.uploads c.args.next c.in_ok-id.id one.0 c.in_ok-id.ensures.below c.loop.invariant.fresh);
    }

pub returns-in_err-id-clause-exact : goal.returns-in_err-id-clause-exact
returns-in_err-id-clause-exact c =
    let is : c.from_residual.result ≡ Err c.in_err-id.field-0.0 = search rules in
    gives_fault wanting _ _ _ _ is (key_fails (id_at c.args.next c.args.whole) (upload_at c.args.whole) c.args.count c.loop.counter _ _ _ _
    _ c.loop-test.true c.in_err-id.ensures.exact c.loop.invariant.so_far)

pub returns-in_err-rest-clause-exact : goal.returns-in_err-rest-clause-exact
returns-in_err-rest-clause-exact c =
    let is : c.from_residual-in_err-rest.result ≡ Err c.in_err-rest.field-0.0 = search rules in
    let fault = unmade_fault wanting (fin.insert c.loop.uploads c.in_ok-id.id) (upload_at c.args.whole c.in_ok-id.after.now) _
    c.in_err-rest.ensures in
    gives_fault wanting _ _ _ _ is (value_fails (id_at c.args.next c.args.whole) (upload_at c.args.whole) c.args.count c.loop.counter _ _ _
    _ _ _ _ c.loop-test.true c.in_ok-id.ensures.exact fault c.loop.invariant.so_far)

pub returns-clause-exact : goal.returns-clause-exact
returns-clause-exact c = last_step (id_at c.args.next c.args.whole) (upload_at c.args.whole) c.args.count c.loop.counter _ _ _ _
    c.loop-test.false c.loop.invariant.so_far
