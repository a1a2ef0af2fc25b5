use Rattle.text_and_lists.proofs.Tree.{insert_same}
use Rattle.text_and_lists.specs.Reading.{made}
use Rattle.s3_types.specs.Store.{Parts, Upload}
use Rattle.std.proofs.Common.{Ok, Option, Some, ap, nat_cmp, refl, subst, sym, ◌∙◌, ◌≡◌}
use Rattle.std.proofs.lemmas.Cmp.{nat_cmp_total}
use Rattle.std.specs.Int.{w64}
use Rattle.std.specs.Option.{IsSome}
use Rattle.store_image.proofs.Loop.{first_step, last_step, one_more}
use Rattle.store_image.proofs.Maps.{held_live, part_held}
use Rattle.store_image.specs.Reading.{block_at, part_number_at}
use Rattle.std.specs.FinMap as fin
use Rattle.store_image.proofs.reading.parts_of.Goals as goal

pub loop-init : goal.loop-init
loop-init c =
    let u : Upload = record { key = c.args.key.now; parts = fin.empty } in (
      fin.empty,
      (
        sym (insert_same nat_cmp_total fin.nat_cmp-IsAntisymmetric c.args.uploads.now c.args.id u c.requires),
        first_step
            (part_number_at c.args.whole) (block_at w64 c.args.whole) c.args.count c.args.bytes.now _ refl,
      ),
    )

pub put_part-requires : goal.put_part-requires
put_part-requires c =
    let held = c.loop.invariant in
    let u : Upload = record { key = c.args.key.now; parts = held.0 } in
    record {
      number = c.in_ok-number.ensures.number;
      live = subst (λ (o : Option Upload). IsSome o)
          (sym (held_live c.args.uploads.now c.loop.uploads c.args.id u held.1.0)) refl;
    }

pub loop-preserved : goal.loop-preserved
loop-preserved c =
    let held = c.loop.invariant in
    let same : Some c.from.result ≡ Some c.in_ok-number.number = ap (λ n. Some n) c.from.ensures in (
      fin.insert held.0 c.in_ok-number.number c.in_ok-block.block,
      (
        part_held c.args.uploads.now c.loop.uploads c.put_part.new.uploads c.args.id c.in_ok-number.number c.args.key.now
            c.in_ok-block.block held.0 held.1.0 c.in_ok-number.ensures.number c.in_ok-put_part.ensures.put,
        one_more (part_number_at c.args.whole) (block_at w64 c.args.whole) c.args.count c.loop.counter _ c.loop.rest.now _ _ _ _ _ held.0 _
            _ c.loop-test.true c.in_ok-number.ensures.exact c.in_ok-block.ensures refl same held.1.1,
      ),
    )

pub returns : goal.returns
returns c =
    let held = c.loop.invariant in
    let total = last_step (part_number_at c.args.whole) (block_at w64 c.args.whole) c.args.count c.loop.counter _ c.loop.rest.now held.0 _
    c.loop-test.false held.1.1 in
    ap (made (λ (ps : Parts). fin.insert c.args.uploads.now c.args.id (record { key = c.args.key.now; parts = ps }))) total
    ∙ ap (λ (m : fin.FinMap nat_cmp Upload). Ok (m, c.loop.rest.now)) (sym held.1.0)
