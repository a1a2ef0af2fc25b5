use Rattle.s3_types.specs.Store.{Upload}
use Rattle.std.proofs.Common.{List, ap, rules, subst, ℕ, ◌∙◌, ◌≡◌}
use Rattle.store_image.proofs.Loop.{upload_is}
use Rattle.store_image.proofs.Maps.{held_at}
use Rattle.store_image.specs.inner.Fault.{GivesBy}
use Rattle.std.specs.FinMap as fin
use Rattle.store_image.proofs.reading.upload_of.Goals as goal

pub parts_of-requires : goal.parts_of-requires
parts_of-requires c =
    let same : c.in_ok-clone.field-0 ≡ c.in_ok-key.key = search rules in
    let u : Upload = record { key = c.in_ok-key.key; parts = fin.empty } in
    held_at c.args.uploads.now c.create.new.self c.args.id u (c.in_ok-create.ensures.ok ∙ ap
    (λ (k : List ℕ). fin.insert c.args.uploads.now c.args.id (record { key = k; parts = fin.empty })) same)

pub returns : goal.returns
returns c =
    let same : c.in_ok-clone.field-0 ≡ c.in_ok-key.key = search rules in
    let is = upload_is c.args.whole c.args.id c.args.bytes.now _ _ _ _ c.args.uploads.now c.create.new.self c.in_ok-key.ensures.exact
    c.in_ok-count.ensures
    (c.in_ok-create.ensures.ok ∙ ap (λ (k : List ℕ). fin.insert c.args.uploads.now c.args.id (record { key = k; parts = fin.empty })) same)
    in
    subst (GivesBy _ c.parts_of.result) is c.parts_of.ensures
