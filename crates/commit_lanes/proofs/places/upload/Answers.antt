use Rattle.commit_lanes.proofs.Placing.{placed_at, set_within, upload_is, upload_within}
use Rattle.std.proofs.Common.{ap, slice_get, ◌∙◌}
use Rattle.std.proofs.lemmas.Option.{slice_get_within}
use Rattle.commit_lanes.proofs.places.upload.Goals as goal

pub place_at-place-requires : goal.place_at-place-requires
place_at-place-requires c =
    let r = placed_at 0 c.args.sets.now c.args.number c.requires.within in
    slice_get_within c.args.places.now c.args.number r.0 (ap (λ v. slice_get v c.args.number) c.requires.places ∙ r.1)

pub set_at-requires : goal.set_at-requires
set_at-requires c = set_within c.args.sets.now c.args.places.now c.args.number c.place_at-place.result c.requires.places c.requires.within
    c.place_at-place.ensures

pub upload_in-requires : goal.upload_in-requires
upload_in-requires c = upload_within c.args.sets.now c.args.places.now c.args.number c.place_at-place.result c.set_at.result.now
    c.requires.places c.requires.within c.place_at-place.ensures c.set_at.ensures

pub returns : goal.returns
returns c = upload_is c.args.sets.now c.args.places.now c.args.number c.place_at-place.result c.set_at.result.now c.upload_in.result.now
    c.requires.places c.requires.within c.place_at-place.ensures c.set_at.ensures c.upload_in.ensures
