use Rattle.job_model.specs.Jobs.{Task}
use Rattle.std.proofs.Common.{List, ap, false, length, map, replicate, sym, take, ℕ, [], ◌++◌, ◌+◌, ◌∙◌, ◌∷◌}
use Rattle.std.proofs.lemmas.List.{take_more}
use Rattle.task_magic.proofs.Listed.{nothing_seen, ordered_with, places_with, records_with, seen_with, within_seen}
use Rattle.task_magic.specs.Committing.{record_of}
use Rattle.task_requests.specs.Publishing.{are_places, picked}
use Rattle.task_magic.proofs.listing.files_of_keys.Goals as goal

pub loop-key-init : goal.loop-key-init
loop-key-init c = record {
  places = ap (are_places (length c.args.plan.now.files)) c.new.ensures;
  records = c.new-2.ensures ∙ sym (ap (λ (l : List ℕ). map (record_of c.args.plan.now) (picked c.args.plan.now.files l)) c.new.ensures);
  files = ap (picked c.args.plan.now.files) c.new.ensures;
  seen = c.in_ok-seen.ensures
      ∙ (ap (λ m. replicate m false) (c.len.ensures ∙ ap (λ (t : Task). length t.files) c.plan.view_is) ∙ nothing_seen c.args.plan.now
      c.args.plan.now.files);
}

pub add_place-requires : goal.add_place-requires
add_place-requires c = within_seen c.args.plan.now (take c.loop-key.key-index c.args.keys.now) c.loop-key.listed.seen.items c.in-Ok.place
    c.loop-key.invariant.seen c.in-Ok.ensures.within

pub loop-key-preserved : goal.loop-key-preserved
loop-key-preserved c =
    let t = c.args.plan.now in
    let keys = take c.loop-key.key-index c.args.keys.now in
    let more = take (c.loop-key.key-index + 1) c.args.keys.now in
    let k = c.key-item.result in
    let place = c.in-Ok.place in
    let e = take_more c.args.keys.now c.loop-key.key-index k c.loop-key-test.true ∙ ap (λ (x : List ℕ). keys ++ x ∷ []) (sym c.key-item.is)
    in
    record {
      places = ap (are_places (length t.files)) c.in-Ok-add_place.ensures.places ∙ places_with (length t.files) c.loop-key.listed.places
          place c.loop-key.invariant.places c.in-Ok.ensures.within;
      records = c.in-Ok-add_place.ensures.records
          ∙ (records_with t c.loop-key.listed.records c.loop-key.listed.places k place c.loop-key.invariant.records c.in-Ok.ensures.within
          c.in-Ok.ensures.is
          ∙ sym (ap (λ (l : List ℕ). map (record_of t) (picked t.files l)) c.in-Ok-add_place.ensures.places));
      files = ap (picked t.files) c.in-Ok-add_place.ensures.places ∙ ordered_with t keys more k c.loop-key.listed.places place e
          c.loop-key.invariant.files c.in-Ok.ensures.within c.in-Ok.ensures.is;
      seen = c.in-Ok-add_place.ensures.seen ∙ seen_with t keys more k c.loop-key.listed.seen.items place e c.loop-key.invariant.seen
          c.in-Ok.ensures.within c.in-Ok.ensures.is;
    }
