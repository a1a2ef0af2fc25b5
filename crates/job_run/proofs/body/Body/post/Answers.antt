use Rattle.text_and_lists.proofs.Members.{some_is}
use Rattle.job_run.proofs.Finishes.{has_hand}
use Rattle.job_run.proofs.Postings.{counted, due_fits, posted_at, posts_around}
use Rattle.job_run.proofs.Writes.{set_here, set_other}
use Rattle.job_run.specs.Holds.{all_sound}
use Rattle.std.proofs.Common.{Some, ap, arith, length, rules, sym, vec_len, ◌<◌, ◌^◌, ◌∙◌, ◌≡◌}
use Rattle.std.proofs.Math.ListN.{length-set}
use Rattle.std.proofs.lemmas.Option.{slice_get-get_or}
use Rattle.job_run.proofs.body.Body.post.Goals as goal

pub overflow_add-event : goal.overflow_add-event
overflow_add-event g c = let few = (c.requires.going.holds.turn c.requires.going.during).few in omega arith

pub index_mut-hand-requires : goal.index_mut-hand-requires
index_mut-hand-requires g c =
    let b = c.args.self.now in
    let n : vec_len b.side.hands ≡ length b.side.hands.items = search rules in
    omega (
      arith,
      n,
      has_hand g.W.Works.is_of g.W.Works.running g.W.Works.picks_of all_sound b c.args.place c.args.actor
          c.requires.going.holds c.requires.actor,
    )

pub post_hand-requires : goal.post_hand-requires
post_hand-requires g c =
    let b = c.args.self.now in
    let holds = c.requires.going.holds in
    let low = has_hand g.W.Works.is_of g.W.Works.running g.W.Works.picks_of all_sound b c.args.place c.args.actor holds c.requires.actor in
    let few : length b.shared.journal.entries < 2 ^ 62 = omega (arith, c.len.ensures.len, c.len.ensures.few) in
    let hand = slice_get-get_or b.side.hands.items c.args.place c.index_mut-hand.result.now low ∙ ap Some
    (sym c.index_mut-hand.ensures.value) in
    let asks = c.requires.going.none_over c.args.place c.index_mut-hand.result.now c.requires.busy hand in
    record {
      asked = asks;
      due =
          due_fits g.W.Acts.wants g.W.Acts.tells g.W.Acts.fits g.W.Acts.end_of g.W.Acts.left g.W.Works.is_of g.W.Works.running
          g.W.Works.rise g.W.Works.picks_of c.laws.ensures b
          holds few c.args.place c.args.actor c.requires.actor c.index_mut-hand.result.now hand asks;
      counted = counted g.W.Works.is_of g.W.Works.running g.W.Works.picks_of b holds;
    }

pub returns : goal.returns
returns g c =
    let b = c.args.self.now in
    let low = has_hand g.W.Works.is_of g.W.Works.running g.W.Works.picks_of all_sound b c.args.place c.args.actor c.requires.going.holds
    c.requires.actor in
    let few : length b.shared.journal.entries < 2 ^ 62 = omega (arith, c.len.ensures.len, c.len.ensures.few) in
    let hand = slice_get-get_or b.side.hands.items c.args.place c.index_mut-hand.result.now low ∙ ap Some
    (sym c.index_mut-hand.ensures.value) in
    let places = length-set b.side.hands.items c.args.place c.post_hand.new.hand in
    record {
      around =
          posts_around b c.args.place c.post_hand.new.store c.post_hand.new.journal _ (λ n. some_is (c.post_hand.ensures.foretold n)) places
          (λ q ne. set_other b.side.hands.items c.args.place q c.post_hand.new.hand ne);
      posted =
          posted_at g.W.Acts.wants g.W.Acts.tells g.W.Acts.fits g.W.Acts.end_of g.W.Acts.left g.W.Works.is_of g.W.Works.running
          g.W.Works.rise g.W.Works.picks_of c.laws.ensures
          g.W.Acts.rise g.met.W.Acts.laws b c.requires.going.holds c.requires.going.during few
          c.args.place c.args.actor c.requires.actor c.requires.busy c.post_hand.new.store c.post_hand.new.journal _
          c.post_hand.ensures.foretold places
          (λ q ne. set_other b.side.hands.items c.args.place q c.post_hand.new.hand ne)
          c.index_mut-hand.result.now c.post_hand.new.hand hand (set_here b.side.hands.items c.args.place c.post_hand.new.hand low)
          c.post_hand.result c.post_hand.ensures.posted;
    }
