-- A pair of sides of which one plays its next event.
use Rattle.job_model.specs.JobScript.{Script}
use Rattle.job_model.specs.Known.{Known}
use Rattle.job_model.specs.declared.ends.Pick.{Pick}
use Rattle.job_protocol.specs.Operations.{Running, Setting}
use Rattle.job_run.proofs.Places.{there}
use Rattle.job_run.specs.Events.{Grown, IsAsBefore}
use Rattle.job_run.specs.Holds.{IsTurn, Quiet, is_mine}
use Rattle.job_run.specs.declared.body.Body.{Body}
use Rattle.job_run.specs.declared.body.Shared.{Shared}
use Rattle.job_spec.specs.Eyes.{number_in}
use Rattle.s3_types.specs.Fates.{fate_at}
use Rattle.s3_types.specs.declared.request.Actor.{Actor}
use Rattle.s3_types.specs.declared.request.Request.{Request}
use Rattle.std.proofs.Common.{List, Option, Some, ap, arith, length, refl, slice_get, subst, sym, ℕ, ◌+◌, ◌∙◌, ◌≡◌}
use Rattle.std.proofs.lemmas.Option.{slice_get_within}
use Rattle.std.specs.Prelude.{Err, IsSome, Ok, OnErr, OnOk, Result, is_some}
use Rattle.twin_facts.specs.TwinLaws.{MayBeTwins}
use Rattle.twin_jobs.proofs.Numbers.{mine_at, more_left, same_self}
use Rattle.twin_jobs.proofs.OneSide.{shared_more, stays_beside, twins_turned}
use Rattle.twin_jobs.specs.Order.{other_of}
use Rattle.twin_jobs.specs.Pairs.{side_by, side_in}
use Rattle.twin_jobs.specs.inner.Pairs.{IsPlayed, IsTurnedTo, IsUnplayed, Rests, RestsBoth, RestsOne, RestsShared, over}
use Rattle.twin_jobs.specs.Worlds.{mine}
use Rattle.twin_jobs.specs.declared.pair.Pair.{Pair}
use Rattle.twin_script.specs.declared.turns.Side.{Side}
use Rattle.twin_script.specs.declared.turns.Side.TheVariants.{First, Second}
use Rattle.job_run.specs.declared.body.JobRun as body

module _ {W : Type 0} (wants : W → Option Request) (is_of : Setting → Actor → W → Type 0) (running : Known → W → Running)
    (picks_of : W → Option (List Pick)) where
  abbrev One : List Side → Side → body.JobRun W → Shared → Type 0
  One = RestsOne wants is_of running picks_of

  abbrev Both : List Side → body.JobRun W → body.JobRun W → Shared → Type 0
  Both = RestsBoth wants is_of running picks_of

  -- ---- the moving side and the other one

  -- Both sides rest: the moving one and the other one.
  record Split (sides : List Side) (m : Side) (s t : body.JobRun W) (shared : Shared) : Type 0 where
    here : One sides m s shared
    there : One sides (other_of m) t shared
    common : RestsShared sides shared
    twins : MayBeTwins s.script t.script
    fates : (n : ℕ) → fate_at shared.store.fates n ≡ fate_at (side_by First m s t).script.fates n

  split : (sides : List Side) (m : Side) (s t : body.JobRun W) (shared : Shared)
      → Both sides (side_by First m s t) (side_by Second m s t) shared → Split sides m s t shared
  split sides First s t shared r = assumption r
  split sides Second s t shared r = assumption (twins_turned t.script s.script r.twins, r)

  join : (sides : List Side) (m : Side) (s t : body.JobRun W) (shared : Shared) → Split sides m s t shared
      → Both sides (side_by First m s t) (side_by Second m s t) shared
  join sides First s t shared r = assumption r
  join sides Second s t shared r = assumption (twins_turned s.script t.script r.twins, r)

  same_first : (m : Side) (s s1 t : body.JobRun W) → s1.script ≡ s.script → (side_by First m s1 t).script ≡ (side_by First m s t).script
  same_first First s s1 t e = e
  same_first Second s s1 t e = refl

  module _ (sides : List Side) (m : Side) (s t : body.JobRun W) (old : Shared) (r : Split sides m s t old)
      (turn : slice_get sides old.events ≡ Some m) where
    -- The event is the side's own, and its number fits.
    its_turn : IsTurn (over s old)
    its_turn = record {
      mine = ap (λ os. is_mine os (old.events + 1)) r.here.others ∙ mine_at m m old.events sides turn ∙ same_self m;
      few = omega (arith, slice_get_within sides old.events m turn, r.common.short);
    }

    -- The side's script has one more event.
    has_event : IsSome (slice_get s.script.events (length s.ends.items))
    has_event =
        let played : number_in (mine sides m) old.events ≡ length s.ends.items = ap (λ os. number_in (is_mine os) old.events)
        (sym r.here.others) ∙ r.here.quiet.holds.counts in
        ap is_some (there s.script.events (length s.ends.items) (omega (arith, more_left m old.events sides turn, r.here.enough, played))).1

    module _ (s1 : body.JobRun W) (new : Shared) (q : Quiet wants is_of running picks_of (over s1 new)) where
      -- After the event was played.
      has_played : Grown (over s old) (over s1 new) → Split sides m s1 t new
      has_played g =
          let here : One sides m s1 new =
          record {
            quiet = q;
            shares = g.stays.shares ∙ r.here.shares;
            others = ap (λ v. v.items) g.stays.others ∙ r.here.others;
            enough =
                rw g.stays.script r.here.enough;
          } in
          let common = shared_more sides m old new g.more.0 r.common turn g.events g.more.1 g.more.2 in
          let twins : MayBeTwins s1.script t.script = rw g.stays.script r.twins in
          let quiet =
          stays_beside wants is_of running picks_of sides m s s1 t old new g.more.0 twins common r.common g.stays.opening g.events g.more.1
          g.more.2 turn r.here.quiet here
          r.there in
          record {
            here = here;
            there = record { quiet = quiet; shares = r.there.shares; others = r.there.others; enough = r.there.enough };
            common = common;
            twins = twins;
            fates = λ n. g.stays.fates n ∙ r.fates n ∙ ap (λ (w : Script). fate_at w.fates n) (sym (same_first m s s1 t g.stays.script));
          }

      -- If memory ran out before the event.
      is_before : IsAsBefore (over s old) (over s1 new) → Split sides m s1 t new
      is_before h = record {
        here = record {
          quiet = q;
          shares = h.shares ∙ r.here.shares;
          others = ap (λ v. v.items) h.others ∙ r.here.others;
          enough = rw
              h.script r.here.enough;
        };
        there = subst (One sides (other_of m) t) (sym h.shared) r.there;
        common = subst (RestsShared sides) (sym h.shared) r.common;
        twins = rw h.script r.twins;
        fates = λ n. ap (λ (z : Shared). fate_at z.store.fates n) h.shared ∙ r.fates n ∙ ap (λ (w : Script). fate_at w.fates n)
            (sym (same_first m s s1 t h.script));
      }

  -- ---- a pair

  -- The pair with another side as the moving one.
  rests_turned : (side : Side) (p q : Pair W) → IsTurnedTo side p q → Rests wants is_of running picks_of p
      → Rests wants is_of running picks_of q
  rests_turned side p q t r = rw (t.sides, t.first, t.second, t.shared) r

  turn_kept : (side : Side) (p q : Pair W) → IsTurnedTo side p q → slice_get p.sides.items p.body.shared.events ≡ Some side
      → slice_get q.sides.items q.body.shared.events ≡ Some q.moving
  turn_kept side p q t turn = ap (λ v. slice_get v.items q.body.shared.events) t.sides ∙ ap
      (λ (s : Shared). slice_get p.sides.items s.events) t.shared ∙ turn ∙ ap (λ v. Some v) (sym t.moving)

  moving_is : (side m : Side) (a b : body.JobRun W) → m ≡ side → (side_by side m a b ≡ a) × (side_by (other_of side) m a b ≡ b)
  moving_is First First a b e = (refl, refl)
  moving_is Second Second a b e = (refl, refl)
  moving_is First Second a b e = cc
  moving_is Second First a b e = cc

  other_in : (side : Side) (p q : Pair W) → IsTurnedTo side p q → side_in (other_of side) q ≡ side_in (other_of side) p
  other_in First p q t = t.second
  other_in Second p q t = t.first

  this_in : (side : Side) (p q : Pair W) → IsTurnedTo side p q → side_in side q ≡ side_in side p
  this_in First p q t = t.first
  this_in Second p q t = t.second

  -- The pair p, turned to this side, is q, and then its body became c.
  module _ (side : Side) (p q : Pair W) (t : IsTurnedTo side p q) (c : Body W) where
    abbrev then : Pair W
    then = record { body = c; other = q.other; moving = q.moving; sides = q.sides }

    body_was : over (side_in side p) p.body.shared ≡ q.body
    body_was = ap (λ s. over s p.body.shared) (sym (this_in side p q t) ∙ (moving_is side q.moving q.body.side q.other t.moving).0) ∙ ap
        (λ s. over q.body.side s) (sym t.shared)

    body_is : over (side_in side (record { body = c; other = q.other; moving = q.moving; sides = q.sides })) c.shared ≡ c
    body_is = ap (λ s. over s c.shared) (moving_is side q.moving c.side q.other t.moving).0

    other_is : side_in (other_of side) (record { body = c; other = q.other; moving = q.moving; sides = q.sides }) ≡ side_in (other_of side)
        p
    other_is = (moving_is side q.moving c.side q.other t.moving).1 ∙ sym (moving_is side q.moving q.body.side q.other t.moving).1 ∙ other_in
        side p q t

    is_played : Grown q.body c → IsPlayed side p (record { body = c; other = q.other; moving = q.moving; sides = q.sides })
    is_played g = record {
      grown = subst (λ b. Grown b (over (side_in side then) c.shared)) (sym body_was)
          (subst (Grown q.body) (sym body_is) g);
      other = other_is;
      sides = t.sides;
    }

    is_unplayed : IsAsBefore q.body c → IsUnplayed side p (record { body = c; other = q.other; moving = q.moving; sides = q.sides })
    is_unplayed h = record {
      before = subst (λ b. IsAsBefore b (over (side_in side then) c.shared)) (sym body_was)
          (subst (IsAsBefore q.body) (sym body_is) h);
      other = other_is;
      sides = t.sides;
    }

  -- ---- the turn of a side

  module _ (side : Side) (p q : Pair W) (t : IsTurnedTo side p q) (r : Rests wants is_of running picks_of p)
      (turn : slice_get p.sides.items p.body.shared.events ≡ Some side) where
    rests_now : Split q.sides.items q.moving q.body.side q.other q.body.shared
    rests_now = split q.sides.items q.moving q.body.side q.other q.body.shared (rests_turned side p q t r)

    turn_now : slice_get q.sides.items q.body.shared.events ≡ Some q.moving
    turn_now = turn_kept side p q t turn

    pub pair_event : IsSome (slice_get q.body.side.script.events (length q.body.side.ends.items))
    pair_event = has_event q.sides.items q.moving q.body.side q.other q.body.shared rests_now turn_now

    pub pair_turn : IsTurn q.body
    pair_turn = its_turn q.sides.items q.moving q.body.side q.other q.body.shared rests_now turn_now

    pub pair_quiet : Quiet wants is_of running picks_of q.body
    pair_quiet = rests_now.here.quiet

    -- What playing leaves.
    pub pair_plays : {T E : Type 0} (result : Result T E) (c : Body W) → Quiet wants is_of running picks_of c → OnOk result (Grown q.body c)
        → OnErr result (IsAsBefore q.body c)
        → (let then : Pair W = record { body = c; other = q.other; moving = q.moving; sides = q.sides } in record {
          rests : Rests wants is_of running picks_of then;
          ok : OnOk result (IsPlayed side p then);
          err : OnErr result (IsUnplayed side p then);
        })
    pair_plays (Ok x) c quiet g h = record {
      rests = join q.sides.items q.moving c.side q.other c.shared (has_played q.sides.items q.moving q.body.side q.other q.body.shared
          rests_now turn_now c.side c.shared quiet g);
      ok = is_played side p q t c g;
      err = tt;
    }
    pair_plays (Err e) c quiet g h = record {
      rests = join q.sides.items q.moving c.side q.other c.shared (is_before q.sides.items q.moving q.body.side q.other q.body.shared
          rests_now turn_now c.side c.shared quiet h);
      ok = tt;
      err = is_unplayed side p q t c h;
    }
