-- Two jobs of which nothing has happened.
use Rattle.job_model.specs.JobScript.{Script}
use Rattle.job_model.specs.Known.{Known}
use Rattle.job_model.specs.Legal.{IsLegal}
use Rattle.job_model.specs.declared.ends.Pick.{Pick}
use Rattle.job_protocol.specs.Operations.{Running, Setting}
use Rattle.job_run.proofs.Firsts.{first_quiet}
use Rattle.job_run.specs.Events.{picks_in}
use Rattle.job_run.specs.Firsts.{IsFirstShared}
use Rattle.job_run.specs.declared.body.Shared.{Shared}
use Rattle.s3_service.specs.Ids.{AreBelow}
use Rattle.s3_types.specs.Fates.{fate_at}
use Rattle.s3_types.specs.Store.{Content}
use Rattle.s3_types.specs.declared.request.Actor.{Actor}
use Rattle.s3_types.specs.declared.request.Mode.{Mode}
use Rattle.s3_types.specs.declared.request.Request.{Request}
use Rattle.std.proofs.Common.{List, Option, ap, arith, false, length, refl, slice_get, subst, sym, ℕ, [], ◌+◌, ◌<◌, ◌^◌, ◌∙◌, ◌≡◌, ◌≤◌}
use Rattle.twin_facts.specs.TwinLaws.{MayBeTwins}
use Rattle.twin_jobs.proofs.Numbers.{all_sides, events_asked}
use Rattle.twin_jobs.specs.Order.{others_in}
use Rattle.twin_jobs.specs.inner.Order.{events_of}
use Rattle.twin_jobs.specs.Pairs.{job_in, run_of, side_in}
use Rattle.twin_jobs.specs.inner.Pairs.{IsFresh, IsPaired, Rests, RestsOne, over}
use Rattle.twin_jobs.specs.Worlds.{begun, nothing_run}
use Rattle.twin_jobs.specs.declared.pair.Pair.{Pair}
use Rattle.twin_script.specs.TwinScripts.{AreTwins, Twins, is_replace, sides_in}
use Rattle.twin_script.specs.declared.turns.Side.{Side}
use Rattle.twin_script.specs.declared.turns.Side.TheVariants.{First, Second}
use Rattle.s3_types.specs.declared.request.Mode.TheVariants as modes
use Rattle.job_run.specs.declared.body.JobRun as body
use Rattle.twin_facts.specs.TwinLaws as laws

-- ---- an order

-- The order asks for no more events than the scripts have.
pub few_asked : (t : Twins) → AreTwins t → IsLegal t.first → IsLegal t.second → length (sides_in t.order) + 1 < 2 ^ 32
few_asked t a first second =
    omega (
      arith,
      all_sides (sides_in t.order),
      events_asked First t.order,
      events_asked Second t.order,
      a.first_events,
      a.second_events,
      first.few_events,
      second.few_events,
    )

enough_first : (t : Twins) → AreTwins t → events_of First (sides_in t.order) ≤ length t.first.events
enough_first t a = rw (events_asked First t.order) a.first_events

enough_second : (t : Twins) → AreTwins t → events_of Second (sides_in t.order) ≤ length t.second.events
enough_second t a = rw (events_asked Second t.order) a.second_events

keeps_so : (m : Mode) → is_replace m ≡ false → laws.is_replace m ≡ false
keeps_so modes.Replace e = e
keeps_so _ e = refl

pub may_be : (t : Twins) → AreTwins t → IsLegal t.first → IsLegal t.second → MayBeTwins t.first t.second
may_be t a first second = assumption (keeps_so t.first.mode a.first_keeps, keeps_so t.second.mode a.second_keeps, a, first, second)

-- ---- both sides

module _ {W : Type 0} (wants : W → Option Request) (is_of : Setting → Actor → W → Type 0) (running : Known → W → Running)
    (picks_of : W → Option (List Pick)) where
  first_rests : (name : Side) (sides : List Side) (w v : Script) (c : Content) (s : body.JobRun W) (shared : Shared) → c.next ≤ 2 ^ 62
      → AreBelow c.buckets c.next → shared.opening ≡ c → IsFirstShared v shared → IsFresh w c.minimum (others_in name 1 sides) s
      → events_of name sides ≤ length w.events
      → RestsOne wants is_of running picks_of sides name s shared
  first_rests name sides w v c s shared low below opening h f enough = record {
    quiet = first_quiet wants is_of running picks_of (over s shared) (rw opening low) (rw opening below) (rw opening f.first) v h;
    shares = f.shares;
    others = f.others;
    enough = rw f.script enough;
  }

  job_first : (w : Script) (c : Content) (others : List ℕ) (s : body.JobRun W) → IsFresh w c.minimum others s
      → job_in picks_of s ≡ nothing_run w
  job_first w c others s f =
      let none : picks_in picks_of s.picks (slice_get s.hands.items 0) ≡ [] = ap (λ hs. picks_in picks_of s.picks (slice_get hs 0))
      f.first.hands ∙ f.first.picks in
      λ i. record { script = f.script i; picks = none i; ends = f.first.ends i }

  -- A pair of which nothing has happened.
  module _ (t : Twins) (a : AreTwins t) (c : Content) (low : c.next ≤ 2 ^ 62) (below : AreBelow c.buckets c.next) (shared : Shared)
      (h : IsFirstShared t.first shared) (opening : shared.opening ≡ c) (sides : List Side) (are : sides ≡ sides_in t.order) (p : Pair W)
      (paired : IsPaired t.first t.second shared sides p) where
    fresh_one : IsFresh t.first c.minimum (others_in First 1 p.sides.items) (side_in First p)
    fresh_one = subst (λ l. IsFresh t.first c.minimum (others_in First 1 l) (side_in First p)) (sym paired.order)
        (subst (λ (d : Content). IsFresh t.first d.minimum (others_in First 1 sides) (side_in First p)) opening paired.one)

    fresh_other : IsFresh t.second c.minimum (others_in Second 1 p.sides.items) (side_in Second p)
    fresh_other = subst (λ l. IsFresh t.second c.minimum (others_in Second 1 l) (side_in Second p)) (sym paired.order)
        (subst (λ (d : Content). IsFresh t.second d.minimum (others_in Second 1 sides) (side_in Second p)) opening paired.other)

    here : p.body.shared.opening ≡ c
    here = ap (λ (s : Shared). s.opening) paired.same ∙ opening

    first_here : IsFirstShared t.first p.body.shared
    first_here = subst (IsFirstShared t.first) (sym paired.same) h

    legal_first : IsLegal t.first
    legal_first = rw fresh_one.script at fresh_one.first.legal

    legal_second : IsLegal t.second
    legal_second = rw fresh_other.script at fresh_other.first.legal

    pub pair_rests : Rests wants is_of running picks_of p
    pair_rests = record {
      first = first_rests First p.sides.items t.first t.first c (side_in First p) p.body.shared low below here first_here fresh_one
          (rw (paired.order, are) (enough_first t a));
      second =
          first_rests Second p.sides.items t.second t.first c (side_in Second p) p.body.shared low below here first_here fresh_other
          (rw (paired.order, are) (enough_second t a));
      common = record {
        own = rw first_here.journal tt;
        among = rw first_here.journal tt;
        few = omega (arith, first_here.events);
        short = rw (paired.order, are) (few_asked t a legal_first legal_second);
      };
      twins = rw (fresh_one.script, fresh_other.script) (may_be t a legal_first legal_second);
      fates = λ n. ap (λ v. fate_at v.fates n) first_here.store ∙ ap (λ (w : Script). fate_at w.fates n) (sym fresh_one.script);
    }

    pub pair_begun : run_of picks_of p.sides.items (side_in First p) (side_in Second p) p.body.shared false ≡ begun t c
    pair_begun = λ i. record {
      first = job_first t.first c (others_in First 1 p.sides.items) (side_in First p) fresh_one i;
      second = job_first t.second c (others_in Second 1 p.sides.items) (side_in Second p) fresh_other i;
      sides = (paired.order ∙ are) i;
      opening = here i;
      journal = first_here.journal i;
      stuck = false;
    }

pub paired_so : {W : Type 0} (first second : Script) (shared : Shared) (sides l : List Side) (m : ℕ) (p : Pair W)
    → m ≡ shared.opening.minimum → l ≡ sides → p.body.shared ≡ shared → p.sides.items ≡ sides
    → IsFresh first m (others_in First 1 l) (side_in First p) → IsFresh second m (others_in Second 1 l) (side_in Second p)
    → IsPaired first second shared sides p
paired_so first second shared sides l m p minimum list same order f g = record {
  one = subst (λ k. IsFresh first shared.opening.minimum (others_in First 1 k) (side_in First p)) list
      (subst (λ n. IsFresh first n (others_in First 1 l) (side_in First p)) minimum f);
  other = subst (λ k. IsFresh second shared.opening.minimum (others_in Second 1 k) (side_in Second p)) list
      (subst (λ n. IsFresh second n (others_in Second 1 l) (side_in Second p)) minimum g);
  same = same;
  order = order;
}
