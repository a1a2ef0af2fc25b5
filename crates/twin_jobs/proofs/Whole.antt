-- What two jobs keep between their events.
use Rattle.job_model.specs.Known.{Known}
use Rattle.job_model.specs.declared.ends.Pick.{Pick}
use Rattle.job_protocol.specs.Operations.{Running, Setting}
use Rattle.job_safety.proofs.Facts.{runs_hold_facts}
use Rattle.job_safety.specs.RunsKeep.{FactsHold, KeptAmong}
use Rattle.job_run.proofs.KeptSides.{HasPicks, told}
use Rattle.job_run.proofs.Moments.{stands_of}
use Rattle.job_run.proofs.Seen.{foretold_as}
use Rattle.job_run.specs.Holds.{Quiet, all_sound, is_mine, setting_of}
use Rattle.job_run.specs.declared.body.Body.{Body}
use Rattle.job_run.specs.declared.body.Shared.{Shared}
use Rattle.job_spec.specs.Eyes.{in_eyes, number_in}
use Rattle.job_spec.specs.Promise.{Sent, all_picks, lacked_memory}
use Rattle.job_spec.specs.States.{Past, past, times}
use Rattle.job_states.specs.Stands.{Stands}
use Rattle.script_steps.proofs.Parts.{take_whole}
use Rattle.script_steps.proofs.Played.{happenings_play}
use Rattle.script_steps.specs.StepsPlay.{IsPlayed}
use Rattle.s3_types.specs.Fates.{fate_at}
use Rattle.s3_types.specs.Moment.{AreHonest, IsHonest, after_all, effect, moment}
use Rattle.s3_types.specs.Store.{Scene}
use Rattle.s3_types.specs.declared.journal.Entry.{Entry}
use Rattle.s3_types.specs.declared.request.Actor.{Actor}
use Rattle.s3_types.specs.declared.request.Request.{Request}
use Rattle.std.proofs.Common.{Bool, List, Option, Some, ap, arith, length, subst, sym, ℕ, [], ◌+◌, ◌∙◌, ◌∷◌, ◌≡◌}
use Rattle.std.specs.List.{AllByRecursion}
use Rattle.std.specs.Prelude.{false}
use Rattle.twin_facts.proofs.ByEvents.{always}
use Rattle.twin_facts.proofs.Named.{named}
use Rattle.twin_facts.specs.Named.{NamesNoneOfOthers}
use Rattle.twin_facts.specs.Sides.{IsTwinOpening, TwinRun, drew}
use Rattle.twin_jobs.proofs.Numbers.{all_numbers}
use Rattle.twin_jobs.proofs.OneSide.{SideRun, idle, in_words, plain_scene, side_run, twin_opening, twin_run}
use Rattle.twin_jobs.specs.Pairs.{job_in, run_of}
use Rattle.twin_jobs.specs.inner.Pairs.{IsAmong, RestsBoth, RestsOne, over}
use Rattle.twin_jobs.specs.Worlds.{Keeps, both_of, mine, setting}
use Rattle.twin_safety.specs.Shared.{RunsAreKeptShared, SharedKept}
use Rattle.twin_script.specs.declared.turns.Side.{Side}
use Rattle.twin_script.specs.declared.turns.Side.TheVariants.{First, Second}
use Rattle.s3_types.specs.Store as store
use Rattle.job_safety.proofs.Kept as kept
use Rattle.job_run.specs.declared.body.JobRun as body
use Rattle.twin_facts.specs.Sides as two

module _ {W : Type 0} (wants : W → Option Request) (is_of : Setting → Actor → W → Type 0) (running : Known → W → Running)
    (picks_of : W → Option (List Pick)) where
  -- ---- one side

  abbrev One : List Side → Side → body.JobRun W → Shared → Type 0
  One = RestsOne wants is_of running picks_of

  among : (has : HasPicks running picks_of) (sides : List Side) (name : Side) (s : body.JobRun W) (shared : Shared)
      → One sides name s shared
      → KeptAmong (setting s.script shared.opening) shared.opening (in_eyes (mine sides name) shared.journal.entries)
      (job_in picks_of s).picks s.ends.items
  among has sides name s shared r =
      let q = r.quiet in
      let ps = (job_in picks_of s).picks in
      in_words wants is_of running picks_of (λ g es xs. KeptAmong g shared.opening es ps xs) sides name s shared r
      (kept.kept_among (setting_of (over s shared)) shared.opening q.holds.play q.holds.legal q.holds.opens q.holds.happened
      (idle wants is_of running picks_of (over s shared) q)
      ps (told wants is_of running picks_of (over s shared) q has).first)

  shared_kept : RunsAreKeptShared → (sides : List Side) (name : Side) (s : body.JobRun W) (shared : Shared) → One sides name s shared
      → SharedKept (setting s.script shared.opening) shared.opening (in_eyes (mine sides name) shared.journal.entries) s.ends.items
  shared_kept law sides name s shared r =
      let h = r.quiet.holds in
      in_words wants is_of running picks_of (λ g es xs. SharedKept g shared.opening es xs) sides name s shared r
      (law (setting_of (over s shared)) shared.opening h.play h.legal h.opens h.happened
      (idle wants is_of running picks_of (over s shared) r.quiet) r.shares)

  whole : (has : HasPicks running picks_of) (sides : List Side) (name : Side) (s : body.JobRun W) (shared : Shared)
      → One sides name s shared
      → lacked_memory (past s.script s.ends.items).commit ≡ false
      → (job_in picks_of s).picks ≡ all_picks s.script shared.opening (in_eyes (mine sides name) shared.journal.entries) s.ends.items
  whole has sides name s shared r =
      let q = r.quiet in
      let b = over s shared in
      let ps = (job_in picks_of s).picks in
      let still = idle wants is_of running picks_of b q in
      let done = happenings_play (setting_of b) shared.opening q.holds.play q.holds.legal q.holds.happened still in
      in_words wants is_of running picks_of
      (λ g es xs. lacked_memory (past g.script xs).commit ≡ false → ps ≡ all_picks g.script shared.opening es xs) sides name s shared r
      (λ l. (told wants is_of running picks_of b q has).whole (ap (λ (p : Past). lacked_memory p.commit) (done.live ∙ done.past) ∙ l))

  facts : (sides : List Side) (name : Side) (s : body.JobRun W) (shared : Shared) → One sides name s shared
      → FactsHold s.script shared.opening (in_eyes (mine sides name) shared.journal.entries) s.ends.items
  facts sides name s shared r =
      let h = r.quiet.holds in
      let b = over s shared in
      in_words wants is_of running picks_of (λ g es xs. FactsHold g.script shared.opening es xs) sides name s shared r
      (runs_hold_facts (setting_of b) shared.opening h.play h.legal h.opens h.happened (idle wants is_of running picks_of b r.quiet))

  played_so : (sides : List Side) (name : Side) (s : body.JobRun W) (shared : Shared) → One sides name s shared
      → number_in (mine sides name) shared.events ≡ length s.ends.items
  played_so sides name s shared r = ap (λ os. number_in (is_mine os) shared.events) (sym r.others) ∙ r.quiet.holds.counts

  -- As many events were played as have their ends.
  pub played_is : (sides : List Side) (s t : body.JobRun W) (shared : Shared) → RestsBoth wants is_of running picks_of sides s t shared
      → shared.events ≡ length s.ends.items + length t.ends.items
  played_is sides s t shared r = omega (
    arith,
    all_numbers shared.events sides r.common.few,
    played_so sides First s shared r.first,
    played_so sides Second t shared r.second,
  )

  pub state_is : (s : body.JobRun W) (shared : Shared) → Quiet wants is_of running picks_of (over s shared)
      → {S : Type 0} (read : Past → S) (result : S) → ((p : Past) → Stands s.script s.states p → result ≡ read p)
      → result ≡ read (past s.script s.ends.items)
  state_is s shared q read result h = h (past s.script s.ends.items) (stands_of is_of running picks_of all_sound (over s shared) q.holds
      q.idle)

  -- The store is that of the last moment.
  pub scene_is : (b : Body W) → Quiet wants is_of running picks_of b
      → b.shared.store.scene ≡ moment b.shared.opening b.shared.journal.entries (length b.shared.journal.entries)
  scene_is b q = plain_scene wants is_of running picks_of b q ∙ ap (after_all (store.opening b.shared.opening))
      (sym (take_whole b.shared.journal.entries))

  -- ---- both sides

  module _ (has : HasPicks running picks_of) (shared_law : RunsAreKeptShared) (sides : List Side) (s t : body.JobRun W) (shared : Shared)
      (r : RestsBoth wants is_of running picks_of sides s t shared) where
    a : SideRun wants is_of running picks_of sides First s shared
    a = side_run wants is_of running picks_of sides First s shared r.first

    b : SideRun wants is_of running picks_of sides Second t shared
    b = side_run wants is_of running picks_of sides Second t shared r.second

    opens : IsTwinOpening (setting s.script shared.opening) (setting t.script shared.opening) shared.opening
    opens = twin_opening wants is_of running picks_of sides s t shared First r.first

    run : TwinRun (setting s.script shared.opening) (setting t.script shared.opening) (times s.script s.ends.items)
        (times t.script t.ends.items) shared.opening (both_of (mine sides First) (mine sides Second) shared.journal.entries) a.stand b.stand
    run = twin_run wants is_of running picks_of sides First s t shared r.common a b

    names : NamesNoneOfOthers two.First t.script (drew two.Second shared.opening
        (both_of (mine sides First) (mine sides Second) shared.journal.entries))
        (both_of (mine sides First) (mine sides Second) shared.journal.entries)
        × NamesNoneOfOthers two.Second s.script (drew two.First shared.opening
        (both_of (mine sides First) (mine sides Second) shared.journal.entries))
        (both_of (mine sides First) (mine sides Second) shared.journal.entries)
    names = named (setting s.script shared.opening) (setting t.script shared.opening) r.twins (times s.script s.ends.items)
        (times t.script t.ends.items) shared.opening opens (both_of (mine sides First) (mine sides Second) shared.journal.entries) a.stand
        b.stand run

    played : IsPlayed (setting_of (over s shared)) shared.opening r.first.quiet.holds.play
    played = happenings_play (setting_of (over s shared)) shared.opening r.first.quiet.holds.play r.first.quiet.holds.legal
        r.first.quiet.holds.happened (idle wants is_of running picks_of (over s shared) r.first.quiet)

    honest_eyes : (f : ℕ → Bool) (c : Scene) (es : List Entry) → AreHonest c (in_eyes f es) → AreHonest c es
    honest_eyes f c [] h = tt
    honest_eyes f c (e ∷ es) h = (h.0, honest_eyes f (effect c e.request e.outcome) es h.1)

    sent : Sent s.script shared.opening shared.journal.entries
    sent = record {
      honest = honest_eyes (is_mine s.others.items) (store.opening shared.opening) shared.journal.entries
          (subst (IsHonest shared.opening) (sym r.first.quiet.holds.journal) played.honest);
      fated = foretold_as (λ n. Some (fate_at shared.store.fates n)) (λ n. Some (fate_at s.script.fates n)) 1 shared.journal.entries
          (λ n. ap (λ f. Some f) (sym (r.fates n))) r.first.quiet.holds.fated;
    }

    ended : shared.events ≡ length s.ends.items + length t.ends.items
    ended = played_is sides s t shared r

    counted : (name : Side) (n : ℕ) → number_in (mine sides name) shared.events ≡ n
        → number_in (mine sides name) (length s.ends.items + length t.ends.items) ≡ n
    counted name n so = subst (λ m. number_in (mine sides name) m ≡ n) ended so

    pub keeps : (stuck : Bool) → Keeps (run_of picks_of sides s t shared stuck)
    keeps stuck = record {
      first = record {
        among = among has sides First s shared r.first;
        shared = shared_kept shared_law sides First s shared r.first;
        counts = counted First (length s.ends.items) (played_so sides First s shared r.first);
        whole = whole has sides First s shared r.first;
        facts = facts sides First s shared r.first;
      };
      second = record {
        among = among has sides Second t shared r.second;
        shared = shared_kept shared_law sides Second t shared r.second;
        counts = counted Second (length t.ends.items) (played_so sides Second t shared r.second);
        whole = whole has sides Second t shared r.second;
        facts = facts sides Second t shared r.second;
      };
      shows = always (setting s.script shared.opening) (setting t.script shared.opening) r.twins (times s.script s.ends.items)
          (times t.script t.ends.items) shared.opening opens (both_of (mine sides First) (mine sides Second) shared.journal.entries) a.stand
          b.stand run;
      named_first = names.0;
      named_second = names.1;
      own = r.common.own;
      numbered = subst (λ n. AllByRecursion (IsAmong n) shared.journal.entries) ended r.common.among;
      sent = sent;
    }
