-- What a driver receives of its tasks is what was reported.
use Rattle.text_and_lists.proofs.Members.{false_true, nat_true, none_some, some_is}
use Rattle.commit_lanes.specs.Fitting.{least_missing}
use Rattle.job_actor.specs.Reports.{report_dirs}
use Rattle.job_actor.specs.declared.reported.Reported.{Reported}
use Rattle.job_model.specs.Attempts.{Declared, Who, actor_of, is_known, same_name}
use Rattle.job_model.specs.JobScript.{Script}
use Rattle.job_model.specs.Known.{Known}
use Rattle.job_model.specs.declared.events.Op.{Op}
use Rattle.job_model.specs.declared.events.Op.TheVariants.{Commit, Write}
use Rattle.job_plans.specs.Reported.{those}
use Rattle.job_protocol.proofs.Begun.{commit_alone}
use Rattle.job_protocol.specs.JobCommits.{commit_start}
use Rattle.job_protocol.specs.Operations.{Reports, Setting, TheCommit, commit_of, start_of}
use Rattle.job_run.proofs.Firsts.{take_more}
use Rattle.job_run.proofs.Places.{get_map, there}
use Rattle.job_run.specs.inner.Events.{of_tasks}
use Rattle.job_run.specs.Holds.{setting_of}
use Rattle.job_run.specs.Reporting.{IsTold, IsUntold}
use Rattle.job_run.specs.inner.Reporting.{AreFlags, ArePartitions, flags_to}
use Rattle.job_run.specs.declared.body.Body.{Body}
use Rattle.job_spec.specs.States.{Past, actors, missing, reports}
use Rattle.job_states.specs.Stands.{Kept, Stands}
use Rattle.s3_types.specs.declared.request.Actor.{Actor}
use Rattle.s3_types.specs.declared.request.Actor.TheVariants.{Attempt, Driver}
use Rattle.std.proofs.Common.{Bool, List, None, Option, Some, ap, arith, cond, false, length, length-append, map, refl, slice_get, suc, sym}
use Rattle.std.proofs.Common.{take, true, zero, ℕ, [], ◌++◌, ◌+◌, ◌<◌, ◌∙◌, ◌∷◌, ◌≡◌, ◌≤◌}
use Rattle.std.proofs.lemmas.List.{map-append, take_all}
use Rattle.std.specs.List.{filter}
use Rattle.std.specs.Map.{lookup}
use Rattle.std.specs.Prelude.{is_some}

-- ---- the actor at an attempt's place

same_self : (m : Who) → same_name m m ≡ true
same_self m = rw (nat_true m.task m.task refl, nat_true m.attempt m.attempt refl) refl

declared_known : (ds : List Declared) (n : ℕ) (d : Declared) → slice_get ds n ≡ Some d → is_some (lookup (same_name d.0) ds) ≡ true
declared_known [] n d e = absurd (none_some refl e)
declared_known (x ∷ ds) zero d e = let is : x ≡ d = some_is e in ap (λ b. is_some (cond b (Some x.1) (lookup (same_name d.0) ds)))
    (ap (λ (v : Declared). same_name d.0 v.0) is ∙ same_self d.0)
declared_known (x ∷ ds) (suc n) d e =
    elim (same_name d.0 x.0) as (λ b. is_some (cond b (Some x.1) (lookup (same_name d.0) ds)) ≡ true)
    [ true ↦ refl | false ↦ declared_known ds n d e ]

module _ (w : Script) (n : ℕ) (a : Actor) (low : n < length w.attempts) (at : slice_get (actors w) (n + 1) ≡ Some a) where
  declared : (d : Declared) × (slice_get w.attempts n ≡ Some d)
  declared = there w.attempts n low

  actor_is : a ≡ actor_of declared.0.0
  actor_is =
      let next : n + 1 ≡ suc n = omega arith in
      some_is (sym at ∙ ap (slice_get (actors w)) next ∙ get_map (λ (v : Declared). actor_of v.0) w.attempts n declared.0 declared.1)

  pub is_declared : is_known w.attempts a ≡ true
  is_declared = ap (is_known w.attempts) actor_is ∙ declared_known w.attempts n declared.0 declared.1

  -- One more attempt has reported, or has not.
  pub more_flags : (s : Kept) (flags new : List Bool) (b : Bool) → AreFlags w s n flags → ((p : Past) → Stands w s p → b ≡ p.reported a)
      → new ≡ flags ++ b ∷ [] → AreFlags w s (n + 1) new
  more_flags s flags new b h one is = record {
    count =
        ap length is ∙ length-append flags (b ∷ []) ∙ ap (λ m. m + 1) h.count ∙ sym (length-append (take n w.attempts) (declared.0 ∷ []))
        ∙ ap length (sym (take_more w.attempts n declared.0 declared.1)) ∙ ap (λ m. length (take m w.attempts)) next;
    are = λ p stands.
        is ∙ ap (λ l. l ++ b ∷ []) (h.are p stands) ∙ ap (λ c. flags_to w p n ++ c ∷ []) (one p stands ∙ ap p.reported actor_is)
        ∙ sym (map-append (λ (d : Declared). p.reported (actor_of d.0)) (take n w.attempts) (declared.0 ∷ []))
        ∙ ap (map (λ (d : Declared). p.reported (actor_of d.0))) (sym (take_more w.attempts n declared.0 declared.1))
        ∙ ap (flags_to w p) next;
  }
    where
      next : suc n ≡ n + 1
      next = omega arith

pub no_flags : (w : Script) (s : Kept) (flags : List Bool) → flags ≡ [] → AreFlags w s 0 flags
no_flags w s flags is =
    record {
      count = ap length is ∙ sym (ap length (nothing w.attempts));
      are = λ p stands. is ∙ sym
          (ap (map (λ (d : Declared). p.reported (actor_of d.0))) (nothing w.attempts));
    }
  where
    nothing : (ds : List Declared) → take 0 ds ≡ []
    nothing [] = refl
    nothing (d ∷ ds) = refl

pub all_flags : (w : Script) (s : Kept) (n : ℕ) (flags : List Bool) → length w.attempts ≤ n → AreFlags w s n flags
    → AreFlags w s (length w.attempts) flags
all_flags w s n flags le h =
    let same : take n w.attempts ≡ take (length w.attempts) w.attempts = take_all n w.attempts le ∙ sym
    (take_all (length w.attempts) w.attempts (omega arith)) in
    record {
      count = h.count ∙ ap length same;
      are = λ p stands. h.are p stands ∙ ap (map (λ (d : Declared). p.reported (actor_of d.0))) same;
    }

pub all_count : (w : Script) (s : Kept) (flags : List Bool) → AreFlags w s (length w.attempts) flags → length flags ≡ length w.attempts
all_count w s flags h = h.count ∙ ap length (take_all (length w.attempts) w.attempts (omega arith))

-- ---- the attempts that have reported

those_are : (ds : List Declared) (f : Actor → Bool)
    → those ds (map (λ (d : Declared). f (actor_of d.0)) ds) ≡ filter (λ a. f (actor_of a)) (map (λ (d : Declared). d.0) ds)
those_are [] f = refl
those_are (d ∷ ds) f =
    let old = those_are ds f in
    elim (f (actor_of d.0)) as (λ b. cond b (d.0 ∷ those ds (map (λ (d : Declared). f (actor_of d.0)) ds))
    (those ds (map (λ (d : Declared). f (actor_of d.0)) ds)) ≡ cond b
    (d.0 ∷ filter (λ a. f (actor_of a)) (map (λ (d : Declared). d.0) ds)) (filter (λ a. f (actor_of a)) (map (λ (d : Declared). d.0) ds)))
    [ true ↦ ap (λ l. d.0 ∷ l) old | false ↦ old ]

pub partitions_are : (shares : Bool) → shares ≡ true → (w : Script) (s : Kept) (flags : List Bool) (ds : List (List ℕ))
    → AreFlags w s (length w.attempts) flags → ds ≡ report_dirs w (those w.attempts flags) → ArePartitions shares w s (Some ds)
partitions_are shares e w s flags ds h is = record {
  attempts = those w.attempts flags;
  told = sym e;
  are = λ es e. sym (some_is e) ∙ is;
  reported = λ p stands shares. ap (those w.attempts) (h.are p stands ∙ ap (map (λ (d : Declared). p.reported (actor_of d.0)))
      (take_all (length w.attempts) w.attempts (omega arith))) ∙ those_are w.attempts p.reported;
}

pub none_are : (w : Script) (s : Kept) (shares : Bool) → shares ≡ false → ArePartitions shares w s None
none_are w s shares is = record {
  attempts = [];
  told = sym is;
  are = λ ds e. absurd (none_some refl e);
  reported = λ p stands e. absurd
      (false_true is e);
}

-- ---- what the driver receives

-- Any other operation begins in the same way, whatever is reported.
starts_alike : (g : Setting) (a : Actor) (op : Op) (r t : Reports) (k : Known) → (a ≡ Driver → op ≡ Commit → ⊥)
    → start_of g a op r k ≡ start_of g a op t k
starts_alike g Driver Commit r t k ne = absurd (ne refl refl)
starts_alike g Driver _ r t k ne = refl
starts_alike g (Attempt n m) Write r t k ne = refl
starts_alike g _ _ r t k ne = refl

module _ {W : Type 0} (b : Body W) where
  abbrev g : Setting
  g = setting_of b

  pub told_commit : (tasks : List ℕ) (x : Option (List (List ℕ)))
      → ((p : Past) → Stands b.side.script b.side.states p → least_missing b.side.script.tasks tasks ≡ missing b.side.script p.reported)
      → ArePartitions b.side.shares b.side.script b.side.states x
      → IsTold b Driver Commit (record { tasks = tasks; partitions = x })
  told_commit tasks x least h = record {
    tells = record { missing = least_missing b.side.script.tasks tasks; attempts = h.attempts };
    is = record { missing = refl; shared = h.told; partitions = λ ds d o e. h.are ds e };
    same = λ p k stands. ap (λ op. Some op) (by p stands b.side.shares refl);
  }
    where
      by : (p : Past) → Stands b.side.script b.side.states p → (c : Bool) → b.side.shares ≡ c
          → commit_of g (record { missing = least_missing b.side.script.tasks tasks; attempts = h.attempts }) ≡ commit_of g
          (reports b.side.script p.reported)
      by p stands true e = λ i. commit_of g (record { missing = least p stands i; attempts = h.reported p stands e i })
      by p stands false e = commit_alone g (record { missing = least_missing b.side.script.tasks tasks; attempts = h.attempts }) e ∙ ap
          (λ m. TheCommit (commit_start b.side.script m)) (least p stands) ∙ sym (commit_alone g (reports b.side.script p.reported) e)

  -- If the driver does not begin the job's commit, it needs no report.
  pub told_nothing : (a : Actor) (op : Op) (x : Reported) → (a ≡ Driver → op ≡ Commit → ⊥) → IsUntold b x → IsTold b a op x
  told_nothing a op x ne h = record {
    tells = of_tasks (least_missing b.side.script.tasks x.tasks);
    is = record { missing = refl; shared = h.shares; partitions = λ ds d o e. absurd (ne d o) };
    same = λ p k stands. starts_alike g a op (of_tasks (least_missing b.side.script.tasks x.tasks)) (reports b.side.script p.reported) k ne;
  }
