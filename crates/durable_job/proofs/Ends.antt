-- What was played, from what the world of the jobs leaves.
use Rattle.durable_job.specs.Jobs.{IsOfOne, KeepsOne, run_told, verdict_of_two}
use Rattle.durable_job.specs.inner.Jobs.{told_both}
use Rattle.durable_job.specs.inner.Moves.{Stays, TwinsStay, left_of, turns_left}
use Rattle.durable_job.specs.Pace.{LacksSince}
use Rattle.durable_job.specs.Played.{HaveEventsLeft, IsHeld, IsPlayed, Survives}
use Rattle.durable_job.specs.declared.jobs.Jobs.TheVariants.{One, Two}
use Rattle.durable_job.specs.declared.jobs.Told.{Told}
use Rattle.job_model.specs.JobScript.{Script}
use Rattle.job_model.specs.declared.ends.EventEnd.{EventEnd}
use Rattle.job_model.specs.declared.ends.Pick.{Pick}
use Rattle.job_spec.specs.Promise.{Finished}
use Rattle.job_spec.specs.States.{verdict}
use Rattle.journal_log.specs.Made.{KeepsImages}
use Rattle.s3_types.specs.Ledger.{Ledger}
use Rattle.s3_types.specs.Moment.{moment}
use Rattle.s3_types.specs.Store.{Content}
use Rattle.s3_types.specs.declared.journal.Entry.{Entry}
use Rattle.devices.specs.Logged.{Sight}
use Rattle.devices.specs.declared.kept.ShelfStop.{ShelfStop}
use Rattle.devices.specs.declared.kept.ShelfStop.TheVariants.{NoMemory}
use Rattle.std.proofs.Common.{Bool, List, None, Option, Some, ap, arith, false, inl, inr, length, subst, sym, ℕ, ⊎_elim, ◌+◌, ◌-◌, ◌<◌, ◌∙◌}
use Rattle.std.proofs.Common.{◌≡◌, ◌⊎◌}
use Rattle.twin_jobs.specs.Played.{told_of}
use Rattle.twin_jobs.specs.declared.played.JobLeft.{JobLeft}
use Rattle.twin_script.specs.TwinScripts.{Twins, sides_in}
use Rattle.twin_script.specs.declared.turns.Side.{Side}
use Rattle.twin_script.specs.declared.turns.TwinTurn.{TwinTurn}
use Rattle.job_world.specs.Worlds as one
use Rattle.twin_jobs.specs.Worlds as two

-- ---- one job or two

-- What is held of a run, with an equal journal.
held_as : {S : Type 0} (F : Sight S) (c : Content) (es fs : List Entry) (stop : Option ShelfStop) (old new : S) → es ≡ fs
    → IsHeld F c fs stop old new → IsHeld F c es stop old new
held_as F c es fs stop old new e h = subst (λ (l : List Entry). IsHeld F c l stop old new) (sym e) h

survives_as : {S : Type 0} (F : Sight S) (c : Content) (es fs : List Entry) (old new : S) → es ≡ fs → Survives F c fs old new
    → Survives F c es old new
survives_as F c es fs old new e h = subst (λ (l : List Entry). Survives F c l old new) (sym e) h

-- If no event is left, all events have their ends.
all_ended : (ended all all_first : ℕ) → ended + (all - ended) ≡ 0 + (all_first - 0) → all - ended ≡ 0 → ended ≡ all_first
all_ended ended all all_first count none = omega arith

-- What a shelf lacks of a run, with an equal journal.
lacks_as : {S : Type 0} (F : Sight S) (c : Content) (es fs : List Entry) (old new : S) → es ≡ fs → LacksSince F c fs old new
    → LacksSince F c es old new
lacks_as F c es fs old new e h = subst (λ (l : List Entry). LacksSince F c l old new) (sym e) h

-- If an event is left, not all events have their ends.
more_to_come : (ended all : ℕ) → 0 < all - ended → ended < all
more_to_come ended all left = omega arith

-- ---- one job

-- A run from its parts.
abbrev one_run : Script → Content → List Entry → List Pick → List EventEnd → Bool → one.Run
one_run w c es ps xs stuck = record { script = w; opening = c; journal = es; picks = ps; ends = xs; stuck = stuck }

same_one : (s : one.Run) (w : Script) (c : Content) (es : List Entry) (ps : List Pick) (xs : List EventEnd) → w ≡ s.script → c ≡ s.opening
    → es ≡ s.journal → ps ≡ s.picks → xs ≡ s.ends → one_run w c es ps xs s.stuck ≡ s
same_one s w c es ps xs script opening journal picks ends =
    ap (λ (x : Script). one_run x c es ps xs s.stuck) script
    ∙ ap (λ (x : Content). one_run s.script x es ps xs s.stuck) opening
    ∙ ap (λ (x : List Entry). one_run s.script s.opening x ps xs s.stuck) journal
    ∙ ap (λ (x : List Pick). one_run s.script s.opening s.journal x xs s.stuck) picks
    ∙ ap (λ (x : List EventEnd). one_run s.script s.opening s.journal s.picks x s.stuck) ends

-- What a world says at its end.
pub record LeavesOne (w : Script) (c : Content) (s : one.Run) (stop : Option ShelfStop) (due : ℕ) : Type 0 where
  pub stays : Stays (one.begun w c) s
  pub origin : s.opening ≡ c
  pub keeps : one.Keeps s
  pub finished : length s.ends ≡ length s.script.events → Finished s.script s.opening s.journal s.picks s.ends
  pub over : stop ≡ None → left_of s ≡ 0
  pub due_is : due ≡ verdict s.script s.ends

-- What the run left.
pub record LeftOne (s : one.Run) (script : Script) (service : Content) (journal : Ledger) (told : Told) : Type 0 where
  pub script_is : script ≡ s.script
  pub service_is : service ≡ (moment s.opening s.journal (length s.journal)).content
  pub journal_is : journal.entries ≡ s.journal
  pub picks_is : told.picks ≡ s.picks
  pub ends_is : told.ends ≡ s.ends
  pub alone : IsOfOne told

module _ (w : Script) (c : Content) (s : one.Run) (stop : Option ShelfStop) (due : ℕ) (script : Script) (service : Content)
    (journal : Ledger) (told : Told) (leaves : LeavesOne w c s stop due) (left : LeftOne s script service journal told) where
  one_is : one_run w c journal.entries told.picks told.ends s.stuck ≡ s
  one_is = same_one s w c journal.entries told.picks told.ends (sym leaves.stays.script) (sym leaves.origin) left.journal_is left.picks_is
      left.ends_is

  one_service : service ≡ (moment c journal.entries (length journal.entries)).content
  one_service = subst (λ (r : one.Run). service ≡ (moment r.opening r.journal (length r.journal)).content) (sym one_is) left.service_is

  one_promised : KeepsOne w c journal.entries told
  one_promised =
      let k : one.Keeps (one_run w c journal.entries told.picks told.ends s.stuck) = subst (λ (r : one.Run). one.Keeps r) (sym one_is)
      leaves.keeps in
      record { promised = k.promised; whole = k.whole; sent = k.sent; own = k.own; alone = left.alone; readers_safe = k.readers_safe }

  one_verdict : due ≡ verdict w told.ends
  one_verdict = subst (λ (r : one.Run). due ≡ verdict r.script r.ends) (sym one_is) leaves.due_is

  one_finished : stop ≡ None → Finished w c journal.entries told.picks told.ends × IsOfOne told
  one_finished none =
      let all : length s.ends ≡ length w.events = all_ended (length s.ends) (length s.script.events) (length w.events) leaves.stays.count
      (leaves.over none) in
      let end : length s.ends ≡ length s.script.events = all ∙ ap (λ (v : Script). length v.events) (sym leaves.stays.script) in
      (subst (λ (r : one.Run). Finished r.script r.opening r.journal r.picks r.ends) (sym one_is) (leaves.finished end), left.alone)

  one_left : 0 < left_of s → HaveEventsLeft (One w) told
  one_left some = subst (λ (r : one.Run). length r.ends < length r.script.events) (sym one_is)
      (more_to_come (length s.ends) (length s.script.events) some)

pub one_played : {S : Type 0} (F : Sight S) (w : Script) (c : Content) (s : one.Run) (stop : Option ShelfStop) (due : ℕ) (script : Script)
    (service : Content) (journal : Ledger) (told : Told) (old new : S) → LeavesOne w c s stop due → LeftOne s script service journal told
    → (stop ≡ Some NoMemory → (0 < left_of s) ⊎ LacksSince F c s.journal old new) → IsHeld F c s.journal stop old new
    → Survives F c s.journal old new → KeepsImages c journal.entries
    → IsPlayed F (One w) c (record { stop = stop; verdict = due; jobs = One script; service = service; journal = journal; told = told }) old
    new
one_played F w c s stop due script service journal told old new leaves left short held survives images = record {
  jobs_are = ap One (left.script_is ∙ leaves.stays.script);
  service = one_service w c s stop due script service journal told leaves left;
  promised = one_promised w c s stop due script service journal told leaves left;
  finished = one_finished w c s stop due script service journal told leaves left;
  verdict = one_verdict w c s stop due script service journal told leaves left;
  short = λ e. ⊎_elim (λ some. inl (one_left w c s stop due script service journal told leaves left some))
      (λ l. inr (lacks_as F c journal.entries s.journal old new left.journal_is l)) (short e);
  held = held_as F c journal.entries s.journal stop old new left.journal_is held;
  survives = survives_as F c journal.entries s.journal old new left.journal_is survives;
  images = images;
}

-- ---- two jobs

-- What a run keeps does not depend on whether an event ran out of memory.
unstuck : (s : two.Run) → two.Keeps s → two.Keeps (record s { stuck = false })
unstuck s k = record {
  first = record {
    among = k.first.among;
    shared = k.first.shared;
    counts = k.first.counts;
    whole = k.first.whole;
    facts = k.first.facts;
  };
  second = record {
    among = k.second.among;
    shared = k.second.shared;
    counts = k.second.counts;
    whole = k.second.whole;
    facts = k.second.facts;
  };
  shows = k.shows;
  named_first = k.named_first;
  named_second = k.named_second;
  own = k.own;
  numbered = k.numbered;
  sent = k.sent;
}

-- A job's run, and a run of two jobs, from their parts.
abbrev job_run : Script → List Pick → List EventEnd → two.JobRun
job_run w ps xs = record { script = w; picks = ps; ends = xs }

abbrev two_run : two.JobRun → two.JobRun → List Side → Content → List Entry → two.Run
two_run first second sides c es = record { first = first; second = second; sides = sides; opening = c; journal = es; stuck = false }

-- What is left of a job is what callers saw of it.
same_job : (w : Script) (l : JobLeft) (j : two.JobRun) → told_of l ≡ j → j.script ≡ w → job_run w l.picks l.ends ≡ j
same_job w l j told script = ap (λ (x : Script). job_run x l.picks l.ends) (sym (ap (λ (r : two.JobRun). r.script) told ∙ script)) ∙ told

same_two : (s : two.Run) (first second : two.JobRun) (sides : List Side) (c : Content) (es : List Entry) → first ≡ s.first
    → second ≡ s.second → sides ≡ s.sides → c ≡ s.opening → es ≡ s.journal
    → two_run first second sides c es ≡ two_run s.first s.second s.sides s.opening s.journal
same_two s first second sides c es first_is second_is sides_are opening journal =
    ap (λ (x : two.JobRun). two_run x second sides c es) first_is
    ∙ ap (λ (x : two.JobRun). two_run s.first x sides c es) second_is
    ∙ ap (λ (x : List Side). two_run s.first s.second x c es) sides_are
    ∙ ap (λ (x : Content). two_run s.first s.second s.sides x es) opening
    ∙ ap (λ (x : List Entry). two_run s.first s.second s.sides s.opening x) journal

-- Two scripts with their order, from their parts.
abbrev twins_by : Script → Script → List TwinTurn → Twins
twins_by first second order = record { first = first; second = second; order = order }

-- What is left has the scripts and the order that were given.
pub twins_are : (t : Twins) (c : Content) (first second : JobLeft) (order : List TwinTurn) (s : two.Run) → told_of first ≡ s.first
    → told_of second ≡ s.second → TwinsStay (two.begun t c) s → order ≡ t.order → twins_by first.script second.script order ≡ t
twins_are t c first second order s first_is second_is stays is =
    ap (λ (x : Script). twins_by x second.script order) (ap (λ (r : two.JobRun). r.script) first_is ∙ stays.first)
    ∙ ap (λ (x : Script). twins_by t.first x order) (ap (λ (r : two.JobRun). r.script) second_is ∙ stays.second)
    ∙ ap (λ (x : List TwinTurn). twins_by t.first t.second x) is

-- What a world of two jobs says at its end.
pub record LeavesTwo (t : Twins) (c : Content) (s : two.Run) (stop : Option ShelfStop) (due : ℕ) : Type 0 where
  pub stays : TwinsStay (two.begun t c) s
  pub origin : s.opening ≡ c
  pub keeps : two.Keeps s
  pub over : stop ≡ None → turns_left s ≡ 0
  pub due_is : due ≡ verdict_of_two (verdict s.first.script s.first.ends) (verdict s.second.script s.second.ends)

-- What the run of two jobs left.
pub record LeftTwo (s : two.Run) (first second : JobLeft) (service : Content) (journal : Ledger) : Type 0 where
  pub first_is : told_of first ≡ s.first
  pub second_is : told_of second ≡ s.second
  pub service_is : service ≡ (moment s.opening s.journal (length s.journal)).content
  pub journal_is : journal.entries ≡ s.journal

module _ (t : Twins) (c : Content) (s : two.Run) (stop : Option ShelfStop) (due : ℕ) (first second : JobLeft) (service : Content)
    (journal : Ledger) (leaves : LeavesTwo t c s stop due) (left : LeftTwo s first second service journal) where
  two_is : run_told t c journal.entries (told_both first second) ≡ two_run s.first s.second s.sides s.opening s.journal
  two_is =
      same_two s (job_run t.first first.picks first.ends) (job_run t.second second.picks second.ends) (sides_in t.order) c journal.entries
      (same_job t.first first s.first left.first_is leaves.stays.first) (same_job t.second second s.second left.second_is
      leaves.stays.second) (sym leaves.stays.sides) (sym leaves.origin) left.journal_is

  two_service : service ≡ (moment c journal.entries (length journal.entries)).content
  two_service = subst (λ (r : two.Run). service ≡ (moment r.opening r.journal (length r.journal)).content) (sym two_is) left.service_is

  two_promised : two.Keeps (run_told t c journal.entries (told_both first second))
  two_promised = subst (λ (r : two.Run). two.Keeps r) (sym two_is) (unstuck s leaves.keeps)

  two_verdict : due ≡ verdict_of_two (verdict t.first first.ends) (verdict t.second second.ends)
  two_verdict = subst (λ (r : two.Run). due ≡ verdict_of_two (verdict r.first.script r.first.ends) (verdict r.second.script r.second.ends))
      (sym two_is) leaves.due_is

  two_finished : stop ≡ None → two.Keeps (run_told t c journal.entries (told_both first second))
      × (two.played (run_told t c journal.entries (told_both first second)) ≡ length (sides_in t.order))
  two_finished none =
      let all : two.played s ≡ length (sides_in t.order) = all_ended (two.played s) (length s.sides) (length (sides_in t.order))
      leaves.stays.count (leaves.over none) in
      (two_promised, subst (λ (r : two.Run). two.played r ≡ length (sides_in t.order)) (sym two_is) all)

  two_left : 0 < turns_left s → HaveEventsLeft (Two t) (told_both first second)
  two_left some = subst (λ (r : two.Run). two.played r < length r.sides) (sym two_is) (more_to_come (two.played s) (length s.sides) some)

pub two_played : {S : Type 0} (F : Sight S) (t : Twins) (c : Content) (s : two.Run) (stop : Option ShelfStop) (due : ℕ)
    (first second : JobLeft) (order : List TwinTurn) (service : Content) (journal : Ledger) (old new : S) → order ≡ t.order
    → LeavesTwo t c s stop due → LeftTwo s first second service journal
    → (stop ≡ Some NoMemory → (0 < turns_left s) ⊎ LacksSince F c s.journal old new) → IsHeld F c s.journal stop old new
    → Survives F c s.journal old new → KeepsImages c journal.entries
    → IsPlayed F (Two t) c (record {
      stop = stop;
      verdict = due;
      jobs = Two (twins_by first.script second.script order);
      service = service;
      journal = journal;
      told = told_both first second;
    }) old new
two_played F t c s stop due first second order service journal old new is leaves left short held survives images = record {
  jobs_are = ap Two (twins_are t c first second order s left.first_is left.second_is leaves.stays is);
  service = two_service t c s stop due first second service journal leaves left;
  promised = two_promised t c s stop due first second service journal leaves left;
  finished = two_finished t c s stop due first second service journal leaves left;
  verdict = two_verdict t c s stop due first second service journal leaves left;
  short = λ e. ⊎_elim (λ some. inl (two_left t c s stop due first second service journal leaves left some))
      (λ l. inr (lacks_as F c journal.entries s.journal old new left.journal_is l)) (short e);
  held = held_as F c journal.entries s.journal stop old new left.journal_is held;
  survives = survives_as F c journal.entries s.journal old new left.journal_is survives;
  images = images;
}
