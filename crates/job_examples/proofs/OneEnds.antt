-- The operations of the run of one attempt with one file have the resulting ends, and the run is finished.
use Rattle.text_and_lists.proofs.Members.{none_some, some_is}
use Rattle.job_examples.proofs.Books.{at_bucket}
use Rattle.job_examples.proofs.Checks.{objects_at}
use Rattle.job_examples.proofs.Kept.{keeps}
use Rattle.job_examples.proofs.OnePlays.{commit_doing, plays, setup_doing, task_doing, write_doing}
use Rattle.job_examples.proofs.OneSet.{set_is_read}
use Rattle.job_examples.proofs.Sights.{empty_book, nothing, opening_is, opens, opens_is, saw_all, sees}
use Rattle.job_examples.specs.Jobs.{commits_at, worker}
use Rattle.job_examples.specs.OneFile.{commit_entries, journal, opening, script, the_publishing}
use Rattle.job_examples.specs.OneFinished.{OneFileFinished, the_ends, the_picks}
use Rattle.job_examples.specs.Runs.{Keeps}
use Rattle.job_model.specs.declared.ends.ActorEnd.{ActorEnd}
use Rattle.job_model.specs.declared.ends.EventEnd.TheVariants.{Ended}
use Rattle.job_model.specs.declared.ends.OpEnd.{OpEnd}
use Rattle.job_model.specs.declared.events.Event.TheVariants.{Do}
use Rattle.job_model.specs.declared.events.Op.{Op}
use Rattle.job_protocol.specs.JobCommits.{set_read, set_request, stage_of}
use Rattle.job_protocol.specs.Seen.{is_marked, see_all, seen}
use Rattle.job_spec.specs.Ends.{EndedIn, has_cleaned}
use Rattle.job_spec.specs.Follows.{known_then}
use Rattle.job_spec.specs.OperationEnds.{IsFree, SetupIs, TaskIs, WasPublished}
use Rattle.job_spec.specs.Promise.{CommitEnds, Promised, all_picks, seen_until, setting}
use Rattle.job_spec.specs.States.{Doing, after_event, clean_event, past, told}
use Rattle.job_spec.specs.Turns.{before, by_actor, since, until, until_last}
use Rattle.json.specs.Print.{escape_byte}
use Rattle.retries.proofs.First.{computed, none_sent}
use Rattle.retries.specs.Worn.{WornFirst, first_worn}
use Rattle.s3_types.specs.Moment.{moment}
use Rattle.s3_types.specs.declared.journal.Entry.{Entry}
use Rattle.s3_types.specs.declared.journal.Outcome.TheVariants.{Answered}
use Rattle.s3_types.specs.declared.reply.Refusal.{Refusal}
use Rattle.s3_types.specs.declared.reply.Reply.{Reply}
use Rattle.s3_types.specs.declared.reply.Reply.TheVariants.{Refused}
use Rattle.s3_types.specs.declared.request.Actor.{Actor}
use Rattle.s3_types.specs.declared.request.Actor.TheVariants.{Attempt, Driver}
use Rattle.s3_types.specs.declared.request.Committer.TheVariants.{Magic}
use Rattle.s3_types.specs.declared.request.Request.{Request}
use Rattle.std.proofs.Common.{List, None, Option, Some, ap, arith, codes, inr, is_some, length, refl, subst, suc, sym, take, true, zero, ℕ}
use Rattle.std.proofs.Common.{[], ◌&&◌, ◌++◌, ◌+◌, ◌∙◌, ◌∷◌, ◌≡◌, ◌⊎◌}
use Rattle.std.specs.Fmt.{digits}
use Rattle.std.specs.List.{AllByRecursion, slice_get}
use Rattle.std.specs.Prelude.{IsSome}
use Rattle.job_model.specs.declared.events.Op.TheVariants as ops
use Rattle.job_model.specs.declared.ends.SetupEnd.TheVariants as setups
use Rattle.job_model.specs.declared.ends.TaskEnd.TheVariants as tasks
use Rattle.job_model.specs.declared.ends.CommitEnd.TheVariants as commits
use Rattle.job_model.specs.declared.ends.FaultStage.TheVariants as stages
use Rattle.job_model.specs.declared.ends.OpEnd.TheVariants as ends

-- ---- the operations that ended

told_one : (x : ActorEnd) (i : ℕ) (y : ActorEnd) → slice_get (x ∷ []) i ≡ Some y → x ≡ y
told_one x i y h = grind arith

worn_none : (es : List Entry) → first_worn 3 es ≡ None → WornFirst 3 es None
worn_none es h = subst (λ o. WornFirst 3 es o) h (computed 3 [] es (none_sent 3))

-- What must hold of an operation that ended in event j with this end.
abbrev Due : ℕ → Actor → Doing → OpEnd → List Entry → Type 0
Due j a d (ends.Setup e) es = (e ≡ setups.NoMemory)
    ⊎ ((worn : Option Request) × WornFirst 3 es worn
    × SetupIs script (moment opening journal (length (before d.since journal))).content worn e)
Due j (Attempt t a) d (ends.Task e) es =
    ((e ≡ tasks.NoMemory) ⊎ ((worn : Option Request) × WornFirst 3 es worn
    × TaskIs d.op script (record { task = t; attempt = a }) es (known_then (setting script opening) (Attempt t a) d
    (by_actor (Attempt t a) journal)).publish_sent (has_cleaned (clean_event script the_ends)
    (until_last (Attempt t a) (until (j + 1) journal))) worn e))
    × (d.op ≡ ops.Commit → WasPublished script opening journal t a (j + 1))
Due j a d (ends.Commit e) es = CommitEnds script opening journal the_ends j d e es
Due j a d (ends.Clean e) es = ⊥
Due j a d _ es = Unit {0}

-- It holds if it holds for the operation of the script's event j.
due_at : (j : ℕ) (a : Actor) (op : Op) (end : OpEnd) (c : Doing) → slice_get script.events j ≡ Some (Do a op)
    → slice_get the_ends j ≡ Some (Ended end) → (after_event script (past script (take j the_ends)) (Do a op) (Ended end)).doing a ≡ Some c
    → Due j a c end (since c.since (by_actor a (until (j + 1) journal)))
    → (b : Actor) (d : Doing) (e : OpEnd) (es : List Entry) → EndedIn script the_ends journal j b d e es → Due j b d e es
due_at j a op end c g k does good b d e es h =
    let ev : Do a op ≡ h.event = some_is (sym g ∙ h.is_event) in
    let en : Ended end ≡ h.event_end = some_is (sym k ∙ h.has_ended) in
    let t : ◌≡◌ {A = ActorEnd} (record { actor = a; end = end }) (record { actor = b; end = e }) = told_one
    (record { actor = a; end = end }) h.place (record { actor = b; end = e })
    ((λ i. slice_get (told (ev i) (en i)) h.place) ∙ h.told_there) in
    let is : c ≡ d = some_is (sym does ∙ (λ i. (after_event script (past script (take j the_ends)) (ev i) (en i)).doing (t i).actor) ∙
    h.doing) in
    subst (Due j b d e) (sym h.entries_are) (subst (λ (x : Actor × Doing × OpEnd). Due j x.0 x.1 x.2
    (since x.1.since (by_actor x.0 (until (j + 1) journal)))) (λ i. ((t i).actor, is i, (t i).end)) good)

-- ---- the set-up

is_free : IsFree script opening
is_free = subst (λ c. IsFree script c) opening_is (
  subst (λ o. IsSome o) (sym (at_bucket empty_book)) refl,
  objects_at empty_book
      (codes "out"),
)

-- ---- the attempt

the_published : WasPublished script opening journal 0 0 3
unfolding digits
the_published = record {
  m = 9;
  entry = the_publishing;
  is_entry = refl;
  by = refl;
  until = omega arith;
  effective = refl;
  publishes = refl;
}

-- ---- the commit

is_marked_last : is_marked script (seen_until script opening journal the_ends 4) ≡ true
unfolding digits
is_marked_last = subst (λ c. is_marked script (seen script (commits_at 4) c journal 13) ≡ true) opening_is (
    ap (λ s. is_marked script (see_all script (commits_at 4) s journal)) (opens_is empty_book)
    ∙ ap (λ s. is_marked script s) (sees script (commits_at 4) (opens empty_book) journal refl)
    ∙ ap (λ o. true && is_some o) (objects_at (saw_all script (commits_at 4) (opens empty_book) journal).book (codes "out/_SUCCESS"))
    )

-- A property of all entries holds for each one.
each_at : (P : Entry → Type 0) (es : List Entry) → AllByRecursion P es → (before : List Entry) (e : Entry) (later : List Entry)
    → es ≡ before ++ e ∷ later → P e
each_at P (y ∷ ys) h [] e later q = let is : y ≡ e = cc in subst P is h.0
each_at P (y ∷ ys) h (x ∷ before) e later q = let rest : ys ≡ before ++ e ∷ later = cc in each_at P ys h.1 before e later rest
each_at P [] h [] e later q = absurd (cc)
each_at P [] h (x ∷ before) e later q = absurd (cc)

abbrev Reads : Entry → Type 0
Reads e = (t : ℕ) (r : Reply) → e.request ≡ set_request Magic script t → e.outcome ≡ Answered r → IsSome (set_read r)

abbrev Unrefused : Entry → Type 0
Unrefused e = (why : Refusal) → stage_of e.request ≡ stages.Complete → e.outcome ≡ Answered (Refused why) → ⊥

answer_is : {x y : Reply} → Answered x ≡ Answered y → x ≡ y
answer_is e = cc

reads_set : AllByRecursion Reads commit_entries
reads_set = grind (arith, answer_is, set_is_read)

unrefused : AllByRecursion Unrefused commit_entries
unrefused = (λ why stage got. cc, (λ why stage got. let no = answer_is got in cc, (λ why stage got. cc, tt)))

commit_so : CommitEnds script opening journal the_ends 3 commit_doing commits.Committed commit_entries
unfolding digits escape_byte
commit_so = record {
  due = λ own. record { worn = None; first = worn_none commit_entries refl; due = inr refl; answered = λ e. refl };
  marked = λ e own. is_marked_last;
  untouched = λ e. absurd (cc);
  reverted = λ e. absurd (cc);
  served = λ own. record {
    sets = λ before e later t r is. each_at Reads commit_entries reads_set before e later is t r;
    completions = λ before e later why is stage got. absurd (each_at Unrefused commit_entries unrefused before e later is why stage got);
  };
}

-- ---- each operation

due : (j : ℕ) (b : Actor) (d : Doing) (e : OpEnd) (es : List Entry) → EndedIn script the_ends journal j b d e es → Due j b d e es
unfolding digits escape_byte
due zero = due_at 0 Driver ops.Setup (ends.Setup setups.Done) setup_doing refl refl refl
    (inr (None, worn_none (since 1 (by_actor Driver (until 1 journal))) refl, (is_free, λ k. absurd (cc))))
due (suc zero) = due_at 1 worker ops.Write (ends.Task tasks.Done) write_doing refl refl refl
    (inr (None, worn_none (since 2 (by_actor worker (until 2 journal))) refl, tt), λ op. absurd (cc))
due (suc (suc zero)) = due_at 2 worker ops.Commit (ends.Task tasks.Done) task_doing refl refl refl
    (inr (None, worn_none (since 3 (by_actor worker (until 3 journal))) refl, tt), λ op. the_published)
due (suc (suc (suc zero))) = due_at 3 Driver ops.Commit (ends.Commit commits.Committed) commit_doing refl refl refl commit_so
due (suc (suc (suc (suc j)))) = λ b d e es h. absurd (none_some refl h.is_event)

-- ---- the promise

kept : Keeps script (commits_at 4) opening journal
unfolding digits escape_byte
kept = keeps nothing journal script refl (commits_at 4) refl refl refl [] refl refl

picked : all_picks script opening journal the_ends ≡ the_picks
unfolding digits
picked = refl

pub promised : Promised script opening journal the_picks the_ends
promised = record {
  always = λ own. kept.always;
  plays = plays;
  picks = ([], sym picked);
  zero_rename = kept.zero_rename;
  outside = kept.outside;
  setups = λ own j d e es h. due j Driver d (ends.Setup e) es h;
  tasks = λ own j t a d e es h. (due j (Attempt t a) d (ends.Task e) es h).0;
  publishes = λ own j t a d es h op c. (due j (Attempt t a) d (ends.Task tasks.Done) es h).1 op;
  cleans = λ j d e es h. absurd (due j Driver d (ends.Clean e) es h);
  commits = λ j d e es h. due j Driver d (ends.Commit e) es h;
}

pub one_finished : OneFileFinished
one_finished = search (promised, kept.sent, sym picked)
