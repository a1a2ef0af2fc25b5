-- Wrong ends of operations.
use Rattle.text_and_lists.proofs.Members.{none_some, some_is}
use Rattle.text_and_lists.specs.Order.{text_eq}
use Rattle.job_examples.proofs.Checks.{objects_at, views}
use Rattle.job_examples.proofs.Kept.{files_then}
use Rattle.job_examples.proofs.OnePlays.{commit_doing}
use Rattle.job_examples.proofs.Refusals.{at_end, owns_all}
use Rattle.job_examples.proofs.Sights.{Saw, empty_book, nothing, opens, saw_all}
use Rattle.job_examples.specs.Jobs.{commits_at, doing}
use Rattle.job_examples.specs.OneFile.{attempt_entries, opening, setting}
use Rattle.job_examples.specs.RefusedEnds.{Misended, anew_ends, anew_script, both_attempts, both_script, half_reverted, revert_ends}
use Rattle.job_examples.specs.RefusedEnds.{revert_script, strange_ends}
use Rattle.job_model.specs.JobScript.{Script}
use Rattle.job_model.specs.declared.ends.EventEnd.{EventEnd}
use Rattle.job_model.specs.declared.ends.EventEnd.TheVariants.{Ended}
use Rattle.job_model.specs.declared.ends.OpEnd.{OpEnd}
use Rattle.job_model.specs.declared.events.Event.TheVariants.{Do}
use Rattle.job_model.specs.declared.events.Op.{Op}
use Rattle.job_spec.specs.Ends.{EndedIn, commit_due}
use Rattle.job_spec.specs.Follows.{Plays, op_over}
use Rattle.job_spec.specs.Headline.{Always}
use Rattle.job_spec.specs.OperationEnds.{NoDeletionWorn}
use Rattle.job_spec.specs.Promise.{CommitsEnd}
use Rattle.job_spec.specs.States.{Doing, after_event, past}
use Rattle.job_spec.specs.Turns.{by_actor, is_wanting, since, until}
use Rattle.s3_types.specs.declared.journal.Entry.{Entry}
use Rattle.s3_types.specs.declared.request.Actor.{Actor}
use Rattle.s3_types.specs.declared.request.Actor.TheVariants.{Driver}
use Rattle.s3_types.specs.declared.request.Request.{Request}
use Rattle.std.proofs.Common.{Bool, List, None, Option, Some, ap, arith, codes, cond, false, inl, inr, is_some, refl, subst, sym, take}
use Rattle.std.proofs.Common.{true, ℕ, [], ◌&&◌, ◌+◌, ◌∙◌, ◌∷◌, ◌≡◌, ◌≤◌, ◌⊎◌}
use Rattle.std.specs.Fmt.{digits}
use Rattle.std.specs.List.{slice_get}
use Rattle.job_model.specs.declared.events.Op.TheVariants as ops
use Rattle.job_model.specs.declared.ends.CommitEnd.TheVariants as commits
use Rattle.job_model.specs.declared.ends.CleanEnd.TheVariants as cleans
use Rattle.job_model.specs.declared.ends.FaultStage.TheVariants as stages
use Rattle.job_model.specs.declared.ends.OpEnd.TheVariants as ends

-- ---- two attempts of one task

abbrev both_end : Saw
both_end = saw_all both_script (commits_at 6) (opens empty_book) both_attempts

both_in : Always both_script (commits_at 6) opening both_attempts → ⊥
unfolding digits
both_in a =
    let k = at_end nothing both_script (commits_at 6) both_attempts refl a in
    none_some ((k.whole (ap (λ o. true && is_some o) (objects_at both_end.book (codes "out/_SUCCESS")))).files (codes "a") ∙ ap (λ o. o)
    (views empty_book (codes "a"))) (views both_end.book (codes "a"))

-- ---- a task that is reported after a restart

abbrev anew_doing : Doing
anew_doing = doing ops.Commit 6 None

-- The operation that ended in an event that does a whole operation.
ended : (w : Script) (xs : List EventEnd) (journal : List Entry) (j : ℕ) (a : Actor) (op : Op) (end : OpEnd) (d : Doing)
    → slice_get w.events j ≡ Some (Do a op) → slice_get xs j ≡ Some (Ended end)
    → (after_event w (past w (take j xs)) (Do a op) (Ended end)).doing a ≡ Some d
    → EndedIn w xs journal j a d end (since d.since (by_actor a (until (j + 1) journal)))
ended w xs journal j a op end d is has does = record {
  event = Do a op;
  event_end = Ended end;
  is_event = is;
  has_ended = has;
  place = 0;
  told_there = refl;
  doing = does;
  entries_are = refl;
}

not_due : (worn : Option Request) → (commits.Missing 0 ≡ commits.NoMemory)
    ⊎ (commits.Missing 0 ≡ commit_due anew_script (λ t. None) None worn) → ⊥
not_due worn h = grind arith

anew_in : CommitsEnd anew_script opening [] anew_ends → ⊥
anew_in h = let d = (h 5 anew_doing (commits.Missing 0) [] (ended anew_script anew_ends [] 5 Driver ops.Commit
    (ends.Commit (commits.Missing 0)) anew_doing refl refl refl)).due tt in not_due d.worn d.due

-- ---- a revert

abbrev revert_doing : Doing
revert_doing = doing ops.Commit 4 None

abbrev revert_entries : List Entry
revert_entries = since 4 (by_actor Driver (until 4 half_reverted))

one_answer : (c : Bool) (n : ℕ) → slice_get (cond c (true ∷ []) []) n ≡ Some false → ⊥
one_answer c n h = grind arith

none_worn : NoDeletionWorn 0 revert_entries
none_worn bucket key w = let e : w.0 + 0 ≡ w.0 = omega arith in one_answer (text_eq bucket (codes "lake") && text_eq key (codes "out/b"))
    w.0 (rw e at (w.1 0 (omega arith)))

left_in : CommitsEnd revert_script opening half_reverted revert_ends → ⊥
left_in h =
    let this = ended revert_script revert_ends half_reverted 3 Driver ops.Commit (ends.Commit (commits.StoreFault stages.Complete))
    revert_doing refl refl refl in
    none_some (files_then nothing half_reverted refl 0 (codes "a"))
    ((h 3 revert_doing (commits.StoreFault stages.Complete) revert_entries this).reverted refl none_worn (owns_all half_reverted refl)
    (codes "a") (codes "hello") (files_then nothing half_reverted refl 8 (codes "a")))

-- ---- an operation that runs out of memory

abbrev memory : OpEnd
memory = ends.Clean cleans.NoMemory

abbrev mine : List Entry
mine = by_actor Driver (until 4 attempt_entries)

strange_in : Plays setting strange_ends attempt_entries → ⊥
strange_in p =
    let o = (p.obeyed 3 (Do Driver ops.Commit) (Ended memory) refl refl).over 0 (record { actor = Driver; end = memory }) refl in
    elim (subst (λ (v : Doing). (is_wanting Driver v.op memory ≡ true) ⊎ (op_over setting Driver v mine ≡ Some memory))
    (sym (some_is {x = commit_doing} o.1)) o.2) [ inl w ↦ cc | inr e ↦ cc ]

pub misended : Misended
misended = record {
  both = both_in;
  left = left_in;
  anew = anew_in;
  beyond = λ p. let h : 5 ≤ 4 = p.within in absurd (omega arith);
  strange = strange_in;
}
