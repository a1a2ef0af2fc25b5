-- In a run, an attempt's write or commit finds nothing gone until the driver's abort or clean has begun, and a commit that is done has
-- published.
use Rattle.text_and_lists.proofs.Members.{false_true, none_some, some_is, true_or_false}
use Rattle.job_invariant.specs.Standing.{CommitStandsBy}
use Rattle.job_invariant.specs.Told.{Told, nothing_told}
use Rattle.job_model.specs.Attempts.{Who, actor_of}
use Rattle.job_model.specs.Files.{File}
use Rattle.job_model.specs.Known.{Known}
use Rattle.job_model.specs.Legal.{IsLegal}
use Rattle.job_model.specs.declared.ends.OpEnd.{OpEnd}
use Rattle.job_model.specs.declared.events.Op.{Op}
use Rattle.job_outcomes.proofs.RunEntries.{at_last, behind_last}
use Rattle.job_outcomes.proofs.TaskEnds.{commit_going}
use Rattle.job_outcomes.specs.TaskEnds.{is_abort}
use Rattle.job_protocol.specs.Operations.{Operation, Setting, TheTaskCommit, over, start_of}
use Rattle.job_protocol.specs.Outputs.{files}
use Rattle.job_protocol.specs.Seen.{Seen, Times}
use Rattle.job_spec.specs.Ends.{has_cleaned}
use Rattle.job_spec.specs.OperationEnds.{WasPublished}
use Rattle.job_spec.specs.Turns.{until_last}
use Rattle.protocol_runs.proofs.Entries.{tells_so}
use Rattle.protocol_runs.proofs.Learnt.{cleaned_is}
use Rattle.protocol_runs.proofs.Published.{Own, StandsBy, has_published, longer_published, standing}
use Rattle.protocol_runs.specs.Runs.{IsOpening, Runs, Stand}
use Rattle.retries.specs.Retries.{fresh}
use Rattle.s3_types.specs.Store.{Content}
use Rattle.s3_types.specs.declared.journal.Entry.{Entry}
use Rattle.s3_types.specs.declared.request.Committer.{Committer}
use Rattle.std.proofs.Common.{Bool, List, None, Option, Some, ap, arith, false, inl, inr, refl, subst, sym, true, ℕ, [], ◌∙◌, ◌≡◌}
use Rattle.std.specs.Option.{option_map}
use Rattle.job_model.specs.declared.events.Op.TheVariants as ops
use Rattle.job_model.specs.declared.ends.TaskEnd.TheVariants as tasks
use Rattle.job_model.specs.declared.ends.OpEnd.TheVariants as ends
use Rattle.job_protocol.specs.Writes as writes
use Rattle.job_protocol.specs.TaskCommits as commits

module _ (g : Setting) (k : Times) (opening : Content) (j : IsLegal g.script) (is_opening : IsOpening g opening) where
  never_commit : (P : Type 0) (s : Seen) (a : Who) (repeated : Bool) (t : commits.TaskCommit) (name : List ℕ)
      → CommitStandsBy P g.script s a repeated t → option_map ends.Task (commits.task_commit_over t) ≡ Some (ends.Task (tasks.Gone name))
      → ⊥
  never_commit P s a repeated t name h g = grind arith

  never : (P : Type 0) (s : Seen) (a : Who) (op : Operation) (name : List ℕ) → StandsBy g k opening j is_opening P s a op
      → is_abort op ≡ false → over op ≡ Some (ends.Task (tasks.Gone name)) → ⊥
  never P s a op name h g e = grind arith

  cleaned_so : (c : Option ℕ) (es : List Entry) (x : Stand) → Runs g k opening es x → x.told.cleans_at ≡ c
      → x.told.cleaned ≡ has_cleaned c es
  cleaned_so c es x run at = ap (λ (m : Told). m.cleaned) (tells_so g k opening j is_opening es x run) ∙ cleaned_is g.script es
      (nothing_told x.told.cleans_at) ∙ ap (λ v. has_cleaned v es) at

  -- ---- no operation begins in such a state

  write_begun : (c : Committer) (fs : List File) (name : List ℕ)
      → option_map ends.Task (writes.write_over (writes.write_start_by c fs)) ≡ Some (ends.Task (tasks.Gone name)) → ⊥
  write_begun c fs name h = grind arith

  commit_goes : (a : Who) (op : Operation) (e : OpEnd) → TheTaskCommit (fresh g.script.retries (commits.task_commit_start g.script a)) ≡ op
      → over op ≡ Some e → ⊥
  commit_goes a op e is o = none_some (ap (option_map ends.Task) (commit_going g.script.committer g.script a)) (ap over is ∙ o)

  gone_late : (op : Operation) (name : List ℕ) → is_abort op ≡ false → over op ≡ Some (ends.Task (tasks.Gone name))
      → (b : Who) (o : Op) (m : Known) → start_of g (actor_of b) o (record { missing = None; attempts = [] }) m ≡ Some op → ⊥
  gone_late op name not_abort e b ops.Write m s = write_begun g.script.committer (files g.script b) name (ap over (some_is s) ∙ e)
  gone_late op name not_abort e b ops.Commit m s = commit_goes b op _ (some_is s) e
  gone_late op name not_abort e b ops.Abort m s = false_true not_abort (sym (ap is_abort (some_is s)))
  gone_late op name not_abort e b _ m s = none_some refl s

  abbrev done : ℕ → Bool → Operation
  done spare repeated = TheTaskCommit (record { operation = commits.TaskCommitOver tasks.Done; spare = spare; repeated = repeated })

  done_late : (spare : ℕ) (repeated : Bool) (b : Who) (o : Op) (m : Known)
      → start_of g (actor_of b) o (record { missing = None; attempts = [] }) m ≡ Some (done spare repeated) → ⊥
  done_late spare repeated b ops.Commit m s = commit_goes b (done spare repeated) _ (some_is s) refl
  done_late spare repeated b ops.Setup m s = none_some refl s
  done_late spare repeated b ops.Clean m s = none_some refl s
  done_late spare repeated b _ m s = absurd cc

  -- ---- the same in the run up to the attempt's last entry

  pub gone_cleaned : (es : List Entry) (x : Stand) → Runs g k opening es x → (a : Who) (op : Operation) (name : List ℕ)
      → x.attempts a ≡ Some op → is_abort op ≡ false → over op ≡ Some (ends.Task (tasks.Gone name))
      → has_cleaned x.told.cleans_at (until_last (actor_of a) es) ≡ true
  gone_cleaned es x run a op name at not_abort e =
      let then = at_last g k opening a op (gone_late op name not_abort e) es x run at in
      let front = until_last (actor_of a) es in
      sym (cleaned_so x.told.cleans_at front then.0 then.1 then.2) ∙ elim (true_or_false then.0.told.cleaned) [
        | inl h ↦ h
        | inr h ↦ absurd (never (Own g k opening j is_opening front a) then.0.seen a op name
            ((standing g k opening j is_opening front then.0 then.1).stands h a op then.3) not_abort e)
      ]

  pub done_published : (es : List Entry) (x : Stand) → Runs g k opening es x → (a : Who) (spare : ℕ) (repeated : Bool)
      → x.attempts a ≡ Some (done spare repeated) → has_cleaned x.told.cleans_at (until_last (actor_of a) es) ≡ false → (n : ℕ)
      × WasPublished g.script opening es a.task a.attempt n
  done_published es x run a spare repeated at clean =
      let then = at_last g k opening a (done spare repeated) (done_late spare repeated) es x run at in
      let front = until_last (actor_of a) es in
      let p = has_published g k opening j is_opening front then.0 then.1 (cleaned_so x.told.cleans_at front then.0 then.1 then.2 ∙ clean) a
      spare repeated then.3 in
      let more = behind_last (actor_of a) es in (
        p.0,
        subst (λ l. WasPublished g.script opening l a.task a.attempt p.0) more.1
            (longer_published g.script opening front more.0 a.task a.attempt p.0 p.0 p.1 p.1.until),
      )
