-- A set that the driver reads in a legal job has at most as many uploads as the job has files.
use Rattle.text_and_lists.proofs.Members.{some_is}
use Rattle.text_and_lists.specs.Members.{IsIn}
use Rattle.cleanup.specs.SparingFits.{most_commits}
use Rattle.commit_lanes.specs.CommitEnds.{HasFew, ReadsFew}
use Rattle.job_invariant.proofs.Legal.{files_are, written}
use Rattle.job_invariant.proofs.Replies.{set_answered}
use Rattle.job_invariant.specs.Driver.{FitsJobCommit}
use Rattle.job_invariant.specs.Facts.{ApartFiles, AreCommits, Facts, knowing}
use Rattle.job_invariant.specs.Told.{Told}
use Rattle.job_model.specs.Attempts.{Declared, Who, same_name}
use Rattle.job_model.specs.Files.{File}
use Rattle.job_model.specs.JobScript.{Script}
use Rattle.job_model.specs.Known.{Drawn}
use Rattle.job_model.specs.Legal.{IsLegal, files_in}
use Rattle.job_protocol.specs.JobCommits.{Commit, Fetching, commit_asks, set_read, set_request}
use Rattle.job_protocol.specs.Knowledge.{drawn_for}
use Rattle.job_protocol.specs.Outputs.{files}
use Rattle.job_protocol.specs.Records.{file_key, file_record, files_set}
use Rattle.s3_types.specs.Answer.{answer}
use Rattle.s3_types.specs.Moment.{IsHonestOutcome}
use Rattle.s3_types.specs.Store.{Scene}
use Rattle.s3_types.specs.declared.journal.Outcome.{Outcome}
use Rattle.s3_types.specs.declared.journal.Outcome.TheVariants.{Answered}
use Rattle.s3_types.specs.declared.request.Request.{Request}
use Rattle.std.proofs.Common.{List, Option, Some, ap, arith, inl, inr, length, refl, subst, suc, sym, ℕ, [], ◌<◌, ◌^◌, ◌∙◌, ◌∷◌, ◌≡◌, ◌≤◌}
use Rattle.std.proofs.lemmas.List.{length-map}
use Rattle.std.specs.Map.{lookup}
use Rattle.std.specs.Option.{unwrap_or}

-- ---- distinct files among others are no more than those

-- the files without one of them
abbrev without : (x : File) (ys : List File) → IsIn x ys → List File
without x [] i = []
without x (y ∷ ys) (inl e) = ys
without x (y ∷ ys) (inr i) = y ∷ without x ys i

one_less : (x : File) (ys : List File) (i : IsIn x ys) → length ys ≡ suc (length (without x ys i))
one_less x [] i = absurd i
one_less x (y ∷ ys) (inl e) = refl
one_less x (y ∷ ys) (inr i) = ap suc (one_less x ys i)

still_in : (x z : File) → (x.0 ≡ z.0 → ⊥) → (ys : List File) (i : IsIn x ys) → IsIn z ys → IsIn z (without x ys i)
still_in x z ne [] i k = absurd i
still_in x z ne (y ∷ ys) (inl e) (inl is) = absurd (ne (ap (λ (f : File). f.0) (e ∙ sym is)))
still_in x z ne (y ∷ ys) (inl e) (inr k) = k
still_in x z ne (y ∷ ys) (inr i) (inl is) = inl is
still_in x z ne (y ∷ ys) (inr i) (inr k) = inr (still_in x z ne ys i k)

no_more : (xs ys : List File) → ApartFiles xs → ((f : File) → IsIn f xs → IsIn f ys) → length xs ≤ length ys
no_more [] ys apart all = omega arith
no_more (x ∷ xs) ys apart all =
    let i = all x (inl refl) in
    let old : length xs ≤ length (without x ys i) = no_more xs (without x ys i) apart.1
    (λ f k. still_in x f (apart.0 f k) ys i (all f (inr k))) in
    omega (arith, old, one_less x ys i)

-- ---- the files of an attempt

declared_few : (es : List Declared) (a : Who) → length (unwrap_or (lookup (same_name a) es) []) ≤ files_in es
declared_few [] a = omega arith
declared_few (e ∷ es) a = grind (arith, declared_few es a)

files_few : (w : Script) → IsLegal w → (a : Who) → length (files w a) ≤ most_commits
files_few w h a = grind (arith, written, files_are, length-map, declared_few)

-- ---- a set that was read

module _ (w : Script) (minimum : ℕ) (s : Scene) (last : ℕ → Option ℕ) (m : Told) (j : IsLegal w) (facts : Facts w minimum s last m)
    (few : s.content.next ≤ 2 ^ 64) where
  pub commits_few : (ds : List Drawn) (a : Who) (commits : List File) → AreCommits w minimum ds a commits
      → HasFew most_commits (Some (files_set w a commits (knowing ds)))
  commits_few ds a commits are =
      let all = no_more commits (files w a) are.once are.each in
      omega (arith, all, files_few w j a, length-map commits (λ f. file_record w a f (drawn_for (knowing ds) (file_key w f))))

  set_few : (t : ℕ) → t < w.tasks → HasFew most_commits (set_read (answer s (set_request w.committer w t)))
  set_few t low = elim (set_answered j facts few t low) [
    | inl none ↦ elim none [
      | inl key ↦ subst (λ x. HasFew most_commits (set_read x)) (sym key) tt
      | inr file ↦ subst (λ x. HasFew most_commits (set_read x)) (sym file) tt
    ]
    | inr there ↦ let o = there.set in subst (HasFew most_commits) (sym there.is_read) (commits_few (m.drawn o.by) o.by o.commits o.are)
  ]

  -- A set in any honest outcome has few uploads.
  pub reads_few : (c : Commit) → FitsJobCommit w minimum m.publish_sent m.drawn c → (r : Request) → commit_asks w c ≡ Some r → (o : Outcome)
      → IsHonestOutcome o (answer s r) → ReadsFew most_commits c o
  reads_few (Fetching sets n) fits r e (Answered x) honest = subst (λ y. HasFew most_commits (set_read y))
      (sym (honest ∙ ap (answer s) (sym (some_is e)))) (set_few (length sets) fits.0)
  reads_few _ fits r e _ honest = tt
