-- The sets of attempts of the job are sets of its tasks.
use Rattle.text_and_lists.proofs.Members.{none_some, some_is}
use Rattle.text_and_lists.specs.Members.{IsIn}
use Rattle.commit_lanes.specs.ReadSets.{AreRead, IsSetOf}
use Rattle.job_invariant.proofs.Legal.{some_dest}
use Rattle.job_invariant.proofs.Placed.{one_key}
use Rattle.job_invariant.specs.Driver.{Reads}
use Rattle.job_invariant.specs.Facts.{ApartFiles, AreCommits, knowing}
use Rattle.job_model.specs.Attempts.{Who}
use Rattle.job_model.specs.Files.{File}
use Rattle.job_model.specs.JobScript.{Script}
use Rattle.job_model.specs.Known.{Drawn}
use Rattle.job_model.specs.Legal.{IsLegal}
use Rattle.job_protocol.specs.AtWork.{job_of, read_script}
use Rattle.job_protocol.specs.JobCommits.{Sets, set_request}
use Rattle.job_protocol.specs.Knowledge.{drawn_for}
use Rattle.job_protocol.specs.Records.{file_key, file_record, files_set}
use Rattle.magic_paths.proofs.Tails.{below_is}
use Rattle.path_keys.proofs.Beneath.{behind_some}
use Rattle.path_keys.specs.Paths.{relative_in}
use Rattle.pending_json.specs.Pending.{Pending}
use Rattle.s3_types.specs.declared.request.Committer.{Committer}
use Rattle.std.proofs.Common.{Bool, List, Some, ap, arith, inl, inr, is_some, map, refl, slice_get, subst, suc, sym, zero, ℕ, [], ◌∙◌, ◌∷◌}
use Rattle.std.proofs.Common.{◌≡◌}

module _ {w : Script} (j : IsLegal w) where
  -- The path of a file's key below the destination is the file's path.
  pub path_back : (f : File) → relative_in w.dest.key (file_key w f) ≡ Some f.0
  path_back f = behind_some w.dest.key (file_key w f) (47 ∷ f.0) f.0 (some_dest j) (below_is w.dest.key f.0 (some_dest j)) refl

  module _ (a : Who) (ds : List Drawn) where
    -- the upload of a file
    abbrev pub upload_of : File → Pending
    upload_of f = file_record w a f (drawn_for (knowing ds) (file_key w f))

    abbrev pub uploads_of : List File → List Pending
    uploads_of fs = map upload_of fs

    one_of : (fs : List File) (n : ℕ) (c : Pending) → slice_get (uploads_of fs) n ≡ Some c → (f : File) × IsIn f fs × (upload_of f ≡ c)
    one_of [] n c e = absurd (none_some refl e)
    one_of (f ∷ fs) zero c e = (f, inl refl, some_is e)
    one_of (f ∷ fs) (suc n) c e = let old = one_of fs n c e in (old.0, inr old.1, old.2)

    -- Two uploads to the same key are the same upload.
    apart_at : (fs : List File) → ApartFiles fs → (i n : ℕ) (c d : Pending) → slice_get (uploads_of fs) i ≡ Some c
        → slice_get (uploads_of fs) n ≡ Some d → c.destination ≡ d.destination → i ≡ n
    apart_at [] h i n c d e g k = absurd (none_some refl e)
    apart_at (f ∷ fs) h zero zero c d e g k = refl
    apart_at (f ∷ fs) h zero (suc n) c d e g k =
        let o = one_of fs n d g in
        absurd (h.0 o.0 o.1 (one_key j f o.0 (ap (λ (p : Pending). p.destination) (some_is e) ∙ k ∙ ap (λ (p : Pending). p.destination)
        (sym o.2))))
    apart_at (f ∷ fs) h (suc i) zero c d e g k =
        let o = one_of fs i c e in
        absurd (h.0 o.0 o.1 (one_key j f o.0 (ap (λ (p : Pending). p.destination) (some_is g) ∙ sym k ∙ ap (λ (p : Pending). p.destination)
        (sym o.2))))
    apart_at (f ∷ fs) h (suc i) (suc n) c d e g k = ap suc (apart_at fs h.1 i n c d e g k)

  -- the set of an attempt of the task
  pub set_is : (minimum t : ℕ) (a : Who) (ds : List Drawn) (commits : List File) → AreCommits w minimum ds a commits → a.task ≡ t
      → IsSetOf (job_of w) t (files_set w a commits (knowing ds))
  set_is minimum t a ds commits are e = record {
    job = refl;
    task = e;
    bucket = λ n c g. let o = one_of a ds commits n c g in ap (λ (p : Pending). p.bucket) (sym o.2);
    below = λ n c g. let o = one_of a ds commits n c g in ap (λ (p : Pending). is_some (relative_in w.dest.key p.destination)) (sym o.2) ∙
        ap is_some (path_back o.0);
    apart = λ i n c d g h k. apart_at a ds commits are.once i n c d g h k;
  }

  -- The sets that the driver holds are sets of its tasks, too.
  pub are_read : (minimum : ℕ) (sent : Who → Bool) (drawn : Who → List Drawn) (sets : Sets) → Reads w minimum sent drawn sets
      → AreRead (job_of w) sets
  are_read minimum sent drawn sets reads n s e = let h = reads n s e in subst (IsSetOf (job_of w) n) (sym h.is)
      (set_is minimum n h.by (drawn h.by) h.commits h.are h.task)

-- The read of a set, by the script that the sets give.
pub same_read : (c : Committer) (w : Script) (sets : Sets) (t : ℕ) → set_request c (read_script (job_of w) sets) t ≡ set_request c w t
same_read c w sets t = grind arith
