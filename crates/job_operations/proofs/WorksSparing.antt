-- Each answer that S3 must give to a sparing abort or clean fits: a set that it reads names at most as many uploads as the job has files.
use Rattle.job_operations.proofs.Checking.{sparing_asks_same}
use Rattle.job_operations.proofs.WorksFew.{commits_few}
use Rattle.text_and_lists.proofs.Members.{some_is}
use Rattle.cleanup.specs.SparingFits.{FitsSparing as FitsAnswer, FitsSparingDriving, NamesFew, most_commits}
use Rattle.job_invariant.proofs.Legible.{set_read}
use Rattle.job_invariant.proofs.Placed.{staged_set}
use Rattle.job_invariant.specs.Facts.{AreCommits, Facts, IsAttempt, knowing}
use Rattle.job_invariant.specs.Spares.{AllOwn, FitsSparing}
use Rattle.job_invariant.specs.inner.Spares.{Filed}
use Rattle.job_invariant.specs.Told.{Told}
use Rattle.job_model.specs.Attempts.{Who}
use Rattle.job_model.specs.Files.{File}
use Rattle.job_model.specs.JobScript.{Script}
use Rattle.job_model.specs.Legal.{IsLegal}
use Rattle.job_protocol.specs.AtWork.{sparing_wants}
use Rattle.job_protocol.specs.Outputs.{files}
use Rattle.job_protocol.specs.Records.{files_set}
use Rattle.job_protocol.specs.Seen.{is_staging}
use Rattle.job_protocol.specs.Sparing.{Reading, Sparing, Walking, record_request, ref_of, set_names}
use Rattle.job_refinement.proofs.Pages.{page_fits}
use Rattle.job_refinement.specs.Due.{FitsDue}
use Rattle.job_refinement.specs.Plans.{driving}
use Rattle.magic_paths.specs.Layout.{cluster_prefix, magic_prefix}
use Rattle.s3_types.specs.Answer.{answer, read_answer}
use Rattle.s3_types.specs.Pages.{begins}
use Rattle.s3_types.specs.Store.{Scene}
use Rattle.s3_types.specs.declared.reply.Reply.TheVariants.{ClusterBytes}
use Rattle.s3_types.specs.declared.request.Committer.{Committer}
use Rattle.s3_types.specs.declared.request.Committer.TheVariants.{Magic}
use Rattle.s3_types.specs.declared.request.Request.TheVariants.{ClusterGet, GetObject}
use Rattle.std.proofs.Common.{List, None, Ok, Option, Some, ap, arith, inl, inr, length, refl, subst, sym, true, ℕ, [], ◌<◌, ◌^◌, ◌∙◌, ◌∷◌}
use Rattle.std.proofs.Common.{◌≡◌, ◌≤◌}
use Rattle.std.proofs.lemmas.List.{length-map}
use Rattle.std.specs.FinMap as fin
use Rattle.pending_json.specs.Reading as reading

module _ (w : Script) (minimum : ℕ) (s : Scene) (last : ℕ → Option ℕ) (m : Told) (j : IsLegal w) (facts : Facts w minimum s last m)
    (few : s.content.next ≤ 2 ^ 64) where
  -- The set of an attempt names few uploads.
  set_few : (a : Who) (cs : List File) → AreCommits w minimum (m.drawn a) a cs → (bytes : List ℕ)
      → reading.set_of bytes ≡ Ok (files_set w a cs (knowing (m.drawn a))) → NamesFew (ClusterBytes bytes)
  set_few a cs are bytes e =
      let most : length (files_set w a cs (knowing (m.drawn a))).commits ≤ most_commits = commits_few w minimum s last m j facts few
      (m.drawn a) a cs are in
      let same : length (set_names (reading.set_of bytes)) ≡ length (files_set w a cs (knowing (m.drawn a))).commits = ap
      (λ v. length (set_names v)) e ∙ length-map (files_set w a cs (knowing (m.drawn a))).commits ref_of in
      subst (λ n. n ≤ most_commits) (sym same) most

  module _ (filed : Filed w s) where
    -- A file of the job in the cluster names few uploads.
    path_few : is_staging w.committer ≡ true → (p : List ℕ) → begins (cluster_prefix w.job) p ≡ true → NamesFew (answer s (ClusterGet p))
    path_few staging p b = by (fin.get s.files p) refl
      where
        by : (o : Option (List ℕ)) → fin.get s.files p ≡ o → NamesFew (read_answer (fin.get s.files p))
        by None e = subst (λ o. NamesFew (read_answer o)) (sym e) tt
        by (Some bytes) e = subst (λ o. NamesFew (read_answer o)) (sym e) (elim (filed staging p bytes b e) [
          | inl t ↦
              let x = facts.temporaries staging t.0 bytes t.1 (ap (fin.get s.files) (sym t.2) ∙ e) in
              set_few t.0 (files w t.0) x.are bytes (ap reading.set_of x.text ∙ set_read j facts few t.0 (files w t.0) t.1 x.are)
          | inr t ↦
              let x = facts.sets t.0 bytes t.1 (staged_set w.committer w s t.0 staging ∙ ap (fin.get s.files) (sym t.2) ∙ e) in
              let d : IsAttempt w x.by = record { task = subst (λ n. n < w.tasks) (sym x.task) t.1; attempt = x.number } in
              set_few x.by x.commits x.are bytes (ap reading.set_of x.text ∙ set_read j facts few x.by x.commits d x.are)
        ])

    -- An object names few uploads, whatever it is.
    object_few : (p : List ℕ) → NamesFew (answer s (GetObject w.dest.bucket p))
    object_few p = grind arith

    read_few : (c : Committer) → w.committer ≡ c → (p : List ℕ) → AllOwn w (p ∷ []) → NamesFew (answer s (record_request c w p))
    read_few Magic e p own = object_few p
    read_few _ e p own = path_few (ap is_staging e) p (own.paths (ap is_staging e) p (inl refl))

    first_own : (p : List ℕ) (ps : List (List ℕ)) → AllOwn w (p ∷ ps) → AllOwn w (p ∷ [])
    first_own p ps h = record {
      keys = λ e k i. elim i [ inl is ↦ h.keys e k (inl is) | inr none ↦ absurd none ];
      paths = λ e k i. elim i [ inl is ↦ h.paths e k (inl is) | inr none ↦ absurd none ];
    }

    pub sparing_due : (c : Sparing) → FitsSparing w m.drawn c → FitsDue sparing_wants FitsSparingDriving (driving w c) s
    sparing_due (Walking keys) fits r e repeated = subst (λ q. FitsAnswer (Walking keys) (answer s q)) (some_is e)
        (page_fits w s facts.there (magic_prefix w.dest.key w.job) keys)
    sparing_due (Reading named p ps all) fits r e repeated =
        subst (λ q. FitsAnswer (Reading named p ps all) (answer s q)) (some_is (sym (sparing_asks_same w (Reading named p ps all)) ∙ e))
        (read_few w.committer refl p (first_own p ps fits.1))
    sparing_due _ fits r e repeated = tt
