-- When the driver's commit goes on with its sets, all are read and no two share a path; and a revert names only their uploads.
use Rattle.job_invariant.proofs.Held.{Course, completing_so, fetched_so, fetching_so, missed, of_sets, revert_each, swept_so, tells_so}
use Rattle.job_invariant.proofs.Held.{worn}
use Rattle.job_invariant.specs.Driver.{FitsJobCommit}
use Rattle.job_invariant.specs.Facts.{Facts}
use Rattle.job_invariant.specs.Filed.{AreDecided, AreReverts, Decides}
use Rattle.job_invariant.specs.Told.{Told}
use Rattle.job_model.specs.Attempts.{Who}
use Rattle.job_model.specs.JobScript.{Script}
use Rattle.job_model.specs.Known.{Drawn}
use Rattle.job_model.specs.Legal.{IsLegal}
use Rattle.job_protocol.specs.JobCommits.{Commit, Completing, Fetching, Replacing, Reverting, all_commits, commit_hears, commit_start}
use Rattle.job_protocol.specs.JobCommits.{commit_tells, is_no_magic, reverting, set_read}
use Rattle.job_protocol.specs.LaneTable.{Tabled}
use Rattle.job_protocol.specs.Lanes.{follow, revert}
use Rattle.list_walk.specs.Walks.{sweep_hears}
use Rattle.s3_types.specs.Store.{Scene}
use Rattle.s3_types.specs.declared.journal.Outcome.{Outcome}
use Rattle.s3_types.specs.declared.reply.Reply.{Reply}
use Rattle.s3_types.specs.declared.request.Request.{Request}
use Rattle.std.proofs.Common.{Bool, List, None, Option, Some, arith, inl, inr, length, length-append, refl, ℕ, [], ◌++◌, ◌+◌, ◌∷◌, ◌≡◌, ◌≤◌}

module _ (w : Script) (minimum : ℕ) (sent : Who → Bool) (drawn : Who → List Drawn) where
  abbrev D : Commit → Type 0
  D c = Decides w minimum sent drawn c

  d_course : Course w D (λ sets. length sets ≤ w.tasks) (λ sets ps. AreDecided w sets)
  d_course = grind arith

  d_reverting : (rs : List Request) → AreReverts w minimum sent drawn rs → D (reverting rs)
  d_reverting rs h = grind arith

  pub d_start : (missing : Option ℕ) → D (commit_start w missing)
  d_start (Some t) = tt
  d_start None = fetching_so d_course [] (omega arith)

  d_heard : (c : Commit) → D c → (x : Reply) → D (commit_hears w c x)
  d_heard (Fetching sets n) h x = fetched_so d_course sets (set_read x) h (omega (arith, h))
      (λ y e. let more : length (sets ++ y ∷ []) ≡ length sets + 1 = length-append sets (y ∷ []) in omega (arith, h, more))
  d_heard (Replacing sets p ps s n) h x = swept_so d_course sets p ps (sweep_hears (is_no_magic w) s x) h (λ t e. h)
  d_heard (Completing sets y ys finished) h x = completing_so D sets (ys ++ follow w.lanes (length (all_commits sets)) y.number)
      (y.number ∷ finished) h (λ z zs. h)
  d_heard (Reverting q qs n) h x = d_reverting qs (λ r i. h r (inr i))
  d_heard _ h x = tt

  d_missed : (c : Commit) → D c → (lost : Bool) → D (missed c lost)
  d_missed c h lost = grind arith

module _ {w : Script} {minimum : ℕ} {s : Scene} {last : ℕ → Option ℕ} {m : Told} (j : IsLegal w) (f : Facts w minimum s last m) where
  d_worn : (c : Commit) → FitsJobCommit w minimum m.publish_sent m.drawn c → Tabled w c → D w minimum m.publish_sent m.drawn c
      → D w minimum m.publish_sent m.drawn (worn c)
  d_worn (Completing sets x xs finished) reads t h = d_reverting w minimum m.publish_sent m.drawn
      (revert (all_commits sets) x.number xs finished) (λ r i.
      let o = revert_each (all_commits sets) x.number xs finished (t.within x (inl refl)) t.done_within r i in
      (o.0, (of_sets j f sets reads o.0 o.1).1.commit, o.2))
  d_worn (Reverting q qs n) fits t h = d_reverting w minimum m.publish_sent m.drawn qs (λ r i. h r (inr i))
  d_worn _ fits t h = tt

  pub decides_goes : (c : Commit) → FitsJobCommit w minimum m.publish_sent m.drawn c → Tabled w c
      → Decides w minimum m.publish_sent m.drawn c → (o : Outcome) → Decides w minimum m.publish_sent m.drawn (commit_tells w c o)
  decides_goes c fits t h o = tells_so w (D w minimum m.publish_sent m.drawn) c o (λ x e. d_heard w minimum m.publish_sent m.drawn c h x)
      (λ lost. d_missed w minimum m.publish_sent m.drawn c h lost) (d_worn c fits t h)
