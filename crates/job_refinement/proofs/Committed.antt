-- The facts of the driver's commit hold on, whoever sends.
use Rattle.job_invariant.proofs.Acting.{operation_goes}
use Rattle.job_invariant.proofs.Beside.{beside, job_commit_begins}
use Rattle.job_invariant.proofs.Deciding.{d_start, decides_goes}
use Rattle.job_invariant.proofs.Driving.{driving_keeps}
use Rattle.job_invariant.proofs.EndedGone.{commit_gone, others_gone}
use Rattle.job_invariant.proofs.FilingLaws.{decides_beside}
use Rattle.job_invariant.proofs.Foreign.{foreign_keeps}
use Rattle.job_invariant.proofs.JobCommitting.{commit_drives, commit_fits}
use Rattle.job_invariant.proofs.Turning.{commit_turns}
use Rattle.job_invariant.specs.Facts.{Hold, IsAttempt}
use Rattle.job_invariant.specs.Filed.{Gone}
use Rattle.job_invariant.specs.FiledLaws.{Commits}
use Rattle.job_invariant.specs.Fits.{Fits}
use Rattle.job_invariant.specs.Foreign.{IsForeign}
use Rattle.job_invariant.specs.Told.{Told, driver_entry, entry, known, strange_entry, tell}
use Rattle.job_invariant.specs.Turning.{NoneEnded, Turns}
use Rattle.job_model.specs.Attempts.{Who}
use Rattle.job_model.specs.JobScript.{Script}
use Rattle.job_model.specs.Legal.{IsLegal}
use Rattle.job_protocol.proofs.LaneTables.{tabled_start, tabled_tells}
use Rattle.job_protocol.specs.JobCommits.{Commit, commit_asks, commit_start, commit_tells}
use Rattle.job_protocol.specs.Operations.{Operation, Setting, asks}
use Rattle.job_protocol.specs.Seen.{Seen, Times, is_begun, is_magic, see}
use Rattle.s3_types.specs.Answer.{answer}
use Rattle.s3_types.specs.Moment.{IsHonestOutcome, effect}
use Rattle.s3_types.specs.Store.{Scene}
use Rattle.s3_types.specs.declared.journal.Outcome.{Outcome}
use Rattle.s3_types.specs.declared.request.Request.{Request}
use Rattle.std.proofs.Common.{None, Option, Some, ap, arith, false, refl, subst, sym, ℕ, ◌<◌, ◌^◌, ◌||◌, ◌∙◌, ◌≡◌, ◌≤◌, ◌⊎◌}

-- ---- the beginning

module _ (w : Script) (m : Told) where
  turns_begin : (missing : Option ℕ) → (missing ≡ None → (0 < w.tasks) ⊎ (is_magic w.committer ≡ false) → NoneEnded m)
      → Turns m (commit_start w missing)
  turns_begin missing h = grind arith

pub commits_begin : (w : Script) (minimum : ℕ) (s : Seen) (m : Told) → IsLegal w → Hold w minimum s m → Gone w s.scene.content m
    → (missing : Option ℕ) → (missing ≡ None → (0 < w.tasks) ⊎ (is_magic w.committer ≡ false) → NoneEnded m)
    → Commits w minimum s m (commit_start w missing)
commits_begin w minimum s m j h gone missing none = record {
  hold = h;
  gone = gone;
  fits = job_commit_begins w minimum j m missing;
  tabled = tabled_start w missing j.one_lane;
  turns = turns_begin w m missing none;
  decides = d_start w minimum m.publish_sent m.drawn missing;
}

-- ---- its own requests

driver_scene : (w : Script) (k : Times) (s : Seen) (n : ℕ) (r : Request) (o : Outcome)
    → (see w k s (driver_entry n r o)).scene ≡ effect s.scene r o
driver_scene w k s n r o = grind arith

pub commits_go : (g : Setting) → IsLegal g.script → (k : Times) (s : Seen) (m : Told) (n : ℕ) (c : Commit)
    → Commits g.script g.minimum s m c → s.scene.content.next ≤ 2 ^ 64
    → (r : Request) → commit_asks g.script c ≡ Some r → (o : Outcome) → IsHonestOutcome o (answer s.scene r)
    → Commits g.script g.minimum (see g.script k s (driver_entry n r o)) (tell g.script m (driver_entry n r o))
    (commit_tells g.script c o)
commits_go g j k s m n c v few r e o honest = record {
  hold = driving_keeps g.script g.minimum k s m n r o j (commit_drives g.script g.minimum k s m n j v.hold c v.fits r e) v.hold;
  gone = subst (λ (x : Scene). Gone g.script x.content (tell g.script m (driver_entry n r o))) (sym (driver_scene g.script k s n r o))
      (commit_gone j v.hold v.gone c v.fits v.tabled v.decides r e o);
  fits = commit_fits g.script g.minimum k s m n j v.hold c v.fits few r e o honest;
  tabled = tabled_tells g.script c o j.one_lane v.tabled;
  turns = commit_turns g j s m v.hold c v.fits v.tabled v.turns r e o;
  decides = decides_goes j v.hold c v.fits v.tabled v.decides o;
}

pub still_unclean : (w : Script) (minimum : ℕ) (s : Seen) (m : Told) (n : ℕ) (c : Commit) → Commits w minimum s m c → (r : Request)
    → commit_asks w c ≡ Some r → (o : Outcome) → m.cleaned ≡ false → is_begun m.cleans_at n ≡ false
    → (tell w m (driver_entry n r o)).cleaned ≡ false
still_unclean w minimum s m n c v r e o h late = ap (λ b. b || is_begun m.cleans_at n) h ∙ late

-- ---- requests of others

attempt_scene : (w : Script) (k : Times) (s : Seen) (a : Who) (n : ℕ) (r : Request) (o : Outcome)
    → (see w k s (entry a n r o)).scene ≡ effect s.scene r o
attempt_scene w k s a n r o = grind arith

-- The turns stay the same after requests of others, since only the driver ends uploads.
same_turns : (m now : Told) (c : Commit) → now.ended ≡ m.ended → Turns m c → Turns now c
same_turns m now c e h = grind arith

pub commits_beside : (g : Setting) → IsLegal g.script → (k : Times) (s : Seen) (m : Told) (a : Who) (n : ℕ) (c : Commit)
    → Commits g.script g.minimum s m c → IsAttempt g.script a → (op : Operation) → Fits g.script g.minimum a m op
    → (r : Request) → asks g a (known m a) op ≡ Some r → (o : Outcome) → IsHonestOutcome o (answer s.scene r)
    → Commits g.script g.minimum (see g.script k s (entry a n r o)) (tell g.script m (entry a n r o)) c
commits_beside g j k s m a n c v d op fits r e o honest = record {
  hold = (operation_goes g j k s m a n d v.hold op fits r e o honest).hold;
  gone = subst (λ (x : Scene). Gone g.script x.content (tell g.script m (entry a n r o))) (sym (attempt_scene g.script k s a n r o))
      (others_gone g.script s.scene v.hold.there m.ended v.gone r o);
  fits = beside g m a op fits r e o c v.fits;
  tabled = v.tabled;
  turns = same_turns m (tell g.script m (entry a n r o)) c refl v.turns;
  decides = decides_beside g m a op fits r e o c v.decides;
}

pub commits_foreign : (w : Script) (minimum : ℕ) → IsLegal w → (k : Times) (s : Seen) (m : Told) (n : ℕ) (c : Commit)
    → Commits w minimum s m c → (r : Request) → IsForeign w m.drawn r → (o : Outcome)
    → Commits w minimum (see w k s (strange_entry n r o)) (tell w m (strange_entry n r o)) c
commits_foreign w minimum j k s m n c v r f o = record {
  hold = foreign_keeps w minimum k s m n r o j f v.hold;
  gone = others_gone w s.scene v.hold.there m.ended v.gone r o;
  fits = v.fits;
  tabled = v.tabled;
  turns = v.turns;
  decides = v.decides;
}
