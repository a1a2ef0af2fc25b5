-- What one more entry changes in what a journal shows. The scene is its effect. An entry that reads no set leaves the picks, and one that
-- puts no marker leaves the marker.
use Rattle.text_and_lists.proofs.Members.{false_true, some_is}
use Rattle.job_invariant.proofs.Sharing.{Plain}
use Rattle.job_invariant.specs.Filed.{Decides}
use Rattle.job_invariant.specs.Told.{Told, driver_entry}
use Rattle.job_model.specs.JobScript.{Script}
use Rattle.job_protocol.specs.Cleanups.{Clean, clean_asks}
use Rattle.job_protocol.specs.JobCommits.{Commit, CommitOver, Fetching, Replacing, Reverting, commit_asks}
use Rattle.job_protocol.specs.Seen.{Seen, Times, is_begun, is_marking, is_picking, is_reading, see}
use Rattle.job_protocol.specs.Setup.{Setup, setup_asks}
use Rattle.list_walk.specs.Walks.{Sweep, sweep_asks}
use Rattle.s3_types.specs.Moment.{effect}
use Rattle.s3_types.specs.declared.journal.Entry.{Entry}
use Rattle.s3_types.specs.declared.journal.Outcome.{Outcome}
use Rattle.s3_types.specs.declared.request.Actor.TheVariants.{Driver}
use Rattle.s3_types.specs.declared.request.Request.{Request}
use Rattle.std.proofs.Common.{Bool, List, Some, ap, arith, false, inl, inr, refl, sym, true, ℕ, ◌||◌, ◌∙◌, ◌≡◌}
use Rattle.std.proofs.Math.Bool.{and-false}

pub one_scene : (w : Script) (k : Times) (s : Seen) (e : Entry) → (see w k s e).scene ≡ effect s.scene e.request e.outcome
one_scene w k s e = grind arith

module _ (w : Script) (k : Times) (s : Seen) (n : ℕ) (r : Request) where
  pub plain_picks : ((t : ℕ) → is_reading w t r ≡ false) → (o : Outcome) (t : ℕ) → (see w k s (driver_entry n r o)).picks t ≡ s.picks t
  plain_picks h o t = grind (arith, and-false)

  -- An entry at a time without picking leaves the picks too.
  pub closed_picks : is_picking k s.begun n ≡ false → (o : Outcome) (t : ℕ) → (see w k s (driver_entry n r o)).picks t ≡ s.picks t
  closed_picks h o t = grind arith

  pub plain_mark : is_marking w r ≡ false → (o : Outcome) → (see w k s (driver_entry n r o)).put_mark ≡ s.put_mark
  plain_mark h o = grind arith

  pub driver_last : (o : Outcome) → (see w k s (driver_entry n r o)).last ≡ s.last
  driver_last o = grind arith

  pub driver_begun : (o : Outcome) → (see w k s (driver_entry n r o)).begun ≡ (s.begun || is_begun k.commit n)
  driver_begun o = grind arith

-- So does each entry but one of the driver that reads a set.
pub entry_picks : (w : Script) (k : Times) (s : Seen) (e : Entry) → (e.actor ≡ Driver → (t : ℕ) → is_reading w t e.request ≡ false)
    → (t : ℕ) → (see w k s e).picks t ≡ s.picks t
entry_picks w k s e h t = grind (arith, plain_picks)

-- The requests of a set-up and of an abort or clean are such.
pub setup_plain : (w : Script) (op : Setup) (r : Request) → setup_asks w op ≡ Some r → Plain w r
setup_plain w op r h = grind arith

pub clean_plain : (w : Script) (op : Clean) (r : Request) → clean_asks w op ≡ Some r → (is_marking w r ≡ false)
    × ((t : ℕ) → is_reading w t r ≡ false)
clean_plain w op r h = grind arith

-- A commit reads a set only in its first stage.
abbrev pub is_read_stage : Commit → Bool
is_read_stage (Fetching sets x) = true
is_read_stage _ = false

pub sweep_plain : (w : Script) (p : List ℕ) (x : Sweep) → (is_marking w (sweep_asks w.dest.bucket p x) ≡ false)
    × ((t : ℕ) → is_reading w t (sweep_asks w.dest.bucket p x) ≡ false)
sweep_plain w p x = grind arith

pub commit_unread : (w : Script) (minimum : ℕ) (m : Told) (d : Commit) → is_read_stage d ≡ false
    → Decides w minimum m.publish_sent m.drawn d → (r : Request)
    → commit_asks w d ≡ Some r → (t : ℕ) → is_reading w t r ≡ false
commit_unread w minimum m (Fetching sets x) z d r e t = absurd (false_true z refl)
commit_unread w minimum m (Replacing sets p ps x y) z d r e t = ap (is_reading w t) (sym (some_is e)) ∙ (sweep_plain w p x).1 t
commit_unread w minimum m (Reverting q qs x) z d r e t =
    ap (is_reading w t) (sym (some_is e)) ∙ elim (d q (inl refl)).2 [ inl y ↦ ap (is_reading w t) y | inr y ↦ ap (is_reading w t) y ]
commit_unread w minimum m (CommitOver end) z d r e t = absurd cc
commit_unread w minimum m _ z d r e t = ap (is_reading w t) (sym (some_is e))
