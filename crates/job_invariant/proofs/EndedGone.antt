-- Each upload that the driver has ended is gone; and what is at the paths of files after each entry of its commit.
use Rattle.text_and_lists.proofs.Members.{eq_nat, false_true, some_is, true_or_false}
use Rattle.job_invariant.proofs.Effects.{abort_ends, completion_ends, upload_low}
use Rattle.job_invariant.proofs.Ended.{gone_stays}
use Rattle.job_invariant.proofs.Foreign.{reads_name, set_reads}
use Rattle.job_invariant.proofs.Going.{effect_so}
use Rattle.job_invariant.proofs.Held.{nth_of, of_sets}
use Rattle.job_invariant.proofs.Turning.{sweep_none}
use Rattle.job_invariant.specs.Driver.{FitsJobCommit}
use Rattle.job_invariant.specs.Facts.{Facts}
use Rattle.job_invariant.specs.Filed.{Decides, Gone, IsCommit}
use Rattle.job_invariant.specs.Stores.{at_id}
use Rattle.job_invariant.specs.Told.{Told, ends, nothing_told, tell_driver}
use Rattle.job_model.specs.JobScript.{Script}
use Rattle.job_model.specs.Legal.{IsLegal}
use Rattle.job_protocol.specs.JobCommits.{Commit, CommitOver, Completing, Fetching, Marking, Replacing, Reverting, all_commits, commit_asks}
use Rattle.job_protocol.specs.JobCommits.{set_request}
use Rattle.job_protocol.specs.LaneTable.{Tabled}
use Rattle.job_protocol.specs.Lanes.{abort, completion, deletion, nth}
use Rattle.pending_json.specs.Pending.{Pending}
use Rattle.s3_types.specs.Answer.{apply}
use Rattle.s3_types.specs.Moment.{effect, is_effective}
use Rattle.s3_types.specs.Store.{Scene}
use Rattle.s3_types.specs.declared.journal.Outcome.{Outcome}
use Rattle.s3_types.specs.declared.request.Request.{Request}
use Rattle.std.proofs.Common.{Bool, None, Option, Some, ap, arith, false, inl, inr, length, refl, subst, sym, true, ℕ, ◌&&◌, ◌<◌, ◌||◌, ◌∙◌}
use Rattle.std.proofs.Common.{◌≡◌, ◌≤◌, ◌⊎◌}
use Rattle.std.proofs.lemmas.Bool.{and_parts, false≢true}
use Rattle.store_frame.proofs.Framed.{frame}
use Rattle.store_frame.specs.Held.{HasBucket}

-- An upload that is gone stays gone.
module _ (w : Script) (s : Scene) (there : HasBucket s.content w.dest.bucket) (id : ℕ) where
  abbrev Out : Scene → Type 0
  Out u = (id < u.content.next) × (at_id w u.content id ≡ None)

  pub stays_gone : (r : Request) (o : Outcome) → Out s → Out (effect s r o)
  stays_gone r o h = effect_so Out s r o h
      (let later : s.content.next ≤ (apply s r).content.next = (frame s w.dest.bucket r there).later in let low = h.0 in
      (omega arith, gone_stays w s there id h.0 r h.1))

pub effective_is : (s : Scene) (r : Request) (o : Outcome) → is_effective o ≡ true → effect s r o ≡ apply s r
effective_is s r o h = grind arith

module _ {w : Script} {minimum : ℕ} {s : Scene} {last : ℕ → Option ℕ} {m : Told} (j : IsLegal w) (f : Facts w minimum s last m)
    (gone : Gone w s.content m) where
  -- The request ends nothing, or it is about the upload of a set that was read.
  abbrev pub Kind : Request → Type 0
  Kind r = ((id : ℕ) → ends r id ≡ false) ⊎ ((p : Pending) × IsCommit w minimum m.publish_sent m.drawn p
      × ((r ≡ completion p) ⊎ ((r ≡ abort p) ⊎ (r ≡ deletion p))))

  pub commit_kind : (c : Commit) → FitsJobCommit w minimum m.publish_sent m.drawn c → Tabled w c
      → Decides w minimum m.publish_sent m.drawn c → (r : Request) → commit_asks w c ≡ Some r → Kind r
  commit_kind (Fetching sets n) fits t d r e = inl (λ id. ap (λ q. ends q id) (sym (some_is e)) ∙
      (reads_name (set_request w.committer w (length sets)) (set_reads w.committer w (length sets))).ends_none id)
  commit_kind (Replacing sets p ps x n) fits t d r e = inl (λ id. ap (λ q. ends q id) (sym (some_is e)) ∙ sweep_none w p x id)
  commit_kind (Completing sets x xs finished) fits t d r e =
      let p = nth (all_commits sets) x.number in
      inr (p, (of_sets j f sets fits p (nth_of (all_commits sets) x.number (t.within x (inl refl)))).1.commit, inl (sym (some_is e)))
  commit_kind (Marking sets n) fits t d r e = inl (λ id. ap (λ q. ends q id) (sym (some_is e)))
  commit_kind (Reverting q qs n) fits t d r e = let x = d q (inl refl) in inr
      (x.0, x.1, inr (elim x.2 [ inl h ↦ inl (sym (some_is e) ∙ h) | inr h ↦ inr (sym (some_is e) ∙ h) ]))
  commit_kind (CommitOver end) fits t d r e = absurd cc

  low : (p : Pending) → IsCommit w minimum m.publish_sent m.drawn p → (r : Request) → p.upload < (apply s r).content.next
  low p x r = let later : s.content.next ≤ (apply s r).content.next = (frame s w.dest.bucket r f.there).later in let below = upload_low j f
      gone p x in omega arith

  ended_out : (p : Pending) → IsCommit w minimum m.publish_sent m.drawn p → (q r : Request) → r ≡ q
      → at_id w (apply s q).content p.upload ≡ None → (id : ℕ) → id ≡ p.upload → Out w s f.there id (apply s r)
  ended_out p x q r is none id same = subst (λ v. Out w s f.there v (apply s r)) (sym same)
      (subst (λ y. Out w s f.there p.upload (apply s y)) (sym is) (low p x q, none))

  -- What such a request ends is gone.
  ends_now : (r : Request) → Kind r → (id : ℕ) → ends r id ≡ true → Out w s f.there id (apply s r)
  ends_now r (inl none) id e = absurd (false_true (none id) e)
  ends_now r (inr (p, x, inl is)) id e = ended_out p x (completion p) r is (completion_ends j f gone p x) id
      (eq_nat id p.upload (ap (λ y. ends y id) (sym is) ∙ e))
  ends_now r (inr (p, x, inr (inl is))) id e = ended_out p x (abort p) r is (abort_ends j f gone p x) id
      (eq_nat id p.upload (ap (λ y. ends y id) (sym is) ∙ e))
  ends_now r (inr (p, x, inr (inr is))) id e = absurd (false_true refl (ap (λ y. ends y id) (sym is) ∙ e))

  pub commit_gone : (c : Commit) → FitsJobCommit w minimum m.publish_sent m.drawn c → Tabled w c
      → Decides w minimum m.publish_sent m.drawn c → (r : Request) → commit_asks w c ≡ Some r → (o : Outcome)
      → Gone w (effect s r o).content (tell_driver m r o)
  commit_gone c fits t d r e o id h = elim (true_or_false (m.ended id)) [
    | inl g ↦ stays_gone w s f.there id r o (gone id g)
    | inr g ↦
        let both = and_parts (is_effective o) (ends r id) (sym (ap (λ b. b || (is_effective o && ends r id)) g) ∙ h) in
        subst (Out w s f.there id) (sym (effective_is s r o both.0)) (ends_now r (commit_kind c fits t d r e) id both.1)
  ]

pub first_gone : (w : Script) (s : Scene) (c : Option ℕ) → Gone w s.content (nothing_told c)
first_gone w s c id e = absurd (false≢true e)

-- After a request that ends nothing, all ended uploads are still gone.
pub others_gone : (w : Script) (s : Scene) → HasBucket s.content w.dest.bucket → (ended : ℕ → Bool)
    → ((id : ℕ) → ended id ≡ true → (id < s.content.next) × (at_id w s.content id ≡ None)) → (r : Request) (o : Outcome)
    → (id : ℕ) → ended id ≡ true → (id < (effect s r o).content.next) × (at_id w (effect s r o).content id ≡ None)
others_gone w s there ended h r o id e = stays_gone w s there id r o (h id e)
