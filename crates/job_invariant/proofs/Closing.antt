-- Until it cleans up, the driver ends only uploads of attempts that have sent their publishing requests.
use Rattle.text_and_lists.proofs.Members.{eq_nat, false_true, some_is, true_or_false}
use Rattle.text_and_lists.specs.Members.{IsIn}
use Rattle.job_invariant.proofs.Beside.{still_known, still_sent}
use Rattle.job_invariant.proofs.Foreign.{reads_name, set_reads}
use Rattle.job_invariant.proofs.Held.{Course, completing_so, fetched_so, missed, nth_of, of_sets, revert_each, swept_so, tells_so, worn}
use Rattle.job_invariant.proofs.Turning.{sweep_none}
use Rattle.job_invariant.specs.Driver.{FitsJobCommit, Reads}
use Rattle.job_invariant.specs.Facts.{Facts, Hold}
use Rattle.job_invariant.specs.Fits.{Fits}
use Rattle.job_invariant.specs.Standing.{Closed, EndsSent, IsSent, Reverts}
use Rattle.job_invariant.specs.Told.{Told, at_event, ends, known, tell_attempt, tell_driver}
use Rattle.job_model.specs.Attempts.{Who}
use Rattle.job_model.specs.JobScript.{Script}
use Rattle.job_model.specs.Known.{Drawn}
use Rattle.job_model.specs.Legal.{IsLegal}
use Rattle.job_protocol.specs.JobCommits.{Commit, CommitOver, Completing, Fetching, Marking, Replacing, Reverting, Sets, all_commits}
use Rattle.job_protocol.specs.JobCommits.{commit_asks, commit_hears, commit_start, commit_tells, is_no_magic, reverting, set_read}
use Rattle.job_protocol.specs.JobCommits.{set_request}
use Rattle.job_protocol.specs.LaneTable.{Tabled}
use Rattle.job_protocol.specs.Lanes.{dealt, follow, nth, revert}
use Rattle.job_protocol.specs.Operations.{Operation, Setting, asks}
use Rattle.job_protocol.specs.Seen.{Seen, is_begun}
use Rattle.list_walk.specs.Walks.{sweep_asks, sweep_hears}
use Rattle.pending_json.specs.Pending.{Pending}
use Rattle.s3_types.specs.Moment.{is_effective}
use Rattle.s3_types.specs.Store.{Scene}
use Rattle.s3_types.specs.declared.journal.Outcome.{Outcome}
use Rattle.s3_types.specs.declared.reply.Reply.{Reply}
use Rattle.s3_types.specs.declared.request.Request.{Request}
use Rattle.std.proofs.Common.{Bool, List, Option, Some, ap, arith, false, inl, inr, length, nat_eq, refl, subst, sym, true, ℕ, [], ◌&&◌}
use Rattle.std.proofs.Common.{◌++◌, ◌||◌, ◌∙◌, ◌∷◌, ◌≡◌}
use Rattle.std.proofs.Math.Bool.{or-true}
use Rattle.std.proofs.lemmas.Bool.{and_parts, or_parts}

module _ (w : Script) (sent : Who → Bool) (drawn : Who → List Drawn) where
  abbrev EndsOnly : Request → Type 0
  EndsOnly r = (id : ℕ) → ends r id ≡ true → IsSent sent drawn id

  ends_each : (rs : List Request) → ((r : Request) → IsIn r rs → EndsOnly r) → EndsSent sent drawn rs
  ends_each [] h = tt
  ends_each (r ∷ rs) h = (h r (inl refl), ends_each rs (λ q i. h q (inr i)))

  ends_one : (p : Pending) → IsSent sent drawn p.upload → (id : ℕ) → nat_eq id p.upload ≡ true → IsSent sent drawn id
  ends_one p h id e = subst (IsSent sent drawn) (sym (eq_nat id p.upload e)) h

  ends_none : (r : Request) → ((id : ℕ) → ends r id ≡ false) → EndsOnly r
  ends_none r none id e = absurd (false_true (none id) e)

  -- Of the stages of a commit, only a revert matters.
  reverts_course : Course w (Reverts sent drawn) (λ sets. Unit {0}) (λ sets ps. Unit {0})
  reverts_course = record {
    fetches = λ sets l h. tt;
    clashes = λ sets end e h. tt;
    decides = λ sets l e h. tt;
    replaces = λ sets p ps h.
        tt;
    completes = λ sets h. completing_so (Reverts sent drawn) sets (dealt w.lanes (length (all_commits sets))) [] tt (λ x xs. tt);
  }

  reverts_reverting : (rs : List Request) → EndsSent sent drawn rs → Reverts sent drawn (reverting rs)
  reverts_reverting rs h = grind arith

  pub reverts_start : (missing : Option ℕ) → Reverts sent drawn (commit_start w missing)
  reverts_start missing = grind arith

  reverts_missed : (c : Commit) → Reverts sent drawn c → (lost : Bool) → Reverts sent drawn (missed c lost)
  reverts_missed c h lost = grind arith

-- ---- the sets that the driver has read are of attempts that have sent

module _ {w : Script} {minimum : ℕ} {s : Scene} {last : ℕ → Option ℕ} {m : Told} (j : IsLegal w) (f : Facts w minimum s last m) where
  commits_sent : (sets : Sets) → Reads w minimum m.publish_sent m.drawn sets → (p : Pending) → IsIn p (all_commits sets)
      → IsSent m.publish_sent m.drawn p.upload
  commits_sent sets h p i = let x = (of_sets j f sets h p i).1.commit in (
    x.by,
    x.written.drawn,
    x.written.known,
    sym
        (ap (λ (v : Pending). v.upload) x.is),
    x.has_sent,
  )

  reverts_heard : (c : Commit) → FitsJobCommit w minimum m.publish_sent m.drawn c → Reverts m.publish_sent m.drawn c → (x : Reply)
      → Reverts m.publish_sent m.drawn (commit_hears w c x)
  reverts_heard (Fetching sets n) fits h x = fetched_so (reverts_course w m.publish_sent m.drawn) sets (set_read x) fits.0 tt (λ v y. tt)
  reverts_heard (Replacing sets p ps s n) fits h x = swept_so (reverts_course w m.publish_sent m.drawn) sets p ps
      (sweep_hears (is_no_magic w) s x) tt (λ t e. tt)
  reverts_heard (Completing sets y ys finished) fits h x =
      completing_so (Reverts m.publish_sent m.drawn) sets (ys ++ follow w.lanes (length (all_commits sets)) y.number) (y.number ∷ finished)
      tt (λ z zs. tt)
  reverts_heard (Reverting q qs n) fits h x = reverts_reverting w m.publish_sent m.drawn qs h.1
  reverts_heard _ fits h x = tt

  commit_ends : (c : Commit) → FitsJobCommit w minimum m.publish_sent m.drawn c → Reverts m.publish_sent m.drawn c → Tabled w c
      → (r : Request) → commit_asks w c ≡ Some r → EndsOnly w m.publish_sent m.drawn r
  commit_ends (Fetching sets n) fits h t r e =
      let q = set_request w.committer w (length sets) in
      subst (EndsOnly w m.publish_sent m.drawn) (some_is e) (ends_none w m.publish_sent m.drawn q
      (reads_name q (set_reads w.committer w (length sets))).ends_none)
  commit_ends (Replacing sets p ps s n) fits h t r e =
      subst (EndsOnly w m.publish_sent m.drawn) (some_is e) (ends_none w m.publish_sent m.drawn (sweep_asks w.dest.bucket p s)
      (sweep_none w p s))
  commit_ends (Completing sets x xs finished) fits h t r e =
      let p = nth (all_commits sets) x.number in
      subst (EndsOnly w m.publish_sent m.drawn) (some_is e) (ends_one w m.publish_sent m.drawn p
      (commits_sent sets fits p (nth_of (all_commits sets) x.number (t.within x (inl refl)))))
  commit_ends (Marking sets n) fits h t r e = ends_none w m.publish_sent m.drawn r (λ id. ap (λ q. ends q id) (sym (some_is e)))
  commit_ends (Reverting q qs n) fits h t r e = subst (EndsOnly w m.publish_sent m.drawn) (some_is e) h.0
  commit_ends (CommitOver end) fits h t r e = absurd cc

  reverts_worn : (c : Commit) → FitsJobCommit w minimum m.publish_sent m.drawn c → Reverts m.publish_sent m.drawn c → Tabled w c
      → Reverts m.publish_sent m.drawn (worn c)
  reverts_worn (Completing sets x xs finished) fits h t =
      let rs = revert (all_commits sets) x.number xs finished in
      reverts_reverting w m.publish_sent m.drawn rs (ends_each w m.publish_sent m.drawn rs (λ r i.
      let o = revert_each (all_commits sets) x.number xs finished (t.within x (inl refl)) t.done_within r i in
      elim o.2 [
        | inl is ↦ subst (EndsOnly w m.publish_sent m.drawn) (sym is) (ends_one w m.publish_sent m.drawn o.0
            (commits_sent sets fits o.0 o.1))
        | inr is ↦ ends_none w m.publish_sent m.drawn r (λ id. ap (λ q. ends q id) is)
      ]))
  reverts_worn (Reverting q qs n) fits h t = reverts_reverting w m.publish_sent m.drawn qs h.1
  reverts_worn _ fits h t = tt

-- ---- entries

-- An entry of the driver.
pub driver_closes : (m : Told) (n : ℕ) (r : Request) (o : Outcome) → Closed m
    → ((id : ℕ) → ends r id ≡ true → IsSent m.publish_sent m.drawn id) → Closed (at_event n (tell_driver m r o))
driver_closes m n r o h only c id e = elim (true_or_false (m.ended id)) [
  | inl g ↦ h (or_parts m.cleaned _ c).0 id g
  | inr g ↦ only id (and_parts (is_effective o) (ends r id) (sym (ap (λ b. b || (is_effective o && ends r id)) g) ∙ e)).1
]

-- An entry of an attempt.
module _ (g : Setting) (m : Told) (a : Who) (op : Operation) (fits : Fits g.script g.minimum a m op) (r : Request)
    (e : asks g a (known m a) op ≡ Some r) (o : Outcome) where
  abbrev now : Told
  now = tell_attempt g.script m a r o

  sent_now : (id : ℕ) → IsSent m.publish_sent m.drawn id → IsSent now.publish_sent now.drawn id
  sent_now id h = (h.0, h.1, subst (IsIn h.1) (still_known g m a op fits r e o h.0 h.4) h.2, h.3, still_sent g m a op fits r e o h.0 h.4)

  pub attempt_closes : Closed m → Closed now
  attempt_closes h c id e = sent_now id (h c id e)

  ends_now : (rs : List Request) → EndsSent m.publish_sent m.drawn rs → EndsSent now.publish_sent now.drawn rs
  ends_now [] h = tt
  ends_now (q ∷ qs) h = (λ id x. sent_now id (h.0 id x), ends_now qs h.1)

  pub attempt_reverts : (c : Commit) → Reverts m.publish_sent m.drawn c → Reverts now.publish_sent now.drawn c
  attempt_reverts (Reverting q qs n) h = ends_now (q ∷ qs) h
  attempt_reverts _ h = tt

-- An entry of the driver's commit.
pub commit_closes : (g : Setting) → IsLegal g.script → (s : Seen) (m : Told) → Hold g.script g.minimum s m → Closed m → (c : Commit)
    → FitsJobCommit g.script g.minimum m.publish_sent m.drawn c → Tabled g.script c → Reverts m.publish_sent m.drawn c
    → (r : Request) → commit_asks g.script c ≡ Some r → (n : ℕ) (o : Outcome) → Closed (at_event n (tell_driver m r o))
    × Reverts m.publish_sent m.drawn (commit_tells g.script c o)
commit_closes g j s m h closed c f t v r e n o = (
  driver_closes m n r o closed (commit_ends j h c f v t r e),
  tells_so g.script (Reverts m.publish_sent m.drawn) c o (λ x y. reverts_heard j h c f v x)
      (reverts_missed g.script m.publish_sent m.drawn c v) (reverts_worn j h c f v t),
)

-- An entry of its abort or clean, which has begun then.
pub clean_begun : (m : Told) (n : ℕ) → is_begun m.cleans_at n ≡ true → (r : Request) (o : Outcome)
    → (at_event n (tell_driver m r o)).cleaned ≡ true
clean_begun m n timely r o = ap (λ b. m.cleaned || b) timely ∙ or-true m.cleaned

pub clean_closes : (m : Told) (n : ℕ) → is_begun m.cleans_at n ≡ true → (r : Request) (o : Outcome)
    → Closed (at_event n (tell_driver m r o))
clean_closes m n timely r o c id x = absurd (false_true c (clean_begun m n timely r o))
