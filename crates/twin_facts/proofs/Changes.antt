-- What one request changes at the paths where files are shown.
use Rattle.text_and_lists.proofs.Members.{same_or_other, some_is, true_or_false}
use Rattle.text_and_lists.specs.Members.{IsIn}
use Rattle.job_invariant.proofs.Agreeing.{Agrees, decided_so, picks_apart, prefix_unkept}
use Rattle.job_invariant.proofs.Effects.{abort_keys, completes_file, completes_nothing, deletion_key, deletion_other, other_key}
use Rattle.job_invariant.proofs.FilingLaws.{stranger_same}
use Rattle.job_invariant.proofs.Going.{effect_so}
use Rattle.job_invariant.proofs.Held.{nth_of, of_sets, task_low}
use Rattle.job_invariant.proofs.Owning.{operation_own}
use Rattle.job_invariant.proofs.Placed.{one_key}
use Rattle.job_invariant.proofs.SettingUp.{no_success, setup_alone}
use Rattle.job_invariant.proofs.Sharing.{check_reads, reads_leave, sparing_hides}
use Rattle.job_invariant.proofs.Shows.{shown_key}
use Rattle.job_invariant.proofs.Wanted.{wanted_here}
use Rattle.job_invariant.proofs.Whose.{attempt}
use Rattle.job_invariant.specs.Driver.{SweepsUnder}
use Rattle.job_invariant.specs.Facts.{Hold, IsAttempt}
use Rattle.job_invariant.specs.Filed.{Gone, IsCommit}
use Rattle.job_invariant.specs.FiledLaws.{Commits}
use Rattle.job_invariant.specs.Fits.{Fits}
use Rattle.job_invariant.specs.Spares.{FitsSparing}
use Rattle.job_invariant.specs.Stores.{at_key}
use Rattle.job_invariant.specs.Told.{Told, known}
use Rattle.job_model.specs.Attempts.{Who}
use Rattle.job_model.specs.JobScript.{Script}
use Rattle.job_model.specs.Legal.{IsLegal}
use Rattle.job_protocol.specs.JobCommits.{Commit, CommitOver, Completing, Fetching, Marking, Replacing, Reverting, all_commits, commit_asks}
use Rattle.job_protocol.specs.JobCommits.{picks_of, replaced, set_request}
use Rattle.job_protocol.specs.Lanes.{abort, completion, deletion, nth}
use Rattle.job_protocol.specs.Operations.{Operation, Setting, asks}
use Rattle.job_protocol.specs.Outputs.{Picks, files, is_decided, wanted_at}
use Rattle.job_protocol.specs.Rechecks.{Check, check_asks}
use Rattle.job_protocol.specs.Seen.{Seen}
use Rattle.job_protocol.specs.Sparing.{Sparing, sparing_asks}
use Rattle.job_protocol.specs.View.{is_file_path}
use Rattle.protocol_runs.proofs.Replacing.{keeps_same, taken_after}
use Rattle.protocol_runs.proofs.Steps.{hidden_same}
use Rattle.path_keys.specs.Paths.{below}
use Rattle.pending_json.specs.Pending.{Pending}
use Rattle.s3_types.specs.Answer.{apply}
use Rattle.s3_types.specs.Moment.{effect}
use Rattle.s3_types.specs.Requests.{only_reads}
use Rattle.s3_types.specs.Store.{Scene}
use Rattle.s3_types.specs.declared.journal.Outcome.{Outcome}
use Rattle.s3_types.specs.declared.object.Object.{Object}
use Rattle.s3_types.specs.declared.request.Committer.{Committer}
use Rattle.s3_types.specs.declared.request.Request.{Request}
use Rattle.std.proofs.Common.{List, Option, Some, ap, arith, inl, inr, length, refl, subst, sym, true, ℕ, [], ◌∙◌, ◌≡◌}
use Rattle.store_frame.specs.Frame.{changed_keys}
use Rattle.twin_facts.specs.Requests.{SetsUpBy}
use Rattle.twin_facts.specs.Shown.{Changed, IsPickedSo, OfWanted}

-- A sweep of a replace mode has only keys below a prefix that the mode empties.
abbrev pub Under : Script → Commit → Type 0
Under w (Replacing sets p ps x n) = IsIn p (replaced w.committer w.mode w (picks_of sets)) × SweepsUnder p x
Under w _ = Unit {0}

module _ (g : Setting) (j : IsLegal g.script) (s : Seen) (m : Told) (hold : Hold g.script g.minimum s m)
    (gone : Gone g.script s.scene.content m) (q : List ℕ)
    (path : is_file_path q ≡ true) where
  abbrev w : Script
  w = g.script

  abbrev key : List ℕ
  key = below w.dest.key q

  abbrev now : Option Object
  now = at_key w s.scene.content key

  abbrev after : Request → Outcome → Option Object
  after r o = at_key w (effect s.scene r o).content key

  abbrev So : Request → Outcome → Type 0
  So r o = Changed w s.picks q now (after r o)

  -- By what the request changes if it takes effect.
  by_effect : (r : Request) → Changed w s.picks q now (at_key w (apply s.scene r).content key) → (o : Outcome) → So r o
  by_effect r h o = effect_so (λ (t : Scene). Changed w s.picks q now (at_key w t.content key)) s.scene r o (inl refl) h

  reads_so : (r : Request) → only_reads r ≡ true → (o : Outcome) → So r o
  reads_so r reads o = inl (ap (λ (x : Scene). at_key w x.content key) (reads_leave s.scene r reads o))

  set_reads : (x : Committer) (t : ℕ) → only_reads (set_request x w t) ≡ true
  set_reads x t = grind arith

  same_path : (p b : List ℕ) → key ≡ below w.dest.key p → wanted_at w s.picks p ≡ Some b → wanted_at w s.picks q ≡ Some b
  same_path p b e wants = ap (wanted_at w s.picks) (one_key j (q, []) (p, []) e) ∙ wants

  module _ (p : Pending) (x : IsCommit w g.minimum m.publish_sent m.drawn p) (decided : is_decided w s.picks ≡ true)
      (at : key ≡ p.destination → wanted_at w s.picks q ≡ Some x.file.1) where
    completion_so : (o : Outcome) → So (completion p) o
    completion_so = by_effect (completion p) (elim (same_or_other key p.destination) [
      | inr ne ↦ inl (other_key j hold gone p x key ne)
      | inl is ↦ elim (true_or_false (m.ended p.upload)) [
        | inl ended ↦ inl (completes_nothing j hold gone p x ended key)
        | inr open_one ↦ inr (
          decided,
          inl (
            x.file.1,
            at is,
            inl (ap (at_key w (apply s.scene (completion p)).content) is ∙ completes_file j
                hold gone p x open_one),
          ),
        )
      ]
    ])

  abort_so : (p : Pending) → IsCommit w g.minimum m.publish_sent m.drawn p → (o : Outcome) → So (abort p) o
  abort_so p x = by_effect (abort p) (inl (abort_keys j hold gone p x key))

  deletion_so : (p : Pending) (x : IsCommit w g.minimum m.publish_sent m.drawn p) → is_decided w s.picks ≡ true
      → OfWanted w s.picks (deletion p) → (o : Outcome) → So (deletion p) o
  deletion_so p x decided of_wanted = by_effect (deletion p) (elim (same_or_other key p.destination) [
    | inr ne ↦ inl (deletion_other j hold gone p x key ne)
    | inl is ↦
        let u = of_wanted p.destination (inl refl) in
        inr (
          decided,
          inl (
            u.1,
            same_path u.0 u.1 (is ∙ u.2) u.3,
            inr (ap (at_key w (apply s.scene (deletion p)).content) is ∙ deletion_key
                j hold gone p x),
          ),
        )
  ])

  pub commit_shows_by : (c : Commit) → Commits w g.minimum s m c → Agrees w s.picks c → Under w c → (r : Request) → commit_asks w c ≡ Some r
      → (o : Outcome) → So r o
  commit_shows_by (Fetching sets n) h agree under r e o = subst (λ y. So y o) (some_is e)
      (reads_so (set_request w.committer w (length sets)) (set_reads w.committer (length sets)) o)
  commit_shows_by (Replacing sets p ps x n) h agree under r e o = subst (λ y. So y o) (some_is e)
      (elim (taken_after g j s.scene.content s.scene hold.there p x under.1 o key) [
        | inl same ↦ inl same
        | inr gone ↦ inr (
          decided_so w s.picks sets h.decides agree,
          inr (
            gone.0,
            keeps_same g j s.scene.content s.picks sets agree q ∙
                prefix_unkept j (picks_of sets) q p under.0 gone.1,
          ),
        )
      ])
  commit_shows_by (Completing sets x xs finished) h agree under r e o =
      let p = nth (all_commits sets) x.number in
      let f = of_sets j hold sets h.fits p (nth_of (all_commits sets) x.number (h.tabled.within x (inl refl))) in
      let y = f.1.commit in
      let low = task_low j hold (picks_of sets) f.0 p f.1 in
      let who : y.by ≡ attempt f.0 y.by.attempt = ap (λ n. attempt n y.by.attempt) f.1.task in
      let wants : wanted_at w s.picks y.file.0 ≡ Some y.file.1 = wanted_here w s.picks j (picks_apart w s.picks sets h.decides agree) f.0
      y.by.attempt low
      (agree f.0 low ∙ f.1.picked) y.file (subst (λ v. IsIn y.file (files w v)) who y.mine) in
      subst (λ y. So y o) (some_is e)
      (completion_so p y (decided_so w s.picks sets h.decides agree) (λ is. same_path y.file.0 y.file.1
      (is ∙ ap (λ (v : Pending). v.destination) y.is) wants) o)
  commit_shows_by (Marking sets n) h agree under r e o =
      inl (stranger_same w s.scene hold.there r o key (λ b i. elim (subst (λ y. IsIn key (changed_keys y)) (sym (some_is e)) i)
      [ inl same ↦ no_success j q path same | inr none ↦ absurd none ]))
  commit_shows_by (Reverting z zs n) h agree under r e o =
      let y = h.decides z (inl refl) in
      subst (λ k. So k o) (some_is e) (elim y.2 [
        | inl is ↦ subst (λ k. So k o) (sym is) (abort_so y.0 y.1 o)
        | inr is ↦ subst (λ k. So k o) (sym is) (deletion_so y.0 y.1 agree.0 (subst (OfWanted w s.picks) is (agree.1 z (inl refl))) o)
      ])
  commit_shows_by (CommitOver end) h agree under r e o = absurd cc

-- ---- the laws

agrees_so : (w : Script) (picks : Picks) (c : Commit) → IsPickedSo w picks c → Agrees w picks c
agrees_so w picks (Replacing sets p ps x n) a = a.0
agrees_so w picks _ a = a

pub commit_shows : (g : Setting) → IsLegal g.script → (s : Seen) (m : Told) (c : Commit) → Commits g.script g.minimum s m c
    → IsPickedSo g.script s.picks c → (r : Request) → commit_asks g.script c ≡ Some r → (o : Outcome) (q : List ℕ) → is_file_path q ≡ true
    → Changed g.script s.picks q (at_key g.script s.scene.content (below g.script.dest.key q))
    (at_key g.script (effect s.scene r o).content (below g.script.dest.key q))
commit_shows g h s m c e f r p o q u = grind (arith, commit_shows_by, agrees_so)

-- ---- other requests

module _ (g : Setting) (j : IsLegal g.script) where
  abbrev v : Script
  v = g.script

  abbrev Stays : Seen → Request → Outcome → List ℕ → Type 0
  Stays s r o q = at_key v (effect s.scene r o).content (below v.dest.key q) ≡ at_key v s.scene.content (below v.dest.key q)

  pub setup_shows : (s : Seen) (r : Request) → SetsUpBy g s r → (o : Outcome) (q : List ℕ) → is_file_path q ≡ true → Stays s r o q
  setup_shows s r (t, h, e) o q path = (setup_alone v j s.scene t h r e o).keys (below v.dest.key q) (shown_key j q path)
      (no_success j q path)

  pub attempt_shows : (s : Seen) (m : Told) → Hold v g.minimum s m → (a : Who) → IsAttempt v a → (op : Operation) → Fits v g.minimum a m op
      → (r : Request) → asks g a (known m a) op ≡ Some r → (o : Outcome) (q : List ℕ) → is_file_path q ≡ true → Stays s r o q
  attempt_shows s m h a d op fits r e o q path = hidden_same v s.scene h.there r (λ b k i. (operation_own g j m a d op fits r e).keys k i) o
      (below v.dest.key q) (shown_key j q path)

  pub check_shows : (s : Seen) (c : Check) (r : Request) → check_asks v c ≡ Some r → (o : Outcome) → effect s.scene r o ≡ s.scene
  check_shows s c r e o = reads_leave s.scene r (check_reads g j c r e) o

  pub sparing_shows : (s : Seen) (m : Told) → Hold v g.minimum s m → (c : Sparing) → FitsSparing v m.drawn c → (r : Request)
      → sparing_asks v c ≡ Some r → (o : Outcome) (q : List ℕ) → is_file_path q ≡ true → Stays s r o q
  sparing_shows s m h c fits r e o q path = hidden_same v s.scene h.there r (sparing_hides g j m c fits r e) o (below v.dest.key q)
      (shown_key j q path)
