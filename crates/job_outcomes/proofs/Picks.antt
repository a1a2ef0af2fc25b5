-- The picks that the journal shows after one more entry of the driver's commit.
use Rattle.text_and_lists.proofs.Lists.{slice_last}
use Rattle.text_and_lists.proofs.Members.{none_or_some, none_some, same_or_not, some_is}
use Rattle.job_invariant.proofs.Reading.{reads_it, reads_other}
use Rattle.job_invariant.proofs.Replies.{set_answered}
use Rattle.job_invariant.proofs.Shapes.{answer_is, key_before}
use Rattle.job_invariant.specs.Facts.{Hold, knowing}
use Rattle.job_invariant.specs.Filed.{Decides}
use Rattle.job_invariant.specs.Stores.{at_place, set_at, sets_at}
use Rattle.job_invariant.specs.Told.{Told, driver_entry}
use Rattle.job_model.specs.JobScript.{Script}
use Rattle.job_model.specs.Legal.{IsLegal}
use Rattle.job_outcomes.proofs.CommitSteps.{IsRead, at_fetching, at_tells}
use Rattle.job_outcomes.specs.CommitRuns.{ArePicks, IsAt, PicksGrow}
use Rattle.job_protocol.specs.JobCommits.{Commit, CommitOver, Fetching, Sets, commit_asks, commit_tells, fetched, picks_of, set_read}
use Rattle.job_protocol.specs.JobCommits.{set_request}
use Rattle.job_protocol.specs.Operations.{Setting}
use Rattle.job_protocol.specs.Outputs.{Picks}
use Rattle.job_protocol.specs.Records.{files_set}
use Rattle.job_protocol.specs.Seen.{Seen, Times, is_picking, picks_by, see}
use Rattle.protocol_runs.proofs.Plain.{commit_unread, plain_picks}
use Rattle.magic_paths.specs.Places.{SetPlace, key_at}
use Rattle.pending_json.specs.declared.records.PendingSet.{PendingSet}
use Rattle.s3_types.specs.Answer.{answer, found, read_answer}
use Rattle.s3_types.specs.Moment.{IsHonestOutcome}
use Rattle.s3_types.specs.declared.journal.Outcome.{Outcome}
use Rattle.s3_types.specs.declared.journal.Outcome.TheVariants.{Answered}
use Rattle.s3_types.specs.declared.object.Object.{Object}
use Rattle.s3_types.specs.declared.reply.Refusal.TheVariants.{NoSuchFile, NoSuchKey}
use Rattle.s3_types.specs.declared.reply.Reply.{Reply}
use Rattle.s3_types.specs.declared.reply.Reply.TheVariants.{Refused}
use Rattle.s3_types.specs.declared.request.Committer.{Committer}
use Rattle.s3_types.specs.declared.request.Committer.TheVariants.{Magic}
use Rattle.s3_types.specs.declared.request.Request.{Request}
use Rattle.std.proofs.Common.{Bool, List, None, Option, Some, ap, arith, cond, false, inl, inr, length, refl, slice_get, subst, suc, sym}
use Rattle.std.proofs.Common.{true, zero, ℕ, [], ◌&&◌, ◌++◌, ◌<◌, ◌^◌, ◌∙◌, ◌∷◌, ◌≡◌, ◌≤◌, ◌⊎◌}
use Rattle.std.proofs.Math.Bool.{and-false}
use Rattle.std.proofs.lemmas.Option.{slice_get_past}
use Rattle.std.specs.Option.{option_map}

-- ---- one more set

slice_other : {X : Type 0} (xs : List X) (y : X) (n : ℕ) → (n ≡ length xs → ⊥) → slice_get (xs ++ y ∷ []) n ≡ slice_get xs n
slice_other [] y zero ne = absurd (ne refl)
slice_other [] y (suc n) ne = refl
slice_other (x ∷ xs) y zero ne = refl
slice_other (x ∷ xs) y (suc n) ne = slice_other xs y n (λ e. ne (ap suc e))

module _ (g : Setting) (j : IsLegal g.script) (k : Times) (s : Seen) (m : Told) (h : Hold g.script g.minimum s m)
    (before : m.cleaned ≡ false) (few : s.scene.content.next ≤ 2 ^ 64) (n : ℕ) (is_open : is_picking k s.begun n ≡ true) where
  abbrev w : Script
  w = g.script

  abbrev picking : Bool
  picking = is_picking k s.begun n

  abbrev after : Request → Outcome → Picks
  after r o = (see w k s (driver_entry n r o)).picks

  -- The commit after one more entry.
  pub record After (missing : Option ℕ) (c : Commit) (r : Request) (o : Outcome) : Type 0 where
    pub sets : Sets
    pub picks : ArePicks w (after r o) sets
    pub at : IsAt w missing sets (commit_tells w c o)
    pub grows : PicksGrow w s.picks (after r o) c (commit_tells w c o)

  -- ---- an entry that is no read

  -- ---- a read

  module _ (sets : Sets) (low : length sets < w.tasks) (agree : ArePicks w s.picks sets) where
    abbrev r : Request
    r = set_request w.committer w (length sets)

    abbrev next : Picks
    next = picks_by w picking s.last s.picks r

    here : next (length sets) ≡ s.last (length sets)
    here = ap (λ b. cond (picking && b) (s.last (length sets)) (s.picks (length sets))) (reads_it j (length sets)) ∙ ap
        (λ b. cond (b && true) (s.last (length sets)) (s.picks (length sets))) is_open

    other : (t : ℕ) → t < w.tasks → (t ≡ length sets → ⊥) → next t ≡ s.picks t
    other t l ne = ap (λ b. cond (picking && b) (s.last t) (s.picks t)) (reads_other j t (length sets) l low ne) ∙ ap
        (λ b. cond b (s.last t) (s.picks t)) (and-false picking)

    no_later : (t : ℕ) → t < w.tasks → length sets ≤ t → s.picks t ≡ None
    no_later t l high = agree t l ∙ ap (option_map (λ (v : PendingSet). v.attempt)) (slice_get_past sets t high)

    one_more : (x : PendingSet) → s.last (length sets) ≡ Some x.attempt → ArePicks w next (sets ++ x ∷ [])
    one_more x latest t l = elim (same_or_not t (length sets)) [
      | inl is ↦ ap next is ∙ here ∙ latest ∙ sym (ap (picks_of (sets ++ x ∷ [])) is ∙ ap (option_map (λ (v : PendingSet). v.attempt))
          (slice_last sets x))
      | inr ne ↦ other t l ne ∙ agree t l ∙ sym (ap (option_map (λ (v : PendingSet). v.attempt)) (slice_other sets x t ne))
    ]

    -- If there is no set, nobody has published.
    none_published : sets_at w s.scene (length sets) ≡ None → s.last (length sets) ≡ None
    none_published e = elim (none_or_some (s.last (length sets))) [
      | inl none ↦ none
      | inr a ↦ absurd (none_some e (h.standing before (length sets) a.0 low a.1).1)
    ]

    still : s.last (length sets) ≡ None → (t : ℕ) → t < w.tasks → next t ≡ s.picks t
    still none t l = elim (same_or_not t (length sets)) [
      | inl is ↦ ap next is ∙ here ∙ none ∙ sym (ap s.picks is ∙ no_later (length sets) low (omega arith))
      | inr ne ↦ other t l ne
    ]

    abbrev IsRefused : Reply → Type 0
    IsRefused x = (x ≡ Refused NoSuchKey) ⊎ (x ≡ Refused NoSuchFile)

    -- A read of a set that exists is not refused.
    not_refused : (c : Committer) (b : List ℕ) → set_at c w s.scene (length sets) ≡ Some b
        → IsRefused (answer s.scene (set_request c w (length sets))) → ⊥
    not_refused Magic b e x =
        let due : answer s.scene (set_request Magic w (length sets)) ≡ found (at_place w s.scene.content (SetPlace (length sets))) =
        answer_is w s.scene h.there.0 h.there.1 (set_request Magic w (length sets)) refl
        ∙ ap found (sym (key_before w s.scene h.there.0 h.there.1 (key_at w.dest.key w.job (SetPlace (length sets))))) in
        elim (none_or_some (at_place w s.scene.content (SetPlace (length sets)))) [
          | inl q ↦ none_some (ap (option_map (λ (y : Object). y.bytes)) q) e
          | inr y ↦ let is : answer s.scene (set_request Magic w (length sets)) ≡ found (Some y.0) = due ∙ ap found y.1 in elim x
              [ inl z ↦ absurd cc | inr z ↦ absurd cc ]
        ]
    not_refused c b e x = let is : answer s.scene (set_request c w (length sets)) ≡ read_answer (Some b) = ap read_answer e in elim x
        [ inl z ↦ absurd cc | inr z ↦ absurd cc ]

    -- The answer brings no set, and nobody has published; or it brings the set of the last publisher.
    abbrev Brings : Reply → Type 0
    Brings y = ((set_read y ≡ None) × (s.last (length sets) ≡ None))
        ⊎ ((x : PendingSet) × (set_read y ≡ Some x) × (s.last (length sets) ≡ Some x.attempt))

    refused_none : (y : Reply) → IsRefused y → set_read y ≡ None
    refused_none y h = grind arith

    pub brings : Brings (answer s.scene r)
    brings = elim (set_answered j h few (length sets) low) [
      | inl none ↦ elim (none_or_some (sets_at w s.scene (length sets))) [
        | inl gone ↦ inl (refused_none (answer s.scene r) none, none_published gone)
        | inr b ↦ absurd (not_refused w.committer b.0 b.1 none)
      ]
      | inr there ↦ inr (files_set w there.set.by there.set.commits (knowing (m.drawn there.set.by)), there.is_read, there.set.latest)
    ]

    -- So the commit goes on with one more set and one more pick, or with the same ones.
    read_next : (missing : Option ℕ) (x : ℕ) → missing ≡ None → (y : Reply) → y ≡ answer s.scene r
        → After missing (Fetching sets x) r (Answered y)
    read_next missing x m y e = elim (subst Brings (sym e) brings) [
      | inl none ↦ record {
        sets = sets;
        picks = λ t l. still none.1 t l ∙ agree t l;
        at = subst (λ v. IsAt w missing sets (fetched w sets v)) (sym none.0) (m, refl);
        grows = inl (still none.1);
      }
      | inr some ↦ record {
        sets = sets ++ some.0 ∷ [];
        picks = one_more some.0 some.2;
        at = subst (λ v. IsAt w missing (sets ++ some.0 ∷ []) (fetched w sets v)) (sym some.1)
            (at_fetching w missing (sets ++ some.0 ∷ []) m);
        grows = inr (record {
          sets = sets;
          missed = x;
          set = some.0;
          from = refl;
          to = ap (fetched w sets) some.1;
          next = low;
          picked = here ∙ some.2;
          others = other;
          behind = no_later;
        });
      }
    ]

  -- ---- any entry of the commit

  abbrev D : Commit → Type 0
  D c = Decides w g.minimum m.publish_sent m.drawn c

  same_after : (missing : Option ℕ) (sets : Sets) (c : Commit) (r : Request) (o : Outcome) → (IsRead w c o → ⊥) → D c
      → IsAt w missing sets c → ArePicks w s.picks sets → ((t : ℕ) → after r o t ≡ s.picks t) → After missing c r o
  same_after missing sets c r o not_read d at agree same = record {
    sets = sets;
    picks = λ t l. same t ∙ agree t l;
    at = at_tells w g.minimum m missing sets c o not_read d at;
    grows = inl (λ t l. same t);
  }

  pub after_entry : (missing : Option ℕ) (sets : Sets) (c : Commit) → D c → IsAt w missing sets c → ArePicks w s.picks sets → (r : Request)
      → commit_asks w c ≡ Some r → (o : Outcome) → IsHonestOutcome o (answer s.scene r) → After missing c r o
  after_entry missing sets (Fetching x y) d at agree r asked (Answered z) honest =
      let is : set_request w.committer w (length x) ≡ r = some_is asked in
      let P : Request → Type 0 = λ q. z ≡ answer s.scene q → After missing (Fetching x y) q (Answered z) in
      subst P is (read_next x d (subst (ArePicks w s.picks) (sym at.1) agree) missing y at.0 z) honest
  after_entry missing sets (CommitOver end) d at agree r asked o honest = absurd (none_some refl asked)
  after_entry missing sets (Fetching x y) d at agree r asked o honest = same_after missing sets (Fetching x y) r o (λ i. i) d at agree
      (λ t. refl)
  after_entry missing sets c d at agree r asked o honest =
      same_after missing sets c r o (λ i. i) d at agree (plain_picks w k s n r (commit_unread w g.minimum m c refl d r asked) o)
