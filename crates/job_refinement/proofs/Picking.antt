-- The attempts that the driver's commit has chosen are those that `see` derives from the entries.
use Rattle.text_and_lists.proofs.Members.{none_some, same_or_not, some_is}
use Rattle.text_and_lists.proofs.Options.{both_hold}
use Rattle.job_invariant.proofs.Reading.{reads_it, reads_other}
use Rattle.job_invariant.proofs.Replies.{bytes_read, set_reply}
use Rattle.job_invariant.specs.Facts.{knowing}
use Rattle.job_invariant.specs.FiledLaws.{Commits}
use Rattle.job_invariant.specs.Told.{Told, driver_entry, entry}
use Rattle.job_model.specs.Attempts.{Who}
use Rattle.job_model.specs.JobScript.{Script}
use Rattle.job_model.specs.Legal.{IsLegal}
use Rattle.job_model.specs.declared.ends.CommitEnd.{CommitEnd}
use Rattle.job_protocol.specs.AtWork.{picked_after, with_pick}
use Rattle.job_protocol.specs.JobCommits.{Commit, CommitOver, Fetching, Replacing, Reverting, Sets, commit_asks, commit_misses}
use Rattle.job_protocol.specs.JobCommits.{commit_start, commit_tells, decided, fetched, fetching, ok_set, picks_of, set_read, set_request}
use Rattle.job_protocol.specs.Operations.{Setting}
use Rattle.job_protocol.specs.Outputs.{same_path}
use Rattle.job_protocol.specs.Records.{files_set}
use Rattle.job_protocol.specs.Seen.{Seen, Times, is_picking, is_reading, see}
use Rattle.job_refinement.specs.Due.{SetStands}
use Rattle.job_refinement.specs.MachinesFit.{PicksTell}
use Rattle.job_refinement.specs.Picked.{ArePicked, IsEachPicked}
use Rattle.list_walk.specs.Walks.{Listing}
use Rattle.pending_json.specs.declared.records.PendingSet.{PendingSet}
use Rattle.s3_types.specs.Answer.{answer}
use Rattle.s3_types.specs.Moment.{IsHonestOutcome}
use Rattle.s3_types.specs.declared.journal.Outcome.{Outcome}
use Rattle.s3_types.specs.declared.journal.Outcome.TheVariants.{Answered, Slow}
use Rattle.s3_types.specs.declared.reply.Reply.{Reply}
use Rattle.s3_types.specs.declared.request.Request.{Request}
use Rattle.std.proofs.Common.{Bool, List, None, Option, Some, ap, arith, cond, false, inl, inr, length, length-append, nat_lt, refl}
use Rattle.std.proofs.Common.{slice_get, subst, suc, sym, true, zero, ℕ, [], ◌&&◌, ◌++◌, ◌+◌, ◌<◌, ◌^◌, ◌∙◌, ◌∷◌, ◌≡◌, ◌≤◌}
use Rattle.pending_json.specs.Reading as reading

-- ---- lists with one more

get_last : (xs : List ℕ) (y : ℕ) → slice_get (xs ++ y ∷ []) (length xs) ≡ Some y
get_last [] y = refl
get_last (x ∷ xs) y = get_last xs y

get_other : (xs : List ℕ) (y n : ℕ) → (n ≡ length xs → ⊥) → slice_get (xs ++ y ∷ []) n ≡ slice_get xs n
get_other [] y zero ne = absurd (ne refl)
get_other [] y (suc n) ne = refl
get_other (x ∷ xs) y zero ne = refl
get_other (x ∷ xs) y (suc n) ne = get_other xs y n (λ e. ne (ap suc e))

-- ---- one for each set, while it reads

-- the commit reads sets
abbrev fetches : Commit → Bool
fetches (Fetching sets n) = true
fetches _ = false

-- A commit that has read its sets reads none again.
reads_no_more : (w : Script) (c : Commit) (o : Outcome) → fetches c ≡ false → fetches (commit_tells w c o) ≡ false
reads_no_more w c o e = grind arith

decides : (w : Script) (sets : Sets) (o : Option CommitEnd) → fetches (decided w sets o) ≡ false
decides w sets o = grind arith

module _ (w : Script) (picked : List ℕ) where
  each_past : (c : Commit) → fetches c ≡ false → IsEachPicked picked c
  each_past c e = grind arith

  each_told : (c : Commit) (o : Outcome) → fetches c ≡ false → IsEachPicked picked (commit_tells w c o)
  each_told c o e = each_past (commit_tells w c o) (reads_no_more w c o e)

  each_if : (b : Bool) (c d : Commit) → IsEachPicked picked c → IsEachPicked picked d → IsEachPicked picked (cond b c d)
  each_if b c d h g = grind arith

  each_fetching : (sets : Sets) → length picked ≡ length sets → IsEachPicked picked (fetching w sets)
  each_fetching sets e = let last = decided w sets (same_path w (picks_of sets)) in each_if (nat_lt (length sets) w.tasks) (Fetching sets 0)
      last e (each_past last (decides w sets (same_path w (picks_of sets))))

  each_missed : (sets : Sets) (n : ℕ) (lost : Bool) → length picked ≡ length sets
      → IsEachPicked picked (commit_misses w (Fetching sets n) lost)
  each_missed sets n lost e = each_if (nat_lt n w.retries) _ _ e tt

begins_picked : (w : Script) (s : Seen) → ((t : ℕ) → s.picks t ≡ None) → (missing : Option ℕ) → ArePicked w s []
    × IsEachPicked [] (commit_start w missing)
begins_picked w s none missing = (
  λ t l. none t,
  elim missing as (λ o. IsEachPicked [] (commit_start w o))
      [ Some t ↦ tt | None ↦ each_fetching w [] [] refl ],
)

-- ---- a send

left : (b c : Bool) (x y : Option ℕ) → c ≡ false → cond (b && c) x y ≡ y
left b c x y h = grind arith

-- The chosen attempts that `see` derives after a send of the driver.
module _ (w : Script) (k : Times) (s : Seen) (n : ℕ) (picked : List ℕ) (are : ArePicked w s picked) where
  abbrev now : Request → Outcome → Seen
  now r o = see w k s (driver_entry n r o)

  -- A request that reads no set.
  other_picked : (r : Request) → ((t : ℕ) → is_reading w t r ≡ false) → (o : Outcome) → ArePicked w (now r o) picked
  other_picked r h o = grind arith

module _ (g : Setting) (j : IsLegal g.script) (k : Times) (s : Seen) (m : Told) (n : ℕ) (few : s.scene.content.next ≤ 2 ^ 64)
    (begun : is_picking k s.begun n ≡ true) (picked : List ℕ) (are : ArePicked g.script s picked) where
  abbrev w : Script
  w = g.script

  abbrev Tells : Commit → Request → Outcome → Type 0
  Tells c r o = ArePicked w (see w k s (driver_entry n r o)) (picked_after picked c o)
      × IsEachPicked (picked_after picked c o) (commit_tells w c o)

  -- the set of the next task is that of its last publisher
  module _ (sets : Sets) (low : length sets < w.tasks) (long : length picked ≡ length sets) (attempt : ℕ)
      (latest : s.last (length sets) ≡ Some attempt) where
    abbrev read : Request
    read = set_request w.committer w (length sets)

    picked_now : (x : Reply) → ArePicked w (see w k s (driver_entry n read (Answered x))) (picked ++ attempt ∷ [])
    picked_now x t l = elim (same_or_not t (length sets)) [
      | inl same ↦
          both_hold (is_picking k s.begun n) (is_reading w t read) (s.last t) (s.picks t) begun
          (ap (λ i. is_reading w i read) same ∙ reads_it j (length sets))
          ∙ ap s.last same ∙ latest ∙ sym (ap (slice_get (picked ++ attempt ∷ [])) (same ∙ sym long) ∙ get_last picked attempt)
      | inr ne ↦ left (is_picking k s.begun n) (is_reading w t read) (s.last t) (s.picks t) (reads_other j t (length sets) l low ne) ∙ are t
          l ∙ sym (get_other picked attempt t (λ d. ne (d ∙ long)))
    ]

    each_now : (h : PendingSet) (o : Option PendingSet) → o ≡ Some h → IsEachPicked (picked ++ attempt ∷ []) (fetched w sets o)
    each_now h o is =
        let both : length (picked ++ attempt ∷ []) ≡ length (sets ++ h ∷ []) = length-append picked (attempt ∷ []) ∙ ap (λ (i : ℕ). i + 1)
        long ∙ sym (length-append sets (h ∷ [])) in
        subst (λ q. IsEachPicked (picked ++ attempt ∷ []) (fetched w sets q)) (sym is)
        (each_fetching w (picked ++ attempt ∷ []) (sets ++ h ∷ []) both)

    -- The set was read.
    with_read : (missed : ℕ) (x : Reply) (h : PendingSet) → set_read x ≡ Some h → h.attempt ≡ attempt
        → Tells (Fetching sets missed) read (Answered x)
    with_read missed x h got is =
        let with_it : with_pick picked (set_read x) ≡ picked ++ attempt ∷ [] = ap (with_pick picked) got ∙ ap
        (λ a. picked ++ a ∷ []) is in (
          subst (ArePicked w (see w k s (driver_entry n read (Answered x)))) (sym with_it) (picked_now x),
          subst (λ p. IsEachPicked p (fetched w sets (set_read x))) (sym with_it) (each_now h (set_read x) got),
        )

  read_picked : (sets : Sets) (missed : ℕ) → Commits w g.minimum s m (Fetching sets missed) → SetStands w s (Fetching sets missed)
      → length picked ≡ length sets → (x : Reply) → x ≡ answer s.scene (set_request w.committer w (length sets))
      → Tells (Fetching sets missed) (set_request w.committer w (length sets)) (Answered x)
  read_picked sets missed v stands long x e =
      let low = v.fits.0 in
      let y = v.hold.sets (length sets) stands.0 low stands.1 in
      let h : PendingSet = files_set w y.by y.commits (knowing (m.drawn y.by)) in
      let due : set_read x ≡ ok_set (reading.set_of stands.0) = ap set_read e ∙ set_reply j v.hold w.committer (length sets) (Some stands.0)
      stands.1 in
      let got : set_read x ≡ Some h = due ∙ ap ok_set (bytes_read j v.hold few (length sets) stands.0 low y) in
      with_read sets low long y.by.attempt y.latest missed x h got refl

  other : (r : Request) (x : Reply) → ((t : ℕ) → is_reading w t r ≡ false) → ArePicked w (see w k s (driver_entry n r (Answered x))) picked
  other r x not_one = other_picked w k s n picked are r not_one (Answered x)

  heard_picked : (c : Commit) → Commits w g.minimum s m c → SetStands w s c → IsEachPicked picked c → (r : Request)
      → commit_asks w c ≡ Some r → (x : Reply) → x ≡ answer s.scene r → Tells c r (Answered x)
  heard_picked (Fetching sets i) v stands each r e x honest =
      let is : set_request w.committer w (length sets) ≡ r = some_is e in
      subst (λ q. Tells (Fetching sets i) q (Answered x)) is (read_picked sets i v stands each x (honest ∙ ap (answer s.scene) (sym is)))
  heard_picked (Replacing sets p ps (Listing keys) i) v stands each r e x honest =
      (other r x (λ t. ap (is_reading w t) (sym (some_is e))), each_told w picked (Replacing sets p ps (Listing keys) i) (Answered x) refl)
  heard_picked (Reverting q qs i) v stands each r e x honest = (
    other r x (λ t. ap (is_reading w t) (sym (some_is e)) ∙ elim (v.decides q (inl refl)).2
        [ inl is ↦ ap (is_reading w t) is | inr is ↦ ap (is_reading w t) is ]),
    each_told w picked (Reverting q qs i) (Answered x) refl,
  )
  heard_picked (CommitOver end) v stands each r e x honest = absurd (none_some refl e)
  heard_picked c v stands each r e x honest = (
    other r x (λ t. ap (is_reading w t) (sym (some_is e))),
    each_told w picked c (Answered x)
        refl,
  )

  goes_picked : (c : Commit) → Commits w g.minimum s m c → SetStands w s c → IsEachPicked picked c → (r : Request)
      → commit_asks w c ≡ Some r → (o : Outcome) → IsHonestOutcome o (answer s.scene r) → Tells c r o
  goes_picked c v stands each r e (Answered x) honest = heard_picked c v stands each r e x honest
  goes_picked (Fetching sets i) v stands each r e Slow honest = (are, each_missed w picked sets i false each)
  goes_picked (Fetching sets i) v stands each r e _ honest = (are, each_missed w picked sets i true each)
  goes_picked c v stands each r e o honest = (are, each_told w picked c o refl)

attempt_picks : (w : Script) (k : Times) (s : Seen) (a : Who) (n : ℕ) (r : Request) (o : Outcome)
    → (see w k s (entry a n r o)).picks ≡ s.picks
attempt_picks w k s a n r o = grind arith

pub picks_tell : PicksTell
picks_tell = record {
  begins = begins_picked;
  goes = λ g j k s m n c v few stands begun picked are each r e o honest. goes_picked g j k s m n few begun picked are c v stands each r e o
      honest;
  attempts = attempt_picks;
  strangers = λ w k s n r o. refl;
}
