-- While the driver's commit completes, the uploads of its sets are all different, and an upload that is ended is done or a send of it was
-- lost.
use Rattle.text_and_lists.proofs.Members.{eq_nat, false_true, in_front, in_last, nat_true, some_is, true_or_false}
use Rattle.text_and_lists.specs.Members.{IsIn}
use Rattle.job_invariant.proofs.Foreign.{reads_name, set_reads}
use Rattle.job_invariant.proofs.Held.{Course, either, fetched_so, nth_of, of_sets, swept_so, tells_so, to_in, uploads_uniq}
use Rattle.job_invariant.proofs.Replies.{completed}
use Rattle.job_invariant.specs.Driver.{FitsJobCommit, Reads}
use Rattle.job_invariant.specs.Facts.{Hold}
use Rattle.job_invariant.specs.Told.{Told, ends, tell_driver}
use Rattle.job_invariant.specs.Turning.{NoneEnded, Turned, Turns}
use Rattle.job_model.specs.JobScript.{Script}
use Rattle.job_model.specs.Legal.{IsLegal}
use Rattle.job_protocol.specs.JobCommits.{Commit, CommitOver, Completing, Fetching, Marking, Replacing, Reverting, Sets, all_commits}
use Rattle.job_protocol.specs.JobCommits.{commit_asks, commit_misses, commit_start, commit_tells, completing, is_no_magic, reverting}
use Rattle.job_protocol.specs.JobCommits.{set_read, set_request, worn_completion}
use Rattle.job_protocol.specs.LaneTable.{Tabled}
use Rattle.job_protocol.specs.Lanes.{Turn, again, completion, follow, nth, revert}
use Rattle.job_protocol.specs.Operations.{Setting}
use Rattle.job_protocol.specs.Seen.{Seen}
use Rattle.list_walk.specs.Walks.{Sweep, sweep_asks, sweep_hears}
use Rattle.pending_json.specs.Pending.{Pending}
use Rattle.s3_types.specs.Answer.{answer}
use Rattle.s3_types.specs.Blocks.{named_from}
use Rattle.s3_types.specs.Moment.{is_effective}
use Rattle.s3_types.specs.Tags.{joined_tag}
use Rattle.s3_types.specs.declared.journal.Outcome.{Outcome}
use Rattle.s3_types.specs.declared.journal.Outcome.TheVariants.{Answered, Slow}
use Rattle.s3_types.specs.declared.reply.Reply.{Reply}
use Rattle.s3_types.specs.declared.reply.Reply.TheVariants.{Completed}
use Rattle.s3_types.specs.declared.request.Request.{Request}
use Rattle.std.proofs.Common.{Bool, List, Option, Some, ap, arith, false, inl, inr, length, map, nat_lt, refl, subst, sym, true, ℕ, []}
use Rattle.std.proofs.Common.{◌&&◌, ◌++◌, ◌<◌, ◌||◌, ◌∙◌, ◌∷◌, ◌≡◌, ◌⊎◌}
use Rattle.std.proofs.Math.Bool.{and-false, or-true}
use Rattle.std.proofs.lemmas.Bool.{and_parts, false≢true}

module _ (w : Script) (minimum : ℕ) (s : Seen) (m : Told) (j : IsLegal w) (f : Hold w minimum s m) where
  pub uploads_apart : (sets : Sets) → Reads w minimum m.publish_sent m.drawn sets → (i n : ℕ) → i < length (all_commits sets)
      → n < length (all_commits sets) → (nth (all_commits sets) i).upload ≡ (nth (all_commits sets) n).upload → i ≡ n
  uploads_apart sets reads = uploads_uniq j f sets reads

  -- A completion of which no send was lost.
  pub turn_answered : (sets : Sets) (x : Turn) (xs : List Turn) (finished : List ℕ) → Reads w minimum m.publish_sent m.drawn sets
      → Tabled w (Completing sets x xs finished) → Turns m (Completing sets x xs finished) → x.lost ≡ false
      → let p = nth (all_commits sets) x.number in answer s.scene (completion p) ≡ Completed
      (joined_tag (map (λ t. t.tag) (named_from 1 p.tags)))
  turn_answered sets x xs finished reads t turns fresh =
      let p = nth (all_commits sets) x.number in
      let low = t.within x (inl refl) in
      let v = (of_sets j f sets reads p (nth_of (all_commits sets) x.number low)).1.commit in
      let open_one : m.ended p.upload ≡ false = elim (true_or_false (m.ended p.upload)) [
        | inr out ↦ out
        | inl ended ↦ elim (turns.only x.number low ended) [
          | inl done ↦ absurd (t.undone x x.number (inl refl) (to_in x.number finished done) (0, refl))
          | inr y ↦ elim y.1 [
            | inl is ↦ absurd (false_true fresh (ap (λ (z : Turn). z.lost) (sym is) ∙ y.3))
            | inr i ↦ absurd (t.apart.0 y.0 x.number (to_in y.0 xs i) (0, refl) (0, y.2))
          ]
        ]
      ] in
      let mine : m.ended v.written.drawn.upload ≡ false = ap m.ended (sym (ap (λ (z : Pending). z.upload) v.is)) ∙ open_one in
      subst (λ (z : Pending). answer s.scene (completion z) ≡ Completed (joined_tag (map (λ t. t.tag) (named_from 1 z.tags)))) (sym v.is)
      (completed j f v.by v.file v.mine v.written mine (f.kept v.by v.has_sent))

-- ---- entries

turns_reverting : (m : Told) (rs : List Request) → Turns m (reverting rs)
turns_reverting m rs = grind arith

turns_completing : (m : Told) (sets : Sets) (xs : List Turn) (finished : List ℕ) → Turned m.ended sets xs finished
    → Turns m (completing sets xs finished)
turns_completing m sets xs finished h = grind arith

pub none_turned : (m : Told) → NoneEnded m → (sets : Sets) (xs : List Turn) → Turned m.ended sets xs []
none_turned m none sets xs = record { only = λ n l e. absurd (false_true (none _) e); done = λ n i. absurd i }

module _ (w : Script) (m : Told) (none : NoneEnded m) where
  none_course : Course w (Turns m) (λ sets. Unit {0}) (λ sets ps. Unit {0})
  none_course = grind arith

  pub turns_start : (missing : Option ℕ) → Turns m (commit_start w missing)
  turns_start missing = grind arith

-- A request that ends nothing.
pub still_none : (m : Told) (r : Request) (o : Outcome) → ((id : ℕ) → ends r id ≡ false) → NoneEnded m → NoneEnded (tell_driver m r o)
still_none m r o no_end h id = ap (λ b. b || (is_effective o && ends r id)) (h id) ∙ ap (λ b. is_effective o && b) (no_end id) ∙ and-false
    (is_effective o)

pub sweep_none : (w : Script) (p : List ℕ) (s : Sweep) (id : ℕ) → ends (sweep_asks w.dest.bucket p s) id ≡ false
sweep_none w p s id = grind arith

module _ (w : Script) (minimum : ℕ) (s : Seen) (m : Told) (j : IsLegal w) (f : Hold w minimum s m) where
  -- A completion of the turn's upload.
  module _ (sets : Sets) (x : Turn) (xs : List Turn) (finished : List ℕ) (reads : Reads w minimum m.publish_sent m.drawn sets)
      (t : Tabled w (Completing sets x xs finished)) (turns : Turns m (Completing sets x xs finished)) where
    abbrev r : Request
    r = completion (nth (all_commits sets) x.number)

    abbrev told : Outcome → Told
    told o = tell_driver m r o

    -- What is ended then was ended before, or it is this one.
    ended_by : (o : Outcome) (n : ℕ) → n < length (all_commits sets) → (told o).ended (nth (all_commits sets) n).upload ≡ true
        → (m.ended (nth (all_commits sets) n).upload ≡ true) ⊎ ((is_effective o ≡ true) × (x.number ≡ n))
    ended_by o n low e = elim (true_or_false (m.ended (nth (all_commits sets) n).upload)) [
      | inl g ↦ inl g
      | inr g ↦
          let both = and_parts (is_effective o) (ends r (nth (all_commits sets) n).upload)
          (sym (ap (λ b. b || (is_effective o && ends r (nth (all_commits sets) n).upload)) g) ∙ e) in
          inr (
            both.0,
            sym (uploads_apart w minimum s m j f sets reads n x.number low (t.within x (inl refl))
                (eq_nat (nth (all_commits sets) n).upload (nth (all_commits sets) x.number).upload both.1)),
          )
    ]

    was_ended : (o : Outcome) (n : ℕ) → m.ended (nth (all_commits sets) n).upload ≡ true
        → (told o).ended (nth (all_commits sets) n).upload ≡ true
    was_ended o n e = ap (λ b. b || (is_effective o && ends r (nth (all_commits sets) n).upload)) e

    now_ended : (o : Outcome) → is_effective o ≡ true → (told o).ended (nth (all_commits sets) x.number).upload ≡ true
    now_ended o h = grind (arith, nat_true, or-true)

    abbrev Waits : List Turn → List ℕ → ℕ → Type 0
    Waits waiting done n = IsIn n done ⊎ ((y : Turn) × IsIn y waiting × (y.number ≡ n) × (y.lost ≡ true))

    turned_by : (o : Outcome) (waiting : List Turn) (done : List ℕ)
        → ((is_effective o ≡ true) ⊎ (x.lost ≡ true) → Waits waiting done x.number) → ((n : ℕ) → IsIn n finished → IsIn n done)
        → ((y : Turn) → IsIn y xs → IsIn y waiting)
        → ((n : ℕ) → IsIn n done → (told o).ended (nth (all_commits sets) n).upload ≡ true) → Turned (told o).ended sets waiting done
    turned_by o waiting done here old others ended = record {
      only = λ n low e. elim (ended_by o n low e) [
        | inr new ↦ subst (Waits waiting done) new.1 (here (inl new.0))
        | inl was ↦ elim (turns.only n low was) [
          | inl i ↦ inl (old n i)
          | inr z ↦ elim z.1 [
            | inl is ↦ subst (Waits waiting done) (sym (ap (λ (v : Turn). v.number) is) ∙ z.2)
                (here (inr (sym (ap (λ (v : Turn). v.lost) is) ∙ z.3)))
            | inr i ↦ inr (z.0, others z.0 i, z.2, z.3)
          ]
        ]
      ];
      done = ended;
    }

    pub answered_turned : (y : Reply) → Turned (told (Answered y)).ended sets (xs ++ follow w.lanes (length (all_commits sets)) x.number)
        (x.number ∷ finished)
    answered_turned y = turned_by (Answered y) _ _ (λ h. inl (inl refl)) (λ n i. inr i)
        (λ z i. in_front z xs (follow w.lanes (length (all_commits sets)) x.number) i) (λ n i. elim i [
          | inl is ↦ ap (λ k. (told (Answered y)).ended (nth (all_commits sets) k).upload) is ∙ now_ended (Answered y) refl
          | inr old ↦ was_ended (Answered y) n (turns.done n old)
        ])

    pub missed_turned : (o : Outcome) (lost : Bool) → (is_effective o ≡ true → lost ≡ true)
        → Turned (told o).ended sets (xs ++ again x lost ∷ []) finished
    missed_turned o lost so = turned_by o _ _
        (λ h. inr (
          again x lost,
          in_last (again x lost) xs,
          refl,
          elim h [
            | inl e ↦ ap (λ b. x.lost || b) (so e) ∙ or-true x.lost
            | inr e ↦
                ap (λ b. b || lost) e
          ],
        ))
        (λ n i. i) (λ z i. in_front z xs (again x lost ∷ []) i) (λ n i. was_ended o n (turns.done n i))

    missed_turns : (o : Outcome) (lost : Bool) → (is_effective o ≡ true → lost ≡ true)
        → Turns (told o) (commit_misses w (Completing sets x xs finished) lost)
    missed_turns o lost so =
        either w (Turns (told o)) (nat_lt x.missed w.retries) (completing sets (xs ++ again x lost ∷ []) finished)
        (worn_completion sets x xs finished)
        (λ e. turns_completing (told o) sets (xs ++ again x lost ∷ []) finished (missed_turned o lost so))
        (λ e. turns_reverting (told o) (revert (all_commits sets) x.number xs finished))

    pub completion_turns : (o : Outcome) → Turns (told o) (commit_tells w (Completing sets x xs finished) o)
    completion_turns (Answered y) = turns_completing (told (Answered y)) sets (xs ++ follow w.lanes (length (all_commits sets)) x.number)
        (x.number ∷ finished) (answered_turned y)
    completion_turns Slow = missed_turns Slow false (λ e. absurd (false≢true e))
    completion_turns o = missed_turns o true (λ e. refl)

pub commit_turns : (g : Setting) → IsLegal g.script → (s : Seen) (m : Told) → Hold g.script g.minimum s m → (c : Commit)
    → FitsJobCommit g.script g.minimum m.publish_sent m.drawn c → Tabled g.script c → Turns m c
    → (r : Request) → commit_asks g.script c ≡ Some r → (o : Outcome) → Turns (tell_driver m r o) (commit_tells g.script c o)
commit_turns g j s m h (Fetching sets n) f t v r e o =
    let none = still_none m r o (λ id. ap (λ q. ends q id) (sym (some_is e)) ∙
    (reads_name (set_request g.script.committer g.script (length sets)) (set_reads g.script.committer g.script (length sets))).ends_none
    id) v in
    tells_so g.script (Turns (tell_driver m r o)) (Fetching sets n) o (λ x y. fetched_so (none_course g.script (tell_driver m r o) none)
    sets (set_read x) f.0 tt (λ h z. tt)) (λ lost. none) tt
commit_turns g j s m h (Replacing sets p ps x n) f t v r e o =
    let none = still_none m r o (λ id. ap (λ q. ends q id) (sym (some_is e)) ∙ sweep_none g.script p x id) v in
    tells_so g.script (Turns (tell_driver m r o)) (Replacing sets p ps x n) o
    (λ y z. swept_so (none_course g.script (tell_driver m r o) none) sets p ps (sweep_hears (is_no_magic g.script) x y) tt
    (λ u z. none)) (λ lost. none) tt
commit_turns g j s m h (Completing sets x xs finished) f t v r e o =
    subst (λ q. Turns (tell_driver m q o) (commit_tells g.script (Completing sets x xs finished) o)) (some_is e)
    (completion_turns g.script g.minimum s m j h sets x xs finished f t v o)
commit_turns g j s m h (Marking sets n) f t v r e o = tells_so g.script (Turns (tell_driver m r o)) (Marking sets n) o (λ x y. tt)
    (λ lost. tt) tt
commit_turns g j s m h (Reverting q qs n) f t v r e o = tells_so g.script (Turns (tell_driver m r o)) (Reverting q qs n) o
    (λ x y. turns_reverting (tell_driver m r o) qs) (λ lost. tt) (turns_reverting (tell_driver m r o) qs)
commit_turns g j s m h (CommitOver end) f t v r e o = absurd cc
