-- The picks that the journal shows as the driver's commit reads the sets.
use Rattle.text_and_lists.proofs.Lists.{slice_last}
use Rattle.text_and_lists.proofs.Members.{text_false, text_true}
use Rattle.job_invariant.proofs.Agreeing.{AgreeBelow, Agrees, agrees_fetching}
use Rattle.job_invariant.proofs.Legal.{small_task}
use Rattle.job_invariant.proofs.Placed.{one_path, one_place}
use Rattle.job_invariant.proofs.Replies.{set_answered}
use Rattle.job_invariant.specs.Facts.{Facts, knowing}
use Rattle.job_invariant.specs.Told.{Told}
use Rattle.job_model.specs.JobScript.{Script}
use Rattle.job_model.specs.Legal.{IsLegal}
use Rattle.job_protocol.specs.JobCommits.{Sets, fetched, set_read, set_request}
use Rattle.job_protocol.specs.Outputs.{Picks}
use Rattle.job_protocol.specs.Records.{files_set}
use Rattle.job_protocol.specs.Seen.{is_magic, is_reading, is_staging, picks_by}
use Rattle.magic_paths.specs.Places.{SetPlace, StagedSetPlace}
use Rattle.pending_json.specs.declared.records.PendingSet.{PendingSet}
use Rattle.s3_types.specs.Answer.{answer}
use Rattle.s3_types.specs.Store.{Scene}
use Rattle.s3_types.specs.declared.reply.Reply.{Reply}
use Rattle.s3_types.specs.declared.request.Committer.{Committer}
use Rattle.s3_types.specs.declared.request.Committer.TheVariants.{Magic}
use Rattle.std.proofs.Common.{Bool, List, Option, Some, ap, arith, cond, false, inl, inr, length, length-append, refl, slice_get, subst}
use Rattle.std.proofs.Common.{suc, sym, true, zero, ℕ, [], ◌&&◌, ◌++◌, ◌+◌, ◌<◌, ◌^◌, ◌∙◌, ◌∷◌, ◌≡◌, ◌≤◌}
use Rattle.std.proofs.Math.Bool.{and-false}
use Rattle.std.proofs.lemmas.Bool.{and_right, cases_lt}
use Rattle.std.specs.Cmp.Derive.{both_true}
use Rattle.std.specs.Option.{option_map}
use Rattle.magic_paths.specs.Layout as layout

-- ---- the task of a read

module _ {w : Script} (j : IsLegal w) where
  reads_by : (c : Committer) → w.committer ≡ c → (t : ℕ) → is_reading w t (set_request c w t) ≡ true
  reads_by Magic e t = both_true (ap is_magic e) (both_true (text_true w.dest.bucket w.dest.bucket refl)
      (text_true (layout.set_key w.dest.key w.job t) (layout.set_key w.dest.key w.job t) refl))
  reads_by _ e t = both_true (ap is_staging e) (text_true (layout.staged_set_path w.job t) (layout.staged_set_path w.job t) refl)

  pub reads_it : (t : ℕ) → is_reading w t (set_request w.committer w t) ≡ true
  reads_it t = reads_by w.committer refl t

  other_by : (c : Committer) → (t u : ℕ) → t < w.tasks → u < w.tasks → (t ≡ u → ⊥) → is_reading w t (set_request c w u) ≡ false
  other_by Magic t u l k ne = and_right _ _ (and_right _ _ (text_false _ _
      (λ e. ne (let at : SetPlace u ≡ SetPlace t = one_place j (SetPlace u) (SetPlace t) (small_task j u k) (small_task j t l) e in cc))))
  other_by _ t u l k ne = and_right _ _ (text_false _ _ (λ e. ne
      (let at : StagedSetPlace u ≡ StagedSetPlace t = one_path j (StagedSetPlace u) (StagedSetPlace t) (small_task j u k) (small_task j t l)
      e in cc)))

  pub reads_other : (t u : ℕ) → t < w.tasks → u < w.tasks → (t ≡ u → ⊥) → is_reading w t (set_request w.committer w u) ≡ false
  reads_other t u l k ne = other_by w.committer t u l k ne

-- ---- the sets that were read, with one more

slice_front : {X : Type 0} (xs : List X) (y : X) (n : ℕ) → n < length xs → slice_get (xs ++ y ∷ []) n ≡ slice_get xs n
slice_front [] y n l = absurd (omega arith)
slice_front (x ∷ xs) y zero l = refl
slice_front (x ∷ xs) y (suc n) l = slice_front xs y n (omega arith)

module _ {w : Script} {minimum : ℕ} {s : Scene} {last : ℕ → Option ℕ} {m : Told} (j : IsLegal w) (f : Facts w minimum s last m)
    (few : s.content.next ≤ 2 ^ 64) (picks : Picks) (sets : Sets) (low : length sets < w.tasks)
    (agree : AgreeBelow w picks sets (length sets)) (begun : Bool) (has_begun : begun ≡ true) where
  -- The picks after the answer.
  abbrev next : Picks
  next = picks_by w begun last picks (set_request w.committer w (length sets))

  next_other : (t : ℕ) → t < w.tasks → (t ≡ length sets → ⊥) → next t ≡ picks t
  next_other t l ne = ap (λ b. cond (begun && b) (last t) (picks t)) (reads_other j t (length sets) l low ne) ∙ ap
      (λ b. cond b (last t) (picks t)) (and-false begun)

  next_here : next (length sets) ≡ last (length sets)
  next_here = ap (λ b. cond (begun && b) (last (length sets)) (picks (length sets))) (reads_it j (length sets)) ∙ ap
      (λ b. cond (b && true) (last (length sets)) (picks (length sets))) has_begun

  still_agree : AgreeBelow w next sets (length sets)
  still_agree t l = next_other t (omega arith) (λ e. absurd (omega (arith, e))) ∙ agree t l

  -- A set that was read is that of the last publisher, which becomes the pick.
  one_more : (h : PendingSet) → last (length sets) ≡ Some h.attempt → AgreeBelow w next (sets ++ h ∷ []) (length (sets ++ h ∷ []))
  one_more h latest t l =
      let long : length (sets ++ h ∷ []) ≡ length sets + 1 = length-append sets (h ∷ []) in
      elim (cases_lt t (length sets)) [
        | inl below ↦ still_agree t below ∙ sym (ap (option_map (λ (v : PendingSet). v.attempt)) (slice_front sets h t below))
        | inr high ↦
            let is : t ≡ length sets = omega (arith, high, long, l) in
            ap next is ∙ next_here ∙ latest
            ∙ sym (ap (λ n. option_map (λ (v : PendingSet). v.attempt) (slice_get (sets ++ h ∷ []) n)) is ∙ ap
            (option_map (λ (v : PendingSet). v.attempt)) (slice_last sets h))
      ]

  pub agrees_read : (x : Reply) → x ≡ answer s (set_request w.committer w (length sets)) → Agrees w next (fetched w sets (set_read x))
  agrees_read x e = elim (set_answered j f few (length sets) low) [
    | inl none ↦ elim none [
      | inl key ↦ subst (λ y. Agrees w next (fetched w sets (set_read y))) (sym (e ∙ key)) still_agree
      | inr file ↦ subst (λ y. Agrees w next (fetched w sets (set_read y))) (sym (e ∙ file)) still_agree
    ]
    | inr there ↦
        let o = there.set in
        let h : PendingSet = files_set w o.by o.commits (knowing (m.drawn o.by)) in
        let is : set_read x ≡ Some h = ap set_read e ∙ there.is_read in
        let long : length (sets ++ h ∷ []) ≡ length sets + 1 = length-append sets (h ∷ []) in
        subst (λ y. Agrees w next (fetched w sets y)) (sym is) (agrees_fetching w next (sets ++ h ∷ []) (omega (arith, long, low))
        (one_more h o.latest))
  ]
