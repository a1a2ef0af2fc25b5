-- Every run of a job is sound for readers.
use Rattle.text_and_lists.proofs.Members.{false_true, none_some, true_or_false}
use Rattle.job_invariant.proofs.Wanted.{wanted_of}
use Rattle.job_invariant.specs.Stores.{at_key}
use Rattle.job_model.specs.JobScript.{Script}
use Rattle.job_model.specs.Legal.{IsLegal}
use Rattle.job_protocol.specs.Conflicts.{keeps_of}
use Rattle.job_protocol.specs.Operations.{Setting}
use Rattle.job_protocol.specs.Outputs.{Picks, is_clash, is_decided, is_picked, wanted_at}
use Rattle.job_protocol.specs.Seen.{Seen, Times, nothing_seen, see_all, seen}
use Rattle.job_protocol.specs.View.{object_at, view}
use Rattle.job_safety.proofs.Ending.{ahead_none}
use Rattle.job_soundness.proofs.Claimed.{AreDeclared, chooses, chosen_wanted, kept_is, replaced_is}
use Rattle.job_soundness.proofs.Declared.{declared}
use Rattle.job_soundness.proofs.Marked.{no_old}
use Rattle.job_soundness.proofs.Steady.{settled}
use Rattle.job_soundness.proofs.Visible.{file_visible, shown_is}
use Rattle.job_soundness.specs.Claim.{chosen_below, claim_of, marker_of, moment_of, moments_to, shown}
use Rattle.job_soundness.specs.Safe.{PicksExplain, RunsAreSafe, picks_at_end}
use Rattle.job_spec.specs.Entries.{AreOwn}
use Rattle.job_spec.specs.Headline.{Kept, Whole as WholeJob, or_else}
use Rattle.job_spec.specs.States.{times}
use Rattle.script_steps.proofs.Running.{is_run}
use Rattle.script_steps.specs.Running.{IsRun}
use Rattle.script_steps.specs.Transitions.{Play, Reachable}
use Rattle.protocol_runs.proofs.Entries.{always, sees, take_all}
use Rattle.protocol_runs.specs.Runs.{IsOpening}
use Rattle.magic_paths.specs.Layout.{success_key}
use Rattle.s3_types.specs.Store.{Content}
use Rattle.s3_types.specs.declared.journal.Entry.{Entry}
use Rattle.soundness.specs.Claims.{is_kept, is_replaced}
use Rattle.soundness.specs.Moments.{Explains, Fits, MayShow, Moment, Shown, Sound, Unchanged, Whole}
use Rattle.soundness.specs.Paths.{is_visible}
use Rattle.std.proofs.Common.{Bool, List, None, Option, Some, ap, arith, cond, false, inl, inr, length, not, refl, subst, suc, sym, true}
use Rattle.std.proofs.Common.{zero, ℕ, [], ◌&&◌, ◌∙◌, ◌≡◌, ◌≤◌}
use Rattle.std.proofs.lemmas.Bool.{and_parts}
use Rattle.std.proofs.lemmas.List.Elements.{All-push}
use Rattle.std.specs.List.{All}
use Rattle.std.specs.Prelude.{is_some}
use Rattle.soundness.specs.declared.marker.Marker.TheVariants as markers

-- What holds of the state after each number of entries holds of all moments.
each_moment : (w : Script) (k : Times) (opening : Content) (es : List Entry) (P : Moment (List ℕ) → Type 0) (n : ℕ) → ((m : ℕ) → m ≤ n
    → P (moment_of w (seen w k opening es m))) → All P (moments_to w k opening es n)
each_moment w k opening es P zero h = All-push P [] (moment_of w (seen w k opening es 0)) (λ i d l. absurd (omega (arith, l))) (h 0
    (omega arith))
each_moment w k opening es P (suc n) h = All-push P (moments_to w k opening es n) (moment_of w (seen w k opening es (suc n)))
    (each_moment w k opening es P n (λ m l. h m (omega arith))) (h (suc n) (omega arith))

-- ---- markers

old_put : (there put : Bool) → marker_of there put ≡ markers.Old → (there ≡ true) × (put ≡ false)
old_put there put h = grind arith

new_put : (there put : Bool) → marker_of there put ≡ markers.New → (put && there) ≡ true
new_put there put h = grind arith

-- ---- one moment

module _ (w : Script) (opening : Content) (s : Seen) (kept : Kept w opening s) where
  abbrev now : Shown (List ℕ)
  now = shown w.dest s.scene.content

  abbrev first : Shown (List ℕ)
  first = shown w.dest opening

  -- If two views are the same, readers see the same.
  same_shown : ((p : List ℕ) → view w.dest s.scene.content p ≡ view w.dest opening p) → (p : List ℕ) → now p ≡ first p
  same_shown h p = shown_is w.dest s.scene.content p ∙ ap (λ v. cond (is_visible p) v None) (h p) ∙ sym (shown_is w.dest opening p)

  abbrev there : Bool
  there = is_some (object_at s.scene.content w.dest.bucket (success_key w.dest.key))

  undecided_same : is_decided w s.picks ≡ false → (p : List ℕ) → now p ≡ first p
  undecided_same e = elim (true_or_false s.begun) [ inl b ↦ same_shown ((kept.between b).untouched e) | inr b ↦ same_shown (kept.before b) ]

  pub unchanged : is_decided w s.picks ≡ false → Unchanged first (moment_of w s)
  unchanged e = record {
    shows = undecided_same e;
    unmarked = λ new. (let whole = kept.whole (new_put there s.put_mark new) in false_true e (rw (whole.picked, whole.apart) refl));
  }

  -- What readers see at a path is what the view has there, and the path is visible.
  visible_some : (c : Content) (p x : List ℕ) → shown w.dest c p ≡ Some x → (is_visible p ≡ true) × (view w.dest c p ≡ Some x)
  visible_some c p x e = elim (true_or_false (is_visible p)) [
    | inl v ↦ (v, sym (ap (λ b. cond b (view w.dest c p) None) v) ∙ sym (shown_is w.dest c p) ∙ e)
    | inr v ↦ absurd (none_some (shown_is w.dest c p ∙ ap (λ b. cond b (view w.dest c p) None) v) e)
  ]

  visible_is : (c : Content) (p : List ℕ) → is_visible p ≡ true → shown w.dest c p ≡ view w.dest c p
  visible_is c p v = shown_is w.dest c p ∙ ap (λ b. cond b (view w.dest c p) None) v

  -- With the picks that are decided at the end.
  module _ (j : IsLegal w) (picks : Picks) (are : AreDeclared w picks) (decided : is_decided w picks ≡ true)
      (settled : is_decided w s.picks ≡ true → picks ≡ s.picks)
      (no_old : s.begun ≡ true → s.put_mark ≡ false → at_key w s.scene.content (success_key w.dest.key) ≡ None) where
    abbrev chosen : List ℕ → Option (List ℕ)
    chosen = wanted_at w picks

    picked : is_picked w picks ≡ true
    picked = (and_parts (is_picked w picks) (not (is_clash w picks)) decided).0

    module _ (p : List ℕ) where
      fits_same : now p ≡ first p → Fits (is_kept (claim_of w) p) (first p) (chosen p) (now p)
      fits_same e = record { only = λ x h. inl (sym e ∙ h); stays = λ x h keep none. e ∙ h }

      fits : s.begun ≡ true → Fits (is_kept (claim_of w) p) (first p) (chosen p) (now p)
      fits b = elim (true_or_false (is_decided w s.picks)) [
        | inr e ↦ fits_same (undecided_same e p)
        | inl e ↦
            let same = settled e in
            let old = kept.between b in
            record {
              only = λ x h. (let v = visible_some s.scene.content p x h in elim (old.only e p x v.1) [
                | inl o ↦ inl (visible_is opening p v.0 ∙ o)
                | inr f ↦ inr (ap (λ q. wanted_at w q p) same ∙ f)
              ]);
              stays = λ x h keep none.
                  (let v = visible_some opening p x h in
                  visible_is s.scene.content p v.0 ∙ old.kept e p x v.1 (ap (λ q. keeps_of w q p) (sym same)
                  ∙ kept_is w picks are p keep) (ap (λ q. wanted_at w q p) (sym same) ∙ none));
            }
      ]

      whole : WholeJob w (view w.dest opening) s.picks s.scene.content → picks ≡ s.picks
          → Whole (is_kept (claim_of w) p) (is_replaced (claim_of w) p) (first p) (chosen p) (now p)
      whole h same = record {
        written = λ x f.
            (let file = wanted_of w picks p x f in
            let v : is_visible p ≡ true = ap is_visible file.path ∙ file_visible j _ file.file file.from.mine in
            visible_is s.scene.content p v ∙ h.files p ∙ ap (λ o. or_else o (cond (keeps_of w s.picks p) (view w.dest opening p) None))
            (ap (λ q. wanted_at w q p) (sym same) ∙ f));
        only = λ none x f.
            (let v = visible_some s.scene.content p x f in
            visible_is opening p v.0 ∙ from_kept (keeps_of w s.picks p) x (sym (shows none) ∙ v.1));
        stays = λ none x f keep.
            (let v = visible_some opening p x f in
            visible_is s.scene.content p v.0 ∙ shows none ∙ ap (λ b. cond b (view w.dest opening p) None) (ap (λ q. keeps_of w q p)
            (sym same) ∙ kept_is w picks are p keep) ∙ v.1);
        goes = λ none x f replaced.
            (let v = visible_some opening p x f in
            visible_is s.scene.content p v.0 ∙ shows none ∙ ap (λ b. cond b (view w.dest opening p) None) (ap (λ q. keeps_of w q p)
            (sym same) ∙ replaced_is w picks are p picked replaced));
      }
        where
          shows : chosen p ≡ None → view w.dest s.scene.content p ≡ cond (keeps_of w s.picks p) (view w.dest opening p) None
          shows none = h.files p ∙ ap (λ o. or_else o (cond (keeps_of w s.picks p) (view w.dest opening p) None)) (ap
              (λ q. wanted_at w q p) (sym same) ∙ none)

          from_kept : (b : Bool) (x : List ℕ) → cond b (view w.dest opening p) None ≡ Some x → view w.dest opening p ≡ Some x
          from_kept true x e = e
          from_kept false x e = absurd (none_some refl e)

      allows : MayShow (claim_of w) first (moment_of w s) p (chosen p)
      allows = record {
        before = λ b. same_shown (kept.before b) p;
        between = fits;
        stale = λ old. (let o = old_put there s.put_mark old in elim (true_or_false s.begun) [
          | inr b ↦ same_shown (kept.before b) p
          | inl b ↦ absurd (false_true (ap is_some (no_old b o.1)) o.0)
        ]);
        whole = λ new.
            (let h = kept.whole (new_put there s.put_mark new) in
            whole h (settled (rw (h.picked, h.apart) refl)));
      }

    pub explains : Explains (claim_of w) first (chosen_below w picks w.tasks) (moment_of w s)
    explains p = subst (MayShow (claim_of w) first (moment_of w s) p) (sym (chosen_wanted w picks p)) (allows p)

-- ---- a run

module _ (g : Setting) (opening : Content) (x : Play) (j : IsLegal g.script) (is : IsOpening g opening) (run : Reachable g opening x)
    (idle : x.now ≡ None) (own : AreOwn x.journal) where
  abbrev v : Script
  v = g.script

  abbrev k : Times
  k = times g.script x.ends

  abbrev at : ℕ → Seen
  at m = seen g.script (times g.script x.ends) opening x.journal m

  abbrev last : Picks
  last = picks_at_end g.script opening x.journal x.ends

  r : IsRun g opening x (times g.script x.ends)
  r = is_run g opening j is x run x.ends (ahead_none x idle)

  kept : (m : ℕ) → m ≤ length x.journal → Kept v opening (at m)
  kept = always g k opening j is x.journal r.stand r.runs own

  -- What the whole journal shows is the state at its end.
  end_is : r.stand.seen ≡ at (length x.journal)
  end_is = sees g k opening j is x.journal r.stand r.runs ∙ ap (see_all v k (nothing_seen opening)) (sym (take_all x.journal
      (length x.journal) (omega arith)))

  stays : (m : ℕ) → m ≤ length x.journal → is_decided v (at m).picks ≡ true → last ≡ (at m).picks
  stays m within decided = ap (λ (s : Seen). s.picks) (sym end_is) ∙ settled g k opening j is x.journal r.stand r.runs m within decided

  are : AreDeclared v last
  are = subst (λ (l : List Entry). AreDeclared v (see_all v k (nothing_seen opening) l).picks) (sym (take_all x.journal
      (length x.journal) (omega arith))) (declared g k opening j x run)

  pub explain : is_decided v last ≡ true → PicksExplain v opening x.journal x.ends
  explain decided = record {
    chooses = chooses v last are (and_parts (is_picked v last) (not (is_clash v last)) decided).0;
    explain = each_moment v k opening x.journal (Explains (claim_of v) (shown v.dest opening) (chosen_below v last v.tasks))
        (length x.journal)
        (λ m within. explains v opening (at m) (kept m within) j last are decided (stays m within)
        (no_old g k opening j is x.journal r.stand r.runs own m));
  }

  pub sound : Sound (claim_of v) (shown v.dest opening) (moments_to v k opening x.journal (length x.journal))
  sound = elim (true_or_false (is_decided v last)) [
    | inl decided ↦ let c = explain decided in inr (chosen_below v last v.tasks, c.chooses, c.explain)
    | inr none ↦ inl (each_moment v k opening x.journal (Unchanged (shown v.dest opening)) (length x.journal)
        (λ m within. unchanged v opening (at m) (kept m within) (elim (true_or_false (is_decided v (at m).picks)) [
          | inr e ↦ e
          | inl e ↦ absurd (false_true none (ap (is_decided v) (stays m within e) ∙ e))
        ])))
  ]

pub runs_are_safe : RunsAreSafe
runs_are_safe g opening x j is run idle = record { sound = sound g opening x j is run idle; picks = explain g opening x j is run idle }
