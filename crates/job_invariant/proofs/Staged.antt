-- How the facts of a staging job are kept when a file of the cluster is put, moved onto a task's set, or deleted.
use Rattle.text_and_lists.proofs.Members.{none_some, same_or_not, same_or_other, some_is, text_gone, text_here, text_left, text_other}
use Rattle.job_invariant.proofs.Keep.{Drops, facts_so}
use Rattle.job_invariant.proofs.Legal.{small_task}
use Rattle.job_invariant.proofs.Placed.{not_staged, one_path, one_temporary, set_same, staged_set}
use Rattle.job_invariant.specs.Facts.{Facts, IsAttempt, IsTemporary}
use Rattle.job_invariant.specs.Stores.{at_path, sets_at}
use Rattle.job_invariant.specs.Told.{Told}
use Rattle.job_model.specs.Attempts.{Who}
use Rattle.job_model.specs.JobScript.{Script}
use Rattle.job_model.specs.Legal.{IsLegal}
use Rattle.job_protocol.specs.Outputs.{files}
use Rattle.job_protocol.specs.Seen.{is_staging}
use Rattle.magic_paths.specs.Places.{StagedSetPlace, TemporaryPlace, path_at}
use Rattle.s3_types.specs.Answer.{with_files}
use Rattle.s3_types.specs.Store.{Files, Scene}
use Rattle.std.proofs.Common.{List, Option, Some, ap, arith, inl, inr, refl, subst, sym, true, ℕ, ◌<◌, ◌∙◌, ◌≡◌}
use Rattle.store_frame.specs.Held.{HasBucket}
use Rattle.std.specs.FinMap as fin

module _ {w : Script} (j : IsLegal w) (staging : is_staging w.committer ≡ true) (a : Who) (d : IsAttempt w a) where
  abbrev mine : List ℕ
  mine = path_at w.job (TemporaryPlace a.task a.attempt)

  -- ---- its temporary file is put

  pub stage_keep : {minimum : ℕ} {s : Scene} {last : ℕ → Option ℕ} {m : Told} (bytes : List ℕ)
      → IsTemporary w minimum (m.put_sent a) (m.drawn a) a bytes → Facts w minimum s last m
      → Facts w minimum (with_files s (fin.insert s.files mine bytes)) last m
  stage_keep {minimum = minimum} {s = s} {m = m} bytes temporary f =
      let u : Scene = with_files s (fin.insert s.files mine bytes) in
      let set : (t : ℕ) → t < w.tasks → sets_at w u t ≡ sets_at w s t = λ t h.
      set_same w.committer w s u t refl (text_other s.files mine _ bytes (λ z. not_staged j a t d h (sym z))) in
      facts_so s (fin.insert s.files mine bytes) f f.ids f.owned f.records (λ t b h e. f.sets t b h (sym (set t h) ∙ e))
      (λ c t b h e. let x = f.standing c t b h e in (x.0, set t h ∙ x.1))
      (λ g b x e h. elim (same_or_other (path_at w.job (TemporaryPlace b.task b.attempt)) mine) [
        | inl is ↦
            let same : bytes ≡ x = some_is (sym (text_here s.files mine _ bytes is) ∙ h) in
            subst (λ (v : Who). IsTemporary w minimum (m.put_sent v) (m.drawn v) v x) (sym (one_temporary j b a e d is))
            (subst (λ z. IsTemporary w minimum (m.put_sent a) (m.drawn a) a z) same temporary)
        | inr ne ↦ f.temporaries g b x e (sym (text_other s.files mine _ bytes ne) ∙ h)
      ]) f.kept

  -- ---- and moved onto its task's set

  abbrev target : List ℕ
  target = path_at w.job (StagedSetPlace a.task)

  abbrev moved : Files → List ℕ → Files
  moved m bytes = fin.insert (fin.remove m mine) target bytes

  moved_other : (m : Files) (bytes p : List ℕ) → (p ≡ mine → ⊥) → (p ≡ target → ⊥) → fin.get (moved m bytes) p ≡ fin.get m p
  moved_other m bytes p nm nt = text_other (fin.remove m mine) target p bytes nt ∙ text_left m mine p nm

  pub rename_keep : {minimum : ℕ} {s : Scene} {last : ℕ → Option ℕ} {m : Told} (bytes : List ℕ) (more : ℕ → Option ℕ)
      → at_path w s (TemporaryPlace a.task a.attempt) ≡ Some bytes → m.publish_sent a ≡ true
      → more a.task ≡ Some a.attempt → ((t : ℕ) → (t ≡ a.task → ⊥) → more t ≡ last t) → Facts w minimum s last m
      → Facts w minimum (with_files s (moved s.files bytes)) more m
  rename_keep {minimum = minimum} {s = s} {last = last} {m = m} bytes more stood sent latest others f =
      let u : Scene = with_files s (moved s.files bytes) in
      let temporary : IsTemporary w minimum (m.put_sent a) (m.drawn a) a bytes = f.temporaries staging a bytes d stood in
      let here : sets_at w u a.task ≡ Some bytes = staged_set w.committer w u a.task staging ∙ text_here (fin.remove s.files mine) target
      target bytes refl in
      let set : (t : ℕ) → t < w.tasks → (t ≡ a.task → ⊥) → sets_at w u t ≡ sets_at w s t = λ t h ne.
      set_same w.committer w s u t refl (moved_other s.files bytes _ (λ z. not_staged j a t d h (sym z))
      (λ e. ne (let at : StagedSetPlace t ≡ StagedSetPlace a.task = one_path j (StagedSetPlace t) (StagedSetPlace a.task) (small_task j t h)
      (small_task j a.task d.task) e in cc))) in
      facts_so s (moved s.files bytes) f f.ids f.owned f.records
      (λ t b h e. elim (same_or_not t a.task) [
        | inl is ↦
            let same : bytes ≡ b = some_is (sym here ∙ ap (sets_at w u) (sym is) ∙ e) in
            record {
              by = a;
              task = sym is;
              number = d.attempt;
              latest = ap more is ∙ latest;
              has_sent = sent;
              commits = files w a;
              are =
                  temporary.are;
              text = sym same ∙ temporary.text;
            }
        | inr ne ↦
            let old = f.sets t b h (sym (set t h ne) ∙ e) in
            record {
              by = old.by;
              task = old.task;
              number = old.number;
              latest = others t ne ∙ old.latest;
              has_sent = old.has_sent;
              commits = old.commits;
              are = old.are;
              text = old.text;
            }
      ])
      (λ c t b h e. elim (same_or_not t a.task) [
        | inl is ↦ (bytes, ap (sets_at w u) is ∙ here)
        | inr ne ↦ let x = f.standing c t b h (sym (others t ne) ∙ e) in (x.0, set t h ne ∙ x.1)
      ])
      (λ g b x e h. f.temporaries g b x e (moved_stood b x e h)) f.kept
    where
      -- A temporary file that exists after the move existed before.
      moved_stood : (b : Who) (x : List ℕ) → IsAttempt w b
          → fin.get (moved s.files bytes) (path_at w.job (TemporaryPlace b.task b.attempt)) ≡ Some x
          → at_path w s (TemporaryPlace b.task b.attempt) ≡ Some x
      moved_stood b x e h =
          let no_target = not_staged j b a.task e d.task in
          elim (same_or_other (path_at w.job (TemporaryPlace b.task b.attempt)) mine) [
            | inl is ↦ absurd (none_some (text_other (fin.remove s.files mine) target _ bytes no_target ∙ text_gone s.files mine _ is) h)
            | inr ne ↦ sym (moved_other s.files bytes _ ne no_target) ∙ h
          ]

-- ---- a file is deleted

pub removed_stood : (m : Files) (p q b : List ℕ) → fin.get (fin.remove m p) q ≡ Some b → fin.get m q ≡ Some b
removed_stood m p q b h = grind (arith, same_or_other, text_gone, text_left)

pub remove_drops : (w : Script) (s : Scene) → HasBucket s.content w.dest.bucket → (p : List ℕ)
    → Drops w s (with_files s (fin.remove s.files p))
remove_drops w s there p = record {
  there = there;
  least = refl;
  next = refl;
  objects = λ k x e. e;
  uploads = λ id. refl;
  files = λ q b e.
      removed_stood s.files p q b e;
}
