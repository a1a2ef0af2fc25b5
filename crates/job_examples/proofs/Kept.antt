-- What whole runs over a store as lists keep and what readers see, by tests that compute.
use Rattle.text_and_lists.proofs.Members.{text_is, true_or_false}
use Rattle.text_and_lists.specs.Order.{text_cmp, text_eq, text_ties}
use Rattle.job_examples.proofs.Books.{Book, at_bucket, scene_of, upload_found, upload_of}
use Rattle.job_examples.proofs.Checks.{Listed, are_ours, book_after, dest, effect_on, files_are, moment_is, objects_at, same_files, views}
use Rattle.job_examples.proofs.Checks.{visible, without_files}
use Rattle.job_examples.proofs.Frames.{all_sound, due_outcomes, honest, ours_some, outcomes, outside_stays, zero_rename}
use Rattle.job_examples.proofs.Owed.{all_good, always}
use Rattle.job_examples.proofs.Sights.{Start, opens}
use Rattle.job_examples.specs.Jobs.{lake}
use Rattle.job_examples.specs.Runs.{Keeps}
use Rattle.job_model.specs.JobScript.{Script}
use Rattle.job_protocol.specs.Scope.{upload_at, upload_in}
use Rattle.job_protocol.specs.Seen.{Times}
use Rattle.job_protocol.specs.View.{object_at, view}
use Rattle.job_spec.specs.Entries.{OutsideStays, ZeroRename}
use Rattle.job_spec.specs.Headline.{Always}
use Rattle.s3_types.specs.Fates.{fate_at, fate_or}
use Rattle.s3_types.specs.Foretold.{AreForetold, fate_of}
use Rattle.s3_types.specs.Moment.{IsHonest, moment}
use Rattle.s3_types.specs.Store.{Content}
use Rattle.s3_types.specs.declared.fates.Fate.{Fate}
use Rattle.s3_types.specs.declared.journal.Entry.{Entry}
use Rattle.s3_types.specs.declared.object.Object.{Object}
use Rattle.std.proofs.Common.{Bool, List, Some, ap, cond, inl, inr, map, refl, subst, suc, sym, take, true, zero, ℕ, [], ◌&&◌, ◌+◌, ◌∙◌}
use Rattle.std.proofs.Common.{◌∷◌, ◌≡◌}
use Rattle.std.proofs.lemmas.Bool.{and_parts}
use Rattle.std.specs.Cmp.{nat_cmp_total}
use Rattle.std.specs.FinMap.{from_entries, get-from_entries}
use Rattle.std.specs.FinMap.Entries.{find}
use Rattle.std.specs.List.{list_all}
use Rattle.std.specs.Map.{lookup}
use Rattle.std.specs.Option.{option_map}
use Rattle.std.specs.Ordering.{eq_by_cmp, nat_cmp}

-- ---- a journal as a walk

-- The store after the first m entries.
abbrev pub book_at : Start → List Entry → ℕ → Book
book_at s es m = book_after (without_files s.book) (take m es)

-- ---- fates

-- The fates of these entries, the first of which is send n.
abbrev pub due_fates : List (ℕ × Fate) → ℕ → List Entry → List Fate
due_fates fs n [] = []
due_fates fs n (e ∷ es) = fate_or (find nat_cmp n fs) ∷ due_fates fs (n + 1) es

fated : (fs : List (ℕ × Fate)) (n : ℕ) (es : List Entry) → map (λ e. fate_of e.outcome) es ≡ due_fates fs n es
    → AreForetold (λ m. Some (fate_at (from_entries fs) m)) n es
fated fs n [] h = tt
fated fs n (e ∷ es) h =
    let here : fate_of e.outcome ≡ fate_or (find nat_cmp n fs) = cc in
    (here ∙ ap fate_or (sym (get-from_entries nat_cmp_total fs n)), fated fs (n + 1) es cc)

-- ---- what a run keeps

-- Each reply is the one that S3 must give, nothing is copied, and all outside the destination stays.
pub record Honours (w : Script) (content : Content) (es : List Entry) : Type 0 where
  pub honest : IsHonest content es
  pub zero_rename : ZeroRename w content es
  pub outside : OutsideStays w content es

module _ (s : Start) (es : List Entry) (w : Script) (to : w.dest ≡ dest) where
  -- If each entry may be sent, and has the reply that S3 must give, a run keeps this.
  pub honours : all_sound (without_files s.book) es ≡ true → due_outcomes (without_files s.book) es ≡ outcomes es → Honours w s.content es
  honours p q = subst (λ c. Honours w c es) s.starts (record
      { honest = honest s.book es p q; zero_rename = zero_rename w to s.book es p; outside = outside_stays w to s.book es p })

  -- If the tests hold, readers see after each entry what they may rely on.
  pub always_kept : (k : Times) → all_good w k (visible s.book.objects) (opens (without_files s.book)) es ≡ true → Always w k s.content es
  always_kept k g = subst (λ c. Always w k c es) s.starts (always w to k s.book es g)

  pub keeps : (k : Times) → all_sound (without_files s.book) es ≡ true → due_outcomes (without_files s.book) es ≡ outcomes es
      → all_good w k (visible s.book.objects) (opens (without_files s.book)) es ≡ true
      → (fs : List (ℕ × Fate)) → w.fates ≡ from_entries fs → map (λ e. fate_of e.outcome) es ≡ due_fates fs 1 es → Keeps w k s.content es
  keeps k p q g fs named f =
      let h = honours p q in
      record {
        always = always_kept k g;
        sent = record {
          honest = h.honest;
          fated = subst (λ m. AreForetold (λ n. Some (fate_at m n)) 1 es)
              (sym named) (fated fs 1 es f);
        };
        zero_rename = h.zero_rename;
        outside = h.outside;
      }

-- ---- the contents after each entry

-- True if readers see exactly these files from here on.
abbrev pub all_show : Listed → Book → List Entry → Bool
all_show vs b [] = same_files (visible b.objects) vs
all_show vs b (e ∷ es) = same_files (visible b.objects) vs && all_show vs (effect_on b e.request e.outcome) es

show_at : (vs : Listed) (b : Book) (es : List Entry) → all_show vs b es ≡ true → (m : ℕ) → visible (book_after b (take m es)).objects ≡ vs
show_at vs b [] h zero = files_are (visible b.objects) vs h
show_at vs b [] h (suc m) = files_are (visible b.objects) vs h
show_at vs b (e ∷ es) h m =
    let a = and_parts (same_files (visible b.objects) vs) _ h in
    elim m as (λ n. visible (book_after b (take n (e ∷ es))).objects ≡ vs) [
      | zero ↦ files_are (visible b.objects) vs a.0
      | suc n ↦ show_at
          vs (effect_on b e.request e.outcome) es a.1 n
    ]

pub lookup_is : {X : Type 0} (fs : List (List ℕ × X)) (p : List ℕ) → find text_cmp p fs ≡ lookup (text_eq p) fs
lookup_is [] p = refl
lookup_is (f ∷ fs) p = ap (λ o. cond (eq_by_cmp text_cmp p f.0) (Some f.1) o) (lookup_is fs p) ∙ ap
    (λ b. cond b (Some f.1) (lookup (text_eq p) fs)) (sym (text_ties p f.0))

module _ (s : Start) (es : List Entry) (ours : are_ours es ≡ true) where
  at_moment : (m : ℕ) → moment s.content es m ≡ scene_of (book_at s es m)
  at_moment m = ap (λ c. moment c es m) (sym s.starts) ∙ moment_is s.book es m (ours_some es m ours)

  -- The file at a path.
  pub file_then : (m : ℕ) (p : List ℕ) → view dest (moment s.content es m).content p ≡ find text_cmp p (visible (book_at s es m).objects)
  file_then m p = ap (λ x. view dest x.content p) (at_moment m) ∙ views (book_at s es m) p

  pub files_then : (m : ℕ) (p : List ℕ) → view dest (moment s.content es m).content p ≡ lookup (text_eq p)
      (visible (book_at s es m).objects)
  files_then m p = file_then m p ∙ lookup_is (visible (book_at s es m).objects) p

  pub shows_as : (vs : Listed) → all_show vs (without_files s.book) es ≡ true → (m : ℕ) (p : List ℕ)
      → view dest (moment s.content es m).content p ≡ lookup (text_eq p) vs
  shows_as vs h m p = files_then m p ∙ ap (lookup (text_eq p)) (show_at vs (without_files s.book) es h m)

  -- The object at a key.
  pub object_then : (m : ℕ) (k : List ℕ) → object_at (moment s.content es m).content lake k ≡ lookup (text_eq k) (book_at s es m).objects
  object_then m k = ap (λ x. object_at x.content lake k) (at_moment m) ∙ objects_at (book_at s es m) k ∙ lookup_is (book_at s es m).objects
      k

  -- The live upload of an id.
  pub upload_then : (m id : ℕ) → upload_at (moment s.content es m).content lake id ≡ option_map upload_of
      (find nat_cmp id (book_at s es m).uploads)
  upload_then m id = ap (λ x. upload_at x.content lake id) (at_moment m) ∙ ap (λ o. upload_in o id) (at_bucket (book_at s es m)) ∙
      upload_found (book_at s es m).uploads id

-- A test that holds for each key holds for one that is found.
pub key_found : (test : List ℕ → Bool) (es : List (List ℕ × Object)) → list_all (λ e. test e.0) es ≡ true → (k : List ℕ) (o : Object)
    → lookup (text_eq k) es ≡ Some o → test k ≡ true
key_found test [] h k o e = absurd (cc)
key_found test (f ∷ fs) h k o e =
    let a = and_parts (test f.0) _ h in
    elim (true_or_false (text_eq k f.0)) [
      | inl g ↦ subst (λ q. test q ≡ true) (sym (text_is k f.0 g)) a.0
      | inr g ↦ key_found test fs a.1 k o (ap (λ c. cond c (Some f.1) (lookup (text_eq k) fs)) (sym g) ∙ e)
    ]
