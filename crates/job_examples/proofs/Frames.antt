-- The changes and replies of each entry of a run over a store as lists, as tests that compute.
use Rattle.text_and_lists.proofs.Bools.{not_so}
use Rattle.text_and_lists.proofs.Members.{none_some, some_is, text_exact}
use Rattle.text_and_lists.specs.Order.{text_cmp, text_eq}
use Rattle.job_examples.proofs.Books.{Book, Draft, answers, at_bucket, content_of, is_ordered, is_ours, no_other, reply, scene_of}
use Rattle.job_examples.proofs.Books.{upload_found, upload_of}
use Rattle.job_examples.proofs.Checks.{are_ours, book_after, dest, effect_is, effect_on, files_are, implied, moment_is, objects_at}
use Rattle.job_examples.proofs.Checks.{same_files, views, visible, without_files}
use Rattle.job_examples.proofs.MapLists.{map_of}
use Rattle.job_examples.specs.Jobs.{lake}
use Rattle.job_model.specs.JobScript.{Script}
use Rattle.job_protocol.specs.Scope.{IsZeroRename, SameOutside, SameOutsideUpload, is_copy, may_show, sends_data, upload_at, upload_in}
use Rattle.job_protocol.specs.Setup.{dest_prefix}
use Rattle.job_protocol.specs.View.{Same, object_at, view}
use Rattle.job_spec.specs.Ends.{is_driver}
use Rattle.job_spec.specs.Entries.{OutsideStays, ZeroRename}
use Rattle.job_spec.specs.Turns.{is_own}
use Rattle.s3_types.specs.Moment.{AreHonest, IsHonest, IsHonestOutcome, is_effective, moment}
use Rattle.s3_types.specs.Pages.{begins}
use Rattle.s3_types.specs.Store.{Content, Upload}
use Rattle.s3_types.specs.declared.journal.Entry.{Entry}
use Rattle.s3_types.specs.declared.journal.Outcome.{Outcome}
use Rattle.s3_types.specs.declared.journal.Outcome.TheVariants.{Answered, ReplyLost, RequestLost, Slow}
use Rattle.s3_types.specs.declared.reply.Reply.{Reply}
use Rattle.s3_types.specs.declared.request.Actor.{Actor}
use Rattle.s3_types.specs.declared.request.Actor.TheVariants.{Driver}
use Rattle.std.proofs.Common.{Bool, List, None, Option, Some, ap, arith, codes, cond, false, inl, inr, map, not, refl, subst, suc, sym}
use Rattle.std.proofs.Common.{take, true, zero, ℕ, [], ◌&&◌, ◌++◌, ◌+◌, ◌||◌, ◌∙◌, ◌∷◌, ◌≡◌, ◌⊎◌}
use Rattle.std.proofs.lemmas.Bool.{and_parts, or_cases}
use Rattle.std.specs.FinMap.Entries.{find, find-where_key, where_key}
use Rattle.std.specs.List.{list_all, slice_get}
use Rattle.std.specs.Option.{option_map}
use Rattle.std.specs.Ordering.{eq_by_cmp, nat_cmp}
use Rattle.std.specs.declared.cmp.Ordering.{Ordering}

-- ---- outside the destination

abbrev prefix : List ℕ
prefix = codes "out/"

abbrev is_outside : List ℕ → Bool
is_outside k = not (begins prefix k)

-- Holds if there is no object and no live upload outside the destination.
record Inside (b : Book) : Type 0 where
  objects : where_key text_cmp is_outside b.objects ≡ []
  uploads : list_all (λ e. begins prefix e.1.key) b.uploads ≡ true

value_found : {K X : Type 0} (R : K → K → Ordering) (test : X → Bool) (es : List (K × X)) → list_all (λ e. test e.1) es ≡ true
    → (k : K) (x : X) → find R k es ≡ Some x → test x ≡ true
value_found R test [] h k x e = absurd (none_some refl e)
value_found R test (f ∷ fs) h k x e = let a = and_parts (test f.1) _ h in elim (eq_by_cmp R k f.0) as
    (λ c. cond c (Some f.1) (find R k fs) ≡ Some x → test x ≡ true) [
      | true ↦ λ g. subst (λ y. test y ≡ true) (some_is g) a.0
      | false ↦ λ g. value_found R test fs a.1 k x g
    ] e

same_upload : (w : Script) → dest_prefix w ≡ prefix → (o p : Option Draft) → ((d : Draft) → o ≡ Some d → begins prefix d.key ≡ true)
    → ((d : Draft) → p ≡ Some d → begins prefix d.key ≡ true) → SameOutsideUpload w (option_map upload_of o) (option_map upload_of p)
same_upload w h o p g e = grind arith

module _ (w : Script) (to : w.dest ≡ dest) where
  prefix_is : dest_prefix w ≡ prefix
  prefix_is = ap (λ d. d.key ++ codes "/") to

  uploads_at : (b : Book) (id : ℕ) → upload_at (content_of b) w.dest.bucket id ≡ option_map upload_of (find nat_cmp id b.uploads)
  uploads_at b id = ap (λ d. upload_at (content_of b) d.bucket id) to ∙ ap (λ o. upload_in o id) (at_bucket b) ∙ upload_found b.uploads id

  found_outside : (b : Book) → Inside b → (k : List ℕ) → begins prefix k ≡ false → find text_cmp k b.objects ≡ None
  found_outside b h k n =
      sym (find-where_key text_cmp is_outside k (λ q t. ap is_outside (sym (text_exact k q t))) b.objects ∙ ap
      (λ c. cond c (find text_cmp k b.objects) None) (ap not n))
      ∙ ap (λ l. find text_cmp k l) h.objects

  outside_same : (b c : Book) → Inside b → Inside c → SameOutside w (content_of b) (content_of c)
  outside_same b c h g = record {
    buckets = λ k n. let m : text_eq k lake ≡ false = ap (λ d. text_eq k d.bucket) (sym to) ∙ n in no_other c k m ∙ sym (no_other b k m);
    objects = λ k n.
        let m : begins prefix k ≡ false = ap (λ x. begins x k) (sym prefix_is) ∙ n in
        ap (λ d. object_at (content_of c) d.bucket k) to ∙ objects_at c k ∙ found_outside c g k m ∙ sym (found_outside b h k m) ∙ sym
        (objects_at b k) ∙ ap (λ d. object_at (content_of b) d.bucket k) (sym to);
    uploads = λ id. subst (λ (x : Option Upload × Option Upload). SameOutsideUpload w x.0 x.1)
        (λ i. (sym (uploads_at b id) i, sym (uploads_at c id) i))
        (same_upload w prefix_is (find nat_cmp id b.uploads) (find nat_cmp id c.uploads)
        (value_found nat_cmp (λ d. begins prefix d.key) b.uploads h.uploads id)
        (value_found nat_cmp (λ d. begins prefix d.key) c.uploads g.uploads id));
  }

-- ---- entry by entry

abbrev is_nil : {X : Type 0} → List X → Bool
is_nil [] = true
is_nil (x ∷ xs) = false

nil_is : {X : Type 0} (xs : List X) → is_nil xs ≡ true → xs ≡ []
nil_is xs h = grind arith

abbrev is_inside : Book → Bool
is_inside b = is_nil (where_key text_cmp is_outside b.objects) && list_all (λ e. begins prefix e.1.key) b.uploads

abbrev is_showing : Entry → Bool
is_showing e = is_driver e.actor && (may_show e.request && is_effective e.outcome)

abbrev shows_same : Book → Entry → Bool
shows_same b e = same_files (visible (effect_on b e.request e.outcome).objects) (visible b.objects)

-- True if the entry may follow the store before it. An entry of another job may change what readers see.
abbrev is_sound : Book → Entry → Bool
is_sound b e =
    is_ours e.request
    && (is_ordered b
    && (is_inside b
    && (not (is_copy e.request)
    && (not (is_driver e.actor && sends_data e.request)
    && (not (is_own e.actor) || (shows_same b e || is_showing e))))))

abbrev pub all_sound : Book → List Entry → Bool
all_sound b [] = is_inside b
all_sound b (e ∷ es) = is_sound b e && all_sound (effect_on b e.request e.outcome) es

-- The outcome with the reply that S3 must give.
abbrev due_outcome : Outcome → Reply → Outcome
due_outcome (Answered a) due = Answered due
due_outcome Slow due = Slow
due_outcome RequestLost due = RequestLost
due_outcome ReplyLost due = ReplyLost

abbrev pub due_outcomes : Book → List Entry → List Outcome
due_outcomes b [] = []
due_outcomes b (e ∷ es) = due_outcome e.outcome (reply b e.request) ∷ due_outcomes (effect_on b e.request e.outcome) es

abbrev pub outcomes : List Entry → List Outcome
outcomes es = map (λ e. e.outcome) es

-- ---- consequences of a sound entry

abbrev Shows : Book → Entry → Type 0
Shows b e = (visible (effect_on b e.request e.outcome).objects ≡ visible b.objects)
    ⊎ ((e.actor ≡ Driver) × (may_show e.request ≡ true) × (is_effective e.outcome ≡ true))

record Sound (b : Book) (e : Entry) : Type 0 where
  ours : is_ours e.request ≡ true
  order : is_ordered b ≡ true
  inside : Inside b
  uncopied : is_copy e.request ≡ false
  no_data : e.actor ≡ Driver → sends_data e.request ≡ false
  shows : is_own e.actor ≡ true → Shows b e

driver_is : (a : Actor) → is_driver a ≡ true → a ≡ Driver
driver_is a h = grind arith

inside_is : (b : Book) → is_inside b ≡ true → Inside b
inside_is b h = let p = and_parts (is_nil (where_key text_cmp is_outside b.objects)) _ h in record { objects = nil_is _ p.0; uploads = p.1 }

showing_is : (e : Entry) → is_showing e ≡ true → (e.actor ≡ Driver) × (may_show e.request ≡ true) × (is_effective e.outcome ≡ true)
showing_is e h = grind arith

sound_is : (b : Book) (e : Entry) → is_sound b e ≡ true → Sound b e
sound_is b e h =
    let p = and_parts (is_ours e.request) _ h in
    let q = and_parts (is_ordered b) _ p.1 in
    let r = and_parts (is_inside b) _ q.1 in
    let s = and_parts (not (is_copy e.request)) _ r.1 in
    let t = and_parts (not (is_driver e.actor && sends_data e.request)) _ s.1 in
    record {
      ours = p.0;
      order = q.0;
      inside = inside_is b r.0;
      uncopied = not_so _ s.0;
      no_data = λ d. not_so _ (subst (λ x. not (is_driver x && sends_data e.request) ≡ true) d t.0);
      shows = λ o. elim (or_cases _ _ (implied _ _ t.1 o)) [ inl f ↦ inl (files_are _ _ f) | inr g ↦ inr (showing_is e g) ];
    }

-- ---- a whole journal

pub ours_all : (b : Book) (es : List Entry) → all_sound b es ≡ true → are_ours es ≡ true
ours_all b [] h = refl
ours_all b (e ∷ es) h = let p = and_parts (is_sound b e) _ h in rw ((sound_is b e p.0).ours)
    (ours_all (effect_on b e.request e.outcome) es p.1)

pub ours_some : (es : List Entry) (m : ℕ) → are_ours es ≡ true → are_ours (take m es) ≡ true
ours_some es zero h = refl
ours_some [] (suc m) h = refl
ours_some (e ∷ es) (suc m) h = let p = and_parts (is_ours e.request) _ h in rw p.0 (ours_some es m p.1)

inside_at : (b : Book) (es : List Entry) → all_sound b es ≡ true → (m : ℕ) → Inside (book_after b (take m es))
inside_at b [] h zero = inside_is b h
inside_at b [] h (suc m) = inside_is b h
inside_at b (e ∷ es) h zero = (sound_is b e (and_parts (is_sound b e) _ h).0).inside
inside_at b (e ∷ es) h (suc m) = inside_at (effect_on b e.request e.outcome) es (and_parts (is_sound b e) _ h).1 m

honest_by : (o : Outcome) (due : Reply) → due_outcome o due ≡ o → IsHonestOutcome o due
honest_by o due h = grind arith

first_is : (o p : Outcome) (os ps : List Outcome) → (o ∷ os) ≡ (p ∷ ps) → (o ≡ p) × (os ≡ ps)
first_is o p os ps h = (cc, cc)

honest_from : (b : Book) (es : List Entry) → all_sound b es ≡ true → due_outcomes b es ≡ outcomes es → AreHonest (scene_of b) es
honest_from b [] h g = tt
honest_from b (e ∷ es) h g =
    let p = and_parts (is_sound b e) _ h in
    let s = sound_is b e p.0 in
    let q = first_is (due_outcome e.outcome (reply b e.request)) e.outcome (due_outcomes (effect_on b e.request e.outcome) es) (outcomes es)
    g in (
      subst (IsHonestOutcome e.outcome) (sym (answers b e.request s.ours s.order)) (honest_by e.outcome (reply b e.request) q.0),
      subst (λ c. AreHonest c es) (sym (effect_is b e.request e.outcome s.ours)) (honest_from (effect_on b e.request e.outcome) es p.1 q.1),
    )

pub honest : (b : Book) (es : List Entry) → all_sound (without_files b) es ≡ true → due_outcomes (without_files b) es ≡ outcomes es
    → IsHonest (content_of (without_files b)) es
unfolding map_of
honest b es h g = honest_from (without_files b) es h g

module _ (w : Script) (to : w.dest ≡ dest) where
  shown_same : (b c : Book) → visible c.objects ≡ visible b.objects → Same (view w.dest (content_of c)) (view w.dest (content_of b))
  shown_same b c h p = ap (λ d. view d (content_of c) p) to ∙ views c p ∙ ap (λ l. find text_cmp p l) h ∙ sym (views b p) ∙ ap
      (λ d. view d (content_of b) p) (sym to)

  zero_step : (b : Book) (e : Entry) → Sound b e → is_own e.actor ≡ true → Inside (effect_on b e.request e.outcome)
      → IsZeroRename w e (content_of b) (content_of (effect_on b e.request e.outcome))
  zero_step b e h g f = grind (arith, shown_same, effect_on, outside_same)

  zero_at : (b : Book) (es : List Entry) → all_sound b es ≡ true → (m : ℕ) (e : Entry) → slice_get es m ≡ Some e → is_own e.actor ≡ true
      → IsZeroRename w e (content_of (book_after b (take m es))) (content_of (book_after b (take (suc m) es)))
  zero_at b [] h m e g o = absurd (cc)
  zero_at b (x ∷ es) h zero e g o =
      let p = and_parts (is_sound b x) _ h in
      let k : x ≡ e = cc in
      subst (λ y. IsZeroRename w y (content_of b) (content_of (effect_on b x.request x.outcome))) k
      (zero_step b x (sound_is b x p.0) (subst (λ y. is_own y.actor ≡ true) (sym k) o)
      (inside_at (effect_on b x.request x.outcome) es p.1 0))
  zero_at b (x ∷ es) h (suc m) e g o = zero_at (effect_on b x.request x.outcome) es (and_parts (is_sound b x) _ h).1 m e g o

  pub zero_rename : (b : Book) (es : List Entry) → all_sound (without_files b) es ≡ true → ZeroRename w (content_of (without_files b)) es
  zero_rename b es h m e g o =
      let all = ours_all (without_files b) es h in
      let one : m + 1 ≡ suc m = omega arith in
      let next = ap (λ n. moment (content_of (without_files b)) es n) one ∙ moment_is b es (suc m) (ours_some es (suc m) all) in
      subst (λ (x : Content × Content). IsZeroRename w e x.0 x.1) (λ i.
      ((sym (moment_is b es m (ours_some es m all)) i).content, (sym next i).content)) (zero_at (without_files b) es h m e g o)

  pub outside_stays : (b : Book) (es : List Entry) → all_sound (without_files b) es ≡ true
      → OutsideStays w (content_of (without_files b)) es
  outside_stays b es h o m l =
      subst (λ s. SameOutside w (content_of (without_files b)) s.content) (sym
      (moment_is b es m (ours_some es m (ours_all (without_files b) es h))))
      (outside_same w to (without_files b) (book_after (without_files b) (take m es)) (inside_at (without_files b) es h 0)
      (inside_at (without_files b) es h m))
