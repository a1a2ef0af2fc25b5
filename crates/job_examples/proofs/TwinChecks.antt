-- What the definitions for two jobs say about a journal, by tests that compute.
use Rattle.text_and_lists.proofs.Bools.{not_so}
use Rattle.text_and_lists.proofs.Members.{none_some, text_is}
use Rattle.text_and_lists.specs.Members.{IsIn}
use Rattle.text_and_lists.specs.Order.{text_cmp, text_eq}
use Rattle.job_examples.proofs.Checks.{are_ours, dest, implied, visible}
use Rattle.job_examples.proofs.Kept.{book_at, file_then, lookup_is, object_then}
use Rattle.job_examples.proofs.Owed.{at_is, found_in, is_at}
use Rattle.job_examples.proofs.Sights.{nothing}
use Rattle.job_examples.specs.Jobs.{lake}
use Rattle.job_examples.specs.OneFile.{opening}
use Rattle.job_examples.specs.TwoMagic.{AllStrange, StrangeBy, sided}
use Rattle.job_model.specs.Files.{File}
use Rattle.job_model.specs.JobScript.{Script}
use Rattle.job_protocol.specs.Outputs.{Picks, is_clash, is_picked, wanted}
use Rattle.job_protocol.specs.Records.{mark_text}
use Rattle.job_protocol.specs.Seen.{Seen, Times, nothing_seen, see, see_all}
use Rattle.job_protocol.specs.View.{object_at, view}
use Rattle.magic_paths.specs.Layout.{cluster_prefix, magic_prefix, success_key}
use Rattle.s3_types.specs.Moment.{after_all, effect, moment}
use Rattle.s3_types.specs.Pages.{begins}
use Rattle.s3_types.specs.Store.{Content, Scene}
use Rattle.s3_types.specs.declared.journal.Entry.{Entry}
use Rattle.s3_types.specs.declared.object.Object.{Object}
use Rattle.s3_types.specs.declared.request.Request.{Request}
use Rattle.std.proofs.Common.{Bool, List, None, Option, Some, ap, arith, codes, cond, false, inl, inr, not, refl, suc, sym, take, true}
use Rattle.std.proofs.Common.{zero, ℕ, [], ◌&&◌, ◌||◌, ◌∙◌, ◌∷◌, ◌≡◌}
use Rattle.std.proofs.lemmas.Bool.{and_parts, false≢true, or_cases}
use Rattle.std.specs.FinMap.Entries.{find}
use Rattle.std.specs.List.{list_all}
use Rattle.std.specs.Map.{lookup}
use Rattle.twin_facts.specs.Events.{AtMoment, seen_twin}
use Rattle.twin_facts.specs.Names.{Ids, IsStranger, named_keys, named_paths, named_upload}
use Rattle.twin_facts.specs.Sides.{First, Second, Side, TwinEntry, eyes, in_eyes}
use Rattle.twin_facts.specs.TwinLaws.{Gives, Marked, counted, is_marked_by}

-- ---- requests that name nothing of the other job

abbrev all_free : List ℕ → List (List ℕ) → Bool
all_free p ks = list_all (λ k. not (begins p k)) ks

abbrev upload_free : Ids → Option ℕ → Bool
upload_free drew None = true
upload_free drew (Some id) = not (drew id)

abbrev is_strange : Script → Ids → Request → Bool
is_strange w drew r = all_free (magic_prefix w.dest.key w.job) (named_keys r) &&
    (upload_free drew (named_upload r) && all_free (cluster_prefix w.job) (named_paths r))

free_so : (p : List ℕ) (ks : List (List ℕ)) → all_free p ks ≡ true → (k : List ℕ) → IsIn k ks → begins p k ≡ false
free_so p [] h k i = absurd i
free_so p (q ∷ ks) h k (inl e) = ap (begins p) e ∙ not_so (begins p q) (and_parts (not (begins p q)) (all_free p ks) h).0
free_so p (q ∷ ks) h k (inr i) = free_so p ks (and_parts (not (begins p q)) (all_free p ks) h).1 k i

upload_so : (drew : Ids) (o : Option ℕ) → upload_free drew o ≡ true → (id : ℕ) → o ≡ Some id → drew id ≡ false
upload_so drew o h id g = grind arith

strange_so : (w : Script) (drew : Ids) (r : Request) → is_strange w drew r ≡ true → IsStranger w drew r
strange_so w drew r h =
    let a = and_parts (all_free (magic_prefix w.dest.key w.job) (named_keys r)) _ h in
    let b = and_parts (upload_free drew (named_upload r)) (all_free (cluster_prefix w.job) (named_paths r)) a.1 in
    record {
      keys = λ e. free_so (magic_prefix w.dest.key w.job) (named_keys r) a.0;
      uploads = λ e. upload_so drew (named_upload r) b.0;
      paths = free_so (cluster_prefix w.job) (named_paths r) b.1;
    }

abbrev strange_by : Script → Script → Ids → Ids → Side → Request → Bool
strange_by w v mine others First r = is_strange v others r
strange_by w v mine others Second r = is_strange w mine r

abbrev pub all_strange : Script → Script → Ids → Ids → List TwinEntry → Bool
all_strange w v mine others [] = true
all_strange w v mine others (t ∷ ts) = strange_by w v mine others t.side t.entry.request && all_strange w v mine others ts

pub all_strange_so : (w v : Script) (mine others : Ids) (ts : List TwinEntry) → all_strange w v mine others ts ≡ true
    → AllStrange w v mine others ts
all_strange_so w v mine others [] h = tt
all_strange_so w v mine others (t ∷ ts) h =
    let a = and_parts (strange_by w v mine others t.side t.entry.request) (all_strange w v mine others ts) h in
    let one = elim t.side as (λ side. strange_by w v mine others side t.entry.request ≡ true
    → StrangeBy w v mine others side t.entry.request) [ First ↦ strange_so v others _ | Second ↦ strange_so w mine _ ] in
    (one a.0, all_strange_so w v mine others ts a.1)

-- ---- the scene after an entry

module _ (w : Script) (k : Times) (side : Side) (mine : ℕ → Bool) where
  twin_scene : (s : Seen) (t : TwinEntry) → (see w k s (in_eyes side t)).scene ≡ effect s.scene t.entry.request t.entry.outcome
  twin_scene s t = grind arith

  all_scene : (es : List Entry) (s : Seen) → (see_all w k s (eyes side (sided mine es))).scene ≡ after_all s.scene es
  all_scene [] s = refl
  all_scene (e ∷ es) s =
      let t : TwinEntry = record { side = cond (mine e.event) First Second; entry = e; theirs = e.event } in
      all_scene es (see w k s (in_eyes side t)) ∙ ap (λ x. after_all x es) (twin_scene s t)

  take_sided : (m : ℕ) (es : List Entry) → take m (sided mine es) ≡ sided mine (take m es)
  take_sided zero es = refl
  take_sided (suc m) [] = refl
  take_sided (suc m) (e ∷ es) = ap (λ l. record { side = cond (mine e.event) First Second; entry = e; theirs = e.event } ∷ l)
      (take_sided m es)

  pub seen_scene : (content : Content) (es : List Entry) (m : ℕ)
      → (seen_twin w k side content (sided mine es) m).scene ≡ moment content es m
  seen_scene content es m = ap (λ l. (see_all w k (nothing_seen content) (eyes side l)).scene) (take_sided m es) ∙ all_scene (take m es)
      (nothing_seen content)

-- ---- after an entry of a run over an empty bucket

-- True if a side's commit has begun and publishes this file.
abbrev pub gives : Script → Seen → File → Bool
gives w s f = s.begun && is_at (counted w s.picks f.0) f.1

gives_so : (w : Script) (s : Seen) (p b : List ℕ) → gives w s (p, b) ≡ true → Gives w s p b
gives_so w s p b h = let a = and_parts s.begun _ h in (a.0, at_is _ b a.1)

-- True if `_SUCCESS` exists with the text for these attempts.
abbrev pub says_so : Script → Picks → Option Object → Bool
says_so w picks None = false
says_so w picks (Some o) = text_eq o.bytes (mark_text w picks)

said : (w : Script) (picks : Picks) (o : Option Object) → says_so w picks o ≡ true → (x : Object) × (o ≡ Some x)
    × (x.bytes ≡ mark_text w picks)
said w picks None h = absurd (false≢true h)
said w picks (Some o) h = (o, refl, text_is _ _ h)

-- The test for the side that put `_SUCCESS` last.
abbrev pub is_marked_so : Script → Picks → List (List ℕ × Object) → Bool
is_marked_so w picks os =
    is_picked w picks && (not (is_clash w picks)
    && (list_all (λ f. is_at (find text_cmp f.0 (visible os)) f.1) (wanted w picks) && says_so w picks
    (lookup (text_eq (success_key (codes "out"))) os)))

module _ (w v : Script) (k l : Times) (mine : ℕ → Bool) (journal : List Entry) (ours : are_ours journal ≡ true) (to : w.dest ≡ dest)
    (also : v.dest ≡ dest) (m : ℕ) where
  abbrev es : List TwinEntry
  es = sided mine journal

  abbrev s : Seen
  s = seen_twin w k First opening es m

  abbrev t : Seen
  t = seen_twin v l Second opening es m

  abbrev os : List (List ℕ × Object)
  os = (book_at nothing journal m).objects

  there : (u : Script) (x : Seen) → u.dest ≡ dest → x.scene ≡ moment opening journal m → (p : List ℕ)
      → view u.dest x.scene.content p ≡ find text_cmp p (visible os)
  there u x is at p = ap (λ d. view d x.scene.content p) is ∙ ap (λ (y : Scene). view dest y.content p) at ∙ file_then nothing journal ours
      m p

  marked_so : (u z : Script) (x : Seen) (others : Picks) → u.dest ≡ dest → x.scene ≡ moment opening journal m
      → is_marked_so u x.picks os ≡ true → Marked u z x.scene.content x.picks others
  marked_so u z x others is at h =
      let a = and_parts (is_picked u x.picks) _ h in
      let b = and_parts (not (is_clash u x.picks)) _ a.1 in
      let c = and_parts (list_all (λ f. is_at (find text_cmp f.0 (visible os)) f.1) (wanted u x.picks)) _ b.1 in
      let mark = said u x.picks _ c.1 in
      record {
        picked = a.0;
        apart = not_so _ b.0;
        files = λ p b e none. there u x is at p ∙ at_is _ b (found_in (λ f. is_at (find text_cmp f.0 (visible os)) f.1) (wanted u x.picks)
            c.0 p b (lookup_is (wanted u x.picks) p ∙ e));
        mark = (
          mark.0,
          ap (λ d. object_at x.scene.content d.bucket (success_key d.key)) is ∙ ap
              (λ (y : Scene). object_at y.content lake (success_key (codes "out"))) at ∙ object_then nothing journal ours m _ ∙ mark.1,
          mark.2,
        );
      }

  pub at_so : (list_all (λ f. gives w s f || gives v t f) (visible os)
      && ((not (is_marked_by w First false (take m es)) || is_marked_so w s.picks os) &&
      (not (is_marked_by v Second false (take m es)) || is_marked_so v t.picks os))) ≡ true → AtMoment w v k l opening es m
  at_so h =
      let a = and_parts (list_all (λ f. gives w s f || gives v t f) (visible os)) _ h in
      let b = and_parts (not (is_marked_by w First false (take m es)) || is_marked_so w s.picks os) _ a.1 in
      let first = seen_scene w k First mine opening journal m in
      record {
        shows = record {
          only = λ p b e. inr (elim (or_cases _ _ (found_in (λ f. gives w s f || gives v t f) (visible os) a.0 p b
              (sym (there w s to first p) ∙ e))) [ inl g ↦ inl (gives_so w s p b g) | inr g ↦ inr (gives_so v t p b g) ]);
          kept = λ p b e. absurd (none_some (file_then nothing journal ours 0 p) (sym (ap (λ d. view d opening p) to) ∙ e));
        };
        first = λ e. marked_so w v s t.picks to first (implied _ _ b.0 e);
        second = λ e. marked_so v w t s.picks also (seen_scene v l Second mine opening journal m) (implied _ _ b.1 e);
      }
