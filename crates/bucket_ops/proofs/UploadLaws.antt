-- The walk over live uploads is an operation whose requests may all be made again.
use Rattle.text_and_lists.proofs.Naturals.{below_is, below_not}
use Rattle.bucket_ops.specs.Uploads.{Begins, Gives, IsListing, IsSame, Pages, asks, goes, led, left, size, uploads_from}
use Rattle.bucket_ops.specs.declared.uploads.UploadsBelow.{UploadsBelow}
use Rattle.list_walk.proofs.Uploads.{behind_uploads, refs_append}
use Rattle.list_walk.specs.Walks.{last_ref, walked_by}
use Rattle.operations.proofs.PlanLaws.{sends_of}
use Rattle.operations.specs.Courses.{MaySend, reached}
use Rattle.operations.specs.Plans.{Falls, Goes}
use Rattle.operations.specs.inner.Plans.{IsPlan, Repeats}
use Rattle.s3_types.specs.Answer.{answer, answer_at, apply}
use Rattle.s3_types.specs.Multipart.{listed}
use Rattle.s3_types.specs.Store.{BucketContent, Scene}
use Rattle.s3_types.specs.declared.request.UploadRef.{UploadRef}
use Rattle.std.proofs.Common.{ap, append_assoc, arith, length-drop, refl, subst, sym, ◌∙◌}
use Rattle.std.proofs.lemmas.List.{take-append-drop, take_all}
use Rattle.std.specs.Prelude.{Bool, List, None, Option, Some, drop, false, length, nat_lt, option_map, take, true, [], ◌++◌, ◌≡◌}
use Rattle.store_frame.proofs.Reading.{reads_nothing}
use Rattle.std.specs.FinMap as fin

still : (w : UploadsBelow) (s : Scene) → apply s (asks w) ≡ s
still w s = reads_nothing s (asks w) refl

begun : (w : UploadsBelow) (s : Scene) → Begins w → IsListing w s w s
begun w s h = record {
  same = refl;
  bucket = refl;
  prefix = refl;
  whole =
      ap (λ f. option_map (λ l. f ++ l) (uploads_from s w.bucket w.prefix (last_ref None f))) h
      ∙ (elim (uploads_from s w.bucket w.prefix None) as (λ o. option_map (λ l. [] ++ l) o ≡ o) [ Some l ↦ refl | None ↦ refl ]);
}

repeats : (w : UploadsBelow) → Repeats (asks w)
repeats w = record {
  effect = λ s. ap (λ v. apply v (asks w)) (still w s);
  reply = λ s. ap (λ v. answer v (asks w)) (still w s);
}

module _ (o : UploadsBelow) (z : Scene) (w : UploadsBelow) where
  abbrev Rest : BucketContent → List UploadRef
  Rest c = listed w.prefix (last_ref None w.walk) c.uploads

  -- The uploads that are left after a page.
  behind : (c : BucketContent) → fin.get z.content.buckets w.bucket ≡ Some c
      → uploads_from z w.bucket w.prefix (last_ref None (w.walk ++ take 1000 (Rest c))) ≡ Some (drop 1000 (Rest c))
  behind c e =
      ap (option_map (λ (d : BucketContent). listed w.prefix (last_ref None (w.walk ++ take 1000 (Rest c))) d.uploads)) e
      ∙ ap (λ m. Some (listed w.prefix m c.uploads)) (refs_append None w.walk (take 1000 (Rest c)))
      ∙ ap Some (behind_uploads w.prefix c.uploads 1000 (last_ref None w.walk) (Rest c) refl)

  page_goes : (c : BucketContent) → fin.get z.content.buckets w.bucket ≡ Some c → IsListing o z w z → (b : Bool)
      → nat_lt 1000 (length (Rest c)) ≡ b
      → Goes (IsListing o z) (Gives o z) (led w (walked_by b (w.walk ++ take 1000 (Rest c)))) z
  page_goes c e h true t = record {
    same = refl;
    bucket = h.bucket;
    prefix = h.prefix;
    whole =
        ap (option_map (λ x. (w.walk ++ take 1000 (Rest c)) ++ x)) (behind c e)
        ∙ ap Some (append_assoc w.walk (take 1000 (Rest c)) (drop 1000 (Rest c)) ∙ ap (λ x. w.walk ++ x) (take-append-drop 1000 (Rest c)))
        ∙ ap (λ v. option_map (λ l. w.walk ++ l) (option_map (λ (c : BucketContent). listed w.prefix (last_ref None w.walk) c.uploads) v))
        (sym e) ∙ h.whole;
  }
  page_goes c e h false t = (
    refl,
    ap (λ x. Some (w.walk ++ x)) (take_all 1000 (Rest c) (below_not 1000 (length (Rest c)) t))
        ∙ ap (λ v. option_map (λ l. w.walk ++ l) (option_map (λ (c : BucketContent). listed w.prefix (last_ref None w.walk) c.uploads) v))
        (sym e) ∙ h.whole,
  )

  told_goes : (v : Option BucketContent) → fin.get z.content.buckets w.bucket ≡ v → IsListing o z w z
      → Goes (IsListing o z) (Gives o z) (goes w (answer_at v z.content.next z.content.minimum (asks w))) z
  told_goes None e h = (
    refl,
    ap (λ v. option_map (λ l. w.walk ++ l) (option_map
        (λ (c : BucketContent). listed w.prefix (last_ref None w.walk) c.uploads) v)) (sym e) ∙ h.whole,
  )
  told_goes (Some c) e h = page_goes c e h (nat_lt 1000 (length (Rest c))) refl

  goes_on : (s : Scene) → IsListing o z w s → Goes (IsListing o z) (Gives o z) (goes w (answer s (asks w))) (apply s (asks w))
  goes_on s h =
      subst (λ v. Goes (IsListing o z) (Gives o z) (goes w (answer s (asks w))) v) (sym (still w s ∙ h.same))
      (subst (λ v. Goes (IsListing o z) (Gives o z) (goes w (answer v (asks w))) z) (sym h.same)
      (told_goes (fin.get z.content.buckets w.bucket) refl (record { same = refl; bucket = h.bucket; prefix = h.prefix; whole = h.whole })))

  page_falls : (c : BucketContent) → fin.get z.content.buckets w.bucket ≡ Some c → (b : Bool) → nat_lt 1000 (length (Rest c)) ≡ b
      → Falls left (led w (walked_by b (w.walk ++ take 1000 (Rest c)))) z (length (Rest c))
  page_falls c e true t = omega (arith, ap size (behind c e), below_is 1000 (length (Rest c)) t, length-drop 1000 (Rest c))
  page_falls c e false t = tt

  told_falls : (v : Option BucketContent) → fin.get z.content.buckets w.bucket ≡ v
      → Falls left (goes w (answer_at v z.content.next z.content.minimum (asks w))) z
      (size (option_map (λ (c : BucketContent). listed w.prefix (last_ref None w.walk) c.uploads) v))
  told_falls None e = tt
  told_falls (Some c) e = page_falls c e (nat_lt 1000 (length (Rest c))) refl

falls : (w : UploadsBelow) (s : Scene) → Falls left (goes w (answer s (asks w))) (apply s (asks w)) (left w s)
falls w s = subst (λ v. Falls left (goes w (answer s (asks w))) v (left w s)) (sym (still w s))
    (told_falls w s w (fin.get s.content.buckets w.bucket) refl)

pub uploads_plan : IsPlan {P = UploadsBelow} Begins asks goes IsListing Gives IsSame left
uploads_plan = record {
  begin = begun;
  repeats = repeats;
  goes_on = λ o z w s h. goes_on o z w s h;
  falls = λ o z w s h. falls w s;
  stays = λ o z w s h. ap (left w) (still w s);
  during = λ o z w s h. h.same;
  at_end = λ o z a s h. h.0;
}

page_sent : (o : UploadsBelow) (z : Scene) (w : UploadsBelow) (s : Scene) → IsListing o z w s → Pages o z (asks w)
page_sent o z w s h = (
  w.walk,
  ap (λ b. asks (record { bucket = b; prefix = w.prefix; walk = w.walk })) h.bucket ∙ ap
      (λ p. asks (record { bucket = o.bucket; prefix = p; walk = w.walk })) h.prefix,
)

pub uploads_asked : MaySend {P = UploadsBelow} asks (reached asks IsListing) Pages
uploads_asked = sends_of asks IsListing Pages page_sent
