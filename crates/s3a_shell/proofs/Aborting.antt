-- What is left after uploads were aborted one by one.
use Rattle.text_and_lists.proofs.Members.{nat_gone, nat_left, same_or_not, some_is}
use Rattle.text_and_lists.specs.Members.{IsIn}
use Rattle.bucket_ops.specs.Uploads.{IsStill, uploads_from}
use Rattle.fs_files.proofs.WritingLaws.{placed_by, placed_same}
use Rattle.fs_files.specs.Placed.{placed}
use Rattle.path_keys.specs.Paths.{Path, below}
use Rattle.s3_types.specs.Answer.{aborted, apply, with_uploads}
use Rattle.s3_types.specs.Multipart.{listed, live, with_key}
use Rattle.s3_types.specs.Store.{BucketContent, Scene, Upload, Uploads}
use Rattle.s3_types.specs.declared.request.Request.TheVariants.{AbortUpload}
use Rattle.s3_types.specs.declared.request.UploadRef.{UploadRef}
use Rattle.s3a_shell.proofs.Joining.{sent_as, sent_both}
use Rattle.s3a_shell.specs.Sendings.{AppliedOrNot}
use Rattle.s3a_shell.specs.inner.Sendings.{Sent}
use Rattle.s3a_shell.specs.Texts.{fine}
use Rattle.s3a_shell.specs.Uploading.{AbortedIn, AbortedSome, AreEnded, DidAbort, EndedSome, aborted_line}
use Rattle.s3a_shell.specs.inner.Uploading.{AfterSome, after_aborts}
use Rattle.s3a_shell.specs.declared.said.Said.{Said}
use Rattle.s3a_shell.specs.declared.session.Session.{Session}
use Rattle.std.proofs.Common.{ap, inl, inr, refl, subst, sym, ◌∙◌}
use Rattle.std.specs.Prelude.{List, None, Option, Some, length, option_map, take, ℕ, [], ◌++◌, ◌+◌, ◌∷◌, ◌≡◌, ◌⊎◌}
use Rattle.std.specs.FinMap as fin

abbrev without_all : Uploads → List UploadRef → Uploads
without_all m [] = m
without_all m (r ∷ rs) = without_all (aborted m r.upload (live m r.key r.upload)) rs

-- ---- one upload

-- The upload of another id stays.
other_left : (m : Uploads) (id q : ℕ) (o : Option Upload) → (id ≡ q → ⊥) → fin.get (aborted m id o) q ≡ fin.get m q
other_left m id q None ne = refl
other_left m id q (Some u) ne = nat_left m id q (λ e. ne (sym e))

-- The aborted upload is not live.
gone_one : (m : Uploads) (k : List ℕ) (id : ℕ) (o : Option Upload) → live m k id ≡ o → live (aborted m id o) k id ≡ None
gone_one m k id None e = e
gone_one m k id (Some u) e = ap (with_key k) (nat_gone m id id refl)

-- An upload that is not live stays so.
gone_still : (m : Uploads) (id : ℕ) (o : Option Upload) (k : List ℕ) (q : ℕ) → live m k q ≡ None → live (aborted m id o) k q ≡ None
gone_still m id None k q h = h
gone_still m id (Some u) k q h = by (same_or_not q id)
  where
    by : (q ≡ id) ⊎ (q ≡ id → ⊥) → live (fin.remove m id) k q ≡ None
    by (inl e) = ap (with_key k) (nat_gone m id q e)
    by (inr ne) = ap (with_key k) (nat_left m id q ne) ∙ h

-- ---- all of them

still_gone : (m : Uploads) (rs : List UploadRef) (k : List ℕ) (q : ℕ) → live m k q ≡ None → live (without_all m rs) k q ≡ None
still_gone m [] k q h = h
still_gone m (r ∷ rs) k q h = still_gone (aborted m r.upload (live m r.key r.upload)) rs k q
    (gone_still m r.upload (live m r.key r.upload) k q h)

all_gone : (m : Uploads) (rs : List UploadRef) (r : UploadRef) → IsIn r rs → live (without_all m rs) r.key r.upload ≡ None
all_gone m [] r i = absurd i
all_gone m (x ∷ rs) r (inl e) =
    subst (λ (y : UploadRef). live (without_all (aborted m x.upload (live m x.key x.upload)) rs) y.key y.upload ≡ None) (sym e)
    (still_gone (aborted m x.upload (live m x.key x.upload)) rs x.key x.upload (gone_one m x.key x.upload (live m x.key x.upload) refl))
all_gone m (x ∷ rs) r (inr i) = all_gone (aborted m x.upload (live m x.key x.upload)) rs r i

others_left : (m : Uploads) (rs : List UploadRef) (q : ℕ) → ((r : UploadRef) → IsIn r rs → r.upload ≡ q → ⊥)
    → fin.get (without_all m rs) q ≡ fin.get m q
others_left m [] q ne = refl
others_left m (r ∷ rs) q ne =
    others_left (aborted m r.upload (live m r.key r.upload)) rs q (λ x i. ne x (inr i)) ∙ other_left m r.upload q (live m r.key r.upload)
    (ne r (inl refl))

-- ---- the scene

one_aborted : (z : Scene) (b : List ℕ) (d : BucketContent) (r : UploadRef)
    → apply (placed z b d z.content.next) (AbortUpload b r.key r.upload) ≡ placed z b
    (with_uploads d (aborted d.uploads r.upload (live d.uploads r.key r.upload))) z.content.next
one_aborted z b d r = placed_by z b d z.content.next (AbortUpload b r.key r.upload) refl

after_all_aborts : (z : Scene) (b : List ℕ) (d : BucketContent) (rs : List UploadRef)
    → after_aborts (placed z b d z.content.next) b rs ≡ placed z b (with_uploads d (without_all d.uploads rs)) z.content.next
after_all_aborts z b d [] = refl
after_all_aborts z b d (r ∷ rs) =
    ap (λ (s : Scene). after_aborts s b rs) (one_aborted z b d r) ∙ after_all_aborts z b
    (with_uploads d (aborted d.uploads r.upload (live d.uploads r.key r.upload))) rs

pub are_ended : (z : Scene) (b : List ℕ) (c : BucketContent) (rs : List UploadRef) (s : Scene) → fin.get z.content.buckets b ≡ Some c
    → s ≡ after_aborts z b rs → AreEnded b c rs z s
are_ended z b c rs s e h = record {
  content = with_uploads c (without_all c.uploads rs);
  scene = h ∙ (ap (λ (v : Scene). after_aborts v b rs) (sym (placed_same z b c e)) ∙ after_all_aborts z b c rs);
  objects = refl;
  gone = λ r i. all_gone c.uploads rs r i;
  kept = λ id ne. others_left c.uploads rs id ne;
}

-- One more upload is aborted.
after_more : (z : Scene) (b : List ℕ) (rs : List UploadRef) (x : UploadRef)
    → after_aborts z b (rs ++ x ∷ []) ≡ apply (after_aborts z b rs) (AbortUpload b x.key x.upload)
after_more z b [] x = refl
after_more z b (r ∷ rs) x = after_more (apply z (AbortUpload b r.key r.upload)) b rs x

pub more_aborted : (z mid s : Scene) (b : List ℕ) (us : List UploadRef) (i : ℕ) (x : UploadRef) → take (i + 1) us ≡ take i us ++ x ∷ []
    → s ≡ apply mid (AbortUpload b x.key x.upload) → mid ≡ after_aborts z b (take i us)
    → s ≡ after_aborts z b (take (i + 1) us)
more_aborted z mid s b us i x front is so_far = is ∙ (ap (λ (v : Scene). apply v (AbortUpload b x.key x.upload)) so_far ∙
    (sym (after_more z b (take i us) x) ∙ ap (after_aborts z b) (sym front)))

-- At every point of that, the first few are aborted.
pub sent_more : (z : Scene) (b : List ℕ) (us : List UploadRef) (i : ℕ) (x : UploadRef) (a c d : Session)
    → take (i + 1) us ≡ take i us ++ x ∷ [] → c.store.scene ≡ after_aborts z b (take i us) → Sent (AfterSome b us z) a c
    → Sent (AppliedOrNot (AbortUpload b x.key x.upload) c.store.scene) c d → Sent (AfterSome b us z) a d
sent_more z b us i x a c d front so_far h g = sent_both (AfterSome b us z) a c d h
    (sent_as (AppliedOrNot (AbortUpload b x.key x.upload) c.store.scene) (AfterSome b us z) c d by g)
  where
    by : (s : Scene) → AppliedOrNot (AbortUpload b x.key x.upload) c.store.scene s → AfterSome b us z s
    by s (inl e) = (i, e ∙ so_far)
    by s (inr e) = (i + 1, more_aborted z c.store.scene s b us i x front e so_far)

-- The same for the uploads below a path.
pub sent_some : (path : Path) (z : Scene) (o : Option (List UploadRef)) (rs us : List UploadRef) (b : List ℕ) (a c d : Session)
    → o ≡ uploads_from z path.bucket (below path.key []) None → o ≡ Some rs → us ≡ rs → b ≡ path.bucket → c.store.scene ≡ z
    → a.store.scene ≡ z → Sent (IsStill a.store.scene) a c → Sent (AfterSome b us c.store.scene) c d → Sent (AbortedSome path z) a d
sent_some path z o rs us b a c d found is same at still first h g =
    sent_both (AbortedSome path z) a c d (sent_as (IsStill a.store.scene) (AbortedSome path z) a c (λ s e. none_ended s (e ∙ first)) h)
    (sent_as (AfterSome b us c.store.scene) (AbortedSome path z) c d some_ended g)
  where
    none_ended : (s : Scene) → s ≡ z → AbortedSome path z s
    none_ended s e = by (fin.get z.content.buckets path.bucket) refl
      where
        by : (v : Option BucketContent) → fin.get z.content.buckets path.bucket ≡ v → EndedSome v path z s
        by None f = e
        by (Some k) f = (0, are_ended z path.bucket k [] s f e)

    some_ended : (s : Scene) → AfterSome b us c.store.scene s → AbortedSome path z s
    some_ended s k = by (fin.get z.content.buckets path.bucket) refl (sym is ∙ found)
      where
        ended : s ≡ after_aborts z path.bucket (take k.0 rs)
        ended = k.1 ∙ (ap (λ (v : Scene). after_aborts v b (take k.0 us)) still ∙
            (ap (λ (n : List ℕ). after_aborts z n (take k.0 us)) at ∙ ap (λ (l : List UploadRef). after_aborts z path.bucket (take k.0 l))
            same))

        by : (v : Option BucketContent) → fin.get z.content.buckets path.bucket ≡ v
            → Some rs ≡ option_map (λ c. listed (below path.key []) None c.uploads) v → EndedSome v path z s
        by None f h = absurd (cc)
        by (Some l) f h = (
          k.0,
          subst (λ (q : List UploadRef). AreEnded path.bucket l (take k.0 q) z s) (some_is h)
              (are_ended z path.bucket l (take k.0 rs) s f ended),
        )

-- What the command says.
pub did_abort : (path : Path) (z mid s : Scene) (o : Option (List UploadRef)) (rs us : List UploadRef) (b line : List ℕ) (count : ℕ)
    (what : Said) → o ≡ uploads_from z path.bucket (below path.key []) None → o ≡ Some rs → us ≡ rs → b ≡ path.bucket → mid ≡ z
    → s ≡ after_aborts mid b us → count ≡ length rs → line ≡ aborted_line count → what ≡ fine line → DidAbort path z what s
did_abort path z mid s o rs us b line count what found is same at still ends counted told says = by (fin.get z.content.buckets path.bucket)
    refl (sym is ∙ found)
  where
    ended : s ≡ after_aborts z path.bucket rs
    ended = ends ∙ (ap (λ (v : Scene). after_aborts v b us) still ∙ (ap (λ (n : List ℕ). after_aborts z n us) at ∙ ap
        (after_aborts z path.bucket) same))

    said : what ≡ fine (aborted_line (length rs))
    said = says ∙ ap fine (told ∙ ap aborted_line counted)

    by : (v : Option BucketContent) → fin.get z.content.buckets path.bucket ≡ v
        → Some rs ≡ option_map (λ c. listed (below path.key []) None c.uploads) v → AbortedIn v path z what s
    by None e h = absurd (cc)
    by (Some c) e h = subst (λ (l : List UploadRef). (what ≡ fine (aborted_line (length l))) × AreEnded path.bucket c l z s) (some_is h)
        (said, are_ended z path.bucket c rs s e ended)
