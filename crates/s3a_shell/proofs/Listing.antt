-- What is listed of uploads.
use Rattle.text_and_lists.proofs.Members.{some_is}
use Rattle.bucket_ops.specs.Uploads.{uploads_from}
use Rattle.path_keys.specs.Paths.{Path, below}
use Rattle.s3_types.specs.Answer.{answer_at}
use Rattle.s3_types.specs.Multipart.{listed, live}
use Rattle.s3_types.specs.Store.{BucketContent, Scene, Upload}
use Rattle.s3_types.specs.declared.request.Request.TheVariants.{ListParts}
use Rattle.s3_types.specs.declared.request.UploadRef.{UploadRef}
use Rattle.s3a_shell.specs.Texts.{fine}
use Rattle.s3a_shell.specs.Uploading.{DidList, ListedIn, sizes_of, upload_line, upload_lines}
use Rattle.s3a_shell.specs.inner.Uploading.{asked_line, asked_lines, sizes_in}
use Rattle.s3a_shell.specs.declared.said.Said.{Said}
use Rattle.std.proofs.Common.{ap, append_assoc, refl, sym, ◌∙◌}
use Rattle.std.specs.Prelude.{List, None, Option, Some, drop, option_map, ℕ, [], ◌++◌, ◌+◌, ◌∷◌, ◌≡◌}
use Rattle.std.specs.FinMap as fin

-- The parts in the reply are those of the live upload.
told : (o : Option Upload) (b : BucketContent) (k : List ℕ) (id next least : ℕ) (n : List ℕ) → live b.uploads k id ≡ o
    → sizes_in (answer_at (Some b) next least (ListParts n k id)) ≡ sizes_of o
told None b k id next least n e = rw e refl
told (Some u) b k id next least n e = rw e refl

line_is : (z : Scene) (b : List ℕ) (c : BucketContent) (r : UploadRef) → fin.get z.content.buckets b ≡ Some c
    → asked_line z b r ≡ upload_line r (sizes_of (live c.uploads r.key r.upload))
line_is z b c r e =
    ap (upload_line r) (ap (λ (o : Option BucketContent). sizes_in (answer_at o z.content.next z.content.minimum
    (ListParts b r.key r.upload))) e ∙ told (live c.uploads r.key r.upload) c r.key r.upload z.content.next z.content.minimum b refl)

pub lines_are : (z : Scene) (b : List ℕ) (c : BucketContent) (rs : List UploadRef) → fin.get z.content.buckets b ≡ Some c
    → asked_lines z b rs ≡ upload_lines c rs
lines_are z b c [] e = refl
lines_are z b c (r ∷ rs) e = rw (line_is z b c r e, lines_are z b c rs e) refl

-- One more line.
pub more_lines : (z mid : Scene) (b old new : List ℕ) (us : List UploadRef) (i : ℕ) (x : UploadRef) → drop i us ≡ x ∷ drop (i + 1) us
    → mid ≡ z → new ≡ old ++ asked_line mid b x → old ++ asked_lines z b (drop i us) ≡ asked_lines z b us
    → new ++ asked_lines z b (drop (i + 1) us) ≡ asked_lines z b us
more_lines z mid b old new us i x front same line so_far =
    let grown : new ≡ old ++ asked_line z b x = line ∙ ap (λ (v : Scene). old ++ asked_line v b x) same in
    let joined : new ++ asked_lines z b (drop (i + 1) us) ≡ old ++ (asked_line z b x ++ asked_lines z b (drop (i + 1) us)) = ap
    (λ (l : List ℕ). l ++ asked_lines z b (drop (i + 1) us)) grown ∙ append_assoc old (asked_line z b x)
    (asked_lines z b (drop (i + 1) us)) in
    joined ∙ (ap (λ (l : List UploadRef). old ++ asked_lines z b l) (sym front) ∙ so_far)

-- What the command says of them.
pub did_list : (path : Path) (z mid s : Scene) (o : Option (List UploadRef)) (rs us : List UploadRef) (b lines : List ℕ) (what : Said)
    → o ≡ uploads_from z path.bucket (below path.key []) None → o ≡ Some rs → us ≡ rs → b ≡ path.bucket → mid ≡ z → s ≡ mid
    → lines ≡ asked_lines mid b us → what ≡ fine lines → DidList path z what s
did_list path z mid s o rs us b lines what found is same at still stay told says =
    (by (fin.get z.content.buckets path.bucket) refl (sym is ∙ found), stay ∙ still)
  where
    asked : lines ≡ asked_lines z path.bucket rs
    asked = told ∙ (ap (λ (v : Scene). asked_lines v b us) still ∙ (ap (λ (n : List ℕ). asked_lines z n us) at ∙ ap
        (asked_lines z path.bucket) same))

    by : (v : Option BucketContent) → fin.get z.content.buckets path.bucket ≡ v
        → Some rs ≡ option_map (λ c. listed (below path.key []) None c.uploads) v → ListedIn v path what
    by None e h = absurd (cc)
    by (Some c) e h = says ∙ ap fine (asked ∙ (lines_are z path.bucket c rs e ∙ ap (upload_lines c) (some_is h)))
