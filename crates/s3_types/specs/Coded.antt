-- Codes of the values that a store holds. Proofs use them to show that two values are equal.
use Rattle.s3_types.specs.Store.{BucketContent, Buckets, Content, Files, Objects, Parts, Upload, Uploads}
use Rattle.s3_types.specs.declared.object.Object.{Object}
use Rattle.std.specs.Coded.{Coded, code_by, coded_list, coded_option, coded_ℕ, coded×}
use Rattle.std.specs.Prelude.{List, Option, refl, ℕ}
use Rattle.std.specs.FinMap as map

-- The code of a list of bytes.
abbrev pub coded_text : Coded (List ℕ)
coded_text = coded_list coded_ℕ

-- The code of an object.
abbrev pub coded_object : Coded Object
coded_object = code_by (List ℕ × Option ℕ) (coded× coded_text (coded_option coded_ℕ)) (λ o. (o.bytes, o.header))
    (λ p. record { bytes = p.0; header = p.1 }) (λ _. refl)

-- The code of a bucket's objects.
abbrev pub coded_objects : Coded Objects
coded_objects = map.code coded_text coded_object

-- The code of an upload's parts.
abbrev pub coded_parts : Coded Parts
coded_parts = map.code coded_ℕ coded_text

-- The code of a live multipart upload.
abbrev pub coded_upload : Coded Upload
coded_upload = code_by (List ℕ × Parts) (coded× coded_text coded_parts) (λ u. (u.key, u.parts)) (λ p. record { key = p.0; parts = p.1 })
    (λ _. refl)

-- The code of a bucket's live uploads.
abbrev pub coded_uploads : Coded Uploads
coded_uploads = map.code coded_ℕ coded_upload

-- The code of the content of a bucket.
abbrev pub coded_bucket : Coded BucketContent
coded_bucket = code_by (Objects × Uploads) (coded× coded_objects coded_uploads) (λ b. (b.objects, b.uploads))
    (λ p. record { objects = p.0; uploads = p.1 }) (λ _. refl)

-- The code of a store's buckets.
abbrev pub coded_buckets : Coded Buckets
coded_buckets = map.code coded_text coded_bucket

-- The code of the content of a store.
abbrev pub coded_content : Coded Content
coded_content = code_by (Buckets × (ℕ × ℕ)) (coded× coded_buckets (coded× coded_ℕ coded_ℕ)) (λ c. (c.buckets, (c.next, c.minimum)))
    (λ p. record { buckets = p.0; next = p.1.0; minimum = p.1.1 }) (λ _. refl)

-- The code of the cluster's files.
abbrev pub coded_files : Coded Files
coded_files = map.code coded_text coded_text
