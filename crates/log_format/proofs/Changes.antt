-- The change that is read has the bytes as its text, and the text of a change is read as that change.
use Rattle.text_and_lists.proofs.Bytes.{IsBytes, IsReader}
use Rattle.text_and_lists.proofs.Reading.{parted, passed}
use Rattle.log_format.proofs.Steps.{block_reader, byte_again, byte_takes, counted_reader, long_reader, named_reader, pair_reader}
use Rattle.log_format.proofs.Steps.{short_reader, text_reader}
use Rattle.log_format.specs.Change.{AreBoth, AreFew, IsBelow, IsBucket, IsChange, IsKey, IsNamed, IsTarget, IsText, IsUpload, header}
use Rattle.log_format.specs.inner.Change.{IsAny}
use Rattle.log_format.specs.Log.{block, body, counted, long, named, short, target, upload}
use Rattle.log_format.specs.Reading.{Read, abort_upload_in, block_at, byte_at, change_in, complete_upload_in, copy_object_in, counted_at}
use Rattle.log_format.specs.Reading.{create_upload_in, delete_object_in, delete_objects_in, header_in, kind_in, make_bucket_in, named_at}
use Rattle.log_format.specs.Reading.{number_at, pair_at, put_object_in, row_of, target_at, text_at, upload_at, upload_part_in}
use Rattle.log_format.specs.declared.fault.LogFault.{LogFault}
use Rattle.log_format.specs.declared.fault.LogFault.TheVariants.{Bad}
use Rattle.s3_types.specs.Names.{is_bucket, is_key}
use Rattle.s3_types.specs.declared.request.Request.{Request}
use Rattle.s3_types.specs.declared.request.Request.TheVariants.{AbortUpload, CompleteUpload, CopyObject, CreateUpload, DeleteObject}
use Rattle.s3_types.specs.declared.request.Request.TheVariants.{DeleteObjects, MakeBucket, PutObject, UploadPart}
use Rattle.std.proofs.Common.{Err, List, None, Ok, Option, Result, Some, ap, arith, eqb, false, inl, inr, length, refl, subst, suc, sym}
use Rattle.std.proofs.Common.{zero, ℕ, [], ◌++◌, ◌+◌, ◌<◌, ◌==◌, ◌^◌, ◌∙◌, ◌∷◌, ◌≡◌}
use Rattle.std.proofs.lemmas.Bool.{cases_eq, eqb-true}
use Rattle.std.proofs.lemmas.Bool.Decides.{nat_tests}
use Rattle.std.proofs.lemmas.List.{append-nil, nil_from_length}
use Rattle.std.specs.Int.{w32, w64}
use Rattle.std.specs.Str.{is_utf8}

-- ---- fields

module _ (at : ℕ) where
  target_reader : IsReader (target_at at) target IsTarget
  unfolding target_at
  target_reader = pair_reader (text_at is_bucket at) block IsBucket (text_reader at is_bucket) (text_at is_key at) block IsKey
      (text_reader at is_key)

  upload_reader : IsReader (upload_at at) upload IsUpload
  unfolding upload_at
  upload_reader = pair_reader (target_at at) target IsTarget target_reader (number_at w64 at) long (IsBelow (2 ^ 64)) (long_reader at)

  headed_reader : IsReader (pair_at (target_at at) (number_at w64 at)) (λ x. target x.0 ++ long x.1) IsUpload
  headed_reader = pair_reader (target_at at) target IsTarget target_reader (number_at w64 at) long (IsBelow (2 ^ 64)) (long_reader at)

  put_reader : IsReader (pair_at (pair_at (target_at at) (number_at w64 at)) (block_at at)) (λ x. (target x.0.0 ++ long x.0.1) ++ block x.1)
      (AreBoth IsUpload IsAny)
  put_reader = pair_reader (pair_at (target_at at) (number_at w64 at)) (λ x. target x.0 ++ long x.1) IsUpload headed_reader (block_at at)
      block IsAny (block_reader at)

  keys_reader : IsReader (counted_at (text_at is_key at) at) (counted block) (AreFew IsKey)
  keys_reader = counted_reader (text_at is_key at) block IsKey (text_reader at is_key) at

  deletes_reader : IsReader (pair_at (text_at is_bucket at) (counted_at (text_at is_key at) at)) (λ x. block x.0 ++ counted block x.1)
      (AreBoth IsBucket (AreFew IsKey))
  deletes_reader = pair_reader (text_at is_bucket at) block IsBucket (text_reader at is_bucket) (counted_at (text_at is_key at) at)
      (counted block) (AreFew IsKey) keys_reader

  copy_reader : IsReader (pair_at (target_at at) (text_at is_key at)) (λ x. target x.0 ++ block x.1) (AreBoth IsTarget IsKey)
  copy_reader = pair_reader (target_at at) target IsTarget target_reader (text_at is_key at) block IsKey (text_reader at is_key)

  numbered_reader : IsReader (pair_at (upload_at at) (number_at w32 at)) (λ x. upload x.0 ++ short x.1)
      (AreBoth IsUpload (IsBelow (2 ^ 32)))
  numbered_reader = pair_reader (upload_at at) upload IsUpload upload_reader (number_at w32 at) short (IsBelow (2 ^ 32)) (short_reader at)

  part_reader : IsReader (pair_at (pair_at (upload_at at) (number_at w32 at)) (block_at at))
      (λ x. (upload x.0.0 ++ short x.0.1) ++ block x.1) (AreBoth (AreBoth IsUpload (IsBelow (2 ^ 32))) IsAny)
  part_reader = pair_reader (pair_at (upload_at at) (number_at w32 at)) (λ x. upload x.0 ++ short x.1) (AreBoth IsUpload (IsBelow (2 ^ 32)))
      numbered_reader (block_at at) block IsAny (block_reader at)

  parts_reader : IsReader (counted_at (named_at at) at) (counted named) (AreFew IsNamed)
  parts_reader = counted_reader (named_at at) named IsNamed (named_reader at) at

  complete_reader : IsReader (pair_at (upload_at at) (counted_at (named_at at) at)) (λ x. upload x.0 ++ counted named x.1)
      (AreBoth IsUpload (AreFew IsNamed))
  complete_reader = pair_reader (upload_at at) upload IsUpload upload_reader (counted_at (named_at at) at) (counted named) (AreFew IsNamed)
      parts_reader

header_again : (h : Option ℕ) → header_in (header h) ≡ h
header_again None = refl
header_again (Some n) = let e : n + 1 ≡ suc n = omega arith in ap header_in e

header_back : (n : ℕ) → header (header_in n) ≡ n
header_back zero = refl
header_back (suc n) = omega arith

no_request : (r : Request) (f : LogFault) → (let x : Result Request LogFault = Ok r in x ≡ Err f) → ⊥
no_request r f e = absurd cc

-- ---- rows

module _ {A : Type 0} (read : List ℕ → Read A) (text : A → List ℕ) (IsValue : A → Type 0) (reader : IsReader read text IsValue)
    (make : A → Request) (at : ℕ) where
  record Made (bytes : List ℕ) (r : Request) : Type 0 where
    pub value : A
    pub spelled : bytes ≡ text value
    pub legal : IsValue value
    pub is : make value ≡ r

  row_takes : (bytes : List ℕ) (r : Request) → IsBytes bytes → row_of make read at bytes ≡ Ok r → Made bytes r
  unfolding row_of
  row_takes bytes r fits e =
      let x = parted (read bytes) _ r e in
      let p = passed (eqb (length x.value.1) 0) (Bad at) (make x.value.0) r x.next in
      let t = reader.takes bytes x.value.0 x.value.1 fits x.first in
      let nothing : x.value.1 ≡ [] = nil_from_length x.value.1 (eqb-true _ _ p.0) in
      record {
        value = x.value.0;
        spelled = t.0.parts ∙ ap (λ (y : List ℕ). text x.value.0 ++ y) nothing ∙ append-nil (text x.value.0);
        legal = t.1;
        is = p.1;
      }

  row_again : (x : A) → IsValue x → length (text x) < 2 ^ 64 → row_of make read at (text x) ≡ Ok (make x)
  unfolding row_of
  row_again x is fits =
      let same : text x ≡ text x ++ [] = sym (append-nil (text x)) in
      let again : read (text x) ≡ Ok (x, []) = ap read same ∙ reader.again x [] is (subst (λ (t : List ℕ). length t < 2 ^ 64) same fits) in
      rw again refl

-- The bytes are the change's text, and the change is within its bounds.
abbrev Told : ℕ → List ℕ → Request → Type 0
Told kind bytes r = (kind ∷ bytes ≡ body r) × IsChange r

module _ {A : Type 0} (read : List ℕ → Read A) (text : A → List ℕ) (IsValue : A → Type 0) (reader : IsReader read text IsValue)
    (make : A → Request) (at kind : ℕ)
    (spelled : (x : A) → kind ∷ text x ≡ body (make x)) (legal : (x : A) → IsValue x → IsChange (make x)) where
  told : (bytes : List ℕ) (r : Request) → IsBytes bytes → row_of make read at bytes ≡ Ok r → Told kind bytes r
  told bytes r fits e =
      let m = row_takes read text IsValue reader make at bytes r fits e in
      subst (Told kind bytes) m.is (ap (λ (t : List ℕ). kind ∷ t) m.spelled ∙ spelled m.value, legal m.value m.legal)

module _ (at : ℕ) (bytes : List ℕ) (r : Request) (fits : IsBytes bytes) where
  told_1 : make_bucket_in at bytes ≡ Ok r → Told 1 bytes r
  unfolding make_bucket_in
  told_1 e = told (text_at is_utf8 at) block IsText (text_reader at is_utf8) MakeBucket at 1 (λ x. refl) (λ x is. is) bytes r fits e

  told_2 : put_object_in at bytes ≡ Ok r → Told 2 bytes r
  unfolding put_object_in
  told_2 e =
      told (pair_at (pair_at (target_at at) (number_at w64 at)) (block_at at)) (λ x. (target x.0.0 ++ long x.0.1) ++ block x.1)
      (AreBoth IsUpload IsAny) (put_reader at) (λ x. PutObject x.0.0.0 x.0.0.1 x.1 (header_in x.0.1)) at 2
      (λ x. ap (λ (n : ℕ). 2 ∷ (target x.0.0 ++ long n) ++ block x.1) (sym (header_back x.0.1)))
      (λ x is. (is.0.0, subst (λ (n : ℕ). n < 2 ^ 64) (sym (header_back x.0.1)) is.0.1)) bytes r fits e

  told_3 : delete_object_in at bytes ≡ Ok r → Told 3 bytes r
  unfolding delete_object_in
  told_3 e = told (target_at at) target IsTarget (target_reader at) (λ x. DeleteObject x.0 x.1) at 3 (λ x. refl) (λ x is. is) bytes r fits e

  told_4 : delete_objects_in at bytes ≡ Ok r → Told 4 bytes r
  unfolding delete_objects_in
  told_4 e =
      told (pair_at (text_at is_bucket at) (counted_at (text_at is_key at) at)) (λ x. block x.0 ++ counted block x.1)
      (AreBoth IsBucket (AreFew IsKey)) (deletes_reader at) (λ x. DeleteObjects x.0 x.1) at 4 (λ x. refl) (λ x is. is) bytes r fits e

  told_5 : copy_object_in at bytes ≡ Ok r → Told 5 bytes r
  unfolding copy_object_in
  told_5 e = told (pair_at (target_at at) (text_at is_key at)) (λ x. target x.0 ++ block x.1) (AreBoth IsTarget IsKey) (copy_reader at)
      (λ x. CopyObject x.0.0 x.0.1 x.1) at 5 (λ x. refl) (λ x is. is) bytes r fits e

  told_6 : create_upload_in at bytes ≡ Ok r → Told 6 bytes r
  unfolding create_upload_in
  told_6 e = told (target_at at) target IsTarget (target_reader at) (λ x. CreateUpload x.0 x.1) at 6 (λ x. refl) (λ x is. is) bytes r fits e

  told_7 : upload_part_in at bytes ≡ Ok r → Told 7 bytes r
  unfolding upload_part_in
  told_7 e =
      told (pair_at (pair_at (upload_at at) (number_at w32 at)) (block_at at)) (λ x. (upload x.0.0 ++ short x.0.1) ++ block x.1)
      (AreBoth (AreBoth IsUpload (IsBelow (2 ^ 32))) IsAny) (part_reader at) (λ x. UploadPart x.0.0.0.0 x.0.0.0.1 x.0.0.1 x.0.1 x.1) at
      7
      (λ x. refl) (λ x is. (is.0.0, is.0.1)) bytes r fits e

  told_8 : complete_upload_in at bytes ≡ Ok r → Told 8 bytes r
  unfolding complete_upload_in
  told_8 e =
      told (pair_at (upload_at at) (counted_at (named_at at) at)) (λ x. upload x.0 ++ counted named x.1) (AreBoth IsUpload (AreFew IsNamed))
      (complete_reader at) (λ x. CompleteUpload x.0.0.0 x.0.0.1 x.0.1 x.1) at 8 (λ x. refl) (λ x is. is) bytes r fits e

  told_9 : abort_upload_in at bytes ≡ Ok r → Told 9 bytes r
  unfolding abort_upload_in
  told_9 e = told (upload_at at) upload IsUpload (upload_reader at) (λ x. AbortUpload x.0.0 x.0.1 x.1) at 9 (λ x. refl) (λ x is. is) bytes r
      fits e

other : (k n : ℕ) → (k ≡ n → ⊥) → (k == n) ≡ false
other k n h = grind (arith, nat_tests)

module _ (at : ℕ) (rest : List ℕ) (r : Request) (fits : IsBytes rest) where
  kind_told : (k : ℕ) → kind_in at k rest ≡ Ok r → Told k rest r
  unfolding kind_in
  kind_told k e = elim (cases_eq k 1) [
    | inl is ↦ subst (λ m. Told m rest r) (sym is) (told_1 at rest r fits (subst (λ m. kind_in at m rest ≡ Ok r) is e))
    | inr n1 ↦ elim (cases_eq k 2) [
      | inl is ↦ subst (λ m. Told m rest r) (sym is) (told_2 at rest r fits (subst (λ m. kind_in at m rest ≡ Ok r) is e))
      | inr n2 ↦ elim (cases_eq k 3) [
        | inl is ↦ subst (λ m. Told m rest r) (sym is) (told_3 at rest r fits (subst (λ m. kind_in at m rest ≡ Ok r) is e))
        | inr n3 ↦ elim (cases_eq k 4) [
          | inl is ↦ subst (λ m. Told m rest r) (sym is) (told_4 at rest r fits (subst (λ m. kind_in at m rest ≡ Ok r) is e))
          | inr n4 ↦ elim (cases_eq k 5) [
            | inl is ↦ subst (λ m. Told m rest r) (sym is) (told_5 at rest r fits (subst (λ m. kind_in at m rest ≡ Ok r) is e))
            | inr n5 ↦ elim (cases_eq k 6) [
              | inl is ↦ subst (λ m. Told m rest r) (sym is) (told_6 at rest r fits (subst (λ m. kind_in at m rest ≡ Ok r) is e))
              | inr n6 ↦ elim (cases_eq k 7) [
                | inl is ↦ subst (λ m. Told m rest r) (sym is) (told_7 at rest r fits (subst (λ m. kind_in at m rest ≡ Ok r) is e))
                | inr n7 ↦ elim (cases_eq k 8) [
                  | inl is ↦ subst (λ m. Told m rest r) (sym is) (told_8 at rest r fits (subst (λ m. kind_in at m rest ≡ Ok r) is e))
                  | inr n8 ↦ elim (cases_eq k 9) [
                    | inl is ↦ subst (λ m. Told m rest r) (sym is) (told_9 at rest r fits (subst (λ m. kind_in at m rest ≡ Ok r) is e))
                    | inr n9 ↦
                        let none : kind_in at k rest ≡ Err (Bad at) = rw (
                          other k 1 n1,
                          other k 2 n2,
                          other k 3 n3,
                          other k 4 n4,
                          other k 5
                              n5,
                          other k 6 n6,
                          other k 7 n7,
                          other k 8 n8,
                          other k 9 n9,
                        ) refl in
                        absurd (no_request r (Bad at) (sym e ∙ none))
                  ]
                ]
              ]
            ]
          ]
        ]
      ]
    ]
  ]

-- The change that is read has the bytes as its text.
pub change_takes : (at : ℕ) (bytes : List ℕ) (r : Request) → IsBytes bytes → change_in at bytes ≡ Ok r → (bytes ≡ body r) × IsChange r
unfolding change_in
change_takes at bytes r fits e =
    let k = parted (byte_at at bytes) _ r e in
    let t = byte_takes at bytes k.value.0 k.value.1 fits k.first in
    let told = kind_told at k.value.1 r t.rest_fits k.value.0 k.next in
    (t.parts ∙ told.0, told.1)

kind_again : (at kind : ℕ) (text : List ℕ) (r : Request) → kind_in at kind text ≡ Ok r → change_in at (kind ∷ text) ≡ Ok r
unfolding change_in
kind_again at kind text r e = rw (byte_again at kind text) e

module _ {A : Type 0} (read : List ℕ → Read A) (text : A → List ℕ) (IsValue : A → Type 0) (reader : IsReader read text IsValue)
    (make : A → Request) (at kind : ℕ) where
  told_again : (x : A) → IsValue x → length (kind ∷ text x) < 2 ^ 64 → row_of make read at (text x) ≡ Ok (make x)
  told_again x is fits = row_again read text IsValue reader make at x is (omega (arith, fits))

-- The text of a change is read as that change.
pub change_again : (at : ℕ) (r : Request) → IsChange r → length (body r) < 2 ^ 64 → change_in at (body r) ≡ Ok r
unfolding kind_in make_bucket_in put_object_in delete_object_in delete_objects_in copy_object_in create_upload_in upload_part_in
    complete_upload_in abort_upload_in
change_again at (MakeBucket n) is fits = kind_again at 1 (block n) (MakeBucket n)
    (told_again (text_at is_utf8 at) block IsText (text_reader at is_utf8) MakeBucket at 1 n is fits)
change_again at (PutObject b k bytes h) is fits =
    kind_again at 2 ((target (b, k) ++ long (header h)) ++ block bytes) (PutObject b k bytes h)
    (told_again (pair_at (pair_at (target_at at) (number_at w64 at)) (block_at at)) (λ x. (target x.0.0 ++ long x.0.1) ++ block x.1)
    (AreBoth IsUpload IsAny) (put_reader at) (λ x. PutObject x.0.0.0 x.0.0.1 x.1 (header_in x.0.1)) at 2 (((b, k), header h), bytes)
    (is, tt) fits
    ∙ ap (λ (o : Option ℕ). Ok (PutObject b k bytes o)) (header_again h))
change_again at (DeleteObject b k) is fits = kind_again at 3 (target (b, k)) (DeleteObject b k)
    (told_again (target_at at) target IsTarget (target_reader at) (λ x. DeleteObject x.0 x.1) at 3 (b, k) is fits)
change_again at (DeleteObjects b ks) is fits =
    kind_again at 4 (block b ++ counted block ks) (DeleteObjects b ks)
    (told_again (pair_at (text_at is_bucket at) (counted_at (text_at is_key at) at)) (λ x. block x.0 ++ counted block x.1)
    (AreBoth IsBucket (AreFew IsKey)) (deletes_reader at) (λ x. DeleteObjects x.0 x.1) at 4 (b, ks) is fits)
change_again at (CopyObject b s t) is fits =
    kind_again at 5 (target (b, s) ++ block t) (CopyObject b s t) (told_again (pair_at (target_at at) (text_at is_key at))
    (λ x. target x.0 ++ block x.1) (AreBoth IsTarget IsKey) (copy_reader at) (λ x. CopyObject x.0.0 x.0.1 x.1) at 5 ((b, s), t) is fits)
change_again at (CreateUpload b k) is fits = kind_again at 6 (target (b, k)) (CreateUpload b k)
    (told_again (target_at at) target IsTarget (target_reader at) (λ x. CreateUpload x.0 x.1) at 6 (b, k) is fits)
change_again at (UploadPart b k id n bytes) is fits =
    kind_again at 7 ((upload ((b, k), id) ++ short n) ++ block bytes) (UploadPart b k id n bytes)
    (told_again (pair_at (pair_at (upload_at at) (number_at w32 at)) (block_at at)) (λ x. (upload x.0.0 ++ short x.0.1) ++ block x.1)
    (AreBoth (AreBoth IsUpload (IsBelow (2 ^ 32))) IsAny) (part_reader at) (λ x. UploadPart x.0.0.0.0 x.0.0.0.1 x.0.0.1 x.0.1 x.1) at 7
    ((((b, k), id), n), bytes) (is, tt) fits)
change_again at (CompleteUpload b k id ps) is fits =
    kind_again at 8 (upload ((b, k), id) ++ counted named ps) (CompleteUpload b k id ps)
    (told_again (pair_at (upload_at at) (counted_at (named_at at) at)) (λ x. upload x.0 ++ counted named x.1)
    (AreBoth IsUpload (AreFew IsNamed)) (complete_reader at) (λ x. CompleteUpload x.0.0.0 x.0.0.1 x.0.1 x.1) at 8 (((b, k), id), ps) is
    fits)
change_again at (AbortUpload b k id) is fits = kind_again at 9 (upload ((b, k), id)) (AbortUpload b k id)
    (told_again (upload_at at) upload IsUpload (upload_reader at) (λ x. AbortUpload x.0.0 x.0.1 x.1) at 9 ((b, k), id) is fits)
change_again at _ is fits = absurd is
