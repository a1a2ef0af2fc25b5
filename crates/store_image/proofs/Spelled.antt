-- For each kind of value: the value that is read has the bytes as its text, and its text is read as that value.
use Rattle.text_and_lists.proofs.Bytes.{IsBytes, IsReader, Takes, Takes-then, wide16, wide64}
use Rattle.text_and_lists.proofs.Reading.{parted, same_ok, tested, tested_again}
use Rattle.text_and_lists.specs.Order.{text_cmp, text_total}
use Rattle.text_and_lists.specs.Reading.{◌>>=◌}
use Rattle.s3_types.specs.Multipart.{is_part_number}
use Rattle.s3_types.specs.Names.{are_elements, is_bucket, is_key, is_key_path, is_letter_or_digit, is_name_byte, trimmed}
use Rattle.s3_types.specs.Store.{BucketContent, Upload}
use Rattle.s3_types.specs.declared.object.Object.{Object}
use Rattle.std.proofs.Common.{Bool, List, None, Ok, Option, Some, ap, append_assoc, arith, leb, length, ltb, refl, subst, suc, sym, true}
use Rattle.std.proofs.Common.{zero, ℕ, [], ◌&&◌, ◌++◌, ◌+◌, ◌-◌, ◌<◌, ◌^◌, ◌∙◌, ◌∷◌, ◌≡◌, ◌≤◌}
use Rattle.std.proofs.lemmas.Bool.{and_parts, leb-true, ltb-true}
use Rattle.std.proofs.lemmas.Cmp.{nat_cmp_total}
use Rattle.std.proofs.lemmas.List.{length-append}
use Rattle.std.specs.Int.{to_be_bytes, w16, w64}
use Rattle.std.specs.List.{AllByRecursion, list_all}
use Rattle.std.specs.Ordering.{nat_cmp}
use Rattle.std.specs.Prelude.{slice_index}
use Rattle.std.specs.Str.{is_utf8}
use Rattle.store_image.proofs.Entries.{IsKeyReader, Rises, count_fits, counted_reader, map_rises}
use Rattle.store_image.proofs.Maps.{lt_from}
use Rattle.store_image.proofs.Steps.{IsBelow, any_block, block_again, block_reader, number_again, number_reader, number_takes}
use Rattle.store_image.specs.Content.{AreEntries, IsBucket, IsEntry, IsObject, IsPart, IsUpload, is_id}
use Rattle.store_image.specs.Image.{block, bucket, counted, header, name, object, part, upload}
use Rattle.store_image.specs.Reading.{Read, block_at, bucket_at, counted_at, header_in, id_at, is_after, name_at, number_at, object_at}
use Rattle.store_image.specs.Reading.{part_number_at, parts_at, upload_at}
use Rattle.std.specs.FinMap as fin

-- ---- keys

-- A reader of names that are not too long.
pub name_reader : (is_name : List ℕ → Bool) → ((t : List ℕ) → is_name t ≡ true → length t < 2 ^ 16) → (whole : ℕ)
    → IsKeyReader text_cmp (name_at is_name whole) name is_name
unfolding name_at
name_reader is_name short whole = record {
  takes = λ last bytes k rest fits e.
      let t = tested (block_at w16 whole bytes) is_name (is_after text_cmp last) _ _ (k, rest) e in
      (((block_reader w16 (2 ^ 16) wide16 whole).takes bytes k rest fits t.0).0, t.1, t.2);
  again = λ last k rest is after. tested_again (block_at w16 whole (name k ++ rest)) is_name (is_after text_cmp last) _ _ (k, rest)
      (block_again w16 (2 ^ 16) wide16 whole k rest (short k is)) is after;
  some = λ k. omega (arith, length-append (to_be_bytes w16 (length k)) k, wide16.len (length k));
}

pub id_reader : (next : ℕ) → next ≤ 2 ^ 64 → (whole : ℕ) → IsKeyReader nat_cmp (id_at next whole) (to_be_bytes w64) (is_id next)
unfolding id_at
id_reader next le whole = record {
  takes = λ last bytes k rest fits e.
      let t = tested (number_at w64 whole bytes) (is_after nat_cmp last) (is_id next) _ _ (k, rest) e in
      ((number_takes w64 (2 ^ 64) wide64 whole bytes k rest fits t.0).0, t.2, t.1);
  again = λ last k rest is after.
      let parts = and_parts (leb 1 k) (ltb k next) is in
      tested_again (number_at w64 whole (to_be_bytes w64 k ++ rest)) (is_after nat_cmp last) (is_id next) _ _ (k, rest)
      (number_again w64 (2 ^ 64) wide64 whole k rest (omega (arith, ltb-true _ _ parts.1, le))) after is;
  some = λ k. omega (arith, wide64.len k);
}

pub part_reader : (whole : ℕ) → IsKeyReader nat_cmp (part_number_at whole) (to_be_bytes w16) is_part_number
unfolding part_number_at
part_reader whole = record {
  takes = λ last bytes k rest fits e.
      let t = tested (number_at w16 whole bytes) (is_after nat_cmp last) is_part_number _ _ (k, rest) e in
      ((number_takes w16 (2 ^ 16) wide16 whole bytes k rest fits t.0).0, t.2, t.1);
  again = λ last k rest is after.
      let parts = and_parts (leb 1 k) (leb k 10000) is in
      tested_again (number_at w16 whole (to_be_bytes w16 k ++ rest)) (is_after nat_cmp last) is_part_number _ _ (k, rest)
      (number_again w16 (2 ^ 16) wide16 whole k rest (omega (arith, leb-true _ _ parts.1))) after is;
  some = λ k. omega (arith, wide16.len k);
}

-- ---- one value after another

module _ {A B C : Type 0}
    (first_at : List ℕ → Read A) (first_text : A → List ℕ) (IsFirst : A → Type 0) (first : IsReader first_at first_text IsFirst)
    (second_at : List ℕ → Read B) (second_text : B → List ℕ) (IsSecond : B → Type 0) (second : IsReader second_at second_text IsSecond)
    (join : A → B → C) (one : C → A) (two : C → B)
    (join_is : (c : C) → join (one c) (two c) ≡ c) (one_is : (a : A) (b : B) → one (join a b) ≡ a)
    (two_is : (a : A) (b : B) → two (join a b) ≡ b)
    (IsValue : C → Type 0) (from : (c : C) → IsFirst (one c) → IsSecond (two c) → IsValue c)
    (to_first : (c : C) → IsValue c → IsFirst (one c)) (to_second : (c : C) → IsValue c → IsSecond (two c)) where
  abbrev pub both_at : List ℕ → Read C
  both_at bytes = first_at bytes >>= λ a. second_at a.1 >>= λ b. Ok (join a.0 b.0, b.1)

  abbrev pub both_text : C → List ℕ
  both_text c = first_text (one c) ++ second_text (two c)

  both_takes : (bytes : List ℕ) (c : C) (rest : List ℕ) → IsBytes bytes → both_at bytes ≡ Ok (c, rest) → Takes bytes (both_text c) rest
      × IsValue c
  both_takes bytes c rest fits e =
      let a = parted (first_at bytes) _ (c, rest) e in
      let b = parted (second_at a.value.1) _ (c, rest) a.next in
      let t = first.takes bytes a.value.0 a.value.1 fits a.first in
      let u = second.takes a.value.1 b.value.0 b.value.1 t.0.rest_fits b.first in
      let text : first_text a.value.0 ++ second_text b.value.0 ≡ both_text (join a.value.0 b.value.0) =
      ap (λ (x : A). first_text x ++ second_text b.value.0) (sym (one_is a.value.0 b.value.0)) ∙ ap
      (λ (y : B). first_text (one (join a.value.0 b.value.0)) ++ second_text y) (sym (two_is a.value.0 b.value.0)) in
      let front = Takes-then bytes (first_text a.value.0) a.value.1 (second_text b.value.0) b.value.1 t.0 u.0 in
      subst (λ (p : C × List ℕ). Takes bytes (both_text p.0) p.1 × IsValue p.0)
      (same_ok (join a.value.0 b.value.0, b.value.1) (c, rest) b.next) (
        subst (λ (x : List ℕ). Takes bytes x b.value.1) text front,
        from _ (subst IsFirst (sym (one_is a.value.0 b.value.0)) t.1)
            (subst IsSecond (sym (two_is a.value.0 b.value.0)) u.1),
      )

  both_again : (c : C) (rest : List ℕ) → IsValue c → length (both_text c ++ rest) < 2 ^ 64 → both_at (both_text c ++ rest) ≡ Ok (c, rest)
  both_again c rest is fits =
      let behind = second_text (two c) ++ rest in
      let regrouped : both_text c ++ rest ≡ first_text (one c) ++ behind = append_assoc (first_text (one c)) (second_text (two c)) rest in
      let all : length (first_text (one c) ++ behind) < 2 ^ 64 = subst (λ (x : List ℕ). length x < 2 ^ 64) regrouped fits in
      let end : length behind < 2 ^ 64 = omega (arith, all, length-append (first_text (one c)) behind) in
      ap both_at regrouped ∙ rw (first.again (one c) behind (to_first c is) all, second.again (two c) rest (to_second c is) end)
      (ap (λ (x : C). Ok (x, rest)) (join_is c))

  pub both_reader : IsReader both_at both_text IsValue
  both_reader = record { takes = both_takes; again = both_again }

-- ---- objects

abbrev object_text : Object → List ℕ
object_text o = to_be_bytes w64 (header o.header) ++ block o.bytes

header_again : (h : Option ℕ) → header_in (header h) ≡ h
header_again None = refl
header_again (Some n) = let e : n + 1 ≡ suc n = omega arith in ap header_in e

header_back : (n : ℕ) → header (header_in n) ≡ n
header_back zero = refl
header_back (suc n) = omega arith

object_reader : (whole : ℕ) → IsReader (object_at whole) object_text IsObject
unfolding object_at
object_reader whole =
    both_reader (number_at w64 whole) (to_be_bytes w64) (IsBelow (2 ^ 64)) (number_reader w64 (2 ^ 64) wide64 whole)
    (block_at w64 whole) block IsPart (any_block whole)
    (λ n b. record { bytes = b; header = header_in n }) (λ o. header o.header) (λ o. o.bytes)
    (λ o. ap (λ (h : Option ℕ). record { bytes = o.bytes; header = h }) (header_again o.header)) (λ n b. header_back n) (λ n b. refl)
    IsObject (λ o is _. record { header_fits = is }) (λ o is. is.header_fits) (λ o is. tt)

-- A key is short enough for the field of its length.
pub key_short : (t : List ℕ) → is_key t ≡ true → length t < 2 ^ 16
key_short t is =
    let path = (and_parts (is_utf8 t) (is_key_path t) is).1 in
    let ends = (and_parts (leb 1 (length t) && leb (length t) 1024) (are_elements (trimmed t)) path).0 in
    let most = (and_parts (leb 1 (length t)) (leb (length t) 1024) ends).1 in
    omega (arith, leb-true (length t) 1024 most)

abbrev keys : (whole : ℕ) → IsKeyReader text_cmp (name_at is_key whole) name is_key
keys whole = name_reader is_key key_short whole

pub objects_reader : (whole : ℕ) → IsReader (counted_at w64 whole (name_at is_key whole) (object_at whole))
    (counted {R = text_cmp} w64 object) (AreEntries is_key IsObject)
objects_reader whole =
    let spelled = λ (e : List ℕ × Object). append_assoc (name e.0) (to_be_bytes w64 (header e.1.header)) (block e.1.bytes) in
    counted_reader (name_at is_key whole) name is_key (keys whole) (object_at whole) object_text IsObject (object_reader whole) object
    spelled
    text_total w64 (2 ^ 64) wide64 whole
    (λ m are fits. omega (
      arith,
      fits,
      fin.len-entries m,
      count_fits (name_at is_key whole) name is_key (keys whole) (object_at whole)
          object_text IsObject (object_reader whole) object spelled (fin.entries m),
    ))

-- ---- uploads

-- An upload has at most 10,000 parts.
parts_left : (last : ℕ) (es : List (ℕ × List ℕ)) → last ≤ 10000 → AllByRecursion (IsEntry is_part_number IsPart) es
    → Rises nat_cmp (Some last) es → length es + last ≤ 10000
parts_left last [] le are rises = omega arith
parts_left last (e ∷ es) le are rises =
    let number = (and_parts (leb 1 e.0) (leb e.0 10000) are.0.key).1 in
    let most : e.0 ≤ 10000 = leb-true e.0 10000 number in
    let more : last < e.0 = lt_from last e.0 rises.0 in
    omega (arith, more, parts_left e.0 es most are.1 rises.1)

parts_few : (es : List (ℕ × List ℕ)) → AllByRecursion (IsEntry is_part_number IsPart) es → Rises nat_cmp None es → length es < 2 ^ 16
parts_few [] are rises = omega arith
parts_few (e ∷ es) are rises =
    let number = (and_parts (leb 1 e.0) (leb e.0 10000) are.0.key).1 in
    let most : e.0 ≤ 10000 = leb-true e.0 10000 number in
    omega (arith, parts_left e.0 es most are.1 rises.1)

parts_reader : (whole : ℕ) → IsReader (parts_at whole) (counted {R = nat_cmp} w16 part) (AreEntries is_part_number IsPart)
parts_reader whole =
    counted_reader (part_number_at whole) (to_be_bytes w16) is_part_number (part_reader whole) (block_at w64 whole) block IsPart
    (any_block whole) part (λ e. refl)
    nat_cmp_total w16 (2 ^ 16) wide16 whole
    (λ m are fits. omega (arith, fin.len-entries m, parts_few (fin.entries m) are (map_rises nat_cmp m)))

key_reader : (whole : ℕ) → IsReader (name_at is_key whole None) name (λ t. is_key t ≡ true)
key_reader whole = record {
  takes = λ bytes t rest fits e. let k = (keys whole).takes None bytes t rest fits e in (k.0, k.1);
  again = λ t rest is fits. (keys whole).again None t rest is refl;
}

abbrev upload_text : Upload → List ℕ
upload_text u = name u.key ++ counted w16 part u.parts

upload_reader : (whole : ℕ) → IsReader (upload_at whole) upload_text IsUpload
unfolding upload_at
upload_reader whole =
    both_reader (name_at is_key whole None) name (λ t. is_key t ≡ true) (key_reader whole)
    (parts_at whole) (counted {R = nat_cmp} w16 part) (AreEntries is_part_number IsPart) (parts_reader whole)
    (λ k ps. record { key = k; parts = ps }) (λ u. u.key) (λ u. u.parts) (λ u. refl) (λ k ps. refl) (λ k ps. refl)
    IsUpload (λ u is are. record { key = is; parts = are }) (λ u is. is.key) (λ u is. is.parts)

uploads_reader : (next : ℕ) → next ≤ 2 ^ 64 → (whole : ℕ)
    → IsReader (counted_at w64 whole (id_at next whole) (upload_at whole)) (counted {R = nat_cmp} w64 upload)
    (AreEntries (is_id next) IsUpload)
uploads_reader next le whole =
    let spelled = λ (e : ℕ × Upload). append_assoc (to_be_bytes w64 e.0) (name e.1.key) (counted w16 part e.1.parts) in
    counted_reader (id_at next whole) (to_be_bytes w64) (is_id next) (id_reader next le whole) (upload_at whole) upload_text IsUpload
    (upload_reader whole) upload spelled
    nat_cmp_total w64 (2 ^ 64) wide64 whole
    (λ m are fits. omega (
      arith,
      fits,
      fin.len-entries m,
      count_fits (id_at next whole) (to_be_bytes w64) (is_id next)
          (id_reader next le whole) (upload_at whole) upload_text IsUpload (upload_reader whole) upload spelled (fin.entries m),
    ))

-- ---- buckets

abbrev bucket_text : BucketContent → List ℕ
bucket_text b = counted w64 object b.objects ++ counted w64 upload b.uploads

bucket_reader : (next : ℕ) → next ≤ 2 ^ 64 → (whole : ℕ) → IsReader (bucket_at next whole) bucket_text (IsBucket next)
unfolding bucket_at
bucket_reader next le whole =
    both_reader (counted_at {R = text_cmp} w64 whole (name_at is_key whole) (object_at whole)) (counted {R = text_cmp} w64 object)
    (AreEntries is_key IsObject) (objects_reader whole)
    (counted_at {R = nat_cmp} w64 whole (id_at next whole) (upload_at whole)) (counted {R = nat_cmp} w64 upload)
    (AreEntries (is_id next) IsUpload) (uploads_reader next le whole)
    (λ os us. record { objects = os; uploads = us }) (λ b. b.objects) (λ b. b.uploads) (λ b. refl) (λ os us. refl) (λ os us. refl)
    (IsBucket next) (λ b os us. record { objects = os; uploads = us }) (λ b is. is.objects) (λ b is. is.uploads)

-- A bucket's name is short enough for the field of its length.
bucket_short : (t : List ℕ) → is_bucket t ≡ true → length t < 2 ^ 16
bucket_short t is =
    let a = (and_parts (leb 3 (length t) && leb (length t) 63 && list_all is_name_byte t && is_letter_or_digit (slice_index t 0))
    (is_letter_or_digit (slice_index t (length t - 1))) is).0 in
    let b = (and_parts (leb 3 (length t) && leb (length t) 63 && list_all is_name_byte t) (is_letter_or_digit (slice_index t 0)) a).0 in
    let d = (and_parts (leb 3 (length t) && leb (length t) 63) (list_all is_name_byte t) b).0 in
    omega (arith, leb-true (length t) 63 (and_parts (leb 3 (length t)) (leb (length t) 63) d).1)

pub buckets_reader : (next : ℕ) → next ≤ 2 ^ 64 → (whole : ℕ)
    → IsReader (counted_at w64 whole (name_at is_bucket whole) (bucket_at next whole)) (counted {R = text_cmp} w64 bucket)
    (AreEntries is_bucket (IsBucket next))
buckets_reader next le whole =
    let names = name_reader is_bucket bucket_short whole in
    let spelled = λ (e : List ℕ × BucketContent). append_assoc (name e.0) (counted w64 object e.1.objects) (counted w64 upload e.1.uploads)
    in
    counted_reader (name_at is_bucket whole) name is_bucket names (bucket_at next whole) bucket_text (IsBucket next)
    (bucket_reader next le whole) bucket spelled
    text_total w64 (2 ^ 64) wide64 whole
    (λ m are fits. omega (
      arith,
      fits,
      fin.len-entries m,
      count_fits (name_at is_bucket whole) name is_bucket names (bucket_at next whole)
          bucket_text (IsBucket next) (bucket_reader next le whole) bucket spelled (fin.entries m),
    ))
