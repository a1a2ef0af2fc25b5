-- The two laws of the whole image: the content that is read has the bytes as its image, and its image is read as that content.
use Rattle.text_and_lists.proofs.Bytes.{IsBytes, Takes, Takes-then, wide64}
use Rattle.text_and_lists.proofs.Reading.{parted, passed, same_ok}
use Rattle.text_and_lists.specs.Order.{text_cmp}
use Rattle.text_and_lists.specs.Reading.{passing, ◌>>=◌}
use Rattle.s3_types.specs.Names.{is_bucket}
use Rattle.s3_types.specs.Store.{Content}
use Rattle.std.proofs.Common.{Err, List, Ok, ap, append_assoc, arith, cond, eqb, leb, length, refl, subst, sym, true, ℕ, [], ◌++◌, ◌<◌, ◌^◌}
use Rattle.std.proofs.Common.{◌∙◌, ◌≡◌, ◌≤◌}
use Rattle.std.proofs.lemmas.Bool.{and_parts, eqb-true, leb-true}
use Rattle.std.proofs.lemmas.List.{append-nil, length-append, nil_from_length}
use Rattle.std.proofs.lemmas.Slice.Eq.{bytes_eq-Decides}
use Rattle.std.specs.Int.{to_be_bytes, w64}
use Rattle.std.specs.Prelude.{bytes_eq}
use Rattle.store_image.proofs.Spelled.{buckets_reader}
use Rattle.store_image.proofs.Steps.{bytes_again, bytes_take, number_again, number_takes}
use Rattle.store_image.specs.Content.{IsContent, is_counter, is_minimum}
use Rattle.store_image.specs.Image.{bucket, counted, image, magic}
use Rattle.store_image.specs.Reading.{Read, bucket_at, bytes_at, content_in, counted_at, head_at, name_at, number_at, place, store_at}
use Rattle.store_image.specs.declared.fault.ImageFault.TheVariants.{BadHead, CounterTooHigh, Trailing}

-- ---- the head

abbrev head_text : ℕ × ℕ → List ℕ
head_text h = (magic ++ to_be_bytes w64 h.0) ++ to_be_bytes w64 h.1

record IsHead (h : ℕ × ℕ) : Type 0 where
  pub minimum : is_minimum h.0 ≡ true
  pub counter : is_counter h.1 ≡ true

head_takes : (whole : ℕ) (bytes : List ℕ) (h : ℕ × ℕ) (rest : List ℕ) → IsBytes bytes → head_at whole bytes ≡ Ok (h, rest)
    → Takes bytes (head_text h) rest × IsHead h
unfolding head_at
head_takes whole bytes h rest fits e =
    let b = parted (bytes_at whole 8 bytes) _ (h, rest) e in
    let f = parted (passing (λ x. bytes_eq x magic) BadHead b.value) _ (h, rest) b.next in
    let n = parted (number_at w64 whole f.value.1) _ (h, rest) f.next in
    let min = parted (passing is_minimum BadHead n.value) _ (h, rest) n.next in
    let m = parted (number_at w64 whole min.value.1) _ (h, rest) min.next in
    let count = parted (passing is_counter CounterTooHigh m.value) _ (h, rest) m.next in
    let first = passed (bytes_eq b.value.0 magic) BadHead b.value f.value f.first in
    let second = passed (is_minimum n.value.0) BadHead n.value min.value min.first in
    let third = passed (is_counter m.value.0) CounterTooHigh m.value count.value count.first in
    let t = bytes_take whole 8 bytes b.value.0 b.value.1 fits b.first in
    let is_magic : b.value.0 ≡ magic = (bytes_eq-Decides b.value.0 magic).0 first.0 in
    let one : Takes bytes magic f.value.1 = subst (λ (x : List ℕ × List ℕ). Takes bytes magic x.1) first.1
    (subst (λ (x : List ℕ). Takes bytes x b.value.1) is_magic t.0) in
    let u = (number_takes w64 (2 ^ 64) wide64 whole f.value.1 n.value.0 n.value.1 one.rest_fits n.first).0 in
    let two : Takes f.value.1 (to_be_bytes w64 min.value.0) min.value.1 = subst
    (λ (x : ℕ × List ℕ). Takes f.value.1 (to_be_bytes w64 x.0) x.1) second.1 u in
    let v = (number_takes w64 (2 ^ 64) wide64 whole min.value.1 m.value.0 m.value.1 two.rest_fits m.first).0 in
    let three : Takes min.value.1 (to_be_bytes w64 count.value.0) count.value.1 = subst
    (λ (x : ℕ × List ℕ). Takes min.value.1 (to_be_bytes w64 x.0) x.1) third.1 v in
    let all = Takes-then bytes (magic ++ to_be_bytes w64 min.value.0) min.value.1 (to_be_bytes w64 count.value.0) count.value.1
    (Takes-then bytes magic f.value.1 (to_be_bytes w64 min.value.0) min.value.1 one two) three in
    let minimum : is_minimum min.value.0 ≡ true = subst (λ (x : ℕ × List ℕ). is_minimum x.0 ≡ true) second.1 second.0 in
    let counter : is_counter count.value.0 ≡ true = subst (λ (x : ℕ × List ℕ). is_counter x.0 ≡ true) third.1 third.0 in
    subst (λ (p : (ℕ × ℕ) × List ℕ). Takes bytes (head_text p.0) p.1 × IsHead p.0)
    (same_ok ((min.value.0, count.value.0), count.value.1) (h, rest) count.next)
    (all, record { minimum = minimum; counter = counter })

minimum_fits : (n : ℕ) → is_minimum n ≡ true → n < 2 ^ 64
minimum_fits n is = omega (arith, leb-true n 5242880 (and_parts (leb 1 n) (leb n 5242880) is).1)

counter_most : (n : ℕ) → is_counter n ≡ true → n ≤ 2 ^ 62
counter_most n is = leb-true n (2 ^ 62) (and_parts (leb 1 n) (leb n (2 ^ 62)) is).1

head_again : (whole minimum counter : ℕ) (rest : List ℕ) → is_minimum minimum ≡ true → is_counter counter ≡ true
    → head_at whole (head_text (minimum, counter) ++ rest) ≡ Ok ((minimum, counter), rest)
unfolding head_at
head_again whole minimum counter rest f g =
    let a = to_be_bytes w64 minimum in
    let b = to_be_bytes w64 counter in
    let regrouped : head_text (minimum, counter) ++ rest ≡ magic ++ (a ++ (b ++ rest)) = append_assoc (magic ++ a) b rest ∙ append_assoc
    magic a (b ++ rest) in
    ap (head_at whole) regrouped
    ∙ rw (
      bytes_again whole magic (a ++ (b ++ rest)),
      number_again w64 (2 ^ 64) wide64 whole minimum (b ++ rest) (minimum_fits minimum f),
      f,
      number_again w64 (2 ^ 64) wide64 whole counter rest (omega (arith, counter_most counter g)),
      g,
    ) refl

-- ---- the store

store_takes : (whole : ℕ) (bytes : List ℕ) (c : Content) (rest : List ℕ) → IsBytes bytes → store_at whole bytes ≡ Ok (c, rest)
    → Takes bytes (image c) rest × IsContent c
unfolding store_at
store_takes whole bytes c rest fits e =
    let h = parted (head_at whole bytes) _ (c, rest) e in
    let b = parted (counted_at {R = text_cmp} w64 whole (name_at is_bucket whole) (bucket_at h.value.0.1 whole) h.value.1) _ (c, rest)
    h.next in
    let t = head_takes whole bytes h.value.0 h.value.1 fits h.first in
    let u = (buckets_reader h.value.0.1 (omega (arith, counter_most h.value.0.1 t.1.counter)) whole).takes h.value.1 b.value.0 b.value.1
    t.0.rest_fits b.first in
    let all = Takes-then bytes (head_text h.value.0) h.value.1 (counted {R = text_cmp} w64 bucket b.value.0) b.value.1 t.0 u.0 in
    let made : Content = record { buckets = b.value.0; next = h.value.0.1; minimum = h.value.0.0 } in
    subst (λ (p : Content × List ℕ). Takes bytes (image p.0) p.1 × IsContent p.0) (same_ok (made, b.value.1) (c, rest) b.next)
    (all, record { minimum = t.1.minimum; counter = t.1.counter; buckets = u.1 })

store_again : (whole : ℕ) (c : Content) (rest : List ℕ) → IsContent c → length (image c ++ rest) < 2 ^ 64
    → store_at whole (image c ++ rest) ≡ Ok (c, rest)
unfolding store_at
store_again whole c rest is fits =
    let head = head_text (c.minimum, c.next) in
    let behind = counted {R = text_cmp} w64 bucket c.buckets ++ rest in
    let regrouped : image c ++ rest ≡ head ++ behind = append_assoc head (counted {R = text_cmp} w64 bucket c.buckets) rest in
    let end : length behind < 2 ^ 64 = omega (arith, subst (λ (x : List ℕ). length x < 2 ^ 64) regrouped fits, length-append head behind) in
    ap (store_at whole) regrouped
    ∙ rw (
      head_again whole c.minimum c.next behind is.minimum is.counter,
      (buckets_reader c.next
          (omega (arith, counter_most c.next is.counter)) whole).again c.buckets rest is.buckets end,
    ) refl

-- ---- the whole

-- The value that is read is a content, and the bytes are its image.
pub content_takes : (bytes : List ℕ) (c : Content) → IsBytes bytes → content_in bytes ≡ Ok c → IsContent c × (bytes ≡ image c)
unfolding content_in
content_takes bytes c fits e =
    let s = parted (store_at (length bytes) bytes) _ c e in
    let g = passed (eqb (length s.value.1) 0) (Trailing (place (length bytes) s.value.1)) s.value.0 c s.next in
    let t = store_takes (length bytes) bytes s.value.0 s.value.1 fits s.first in
    let nothing : s.value.1 ≡ [] = nil_from_length s.value.1 (eqb-true _ _ g.0) in
    let all : bytes ≡ image s.value.0 = t.0.parts ∙ ap (λ (r : List ℕ). image s.value.0 ++ r) nothing ∙ append-nil (image s.value.0) in
    subst (λ (d : Content). IsContent d × (bytes ≡ image d)) g.1 (t.1, all)

content_again : (c : Content) → IsContent c → length (image c) < 2 ^ 64 → content_in (image c) ≡ Ok c
unfolding content_in
content_again c is fits =
    let whole = length (image c) in
    let same : image c ≡ image c ++ [] = sym (append-nil (image c)) in
    let again : store_at whole (image c) ≡ Ok (c, []) = ap (store_at whole) same ∙ store_again whole c [] is
    (subst (λ (x : List ℕ). length x < 2 ^ 64) same fits) in
    ap (λ (r : Read Content). r >>= λ s. cond (eqb (length s.1) 0) (Ok s.0) (Err (Trailing (place whole s.1)))) again

-- If the bytes are the image of a content, that content is read.
pub read_again : (bytes : List ℕ) (c : Content) → length bytes < 2 ^ 64 → IsContent c → bytes ≡ image c → content_in bytes ≡ Ok c
read_again bytes c fits is e = ap content_in e ∙ content_again c is (subst (λ (x : List ℕ). length x < 2 ^ 64) e fits)

-- Bytes are the image of at most one content.
pub one : (bytes : List ℕ) (c d : Content) → length bytes < 2 ^ 64 → IsContent c → IsContent d → bytes ≡ image c → bytes ≡ image d → c ≡ d
one bytes c d fits is are e f = same_ok c d (sym (read_again bytes c fits is e) ∙ read_again bytes d fits are f)
