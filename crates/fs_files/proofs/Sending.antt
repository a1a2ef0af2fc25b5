-- The requests that make a file send the file: each part, and all parts at the end. Contracts cite none of these laws.
use Rattle.text_and_lists.proofs.Members.{none_some, some_is}
use Rattle.block_stream.specs.Stream.{has_some}
use Rattle.block_stream.specs.declared.stage.StreamStage.{StreamStage}
use Rattle.block_stream.specs.declared.stage.StreamStage.TheVariants.{Beginning, Completing, Putting, Sending}
use Rattle.fs_files.proofs.Writing.{Heard, On, asks, asks_at, begun, heard, heard_at, id_in, is_due, is_short, parted, stage_in, unsent}
use Rattle.fs_files.proofs.WritingLaws.{Known, known}
use Rattle.fs_files.specs.Creation.{Creation, IsCreation}
use Rattle.fs_files.specs.Requests.{Begins, Completes, IsWriteOf, Puts, Sends, parts_in}
use Rattle.fs_files.specs.code.Create.{IsSending}
use Rattle.fs_files.specs.code.Writing.{Writing}
use Rattle.s3_types.proofs.Blocks.{drop-parts, greater_most, greater_right, length-parts, some_parts}
use Rattle.s3_types.specs.Answer.{answer, apply}
use Rattle.s3_types.specs.Blocks.{named_from, parts_of, quotient_up}
use Rattle.s3_types.specs.Store.{Scene}
use Rattle.s3_types.specs.Tags.{Spelled, plain_tag}
use Rattle.s3_types.specs.declared.reply.Reply.{Reply}
use Rattle.s3_types.specs.declared.reply.Reply.TheVariants.{Part, Upload as Drawn}
use Rattle.s3_types.specs.declared.request.Request.{Request}
use Rattle.s3_types.specs.declared.request.Request.TheVariants.{CompleteUpload, CreateUpload, PutObject, UploadPart}
use Rattle.std.proofs.Common.{ap, arith, inl, inr, length-append, length-drop, refl, subst, sym, ◌∙◌}
use Rattle.std.proofs.Math.Nat.{div-lt_iff_lt-mul, lt_of_mul-lt-mul_right, suc-mul}
use Rattle.std.proofs.lemmas.Bool.{true≢false}
use Rattle.std.proofs.lemmas.Bool.Decides.{nat_tests}
use Rattle.std.proofs.lemmas.List.{drop-drop, get_or-drop, map-append, take_all}
use Rattle.std.proofs.lemmas.Option.{slice_get_read}
use Rattle.std.specs.List.{slice_get}
use Rattle.std.specs.Prelude.{Bool, List, None, Some, drop, false, get_or, length, map, nat_lt, not, suc, take, true, zero, ℕ, [], ◌*◌}
use Rattle.std.specs.Prelude.{◌++◌, ◌+◌, ◌-◌, ◌<◌, ◌||◌, ◌∷◌, ◌≡◌, ◌≤◌, ◌⊎◌}

-- ---- the number of parts

-- So many blocks have all bytes.
enough : (l n : ℕ) → 1 ≤ n → l ≤ quotient_up l n * n
enough l n some = omega arith

-- Bytes after i whole blocks are in a further part.
further : (n : ℕ) (bytes : List ℕ) (i : ℕ) → 1 ≤ n → i * n < length bytes → i < length (parts_of n bytes)
further n bytes i some h =
    let q = quotient_up (length bytes) n in
    let all = enough (length bytes) n some in
    let less : i * n < q * n = omega (arith, all, h) in
    let at : i < q = lt_of_mul-lt-mul_right n less in
    let most = greater_right 1 q in
    subst (λ m. i < m) (sym (length-parts n bytes)) (omega (arith, at, most))

-- If i whole blocks have all bytes, there are at most i parts.
no_further : (n : ℕ) (bytes : List ℕ) (i : ℕ) → 1 ≤ n → 1 ≤ i → length bytes ≤ i * n → length (parts_of n bytes) ≤ i
no_further n bytes i some one h =
    let more : suc i * n ≡ i * n + n = suc-mul i n in
    let below : quotient_up (length bytes) n < suc i = (div-lt_iff_lt-mul some).1 (omega (arith, more, h)) in
    subst (λ m. m ≤ i) (sym (length-parts n bytes)) (greater_most 1 (quotient_up (length bytes) n) i one (omega (arith, below)))

-- The part at place i.
part_at : (n : ℕ) (bytes : List ℕ) (i : ℕ) → i < length (parts_of n bytes)
    → slice_get (parts_of n bytes) i ≡ Some (take n (drop (i * n) bytes))
part_at n bytes i h =
    let x = take n (drop (i * n) bytes) in
    let e : get_or (drop i (parts_of n bytes)) 0 x ≡ x = ap (λ (l : List (List ℕ)). get_or l 0 x) (drop-parts n bytes i h) in
    let p : i + 0 ≡ i = omega arith in
    slice_get_read (parts_of n bytes) (length (parts_of n bytes)) i x refl h
    (sym e ∙ get_or-drop i (parts_of n bytes) 0 x ∙ ap (λ j. get_or (parts_of n bytes) j x) p)

take_next : {X : Type 0} (n : ℕ) (xs : List X) (b : X) → slice_get xs n ≡ Some b → take (suc n) xs ≡ take n xs ++ b ∷ []
take_next n [] b e = absurd (none_some refl e)
take_next zero (x ∷ xs) b e = ap (λ y. y ∷ []) (some_is e)
take_next (suc n) (x ∷ xs) b e = ap (λ l. x ∷ l) (take_next n xs b e)

no_blocks : (n : ℕ) (bytes : List ℕ) → drop (0 * n) bytes ≡ bytes
no_blocks n bytes = let z : 0 * n ≡ 0 = omega arith in ap (λ m. drop m bytes) z

-- ---- the requests

module _ (o : Creation) (z : Scene) (ok : IsCreation o) (w : Writing) (s : Scene) (h : IsSending o z w s) (key : w.key ≡ o.path.key)
    (block : w.block ≡ o.block) where
  abbrev B : List ℕ
  B = o.path.bucket

  abbrev i : ℕ
  i = length w.tags

  long_pending : length w.pending ≡ length o.bytes - i * o.block
  long_pending = ap length h.pending ∙ length-drop (i * o.block) o.bytes

  -- without an upload all is pending
  all_pending : w.upload ≡ None → w.pending ≡ o.bytes
  all_pending e = h.pending ∙ ap (λ (t : List Spelled). drop (length t * o.block) o.bytes) (h.unbegun e) ∙ no_blocks o.block o.bytes

  shorter : (a b : ℕ) → nat_lt a b ≡ true → a < b
  shorter a b e = grind (arith, nat_tests)

  no_shorter : (a b : ℕ) → nat_lt a b ≡ false → b ≤ a
  no_shorter a b e = grind (arith, nat_tests)

  pub short_file : w.upload ≡ None → is_short w ≡ true → length o.bytes < o.block
  short_file e f =
      subst (λ b. length o.bytes < b) block
      (subst (λ (p : List ℕ). length p < w.block) (all_pending e) (shorter (length w.pending) w.block f))

  pub long_file : w.upload ≡ None → is_short w ≡ false → o.block ≤ length o.bytes
  long_file e f =
      subst (λ b. b ≤ length o.bytes) block
      (subst (λ (p : List ℕ). w.block ≤ length p) (all_pending e) (no_shorter (length w.pending) w.block f))

  none_long : (t : List Spelled) → (has_some w.pending || not (has_some t)) ≡ true → (0 < length w.pending) ⊎ (t ≡ [])
  none_long [] e = inr refl
  none_long (x ∷ t) e = some w.pending e
    where
      some : (p : List ℕ) → (has_some p || false) ≡ true → (0 < length p) ⊎ (x ∷ t ≡ [])
      some [] e = absurd (true≢false (sym e))
      some (y ∷ p) e = inl (omega arith)

  -- a part that is to be sent is one of the file's
  within : is_due w ≡ true → i < length (parts_in o)
  within d = elim (none_long w.tags d) [
    | inl g ↦ further o.block o.bytes i ok.block (let e = long_pending in omega (arith, e, g))
    | inr e ↦ subst (λ (t : List Spelled). length t < length (parts_in o)) (sym e) (let m = some_parts o.block o.bytes in omega (arith, m))
  ]

  pub part_is : is_due w ≡ true → slice_get (parts_in o) i ≡ Some (take w.block w.pending)
  part_is d =
      part_at o.block o.bytes i (within d)
      ∙ ap Some (ap (λ b. take b (drop (i * o.block) o.bytes)) (sym block) ∙ ap (take w.block) (sym h.pending))

  nothing_due : (p : List ℕ) (t : List Spelled) → (has_some p || not (has_some t)) ≡ false → (p ≡ []) × (1 ≤ length t)
  nothing_due [] [] e = absurd (true≢false e)
  nothing_due [] (x ∷ t) e = (refl, omega arith)
  nothing_due (y ∷ p) t e = absurd (true≢false e)

  -- if no part is to be sent, the tags are those of all parts
  pub tags_are : is_due w ≡ false → w.tags ≡ map plain_tag (parts_in o)
  tags_are d =
      let n = nothing_due w.pending w.tags d in
      let none : length w.pending ≡ 0 = ap length n.0 in
      let e = long_pending in
      let all = no_further o.block o.bytes i ok.block n.1 (omega (arith, none, e)) in
      h.tags ∙ ap (map plain_tag) (take_all i (parts_in o) all)

  writes_at : (g : StreamStage) → Known w g → IsWriteOf o z.content.next (asks_at g B w)
  writes_at Putting k =
      Puts (short_file k.0 k.1) (ap (λ k. PutObject B k w.pending None) key ∙ ap (λ p. PutObject B o.path.key p None) (all_pending k.0))
  writes_at Beginning k = Begins (long_file k.0 k.1) (ap (λ k. CreateUpload B k) key)
  writes_at Sending k =
      let b = h.begun (id_in w) k.0 in
      Sends (id_in w) i (take w.block w.pending) b.1 b.0 (part_is k.1)
      (ap (λ k. UploadPart B k (id_in w) (i + 1) (take w.block w.pending)) key)
  writes_at Completing k =
      let b = h.begun (id_in w) k.0 in
      Completes (id_in w) b.1 b.0
      (ap (λ k. CompleteUpload B k (id_in w) (named_from 1 w.tags)) key
      ∙ ap (λ t. CompleteUpload B o.path.key (id_in w) (named_from 1 t)) (tags_are k.1))
  writes_at _ k = absurd k

  -- the request writes the file
  pub is_write : IsWriteOf o z.content.next (asks B w)
  is_write = writes_at (stage_in w) (known w)

  -- ---- the result of a reply

  abbrev pub GoesOnSo : Heard → Scene → Type 0
  GoesOnSo (On v) s = IsSending o z v s
  GoesOnSo _ s = Unit {0}

  abbrev r : Request
  r = asks B w

  rises_at : (g : StreamStage) → s.content.next ≤ (apply s (asks_at g B w)).content.next
  rises_at g = grind arith

  rises : z.content.next ≤ (apply s r).content.next
  rises = let a = rises_at (stage_in w) in let b = h.later in omega (arith, a, b)

  -- a request that took effect
  pub applied : IsSending o z w (apply s r)
  applied = record { tags = h.tags; pending = h.pending; unbegun = h.unbegun; begun = h.begun; later = rises }

  drawn_is : (id : ℕ) → answer s (CreateUpload B w.key) ≡ Drawn id → id ≡ s.content.next
  drawn_is id e = grind arith

  tag_is : (id n : ℕ) (bytes : List ℕ) (t : Spelled) → answer s (UploadPart B w.key id n bytes) ≡ Part t → t ≡ plain_tag bytes
  tag_is id n bytes t e = grind arith

  longer : (t : Spelled) → length (w.tags ++ t ∷ []) ≡ suc i
  longer t = length-append w.tags (t ∷ []) ∙ omega arith

  begins_so : (id : ℕ) → w.upload ≡ None → is_short w ≡ false
      → answer s (CreateUpload B w.key) ≡ Drawn id → IsSending o z (begun w id) (apply s r)
  begins_so id e f a = record {
    tags = h.tags;
    pending = h.pending;
    unbegun = λ g. absurd (none_some g refl);
    begun = λ j g. (let d = drawn_is id a in let l = h.later in let k = some_is g in omega (arith, d, l, k), long_file e f);
    later = rises;
  }

  parts_so : (t : Spelled) → w.upload ≡ Some (id_in w) → is_due w ≡ true
      → answer s (UploadPart B w.key (id_in w) (i + 1) (take w.block w.pending)) ≡ Part t → IsSending o z (parted w t) (apply s r)
  parts_so t e d a = record {
    tags =
        ap (λ l. l ++ t ∷ []) h.tags
        ∙ ap (λ t. map plain_tag (take i (parts_in o)) ++ t ∷ []) (tag_is (id_in w) (i + 1) (take w.block w.pending) t a)
        ∙ sym (map-append plain_tag (take i (parts_in o)) (take w.block w.pending ∷ []))
        ∙ ap (map plain_tag) (sym (take_next i (parts_in o) (take w.block w.pending) (part_is d)))
        ∙ ap (λ n. map plain_tag (take n (parts_in o))) (sym (longer t));
    pending =
        ap (λ b. drop b w.pending) block
        ∙ ap (drop o.block) h.pending
        ∙ drop-drop o.block (i * o.block) o.bytes
        ∙ ap (λ n. drop n o.bytes) (let e : i * o.block + o.block ≡ suc i * o.block = sym (suc-mul i o.block) in e)
        ∙ ap (λ n. drop (n * o.block) o.bytes) (sym (longer t));
    unbegun = λ g. absurd (none_some g e);
    begun = h.begun;
    later = rises;
  }

  goes_at : (g : StreamStage) → Known w g → (a : Reply) (repeated : Bool)
      → answer s (asks_at g B w) ≡ a → GoesOnSo (heard_at g w a repeated) (apply s r)
  goes_at Beginning k (Drawn id) repeated e = begins_so id k.0 k.1 e
  goes_at Sending k (Part t) repeated e = parts_so t k.0 k.1 e
  goes_at g k a repeated e = grind arith

  -- after its reply the same holds again
  pub sends_on : (repeated : Bool) → GoesOnSo (heard w (answer s r) repeated) (apply s r)
  sends_on repeated = goes_at (stage_in w) (known w) (answer s r) repeated refl

pub sending_begins : (o : Creation) (z : Scene) (key : List ℕ) → IsSending o z (unsent key o.block o.bytes) z
sending_begins o z key = record {
  tags = refl;
  pending = sym (no_blocks o.block o.bytes);
  unbegun = λ e. refl;
  begun = λ id e. absurd (none_some refl e);
  later = omega arith;
}
