-- What was read and what was written so far.
use Rattle.s3a_top.specs.Bytes.{IsRead, IsTaken, TakesPart, WritesSome}
use Rattle.devices.specs.Devices.{Appends, Takes}
use Rattle.std.proofs.Common.{Err, List, None, Ok, OnErr, Option, Result, Some, ap, append_assoc, arith, drop, length, length-append, lit≤}
use Rattle.std.proofs.Common.{refl, subst, sym, take, ℕ, [], ◌++◌, ◌+◌, ◌<◌, ◌∙◌, ◌≡◌, ◌≤◌}
use Rattle.std.proofs.lemmas.List.{append-nil, drop_all, drop_at, length-take, take-append-drop, take_all, take_at}

-- Holds if what was left before is what was read so far and what is left now. For an input whose bytes are not known it only says that they
-- stay unknown.
abbrev pub IsReadSoFar : Option (List ℕ) → Option (List ℕ) → List ℕ → Type 0
IsReadSoFar None now all = now ≡ None
IsReadSoFar (Some left) now all = (rest : List ℕ) × (now ≡ Some rest) × (left ≡ all ++ rest)

pub none_read : (before : Option (List ℕ)) → IsReadSoFar before before []
none_read None = refl
none_read (Some left) = (left, refl, refl)

more_told : (left all rest : List ℕ) (after : Option (List ℕ)) (n : ℕ) (buffer : List ℕ) → left ≡ all ++ rest
    → Takes (Some rest) after n buffer → IsReadSoFar (Some left) after (all ++ take n buffer)
more_told left all rest None n buffer e t = absurd t
more_told left all rest (Some others) n buffer e t =
    let parts : rest ≡ take n buffer ++ others = sym (take-append-drop n rest) ∙ ap (λ (l : List ℕ). l ++ drop n rest) (sym t.front) ∙ ap
    (λ (l : List ℕ). take n buffer ++ l) (sym t.others) in
    (others, refl, e ∙ ap (λ (l : List ℕ). all ++ l) parts ∙ sym (append_assoc all (take n buffer) others))

pub more_read : (before now after : Option (List ℕ)) (all : List ℕ) (n : ℕ) (buffer : List ℕ) → IsReadSoFar before now all
    → Takes now after n buffer → IsReadSoFar before after (all ++ take n buffer)
more_read None now after all n buffer h t = subst (λ (o : Option (List ℕ)). Takes o after n buffer) h t
more_read (Some left) now after all n buffer h t = more_told left all h.0 after n buffer h.2
    (subst (λ (o : Option (List ℕ)). Takes o after n buffer) h.1 t)

-- What was read so far was taken from the input.
pub part_read : (before now : Option (List ℕ)) (all : List ℕ) → length all ≤ 67108865 → IsReadSoFar before now all → TakesPart before now
part_read None now all size h = h
part_read (Some left) now all size h = (
  length all,
  (
    size,
    h.1 ∙ ap (λ (l : List ℕ). Some l)
        (sym (ap (drop (length all)) h.2 ∙ drop_at all h.0 (length all) refl)),
  ),
)

-- What was read after that was taken from the input too.
pub more_taken : (before now after : Option (List ℕ)) (all : List ℕ) (n : ℕ) (buffer : List ℕ) → length all + n ≤ 67108865
    → IsReadSoFar before now all → Takes now after n buffer → TakesPart before after
more_taken before now after all n buffer size h t =
    let few : length (all ++ take n buffer) ≤ 67108865 = omega (arith, length-append all (take n buffer), length-take n buffer) in
    part_read before after (all ++ take n buffer) few (more_read before now after all n buffer h t)

pub read_taken : (left rest : Option (List ℕ)) (all : List ℕ) → IsRead left rest all → IsTaken left rest
read_taken None rest all r = r
read_taken (Some bytes) rest all r = r.1

pub taken_part : (left rest : Option (List ℕ)) → IsTaken left rest → TakesPart left rest
taken_part None rest h = h
taken_part (Some bytes) rest h = (67108865, (lit≤ tt, h))

-- As many bytes were read as may be read.
pub full_read : (before after : Option (List ℕ)) (all : List ℕ) → length all ≡ 67108865 → IsReadSoFar before after all
    → IsRead before after all
full_read None after all size h = h
full_read (Some left) after all size h = (
  sym (ap (take 67108865) h.2 ∙ take_at all h.0 67108865 size),
  h.1 ∙ ap (λ (l : List ℕ). Some l)
      (sym (ap (drop 67108865) h.2 ∙ drop_at all h.0 67108865 size)),
)

ended_told : (left all rest : List ℕ) (after : Option (List ℕ)) (n : ℕ) (buffer : List ℕ) → length all ≤ 67108865 → left ≡ all ++ rest
    → Takes (Some rest) after n buffer → n ≡ 0 → 0 < length buffer → IsRead (Some left) after all
ended_told left all rest None n buffer size e t none some = absurd t
ended_told left all rest (Some others) n buffer size e t none some =
    let end : rest ≡ [] = t.ends none some in
    let same : left ≡ all = e ∙ ap (λ (l : List ℕ). all ++ l) end ∙ append-nil all in
    let nothing : others ≡ [] = t.others ∙ ap (λ (l : List ℕ). drop n l) end ∙ drop_all n [] (omega arith) in (
      sym (ap (take 67108865) same ∙ take_all 67108865 all size),
      ap (λ (l : List ℕ). Some l)
          (nothing ∙ sym (ap (drop 67108865) same ∙ drop_all 67108865 all size)),
    )

-- The input has ended.
pub ended_read : (before now after : Option (List ℕ)) (all : List ℕ) (n : ℕ) (buffer : List ℕ) → length all ≤ 67108865
    → IsReadSoFar before now all → Takes now after n buffer → n ≡ 0 → 0 < length buffer → IsRead before after all
ended_read None now after all n buffer size h t none some = subst (λ (o : Option (List ℕ)). Takes o after n buffer) h t
ended_read (Some left) now after all n buffer size h t none some = ended_told left all h.0 after n buffer size h.2
    (subst (λ (o : Option (List ℕ)). Takes o after n buffer) h.1 t) none some

-- Holds if some first bytes of a text were appended to what was written before, and these bytes are left.
abbrev pub IsWrittenSoFar : Option (List ℕ) → Option (List ℕ) → List ℕ → List ℕ → Type 0
IsWrittenSoFar before now text rest = (front : List ℕ) × (text ≡ front ++ rest) × Appends before now front

nothing_more : (before : Option (List ℕ)) → Appends before before []
nothing_more None = refl
nothing_more (Some bytes) = ap (λ (l : List ℕ). Some l) (sym (append-nil bytes))

pub none_written : (before : Option (List ℕ)) (text : List ℕ) → IsWrittenSoFar before before text text
none_written before text = ([], refl, nothing_more before)

both_written : (before now after : Option (List ℕ)) (first second : List ℕ) → Appends before now first → Appends now after second
    → Appends before after (first ++ second)
both_written None now after first second a b = subst (λ (o : Option (List ℕ)). Appends o after second) a b
both_written (Some bytes) now after first second a b =
    subst (λ (o : Option (List ℕ)). Appends o after second) a b ∙ ap (λ (l : List ℕ). Some l) (append_assoc bytes first second)

pub more_written : (before now after : Option (List ℕ)) (text rest : List ℕ) (n : ℕ) → IsWrittenSoFar before now text rest
    → Appends now after (take n rest) → IsWrittenSoFar before after text (drop n rest)
more_written before now after text rest n h a = (
  h.0 ++ take n rest,
  h.1 ∙ ap (λ (l : List ℕ). h.0 ++ l) (sym (take-append-drop n rest)) ∙ sym
      (append_assoc h.0 (take n rest) (drop n rest)),
  both_written before now after h.0 (take n rest) h.2 a,
)

pub all_written : (before now : Option (List ℕ)) (text rest : List ℕ) → rest ≡ [] → IsWrittenSoFar before now text rest
    → Appends before now text
all_written before now text rest end h =
    subst (Appends before now) (sym (h.1 ∙ ap (λ (l : List ℕ). h.0 ++ l) end ∙ append-nil h.0)) h.2

pub some_written : (before now : Option (List ℕ)) (text rest : List ℕ) → IsWrittenSoFar before now text rest → WritesSome before now text
some_written before now text rest h =
    (length h.0, subst (Appends before now) (sym (ap (take (length h.0)) h.1 ∙ take_at h.0 rest (length h.0) refl)) h.2)

-- What holds after any outcome holds after an error.
pub on_error : {X Y P : Type 0} (r : Result X Y) → P → OnErr r P
on_error (Ok x) p = tt
on_error (Err y) p = p
