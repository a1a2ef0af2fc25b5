-- The records and sets that attempts put are within their bounds, so they are read as they were written.
use Rattle.text_and_lists.proofs.Counts.{some_part}
use Rattle.text_and_lists.proofs.Lists.{one_byte}
use Rattle.text_and_lists.proofs.Members.{nat_true, same_or_other, text_false, text_true}
use Rattle.text_and_lists.proofs.Pieces.{join_parts}
use Rattle.text_and_lists.proofs.Utf8.{utf8_cut}
use Rattle.text_and_lists.specs.Members.{IsIn}
use Rattle.text_and_lists.specs.Parts.{parts_of}
use Rattle.hex.specs.Hex.{IsBytes}
use Rattle.job_invariant.proofs.Cut.{parts_few, parts_joined, parts_some}
use Rattle.job_invariant.proofs.Legal.{files_are, from_script, given_of, is_attempt, some_dest, written}
use Rattle.job_invariant.proofs.Placed.{key_file}
use Rattle.job_invariant.specs.Facts.{AreCommits, Facts, IsAttempt, IsWritten, knowing}
use Rattle.job_invariant.specs.Told.{Told}
use Rattle.job_model.proofs.Unique.{Cut, cut_id, id_bytes, unique_parts}
use Rattle.job_model.specs.Attempts.{Declared, Who, same_name}
use Rattle.job_model.specs.Files.{File}
use Rattle.job_model.specs.JobScript.{Script}
use Rattle.job_model.specs.Known.{Drawn}
use Rattle.job_model.specs.Legal.{IsGiven, IsLegal, bytes_in, bytes_of}
use Rattle.job_model.specs.Paths.{begins_hidden, is_full}
use Rattle.job_model.specs.Placed.{path_of, placed, unique_name, with_id, with_id_last}
use Rattle.job_protocol.proofs.Sizes.{sizes_told}
use Rattle.job_protocol.specs.Knowledge.{drawn_in}
use Rattle.job_protocol.specs.Outputs.{files}
use Rattle.job_protocol.specs.Records.{file_key, file_record, files_set}
use Rattle.job_protocol.specs.Uploading.{file_parts}
use Rattle.magic_paths.proofs.Tails.{below_is}
use Rattle.md5.specs.Md5.{digest_bytes, md5}
use Rattle.path_keys.proofs.Beneath.{below_elements, key_path_from}
use Rattle.path_keys.specs.Paths.{below}
use Rattle.pending_json.proofs.RoundTrip.{pending_text, set_text}
use Rattle.pending_json.specs.Pending.{are_sizes}
use Rattle.pending_json.specs.Records.{IsPending}
use Rattle.pending_json.specs.Trees.{pending_tree, set_tree}
use Rattle.s3_types.proofs.Digits.{encoded_hex, plain_tag_length}
use Rattle.s3_types.specs.Names.{are_elements, is_element, is_id_byte, is_job_id}
use Rattle.s3_types.specs.Store.{Scene}
use Rattle.s3_types.specs.Tags.{is_hex, is_plain_tag, plain_tag}
use Rattle.serde_json.specs.Written.{compact_text}
use Rattle.std.proofs.Common.{Bool, List, Ok, Option, Some, ap, arith, cond, eq-eqb, false, inl, inr, length, length-append, map, nat_le}
use Rattle.std.proofs.Common.{refl, subst, suc, sym, true, zero, ℕ, [], ◌++◌, ◌+◌, ◌<◌, ◌^◌, ◌∙◌, ◌∷◌, ◌≡◌, ◌≤◌}
use Rattle.std.proofs.lemmas.Bool.{and_parts, le-leb, leb-true, or_parts}
use Rattle.std.proofs.lemmas.Bool.Decides.{nat_tests}
use Rattle.std.proofs.lemmas.List.{append-nil, length-map, take_all}
use Rattle.std.proofs.lemmas.List.Sums.{sum_by-cons}
use Rattle.std.proofs.lemmas.Str.{IsUtf8-append, IsUtf8-from_ascii, IsUtf8-from_is_utf8, is_utf8-from_IsUtf8}
use Rattle.std.proofs.lemmas.Str.Ascii.{IsAscii-cons, IsAscii-nil}
use Rattle.std.specs.Cmp.Derive.{both_true}
use Rattle.std.specs.Int.{to_le_bytes, w32}
use Rattle.std.specs.List.{AllByRecursion, flat_map, join_with_byte, list_all, list_any, sum}
use Rattle.std.specs.Map.{lookup}
use Rattle.std.specs.Option.{unwrap_or}
use Rattle.std.specs.Prelude.{slice_index}
use Rattle.std.specs.Str.{IsAscii, IsUtf8, is_utf8}
use Rattle.pending_json.specs.Reading as reading
use Rattle.s3_types.specs.Names as names

-- ---- the keys of an attempt's files are keys, also where their names are made unique to the job

-- ---- elements

element_so : (e : List ℕ) → is_full e ≡ true → begins_hidden e ≡ false → is_element e ≡ true
element_so e h g = grind arith

elements_so : (es : List (List ℕ)) → list_all is_full es ≡ true → list_any begins_hidden es ≡ false → list_all is_element es ≡ true
elements_so [] full h = refl
elements_so (e ∷ es) full h =
    let p = and_parts (is_full e) (list_all is_full es) full in
    let q = or_parts (begins_hidden e) (list_any begins_hidden es) h in
    rw (element_so e p.0 q.0, elements_so es p.1 q.1) refl

-- An element with the id is still an element.
named_so : (id e : List ℕ) → is_full e ≡ true → begins_hidden e ≡ false → is_element (with_id id e) ≡ true
named_so id e h g = grind arith

lasts_so : (id : List ℕ) (es : List (List ℕ)) → list_all is_full es ≡ true → list_any begins_hidden es ≡ false
    → list_all is_element (with_id_last id es) ≡ true
lasts_so id [] full h = refl
lasts_so id (e ∷ []) full h = rw (named_so id e (and_parts (is_full e) true full).0 (or_parts (begins_hidden e) false h).0) refl
lasts_so id (e ∷ f ∷ es) full h =
    let p = and_parts (is_full e) (list_all is_full (f ∷ es)) full in
    let q = or_parts (begins_hidden e) (list_any begins_hidden (f ∷ es)) h in
    rw (element_so e p.0 q.0, lasts_so id (f ∷ es) p.1 q.1) refl

pub full_parts : (p : List ℕ) → IsGiven p → list_all is_full (parts_of 47 p) ≡ true
full_parts p g = (and_parts _ _ (and_parts _ _ g.stated).0).1

placed_elements : (unique : Bool) (id p : List ℕ) → is_job_id id ≡ true → IsGiven p → are_elements (path_of unique id p) ≡ true
placed_elements true id p job g = ap (list_all is_element) (unique_parts id p (id_bytes id job)) ∙ lasts_so id (parts_of 47 p)
    (full_parts p g) g.shown
placed_elements false id p job g = elements_so (parts_of 47 p) (full_parts p g) g.shown

-- ---- lengths

with_id_long : (id x : List ℕ) → length (with_id id x) ≡ length x + (length id + 1)
with_id_long id x =
    let c = cut_id id x in
    ap length c.made ∙ simp length-append (long c) ∙ ap (λ n. n + (length id + 1)) (sym (ap length c.is ∙ length-append c.front c.rest))
  where
    long : (c : Cut id x) → length c.front + length (45 ∷ id) + length c.rest ≡ length c.front + length c.rest + (length id + 1)
    long c = omega arith

joined_long : (id e : List ℕ) (es : List (List ℕ))
    → length (join_with_byte 47 (with_id_last id (e ∷ es))) ≡ length (join_with_byte 47 (e ∷ es)) + (length id + 1)
joined_long id e [] = with_id_long id e
joined_long id e (f ∷ []) =
    let old : length (with_id id f) ≡ length f + (length id + 1) = with_id_long id f in
    simp length-append (omega (arith, old))
joined_long id e (f ∷ g ∷ es) =
    let old : length (join_with_byte 47 (with_id_last id (f ∷ g ∷ es))) ≡ length (join_with_byte 47 (f ∷ g ∷ es)) + (length id + 1) =
    joined_long id f (g ∷ es) in
    length-append e (47 ∷ join_with_byte 47 (with_id_last id (f ∷ g ∷ es))) ∙ next e (join_with_byte 47 (with_id_last id (f ∷ g ∷ es)))
    (join_with_byte 47 (f ∷ g ∷ es)) old
    ∙ ap (λ n. n + (length id + 1)) (sym (length-append e (47 ∷ join_with_byte 47 (f ∷ g ∷ es))))
  where
    next : (e x y : List ℕ) → length x ≡ length y + (length id + 1)
        → length e + length (47 ∷ x) ≡ length e + length (47 ∷ y) + (length id + 1)
    next e x y h = omega arith

unique_long : (id p : List ℕ) → length (unique_name p id) ≡ length p + (length id + 1)
unique_long id p =
    let f = some_part 47 [] p in
    ap (λ es. length (join_with_byte 47 (with_id_last id es))) f.2 ∙ joined_long id f.0 f.1 ∙ ap (λ n. n + (length id + 1))
    (ap (λ es. length (join_with_byte 47 es)) (sym f.2) ∙ ap length (join_parts 47 p))

short_path : (p : List ℕ) → IsGiven p → length p ≤ 400
short_path p g = leb-true (length p) 400 (and_parts (nat_le 1 (length p)) (nat_le (length p) 400)
    (and_parts _ _ (and_parts _ _ g.stated).0).0).1

placed_short : (unique : Bool) (id p : List ℕ) → is_job_id id ≡ true → IsGiven p → length (path_of unique id p) ≤ 465
placed_short unique id p h g = grind (arith, short_path, leb-true, and_parts, unique_long)

-- ---- UTF-8

id_ascii : (bs : List ℕ) → list_all is_id_byte bs ≡ true → IsAscii bs
id_ascii [] h = IsAscii-nil
id_ascii (b ∷ bs) h =
    let p = and_parts (is_id_byte b) (list_all is_id_byte bs) h in
    let one : is_id_byte b ≡ true = p.0 in
    IsAscii-cons b bs (grind (arith, nat_tests)) (id_ascii bs p.1)

pub id_utf8 : (id : List ℕ) → is_job_id id ≡ true → IsUtf8 id
id_utf8 id h = IsUtf8-from_ascii id (id_ascii id (id_bytes id h))

with_id_utf8 : (id x : List ℕ) → IsUtf8 id → IsUtf8 x → IsUtf8 (with_id id x)
with_id_utf8 id x i h =
    let c = cut_id id x in
    let both : IsUtf8 c.front × IsUtf8 c.rest = elim c.ends [
      | inl none ↦ (
        subst IsUtf8 (c.is ∙ ap (λ (l : List ℕ). c.front ++ l) none ∙ append-nil c.front) h,
        subst IsUtf8 (sym none)
            (IsUtf8-from_ascii [] IsAscii-nil),
      )
      | inr dot ↦
          let y = utf8_cut 46 c.front dot.0 (omega arith) (subst IsUtf8 (c.is ∙ ap (λ (l : List ℕ). c.front ++ l) dot.1) h) in
          (y.0, subst IsUtf8 (sym dot.1) (IsUtf8-append (46 ∷ []) dot.0 (one_byte 46 (omega arith)) y.1))
    ] in
    subst IsUtf8 (sym c.made) (IsUtf8-append (c.front ++ 45 ∷ id) c.rest (IsUtf8-append c.front (45 ∷ id) both.0
    (IsUtf8-append (45 ∷ []) id (one_byte 45 (omega arith)) i)) both.1)

lasts_utf8 : (id e : List ℕ) (es : List (List ℕ)) → IsUtf8 id → IsUtf8 (join_with_byte 47 (e ∷ es))
    → IsUtf8 (join_with_byte 47 (with_id_last id (e ∷ es)))
lasts_utf8 id e [] i h = with_id_utf8 id e i h
lasts_utf8 id e (f ∷ []) i h =
    let c = utf8_cut 47 e f (omega arith) h in
    IsUtf8-append e (47 ∷ with_id id f) c.0 (IsUtf8-append (47 ∷ []) (with_id id f) (one_byte 47 (omega arith)) (with_id_utf8 id f i c.1))
lasts_utf8 id e (f ∷ g ∷ es) i h =
    let c = utf8_cut 47 e (join_with_byte 47 (f ∷ g ∷ es)) (omega arith) h in
    IsUtf8-append e (47 ∷ join_with_byte 47 (with_id_last id (f ∷ g ∷ es))) c.0
    (IsUtf8-append (47 ∷ []) (join_with_byte 47 (with_id_last id (f ∷ g ∷ es))) (one_byte 47 (omega arith))
    (lasts_utf8 id f (g ∷ es) i c.1))

placed_utf8 : (unique : Bool) (id p : List ℕ) → is_job_id id ≡ true → IsGiven p → IsUtf8 (path_of unique id p)
placed_utf8 true id p job g =
    let f = some_part 47 [] p in
    let whole : IsUtf8 (join_with_byte 47 (f.0 ∷ f.1)) = subst IsUtf8 (sym (ap (join_with_byte 47) (sym f.2) ∙ join_parts 47 p))
    (IsUtf8-from_is_utf8 p g.word.0) in
    subst (λ es. IsUtf8 (join_with_byte 47 (with_id_last id es))) (sym f.2) (lasts_utf8 id f.0 f.1 (id_utf8 id job) whole)
placed_utf8 false id p job g = IsUtf8-from_is_utf8 p g.word.0

-- ---- keys

pub file_is_key : {w : Script} → IsLegal w → (a : Who) (f : File) → IsIn f (files w a) → names.is_key (file_key w f) ≡ true
file_is_key {w = w} j a f i =
    let g = from_script w a f i in
    let h = given_of j a f i in
    let same : f.0 ≡ path_of w.unique w.job g.given.0 = ap (λ (x : File). x.0) g.is in
    let key : names.is_key (below w.dest.key (path_of w.unique w.job g.given.0)) ≡ true = placed_key (path_of w.unique w.job g.given.0)
    (placed_short w.unique w.job g.given.0 j.job h) (placed_utf8 w.unique w.job g.given.0 j.job h)
    (placed_elements w.unique w.job g.given.0 j.job h) in
    ap (λ p. names.is_key (below w.dest.key p)) same ∙ key
  where
    placed_key : (p : List ℕ) → length p ≤ 465 → IsUtf8 p → are_elements p ≡ true → names.is_key (below w.dest.key p) ≡ true
    placed_key p short text elements =
        let d = j.dest in
        let low : length w.dest.key ≤ 400 = leb-true (length w.dest.key) 400 (and_parts (nat_le 1 (length w.dest.key))
        (nat_le (length w.dest.key) 400) (and_parts _ _ (and_parts _ _ d.below).0).0).1 in
        let is : below w.dest.key p ≡ w.dest.key ++ 47 ∷ p = below_is w.dest.key p (some_dest j) in
        let long : length (below w.dest.key p) ≤ 1024 = subst (λ (l : List ℕ). length l ≤ 1024) (sym is)
        (simp length-append (omega (arith, low, short))) in
        let utf8 : IsUtf8 (w.dest.key ++ 47 ∷ p) = IsUtf8-append w.dest.key (47 ∷ p) (IsUtf8-from_is_utf8 w.dest.key d.word.0)
        (IsUtf8-append (47 ∷ []) p (one_byte 47 (omega arith)) text) in
        both_true (ap is_utf8 is ∙ is_utf8-from_IsUtf8 (w.dest.key ++ 47 ∷ p) utf8)
        (key_path_from (below w.dest.key p) (below_elements w.dest.key p d.key elements) long)

-- ---- lengths of files

in_bytes : (fs : List File) (f : File) → IsIn f fs → length f.1 ≤ bytes_of fs
in_bytes [] f i = absurd i
in_bytes (g ∷ fs) f (inl e) = let same : length f.1 ≡ length g.1 = ap (λ (x : File). length x.1) e in omega arith
in_bytes (g ∷ fs) f (inr i) = let old = in_bytes fs f i in omega arith

in_attempts : (es : List Declared) (a : Who) → bytes_of (unwrap_or (lookup (same_name a) es) []) ≤ bytes_in es
in_attempts [] a = omega arith
in_attempts (e ∷ es) a =
    let old = in_attempts es a in
    elim (same_name a e.0) as (λ b. bytes_of (unwrap_or (cond b (Some e.1) (lookup (same_name a) es)) []) ≤ bytes_of e.1 + bytes_in es)
    [ true ↦ omega arith | false ↦ omega arith ]

placed_bytes : (u : Bool) (id : List ℕ) (fs : List File) → bytes_of (placed u id fs) ≡ bytes_of fs
placed_bytes u id [] = refl
placed_bytes u id (f ∷ fs) = ap (λ n. length f.1 + n) (placed_bytes u id fs)

short_file : {w : Script} → IsLegal w → (a : Who) (f : File) → IsIn f (files w a) → length f.1 < 2 ^ 64
short_file {w = w} j a f i =
    let one : length f.1 ≤ bytes_of (files w a) = in_bytes (files w a) f i in
    let same : bytes_of (files w a) ≡ bytes_of (written w a) = ap bytes_of (files_are w a) ∙ placed_bytes w.unique w.job (written w a) in
    let all : bytes_of (written w a) ≤ bytes_in w.attempts = in_attempts w.attempts a in
    let few : bytes_in w.attempts ≤ 67108864 = j.few_bytes in
    omega arith

-- ---- tags

-- Each is a byte.
abbrev Small : List ℕ → Type 0
Small [] = Unit {0}
Small (b ∷ bs) = (b < 256) × Small bs

small_append : (xs ys : List ℕ) → Small xs → Small ys → Small (xs ++ ys)
small_append [] ys h g = g
small_append (x ∷ xs) ys h g = (h.0, small_append xs ys h.1 g)

small_bytes : (xs : List ℕ) → Small xs → IsBytes xs
small_bytes [] h i = omega arith
small_bytes (x ∷ xs) h zero = h.0
small_bytes (x ∷ xs) h (suc i) = small_bytes xs h.1 i

digest_small : (h : List ℕ) (n : ℕ) → Small (digest_bytes h n)
unfolding digest_bytes
digest_small h zero = tt
digest_small h (suc n) = small_append (digest_bytes h n) (to_le_bytes w32 (slice_index h n)) (digest_small h n) (word (slice_index h n))
  where
    word : (x : ℕ) → Small (to_le_bytes w32 x)
    word x = (omega arith, (omega arith, (omega arith, (omega arith, tt))))

md5_bytes : (m : List ℕ) → IsBytes (md5 m)
unfolding md5
md5_bytes m = small_bytes _ (digest_small _ 4)

plain_hex : (bytes : List ℕ) → (list_all is_hex (plain_tag bytes).digits ≡ true) × ((plain_tag bytes).parts ≡ 0)
unfolding plain_tag
plain_hex bytes = (encoded_hex (md5 bytes) (md5_bytes bytes), refl)

pub plain_so : (bytes : List ℕ) → is_plain_tag (plain_tag bytes) ≡ true
plain_so bytes = both_true (both_true (nat_true (length (plain_tag bytes).digits) 32 (plain_tag_length bytes)) (plain_hex bytes).0)
    (nat_true (plain_tag bytes).parts 0 (plain_hex bytes).1)

all_plain : (bs : List (List ℕ)) → list_all is_plain_tag (map plain_tag bs) ≡ true
all_plain [] = refl
all_plain (b ∷ bs) = rw (plain_so b, all_plain bs) refl

-- ---- sizes

sum_lengths : (bs : List (List ℕ)) → sum (map length bs) ≡ length (flat_map (λ b. b) bs)
sum_lengths [] = refl
sum_lengths (b ∷ bs) = sum_by-cons (λ x. x) (length b) (map length bs) ∙ ap (λ n. length b + n) (sum_lengths bs) ∙ sym
    (length-append b (flat_map (λ b. b) bs))

-- ---- the upload that is known for a key

known_in : (ds : List Drawn) (x : Drawn) → IsIn x ds → ((d : Drawn) → IsIn d ds → d.key ≡ x.key → d ≡ x) → drawn_in ds x.key ≡ x
known_in [] x i once = absurd i
known_in (d ∷ ds) x i once = elim (same_or_other d.key x.key) [
  | inl is ↦ ap (λ b. cond b d (drawn_in ds x.key)) (text_true d.key x.key is) ∙ once d (inl refl) is
  | inr ne ↦ ap (λ b. cond b d (drawn_in ds x.key)) (text_false d.key x.key ne) ∙ elim i [
    | inl e ↦ absurd (ne (ap (λ (v : Drawn). v.key) (sym e)))
    | inr old ↦ known_in ds x old (λ y h. once y (inr h))
  ]
]

pub drawn_is : {w : Script} {minimum : ℕ} {s : Scene} {last : ℕ → Option ℕ} {m : Told} → Facts w minimum s last m → (a : Who) (x : Drawn)
    → IsIn x (m.drawn a) → drawn_in (m.drawn a) x.key ≡ x
drawn_is {m = m} f a x i = known_in (m.drawn a) x i (λ d k e. f.ids.once a d x k i e)

-- ---- records

module _ {w : Script} {minimum : ℕ} {s : Scene} {last : ℕ → Option ℕ} {m : Told} (j : IsLegal w) (f : Facts w minimum s last m) where
  -- A known upload of a file is of that file, and has all its tags and sizes if the file is written.
  pub written_tags : (a : Who) (g : File) → IsIn g (files w a) → (x : IsWritten w minimum (m.drawn a) g)
      → (x.drawn.tags ≡ map plain_tag (file_parts w minimum g)) × (x.drawn.sizes ≡ map length (file_parts w minimum g))
  written_tags a g i x =
      let o = f.owned a x.drawn x.known in
      let same : o.file ≡ g = key_file j a o.file g o.mine i (sym o.key ∙ x.key) in
      let P : File → Type 0 = λ v. length x.drawn.tags ≡ length (file_parts w minimum v) in
      let all : length x.drawn.tags ≡ length (file_parts w minimum o.file) = subst P (sym same) x.complete in (
        o.tags ∙ ap (map plain_tag) (take_all (length x.drawn.tags) (file_parts w minimum o.file) (omega (arith, all))) ∙ ap
            (λ v. map plain_tag (file_parts w minimum v)) same,
        o.sizes ∙ ap (map length) (take_all (length x.drawn.tags) (file_parts w minimum o.file) (omega (arith, all))) ∙ ap
            (λ v. map length (file_parts w minimum v)) same,
      )

  -- The sizes fit the file's record.
  pub written_sizes : (a : Who) (g : File) → IsIn g (files w a) → (x : IsWritten w minimum (m.drawn a) g)
      → are_sizes (Some x.drawn.sizes) x.drawn.tags (length g.1) ≡ true
  written_sizes a g i x =
      let both = written_tags a g i x in
      let all : length x.drawn.tags ≡ length (file_parts w minimum g) = x.complete in
      let many : length x.drawn.sizes ≡ length x.drawn.tags = ap length both.1 ∙ length-map (file_parts w minimum g) length ∙ sym all in
      let total : sum x.drawn.sizes ≡ length g.1 = ap sum both.1 ∙ sum_lengths (file_parts w minimum g) ∙ ap length
      (parts_joined w minimum g) in
      both_true (eq-eqb (length x.drawn.sizes) (length x.drawn.tags) many) (eq-eqb (sum x.drawn.sizes) (length g.1) total)

  module _ (few : s.content.next ≤ 2 ^ 64) where
    pub legal_record : (a : Who) (g : File) → IsIn g (files w a) → (x : IsWritten w minimum (m.drawn a) g)
        → IsPending (file_record w a g x.drawn)
    legal_record a g i x =
        let d = is_attempt j a g i in
        let t : a.task < w.tasks = d.task in
        let n : w.tasks ≤ 1000 = j.tasks in
        let o : a.attempt ≤ 99 = d.attempt in
        let up : x.drawn.upload < s.content.next = f.ids.below a x.drawn x.known in
        let some : 1 ≤ length (file_parts w minimum g) = parts_some w minimum g in
        let most : length (file_parts w minimum g) ≤ 10000 = parts_few w minimum g in
        let all : length x.drawn.tags ≡ length (file_parts w minimum g) = x.complete in
        let plain : list_all is_plain_tag x.drawn.tags ≡ true = ap (list_all is_plain_tag) (written_tags a g i x).0 ∙ all_plain
        (file_parts w minimum g) in
        record {
          task = omega arith;
          attempt = omega arith;
          bucket = j.dest.bucket;
          destination = file_is_key j a g i;
          upload = omega arith;
          length = short_file j a g i;
          tags = both_true (both_true (le-leb 1 (length x.drawn.tags) (omega arith)) (le-leb (length x.drawn.tags) 10000 (omega arith)))
              plain;
          sizes = sizes_told w.committer x.drawn.sizes x.drawn.tags (length g.1) (written_sizes a g i x);
        }

    -- A record's text is read as the record.
    pub record_read : (a : Who) (g : File) → IsIn g (files w a) → (x : IsWritten w minimum (m.drawn a) g)
        → reading.pending_of (compact_text (pending_tree (file_record w a g x.drawn))) ≡ Ok (file_record w a g x.drawn)
    record_read a g i x = pending_text (file_record w a g x.drawn) (legal_record a g i x)

    all_pending : (a : Who) (cs : List File) → ((g : File) → IsIn g cs → IsIn g (files w a))
        → ((g : File) → IsIn g (files w a) → IsWritten w minimum (m.drawn a) g)
        → AllByRecursion IsPending (map (λ g. file_record w a g (drawn_in (m.drawn a) (file_key w g))) cs)
    all_pending a [] each known_all = tt
    all_pending a (g ∷ cs) each known_all =
        let i = each g (inl refl) in
        let x = known_all g i in
        let is : drawn_in (m.drawn a) (file_key w g) ≡ x.drawn = ap (drawn_in (m.drawn a)) (sym x.key) ∙ drawn_is f a x.drawn x.known in
        (subst (λ d. IsPending (file_record w a g d)) (sym is) (legal_record a g i x), all_pending a cs (λ h k. each h (inr k)) known_all)

    -- A set's text is read as the set.
    pub set_read : (a : Who) (cs : List File) → IsAttempt w a → AreCommits w minimum (m.drawn a) a cs
        → reading.set_of (compact_text (set_tree (files_set w a cs (knowing (m.drawn a))))) ≡ Ok (files_set w a cs (knowing (m.drawn a)))
    set_read a cs d are =
        let t : a.task < w.tasks = d.task in
        let n : w.tasks ≤ 1000 = j.tasks in
        let o : a.attempt ≤ 99 = d.attempt in
        set_text (files_set w a cs (knowing (m.drawn a))) (record {
          job = is_utf8-from_IsUtf8 w.job (id_utf8 w.job j.job);
          task = omega arith;
          attempt = omega arith;
          commits = all_pending a cs are.each are.written;
        })
