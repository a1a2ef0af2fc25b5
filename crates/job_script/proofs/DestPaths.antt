-- Reading the text of a destination gives the destination, and a path that is read keeps the bounds.
use Rattle.text_and_lists.proofs.Bools.{not_so}
use Rattle.text_and_lists.proofs.Cuts.{no_return}
use Rattle.text_and_lists.proofs.Lists.{weaker}
use Rattle.text_and_lists.proofs.Pieces.{join_parts}
use Rattle.text_and_lists.proofs.Reading.{needed, parted, passed, same_ok}
use Rattle.text_and_lists.proofs.Split.{part_from}
use Rattle.text_and_lists.specs.Lines.{without_return}
use Rattle.text_and_lists.specs.Parts.{is_other, parts_of}
use Rattle.text_and_lists.specs.Reading.{need}
use Rattle.text_and_lists.specs.Words.{is_bare}
use Rattle.job_model.specs.Legal.{IsDest, IsScriptWord}
use Rattle.job_model.specs.Paths.{is_dest_key}
use Rattle.job_script.proofs.Lines.{IsLast}
use Rattle.job_script.proofs.Words.{IsClean, clean_cut, clean_end, literal_word, script_word}
use Rattle.job_script.specs.HeadLines.{path_text}
use Rattle.path_keys.proofs.Ends.{no_end}
use Rattle.path_keys.proofs.Faults.{key_is, key_of_text, text_fits}
use Rattle.path_keys.proofs.Keys.{some_key}
use Rattle.path_keys.proofs.Last.{parts_round}
use Rattle.path_keys.specs.Paths.{Path, bucket_in, element_fault, first_fault, is_key, key_of, named, path_in, without_scheme}
use Rattle.path_keys.specs.declared.fault.PathFault.{PathFault}
use Rattle.path_keys.specs.declared.fault.PathFault.TheVariants.{BadBucket, BadScheme, TooLong}
use Rattle.s3_types.proofs.Utf8.{bucket_utf8}
use Rattle.s3_types.specs.Names.{is_bucket, is_element, is_name_byte, trimmed}
use Rattle.std.proofs.Common.{List, None, Ok, Option, Some, ap, append_assoc, arith, drop, false, length, not, refl, subst, sym, true}
use Rattle.std.proofs.Common.{true≢false, ℕ, [], ◌++◌, ◌<◌, ◌∙◌, ◌∷◌, ◌≡◌, ◌≢◌}
use Rattle.std.proofs.lemmas.Bool.{and_parts, leb-true}
use Rattle.std.proofs.lemmas.Bool.Decides.{Decides-eqb}
use Rattle.std.proofs.lemmas.List.Folds.{list_all-append}
use Rattle.std.proofs.lemmas.Option.{cond_some}
use Rattle.std.proofs.lemmas.Slice.Eq.{ends_is, starts_is}
use Rattle.std.proofs.lemmas.Str.{IsUtf8-append, IsUtf8-from_is_utf8, IsUtf8-nil, is_utf8-from_IsUtf8}
use Rattle.std.specs.List.{ends_with, join_with_byte, list_all, starts_with}
use Rattle.std.specs.Option.{option_or}
use Rattle.std.specs.Prelude.{codes, nat_eq, nat_le}

-- ---- reading a printed destination

bucket_bytes : (name : List ℕ) → is_bucket name ≡ true → list_all is_name_byte name ≡ true
bucket_bytes name h = (and_parts _ (list_all is_name_byte name) (and_parts _ _ (and_parts _ _ h).0).0).1

name_byte_bare : (b : ℕ) → is_name_byte b ≡ true → is_bare b ≡ true
name_byte_bare b h = grind arith

name_byte_other : (b : ℕ) → is_name_byte b ≡ true → is_other 47 b ≡ true
name_byte_other b h = grind arith

element_kept : (e : List ℕ) → is_element e ≡ true → element_fault e ≡ None
element_kept e h = grind arith

elements_kept : (es : List (List ℕ)) → list_all is_element es ≡ true → first_fault es ≡ None
elements_kept [] h = refl
elements_kept (e ∷ es) h = let p = and_parts (is_element e) (list_all is_element es) h in ap
    (λ (f : Option PathFault). option_or f (first_fault es)) (element_kept e p.0) ∙ elements_kept es p.1

key_again : (key : List ℕ) → 0 < length key → is_key key ≡ true → key_of (parts_of 47 key) ≡ Ok key
key_again key some h = let k = some_key key some h in text_fits key (sym (elements_kept (parts_of 47 key) k.0)) k.1

-- A key does not end in `/`.
no_slash_end : (key front : List ℕ) → 0 < length key → is_key key ≡ true → key ≢ front ++ 47 ∷ []
no_slash_end key front some h e =
    let k = some_key key some h in
    let all = sym (ap (list_all is_element) (parts_round key front [] e refl) ∙ list_all-append is_element (parts_of 47 front) ([] ∷ [])) ∙
    k.0 in
    let last : list_all is_element ([] ∷ []) ≡ true = (and_parts (list_all is_element (parts_of 47 front)) (list_all is_element ([] ∷ []))
    all).1 in
    absurd cc

-- If a text ends in a byte, so does its end.
cut_front : (xs : List ℕ) (x : ℕ) (ys front : List ℕ) (b : ℕ) → xs ++ x ∷ ys ≡ front ++ b ∷ [] → (back : List ℕ) × (x ∷ ys ≡ back ++ b ∷ [])
cut_front [] x ys front b e = (front, e)
cut_front (a ∷ []) x ys [] b e = absurd cc
cut_front (a ∷ c ∷ xs) x ys [] b e = absurd cc
cut_front (a ∷ xs) x ys (f ∷ front) b e = let k : xs ++ x ∷ ys ≡ front ++ b ∷ [] = cc in cut_front xs x ys front b k

whole_end : (xs key front : List ℕ) → 0 < length key → is_key key ≡ true → xs ++ key ≢ front ++ 47 ∷ []
whole_end xs [] front some h e = absurd (omega (arith, some))
whole_end xs (x ∷ ys) front some h e = let c = cut_front xs x ys front 47 e in no_slash_end (x ∷ ys) c.0 some h c.1

named_again : (p : Path) → is_bucket p.bucket ≡ true → 0 < length p.key → is_key p.key ≡ true
    → named (parts_of 47 (p.bucket ++ 47 ∷ p.key)) ≡ Ok p
named_again p b some k =
    let parts : parts_of 47 (p.bucket ++ 47 ∷ p.key) ≡ p.bucket ∷ parts_of 47 p.key = part_from 47 [] p.bucket p.key
    (weaker is_name_byte (is_other 47) name_byte_other p.bucket (bucket_bytes p.bucket b)) in
    ap named parts ∙ rw (b, key_again p.key some k) refl

pub key_some : (p : Path) → IsDest p → 0 < length p.key
key_some p h = omega (arith, leb-true 1 (length p.key) (and_parts _ _ (and_parts _ _ (and_parts _ _ h.below).0).0).0)

-- Reading the text of a script's destination gives the destination.
pub path_again : (p : Path) → IsDest p → path_in (path_text p) ≡ Ok p
path_again p h =
    let some = key_some p h in
    let whole : p.bucket ++ 47 ∷ p.key ≡ trimmed (p.bucket ++ 47 ∷ p.key) = no_end (p.bucket ++ 47 ∷ p.key)
    (λ front e. whole_end (p.bucket ++ 47 ∷ []) p.key front some h.key (append_assoc p.bucket (47 ∷ []) p.key ∙ e)) in
    ap (λ (l : List ℕ). named (parts_of 47 l)) (sym whole) ∙ named_again p h.bucket some h.key

pub path_word : (p : Path) → IsDest p → IsScriptWord (path_text p)
path_word p h =
    let bucket = IsUtf8-from_is_utf8 p.bucket (bucket_utf8 p.bucket h.bucket) in
    let key = IsUtf8-from_is_utf8 p.key h.word.0 in
    let scheme = IsUtf8-from_is_utf8 (codes "s3a://") (literal_word (codes "s3a://") refl).0 in
    let slash = IsUtf8-from_is_utf8 (47 ∷ []) (literal_word (47 ∷ []) refl).0 in
    let utf8 = IsUtf8-append (codes "s3a://") (p.bucket ++ 47 ∷ p.key) scheme
    (IsUtf8-append p.bucket (47 ∷ p.key) bucket (IsUtf8-append (47 ∷ []) p.key slash key)) in
    let name = weaker is_name_byte is_bare name_byte_bare p.bucket (bucket_bytes p.bucket h.bucket) in
    (is_utf8-from_IsUtf8 (path_text p) utf8, list_all-append is_bare p.bucket (47 ∷ p.key) ∙ rw (name, h.word.1) refl)

-- A word that does not end in CR may be the last word of a line.
ends_last : (w : List ℕ) → 0 < length w → ends_with nat_eq w (13 ∷ []) ≡ false → IsLast w
ends_last [] some h front = absurd (omega (arith, some))
ends_last (x ∷ xs) some h front = sym (no_return (front ++ x ∷ xs) (λ f e. let c = cut_front front x xs f 13 e in true≢false
    (sym ((ends_is Decides-eqb (x ∷ xs) (13 ∷ []) (ends_with nat_eq (x ∷ xs) (13 ∷ [])) refl).1 c.0 c.1) ∙ h)))

pub path_last : (p : Path) → IsDest p → IsLast (path_text p)
path_last p h front =
    let some = key_some p h in
    let kept = not_so (ends_with nat_eq p.key (13 ∷ [])) (and_parts _ (not (ends_with nat_eq p.key (13 ∷ []))) (and_parts _ _ h.below).0).1
    in
    let before = codes "s3a://" ++ (p.bucket ++ 47 ∷ []) in
    let split : path_text p ≡ before ++ p.key = ap (λ (l : List ℕ). codes "s3a://" ++ l) (sym (append_assoc p.bucket (47 ∷ []) p.key)) in
    let whole : front ++ path_text p ≡ (front ++ before) ++ p.key = ap (λ (l : List ℕ). front ++ l) split ∙ sym
    (append_assoc front before p.key) in
    ap without_return whole ∙ ends_last p.key some kept (front ++ before) ∙ sym whole

-- ---- what is read keeps the bounds

-- Holds if the path has a bucket and a key, and the key's bytes are those of a clean text.
pub record IsCleanPath (p : Path) : Type 0 where
  pub bucket : is_bucket p.bucket ≡ true
  pub key : is_key p.key ≡ true
  pub clean : IsClean is_bare p.key

key_at : (rest x : List ℕ) (f : Option PathFault) → f ≡ first_fault (parts_of 47 rest) → key_of (parts_of 47 rest) ≡ Ok x
    → (is_key x ≡ true) × (rest ≡ x)
key_at rest x None e h =
    let p = passed (nat_le (length rest) 1023) TooLong rest x (sym (key_of_text rest None e) ∙ h) in
    (subst (λ (l : List ℕ). is_key l ≡ true) p.1 (key_is rest e (leb-true (length rest) 1023 p.0)), p.1)
key_at rest x (Some f) e h = let k = sym (key_of_text rest (Some f) e) ∙ h in absurd cc

-- The elements after the bucket's name are the parts of a clean text, so they make a clean key.
key_sound : (text name : List ℕ) (elements : List (List ℕ)) (key : List ℕ) → IsClean is_bare text → is_bucket name ≡ true
    → parts_of 47 text ≡ name ∷ elements → key_of elements ≡ Ok key → (is_key key ≡ true) × IsClean is_bare key
key_sound text name [] key c b e h = subst (λ (x : List ℕ). (is_key x ≡ true) × IsClean is_bare x) (same_ok [] key h)
    (refl, record { utf8 = IsUtf8-nil; all = refl })
key_sound text name (x ∷ xs) key c b e h =
    let rest = join_with_byte 47 (x ∷ xs) in
    let whole : text ≡ name ++ 47 ∷ rest = sym (join_parts 47 text) ∙ ap (join_with_byte 47) e in
    let parts : name ∷ x ∷ xs ≡ name ∷ parts_of 47 rest = sym e ∙ ap (parts_of 47) whole ∙ part_from 47 [] name rest
    (weaker is_name_byte (is_other 47) name_byte_other name (bucket_bytes name b)) in
    let same : x ∷ xs ≡ parts_of 47 rest = cc in
    let k = key_at rest key (first_fault (parts_of 47 rest)) refl (sym (ap key_of same) ∙ h) in
    (k.0, subst (IsClean is_bare) k.1 (clean_cut is_bare 47 name rest (omega arith) (subst (IsClean is_bare) whole c)).1)

named_sound : (text : List ℕ) (parts : List (List ℕ)) (p : Path) → IsClean is_bare text → parts_of 47 text ≡ parts → named parts ≡ Ok p
    → IsCleanPath p
named_sound text [] p c e h = absurd cc
named_sound text (name ∷ elements) p c e h =
    let b = parted (bucket_in name) _ p h in
    let k = parted (key_of elements) _ p b.next in
    let is = passed (is_bucket name) BadBucket name b.value b.first in
    let key = key_sound text name elements k.value c is.0 e k.first in
    subst IsCleanPath (same_ok (record { bucket = b.value; key = k.value }) p k.next)
    (record { bucket = subst (λ (l : List ℕ). is_bucket l ≡ true) is.1 is.0; key = key.0; clean = key.1 })

scheme_clean : (text : List ℕ) → IsClean is_bare text → (rest : List ℕ) → without_scheme text ≡ Some rest → IsClean is_bare rest
scheme_clean text c rest h =
    let p = cond_some (starts_with nat_eq text (codes "s3a://")) (drop 6 text) rest h in
    let whole = (starts_is Decides-eqb text (codes "s3a://") (starts_with nat_eq text (codes "s3a://")) refl).0 p.0 in
    let halves = clean_cut is_bare 47 (codes "s3a:/") (drop 6 text) (omega arith) (subst (IsClean is_bare) whole c) in
    subst (IsClean is_bare) p.1 halves.1

-- A path that was read has a bucket and a key, whose bytes are those of the text.
pub path_sound : (text : List ℕ) (p : Path) → IsClean is_bare text → path_in text ≡ Ok p → IsCleanPath p
path_sound text p c h =
    let a = parted (need (without_scheme text) BadScheme) _ p h in
    let rest = scheme_clean text c a.value (needed (without_scheme text) BadScheme a.value a.first) in
    named_sound (trimmed a.value) (parts_of 47 (trimmed a.value)) p (clean_end is_bare 47 a.value (omega arith) rest) refl a.next

pub dest_legal : (p : Path) → IsCleanPath p → is_dest_key p.key ≡ true → IsDest p
dest_legal p c below = record { bucket = c.bucket; key = c.key; below = below; word = script_word p.key c.clean }
