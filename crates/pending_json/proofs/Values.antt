-- The tree of a value of each kind, and how reading it gives the value.
use Rattle.text_and_lists.proofs.Options.{end_of}
use Rattle.text_and_lists.proofs.Reading.{parted, passed, same_ok}
use Rattle.pending_json.specs.Committers.{committer_among, committer_of, committer_word, committers}
use Rattle.pending_json.specs.Fields.{all_of, as_committer, as_sizes, as_tag, as_tags, as_texts, as_u32, as_whole, as_word, field, is_count}
use Rattle.pending_json.specs.Fields.{is_sized, is_tag_text, kept, of_kind, present, sizes_in, tag_of, version_in}
use Rattle.pending_json.specs.Pending.{are_tags, fit}
use Rattle.pending_json.specs.Trees.{tag_digits, texts, version_of, whole, wholes}
use Rattle.pending_json.specs.declared.fault.RecordFault.{RecordFault}
use Rattle.pending_json.specs.declared.fault.RecordFault.TheVariants.{WrongVersion}
use Rattle.s3_types.specs.Tags.{Spelled, is_plain_tag}
use Rattle.s3_types.specs.declared.request.Committer.{Committer}
use Rattle.s3_types.specs.declared.request.Committer.TheVariants.{Magic}
use Rattle.serde_json.specs.Data.{Data, Items, Members, array, item, no_items, number, object, string, unsigned}
use Rattle.serde_json.specs.Find.{as_array, as_object, as_str, get}
use Rattle.serde_json.specs.View.{items_of}
use Rattle.std.proofs.Common.{Bool, Err, List, None, Ok, Option, Result, Some, ap, ap₂, bytes_eq, codes, cond, false, is_some, leb, length}
use Rattle.std.proofs.Common.{ltb, map, option_and_then, option_map, refl, subst, sym, true, ℕ, [], ◌&&◌, ◌<◌, ◌==◌, ◌^◌, ◌∙◌, ◌∷◌, ◌≡◌}
use Rattle.std.proofs.lemmas.Bool.{and_parts, eqb-true, ltb-true}
use Rattle.std.proofs.lemmas.Option.{cond_some, option_and_then_some, same_Some}
use Rattle.std.proofs.lemmas.Slice.Eq.{bytes_eq-Decides}
use Rattle.std.specs.List.{list_all}

-- ---- steps that gave a value

pub of_kind_ok : {A : Type 0} (name : List ℕ) (o : Option A) (x : A) → of_kind name o ≡ Ok x → o ≡ Some x
of_kind_ok name None x e = absurd cc
of_kind_ok name (Some y) x e = cc

present_ok : (name : List ℕ) (o : Option Data) (x : Data) → present name o ≡ Ok x → o ≡ Some x
present_ok name None x e = absurd cc
present_ok name (Some y) x e = cc

pub field_ok : {A : Type 0} (kind : Data → Option A) (name : List ℕ) (d : Data) (x : A) → field kind name d ≡ Ok x → (v : Data)
    × (get name d ≡ Some v) × (kind v ≡ Some x)
field_ok kind name d x e =
    let p = parted (present name (get name d)) (λ v. of_kind name (kind v)) x e in
    (p.value, present_ok name _ _ p.first, of_kind_ok name _ _ p.next)

-- ---- kinds

pub is_number : (v : Data) (n : ℕ) → as_whole v ≡ Some n → v ≡ whole n
is_number (number (unsigned m)) n e = cc
is_number v n e = absurd cc

pub is_string : (v : Data) (s : List ℕ) → as_str v ≡ Some s → v ≡ string s
is_string (string t) s e = cc
is_string v s e = absurd cc

pub is_array : (v : Data) (ds : Items) → as_array v ≡ Some ds → v ≡ array ds
is_array (array ds) s e = cc
is_array v s e = absurd cc

pub is_an_object : (v : Data) (ms : Members) → as_object v ≡ Some ms → v ≡ object ms
is_an_object (object ms) s e = cc
is_an_object v s e = absurd cc

kept_ok : {A : Type 0} (test : A → Bool) (x y : A) → kept test x ≡ Some y → (x ≡ y) × (test y ≡ true)
kept_ok test x y e = let p = cond_some (test x) x y e in (p.1, subst (λ z. test z ≡ true) p.1 p.0)

pub is_u32 : (v : Data) (n : ℕ) → as_u32 v ≡ Some n → (v ≡ whole n) × (n < 2 ^ 32)
is_u32 v n e = option_and_then_some (kept (λ m. ltb m (2 ^ 32))) (as_whole v) n e
    (λ x e1 e2. let q = kept_ok (λ m. ltb m (2 ^ 32)) x n e2 in (is_number v n (e1 ∙ ap Some q.0), ltb-true _ _ q.1))

pub is_word : (word : List ℕ) (v : Data) → as_word word v ≡ Some tt → v ≡ string word
is_word word v e = option_and_then_some (λ s. cond (bytes_eq s word) (Some tt) None) (as_str v) tt e
    (λ s e1 e2. is_string v word (e1 ∙ ap Some ((bytes_eq-Decides s word).0 (cond_some (bytes_eq s word) tt tt e2).0)))

pub is_kept : (test : List ℕ → Bool) (v : Data) (s : List ℕ) → option_and_then (kept test) (as_str v) ≡ Some s → (v ≡ string s)
    × (test s ≡ true)
is_kept test v s e = option_and_then_some (kept test) (as_str v) s e (λ t e1 e2. let q = kept_ok test t s e2 in
    (is_string v s (e1 ∙ ap Some q.0), q.1))

word_is : (word : List ℕ) (c d : Committer) (rest : Option Committer) → cond (bytes_eq word (committer_word d)) (Some d) rest ≡ Some c
    → (rest ≡ Some c → word ≡ committer_word c) → word ≡ committer_word c
word_is word c d rest e other = by (bytes_eq word (committer_word d)) refl e
  where
    by : (b : Bool) → bytes_eq word (committer_word d) ≡ b → cond b (Some d) rest ≡ Some c → word ≡ committer_word c
    by true at h = let same : d ≡ c = cc in (bytes_eq-Decides word (committer_word d)).0 at ∙ ap committer_word same
    by false at h = other h

committer_is : (cs : List Committer) (word : List ℕ) (c : Committer) → committer_among cs word ≡ Some c → word ≡ committer_word c
committer_is [] word c e = absurd cc
committer_is (d ∷ cs) word c e = word_is word c d (committer_among cs word) e (committer_is cs word c)

pub is_committer : (v : Data) (c : Committer) → as_committer v ≡ Some c → v ≡ string (committer_word c)
is_committer v c e = option_and_then_some committer_of (as_str v) c e (λ s e1 e2. is_string v (committer_word c)
    (e1 ∙ ap Some (committer_is committers s c e2)))

-- ---- lists

-- Items of a kind, each of whose values has one tree.
items_are : {A : Type 0} (kind : Data → Option A) (shown : A → Data) → ((d : Data) (x : A) → kind d ≡ Some x → d ≡ shown x)
    → (ds : Items) (xs : List A) → all_of kind ds ≡ Some xs → ds ≡ items_of (map shown xs)
items_are kind shown is no_items xs e = let h : [] ≡ xs = cc in subst (λ x. no_items ≡ items_of (map shown x)) h refl
items_are kind shown is (item d ds) xs e = option_and_then_some (λ x. option_map (λ ys. x ∷ ys) (all_of kind ds)) (kind d) xs e
    (λ x e1 e2. let q = end_of (λ ys. x ∷ ys) (all_of kind ds) xs e2 in
    subst (λ ys. item d ds ≡ items_of (map shown ys)) q.2 (ap₂ item (is d x e1) (items_are kind shown is ds q.0 q.1)))

items_pass : {A : Type 0} (kind : Data → Option A) (test : A → Bool) → ((d : Data) (x : A) → kind d ≡ Some x → test x ≡ true)
    → (ds : Items) (xs : List A) → all_of kind ds ≡ Some xs → list_all test xs ≡ true
items_pass kind test is no_items xs e = let h : [] ≡ xs = cc in subst (λ x. list_all test x ≡ true) h refl
items_pass kind test is (item d ds) xs e = option_and_then_some (λ x. option_map (λ ys. x ∷ ys) (all_of kind ds)) (kind d) xs e
    (λ x e1 e2. let q = end_of (λ ys. x ∷ ys) (all_of kind ds) xs e2 in
    subst (λ ys. list_all test ys ≡ true) q.2 (rw (is d x e1) (items_pass kind test is ds q.0 q.1)))

items_again : {A : Type 0} (kind : Data → Option A) (shown : A → Data) (test : A → Bool)
    → ((x : A) → test x ≡ true → kind (shown x) ≡ Some x) → (xs : List A) → list_all test xs ≡ true
    → all_of kind (items_of (map shown xs)) ≡ Some xs
items_again kind shown test is [] h = refl
items_again kind shown test is (x ∷ xs) h = let p = and_parts (test x) _ h in rw (is x p.0, items_again kind shown test is xs p.1) refl

is_tag : (v : Data) (t : Spelled) → as_tag v ≡ Some t → (v ≡ string (tag_digits t)) × (is_plain_tag t ≡ true)
is_tag v t e = option_and_then_some tag_of (as_str v) t e (λ s e1 e2.
    let p = cond_some (is_tag_text s) (record { digits = s; parts = 0 }) t e2 in
    let d : s ≡ t.digits = ap (λ (x : Spelled). x.digits) p.1 in
    (is_string v t.digits (e1 ∙ ap Some d), subst (λ x. is_plain_tag x ≡ true) p.1 (rw p.0 refl)))

pub counted : (a b c : Bool) → (a && b) ≡ true → c ≡ true → (a && b && c) ≡ true
counted true true c h k = k
counted true false c h k = absurd cc
counted false b c h k = absurd cc

-- 1 to 10,000 tags of parts.
pub tags_pass : (ds : Items) (ts : List Spelled) → all_of as_tag ds ≡ Some ts → is_count ts ≡ true → are_tags ts ≡ true
tags_pass ds ts e h = counted (leb 1 (length ts)) (leb (length ts) 10000) _ h
    (items_pass as_tag is_plain_tag (λ d t k. (is_tag d t k).1) ds ts e)

digits_are : (ts : List Spelled) → items_of (map (λ t. string (tag_digits t)) ts) ≡ texts (map tag_digits ts)
digits_are [] = refl
digits_are (t ∷ ts) = ap (item (string (tag_digits t))) (digits_are ts)

pub is_tags : (v : Data) (ts : List Spelled) → as_tags v ≡ Some ts → (v ≡ array (texts (map tag_digits ts))) × (are_tags ts ≡ true)
is_tags v ts e = option_and_then_some (λ ds. option_and_then (kept is_count) (all_of as_tag ds)) (as_array v) ts e
    (λ ds e1 e2. option_and_then_some (kept is_count) (all_of as_tag ds) ts e2
    (λ us e3 e4. let q = kept_ok is_count us ts e4 in
    let read : all_of as_tag ds ≡ Some ts = e3 ∙ ap Some q.0 in (
      is_array v ds e1 ∙ ap array (items_are as_tag (λ t. string (tag_digits t)) (λ d t k. (is_tag d t k).0) ds ts read ∙ digits_are ts),
      tags_pass ds ts read q.1,
    )))

pub is_texts : (v : Data) (ts : List (List ℕ)) → as_texts v ≡ Some ts → v ≡ array (texts ts)
is_texts v ts e = option_and_then_some (all_of as_str) (as_array v) ts e (λ ds e1 e2. is_array v ds e1 ∙ ap array
    (items_are as_str string is_string ds ts e2))

is_sizes : (count total : ℕ) (v : Data) (ns : List ℕ) → as_sizes count total v ≡ Some ns → v ≡ array (wholes ns)
is_sizes count total v ns e = option_and_then_some (λ ds. option_and_then (kept (λ x. fit x count total)) (all_of as_whole ds)) (as_array v)
    ns e
    (λ ds e1 e2. option_and_then_some (kept (λ x. fit x count total)) (all_of as_whole ds) ns e2
    (λ us e3 e4. let q = kept_ok (λ x. fit x count total) us ns e4 in
    is_array v ds e1 ∙ ap array (items_are as_whole whole is_number ds ns (e3 ∙ ap Some q.0))))

-- ---- from values to trees

abbrev spelled : List ℕ → ℕ → Option Spelled
spelled digits parts = Some (record { digits = digits; parts = parts })

pub tag_again : (t : Spelled) → is_plain_tag t ≡ true → as_tag (string (tag_digits t)) ≡ Some t
tag_again t h = let p = and_parts (is_tag_text t.digits) _ h in
    rw p.0 (ap (spelled t.digits) (sym (eqb-true t.parts 0 p.1)))

pub tags_again : (ts : List Spelled) → are_tags ts ≡ true → as_tags (array (texts (map tag_digits ts))) ≡ Some ts
tags_again ts h =
    let p = and_parts (is_count ts) _ h in
    let read : all_of as_tag (texts (map tag_digits ts)) ≡ Some ts = ap (all_of as_tag) (sym (digits_are ts)) ∙ items_again as_tag
    (λ t. string (tag_digits t)) is_plain_tag tag_again ts p.1 in
    rw (read, p.0) refl

pub texts_again : (ts : List (List ℕ)) → all_of as_str (texts ts) ≡ Some ts
texts_again [] = refl
texts_again (t ∷ ts) = rw (texts_again ts) refl

wholes_again : (ns : List ℕ) → all_of as_whole (wholes ns) ≡ Some ns
wholes_again [] = refl
wholes_again (n ∷ ns) = rw (wholes_again ns) refl

pub sizes_again : (ns : List ℕ) (count total : ℕ) → fit ns count total ≡ true → as_sizes count total (array (wholes ns)) ≡ Some ns
sizes_again ns count total h = rw (wholes_again ns, h) refl

pub committer_again : (c : Committer) → as_committer (string (committer_word c)) ≡ Some c
committer_again Magic = refl
committer_again _ = refl

-- ---- the version

pub version_ok : (d : Data) → version_in d ≡ Ok tt → get (codes "version") d ≡ Some (whole 1)
unfolding version_in
version_ok d e =
    let a = parted (field as_whole (codes "version") d) _ tt e in
    let f = field_ok as_whole (codes "version") d a.value a.first in
    f.1 ∙ ap Some (is_number f.0 1 (f.2 ∙ ap Some (eqb-true a.value 1 (passed (a.value == 1) (WrongVersion a.value) tt tt a.next).0)))

-- The versions of a pending upload's form.
versions : (n : ℕ) (sized : Bool) (r : Result Bool RecordFault)
    → cond (n == 1) (Ok false) (cond (n == 2) (Ok true) (Err (WrongVersion n))) ≡ r → r ≡ Ok sized → n ≡ version_of sized
versions n sized r e is = by (n == 1) refl (n == 2) refl (e ∙ is)
  where
    by : (a : Bool) → (n == 1) ≡ a → (b : Bool) → (n == 2) ≡ b → cond a (Ok false) (cond b (Ok true) (Err (WrongVersion n))) ≡ Ok sized
        → n ≡ version_of sized
    by true first b second h = eqb-true n 1 first ∙ ap version_of (same_ok false sized h)
    by false first true second h = eqb-true n 2 second ∙ ap version_of (same_ok true sized h)
    by false first false second h = absurd cc

pub sized_ok : (d : Data) (sized : Bool) → is_sized d ≡ Ok sized → get (codes "version") d ≡ Some (whole (version_of sized))
unfolding is_sized
sized_ok d sized e =
    let a = parted (field as_whole (codes "version") d) _ sized e in
    let f = field_ok as_whole (codes "version") d a.value a.first in
    f.1 ∙ ap Some (is_number f.0 (version_of sized) (f.2 ∙ ap Some (versions a.value sized _ refl a.next)))

-- The lengths of parts exist exactly if the version has them.
pub sizes_ok : (sized : Bool) (count total : ℕ) (d : Data) (sizes : Option (List ℕ)) → sizes_in sized count total d ≡ Ok sizes
    → (is_some sizes ≡ sized) × ((ns : List ℕ) → sizes ≡ Some ns → get (codes "sizes") d ≡ Some (array (wholes ns)))
sizes_ok false count total d sizes e = let s : None ≡ sizes = same_ok None sizes e in
    (ap is_some (sym s), λ ns is. let bad : None ≡ Some ns = s ∙ is in absurd cc)
sizes_ok true count total d sizes e =
    let p = parted (field (as_sizes count total) (codes "sizes") d) _ sizes e in
    let s : Some p.value ≡ sizes = same_ok (Some p.value) sizes p.next in
    let f = field_ok (as_sizes count total) (codes "sizes") d p.value p.first in (
      ap is_some (sym s),
      λ ns is. f.1 ∙ ap Some (is_sizes count total f.0 p.value f.2 ∙ ap (λ x. array (wholes x))
          (same_Some p.value ns (s ∙ is))),
    )
