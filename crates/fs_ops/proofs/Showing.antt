-- The children that a listing shows are those of the directory. Contracts cite none of these laws.
use Rattle.text_and_lists.proofs.Less.{irrefl, less_of, lt, lt_not, lt_trans}
use Rattle.text_and_lists.proofs.Members.{eq_nat, false_true, in_append, in_back, in_front, text_is, text_true}
use Rattle.text_and_lists.proofs.Pieces.{one_part, parts_append}
use Rattle.text_and_lists.specs.Members.{IsIn, RisesFrom}
use Rattle.text_and_lists.specs.Order.{text_cmp, text_eq, text_total}
use Rattle.text_and_lists.specs.Parts.{is_other, parts_of}
use Rattle.dir_markers.specs.Markers.{marker_of}
use Rattle.dir_markers.specs.declared.status.Status.{Status}
use Rattle.dir_markers.specs.declared.status.Status.TheVariants.{Directory, File}
use Rattle.fs_ops.proofs.Children.{IsChild, NoSlash, Standing, are_shown, dir_listed, entry_at, entry_from, file_listed, listed_rises}
use Rattle.fs_ops.proofs.Children.{shown_in, text_at}
use Rattle.fs_ops.specs.Places.{prefix_of}
use Rattle.fs_ops.specs.code.List.{added, all_added, children, dir_by, dir_named, file_by, first_of, has_file, is_file, is_file_named}
use Rattle.fs_ops.specs.code.List.{rest_of, shown}
use Rattle.fs_tree.proofs.Above.{dir_element, file_element}
use Rattle.fs_tree.proofs.Begins.{begins_all, begins_marker, begins_more}
use Rattle.fs_tree.proofs.Moving.{rest_after}
use Rattle.fs_tree.specs.Changes.{HasEntries, HasOddKey, IsName, text_by, text_of}
use Rattle.fs_tree.specs.Tree.{HasDir, IsFile, IsStatus, NoFile, SomeBelow}
use Rattle.fs_tree.specs.declared.answers.DirEntry.{DirEntry}
use Rattle.path_keys.specs.Paths.{below}
use Rattle.s3_types.proofs.Begins.{begins_is, between}
use Rattle.s3_types.specs.Names.{is_element, is_key, is_key_path}
use Rattle.s3_types.specs.Pages.{begins, listed, text_in}
use Rattle.s3_types.specs.Store.{Objects}
use Rattle.s3_types.specs.declared.object.Object.{Object}
use Rattle.std.proofs.Common.{ap, append_assoc, arith, inl, inr, refl, subst, sym, ◌∙◌}
use Rattle.std.proofs.Math.Seq.{drop-append_seam}
use Rattle.std.proofs.lemmas.Bool.{and_parts, false≢true}
use Rattle.std.proofs.lemmas.List.{append-nil, reverse-append}
use Rattle.std.specs.List.{AllByRecursion, list_all, list_any, prefix_len}
use Rattle.std.specs.List.Sorted.{IsStrictlySortedBy}
use Rattle.std.specs.Ordering.{is_lt, nat_cmp, ordering_then}
use Rattle.std.specs.Prelude.{Bool, List, None, Option, Some, cond, false, length, map, nat_eq, reverse, suc, take, take_while, true, ℕ, []}
use Rattle.std.specs.Prelude.{◌&&◌, ◌++◌, ◌+◌, ◌<◌, ◌||◌, ◌∷◌, ◌≡◌, ◌⊎◌}
use Rattle.std.specs.Str.{is_utf8}
use Rattle.std.specs.declared.cmp.Ordering.TheVariants.{Less}
use Rattle.std.specs.FinMap as fin

abbrev child_at : List ℕ → Status → DirEntry
child_at n s = record { name = n; status = s }

-- ---- texts

pub rest_is : (q r : List ℕ) → rest_of q (q ++ r) ≡ Some r
rest_is q r = grind (arith, begins_is, begins_more, drop-append_seam)

pub cmp_behind : (q a b : List ℕ) → text_cmp (q ++ a) (q ++ b) ≡ text_cmp a b
cmp_behind [] a b = refl
cmp_behind (x ∷ q) a b = ap (λ r. ordering_then r (text_cmp (q ++ a) (q ++ b))) (equal x) ∙ cmp_behind q a b
  where
    equal : (x : ℕ) → nat_cmp x x ≡ Rattle.std.specs.declared.cmp.Ordering.TheVariants.Equal
    equal x = sym (Rattle.std.specs.Cmp.nat_cmp_is x x Rattle.std.specs.declared.cmp.Ordering.TheVariants.Equal refl)

first_part : (n : List ℕ) → NoSlash n → first_of (parts_of 47 (n ++ 47 ∷ [])) ≡ n
first_part n h = ap first_of (parts_append 47 n [] ∙ ap (λ (l : List (List ℕ)). l ++ parts_of 47 []) (one_part 47 n h))

-- A name comes before the same name with a `/`.
before_marker : (n : List ℕ) → lt text_cmp n (marker_of n) ≡ true
before_marker n = ap (λ l. lt text_cmp l (marker_of n)) (sym (append-nil n)) ∙ ap is_lt (cmp_behind n [] (47 ∷ []))

-- What begins a directory's text begins its name, or is the text.
begins_front : (n m : List ℕ) → begins n (marker_of m) ≡ true → (n ≡ marker_of m) ⊎ (begins n m ≡ true)
begins_front [] m h = inr refl
begins_front (x ∷ []) [] h = inl (ap (λ v. v ∷ []) (eq_nat x 47 (and_parts (nat_eq x 47) true h).0))
begins_front (x ∷ y ∷ n) [] h = absurd (false≢true (and_parts (nat_eq x 47) false h).1)
begins_front (x ∷ n) (y ∷ m) h = let w = and_parts (nat_eq x y) (begins n (marker_of m)) h in by (eq_nat x y w.0) w.0 (begins_front n m w.1)
  where
    by : x ≡ y → nat_eq x y ≡ true → (n ≡ marker_of m) ⊎ (begins n m ≡ true) → (x ∷ n ≡ marker_of (y ∷ m)) ⊎ (begins (x ∷ n) (y ∷ m) ≡ true)
    by h g e = grind arith

begins_name : (n m : List ℕ) (s : Status) → lt text_cmp n (text_by m s) ≡ true → begins n (text_by m s) ≡ true → begins n m ≡ true
begins_name n m (File l) h b = b
begins_name n m Directory h b =
    elim (begins_front n m b) [
      | inl e ↦ absurd (false_true (irrefl text_total (marker_of m))
          (ap (λ n. lt text_cmp n (marker_of m)) (sym e) ∙ h))
      | inr g ↦ g
    ]

-- ---- what was found, the last first

abbrev Below : List DirEntry → List ℕ → Type 0
Below es t = (e : DirEntry) → IsIn e es → lt text_cmp (text_of e) t ≡ true

-- Holds if the texts fall.
abbrev Falls : List DirEntry → Type 0
Falls [] = Unit {0}
Falls (e ∷ es) = Below es (text_of e) × Falls es

abbrev test : List ℕ → DirEntry → Bool
test n e = begins n e.name

while_more : (p : DirEntry → Bool) (e : DirEntry) (es : List DirEntry) → p e ≡ true → take_while p (e ∷ es) ≡ e ∷ take_while p es
while_more p e es h = ap (λ b. take (cond b (1 + prefix_len p es) 0) (e ∷ es)) h ∙ ap (λ k. take k (e ∷ es))
    (let o : 1 + prefix_len p es ≡ suc (prefix_len p es) = omega arith in o)

while_none : (p : DirEntry → Bool) (e : DirEntry) (es : List DirEntry) → p e ≡ false → take_while p (e ∷ es) ≡ []
while_none p e es h = ap (λ b. take (cond b (1 + prefix_len p es) 0) (e ∷ es)) h

abbrev among : List ℕ → List DirEntry → Bool
among n es = list_any (is_file_named n) (take_while (test n) es)

among_more : (n : List ℕ) (e : DirEntry) (es : List DirEntry) → test n e ≡ true → among n (e ∷ es) ≡ (is_file_named n e || among n es)
among_more n e es h = ap (list_any (is_file_named n)) (while_more (test n) e es h)

-- A file of this name is found.
file_among : (n : List ℕ) (l : ℕ) (es : List DirEntry) → Falls es → Below es (marker_of n) → IsIn (child_at n (File l)) es
    → among n es ≡ true
file_among n l [] f b i = absurd i
file_among n l (e ∷ es) f b i = by i (file_among n l es f.1 (λ d j. b d (inr j)))
  where
    own : among n (child_at n (File l) ∷ es) ≡ true
    own = among_more n (child_at n (File l)) es (begins_all n) ∙ ap (λ b. b || among n es) (text_true n n refl)

    by : (child_at n (File l) ≡ e) ⊎ IsIn (child_at n (File l)) es → (IsIn (child_at n (File l)) es → among n es ≡ true)
        → among n (e ∷ es) ≡ true
    by (inl h) ih = subst (λ d. among n (d ∷ es) ≡ true) h own
    by (inr j) ih =
        let low : lt text_cmp n (text_of e) ≡ true = f.0 (child_at n (File l)) j in
        let high : lt text_cmp (text_of e) (marker_of n) ≡ true = b e (inl refl) in
        let t = begins_name n e.name e.status low (between n (text_of e) (marker_of n) (lt_not text_total n (text_of e) low)
        (lt_not text_total (text_of e) (marker_of n) high) (begins_marker n)) in
        among_more n e es t ∙ (elim (is_file_named n e) as (λ a. (a || (among n es)) ≡ true) [ true ↦ refl | false ↦ (ih j) ])

-- Holds if a file of this name was found.
abbrev HasNamed : List ℕ → List DirEntry → Type 0
HasNamed n es = (l : ℕ) × IsIn (child_at n (File l)) es

named_is : (n : List ℕ) (e : DirEntry) (es : List DirEntry) → is_file_named n e ≡ true → HasNamed n (e ∷ es)
named_is n e es h = let w = and_parts (is_file e.status) (text_eq e.name n) h in by e.status refl w.0 (text_is e.name n w.1)
  where
    by : (s : Status) → e.status ≡ s → is_file s ≡ true → e.name ≡ n → HasNamed n (e ∷ es)
    by Directory f h g = absurd (false≢true h)
    by (File l) f h g = (l, inl (λ i. child_at (sym g i) (sym f i)))

among_is : (n : List ℕ) (es : List DirEntry) → among n es ≡ true → HasNamed n es
among_is n [] h = absurd (false≢true h)
among_is n (e ∷ es) h = by (test n e) refl (among_is n es)
  where
    later : HasNamed n es → HasNamed n (e ∷ es)
    later g = (g.0, inr g.1)

    one : (b : Bool) → is_file_named n e ≡ b → (b || among n es) ≡ true → (among n es ≡ true → HasNamed n es) → HasNamed n (e ∷ es)
    one true f g ih = named_is n e es f
    one false f g ih = later (ih g)

    by : (b : Bool) → test n e ≡ b → (among n es ≡ true → HasNamed n es) → HasNamed n (e ∷ es)
    by true t ih = one (is_file_named n e) refl (sym (among_more n e es t) ∙ h) ih
    by false t ih = absurd (false≢true (sym (ap (list_any (is_file_named n)) (while_none (test n) e es t)) ∙ h))

-- ---- lists and their reverses

reversed : {X : Type 0} (x : X) (xs : List X) → reverse (x ∷ xs) ≡ reverse xs ++ x ∷ []
reversed x xs = reverse-append (x ∷ []) xs

in_reverse : {X : Type 0} (x : X) (xs : List X) → IsIn x xs → IsIn x (reverse xs)
in_reverse x [] i = absurd i
in_reverse x (y ∷ ys) (inl e) = subst (IsIn x) (sym (reversed y ys)) (in_back x (reverse ys) (y ∷ []) (inl e))
in_reverse x (y ∷ ys) (inr i) = subst (IsIn x) (sym (reversed y ys)) (in_front x (reverse ys) (y ∷ []) (in_reverse x ys i))

reverse_in : {X : Type 0} (x : X) (xs : List X) → IsIn x (reverse xs) → IsIn x xs
reverse_in x [] i = absurd i
reverse_in x (y ∷ ys) i = elim (in_append x (reverse ys) (y ∷ []) (subst (IsIn x) (reversed y ys) i)) [
  | inl j ↦ inr (reverse_in x ys j)
  | inr (inl e) ↦ inl e
  | inr (inr j) ↦ absurd j
]

in_one : {X : Type 0} {x y : X} → IsIn x (y ∷ []) → x ≡ y
in_one h = elim h [ inl e ↦ e | inr i ↦ absurd i ]

above_end : (x : List ℕ) (es : List DirEntry) (d : DirEntry) → AllByRecursion (λ k. text_cmp x k ≡ Less) (map text_of es)
    → lt text_cmp x (text_of d) ≡ true → AllByRecursion (λ k. text_cmp x k ≡ Less) (map text_of (es ++ d ∷ []))
above_end x [] d a h = (less_of (text_cmp x (text_of d)) h, tt)
above_end x (e ∷ es) d a h = (a.0, above_end x es d a.1 h)

sorted_end : (es : List DirEntry) (d : DirEntry) → IsStrictlySortedBy text_cmp (map text_of es) → Below es (text_of d)
    → IsStrictlySortedBy text_cmp (map text_of (es ++ d ∷ []))
unfolding IsStrictlySortedBy
sorted_end [] d s b = (tt, tt)
sorted_end (e ∷ es) d s b = (above_end (text_of e) es d s.0 (b e (inl refl)), sorted_end es d s.1 (λ x i. b x (inr i)))

-- ---- the children one by one

abbrev seen_by : List DirEntry → List ℕ → Status → Option DirEntry
seen_by found n Directory = dir_named (has_file found n) n
seen_by found n (File l) = file_by (Some n) l

abbrev seen : List DirEntry → DirEntry → Option DirEntry
seen found d = seen_by found d.name d.status

abbrev all_seen : List DirEntry → List DirEntry → List DirEntry
all_seen found [] = found
all_seen found (d ∷ ds) = all_seen (added found (seen found d)) ds

seen_entry : (q n : List ℕ) (s : Status) (found : List DirEntry) → NoSlash n → shown q found (entry_at q n s) ≡ seen_by found n s
seen_entry q n Directory found h =
    ap (dir_by found) (ap (rest_of q) (append_assoc q n (47 ∷ [])) ∙ rest_is q (n ++ 47 ∷ []))
    ∙ ap (λ m. dir_named (has_file found m) m) (first_part n h)
seen_entry q n (File l) found h = ap (λ r. file_by r l) (rest_is q n)

all_entries : (q : List ℕ) (ds found : List DirEntry) → ((d : DirEntry) → IsIn d ds → NoSlash d.name)
    → all_added q found (map (entry_from q) ds) ≡ all_seen found ds
all_entries q [] found h = refl
all_entries q (d ∷ ds) found h =
    ap (λ o. all_added q (added found o) (map (entry_from q) ds)) (seen_entry q d.name d.status found (h d (inl refl)))
    ∙ all_entries q ds (added found (seen found d)) (λ e i. h e (inr i))

-- What was found after the first of the children were seen.
record Found (ds firsts found : List DirEntry) : Type 0 where
  sub : (e : DirEntry) → IsIn e found → IsIn e firsts
  files : (x : ℕ) (r : List ℕ) (l : ℕ) → IsIn (child_at (x ∷ r) (File l)) firsts → IsIn (child_at (x ∷ r) (File l)) found
  dirs : (n : List ℕ) → IsIn (child_at n Directory) firsts → IsIn (child_at n Directory) found ⊎ HasNamed n found
  once : (x : ℕ) (r : List ℕ) (l : ℕ) → IsIn (child_at (x ∷ r) Directory) found → IsIn (child_at (x ∷ r) (File l)) ds → ⊥
  named : (l : ℕ) → IsIn (child_at [] (File l)) found → ⊥
  falls : Falls (reverse found)
  sorted : IsStrictlySortedBy text_cmp (map text_of found)

nothing_found : (ds : List DirEntry) → Found ds [] []
unfolding IsStrictlySortedBy
nothing_found ds = record {
  sub = λ e i. i;
  files = λ x r l i. i;
  dirs = λ n i. inl i;
  once = λ x r l i j. i;
  named = λ l i. i;
  falls = tt;
  sorted = tt;
}

module _ (ds firsts found : List DirEntry) (f : Found ds firsts found) (d : DirEntry) (later : Below firsts (text_of d)) where
  before : Below found (text_of d)
  before e i = later e (f.sub e i)

  before_back : Below (reverse found) (text_of d)
  before_back e i = before e (reverse_in e found i)

  -- the child is added to what was found
  adds : IsIn d ds → ((l : ℕ) → child_at [] (File l) ≡ d → ⊥)
      → ((x : ℕ) (r : List ℕ) (l : ℕ) → d ≡ child_at (x ∷ r) Directory → IsIn (child_at (x ∷ r) (File l)) ds → ⊥)
      → Found ds (firsts ++ d ∷ []) (found ++ d ∷ [])
  adds i none other = record {
    sub = λ e j. elim (in_append e found (d ∷ []) j) [
      | inl k ↦ in_front e firsts (d ∷ []) (f.sub e k)
      | inr k ↦ in_back e firsts (d ∷ []) k
    ];
    files = λ x r l j. elim (in_append (child_at (x ∷ r) (File l)) firsts (d ∷ []) j) [
      | inl k ↦ in_front (child_at (x ∷ r) (File l)) found (d ∷ []) (f.files x r l k)
      | inr k ↦ in_back (child_at (x ∷ r) (File l)) found (d ∷ []) k
    ];
    dirs = λ n j. elim (in_append (child_at n Directory) firsts (d ∷ []) j) [
      | inl k ↦ old n (f.dirs n k)
      | inr k ↦ inl
          (in_back (child_at n Directory) found (d ∷ []) k)
    ];
    once = λ x r l j k. elim (in_append (child_at (x ∷ r) Directory) found (d ∷ []) j)
        [ inl m ↦ f.once x r l m k | inr m ↦ other x r l (sym (in_one m)) k ];
    named = λ l j. elim (in_append (child_at [] (File l)) found (d ∷ []) j) [ inl k ↦ f.named l k | inr k ↦ none l (in_one k) ];
    falls = subst Falls (sym (reverse-append found (d ∷ []))) (before_back, f.falls);
    sorted = sorted_end found d f.sorted before;
  }
    where
      old : (n : List ℕ) → IsIn (child_at n Directory) found ⊎ HasNamed n found → IsIn (child_at n Directory) (found ++ d ∷ [])
          ⊎ HasNamed n (found ++ d ∷ [])
      old n (inl k) = inl (in_front (child_at n Directory) found (d ∷ []) k)
      old n (inr k) = inr (k.0, in_front (child_at n (File k.0)) found (d ∷ []) k.1)

  -- the child is passed over
  skips : ((x : ℕ) (r : List ℕ) (l : ℕ) → child_at (x ∷ r) (File l) ≡ d → ⊥) → ((n : List ℕ) → child_at n Directory ≡ d → HasNamed n found)
      → Found ds (firsts ++ d ∷ []) found
  skips other has = record {
    sub = λ e j. in_front e firsts (d ∷ []) (f.sub e j);
    files = λ x r l j. elim (in_append (child_at (x ∷ r) (File l)) firsts (d ∷ []) j)
        [ inl k ↦ f.files x r l k | inr k ↦ absurd (other x r l (in_one k)) ];
    dirs = λ n j. elim (in_append (child_at n Directory) firsts (d ∷ []) j) [ inl k ↦ f.dirs n k | inr k ↦ inr (has n (in_one k)) ];
    once = f.once;
    named = f.named;
    falls = f.falls;
    sorted = f.sorted;
  }

-- Holds if the children rise and come after a text.
abbrev Later : List ℕ → List DirEntry → Type 0
Later b es = RisesFrom b (map text_of es)

later_in : (b : List ℕ) (es : List DirEntry) (e : DirEntry) → Later b es → IsIn e es → lt text_cmp b (text_of e) ≡ true
later_in b [] e h i = absurd i
later_in b (x ∷ es) e h (inl k) = ap (λ x. lt text_cmp b (text_of x)) k ∙ h.0
later_in b (x ∷ es) e h (inr i) = lt_trans text_total b (text_of x) (text_of e) h.0 (later_in (text_of x) es e h.1 i)

no_file : {n m : List ℕ} {l : ℕ} → child_at n (File l) ≡ child_at m Directory → ⊥
no_file h = grind arith

no_name : {x : ℕ} {r : List ℕ} {l k : ℕ} → child_at (x ∷ r) (File l) ≡ child_at [] (File k) → ⊥
no_name h = grind arith

same_name : {n m : List ℕ} → child_at n Directory ≡ child_at m Directory → n ≡ m
same_name e = ap (λ (d : DirEntry). d.name) e

-- One child more.
seen_one : (ds firsts rest found : List DirEntry) (n : List ℕ) (s : Status) → ds ≡ firsts ++ child_at n s ∷ rest
    → Below firsts (text_by n s) → Later (text_by n s) rest → Found ds firsts found
    → Found ds (firsts ++ child_at n s ∷ []) (added found (seen_by found n s))
seen_one ds firsts rest found [] (File l) e b a f = skips ds firsts found f (child_at [] (File l)) b (λ x r k g. no_name g)
    (λ m g. absurd (no_file (sym g)))
seen_one ds firsts rest found (y ∷ n) (File l) e b a f =
    adds ds firsts found f (child_at (y ∷ n) (File l)) b (subst (IsIn (child_at (y ∷ n) (File l))) (sym e)
    (in_back (child_at (y ∷ n) (File l)) firsts (child_at (y ∷ n) (File l) ∷ rest) (inl refl))) (λ k g. no_name (sym g))
    (λ x r k g j. no_file g)
seen_one ds firsts rest found n Directory e b a f = by (has_file found n) refl
  where
    d : DirEntry
    d = child_at n Directory

    at : IsIn d ds
    at = subst (IsIn d) (sym e) (in_back d firsts (d ∷ rest) (inl refl))

    -- a file of its name comes before it
    earlier : (x : ℕ) (r : List ℕ) (l : ℕ) → n ≡ x ∷ r → IsIn (child_at (x ∷ r) (File l)) firsts
        ⊎ IsIn (child_at (x ∷ r) (File l)) (d ∷ rest) → IsIn (child_at (x ∷ r) (File l)) firsts
    earlier x r l g (inl i) = i
    earlier x r l g (inr (inl h)) = absurd (no_file h)
    earlier x r l g (inr (inr i)) =
        absurd (false_true (lt_not text_total n (marker_of n) (before_marker n))
        (ap (lt text_cmp (marker_of n)) g ∙ later_in (marker_of n) rest (child_at (x ∷ r) (File l)) a i))

    never : has_file found n ≡ false → (x : ℕ) (r : List ℕ) (l : ℕ) → d ≡ child_at (x ∷ r) Directory → IsIn (child_at (x ∷ r) (File l)) ds
        → ⊥
    never h x r l g i =
        let m : n ≡ x ∷ r = same_name g in
        let j = f.files x r l (earlier x r l m (in_append (child_at (x ∷ r) (File l)) firsts (d ∷ rest)
        (subst (IsIn (child_at (x ∷ r) (File l))) e i))) in
        let k : IsIn (child_at n (File l)) (reverse found) = subst (λ v. IsIn (child_at v (File l)) (reverse found)) (sym m)
        (in_reverse (child_at (x ∷ r) (File l)) found j) in
        false_true h (file_among n l (reverse found) f.falls (λ c p. b c (f.sub c (reverse_in c found p))) k)

    named : has_file found n ≡ true → HasNamed n found
    named h = let g = among_is n (reverse found) h in (g.0, reverse_in (child_at n (File g.0)) found g.1)

    by : (c : Bool) → has_file found n ≡ c → Found ds (firsts ++ d ∷ []) (added found (dir_named (has_file found n) n))
    by true h =
        subst (λ c. Found ds (firsts ++ d ∷ []) (added found (dir_named c n))) (sym h)
        (skips ds firsts found f d b (λ x r l g. no_file g) (λ m g. subst (λ v. HasNamed v found) (sym (same_name g)) (named h)))
    by false h = subst (λ c. Found ds (firsts ++ d ∷ []) (added found (dir_named c n))) (sym h)
        (adds ds firsts found f d b at (λ k g. no_file g) (never h))

-- Holds if the children rise.
abbrev Ordered : List DirEntry → Type 0
Ordered [] = Unit {0}
Ordered (d ∷ ds) = Later (text_of d) ds

abbrev Before : List DirEntry → List DirEntry → Type 0
Before firsts [] = Unit {0}
Before firsts (d ∷ ds) = Below firsts (text_of d)

ordered : (t : List ℕ) (ds : List DirEntry) → Later t ds → Ordered ds
ordered t ds h = grind arith

before_next : (firsts rest : List DirEntry) (d : DirEntry) → Below firsts (text_of d) → Later (text_of d) rest
    → Before (firsts ++ d ∷ []) rest
before_next firsts [] d b a = tt
before_next firsts (x ∷ rest) d b a = λ e i. elim (in_append e firsts (d ∷ []) i) [
  | inl i ↦ lt_trans text_total (text_of e) (text_of d) (text_of x) (b e i) a.0
  | inr i ↦ ap (λ e. lt text_cmp (text_of e) (text_of x)) (in_one i) ∙ a.0
]

-- All children.
all_found : (ds firsts rest found : List DirEntry) → ds ≡ firsts ++ rest → Before firsts rest → Ordered rest → Found ds firsts found
    → Found ds ds (all_seen found rest)
all_found ds firsts [] found e b a f = subst (λ l. Found ds l found) (sym (e ∙ append-nil firsts)) f
all_found ds firsts (d ∷ rest) found e b a f =
    all_found ds (firsts ++ d ∷ []) rest (added found (seen found d)) (e ∙ sym (append_assoc firsts (d ∷ []) rest))
    (before_next firsts rest d b a) (ordered (text_of d) rest a)
    (seen_one ds firsts rest found d.name d.status e b a f)

-- ---- the children of a directory

below_is : (p n : List ℕ) → prefix_of p ++ n ≡ below p n
below_is [] n = refl
below_is (x ∷ p) n = append_assoc (x ∷ p) (47 ∷ []) n

-- A text that is not empty has a first byte.
at_some : (P : List ℕ → Type 0) (k : List ℕ) → 0 < length k → ((x : ℕ) (r : List ℕ) → P (x ∷ r)) → P k
at_some P [] l f = absurd (omega (arith, l))
at_some P (x ∷ k) l f = f x k

no_file_at : (k : List ℕ) (z : Objects) → fin.get z k ≡ None → NoFile z k
no_file_at k z h = grind arith

pub element_some : (n : List ℕ) → is_element n ≡ true → 0 < length n
element_some n h = grind arith

module _ (p : List ℕ) (z : Objects) where
  abbrev Q : List ℕ
  Q = prefix_of p

  below_some : (n : List ℕ) → 0 < length n → 0 < length (below p n)
  below_some n l = elim p as (λ p. 0 < length (below p n)) [ [] ↦ l | x ∷ p ↦ omega arith ]

  module _ (ds found : List DirEntry) (entries : listed Q true [] z ≡ map (entry_from Q) ds)
      (are : (d : DirEntry) → IsIn d ds → IsChild Q z d) (f : Found ds ds found) where
    name_parts : (n : List ℕ) → IsName n → (is_element n ≡ true) × NoSlash n
    name_parts n h = and_parts (is_element n) (list_all (is_other 47) n) h

    named_some : (n : List ℕ) → IsName n → 0 < length (below p n)
    named_some n h = below_some n (element_some n (name_parts n h).0)

    -- a file of a child's name is one of them
    file_of : (n : List ℕ) (o : Object) → IsName n → fin.get z (below p n) ≡ Some o → IsIn (child_at n (File (length o.bytes))) ds
    file_of n o h g = grind (arith, name_parts, file_listed, below_is, named_some, lt)

    -- what exists at a child's key
    child_file : (n : List ℕ) (l : ℕ) → IsName n → IsIn (child_at n (File l)) ds → IsStatus z (below p n) (File l)
    child_file n l h g = grind (arith, at_some, named_some, below_is)

    no_file_of : (n : List ℕ) → IsName n → IsIn (child_at n Directory) found → fin.get z (below p n) ≡ None
    no_file_of n h i = by n h i (fin.get z (below p n)) refl
      where
        by : (n : List ℕ) → IsName n → IsIn (child_at n Directory) found → (o : Option Object) → fin.get z (below p n) ≡ o
            → fin.get z (below p n) ≡ None
        by n h i None e = e
        by [] h i (Some o) e = absurd (false≢true (name_parts [] h).0)
        by (x ∷ r) h i (Some o) e = absurd (f.once x r (length o.bytes) i (file_of (x ∷ r) o h e))

    child_dir : (n : List ℕ) → IsName n → IsIn (child_at n Directory) found → IsStatus z (below p n) Directory
    child_dir n h i =
        let long = named_some n h in
        let s = (are (child_at n Directory) (f.sub (child_at n Directory) i)).stands in
        let at : Q ++ (n ++ 47 ∷ s.0) ≡ marker_of (below p n) ++ s.0 = sym (append_assoc Q n (47 ∷ s.0)) ∙ ap (λ k. k ++ 47 ∷ s.0)
        (below_is p n) ∙ sym (append_assoc (below p n) (47 ∷ []) s.0) in (
          no_file_at (below p n) z (no_file_of n h i),
          at_some (λ k. SomeBelow z (marker_of k) → HasDir z k) (below p n) long (λ x r h. h)
              (Q ++ (n ++ 47 ∷ s.0), ap (begins (marker_of (below p n))) at ∙ begins_more (marker_of (below p n)) s.0, s.1, s.2),
        )

    name_of : (n : List ℕ) → NoSlash n → is_element n ≡ true → IsName n
    name_of n s h = ap (λ b. b && list_all (is_other 47) n) h ∙ s

    path_of : (k : List ℕ) → is_key k ≡ true → is_key_path k ≡ true
    path_of k h = (and_parts (is_utf8 k) (is_key_path k) h).1

    abbrev Entry : List ℕ → Status → Type 0
    Entry n s = (IsName n × IsStatus z (below p n) s) ⊎ HasOddKey z (below p n) s

    file_entry : (n : List ℕ) (l : ℕ) → IsIn (child_at n (File l)) found → NoSlash n → Standing Q z n (File l) → Entry n (File l)
    file_entry [] l i s g = absurd (f.named l i)
    file_entry (x ∷ n) l i s g = (elim (is_key (below p (x ∷ n))) as (λ b. is_key (below p (x ∷ n)) ≡ b → Entry (x ∷ n) (File l)) [
      | true ↦ λ e. let h = name_of (x ∷ n) s (file_element p x n s (path_of (below p (x ∷ n)) e)) in inl
          (h, child_file (x ∷ n) l h (f.sub (child_at (x ∷ n) (File l)) i))
      | false ↦ λ e. inr ((g.0, ap (fin.get z) (sym (below_is p (x ∷ n))) ∙ g.1), e)
    ]) refl

    dir_entry : (n : List ℕ) → IsIn (child_at n Directory) found → NoSlash n → Standing Q z n Directory → Entry n Directory
    dir_entry n i s g = by (is_key (below p n ++ 47 ∷ g.0)) refl
      where
        at : Q ++ (n ++ 47 ∷ g.0) ≡ below p n ++ 47 ∷ g.0
        at = sym (append_assoc Q n (47 ∷ g.0)) ∙ ap (λ k. k ++ 47 ∷ g.0) (below_is p n)

        behind_it : begins (marker_of (below p n)) (below p n ++ 47 ∷ g.0) ≡ true
        behind_it = ap (begins (marker_of (below p n))) (sym (append_assoc (below p n) (47 ∷ []) g.0)) ∙ begins_more (marker_of (below p n))
            g.0

        by : (b : Bool) → is_key (below p n ++ 47 ∷ g.0) ≡ b → Entry n Directory
        by true e = let h = name_of n s (dir_element p n g.0 s (path_of (below p n ++ 47 ∷ g.0) e)) in inl (h, child_dir n h i)
        by false e = inr (below p n ++ 47 ∷ g.0, behind_it, (g.1, ap (fin.get z) (sym at) ∙ g.2), e)

    -- each is a child, or made of a text that is no key
    child_is : (e : DirEntry) → IsIn e found → Entry e.name e.status
    child_is e i = by e.status refl
      where
        own : (s : Status) → e.status ≡ s → IsIn (child_at e.name s) found
        own s k = subst (λ d. IsIn d found) (λ j. child_at e.name (k j)) i

        by : (s : Status) → e.status ≡ s → Entry e.name s
        by Directory k = let c = are (child_at e.name Directory) (f.sub (child_at e.name Directory) (own Directory k)) in dir_entry e.name
            (own Directory k) c.plain c.stands
        by (File l) k = let c = are (child_at e.name (File l)) (f.sub (child_at e.name (File l)) (own (File l) k)) in file_entry e.name l
            (own (File l) k) c.plain c.stands

    file_there : (n : List ℕ) (l : ℕ) → IsName n → IsStatus z (below p n) (File l) → IsIn (child_at n (File l)) found
    file_there n l h s =
        by n h (subst (λ l. IsIn (child_at n (File l)) ds) s.2
        (file_of n s.0 h (at_some (λ k. IsFile z k s.0 → fin.get z k ≡ Some s.0) (below p n) (named_some n h) (λ x r h. h) s.1)))
      where
        by : (n : List ℕ) → IsName n → IsIn (child_at n (File l)) ds → IsIn (child_at n (File l)) found
        by [] h i = absurd (false≢true (name_parts [] h).0)
        by (x ∷ r) h i = f.files x r l i

    dir_there : (n : List ℕ) → IsName n → IsStatus z (below p n) Directory → IsIn (child_at n Directory) found
    dir_there n h s = by (f.dirs n (dir_listed Q z ds entries are n rest.0 key.2 (ap (fin.get z) (sym at) ∙ key.3) (name_parts n h).1))
      where
        long : 0 < length (below p n)
        long = named_some n h

        key : SomeBelow z (marker_of (below p n))
        key = at_some (λ k. HasDir z k → SomeBelow z (marker_of k)) (below p n) long (λ x r h. h) s.1

        rest : (r : List ℕ) × (key.0 ≡ marker_of (below p n) ++ r)
        rest = rest_after (marker_of (below p n)) key.0 key.1

        at : key.0 ≡ Q ++ (n ++ 47 ∷ rest.0)
        at = rest.1 ∙ append_assoc (below p n) (47 ∷ []) rest.0 ∙ ap (λ k. k ++ 47 ∷ rest.0) (sym (below_is p n)) ∙ append_assoc Q n
            (47 ∷ rest.0)

        by : IsIn (child_at n Directory) found ⊎ HasNamed n found → IsIn (child_at n Directory) found
        by h = grind (arith, at_some, long, below_is)

    there : (n : List ℕ) (s : Status) → IsName n → IsStatus z (below p n) s → IsIn (child_at n s) found
    there n Directory h s = dir_there n h s
    there n (File l) h s = file_there n l h s

    has_entries : HasEntries p z found
    has_entries = record { child = child_is; all = there; rises = f.sorted }

  -- a directory has the children that its listing shows
  pub shows_children : HasEntries p z (children Q z)
  shows_children =
      let a = are_shown Q z (listed Q true [] z) (shown_in Q z []) in
      let plain = λ (d : DirEntry) (i : IsIn d a.children). (a.are d i).plain in
      let rises = ordered_of a.children (subst (λ xs. RisesFrom [] (map text_in xs)) a.entries (listed_rises Q z [])) in
      let f = all_found a.children [] a.children [] refl (first_before a.children) rises (nothing_found a.children) in
      subst (HasEntries p z) (sym (ap (all_added Q []) a.entries ∙ all_entries Q a.children [] plain))
      (has_entries a.children (all_seen [] a.children) a.entries a.are f)
    where
      behind_more : (b t : List ℕ) (q : List ℕ) → lt text_cmp (q ++ b) (q ++ t) ≡ lt text_cmp b t
      behind_more b t q = ap is_lt (cmp_behind q b t)

      later_from : (b : List ℕ) (ds : List DirEntry) → RisesFrom (Q ++ b) (map text_in (map (entry_from Q) ds)) → Later b ds
      later_from b [] h = tt
      later_from b (d ∷ ds) h =
          let t = text_at Q d.name d.status in (
            sym (behind_more b (text_of d) Q) ∙ ap (lt text_cmp (Q ++ b)) (sym t) ∙ h.0,
            later_from (text_of d) ds
                (subst (λ v. RisesFrom v (map text_in (map (entry_from Q) ds))) t h.1),
          )

      ordered_of : (ds : List DirEntry) → RisesFrom [] (map text_in (map (entry_from Q) ds)) → Ordered ds
      ordered_of [] h = tt
      ordered_of (d ∷ ds) h = later_from (text_of d) ds (subst (λ v. RisesFrom v (map text_in (map (entry_from Q) ds)))
          (text_at Q d.name d.status) h.1)

      first_before : (ds : List DirEntry) → Before [] ds
      first_before [] = tt
      first_before (d ∷ ds) = λ e i. absurd i
