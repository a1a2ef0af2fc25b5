-- Parent directories of paths, and sets of directories.
use Rattle.audit_claims.specs.Directories.{has_dir}
use Rattle.audit_claims.specs.inner.Directories.{AreDirectories}
use Rattle.text_and_lists.proofs.Bools.{contrary}
use Rattle.text_and_lists.proofs.Members.{false_true, same_or_not, text_is, text_true, true_or_false}
use Rattle.text_and_lists.specs.Members.{IsIn}
use Rattle.text_and_lists.specs.Order.{text_cmp, text_eq, text_ties}
use Rattle.soundness.specs.Claims.{directory, is_below, with_byte}
use Rattle.std.proofs.Common.{Bool, List, ap, arith, cond, drop, false, get_or, inl, inr, length, length-append, map, refl, subst, suc, sym}
use Rattle.std.proofs.Common.{take, true, zero, ℕ, [], ◌&&◌, ◌++◌, ◌+◌, ◌<◌, ◌==◌, ◌||◌, ◌∙◌, ◌∷◌, ◌≡◌, ◌≤◌}
use Rattle.std.proofs.Math.Seq.{take-append_seam}
use Rattle.std.proofs.lemmas.Bool.{and_parts, eqb-true}
use Rattle.std.proofs.lemmas.Bool.Decides.{Decides-eqb}
use Rattle.std.proofs.lemmas.List.{length-take-le, take-append-drop}
use Rattle.std.proofs.lemmas.Map.Lookups.{exact_bytes}
use Rattle.std.proofs.lemmas.Slice.Eq.{starts_is}
use Rattle.std.specs.BTreeSet.{insert_key}
use Rattle.std.specs.List.{list_any}
use Rattle.std.specs.Ordering.{is_eq, match_ordering}
use Rattle.std.specs.declared.cmp.Ordering.{Ordering}
use Rattle.std.specs.declared.cmp.Ordering.TheVariants.{Equal, Greater, Less}

-- ---- truth values, and tests on lists

pub or_true : (b : Bool) → (b || true) ≡ true
or_true true = refl
or_true false = refl

and_false : (b : Bool) → (b && false) ≡ false
and_false true = refl
and_false false = refl

pub or_second : (b c d : Bool) → (c || (b || d)) ≡ (b || (c || d))
or_second true c d = or_true c
or_second false c d = refl

pub or_moved : (b c d : Bool) → ((b || c) || d) ≡ (c || (b || d))
or_moved true c d = sym (or_true c)
or_moved false c d = refl

or_again : (b c : Bool) → (b || c) ≡ (b || (b || c))
or_again true c = refl
or_again false c = refl

pub or_none : (b : Bool) → (b || false) ≡ b
or_none true = refl
or_none false = refl

pub same_truth : (a b : Bool) → (a ≡ true → b ≡ true) → (b ≡ true → a ≡ true) → a ≡ b
same_truth true b f g = sym (f refl)
same_truth false true f g = g refl
same_truth false false f g = refl

pub both_true : (a b : Bool) → a ≡ true → b ≡ true → (a && b) ≡ true
both_true a b h g = rw (h, g) refl

pub any_some : {X : Type 0} (test : X → Bool) (xs : List X) → list_any test xs ≡ true → (x : X) × IsIn x xs × (test x ≡ true)
any_some test [] h = absurd (false_true refl h)
any_some test (x ∷ xs) h = elim (true_or_false (test x)) [
  | inl e ↦ (x, inl refl, e)
  | inr e ↦ let o = any_some test xs (sym (ap (λ b. b || list_any test xs) e) ∙ h) in (o.0, inr o.1, o.2)
]

pub any_at : {X : Type 0} (test : X → Bool) (xs : List X) (x : X) → IsIn x xs → test x ≡ true → list_any test xs ≡ true
any_at test [] x i h = absurd i
any_at test (y ∷ xs) x (inl e) h = ap (λ b. b || list_any test xs) (sym (ap test e) ∙ h)
any_at test (y ∷ xs) x (inr i) h = ap (λ b. test y || b) (any_at test xs x i h) ∙ or_true (test y)

-- ---- the parent directory

longer : (x : ℕ) (xs : List ℕ) → with_byte x (xs ++ 47 ∷ []) ≡ x ∷ (xs ++ 47 ∷ [])
longer x [] = refl
longer x (y ∷ ys) = refl

-- A path that ends in `/` is its own parent directory.
pub dir_slash : (xs : List ℕ) → directory (xs ++ 47 ∷ []) ≡ xs ++ 47 ∷ []
dir_slash [] = refl
dir_slash (x ∷ xs) = ap (with_byte x) (dir_slash xs) ∙ longer x xs

-- Another byte at the end changes nothing.
pub dir_other : (xs : List ℕ) (y : ℕ) → (y == 47) ≡ false → directory (xs ++ y ∷ []) ≡ directory xs
dir_other [] y e = ap (λ b. cond b (y ∷ []) []) e
dir_other (x ∷ xs) y e = ap (with_byte x) (dir_other xs y e)

dir_one : (x : ℕ) (b : Bool) → (x == 47) ≡ b → directory (cond b (x ∷ []) []) ≡ cond b (x ∷ []) []
dir_one x true e = ap (λ c. cond c (x ∷ []) []) e
dir_one x false e = refl

dir_more : (x : ℕ) (d : List ℕ) → directory d ≡ d → directory (with_byte x d) ≡ with_byte x d
dir_more x [] e = dir_one x (x == 47) refl
dir_more x (y ∷ d) e = ap (with_byte x) e

not_slash : (x : ℕ) → (x ≡ 47 → ⊥) → (x == 47) ≡ false
not_slash x n = contrary (x == 47) (λ h. absurd (n (eqb-true x 47 h)))

-- The front of a path up to a `/` is the path's parent directory, if no `/` comes after it.
pub dir_found : (path dir front : List ℕ) (last : ℕ) → dir ≡ front ++ last ∷ [] → last ≡ 47 → directory dir ≡ directory path
    → dir ≡ directory path
dir_found path dir front last e s h =
    let slash : dir ≡ front ++ 47 ∷ [] = e ∙ ap (λ (k : ℕ). front ++ k ∷ []) s in
    slash ∙ sym (dir_slash front) ∙ ap directory (sym slash) ∙ h

-- Without its last byte, which is no `/`, a path has the same parent directory.
pub dir_left : (path dir front : List ℕ) (last : ℕ) → dir ≡ front ++ last ∷ [] → (last ≡ 47 → ⊥) → directory dir ≡ directory path
    → directory front ≡ directory path
dir_left path dir front last e n h = sym (dir_other front last (not_slash last n)) ∙ ap directory (sym e) ∙ h

pub dir_twice : (p : List ℕ) → directory (directory p) ≡ directory p
dir_twice [] = refl
dir_twice (x ∷ p) = dir_more x (directory p) (dir_twice p)

one_is : (x : ℕ) (b : Bool) → (x == 47) ≡ b → cond b (x ∷ []) [] ≡ x ∷ [] → x ≡ 47
one_is x true e h = eqb-true x 47 e
one_is x false e h = absurd cc

not_two : (x y : ℕ) (d : List ℕ) (b : Bool) → cond b (x ∷ []) [] ≡ x ∷ y ∷ d → ⊥
not_two x y d true h = cc
not_two x y d false h = cc

tail_is : (x y : ℕ) (e d : List ℕ) → with_byte x e ≡ x ∷ y ∷ d → e ≡ y ∷ d
tail_is x y [] d h = absurd (not_two x y d (x == 47) h)
tail_is x y (z ∷ e) d h = cc

-- The last byte of a directory is `/`.
last_slash : (d rest : List ℕ) (n : ℕ) → directory d ≡ d → length d ≡ n + 1 → get_or (d ++ rest) n 0 ≡ 47
last_slash [] rest n h e = absurd (omega arith)
last_slash (x ∷ []) rest zero h e = one_is x (x == 47) refl h
last_slash (x ∷ []) rest (suc n) h e = absurd (omega arith)
last_slash (x ∷ y ∷ d) rest zero h e = absurd (omega arith)
last_slash (x ∷ y ∷ d) rest (suc n) h e = last_slash (y ∷ d) rest n (tail_is x y (directory (y ∷ d)) d h) (omega arith)

-- ---- below a directory

below_front : (d p rest : List ℕ) → 0 < length d → p ≡ d ++ rest → is_below d p ≡ true
below_front [] p rest n e = absurd (omega arith)
below_front (x ∷ d) p rest n e = (starts_is Decides-eqb p (x ∷ d) (is_below (x ∷ d) p) refl).1 rest e

front_below : (d p : List ℕ) → is_below d p ≡ true → p ≡ d ++ drop (length d) p
front_below [] p h = absurd (false_true refl h)
front_below (x ∷ d) p h = (starts_is Decides-eqb p (x ∷ d) (is_below (x ∷ d) p) refl).0 h

below_some : (d p : List ℕ) → is_below d p ≡ true → 0 < length d
below_some [] p h = absurd (false_true refl h)
below_some (x ∷ d) p h = omega arith

-- The first bytes of a path are no directory that the path is below.
abbrev pub NoneUpTo : List ℕ → List (List ℕ) → ℕ → Type 0
NoneUpTo p dirs n = (d : List ℕ) → IsIn d dirs → is_below d p ≡ true → n < length d

pub none_first : (p : List ℕ) (dirs : List (List ℕ)) → NoneUpTo p dirs 0
none_first p dirs d i b = below_some d p b

is_directory : (dirs : List (List ℕ)) (d : List ℕ) → AreDirectories dirs → IsIn d dirs → directory d ≡ d
is_directory [] d h i = absurd i
is_directory (e ∷ dirs) d h (inl s) = subst (λ (x : List ℕ). directory x ≡ x) (sym s) h.0
is_directory (e ∷ dirs) d h (inr i) = is_directory dirs d h.1 i

ends_there : (p : List ℕ) (dirs : List (List ℕ)) (n : ℕ) (d : List ℕ) → AreDirectories dirs → IsIn d dirs → is_below d p ≡ true
    → length d ≡ n + 1 → ((get_or p n 0 == 47) && has_dir (take (n + 1) p) dirs) ≡ true
ends_there p dirs n d are i b e =
    let at : p ≡ d ++ drop (length d) p = front_below d p b in
    let slash : get_or p n 0 ≡ 47 =
    ap (λ (l : List ℕ). get_or l n 0) at ∙ last_slash d (drop (length d) p) n (is_directory dirs d are i) e in
    let front : take (n + 1) p ≡ d =
    ap (λ (k : ℕ). take k p) (sym e) ∙ ap (take (length d)) at ∙ take-append_seam d (drop (length d) p) in
    both_true (get_or p n 0 == 47) (has_dir (take (n + 1) p) dirs) (ap (λ (k : ℕ). k == 47) slash)
    (any_at (text_eq (take (n + 1) p)) dirs d i (text_true (take (n + 1) p) d front))

pub none_next : (p : List ℕ) (dirs : List (List ℕ)) (n : ℕ) → AreDirectories dirs → NoneUpTo p dirs n
    → ((get_or p n 0 == 47) && has_dir (take (n + 1) p) dirs) ≡ false → NoneUpTo p dirs (n + 1)
none_next p dirs n are old none d i b =
    let more : n < length d = old d i b in
    elim (same_or_not (length d) (n + 1)) [
      | inl e ↦ absurd (false_true none (ends_there p dirs n d are i b e))
      | inr e ↦ omega (arith, more, e)
    ]

pub some_there : (p : List ℕ) (dirs : List (List ℕ)) (n : ℕ) → n < length p
    → ((get_or p n 0 == 47) && has_dir (take (n + 1) p) dirs) ≡ true → list_any (λ d. is_below d p) dirs ≡ true
some_there p dirs n w h =
    let o = any_some (text_eq (take (n + 1) p)) dirs (and_parts (get_or p n 0 == 47) (has_dir (take (n + 1) p) dirs) h).1 in
    let long : length (take (n + 1) p) ≡ n + 1 = length-take-le (n + 1) p (omega arith) in
    let below : is_below (take (n + 1) p) p ≡ true =
    below_front (take (n + 1) p) p (drop (n + 1) p) (omega (arith, long)) (sym (take-append-drop (n + 1) p)) in
    any_at (λ d. is_below d p) dirs o.0 o.1 (ap (λ (d : List ℕ). is_below d p) (sym (text_is (take (n + 1) p) o.0 o.2)) ∙ below)

pub none_there : (p : List ℕ) (dirs : List (List ℕ)) (n : ℕ) → NoneUpTo p dirs n → length p ≤ n → list_any (λ d. is_below d p) dirs ≡ false
none_there p dirs n none end = contrary (list_any (λ d. is_below d p) dirs) (λ h.
    let o = any_some (λ d. is_below d p) dirs h in
    let more : n < length o.0 = none o.0 o.1 o.2 in
    let parts : length p ≡ length o.0 + length (drop (length o.0) p) =
    ap length (front_below o.0 p o.2) ∙ length-append o.0 (drop (length o.0) p) in
    absurd (omega (arith, end, more, parts)))

-- ---- a set by its keys

module _ {K : Type 0} (f : K → List ℕ) where
  pub has_key : (q : List ℕ) (ks : List K) → list_any (λ k. is_eq (text_cmp q (f k))) ks ≡ has_dir q (map f ks)
  has_key q [] = refl
  has_key q (k ∷ ks) = (λ i. sym (text_ties q (f k)) i || has_key q ks i)

  pub has_inserted : (q : List ℕ) (ks : List K) (k : K)
      → has_dir q (map f (insert_key (λ x y. text_cmp (f x) (f y)) ks k)) ≡ (text_eq q (f k) || has_dir q (map f ks))
  has_inserted q [] k = refl
  has_inserted q (x ∷ xs) k = by (text_cmp (f k) (f x)) refl (has_inserted q xs k)
    where
      by : (o : Ordering) → text_cmp (f k) (f x) ≡ o
          → has_dir q (map f (insert_key (λ x y. text_cmp (f x) (f y)) xs k)) ≡ (text_eq q (f k) || has_dir q (map f xs))
          → has_dir q (map f (match_ordering o (k ∷ x ∷ xs) (x ∷ xs) (x ∷ insert_key (λ x y. text_cmp (f x) (f y)) xs k)))
          ≡ (text_eq q (f k) || has_dir q (map f (x ∷ xs)))
      by Less e ih = refl
      by Equal e ih =
          or_again (text_eq q (f x)) (has_dir q (map f xs))
          ∙ ap (λ (y : List ℕ). text_eq q y || (text_eq q (f x) || has_dir q (map f xs))) (sym (exact_bytes (f k) (f x) e))
      by Greater e ih =
          ap (λ b. text_eq q (f x) || b) ih ∙ or_second (text_eq q (f k)) (text_eq q (f x)) (has_dir q (map f xs))

  pub directories_inserted : (ks : List K) (k : K) → directory (f k) ≡ f k → AreDirectories (map f ks)
      → AreDirectories (map f (insert_key (λ x y. text_cmp (f x) (f y)) ks k))
  directories_inserted [] k d h = (d, tt)
  directories_inserted (x ∷ xs) k d h = by (text_cmp (f k) (f x)) (directories_inserted xs k d h.1)
    where
      by : (o : Ordering) → AreDirectories (map f (insert_key (λ x y. text_cmp (f x) (f y)) xs k))
          → AreDirectories (map f (match_ordering o (k ∷ x ∷ xs) (x ∷ xs) (x ∷ insert_key (λ x y. text_cmp (f x) (f y)) xs k)))
      by Less ih = (d, h)
      by Equal ih = h
      by Greater ih = (h.0, ih)

  pub has_with : (q : List ℕ) (ks new : List K) (k : K) (dir : List ℕ) (was : List (List ℕ))
      → new ≡ insert_key (λ x y. text_cmp (f x) (f y)) ks k → f k ≡ dir → map f ks ≡ was
      → has_dir q (map f new) ≡ (text_eq q dir || has_dir q was)
  has_with q ks new k dir was e d w =
      ap (λ (l : List K). has_dir q (map f l)) e ∙ has_inserted q ks k ∙ (λ i. text_eq q (d i) || has_dir q (w i))

  pub dirs_with : (ks new : List K) (k : K) (dir : List ℕ) → new ≡ insert_key (λ x y. text_cmp (f x) (f y)) ks k → f k ≡ dir
      → directory dir ≡ dir → AreDirectories (map f ks) → AreDirectories (map f new)
  dirs_with ks new k dir e d own h =
      subst (λ (l : List K). AreDirectories (map f l)) (sym e) (directories_inserted ks k
      (subst (λ (l : List ℕ). directory l ≡ l) (sym d) own) h)

-- ---- sets that grow by one another's directories

pub turn_in : (t s r o : Bool) → (t ≡ true → o ≡ true) → ((t || s) || (r && o)) ≡ (s || ((t || r) && o))
turn_in true s r o h = sym (ap (λ b. s || b) (h refl) ∙ or_true s)
turn_in false s r o h = refl

pub turn_out : (t s r o : Bool) → (t ≡ true → o ≡ false) → (s || (r && o)) ≡ (s || ((t || r) && o))
turn_out true s r o h = ap (λ b. s || b) (ap (λ b. r && b) (h refl) ∙ and_false r ∙ sym (h refl))
turn_out false s r o h = refl

-- So far all directories of another set but these have been added.
pub record IsAdding (was other now rest : List (List ℕ)) : Type 0 where
  pub dirs : AreDirectories rest
  pub all : (d : List ℕ) → (has_dir d now || has_dir d rest) ≡ (has_dir d was || has_dir d other)

-- So far all directories but these that another set has too are in the new one.
pub record IsSharing (one other now rest : List (List ℕ)) : Type 0 where
  pub dirs : AreDirectories rest
  pub all : (d : List ℕ) → (has_dir d now || (has_dir d rest && has_dir d other)) ≡ (has_dir d one && has_dir d other)

pub adds : (was other now next rest : List (List ℕ)) (x : List ℕ) → IsAdding was other now (x ∷ rest)
    → ((d : List ℕ) → has_dir d next ≡ (text_eq d x || has_dir d now)) → IsAdding was other next rest
adds was other now next rest x h e = record {
  dirs = h.dirs.1;
  all = λ d.
      ap (λ b. b || has_dir d rest) (e d) ∙ or_moved (text_eq d x) (has_dir d now) (has_dir d rest) ∙ h.all d;
}

pub shares : (one other now next rest : List (List ℕ)) (x : List ℕ) → IsSharing one other now (x ∷ rest) → has_dir x other ≡ true
    → ((d : List ℕ) → has_dir d next ≡ (text_eq d x || has_dir d now)) → IsSharing one other next rest
shares one other now next rest x h t e = record {
  dirs = h.dirs.1;
  all = λ d.
      ap (λ b. b || (has_dir d rest && has_dir d other)) (e d)
      ∙ turn_in (text_eq d x) (has_dir d now) (has_dir d rest) (has_dir d other)
      (λ s. ap (λ (y : List ℕ). has_dir y other) (text_is d x s) ∙ t)
      ∙ h.all d;
}

pub leaves : (one other now rest : List (List ℕ)) (x : List ℕ) → IsSharing one other now (x ∷ rest) → has_dir x other ≡ false
    → IsSharing one other now rest
leaves one other now rest x h t = record {
  dirs = h.dirs.1;
  all = λ d.
      turn_out (text_eq d x) (has_dir d now) (has_dir d rest) (has_dir d other)
      (λ s. ap (λ (y : List ℕ). has_dir y other) (text_is d x s) ∙ t)
      ∙ h.all d;
}

module _ {K : Type 0} (f : K → List ℕ) where
  pub adds_next : (was other now next : List (List ℕ)) (left rest : List K) (k : K) (x : List ℕ) → IsAdding was other now (map f left)
      → left ≡ k ∷ rest → x ≡ f k → ((d : List ℕ) → has_dir d next ≡ (text_eq d x || has_dir d now)) → IsAdding was other next (map f rest)
  adds_next was other now next left rest k x h steps e grown =
      adds was other now next (map f rest) (f k) (subst (λ (l : List K). IsAdding was other now (map f l)) steps h)
      (λ d. grown d ∙ ap (λ (y : List ℕ). text_eq d y || has_dir d now) e)
