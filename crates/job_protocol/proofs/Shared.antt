-- The least path that two chosen attempts write, with the two lowest tasks that write it.
use Rattle.text_and_lists.proofs.Less.{irrefl, lt_not}
use Rattle.text_and_lists.proofs.Members.{false_true, true_or_false}
use Rattle.text_and_lists.specs.Order.{text_cmp, text_eq, text_total}
use Rattle.job_model.specs.Files.{File, has_path}
use Rattle.job_model.specs.JobScript.{Script}
use Rattle.job_model.specs.declared.ends.CommitEnd.{CommitEnd}
use Rattle.job_model.specs.declared.ends.CommitEnd.TheVariants.{SamePath}
use Rattle.job_protocol.proofs.Members.{in_left, in_right}
use Rattle.job_protocol.specs.LaneTable.{In}
use Rattle.job_protocol.specs.OperationLaws.{IsShared}
use Rattle.job_protocol.specs.Outputs.{Picks, files_picked, first_shared, first_where, ordered, same_path, second_where, shared_by}
use Rattle.job_protocol.specs.Outputs.{two_where, wanted, wanted_below, wanted_paths, writes}
use Rattle.std.proofs.Common.{Bool, List, None, Option, Some, ap, arith, cond, false, inl, inr, map, refl, subst, suc, sym, true, zero, ℕ}
use Rattle.std.proofs.Common.{[], ◌+◌, ◌-◌, ◌<◌, ◌∙◌, ◌∷◌, ◌≡◌, ◌≤◌, ◌⊎◌}
use Rattle.std.proofs.lemmas.List.{map-append}
use Rattle.std.specs.BTreeSet.{insert_key}
use Rattle.std.specs.Cmp.Lexicographic.{bytes_decides}
use Rattle.std.specs.FinMap.{nat_cmp-IsAntisymmetric, slice_cmp-IsAntisymmetric}
use Rattle.std.specs.Option.{option_map}
use Rattle.std.specs.Ordering.{is_lt, match_ordering, ordering_reverse}
use Rattle.std.specs.declared.cmp.Ordering.{Ordering}
use Rattle.std.specs.declared.cmp.Ordering.TheVariants.{Equal, Greater, Less}

-- ---- the least number that passes a test

record IsFirst (test : ℕ → Bool) (t n v : ℕ) : Type 0 where
  pub from : t ≤ v
  pub within : v < t + n
  pub passes : test v ≡ true
  pub least : (x : ℕ) → t ≤ x → x < v → test x ≡ false

-- Holds if it is the first one, or if there is none and the result says so.
abbrev First : (ℕ → Bool) → ℕ → ℕ → Option ℕ → Type 0
First test t n (Some v) = IsFirst test t n v
First test t n None = (x : ℕ) → t ≤ x → x < t + n → test x ≡ false

first : (test : ℕ → Bool) (t n : ℕ) → First test t n (first_where test t n)
first test t zero = λ x low high. absurd (omega arith)
first test t (suc n) = by (test t) refl (first_where test (t + 1) n) (first test (t + 1) n)
  where
    by : (b : Bool) → test t ≡ b → (o : Option ℕ) → First test (t + 1) n o → First test t (suc n) (cond b (Some t) o)
    by b h o g = grind arith

-- ---- the two least numbers

record AreTwo (test : ℕ → Bool) (n t u : ℕ) : Type 0 where
  pub first : t < u
  pub last : u < n
  pub passes_first : test t ≡ true
  pub passes_last : test u ≡ true
  pub least : (v : ℕ) → v < u → test v ≡ true → v ≡ t

-- Holds if it is the two least numbers, or if no two pass and the result says so.
abbrev Two : (ℕ → Bool) → ℕ → Option (ℕ × ℕ) → Type 0
Two test n (Some x) = AreTwo test n x.0 x.1
Two test n None = (v x : ℕ) → v < x → x < n → test v ≡ true → test x ≡ true → ⊥

two_by : (test : ℕ → Bool) (n t : ℕ) → IsFirst test 0 n t → (o : Option ℕ) → First test (t + 1) (n - (t + 1)) o
    → Two test n (option_map (λ u. (t, u)) o)
two_by test n t h o g = grind arith

two : (test : ℕ → Bool) (n : ℕ) → Two test n (two_where test n)
two test n = by (first_where test 0 n) (first test 0 n)
  where
    by : (o : Option ℕ) → First test 0 n o → Two test n (second_where test n o)
    by None none = λ v x less high p q. false_true (none v (omega arith) (omega arith)) p
    by (Some t) f = two_by test n t f (first_where test (t + 1) (n - (t + 1))) (first test (t + 1) (n - (t + 1)))

-- ---- members of ordered lists

inserted : (p : List ℕ) (xs : List (List ℕ)) (k : List ℕ) → (k ≡ p) ⊎ In p xs → In p (insert_key text_cmp xs k)
inserted p [] k h = h
inserted p (x ∷ xs) k h = by (text_cmp k x) refl h (inserted p xs k)
  where
    by : (o : Ordering) → text_cmp k x ≡ o → (k ≡ p) ⊎ ((x ≡ p) ⊎ In p xs) → ((k ≡ p) ⊎ In p xs → In p (insert_key text_cmp xs k))
        → In p (match_ordering o (k ∷ x ∷ xs) (x ∷ xs) (x ∷ insert_key text_cmp xs k))
    by Less e h later = h
    by Equal e (inl i) later = inl (sym (slice_cmp-IsAntisymmetric nat_cmp-IsAntisymmetric k x e) ∙ i)
    by Equal e (inr i) later = i
    by Greater e (inr (inl i)) later = inl i
    by Greater e (inr (inr i)) later = inr (later (inr i))
    by Greater e (inl i) later = inr (later (inl i))

insert_from : (p : List ℕ) (xs : List (List ℕ)) (k : List ℕ) → In p (insert_key text_cmp xs k) → (k ≡ p) ⊎ In p xs
insert_from p [] k h = h
insert_from p (x ∷ xs) k h = grind (arith, insert_from p xs k)

in_ordered : (p : List ℕ) (xs : List (List ℕ)) → In p xs → In p (ordered xs)
in_ordered p [] h = h
in_ordered p (x ∷ xs) h = inserted p (ordered xs) x (elim h [ inl e ↦ inl e | inr i ↦ inr (in_ordered p xs i) ])

-- Holds if the list rises.
abbrev Rises : List (List ℕ) → Type 0
Rises [] = Unit {0}
Rises (x ∷ xs) = ((y : List ℕ) → In y xs → text_cmp x y ≡ Less) × Rises xs

insert_rises : (xs : List (List ℕ)) (k : List ℕ) → Rises xs → Rises (insert_key text_cmp xs k)
insert_rises [] k r = (λ y h. absurd h, tt)
insert_rises (x ∷ xs) k r = by (text_cmp k x) refl (insert_rises xs k r.1)
  where
    by : (o : Ordering) → text_cmp k x ≡ o → Rises (insert_key text_cmp xs k)
        → Rises (match_ordering o (k ∷ x ∷ xs) (x ∷ xs) (x ∷ insert_key text_cmp xs k))
    by Less e later = (λ y h. elim h [ inl i ↦ ap (text_cmp k) (sym i) ∙ e | inr i ↦ text_total.trans k x y e (r.0 y i) ], r)
    by Equal e later = r
    by Greater e later = (
      λ y h. elim (insert_from y xs k h) [
        | inl i ↦ ap (text_cmp x) (sym i) ∙ text_total.antisymm x k ∙ ap
            ordering_reverse e
        | inr i ↦ r.0 y i
      ],
      later,
    )

ordered_rises : (xs : List (List ℕ)) → Rises (ordered xs)
ordered_rises [] = tt
ordered_rises (x ∷ xs) = insert_rises (ordered xs) x (ordered_rises xs)

-- ---- each written path is among the wanted paths

has_in : (fs : List File) (p : List ℕ) → has_path fs p ≡ true → In p (map (λ f. f.0) fs)
has_in [] p h = absurd (false_true refl h)
has_in (f ∷ fs) p h = elim (true_or_false (text_eq p f.0)) [
  | inl e ↦ inl (sym ((bytes_decides p f.0).0 e))
  | inr e ↦ inr
      (has_in fs p (rw e at h))
]

last_or_before : (t n : ℕ) → t < suc n → (t ≡ n) ⊎ (t < n)
last_or_before t n h = grind arith

module _ (w : Script) (picks : Picks) where
  in_below : (p : List ℕ) (t n : ℕ) → t < n → writes w picks p t ≡ true → In p (map (λ f. f.0) (wanted_below w picks n))
  in_below p t zero l h = absurd (omega arith)
  in_below p t (suc n) l h = rw (map-append (λ (f : File). f.0) (wanted_below w picks n) (files_picked w n (picks n)))
      (elim (last_or_before t n l) [
        | inl e ↦ in_right p (map (λ f. f.0) (wanted_below w picks n)) _ (has_in (files_picked w n (picks n)) p
            (ap (writes w picks p) (sym e) ∙ h))
        | inr b ↦ in_left p _ (map (λ f. f.0) (files_picked w n (picks n))) (in_below p t n b h)
      ])

  in_wanted : (p : List ℕ) (t : ℕ) → t < w.tasks → writes w picks p t ≡ true → In p (wanted_paths w picks)
  in_wanted p t l h = in_ordered p _ (in_below p t w.tasks l h)

  -- ---- the least path

  record IsLeast (ps : List (List ℕ)) (p : List ℕ) (t u : ℕ) : Type 0 where
    pub two : two_where (writes w picks p) w.tasks ≡ Some (t, u)
    pub least : (q : List ℕ) → In q ps → (two_where (writes w picks q) w.tasks ≡ None → ⊥) → is_lt (text_cmp q p) ≡ false

  -- Holds if it is the least path, or if no two write one and the result says so.
  abbrev Least : List (List ℕ) → Option CommitEnd → Type 0
  Least ps (Some e) = (p : List ℕ) × (t : ℕ) × (u : ℕ) × (e ≡ SamePath p t u) × IsLeast ps p t u
  Least ps None = (q : List ℕ) → In q ps → two_where (writes w picks q) w.tasks ≡ None

  least_of : (ps : List (List ℕ)) → Rises ps → Least ps (first_shared w picks ps)
  least_of [] r = λ q m. absurd m
  least_of (p ∷ ps) r = by (two_where (writes w picks p) w.tasks) refl (first_shared w picks ps) (least_of ps r.1)
    where
      same : (q : List ℕ) → p ≡ q → two_where (writes w picks p) w.tasks ≡ None → two_where (writes w picks q) w.tasks ≡ None
      same q i h = ap (λ v. two_where (writes w picks v) w.tasks) (sym i) ∙ h

      by : (o : Option (ℕ × ℕ)) → two_where (writes w picks p) w.tasks ≡ o → (e : Option CommitEnd) → Least ps e
          → Least (p ∷ ps) (shared_by p o e)
      by (Some x) h e later = (
        p,
        x.0,
        x.1,
        refl,
        record {
          two = h;
          least = λ q m s. elim m
              [ inl i ↦ ap (λ v. is_lt (text_cmp v p)) (sym i) ∙ irrefl text_total p | inr n ↦ lt_not text_total p q (ap is_lt (r.0 q n)) ];
        },
      )
      by None h None later = λ q m. elim m [ inl i ↦ same q i h | inr n ↦ later q n ]
      by None h (Some e) g = (
        g.0,
        g.1,
        g.2,
        g.3,
        record {
          two = g.4.two;
          least = λ q m s. elim m
              [ inl i ↦ absurd (s (same q i h)) | inr n ↦ g.4.least q n s ];
        },
      )

  all_least : Least (wanted_paths w picks) (same_path w picks)
  all_least = least_of (wanted_paths w picks) (ordered_rises (map (λ f. f.0) (wanted w picks)))

  -- No two chosen attempts write the path.
  pub none_write : (p : List ℕ) → two_where (writes w picks p) w.tasks ≡ None → (t u : ℕ) → t < u → u < w.tasks → writes w picks p t ≡ true
      → writes w picks p u ≡ true → ⊥
  none_write p e = subst (Two (writes w picks p) w.tasks) e (two (writes w picks p) w.tasks)

  pub shared_found : (e : CommitEnd) → same_path w picks ≡ Some e → (p : List ℕ) × (t : ℕ) × (u : ℕ) × (e ≡ SamePath p t u)
      × IsShared w picks p t u
  shared_found e h = grind (arith, all_least, two, first, in_wanted, none_write)

  pub shared_none : same_path w picks ≡ None → (p : List ℕ) (t u : ℕ) → t < u → u < w.tasks → writes w picks p t ≡ true
      → writes w picks p u ≡ true → ⊥
  shared_none f p t u l h a b = none_write p (subst (Least (wanted_paths w picks)) f all_least p (in_wanted p u h b)) t u l h a b
