-- The walk finds exactly what is listed.
use Rattle.text_and_lists.proofs.Bools.{contrary}
use Rattle.text_and_lists.proofs.Less.{irrefl, le_lt, lt_back, lt_le}
use Rattle.text_and_lists.proofs.Tree.{map_sorted, tied}
use Rattle.text_and_lists.specs.Order.{text_cmp, text_total}
use Rattle.s3_types.proofs.Begins.{between}
use Rattle.s3_types.specs.Pages.{begins, entry_by, entry_of, folded_from, is_again, listed, stem_if, text_in}
use Rattle.s3_types.specs.Store.{Objects}
use Rattle.s3_types.specs.declared.object.Object.{Object}
use Rattle.s3_types.specs.declared.reply.PageEntry.{PageEntry}
use Rattle.std.proofs.Common.{Bool, List, None, Option, Some, ap, arith, cond, false, inl, inr, length, map, refl, subst, sym, true, ℕ, []}
use Rattle.std.proofs.Common.{◌++◌, ◌∙◌, ◌∷◌, ◌≡◌}
use Rattle.std.proofs.lemmas.Bool.{cases_Bool, false≢true}
use Rattle.std.proofs.lemmas.Map.Keys.{sorted_head, sorted_tail}
use Rattle.std.proofs.lemmas.Map.Lookups.{exact_bytes}
use Rattle.std.specs.FinMap.{entries}
use Rattle.std.specs.List.{filter}
use Rattle.std.specs.List.Sorted.{IsStrictlySortedBy}
use Rattle.std.specs.Map.{keys_of}
use Rattle.std.specs.Ordering.{is_eq, is_gt, is_lt}
use Rattle.std.specs.declared.cmp.Ordering.TheVariants.{Equal, Greater, Less}
use Rattle.store_frame.proofs.Prefix.{le_le, lt, lt_not}
use Rattle.store_frame.proofs.Walked.{stems, text_le}
use Rattle.store_frame.specs.inner.Walk.{text_by, text_of, walked}

-- The entries with texts greater than that of the entry before them, or than a for the first.
abbrev given : List ℕ → List PageEntry → List PageEntry
given a [] = []
given a (x ∷ xs) = cond (lt a (text_in x)) (x ∷ given (text_in x) xs) (given a xs)

text_by_entry : (o : Option (List ℕ)) (q : List ℕ) (n : ℕ) → text_by o q ≡ text_in (entry_by o q n)
text_by_entry o q n = grind arith

abbrev entries_below : List ℕ → Bool → List (List ℕ × Object) → List PageEntry
entries_below p d es = map (entry_of p d) (filter (λ e. begins p e.0) es)

walked_given : (p : List ℕ) (d : Bool) (a : List ℕ) (es : List (List ℕ × Object)) → walked p d a es ≡ given a (entries_below p d es)
walked_given p d a [] = refl
walked_given p d a (e ∷ es) = elim (cases_Bool (begins p e.0)) [
  | inl t ↦ rw (
    t,
    text_by_entry (stem_if d p e.0) e.0 (length e.1.bytes),
    walked_given p d (text_in (entry_of p d e)) es,
    walked_given p d
        a es,
  ) refl
  | inr n ↦ rw (n, walked_given p d a es) refl
]

-- The texts do not fall.
abbrev Rising : List ℕ → List PageEntry → Type 0
Rising w [] = Unit {0}
Rising w (x ∷ xs) = (lt (text_in x) w ≡ false) × Rising (text_in x) xs

all_kept : (b w : List ℕ) (xs : List PageEntry) → lt b w ≡ true → Rising w xs → filter (λ x. lt b (text_in x)) xs ≡ xs
all_kept b w [] l r = refl
all_kept b w (x ∷ xs) l r =
    let h : lt b (text_in x) ≡ true = lt_le text_total b w (text_in x) l r.0 in
    rw (h, all_kept b (text_in x) xs h r.1) refl

lower : (u w : List ℕ) (xs : List PageEntry) → lt w u ≡ false → Rising w xs → Rising u xs
lower u w [] l r = tt
lower u w (x ∷ xs) l r = (le_le u w (text_in x) l r.0, r.1)

-- After a text u that was given, the entries greater than u and those greater than a smaller text a fold to the same list.
same_after : (a u : List ℕ) (xs : List PageEntry) → lt a u ≡ true → Rising u xs
    → folded_from (Some u) (filter (λ x. lt a (text_in x)) xs) ≡ folded_from (Some u) (filter (λ x. lt u (text_in x)) xs)
same_after a u [] l r = refl
same_after a u (x ∷ xs) l r =
    let h : lt a (text_in x) ≡ true = lt_le text_total a u (text_in x) l r.0 in
    rw h ((elim (text_cmp u (text_in x)) as (λ o. text_cmp u (text_in x) ≡ o
    → (is_again (Some u) x ≡ is_eq o) → folded_from (Some u) (x ∷ filter (λ x. lt a (text_in x)) xs) ≡ folded_from (Some u)
    (filter (λ x. lt u (text_in x)) (x ∷ xs))) [
      | Equal ↦ λ e g. rw e (same_after a u xs l (lower u (text_in x) xs r.0 r.1))
      | Less ↦ λ e g. rw (e, all_kept a (text_in x) xs h r.1, all_kept u (text_in x) xs (ap is_lt e) r.1, e) refl
      | Greater ↦ λ e g. absurd (false≢true (sym r.0 ∙ lt_back text_total u (text_in x) ∙ ap is_gt e))
    ]) refl refl)

abbrev Started : List PageEntry → Type 0
Started [] = Unit {0}
Started (x ∷ xs) = Rising (text_in x) xs

start : (w : List ℕ) (xs : List PageEntry) → Rising w xs → Started xs
start w xs h = grind arith

-- The last text that was given is not greater than a.
abbrev Last : List ℕ → Option (List ℕ) → Type 0
Last a None = Unit {0}
Last a (Some t) = lt a t ≡ false

not_again : (a : List ℕ) (o : Option (List ℕ)) (x : PageEntry) → Last a o → lt a (text_in x) ≡ true → is_again o x ≡ false
not_again a None x h l = refl
not_again a (Some t) x h l = contrary _ (λ e. sym h ∙ ap (lt a) (exact_bytes t (text_in x) (tied (text_cmp t (text_in x)) e)) ∙ l)

given_listed : (a : List ℕ) (o : Option (List ℕ)) (xs : List PageEntry) → Last a o → Started xs
    → given a xs ≡ folded_from o (filter (λ x. lt a (text_in x)) xs)
given_listed a o [] h s = refl
given_listed a o (x ∷ xs) h s = elim (cases_Bool (lt a (text_in x))) [
  | inr n ↦ rw (n, given_listed a o xs h (start (text_in x) xs s)) refl
  | inl t ↦
      rw (
        t,
        not_again a o x h t,
        given_listed (text_in x) (Some (text_in x)) xs (irrefl text_total (text_in x)) (start (text_in x) xs s),
        same_after a (text_in x) xs t s,
      ) refl
]

-- A greater key below p does not have a smaller text.
text_rises : (p : List ℕ) (d : Bool) (k q : List ℕ) → lt k q ≡ true → lt (text_of p d q) (text_of p d k) ≡ false
text_rises p d k q l = by (stem_if d p q) refl
  where
    tk : lt k (text_of p d k) ≡ false
    tk = text_le p (stem_if d p) (stems p d) k (stem_if d p k) refl

    by : (o : Option (List ℕ)) → stem_if d p q ≡ o → lt (text_of p d q) (text_of p d k) ≡ false
    by None n = rw n (le_le (text_of p d k) k q tk (lt_not k q l))
    by (Some s) n = rw n (contrary (lt (s ++ 47 ∷ []) (text_of p d k)) (λ t.
        let b : begins (s ++ 47 ∷ []) k ≡ true = between (s ++ 47 ∷ []) k q (lt_not (s ++ 47 ∷ []) k
        (lt_le text_total (s ++ 47 ∷ []) (text_of p d k) k t tk)) (lt_not k q l)
        ((stems p d).below q s n) in
        sym (irrefl text_total (s ++ 47 ∷ [])) ∙ (rw ((stems p d).same q s k n b) at t)))

rises_after : (p : List ℕ) (d : Bool) (k : List ℕ) (es : List (List ℕ × Object)) → IsStrictlySortedBy text_cmp (k ∷ keys_of es)
    → Rising (text_of p d k) (entries_below p d es)
rises_after p d k [] s = tt
rises_after p d k (f ∷ es) s =
    let up : lt (text_in (entry_of p d f)) (text_of p d k) ≡ false = rw same at
    (text_rises p d k f.0 (ap is_lt (sorted_head text_cmp k (f.0 ∷ keys_of es) s).0)) in
    let ih : Rising (text_in (entry_of p d f)) (entries_below p d es) = rw same at
    (rises_after p d f.0 es (sorted_tail text_cmp k (f.0 ∷ keys_of es) s)) in
    elim (begins p f.0) as (λ b. Rising (text_of p d k) (map (entry_of p d)
    (cond b (f ∷ filter (λ e. begins p e.0) es) (filter (λ e. begins p e.0) es)))) [
      | true ↦ (up, ih)
      | false ↦ lower (text_of p d k) (text_in (entry_of p d f)) (entries_below p d es) up ih
    ]
  where
    same : text_of p d f.0 ≡ text_in (entry_of p d f)
    same = text_by_entry (stem_if d p f.0) f.0 (length f.1.bytes)

started : (p : List ℕ) (d : Bool) (es : List (List ℕ × Object)) → IsStrictlySortedBy text_cmp (keys_of es) → Started (entries_below p d es)
started p d [] s = tt
started p d (e ∷ es) s = elim (begins p e.0) as (λ b. Started (map (entry_of p d)
    (cond b (e ∷ filter (λ e. begins p e.0) es) (filter (λ e. begins p e.0) es)))) [
      | true ↦ subst (λ t. Rising t (entries_below p d es)) (text_by_entry (stem_if d p e.0) e.0 (length e.1.bytes))
          (rises_after p d e.0 es s)
      | false ↦ (started p d es (sorted_tail text_cmp e.0 (keys_of es) s))
    ]

pub walked_listed : (p : List ℕ) (d : Bool) (a : List ℕ) (m : Objects) → walked p d a (entries m) ≡ listed p d a m
walked_listed p d a m =
    walked_given p d a (entries m)
    ∙ given_listed a None (entries_below p d (entries m)) tt (started p d (entries m) (map_sorted text_cmp m))

-- ---- after an entry

given_greater : (a : List ℕ) (xs : List PageEntry) (x : PageEntry) (rest : List PageEntry) → given a xs ≡ x ∷ rest → lt a (text_in x) ≡ true
given_greater a [] x rest h = absurd (cc)
given_greater a (y ∷ ys) x rest h = elim (cases_Bool (lt a (text_in y))) [
  | inr n ↦ given_greater a ys x rest (rw n at h)
  | inl t ↦ let e : y ∷ given (text_in y) ys ≡ x ∷ rest = rw t at h in let f : y ≡ x = cc in rw f at t
]

given_behind : (a : List ℕ) (xs : List PageEntry) (x : PageEntry) (rest : List PageEntry) → given a xs ≡ x ∷ rest
    → given (text_in x) xs ≡ rest
given_behind a [] x rest h = absurd (cc)
given_behind a (y ∷ ys) x rest h = elim (cases_Bool (lt a (text_in y))) [
  | inr n ↦
      let g : given a ys ≡ x ∷ rest = rw n at h in
      rw (lt_not (text_in y) (text_in x) (le_lt text_total (text_in y) a (text_in x) n (given_greater a ys x rest g)))
      (given_behind a ys x rest g)
  | inl t ↦
      let e : y ∷ given (text_in y) ys ≡ x ∷ rest = rw t at h in
      let f : y ≡ x = cc in
      let g : given (text_in y) ys ≡ rest = cc in
      rw (← f, irrefl text_total (text_in y)) g
]

-- After the first entry, the others are listed.
pub listed_behind : (p : List ℕ) (d : Bool) (a : List ℕ) (m : Objects) (x : PageEntry) (rest : List PageEntry) → listed p d a m ≡ x ∷ rest
    → listed p d (text_in x) m ≡ rest
listed_behind p d a m x rest h =
    let s = started p d (entries m) (map_sorted text_cmp m) in
    sym (given_listed (text_in x) None (entries_below p d (entries m)) tt s)
    ∙ given_behind a (entries_below p d (entries m)) x rest (given_listed a None (entries_below p d (entries m)) tt s ∙ h)
