-- The listing of uploads, walked from a place on.
use Rattle.text_and_lists.proofs.Bools.{contrary}
use Rattle.text_and_lists.proofs.Less.{le_le, less_of, lt, lt_back, lt_le}
use Rattle.text_and_lists.proofs.Naturals.{no_less}
use Rattle.text_and_lists.proofs.Tree.{map_sorted}
use Rattle.text_and_lists.specs.Order.{text_cmp, text_total}
use Rattle.multipart.proofs.Keyed.{keyed_own, keys_keyed}
use Rattle.multipart.specs.inner.Index.{keyed}
use Rattle.multipart.specs.inner.Listing.{AreOwn, Follows, below}
use Rattle.s3_types.proofs.Begins.{between, from_prefix}
use Rattle.s3_types.specs.Multipart.{is_behind, listed, ref_cmp, refs}
use Rattle.s3_types.specs.Pages.{begins}
use Rattle.s3_types.specs.Store.{Uploads}
use Rattle.s3_types.specs.declared.request.UploadRef.{UploadRef}
use Rattle.std.proofs.Common.{Bool, List, None, Option, Some, ap, append-nil, arith, cond, false, length, map, nat_lt, not, refl, subst}
use Rattle.std.proofs.Common.{sym, take, true, ℕ, [], ◌&&◌, ◌++◌, ◌∙◌, ◌∷◌, ◌≡◌, ◌≤◌}
use Rattle.std.proofs.Math.Bool.{and-true}
use Rattle.std.proofs.lemmas.Bool.{false≢true, not-true}
use Rattle.std.proofs.lemmas.Bool.Decides.{nat_tests}
use Rattle.std.proofs.lemmas.List.{take_all}
use Rattle.std.proofs.lemmas.Map.Keys.{sorted_head, sorted_tail}
use Rattle.std.specs.BTreeMap.Range.{entries_between, is_from_start}
use Rattle.std.specs.List.{filter}
use Rattle.std.specs.List.Sorted.{IsStrictlySortedBy}
use Rattle.std.specs.Map.{keys_of}
use Rattle.std.specs.Ordering.{is_gt, is_le, is_lt, nat_cmp, ordering_then}
use Rattle.std.specs.declared.cmp.Ordering.{Ordering}
use Rattle.std.specs.declared.cmp.Ordering.TheVariants.{Equal, Greater, Less}
use Rattle.std.specs.declared.ops.Bound.{Bound}
use Rattle.std.specs.declared.ops.Bound.TheVariants.{Excluded, Included, Unbounded}
use Rattle.std.specs.FinMap as fin

-- ---- the end of a page

pub follows_rest : (p : List ℕ) (r : UploadRef) (rs : List UploadRef) → Follows p (r ∷ rs) → Follows p rs
follows_rest p r [] h = tt
follows_rest p r (s ∷ rs) h = (le_le text_total p r.key s.key h.0 h.1.0, h.1.1)

none_after : (p k : List ℕ) (rs : List UploadRef) → lt text_cmp k p ≡ false → begins p k ≡ false → Follows k rs → below p rs ≡ []
none_after p k [] g n h = refl
none_after p k (s ∷ rs) g n h =
    let m : begins p s.key ≡ false = contrary (begins p s.key) (λ t. sym n ∙ between p k s.key g h.0 t) in
    ap (λ b. cond b (s ∷ below p rs) (below p rs)) m ∙ none_after p s.key rs (le_le text_total p k s.key g h.0) m h.1

-- After a key that does not begin with p, no key begins with p.
pub none_left : (p : List ℕ) (rest es : List (UploadRef × List ℕ)) (e : UploadRef × List ℕ) → rest ≡ e ∷ es → Follows p (keys_of rest)
    → begins p e.0.key ≡ false → below p (keys_of rest) ≡ []
none_left p rest es e h g f = grind (arith, none_after)

-- The page is whole.
whole : (xs rest all : List UploadRef) → xs ++ rest ≡ all → rest ≡ [] → xs ≡ all
whole xs rest all told none = sym (append-nil xs) ∙ ap (λ l. xs ++ l) (sym none) ∙ told

pub taken : (n : ℕ) (xs rest all : List UploadRef) → xs ++ rest ≡ all → rest ≡ [] → length xs ≤ n → xs ≡ take n all
taken n xs rest all told none l = sym (take_all n xs l) ∙ ap (take n) (whole xs rest all told none)

pub no_more : (n : ℕ) (xs rest all : List UploadRef) → xs ++ rest ≡ all → rest ≡ [] → length xs ≤ n → false ≡ nat_lt n (length all)
no_more n xs rest all told none l = no_less n (length xs) l ∙ ap (λ l. nat_lt n (length l)) (whole xs rest all told none)

-- ---- from a start on

same_below : (p : List ℕ) (f g : UploadRef → Bool) (rs : List UploadRef) → ((r : UploadRef) → begins p r.key ≡ true → f r ≡ g r)
    → below p (filter f rs) ≡ below p (filter g rs)
same_below p f g [] h = refl
same_below p f g (r ∷ rs) h = by (same_below p f g rs h) (begins p r.key) refl
  where
    out : (h : UploadRef → Bool) (b : Bool) → h r ≡ b → begins p r.key ≡ false → below p (filter h (r ∷ rs)) ≡ below p (filter h rs)
    out h b g e = grind arith

    by : below p (filter f rs) ≡ below p (filter g rs) → (b : Bool) → begins p r.key ≡ b
        → below p (filter f (r ∷ rs)) ≡ below p (filter g (r ∷ rs))
    by ih false n = out f (f r) refl n ∙ ih ∙ sym (out g (g r) refl n)
    by ih true t =
        ap (λ b. below p (cond b (r ∷ filter f rs) (filter f rs))) (h r t)
        ∙ in_turn (g r)
      where
        in_turn : (b : Bool) → below p (cond b (r ∷ filter f rs) (filter f rs)) ≡ below p (cond b (r ∷ filter g rs) (filter g rs))
        in_turn true = ap (λ l. cond (begins p r.key) (r ∷ l) l) ih
        in_turn false = ih

not_falling : (a b : UploadRef) → ref_cmp a b ≡ Less → lt text_cmp b.key a.key ≡ false
not_falling a b h = lt_back text_total a.key b.key ∙ by (text_cmp a.key b.key) (nat_cmp a.upload b.upload) h
  where
    by : (r s : Ordering) → ordering_then r s ≡ Less → is_gt r ≡ false
    by Greater s h = ap is_gt h
    by _ s h = refl

kept_follows : (f : UploadRef → Bool) (r : UploadRef) (rs : List UploadRef) → IsStrictlySortedBy ref_cmp (r ∷ rs)
    → Follows r.key (filter f rs)
kept_follows f r [] s = tt
kept_follows f r (x ∷ rs) s = by (kept_follows f x rs (sorted_tail ref_cmp r (x ∷ rs) s)) (f x)
  where
    less : lt text_cmp x.key r.key ≡ false
    less = not_falling r x (sorted_head ref_cmp r (x ∷ rs) s).0

    lower : (l : List UploadRef) → Follows x.key l → Follows r.key l
    lower [] h = tt
    lower (y ∷ l) h = (le_le text_total r.key x.key y.key less h.0, h.1)

    by : Follows x.key (filter f rs) → (b : Bool) → Follows r.key (cond b (x ∷ filter f rs) (filter f rs))
    by ih true = (less, ih)
    by ih false = lower (filter f rs) ih

all_follow : (p : List ℕ) (f : UploadRef → Bool) (rs : List UploadRef) → IsStrictlySortedBy ref_cmp rs
    → ((r : UploadRef) → f r ≡ true → lt text_cmp r.key p ≡ false) → Follows p (filter f rs)
all_follow p f [] s h = tt
all_follow p f (r ∷ rs) s h = by (all_follow p f rs (sorted_tail ref_cmp r rs s) h) (f r) refl
  where
    by : Follows p (filter f rs) → (b : Bool) → f r ≡ b → Follows p (cond b (r ∷ filter f rs) (filter f rs))
    by ih true t = (h r t, kept_follows f r rs s)
    by ih false t = ih

-- True if the place is at the start or after it.
abbrev from_start : Bound UploadRef → UploadRef → Bool
from_start lo r = is_from_start ref_cmp lo r && true

keys_between : (lo : Bound UploadRef) (es : List (UploadRef × List ℕ))
    → keys_of (entries_between ref_cmp lo Unbounded es) ≡ filter (from_start lo) (keys_of es)
keys_between lo [] = refl
keys_between lo (e ∷ es) = by (from_start lo e.0) (keys_between lo es)
  where
    by : (b : Bool) → keys_of (entries_between ref_cmp lo Unbounded es) ≡ filter (from_start lo) (keys_of es)
        → keys_of (cond b (e ∷ entries_between ref_cmp lo Unbounded es) (entries_between ref_cmp lo Unbounded es)) ≡ cond b
        (e.0 ∷ filter (from_start lo) (keys_of es)) (filter (from_start lo) (keys_of es))
    by b h = grind arith

first_in : (p : List ℕ) (r : UploadRef) → is_le (ref_cmp (record { key = p; upload = 0 }) r) ≡ not (lt text_cmp r.key p)
first_in p r = by (text_cmp p r.key) (nat_cmp 0 r.upload) (zero_least r.upload) ∙ ap not (sym (lt_back text_total p r.key))
  where
    zero_least : (n : ℕ) → is_gt (nat_cmp 0 n) ≡ false
    zero_least n = grind (arith, nat_tests)

    by : (r s : Ordering) → is_gt s ≡ false → is_le (ordering_then r s) ≡ not (is_gt r)
    by Less s h = refl
    by Equal Less h = refl
    by Equal Equal h = refl
    by Equal Greater h = absurd (false≢true (sym h))
    by Greater s h = refl

-- The entries of the index from a start on.
abbrev pub from_place : Bound UploadRef → Uploads → List (UploadRef × List ℕ)
from_place lo m = entries_between ref_cmp lo Unbounded (fin.entries (keyed m))

-- The first place that a key with prefix p can have.
abbrev pub first_of : List ℕ → Bound UploadRef
first_of p = Included (record { key = p; upload = 0 })

follows_from : (p : List ℕ) (lo : Bound UploadRef) (m : Uploads) → ((r : UploadRef) → from_start lo r ≡ true → lt text_cmp r.key p ≡ false)
    → Follows p (keys_of (from_place lo m))
follows_from p lo m h =
    subst (Follows p) (sym (keys_between lo (fin.entries (keyed m)))) (all_follow p (from_start lo) (keys_of (fin.entries (keyed m)))
    (map_sorted ref_cmp (keyed m)) h)

listed_from : (p : List ℕ) (lo : Bound UploadRef) (after : Option UploadRef) (m : Uploads)
    → ((r : UploadRef) → begins p r.key ≡ true → from_start lo r ≡ is_behind after r)
    → below p (keys_of (from_place lo m)) ≡ listed p after m
listed_from p lo after m h = grind (arith, keys_between, same_below, keys_keyed)

-- The entries that are left at the start of a page after `after`.
pub record IsRest (p : List ℕ) (after : Option UploadRef) (m : Uploads) (rest : List (UploadRef × List ℕ)) : Type 0 where
  pub follows : Follows p (keys_of rest)
  pub own : AreOwn rest
  pub listed_all : below p (keys_of rest) ≡ listed p after m

-- If a key is less than p, all keys that begin with p come after it.
pub first_after : (p : List ℕ) (a : UploadRef) (m : Uploads) → lt text_cmp a.key p ≡ true → listed p None m ≡ listed p (Some a) m
first_after p a m l = same_below p (is_behind None) (is_behind (Some a)) (map (λ e. e.0) (fin.entries (refs m)))
    (λ r b. sym (by (text_cmp a.key r.key) (nat_cmp a.upload r.upload) (lt_le text_total a.key p r.key l (from_prefix p r.key b))))
  where
    by : (r s : Ordering) → is_lt r ≡ true → is_lt (ordering_then r s) ≡ true
    by Less s h = refl
    by _ s h = absurd (false≢true h)

filter_own : (f : UploadRef × List ℕ → Bool) (es : List (UploadRef × List ℕ)) → AreOwn es → AreOwn (filter f es)
filter_own f [] h = tt
filter_own f (e ∷ es) h = (elim (f e) as (λ b. AreOwn (filter f es) → AreOwn (cond b (e ∷ filter f es) (filter f es)))
    [ true ↦ λ ih. (h.0, ih) | false ↦ λ ih. ih ]) (filter_own f es h.1)

-- From a start on, each place is stored with its own key.
own_from : (lo : Bound UploadRef) (m : Uploads) → AreOwn (from_place lo m)
own_from lo m = filter_own _ (fin.entries (keyed m)) (keyed_own m)

pub first_rest : (p k : List ℕ) (m : Uploads) (rest : List (UploadRef × List ℕ)) → rest ≡ from_place (first_of k) m → k ≡ p
    → IsRest p None m rest
first_rest p k m rest e q = subst (IsRest p None m) (sym (e ∙ ap (λ k. from_place (first_of k) m) q)) (record {
  follows = follows_from p (first_of p) m (λ r h. not-true _ (sym (first_in p r) ∙ sym (and-true _) ∙ h));
  own = own_from (first_of p) m;
  listed_all = listed_from p (first_of p) None m (λ r b. and-true _ ∙ first_in p r ∙ ap not (from_prefix p r.key b));
})

pub later_rest : (p : List ℕ) (a b : UploadRef) (m : Uploads) (rest : List (UploadRef × List ℕ)) → rest ≡ from_place (Excluded b) m → b ≡ a
    → lt text_cmp a.key p ≡ false → IsRest p (Some a) m rest
later_rest p a b m rest e q l = subst (IsRest p (Some a) m) (sym (e ∙ ap (λ b. from_place (Excluded b) m) q)) (record {
  follows = follows_from p (Excluded a) m (λ r h. le_le text_total p a.key r.key l (not_falling a r (less_of _ (sym (and-true _) ∙ h))));
  own = own_from (Excluded a) m;
  listed_all = listed_from p (Excluded a) (Some a) m (λ r b. and-true _);
})
