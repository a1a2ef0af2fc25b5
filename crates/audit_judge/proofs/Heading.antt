-- The facts that hold of a claim while its attempts and files are listed.
use Rattle.audit_claims.proofs.Owned.{may_add, owner_attempt, owner_file}
use Rattle.audit_claims.specs.Fits.{after_fit, fit_of}
use Rattle.audit_claims.specs.declared.claims.FileFit.{FileFit}
use Rattle.audit_claims.specs.declared.claims.FileFit.TheVariants.{Added, Repeated, SamePath}
use Rattle.audit_claims.specs.Claims.{Claimed, Tags, with_next}
use Rattle.text_and_lists.proofs.Members.{text_is}
use Rattle.text_and_lists.specs.Order.{text_eq}
use Rattle.judging.proofs.Owned.{either}
use Rattle.judging.specs.Listed.{Listed, ListedOnce, Numbered, numbered, owner, with_attempt, with_file, with_last, writes_among}
use Rattle.soundness.specs.Claims.{Files, file_at}
use Rattle.std.proofs.Common.{Bool, List, None, Option, Some, [], ap, append_assoc, arith, cond, false, inl, inr, length, refl, replicate}
use Rattle.std.proofs.Common.{subst, sym, true, ℕ, ◌++◌, ◌<◌, ◌||◌, ◌∙◌, ◌∷◌, ◌≡◌}
use Rattle.std.proofs.lemmas.Bool.{eq-eqb, eqb-true, false≢true, true≢false}
use Rattle.std.proofs.lemmas.List.Elements.{All-from_recursion, recursion_from_All}
use Rattle.std.specs.List.{AllByRecursion}
use Rattle.std.specs.Map.{lookup}
use Rattle.std.specs.Option.{unwrap_or}
use Rattle.std.specs.Prelude.{is_some, nat_eq}
use Rattle.audit_judge.proofs.Narrowed.{among}
use Rattle.audit_judge.proofs.Steps.{AllUp, follows_first}
use Rattle.audit_judge.specs.Bench.{Bench}
use Rattle.audit_judge.specs.Deciding.{bench_of}
use Rattle.audit_judge.specs.Scene.{Scene}
use Rattle.audit_judge.specs.inner.Scene.{AreKnown}
use Rattle.soundness.specs.declared.marker.Marker.{Marker}
use Rattle.audit_claims.proofs.Owned.{some_attempt, some_file}
use Rattle.audit_claims.specs.Directories.{Reached}
use Rattle.audit_claims.specs.Etags.{TagMap}
use Rattle.soundness.specs.declared.keeps.Keeps.{Keeps}
use Rattle.soundness.specs.declared.marker.Marker.TheVariants as markers
use Rattle.audit_judge.specs.Following.{Follows, GoodList, Waits, new_bench, rows_up}

-- ---- nothing is listed yet

pub good_none : (tasks : ℕ) → GoodList tasks []
good_none tasks = record { below = λ k d l. absurd (omega (arith, l)); once = tt; own = λ t p h. absurd (false≢true h) }

-- ---- one more attempt

lookup_attempt : (k t a : ℕ) (xs : Listed Tags) → nat_eq k t ≡ false → lookup (nat_eq k) (with_attempt t a xs) ≡ lookup (nat_eq k) xs
lookup_attempt k t a [] other = ap (λ b. cond b (Some ((a, []) ∷ [])) None) other
lookup_attempt k t a (x ∷ xs) other = by (nat_eq t x.0) refl (lookup_attempt k t a xs other)
  where
    not_here : nat_eq t x.0 ≡ true → nat_eq k x.0 ≡ false
    not_here e = subst (λ n. nat_eq k n ≡ false) (eqb-true t x.0 e) other

    by : (b : Bool) → nat_eq t x.0 ≡ b → lookup (nat_eq k) (with_attempt t a xs) ≡ lookup (nat_eq k) xs
        → lookup (nat_eq k) (cond b ((x.0, x.1 ++ (a, []) ∷ []) ∷ xs) (x ∷ with_attempt t a xs)) ≡ lookup (nat_eq k) (x ∷ xs)
    by true e later = ap (λ c. cond c (Some (x.1 ++ (a, []) ∷ [])) (lookup (nat_eq k) xs)) (not_here e)
        ∙ sym (ap (λ c. cond c (Some x.1) (lookup (nat_eq k) xs)) (not_here e))
    by false e later = ap (cond (nat_eq k x.0) (Some x.1)) later

turned : (k t : ℕ) → nat_eq t k ≡ false → nat_eq k t ≡ false
turned k t h = elim (either (nat_eq k t)) [ inr n ↦ n | inl e ↦ absurd (true≢false (sym (eq-eqb t k (sym (eqb-true k t e))) ∙ h)) ]

once_attempt : (t a : ℕ) (xs : Listed Tags) → ListedOnce xs → ListedOnce (with_attempt t a xs)
once_attempt t a [] once = (refl, tt)
once_attempt t a (x ∷ xs) once = by (nat_eq t x.0) refl (once_attempt t a xs once.1)
  where
    by : (b : Bool) → nat_eq t x.0 ≡ b → ListedOnce (with_attempt t a xs)
        → ListedOnce (cond b ((x.0, x.1 ++ (a, []) ∷ []) ∷ xs) (x ∷ with_attempt t a xs))
    by true e later = once
    by false e later = (lookup_attempt x.0 t a xs (turned x.0 t e) ∙ once.0, later)

below_attempt : (tasks t a : ℕ) (xs : Listed Tags) → t < tasks → AllByRecursion (λ x. x.0 < tasks) xs
    → AllByRecursion (λ x. x.0 < tasks) (with_attempt t a xs)
below_attempt tasks t a [] l below = (l, tt)
below_attempt tasks t a (x ∷ xs) l below = by (nat_eq t x.0) (below_attempt tasks t a xs l below.1)
  where
    by : (b : Bool) → AllByRecursion (λ x. x.0 < tasks) (with_attempt t a xs)
        → AllByRecursion (λ x. x.0 < tasks) (cond b ((x.0, x.1 ++ (a, []) ∷ []) ∷ xs) (x ∷ with_attempt t a xs))
    by true later = below
    by false later = (below.0, later)

none_written : (p : List ℕ) (a : ℕ) (ns : Numbered Tags) → writes_among p (ns ++ (a, []) ∷ []) ≡ writes_among p ns
none_written p a [] = refl
none_written p a (x ∷ xs) = ap (λ b. is_some (file_at x.1 p) || b) (none_written p a xs)

numbered_attempt : (p : List ℕ) (t a : ℕ) (xs : Listed Tags)
    → writes_among p (numbered t (with_attempt t a xs)) ≡ writes_among p (numbered t xs)
numbered_attempt p t a [] =
    ap (λ b. writes_among {I = Tags} p (unwrap_or (cond b (Some ((a, []) ∷ [])) None) [])) (eq-eqb t t refl)
numbered_attempt p t a (x ∷ xs) = by (nat_eq t x.0) refl (numbered_attempt p t a xs)
  where
    by : (b : Bool) → nat_eq t x.0 ≡ b → writes_among p (numbered t (with_attempt t a xs)) ≡ writes_among p (numbered t xs)
        → writes_among p (numbered t (cond b ((x.0, x.1 ++ (a, []) ∷ []) ∷ xs) (x ∷ with_attempt t a xs)))
        ≡ writes_among p (numbered t (x ∷ xs))
    by true e later =
        ap (λ c. writes_among p (unwrap_or (cond c (Some (x.1 ++ (a, []) ∷ [])) (lookup (nat_eq t) xs)) [])) e
        ∙ none_written p a x.1 ∙ sym (ap (λ c. writes_among p (unwrap_or (cond c (Some x.1) (lookup (nat_eq t) xs)) [])) e)
    by false e later =
        ap (λ c. writes_among p (unwrap_or (cond c (Some x.1) (lookup (nat_eq t) (with_attempt t a xs))) [])) e
        ∙ later ∙ sym (ap (λ c. writes_among p (unwrap_or (cond c (Some x.1) (lookup (nat_eq t) xs)) [])) e)

pub good_attempt : (tasks t a : ℕ) (xs : Listed Tags) → GoodList tasks xs → t < tasks → GoodList tasks (with_attempt t a xs)
good_attempt tasks t a xs good l = record {
  below = All-from_recursion (λ x. x.0 < tasks) (with_attempt t a xs)
      (below_attempt tasks t a xs l (recursion_from_All (λ x. x.0 < tasks) xs good.below));
  once = once_attempt t a xs good.once;
  own = λ u p h. owner_attempt p t a xs ∙ good.own u p (among p (numbered u xs) ∙ by u p (nat_eq u t) refl
      ∙ sym (among p (numbered u (with_attempt t a xs))) ∙ h);
}
  where
    by : (u : ℕ) (p : List ℕ) (b : Bool) → nat_eq u t ≡ b
        → writes_among p (numbered u xs) ≡ writes_among p (numbered u (with_attempt t a xs))
    by u p true e = subst (λ k. writes_among p (numbered k xs) ≡ writes_among p (numbered k (with_attempt t a xs))) (sym (eqb-true u t e))
        (sym (numbered_attempt p t a xs))
    by u p false e = ap (λ o. writes_among p (unwrap_or o [])) (sym (lookup_attempt u t a xs e))

-- ---- one more file

lookup_file : (k t : ℕ) (p : List ℕ) (v : Tags) (xs : Listed Tags) → nat_eq k t ≡ false
    → lookup (nat_eq k) (with_file t p v xs) ≡ lookup (nat_eq k) xs
lookup_file k t p v [] other = refl
lookup_file k t p v (x ∷ xs) other = by (nat_eq t x.0) refl (lookup_file k t p v xs other)
  where
    not_here : nat_eq t x.0 ≡ true → nat_eq k x.0 ≡ false
    not_here e = subst (λ n. nat_eq k n ≡ false) (eqb-true t x.0 e) other

    by : (b : Bool) → nat_eq t x.0 ≡ b → lookup (nat_eq k) (with_file t p v xs) ≡ lookup (nat_eq k) xs
        → lookup (nat_eq k) (cond b ((x.0, with_last p v x.1) ∷ xs) (x ∷ with_file t p v xs)) ≡ lookup (nat_eq k) (x ∷ xs)
    by true e later = ap (λ c. cond c (Some (with_last p v x.1)) (lookup (nat_eq k) xs)) (not_here e)
        ∙ sym (ap (λ c. cond c (Some x.1) (lookup (nat_eq k) xs)) (not_here e))
    by false e later = ap (cond (nat_eq k x.0) (Some x.1)) later

once_file : (t : ℕ) (p : List ℕ) (v : Tags) (xs : Listed Tags) → ListedOnce xs → ListedOnce (with_file t p v xs)
once_file t p v [] once = tt
once_file t p v (x ∷ xs) once = by (nat_eq t x.0) refl (once_file t p v xs once.1)
  where
    by : (b : Bool) → nat_eq t x.0 ≡ b → ListedOnce (with_file t p v xs)
        → ListedOnce (cond b ((x.0, with_last p v x.1) ∷ xs) (x ∷ with_file t p v xs))
    by true e later = once
    by false e later = (lookup_file x.0 t p v xs (turned x.0 t e) ∙ once.0, later)

below_file : (tasks t : ℕ) (p : List ℕ) (v : Tags) (xs : Listed Tags) → AllByRecursion (λ x. x.0 < tasks) xs
    → AllByRecursion (λ x. x.0 < tasks) (with_file t p v xs)
below_file tasks t p v [] below = tt
below_file tasks t p v (x ∷ xs) below = by (nat_eq t x.0) (below_file tasks t p v xs below.1)
  where
    by : (b : Bool) → AllByRecursion (λ x. x.0 < tasks) (with_file t p v xs)
        → AllByRecursion (λ x. x.0 < tasks) (cond b ((x.0, with_last p v x.1) ∷ xs) (x ∷ with_file t p v xs))
    by true later = below
    by false later = (below.0, later)

file_other : (q p : List ℕ) (v : Tags) (files : Files Tags) → text_eq q p ≡ false → file_at (files ++ (p, v) ∷ []) q ≡ file_at files q
file_other q p v [] other = ap (λ b. cond b (Some v) None) other
file_other q p v (x ∷ files) other = ap (cond (text_eq q x.0) (Some x.1)) (file_other q p v files other)

last_other : (q p : List ℕ) (v : Tags) (ns : Numbered Tags) → text_eq q p ≡ false → writes_among q (with_last p v ns) ≡ writes_among q ns
last_other q p v [] other = refl
last_other q p v (a ∷ []) other = ap (λ o. is_some o || false) (file_other q p v a.1 other)
last_other q p v (a ∷ b ∷ bs) other = ap (λ w. is_some (file_at a.1 q) || w) (last_other q p v (b ∷ bs) other)

numbered_file : (q : List ℕ) (t : ℕ) (p : List ℕ) (v : Tags) (xs : Listed Tags) → text_eq q p ≡ false
    → writes_among q (numbered t (with_file t p v xs)) ≡ writes_among q (numbered t xs)
numbered_file q t p v [] other = refl
numbered_file q t p v (x ∷ xs) other = by (nat_eq t x.0) refl (numbered_file q t p v xs other)
  where
    by : (b : Bool) → nat_eq t x.0 ≡ b → writes_among q (numbered t (with_file t p v xs)) ≡ writes_among q (numbered t xs)
        → writes_among q (numbered t (cond b ((x.0, with_last p v x.1) ∷ xs) (x ∷ with_file t p v xs)))
        ≡ writes_among q (numbered t (x ∷ xs))
    by true e later =
        ap (λ c. writes_among q (unwrap_or (cond c (Some (with_last p v x.1)) (lookup (nat_eq t) xs)) [])) e
        ∙ last_other q p v x.1 other ∙ sym (ap (λ c. writes_among q (unwrap_or (cond c (Some x.1) (lookup (nat_eq t) xs)) [])) e)
    by false e later =
        ap (λ c. writes_among q (unwrap_or (cond c (Some x.1) (lookup (nat_eq t) (with_file t p v xs))) [])) e
        ∙ later ∙ sym (ap (λ c. writes_among q (unwrap_or (cond c (Some x.1) (lookup (nat_eq t) xs)) [])) e)

pub good_file : (tasks t : ℕ) (p : List ℕ) (v : Tags) (xs : Listed Tags) → GoodList tasks xs → 0 < length (numbered t xs)
    → ((u : ℕ) → owner p xs ≡ Some u → t ≡ u) → GoodList tasks (with_file t p v xs)
good_file tasks t p v xs good some fits = record {
  below = All-from_recursion (λ x. x.0 < tasks) (with_file t p v xs)
      (below_file tasks t p v xs (recursion_from_All (λ x. x.0 < tasks) xs good.below));
  once = once_file t p v xs good.once;
  own = λ u q h. owner_file q p t v xs some fits ∙ by u q (sym (among q (numbered u (with_file t p v xs))) ∙ h) (text_eq q p) refl
      (nat_eq u t) refl;
}
  where
    by : (u : ℕ) (q : List ℕ) → writes_among q (numbered u (with_file t p v xs)) ≡ true → (b : Bool) → text_eq q p ≡ b
        → (d : Bool) → nat_eq u t ≡ d → cond b (Some t) (owner q xs) ≡ Some u
    by u q h true e true d = ap (λ (k : ℕ). Some k) (sym (eqb-true u t d))
    by u q h true e false d =
        let w : writes_among q (numbered u xs) ≡ true = ap (λ o. writes_among q (unwrap_or o [])) (sym (lookup_file u t p v xs d)) ∙ h in
        let own = good.own u q (among q (numbered u xs) ∙ w) in
        let same : t ≡ u = fits u (subst (λ z. owner z xs ≡ Some u) (text_is q p e) own) in
        absurd (true≢false (sym (eq-eqb u t (sym same)) ∙ d))
    by u q h false e true d =
        let same = eqb-true u t d in
        let h2 = subst (λ k. writes_among q (numbered k (with_file t p v xs)) ≡ true) same h in
        let w : writes_among q (numbered t xs) ≡ true = sym (numbered_file q t p v xs e) ∙ h2 in
        subst (λ k. owner q xs ≡ Some k) (sym same) (good.own t q (among q (numbered t xs) ∙ w))
    by u q h false e false d =
        let w : writes_among q (numbered u xs) ≡ true = ap (λ o. writes_among q (unwrap_or o [])) (sym (lookup_file u t p v xs d)) ∙ h in
        good.own u q (among q (numbered u xs) ∙ w)

-- ---- a judge that waits

pub waits_new : (keeps : Keeps) (tasks : ℕ) → Waits (new_bench keeps tasks)
waits_new keeps tasks = record {
  good = good_none tasks;
  last = λ l. absurd (omega (arith, l));
  shows = refl;
  early = refl;
  unmarked = λ e. cc;
  unneeded = refl;
}

waits_claim : (b : Bench) (claimed : Claimed) → Waits b → GoodList b.tasks claimed.listed
    → (0 < length claimed.listed → 0 < length (numbered claimed.current claimed.listed)) → Waits (record b { claimed = claimed })
waits_claim b claimed h good last = record {
  good = good;
  last = last;
  shows = h.shows;
  early = h.early;
  unmarked = h.unmarked;
  unneeded = h.unneeded;
}

pub waits_attempt : (b : Bench) (t a : ℕ) (n : Bool) → Waits b → t < b.tasks
    → Waits (record b { claimed = cond n (with_next t a b.claimed) b.claimed })
waits_attempt b t a true h l = waits_claim b (with_next t a b.claimed) h (good_attempt b.tasks t a b.claimed.listed h.good l)
    (λ some. some_attempt t a b.claimed.listed)
waits_attempt b t a false h l = h

pub waits_file : (b : Bench) (p : List ℕ) (v : Tags) (fit : FileFit) → Waits b → 0 < length b.claimed.listed → fit ≡ fit_of b.claimed p
    → Waits (record b { claimed = after_fit fit p v b.claimed })
waits_file b p v Added h some e =
    let may = may_add b.claimed p e in
    waits_claim b (after_fit Added p v b.claimed) h (good_file b.tasks b.claimed.current p v b.claimed.listed h.good (h.last some) may.fits)
    (λ l. some_file b.claimed.current p v b.claimed.listed (h.last some))
waits_file b p v Repeated h some e = h
waits_file b p v SamePath h some e = h

pub waits_opening : (b : Bench) (m : TagMap) → Waits b → Waits (record b { opening = m; shown = m })
waits_opening b m h = record { good = h.good; last = h.last; shows = refl; early = h.early; unmarked = h.unmarked; unneeded = h.unneeded }

pub waits_old : (b : Bench) → Waits b → Waits (record b { marker = markers.Old })
waits_old b h = record { good = h.good; last = h.last; shows = h.shows; early = h.early; unmarked = λ e. cc; unneeded = h.unneeded }

up_all : (listed : Listed Tags) → AllUp listed (rows_up listed)
up_all [] = tt
up_all (x ∷ xs) = (refl, up_all xs)

pub follows_start : (b : Bench) → Waits b → Follows (record b { started = true; candidates = rows_up b.claimed.listed }) []
follows_start b h = follows_first b h (rows_up b.claimed.listed) (up_all b.claimed.listed)

-- No directories are known yet.
pub not_known : (listed : Listed Tags) (o : Option Reached) → is_some o ≡ false → AreKnown listed o
not_known listed None h = tt
not_known listed (Some r) h = absurd (true≢false h)

module _
    (b : Bench) (k s : Scene) (begun : Bool) (marker : Marker) (needed : Bool) (rows : List (List Bool))
    (view : bench_of k begun marker needed rows k.shown ≡ b) (h : Waits b)
  where
    before : Waits (bench_of k begun marker needed rows k.shown)
    before = subst Waits (sym view) h

    pub attempt_waits : (t a : ℕ) (n : Bool) → t < b.tasks → s ≡ record k { claimed = cond n (with_next t a k.claimed) k.claimed }
        → Waits (bench_of s begun marker needed rows s.shown)
    attempt_waits t a n l e = subst (λ (z : Scene). Waits (bench_of z begun marker needed rows z.shown)) (sym e)
        (waits_attempt (bench_of k begun marker needed rows k.shown) t a n before (subst (λ (z : Bench). t < z.tasks) (sym view) l))

    pub file_waits : (p : List ℕ) (v : Tags) (fit : FileFit) → 0 < length b.claimed.listed → fit ≡ fit_of k.claimed p
        → s ≡ record k { claimed = after_fit fit p v k.claimed } → Waits (bench_of s begun marker needed rows s.shown)
    file_waits p v fit l is e = subst (λ (z : Scene). Waits (bench_of z begun marker needed rows z.shown)) (sym e)
        (waits_file (bench_of k begun marker needed rows k.shown) p v fit before
        (subst (λ (z : Bench). 0 < length z.claimed.listed) (sym view) l) is)

    pub start_follows : (up : List (List Bool)) → up ≡ rows_up k.claimed.listed → s ≡ record k { started = true }
        → Follows (bench_of s begun marker needed up s.shown) []
    start_follows up is e = subst (λ (z : Scene). Follows (bench_of z begun marker needed up z.shown) []) (sym e)
        (subst (λ (z : List (List Bool)). Follows (bench_of (record k { started = true }) begun marker needed z k.shown) []) (sym is)
        (follows_start (bench_of k begun marker needed rows k.shown) before))

pub up_more : (rows next end : List (List Bool)) (flags : List Bool) (n : ℕ) (left rest : Listed Tags) (x : ℕ × Numbered Tags)
    → rows ++ rows_up left ≡ end → left ≡ x ∷ rest → flags ≡ replicate n true → n ≡ length x.1 → next ≡ rows ++ flags ∷ []
    → next ++ rows_up rest ≡ end
up_more rows next end flags n left rest x so_far steps up many step =
    ap (λ z. z ++ rows_up rest) step ∙ append_assoc rows (flags ∷ []) (rows_up rest)
    ∙ ap (λ z. rows ++ z ∷ rows_up rest) (up ∙ ap (λ k. replicate k true) many)
    ∙ ap (λ z. rows ++ rows_up z) (sym steps) ∙ so_far
