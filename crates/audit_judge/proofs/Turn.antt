-- One more moment, at which some paths have changed: the results of the tests decide which reasons hold.
use Rattle.audit_claims.specs.Claims.{Tags}
use Rattle.text_and_lists.specs.Order.{text_cmp}
use Rattle.judging.proofs.Owned.{either}
use Rattle.judging.specs.Judging.{AttemptExplains, DifferAt, OthersFit, StillExplains}
use Rattle.judging.specs.Listed.{Listed, Numbered, claim_of, files_of, numbered, of_task, owner, writes_among}
use Rattle.judging.specs.Reasons.{AttemptFits, NeedsChoice}
use Rattle.soundness.specs.Claims.{Attempts, Claim, Files, file_at, is_claimed, is_kept, is_replaced, writes}
use Rattle.soundness.specs.Moments.{Fits, MayShow, Moment, Same, Shown, Unchanged, Whole}
use Rattle.std.proofs.Common.{Bool, List, None, Option, Some, [], ap, arith, cond, false, get_or, inl, inr, refl, subst, suc, sym, true}
use Rattle.std.proofs.Common.{ℕ, ◌<◌, ◌||◌, ◌∙◌, ◌∷◌, ◌≡◌, ◌≢◌, ◌⊎◌}
use Rattle.std.proofs.lemmas.Bool.{false≢true, true≢false}
use Rattle.std.proofs.lemmas.List.Elements.{All-from_recursion, recursion_from_All}
use Rattle.std.proofs.lemmas.Option.{get_or_from_slice_get, slice_get-get_or, slice_get_within}
use Rattle.std.specs.List.{All, AllByRecursion, find}
use Rattle.std.specs.Prelude.{is_some, nat_lt, not, slice_get, ◌&&◌}
use Rattle.audit_judge.proofs.First.{at_of, is_in, least, none_at, of_at, passes, stands}
use Rattle.audit_judge.proofs.Narrowed.{Alone, AtLeast, EmptyIn, EmptyOf, IsLeast, SomeOf, all_told, alone, alive, dead, tells_of_all}
use Rattle.audit_judge.proofs.Narrowed.{tells_of_listed}
use Rattle.audit_judge.proofs.Tests.{and_both, and_parts, neither_first, neither_second, differs_is, differs_not, is_none, is_not, is_same}
use Rattle.audit_judge.proofs.Tests.{not_is, or_cases, or_left, or_right, part_is, part_not, same_is, same_or_not}
use Rattle.audit_judge.proofs.Tests.{some_of, whole_is_at, whole_not_at}
use Rattle.audit_judge.specs.Following.{GoodList}
use Rattle.audit_judge.specs.Narrowed.{TellsOfAll}
use Rattle.audit_judge.specs.inner.Narrowed.{keys_of, narrow_all, paths_of_all, paths_of_task}
use Rattle.audit_judge.specs.Reasons.{Holds, IsFirst, precedes}
use Rattle.audit_judge.specs.inner.Tests.{attempts_of, differs, foreign_at, has_content, is_foreign, left_at, lost_at, same_tags}
use Rattle.audit_judge.specs.inner.Tests.{suits_part}
use Rattle.audit_judge.specs.inner.Tests.{suits_whole}
use Rattle.audit_judge.specs.declared.reason.Reason.{Reason}
use Rattle.audit_judge.specs.declared.reason.Reason.TheVariants.{Early, Missing, Foreign, Lost, Torn, Stale, Half, Left}
use Rattle.judging.proofs.Changed.{among}
use Rattle.judging.proofs.Listed.{listed_claims}
use Rattle.judging.specs.Reasons as reasons
use Rattle.soundness.specs.declared.keeps.Keeps.{Keeps}
use Rattle.soundness.specs.declared.marker.Marker.TheVariants as markers
use Rattle.std.specs.Str.{bytes_eq}
use Rattle.std.proofs.lemmas.List.Folds.{list_any-append}
use Rattle.std.specs.List.Sorted.{IsStrictlySortedBy}
use Rattle.std.specs.Ordering.{is_lt}
use Rattle.std.specs.declared.cmp.Ordering.{Ordering}
use Rattle.std.specs.declared.cmp.Ordering.TheVariants.{Less, Equal, Greater}

-- ---- small facts

new_old : markers.New ≡ markers.Old → ⊥
new_old e = cc

is_less : (o : Ordering) → (is_lt o || false) ≡ true → o ≡ Less
is_less Less h = refl
is_less Equal h = absurd (false≢true h)
is_less Greater h = absurd (false≢true h)

lesser_task : (a b : ℕ) → nat_lt a b ≡ true → a < b
lesser_task a b h = grind arith

-- If readers see the opening files, every file may be written.
pub calm_may : (w : Claim Tags) (opening : Shown Tags) (m : Moment Tags) → Unchanged opening m → (p : List ℕ) (f : Option Tags)
    → MayShow w opening m p f
calm_may w opening m calm p f = record {
  before = λ b. calm.shows p;
  between = λ b. record { only = λ x s. inl (sym (calm.shows p) ∙ s); stays = λ x s k none. calm.shows p ∙ s };
  stale = λ e. calm.shows p;
  whole = λ e. absurd (calm.unmarked e);
}

-- What readers may see fits, also before the commit begins.
pub fits_of : (w : Claim Tags) (opening : Shown Tags) (m : Moment Tags) (p : List ℕ) (f : Option Tags) → MayShow w opening m p f
    → Fits (is_kept w p) (opening p) f (m.shown p)
fits_of w opening m p f h = elim (either m.begun) [
  | inl b ↦ h.between b
  | inr b ↦ record { only = λ x s. inl (sym (h.before b) ∙ s); stays = λ x s k none. h.before b ∙ s }
]

-- ---- the paths of all attempts

in_keys : (q : List ℕ) (files : Files Tags) → is_some (file_at files q) ≡ true → is_in q (keys_of files) ≡ true
in_keys q [] h = absurd (false≢true h)
in_keys q (f ∷ files) h = by (bytes_eq q f.0) h (in_keys q files)
  where
    by : (b : Bool) → is_some (cond b (Some f.1) (file_at files q)) ≡ true
        → (is_some (file_at files q) ≡ true → is_in q (keys_of files) ≡ true) → (b || is_in q (keys_of files)) ≡ true
    by true h later = refl
    by false h later = later h

in_task : (q : List ℕ) (attempts : Numbered Tags) → writes (files_of attempts) q ≡ true → is_in q (paths_of_task attempts) ≡ true
in_task q [] h = absurd (false≢true h)
in_task q (a ∷ attempts) h =
    list_any-append (bytes_eq q) (keys_of a.1) (paths_of_task attempts)
    ∙ by (or_cases (is_some (file_at a.1 q)) (writes (files_of attempts) q) h) (in_task q attempts)
  where
    by : (is_some (file_at a.1 q) ≡ true) ⊎ (writes (files_of attempts) q ≡ true)
        → (writes (files_of attempts) q ≡ true → is_in q (paths_of_task attempts) ≡ true)
        → (is_in q (keys_of a.1) || is_in q (paths_of_task attempts)) ≡ true
    by (inl e) later = or_left (is_in q (keys_of a.1)) (is_in q (paths_of_task attempts)) (in_keys q a.1 e)
    by (inr e) later = or_right (is_in q (keys_of a.1)) (is_in q (paths_of_task attempts)) (later e)

in_first : (q : List ℕ) (x : ℕ × Numbered Tags) (xs : Listed Tags) → writes (files_of x.1) q ≡ true → is_in q (paths_of_all (x ∷ xs)) ≡ true
in_first q x xs h = list_any-append (bytes_eq q) (paths_of_task x.1) (paths_of_all xs)
    ∙ or_left (is_in q (paths_of_task x.1)) (is_in q (paths_of_all xs)) (in_task q x.1 h)

in_rest : (q : List ℕ) (x : ℕ × Numbered Tags) (xs : Listed Tags) → is_in q (paths_of_all xs) ≡ true
    → is_in q (paths_of_all (x ∷ xs)) ≡ true
in_rest q x xs h = list_any-append (bytes_eq q) (paths_of_task x.1) (paths_of_all xs)
    ∙ or_right (is_in q (paths_of_task x.1)) (is_in q (paths_of_all xs)) h

-- A moment and the next one, at which these paths have changed.
pub record Turn
    (keeps : Keeps) (tasks : ℕ) (listed : Listed Tags) (opening : Shown Tags) (moments : List (Moment Tags)) (m n : Moment Tags)
    (paths : List (List ℕ)) : Type 0 where
  pub good : GoodList tasks listed
  pub rising : IsStrictlySortedBy text_cmp paths
  pub differ : DifferAt paths m n
  pub last : (task : Attempts Tags) (files : Files Tags) → StillExplains (claim_of keeps tasks listed) opening moments task files
      → AttemptExplains (claim_of keeps tasks listed) opening task m files
  pub before : m.begun ≡ false → Same m.shown opening
  pub stale : m.marker ≡ markers.Old → Same m.shown opening
  pub others : OthersFit (claim_of keeps tasks listed) opening m

module _
    (keeps : Keeps) (tasks : ℕ) (listed : Listed Tags) (opening : Shown Tags) (moments : List (Moment Tags)) (m n : Moment Tags)
    (paths : List (List ℕ)) (c : Turn keeps tasks listed opening moments m n paths)
  where
    abbrev pub w : Claim Tags
    w = claim_of keeps tasks listed

    abbrev pub First : Reason → Type 0
    First r = IsFirst w opening moments n paths r

    -- ---- paths that have not changed

    pub elsewhere : (q : List ℕ) → is_in q paths ≡ false → n.shown q ≡ m.shown q
    elsewhere q h = c.differ.shown q (λ i. true≢false (sym ((among paths q).1 i) ∙ h))

    -- A fact that holds at the changed paths and at all others.
    each_path : (P : List ℕ → Type 0) → ((q : List ℕ) → is_in q paths ≡ true → P q) → ((q : List ℕ) → is_in q paths ≡ false → P q)
        → (q : List ℕ) → P q
    each_path P here there q = elim (either (is_in q paths)) [ inl i ↦ here q i | inr o ↦ there q o ]

    pub same_next : find (differs opening n.shown) paths ≡ None → Same m.shown opening → Same n.shown opening
    same_next h calm = each_path (λ q. n.shown q ≡ opening q)
        (λ q i. differs_not opening n.shown q (none_at (differs opening n.shown) paths h q i)) (λ q o. elsewhere q o ∙ calm q)

    -- A path below the first that differs does not differ.
    no_lesser : (p q : List ℕ) → find (differs opening n.shown) paths ≡ Some p → Same m.shown opening → text_cmp q p ≡ Less
        → n.shown q ≡ opening q
    no_lesser p q h calm l = elim (either (is_in q paths)) [
      | inl i ↦ differs_not opening n.shown q (least (differs opening n.shown) paths p c.rising h q l i)
      | inr o ↦ elsewhere q o ∙ calm q
    ]

    -- ---- early

    calm_before : n.begun ≡ false → Same m.shown opening
    calm_before b = c.before (sym c.differ.begun ∙ b)

    pub early_first : (p : List ℕ) → n.begun ≡ false → find (differs opening n.shown) paths ≡ Some p → First (Early p)
    early_first p b h = record {
      holds = record { before = b; differs = differs_is opening n.shown p (passes (differs opening n.shown) paths p h) };
      first = lesser;
    }
      where
        lesser : (s : Reason) → precedes s (Early p) ≡ true → Holds w opening moments n paths s → ⊥
        lesser (Early q) l s = s.differs (no_lesser p q h (calm_before b) (is_less (text_cmp q p) l))
        lesser _ l s = false≢true l

    -- No reason of the kind `Early` holds.
    abbrev pub NoEarly : Type 0
    NoEarly = (p : List ℕ) → reasons.Early opening n p → ⊥

    abbrev pub NoMissing : Type 0
    NoMissing = (t : ℕ) → reasons.Missing w opening n t → ⊥

    abbrev pub NoForeign : Type 0
    NoForeign = (p : List ℕ) → reasons.Foreign w opening n paths p → ⊥

    abbrev pub NoLost : Type 0
    NoLost = (p : List ℕ) → reasons.Lost w opening n paths p → ⊥

    abbrev pub NoTorn : Type 0
    NoTorn = (t : ℕ) → reasons.Torn w opening moments n t → ⊥

    abbrev pub NoStale : Type 0
    NoStale = (p : List ℕ) → reasons.Stale opening n p → ⊥

    abbrev pub NoHalf : Type 0
    NoHalf = (t : ℕ) → reasons.Half w opening moments n t → ⊥

    -- Before the commit readers see the opening.
    abbrev pub CalmBefore : Type 0
    CalmBefore = n.begun ≡ false → Same n.shown opening

    pub still_calm : (n.begun ≡ false → find (differs opening n.shown) paths ≡ None) → CalmBefore
    still_calm h b = same_next (h b) (calm_before b)

    pub no_early : CalmBefore → NoEarly
    no_early calm p e = e.differs (calm e.before p)

    -- ---- missing

    -- The t-th task, if there is one.
    task_is : (t : ℕ) (task : Attempts Tags) → slice_get w.tasks t ≡ Some task → (t < tasks) × (task ≡ of_task t listed)
    task_is t task e =
        let l : t < tasks = subst (λ k. t < k) ((listed_claims Tags).count tasks listed) (slice_get_within w.tasks t task e) in
        (l, cc (e, (listed_claims Tags).task tasks listed t l))

    task_at : (t : ℕ) → t < tasks → slice_get w.tasks t ≡ Some (of_task t listed)
    task_at t l = (listed_claims Tags).task tasks listed t l

    pub missing_first : (t : ℕ) → NoEarly → NeedsChoice opening n → t < tasks → of_task t listed ≡ []
        → ((u : ℕ) → u < t → of_task u listed ≢ []) → First (Missing t)
    missing_first t early needs l none some = record {
      holds = record { needed = needs; none = task_at t l ∙ ap (λ (task : Attempts Tags). Some task) none };
      first = lesser;
    }
      where
        lesser : (s : Reason) → precedes s (Missing t) ≡ true → Holds w opening moments n paths s → ⊥
        lesser (Early q) h s = early q s
        lesser (Missing u) h s = some u (lesser_task u t h) (sym (task_is u [] s.none).1)
        lesser _ h s = false≢true h

    -- Every task has an attempt.
    abbrev pub Attempted : Type 0
    Attempted = (t : ℕ) → t < tasks → of_task t listed ≢ []

    pub no_missing : Attempted → NoMissing
    no_missing some t h = some t (task_is t [] h.none).0 (sym (task_is t [] h.none).1)

    -- ---- foreign

    unclaimed_free : (p : List ℕ) → is_claimed w.tasks p ≡ false → owner p listed ≡ None
    unclaimed_free p h = is_none (owner p listed) (sym ((listed_claims Tags).claimed tasks listed c.good.below c.good.once p) ∙ h)

    pub free_unclaimed : (p : List ℕ) → is_some (owner p listed) ≡ false → is_claimed w.tasks p ≡ false
    free_unclaimed p h = (listed_claims Tags).claimed tasks listed c.good.below c.good.once p ∙ h

    has_at : (p : List ℕ) (x : Tags) (attempts : Numbered Tags) → has_content p x attempts ≡ false
        → AllByRecursion (λ files. file_at files p ≢ Some x) (files_of attempts)
    has_at p x [] h = tt
    has_at p x (a ∷ attempts) h = (
      λ e. true≢false (sym (is_same (file_at a.1 p) (Some x) e)
          ∙ neither_first (same_tags (file_at a.1 p) (Some x)) (has_content p x attempts) h),
      has_at p x attempts (neither_second (same_tags (file_at a.1 p) (Some x)) (has_content p x attempts) h),
    )

    not_has : (p : List ℕ) (x : Tags) (attempts : Numbered Tags) → AllByRecursion (λ files. file_at files p ≢ Some x) (files_of attempts)
        → has_content p x attempts ≡ false
    not_has p x [] h = refl
    not_has p x (a ∷ attempts) h = by (same_tags (file_at a.1 p) (Some x)) refl (not_has p x attempts h.1)
      where
        by : (b : Bool) → same_tags (file_at a.1 p) (Some x) ≡ b → has_content p x attempts ≡ false
            → (b || has_content p x attempts) ≡ false
        by true e later = absurd (h.0 (same_is (file_at a.1 p) (Some x) e))
        by false e later = later

    -- An attempt with a file at the path belongs to the path's owner.
    no_content : (p : List ℕ) (x : Tags) → has_content p x (attempts_of listed (owner p listed)) ≡ false
        → (t : ℕ) → AllByRecursion (λ files. file_at files p ≢ Some x) (of_task t listed)
    no_content p x h t = elim (either (writes (of_task t listed) p)) [
      | inl e ↦ has_at p x (numbered t listed) (sym (ap (λ o. has_content p x (attempts_of listed o)) (c.good.own t p e)) ∙ h)
      | inr e ↦ by (of_task t listed) e
    ]
      where
        by : (task : Attempts Tags) → writes task p ≡ false → AllByRecursion (λ files. file_at files p ≢ Some x) task
        by [] e = tt
        by (files ∷ task) e = (
          λ s. true≢false (sym (ap (λ o. is_some o || writes task p) s) ∙ e),
          by task (neither_second (is_some (file_at files p)) (writes task p) e),
        )

    foreign_is : (p : List ℕ) → is_in p paths ≡ true → foreign_at listed opening n.shown p ≡ true → reasons.Foreign w opening n paths p
    foreign_is p i h = by (n.shown p) refl h
      where
        by : (v : Option Tags) → n.shown p ≡ v → is_foreign p (attempts_of listed (owner p listed)) (opening p) v ≡ true
            → reasons.Foreign w opening n paths p
        by None e g = absurd (false≢true g)
        by (Some x) e g =
            let attempts = attempts_of listed (owner p listed) in
            let both = and_parts (not (same_tags (opening p) (Some x))) (not (has_content p x attempts)) g in
            record {
              is_changed = (among paths p).0 i;
              content = x;
              seen = e;
              differs = λ o. true≢false (sym (is_same (opening p) (Some x) o) ∙ not_is (same_tags (opening p) (Some x)) both.0);
              unclaimed = λ k d l.
                  let task = get_or w.tasks k d in
                  let there = task_is k task (slice_get-get_or w.tasks k d l) in
                  All-from_recursion (λ files. file_at files p ≢ Some x) task
                  (subst (AllByRecursion (λ files. file_at files p ≢ Some x)) (sym there.1)
                  (no_content p x (not_is (has_content p x attempts) both.1) k));
            }

    owner_within : (p : List ℕ) (t : ℕ) (xs : Listed Tags) → AllByRecursion (λ x. x.0 < tasks) xs → owner p xs ≡ Some t → t < tasks
    owner_within p t [] below h = absurd (cc h)
    owner_within p t (x ∷ xs) below h = by (writes_among p x.1) h (owner_within p t xs below.1)
      where
        by : (b : Bool) → cond b (Some x.0) (owner p xs) ≡ Some t → (owner p xs ≡ Some t → t < tasks) → t < tasks
        by true e later = subst (λ k. k < tasks) (cc e) below.0
        by false e later = later e

    owner_below : (p : List ℕ) (t : ℕ) → owner p listed ≡ Some t → t < tasks
    owner_below p t h = owner_within p t listed (recursion_from_All (λ x. x.0 < tasks) listed c.good.below) h

    is_foreign_at : (p : List ℕ) → reasons.Foreign w opening n paths p → foreign_at listed opening n.shown p ≡ true
    is_foreign_at p h = by (n.shown p) h.seen
      where
        -- None of its owner's attempts has this content there.
        owned : (o : Option ℕ) → owner p listed ≡ o → has_content p h.content (attempts_of listed o) ≡ false
        owned None e = refl
        owned (Some t) e =
            let l : t < tasks = owner_below p t e in
            let all : AllByRecursion (λ files. file_at files p ≢ Some h.content) (of_task t listed) =
            recursion_from_All (λ files. file_at files p ≢ Some h.content) (of_task t listed)
            (subst (All (λ files. file_at files p ≢ Some h.content)) (get_or_from_slice_get w.tasks t (of_task t listed) [] (task_at t l))
            (h.unclaimed t [] (subst (λ k. t < k) (sym ((listed_claims Tags).count tasks listed)) l))) in
            not_has p h.content (numbered t listed) all

        other : (b : Bool) → same_tags (opening p) (Some h.content) ≡ b → b ≡ false
        other true e = absurd (h.differs (same_is (opening p) (Some h.content) e))
        other false e = refl

        by : (v : Option Tags) → v ≡ Some h.content → is_foreign p (attempts_of listed (owner p listed)) (opening p) v ≡ true
        by None e = absurd (cc e)
        by (Some x) e =
            let same : h.content ≡ x = cc e in
            subst (λ z. is_foreign p (attempts_of listed (owner p listed)) (opening p) (Some z) ≡ true) same
            (and_both (not (same_tags (opening p) (Some h.content))) (not (has_content p h.content (attempts_of listed (owner p listed))))
            (is_not (same_tags (opening p) (Some h.content)) (other (same_tags (opening p) (Some h.content)) refl))
            (is_not (has_content p h.content (attempts_of listed (owner p listed))) (owned (owner p listed) refl)))

    pub foreign_first : (p : List ℕ) → NoEarly → NoMissing → find (foreign_at listed opening n.shown) paths ≡ Some p → First (Foreign p)
    foreign_first p early missing h = record {
      holds = foreign_is p (stands (foreign_at listed opening n.shown) paths p h) (passes (foreign_at listed opening n.shown) paths p h);
      first = lesser;
    }
      where
        lesser : (s : Reason) → precedes s (Foreign p) ≡ true → Holds w opening moments n paths s → ⊥
        lesser (Early q) l s = early q s
        lesser (Missing t) l s = missing t s
        lesser (Foreign q) l s = true≢false (sym (is_foreign_at q s) ∙ least (foreign_at listed opening n.shown) paths p c.rising h q
            (is_less (text_cmp q p) l) ((among paths q).1 s.is_changed))
        lesser _ l s = false≢true l

    pub no_foreign : find (foreign_at listed opening n.shown) paths ≡ None → NoForeign
    no_foreign h p s = true≢false (sym (is_foreign_at p s)
        ∙ none_at (foreign_at listed opening n.shown) paths h p ((among paths p).1 s.is_changed))

    -- ---- lost

    lost_is : (p : List ℕ) → is_in p paths ≡ true → lost_at w listed opening n.shown p ≡ true → reasons.Lost w opening n paths p
    lost_is p i h =
        let a = and_parts (not (is_some (owner p listed)) && is_some (opening p) && not (is_some (n.shown p))) (is_kept w p) h in
        let b = and_parts (not (is_some (owner p listed)) && is_some (opening p)) (not (is_some (n.shown p))) a.0 in
        let d = and_parts (not (is_some (owner p listed))) (is_some (opening p)) b.0 in
        record {
          is_changed = (among paths p).0 i;
          kept = a.1;
          unclaimed = free_unclaimed p (not_is (is_some (owner p listed)) d.0);
          existed = d.1;
          gone = is_none (n.shown p) (not_is (is_some (n.shown p)) b.1);
        }

    is_lost : (p : List ℕ) → reasons.Lost w opening n paths p → lost_at w listed opening n.shown p ≡ true
    is_lost p h =
        let a = is_not (is_some (owner p listed)) (ap is_some (unclaimed_free p h.unclaimed)) in
        let b = is_not (is_some (n.shown p)) (ap is_some h.gone) in
        and_both (not (is_some (owner p listed)) && is_some (opening p) && not (is_some (n.shown p))) (is_kept w p)
        (and_both (not (is_some (owner p listed)) && is_some (opening p)) (not (is_some (n.shown p)))
        (and_both (not (is_some (owner p listed))) (is_some (opening p)) a h.existed) b) h.kept

    pub lost_first : (p : List ℕ) → NoEarly → NoMissing → NoForeign → find (lost_at w listed opening n.shown) paths ≡ Some p
        → First (Lost p)
    lost_first p early missing foreign h = record {
      holds = lost_is p (stands (lost_at w listed opening n.shown) paths p h) (passes (lost_at w listed opening n.shown) paths p h);
      first = lesser;
    }
      where
        lesser : (s : Reason) → precedes s (Lost p) ≡ true → Holds w opening moments n paths s → ⊥
        lesser (Early q) l s = early q s
        lesser (Missing t) l s = missing t s
        lesser (Foreign q) l s = foreign q s
        lesser (Lost q) l s = true≢false (sym (is_lost q s) ∙ least (lost_at w listed opening n.shown) paths p c.rising h q
            (is_less (text_cmp q p) l) ((among paths q).1 s.is_changed))
        lesser _ l s = false≢true l

    pub no_lost : find (lost_at w listed opening n.shown) paths ≡ None → NoLost
    no_lost h p s = true≢false (sym (is_lost p s)
        ∙ none_at (lost_at w listed opening n.shown) paths h p ((among paths p).1 s.is_changed))

    -- ---- torn

    abbrev pub Part : Attempts Tags → Files Tags → Type 0
    Part task files = StillExplains w opening moments task files × AttemptFits w opening task n files

    part_on : (task : Attempts Tags) (files : Files Tags)
        → StillExplains w opening moments task files × AllByRecursion (λ p. writes task p ≡ true → Fits (is_kept w p) (opening p)
        (file_at files p) (n.shown p)) paths → Part task files
    part_on task files h = (
      h.0,
      each_path (λ q. writes task q ≡ true → Fits (is_kept w q) (opening q) (file_at files q) (n.shown q))
          (at_of (λ p. writes task p ≡ true → Fits (is_kept w p) (opening p) (file_at files p) (n.shown p)) paths h.1)
          (λ q o wr. subst (Fits (is_kept w q) (opening q) (file_at files q)) (sym (elsewhere q o))
          (fits_of w opening m q (file_at files q) (c.last task files h.0 q wr))),
    )

    part_back : (task : Attempts Tags) (files : Files Tags) → Part task files
        → StillExplains w opening moments task files × AllByRecursion (λ p. writes task p ≡ true → Fits (is_kept w p) (opening p)
        (file_at files p) (n.shown p)) paths
    part_back task files h = (
      h.0,
      of_at (λ p. writes task p ≡ true → Fits (is_kept w p) (opening p) (file_at files p) (n.shown p)) paths
          (λ q i. h.1 q),
    )

    lone : Alone listed
    lone = alone listed c.good.once c.good.own

    pub torn_told : (rows : List (List Bool)) → TellsOfAll (StillExplains w opening moments) listed rows
        → TellsOfAll Part listed (narrow_all (suits_part w opening n.shown) listed paths rows)
    torn_told rows h = tells_of_all (λ task files. StillExplains w opening moments task files × AllByRecursion (λ p. writes task p ≡ true
        → Fits (is_kept w p) (opening p) (file_at files p) (n.shown p)) paths) Part part_on part_back listed
        (narrow_all (suits_part w opening n.shown) listed paths rows)
        (all_told (suits_part w opening n.shown) (λ p f. Fits (is_kept w p) (opening p) f (n.shown p))
        (λ p f. part_is w opening n.shown p f) (λ p f. part_not w opening n.shown p f) paths (StillExplains w opening moments) listed rows
        lone h)

    -- A task with no flag up is one of the job's.
    empty_below : (t : ℕ) (xs : Listed Tags) (rows : List (List Bool)) → AllByRecursion (λ x. x.0 < tasks) xs → EmptyOf t xs rows
        → t < tasks
    empty_below t [] rows below e = absurd e
    empty_below t (x ∷ xs) [] below e = absurd e
    empty_below t (x ∷ xs) (row ∷ rows) below (inl e) = subst (λ k. k < tasks) e.0 below.0
    empty_below t (x ∷ xs) (row ∷ rows) below (inr e) = empty_below t xs rows below.1 e

    not_least : (t u : ℕ) → u < t → AtLeast (Some t) u → ⊥
    not_least t u l h = omega (arith, h)

    -- If some attempt has a property, not all attempts lack it.
    none_of_some : (E : Files Tags → Type 0) (task : Attempts Tags) → SomeOf E task → All (λ files. E files → ⊥) task → ⊥
    none_of_some E [] s none = s
    none_of_some E (files ∷ task) (inl e) none = none 0 files (omega arith) e
    none_of_some E (files ∷ task) (inr s) none = none_of_some E task s (λ k d l. none (suc k) d (omega (arith, l)))

    -- No attempt of the task with no flag up has the property.
    empty_task : (D : Attempts Tags → Files Tags → Type 0) (t : ℕ) (rows : List (List Bool)) → TellsOfAll D listed rows
        → EmptyOf t listed rows
        → (t < tasks) × All (λ files. D (of_task t listed) files → ⊥) (of_task t listed)
    empty_task D t rows told e = (
      empty_below t listed rows (recursion_from_All (λ x. x.0 < tasks) listed c.good.below) e,
      All-from_recursion (λ files. D (of_task t listed) files → ⊥) (of_task t listed) (dead D t listed rows c.good.once told e),
    )

    pub torn_first : (rows : List (List Bool)) (o : Option ℕ) (t : ℕ) → TellsOfAll Part listed rows → IsLeast listed rows o → o ≡ Some t
        → Attempted → NoEarly → NoMissing → NoForeign → NoLost → First (Torn t)
    torn_first rows o t told is e some early missing foreign lost = record {
      holds =
          let found = empty_task Part t rows told (is.found t e) in
          record {
            task = of_task t listed;
            here = task_at t found.0;
            attempted = some t found.0;
            none = λ k d l s f. found.1 k d l (s, f);
          };
      first = lesser;
    }
      where
        lesser : (s : Reason) → precedes s (Torn t) ≡ true → Holds w opening moments n paths s → ⊥
        lesser (Early q) l s = early q s
        lesser (Missing u) l s = missing u s
        lesser (Foreign q) l s = foreign q s
        lesser (Lost q) l s = lost q s
        lesser (Torn u) l s =
            let there = task_is u s.task s.here in
            let alive = alive Part (AtLeast (Some t)) u listed rows told (subst (λ r. EmptyIn (AtLeast r) listed rows) e is.each)
            (not_least t u (lesser_task u t l)) (some u there.0) in
            none_of_some (Part (of_task u listed)) (of_task u listed) alive
            (subst (λ task. All (λ files. Part task files → ⊥) task) there.1 (λ k d b p. s.none k d b p.0 p.1))
        lesser _ l s = false≢true l

    pub no_torn : (rows : List (List Bool)) → TellsOfAll Part listed rows → EmptyIn (λ t. ⊥) listed rows → Attempted → NoTorn
    no_torn rows told full some t s =
        let there = task_is t s.task s.here in
        none_of_some (Part (of_task t listed)) (of_task t listed) (alive Part (λ t. ⊥) t listed rows told full (λ h. h) (some t there.0))
        (subst (λ task. All (λ files. Part task files → ⊥) task) there.1 (λ k d b p. s.none k d b p.0 p.1))

    -- ---- stale

    old_before : n.marker ≡ markers.Old → Same m.shown opening
    old_before e = c.stale (c.differ.old e)

    pub stale_first : (p : List ℕ) → n.marker ≡ markers.Old → find (differs opening n.shown) paths ≡ Some p → NoEarly → NoMissing
        → NoForeign
        → NoLost → NoTorn → First (Stale p)
    stale_first p old h early missing foreign lost torn = record {
      holds = record { old = old; differs = differs_is opening n.shown p (passes (differs opening n.shown) paths p h) };
      first = lesser;
    }
      where
        lesser : (s : Reason) → precedes s (Stale p) ≡ true → Holds w opening moments n paths s → ⊥
        lesser (Early q) l s = early q s
        lesser (Missing u) l s = missing u s
        lesser (Foreign q) l s = foreign q s
        lesser (Lost q) l s = lost q s
        lesser (Torn u) l s = torn u s
        lesser (Stale q) l s = s.differs (no_lesser p q h (old_before old) (is_less (text_cmp q p) l))
        lesser _ l s = false≢true l

    -- While an old marker exists, readers see the opening.
    abbrev pub CalmOld : Type 0
    CalmOld = n.marker ≡ markers.Old → Same n.shown opening

    pub old_calm : (n.marker ≡ markers.Old → find (differs opening n.shown) paths ≡ None) → CalmOld
    old_calm h old = same_next (h old) (old_before old)

    pub no_stale : CalmOld → NoStale
    no_stale calm p s = s.differs (calm s.old p)

    -- ---- half

    -- The attempt explained all moments before, and explains this one.
    abbrev pub All_of : Attempts Tags → Files Tags → Type 0
    All_of task files = StillExplains w opening moments task files × AttemptExplains w opening task n files

    fits_all : (task : Attempts Tags) (files : Files Tags) → All_of task files → Part task files
    fits_all task files h = (h.0, λ q wr. fits_of w opening n q (file_at files q) (h.1 q wr))

    -- If no new marker exists, an attempt that fits explains the moment.
    unmarked_on : CalmBefore → CalmOld → n.marker ≢ markers.New → (task : Attempts Tags) (files : Files Tags) → Part task files
        → All_of task files
    unmarked_on calm old new task files h = (
      h.0,
      λ q wr. record {
        before = λ b. calm b q;
        between = λ b. h.1 q wr;
        stale = λ e. old e q;
        whole = λ e. absurd (new e);
      },
    )

    pub unmarked_told : CalmBefore → CalmOld → n.marker ≢ markers.New → (rows : List (List Bool)) → TellsOfAll Part listed rows
        → TellsOfAll All_of listed rows
    unmarked_told calm old new rows h = tells_of_all Part All_of (unmarked_on calm old new) fits_all listed rows h

    -- The paths at which candidates are checked when a new marker exists: the changed ones, or all paths of a task if the marker has just
    -- been put.
    abbrev pub Looked : List (List ℕ) → (ℕ × Numbered Tags) → Type 0
    Looked qs x = (q : List ℕ) → writes (files_of x.1) q ≡ true → is_in q qs ≡ false → (m.marker ≡ markers.New) × (n.shown q ≡ m.shown q)

    abbrev pub Whole_at : Attempts Tags → Files Tags → List ℕ → Type 0
    Whole_at task files p = writes task p ≡ true → Whole (is_kept w p) (is_replaced w p) (opening p) (file_at files p) (n.shown p)

    abbrev pub Both : List (List ℕ) → Attempts Tags → Files Tags → Type 0
    Both qs task files = Part task files × AllByRecursion (λ p. Whole_at task files p) qs

    whole_on : CalmBefore → n.marker ≡ markers.New → (qs : List (List ℕ)) (x : ℕ × Numbered Tags) (files : Files Tags) → Looked qs x
        → Both qs (files_of x.1) files → All_of (files_of x.1) files
    whole_on calm new qs x files looked h = (
      h.0.0,
      λ q wr. record {
        before = λ b. calm b q;
        between = λ b. h.0.1 q wr;
        stale = λ e. absurd (new_old (sym new ∙ e));
        whole = λ e. elim (either (is_in q qs)) [
          | inl i ↦ at_of (λ p. Whole_at (files_of x.1) files p) qs h.1 q i wr
          | inr o ↦
              let at = looked q wr o in
              subst (Whole (is_kept w q) (is_replaced w q) (opening q) (file_at files q)) (sym at.1)
              ((c.last (files_of x.1) files h.0.0 q wr).whole at.0)
        ];
      },
    )

    whole_back : n.marker ≡ markers.New → (qs : List (List ℕ)) (x : ℕ × Numbered Tags) (files : Files Tags) → Looked qs x
        → All_of (files_of x.1) files → Both qs (files_of x.1) files
    whole_back new qs x files looked h = (
      fits_all (files_of x.1) files h,
      of_at (λ p. Whole_at (files_of x.1) files p) qs (λ q i wr. (h.1 q wr).whole new),
    )

    pub half_told : CalmBefore → n.marker ≡ markers.New → (qs : List (List ℕ)) → AllByRecursion (Looked qs) listed
        → (rows : List (List Bool))
        → TellsOfAll Part listed rows → TellsOfAll All_of listed (narrow_all (suits_whole w opening n.shown) listed qs rows)
    half_told calm new qs looked rows h = tells_of_listed (Both qs) All_of (Looked qs) (whole_on calm new qs) (whole_back new qs) listed
        (narrow_all (suits_whole w opening n.shown) listed qs rows) looked
        (all_told (suits_whole w opening n.shown) (λ p f. Whole (is_kept w p) (is_replaced w p) (opening p) f (n.shown p))
        (λ p f. whole_is_at w opening n.shown p f) (λ p f. whole_not_at w opening n.shown p f) qs Part listed rows lone h)

    pub half_first : (rows : List (List Bool)) (o : Option ℕ) (t : ℕ) → n.marker ≡ markers.New → TellsOfAll All_of listed rows
        → IsLeast listed rows o → o ≡ Some t → Attempted → NoEarly → NoMissing → NoForeign → NoLost → NoTorn → NoStale → First (Half t)
    half_first rows o t new told is e some early missing foreign lost torn stale = record {
      holds =
          let found = empty_task All_of t rows told (is.found t e) in
          record { new = new; task = of_task t listed; here = task_at t found.0; none = λ k d l s f. found.1 k d l (s, f) };
      first = lesser;
    }
      where
        lesser : (s : Reason) → precedes s (Half t) ≡ true → Holds w opening moments n paths s → ⊥
        lesser (Early q) l s = early q s
        lesser (Missing u) l s = missing u s
        lesser (Foreign q) l s = foreign q s
        lesser (Lost q) l s = lost q s
        lesser (Torn u) l s = torn u s
        lesser (Stale q) l s = stale q s
        lesser (Half u) l s =
            let there = task_is u s.task s.here in
            let alive = alive All_of (AtLeast (Some t)) u listed rows told (subst (λ r. EmptyIn (AtLeast r) listed rows) e is.each)
            (not_least t u (lesser_task u t l)) (some u there.0) in
            none_of_some (All_of (of_task u listed)) (of_task u listed) alive
            (subst (λ task. All (λ files. All_of task files → ⊥) task) there.1 (λ k d b p. s.none k d b p.0 p.1))
        lesser _ l s = false≢true l

    pub no_half : (rows : List (List Bool)) → TellsOfAll All_of listed rows → EmptyIn (λ t. ⊥) listed rows → Attempted → NoHalf
    no_half rows told full some t s =
        let there = task_is t s.task s.here in
        none_of_some (All_of (of_task t listed)) (of_task t listed) (alive All_of (λ t. ⊥) t listed rows told full (λ h. h)
        (some t there.0))
        (subst (λ task. All (λ files. All_of task files → ⊥) task) there.1 (λ k d b p. s.none k d b p.0 p.1))

    -- If a new marker existed before, the changed paths are enough.
    pub looked_changed : m.marker ≡ markers.New → (xs : Listed Tags) → AllByRecursion (Looked paths) xs
    looked_changed new [] = tt
    looked_changed new (x ∷ xs) = (λ q wr o. (new, elsewhere q o), looked_changed new xs)

    -- Else all paths of all tasks are checked.
    pub looked_all : (xs : Listed Tags) (qs : List (List ℕ)) → ((q : List ℕ) → is_in q (paths_of_all xs) ≡ true → is_in q qs ≡ true)
        → AllByRecursion (Looked qs) xs
    looked_all [] qs sub = tt
    looked_all (x ∷ xs) qs sub = (
      λ q wr o. absurd (true≢false (sym (sub q (in_first q x xs wr)) ∙ o)),
      looked_all xs qs (λ q i. sub q (in_rest q x xs i)),
    )

    -- ---- left

    left_is : n.marker ≡ markers.New → (p : List ℕ) → left_at w listed opening n.shown p ≡ true → reasons.Left w opening n p
    left_is new p h =
        let a = and_parts (not (is_some (owner p listed)) && is_some (opening p) && is_some (n.shown p)) (is_replaced w p) h in
        let b = and_parts (not (is_some (owner p listed)) && is_some (opening p)) (is_some (n.shown p)) a.0 in
        let d = and_parts (not (is_some (owner p listed))) (is_some (opening p)) b.0 in
        record {
          new = new;
          unclaimed = free_unclaimed p (not_is (is_some (owner p listed)) d.0);
          replaced = a.1;
          existed = d.1;
          still = b.1;
        }

    is_left : (p : List ℕ) → reasons.Left w opening n p → left_at w listed opening n.shown p ≡ true
    is_left p h =
        let a = is_not (is_some (owner p listed)) (ap is_some (unclaimed_free p h.unclaimed)) in
        and_both (not (is_some (owner p listed)) && is_some (opening p) && is_some (n.shown p)) (is_replaced w p)
        (and_both (not (is_some (owner p listed)) && is_some (opening p)) (is_some (n.shown p))
        (and_both (not (is_some (owner p listed))) (is_some (opening p)) a h.existed) h.still) h.replaced

    -- All paths at which the reason can hold are among these.
    abbrev pub Covers : List (List ℕ) → Type 0
    Covers ps = (q : List ℕ) → reasons.Left w opening n q → is_in q ps ≡ true

    pub covers_changed : m.marker ≡ markers.New → Covers paths
    covers_changed new q h = elim (either (is_in q paths)) [
      | inl i ↦ i
      | inr o ↦
          let was = some_of (opening q) h.existed in
          let gone : m.shown q ≡ None = ((c.others q h.unclaimed).whole new).goes refl was.0 was.1 h.replaced in
          absurd (false≢true (sym (ap is_some gone) ∙ sym (ap is_some (elsewhere q o)) ∙ h.still))
    ]

    pub left_first : (ps : List (List ℕ)) (p : List ℕ) → IsStrictlySortedBy text_cmp ps → Covers ps → n.marker ≡ markers.New
        → find (left_at w listed opening n.shown) ps ≡ Some p → NoEarly → NoMissing → NoForeign → NoLost → NoTorn → NoStale → NoHalf
        → First (Left p)
    left_first ps p rise covers new h early missing foreign lost torn stale half = record {
      holds = left_is new p (passes (left_at w listed opening n.shown) ps p h);
      first = lesser;
    }
      where
        lesser : (s : Reason) → precedes s (Left p) ≡ true → Holds w opening moments n paths s → ⊥
        lesser (Early q) l s = early q s
        lesser (Missing u) l s = missing u s
        lesser (Foreign q) l s = foreign q s
        lesser (Lost q) l s = lost q s
        lesser (Torn u) l s = torn u s
        lesser (Stale q) l s = stale q s
        lesser (Half u) l s = half u s
        lesser (Left q) l s = true≢false (sym (is_left q s) ∙ least (left_at w listed opening n.shown) ps p rise h q
            (is_less (text_cmp q p) l) (covers q s))

    abbrev pub NoLeft : Type 0
    NoLeft = (p : List ℕ) → reasons.Left w opening n p → ⊥

    pub no_left : (ps : List (List ℕ)) → Covers ps → find (left_at w listed opening n.shown) ps ≡ None → NoLeft
    no_left ps covers h p s = true≢false (sym (is_left p s) ∙ none_at (left_at w listed opening n.shown) ps h p (covers p s))

    -- ---- what readers see at the paths that no attempt writes

    free_shows : NoForeign → (p : List ℕ) → is_claimed w.tasks p ≡ false → is_in p paths ≡ true → (x : Tags) → n.shown p ≡ Some x
        → opening p ≡ Some x
    free_shows foreign p o i x e = elim (same_or_not (opening p) (Some x)) [
      | inl s ↦ s
      | inr d ↦ absurd (foreign p (foreign_is p i (by (owner p listed) (unclaimed_free p o) (n.shown p) e d)))
    ]
      where
        by : (u : Option ℕ) → u ≡ None → (v : Option Tags) → v ≡ Some x → opening p ≢ Some x
            → is_foreign p (attempts_of listed u) (opening p) v ≡ true
        by None e None g d = absurd (cc g)
        by None e (Some y) g d = and_both (not (same_tags (opening p) (Some y))) true
            (is_not (same_tags (opening p) (Some y)) (other (same_tags (opening p) (Some y)) refl)) refl
          where
            other : (b : Bool) → same_tags (opening p) (Some y) ≡ b → b ≡ false
            other true s = absurd (d (same_is (opening p) (Some y) s ∙ g))
            other false s = refl
        by (Some t) e v g d = absurd (cc e)

    free_fits : NoForeign → NoLost → (p : List ℕ) → is_claimed w.tasks p ≡ false → Fits (is_kept w p) (opening p) None (n.shown p)
    free_fits foreign lost p o = elim (either (is_in p paths)) [
      | inl i ↦ record {
        only = λ x e. inl (free_shows foreign p o i x e);
        stays = λ x e k none. by i x e k (n.shown p) refl;
      }
      | inr out ↦ subst (Fits (is_kept w p) (opening p) None) (sym (elsewhere p out)) (fits_of w opening m p None (c.others p o))
    ]
      where
        by : is_in p paths ≡ true → (x : Tags) → opening p ≡ Some x → is_kept w p ≡ true → (v : Option Tags) → n.shown p ≡ v → v ≡ Some x
        by i x e k None g = absurd (lost p (record {
          is_changed = (among paths p).0 i;
          kept = k;
          unclaimed = o;
          existed = ap is_some e;
          gone = g;
        }))
        by i x e k (Some y) g = sym (free_shows foreign p o i y g) ∙ e

    pub others_next : CalmBefore → CalmOld → NoForeign → NoLost → (n.marker ≡ markers.New → NoLeft) → OthersFit w opening n
    others_next calm old foreign lost left p o =
        let fits = free_fits foreign lost p o in
        record {
          before = λ b. calm b p;
          between = λ b. fits;
          stale = λ e. old e p;
          whole = λ new. record {
            written = λ x e. absurd (cc e);
            only = λ none x e. elim (fits.only x e) [ inl s ↦ s | inr s ↦ absurd (cc s) ];
            stays = λ none x e k. fits.stays x e k none;
            goes = λ none x e r. by new x e r (n.shown p) refl;
          };
        }
      where
        by : n.marker ≡ markers.New → (x : Tags) → opening p ≡ Some x → is_replaced w p ≡ true → (v : Option Tags) → n.shown p ≡ v
            → v ≡ None
        by new x e r None g = refl
        by new x e r (Some y) g = absurd (left new p (record {
          new = new;
          unclaimed = o;
          replaced = r;
          existed = ap is_some e;
          still = ap is_some g;
        }))
