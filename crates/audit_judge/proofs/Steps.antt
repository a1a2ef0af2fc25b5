-- A judge's knowledge from one moment to the next.
use Rattle.audit_claims.specs.Claims.{Tags}
use Rattle.text_and_lists.specs.Order.{text_cmp, text_eq, text_ties, text_total}
use Rattle.judging.proofs.Owned.{either}
use Rattle.judging.specs.Judging.{AttemptExplains, Begins, DifferAt, Judged, OthersFit, StillExplains}
use Rattle.judging.specs.Listed.{Listed, Numbered, files_of, of_task}
use Rattle.soundness.specs.Claims.{Apart, Attempts, Files}
use Rattle.soundness.specs.Moments.{Moment, Same, Sound, Unchanged}
use Rattle.std.proofs.Common.{Bool, List, None, Option, Some, [], ap, arith, cond, false, get_or, inl, inr, length, refl, replicate}
use Rattle.std.proofs.Common.{subst, suc, sym, true, ℕ, ◌++◌, ◌<◌, ◌∙◌, ◌∷◌, ◌≡◌, ◌≢◌}
use Rattle.std.proofs.lemmas.Bool.{true≢false}
use Rattle.std.proofs.lemmas.List.Elements.{All-from_recursion, All-push, recursion_from_All}
use Rattle.std.proofs.lemmas.Option.{slice_get-get_or}
use Rattle.std.proofs.lemmas.Slice.Eq.{bytes_eq-Decides}
use Rattle.std.specs.List.{All, AllByRecursion, AllZip, Any, Contains}
use Rattle.audit_claims.specs.Etags.{TagMap}
use Rattle.audit_judge.proofs.First.{is_in}
use Rattle.audit_judge.proofs.Tests.{neither_first, neither_second}
use Rattle.text_and_lists.proofs.Members.{text_false}
use Rattle.std.specs.FinMap as fin
use Rattle.std.specs.List.Sorted.{IsStrictlySortedBy}
use Rattle.std.specs.Ordering.{eq_by_cmp}
use Rattle.std.specs.Str.{bytes_eq}
use Rattle.audit_judge.proofs.Narrowed.{EmptyIn, SomeOf, alive, tells_of_all}
use Rattle.audit_judge.proofs.Turn.{Turn, calm_may}
use Rattle.audit_judge.specs.Bench.{Bench, claim, now, opened}
use Rattle.audit_judge.specs.Changes.{change_all, change_by, change_one, paths_of}
use Rattle.audit_judge.specs.Following.{Follows, GoodList, Waits}
use Rattle.audit_judge.specs.Narrowed.{Tells, TellsOfAll, TellsOfTask, has_flag}
use Rattle.audit_judge.specs.declared.change.Change.{Change}
use Rattle.judging.proofs.ByTask.{by_task as by_task_law}
use Rattle.judging.proofs.Changed.{among, where_changed}
use Rattle.judging.proofs.Listed.{listed_claims}
use Rattle.soundness.specs.declared.marker.Marker.{Marker}
use Rattle.soundness.specs.declared.marker.Marker.TheVariants as markers

-- ---- lists

contains_last : {X : Type 0} (xs : List X) (x : X) → Contains (xs ++ x ∷ []) x
contains_last [] x = (0, omega arith, refl)
contains_last (y ∷ xs) x = let h = contains_last xs x in (suc h.0, omega (arith, h.1), h.2)

some_any : (E : Files Tags → Type 0) (task : Attempts Tags) → SomeOf E task → Any E task
some_any E [] s = absurd s
some_any E (files ∷ task) (inl e) = (0, files, omega arith, refl, e)
some_any E (files ∷ task) (inr s) = let a = some_any E task s in (suc a.0, a.1, omega (arith, a.2), a.3, a.4)

at_contained : (P : Moment Tags → Type 0) (moments : List (Moment Tags)) (m : Moment Tags) → Contains moments m → All P moments → P m
at_contained P moments m i h = subst P i.2 (h i.0 m i.1)

-- ---- flags

pub full_in : (D : Attempts Tags → Files Tags → Type 0) (listed : Listed Tags) (rows : List (List Bool)) → TellsOfAll D listed rows
    → AllByRecursion (λ flags. has_flag flags ≡ true) rows → EmptyIn (λ t. ⊥) listed rows
full_in D [] [] told full = tt
full_in D [] (row ∷ rows) told full = absurd told
full_in D (x ∷ xs) [] told full = absurd told
full_in D (x ∷ xs) (row ∷ rows) told full = (λ e. true≢false (sym full.0 ∙ e), full_in D xs rows told.1 full.1)

pub in_full : (listed : Listed Tags) (rows : List (List Bool)) → EmptyIn (λ t. ⊥) listed rows
    → AllByRecursion (λ flags. has_flag flags ≡ true) rows
in_full [] [] h = tt
in_full [] (row ∷ rows) h = absurd h
in_full (x ∷ xs) [] h = absurd h
in_full (x ∷ xs) (row ∷ rows) h =
    (elim (either (has_flag row)) [ inl e ↦ e | inr n ↦ absurd (h.0 n) ], in_full xs rows h.1)

some_up : (D : Files Tags → Type 0) (attempts : Numbered Tags) (flags : List Bool) → TellsOfTask (λ task. D) attempts flags
    → ((files : Files Tags) → D files) → files_of attempts ≢ [] → has_flag flags ≡ true
some_up D [] flags told all some = absurd (some refl)
some_up D (a ∷ attempts) [] told all some = absurd told
some_up D (a ∷ attempts) (true ∷ flags) told all some = refl
some_up D (a ∷ attempts) (false ∷ flags) told all some = absurd (told.0 (all a.1))

-- If every attempt explains all moments, each listed task has a flag up.
pub all_up : (D : Attempts Tags → Files Tags → Type 0) (listed : Listed Tags) (rows : List (List Bool)) → TellsOfAll D listed rows
    → ((task : Attempts Tags) (files : Files Tags) → D task files) → AllByRecursion (λ x. files_of x.1 ≢ []) listed
    → EmptyIn (λ t. ⊥) listed rows
all_up D [] [] told all some = tt
all_up D [] (row ∷ rows) told all some = absurd told
all_up D (x ∷ xs) [] told all some = absurd told
all_up D (x ∷ xs) (row ∷ rows) told all some = (
  λ e. true≢false (sym (some_up (D (files_of x.1)) x.1 row told.0 (all (files_of x.1)) some.0) ∙ e),
  all_up D xs rows told.1 all some.1,
)

-- Each listed task has an attempt if each task has one.
pub listed_some : (tasks : ℕ) (listed : Listed Tags) → GoodList tasks listed → ((t : ℕ) → t < tasks → of_task t listed ≢ [])
    → AllByRecursion (λ x. files_of x.1 ≢ []) listed
listed_some tasks listed good some = recursion_from_All (λ x. files_of x.1 ≢ []) listed
    (λ i d l e. some (get_or listed i d).0 (good.below i d l)
    (ap files_of ((listed_claims Tags).at listed good.once i d l) ∙ e))

module _ (b : Bench) (moments : List (Moment Tags)) (f : Follows b moments) where
  -- ---- the current moment

  last_explained : (task : Attempts Tags) (files : Files Tags) → StillExplains (claim b) (opened b) moments task files
      → AttemptExplains (claim b) (opened b) task (now b) files
  last_explained task files h = elim f.last [
    | inl i ↦ at_contained (λ m. AttemptExplains (claim b) (opened b) task m files) moments (now b) i h
    | inr calm ↦ (λ p o. calm_may (claim b) (opened b) (now b) calm p _)
  ]

  last_others : OthersFit (claim b) (opened b) (now b)
  last_others = elim f.last [
    | inl i ↦ at_contained (OthersFit (claim b) (opened b)) moments (now b) i f.others
    | inr calm ↦ (λ p o. calm_may (claim b) (opened b) (now b) calm p None)
  ]

  pub last_calm : b.needed ≡ false → Unchanged (opened b) (now b)
  last_calm n = elim f.last [
    | inl i ↦ at_contained (Unchanged (opened b)) moments (now b) i (f.unneeded n)
    | inr calm ↦ calm
  ]

  -- Each task has an attempt.
  pub tasks_attempted : b.needed ≡ true → (t : ℕ) → t < b.tasks → of_task t b.claimed.listed ≢ []
  tasks_attempted n t l e = f.attempted n t (of_task t b.claimed.listed)
      (subst (λ k. t < k) (sym ((listed_claims Tags).count b.tasks b.claimed.listed)) l) (at_task t l ∙ e)
    where
      at_task : (t : ℕ) → t < b.tasks → get_or (claim b).tasks t (of_task t b.claimed.listed) ≡ of_task t b.claimed.listed
      at_task t l = cc (
        slice_get-get_or (claim b).tasks t (of_task t b.claimed.listed)
            (subst (λ k. t < k) (sym ((listed_claims Tags).count b.tasks b.claimed.listed)) l),
        (listed_claims Tags).task b.tasks b.claimed.listed t l,
      )

  -- ---- a run that the judge follows is sound

  apart : Apart (claim b).tasks
  apart = (listed_claims Tags).apart b.tasks b.claimed.listed f.good.own

  judged : (n : Bool) → b.needed ≡ n → Judged (claim b) (opened b) moments
  judged false n = inl (f.unneeded n)
  judged true n = inr (record { each = each; others = f.others })
    where
      each : All (λ task. Any (StillExplains (claim b) (opened b) moments task) task) (claim b).tasks
      each k d l =
          let w = claim b in
          let less : k < b.tasks = subst (λ c. k < c) ((listed_claims Tags).count b.tasks b.claimed.listed) l in
          let same : get_or w.tasks k d ≡ of_task k b.claimed.listed =
          cc (slice_get-get_or w.tasks k d l, (listed_claims Tags).task b.tasks b.claimed.listed k less) in
          let full = full_in (StillExplains w (opened b) moments) b.claimed.listed b.candidates f.candidates
          (recursion_from_All (λ flags. has_flag flags ≡ true) b.candidates (f.explained n)) in
          let one = alive (StillExplains w (opened b) moments) (λ t. ⊥) k b.claimed.listed b.candidates f.candidates full (λ h. h)
          (tasks_attempted n k less) in
          subst (λ task. Any (StillExplains w (opened b) moments task) task) (sym same)
          (some_any (StillExplains w (opened b) moments (of_task k b.claimed.listed)) (of_task k b.claimed.listed) one)

  pub sound_of : Sound (claim b) (opened b) moments
  sound_of = (by_task_law Tags (claim b) apart (opened b) moments).1 (judged b.needed refl)

  -- ---- one more moment

  -- The moment after the changes, with what else is then known.
  module _ (shown : TagMap) (marker : Marker) (needed : Bool) (rows : List (List Bool)) where
    -- The judge's knowledge after the changes.
    abbrev pub later : Bench
    later = record b { shown = shown; marker = marker; needed = needed; candidates = rows }

    told_more : ((task : Attempts Tags) (files : Files Tags) → StillExplains (claim b) (opened b) moments task files
        × AttemptExplains (claim b) (opened b) task (now later) files
        → StillExplains (claim b) (opened b) (moments ++ now later ∷ []) task files)
    told_more task files h = ((where_changed Tags).one_more (claim b) (opened b) moments task files (now later)).1 h

    told_less : ((task : Attempts Tags) (files : Files Tags) → StillExplains (claim b) (opened b) (moments ++ now later ∷ []) task files
        → StillExplains (claim b) (opened b) moments task files × AttemptExplains (claim b) (opened b) task (now later) files)
    told_less task files h = ((where_changed Tags).one_more (claim b) (opened b) moments task files (now later)).0 h

    -- A choice is needed, and each listed task has an attempt left.
    pub follows_chosen : needed ≡ true → ((t : ℕ) → t < b.tasks → of_task t b.claimed.listed ≢ [])
        → (b.begun ≡ false → Same (now later).shown (opened b)) → (marker ≡ markers.Old → Same (now later).shown (opened b))
        → TellsOfAll (λ task files. StillExplains (claim b) (opened b) moments task files × AttemptExplains (claim b) (opened b) task
        (now later) files) b.claimed.listed rows
        → EmptyIn (λ t. ⊥) b.claimed.listed rows → OthersFit (claim b) (opened b) (now later) → Follows later (moments ++ now later ∷ [])
    follows_chosen need some calm old told full others = record {
      good = f.good;
      last = inl (contains_last moments (now later));
      before = calm;
      stale = old;
      unneeded = λ n. absurd (true≢false (sym need ∙ n));
      attempted = λ n k d l e.
          let less : k < b.tasks = subst (λ c. k < c) ((listed_claims Tags).count b.tasks b.claimed.listed) l in
          some k less (cc (slice_get-get_or (claim b).tasks k d l, (listed_claims Tags).task b.tasks b.claimed.listed k less, e));
      explained = λ n. All-from_recursion (λ flags. has_flag flags ≡ true) rows (in_full b.claimed.listed rows full);
      candidates = tells_of_all (λ task files. StillExplains (claim b) (opened b) moments task files
          × AttemptExplains (claim b) (opened b) task (now later) files) (StillExplains (claim b) (opened b) (moments ++ now later ∷ []))
          told_more told_less b.claimed.listed rows told;
      others = All-push (OthersFit (claim b) (opened b)) moments (now later) f.others others;
    }

    -- No choice is needed.
    pub follows_calm : b.needed ≡ false → needed ≡ false → rows ≡ b.candidates → Unchanged (opened b) (now later)
        → Follows later (moments ++ now later ∷ [])
    follows_calm was need same calm = record {
      good = f.good;
      last = inl (contains_last moments (now later));
      before = λ e. calm.shows;
      stale = λ e. calm.shows;
      unneeded = λ n. All-push (Unchanged (opened b)) moments (now later) (f.unneeded was) calm;
      attempted = λ n. absurd (true≢false (sym n ∙ need));
      explained = λ n. absurd (true≢false (sym n ∙ need));
      candidates = subst (TellsOfAll (StillExplains (claim b) (opened b) (moments ++ now later ∷ [])) b.claimed.listed) (sym same)
          (tells_of_all (StillExplains (claim b) (opened b) moments) (StillExplains (claim b) (opened b) (moments ++ now later ∷ []))
          (λ task files h. told_more task files (h, λ p o. calm_may (claim b) (opened b) (now later) calm p _))
          (λ task files h. (told_less task files h).0) b.claimed.listed b.candidates f.candidates);
      others = All-push (OthersFit (claim b) (opened b)) moments (now later) f.others
          (λ p o. calm_may (claim b) (opened b) (now later) calm p None);
    }

  -- ---- the commit begins

  abbrev pub begun : Bench
  begun = record b { begun = true }

  begins : b.begun ≡ false → Begins (opened b) (now b) (now begun)
  begins e = record { begun = refl; marker = refl; shown = λ p. refl; before = f.before e }

  pub follows_begun : b.begun ≡ false → Follows begun (moments ++ now begun ∷ [])
  follows_begun e = record {
    good = f.good;
    last = inl (contains_last moments (now begun));
    before = λ h. f.before e;
    stale = f.stale;
    unneeded = λ n. All-push (Unchanged (opened b)) moments (now begun) (f.unneeded n)
        ((where_changed Tags).begins_unchanged (opened b) (now b) (now begun) (begins e) (last_calm n));
    attempted = f.attempted;
    explained = f.explained;
    candidates = tells_of_all (StillExplains (claim b) (opened b) moments) (StillExplains (claim b) (opened b) (moments ++ now begun ∷ []))
        (λ task files h. ((where_changed Tags).one_more (claim b) (opened b) moments task files (now begun)).1 (
          h,
          (where_changed Tags).begins_attempts (claim b) (opened b) task files (now b) (now begun) (begins e) (last_explained task files h),
        ))
        (λ task files h. (((where_changed Tags).one_more (claim b) (opened b) moments task files (now begun)).0 h).0)
        b.claimed.listed b.candidates f.candidates;
    others = All-push (OthersFit (claim b) (opened b)) moments (now begun) f.others
        ((where_changed Tags).begins_others (claim b) (opened b) (now b) (now begun) (begins e) last_others);
  }

  -- ---- what the laws on one more moment require

  pub turn : (shown : TagMap) (marker : Marker) (paths : List (List ℕ)) → IsStrictlySortedBy text_cmp paths
      → DifferAt paths (now b) (record { begun = b.begun; marker = marker; shown = λ p. fin.get shown p })
      → Turn b.keeps b.tasks b.claimed.listed (opened b) moments (now b)
      (record { begun = b.begun; marker = marker; shown = λ p. fin.get shown p }) paths
  turn shown marker paths rise differ = record {
    good = f.good;
    rising = rise;
    differ = differ;
    last = last_explained;
    before = f.before;
    stale = f.stale;
    others = last_others;
  }

-- ---- the beginning

-- All flags of all listed attempts are up.
abbrev pub AllUp : Listed Tags → List (List Bool) → Type 0
AllUp listed rows = AllZip (λ x flags. flags ≡ replicate (length x.1) true) listed rows

task_up : (D : Files Tags → Type 0) → ((files : Files Tags) → D files) → (attempts : Numbered Tags)
    → AllZip (λ a flag. Tells (D a.1) flag) attempts (replicate (length attempts) true)
task_up D all [] = tt
task_up D all (a ∷ attempts) = (all a.1, task_up D all attempts)

told_up : (D : Attempts Tags → Files Tags → Type 0) → ((task : Attempts Tags) (files : Files Tags) → D task files) → (listed : Listed Tags)
    (rows : List (List Bool)) → AllUp listed rows → TellsOfAll D listed rows
told_up D all [] [] h = tt
told_up D all [] (row ∷ rows) h = absurd h
told_up D all (x ∷ xs) [] h = absurd h
told_up D all (x ∷ xs) (row ∷ rows) h = (
  subst (TellsOfTask D x.1) (sym h.0) (task_up (D (files_of x.1)) (all (files_of x.1)) x.1),
  told_up D all xs rows h.1,
)

pub follows_first : (b : Bench) → Waits b → (rows : List (List Bool)) → AllUp b.claimed.listed rows
    → Follows (record b { started = true; candidates = rows }) []
follows_first b h rows up = record {
  good = h.good;
  last = inr (record { shows = λ p. ap (λ m. fin.get m p) h.shows; unmarked = h.unmarked });
  before = λ e p. ap (λ m. fin.get m p) h.shows;
  stale = λ e p. ap (λ m. fin.get m p) h.shows;
  unneeded = λ n k d l. absurd (omega (arith, l));
  attempted = λ n. absurd (true≢false (sym n ∙ h.unneeded));
  explained = λ n. absurd (true≢false (sym n ∙ h.unneeded));
  candidates = told_up (StillExplains (claim b) (opened b) []) (λ task files k d l. absurd (omega (arith, l))) b.claimed.listed rows up;
  others = λ k d l. absurd (omega (arith, l));
}

-- ---- changes

tied : (p q : List ℕ) → eq_by_cmp text_cmp p q ≡ text_eq p q
tied p q = sym (text_ties p q)

one_kept : (c : Change) (m : TagMap) (q : List ℕ) → (c.path ≡ q → ⊥) → fin.get (change_one c m) q ≡ fin.get m q
one_kept c m q other = by c.etags
  where
    out : eq_by_cmp text_cmp q c.path ≡ false
    out = tied q c.path ∙ text_false q c.path (λ e. other (sym e))

    by : (etags : Option Tags) → fin.get (change_by c.path etags m) q ≡ fin.get m q
    by None = fin.get-remove text_total m c.path q ∙ ap (λ b. cond b None (fin.get m q)) out
    by (Some tags) = fin.get-insert text_total m c.path tags q ∙ ap (λ b. cond b (Some tags) (fin.get m q)) out

pub all_kept : (changes : List Change) (m : TagMap) (q : List ℕ) → is_in q (paths_of changes) ≡ false
    → fin.get (change_all changes m) q ≡ fin.get m q
all_kept [] m q out = refl
all_kept (c ∷ changes) m q out =
    all_kept changes (change_one c m) q (neither_second (bytes_eq q c.path) (is_in q (paths_of changes)) out)
    ∙ one_kept c m q (λ e. true≢false (sym ((bytes_eq-Decides q c.path).1 (sym e))
    ∙ neither_first (bytes_eq q c.path) (is_in q (paths_of changes)) out))

-- A change satisfies what the laws require.
pub differ_changed : (b : Bench) (changes : List Change) (marker : Marker) (shown : TagMap) → shown ≡ change_all changes b.shown
    → (marker ≡ markers.Old → b.marker ≡ markers.Old)
    → DifferAt (paths_of changes) (now b) (record { begun = b.begun; marker = marker; shown = λ p. fin.get shown p })
differ_changed b changes marker shown e old = record {
  begun = refl;
  old = old;
  shown = λ q out. ap (λ m. fin.get m q) e ∙ all_kept changes b.shown q (elim (either (is_in q (paths_of changes))) [
    | inl i ↦ absurd (out ((among (paths_of changes) q).0 i))
    | inr o ↦ o
  ]);
}
