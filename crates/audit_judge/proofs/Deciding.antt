-- A judge decides rightly: the results of the tests give the first reason, or the judge's knowledge afterwards.
use Rattle.audit_claims.specs.Etags.{TagMap}
use Rattle.audit_claims.specs.Claims.{AllListed, IsFirstMissing, Tags}
use Rattle.text_and_lists.specs.Order.{text_cmp, text_ties}
use Rattle.judging.specs.Judging.{JudgedNext, StillExplains}
use Rattle.judging.specs.Listed.{Listed, Numbered, claim_of, files_of, numbered, of_task}
use Rattle.soundness.specs.Claims.{Attempts, Files, file_at}
use Rattle.soundness.specs.Moments.{Moment, Same, Sound}
use Rattle.std.proofs.Common.{Bool, List, None, Option, Some, [], ap, arith, false, get_or, inl, inr, length, refl, subst, sym, true, ℕ}
use Rattle.std.proofs.Common.{◌++◌, ◌<◌, ◌||◌, ◌∙◌, ◌∷◌, ◌≡◌, ◌≢◌, ◌⊎◌}
use Rattle.std.proofs.lemmas.List.Elements.{recursion_from_All}
use Rattle.std.proofs.lemmas.Slice.Eq.{bytes_eq-Decides}
use Rattle.std.specs.List.{AllByRecursion, find, list_any}
use Rattle.std.specs.Prelude.{T, is_some, map, ◌&&◌}
use Rattle.audit_judge.proofs.First.{is_in, passes}
use Rattle.audit_judge.proofs.Narrowed.{AtLeast, EmptyIn, IsLeast, least_all}
use Rattle.audit_judge.proofs.Steps.{all_up, differ_changed, follows_calm, follows_chosen, full_in, last_calm, listed_some, tasks_attempted}
use Rattle.audit_judge.proofs.Steps.{turn}
use Rattle.audit_judge.proofs.Tests.{differs_is}
use Rattle.audit_judge.proofs.Turn.{All_of, CalmOld, Covers, First, Looked, NoEarly, NoForeign, NoLost}
use Rattle.audit_judge.proofs.Turn.{NoMissing, NoStale, NoTorn, Part, Turn, covers_changed, early_first, foreign_first, half_first}
use Rattle.audit_judge.proofs.Turn.{half_told}
use Rattle.audit_judge.proofs.Turn.{left_first, looked_all, looked_changed, lost_first, missing_first, no_early, no_foreign, no_half}
use Rattle.audit_judge.proofs.Turn.{no_left}
use Rattle.audit_judge.proofs.Turn.{no_lost, no_missing, no_stale, no_torn, old_calm, others_next, same_next, stale_first, still_calm}
use Rattle.audit_judge.proofs.Turn.{torn_first}
use Rattle.audit_judge.proofs.Turn.{calm_may, torn_told, unmarked_told}
use Rattle.audit_judge.specs.Bench.{Bench, claim, now, opened}
use Rattle.audit_judge.specs.Changes.{change_all, paths_of}
use Rattle.audit_judge.specs.Reasons.{Holds, IsFirst}
use Rattle.judging.proofs.InTurn.{in_turn}
use Rattle.judging.proofs.Listed.{listed_claims}
use Rattle.judging.proofs.Reasons.{reasons_tell}
use Rattle.audit_judge.specs.Deciding.{Answers, bench_of}
use Rattle.audit_judge.specs.inner.Deciding.{Followed, early_of, left_paths, marked_of, stale_of, whole_paths}
use Rattle.audit_judge.specs.Following.{Follows, GoodList}
use Rattle.audit_judge.specs.Narrowed.{TellsOfAll, TellsOfTask, has_flag}
use Rattle.audit_judge.specs.inner.Narrowed.{Fitting, least_from, narrow_all, paths_of_all}
use Rattle.audit_judge.specs.Scene.{Scene}
use Rattle.audit_judge.specs.inner.Scene.{meets, shows_sign}
use Rattle.audit_judge.specs.declared.change.Change.{Change}
use Rattle.audit_judge.specs.declared.reason.Reason.{Reason}
use Rattle.audit_judge.specs.declared.reason.Reason.TheVariants as told
use Rattle.audit_judge.specs.declared.signs.Demand.TheVariants as demands
use Rattle.audit_judge.specs.declared.signs.Sign.TheVariants as signs
use Rattle.soundness.specs.declared.marker.Marker.{Marker}
use Rattle.soundness.specs.declared.marker.Marker.TheVariants as markers
use Rattle.std.specs.FinMap as fin
use Rattle.audit_judge.proofs.Tests.{or_cases, or_left, or_right}
use Rattle.text_and_lists.proofs.Members.{text_is}
use Rattle.std.specs.Ordering.{eq_by_cmp, is_lt}
use Rattle.std.specs.FinMap.Entries.{below_all}
use Rattle.std.specs.declared.cmp.Ordering.{Ordering}
use Rattle.std.specs.declared.cmp.Ordering.TheVariants.{Less, Equal, Greater}
use Rattle.std.specs.List.Sorted.{IsStrictlySortedBy}
use Rattle.std.specs.Str.{bytes_eq}

-- ---- markers

new_or_not : (m : Marker) → (m ≡ markers.New) ⊎ (m ≢ markers.New)
new_or_not markers.Absent = inr (λ e. cc)
new_or_not markers.Old = inr (λ e. cc)
new_or_not markers.New = inl refl

-- There are flags for each attempt.
pub fitting_of : (D : Attempts Tags → Files Tags → Type 0) (listed : Listed Tags) (rows : List (List Bool)) → TellsOfAll D listed rows
    → Fitting listed rows
fitting_of D [] [] h = tt
fitting_of D [] (row ∷ rows) h = absurd h
fitting_of D (x ∷ xs) [] h = absurd h
fitting_of D (x ∷ xs) (row ∷ rows) h = (as_long (D (files_of x.1)) x.1 row h.0, fitting_of D xs rows h.1)
  where
    as_long : (E : Files Tags → Type 0) (attempts : Numbered Tags) (flags : List Bool) → TellsOfTask (λ task. E) attempts flags
        → length flags ≡ length attempts
    as_long E [] [] h = refl
    as_long E [] (f ∷ flags) h = absurd h
    as_long E (a ∷ attempts) [] h = absurd h
    as_long E (a ∷ attempts) (f ∷ flags) h = let e = as_long E attempts flags h.1 in omega (arith, e)

none_least : (listed : Listed Tags) (rows : List (List Bool)) → EmptyIn (λ t. ⊥) listed rows → IsLeast listed rows None
none_least listed rows full = record { each = full; found = λ t e. absurd (cc e) }

some_attempts : (t : ℕ) (listed : Listed Tags) → 0 < length (numbered t listed) → of_task t listed ≢ []
some_attempts t listed l e = by (numbered t listed) l e
  where
    by : (attempts : Numbered Tags) → 0 < length attempts → files_of attempts ≢ []
    by [] l e = omega (arith, l)
    by (a ∷ attempts) l e = cc e

-- ---- what readers see, in the order of the paths

T_parts : (a b : Bool) → T (a && b) → T a × T b
T_parts true b h = (tt, h)
T_parts false b h = absurd h

is_less : (o : Ordering) → T (is_lt o) → o ≡ Less
is_less Less h = refl
is_less Equal h = absurd h
is_less Greater h = absurd h

listed_in : (q : List ℕ) (ps : List (List ℕ)) → list_any (eq_by_cmp text_cmp q) ps ≡ true → is_in q ps ≡ true
listed_in q [] h = h
listed_in q (p ∷ ps) h = by (or_cases (eq_by_cmp text_cmp q p) (list_any (eq_by_cmp text_cmp q) ps) h) (listed_in q ps)
  where
    by : (eq_by_cmp text_cmp q p ≡ true) ⊎ (list_any (eq_by_cmp text_cmp q) ps ≡ true)
        → (list_any (eq_by_cmp text_cmp q) ps ≡ true → is_in q ps ≡ true) → (bytes_eq q p || is_in q ps) ≡ true
    by (inl e) later = or_left (bytes_eq q p) (is_in q ps) ((bytes_eq-Decides q p).1 (text_is q p (text_ties q p ∙ e)))
    by (inr e) later = or_right (bytes_eq q p) (is_in q ps) (later e)

shown_in : (m : TagMap) (q : List ℕ) → is_some (fin.get m q) ≡ true → is_in q (map (λ e. e.0) (fin.entries m)) ≡ true
shown_in m q h = listed_in q (map (λ e. e.0) (fin.entries m)) (sym (fin.contains_key-keys m q) ∙ h)

below_of : (k : List ℕ) (es : List (List ℕ × Tags)) → T (below_all text_cmp k es)
    → AllByRecursion (λ y. text_cmp k y ≡ Less) (map (λ e. e.0) es)
below_of k [] h = tt
below_of k (e ∷ es) h =
    let both = T_parts (is_lt (text_cmp k e.0)) (below_all text_cmp k es) h in
    (is_less (text_cmp k e.0) both.0, below_of k es both.1)

rise_of : (es : List (List ℕ × Tags)) → T (fin.is_sorted text_cmp es) → IsStrictlySortedBy text_cmp (map (λ e. e.0) es)
unfolding IsStrictlySortedBy
rise_of [] h = tt
rise_of (e ∷ es) h = let both = T_parts (below_all text_cmp e.0 es) (fin.is_sorted text_cmp es) h in
    (below_of e.0 es both.0, rise_of es both.1)

shown_rise : (m : TagMap) → IsStrictlySortedBy text_cmp (map (λ e. e.0) (fin.entries m))
shown_rise m = rise_of (fin.entries m) (fin.entries_sorted m)

module _
    (s : Scene) (begun : Bool) (was marker : Marker) (needed : Bool) (rows : List (List Bool)) (before : TagMap)
    (moments : List (Moment Tags)) (changes : List Change)
    (f : Follows (bench_of s begun was needed rows before) moments)
    (is : s.shown ≡ change_all changes before) (rise : IsStrictlySortedBy text_cmp (paths_of changes))
    (old : marker ≡ markers.Old → was ≡ markers.Old)
  where
    abbrev pub b : Bench
    b = bench_of s begun was needed rows before

    abbrev pub paths : List (List ℕ)
    paths = paths_of changes

    -- The moment after the changes.
    abbrev pub n : Moment Tags
    n = record { begun = begun; marker = marker; shown = λ p. fin.get s.shown p }

    abbrev pub Turned : Type 0
    Turned = Turn s.keeps s.tasks s.claimed.listed (opened b) moments (now b) n paths

    c : Turned
    c = turn b moments f s.shown marker paths rise (differ_changed b changes marker s.shown is old)

    -- The judge's knowledge afterwards.
    abbrev pub after : Bool → List (List Bool) → Bench
    after need flags = bench_of s begun marker need flags s.shown

    abbrev pub Right : Option Reason → Bool → List (List Bool) → Type 0
    Right r need flags = Answers b moments paths r (after need flags)

    -- ---- before a choice

    pub early_right : (p : List ℕ) (need : Bool) (flags : List (List Bool))
        → early_of begun (find (shows_sign signs.Differs s) paths) ≡ Some p → Right (Some (told.Early p)) need flags
    early_right p need flags h = by begun refl h
      where
        by : (d : Bool) → begun ≡ d → early_of d (find (shows_sign signs.Differs s) paths) ≡ Some p
            → First s.keeps s.tasks s.claimed.listed (opened b) moments (now b) n paths c (told.Early p)
        by true e g = absurd (cc g)
        by false e g = early_first s.keeps s.tasks s.claimed.listed (opened b) moments (now b) n paths c p e g

    abbrev pub Calm : Type 0
    Calm = begun ≡ false → Same n.shown (opened b)

    pub calm_right : early_of begun (find (shows_sign signs.Differs s) paths) ≡ None → Calm
    calm_right h = still_calm s.keeps s.tasks s.claimed.listed (opened b) moments (now b) n paths c
        (λ e. sym (ap (λ d. early_of d (find (shows_sign signs.Differs s) paths)) e) ∙ h)

    -- No choice is needed.
    pub unneeded_right : needed ≡ false → marker ≢ markers.New → find (shows_sign signs.Differs s) paths ≡ None → Right None needed rows
    unneeded_right none unmarked same = follows_calm b moments f s.shown marker needed rows none none refl (record {
      shows = same_next s.keeps s.tasks s.claimed.listed (opened b) moments (now b) n paths c same (last_calm b moments f none).shows;
      unmarked = unmarked;
    })

    pub missing_right : Calm → (t : ℕ) (need : Bool) (flags : List (List Bool))
        → (marker ≡ markers.New) ⊎ (find (shows_sign signs.Differs s) paths ≢ None) → t < s.tasks → IsFirstMissing s.claimed.listed t
        → Right (Some (told.Missing t)) need flags
    missing_right calm t need flags why l first = missing_first s.keeps s.tasks s.claimed.listed (opened b) moments (now b) n paths c t
        (no_early s.keeps s.tasks s.claimed.listed (opened b) moments (now b) n paths c calm) (by why) l
        (ap files_of first.missing) (λ u less. some_attempts u s.claimed.listed (first.before u less))
      where
        found : (o : Option (List ℕ)) → find (shows_sign signs.Differs s) paths ≡ o → o ≢ None
            → (p : List ℕ) × (n.shown p ≢ opened b p)
        found None e g = absurd (g refl)
        found (Some p) e g = (p, differs_is (opened b) n.shown p (passes (shows_sign signs.Differs s) paths p e))

        by : (marker ≡ markers.New) ⊎ (find (shows_sign signs.Differs s) paths ≢ None)
            → ((p : List ℕ) × (n.shown p ≢ opened b p)) ⊎ (marker ≡ markers.New)
        by (inl new) = inr new
        by (inr g) = inl (found (find (shows_sign signs.Differs s) paths) refl g)

    abbrev pub Tasks : Type 0
    Tasks = (t : ℕ) → t < s.tasks → of_task t s.claimed.listed ≢ []

    pub tasks_right : (needed ≡ true) ⊎ AllListed s.claimed.listed s.tasks → Tasks
    tasks_right (inl need) = tasks_attempted b moments f need
    tasks_right (inr all) = λ t l. some_attempts t s.claimed.listed (all t l)

    -- ---- from then on

    module _ (calm : Calm) (tasks : Tasks) where
      full : EmptyIn (λ t. ⊥) s.claimed.listed rows
      full = by needed refl
        where
          by : (d : Bool) → needed ≡ d → EmptyIn (λ t. ⊥) s.claimed.listed rows
          by true e = full_in (StillExplains (claim b) (opened b) moments) s.claimed.listed rows f.candidates
              (recursion_from_All (λ flags. has_flag flags ≡ true) rows (f.explained e))
          by false e = all_up (StillExplains (claim b) (opened b) moments) s.claimed.listed rows f.candidates
              (λ task files k d l p o. calm_may (claim b) (opened b) (get_or moments k d) (f.unneeded e k d l) p (file_at files p))
              (listed_some s.tasks s.claimed.listed f.good tasks)

      mine : Turn s.keeps s.tasks s.claimed.listed (opened b) moments (now b) n paths
      mine = c

      quiet : NoEarly s.keeps s.tasks s.claimed.listed (opened b) moments (now b) n paths c
      quiet = no_early s.keeps s.tasks s.claimed.listed (opened b) moments (now b) n paths c calm

      here : NoMissing s.keeps s.tasks s.claimed.listed (opened b) moments (now b) n paths c
      here = no_missing s.keeps s.tasks s.claimed.listed (opened b) moments (now b) n paths c tasks

      pub foreign_right : (p : List ℕ) (flags : List (List Bool)) → find (shows_sign signs.Foreign s) paths ≡ Some p
          → Right (Some (told.Foreign p)) true flags
      foreign_right p flags h = foreign_first s.keeps s.tasks s.claimed.listed (opened b) moments (now b) n paths c p quiet here h

      module _ (known : find (shows_sign signs.Foreign s) paths ≡ None) where
        ours : NoForeign s.keeps s.tasks s.claimed.listed (opened b) moments (now b) n paths c
        ours = no_foreign s.keeps s.tasks s.claimed.listed (opened b) moments (now b) n paths c known

        pub lost_right : (p : List ℕ) (flags : List (List Bool)) → find (shows_sign signs.Lost s) paths ≡ Some p
            → Right (Some (told.Lost p)) true flags
        lost_right p flags h = lost_first s.keeps s.tasks s.claimed.listed (opened b) moments (now b) n paths c p quiet here ours h

        module _ (kept : find (shows_sign signs.Lost s) paths ≡ None) where
          stay : NoLost s.keeps s.tasks s.claimed.listed (opened b) moments (now b) n paths c
          stay = no_lost s.keeps s.tasks s.claimed.listed (opened b) moments (now b) n paths c kept

          -- The flags after the attempts that do not fit are ruled out.
          abbrev pub parts : List (List Bool)
          parts = narrow_all (meets demands.Part s) s.claimed.listed paths rows

          told_parts : TellsOfAll (Part s.keeps s.tasks s.claimed.listed (opened b) moments (now b) n paths c) s.claimed.listed parts
          told_parts = torn_told s.keeps s.tasks s.claimed.listed (opened b) moments (now b) n paths c rows f.candidates

          least_parts : IsLeast s.claimed.listed parts (least_from (meets demands.Part s) s.claimed.listed paths rows None)
          least_parts = least_all (meets demands.Part s) paths s.claimed.listed rows None (none_least s.claimed.listed rows full)

          pub torn_right : (t : ℕ) (flags : List (List Bool)) → least_from (meets demands.Part s) s.claimed.listed paths rows None ≡ Some t
              → Right (Some (told.Torn t)) true flags
          torn_right t flags h = torn_first s.keeps s.tasks s.claimed.listed (opened b) moments (now b) n paths c parts
              (least_from (meets demands.Part s) s.claimed.listed paths rows None) t told_parts least_parts h tasks quiet here ours stay

          module _ (fits : least_from (meets demands.Part s) s.claimed.listed paths rows None ≡ None) where
            full_parts : EmptyIn (λ t. ⊥) s.claimed.listed parts
            full_parts = subst (λ o. EmptyIn (AtLeast o) s.claimed.listed parts) fits least_parts.each

            firm : NoTorn s.keeps s.tasks s.claimed.listed (opened b) moments (now b) n paths c
            firm = no_torn s.keeps s.tasks s.claimed.listed (opened b) moments (now b) n paths c parts told_parts full_parts tasks

            pub stale_right : (p : List ℕ) (flags : List (List Bool)) → stale_of marker (find (shows_sign signs.Differs s) paths) ≡ Some p
                → Right (Some (told.Stale p)) true flags
            stale_right p flags h = by marker refl h
              where
                by : (m : Marker) → marker ≡ m → stale_of m (find (shows_sign signs.Differs s) paths) ≡ Some p
                    → First s.keeps s.tasks s.claimed.listed (opened b) moments (now b) n paths c (told.Stale p)
                by markers.Absent e g = absurd (cc g)
                by markers.Old e g = stale_first s.keeps s.tasks s.claimed.listed (opened b) moments (now b) n paths c p e g quiet here ours
                    stay firm
                by markers.New e g = absurd (cc g)

            module _ (fresh : stale_of marker (find (shows_sign signs.Differs s) paths) ≡ None) where
              calm_old : CalmOld s.keeps s.tasks s.claimed.listed (opened b) moments (now b) n paths c
              calm_old = old_calm s.keeps s.tasks s.claimed.listed (opened b) moments (now b) n paths c
                  (λ e. sym (ap (λ m. stale_of m (find (shows_sign signs.Differs s) paths)) e) ∙ fresh)

              new : NoStale s.keeps s.tasks s.claimed.listed (opened b) moments (now b) n paths c
              new = no_stale s.keeps s.tasks s.claimed.listed (opened b) moments (now b) n paths c calm_old

              -- Without a new marker, these flags are the result.
              pub unmarked_right : marker ≢ markers.New → Right None true parts
              unmarked_right unmarked = follows_chosen b moments f s.shown marker true parts refl tasks calm calm_old
                  (unmarked_told s.keeps s.tasks s.claimed.listed (opened b) moments (now b) n paths c calm calm_old unmarked parts
                  told_parts)
                  full_parts (others_next s.keeps s.tasks s.claimed.listed (opened b) moments (now b) n paths c calm calm_old ours stay
                  (λ e. absurd (unmarked e)))

              -- The same for flags that are equal to these.
              pub unmarked_from : (next : List (List Bool)) → next ≡ parts → marker ≢ markers.New → Right None true next
              unmarked_from next same unmarked = subst (Right None true) (sym same) (unmarked_right unmarked)

              module _ (marked : marker ≡ markers.New) where
                abbrev pub looked : List (List ℕ)
                looked = whole_paths was s.claimed.listed paths

                all_looked : AllByRecursion (Looked s.keeps s.tasks s.claimed.listed (opened b) moments (now b) n paths c looked)
                    s.claimed.listed
                all_looked = by was refl
                  where
                    by : (m : Marker) → was ≡ m
                        → AllByRecursion (Looked s.keeps s.tasks s.claimed.listed (opened b) moments (now b) n paths c
                        (whole_paths m s.claimed.listed paths)) s.claimed.listed
                    by markers.Absent e = looked_all s.keeps s.tasks s.claimed.listed (opened b) moments (now b) n paths c s.claimed.listed
                        (paths_of_all s.claimed.listed) (λ q i. i)
                    by markers.Old e = looked_all s.keeps s.tasks s.claimed.listed (opened b) moments (now b) n paths c s.claimed.listed
                        (paths_of_all s.claimed.listed) (λ q i. i)
                    by markers.New e = looked_changed s.keeps s.tasks s.claimed.listed (opened b) moments (now b) n paths c e
                        s.claimed.listed

                abbrev pub wholes : List (List Bool)
                wholes = narrow_all (meets demands.Whole s) s.claimed.listed looked parts

                told_wholes : TellsOfAll (All_of s.keeps s.tasks s.claimed.listed (opened b) moments (now b) n paths c) s.claimed.listed
                    wholes
                told_wholes = half_told s.keeps s.tasks s.claimed.listed (opened b) moments (now b) n paths c calm marked looked all_looked
                    parts
                    told_parts

                least_wholes : IsLeast s.claimed.listed wholes (least_from (meets demands.Whole s) s.claimed.listed looked parts None)
                least_wholes = least_all (meets demands.Whole s) looked s.claimed.listed parts None
                    (none_least s.claimed.listed parts full_parts)

                -- The first task that has no attempt whose whole readers see.
                half_right : (t : ℕ) (flags : List (List Bool))
                    → least_from (meets demands.Whole s) s.claimed.listed looked parts None ≡ Some t
                    → Right (Some (told.Half t)) true flags
                half_right t flags h = half_first s.keeps s.tasks s.claimed.listed (opened b) moments (now b) n paths c wholes
                    (least_from (meets demands.Whole s) s.claimed.listed looked parts None) t marked told_wholes least_wholes h tasks quiet
                    here
                    ours stay firm new

                full_wholes : least_from (meets demands.Whole s) s.claimed.listed looked parts None ≡ None
                    → EmptyIn (λ t. ⊥) s.claimed.listed wholes
                full_wholes h = subst (λ o. EmptyIn (AtLeast o) s.claimed.listed wholes) h least_wholes.each

                -- The paths with files left.
                abbrev pub leftover : List (List ℕ)
                leftover = left_paths was s.shown paths

                covered : Covers s.keeps s.tasks s.claimed.listed (opened b) moments (now b) n paths c leftover
                covered = by was refl
                  where
                    by : (m : Marker) → was ≡ m
                        → Covers s.keeps s.tasks s.claimed.listed (opened b) moments (now b) n paths c (left_paths m s.shown paths)
                    by markers.Absent e = λ q h. shown_in s.shown q h.still
                    by markers.Old e = λ q h. shown_in s.shown q h.still
                    by markers.New e = covers_changed s.keeps s.tasks s.claimed.listed (opened b) moments (now b) n paths c e

                rising : IsStrictlySortedBy text_cmp leftover
                rising = by was
                  where
                    by : (m : Marker) → IsStrictlySortedBy text_cmp (left_paths m s.shown paths)
                    by markers.Absent = shown_rise s.shown
                    by markers.Old = shown_rise s.shown
                    by markers.New = rise

                left_right : least_from (meets demands.Whole s) s.claimed.listed looked parts None ≡ None
                    → (p : List ℕ) (flags : List (List Bool))
                    → find (shows_sign signs.Left s) leftover ≡ Some p → Right (Some (told.Left p)) true flags
                left_right some p flags h = left_first s.keeps s.tasks s.claimed.listed (opened b) moments (now b) n paths c leftover p
                    rising
                    covered marked h quiet here ours stay firm new
                    (no_half s.keeps s.tasks s.claimed.listed (opened b) moments (now b) n paths c wholes told_wholes (full_wholes some)
                    tasks)

                whole_right : least_from (meets demands.Whole s) s.claimed.listed looked parts None ≡ None
                    → find (shows_sign signs.Left s) leftover ≡ None → Right None true wholes
                whole_right some h = follows_chosen b moments f s.shown marker true wholes refl tasks calm calm_old told_wholes
                    (full_wholes some)
                    (others_next s.keeps s.tasks s.claimed.listed (opened b) moments (now b) n paths c calm calm_old ours stay
                    (λ e. no_left s.keeps s.tasks s.claimed.listed (opened b) moments (now b) n paths c leftover covered h))

                pub marked_right : (r : Option Reason) (flags : List (List Bool))
                    → r ≡ marked_of (least_from (meets demands.Whole s) s.claimed.listed looked parts None)
                    (find (shows_sign signs.Left s) leftover)
                    → flags ≡ wholes → Right r true flags
                marked_right r flags e same = subst (λ z. Right z true flags) (sym e)
                    (subst (Right (marked_of (least_from (meets demands.Whole s) s.claimed.listed looked parts None)
                    (find (shows_sign signs.Left s) leftover)) true) (sym same)
                    (by (least_from (meets demands.Whole s) s.claimed.listed looked parts None) refl
                    (find (shows_sign signs.Left s) leftover) refl))
                  where
                    by : (o : Option ℕ) → least_from (meets demands.Whole s) s.claimed.listed looked parts None ≡ o → (p : Option (List ℕ))
                        → find (shows_sign signs.Left s) leftover ≡ p → Right (marked_of o p) true wholes
                    by (Some t) d p g = half_right t wholes d
                    by None d (Some p) g = left_right d p wholes g
                    by None d None g = whole_right d g

                pub marked_from : (r : Option Reason) (next flags : List (List Bool)) → next ≡ parts
                    → r ≡ marked_of (least_from (meets demands.Whole s) s.claimed.listed looked next None)
                    (find (shows_sign signs.Left s) leftover)
                    → flags ≡ narrow_all (meets demands.Whole s) s.claimed.listed looked next → Right r true flags
                marked_from r next flags same e after = marked_right r flags
                    (e ∙ ap (λ z. marked_of (least_from (meets demands.Whole s) s.claimed.listed looked z None)
                    (find (shows_sign signs.Left s) leftover))
                    same)
                    (after ∙ ap (narrow_all (meets demands.Whole s) s.claimed.listed looked) same)

-- ---- from a judge's knowledge before a change, and back

module _
    (b : Bench) (k s : Scene) (begun : Bool) (was : Marker) (needed : Bool) (rows : List (List Bool)) (shows changes items : List Change)
    (moments : List (Moment Tags)) (view : bench_of k begun was needed rows k.shown ≡ b) (f : Follows b moments)
    (seen : s ≡ record k { shown = change_all shows k.shown }) (first : shows ≡ items) (second : changes ≡ items)
  where
    pub followed : Followed s begun was needed rows changes moments
    followed = subst (λ (z : Scene). Followed z begun was needed rows changes moments) (sym seen) (record {
      before = k.shown;
      follows = subst (λ (z : Bench). Follows z moments) (sym view) f;
      shown = ap (λ (l : List Change). change_all l k.shown) (first ∙ sym second);
    })

    pub answered : (r : Option Reason) (after : Bench)
        → Answers (bench_of s begun was needed rows s.shown) moments (paths_of changes) r after
        → Answers b moments (paths_of items) r after
    answered None after h = h
    answered (Some r) after h =
        subst (λ (z : Bench). IsFirst (claim z) (opened z) moments (now after) (paths_of items) r) view
        (subst (λ (z : Scene). IsFirst (claim_of z.keeps z.tasks z.claimed.listed) (λ p. fin.get z.opening p) moments (now after)
        (paths_of items) r)
        seen (subst (λ (l : List Change). IsFirst (claim_of s.keeps s.tasks s.claimed.listed) (λ p. fin.get s.opening p) moments (now after)
        (paths_of l) r) second h))

-- ---- what a reason shows of a run

-- A reason that holds shows that the run is not sound with one more moment.
pub unsound : (b : Bench) (moments : List (Moment Tags)) (m : Moment Tags) (changed : List (List ℕ)) (r : Reason)
    → GoodList b.tasks b.claimed.listed → IsFirst (claim b) (opened b) moments m changed r
    → Sound (claim b) (opened b) (moments ++ m ∷ []) → ⊥
unsound b moments m changed r good first sound =
    by r first.holds ((in_turn Tags (claim b) ((listed_claims Tags).apart b.tasks b.claimed.listed good.own) (opened b) moments m).0 sound)
  where
    by : (r : Reason) → Holds (claim b) (opened b) moments m changed r → JudgedNext (claim b) (opened b) moments m → ⊥
    by (told.Early p) h j = (reasons_tell Tags).early (claim b) (opened b) moments m p h j
    by (told.Missing t) h j = (reasons_tell Tags).missing (claim b) (opened b) moments m t h j
    by (told.Foreign p) h j = (reasons_tell Tags).foreign (claim b) (opened b) moments m changed p h j
    by (told.Lost p) h j = (reasons_tell Tags).lost (claim b) (opened b) moments m changed p h j
    by (told.Torn t) h j = (reasons_tell Tags).torn (claim b) (opened b) moments m t h j
    by (told.Stale p) h j = (reasons_tell Tags).stale (claim b) (opened b) moments m p h j
    by (told.Half t) h j = (reasons_tell Tags).half (claim b) (opened b) moments m t h j
    by (told.Left p) h j = (reasons_tell Tags).left (claim b) (opened b) moments m p h j
