-- What the flags of attempts say after those that do not suit at some paths are ruled out.
use Rattle.audit_claims.specs.Claims.{Tags}
use Rattle.judging.proofs.Owned.{either}
use Rattle.judging.specs.Listed.{Listed, ListedOnce, Numbered, files_of, numbered, of_task, owner, writes_among}
use Rattle.soundness.specs.Claims.{Attempts, Files, file_at, writes}
use Rattle.std.proofs.Common.{Bool, List, None, Option, Some, [], ap, arith, cond, false, inl, inr, refl, subst, sym, true, ℕ, ◌||◌, ◌∙◌}
use Rattle.std.proofs.Common.{◌∷◌, ◌≡◌, ◌≢◌, ◌≤◌, ◌⊎◌}
use Rattle.std.proofs.lemmas.Bool.{eq-eqb, eqb-true, false≢true, true≢false}
use Rattle.std.specs.List.{AllByRecursion, AllZip}
use Rattle.std.specs.Map.{lookup}
use Rattle.std.specs.Option.{unwrap_or}
use Rattle.std.specs.Prelude.{is_some, nat_eq, nat_lt, ◌&&◌}
use Rattle.audit_judge.specs.Narrowed.{Tells, TellsOfAll, has_flag}
use Rattle.audit_judge.specs.inner.Narrowed.{empty_at, least_from, lesser, narrow, narrow_all, narrow_task}

-- ---- flags

pub retell : (P Q : Type 0) (b : Bool) → (P → Q) → (Q → P) → Tells P b → Tells Q b
retell P Q true on back h = on h
retell P Q false on back h = λ q. h (back q)

pub tells_true : (P : Type 0) (b : Bool) → b ≡ true → Tells P b → P
tells_true P true e h = h
tells_true P false e h = absurd (false≢true e)

pub tells_false : (P : Type 0) (b : Bool) → b ≡ false → Tells P b → P → ⊥
tells_false P true e h = absurd (true≢false e)
tells_false P false e h = h

pub tells_of_task : (D E : Files Tags → Type 0) → ((files : Files Tags) → D files → E files) → ((files : Files Tags) → E files → D files)
    → (attempts : Numbered Tags) (flags : List Bool) → AllZip (λ a flag. Tells (D a.1) flag) attempts flags
    → AllZip (λ a flag. Tells (E a.1) flag) attempts flags
tells_of_task D E on back [] [] h = tt
tells_of_task D E on back [] (flag ∷ flags) h = absurd h
tells_of_task D E on back (a ∷ attempts) [] h = absurd h
tells_of_task D E on back (a ∷ attempts) (flag ∷ flags) h =
    (retell (D a.1) (E a.1) flag (on a.1) (back a.1) h.0, tells_of_task D E on back attempts flags h.1)

-- The same facts in other words.
pub tells_of_all : (D E : Attempts Tags → Files Tags → Type 0) → ((task : Attempts Tags) (files : Files Tags) → D task files → E task files)
    → ((task : Attempts Tags) (files : Files Tags) → E task files → D task files) → (listed : Listed Tags) (rows : List (List Bool))
    → TellsOfAll D listed rows → TellsOfAll E listed rows
tells_of_all D E on back [] [] h = tt
tells_of_all D E on back [] (row ∷ rows) h = absurd h
tells_of_all D E on back (x ∷ xs) [] h = absurd h
tells_of_all D E on back (x ∷ xs) (row ∷ rows) h = (
  tells_of_task (D (files_of x.1)) (E (files_of x.1)) (on (files_of x.1)) (back (files_of x.1)) x.1 row h.0,
  tells_of_all D E on back xs rows h.1,
)

-- The same, if a fact of each listed task is known.
pub tells_of_listed : (D E : Attempts Tags → Files Tags → Type 0) (P : ℕ × Numbered Tags → Type 0)
    → ((x : ℕ × Numbered Tags) (files : Files Tags) → P x → D (files_of x.1) files → E (files_of x.1) files)
    → ((x : ℕ × Numbered Tags) (files : Files Tags) → P x → E (files_of x.1) files → D (files_of x.1) files)
    → (listed : Listed Tags) (rows : List (List Bool)) → AllByRecursion P listed → TellsOfAll D listed rows → TellsOfAll E listed rows
tells_of_listed D E P on back [] [] p h = tt
tells_of_listed D E P on back [] (row ∷ rows) p h = absurd h
tells_of_listed D E P on back (x ∷ xs) [] p h = absurd h
tells_of_listed D E P on back (x ∷ xs) (row ∷ rows) p h = (
  tells_of_task (D (files_of x.1)) (E (files_of x.1)) (λ files. on x files p.0) (λ files. back x files p.0) x.1 row h.0,
  tells_of_listed D E P on back xs rows p.1 h.1,
)

-- ---- who writes a path

pub among : (p : List ℕ) (attempts : Numbered Tags) → writes (files_of attempts) p ≡ writes_among p attempts
among p [] = refl
among p (a ∷ attempts) = ap (λ b. is_some (file_at a.1 p) || b) (among p attempts)

-- No path is written by two listed tasks.
abbrev pub Alone : Listed Tags → Type 0
Alone [] = Unit {0}
Alone (x ∷ xs) = ((p : List ℕ) → writes_among p x.1 ≡ true → AllByRecursion (λ y. writes_among p y.1 ≡ false) xs) × Alone xs

abbrev pub Owning : Listed Tags → Type 0
Owning listed = (t : ℕ) (p : List ℕ) → writes (of_task t listed) p ≡ true → owner p listed ≡ Some t

found_first : (t : ℕ) (x : ℕ × Numbered Tags) (xs : Listed Tags) → t ≡ x.0 → numbered t (x ∷ xs) ≡ x.1
found_first t x xs e = ap (λ b. unwrap_or (cond b (Some x.1) (lookup (nat_eq t) xs)) []) (eq-eqb t x.0 e)

found_later : (t : ℕ) (x : ℕ × Numbered Tags) (xs : Listed Tags) → nat_eq t x.0 ≡ false → numbered t (x ∷ xs) ≡ numbered t xs
found_later t x xs e = ap (λ b. unwrap_or (cond b (Some x.1) (lookup (nat_eq t) xs)) []) e

-- A task that is found is not one that is not found.
not_later : (t u : ℕ) (attempts : Numbered Tags) (xs : Listed Tags) → lookup (nat_eq t) xs ≡ None → lookup (nat_eq u) xs ≡ Some attempts
    → nat_eq u t ≡ false
not_later t u attempts [] none some = absurd (cc some)
not_later t u attempts (y ∷ ys) none some = elim (either (nat_eq u t)) [ inr n ↦ n | inl e ↦ absurd (by (eqb-true u t e)) ]
  where
    by : u ≡ t → ⊥
    by e = cc (none, subst (λ k. lookup (nat_eq k) (y ∷ ys) ≡ Some attempts) e some)

-- A task that writes a path is found.
looked_up : (t : ℕ) (p : List ℕ) (xs : Listed Tags) → writes (of_task t xs) p ≡ true
    → (attempts : Numbered Tags) × (lookup (nat_eq t) xs ≡ Some attempts)
looked_up t p xs h = by (lookup (nat_eq t) xs) refl
  where
    by : (o : Option (Numbered Tags)) → lookup (nat_eq t) xs ≡ o → (attempts : Numbered Tags) × (lookup (nat_eq t) xs ≡ Some attempts)
    by None e = absurd (false≢true (sym (ap (λ o. writes (files_of (unwrap_or o [])) p) e) ∙ h))
    by (Some attempts) e = (attempts, e)

module _ (x : ℕ × Numbered Tags) (xs : Listed Tags) (once : ListedOnce (x ∷ xs)) (own : Owning (x ∷ xs)) where
  later_own : Owning xs
  later_own t p h =
      let found = looked_up t p xs h in
      let other = not_later x.0 t found.0 xs once.0 found.1 in
      let here : writes (of_task t (x ∷ xs)) p ≡ true = ap (λ a. writes (files_of a) p) (found_later t x xs other) ∙ h in
      by t other (writes_among p x.1) (own t p here)
    where
      by : (t : ℕ) → nat_eq t x.0 ≡ false → (b : Bool) {o : Option ℕ} → cond b (Some x.0) o ≡ Some t → o ≡ Some t
      by t other true {o} e = let same : t ≡ x.0 = cc e in absurd (true≢false (sym (eq-eqb t x.0 same) ∙ other))
      by t other false {o} e = e

  first_alone : (p : List ℕ) → writes_among p x.1 ≡ true → (ys : Listed Tags)
      → ((t : ℕ) → writes (of_task t ys) p ≡ true → writes (of_task t xs) p ≡ true) → ListedOnce ys
      → AllByRecursion (λ y. writes_among p y.1 ≡ false) ys
  first_alone p h [] sub o = tt
  first_alone p h (y ∷ ys) sub o = (
    elim (either (writes_among p y.1)) [ inr n ↦ n | inl w ↦ absurd (clash w) ],
    first_alone p h ys (λ t g. sub t (step t g)) o.1,
  )
    where
      step : (t : ℕ) → writes (of_task t ys) p ≡ true → writes (of_task t (y ∷ ys)) p ≡ true
      step t g =
          let found = looked_up t p ys g in
          ap (λ a. writes (files_of a) p) (found_later t y ys (not_later y.0 t found.0 ys o.0 found.1)) ∙ g

      clash : writes_among p y.1 ≡ true → ⊥
      clash w =
          let g : writes (of_task y.0 (y ∷ ys)) p ≡ true =
          ap (λ a. writes (files_of a) p) (found_first y.0 y ys refl) ∙ among p y.1 ∙ w in
          let later = sub y.0 g in
          let found = looked_up y.0 p xs later in
          let other = not_later x.0 y.0 found.0 xs once.0 found.1 in
          let here : writes (of_task y.0 (x ∷ xs)) p ≡ true = ap (λ a. writes (files_of a) p) (found_later y.0 x xs other) ∙ later in
          let e : Some x.0 ≡ Some y.0 = sym (ap (λ b. cond b (Some x.0) (owner p xs)) h) ∙ own y.0 p here in
          let same : y.0 ≡ x.0 = cc e in
          true≢false (sym (eq-eqb y.0 x.0 same) ∙ other)

pub alone : (listed : Listed Tags) → ListedOnce listed → Owning listed → Alone listed
alone [] once own = tt
alone (x ∷ xs) once own =
    (λ p h. first_alone x xs once own p h xs (λ t g. g) once.1, alone xs once.1 (later_own x xs once own))

-- ---- ruling out at one path

module _ (suits : List ℕ → Option Tags → Bool) (S : List ℕ → Option Tags → Type 0)
    (is : (p : List ℕ) (f : Option Tags) → suits p f ≡ true → S p f) (isnt : (p : List ℕ) (f : Option Tags) → suits p f ≡ false → S p f → ⊥)
  where
    -- At this path an attempt's file suits, if its task writes the path.
    abbrev pub SuitsAt : List ℕ → Attempts Tags → Files Tags → Type 0
    SuitsAt p task files = writes task p ≡ true → S p (file_at files p)

    flag_told : (P : Type 0) (p : List ℕ) (f : Option Tags) (flag : Bool) → Tells P flag → Tells (P × S p f) (flag && suits p f)
    flag_told P p f false h = λ both. h both.0
    flag_told P p f true h = by (suits p f) (is p f) (isnt p f)
      where
        by : (b : Bool) → (b ≡ true → S p f) → (b ≡ false → S p f → ⊥) → Tells (P × S p f) b
        by true i n = (h, i refl)
        by false i n = λ both. n refl both.1

    task_told : (D : Files Tags → Type 0) (p : List ℕ) (attempts : Numbered Tags) (flags : List Bool)
        → AllZip (λ a flag. Tells (D a.1) flag) attempts flags
        → AllZip (λ a flag. Tells (D a.1 × S p (file_at a.1 p)) flag) attempts (narrow_task (suits p) p attempts flags)
    task_told D p [] [] h = tt
    task_told D p [] (flag ∷ flags) h = absurd h
    task_told D p (a ∷ attempts) [] h = absurd h
    task_told D p (a ∷ attempts) (flag ∷ flags) h = (flag_told (D a.1) p (file_at a.1 p) flag h.0, task_told D p attempts flags h.1)

    -- The flags of tasks that do not write the path do not change.
    rest_told : (D : Attempts Tags → Files Tags → Type 0) (p : List ℕ) (xs : Listed Tags) (rows : List (List Bool))
        → AllByRecursion (λ y. writes_among p y.1 ≡ false) xs → TellsOfAll D xs rows
        → TellsOfAll (λ task files. D task files × SuitsAt p task files) xs rows
    rest_told D p [] [] none h = tt
    rest_told D p [] (row ∷ rows) none h = absurd h
    rest_told D p (x ∷ xs) [] none h = absurd h
    rest_told D p (x ∷ xs) (row ∷ rows) none h = (
      tells_of_task (D (files_of x.1)) (λ files. D (files_of x.1) files × SuitsAt p (files_of x.1) files)
          (λ files d. (d, λ w. absurd (true≢false (sym w ∙ among p x.1 ∙ none.0)))) (λ files both. both.0) x.1 row h.0,
      rest_told D p xs rows none.1 h.1,
    )

    pub narrow_told : (D : Attempts Tags → Files Tags → Type 0) (p : List ℕ) (listed : Listed Tags) (rows : List (List Bool)) → Alone listed
        → TellsOfAll D listed rows → TellsOfAll (λ task files. D task files × SuitsAt p task files) listed (narrow suits listed p rows)
    narrow_told D p [] [] lone h = tt
    narrow_told D p [] (row ∷ rows) lone h = absurd h
    narrow_told D p (x ∷ xs) [] lone h = absurd h
    narrow_told D p (x ∷ xs) (row ∷ rows) lone h = by (writes_among p x.1) refl (narrow_told D p xs rows lone.1 h.1)
      where
        by : (b : Bool) → writes_among p x.1 ≡ b
            → TellsOfAll (λ task files. D task files × SuitsAt p task files) xs (narrow suits xs p rows)
            → TellsOfAll (λ task files. D task files × SuitsAt p task files) (x ∷ xs) (cond b (narrow_task (suits p) p x.1 row ∷ rows)
            (row ∷ narrow suits xs p rows))
        by true e later = (
          tells_of_task (λ files. D (files_of x.1) files × S p (file_at files p))
              (λ files. D (files_of x.1) files × SuitsAt p (files_of x.1) files)
              (λ files both. (both.0, λ w. both.1)) (λ files both. (both.0, both.1 (among p x.1 ∙ e))) x.1 (narrow_task (suits p) p x.1 row)
              (task_told (D (files_of x.1)) p x.1 row h.0),
          rest_told D p xs rows (lone.0 p e) h.1,
        )
        by false e later = (
          tells_of_task (D (files_of x.1)) (λ files. D (files_of x.1) files × SuitsAt p (files_of x.1) files)
              (λ files d. (d, λ w. absurd (true≢false (sym w ∙ among p x.1 ∙ e)))) (λ files both. both.0) x.1 row h.0,
          later,
        )

    -- The flags after one path after the other.
    pub all_told : (ps : List (List ℕ)) (D : Attempts Tags → Files Tags → Type 0) (listed : Listed Tags) (rows : List (List Bool))
        → Alone listed
        → TellsOfAll D listed rows
        → TellsOfAll (λ task files. D task files × AllByRecursion (λ p. SuitsAt p task files) ps) listed (narrow_all suits listed ps rows)
    all_told [] D listed rows lone h = tells_of_all D (λ task files. D task files × Unit {0}) (λ task files d. (d, tt))
        (λ task files both. both.0) listed rows h
    all_told (p ∷ ps) D listed rows lone h =
        tells_of_all (λ task files. (D task files × SuitsAt p task files) × AllByRecursion (λ q. SuitsAt q task files) ps)
        (λ task files. D task files × (SuitsAt p task files × AllByRecursion (λ q. SuitsAt q task files) ps))
        (λ task files h. (h.0.0, (h.0.1, h.1))) (λ task files h. ((h.0, h.1.0), h.1.1)) listed
        (narrow_all suits listed ps (narrow suits listed p rows))
        (all_told ps (λ task files. D task files × SuitsAt p task files) listed (narrow suits listed p rows) lone
        (narrow_told D p listed rows lone h))

-- ---- tasks that have no attempt left

-- A listed task with this number has no flag up.
abbrev pub EmptyOf : ℕ → Listed Tags → List (List Bool) → Type 0
EmptyOf t [] rows = ⊥
EmptyOf t (x ∷ xs) [] = ⊥
EmptyOf t (x ∷ xs) (row ∷ rows) = ((x.0 ≡ t) × (has_flag row ≡ false)) ⊎ EmptyOf t xs rows

-- Each task with no flag up is one of these.
abbrev pub EmptyIn : (ℕ → Type 0) → Listed Tags → List (List Bool) → Type 0
EmptyIn Q listed rows = AllZip (λ x row. has_flag row ≡ false → Q x.0) listed rows

abbrev pub AtLeast : Option ℕ → ℕ → Type 0
AtLeast None u = ⊥
AtLeast (Some t) u = t ≤ u

-- The number is that of the least task with no flag up, if there is one.
pub record IsLeast (listed : Listed Tags) (rows : List (List Bool)) (o : Option ℕ) : Type 0 where
  pub each : EmptyIn (AtLeast o) listed rows
  pub found : (t : ℕ) → o ≡ Some t → EmptyOf t listed rows

pub empty_more : (Q R : ℕ → Type 0) → ((t : ℕ) → Q t → R t) → (listed : Listed Tags) (rows : List (List Bool)) → EmptyIn Q listed rows
    → EmptyIn R listed rows
empty_more Q R on [] [] h = tt
empty_more Q R on [] (row ∷ rows) h = absurd h
empty_more Q R on (x ∷ xs) [] h = absurd h
empty_more Q R on (x ∷ xs) (row ∷ rows) h = (λ e. on x.0 (h.0 e), empty_more Q R on xs rows h.1)

-- ---- the lesser of two numbers

pub lesser_old : (o r : Option ℕ) (t : ℕ) → AtLeast o t → AtLeast (lesser o r) t
lesser_old None r t h = absurd h
lesser_old (Some a) None t h = h
lesser_old (Some a) (Some b) t h = grind (arith, h)

pub lesser_new : (o : Option ℕ) (t : ℕ) → AtLeast (lesser o (Some t)) t
lesser_new None t = omega arith
lesser_new (Some a) t = grind arith

pub lesser_is : (o r : Option ℕ) (t : ℕ) → lesser o r ≡ Some t → (o ≡ Some t) ⊎ (r ≡ Some t)
lesser_is None r t h = inr h
lesser_is (Some a) None t h = inl h
lesser_is (Some a) (Some b) t h = by (nat_lt b a) h
  where
    by : (c : Bool) → cond c (Some b) (Some a) ≡ Some t → (Some a ≡ Some t) ⊎ (Some b ≡ Some t)
    by true g = inr g
    by false g = inl g

module _ (suits : List ℕ → Option Tags → Bool) where
  -- No flag goes up again.
  still_empty : (p : List ℕ) (attempts : Numbered Tags) (flags : List Bool) → has_flag flags ≡ false
      → has_flag (narrow_task (suits p) p attempts flags) ≡ false
  still_empty p [] flags h = h
  still_empty p (a ∷ attempts) [] h = refl
  still_empty p (a ∷ attempts) (true ∷ flags) h = absurd (true≢false h)
  still_empty p (a ∷ attempts) (false ∷ flags) h = still_empty p attempts flags h

  empty_stays : (t : ℕ) (p : List ℕ) (listed : Listed Tags) (rows : List (List Bool)) → EmptyOf t listed rows
      → EmptyOf t listed (narrow suits listed p rows)
  empty_stays t p [] rows h = absurd h
  empty_stays t p (x ∷ xs) [] h = absurd h
  empty_stays t p (x ∷ xs) (row ∷ rows) h = by (writes_among p x.1) h (empty_stays t p xs rows)
    where
      by : (b : Bool) → ((x.0 ≡ t) × (has_flag row ≡ false)) ⊎ EmptyOf t xs rows
          → (EmptyOf t xs rows → EmptyOf t xs (narrow suits xs p rows))
          → EmptyOf t (x ∷ xs) (cond b (narrow_task (suits p) p x.1 row ∷ rows) (row ∷ narrow suits xs p rows))
      by true (inl e) later = inl (e.0, still_empty p x.1 row e.1)
      by true (inr e) later = inr e
      by false (inl e) later = inl e
      by false (inr e) later = inr (later e)

  -- The task that has just lost its last attempt.
  empty_now : (p : List ℕ) (listed : Listed Tags) (rows : List (List Bool)) (t : ℕ)
      → empty_at listed p (narrow suits listed p rows) ≡ Some t → EmptyOf t listed (narrow suits listed p rows)
  empty_now p [] rows t h = absurd (cc h)
  empty_now p (x ∷ xs) [] t h = absurd (cc h)
  empty_now p (x ∷ xs) (row ∷ rows) t h = by (writes_among p x.1) refl h (empty_now p xs rows t)
    where
      here : (row : List Bool) (b : Bool) → has_flag row ≡ b → cond b None (Some x.0) ≡ Some t → (x.0 ≡ t) × (has_flag row ≡ false)
      here row true e g = absurd (cc g)
      here row false e g = (cc g, e)

      by : (b : Bool) → writes_among p x.1 ≡ b
          → empty_at (x ∷ xs) p (cond b (narrow_task (suits p) p x.1 row ∷ rows) (row ∷ narrow suits xs p rows)) ≡ Some t
          → (empty_at xs p (narrow suits xs p rows) ≡ Some t → EmptyOf t xs (narrow suits xs p rows))
          → EmptyOf t (x ∷ xs) (cond b (narrow_task (suits p) p x.1 row ∷ rows) (row ∷ narrow suits xs p rows))
      by true e g later =
          let flags = narrow_task (suits p) p x.1 row in
          inl (here flags (has_flag flags) refl
          (sym (ap (λ c. cond c (cond (has_flag flags) None (Some x.0)) (empty_at xs p rows)) e) ∙ g))
      by false e g later =
          let rest = narrow suits xs p rows in
          inr (later (sym (ap (λ c. cond c (cond (has_flag row) None (Some x.0)) (empty_at xs p rest)) e) ∙ g))

  -- The tasks without an attempt are that one and those that had none before.
  empty_others : (Q : ℕ → Type 0) (p : List ℕ) (listed : Listed Tags) (rows : List (List Bool)) → EmptyIn Q listed rows
      → ((t : ℕ) → empty_at listed p (narrow suits listed p rows) ≡ Some t → Q t) → EmptyIn Q listed (narrow suits listed p rows)
  empty_others Q p [] [] h new = tt
  empty_others Q p [] (row ∷ rows) h new = absurd h
  empty_others Q p (x ∷ xs) [] h new = absurd h
  empty_others Q p (x ∷ xs) (row ∷ rows) h new = by (writes_among p x.1) refl new (empty_others Q p xs rows h.1)
    where
      by : (b : Bool) → writes_among p x.1 ≡ b
          → ((t : ℕ) → empty_at (x ∷ xs) p (cond b (narrow_task (suits p) p x.1 row ∷ rows) (row ∷ narrow suits xs p rows)) ≡ Some t → Q t)
          → (((t : ℕ) → empty_at xs p (narrow suits xs p rows) ≡ Some t → Q t) → EmptyIn Q xs (narrow suits xs p rows))
          → EmptyIn Q (x ∷ xs) (cond b (narrow_task (suits p) p x.1 row ∷ rows) (row ∷ narrow suits xs p rows))
      by true e n later =
          let flags = narrow_task (suits p) p x.1 row in (
            λ none. n x.0 (ap (λ c. cond c (cond (has_flag flags) None (Some x.0)) (empty_at xs p rows)) e
                ∙ ap (λ c. cond c None (Some x.0)) none),
            h.1,
          )
      by false e n later =
          let rest = narrow suits xs p rows in (
            h.0,
            later (λ t g. n t (ap (λ c. cond c (cond (has_flag row) None (Some x.0)) (empty_at xs p rest)) e ∙ g)),
          )

  least_step : (p : List ℕ) (listed : Listed Tags) (rows : List (List Bool)) (o : Option ℕ) → IsLeast listed rows o
      → IsLeast listed (narrow suits listed p rows) (lesser o (empty_at listed p (narrow suits listed p rows)))
  least_step p listed rows o h = record {
    each = empty_others (AtLeast (lesser o r)) p listed rows (empty_more (AtLeast o) (AtLeast (lesser o r)) (lesser_old o r) listed rows
        h.each)
        (λ t e. subst (λ r. AtLeast (lesser o r) t) (sym e) (lesser_new o t));
    found = λ t e. elim (lesser_is o r t e) [
      | inl old ↦ empty_stays t p listed rows (h.found t old)
      | inr new ↦ empty_now p listed rows t new
    ];
  }
    where
      r : Option ℕ
      r = empty_at listed p (narrow suits listed p rows)

  pub least_all : (ps : List (List ℕ)) (listed : Listed Tags) (rows : List (List Bool)) (o : Option ℕ) → IsLeast listed rows o
      → IsLeast listed (narrow_all suits listed ps rows) (least_from suits listed ps rows o)
  least_all [] listed rows o h = h
  least_all (p ∷ ps) listed rows o h = least_all ps listed (narrow suits listed p rows)
      (lesser o (empty_at listed p (narrow suits listed p rows))) (least_step p listed rows o h)

-- ---- what the flags say of a task by its number

none_up : (D : Files Tags → Type 0) (attempts : Numbered Tags) (flags : List Bool) → AllZip (λ a flag. Tells (D a.1) flag) attempts flags
    → has_flag flags ≡ false → AllByRecursion (λ files. D files → ⊥) (files_of attempts)
none_up D [] flags h e = tt
none_up D (a ∷ attempts) [] h e = absurd h
none_up D (a ∷ attempts) (true ∷ flags) h e = absurd (true≢false e)
none_up D (a ∷ attempts) (false ∷ flags) h e = (h.0, none_up D attempts flags h.1 e)

-- Some attempt of the list has this property.
abbrev pub SomeOf : (Files Tags → Type 0) → Attempts Tags → Type 0
SomeOf E [] = ⊥
SomeOf E (files ∷ task) = E files ⊎ SomeOf E task

one_up : (D : Files Tags → Type 0) (attempts : Numbered Tags) (flags : List Bool) → AllZip (λ a flag. Tells (D a.1) flag) attempts flags
    → has_flag flags ≡ true → SomeOf D (files_of attempts)
one_up D [] [] h e = absurd (false≢true e)
one_up D [] (flag ∷ flags) h e = absurd h
one_up D (a ∷ attempts) [] h e = absurd h
one_up D (a ∷ attempts) (true ∷ flags) h e = inl h.0
one_up D (a ∷ attempts) (false ∷ flags) h e = inr (one_up D attempts flags h.1 e)

module _ (D : Attempts Tags → Files Tags → Type 0) where
  listed_one : (t : ℕ) (listed : Listed Tags) (rows : List (List Bool)) → EmptyOf t listed rows → lookup (nat_eq t) listed ≡ None → ⊥
  listed_one t [] rows h none = h
  listed_one t (x ∷ xs) [] h none = h
  listed_one t (x ∷ xs) (row ∷ rows) h none = by h (nat_eq t x.0) refl (listed_one t xs rows)
    where
      by : ((x.0 ≡ t) × (has_flag row ≡ false)) ⊎ EmptyOf t xs rows → (b : Bool) → nat_eq t x.0 ≡ b
          → (EmptyOf t xs rows → lookup (nat_eq t) xs ≡ None → ⊥) → ⊥
      by h true e later = cc (none, ap (λ b. cond b (Some x.1) (lookup (nat_eq t) xs)) e)
      by (inl h) false e later = true≢false (sym (eq-eqb t x.0 (sym h.0)) ∙ e)
      by (inr h) false e later = later h (sym (ap (λ b. cond b (Some x.1) (lookup (nat_eq t) xs)) e) ∙ none)

  pub dead : (t : ℕ) (listed : Listed Tags) (rows : List (List Bool)) → ListedOnce listed → TellsOfAll D listed rows → EmptyOf t listed rows
      → AllByRecursion (λ files. D (of_task t listed) files → ⊥) (of_task t listed)
  dead t [] rows once h e = absurd e
  dead t (x ∷ xs) [] once h e = absurd e
  dead t (x ∷ xs) (row ∷ rows) once h (inl e) =
      subst (λ attempts. AllByRecursion (λ files. D (files_of attempts) files → ⊥) (files_of attempts)) (sym (found_first t x xs (sym e.0)))
      (none_up (D (files_of x.1)) x.1 row h.0 e.1)
  dead t (x ∷ xs) (row ∷ rows) once h (inr e) =
      subst (λ attempts. AllByRecursion (λ files. D (files_of attempts) files → ⊥) (files_of attempts)) (sym (found_later t x xs other))
      (dead t xs rows once.1 h.1 e)
    where
      other : nat_eq t x.0 ≡ false
      other = elim (either (nat_eq t x.0)) [
        | inr n ↦ n
        | inl s ↦ absurd (listed_one x.0 xs rows (subst (λ k. EmptyOf k xs rows) (eqb-true t x.0 s) e) once.0)
      ]

  -- A listed task that is not among those without an attempt has one.
  pub alive : (Q : ℕ → Type 0) (t : ℕ) (listed : Listed Tags) (rows : List (List Bool)) → TellsOfAll D listed rows → EmptyIn Q listed rows
      → (Q t → ⊥) → of_task t listed ≢ [] → SomeOf (D (of_task t listed)) (of_task t listed)
  alive Q t [] rows h each other some = absurd (some refl)
  alive Q t (x ∷ xs) [] h each other some = absurd h
  alive Q t (x ∷ xs) (row ∷ rows) h each other some = by (nat_eq t x.0) refl (alive Q t xs rows h.1 each.1 other)
    where
      up : x.0 ≡ t → has_flag row ≡ true
      up e = elim (either (has_flag row)) [ inl u ↦ u | inr n ↦ absurd (other (subst Q e (each.0 n))) ]

      by : (b : Bool) → nat_eq t x.0 ≡ b → (of_task t xs ≢ [] → SomeOf (D (of_task t xs)) (of_task t xs))
          → SomeOf (D (of_task t (x ∷ xs))) (of_task t (x ∷ xs))
      by true e later =
          let same : t ≡ x.0 = eqb-true t x.0 e in
          subst (λ attempts. SomeOf (D (files_of attempts)) (files_of attempts)) (sym (found_first t x xs same))
          (one_up (D (files_of x.1)) x.1 row h.0 (up (sym same)))
      by false e later =
          subst (λ attempts. SomeOf (D (files_of attempts)) (files_of attempts)) (sym (found_later t x xs e))
          (later (λ n. some (ap files_of (found_later t x xs e) ∙ n)))
