-- Sound and unsound runs, by what readers see at the paths that are written out.
use Rattle.std.proofs.Common.{◌≡◌, ◌⊎◌, ℕ, zero, suc, ◌<◌, Bool, true, false, List, [], ◌∷◌, ◌++◌, Option, Some, None, refl, sym, subst}
use Rattle.std.proofs.Common.{◌∙◌, arith, inl, inr, codes, get_or}
use Rattle.std.specs.Prelude.{◌≢◌}
use Rattle.std.specs.List.{All, AllByRecursion}
use Rattle.std.specs.Str.{bytes_eq}
use Rattle.std.proofs.lemmas.List.Elements.{All-from_recursion}
use Rattle.std.proofs.lemmas.Slice.Eq.{bytes_eq-Decides}
use Rattle.soundness.specs.Claims.{Chooses, Files, chosen_at, file_at, is_kept, is_replaced}
use Rattle.soundness.specs.Moments.{Allows, Explains, MayShow, Moment, Unchanged}
use Rattle.soundness.specs.declared.keeps.Keeps.{Keeps}
use Rattle.soundness.specs.declared.keeps.Keeps.TheVariants.{Everything, Nothing, Partitions}
use Rattle.soundness.specs.declared.marker.Marker.{Marker}
use Rattle.soundness.specs.declared.marker.Marker.TheVariants.{Absent, New, Old}
use Rattle.soundness_examples.specs.Moments.{IsSound, SoundRuns, UnsoundRuns, moment, no_attempt, opening, run, two_attempts, written}

none_some : {x : ℕ} → None ≡ Some x → ⊥
none_some e = cc

-- ---- unsound runs

-- A choice of the one task is one of its two attempts.
either : (keeps : Keeps) (P : List (Files ℕ) → Type 0) → P (written 3 ∷ []) → P (written 4 ∷ []) → (choice : List (Files ℕ))
    → Chooses (two_attempts keeps).tasks choice → P choice
either keeps P three four [] c = absurd c
either keeps P three four (files ∷ []) c = by c.0.0 c.0.1 c.0.2
  where
    by : (k : ℕ) → k < 2 → get_or (written 3 ∷ written 4 ∷ []) k files ≡ files → P (files ∷ [])
    by zero l e = subst (λ f. P (f ∷ [])) e three
    by (suc zero) l e = subst (λ f. P (f ∷ [])) e four
    by (suc (suc k)) l e = absurd (omega (arith, l))
either keeps P three four (files ∷ more ∷ choice) c = absurd c.1

-- A run is unsound if some moment needs a choice and neither attempt explains all moments.
unsound : (keeps : Keeps) (moments : List (Moment ℕ)) → (All (Unchanged (file_at opening)) (run moments) → ⊥)
    → (All (Explains (two_attempts keeps) (file_at opening) (written 3 ∷ [])) (run moments) → ⊥)
    → (All (Explains (two_attempts keeps) (file_at opening) (written 4 ∷ [])) (run moments) → ⊥) → IsSound (two_attempts keeps) moments → ⊥
unsound keeps moments unchanged three four (inl calm) = unchanged calm
unsound keeps moments unchanged three four (inr c) = either keeps (λ choice. All (Explains (two_attempts keeps)
    (file_at opening) choice) (run moments) → ⊥) three four c.0 c.1 c.2

some_moment : Moment ℕ
some_moment = moment false Absent []

some_number : {x y : ℕ} → Some x ≡ Some y → x ≡ y
some_number e = cc

no_sum : {x : ℕ} → (None ≡ Some x) ⊎ (None ≡ Some x) → ⊥
no_sum (inl e) = none_some e
no_sum (inr e) = none_some e

other_number : (x y : ℕ) → (x ≡ y → ⊥) → (None ≡ Some y) ⊎ (Some x ≡ Some y) → ⊥
other_number x y ne (inl e) = none_some e
other_number x y ne (inr e) = ne (some_number e)

none_chooses : (choice : List (Files ℕ)) → Chooses no_attempt.tasks choice → ⊥
none_chooses [] c = c
none_chooses (files ∷ []) c = omega (arith, c.0.1)
none_chooses (files ∷ more ∷ choice) c = c.1

missing_in : IsSound no_attempt (moment true New opening ∷ []) → ⊥
missing_in (inl all) = (all 1 some_moment (omega arith)).unmarked refl
missing_in (inr c) = none_chooses c.0 c.1

abbrev old : List ℕ
old = codes "a/old"

abbrev other : List ℕ
other = codes "b/old"

abbrev new : List ℕ
new = codes "a/new"

pub unsound_runs : UnsoundRuns
unsound_runs = record {
  early = unsound Everything (moment false Absent (opening ++ written 3)
      ∷ []) (λ all. none_some (sym ((all 1 some_moment (omega arith)).shows new)))
      (λ all. none_some (sym (((all 1 some_moment (omega arith)) new).before refl))) (λ all. none_some (sym (((all 1 some_moment
      (omega arith)) new).before refl)));
  missing = missing_in;
  foreign = unsound Everything (moment true Absent ((codes "c", 5) ∷ opening)
      ∷ []) (λ all. none_some (sym ((all 1 some_moment (omega arith)).shows (codes "c"))))
      (λ all. no_sum ((((all 1 some_moment (omega arith)) (codes "c")).between refl).only 5 refl)) (λ all. no_sum ((((all 1 some_moment
      (omega arith)) (codes "c")).between refl).only 5 refl));
  lost = unsound Everything (moment true Absent ((codes "b/old", 2) ∷ []) ∷ moment true New (opening ++ written 3)
      ∷ []) (λ all. none_some ((all 1 some_moment (omega arith)).shows old))
      (λ all. none_some ((((all 1 some_moment (omega arith)) old).between refl).stays 1 refl refl refl)) (λ all. none_some
      ((((all 1 some_moment (omega arith)) old).between refl).stays 1 refl refl refl));
  torn = unsound Everything (moment true Absent (opening ++ written 3) ∷ moment true Absent (opening ++ written 4)
      ∷ []) (λ all. none_some (sym ((all 1 some_moment (omega arith)).shows new)))
      (λ all. other_number 3 4 (λ e. omega (arith, e)) ((((all 2 some_moment (omega arith)) new).between refl).only 4 refl))
      (λ all. other_number 4 3 (λ e. omega (arith, e)) ((((all 1 some_moment (omega arith)) new).between refl).only 3 refl));
  stale = unsound Everything (moment true Old (opening ++ written 3)
      ∷ []) (λ all. none_some (sym ((all 1 some_moment (omega arith)).shows new)))
      (λ all. none_some (sym (((all 1 some_moment (omega arith)) new).stale refl))) (λ all. none_some (sym (((all 1 some_moment
      (omega arith)) new).stale refl)));
  half = unsound Everything (moment true New opening ∷ []) (λ all. (all 1 some_moment (omega arith)).unmarked refl)
      (λ all. none_some ((((all 1 some_moment (omega arith)) new).whole refl).written 3 refl)) (λ all. none_some ((((all 1 some_moment
      (omega arith)) new).whole refl).written 4 refl));
  left = unsound Nothing (moment true New ((codes "b/old", 2) ∷ written 3) ∷ []) (λ all. (all 1 some_moment (omega arith)).unmarked refl)
      (λ all. none_some (sym ((((all 1 some_moment (omega arith)) other).whole refl).goes refl 2 refl refl)))
      (λ all. none_some (sym ((((all 1 some_moment (omega arith)) other).whole refl).goes refl 2 refl refl)));
}

-- ---- sound runs

module _ {begun : Bool} {marker : Marker} {is_kept is_replaced : Bool} where
  -- Nothing is, was or will be at the path.
  nothing_there : (o f v : Option ℕ) → o ≡ None → f ≡ None → v ≡ None → Allows begun marker is_kept is_replaced o f v
  nothing_there o f v a b c = record {
    before = λ h. c ∙ sym a;
    between = λ h. record { only = λ x e. absurd (none_some (sym c ∙ e)); stays = λ x e k n. absurd (none_some (sym a ∙ e)) };
    stale = λ h. c ∙ sym a;
    whole = λ h. record {
      written = λ x e. absurd (none_some (sym b ∙ e));
      only = λ n x e. absurd (none_some (sym c ∙ e));
      stays = λ n x e k. absurd (none_some (sym a ∙ e));
      goes = λ n x e k. absurd (none_some (sym a ∙ e));
    };
  }

-- An opening file stays that no attempt writes.
file_stays : (begun : Bool) (marker : Marker) (is_kept : Bool) (o : Option ℕ) → Allows begun marker is_kept false o None o
file_stays begun marker is_kept o = record {
  before = λ h. refl;
  between = λ h. record { only = λ x e. inl e; stays = λ x e k n. e };
  stale = λ h. refl;
  whole = λ h. record { written = λ x e. absurd (none_some e); only = λ n x e. e; stays = λ n x e k. e; goes = λ n x e k. absurd cc };
}

-- Until a new marker exists, each opening file may stay.
as_before : (begun : Bool) (marker : Marker) → marker ≢ New → (is_kept is_replaced : Bool) (o f : Option ℕ)
    → Allows begun marker is_kept is_replaced o f o
as_before begun marker unmarked is_kept is_replaced o f = record {
  before = λ h. refl;
  between = λ h. record { only = λ x e. inl e; stays = λ x e k n. e };
  stale = λ h. refl;
  whole = λ h. absurd (unmarked h);
}

-- Readers may see a chosen file once the commit has begun.
file_written : (marker : Marker) → marker ≢ Old → (is_kept is_replaced : Bool) (o : Option ℕ) (y : ℕ)
    → Allows true marker is_kept is_replaced o (Some y) (Some y)
file_written marker fresh is_kept is_replaced o y = record {
  before = λ h. absurd cc;
  between = λ h. record { only = λ x e. inr e; stays = λ x e k n. absurd (none_some (sym n)) };
  stale = λ h. absurd (fresh h);
  whole = λ h. record {
    written = λ x e. e;
    only = λ n x e. absurd (none_some (sym n));
    stays = λ n x e k. absurd (none_some
        (sym n));
    goes = λ n x e k. absurd (none_some (sym n));
  };
}

-- An opening file that is not kept may go once the commit has begun.
file_gone : (marker : Marker) → marker ≢ Old → (is_replaced : Bool) (o : Option ℕ) → Allows true marker false is_replaced o None None
file_gone marker fresh is_replaced o = record {
  before = λ h. absurd cc;
  between = λ h. record { only = λ x e. absurd (none_some e); stays = λ x e k n. absurd cc };
  stale = λ h. absurd (fresh h);
  whole = λ h. record {
    written = λ x e. absurd (none_some e);
    only = λ n x e. absurd
        (none_some e);
    stays = λ n x e k. absurd cc;
    goes = λ n x e k. refl;
  };
}

-- A moment is explained if it is explained at the three paths that are written out, and readers see nothing elsewhere.
test_of : (b : Bool) → (b ≡ true) ⊎ (b ≡ false)
test_of true = inl refl
test_of false = inr refl

at_paths : (P : List ℕ → Type 0) → P old → P other → P new → ((p : List ℕ) → bytes_eq p old ≡ false → bytes_eq p other ≡ false
    → bytes_eq p new ≡ false → P p) → (p : List ℕ) → P p
at_paths P a b c none p = elim (test_of (bytes_eq p old)) [
  | inl e ↦ subst P (sym ((bytes_eq-Decides p old).0 e)) a
  | inr x ↦ elim (test_of (bytes_eq p other)) [
    | inl e ↦ subst P (sym ((bytes_eq-Decides p other).0 e)) b
    | inr y ↦ elim (test_of (bytes_eq p new)) [ inl e ↦ subst P (sym ((bytes_eq-Decides p new).0 e)) c | inr z ↦ none p x y z ]
  ]
]

module _ (keeps : Keeps) (n : ℕ) (begun : Bool) (marker : Marker) (files : Files ℕ) where
  abbrev May : List ℕ → Type 0
  May p = MayShow (two_attempts keeps) (file_at opening) (moment begun marker files) p (chosen_at (written n ∷ []) p)

  explained : May old → May other → May new → ((p : List ℕ) → bytes_eq p old ≡ false → bytes_eq p other ≡ false
      → bytes_eq p new ≡ false → file_at files p ≡ None)
      → Explains (two_attempts keeps) (file_at opening) (written n ∷ []) (moment begun marker files)
  explained a b c none = at_paths May a b c (λ p x y z. nothing_there (file_at opening p) (chosen_at (written n
      ∷ []) p) (file_at files p) (rw (x, y) refl) (rw z refl) (none p x y z))

not_new : Absent ≢ New
not_new e = cc

not_new_old : Old ≢ New
not_new_old e = cc

absent_no_old : Absent ≢ Old
absent_no_old e = cc

new_no_old : New ≢ Old
new_no_old e = cc

-- The moment before the commit.
first : (keeps : Keeps) (n : ℕ) → Explains (two_attempts keeps) (file_at opening) (written n ∷ []) (moment false Absent opening)
first keeps n p = as_before false Absent not_new _ _ (file_at opening p) (chosen_at (written n ∷ []) p)

the_first : (keeps : Keeps) → Chooses (two_attempts keeps).tasks (written 3 ∷ [])
the_first keeps = ((0, omega arith, refl), tt)

the_second : (keeps : Keeps) → Chooses (two_attempts keeps).tasks (written 4 ∷ [])
the_second keeps = ((1, omega arith, refl), tt)

abbrev Each : Keeps → ℕ → List (Moment ℕ) → Type 0
Each keeps n moments = AllByRecursion (Explains (two_attempts keeps) (file_at opening) (written n ∷ [])) moments

sound_by : (keeps : Keeps) (n : ℕ) (moments : List (Moment ℕ)) → Chooses (two_attempts keeps).tasks (written n ∷ [])
    → Each keeps n moments → IsSound (two_attempts keeps) moments
sound_by keeps n moments chooses each = inr (
  written n ∷ [],
  chooses,
  All-from_recursion (Explains (two_attempts keeps)
      (file_at opening) (written n ∷ [])) (run moments) (first keeps n, each),
)

pub sound_runs : SoundRuns
sound_runs = record {
  everything = sound_by Everything 3 (moment true Absent opening ∷ moment true Absent (opening ++ written 3)
      ∷ moment true New (opening ++ written 3) ∷ []) (the_first Everything) (
        (λ p. as_before true Absent not_new _ _ (file_at opening p) (chosen_at (written 3 ∷ []) p)),
        (
          explained Everything 3 true Absent (opening ++ written 3) (file_stays true Absent true (Some 1)) (file_stays true Absent true
              (Some 2)) (file_written Absent absent_no_old true false None 3) (λ p x y z. rw (x, y, z) refl),
          (
            explained Everything 3 true New (opening ++ written 3) (file_stays true New true (Some 1)) (file_stays true New true (Some 2))
                (file_written New new_no_old true false None 3) (λ p x y z. rw (x, y, z) refl),
            tt,
          ),
        ),
      );
  partitions = sound_by Partitions 4 (moment true Absent ((codes "b/old", 2) ∷ written 4) ∷ moment true New ((codes "b/old", 2)
      ∷ written 4) ∷ []) (the_second Partitions) (
        explained Partitions 4 true Absent ((codes "b/old", 2) ∷ written 4) (file_gone Absent absent_no_old true (Some 1))
            (file_stays true Absent true (Some 2)) (file_written Absent absent_no_old false true None 4) (λ p x y z. rw (y, z) refl),
        (
          explained Partitions 4 true New ((codes "b/old", 2) ∷ written 4) (file_gone New new_no_old true (Some 1))
              (file_stays true New true (Some 2)) (file_written New new_no_old false true None 4) (λ p x y z. rw (y, z) refl),
          tt,
        ),
      );
  nothing = sound_by Nothing 3 (moment true Absent [] ∷ moment true New (written 3) ∷ []) (the_first Nothing) (
    explained Nothing 3 true Absent [] (file_gone Absent absent_no_old true (Some 1)) (file_gone Absent absent_no_old true (Some 2))
        (as_before true Absent not_new false true None (Some 3)) (λ p x y z. refl),
    (
      explained Nothing 3 true New (written 3) (file_gone New new_no_old true (Some 1)) (file_gone New new_no_old true (Some 2))
          (file_written New new_no_old false true None 3) (λ p x y z. rw z refl),
      tt,
    ),
  );
  unmarked = sound_by Everything 3 (moment true Old opening ∷ moment true Absent (opening ++ written 3) ∷ []) (the_first Everything) (
    (λ p. as_before true Old not_new_old _ _ (file_at opening p) (chosen_at (written 3 ∷ []) p)),
    (
      explained Everything 3 true Absent (opening ++ written 3) (file_stays true Absent true (Some 1)) (file_stays true Absent true
          (Some 2)) (file_written Absent absent_no_old true false None 3) (λ p x y z. rw (x, y, z) refl),
      tt,
    ),
  );
}
