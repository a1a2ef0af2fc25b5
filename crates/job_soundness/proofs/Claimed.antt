-- What the claim of a script says of its files is what the job's picks want and what the conflict mode keeps.
use Rattle.text_and_lists.proofs.Members.{false_true, in_append, in_back, in_front, in_map, map_in, none_or_some, none_some, same_or_not}
use Rattle.text_and_lists.proofs.Members.{some_is}
use Rattle.text_and_lists.proofs.Members.{text_is, true_or_false}
use Rattle.text_and_lists.specs.Members.{IsIn}
use Rattle.text_and_lists.specs.Order.{text_eq}
use Rattle.conflict.proofs.Rising.{from_ordered, in_ordered}
use Rattle.job_invariant.proofs.Wanted.{in_wanted, wanted_in}
use Rattle.job_model.specs.Attempts.{Declared, declares, same_name}
use Rattle.job_model.specs.Files.{File}
use Rattle.job_model.specs.JobScript.{Script}
use Rattle.job_model.specs.Placed.{placed}
use Rattle.job_protocol.specs.Conflicts.{dir_from, dir_of, dirs_of, displaced as displaced_by, is_below_any, keeps_of, partitions, stays}
use Rattle.job_protocol.specs.Conflicts.{with_dir}
use Rattle.job_protocol.specs.Outputs.{Picks, files_picked, is_picked, picked_below, wanted, wanted_at, wanted_below, wanted_paths}
use Rattle.job_soundness.specs.Claim.{attempts_of, chosen_below, claim_of, keeps_by, tasks_below}
use Rattle.s3_types.proofs.Begins.{begins_is}
use Rattle.s3_types.specs.Pages.{begins}
use Rattle.s3_types.specs.declared.request.Committer.{Committer}
use Rattle.s3_types.specs.declared.request.Mode.{Mode}
use Rattle.soundness.specs.Claims.{Attempts, Chooses, Files, always_reaches, chosen_at, directory, file_at, is_below, is_kept, is_replaced}
use Rattle.soundness.specs.Claims.{kept_by, or_else, reaches, replaced_by, with_byte, writes_into}
use Rattle.std.proofs.Common.{Bool, List, None, Option, Some, ap, arith, cond, false, inl, inr, map, nat_eq, refl, subst, suc, sym, true}
use Rattle.std.proofs.Common.{zero, ℕ, [], ◌&&◌, ◌++◌, ◌<◌, ◌==◌, ◌||◌, ◌∙◌, ◌∷◌, ◌≡◌}
use Rattle.std.proofs.Math.Bool.{or-true}
use Rattle.std.proofs.lemmas.Bool.{and_parts}
use Rattle.std.proofs.lemmas.Bool.Decides.{nat_tests}
use Rattle.std.specs.List.{AllZip, Contains, filter, list_all, list_any, starts_with}
use Rattle.std.specs.Map.{lookup}
use Rattle.std.specs.Option.{option_map, unwrap_or}
use Rattle.std.specs.Prelude.{is_some}
use Rattle.std.specs.Str.{bytes_eq}

-- ---- what the chosen attempts write

lookup_append : (q : List ℕ) (fs gs : List File) → lookup (text_eq q) (fs ++ gs) ≡ or_else (lookup (text_eq q) fs) (lookup (text_eq q) gs)
lookup_append q [] gs = refl
lookup_append q (f ∷ fs) gs = elim (text_eq q f.0) as (λ b. cond b (Some f.1) (lookup (text_eq q) (fs ++ gs)) ≡ or_else (cond b
    (Some f.1) (lookup (text_eq q) fs)) (lookup (text_eq q) gs)) [ true ↦ refl | false ↦ lookup_append q fs gs ]

or_else_assoc : (a b c : Option (List ℕ)) → or_else a (or_else b c) ≡ or_else (or_else a b) c
or_else_assoc None b c = refl
or_else_assoc (Some x) b c = refl

or_else_none : (a : Option (List ℕ)) → or_else a None ≡ a
or_else_none None = refl
or_else_none (Some x) = refl

chosen_more : (choice : List (Files (List ℕ))) (fs : Files (List ℕ)) (q : List ℕ)
    → chosen_at (choice ++ fs ∷ []) q ≡ or_else (chosen_at choice q) (file_at fs q)
chosen_more [] fs q = or_else_none (file_at fs q)
chosen_more (gs ∷ choice) fs q = ap (or_else (file_at gs q)) (chosen_more choice fs q)
    ∙ or_else_assoc (file_at gs q) (chosen_at choice q) (file_at fs q)

module _ (w : Script) (picks : Picks) where
  chosen_is : (n : ℕ) (q : List ℕ) → chosen_at (chosen_below w picks n) q ≡ lookup (text_eq q) (wanted_below w picks n)
  chosen_is zero q = refl
  chosen_is (suc t) q =
      chosen_more (chosen_below w picks t) (files_picked w t (picks t)) q
      ∙ ap (λ o. or_else o (lookup (text_eq q) (files_picked w t (picks t)))) (chosen_is t q)
      ∙ sym (lookup_append q (wanted_below w picks t) (files_picked w t (picks t)))

  pub chosen_wanted : (q : List ℕ) → chosen_at (chosen_below w picks w.tasks) q ≡ wanted_at w picks q
  chosen_wanted q = chosen_is w.tasks q

-- ---- the chosen attempts are the claim's

contains_in : {X : Type 0} (xs : List X) (x : X) → IsIn x xs → Contains xs x
contains_in [] x i = absurd i
contains_in (y ∷ xs) x (inl e) = (0, omega arith, sym e)
contains_in (y ∷ xs) x (inr i) = let c = contains_in xs x i in (suc c.0, omega (arith, c.1), c.2)

zip_more : {A B : Type 0} (R : A → B → Type 0) (xs : List A) (ys : List B) (x : A) (y : B) → AllZip R xs ys → R x y
    → AllZip R (xs ++ x ∷ []) (ys ++ y ∷ [])
zip_more R [] [] x y h r = (r, tt)
zip_more R [] (b ∷ ys) x y h r = absurd h
zip_more R (a ∷ xs) [] x y h r = absurd h
zip_more R (a ∷ xs) (b ∷ ys) x y h r = (h.0, zip_more R xs ys x y h.1 r)

-- One more attempt takes none away.
kept_in : (w : Script) (fs : List File) (d : Declared) (all : List Declared) (b : Bool)
    → IsIn (placed w.unique w.job fs) (map (λ (d : Declared). placed w.unique w.job d.1) all)
    → IsIn (placed w.unique w.job fs) (map (λ (d : Declared). placed w.unique w.job d.1) (cond b (d ∷ all) all))
kept_in w fs d all true i = inr i
kept_in w fs d all false i = i

-- The files of a declared attempt are among the attempts of its task.
declared_files : (w : Script) (t a : ℕ) (all : List Declared) (fs : List File) → lookup (same_name (record {
  task = t;
  attempt =
      a;
})) all ≡ Some fs
    → IsIn (placed w.unique w.job fs) (map (λ (d : Declared). placed w.unique w.job d.1) (filter (λ (d : Declared). nat_eq d.0.task t) all))
declared_files w t a [] fs h = absurd (none_some refl h)
declared_files w t a (d ∷ all) fs h = elim (true_or_false (same_name (record { task = t; attempt = a }) d.0)) [
  | inl e ↦
      let is : d.1 ≡ fs = some_is (ap (λ b. cond b (Some d.1) (lookup (same_name (record { task = t; attempt = a })) all)) (sym e) ∙ h) in
      let both = and_parts (nat_eq t d.0.task) (nat_eq a d.0.attempt) e in
      let named : nat_eq t d.0.task ≡ true = both.0 in
      let turned : nat_eq d.0.task t ≡ true = grind (arith, nat_tests) in
      rw turned (inl (ap (placed w.unique w.job) (sym is)))
  | inr e ↦ kept_in w fs d (filter (λ (d : Declared). nat_eq d.0.task t) all) (nat_eq d.0.task t) (declared_files w t a all fs (ap
      (λ b. cond b (Some d.1) (lookup (same_name (record { task = t; attempt = a })) all)) (sym e) ∙ h))
]

-- Each pick is of a declared attempt.
abbrev pub AreDeclared : Script → Picks → Type 0
AreDeclared w picks = (t a : ℕ) → picks t ≡ Some a → declares w.attempts (record { task = t; attempt = a }) ≡ true

module _ (w : Script) (picks : Picks) (declared : AreDeclared w picks) where
  pub picked_in : (t : ℕ) → is_some (picks t) ≡ true → IsIn (files_picked w t (picks t)) (attempts_of w t)
  picked_in t h = elim (none_or_some (picks t)) [
    | inl none ↦ absurd (false_true (ap is_some none) h)
    | inr a ↦ subst (λ o. IsIn (files_picked w t o) (attempts_of w t)) (sym a.1) (elim (none_or_some (lookup (same_name (record {
      task =
          t;
      attempt = a.0;
    })) w.attempts)) [
      | inl none ↦ absurd (false_true (ap is_some none) (declared t a.0 a.1))
      | inr fs ↦
          subst (λ l. IsIn l (attempts_of w t))
          (sym (ap (λ o. unwrap_or (option_map (placed w.unique w.job) o) []) fs.1)) (declared_files w t a.0 w.attempts fs.0 fs.1)
    ])
  ]

  chooses_below : (n : ℕ) → picked_below picks n ≡ true → Chooses (tasks_below w n) (chosen_below w picks n)
  chooses_below zero h = tt
  chooses_below (suc t) h =
      let b = and_parts (picked_below picks t) (is_some (picks t)) h in
      zip_more Contains (tasks_below w t) (chosen_below w picks t) (attempts_of w t) (files_picked w t (picks t)) (chooses_below t b.0)
      (contains_in (attempts_of w t) (files_picked w t (picks t)) (picked_in t b.1))

  pub chooses : is_picked w picks ≡ true → Chooses (tasks_below w w.tasks) (chosen_below w picks w.tasks)
  chooses h = chooses_below w.tasks h

-- ---- directories

not_empty : (d : List ℕ) (y : ℕ) → with_byte y (d ++ 47 ∷ []) ≡ y ∷ (d ++ 47 ∷ [])
not_empty [] y = refl
not_empty (x ∷ d) y = refl

-- The parent directory of a path with its `/`, as the conflict modes have it; empty if there is none.
abbrev ended : Option (List ℕ) → List ℕ
ended None = []
ended (Some d) = d ++ 47 ∷ []

slash_ends : (x : ℕ) (a b : Bool) → a ≡ b → (a ≡ true → x ≡ 47) → cond a (x ∷ []) [] ≡ ended (cond b (Some []) None)
slash_ends x true true e h = ap (λ y. y ∷ []) (h refl)
slash_ends x false false e h = refl
slash_ends x true false e h = absurd (false_true e refl)
slash_ends x false true e h = absurd (false_true refl e)

same_tests : (x : ℕ) → (x == 47) ≡ nat_eq x 47
same_tests x = elim (true_or_false (x == 47)) [
  | inl e ↦ let same : nat_eq x 47 ≡ true = grind (arith, nat_tests) in e ∙ sym same
  | inr e ↦ let same : nat_eq x 47 ≡ false = grind (arith, nat_tests) in e ∙ sym same
]

is_slash : (x : ℕ) → (x == 47) ≡ true → x ≡ 47
is_slash x e = grind (arith, nat_tests)

from_step : (x : ℕ) (p : List ℕ) (o : Option (List ℕ)) → with_byte x (ended o) ≡ ended (dir_from x p o)
from_step x p (Some d) = not_empty d x
from_step x p None = slash_ends x (x == 47) (nat_eq x 47) (same_tests x) (is_slash x)

directory_is : (p : List ℕ) → directory p ≡ ended (dir_of p)
directory_is [] = refl
directory_is (x ∷ p) = ap (with_byte x) (directory_is p) ∙ from_step x p (dir_of p)

-- If a path is below such a directory, there is one, and the path begins with it.
below_is : (o : Option (List ℕ)) (q : List ℕ) → is_below (ended o) q ≡ true → (d : List ℕ) × (o ≡ Some d) × (begins (d ++ 47 ∷ []) q ≡ true)
below_is None q h = absurd (false_true refl h)
below_is (Some d) q h = (d, refl, sym (begins_is (d ++ 47 ∷ []) q) ∙ sym (below_some d q) ∙ h)
  where
    below_some : (d q : List ℕ) → is_below (d ++ 47 ∷ []) q ≡ starts_with nat_eq q (d ++ 47 ∷ [])
    below_some [] q = refl
    below_some (x ∷ d) q = refl

below_back : (d q : List ℕ) → begins (d ++ 47 ∷ []) q ≡ true → is_below (d ++ 47 ∷ []) q ≡ true
below_back [] q h = begins_is (47 ∷ []) q ∙ h
below_back (x ∷ d) q h = begins_is (x ∷ (d ++ 47 ∷ [])) q ∙ h

-- ---- the partitions of wanted paths

-- If some element passes a test, one can be named.
any_some : {X : Type 0} (test : X → Bool) (xs : List X) → list_any test xs ≡ true → (x : X) × IsIn x xs × (test x ≡ true)
any_some test [] h = absurd (false_true refl h)
any_some test (x ∷ xs) h = elim (true_or_false (test x)) [
  | inl e ↦ (x, inl refl, e)
  | inr e ↦ let o = any_some test xs (sym (ap (λ b. b || list_any test xs) e) ∙ h) in (o.0, inr o.1, o.2)
]

any_at : {X : Type 0} (test : X → Bool) (xs : List X) (x : X) → IsIn x xs → test x ≡ true → list_any test xs ≡ true
any_at test [] x i h = absurd i
any_at test (y ∷ xs) x (inl e) h = ap (λ b. b || list_any test xs) (sym (ap test e) ∙ h)
any_at test (y ∷ xs) x (inr i) h = ap (λ b. test y || b) (any_at test xs x i h) ∙ or-true (test y)

all_at : {X : Type 0} (test : X → Bool) (xs : List X) (x : X) → IsIn x xs → list_all test xs ≡ true → test x ≡ true
all_at test [] x i h = absurd i
all_at test (y ∷ xs) x (inl e) h = ap test e ∙ (and_parts (test y) (list_all test xs) h).0
all_at test (y ∷ xs) x (inr i) h = all_at test xs x i (and_parts (test y) (list_all test xs) h).1

dir_in : (d p : List ℕ) (ps : List (List ℕ)) → IsIn p ps → dir_of p ≡ Some d → IsIn d (dirs_of ps)
dir_in d p [] i e = absurd i
dir_in d p (q ∷ ps) (inl is) e = subst (λ o. IsIn d (with_dir o (dirs_of ps))) (sym e ∙ ap dir_of is) (inl refl)
dir_in d p (q ∷ ps) (inr i) e = (elim (dir_of q) as (λ o. IsIn d (dirs_of ps)
    → IsIn d (with_dir o (dirs_of ps))) [ Some x ↦ λ h. inr h | None ↦ λ h. h ]) (dir_in d p ps i e)

dir_from_in : (d : List ℕ) (ps : List (List ℕ)) → IsIn d (dirs_of ps) → (p : List ℕ) × IsIn p ps × (dir_of p ≡ Some d)
dir_from_in d [] i = absurd i
dir_from_in d (q ∷ ps) i = by (dir_of q) refl i (dir_from_in d ps)
  where
    by : (o : Option (List ℕ)) → dir_of q ≡ o → IsIn d (with_dir o (dirs_of ps)) → (IsIn d (dirs_of ps)
        → (p : List ℕ) × IsIn p ps × (dir_of p ≡ Some d)) → (p : List ℕ) × IsIn p (q ∷ ps) × (dir_of p ≡ Some d)
    by (Some x) e (inl is) rest = (q, inl refl, e ∙ ap (λ y. Some y) (sym is))
    by (Some x) e (inr i) rest = let o = rest i in (o.0, inr o.1, o.2)
    by None e i rest = let o = rest i in (o.0, inr o.1, o.2)

-- ---- what a claim keeps and replaces, and what the conflict mode keeps

module _ (w : Script) where
  task_in : (n t : ℕ) → t < n → IsIn (attempts_of w t) (tasks_below w n)
  task_in zero t l = absurd (omega arith)
  task_in (suc n) t l = elim (same_or_not t n) [
    | inl e ↦ in_back (attempts_of w t) (tasks_below w n) (attempts_of w n ∷ []) (inl (ap (attempts_of w) e))
    | inr ne ↦ in_front (attempts_of w t) (tasks_below w n) (attempts_of w n ∷ []) (task_in n t (omega (arith, ne)))
  ]

  in_tasks : (n : ℕ) (task : Attempts (List ℕ)) → IsIn task (tasks_below w n) → (t : ℕ) × (t < n) × (task ≡ attempts_of w t)
  in_tasks zero task i = absurd i
  in_tasks (suc n) task i = elim (in_append task (tasks_below w n) (attempts_of w n ∷ []) i) [
    | inl old ↦ let o = in_tasks n task old in (o.0, omega (arith, o.1), o.2)
    | inr new ↦ elim new [ inl e ↦ (n, omega arith, e) | inr none ↦ absurd none ]
  ]

-- The files of the picked attempt reach what each attempt of the task reaches.
always_some : (q : List ℕ) (task : Attempts (List ℕ)) (fs : Files (List ℕ)) → always_reaches q task ≡ true → IsIn fs task
    → (f : File) × IsIn f fs × (is_below (directory f.0) q ≡ true)
always_some q [] fs h i = absurd i
always_some q (gs ∷ others) fs h i =
    let o = any_some (λ (f : File). is_below (directory f.0) q && list_all (writes_into (directory f.0)) others) gs h in
    let both = and_parts (is_below (directory o.0.0) q) (list_all (writes_into (directory o.0.0)) others) o.2 in
    elim i [
      | inl e ↦ (o.0, subst (IsIn o.0) (sym e) o.1, both.0)
      | inr k ↦
          let into = any_some (λ (f : File). bytes_eq (directory o.0.0) (directory f.0)) fs (all_at (writes_into
          (directory o.0.0)) others fs k both.1) in
          (into.0, into.1, ap (λ d. is_below d q) (sym (text_is (directory o.0.0) (directory into.0.0) into.2)) ∙ both.0)
    ]

picked_at : (picks : Picks) (n t : ℕ) → picked_below picks n ≡ true → t < n → is_some (picks t) ≡ true
picked_at picks zero t h l = absurd (omega arith)
picked_at picks (suc n) t h l =
    let both = and_parts (picked_below picks n) (is_some (picks n)) h in
    elim (same_or_not t n) [ inl e ↦ ap (λ m. is_some (picks m)) e ∙ both.1 | inr ne ↦ picked_at picks n t both.0 (omega (arith, ne)) ]

kept_table : (c : Committer) (m : Mode) (dirs : List (List ℕ)) (q : List ℕ) (reached : Bool) → (reached ≡ false
    → is_below_any dirs q ≡ false) → kept_by (keeps_by c m) reached ≡ true → stays (displaced_by c m) dirs q ≡ true
kept_table c m dirs q reached h e = grind arith

replaced_table : (c : Committer) (m : Mode) (dirs : List (List ℕ)) (q : List ℕ) (reached : Bool) → (reached ≡ true
    → is_below_any dirs q ≡ true) → replaced_by (keeps_by c m) reached ≡ true → stays (displaced_by c m) dirs q ≡ false
replaced_table c m dirs q reached h e = grind arith

module _ (w : Script) (picks : Picks) (declared : AreDeclared w picks) (q : List ℕ) where
  abbrev dirs : List (List ℕ)
  dirs = partitions (wanted_paths w picks)

  abbrev path : File → List ℕ
  path f = f.0

  partition_of : (f : File) (d : List ℕ) → IsIn f (wanted w picks) → dir_of f.0 ≡ Some d → IsIn d dirs
  partition_of f d i e = in_ordered d (dirs_of (wanted_paths w picks)) (dir_in d f.0 (wanted_paths w picks) (in_ordered f.0 (map path
      (wanted w picks)) (map_in path f (wanted w picks) i)) e)

  of_partition : (d : List ℕ) → IsIn d dirs → (f : File) × IsIn f (wanted w picks) × (dir_of f.0 ≡ Some d)
  of_partition d i =
      let o = dir_from_in d (wanted_paths w picks) (from_ordered d (dirs_of (wanted_paths w picks)) i) in
      let f = in_map path o.0 (wanted w picks) (from_ordered o.0 (map path (wanted w picks)) o.1) in
      (f.0, f.1, ap dir_of (sym f.2) ∙ o.2)

  not_reached : list_any (list_any (reaches q)) (tasks_below w w.tasks) ≡ false → is_below_any dirs q ≡ false
  not_reached h = elim (true_or_false (is_below_any dirs q)) [
    | inr e ↦ e
    | inl e ↦
        let d = any_some (λ d. begins (d ++ 47 ∷ []) q) dirs e in
        let f = of_partition d.0 d.1 in
        let p = in_wanted w picks w.tasks f.0 f.1 in
        let below : is_below (directory f.0.0) q ≡ true = ap (λ v. is_below v q) (directory_is f.0.0 ∙ ap ended f.2)
        ∙ below_back d.0 q d.2 in
        let there : IsIn f.0 (files_picked w p.task (picks p.task)) =
        subst (λ o. IsIn f.0 (files_picked w p.task o)) (sym p.picked) p.mine in
        let reached : reaches q (files_picked w p.task (picks p.task)) ≡ true =
        any_at (λ (f : File). is_below (directory f.0) q) (files_picked w p.task (picks p.task)) f.0 there below in
        let task : list_any (reaches q) (attempts_of w p.task) ≡ true =
        any_at (reaches q) (attempts_of w p.task) (files_picked w p.task (picks p.task)) (picked_in w picks declared p.task
        (ap is_some p.picked)) reached in
        absurd (false_true h (any_at (list_any (reaches q)) (tasks_below w w.tasks) (attempts_of w p.task)
        (task_in w w.tasks p.task p.below) task))
  ]

  sure_below : is_picked w picks ≡ true → list_any (always_reaches q) (tasks_below w w.tasks) ≡ true → is_below_any dirs q ≡ true
  sure_below picked h =
      let task = any_some (always_reaches q) (tasks_below w w.tasks) h in
      let t = in_tasks w w.tasks task.0 task.1 in
      let there : is_some (picks t.0) ≡ true = picked_at picks w.tasks t.0 picked t.1 in
      let f = always_some q (attempts_of w t.0) (files_picked w t.0 (picks t.0)) (ap (always_reaches q) (sym t.2)
      ∙ task.2) (picked_in w picks declared t.0 there) in
      let d = below_is (dir_of f.0.0) q (ap (λ v. is_below v q) (sym (directory_is f.0.0)) ∙ f.2) in
      any_at (λ d. begins (d ++ 47 ∷ []) q) dirs d.0 (partition_of f.0 d.0 (wanted_in w picks w.tasks t.0 f.0 t.1 f.1) d.1) d.2

  pub kept_is : is_kept (claim_of w) q ≡ true → keeps_of w picks q ≡ true
  kept_is h = kept_table w.committer w.mode dirs q _ not_reached h

  pub replaced_is : is_picked w picks ≡ true → is_replaced (claim_of w) q ≡ true → keeps_of w picks q ≡ false
  replaced_is picked h = replaced_table w.committer w.mode dirs q _ (sure_below picked) h
