-- The uploads of the sets that the driver has read: their attempts, and that no two are the same upload or, if no two attempts write one
-- path, have the same destination.
use Rattle.text_and_lists.proofs.Members.{in_append, in_back, in_front, in_map, map_in, nat_true, none_some, some_is}
use Rattle.text_and_lists.proofs.Naturals.{below_is}
use Rattle.text_and_lists.specs.Members.{IsIn}
use Rattle.job_invariant.proofs.Legal.{has, is_attempt}
use Rattle.job_invariant.proofs.Legible.{drawn_is}
use Rattle.job_invariant.proofs.Placed.{one_key}
use Rattle.job_invariant.proofs.Whose.{attempt}
use Rattle.job_invariant.specs.Driver.{IsHeldSet, Reads}
use Rattle.job_invariant.specs.Facts.{ApartFiles, Facts, knowing}
use Rattle.job_invariant.specs.Filed.{IsCommit}
use Rattle.job_invariant.specs.Told.{Told}
use Rattle.job_model.specs.Attempts.{Who}
use Rattle.job_model.specs.Files.{File}
use Rattle.job_model.specs.JobScript.{Script}
use Rattle.job_model.specs.Known.{Drawn}
use Rattle.job_model.specs.Legal.{IsLegal}
use Rattle.job_model.specs.declared.ends.CommitEnd.{CommitEnd}
use Rattle.job_protocol.proofs.Shared.{shared_none}
use Rattle.job_protocol.specs.JobCommits.{Commit, CommitOver, Completing, Fetching, Marking, Replacing, Reverting, Sets, all_commits}
use Rattle.job_protocol.specs.JobCommits.{commit_hears, commit_misses, commit_tells, completing, decided, fetched, fetching, picks_of}
use Rattle.job_protocol.specs.JobCommits.{replaced, replacing, reverting, swept, worn_completion}
use Rattle.job_protocol.specs.Knowledge.{drawn_for, drawn_in}
use Rattle.job_protocol.specs.LaneTable.{In}
use Rattle.job_protocol.specs.Lanes.{Turn, abort, again, chosen, dealt, deletion, in_turn, is_tried, is_unsent, nth, revert, undo}
use Rattle.job_protocol.specs.Outputs.{Picks, files, files_picked, same_path, writes}
use Rattle.job_protocol.specs.Records.{file_key, file_record}
use Rattle.list_walk.specs.Walks.{Listing, Sweep}
use Rattle.pending_json.specs.Pending.{Pending}
use Rattle.pending_json.specs.declared.records.PendingSet.{PendingSet}
use Rattle.s3_types.specs.Store.{Scene}
use Rattle.s3_types.specs.declared.journal.Outcome.{Outcome}
use Rattle.s3_types.specs.declared.journal.Outcome.TheVariants.{Answered}
use Rattle.s3_types.specs.declared.reply.Reply.{Reply}
use Rattle.s3_types.specs.declared.request.Request.{Request}
use Rattle.std.proofs.Common.{Bool, List, None, Option, Some, ap, arith, cond, false, inl, inr, length, map, nat_eq, nat_lt, refl}
use Rattle.std.proofs.Common.{slice_get, subst, suc, sym, true, zero, ℕ, [], ◌&&◌, ◌++◌, ◌+◌, ◌<◌, ◌||◌, ◌∙◌, ◌∷◌, ◌≡◌, ◌≤◌, ◌⊎◌}
use Rattle.std.proofs.Math.Bool.{or-true}
use Rattle.std.proofs.lemmas.Bool.{cases_lt, lt-ltb, ltb-false}
use Rattle.std.specs.Option.{option_map}
use Rattle.job_model.specs.declared.ends.CommitEnd.TheVariants as ends
use Rattle.job_model.specs.declared.ends.FaultStage.TheVariants as stages

-- ---- lists of uploads

pub nth_of : (ps : List Pending) (n : ℕ) → n < length ps → IsIn (nth ps n) ps
nth_of [] n h = absurd (omega arith)
nth_of (p ∷ ps) zero h = inl refl
nth_of (p ∷ ps) (suc n) h = inr (nth_of ps n (omega arith))

pub number_of : (ps : List Pending) (p : Pending) → IsIn p ps → (n : ℕ) × (n < length ps) × (nth ps n ≡ p)
number_of [] p i = absurd i
number_of (q ∷ ps) p (inl e) = (0, omega arith, sym e)
number_of (q ∷ ps) p (inr i) = let old = number_of ps p i in let low : old.0 < length ps = old.1 in (suc old.0, omega arith, old.2)

-- If no two picks write one path, each path has one writer.
pub one_writer : (w : Script) (picks : Picks) → same_path w picks ≡ None → (p : List ℕ) (t u : ℕ) → t < w.tasks → u < w.tasks
    → writes w picks p t ≡ true → writes w picks p u ≡ true → t ≡ u
one_writer w picks h p t u g e f q = grind (arith, cases_lt, shared_none)

module _ {X : Type 0} (of : Pending → X) where
  -- No two of them have this in common.
  abbrev pub Uniq : List Pending → Type 0
  Uniq [] = Unit {0}
  Uniq (p ∷ ps) = ((q : Pending) → IsIn q ps → of p ≡ of q → ⊥) × Uniq ps

  uniq_append : (ps qs : List Pending) → Uniq ps → Uniq qs → ((p q : Pending) → IsIn p ps → IsIn q qs → of p ≡ of q → ⊥) → Uniq (ps ++ qs)
  uniq_append [] qs h k cross = k
  uniq_append (p ∷ ps) qs h k cross = (
    λ q i e. elim (in_append q ps qs i) [ inl l ↦ h.0 q l e | inr r ↦ cross p q (inl refl) r e ],
    uniq_append ps qs h.1 k (λ x y i l. cross x y (inr i) l),
  )

  pub uniq_nth : (ps : List Pending) → Uniq ps → (i n : ℕ) → i < length ps → n < length ps → of (nth ps i) ≡ of (nth ps n) → i ≡ n
  uniq_nth [] h i n x y e = absurd (omega arith)
  uniq_nth (p ∷ ps) h zero zero x y e = refl
  uniq_nth (p ∷ ps) h zero (suc n) x y e = absurd (h.0 (nth ps n) (nth_of ps n (omega arith)) e)
  uniq_nth (p ∷ ps) h (suc i) zero x y e = absurd (h.0 (nth ps i) (nth_of ps i (omega arith)) (sym e))
  uniq_nth (p ∷ ps) h (suc i) (suc n) x y e = ap (λ k. suc k) (uniq_nth ps h.1 i n (omega arith) (omega arith) e)

-- ---- uploads of sets

module _ {w : Script} {minimum : ℕ} {s : Scene} {last : ℕ → Option ℕ} {m : Told} (j : IsLegal w) (f : Facts w minimum s last m)
    (picks : Picks) where
  -- An upload of the set of a task's pick.
  pub record IsOf (t : ℕ) (p : Pending) : Type 0 where
    pub commit : IsCommit w minimum m.publish_sent m.drawn p
    pub task : commit.by.task ≡ t
    pub picked : picks t ≡ Some commit.by.attempt

  abbrev record_of : Who → File → Pending
  record_of a g = file_record w a g (drawn_for (knowing (m.drawn a)) (file_key w g))

  abbrev IsPick : ℕ → PendingSet → Type 0
  IsPick t h = IsHeldSet w minimum m.publish_sent m.drawn t h × (picks t ≡ Some h.attempt)

  abbrev held_one : (t : ℕ) (h : PendingSet) → (x : IsPick t h) → (g : File) → IsIn g x.0.commits → (p : Pending) → p ≡ record_of x.0.by g
      → IsOf t p
  held_one t h x g i p e =
      let d = x.0.are.written g (x.0.are.each g i) in
      let is : drawn_in (m.drawn x.0.by) (file_key w g) ≡ d.drawn = ap (drawn_in (m.drawn x.0.by)) (sym d.key) ∙ drawn_is f x.0.by d.drawn
      d.known in
      let attempt_is : h.attempt ≡ x.0.by.attempt = ap (λ (v : PendingSet). v.attempt) x.0.is in
      record {
        commit = record {
          by = x.0.by;
          file = g;
          mine = x.0.are.each g i;
          written = d;
          has_sent = x.0.has_sent;
          is = e ∙ ap
              (λ v. file_record w x.0.by g v) is;
        };
        task = x.0.task;
        picked = x.1 ∙ ap (λ n. Some n) attempt_is;
      }

  pub held_of_set : (t : ℕ) (h : PendingSet) → IsPick t h → (p : Pending) → IsIn p h.commits → IsOf t p
  held_of_set t h x p i =
      let at : IsIn p (map (record_of x.0.by) x.0.commits) = subst (λ (v : PendingSet). IsIn p v.commits) x.0.is i in
      let g = in_map (record_of x.0.by) p x.0.commits at in
      held_one t h x g.0 g.1 p g.2

  -- These are sets of the tasks from t on.
  abbrev HeldFrom : ℕ → Sets → Type 0
  HeldFrom t [] = Unit {0}
  HeldFrom t (h ∷ sets) = IsPick t h × HeldFrom (suc t) sets

  held_from : (t : ℕ) (sets : Sets) → ((i : ℕ) (h : PendingSet) → slice_get sets i ≡ Some h → IsPick (t + i) h) → HeldFrom t sets
  held_from t [] reads = tt
  held_from t (h ∷ sets) reads = (
    (let e : t + 0 ≡ t = omega arith in subst (λ n. IsPick n h) e (reads zero h refl)),
    held_from (suc t) sets (λ i v g. let e : t + suc i ≡ suc t + i = omega arith in subst (λ n. IsPick n v) e (reads (suc i) v g)),
  )

  pub later : (t : ℕ) (sets : Sets) → HeldFrom t sets → (q : Pending) → IsIn q (all_commits sets) → (u : ℕ) × (t ≤ u) × IsOf u q
  later t [] h q i = absurd i
  later t (x ∷ sets) h q i = elim (in_append q x.commits (all_commits sets) i) [
    | inl here ↦ (t, omega arith, held_of_set t x h.0 q here)
    | inr more ↦ let o = later (suc t) sets h.1 q more in let l = o.1 in (o.0, omega arith, o.2)
  ]

  module _ {X : Type 0} (of : Pending → X) (tells : (t u : ℕ) (p q : Pending) (x : IsOf t p) (y : IsOf u q) → of p ≡ of q → (t ≡ u)
      × (x.commit.file.0 ≡ y.commit.file.0)) where
    uniq_set : (t : ℕ) (h : PendingSet) → (x : IsPick t h) → (gs : List File) → ((g : File) → IsIn g gs → IsIn g x.0.commits)
        → ApartFiles gs → Uniq of (map (record_of x.0.by) gs)
    uniq_set t h x [] sub ap_files = tt
    uniq_set t h x (g ∷ gs) sub ap_files = (
      λ q i e.
          let o = in_map (record_of x.0.by) q gs i in
          let a = held_one t h x g (sub g (inl refl)) (record_of x.0.by g) refl in
          let b = held_one t h x o.0 (sub o.0 (inr o.1)) q o.2 in
          ap_files.0 o.0 o.1 (tells t t (record_of x.0.by g) q a b e).1,
      uniq_set t h x gs (λ v i. sub v (inr i)) ap_files.1,
    )

    pub uniq_from : (t : ℕ) (sets : Sets) → HeldFrom t sets → Uniq of (all_commits sets)
    uniq_from t [] h = tt
    uniq_from t (x ∷ sets) h =
        let own : Uniq of x.commits = subst (λ (v : PendingSet). Uniq of v.commits) (sym h.0.0.is)
        (uniq_set t x h.0 h.0.0.commits (λ g i. i) h.0.0.are.once) in
        uniq_append of x.commits (all_commits sets) own (uniq_from (suc t) sets h.1) (λ p q i l e.
        let o = later (suc t) sets h.1 q l in
        let same : t ≡ o.0 = (tells t o.0 p q (held_of_set t x h.0 p i) o.2 e).0 in
        let low = o.1 in
        absurd (omega arith))

  -- ---- one upload is of one attempt and one file

  pub one_upload : (t u : ℕ) (p q : Pending) → (x : IsOf t p) → (y : IsOf u q) → p.upload ≡ q.upload → (t ≡ u)
      × (x.commit.file.0 ≡ y.commit.file.0)
  one_upload t u p q x y e =
      let ids : x.commit.written.drawn.upload ≡ y.commit.written.drawn.upload = sym (ap (λ (v : Pending). v.upload) x.commit.is) ∙ e ∙ ap
      (λ (v : Pending). v.upload) y.commit.is in
      let same = f.ids.apart x.commit.by y.commit.by x.commit.written.drawn y.commit.written.drawn x.commit.written.known
      y.commit.written.known ids in
      let key : file_key w x.commit.file ≡ file_key w y.commit.file = sym x.commit.written.key ∙ ap (λ (v : Drawn). v.key) same.1 ∙
      y.commit.written.key in
      (sym x.task ∙ ap (λ (v : Who). v.task) same.0 ∙ y.task, one_key j x.commit.file y.commit.file key)

  -- ---- and one destination, if no two picks write one path

  who_is : (t : ℕ) (p : Pending) → (x : IsOf t p) → x.commit.by ≡ attempt t x.commit.by.attempt
  who_is t p x = ap (λ n. attempt n x.commit.by.attempt) x.task

  pub file_of : (t : ℕ) (p : Pending) → (x : IsOf t p) → IsIn x.commit.file (files_picked w t (picks t))
  file_of t p x = subst (λ o. IsIn x.commit.file (files_picked w t o)) (sym x.picked)
      (subst (λ a. IsIn x.commit.file (files w a)) (who_is t p x) x.commit.mine)

  writes_it : (t : ℕ) (p : Pending) → (x : IsOf t p) → writes w picks x.commit.file.0 t ≡ true
  writes_it t p x = has (files_picked w t (picks t)) x.commit.file x.commit.file.0 (file_of t p x) refl

  pub task_low : (t : ℕ) (p : Pending) → IsOf t p → t < w.tasks
  task_low t p x = subst (λ n. n < w.tasks) x.task (is_attempt j x.commit.by x.commit.file x.commit.mine).task

  pub dest_of : (t : ℕ) (p : Pending) → (x : IsOf t p) → p.destination ≡ file_key w x.commit.file
  dest_of t p x = ap (λ (v : Pending). v.destination) x.commit.is

  module _ (apart : same_path w picks ≡ None) where
    pub one_path : (t u : ℕ) (p q : Pending) → (x : IsOf t p) → (y : IsOf u q) → x.commit.file.0 ≡ y.commit.file.0 → t ≡ u
    one_path t u p q x y path =
        let a : writes w picks x.commit.file.0 t ≡ true = writes_it t p x in
        let b : writes w picks x.commit.file.0 u ≡ true = ap (λ v. writes w picks v u) path ∙ writes_it u q y in
        one_writer w picks apart x.commit.file.0 t u (task_low t p x) (task_low u q y) a b

    pub one_dest : (t u : ℕ) (p q : Pending) → (x : IsOf t p) → (y : IsOf u q) → p.destination ≡ q.destination → (t ≡ u)
        × (x.commit.file.0 ≡ y.commit.file.0)
    one_dest t u p q x y e =
        let path : x.commit.file.0 ≡ y.commit.file.0 = one_key j x.commit.file y.commit.file (sym (dest_of t p x) ∙ e ∙ dest_of u q y) in
        (one_path t u p q x y path, path)

-- ---- the sets that it has read

module _ {w : Script} {minimum : ℕ} {s : Scene} {last : ℕ → Option ℕ} {m : Told} (j : IsLegal w) (f : Facts w minimum s last m)
    (sets : Sets) (reads : Reads w minimum m.publish_sent m.drawn sets) where
  abbrev pub Of : ℕ → Pending → Type 0
  Of t p = IsOf j f (picks_of sets) t p

  all_held : HeldFrom j f (picks_of sets) 0 sets
  all_held = held_from j f (picks_of sets) 0 sets (λ i h e.
      let z : i ≡ 0 + i = omega arith in
      subst (λ n. IsHeldSet w minimum m.publish_sent m.drawn n h × (picks_of sets n ≡ Some h.attempt)) z
      (reads i h e, ap (option_map (λ (v : PendingSet). v.attempt)) e))

  -- Each of their uploads is of a task's pick.
  pub of_sets : (p : Pending) → IsIn p (all_commits sets) → (t : ℕ) × Of t p
  of_sets p i = let o = later j f (picks_of sets) 0 sets all_held p i in (o.0, o.2)

  pub uploads_uniq : (i n : ℕ) → i < length (all_commits sets) → n < length (all_commits sets)
      → (nth (all_commits sets) i).upload ≡ (nth (all_commits sets) n).upload → i ≡ n
  uploads_uniq = uniq_nth (λ (p : Pending). p.upload) (all_commits sets) (uniq_from j f (picks_of sets) (λ (p : Pending). p.upload)
      (one_upload j f (picks_of sets)) 0 sets all_held)

  pub destinations_uniq : same_path w (picks_of sets) ≡ None → (i n : ℕ) → i < length (all_commits sets) → n < length (all_commits sets)
      → (nth (all_commits sets) i).destination ≡ (nth (all_commits sets) n).destination → i ≡ n
  destinations_uniq apart = uniq_nth (λ (p : Pending). p.destination) (all_commits sets)
      (uniq_from j f (picks_of sets) (λ (p : Pending). p.destination) (one_dest j f (picks_of sets) apart) 0 sets all_held)

  -- The set of a task that was read has an upload of each file of its attempt.
  abbrev upload_of : Who → File → Pending
  upload_of a g = file_record w a g (drawn_for (knowing (m.drawn a)) (file_key w g))

  in_commits : (xs : Sets) (t : ℕ) (h : PendingSet) (p : Pending) → slice_get xs t ≡ Some h → IsIn p h.commits → IsIn p (all_commits xs)
  in_commits [] t h p e i = absurd (none_some refl e)
  in_commits (x ∷ xs) zero h p e i = in_front p x.commits (all_commits xs) (subst (λ (v : PendingSet). IsIn p v.commits) (sym (some_is e))
      i)
  in_commits (x ∷ xs) (suc t) h p e i = in_back p x.commits (all_commits xs) (in_commits xs t h p e i)

  pub set_has : (t : ℕ) (h : PendingSet) → slice_get sets t ≡ Some h → (g : File) → IsIn g (files w (attempt t h.attempt)) → (p : Pending)
      × IsIn p (all_commits sets) × (p.destination ≡ file_key w g) × Of t p
  set_has t h e g i =
      let x = reads t h e in
      let attempt_is : h.attempt ≡ x.by.attempt = ap (λ (v : PendingSet). v.attempt) x.is in
      let who : attempt t h.attempt ≡ x.by = ap (λ n. attempt n h.attempt) (sym x.task) ∙ ap (λ n. attempt x.by.task n) attempt_is in
      let mine : IsIn g (files w x.by) = subst (λ a. IsIn g (files w a)) who i in
      let p = upload_of x.by g in
      let there : IsIn p h.commits = subst (λ (v : PendingSet). IsIn p v.commits) (sym x.is)
      (map_in (upload_of x.by) g x.commits (x.are.all g mine)) in (
        p,
        in_commits sets t h p e there,
        refl,
        held_of_set j f (picks_of sets) t h (x, ap (option_map (λ (v : PendingSet). v.attempt)) e) p
            there,
      )

-- ---- uploads by their numbers, and the requests of a revert

-- ---- the two ways to say that something is a member

pub to_in : {X : Type 0} (x : X) (xs : List X) → IsIn x xs → In x xs
to_in x [] i = absurd i
to_in x (y ∷ ys) (inl e) = inl (sym e)
to_in x (y ∷ ys) (inr i) = inr (to_in x ys i)

pub from_in : {X : Type 0} (x : X) (xs : List X) → In x xs → IsIn x xs
from_in x [] i = absurd i
from_in x (y ∷ ys) (inl e) = inl (sym e)
from_in x (y ∷ ys) (inr i) = inr (from_in x ys i)

-- ---- what a revert sends

chosen_each : (test : ℕ → Bool) (k : ℕ) (ps : List Pending) (p : Pending) → IsIn p (chosen test k ps) → IsIn p ps
chosen_each test k [] p i = absurd i
chosen_each test k (q ∷ ps) p i =
    let old = chosen_each test (k + 1) ps p in
    (elim (test k) as (λ b. IsIn p (cond b (q ∷ chosen test (k + 1) ps) (chosen test (k + 1) ps)) → IsIn p (q ∷ ps))
    [ true ↦ λ h. elim h [ inl e ↦ inl e | inr x ↦ inr (old x) ] | false ↦ λ h. inr (old h) ]) i

chosen_there : (test : ℕ → Bool) (k : ℕ) (ps : List Pending) (n : ℕ) → n < length ps → test (k + n) ≡ true
    → IsIn (nth ps n) (chosen test k ps)
chosen_there test k [] n low h = absurd (omega arith)
chosen_there test k (q ∷ ps) zero low h =
    let t : test k ≡ true = ap test (omega arith) ∙ h in
    subst (λ b. IsIn q (cond b (q ∷ chosen test (k + 1) ps) (chosen test (k + 1) ps))) (sym t) (inl refl)
chosen_there test k (q ∷ ps) (suc n) low h =
    let old = chosen_there test (k + 1) ps n (omega arith) (ap test (omega arith) ∙ h) in
    elim (test k) as (λ b. IsIn (nth ps n) (cond b (q ∷ chosen test (k + 1) ps) (chosen test (k + 1) ps))) [ true ↦ inr old | false ↦ old ]

undo_each : (ps : List Pending) (r : Request) → IsIn r (undo ps) → (p : Pending) × IsIn p ps × ((r ≡ abort p) ⊎ (r ≡ deletion p))
undo_each [] r i = absurd i
undo_each (p ∷ ps) r (inl e) = (p, inl refl, inl e)
undo_each (p ∷ ps) r (inr (inl e)) = (p, inl refl, inr e)
undo_each (p ∷ ps) r (inr (inr i)) = let old = undo_each ps r i in (old.0, inr old.1, old.2)

undo_there : (ps : List Pending) (p : Pending) → IsIn p ps → IsIn (deletion p) (undo ps)
undo_there [] p i = absurd i
undo_there (q ∷ ps) p (inl e) = inr (inl (ap deletion e))
undo_there (q ∷ ps) p (inr i) = inr (inr (undo_there ps p i))

turn_each : (all : List Pending) (ns : List ℕ) (p : Pending) → IsIn p (in_turn all ns) → (n : ℕ) × In n ns × (p ≡ nth all n)
turn_each all [] p i = absurd i
turn_each all (n ∷ ns) p i = elim (in_append p (in_turn all ns) (nth all n ∷ []) i) [
  | inl h ↦ let old = turn_each all ns p h in (old.0, inr old.1, old.2)
  | inr h ↦ elim h [ inl e ↦ (n, inl refl, e) | inr g ↦ absurd g ]
]

turn_there : (all : List Pending) (ns : List ℕ) (n : ℕ) → In n ns → IsIn (nth all n) (in_turn all ns)
turn_there all [] n i = absurd i
turn_there all (m ∷ ns) n (inl e) = in_back (nth all n) (in_turn all ns) (nth all m ∷ []) (inl (ap (nth all) (sym e)))
turn_there all (m ∷ ns) n (inr i) = in_front (nth all n) (in_turn all ns) (nth all m ∷ []) (turn_there all ns n i)

tried : (xs : List Turn) (y : Turn) → In y xs → (y.missed ≡ 0 → ⊥) → is_tried xs y.number ≡ true
tried [] y i some = absurd i
tried (x ∷ xs) y (inl e) some =
    let has : nat_lt 0 y.missed ≡ true = lt-ltb 0 y.missed (omega (arith, some)) in
    ap (λ (z : Turn). (nat_eq y.number z.number && nat_lt 0 z.missed) || is_tried xs y.number) e
    ∙ ap (λ b. (b && nat_lt 0 y.missed) || is_tried xs y.number) (nat_true y.number y.number refl) ∙ ap (λ b. b || is_tried xs y.number) has
tried (x ∷ xs) y (inr i) some = let b = nat_eq y.number x.number && nat_lt 0 x.missed in ap (λ c. b || c) (tried xs y i some) ∙ or-true b

-- What holds of each upload, of the one that ran out of retries, and of the ones that are done, holds of all that a revert's requests are
-- about.
pub revert_so : (P : Pending → Type 0) (all : List Pending) (worn : ℕ) (xs : List Turn) (finished : List ℕ)
    → ((p : Pending) → IsIn p all → P p) → P (nth all worn) → ((n : ℕ) → In n finished → P (nth all n)) → (r : Request)
    → IsIn r (revert all worn xs finished)
    → (p : Pending) × P p × ((r ≡ abort p) ⊎ (r ≡ deletion p))
revert_so P all worn xs finished each first done r (inl e) = (nth all worn, first, inl e)
revert_so P all worn xs finished each first done r (inr (inl e)) = (nth all worn, first, inr e)
revert_so P all worn xs finished each first done r (inr (inr i)) = elim (in_append r (undo (chosen (is_tried xs) 0 all)) _ i) [
  | inl h ↦ let u = undo_each (chosen (is_tried xs) 0 all) r h in (u.0, each u.0 (chosen_each (is_tried xs) 0 all u.0 u.1), u.2)
  | inr h ↦ elim (in_append r (map deletion (in_turn all finished)) _ h) [
    | inl d ↦
        let x = in_map deletion r (in_turn all finished) d in
        let t = turn_each all finished x.0 x.1 in
        (nth all t.0, done t.0 t.1, inr (x.2 ∙ ap deletion t.2))
    | inr d ↦ let x = in_map abort r (chosen (is_unsent worn xs finished) 0 all) d in
        (x.0, each x.0 (chosen_each (is_unsent worn xs finished) 0 all x.0 x.1), inl x.2)
  ]
]

module _ (all : List Pending) (worn : ℕ) (xs : List Turn) (finished : List ℕ) (low : worn < length all)
    (within : (n : ℕ) → In n finished → n < length all) where
  abbrev undone : List Request
  undone = undo (chosen (is_tried xs) 0 all)

  -- Each request is about one of the uploads.
  pub revert_each : (r : Request) → IsIn r (revert all worn xs finished) → (p : Pending) × IsIn p all × ((r ≡ abort p) ⊎ (r ≡ deletion p))
  revert_each = revert_so (λ p. IsIn p all) all worn xs finished (λ p i. i) (nth_of all worn low) (λ n i. nth_of all n (within n i))

  -- There are deletions of the one that ran out of retries, of those that were sent and got no answer, and of those that are done.
  pub deletes_tried : (y : Turn) → In y xs → (y.missed ≡ 0 → ⊥) → y.number < length all
      → IsIn (deletion (nth all y.number)) (revert all worn xs finished)
  deletes_tried y i some below =
      let z : 0 + y.number ≡ y.number = omega arith in
      inr (inr (in_front _ undone _ (undo_there (chosen (is_tried xs) 0 all) (nth all y.number)
      (chosen_there (is_tried xs) 0 all y.number below (ap (is_tried xs) z ∙ tried xs y i some)))))

  pub deletes_done : (n : ℕ) → In n finished → IsIn (deletion (nth all n)) (revert all worn xs finished)
  deletes_done n i = inr (inr (in_back _ undone _ (in_front _ (map deletion (in_turn all finished)) _
      (map_in deletion (nth all n) (in_turn all finished) (turn_there all finished n i)))))

-- ---- what holds of the driver's commit in all stages, from what holds when its stages begin

-- A send of its request got no answer.
abbrev pub missed : Commit → Bool → Commit
missed (Fetching sets n) lost = Fetching sets (n + 1)
missed (Replacing sets p ps s n) lost = Replacing sets p ps s (n + 1)
missed (Completing sets x xs finished) lost = completing sets (xs ++ again x lost ∷ []) finished
missed (Marking sets n) lost = Marking sets (n + 1)
missed (Reverting q qs n) lost = Reverting q qs (n + 1)
missed (CommitOver end) lost = CommitOver end

-- Its request ran out of retries.
abbrev pub worn : Commit → Commit
worn (Fetching sets n) = CommitOver (ends.StoreFault stages.Read)
worn (Replacing sets p ps s n) = CommitOver (ends.StoreFault stages.Delete)
worn (Completing sets x xs finished) = worn_completion sets x xs finished
worn (Marking sets n) = CommitOver (ends.StoreFault stages.Success)
worn (Reverting q qs n) = reverting qs
worn (CommitOver end) = CommitOver end

pub completing_so : (P : Commit → Type 0) (sets : Sets) (xs : List Turn) (finished : List ℕ)
    → P (Marking sets 0) → ((x : Turn) (ys : List Turn) → P (Completing sets x ys finished)) → P (completing sets xs finished)
completing_so P sets xs finished h g = grind arith

module _ (w : Script) (P : Commit → Type 0) where
  pub either : (b : Bool) (c d : Commit) → (b ≡ true → P c) → (b ≡ false → P d) → P (cond b c d)
  either b c d h g = grind arith

  misses_so : (c : Commit) (lost : Bool) → P (missed c lost) → P (worn c) → P (commit_misses w c lost)
  misses_so c lost h g = grind arith

  -- After any outcome, from what holds after an answer, after a send without one, and after a request that ran out of retries.
  pub tells_so : (c : Commit) (o : Outcome) → ((x : Reply) → o ≡ Answered x → P (commit_hears w c x)) → ((lost : Bool) → P (missed c lost))
      → P (worn c) → P (commit_tells w c o)
  tells_so c o h g e = grind (arith, misses_so)

-- What holds of the commit, of the sets that were read so far, and of the sets of a commit that goes on, with the prefixes that it has yet
-- to empty.
pub record Course (w : Script) (P : Commit → Type 0) (F : Sets → Type 0) (X : Sets → List (List ℕ) → Type 0) : Type 0 where
  pub fetches : (sets : Sets) → length sets < w.tasks → F sets → P (Fetching sets 0)
  pub clashes : (sets : Sets) (end : CommitEnd) → same_path w (picks_of sets) ≡ Some end → F sets → P (CommitOver end)
  pub decides : (sets : Sets) → w.tasks ≤ length sets → same_path w (picks_of sets) ≡ None → F sets
      → X sets (replaced w.committer w.mode w (picks_of sets))
  pub replaces : (sets : Sets) (p : List ℕ) (ps : List (List ℕ)) → X sets (p ∷ ps) → P (Replacing sets p ps (Listing []) 0)
  pub completes : (sets : Sets) → X sets [] → P (completing sets (dealt w.lanes (length (all_commits sets))) [])

module _ {w : Script} {P : Commit → Type 0} {F : Sets → Type 0} {X : Sets → List (List ℕ) → Type 0} (c : Course w P F X) where
  replacing_so : (sets : Sets) (ps : List (List ℕ)) → X sets ps → P (replacing w sets ps)
  replacing_so sets ps h = grind arith

  decided_so : (sets : Sets) (o : Option CommitEnd) → w.tasks ≤ length sets → same_path w (picks_of sets) ≡ o → F sets
      → P (decided w sets o)
  decided_so sets o h g e = grind arith

  pub fetching_so : (sets : Sets) → F sets → P (fetching w sets)
  fetching_so sets h = grind (arith, either, below_is, decided_so, ltb-false)

  pub fetched_so : (sets : Sets) (o : Option PendingSet) → length sets < w.tasks → F sets
      → ((h : PendingSet) → o ≡ Some h → F (sets ++ h ∷ [])) → P (fetched w sets o)
  fetched_so sets (Some h) l f g = fetching_so (sets ++ h ∷ []) (g h refl)
  fetched_so sets None l f g = c.fetches sets l f

  pub swept_so : (sets : Sets) (p : List ℕ) (ps : List (List ℕ)) (o : Option Sweep) → X sets ps
      → ((s : Sweep) → o ≡ Some s → P (Replacing sets p ps s 0)) → P (swept w sets p ps o)
  swept_so sets p ps o h g = grind arith
