-- The stages of the marker tool keep what they promise, whatever work is done in a directory.
use Rattle.text_and_lists.proofs.Members.{in_back, in_front}
use Rattle.text_and_lists.specs.Members.{IsIn}
use Rattle.bucket_ops.proofs.Walks.{walk_begins, walk_falls, walk_fits, walk_goes}
use Rattle.bucket_ops.specs.Asks.{Ask, edited, reply_in}
use Rattle.bucket_ops.specs.Looks.{look_of}
use Rattle.bucket_ops.specs.Phases.{IsPhases, MayAsk}
use Rattle.bucket_ops.specs.Walking.{IsWalking, all_below, fits, walk_asks, walk_left}
use Rattle.bucket_ops.specs.inner.Walking.{IsWalked, LessWalked}
use Rattle.bucket_ops.specs.declared.look.Look.{Look}
use Rattle.bucket_ops.specs.declared.look.Look.TheVariants.{There}
use Rattle.dir_markers.specs.Markers.{marker_of}
use Rattle.fs_ops.proofs.AtPathLaws.{looks_there, still_look}
use Rattle.fs_ops.proofs.Looks.{at_key, first_listed, none_listed}
use Rattle.fs_ops.proofs.StepLaws.{phases_of}
use Rattle.fs_ops.specs.Places.{key_if, look_asks, prefix_of}
use Rattle.fs_ops.specs.code.Steps.{goes_by}
use Rattle.fs_ops.specs.inner.Steps.{IsStages}
use Rattle.fs_tree.specs.Tree.{IsDirectory, NoFile}
use Rattle.fs_tree.specs.declared.answers.FsRefusal.{FsRefusal}
use Rattle.fs_tree.specs.declared.answers.FsRefusal.TheVariants.{NoSuchBucket, NotDirectory, NotFound}
use Rattle.list_walk.specs.Walks.{More, Walked, Whole, walked_entries}
use Rattle.marker_tool.specs.code.Tool.{IsChanging, asks, begun, first, holds, is_absent, left, on, on_change, on_key, on_walk, on_walked}
use Rattle.marker_tool.specs.code.Tool.{whole}
use Rattle.marker_tool.specs.code.Work.{IsWork}
use Rattle.marker_tool.specs.declared.tool.ToolStage.{ToolStage}
use Rattle.marker_tool.specs.declared.tool.ToolStage.TheVariants.{Change, Here, Walk}
use Rattle.operations.specs.Plans.{Falls, Goes}
use Rattle.operations.specs.declared.plan.Step.{Step}
use Rattle.operations.specs.declared.plan.Step.TheVariants.{End, Next}
use Rattle.s3_types.specs.Store.{Objects}
use Rattle.s3_types.specs.declared.reply.PageEntry.{PageEntry}
use Rattle.std.proofs.Common.{ap, arith, inl, inr, refl, subst, sym, ◌∙◌}
use Rattle.std.proofs.Math.Seq.{take-add}
use Rattle.std.proofs.lemmas.Bool.{ltb-false, ltb-true}
use Rattle.std.proofs.lemmas.List.{length-drop, take-append-drop, take_all}
use Rattle.std.specs.Prelude.{Bool, Err, List, Ok, Option, Result, Some, cond, drop, false, length, nat_lt, take, true, ℕ, [], ◌++◌, ◌+◌}
use Rattle.std.specs.Prelude.{◌<◌, ◌∷◌, ◌≡◌, ◌≤◌, ◌⊎◌}

module _ {A : Type 0} {keys : List ℕ → List PageEntry → List (List ℕ)} {answer : List ℕ → List PageEntry → A} {batch : ℕ}
    {changes : List (List ℕ) → Ask} {changed : Objects → List (List ℕ) → Objects}
    {gives : List ℕ → Objects → Result A FsRefusal → Objects → Type 0} {always : List ℕ → Objects → Objects → Type 0}
    {sends : List ℕ → Objects → Ask → Type 0} (w : IsWork keys answer batch changes changed gives always sends) where
  module _ (o : List ℕ) (z : Objects) where
    -- the entries of all keys below the path
    abbrev All : List PageEntry
    All = all_below (prefix_of o) z

    -- the keys that are to be changed
    abbrev Keys : List (List ℕ)
    Keys = keys (prefix_of o) All

    -- what holds after a step
    abbrev On : Step (ToolStage A) (Result A FsRefusal) → Objects → Type 0
    On y m = Goes (holds keys answer changed o z) (gives o z) y m

    -- ---- the keys of a directory are changed

    begun_holds : (ks : List (List ℕ)) (d : IsDirectory z o) → ks ≡ Keys → On (begun ks (answer (prefix_of o) All)) z
    begun_holds [] d e = subst (λ m. gives o z (Ok (answer (prefix_of o) All)) m) (ap (changed z) (sym e) ∙ w.nothing z) (w.given o z d)
    begun_holds (k ∷ ks) d e = (d, e, refl, omega arith, sym (w.nothing z))

    -- the step that changes the keys that are left, of which there is at least one
    left_keys : (ks : List (List ℕ)) (n : ℕ) (r : List (List ℕ)) → drop n ks ≡ r → n < length ks
        → edited (changes r) (changed z (take n ks)) ≡ changed z (take (n + batch) ks)
    left_keys ks n [] e l = let s = ap length (sym e) ∙ length-drop n ks in absurd (omega (arith, l, s))
    left_keys ks n (k ∷ r) e l =
        w.request (changed z (take n ks)) k r ∙ ap (λ r. changed (changed z (take n ks)) (take batch r)) (sym e)
        ∙ sym (w.more z (take n ks) (take batch (drop n ks))) ∙ ap (changed z) (sym (take-add n batch ks))

    change_holds : (ks : List (List ℕ)) (n : ℕ) (a : A) → IsDirectory z o → ks ≡ Keys → a ≡ answer (prefix_of o) All → (b : Bool)
        → nat_lt batch (length (drop n ks)) ≡ b
        → On (cond b (Next (Change ks (n + batch) a)) (End (Ok a))) (changed z (take (n + batch) ks))
    change_holds ks n a d e f true t = (d, e, f, omega (arith, ltb-true batch (length (drop n ks)) t, length-drop n ks), refl)
    change_holds ks n a d e f false t =
        let all : length ks ≤ n + batch = omega (arith, ltb-false batch (length (drop n ks)) t, length-drop n ks) in
        subst (λ a. gives o z (Ok a) (changed z (take (n + batch) ks))) (sym f)
        (subst (λ ks. gives o z (Ok (answer (prefix_of o) All)) (changed z ks)) (sym (take_all (n + batch) ks all ∙ e)) (w.given o z d))

    changing : (ks : List (List ℕ)) (n : ℕ) (a : A) (m : Objects) → IsChanging keys answer changed o z ks n a m
        → On (on_change batch ks n a) (edited (changes (drop n ks)) m)
    changing ks n a m h =
        subst (On (on_change batch ks n a)) (sym (ap (edited (changes (drop n ks))) h.4 ∙ left_keys ks n (drop n ks) refl h.3))
        (change_holds ks n a h.0 h.1 h.2 (nat_lt batch (length (drop n ks))) refl)

    some_of : (ks : List (List ℕ)) (n : ℕ) → ks ≡ Keys → (k : List ℕ) → IsIn k (take n ks) ⊎ IsIn k (drop n ks) → IsIn k Keys
    some_of ks n e k (inl i) = subst (IsIn k) (take-append-drop n ks ∙ e) (in_front k (take n ks) (drop n ks) i)
    some_of ks n e k (inr i) = subst (IsIn k) (take-append-drop n ks ∙ e) (in_back k (take n ks) (drop n ks) i)

    sent : (ks : List (List ℕ)) (n : ℕ) (r : List (List ℕ)) → drop n ks ≡ r → IsDirectory z o → ks ≡ Keys → n < length ks
        → sends o z (changes r)
    sent ks n [] e d s l = let s = ap length (sym e) ∙ length-drop n ks in absurd (omega (arith, l, s))
    sent ks n (k ∷ r) e d s l = w.sent o z k r d (λ j i. some_of ks n s j (inr (subst (IsIn j) (sym e) i)))

  -- ---- the look and the walk

  whole_holds : (o : List ℕ) (z : Objects) → NoFile z o → On o z (whole keys answer o (all_below (prefix_of o) z)) z
  whole_holds [] z f = begun_holds [] z (keys [] (all_below [] z)) (tt, tt) refl
  whole_holds (x ∷ p) z f = by (all_below (marker_of (x ∷ p)) z) refl
    where
      by : (es : List PageEntry) → all_below (marker_of (x ∷ p)) z ≡ es → On (x ∷ p) z (whole keys answer (x ∷ p) es) z
      by [] e = w.refused (x ∷ p) z NotFound (f, none_listed x (p ++ 47 ∷ []) z e)
      by (y ∷ es) e = subst (λ l. On (x ∷ p) z (begun (keys (marker_of (x ∷ p)) l) (answer (marker_of (x ∷ p)) l)) z) e
          (begun_holds (x ∷ p) z (keys (marker_of (x ∷ p)) (all_below (marker_of (x ∷ p)) z)) (f, first_listed (marker_of (x ∷ p)) z y es e)
          refl)

  walked_holds : (o : List ℕ) (z : Objects) (v : Walked PageEntry) → NoFile z o → IsWalked (prefix_of o) z v
      → On o z (on_walked keys answer o v) z
  walked_holds o z (More es) f h = (refl, f, h)
  walked_holds o z (Whole es) f h = subst (λ es. On o z (whole keys answer o es) z) (sym h) (whole_holds o z f)

  walking : (o : List ℕ) (z : Objects) (es : List PageEntry) → NoFile z o → IsWalking (prefix_of o) z es
      → On o z (on_walk keys answer o es (reply_in z (walk_asks (prefix_of o) es)) (fits (reply_in z (walk_asks (prefix_of o) es)))) z
  walking o z es f h =
      subst (λ b. On o z (on_walk keys answer o es (reply_in z (walk_asks (prefix_of o) es)) b) z) (sym (walk_fits (prefix_of o) es z))
      (walked_holds o z (walked_entries es (reply_in z (walk_asks (prefix_of o) es))) f (walk_goes (prefix_of o) z es h))

  looked : (o : List ℕ) (z : Objects) → On o z (on_key (key_if o) (look_of (reply_in z (look_asks o)))) (edited (look_asks o) z)
  looked [] z = (refl, tt, walk_begins [] z)
  looked (x ∷ p) z =
      at_key (λ l. On (x ∷ p) z (on_key (Some (x ∷ p)) l) z) z (x ∷ p) (λ s. w.refused (x ∷ p) z (NotDirectory (x ∷ p)) (s, refl))
      (λ n. (refl, n, walk_begins (marker_of (x ∷ p)) z))

  step : (o : List ℕ) (z : Objects) (x : ToolStage A) (m : Objects) → holds keys answer changed o z x m
      → On o z (on keys answer batch o x (reply_in m (asks changes o x))) (edited (asks changes o x) m)
  step o z Here m h = subst (λ m. On o z (on_key (key_if o) (look_of (reply_in m (look_asks o)))) (edited (look_asks o) m)) (sym h)
      (looked o z)
  step o z (Walk es) m h =
      subst (λ m. On o z (on_walk keys answer o es (reply_in m (walk_asks (prefix_of o) es))
      (fits (reply_in m (walk_asks (prefix_of o) es)))) m) (sym h.0)
      (walking o z es h.1 h.2)
  step o z (Change ks n a) m h = changing o z ks n a m h

  during : (o : List ℕ) (z : Objects) (x : ToolStage A) (m : Objects) → holds keys answer changed o z x m → always o z m
  during o z Here m h = subst (always o z) (sym h) (w.still o z)
  during o z (Walk es) m h = subst (always o z) (sym h.0) (w.still o z)
  during o z (Change ks n a) m h = subst (always o z) (sym h.4) (w.during o z (take n ks) h.0 (λ k i. some_of o z ks n h.1 k (inl i)))

  -- ---- the number of requests that are left

  -- the bound on what is left, which falls
  abbrev Left : List ℕ → ToolStage A → Objects → ℕ
  Left o x m = left keys o x m

  abbrev Fall : List ℕ → Step (ToolStage A) (Result A FsRefusal) → Objects → ℕ → Type 0
  Fall o y m n = Falls (Left o) y m n

  -- the number of keys to change
  abbrev Most : List ℕ → Objects → ℕ
  Most o m = length (keys (prefix_of o) (all_below (prefix_of o) m))

  fall_key : (o : List ℕ) (k : Option (List ℕ)) (l : Look) (m : Objects) → Fall o (on_key k l) m (Left o Here m)
  fall_key o (Some k) There m = tt
  fall_key o _ _ m = omega arith

  fall_begun : (o : List ℕ) (ks : List (List ℕ)) (a : A) (m : Objects) (n : ℕ) → length ks < n → Fall o (begun ks a) m n
  fall_begun o [] a m n h = tt
  fall_begun o (k ∷ ks) a m n h = h

  fall_whole : (o : List ℕ) (b : Bool) (es : List PageEntry) (a : A) (m : Objects) (n : ℕ) → es ≡ all_below (prefix_of o) m → Most o m < n
      → Fall o (cond b (End (Err NotFound)) (begun (keys (prefix_of o) es) a)) m n
  fall_whole o true es a m n e h = tt
  fall_whole o false es a m n e h = fall_begun o (keys (prefix_of o) es) a m n (subst (λ es. length (keys (prefix_of o) es) < n) (sym e) h)

  fall_walked : (o : List ℕ) (v : Walked PageEntry) (m : Objects) (n : ℕ) → IsWalked (prefix_of o) m v → LessWalked (prefix_of o) m v n
      → Fall o (on_walked keys answer o v) m (n + Most o m)
  fall_walked o (More es) m n h g = omega (arith, g)
  fall_walked o (Whole es) m n h g = fall_whole o (is_absent o es) es (answer (prefix_of o) es) m (n + Most o m) h (omega (arith, g))

  fall_walk : (o : List ℕ) (z : Objects) (es : List PageEntry) → IsWalking (prefix_of o) z es
      → Fall o (on_walk keys answer o es (reply_in z (walk_asks (prefix_of o) es)) (fits (reply_in z (walk_asks (prefix_of o) es)))) z
      (Left o (Walk es) z)
  fall_walk o z es h =
      subst (λ b. Fall o (on_walk keys answer o es (reply_in z (walk_asks (prefix_of o) es)) b) z (Left o (Walk es) z))
      (sym (walk_fits (prefix_of o) es z))
      (fall_walked o (walked_entries es (reply_in z (walk_asks (prefix_of o) es))) z (walk_left (prefix_of o) es z)
      (walk_goes (prefix_of o) z es h) (walk_falls (prefix_of o) es z))

  fall_change : (o : List ℕ) (ks : List (List ℕ)) (n : ℕ) (a : A) (m : Objects) (b : Bool) → nat_lt batch (length (drop n ks)) ≡ b
      → n < length ks
      → Fall o (cond b (Next (Change ks (n + batch) a)) (End (Ok a))) m (length (drop n ks))
  fall_change o ks n a m true t l = let s = length-drop n ks in let r = length-drop (n + batch) ks in let p = w.some in omega
      (arith, s, r, p, l)
  fall_change o ks n a m false t l = tt

  falls : (o : List ℕ) (z : Objects) (x : ToolStage A) (m : Objects) → holds keys answer changed o z x m
      → Fall o (on keys answer batch o x (reply_in m (asks changes o x))) (edited (asks changes o x) m) (Left o x m)
  falls o z Here m h =
      subst (λ n. Fall o (on_key (key_if o) (look_of (reply_in m (look_asks o)))) n (Left o Here m)) (sym (still_look o m))
      (fall_key o (key_if o) (look_of (reply_in m (look_asks o))) m)
  falls o z (Walk es) m h = fall_walk o m es (subst (λ m. IsWalking (prefix_of o) m es) (sym h.0) h.2)
  falls o z (Change ks n a) m h = fall_change o ks n a (edited (changes (drop n ks)) m) (nat_lt batch (length (drop n ks))) refl h.3

  stages : IsStages {O = List ℕ} first (asks changes) (on keys answer batch) (holds keys answer changed) gives always (left keys)
  stages = record {
    begin = λ o z. refl;
    goes_on = λ o z x m h. step o z x m h;
    falls = λ o z x m h. falls o z x m h;
    stays = λ o z x m h. elim x as (λ x. Left o x (edited (asks changes o x) m) ≡ Left o x m)
        [ Here ↦ ap (Left o Here) (still_look o m) | _ ↦ refl ];
    during = λ o z x m h. during o z x m h;
    at_end = λ o z a m h. w.at_end o z a m h;
  }

  pub tool_laws : IsPhases {O = List ℕ} first (asks changes) (goes_by (on keys answer batch)) (holds keys answer changed) gives always
      (left keys) (Err NoSuchBucket)
  tool_laws = phases_of (Err NoSuchBucket) stages

  pub tool_asked : MayAsk {O = List ℕ} (asks changes) (holds keys answer changed) sends
  tool_asked o z Here m h = w.looks o z (look_asks o) (looks_there o)
  tool_asked o z (Walk es) m h = w.looks o z (walk_asks (prefix_of o) es) refl
  tool_asked o z (Change ks n a) m h = sent o z ks n (drop n ks) refl h.0 h.1 h.3
