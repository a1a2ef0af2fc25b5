-- A rename, stage by stage.
use Rattle.text_and_lists.proofs.Less.{irrefl}
use Rattle.text_and_lists.proofs.Members.{in_back, in_front}
use Rattle.text_and_lists.specs.Members.{IsIn}
use Rattle.text_and_lists.specs.Order.{text_cmp, text_total}
use Rattle.bucket_ops.proofs.Batches.{batch_goes, deleting_all}
use Rattle.bucket_ops.proofs.Below.{stands_below}
use Rattle.bucket_ops.proofs.Sweeps.{sweep_falls, sweep_fits, sweep_stays}
use Rattle.bucket_ops.proofs.Walks.{walk_falls, walk_fits, walk_goes}
use Rattle.bucket_ops.specs.Asks.{Ask, Put, edited, is_look, reply_in}
use Rattle.bucket_ops.specs.Looks.{look_of}
use Rattle.bucket_ops.specs.Phases.{IsPhases, MayAsk}
use Rattle.bucket_ops.specs.Sweeping.{IsDeleting, sweep_asks}
use Rattle.bucket_ops.specs.inner.Sweeping.{IsDeleted}
use Rattle.bucket_ops.specs.Walking.{IsWalking, fits, keys_below, walk_asks}
use Rattle.bucket_ops.specs.inner.Walking.{IsWalked}
use Rattle.bucket_ops.specs.declared.look.Look.{Look}
use Rattle.dir_markers.specs.Markers.{marker_of}
use Rattle.fs_ops.proofs.AtPathLaws.{look_still}
use Rattle.fs_ops.proofs.DeleteLaws.{parent_key}
use Rattle.fs_ops.proofs.StepLaws.{phases_of}
use Rattle.fs_ops.specs.Places.{key_if, prefix_of}
use Rattle.fs_rename.proofs.CopyLaws.{copy_of_one, copying_falls, copying_goes, is_source}
use Rattle.fs_rename.proofs.Placed.{all_found, dir_fit, dir_long, only_file, sources_to}
use Rattle.fs_rename.proofs.Seen.{Tells, TellsKind, inside_tells, place_tells}
use Rattle.fs_rename.proofs.Steps.{fall_all, fall_looked, fall_parent, fall_swept, fall_walked}
use Rattle.fs_rename.proofs.Told.{free_place, moves_from, no_root, stands, was_free_above}
use Rattle.fs_rename.specs.Copies.{copied_next, copy_asks, has_more}
use Rattle.fs_rename.specs.inner.Copies.{IsCopied, IsCopying, LessCopies, copied_all, copies_left, moves_of}
use Rattle.fs_rename.specs.inner.Copies.{sources}
use Rattle.fs_rename.specs.Keys.{new_keys}
use Rattle.fs_rename.specs.code.Meaning.{Asks, IsBatch, Moves}
use Rattle.fs_rename.specs.inner.Meaning.{Before, Begun, IsMoved, IsReady, IsSource, MayGo, NoFileIf, always, gives}
use Rattle.fs_rename.specs.inner.Meaning.{holds, left, path_at, sends}
use Rattle.fs_rename.specs.code.Rename.{Answer, Renaming, asks, begun as begun_at, file_to, first, found, go, inside_asks_if}
use Rattle.fs_rename.specs.inner.Rename.{goes, is_none}
use Rattle.fs_rename.specs.code.Rename.{look_at_asks, on_above, on_inside}
use Rattle.fs_rename.specs.inner.Rename.{is_root_at, kind_of, listed_to, looked, on, on_batch, on_copied}
use Rattle.fs_rename.specs.code.Rename.{on_source, one_copy}
use Rattle.fs_rename.specs.inner.Rename.{on_parent, on_walk, on_walked, seen_at, seen_inside, swept, up, up_to}
use Rattle.fs_rename.specs.inner.Rename.{with_places}
use Rattle.fs_rename.specs.declared.copying.CopyStep.{CopyStep}
use Rattle.fs_rename.specs.declared.copying.CopyStep.TheVariants.{All, Next as NextCopy}
use Rattle.fs_rename.specs.declared.copying.Copying.{Copying}
use Rattle.fs_rename.specs.declared.stages.Kind.{Kind}
use Rattle.fs_rename.specs.declared.stages.Kind.TheVariants.{Directory}
use Rattle.fs_rename.specs.declared.stages.RenameStage.{RenameStage}
use Rattle.fs_rename.specs.declared.stages.RenameStage.TheVariants.{Batch, Copy, Look as Looking, Parent, PutMarker, Walk}
use Rattle.fs_rename.specs.declared.stages.Spot.{Spot}
use Rattle.fs_tree.proofs.Above.{key_no_marker}
use Rattle.fs_tree.proofs.Begins.{begins_all, begins_marker, begins_trans, marker_at}
use Rattle.fs_tree.specs.Changes.{IsMarked, marker_if, parent}
use Rattle.fs_tree.specs.Moves.{AllFit, IsAtOrBelow, IsFirstTooLong, MayMove, inside, is_too_long}
use Rattle.fs_tree.specs.Renames.{Renames, RenamesPath}
use Rattle.fs_tree.specs.Tree.{HasFile, IsAbsent, IsDirectory, NoneBelow, marker}
use Rattle.fs_tree.specs.declared.rename.RenameRefusal.{RenameRefusal}
use Rattle.fs_tree.specs.declared.rename.RenameRefusal.TheVariants.{NoSuchBucket}
use Rattle.list_walk.specs.Walks.{Deleting, Listing, More, Walked, Whole, all_go, deleting, keys_on, sweep_hears}
use Rattle.operations.specs.Plans.{Falls, Goes}
use Rattle.operations.specs.declared.plan.Step.{Step}
use Rattle.path_keys.specs.Paths.{is_key}
use Rattle.s3_types.specs.Pages.{begins}
use Rattle.s3_types.specs.Store.{Objects}
use Rattle.s3_types.specs.declared.reply.PageEntry.{PageEntry}
use Rattle.std.proofs.Common.{ap, arith, inl, inr, refl, subst, sym, ◌∙◌}
use Rattle.std.proofs.lemmas.Bool.{false≢true}
use Rattle.std.proofs.lemmas.List.{append-nil, length-take, take-append-drop}
use Rattle.std.specs.Ordering.{is_lt}
use Rattle.std.specs.Prelude.{Bool, Err, List, None, Ok, Option, Result, Some, cond, drop, false, take, true, ℕ, [], ◌∷◌, ◌≡◌}
use Rattle.std.specs.FinMap as fin
use Rattle.list_walk.specs.Walks as walks

-- ---- a look changes nothing

looks_there : (o : Renaming) (s : Spot) (b : Bool) → is_look (look_at_asks o s b) ≡ true
looks_there o s b = grind arith

still : (o : Renaming) (s : Spot) (b : Bool) (m : Objects) → edited (look_at_asks o s b) m ≡ m
still o s b m = look_still (look_at_asks o s b) m (looks_there o s b)

module _ (x : ℕ) (p t : List ℕ) (z : Objects) where
  abbrev O : Renaming
  O = record { source = x ∷ p; target = t }

  abbrev On : Step RenameStage Answer → Objects → Type 0
  On y m = Goes (holds O z) (gives O z) y m

  may_move : (d : Bool) → Begun O z d → MayMove z (x ∷ p) t
  may_move d h = record { stands = stands d z x p h.source; apart = h.apart }

  -- ---- looks

  under_by : IsAtOrBelow (x ∷ p) t → begins (marker_of (x ∷ p)) (prefix_of t) ≡ true
  under_by h = grind (arith, begins_all, begins_trans, begins_marker)

  under_is : (t : List ℕ) → begins (marker_of (x ∷ p)) (prefix_of t) ≡ true → IsAtOrBelow (x ∷ p) t
  under_is [] b = absurd (false≢true b)
  under_is (y ∷ t) b = elim (marker_at (x ∷ p) (y ∷ t) b) [ inl e ↦ inl (sym e) | inr b ↦ inr b ]

  begins_at : (u d : Bool) → begins (marker_of (x ∷ p)) (prefix_of t) ≡ u → IsSource d z (x ∷ p) → On (begun_at u d) z
  begins_at true d e h = (stands d z x p h, under_is t e, refl)
  begins_at false d e h = (refl, record { source = h; apart = λ i. false≢true (sym e ∙ under_by i) }, tt)

  source_found : (k : Kind) → TellsKind z (x ∷ p) k → On (on_source O false k) z
  source_found k h = grind (arith, begins_at)

  -- ---- the file's own key, or the keys below the directory

  -- only the file's own key is moved
  one_fit : (q : List ℕ) → is_too_long q ≡ false → HasFile z (x ∷ p) → AllFit z (x ∷ p) q
  one_fit q f h k l i = ap is_too_long (only_file z x p q h k l i).1 ∙ f

  one_long : (q : List ℕ) → is_too_long q ≡ true → HasFile z (x ∷ p) → IsFirstTooLong z (x ∷ p) q (x ∷ p)
  one_long q f h = record {
    new = q;
    moves = inl (h, refl, refl);
    long = f;
    first = λ j l i less. absurd (false≢true (sym (irrefl text_total (x ∷ p)) ∙ ap (λ v. is_lt (text_cmp v (x ∷ p)))
        (sym (only_file z x p q h j l i).0) ∙ less));
  }

  file_goes : (i : Bool) (q : List ℕ) → IsReady O z false i q → On (file_to O (Some q)) z
  file_goes i q h = by (is_too_long q) refl
    where
      by : (b : Bool) → is_too_long q ≡ b → On (one_copy (Some (x ∷ p)) (cond b None (Some q))) z
      by true e = ((q, record { source = may_move false h.begun; place = h.place; free = h.free }, one_long q e h.begun.source), refl)
      by false e = (
        false,
        i,
        q,
        record { ready = h; fit = one_fit q e h.begun.source },
        record
            { keys = refl; places = refl; some = omega arith; copied = refl },
      )

  goes_to : (d i : Bool) (q : List ℕ) → IsReady O z d i q → On (go O d i) z
  goes_to true i q h = (refl, (q, h), refl)
  goes_to false i q h = subst (λ v. On (file_to O v) z) (sym h.at) (file_goes i q h)

  some_target : (t : List ℕ) → IsAbsent z t → key_if t ≡ Some t
  some_target t h = grind arith

  inside_found : (d : Bool) (k : Kind) → Begun O z d → IsDirectory z t → TellsKind z (inside (x ∷ p) t) k → On (on_inside O d k) z
  inside_found d k h g e = grind (arith, may_move, goes_to, some_target)

  above_found : (d : Bool) (k : Kind) → Begun O z d → IsAbsent z t → TellsKind z (parent t) k → On (on_above O d k) z
  above_found d Directory b n h = goes_to d false t (record { begun = b; place = inr (n, h, refl); free = n; at = some_target t n })
  above_found d _ b n h = (may_move d b, n, h, refl)

  kind_found : (s : Spot) (d : Bool) (k : Kind) → Before O z s d → TellsKind z (path_at O s) k → On (found O s d k) z
  kind_found s d k h g = grind (arith, source_found, TellsKind, may_move, inside_found, above_found)

  look_goes : (s : Spot) (d : Bool) (k : Option Kind) → Before O z s d → Tells z (path_at O s) k → On (looked O s d k) z
  look_goes s d (Some k) b h = kind_found s d k b h
  look_goes s d None b h = (refl, b, h)

  -- ---- the walk

  some_listed : IsSource true z (x ∷ p) → keys_below (marker_of (x ∷ p)) z ≡ [] → ⊥
  some_listed h e = subst (IsIn h.1.0) e (stands_below x (marker_of p) z h.1.0 h.1.2 h.1.1 h.1.3)

  placed : (i : Bool) (y : ℕ) (q : List ℕ) → IsReady O z true i (y ∷ q) → (keys : List (List ℕ)) → keys ≡ keys_below (marker_of (x ∷ p)) z
      → (r : Result (List (List ℕ)) (List ℕ)) → new_keys (marker_of (x ∷ p)) (marker_of (y ∷ q)) keys ≡ r → On (with_places keys r) z
  placed i y q h keys e (Err k) f = (
    (
      y ∷ q,
      record { source = may_move true h.begun; place = h.place; free = h.free },
      dir_long z x p y q k h.begun.source
          (ap (new_keys (marker_of (x ∷ p)) (marker_of (y ∷ q))) (sym e) ∙ f),
    ),
    refl,
  )
  placed i y q h [] e (Ok ls) f = absurd (some_listed h.begun.source (sym e))
  placed i y q h (k ∷ ks) e (Ok ls) f =
      let w = all_found (marker_of (x ∷ p)) (marker_of (y ∷ q)) (keys_below (marker_of (x ∷ p)) z) ls
      (ap (new_keys (marker_of (x ∷ p)) (marker_of (y ∷ q))) (sym e) ∙ f) in (
        true,
        i,
        y ∷ q,
        record { ready = h; fit = dir_fit z x p y q h.begun.source w.1 },
        record {
          keys = e ∙ sym (sources_to (marker_of (x ∷ p)) (marker_of (y ∷ q)) (keys_below (marker_of (x ∷ p)) z));
          places = w.0;
          some = omega arith;
          copied = refl;
        },
      )

  walk_to : (i : Bool) (q : List ℕ) → IsReady O z true i q → (keys : List (List ℕ)) → keys ≡ keys_below (marker_of (x ∷ p)) z
      → On (listed_to O (Some q) keys) z
  walk_to i [] h keys e = absurd h.free
  walk_to i (y ∷ q) h keys e = placed i y q h keys e (new_keys (marker_of (x ∷ p)) (marker_of (y ∷ q)) keys) refl

  walked_on : (i : Bool) (q : List ℕ) → IsReady O z true i q → (w : Walked PageEntry) → IsWalked (marker_of (x ∷ p)) z w
      → On (on_walked O i w) z
  walked_on i q h (More found) w = (refl, (q, h), w)
  walked_on i q h (Whole found) w = subst (λ v. On (listed_to O v (keys_on found)) z) (sym h.at)
      (walk_to i q h (keys_on found) (ap keys_on w))

  walking : (i : Bool) (q : List ℕ) (found : List PageEntry) → IsReady O z true i q → IsWalking (marker_of (x ∷ p)) z found
      → On (on_walk O i found (reply_in z (walk_asks (marker_of (x ∷ p)) found)) (fits (reply_in z (walk_asks (marker_of (x ∷ p)) found))))
      z
  walking i q found h g = grind (arith, walk_fits, walked_on, walk_goes)

  -- ---- the copies, the batches and the marker

  upward : (m : Objects) → IsMoved O z m → On (up O) m
  upward m h = by (marker_if (parent (x ∷ p))) refl
    where
      by : (u : Option (List ℕ)) → marker_if (parent (x ∷ p)) ≡ u → On (up_to u) m
      by None e = (m, h, subst (λ u. IsMarked u m m) (sym e) refl)
      by (Some k) e = (e, h)

  batches : (d i : Bool) (q : List ℕ) → MayGo O z d i q → (w : Option walks.Sweep) (m : Objects)
      → IsDeleted (copied_all z (moves_of d (x ∷ p) q z)) (sources (moves_of d (x ∷ p) q z)) w m → On (swept O w) m
  batches d i q g (Some w) m h = (d, i, q, g, h)
  batches d i q g None m h = upward m (d, i, q, g, h)

  copied_on : (d i : Bool) (q : List ℕ) → MayGo O z d i q → (c : CopyStep) (m : Objects) → IsCopied z (moves_of d (x ∷ p) q z) c m
      → On (on_copied O c) m
  copied_on d i q g (NextCopy c) m h = (d, i, q, g, h)
  copied_on d i q g (All ks) m h =
      batches d i q g (deleting ks) m
      (subst (λ m. IsDeleted (copied_all z (moves_of d (x ∷ p) q z)) (sources (moves_of d (x ∷ p) q z)) (deleting ks) m) (sym h.1)
      (deleting_all (copied_all z (moves_of d (x ∷ p) q z)) (sources (moves_of d (x ∷ p) q z)) ks h.0))

  batch_on : (d i : Bool) (q : List ℕ) → MayGo O z d i q → (w : walks.Sweep) (m : Objects)
      → IsDeleted (copied_all z (moves_of d (x ∷ p) q z)) (sources (moves_of d (x ∷ p) q z)) (Some w) m
      → On (on_batch O w (reply_in m (sweep_asks (marker_of (x ∷ p)) w)) (fits (reply_in m (sweep_asks (marker_of (x ∷ p)) w))))
      (edited (sweep_asks (marker_of (x ∷ p)) w) m)
  batch_on d i q g (Listing keys) m h = absurd h
  batch_on d i q g (Deleting k ks) m h =
      subst (λ b. On (on_batch O (Deleting k ks) (reply_in m (sweep_asks (marker_of (x ∷ p)) (Deleting k ks))) b)
      (edited (sweep_asks (marker_of (x ∷ p)) (Deleting k ks)) m)) (sym (sweep_fits (marker_of (x ∷ p)) (Deleting k ks) m))
      (batches d i q g (deleting (drop 1000 (k ∷ ks))) (edited (sweep_asks (marker_of (x ∷ p)) (Deleting k ks)) m)
      (batch_goes (copied_all z (moves_of d (x ∷ p) q z)) (sources (moves_of d (x ∷ p) q z)) (k ∷ ks) m h))

  -- ---- each stage

  tells_inside : (u : List ℕ) (b : Bool) → NoFileIf b z u
      → Tells z u (kind_of (is_none (key_if u)) b (seen_inside (key_if u) b (reply_in z (inside_asks_if O (key_if u) b))))
  tells_inside [] b n = (tt, tt)
  tells_inside (y ∷ q) b n = inside_tells z y q b n

  stage_look : (s : Spot) (b d : Bool) → Before O z s d → NoFileIf b z (path_at O s)
      → On (on O (Looking s b d) (reply_in z (look_at_asks O s b))) z
  stage_look s b d h g = grind (arith, look_goes, place_tells, tells_inside)

  step : (s : RenameStage) (m : Objects) → holds O z s m → On (on O s (reply_in m (asks O s))) (edited (asks O s) m)
  step (Looking s b d) m h =
      subst (On (on O (Looking s b d) (reply_in m (look_at_asks O s b)))) (sym (still O s b m))
      (subst (λ m. On (on O (Looking s b d) (reply_in m (look_at_asks O s b))) m) (sym h.0) (stage_look s b d h.1 h.2))
  step (Walk i found) m h =
      subst (λ m. On (on_walk O i found (reply_in m (walk_asks (marker_of (x ∷ p)) found))
      (fits (reply_in m (walk_asks (marker_of (x ∷ p)) found)))) m) (sym h.0) (walking i h.1.0 found h.1.1 h.2)
  step (Copy c) m h = copied_on h.0 h.1 h.2 h.3 (copied_next (has_more c) c) (edited (copy_asks c) m)
      (copying_goes z (moves_of h.0 (x ∷ p) h.2 z) c m h.4)
  step (Batch w) m h = batch_on h.0 h.1 h.2 h.3 w m h.4
  step (Parent k) m h = parent_key (λ l. On (on_parent k l) m) (parent (x ∷ p)) k m h.0
      (λ s. (m, h.1, subst (λ u. IsMarked u m m) (sym h.0) (inl (s, refl)))) (λ n. (h.0, h.1, n))
  step (PutMarker k) m h = (m, h.1, subst (λ u. IsMarked u m (fin.insert m k marker)) (sym h.0) (inr (h.2, refl)))

-- ---- at the root

root_step : (t : List ℕ) (z : Objects) (s : RenameStage) (m : Objects) → holds (record { source = []; target = t }) z s m
    → Goes (holds (record { source = []; target = t }) z) (gives (record { source = []; target = t }) z)
    (on (record { source = []; target = t }) s (reply_in m (asks (record { source = []; target = t }) s)))
    (edited (asks (record { source = []; target = t }) s) m)
root_step t z s m h = grind arith

steps : (p t : List ℕ) (z : Objects) (s : RenameStage) (m : Objects) → holds (record { source = p; target = t }) z s m
    → Goes (holds (record { source = p; target = t }) z) (gives (record { source = p; target = t }) z)
    (on (record { source = p; target = t }) s (reply_in m (asks (record { source = p; target = t }) s)))
    (edited (asks (record { source = p; target = t }) s) m)
steps [] t z s m h = root_step t z s m h
steps (x ∷ p) t z s m h = step x p t z s m h

-- ---- the number of requests that are left

-- After no file was seen, the look below a path shows what exists.
told : (r b : Bool) (l : Look) → b ≡ true → kind_of r b l ≡ None → ⊥
told r b l h g = grind arith

falls_walk : (o : Renaming) (i : Bool) (found : List PageEntry) (m : Objects)
    → Falls (left o) (on o (Walk i found) (reply_in m (asks o (Walk i found)))) m (left o (Walk i found) m)
falls_walk o i found m = grind (arith, walk_fits, fall_walked, walk_falls)

falls_batch : (o : Renaming) (w : walks.Sweep) (m : Objects)
    → Falls (left o) (on o (Batch w) (reply_in m (asks o (Batch w)))) (edited (asks o (Batch w)) m) (left o (Batch w) m)
falls_batch o w m =
    subst (λ b. Falls (left o) (on_batch o w (reply_in m (sweep_asks (prefix_of o.source) w)) b)
    (edited (sweep_asks (prefix_of o.source) w) m) (left o (Batch w) m)) (sym (sweep_fits (prefix_of o.source) w m))
    (fall_swept o (edited (sweep_asks (prefix_of o.source) w) m) (sweep_hears all_go w (reply_in m (sweep_asks (prefix_of o.source) w))) _
    (sweep_falls (prefix_of o.source) w m))

falls_copied : (o : Renaming) (c : Copying) (m : Objects) (b : Bool) → LessCopies (copied_next b c) (copies_left c)
    → Falls (left o) (on_copied o (copied_next b c)) m (left o (Copy c) m)
falls_copied o c m true h = omega (arith, h)
falls_copied o c m false h = fall_all o m c.keys _ (omega arith)

falls : (o : Renaming) (z : Objects) (s : RenameStage) (m : Objects) → holds o z s m
    → Falls (left o) (on o s (reply_in m (asks o s))) (edited (asks o s) m) (left o s m)
falls o z (Looking s b d) m h =
    subst (λ n. Falls (left o) (on o (Looking s b d) (reply_in m (look_at_asks o s b))) n (left o (Looking s b d) m)) (sym (still o s b m))
    (fall_looked o m s d b (kind_of (is_root_at o s) b (seen_at o s b (reply_in m (look_at_asks o s b))))
    (told (is_root_at o s) b (seen_at o s b (reply_in m (look_at_asks o s b)))))
falls o z (Walk i found) m h = falls_walk o i found m
falls o z (Copy c) m h = falls_copied o c (edited (copy_asks c) m) (has_more c) (copying_falls c h.4.some)
falls o z (Batch w) m h = falls_batch o w m
falls o z (Parent k) m h = fall_parent o m k (look_of (reply_in m (asks o (Parent k))))
falls o z (PutMarker k) m h = tt

stays : (o : Renaming) (s : RenameStage) (m : Objects) → left o s (edited (asks o s) m) ≡ left o s m
stays o s m = grind (arith, still, sweep_stays)

-- ---- at every point

deleted_way : (o : Renaming) (z : Objects) (d i : Bool) (q : List ℕ) (w : walks.Sweep) (m : Objects) → MayGo o z d i q
    → IsDeleted (copied_all z (moves_of d o.source q z)) (sources (moves_of d o.source q z)) (Some w) m → always o z m
deleted_way o z d i q w m h g = grind arith

moved_way : (o : Renaming) (z m : Objects) → IsMoved o z m → always o z m
moved_way o z m h = inr (
  h.0,
  h.1,
  h.2,
  h.3,
  inr (inl (
    [],
    (sources (moves_of h.0 o.source h.2 z), append-nil (sources (moves_of h.0 o.source h.2 z)), h.4),
  )),
)

during : (o : Renaming) (z : Objects) (s : RenameStage) (m : Objects) → holds o z s m → always o z m
during o z (Copy c) m h = inr (h.0, h.1, h.2, h.3, inl (c.from, h.4.copied))
during o z (Batch w) m h = deleted_way o z h.0 h.1 h.2 w m h.3 h.4
during o z (Parent k) m h = moved_way o z m h.1
during o z (PutMarker k) m h = moved_way o z m h.1
during o z _ m h = inl h.0

-- A refused rename changes nothing.
refused : (x : ℕ) (p t : List ℕ) (z m : Objects) (r : RenameRefusal) → RenamesPath (x ∷ p) t z (Err r) m → m ≡ z
refused x p t z m r h = grind arith

refused_at : (p t : List ℕ) (z m : Objects) (r : RenameRefusal) → Renames p t z (Err r) m → m ≡ z
refused_at p t z m r h = grind arith

at_end : (o : Renaming) (z : Objects) (a : Answer) (m : Objects) → gives o z a m → always o z m
at_end o z (Ok x) m h = inr (h.1.0, h.1.1, h.1.2, h.1.3, inr (inr (subst (λ n. IsMarked (marker_if (parent o.source)) n m) h.1.4 h.2)))
at_end o z (Err r) m h = inl (refused_at o.source o.target z m r h)

-- ---- the laws

pub rename_laws : IsPhases {O = Renaming} first asks goes holds gives always left (Err NoSuchBucket)
rename_laws = phases_of (Err NoSuchBucket) (record {
  begin = λ o z. (refl, tt, tt);
  goes_on = λ o z s m h. steps o.source o.target z s m h;
  falls = falls;
  stays = λ o z s m h. stays o s m;
  during = during;
  at_end = at_end;
})

-- ---- the requests

module _ (x : ℕ) (p t : List ℕ) (z : Objects) where
  abbrev A : Renaming
  A = record { source = x ∷ p; target = t }

  -- on the way to its new place
  on_way : (d i : Bool) (q : List ℕ) → MayGo A z d i q → (a : Ask) → Moves A z q a → Asks A z a
  on_way d i q g a h = inr (q, free_place x p t z d i q g, g.fit, h)

  copy_asked : (d i : Bool) (q : List ℕ) → MayGo A z d i q → (c : Copying) (m : Objects) → IsCopying z (moves_of d (x ∷ p) q z) c m
      → Asks A z (copy_asks c)
  copy_asked d i q g c m h =
      let w = copy_of_one z (moves_of d (x ∷ p) q z) c m h in
      on_way d i q g (copy_asks c) (inl (w.0, w.1, w.2, moves_from x p t z d i q g w.0 w.1 w.3))

  taken : (n : ℕ) (ls : List (List ℕ)) (j : List ℕ) → IsIn j (take n ls) → IsIn j ls
  taken n ls j i = subst (IsIn j) (take-append-drop n ls) (in_front j (take n ls) (drop n ls) i)

  batch_of : (d i : Bool) (q : List ℕ) → MayGo A z d i q → (k : List ℕ) (ks : List (List ℕ)) (n m : Objects)
      → IsDeleting n (sources (moves_of d (x ∷ p) q z)) (k ∷ ks) m
      → IsBatch A z q (take 1000 (k ∷ ks))
  batch_of d i q g k ks n m h = record {
    few = omega (arith, length-take 1000 (k ∷ ks));
    each = λ j e.
        let w = is_source (moves_of d (x ∷ p) q z) j (subst (IsIn j) h.1 (in_back j h.0 (k ∷ ks) (taken 1000 (k ∷ ks) j e))) in
        (w.0, moves_from x p t z d i q g j w.0 w.1);
  }

  batch_asked : (d i : Bool) (q : List ℕ) → MayGo A z d i q → (w : walks.Sweep) (n m : Objects)
      → IsDeleted n (sources (moves_of d (x ∷ p) q z)) (Some w) m
      → Asks A z (sweep_asks (marker_of (x ∷ p)) w)
  batch_asked d i q g (Listing keys) n m h = absurd h
  batch_asked d i q g (Deleting k ks) n m h =
      on_way d i q g (sweep_asks (marker_of (x ∷ p)) (Deleting k ks)) (inr (inl (k, take 999 ks, refl, batch_of d i q g k ks n m h)))

  asked_at : is_key (x ∷ p) ≡ true → (s : RenameStage) (m : Objects) → holds A z s m → Asks A z (asks A s)
  asked_at key (Looking s b d) m h = inl (looks_there A s b)
  asked_at key (Copy c) m h = copy_asked h.0 h.1 h.2 h.3 c m h.4
  asked_at key (Batch w) m h = batch_asked h.0 h.1 h.2 h.3 w (copied_all z (moves_of h.0 (x ∷ p) h.2 z)) m h.4
  asked_at key (PutMarker k) m h =
      let v = h.1 in
      on_way v.0 v.1 v.2 v.3 (Put k [])
      (inr (inr (k, refl, h.0, was_free_above x p t z v.0 v.1 v.2 k (key_no_marker x p key) v.3 h.0 (subst (λ n. NoneBelow n k) v.4 h.2))))
  asked_at key _ m h = inl refl

asked_root : (t : List ℕ) (z : Objects) (s : RenameStage) (m : Objects) → holds (record { source = []; target = t }) z s m
    → Asks (record { source = []; target = t }) z (asks (record { source = []; target = t }) s)
asked_root t z (Looking s b d) m h = inl (looks_there (record { source = []; target = t }) s b)
asked_root t z (Copy c) m h = absurd (no_root h.0 z h.3.ready.begun.source)
asked_root t z (Batch w) m h = absurd (no_root h.0 z h.3.ready.begun.source)
asked_root t z (PutMarker k) m h = absurd (no_root h.1.0 z h.1.3.ready.begun.source)
asked_root t z _ m h = inl refl

asked_by : (p t : List ℕ) (z : Objects) (s : RenameStage) (m : Objects) → holds (record { source = p; target = t }) z s m → is_key p ≡ true
    → Asks (record { source = p; target = t }) z (asks (record { source = p; target = t }) s)
asked_by [] t z s m h key = asked_root t z s m h
asked_by (x ∷ p) t z s m h key = asked_at x p t z key s m h

pub rename_asked : MayAsk {O = Renaming} asks holds sends
rename_asked o z s m h key = asked_by o.source o.target z s m h key
