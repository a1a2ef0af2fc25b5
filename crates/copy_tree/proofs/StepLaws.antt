-- A copy goes on, stage by stage.
use Rattle.text_and_lists.proofs.Less.{irrefl, lt, lt_not}
use Rattle.text_and_lists.proofs.Members.{false_true, none_or_some, none_some, some_is, text_is, text_true}
use Rattle.text_and_lists.specs.Members.{IsIn, RisesFrom}
use Rattle.text_and_lists.specs.Order.{text_cmp, text_eq, text_total}
use Rattle.bucket_ops.proofs.Walks.{walk_begins, walk_fits, walk_goes}
use Rattle.bucket_ops.specs.Asks.{edited, is_look, reply_in}
use Rattle.bucket_ops.specs.Looks.{look_of}
use Rattle.bucket_ops.specs.Walking.{IsWalking, all_below, fits, keys_below, walk_asks}
use Rattle.bucket_ops.specs.inner.Walking.{IsWalked}
use Rattle.copy_tree.proofs.MoveLaws.{absent_each, standing_each, standing_has, standing_rise, tree_copied}
use Rattle.copy_tree.proofs.Moved.{moved_rest}
use Rattle.copy_tree.proofs.PartLaws.{chosen_sources, chosen_targets}
use Rattle.copy_tree.specs.code.Copy.{Answer, CopyPaths, asks, climb}
use Rattle.copy_tree.specs.inner.Copy.{begun, compared, copies, count_of, differ, here as here_at, listed}
use Rattle.copy_tree.specs.inner.Copy.{on, on_climb, on_compare, on_copied, on_read, on_show, on_shown, on_walk, on_walked, pairs, parts_of}
use Rattle.copy_tree.specs.code.Copy.{read_of}
use Rattle.copy_tree.specs.inner.Copy.{same_header, with_places}
use Rattle.copy_tree.specs.code.Meaning.{sends}
use Rattle.copy_tree.specs.inner.Meaning.{IsComparing, IsPlaced, StandsFirst, absent, all_parts, gives, holds, moves, standing}
use Rattle.copy_tree.specs.declared.stages.CopyStage.{CopyStage}
use Rattle.copy_tree.specs.declared.stages.CopyStage.TheVariants.{Copy, Here, Source, Target, Up, Walk, WalkTarget}
use Rattle.copy_tree.specs.declared.stages.Parts.{Parts}
use Rattle.dir_markers.specs.Markers.{marker_of}
use Rattle.fs_ops.proofs.Climbing.{IsClimbed, all_on, seen_on as climb_on}
use Rattle.fs_ops.proofs.Looks.{first_listed, head_tells, none_listed}
use Rattle.fs_ops.specs.code.Climbs.{climbed, climbing}
use Rattle.fs_ops.specs.declared.climb.Climbed.{Climbed}
use Rattle.fs_rename.proofs.CopyLaws.{copy_of_one, copying_goes, in_sources, in_targets, one_in_drop, some_left}
use Rattle.fs_rename.proofs.Placed.{all_found, dir_fit, dir_long, sources_to}
use Rattle.fs_rename.specs.Copies.{copied_next, copy_asks, copy_of, has_more}
use Rattle.fs_rename.specs.inner.Copies.{IsCopied, IsCopying, IsOneOf, Move, copied_all, sources}
use Rattle.fs_rename.specs.inner.Copies.{targets}
use Rattle.fs_rename.specs.Keys.{new_keys}
use Rattle.fs_rename.specs.declared.copying.CopyStep.{CopyStep}
use Rattle.fs_rename.specs.declared.copying.Copying.{Copying}
use Rattle.fs_tree.specs.Copies.{CopiesTree, HasPlace, HasSource, IsFirstOther, IsOverlap, MayCopy}
use Rattle.fs_tree.specs.Moves.{IsMove}
use Rattle.fs_tree.specs.Tree.{Stands}
use Rattle.fs_tree.specs.declared.copy.CopyCount.{CopyCount}
use Rattle.list_walk.specs.Walks.{More, Walked, Whole, keys_on, walked_entries}
use Rattle.operations.specs.Plans.{Goes}
use Rattle.operations.specs.declared.plan.Step.{Step}
use Rattle.operations.specs.declared.plan.Step.TheVariants.{Next}
use Rattle.s3_types.specs.Answer.{found, head}
use Rattle.s3_types.specs.Pages.{begins}
use Rattle.s3_types.specs.Store.{Objects}
use Rattle.s3_types.specs.declared.object.Object.{Object}
use Rattle.s3_types.specs.declared.reply.PageEntry.{PageEntry}
use Rattle.std.proofs.Common.{ap, arith, inl, inr, refl, subst, sym, ◌∙◌}
use Rattle.std.proofs.lemmas.Bool.{and_from, and_parts, ltb-false, ltb-true}
use Rattle.std.proofs.lemmas.List.{drop-map, length-drop, length-map}
use Rattle.std.specs.Ordering.{is_lt}
use Rattle.std.specs.Prelude.{Bool, Err, List, None, Ok, Option, Result, Some, cond, drop, false, length, nat_lt, suc, true, zero, ℕ, []}
use Rattle.std.specs.Prelude.{◌&&◌, ◌++◌, ◌+◌, ◌<◌, ◌||◌, ◌∷◌, ◌≡◌, ◌≤◌, ◌⊎◌}
use Rattle.store_frame.proofs.Flat.{behind}
use Rattle.std.specs.FinMap as fin

-- ---- lists of moves

behind_one : (n : ℕ) (ps : List Move) (s : Move) (rest : List Move) → drop n ps ≡ s ∷ rest → drop (suc n) ps ≡ rest
behind_one zero (r ∷ ps) s rest e = cc
behind_one (suc n) (r ∷ ps) s rest e = behind_one n ps s rest e
behind_one _ _ s rest e = absurd (cc)

none_in : (ps : List Move) (k l : List ℕ) → length ps ≤ 0 → IsOneOf k l ps → ⊥
none_in [] k l h i = i
none_in (s ∷ ps) k l h i = absurd (omega (arith, h))

no_moves : (ps : List Move) → sources ps ≡ [] → ps ≡ []
no_moves [] e = refl
no_moves (s ∷ ps) e = absurd (cc)

some_moves : (ps : List Move) (k : List ℕ) (ks : List (List ℕ)) → sources ps ≡ k ∷ ks → 0 < length ps
some_moves [] k ks e = absurd (cc)
some_moves (s ∷ ps) k ks e = omega arith

rises_behind : (n : ℕ) (b : List ℕ) (ks : List (List ℕ)) → RisesFrom b ks → (c : List ℕ) × RisesFrom c (drop n ks)
rises_behind zero b ks h = (b, h)
rises_behind (suc n) b [] h = (b, tt)
rises_behind (suc n) b (k ∷ ks) h = rises_behind n k ks h.1

-- ---- objects that are the same

header_is : (h g : Option ℕ) → same_header h g ≡ true → h ≡ g
header_is h g e = grind arith

header_true : (h g : Option ℕ) → h ≡ g → same_header h g ≡ true
header_true h g e = grind arith

pub reads : (ks : List (List ℕ)) → is_look (read_of ks) ≡ true
reads ks = grind arith

module _ (z : Objects) (x : ℕ) (p : List ℕ) (y : ℕ) (t : List ℕ) where
  abbrev O : CopyPaths
  O = record { source = x ∷ p; target = y ∷ t }

  -- what holds after a step
  abbrev On : Step CopyStage Answer → Objects → Type 0
  On s m = Goes (holds O z) (gives O z) s m

  -- ---- the copies

  may_copy : IsPlaced O z → ((k l : List ℕ) → IsOneOf k l (standing O z) → fin.get z l ≡ fin.get z k) → MayCopy z (x ∷ p) (y ∷ t)
  may_copy h a = record { place = h.place; fit = h.fit; agree = λ k l m. by k l m (none_or_some (fin.get z l)) }
    where
      by : (k l : List ℕ) → IsMove z (x ∷ p) (y ∷ t) k l → (fin.get z l ≡ None) ⊎ ((v : Object) × (fin.get z l ≡ Some v))
          → (fin.get z l ≡ None) ⊎ (fin.get z l ≡ fin.get z k)
      by k l m (inl n) = inl n
      by k l m (inr s) = inr (a k l (standing_has z x p y t h.place.source.directory k l m s))

  copies_on : (c : CopyCount) → c ≡ count_of (all_parts O z) → MayCopy z (x ∷ p) (y ∷ t) → (ks ls : List (List ℕ))
      → ks ≡ sources (absent O z) → ls ≡ targets (absent O z) → On (copies c ks ls) z
  copies_on c e h [] ls f g = (
    h,
    subst (λ (c : CopyCount). CopiesTree (x ∷ p) (y ∷ t) z c z) (sym e)
        (subst (λ ps. CopiesTree (x ∷ p) (y ∷ t) z (count_of (all_parts O z)) (copied_all z ps)) (no_moves (absent O z) (sym f))
        (tree_copied z x p y t h.place.source.directory h)),
  )
  copies_on c e h (k ∷ ks) ls f g = (h, e, record { keys = f; places = g; some = omega arith; copied = refl })

  begun_on : (c : Parts) → c ≡ all_parts O z → MayCopy z (x ∷ p) (y ∷ t) → On (begun c) z
  begun_on c e h = copies_on (count_of c) (ap count_of e) h c.keys c.places (ap (λ (c : Parts). c.keys) e) (ap (λ (c : Parts). c.places) e)

  copied_on : (c : CopyStep) (n : CopyCount) (m : Objects) → MayCopy z (x ∷ p) (y ∷ t) → n ≡ count_of (all_parts O z)
      → IsCopied z (absent O z) c m → On (on_copied n c) m
  copied_on c n m h g e = grind (arith, tree_copied)

  -- ---- the pairs of which both exist

  pairs_on : (c : Parts) → c ≡ all_parts O z → IsPlaced O z → (r : List (List ℕ)) → c.stood ≡ r → On (pairs c r) z
  pairs_on c e h [] f =
      begun_on c e (may_copy h (λ k l i. absurd (subst (IsIn k) (sym (ap (λ (c : Parts). c.stood) e) ∙ f)
      (in_sources (standing O z) k l i))))
  pairs_on c e h (k ∷ ks) f = (
    refl,
    record {
      placed = h;
      parts = e;
      some = some_moves (standing O z) k ks (sym (ap (λ (c : Parts). c.stood) e) ∙ f);
      agree = λ k l i. inr i;
    },
  )

  module _ (c : Parts) (n : ℕ) (h : IsComparing O z c n) (s : Move) (rest : List Move) (e : drop n (standing O z) ≡ s ∷ rest) where
    stood_is : drop n c.stood ≡ s.0 ∷ sources rest
    stood_is = ap (λ (c : Parts). drop n c.stood) h.parts ∙ drop-map (λ (p : Move). p.0) n (standing O z) ∙ ap sources e

    stood_at_is : drop n c.stood_at ≡ s.1 ∷ targets rest
    stood_at_is = ap (λ (c : Parts). drop n c.stood_at) h.parts ∙ drop-map (λ (p : Move). p.1) n (standing O z) ∙ ap targets e

    here_one : IsOneOf s.0 s.1 (standing O z)
    here_one = one_in_drop n (standing O z) s.0 s.1 (subst (IsOneOf s.0 s.1) (sym e) (inl (refl, refl)))

    is_moved : IsMove z (x ∷ p) (y ∷ t) s.0 s.1 × Stands z s.1
    is_moved = standing_each z x p y t h.placed.place.source.directory s.0 s.1 here_one

    read_one : On (on_read c n (found (fin.get z s.0))) z
    read_one = by (fin.get z s.0) refl
      where
        by : (o : Option Object) → fin.get z s.0 ≡ o → On (on_read c n (found o)) z
        by None f = absurd (none_some f (moved_rest x p y t z s.0 s.1 h.placed.place.source.directory is_moved.0).0.1)
        by (Some v) f = (refl, h, subst (λ r. StandsFirst z r v.bytes v.header) (sym stood_is) f)

    -- each pair agrees or comes after this one
    agree_on : fin.get z s.1 ≡ fin.get z s.0 → (k l : List ℕ) → IsOneOf k l (standing O z) → (fin.get z l ≡ fin.get z k) ⊎ IsOneOf k l rest
    agree_on g k l i = elim (h.agree k l i) [
      | inl f ↦ inl f
      | inr j ↦ elim (subst (IsOneOf k l) e j) [ inl f ↦ inl (ap (fin.get z) f.1 ∙ g ∙ sym (ap (fin.get z) f.0)) | inr j ↦ inr j ]
    ]

    count_is : length (drop n c.stood) ≡ suc (length rest)
    count_is = ap length stood_is ∙ ap suc (length-map rest (λ (p : Move). p.0))

    more : 1 < length (drop n c.stood) → n + 1 < length (standing O z)
    more l =
        let b : length (drop n (standing O z)) ≡ suc (length rest) = ap length e in
        omega (arith, l, count_is, b, length-drop n (standing O z))

    agreed_by : fin.get z s.1 ≡ fin.get z s.0 → (b : Bool) → nat_lt 1 (length (drop n c.stood)) ≡ b
        → On (cond b (Next (Source c (n + 1))) (begun c)) z
    agreed_by g true f =
        let one : suc n ≡ n + 1 = omega arith in
        let next : drop (n + 1) (standing O z) ≡ rest = ap (λ i. drop i (standing O z)) (sym one) ∙ behind_one n (standing O z) s
        rest e in (
          refl,
          record {
            placed = h.placed;
            parts = h.parts;
            some = more (ltb-true 1 (length (drop n c.stood)) f);
            agree = λ k l i. subst (λ r. (fin.get z l ≡ fin.get z k) ⊎ IsOneOf k l r) (sym next) (agree_on g k l i);
          },
        )
    agreed_by g false f = begun_on c h.parts (may_copy h.placed (λ k l i. elim (agree_on g k l i)
        [ inl a ↦ a | inr j ↦ absurd (none_in rest k l none j) ]))
      where
        none : length rest ≤ 0
        none = let a = count_is in let l = ltb-false 1 (length (drop n c.stood)) f in omega (arith, a, l)

    -- the first that differs
    first_other : (fin.get z s.1 ≡ fin.get z s.0 → ⊥) → IsFirstOther z (x ∷ p) (y ∷ t) s.1
    first_other f = record {
      key = s.0;
      moves = is_moved.0;
      other = (is_moved.1, f);
      first = λ j i m less. by j i m less (none_or_some (fin.get z i));
    }
      where
        rest_rises : RisesFrom s.1 (targets rest)
        rest_rises =
            let w = rises_behind n [] (targets (standing O z)) (standing_rise z x p y t) in
            (subst (RisesFrom w.0) (drop-map (λ (p : Move). p.1) n (standing O z) ∙ ap targets e) w.1).1

        at : (j i : List ℕ) → is_lt (text_cmp i s.1) ≡ true → ((j ≡ s.0) × (i ≡ s.1)) ⊎ IsOneOf j i rest → ⊥
        at j i less (inl g) = false_true (irrefl text_total s.1) (ap (λ i. lt text_cmp i s.1) (sym g.1) ∙ less)
        at j i less (inr g) = false_true (lt_not text_total i s.1 less) (behind s.1 i (targets rest) rest_rises (in_targets rest j i g))

        by : (j i : List ℕ) → IsMove z (x ∷ p) (y ∷ t) j i → is_lt (text_cmp i s.1) ≡ true → (fin.get z i ≡ None)
            ⊎ ((v : Object) × (fin.get z i ≡ Some v)) → (fin.get z i ≡ None) ⊎ (fin.get z i ≡ fin.get z j)
        by j i m less (inl g) = inl g
        by j i m less (inr g) =
            elim (h.agree j i (standing_has z x p y t h.placed.place.source.directory j i m g))
            [ inl f ↦ inr f | inr f ↦ absurd (at j i less (subst (IsOneOf j i) e f)) ]

    compared_on : (b : List ℕ) (g : Option ℕ) (v : Object) → fin.get z s.0 ≡ Some (record { bytes = b; header = g })
        → fin.get z s.1 ≡ Some v → (r : Bool) → (text_eq b v.bytes && same_header g v.header) ≡ r → On (compared c n r) z
    compared_on b g v a d true f =
        let w = and_parts (text_eq b v.bytes) (same_header g v.header) f in
        let same : v ≡ record { bytes = b; header = g } = λ i. record {
          bytes = sym (text_is b v.bytes w.0) i;
          header = sym
              (header_is g v.header w.1) i;
        } in
        agreed_by (d ∙ ap Some same ∙ sym a) (nat_lt 1 (length (drop n c.stood))) refl
    compared_on b g v a d false f =
        subst (λ r. On (differ r) z) (sym stood_at_is)
        (h.placed.place, h.placed.fit, first_other (λ q. other (some_is (sym a ∙ sym q ∙ d))), refl)
      where
        other : record { bytes = b; header = g } ≡ v → ⊥
        other h = grind (arith, and_from, text_true, header_true)

    compare_one : (b : List ℕ) (g : Option ℕ) → StandsFirst z (drop n c.stood) b g → On (on_compare c n b g (found (fin.get z s.1))) z
    compare_one b g a = by (fin.get z s.1) refl
      where
        by : (o : Option Object) → fin.get z s.1 ≡ o → On (on_compare c n b g (found o)) z
        by None f = absurd (none_some f is_moved.1.1)
        by (Some v) f = compared_on b g v (subst (λ r. StandsFirst z r b g) stood_is a) f (text_eq b v.bytes && same_header g v.header) refl

    read_goes : On (on_read c n (reply_in z (read_of (drop n c.stood)))) (edited (read_of (drop n c.stood)) z)
    read_goes = subst (λ r. On (on_read c n (reply_in z (read_of r))) (edited (read_of r) z)) (sym stood_is) read_one

    compare_goes : (b : List ℕ) (g : Option ℕ) → StandsFirst z (drop n c.stood) b g
        → On (on_compare c n b g (reply_in z (read_of (drop n c.stood_at)))) (edited (read_of (drop n c.stood_at)) z)
    compare_goes b g a = subst (λ r. On (on_compare c n b g (reply_in z (read_of r))) (edited (read_of r) z)) (sym stood_at_is)
        (compare_one b g a)

  -- ---- the walk below the target

  parts_are : parts_of (sources (moves O z)) (targets (moves O z)) (all_below (marker_of (y ∷ t)) z) ≡ all_parts O z
  parts_are = grind (arith, chosen_sources, chosen_targets)

  shown_on : (ks ls : List (List ℕ)) (w : Walked PageEntry) → IsPlaced O z → ks ≡ sources (moves O z) → ls ≡ targets (moves O z)
      → IsWalked (marker_of (y ∷ t)) z w → On (on_shown ks ls w) z
  shown_on ks ls w h g e f = grind (arith, pairs_on, parts_are)

  showing : (ks ls : List (List ℕ)) (w : List PageEntry) → IsPlaced O z → ks ≡ sources (moves O z) → ls ≡ targets (moves O z)
      → IsWalking (marker_of (y ∷ t)) z w
      → On (on_show ks ls w (reply_in z (walk_asks (marker_of (y ∷ t)) w)) (fits (reply_in z (walk_asks (marker_of (y ∷ t)) w)))) z
  showing ks ls w h g e f = grind (arith, walk_fits, shown_on, walk_goes)

  -- ---- the new keys

  with_places_on : (ks : List (List ℕ)) → HasPlace z (x ∷ p) (y ∷ t) → ks ≡ keys_below (marker_of (x ∷ p)) z
      → (r : Result (List (List ℕ)) (List ℕ)) → new_keys (marker_of (x ∷ p)) (marker_of (y ∷ t)) ks ≡ r → On (with_places ks r) z
  with_places_on ks h e (Err k) f = (
    h,
    dir_long z x p y t k h.source.directory
        (ap (new_keys (marker_of (x ∷ p)) (marker_of (y ∷ t))) (sym e) ∙ f),
    refl,
  )
  with_places_on ks h e (Ok ls) f =
      let w = all_found (marker_of (x ∷ p)) (marker_of (y ∷ t)) (keys_below (marker_of (x ∷ p)) z) ls
      (ap (new_keys (marker_of (x ∷ p)) (marker_of (y ∷ t))) (sym e) ∙ f) in (
        refl,
        record { place = h; fit = dir_fit z x p y t h.source.directory w.1 },
        e ∙ sym (sources_to (marker_of (x ∷ p)) (marker_of (y ∷ t)) (keys_below (marker_of (x ∷ p)) z)),
        w.0,
        walk_begins (marker_of (y ∷ t)) z,
      )

  -- ---- the paths above the target

  climbed_on : (ks : List (List ℕ)) (c : Climbed) → HasSource z (x ∷ p) (y ∷ t) → ks ≡ keys_below (marker_of (x ∷ p)) z
      → IsClimbed z (climb (y ∷ t)) c → On (on_climb O ks c) z
  climbed_on ks c h g e = grind (arith, with_places_on)

  -- ---- the source

  listed_on : (IsOverlap (x ∷ p) (y ∷ t) → ⊥) → fin.get z (x ∷ p) ≡ None → (es : List PageEntry) → all_below (marker_of (x ∷ p)) z ≡ es
      → On (listed O (keys_on es)) z
  listed_on a f [] e = (a, (f, none_listed x (p ++ 47 ∷ []) z e), refl)
  listed_on a f (w ∷ es) e =
      climbed_on (keys_on (w ∷ es)) (climbing (climb (y ∷ t))) (record
      { apart = a; directory = (f, first_listed (marker_of (x ∷ p)) z w es e) }) (ap keys_on (sym e)) (all_on z (climb (y ∷ t)))

  walked_on : (w : Walked PageEntry) → (IsOverlap (x ∷ p) (y ∷ t) → ⊥) → fin.get z (x ∷ p) ≡ None → IsWalked (marker_of (x ∷ p)) z w
      → On (on_walked O w) z
  walked_on (More w) a f h = (refl, a, f, h)
  walked_on (Whole es) a f h = listed_on a f es (sym h)

  walking : (w : List PageEntry) → (IsOverlap (x ∷ p) (y ∷ t) → ⊥) → fin.get z (x ∷ p) ≡ None → IsWalking (marker_of (x ∷ p)) z w
      → On (on_walk O w (reply_in z (walk_asks (marker_of (x ∷ p)) w)) (fits (reply_in z (walk_asks (marker_of (x ∷ p)) w)))) z
  walking w a f h =
      subst (λ b. On (on_walk O w (reply_in z (walk_asks (marker_of (x ∷ p)) w)) b) z) (sym (walk_fits (marker_of (x ∷ p)) w z))
      (walked_on (walked_entries w (reply_in z (walk_asks (marker_of (x ∷ p)) w))) a f (walk_goes (marker_of (x ∷ p)) z w h))

  here_on : (b c : Bool) → begins (marker_of (x ∷ p)) (marker_of (y ∷ t)) ≡ b → begins (marker_of (y ∷ t)) (marker_of (x ∷ p)) ≡ c
      → On (here_at (b || c) (look_of (head (fin.get z (x ∷ p))))) z
  here_on b c h g = grind arith

  -- ---- each stage

  -- what holds after the reply to the request of a stage
  abbrev Led : CopyStage → Objects → Type 0
  Led s m = On (on O s (reply_in m (asks O s))) (edited (asks O s) m)

  pub each : (s : CopyStage) (m : Objects) → holds O z s m → Led s m
  each Here m h =
      subst (Led Here) (sym h)
      (here_on (begins (marker_of (x ∷ p)) (marker_of (y ∷ t))) (begins (marker_of (y ∷ t)) (marker_of (x ∷ p))) refl refl)
  each (Walk w) m h = subst (Led (Walk w)) (sym h.0) (walking w h.1 h.2 h.3)
  each (Up ks c) m h =
      let l = look_of (head (fin.get z c.first)) in
      subst (Led (Up ks c)) (sym h.0) (climbed_on ks (climbed c l) h.1 h.2 (climb_on z (climb (y ∷ t)) c l h.3 (head_tells z c.first)))
  each (WalkTarget ks ls w) m h = subst (Led (WalkTarget ks ls w)) (sym h.0) (showing ks ls w h.1 h.2 h.3 h.4)
  each (Source c n) m h = let w = some_left n (standing O z) h.1.some in subst (Led (Source c n)) (sym h.0) (read_goes c n h.1 w.0 w.1 w.2)
  each (Target c n b g) m h = let w = some_left n (standing O z) h.1.some in subst (Led (Target c n b g)) (sym h.0)
      (compare_goes c n h.1 w.0 w.1 w.2 b g h.2)
  each (Copy c count) m h = copied_on (copied_next (has_more c) c) count (edited (copy_asks c) m) h.0 h.1
      (copying_goes z (absent O z) c m h.2)

  -- ---- the copies that are sent

  pub sent_copy : (c : Copying) (m : Objects) → MayCopy z (x ∷ p) (y ∷ t) → IsCopying z (absent O z) c m → sends O z (copy_asks c)
  sent_copy c m h g =
      let w = copy_of_one z (absent O z) c m g in
      let a = absent_each z x p y t h.place.source.directory w.0 w.1 w.3 in
      inr (w.0, w.1, w.2, h, a.0, a.1)
