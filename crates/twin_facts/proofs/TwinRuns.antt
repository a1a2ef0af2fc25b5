-- All runs of two jobs at one destination.
use Rattle.text_and_lists.proofs.Members.{false_true, none_or_some, none_some, text_true, true_or_false}
use Rattle.text_and_lists.proofs.Naturals.{at_most_is, at_most_not}
use Rattle.text_and_lists.specs.Members.{IsIn}
use Rattle.text_and_lists.specs.Order.{text_eq}
use Rattle.job_invariant.specs.Told.{strange_entry}
use Rattle.job_model.specs.JobScript.{Script}
use Rattle.job_protocol.specs.Operations.{Setting}
use Rattle.job_protocol.specs.Scope.{upload_at}
use Rattle.job_protocol.specs.Seen.{Times, is_marking, nothing_seen}
use Rattle.job_spec.specs.Ends.{is_driver}
use Rattle.protocol_runs.proofs.Entries.{late_now}
use Rattle.protocol_runs.specs.Runs.{Beginning, IsOpening, MayBegin, Stand, begin, first_stand, run_begins}
use Rattle.magic_paths.specs.Layout.{success_key}
use Rattle.path_keys.specs.Paths.{Path}
use Rattle.s3_types.specs.Answer.{bucket_of}
use Rattle.s3_types.specs.Moment.{effect, is_effective}
use Rattle.s3_types.specs.Store.{Content, Scene, Upload}
use Rattle.s3_types.specs.declared.journal.Entry.{Entry}
use Rattle.s3_types.specs.declared.request.Request.{Request}
use Rattle.std.proofs.Common.{Bool, List, Some, ap, arith, cond, false, inl, inr, length, length-append, map, nat_le, refl, subst, sym}
use Rattle.std.proofs.Common.{take, true, ℕ, [], ◌&&◌, ◌++◌, ◌+◌, ◌<◌, ◌||◌, ◌∙◌, ◌∷◌, ◌≡◌, ◌≤◌, ◌⊎◌}
use Rattle.std.proofs.Math.Bool.{and-false, or-false, or-true, or_assoc}
use Rattle.std.proofs.lemmas.Bool.{and_from, and_parts}
use Rattle.std.proofs.lemmas.List.{map-append, take-append-le, take_all}
use Rattle.std.specs.List.{list_any}
use Rattle.store_frame.specs.Frame.{changed_keys}
use Rattle.store_frame.specs.Held.{HasBucket}
use Rattle.twin_facts.proofs.Bare.{IsBare, bare_sends, bare_view}
use Rattle.twin_facts.proofs.Pairs.{Pair, more, paired, paired_begin, sends_scene, strange, swap_twins, swapped}
use Rattle.twin_facts.proofs.Steps.{sends_leaves}
use Rattle.twin_facts.proofs.Views.{Touches, Views, begins_views, entry_views, views_kept, views_marked, views_only, views_swap}
use Rattle.twin_facts.specs.Strangers.{AreTwins}
use Rattle.twin_facts.specs.Names.{Ids}
use Rattle.twin_facts.specs.Sides.{First, IsTwinOpening, Second, Sends, Side, TwinEntry, TwinRun, drawn_by, drew, drew_from, eyes}
use Rattle.twin_facts.specs.Sides.{first_begins, first_sends, in_eyes, is_side, observed, second_begins, second_sends, twins_begin}
use Rattle.twin_facts.specs.TwinLaws.{AreShown, MayBeTwins, TwinsKeep, is_marked_by, marks_by, touches_mark, turned_entry}
use Rattle.std.specs.FinMap as fin

-- ---- the marker's last put or deletion

snoc_marked : (w : Script) (side : Side) (b : Bool) (es : List TwinEntry) (e : TwinEntry)
    → is_marked_by w side b (es ++ e ∷ []) ≡ marks_by w side (is_marked_by w side b es) e
snoc_marked w side b [] e = refl
snoc_marked w side b (x ∷ es) e = snoc_marked w side (marks_by w side b x) es e

any_in : (k : List ℕ) (l : List (List ℕ)) → IsIn k l → list_any (text_eq k) l ≡ true
any_in k [] i = absurd i
any_in k (x ∷ l) (inl is) = ap (λ b. b || list_any (text_eq k) l) (text_true k x is)
any_in k (x ∷ l) (inr i) = ap (λ b. text_eq k x || b) (any_in k l i) ∙ or-true (text_eq k x)

touched : (w : Script) (r : Request) → Touches w.dest r → touches_mark w r ≡ true
touched w r t = rw (text_true (bucket_of r) w.dest.bucket t.0, any_in (success_key w.dest.key) (changed_keys r) t.1) refl

-- If the flag is set after an entry, the side's own driver put the marker with it, or the flag was set before and the entry leaves the
-- marker.
marks_of : (w : Script) (side : Side) (m : Bool) (t : TwinEntry) → marks_by w side m t ≡ true
    → ((is_effective t.entry.outcome ≡ true) × (is_side side t.side ≡ true) × (is_driver t.entry.actor ≡ true)
    × (is_marking w t.entry.request ≡ true)) ⊎ ((m ≡ true) ×
    ((is_effective t.entry.outcome ≡ true) → Touches w.dest t.entry.request → ⊥))
marks_of w side m t h = elim (true_or_false (is_effective t.entry.outcome && touches_mark w t.entry.request)) [
  | inl e ↦
      let p = and_parts (is_side side t.side) _ (sym (ap
      (λ b. cond b (is_side side t.side && (is_driver t.entry.actor && is_marking w t.entry.request)) m) e) ∙ h) in
      let q = and_parts (is_driver t.entry.actor) (is_marking w t.entry.request) p.1 in
      inl ((and_parts (is_effective t.entry.outcome) (touches_mark w t.entry.request) e).0, p.0, q.0, q.1)
  | inr e ↦ inr (
    sym (ap (λ b. cond b (is_side side t.side && (is_driver t.entry.actor && is_marking w t.entry.request)) m) e) ∙ h,
    λ took
        at. false_true e (and_from _ _ took (touched w t.entry.request at)),
  )
]

own_marks : (w : Script) (side : Side) (m : Bool) (e : Entry) (n : ℕ)
    → marks_by w side m (record { side = side; entry = e; theirs = n }) ≡ true
    → ((is_effective e.outcome ≡ true) × (is_driver e.actor ≡ true) × (is_marking w e.request ≡ true))
    ⊎ ((m ≡ true) × ((is_effective e.outcome ≡ true) → Touches w.dest e.request → ⊥))
own_marks w side m e n h = elim (marks_of w side m (record { side = side; entry = e; theirs = n }) h)
    [ inl x ↦ inl (x.0, x.2, x.3) | inr x ↦ inr x ]

other_marks : (w : Script) (side other : Side) → is_side side other ≡ false → (m : Bool) (e : Entry) (n : ℕ)
    → marks_by w side m (record { side = other; entry = e; theirs = n }) ≡ true → (m ≡ true)
    × ((is_effective e.outcome ≡ true) → Touches w.dest e.request → ⊥)
other_marks w side other differ m e n h = elim (marks_of w side m (record { side = other; entry = e; theirs = n }) h)
    [ inl x ↦ absurd (false_true differ x.1) | inr x ↦ x ]

-- If the flag was not set before and the entry does not put the side's marker, it is not set after it.
unmarked : (w : Script) (side : Side) (m : Bool) (t : TwinEntry)
    → (is_side side t.side && (is_driver t.entry.actor && is_marking w t.entry.request)) ≡ false → m ≡ false
    → marks_by w side m t ≡ false
unmarked w side m t puts was = by (is_effective t.entry.outcome && touches_mark w t.entry.request)
  where
    by : (b : Bool) → cond b (is_side side t.side && (is_driver t.entry.actor && is_marking w t.entry.request)) m ≡ false
    by true = puts
    by false = was

-- ---- what each side reads and drew

pub eyes_more : (side : Side) (es : List TwinEntry) (t : TwinEntry) → eyes side (es ++ t ∷ []) ≡ eyes side es ++ in_eyes side t ∷ []
eyes_more side es t = map-append (in_eyes side) es (t ∷ [])

abbrev pub scene_of : Scene → List TwinEntry → Scene
scene_of s [] = s
scene_of s (t ∷ ts) = scene_of (effect s t.entry.request t.entry.outcome) ts

scene_more : (s : Scene) (es : List TwinEntry) (t : TwinEntry)
    → scene_of s (es ++ t ∷ []) ≡ effect (scene_of s es) t.entry.request t.entry.outcome
scene_more s [] t = refl
scene_more s (x ∷ es) t = scene_more (effect s x.entry.request x.entry.outcome) es t

drew_more : (side : Side) (s : Scene) (es : List TwinEntry) (t : TwinEntry) (id : ℕ)
    → drew_from side s (es ++ t ∷ []) id ≡ (drew_from side s es id || (is_side side t.side && drawn_by (scene_of s es) t.entry.request
    t.entry.outcome id))
drew_more side s [] t id = or-false (is_side side t.side && drawn_by s t.entry.request t.entry.outcome id)
drew_more side s (x ∷ es) t id =
    let u = effect s x.entry.request x.entry.outcome in
    let b = is_side side x.side && drawn_by s x.entry.request x.entry.outcome id in
    ap (λ c. b || c) (drew_more side u es t id) ∙ sym (or_assoc b (drew_from side u es id)
    (is_side side t.side && drawn_by (scene_of u es) t.entry.request t.entry.outcome id))

-- ---- what holds of both sides

-- Both sides read these entries and drew these uploads, over this store; each flag says whether the marker is that side's.
pub record Both (g h : Setting) (k l : Times) (opening : Content) (fs gs : List Entry) (d e : Ids) (s : Scene) (one two : Bool)
    (x y : Stand) : Type 0 where
  pub pair : Pair g h k l opening fs gs d e x y
  pub scene : s ≡ x.seen.scene
  pub views : HasBucket opening g.script.dest.bucket → Views g h g.script.dest opening x.seen.scene.content x y one two

-- The same, with the sides swapped.
swap : {g h : Setting} {k l : Times} {opening : Content} {fs gs : List Entry} {d e : Ids} {s : Scene} {one two : Bool} {x y : Stand}
    → AreTwins g.script h.script
    → Both g h k l opening fs gs d e s one two x y → Both h g l k opening gs fs e d s two one y x
swap {g = g} {h = h} {opening = opening} {one = one} {two = two} {x = x} {y = y} t b = record {
  pair = swapped t b.pair;
  scene = b.scene ∙ b.pair.scenes;
  views = λ stood. subst (λ (d : Path). Views h g d opening y.seen.scene.content y x two one) t.dest
      (subst (λ (s : Scene). Views h g g.script.dest opening s.content y x two one) b.pair.scenes
      (views_swap (b.views (subst (λ (d : Path). HasBucket opening d.bucket) (sym t.dest) stood))));
}

abbrev pub All : (g h : Setting) (k l : Times) (opening : Content) (es : List TwinEntry) (x y : Stand) → Type 0
All g h k l opening es x y =
    Both g h k l opening (eyes First es) (eyes Second es) (drew First opening es) (drew Second opening es)
    (scene_of (nothing_seen opening).scene es) (is_marked_by g.script First false es) (is_marked_by h.script Second false es) x y

module _ (g h : Setting) (m : MayBeTwins g.script h.script) (k l : Times) (opening : Content) (is : IsTwinOpening g h opening) where
  pub opens_first : IsOpening g opening
  opens_first = record { least = is.first; fresh = is.fresh }

  pub opens_second : IsOpening h opening
  opens_second = record {
    least = is.second;
    fresh = subst (λ (d : Path). (id : ℕ) (z : Upload) → upload_at opening d.bucket id ≡ Some z →
        id < opening.next) m.twins.dest is.fresh;
  }

  pub turned_twins : MayBeTwins h.script g.script
  turned_twins = record {
    first = m.second;
    second = m.first;
    twins = swap_twins m.twins;
    keeps_first = m.keeps_second;
    keeps_second =
        m.keeps_first;
  }

  pub turned_opening : IsTwinOpening h g opening
  turned_opening = record {
    shared_first = is.shared_second;
    shared_second = is.shared_first;
    first = is.second;
    second = is.first;
    fresh =
        opens_second.fresh;
  }

  module _ {fs gs : List Entry} {d e : Ids} {s : Scene} {one two : Bool} {x y : Stand} (a : Both g h k l opening fs gs d e s one two x y)
    where
      -- The first side begins an operation, and sends.
      begin_so : (b : Beginning) → MayBegin g x b → Both g h k l opening fs gs d e s one two (begin g x b) y
      begin_so b may = record {
        pair = paired_begin b may a.pair;
        scene = a.scene;
        views = λ stood. begins_views g h k opening m.first
            opens_first fs g.script.dest opening x.seen.scene.content x y one two b may a.pair.first (a.views stood);
      }

      send_so : {z : Stand} (f : Entry) (n : ℕ) (now then : Bool) → Sends g k x f z
          → (now ≡ true → ((is_effective f.outcome ≡ true) × (is_driver f.actor ≡ true) × (is_marking g.script f.request ≡ true))
          ⊎ ((one ≡ true) × ((is_effective f.outcome ≡ true) → Touches g.script.dest f.request → ⊥)))
          → (then ≡ true → (two ≡ true) × ((is_effective f.outcome ≡ true) → Touches h.script.dest f.request → ⊥))
          → Both g h k l opening (fs ++ f ∷ []) (gs ++ strange_entry n f.request f.outcome ∷ []) (more d s f.request f.outcome) e
          (effect s f.request f.outcome) now then z (observed h l y n f)
      send_so {z = z} f n now then sends said says =
          let at = sends_scene g m.first is.shared_first k opening opens_first x z f sends in
          record {
            pair = subst (λ v. Pair g h k l opening (fs ++ f ∷ []) (gs ++ strange_entry n f.request f.outcome ∷ [])
                (more d v f.request f.outcome) e z (observed h l y n f)) (sym a.scene)
                (paired m is.shared_first k l opens_first f n sends a.pair);
            scene = ap (λ v. effect v f.request f.outcome) a.scene ∙ sym at;
            views = λ stood. subst (λ (v : Scene). Views g h g.script.dest opening v.content z (observed h l y n f) now then) (sym at)
                (entry_views g h m.first opening x y z f (sends_leaves g m.first is.shared_first k opening opens_first m.keeps_first fs x z
                f
                sends a.pair.first) (a.pair.there stood) l n one two now then said
                (λ t. let o = says t in (o.0, λ took at. o.1 took (subst (λ (d : Path). Touches d f.request) m.twins.dest at)))
                (a.views stood));
          }

module _ (g h : Setting) (m : MayBeTwins g.script h.script) (k l : Times) (opening : Content) (is : IsTwinOpening g h opening) where
  all_begin : All g h k l opening [] (first_stand opening k.clean) (first_stand opening l.clean)
  all_begin = record {
    pair = record {
      first = run_begins;
      second = run_begins;
      scenes = refl;
      there = λ stood. stood;
      low_first = λ id e. absurd (false_true refl e);
      low_second = λ id e. absurd (false_true refl e);
      known_first = λ id e. absurd e.2;
      known_second = λ id e. absurd e.2;
      apart = λ id e. refl;
    };
    scene = refl;
    views = λ stood. record {
      one = λ q path. inl refl;
      mine = record {
        unpicked = λ b t. refl;
        stood = λ e. absurd (false_true refl e);
        files = λ p e. absurd cc;
        says = λ e. absurd
            (false_true refl e);
      };
      others = record {
        unpicked = λ b t. refl;
        stood = λ e. absurd (false_true refl e);
        files = λ p e. absurd cc;
        says = λ e. absurd
            (false_true refl e);
      };
    };
  }

  abbrev one : List TwinEntry → Bool
  one es = is_marked_by g.script First false es

  abbrev two : List TwinEntry → Bool
  two es = is_marked_by h.script Second false es

  abbrev now : List TwinEntry → Scene
  now es = scene_of (nothing_seen opening).scene es

  -- The uploads that a side drew with one more entry.
  pub drew_own : (side : Side) → is_side side side ≡ true → (es : List TwinEntry) (s : Scene) → scene_of (nothing_seen opening).scene es ≡ s
      → (e : Entry) (n : ℕ) → more (drew side opening es) s e.request e.outcome ≡ drew side opening
      (es ++ record { side = side; entry = e; theirs = n } ∷ [])
  drew_own side same es s at e n i id =
      sym (drew_more side (nothing_seen opening).scene es (record { side = side; entry = e; theirs = n }) id ∙ ap
      (λ b. drew side opening es id || (b && drawn_by (scene_of (nothing_seen opening).scene es) e.request e.outcome id)) same
      ∙ ap (λ t. drew side opening es id || drawn_by t e.request e.outcome id) at) i

  pub drew_not : (side other : Side) → is_side side other ≡ false → (es : List TwinEntry) (e : Entry) (n : ℕ)
      → drew side opening es ≡ drew side opening (es ++ record { side = other; entry = e; theirs = n } ∷ [])
  drew_not side other differ es e n i id =
      sym (drew_more side (nothing_seen opening).scene es (record { side = other; entry = e; theirs = n }) id ∙ ap
      (λ b. drew side opening es id || (b && drawn_by (scene_of (nothing_seen opening).scene es) e.request e.outcome id)) differ ∙
      or-false (drew side opening es id)) i

  -- One more entry, as each side reads it.
  all_more : (es : List TwinEntry) (t : TwinEntry) (d e : Ids) {x y : Stand} → d ≡ drew First opening (es ++ t ∷ [])
      → e ≡ drew Second opening (es ++ t ∷ [])
      → Both g h k l opening (eyes First es ++ in_eyes First t ∷ []) (eyes Second es ++ in_eyes Second t ∷ []) d e
      (effect (now es) t.entry.request t.entry.outcome)
      (marks_by g.script First (one es) t) (marks_by h.script Second (two es) t) x y
      → All g h k l opening (es ++ t ∷ []) x y
  all_more es t d e {x = x} {y = y} a b both = subst (λ (v : List Entry × List Entry × Ids × Ids × Scene × Bool × Bool). Both g h k l
      opening v.0 v.1 v.2 v.3 v.4 v.5 v.6 x y)
      (λ i. (
        sym (eyes_more First es t) i,
        sym (eyes_more Second es t) i,
        a i,
        b i,
        sym (scene_more (nothing_seen opening).scene es t) i,
        sym (snoc_marked g.script First false es t) i,
        sym (snoc_marked h.script Second false es t) i,
      )) both

  pub all_so : (es : List TwinEntry) (x y : Stand) → TwinRun g h k l opening es x y → All g h k l opening es x y
  all_so es x y (twins_begin) = all_begin
  all_so es x y (first_begins fs u v b run may) = begin_so g h m k l opening is (all_so fs u v run) b may
  all_so es x y (second_begins fs u v b run may) =
      swap (swap_twins m.twins) (begin_so h g (turned_twins g h m k l opening is) l k opening (turned_opening g h m k l opening is)
      (swap m.twins (all_so fs u v run)) b may)
  all_so es x y (first_sends fs u v z e n run sends) =
      let t : TwinEntry = record { side = First; entry = e; theirs = n } in
      all_more fs t (more (drew First opening fs) (now fs) e.request e.outcome) (drew Second opening fs)
      (drew_own First refl fs (now fs) refl e n) (drew_not Second First refl fs e n)
      (send_so g h m k l opening is (all_so fs u v run) e n (marks_by g.script First (one fs) t) (marks_by h.script Second (two fs) t) sends
      (own_marks g.script First (one fs) e n) (other_marks h.script Second First refl (two fs) e n))
  all_so es x y (second_sends fs u v z e n run sends) =
      let t : TwinEntry = record { side = Second; entry = e; theirs = n } in
      all_more fs t (drew First opening fs) (more (drew Second opening fs) (now fs) e.request e.outcome) (drew_not First Second refl fs e n)
      (drew_own Second refl fs (now fs) refl e n)
      (swap (swap_twins m.twins) (send_so h g (turned_twins g h m k l opening is) l k opening (turned_opening g h m k l opening is)
      (swap m.twins (all_so fs u v run)) e n (marks_by h.script Second (two fs) t) (marks_by g.script First (one fs) t) sends
      (own_marks h.script Second (two fs) e n) (other_marks g.script First Second refl (one fs) e n)))

  -- ---- what readers see: with a bucket, and without one

  shown : (es : List TwinEntry) (x y : Stand) → TwinRun g h k l opening es x y → HasBucket opening g.script.dest.bucket
      → AreShown g h opening es x y
  shown es x y run stood =
      let a = all_so es x y run in
      let views = a.views stood in
      let other = (swap m.twins a).views (subst (λ (d : Path). HasBucket opening d.bucket) m.twins.dest stood) in
      record {
        shows = record { only = views_only views; kept = views_kept views };
        first = λ t. let v = views_marked views m.first t in record { picked = v.0; apart = v.1; files = v.2; mark = v.3 };
        second = λ t. let v = views_marked other m.second t in record { picked = v.0; apart = v.1; files = v.2; mark = v.3 };
      }

  -- The bucket was not made, and no marker was put.
  record Bare (es : List TwinEntry) (x : Stand) : Type 0 where
    pub none : IsBare x.seen.scene.content g.script.dest.bucket
    pub unmarked_first : one es ≡ false
    pub unmarked_second : two es ≡ false

  bare : (es : List TwinEntry) (x y : Stand) → TwinRun g h k l opening es x y → IsBare opening g.script.dest.bucket → Bare es x
  bare es x y (twins_begin) none = record { none = none; unmarked_first = refl; unmarked_second = refl }
  bare es x y (first_begins fs u v b run may) none =
      let o = bare fs u v run none in record { none = o.none; unmarked_first = o.unmarked_first; unmarked_second = o.unmarked_second }
  bare es x y (second_begins fs u v b run may) none = bare fs u v run none
  bare es x y (first_sends fs u v z e n run sends) none =
      let t : TwinEntry = record { side = First; entry = e; theirs = n } in
      let o = bare fs u v run none in
      let a = opens_first g h m k l opening is in
      let s = bare_sends g k opening m.first a (eyes First fs) u z e sends (all_so fs u v run).pair.first o.none in
      record {
        none = ap (λ (c : Scene). fin.get c.content.buckets g.script.dest.bucket)
            (sends_scene g m.first is.shared_first k opening a u z e sends) ∙ s.0;
        unmarked_first = snoc_marked g.script First false fs t ∙ unmarked g.script First (one fs) t
            (ap (λ b. is_driver e.actor && b) s.1 ∙ and-false (is_driver e.actor)) o.unmarked_first;
        unmarked_second = snoc_marked h.script Second false fs t ∙ unmarked h.script Second (two fs) t refl o.unmarked_second;
      }
  bare es x y (second_sends fs u v z e n run sends) none =
      let t : TwinEntry = record { side = Second; entry = e; theirs = n } in
      let o = bare fs u v run none in
      let a = opens_second g h m k l opening is in
      let before = all_so fs u v run in
      let after = all_so (fs ++ t ∷ []) (observed g k u n e) z (second_sends fs u v z e n run sends) in
      let here : IsBare v.seen.scene.content h.script.dest.bucket =
      subst (λ (d : Path). IsBare v.seen.scene.content d.bucket) m.twins.dest
      (ap (λ (c : Scene). fin.get c.content.buckets g.script.dest.bucket) (sym before.pair.scenes) ∙ o.none) in
      let s = bare_sends h l opening m.second a (eyes Second fs) v z e sends before.pair.second here in
      let at = after.pair.scenes ∙ sends_scene h m.second is.shared_second l opening a v z e sends in
      record {
        none = ap (λ (c : Scene). fin.get c.content.buckets g.script.dest.bucket) at
            ∙ subst (λ (d : Path). IsBare (effect v.seen.scene e.request e.outcome).content d.bucket) (sym m.twins.dest) s.0;
        unmarked_first = snoc_marked g.script First false fs t ∙ unmarked g.script First (one fs) t refl o.unmarked_first;
        unmarked_second = snoc_marked h.script Second false fs t ∙ unmarked h.script Second (two fs) t
            (ap (λ b. is_driver e.actor && b) s.1 ∙ and-false (is_driver e.actor)) o.unmarked_second;
      }

  bare_shown : (es : List TwinEntry) (x y : Stand) → TwinRun g h k l opening es x y → IsBare opening g.script.dest.bucket
      → AreShown g h opening es x y
  bare_shown es x y run none =
      let b = bare es x y run none in
      record {
        shows = record {
          only = λ p bytes e. absurd (none_some (bare_view g.script.dest x.seen.scene.content b.none p) e);
          kept = λ p bytes e mine others. absurd (none_some (bare_view g.script.dest opening none p) e);
        };
        first = λ t. absurd (false_true b.unmarked_first t);
        second = λ t. absurd (false_true b.unmarked_second t);
      }

  pub twins_keep : (es : List TwinEntry) (x y : Stand) → TwinRun g h k l opening es x y → TwinsKeep g h k l opening es x y
  twins_keep es x y run =
      let a = all_so es x y run in
      record {
        first = λ set. (late_now g k opening m.first (opens_first g h m k l opening is) (eyes First es) x a.pair.first set).hold;
        second = λ set. (late_now h l opening m.second (opens_second g h m k l opening is) (eyes Second es) y a.pair.second set).hold;
        apart = a.pair.apart;
        known_first = a.pair.known_first;
        known_second = a.pair.known_second;
        strange_first = λ e z sends. strange m is.shared_first k l (opens_first g h m k l opening is) e 0 sends a.pair;
        strange_second = λ e z sends. strange (turned_twins g h m k l opening is) is.shared_second l k (opens_second g h m k l opening is) e
            0 sends (swapped m.twins a.pair);
        one_scene = a.pair.scenes;
        shown = elim (none_or_some (fin.get opening.buckets g.script.dest.bucket))
            [ inl none ↦ bare_shown es x y run none | inr stood ↦ shown es x y run stood ];
      }

-- ---- moments

module _ (g h : Setting) (k l : Times) (opening : Content) where
  -- A run comes to this state.
  abbrev Reached : List TwinEntry → Type 0
  Reached es = (u v : Stand) × TwinRun g h k l opening es u v

  with_one : (es : List TwinEntry) (e : TwinEntry) (m : ℕ) (x y : Stand) → m ≤ length (es ++ e ∷ []) → (m ≤ length es → Reached (take m es))
      → TwinRun g h k l opening (es ++ e ∷ []) x y → Reached (take m (es ++ e ∷ []))
  with_one es e m x y few before run = elim (true_or_false (nat_le m (length es))) [
    | inl low ↦ (let l = at_most_is m (length es) low in subst Reached (sym (take-append-le m es (e ∷ []) l)) (before l))
    | inr high ↦ subst Reached (sym (take_all m (es ++ e ∷ []) (let l = at_most_not m (length es) high in let n : length (es ++ e ∷ []) ≡
        length es + 1 = length-append es (e ∷ []) in omega arith))) (x, y, run)
  ]

  pub moments : (es : List TwinEntry) (x y : Stand) → TwinRun g h k l opening es x y → (m : ℕ) → m ≤ length es → Reached (take m es)
  moments es x y (twins_begin) m few = (
    x,
    y,
    subst (λ fs. TwinRun g h k l opening fs x y) (sym (take_all m [] (omega arith)))
        (twins_begin),
  )
  moments es x y (first_begins fs u v b run may) m few = moments fs u v run m few
  moments es x y (second_begins fs u v b run may) m few = moments fs u v run m few
  moments es x y (first_sends fs u v z e n run sends) m few =
      with_one fs (record { side = First; entry = e; theirs = n }) m z (observed h l v n e) few (moments fs u v run m)
      (first_sends fs u v z e n run sends)
  moments es x y (second_sends fs u v z e n run sends) m few =
      with_one fs (record { side = Second; entry = e; theirs = n }) m (observed g k u n e) z few (moments fs u v run m)
      (second_sends fs u v z e n run sends)

-- ---- the names of the sides

module _ (g h : Setting) (k l : Times) (opening : Content) where
  pub turned : (es : List TwinEntry) (x y : Stand) → TwinRun g h k l opening es x y → TwinRun h g l k opening (map turned_entry es) y x
  turned es x y (twins_begin) = twins_begin
  turned es x y (first_begins fs u v b run may) = second_begins (map turned_entry fs) v u b (turned fs u v run) may
  turned es x y (second_begins fs u v b run may) = first_begins (map turned_entry fs) v u b (turned fs u v run) may
  turned es x y (first_sends fs u v z e n run sends) =
      subst (λ q. TwinRun h g l k opening q (observed h l v n e) z) (sym
      (map-append turned_entry fs (record { side = First; entry = e; theirs = n } ∷ [])))
      (second_sends (map turned_entry fs) v u z e n (turned fs u v run) sends)
  turned es x y (second_sends fs u v z e n run sends) =
      subst (λ q. TwinRun h g l k opening q z (observed g k u n e)) (sym
      (map-append turned_entry fs (record { side = Second; entry = e; theirs = n } ∷ [])))
      (first_sends (map turned_entry fs) v u z e n (turned fs u v run) sends)
