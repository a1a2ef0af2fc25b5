-- Each step of either side at one destination keeps the facts of both, and no upload is drawn by both.
use Rattle.text_and_lists.proofs.Members.{false_true, none_some, true_or_false}
use Rattle.text_and_lists.proofs.Naturals.{at_most_is, at_most_so, below_is, below_so}
use Rattle.job_invariant.proofs.Going.{effect_so}
use Rattle.job_invariant.proofs.Learning.{learnt}
use Rattle.job_invariant.specs.Foreign.{IsForeign}
use Rattle.job_invariant.specs.Stores.{IsKnown}
use Rattle.job_invariant.specs.Told.{strange_entry}
use Rattle.job_model.specs.JobScript.{Script}
use Rattle.job_model.specs.Legal.{IsLegal}
use Rattle.job_protocol.specs.Operations.{Operation, Setting, TheCheck, TheClean, TheCommit, TheSetup, TheSparing, asks, who}
use Rattle.job_protocol.specs.Seen.{Times}
use Rattle.job_protocol.specs.Setup.{setup_asks}
use Rattle.protocol_runs.proofs.Entries.{late_now}
use Rattle.protocol_runs.proofs.EveryRun.{good}
use Rattle.protocol_runs.proofs.Running.{At, Early, Late}
use Rattle.protocol_runs.specs.Runs.{Beginning, IsOpening, MayBegin, Runs, Stand, actor_begins, begin, nothing_learnt, strays}
use Rattle.path_keys.specs.Paths.{Path}
use Rattle.s3_types.specs.Answer.{apply, apply_at, bucket_of, draws, made}
use Rattle.s3_types.specs.Moment.{effect}
use Rattle.s3_types.specs.Names.{is_bucket}
use Rattle.s3_types.specs.Store.{Content, Scene}
use Rattle.s3_types.specs.declared.journal.Entry.{Entry}
use Rattle.s3_types.specs.declared.journal.Outcome.{Outcome}
use Rattle.s3_types.specs.declared.request.Actor.TheVariants.{Driver}
use Rattle.s3_types.specs.declared.request.Request.{Request}
use Rattle.s3_types.specs.declared.request.Request.TheVariants.{ClusterDelete, ClusterGet, ClusterList, ClusterPut, ClusterRename}
use Rattle.s3_types.specs.declared.request.Request.TheVariants.{MakeBucket}
use Rattle.std.proofs.Common.{List, None, Option, Some, ap, arith, false, inl, inr, nat_le, nat_lt, subst, sym, true, ℕ, [], ◌++◌, ◌+◌, ◌<◌}
use Rattle.std.proofs.Common.{◌||◌, ◌∙◌, ◌∷◌, ◌≡◌, ◌≤◌, ◌⊎◌}
use Rattle.std.proofs.Math.Bool.{or-true}
use Rattle.std.proofs.lemmas.Bool.{and_from, and_parts, cond_both, or_cases}
use Rattle.store_frame.proofs.Framed.{frame}
use Rattle.store_frame.specs.Held.{HasBucket}
use Rattle.twin_facts.proofs.Apart.{not_true, stranger_foreign, twin_stranger}
use Rattle.twin_facts.proofs.Naming.{sends_own, setup_own}
use Rattle.twin_facts.proofs.OneSide.{attempt_scene, driver_scene, goes_on, never_cleans}
use Rattle.twin_facts.specs.Strangers.{AreTwins}
use Rattle.twin_facts.specs.Names.{Ids, IsStranger, NamesOwn}
use Rattle.twin_facts.specs.Requests.{by_attempt, by_check, by_clean, by_commit}
use Rattle.twin_facts.specs.Sides.{Sends, attempt_sends, drawn_by, driver_sends, observed}
use Rattle.twin_facts.specs.TwinLaws.{MayBeTwins}
use Rattle.std.specs.FinMap as fin

-- ---- ids

apply_later : (s : Scene) (r : Request) → s.content.next ≤ (apply s r).content.next
apply_later s (MakeBucket q) =
    elim (fin.get s.content.buckets q) as (λ o. s.content.next ≤ (made s.content q o).next)
    [ Some b ↦ omega arith | None ↦ elim (true_or_false (is_bucket q)) [ inl e ↦ rw e (omega arith) | inr e ↦ rw e (omega arith) ] ]
apply_later s (ClusterPut path bytes) = omega arith
apply_later s (ClusterRename source target) = omega arith
apply_later s (ClusterGet path) = omega arith
apply_later s (ClusterDelete path) = omega arith
apply_later s (ClusterList p) = omega arith
apply_later s r = elim (fin.get s.content.buckets (bucket_of r)) as (λ o. s.content.next ≤ (apply_at o s.content r).next) [
  | None ↦ omega arith
  | Some b ↦ cond_both (draws r) (s.content.next + 1) s.content.next (λ n. s.content.next ≤ n) (λ e. omega arith) (λ e. omega arith)
]

-- The next upload id never falls.
pub effect_later : (s : Scene) (r : Request) (o : Outcome) → s.content.next ≤ (effect s r o).content.next
effect_later s r o = effect_so (λ (t : Scene). s.content.next ≤ t.content.next) s r o (omega arith) (apply_later s r)

-- ---- a side's steps

module _ (g : Setting) (j : IsLegal g.script) (shared : g.shared ≡ true) (k : Times) (opening : Content) (is : IsOpening g opening) where
  -- What its driver asks names only what is the job's own.
  asks_own : (es : List Entry) (x : Stand) → Runs g k opening es x → Late g opening x → (op : Operation) → x.driver ≡ Some op
      → At g opening (Some op) x.seen x.told → (r : Request) → asks g (who Driver) nothing_learnt op ≡ Some r
      → NamesOwn g.script x.told.drawn r
  asks_own es x run l (TheSetup u) d y r asked = absurd (none_some (ap (setup_asks g.script) y.0) asked)
  asks_own es x run l (TheCommit c) d y r asked = sends_own g j x.seen x.told l.hold _ r
      (by_commit c r (record {
        hold = l.hold;
        gone = l.gone y.uncleaned;
        fits = y.fits;
        tabled = y.tabled;
        turns = y.turns;
        decides =
            y.decides;
      }) asked)
  asks_own es x run l (TheClean u) d y r asked = absurd (never_cleans g shared k opening es x run u d)
  asks_own es x run l (TheCheck u) d y r asked = sends_own g j x.seen x.told l.hold _ r (by_check u.operation r asked)
  asks_own es x run l (TheSparing u) d y r asked = sends_own g j x.seen x.told l.hold _ r (by_clean u.operation r y asked)
  asks_own es x run l _ d y r asked = absurd y

  -- So does all that it sends.
  pub own_of : (es : List Entry) (x z : Stand) (e : Entry) → Sends g k x e z → Runs g k opening es x
      → NamesOwn g.script x.told.drawn e.request
  own_of es x _ _ (driver_sends _ op n r o d asked timely few honest) run = by (good g k opening j is es x run)
    where
      by : Early g opening x ⊎ Late g opening x → NamesOwn g.script x.told.drawn r
      by (inl e) = elim e.setup [
        | inl none ↦ absurd (none_some none d)
        | inr y ↦ setup_own g j x.seen x.told.drawn r (y.0.operation, y.2, ap (λ q. asks_by q) (sym y.1 ∙ d) ∙ asked)
      ]
        where
          asks_by : Option Operation → Option Request
          asks_by (Some op) = asks g (who Driver) nothing_learnt op
          asks_by None = None
      by (inr l) = asks_own es x run l op d (subst (λ q. At g opening q x.seen x.told) d l.driver) r asked
  own_of es x _ _ (attempt_sends _ a op n r o set at asked honest) run =
      let l = late_now g k opening j is es x run set in
      let f = l.fine a op at in
      sends_own g j x.seen x.told l.hold _ r (by_attempt a op r f.0 f.1 asked)

  pub sends_scene : (x z : Stand) (e : Entry) → Sends g k x e z → z.seen.scene ≡ effect x.seen.scene e.request e.outcome
  sends_scene x _ _ (driver_sends _ op n r o d asked timely few honest) = driver_scene g.script k x.seen n r o
  sends_scene x _ _ (attempt_sends _ a op n r o set at asked honest) = attempt_scene g.script k x.seen n r a o

  -- An upload that is known after a send was known before, or was just drawn.
  sends_known : (es : List Entry) (x z : Stand) (e : Entry) → Sends g k x e z → Runs g k opening es x → (id : ℕ) → IsKnown z.told.drawn id
      → IsKnown x.told.drawn id ⊎ ((x.seen.scene.content.next ≤ id) × (id < z.seen.scene.content.next))
  sends_known es x _ _ (driver_sends _ op n r o d asked timely few honest) run id y = inl y
  sends_known es x z e (attempt_sends _ a op n r o set at asked honest) run id y = elim
      (learnt g.script x.seen.scene x.told a r o honest id y) [
        | inl old ↦ inl old
        | inr new ↦
            let l = late_now g k opening j is (es ++ e ∷ []) z (goes_on g k opening es x z e run
            (attempt_sends x a op n r o set at asked honest)) set in
            inr (new, subst (λ q. q < z.seen.scene.content.next) y.3 (l.hold.ids.below y.0 y.1 y.2))
      ]

-- ---- two sides

-- The uploads drawn so far, with those that this send drew.
abbrev pub more : Ids → Scene → Request → Outcome → Ids
more d s r o id = d id || drawn_by s r o id

-- The runs of both sides with these entries, over one store, and the uploads that each has drawn.
pub record Pair (g h : Setting) (k l : Times) (opening : Content) (fs gs : List Entry) (d e : Ids) (x y : Stand) : Type 0 where
  pub first : Runs g k opening fs x
  pub second : Runs h l opening gs y
  pub scenes : x.seen.scene ≡ y.seen.scene
  pub there : HasBucket opening g.script.dest.bucket → HasBucket x.seen.scene.content g.script.dest.bucket
  pub low_first : (id : ℕ) → d id ≡ true → id < x.seen.scene.content.next
  pub low_second : (id : ℕ) → e id ≡ true → id < y.seen.scene.content.next
  pub known_first : (id : ℕ) → IsKnown x.told.drawn id → d id ≡ true
  pub known_second : (id : ℕ) → IsKnown y.told.drawn id → e id ≡ true
  pub apart : (id : ℕ) → d id ≡ true → e id ≡ false

pub swap_twins : {v w : Script} → AreTwins v w → AreTwins w v
swap_twins t = record { dest = sym t.dest; jobs = λ e. t.jobs (sym e) }

pub swapped : {g h : Setting} {k l : Times} {opening : Content} {fs gs : List Entry} {d e : Ids} {x y : Stand} → AreTwins g.script h.script
    → Pair g h k l opening fs gs d e x y → Pair h g l k opening gs fs e d y x
swapped {g = g} {h = h} {opening = opening} {d = d} {e = e} {x = x} {y = y} t p =
    let there : HasBucket opening h.script.dest.bucket → HasBucket y.seen.scene.content h.script.dest.bucket =
    λ stood. subst (λ (d : Path). HasBucket y.seen.scene.content d.bucket) t.dest
    (subst (λ (s : Scene). HasBucket s.content g.script.dest.bucket) p.scenes
    (p.there (subst (λ (d : Path). HasBucket opening d.bucket) (sym t.dest) stood))) in
    let apart : (id : ℕ) → e id ≡ true → d id ≡ false = λ id z. not_true (λ f. false_true (p.apart id f) z) in
    assumption (sym p.scenes, there, apart, p)

pub paired_begin : {g h : Setting} {k l : Times} {opening : Content} {fs gs : List Entry} {d e : Ids} {x y : Stand} → (b : Beginning)
    → MayBegin g x b → Pair g h k l opening fs gs d e x y → Pair g h k l opening fs gs d e (begin g x b) y
paired_begin {fs = fs} {x = x} b may p = assumption (actor_begins fs x b p.first may, p)

module _ {g h : Setting} (m : MayBeTwins g.script h.script) (shared : g.shared ≡ true) (k l : Times) {opening : Content}
    (is : IsOpening g opening) {fs gs : List Entry} {d1 d2 : Ids} {x y z : Stand} (e : Entry) (n : ℕ) (sends : Sends g k x e z)
    (p : Pair g h k l opening fs gs d1 d2 x y) where
  abbrev r : Request
  r = e.request

  abbrev o : Outcome
  o = e.outcome

  abbrev d3 : Ids
  d3 = more d1 x.seen.scene r o

  pub strange : IsStranger h.script d2 r
  strange = twin_stranger g.script h.script m.first m.second m.twins x.told.drawn d2 (λ id q. p.apart id (p.known_first id q)) r
      (own_of g m.first shared k opening is fs x z e sends p.first)

  pub foreign : IsForeign h.script y.told.drawn r
  foreign = stranger_foreign h.script y.told.drawn d2 p.known_second r strange

  at : z.seen.scene ≡ effect x.seen.scene r o
  at = sends_scene g m.first shared k opening is x z e sends

  later : x.seen.scene.content.next ≤ z.seen.scene.content.next
  later = subst (λ (s : Scene). x.seen.scene.content.next ≤ s.content.next) (sym at) (effect_later x.seen.scene r o)

  new_id : (id : ℕ) → d3 id ≡ true → (d1 id ≡ true) ⊎ ((x.seen.scene.content.next ≤ id) × (id < z.seen.scene.content.next))
  new_id id d = elim (or_cases (d1 id) (drawn_by x.seen.scene r o id) d) [
    | inl old ↦ inl old
    | inr new ↦ (let both = and_parts (nat_le x.seen.scene.content.next id) (nat_lt id (effect x.seen.scene r o).content.next) new in inr
        (at_most_is _ _ both.0, subst (λ (s : Scene). id < s.content.next) (sym at) (below_is _ _ both.1)))
  ]

  just_drawn : (id : ℕ) → x.seen.scene.content.next ≤ id → id < z.seen.scene.content.next → d3 id ≡ true
  just_drawn id a b =
      ap (λ c. d1 id || c) (and_from _ _ (at_most_so x.seen.scene.content.next id a)
      (below_so id (effect x.seen.scene r o).content.next (subst (λ (s : Scene). id < s.content.next) at b))) ∙ or-true (d1 id)

  pub paired : Pair g h k l opening (fs ++ e ∷ []) (gs ++ strange_entry n r o ∷ []) d3 d2 z (observed h l y n e)
  paired = record {
    first = goes_on g k opening fs x z e p.first sends;
    second = strays gs y n r o p.second foreign;
    scenes = at ∙ ap (λ s. effect s r o) p.scenes;
    there = λ stood. subst (λ (s : Scene). HasBucket s.content g.script.dest.bucket) (sym at)
        (let h = p.there stood in effect_so (λ (t : Scene). HasBucket t.content g.script.dest.bucket) x.seen.scene r o h
        ((frame x.seen.scene g.script.dest.bucket r h).there h.0 h.1));
    low_first = λ id d. elim (new_id id d) [ inl old ↦ (let a = p.low_first id old in let b = later in omega arith) | inr new ↦ new.1 ];
    low_second = λ id d. (let a = p.low_second id d in let b = effect_later y.seen.scene r o in omega arith);
    known_first = λ id d. elim (sends_known g m.first shared k opening is fs x z e sends p.first id d)
        [ inl old ↦ ap (λ b. b || drawn_by x.seen.scene r o id) (p.known_first id old) | inr new ↦ just_drawn id new.0 new.1 ];
    known_second = p.known_second;
    apart = λ id d. elim (new_id id d) [
      | inl old ↦ p.apart id old
      | inr new ↦ not_true (λ f. omega (arith, new.0, subst (λ (s : Scene). id < s.content.next) (sym p.scenes) (p.low_second id f)))
    ];
  }
