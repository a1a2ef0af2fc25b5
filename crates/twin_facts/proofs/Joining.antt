-- Two runs over one journal, each as its side reads it, are one run of both.
use Rattle.text_and_lists.proofs.Members.{false_true}
use Rattle.job_invariant.specs.Foreign.{IsForeign}
use Rattle.job_invariant.specs.Told.{driver_entry, entry, strange_entry}
use Rattle.job_protocol.specs.Operations.{Setting}
use Rattle.job_protocol.specs.Seen.{Times}
use Rattle.job_spec.specs.Turns.{is_own}
use Rattle.protocol_runs.specs.Runs.{Beginning, MayBegin, Runs, Stand, actor_begins, attempt_sends, begin, driver_sends, first_stand}
use Rattle.protocol_runs.specs.Runs.{run_begins, saw, strays}
use Rattle.s3_types.specs.Answer.{answer}
use Rattle.s3_types.specs.Moment.{IsHonestOutcome}
use Rattle.s3_types.specs.Store.{Content, Scene}
use Rattle.s3_types.specs.declared.journal.Entry.{Entry}
use Rattle.s3_types.specs.declared.journal.Outcome.{Outcome}
use Rattle.s3_types.specs.declared.request.Request.{Request}
use Rattle.std.proofs.Common.{List, ap, append_assoc, arith, length, length-append, map, refl, subst, suc, sym, true, zero, ℕ, [], ◌++◌}
use Rattle.std.proofs.Common.{◌+◌, ◌∙◌, ◌∷◌, ◌≡◌, ◌≤◌}
use Rattle.std.proofs.lemmas.List.{append-nil, map-append, same_from_push}
use Rattle.twin_facts.proofs.Pairs.{foreign}
use Rattle.twin_facts.proofs.TwinRuns.{all_so, eyes_more, opens_first}
use Rattle.twin_facts.specs.Joined.{AreActors, AreForeign, AreOf, EyesTurn}
use Rattle.twin_facts.specs.Sides.{First, IsTwinOpening, Second, Sends, Side, TwinEntry, TwinRun, eyes, first_begins, first_sends, in_eyes}
use Rattle.twin_facts.specs.Sides.{second_begins, second_sends, twins_begin}
use Rattle.twin_facts.specs.TwinLaws.{MayBeTwins, other_side, turned_entry}
use Rattle.twin_facts.specs.Sides as sides

-- ---- the last of a list

record Last {X : Type 0} (l : List X) : Type 0 where
  pub front : List X
  pub last : X
  pub is : l ≡ front ++ last ∷ []

last_of : {X : Type 0} (x : X) (l : List X) → Last (x ∷ l)
last_of x [] = record { front = []; last = x; is = refl }
last_of x (y ∷ l) = let z = last_of y l in record { front = x ∷ z.front; last = z.last; is = ap (λ m. x ∷ m) z.is }

not_none : {X : Type 0} (l : List X) (a : X) → [] ≡ l ++ a ∷ [] → ⊥
not_none [] a e = cc
not_none (x ∷ l) a e = cc

longer : {X : Type 0} (l : List X) (x : X) (m : List X) → l ++ x ∷ m ≡ (l ++ (last_of x m).front) ++ (last_of x m).last ∷ []
longer l x m = ap (λ t. l ++ t) (last_of x m).is ∙ sym (append_assoc l (last_of x m).front ((last_of x m).last ∷ []))

-- ---- a run, parted before its last entry

module _ (g : Setting) (k : Times) (opening : Content) where
  -- Between the two states, operations only begin.
  data Begins (z : Stand) : Stand → Type 0 where
    none_begins : Begins z z
    one_begins : (x : Stand) (b : Beginning) → Begins z x → MayBegin g x b → Begins z (begin g x b)

  begun_only : (es : List Entry) (x : Stand) → Runs g k opening es x → es ≡ [] → Begins (first_stand opening k.clean) x
  begun_only es x run_begins e = none_begins
  begun_only es x (actor_begins fs y b run may) e = one_begins y b (begun_only fs y run e) may
  begun_only es x (driver_sends fs y op n r o run d asked timely few honest) e = absurd (not_none fs (driver_entry n r o) (sym e))
  begun_only es x (attempt_sends fs y a op n r o run set at asked honest) e = absurd (not_none fs (entry a n r o) (sym e))
  begun_only es x (strays fs y n r o run f) e = absurd (not_none fs (strange_entry n r o) (sym e))

  record Parted (fs : List Entry) (e : Entry) (x : Stand) : Type 0 where
    pub before : Stand
    pub run : Runs g k opening fs before
    pub after : Stand
    pub sends : Sends g k before e after
    pub begins : Begins after x

  parted_so : {fs ls : List Entry} {a e : Entry} {y z : Stand} → Runs g k opening fs y → Sends g k y a z → fs ++ a ∷ [] ≡ ls ++ e ∷ []
      → Parted ls e z
  parted_so {fs = fs} {ls = ls} {a = a} {e = e} {y = y} {z = z} run sends is =
      let p = same_from_push fs ls a e is in
      record {
        before = y;
        run = subst (λ l. Runs g k opening l y) p.0 run;
        after = z;
        sends = subst (λ v. Sends g k y v z) p.1 sends;
        begins = none_begins;
      }

  parted : (es : List Entry) (x : Stand) → Runs g k opening es x → (fs : List Entry) (e : Entry) → es ≡ fs ++ e ∷ [] → is_own e.actor ≡ true
      → Parted fs e x
  parted es x run_begins fs e is own = absurd (not_none fs e is)
  parted es x (actor_begins ls y b run may) fs e is own = let p = parted ls y run fs e is own in record
      { before = p.before; run = p.run; after = p.after; sends = p.sends; begins = one_begins y b p.begins may }
  parted es x (driver_sends ls y op n r o run d asked timely few honest) fs e is own = parted_so run
      (sides.driver_sends y op n r o d asked timely few honest) is
  parted es x (attempt_sends ls y a op n r o run set at asked honest) fs e is own = parted_so run
      (sides.attempt_sends y a op n r o set at asked honest) is
  parted es x (strays ls y n r o run f) fs e is own = absurd (false_true refl
      (ap (λ (v : Entry). is_own v.actor) (same_from_push ls fs (strange_entry n r o) e is).1 ∙ own))

  record Strayed (fs : List Entry) (n : ℕ) (r : Request) (o : Outcome) (x : Stand) : Type 0 where
    pub before : Stand
    pub run : Runs g k opening fs before
    pub begins : Begins (saw g k before (strange_entry n r o)) x

  not_strange : {n : ℕ} {r : Request} {o : Outcome} (e : Entry) → is_own e.actor ≡ true → e ≡ strange_entry n r o → ⊥
  not_strange e own is = false_true refl (sym (ap (λ (v : Entry). is_own v.actor) is) ∙ own)

  strayed : (es : List Entry) (x : Stand) → Runs g k opening es x → (fs : List Entry) (n : ℕ) (r : Request) (o : Outcome)
      → es ≡ fs ++ strange_entry n r o ∷ [] → Strayed fs n r o x
  strayed es x run_begins fs n r o is = absurd (not_none fs (strange_entry n r o) is)
  strayed es x (actor_begins ls y b run may) fs n r o is = let p = strayed ls y run fs n r o is in record
      { before = p.before; run = p.run; begins = one_begins y b p.begins may }
  strayed es x (driver_sends ls y op m q p run d asked timely few honest) fs n r o is =
      absurd (not_strange (driver_entry m q p) refl (same_from_push ls fs (driver_entry m q p) (strange_entry n r o) is).1)
  strayed es x (attempt_sends ls y a op m q p run set at asked honest) fs n r o is =
      absurd (not_strange (entry a m q p) refl (same_from_push ls fs (entry a m q p) (strange_entry n r o) is).1)
  strayed es x (strays ls y m q p run f) fs n r o is =
      let parts = same_from_push ls fs (strange_entry m q p) (strange_entry n r o) is in
      record {
        before = y;
        run = subst (λ l. Runs g k opening l y) parts.0 run;
        begins = subst
            (λ (e : Entry). Begins (saw g k y e) (saw g k y (strange_entry m q p))) parts.1 none_begins;
      }

  -- Each front of the entries is that of a run.
  front_runs : (es : List Entry) (x : Stand) → Runs g k opening es x → (fs gs : List Entry) → es ≡ fs ++ gs → (u : Stand)
      × Runs g k opening fs u
  front_runs es x run fs [] is = (x, subst (λ l. Runs g k opening l x) (is ∙ append-nil fs) run)
  front_runs es x run_begins fs (e ∷ gs) is = absurd (not_none (fs ++ (last_of e gs).front) (last_of e gs).last (is ∙ longer fs e gs))
  front_runs es x (actor_begins ls y b run may) fs (e ∷ gs) is = front_runs ls y run fs (e ∷ gs) is
  front_runs es x (driver_sends ls y op n r o run d asked timely few honest) fs (e ∷ gs) is =
      front_runs ls y run fs (last_of e gs).front (same_from_push ls (fs ++ (last_of e gs).front) (driver_entry n r o) (last_of e gs).last
      (is ∙ longer fs e gs)).0
  front_runs es x (attempt_sends ls y a op n r o run set at asked honest) fs (e ∷ gs) is =
      front_runs ls y run fs (last_of e gs).front (same_from_push ls (fs ++ (last_of e gs).front) (entry a n r o) (last_of e gs).last
      (is ∙ longer fs e gs)).0
  front_runs es x (strays ls y n r o run f) fs (e ∷ gs) is =
      front_runs ls y run fs (last_of e gs).front (same_from_push ls (fs ++ (last_of e gs).front) (strange_entry n r o) (last_of e gs).last
      (is ∙ longer fs e gs)).0

-- ---- both sides

module _ (g h : Setting) (k l : Times) (opening : Content) where
  with_first : {es : List TwinEntry} {z y : Stand} (x : Stand) → Begins g k opening z x → TwinRun g h k l opening es z y
      → TwinRun g h k l opening es x y
  with_first x none_begins run = run
  with_first {es = es} {y = y} x (one_begins u b on may) run = first_begins es u y b (with_first u on run) may

  with_second : {es : List TwinEntry} {z x : Stand} (y : Stand) → Begins h l opening z y → TwinRun g h k l opening es x z
      → TwinRun g h k l opening es x y
  with_second y none_begins run = run
  with_second {es = es} {x = x} y (one_begins u b on may) run = second_begins es x u b (with_second u on run) may

  abbrev twin : Side → Entry → ℕ → TwinEntry
  twin side e n = record { side = side; entry = e; theirs = n }

  abbrev Joins : List TwinEntry → Type 0
  Joins es = (x y : Stand) → Runs g k opening (eyes First es) x → Runs h l opening (eyes Second es) y → TwinRun g h k l opening es x y

  one_more : (es : List TwinEntry) → Joins es → (side : Side) (e : Entry) (n : ℕ) → is_own e.actor ≡ true → Joins (es ++ twin side e n ∷ [])
  one_more es before First e n own x y first second =
      let p = parted g k opening _ x first (eyes First es) e (eyes_more First es (twin First e n)) own in
      let q = strayed h l opening _ y second (eyes Second es) n e.request e.outcome (eyes_more Second es (twin First e n)) in
      with_first x p.begins (with_second y q.begins (first_sends es p.before q.before p.after e n (before p.before q.before p.run q.run)
      p.sends))
  one_more es before Second e n own x y first second =
      let p = strayed g k opening _ x first (eyes First es) n e.request e.outcome (eyes_more First es (twin Second e n)) in
      let q = parted h l opening _ y second (eyes Second es) e (eyes_more Second es (twin Second e n)) own in
      with_first x p.begins (with_second y q.begins (second_sends es p.before q.before q.after e n (before p.before q.before p.run q.run)
      q.sends))

  front_actors : (es : List TwinEntry) (t : TwinEntry) → AreActors (es ++ t ∷ []) → AreActors es × (is_own t.entry.actor ≡ true)
  front_actors [] t a = (tt, a.0)
  front_actors (x ∷ es) t a = let b = front_actors es t a.1 in ((a.0, b.0), b.1)

  joins : (n : ℕ) (es : List TwinEntry) → length es ≤ n → AreActors es → Joins es
  joins n [] few own = λ x y first second. with_first x (begun_only g k opening [] x first refl)
      (with_second y (begun_only h l opening [] y second refl) twins_begin)
  joins zero (t ∷ es) few own = absurd (omega (arith, few))
  joins (suc n) (t ∷ es) few own =
      let z = last_of t es in
      let a = front_actors z.front z.last (subst AreActors z.is own) in
      let short : length z.front ≤ n = (let c : length (t ∷ es) ≡ length z.front + 1 = ap length z.is ∙ length-append z.front (z.last ∷ [])
      in omega (arith, c, few)) in
      subst Joins (sym z.is) (one_more z.front (joins n z.front short a.0) (z.last).side (z.last).entry (z.last).theirs a.1)

  pub joined : (es : List TwinEntry) → AreActors es → Joins es
  joined es own = joins (length es) es (omega arith) own

-- ---- what the first side sends is foreign to the second

module _ (g h : Setting) (m : MayBeTwins g.script h.script) (k l : Times) (opening : Content) (is : IsTwinOpening g h opening) where
  pub foreign_on : (es part : List TwinEntry) → AreActors (es ++ part) → AreOf First part → (x y : Stand)
      → Runs g k opening (eyes First (es ++ part)) x → Runs h l opening (eyes Second es) y
      → AreForeign h.script y.told.drawn y.seen.scene part
  foreign_on es [] own first x y a b = tt
  foreign_on es (t ∷ part) own first x y a b =
      let e = t.entry in
      let n = t.theirs in
      let one : TwinEntry = record { side = First; entry = e; theirs = n } in
      let same : t ≡ one = λ i. record { side = first.0 i; entry = e; theirs = n } in
      let longer_is : es ++ t ∷ part ≡ (es ++ one ∷ []) ++ part = ap (λ v. es ++ v ∷ part) same ∙ sym (append_assoc es (one ∷ []) part) in
      let all : AreActors ((es ++ one ∷ []) ++ part) = subst AreActors longer_is own in
      let runs : Runs g k opening (eyes First ((es ++ one ∷ []) ++ part)) x = subst (λ q. Runs g k opening (eyes First q) x) longer_is a in
      let front = front_runs g k opening _ x runs (eyes First es ++ e ∷ []) (eyes First part)
      (map-append (in_eyes First) (es ++ one ∷ []) part ∙ ap (λ q. q ++ eyes First part) (eyes_more First es one)) in
      let own_here = front_actors g h k l opening es one (fronts (es ++ one ∷ []) part all) in
      let p = parted g k opening _ front.0 front.1 (eyes First es) e refl own_here.1 in
      let pair = (all_so g h m k l opening is es p.before y (joined g h k l opening es own_here.0 p.before y p.run b)).pair in
      let f : IsForeign h.script y.told.drawn e.request = foreign m is.shared_first k l (opens_first g h m k l opening is) e n p.sends pair
      in
      let next : Stand = saw h l y (strange_entry n e.request e.outcome) in (
        f,
        honest_of y.seen.scene p.sends pair.scenes,
        foreign_on (es ++ one ∷ []) part all first.1 x next runs (subst (λ q. Runs h l opening q next) (sym (eyes_more Second es one))
            (strays (eyes Second es) y n e.request e.outcome b f)),
      )
    where
      fronts : (us vs : List TwinEntry) → AreActors (us ++ vs) → AreActors us
      fronts [] vs o = tt
      fronts (u ∷ us) vs o = (o.0, fronts us vs o.1)

      honest_of : {u z : Stand} {e : Entry} (s : Scene) → Sends g k u e z → u.seen.scene ≡ s
          → IsHonestOutcome e.outcome (answer s e.request)
      honest_of s (sides.driver_sends _ op n r o d asked timely few honest) same = subst (λ t. IsHonestOutcome o (answer t r)) same honest
      honest_of s (sides.attempt_sends _ a op n r o set at asked honest) same = subst (λ t. IsHonestOutcome o (answer t r)) same honest

-- ---- with the names of the sides swapped

turned_eyes : (s : Side) (e : Entry) (n : ℕ) → (in_eyes First (record { side = other_side s; entry = e; theirs = n }) ≡ in_eyes Second
    (record { side = s; entry = e; theirs = n })) × (in_eyes Second (record { side = other_side s; entry = e; theirs = n }) ≡ in_eyes First
    (record { side = s; entry = e; theirs = n }))
turned_eyes s e n = grind arith

first_turned : (es : List TwinEntry) → eyes First (map turned_entry es) ≡ eyes Second es
first_turned [] = refl
first_turned (t ∷ es) = λ i. (turned_eyes t.side t.entry t.theirs).0 i ∷ first_turned es i

second_turned : (es : List TwinEntry) → eyes Second (map turned_entry es) ≡ eyes First es
second_turned [] = refl
second_turned (t ∷ es) = λ i. (turned_eyes t.side t.entry t.theirs).1 i ∷ second_turned es i

pub eyes_turn : EyesTurn
eyes_turn = record { first = first_turned; second = second_turned }
