-- What an abort or clean at a shared destination leaves if it ends Done.
use Rattle.text_and_lists.proofs.Members.{false_true, some_is}
use Rattle.job_invariant.proofs.EndedGone.{stays_gone}
use Rattle.job_invariant.specs.Foreign.{IsForeign}
use Rattle.job_invariant.specs.Told.{driver_entry, strange_entry}
use Rattle.job_model.specs.JobScript.{Script}
use Rattle.job_model.specs.Legal.{IsLegal}
use Rattle.job_protocol.specs.Cleanups.{clean_start}
use Rattle.job_protocol.specs.Operations.{Operation, Setting, TheClean, TheSparing, asks, who}
use Rattle.job_protocol.specs.Seen.{Times}
use Rattle.job_protocol.specs.Sparing.{Sparing, SparingOver, sparing_after, sparing_asks, sparing_start}
use Rattle.protocol_runs.proofs.Entries.{late_now}
use Rattle.protocol_runs.proofs.Running.{At, Late}
use Rattle.protocol_runs.specs.Runs.{BeginClean, IsOpening, IsTimely, Runs, Stand, actor_begins, begin, is_set, nothing_learnt, strays}
use Rattle.retries.specs.Retries.{Retried, fresh, step}
use Rattle.s3_types.specs.Answer.{answer}
use Rattle.s3_types.specs.Moment.{IsHonestOutcome, effect}
use Rattle.s3_types.specs.Pages.{begins}
use Rattle.s3_types.specs.Store.{Content, Scene}
use Rattle.s3_types.specs.declared.journal.Entry.{Entry}
use Rattle.s3_types.specs.declared.journal.Outcome.{Outcome}
use Rattle.s3_types.specs.declared.request.Actor.TheVariants.{Driver}
use Rattle.s3_types.specs.declared.request.Committer.{Committer}
use Rattle.s3_types.specs.declared.request.Request.{Request}
use Rattle.std.proofs.Common.{List, Some, ap, arith, cond, inl, inr, refl, subst, sym, true, ℕ, [], ◌++◌, ◌^◌, ◌∙◌, ◌∷◌, ◌≡◌, ◌≤◌, ◌⊎◌}
use Rattle.store_frame.proofs.Framed.{frame}
use Rattle.store_frame.specs.Held.{HasBucket}
use Rattle.twin_facts.proofs.Apart.{not_true}
use Rattle.twin_facts.proofs.Keyed.{keyed_so}
use Rattle.twin_facts.proofs.Leaving.{Dead, Leaving, LeftAlone, alone_request, leaving_alone, leaving_goes, leaving_start}
use Rattle.twin_facts.proofs.OneSide.{driver_scene, goes_on}
use Rattle.twin_facts.proofs.Pairs.{effect_later}
use Rattle.twin_facts.proofs.Sets.{set_named, standing_so}
use Rattle.twin_facts.specs.Sides.{Sends, attempt_sends, driver_saw, driver_sends}
use Rattle.twin_facts.specs.Spared.{SparesOn, SparingLeaves, it_begins, it_sends, other_sends, spares_begin}
use Rattle.job_model.specs.declared.ends.CleanEnd.TheVariants as ends

-- ---- an abort or clean goes on, in every run

module _ (g : Setting) (j : IsLegal g.script) (shared : g.shared ≡ true) (k : Times) (opening : Content) (is : IsOpening g opening) where
  abbrev w : Script
  w = g.script

  record Spared (first : Scene) (u : Stand) : Type 0 where
    pub entries : List Entry
    pub run : Runs g k opening entries u
    pub at : Retried Sparing
    pub driver : u.driver ≡ Some (TheSparing at)
    pub leaving : Leaving w first u.seen.scene at.operation
    -- Ids are only drawn, few until its last entry, and what is gone stays gone.
    pub later : first.content.next ≤ u.seen.scene.content.next
    pub few : (at.operation ≡ sparing_start w.committer) ⊎ (first.content.next ≤ 2 ^ 64)
    pub dead : (id : ℕ) → Dead w first id → Dead w u.seen.scene id

  sparing_is : {a b : Retried Sparing} → Some (TheSparing a) ≡ Some (TheSparing b) → a ≡ b
  sparing_is e = cc

  strange_alone : (s : Scene) → HasBucket s.content w.dest.bucket → (x : Stand) (r : Request) (o : Outcome) → IsForeign w x.told.drawn r
      → LeftAlone w s (effect s r o)
  strange_alone s there x r o f = alone_request w s there r (λ q b. (frame s w.dest.bucket r there).keys q
      (λ n i. false_true (f.keys n q i) b)) (λ p b. (frame s w.dest.bucket r there).files p (λ i. false_true (f.paths p i) b)) o

  late_of : (first : Scene) (u : Stand) → Spared first u → Late g opening u
  late_of first u x = late_now g k opening j is x.entries u x.run (ap is_set x.driver)

  -- An entry of the abort or clean itself.
  going : (first : Scene) (u : Stand) (x : Spared first u) (q : Retried Sparing) (r : Request) (o : Outcome)
      → u.driver ≡ Some (TheSparing q) → sparing_asks w q.operation ≡ Some r → IsHonestOutcome o (answer u.seen.scene r)
      → Leaving w first (effect u.seen.scene r o) (step w.retries (sparing_after w) q o).operation
  going first u x q r o d asked honest =
      let same : x.at ≡ q = sparing_is (sym x.driver ∙ d) in
      let l = late_of first u x in
      let fits = subst (λ t. At g opening t u.seen u.told) d l.driver in
      leaving_goes w first u.seen.scene l.hold.there u.told.drawn (keyed_so g k opening j is x.entries u x.run) q.operation fits
      (subst (λ (t : Retried Sparing). Leaving w first u.seen.scene t.operation) same x.leaving) r asked o w.retries q.spare q.repeated
      honest

  own_entry : (first : Scene) (u z : Stand) (e : Entry) → Spared first u → Sends g k u e z → e.actor ≡ Driver → Spared first z
  own_entry first u z e x (driver_sends _ op n r o d asked timely few honest) f = by op (some_is (sym x.driver ∙ d)) d asked timely
    where
      by : (q : Operation) → TheSparing x.at ≡ q → u.driver ≡ Some q → asks g (who Driver) nothing_learnt q ≡ Some r → IsTimely k n q
          → Spared first (driver_saw g k u q n r o)
      by (TheSparing q) same d asked timely =
          let y = going first u x q r o d asked honest in
          let there = (late_of first u x).hold.there in
          let now : (driver_saw g k u (TheSparing q) n r o).seen.scene ≡ effect u.seen.scene r o = driver_scene w k u.seen n r o in
          record {
            entries = x.entries ++ driver_entry n r o ∷ [];
            run = goes_on g k opening x.entries u (driver_saw g k u (TheSparing q) n r o) (driver_entry n r o) x.run
                (driver_sends u (TheSparing q) n r o d asked timely few honest);
            at = step w.retries (sparing_after w) q o;
            driver = refl;
            leaving = subst (λ s. Leaving w first s (step w.retries (sparing_after w) q o).operation) (sym now) y;
            later = subst (λ (s : Scene). first.content.next ≤ s.content.next) (sym now)
                (omega (arith, x.later, effect_later u.seen.scene r o));
            few = inr (omega (arith, x.later, few));
            dead = λ id q. subst (λ s. Dead w s id) (sym now) (stays_gone w u.seen.scene there id r o (x.dead id q));
          }
      by _ same d asked timely = absurd cc
  own_entry first u _ _ x (attempt_sends _ a op n r o set at asked honest) f = absurd cc

  spared_so : (first : Scene) (x : Stand) → Spared first x → (u : Stand) → SparesOn g k x u → Spared first u
  spared_so first x s u (spares_begin) = s
  spared_so first x s u (it_begins a begins on may same) =
      let o = spared_so first x s a on in
      record {
        entries = o.entries;
        run = actor_begins o.entries a begins o.run may;
        at = o.at;
        driver = same ∙ o.driver;
        leaving =
            o.leaving;
        later = o.later;
        few = o.few;
        dead = o.dead;
      }
  spared_so first x s u (it_sends a z t e on d driver sends) = own_entry first a z e (spared_so first x s a on) sends driver
  spared_so first x s u (other_sends a n r outcome on f) =
      let o = spared_so first x s a on in
      let there = (late_of first a o).hold.there in
      record {
        entries = o.entries ++ strange_entry n r outcome ∷ [];
        run = strays o.entries a n r outcome o.run f;
        at = o.at;
        driver = o.driver;
        leaving = leaving_alone w first a.seen.scene (effect a.seen.scene r outcome) (strange_alone a.seen.scene there a r outcome f)
            o.at.operation o.leaving;
        later = omega (arith, o.later, effect_later a.seen.scene r outcome);
        few = o.few;
        dead = λ id q. stays_gone w a.seen.scene there id r outcome (o.dead id q);
      }

  not_over : (c : Committer) → sparing_start c ≡ SparingOver ends.Done → ⊥
  not_over c h = grind arith

  pub sparing_leaves : (es : List Entry) (x : Stand) → Runs g k opening es x → is_set x.driver ≡ true → (u : Stand)
      → SparesOn g k (begin g x BeginClean) u → (t : Retried Sparing) → u.driver ≡ Some (TheSparing t) → t.operation ≡ SparingOver ends.Done
      → SparingLeaves w x.seen.scene u.seen.scene
  sparing_leaves es x run set u on t d over =
      let first : Spared x.seen.scene (begin g x BeginClean) = record {
        entries = es;
        run = actor_begins es x BeginClean run set;
        at = fresh w.retries (sparing_start w.committer);
        driver = ap (λ b. Some (cond b (TheSparing (fresh w.retries (sparing_start w.committer))) (TheClean (fresh w.retries clean_start))))
            shared;
        leaving = leaving_start w x.seen.scene w.committer;
        later = omega arith;
        few = inl refl;
        dead = λ id q. q;
      } in
      let o = spared_so x.seen.scene (begin g x BeginClean) first u on in
      let same : o.at ≡ t = sparing_is (sym o.driver ∙ d) in
      let left = subst (Leaving w x.seen.scene u.seen.scene) (ap (λ (q : Retried Sparing). q.operation) same ∙ over) o.leaving refl in
      record {
        uploads = λ p q n. (left.1 p q n).1;
        sets = λ q n.
            let l = late_now g k opening j is es x run set in
            let few : x.seen.scene.content.next ≤ 2 ^ 64 = elim o.few [
              | inr low ↦ low
              | inl none ↦ absurd
                  (not_over w.committer (sym none ∙ ap (λ (q : Retried Sparing). q.operation) same ∙ over))
            ] in
            elim (set_named g j shared k opening is x l (standing_so g j shared k opening is es x run) few w.committer refl q n)
            [ inl z ↦ (left.1 z.0 q z.1).1 | inr gone ↦ (o.dead q.upload gone).1 ];
        keys = λ magic q b e. not_true (λ below. left.0.keys magic q b below refl e);
        files = λ staging p bytes e. not_true (λ below. left.0.files staging p bytes e below);
      }
