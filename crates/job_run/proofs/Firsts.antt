-- A job of which nothing has happened.
use Rattle.text_and_lists.proofs.Members.{false_true, none_some, some_is}
use Rattle.text_and_lists.proofs.Options.{end_of}
use Rattle.job_actor.proofs.Picking.{none_below}
use Rattle.job_actor.specs.Picks.{ArePicksOf}
use Rattle.job_invariant.specs.Stores.{at_id}
use Rattle.job_model.specs.Attempts.{Declared, actor_of}
use Rattle.job_model.specs.JobScript.{Script}
use Rattle.job_model.specs.Jobs.{Task}
use Rattle.job_model.specs.Known.{Known, nothing_known}
use Rattle.job_model.specs.declared.ends.Pick.{Pick}
use Rattle.job_plans.specs.AtPlace.{task_at}
use Rattle.job_protocol.specs.AtWork.{task_of}
use Rattle.job_protocol.specs.Operations.{Running, Setting}
use Rattle.job_protocol.specs.Scope.{upload_in}
use Rattle.job_run.proofs.Moments.{never}
use Rattle.job_run.proofs.Places.{get_map, map_get}
use Rattle.job_run.specs.Firsts.{IsBegun, IsFirstShared, IsFirstSide, planned}
use Rattle.job_run.specs.Holds.{HandIs, HandsAre, Holds, IsTurn, NoneOver, PutBy, Quiet, all_sound, is_busy_at, is_mine, setting_of}
use Rattle.job_run.specs.declared.body.Body.{Body}
use Rattle.job_run.specs.declared.hands.Hand.{Hand}
use Rattle.job_run.specs.declared.hands.Hand.TheVariants.{Empty, Plan}
use Rattle.job_spec.specs.Eyes.{in_eyes, number_in}
use Rattle.job_spec.specs.Promise.{all_picks}
use Rattle.job_spec.specs.States.{actors, nothing_past}
use Rattle.job_states.specs.Standing.{standing}
use Rattle.script_steps.specs.Transitions.{nothing_happened, nothing_played}
use Rattle.protocol_runs.specs.Runs.{IsOpening}
use Rattle.s3_service.specs.Ids.{AreBelow}
use Rattle.s3_types.specs.Fates.{fate_at}
use Rattle.s3_types.specs.Foretold.{AreForetold}
use Rattle.s3_types.specs.Store.{Content, Upload, opening}
use Rattle.s3_types.specs.declared.request.Actor.{Actor}
use Rattle.s3_types.specs.declared.request.Actor.TheVariants.{Driver}
use Rattle.s3_types.specs.declared.request.Request.{Request}
use Rattle.std.proofs.Common.{List, None, Option, Some, ap, arith, false, inl, inr, length, map, refl, slice_get, subst, suc, sym, take}
use Rattle.std.proofs.Common.{zero, ℕ, [], ◌++◌, ◌+◌, ◌<◌, ◌^◌, ◌∙◌, ◌∷◌, ◌≡◌, ◌≤◌}
use Rattle.std.proofs.lemmas.Bool.{cases_lt}
use Rattle.std.proofs.lemmas.List.{length-map, map-append, take_all}
use Rattle.std.specs.FinMap as fin
use Rattle.job_actor.specs.declared.plan.Plan.TheVariants as plans

-- ---- hands

abbrev pub plan_of : {W : Type 0} → Script → ℕ → Declared → Hand W
plan_of w minimum a = Plan (plans.Task (task_of w minimum a.0 nothing_known))

-- The driver's hand and those of the first n attempts.
abbrev pub hands_of : {W : Type 0} → Script → ℕ → ℕ → List (Hand W)
hands_of w minimum n = Empty ∷ map (plan_of w minimum) (take n w.attempts)

pub no_hands : {W : Type 0} (w : Script) (minimum : ℕ) (empty hands : List (Hand W)) → empty ≡ [] → hands ≡ empty ++ Empty ∷ []
    → hands ≡ hands_of w minimum 0
no_hands w minimum empty hands e h = h ∙ ap (λ hs. hs ++ Empty ∷ []) e

pub take_more : {X : Type 0} (xs : List X) (n : ℕ) (x : X) → slice_get xs n ≡ Some x → take (suc n) xs ≡ take n xs ++ x ∷ []
take_more [] n x e = absurd (none_some refl e)
take_more (y ∷ ys) zero x e = ap (λ v. v ∷ []) (some_is e)
take_more (y ∷ ys) (suc n) x e = ap (λ l. y ∷ l) (take_more ys n x e)

-- One more attempt has its plan.
pub more_hands : {W : Type 0} (w : Script) (minimum n : ℕ) (p : Task) (hands new : List (Hand W)) → task_at w minimum n ≡ Some p
    → hands ≡ hands_of w minimum n → new ≡ hands ++ Plan (plans.Task p) ∷ [] → new ≡ hands_of w minimum (n + 1)
more_hands w minimum n p hands new at e f =
    let d = end_of (λ (a : Declared). task_of w minimum a.0 nothing_known) (slice_get w.attempts n) p at in
    let s : suc n ≡ n + 1 = omega arith in
    let last : Plan (plans.Task p) ∷ [] ≡ map (plan_of w minimum) (d.0 ∷ []) = ap (λ t. Plan (plans.Task t) ∷ []) (sym d.2) in
    f ∙ ap (λ hs. hs ++ Plan (plans.Task p) ∷ []) e
    ∙ ap (λ l. Empty ∷ (map (plan_of w minimum) (take n w.attempts) ++ l)) last
    ∙ ap (λ l. Empty ∷ l) (sym (map-append (plan_of w minimum) (take n w.attempts) (d.0 ∷ [])))
    ∙ ap (λ l. Empty ∷ map (plan_of w minimum) l) (sym (take_more w.attempts n d.0 d.1))
    ∙ ap (hands_of w minimum) s

pub all_hands : {W : Type 0} (w : Script) (minimum n : ℕ) (hands : List (Hand W)) → length w.attempts ≤ n → hands ≡ hands_of w minimum n
    → hands ≡ Empty ∷ planned w minimum
all_hands w minimum n hands le e = e ∙ ap (λ ds. Empty ∷ map (plan_of w minimum) ds) (take_all n w.attempts le)

-- ---- what the store and the standings are

below_next : (w : Script) (c : Content) → AreBelow c.buckets c.next → (id : ℕ) (x : Upload) → at_id w c id ≡ Some x → id < c.next
below_next w c below id x e = (elim (fin.get c.buckets w.dest.bucket) as (λ o. fin.get c.buckets w.dest.bucket ≡ o → upload_in o id ≡ Some x
    → id < c.next) [
      | None ↦ λ at f. absurd (none_some refl f)
      | Some b ↦ λ at f. elim (cases_lt id c.next) [ inl lt ↦ lt | inr le ↦ absurd (none_some (below w.dest.bucket b at id le) f) ]
    ]) refl e

-- Nobody is busy.
idle_at : (actors : List Actor) (place : ℕ) → is_busy_at (map (standing nothing_past) actors) place ≡ false
idle_at [] place = refl
idle_at (a ∷ more) zero = refl
idle_at (a ∷ more) (suc place) = idle_at more place

-- Nothing is picked.
pub none_picked : (g : Setting) (opening : Content) → ArePicksOf g opening nothing_played []
none_picked g opening xs a = sym (none_below _ (λ t. refl) g.script.tasks)

nothing_put_by : (g : Setting) (opening : Content) (ps : List Pick) → ps ≡ [] → PutBy g opening nothing_played ps
nothing_put_by g opening ps e = record {
  none = λ c. e;
  first = λ c xs a. (all_picks g.script opening [] xs, ap (λ l. l ++ all_picks g.script opening [] xs) e);
  all = λ c m xs a. e ∙ none_picked g opening xs a;
}

-- ---- the hands

module _ {W : Type 0} (is_of : Setting → Actor → W → Type 0) (running : Known → W → Running) (picks_of : W → Option (List Pick))
    (g : Setting) (opening : Content) where
  attempt_hand : (ds : List Declared) (q : ℕ) (a : Actor) (h : Hand W) → slice_get (map (λ d. actor_of d.0) ds) q ≡ Some a
      → slice_get (map (plan_of g.script g.minimum) ds) q ≡ Some h → HandIs is_of running picks_of g opening nothing_played a h
  attempt_hand ds q a h e f =
      let d = map_get (λ (d : Declared). actor_of d.0) ds q a e in
      let plan = some_is (sym (get_map (plan_of g.script g.minimum) ds q d.0 d.1) ∙ f) in
      subst (λ (k : Hand W). HandIs is_of running picks_of g opening nothing_played a k) plan
      (subst (λ (b : Actor). HandIs is_of running picks_of g opening nothing_played b (plan_of g.script g.minimum d.0)) d.2
      (refl, refl, λ s. cc))

  hands_are : (hands : List (Hand W)) → hands ≡ Empty ∷ planned g.script g.minimum
      → HandsAre is_of running picks_of all_sound g opening nothing_played hands
  hands_are hands is zero a h sound e f =
      let there : Empty ≡ h = some_is (sym (ap (λ hs. slice_get hs 0) is) ∙ f) in
      let driver : Driver ≡ a = some_is e in
      subst (λ (k : Hand W). HandIs is_of running picks_of g opening nothing_played a k) there (inr (sym driver, refl))
  hands_are hands is (suc q) a h sound e f = attempt_hand g.script.attempts q a h e (sym (ap (λ hs. slice_get hs (suc q)) is) ∙ f)

-- ---- all together

module _ {W : Type 0} (wants : W → Option Request) (is_of : Setting → Actor → W → Type 0) (running : Known → W → Running)
    (picks_of : W → Option (List Pick)) (b : Body W) (low : b.shared.opening.next ≤ 2 ^ 62)
    (below : AreBelow b.shared.opening.buckets b.shared.opening.next)
    (side : IsFirstSide b.shared.opening.minimum b.side) (w : Script) (shared : IsFirstShared w b.shared) where
  opens : IsOpening (setting_of b) b.shared.opening
  opens = record { least = refl; fresh = below_next b.side.script b.shared.opening below }

  few : b.shared.store.scene.content.next ≤ 2 ^ 62 + b.shared.store.requests
  few =
      let e : b.shared.store.scene.content.next ≡ b.shared.opening.next = ap (λ s. s.scene.content.next) shared.store in
      omega (arith, e, low)

  places : length b.side.hands.items ≡ length (actors b.side.script)
  places =
      ap length side.hands ∙ ap suc
      (length-map b.side.script.attempts (plan_of {W = W} b.side.script b.shared.opening.minimum) ∙ sym
      (length-map b.side.script.attempts (λ d. actor_of d.0)))

  first_holds : Holds is_of running picks_of all_sound b
  first_holds =
      let journal = ap (in_eyes (is_mine b.side.others.items)) shared.journal in
      let counts = ap (number_in (is_mine b.side.others.items)) shared.events ∙ sym (ap length side.ends) in
      let scene = ap (λ s. s.scene) shared.store in
      let requests = ap (λ s. s.requests) shared.store ∙ sym (ap length shared.journal) in
      let fated = subst (AreForetold (λ n. Some (fate_at b.shared.store.fates n)) 1) (sym shared.journal) tt in
      let hands = hands_are is_of running picks_of (setting_of b) b.shared.opening b.side.hands.items side.hands in
      let turn = never (IsTurn b) b.side.event side.event in
      let picks = nothing_put_by (setting_of b) b.shared.opening b.side.picks side.picks in
      search (nothing_happened, opens, journal, counts, turn, scene, requests, fated, few, places, hands, picks, side)

  none_over : NoneOver wants b
  none_over place k busy e = absurd (false_true (idle_at (actors b.side.script) place)
      (sym (ap (λ ss. is_busy_at ss place) side.states.actors) ∙ busy))

  pub first_quiet : Quiet wants is_of running picks_of b
  first_quiet = record { holds = first_holds; none_over = none_over; idle = side.event; none = side.finished }

pub is_begun : {W : Type 0} (wants : W → Option Request) (is_of : Setting → Actor → W → Type 0) (running : Known → W → Running)
    (picks_of : W → Option (List Pick)) (w : Script) (c : Content) (b : Body W) → c.next ≤ 2 ^ 62 → AreBelow c.buckets c.next
    → b.side.script ≡ w → b.shared.opening ≡ c → b.side.others.items ≡ [] → b.side.shares ≡ false → IsFirstSide c.minimum b.side
    → IsFirstShared b.side.script b.shared → IsBegun wants is_of running picks_of w c b
is_begun wants is_of running picks_of w c b low below script opening others shares side shared =
    let quiet = first_quiet wants is_of running picks_of b (rw opening low) (rw opening below) (rw opening side) b.side.script shared in
    assumption (quiet)
