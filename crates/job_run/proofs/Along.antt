-- What holds all along a run of a job: what each actor knew when it sent last, who runs the job's commit, and how many events there were.
use Rattle.text_and_lists.proofs.Members.{none_some, some_is}
use Rattle.job_actor.specs.Picks.{is_committing, is_job_commit}
use Rattle.job_model.specs.Attempts.{Who}
use Rattle.job_model.specs.JobScript.{Script}
use Rattle.job_model.specs.Known.{Known}
use Rattle.job_model.specs.declared.events.Event.{Event}
use Rattle.job_model.specs.declared.events.Event.TheVariants.{Do, Start}
use Rattle.job_model.specs.declared.events.Op.{Op}
use Rattle.job_protocol.proofs.Begun.{after_check_so}
use Rattle.job_protocol.specs.Knowledge.{knows, knows_from, learn}
use Rattle.job_protocol.specs.Operations.{Operation, Reports, Running, Setting, TheCheck, TheSetup, advance, learn_of, start_of, tells, who}
use Rattle.job_protocol.specs.Rechecks.{check_after}
use Rattle.job_spec.specs.States.{put}
use Rattle.job_spec.specs.Turns.{by_actor}
use Rattle.script_steps.proofs.Actors.{put_here, put_other, same_false, same_or_not, same_true}
use Rattle.script_steps.proofs.Parts.{by_another, by_itself, by_own}
use Rattle.script_steps.specs.Transitions.{Finishes, MayOpen, MaySend, Opens, Play, Reachable, Sends, Strays, begin_running, begun, happen}
use Rattle.script_steps.specs.Transitions.{happens, hear, knows_now, nothing_happened, nothing_played, open_running}
use Rattle.retries.specs.Retries.{step}
use Rattle.s3_types.specs.Store.{Content}
use Rattle.s3_types.specs.declared.journal.Entry.{Entry}
use Rattle.s3_types.specs.declared.journal.Outcome.{Outcome}
use Rattle.s3_types.specs.declared.request.Actor.{Actor}
use Rattle.s3_types.specs.declared.request.Actor.TheVariants.{Attempt, Driver, Shell}
use Rattle.s3_types.specs.declared.request.Request.{Request}
use Rattle.std.proofs.Common.{List, None, Option, Some, ap, false, inl, inr, length, refl, subst, sym, true, [], ◌++◌, ◌<◌, ◌∙◌, ◌∷◌, ◌≡◌}
use Rattle.std.proofs.lemmas.Option.{slice_get_within}
use Rattle.job_model.specs.declared.events.Op.TheVariants as ops

-- What holds all along a run.
pub record Carried (g : Setting) (x : Play) : Type 0 where
  -- What an actor knew when it sent last is what it knows now.
  pub known : (a : Actor) (m : Running) → x.running a ≡ Some m → m.known ≡ knows_now g x a
  pub nobody : x.running Shell ≡ None
  -- Only the driver runs the job's commit.
  pub whose : (a : Actor) → (a ≡ Driver → ⊥) → is_committing (x.running a) ≡ false
  -- If an event is in progress, some event has no end yet.
  pub few : (ev : Event) → x.now ≡ Some ev → length x.ends < length g.script.events

-- If a property holds of the value that is put at one actor, and of the values of the others, it holds of all.
pub put_all : {X : Type 0} (P : Actor → X → Type 0) (f : Actor → X) (a : Actor) (v : X) → P a v → ((q : Actor) → (q ≡ a → ⊥) → P q (f q))
    → (q : Actor) → P q (put f a v q)
put_all P f a v here others q = elim (same_or_not q a) [
  | inl e ↦ subst (P q) (sym (put_here f a v q e)) (subst (λ b. P b v) (sym e) here)
  | inr ne ↦ subst (P q) (sym (put_other f a v q ne)) (others q ne)
]

knows_more : (w : Script) (a : Who) (k : Known) (es : List Entry) (e : Entry)
    → knows_from w a k (es ++ e ∷ []) ≡ learn w a (knows_from w a k es) e.request e.outcome
knows_more w a k [] e = refl
knows_more w a k (x ∷ es) e = knows_more w a (learn w a k x.request x.outcome) es e

-- An operation goes on as the job's commit exactly if it was that before.
commit_stays : (g : Setting) (a : Who) (op : Operation) (o : Outcome) → is_job_commit (tells g a op o) ≡ is_job_commit op
commit_stays g a (TheCheck t) o = after_check_so g (λ op. is_job_commit op ≡ true) refl (λ u. refl)
    (step g.script.retries (check_after g.script) t o)
commit_stays g a (TheSetup t) o = refl
commit_stays g a _ o = refl

none_commits : (g : Setting) (a : Actor) (op : Op) (r : Reports) (k : Known) → (a ≡ Driver → ⊥)
    → is_committing (begun (start_of g a op r k) k) ≡ false
none_commits g Driver op r k ne = absurd (ne refl)
none_commits g (Attempt t n) ops.Setup r k ne = refl
none_commits g _ _ r k ne = refl

begun_known : (op : Option Operation) (k : Known) (m : Running) → begun op k ≡ Some m → m.known ≡ k
begun_known None k m e = absurd (none_some refl e)
begun_known (Some op) k m e = ap (λ (r : Running). r.known) (sym (some_is e))

module _ (g : Setting) (opening : Content) where
  first : Carried g nothing_played
  first = record {
    known = λ a m e. absurd (none_some refl e);
    nobody = refl;
    whose = λ a ne. refl;
    few = λ ev e. absurd (none_some refl e);
  }

  -- ---- an event begins

  begins_known : (x : Play) → Carried g x → (a : Actor) (op : Op) (q : Actor) (m : Running) → begin_running g x a op q ≡ Some m
      → m.known ≡ knows_now g x q
  begins_known x c a op = put_all (λ q o. (m : Running) → o ≡ Some m → m.known ≡ knows_now g x q) x.running a _ (begun_known _ _)
      (λ q ne. c.known q)

  begins_whose : (x : Play) → Carried g x → (a : Actor) (op : Op) (q : Actor) → (q ≡ Driver → ⊥)
      → is_committing (begin_running g x a op q) ≡ false
  begins_whose x c a op = put_all (λ q o. (q ≡ Driver → ⊥) → is_committing o ≡ false) x.running a _ (none_commits g a op _ _)
      (λ q ne. c.whose q)

  begin_nobody : (x : Play) → Carried g x → (a : Actor) (op : Op) → begin_running g x a op Shell ≡ None
  begin_nobody x c Shell op = refl
  begin_nobody x c _ op = c.nobody

  opened_as : (x : Play) (P : (Actor → Option Running) → Type 0) → ((a : Actor) (op : Op) → P (begin_running g x a op)) → P x.running
      → (ev : Event) → P (open_running g x ev)
  opened_as x P begins old (Do a op) = begins a op
  opened_as x P begins old (Start a op) = begins a op
  opened_as x P begins old _ = old

  sent_nobody : (r : Actor → Option Running) → r Shell ≡ None → (a : Actor) (e : Entry) → put r a (hear g a (r a) e) Shell ≡ None
  sent_nobody r none Shell e = ap (λ m. hear g Shell m e) none
  sent_nobody r none _ e = none

  opens : (x : Play) (ev : Event) → MayOpen g x ev None → Carried g x → Carried g (happen g x (Opens ev))
  opens x ev may c =
      let K : (Actor → Option Running) → Type 0 =
      λ r. ((a : Actor) (m : Running) → r a ≡ Some m → m.known ≡ knows_now g x a) × (r Shell ≡ None)
      × ((a : Actor) → (a ≡ Driver → ⊥) → is_committing (r a) ≡ false) in
      let k = opened_as x K (λ a op. (begins_known x c a op, begin_nobody x c a op, begins_whose x c a op)) (c.known, c.nobody, c.whose) ev
      in
      record { known = k.0; nobody = k.1; whose = k.2; few = λ v e. slice_get_within g.script.events (length x.ends) ev may.next }

  -- ---- an actor sends

  heard : (x : Play) (e : Entry) → (may : MaySend g opening x e)
      → hear g e.actor (x.running e.actor) e ≡ Some (advance g e.actor may.at e.outcome)
  heard x e may = ap (λ m. hear g e.actor m e) may.is_at

  own_known : (x : Play) (e : Entry) → (may : MaySend g opening x e) → Carried g x
      → (advance g e.actor may.at e.outcome).known ≡ knows_now g (happen g x (Sends e)) e.actor
  own_known x e may c =
      let a = who e.actor in
      ap (λ r. learn_of g.script a may.at.known r e.outcome) may.asked
      ∙ ap (λ k. learn g.script a k e.request e.outcome) (c.known e.actor may.at may.is_at)
      ∙ sym (ap (knows g.script a) (by_itself e.actor x.journal e (same_true e.actor e.actor refl)) ∙ knows_more g.script a _
      (by_actor e.actor x.journal) e)

  pub others_know : (x : Play) (e : Entry) (q : Actor) → (q ≡ e.actor → ⊥) → knows_now g (happen g x (Sends e)) q ≡ knows_now g x q
  others_know x e q ne = ap (knows g.script (who q)) (by_another q x.journal e (same_false e.actor q (λ s. ne (sym s))))

  -- Each actor is in the job's commit after a send exactly if it was before.
  pub commits_on : (x : Play) (e : Entry) → MaySend g opening x e → (q : Actor)
      → is_committing ((happen g x (Sends e)).running q) ≡ is_committing (x.running q)
  commits_on x e may =
      put_all (λ q o. is_committing o ≡ is_committing (x.running q)) x.running e.actor _
      (ap is_committing (heard x e may) ∙ commit_stays g (who e.actor) may.at.operation e.outcome ∙ sym (ap is_committing may.is_at))
      (λ q ne. refl)

  sends : (x : Play) (e : Entry) → MaySend g opening x e → Carried g x → Carried g (happen g x (Sends e))
  sends x e may c =
      record {
        known =
            put_all (λ q o. (m : Running) → o ≡ Some m → m.known ≡ knows_now g (happen g x (Sends e)) q) x.running e.actor _
            (λ m h. ap (λ (r : Running). r.known) (some_is (sym h ∙ heard x e may)) ∙ own_known x e may c)
            (λ q ne m h. c.known q m h ∙ sym (others_know x e q ne));
        nobody = sent_nobody x.running c.nobody e.actor e;
        whose = λ q ne. commits_on x e may q ∙ c.whose q ne;
        few = c.few;
      }

  -- ---- a stranger sends

  -- No actor learns anything from it.
  strayed : (x : Play) (r : Request) (o : Outcome) → Carried g x → Carried g (happen g x (Strays r o))
  strayed x r o c = record { known = λ a m e. by a m e (c.known a m e); nobody = c.nobody; whose = c.whose; few = c.few }
    where
      by : (a : Actor) (m : Running) → x.running a ≡ Some m → m.known ≡ knows_now g x a → m.known ≡ knows_now g (happen g x (Strays r o)) a
      by Shell m e h = absurd (none_some c.nobody e)
      by a m e h = h ∙ ap (knows g.script (who a)) (sym (by_own a refl x.journal (length x.ends) r o))

  -- ---- all of it

  pub carried : (x : Play) → Reachable g opening x → Carried g x
  carried x (nothing_happened) = first
  carried x (happens y (Opens ev) past may) = opens y ev may (carried y past)
  carried x (happens y (Sends e) past may) = sends y e may (carried y past)
  carried x (happens y (Finishes z) past may) = let c = carried y past in record
      { known = c.known; nobody = c.nobody; whose = c.whose; few = c.few }
  carried x (happens y (Strays r o) past may) = strayed y r o (carried y past)
  carried x (happens y _ past may) = let c = carried y past in record {
    known = c.known;
    nobody = c.nobody;
    whose = c.whose;
    few = λ ev e.
        absurd (none_some refl e);
  }
