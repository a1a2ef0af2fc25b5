-- A run whose machine has no next request is over; it is whole if no request exhausted its retries.
use Rattle.machine.proofs.Literal.{literal_whole, literal_worn}
use Rattle.machine.proofs.Tries.{tried_whole, tried_worn}
use Rattle.machine.specs.Drove.{Drove, IsOver, IsRun, standing_after}
use Rattle.machine.specs.inner.Drove.{Driving}
use Rattle.machine.specs.Standing.{Standing}
use Rattle.machine.specs.Turns.{retried}
use Rattle.machine.specs.declared.driving.DriveStop.TheVariants.{StoreFault}
use Rattle.machine.specs.declared.retrying.Retrying.{Retrying}
use Rattle.retries.specs.Retries.{Item}
use Rattle.s3_types.specs.Store.{Scene}
use Rattle.s3_types.specs.declared.fates.Fate.{Fate}
use Rattle.s3_types.specs.declared.journal.Entry.{Entry}
use Rattle.s3_types.specs.declared.request.Actor.{Actor}
use Rattle.s3_types.specs.declared.request.Request.{Request}
use Rattle.std.proofs.Common.{Bool, Err, List, None, Ok, Option, ap, false, subst, sym, true, ℕ, ◌<◌, ◌∙◌, ◌≡◌}

module _ {M : Type 0} (wants : M → Option Request) (after : M → Item → M) (ready : M → Scene → Bool → Type 0) (standing : M → Standing)
    (actor : Actor) (event : ℕ) where
  over : (t t' u : Retrying M) (s s' z : Scene) (old new : List Entry) (before now : ℕ) (told tells : ℕ → Option Fate) (first requests : ℕ)
      (worn b : Bool)
      → (d : Driving after wants ready standing actor event t t' s s' old new before now told tells first requests worn)
      → wants t'.machine ≡ None → u ≡ t' → z ≡ s' → worn ≡ b → IsOver wants after ready standing t d.part u z b
  over t t' u s s' z old new before now told tells first requests worn b d none eu ez w = record {
    there = ap (λ (v : Retrying M). retried v) eu ∙ d.there;
    retries = ap (λ (v : Retrying M). v.retries) eu ∙ d.retries;
    over = ap (λ v. wants v.machine) eu ∙ none;
    ready_still = subst (λ v. ready v.machine z v.repeated) (sym eu) (subst (λ v. ready t'.machine v t'.repeated) (sym ez) d.ready_still);
    wore = sym d.wore ∙ w;
    stands = ap (λ v. standing v.machine) eu ∙ d.stands ∙ ap (λ v. standing_after v (standing t.machine)) w;
  }

  scene_of : (t : Retrying M) (s s' z : Scene) (part : List Entry) → z ≡ s' → IsRun wants after actor event t s part s'
      → IsRun wants after actor event t s part z
  scene_of t s s' z part e r = record { by = r.by; honest = r.honest; follows = r.follows; scene = e ∙ r.scene }

  -- A request exhausted its retries.
  pub drove_worn : {T : Type 0} (t t' u : Retrying M) (s s' z : Scene) (old new end : List Entry) (before now then : ℕ)
      (told tells : ℕ → Option Fate) (first requests : ℕ) (worn : Bool)
      → Driving after wants ready standing actor event t t' s s' old new before now told tells first requests worn
      → wants t'.machine ≡ None → u ≡ t' → z ≡ s' → then ≡ now → end ≡ new → worn ≡ true
      → Drove {T = T} wants after ready standing actor event t u s z old end before then told first (Err StoreFault)
  drove_worn t t' u s s' z old new end before now then told tells first requests worn d none eu ez en ee w = record {
    part = d.part;
    appended = ee ∙ d.appended;
    is_run = scene_of t s s' z d.part ez d.is_run;
    foretold = d.foretold;
    tried = tried_worn t.retries wants after (retried t) d.part d.is_run.follows (sym (ap (λ v. wants v.operation) d.there) ∙ none)
        (sym d.wore ∙ w);
    literal = literal_worn t.retries wants after (retried t) t.machine d.part d.is_run.follows (sym d.wore ∙ w);
    ended = (
      over t t' u s s' z old new before now told tells first requests worn true d none eu ez w,
      subst (λ n. before < n) (sym en)
          (d.lost w),
    );
  }

  -- No request exhausted its retries.
  pub drove_whole : {T : Type 0} (x : T) (t t' u : Retrying M) (s s' z : Scene) (old new end : List Entry) (before now then : ℕ)
      (told tells : ℕ → Option Fate) (first requests : ℕ) (worn : Bool)
      → Driving after wants ready standing actor event t t' s s' old new before now told tells first requests worn
      → wants t'.machine ≡ None → u ≡ t' → z ≡ s' → then ≡ now → end ≡ new → worn ≡ false
      → Drove wants after ready standing actor event t u s z old end before then told first (Ok x)
  drove_whole x t t' u s s' z old new end before now then told tells first requests worn d none eu ez en ee w = record {
    part = d.part;
    appended = ee ∙ d.appended;
    is_run = scene_of t s s' z d.part ez d.is_run;
    foretold = d.foretold;
    tried = tried_whole t.retries wants after x (retried t) d.part d.is_run.follows (sym (ap (λ v. wants v.operation) d.there) ∙ none)
        (sym d.wore ∙ w);
    literal = literal_whole t.retries wants after (retried t) t.machine d.part d.is_run.follows (sym d.wore ∙ w);
    ended = over t t' u s s' z old new before now told tells first requests worn false d none eu ez w;
  }
