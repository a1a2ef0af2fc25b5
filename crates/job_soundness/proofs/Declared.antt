-- Each attempt that the job's commit has chosen is one that the script declares.
use Rattle.text_and_lists.proofs.Members.{false_true, in_append, none_some}
use Rattle.text_and_lists.specs.Members.{IsIn}
use Rattle.job_invariant.specs.Told.{strange_entry}
use Rattle.job_model.specs.Attempts.{Declared, declares, is_known}
use Rattle.job_model.specs.JobScript.{Script}
use Rattle.job_model.specs.Legal.{IsEvent, IsLegal}
use Rattle.job_model.specs.declared.ends.ActorEnd.{ActorEnd}
use Rattle.job_model.specs.declared.events.Event.{Event}
use Rattle.job_model.specs.declared.events.Event.TheVariants.{Do, Kill, Restart, Start}
use Rattle.job_model.specs.declared.states.ActorState.{ActorState}
use Rattle.job_protocol.specs.Operations.{Setting}
use Rattle.job_protocol.specs.Seen.{Seen, Times, nothing_seen, see, see_all}
use Rattle.job_soundness.proofs.Claimed.{AreDeclared}
use Rattle.job_spec.specs.States.{Past, dead, end_op, ended, idle, open_event, put, restarted}
use Rattle.job_spec.specs.Turns.{is_busy, is_own}
use Rattle.script_steps.proofs.Actors.{one_put}
use Rattle.script_steps.proofs.PastMore.{busy_so, ended_idle, event_at}
use Rattle.script_steps.proofs.Told.{told_all}
use Rattle.script_steps.specs.Transitions.{Closes, Enabled, Finishes, Opens, Play, Reachable, Refuses, Sends, Strays, Transition, happen}
use Rattle.script_steps.specs.Transitions.{happens, nothing_happened}
use Rattle.s3_types.specs.Store.{Content}
use Rattle.s3_types.specs.declared.journal.Entry.{Entry}
use Rattle.s3_types.specs.declared.request.Actor.{Actor}
use Rattle.s3_types.specs.declared.request.Actor.TheVariants.{Attempt, Driver}
use Rattle.std.proofs.Common.{List, Some, ap, arith, inl, inr, length, refl, subst, sym, true, ℕ, [], ◌++◌, ◌∙◌, ◌∷◌, ◌≡◌, ◌⊎◌}
use Rattle.std.proofs.lemmas.Bool.Decides.{nat_tests}

-- ---- each busy actor is one of the job's

abbrev KnownBusy : List Declared → Past → Type 0
KnownBusy all p = (a : Actor) → is_busy (p.state a).life ≡ true → is_known all a ≡ true

module _ (all : List Declared) (p : Past) (old : KnownBusy all p) where
  -- If one actor gets a state, and is one of the job's if it is busy then, each busy actor is one of the job's.
  put_known : (a : Actor) (s : ActorState) → (is_busy s.life ≡ true → is_known all a ≡ true) → (b : Actor)
      → is_busy (put p.state a s b).life ≡ true → is_known all b ≡ true
  put_known a s here b = one_put (λ (v : ActorState). is_busy v.life ≡ true
      → is_known all b ≡ true) p.state a s b (λ e busy. ap (is_known all) e ∙ here busy) (λ ne. old b)

  open_known : (w : Script) (ev : Event) → IsEvent all ev → KnownBusy all (open_event w p ev)
  open_known w (Do a op) h = put_known a _ (λ b. h.0)
  open_known w (Start a op) h = put_known a _ (λ b. h.0)
  open_known w (Kill a) h = put_known a (dead (p.state a).stage) (λ b. absurd (false_true refl b))
  open_known w Restart h = put_known Driver (idle (restarted (p.state Driver).stage)) (λ b. absurd (false_true refl b))
  open_known w _ h = old

  end_known : (y : ActorEnd) → KnownBusy all (end_op p y)
  end_known y = put_known y.actor (ended y.end (p.state y.actor).stage) (λ b. absurd (false_true (ended_idle y.end
      (p.state y.actor).stage) b))

-- Each sender of an entry of the job is one of its actors too.
abbrev KnownSent : List Declared → List Entry → Type 0
KnownSent all es = (e : Entry) → IsIn e es → is_own e.actor ≡ true → is_known all e.actor ≡ true

record Known (g : Setting) (x : Play) : Type 0 where
  pub busy : KnownBusy g.script.attempts x.live
  pub sent : KnownSent g.script.attempts x.journal

sent_more : (all : List Declared) (es : List Entry) (e : Entry) → KnownSent all es → (is_own e.actor ≡ true
    → is_known all e.actor ≡ true) → KnownSent all (es ++ e ∷ [])
sent_more all es e old new f i own = elim (in_append f es (e ∷ []) i) [
  | inl k ↦ old f k own
  | inr k ↦ elim k [
    | inl is ↦ ap (λ (y : Entry). is_known all y.actor) is ∙ new (ap (λ (y : Entry). is_own y.actor) (sym is)
        ∙ own)
    | inr none ↦ absurd none
  ]
]

module _ (g : Setting) (opening : Content) (legal : IsLegal g.script) where
  known_more : (x : Play) (h : Transition) → Reachable g opening x → Enabled g opening x h → Known g x → Known g (happen g x h)
  known_more x (Refuses f) run ok old = record {
    busy = subst (KnownBusy g.script.attempts)
        ((told_all g opening x run).closed ok.1.idle).0 old.busy;
    sent = old.sent;
  }
  known_more x (Opens ev) run ok old = record {
    busy = open_known g.script.attempts x.past (subst (KnownBusy g.script.attempts)
        ((told_all g opening x run).closed ok.idle).0 old.busy) g.script ev (event_at g.script.attempts g.script.events
        (length x.ends) ev legal.events ok.next);
    sent = old.sent;
  }
  known_more x (Sends e) run ok old = record {
    busy = old.busy;
    sent =
        sent_more g.script.attempts x.journal e old.sent (λ own. old.busy e.actor (busy_so _ ok.busy));
  }
  known_more x (Finishes y) run ok old = record { busy = end_known g.script.attempts x.live old.busy y; sent = old.sent }
  known_more x (Closes end) run ok old = record { busy = old.busy; sent = old.sent }
  known_more x (Strays r o) run ok old = record {
    busy = old.busy;
    sent =
        sent_more g.script.attempts x.journal (strange_entry (length x.ends) r o) old.sent (λ own. absurd (false_true refl own));
  }

  known_all : (x : Play) → Reachable g opening x → Known g x
  known_all x nothing_happened = record { busy = λ a busy. absurd (false_true refl busy); sent = λ e i. absurd i }
  known_all x (happens y h before ok) = known_more y h before ok (known_all y before)

-- ---- each choice is of a declared attempt

module _ (w : Script) (k : Times) where
  see_last : (s : Seen) (e : Entry) (t a : ℕ) → (see w k s e).last t ≡ Some a → (s.last t ≡ Some a) ⊎ (e.actor ≡ Attempt t a)
  see_last s e t a h = grind (arith, nat_tests)

  see_picks : (s : Seen) (e : Entry) (t a : ℕ) → (see w k s e).picks t ≡ Some a → (s.picks t ≡ Some a) ⊎ (s.last t ≡ Some a)
  see_picks s e t a h = grind (arith, nat_tests)

  record Chosen (s : Seen) : Type 0 where
    pub last : (t a : ℕ) → s.last t ≡ Some a → declares w.attempts (record { task = t; attempt = a }) ≡ true
    pub picks : AreDeclared w s.picks

  chosen_more : (s : Seen) (e : Entry) → (is_own e.actor ≡ true → is_known w.attempts e.actor ≡ true) → Chosen s → Chosen (see w k s e)
  chosen_more s e known old = record {
    last = λ t a h. elim (see_last s e t a h) [
      | inl same ↦ old.last t a same
      | inr new ↦ ap (is_known w.attempts) (sym new) ∙ known (ap is_own new)
    ];
    picks = λ t a h. elim (see_picks s e t a h) [ inl same ↦ old.picks t a same | inr last ↦ old.last t a last ];
  }

  chosen_all : (s : Seen) (es : List Entry) → KnownSent w.attempts es → Chosen s → Chosen (see_all w k s es)
  chosen_all s [] known old = old
  chosen_all s (e ∷ es) known old = chosen_all (see w k s e) es (λ f i. known f (inr i)) (chosen_more s e (known e (inl refl)) old)

pub declared : (g : Setting) (k : Times) (opening : Content) → IsLegal g.script → (x : Play) → Reachable g opening x
    → AreDeclared g.script (see_all g.script k (nothing_seen opening) x.journal).picks
declared g k opening legal x run =
    (chosen_all g.script k (nothing_seen opening) x.journal (known_all g opening legal x run).sent (record {
      last =
          λ t a h. absurd (none_some refl h);
      picks = λ t a h. absurd (none_some refl h);
    })).picks
