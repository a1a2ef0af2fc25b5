-- What happened so far is as the script's events say, by the journal and the ends alone: each step keeps that.
use Rattle.text_and_lists.proofs.Members.{none_some, some_is}
use Rattle.job_invariant.specs.Told.{strange_entry}
use Rattle.job_model.specs.JobScript.{Script}
use Rattle.job_model.specs.Known.{Known}
use Rattle.job_model.specs.declared.ends.ActorEnd.{ActorEnd}
use Rattle.job_model.specs.declared.ends.EventEnd.{EventEnd}
use Rattle.job_model.specs.declared.ends.EventEnd.TheVariants.{Refused}
use Rattle.job_model.specs.declared.ends.EventFault.{EventFault}
use Rattle.job_model.specs.declared.events.Event.{Event}
use Rattle.job_model.specs.declared.events.Event.TheVariants.{Do, Kill, Restart, Start}
use Rattle.job_model.specs.declared.events.Op.{Op}
use Rattle.job_model.specs.declared.states.ActorState.{ActorState}
use Rattle.job_model.specs.declared.states.Life.TheVariants.{Busy}
use Rattle.job_protocol.specs.Knowledge.{knows}
use Rattle.job_protocol.specs.Operations.{Operation, Running, Setting, advance, over, start_of, wants, who}
use Rattle.job_spec.specs.Follows.{AllObeyed, FollowsFrom, Obeyed, OpFollows, known_then, op_over, over_from}
use Rattle.job_spec.specs.States.{Doing, Past, after_event, begin, count, dead, end_op, end_ops, ended, idle, nothing_past, open_event}
use Rattle.job_spec.specs.States.{past, put, refusal, reports, restarted, same_actor, told}
use Rattle.job_spec.specs.Turns.{AllFrom, AllUpTo, IsRising, Turns, before, by_actor, is_busy, is_wanting, of_event, own, since, until}
use Rattle.script_steps.proofs.Actors.{both_put, one_put, put_other, same_false, same_true}
use Rattle.script_steps.proofs.Parts.{before_all, before_late, by_another, by_itself, by_own, event_none, event_own, from_own, get_last}
use Rattle.script_steps.proofs.Parts.{honest_last, own_own, rising_last, since_late, since_none, take_whole, until_all, until_either}
use Rattle.script_steps.proofs.Parts.{until_late, up_to_last, up_to_more, up_to_part}
use Rattle.script_steps.proofs.PastMore.{Begins, Starts, after_is, busy_is, busy_not, ended_idle, ends_more, fine_begins, opening_counts}
use Rattle.script_steps.proofs.PastMore.{past_more, turns_refused}
use Rattle.script_steps.specs.Transitions.{Closes, Finishes, MayClose, MayFinish, MayOpen, MaySend, MayStray, Opens, Play, Reachable}
use Rattle.script_steps.specs.Transitions.{Refuses}
use Rattle.script_steps.specs.Transitions.{Sends, Strays, begin_running, begun, happen, happens, hear, knows_now, nothing_happened}
use Rattle.script_steps.specs.Transitions.{nothing_played, open_running}
use Rattle.retries.proofs.Runs.{follows_more, run_more}
use Rattle.retries.specs.Operation.{Follows, run}
use Rattle.s3_types.specs.Answer.{answer}
use Rattle.s3_types.specs.Moment.{IsHonest, IsHonestOutcome, after_all}
use Rattle.s3_types.specs.Store.{Content}
use Rattle.s3_types.specs.declared.journal.Entry.{Entry}
use Rattle.s3_types.specs.declared.journal.Outcome.{Outcome}
use Rattle.s3_types.specs.declared.request.Actor.{Actor}
use Rattle.s3_types.specs.declared.request.Actor.TheVariants.{Driver, Shell}
use Rattle.s3_types.specs.declared.request.Request.{Request}
use Rattle.std.proofs.Common.{List, None, Option, Some, ap, arith, false, inl, inr, length, length-append, refl, slice_get, subst, sym}
use Rattle.std.proofs.Common.{take, true, ℕ, [], ◌++◌, ◌+◌, ◌<◌, ◌∙◌, ◌∷◌, ◌≡◌, ◌≤◌, ◌⊎◌}
use Rattle.std.proofs.lemmas.List.{take-append-le}
use Rattle.std.proofs.lemmas.Option.{slice_get_within}
use Rattle.s3_types.specs.Store as store

-- ---- operations

-- An operation that its actor began, knowing k, and to which its entries since then led.
pub record Led (g : Setting) (a : Actor) (d : Doing) (k : Known) (part : List Entry) (m : Option Running) : Type 0 where
  pub op : Operation
  pub begun_is : start_of g a d.op d.reports k ≡ Some op
  pub follows : Follows (wants g a) (advance g a) (record { operation = op; known = k }) part
  pub at : m ≡ Some (run (advance g a) (record { operation = op; known = k }) part)

led_more : (g : Setting) (a : Actor) (d : Doing) (k : Known) (part : List Entry) (m : Running) (e : Entry) → Led g a d k part (Some m)
    → wants g a m ≡ Some e.request → Led g a d k (part ++ e ∷ []) (hear g a (Some m) e)
led_more g a d k part m e h f = grind (arith, follows_more, run_more)

-- The operation that an actor began last, in one of the first n events, and to which its own entries es led.
pub record Runs (g : Setting) (a : Actor) (d : Doing) (es : List Entry) (m : Option Running) (n : ℕ) : Type 0 where
  pub from_then : d.since ≤ n
  pub led : Led g a d (known_then g a d es) (since d.since es) m

module _ (g : Setting) (a : Actor) (d : Doing) (es : List Entry) (n : ℕ) where
  pub runs_follow : (o : Option Running) → Runs g a d es o n → OpFollows g a d es
  runs_follow o r = subst (FollowsFrom g a d es) (sym r.led.begun_is) r.led.follows

  pub runs_over : (o : Option Running) (m : Running) → Runs g a d es o n → o ≡ Some m → op_over g a d es ≡ over m.operation
  runs_over o m r e = ap (over_from g a d es) r.led.begun_is ∙ ap (λ (v : Running). over v.operation) (some_is (sym r.led.at ∙ e))

  runs_sent : (m : Running) (e : Entry) → Runs g a d es (Some m) n → n ≤ e.event → wants g a m ≡ Some e.request
      → Runs g a d (es ++ e ∷ []) (hear g a (Some m) e) n
  runs_sent m e h g f = grind (arith, before_late, since_late, led_more)

-- ---- what is kept

pub record Opened (g : Setting) (x : Play) (ev : Event) : Type 0 where
  pub next : slice_get g.script.events (length x.ends) ≡ Some ev
  pub fine : refusal x.past.state ev ≡ None
  pub live_is : x.live ≡ end_ops (open_event g.script x.past ev) x.finished

-- An operation that ended in the event in progress.
pub record Finished (x : Play) (y : ActorEnd) : Type 0 where
  pub idle : is_busy (x.live.state y.actor).life ≡ false
  pub doing : Doing
  pub does : x.live.doing y.actor ≡ Some doing
  pub end : (is_wanting y.actor doing.op y.end ≡ true) ⊎ ((m : Running) × (x.running y.actor ≡ Some m) × (over m.operation ≡ Some y.end))

-- The operation of each actor.
abbrev pub AllRun : Setting → (Actor → Option Doing) → List Entry → (Actor → Option Running) → ℕ → Type 0
AllRun g doing journal running n = (a : Actor) (d : Doing) → doing a ≡ Some d → Runs g a d (by_actor a journal) (running a) n

-- Each busy actor has begun an operation.
abbrev pub AllDo : Past → Type 0
AllDo p = (a : Actor) → (p.state a).life ≡ Busy → (d : Doing) × (p.doing a ≡ Some d)

-- Each busy actor has more to send.
abbrev pub AllGo : Past → (Actor → Option Running) → Type 0
AllGo p running = (a : Actor) (m : Running) → (p.state a).life ≡ Busy → running a ≡ Some m → over m.operation ≡ None

pub record Told (g : Setting) (opening : Content) (x : Play) : Type 0 where
  pub past_is : x.past ≡ past g.script x.ends
  pub counts : x.past.events ≡ length x.ends
  pub live_counts : x.live.events ≡ length x.ends
  pub closed : x.now ≡ None → (x.live ≡ x.past) × AllUpTo (length x.ends) x.journal
  pub opened : (ev : Event) → x.now ≡ Some ev → Opened g x ev
  pub up_to : AllUpTo (length x.ends + 1) x.journal
  pub runs : AllRun g x.live.doing x.journal x.running (length x.ends + 1)
  -- Between two events, each operation was begun in an event that is over.
  pub over : x.now ≡ None → (a : Actor) (d : Doing) → x.live.doing a ≡ Some d → d.since ≤ length x.ends
  pub does : AllDo x.live
  pub finish : (i : ℕ) (y : ActorEnd) → slice_get x.finished i ≡ Some y → Finished x y
  pub going : x.now ≡ None → AllGo x.live x.running
  pub rising : IsRising x.journal
  pub numbered : AllFrom 1 (own x.journal)
  pub obeyed : AllObeyed g x.ends x.journal
  pub honest : IsHonest opening x.journal
  pub within : length x.ends ≤ length g.script.events

-- While an event is in progress, nothing is said of the time between events.
during : (y : Play) (ev : Event) → y.now ≡ Some ev
    → (y.now ≡ None → (y.live ≡ y.past) × AllUpTo (length y.ends) y.journal)
    × (y.now ≡ None → (a : Actor) (d : Doing) → y.live.doing a ≡ Some d → d.since ≤ length y.ends)
    × (y.now ≡ None → AllGo y.live y.running)
during y ev is = (λ e. absurd (none_some e is), λ e. absurd (none_some e is), λ e. absurd (none_some e is))

-- ---- events that are over, and an entry of a stranger after them

module _ (g : Setting) (xs : List EventEnd) (journal : List Entry) (n : ℕ) (r : Request) (o : Outcome) where
  abbrev more : List Entry
  more = journal ++ strange_entry n r o ∷ []

  follow_on : (a : Actor) (d : Doing) → OpFollows g a d (by_actor a journal) → OpFollows g a d (by_actor a more)
  follow_on Shell d f = absurd f
  follow_on a d f = subst (OpFollows g a d) (sym (by_own a refl journal n r o)) f

  over_on : (a : Actor) (d : Doing) → OpFollows g a d (by_actor a journal)
      → op_over g a d (by_actor a more) ≡ op_over g a d (by_actor a journal)
  over_on Shell d f = absurd f
  over_on a d f = ap (op_over g a d) (by_own a refl journal n r o)

  obeyed_on : (ev : Event) (end : EventEnd) → Obeyed g xs journal ev end → Obeyed g xs more ev end
  obeyed_on ev end old = record {
    refused = old.refused;
    refuses = old.refuses;
    silent = λ f e. event_own (length xs + 1) journal n r o ∙ old.silent f e;
    turns = λ e. subst (Turns g.script (past g.script xs).state ev end) (sym (event_own (length xs + 1) journal n r o)) (old.turns e);
    follow = λ a d e. follow_on a d (old.follow a d e);
    goes_on = λ a d e b. over_on a d (old.follow a d e) ∙ old.goes_on a d e b;
    over = λ i x e. let q = old.over i x e in (
      q.0,
      q.1,
      elim q.2 [
        | inl wanting ↦ inl wanting
        | inr is ↦ inr
            (over_on x.actor q.0 (old.follow x.actor q.0 q.1) ∙ is)
      ],
    );
  }

obeyed_strays : (g : Setting) (xs : List EventEnd) (journal : List Entry) (n : ℕ) (r : Request) (o : Outcome) → AllObeyed g xs journal
    → AllObeyed g xs (journal ++ strange_entry n r o ∷ [])
obeyed_strays g xs journal n r o all k ev end at that = elim (until_either (k + 1) journal (strange_entry n r o)) [
  | inl same ↦ subst (λ es. Obeyed g (take k xs) es ev end) (sym same) (all k ev end at that)
  | inr more ↦ subst (λ es. Obeyed g (take k xs) es ev end) (sym more) (obeyed_on g (take k xs) (until (k + 1) journal) n r o ev end
      (all k ev end at that))
]

-- ---- events that are over, and one more entry of the next

obeyed_later : (g : Setting) (xs : List EventEnd) (journal : List Entry) (e : Entry) → e.event ≡ length xs + 1 → AllObeyed g xs journal
    → AllObeyed g xs (journal ++ e ∷ [])
obeyed_later g xs journal e now all k ev end at that =
    let below : k < length xs = slice_get_within xs k end that in
    let late : k + 1 < e.event = omega arith in
    subst (λ es. Obeyed g (take k xs) es ev end) (sym (until_late (k + 1) journal e late)) (all k ev end at that)

module _ (g : Setting) (xs : List EventEnd) (journal : List Entry) (ev : Event) (end : EventEnd)
    (next : slice_get g.script.events (length xs) ≡ Some ev) (up_to : AllUpTo (length xs + 1) journal) where
  obeyed_more : AllObeyed g xs journal → Obeyed g xs journal ev end → AllObeyed g (xs ++ end ∷ []) journal
  obeyed_more all one k v y at that = elim (get_last xs end k y that) [
    | inl h ↦
        let below : k < length xs = slice_get_within xs k y h in
        subst (λ ys. Obeyed g ys (until (k + 1) journal) v y) (sym (take-append-le k xs (end ∷ []) (omega (arith, below)))) (all k v y at h)
    | inr h ↦
        let same : ev ≡ v = some_is (sym next ∙ ap (slice_get g.script.events) (sym h.0) ∙ at) in
        subst (λ n. Obeyed g (take n (xs ++ end ∷ [])) (until (n + 1) journal) v y) (sym h.0)
        (subst (λ ys. Obeyed g ys (until (length xs + 1) journal) v y) (sym
        (take-append-le (length xs) xs (end ∷ []) (omega arith) ∙ take_whole xs))
        (subst (λ es. Obeyed g xs es v y) (sym (until_all (length xs + 1) journal up_to))
        (subst (λ u. Obeyed g xs journal v u) h.1 (subst (λ u. Obeyed g xs journal u end) same one))))
  ]

-- ---- simple facts about the steps

refused_is : {f k : EventFault} → Refused f ≡ Refused k → f ≡ k
refused_is e = cc

begun_do : (w : Script) (p : Past) (a : Actor) (op : Op) → AllDo p → AllDo (begin w p a op)
begun_do w p a op old b = both_put (λ s o. s.life ≡ Busy → (d : Doing) × (o ≡ Some d)) p.state p.doing a _ _ b (λ s busy. (_, refl))
    (λ ne. old b)

-- An actor gets a state that is not busy.
idled_do : (p : Past) (a : Actor) (s : ActorState) → is_busy s.life ≡ false → AllDo p → (b : Actor) → (put p.state a s b).life ≡ Busy
    → (d : Doing) × (p.doing b ≡ Some d)
idled_do p a s idle old b = one_put (λ s. s.life ≡ Busy → (d : Doing) × (p.doing b ≡ Some d)) p.state a s b
    (λ e busy. absurd (busy_not _ busy idle)) (λ ne. old b)

opened_do : (w : Script) (p : Past) (ev : Event) → AllDo p → AllDo (open_event w p ev)
opened_do w p (Do a op) old = begun_do w p a op old
opened_do w p (Start a op) old = begun_do w p a op old
opened_do w p (Kill a) old = idled_do p a (dead (p.state a).stage) refl old
opened_do w p Restart old = idled_do p Driver (idle (restarted (p.state Driver).stage)) refl old
opened_do w p _ old = old

module _ (g : Setting) (opening : Content) (x : Play) (h : Told g opening x) where
  -- ---- an event is over, or refused

  module _ (ev : Event) (end : EventEnd) (p : Past) (next : slice_get g.script.events (length x.ends) ≡ Some ev)
      (after : after_event g.script (past g.script x.ends) ev end ≡ count p) (counts : p.events ≡ length x.ends)
      (runs : AllRun g p.doing x.journal x.running (length x.ends + 1)) (does : AllDo p) (go : AllGo p x.running) where
    abbrev first : Past
    first = past g.script x.ends

    runs_so : (a : Actor) (d : Doing) → (after_event g.script first ev end).doing a ≡ Some d
        → Runs g a d (by_actor a x.journal) (x.running a) (length x.ends + 1)
    runs_so a d e = runs a d (ap (λ (q : Past). q.doing a) (sym after) ∙ e)

    ended_told : ((f : EventFault) → end ≡ Refused f → (refusal first.state ev ≡ Some f) × (of_event (length x.ends + 1) x.journal ≡ []))
        → ((f : EventFault) → refusal first.state ev ≡ Some f → end ≡ Refused f)
        → (refusal first.state ev ≡ None → Turns g.script first.state ev end (of_event (length x.ends + 1) x.journal))
        → ((i : ℕ) (y : ActorEnd) → slice_get (told ev end) i ≡ Some y
        → (d : Doing) × (p.doing y.actor ≡ Some d)
        × ((is_wanting y.actor d.op y.end ≡ true) ⊎ (op_over g y.actor d (by_actor y.actor x.journal) ≡ Some y.end)))
        → Told g opening (record {
          journal = x.journal;
          ends = x.ends ++ end ∷ [];
          now = None;
          past = count p;
          live = count p;
          finished =
              [];
          running = x.running;
        })
    ended_told refused refuses turns over =
        let one : Obeyed g x.ends x.journal ev end = record {
          refused = λ f e. (refused f e).0;
          refuses = refuses;
          silent = λ f e. (refused f e).1;
          turns = turns;
          follow = λ a d e. runs_follow g a d (by_actor a x.journal) (length x.ends + 1) (x.running a) (runs_so a d e);
          goes_on = λ a d e b.
              let r = runs_so a d e in
              let busy = busy_is _ (ap (λ (q : Past). is_busy (q.state a).life) (sym after) ∙ b) in
              runs_over g a d (by_actor a x.journal) (length x.ends + 1) (x.running a) _ r r.led.at ∙ go a _ busy r.led.at;
          over = λ i y e. let q = over i y e in (q.0, ap (λ (v : Past). v.doing y.actor) after ∙ q.1, q.2);
        } in
        let longer : length (x.ends ++ end ∷ []) ≡ length x.ends + 1 = length-append x.ends (end ∷ []) in
        let counted : p.events + 1 ≡ length (x.ends ++ end ∷ []) = ap (λ n. n + 1) counts ∙ sym longer in
        let upto : AllUpTo (length (x.ends ++ end ∷ [])) x.journal = subst (λ n. AllUpTo n x.journal) (sym longer) h.up_to in
        let there : length x.ends < length g.script.events = slice_get_within g.script.events (length x.ends) ev next in
        record {
          past_is = sym (past_more g.script nothing_past g.script.events x.ends ev end next ∙ after);
          counts = counted;
          live_counts = counted;
          closed = λ e. (refl, upto);
          opened = λ v e. absurd (none_some refl e);
          up_to = up_to_more (length (x.ends ++ end ∷ [])) (length (x.ends ++ end ∷ []) + 1) x.journal (omega arith) upto;
          runs = λ a d e. (let q = runs a d e in record { from_then = omega (arith, q.from_then, longer); led = q.led });
          over = λ n a d e. let then : d.since ≤ length x.ends + 1 = (runs a d e).from_then in omega (arith, longer, then);
          does = does;
          finish = λ i y e. absurd (none_some refl e);
          going = λ e. go;
          rising = h.rising;
          numbered = h.numbered;
          obeyed = obeyed_more g x.ends x.journal ev end next h.up_to h.obeyed one;
          honest = h.honest;
          within = omega (arith, longer, there);
        }

  closes : (end : EventEnd) → MayClose g x end → Told g opening (happen g x (Closes end))
  closes end ok =
      let o = h.opened ok.event ok.during in
      let never : (f : EventFault) → end ≡ Refused f → ⊥ = λ f e. turns_refused g.script x.past.state ok.event end _ f ok.turns e in
      let after : after_event g.script x.past ok.event end ≡ count x.live =
      after_is g.script x.past ok.event end never ∙ ap (λ ys. count (end_ops (open_event g.script x.past ok.event) ys)) ok.told_is ∙ ap
      count (sym o.live_is) in
      ended_told ok.event end x.live o.next (ap (λ p. after_event g.script p ok.event end) (sym h.past_is) ∙ after) h.live_counts h.runs
      h.does ok.going
      (λ f e. absurd (never f e))
      (λ f e. absurd (none_some (ap (λ (p : Past). refusal p.state ok.event) (sym h.past_is) ∙ o.fine) e))
      (λ e. subst (λ (p : Past). Turns g.script p.state ok.event end (of_event (length x.ends + 1) x.journal)) h.past_is ok.turns)
      (λ i y e.
      let f = h.finish i y (ap (λ ys. slice_get ys i) (sym ok.told_is) ∙ e) in
      let r = h.runs y.actor f.doing f.does in (
        f.doing,
        f.does,
        elim f.end [
          | inl wanting ↦ inl wanting
          | inr q ↦ inr (runs_over g y.actor f.doing (by_actor y.actor x.journal) (length x.ends + 1) (x.running y.actor) q.0 r q.1 ∙ q.2)
        ],
      ))

  -- Between two events the operations go on from the states then.
  resting : x.now ≡ None → AllRun g x.past.doing x.journal x.running (length x.ends + 1) × AllDo x.past × AllGo x.past x.running
  resting idle =
      let e = (h.closed idle).0 in (
        subst (λ (p : Past). AllRun g p.doing x.journal x.running (length x.ends + 1)) e h.runs,
        subst AllDo e
            h.does,
        subst (λ p. AllGo p x.running) e (h.going idle),
      )

  refuses : (f : EventFault) (ev : Event) → MayOpen g x ev (Some f) → Told g opening (happen g x (Refuses f))
  refuses f ev ok =
      let r = resting ok.idle in
      let refusal_is : refusal (past g.script x.ends).state ev ≡ Some f = ap (λ (p : Past). refusal p.state ev) (sym h.past_is) ∙
      ok.refusal_is in
      ended_told ev (Refused f) x.past ok.next (ap count (sym h.past_is)) h.counts r.0 r.1 r.2
      (λ k e. (refusal_is ∙ ap (λ v. Some v) (refused_is e), event_none (length x.ends) x.journal (h.closed ok.idle).1))
      (λ k e. ap (λ v. Refused v) (some_is (sym refusal_is ∙ e)))
      (λ e. absurd (none_some e refusal_is))
      (λ i y e. absurd (none_some refl e))

  -- ---- an event begins

  abbrev since_now : Actor → Op → Doing
  since_now a op = record { op = op; since = x.past.events + 1; reports = reports g.script x.past.reported }

  -- An actor that begins an operation has no entry in this event yet.
  began_at : (a : Actor) (op : Op) → Starts g a op → AllUpTo (length x.ends) x.journal
      → Runs g a (since_now a op) (by_actor a x.journal) (begun (start_of g a op (reports g.script x.past.reported) (knows_now g x a))
      (knows_now g x a)) (length x.ends + 1)
  began_at a op starts upto =
      let k : Known = knows_now g x a in
      let es : List Entry = by_actor a x.journal in
      let n : ℕ = x.past.events in
      let s = starts (reports g.script x.past.reported) k in
      let all : AllUpTo n es = up_to_part n (λ e. same_actor e.actor a) x.journal (subst (λ m. AllUpTo m x.journal) (sym h.counts) upto) in
      let o = begun (start_of g a op (reports g.script x.past.reported) k) k in
      let l : Led g a (since_now a op) k [] o = record { op = s.0; begun_is = s.1; follows = tt; at = ap (λ v. begun v k) s.1 } in
      record {
        from_then = omega (arith, h.counts);
        led = subst (λ p. Led g a (since_now a op) (knows g.script (who a) p) (since (n + 1) es) o) (sym (before_all n es all))
            (subst (λ p. Led g a (since_now a op) k p o) (sym (since_none n es all)) l);
      }

  began : (a : Actor) (op : Op) → Starts g a op → AllUpTo (length x.ends) x.journal
      → AllRun g x.past.doing x.journal x.running (length x.ends + 1)
      → AllRun g (begin g.script x.past a op).doing x.journal (begin_running g x a op) (length x.ends + 1)
  began a op starts upto old b = both_put (λ o m. (d : Doing) → o ≡ Some d → Runs g b d (by_actor b x.journal) m (length x.ends + 1))
      x.past.doing x.running a (Some (since_now a op)) now b
      (λ s d k. subst (λ v. Runs g b v (by_actor b x.journal) now (length x.ends + 1)) (some_is k)
      (subst (λ q. Runs g q (since_now a op) (by_actor q x.journal) now (length x.ends + 1)) (sym s) (began_at a op starts upto)))
      (λ ne. old b)
    where
      now : Option Running
      now = begun (start_of g a op (reports g.script x.past.reported) (knows_now g x a)) (knows_now g x a)

  pub opened_run : (ev : Event) → Begins g ev → AllUpTo (length x.ends) x.journal
      → AllRun g x.past.doing x.journal x.running (length x.ends + 1)
      → AllRun g (open_event g.script x.past ev).doing x.journal (open_running g x ev) (length x.ends + 1)
  opened_run (Do a op) s upto old = began a op s upto old
  opened_run (Start a op) s upto old = began a op s upto old
  opened_run _ s upto old = old

  opens : (ev : Event) → MayOpen g x ev None → Told g opening (happen g x (Opens ev))
  opens ev ok =
      let c = h.closed ok.idle in
      let r = resting ok.idle in
      let then = happen g x (Opens ev) in
      let opened : (v : Event) → Some ev ≡ Some v → Opened g then v = λ v e. subst (Opened g then) (some_is e)
      (record { next = ok.next; fine = ok.refusal_is; live_is = refl }) in
      let finish : (i : ℕ) (y : ActorEnd) → slice_get then.finished i ≡ Some y → Finished then y = λ i y e. absurd (none_some refl e) in
      assumption (
        opening_counts g.script x.past ev ∙ h.counts,
        opened_run ev (fine_begins g x.past.state ev ok.refusal_is) c.1 r.0,
        opened_do g.script x.past ev r.1,
        during then ev refl,
        opened,
        finish,
        h,
      )

  -- ---- an operation ends

  finishes : (y : ActorEnd) → MayFinish x y → Told g opening (happen g x (Finishes y))
  finishes y ok =
      let o = h.opened ok.event ok.during in
      let idle : is_busy (ended y.end (x.live.state y.actor).stage).life ≡ false = ended_idle y.end (x.live.state y.actor).stage in
      let then = happen g x (Finishes y) in
      let opened : (v : Event) → x.now ≡ Some v → Opened g then v =
      λ v n. (let p = h.opened v n in record {
        next = p.next;
        fine = p.fine;
        live_is = ap (λ p. end_op p y) p.live_is ∙ sym
            (ends_more (open_event g.script x.past v) x.finished y);
      }) in
      let does : AllDo then.live = λ a. one_put (λ s. s.life ≡ Busy → (d : Doing) × (x.live.doing a ≡ Some d)) x.live.state y.actor _ a
      (λ s busy. absurd (busy_not _ busy idle)) (λ ne. h.does a) in
      let finish : (i : ℕ) (z : ActorEnd) → slice_get then.finished i ≡ Some z
      → Finished then z = λ i z e. elim (get_last x.finished y i z e) [
        | inl k ↦ (let f = h.finish i z k in record {
          idle = one_put (λ s. is_busy s.life ≡ false) x.live.state y.actor _ z.actor
              (λ s. idle) (λ ne. f.idle);
          doing = f.doing;
          does = f.does;
          end = f.end;
        })
        | inr k ↦ subst (Finished then) k.1 (record {
          idle = one_put (λ s. is_busy s.life ≡ false) x.live.state y.actor _ y.actor (λ s. idle) (λ ne. absurd (ne refl));
          doing = ok.doing;
          does = ok.does;
          end = ok.end;
        })
      ] in
      assumption (during then ok.event ok.during, opened, does, finish, h)

  -- ---- a request is sent

  abbrev running_then : Entry → Actor → Option Running
  running_then e = put x.running e.actor (hear g e.actor (x.running e.actor) e)

  module _ (e : Entry) (ok : MaySend g opening x e) where
    sent_run : AllRun g x.live.doing (x.journal ++ e ∷ []) (running_then e) (length x.ends + 1)
    sent_run a d k = one_put (λ m. Runs g a d (by_actor a (x.journal ++ e ∷ [])) m n) x.running e.actor
        (hear g e.actor (x.running e.actor) e) a
        (λ s. subst (λ m. Runs g a d (by_actor a (x.journal ++ e ∷ [])) m n) (ap (λ c. hear g c (Some ok.at) e) s ∙ ap
        (λ m. hear g e.actor m e) (sym ok.is_at))
        (subst (λ es. Runs g a d es (hear g a (Some ok.at) e) n) (sym (by_itself a x.journal e (same_true e.actor a (sym s))))
        (runs_sent g a d (by_actor a x.journal) n ok.at e (subst (λ m. Runs g a d (by_actor a x.journal) m n) (ap x.running s ∙ ok.is_at)
        (h.runs a d k))
        (omega (arith, ok.number)) (ap (λ c. wants g c ok.at) s ∙ ok.asked))))
        (λ ne. subst (λ es. Runs g a d es (x.running a) n) (sym (by_another a x.journal e (same_false e.actor a (λ s. ne (sym s)))))
        (h.runs a d k))
      where
        n : ℕ
        n = length x.ends + 1

    -- An actor whose operation ended in this event sends no more.
    sent_finish : (i : ℕ) (y : ActorEnd) → slice_get x.finished i ≡ Some y → Finished (happen g x (Sends e)) y
    sent_finish i y k =
        let f = h.finish i y k in
        let ne : y.actor ≡ e.actor → ⊥ = λ s. busy_not _ (ap (λ n. (x.live.state n).life) s ∙ ok.busy) f.idle in
        record {
          idle = f.idle;
          doing = f.doing;
          does = f.does;
          end = elim f.end [
            | inl wanting ↦ inl wanting
            | inr q ↦ inr (q.0, put_other x.running e.actor _ y.actor ne ∙ q.1, q.2)
          ];
        }

    sends : Told g opening (happen g x (Sends e))
    sends =
        let then = happen g x (Sends e) in
        let opened : (v : Event) → x.now ≡ Some v → Opened g then v = λ v n. (let p = h.opened v n in record
        { next = p.next; fine = p.fine; live_is = p.live_is }) in
        assumption (
          during then ok.event ok.during,
          opened,
          up_to_last (length x.ends + 1) x.journal e h.up_to (omega (arith, ok.number)),
          sent_run,
          sent_finish,
          rising_last (length x.ends + 1) x.journal e h.up_to (omega (arith, ok.number)) h.rising,
          from_own 1 x.journal e h.numbered (omega (arith, ok.number)),
          obeyed_later g x.ends x.journal e ok.number h.obeyed,
          honest_last (store.opening opening) x.journal e h.honest (subst
              (λ es. IsHonestOutcome e.outcome (answer (after_all (store.opening opening) es) e.request)) (take_whole x.journal) ok.honest),
          h,
        )

  -- ---- a stranger sends

  strays_run : (r : Request) (o : Outcome) → AllRun g x.live.doing (x.journal ++ strange_entry (length x.ends) r o ∷ []) x.running
      (length x.ends + 1)
  strays_run r o Shell d k = let l = (h.runs Shell d k).led in absurd (none_some refl l.begun_is)
  strays_run r o a d k = subst (λ es. Runs g a d es (x.running a) (length x.ends + 1)) (sym (by_own a refl x.journal (length x.ends) r o))
      (h.runs a d k)

  strays : (r : Request) (o : Outcome) → MayStray g opening x r o → Told g opening (happen g x (Strays r o))
  strays r o ok =
      let c = h.closed ok.idle in
      let e = strange_entry (length x.ends) r o in
      let here : e.event ≤ length x.ends = omega arith in
      let then = happen g x (Strays r o) in
      let closed : x.now ≡ None → (x.live ≡ x.past)
      × AllUpTo (length x.ends) then.journal = λ n. (c.0, up_to_last (length x.ends) x.journal e c.1 here) in
      let opened : (v : Event) → x.now ≡ Some v → Opened g then v = λ v n. absurd (none_some ok.idle n) in
      let finish : (i : ℕ) (y : ActorEnd) → slice_get x.finished i ≡ Some y
      → Finished then y = λ i y k. (let f = h.finish i y k in record { idle = f.idle; doing = f.doing; does = f.does; end = f.end }) in
      assumption (
        closed,
        opened,
        up_to_last (length x.ends + 1) x.journal e h.up_to (omega arith),
        strays_run r o,
        finish,
        rising_last (length x.ends) x.journal e c.1 here h.rising,
        subst (AllFrom 1) (sym (own_own x.journal (length x.ends) r o)) h.numbered,
        obeyed_strays g x.ends x.journal (length x.ends) r o h.obeyed,
        honest_last (store.opening opening) x.journal e h.honest (subst
            (λ es. IsHonestOutcome o (answer (after_all (store.opening opening) es) r)) (take_whole x.journal) ok.honest),
        h,
      )

pub nothing_told : (g : Setting) (opening : Content) → Told g opening nothing_played
nothing_told g opening = grind arith

pub told_all : (g : Setting) (opening : Content) (x : Play) → Reachable g opening x → Told g opening x
told_all g opening x nothing_happened = nothing_told g opening
told_all g opening x (happens y (Refuses f) before ok) = refuses g opening y (told_all g opening y before) f ok.0 ok.1
told_all g opening x (happens y (Opens ev) before ok) = opens g opening y (told_all g opening y before) ev ok
told_all g opening x (happens y (Sends e) before ok) = sends g opening y (told_all g opening y before) e ok
told_all g opening x (happens y (Finishes v) before ok) = finishes g opening y (told_all g opening y before) v ok
told_all g opening x (happens y (Closes end) before ok) = closes g opening y (told_all g opening y before) end ok
told_all g opening x (happens y (Strays r o) before ok) = strays g opening y (told_all g opening y before) r o ok
