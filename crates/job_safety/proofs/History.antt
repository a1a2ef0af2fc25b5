-- The past of a run: how an event came to its end, how an operation began, and what came later.
use Rattle.text_and_lists.proofs.Members.{false_true, none_some, some_is}
use Rattle.job_invariant.specs.Told.{strange_entry}
use Rattle.job_model.specs.declared.ends.EventEnd.{EventEnd}
use Rattle.job_model.specs.declared.ends.EventEnd.TheVariants.{Refused}
use Rattle.job_model.specs.declared.events.Event.{Event}
use Rattle.job_model.specs.declared.events.Event.TheVariants.{Do, Start}
use Rattle.job_model.specs.declared.events.Op.{Op}
use Rattle.job_protocol.specs.Operations.{Running, Setting, start_of}
use Rattle.job_spec.specs.States.{Doing, Past, is_refused, open_event, put, reports}
use Rattle.job_spec.specs.Turns.{AllFrom, own}
use Rattle.script_steps.proofs.Actors.{put_here, put_other, same_or_not}
use Rattle.script_steps.proofs.Parts.{from_last, from_own, get_last, own_own}
use Rattle.script_steps.proofs.Running.{closed_ahead, finished_ahead, not_refused, opened_ahead, refused_ahead, sent_ahead, strayed_ahead}
use Rattle.script_steps.proofs.Told.{told_all}
use Rattle.script_steps.specs.Running.{Ahead}
use Rattle.script_steps.specs.Transitions.{Closes, Enabled, Finishes, MayClose, MayOpen, MaySend, MayStray, Opens, Play, Reachable, Refuses}
use Rattle.script_steps.specs.Transitions.{Sends, Strays, Transition, begun, happen, happens, knows_now, nothing_happened, open_running}
use Rattle.s3_types.specs.Store.{Content}
use Rattle.s3_types.specs.declared.journal.Entry.{Entry}
use Rattle.s3_types.specs.declared.journal.Outcome.{Outcome}
use Rattle.s3_types.specs.declared.request.Actor.{Actor}
use Rattle.s3_types.specs.declared.request.Request.{Request}
use Rattle.std.proofs.Common.{List, None, Option, Some, ap, append-nil, append_assoc, arith, false, inl, inr, length, refl, slice_get}
use Rattle.std.proofs.Common.{subst, sym, ℕ, [], ◌++◌, ◌+◌, ◌<◌, ◌∙◌, ◌∷◌, ◌≡◌, ◌≤◌, ◌⊎◌}
use Rattle.std.proofs.lemmas.Option.{slice_get_within}

-- What happened since then.
pub data Later (g : Setting) (opening : Content) (y : Play) : Play → Type 0 where
  at_once : Later g opening y y
  later : (x : Play) (h : Transition) → Reachable g opening x → Later g opening y x → Enabled g opening x h
      → Later g opening y (happen g x h)

-- What happened since then, while this actor began nothing, and what was sent.
pub data Meanwhile (g : Setting) (opening : Content) (a : Actor) (y : Play) : List Entry → Play → Type 0 where
  nothing_since : Meanwhile g opening a y [] y
  -- Nothing is sent, and the actor's operation stays.
  was_silent : (es : List Entry) (x z : Play) → Meanwhile g opening a y es x → z.journal ≡ x.journal → z.running a ≡ x.running a
      → ((ends : List EventEnd) → Ahead z ends → Ahead x ends) → Meanwhile g opening a y es z
  was_sent : (es : List Entry) (x : Play) (e : Entry) → Reachable g opening x → Meanwhile g opening a y es x → MaySend g opening x e
      → Meanwhile g opening a y (es ++ e ∷ []) (happen g x (Sends e))
  had_strayed : (es : List Entry) (x : Play) (r : Request) (o : Outcome) → Reachable g opening x → Meanwhile g opening a y es x
      → MayStray g opening x r o
      → Meanwhile g opening a y (es ++ strange_entry (length x.ends) r o ∷ []) (happen g x (Strays r o))

-- Event j + 1 came to this end, and was in progress until then.
pub record Closed (g : Setting) (opening : Content) (x : Play) (j : ℕ) (end : EventEnd) : Type 0 where
  pub at : Play
  pub happened : Reachable g opening at
  pub may : MayClose g at end
  pub count : length at.ends ≡ j
  pub since_then : Later g opening (happen g at (Closes end)) x
  -- The entries since then; the job's own belong to later events.
  pub entries : List Entry
  pub all : x.journal ≡ at.journal ++ entries
  pub after : AllFrom (j + 1) entries
  pub own_after : AllFrom (j + 2) (own entries)
  pub ahead : (ends : List EventEnd) → Ahead x ends → Ahead (happen g at (Closes end)) ends

-- The event begins this operation.
abbrev pub IsBegin : Event → Actor → Op → Type 0
IsBegin ev a op = (ev ≡ Do a op) ⊎ (ev ≡ Start a op)

-- An actor began its last operation in this state.
pub record Began (g : Setting) (opening : Content) (x : Play) (a : Actor) (d : Doing) : Type 0 where
  pub at : Play
  pub happened : Reachable g opening at
  pub event : Event
  pub may : MayOpen g at event None
  pub begins : IsBegin event a d.op
  pub since_is : d.since ≡ length at.ends + 1
  pub reports_is : d.reports ≡ reports g.script at.past.reported
  pub entries : List Entry
  pub all : x.journal ≡ at.journal ++ entries
  pub after : AllFrom d.since entries
  pub meanwhile : Meanwhile g opening a (happen g at (Opens event)) entries x
  pub ahead : (ends : List EventEnd) → Ahead x ends → Ahead (happen g at (Opens event)) ends

module _ (g : Setting) (opening : Content) where
  -- ---- an event that is over

  module _ (j : ℕ) (end : EventEnd) where
    closed_on : (y : Play) (h : Transition) → Reachable g opening y → Enabled g opening y h
        → ((ends : List EventEnd) → Ahead (happen g y h) ends → Ahead y ends)
        → (c : Closed g opening y j end) → (entries : List Entry) → (happen g y h).journal ≡ c.at.journal ++ entries
        → AllFrom (j + 1) entries → AllFrom (j + 2) (own entries) → Closed g opening (happen g y h) j end
    closed_on y h past may back c entries all after own_after = record {
      at = c.at;
      happened = c.happened;
      may = c.may;
      count = c.count;
      since_then = later y h past c.since_then may;
      entries = entries;
      all = all;
      after = after;
      own_after = own_after;
      ahead = λ ends a. c.ahead ends (back ends a);
    }

    still_closed : (y : Play) (h : Transition) → Reachable g opening y → Enabled g opening y h → (happen g y h).journal ≡ y.journal
        → ((ends : List EventEnd) → Ahead (happen g y h) ends → Ahead y ends) → Closed g opening y j end
        → Closed g opening (happen g y h) j end
    still_closed y h past may same back c = closed_on y h past may back c c.entries (same ∙ c.all) c.after c.own_after

    sent_closed : (y : Play) (e : Entry) → Reachable g opening y → MaySend g opening y e → slice_get y.ends j ≡ Some end
        → Closed g opening y j end → Closed g opening (happen g y (Sends e)) j end
    sent_closed y e past may is c =
        let below : j < length y.ends = slice_get_within y.ends j end is in
        let late : j + 2 ≤ e.event = omega (arith, may.number) in
        closed_on y (Sends e) past may (sent_ahead g y e) c (c.entries ++ e ∷ [])
        (ap (λ l. l ++ e ∷ []) c.all ∙ append_assoc c.at.journal c.entries (e ∷ []))
        (from_last (j + 1) c.entries e c.after (omega arith)) (from_own (j + 2) c.entries e c.own_after late)

    strayed_closed : (y : Play) (r : Request) (o : Outcome) → Reachable g opening y → MayStray g opening y r o
        → slice_get y.ends j ≡ Some end → Closed g opening y j end → Closed g opening (happen g y (Strays r o)) j end
    strayed_closed y r o past may is c =
        let below : j < length y.ends = slice_get_within y.ends j end is in
        let e = strange_entry (length y.ends) r o in
        closed_on y (Strays r o) past may (strayed_ahead g y r o) c (c.entries ++ e ∷ [])
        (ap (λ l. l ++ e ∷ []) c.all ∙ append_assoc c.at.journal c.entries (e ∷ []))
        (from_last (j + 1) c.entries e c.after (omega arith))
        (subst (AllFrom (j + 2)) (sym (own_own c.entries (length y.ends) r o)) c.own_after)

  pub closed_at : (x : Play) → Reachable g opening x → (j : ℕ) (end : EventEnd) → slice_get x.ends j ≡ Some end → is_refused end ≡ false
      → Closed g opening x j end
  closed_at x (nothing_happened) j end e fine = absurd (none_some refl e)
  closed_at x (happens y (Refuses f) past may) j end e fine = elim (get_last y.ends (Refused f) j end e) [
    | inl h ↦ still_closed j end y (Refuses f) past may refl (λ ends a. refused_ahead g y f ends may.1.idle a)
        (closed_at y past j end h fine)
    | inr q ↦ absurd (false_true fine (sym (ap is_refused q.1)))
  ]
  closed_at x (happens y (Opens ev) past may) j end e fine = still_closed j end y (Opens ev) past may refl
      (λ ends a. opened_ahead g y ev ends may.idle a) (closed_at y past j end e fine)
  closed_at x (happens y (Sends v) past may) j end e fine = sent_closed j end y v past may e (closed_at y past j end e fine)
  closed_at x (happens y (Finishes z) past may) j end e fine = still_closed j end y (Finishes z) past may refl
      (λ ends a. finished_ahead g y z ends a) (closed_at y past j end e fine)
  closed_at x (happens y (Closes v) past may) j end e fine = elim (get_last y.ends v j end e) [
    | inl h ↦ still_closed j end y (Closes v) past may refl (λ ends a. closed_ahead g y v ends
        (not_refused g.script y.past.state may.event v _ may.turns) a) (closed_at y past j end h fine)
    | inr q ↦ subst (λ u. Closed g opening (happen g y (Closes v)) j u) q.1 (record {
      at = y;
      happened = past;
      may = may;
      count = sym q.0;
      since_then = at_once;
      entries = [];
      all = sym (append-nil y.journal);
      after =
          tt;
      own_after = tt;
      ahead = λ ends a. a;
    })
  ]
  closed_at x (happens y (Strays r o) past may) j end e fine = strayed_closed j end y r o past may e (closed_at y past j end e fine)

  -- ---- an operation that began

  began_on : (y z : Play) (a : Actor) (d : Doing) → ((ends : List EventEnd) → Ahead z ends → Ahead y ends) → (b : Began g opening y a d)
      → (entries : List Entry)
      → z.journal ≡ b.at.journal ++ entries → AllFrom d.since entries → Meanwhile g opening a (happen g b.at (Opens b.event)) entries z
      → Began g opening z a d
  began_on y z a d h b entries g e f = grind arith

  still_began : (y : Play) (h : Transition) (a : Actor) (d : Doing) → (happen g y h).journal ≡ y.journal
      → (happen g y h).running a ≡ y.running a → ((ends : List EventEnd) → Ahead (happen g y h) ends → Ahead y ends) → Began g opening y a d
      → Began g opening (happen g y h) a d
  still_began y h a d same at back b = began_on y (happen g y h) a d back b b.entries (same ∙ b.all) b.after
      (was_silent b.entries y (happen g y h) b.meanwhile same at back)

  sent_began : (y : Play) (e : Entry) (a : Actor) (d : Doing) → Reachable g opening y → MaySend g opening y e → d.since ≤ length y.ends + 1
      → Began g opening y a d → Began g opening (happen g y (Sends e)) a d
  sent_began y e a d past may then b =
      began_on y (happen g y (Sends e)) a d (sent_ahead g y e) b (b.entries ++ e ∷ [])
      (ap (λ l. l ++ e ∷ []) b.all ∙ append_assoc b.at.journal b.entries (e ∷ []))
      (from_last d.since b.entries e b.after (omega (arith, may.number))) (was_sent b.entries y e past b.meanwhile may)

  strayed_began : (y : Play) (r : Request) (o : Outcome) (a : Actor) (d : Doing) → Reachable g opening y → MayStray g opening y r o
      → d.since ≤ length y.ends → Began g opening y a d → Began g opening (happen g y (Strays r o)) a d
  strayed_began y r o a d past may then b =
      let e = strange_entry (length y.ends) r o in
      began_on y (happen g y (Strays r o)) a d (strayed_ahead g y r o) b (b.entries ++ e ∷ [])
      (ap (λ l. l ++ e ∷ []) b.all ∙ append_assoc b.at.journal b.entries (e ∷ []))
      (from_last d.since b.entries e b.after then) (had_strayed b.entries y r o past b.meanwhile may)

  abbrev doing_now : Play → Op → Doing
  doing_now y op = record { op = op; since = y.past.events + 1; reports = reports g.script y.past.reported }

  began_now : (y : Play) (ev : Event) (a : Actor) (op : Op) → Reachable g opening y → MayOpen g y ev None → IsBegin ev a op
      → Began g opening (happen g y (Opens ev)) a (doing_now y op)
  began_now y ev a op past may is = record {
    at = y;
    happened = past;
    event = ev;
    may = may;
    begins = is;
    since_is = ap (λ n. n + 1) (told_all g opening y past).counts;
    reports_is = refl;
    entries = [];
    all = sym (append-nil y.journal);
    after = tt;
    meanwhile = nothing_since;
    ahead = λ ends v. v;
  }

  abbrev begun_now : Play → Actor → Op → Option Running
  begun_now y b op = begun (start_of g b op (reports g.script y.past.reported) (knows_now g y b)) (knows_now g y b)

  -- What an actor that begins nothing began last.
  abbrev Kept : Play → Event → Type 0
  Kept y ev = (a : Actor) (d : Doing) → y.past.doing a ≡ Some d → open_running g y ev a ≡ y.running a
      → Began g opening (happen g y (Opens ev)) a d

  began_one : (y : Play) (ev : Event) (b : Actor) (op : Op) → Reachable g opening y → MayOpen g y ev None → IsBegin ev b op
      → Kept y ev → (c : Option Running) → open_running g y ev ≡ put y.running b c
      → (a : Actor) (d : Doing) → put y.past.doing b (Some (doing_now y op)) a ≡ Some d → Began g opening (happen g y (Opens ev)) a d
  began_one y ev b op past may is old c opens a d e = elim (same_or_not a b) [
    | inl s ↦
        subst (λ v. Began g opening (happen g y (Opens ev)) a v) (some_is (sym (put_here y.past.doing b (Some (doing_now y op)) a s) ∙ e))
        (subst (λ c. Began g opening (happen g y (Opens ev)) c (doing_now y op)) (sym s) (began_now y ev b op past may is))
    | inr ne ↦ old a d (sym (put_other y.past.doing b (Some (doing_now y op)) a ne) ∙ e)
        (ap (λ r. r a) opens ∙ put_other y.running b c a ne)
  ]

  opened_began : (y : Play) (ev : Event) → Reachable g opening y → MayOpen g y ev None → Kept y ev
      → (a : Actor) (d : Doing) → (open_event g.script y.past ev).doing a ≡ Some d → Began g opening (happen g y (Opens ev)) a d
  opened_began y (Do b op) past may old a d e = began_one y (Do b op) b op past may (inl refl) old (begun_now y b op) refl a d e
  opened_began y (Start b op) past may old a d e = began_one y (Start b op) b op past may (inr refl) old (begun_now y b op) refl a d e
  opened_began y _ past may old a d e = old a d e refl

  -- Between two events, the states that follow from the ends are those of now.
  lived : (y : Play) → Reachable g opening y → y.now ≡ None → (a : Actor) (d : Doing) → y.past.doing a ≡ Some d → y.live.doing a ≡ Some d
  lived y past idle a d e = ap (λ (p : Past). p.doing a) ((told_all g opening y past).closed idle).0 ∙ e

  pub began : (x : Play) → Reachable g opening x → (a : Actor) (d : Doing) → x.live.doing a ≡ Some d → Began g opening x a d
  began x (nothing_happened) a d e = absurd (none_some refl e)
  began x (happens y (Refuses f) past may) a d e = still_began y (Refuses f) a d refl refl (λ ends v. refused_ahead g y f ends may.1.idle v)
      (began y past a d (lived y past may.1.idle a d e))
  began x (happens y (Opens ev) past may) a d e = opened_began y ev past may (λ c v i at. still_began y (Opens ev) c v refl at
      (λ ends z. opened_ahead g y ev ends may.idle z) (began y past c v (lived y past may.idle c v i))) a d e
  began x (happens y (Sends v) past may) a d e = sent_began y v a d past may ((told_all g opening y past).runs a d e).from_then
      (began y past a d e)
  began x (happens y (Finishes z) past may) a d e = still_began y (Finishes z) a d refl refl (λ ends v. finished_ahead g y z ends v)
      (began y past a d e)
  began x (happens y (Closes end) past may) a d e = still_began y (Closes end) a d refl refl
      (λ ends v. closed_ahead g y end ends (not_refused g.script y.past.state may.event end _ may.turns) v) (began y past a d e)
  began x (happens y (Strays r o) past may) a d e = strayed_began y r o a d past may ((told_all g opening y past).over may.idle a d e)
      (began y past a d e)
