-- One more send of a run is written.
use Rattle.text_and_lists.proofs.Naturals.{below_so, not_below}
use Rattle.s3_types.specs.Answer.{answer}
use Rattle.s3_types.specs.Moment.{AreHonest, IsHonestOutcome, after_all, effect, moment}
use Rattle.s3_types.specs.Store.{Content, Scene, opening}
use Rattle.s3_types.specs.declared.journal.Entry.{Entry}
use Rattle.s3_types.specs.declared.journal.Outcome.{Outcome}
use Rattle.s3_types.specs.declared.journal.Outcome.TheVariants.{Answered, ReplyLost, RequestLost, Slow}
use Rattle.s3_types.specs.declared.reply.Reply.{Reply}
use Rattle.s3_types.specs.declared.request.Actor.{Actor}
use Rattle.s3_types.specs.declared.request.Request.{Request}
use Rattle.std.proofs.Common.{IfSome, List, Option, Some, ap, append_assoc, arith, cond, drop, false, inl, inr, not, refl, slice_get}
use Rattle.std.proofs.Common.{string_bytes, subst, suc, sym, take, true, zero, ℕ, [], ◌&&◌, ◌++◌, ◌+◌, ◌<◌, ◌∙◌, ◌∷◌, ◌≡◌, ◌≤◌, ◌⊎◌}
use Rattle.std.proofs.lemmas.Bool.{cases_lt, le-leb}
use Rattle.std.proofs.lemmas.Option.{none-some, same_Some}
use Rattle.std.specs.List.{flat_map}
use Rattle.trace_lines.proofs.Tagged.{answer_tells}
use Rattle.trace_lines.specs.Requests.{TellsTag, request_line}
use Rattle.trace_text.proofs.Due.{none_told}
use Rattle.trace_text.specs.Sends.{Send, behind_event, commit_line, is_of_commit, is_until, send_lines, sends_from, until_event}
use Rattle.trace_text.specs.inner.Tapes.{Follows, HasWritten, NoneLostBehind, is_reply_lost, left, reply_known, reply_told}
use Rattle.trace_text.specs.declared.tape.Tape.{Tape}

-- ---- the send at a place of a journal

drop_here : (es : List Entry) (n : ℕ) (e : Entry) → slice_get es n ≡ Some e → drop n es ≡ e ∷ drop (suc n) es
drop_here [] n e is = absurd (none-some e is)
drop_here (x ∷ xs) zero e is = ap (λ v. v ∷ xs) (same_Some x e is)
drop_here (x ∷ xs) (suc n) e is = drop_here xs n e is

-- The scene after the send.
scene_behind : (z : Scene) (es : List Entry) (n : ℕ) (e : Entry) → slice_get es n ≡ Some e
    → after_all z (take (suc n) es) ≡ effect (after_all z (take n es)) e.request e.outcome
scene_behind z [] n e is = absurd (none-some e is)
scene_behind z (x ∷ xs) zero e is = ap (λ (v : Entry). effect z v.request v.outcome) (same_Some x e is)
scene_behind z (x ∷ xs) (suc n) e is = scene_behind (effect z x.request x.outcome) xs n e is

-- Its answer is the one that S3 must give.
honest_here : (z : Scene) (es : List Entry) (n : ℕ) (e : Entry) → slice_get es n ≡ Some e → AreHonest z es
    → IsHonestOutcome e.outcome (answer (after_all z (take n es)) e.request)
honest_here z [] n e is h = absurd (none-some e is)
honest_here z (x ∷ xs) zero e is h =
    subst (λ (v : Entry). IsHonestOutcome v.outcome (answer z v.request)) (same_Some x e is) h.0
honest_here z (x ∷ xs) (suc n) e is h = honest_here (effect z x.request x.outcome) xs n e is h.1

-- ---- the reply of its line

-- A tag in the reply that the sender received is that of the bytes that were sent.
tells_so : (o : Outcome) (z : Scene) (r : Request) → IsHonestOutcome o (answer z r) → TellsTag r (reply_told o)
tells_so (Answered a) z r h = answer_tells z r a (sym h)
tells_so _ z r h = none_told r

-- The line is the same with the reply that the sender received as with the one that S3 must give.
told_line : (n event : ℕ) (a : Actor) (r : Request) (o : Outcome) (z : Scene) → is_reply_lost o ≡ false → IsHonestOutcome o (answer z r)
    → request_line n (record { event = event; actor = a; request = r; outcome = o }) (reply_told o)
    ≡ request_line n (record { event = event; actor = a; request = r; outcome = o }) (answer z r)
told_line n event a r (Answered x) z told h =
    ap (request_line n (record { event = event; actor = a; request = r; outcome = Answered x })) h
told_line n event a r Slow z told h = refl
told_line n event a r RequestLost z told h = refl
told_line n event a r ReplyLost z told h = cc

module _ (c : Content) (journal : List Entry) (t : Tape) (e : Entry) (follows : Follows c t journal)
    (here : slice_get journal t.at ≡ Some e) where
  abbrev due : Reply
  due = answer (moment c journal t.at) e.request

  honest : IsHonestOutcome e.outcome due
  honest = honest_here (opening c) journal t.at e here follows.honest

  pub told_tells : TellsTag e.request (reply_told e.outcome)
  told_tells = tells_so e.outcome (moment c journal t.at) e.request honest

  known_by : (t.at < t.lost) ⊎ (t.lost ≤ t.at)
      → request_line (t.at + 1) e (reply_known t e) ≡ request_line (t.at + 1) e due
  known_by (inl lt) =
      let made : reply_known t e ≡ answer t.store.scene e.request =
      ap (λ b. cond b (answer t.store.scene e.request) (reply_told e.outcome)) (below_so t.at t.lost lt) in
      ap (request_line (t.at + 1) e) (made ∙ ap (λ (z : Scene). answer z e.request) (follows.store lt))
  known_by (inr le) =
      let told : reply_known t e ≡ reply_told e.outcome =
      ap (λ b. cond b (answer t.store.scene e.request) (reply_told e.outcome)) (not_below t.at t.lost le) in
      let kept : is_reply_lost e.outcome ≡ false =
      subst (λ (o : Option Entry). IfSome o (λ x. is_reply_lost x.outcome ≡ false)) here (follows.told t.at le) in
      ap (request_line (t.at + 1) e) told
      ∙ told_line (t.at + 1) e.event e.actor e.request e.outcome (moment c journal t.at) kept honest

  module _ (commit : Option ℕ) (u : Tape) (written : HasWritten commit e t u) where
    abbrev this : Send
    this = record { number = t.at + 1; entry = e; due = due; begins = not t.begun && is_of_commit commit e }

    next : u.at ≡ suc t.at
    next = omega (arith, written.at)

    scene_next : moment c journal u.at ≡ effect (moment c journal t.at) e.request e.outcome
    scene_next = ap (moment c journal) next ∙ scene_behind (opening c) journal t.at e here

    left_is : left commit c t journal ≡ this ∷ left commit c u journal
    left_is =
        let n : ◌≡◌ {A = ℕ} (t.at + 1 + 1) (u.at + 1) = omega (arith, written.at) in
        ap (sends_from commit (t.at + 1) t.begun (moment c journal t.at)) (drop_here journal t.at e here)
        ∙ (λ i. this ∷ sends_from commit (n i) (sym written.begun i) (sym scene_next i) (drop (sym next i) journal))

    lines_are : string_bytes u.text ≡ string_bytes t.text ++ send_lines this
    lines_are =
        written.text
        ∙ ap (λ (l : List ℕ). string_bytes t.text ++ (cond this.begins commit_line [] ++ l)) (known_by (cases_lt t.at t.lost))

    pub follows_on : Follows c u journal
    follows_on = record {
      honest = follows.honest;
      few = follows.few;
      told = subst (λ (n : ℕ). NoneLostBehind n journal) (sym written.lost) follows.told;
      store = λ lt.
          let here_too : t.at < t.lost = omega (arith, written.at, written.lost, lt) in
          written.scene here_too
          ∙ ap (λ (z : Scene). effect z e.request e.outcome) (follows.store here_too)
          ∙ sym scene_next;
      counted = written.counted;
    }

    grown : (rest all : List ℕ) → string_bytes t.text ++ (send_lines this ++ rest) ≡ all → string_bytes u.text ++ rest ≡ all
    grown rest all so_far =
        ap (λ l. l ++ rest) lines_are ∙ append_assoc (string_bytes t.text) (send_lines this) rest ∙ so_far

    pub one_of_all : (all : List ℕ) → string_bytes t.text ++ flat_map send_lines (left commit c t journal) ≡ all
        → string_bytes u.text ++ flat_map send_lines (left commit c u journal) ≡ all
    one_of_all all so_far =
        grown (flat_map send_lines (left commit c u journal)) all
        (ap (λ (l : List Send). string_bytes t.text ++ flat_map send_lines l) (sym left_is) ∙ so_far)

    module _ (event : ℕ) (until : e.event ≤ event) where
      is_until_so : is_until event this ≡ true
      is_until_so = le-leb e.event event until

      pub one_until : (all : List ℕ) → string_bytes t.text ++ flat_map send_lines (until_event event (left commit c t journal)) ≡ all
          → string_bytes u.text ++ flat_map send_lines (until_event event (left commit c u journal)) ≡ all
      one_until all so_far =
          let ss = left commit c u journal in
          let these : until_event event (left commit c t journal) ≡ this ∷ until_event event ss =
          ap (until_event event) left_is ∙ ap (λ b. cond b (this ∷ until_event event ss) []) is_until_so in
          grown (flat_map send_lines (until_event event ss)) all
          (ap (λ (l : List Send). string_bytes t.text ++ flat_map send_lines l) (sym these) ∙ so_far)

      pub same_behind : (rest : List Send) → behind_event event (left commit c t journal) ≡ rest
          → behind_event event (left commit c u journal) ≡ rest
      same_behind rest so_far =
          let ss = left commit c u journal in
          let these : behind_event event (left commit c t journal) ≡ behind_event event ss =
          ap (behind_event event) left_is ∙ ap (λ b. cond b (behind_event event ss) (this ∷ ss)) is_until_so in
          sym these ∙ so_far
