-- One more send, and the requests that are in progress.
use Rattle.text_and_lists.proofs.Members.{false_true, none_some, true_or_false}
use Rattle.job_protocol.proofs.Members.{in_append, in_last, in_left, in_push}
use Rattle.job_protocol.specs.LaneTable.{In}
use Rattle.retries.proofs.Misses.{streak_other, streak_same, worn_grows, worn_now}
use Rattle.retries.proofs.SameRequest.{same_is}
use Rattle.retries.specs.Same.{same_request}
use Rattle.retries.specs.Worn.{IsFirstWorn, IsWorn, streak, was_answered}
use Rattle.s3_types.specs.declared.journal.Entry.{Entry}
use Rattle.s3_types.specs.declared.request.Request.{Request}
use Rattle.std.proofs.Common.{List, ap, append_assoc, arith, cond, false, inl, inr, refl, subst, sym, true, ℕ, [], ◌++◌, ◌+◌, ◌<◌, ◌∙◌, ◌∷◌}
use Rattle.std.proofs.Common.{◌≡◌, ◌≤◌}

-- A request in progress, and how many of its last sends got no answer.
pub record HeldRequest : Type 0 where
  pub request : Request
  pub missed : ℕ

-- Holds if the counts agree with the entries, and no request has run out of retries.
pub record Counted (retries : ℕ) (es : List Entry) (hs : List HeldRequest) : Type 0 where
  pub counts : (h : HeldRequest) → In h hs → streak h.request es ≡ h.missed
  pub few : (h : HeldRequest) → In h hs → h.missed ≤ retries
  pub others : (q : Request) → ((h : HeldRequest) → In h hs → h.request ≡ q → ⊥) → streak q es ≡ 0
  pub none : (q : Request) → IsWorn retries q es → ⊥

-- ---- sends of the first request in progress

pub hand_heard : {r : ℕ} {es : List Entry} {rest : List HeldRequest} (new : List HeldRequest) (h : HeldRequest) (e : Entry)
    → Counted r es (h ∷ rest)
    → e.request ≡ h.request → same_request h.request h.request ≡ true → was_answered e.outcome ≡ true
    → ((k : HeldRequest) → In k rest → same_request k.request h.request ≡ false)
    → ((k : HeldRequest) → In k new → (k.missed ≡ 0) × ((l : HeldRequest) → In l rest → l.request ≡ k.request → ⊥))
    → Counted r (es ++ e ∷ []) (rest ++ new)
hand_heard {r = r} {es = es} {rest = rest} new h e c is self told apart fresh =
    let S : Request → Type 0 = λ q. same_request h.request q ≡ true in
    let zero_at : (q : Request) → same_request q e.request ≡ true
    → streak q (es ++ e ∷ []) ≡ 0 = λ q s. streak_same q es e s ∙ ap (λ b. cond b 0 (streak q es + 1)) told in
    let not_head : (q : Request) → same_request q e.request ≡ false → h.request ≡ q
    → ⊥ = λ q s i. false_true (ap (λ p. same_request p e.request) i ∙ s) (subst S (sym is) self) in
    let away : (q : Request) → ((k : HeldRequest) → In k rest → k.request ≡ q → ⊥)
    → streak q (es ++ e ∷ []) ≡ 0 = λ q none. elim (true_or_false (same_request q e.request)) [
      | inl s ↦ zero_at q s
      | inr s ↦ streak_other q es e s ∙ c.others q (λ k i eq. elim i
          [ inl f ↦ not_head q s (ap (λ (v : HeldRequest). v.request) f ∙ eq) | inr j ↦ none k j eq ])
    ] in
    record {
      counts = λ k i. elim (in_append k rest new i) [
        | inl j ↦ streak_other k.request es e (ap (same_request k.request) is ∙ apart k j) ∙ c.counts k (inr j)
        | inr j ↦ away k.request (fresh k j).1 ∙ sym (fresh k j).0
      ];
      few = λ k i. elim (in_append k rest new i) [ inl j ↦ c.few k (inr j) | inr j ↦ let z : k.missed ≡ 0 = (fresh k j).0 in omega arith ];
      others = λ q none. away q (λ k j eq. none k (in_left k rest new j) eq);
      none = λ q w. elim (worn_grows r q es e w) [
        | inl v ↦ c.none q v
        | inr v ↦ let z : streak q (es ++ e ∷ []) ≡ 0 = zero_at q v.0 in let b : r < streak q (es ++ e ∷ []) = v.1 in absurd (omega arith)
      ];
    }

-- One more send without an answer.
missed_now : {r : ℕ} {es : List Entry} {rest : List HeldRequest} (h : HeldRequest) (e : Entry) → Counted r es (h ∷ rest)
    → e.request ≡ h.request
    → same_request h.request h.request ≡ true → was_answered e.outcome ≡ false → streak h.request (es ++ e ∷ []) ≡ h.missed + 1
missed_now {es = es} h e c is self missed =
    streak_same h.request es e (rw is self) ∙ ap (λ b. cond b 0 (streak h.request es + 1)) missed ∙ ap (λ n. n + 1) (c.counts h (inl refl))

pub hand_missed : {r : ℕ} {es : List Entry} {rest : List HeldRequest} (h : HeldRequest) (e : Entry) → Counted r es (h ∷ rest)
    → e.request ≡ h.request
    → same_request h.request h.request ≡ true → was_answered e.outcome ≡ false → h.missed < r
    → ((k : HeldRequest) → In k rest → same_request k.request h.request ≡ false)
    → Counted r (es ++ e ∷ []) (rest ++ record { request = h.request; missed = h.missed + 1 } ∷ [])
hand_missed {r = r} {es = es} {rest = rest} h e c is self missed low apart =
    let more : HeldRequest = record { request = h.request; missed = h.missed + 1 } in
    let here : streak h.request (es ++ e ∷ []) ≡ h.missed + 1 = missed_now h e c is self missed in
    let C : HeldRequest → Type 0 = λ k. streak k.request (es ++ e ∷ []) ≡ k.missed in
    let F : HeldRequest → Type 0 = λ k. k.missed ≤ r in
    record {
      counts = λ k i. elim (in_push k rest more i) [
        | inl j ↦ streak_other k.request es e (ap (same_request k.request) is ∙ apart k j) ∙ c.counts k (inr j)
        | inr f ↦ subst C f here
      ];
      few = λ k i. elim (in_push k rest more i) [ inl j ↦ c.few k (inr j) | inr f ↦ subst F f (omega arith) ];
      others = λ q none. elim (true_or_false (same_request q e.request)) [
        | inl s ↦ absurd (none more (in_last rest more) (sym is ∙ sym (same_is q e.request s)))
        | inr s ↦ streak_other q es e s ∙ c.others q (λ k i eq. elim i [
          | inl f ↦ none more (in_last rest more) (ap (λ (v : HeldRequest). v.request) f ∙ eq)
          | inr j ↦ none k (in_left k rest (more ∷ []) j) eq
        ])
      ];
      none = λ q w. elim (worn_grows r q es e w) [
        | inl v ↦ c.none q v
        | inr v ↦ let i : q ≡ h.request = same_is q e.request v.0 ∙ is in
            let z : streak q (es ++ e ∷ []) ≡ h.missed + 1 = ap (λ p. streak p (es ++ e ∷ [])) i ∙ here in
            let b : r < streak q (es ++ e ∷ []) = v.1 in absurd (omega arith)
      ];
    }

pub hand_worn : {r : ℕ} {es : List Entry} {rest : List HeldRequest} (h : HeldRequest) (e : Entry) → Counted r es (h ∷ rest)
    → e.request ≡ h.request
    → same_request h.request h.request ≡ true → was_answered e.outcome ≡ false → r ≤ h.missed
    → IsFirstWorn r (es ++ e ∷ []) h.request
hand_worn {r = r} {es = es} h e c is self missed high =
    let here : streak h.request (es ++ e ∷ []) ≡ h.missed + 1 = missed_now h e c is self missed in
    record {
      before = es;
      last = e;
      later = [];
      parts = refl;
      is_of = is;
      worn = worn_now r h.request (es ++ e ∷ []) (omega arith);
      first =
          c.none;
    }

-- ---- no request in progress was missed

pub record Quiet (r : ℕ) (es : List Entry) : Type 0 where
  pub zeros : (q : Request) → streak q es ≡ 0
  pub none : (q : Request) → IsWorn r q es → ⊥

pub quiet_at_first : (r : ℕ) → Quiet r []
quiet_at_first r = record { zeros = λ q. refl; none = λ q w. none_some refl (w.1 0 (omega arith)) }

pub quiet_heard : {r : ℕ} {es : List Entry} (h : HeldRequest) (e : Entry) → Counted r es (h ∷ []) → e.request ≡ h.request
    → same_request h.request h.request ≡ true → was_answered e.outcome ≡ true → Quiet r (es ++ e ∷ [])
quiet_heard {r = r} {es = es} h e c is self told =
    let d : Counted r (es ++ e ∷ []) [] = hand_heard {rest = []} [] h e c is self told (λ k i. absurd i) (λ k i. absurd i) in
    record { zeros = λ q. d.others q (λ k i eq. i); none = d.none }

pub quiet_counted : {r : ℕ} {es : List Entry} (hs : List HeldRequest) → Quiet r es → ((k : HeldRequest) → In k hs → k.missed ≡ 0)
    → Counted r es hs
quiet_counted hs h g = grind arith

-- ---- the first request that ran out of retries stays the first

pub worn_first_still : {r : ℕ} {es : List Entry} {q : Request} (e : Entry) → IsFirstWorn r es q → IsFirstWorn r (es ++ e ∷ []) q
worn_first_still {es = es} e f =
    record {
      before = f.before;
      last = f.last;
      later = f.later ++ e ∷ [];
      parts = ap (λ v. v ++ e ∷ []) f.parts ∙ append_assoc f.before (f.last ∷ f.later) (e ∷ []);
      is_of = f.is_of;
      worn = f.worn;
      first = f.first;
    }
