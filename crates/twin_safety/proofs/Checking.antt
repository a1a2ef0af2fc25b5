-- How the check before a commit ends, by its entries alone.
use Rattle.text_and_lists.proofs.Members.{none_some}
use Rattle.job_model.specs.Attempts.{Who}
use Rattle.job_model.specs.JobScript.{Script}
use Rattle.job_model.specs.declared.ends.CheckEnd.{CheckEnd}
use Rattle.job_model.specs.declared.ends.CheckEnd.TheVariants.{Clear, Conflict, NoMemory, StoreFault}
use Rattle.job_protocol.specs.Rechecks.{Check, CheckOver, check_after, check_asks, check_hears, check_over, check_start}
use Rattle.retries.proofs.First.{counted_first}
use Rattle.retries.specs.Operation.{Follows, run}
use Rattle.retries.specs.Retries.{Got, Item, Retried, WornOut, is_zero, step, unanswered_by, wants_of, wears, worn_in}
use Rattle.retries.specs.Worn.{WornFirst}
use Rattle.s3_types.specs.declared.journal.Entry.{Entry}
use Rattle.s3_types.specs.declared.journal.Outcome.{Outcome}
use Rattle.s3_types.specs.declared.journal.Outcome.TheVariants.{Answered}
use Rattle.s3_types.specs.declared.reply.Reply.{Reply}
use Rattle.s3_types.specs.declared.request.Request.{Request}
use Rattle.std.proofs.Common.{Bool, List, None, Option, Some, ap, append-nil, append_assoc, arith, cond, false, inl, inr, refl, subst, sym}
use Rattle.std.proofs.Common.{true, ℕ, [], ◌++◌, ◌∙◌, ◌∷◌, ◌≡◌, ◌⊎◌}
use Rattle.twin_safety.specs.Checks.{CheckIs, Checked, ShownBy, checking, next}

-- ---- what one send does

-- P holds after a send if it holds of the state after an answer, of the same state, and of the state after the request ran out of retries.
step_by : {M : Type 0} (retries : ℕ) (after : M → Item → M) (t : Retried M) (o : Outcome) (P : Bool → M → Type 0)
    → ((x : Reply) → o ≡ Answered x → P false (after t.operation (Got x t.repeated))) → P false t.operation
    → P true (after t.operation WornOut)
    → P (wears t o) (step retries after t o).operation
step_by {M} retries after t o P heard still worn = by o heard
  where
    spare : (b : Bool) (n : ℕ) → P (is_zero n) (unanswered_by retries after t.operation b n).operation
    spare b n = grind arith

    by : (o : Outcome) → ((x : Reply) → o ≡ Answered x → P false (after t.operation (Got x t.repeated)))
        → P (wears t o) (step retries after t o).operation
    by o h = grind arith

-- ---- ends of the check

module _ (w : Script) where
  -- No request has run out of retries so far, and if the check is a conflict, the last of these entries showed it.
  abbrev Seen : List Entry → Check → Type 0
  Seen es (CheckOver StoreFault) = ⊥
  Seen es (CheckOver NoMemory) = ⊥
  Seen es (CheckOver (Conflict p)) = (before : List Entry) × (e : Entry) × (es ≡ before ++ e ∷ []) × ShownBy w p e
  Seen es _ = Unit {0}

  seen_start : (reported : List Who) → Seen [] (check_start w reported)
  seen_start reported = grind arith

  module _ (es : List Entry) (e : Entry) where
    seen_hears : (c : Check) → check_asks w c ≡ Some e.request → (r : Reply) → e.outcome ≡ Answered r
        → Seen (es ++ e ∷ []) (check_hears w c r)
    seen_hears c h r g = grind arith

    seen_still : (c : Check) → check_asks w c ≡ Some e.request → Seen (es ++ e ∷ []) c
    seen_still c h = grind arith

  -- A check that is over sends no more.
  over_stops : (t : Retried Check) (end : CheckEnd) (es : List Entry) → t.operation ≡ CheckOver end
      → Follows (wants_of (check_asks w)) (next w) t es → es ≡ []
  over_stops t end [] is f = refl
  over_stops t end (e ∷ es) is f = absurd (none_some (ap (check_asks w) is) f.0)

  -- No request ran out of retries and the check goes on so, or one did and ended the check.
  abbrev Either : List Entry → Option Request → Check → Type 0
  Either es worn c = ((worn ≡ None) × Seen es c) ⊎ ((r : Request) × (worn ≡ Some r) × (c ≡ CheckOver StoreFault))

  by_run : (past : List Entry) (t : Retried Check) (es : List Entry) → Seen past t.operation
      → Follows (wants_of (check_asks w)) (next w) t es
      → Either (past ++ es) (worn_in w.retries (check_after w) t es) (run (next w) t es).operation
  by_run past t [] seen f = inl (refl, subst (λ l. Seen l t.operation) (sym (append-nil past)) seen)
  by_run past t (e ∷ es) seen f =
      let u = next w t e.outcome in
      let worn = worn_in w.retries (check_after w) u es in
      let end = (run (next w) u es).operation in
      let rest : Seen (past ++ e ∷ []) u.operation
      → Either (past ++ e ∷ es) worn end = λ s. subst (λ l. Either l worn end) (append_assoc past (e ∷ []) es)
      (by_run (past ++ e ∷ []) u es s f.1) in
      step_by w.retries (check_after w) t e.outcome (λ b c. u.operation ≡ c → Either (past ++ e ∷ es) (cond b (Some e.request) worn) end)
      (λ x a is. rest (subst (Seen (past ++ e ∷ [])) (sym is) (seen_hears past e t.operation f.0 x a)))
      (λ is. rest (subst (Seen (past ++ e ∷ [])) (sym is) (seen_still past e t.operation f.0)))
      (λ is. inr (e.request, refl, ap (λ fs. (run (next w) u fs).operation) (over_stops u StoreFault es is f.1) ∙ is))
      refl

  pub over_is : (c : Check) (end : CheckEnd) → check_over c ≡ Some end → c ≡ CheckOver end
  over_is c end h = grind arith

  pub checks_end : (reported : List Who) (es : List Entry) (t : Retried Check) → Checked w reported es t → (end : CheckEnd)
      → t.operation ≡ CheckOver end → (worn : Option Request) × WornFirst w.retries es worn × CheckIs w es worn end
  checks_end reported es t (f, leads) end is =
      let first = checking w reported in
      let at : (run (next w) first es).operation ≡ CheckOver end = ap (λ (u : Retried Check). u.operation) leads ∙ is in
      let worn = counted_first w.retries (check_asks w) (check_after w) (check_start w reported) es f in
      elim (by_run [] first es (seen_start reported) f) [
        | inr x ↦ (Some x.0, subst (WornFirst w.retries es) x.1 worn, over_same (sym at ∙ x.2))
        | inl x ↦ (None, subst (WornFirst w.retries es) x.0 worn, by end (subst (Seen es) at x.1))
      ]
    where
      over_same : {a b : CheckEnd} → CheckOver a ≡ CheckOver b → a ≡ b
      over_same e = cc

      by : (x : CheckEnd) → Seen es (CheckOver x) → CheckIs w es None x
      by Clear seen = seen
      by _ seen = seen

-- If the check ended clear, no request of it ran out of retries.
pub checked_clear : (w : Script) (reported : List Who) (es : List Entry) (t : Retried Check) → Checked w reported es t
    → t.operation ≡ CheckOver Clear → WornFirst w.retries es None
checked_clear w reported es t checked is = let x = checks_end w reported es t checked Clear is in by x.0 x.1 x.2
  where
    by : (worn : Option Request) → WornFirst w.retries es worn → CheckIs w es worn Clear → WornFirst w.retries es None
    by None first c = first
    by (Some r) first c = absurd cc
