-- How the driver's set-up ends by what its pages listed, whoever else sends.
use Rattle.text_and_lists.proofs.Members.{none_some, some_is}
use Rattle.job_model.specs.JobScript.{Script}
use Rattle.job_model.specs.declared.ends.SetupEnd.{SetupEnd}
use Rattle.job_outcomes.proofs.Least.{shown_later}
use Rattle.job_outcomes.specs.SetupEnds.{SetupListed, keys_listed, keys_told}
use Rattle.job_protocol.proofs.Faults.{if_bucket_so}
use Rattle.job_protocol.specs.Conflicts.{checks_all}
use Rattle.job_protocol.specs.Setup.{Checking, Clearing, Heading, Setup, SetupOver, Sweeping, cleared, first_shown, headed, setup_after}
use Rattle.job_protocol.specs.Setup.{setup_asks, setup_hears, setup_over, setup_start, sweeping}
use Rattle.list_walk.specs.Walks.{all_go, sweep_hears}
use Rattle.retries.proofs.First.{counted_first}
use Rattle.retries.specs.Operation.{Follows, run}
use Rattle.retries.specs.Retries.{Retried, fresh, is_zero, step, unanswered_by, wants_of, worn_in}
use Rattle.retries.specs.Worn.{WornFirst}
use Rattle.s3_types.specs.declared.journal.Entry.{Entry}
use Rattle.s3_types.specs.declared.journal.Outcome.{Outcome}
use Rattle.s3_types.specs.declared.journal.Outcome.TheVariants.{Answered, Slow}
use Rattle.s3_types.specs.declared.reply.Reply.{Reply}
use Rattle.s3_types.specs.declared.request.Committer.{Committer}
use Rattle.s3_types.specs.declared.request.Committer.TheVariants.{Magic}
use Rattle.s3_types.specs.declared.request.Request.{Request}
use Rattle.std.proofs.Common.{Bool, List, None, Option, Some, ap, append-nil, append_assoc, arith, cond, refl, subst, suc, sym, true, zero}
use Rattle.std.proofs.Common.{ℕ, [], ◌++◌, ◌∙◌, ◌∷◌, ◌≡◌}
use Rattle.std.proofs.lemmas.Bool.{false≢true}
use Rattle.job_model.specs.declared.ends.SetupEnd.TheVariants as setups

module _ (w : Script) where
  abbrev checks : Bool
  checks = checks_all w.committer w.mode

  -- ---- what its pages have listed so far

  abbrev Listed : List (List ℕ) → Setup → Type 0
  Listed keys Heading = keys ≡ []
  Listed keys (Checking found) = (checks ≡ true) × (first_shown w keys ≡ None)
  Listed keys Clearing = checks ≡ true → first_shown w keys ≡ None
  Listed keys (Sweeping t) = checks ≡ true → ⊥
  Listed keys (SetupOver end) = SetupListed w keys None end

  none_yet : {keys : List (List ℕ)} → keys ≡ [] → first_shown w keys ≡ None
  none_yet e = ap (first_shown w) e

  from_here : (keys : List (List ℕ)) → keys ≡ [] → (b : Bool) → checks ≡ b → Listed keys (cond b (Checking []) Clearing)
  from_here keys h b g = grind arith

  headed_so : (keys : List (List ℕ)) → keys ≡ [] → (x : Reply) → Listed keys (headed w x)
  headed_so keys h x = grind arith

  checked_so : (keys : List (List ℕ)) → (checks ≡ true) × (first_shown w keys ≡ None) → (found : List (List ℕ)) (x : Reply) (r : Request)
      → setup_asks w (Checking found) ≡ Some r → Listed (keys ++ keys_told r (Answered x)) (setup_hears w (Checking found) x)
  checked_so keys h found x r g = grind (arith, shown_later)

  more_keys : (keys : List (List ℕ)) → Listed keys Clearing → checks ≡ true → first_shown w (keys ++ []) ≡ None
  more_keys keys h c = ap (first_shown w) (append-nil keys) ∙ h c

  cleared_so : (keys : List (List ℕ)) → Listed keys Clearing → (k : Committer) → w.committer ≡ k → Listed (keys ++ []) (cleared k)
  cleared_so keys h Magic is = λ c. absurd (false≢true (sym (ap (λ v. checks_all v w.mode) is) ∙ c))
  cleared_so keys h _ is = more_keys keys h

  heard : (keys : List (List ℕ)) (m : Setup) → Listed keys m → (r : Request) → setup_asks w m ≡ Some r → (x : Reply)
      → Listed (keys ++ keys_told r (Answered x)) (setup_hears w m x)
  heard keys Heading h r asked x =
      let none = append-nil keys ∙ h in
      subst (λ q. Listed (keys ++ keys_told q (Answered x)) (setup_hears w Heading x)) (some_is asked)
      (if_bucket_so (Listed (keys ++ [])) x (headed w x) (λ c. none_yet none) (headed_so (keys ++ []) none x))
  heard keys (Checking found) h r asked x = checked_so keys h found x r asked
  heard keys Clearing h r asked x =
      subst (λ q. Listed (keys ++ keys_told q (Answered x)) (setup_hears w Clearing x)) (some_is asked)
      (if_bucket_so (Listed (keys ++ [])) x (cleared w.committer) (more_keys keys h) (cleared_so keys h w.committer refl))
  heard keys (Sweeping t) h r asked x =
      let more = keys ++ keys_told r (Answered x) in
      if_bucket_so (Listed more) x (sweeping (sweep_hears all_go t x)) (λ c. absurd (h c))
      (elim (sweep_hears all_go t x) as (λ o. Listed more (sweeping o)) [ Some u ↦ h | None ↦ λ c. absurd (h c) ])
  heard keys (SetupOver end) h r asked x = absurd (none_some refl asked)

  over_so : (keys : List (List ℕ)) (m : Setup) → Listed keys m → (e : SetupEnd) → setup_over m ≡ Some e → SetupListed w keys None e
  over_so keys m h e g = grind arith

  -- ---- its entries

  abbrev after : Retried Setup → Outcome → Retried Setup
  after = step w.retries (setup_after w)

  -- Nothing is sent after a request that ran out of retries.
  worn_over : (es : List Entry) → Follows (wants_of (setup_asks w)) after (fresh w.retries (SetupOver setups.StoreFault)) es
      → (e : SetupEnd) → setup_over (run after (fresh w.retries (SetupOver setups.StoreFault)) es).operation ≡ Some e
      → e ≡ setups.StoreFault
  worn_over [] f e is = sym (some_is is)
  worn_over (x ∷ es) f e is = absurd (none_some refl f.0)

  -- A request that got no answer.
  missed : (keys : List (List ℕ)) (m : Setup) (r : Request) (repeated : Bool) (es : List Entry) (e : SetupEnd)
      → ((t : Retried Setup) → Listed keys t.operation → Follows (wants_of (setup_asks w)) after t es
      → setup_over (run after t es).operation ≡ Some e
      → SetupListed w (keys ++ keys_listed es) (worn_in w.retries (setup_after w) t es) e)
      → Listed keys m → (n : ℕ) → Follows (wants_of (setup_asks w)) after (unanswered_by w.retries (setup_after w) m repeated n) es
      → setup_over (run after (unanswered_by w.retries (setup_after w) m repeated n) es).operation ≡ Some e
      → SetupListed w (keys ++ keys_listed es) (cond (is_zero n) (Some r) (worn_in w.retries (setup_after w)
      (unanswered_by w.retries (setup_after w) m repeated n) es)) e
  missed keys m r repeated es e rest h zero f is = worn_over es f e is
  missed keys m r repeated es e rest h (suc n) f is = rest (record { operation = m; spare = n; repeated = repeated }) h f is

  abbrev Rest : List Entry → Type 0
  Rest es = (keys : List (List ℕ)) (t : Retried Setup) → Listed keys t.operation → Follows (wants_of (setup_asks w)) after t es
      → (e : SetupEnd) → setup_over (run after t es).operation ≡ Some e
      → SetupListed w (keys ++ keys_listed es) (worn_in w.retries (setup_after w) t es) e

  goes : (es : List Entry) → Rest es
  goes [] keys t h f e is = subst (λ l. SetupListed w l None e) (sym (append-nil keys)) (over_so keys t.operation h e is)
  goes (x ∷ es) keys t h f e is = by x.outcome f.1 is (λ l u. goes es l u)
    where
      by : (o : Outcome) → Follows (wants_of (setup_asks w)) after (after t o) es → setup_over (run after (after t o) es).operation ≡ Some e
          → Rest es
          → SetupListed w (keys ++ (keys_told x.request o ++ keys_listed es))
          (worn_in w.retries (setup_after w) t (record { event = x.event; actor = x.actor; request = x.request; outcome = o } ∷ es)) e
      by (Answered y) g is rest =
          subst (λ l. SetupListed w l (worn_in w.retries (setup_after w) (after t (Answered y)) es) e)
          (append_assoc keys (keys_told x.request (Answered y)) (keys_listed es))
          (rest (keys ++ keys_told x.request (Answered y)) (after t (Answered y)) (heard keys t.operation h x.request f.0 y) g e is)
      by Slow g is rest = missed keys t.operation x.request t.repeated es e (λ u k v. rest keys u k v e) h t.spare g is
      by _ g is rest = missed keys t.operation x.request true es e (λ u k v. rest keys u k v e) h t.spare g is

  pub setup_listed : (es : List Entry) → Follows (wants_of (setup_asks w)) after (fresh w.retries setup_start) es → (e : SetupEnd)
      → setup_over (run after (fresh w.retries setup_start) es).operation ≡ Some e
      → (worn : Option Request) × WornFirst w.retries es worn × SetupListed w (keys_listed es) worn e
  setup_listed es f e is =
      let t = fresh w.retries setup_start in (
        worn_in w.retries (setup_after w) t es,
        counted_first w.retries (setup_asks w) (setup_after w) setup_start es f,
        goes es [] t refl f e is,
      )
