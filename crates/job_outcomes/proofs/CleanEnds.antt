-- How the driver's abort or clean of the job ends, by its own entries.
use Rattle.text_and_lists.proofs.Members.{none_some, some_is}
use Rattle.job_invariant.proofs.Aborting.{taken_in}
use Rattle.job_invariant.proofs.Clearing.{clean_clears}
use Rattle.job_invariant.proofs.Going.{step_so}
use Rattle.job_invariant.proofs.Shows.{HidesAll, hidden_shows}
use Rattle.job_invariant.specs.Clearing.{Clears}
use Rattle.job_model.specs.JobScript.{Script}
use Rattle.job_model.specs.Known.{Known}
use Rattle.job_model.specs.Legal.{IsLegal}
use Rattle.job_model.specs.declared.ends.CleanEnd.{CleanEnd}
use Rattle.job_outcomes.proofs.Alone.{clean_follows, clean_run}
use Rattle.job_outcomes.proofs.Went.{Went, went}
use Rattle.job_outcomes.specs.CleanEnds.{CleanEnds, cleaning}
use Rattle.job_protocol.proofs.Faults.{faults}
use Rattle.job_protocol.proofs.Wearing.{first_spent}
use Rattle.job_protocol.specs.Cleanups.{Clean, CleanOver, Naming, Removing, Sweeping, Walking, aborting, clean_after, clean_asks}
use Rattle.job_protocol.specs.Cleanups.{clean_hears, clean_over, clean_start, naming}
use Rattle.job_protocol.specs.OperationLaws.{is_fault, spare_of}
use Rattle.job_protocol.specs.Operations.{Setting, advance, over, wants}
use Rattle.job_protocol.specs.View.{Same, view}
use Rattle.job_spec.specs.OperationEnds.{CleanIs, Cleaned}
use Rattle.list_walk.specs.Walks.{Deleting, Listing}
use Rattle.retries.specs.Operation.{Follows, run}
use Rattle.retries.specs.Retries.{Retried, fresh, spent_in, step}
use Rattle.retries.specs.Worn.{WornFirst}
use Rattle.s3_types.specs.Answer.{answer, apply}
use Rattle.s3_types.specs.Moment.{AreHonest, after_all}
use Rattle.s3_types.specs.Store.{BucketContent, Scene}
use Rattle.s3_types.specs.declared.journal.Entry.{Entry}
use Rattle.s3_types.specs.declared.journal.Outcome.TheVariants.{Answered, ReplyLost}
use Rattle.s3_types.specs.declared.reply.Reply.{Reply}
use Rattle.s3_types.specs.declared.request.Actor.{Actor}
use Rattle.s3_types.specs.declared.request.Committer.{Committer}
use Rattle.s3_types.specs.declared.request.Request.{Request}
use Rattle.s3_types.specs.declared.request.UploadRef.{UploadRef}
use Rattle.std.proofs.Common.{Bool, List, None, Option, Some, ap, arith, inl, inr, refl, subst, sym, true, [], ◌∙◌, ◌∷◌, ◌≡◌, ◌⊎◌}
use Rattle.std.specs.Option.{is_some, option_map}
use Rattle.std.specs.FinMap as fin
use Rattle.job_model.specs.declared.ends.CleanEnd.TheVariants as cleans
use Rattle.job_model.specs.declared.ends.OpEnd.TheVariants as ends

-- ---- it ends Done, or a request ran out of retries

abbrev Ends : CleanEnd → Type 0
Ends e = (e ≡ cleans.StoreFault) ⊎ (e ≡ cleans.Done)

abbrev Over : Clean → Type 0
Over (CleanOver end) = Ends end
Over _ = Unit {0}

aborting_so : (c : Committer) (us : List UploadRef) → Over (aborting c us)
aborting_so c us = grind arith

naming_so : (r : Reply) → Over (naming r)
naming_so r = grind arith

heard_so : (w : Script) (c : Clean) (r : Reply) → Over c → Over (clean_hears w c r)
heard_so w c r h = grind arith

run_over : (w : Script) (t : Retried Clean) (es : List Entry) → Over t.operation
    → Over (run (step w.retries (clean_after w)) t es).operation
run_over w t [] h = h
run_over w t (e ∷ es) h =
    run_over w (step w.retries (clean_after w) t e.outcome) es (step_so w.retries (clean_after w) t e.outcome Over
    (λ x q. heard_so w t.operation x h) (λ n. h) (λ n. inl refl))

over_so : (c : Clean) → Over c → (e : CleanEnd) → option_map ends.Clean (clean_over c) ≡ Some (ends.Clean e) → Ends e
over_so c h e g = grind arith

fault_is : (e : CleanEnd) → is_fault (Some (ends.Clean e)) ≡ true → e ≡ cleans.StoreFault
fault_is e h = grind arith

module _ (g : Setting) (a : Actor) (k : Known) (es : List Entry) (f : Follows (wants g a) (advance g a) (cleaning g k) es) where
  abbrev w : Script
  w = g.script

  abbrev first : Retried Clean
  first = fresh w.retries clean_start

  abbrev at_end : Clean
  at_end = (run (step w.retries (clean_after w)) first es).operation

  end_is : over (run (advance g a) (cleaning g k) es).operation ≡ option_map ends.Clean (clean_over at_end)
  end_is = ap over (clean_run g a k first es)

  pub clean_ends : (e : CleanEnd) → over (run (advance g a) (cleaning g k) es).operation ≡ Some (ends.Clean e) → (worn : Option Request)
      × WornFirst w.retries es worn × CleanIs worn e
  clean_ends e is =
      let worn = spent_in (advance g a) (λ y. spare_of y.operation) (cleaning g k) es in (
        worn,
        first_spent g a (cleaning g k) refl refl es f,
        by worn (sym (ap is_fault is) ∙ faults g a (cleaning g k) refl refl es f)
            (over_so at_end (run_over w first es tt) e (sym end_is ∙ is)),
      )
    where
      by : (worn : Option Request) → is_fault (Some (ends.Clean e)) ≡ is_some worn → Ends e → CleanIs worn e
      by worn h g = grind (arith, fault_is)

  -- ---- what it leaves

  module _ (j : IsLegal g.script) (s0 : Scene) where
    -- Without a bucket it never gets past its first listing.
    abbrev Bare : Scene → Clean → Type 0
    Bare s (Walking found) = fin.get s.content.buckets w.dest.bucket ≡ None
    Bare s _ = ⊥

    abbrev Cleans : Scene → Clean → Type 0
    Cleans s t = Clears w s t × Same (view w.dest s.content) (view w.dest s0.content)

    abbrev Holds : Scene → Clean → Type 0
    Holds s t = Cleans s t ⊎ Bare s t

    -- It hides nothing from readers.
    shows : (s : Scene) (t : Clean) → Clears w s t → (r : Request) → clean_asks w t ≡ Some r
        → Same (view w.dest (apply s r).content) (view w.dest s.content)
    shows s (Sweeping (Listing keys)) h r e = hidden_shows j s r ReplyLost h.2 (subst (HidesAll w) (some_is e) (λ b q i. absurd i))
    shows s (Sweeping (Deleting q qs)) h r e = hidden_shows j s r ReplyLost h.2
        (subst (HidesAll w) (some_is e) (λ b x i. h.3 x (taken_in 1000 (q ∷ qs) x i)))
    shows s Naming h r e = subst (λ v. Same (view w.dest (apply s v).content) (view w.dest s.content)) (some_is e) (λ p. refl)
    shows s (Removing p ps) h r e = subst (λ v. Same (view w.dest (apply s v).content) (view w.dest s.content)) (some_is e) (λ q. refl)
    shows s (CleanOver end) h r e = absurd (none_some refl e)
    shows s _ h r e = hidden_shows j s r ReplyLost h.0 (subst (HidesAll w) (some_is e) (λ b q i. absurd i))

    bare_still : (s : Scene) (m : Clean) → Bare s m → (r : Request) → clean_asks w m ≡ Some r → Bare (apply s r) m
    bare_still s m h r g = grind arith

    bare_heard : (s : Scene) (m : Clean) → Bare s m → (r : Request) → clean_asks w m ≡ Some r → (x : Reply) → x ≡ answer s r
        → Bare (apply s r) (clean_hears w m x)
    bare_heard s m h r g x e = grind arith

    heard : (s : Scene) (m : Clean) → Holds s m → (r : Request) → clean_asks w m ≡ Some r → (x : Reply) (repeated : Bool) → x ≡ answer s r
        → Holds (apply s r) (clean_hears w m x)
    heard s m (inl h) r asked x repeated e = inl (
      clean_clears w s w.retries 0 repeated m h.0 r asked (Answered x) e,
      λ p. shows s m h.0 r
          asked p ∙ h.1 p,
    )
    heard s m (inr h) r asked x repeated e = inr (bare_heard s m h r asked x e)

    still : (s : Scene) (m : Clean) → Holds s m → (r : Request) → clean_asks w m ≡ Some r → Holds (apply s r) m
    still s m (inl h) r asked = inl (clean_clears w s w.retries 1 true m h.0 r asked ReplyLost tt, λ p. shows s m h.0 r asked p ∙ h.1 p)
    still s m (inr h) r asked = inr (bare_still s m h r asked)

    begins_so : (o : Option BucketContent) → fin.get s0.content.buckets w.dest.bucket ≡ o → Holds s0 clean_start
    begins_so (Some b) e = inl (((b, e), λ id u g c. inr refl), λ p. refl)
    begins_so None e = inr e

    left : (s : Scene) (m : Clean) → Holds s m → clean_over m ≡ Some cleans.Done → Cleaned w s0 s
    left s m h g = grind arith

    pub clean_leaves : AreHonest s0 es → over (run (advance g a) (cleaning g k) es).operation ≡ Some (ends.Clean cleans.Done)
        → Cleaned w s0 (after_all s0 es)
    clean_leaves honest is = by (went w.retries (clean_asks w) (clean_after w) Holds heard still (λ m. refl) es s0 first
        (begins_so (fin.get s0.content.buckets w.dest.bucket) refl) (clean_follows g a k first es f) honest)
      where
        done : clean_over at_end ≡ Some cleans.Done
        done =
            (elim (clean_over at_end) as (λ o. option_map ends.Clean o ≡ Some (ends.Clean cleans.Done) → o ≡ Some cleans.Done)
            [ None ↦ λ e. absurd (none_some refl e) | Some d ↦ λ e. cc ]) (sym end_is ∙ is)

        by : Went w.retries (clean_asks w) (clean_after w) Holds heard still (λ m. refl) first s0 es → Cleaned w s0 (after_all s0 es)
        by (inl h) = left (after_all s0 es) at_end h.1 done
        by (inr h) = let no : cleans.StoreFault ≡ cleans.Done = some_is (sym (ap clean_over h.3) ∙ done) in absurd cc

pub cleans_end : CleanEnds
cleans_end = record { ends = clean_ends; cleaned = λ g j a k s es f honest is. clean_leaves g a k es f j s honest is }
