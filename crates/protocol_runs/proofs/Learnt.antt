-- What a journal says of an attempt is what its own entries say, and so is that the driver cleans up.
use Rattle.text_and_lists.proofs.Members.{nat_true, true_or_false}
use Rattle.job_invariant.proofs.Whose.{attempt, same_or_another, who_here, who_other}
use Rattle.job_invariant.specs.Told.{Told, known, tell, tell_all, tell_by}
use Rattle.job_model.specs.Attempts.{Who, actor_of}
use Rattle.job_model.specs.JobScript.{Script}
use Rattle.job_protocol.specs.Knowledge.{knows_from, learn}
use Rattle.job_protocol.specs.Seen.{is_begun}
use Rattle.job_spec.specs.Ends.{has_cleaned, is_driver}
use Rattle.job_spec.specs.States.{same_actor}
use Rattle.job_spec.specs.Turns.{by_actor}
use Rattle.s3_types.specs.declared.journal.Entry.{Entry}
use Rattle.s3_types.specs.declared.journal.Outcome.{Outcome}
use Rattle.s3_types.specs.declared.request.Actor.{Actor}
use Rattle.s3_types.specs.declared.request.Actor.TheVariants.{Attempt}
use Rattle.s3_types.specs.declared.request.Request.{Request}
use Rattle.std.proofs.Common.{Bool, List, ap, arith, cond, false, inl, inr, refl, sym, true, ℕ, [], ◌&&◌, ◌||◌, ◌∙◌, ◌∷◌, ◌≡◌}
use Rattle.std.proofs.Math.Bool.{or-false}

module _ (w : Script) (a : Who) where
  same_one : (t n : ℕ) → same_actor (Attempt t n) (actor_of a) ≡ true → a ≡ attempt t n
  same_one t n h = grind arith

  learnt : (m : Told) (x : Actor) (n : ℕ) (r : Request) (o : Outcome)
      → known (tell_by w m n r o x) a ≡ cond (same_actor x (actor_of a)) (learn w a (known m a) r o) (known m a)
  learnt m (Attempt t n) v r o = elim (same_or_another a (attempt t n)) [
    | inl is ↦
        let now = learn w (attempt t n) (known m (attempt t n)) r o in
        let both : same_actor (Attempt t n) (actor_of a) ≡ true = rw (
          nat_true t a.task (ap (λ (x : Who). x.task) (sym is)),
          nat_true n
              a.attempt (ap (λ (x : Who). x.attempt) (sym is)),
        ) refl in
        let here : known (tell_by w m v r o (Attempt t n)) a ≡ now = λ i. record {
          drawn = who_here m.drawn (attempt t n) now.drawn a is i;
          put_sent = who_here m.put_sent (attempt t n) now.put_sent a is i;
          publish_sent = who_here m.publish_sent (attempt t n) now.publish_sent a is i;
        } in
        here ∙ ap (λ v. learn w v (known m v) r o) (sym is) ∙ sym (ap (λ b. cond b (learn w a (known m a) r o) (known m a)) both)
    | inr ne ↦
        let now = learn w (attempt t n) (known m (attempt t n)) r o in
        let other : same_actor (Attempt t n) (actor_of a) ≡ false = elim (true_or_false (same_actor (Attempt t n) (actor_of a)))
        [ inl h ↦ absurd (ne (same_one t n h)) | inr h ↦ h ] in
        let here : known (tell_by w m v r o (Attempt t n)) a ≡ known m a = λ i. record {
          drawn = who_other m.drawn (attempt t n) now.drawn a ne i;
          put_sent = who_other m.put_sent (attempt t n) now.put_sent a ne i;
          publish_sent = who_other m.publish_sent (attempt t n) now.publish_sent a ne i;
        } in
        here ∙ sym (ap (λ b. cond b (learn w a (known m a) r o) (known m a)) other)
  ]
  learnt m _ v r o = refl

  pub known_is : (es : List Entry) (m : Told) → known (tell_all w m es) a ≡ knows_from w a (known m a) (by_actor (actor_of a) es)
  known_is [] m = refl
  known_is (e ∷ es) m =
      let P : Bool → Type 0 = λ b. knows_from w a (cond b (learn w a (known m a) e.request e.outcome) (known m a))
      (by_actor (actor_of a) es) ≡ knows_from w a (known m a) (cond b (e ∷ by_actor (actor_of a) es) (by_actor (actor_of a) es)) in
      known_is es (tell w m e) ∙ ap (λ k. knows_from w a k (by_actor (actor_of a) es)) (learnt m e.actor e.event e.request e.outcome)
      ∙ (elim (same_actor e.actor (actor_of a)) as P [ true ↦ refl | false ↦ refl ])

-- ---- the driver cleans up

pub cleaned_is : (w : Script) (es : List Entry) (m : Told) → (tell_all w m es).cleaned ≡ (m.cleaned || has_cleaned m.cleans_at es)
cleaned_is w [] m = sym (or-false m.cleaned)
cleaned_is w (e ∷ es) m = by e.actor (λ v. cleaned_is w es v)
  where
    by : (x : Actor) → ((v : Told) → (tell_all w v es).cleaned ≡ (v.cleaned || has_cleaned v.cleans_at es))
        → (tell_all w (tell_by w m e.event e.request e.outcome x) es).cleaned ≡
        (m.cleaned || ((is_driver x && is_begun m.cleans_at e.event) || has_cleaned m.cleans_at es))
    by x h = grind arith
