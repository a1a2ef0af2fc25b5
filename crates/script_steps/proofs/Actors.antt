-- Actors that are the same or not, and values that are put at one of them.
use Rattle.text_and_lists.proofs.Members.{false_true, true_or_false}
use Rattle.job_spec.specs.States.{put, same_actor}
use Rattle.s3_types.specs.declared.request.Actor.{Actor}
use Rattle.std.proofs.Common.{ap, arith, cond, false, inl, inr, subst, sym, true, ◌∙◌, ◌≡◌, ◌⊎◌}

same_itself : (a : Actor) → same_actor a a ≡ true
same_itself a = grind arith

pub same_true : (a b : Actor) → a ≡ b → same_actor a b ≡ true
same_true a b e = ap (same_actor a) (sym e) ∙ same_itself a

pub same_is : (a b : Actor) → same_actor a b ≡ true → a ≡ b
same_is a b h = grind arith

pub same_or_not : (a b : Actor) → (a ≡ b) ⊎ (a ≡ b → ⊥)
same_or_not a b = elim (true_or_false (same_actor a b)) [ inl h ↦ inl (same_is a b h) | inr h ↦ inr (λ e. false_true h (same_true a b e)) ]

pub same_false : (a b : Actor) → (a ≡ b → ⊥) → same_actor a b ≡ false
same_false a b ne = elim (true_or_false (same_actor a b)) [ inl h ↦ absurd (ne (same_is a b h)) | inr h ↦ h ]

pub put_here : {X : Type 0} (f : Actor → X) (k : Actor) (v : X) (q : Actor) → q ≡ k → put f k v q ≡ v
put_here f k v q e = ap (λ b. cond b v (f q)) (same_true q k e)

pub put_other : {X : Type 0} (f : Actor → X) (k : Actor) (v : X) (q : Actor) → (q ≡ k → ⊥) → put f k v q ≡ f q
put_other f k v q ne = ap (λ b. cond b v (f q)) (same_false q k ne)

-- A property holds of the value that is put at an actor, and still holds of the values of the others.
pub one_put : {X : Type 0} (P : X → Type 0) (f : Actor → X) (c : Actor) (v : X) (q : Actor) → (q ≡ c → P v) → ((q ≡ c → ⊥) → P (f q))
    → P (put f c v q)
one_put P f c v q here old = elim (same_or_not q c) [
  | inl s ↦ subst P (sym (put_here f c v q s)) (here s)
  | inr ne ↦ subst P
      (sym (put_other f c v q ne)) (old ne)
]

pub both_put : {X Y : Type 0} (P : X → Y → Type 0) (f : Actor → X) (h : Actor → Y) (c : Actor) (v : X) (u : Y) (q : Actor) → (q ≡ c → P v u)
    → ((q ≡ c → ⊥) → P (f q) (h q))
    → P (put f c v q) (put h c u q)
both_put P f h c v u q g e = grind arith
