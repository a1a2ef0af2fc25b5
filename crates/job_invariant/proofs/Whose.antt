-- Attempts that are the same or not, and functions of them.
use Rattle.text_and_lists.proofs.Members.{false_true, nat_true, true_or_false}
use Rattle.job_invariant.specs.Told.{put_who}
use Rattle.job_model.specs.Attempts.{Who, same_name}
use Rattle.std.proofs.Common.{Option, Some, ap, arith, cond, false, inl, inr, refl, sym, true, ℕ, ◌∙◌, ◌≡◌, ◌⊎◌}

abbrev pub attempt : ℕ → ℕ → Who
attempt t n = record { task = t; attempt = n }

pub who_of : (a b : Who) → a.task ≡ b.task → a.attempt ≡ b.attempt → a ≡ b
who_of a b t n = λ i. attempt (t i) (n i)

pub who_true : (a b : Who) → a ≡ b → same_name a b ≡ true
who_true a b e = rw (nat_true a.task b.task (ap (λ (x : Who). x.task) e), nat_true a.attempt b.attempt (ap (λ (x : Who). x.attempt) e)) refl

pub who_is : (a b : Who) → same_name a b ≡ true → a ≡ b
who_is a b h = grind arith

pub same_or_another : (a b : Who) → (a ≡ b) ⊎ (a ≡ b → ⊥)
same_or_another a b = elim (true_or_false (same_name a b)) [ inl h ↦ inl (who_is a b h) | inr h ↦ inr (λ e. false_true h (who_true a b e)) ]

pub who_false : (a b : Who) → (a ≡ b → ⊥) → same_name a b ≡ false
who_false a b ne = elim (true_or_false (same_name a b)) [ inl h ↦ absurd (ne (who_is a b h)) | inr h ↦ h ]

pub who_here : {X : Type 0} (f : Who → X) (a : Who) (v : X) (b : Who) → b ≡ a → put_who f a v b ≡ v
who_here f a v b e = ap (λ t. cond t v (f b)) (who_true b a e)

pub who_other : {X : Type 0} (f : Who → X) (a : Who) (v : X) (b : Who) → (b ≡ a → ⊥) → put_who f a v b ≡ f b
who_other f a v b ne = ap (λ t. cond t v (f b)) (who_false b a ne)

-- Putting the value that was there changes nothing.
pub who_same : {X : Type 0} (f : Who → X) (a : Who) (v : X) → v ≡ f a → put_who f a v ≡ f
who_same {X = X} f a v e = λ i b. at b i
  where
    at : (b : Who) → put_who f a v b ≡ f b
    at b = elim (same_or_another b a) [ inl h ↦ who_here f a v b h ∙ e ∙ ap f (sym h) | inr ne ↦ who_other f a v b ne ]

-- If a property holds of the new value of one attempt and of the old values of the others, it holds of all.
pub put_at : {X : Type 0} (P : Who → X → Type 0) (f : Who → Option X) (a : Who) (x : X) → P a x → ((b : Who) (v : X) → f b ≡ Some v → P b v)
    → (b : Who) (v : X) → put_who f a (Some x) b ≡ Some v → P b v
put_at P f a x h g b v e = grind arith
