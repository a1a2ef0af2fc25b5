-- One more attempt that has reported is one more task.
use Rattle.job_model.specs.Attempts.{Declared, Who, actor_of, is_known, same_name}
use Rattle.job_model.specs.JobScript.{Script}
use Rattle.job_spec.specs.States.{is_reported, put}
use Rattle.job_states.proofs.ReportLemmas.{same_tests}
use Rattle.job_states.specs.Stands.{tested}
use Rattle.job_states.specs.inner.Stands.{told_by}
use Rattle.s3_types.specs.declared.request.Actor.{Actor}
use Rattle.s3_types.specs.declared.request.Actor.TheVariants.{Attempt, Driver, Shell}
use Rattle.std.proofs.Common.{Bool, List, ap, arith, drop, false, get_or, length, map, nat_eq, refl, set, suc, take, zero, ℕ, [], ◌&&◌}
use Rattle.std.proofs.Common.{◌++◌, ◌<◌, ◌||◌, ◌∷◌, ◌≡◌}
use Rattle.std.proofs.lemmas.Bool.Decides.{nat_tests}
use Rattle.std.specs.List.{list_any}
use Rattle.std.specs.Map.{lookup}
use Rattle.std.specs.Prelude.{is_some}

of_declared : (ds : List Declared) (q : Who) (b : Bool) (f : Actor → Bool) (t : ℕ)
    → list_any (λ d. nat_eq d.0.task t && put f (actor_of q) (f (actor_of q) || b) (actor_of d.0)) ds
    ≡ (list_any (λ d. nat_eq d.0.task t && f (actor_of d.0)) ds || (nat_eq q.task t && (is_some (lookup (same_name q) ds) && b)))
of_declared [] q b f t = grind arith
of_declared (d ∷ ds) q b f t = grind (arith, nat_tests, of_declared ds q b f t)

-- An attempt of the job adds its task if it reports. Any other actor reports nothing.
pub told_more : (w : Script) (a : Actor) (b : Bool) (f : Actor → Bool) (t : ℕ) → (is_known w.attempts a ≡ false → b ≡ false)
    → is_reported w (put f a (f a || b)) t ≡ told_by a b (is_reported w f) t
told_more w Driver b f t own = refl
told_more w Shell b f t own = refl
told_more w (Attempt task n) b f t own =
    let all = of_declared w.attempts (record { task = task; attempt = n }) b f t in
    grind (arith, nat_tests, all)

-- No task is reported if no attempt has reported.
none_of : (ds : List Declared) (t : ℕ) → list_any (λ d. nat_eq d.0.task t && false) ds ≡ false
none_of [] t = refl
none_of (d ∷ ds) t = grind (arith, none_of ds t)

pub none_reported : (w : Script) → tested w.tasks (is_reported w (λ a. false)) ≡ tested w.tasks (λ t. false)
none_reported w = same_tests (is_reported w (λ a. false)) (λ t. false) 0 w.tasks (none_of w.attempts)

pub map_twice : {A B C : Type 0} (g : B → C) (f : A → B) (xs : List A) → map g (map f xs) ≡ map (λ x. g (f x)) xs
map_twice g f [] = refl
map_twice g f (x ∷ xs) = ap (λ l. g (f x) ∷ l) (map_twice g f xs)

-- One more element of a list is mapped.
pub mapped_more : {A : Type 0} (g : A → A) (xs : List A) (i : ℕ) (x : A) → i < length xs
    → set (map g (take i xs) ++ drop i xs) i (g (get_or (map g (take i xs) ++ drop i xs) i x)) ≡ map g (take (suc i) xs) ++ drop (suc i) xs
mapped_more g [] i x lt = absurd (omega arith)
mapped_more g (y ∷ ys) zero x lt = refl
mapped_more g (y ∷ ys) (suc i) x lt = ap (λ l. g y ∷ l) (mapped_more g ys i x (omega arith))
