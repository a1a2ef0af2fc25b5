-- Picks that are the same for all tasks have the same shared path.
use Rattle.job_invariant.proofs.Wanted.{same_wanted}
use Rattle.job_model.specs.Files.{has_path}
use Rattle.job_model.specs.JobScript.{Script}
use Rattle.job_protocol.specs.Outputs.{Picks, files_picked, first_shared, first_where, paths_of, same_path, second_where, shared_by}
use Rattle.job_protocol.specs.Outputs.{two_where, wanted_paths, writes}
use Rattle.std.proofs.Common.{Bool, List, None, Option, Some, ap, arith, cond, refl, suc, zero, ℕ, [], ◌+◌, ◌-◌, ◌<◌, ◌∙◌, ◌∷◌, ◌≡◌, ◌≤◌}
use Rattle.std.specs.Option.{option_map}

first_same : (a b : ℕ → Bool) (t n : ℕ) → ((u : ℕ) → t ≤ u → u < t + n → a u ≡ b u) → first_where a t n ≡ first_where b t n
first_same a b t zero h = refl
first_same a b t (suc n) h =
    ap (λ x. cond x (Some t) (first_where a (t + 1) n)) (h t (omega arith) (omega arith))
    ∙ ap (λ x. cond (b t) (Some t) x) (first_same a b (t + 1) n (λ u l k. h u (omega arith) (omega arith)))

second_same : (a b : ℕ → Bool) (n : ℕ) (o : Option ℕ) → ((u : ℕ) → u < n → a u ≡ b u) → second_where a n o ≡ second_where b n o
second_same a b n None h = refl
second_same a b n (Some t) h = ap (λ o. option_map (λ u. (t, u)) o) (first_same a b (t + 1) (n - (t + 1)) (λ u l k. h u (omega arith)))

module _ (w : Script) (picks more : Picks) (agree : (t : ℕ) → t < w.tasks → more t ≡ picks t) where
  first_so : (ps : List (List ℕ)) → first_shared w more ps ≡ first_shared w picks ps
  first_so [] = refl
  first_so (p ∷ ps) =
      let same : (t : ℕ) → t < w.tasks → writes w more p t ≡ writes w picks p t = λ t l. ap (λ o. has_path (files_picked w t o) p)
      (agree t l) in
      let two : two_where (writes w more p) w.tasks ≡ two_where (writes w picks p) w.tasks =
      ap (λ o. second_where (writes w more p) w.tasks o) (first_same (writes w more p) (writes w picks p) 0 w.tasks
      (λ u l k. same u (omega arith)))
      ∙ second_same (writes w more p) (writes w picks p) w.tasks (first_where (writes w picks p) 0 w.tasks) same in
      ap (λ o. shared_by p o (first_shared w more ps)) two ∙ ap (shared_by p (two_where (writes w picks p) w.tasks)) (first_so ps)

  pub same_shared : same_path w more ≡ same_path w picks
  same_shared = first_so (wanted_paths w more) ∙ ap (λ fs. first_shared w picks (paths_of fs)) (same_wanted w picks more agree)
