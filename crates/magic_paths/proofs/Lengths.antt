-- The lengths of the layout's keys.
use Rattle.text_and_lists.proofs.Lists.{short_number}
use Rattle.magic_paths.specs.Layout.{attempt_key, set_key, success_key}
use Rattle.s3_types.specs.Names.{is_job_id}
use Rattle.std.proofs.Common.{List, arith, length, length-append, true, ℕ, ◌<◌, ◌^◌, ◌≡◌, ◌≤◌}
use Rattle.std.proofs.lemmas.Bool.{and_parts, leb-true}

id_short : (id : List ℕ) → is_job_id id ≡ true → length id ≤ 64
id_short id h = leb-true _ _ (and_parts _ _ (and_parts _ _ h).0).1

pub attempt_key_short : (dest id : List ℕ) (task attempt : ℕ) → length dest ≤ 400 → is_job_id id ≡ true → task < 2 ^ 32 → attempt < 2 ^ 32
    → length (attempt_key dest id task attempt) ≤ 1023
attempt_key_short dest id task attempt d h t a = simp length-append (omega
    (arith, id_short id h, short_number task t, short_number attempt a))

pub set_key_short : (dest id : List ℕ) (task : ℕ) → length dest ≤ 400 → is_job_id id ≡ true → task < 2 ^ 32
    → length (set_key dest id task) ≤ 1024
set_key_short dest id task d h t = simp length-append (omega (arith, id_short id h, short_number task t))

pub success_key_short : (dest : List ℕ) → length dest ≤ 400 → length (success_key dest) ≤ 1024
success_key_short dest d = simp length-append (omega arith)
