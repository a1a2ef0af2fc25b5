-- The parts of a plan's file, with numbers that fit.
use Rattle.job_model.specs.Jobs.{Task}
use Rattle.job_model.specs.Plans.{IsTask}
use Rattle.s3_types.proofs.Blocks.{few_parts, length-parts, most_size, some_size}
use Rattle.s3_types.specs.Blocks.{greater, quotient_up}
use Rattle.std.proofs.Common.{List, ap, arith, length, subst, sym, ℕ, ◌*◌, ◌+◌, ◌<◌, ◌^◌, ◌∙◌, ◌≡◌, ◌≤◌}
use Rattle.task_requests.specs.Writing.{count_of, size_of}

most : (t : Task) (bytes : List ℕ) → IsTask t → length bytes ≤ 67108864 → size_of t bytes ≤ 67108864
most t bytes k short =
    let block : t.block ≤ 67108864 = k.block in
    let least : t.minimum ≤ 5242880 = k.most in
    most_size (length bytes) t.block t.minimum 67108864 (omega arith) short block (omega arith)

product : (n size : ℕ) → n ≤ 10000 → size ≤ 67108864 → n * size < 2 ^ 63
product n size h g = grind arith

pub number_fits : (t : Task) (bytes : List ℕ) (n : ℕ) → n < count_of t bytes → n + 1 ≤ 10000
number_fits t bytes n h = grind (arith, few_parts)

pub start_fits : (t : Task) (bytes : List ℕ) (n size : ℕ) → IsTask t → length bytes ≤ 67108864 → n < count_of t bytes
    → size ≡ size_of t bytes → n * size < 2 ^ 63
start_fits t bytes n size k short h s =
    let few : n + 1 ≤ 10000 = number_fits t bytes n h in
    subst (λ m. n * m < 2 ^ 63) (sym s) (product n (size_of t bytes) (omega arith) (most t bytes k short))

pub count_made : (t : Task) (bytes : List ℕ) (len size n : ℕ) → n ≡ greater 1 (quotient_up len size) → len ≡ length bytes
    → size ≡ size_of t bytes → n ≡ count_of t bytes
count_made t bytes len size n e l s = e ∙ (ap (λ m. greater 1 (quotient_up m size)) l ∙
    (ap (λ m. greater 1 (quotient_up (length bytes) m)) s ∙ sym (length-parts (size_of t bytes) bytes)))

pub count_fits : (t : Task) (bytes : List ℕ) (len size : ℕ) → IsTask t → length bytes ≤ 67108864 → len ≡ length bytes
    → size ≡ size_of t bytes → (1 ≤ size) × (len + size < 2 ^ 64)
count_fits t bytes len size h g e f = grind (arith, some_size, most)
