-- The elements of the layout's keys.
use Rattle.text_and_lists.proofs.Pieces.{one_part}
use Rattle.text_and_lists.specs.Parts.{is_other, parts_from}
use Rattle.magic_paths.specs.Layout.{attempt_key, set_key, success_key}
use Rattle.path_keys.proofs.Beneath.{elements_append}
use Rattle.path_keys.proofs.Keys.{some_key}
use Rattle.path_keys.specs.Paths.{is_key}
use Rattle.s3_types.specs.Names.{are_elements, is_element, is_id_byte, is_job_id}
use Rattle.std.proofs.Common.{Bool, List, ap, append_assoc, arith, codes, false, length, nat_le, refl, sym, true, ℕ, [], ◌%◌, ◌&&◌, ◌++◌}
use Rattle.std.proofs.Common.{◌+◌, ◌<◌, ◌^◌, ◌∙◌, ◌∷◌, ◌≡◌, ◌≢◌, ◌≤◌}
use Rattle.std.proofs.lemmas.Bool.{and_parts}
use Rattle.std.proofs.lemmas.Bool.Decides.{nat_tests}
use Rattle.std.proofs.lemmas.Fmt.{decimal_by_steps, decimal_nonempty}
use Rattle.std.proofs.lemmas.List.Folds.{list_all-append}
use Rattle.std.specs.Fmt.{decimal}
use Rattle.std.specs.List.{list_all}

abbrev is_digit : ℕ → Bool
is_digit b = nat_le 48 b && nat_le b 57

a_digit : (k : ℕ) → k < 10 → is_digit (48 + k) ≡ true
a_digit k h = grind (arith, nat_tests)

digits_only : (n : ℕ) → n < 2 ^ 64 → list_all is_digit (decimal n) ≡ true
digits_only n h = decimal_by_steps (λ m ds. list_all is_digit ds ≡ true) one more n h
  where
    one : (m : ℕ) → m < 10 → list_all is_digit ((48 + m) ∷ []) ≡ true
    one m lt = rw (a_digit m lt) refl

    more : (m : ℕ) (ds : List ℕ) → 10 ≤ m → list_all is_digit ds ≡ true → list_all is_digit (ds ++ ((48 + m % 10) ∷ [])) ≡ true
    more m ds le old = list_all-append is_digit ds ((48 + m % 10) ∷ []) ∙ rw (old, a_digit (m % 10) (omega arith)) refl

digit_other : (s b : ℕ) → is_digit s ≡ false → is_digit b ≡ true → is_other s b ≡ true
digit_other s b n h = grind (arith, nat_tests)

digits_others : (s : ℕ) (ds : List ℕ) → is_digit s ≡ false → list_all is_digit ds ≡ true → list_all (is_other s) ds ≡ true
digits_others s [] n h = refl
digits_others s (d ∷ ds) n h = let p = and_parts (is_digit d) (list_all is_digit ds) h in rw
    (digit_other s d n p.0, digits_others s ds n p.1) refl

-- A decimal number has no byte s if s is not a digit.
pub decimal_without : (s n : ℕ) → is_digit s ≡ false → n < 2 ^ 64 → list_all (is_other s) (decimal n) ≡ true
decimal_without s n h lt = digits_others s (decimal n) h (digits_only n lt)

-- A decimal number has no `/`.
decimal_others : (n : ℕ) → n < 2 ^ 64 → list_all (is_other 47) (decimal n) ≡ true
decimal_others n h = decimal_without 47 n refl h

-- A word that does not begin with a dot is an element.
word_is_element : (b : ℕ) (bs : List ℕ) → b ≢ 46 → is_element (b ∷ bs) ≡ true
word_is_element b bs h = grind arith

digit_no_dot : (b : ℕ) → is_digit b ≡ true → b ≢ 46
digit_no_dot b h = grind (arith, nat_tests)

number_is_element : (ds more : List ℕ) → 0 < length ds → list_all is_digit ds ≡ true → is_element (ds ++ more) ≡ true
number_is_element [] more some h = absurd (omega arith)
number_is_element (d ∷ ds) more some h = word_is_element d (ds ++ more) (digit_no_dot d (and_parts (is_digit d) (list_all is_digit ds) h).0)

lone_element : (word : List ℕ) → list_all (is_other 47) word ≡ true → is_element word ≡ true → are_elements word ≡ true
lone_element word others is = ap (list_all is_element) (one_part 47 word others) ∙ rw is refl

three_others : (a b c : List ℕ) → list_all (is_other 47) a ≡ true → list_all (is_other 47) b ≡ true → list_all (is_other 47) c ≡ true
    → list_all (is_other 47) (a ++ (b ++ c)) ≡ true
three_others a b c x y z = list_all-append (is_other 47) a (b ++ c) ∙ rw (x, list_all-append (is_other 47) b c, y, z) refl

-- The text T_A of an attempt is an element.
attempt_elements : (task attempt : ℕ) → task < 2 ^ 64 → attempt < 2 ^ 64
    → are_elements (decimal task ++ (codes "_" ++ decimal attempt)) ≡ true
attempt_elements task attempt t a =
    lone_element (decimal task ++ (codes "_" ++ decimal attempt)) (three_others (decimal task) (codes "_") (decimal attempt)
    (decimal_others task t) refl (decimal_others attempt a))
    (number_is_element (decimal task) (codes "_" ++ decimal attempt) (decimal_nonempty task t) (digits_only task t))

-- The text task_T.pendingset of a set is an element.
set_elements : (task : ℕ) → task < 2 ^ 64 → are_elements (codes "task_" ++ (decimal task ++ codes ".pendingset")) ≡ true
set_elements task t =
    lone_element (codes "task_" ++ (decimal task ++ codes ".pendingset")) (three_others (codes "task_") (decimal task) (codes ".pendingset")
    refl (decimal_others task t) refl)
    (word_is_element 116 (codes "ask_" ++ (decimal task ++ codes ".pendingset")) (λ e. absurd (omega arith)))

-- No byte of a job's id is a `/`.
id_other : (b : ℕ) → is_id_byte b ≡ true → is_other 47 b ≡ true
id_other b h = grind (arith, nat_tests)

ids_others : (id : List ℕ) → list_all is_id_byte id ≡ true → list_all (is_other 47) id ≡ true
ids_others [] h = refl
ids_others (b ∷ id) h = let p = and_parts (is_id_byte b) (list_all is_id_byte id) h in rw (id_other b p.0, ids_others id p.1) refl

-- A job's id has no `/`.
pub id_others : (id : List ℕ) → is_job_id id ≡ true → list_all (is_other 47) id ≡ true
id_others id h = ids_others id (and_parts _ _ h).1

job_elements : (id : List ℕ) → is_job_id id ≡ true → are_elements (codes "job-" ++ id) ≡ true
job_elements id h = grind (arith, lone_element, list_all-append, id_others, word_is_element)

fixed_magic : are_elements (codes "__magic") ≡ true
unfolding parts_from
fixed_magic = refl

fixed_tasks : are_elements (codes "tasks") ≡ true
unfolding parts_from
fixed_tasks = refl

fixed_sets : are_elements (codes "sets") ≡ true
unfolding parts_from
fixed_sets = refl

fixed_base : are_elements (codes "__base") ≡ true
unfolding parts_from
fixed_base = refl

fixed_success : are_elements (codes "_SUCCESS") ≡ true
unfolding parts_from
fixed_success = refl

-- A key below a job's magic directory consists of elements.
in_job : (dest id tail : List ℕ) → are_elements dest ≡ true → is_job_id id ≡ true → are_elements tail ≡ true
    → are_elements (dest ++ (codes "/__magic/job-" ++ (id ++ (codes "/" ++ tail)))) ≡ true
in_job dest id tail d h t =
    let below = elements_append (codes "job-" ++ id) tail (job_elements id h) t in
    let assoc : (codes "job-" ++ id) ++ (codes "/" ++ tail) ≡ codes "job-" ++ (id ++ (codes "/" ++ tail)) = append_assoc (codes "job-") id
    (codes "/" ++ tail) in
    let magic = elements_append (codes "__magic") (codes "job-" ++ (id ++ (codes "/" ++ tail))) fixed_magic
    (ap are_elements (sym assoc) ∙ below) in
    elements_append dest (codes "__magic/job-" ++ (id ++ (codes "/" ++ tail))) d magic

pub attempt_key_elements : (dest id : List ℕ) (task attempt : ℕ) → are_elements dest ≡ true → is_job_id id ≡ true → task < 2 ^ 64
    → attempt < 2 ^ 64 → are_elements (attempt_key dest id task attempt) ≡ true
attempt_key_elements dest id task attempt d h t a =
    let word = decimal task ++ (codes "_" ++ decimal attempt) in
    let behind : word ++ codes "/__base" ≡ decimal task ++ (codes "_" ++ (decimal attempt ++ codes "/__base")) = append_assoc (decimal task)
    (codes "_" ++ decimal attempt) (codes "/__base") in
    let tail = elements_append (codes "tasks") (word ++ codes "/__base") fixed_tasks
    (elements_append word (codes "__base") (attempt_elements task attempt t a) fixed_base) in
    in_job dest id (codes "tasks/" ++ (decimal task ++ (codes "_" ++ (decimal attempt ++ codes "/__base")))) d h
    (ap (λ (l : List ℕ). are_elements (codes "tasks/" ++ l)) (sym behind) ∙ tail)

pub set_key_elements : (dest id : List ℕ) (task : ℕ) → are_elements dest ≡ true → is_job_id id ≡ true → task < 2 ^ 64
    → are_elements (set_key dest id task) ≡ true
set_key_elements dest id task d h t =
    in_job dest id (codes "sets/task_" ++ (decimal task ++ codes ".pendingset")) d h
    (elements_append (codes "sets") (codes "task_" ++ (decimal task ++ codes ".pendingset")) fixed_sets (set_elements task t))

pub success_key_elements : (dest : List ℕ) → are_elements dest ≡ true → are_elements (success_key dest) ≡ true
success_key_elements dest d = elements_append dest (codes "_SUCCESS") d fixed_success

pub dest_elements : (dest : List ℕ) → 1 ≤ length dest → is_key dest ≡ true → are_elements dest ≡ true
dest_elements dest some h = (some_key dest (omega arith) h).0
