-- The keys and the cluster's paths of different places are different.
use Rattle.text_and_lists.proofs.Cuts.{Cut, cut_once}
use Rattle.text_and_lists.specs.Order.{text_eq, text_equiv}
use Rattle.magic_paths.proofs.Elements.{decimal_without, id_others}
use Rattle.magic_paths.specs.Layout.{attempt_key, magic_prefix}
use Rattle.magic_paths.specs.Places.{ClusterPlace, FilePlace, IsClusterPlace, IsPlace, MarkerPlace, Place, RecordPlace, SetPlace}
use Rattle.magic_paths.specs.Places.{StagedSetPlace, SuccessPlace, TemporaryPlace, is_magic_place, is_record, key_at, path_at}
use Rattle.path_keys.specs.Paths.{below}
use Rattle.s3_types.specs.Names.{is_job_id}
use Rattle.s3_types.specs.Pages.{begins}
use Rattle.std.proofs.Common.{List, ap, append_assoc, arith, codes, cond, drop, false, get_or, length, length-append, nat_eq, not, refl}
use Rattle.std.proofs.Common.{sym, true, ℕ, [], ◌++◌, ◌+◌, ◌-◌, ◌<◌, ◌^◌, ◌∙◌, ◌∷◌, ◌≡◌, ◌≤◌}
use Rattle.std.proofs.lemmas.Bool.{and_parts, eqb-true, true≢false}
use Rattle.std.proofs.lemmas.Bool.Decides.{nat_tests}
use Rattle.std.proofs.lemmas.Fmt.{decimal_injective}
use Rattle.std.proofs.lemmas.List.{append_cancel_left, append_cancel_right}
use Rattle.std.specs.Fmt.{decimal}
use Rattle.std.specs.List.{ends_with}

nat_same : (n : ℕ) → nat_eq n n ≡ true
nat_same n = grind (arith, nat_tests)

-- The text p ++ q begins with p ++ r exactly if q begins with r.
pub begins_behind : (p r q : List ℕ) → begins (p ++ r) (p ++ q) ≡ begins r q
begins_behind [] r q = refl
begins_behind (x ∷ p) r q = rw (nat_same x) (begins_behind p r q)

-- A text that begins with p is p and some rest.
pub begins_back : (p q : List ℕ) → begins p q ≡ true → (r : List ℕ) × (q ≡ p ++ r)
begins_back [] q h = (q, refl)
begins_back (x ∷ p) [] h = absurd cc
begins_back (x ∷ p) (y ∷ q) h =
    let a = and_parts (nat_eq x y) (begins p q) h in
    let old = begins_back p q a.1 in
    (old.0, ap (λ z. z ∷ q) (sym (eqb-true x y a.0)) ∙ ap (λ l. x ∷ l) old.1)

-- The key below a key that is not empty has a `/` between them.
pub below_is : (k q : List ℕ) → 1 ≤ length k → below k q ≡ k ++ 47 ∷ q
below_is k q h = grind arith

heads : {x y : ℕ} {xs ys : List ℕ} → x ∷ xs ≡ y ∷ ys → x ≡ y
heads e = cc

tails : {x y : ℕ} {xs ys : List ℕ} → x ∷ xs ≡ y ∷ ys → xs ≡ ys
tails e = cc

-- ---- records

drop_front : (q r : List ℕ) → drop (length (q ++ r) - length r) (q ++ r) ≡ r
drop_front q r =
    let long : length (q ++ r) ≡ length q + length r = length-append q r in
    let at : length (q ++ r) - length r ≡ length q = omega arith in
    ap (λ n. drop n (q ++ r)) at ∙ drop_all q r
  where
    drop_all : (q r : List ℕ) → drop (length q) (q ++ r) ≡ r
    drop_all [] r = refl
    drop_all (x ∷ q) r = drop_all q r

ends_so : (q r : List ℕ) → ends_with nat_eq (q ++ r) r ≡ true
ends_so q r = ap (text_eq r) (drop_front q r) ∙ text_equiv.refl r

no_record : (p q : List ℕ) → is_record p ≡ false → p ≡ q ++ codes ".pending" → ⊥
no_record p q h e = true≢false (sym (ap (λ l. ends_with nat_eq l (codes ".pending")) e ∙ ends_so q (codes ".pending")) ∙ h)

-- ---- below a job's magic directory

abbrev attempt_in : ℕ → ℕ → List ℕ → List ℕ
attempt_in t a p = codes "tasks/" ++ (decimal t ++ 95 ∷ (decimal a ++ 47 ∷ (codes "__base/" ++ p)))

abbrev set_in : ℕ → List ℕ
set_in t = codes "sets/task_" ++ (decimal t ++ codes ".pendingset")

abbrev inner : Place → List ℕ
inner (MarkerPlace t a p) = attempt_in t a p
inner (RecordPlace t a p) = attempt_in t a (p ++ codes ".pending")
inner (SetPlace t) = set_in t
inner _ = []

record SameAttempt (t a : ℕ) (p : List ℕ) (u b : ℕ) (q : List ℕ) : Type 0 where
  pub task : t ≡ u
  pub attempt : a ≡ b
  pub path : p ≡ q

attempts_apart : (t a : ℕ) (p : List ℕ) (u b : ℕ) (q : List ℕ) → t < 2 ^ 64 → a < 2 ^ 64 → u < 2 ^ 64 → b < 2 ^ 64
    → attempt_in t a p ≡ attempt_in u b q → SameAttempt t a p u b q
attempts_apart t a p u b q ht ha hu hb e =
    let first = cut_once 95 (decimal t) (decimal u) (decimal a ++ 47 ∷ (codes "__base/" ++ p)) (decimal b ++ 47 ∷ (codes "__base/" ++ q))
    (decimal_without 95 t refl ht) (decimal_without 95 u refl hu)
    (append_cancel_left (codes "tasks/") _ _ e) in
    let second = cut_once 47 (decimal a) (decimal b) (codes "__base/" ++ p) (codes "__base/" ++ q) (decimal_without 47 a refl ha)
    (decimal_without 47 b refl hb) first.back in
    record {
      task = decimal_injective t u ht hu first.front;
      attempt = decimal_injective a b ha hb second.front;
      path = append_cancel_left
          (codes "__base/") p q second.back;
    }

tasks_sets : (t a : ℕ) (p : List ℕ) (u : ℕ) → attempt_in t a p ≡ set_in u → ⊥
tasks_sets t a p u e = let h : ◌≡◌ {A = ℕ} 116 115 = ap (λ l. get_or l 0 0) e in absurd (omega arith)

inner_apart : (p q : Place) → is_magic_place p ≡ true → is_magic_place q ≡ true → IsPlace p → IsPlace q → inner p ≡ inner q → p ≡ q
inner_apart (FilePlace p) q m n g h e = absurd (true≢false (sym m))
inner_apart SuccessPlace q m n g h e = absurd (true≢false (sym m))
inner_apart (MarkerPlace t a p) (FilePlace q) m n g h e = absurd (true≢false (sym n))
inner_apart (MarkerPlace t a p) SuccessPlace m n g h e = absurd (true≢false (sym n))
inner_apart (MarkerPlace t a p) (MarkerPlace u b q) m n g h e =
    let s = attempts_apart t a p u b q g.0 g.1 h.0 h.1 e in
    ap (λ x. MarkerPlace x a p) s.task ∙ ap (λ x. MarkerPlace u x p) s.attempt ∙ ap (MarkerPlace u b) s.path
inner_apart (MarkerPlace t a p) (RecordPlace u b q) m n g h e = absurd (no_record p q g.2
    (attempts_apart t a p u b (q ++ codes ".pending") g.0 g.1 h.0 h.1 e).path)
inner_apart (MarkerPlace t a p) (SetPlace u) m n g h e = absurd (tasks_sets t a p u e)
inner_apart (RecordPlace t a p) (FilePlace q) m n g h e = absurd (true≢false (sym n))
inner_apart (RecordPlace t a p) SuccessPlace m n g h e = absurd (true≢false (sym n))
inner_apart (RecordPlace t a p) (MarkerPlace u b q) m n g h e = absurd (no_record q p h.2
    (sym (attempts_apart t a (p ++ codes ".pending") u b q g.0 g.1 h.0 h.1 e).path))
inner_apart (RecordPlace t a p) (RecordPlace u b q) m n g h e =
    let s = attempts_apart t a (p ++ codes ".pending") u b (q ++ codes ".pending") g.0 g.1 h.0 h.1 e in
    ap (λ x. RecordPlace x a p) s.task ∙ ap (λ x. RecordPlace u x p) s.attempt ∙ ap (RecordPlace u b)
    (append_cancel_right p q (codes ".pending") s.path)
inner_apart (RecordPlace t a p) (SetPlace u) m n g h e = absurd (tasks_sets t a (p ++ codes ".pending") u e)
inner_apart (SetPlace t) (FilePlace q) m n g h e = absurd (true≢false (sym n))
inner_apart (SetPlace t) SuccessPlace m n g h e = absurd (true≢false (sym n))
inner_apart (SetPlace t) (MarkerPlace u b q) m n g h e = absurd (tasks_sets u b q t (sym e))
inner_apart (SetPlace t) (RecordPlace u b q) m n g h e = absurd (tasks_sets u b (q ++ codes ".pending") t (sym e))
inner_apart (SetPlace t) (SetPlace u) m n g h e = ap SetPlace (decimal_injective t u g h
    (append_cancel_right (decimal t) (decimal u) (codes ".pendingset") (append_cancel_left (codes "sets/task_") _ _ e)))

-- ---- after a destination's key

abbrev tail : List ℕ → Place → List ℕ
tail id (FilePlace p) = 47 ∷ p
tail id (MarkerPlace t a p) = codes "/__magic/job-" ++ (id ++ 47 ∷ attempt_in t a p)
tail id (RecordPlace t a p) = codes "/__magic/job-" ++ (id ++ 47 ∷ attempt_in t a (p ++ codes ".pending"))
tail id (SetPlace t) = codes "/__magic/job-" ++ (id ++ 47 ∷ set_in t)
tail id SuccessPlace = codes "/_SUCCESS"

in_attempt : (dest id : List ℕ) (t a : ℕ) (p : List ℕ) → 1 ≤ length dest
    → below (attempt_key dest id t a) p ≡ dest ++ (codes "/__magic/job-" ++ (id ++ 47 ∷ attempt_in t a p))
in_attempt dest id t a p some =
    let long : 1 ≤ length (attempt_key dest id t a) = simp length-append (omega (arith, some)) in
    let whole : attempt_key dest id t a ++ 47 ∷ p ≡ dest ++ (codes "/__magic/job-" ++ (id ++ 47 ∷ attempt_in t a p)) = simp append_assoc in
    below_is (attempt_key dest id t a) p long ∙ whole

pub tail_is : (dest id : List ℕ) (p : Place) → 1 ≤ length dest → key_at dest id p ≡ dest ++ tail id p
tail_is dest id (FilePlace p) some = below_is dest p some
tail_is dest id (MarkerPlace t a p) some = in_attempt dest id t a p some
tail_is dest id (RecordPlace t a p) some = in_attempt dest id t a (p ++ codes ".pending") some
tail_is dest id _ some = refl

tail_magic : (id : List ℕ) (p : Place) → is_magic_place p ≡ true → tail id p ≡ codes "/__magic/job-" ++ (id ++ 47 ∷ inner p)
tail_magic id p h = grind arith

-- The kind of a tail, by its second and third byte: 0 for a file, 1 for the marker of a committed job, 2 for the others.
abbrev kind_of : List ℕ → ℕ
kind_of l = cond (nat_eq 95 (get_or l 1 0)) (cond (nat_eq 83 (get_or l 2 0)) 1 2) 0

open_first : (b : ℕ) → not (nat_eq b 95) ≡ true → nat_eq 95 b ≡ false
open_first b h = grind (arith, nat_tests)

abbrev number : Place → ℕ
number (FilePlace p) = 0
number SuccessPlace = 1
number _ = 2

number_is : (id : List ℕ) (p : Place) → IsPlace p → kind_of (tail id p) ≡ number p
number_is id p h = grind arith

magic_number : (p : Place) → number p ≡ 2 → is_magic_place p ≡ true
magic_number p h = grind arith

number_magic : (p : Place) → is_magic_place p ≡ true → number p ≡ 2
number_magic p h = grind arith

same_number : (id other : List ℕ) (p q : Place) → IsPlace p → IsPlace q → tail id p ≡ tail other q → number p ≡ number q
same_number id other p q g h e = sym (number_is id p g) ∙ ap kind_of e ∙ number_is other q h

-- If keys below the magic directories of two jobs are equal, the jobs are equal.
cut_jobs : (id other x y : List ℕ) → is_job_id id ≡ true → is_job_id other ≡ true
    → codes "/__magic/job-" ++ (id ++ 47 ∷ x) ≡ codes "/__magic/job-" ++ (other ++ 47 ∷ y) → Cut id other x y
cut_jobs id other x y i o e = cut_once 47 id other x y (id_others id i) (id_others other o)
    (append_cancel_left (codes "/__magic/job-") (id ++ 47 ∷ x) (other ++ 47 ∷ y) e)

both_magic : (id other : List ℕ) (p q : Place) → is_job_id id ≡ true → is_job_id other ≡ true → is_magic_place p ≡ true
    → is_magic_place q ≡ true → tail id p ≡ tail other q → Cut id other (inner p) (inner q)
both_magic id other p q i o m n e = cut_jobs id other (inner p) (inner q) i o (sym (tail_magic id p m) ∙ e ∙ tail_magic other q n)

one_of_three : (p : Place) (A : Type 0) → ((path : List ℕ) → p ≡ FilePlace path → A) → (p ≡ SuccessPlace → A)
    → (is_magic_place p ≡ true → A) → A
one_of_three p A h g e = grind arith

tails_apart : (id other : List ℕ) (p q : Place) → is_job_id id ≡ true → is_job_id other ≡ true → IsPlace p → IsPlace q
    → tail id p ≡ tail other q → p ≡ q
tails_apart id other (FilePlace p) (FilePlace q) i o g h e = ap FilePlace (tails e)
tails_apart id other SuccessPlace SuccessPlace i o g h e = refl
tails_apart id other p q i o g h e =
    let n : number p ≡ number q = same_number id other p q g h e in
    one_of_three p (p ≡ q)
    (λ path is. one_of_three q (p ≡ q)
    (λ more same. is ∙ ap FilePlace (tails (sym (ap (tail id) is) ∙ e ∙ ap (tail other) same)) ∙ sym same)
    (λ same. let x : number p ≡ 0 = ap number is in let y : number q ≡ 1 = ap number same in absurd (omega arith))
    (λ m. let x : number p ≡ 0 = ap number is in let y : number q ≡ 2 = number_magic q m in absurd (omega arith)))
    (λ is. one_of_three q (p ≡ q)
    (λ more same. let x : number p ≡ 1 = ap number is in let y : number q ≡ 0 = ap number same in absurd (omega arith))
    (λ same. is ∙ sym same)
    (λ m. let x : number p ≡ 1 = ap number is in let y : number q ≡ 2 = number_magic q m in absurd (omega arith)))
    (λ m. let k : is_magic_place q ≡ true = magic_number q (sym n ∙ number_magic p m) in inner_apart p q m k g h
    (both_magic id other p q i o m k e).back)

-- ---- keys

cancelled : (dest id other : List ℕ) (p q : Place) → 1 ≤ length dest → key_at dest id p ≡ key_at dest other q → tail id p ≡ tail other q
cancelled dest id other p q some e = append_cancel_left dest (tail id p) (tail other q)
    (sym (tail_is dest id p some) ∙ e ∙ tail_is dest other q some)

pub keys_apart : (dest id other : List ℕ) (p q : Place) → 1 ≤ length dest → is_job_id id ≡ true → is_job_id other ≡ true → IsPlace p
    → IsPlace q → key_at dest id p ≡ key_at dest other q → p ≡ q
keys_apart dest id other p q some i o g h e = tails_apart id other p q i o g h (cancelled dest id other p q some e)

pub jobs_apart : (dest id other : List ℕ) (p q : Place) → 1 ≤ length dest → is_job_id id ≡ true → is_job_id other ≡ true → IsPlace p
    → IsPlace q → key_at dest id p ≡ key_at dest other q → is_magic_place p ≡ true → id ≡ other
jobs_apart dest id other p q some i o g h e m =
    let t : tail id p ≡ tail other q = cancelled dest id other p q some e in
    let n : number q ≡ 2 = sym (same_number id other p q g h t) ∙ number_magic p m in
    (both_magic id other p q i o m (magic_number q n) t).front

behind : (dest id l : List ℕ) → begins (magic_prefix dest id) (dest ++ l) ≡ begins (codes "/__magic/job-" ++ (id ++ codes "/")) l
behind dest id l = begins_behind dest (codes "/__magic/job-" ++ (id ++ codes "/")) l

magic_begins : (id l : List ℕ) → begins (codes "/__magic/job-" ++ (id ++ codes "/")) (codes "/__magic/job-" ++ (id ++ 47 ∷ l)) ≡ true
magic_begins id l = begins_behind (codes "/__magic/job-") (id ++ codes "/") (id ++ 47 ∷ l) ∙ begins_behind id (codes "/") (47 ∷ l)

tail_begins : (id : List ℕ) (p : Place) → IsPlace p → begins (codes "/__magic/job-" ++ (id ++ codes "/")) (tail id p) ≡ is_magic_place p
tail_begins id p h = grind (arith, open_first, magic_begins)

pub key_magic : (dest id : List ℕ) (p : Place) → 1 ≤ length dest → IsPlace p
    → begins (magic_prefix dest id) (key_at dest id p) ≡ is_magic_place p
key_magic dest id p some g = ap (begins (magic_prefix dest id)) (tail_is dest id p some) ∙ behind dest id (tail id p) ∙ tail_begins id p g

pub key_strange : (dest id other : List ℕ) (p : Place) → 1 ≤ length dest → is_job_id id ≡ true → is_job_id other ≡ true → IsPlace p
    → begins (magic_prefix dest id) (key_at dest other p) ≡ true → id ≡ other
key_strange dest id other p some i o g h =
    let b : begins (codes "/__magic/job-" ++ (id ++ codes "/")) (tail other p) ≡ true = sym (behind dest id (tail other p)) ∙ sym
    (ap (begins (magic_prefix dest id)) (tail_is dest other p some)) ∙ h in
    let x = begins_back (codes "/__magic/job-" ++ (id ++ codes "/")) (tail other p) b in
    let assoc : (codes "/__magic/job-" ++ (id ++ codes "/")) ++ x.0 ≡ codes "/__magic/job-" ++ (id ++ 47 ∷ x.0) = simp append_assoc in
    let e : tail other p ≡ codes "/__magic/job-" ++ (id ++ 47 ∷ x.0) = x.1 ∙ assoc in
    let n : number p ≡ 2 = sym (number_is other p g) ∙ ap kind_of e in
    (cut_jobs id other x.0 (inner p) i o (sym e ∙ tail_magic other p (magic_number p n))).front

-- ---- the cluster's paths

abbrev rest_at : ClusterPlace → List ℕ
rest_at (TemporaryPlace t a) = codes "tmp/" ++ (decimal t ++ 95 ∷ (decimal a ++ codes ".pendingset"))
rest_at (StagedSetPlace t) = codes "sets/task_" ++ (decimal t ++ codes ".pendingset")

rest_is : (id : List ℕ) (p : ClusterPlace) → path_at id p ≡ codes "jobs/" ++ (id ++ 47 ∷ rest_at p)
rest_is id p = grind arith

temporary_set : (t a u : ℕ) → rest_at (TemporaryPlace t a) ≡ rest_at (StagedSetPlace u) → ⊥
temporary_set t a u e = let h : ◌≡◌ {A = ℕ} 116 115 = ap (λ l. get_or l 0 0) e in absurd (omega arith)

rests_apart : (p q : ClusterPlace) → IsClusterPlace p → IsClusterPlace q → rest_at p ≡ rest_at q → p ≡ q
rests_apart (TemporaryPlace t a) (TemporaryPlace u b) g h e =
    let c = cut_once 95 (decimal t) (decimal u) (decimal a ++ codes ".pendingset") (decimal b ++ codes ".pendingset")
    (decimal_without 95 t refl g.0) (decimal_without 95 u refl h.0) (append_cancel_left (codes "tmp/") _ _ e) in
    ap (λ x. TemporaryPlace x a) (decimal_injective t u g.0 h.0 c.front) ∙ ap (TemporaryPlace u)
    (decimal_injective a b g.1 h.1 (append_cancel_right (decimal a) (decimal b) (codes ".pendingset") c.back))
rests_apart (TemporaryPlace t a) (StagedSetPlace u) g h e = absurd (temporary_set t a u e)
rests_apart (StagedSetPlace t) (TemporaryPlace u b) g h e = absurd (temporary_set u b t (sym e))
rests_apart (StagedSetPlace t) (StagedSetPlace u) g h e = ap StagedSetPlace (decimal_injective t u g h
    (append_cancel_right (decimal t) (decimal u) (codes ".pendingset") (append_cancel_left (codes "sets/task_") _ _ e)))

pub paths_apart : (id other : List ℕ) (p q : ClusterPlace) → is_job_id id ≡ true → is_job_id other ≡ true → IsClusterPlace p
    → IsClusterPlace q → path_at id p ≡ path_at other q → (p ≡ q) × (id ≡ other)
paths_apart id other p q i o g h e =
    let c = cut_once 47 id other (rest_at p) (rest_at q) (id_others id i) (id_others other o)
    (append_cancel_left (codes "jobs/") (id ++ 47 ∷ rest_at p) (other ++ 47 ∷ rest_at q) (sym (rest_is id p) ∙ e ∙ rest_is other q)) in
    (rests_apart p q g h c.back, c.front)
