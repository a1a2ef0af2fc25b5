-- The paths of the job's files are paths that readers of the destination see.
use Rattle.text_and_lists.proofs.Bools.{not_so}
use Rattle.text_and_lists.proofs.Members.{false_true, true_or_false}
use Rattle.text_and_lists.proofs.Pieces.{one_part, parts_append}
use Rattle.text_and_lists.specs.Members.{IsIn}
use Rattle.text_and_lists.specs.Parts.{is_other, parts_from, parts_of}
use Rattle.job_invariant.proofs.JobCommitting.{file_open}
use Rattle.job_invariant.proofs.Legal.{from_script, given_of, is_attempt, small_attempt, some_dest}
use Rattle.job_invariant.proofs.Legible.{full_parts}
use Rattle.job_invariant.specs.FactsKeep.{LeadsTo, MarkersLead}
use Rattle.job_model.proofs.Unique.{id_bytes, unique_parts}
use Rattle.job_model.specs.Attempts.{Who}
use Rattle.job_model.specs.Files.{File}
use Rattle.job_model.specs.JobScript.{Script}
use Rattle.job_model.specs.Legal.{IsGiven, IsLegal}
use Rattle.job_model.specs.Paths.{is_full, is_reserved}
use Rattle.job_model.specs.Placed.{path_of, with_id, with_id_last}
use Rattle.job_protocol.specs.Outputs.{files}
use Rattle.job_protocol.specs.View.{is_file_path, is_folder}
use Rattle.magic_paths.proofs.Elements.{decimal_without, id_others}
use Rattle.magic_paths.proofs.Kept.{final_parts, some_parts}
use Rattle.magic_paths.proofs.Tails.{below_is, tail_is}
use Rattle.magic_paths.proofs.Walked.{Walked, begun, behind_at, front_at, has_word, stepped}
use Rattle.magic_paths.specs.Finals.{after_magic, has_magic, is_word, kept}
use Rattle.magic_paths.specs.Layout.{attempt_key}
use Rattle.magic_paths.specs.Places.{MarkerPlace, is_open}
use Rattle.path_keys.specs.Paths.{below}
use Rattle.s3_types.specs.Names.{is_job_id}
use Rattle.std.proofs.Common.{Bool, List, ap, append_assoc, arith, codes, false, if◌then◌else◌, inl, inr, length, nat_eq, refl, sym, true}
use Rattle.std.proofs.Common.{ℕ, [], ◌++◌, ◌-◌, ◌<◌, ◌==◌, ◌^◌, ◌∙◌, ◌∷◌, ◌≡◌, ◌≤◌}
use Rattle.std.proofs.lemmas.Bool.{and_parts, false≢true, lt-ltb, not-true, or_parts}
use Rattle.std.proofs.lemmas.Bool.Decides.{nat_tests}
use Rattle.std.proofs.lemmas.Fmt.{decimal_nonempty}
use Rattle.std.proofs.lemmas.List.Folds.{list_all-append}
use Rattle.std.specs.Fmt.{decimal}
use Rattle.std.specs.List.{list_all, list_any}

-- A text that ends in `/` has an empty part.
no_folder : (part : List ℕ) (x : ℕ) (p : List ℕ) → is_folder (x ∷ p) ≡ true → list_all is_full (parts_from 47 part (x ∷ p)) ≡ true → ⊥
unfolding parts_from
no_folder part x [] h full = elim (true_or_false (x == 47)) [
  | inl e ↦ false≢true ((and_parts (is_full part) (list_all is_full (parts_from 47 [] [])) (rw e at full)).1)
  | inr e ↦ false_true e h
]
no_folder part x (y ∷ p) h full = elim (true_or_false (x == 47)) [
  | inl e ↦ no_folder [] y p h (and_parts (is_full part) (list_all is_full (parts_from 47 [] (y ∷ p))) (rw e at full)).1
  | inr e ↦ no_folder (part ++ x ∷ []) y p h (rw e at full)
]

-- A path that does not begin with `_` and has no empty part is that of a file.
shown_so : (p : List ℕ) → is_open p ≡ true → list_all is_full (parts_of 47 p) ≡ true → is_file_path p ≡ true
shown_so [] h full = absurd (false≢true h)
shown_so (x ∷ p) h full =
    let folder : is_folder (x ∷ p) ≡ false = elim (true_or_false (is_folder (x ∷ p)))
    [ inl e ↦ absurd (no_folder [] x p e full) | inr e ↦ e ] in
    let n : nat_eq x 95 ≡ false = not-true (nat_eq x 95) h in
    let turned : nat_eq 95 x ≡ false = grind (arith, nat_tests) in
    let same : (x == 95) ≡ false = grind (arith, nat_tests) in
    rw (folder, turned, same) refl

-- ---- a path made unique to a job has no empty part

full_more : (x : ℕ) (e : List ℕ) → is_full (x ∷ e) ≡ true
full_more x e = lt-ltb 0 (length (x ∷ e)) (omega arith)

full_id : (id e : List ℕ) → is_full (with_id id e) ≡ true
full_id id [] = full_more 45 id
full_id id (x ∷ e) = elim (x == 46) as (λ b. is_full (if b then 45 ∷ (id ++ x ∷ e) else x ∷ with_id id e) ≡ true)
    [ true ↦ full_more 45 (id ++ x ∷ e) | false ↦ full_more x (with_id id e) ]

full_last : (id : List ℕ) (es : List (List ℕ)) → list_all is_full es ≡ true → list_all is_full (with_id_last id es) ≡ true
full_last id [] h = refl
full_last id (e ∷ []) h = rw (full_id id e) refl
full_last id (e ∷ f ∷ es) h = let b = and_parts (is_full e) (list_all is_full (f ∷ es)) h in rw (b.0, full_last id (f ∷ es) b.1) refl

module _ {w : Script} (j : IsLegal w) where
  full_path : (u : Bool) (p : List ℕ) → IsGiven p → list_all is_full (parts_of 47 (path_of u w.job p)) ≡ true
  full_path true p g = ap (list_all is_full) (unique_parts w.job p (id_bytes w.job j.job)) ∙ full_last w.job (parts_of 47 p)
      (full_parts p g)
  full_path false p g = full_parts p g

  pub file_path : (a : Who) (f : File) → IsIn f (files w a) → is_file_path f.0 ≡ true
  file_path a f i =
      let g = from_script w a f i in
      let e : f.0 ≡ path_of w.unique w.job g.given.0 = ap (λ (x : File). x.0) g.is in
      shown_so f.0 (file_open j a f i) (ap (λ p. list_all is_full (parts_of 47 p)) e ∙ full_path w.unique g.given.0 (given_of j a f i))

-- ---- the final path of a file's marker is that of the file

none_reserved : (es : List (List ℕ)) → list_any is_reserved es ≡ false → has_magic es ≡ false
none_reserved [] h = refl
none_reserved (e ∷ es) h =
    let p = or_parts (is_reserved e) (list_any is_reserved es) h in
    rw ((or_parts (is_word (codes "__magic") e) (is_word (codes "__base") e) p.0).0, none_reserved es p.1) refl

-- The element of an attempt is not `__base`.
no_base : (ds more : List ℕ) → 0 < length ds → list_all (is_other 95) ds ≡ true → is_word (codes "__base") (ds ++ more) ≡ false
no_base [] more some h = absurd (omega arith)
no_base (d ∷ ds) more some h = rw (not_so _ (and_parts (is_other 95 d) (list_all (is_other 95) ds) h).0) refl

-- A word, and what comes after it and a `/`.
word_part : (word rest : List ℕ) → list_all (is_other 47) word ≡ true → parts_of 47 (word ++ 47 ∷ rest) ≡ word ∷ parts_of 47 rest
word_part word rest h = parts_append 47 word rest ∙ ap (λ (l : List (List ℕ)). l ++ parts_of 47 rest) (one_part 47 word h)

-- A destination that is no bucket's root and has no element `__magic`, a job, and an attempt.
record Names (dest id : List ℕ) (t a : ℕ) : Type 0 where
  pub some : 1 ≤ length dest
  pub bare : has_magic (parts_of 47 dest) ≡ false
  pub job : is_job_id id ≡ true
  pub task : t < 2 ^ 64
  pub attempt : a < 2 ^ 64

module _ (dest id path : List ℕ) (t a : ℕ) (n : Names dest id t a) where
  abbrev key : List ℕ
  key = below (attempt_key dest id t a) path

  abbrev number : List ℕ
  number = decimal t ++ 95 ∷ decimal a

  abbrev from_base : List ℕ
  from_base = codes "__base" ++ 47 ∷ path

  abbrev behind : List ℕ
  behind = (codes "job-" ++ id) ++ 47 ∷ (codes "tasks" ++ 47 ∷ (number ++ 47 ∷ from_base))

  abbrev from_magic : List ℕ
  from_magic = codes "__magic" ++ 47 ∷ behind

  key_is : key ≡ (dest ++ 47 ∷ []) ++ from_magic
  key_is =
      tail_is dest id (MarkerPlace t a path) n.some
      ∙ ap (λ (l : List ℕ). dest ++ (codes "/__magic/job-" ++ (id ++ 47 ∷ (codes "tasks/" ++ l))))
      (sym (append_assoc (decimal t) (95 ∷ decimal a) (47 ∷ from_base)))
      ∙ sym (append_assoc dest (47 ∷ []) from_magic)

  -- ---- the first `__magic` comes after the destination

  to_magic : Walked (codes "__magic") key from_magic
  to_magic = record {
    front = dest ++ 47 ∷ [];
    seen = parts_of 47 dest;
    whole = key_is;
    parts = λ more. ap (parts_of 47) (append_assoc dest (47 ∷ []) more) ∙ parts_append 47 dest more;
    none = n.bare;
  }

  magic_there : parts_of 47 from_magic ≡ codes "__magic" ∷ parts_of 47 behind
  magic_there = word_part (codes "__magic") behind refl

  behind_is : parts_of 47 behind ≡ after_magic (parts_of 47 key)
  behind_is = behind_at (codes "__magic") key from_magic (codes "__magic") (parts_of 47 behind) to_magic magic_there refl

  -- ---- and the first `__base` comes before the path

  to_base : Walked (codes "__base") behind from_base
  to_base =
      let in_tasks : List ℕ = number ++ 47 ∷ from_base in
      let in_job : List ℕ = codes "tasks" ++ 47 ∷ in_tasks in
      let job : List ℕ = codes "job-" ++ id in
      let past_job = stepped (codes "__base") behind behind job in_job (begun (codes "__base") behind)
      (word_part job in_job (id_others id n.job)) refl refl in
      let past_tasks = stepped (codes "__base") behind in_job (codes "tasks") in_tasks past_job (word_part (codes "tasks") in_tasks refl)
      refl refl in
      stepped (codes "__base") behind in_tasks number from_base past_tasks (word_part number from_base
      (list_all-append (is_other 47) (decimal t) (95 ∷ decimal a) ∙ rw (
        decimal_without 47 t refl n.task,
        decimal_without 47 a refl
            n.attempt,
      ) refl)) refl
      (no_base (decimal t) (95 ∷ decimal a) (decimal_nonempty t n.task) (decimal_without 95 t refl n.task))

  base_there : parts_of 47 from_base ≡ codes "__base" ∷ parts_of 47 path
  base_there = word_part (codes "__base") path refl

  kept_is : parts_of 47 path ≡ kept (parts_of 47 behind)
  kept_is = grind (arith, behind_at, to_base, base_there, has_word)

  leads : (bucket : List ℕ) → LeadsTo (record { bucket = bucket; key = key }) (record { bucket = bucket; key = below dest path })
  leads bucket = record {
    bucket = refl;
    magic = has_word (codes "__magic") key from_magic (codes "__magic") (parts_of 47 behind) to_magic magic_there refl;
    kept = λ e. some_parts path (kept_is ∙ ap kept behind_is ∙ e);
    elements = ap (parts_of 47) (below_is dest path n.some ∙ sym (append_assoc dest (47 ∷ []) path))
        ∙ final_parts key (dest ++ 47 ∷ []) behind path
        (front_at (codes "__magic") key from_magic (codes "__magic") (dest ++ 47 ∷ []) (parts_of 47 behind) to_magic magic_there refl
        key_is) behind_is kept_is;
  }

pub markers_lead : MarkersLead
markers_lead w a f j i =
    let few = small_attempt j a (is_attempt j a f i) in
    let bare : has_magic (parts_of 47 w.dest.key) ≡ false = none_reserved (parts_of 47 w.dest.key) (not_so _ (and_parts _ _ j.dest.below).1)
    in
    leads w.dest.key w.job f.0 a.task a.attempt (record { some = some_dest j; bare = bare; job = j.job; task = few.0; attempt = few.1 })
    w.dest.bucket
