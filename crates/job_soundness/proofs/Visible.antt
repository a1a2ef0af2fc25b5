-- Readers see what `view` shows at visible paths, and a job's files are at such paths.
use Rattle.text_and_lists.proofs.Members.{false_true, true_or_false}
use Rattle.text_and_lists.specs.Members.{IsIn}
use Rattle.text_and_lists.specs.Parts.{parts_from, parts_of}
use Rattle.job_invariant.proofs.FilePaths.{file_path}
use Rattle.job_invariant.proofs.Legal.{from_script, given_of}
use Rattle.job_model.proofs.Unique.{id_bytes, unique_parts}
use Rattle.job_model.specs.Attempts.{Who}
use Rattle.job_model.specs.Files.{File}
use Rattle.job_model.specs.JobScript.{Script}
use Rattle.job_model.specs.Legal.{IsGiven, IsLegal}
use Rattle.job_model.specs.Paths.{begins_hidden, is_hidden}
use Rattle.job_model.specs.Placed.{path_of, with_id, with_id_last}
use Rattle.job_protocol.specs.Outputs.{files}
use Rattle.job_protocol.specs.View.{is_file_path, is_folder, view}
use Rattle.job_soundness.specs.Claim.{shown}
use Rattle.path_keys.specs.Paths.{Path}
use Rattle.s3_types.specs.Store.{Content}
use Rattle.soundness.specs.Paths.{hides, is_visible, is_visible_from}
use Rattle.std.proofs.Common.{Bool, List, None, ap, arith, cond, false, if◌then◌else◌, inl, inr, nat_eq, not, refl, sym, true, ℕ, [], ◌&&◌}
use Rattle.std.proofs.Common.{◌++◌, ◌==◌, ◌||◌, ◌∙◌, ◌∷◌, ◌≡◌}
use Rattle.std.proofs.lemmas.Bool.{and_parts, false≢true, not-true, or_parts}
use Rattle.std.proofs.lemmas.Bool.Decides.{nat_tests}
use Rattle.std.specs.List.{list_any}

-- ---- a visible path is that of a file

visible_no_folder : (b : Bool) (x : ℕ) (p : List ℕ) → is_visible_from b (x ∷ p) ≡ true → is_folder (x ∷ p) ≡ false
visible_no_folder b x [] h = not-true (x == 47) (and_parts (not (b && hides x)) (not (x == 47)) h).1
visible_no_folder b x (y ∷ p) h = visible_no_folder (x == 47) y p (and_parts (not (b && hides x)) (is_visible_from (x == 47) (y ∷ p)) h).1

pub visible_file : (p : List ℕ) → is_visible p ≡ true → is_file_path p ≡ true
visible_file [] h = absurd (false≢true h)
visible_file (x ∷ p) h =
    let first : hides x ≡ false = not-true (hides x) (and_parts (not (hides x)) (is_visible_from (x == 47) p) h).0 in
    let same : (x == 95) ≡ false = (or_parts (x == 95) (x == 46) first).0 in
    let turned : nat_eq 95 x ≡ false = grind (arith, nat_tests) in
    rw (visible_no_folder true x p h, turned, same) refl

-- What readers see at a visible path is what the view has there.
pub shown_is : (dest : Path) (c : Content) (p : List ℕ) → shown dest c p ≡ cond (is_visible p) (view dest c p) None
shown_is dest c p = elim (true_or_false (is_visible p)) [
  | inr e ↦ rw e refl
  | inl e ↦ rw (e, visible_file p e) refl
]

-- ---- the paths of a job's files are visible

abbrev is_nil : List ℕ → Bool
is_nil [] = true
is_nil (x ∷ p) = false

not_nil : (part : List ℕ) (x : ℕ) → is_nil (part ++ x ∷ []) ≡ false
not_nil [] x = refl
not_nil (y ∷ part) x = refl

-- If no part of a text begins as a hidden name does, the text does not begin so.
first_part : (x : ℕ) (part p : List ℕ) → list_any begins_hidden (parts_from 47 (x ∷ part) p) ≡ false → (nat_eq x 95 || nat_eq x 46) ≡ false
unfolding parts_from
first_part x part [] h = (or_parts (begins_hidden (x ∷ part)) false h).0
first_part x part (y ∷ p) h = elim (true_or_false (y == 47)) [
  | inl e ↦ (or_parts (begins_hidden (x ∷ part)) (list_any begins_hidden (parts_from 47 [] p)) (rw e at h)).0
  | inr e ↦ first_part x (part ++ y ∷ []) p (rw e at h)
]

hides_is : (x : ℕ) → (nat_eq x 95 || nat_eq x 46) ≡ false → hides x ≡ false
hides_is x h =
    let both = or_parts (nat_eq x 95) (nat_eq x 46) h in
    let first : nat_eq x 95 ≡ false = both.0 in
    let second : nat_eq x 46 ≡ false = both.1 in
    let one : (x == 95) ≡ false = grind (arith, nat_tests) in
    let two : (x == 46) ≡ false = grind (arith, nat_tests) in
    rw (one, two) refl

slash_shows : (x : ℕ) → (x == 47) ≡ true → hides x ≡ false
slash_shows x e =
    let one : (x == 95) ≡ false = grind (arith, nat_tests) in
    let two : (x == 46) ≡ false = grind (arith, nat_tests) in
    rw (one, two) refl

and_false : (b c : Bool) → c ≡ false → (b && c) ≡ false
and_false true c h = h
and_false false c h = refl

first_shown : (x : ℕ) (part p : List ℕ) → list_any begins_hidden (parts_from 47 (part ++ x ∷ []) p) ≡ false
    → (is_nil part && hides x) ≡ false
first_shown x [] p h = hides_is x (first_part x [] p h)
first_shown x (y ∷ part) p h = refl

scanned : (part : List ℕ) (x : ℕ) (p : List ℕ) → is_folder (x ∷ p) ≡ false
    → list_any begins_hidden (parts_from 47 part (x ∷ p)) ≡ false → is_visible_from (is_nil part) (x ∷ p) ≡ true
unfolding parts_from
scanned part x [] folder h = rw (first_shown x part [] (rw folder at h), folder) refl
scanned part x (y ∷ p) folder h = elim (true_or_false (x == 47)) [
  | inl e ↦
      let rest : list_any begins_hidden (parts_from 47 [] (y ∷ p)) ≡ false =
      (or_parts (begins_hidden part) (list_any begins_hidden (parts_from 47 [] (y ∷ p))) (rw e at h)).1 in
      ap (λ b. not b && is_visible_from (x == 47) (y ∷ p)) (and_false (is_nil part) (hides x) (slash_shows x e))
      ∙ ap (λ b. is_visible_from b (y ∷ p)) e ∙ scanned [] y p folder rest
  | inr e ↦
      let rest : list_any begins_hidden (parts_from 47 (part ++ x ∷ []) (y ∷ p)) ≡ false = rw e at h in
      ap (λ b. not b && is_visible_from (x == 47) (y ∷ p)) (first_shown x part (y ∷ p) rest) ∙ ap (λ b. is_visible_from b (y ∷ p)) (e
      ∙ sym (not_nil part x)) ∙ scanned (part ++ x ∷ []) y p folder rest
]

path_visible : (p : List ℕ) → is_folder p ≡ false → is_hidden p ≡ false → is_visible p ≡ true
path_visible [] f h = absurd (false_true f refl)
path_visible (x ∷ p) f h = scanned [] x p f h

-- A path that is made unique to a job gets no hidden element.

shown_id : (id e : List ℕ) → begins_hidden e ≡ false → begins_hidden (with_id id e) ≡ false
shown_id id [] h = refl
shown_id id (x ∷ e) h = elim (x == 46) as (λ b. begins_hidden (if b then 45 ∷
    (id ++ x ∷ e) else x ∷ with_id id e) ≡ false) [ true ↦ refl | false ↦ h ]

shown_last : (id : List ℕ) (es : List (List ℕ)) → list_any begins_hidden es ≡ false → list_any begins_hidden (with_id_last id es) ≡ false
shown_last id [] h = refl
shown_last id (e ∷ []) h = rw (shown_id id e (or_parts (begins_hidden e) false h).0) refl
shown_last id (e ∷ f ∷ es) h = let b = or_parts (begins_hidden e) (list_any begins_hidden (f ∷ es)) h in
    rw (b.0, shown_last id (f ∷ es) b.1) refl

module _ {w : Script} (j : IsLegal w) where
  shown_path : (u : Bool) (p : List ℕ) → IsGiven p → is_hidden (path_of u w.job p) ≡ false
  shown_path true p g = ap (list_any begins_hidden) (unique_parts w.job p (id_bytes w.job j.job)) ∙ shown_last w.job (parts_of 47 p) g.shown
  shown_path false p g = g.shown

  pub file_visible : (a : Who) (f : File) → IsIn f (files w a) → is_visible f.0 ≡ true
  file_visible a f i =
      let g = from_script w a f i in
      let e : f.0 ≡ path_of w.unique w.job g.given.0 = ap (λ (x : File). x.0) g.is in
      let path = file_path j a f i in
      let folder = not-true (is_folder f.0) (and_parts (not (is_folder f.0)) _ (and_parts (not (is_folder f.0) && _) _ path).0).0 in
      path_visible f.0 folder (ap is_hidden e ∙ shown_path w.unique g.given.0 (given_of j a f i))
