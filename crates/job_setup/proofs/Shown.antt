-- The first file of a destination on a page.
use Rattle.text_and_lists.proofs.Lists.{some_length}
use Rattle.text_and_lists.proofs.Naturals.{at_most_is}
use Rattle.text_and_lists.specs.Parts.{parts_of}
use Rattle.job_model.specs.JobScript.{Script}
use Rattle.job_model.specs.Jobs.{Job}
use Rattle.job_model.specs.Paths.{is_reserved}
use Rattle.job_model.specs.Plans.{IsJob}
use Rattle.job_protocol.specs.Setup.{first_shown, or_next, shown_path}
use Rattle.job_protocol.specs.View.{is_folder}
use Rattle.job_setup.specs.inner.Files.{first_of, path_behind}
use Rattle.path_keys.specs.Paths.{relative_in}
use Rattle.std.proofs.Common.{Bool, Bor, List, None, Option, Some, ap, arith, drop, false, length, nat_eq, nat_le, not, option_map, refl}
use Rattle.std.proofs.Common.{suc, sym, true, zero, ℕ, [], ◌++◌, ◌+◌, ◌-◌, ◌==◌, ◌∙◌, ◌∷◌, ◌≡◌, ◌≢◌, ◌≤◌}
use Rattle.std.proofs.lemmas.Bool.{and_parts}
use Rattle.std.proofs.lemmas.Bool.Decides.{Decides-eqb}
use Rattle.std.proofs.lemmas.Slice.Eq.{starts_is}
use Rattle.std.specs.List.{ends_with, list_any, slice_get, starts_with}
use Rattle.std.specs.Option.{MatchOption}
use Rattle.std.specs.Prelude.{codes}
use Rattle.std.specs.Str.Pattern.{FindsTextPrefix}

path_is : (key k : List ℕ) → 1 ≤ length key → path_behind (key ++ codes "/") k ≡ relative_in key k
path_is [] k h = absurd (omega arith)
path_is (x ∷ xs) k h = refl

-- The first file, by the prefix of a destination with a key.
pub first_is : (w : Script) (ks : List (List ℕ)) → 1 ≤ length w.dest.key → first_of (w.dest.key ++ codes "/") ks ≡ first_shown w ks
first_is w [] h = refl
first_is w (k ∷ ks) h =
    ap (λ p. or_next (shown_path p) (first_of (w.dest.key ++ codes "/") ks)) (path_is w.dest.key k h)
    ∙ ap (or_next (shown_path (relative_in w.dest.key k))) (first_is w ks h)

-- ---- a path of a folder

folder_got : (p : List ℕ) (n : ℕ) (b : ℕ) → suc n ≡ length p → slice_get p n ≡ Some b → is_folder p ≡ (b == 47)
folder_got [] n b e h = absurd (omega arith)
folder_got (x ∷ []) zero b e h = let i : x ≡ b = cc in ap (λ y. y == 47) i
folder_got (x ∷ []) (suc n) b e h = absurd (omega arith)
folder_got (x ∷ y ∷ p) zero b e h = absurd (omega arith)
folder_got (x ∷ y ∷ p) (suc n) b e h = folder_got (y ∷ p) n b (omega arith) h

pub folder_last : (p : List ℕ) (b : ℕ) → Some b ≡ slice_get p (length p - 1) → is_folder p ≡ (b == 47)
folder_last p b h = folder_got p (length p - 1) b (some_length p b (sym h)) (sym h)

-- ---- the bounds of a destination

dest_tests : (j : Job) → IsJob j → (nat_le 1 (length j.dest.key) ≡ true) × (nat_le (length j.dest.key) 400 ≡ true)
dest_tests j h =
    let a = and_parts _ (not (list_any is_reserved (parts_of 47 j.dest.key))) h.dest.below in
    let b = and_parts _ (not (ends_with nat_eq j.dest.key (13 ∷ []))) a.0 in
    and_parts (nat_le 1 (length j.dest.key)) (nat_le (length j.dest.key) 400) b.0

pub dest_some : (j : Job) → IsJob j → 1 ≤ length j.dest.key
dest_some j h = at_most_is 1 (length j.dest.key) (dest_tests j h).0

pub dest_most : (j : Job) → IsJob j → length j.dest.key ≤ 400
dest_most j h = at_most_is (length j.dest.key) 400 (dest_tests j h).1

-- ---- the text after a prefix

begins_so : (front text rest : List ℕ) → text ≡ front ++ rest → starts_with nat_eq text front ≡ true
begins_so front text rest e = (starts_is Decides-eqb text front (starts_with nat_eq text front) refl).1 rest e

begins_not : (front text : List ℕ) → ((rest : List ℕ) → text ≢ front ++ rest) → starts_with nat_eq text front ≡ false
begins_not front text h = by (starts_with nat_eq text front) refl
  where
    by : (b : Bool) → starts_with nat_eq text front ≡ b → b ≡ false
    by true e = absurd (h (drop (length front) text) ((starts_is Decides-eqb text front (starts_with nat_eq text front) refl).0 e))
    by false e = refl

pub text_behind : (p s : List ℕ) (r : Option (Bor (List ℕ)))
    → MatchOption r (FindsTextPrefix p s None) (λ x. (n : ℕ) × FindsTextPrefix p s (Some n) × (x.now ≡ drop n s)
    × (length x.now + n ≡ length s)) → option_map (λ r. r.now) r ≡ path_behind p s
text_behind p s None h = rw (begins_not p s h) refl
text_behind p s (Some x) h = rw (begins_so p s (drop h.0 s) h.1.1) (ap Some (h.2 ∙ ap (λ n. drop n s) h.1.0))
