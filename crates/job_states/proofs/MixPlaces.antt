-- Lists of different places, and their actors.
use Rattle.text_and_lists.proofs.Members.{none_some, some_is}
use Rattle.job_states.specs.Mixes.{AreApart, IsNotIn}
use Rattle.std.proofs.Common.{List, Some, ap, map, refl, slice_get, suc, sym, zero, ℕ, [], ◌∙◌, ◌∷◌, ◌≡◌}
use Rattle.std.proofs.lemmas.Option.{slice_get-map}
use Rattle.std.specs.List.{remove}
use Rattle.std.specs.Prelude.{option_map}

not_in_get : (a : ℕ) (xs : List ℕ) (i b : ℕ) → IsNotIn a xs → slice_get xs i ≡ Some b → b ≡ a → ⊥
not_in_get a [] i b n e h = none_some refl e
not_in_get a (x ∷ xs) zero b n e h = n.0 (some_is e ∙ h)
not_in_get a (x ∷ xs) (suc i) b n e h = not_in_get a xs i b n.1 e h

not_in_remove : (a : ℕ) (xs : List ℕ) (p : ℕ) → IsNotIn a xs → IsNotIn a (remove xs p)
not_in_remove a [] zero n = tt
not_in_remove a [] (suc p) n = tt
not_in_remove a (x ∷ xs) zero n = n.1
not_in_remove a (x ∷ xs) (suc p) n = (n.0, not_in_remove a xs p n.1)

pub remove_apart : (xs : List ℕ) (p : ℕ) → AreApart xs → AreApart (remove xs p)
remove_apart [] zero h = tt
remove_apart [] (suc p) h = tt
remove_apart (x ∷ xs) zero h = h.1
remove_apart (x ∷ xs) (suc p) h = (not_in_remove x xs p h.0, remove_apart xs p h.1)

-- Each element that a removal leaves was in the list and is not the removed one.
pub remove_get : (xs : List ℕ) (p a : ℕ) → AreApart xs → slice_get xs p ≡ Some a → (i b : ℕ) → slice_get (remove xs p) i ≡ Some b → (j : ℕ)
    × (slice_get xs j ≡ Some b) × (b ≡ a → ⊥)
remove_get [] p a h e i b g = absurd (none_some refl e)
remove_get (x ∷ xs) zero a h e i b g = (suc i, g, λ s. not_in_get x xs i b h.0 g (s ∙ sym (some_is e)))
remove_get (x ∷ xs) (suc p) a h e zero b g = (0, g, λ s. not_in_get x xs p a h.0 e (sym s ∙ sym (some_is g)))
remove_get (x ∷ xs) (suc p) a h e (suc i) b g = let r = remove_get xs p a h.1 e i b g in (suc r.0, r.1, r.2)

-- Each other element of the list is left.
pub get_remove : (xs : List ℕ) (p a : ℕ) → slice_get xs p ≡ Some a → (j b : ℕ) → slice_get xs j ≡ Some b → (b ≡ a → ⊥) → (i : ℕ)
    × (slice_get (remove xs p) i ≡ Some b)
get_remove [] p a e j b g ne = absurd (none_some refl e)
get_remove (x ∷ xs) zero a e zero b g ne = absurd (ne (sym (some_is g) ∙ some_is e))
get_remove (x ∷ xs) zero a e (suc j) b g ne = (j, g)
get_remove (x ∷ xs) (suc p) a e zero b g ne = (0, g)
get_remove (x ∷ xs) (suc p) a e (suc j) b g ne = let r = get_remove xs p a e j b g ne in (suc r.0, r.1)

pub get_map : {X : Type 0} (f : ℕ → X) (xs : List ℕ) (i a : ℕ) → slice_get xs i ≡ Some a → slice_get (map f xs) i ≡ Some (f a)
get_map f xs i a e = slice_get-map f xs i ∙ ap (option_map f) e

pub remove_map : {X : Type 0} (f : ℕ → X) (xs : List ℕ) (p : ℕ) → map f (remove xs p) ≡ remove (map f xs) p
remove_map f [] zero = refl
remove_map f [] (suc p) = refl
remove_map f (x ∷ xs) zero = refl
remove_map f (x ∷ xs) (suc p) = ap (λ ys. f x ∷ ys) (remove_map f xs p)
