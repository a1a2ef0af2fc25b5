-- The result of the walk over a text.
use Rattle.s3_types.specs.Pages.{before_slash, begins, stem}
use Rattle.std.proofs.Common.{Bool, List, None, Option, Some, ap, append-nil, append_assoc, arith, cond, drop, false, get_or, length}
use Rattle.std.proofs.Common.{nat_eq, refl, sym, take, true, ℕ, [], ◌&&◌, ◌++◌, ◌+◌, ◌<◌, ◌∙◌, ◌∷◌, ◌≡◌, ◌≢◌}
use Rattle.std.proofs.lemmas.Bool.{and_parts, eq-eqb, false≢true, ne_eqb, true≢false}
use Rattle.std.proofs.lemmas.List.{drop_more, take_more}
use Rattle.std.specs.Option.{option_map}

pub stem_none : (p q : List ℕ) → begins p q ≡ false → stem p q ≡ None
stem_none [] q h = absurd (true≢false h)
stem_none (x ∷ p) [] h = refl
stem_none (x ∷ p) (y ∷ q) h = by (nat_eq x y) h (stem_none p q)
  where
    by : (b : Bool) → (b && begins p q) ≡ false → (begins p q ≡ false → stem p q ≡ None)
        → cond b (option_map (λ s. y ∷ s) (stem p q)) None ≡ None
    by b h g = grind arith

map_map : (xs : List ℕ) (y : ℕ) (o : Option (List ℕ))
    → option_map (λ s. y ∷ s) (option_map (λ s. xs ++ s) o) ≡ option_map (λ s. (y ∷ xs) ++ s) o
map_map xs y o = grind arith

map_nil : (o : Option (List ℕ)) → o ≡ option_map (λ s. [] ++ s) o
map_nil o = grind arith

pub stem_split : (p q : List ℕ) → begins p q ≡ true → stem p q ≡ option_map (λ s. take (length p) q ++ s) (before_slash (drop (length p) q))
stem_split [] q h = map_nil (before_slash q)
stem_split (x ∷ p) [] h = absurd (false≢true h)
stem_split (x ∷ p) (y ∷ q) h =
    let a = and_parts (nat_eq x y) (begins p q) h in
    ap (λ b. cond b (option_map (λ s. y ∷ s) (stem p q)) None) a.0
    ∙ ap (option_map (λ s. y ∷ s)) (stem_split p q a.1)
    ∙ map_map (take (length p) q) y (before_slash (drop (length p) q))

map_step : (xs : List ℕ) (y : ℕ) (o : Option (List ℕ))
    → option_map (λ s. xs ++ s) (option_map (λ s. y ∷ s) o) ≡ option_map (λ s. (xs ++ y ∷ []) ++ s) o
map_step xs y None = refl
map_step xs y (Some s) = ap Some (sym (append_assoc xs (y ∷ []) s))

-- The stem that is found from i on.
abbrev pub from : List ℕ → ℕ → Option (List ℕ)
from q i = option_map (λ s. take i q ++ s) (before_slash (drop i q))

pub from_more : (q : List ℕ) (i : ℕ) → i < length q → (get_or q i 0 ≢ 47) → from q i ≡ from q (i + 1)
from_more q i l n =
    ap (λ r. option_map (λ s. take i q ++ s) (before_slash r)) (drop_more q i 0 l)
    ∙ ap (λ b. option_map (λ s. take i q ++ s) (cond b (Some []) (option_map (λ s. get_or q i 0 ∷ s) (before_slash (drop (i + 1) q)))))
    (ne_eqb _ _ n)
    ∙ map_step (take i q) (get_or q i 0) (before_slash (drop (i + 1) q))
    ∙ ap (λ t. option_map (λ s. t ++ s) (before_slash (drop (i + 1) q))) (sym (take_more q i 0 l))

pub from_here : (q : List ℕ) (i : ℕ) → i < length q → get_or q i 0 ≡ 47 → from q i ≡ Some (take i q)
from_here q i l e =
    ap (λ r. option_map (λ s. take i q ++ s) (before_slash r)) (drop_more q i 0 l)
    ∙ ap (λ b. option_map (λ s. take i q ++ s) (cond b (Some []) (option_map (λ s. get_or q i 0 ∷ s) (before_slash (drop (i + 1) q)))))
    (eq-eqb _ _ e)
    ∙ ap Some (append-nil (take i q))
