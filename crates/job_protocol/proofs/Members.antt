-- Members of lists, their places, and appended lists.
use Rattle.text_and_lists.proofs.Members.{false_true, none_some, some_is, true_or_false}
use Rattle.job_protocol.specs.LaneTable.{In}
use Rattle.std.proofs.Common.{List, ap, inl, inr, map, refl, [], ◌++◌, ◌∷◌, ◌≡◌, ◌⊎◌}
use Rattle.std.proofs.lemmas.List.{map-append}

pub in_append : {X : Type 0} (x : X) (xs ys : List X) → In x (xs ++ ys) → In x xs ⊎ In x ys
in_append x [] ys h = inr h
in_append x (z ∷ xs) ys h = elim h [ inl e ↦ inl (inl e) | inr i ↦ elim (in_append x xs ys i) [ inl j ↦ inl (inr j) | inr j ↦ inr j ] ]

pub in_left : {X : Type 0} (x : X) (xs ys : List X) → In x xs → In x (xs ++ ys)
in_left x [] ys h = absurd h
in_left x (z ∷ xs) ys h = elim h [ inl e ↦ inl e | inr i ↦ inr (in_left x xs ys i) ]

pub in_right : {X : Type 0} (x : X) (xs ys : List X) → In x ys → In x (xs ++ ys)
in_right x [] ys h = h
in_right x (z ∷ xs) ys h = inr (in_right x xs ys h)

-- A member of xs ++ y ∷ [] is in xs or is y.
pub in_push : {X : Type 0} (x : X) (xs : List X) (y : X) → In x (xs ++ y ∷ []) → In x xs ⊎ (y ≡ x)
in_push x xs y h = elim (in_append x xs (y ∷ []) h) [ inl i ↦ inl i | inr i ↦ elim i [ inl e ↦ inr e | inr n ↦ absurd n ] ]

pub in_last : {X : Type 0} (xs : List X) (y : X) → In y (xs ++ y ∷ [])
in_last xs y = in_right y xs (y ∷ []) (inl refl)

pub in_map : {X Y : Type 0} (f : X → Y) (xs : List X) (y : Y) → In y (map f xs) → (x : X) × In x xs × (f x ≡ y)
in_map f [] y h = absurd h
in_map f (x ∷ xs) y h = elim h [ inl e ↦ (x, inl refl, e) | inr i ↦ let r = in_map f xs y i in (r.0, inr r.1, r.2) ]

pub map_in : {X Y : Type 0} (f : X → Y) (xs : List X) (x : X) → In x xs → In (f x) (map f xs)
map_in f [] x h = absurd h
map_in f (z ∷ xs) x h = elim h [ inl e ↦ inl (ap f e) | inr i ↦ inr (map_in f xs x i) ]
