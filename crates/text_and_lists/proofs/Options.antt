-- Options.
use Rattle.std.proofs.Common.{◌≡◌, Bool, false, true≢false, Option, Some, None, refl, IsSome, arith, cond, option_map, true, ℕ, ◌&&◌}
use Rattle.std.specs.Prelude.{is_some}
use Rattle.std.specs.Option.{option_map}

pub none_some : {X : Type 0} {x : X} → None ≡ Some x → ⊥
none_some e = cc

pub some_of : {X : Type 0} (o : Option X) → IsSome o → (x : X) × (o ≡ Some x)
some_of o h = grind arith

pub both_hold : (b c : Bool) (x y : Option ℕ) → b ≡ true → c ≡ true → cond (b && c) x y ≡ x
both_hold b c x y h g = rw (h, g) refl

pub end_of : {X Y : Type 0} (f : X → Y) (o : Option X) (y : Y) → option_map f o ≡ Some y → (x : X) × (o ≡ Some x) × (f x ≡ y)
end_of f o y h = grind arith

pub some_mapped : {A B : Type 0} (f : A → B) (o : Option A) → is_some (option_map f o) ≡ is_some o
some_mapped f None = refl
some_mapped f (Some x) = refl

pub none_is : {X : Type 0} (o : Option X) → is_some o ≡ false → o ≡ None
none_is None h = refl
none_is (Some x) h = absurd (true≢false h)
