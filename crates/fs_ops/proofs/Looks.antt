-- What looks show while the bucket exists.
use Rattle.text_and_lists.specs.Members.{IsIn}
use Rattle.text_and_lists.specs.Order.{text_cmp}
use Rattle.bucket_ops.specs.Looks.{look_of}
use Rattle.bucket_ops.specs.declared.look.Look.{Look}
use Rattle.bucket_ops.specs.declared.look.Look.TheVariants.{Nothing, There}
use Rattle.fs_tree.specs.Tree.{NoneBelow, SomeBelow, Stands}
use Rattle.s3_types.specs.Answer.{head}
use Rattle.s3_types.specs.Pages.{begins, listed, page, text_in}
use Rattle.s3_types.specs.Store.{Objects}
use Rattle.s3_types.specs.declared.object.Object.{Object}
use Rattle.s3_types.specs.declared.reply.PageEntry.{PageEntry}
use Rattle.std.proofs.Common.{arith, inl, refl, subst, sym}
use Rattle.std.specs.Ordering.{is_lt}
use Rattle.std.specs.Prelude.{List, None, Option, Some, false, map, take, true, ℕ, [], ◌∷◌, ◌≡◌}
use Rattle.store_frame.proofs.Flat.{listed_all, page_begins}
use Rattle.std.specs.FinMap as fin

-- Holds if what the look showed is true.
abbrev pub IsSeen : Look → Type 0 → Type 0 → Type 0
IsSeen There there nothing = there
IsSeen Nothing there nothing = nothing
IsSeen _ there nothing = ⊥

-- ---- a look at a key

-- It shows whether an object exists there.
pub head_tells : (m : Objects) (k : List ℕ) → IsSeen (look_of (head (fin.get m k))) (Stands m k) (fin.get m k ≡ None)
head_tells m k = elim (fin.get m k) as (λ o. IsSeen (look_of (head o)) ((v : Object) × (o ≡ Some v)) (o ≡ None))
    [ None ↦ refl | Some v ↦ (v, refl) ]

-- ---- a look below a prefix that is not empty

-- If nothing is listed, no key is there.
pub none_listed : (x : ℕ) (q : List ℕ) (m : Objects) → listed (x ∷ q) false [] m ≡ [] → NoneBelow m (x ∷ q)
none_listed x q m e k b = by k b (fin.get m k) refl
  where
    stands : (k : List ℕ) → begins (x ∷ q) k ≡ true → (o : Object) → fin.get m k ≡ Some o → is_lt (text_cmp [] k) ≡ true
        → IsIn k (map text_in (listed (x ∷ q) false [] m))
    stands k b o f l = listed_all (x ∷ q) [] m k o f b l

    by : (k : List ℕ) → begins (x ∷ q) k ≡ true → (o : Option Object) → fin.get m k ≡ o → fin.get m k ≡ None
    by k h o g = grind (arith, stands)

-- The first listed entry is below the prefix.
pub first_listed : (q : List ℕ) (m : Objects) (e : PageEntry) (es : List PageEntry) → listed q false [] m ≡ e ∷ es → SomeBelow m q
first_listed q m e es h =
    let w = page_begins 1 q [] (text_in e) m (subst (λ l. IsIn (text_in e) (map text_in (take 1 l))) (sym h) (inl refl)) in
    (text_in e, w.0, w.1.0, w.1.1)

-- It shows whether a key exists there.
pub page_tells : (x : ℕ) (q : List ℕ) (m : Objects)
    → IsSeen (look_of (page 1 (listed (x ∷ q) false [] m))) (SomeBelow m (x ∷ q)) (NoneBelow m (x ∷ q))
page_tells x q m = by (listed (x ∷ q) false [] m) refl
  where
    by : (l : List PageEntry) → listed (x ∷ q) false [] m ≡ l → IsSeen (look_of (page 1 l)) (SomeBelow m (x ∷ q)) (NoneBelow m (x ∷ q))
    by [] e = none_listed x q m e
    by (y ∷ l) e = first_listed (x ∷ q) m y l e

-- ---- what holds in both cases holds of what a look shows

pub told : (A B : Type 0) (P : Look → Type 0) (l : Look) → IsSeen l A B → (A → P There) → (B → P Nothing) → P l
told A B P l h g e = grind arith

pub at_key : (P : Look → Type 0) (m : Objects) (k : List ℕ) → (Stands m k → P There) → (fin.get m k ≡ None → P Nothing)
    → P (look_of (head (fin.get m k)))
at_key P m k f g = told (Stands m k) (fin.get m k ≡ None) P (look_of (head (fin.get m k))) (head_tells m k) f g

pub below_key : (P : Look → Type 0) (x : ℕ) (q : List ℕ) (m : Objects) → (SomeBelow m (x ∷ q) → P There) → (NoneBelow m (x ∷ q) → P Nothing)
    → P (look_of (page 1 (listed (x ∷ q) false [] m)))
below_key P x q m f g = told (SomeBelow m (x ∷ q)) (NoneBelow m (x ∷ q)) P (look_of (page 1 (listed (x ∷ q) false [] m))) (page_tells x q m)
    f g
