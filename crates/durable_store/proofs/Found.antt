-- What is found on a shelf, from what was loaded.
use Rattle.text_and_lists.specs.Order.{text_cmp, text_total}
use Rattle.durable_store.specs.Outcomes.{AreAtKeys, IsOf, IsSound}
use Rattle.durable_store.specs.Stores.{counted, found, read_as, unfolded}
use Rattle.durable_store.specs.declared.shelf_state.ShelfState.{ShelfState}
use Rattle.durable_store.specs.declared.shelf_state.ShelfState.TheVariants.{Faulty, Nothing, Store}
use Rattle.journal_log.proofs.Imaged.{all, at}
use Rattle.journal_log.specs.Changes.{content_after}
use Rattle.journal_log.specs.Kept.{kept}
use Rattle.journal_log.specs.Made.{IsMade}
use Rattle.s3_types.specs.Names.{is_bucket, is_key}
use Rattle.s3_types.specs.Store.{Content}
use Rattle.s3_types.specs.declared.request.Request.{Request}
use Rattle.devices.specs.Logged.{IsBad, IsLoaded, IsSmall, IsTooLarge, Stored, most_base, most_file}
use Rattle.devices.specs.Logged.Holding.{Stands}
use Rattle.std.proofs.Common.{Err, IfOk, List, None, Ok, Option, Result, Some, ap, arith, cond, false, inl, inr, length, nat_le, nat_lt}
use Rattle.std.proofs.Common.{refl, subst, sym, true, ℕ, ◌<◌, ◌^◌, ◌||◌, ◌∙◌, ◌≡◌, ◌≤◌, ◌⊎◌}
use Rattle.std.proofs.lemmas.Bool.{and_parts, leb-true}
use Rattle.std.proofs.lemmas.Bool.Decides.{nat_tests}
use Rattle.std.specs.List.{AllByRecursion}
use Rattle.store_image.specs.Content.{IsBucket, IsContent, IsObject}
use Rattle.store_image.specs.Image.{image}
use Rattle.store_image.specs.Reading.{content_in}
use Rattle.std.specs.FinMap as fin
use Rattle.log_format.specs.declared.logged_store.LoggedStore as logs
use Rattle.store_image.proofs.Whole as images

-- ---- the store from a base and changes

pub few : (d : Content) → d.next ≤ 2 ^ 62 → Store d ≡ counted d
few d h =
    let test : nat_lt (2 ^ 62) d.next ≡ false = grind (arith, nat_tests) in
    rw test refl

pub many : (d : Content) → 2 ^ 62 < d.next → Faulty 5 0 ≡ counted d
many d h =
    let test : nat_lt (2 ^ 62) d.next ≡ true = grind (arith, nat_tests) in
    rw test refl

-- It is what the base and the changes stand for.
pub stood : (held : logs.LoggedStore) (c : Content) → held.base ≡ image c → IsOf (counted (content_after c held.changes)) (Stands held)
stood held c is = elim (nat_lt (2 ^ 62) (content_after c held.changes).next) as
    (λ t. IsOf (cond t (Faulty 5 0) (Store (content_after c held.changes))) (Stands held)) [
      | true ↦ tt
      | false ↦ record { first = c; is_image = is; folded = refl }
    ]

-- So a store after its changes is what the shelf's holding stands for.
pub stand_if : {E : Type 0} (r : Result ShelfState E) (held : logs.LoggedStore) (c : Content) (rs : List Request) → rs ≡ held.changes
    → held.base ≡ image c → IfOk r (λ h. h ≡ counted (content_after c rs)) → IfOk r (λ h. IsOf h (Stands held))
stand_if (Ok h) held c rs same is e = subst (λ (x : ShelfState). IsOf x (Stands held))
    (sym (e ∙ ap (λ (l : List Request). counted (content_after c l)) same)) (stood held c is)
stand_if (Err fault) held c rs same is e = tt

-- A store that can be written as an image has upload ids left.
pub few_ids : (c : Content) → IsContent c → c.next ≤ 2 ^ 62
few_ids c is = leb-true c.next (2 ^ 62) (and_parts (nat_le 1 c.next) (nat_le c.next (2 ^ 62)) is.counter).1

-- After such changes it can be written as an image too.
pub imaged : (c d : Content) (rs : List Request) → d ≡ content_after c rs → AllByRecursion IsMade rs → (content_after c rs).next ≤ 2 ^ 62
    → IsContent c → IsSound (Store d)
imaged c d rs same m few is = subst IsContent (sym same) (all c rs is m few)

pub sound_if : {E : Type 0} (r : Result ShelfState E) (c : Content) → IsContent c → IfOk r (λ h. IsContent c → IsSound h) → IfOk r IsSound
sound_if (Ok h) c is f = f is
sound_if (Err fault) c is f = tt

-- ---- the whole load

small : (s : Stored) → IsSmall s → found s ≡ read_as s.holding
unfolding found
small s h =
    let test : (nat_lt most_base s.base_length || nat_lt most_file s.file_length) ≡ false = grind (arith, nat_tests) in
    rw test refl

pub again : (s : Stored) (c : Content) (rs : List Request) → s.holding ≡ kept c rs → IsSmall s → length (image c) < 2 ^ 64 → IsContent c
    → (content_after c rs).next ≤ 2 ^ 62 → found s ≡ Store (content_after c rs)
again s c rs h sm fits is less = small s sm ∙ ap read_as h ∙ ap (λ r. unfolded r rs) (images.read_again (image c) c fits is refl) ∙ sym
    (few (content_after c rs) less)

pub at_keys : (c : Content) → IsContent c → AreAtKeys c
at_keys c is n k b o g h =
    let exact : fin.IsAntisymmetric text_cmp = fin.slice_cmp-IsAntisymmetric fin.nat_cmp-IsAntisymmetric in
    let bucket = at text_total exact is_bucket (IsBucket c.next) c.buckets n b is.buckets g in
    (at text_total exact is_key IsObject b.objects k o bucket.value.objects h).key

-- Nothing was loaded.
pub found_nothing : (o : Option Stored) (s : Stored) → IsLoaded o None → o ≡ Some s → Nothing ≡ found s
found_nothing None s loaded e = cc
found_nothing (Some t) s loaded e =
    let is : t ≡ s = cc in
    subst (λ (x : Stored). Nothing ≡ found x) is (sym (small t loaded.1 ∙ ap read_as loaded.0))

-- A base with changes was loaded.
pub found_held : (o : Option Stored) (held : logs.LoggedStore) (s : Stored) → IsLoaded o (Some held) → o ≡ Some s
    → unfolded (content_in held.base) held.changes ≡ found s
found_held None held s loaded e = cc
found_held (Some t) held s loaded e =
    let is : t ≡ s = cc in
    subst (λ (x : Stored). unfolded (content_in held.base) held.changes ≡ found x) is (sym (small t loaded.1 ∙ ap read_as loaded.0))

-- The log is bad.
pub found_bad : (o : Option Stored) (place : ℕ) (s : Stored) → IsBad o place → o ≡ Some s → Faulty 9 place ≡ found s
found_bad None place s bad e = cc
found_bad (Some t) place s bad e =
    let is : t ≡ s = cc in
    subst (λ (x : Stored). Faulty 9 place ≡ found x) is (sym (small t bad.1 ∙ ap read_as bad.0))

-- The shelf holds more than is loaded.
large : (s : Stored) → (most_base < s.base_length) ⊎ (most_file < s.file_length) → found s ≡ Faulty 8 most_base
unfolding found
large s (inl h) =
    let test : nat_lt most_base s.base_length ≡ true = grind (arith, nat_tests) in
    rw test refl
large s (inr h) =
    let test : (nat_lt most_base s.base_length || nat_lt most_file s.file_length) ≡ true = grind (arith, nat_tests) in
    rw test refl

pub found_large : (o : Option Stored) (s : Stored) → IsTooLarge o → o ≡ Some s → Faulty 8 most_base ≡ found s
found_large None s h e = cc
found_large (Some t) s h e =
    let is : t ≡ s = cc in
    subst (λ (x : Stored). Faulty 8 most_base ≡ found x) is (sym (large t h))
