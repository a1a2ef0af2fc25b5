-- One more entry of a map that is read.
use Rattle.text_and_lists.proofs.Reading.{unless_more}
use Rattle.text_and_lists.specs.Reading.{Fails, made, ◌>>=◌}
use Rattle.s3_types.specs.Names.{is_key}
use Rattle.s3_types.specs.Store.{Content, Parts, Uploads}
use Rattle.std.proofs.Common.{Err, List, None, Ok, Option, Some, ap, arith, refl, suc, sym, ℕ, ◌+◌, ◌-◌, ◌<◌, ◌∙◌, ◌∷◌, ◌≡◌, ◌≤◌}
use Rattle.std.proofs.lemmas.Cmp.{nat_cmp_total}
use Rattle.std.specs.Int.{w16, w64}
use Rattle.std.specs.declared.cmp.Ordering.{Ordering}
use Rattle.store_image.proofs.Maps.{insert_again}
use Rattle.store_image.specs.Fault.{wanting}
use Rattle.store_image.specs.Reading.{Read, block_at, counted_at, map_at, name_at, number_at, part_number_at, rising_at, upload_at}
use Rattle.store_image.specs.Reading.{with_entries}
use Rattle.store_image.specs.declared.fault.ImageFault.{ImageFault}
use Rattle.std.specs.FinMap as fin

-- The map with the entries that are read put into it.
abbrev pub built : {K X : Type 0} {R : K → K → Ordering} → fin.FinMap R X → Read (List (K × X)) → Read (fin.FinMap R X)
built m read = made (with_entries m) read

module _ {K X : Type 0} {R : K → K → Ordering} where
  later : (m : fin.FinMap R X) (k : K) (v : X) (r : Read (List (K × X)))
      → built m (r >>= λ es. Ok ((k, v) ∷ es.0, es.1)) ≡ built (fin.insert m k v) r
  later m k v (Ok es) = refl
  later m k v (Err e) = refl

  pub first_step : (key_at : Option K → List ℕ → Read K) (value_at : List ℕ → Read X) (count : ℕ) (bytes : List ℕ) (m : fin.FinMap R X)
      → m ≡ fin.empty → built m (rising_at key_at value_at (count - 0) None bytes) ≡ map_at key_at value_at count bytes
  unfolding map_at
  first_step key_at value_at count bytes m e =
      let all : count - 0 ≡ count = omega arith in
      rw (e, all) refl

  pub one_more : (key_at : Option K → List ℕ → Read K) (value_at : List ℕ → Read X) (count i : ℕ) (last : Option K)
      (bytes after left : List ℕ) (k : K) (v : X) (copy : Option K) (m now : fin.FinMap R X) (total : Read (fin.FinMap R X))
      → i < count → key_at last bytes ≡ Ok (k, after) → value_at after ≡ Ok (v, left) → now ≡ fin.insert m k v → copy ≡ Some k
      → built m (rising_at key_at value_at (count - i) last bytes) ≡ total
      → built now (rising_at key_at value_at (count - (i + 1)) copy left) ≡ total
  unfolding rising_at
  one_more key_at value_at count i last bytes after left k v copy m now total lt e1 e2 is same so_far =
      let n : count - i ≡ suc (count - (i + 1)) = omega arith in
      let one : built m (rising_at key_at value_at (count - i) last bytes) ≡ built (fin.insert m k v)
      (rising_at key_at value_at (count - (i + 1)) (Some k) left) =
      rw (n, e1, e2) (later m k v (rising_at key_at value_at (count - (i + 1)) (Some k) left)) in
      rw (is, same) (sym one ∙ so_far)

  pub last_step : (key_at : Option K → List ℕ → Read K) (value_at : List ℕ → Read X) (count i : ℕ) (last : Option K) (bytes : List ℕ)
      (m : fin.FinMap R X) (total : Read (fin.FinMap R X))
      → count ≤ i → built m (rising_at key_at value_at (count - i) last bytes) ≡ total → total ≡ Ok (m, bytes)
  unfolding rising_at
  last_step key_at value_at count i last bytes m total le so_far =
      let none : count - i ≡ 0 = omega arith in
      sym so_far ∙ ap (λ n. built m (rising_at key_at value_at n last bytes)) none

module _ {K X : Type 0} {R : K → K → Ordering} where
  -- A fault in the key of an entry is the fault of the whole.
  pub key_fails : (key_at : Option K → List ℕ → Read K) (value_at : List ℕ → Read X) (count i : ℕ) (last : Option K) (bytes : List ℕ)
      (m : fin.FinMap R X) (total : Read (fin.FinMap R X)) (e : ImageFault)
      → i < count → Fails wanting e (key_at last bytes)
      → built m (rising_at key_at value_at (count - i) last bytes) ≡ total → Fails wanting e total
  unfolding rising_at
  key_fails key_at value_at count i last bytes m total e lt fault so_far =
      let n : count - i ≡ suc (count - (i + 1)) = omega arith in
      let failing : key_at last bytes ≡ Err e → total ≡ Err e = λ h. sym so_far ∙ rw (n, h) refl in
      unless_more (wanting e) failing fault

  -- A fault in the value of an entry is the fault of the whole.
  pub value_fails : (key_at : Option K → List ℕ → Read K) (value_at : List ℕ → Read X) (count i : ℕ) (last : Option K)
      (bytes after : List ℕ) (k : K) (m : fin.FinMap R X) (total : Read (fin.FinMap R X)) (e : ImageFault)
      → i < count → key_at last bytes ≡ Ok (k, after) → Fails wanting e (value_at after)
      → built m (rising_at key_at value_at (count - i) last bytes) ≡ total → Fails wanting e total
  unfolding rising_at
  value_fails key_at value_at count i last bytes after k m total e lt e1 fault so_far =
      let n : count - i ≡ suc (count - (i + 1)) = omega arith in
      let failing : value_at after ≡ Err e → total ≡ Err e = λ h. sym so_far ∙ rw (n, e1, h) refl in
      unless_more (wanting e) failing fault

-- ---- an upload

-- An upload is read as its key, with no parts, and then its parts are put in.
pub upload_is : (whole id : ℕ) (bytes after left key : List ℕ) (count : ℕ) (m now : Uploads)
    → name_at is_key whole None bytes ≡ Ok (key, after) → number_at w16 whole after ≡ Ok (count, left)
    → now ≡ fin.insert m id (record { key = key; parts = fin.empty })
    → made (λ (ps : Parts). fin.insert now id (record { key = key; parts = ps }))
    (map_at (part_number_at whole) (block_at w64 whole) count left) ≡ made (fin.insert m id) (upload_at whole bytes)
unfolding upload_at counted_at
upload_is whole id bytes after left key count m now e1 e2 is = rw (e1, e2) (by
    (map_at (part_number_at whole) (block_at w64 whole) count left))
  where
    by : (r : Read Parts) → made (λ (ps : Parts). fin.insert now id (record { key = key; parts = ps })) r ≡ made (fin.insert m id)
        (r >>= λ ps. Ok (record { key = key; parts = ps.0 }, ps.1))
    by (Ok ps) = ap (λ (n : Uploads). Ok (n, ps.1)) (ap (λ (n : Uploads). fin.insert n id (record { key = key; parts = ps.0 })) is ∙
        insert_again nat_cmp_total fin.nat_cmp-IsAntisymmetric m id (record { key = key; parts = fin.empty })
        (record { key = key; parts = ps.0 }))
    by (Err e) = refl

-- ---- a store

abbrev done_store : Content → List ℕ → Read Content
done_store c rest = Ok (c, rest)

-- A store is its buckets, its counter and its least part size.
pub restored : (c : Content) (next minimum : ℕ) (rest : List ℕ) → c.next ≡ next → c.minimum ≡ minimum
    → done_store (record { buckets = c.buckets; next = next; minimum = minimum }) rest ≡ done_store c rest
restored c next minimum rest e f =
    ap (λ (n : ℕ). done_store (record { buckets = c.buckets; next = n; minimum = minimum }) rest) (sym e)
    ∙ ap (λ (n : ℕ). done_store (record { buckets = c.buckets; next = c.next; minimum = n }) rest) (sym f)
