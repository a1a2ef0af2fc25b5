-- The value that is read of a file is the one that it stands for, and the one that it stands for is read.
use Rattle.text_and_lists.proofs.Bytes.{IsBytes, IsBytes-drop, Takes}
use Rattle.text_and_lists.proofs.Reading.{parted, same_ok}
use Rattle.text_and_lists.specs.Reading.{◌>>=◌}
use Rattle.log_format.proofs.Changes.{change_again, change_takes}
use Rattle.log_format.proofs.Steps.{block_again, block_takes, byte_again, byte_takes}
use Rattle.log_format.specs.Change.{IsChange}
use Rattle.log_format.specs.File.{StandsFor}
use Rattle.log_format.specs.Log.{block, body, headed, long, magic, opened, record_of}
use Rattle.log_format.specs.Reading.{block_at, byte_at, change_in, changes_at, held_in, is_log, logged_in, place, record_at}
use Rattle.log_format.specs.declared.fault.LogFault.{LogFault}
use Rattle.log_format.specs.declared.logged_store.LoggedStore.{LoggedStore}
use Rattle.s3_types.specs.declared.request.Request.{Request}
use Rattle.std.proofs.Common.{Bool, Err, List, Ok, Result, ap, append_assoc, arith, drop, false, if◌then◌else◌, inl, inr, length, refl}
use Rattle.std.proofs.Common.{subst, suc, sym, take, true, zero, ℕ, [], ◌++◌, ◌<◌, ◌==◌, ◌^◌, ◌∙◌, ◌∷◌, ◌≡◌, ◌≢◌, ◌≤◌}
use Rattle.std.proofs.lemmas.Bool.{cases_eq}
use Rattle.std.proofs.lemmas.Bool.Decides.{nat_tests}
use Rattle.std.proofs.lemmas.List.{append-nil, drop_at, length-append, take-append-drop, take_at}
use Rattle.std.proofs.lemmas.List.Concat.{flat_map-cons}
use Rattle.std.proofs.lemmas.Slice.Eq.{bytes_eq-Decides}
use Rattle.std.specs.List.{AllByRecursion}

-- ---- records

record_takes : (at : ℕ) (bytes : List ℕ) (r : Request) (rest : List ℕ) → IsBytes bytes → record_at at bytes ≡ Ok (r, rest)
    → Takes bytes (record_of r) rest × IsChange r
unfolding record_at
record_takes at bytes r rest fits e =
    let b = parted (block_at at bytes) _ (r, rest) e in
    let x = parted (change_in at b.value.0) _ (r, rest) b.next in
    let t = block_takes at bytes b.value.0 b.value.1 fits b.first in
    let c = change_takes at b.value.0 x.value t.1 x.first in
    subst (λ (p : Request × List ℕ). Takes bytes (record_of p.0) p.1 × IsChange p.0) (same_ok (x.value, b.value.1) (r, rest) x.next)
    (subst (λ (y : List ℕ). Takes bytes (block y) b.value.1) c.0 t.0, c.1)

record_again : (at : ℕ) (r : Request) (rest : List ℕ) → IsChange r → length (body r) < 2 ^ 64
    → record_at at (record_of r ++ rest) ≡ Ok (r, rest)
unfolding record_at
record_again at r rest is fits = rw (block_again at (body r) rest fits, change_again at r is fits) refl

-- ---- changes

-- The bytes are changes after open gates, a gate that is not open, and any bytes.
pub record Ends (bytes : List ℕ) (rs : List Request) : Type 0 where
  pub gate : ℕ
  pub behind : List ℕ
  pub not_open : gate ≢ 1
  pub spelled : bytes ≡ opened rs ++ gate ∷ behind
  pub legal : AllByRecursion IsChange rs

opened_cons : (r : Request) (rs : List Request) (rest : List ℕ) → opened (r ∷ rs) ++ rest ≡ 1 ∷ record_of r ++ (opened rs ++ rest)
opened_cons r rs rest =
    ap (λ (t : List ℕ). t ++ rest) (flat_map-cons (λ c. 1 ∷ record_of c) r rs) ∙ ap (λ (t : List ℕ). 1 ∷ t)
    (append_assoc (record_of r) (opened rs) rest)

shut : (g : ℕ) → g ≢ 1 → (g == 1) ≡ false
shut g h = grind (arith, nat_tests)

changes_take : (n whole : ℕ) (bytes : List ℕ) (rs : List Request) → IsBytes bytes → changes_at n whole bytes ≡ Ok rs → Ends bytes rs
unfolding changes_at
changes_take zero whole bytes rs fits e = absurd cc
changes_take (suc n) whole bytes rs fits e =
    let g = parted (byte_at (place whole bytes) bytes) _ rs e in
    let t = byte_takes (place whole bytes) bytes g.value.0 g.value.1 fits g.first in
    elim (cases_eq g.value.0 1) [
      | inl is ↦
          let go : (record_at (place whole g.value.1) g.value.1 >>= λ change. changes_at n whole change.1 >>= λ changes. Ok
          (change.0 ∷ changes)) ≡ Ok rs =
          sym (ap (λ (k : ℕ). if k == 1 then (record_at (place whole g.value.1) g.value.1 >>= λ change. changes_at n whole change.1 >>= λ
          changes. Ok (change.0 ∷ changes)) else Ok []) is) ∙ g.next in
          let x = parted (record_at (place whole g.value.1) g.value.1) _ rs go in
          let others = parted (changes_at n whole x.value.1) _ rs x.next in
          let c = record_takes (place whole g.value.1) g.value.1 x.value.0 x.value.1 t.rest_fits x.first in
          let tail = changes_take n whole x.value.1 others.value c.0.rest_fits others.first in
          let spelled : bytes ≡ opened (x.value.0 ∷ others.value) ++ tail.gate ∷ tail.behind =
          t.parts ∙ ap (λ (k : ℕ). k ∷ g.value.1) is ∙ ap (λ (y : List ℕ). 1 ∷ y)
          (c.0.parts ∙ ap (λ (y : List ℕ). record_of x.value.0 ++ y) tail.spelled)
          ∙ sym (opened_cons x.value.0 others.value (tail.gate ∷ tail.behind)) in
          subst (Ends bytes) (same_ok (x.value.0 ∷ others.value) rs others.next)
          (record { gate = tail.gate; behind = tail.behind; not_open = tail.not_open; spelled = spelled; legal = (c.1, tail.legal) })
      | inr closed ↦
          let stop : Ok [] ≡ Ok rs = sym (ap (λ (b : Bool). if b then (record_at (place whole g.value.1) g.value.1 >>= λ change. changes_at
          n whole change.1 >>= λ changes. Ok (change.0 ∷ changes)) else Ok []) (shut g.value.0 closed)) ∙ g.next in
          subst (Ends bytes) (same_ok [] rs stop) (record {
            gate = g.value.0;
            behind = g.value.1;
            not_open = closed;
            spelled = t.parts;
            legal = tt;
          })
    ]

one_open : (n whole : ℕ) (r : Request) (behind : List ℕ) → IsChange r → length (body r) < 2 ^ 64
    → changes_at (suc n) whole (1 ∷ record_of r ++ behind) ≡ (changes_at n whole behind >>= λ changes. Ok (r ∷ changes))
unfolding changes_at
one_open n whole r behind is fits = rw (
  byte_again (place whole (1 ∷ record_of r ++ behind)) 1 (record_of r ++ behind),
  record_again
      (place whole (record_of r ++ behind)) r behind is fits,
) refl

-- After changes with open gates, reading goes on with the rest.
pub changes_again : (rs : List Request) (n whole : ℕ) (rest : List ℕ) → AllByRecursion IsChange rs → length (opened rs ++ rest) < 2 ^ 64
    → length (opened rs ++ rest) ≤ n
    → (m : ℕ) × (length rest ≤ m) × (changes_at n whole (opened rs ++ rest) ≡ (changes_at m whole rest >>= λ others. Ok (rs ++ others)))
changes_again [] n whole rest legal fits le = (n, le, nothing (changes_at n whole rest))
  where
    nothing : (r : Result (List Request) LogFault) → r ≡ (r >>= λ others. Ok others)
    nothing (Ok x) = refl
    nothing (Err e) = refl
changes_again (r ∷ rs) zero whole rest legal fits le = absurd (omega (arith, le, ap length (opened_cons r rs rest)))
changes_again (r ∷ rs) (suc n) whole rest legal fits le =
    let behind = opened rs ++ rest in
    let len : length (opened (r ∷ rs) ++ rest) ≡ length (1 ∷ record_of r ++ behind) = ap length (opened_cons r rs rest) in
    let body_len : length (body r) < 2 ^ 64 = omega (
      arith,
      fits,
      len,
      length-append (record_of r) behind,
      length-append
          (long (length (body r))) (body r),
    ) in
    let next = changes_again rs n whole rest legal.1 (omega (arith, fits, len, length-append (record_of r) behind))
    (omega (arith, le, len, length-append (record_of r) behind)) in (
      next.0,
      next.1,
      ap (changes_at (suc n) whole) (opened_cons r rs rest) ∙ one_open n whole r behind legal.0 body_len ∙ ap
          (λ (x : Result (List Request) LogFault). x >>= λ changes. Ok (r ∷ changes)) next.2
          ∙ regroup (changes_at next.0 whole rest),
    )
  where
    regroup : (x : Result (List Request) LogFault)
        → ((x >>= λ others. Ok (rs ++ others)) >>= λ changes. Ok (r ∷ changes)) ≡ (x >>= λ others. Ok ((r ∷ rs) ++ others))
    regroup (Ok xs) = refl
    regroup (Err e) = refl

-- A gate that is not open ends the changes.
pub changes_end : (m whole gate : ℕ) (behind : List ℕ) → gate ≢ 1 → length (gate ∷ behind) ≤ m → changes_at m whole (gate ∷ behind) ≡ Ok []
unfolding changes_at
changes_end zero whole gate behind closed le = absurd (omega (arith, le))
changes_end (suc m) whole gate behind closed le = rw (byte_again (place whole (gate ∷ behind)) gate behind, shut gate closed) refl

pub all_again : (rs : List Request) (whole gate : ℕ) (behind : List ℕ) → gate ≢ 1 → AllByRecursion IsChange rs
    → length (opened rs ++ gate ∷ behind) < 2 ^ 64
    → changes_at (length (opened rs ++ gate ∷ behind)) whole (opened rs ++ gate ∷ behind) ≡ Ok rs
all_again rs whole gate behind closed legal fits =
    let x = changes_again rs (length (opened rs ++ gate ∷ behind)) whole (gate ∷ behind) legal fits (omega arith) in
    x.2 ∙ ap (λ (y : Result (List Request) LogFault). y >>= λ others. Ok (rs ++ others)) (changes_end x.0 whole gate behind closed x.1) ∙ ap
    (λ (l : List Request). Ok l) (append-nil rs)

-- ---- files

log_takes : (whole : ℕ) (bytes : List ℕ) (h : LoggedStore) → IsBytes bytes → logged_in whole bytes ≡ Ok h
    → (bytes ≡ block h.base ++ drop (length (block h.base)) bytes) × Ends (drop (length (block h.base)) bytes) h.changes
unfolding logged_in
log_takes whole bytes h fits e =
    let b = parted (block_at 8 bytes) _ h e in
    let x = parted (changes_at (length b.value.1) whole b.value.1) _ h b.next in
    let t = (block_takes 8 bytes b.value.0 b.value.1 fits b.first).0 in
    let ends = changes_take (length b.value.1) whole b.value.1 x.value t.rest_fits x.first in
    let rest_is : drop (length (block b.value.0)) bytes ≡ b.value.1 = ap (drop (length (block b.value.0))) t.parts ∙ drop_at
    (block b.value.0) b.value.1 (length (block b.value.0)) refl in
    let all : (bytes ≡ block b.value.0 ++ drop (length (block b.value.0)) bytes) × Ends (drop (length (block b.value.0)) bytes) x.value =
    (t.parts ∙ ap (λ (y : List ℕ). block b.value.0 ++ y) (sym rest_is), subst (λ (y : List ℕ). Ends y x.value) (sym rest_is) ends) in
    subst (λ (k : LoggedStore). (bytes ≡ block k.base ++ drop (length (block k.base)) bytes)
    × Ends (drop (length (block k.base)) bytes) k.changes)
    (same_ok _ h x.next) all

headed_is : (base rest : List ℕ) → headed base ++ rest ≡ magic ++ (block base ++ rest)
headed_is base rest =
    append_assoc (magic ++ long (length base)) base rest ∙ append_assoc magic (long (length base)) (base ++ rest)
    ∙ ap (λ (t : List ℕ). magic ++ t) (sym (append_assoc (long (length base)) base rest))

log_again : (whole : ℕ) (h : LoggedStore) (gate : ℕ) (behind : List ℕ) → gate ≢ 1 → AllByRecursion IsChange h.changes
    → length (block h.base ++ (opened h.changes ++ gate ∷ behind)) < 2 ^ 64
    → logged_in whole (block h.base ++ (opened h.changes ++ gate ∷ behind)) ≡ Ok h
unfolding logged_in
log_again whole h gate behind closed legal fits =
    let rest = opened h.changes ++ gate ∷ behind in
    let base_fits : length h.base < 2 ^ 64 = omega (
      arith,
      fits,
      length-append (block h.base) rest,
      length-append (long (length h.base))
          h.base,
    ) in
    let rest_fits : length rest < 2 ^ 64 = omega (arith, fits, length-append (block h.base) rest) in
    rw (block_again 8 h.base rest base_fits, all_again h.changes whole gate behind closed legal rest_fits) refl

by_log : (file : List ℕ) (b : Bool) {G : Type 0} → (is_log file ≡ true → G) → (is_log file ≡ false → G) → is_log file ≡ b → G
by_log file true f g e = f e
by_log file false f g e = g e

-- The file stands for what is read.
pub file_takes : (file : List ℕ) (h : LoggedStore) → IsBytes file → held_in file ≡ Ok h → StandsFor file h
unfolding held_in
file_takes file h fits e = by_log file (is_log file) logged bare refl
  where
    logged : is_log file ≡ true → StandsFor file h
    logged is =
        let go : logged_in (length file) (drop 8 file) ≡ Ok h = sym (ap
        (λ (b : Bool). if b then logged_in (length file) (drop 8 file) else Ok (record { base = file; changes = [] })) is) ∙ e in
        let t = log_takes (length file) (drop 8 file) h (IsBytes-drop 8 file fits) go in
        let front : take 8 file ≡ magic = (bytes_eq-Decides (take 8 file) magic).0 is in
        let ends = t.1 in
        inr (record {
          gate = ends.gate;
          behind = ends.behind;
          not_open = ends.not_open;
          spelled = sym (take-append-drop 8 file) ∙ ap (λ (y : List ℕ). y ++ drop 8 file) front ∙ ap (λ (y : List ℕ). magic ++ y)
              (t.0 ∙ ap (λ (y : List ℕ). block h.base ++ y) ends.spelled)
              ∙ sym (headed_is h.base (opened h.changes ++ ends.gate ∷ ends.behind));
          legal = ends.legal;
        })

    bare : is_log file ≡ false → StandsFor file h
    bare is =
        let go : Ok (record { base = file; changes = [] }) ≡ Ok h = sym (ap
        (λ (b : Bool). if b then logged_in (length file) (drop 8 file) else Ok (record { base = file; changes = [] })) is) ∙ e in
        subst (StandsFor file) (same_ok (record { base = file; changes = [] }) h go) (inl (record { other = is; base = refl; none = refl }))

begins_log : (rest : List ℕ) → is_log (magic ++ rest) ≡ true
begins_log rest = (bytes_eq-Decides (take 8 (magic ++ rest)) magic).1 (take_at magic rest 8 refl)

-- What the file stands for is read.
pub file_again : (file : List ℕ) (h : LoggedStore) → length file < 2 ^ 64 → StandsFor file h → held_in file ≡ Ok h
unfolding held_in
file_again file h fits (inl bare) =
    ap (λ (b : Bool). if b then logged_in (length file) (drop 8 file) else Ok (record { base = file; changes = [] })) bare.other
    ∙ (λ i. Ok (record { base = sym bare.base i; changes = sym bare.none i }))
file_again file h fits (inr log) =
    let rest = block h.base ++ (opened h.changes ++ log.gate ∷ log.behind) in
    let is : file ≡ magic ++ rest = log.spelled ∙ headed_is h.base (opened h.changes ++ log.gate ∷ log.behind) in
    let short : length rest < 2 ^ 64 = omega (arith, fits, ap length is, length-append magic rest) in
    ap held_in is ∙ logged (length (magic ++ rest)) rest (log_again (length (magic ++ rest)) h log.gate log.behind log.not_open log.legal
    short)
  where
    logged : (whole : ℕ) (rest : List ℕ) → logged_in whole rest ≡ Ok h
        → (if is_log (magic ++ rest) then logged_in whole (drop 8 (magic ++ rest)) else Ok (record { base = magic ++ rest; changes = [] }))
        ≡ Ok h
    logged whole rest e =
        ap (λ (b : Bool). if b then logged_in whole (drop 8 (magic ++ rest)) else Ok (record { base = magic ++ rest; changes = [] }))
        (begins_log rest)
        ∙ ap (logged_in whole) (drop_at magic rest 8 refl) ∙ e
