-- Two scripts that may run at one destination, and the faults of their parts and of their order.
use Rattle.text_and_lists.proofs.Bools.{not_so}
use Rattle.text_and_lists.proofs.Reading.{checked, parted, unless_more}
use Rattle.text_and_lists.specs.Reading.{check, ◌>>=◌}
use Rattle.job_model.specs.JobScript.{Script}
use Rattle.job_script.specs.Fault.{wanting as script_wanting}
use Rattle.job_script.specs.declared.fault.ScriptFault.{ScriptFault}
use Rattle.s3_types.specs.Fates.{FateMap, IsFirstFrom}
use Rattle.s3_types.specs.declared.fates.Fate.{Fate}
use Rattle.std.proofs.Common.{Bool, List, None, Ok, Option, Some, ap, arith, false, length, not, refl, sym, true, ℕ, ◌==◌, ◌∙◌, ◌≡◌, ◌≢◌}
use Rattle.std.proofs.lemmas.Bool.{and_parts, eqb-true, not-false, or_parts}
use Rattle.std.proofs.lemmas.Bool.Decides.{not_from_Decides}
use Rattle.std.proofs.lemmas.Slice.Eq.{bytes_eq-Decides}
use Rattle.std.specs.Cmp.{nat_cmp_total}
use Rattle.std.specs.FinMap.{empty_of_len, get-empty, len-empty, nat_cmp-IsAntisymmetric, same_map}
use Rattle.std.specs.Ordering.{nat_cmp}
use Rattle.std.specs.Prelude.{Result, bytes_eq, is_some, ⊤, ◌||◌}
use Rattle.twin_script.proofs.OrderLines.{order_sound}
use Rattle.twin_script.specs.Fault.{is_told, wanting}
use Rattle.twin_script.specs.inner.Fault.{first_fault, second_fault}
use Rattle.twin_script.specs.Order.{order_of}
use Rattle.twin_script.specs.TwinScripts.{AreTwins, is_replace}
use Rattle.twin_script.specs.Twins.{fit, is_same_dest, names_fate, paired, told, turns_of, within}
use Rattle.twin_script.specs.declared.fault.TwinFault.{TwinFault}
use Rattle.twin_script.specs.declared.turns.TwinTurn.{TwinTurn}
use Rattle.std.specs.FinMap as map
use Rattle.text_and_lists.specs.Reading as reading
use Rattle.job_script.specs.declared.fault.ScriptFault.TheVariants as script_fault
use Rattle.twin_script.specs.declared.fault.TwinFault.TheVariants as fault

-- No send has a fate.
pub no_fates : (m : FateMap) → IsFirstFrom m 0 None → map.len m ≡ 0
no_fates m none = ap map.len (same_map nat_cmp_total nat_cmp-IsAntisymmetric m map.empty
    (λ k. none k (omega arith) ∙ sym (get-empty nat_cmp k))) ∙ len-empty nat_cmp Fate

-- The result of `fit`, by its tests of the two scripts.
pub fit_by : (first second p q : Script) (a b r l : Bool) → p ≡ first → q ≡ second → a ≡ bytes_eq p.job q.job
    → b ≡ is_same_dest p.dest q.dest → r ≡ (is_replace p.mode || is_replace q.mode) → l ≡ names_fate q.fates
    → told a b r l ≡ fit first second
unfolding fit
fit_by first second p q a b r l ep eq ea eb er el = (λ i. told (ea i) (eb i) (er i) (el i)) ∙ (λ i. fit (ep i) (eq i))

-- The test whether a send has a fate.
pub fate_named : (m : FateMap) (o : Option (ℕ × Fate)) → IsFirstFrom m 0 o → is_some o ≡ names_fate m
fate_named m None h = sym (ap (λ (n : ℕ). not (n == 0)) (no_fates m h))
fate_named m (Some s) h = (elim (map.len m == 0) as (λ b. (map.len m == 0) ≡ b → true ≡ not b) [
  | true ↦ λ e. let none = ap (λ (x : FateMap). map.get x s.0) (empty_of_len m (eqb-true (map.len m) 0 e)) ∙ get-empty nat_cmp s.0 in let
      some = h.1 in cc
  | false ↦ λ e. refl
]) refl

pub other_first : (e : ScriptFault) → (e ≡ script_fault.NoMemory → ⊥) → fault.First e ≡ first_fault e
other_first e h = grind arith

pub other_second : (e : ScriptFault) → (e ≡ script_fault.NoMemory → ⊥) → fault.Second e ≡ second_fault e
other_second e h = grind arith

-- The rules that two scripts keep if they may run at one destination.
pub record AreFit (first second : Script) : Type 0 where
  pub ids : first.job ≢ second.job
  pub dest : first.dest ≡ second.dest
  pub first_keeps : is_replace first.mode ≡ false
  pub second_keeps : is_replace second.mode ≡ false
  pub lossless : second.fates ≡ map.empty

pub fit_sound : (first second : Script) (u : ⊤) → fit first second ≡ Ok u → AreFit first second
unfolding fit
fit_sound first second u h =
    let a = parted (check (not (bytes_eq first.job second.job)) fault.SameJob) _ _ h in
    let b = parted (check (is_same_dest first.dest second.dest) fault.OtherDest) _ _ a.next in
    let c = parted (check (not (is_replace first.mode || is_replace second.mode)) fault.ReplaceMode) _ _ b.next in
    let d = checked (not (names_fate second.fates)) fault.SecondLoss u c.next in
    let dest = and_parts (bytes_eq first.dest.bucket second.dest.bucket) (bytes_eq first.dest.key second.dest.key)
    (checked _ fault.OtherDest b.value b.first) in
    let keep = or_parts (is_replace first.mode) (is_replace second.mode) (not_so _ (checked _ fault.ReplaceMode c.value c.first)) in
    record {
      ids = not_from_Decides _ (bytes_eq-Decides first.job second.job) (not_so _ (checked _ fault.SameJob a.value a.first));
      dest = λ i. record {
        bucket = (bytes_eq-Decides first.dest.bucket second.dest.bucket).0 dest.0 i;
        key =
            (bytes_eq-Decides first.dest.key second.dest.key).0 dest.1 i;
      };
      first_keeps = keep.0;
      second_keeps = keep.1;
      lossless = empty_of_len second.fates (eqb-true (map.len second.fates) 0 (not-false (map.len second.fates == 0) (not_so _ d)));
    }

-- Scripts and turns that were read may run at one destination.
pub turns_sound : (first second : Script) (bytes : List ℕ) (order : List TwinTurn) → turns_of first second bytes ≡ Ok order
    → AreTwins (record { first = first; second = second; order = order })
unfolding turns_of
turns_sound first second bytes order h =
    let a = parted (fit first second) (λ u. order_of (length first.events) (length second.events) bytes) order h in
    let fits = fit_sound first second a.value a.first in
    let orders = order_sound (length first.events) (length second.events) bytes order a.next in
    assumption (fits, orders)

-- If the turns fail, so does the whole.
pub turns_end : (first second : Script) (order : List ℕ) (e : TwinFault) → reading.Fails wanting e (turns_of first second order)
    → reading.Fails wanting e (paired first second order)
unfolding paired
turns_end first second order e h = unless_more (wanting e) (λ is. ap
    (λ r. r >>= λ turns. Ok (record { first = first; second = second; order = turns })) is) h

-- A fault of the first part. NoMemory is reported as that of the whole.
pub first_fails : (e : ScriptFault) (f : TwinFault) (read : Result Script ScriptFault) → f ≡ first_fault e
    → reading.Fails script_wanting e read
    → record { exact : reading.Fails wanting f (within fault.First read); told : is_told f ≡ true }
first_fails script_fault.NoMemory f read is h = rw is (record { exact = tt; told = refl })
first_fails e f read is h = rw is (record { exact = ap (within fault.First) h; told = refl })

-- A fault of the second part. NoMemory is reported as that of the whole.
pub second_fails : (e : ScriptFault) (f : TwinFault) (read : Result Script ScriptFault) → f ≡ second_fault e
    → reading.Fails script_wanting e read
    → record { exact : reading.Fails wanting f (within fault.Second read); told : is_told f ≡ true }
second_fails script_fault.NoMemory f read is h = rw is (record { exact = tt; told = refl })
second_fails e f read is h = rw is (record { exact = ap (within fault.Second) h; told = refl })
