use Rattle.text_and_lists.proofs.Members.{some_is}
use Rattle.job_gen.proofs.counting.pick_bytes.Goals.{In-Some}
use Rattle.job_model.specs.Attempts.{Declared, Who, same_name}
use Rattle.job_model.specs.Files.{File}
use Rattle.job_model.specs.JobScript.{Script}
use Rattle.job_model.specs.Legal.{IsLegal, bytes_in, bytes_of}
use Rattle.job_model.specs.Placed.{placed}
use Rattle.job_protocol.specs.Outputs.{files}
use Rattle.s3_types.specs.declared.limits.TheConstants.{MOST_SCRIPT_BYTES}
use Rattle.std.proofs.Common.{Bool, List, Option, Some, ap, arith, cond, false, length, refl, subst, sym, true, ℕ, [], ◌+◌, ◌∙◌, ◌∷◌, ◌≡◌}
use Rattle.std.proofs.Common.{◌≤◌}
use Rattle.std.specs.Map.{lookup}
use Rattle.std.specs.Option.{option_map, unwrap_or}
use Rattle.job_gen.proofs.counting.pick_bytes.Goals as goal

-- ---- the bytes of the files that a script gives its attempts

-- Files have the same number of bytes at their paths below the destination.
as_long : (unique : Bool) (id : List ℕ) (fs : List File) → bytes_of (placed unique id fs) ≡ bytes_of fs
as_long unique id [] = refl
as_long unique id ((path, bytes) ∷ fs) = ap (λ n. length bytes + n) (as_long unique id fs)

bytes_found : (w : Script) (a : Who) (fs : List File) → lookup (same_name a) w.attempts ≡ Some fs → bytes_of (files w a) ≡ bytes_of fs
bytes_found w a fs h = ap (λ (o : Option (List File)). bytes_of (unwrap_or (option_map (placed w.unique w.job) o) [])) h ∙ as_long w.unique
    w.job fs

among : (p : Who → Bool) (all : List Declared) (fs : List File) → lookup p all ≡ Some fs → bytes_of fs ≤ bytes_in all
among p [] fs h = absurd cc
among p (d ∷ all) fs h = elim (p d.0) as (λ b. cond b (Some d.1) (lookup p all) ≡ Some fs → bytes_of fs ≤ bytes_of d.1 + bytes_in all) [
  | true ↦ λ e. let n : bytes_of d.1 ≡ bytes_of fs = ap bytes_of (some_is e) in omega (arith, n)
  | false ↦ λ e. let n = among p all fs e in omega (arith, n)
] h

-- No attempt has more bytes than a script may have.
few_bytes : (w : Script) (a : Who) (fs : List File) → IsLegal w → lookup (same_name a) w.attempts ≡ Some fs
    → bytes_of fs ≤ MOST_SCRIPT_BYTES
few_bytes w a fs legal h =
    let most = legal.few_bytes in
    let some = among (same_name a) w.attempts fs h in
    omega (arith, most, some)

found : (c : In-Some) → (let a : Who = record { task = c.args.pick.task; attempt = c.args.pick.attempt } in lookup (same_name a)
    c.args.script.now.attempts ≡ Some c.in-Some.files.now)
found c =
    let a : Who = record { task = c.args.pick.task; attempt = c.args.pick.attempt } in
    ap (lookup (same_name a)) (sym (c.held.ensures ∙ ap (λ (w : Script). w.attempts) c.script.view_is)) ∙ sym c.in-Some.ensures.value

few : (c : In-Some) → bytes_of c.in-Some.files.now ≤ MOST_SCRIPT_BYTES
few c =
    let a : Who = record { task = c.args.pick.task; attempt = c.args.pick.attempt } in
    few_bytes c.args.script.now a c.in-Some.files.now (subst IsLegal c.script.view_is c.script.invariant) (found c)

pub file_bytes-requires : goal.file_bytes-requires
file_bytes-requires c = few (goal.at.file_bytes-requires c).In-Some

pub returns-in-Some-clause-bytes : goal.returns-in-Some-clause-bytes
returns-in-Some-clause-bytes c =
    let a : Who = record { task = c.args.pick.task; attempt = c.args.pick.attempt } in
    c.file_bytes.ensures ∙ sym (bytes_found c.args.script.now a c.in-Some.files.now
    (found (goal.at.returns-in-Some-clause-bytes c).In-Some))

pub returns-in-Some-clause-most : goal.returns-in-Some-clause-most
returns-in-Some-clause-most c =
    let short = few (goal.at.returns-in-Some-clause-most c).In-Some in
    let is = c.file_bytes.ensures in
    omega (arith, short, is)
