-- A row whose last field is read after its others.
use Rattle.text_and_lists.specs.Reading.{Fails, ◌>>=◌}
use Rattle.log_format.specs.Fault.{wanting}
use Rattle.log_format.specs.Reading.{Read, alone, pair_at, row_of}
use Rattle.log_format.specs.inner.Reading.{paired}
use Rattle.log_format.specs.declared.fault.LogFault.{LogFault}
use Rattle.s3_types.specs.declared.request.Request.{Request}
use Rattle.std.proofs.Common.{List, Ok, Result, ap, subst, sym, ℕ, ◌∙◌, ◌≡◌}

module _ {A B : Type 0} (make : A × B → Request) (at : ℕ) (first : List ℕ → Read A) (second : List ℕ → Read B) (bytes : List ℕ) (a : A)
    (rest : List ℕ) where
  last_field : first bytes ≡ Ok (a, rest) → row_of make (pair_at first second) at bytes ≡ alone make at (paired a (second rest))
  unfolding row_of pair_at
  last_field is = ap (λ (r : Read A). alone make at (r >>= λ x. paired x.0 (second x.1))) is

  -- The request of the fields that were read.
  pub row : (request : Request) → first bytes ≡ Ok (a, rest) → alone make at (paired a (second rest)) ≡ Ok request
      → row_of make (pair_at first second) at bytes ≡ Ok request
  row request is read = last_field is ∙ read

  -- A fault in the last field or after it is the fault of the row.
  pub fault : (e : LogFault) → first bytes ≡ Ok (a, rest) → Fails wanting e (alone make at (paired a (second rest)))
      → Fails wanting e (row_of make (pair_at first second) at bytes)
  fault e is read = subst (λ (r : Result Request LogFault). Fails wanting e r) (sym (last_field is)) read
