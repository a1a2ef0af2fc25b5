-- A file to make, as it is asked for.
use Rattle.dir_markers.specs.declared.marker.MarkerPolicy.{MarkerPolicy}
use Rattle.dir_markers.specs.declared.marker.MarkerPolicy.TheVariants.{Delete, Keep}
use Rattle.path_keys.specs.Paths.{Path, is_key}
use Rattle.s3_types.specs.Coded.{coded_text}
use Rattle.s3_types.specs.declared.limits.TheConstants.{MOST_PARTS}
use Rattle.std.proofs.Common.{refl}
use Rattle.std.specs.Coded.{Coded, code_by, coded_bool, coded_ℕ, coded×}
use Rattle.std.specs.Prelude.{Bool, List, false, length, true, ℕ, ◌*◌, ◌≡◌, ◌≤◌}

-- A file to make: its path, its bytes, the length in bytes of its parts but the last, whether an existing file may be replaced, and what is
-- done with the markers above it.
pub record Creation : Type 0 where
  pub path : Path
  pub bytes : List ℕ
  pub block : ℕ
  pub overwrite : Bool
  pub policy : MarkerPolicy

-- True if the policy deletes markers.
abbrev pub deletes : MarkerPolicy → Bool
deletes Keep = false
deletes Delete = true

-- The policy for a bit.
abbrev pub policy_of : Bool → MarkerPolicy
policy_of false = Keep
policy_of true = Delete

-- The bit of a policy gives the policy back.
abbrev pub policy_and_back : (p : MarkerPolicy) → policy_of (deletes p) ≡ p
policy_and_back Keep = refl
policy_and_back Delete = refl

-- The coding of a file to make as a tuple.
abbrev pub coded_creation : Coded Creation
coded_creation =
    code_by (List ℕ × (List ℕ × (List ℕ × (ℕ × (Bool × MarkerPolicy))))) (coded× coded_text
    (coded× coded_text (coded× coded_text (coded× coded_ℕ (coded× coded_bool
    (code_by Bool coded_bool deletes policy_of policy_and_back))))))
    (λ o. (o.path.bucket, (o.path.key, (o.bytes, (o.block, (o.overwrite, o.policy))))))
    (λ t. record {
      path = record { bucket = t.0; key = t.1.0 };
      bytes = t.1.1.0;
      block = t.1.1.1.0;
      overwrite = t.1.1.1.1.0;
      policy =
          t.1.1.1.1.1;
    }) (λ _. refl)

-- A file to make, from its parts.
abbrev pub created_of : List ℕ → List ℕ → List ℕ → ℕ → Bool → MarkerPolicy → Creation
created_of bucket key bytes block overwrite policy = record {
  path = record { bucket = bucket; key = key };
  bytes = bytes;
  block = block;
  overwrite = overwrite;
  policy = policy;
}

-- The conditions under which a file can be made: a valid key, a block of at least one byte, and few enough parts.
pub record IsCreation (o : Creation) : Type 0 where
  pub key : is_key o.path.key ≡ true
  pub block : 1 ≤ o.block
  pub room : length o.bytes ≤ o.block * MOST_PARTS
