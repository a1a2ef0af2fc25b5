-- The work below a directory after all keys there were listed.
use Rattle.text_and_lists.specs.Members.{IsIn}
use Rattle.bucket_ops.specs.Asks.{Ask, edited, is_look}
use Rattle.bucket_ops.specs.Walking.{all_below}
use Rattle.fs_ops.specs.Places.{prefix_of}
use Rattle.fs_tree.specs.MarkerTool.{IsNoDirectory}
use Rattle.fs_tree.specs.Tree.{IsDirectory}
use Rattle.fs_tree.specs.declared.answers.FsRefusal.{FsRefusal}
use Rattle.s3_types.specs.Store.{Objects}
use Rattle.s3_types.specs.declared.reply.PageEntry.{PageEntry}
use Rattle.std.specs.Prelude.{Err, List, Ok, Result, take, true, ℕ, [], ◌++◌, ◌<◌, ◌∷◌, ◌≡◌}

-- What a work must fulfil that changes these keys, at most `batch` with a request, and then gives this answer.
pub record IsWork {A : Type 0} (keys : List ℕ → List PageEntry → List (List ℕ)) (answer : List ℕ → List PageEntry → A) (batch : ℕ)
    (changes : List (List ℕ) → Ask) (changed : Objects → List (List ℕ) → Objects)
    (gives : List ℕ → Objects → Result A FsRefusal → Objects → Type 0) (always : List ℕ → Objects → Objects → Type 0)
    (sends : List ℕ → Objects → Ask → Type 0) : Type 0 where
  pub some : 0 < batch
  -- keys are changed one after the other
  pub nothing : (z : Objects) → changed z [] ≡ z
  pub more : (z : Objects) (ks qs : List (List ℕ)) → changed z (ks ++ qs) ≡ changed (changed z ks) qs
  pub request : (m : Objects) (k : List ℕ) (ks : List (List ℕ)) → edited (changes (k ∷ ks)) m ≡ changed m (take batch (k ∷ ks))
  -- it begins with looks, and a refusal changes nothing
  pub still : (p : List ℕ) (z : Objects) → always p z z
  pub looks : (p : List ℕ) (z : Objects) (a : Ask) → is_look a ≡ true → sends p z a
  pub refused : (p : List ℕ) (z : Objects) (r : FsRefusal) → IsNoDirectory p z r → gives p z (Err r) z
  -- in a directory: while some of the keys are changed, and after all are
  pub during : (p : List ℕ) (z : Objects) (ks : List (List ℕ)) → IsDirectory z p
      → ((k : List ℕ) → IsIn k ks → IsIn k (keys (prefix_of p) (all_below (prefix_of p) z))) → always p z (changed z ks)
  pub sent : (p : List ℕ) (z : Objects) (k : List ℕ) (ks : List (List ℕ)) → IsDirectory z p
      → ((j : List ℕ) → IsIn j (k ∷ ks) → IsIn j (keys (prefix_of p) (all_below (prefix_of p) z))) → sends p z (changes (k ∷ ks))
  pub given : (p : List ℕ) (z : Objects) → IsDirectory z p
      → gives p z (Ok (answer (prefix_of p) (all_below (prefix_of p) z))) (changed z (keys (prefix_of p) (all_below (prefix_of p) z)))
  pub at_end : (p : List ℕ) (z : Objects) (a : Result A FsRefusal) (m : Objects) → gives p z a m → always p z m
