-- What a sweep of the job's magic directory has still to delete, while only the driver changes that directory; and the set-up, which begins
-- with such a sweep.
use Rattle.text_and_lists.specs.Members.{IsIn}
use Rattle.text_and_lists.specs.Order.{text_cmp}
use Rattle.job_invariant.specs.Driver.{FitsSweep}
use Rattle.job_invariant.specs.Stores.{at_key}
use Rattle.job_model.specs.JobScript.{Script}
use Rattle.job_protocol.specs.Seen.{is_magic}
use Rattle.job_protocol.specs.Setup.{Heading, Setup, SetupOver, Sweeping}
use Rattle.list_walk.specs.Walks.{Deleting, Listing, Sweep, all_go, last_of}
use Rattle.magic_paths.specs.Layout.{magic_prefix}
use Rattle.s3_types.specs.Pages.{begins}
use Rattle.s3_types.specs.Store.{Content}
use Rattle.s3_types.specs.declared.object.Object.{Object}
use Rattle.std.specs.Ordering.{is_lt}
use Rattle.std.specs.Prelude.{Bool, List, Some, true, ℕ, [], ◌∷◌, ◌≡◌, ◌⊎◌}
use Rattle.store_frame.specs.Held.{HasBucket}
use Rattle.job_model.specs.declared.ends.SetupEnd.TheVariants as ends

-- Each object below this prefix that is to go has one of these keys.
abbrev pub OnlyThose : Script → List ℕ → (List ℕ → Bool) → Content → List (List ℕ) → Type 0
OnlyThose w p goes c keys = (k : List ℕ) (x : Object) → begins p k ≡ true → goes k ≡ true → at_key w c k ≡ Some x → IsIn k keys

-- Each object below this prefix that is to go has one of these keys, or a later key than the last of them.
abbrev pub ThoseOrBehind : Script → List ℕ → (List ℕ → Bool) → Content → List (List ℕ) → Type 0
ThoseOrBehind w p goes c keys = (k : List ℕ) (x : Object) → begins p k ≡ true → goes k ≡ true → at_key w c k ≡ Some x → IsIn k keys
    ⊎ (is_lt (text_cmp (last_of keys) k) ≡ true)

-- Each object below this prefix that is to go is already listed or yet to be listed by the sweep.
abbrev pub EmptiesBy : Script → List ℕ → (List ℕ → Bool) → Content → Sweep → Type 0
EmptiesBy w p goes c (Listing keys) = ThoseOrBehind w p goes c keys
EmptiesBy w p goes c (Deleting q qs) = OnlyThose w p goes c (q ∷ qs)

-- Each object below the job's magic directory has one of these keys.
abbrev pub OnlyThese : Script → Content → List (List ℕ) → Type 0
OnlyThese w c keys = OnlyThose w (magic_prefix w.dest.key w.job) all_go c keys

-- Each object below the job's magic directory is already listed or yet to be listed by the sweep.
abbrev pub Empties : Script → Content → Sweep → Type 0
Empties w c t = EmptiesBy w (magic_prefix w.dest.key w.job) all_go c t

-- The state of a set-up fits: after its first request the bucket is there, and a sweep of the magic committer empties the job's directory.
-- If the set-up ended Done, that directory is empty.
abbrev pub SetsUp : Script → Content → Setup → Type 0
SetsUp w c Heading = Unit {0}
SetsUp w c (Sweeping t) = HasBucket c w.dest.bucket × FitsSweep w t × Empties w c t
SetsUp w c (SetupOver end) = end ≡ ends.Done → HasBucket c w.dest.bucket × (is_magic w.committer ≡ true → OnlyThese w c [])
SetsUp w c _ = HasBucket c w.dest.bucket
