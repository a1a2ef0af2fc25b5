-- The committers by word and by number.
use Rattle.s3_types.specs.declared.request.Committer.{Committer}
use Rattle.s3_types.specs.declared.request.Committer.TheVariants.{Directory, Magic, Partitioned}
use Rattle.std.specs.Coded.{Coded, code_by, coded_ℕ}
use Rattle.std.specs.Prelude.{List, None, Option, Some, bytes_eq, codes, if◌then◌else◌, refl, suc, zero, ℕ, [], ◌∷◌, ◌≡◌}

-- All committers.
abbrev pub committers : List Committer
committers = Magic ∷ Directory ∷ Partitioned ∷ []

-- The name of a committer, as scripts and `_SUCCESS` spell it.
abbrev pub committer_word : Committer → List ℕ
committer_word Magic = codes "magic"
committer_word Directory = codes "directory"
committer_word Partitioned = codes "partitioned"

-- The first of these committers with this name, or none.
abbrev pub committer_among : List Committer → List ℕ → Option Committer
committer_among [] word = None
committer_among (c ∷ cs) word = if bytes_eq word (committer_word c) then Some c else committer_among cs word

-- The committer with this name, or none.
abbrev pub committer_of : List ℕ → Option Committer
committer_of word = committer_among committers word

-- The number of a committer.
abbrev pub committer_number : Committer → ℕ
committer_number Magic = 0
committer_number Directory = 1
committer_number Partitioned = 2

-- The committer with this number.
abbrev pub numbered_committer : ℕ → Committer
numbered_committer zero = Magic
numbered_committer (suc zero) = Directory
numbered_committer (suc (suc n)) = Partitioned

-- The committer with the number of `c` is `c`.
abbrev pub committer_again : (c : Committer) → numbered_committer (committer_number c) ≡ c
committer_again Magic = refl
committer_again _ = refl

-- The code of a committer.
abbrev pub coded_committer : Coded Committer
coded_committer = code_by ℕ coded_ℕ committer_number numbered_committer committer_again
