-- What each command left, from what it did.
use Rattle.dir_markers.specs.declared.marker.MarkerPolicy.TheVariants.{Delete, Keep}
use Rattle.s3_types.specs.Store.{Scene}
use Rattle.s3a_shell.proofs.Staying.{Leaves, abort, done, done_between, make, put, same}
use Rattle.s3a_shell.specs.Doings.{Does, most_input}
use Rattle.s3a_shell.specs.Stays.{bucket_in, ended_by}
use Rattle.s3a_shell.specs.declared.said.Said.{Said}
use Rattle.s3a_words.specs.declared.command.Command.{Command}
use Rattle.s3a_words.specs.declared.command.Command.TheVariants.{AbortUploads, Cat, CleanMarkers, Cp, FillMarkers, Ls, Markers, Mb, Mkdir}
use Rattle.s3a_words.specs.declared.command.Command.TheVariants.{Mv, Put, PutDrop, PutForce, Rm, Rmr, Stat, Uploads}
use Rattle.std.proofs.Common.{arith, refl}
use Rattle.std.specs.Prelude.{List, false, length, nat_lt, true, ℕ}

module _ (bytes : List ℕ) (z : Scene) (what : Said) (s : Scene) where
  pub left_by : (command : Command) → Does command bytes z what s → Leaves (bucket_in command) (ended_by command z.content) z what s
  left_by (Mb name) h = make name z what s h
  left_by (Ls p) h = done h (λ m n r g. grind arith)
  left_by (Stat p) h = done h (λ m n r g. grind arith)
  left_by (Cat p) h = done h (λ m n r g. grind arith)
  left_by (Put p) h = put p bytes false Keep z what s (nat_lt most_input (length bytes)) h
  left_by (PutForce p) h = put p bytes true Keep z what s (nat_lt most_input (length bytes)) h
  left_by (PutDrop p) h = put p bytes false Delete z what s (nat_lt most_input (length bytes)) h
  left_by (Mkdir p) h = done h (λ m n r g. grind arith)
  left_by (Mv from to) h = done_between h (λ m n r g. grind arith) (λ x. refl)
  left_by (Cp from to) h = done_between h (λ m n r g. grind arith) (λ x. refl)
  left_by (Rm p) h = done h (λ m n r g. grind arith)
  left_by (Rmr p) h = done h (λ m n r g. grind arith)
  left_by (Uploads p) h = same h.1
  left_by (AbortUploads p) h = abort p z what s h
  left_by (Markers p) h = done h (λ m n r g. grind arith)
  left_by (CleanMarkers p) h = done h (λ m n r g. grind arith)
  left_by (FillMarkers p) h = done h (λ m n r g. grind arith)
  left_by _ h = absurd h
