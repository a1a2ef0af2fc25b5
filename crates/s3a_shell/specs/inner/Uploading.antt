-- Definitions beside those of `Uploading` that no public contract cites.
use Rattle.s3_types.specs.Answer.{answer, apply}
use Rattle.s3_types.specs.Multipart.{sizes}
use Rattle.s3_types.specs.Store.{Scene}
use Rattle.s3_types.specs.declared.reply.PartSize.{PartSize}
use Rattle.s3_types.specs.declared.reply.Reply.{Reply}
use Rattle.s3_types.specs.declared.reply.Reply.TheVariants.{Parts}
use Rattle.s3_types.specs.declared.request.Request.TheVariants.{ListParts}
use Rattle.s3_types.specs.declared.request.UploadRef.{UploadRef}
use Rattle.s3a_shell.specs.Uploading.{aborts, upload_line}
use Rattle.std.specs.List.{flat_map}
use Rattle.std.specs.Prelude.{List, take, ℕ, [], ◌∷◌, ◌≡◌}

-- The part sizes in a reply.
abbrev pub sizes_in : Reply → List PartSize
sizes_in (Parts sizes) = sizes
sizes_in _ = []

-- The line of an upload, with the parts that the store reports.
abbrev pub asked_line : Scene → List ℕ → UploadRef → List ℕ
asked_line z b r = upload_line r (sizes_in (answer z (ListParts b r.key r.upload)))

-- The lines of these uploads.
abbrev pub asked_lines : Scene → List ℕ → List UploadRef → List ℕ
asked_lines z b rs = flat_map (asked_line z b) rs

-- The scene after these uploads were aborted one by one.
abbrev pub after_aborts : Scene → List ℕ → List UploadRef → Scene
after_aborts s b [] = s
after_aborts s b (r ∷ rs) = after_aborts (apply s (aborts b r)) b rs

-- Holds if the first few of them were aborted.
abbrev pub AfterSome : List ℕ → List UploadRef → Scene → Scene → Type 0
AfterSome b rs z s = (n : ℕ) × (s ≡ after_aborts z b (take n rs))
