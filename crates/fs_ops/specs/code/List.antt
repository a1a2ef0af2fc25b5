-- The listing of a directory, by its stages.
use Rattle.text_and_lists.specs.Order.{text_eq}
use Rattle.text_and_lists.specs.Parts.{parts_of}
use Rattle.bucket_ops.specs.Asks.{Ask, Page}
use Rattle.dir_markers.specs.declared.status.Status.{Status}
use Rattle.dir_markers.specs.declared.status.Status.TheVariants.{Directory, File}
use Rattle.fs_ops.specs.Places.{look_asks, prefix_of}
use Rattle.fs_ops.specs.code.Delete.{entries_in}
use Rattle.fs_ops.specs.code.Stat.{length_in}
use Rattle.fs_ops.specs.declared.list.ListStage.{ListStage}
use Rattle.fs_ops.specs.declared.list.ListStage.TheVariants.{Here, Pages}
use Rattle.fs_tree.specs.Changes.{own_name}
use Rattle.fs_tree.specs.Tree.{HasDir, NoFile}
use Rattle.fs_tree.specs.declared.answers.DirEntry.{DirEntry}
use Rattle.fs_tree.specs.declared.answers.FsRefusal.{FsRefusal}
use Rattle.fs_tree.specs.declared.answers.FsRefusal.TheVariants.{NotFound}
use Rattle.operations.specs.declared.plan.Step.{Step}
use Rattle.operations.specs.declared.plan.Step.TheVariants.{End, Next}
use Rattle.s3_types.specs.Pages.{begins, listed, text_in}
use Rattle.s3_types.specs.Store.{Objects}
use Rattle.s3_types.specs.declared.reply.PageEntry.{PageEntry}
use Rattle.s3_types.specs.declared.reply.PageEntry.TheVariants.{Object as Single, Prefix}
use Rattle.s3_types.specs.declared.reply.Reply.{Reply}
use Rattle.s3_types.specs.declared.reply.Reply.TheVariants.{Page as APage}
use Rattle.std.specs.List.{list_any, starts_with}
use Rattle.std.specs.Prelude.{Bool, Err, List, None, Ok, Option, Result, Some, drop, false, if◌then◌else◌, length, nat_eq, reverse}
use Rattle.std.specs.Prelude.{take_while, true, ℕ, [], ◌&&◌, ◌++◌, ◌+◌, ◌∷◌, ◌≡◌, ◌⊎◌}

-- The answer of a listing.
abbrev pub ListAnswer : Type 0
ListAnswer = Result (List DirEntry) FsRefusal

-- ---- the children that an entry shows

-- The rest of a text after a prefix, if it begins with the prefix.
abbrev pub rest_of : List ℕ → List ℕ → Option (List ℕ)
rest_of q t = if starts_with nat_eq t q then Some (drop (length q) t) else None

-- True for the status of a file.
abbrev pub is_file : Status → Bool
is_file Directory = false
is_file (File n) = true

-- True if the entry is a file of this name.
abbrev pub is_file_named : List ℕ → DirEntry → Bool
is_file_named n e = is_file e.status && text_eq e.name n

-- True if a file of this name was found. It is looked for among the last entries, as far as their names begin with this name.
abbrev pub has_file : List DirEntry → List ℕ → Bool
has_file found n = list_any (is_file_named n) (take_while (λ e. begins n e.name) (reverse found))

-- The entry of a file. The key that equals the prefix is the directory's own marker, and gives none.
abbrev pub file_by : Option (List ℕ) → ℕ → Option DirEntry
file_by (Some (x ∷ r)) n = Some (record { name = x ∷ r; status = File n })
file_by _ n = None

-- The first part of a text that was split.
abbrev pub first_of : List (List ℕ) → List ℕ
first_of [] = []
first_of (p ∷ ps) = p

-- The entry of a directory, unless there is a file of its name.
abbrev pub dir_named : Bool → List ℕ → Option DirEntry
dir_named true n = None
dir_named false n = Some (record { name = n; status = Directory })

-- The entry of the directory that a prefix shows, unless there is a file of its name.
abbrev pub dir_by : List DirEntry → Option (List ℕ) → Option DirEntry
dir_by found None = None
dir_by found (Some r) = dir_named (has_file found (first_of (parts_of 47 r))) (first_of (parts_of 47 r))

-- The child that an entry of a page shows, if it shows one.
abbrev pub shown : List ℕ → List DirEntry → PageEntry → Option DirEntry
shown q found (Single k n) = file_by (rest_of q k) n
shown q found (Prefix t) = dir_by found (rest_of q t)

-- The entries with one more, if there is one.
abbrev pub added : List DirEntry → Option DirEntry → List DirEntry
added found None = found
added found (Some e) = found ++ e ∷ []

-- The entries that were found, followed by the children that these entries of a page show.
abbrev pub all_added : List ℕ → List DirEntry → List PageEntry → List DirEntry
all_added q found [] = found
all_added q found (e ∷ es) = all_added q (added found (shown q found e)) es

-- The text of the last entry, or the mark before it if there is none.
abbrev pub last_text : List ℕ → List PageEntry → List ℕ
last_text mark [] = mark
last_text mark (e ∷ es) = last_text (text_in e) es

-- ---- the stages

-- The first stage: the root is listed at once.
abbrev pub first : List ℕ → ListStage
first [] = Pages [] []
first (x ∷ p) = Here

-- The request of each stage.
abbrev pub asks : List ℕ → ListStage → Ask
asks o Here = look_asks o
asks o (Pages found mark) = Page (prefix_of o) true mark 1000

-- The step after the look for a file: a file is listed by itself, and otherwise what is below the path.
abbrev pub told : List ℕ → Option ℕ → Step ListStage ListAnswer
told p (Some n) = End (Ok (record { name = own_name p; status = File n } ∷ []))
told p None = Next (Pages [] [])

-- True if the reply says that more pages follow.
abbrev pub more_in : Reply → Bool
more_in (APage es more) = more
more_in _ = false

-- The answer after the last page. If nothing was listed, there is no directory, unless the path is the root.
abbrev pub whole : List ℕ → List DirEntry → List ℕ → Step ListStage ListAnswer
whole [] found mark = End (Ok found)
whole (x ∷ p) found [] = End (Err NotFound)
whole (x ∷ p) found (y ∷ mark) = End (Ok found)

-- The step after a page: the next page, or the answer after the last one.
abbrev pub paged : List ℕ → Bool → List DirEntry → List ℕ → Step ListStage ListAnswer
paged o true found mark = Next (Pages found mark)
paged o false found mark = whole o found mark

-- The step after a reply, at each stage.
abbrev pub on : List ℕ → ListStage → Reply → Step ListStage ListAnswer
on o Here r = told o (length_in r)
on o (Pages found mark) r = paged o (more_in r) (all_added (prefix_of o) found (entries_in r)) (last_text mark (entries_in r))

-- ---- what holds

-- The children that the whole listing of a directory shows.
abbrev pub children : List ℕ → Objects → List DirEntry
children q z = all_added q [] (listed q true [] z)

-- What holds at each stage. From the first page on, no file exists at the path, the children found and those still to list are all
-- children, and a mark is set only if something exists below the path.
abbrev pub holds : List ℕ → Objects → ListStage → Objects → Type 0
holds o z Here m = m ≡ z
holds o z (Pages found mark) m = (m ≡ z) × NoFile z o × ((mark ≡ []) ⊎ HasDir z o)
    × (all_added (prefix_of o) found (listed (prefix_of o) true mark z) ≡ children (prefix_of o) z)

-- A bound on the number of requests that are still to come.
abbrev pub left : List ℕ → ListStage → Objects → ℕ
left o Here m = 1 + length (listed (prefix_of o) true [] m)
left o (Pages found mark) m = length (listed (prefix_of o) true mark m)
