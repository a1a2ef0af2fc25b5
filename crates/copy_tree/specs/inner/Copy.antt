-- Definitions beside those of `Copy` that no public contract cites.
use Rattle.bucket_ops.specs.Looks.{look_of}
use Rattle.bucket_ops.specs.Walking.{fits}
use Rattle.bucket_ops.specs.declared.look.Look.{Look}
use Rattle.bucket_ops.specs.declared.look.Look.TheVariants.{There}
use Rattle.copy_tree.specs.inner.Parts.{chosen}
use Rattle.copy_tree.specs.code.Copy.{Answer, CopyPaths, climb}
use Rattle.copy_tree.specs.declared.stages.CopyStage.{CopyStage}
use Rattle.copy_tree.specs.declared.stages.CopyStage.TheVariants.{Copy, Here, Source, Target, Up, Walk, WalkTarget}
use Rattle.copy_tree.specs.declared.stages.Parts.{Parts}
use Rattle.dir_markers.specs.Markers.{marker_of}
use Rattle.fs_ops.specs.Places.{prefix_of}
use Rattle.fs_ops.specs.code.Climbs.{climbed, climbing}
use Rattle.fs_ops.specs.code.Steps.{unless}
use Rattle.fs_ops.specs.declared.climb.Climbed.{Climbed}
use Rattle.fs_ops.specs.declared.climb.Climbed.TheVariants.{File, Free, On as Goes_on}
use Rattle.fs_rename.specs.Copies.{copied_next, has_more}
use Rattle.fs_rename.specs.Keys.{new_keys, place_of}
use Rattle.fs_rename.specs.declared.copying.CopyStep.{CopyStep}
use Rattle.fs_rename.specs.declared.copying.CopyStep.TheVariants.{All, Next as NextCopy}
use Rattle.fs_tree.specs.declared.copy.CopyCount.{CopyCount}
use Rattle.fs_tree.specs.declared.copy.CopyRefusal.TheVariants.{Differs, NoSuchBucket, Overlap, SourceIsFile, SourceMissing, TargetFile}
use Rattle.fs_tree.specs.declared.copy.CopyRefusal.TheVariants.{TooLong}
use Rattle.list_walk.specs.Walks.{More, Walked, Whole, keys_on, walked_entries}
use Rattle.operations.specs.declared.plan.Step.{Step}
use Rattle.operations.specs.declared.plan.Step.TheVariants.{End, Next}
use Rattle.s3_types.specs.Pages.{begins}
use Rattle.s3_types.specs.declared.reply.PageEntry.{PageEntry}
use Rattle.s3_types.specs.declared.reply.Reply.{Reply}
use Rattle.s3_types.specs.declared.reply.Reply.TheVariants.{Object as Found}
use Rattle.std.specs.Prelude.{Bool, Err, List, None, Ok, Option, Result, Some, cond, drop, false, length, nat_eq, nat_lt, true, ℕ, [], ◌&&◌}
use Rattle.std.specs.Prelude.{◌+◌, ◌||◌, ◌∷◌}
use Rattle.text_and_lists.specs.Order.{text_eq}

-- True if one path is the other or below it.
abbrev pub overlaps : CopyPaths → Bool
overlaps o = begins (prefix_of o.source) (prefix_of o.target) || begins (prefix_of o.target) (prefix_of o.source)

-- The number of keys that are copied, and of those whose new key existed.
abbrev pub count_of : Parts → CopyCount
count_of c = record { copied = length c.places; skipped = length c.stood_at }

-- The step that copies the absent keys, or ends if there are none.
abbrev pub copies : CopyCount → List (List ℕ) → List (List ℕ) → Step CopyStage Answer
copies count [] ls = End (Ok count)
copies count (k ∷ ks) ls = Next (Copy (record { keys = k ∷ ks; places = ls; from = 0 }) count)

-- The step after all existing new keys agree: the absent ones are copied.
abbrev pub begun : Parts → Step CopyStage Answer
begun c = copies (count_of c) c.keys c.places

-- The step after a copy: the next copy, or the answer.
abbrev pub on_copied : CopyCount → CopyStep → Step CopyStage Answer
on_copied count (NextCopy c) = Next (Copy c count)
on_copied count (All ks) = End (Ok count)

-- The step that compares the pairs of which both exist, before anything is copied.
abbrev pub pairs : Parts → List (List ℕ) → Step CopyStage Answer
pairs c [] = begun c
pairs c (k ∷ ks) = Next (Source c 0)

-- The keys whose new key exists, and those whose new key is absent.
abbrev pub parts_of : List (List ℕ) → List (List ℕ) → List PageEntry → Parts
parts_of ks ls es = record {
  stood = chosen true ks ls es;
  stood_at = chosen true ls ls es;
  keys = chosen false ks ls es;
  places = chosen
      false ls ls es;
}

-- The step after both sides were listed.
abbrev pub parted : Parts → Step CopyStage Answer
parted c = pairs c c.stood

-- The step after a key of the source was read: its new key is read next. If the key were gone, the source would be missing.
abbrev pub on_read : Parts → ℕ → Reply → Step CopyStage Answer
on_read c n (Found b h) = Next (Target c n b h)
on_read c n _ = End (Err SourceMissing)

-- True if two length headers are the same.
abbrev pub same_header : Option ℕ → Option ℕ → Bool
same_header None None = true
same_header (Some a) (Some b) = nat_eq a b
same_header _ _ = false

-- The refusal that names the first of these new keys, which differs from its source.
abbrev pub differ : List (List ℕ) → Step CopyStage Answer
differ [] = End (Err SourceMissing)
differ (l ∷ ls) = End (Err (Differs l))

-- The step after a pair agreed: the next pair, or the copies.
abbrev pub agreed : Parts → ℕ → Step CopyStage Answer
agreed c n = cond (nat_lt 1 (length (drop n c.stood))) (Next (Source c (n + 1))) (begun c)

-- The step after a pair was compared.
abbrev pub compared : Parts → ℕ → Bool → Step CopyStage Answer
compared c n true = agreed c n
compared c n false = differ (drop n c.stood_at)

-- The step after a new key was read: it is compared with its source.
abbrev pub on_compare : Parts → ℕ → List ℕ → Option ℕ → Reply → Step CopyStage Answer
on_compare c n b h (Found d g) = compared c n (text_eq b d && same_header h g)
on_compare c n b h _ = End (Err SourceMissing)

-- The step after a page of the target's keys.
abbrev pub on_shown : List (List ℕ) → List (List ℕ) → Walked PageEntry → Step CopyStage Answer
on_shown ks ls (More w) = Next (WalkTarget ks ls w)
on_shown ks ls (Whole es) = parted (parts_of ks ls es)

-- The step after a reply to the walk below the target. A reply that does not fit leaves it where it is.
abbrev pub on_show : List (List ℕ) → List (List ℕ) → List PageEntry → Reply → Bool → Step CopyStage Answer
on_show ks ls w r true = on_shown ks ls (walked_entries w r)
on_show ks ls w r false = Next (WalkTarget ks ls w)

-- The step that lists the target's keys, or refuses the first key that would be too long.
abbrev pub with_places : List (List ℕ) → Result (List (List ℕ)) (List ℕ) → Step CopyStage Answer
with_places ks (Ok ls) = Next (WalkTarget ks ls [])
with_places ks (Err k) = End (Err (TooLong k))

-- The step that makes the new keys of what was listed.
abbrev pub placed : CopyPaths → Option (List ℕ) → List (List ℕ) → Step CopyStage Answer
placed o None ks = End (Err SourceMissing)
placed o (Some t) ks = with_places ks (new_keys (prefix_of o.source) (marker_of t) ks)

-- The step of the climb: the paths above the target are looked at one by one.
abbrev pub on_climb : CopyPaths → List (List ℕ) → Climbed → Step CopyStage Answer
on_climb o ks (File a) = End (Err (TargetFile a))
on_climb o ks (Goes_on c) = Next (Up ks c)
on_climb o ks Free = placed o (place_of o.source o.target) ks

-- The step after the listing of the source. A source below which nothing is listed is missing.
abbrev pub listed : CopyPaths → List (List ℕ) → Step CopyStage Answer
listed o [] = End (Err SourceMissing)
listed o (k ∷ ks) = on_climb o (k ∷ ks) (climbing (climb o.target))

-- The step after a page of the source's keys.
abbrev pub on_walked : CopyPaths → Walked PageEntry → Step CopyStage Answer
on_walked o (More w) = Next (Walk w)
on_walked o (Whole es) = listed o (keys_on es)

-- The step after a reply to the walk below the source. A reply that does not fit leaves it where it is.
abbrev pub on_walk : CopyPaths → List PageEntry → Reply → Bool → Step CopyStage Answer
on_walk o w r true = on_walked o (walked_entries w r)
on_walk o w r false = Next (Walk w)

-- The step after the look at the source: a refusal, or the walk below it.
abbrev pub here : Bool → Look → Step CopyStage Answer
here true l = End (Err Overlap)
here false There = End (Err SourceIsFile)
here false _ = Next (Walk [])

-- The step after a reply, at each stage.
abbrev pub on : CopyPaths → CopyStage → Reply → Step CopyStage Answer
on o Here r = here (overlaps o) (look_of r)
on o (Walk w) r = on_walk o w r (fits r)
on o (Up ks c) r = on_climb o ks (climbed c (look_of r))
on o (WalkTarget ks ls w) r = on_show ks ls w r (fits r)
on o (Source c n) r = on_read c n r
on o (Target c n b h) r = on_compare c n b h r
on o (Copy c count) r = on_copied count (copied_next (has_more c) c)

-- The step after a reply. If there is no bucket, the copy ends with NoSuchBucket.
abbrev pub goes : CopyPaths → CopyStage → Reply → Step CopyStage Answer
goes o x r = unless (look_of r) (End (Err NoSuchBucket)) (on o x r)
