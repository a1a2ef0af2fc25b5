-- The marker tool at a path, by its stages.
use Rattle.bucket_ops.specs.Asks.{Ask}
use Rattle.bucket_ops.specs.Looks.{look_of}
use Rattle.bucket_ops.specs.Walking.{IsWalking, all_below, fits, walk_asks, walk_left}
use Rattle.bucket_ops.specs.declared.look.Look.{Look}
use Rattle.bucket_ops.specs.declared.look.Look.TheVariants.{There}
use Rattle.fs_ops.specs.Places.{key_if, look_asks, prefix_of}
use Rattle.fs_tree.specs.Tree.{IsDirectory, NoFile}
use Rattle.fs_tree.specs.declared.answers.FsRefusal.{FsRefusal}
use Rattle.fs_tree.specs.declared.answers.FsRefusal.TheVariants.{NotDirectory, NotFound}
use Rattle.list_walk.specs.Walks.{More, Walked, Whole, walked_entries}
use Rattle.marker_tool.specs.declared.tool.ToolStage.{ToolStage}
use Rattle.marker_tool.specs.declared.tool.ToolStage.TheVariants.{Change, Here, Walk}
use Rattle.operations.specs.declared.plan.Step.{Step}
use Rattle.operations.specs.declared.plan.Step.TheVariants.{End, Next}
use Rattle.s3_types.specs.Store.{Objects}
use Rattle.s3_types.specs.declared.reply.PageEntry.{PageEntry}
use Rattle.s3_types.specs.declared.reply.Reply.{Reply}
use Rattle.std.specs.Prelude.{Bool, Err, List, None, Ok, Option, Result, Some, cond, drop, false, length, nat_lt, take, true, ℕ, [], ◌+◌}
use Rattle.std.specs.Prelude.{◌<◌, ◌∷◌, ◌≡◌}

-- True if the path does not exist: it is not the root and no key is below it.
abbrev pub is_absent : List ℕ → List PageEntry → Bool
is_absent [] es = false
is_absent (x ∷ p) [] = true
is_absent (x ∷ p) (e ∷ es) = false

module _ {A : Type 0} where
  -- It begins with a look at the path.
  abbrev pub first : List ℕ → ToolStage A
  first o = Here

  -- The request of each stage, where `changes` is the one that changes the first of the keys that are left.
  abbrev pub asks : (List (List ℕ) → Ask) → List ℕ → ToolStage A → Ask
  asks changes o Here = look_asks o
  asks changes o (Walk w) = walk_asks (prefix_of o) w
  asks changes o (Change ks n a) = changes (drop n ks)

  -- The step after the look at the path: a file is refused, and otherwise the keys below it are listed.
  abbrev pub on_key : Option (List ℕ) → Look → Step (ToolStage A) (Result A FsRefusal)
  on_key None l = Next (Walk [])
  on_key (Some k) There = End (Err (NotDirectory k))
  on_key (Some k) _ = Next (Walk [])

  -- The step that begins the changes, or the answer if there is nothing to change.
  abbrev pub begun : List (List ℕ) → A → Step (ToolStage A) (Result A FsRefusal)
  begun [] a = End (Ok a)
  begun (k ∷ ks) a = Next (Change (k ∷ ks) 0 a)

  -- The step after `batch` more keys were changed.
  abbrev pub on_change : ℕ → List (List ℕ) → ℕ → A → Step (ToolStage A) (Result A FsRefusal)
  on_change batch ks n a = cond (nat_lt batch (length (drop n ks))) (Next (Change ks (n + batch) a)) (End (Ok a))

  module _ (keys : List ℕ → List PageEntry → List (List ℕ)) (answer : List ℕ → List PageEntry → A) where
    -- The step after all keys were listed.
    abbrev pub whole : List ℕ → List PageEntry → Step (ToolStage A) (Result A FsRefusal)
    whole o es = cond (is_absent o es) (End (Err NotFound)) (begun (keys (prefix_of o) es) (answer (prefix_of o) es))

    -- The step after a page: another page, or all keys were listed.
    abbrev pub on_walked : List ℕ → Walked PageEntry → Step (ToolStage A) (Result A FsRefusal)
    on_walked o (More w) = Next (Walk w)
    on_walked o (Whole es) = whole o es

    -- The step after a reply to the walk. A reply that does not fit leaves it where it is.
    abbrev pub on_walk : List ℕ → List PageEntry → Reply → Bool → Step (ToolStage A) (Result A FsRefusal)
    on_walk o w r true = on_walked o (walked_entries w r)
    on_walk o w r false = Next (Walk w)

    -- The step after a reply, at each stage.
    abbrev pub on : ℕ → List ℕ → ToolStage A → Reply → Step (ToolStage A) (Result A FsRefusal)
    on batch o Here r = on_key (key_if o) (look_of r)
    on batch o (Walk w) r = on_walk o w r (fits r)
    on batch o (Change ks n a) r = on_change batch ks n a

    -- Holds if the first keys of those to change in a directory are changed, but not all.
    abbrev pub IsChanging : (Objects → List (List ℕ) → Objects) → List ℕ → Objects → List (List ℕ) → ℕ → A → Objects → Type 0
    IsChanging changed o z ks n a m =
        IsDirectory z o × (ks ≡ keys (prefix_of o) (all_below (prefix_of o) z)) × (a ≡ answer (prefix_of o) (all_below (prefix_of o) z))
        × (n < length ks) × (m ≡ changed z (take n ks))

    -- What holds at each stage of the tool that was begun with the objects z.
    abbrev pub holds : (Objects → List (List ℕ) → Objects) → List ℕ → Objects → ToolStage A → Objects → Type 0
    holds changed o z Here m = m ≡ z
    holds changed o z (Walk w) m = (m ≡ z) × NoFile z o × IsWalking (prefix_of o) z w
    holds changed o z (Change ks n a) m = IsChanging changed o z ks n a m

  -- The most requests that are still to come: a page for each thousand keys, and one for each key to change.
  abbrev pub left : (List ℕ → List PageEntry → List (List ℕ)) → List ℕ → ToolStage A → Objects → ℕ
  left keys o Here m = walk_left (prefix_of o) [] m + length (keys (prefix_of o) (all_below (prefix_of o) m)) + 1
  left keys o (Walk w) m = walk_left (prefix_of o) w m + length (keys (prefix_of o) (all_below (prefix_of o) m))
  left keys o (Change ks n a) m = length (drop n ks)
