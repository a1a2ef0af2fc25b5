-- Definitions beside those of `Committing` that no public contract cites.
use Rattle.job_model.specs.Files.{File}
use Rattle.job_model.specs.Jobs.{Task}
use Rattle.job_model.specs.Known.{Known}
use Rattle.job_protocol.specs.AtWork.{task_script, who_of, with_known}
use Rattle.job_protocol.specs.TaskCommits.{Publishing, TaskCommit, in_order, least_of}
use Rattle.s3_types.specs.declared.reply.Refusal.TheVariants.{NoSuchKey}
use Rattle.s3_types.specs.declared.reply.Reply.{Reply}
use Rattle.s3_types.specs.declared.reply.Reply.TheVariants.{Refused}
use Rattle.std.specs.List.{list_any}
use Rattle.std.specs.Prelude.{Bool, List, None, Option, Some, codes, false, length, map, nat_eq, slice_get, slice_set, true, ℕ, [], ◌++◌}
use Rattle.std.specs.Prelude.{◌∷◌, ◌≡◌}
use Rattle.task_magic.specs.Committing.{AreRecords, record_of}
use Rattle.task_magic.specs.declared.listing.Listed.{Listed}
use Rattle.task_requests.specs.Publishing.{are_places, picked}
use Rattle.text_and_lists.specs.Order.{text_eq}

-- True if the reply is NoSuchKey.
abbrev pub is_no_key : Reply → Bool
is_no_key (Refused NoSuchKey) = true
is_no_key _ = false

-- True if the commit's current request publishes.
abbrev pub publishes : TaskCommit → Bool
publishes (Publishing cs) = true
publishes _ = false

-- What is known after a request was sent, which publishes or not.
abbrev pub known_if : Bool → Known → Known
known_if true k = record { drawn = k.drawn; put_sent = k.put_sent; publish_sent = true }
known_if false k = k

-- The plan after a request was sent, which publishes or not.
abbrev pub with_sent : Task → Bool → Task
with_sent t b = with_known t (known_if b t.known)

-- The key is that of the record of this path.
abbrev pub IsRecordAt : List ℕ → List ℕ → List ℕ → Type 0
IsRecordAt prefix key path = key ≡ prefix ++ (path ++ codes ".pending")

-- True if the place is `j`.
abbrev pub is_at : Option ℕ → ℕ → Bool
is_at None j = false
is_at (Some i) j = nat_eq i j

-- The place as a list, empty if there is none.
abbrev pub places_in : Option ℕ → List ℕ
places_in None = []
places_in (Some i) = i ∷ []

-- The key as a list, empty if there is no place.
abbrev pub records_in : Option ℕ → List ℕ → List (List ℕ)
records_in None key = []
records_in (Some i) key = key ∷ []

-- The flags with the one at this place set, if there is a place.
abbrev pub set_at : List Bool → Option ℕ → List Bool
set_at seen None = seen
set_at seen (Some i) = slice_set seen i true

-- The key is that of the record of the file at this place and of no other file; without a place, of no file at all.
abbrev pub IsPlaceOf : Task → List ℕ → Option ℕ → Type 0
IsPlaceOf t key place = (j : ℕ) (f : File) → slice_get t.files j ≡ Some f → text_eq (record_of t f) key ≡ is_at place j

-- For each file, whether the key of its record is among the keys.
abbrev pub seen_in : Task → List (List ℕ) → List Bool
seen_in t keys = map (λ f. list_any (text_eq (record_of t f)) keys) t.files

-- The least of the keys that are not seen.
abbrev pub least_unseen : List Bool → List (List ℕ) → Option (List ℕ)
least_unseen (false ∷ seen) (k ∷ ks) = Some (least_of (least_unseen seen ks) k)
least_unseen (true ∷ seen) (k ∷ ks) = least_unseen seen ks
least_unseen _ _ = None

-- The places of the files whose records are among the keys, in the order of the keys, the keys of these records, and for each file whether
-- its record is among them.
pub record IsListed (t : Task) (keys : List (List ℕ)) (x : Listed) : Type 0 where
  pub places : are_places (length t.files) x.places ≡ true
  pub records : AreRecords t x.records x.places
  pub files : picked t.files x.places ≡ in_order (task_script t) (who_of t) keys
  pub seen : x.seen.items ≡ seen_in t keys
