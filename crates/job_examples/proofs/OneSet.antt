-- Sets are read as they were put.
use Rattle.text_and_lists.proofs.Naturals.{below_is}
use Rattle.text_and_lists.specs.Parts.{parts_from}
use Rattle.job_examples.specs.Modes.{staged_set, staged_text}
use Rattle.job_examples.specs.OneFile.{the_set}
use Rattle.json.specs.Print.{escape_byte}
use Rattle.pending_json.proofs.RoundTrip.{pending_text, set_text}
use Rattle.pending_json.specs.Pending.{Pending, are_sizes, are_tags}
use Rattle.pending_json.specs.Reading.{pending_of, set_of as read}
use Rattle.pending_json.specs.Records.{IsPending}
use Rattle.pending_json.specs.Trees.{pending_tree, set_tree}
use Rattle.pending_json.specs.declared.records.PendingSet.{PendingSet}
use Rattle.s3_types.specs.Names.{is_bucket, is_key_path}
use Rattle.serde_json.specs.Written.{compact_text}
use Rattle.std.proofs.Common.{Bool, List, Ok, arith, nat_lt, refl, true, ℕ, [], ◌&&◌, ◌^◌, ◌∷◌, ◌≡◌}
use Rattle.std.proofs.lemmas.Bool.{and_parts}
use Rattle.std.proofs.lemmas.Str.{IsUtf8-from_ascii, is_utf8-from_IsUtf8}
use Rattle.std.proofs.lemmas.Str.Ascii.{IsAscii-cons, IsAscii-nil}
use Rattle.std.specs.Fmt.{digits}
use Rattle.std.specs.List.{AllByRecursion, list_all}
use Rattle.std.specs.Str.{IsAscii, is_utf8}

abbrev pub is_small : List ℕ → Bool
is_small bs = list_all (λ b. nat_lt b 128) bs

all_small : (bs : List ℕ) → is_small bs ≡ true → IsAscii bs
all_small [] h = IsAscii-nil
all_small (b ∷ bs) h = let p = and_parts (nat_lt b 128) _ h in IsAscii-cons b bs (below_is b 128 p.0) (all_small bs p.1)

small_utf8 : (bs : List ℕ) → is_small bs ≡ true → is_utf8 bs ≡ true
small_utf8 bs h = is_utf8-from_IsUtf8 bs (IsUtf8-from_ascii bs (all_small bs h))

-- True if the record keeps its bounds, and its texts are ASCII.
abbrev pub is_fit : Pending → Bool
is_fit p =
    (nat_lt p.task (2 ^ 32) && nat_lt p.attempt (2 ^ 32)) && ((nat_lt p.upload (2 ^ 64) && nat_lt p.length (2 ^ 64))
    && ((is_small p.destination && is_key_path p.destination) && (is_bucket p.bucket &&
    (are_tags p.tags && are_sizes p.sizes p.tags p.length))))

fits : (p : Pending) → is_fit p ≡ true → IsPending p
fits p h = grind (arith, and_parts, below_is, small_utf8)

all_fit : (ps : List Pending) → list_all is_fit ps ≡ true → AllByRecursion IsPending ps
all_fit [] h = tt
all_fit (p ∷ ps) h = let a = and_parts (is_fit p) _ h in (fits p a.0, all_fit ps a.1)

-- Reading a record that was put gives the record.
pub record_by : (p : Pending) → is_fit p ≡ true → pending_of (compact_text (pending_tree p)) ≡ Ok p
record_by p h = pending_text p (fits p h)

abbrev pub is_fit_set : PendingSet → Bool
is_fit_set s = is_small s.job && ((nat_lt s.task (2 ^ 32) && nat_lt s.attempt (2 ^ 32)) && list_all is_fit s.commits)

pub set_by : (s : PendingSet) → is_fit_set s ≡ true → read (compact_text (set_tree s)) ≡ Ok s
set_by s h = grind (arith, and_parts, set_text, small_utf8, below_is, all_fit)

pub set_is_read : read (compact_text (set_tree the_set)) ≡ Ok the_set
unfolding parts_from
set_is_read = set_by the_set refl

-- The set of a staging attempt, whose record has version 1.
pub staged_is_read : read staged_text ≡ Ok staged_set
unfolding digits escape_byte parts_from
staged_is_read = set_by staged_set refl
