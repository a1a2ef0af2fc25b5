-- What a journal shows of a job, over a store as lists.
use Rattle.job_examples.proofs.Books.{Book, content_of, is_ours, scene_of}
use Rattle.job_examples.proofs.Checks.{are_ours, effect_is, effect_on, without_files}
use Rattle.job_examples.proofs.MapLists.{map_of}
use Rattle.job_examples.specs.OneFile.{opening}
use Rattle.job_model.specs.JobScript.{Script}
use Rattle.job_protocol.specs.Outputs.{Picks}
use Rattle.job_protocol.specs.Seen.{Seen, Times, nothing_seen, see, see_all, see_by}
use Rattle.s3_types.specs.Moment.{effect}
use Rattle.s3_types.specs.Store.{Content}
use Rattle.s3_types.specs.declared.journal.Entry.{Entry}
use Rattle.s3_types.specs.declared.journal.Outcome.{Outcome}
use Rattle.s3_types.specs.declared.object.Object.{Object}
use Rattle.s3_types.specs.declared.request.Actor.{Actor}
use Rattle.s3_types.specs.declared.request.Request.{Request}
use Rattle.std.proofs.Common.{Bool, List, None, Option, ap, arith, false, refl, true, ℕ, [], ◌∙◌, ◌∷◌, ◌≡◌}
use Rattle.std.proofs.lemmas.Bool.{and_parts}

-- ---- what the journal shows

pub record Saw : Type 0 where
  pub book : Book
  pub begun : Bool
  pub last : ℕ → Option ℕ
  pub picks : Picks
  pub put_mark : Bool

abbrev pub seen_of : Saw → Seen
seen_of x = record { scene = scene_of x.book; begun = x.begun; last = x.last; picks = x.picks; put_mark = x.put_mark }

-- What it shows after one more entry, by the store as lists.
abbrev pub saw : Script → Times → Saw → Entry → Saw
saw w k x e = let s = see w k (seen_of x) e in record {
  book = effect_on x.book e.request e.outcome;
  begun = s.begun;
  last = s.last;
  picks =
      s.picks;
  put_mark = s.put_mark;
}

pub scene_by : (w : Script) (k : Times) (s : Seen) (n : ℕ) (r : Request) (a : Actor) (o : Outcome)
    → (see_by w k s n r o a).scene ≡ effect s.scene r o
scene_by w k s n r a o = grind arith

pub sees_by : (w : Script) (k : Times) (x : Saw) (e : Entry) → is_ours e.request ≡ true → see w k (seen_of x) e ≡ seen_of (saw w k x e)
sees_by w k x e h = grind (arith, scene_by, effect_is)

abbrev pub saw_all : Script → Times → Saw → List Entry → Saw
saw_all w k x [] = x
saw_all w k x (e ∷ es) = saw_all w k (saw w k x e) es

pub sees : (w : Script) (k : Times) (x : Saw) (es : List Entry) → are_ours es ≡ true
    → see_all w k (seen_of x) es ≡ seen_of (saw_all w k x es)
sees w k x [] h = refl
sees w k x (e ∷ es) h =
    let p = and_parts (is_ours e.request) _ h in
    ap (λ s. see_all w k s es) (sees_by w k x e p.0) ∙ sees w k (saw w k x e) es p.1

-- What it shows before the first entry.
abbrev pub opens : Book → Saw
opens b = record { book = b; begun = false; last = λ t. None; picks = λ t. None; put_mark = false }

pub opens_is : (b : Book) → nothing_seen (content_of (without_files b)) ≡ seen_of (opens (without_files b))
unfolding map_of content_of
opens_is b = refl

-- ---- a store at the start of a run

pub record Start : Type 0 where
  pub book : Book
  pub content : Content
  pub starts : content_of (without_files book) ≡ content

-- The bucket without objects.
abbrev pub empty_book : Book
empty_book = record { objects = []; uploads = []; next = 1; files = [] }

abbrev pub book_with : List ℕ → Object → Book
book_with k o = record { objects = (k, o) ∷ []; uploads = []; next = 1; files = [] }

pub opening_is : content_of empty_book ≡ opening
unfolding content_of map_of
opening_is = refl

abbrev pub nothing : Start
nothing = record { book = empty_book; content = opening; starts = opening_is }
